pub mod Homes
pub mod Seen
pub mod Owners
pub mod Laws
