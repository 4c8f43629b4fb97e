pub mod Forced
pub mod Laws
pub mod Reaching
pub mod Sites
pub mod Stops
pub mod Text
pub mod Walks
