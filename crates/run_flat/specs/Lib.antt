pub mod Machine
pub mod Cached
pub mod Returning
