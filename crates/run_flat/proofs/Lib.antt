pub mod Turns
pub mod Cached
