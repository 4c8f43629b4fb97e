pub mod Stored
pub mod Straight
pub mod Counted
