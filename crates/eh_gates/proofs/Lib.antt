pub mod Blocks
pub mod Fifteen
pub mod Sought
pub mod Honest
pub mod Leaving
pub mod Heads
pub mod KeptMap
