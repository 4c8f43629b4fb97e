pub mod Seeing
pub mod Stores
pub mod Runs
mod Noting
mod Freeing
mod Guarding
mod Switching
mod Entering
