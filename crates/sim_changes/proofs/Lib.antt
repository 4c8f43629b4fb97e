mod Memories
mod Frees
mod Starting
pub mod Forced
mod Barred
pub mod sim_steps
