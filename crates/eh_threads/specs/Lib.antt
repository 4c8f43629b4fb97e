pub mod Threads
pub mod Starting
pub mod Ending
pub mod Tags
pub mod Elements
pub mod Schedules
pub mod Done
pub mod Laws
