pub mod Schedules
pub mod Tags
pub mod Laws
