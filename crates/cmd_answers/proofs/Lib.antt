pub mod Answering
pub mod Statuses
pub mod Stops
