pub mod Words
pub mod Files
pub mod Statuses
pub mod Writes
