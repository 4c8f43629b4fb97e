pub mod Ends
pub mod Gates
pub mod Given
pub mod Runs
