pub mod Runs
pub mod Guarded
