pub mod Placing
pub mod Start
pub mod Profiles
pub mod run_gates
pub mod thumb_core
