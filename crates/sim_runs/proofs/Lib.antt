mod WalkingGates
mod Fitting
pub mod RunsOn
pub mod OneEvent
pub mod WholeRuns
mod BeyondStays
mod OneReport
pub mod sim_frames
pub mod sim_relation
pub mod sim_resumes
pub mod sim_steps
pub mod sim_throws
