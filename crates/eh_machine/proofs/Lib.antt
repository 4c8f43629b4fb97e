pub mod Events
pub mod Saved
pub mod Passing
pub mod Cached
pub mod Confirmed
pub mod Running
mod StartMaps
pub mod Following
pub mod FollowingRuns
pub mod FollowingFlights
pub mod sim_frames
pub mod sim_resumes
pub mod sim_runs
pub mod sim_throws
