pub mod After
pub mod Bounds
pub mod Handler
pub mod CleanupEntered
pub mod CleanupKeeps
pub mod EndsKeep
pub mod ThrowLands
pub mod Landable
mod Barriers
pub mod ThrowGates
pub mod ThrowReached
pub mod FramesAfter
mod CleanupReach
pub mod ThrowKeeps
mod Flights
mod FlightLands
mod CleanupLands
pub mod ThrowLeaves
pub mod sim_frames
