mod Resumed
mod Resuming
mod Staying
mod ResumeChanges
mod ResumedPads
mod ResumedStands
mod ResumedFrames
mod ResumeLands
mod ResumeEnds
pub mod ResumeMatches
mod ResumeFits
mod Entering
mod EnteringKeeps
pub mod ResumeKeeps
mod Ending
mod FlyLands
mod FlyKeeps
pub mod FlyFrom
pub mod sim_frames
pub mod sim_steps
pub mod sim_throws
