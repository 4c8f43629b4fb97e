pub mod KeptLandings
pub mod ThrowEvents
pub mod ThrowLaws
pub mod sim_frames
