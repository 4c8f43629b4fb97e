pub mod Outside
pub mod ResumeLaws
pub mod EndEvents
pub mod Flying
pub mod sim_frames
