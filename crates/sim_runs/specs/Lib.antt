pub mod Turned
pub mod Beyond
pub mod OneReport
pub mod sim_frames
pub mod sim_relation
pub mod sim_resumes
