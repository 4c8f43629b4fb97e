pub mod Frames
pub mod Landings
pub mod LandingLaws
pub mod frame_flow
pub mod frame_graph
pub mod sim_relation
