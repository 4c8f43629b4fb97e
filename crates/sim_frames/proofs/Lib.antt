pub mod FramePlaces
mod Unwinds
pub mod Outwards
pub mod Sites
pub mod CodeBytes
pub mod Agreement
pub mod FramesSame
pub mod GoesHere
pub mod Landing
pub mod Located
pub mod Clobbers
pub mod Pads
pub mod PadStands
pub mod ReachBySp
pub mod WithinReach
pub mod frame_flow
pub mod sim_relation
