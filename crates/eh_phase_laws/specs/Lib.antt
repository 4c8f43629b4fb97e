pub mod Types
pub mod Pointers
pub mod Catches
pub mod Thrown
pub mod FrameEnds
