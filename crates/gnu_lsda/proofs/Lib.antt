pub mod Digits
pub mod NumberEnds
pub mod SegmentEnds
pub mod Listing
pub mod Chaining
pub mod Signs
pub mod Bounds
pub mod FirstFault
