mod Sources
pub mod Folding
pub mod Reading
pub mod Results
mod Codes
pub mod CodesAre
mod Counter
pub mod Places
pub mod Fetch
mod RowBounds
pub mod Bounded
pub mod Entries
pub mod Finds
pub mod frame_flow
