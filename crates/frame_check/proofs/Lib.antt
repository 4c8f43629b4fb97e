pub mod Tables
pub mod Counting
pub mod Marked
pub mod Lines
pub mod Images
mod Reading
pub mod Wells
pub mod Naming
pub mod Judging
pub mod Walking
pub mod Saving
pub mod Entries
pub mod Lowerings
mod Bytes
pub mod frame_flow
pub mod frame_graph
pub mod frame_reach
