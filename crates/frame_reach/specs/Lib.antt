pub mod Marks
pub mod Held
pub mod Prologue
pub mod Search
pub mod Landed
pub mod Laws
pub mod frame_graph
