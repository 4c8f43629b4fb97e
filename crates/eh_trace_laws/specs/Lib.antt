pub mod Traces
pub mod Files
