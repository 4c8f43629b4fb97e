pub mod Trace
pub mod Text
