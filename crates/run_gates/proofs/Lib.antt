mod Inputs
pub mod Loops
