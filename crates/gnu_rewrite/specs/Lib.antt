pub mod Segments
pub mod Marks
pub mod Symbols
pub mod Parts
pub mod Sizes
pub mod Refusal
