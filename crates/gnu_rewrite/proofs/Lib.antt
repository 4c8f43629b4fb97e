pub mod Ends
pub mod Marking
pub mod Sizes
pub mod Rising
pub mod Making
