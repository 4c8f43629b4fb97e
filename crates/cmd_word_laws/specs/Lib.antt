pub mod Words
pub mod Lines
pub mod Builds
pub mod Answers
pub mod Calls
