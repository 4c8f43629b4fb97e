pub mod Landings
pub mod Refusals
pub mod Throws
pub mod Pointers
pub mod Resumes
pub mod PadEvents
pub mod CallAnswers
