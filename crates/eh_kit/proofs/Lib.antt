pub mod Joined
pub mod ProgramLaws
pub mod LineLaws
