pub mod Stubs
pub mod Program
pub mod ProgramText
pub mod Laws
