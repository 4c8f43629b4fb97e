pub mod Free
pub mod FactLaws
pub mod Barriers
