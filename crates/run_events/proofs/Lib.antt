pub mod Progress
pub mod RunLaws
