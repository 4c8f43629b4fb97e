pub mod Sections
pub mod Names
pub mod Relocations
pub mod Fields
