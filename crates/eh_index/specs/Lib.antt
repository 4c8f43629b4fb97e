pub mod Rows
pub mod Places
pub mod Refusal
pub mod Covering
pub mod Laws
pub mod FaultNames
pub mod eh_codes
pub mod elf_image
