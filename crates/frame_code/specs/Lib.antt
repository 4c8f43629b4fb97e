pub mod Standing
pub mod Branches
pub mod Lowering
pub mod elf_image
