-- What crates above this one use of `elf_image` and don't list, so that the ways down from each crate stay few.
pub use Rattle.elf_image.specs.Image
