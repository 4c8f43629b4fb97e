-- One function of an image.
use Rattle.std.specs.Prelude.{ℕ}
use Rattle.elf_image.specs.Image.{Image}

-- a function, by its first address and the first one after it, in an image whose index was read
pub record FlowGraph : Type 0 where
  pub image : Image
  pub start : ℕ
  pub end : ℕ
