-- The halfwords from which an instruction at an address is decoded (DDI 0419: a first halfword from 0xE800 on begins a
-- 32-bit encoding).
use Rattle.std.specs.Prelude.{◌≡◌, ℕ, ◌+◌, ◌%◌, ◌^◌, nat_le, false, Ok, if◌then◌else◌}
use Rattle.eh_bus.specs.Memory.{Memory, fetch}
use Rattle.thumb_core.specs.declared.halfwords.Halfwords.{Halfwords}

-- memory has these halfwords at an address; the second is 0 unless a 32-bit encoding begins there
pub record HasHalfwords (m : Memory) (a : ℕ) (h : Halfwords) : Type 0 where
  pub first : fetch m a ≡ Ok h.first
  pub second : (if nat_le 0xe800 h.first then fetch m ((a + 2) % 2 ^ 32) else Ok 0) ≡ Ok h.second

-- the second is 0 unless the first begins a 32-bit encoding
abbrev pub IsPair : Halfwords → Type 0
IsPair h = nat_le 0xe800 h.first ≡ false → h.second ≡ 0
