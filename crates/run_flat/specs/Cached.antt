-- What the decode cache of a run of raw code holds: each line has an instruction to which its halfwords decode,
-- whatever the memory holds now.
use Rattle.std.specs.Prelude.{◌≡◌, ℕ, ◌<◌, Option, Some, None, slice_index_or}
use Rattle.eh_bus.specs.Memory.{Memory}
use Rattle.thumb_isa.specs.Range.{InRange}
use Rattle.thumb_isa.specs.Rows.{decode_result}
use Rattle.thumb_isa.specs.declared.instr.Instr.{Instr}
use Rattle.thumb_core.specs.Step.{instr_at, instr_of}
use Rattle.thumb_core.specs.Standing.{IsPair}
use Rattle.run_flat.specs.declared.decode_cache.TheConstants.{LINES}
use Rattle.run_flat.specs.declared.decode_cache.RawCacheLine.{RawCacheLine}
use Rattle.run_flat.specs.declared.decode_cache.RawDecodeCache.{RawDecodeCache}

-- the instruction at an address, with fields in range
pub record IsInstrAt (m : Memory) (a : ℕ) (i : Instr) (size : ℕ) : Type 0 where
  pub there : instr_at m a ≡ Some (i, size)
  pub range : InRange i

-- its halfwords are the instruction
pub record IsOfLine (line : RawCacheLine) : Type 0 where
  pub pair : IsPair line.halfwords
  pub decoded : instr_of (decode_result line.halfwords.first line.halfwords.second) ≡ Some (line.instr, line.size)
  pub range : InRange line.instr

abbrev pub IsLine : Option RawCacheLine → Type 0
IsLine None = Unit {0}
IsLine (Some line) = IsOfLine line

pub record IsCache (cache : RawDecodeCache) : Type 0 where
  pub lines : (k : ℕ) → k < LINES → IsLine (slice_index_or cache.lines k None)
