-- What a decode cache holds: each line is true of the program, whatever the memory holds now.
use Rattle.std.specs.Prelude.{◌≡◌, ℕ, ◌<◌, ◌≤◌, Some, true, slice_index_or}
use Rattle.thumb_isa.specs.Range.{InRange}
use Rattle.thumb_isa.specs.Rows.{decode_result_for}
use Rattle.thumb_core.specs.Step.{instr_of}
use Rattle.sim_machines.specs.Program.{Program, profile_in}
use Rattle.thumb_core.specs.Standing.{HasHalfwords, IsPair}
use Rattle.thumb_core.specs.declared.halfwords.Halfwords.{Halfwords}
use Rattle.eh_bus.specs.Memory.{Memory}
use Rattle.eh_bus.specs.Map.{SameMap}
use Rattle.eh_machine.specs.Passes.{at_of, HasRoles}
use Rattle.eh_machine.specs.declared.decode_cache.TheConstants.{LINES}
use Rattle.eh_machine.specs.declared.decode_cache.CacheLine.{CacheLine}
use Rattle.eh_machine.specs.declared.decode_cache.DecodeCache.{DecodeCache}

-- its halfwords decode to the instruction by the rows of the program's profile, and the line keeps what the checker says of its address
pub record IsOfLine (p : Program) (line : CacheLine) : Type 0 where
  pub pair : IsPair line.halfwords
  pub decoded : instr_of (decode_result_for (profile_in p) line.halfwords.first line.halfwords.second) ≡ Some (at_of line.fetched)
  pub range : InRange line.fetched.instr
  pub roles : HasRoles p line.address line.fetched
  pub begins : line.begins ≡ (p.look line.address).is_function

abbrev pub IsLine : Program → CacheLine → Type 0
IsLine p line = line.is_kept ≡ true → IsOfLine p line

pub record IsCache (p : Program) (cache : DecodeCache) : Type 0 where
  pub lines : (k : ℕ) (d : CacheLine) → k < LINES → IsLine p (slice_index_or cache.lines k d)

-- ---- what was confirmed

-- the halfwords stand at an address in every memory with the same map: the same segments but for the bytes that may be written
pub record StandFast (m : Memory) (a : ℕ) (h : Halfwords) : Type 0 where
  pub always : (m' : Memory) → SameMap m.segments m'.segments → HasHalfwords m' a h

-- what holds of a line, given the current round and the memory
pub record IsOfRound (round : ℕ) (m : Memory) (line : CacheLine) : Type 0 where
  pub within : line.confirmed ≤ round
  pub kept : line.confirmed ≡ round → line.is_kept ≡ true
  pub stands : line.confirmed ≡ round → StandFast m line.address line.halfwords

pub record IsConfirmed (m : Memory) (cache : DecodeCache) : Type 0 where
  pub begun : 0 < cache.round
  pub lines : (k : ℕ) (d : CacheLine) → k < LINES → IsOfRound cache.round m (slice_index_or cache.lines k d)

-- no line is of a later round; this holds whatever the memory
pub record IsCounting (cache : DecodeCache) : Type 0 where
  pub begun : 0 < cache.round
  pub lines : (k : ℕ) (d : CacheLine) → k < LINES → (slice_index_or cache.lines k d).confirmed ≤ cache.round
