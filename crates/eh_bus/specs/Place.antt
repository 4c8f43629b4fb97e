-- The segment that holds an access, by its index.
use Rattle.std.specs.Prelude.{◌≡◌, ◌⊎◌, ℕ, ◌<◌, List, length, slice_index_or, slice_set, IsTrue}
use Rattle.eh_bus.specs.Segment.{Segment, holds, number_at, with_number_at}
use Rattle.eh_bus.specs.Memory.{fault_in, number_in, store_number}
use Rattle.eh_bus.specs.declared.fault.BusFault.{BusFault}
use Rattle.std.specs.Prelude.{Option}

-- the first segment that contains the n bytes from a on is the one with index i
pub record IsPlace (n : ℕ) (segments : List Segment) (a i : ℕ) : Type 0 where
  pub inside : i < length segments
  pub holding : (d : Segment) → IsTrue (holds (slice_index_or segments i d) a n)
  pub fault : (d : Segment) (f : Segment → Option BusFault) → fault_in f n segments a ≡ f (slice_index_or segments i d)
  pub number : (d : Segment) → number_in n segments a ≡ number_at n (slice_index_or segments i d) a
  pub change : (d : Segment) (v : ℕ) → store_number n segments a v ≡ slice_set segments i (with_number_at n (slice_index_or segments i d) a v)

-- the sizes of an access
abbrev pub IsWidth : ℕ → Type 0
IsWidth n = (n ≡ 1) ⊎ ((n ≡ 2) ⊎ (n ≡ 4))
