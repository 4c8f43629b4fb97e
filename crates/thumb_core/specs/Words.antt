-- Register lists, and registers loaded from a list of places. Both POP and the unwinding of a frame are such loads.
use Rattle.std.specs.Prelude.{ℕ, ◌+◌, ◌%◌, ◌^◌, ◌==◌, List, [], ◌∷◌, filter, slice_index, Result, Ok, Err}
use Rattle.std.specs.Int.{bit_at}
use Rattle.eh_bus.specs.Segment.{Segment}
use Rattle.eh_bus.specs.Memory.{load_number}
use Rattle.eh_bus.specs.declared.fault.BusFault.{BusFault}
use Rattle.thumb_core.specs.Registers.{write_register}

-- the numbers of the registers
abbrev pub numbers : List ℕ
numbers = 0 ∷ 1 ∷ 2 ∷ 3 ∷ 4 ∷ 5 ∷ 6 ∷ 7 ∷ 8 ∷ 9 ∷ 10 ∷ 11 ∷ 12 ∷ 13 ∷ 14 ∷ 15 ∷ []

-- the registers of a mask, the lowest first: bit k stands for register k
unfoldable pub registers_of_list : ℕ → List ℕ
registers_of_list mask = filter (λ k. bit_at mask k == 1) numbers

-- the words of these registers
abbrev pub words_in : List ℕ → List ℕ → List ℕ
words_in r [] = []
words_in r (k ∷ more) = slice_index r k ∷ words_in r more

-- a register to load, and the offset in bytes of its word from a base
pub record Load : Type 0 where
  pub reg : ℕ
  pub at : ℕ

-- loads of registers from consecutive words, the first at an offset
abbrev pub loads_from : ℕ → List ℕ → List Load
loads_from at [] = []
loads_from at (k ∷ more) = record { reg = k; at = at } ∷ loads_from (at + 4) more

infixl 10 ◌>>=◌
-- goes on with an Ok
abbrev pub ◌>>=◌ : {A C : Type 0} → Result A BusFault → (A → Result C BusFault) → Result C BusFault
(Ok x) >>= f = f x
(Err e) >>= f = Err e

-- the registers with the words loaded in order, or the first fault
abbrev pub load_words : List Segment → ℕ → List Load → List ℕ → Result (List ℕ) BusFault
load_words segments base [] r = Ok r
load_words segments base (w ∷ more) r =
    load_number 4 segments ((base + w.at) % 2 ^ 32) >>= λ x. load_words segments base more (write_register r w.reg x)
