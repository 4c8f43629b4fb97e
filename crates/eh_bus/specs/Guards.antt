-- The guarded words of the stack: addresses of words, strictly ascending.
use Rattle.std.specs.Prelude.{◌≡◌, ℕ, ◌+◌, ◌%◌, ◌≤◌, ◌==◌, nat_lt, List, [], ◌∷◌, if◌then◌else◌}
use Rattle.std.specs.Coded.{×_prop, le_prop, Coded-set, coded_ℕ}
use Rattle.eh_bus.specs.declared.map.TheConstants.{STACK_END, STACK_START}

-- with the word at a
abbrev pub insert_sorted : ℕ → List ℕ → List ℕ
insert_sorted a [] = a ∷ []
insert_sorted a (g ∷ more) = if nat_lt g a then g ∷ insert_sorted a more else (if g == a then g ∷ more else a ∷ g ∷ more)

-- with all of these words inserted, the last one first
abbrev pub insert_all : List ℕ → List ℕ → List ℕ
insert_all [] guards = guards
insert_all (a ∷ more) guards = insert_sorted a (insert_all more guards)

-- ascending, non-overlapping words from low on, up to the end of the stack
abbrev pub RiseFrom : ℕ → List ℕ → Type 0
RiseFrom low [] = low ≤ STACK_END
RiseFrom low (g ∷ more) = (low ≤ g) × ((g % 4 ≡ 0) × RiseFrom (g + 4) more)

-- words of the stack, strictly rising
abbrev pub AreGuards : List ℕ → Type 0
AreGuards guards = RiseFrom STACK_START guards

RiseFrom-prop : (low : ℕ) (guards : List ℕ) → IsProp (RiseFrom low guards)
RiseFrom-prop low [] = le_prop
RiseFrom-prop low (g ∷ more) = ×_prop le_prop (×_prop (Coded-set coded_ℕ _ _) (RiseFrom-prop (g + 4) more))

pub AreGuards-prop : (guards : List ℕ) → IsProp (AreGuards guards)
AreGuards-prop guards = RiseFrom-prop STACK_START guards
