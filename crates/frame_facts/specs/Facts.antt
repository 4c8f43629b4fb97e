-- Facts: what is known of a function's registers and stack at a place, and what two facts have in common.
use Rattle.std.specs.Prelude.{ℕ, ◌≡◌, ◌≤◌, ◌+◌, ◌&&◌, ◌||◌, ◌==◌, ◌⊎◌, min, Bool, true, false, IsTrue, List, [], ◌∷◌, length, Option, Some, None, slice_index_or, slice_set, nat_lt, nat_le, if◌then◌else◌, ℤ, pos, negsuc, ◌+ℤ◌, ◌-ℤ◌}
use Rattle.std.specs.List.{sum_by}
use Rattle.std.specs.Option.{option_map_or}
use Rattle.frame_facts.specs.declared.facts.Source.{Source}
use Rattle.frame_facts.specs.declared.facts.Source.TheVariants.{Entry, SpAt, Other}
use Rattle.frame_facts.specs.declared.facts.Fact.{Fact}
use Rattle.frame_facts.specs.declared.facts.TheConstants.{DEEPEST}

-- the index of a register in a fact's sources: r0 to r12 and then lr; sp and pc are past the end
abbrev pub slot : ℕ → ℕ
slot reg = if nat_lt reg 13 then reg else (if reg == 14 then 13 else 14)

-- what a register holds
abbrev pub source : Fact → ℕ → Source
source f reg = slice_index_or f.regs (slot reg) Other

-- a register holds something else
abbrev pub with_source : Fact → ℕ → Source → Fact
with_source f reg s = record f { regs = slice_set f.regs (slot reg) s }

-- at the entry nothing is on the stack, and each register has its own value
abbrev pub entry_fact : Fact
entry_fact = record {
  depth = 0;
  below = false;
  kept = 0;
  regs = Entry 0 ∷ Entry 1 ∷ Entry 2 ∷ Entry 3 ∷ Entry 4 ∷ Entry 5 ∷ Entry 6 ∷ Entry 7 ∷ Entry 8 ∷ Entry 9 ∷ Entry 10 ∷ Entry 11 ∷ Entry 12 ∷ Entry 14 ∷ [];
}

-- a number of bytes below the CFA, where it is one
abbrev pub bounded_depth : ℤ → Option ℕ
bounded_depth (pos n) = if nat_le n DEEPEST then Some n else None
bounded_depth (negsuc n) = None

-- the CFA minus so many bytes
abbrev pub sp_at : ℤ → Source
sp_at offset = option_map_or SpAt (bounded_depth offset) Other

-- sp plus an offset
abbrev pub sp_plus : Fact → ℤ → Source
sp_plus f offset = if f.below then Other else sp_at (pos f.depth -ℤ offset)

-- a value raised, or lowered, by so many bytes
abbrev pub offset_source : Bool → ℕ → Source → Source
offset_source sub by (SpAt offset) = sp_at (if sub then pos offset +ℤ pos by else pos offset -ℤ pos by)
offset_source sub by (Entry k) = Other
offset_source sub by Other = Other

abbrev pub is_entry : ℕ → Source → Bool
is_entry reg (Entry k) = k == reg
is_entry reg (SpAt offset) = false
is_entry reg Other = false

-- nothing is known of a register
abbrev pub forget_register : ℕ → Fact → Fact
forget_register reg f = with_source f reg Other

-- nothing is known of these registers
abbrev pub forget_registers : List ℕ → Fact → Fact
forget_registers [] f = f
forget_registers (reg ∷ more) f = forget_registers more (forget_register reg f)

-- an output that is only written if the test holds
abbrev pub some_if : {X : Type 0} → Bool → X → Option X
some_if true x = Some x
some_if false x = None

-- ---- what two facts have in common

abbrev pub same_source : Source → Source → Bool
same_source (Entry m) (Entry n) = m == n
same_source (SpAt m) (SpAt n) = m == n
same_source Other Other = true
same_source a b = false

abbrev pub met_source : Source → Source → Source
met_source a b = if same_source a b then a else Other

unfoldable pub met_sources : List Source → List Source → List Source
met_sources [] ys = []
met_sources (x ∷ xs) [] = Other ∷ met_sources xs []
met_sources (x ∷ xs) (y ∷ ys) = met_source x y ∷ met_sources xs ys

unfoldable pub same_sources : List Source → List Source → Bool
same_sources [] [] = true
same_sources [] (y ∷ ys) = false
same_sources (x ∷ xs) [] = false
same_sources (x ∷ xs) (y ∷ ys) = same_source x y && same_sources xs ys

abbrev pub same_bool : Bool → Bool → Bool
same_bool true b = b
same_bool false true = false
same_bool false false = true

abbrev pub same_fact : Fact → Fact → Bool
same_fact a b = (a.depth == b.depth) && same_bool a.below b.below && (a.kept == b.kept) && same_sources a.regs b.regs

-- if the depths are equal: below if one is, the smaller number of saves, and the sources that are equal
abbrev pub join_of : Fact → Fact → Option Fact
join_of a b =
    if a.depth == b.depth then Some (record { depth = a.depth; below = a.below || b.below; kept = min a.kept b.kept; regs = met_sources a.regs b.regs })
    else None

-- ---- how vague a fact is

-- the second is the same source, or nothing is known
abbrev pub IsVaguer : Source → Source → Type 0
IsVaguer s t = (s ≡ t) ⊎ (t ≡ Other)

-- a is at most as vague as b. The depths are equal, a isn't below unless b is, a keeps at least as many saves, and each source of b is
-- a's or unknown.
pub record IsAtMost (a b : Fact) : Type 0 where
  pub depth : a.depth ≡ b.depth
  pub below : IsTrue a.below → IsTrue b.below
  pub kept : b.kept ≤ a.kept
  pub long : length a.regs ≡ length b.regs
  pub regs : (k : ℕ) → IsVaguer (slice_index_or a.regs k Other) (slice_index_or b.regs k Other)

abbrev pub source_height : Source → ℕ
source_height (Entry n) = 1
source_height (SpAt n) = 1
source_height Other = 0

-- how much is known: the kept saves, the known sources, and whether sp is exactly at the depth
unfoldable pub height : Fact → ℕ
height f = f.kept + (if f.below then 0 else 1) + sum_by source_height f.regs

-- a property of every state: the depth is in range, and no more saves are kept than there are
pub record IsFit (count : ℕ) (f : Fact) : Type 0 where
  pub depth : f.depth ≤ DEEPEST
  pub kept : f.kept ≤ count
  pub long : length f.regs ≡ 14
