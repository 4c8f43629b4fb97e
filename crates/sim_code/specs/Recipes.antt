-- What a recipe of unwinding codes says of registers, over a memory; and the recipes that codes of bytes have: no register is popped twice,
-- and words lie at multiples of 4.
use Rattle.std.specs.Prelude.{ℕ, ◌^◌, ◌<◌, List, [], ◌∷◌, ◌≡◌, ℤ, Ok, slice_index, length, cond, slice_index_or, ◌+◌, ◌%◌, pos, negsuc}
use Rattle.eh_word.specs.Words.{plus_offset}
use Rattle.eh_bus.specs.Segment.{Segment}
use Rattle.eh_bus.specs.Memory.{load_number}
use Rattle.eh_bytecode.specs.declared.recipe.Src.{Src}
use Rattle.eh_bytecode.specs.declared.recipe.Src.TheVariants.{Same, FromSp, FromBase}
use Rattle.thumb_core.specs.Registers.{word_in}
use Rattle.eh_bytecode.specs.declared.recipe.Recipe.{Recipe}
use Rattle.eh_bytecode.specs.Recipe.{is_same, recipe}
use Rattle.eh_bus.specs.Lists.{Has}
use Rattle.eh_cxa.specs.Lists.{Once}
use Rattle.eh_codes.specs.Cut.{Item}
use Rattle.eh_bytecode.specs.Once.{popped_registers}

abbrev pub Bytes : List ℕ → Type 0
Bytes [] = Unit {0}
Bytes (b ∷ more) = (b < 2 ^ 8) × Bytes more

abbrev pub Loadable : List Segment → ℕ → ℤ → Type 0
Loadable m place offset = (w : ℕ) × (load_number 4 m (plus_offset place offset) ≡ Ok w)

abbrev pub CanRead : List Segment → List ℕ → ℕ → Src → Type 0
CanRead m old base Same = Unit {0}
CanRead m old base (FromSp o) = Loadable m (slice_index old 13) o
CanRead m old base (FromBase o) = Loadable m (slice_index old base) o

pub record AreRegisters (r : List ℕ) : Type 0 where
  pub count : length r ≡ 16
  pub small : (k : ℕ) → slice_index r k < 2 ^ 32

-- register k holds the word at an offset from an address
abbrev pub HoldsWord : List Segment → ℕ → ℤ → ℕ → ℕ → Type 0
HoldsWord m place offset k v = (w : ℕ) × (load_number 4 m (plus_offset place offset) ≡ Ok w) × (v ≡ word_in k w)

abbrev pub Says : List Segment → List ℕ → ℕ → ℕ → Src → ℕ → Type 0
Says m old base k Same v = v ≡ slice_index old k
Says m old base k (FromSp o) v = HoldsWord m (slice_index old 13) o k v
Says m old base k (FromBase o) v = HoldsWord m (slice_index old base) o k v

-- what unwinding gives: each register as its source says, sp from the base, and pc as its source says; a pc that is its own source gets lr
pub record Gives (m : List Segment) (old : List ℕ) (of : Recipe) (new : List ℕ) : Type 0 where
  pub registers : (k : ℕ) → k < 15 → (k ≡ 13 → ⊥) → Says m old of.base k (slice_index_or of.src k Same) (slice_index new k)
  pub sp : slice_index new 13 ≡ plus_offset (slice_index old of.base) of.vsp
  pub pc : Says m old of.base (cond (is_same (slice_index_or of.src 15 Same)) 14 15) (slice_index_or of.src 15 Same) (slice_index new 15)

abbrev pub IsQuad : ℤ → Type 0
IsQuad (pos n) = n % 4 ≡ 0
IsQuad (negsuc n) = (n + 1) % 4 ≡ 0

-- a recipe of codes: no register is popped twice, sp is never popped, and words lie at multiples of 4
pub record IsRecipe (items : List Item) (r : Recipe) : Type 0 where
  pub is : recipe items ≡ Ok r
  pub once : Once (popped_registers items)
  pub low : (k : ℕ) → Has (popped_registers items) k → k < 16
  pub sp : slice_index_or r.src 13 Same ≡ Same
  pub base : r.base < 15
  pub from_sp : (k : ℕ) (o : ℤ) → slice_index_or r.src k Same ≡ FromSp o → IsQuad o
  pub from_base : (k : ℕ) (o : ℤ) → slice_index_or r.src k Same ≡ FromBase o → IsQuad o
  pub vsp : IsQuad r.vsp
