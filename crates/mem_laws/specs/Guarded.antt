-- The promises of guards (docs/rules/memory.md, "Faults", "Guards").
use Rattle.std.specs.Prelude.{◌≡◌, ℕ, ◌+◌, ◌%◌, ◌^◌, ◌<◌, ◌≤◌, List, length, Ok, Err}
use Rattle.eh_bus.specs.Lists.{Has}
use Rattle.eh_bus.specs.Map.{IsMap}
use Rattle.eh_bus.specs.Memory.{Memory, load, store, store_run}
use Rattle.eh_bus.specs.Place.{IsWidth}
use Rattle.eh_bus.specs.declared.fault.BusFault.TheVariants.{SavedSlot}
use Rattle.mem_laws.specs.Runs.{word_address, CanStore}

-- the n bytes from a on touch the word at g
abbrev pub Reaches : ℕ → ℕ → ℕ → Type 0
Reaches n a g = (i : ℕ) × (i < n) × (g ≤ a + i) × (a + i < g + 4)

abbrev pub StoresAreRefused : Type 0
StoresAreRefused =
    (m : Memory) (n a v g : ℕ) → IsMap m → IsWidth n → a % n ≡ 0 → Has m.guards g → Reaches n a g → store n m a v ≡ (Err (SavedSlot g), m)

-- the words before the guarded one could be stored; those after it don't matter
abbrev pub RunsAreRefused : Type 0
RunsAreRefused =
    (m : Memory) (a : ℕ) (words : List ℕ) (k : ℕ) → IsMap m → a < 2 ^ 32 → k < length words → CanStore m a words k → Has m.guards (word_address a k)
    → store_run m a words ≡ (Err (SavedSlot (word_address a k)), m)

abbrev pub OnlyGuardsRefuse : Type 0
OnlyGuardsRefuse =
    (m : Memory) (n a v g : ℕ) → IsWidth n → (store n m a v).0 ≡ Err (SavedSlot g) → Has m.guards g × Reaches n a g

-- the guarded words of another memory have the same values here, and the same words are guarded
pub record StayGuarded (m new : Memory) : Type 0 where
  pub words : (g : ℕ) → Has m.guards g → load 4 new g ≡ load 4 m g
  pub guards : new.guards ≡ m.guards

pub record GuardedWordsStay : Type 0 where
  pub store : (m new : Memory) (n a v : ℕ) → store n m a v ≡ (Ok tt, new) → StayGuarded m new
  pub run : (m new : Memory) (a : ℕ) (words : List ℕ) → store_run m a words ≡ (Ok tt, new) → StayGuarded m new
