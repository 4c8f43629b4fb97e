-- Words stored upwards, as PUSH and STM store them, in terms of single word stores (docs/rules/memory.md, "Faults").
use Rattle.std.specs.Prelude.{◌≡◌, ℕ, ◌+◌, ◌*◌, ◌%◌, ◌^◌, ◌<◌, List, length, slice_index, Ok, Err}
use Rattle.eh_bus.specs.Memory.{Memory, store, store_run}
use Rattle.eh_bus.specs.declared.fault.BusFault.{BusFault}

-- the address of the k-th word stored from a on; addresses wrap at 2 ^ 32
abbrev pub word_address : ℕ → ℕ → ℕ
word_address a k = (a + 4 * k) % 2 ^ 32

-- each of the first k words could be stored alone
abbrev pub CanStore : Memory → ℕ → List ℕ → ℕ → Type 0
CanStore m a words k = (j : ℕ) → j < k → (store 4 m (word_address a j) (slice_index words j)).0 ≡ Ok tt

-- the fault of the first word that can't be stored is that of all, and none is stored
abbrev pub RunsStopAtTheirFirst : Type 0
RunsStopAtTheirFirst =
    (m : Memory) (a : ℕ) (words : List ℕ) (k : ℕ) (why : BusFault) → a < 2 ^ 32 → k < length words → CanStore m a words k
    → (store 4 m (word_address a k) (slice_index words k)).0 ≡ Err why → store_run m a words ≡ (Err why, m)

-- where there is none, all are stored
abbrev pub RunsAreDone : Type 0
RunsAreDone = (m : Memory) (a : ℕ) (words : List ℕ) → a < 2 ^ 32 → CanStore m a words (length words) → (store_run m a words).0 ≡ Ok tt

pub record RefusalsChangeNothing : Type 0 where
  pub store : (m new : Memory) (n a v : ℕ) (why : BusFault) → store n m a v ≡ (Err why, new) → new ≡ m
  pub run : (m new : Memory) (a : ℕ) (words : List ℕ) (why : BusFault) → store_run m a words ≡ (Err why, new) → new ≡ m
