-- How a store is undone: by storing the numbers that loads gave before it.
use Rattle.std.specs.Prelude.{◌≡◌, ℕ, ◌+◌, ◌*◌, ◌<◌, List, length, slice_index, Ok}
use Rattle.eh_bus.specs.Memory.{Memory, load, store, store_run, host_load, host_store}

-- a store of n bytes at a made the memory new from old
pub record Undoable (n : ℕ) (old : Memory) (a : ℕ) (new : Memory) : Type 0 where
  -- what it overwrote could be loaded
  pub loads : (v : ℕ) × (load n old a ≡ Ok v)
  -- and a store of that number gives the old memory
  pub back : (v : ℕ) → load n old a ≡ Ok v → store n new a v ≡ (Ok tt, old)

-- and so does the host's own store of the word that the host read before
pub record WordUndoable (old : Memory) (a : ℕ) (new : Memory) : Type 0 where
  pub store : Undoable 4 old a new
  pub host : host_store new a (host_load old a) ≡ old

-- n words stored upwards from a on made the memory new from old
pub record RunUndoable (n : ℕ) (old : Memory) (a : ℕ) (new : Memory) : Type 0 where
  -- each overwritten word could be loaded
  pub loads : (i : ℕ) → i < n → (v : ℕ) × (load 4 old (a + 4 * i) ≡ Ok v)
  -- and a run of these words gives the old memory
  pub back :
      (words : List ℕ) → length words ≡ n
      → ((i : ℕ) → i < n → load 4 old (a + 4 * i) ≡ Ok (slice_index words i))
      → store_run new a words ≡ (Ok tt, old)
