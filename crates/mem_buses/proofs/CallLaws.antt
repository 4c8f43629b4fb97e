-- The laws of the calls of a bus, from the equation that each call has.
use Rattle.std.proofs.Common.{◌≡◌, ℕ, ◌%◌, ◌^◌, ◌<◌, ◌≤◌, List, length, Result, Ok, Err, refl, sym, arith}
use Rattle.std.specs.Prelude.{IfOk}
use Rattle.eh_bus.specs.Memory.{Memory, store, store_run, host_load, host_store}
use Rattle.eh_bus.specs.Map.{IsMap, Keeps, flat_home}
use Rattle.eh_bus.specs.Undo.{Undoable, WordUndoable, RunUndoable}
use Rattle.mem_buses.specs.Flat.{memory_of}
use Rattle.mem_buses.specs.Paged.{memory_of as paged}
use Rattle.mem_buses.specs.declared.paged.PagedBus.{PagedBus}
use Rattle.eh_bus.specs.declared.fault.BusFault.{BusFault}
use Rattle.mem_buses.specs.declared.flat.FlatBus.{FlatBus}
use Rattle.eh_bus.specs.declared.map.TheConstants.{POOL_START, POOL_END}
use Rattle.eh_bus.proofs.AccessLaws.{store_only, store_refused, run_done, run_refused}
use Rattle.eh_bus.proofs.MapLaws.{keeps, map_refl, store_map, run_map}
use Rattle.eh_bus.proofs.PartLaws.{host_map}
use Rattle.eh_bus.proofs.UndoLaws.{store_undoable, word_undoable, run_undoable, host_undone}

pub flat_map : (bus : FlatBus) → IsMap (memory_of bus)
flat_map bus = record { segments = bus.mapped; guards = bus.rising; home = flat_home }

pub paged_map : (bus : PagedBus) → IsMap (paged bus)
paged_map bus = record { segments = bus.mapped; guards = bus.rising; home = flat_home }

pub undone : (n : ℕ) (r : Result (Unit {0}) BusFault) (m m' : Memory) (a v : ℕ) → IsMap m → (r, m') ≡ store n m a v → IfOk r (λ _. Undoable n m a m')
undone n (Ok tt) m m' a v x e = store_undoable n m a v m' x (sym e)
undone n (Err f) m m' a v x e = tt

pub word_undone : (r : Result (Unit {0}) BusFault) (m m' : Memory) (a v : ℕ) → IsMap m → (r, m') ≡ store 4 m a v → IfOk r (λ _. WordUndoable m a m')
word_undone (Ok tt) m m' a v x e = word_undoable m a v m' x (sym e)
word_undone (Err f) m m' a v x e = tt

pub run_undone : (r : Result (Unit {0}) BusFault) (m m' : Memory) (a : ℕ) (ws : List ℕ) → a < 2 ^ 32 → IsMap m → (r, m') ≡ store_run m a ws → IfOk r (λ _. RunUndoable (length ws) m a m')
run_undone (Ok tt) m m' a ws l x e = run_undoable m a ws m' l x (sym e)
run_undone (Err f) m m' a ws l x e = tt

same_keeps : (m : Memory) → Keeps m m
same_keeps m = keeps m m (map_refl m.segments) refl

pub store_keeps_map : (n : ℕ) (r : Result (Unit {0}) BusFault) (m m' : Memory) (a v : ℕ) → (r, m') ≡ store n m a v → Keeps m m'
store_keeps_map n (Ok tt) m m' a v e = keeps m m' (store_map n m a v m' (sym e)) (let o = store_only n m a v m' (sym e) in rw o refl)
store_keeps_map n (Err f) m m' a v e = let o = store_refused n m a v f m' (sym e) in rw o (same_keeps m)

pub run_keeps_map : (r : Result (Unit {0}) BusFault) (m m' : Memory) (a : ℕ) (ws : List ℕ) → (r, m') ≡ store_run m a ws → Keeps m m'
run_keeps_map (Ok tt) m m' a ws e = keeps m m' (run_map m a ws m' (sym e)) (let o = run_done m a ws m' (sym e) in rw o refl)
run_keeps_map (Err f) m m' a ws e = let o = run_refused m a ws f m' (sym e) in rw o (same_keeps m)

pub host_undone_by : (m m' : Memory) (a v : ℕ) → IsMap m → a % 4 ≡ 0 → POOL_START ≤ a → a < POOL_END → m' ≡ host_store m a v → host_store m' a (host_load m a) ≡ m
host_undone_by m m' a v x e l h s = rw s (host_undone m a v x e l h)

pub host_keeps_map : (m m' : Memory) (a v : ℕ) → IsMap m → a % 4 ≡ 0 → POOL_START ≤ a → a < POOL_END → m' ≡ host_store m a v → Keeps m m'
host_keeps_map m m' a v x e l h s = rw s (keeps m (host_store m a v) (host_map m a v x.segments l (omega arith)) refl)

-- guards lie beside the segments
pub guards_keep_map : (m : Memory) (guards : List ℕ) → Keeps m (record m { guards = guards })
guards_keep_map m guards = keeps m (record m { guards = guards }) (map_refl m.segments) refl
