-- Words of the pool, in memory and as a function.
use Rattle.std.proofs.Common.{◌≡◌, ℕ, ◌+◌, ◌*◌, ◌^◌, ◌<◌, Bool, true, false, ◌&&◌, ◌==◌, cond, List, [], ◌∷◌, Some, None, Ok, not, ◌%◌, refl, ◌∙◌, arith}
use Rattle.std.proofs.lemmas.Bool.Decides.{nat_tests}
use Rattle.eh_bus.specs.Segment.{Segment}
use Rattle.eh_bus.specs.declared.fault.BusFault.TheVariants.{Protected}
use Rattle.eh_bus.specs.Memory.{Memory, load, load_fault, fault_in, is_closed, is_open_word, host_load, host_store}
use Rattle.eh_bus.specs.Map.{IsMap}
use Rattle.eh_bus.proofs.PartLaws.{parts, pool_fault, host_back, host_other}
use Rattle.eh_bus.proofs.MapLaws.{host_is_map}
use Rattle.eh_cxa.specs.declared.layout.TheConstants.{SLOTS, SLOT_WORDS, BARRIER_POINTER}
use Rattle.eh_bus.specs.declared.map.TheConstants.{POOL_START, SLOT_SIZE}
use Rattle.eh_cxa.specs.Words.{block_slot, object_slot, block, object, word, set_slot_word, Pool, Write, with_word, with_all, set_slot_words}

pub slot_small : (a s : ℕ) → block_slot a ≡ Some s → s < SLOTS
unfolding block_slot
slot_small a s e = grind (arith, nat_tests)

pub slot_block : (a s : ℕ) → block_slot a ≡ Some s → a ≡ block s
unfolding block_slot
slot_block a s e = grind (arith, nat_tests)

pub slot_of_block_is : (s : ℕ) → s < SLOTS → block_slot (block s) ≡ Some s
unfolding block_slot
slot_of_block_is s h = grind (arith, nat_tests)

pub object_small : (a s : ℕ) → object_slot a ≡ Some s → s < SLOTS
unfolding object_slot
object_small a s e = grind (arith, nat_tests)

pub object_is : (a s : ℕ) → object_slot a ≡ Some s → a ≡ object s
unfolding object_slot
object_is a s e = grind (arith, nat_tests)

pub slot_of_object_is : (s : ℕ) → s < SLOTS → object_slot (object s) ≡ Some s
unfolding object_slot
slot_of_object_is s h = grind (arith, nat_tests)

pub block_slot_zero : block_slot 0 ≡ None
unfolding block_slot
block_slot_zero = refl

-- ---- the writes of a call are of words within the pool

abbrev pub AllFit : List Write → Type 0
AllFit [] = Unit {0}
AllFit (x ∷ more) = ((x.slot < SLOTS) × (x.place < SLOT_WORDS) × (x.value < 2 ^ 32)) × AllFit more

-- w holds the words of m
abbrev pub Agrees : Pool → Memory → Type 0
Agrees w m = (s k : ℕ) → s < SLOTS → k < SLOT_WORDS → word m s k ≡ w s k

put_agrees : (w : Pool) (m : Memory) (x : Write) → IsMap m → x.slot < SLOTS → x.place < SLOT_WORDS → x.value < 2 ^ 32 → Agrees w m → Agrees (with_word w x) (set_slot_word m x.slot x.place x.value)
unfolding word set_slot_word
put_agrees w m x map l h v a s k sl kh = by_cases (k == x.place) refl (s == x.slot) refl
  where
    at : ℕ → ℕ → ℕ
    at s k = POOL_START + SLOT_SIZE * s + 4 * k

    by_cases : (b : Bool) → (k == x.place) ≡ b → (c : Bool) → (s == x.slot) ≡ c
        → host_load (host_store m (POOL_START + SLOT_SIZE * x.slot + 4 * x.place) x.value) (POOL_START + SLOT_SIZE * s + 4 * k) ≡ cond (b && c) x.value (w s k)
    by_cases true p true q =
        let e : k ≡ x.place = grind (arith, nat_tests) in
        let f : s ≡ x.slot = grind (arith, nat_tests) in
        rw (e, f) (host_back m _ x.value map.segments (omega arith) (omega arith) v)
    by_cases true p false q =
        host_other m _ x.value _ (grind (arith, nat_tests)) ∙ a s k sl kh
    by_cases false p true q =
        host_other m _ x.value _ (grind (arith, nat_tests)) ∙ a s k sl kh
    by_cases false p false q =
        host_other m _ x.value _ (grind (arith, nat_tests)) ∙ a s k sl kh

pub put_is_map : (m : Memory) (s k v : ℕ) → IsMap m → IsMap (set_slot_word m s k v)
unfolding set_slot_word
put_is_map m s k v map = host_is_map m _ v map

pub all_agree : (xs : List Write) (w : Pool) (m : Memory) → IsMap m → AllFit xs → Agrees w m → Agrees (with_all xs w) (set_slot_words xs m)
all_agree [] w m map f a = a
all_agree (x ∷ more) w m map f a =
    all_agree more (with_word w x) (set_slot_word m x.slot x.place x.value) (put_is_map m x.slot x.place x.value map) f.1
    (put_agrees w m x map f.0.0 f.0.1 f.0.2 a)

pub all_is_map : (xs : List Write) (m : Memory) → IsMap m → IsMap (set_slot_words xs m)
all_is_map [] m map = map
all_is_map (x ∷ more) m map = all_is_map more (set_slot_word m x.slot x.place x.value) (put_is_map m x.slot x.place x.value map)

-- the guest may load one closed word of a slot, that of the barrier's pointer
pub open_word : (m : Memory) (s : ℕ) → IsMap m → s < SLOTS → load 4 m (block s + 44) ≡ Ok (word m s BARRIER_POINTER)
unfolding word
open_word m s map h =
    let a = block s + 44 in
    let e : fault_in (λ (t : Segment). load_fault 4 a) 4 m.segments a ≡ load_fault 4 a =
    pool_fault m.segments (parts m.segments map.segments) (λ t. load_fault 4 a) 4 a (omega arith) (omega arith) (omega arith)
    in
    let aligned : ((block s + 44) % 4 == 0) ≡ true = grind (arith, nat_tests) in
    let opened : is_open_word 4 (block s + 44) ≡ true = grind (arith, nat_tests) in
    let f : load_fault 4 a ≡ None = no_fault (block s + 44) aligned opened in
    let place : block s + 44 ≡ POOL_START + SLOT_SIZE * s + 4 * BARRIER_POINTER = omega arith in
    rw (e ∙ f, place) refl
  where
    no_fault : (a : ℕ) → (a % 4 == 0) ≡ true → is_open_word 4 a ≡ true → load_fault 4 a ≡ None
    no_fault a p q = rw p (by (is_closed a))
      where
        by : (b : Bool) → cond (b && not (is_open_word 4 a)) (Some (Protected a)) None ≡ None
        by true = rw q refl
        by false = refl
