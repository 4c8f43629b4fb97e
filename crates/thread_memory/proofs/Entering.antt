-- The memory after a switch.
use Rattle.std.proofs.Common.{◌≡◌, ℕ, suc, ◌+◌, ◌*◌, ◌<◌, ◌≤◌, Bool, true, false, ◌==◌, cond, List, [], ◌∷◌, ◌++◌, length, refl, sym, ap, ◌∙◌, arith}
use Rattle.eh_bus.specs.Map.{IsMap, SameMap}
use Rattle.eh_bus.specs.Memory.{Memory}
use Rattle.eh_bus.specs.declared.map.TheConstants.{POOL_START, SLOT_SIZE}
use Rattle.eh_bus.proofs.MapLaws.{map_refl, map_trans, host_is_map}
use Rattle.eh_bus.proofs.PartLaws.{host_map}
use Rattle.eh_cxa.specs.Words.{Write, write, set_slot_word, set_slot_words}
use Rattle.eh_cxa.specs.declared.layout.TheConstants.{SLOTS, STATE}
use Rattle.thread_memory.specs.Homes.{home_of}
use Rattle.thread_memory.specs.Owners.{state_seen_by, changes_from, switch_thread}
use Rattle.thread_memory.specs.Seen.{thread_view}
use Rattle.thread_memory.specs.declared.owners.Holding.{Holding}

put_guards : (m : Memory) (s k v : ℕ) → (set_slot_word m s k v).guards ≡ m.guards
unfolding set_slot_word
put_guards m s k v = refl

put_plain : (xs : List Write) (m : Memory) → (set_slot_words xs m).guards ≡ m.guards
put_plain [] m = refl
put_plain (x ∷ xs) m = put_plain xs (set_slot_word m x.slot x.place x.value) ∙ put_guards m x.slot x.place x.value

-- words are put beside guards and home
put_seen : (m : Memory) (s k v : ℕ) (guards : List ℕ) (thread : ℕ) → set_slot_word (thread_view m guards thread) s k v ≡ thread_view (set_slot_word m s k v) guards thread
unfolding set_slot_word
put_seen m s k v guards thread = refl

all_seen : (xs : List Write) (m : Memory) (guards : List ℕ) (thread : ℕ) → set_slot_words xs (thread_view m guards thread) ≡ thread_view (set_slot_words xs m) guards thread
all_seen [] m guards thread = refl
all_seen (x ∷ xs) m guards thread = ap (set_slot_words xs) (put_seen m x.slot x.place x.value guards thread) ∙ all_seen xs (set_slot_word m x.slot x.place x.value) guards thread

pub stays_plain : (xs : List Write) (m m' : Memory) → m' ≡ set_slot_words xs m → m.guards ≡ [] → m'.guards ≡ []
stays_plain xs m m' e z = rw e (put_plain xs m ∙ z)

pub enters : (old new home : ℕ) (owners : List Holding) (m m' : Memory) (guards : List ℕ) → m' ≡ set_slot_words (changes_from old new 0 owners) m
    → thread_view m' guards new ≡ switch_thread old new owners (thread_view m guards home)
enters old new home owners m m' guards e =
    rw e (sym (ap (λ (n : Memory). record n { home = home_of new }) (all_seen (changes_from old new 0 owners) m guards home)))

-- ---- the map stays

put_map : (m : Memory) (slot v : ℕ) → IsMap m → slot < SLOTS → SameMap m.segments (set_slot_word m slot STATE v).segments
unfolding set_slot_word
put_map m slot v x l = host_map m (POOL_START + SLOT_SIZE * slot + 4 * STATE) v x.segments (omega arith) (omega (arith, l))

put_is_map : (m : Memory) (slot v : ℕ) → IsMap m → IsMap (set_slot_word m slot STATE v)
unfolding set_slot_word
put_is_map m slot v x = host_is_map m (POOL_START + SLOT_SIZE * slot + 4 * STATE) v x

changes_map : (old new i : ℕ) (owners : List Holding) (m : Memory) → IsMap m → i + length owners ≤ SLOTS → SameMap m.segments (set_slot_words (changes_from old new i owners) m).segments
changes_map old new i [] m x l = map_refl m.segments
changes_map old new i (h ∷ more) m x l = go (state_seen_by old h == state_seen_by new h) (λ n y. changes_map old new (suc i) more n y (omega arith))
  where
    go : (t : Bool) → ((n : Memory) → IsMap n → SameMap n.segments (set_slot_words (changes_from old new (suc i) more) n).segments)
        → SameMap m.segments (set_slot_words (cond t [] (write i STATE (state_seen_by new h) ∷ []) ++ changes_from old new (suc i) more) m).segments
    go true next = next m x
    go false next =
        map_trans m.segments (set_slot_word m i STATE (state_seen_by new h)).segments (set_slot_words (changes_from old new (suc i) more) (set_slot_word m i STATE (state_seen_by new h))).segments
        (put_map m i (state_seen_by new h) x (omega arith)) (next (set_slot_word m i STATE (state_seen_by new h)) (put_is_map m i (state_seen_by new h) x))

pub map_stays : (old new : ℕ) (owners : List Holding) (m m' : Memory) → m' ≡ set_slot_words (changes_from old new 0 owners) m → IsMap m → length owners ≡ SLOTS
    → SameMap m.segments m'.segments
map_stays old new owners m m' e x sized = rw e (changes_map old new 0 owners m x (omega (arith, sized)))
