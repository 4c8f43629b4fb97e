-- Writes into the pool that leave the barriers of some exceptions: what they keep of a memory.
use Rattle.std.proofs.Common.{ℕ, ◌<◌, ◌⊎◌, List, [], ◌∷◌, ◌++◌, zero, suc, ◌≤◌, inr, arith, ◌+◌, ◌*◌, ◌≡◌, inl, refl, ◌∙◌, sym, subst, ap, Some}
use Rattle.std.proofs.lemmas.Bool.{cases_eq, cases_lt}
use Rattle.eh_bus.specs.Lists.{Has}
use Rattle.eh_cxa.specs.declared.layout.TheConstants.{SLOTS, SLOT_WORDS, BARRIER_SP, BARRIER_OBJECT, BARRIER_DESCRIPTOR, BARRIER_POINTER}
use Rattle.eh_cxa.specs.Words.{Write, write, set_slot_word, set_slot_words, word, Pool}
use Rattle.eh_cxa.specs.Allocate.{zeros}
use Rattle.eh_bus.specs.declared.map.TheConstants.{POOL_START, SLOT_SIZE, STACK_START}
use Rattle.eh_bus.specs.Memory.{Memory, load_number}
use Rattle.eh_bus.specs.Segment.{Apart}
use Rattle.eh_bus.proofs.PartLaws.{host_apart, host_map, host_other}
use Rattle.eh_bus.specs.Map.{IsMap, SameMap}
use Rattle.eh_bus.proofs.MapLaws.{host_is_map, map_refl, map_trans}
use Rattle.eh_cxa.specs.declared.globals.BarrierWords.{BarrierWords}
use Rattle.eh_cxa.specs.Throw.{barrier_of}

-- a write within the pool, beside the barrier words of these slots
pub record IsTame (ss : List ℕ) (w : Write) : Type 0 where
  pub slot : w.slot < SLOTS
  pub place : w.place < SLOT_WORDS
  pub beside : (w.place < BARRIER_SP) ⊎ (Has ss w.slot → ⊥)

abbrev pub AreTame : List ℕ → List Write → Type 0
AreTame ss [] = Unit {0}
AreTame ss (w ∷ more) = IsTame ss w × AreTame ss more

pub tame_append : (ss : List ℕ) (xs ys : List Write) → AreTame ss xs → AreTame ss ys → AreTame ss (xs ++ ys)
tame_append ss [] ys p q = q
tame_append ss (x ∷ xs) ys p q = (p.0, tame_append ss xs ys p.1 q)

pub tame_zeros : (ss : List ℕ) (s n : ℕ) → s < SLOTS → n ≤ SLOT_WORDS → (Has ss s → ⊥) → AreTame ss (zeros s n)
unfolding zeros
tame_zeros ss s zero h i none = tt
tame_zeros ss s (suc n) h i none =
    tame_append ss (zeros s n) (write s n 0 ∷ []) (tame_zeros ss s n h (omega (arith, i)) none) (record { slot = h; place = omega (arith, i); beside = inr none }, tt)

-- ---- what they keep

address : Write → ℕ
address w = POOL_START + SLOT_SIZE * w.slot + 4 * w.place

tame_loads : (ss : List ℕ) (ws : List Write) (m : Memory) → AreTame ss ws → (g : ℕ) → STACK_START ≤ g → load_number 4 (set_slot_words ws m).segments g ≡ load_number 4 m.segments g
unfolding set_slot_word
tame_loads ss [] m t g h = refl
tame_loads ss (w ∷ more) m t g h =
    let slot = t.0.slot in
    let place = t.0.place in
    tame_loads ss more (set_slot_word m w.slot w.place w.value) t.1 g h
    ∙ host_apart 4 m (POOL_START + SLOT_SIZE * w.slot + 4 * w.place) w.value g (let a : Apart (POOL_START + SLOT_SIZE * w.slot + 4 * w.place) 4 g 4 = inl (omega (arith, slot, place, h)) in a)

tame_map : (ss : List ℕ) (ws : List Write) (m : Memory) → IsMap m → AreTame ss ws → SameMap m.segments (set_slot_words ws m).segments
unfolding set_slot_word
tame_map ss [] m map t = map_refl m.segments
tame_map ss (w ∷ more) m map t =
    let slot = t.0.slot in
    let place = t.0.place in
    map_trans m.segments (set_slot_word m w.slot w.place w.value).segments (set_slot_words more (set_slot_word m w.slot w.place w.value)).segments
    (host_map m (POOL_START + SLOT_SIZE * w.slot + 4 * w.place) w.value map.segments (omega (arith, slot, place)) (omega (arith, slot, place)))
    (tame_map ss more (set_slot_word m w.slot w.place w.value) (host_is_map m (POOL_START + SLOT_SIZE * w.slot + 4 * w.place) w.value map) t.1)

apart_words : (s t k j : ℕ) → k < 128 → j < 128 → ((s ≡ t → ⊥) ⊎ (k ≡ j → ⊥)) → Apart (POOL_START + SLOT_SIZE * s + 4 * k) 4 (POOL_START + SLOT_SIZE * t + 4 * j) 4
apart_words s t k j h i differs = elim (cases_eq s t) [
  | inl same ↦ elim (cases_eq k j) [
    | inl e ↦ elim differs [
      | inl d ↦ absurd (d same)
      | inr d ↦ absurd (d e)
    ]
    | inr other ↦ elim (cases_lt k j) [
      | inl low ↦ inl (omega (arith, same, low))
      | inr high ↦ inr (omega (arith, same, high, other))
    ]
  ]
  | inr other ↦ elim (cases_lt s t) [
    | inl low ↦ inl (omega (arith, low, h, i))
    | inr high ↦ inr (omega (arith, high, other, h, i))
  ]
]

tame_word : (ss : List ℕ) (ws : List Write) (m : Memory) → AreTame ss ws → (s k : ℕ) → Has ss s → BARRIER_SP ≤ k → k < 24 → word (set_slot_words ws m) s k ≡ word m s k
unfolding set_slot_word word
tame_word ss [] m t s k has low high = refl
tame_word ss (w ∷ more) m t s k has low high =
    let place = t.0.place in
    tame_word ss more (set_slot_word m w.slot w.place w.value) t.1 s k has low high
    ∙ host_other m (POOL_START + SLOT_SIZE * w.slot + 4 * w.place) w.value (POOL_START + SLOT_SIZE * s + 4 * k)
    (apart_words w.slot s w.place k (omega (arith, place)) (omega (arith, high)) (elim t.0.beside [
      | inl below ↦ inr (λ e. absurd (omega (arith, below, low, e)))
      | inr none ↦ inl (λ e. none (subst (Has ss) (sym e) has))
    ]))

abbrev made : ℕ → ℕ → ℕ → ℕ → BarrierWords
made a b c d = record { sp = a; object = b; desc = c; pointer = d }

made_same : (a b c d a' b' c' d' : ℕ) → a ≡ a' → b ≡ b' → c ≡ c' → d ≡ d' → made a b c d ≡ made a' b' c' d'
made_same a b c d a' b' c' d' p q r s = ap (λ v. made v b c d) p ∙ ap (λ v. made a' v c d) q ∙ ap (λ v. made a' b' v d) r ∙ ap (λ v. made a' b' c' v) s

-- a barrier is four words
pub barrier_same : (w u : Pool) (s : ℕ) → ((k : ℕ) → BARRIER_SP ≤ k → k < 24 → u s k ≡ w s k) → barrier_of u (Some s) ≡ barrier_of w (Some s)
barrier_same w u s same =
    made_same (u s BARRIER_SP) (u s BARRIER_OBJECT) (u s BARRIER_DESCRIPTOR) (u s BARRIER_POINTER) (w s BARRIER_SP) (w s BARRIER_OBJECT) (w s BARRIER_DESCRIPTOR) (w s BARRIER_POINTER)
    (same BARRIER_SP (omega arith) (omega arith)) (same BARRIER_OBJECT (omega arith) (omega arith)) (same BARRIER_DESCRIPTOR (omega arith) (omega arith)) (same BARRIER_POINTER (omega arith) (omega arith))

-- the barriers of these slots stay
tame_barrier : (ss : List ℕ) (ws : List Write) (m : Memory) → AreTame ss ws → (s : ℕ) → Has ss s → barrier_of (word (set_slot_words ws m)) (Some s) ≡ barrier_of (word m) (Some s)
tame_barrier ss ws m t s has = barrier_same (word m) (word (set_slot_words ws m)) s (λ k low high. tame_word ss ws m t s k has low high)

pub record IsKeptByWrites (ss : List ℕ) (m new : Memory) : Type 0 where
  pub loads : (g : ℕ) → STACK_START ≤ g → load_number 4 new.segments g ≡ load_number 4 m.segments g
  pub map : SameMap m.segments new.segments
  pub barriers : (s : ℕ) → Has ss s → barrier_of (word new) (Some s) ≡ barrier_of (word m) (Some s)

pub tame_keeps : (ss : List ℕ) (ws : List Write) (m : Memory) → IsMap m → AreTame ss ws → IsKeptByWrites ss m (set_slot_words ws m)
tame_keeps ss ws m map t = record { loads = tame_loads ss ws m t; map = tame_map ss ws m map t; barriers = tame_barrier ss ws m t }
