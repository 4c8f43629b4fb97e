-- Writes into the pool beside the words of barriers, and the goal that these words are.
use Rattle.std.proofs.Common.{◌≡◌, ℕ, ◌+◌, ◌*◌, ◌<◌, ◌≤◌, ◌⊎◌, inl, inr, List, [], ◌∷◌, refl, ◌∙◌, ap, arith}
use Rattle.std.proofs.lemmas.Bool.{cases_eq, cases_lt}
use Rattle.eh_bus.specs.Memory.{Memory}
use Rattle.eh_bus.specs.Segment.{Apart}
use Rattle.eh_bus.specs.declared.map.TheConstants.{POOL_START, SLOT_SIZE}
use Rattle.eh_bus.proofs.PartLaws.{host_other}
use Rattle.eh_cxa.specs.Words.{Write, word, set_slot_word, set_slot_words}
use Rattle.eh_cxa.specs.declared.layout.TheConstants.{SLOT_WORDS, BARRIER_SP, BARRIER_DESCRIPTOR, BARRIER_WORD_4}
use Rattle.eh_phase.specs.declared.phase2.Goal.{Goal}
use Rattle.sim_machines.specs.Activations.{Recorded, memory_of}
use Rattle.sim_relation.specs.Cleanups.{goal_at}

abbrev pub AreBeside : List Write → Type 0
AreBeside [] = Unit {0}
AreBeside (w ∷ more) = ((w.place < BARRIER_SP) ⊎ (BARRIER_WORD_4 < w.place)) × (w.place < SLOT_WORDS) × AreBeside more

apart : (s t k j : ℕ) → k < SLOT_WORDS → j < SLOT_WORDS → (k ≡ j → ⊥) → Apart (POOL_START + SLOT_SIZE * s + 4 * k) 4 (POOL_START + SLOT_SIZE * t + 4 * j) 4
apart s t k j h i differ = elim (cases_eq s t) [
  | inl same ↦ elim (cases_lt k j) [
    | inl low ↦ inl (omega (arith, same, low))
    | inr high ↦ elim (cases_eq k j) [
      | inl e ↦ absurd (differ e)
      | inr other ↦ inr (omega (arith, same, high, other))
    ]
  ]
  | inr other ↦ elim (cases_lt s t) [
    | inl low ↦ inl (omega (arith, low, h, i))
    | inr high ↦ inr (omega (arith, high, other, h, i))
  ]
]

differs : (k j : ℕ) → (k < BARRIER_SP) ⊎ (BARRIER_WORD_4 < k) → BARRIER_SP ≤ j → j ≤ BARRIER_WORD_4 → k ≡ j → ⊥
differs k j (inl below) low high e = absurd (omega (arith, below, low, e))
differs k j (inr above) low high e = absurd (omega (arith, above, high, e))

pub beside_word : (ws : List Write) (m : Memory) (s k : ℕ) → AreBeside ws → BARRIER_SP ≤ k → k ≤ BARRIER_WORD_4 → word (set_slot_words ws m) s k ≡ word m s k
unfolding set_slot_word word
beside_word [] m s k h low high = refl
beside_word (w ∷ more) m s k h low high =
    beside_word more (set_slot_word m w.slot w.place w.value) s k h.2 low high
    ∙ host_other m (POOL_START + SLOT_SIZE * w.slot + 4 * w.place) w.value (POOL_START + SLOT_SIZE * s + 4 * k) (apart w.slot s w.place k h.1 (omega (arith, high)) (differs w.place k h.0 low high))

pub same_segments : (m n : Memory) → n.segments ≡ m.segments → (s k : ℕ) → word n s k ≡ word m s k
unfolding word
same_segments m n e s k = rw e refl

-- the barrier's words hold what they held
abbrev pub SameBarrier : Recorded → Recorded → ℕ → Type 0
SameBarrier s t slot = (k : ℕ) → BARRIER_SP ≤ k → k ≤ BARRIER_WORD_4 → word (memory_of t) slot k ≡ word (memory_of s) slot k

pub same_goal : (s t : Recorded) (slot : ℕ) → SameBarrier s t slot → goal_at t slot ≡ goal_at s slot
same_goal s t slot same =
    ap (λ (n : ℕ). let g : Goal = record { sp = n; desc = word (memory_of t) slot BARRIER_DESCRIPTOR } in g) (same BARRIER_SP (omega arith) (omega arith))
    ∙ ap (λ (n : ℕ). let g : Goal = record { sp = word (memory_of s) slot BARRIER_SP; desc = n } in g) (same BARRIER_DESCRIPTOR (omega arith) (omega arith))

-- after writes that leave them, whatever else of the state changes
pub beside_same : (ws : List Write) (s t : Recorded) (slot : ℕ) → AreBeside ws → t.segments ≡ (set_slot_words ws (memory_of s)).segments → SameBarrier s t slot
beside_same ws s t slot h e k low high = same_segments (set_slot_words ws (memory_of s)) (memory_of t) e slot k ∙ beside_word ws (memory_of s) slot k h low high

pub barrier_then : (s t u : Recorded) (slot : ℕ) → SameBarrier s t slot → SameBarrier t u slot → SameBarrier s u slot
barrier_then s t u slot one two k low high = two k low high ∙ one k low high
