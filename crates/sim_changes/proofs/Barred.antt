-- The words of a barrier that no cleanup in progress waits for may change.
use Rattle.std.proofs.Common.{◌≡◌, ℕ, ◌<◌, List, sym, ap, subst, arith, inr, Option, Some, ◌∙◌}
use Rattle.std.proofs.lemmas.Option.{same_Some}
use Rattle.eh_bus.specs.Lists.{Has}
use Rattle.eh_bus.specs.Map.{IsMap}
use Rattle.eh_bus.specs.Memory.{Memory}
use Rattle.eh_cxa.specs.Lists.{entry, slots, state_in}
use Rattle.eh_cxa.specs.Stands.{Stands}
use Rattle.eh_cxa.specs.Throw.{set_barrier_of}
use Rattle.eh_cxa.specs.Words.{Write, block, set_slot_words, word}
use Rattle.eh_cxa.specs.declared.globals.BarrierWords.{BarrierWords}
use Rattle.eh_cxa.specs.declared.layout.TheConstants.{SLOTS, SLOT_WORDS, BARRIER_SP, BARRIER_OBJECT, BARRIER_DESCRIPTOR, BARRIER_POINTER, BARRIER_WORD_3, BARRIER_WORD_4}
use Rattle.eh_cxa.specs.declared.state.State.TheVariants.{Landed, Flying}
use Rattle.eh_cxa.proofs.Meets.{barrier_meets}
use Rattle.eh_cxa.proofs.Pools.{slot_of_block_is, all_is_map}
use Rattle.sim_machines.specs.Activations.{Recorded, memory_of, heads, lists_of, cleanups_in}
use Rattle.sim_machines.specs.Corresponds.{Corresponds}
use Rattle.sim_machines.proofs.FirstEvent.{segments_alone}
use Rattle.frame_check.specs.Accepts.{Accepted}
use Rattle.sim_relation.specs.Stands.{Keeps}
use Rattle.sim_relation.proofs.Tame.{IsTame, AreTame}
use Rattle.sim_changes.specs.Barriers.{AreWords, with_barrier_words, FreeBarriers}
use Rattle.sim_changes.proofs.Forced.{writes_keep}

module _ (x : Accepted) (s : Recorded) (k : Keeps x s) (slot : ℕ) (b : BarrierWords) (small : slot < SLOTS) (idle : Has (slots (cleanups_in s.cleanups)) slot → ⊥) (fit : AreWords b) where
  abbrev writes : List Write
  writes = set_barrier_of (Some slot) b

  memory_is : set_slot_words writes (memory_of s) ≡ memory_of (with_barrier_words slot b s)
  memory_is = segments_alone writes (memory_of s)

  still : Corresponds (with_barrier_words slot b s)
  still = record {
    map = subst (λ (m : Memory). IsMap m) memory_is (all_is_map writes (memory_of s) k.corresponds.map);
    stands = subst (λ (m : Memory). Stands (word m) (heads (lists_of s)) (lists_of s)) memory_is
        (barrier_meets (memory_of s) (set_slot_words writes (memory_of s)) (block slot) b k.corresponds.map (record { sp = fit.sp; object = fit.object; desc = fit.desc; pointer = fit.pointer })
        (ap (λ (o : Option ℕ). set_slot_words (set_barrier_of o b) (memory_of s)) (sym (slot_of_block_is slot small))) (heads (lists_of s)) (lists_of s) k.corresponds.stands);
  }

  one : (place value : ℕ) → place < SLOT_WORDS → IsTame (slots (cleanups_in s.cleanups)) (record { slot = slot; place = place; value = value })
  one place value h = record { slot = small; place = h; beside = inr idle }

  tame : AreTame (slots (cleanups_in s.cleanups)) writes
  tame = (
    one BARRIER_SP b.sp (omega arith),
    (
      one BARRIER_OBJECT b.object (omega arith),
      (one BARRIER_DESCRIPTOR b.desc (omega arith), (one BARRIER_POINTER b.pointer (omega arith), (one BARRIER_WORD_3 0 (omega arith), (one BARRIER_WORD_4 0 (omega arith), tt)))),
    ),
  )

  barred_keeps : Keeps x (with_barrier_words slot b s)
  barred_keeps = writes_keep x s k (lists_of s) writes tame k.counted still

-- an exception with a cleanup in progress flies
no_cleanup : (x : Accepted) (s : Recorded) → Keeps x s → (slot : ℕ) → state_in (entry (lists_of s) slot) ≡ Some Landed → Has (slots (cleanups_in s.cleanups)) slot → ⊥
no_cleanup x s k slot landed has = let flies = k.corresponds.stands.valid.flying slot has in differ (same_Some Flying Landed (sym flies ∙ landed))
  where
    differ : Flying ≡ Landed → ⊥
    differ e = cc

pub free_barriers : FreeBarriers
free_barriers x s k = record {
  idle = λ slot b small idle fit. barred_keeps x s k slot b small idle fit;
  landed = λ slot b small landed fit. barred_keeps x s k slot b small (no_cleanup x s k slot landed) fit;
}
