-- What was confirmed stands fast as long as no gate of the runtime is done.
use Rattle.std.proofs.Common.{◌≡◌, ℕ, ◌+◌, ◌%◌, ◌^◌, ◌<◌, ◌≤◌, nat_le, nat_lt, Bool, true, false, not, ◌==◌, List, [], ◌∷◌, length, Option, Some, None, Result, Ok, Err, slice_index, slice_index_or, slice_set, cond, if◌then◌else◌, refl, sym, ap, subst, ◌∙◌, inl, inr, arith}
use Rattle.std.proofs.lemmas.Bool.{cases_eq}
use Rattle.std.proofs.lemmas.List.{get_or-set_same, get_or-set_other}
use Rattle.eh_bus.specs.Segment.{Segment, holds}
use Rattle.eh_bus.specs.Memory.{Memory, fetch, fault_in, store, store_fault, slot_fault, unless_fault, guard_hit, store_number, is_closed, guard_all, without_guards_below}
use Rattle.eh_bus.specs.Map.{SameMap, IsFixed}
use Rattle.eh_bus.specs.declared.fault.BusFault.{BusFault}
use Rattle.eh_bus.specs.declared.fault.BusFault.TheVariants.{ReadOnly, Unaligned, Protected}
use Rattle.eh_bus.proofs.MapLaws.{map_refl, map_trans, fixed_fetches}
use Rattle.thumb_core.specs.declared.halfwords.Halfwords.{Halfwords}
use Rattle.thumb_core.specs.Standing.{HasHalfwords}
use Rattle.thumb_core.specs.Laws.{KeepsMap}
use Rattle.thumb_core.specs.Outcome.{Outcome as Stepping}
use Rattle.thumb_core.specs.Step.{step_for, instr_for}
use Rattle.thumb_core.specs.declared.regs.TheConstants.{SP}
use Rattle.thumb_ahead.specs.Ahead.{pushes_some}
use Rattle.thumb_core.proofs.Follows.{step_follows}
use Rattle.thumb_core.specs.declared.regs.Regs.{Regs}
use Rattle.thumb_core.specs.declared.regs.Stepped.{Stepped}
use Rattle.thumb_core.specs.declared.regs.Stepped.TheVariants.{Done, Call, Return, Gate, Trap}
use Rattle.thumb_core.specs.declared.ends.End.{End}
use Rattle.eh_trace.specs.Trace.{no_events}
use Rattle.eh_gates.specs.declared.state.Core.{Core}
use Rattle.eh_gates.specs.State.{State, state_of, reg}
use Rattle.sim_machines.specs.Program.{Program, profile_in}
use Rattle.sim_machines.specs.Machine.{PassResult, update_guards, saved_words, pass_tests, pass_step, pass_if_checked, pass_instruction}
use Rattle.eh_machine.specs.Cached.{StandFast, IsLine, IsOfRound, IsConfirmed, IsCounting}
use Rattle.eh_machine.specs.Passes.{Passes}
use Rattle.eh_machine.specs.declared.decode_cache.TheConstants.{LINES, FIRST_ROUND, NO_ROUND}
use Rattle.eh_machine.specs.declared.decode_cache.CacheLine.{CacheLine}
use Rattle.eh_machine.specs.declared.decode_cache.DecodeCache.{DecodeCache}

-- ---- a segment that refuses a store since it may not be written

no_slot : (o : Option ℕ) (a x : ℕ) → slot_fault o a ≡ Some (ReadOnly x) → ⊥
no_slot (Some g) a x e = absurd (cc)
no_slot None a x e = go (is_closed a) e
  where
    go : (b : Bool) → cond b (Some (Protected a)) None ≡ Some (ReadOnly x) → ⊥
    go true e = absurd (cc)
    go false e = absurd (cc)

unwritable : (u w : Bool) (o : Option ℕ) (a x : ℕ) → cond (not u) (Some (Unaligned a)) (cond (not w) (Some (ReadOnly a)) (slot_fault o a)) ≡ Some (ReadOnly x)
    → cond w (Some (ReadOnly a)) None ≡ None
unwritable false w o a x e = absurd (cc)
unwritable true false o a x e = refl
unwritable true true o a x e = absurd (no_slot o a x e)

pub refused_fixed : (guards : List ℕ) (ss : List Segment) (a x : ℕ) → fault_in (λ s. store_fault 2 guards s a) 2 ss a ≡ Some (ReadOnly x) → IsFixed 2 ss a
refused_fixed guards [] a x e = absurd (cc)
refused_fixed guards (s ∷ ss) a x e = go (holds s a 2) e (refused_fixed guards ss a x)
  where
    go : (b : Bool) → cond b (store_fault 2 guards s a) (fault_in (λ s. store_fault 2 guards s a) 2 ss a) ≡ Some (ReadOnly x)
        → (fault_in (λ s. store_fault 2 guards s a) 2 ss a ≡ Some (ReadOnly x) → IsFixed 2 ss a)
        → cond b (cond s.write (Some (ReadOnly a)) None) (fault_in (λ s. if s.write then Some (ReadOnly a) else None) 2 ss a) ≡ None
    go true e next = unwritable (a % 2 == 0) s.write (guard_hit guards a 2) a x e
    go false e next = next e

apart : (f : BusFault) → ◌≡◌ {A = Result (Unit {0}) BusFault} (Err f) (Ok tt) → ⊥
apart f e = absurd (cc)

one_fault : (f g : BusFault) → ◌≡◌ {A = Result (Unit {0}) BusFault} (Err f) (Err g) → ◌≡◌ {A = Option BusFault} (Some g) (Some f)
one_fault f g e = cc

refused_by : (o : Option BusFault) (m new m' : Memory) (f : BusFault) → ◌≡◌ {A = Result (Unit {0}) BusFault × Memory} (Err f, m') (unless_fault o m new) → o ≡ Some f
refused_by (Some g) m new m' f e = one_fault f g (ap (λ (x : Result (Unit {0}) BusFault × Memory). x.0) e)
refused_by None m new m' f e = absurd (apart f (ap (λ (x : Result (Unit {0}) BusFault × Memory). x.0) e))

pub read_only : (m m' : Memory) (a v x : ℕ) (f : BusFault) → f ≡ ReadOnly x → ◌≡◌ {A = Result (Unit {0}) BusFault × Memory} (Err f, m') (store 2 m a v) → IsFixed 2 m.segments a
read_only m m' a v x f is e =
    refused_fixed m.guards m.segments a x
    (refused_by (fault_in (λ s. store_fault 2 m.guards s a) 2 m.segments a) m (record m { segments = store_number 2 m.segments a v }) m' f e ∙ ap Some is)

pub stand_fast : (m : Memory) (a : ℕ) (h : Halfwords) → IsFixed 2 m.segments a → (nat_le 0xe800 h.first ≡ true → IsFixed 2 m.segments ((a + 2) % 2 ^ 32)) → HasHalfwords m a h → StandFast m a h
stand_fast m a h one two has = record { always = λ m' p. record { first = fixed_fetches a m.segments m'.segments p one ∙ has.first; second = go m' p (nat_le 0xe800 h.first) two has.second } }
  where
    go : (m' : Memory) → SameMap m.segments m'.segments → (b : Bool) → (b ≡ true → IsFixed 2 m.segments ((a + 2) % 2 ^ 32))
        → cond b (fetch m ((a + 2) % 2 ^ 32)) (Ok 0) ≡ Ok h.second → cond b (fetch m' ((a + 2) % 2 ^ 32)) (Ok 0) ≡ Ok h.second
    go m' p true fix e = fixed_fetches ((a + 2) % 2 ^ 32) m.segments m'.segments p (fix refl) ∙ e
    go m' p false fix e = e

-- ---- the lines of a cache

pub stands_at : (round : ℕ) (m : Memory) (a : ℕ) (line : CacheLine) → IsOfRound round m line → line.confirmed ≡ round → line.address ≡ a → HasHalfwords m a line.halfwords
stands_at round m a line of e same = subst (λ (x : ℕ). HasHalfwords m x line.halfwords) same ((of.stands e).always m (map_refl m.segments))

pub set_confirmed : (round : ℕ) (m : Memory) (lines : List CacheLine) (n : ℕ) (line : CacheLine) → n < length lines
    → ((k : ℕ) (d : CacheLine) → k < LINES → IsOfRound round m (slice_index_or lines k d)) → IsOfRound round m line
    → (k : ℕ) (d : CacheLine) → k < LINES → IsOfRound round m (slice_index_or (slice_set lines n line) k d)
set_confirmed round m lines n line within old of k d below = elim (cases_eq k n) [
  | inl same ↦ subst (λ (j : ℕ). IsOfRound round m (slice_index_or (slice_set lines n line) j d)) (sym same)
      (subst (λ (o : CacheLine). IsOfRound round m o) (sym (get_or-set_same lines n line d within)) of)
  | inr other ↦ subst (λ (o : CacheLine). IsOfRound round m o) (sym (get_or-set_other lines n k line d other)) (old k d below)
]

-- a line of which nothing was kept
pub empty_is_unkept : (p : Program) (line : CacheLine) → line.is_kept ≡ false → IsLine p line
empty_is_unkept p line e = λ f. absurd (cc)

pub empty_is_of_round : (m : Memory) (line : CacheLine) → line.confirmed ≡ NO_ROUND → IsOfRound FIRST_ROUND m line
empty_is_of_round m line e = record { within = omega (arith, e); kept = λ f. absurd (omega (arith, e, f)); stands = λ f. absurd (omega (arith, e, f)) }

-- the map stays, and so does what was confirmed
pub stays : (m n : Memory) (cache : DecodeCache) → SameMap m.segments n.segments → IsConfirmed m cache → IsConfirmed n cache
stays m n cache p is = record { begun = is.begun; lines = λ k d below. go (slice_index_or cache.lines k d) (is.lines k d below) }
  where
    go : (line : CacheLine) → IsOfRound cache.round m line → IsOfRound cache.round n line
    go line x = record { within = x.within; kept = x.kept; stands = λ e. record { always = λ m' q. (x.stands e).always m' (map_trans _ _ _ p q) } }

-- rounds are counted whatever the memory
pub counting : (m : Memory) (cache : DecodeCache) → IsConfirmed m cache → IsCounting cache
counting m cache is = record { begun = is.begun; lines = λ k d below. (is.lines k d below).within }

-- no line is of the next round
next_line : (n : Memory) (round next : ℕ) (line : CacheLine) → next ≡ round + 1 → line.confirmed ≤ round → IsOfRound next n line
next_line n round next line e x = record { within = omega (arith, x, e); kept = λ f. absurd (omega (arith, x, e, f)); stands = λ f. absurd (omega (arith, x, e, f)) }

pub counts_on : (old new : DecodeCache) → new.lines ≡ old.lines → new.round ≡ old.round + 1 → IsCounting old → IsCounting new
counts_on old new same e is = record {
  begun = omega (arith, e);
  lines = λ k d below. rw same (go (slice_index_or old.lines k d) (is.lines k d below));
}
  where
    go : (line : CacheLine) → line.confirmed ≤ old.round → line.confirmed ≤ new.round
    go line x = omega (arith, x, e)

pub next_round : (n : Memory) (old new : DecodeCache) → new.lines ≡ old.lines → new.round ≡ old.round + 1 → IsCounting old → IsConfirmed n new
next_round n old new same e is = record {
  begun = omega (arith, e);
  lines = λ k d below. rw same (next_line n old.round new.round (slice_index_or old.lines k d) e (is.lines k d below));
}

-- ---- an instruction up to its gate keeps the map

guarded_segments : (ws : List ℕ) (m : Memory) → (guard_all ws m).segments ≡ m.segments
guarded_segments [] m = refl
guarded_segments (w ∷ ws) m = guarded_segments ws m

reguarded_segments : (saves count old new : ℕ) (m : Memory) → (update_guards saves count old new m).segments ≡ m.segments
reguarded_segments saves count old new m = go (nat_lt old new) (guard_all (saved_words saves count new) m) ∙ guarded_segments (saved_words saves count new) m
  where
    go : (b : Bool) (g : Memory) → (cond b (without_guards_below g new) g).segments ≡ g.segments
    go true g = refl
    go false g = refl

module _ (p : Program) (s : State) where
  tested_map : (what : Stepped) (regs : Regs) (m : Memory) → SameMap s.memory.segments m.segments → (o : Option End)
      → SameMap s.memory.segments ((pass_tests p s what regs m o).1).memory.segments
  tested_map what regs m k (Some end) = map_refl s.memory.segments
  tested_map what regs m k None = subst (λ (ss : List Segment). SameMap s.memory.segments ss) (sym (reguarded_segments (p.look s.regs.pc).saves (pushes_some (instr_for (profile_in p) s.memory s.regs.pc)) (reg s SP) (slice_index regs.r SP) m)) k

  stepped_map : (o : Stepping) → KeepsMap s.memory o.2 → SameMap s.memory.segments ((pass_step p s o).1).memory.segments
  stepped_map (Trap trap, regs, m) k = map_refl s.memory.segments
  stepped_map (Done, regs, m) k = tested_map Done regs m k.map _
  stepped_map (Call target ret, regs, m) k = tested_map (Call target ret) regs m k.map _
  stepped_map (Return to, regs, m) k = tested_map (Return to) regs m k.map _
  stepped_map (Gate number, regs, m) k = tested_map (Gate number) regs m k.map _

  checked_map : (b : Bool) → SameMap s.memory.segments ((pass_if_checked p s b).1).memory.segments
  checked_map true = stepped_map (step_for (profile_in p) s.regs s.memory) (step_follows (profile_in p) s.regs s.memory).memory
  checked_map false = map_refl s.memory.segments

  passed_map : SameMap s.memory.segments ((pass_instruction p s).1).memory.segments
  unfolding pass_instruction
  passed_map = checked_map (p.look s.regs.pc).is_instr

pub passes_map : (p : Program) (core : Core) (m : Memory) (result : Result Stepped End) (core' : Core) (m' : Memory) → Passes p core m result core' m' → SameMap m.segments m'.segments
passes_map p core m result core' m' h =
    subst (λ (x : PassResult). SameMap m.segments (x.1).memory.segments) (sym (h.does no_events)) (passed_map p (state_of core m no_events))
