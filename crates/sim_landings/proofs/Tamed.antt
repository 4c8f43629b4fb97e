-- A gate that walks no frames leaves the cleanups in progress, their barriers and the activations.
use Rattle.std.proofs.Common.{◌≡◌, ℕ, ◌==◌, Bool, true, false, cond, List, Ok, Err, Result, refl, ap, subst}
use Rattle.std.proofs.lemmas.Bool.{eqb-true}
use Rattle.eh_bus.specs.Lists.{Has}
use Rattle.eh_cxa.specs.declared.globals.CxaFault.{CxaFault}
use Rattle.eh_cxa.specs.Allocate.{allocate_of, free_of}
use Rattle.eh_cxa.specs.Catch.{begin_catch_of, end_catch_of}
use Rattle.eh_cxa.specs.ListCalls.{allocate_list, free_list, end_list}
use Rattle.eh_cxa.specs.Lists.{Lists, slots}
use Rattle.eh_cxa.specs.Words.{Write, block_slot, object_slot, set_slot_words}
use Rattle.eh_cxa.proofs.Pools.{slot_small, object_small}
use Rattle.eh_gates.specs.declared.gates.TheConstants.{ALLOCATE_GATE, FREE_GATE, THROW_GATE, BEGIN_CATCH_GATE, END_CATCH_GATE, RETHROW_GATE, END_CLEANUP_GATE, UNEXPECTED_GATE, TERMINATE_GATE, UNCAUGHT_GATE}
use Rattle.eh_gates.specs.Resuming.{goal_in}
use Rattle.eh_gates.specs.State.{Tables}
use Rattle.thumb_core.specs.declared.regs.Regs.{Regs}
use Rattle.sim_machines.specs.Activations.{Recorded, reg_in, memory_of, words_in, heads, with_lists, lists_of, cleanups_in}
use Rattle.sim_machines.specs.Corresponds.{Corresponds, WalksNone}
use Rattle.sim_machines.specs.ActivationMachine as machine
use Rattle.sim_machines.proofs.FirstEvent.{segments_alone}
use Rattle.sim_relation.specs.Cleanups.{goal_at}
use Rattle.sim_relation.proofs.Tame.{AreTame, IsKeptByWrites, tame_keeps}
use Rattle.sim_runs.proofs.sim_steps.Gated.{allocate_tame, free_tame, catch_tame, end_tame}
use Rattle.sim_landings.proofs.Landed.{OnWent}

pub record IsTamed (s t : Recorded) : Type 0 where
  pub cleanups : t.cleanups ≡ s.cleanups
  pub first : t.first ≡ s.first
  pub outer : t.outer ≡ s.outer
  pub same : (slot : ℕ) → Has (slots (cleanups_in s.cleanups)) slot → goal_at t slot ≡ goal_at s slot

module _ (s : Recorded) (c : Corresponds s) where
  abbrev l : Lists
  l = lists_of s

  abbrev ss : List ℕ
  ss = slots (cleanups_in s.cleanups)

  tamed : (new : Lists) (ws : List Write) (regs : Regs) → AreTame ss ws → IsTamed s (record (with_lists new ws s) { regs = regs })
  tamed new ws regs tame =
      let kept : IsKeptByWrites (slots (cleanups_in s.cleanups)) (memory_of s) (record (memory_of s) { segments = (set_slot_words ws (memory_of s)).segments }) =
      subst (IsKeptByWrites (slots (cleanups_in s.cleanups)) (memory_of s)) (segments_alone ws (memory_of s)) (tame_keeps (slots (cleanups_in s.cleanups)) ws (memory_of s) c.map tame) in
      record { cleanups = refl; first = refl; outer = refl; same = λ slot has. ap goal_in (kept.barriers slot has) }

  module _ (next : ℕ) where
    abbrev Tames : machine.Outcome → Type 0
    Tames q = OnWent (IsTamed s) q

    allocated_tames : (new : Lists) (ws : List Write) → AreTame ss ws → (r : Result ℕ CxaFault) → Tames (machine.allocate_outcome next s (with_lists new ws s) r)
    allocated_tames new ws tame (Ok object) = tamed new ws _ tame
    allocated_tames new ws tame (Err why) = tt

    freed_tames : (new : Lists) (ws : List Write) → AreTame ss ws → (r : Result (Unit {0}) CxaFault) → Tames (machine.free_outcome next s (with_lists new ws s) r)
    freed_tames new ws tame (Ok done) = tamed new ws _ tame
    freed_tames new ws tame (Err why) = tt

    caught_tames : (new : Lists) (ws : List Write) → AreTame ss ws → (r : Result ℕ CxaFault) → Tames (machine.begin_catch_outcome next s (with_lists new ws s) r)
    caught_tames new ws tame (Ok object) = tamed new ws _ tame
    caught_tames new ws tame (Err why) = tt

    dropped_tames : (new : Lists) (ws : List Write) → AreTame ss ws → (r : Result (ℕ × ℕ) CxaFault) → Tames (machine.end_catch_outcome next s (with_lists new ws s) r)
    dropped_tames new ws tame (Ok (object, destructor)) = tamed new ws _ tame
    dropped_tames new ws tame (Err why) = tt

    choose : (b : Bool) (q q' : machine.Outcome) → (b ≡ true → Tames q) → Tames q' → Tames (cond b q q')
    choose true q q' h k = h refl
    choose false q q' h k = k

    pub gate_tames : (g : Tables) (number : ℕ) → WalksNone number → Tames (machine.gate_of g number next s)
    unfolding machine.gate_of
    gate_tames g number w =
        choose (number == ALLOCATE_GATE) _ _ (λ e. allocated_tames (allocate_list l (reg_in s 0)).lists (allocate_of (words_in l) (reg_in s 0)).writes ((allocate_tame s c) (reg_in s 0))
        (allocate_list l (reg_in s 0)).answer) (
        choose (number == FREE_GATE) _ _ (λ e. freed_tames (free_list l (object_slot (reg_in s 0))).lists (free_of (words_in l) (object_slot (reg_in s 0))).writes
        ((free_tame s c) (words_in l) (object_slot (reg_in s 0)) (λ t q. object_small (reg_in s 0) t q)) (free_list l (object_slot (reg_in s 0))).answer) (
        choose (number == THROW_GATE) _ _ (λ e. absurd (w.throw (eqb-true number THROW_GATE e))) (
        choose (number == BEGIN_CATCH_GATE) _ _ (λ e. caught_tames (machine.begin_catch s).lists (begin_catch_of (words_in l) (heads l) (reg_in s 0)).writes
        ((catch_tame s c) (words_in l) (heads l) (reg_in s 0) (block_slot (reg_in s 0)) (λ t q. slot_small (reg_in s 0) t q)) (machine.begin_catch s).answer) (
        choose (number == END_CATCH_GATE) _ _ (λ e. dropped_tames (end_list l).lists (end_catch_of (words_in l) (heads l)).writes
        ((end_tame s c) (words_in l) (heads l) (block_slot (heads l).caught) (λ t q. slot_small (heads l).caught t q)) (end_list l).answer) (
        choose (number == RETHROW_GATE) _ _ (λ e. absurd (w.rethrow (eqb-true number RETHROW_GATE e))) (
        choose (number == END_CLEANUP_GATE) _ _ (λ e. absurd (w.cleanup (eqb-true number END_CLEANUP_GATE e))) (
        choose (number == UNEXPECTED_GATE) _ _ (λ e. tt) (
        choose (number == TERMINATE_GATE) _ _ (λ e. tt) (
        choose (number == UNCAUGHT_GATE) _ _ (λ e. record { cleanups = refl; first = refl; outer = refl; same = λ slot has. refl }) tt)))))))))
