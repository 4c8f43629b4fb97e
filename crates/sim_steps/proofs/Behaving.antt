-- What a gate that walks no frames leaves, gate by gate.
use Rattle.std.proofs.Common.{◌≡◌, ℕ, ◌^◌, ◌<◌, ◌==◌, Bool, true, false, cond, List, [], set, Ok, Err, Result, refl, sym, subst, ◌∙◌, arith}
use Rattle.std.proofs.lemmas.Bool.{eqb-true}
use Rattle.run_gates.specs.Gates.{with_r0}
use Rattle.eh_cxa.specs.declared.globals.CxaFault.{CxaFault}
use Rattle.eh_cxa.specs.Allocate.{allocate_of, free_of}
use Rattle.eh_cxa.specs.Catch.{begin_catch_of, end_catch_of}
use Rattle.eh_cxa.specs.ListCalls.{allocate_list, free_list, end_list}
use Rattle.eh_cxa.specs.Lists.{Lists, slots}
use Rattle.eh_cxa.specs.Words.{Write, object, block_slot, object_slot}
use Rattle.eh_cxa.proofs.Pools.{slot_small, object_small}
use Rattle.eh_gates.specs.declared.gates.TheConstants.{ALLOCATE_GATE, FREE_GATE, THROW_GATE, BEGIN_CATCH_GATE, END_CATCH_GATE, RETHROW_GATE, END_CLEANUP_GATE, UNEXPECTED_GATE, TERMINATE_GATE, UNCAUGHT_GATE}
use Rattle.eh_gates.specs.State.{Tables, at_next}
use Rattle.eh_gates.specs.CallGates.{with_r1}
use Rattle.thumb_core.specs.Laws.{AreWords}
use Rattle.sim_machines.specs.Machine.{gate_goes_on}
use Rattle.sim_machines.specs.Activations.{Recorded, reg_in, words_in, heads, with_lists, lists_of, cleanups_in}
use Rattle.sim_machines.specs.Corresponds.{Corresponds, WalksNone}
use Rattle.sim_machines.specs.ActivationMachine as acts
use Rattle.sim_relation.proofs.Tame.{AreTame}
use Rattle.sim_steps.proofs.Gated.{Behaves, set_words, set_others, allocate_tame, free_tame, catch_tame, end_tame, small_answer, small_pair, allocate_small, catch_small, end_small}

module _ (s : Recorded) (c : Corresponds s) where
  abbrev l : Lists
  l = lists_of s

  abbrev ss : List ℕ
  ss = slots (cleanups_in s.cleanups)

  -- ---- the gates

  module _ (words : AreWords 15 s.regs.r) (number next : ℕ) where
    allocated_behaves : (new : Lists) (ws : List Write) → AreTame ss ws → gate_goes_on number ≡ true → (r : Result ℕ CxaFault) → (small_answer s c) r
        → Behaves s number next (acts.allocate_outcome next s (with_lists new ws s) r)
    allocated_behaves new ws t on (Ok object) small = (
      on,
      record {
        regs = at_next next (with_r0 object s.regs);
        lists = new;
        writes = ws;
        is = refl;
        tame = t;
        pc = refl;
        words = set_words s.regs.r 0 object (omega arith) small words;
        others = λ j far. set_others s.regs.r 0 object j (omega arith) far;
      },
    )
    allocated_behaves new ws t on (Err why) small = refl

    caught_behaves : (new : Lists) (ws : List Write) → AreTame ss ws → gate_goes_on number ≡ true → (r : Result ℕ CxaFault) → (small_answer s c) r
        → Behaves s number next (acts.begin_catch_outcome next s (with_lists new ws s) r)
    caught_behaves new ws t on (Ok object) small = (
      on,
      record {
        regs = at_next next (with_r0 object s.regs);
        lists = new;
        writes = ws;
        is = refl;
        tame = t;
        pc = refl;
        words = set_words s.regs.r 0 object (omega arith) small words;
        others = λ j far. set_others s.regs.r 0 object j (omega arith) far;
      },
    )
    caught_behaves new ws t on (Err why) small = refl

    freed_behaves : (new : Lists) (ws : List Write) → AreTame ss ws → gate_goes_on number ≡ true → (r : Result (Unit {0}) CxaFault)
        → Behaves s number next (acts.free_outcome next s (with_lists new ws s) r)
    freed_behaves new ws t on (Ok done) = (
      on,
      record {
        regs = at_next next s.regs;
        lists = new;
        writes = ws;
        is = refl;
        tame = t;
        pc = refl;
        words = words;
        others = λ j far. refl;
      },
    )
    freed_behaves new ws t on (Err why) = refl

    dropped_behaves : (new : Lists) (ws : List Write) → AreTame ss ws → gate_goes_on number ≡ true → (r : Result (ℕ × ℕ) CxaFault) → (small_pair s c) r
        → Behaves s number next (acts.end_catch_outcome next s (with_lists new ws s) r)
    dropped_behaves new ws t on (Ok (object, destructor)) small = (
      on,
      record {
        regs = at_next next (with_r1 destructor (with_r0 object s.regs));
        lists = new;
        writes = ws;
        is = refl;
        tame = t;
        pc = refl;
        words = set_words (set s.regs.r 0 object) 1 destructor (omega arith) small.1 (set_words s.regs.r 0 object (omega arith) small.0 words);
        others = λ j far. set_others (set s.regs.r 0 object) 1 destructor j (omega arith) far ∙ set_others s.regs.r 0 object j (omega arith) far;
      },
    )
    dropped_behaves new ws t on (Err why) small = refl

    uncaught_behaves : s.uncaught < 2 ^ 32 → gate_goes_on number ≡ true → Behaves s number next (acts.uncaught_gate next s)
    uncaught_behaves small on = (
      on,
      record {
        regs = at_next next (with_r0 s.uncaught s.regs);
        lists = l;
        writes = [];
        is = refl;
        tame = tt;
        pc = refl;
        words = set_words s.regs.r 0 s.uncaught (omega arith) small words;
        others = λ j far. set_others s.regs.r 0 s.uncaught j (omega arith) far;
      },
    )

    goes : (n : ℕ) → gate_goes_on n ≡ true → (number == n) ≡ true → gate_goes_on number ≡ true
    goes n on e = subst (λ m. gate_goes_on m ≡ true) (sym (eqb-true number n e)) on

    choose : (b : Bool) (q q' : acts.Outcome) → (b ≡ true → Behaves s number next q) → Behaves s number next q' → Behaves s number next (cond b q q')
    choose true q q' h k = h refl
    choose false q q' h k = k

    -- a gate that walks no frames
    pub gate_behaves : (g : Tables) → WalksNone number → s.uncaught < 2 ^ 32 → Behaves s number next (acts.gate_of g number next s)
    unfolding acts.gate_of
    gate_behaves g w small =
        choose (number == ALLOCATE_GATE) _ _ (λ e. allocated_behaves (allocate_list l (reg_in s 0)).lists (allocate_of (words_in l) (reg_in s 0)).writes ((allocate_tame s c) (reg_in s 0))
        (goes ALLOCATE_GATE refl e) (allocate_list l (reg_in s 0)).answer ((allocate_small s c) (reg_in s 0))) (
        choose (number == FREE_GATE) _ _ (λ e. freed_behaves (free_list l (object_slot (reg_in s 0))).lists (free_of (words_in l) (object_slot (reg_in s 0))).writes
        ((free_tame s c) (words_in l) (object_slot (reg_in s 0)) (λ t q. object_small (reg_in s 0) t q)) (goes FREE_GATE refl e) (free_list l (object_slot (reg_in s 0))).answer) (
        choose (number == THROW_GATE) _ _ (λ e. absurd (w.throw (eqb-true number THROW_GATE e))) (
        choose (number == BEGIN_CATCH_GATE) _ _ (λ e. caught_behaves (acts.begin_catch s).lists (begin_catch_of (words_in l) (heads l) (reg_in s 0)).writes
        ((catch_tame s c) (words_in l) (heads l) (reg_in s 0) (block_slot (reg_in s 0)) (λ t q. slot_small (reg_in s 0) t q)) (goes BEGIN_CATCH_GATE refl e) (acts.begin_catch s).answer
        ((catch_small s c) (block_slot (reg_in s 0)) (λ t q. slot_small (reg_in s 0) t q))) (
        choose (number == END_CATCH_GATE) _ _ (λ e. dropped_behaves (end_list l).lists (end_catch_of (words_in l) (heads l)).writes
        ((end_tame s c) (words_in l) (heads l) (block_slot (heads l).caught) (λ t q. slot_small (heads l).caught t q)) (goes END_CATCH_GATE refl e) (end_list l).answer (end_small s c)) (
        choose (number == RETHROW_GATE) _ _ (λ e. absurd (w.rethrow (eqb-true number RETHROW_GATE e))) (
        choose (number == END_CLEANUP_GATE) _ _ (λ e. absurd (w.cleanup (eqb-true number END_CLEANUP_GATE e))) (
        choose (number == UNEXPECTED_GATE) _ _ (λ e. refl) (
        choose (number == TERMINATE_GATE) _ _ (λ e. refl) (
        choose (number == UNCAUGHT_GATE) _ _ (λ e. uncaught_behaves small (goes UNCAUGHT_GATE refl e)) refl)))))))))
