-- The gates that walk no frames do the same over bytes and with recorded activations, and leave what stands for each other.
use Rattle.std.proofs.Common.{◌≡◌, ℕ, ◌^◌, ◌<◌, inl, ◌==◌, nat_lt, Bool, true, false, cond, List, [], ◌∷◌, Option, Some, None, Result, Ok, Err, ℤ, pos, refl, sym, ap, subst, ◌∙◌, arith}
use Rattle.std.proofs.lemmas.Bool.Decides.{nat_tests}
use Rattle.eh_bus.specs.Lists.{Has}
use Rattle.eh_bus.specs.Map.{IsMap}
use Rattle.eh_bus.specs.Memory.{Memory}
use Rattle.run_gates.specs.Gates.{with_r0}
use Rattle.eh_cxa.specs.declared.globals.Globals.{Globals}
use Rattle.eh_cxa.specs.declared.globals.CxaFault.{CxaFault}
use Rattle.eh_cxa.specs.declared.globals.CxaFault.TheVariants.{TooBig}
use Rattle.eh_cxa.specs.declared.layout.TheConstants.{SLOTS, STATE, COUNT, NEXT_CAUGHT, OBJECT_BYTES}
use Rattle.eh_cxa.specs.declared.state.TheConstants.{FREE}
use Rattle.eh_cxa.specs.States.{state_of_word, may_be_freed}
use Rattle.eh_cxa.specs.Allocate.{allocate_at, allocate_of, free_by, free_of}
use Rattle.eh_cxa.specs.Catch.{catch_fault, catch_by, catch_at, catch_in, begin_catch_of, Fall, stays, falls, ends, leaves, fall, end_catch_by, end_catch_at, end_catch_of}
use Rattle.eh_cxa.specs.ListCalls.{allocate_list, free_list, end_list}
use Rattle.eh_cxa.specs.Lists.{Lists, entry, count_in}
use Rattle.eh_cxa.specs.Lists.{Outcome as Call}
use Rattle.eh_cxa.specs.Stands.{Chain, Stands, Follows}
use Rattle.eh_cxa.specs.Words.{Pool, Write, Done, Wrote, word, block, set_slot_words, call_result, block_slot, object_slot}
use Rattle.eh_cxa.proofs.Looking.{Look, live, free, lost, look}
use Rattle.eh_cxa.proofs.Meets.{allocate_meets, free_meets, begin_catch_meets, end_catch_meets}
use Rattle.eh_cxa.proofs.Pools.{slot_small, object_small, all_is_map}
use Rattle.eh_cxa.proofs.Zeros.{first_same}
use Rattle.eh_gates.specs.Laws.{AreHeads}
use Rattle.eh_gates.specs.declared.gates.TheConstants.{ALLOCATE_GATE, FREE_GATE, THROW_GATE, BEGIN_CATCH_GATE, END_CATCH_GATE, RETHROW_GATE, END_CLEANUP_GATE, UNEXPECTED_GATE, TERMINATE_GATE, UNCAUGHT_GATE}
use Rattle.eh_gates.specs.State.{State, Tables, Outcome, at_next}
use Rattle.eh_gates.specs.CallGates.{with_r1, allocate_outcome, free_outcome, begin_catch_outcome, end_catch_outcome, allocate_gate, free_gate, begin_catch_gate, end_catch_gate, uncaught_gate}
use Rattle.eh_gates.specs.Gates.{gate_of}
use Rattle.sim_machines.specs.Activations.{Recorded, reg_in, memory_of, words_in, head_of, heads, with_lists, bytes_of, lists_of, cleanups_in}
use Rattle.sim_machines.specs.ActivationMachine as acts
use Rattle.sim_machines.specs.Corresponds.{Corresponds, GateMatches, WalksNone}
use Rattle.sim_machines.proofs.FirstEvent.{segments_alone}
use Rattle.sim_machines.proofs.WithLists.{lists_are, heads_same, allocate_keeps, free_keeps, catch_keeps, end_keeps}
use Rattle.sim_machines.proofs.InStep.{catch_heads, end_heads, same_slot, same_count, heads_are, are_heads}

-- ---- what a call writes by the words of lists it writes by the words that stand for them

module _ (w : Pool) (g : Globals) (l : Lists) (x : Stands w g l) where
  same_free : (o : Option ℕ) → ((s : ℕ) → o ≡ Some s → s < SLOTS) → free_of (words_in l) o ≡ free_of w o
  same_free None small = refl
  same_free (Some s) small = let e = (same_slot w g l x s (small s refl)).state in ap (λ n. free_by (may_be_freed n) s) e

  same_allocate : (size : ℕ) → allocate_of (words_in l) size ≡ allocate_of w size
  same_allocate size =
      let e = first_same (λ s. words_in l s STATE == FREE) (λ s. w s STATE == FREE) (λ s h. (same_slot w g l x s h).free) in
      ap (λ (o : Option ℕ). cond (nat_lt OBJECT_BYTES size) (record { answer = Err TooBig; writes = [] }) (allocate_at size o)) e

  catch_by_writes : (ucb s : ℕ) → words_in l s COUNT ≡ w s COUNT → (b : Bool) → (catch_by b (words_in l) g ucb s).writes ≡ (catch_by b w g ucb s).writes
  catch_by_writes ucb s e true = rw e refl
  catch_by_writes ucb s e false = rw e refl

  catch_at_writes : (ucb s : ℕ) → words_in l s COUNT ≡ w s COUNT → (o : Option CxaFault) → (catch_at (words_in l) g ucb s o).writes ≡ (catch_at w g ucb s o).writes
  catch_at_writes ucb s e (Some why) = refl
  catch_at_writes ucb s e None =
      catch_by_writes ucb s e (words_in l s COUNT == 0) ∙ ap (λ (n : ℕ). (catch_by (n == 0) w g ucb s).writes) e

  catch_in_writes : (ucb : ℕ) (o : Option ℕ) → ((s : ℕ) → o ≡ Some s → s < SLOTS) → (catch_in (words_in l) g ucb o).writes ≡ (catch_in w g ucb o).writes
  catch_in_writes ucb None small = refl
  catch_in_writes ucb (Some s) small = seen (look w g l s x.shows h)
    where
      h : s < SLOTS
      h = small s refl

      same : state_of_word (words_in l s STATE) ≡ state_of_word (w s STATE)
      same = (same_slot w g l x s h).state

      by_none : (u : Pool) → state_of_word (u s STATE) ≡ None → (catch_in u g ucb (Some s)).writes ≡ []
      by_none u e = ap (λ n. (catch_at u g ucb s (catch_fault n (u s COUNT == 0) (g.caught == ucb))).writes) e

      seen : Look w l s → (catch_in (words_in l) g ucb (Some s)).writes ≡ (catch_in w g ucb (Some s)).writes
      seen (live st name is) =
          let e = same_count w g l x s st h is in
          ap (λ n. (catch_at (words_in l) g ucb s (catch_fault n (words_in l s COUNT == 0) (g.caught == ucb))).writes) same
          ∙ ap (λ (c : ℕ). (catch_at (words_in l) g ucb s (catch_fault (state_of_word (w s STATE)) (c == 0) (g.caught == ucb))).writes) e
          ∙ catch_at_writes ucb s e (catch_fault (state_of_word (w s STATE)) (w s COUNT == 0) (g.caught == ucb))
      seen (free zero is) = let e : state_of_word (w s STATE) ≡ None = ap state_of_word zero in by_none (words_in l) (same ∙ e) ∙ sym (by_none w e)
      seen (lost used none is) = by_none (words_in l) (same ∙ none) ∙ sym (by_none w none)

  fall_writes : (s : ℕ) (f : Fall ℕ) → (end_catch_by f (words_in l) g s).writes ≡ (end_catch_by f w g s).writes
  fall_writes s stays = refl
  fall_writes s (falls c) = refl
  fall_writes s ends = refl
  fall_writes s leaves = refl

  -- the top of the caught stack is live
  top_counts : (s : ℕ) → block_slot g.caught ≡ Some s → words_in l s COUNT ≡ w s COUNT
  top_counts s e = go l.caught refl x.shows.caught
    where
      go : (xs : List ℕ) → l.caught ≡ xs → Chain (λ t. w t NEXT_CAUGHT) g.caught xs → words_in l s COUNT ≡ w s COUNT
      go [] f c = let d : Some s ≡ None = sym e ∙ c in absurd (cc)
      go (t ∷ more) f c =
          let d : Some t ≡ Some s = sym c.0 ∙ e in
          let i : t ≡ s = cc in
          let has : Has l.caught s = rw f (inl i) in
          let counts = (x.valid.counted s).0 has in
          let h : s < SLOTS = slot_small g.caught s e in
          seen h counts (look w g l s x.shows h)
        where
          seen : s < SLOTS → (count_in (entry l s) ≡ pos 0 → ⊥) → Look w l s → words_in l s COUNT ≡ w s COUNT
          seen h counts (live st name is) = same_count w g l x s st h is
          seen h counts (free zero is) = absurd (counts (rw is refl))
          seen h counts (lost used none is) = absurd (counts (rw is refl))

  end_at_writes : (o : Option ℕ) → ((s : ℕ) → o ≡ Some s → block_slot g.caught ≡ Some s) → (end_catch_at (words_in l) g o).writes ≡ (end_catch_at w g o).writes
  end_at_writes None top = refl
  end_at_writes (Some s) top =
      fall_writes s (fall (words_in l s COUNT)) ∙ ap (λ (c : ℕ). (end_catch_by (fall c) w g s).writes) (top_counts s (top s refl))

-- ---- a call on the words of a state and on its lists

pub record InStep {A : Type 0} (s : Recorded) (d : Done A) (ws : List Write) (o : Call A) : Type 0 where
  pub writes : ws ≡ d.writes
  pub follows : Follows (word (set_slot_words d.writes (memory_of s))) d.globals d.answer o
  pub tops : AreHeads d.globals
  pub cleanups : o.lists.cleanups ≡ cleanups_in s.cleanups

module _ (s : Recorded) (c : Corresponds s) where
  pub still : (l : Lists) (ws : List Write) → Stands (word (set_slot_words ws (memory_of s))) (heads l) l → l.cleanups ≡ cleanups_in s.cleanups → Corresponds (with_lists l ws s)
  still l ws x e = record {
    map = subst (λ (m : Memory). IsMap m) (segments_alone ws (memory_of s)) (all_is_map ws (memory_of s) c.map);
    stands = subst (λ (k : Lists). Stands (word (memory_of (with_lists l ws s))) (heads k) k) (sym (lists_are l ws s e))
        (subst (λ (m : Memory). Stands (word m) (heads l) l) (segments_alone ws (memory_of s)) x);
  }

  module _ {A : Type 0} (d : Done A) (ws : List Write) (o : Call A) (i : InStep s d ws o) where
    pub same_heads : d.globals ≡ heads o.lists
    same_heads = heads_are (word (set_slot_words d.writes (memory_of s))) d.globals o.lists i.follows.stands i.tops

    pub left : Corresponds (with_lists o.lists ws s)
    left =
        let x = subst (λ (g : Globals). Stands (word (set_slot_words d.writes (memory_of s))) g o.lists) same_heads i.follows.stands in
        still o.lists ws (subst (λ (vs : List Write). Stands (word (set_slot_words vs (memory_of s))) (heads o.lists) o.lists) (sym i.writes) x) i.cleanups

    -- what a gate makes of the answer
    pub by_call : (F : A × Globals × Memory → Outcome) (G : Recorded → A → acts.Outcome)
        → ((r : A) (l : Lists) (vs : List Write) → Corresponds (with_lists l vs s) → l.cleanups ≡ cleanups_in s.cleanups → d.globals ≡ heads l → GateMatches (F (r, heads l, set_slot_words vs (memory_of s))) (G (with_lists l vs s) r))
        → GateMatches (F (call_result d (memory_of s))) (G (with_lists o.lists ws s) o.answer)
    by_call F G h =
        subst (λ (r : A). GateMatches (F (r, d.globals, set_slot_words d.writes (memory_of s))) (G (with_lists o.lists ws s) o.answer)) (sym i.follows.same)
        (subst (λ (g : Globals). GateMatches (F (o.answer, g, set_slot_words d.writes (memory_of s))) (G (with_lists o.lists ws s) o.answer)) (sym same_heads)
        (subst (λ (vs : List Write). GateMatches (F (o.answer, heads o.lists, set_slot_words vs (memory_of s))) (G (with_lists o.lists ws s) o.answer)) i.writes
        (h o.answer o.lists ws left i.cleanups same_heads)))

  -- ---- the gates

  alone : (ws : List Write) → set_slot_words ws (memory_of s) ≡ record (memory_of s) { segments = (set_slot_words ws (memory_of s)).segments }
  alone ws = segments_alone ws (memory_of s)

  allocated_match : (next : ℕ) (r : Result ℕ CxaFault) (l : Lists) (ws : List Write) → Corresponds (with_lists l ws s) → l.cleanups ≡ cleanups_in s.cleanups → heads (lists_of s) ≡ heads l
      → GateMatches (allocate_outcome next (bytes_of s) (r, set_slot_words ws (memory_of s))) (acts.allocate_outcome next s (with_lists l ws s) r)
  allocated_match next (Ok object) l ws k q e =
      let one : Memory → State = λ m. record (bytes_of s) { regs = with_r0 object (at_next next s.regs); memory = m } in
      let two : Globals → State = λ g.
      record { regs = with_r0 object (at_next next s.regs); globals = g; memory = record (memory_of s) { segments = (set_slot_words ws (memory_of s)).segments }; events = s.events }
      in
      record { same = ap one (alone ws) ∙ ap two (e ∙ sym (heads_same l ws s q)); still = record { map = k.map; stands = k.stands } }
  allocated_match next (Err why) l ws k q e = record { same = (refl, refl); still = c }

  freed_match : (next : ℕ) (r : Result (Unit {0}) CxaFault) (l : Lists) (ws : List Write) → Corresponds (with_lists l ws s) → l.cleanups ≡ cleanups_in s.cleanups → heads (lists_of s) ≡ heads l
      → GateMatches (free_outcome next (bytes_of s) (r, set_slot_words ws (memory_of s))) (acts.free_outcome next s (with_lists l ws s) r)
  freed_match next (Ok done) l ws k q e =
      let one : Memory → State = λ m. record (bytes_of s) { regs = at_next next s.regs; memory = m } in
      let two : Globals → State = λ g.
      record { regs = at_next next s.regs; globals = g; memory = record (memory_of s) { segments = (set_slot_words ws (memory_of s)).segments }; events = s.events }
      in
      record { same = ap one (alone ws) ∙ ap two (e ∙ sym (heads_same l ws s q)); still = record { map = k.map; stands = k.stands } }
  freed_match next (Err why) l ws k q e = record { same = (refl, refl); still = c }

  caught_match : (next : ℕ) (r : Result ℕ CxaFault) (l : Lists) (ws : List Write) → Corresponds (with_lists l ws s) → l.cleanups ≡ cleanups_in s.cleanups
      → GateMatches (begin_catch_outcome next (bytes_of s) (r, heads l, set_slot_words ws (memory_of s))) (acts.begin_catch_outcome next s (with_lists l ws s) r)
  caught_match next (Ok object) l ws k q = record {
    same =
        ap (λ (m : Memory). record (bytes_of s) { regs = with_r0 object (at_next next s.regs); globals = heads l; memory = m }) (alone ws)
        ∙ ap (λ (g : Globals). record (bytes_of s) { regs = with_r0 object (at_next next s.regs); globals = g; memory = memory_of (with_lists l ws s) }) (sym (heads_same l ws s q));
    still = record { map = k.map; stands = k.stands };
  }
  caught_match next (Err why) l ws k q = record { same = (refl, refl); still = c }

  dropped_match : (next : ℕ) (r : Result (ℕ × ℕ) CxaFault) (l : Lists) (ws : List Write) → Corresponds (with_lists l ws s) → l.cleanups ≡ cleanups_in s.cleanups
      → GateMatches (end_catch_outcome next (bytes_of s) (r, heads l, set_slot_words ws (memory_of s))) (acts.end_catch_outcome next s (with_lists l ws s) r)
  dropped_match next (Ok (object, destructor)) l ws k q = record {
    same =
        ap (λ (m : Memory). record (bytes_of s) { regs = with_r1 destructor (with_r0 object (at_next next s.regs)); globals = heads l; memory = m }) (alone ws)
        ∙ ap (λ (g : Globals). record (bytes_of s) { regs = with_r1 destructor (with_r0 object (at_next next s.regs)); globals = g; memory = memory_of (with_lists l ws s) })
        (sym (heads_same l ws s q));
    still = record { map = k.map; stands = k.stands };
  }
  dropped_match next (Err why) l ws k q = record { same = (refl, refl); still = c }

  abbrev of_wrote : {A : Type 0} → Wrote A → Done A
  of_wrote d = record { answer = d.answer; globals = heads (lists_of s); writes = d.writes }

  fine : AreHeads (heads (lists_of s))
  fine = are_heads (word (memory_of s)) (heads (lists_of s)) (lists_of s) c.stands

  allocate_matches : (next : ℕ) → reg_in s 0 < 2 ^ 32 → GateMatches (allocate_gate next (bytes_of s)) (acts.allocate_gate next s)
  allocate_matches next small =
      let size = reg_in s 0 in
      let d = allocate_of (word (memory_of s)) size in
      by_call (of_wrote d) (allocate_of (words_in (lists_of s)) size).writes (allocate_list (lists_of s) size)
      (record {
        writes = ap (λ (v : Wrote (Result ℕ CxaFault)). v.writes) (same_allocate (word (memory_of s)) (heads (lists_of s)) (lists_of s) c.stands size);
        follows = allocate_meets (memory_of s) (set_slot_words d.writes (memory_of s)) d.answer size c.map small refl (heads (lists_of s)) (lists_of s) c.stands;
        tops = fine;
        cleanups = allocate_keeps (lists_of s) size;
      })
      (λ (q : Result ℕ CxaFault × Globals × Memory). allocate_outcome next (bytes_of s) (q.0, q.2)) (λ (t : Recorded) (r : Result ℕ CxaFault). acts.allocate_outcome next s t r)
      (λ r l vs k q e. allocated_match next r l vs k q e)

  free_matches : (next : ℕ) → GateMatches (free_gate next (bytes_of s)) (acts.free_gate next s)
  free_matches next =
      let at = object_slot (reg_in s 0) in
      let d = free_of (word (memory_of s)) at in
      by_call (of_wrote d) (free_of (words_in (lists_of s)) at).writes (free_list (lists_of s) at)
      (record {
        writes = ap (λ (v : Wrote (Result (Unit {0}) CxaFault)). v.writes) (same_free (word (memory_of s)) (heads (lists_of s)) (lists_of s) c.stands at (λ t e. object_small (reg_in s 0) t e));
        follows = free_meets (memory_of s) (set_slot_words d.writes (memory_of s)) d.answer (reg_in s 0) c.map refl (heads (lists_of s)) (lists_of s) c.stands;
        tops = fine;
        cleanups = free_keeps (lists_of s) at;
      })
      (λ (q : Result (Unit {0}) CxaFault × Globals × Memory). free_outcome next (bytes_of s) (q.0, q.2)) (λ (t : Recorded) (r : Result (Unit {0}) CxaFault). acts.free_outcome next s t r)
      (λ r l vs k q e. freed_match next r l vs k q e)

  small_head : (heads (lists_of s)).caught < 2 ^ 32
  small_head = go s.caught c.stands.shows.caught
    where
      go : (xs : List ℕ) → Chain (λ t. word (memory_of s) t NEXT_CAUGHT) (head_of xs) xs → head_of xs < 2 ^ 32
      go [] k = omega arith
      go (t ∷ more) k = let h = slot_small (block t) t k.0 in omega arith

  begin_matches : (next : ℕ) → GateMatches (begin_catch_gate next (bytes_of s)) (acts.begin_catch_gate next s)
  begin_matches next =
      let ucb = reg_in s 0 in
      let g = heads (lists_of s) in
      let d = begin_catch_of (word (memory_of s)) g ucb in
      by_call d (begin_catch_of (words_in (lists_of s)) g ucb).writes (acts.begin_catch s)
      (record {
        writes = catch_in_writes (word (memory_of s)) g (lists_of s) c.stands ucb (block_slot ucb) (λ t e. slot_small ucb t e);
        follows = begin_catch_meets (memory_of s) (set_slot_words d.writes (memory_of s)) g d.globals d.answer ucb c.map small_head refl (lists_of s) c.stands;
        tops = catch_heads (word (memory_of s)) g ucb (block_slot ucb) refl fine;
        cleanups = catch_keeps (acts.handler_address s) (lists_of s) (block_slot ucb);
      })
      (λ (q : Result ℕ CxaFault × Globals × Memory). begin_catch_outcome next (bytes_of s) q) (λ (t : Recorded) (r : Result ℕ CxaFault). acts.begin_catch_outcome next s t r)
      (λ r l vs k q e. caught_match next r l vs k q)

  end_matches : (next : ℕ) → GateMatches (end_catch_gate next (bytes_of s)) (acts.end_catch_gate next s)
  end_matches next =
      let g = heads (lists_of s) in
      let d = end_catch_of (word (memory_of s)) g in
      by_call d (end_catch_of (words_in (lists_of s)) g).writes (end_list (lists_of s))
      (record {
        writes = end_at_writes (word (memory_of s)) g (lists_of s) c.stands (block_slot g.caught) (λ t e. e);
        follows = end_catch_meets (memory_of s) (set_slot_words d.writes (memory_of s)) g d.globals d.answer c.map refl (lists_of s) c.stands;
        tops = end_heads (word (memory_of s)) g (block_slot g.caught) fine;
        cleanups = end_keeps (lists_of s);
      })
      (λ (q : Result (ℕ × ℕ) CxaFault × Globals × Memory). end_catch_outcome next (bytes_of s) q) (λ (t : Recorded) (r : Result (ℕ × ℕ) CxaFault). acts.end_catch_outcome next s t r)
      (λ r l vs k q e. dropped_match next r l vs k q)

  uncaught_matches : (next : ℕ) → GateMatches (uncaught_gate next (bytes_of s)) (acts.uncaught_gate next s)
  uncaught_matches next = record { same = refl; still = record { map = c.map; stands = c.stands } }

-- ---- by their numbers

choose : (b : Bool) (o o' : Outcome) (q q' : acts.Outcome) → (b ≡ true → GateMatches o q) → GateMatches o' q' → GateMatches (cond b o o') (cond b q q')
choose true o o' q q' h k = h refl
choose false o o' q q' h k = k

pub gates_match : (g : Tables) (number next : ℕ) (s : Recorded) → Corresponds s → reg_in s 0 < 2 ^ 32 → WalksNone number
    → GateMatches (gate_of g number next (bytes_of s)) (acts.gate_of g number next s)
unfolding gate_of acts.gate_of
gates_match g number next s c small w =
    choose (number == ALLOCATE_GATE) _ _ _ _ (λ e. allocate_matches s c next small) (
    choose (number == FREE_GATE) _ _ _ _ (λ e. free_matches s c next) (
    choose (number == THROW_GATE) _ _ _ _ (λ e. let i : number ≡ THROW_GATE = grind (arith, nat_tests) in absurd (w.throw i)) (
    choose (number == BEGIN_CATCH_GATE) _ _ _ _ (λ e. begin_matches s c next) (
    choose (number == END_CATCH_GATE) _ _ _ _ (λ e. end_matches s c next) (
    choose (number == RETHROW_GATE) _ _ _ _ (λ e. let i : number ≡ RETHROW_GATE = grind (arith, nat_tests) in absurd (w.rethrow i)) (
    choose (number == END_CLEANUP_GATE) _ _ _ _ (λ e. let i : number ≡ END_CLEANUP_GATE = grind (arith, nat_tests) in absurd (w.cleanup i)) (
    choose (number == UNEXPECTED_GATE) _ _ _ _ (λ e. record { same = (refl, refl); still = c }) (
    choose (number == TERMINATE_GATE) _ _ _ _ (λ e. record { same = (refl, refl); still = c }) (
    choose (number == UNCAUGHT_GATE) _ _ _ _ (λ e. uncaught_matches s c next) (record { same = (refl, refl); still = c }))))))))))
