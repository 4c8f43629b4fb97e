-- One event: of any exception but one that it throws, what is due next is entered, or what is due stays.
use Rattle.std.proofs.Common.{◌≡◌, ℕ, Result, Ok, Err, ◌<◌, ◌≤◌, ◌==◌, inl, inr, nat_lt, Bool, true, false, cond, List, [], ◌∷◌, Option, Some, None, refl, sym, ap, subst, ◌∙◌, arith}
use Rattle.std.proofs.lemmas.Bool.{eqb-true}
use Rattle.std.proofs.lemmas.Bool.Decides.{nat_tests}
use Rattle.run_events.specs.Runs.{Event, Goes, Ends}
use Rattle.eh_bus.specs.Lists.{Has}
use Rattle.eh_bus.specs.Memory.{Memory}
use Rattle.eh_cxa.specs.Lists.{slots}
use Rattle.eh_cxa.specs.ListCalls.{throw_list, rethrow_from, rethrow_list}
use Rattle.eh_cxa.specs.declared.globals.CxaFault.{CxaFault}
use Rattle.eh_cxa.specs.declared.globals.CxaFault.TheVariants.{BadObject, NoCaught}
use Rattle.eh_cxa.specs.Stands as cxa
use Rattle.eh_cxa.specs.Words.{word, object_slot}
use Rattle.eh_cxa.specs.declared.layout.TheConstants.{SLOTS, NEXT_CAUGHT, NEXT_CLEANUP}
use Rattle.eh_cxa.proofs.Pools.{slot_small, object_small, slot_of_block_is}
use Rattle.eh_gates.specs.declared.gates.TheConstants.{THROW_GATE, RETHROW_GATE, END_CLEANUP_GATE}
use Rattle.eh_gates.specs.declared.state.Turned.TheVariants.{Went}
use Rattle.run_gates.specs.declared.gates.TheConstants.{INPUT_GATE}
use Rattle.thumb_core.specs.Outcome.{Outcome as Stepping}
use Rattle.run_images.specs.Profiles.{profile_of}
use Rattle.thumb_core.specs.Step.{step_for}
use Rattle.thumb_core.specs.declared.regs.TheConstants.{SP}
use Rattle.thumb_core.specs.declared.regs.Regs.{Regs}
use Rattle.thumb_core.specs.declared.regs.Stepped.{Stepped}
use Rattle.thumb_core.specs.declared.regs.Stepped.TheVariants.{Done, Call, Return, Gate, Trap}
use Rattle.thumb_core.specs.declared.ends.End.{End}
use Rattle.frame_check.specs.Accepts.{Accepted}
use Rattle.sim_machines.specs.Checked.{program_of}
use Rattle.sim_machines.specs.Program.{program_tables}
use Rattle.sim_machines.specs.Activations.{Activation, Recorded, reg_in, memory_of, heads, lists_of, cleanups_in, InProgress}
use Rattle.sim_machines.specs.ActivationLaws.{callers}
use Rattle.sim_machines.specs.ActivationMachine as machine
use Rattle.sim_machines.specs.Corresponds.{IsNoCall, WalksNone}
use Rattle.sim_relation.specs.Cleanups.{goal_at, AreInProgress}
use Rattle.sim_relation.specs.Stands.{Keeps, IsProgram, OnEvent}
use Rattle.sim_runs.specs.Turned.{AreBytes}
use Rattle.sim_runs.proofs.OneEvent.{turns}
use Rattle.sim_landings.specs.Landings.{gate_at, gate_in, slot_thrown_by, slot_thrown_at, innermost, slot_resumed_by, slot_resumed_at, Pad, landing_by_slots, stands_at, AreFirst, top_of}
use Rattle.sim_landings.specs.Due.{due_among, left_due, GoesOnBy, GoesOn, DueAfter}
use Rattle.sim_landings.specs.LandingLaws.{DueGoesOn}
use Rattle.sim_landings.proofs.Beside.{same_goal}
use Rattle.sim_landings.proofs.Ended.{EndsSo, ends_so, ends_land, ends_leave}
use Rattle.sim_landings.proofs.Flies.{throw_flies, rethrow_flies}
use Rattle.sim_landings.proofs.FlightDue.{not_went}
use Rattle.sim_landings.proofs.Kept.{Moved, among_kept}
use Rattle.sim_landings.proofs.Landed.{went_is}
use Rattle.sim_landings.proofs.Plain.{IsQuiet, plain_quiet}
use Rattle.sim_landings.proofs.Tamed.{IsTamed, gate_tames}
use Rattle.sim_landings.proofs.Threw.{threw_leaves}
use Rattle.sim_landings.proofs.Walked.{ByGate, by_gate}

pub chained_small : (next : ℕ → ℕ) (head : ℕ) (xs : List ℕ) (slot : ℕ) → cxa.Chain next head xs → Has xs slot → slot < SLOTS
chained_small next head [] slot h has = absurd has
chained_small next head (y ∷ more) slot h (inl e) = let w = slot_small head y h.0 in omega (arith, e, w)
chained_small next head (y ∷ more) slot h (inr later) = chained_small next (next y) more slot h.1 later

-- by what lands: nothing, an exception of another slot, or the slot's own
module _ (slot : ℕ) (old new : List Pad) (at : Pad) where
  pub on_none : new ≡ old → GoesOn slot old new (landing_by_slots at None None)
  on_none e = e

  -- an exception is thrown
  pub on_thrown : (thrown : ℕ) (resumed : Option ℕ) → ((thrown ≡ slot → ⊥) → new ≡ old) → GoesOn slot old new (landing_by_slots at (Some thrown) resumed)
  on_thrown thrown resumed kept = go (thrown == slot) refl
    where
      go : (b : Bool) → (thrown == slot) ≡ b → GoesOnBy b false at old new
      go true e = tt
      go false e = kept (λ f. absurd (let t : (thrown == slot) ≡ true = grind (arith, nat_tests) in let clash : true ≡ false = sym t ∙ e in cc))

  pub on_resumed : (resumed : ℕ) → (resumed ≡ slot → AreFirst (at ∷ new) old) → ((resumed ≡ slot → ⊥) → new ≡ old) → GoesOn slot old new (landing_by_slots at None (Some resumed))
  on_resumed resumed enters kept = go (resumed == slot) refl
    where
      go : (b : Bool) → (resumed == slot) ≡ b → GoesOnBy b true at old new
      go true e = enters (eqb-true resumed slot e)
      go false e = kept (λ f. absurd (let t : (resumed == slot) ≡ true = grind (arith, nat_tests) in let clash : true ≡ false = sym t ∙ e in cc))

-- an exception whose slot the machine gives: of the object in r0, or on top of the caught stack
pub caught_small : (s : Recorded) (x : Accepted) → Keeps x s → (slot : ℕ) → top_of s.caught ≡ Some slot → slot < SLOTS
caught_small s x k slot e = go s.caught k.corresponds.stands.shows.caught e
  where
    go : (xs : List ℕ) → cxa.Chain (λ t. word (memory_of s) t NEXT_CAUGHT) (heads (lists_of s)).caught xs → top_of xs ≡ Some slot → slot < SLOTS
    go [] h f = absurd cc
    go (y ∷ more) h f = let same : y ≡ slot = cc in let w = slot_small (heads (lists_of s)).caught y h.0 in omega (arith, same, w)

-- nothing lands
module _ (x : Accepted) (s t : Recorded) (k : Keeps x s) (kt : Keeps x t) (slot : ℕ) where
  stays : t.cleanups ≡ s.cleanups → Moved (s.first ∷ s.outer) (t.first ∷ t.outer) → (Has (slots (cleanups_in s.cleanups)) slot → goal_at t slot ≡ goal_at s slot)
      → left_due x.image t slot ≡ left_due x.image s slot
  stays l moved goal =
      let there : AreInProgress x t (reg_in t SP) s.cleanups = subst (AreInProgress x t (reg_in t SP)) l kt.cleanups in
      ap (due_among x.image t slot) l ∙ among_kept x x.image s t slot moved (reg_in s SP) (reg_in t SP) s.cleanups goal k.cleanups there

  pub quiet_stays : IsQuiet s t → left_due x.image t slot ≡ left_due x.image s slot
  quiet_stays q =
      stays q.cleanups q.moved
      (λ has. same_goal s t slot (q.same slot (chained_small (λ u. word (memory_of s) u NEXT_CLEANUP) (heads (lists_of s)).cleanup (slots (cleanups_in s.cleanups)) slot k.corresponds.stands.shows.cleanups has)))

  pub tamed_stays : IsTamed s t → left_due x.image t slot ≡ left_due x.image s slot
  tamed_stays q =
      stays q.cleanups (inl (0, ap (λ (a : Activation). callers (a ∷ t.outer)) q.first ∙ ap (λ (xs : List Activation). callers (s.first ∷ xs)) q.outer)) (q.same slot)

-- ---- by the instruction

module _ (x : Accepted) (is : IsProgram x) (s : Recorded) (k : Keeps x s) (t : Recorded) (kt : Keeps x t) (slot : ℕ) where
  abbrev Next : Option ℕ → Type 0
  Next gate = GoesOn slot (left_due x.image s slot) (left_due x.image t slot) (landing_by_slots (stands_at t) (slot_thrown_by s gate) (slot_resumed_by s gate))

  -- a throw
  by_throw : (thrown : Option ℕ) → object_slot (reg_in s 0) ≡ thrown → (resumed : Option ℕ) → machine.throw_gate (program_tables (program_of x)) s ≡ (Went, t)
      → GoesOn slot (left_due x.image s slot) (left_due x.image t slot) (landing_by_slots (stands_at t) thrown resumed)
  by_throw None at resumed e = absurd (no_object (machine.first_flight s).answer (ap (λ (o : Option ℕ). (throw_list (lists_of s) o (machine.thrown_words s)).answer) at) e)
    where
      no_object : (r : Result ℕ CxaFault) → r ≡ Err BadObject → machine.throw_outcome (program_tables (program_of x)) s r ≡ (Went, t) → ⊥
      no_object (Ok control) f q = absurd cc
      no_object (Err why) f q = not_went _ s t q
  by_throw (Some thrown) at resumed e =
      on_thrown slot (left_due x.image s slot) (left_due x.image t slot) (stands_at t) thrown resumed
      (λ differ. threw_leaves x is s k t thrown (object_small (reg_in s 0) thrown at) (machine.gate_thrown s) (throw_flies (program_tables (program_of x)) s t thrown at e) kt slot differ)

  by_rethrow : (thrown : Option ℕ) → top_of s.caught ≡ thrown → (resumed : Option ℕ) → machine.rethrow_gate (program_tables (program_of x)) s ≡ (Went, t)
      → GoesOn slot (left_due x.image s slot) (left_due x.image t slot) (landing_by_slots (stands_at t) thrown resumed)
  by_rethrow None at resumed e = absurd (go s.caught refl at (rethrow_list (lists_of s)).answer refl e)
    where
      go : (xs : List ℕ) → s.caught ≡ xs → top_of xs ≡ None → (r : Result ℕ CxaFault) → (rethrow_list (lists_of s)).answer ≡ r → machine.rethrow_outcome (program_tables (program_of x)) s r ≡ (Went, t) → ⊥
      go [] f g (Ok control) a q = absurd (let w : ◌≡◌ {A = Result ℕ CxaFault} (Err NoCaught) (Ok control) = sym (ap (λ ys. (rethrow_from (lists_of s) ys).answer) f) ∙ a in cc)
      go [] f g (Err why) a q = not_went _ s t q
      go (y ∷ more) f g r a q = absurd cc
  by_rethrow (Some thrown) at resumed e =
      let small = caught_small s x k thrown at in
      on_thrown slot (left_due x.image s slot) (left_due x.image t slot) (stands_at t) thrown resumed
      (λ differ. threw_leaves x is s k t thrown small (machine.slot_thrown (lists_of s) (Some thrown)) (rethrow_flies (program_tables (program_of x)) s t thrown (slot_of_block_is thrown small) at e) kt slot differ)

  by_end : EndsSo (program_tables (program_of x)) s (machine.end_cleanup_gate (program_tables (program_of x)) s) → machine.end_cleanup_gate (program_tables (program_of x)) s ≡ (Went, t)
      → GoesOn slot (left_due x.image s slot) (left_due x.image t slot) (landing_by_slots (stands_at t) None (innermost s.cleanups))
  by_end (inr (end, f, trap)) e = absurd (not_went end s t (sym f ∙ e))
  by_end (inl r) e =
      subst (λ (cs : List InProgress). GoesOn slot (left_due x.image s slot) (left_due x.image t slot) (landing_by_slots (stands_at t) None (innermost cs))) (sym r.cleanups)
      (on_resumed slot (left_due x.image s slot) (left_due x.image t slot) (stands_at t) r.ends.cleanup.slot
      (λ own. subst (λ (n : ℕ). AreFirst (stands_at t ∷ left_due x.image t n) (left_due x.image s n)) own (ends_land x is s k (program_tables (program_of x)) refl _ r t e))
      (λ differ. ends_leave x is s k (program_tables (program_of x)) refl _ r t e kt slot differ))

  abbrev AtGate : ℕ → Bool → Bool → Bool → Type 0
  AtGate number a b c =
      GoesOn slot (left_due x.image s slot) (left_due x.image t slot)
      (landing_by_slots (stands_at t) (cond a (object_slot (reg_in s 0)) (cond b (top_of s.caught) None)) (cond c (innermost s.cleanups) None))

  at_gate : (number next : ℕ) → machine.gate_of (program_tables (program_of x)) number next s ≡ (Went, t) → (a b c : Bool) → (number == THROW_GATE) ≡ a → (number == RETHROW_GATE) ≡ b → (number == END_CLEANUP_GATE) ≡ c → AtGate number a b c
  unfolding machine.gate_of
  at_gate number next e true b c f g h =
      by_throw (object_slot (reg_in s 0)) refl (cond c (innermost s.cleanups) None) (subst (λ (n : ℕ). machine.gate_of (program_tables (program_of x)) n next s ≡ (Went, t)) (eqb-true number THROW_GATE f) e)
  at_gate number next e false true c f g h =
      by_rethrow (top_of s.caught) refl (cond c (innermost s.cleanups) None) (subst (λ (n : ℕ). machine.gate_of (program_tables (program_of x)) n next s ≡ (Went, t)) (eqb-true number RETHROW_GATE g) e)
  at_gate number next e false false true f g h =
      by_end (ends_so (program_tables (program_of x)) s) (subst (λ (n : ℕ). machine.gate_of (program_tables (program_of x)) n next s ≡ (Went, t)) (eqb-true number END_CLEANUP_GATE h) e)
  at_gate number next e false false false f g h =
      let walks : WalksNone number = record {
        throw = λ q. (let w : (number == THROW_GATE) ≡ true = grind (arith, nat_tests) in let clash : true ≡ false = sym w ∙ f in absurd cc);
        rethrow = λ q. (let w : (number == RETHROW_GATE) ≡ true = grind (arith, nat_tests) in let clash : true ≡ false = sym w ∙ g in absurd cc);
        cleanup = λ q. (let w : (number == END_CLEANUP_GATE) ≡ true = grind (arith, nat_tests) in let clash : true ≡ false = sym w ∙ h in absurd cc);
      } in
      tamed_stays x s t k kt slot (went_is (IsTamed s) (machine.gate_of (program_tables (program_of x)) number next s) t (gate_tames s k.corresponds next (program_tables (program_of x)) number walks) e)

module _ (x : Accepted) (is : IsProgram x) (s : Recorded) (k : Keeps x s) (input : List ℕ) (slot : ℕ) where
  abbrev After : Event Recorded End → Type 0
  After e = DueAfter x.image s slot e

  none_lands : (gate : Option ℕ) → (t : Recorded) → slot_thrown_by s gate ≡ None → slot_resumed_by s gate ≡ None → left_due x.image t slot ≡ left_due x.image s slot
      → GoesOn slot (left_due x.image s slot) (left_due x.image t slot) (landing_by_slots (stands_at t) (slot_thrown_by s gate) (slot_resumed_by s gate))
  none_lands gate t f g e =
      subst (λ (o : Option ℕ). GoesOn slot (left_due x.image s slot) (left_due x.image t slot) (landing_by_slots (stands_at t) o (slot_resumed_by s gate))) (sym f)
      (subst (λ (o : Option ℕ). GoesOn slot (left_due x.image s slot) (left_due x.image t slot) (landing_by_slots (stands_at t) None o)) (sym g) e)

  plain : (e : Event Recorded End) → machine.recorded_event (program_of x) s input ≡ e → OnEvent x e → IsNoCall (step_for (profile_of x.image) s.regs (memory_of s)).0 → slot_thrown_at (profile_of x.image) s ≡ None → slot_resumed_at (profile_of x.image) s ≡ None → After e
  plain (Ends end t) q kt h f g = tt
  plain (Goes t text left) q kt h f g = none_lands (gate_at (profile_of x.image) s) t f g (quiet_stays x s t k kt slot (plain_quiet (program_of x) s t input text left h q))

  walked : (number : ℕ) (regs : Regs) (m : Memory) (step : step_for (profile_of x.image) s.regs (memory_of s) ≡ (Gate number, regs, m)) (high : nat_lt INPUT_GATE number ≡ true) (e : Event Recorded End) → OnEvent x e
      → ByGate (program_of x) s input number regs m step high e → After e
  walked number regs m step high (Ends end t) kt b = tt
  walked number regs m step high (Goes t text left) kt b =
      let at : gate_at (profile_of x.image) s ≡ Some number = ap (λ (o : Stepping). gate_in o.0) step in
      subst (λ (gate : Option ℕ). GoesOn slot (left_due x.image s slot) (left_due x.image t slot) (landing_by_slots (stands_at t) (slot_thrown_by s gate) (slot_resumed_by s gate))) (sym at)
      (at_gate x is s k t kt slot number regs.pc b.0 (number == THROW_GATE) (number == RETHROW_GATE) (number == END_CLEANUP_GATE) refl refl refl)

  keeps : AreBytes input → OnEvent x (machine.recorded_event (program_of x) s input)
  keeps bytes = (turns x s input is k bytes).keeps

  no_gate : (what : Stepped) → IsNoCall what → (slot_thrown_by s (gate_in what) ≡ None) × (slot_resumed_by s (gate_in what) ≡ None)
  no_gate Done h = (refl, refl)
  no_gate (Call target ret) h = (refl, refl)
  no_gate (Return to) h = (refl, refl)
  no_gate (Trap trap) h = (refl, refl)
  no_gate (Gate number) h = go (number == THROW_GATE) (number == RETHROW_GATE) (number == END_CLEANUP_GATE) refl refl refl
    where
      go : (a b c : Bool) → (number == THROW_GATE) ≡ a → (number == RETHROW_GATE) ≡ b → (number == END_CLEANUP_GATE) ≡ c
          → (cond a (object_slot (reg_in s 0)) (cond b (top_of s.caught) None) ≡ None) × (cond c (innermost s.cleanups) None ≡ None)
      go true b c f g e = absurd (let w = eqb-true number THROW_GATE f in omega (arith, w, h))
      go false true c f g e = absurd (let w = eqb-true number RETHROW_GATE g in omega (arith, w, h))
      go false false true f g e = absurd (let w = eqb-true number END_CLEANUP_GATE e in omega (arith, w, h))
      go false false false f g e = (refl, refl)

  by_step : AreBytes input → (o : Stepping) → step_for (profile_of x.image) s.regs (memory_of s) ≡ o → After (machine.recorded_event (program_of x) s input)
  by_step bytes (what, regs, m) step = go what step
    where
      quiet : (what : Stepped) → step_for (profile_of x.image) s.regs (memory_of s) ≡ (what, regs, m) → IsNoCall what → After (machine.recorded_event (program_of x) s input)
      quiet what step h =
          let same : (step_for (profile_of x.image) s.regs (memory_of s)).0 ≡ what = ap (λ (o : Stepping). o.0) step in
          let none = no_gate what h in
          plain (machine.recorded_event (program_of x) s input) refl (keeps bytes) (subst IsNoCall (sym same) h) (ap (λ (w : Stepped). slot_thrown_by s (gate_in w)) same ∙ none.0) (ap (λ (w : Stepped). slot_resumed_by s (gate_in w)) same ∙ none.1)

      at_number : (number : ℕ) → step_for (profile_of x.image) s.regs (memory_of s) ≡ (Gate number, regs, m) → (b : Bool) → nat_lt INPUT_GATE number ≡ b → After (machine.recorded_event (program_of x) s input)
      at_number number step true high =
          walked number regs m step high (machine.recorded_event (program_of x) s input) (keeps bytes) (by_gate (program_of x) s input number regs m step high)
      at_number number step false low = quiet (Gate number) step (let w : number ≤ INPUT_GATE = grind (arith, nat_tests) in w)

      go : (what : Stepped) → step_for (profile_of x.image) s.regs (memory_of s) ≡ (what, regs, m) → After (machine.recorded_event (program_of x) s input)
      go Done step = quiet Done step tt
      go (Call target ret) step = quiet (Call target ret) step tt
      go (Return to) step = quiet (Return to) step tt
      go (Trap trap) step = quiet (Trap trap) step tt
      go (Gate number) step = at_number number step (nat_lt INPUT_GATE number) refl

pub due_goes_on : DueGoesOn
due_goes_on x s input slot is k bytes = by_step x is s k input slot bytes (step_for (profile_of x.image) s.regs (memory_of s)) refl
