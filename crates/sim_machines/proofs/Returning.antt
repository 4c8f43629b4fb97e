-- Returns that find what was recorded do the same over bytes and with recorded activations; so does the first event of a run.
use Rattle.std.proofs.Common.{◌≡◌, ℕ, ◌<◌, ◌≤◌, inl, inr, ◌==◌, ◌||◌, nat_le, nat_lt, Bool, true, false, cond, List, [], ◌∷◌, ◌++◌, filter, slice_index, Option, Some, None, refl, sym, ap, subst, ◌∙◌, arith}
use Rattle.std.specs.Option.{option_or}
use Rattle.std.proofs.lemmas.Bool.{le-ltb, lt-leb, ltb-false}
use Rattle.std.proofs.lemmas.Bool.Decides.{nat_tests}
use Rattle.eh_bus.specs.Lists.{Has}
use Rattle.eh_bus.specs.Guards.{insert_all}
use Rattle.eh_bus.specs.Memory.{Memory, stays_guarded}
use Rattle.run_gates.specs.declared.gates.TheConstants.{NO_CALLER}
use Rattle.run_gates.specs.Gates.{r0}
use Rattle.thumb_ahead.specs.Ahead.{branches_some, pushes_some}
use Rattle.thumb_isa.specs.declared.instr.Instr.{Instr}
use Rattle.thumb_core.specs.Laws.{KeepsMap, Leaves, ReturnsTo}
use Rattle.thumb_core.specs.Outcome.{Outcome as Stepping}
use Rattle.thumb_core.specs.Step.{step_for, instr_for}
use Rattle.thumb_core.proofs.Acts.{step_acts}
use Rattle.thumb_core.proofs.Follows.{step_follows}
use Rattle.eh_cxa.specs.ListCalls.{innermost_in}
use Rattle.thumb_core.specs.declared.regs.TheConstants.{SP}
use Rattle.thumb_core.specs.declared.regs.Regs.{Regs}
use Rattle.thumb_core.specs.declared.regs.Stepped.TheVariants.{Return}
use Rattle.thumb_core.specs.declared.ends.End.{End}
use Rattle.thumb_core.specs.declared.ends.End.TheVariants as the_end
use Rattle.eh_gates.specs.State.{State}
use Rattle.sim_machines.specs.Program.{Program, profile_in}
use Rattle.sim_machines.specs.Machine as bytes
use Rattle.sim_machines.specs.Machine.{saved_words, fell_off, sp_end}
use Rattle.sim_machines.specs.Activations.{Activation, Recorded, reg_in, guarded_words, release_raised, with_slots, memory_of, heads, bytes_of, lists_of, cleanups_in}
use Rattle.sim_machines.specs.ActivationMachine as acts
use Rattle.sim_machines.specs.ActivationLaws.{Matches, KnowsLanding}
use Rattle.sim_machines.specs.RecordedSlots.{FindsCaller, ReturnsMatch}
use Rattle.sim_machines.proofs.Matching.{reguards}

-- ---- a return pushes nothing

pushes_none : (there : Option (Instr × ℕ)) (to : ℕ) (regs after : Regs) (m : Memory) → ReturnsTo there to regs m after → pushes_some there ≡ 0
pushes_none there to regs after m (inl (k, size, e, f, g)) = ap pushes_some e
pushes_none there to regs after m (inr (mask, size, e, f)) = ap pushes_some e

-- ---- and its activation keeps no slot that stays

pub none_pass : (p : ℕ → Bool) (gs : List ℕ) → ((g : ℕ) → Has gs g → p g ≡ false) → filter p gs ≡ []
none_pass p [] h = refl
none_pass p (g ∷ more) h = let e = h g (inl refl) in rw e (none_pass p more (λ x i. h x (inr i)))

none_there : (gs : List ℕ) → ((g : ℕ) → Has gs g → ⊥) → gs ≡ []
none_there [] h = refl
none_there (g ∷ more) h = absurd (h g (inl refl))

pub leaves_home : (low new g : ℕ) → low ≤ g → g < new → (nat_le new g || nat_lt g low) ≡ false
leaves_home low new g h l = rw (lt-leb new g l, le-ltb g low h) refl

module _ (p : Program) (s : Recorded) (knows : KnowsLanding s) (to : ℕ) (regs : Regs) (m : Memory) (k : KeepsMap (memory_of s) m)
    (pushes : pushes_some (instr_for (profile_in p) (memory_of s) s.regs.pc) ≡ 0) (finds : FindsCaller s to regs) where
  abbrev new : ℕ
  new = slice_index regs.r SP

  no_slots : (release_raised s.home (reg_in s SP) new s.first).slots ≡ []
  no_slots = go (nat_lt (reg_in s SP) new) refl
    where
      go : (b : Bool) → nat_lt (reg_in s SP) new ≡ b → cond b (filter (stays_guarded s.home new) s.first.slots) s.first.slots ≡ []
      go true e = none_pass (stays_guarded s.home new) s.first.slots (λ g h. let f = finds.slots g h in leaves_home s.home.0 new g f.0 f.2)
      go false e =
          let low = ltb-false (reg_in s SP) new e in
          none_there s.first.slots (λ g h. let f = finds.slots g h in let a = f.1 in let b = f.2 in omega arith)

  abbrev base : Recorded
  base = acts.update_slots_at p s regs (record s { regs = regs; segments = m.segments })

  base_slots : base.first.slots ≡ []
  base_slots =
      ap (λ (n : ℕ). (release_raised s.home (reg_in s SP) new (with_slots (saved_words (p.look s.regs.pc).saves n new) s.first)).slots) pushes ∙ no_slots

  left_same : (xs : List Activation) (u : Recorded) → u.outer ≡ xs → u.first.slots ≡ [] → bytes_of u ≡ bytes_of (acts.with_remaining xs u)
  left_same [] u e n = refl
  left_same (a ∷ more) u e n =
      let one : List ℕ → State = λ gs. record { regs = u.regs; globals = heads (lists_of u); memory = record { segments = u.segments; guards = insert_all gs []; home = u.home }; events = u.events } in
      ap one (ap (λ (gs : List ℕ). gs ++ guarded_words u.beyond u.outer) n ∙ ap (guarded_words u.beyond) e)

  same_way : (outer : List Activation) → s.outer ≡ outer → cond (to == NO_CALLER) (Some (the_end.Exit (r0 regs))) (fell_off p s.regs.pc regs.pc) ≡ acts.return_end p s.regs.pc outer regs
  same_way [] e = rw (finds.last e) refl
  same_way (a ∷ more) e = go (to == NO_CALLER) refl
    where
      go : (b : Bool) → (to == NO_CALLER) ≡ b → cond b (Some (the_end.Exit (r0 regs))) (fell_off p s.regs.pc regs.pc) ≡ fell_off p s.regs.pc regs.pc
      go true f = let nobody : to ≡ NO_CALLER = grind (arith, nat_tests) in absurd (finds.called a more e nobody)
      go false f = refl

  same_tests : bytes.tests p (bytes_of s) (Return to) regs ≡ acts.tests p s (Return to) regs
  same_tests =
      ap (λ (l : Option ℕ). option_or (sp_end (p.look s.regs.pc).lowers l s.home.0 s.regs.pc (reg_in s SP) new) (bytes.control_flow_trap p (branches_some (instr_for (profile_in p) (memory_of s) s.regs.pc) s.regs) s.regs.pc (Return to) regs)) knows
      ∙ ap (λ (w : Option End). option_or (sp_end (p.look s.regs.pc).lowers (innermost_in (cleanups_in s.cleanups)) s.home.0 s.regs.pc (reg_in s SP) new) w) (same_way s.outer refl)

  module _ (input : List ℕ) where
    abbrev Match : bytes.PassResult → acts.PassResult → Type 0
    Match b t = Matches (bytes.event_after_pass p (bytes_of s) b input) (acts.event_after_pass p s t input)

    tested_match : (o : Option End) → Match (bytes.pass_tests p (bytes_of s) (Return to) regs m o) (acts.pass_tests p s (Return to) regs m o)
    tested_match (Some end) = (refl, refl)
    tested_match None = (reguards p s knows regs m k ∙ left_same base.outer base refl base_slots, refl, refl)

    stepped_match : Match (bytes.pass_step p (bytes_of s) (Return to, regs, m)) (acts.pass_step p s (Return to, regs, m))
    stepped_match =
        subst (λ (r : Regs). Match (bytes.pass_tests p (bytes_of s) (Return to) regs m (bytes.tests p (bytes_of s) (Return to) regs)) (acts.with_tests p s (Return to) r m)) (sym finds.same)
        (subst (λ (o : Option End). Match (bytes.pass_tests p (bytes_of s) (Return to) regs m o) (acts.with_tests p s (Return to) regs m)) (sym same_tests)
        (tested_match (acts.tests p s (Return to) regs)))

    checked_match : step_for (profile_in p) s.regs (memory_of s) ≡ (Return to, regs, m) → (b : Bool) → Match (bytes.pass_if_checked p (bytes_of s) b) (acts.pass_if_checked p s b)
    checked_match e false = (refl, refl)
    checked_match e true = subst (λ (o : Stepping). Match (bytes.pass_step p (bytes_of s) o) (acts.pass_step p s o)) (sym e) stepped_match

    event_match : step_for (profile_in p) s.regs (memory_of s) ≡ (Return to, regs, m) → Matches (bytes.machine_event p (bytes_of s) input) (acts.recorded_event p s input)
    unfolding bytes.machine_event acts.recorded_event bytes.pass_instruction acts.pass_instruction
    event_match e = checked_match e (p.look s.regs.pc).is_instr

pub returns_match : ReturnsMatch
returns_match p s input to regs m knows words e finds =
    let acting = step_acts (profile_in p) s.regs (memory_of s) (record { count = words.count; words = words.small }) in
    let left : ReturnsTo (instr_for (profile_in p) (memory_of s) s.regs.pc) to s.regs (memory_of s) regs =
    subst (λ (o : Stepping). Leaves (instr_for (profile_in p) (memory_of s) s.regs.pc) o.0 s.regs (memory_of s) o.1) e acting.leaves in
    let k : KeepsMap (memory_of s) m = subst (λ (o : Stepping). KeepsMap (memory_of s) o.2) e (step_follows (profile_in p) s.regs (memory_of s)).memory in
    event_match p s knows to regs m k (pushes_none (instr_for (profile_in p) (memory_of s) s.regs.pc) to s.regs regs (memory_of s) left) finds input e
