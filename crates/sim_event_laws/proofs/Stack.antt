-- The tests of sp: at a lowering place, and above the landing sp of a cleanup in progress.
use Rattle.std.proofs.Common.{◌≡◌, ℕ, ◌<◌, ◌&&◌, nat_lt, Bool, true, false, cond, Option, Some, None, List, slice_index, refl, sym, ap, ◌∙◌, subst}
use Rattle.std.specs.Option.{option_or}
use Rattle.std.proofs.lemmas.Bool.{lt-ltb, ltb-true}
use Rattle.run_events.specs.Runs.{Event, Ends}
use Rattle.eh_bus.specs.Memory.{Memory}
use Rattle.eh_cxa.specs.Words.{word, block_slot}
use Rattle.eh_cxa.specs.Cleanup.{innermost_of, innermost_at}
use Rattle.thumb_ahead.specs.Ahead.{branches_some}
use Rattle.thumb_core.specs.Outcome.{Outcome as Stepping}
use Rattle.thumb_core.specs.Step.{instr_for}
use Rattle.thumb_core.specs.declared.regs.TheConstants.{SP}
use Rattle.thumb_core.specs.declared.regs.Regs.{Regs}
use Rattle.thumb_core.specs.declared.regs.CoreTrap.{CoreTrap}
use Rattle.thumb_core.specs.declared.regs.Stepped.{Stepped}
use Rattle.thumb_core.specs.declared.regs.Stepped.TheVariants.{Done, Call, Return, Gate, Trap}
use Rattle.thumb_core.specs.declared.ends.TrapKind.TheVariants as kind
use Rattle.thumb_core.specs.declared.ends.End.{End}
use Rattle.thumb_core.specs.declared.ends.End.TheVariants as the_end
use Rattle.eh_gates.specs.State.{State, reg}
use Rattle.sim_machines.specs.Program.{Program, profile_in}
use Rattle.sim_machines.specs.Machine.{leaves_cleanup, sp_end, control_flow_trap, tests, pass_tests, pass_step, pass_if_checked, pass_instruction, event_after_step, event_after_pass, update_guards_at, machine_event}
use Rattle.sim_event_laws.specs.Stack.{Does, LoweringsNeverRaise, IsRaised, OnlyLoweringsAreRaised, RisesAreRefused, IsRefused, OnlyRisesAreRefused}
use Rattle.sim_event_laws.proofs.EventEnds.{either, is_raised, gates_raised, is_sp, gates_sp, OfEvent, Lacks, flow_trap_is, acted_is}

-- ---- an event is its tests

by_what : (p : Program) (s : State) (input : List ℕ) (what : Stepped) (after : Regs) (m : Memory) → ((trap : CoreTrap) → what ≡ Trap trap → ⊥)
    → event_after_pass p s (pass_step p s (what, after, m)) input ≡ event_after_pass p s (pass_tests p s what after m (tests p s what after)) input
by_what p s input Done after m never = refl
by_what p s input (Call target ret) after m never = refl
by_what p s input (Return to) after m never = refl
by_what p s input (Gate number) after m never = refl
by_what p s input (Trap trap) after m never = absurd (never trap refl)

pub does_is : (p : Program) (s : State) (input : List ℕ) (what : Stepped) (after : Regs) (m : Memory) → Does p s what after m
    → machine_event p s input ≡ event_after_pass p s (pass_tests p s what after m (tests p s what after)) input
unfolding machine_event pass_instruction
does_is p s input what after m d =
    ap (λ (b : Bool). event_after_pass p s (pass_if_checked p s b) input) d.checked ∙ (ap (λ (o : Stepping). event_after_pass p s (pass_step p s o) input) d.step ∙ by_what p s input what after m d.no_trap)

-- ---- where sp rises at a lowering place

raised_end : (inner : Option ℕ) (low pc old new : ℕ) → old < new → sp_end true inner low pc old new ≡ Some (the_end.Trap kind.SpRaised new pc)
raised_end inner low pc old new r = rw (lt-ltb old new r) refl

pub never_raise : LoweringsNeverRaise
never_raise p s input what after m d r =
    let new = slice_index after.r SP in
    let inner : Option ℕ = innermost_of (word s.memory) s.globals in
    let flow_trap = control_flow_trap p (branches_some (instr_for (profile_in p) s.memory s.regs.pc) s.regs) s.regs.pc what after in
    let of : Bool → Option End = λ b. option_or (sp_end b inner s.memory.home.0 s.regs.pc (reg s SP) new) flow_trap in
    let sp : sp_end true inner s.memory.home.0 s.regs.pc (reg s SP) new ≡ Some (the_end.Trap kind.SpRaised new s.regs.pc) =
    raised_end inner s.memory.home.0 s.regs.pc (reg s SP) new r.rises in
    let test : tests p s what after ≡ Some (the_end.Trap kind.SpRaised new s.regs.pc) = ap of r.lowers ∙ ap (λ (o : Option End). option_or o flow_trap) sp in
    does_is p s input what after m d ∙ ap (λ (o : Option End). event_after_pass p s (pass_tests p s what after m o) input) test

-- ---- and only there

-- of a test's end: SpRaised only where sp rises at a lowering place
abbrev OnlyRaised : Program → State → Regs → Option End → Type 0
OnlyRaised p s after None = Unit {0}
OnlyRaised p s after (Some end) = (value pc : ℕ) → end ≡ the_end.Trap kind.SpRaised value pc → IsRaised p s after value

not_raised : (p : Program) (s : State) (after : Regs) (end : End) → is_raised end ≡ false → (value pc : ℕ) → end ≡ the_end.Trap kind.SpRaised value pc → IsRaised p s after value
not_raised p s after end h value pc e = absurd (let t : is_raised end ≡ true = ap is_raised e in let f : true ≡ false = sym t ∙ h in cc)

lacks_raised : (p : Program) (s : State) (after : Regs) (o : Option End) → Lacks is_raised gates_raised (λ n. refl) (λ v pc. refl) (λ v pc. refl) o → OnlyRaised p s after o
lacks_raised p s after None h = tt
lacks_raised p s after (Some end) h = not_raised p s after end h

module _ (p : Program) (s : State) (after : Regs) (flow_trap : Option End) (fine : OnlyRaised p s after flow_trap) where
  abbrev after_sp : ℕ
  after_sp = slice_index after.r SP

  -- the other tests of sp have other ends
  others : (inner : Option ℕ) → OnlyRaised p s after (option_or (sp_end false inner s.memory.home.0 s.regs.pc (reg s SP) after_sp) flow_trap)
  others inner =
      let P : Option End → Type 0 = λ o. OnlyRaised p s after (option_or o flow_trap) in
      either P (leaves_cleanup inner (reg s SP) after_sp) (Some (the_end.Trap kind.SpInCleanup after_sp s.regs.pc)) _
      (not_raised p s after (the_end.Trap kind.SpInCleanup after_sp s.regs.pc) refl)
      (either P (nat_lt after_sp s.memory.home.0) (Some (the_end.Trap kind.StackLimit after_sp s.regs.pc)) None
      (not_raised p s after (the_end.Trap kind.StackLimit after_sp s.regs.pc) refl) fine)

  by_place : (inner : Option ℕ) (b t : Bool) → (p.look s.regs.pc).lowers ≡ b → nat_lt (reg s SP) after_sp ≡ t
      → OnlyRaised p s after (option_or (cond (b && t) (Some (the_end.Trap kind.SpRaised after_sp s.regs.pc)) (sp_end false inner s.memory.home.0 s.regs.pc (reg s SP) after_sp)) flow_trap)
  by_place inner true true f g = λ value pc e. record { rises = record { lowers = f; rises = ltb-true (reg s SP) after_sp g }; is_value = cc }
  by_place inner true false f g = others inner
  by_place inner false t f g = others inner

tests_raised : (p : Program) (s : State) (what : Stepped) (after : Regs) → OnlyRaised p s after (tests p s what after)
tests_raised p s what after =
    let branches = branches_some (instr_for (profile_in p) s.memory s.regs.pc) s.regs in
    by_place p s after (control_flow_trap p branches s.regs.pc what after)
    (lacks_raised p s after (control_flow_trap p branches s.regs.pc what after)
    (flow_trap_is is_raised gates_raised (λ n. refl) (λ v pc. refl) (λ v pc. refl) p branches s.regs.pc what after))
    (innermost_of (word s.memory) s.globals) (p.look s.regs.pc).lowers (nat_lt (reg s SP) (slice_index after.r SP)) refl refl

ended_raised : (p : Program) (s t : State) (input : List ℕ) (what : Stepped) (after : Regs) (m : Memory) (value pc : ℕ) (o : Option End) → OnlyRaised p s after o
    → event_after_pass p s (pass_tests p s what after m o) input ≡ Ends (the_end.Trap kind.SpRaised value pc) t → IsRaised p s after value
ended_raised p s t input what after m value pc (Some end) h e =
    let same : end ≡ the_end.Trap kind.SpRaised value pc = cc in h value pc same
ended_raised p s t input what after m value pc None h e =
    let u : State = record s { regs = after; memory = update_guards_at p s after m } in
    let of : OfEvent is_raised gates_raised (λ n. refl) (λ v pc. refl) (λ v pc. refl) (event_after_step p s what u input) =
    acted_is is_raised gates_raised (λ n. refl) (λ v pc. refl) (λ v pc. refl) p s what u input in
    let f : true ≡ false = subst (λ (x : Event State End). OfEvent is_raised gates_raised (λ n. refl) (λ v pc. refl) (λ v pc. refl) x) e of in
    absurd (cc)

pub only_raised : OnlyLoweringsAreRaised
only_raised p s t input what after m value pc d e =
    ended_raised p s t input what after m value pc (tests p s what after) (tests_raised p s what after) (sym (does_is p s input what after m d) ∙ e)

-- ---- where sp rises above the landing sp

rises_end : (low pc old new landing : ℕ) → old < new → landing < new → sp_end false (Some landing) low pc old new ≡ Some (the_end.Trap kind.SpInCleanup new pc)
rises_end low pc old new landing r a = rw (lt-ltb old new r, lt-ltb landing new a) refl

pub rises : RisesAreRefused
rises p s input what after m landing d plain i r =
    let new = slice_index after.r SP in
    let flow_trap = control_flow_trap p (branches_some (instr_for (profile_in p) s.memory s.regs.pc) s.regs) s.regs.pc what after in
    let of : Bool → Option ℕ → Option End = λ b o. option_or (sp_end b o s.memory.home.0 s.regs.pc (reg s SP) new) flow_trap in
    let inner : innermost_at (word s.memory) (block_slot s.globals.cleanup) ≡ Some landing = ap (innermost_at (word s.memory)) i.is ∙ ap (λ (x : ℕ). Some x) i.sp in
    let sp : sp_end false (Some landing) s.memory.home.0 s.regs.pc (reg s SP) new ≡ Some (the_end.Trap kind.SpInCleanup new s.regs.pc) =
    rises_end s.memory.home.0 s.regs.pc (reg s SP) new landing r.rises r.above in
    let test : tests p s what after ≡ Some (the_end.Trap kind.SpInCleanup new s.regs.pc) =
    ap (λ (b : Bool). of b (innermost_of (word s.memory) s.globals)) plain ∙ ap (of false) inner ∙ ap (λ (o : Option End). option_or o flow_trap) sp in
    does_is p s input what after m d ∙ ap (λ (o : Option End). event_after_pass p s (pass_tests p s what after m o) input) test

-- ---- and only there

-- of a test's end: SpInCleanup only where it rises above
abbrev OnlyAbove : Program → State → Regs → Option End → Type 0
OnlyAbove p s after None = Unit {0}
OnlyAbove p s after (Some end) = (value pc : ℕ) → end ≡ the_end.Trap kind.SpInCleanup value pc → IsRefused p s after value

not_sp : (p : Program) (s : State) (after : Regs) (end : End) → is_sp end ≡ false → (value pc : ℕ) → end ≡ the_end.Trap kind.SpInCleanup value pc → IsRefused p s after value
not_sp p s after end h value pc e = absurd (let t : is_sp end ≡ true = ap is_sp e in let f : true ≡ false = sym t ∙ h in cc)

lacks : (p : Program) (s : State) (after : Regs) (o : Option End) → Lacks is_sp gates_sp (λ n. refl) (λ v pc. refl) (λ v pc. refl) o → OnlyAbove p s after o
lacks p s after None h = tt
lacks p s after (Some end) h = not_sp p s after end h

module _ (p : Program) (s : State) (after : Regs) (flow_trap : Option End) (fine : OnlyAbove p s after flow_trap) where
  abbrev new : ℕ
  new = slice_index after.r SP

  -- no rise above: the start of the stack, or the way
  below : (b : Bool) → OnlyAbove p s after (option_or (cond b (Some (the_end.Trap kind.StackLimit new s.regs.pc)) None) flow_trap)
  below true = not_sp p s after (the_end.Trap kind.StackLimit new s.regs.pc) refl
  below false = fine

  -- sp rises, so there is no lowering place
  plain_place : (b t : Bool) → t ≡ true → (b && t) ≡ false → b ≡ false
  plain_place true t e h = let f : true ≡ false = sym e ∙ h in absurd (cc)
  plain_place false t e h = refl

  above : ((p.look s.regs.pc).lowers && nat_lt (reg s SP) new) ≡ false → (slot : ℕ) → block_slot s.globals.cleanup ≡ Some slot → (t u : Bool) → nat_lt (reg s SP) new ≡ t → nat_lt (word s.memory slot 25) new ≡ u
      → OnlyAbove p s after (option_or (cond (t && u) (Some (the_end.Trap kind.SpInCleanup new s.regs.pc)) (cond (nat_lt new s.memory.home.0) (Some (the_end.Trap kind.StackLimit new s.regs.pc)) None)) flow_trap)
  above q slot is true true f g = λ value pc e. record {
    plain = plain_place (p.look s.regs.pc).lowers (nat_lt (reg s SP) new) f q;
    landing = word s.memory slot 25;
    innermost = record { slot = slot; is = is; sp = refl };
    rises = record { rises = ltb-true (reg s SP) new f; above = ltb-true (word s.memory slot 25) new g };
    is_value = cc;
  }
  above q slot is true false f g = below (nat_lt new s.memory.home.0)
  above q slot is false u f g = below (nat_lt new s.memory.home.0)

  by_slot : ((p.look s.regs.pc).lowers && nat_lt (reg s SP) new) ≡ false → (o : Option ℕ) → block_slot s.globals.cleanup ≡ o
      → OnlyAbove p s after (option_or (sp_end false (innermost_at (word s.memory) o) s.memory.home.0 s.regs.pc (reg s SP) new) flow_trap)
  by_slot q None is = below (nat_lt new s.memory.home.0)
  by_slot q (Some slot) is = above q slot is (nat_lt (reg s SP) new) (nat_lt (word s.memory slot 25) new) refl refl

  -- SpRaised is another end
  by_raise : (b : Bool) → ((p.look s.regs.pc).lowers && nat_lt (reg s SP) new) ≡ b
      → OnlyAbove p s after (option_or (cond b (Some (the_end.Trap kind.SpRaised new s.regs.pc)) (sp_end false (innermost_of (word s.memory) s.globals) s.memory.home.0 s.regs.pc (reg s SP) new)) flow_trap)
  by_raise true q = not_sp p s after (the_end.Trap kind.SpRaised new s.regs.pc) refl
  by_raise false q = by_slot q (block_slot s.globals.cleanup) refl

tests_only : (p : Program) (s : State) (what : Stepped) (after : Regs) → OnlyAbove p s after (tests p s what after)
tests_only p s what after =
    let branches = branches_some (instr_for (profile_in p) s.memory s.regs.pc) s.regs in
    by_raise p s after (control_flow_trap p branches s.regs.pc what after)
    (lacks p s after (control_flow_trap p branches s.regs.pc what after) (flow_trap_is is_sp gates_sp (λ n. refl) (λ v pc. refl) (λ v pc. refl) p branches s.regs.pc what after))
    ((p.look s.regs.pc).lowers && nat_lt (reg s SP) (slice_index after.r SP)) refl

ended_only : (p : Program) (s t : State) (input : List ℕ) (what : Stepped) (after : Regs) (m : Memory) (value pc : ℕ) (o : Option End) → OnlyAbove p s after o
    → event_after_pass p s (pass_tests p s what after m o) input ≡ Ends (the_end.Trap kind.SpInCleanup value pc) t → IsRefused p s after value
ended_only p s t input what after m value pc (Some end) h e =
    let same : end ≡ the_end.Trap kind.SpInCleanup value pc = cc in h value pc same
ended_only p s t input what after m value pc None h e =
    let u : State = record s { regs = after; memory = update_guards_at p s after m } in
    let of : OfEvent is_sp gates_sp (λ n. refl) (λ v pc. refl) (λ v pc. refl) (event_after_step p s what u input) = acted_is is_sp gates_sp (λ n. refl) (λ v pc. refl) (λ v pc. refl) p s what u input in
    let f : true ≡ false = subst (λ (x : Event State End). OfEvent is_sp gates_sp (λ n. refl) (λ v pc. refl) (λ v pc. refl) x) e of in
    absurd (cc)

pub only_rises : OnlyRisesAreRefused
only_rises p s t input what after m value pc d e =
    ended_only p s t input what after m value pc (tests p s what after) (tests_only p s what after) (sym (does_is p s input what after m d) ∙ e)
