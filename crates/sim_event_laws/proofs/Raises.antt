-- The guarded words that an event lets go where sp rises.
use Rattle.std.proofs.Common.{◌≡◌, ℕ, List, [], Option, Some, None, slice_index, refl, sym, subst, ◌∙◌}
use Rattle.run_events.specs.Runs.{Event, Goes}
use Rattle.eh_bus.specs.Memory.{Memory}
use Rattle.thumb_ahead.specs.Ahead.{pushes_some}
use Rattle.thumb_core.specs.Step.{instr_for}
use Rattle.thumb_core.specs.declared.regs.TheConstants.{SP}
use Rattle.thumb_core.specs.declared.regs.Regs.{Regs}
use Rattle.thumb_core.specs.declared.regs.CoreTrap.{CoreTrap}
use Rattle.thumb_core.specs.declared.regs.Stepped.{Stepped}
use Rattle.thumb_core.specs.declared.regs.Stepped.TheVariants.{Done, Call, Return, Gate, Trap}
use Rattle.thumb_core.specs.declared.ends.End.{End}
use Rattle.eh_gates.specs.State.{State, reg}
use Rattle.sim_machines.specs.Laws.{GuardsAreReleased}
use Rattle.sim_machines.specs.Program.{Program, profile_in}
use Rattle.sim_machines.specs.Machine.{update_guards, update_guards_at, tests, pass_tests, event_after_step, event_after_pass}
use Rattle.sim_event_laws.specs.Raises.{LetsGo, RaisesLetGo}
use Rattle.sim_event_laws.proofs.Stack.{does_is}

module _ (released : GuardsAreReleased) (p : Program) (s t : State) (input text left : List ℕ) (after : Regs) (m : Memory) (nothing : pushes_some (instr_for (profile_in p) s.memory s.regs.pc) ≡ 0) where
  abbrev with_pushes : ℕ → State
  with_pushes count = record s { regs = after; memory = update_guards (p.look s.regs.pc).saves count (reg s SP) (slice_index after.r SP) m }

  abbrev left_by : State
  left_by = record s { regs = after; memory = update_guards_at p s after m }

  lets_go : LetsGo s left_by m
  lets_go =
      let is = released (p.look s.regs.pc).saves (reg s SP) (slice_index after.r SP) m in
      subst (λ (count : ℕ). LetsGo s (with_pushes count) m) (sym nothing) (record { rose = λ up g. is.rose g up; fell = λ down. is.fell down })

  went : (rest : List ℕ) → ◌≡◌ {A = Event State End} (Goes left_by [] rest) (Goes t text left) → LetsGo s t m
  went rest goes =
      let state : left_by ≡ t = cc in
      subst (λ (u : State). LetsGo s u m) state lets_go

  by_what : (what : Stepped) → ((number : ℕ) → what ≡ Gate number → ⊥) → ((trap : CoreTrap) → what ≡ Trap trap → ⊥) → event_after_step p s what left_by input ≡ Goes t text left → LetsGo s t m
  by_what Done gate trap f = went input f
  by_what (Call target ret) gate trap f = went input f
  by_what (Return to) gate trap f = went input f
  by_what (Gate number) gate trap f = absurd (gate number refl)
  by_what (Trap why) gate trap f = absurd (trap why refl)

  by_test : (what : Stepped) (o : Option End) → ((number : ℕ) → what ≡ Gate number → ⊥) → ((trap : CoreTrap) → what ≡ Trap trap → ⊥)
      → event_after_pass p s (pass_tests p s what after m o) input ≡ Goes t text left → LetsGo s t m
  by_test what (Some end) gate trap f = absurd (cc)
  by_test what None gate trap f = by_what what gate trap f

pub raises : GuardsAreReleased → RaisesLetGo
raises released p s t input text left what after m d gate nothing goes =
    by_test released p s t input text left after m nothing what (tests p s what after) gate d.no_trap (sym (does_is p s input what after m d) ∙ goes)
