-- What an event leaves of an input of bytes are bytes.
use Rattle.std.proofs.Common.{ℕ, ◌<◌, List, [], ◌∷◌, ◌==◌, nat_lt, Bool, true, false, cond, drop}
use Rattle.std.specs.Prelude.{slice_get, ◌%◌, Ok, Err}
use Rattle.std.proofs.lemmas.List.Elements.{All-drop}
use Rattle.run_events.specs.Runs.{Event, Goes, Ends}
use Rattle.thumb_core.specs.declared.ends.End.{End}
use Rattle.sim_machines.specs.Activations.{Recorded}
use Rattle.run_gates.specs.Gates.{byte_or_end, r0, with_r0, gate_event}
use Rattle.run_gates.specs.declared.gates.TheConstants.{EXIT_GATE, OUTPUT_GATE, INPUT_GATE}
use Rattle.thumb_core.specs.declared.regs.Regs.{Regs}
use Rattle.thumb_core.specs.declared.regs.Stepped.{Stepped}
use Rattle.thumb_core.specs.declared.regs.Stepped.TheVariants.{Done, Call, Return, Gate, Trap}
use Rattle.eh_gates.specs.declared.state.Turned.TheVariants.{Went, Ended}
use Rattle.sim_machines.specs.Program.{Program, program_tables}
use Rattle.thumb_core.specs.declared.ends.End.TheVariants as the_end
use Rattle.thumb_core.specs.declared.ends.TrapKind.TheVariants as kind
use Rattle.sim_machines.specs.ActivationMachine as acts
use Rattle.sim_runs.specs.Turned.{AreBytes}

abbrev pub FitsIn : Event Recorded End → Type 0
FitsIn (Goes t text left) = AreBytes left
FitsIn (Ends end t) = Unit {0}

module _ (p : Program) (s : Recorded) (input : List ℕ) (h : AreBytes input) where
  low_fits : (number : ℕ) (old new : Regs) → FitsIn (acts.in_state s (gate_event number old new input))
  low_fits number old new = go (number == EXIT_GATE) (number == OUTPUT_GATE) (number == INPUT_GATE)
    where
      go : (a b c : Bool) → FitsIn (acts.in_state s (cond a (Ends (the_end.Exit (r0 new)) old) (cond b (Goes new (r0 new % 256 ∷ []) input)
          (cond c (Goes (with_r0 (byte_or_end (slice_get input 0)) new) [] (drop 1 input)) (Ends (the_end.Trap kind.UnknownGate number old.pc) old)))))
      go true b c = tt
      go false true c = h
      go false false true = All-drop (λ (b : ℕ). b < 256) 1 input h
      go false false false = tt

  outcome_fits : (q : acts.Outcome) → FitsIn (acts.event_of q input)
  outcome_fits (Went, t) = h
  outcome_fits (Ended end, t) = tt

  gated_fits : (number : ℕ) (regs : Regs) → FitsIn (acts.event_at_gate p number s regs input)
  gated_fits number regs = go (nat_lt INPUT_GATE number)
    where
      go : (b : Bool) → FitsIn (cond b (acts.event_of (acts.gate_of (program_tables p) number regs.pc s) input) (acts.in_state s (gate_event number s.regs regs input)))
      go true = outcome_fits (acts.gate_of (program_tables p) number regs.pc s)
      go false = low_fits number s.regs regs

  acted_fits : (what : Stepped) (t : Recorded) → FitsIn (acts.event_after_step p s what t input)
  acted_fits Done t = h
  acted_fits (Call target ret) t = h
  acted_fits (Return to) t = h
  acted_fits (Gate number) t = gated_fits number t.regs
  acted_fits (Trap trap) t = h

  onward_fits : (q : acts.PassResult) → FitsIn (acts.event_after_pass p s q input)
  onward_fits (Err end, t) = tt
  onward_fits (Ok what, t) = acted_fits what t

  pub event_fits : FitsIn (acts.recorded_event p s input)
  unfolding acts.recorded_event
  event_fits = onward_fits (acts.pass_instruction p s)
