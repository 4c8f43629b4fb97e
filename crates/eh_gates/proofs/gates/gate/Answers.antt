use Rattle.std.proofs.Common.{◌≡◌, false, sym, subst}
use Rattle.eh_phase.specs.run_gates.Ends.{is_fault}
use Rattle.thumb_core.specs.declared.ends.End.{End}
use Rattle.eh_gates.specs.declared.state.Turned.TheVariants.{Ended}
use Rattle.eh_gates.specs.State.{Outcome, state_of, tables_of}
use Rattle.eh_gates.proofs.Honest.{gate_honest}
use Rattle.eh_gates.proofs.KeptMap.{left_map}
use Rattle.eh_gates.proofs.gates.gate.Goals as goal

pub returns-clause-inside : goal.returns-clause-inside
returns-clause-inside g c =
    subst (λ (o : Outcome). (end : End) → o.0 ≡ Ended end → is_fault end ≡ false) (sym c.do_gate.ensures)
    (gate_honest (tables_of c.args.t.now.index c.args.t.now.types.now) c.args.number c.args.next (state_of c.args.core.now (g.B.Bus.memory c.args.bus.now) c.args.events.now))

pub returns-clause-map : goal.returns-clause-map
returns-clause-map g c =
    left_map (tables_of c.args.t.now.index c.args.t.now.types.now) c.args.number c.args.next (state_of c.args.core.now (g.B.Bus.memory c.args.bus.now) c.args.events.now) _
    (g.met.B.Bus.is_map c.args.bus.now) c.do_gate.ensures
