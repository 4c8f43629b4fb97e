use Rattle.std.proofs.Common.{refl, subst}
use Rattle.eh_bus.specs.Memory.{Memory}
use Rattle.eh_bus.specs.Map.{SameMap}
use Rattle.eh_machine.proofs.Confirmed.{passes_map}
use Rattle.sim_machines.specs.Checked.{program_of}
use Rattle.eh_machine.proofs.Events.{went_told, went_given, turned_as_before, given_as_before}
use Rattle.eh_machine.proofs.Passing.{same_fetched, same_told, same_state}
use Rattle.eh_machine.proofs.event.turn_at.Goals as goal

pub returns-then-fast_path-clause-told : goal.returns-then-fast_path-clause-told
returns-then-fast_path-clause-told g c = went_told (program_of c.args.a.now) _ _ _ _ c.args.events.now (c.if-fast_path.ensures.done refl) _ _

-- ---- the others, from where nothing was changed

pub slow_path-requires : goal.slow_path-requires
slow_path-requires g c =
    let same = c.if-fast_path.ensures.left refl in
    record {
      fetched = same_fetched (program_of c.args.a.now) _ _ _ _ c.args.at.now same c.requires.fetched;
      told = same_told c.args.at.now.instr c.look_ahead-ahead.result _ _ same.0 c.look_ahead-ahead.ensures;
    }

pub returns-clause-told : goal.returns-clause-told
returns-clause-told g c =
    let p = program_of c.args.a.now in
    turned_as_before _ _ _ _ p _ _ _ _ (same_state _ _ _ _ c.args.events.now (c.if-fast_path.ensures.left refl)) c.slow_path.ensures.told

pub returns-clause-given : goal.returns-clause-given
returns-clause-given g c =
    let p = program_of c.args.a.now in
    given_as_before _ _ p _ _ _ _ (same_state _ _ _ _ c.args.events.now (c.if-fast_path.ensures.left refl)) c.slow_path.ensures.given

-- ---- on bytes that were given

pub returns-then-fast_path-clause-given : goal.returns-then-fast_path-clause-given
returns-then-fast_path-clause-given g c = went_given (program_of c.args.a.now) _ _ _ _ c.args.events.now (c.if-fast_path.ensures.done refl) _

-- ---- the map

pub returns-then-fast_path-clause-map : goal.returns-then-fast_path-clause-map
returns-then-fast_path-clause-map g c = passes_map (program_of c.args.a.now) _ _ _ _ _ (c.if-fast_path.ensures.done refl).passes

pub returns-clause-map : goal.returns-clause-map
returns-clause-map g c =
    subst (λ (k : Memory). SameMap k.segments (g.B.Bus.memory c.slow_path.new.shared.bus).segments)
    (c.if-fast_path.ensures.left refl).1 c.slow_path.ensures.map
