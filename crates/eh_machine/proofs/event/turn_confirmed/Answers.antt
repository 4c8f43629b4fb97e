use Rattle.std.proofs.Common.{refl, sym, subst}
use Rattle.eh_bus.specs.Memory.{Memory}
use Rattle.eh_machine.specs.Cached.{IsConfirmed}
use Rattle.sim_machines.specs.Checked.{program_of}
use Rattle.eh_machine.proofs.Confirmed.{passes_map, stays}
use Rattle.eh_machine.proofs.Events.{went_told, went_given, turned_as_before, given_as_before}
use Rattle.eh_machine.proofs.Passing.{same_state}
use Rattle.eh_machine.proofs.event.turn_confirmed.Goals as goal

pub returns-then-turn_fast-clause-told : goal.returns-then-turn_fast-clause-told
returns-then-turn_fast-clause-told g c = went_told (program_of c.args.a.now) _ _ _ _ c.args.events.now (c.if-turn_fast.ensures.done refl) _ _

pub returns-then-turn_fast-clause-given : goal.returns-then-turn_fast-clause-given
returns-then-turn_fast-clause-given g c = went_given (program_of c.args.a.now) _ _ _ _ c.args.events.now (c.if-turn_fast.ensures.done refl) _

pub returns-then-turn_fast-clause-confirmed : goal.returns-then-turn_fast-clause-confirmed
returns-then-turn_fast-clause-confirmed g c = stays _ _ _ (passes_map (program_of c.args.a.now) _ _ _ _ _ (c.if-turn_fast.ensures.done refl).passes) c.requires.confirmed

-- ---- the others, from where nothing was changed

pub turn_slow-requires-clause-confirmed : goal.turn_slow-requires-clause-confirmed
turn_slow-requires-clause-confirmed g c = subst (λ (m : Memory). IsConfirmed m c.args.cache.now) (sym (c.if-turn_fast.ensures.left refl).1) c.requires.confirmed

pub returns-clause-told : goal.returns-clause-told
returns-clause-told g c =
    turned_as_before _ _ _ _ (program_of c.args.a.now) _ _ _ _ (same_state _ _ _ _ c.args.events.now (c.if-turn_fast.ensures.left refl)) c.turn_slow.ensures.told

pub returns-clause-given : goal.returns-clause-given
returns-clause-given g c =
    given_as_before _ _ (program_of c.args.a.now) _ _ _ _ (same_state _ _ _ _ c.args.events.now (c.if-turn_fast.ensures.left refl)) c.turn_slow.ensures.given
