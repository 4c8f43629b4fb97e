use Rattle.eh_machine.proofs.Confirmed.{stays}
use Rattle.eh_machine.proofs.event.turn_slow.Goals as goal

pub returns-clause-confirmed : goal.returns-clause-confirmed
returns-clause-confirmed g c = stays _ _ _ c.slow_path.ensures.map c.requires.confirmed
