use Rattle.eh_machine.proofs.FollowingFlights.{start_told}
use Rattle.eh_machine.proofs.start.start_parts.Goals as goal

pub returns-clause-recorded : goal.returns-clause-recorded
returns-clause-recorded c =
    start_told c.args.a.now _ _ _ _ _ _ c.holds.ensures.image c.holds.ensures.sound c.start_regs.ensures c.entry.ensures c.start.ensures.value c.in_ok-bus.ensures c.in_ok-events.ensures.value
    c.image-image.ensures.image
