use Rattle.std.proofs.Common.{ap, List}
use Rattle.eh_types.specs.declared.state.Frame.{Frame}
use Rattle.eh_types.specs.Reading.{counted_type_at, open_types, work_left, work_with}
use Rattle.eh_types.proofs.Steps.{less_before, popped_none}
use Rattle.eh_types.proofs.reader.step.Goals as goal

pub returns-in_default-clause-less : goal.returns-in_default-clause-less
returns-in_default-clause-less c =
    less_before c.take_waiting.result _ _ (work_with c.args.state.now (open_types c.args.state.now))
    (ap (λ (frames : List Frame). work_left (counted_type_at c.args.state.now) frames c.args.state.now.pending.items) (popped_none c.args.state.now.stack.items c.pop.new.self.items c.pop.result c.pop.ensures.items c.in_default.is))
    c.take_waiting.ensures.less
