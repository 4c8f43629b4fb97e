use Rattle.frame_flow.proofs.Slots.{blank_table, blank_is}
use Rattle.frame_flow.proofs.facts.Facts.blank.Goals as goal

pub returns : goal.returns
returns c = blank_is c.clear.new.self.items c.resize.new.self.items c.clear-2.new.self.items c.args.count _ c.resize.result c.clear.ensures.items c.clear.ensures.len c.resize.ensures.items

pub invariant_of-self : goal.invariant_of-self
invariant_of-self c = blank_table c.clear.new.self.items c.resize.new.self.items c.clear-2.new.self.items c.args.count _ c.resize.result c.clear.ensures.items c.clear.ensures.len c.resize.ensures.items
