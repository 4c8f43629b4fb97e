use Rattle.std.proofs.Common.{arith}
use Rattle.frame_flow.proofs.Slots.{slot_here, room, got}
use Rattle.frame_flow.proofs.facts.Facts.get.Goals as goal

pub index-requires-in-Some : goal.index-requires-in-Some
index-requires-in-Some c =
    let slots = c.self.inside.slots.items in
    let here = slot_here slots c.args.place c.index.result.now _ (room slots c.self.inside.known.items c.args.self.now c.args.place c.self.view_is c.requires) c.index.ensures c.in-Some.is in
    omega (arith, c.self.inside.known.ok.0, c.self.invariant.within c.args.place c.in-Some.slot here)

pub returns-in-Some : goal.returns-in-Some
returns-in-Some c =
    let slots = c.self.inside.slots.items in
    let here = slot_here slots c.args.place c.index.result.now _ (room slots c.self.inside.known.items c.args.self.now c.args.place c.self.view_is c.requires) c.index.ensures c.in-Some.is in
    got slots c.self.inside.known.items c.args.self.now c.args.place c.in-Some.slot c.index-in-Some.result.now c.self.view_is here (c.self.invariant.within c.args.place c.in-Some.slot here) c.index-in-Some.ensures
