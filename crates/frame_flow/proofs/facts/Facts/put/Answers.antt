use Rattle.std.proofs.Common.{arith}
use Rattle.frame_flow.proofs.Slots.{slot_here, room, known_table, newer_table, wrote_known, wrote_new}
use Rattle.frame_flow.proofs.facts.Facts.put.Goals as goal

pub returns-in-Some : goal.returns-in-Some
returns-in-Some c =
    let slots = c.self.inside.slots.items in
    let known = c.self.inside.known.items in
    let l = room slots known c.args.self.now c.args.place c.self.view_is c.requires in
    wrote_known slots known c.args.self.now c.args.place c.in-Some.slot c.args.fact.now c.self.invariant c.self.view_is l (slot_here slots c.args.place c.index.result.now _ l c.index.ensures c.in-Some.is)

pub returns-in_ok-push-in-None : goal.returns-in_ok-push-in-None
returns-in_ok-push-in-None c =
    let slots = c.self.inside.slots.items in
    let known = c.self.inside.known.items in
    let l = room slots known c.args.self.now c.args.place c.self.view_is c.requires in
    wrote_new slots known c.push.new.self.items c.args.self.now c.args.place c.in-Ok.slot c.args.fact.now c.self.invariant c.self.view_is l (omega (arith, c.in-Ok.ensures, c.len.ensures, c.self.inside.known.ok.0)) c.in_ok-push-in-None.ensures.items

pub invariant_of-self : goal.invariant_of-self
invariant_of-self c =
    let slots = c.self.inside.slots.items in
    let known = c.self.inside.known.items in
    let l = room slots known c.args.self.now c.args.place c.self.view_is c.requires in
    known_table slots known c.args.place c.in-Some.slot c.args.fact.now c.self.invariant (slot_here slots c.args.place c.index.result.now _ l c.index.ensures c.in-Some.is)

pub invariant_of-self-in-None : goal.invariant_of-self-in-None
invariant_of-self-in-None c =
    let slots = c.self.inside.slots.items in
    let known = c.self.inside.known.items in
    let l = room slots known c.args.self.now c.args.place c.self.view_is c.requires in
    newer_table slots known c.push.new.self.items c.args.place c.in-Ok.slot c.args.fact.now c.self.invariant l (omega (arith, c.in-Ok.ensures, c.len.ensures, c.self.inside.known.ok.0)) c.in_ok-push-in-None.ensures.items
