use Rattle.std.proofs.Common.{Err, Ok, Some, None, sym, ◌∙◌, ap}
use Rattle.frame_facts.specs.declared.cause.FrameCause.TheVariants.{Undecodable, BranchOut, CallNotFunction}
use Rattle.frame_graph.specs.Places.{address_of}
use Rattle.frame_code.specs.Standing.{instruction_of}
use Rattle.frame_graph.specs.Edges.{instruction_at}
use Rattle.frame_graph.specs.Sites.{site_at}
use Rattle.frame_facts.specs.After.{after_of, fact_if_ok}
use Rattle.frame_flow.specs.Framed.{Parts, framed_view}
use Rattle.frame_flow.proofs.Passing.{IsFine, at_undecodable, at_branch, at_call, at_nothing, at_effect, at_site, at_fine_site, at_no_site, no_instruction, seen, agreed_seen}
use Rattle.frame_flow.proofs.framed.FramedFunction.pass_place.Goals as goal

pub returns-then-is_undecodable : goal.returns-then-is_undecodable
returns-then-is_undecodable c =
    let x : Parts = record { flow_graph = c.self.inside.flow_graph.now; prologue = c.self.inside.prologue.now; pads = c.self.inside.pads.now; reached = c.self.inside.reached.now } in
    seen x c.args.self.now c.args.place c.args.fact.now (Err Undecodable) c.self.view_is
    (at_undecodable (framed_view x) c.args.place c.args.fact.now (sym c.is_undecodable.ensures ∙ c.if-is_undecodable.true))

pub returns-then-branches_out : goal.returns-then-branches_out
returns-then-branches_out c =
    let x : Parts = record { flow_graph = c.self.inside.flow_graph.now; prologue = c.self.inside.prologue.now; pads = c.self.inside.pads.now; reached = c.self.inside.reached.now } in
    seen x c.args.self.now c.args.place c.args.fact.now (Err BranchOut) c.self.view_is
    (at_branch (framed_view x) c.args.place c.args.fact.now (sym c.is_undecodable.ensures ∙ c.if-is_undecodable.false) (sym c.branches_out.ensures ∙ c.if-branches_out.true))

pub returns-then-calls_nothing : goal.returns-then-calls_nothing
returns-then-calls_nothing c =
    let x : Parts = record { flow_graph = c.self.inside.flow_graph.now; prologue = c.self.inside.prologue.now; pads = c.self.inside.pads.now; reached = c.self.inside.reached.now } in
    seen x c.args.self.now c.args.place c.args.fact.now (Err CallNotFunction) c.self.view_is
    (at_call (framed_view x) c.args.place c.args.fact.now (sym c.is_undecodable.ensures ∙ c.if-is_undecodable.false) (sym c.branches_out.ensures ∙ c.if-branches_out.false) (sym c.calls_nothing.ensures ∙ c.if-calls_nothing.true))

pub returns-in_default : goal.returns-in_default
returns-in_default c =
    let x : Parts = record { flow_graph = c.self.inside.flow_graph.now; prologue = c.self.inside.prologue.now; pads = c.self.inside.pads.now; reached = c.self.inside.reached.now } in
    let fine : IsFine (framed_view x) c.args.place = record { decodes = sym c.is_undecodable.ensures ∙ c.if-is_undecodable.false; stays = sym c.branches_out.ensures ∙ c.if-branches_out.false; calls = sym c.calls_nothing.ensures ∙ c.if-calls_nothing.false } in
    seen x c.args.self.now c.args.place c.args.fact.now (Ok None) c.self.view_is
    (at_nothing (framed_view x) c.args.place c.args.fact.now fine (ap instruction_of (sym c.standing_at-standing.ensures) ∙ no_instruction c.standing_at-standing.result c.in_default.not-Instruction))

pub returns-in-Err : goal.returns-in-Err
returns-in-Err c =
    let x : Parts = record { flow_graph = c.self.inside.flow_graph.now; prologue = c.self.inside.prologue.now; pads = c.self.inside.pads.now; reached = c.self.inside.reached.now } in
    let fine : IsFine (framed_view x) c.args.place = record { decodes = sym c.is_undecodable.ensures ∙ c.if-is_undecodable.false; stays = sym c.branches_out.ensures ∙ c.if-branches_out.false; calls = sym c.calls_nothing.ensures ∙ c.if-calls_nothing.false } in
    let instruction = ap instruction_of (sym c.standing_at-standing.ensures ∙ c.in-Instruction.is) in
    let lowers = ap (λ (a : Parts). (framed_view a).lowers c.args.place) c.self.view_is ∙ sym c.lowers_at.ensures in
    let after = ap (λ b. after_of x.prologue b (address_of x.flow_graph c.args.place) c.in-Instruction.i c.args.fact.now) lowers ∙ (ap (λ a. after_of x.prologue c.lowers_at.result a c.in-Instruction.i c.args.fact.now) (sym c.address_of.ensures) ∙ sym c.write_fact_after.ensures) in
    seen x c.args.self.now c.args.place c.args.fact.now (Err c.in-Err.cause) c.self.view_is
    (at_effect (framed_view x) c.args.place c.args.fact.now c.in-Instruction.i c.in-Err.cause fine instruction (after ∙ ap (λ r. fact_if_ok r c.write_fact_after.new.next) c.in-Err.is))

pub returns-in-None : goal.returns-in-None
returns-in-None c =
    let x : Parts = record { flow_graph = c.self.inside.flow_graph.now; prologue = c.self.inside.prologue.now; pads = c.self.inside.pads.now; reached = c.self.inside.reached.now } in
    let fine : IsFine (framed_view x) c.args.place = record { decodes = sym c.is_undecodable.ensures ∙ c.if-is_undecodable.false; stays = sym c.branches_out.ensures ∙ c.if-branches_out.false; calls = sym c.calls_nothing.ensures ∙ c.if-calls_nothing.false } in
    let instruction = ap instruction_of (sym c.standing_at-standing.ensures ∙ c.in-Instruction.is) in
    let lowers = ap (λ (a : Parts). (framed_view a).lowers c.args.place) c.self.view_is ∙ sym c.lowers_at.ensures in
    let after = ap (λ b. after_of x.prologue b (address_of x.flow_graph c.args.place) c.in-Instruction.i c.args.fact.now) lowers ∙ (ap (λ a. after_of x.prologue c.lowers_at.result a c.in-Instruction.i c.args.fact.now) (sym c.address_of.ensures) ∙ sym c.write_fact_after.ensures) in
    seen x c.args.self.now c.args.place c.args.fact.now (Ok (Some c.write_fact_after.new.next)) c.self.view_is
    (at_no_site (framed_view x) c.args.place c.args.fact.now c.in-Instruction.i c.write_fact_after.new.next fine instruction (after ∙ ap (λ r. fact_if_ok r c.write_fact_after.new.next) c.in-Ok.is) (sym c.site_by.ensures ∙ c.in-None.is))

pub lowers_at-requires : goal.lowers_at-requires
lowers_at-requires c = ap (λ (a : Parts). instruction_at a.flow_graph c.args.place) (sym c.self.view_is) ∙ ap instruction_of (sym c.standing_at-standing.ensures ∙ c.in-Instruction.is)

pub agrees_at-requires : goal.agrees_at-requires
agrees_at-requires c = c.requires.tells c.in-Some.site (ap (λ (a : Parts). site_at a.flow_graph c.args.place) (sym c.self.view_is) ∙ (sym c.site_by.ensures ∙ c.in-Some.is))

pub returns-in-Err-agrees_at : goal.returns-in-Err-agrees_at
returns-in-Err-agrees_at c =
    let x : Parts = record { flow_graph = c.self.inside.flow_graph.now; prologue = c.self.inside.prologue.now; pads = c.self.inside.pads.now; reached = c.self.inside.reached.now } in
    let fine : IsFine (framed_view x) c.args.place = record { decodes = sym c.is_undecodable.ensures ∙ c.if-is_undecodable.false; stays = sym c.branches_out.ensures ∙ c.if-branches_out.false; calls = sym c.calls_nothing.ensures ∙ c.if-calls_nothing.false } in
    let instruction = ap instruction_of (sym c.standing_at-standing.ensures ∙ c.in-Instruction.is) in
    let lowers = ap (λ (a : Parts). (framed_view a).lowers c.args.place) c.self.view_is ∙ sym c.lowers_at.ensures in
    let after = ap (λ b. after_of x.prologue b (address_of x.flow_graph c.args.place) c.in-Instruction.i c.args.fact.now) lowers ∙ (ap (λ a. after_of x.prologue c.lowers_at.result a c.in-Instruction.i c.args.fact.now) (sym c.address_of.ensures) ∙ sym c.write_fact_after.ensures) in
    seen x c.args.self.now c.args.place c.args.fact.now (Err c.in-Err-agrees_at.cause) c.self.view_is
    (at_site (framed_view x) c.args.place c.args.fact.now c.in-Instruction.i c.write_fact_after.new.next c.in-Some.site c.in-Err-agrees_at.cause fine instruction (after ∙ ap (λ r. fact_if_ok r c.write_fact_after.new.next) c.in-Ok.is) (sym c.site_by.ensures ∙ c.in-Some.is)
    (agreed_seen x c.args.self.now c.in-Instruction.i c.is_call.result c.args.fact.now c.in-Some.site c.agrees_at.result (Err c.in-Err-agrees_at.cause) c.self.view_is c.is_call.ensures c.agrees_at.ensures c.in-Err-agrees_at.is))

pub returns-in-Ok-agrees_at : goal.returns-in-Ok-agrees_at
returns-in-Ok-agrees_at c =
    let x : Parts = record { flow_graph = c.self.inside.flow_graph.now; prologue = c.self.inside.prologue.now; pads = c.self.inside.pads.now; reached = c.self.inside.reached.now } in
    let fine : IsFine (framed_view x) c.args.place = record { decodes = sym c.is_undecodable.ensures ∙ c.if-is_undecodable.false; stays = sym c.branches_out.ensures ∙ c.if-branches_out.false; calls = sym c.calls_nothing.ensures ∙ c.if-calls_nothing.false } in
    let instruction = ap instruction_of (sym c.standing_at-standing.ensures ∙ c.in-Instruction.is) in
    let lowers = ap (λ (a : Parts). (framed_view a).lowers c.args.place) c.self.view_is ∙ sym c.lowers_at.ensures in
    let after = ap (λ b. after_of x.prologue b (address_of x.flow_graph c.args.place) c.in-Instruction.i c.args.fact.now) lowers ∙ (ap (λ a. after_of x.prologue c.lowers_at.result a c.in-Instruction.i c.args.fact.now) (sym c.address_of.ensures) ∙ sym c.write_fact_after.ensures) in
    seen x c.args.self.now c.args.place c.args.fact.now (Ok (Some c.write_fact_after.new.next)) c.self.view_is
    (at_fine_site (framed_view x) c.args.place c.args.fact.now c.in-Instruction.i c.write_fact_after.new.next c.in-Some.site fine instruction (after ∙ ap (λ r. fact_if_ok r c.write_fact_after.new.next) c.in-Ok.is) (sym c.site_by.ensures ∙ c.in-Some.is)
    (agreed_seen x c.args.self.now c.in-Instruction.i c.is_call.result c.args.fact.now c.in-Some.site c.agrees_at.result (Ok tt) c.self.view_is c.is_call.ensures c.agrees_at.ensures c.in-Ok-agrees_at.is))
