use Rattle.std.proofs.Common.{List, Bool, map, ap, ◌∙◌, subst}
use Rattle.frame_reach.specs.Held.{is_set, marks_of}
use Rattle.frame_check.specs.declared.pushes.OpenPush.{OpenPush}
use Rattle.frame_check.specs.Pushes.{push_saves}
use Rattle.frame_check.specs.Marking.{with_start, ChangesRole, AreLowered}
use Rattle.frame_check.proofs.Judging.{low_places, even_pushes, all_marked}
use Rattle.frame_check.proofs.Walking.{all_told}
use Rattle.frame_check.proofs.marking.mark.Goals as goal

pub mark_places-requires-clause-low : goal.mark_places-requires-clause-low
mark_places-requires-clause-low c =
    low_places c.args.flow_graph.now (marks_of c.args.well.now.reached) _ c.requires.some c.requires.low c.requires.marks c.places-found.ensures.all

pub mark_lowerings-requires-clause-low : goal.mark_lowerings-requires-clause-low
mark_lowerings-requires-clause-low c =
    low_places c.args.flow_graph.now (marks_of c.args.well.now.reached) _ c.requires.some c.requires.low c.requires.marks c.places-found.ensures.all

pub mark_pushes-requires : goal.mark_pushes-requires
mark_pushes-requires c =
    even_pushes c.args.flow_graph.now (marks_of c.args.well.now.reached) _ c.requires.even c.requires.low
    (c.deref-2.ensures.value ∙ all_told c.args.flow_graph.now (marks_of c.args.well.now.reached) c.args.well.now.prologue c.args.room.now.pushes.items c.put_push_saves.new.into.items c.requires.prologue c.requires.pushes (c.in_ok-put_push_saves.ensures ∙ ap (λ (l : List OpenPush). map (push_saves c.args.well.now.prologue) l) c.deref.ensures.value))

pub returns : goal.returns
returns c =
    all_marked c.args.flow_graph.now (marks_of c.args.well.now.reached) c.places-found.result.now c.deref-2.result.now c.args.roles.now c.mark_places.new.roles c.mark_lowerings.new.roles c.mark_start.new.roles
    c.mark_pushes.new.roles c.mark_pushes.result c.requires.marks c.places-found.ensures.all c.in_ok-mark_places.ensures
    (subst (λ (l : List Bool). AreLowered c.args.flow_graph.now (is_set l) c.places-found.result.now c.mark_places.new.roles c.mark_lowerings.new.roles) c.reached.ensures c.in_ok-mark_lowerings.ensures)
    (subst (λ a. ChangesRole with_start a c.mark_lowerings.new.roles c.mark_start.new.roles) c.start.ensures c.in_ok-mark_start.ensures)
    (c.deref-2.ensures.value ∙ all_told c.args.flow_graph.now (marks_of c.args.well.now.reached) c.args.well.now.prologue c.args.room.now.pushes.items c.put_push_saves.new.into.items c.requires.prologue c.requires.pushes (c.in_ok-put_push_saves.ensures ∙ ap (λ (l : List OpenPush). map (push_saves c.args.well.now.prologue) l) c.deref.ensures.value)) c.mark_pushes.ensures
