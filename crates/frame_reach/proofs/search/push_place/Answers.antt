use Rattle.std.proofs.Common.{◌≡◌, ◌<◌, ◌≤◌, length, List, Bool, false, ap, sym, ◌∙◌, arith}
use Rattle.frame_reach.specs.declared.marks.TheConstants.{MOST_REACHED}
use Rattle.frame_reach.specs.Held.{is_set}
use Rattle.frame_reach.specs.Search.{search_view}
use Rattle.frame_reach.proofs.Marking.{put_done, full}
use Rattle.frame_reach.proofs.Found.{below}
use Rattle.frame_reach.proofs.search.push_place.Goals as goal

pub returns-then-len : goal.returns-then-len
returns-then-len c =
    let off : is_set c.args.found.now.reached.items c.args.place ≡ false = ap (λ (xs : List Bool). is_set xs c.args.place) (sym c.deref.ensures.value) ∙ (sym c.is_set.ensures ∙ c.if-is_set.false) in
    let most : MOST_REACHED ≤ length c.args.found.now.places.items = omega (arith, c.len.ensures, c.if-len.true) in
    full c.args.flow_graph.now (search_view c.args.found.now) c.args.place c.requires.sound c.requires.reached off most

pub index_mut-requires : goal.index_mut-requires
index_mut-requires c = omega (arith, c.requires.sound.reached_long, below c.args.flow_graph.now c.args.place c.requires.reached)

pub returns : goal.returns
returns c =
    let off : is_set c.args.found.now.reached.items c.args.place ≡ false = ap (λ (xs : List Bool). is_set xs c.args.place) (sym c.deref.ensures.value) ∙ (sym c.is_set.ensures ∙ c.if-is_set.false) in
    let few : length c.args.found.now.places.items < MOST_REACHED = omega (arith, c.len.ensures, c.if-len.false) in
    put_done c.args.flow_graph.now (search_view c.args.found.now) c.args.place c.requires.sound c.push.new.self.items c.in-Ok.ensures.items (below c.args.flow_graph.now c.args.place c.requires.reached) c.requires.reached off few
