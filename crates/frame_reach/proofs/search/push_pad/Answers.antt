use Rattle.std.proofs.Common.{◌<◌, arith}
use Rattle.frame_reach.specs.Prologue.{places}
use Rattle.frame_reach.specs.Search.{search_view}
use Rattle.frame_reach.proofs.Marking.{then, landed, landed_grow, marked, with_pad}
use Rattle.frame_reach.proofs.Found.{below, pad_reached}
use Rattle.frame_reach.proofs.search.push_pad.Goals as goal

pub push_place-requires-clause-reached : goal.push_place-requires-clause-reached
push_place-requires-clause-reached c = pad_reached c.args.flow_graph.now c.args.place c.requires.pad

pub returns : goal.returns
returns c =
    let s = c.args.flow_graph.now in
    let p = c.args.place in
    let now = c.in_ok-push_place.ensures in
    let l : p < places s = below s p (pad_reached s p c.requires.pad) in
    let h = search_view c.push_place.new.found in (
      landed s h p now.0 l c.requires.pad,
      then (search_view c.args.found.now) h (with_pad s h p now.0) now.1 (landed_grow s h p now.0 l),
      (now.2, marked h.target p (omega (arith, l, now.0.target_long)), marked h.pad p (omega (arith, l, now.0.pad_long))),
    )
