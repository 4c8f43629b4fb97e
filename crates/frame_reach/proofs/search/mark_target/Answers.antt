use Rattle.std.proofs.Common.{◌<◌, ◌≡◌, ◌∙◌, ℕ, true, set, sym, subst, arith}
use Rattle.std.proofs.lemmas.Option.{same_Some}
use Rattle.frame_reach.specs.Prologue.{places}
use Rattle.frame_reach.specs.Held.{is_set}
use Rattle.frame_reach.specs.Search.{search_view}
use Rattle.frame_reach.proofs.Marking.{aimed, aimed_grow, marked}
use Rattle.frame_reach.proofs.Found.{target_below}
use Rattle.frame_reach.proofs.search.mark_target.Goals as goal

pub index_mut-requires : goal.index_mut-requires
index_mut-requires c = omega (arith, c.requires.sound.target_long, target_below c.args.flow_graph.now c.in-Some.place (c.requires.target c.in-Some.place c.in-Some.is))

pub returns : goal.returns
returns c =
    let s = c.args.flow_graph.now in
    let h = search_view c.args.found.now in
    let p = c.in-Some.place in
    let t = c.requires.target p c.in-Some.is in
    let l : p < places s = target_below s p t in
    record {
      sound = aimed s h p c.requires.sound l t;
      grows = aimed_grow s h p c.requires.sound l;
      aimed = λ q e. subst (λ (x : ℕ). is_set (set h.target p true) x ≡ true) (same_Some p q (sym c.in-Some.is ∙ e)) (marked h.target p (omega (arith, l, c.requires.sound.target_long)));
    }
