use Rattle.std.proofs.Common.{ℕ, ap, ◌∙◌, ◌++◌}
use Rattle.eh_desc.specs.Grammar.{type_in}
use Rattle.frame_check.specs.Roots.{spec_root}
use Rattle.frame_check.proofs.Counting.{joined_more}
use Rattle.frame_check.proofs.roots.add_listed_types.Goals as goal

pub loop-i-preserved : goal.loop-i-preserved
loop-i-preserved c =
    joined_more (λ (i : ℕ). spec_root (type_in c.args.index.now.segments c.args.d.now.kind i)) c.args.roots.now.items c.loop-i.roots.items c.add_spec_root.new.roots.items c.loop-i.i c.loop-i.invariant
    (c.in_ok-add_spec_root.ensures ∙ ap (λ o. c.loop-i.roots.items ++ spec_root o) c.spec_type.ensures)
