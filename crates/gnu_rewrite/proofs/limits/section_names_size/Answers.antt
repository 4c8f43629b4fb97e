use Rattle.gnu_rewrite.proofs.Sizes.{all_names}
use Rattle.gnu_rewrite.proofs.limits.section_names_size.Goals as goal

pub returns-clause-size : goal.returns-clause-size
returns-clause-size c = all_names c.loop-s.total c.loop-s.i c.loop-s._s-index c.args.segments.now c.loop-s-test.false c.loop-s.invariant.size
