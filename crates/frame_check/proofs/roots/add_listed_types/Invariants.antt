use Rattle.std.proofs.Common.{◌≡◌, ◌++◌, ℕ}
use Rattle.std.specs.List.{flat_map, range_with_len}
use Rattle.eh_desc.specs.Grammar.{type_in}
use Rattle.frame_check.specs.Roots.{spec_root}
use Rattle.frame_check.proofs.roots.add_listed_types.Given as goal

abbrev pub invariant-loop-i : goal.invariant-loop-i
invariant-loop-i l = l.roots.items ≡ l.initial.roots.items ++ flat_map (λ (i : ℕ). spec_root (type_in l.index.segments l.d.kind i)) (range_with_len 0 l.i)
