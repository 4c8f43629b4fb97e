use Rattle.std.proofs.Common.{◌≡◌, ◌*◌, ◌^◌, ◌≤◌, map, take}
use Rattle.gnu_rewrite.specs.Symbols.{function_symbol}
use Rattle.gnu_rewrite.specs.Sizes.{names_size}
use Rattle.gnu_rewrite.proofs.limits.function_names_size.Given as goal

abbrev pub invariant-loop-f : goal.invariant-loop-f
invariant-loop-f l = record {
  size : l.total ≡ names_size (map function_symbol (take l.f-index l.functions));
  few : l.total ≤ 2 ^ 64 * l.f-index;
}
