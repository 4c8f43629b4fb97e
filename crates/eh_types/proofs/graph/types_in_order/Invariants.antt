use Rattle.std.proofs.Common.{◌≡◌, ◌++◌, map}
use Rattle.std.specs.Map.{values_of}
use Rattle.eh_types.specs.declared.state.CountedType.{CountedType}
use Rattle.eh_types.proofs.graph.types_in_order.Given as goal

abbrev pub invariant-loop-d : goal.invariant-loop-d
invariant-loop-d l = l.types.items ++ map (λ (d : CountedType). d.info) l.d-iterator ≡ map (λ (d : CountedType). d.info) (values_of l.fn.done.entries)
