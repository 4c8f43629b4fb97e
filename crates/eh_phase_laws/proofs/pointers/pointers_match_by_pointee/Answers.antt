use Rattle.eh_phase_laws.proofs.Pointed.{equal_pointees_match, void_takes_objects, void_takes_no_functions, other_pointees_fail}
use Rattle.eh_phase_laws.proofs.pointers.pointers_match_by_pointee.Goals as goal

pub returns : goal.returns
returns c = record { equal = equal_pointees_match; void = void_takes_objects; function = void_takes_no_functions; others = other_pointees_fail }
