use Rattle.std.proofs.Common.{None, Some, Option, [], ◌∷◌, ap}
use Rattle.thumb_core.specs.declared.ends.End.{End}
use Rattle.eh_threads.specs.Starting.{unless_refused}
use Rattle.eh_threads.proofs.laws.four_threads_start.Goals as goal

pub returns : goal.returns
returns c = record {
  third = λ p core one two e. ap (λ (o : Option End). unless_refused o 0 core (Some one ∷ Some two ∷ None ∷ None ∷ [])) e;
  fifth = λ p core one two three four e. ap (λ (o : Option End). unless_refused o 0 core (Some one ∷ Some two ∷ Some three ∷ Some four ∷ [])) e;
}
