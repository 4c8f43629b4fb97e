-- There is a table of facts in which each fact is a state.
use Rattle.std.specs.Prelude.{List, Option, Contains}
use Rattle.elf_image.specs.Functions.{Function}
use Rattle.frame_facts.specs.declared.facts.Fact.{Fact}
use Rattle.frame_reach.specs.Marks.{Marks, AreMarks}
use Rattle.frame_check.specs.Accepts.{Accepted}
use Rattle.frame_check.specs.Roots.{flow_graph_of}
use Rattle.sim_relation.specs.Stands.{IsProgram}
use Rattle.sim_changes.specs.Free.{AreFacts}

abbrev pub FactsAreThere : Type 0
FactsAreThere = (x : Accepted) (f : Function) (m : Marks) → IsProgram x → Contains x.image.functions f → AreMarks (flow_graph_of x.image f) m → (facts : List (Option Fact)) × AreFacts x f m facts
