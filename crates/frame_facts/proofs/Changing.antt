-- What calls and gates change, register by register.
use Rattle.std.proofs.Common.{◌≡◌, List, refl, set}
use Rattle.thumb_core.specs.Words.{registers_of_list}
use Rattle.frame_facts.specs.declared.facts.Source.{Source}
use Rattle.frame_facts.specs.declared.facts.Source.TheVariants.{Other}
use Rattle.frame_facts.specs.declared.facts.Fact.{Fact}
use Rattle.frame_facts.specs.Facts.{forget_registers}
use Rattle.frame_facts.specs.Branches.{call_changes, gate_changes}

abbrev with_regs : Fact → List Source → Fact
with_regs f regs = record f { regs = regs }

pub gate_leaves : (f : Fact) → with_regs f (set (set (set (set (set f.regs 0 Other) 1 Other) 2 Other) 3 Other) 12 Other) ≡ forget_registers gate_changes f
unfolding registers_of_list
gate_leaves f = refl

pub call_leaves : (f g : Fact) → g ≡ forget_registers gate_changes f → with_regs g (set g.regs 13 Other) ≡ forget_registers call_changes f
unfolding registers_of_list
call_leaves f g e = rw (e) refl
