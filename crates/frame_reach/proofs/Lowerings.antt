-- No lowering place lies in the prologue.
use Rattle.std.proofs.Common.{ℕ, ◌≡◌, ◌==◌, not, Bool, true, false, Some, None, is_some, sym, ap, refl}
use Rattle.std.specs.Prelude.{if◌then◌else◌}
use Rattle.std.proofs.lemmas.Bool.{and_parts}
use Rattle.thumb_isa.specs.declared.instr.Instr.{Instr}
use Rattle.thumb_isa.specs.declared.instr.Instr.TheVariants.{MovHigh}
use Rattle.frame_facts.specs.Prologues.{may_stand}
use Rattle.frame_code.specs.Standing.{instruction_of}
use Rattle.frame_code.specs.Lowering.{sets_sp_from}
use Rattle.frame_graph.proofs.NoLowering.{lowers_nowhere}
use Rattle.frame_reach.specs.Laws.{NoLoweringInThePrologue}
use Rattle.frame_reach.proofs.Runs.{taken_well}

-- what may stand in a prologue is no MOV into sp
sets_no_sp : (i : Instr) → may_stand i ≡ true → is_some (sets_sp_from i) ≡ false
sets_no_sp (MovHigh d m) h = by (d == 13) (and_parts (not (d == 13)) (not (d == 15)) h).0
  where
    by : (b : Bool) → not b ≡ true → is_some (if b then Some m else None) ≡ false
    by true e = absurd cc
    by false e = refl
sets_no_sp i h = refl

pub no_lowering_in_the_prologue : NoLoweringInThePrologue
no_lowering_in_the_prologue s m p run r c =
    sym (lowers_nowhere s m.reached p c.0 (ap instruction_of c.3) (sets_no_sp c.0 (taken_well run c.2 c.0 c.1 c.5).0))
