-- The parts of a summary make it.
use Rattle.std.proofs.Common.{◌≡◌, ℕ, List, [], ◌++◌, length, refl}
use Rattle.std.specs.Prelude.{codes, flat_map}
use Rattle.frame_audit.specs.Audits.{Audit}
use Rattle.frame_audit.specs.declared.counts.Question.TheVariants as question
use Rattle.frame_audit.specs.declared.counts.TheConstants.{CAUSES}
use Rattle.gnu_index.specs.declared.tables.RefusedEntry.{RefusedEntry}
use Rattle.audit_top.specs.Text.{some_count_line, cause_count_line, stray_text, agreement_line, function_count, summary_text}

-- the counts that a summary has
pub record AreCounts (x : Audit) (with_well with_all without_well without_all well all : ℕ) : Type 0 where
  pub with_well_is : with_well ≡ function_count x question.UnwindsWell
  pub with_all_is : with_all ≡ function_count x question.Unwinds
  pub without_well_is : without_well ≡ function_count x question.CantUnwindWell
  pub without_all_is : without_all ≡ function_count x question.CantUnwind
  pub well_is : well ≡ function_count x question.Well
  pub all_is : all ≡ length x.functions

pub summed : (refused : List RefusedEntry) (x : Audit) (none headed caused counted_refused strayed first second third : List ℕ) (stray with_well with_all without_well without_all well all : ℕ) → AreCounts x with_well with_all without_well without_all well all
    → none ≡ [] → headed ≡ none ++ codes "-- summary\n" → caused ≡ headed ++ flat_map (cause_count_line x.functions) CAUSES → counted_refused ≡ caused ++ some_count_line (codes "lsda") (length refused) → stray ≡ x.stray → strayed ≡ counted_refused ++ stray_text stray
    → first ≡ strayed ++ agreement_line with_well with_all (codes " with a table") → second ≡ first ++ agreement_line without_well without_all (codes " that can't be unwound")
    → third ≡ second ++ agreement_line well all [] → third ≡ summary_text refused x
unfolding summary_text
summed refused x none headed caused counted_refused strayed first second third stray with_well with_all without_well without_all well all n e0 e1 e2 er es e3 e4 e5 e6 =
    rw (e6, e5, e4, e3, es, er, e2, e1, e0, n.with_well_is, n.with_all_is, n.without_well_is, n.without_all_is, n.well_is, n.all_is) refl
