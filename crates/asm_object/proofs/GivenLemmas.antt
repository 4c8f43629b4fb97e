-- What statements give, one statement on.
use Rattle.std.proofs.Common.{◌≡◌, ◌++◌, ◌∷◌, ℕ, List, Option, Some, None, option_map, refl, append_assoc}
use Rattle.std.proofs.lemmas.List.Sums.{fold-append}
use Rattle.asm_unwind.specs.declared.entry.EntryWords.{EntryWords}
use Rattle.asm_layout.specs.declared.fault.AsmFault.{AsmFault}
use Rattle.asm_layout.specs.declared.fault.AsmWhat.{AsmWhat}
use Rattle.asm_layout.specs.declared.placed.PlacedPool.{PlacedPool}
use Rattle.asm_layout.specs.PlacedStmt.{PlacedStmt}
use Rattle.asm_layout.specs.Faults.{fault_at, first_of, first_of_all}
use Rattle.asm_layout.specs.Labels.{NamePlace}
use Rattle.asm_layout.proofs.FaultLaws.{first_after}
use Rattle.asm_layout.proofs.FirstLaws.{some_stays}
use Rattle.asm_relocatable.specs.declared.object.IndexRow.{IndexRow}
use Rattle.asm_object.specs.declared.parts.Sections.{Sections}
use Rattle.asm_object.specs.Pieces.{pieces_at, pieces_of, rows_of_puts, rows_of}
use Rattle.asm_object.specs.Objects.{faults_at, refusals_at, refusals_of}
use Rattle.asm_object.specs.Built.{with_piece, with_pieces}

pub fault_one : (first : Option AsmFault) (line : ℕ) (what : Option AsmWhat) → first_of first (option_map (fault_at line) what) ≡ first_of_all first (faults_at line what)
unfolding first_of_all
fault_one first line None = refl
fault_one first line (Some what) = refl

-- what is not refused so far was not refused before
pub none_before : (first : Option AsmFault) (faults : List AsmFault) → first_of_all first faults ≡ None → first ≡ None
none_before None faults e = refl
none_before (Some fault) faults e = absurd (some_stays fault faults e)

pub first_more : (labels : List NamePlace) (before after all : Option AsmFault) (placed : PlacedStmt) (more : List PlacedStmt) → after ≡ first_of_all before (refusals_at labels placed)
    → first_of_all before (refusals_of labels (placed ∷ more)) ≡ all → first_of_all after (refusals_of labels more) ≡ all
first_more labels before after all placed more a e = rw (a, ← first_after before (refusals_at labels placed) (refusals_of labels more)) e

pub sections_more : (entries : List (Option EntryWords)) (labels : List NamePlace) (before after all : Sections) (placed : PlacedStmt) (more : List PlacedStmt) (last : PlacedPool)
    → after ≡ with_pieces before (pieces_at entries labels placed) → with_pieces before (pieces_of entries labels (placed ∷ more) last) ≡ all
    → with_pieces after (pieces_of entries labels more last) ≡ all
unfolding pieces_of
sections_more entries labels before after all placed more last a e =
    rw (a, ← fold-append with_piece before (pieces_at entries labels placed) (pieces_of entries labels more last)) e

pub rows_more : (entries : List (Option EntryWords)) (before after all : List IndexRow) (placed : PlacedStmt) (more : List PlacedStmt) → after ≡ before ++ rows_of_puts entries placed.puts
    → before ++ rows_of entries (placed ∷ more) ≡ all → after ++ rows_of entries more ≡ all
rows_more entries before after all placed more a e = rw (a, append_assoc) e
