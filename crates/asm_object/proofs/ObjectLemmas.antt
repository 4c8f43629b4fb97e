-- The object of a source by its layout, and the first of its refusals.
use Rattle.std.proofs.Common.{◌≡◌, ◌⊎◌, inl, inr, ℕ, ◌==◌, ◌&&◌, not, false, cond, List, [], ◌∷◌, ◌++◌, map, length, Option, Some, None, Ok, Err, refl, sym, ap, ◌∙◌, arith, append_assoc}
use Rattle.std.proofs.lemmas.List.{append-nil}
use Rattle.asm_statements.specs.declared.statement.Stmt.{Stmt}
use Rattle.asm_unwind.specs.declared.entry.EntryWords.{EntryWords}
use Rattle.asm_layout.specs.declared.fault.AsmFault.{AsmFault}
use Rattle.asm_layout.specs.declared.labels.Label.{Label}
use Rattle.asm_layout.specs.declared.placed.PlacedPool.{PlacedPool}
use Rattle.asm_layout.specs.PlacedStmt.{PlacedStmt}
use Rattle.asm_relocatable.specs.declared.object.IndexRow.{IndexRow}
use Rattle.asm_relocatable.specs.declared.object.Object.{Object}
use Rattle.asm_relocatable.specs.declared.place.Section.{Section}
use Rattle.asm_relocatable.specs.declared.place.Section.TheVariants.{Text, Rodata, Extab, Init, Bss}
use Rattle.asm_layout.specs.Faults.{first_of, first_of_all, out_of_memory}
use Rattle.asm_layout.specs.Functions.{entries_of, unwind_faults_of}
use Rattle.asm_layout.specs.Walks.{start, walk_after}
use Rattle.asm_relocatable.specs.Sections.{same_section}
use Rattle.asm_layout.specs.Labels.{labels_of, name_with_label, label_places, duplicates_from, too_large_from}
use Rattle.asm_layout.specs.Placing.{place_stmts, last_pool}
use Rattle.asm_layout.proofs.FaultLaws.{first_after, first_by_itself}
use Rattle.asm_layout.proofs.LayoutLaws.{map_after}
use Rattle.asm_layout.proofs.NamedLaws.{named_in-labelled}
use Rattle.asm_object.specs.declared.part.Part.{Part}
use Rattle.asm_object.specs.declared.parts.Sections.{Sections}
use Rattle.asm_object.specs.Pieces.{Piece, pieces_of, rows_of, bytes_in, relocs_in, mark_of, marks_from}
use Rattle.asm_object.specs.Objects.{refusals_of, faults_of, assembled_object, object_of}
use Rattle.asm_object.specs.Built.{part_with, with_piece_in, with_piece, with_pieces, no_part, no_sections, object_of_parts}

-- ---- refusals

first_of_two : (faults more : List AsmFault) → first_of_all None (faults ++ more) ≡ first_of (first_of_all None faults) (first_of_all None more)
first_of_two faults more = first_after None faults more ∙ first_by_itself (first_of_all None faults) more

first_by_parts : (stmts : List Stmt)
    → let entries = entries_of stmts in
    first_of_all (first_of (first_of (first_of_all None (unwind_faults_of stmts)) (first_of_all None (duplicates_from [] stmts))) (first_of_all None (too_large_from entries start 0 stmts)))
    (refusals_of (label_places (map (name_with_label entries stmts) (labels_of entries stmts))) (place_stmts entries stmts)) ≡ first_of_all None (faults_of stmts)
unfolding faults_of
first_by_parts stmts = rw named_in-labelled (simp first_of_two (first_by_itself _ _))

-- the first refusal of a source by those of its parts
pub first_fault : (stmts : List Stmt) (entries : List (Option EntryWords)) (labels : List (List ℕ × Label)) (placed : List PlacedStmt) (unwind duplicate too_large two three all : Option AsmFault)
    → entries ≡ entries_of stmts → labels ≡ map (name_with_label entries stmts) (labels_of entries stmts) → placed ≡ place_stmts entries stmts
    → unwind ≡ first_of_all None (unwind_faults_of stmts) → duplicate ≡ first_of_all None (duplicates_from [] stmts)
    → too_large ≡ first_of_all None (too_large_from entries start 0 stmts) → two ≡ first_of unwind duplicate → three ≡ first_of two too_large
    → all ≡ first_of_all three (refusals_of (label_places labels) placed) → all ≡ first_of_all None (faults_of stmts)
first_fault stmts entries labels placed unwind duplicate too_large two three all e l p u d t v w r = rw (r, w, v, u, d, t, p, l, e) (first_by_parts stmts)

-- ---- what sections hold that were built piece by piece

abbrev part_of : Section → Sections → Part
part_of Text sections = sections.text.part
part_of Rodata sections = sections.rodata
part_of Extab sections = sections.extab
part_of Init sections = sections.init
part_of Bss sections = no_part

marked_part : (sections : Sections) (piece : Piece) → (with_piece_in Text sections piece).text.part ≡ part_with sections.text.part piece.bytes piece.relocs
marked_part sections piece = grind arith

part_more : (s section : Section) (sections : Sections) (piece : Piece) → same_section s Bss ≡ false
    → part_of s (with_piece_in section sections piece) ≡ part_with (part_of s sections) (cond (same_section section s) piece.bytes []) (cond (same_section section s) piece.relocs [])
part_more Text Text sections piece e = marked_part sections piece
part_more Rodata Rodata sections piece e = refl
part_more Extab Extab sections piece e = refl
part_more Init Init sections piece e = refl
part_more Bss _ sections piece e = cc
part_more _ _ sections piece e = simp append-nil

part_built : (s : Section) (sections : Sections) (pieces : List Piece) → same_section s Bss ≡ false
    → part_of s (with_pieces sections pieces) ≡ part_with (part_of s sections) (bytes_in s pieces) (relocs_in s pieces)
part_built s sections [] e = simp append-nil
part_built s sections (piece ∷ more) e = part_built s (with_piece sections piece) more e ∙ rw (part_more s piece.place.section sections piece e) (simp append_assoc)

-- the marks of the text
text_marks : (sections : Sections) (pieces : List Piece)
    → (with_pieces sections pieces).text.marks ≡ sections.text.marks ++ marks_from sections.text.last pieces
unfolding marks_from
text_marks sections [] = sym (append-nil (sections.text.marks))
text_marks sections (piece ∷ more) = text_marks (with_piece sections piece) more ∙ step piece.place.section
  where
    step : (section : Section) → (with_piece_in section sections piece).text.marks ++ marks_from (with_piece_in section sections piece).text.last more
        ≡ sections.text.marks ++ cond (same_section section Text && not (length piece.bytes == 0)) (mark_of sections.text.last piece.place.offset piece.code ++ marks_from (Some piece.code) more) (marks_from sections.text.last more)
    step section = grind (arith, append_assoc sections.text.marks (mark_of sections.text.last piece.place.offset piece.code) (marks_from (Some piece.code) more))

-- the object of a source that nothing is refused of
all_joined : (stmts : List Stmt)
    → let entries = entries_of stmts in
    let labels = map (name_with_label entries stmts) (labels_of entries stmts) in
    object_of_parts (with_pieces no_sections (pieces_of entries (label_places labels) (place_stmts entries stmts) (last_pool entries start stmts))) (rows_of entries (place_stmts entries stmts)) labels
    (walk_after entries start stmts).at.sizes.bss ≡ assembled_object stmts
unfolding assembled_object
all_joined stmts =
    let entries = entries_of stmts in
    let pieces = pieces_of entries (labels_of entries stmts) (place_stmts entries stmts) (last_pool entries start stmts) in
    rw (named_in-labelled, map_after, part_built Text no_sections pieces refl, part_built Rodata no_sections pieces refl, part_built Extab no_sections pieces refl, part_built Init no_sections pieces refl, text_marks no_sections pieces)

refused : (stmts : List Stmt) (fault : AsmFault) → first_of_all None (faults_of stmts) ≡ Some fault → object_of stmts ≡ Err fault
unfolding object_of
refused stmts fault e = rw e

-- a fault is want of memory, or what the source is refused by
pub refused_by : (stmts : List Stmt) (fault : AsmFault) (first : Option AsmFault) → first ≡ first_of_all None (faults_of stmts)
    → (fault ≡ out_of_memory) ⊎ (first ≡ Some fault) → (fault ≡ out_of_memory) ⊎ (object_of stmts ≡ Err fault)
refused_by stmts fault first e (inl memory) = inl memory
refused_by stmts fault first e (inr is) = inr (refused stmts fault (sym e ∙ is))

pub taken : (stmts : List Stmt) (entries : List (Option EntryWords)) (labels : List (List ℕ × Label)) (placed : List PlacedStmt) (last : PlacedPool) (sections : Sections) (rows : List IndexRow) (bss : ℕ) (object : Object)
    → first_of_all None (faults_of stmts) ≡ None
    → entries ≡ entries_of stmts → labels ≡ map (name_with_label entries stmts) (labels_of entries stmts) → placed ≡ place_stmts entries stmts → last ≡ last_pool entries start stmts
    → sections ≡ with_pieces no_sections (pieces_of entries (label_places labels) placed last) → rows ≡ rows_of entries placed
    → bss ≡ (walk_after entries start stmts).at.sizes.bss → object ≡ object_of_parts sections rows labels bss → object_of stmts ≡ Ok object
unfolding object_of
taken stmts entries labels placed last sections rows bss object f e l p q s r b o =
    rw (f, o, s, r, b, q, p, l, e) (ap (λ x. Ok x) (sym (all_joined stmts)))
