-- The fields of the exception tables stand before a function's table or after its words.
use Rattle.std.proofs.Common.{◌≡◌, ℕ, ◌+◌, ◌*◌, ◌^◌, ◌≤◌, ◌<◌, false, cond, List, [], ◌∷◌, ◌++◌, length, Option, Some, Result, Ok, refl, sym, ap, ◌∙◌, arith, subst}
use Rattle.std.proofs.lemmas.Grind.{flat_map-append}
use Rattle.asm_statements.specs.declared.statement.Stmt.{Stmt}
use Rattle.asm_statements.specs.declared.statement.StmtKind.TheVariants as statement
use Rattle.asm_unwind.specs.declared.entry.EntryWords.{EntryWords}
use Rattle.asm_unwind.specs.declared.entry.EntryWords.TheVariants as entry
use Rattle.asm_unwind.specs.declared.directive.UnwindFault.{UnwindFault}
use Rattle.asm_unwind.specs.Entries.{entry_words_of}
use Rattle.asm_relocatable.specs.declared.place.Section.TheVariants.{Extab}
use Rattle.asm_layout.specs.declared.walk.Walk.{Walk}
use Rattle.asm_layout.specs.Functions.{entries_of, no_frame}
use Rattle.asm_layout.specs.Labels.{NamePlace, labels_of}
use Rattle.asm_layout.specs.Sizes.{size_in, is_too_large}
use Rattle.asm_layout.specs.Walks.{start, next, cursor_place, coming_pool, walk_after, sizes_with_pool}
use Rattle.asm_relocatable.specs.Sections.{same_section}
use Rattle.eh_word.specs.Bytes.{next_multiple}
use Rattle.asm_relocatable.specs.declared.object.Object.{Object}
use Rattle.asm_relocatable.specs.declared.object.Reloc.{Reloc}
use Rattle.asm_relocatable.specs.Fields.{StandInOrder, relocs_at}
use Rattle.asm_relocatable.specs.Relocations.{field_size}
use Rattle.asm_object.specs.Objects.{object_of}
use Rattle.asm_object.specs.Pieces.{own_piece, relocs_in, pieces_of}
use Rattle.asm_object.proofs.PlaceLaws.{earlier, split, none_after, walks_on}
use Rattle.asm_object.proofs.ObjectLaws.{taken, ends_small, entries_count, last_unlinked, start_unlinked, all_stand, earlier_stand, table_relocs}
use Rattle.asm_laws.specs.Functions.{HasNoBound, Function, source_of, directives_of, start_at, end_at}
use Rattle.asm_laws.specs.RowLaw.{walk_over}
use Rattle.asm_laws.proofs.Handlers.{table_end}
use Rattle.asm_laws.proofs.Standing.{fewer, at_start, own_entry}
use Rattle.asm_object.proofs.Statements.{walk_sets, walk_pieces}
use Rattle.asm_layout.specs.Placing.{word_place, place_stmts_from}
use Rattle.asm_object.specs.After.{pieces_from, refusals_from}

abbrev the_none : List Reloc
the_none = []

start_relocs : (entries : List (Option EntryWords)) (labels : List NamePlace) (walk : Walk) (line : ℕ) (more : List Stmt)
    → relocs_in Extab (pieces_from entries labels walk (start_at line ∷ more)) ≡ relocs_in Extab (pieces_from entries labels (next entries walk statement.FnStart) more)
unfolding pieces_of place_stmts_from walk_after
start_relocs entries labels walk line more =
    let word = word_place walk statement.FnStart (coming_pool entries walk (start_at line ∷ more)) in
    let rest = pieces_from entries labels (next entries walk statement.FnStart) more in
    flat_map-append (λ p. cond (same_section p.place.section Extab) p.relocs the_none) (walk_pieces entries labels walk word statement.FnStart) rest
    ∙ ap (λ r. r ++ relocs_in Extab rest)
    (last_unlinked Extab (walk_sets entries labels walk statement.FnStart) (own_piece labels statement.FnStart (cursor_place walk.at) word) refl
    ∙ start_unlinked entries labels walk Extab)

-- the fields of the exception tables around a function's table
pub record FieldsAround (object : Object) (table end : ℕ) : Type 0 where
  pub front : List Reloc
  pub back : List Reloc
  pub last : ℕ
  pub split_there : relocs_at Extab object ≡ front ++ back
  pub before : StandInOrder 0 front table
  pub after_it : StandInOrder end back last

order_later : (from : ℕ) (relocs : List Reloc) (a b : ℕ) → a ≤ b → StandInOrder from relocs a → StandInOrder from relocs b
order_later from [] a b h s = omega (arith, h, s)
order_later from (reloc ∷ more) a b h s = (s.0, order_later (reloc.offset + field_size reloc) more a b h s.1)

multiple_after : (n : ℕ) → n ≤ next_multiple n 4
multiple_after n = omega arith

words_same : (a b : EntryWords) (r : Result EntryWords UnwindFault) → r ≡ Ok a → r ≡ Ok b → a ≡ b
words_same a b r e f = cc

rest_unrefused : (entries : List (Option EntryWords)) (labels : List NamePlace) (walk : Walk) (before : List Stmt) (line : ℕ) (more : List Stmt)
    → refusals_from entries labels walk (before ++ start_at line ∷ more) ≡ [] → refusals_from entries labels (next entries (walk_after entries walk before) statement.FnStart) more ≡ []
unfolding walk_after
rest_unrefused entries labels walk before line more r =
    none_after entries labels (walk_after entries walk before) (start_at line ∷ []) more (none_after entries labels walk before (start_at line ∷ more) r)

rest_small : (entries : List (Option EntryWords)) (walk : Walk) (before : List Stmt) (line : ℕ) (more : List Stmt)
    → is_too_large (sizes_with_pool (walk_after entries walk (before ++ start_at line ∷ more))) ≡ false
    → is_too_large (sizes_with_pool (walk_after entries (next entries (walk_after entries walk before) statement.FnStart) more)) ≡ false
unfolding walk_after
rest_small entries walk before line more h =
    ap (λ w. is_too_large (sizes_with_pool w)) (sym (walks_on entries walk before (start_at line ∷ more))) ∙ h

pub fields_around : (f : Function) (words : List ℕ) (object : Object) → HasNoBound f.between → length (source_of f) < 2 ^ 64 → object_of (source_of f) ≡ Ok object
    → entry_words_of (directives_of f) ≡ Ok (entry.Table words)
    → FieldsAround object (next_multiple (walk_over (source_of f) f.before).at.sizes.extab 4) (next_multiple (walk_over (source_of f) f.before).at.sizes.extab 4 + 4 * length words)
fields_around f words object plain few e given =
    let stmts = source_of f in
    let entries = entries_of stmts in
    let labels = labels_of entries stmts in
    let more = f.between ++ end_at f.end_line ∷ f.after in
    let all = start_at f.start_line ∷ more in
    let walk = walk_over stmts f.before in
    let first = next entries walk statement.FnStart in
    let t = taken stmts object e in
    let at = at_start stmts f.before f.start_line more object refl few t in
    let own = own_entry entries walk f.start_line f.between f.end_line f.after at.opens plain in
    let same = words_same own.words (entry.Table words) _ own.given given in
    let end = table_end stmts f words object refl few t at.opens.closed at.opens.few (own.there ∙ ap Some same) in
    let few_entries = fewer _ _ (entries_count no_frame stmts) few in
    let small = ends_small entries start 0 stmts t.small in
    let S : ℕ → Type 0 = λ n. StandInOrder n (relocs_in Extab (pieces_from entries labels first more)) (size_in (sizes_with_pool (walk_after entries first more)) Extab) in
    record {
      front = relocs_in Extab (earlier entries labels start f.before all);
      back = relocs_in Extab (pieces_from entries labels first more);
      last = size_in (sizes_with_pool (walk_after entries first more)) Extab;
      split_there =
          ap (λ (o : Object). relocs_at Extab o) t.object_is ∙ table_relocs stmts
          ∙ ap (relocs_in Extab) (split entries labels start f.before all)
          ∙ flat_map-append (λ p. cond (same_section p.place.section Extab) p.relocs the_none) (earlier entries labels start f.before all) (pieces_from entries labels walk all)
          ∙ ap (λ r. relocs_in Extab (earlier entries labels start f.before all) ++ r) (start_relocs entries labels walk f.start_line more);
      before =
          order_later 0 _ walk.at.sizes.extab _ (multiple_after walk.at.sizes.extab)
          (earlier_stand entries labels start f.before all Extab few_entries t.unrefused small);
      after_it = subst S end (all_stand entries labels first more Extab few_entries (rest_unrefused entries labels start f.before f.start_line more t.unrefused) (rest_small entries start f.before f.start_line more small));
    }
