-- A `ldr rt, =value` of a source loads what the value says.
use Rattle.asm_layout.specs.declared.walk.TheConstants.{MOST_BYTES}
use Rattle.std.proofs.Common.{◌≡◌, ℕ, ℤ, pos, negsuc, suc, ◌+◌, ◌-◌, ◌*◌, ◌/◌, ◌%◌, ◌^◌, ◌≤◌, ◌<◌, ◌-ℤ◌, ◌==◌, min, not, nat_lt, Bool, true, false, cond, List, [], ◌∷◌, ◌++◌, length, drop, take, Option, Some, None, option_map, Result, Ok, Err, refl, sym, ap, ◌∙◌, arith, append-nil, length-append, length-drop, subst}
use Rattle.std.specs.List.{position_or_len}
use Rattle.std.specs.Result.{result_err}
use Rattle.std.proofs.lemmas.Bool.{true≢false}
use Rattle.std.proofs.lemmas.Bool.Decides.{nat_tests}
use Rattle.std.proofs.lemmas.Grind.{flat_map-append}
use Rattle.std.proofs.lemmas.Int.{ints}
use Rattle.std.proofs.lemmas.List.{length-take}
use Rattle.std.proofs.Math.Seq.{take-append_seam}
use Rattle.byteorder.specs.Endian.{little_number}
use Rattle.byteorder.specs.Numbers.{little_from-bytes, little_from-take, little_number-reads_back}
use Rattle.asm_statements.specs.declared.statement.Expr.{Expr}
use Rattle.asm_statements.specs.declared.statement.Stmt.{Stmt}
use Rattle.asm_statements.specs.declared.statement.StmtKind.{StmtKind}
use Rattle.asm_statements.specs.declared.statement.StmtKind.TheVariants as statement
use Rattle.asm_unwind.specs.declared.entry.EntryWords.{EntryWords}
use Rattle.thumb_isa.specs.declared.instr.Instr.TheVariants.{LdrLit}
use Rattle.thumb_encode.specs.Codes.{encode_result}
use Rattle.thumb_encode.specs.declared.code.Code.{Code}
use Rattle.thumb_encode.specs.declared.code.Code.TheVariants as code
use Rattle.thumb_isa.specs.declared.encode_fault.EncodeFault.{EncodeFault}
use Rattle.eh_word.specs.Bytes.{gap}
use Rattle.asm_relocatable.specs.declared.place.Section.TheVariants.{Text}
use Rattle.asm_layout.specs.declared.walk.Sizes.{Sizes}
use Rattle.asm_layout.specs.declared.walk.Walk.{Walk}
use Rattle.asm_layout.specs.declared.word.Word.{Word}
use Rattle.asm_layout.specs.Functions.{entries_of, no_frame}
use Rattle.asm_layout.specs.Labels.{NamePlace, labels_of}
use Rattle.asm_layout.specs.SameWords.{same_word}
use Rattle.asm_layout.specs.Sizes.{sum_64, times, size_in, is_too_large}
use Rattle.asm_layout.specs.Walks.{start, next, cursor_place, is_empty, is_in_text, ends_pool, pool_place, pool_with, coming_pool, sizes_with_pool, walk_after}
use Rattle.asm_relocatable.specs.Sections.{same_section}
use Rattle.asm_layout.specs.Words.{word_of}
use Rattle.asm_relocatable.specs.declared.object.Object.{Object}
use Rattle.asm_relocatable.specs.declared.object.Reloc.{Reloc}
use Rattle.asm_object.specs.Bytes.{word_bytes, half_bytes, code_bytes}
use Rattle.asm_object.specs.Instructions.{base, literal, literal_to}
use Rattle.asm_object.specs.Objects.{assembled_object}
use Rattle.asm_relocatable.specs.Fields.{StandInOrder, bytes_at}
use Rattle.asm_object.specs.Pieces.{Piece, place_at, bytes_of_code, word_relocs, filling_piece, words_piece, pool_pieces, own_piece, bytes_in, relocs_in, pieces_of_puts, pieces_of}
use Rattle.asm_object.specs.Refusals.{instruction_fault, refusal}
use Rattle.asm_object.specs.declared.value.Link.{Link}
use Rattle.asm_object.specs.Values.{section_word, link_of}
use Rattle.asm_object.proofs.LoadLaws.{HasWord, and_true, put_there, pool_keeps, ends_sizes, law_of_loads as law_of_read_words}
use Rattle.asm_object.proofs.PlaceLaws.{Fewer, earlier, gives, law_of_ends, loads, none_after, none_parts, not_large, split, walks_on}
use Rattle.asm_object.proofs.ObjectLaws.{IsTaken, taken, all_own, all_stand, earlier_stand, ends_small, entries_count, last_unlinked}
use Rattle.eh_link.specs.FieldLaw.{IsInNoField}
use Rattle.eh_link.specs.Layout.{address_in}
use Rattle.eh_link.proofs.Words.{Reads}
use Rattle.asm_laws.specs.RowLaw.{walk_over}
use Rattle.asm_laws.specs.MarkLaw.{text_after}
use Rattle.link_laws.specs.LabelLaw.{Has}
use Rattle.link_laws.specs.FilledLaw.{DecodesAt}
use Rattle.link_laws.specs.PoolLaw.{LoadsReadValues}
use Rattle.link_laws.proofs.Codes.{literal_is, load_means, no_literal}
use Rattle.link_laws.proofs.Given.{has_of_section, joined_relocs, none_before_it, none_after_it, none_in_both, none_of_section}
use Rattle.link_laws.proofs.Labels.{begins_at, has_left, has_right}
use Rattle.link_laws.proofs.Leading.{coded, minus_small, reaches}
use Rattle.link_laws.proofs.Said.{field_at, word_clear, word_says, words_have}
use Rattle.link_laws.proofs.Targets.{given_in_text, own_decodes, place_in, place_is, text_aligned, text_begins, text_small}
use Rattle.asm_object.proofs.Statements.{walk_sets, walk_pieces}
use Rattle.asm_layout.specs.Placing.{word_place, place_stmts_from, pool_here, pool_puts}
use Rattle.asm_layout.specs.declared.placed.Puts.TheVariants as puts
use Rattle.asm_object.specs.After.{pieces_from, refusals_from}

-- ---- a word in its pool

not_none : (n : ℕ) → 0 < n → (n == 0) ≡ false
not_none n h = grind (arith, nat_tests)

filled_pool : (pool : List Word) (word : Word) (at : ℕ) → HasWord pool word at → is_empty pool ≡ false
filled_pool pool word at h = ap is_empty h.split ∙ not_none (length (h.front ++ word ∷ h.back)) (omega (arith, length-append h.front (word ∷ h.back)))

-- ---- its field, or none

-- what pieces have for a word at a place of the text: its field where the linker fills it, and else no field in its four bytes
record Held (relocs : List Reloc) (word : Word) (place : ℕ) : Type 0 where
  field : (link : Link) → link_of word ≡ Some link → Has relocs (field_at Text place link)
  clear : link_of word ≡ None → (j : ℕ) → place ≤ j → j < place + 4 → IsInNoField Text j relocs

held_in_words : (from : ℕ) (pool : List Word) (word : Word) (at : ℕ) → HasWord pool word at → from + 4 * length pool ≤ MOST_BYTES → Held (word_relocs Text from pool) word (from + 4 * at)
held_in_words from pool word at h small =
    let P : ℕ → Type 0 = λ n. Held (word_relocs Text from pool) word (from + 4 * n) in
    let Q : List Word → Type 0 = λ l. Held (word_relocs Text from l) word (from + 4 * length h.front) in
    let count : length pool ≡ length h.front + suc (length h.back) = ap length h.split ∙ length-append h.front (word ∷ h.back) in
    subst P (sym h.place) (subst Q (sym h.split) (record {
      field = λ link e. words_have Text from h.front word h.back link (omega (arith, small, count)) e;
      clear = λ e j low below. word_clear Text from j h.front word h.back e (omega (arith, small, ap length h.split)) low below;
    }))

held_both : (xs ys : List Reloc) (word : Word) (place : ℕ) → ((j : ℕ) → place ≤ j → j < place + 4 → IsInNoField Text j xs) → Held ys word place → Held (xs ++ ys) word place
held_both xs ys word place none h = record {
  field = λ link e. has_right xs ys (field_at Text place link) (h.field link e);
  clear = λ e j low below. none_in_both Text xs ys j (none j low below) (h.clear e j low below);
}

held_first : (xs ys : List Reloc) (word : Word) (place : ℕ) → ((j : ℕ) → place ≤ j → j < place + 4 → IsInNoField Text j ys) → Held xs word place → Held (xs ++ ys) word place
held_first xs ys word place none h = record {
  field = λ link e. has_left xs ys (field_at Text place link) (h.field link e);
  clear = λ e j low below. none_in_both Text xs ys j (h.clear e j low below) (none j low below);
}

abbrev the_none : List Reloc
the_none = []

-- in the pool that ends here
held_in_pool : (labels : List NamePlace) (walk : Walk) (word : Word) (at : ℕ) → HasWord walk.pool word at → (sizes_with_pool walk).text ≤ MOST_BYTES
    → Held (relocs_in Text (pool_pieces labels (pool_here walk))) word (pool_place walk + 4 * at)
held_in_pool labels walk word at h small = by (is_empty walk.pool) (filled_pool walk.pool word at h) small
  where
    ends : (text fill count : ℕ) → sum_64 text (sum_64 fill (times count 4)) ≤ MOST_BYTES → sum_64 text fill + 4 * count ≤ MOST_BYTES
    ends text fill count h = omega (arith, h)

    by : (b : Bool) → b ≡ false
        → (cond b walk.at.sizes (record walk.at.sizes { text = sum_64 walk.at.sizes.text (sum_64 (gap walk.at.sizes.text 4) (times (length walk.pool) 4)) })).text ≤ MOST_BYTES
        → Held (relocs_in Text (cond b [] (filling_piece (place_at Text walk.at.sizes.text) (gap walk.at.sizes.text 4) ∷ words_piece labels (place_at Text (pool_place walk)) walk.pool ∷ []))) word (pool_place walk + 4 * at)
    by true e small = absurd (true≢false e)
    by false e small =
        let P : List Reloc → Type 0 = λ l. Held l word (pool_place walk + 4 * at) in
        subst P (sym (append-nil (word_relocs Text (pool_place walk) walk.pool)))
        (held_in_words (pool_place walk) walk.pool word at h (ends walk.at.sizes.text (gap walk.at.sizes.text 4) (length walk.pool) small))

-- where a pool comes, nothing of the text before it lies
record Comes (entries : List (Option EntryWords)) (labels : List NamePlace) (walk : Walk) (stmts : List Stmt) (word : Word) (at : ℕ) : Type 0 where
  later : walk.at.sizes.text ≤ coming_pool entries walk stmts
  small : coming_pool entries walk stmts + 4 * at ≤ MOST_BYTES
  held : Held (relocs_in Text (pieces_from entries labels walk stmts)) word (coming_pool entries walk stmts + 4 * at)

grows : (a b x y end : ℕ) → a + (x + y) ≡ end → b + y ≡ end → a ≤ b
grows a b x y end h k = omega (arith, h, k)

abbrev no_bytes : List ℕ
no_bytes = []

one_by_one : (entries : List (Option EntryWords)) (labels : List NamePlace) (walk : Walk) (stmt : Stmt) (more : List Stmt)
    → length (bytes_in Text (pieces_from entries labels walk (stmt ∷ more)))
    ≡ length (bytes_in Text (walk_pieces entries labels walk (word_place walk stmt.kind (coming_pool entries walk (stmt ∷ more))) stmt.kind)) + length (bytes_in Text (pieces_from entries labels (next entries walk stmt.kind) more))
unfolding pieces_of place_stmts_from walk_after
one_by_one entries labels walk stmt more =
    let own = walk_pieces entries labels walk (word_place walk stmt.kind (coming_pool entries walk (stmt ∷ more))) stmt.kind in
    let rest = pieces_from entries labels (next entries walk stmt.kind) more in
    ap length (flat_map-append (λ p. cond (same_section p.place.section Text) p.bytes no_bytes) own rest) ∙ length-append (bytes_in Text own) (bytes_in Text rest)

-- the text doesn't shrink after a statement, and stays small
record Onward (entries : List (Option EntryWords)) (walk : Walk) (stmt : Stmt) : Type 0 where
  rises : walk.at.sizes.text ≤ (next entries walk stmt.kind).at.sizes.text
  small : (next entries walk stmt.kind).at.sizes.text ≤ MOST_BYTES

onward : (entries : List (Option EntryWords)) (labels : List NamePlace) (walk : Walk) (stmt : Stmt) (more : List Stmt) → Fewer entries
    → refusals_from entries labels walk (stmt ∷ more) ≡ [] → refusals_from entries labels (next entries walk stmt.kind) more ≡ []
    → is_too_large (sizes_with_pool (walk_after entries walk (stmt ∷ more))) ≡ false → Onward entries walk stmt
unfolding walk_after
onward entries labels walk stmt more few r later h =
    let after = next entries walk stmt.kind in
    let end = (sizes_with_pool (walk_after entries after more)).text in
    let whole = law_of_ends entries labels walk (stmt ∷ more) Text few r h in
    let rest = law_of_ends entries labels after more Text few later h in
    let most : end ≤ MOST_BYTES = not_large (sizes_with_pool (walk_after entries after more)) Text h in
    let count = one_by_one entries labels walk stmt more in
    record {
      rises =
          grows walk.at.sizes.text after.at.sizes.text
          (length (bytes_in Text (walk_pieces entries labels walk (word_place walk stmt.kind (coming_pool entries walk (stmt ∷ more))) stmt.kind)))
          (length (bytes_in Text (pieces_from entries labels after more))) end (ap (λ n. walk.at.sizes.text + n) (sym count) ∙ whole) rest;
      small = within after.at.sizes.text (length (bytes_in Text (pieces_from entries labels after more))) end rest most;
    }
  where
    within : (a x end : ℕ) → a + x ≡ end → end ≤ MOST_BYTES → a ≤ MOST_BYTES
    within a x end e h = omega (arith, e, h)

-- the relocations of a statement's pieces and of those after it
relocs_on : (entries : List (Option EntryWords)) (labels : List NamePlace) (walk : Walk) (stmt : Stmt) (more : List Stmt)
    → relocs_in Text (pieces_from entries labels walk (stmt ∷ more))
    ≡ relocs_in Text (walk_pieces entries labels walk (word_place walk stmt.kind (coming_pool entries walk (stmt ∷ more))) stmt.kind) ++ relocs_in Text (pieces_from entries labels (next entries walk stmt.kind) more)
unfolding pieces_of place_stmts_from walk_after
relocs_on entries labels walk stmt more =
    flat_map-append (λ p. cond (same_section p.place.section Text) p.relocs the_none) (walk_pieces entries labels walk (word_place walk stmt.kind (coming_pool entries walk (stmt ∷ more))) stmt.kind)
    (pieces_from entries labels (next entries walk stmt.kind) more)

-- those of one statement end where the text has come to after it
own_end : (entries : List (Option EntryWords)) (labels : List NamePlace) (walk : Walk) (stmt : Stmt) (more : List Stmt) → Fewer entries
    → refusals_from entries labels walk (stmt ∷ more) ≡ [] → is_too_large (sizes_with_pool (walk_after entries walk (stmt ∷ more))) ≡ false
    → StandInOrder walk.at.sizes.text (relocs_in Text (walk_pieces entries labels walk (word_place walk stmt.kind (coming_pool entries walk (stmt ∷ more))) stmt.kind)) (next entries walk stmt.kind).at.sizes.text
unfolding earlier walk_after
own_end entries labels walk stmt more few r h =
    let own = walk_pieces entries labels walk (word_place walk stmt.kind (coming_pool entries walk (stmt ∷ more))) stmt.kind in
    let P : List Piece → Type 0 = λ l. StandInOrder walk.at.sizes.text (relocs_in Text l) (next entries walk stmt.kind).at.sizes.text in
    subst P (append-nil own) (earlier_stand entries labels walk (stmt ∷ []) more Text few r h)

-- the pieces of a `.pool` in the text are those of its pool
ends_relocs : (entries : List (Option EntryWords)) (labels : List NamePlace) (walk : Walk) (word : Option ℕ) (kind : StmtKind) → ends_pool walk kind ≡ true
    → relocs_in Text (walk_pieces entries labels walk word kind) ≡ relocs_in Text (pool_pieces labels (pool_here walk))
ends_relocs entries labels walk word statement.Pool e =
    last_unlinked Text (walk_sets entries labels walk statement.Pool) (own_piece labels statement.Pool (cursor_place walk.at) word) refl
    ∙ ap (λ b. relocs_in Text (pieces_of_puts entries labels (cond b (pool_puts walk) puts.Nothing))) (and_true (is_in_text walk.at) (not (is_empty walk.pool)) e).0
ends_relocs entries labels walk word _ e = absurd (true≢false (sym e))

-- a word of the pool that begins at the pool's place ends within the text with the pool
pool_end : (walk : Walk) (word : Word) (at : ℕ) → HasWord walk.pool word at → (sizes_with_pool walk).text ≤ MOST_BYTES → pool_place walk + 4 * at + 4 ≤ (sizes_with_pool walk).text
pool_end walk word at h small = by (is_empty walk.pool) (filled_pool walk.pool word at h) small
  where
    count : length walk.pool ≡ length h.front + suc (length h.back)
    count = ap length h.split ∙ length-append h.front (word ∷ h.back)

    ends : (text fill count at front back : ℕ) → at ≡ front → count ≡ front + suc back → sum_64 text (sum_64 fill (times count 4)) ≤ MOST_BYTES → sum_64 text fill + 4 * at + 4 ≤ sum_64 text (sum_64 fill (times count 4))
    ends text fill count at front back e f h = omega (arith, e, f, h)

    by : (b : Bool) → b ≡ false
        → (cond b walk.at.sizes (record walk.at.sizes { text = sum_64 walk.at.sizes.text (sum_64 (gap walk.at.sizes.text 4) (times (length walk.pool) 4)) })).text ≤ MOST_BYTES
        → pool_place walk + 4 * at + 4 ≤ (cond b walk.at.sizes (record walk.at.sizes { text = sum_64 walk.at.sizes.text (sum_64 (gap walk.at.sizes.text 4) (times (length walk.pool) 4)) })).text
    by true e small = absurd (true≢false e)
    by false e small = ends walk.at.sizes.text (gap walk.at.sizes.text 4) (length walk.pool) at (length h.front) (length h.back) h.place count small

pool_later : (walk : Walk) → walk.at.sizes.text ≤ MOST_BYTES → walk.at.sizes.text ≤ pool_place walk
pool_later walk h = walk_over walk.at.sizes.text (gap walk.at.sizes.text 4) h
  where
    walk_over : (text fill : ℕ) → text ≤ MOST_BYTES → text ≤ sum_64 text fill
    walk_over text fill h = omega (arith, h)

coming_is : (entries : List (Option EntryWords)) (walk : Walk) (stmt : Stmt) (more : List Stmt)
    → coming_pool entries walk (stmt ∷ more) ≡ cond (ends_pool walk stmt.kind) (pool_place walk) (coming_pool entries (next entries walk stmt.kind) more)
unfolding coming_pool
coming_is entries walk stmt more = refl

abbrev OfOne : List (Option EntryWords) → List NamePlace → Walk → Stmt → List Stmt → List Reloc
OfOne entries labels walk stmt more = relocs_in Text (walk_pieces entries labels walk (word_place walk stmt.kind (coming_pool entries walk (stmt ∷ more))) stmt.kind)

abbrev OfRest : List (Option EntryWords) → List NamePlace → Walk → Stmt → List Stmt → List Reloc
OfRest entries labels walk stmt more = relocs_in Text (pieces_from entries labels (next entries walk stmt.kind) more)

-- where the pool ends at the statement
comes_here : (entries : List (Option EntryWords)) (labels : List NamePlace) (walk : Walk) (stmt : Stmt) (more : List Stmt) (word : Word) (at end : ℕ) → ends_pool walk stmt.kind ≡ true
    → Onward entries walk stmt → StandInOrder (next entries walk stmt.kind).at.sizes.text (OfRest entries labels walk stmt more) end → walk.at.sizes.text ≤ MOST_BYTES → HasWord walk.pool word at
    → Comes entries labels walk (stmt ∷ more) word at
comes_here entries labels walk stmt more word at end e on order small there =
    let c : coming_pool entries walk (stmt ∷ more) ≡ pool_place walk = coming_is entries walk stmt more ∙ ap (λ b. cond b (pool_place walk) (coming_pool entries (next entries walk stmt.kind) more)) e in
    let sizes : (next entries walk stmt.kind).at.sizes.text ≡ (sizes_with_pool walk).text = ap (λ (z : Sizes). z.text) (ends_sizes entries walk stmt.kind e) in
    let fits : (sizes_with_pool walk).text ≤ MOST_BYTES = omega (arith, sizes, on.small) in
    let last = pool_end walk word at there fits in
    let own = OfOne entries labels walk stmt more in
    let rest = OfRest entries labels walk stmt more in
    let P : List Reloc → Type 0 = λ l. Held l word (pool_place walk + 4 * at) in
    let mine : Held own word (pool_place walk + 4 * at) =
    subst P (sym (ends_relocs entries labels walk (word_place walk stmt.kind (coming_pool entries walk (stmt ∷ more))) stmt.kind e)) (held_in_pool labels walk word at there fits) in
    let both : Held (own ++ rest) word (pool_place walk + 4 * at) =
    held_first own rest word (pool_place walk + 4 * at)
    (λ j low below. none_after_it Text (next entries walk stmt.kind).at.sizes.text rest end j order (onward_of j (pool_place walk + 4 * at) _ _ below last sizes)) mine in
    let L : ℕ → Type 0 = λ n. walk.at.sizes.text ≤ n in
    let H : ℕ → Type 0 = λ n. Held (relocs_in Text (pieces_from entries labels walk (stmt ∷ more))) word (n + 4 * at) in
    let M : ℕ → Type 0 = λ n. n + 4 * at ≤ MOST_BYTES in
    record { later = subst L (sym c) (pool_later walk small); small = subst M (sym c) (below_end (pool_place walk + 4 * at) _ last fits); held = subst H (sym c) (subst P (sym (relocs_on entries labels walk stmt more)) both) }
  where
    below_end : (place end : ℕ) → place + 4 ≤ end → end ≤ MOST_BYTES → place ≤ MOST_BYTES
    below_end place end h k = omega (arith, h, k)

    onward_of : (j place pool after : ℕ) → j < place + 4 → place + 4 ≤ pool → after ≡ pool → j < after
    onward_of j place pool after h k e = omega (arith, h, k, e)

-- where it comes later
comes_later : (entries : List (Option EntryWords)) (labels : List NamePlace) (walk : Walk) (stmt : Stmt) (more : List Stmt) (word : Word) (at : ℕ) → ends_pool walk stmt.kind ≡ false
    → Onward entries walk stmt → StandInOrder walk.at.sizes.text (OfOne entries labels walk stmt more) (next entries walk stmt.kind).at.sizes.text
    → Comes entries labels (next entries walk stmt.kind) more word at → Comes entries labels walk (stmt ∷ more) word at
comes_later entries labels walk stmt more word at e on order ih =
    let p = coming_pool entries (next entries walk stmt.kind) more in
    let c : coming_pool entries walk (stmt ∷ more) ≡ p = coming_is entries walk stmt more ∙ ap (λ b. cond b (pool_place walk) (coming_pool entries (next entries walk stmt.kind) more)) e in
    let own = OfOne entries labels walk stmt more in
    let rest = OfRest entries labels walk stmt more in
    let P : List Reloc → Type 0 = λ l. Held l word (p + 4 * at) in
    let both : Held (own ++ rest) word (p + 4 * at) =
    held_both own rest word (p + 4 * at)
    (λ j low below. none_before_it Text walk.at.sizes.text own (next entries walk stmt.kind).at.sizes.text j order (after_it (next entries walk stmt.kind).at.sizes.text p at j ih.later low)) ih.held in
    let L : ℕ → Type 0 = λ n. walk.at.sizes.text ≤ n in
    let H : ℕ → Type 0 = λ n. Held (relocs_in Text (pieces_from entries labels walk (stmt ∷ more))) word (n + 4 * at) in
    record {
      later = subst L (sym c) (up walk.at.sizes.text (next entries walk stmt.kind).at.sizes.text p on.rises ih.later);
      small = (let M : ℕ → Type 0 = λ n. n + 4 * at ≤ MOST_BYTES in subst M (sym c) ih.small);
      held = subst H (sym c) (subst P (sym (relocs_on entries labels walk stmt more)) both);
    }
  where
    after_it : (after p at j : ℕ) → after ≤ p → p + 4 * at ≤ j → after ≤ j
    after_it after p at j h k = omega (arith, h, k)

    up : (a b c : ℕ) → a ≤ b → b ≤ c → a ≤ c
    up a b c h k = omega (arith, h, k)

comes : (entries : List (Option EntryWords)) (labels : List NamePlace) (walk : Walk) (stmts : List Stmt) (word : Word) (at : ℕ) → Fewer entries
    → refusals_from entries labels walk stmts ≡ [] → is_too_large (sizes_with_pool (walk_after entries walk stmts)) ≡ false → walk.at.sizes.text ≤ MOST_BYTES → HasWord walk.pool word at
    → Comes entries labels walk stmts word at
unfolding pieces_of place_stmts_from walk_after coming_pool
comes entries labels walk [] word at few r h small there = record {
  later = pool_later walk small;
  small = below_end (pool_place walk + 4 * at) (sizes_with_pool walk).text (pool_end walk word at there (not_large (sizes_with_pool walk) Text h)) (not_large (sizes_with_pool walk) Text h);
  held = held_in_pool labels walk word at there (not_large (sizes_with_pool walk) Text h);
}
  where
    below_end : (place end : ℕ) → place + 4 ≤ end → end ≤ MOST_BYTES → place ≤ MOST_BYTES
    below_end place end h k = omega (arith, h, k)
comes entries labels walk (stmt ∷ more) word at few r h small there =
    let after = next entries walk stmt.kind in
    let place = word_place walk stmt.kind (coming_pool entries walk (stmt ∷ more)) in
    let parts = none_parts stmt.line (refusal labels stmt.kind walk.at.section (cursor_place walk.at).offset place) (refusals_from entries labels after more) r in
    let on = onward entries labels walk stmt more few r parts.1 h in
    by (ends_pool walk stmt.kind) refl on (all_stand entries labels after more Text few parts.1 h) (own_end entries labels walk stmt more few r h)
    (λ e. comes entries labels after more word at few parts.1 h on.small (pool_keeps entries walk stmt.kind word at e there))
  where
    by : (b : Bool) → ends_pool walk stmt.kind ≡ b → Onward entries walk stmt
        → StandInOrder (next entries walk stmt.kind).at.sizes.text (OfRest entries labels walk stmt more) (size_in (sizes_with_pool (walk_after entries (next entries walk stmt.kind) more)) Text)
        → StandInOrder walk.at.sizes.text (OfOne entries labels walk stmt more) (next entries walk stmt.kind).at.sizes.text
        → (ends_pool walk stmt.kind ≡ false → Comes entries labels (next entries walk stmt.kind) more word at) → Comes entries labels walk (stmt ∷ more) word at
    by true e on order own ih = comes_here entries labels walk stmt more word at _ e on order small there
    by false e on order own ih = comes_later entries labels walk stmt more word at e on own (ih e)

-- ---- the place that the instruction counts

-- two literals with one code have one offset
same_literal : (t a b : ℕ) (c d : Code) → encode_result (LdrLit t (pos a)) ≡ Ok c → encode_result (LdrLit t (pos b)) ≡ Ok d → bytes_of_code (Ok c) ≡ bytes_of_code (Ok d) → a ≡ b
same_literal t a b c d e f same =
    let one = literal_is 0x4800 t a c e in
    let two = literal_is 0x4800 t b d f in
    let halves : half_bytes (0x4800 + t * 2 ^ 8 + a / 4) ≡ half_bytes (0x4800 + t * 2 ^ 8 + b / 4) = sym (ap code_bytes one.is) ∙ same ∙ ap code_bytes two.is in
    let numbers = same_halves (0x4800 + t * 2 ^ 8 + a / 4) (0x4800 + t * 2 ^ 8 + b / 4) halves (omega (arith, one.low, one.near)) (omega (arith, two.low, two.near)) in
    omega (arith, numbers, one.fourth, two.fourth)
  where
    same_halves : (x y : ℕ) → half_bytes x ≡ half_bytes y → x < 2 ^ 16 → y < 2 ^ 16 → x ≡ y
    same_halves x y e h k = sym (little_number-reads_back 2 x [] h) ∙ ap (λ l. little_number 2 (l ++ [])) e ∙ little_number-reads_back 2 y [] k

record Literal (t : ℕ) (place to : ℕ) : Type 0 where
  n : ℕ
  offset : literal to place ≡ pos n
  is : to ≡ base place + n
  code : Code
  encoded : encode_result (LdrLit t (literal to place)) ≡ Ok code

-- a literal that has a code leads forward
literal_there : (t place to : ℕ) (bytes : List ℕ) → place ≤ MOST_BYTES → to ≤ MOST_BYTES → bytes_of_code (encode_result (LdrLit t (literal to place))) ≡ bytes → length bytes ≡ 2 → Literal t place to
literal_there t place to bytes h k e l = by (literal to place) refl (encode_result (LdrLit t (literal to place))) refl (ap length e ∙ l)
  where
    displacement : literal to place ≡ pos to -ℤ pos (base place)
    displacement = minus_small to (base place) (omega (arith, k)) (omega (arith, h))

    some : (r : Result Code EncodeFault) → length (bytes_of_code r) ≡ 2 → (c : Code) × (r ≡ Ok c)
    some (Ok c) e = (c, refl)
    some (Err fault) e = absurd (omega (arith, e))

    leads : (to from n : ℕ) → pos to -ℤ pos from ≡ pos n → to ≡ from + n
    leads to from n e = grind (arith, ints, nat_tests, e)

    by : (off : ℤ) → literal to place ≡ off → (r : Result Code EncodeFault) → encode_result (LdrLit t (literal to place)) ≡ r → length (bytes_of_code r) ≡ 2 → Literal t place to
    by (pos n) o r f size =
        let c = some r size in
        record { n = n; offset = o; is = leads to (base place) n (sym displacement ∙ o); code = c.0; encoded = f ∙ c.1 }
    by (negsuc n) o r f size =
        let c = some r size in
        absurd (backward t n c.0 (sym (ap (λ off. encode_result (LdrLit t off)) o) ∙ f ∙ c.1))
      where
        backward : (t n : ℕ) (c : Code) → encode_result (LdrLit t (negsuc n)) ≡ Ok c → ⊥
        backward t n c e = no_literal (nat_lt 7 t) (λ words. code.Half (0x4800 + t * 2 ^ 8 + words)) c e

same_place : (t place a b : ℕ) (bytes : List ℕ) → place ≤ MOST_BYTES → a ≤ MOST_BYTES → b ≤ MOST_BYTES → length bytes ≡ 2
    → bytes_of_code (encode_result (LdrLit t (literal a place))) ≡ bytes → bytes_of_code (encode_result (LdrLit t (literal b place))) ≡ bytes → a ≡ b
same_place t place a b bytes h k l size e f =
    let one = literal_there t place a bytes h k e size in
    let two = literal_there t place b bytes h l f size in
    let same = same_literal t one.n two.n one.code two.code
    (sym (ap (λ off. encode_result (LdrLit t off)) one.offset) ∙ one.encoded) (sym (ap (λ off. encode_result (LdrLit t off)) two.offset) ∙ two.encoded)
    (sym (ap bytes_of_code one.encoded) ∙ e ∙ sym f ∙ ap bytes_of_code two.encoded) in
    omega (arith, one.is, two.is, same)

-- ---- a load of a source

abbrev load_at : ℕ → ℕ → Expr → Stmt
load_at line t value = record { line = line; kind = statement.LdrPool t value }

-- what a load has in the pieces of its source: its own code, and its word's field after it
record Loaded (entries : List (Option EntryWords)) (labels : List NamePlace) (walk : Walk) (line t : ℕ) (value : Expr) (more : List Stmt) : Type 0 where
  place : ℕ
  place_is : Some place ≡ word_place walk (statement.LdrPool t value) (coming_pool entries walk (load_at line t value ∷ more))
  following_it : walk.at.sizes.text ≤ place
  small : place ≤ MOST_BYTES
  held : Held (relocs_in Text (pieces_from entries labels walk (load_at line t value ∷ more))) (word_of value) place
  coded : result_err (encode_result (LdrLit t (literal place (cursor_place walk.at).offset))) ≡ None

loaded : (entries : List (Option EntryWords)) (labels : List NamePlace) (walk : Walk) (line t : ℕ) (value : Expr) (more : List Stmt) → Fewer entries
    → refusals_from entries labels walk (load_at line t value ∷ more) ≡ [] → is_too_large (sizes_with_pool (walk_after entries walk (load_at line t value ∷ more))) ≡ false
    → same_section walk.at.section Text ≡ true → Loaded entries labels walk line t value more
unfolding pieces_of place_stmts_from walk_after coming_pool
loaded entries labels walk line t value more few r h text =
    let kind = statement.LdrPool t value in
    let stmt = load_at line t value in
    let after = next entries walk kind in
    let coming = coming_pool entries after more in
    let at = position_or_len (same_word (word_of value)) walk.pool in
    let word = word_place walk kind coming in
    let place = sum_64 coming (times at 4) in
    let named : word ≡ Some place = ap (λ b. option_map (sum_64 coming) (cond b (Some (times at 4)) None)) text in
    let parts = none_parts line (refusal labels kind walk.at.section (cursor_place walk.at).offset word) (refusals_from entries labels after more) r in
    let on = onward entries labels walk stmt more few r parts.1 h in
    let W : Bool → Type 0 = λ b. HasWord (cond b (pool_with walk.pool (word_of value)) walk.pool) (word_of value) at in
    let put : HasWord after.pool (word_of value) at = subst W (sym text) (put_there walk.pool (word_of value)) in
    let c = comes entries labels after more (word_of value) at few parts.1 h on.small put in
    let low : coming + 4 * at ≤ MOST_BYTES = c.small in
    let is : place ≡ coming + 4 * at = exact coming at low in
    let own = OfOne entries labels walk stmt more in
    let rest = OfRest entries labels walk stmt more in
    let both : Held (own ++ rest) (word_of value) (coming + 4 * at) =
    held_both own rest (word_of value) (coming + 4 * at)
    (λ j from below. none_before_it Text walk.at.sizes.text own after.at.sizes.text j (own_end entries labels walk stmt more few r h) (far after.at.sizes.text coming at j c.later from)) c.held in
    let H : ℕ → Type 0 = λ n. Held (relocs_in Text (pieces_from entries labels walk (stmt ∷ more))) (word_of value) n in
    let P : List Reloc → Type 0 = λ l. Held l (word_of value) (coming + 4 * at) in
    record {
      place = place;
      place_is = sym named;
      following_it = omega (arith, is, on.rises, c.later);
      small = omega (arith, is, low);
      held = subst H (sym is) (subst P (sym (relocs_on entries labels walk stmt more)) both);
      coded =
          ap (λ o. instruction_fault (Some (LdrLit t (literal_to o (cursor_place walk.at).offset)))) (sym named)
          ∙ loads entries labels walk kind more word refl (not_large (sizes_with_pool (walk_after entries after more)) Text h) parts.0 refl;
    }
  where
    exact : (coming at : ℕ) → coming + 4 * at ≤ MOST_BYTES → sum_64 coming (times at 4) ≡ coming + 4 * at
    exact coming at h = omega (arith, h)

    far : (after coming at j : ℕ) → after ≤ coming → coming + 4 * at ≤ j → after ≤ j
    far after coming at j h k = omega (arith, h, k)

fewer : (a b : ℕ) → a ≤ b → b < 2 ^ 64 → a < 2 ^ 64
fewer a b h k = omega (arith, h, k)

joined_text : (stmts : List Stmt) → (assembled_object stmts).text ≡ bytes_in Text (pieces_from (entries_of stmts) (labels_of (entries_of stmts) stmts) start stmts)
unfolding assembled_object
joined_text stmts = refl

four_read : (x k : ℕ) (bytes : List ℕ) → take 4 (drop k bytes) ≡ word_bytes x → Reads 4 bytes k (x % 256 ^ 4)
four_read x k bytes e = record {
  inside = inside (length bytes) k (length (drop k bytes)) (length-drop k bytes) (sym (length-take 4 (drop k bytes)) ∙ ap length e);
  is =
      sym (little_from-take 0 4 4 (drop k bytes) (omega arith))
      ∙ ap (λ l. little_number 4 l) (e ∙ sym (append-nil (word_bytes x)))
      ∙ little_from-bytes 4 0 x []
      ∙ ap (λ y. y % 256 ^ 4) (one x);
}
  where
    inside : (all k rest : ℕ) → rest ≡ all - k → min 4 rest ≡ 4 → k + 4 ≤ all
    inside all k rest e f = omega (arith, e, f)

    one : (x : ℕ) → x / 256 ^ 0 ≡ x
    one x = omega arith

cancelled : (xs ys zs : List Stmt) → xs ++ ys ≡ xs ++ zs → ys ≡ zs
cancelled [] ys zs e = e
cancelled (x ∷ xs) ys zs e = let rest : xs ++ ys ≡ xs ++ zs = cc in cancelled xs ys zs rest

-- the word's place in an accepted source, what the object's fields are there, and the instruction's code
record InSource (stmts before more : List Stmt) (line t : ℕ) (value : Expr) (object : Object) : Type 0 where
  own : Loaded (entries_of stmts) (labels_of (entries_of stmts) stmts) (walk_over stmts before) line t value more
  field : (link : Link) → link_of (word_of value) ≡ Some link → Has object.relocs (field_at Text own.place link)
  clear : link_of (word_of value) ≡ None → (j : ℕ) → own.place ≤ j → j < own.place + 4 → IsInNoField Text j object.relocs
  whole : length object.text ≤ MOST_BYTES

in_source : (stmts before more : List Stmt) (line t : ℕ) (value : Expr) (object : Object) → stmts ≡ before ++ load_at line t value ∷ more → length stmts < 2 ^ 64 → IsTaken stmts object
    → same_section (walk_over stmts before).at.section Text ≡ true → InSource stmts before more line t value object
in_source stmts before more line t value object same few is text =
    let entries = entries_of stmts in
    let labels = labels_of entries stmts in
    let walk = walk_over stmts before in
    let after = load_at line t value ∷ more in
    let few_entries = fewer _ _ (entries_count no_frame stmts) few in
    let R : List Stmt → Type 0 = λ l. refusals_from entries labels start l ≡ [] in
    let T : List Stmt → Type 0 = λ l. is_too_large (sizes_with_pool (walk_after entries start l)) ≡ false in
    let ends = ends_small entries start 0 stmts is.small in
    let unrefused = subst R same is.unrefused in
    let large = subst T same ends in
    let r = none_after entries labels start before after unrefused in
    let h : is_too_large (sizes_with_pool (walk_after entries walk after)) ≡ false = ap (λ w. is_too_large (sizes_with_pool w)) (sym (walks_on entries start before after)) ∙ large in
    let l = loaded entries labels walk line t value more few_entries r h text in
    let pieces = pieces_from entries labels start stmts in
    let first = earlier entries labels start before after in
    let parts : pieces ≡ first ++ pieces_from entries labels walk after = ap (pieces_from entries labels start) same ∙ split entries labels start before after in
    let relocs : relocs_in Text pieces ≡ relocs_in Text first ++ relocs_in Text (pieces_from entries labels walk after) =
    ap (relocs_in Text) parts ∙ flat_map-append (λ p. cond (same_section p.place.section Text) p.relocs the_none) first (pieces_from entries labels walk after) in
    let object_relocs = ap (λ (o : Object). o.relocs) is.object_is ∙ joined_relocs stmts in
    let front = earlier_stand entries labels start before after Text few_entries unrefused large in
    let H : List Reloc → Type 0 = λ x. Held x (word_of value) l.place in
    let section_word = subst H (sym relocs)
    (held_both (relocs_in Text first) (relocs_in Text (pieces_from entries labels walk after)) (word_of value) l.place
    (λ j low below. none_before_it Text _ (relocs_in Text first) walk.at.sizes.text j front (up walk.at.sizes.text l.place j l.following_it low)) l.held) in
    record {
      own = l;
      field = λ link e.
          let P : List Reloc → Type 0 = λ x. Has x (field_at Text l.place link) in
          subst P (sym object_relocs) (has_of_section Text pieces (field_at Text l.place link) refl (section_word.field link e));
      clear = λ e j low below.
          let P : List Reloc → Type 0 = λ x. IsInNoField Text j x in
          subst P (sym object_relocs) (none_of_section Text pieces j (all_own entries labels start stmts) (section_word.clear e j low below));
      whole =
          let P : ℕ → Type 0 = λ n. n ≤ MOST_BYTES in
          subst P (sym (ap (λ (o : Object). length o.text) is.object_is ∙ ap length (joined_text stmts)))
          (within (length (bytes_in Text pieces)) (sizes_with_pool (walk_after entries start stmts)).text (law_of_ends entries labels start stmts Text few_entries is.unrefused ends) (not_large (sizes_with_pool (walk_after entries start stmts)) Text ends));
    }
  where
    up : (a b c : ℕ) → a ≤ b → b ≤ c → a ≤ c
    up a b c h k = omega (arith, h, k)

    within : (n end : ℕ) → 0 + n ≡ end → end ≤ MOST_BYTES → n ≤ MOST_BYTES
    within n end e h = omega (arith, e, h)

pub law_of_pools : LoadsReadValues
law_of_pools objects entry image placed one before more line t value few accepted made =
    let stmts = before ++ load_at line t value ∷ more in
    let labels = labels_of (entries_of stmts) stmts in
    let kind = statement.LdrPool t value in
    let none : List ℕ = [] in
    let n = given_in_text stmts before more line kind none objects entry image placed one refl few accepted made refl (λ s. refl) in
    let place = place_in stmts before in
    let there = in_source stmts before more line t value placed.object refl few (taken stmts placed.object accepted) (ap (λ s. same_section s Text) n.text) in
    let l = there.own in
    let read = law_of_read_words before more line t value placed.object few accepted in
    let instruction = LdrLit t (literal l.place place) in
    let rest : n.own.rest ≡ load_at line t value ∷ more = cancelled before n.own.rest (load_at line t value ∷ more) (sym n.own.rest_is) in
    let word : n.own.word ≡ Some l.place = n.own.word_is ∙ ap (λ x. word_place (walk_over stmts before) kind (coming_pool (entries_of stmts) (walk_over stmts before) x)) rest ∙ sym l.place_is in
    let bytes : (own_piece labels kind (cursor_place (walk_over stmts before).at) n.own.word).bytes ≡ bytes_of_code (encode_result instruction) = ap (λ w. bytes_of_code (encode_result (LdrLit t (literal_to w place)))) word in
    let low : place ≤ MOST_BYTES = omega (arith, n.own.small) in
    let code = coded (encode_result instruction) l.coded in
    let size : length (bytes_of_code (encode_result instruction)) ≡ 2 = (gives instruction).has l.coded in
    let text : drop place placed.object.text ≡ bytes_of_code (encode_result instruction) ++ n.own.after =
    ap (λ s. drop place (bytes_at s placed.object)) (sym n.text) ∙ n.own.bytes ∙ ap (λ b. b ++ n.own.after) bytes in
    let both : take 2 (drop place placed.object.text) ≡ bytes_of_code (encode_result instruction) = ap (take 2) text ∙ first_two (bytes_of_code (encode_result instruction)) n.own.after size in
    let mine : read.place ≡ l.place =
    same_place t place read.place l.place (take 2 (drop place placed.object.text)) low
    (far read.place _ there.whole (four_read (held_word stmts value) read.place placed.object.text read.word).inside) l.small (ap length both ∙ size) (sym read.code) (sym both) in
    let decodes = own_decodes kind none objects entry image placed one stmts before instruction n refl bytes l.coded (λ c e. load_means t (literal l.place place) c e) in
    let same : address_in (walk_over stmts before).at.section placed.at + place ≡ placed.at.text + text_after stmts before =
    ap (λ a. a + place) (text_begins (walk_over stmts before).at.section objects placed one n.text) ∙ ap (λ p. placed.at.text + p) (place_is kind none objects entry image placed one stmts before n) in
    let D : ℕ → Type 0 = λ a. DecodesAt instruction image a in
    let address = text_small objects entry image placed one made in
    record {
      part = placed.at.text;
      begins = begins_at Text objects placed one;
      to = placed.at.text + l.place;
      leads = record {
        offset = literal l.place place;
        reads = subst D same decodes;
        comes = λ regs at.
            reaches place l.place low l.small regs placed.at.text (text_aligned objects placed one) (omega (arith, address, l.small))
            (at ∙ ap (λ p. placed.at.text + p) (sym (place_is kind none objects entry image placed one stmts before n)));
      };
      word =
          word_says objects entry image placed one stmts Text l.place value
          (record {
            few = few;
            accepted = accepted;
            made = made;
            has_bytes = refl;
            known = n.own.known;
            reads = λ x e. four_read x l.place placed.object.text (ap (λ k. take 4 (drop k placed.object.text)) (sym mine) ∙ read.word ∙ ap word_bytes e);
            field = there.field;
            clear = there.clear;
          });
    }
  where
    held_word : List Stmt → Expr → ℕ
    held_word stmts value = section_word (labels_of (entries_of stmts) stmts) (word_of value)

    far : (p whole : ℕ) → whole ≤ MOST_BYTES → p + 4 ≤ whole → p ≤ MOST_BYTES
    far p whole h k = omega (arith, h, k)

    first_two : (xs ys : List ℕ) → length xs ≡ 2 → take 2 (xs ++ ys) ≡ xs
    first_two xs ys e = ap (λ n. take n (xs ++ ys)) (sym e) ∙ take-append_seam xs ys
