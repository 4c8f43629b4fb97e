-- Each function of an accepted source has its row, and its table stands where the row names it.
use Rattle.asm_layout.specs.declared.walk.TheConstants.{MOST_BYTES}
use Rattle.std.proofs.Common.{◌≡◌, ℕ, zero, suc, ◌+◌, ◌%◌, ◌^◌, ◌≤◌, ◌<◌, Bool, true, false, cond, List, [], ◌∷◌, ◌++◌, length, drop, flat_map, Option, Some, None, Ok, unwrap_or, refl, sym, ap, ◌∙◌, arith, append_assoc, append-nil, subst}
use Rattle.std.specs.Prelude.{slice_get}
use Rattle.std.proofs.lemmas.Grind.{flat_map-append}
use Rattle.std.proofs.lemmas.List.{drop-drop}
use Rattle.std.proofs.Math.Seq.{drop-append_seam}
use Rattle.asm_statements.specs.declared.statement.Stmt.{Stmt}
use Rattle.asm_statements.specs.declared.statement.StmtKind.TheVariants as statement
use Rattle.asm_unwind.specs.declared.directive.UnwindDirective.TheVariants as unwind
use Rattle.asm_unwind.specs.declared.entry.EntryWords.{EntryWords}
use Rattle.asm_unwind.specs.declared.entry.EntryWords.TheVariants as entry
use Rattle.asm_unwind.specs.Entries.{entry_words_of}
use Rattle.asm_relocatable.specs.declared.place.Section.{Section}
use Rattle.asm_relocatable.specs.declared.place.Section.TheVariants.{Text, Extab}
use Rattle.asm_layout.specs.declared.walk.Walk.{Walk}
use Rattle.asm_layout.specs.Functions.{Frame, no_frame, entries_of}
use Rattle.asm_layout.specs.Labels.{NamePlace, labels_of}
use Rattle.asm_layout.specs.Sizes.{sum_64, size_in, is_too_large}
use Rattle.asm_layout.specs.Walks.{start, next, cursor_place, entry_at, coming_pool, walk_after, sizes_with_pool}
use Rattle.asm_relocatable.specs.Sections.{same_section}
use Rattle.eh_word.specs.Bytes.{gap, zeros, length-zeros, next_multiple}
use Rattle.asm_relocatable.specs.declared.object.IndexRow.{IndexRow}
use Rattle.asm_relocatable.specs.declared.object.Object.{Object}
use Rattle.asm_object.specs.Bytes.{word_bytes}
use Rattle.asm_object.specs.Objects.{assembled_object}
use Rattle.asm_object.specs.Pieces.{Piece, place_at, row_entry, row_of, table_pieces, own_piece, bytes_in, pieces_of_puts, rows_of_puts, pieces_of}
use Rattle.asm_object.specs.Refusals.{refusal}
use Rattle.asm_object.proofs.PlaceLaws.{law_of_bytes, none_after, none_parts, refusal_parts, not_false, walks_on}
use Rattle.asm_object.proofs.ObjectLaws.{IsTaken, taken, ends_small, entries_count, same_is}
use Rattle.asm_object.proofs.LabelLaws.{small_after}
use Rattle.asm_laws.specs.Functions.{HasNoBound, Function, directives_in, functions_in, source_of, start_at, end_at}
use Rattle.asm_laws.specs.RowLaw.{walk_over, tables_from, entry_for, TableStands, RowsStandAtTheirFunctions, RowsAreOfFunctions, FunctionsAreClosed}
use Rattle.asm_laws.proofs.Frames.{ended_with, closed_after}
use Rattle.asm_laws.proofs.Rows.{dropped_get, State, Opens, opens, reach, rows_split, begins}
use Rattle.asm_layout.specs.Placing.{word_place, place_stmts_from, function_at, function_here}
use Rattle.asm_layout.specs.declared.placed.Puts.TheVariants as puts
use Rattle.asm_object.specs.After.{pieces_from, refusals_from, rows_from}

got_after : {X : Type 0} (xs : List X) (x : X) (ys : List X) (n : ℕ) → length xs ≡ n → slice_get (xs ++ x ∷ ys) n ≡ Some x
got_after [] x ys zero e = refl
got_after [] x ys (suc n) e = absurd (omega (arith, e))
got_after (y ∷ xs) x ys zero e = absurd (omega (arith, e))
got_after (y ∷ xs) x ys (suc n) e = got_after xs x ys n (omega (arith, e))

-- ---- a source cut before a `.fnstart`

-- what holds at the `.fnstart` after some statements of an accepted source
pub record At (stmts before : List Stmt) (line : ℕ) (more : List Stmt) (object : Object) : Type 0 where
  pub opens : Opens (entries_of stmts) (walk_over stmts before) line more
  pub front : List IndexRow
  pub count : length front ≡ functions_in before
  pub rows : object.rows ≡ front ++ rows_from (entries_of stmts) (walk_over stmts before) (start_at line ∷ more)
  pub unrefused : refusals_from (entries_of stmts) (labels_of (entries_of stmts) stmts) (walk_over stmts before) (start_at line ∷ more) ≡ []
  pub extab : drop (walk_over stmts before).at.sizes.extab object.extab ≡ tables_from stmts (walk_over stmts before) (start_at line ∷ more)
  pub small : (section : Section) → size_in (walk_over stmts before).at.sizes section ≤ MOST_BYTES

joined_rows : (stmts : List Stmt) → (assembled_object stmts).rows ≡ rows_from (entries_of stmts) start stmts
unfolding assembled_object
joined_rows stmts = refl

joined_extab : (stmts : List Stmt) → (assembled_object stmts).extab ≡ bytes_in Extab (pieces_from (entries_of stmts) (labels_of (entries_of stmts) stmts) start stmts)
unfolding assembled_object
joined_extab stmts = refl

pub fewer : (a b : ℕ) → a ≤ b → b < 2 ^ 64 → a < 2 ^ 64
fewer a b h k = omega (arith, h, k)

pub at_start : (stmts before : List Stmt) (line : ℕ) (more : List Stmt) (object : Object) → stmts ≡ before ++ start_at line ∷ more → length stmts < 2 ^ 64
    → IsTaken stmts object → At stmts before line more object
at_start stmts before line more object same few t =
    let entries = entries_of stmts in
    let labels = labels_of entries stmts in
    let few_entries : length entries < 2 ^ 64 = fewer _ _ (entries_count no_frame stmts) few in
    let S : List Stmt → Type 0 = λ s. State entries false no_frame start s in
    let reached = reach entries false no_frame start before (start_at line ∷ more) (subst S same (begins stmts few t.unwound)) in
    let R : List Stmt → Type 0 = λ s. refusals_from entries labels start s ≡ [] in
    let T : List Stmt → Type 0 = λ s. is_too_large (sizes_with_pool (walk_after entries start s)) ≡ false in
    let unrefused = subst R same t.unrefused in
    let small = subst T same (ends_small entries start 0 stmts t.small) in
    record {
      opens = opens entries reached.opened reached.frame (walk_after entries start before) line more reached.state;
      front = rows_from entries start before;
      count = reached.rows;
      rows =
          ap (λ (o : Object). o.rows) t.object_is ∙ joined_rows stmts ∙ ap (λ s. rows_from entries start s) same
          ∙ rows_split entries start before (start_at line ∷ more);
      unrefused = none_after entries labels start before (start_at line ∷ more) unrefused;
      extab =
          ap (λ (o : Object). drop (walk_over stmts before).at.sizes.extab o.extab) t.object_is
          ∙ ap (drop (walk_over stmts before).at.sizes.extab) (joined_extab stmts)
          ∙ ap (λ s. drop (walk_over stmts before).at.sizes.extab (bytes_in Extab (pieces_from entries labels start s))) same
          ∙ law_of_bytes entries labels before (start_at line ∷ more) Extab few_entries unrefused small;
      small = λ section. small_after entries labels before (start_at line ∷ more) section few_entries unrefused small;
    }

-- ---- the `.fnstart` itself

-- it stands in the text
pub in_text : (entries : List (Option EntryWords)) (labels : List NamePlace) (walk : Walk) (line : ℕ) (more : List Stmt) → refusals_from entries labels walk (start_at line ∷ more) ≡ []
    → walk.at.section ≡ Text
unfolding place_stmts_from
in_text entries labels walk line more r =
    let word = word_place walk statement.FnStart (coming_pool entries walk (start_at line ∷ more)) in
    let none = none_parts line (refusal labels statement.FnStart walk.at.section (cursor_place walk.at).offset word) (refusals_from entries labels (next entries walk statement.FnStart) more) r in
    let parts = refusal_parts labels statement.FnStart walk.at.section (cursor_place walk.at).offset word none.0 in
    same_is walk.at.section Text (not_false (same_section walk.at.section Text) parts.1.1)

low_place : (n : ℕ) → n ≤ MOST_BYTES → n % 2 ^ 32 ≡ n
low_place n h = omega (arith, h)

table_there : (n : ℕ) → n ≤ MOST_BYTES → sum_64 n (gap n 4) % 2 ^ 32 ≡ next_multiple n 4
table_there n h = omega (arith, h)

next_there : (n : ℕ) → next_multiple n 4 ≡ n + gap n 4
next_there n = omega arith

entry_there : (words : EntryWords) (place table : ℕ) → place % 2 ^ 32 ≡ table → row_entry place words ≡ entry_for words table
entry_there entry.CantUnwind place table e = refl
entry_there (entry.Inline word) place table e = refl
entry_there (entry.Table words) place table e = ap (λ n. entry_for (entry.Table words) n) e

start_rows : (entries : List (Option EntryWords)) (walk : Walk) (line : ℕ) (more : List Stmt) (words : EntryWords) → walk.at.inside ≡ false → entry_at entries walk.at.functions ≡ Some words
    → rows_from entries walk (start_at line ∷ more) ≡ row_of (function_at walk.at) (Some words) ++ rows_from entries (next entries walk statement.FnStart) more
unfolding place_stmts_from
start_rows entries walk line more words closed is =
    ap (λ b. rows_of_puts entries (cond b puts.Nothing (function_here walk.at)) ++ rows_from entries (next entries walk statement.FnStart) more) closed
    ∙ ap (λ o. row_of (function_at walk.at) o ++ rows_from entries (next entries walk statement.FnStart) more) is

abbrev no_bytes : List ℕ
no_bytes = []

-- the bytes of the exception tables from a `.fnstart` on: the function's table, and then those of the statements after
pub start_bytes : (entries : List (Option EntryWords)) (labels : List NamePlace) (walk : Walk) (line : ℕ) (more : List Stmt) (o : Option EntryWords) → walk.at.inside ≡ false
    → entry_at entries walk.at.functions ≡ o
    → bytes_in Extab (pieces_from entries labels walk (start_at line ∷ more))
    ≡ bytes_in Extab (table_pieces walk.at.sizes.extab o) ++ bytes_in Extab (pieces_from entries labels (next entries walk statement.FnStart) more)
unfolding pieces_of place_stmts_from walk_after
start_bytes entries labels walk line more o closed is =
    let word = word_place walk statement.FnStart (coming_pool entries walk (start_at line ∷ more)) in
    let rest = pieces_from entries labels (next entries walk statement.FnStart) more in
    let own = own_piece labels statement.FnStart (cursor_place walk.at) word in
    let f : Piece → List ℕ = λ p. cond (same_section p.place.section Extab) p.bytes no_bytes in
    ap (λ b. bytes_in Extab ((pieces_of_puts entries labels (cond b puts.Nothing (function_here walk.at)) ++ own ∷ []) ++ rest)) closed
    ∙ ap (λ t. bytes_in Extab ((table_pieces walk.at.sizes.extab t ++ own ∷ []) ++ rest)) is
    ∙ flat_map-append f (table_pieces walk.at.sizes.extab o ++ own ∷ []) rest
    ∙ ap (λ b. b ++ bytes_in Extab rest) (flat_map-append f (table_pieces walk.at.sizes.extab o) (own ∷ [])
    ∙ ap (λ b. bytes_in Extab (table_pieces walk.at.sizes.extab o) ++ b) (none (same_section walk.at.section Extab))
    ∙ append-nil (bytes_in Extab (table_pieces walk.at.sizes.extab o)))
  where
    none : (b : Bool) → cond b no_bytes [] ++ [] ≡ no_bytes
    none true = refl
    none false = refl

after_filling : (n : ℕ) (words rest : List ℕ) → drop n ((zeros n ++ words ++ []) ++ rest) ≡ words ++ rest
after_filling n words rest =
    ap (drop n) (ap (λ l. l ++ rest) (append-nil (zeros n ++ words)) ∙ append_assoc (zeros n) words rest)
    ∙ ap (λ k. drop k (zeros n ++ (words ++ rest))) (sym (length-zeros n)) ∙ drop-append_seam (zeros n) (words ++ rest)

table_stands : (entries : List (Option EntryWords)) (labels : List NamePlace) (walk : Walk) (line : ℕ) (more : List Stmt) (words bytes : List ℕ) → walk.at.inside ≡ false
    → entry_at entries walk.at.functions ≡ Some (entry.Table words)
    → drop walk.at.sizes.extab bytes ≡ bytes_in Extab (pieces_from entries labels walk (start_at line ∷ more))
    → drop (next_multiple walk.at.sizes.extab 4) bytes
    ≡ flat_map word_bytes words ++ bytes_in Extab (pieces_from entries labels (next entries walk statement.FnStart) more)
table_stands entries labels walk line more words bytes closed is there =
    let n = walk.at.sizes.extab in
    ap (λ k. drop k bytes) (next_there n)
    ∙ sym (drop-drop (gap n 4) n bytes)
    ∙ ap (drop (gap n 4)) (there ∙ start_bytes entries labels walk line more (Some (entry.Table words)) closed is)
    ∙ after_filling (gap n 4) (flat_map word_bytes words) (bytes_in Extab (pieces_from entries labels (next entries walk statement.FnStart) more))

-- ---- the laws

-- the entry of the function that begins here
pub record EntryGiven (entries : List (Option EntryWords)) (walk : Walk) (between : List Stmt) : Type 0 where
  pub words : EntryWords
  pub given : entry_words_of (unwind.FnStart ∷ (directives_in between ++ unwind.FnEnd ∷ [])) ≡ Ok words
  pub there : entry_at entries walk.at.functions ≡ Some words

pub own_entry : (entries : List (Option EntryWords)) (walk : Walk) (line : ℕ) (between : List Stmt) (end_line : ℕ) (after : List Stmt)
    → Opens entries walk line (between ++ end_at end_line ∷ after) → HasNoBound between → EntryGiven entries walk between
own_entry entries walk line between end_line after o plain =
    let frame : Frame = record { directives = unwind.FnStart ∷ []; start = Some line } in
    let ended = ended_with frame between end_line after (refl, (line, refl)) plain o.state.taken in
    record {
      words = ended.words;
      given = ended.given;
      there = ap (λ n. entry_at entries n) o.number ∙ ap (λ e. unwrap_or e None) (dropped_get o.state.ended entries (Some ended.words) _ (o.state.queue ∙ ended.entries));
    }

table_at : (words : EntryWords) (f : Function) (object : Object) (walk : Walk) → walk ≡ walk_over (source_of f) f.before → walk.at.inside ≡ false
    → entry_at (entries_of (source_of f)) walk.at.functions ≡ Some words
    → drop walk.at.sizes.extab object.extab ≡ tables_from (source_of f) walk (start_at f.start_line ∷ (f.between ++ end_at f.end_line ∷ f.after))
    → TableStands words f object (next_multiple walk.at.sizes.extab 4)
unfolding walk_after
table_at entry.CantUnwind f object walk same closed is there = tt
table_at (entry.Inline word) f object walk same closed is there = tt
table_at (entry.Table words) f object walk same closed is there =
    let stmts = source_of f in
    let entries = entries_of stmts in
    let more = f.between ++ end_at f.end_line ∷ f.after in
    table_stands entries (labels_of entries stmts) walk f.start_line more words object.extab closed is there
    ∙ ap (λ w. flat_map word_bytes words ++ tables_from stmts w more)
    (ap (λ w. next entries w statement.FnStart) same ∙ sym (walks_on entries start f.before (start_at f.start_line ∷ [])))

row_is : (walk : Walk) (words : EntryWords) → walk.at.sizes.text ≤ MOST_BYTES → walk.at.sizes.extab ≤ MOST_BYTES
    → row_of (function_at walk.at) (Some words) ≡ record { offset = walk.at.sizes.text; entry = entry_for words (next_multiple walk.at.sizes.extab 4) } ∷ []
row_is walk words text extab =
    ap (λ n. record { offset = n; entry = row_entry (sum_64 walk.at.sizes.extab (gap walk.at.sizes.extab 4)) words } ∷ []) (low_place walk.at.sizes.text text)
    ∙ ap (λ e. record { offset = walk.at.sizes.text; entry = e } ∷ []) (entry_there words _ _ (table_there walk.at.sizes.extab extab))

pub law_of_rows : RowsStandAtTheirFunctions
law_of_rows f object plain few e =
    let stmts = source_of f in
    let entries = entries_of stmts in
    let more = f.between ++ end_at f.end_line ∷ f.after in
    let walk = walk_over stmts f.before in
    let at = at_start stmts f.before f.start_line more object refl few (taken stmts object e) in
    let own = own_entry entries walk f.start_line f.between f.end_line f.after at.opens plain in
    let text = in_text entries (labels_of entries stmts) walk f.start_line more at.unrefused in
    let row : IndexRow = record { offset = walk.at.sizes.text; entry = entry_for own.words (next_multiple walk.at.sizes.extab 4) } in
    record {
      words = own.words;
      given = own.given;
      offset = walk.at.sizes.text;
      place = ap (λ s. place_at s (size_in walk.at.sizes s)) text;
      table = next_multiple walk.at.sizes.extab 4;
      table_place = refl;
      row =
          ap (λ rows. slice_get rows (functions_in f.before))
          (at.rows
          ∙ ap (λ rows. at.front ++ rows) (start_rows entries walk f.start_line more own.words at.opens.closed own.there
          ∙ ap (λ rows. rows ++ rows_from entries (next entries walk statement.FnStart) more) (row_is walk own.words (at.small Text) (at.small Extab))))
          ∙ got_after at.front row (rows_from entries (next entries walk statement.FnStart) more) (functions_in f.before) at.count;
      stands = table_at own.words f object walk refl at.opens.closed own.there at.extab;
    }

pub law_of_count : RowsAreOfFunctions
law_of_count stmts object few e =
    let t = taken stmts object e in
    let S : List Stmt → Type 0 = λ s. State (entries_of stmts) false no_frame start s in
    let reached = reach (entries_of stmts) false no_frame start stmts [] (subst S (sym (append-nil stmts)) (begins stmts few t.unwound)) in
    ap (λ (o : Object). length o.rows) t.object_is ∙ ap length (joined_rows stmts) ∙ reached.rows

pub law_of_closing : FunctionsAreClosed
law_of_closing before more line object e =
    let stmts = before ++ start_at line ∷ more in
    closed_after no_frame before line more false refl (taken stmts object e).unwound
