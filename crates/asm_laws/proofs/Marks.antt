-- The last mark at or below a byte of the text says whether code stands there.
use Rattle.asm_layout.specs.declared.walk.TheConstants.{MOST_BYTES}
use Rattle.std.proofs.Common.{◌≡◌, ℕ, ℤ, ◌+◌, ◌-◌, ◌%◌, ◌^◌, ◌≤◌, ◌<◌, min, ◌==◌, ◌&&◌, ◌⊎◌, inl, inr, not, nat_lt, Bool, true, false, cond, List, [], ◌∷◌, ◌++◌, length, All, Option, Some, None, refl, sym, ap, ◌∙◌, arith, append-nil, append_assoc, length-append, subst}
use Rattle.std.proofs.lemmas.Bool.{true≢false}
use Rattle.std.proofs.lemmas.Bool.Decides.{nat_tests}
use Rattle.std.proofs.lemmas.Grind.{flat_map-append}
use Rattle.std.proofs.lemmas.List.Elements.{All-nil, All-cons, All-head, All-tail, All-append, All-weaker}
use Rattle.asm_statements.specs.declared.statement.Stmt.{Stmt}
use Rattle.asm_statements.specs.declared.statement.StmtKind.{StmtKind}
use Rattle.asm_statements.specs.declared.statement.StmtKind.TheVariants as statement
use Rattle.asm_unwind.specs.declared.entry.EntryWords.{EntryWords}
use Rattle.asm_unwind.specs.declared.entry.EntryWords.TheVariants as entry
use Rattle.asm_relocatable.specs.declared.place.Section.TheVariants.{Text}
use Rattle.asm_layout.specs.declared.walk.Walk.{Walk}
use Rattle.asm_layout.specs.Functions.{entries_of, no_frame}
use Rattle.asm_layout.specs.Labels.{NamePlace, labels_of}
use Rattle.asm_layout.specs.Sizes.{multiple, size_in, is_too_large}
use Rattle.asm_layout.specs.Walks.{start, next, cursor_place, entry_at, is_empty, is_in_text, pool_place, coming_pool, walk_after, sizes_with_pool}
use Rattle.asm_relocatable.specs.Sections.{same_section}
use Rattle.eh_word.specs.Bytes.{gap, next_multiple}
use Rattle.asm_relocatable.specs.declared.object.Mark.{Mark}
use Rattle.asm_relocatable.specs.declared.object.Object.{Object}
use Rattle.asm_object.specs.Bytes.{filling_bytes}
use Rattle.asm_object.specs.Objects.{assembled_object}
use Rattle.asm_object.specs.Pieces.{Piece, is_text_piece, changes_to, mark_of, marks_from, place_at, filling_piece, words_piece, pool_pieces, table_pieces, own_piece, bytes_in, pieces_of_puts, pieces_of}
use Rattle.asm_object.specs.Refusals.{refusal}
use Rattle.asm_object.proofs.PlaceLaws.{Fewer, is_ordinary, ordinary_sets, own_stands, filled_length, none_parts, not_large, text_here, law_of_ends, law_of_places, earlier, split, walks_on, none_after}
use Rattle.asm_object.proofs.ObjectLaws.{IsTaken, taken, ends_small, entries_count}
use Rattle.asm_laws.specs.RowLaw.{walk_over}
use Rattle.asm_laws.proofs.Standing.{fewer}
use Rattle.asm_laws.specs.MarkLaw.{is_code, pool_at, text_after, LastMarkSays, MarksTellCode, PoolsAreMarked, LastPoolsAreMarked}
use Rattle.asm_object.proofs.Statements.{walk_sets, walk_pieces}
use Rattle.asm_layout.specs.Placing.{word_place, place_stmts_from, pool_here, pool_puts, function_here}
use Rattle.asm_layout.specs.declared.placed.Puts.TheVariants as puts
use Rattle.asm_object.specs.After.{pieces_from, refusals_from}

-- ---- pieces of the text

abbrev no_bytes : List ℕ
no_bytes = []

abbrev text_bytes : Piece → List ℕ
text_bytes piece = cond (same_section piece.place.section Text) piece.bytes no_bytes

-- pieces stand in the text one after the other, from a place on
abbrev Tiles : ℕ → List Piece → Type 0
Tiles at [] = Unit {0}
Tiles at (piece ∷ more) = (is_text_piece piece ≡ true → piece.place.offset ≡ at) × Tiles (at + length (text_bytes piece)) more

has_bytes : (piece : Piece) → 0 < length (text_bytes piece) → is_text_piece piece ≡ true
has_bytes piece h = by (same_section piece.place.section Text) h
  where
    by : (b : Bool) → 0 < length (cond b piece.bytes no_bytes) → (b && not (length piece.bytes == 0)) ≡ true
    by true h = grind (arith, nat_tests)
    by false h = absurd (omega (arith, h))

some_bytes : (piece : Piece) → is_text_piece piece ≡ true → 0 < length (text_bytes piece)
some_bytes piece e = by (same_section piece.place.section Text) e
  where
    by : (b : Bool) → (b && not (length piece.bytes == 0)) ≡ true → 0 < length (cond b piece.bytes no_bytes)
    by true e = grind (arith, nat_tests)
    by false e = absurd (true≢false (sym e))

in_text : (piece : Piece) → is_text_piece piece ≡ true → same_section piece.place.section Text ≡ true
in_text piece e = by (same_section piece.place.section Text) e
  where
    by : (b : Bool) → (b && not (length piece.bytes == 0)) ≡ true → b ≡ true
    by true e = refl
    by false e = absurd (true≢false (sym e))

bare : (piece : Piece) → piece.bytes ≡ [] → is_text_piece piece ≡ false
bare piece e = ap (λ bytes. same_section piece.place.section Text && not (length bytes == 0)) e ∙ by (same_section piece.place.section Text)
  where
    by : (b : Bool) → (b && not (0 == 0)) ≡ false
    by true = refl
    by false = refl

bare_length : (piece : Piece) → piece.bytes ≡ [] → length (text_bytes piece) ≡ 0
bare_length piece e = ap (λ bytes. length (cond (same_section piece.place.section Text) bytes no_bytes)) e ∙ by (same_section piece.place.section Text)
  where
    by : (b : Bool) → length (cond b no_bytes no_bytes) ≡ 0
    by true = refl
    by false = refl

tiles_on : (at : ℕ) (xs ys : List Piece) → Tiles at xs → Tiles (at + length (bytes_in Text xs)) ys → Tiles at (xs ++ ys)
tiles_on at [] ys h k = let P : ℕ → Type 0 = λ n. Tiles n ys in subst P (plus_none at) k
  where
    plus_none : (n : ℕ) → n + 0 ≡ n
    plus_none n = omega arith
tiles_on at (x ∷ xs) ys h k =
    let P : ℕ → Type 0 = λ n. Tiles n ys in
    (h.0, tiles_on (at + length (text_bytes x)) xs ys h.1 (subst P (together at (text_bytes x) (bytes_in Text xs)) k))
  where
    together : (n : ℕ) (a b : List ℕ) → n + length (a ++ b) ≡ n + length a + length b
    together n a b = omega (arith, length-append a b)

-- ---- the marks of pieces

abbrev FromOn : ℕ → Mark → Type 0
FromOn at mark = at ≤ mark.offset

abbrev Above : ℕ → Mark → Type 0
Above offset mark = offset < mark.offset

marks_shown : (last : Option Bool) (piece : Piece) (more : List Piece) → is_text_piece piece ≡ true
    → marks_from last (piece ∷ more) ≡ mark_of last piece.place.offset piece.code ++ marks_from (Some piece.code) more
unfolding marks_from
marks_shown last piece more e = ap (λ b. cond b (mark_of last piece.place.offset piece.code ++ marks_from (Some piece.code) more) (marks_from last more)) e

marks_hidden : (last : Option Bool) (piece : Piece) (more : List Piece) → is_text_piece piece ≡ false → marks_from last (piece ∷ more) ≡ marks_from last more
unfolding marks_from
marks_hidden last piece more e = ap (λ b. cond b (mark_of last piece.place.offset piece.code ++ marks_from (Some piece.code) more) (marks_from last more)) e

onward : (at : ℕ) (a b : List ℕ) → at + length (a ++ b) ≤ MOST_BYTES → at + length a + length b ≤ MOST_BYTES
onward at a b h = omega (arith, h, length-append a b)

low : (n : ℕ) → n ≤ MOST_BYTES → n % 2 ^ 32 ≡ n
low n h = omega (arith, h)

mark_from : (at offset : ℕ) (code changes : Bool) → offset ≡ at → at ≤ MOST_BYTES → All (FromOn at) (cond changes (record { offset = offset % 2 ^ 32; code = code } ∷ []) [])
mark_from at offset code false e h = All-nil (FromOn at)
mark_from at offset code true e h = All-cons (FromOn at) (record { offset = offset % 2 ^ 32; code = code }) [] (is_from offset e) (All-nil (FromOn at))
  where
    is_from : (offset : ℕ) → offset ≡ at → at ≤ offset % 2 ^ 32
    is_from offset e = omega (arith, h, e)

-- the marks of pieces from a place on stand there or after it
from_on : (at : ℕ) (last : Option Bool) (pieces : List Piece) → Tiles at pieces → at + length (bytes_in Text pieces) ≤ MOST_BYTES → All (FromOn at) (marks_from last pieces)
unfolding marks_from
from_on at last [] t h = All-nil (FromOn at)
from_on at last (piece ∷ more) t h =
    by (is_text_piece piece) refl (λ l. from_on (at + length (text_bytes piece)) l more t.1 (onward at (text_bytes piece) (bytes_in Text more) h))
  where
    by : (b : Bool) → is_text_piece piece ≡ b → ((l : Option Bool) → All (FromOn (at + length (text_bytes piece))) (marks_from l more))
        → All (FromOn at) (cond b (mark_of last piece.place.offset piece.code ++ marks_from (Some piece.code) more) (marks_from last more))
    by true e rest =
        All-append (FromOn at) (mark_of last piece.place.offset piece.code) (marks_from (Some piece.code) more)
        (mark_from at piece.place.offset piece.code (changes_to last piece.code) (t.0 e) (omega (arith, h)))
        (All-weaker (FromOn (at + length (text_bytes piece))) (FromOn at) (λ m k. omega (arith, k)) (marks_from (Some piece.code) more) (rest (Some piece.code)))
    by false e rest = All-weaker (FromOn (at + length (text_bytes piece))) (FromOn at) (λ m k. omega (arith, k)) (marks_from last more) (rest last)

-- what was said before some marks, or what they say
abbrev Said : Option Bool → List Mark → ℕ → Bool → Type 0
Said last marks offset code = ((last ≡ Some code) × All (Above offset) marks) ⊎ LastMarkSays marks offset code

-- a mark that stands last
own_mark : (at offset : ℕ) (code : Bool) (later : List Mark) → at ≤ MOST_BYTES → at ≤ offset → All (Above offset) later
    → LastMarkSays (record { offset = at % 2 ^ 32; code = code } ∷ later) offset code
own_mark at offset code later small h above = record {
  before = [];
  mark = record { offset = at % 2 ^ 32; code = code };
  after = later;
  split = refl;
  at_or_below = omega (arith, low at small, h);
  lower = All-nil (λ (m : Mark). m.offset < at % 2 ^ 32);
  above = above;
  says = refl;
}

own_said : (last : Option Bool) (at offset : ℕ) (code : Bool) (later : List Mark) → at ≤ MOST_BYTES → at ≤ offset → All (Above offset) later
    → Said last (mark_of last at code ++ later) offset code
own_said None at offset code later small h above = inr (own_mark at offset code later small h above)
own_said (Some true) at offset true later small h above = inl (refl, above)
own_said (Some true) at offset false later small h above = inr (own_mark at offset false later small h above)
own_said (Some false) at offset true later small h above = inr (own_mark at offset true later small h above)
own_said (Some false) at offset false later small h above = inl (refl, above)

mid : (P : Mark → Type 0) (front : List Mark) (mark : Mark) (back : List Mark) → All P (front ++ mark ∷ back) → P mark
mid P [] mark back h = All-head P mark back h
mid P (x ∷ front) mark back h = mid P front mark back (All-tail P x (front ++ mark ∷ back) h)

-- one mark more in front
further : (at : ℕ) (code c changes : Bool) (marks : List Mark) (offset from : ℕ) → at ≤ MOST_BYTES → at < from → All (FromOn from) marks → LastMarkSays marks offset code
    → LastMarkSays (cond changes (record { offset = at % 2 ^ 32; code = c } ∷ []) [] ++ marks) offset code
further at code c false marks offset from small h on r = r
further at code c true marks offset from small h on r = record {
  before = record { offset = at % 2 ^ 32; code = c } ∷ r.before;
  mark = r.mark;
  after = r.after;
  split = ap (λ l. record { offset = at % 2 ^ 32; code = c } ∷ l) r.split;
  at_or_below = r.at_or_below;
  lower =
      All-cons (λ (m : Mark). m.offset < r.mark.offset) (record { offset = at % 2 ^ 32; code = c }) r.before
      (omega (arith, low at small, h, mid (FromOn from) r.before r.mark r.after (subst (All (FromOn from)) r.split on))) r.lower;
  above = r.above;
  says = r.says;
}

further_said : (last : Option Bool) (at : ℕ) (c code : Bool) (marks : List Mark) (offset from : ℕ) → at ≤ MOST_BYTES → at ≤ offset → at < from → All (FromOn from) marks
    → Said (Some c) marks offset code → Said last (mark_of last at c ++ marks) offset code
further_said last at c code marks offset from small h less on (inl same) =
    let is : c ≡ code = cc in
    let P : Bool → Type 0 = λ b. Said last (mark_of last at c ++ marks) offset b in
    subst P is (own_said last at offset c marks small h same.1)
further_said last at c code marks offset from small h less on (inr r) = inr (further at code c (changes_to last c) marks offset from small less on r)

-- of an offset in one of some pieces
said : (at : ℕ) (last : Option Bool) (front : List Piece) (piece : Piece) (back : List Piece) (offset : ℕ) → Tiles at (front ++ piece ∷ back)
    → at + length (bytes_in Text (front ++ piece ∷ back)) ≤ MOST_BYTES → at + length (bytes_in Text front) ≤ offset
    → offset < at + length (bytes_in Text front) + length (text_bytes piece)
    → Said last (marks_from last (front ++ piece ∷ back)) offset piece.code
said at last [] piece back offset t small h k =
    let shown = has_bytes piece (omega (arith, h, k)) in
    let place = t.0 shown in
    let fits = onward at (text_bytes piece) (bytes_in Text back) small in
    let later = from_on (at + length (text_bytes piece)) (Some piece.code) back t.1 fits in
    let above = All-weaker (FromOn (at + length (text_bytes piece))) (Above offset) (λ m j. omega (arith, j, k)) (marks_from (Some piece.code) back) later in
    let P : List Mark → Type 0 = λ marks. Said last marks offset piece.code in
    subst P (sym (marks_shown last piece back shown))
    (own_said last piece.place.offset offset piece.code (marks_from (Some piece.code) back) (omega (arith, place, fits)) (omega (arith, place, h)) above)
said at last (x ∷ front) piece back offset t small h k =
    by (is_text_piece x) refl (λ l. said (at + length (text_bytes x)) l front piece back offset t.1 fits
    (omega (arith, h, length-append (text_bytes x) (bytes_in Text front))) (omega (arith, k, length-append (text_bytes x) (bytes_in Text front))))
  where
    rest : List Piece
    rest = front ++ piece ∷ back

    fits : at + length (text_bytes x) + length (bytes_in Text (front ++ piece ∷ back)) ≤ MOST_BYTES
    fits = onward at (text_bytes x) (bytes_in Text (front ++ piece ∷ back)) small

    P : List Mark → Type 0
    P marks = Said last marks offset piece.code

    by : (b : Bool) → is_text_piece x ≡ b → ((l : Option Bool) → Said l (marks_from l (front ++ piece ∷ back)) offset piece.code)
        → Said last (marks_from last (x ∷ front ++ piece ∷ back)) offset piece.code
    by true e later =
        let place = t.0 e in
        let on = from_on (at + length (text_bytes x)) (Some x.code) (front ++ piece ∷ back) t.1 fits in
        let Q : List Mark → Type 0 = λ marks. Said last marks offset piece.code in
        subst Q (sym (marks_shown last x (front ++ piece ∷ back) e))
        (further_said last x.place.offset x.code piece.code (marks_from (Some x.code) (front ++ piece ∷ back)) offset (at + length (text_bytes x))
        (omega (arith, place, fits)) (omega (arith, place, h)) (omega (arith, place, some_bytes x e)) on (later (Some x.code)))
    by false e later =
        let Q : List Mark → Type 0 = λ marks. Said last marks offset piece.code in
        subst Q (sym (marks_hidden last x (front ++ piece ∷ back) e)) (later last)

-- ---- the pieces of statements

at_here : (walk : Walk) (piece : Piece) → piece.place ≡ cursor_place walk.at → is_text_piece piece ≡ true → piece.place.offset ≡ walk.at.sizes.text
at_here walk piece e shown =
    ap (λ place. place.offset) e
    ∙ text_here walk.at.sizes walk.at.section (ap (λ place. same_section place.section Text) (sym e) ∙ in_text piece shown)

alone : (walk : Walk) (piece : Piece) → piece.place ≡ cursor_place walk.at → Tiles walk.at.sizes.text (piece ∷ [])
alone walk piece e = (at_here walk piece e, tt)

hidden_last : (at : ℕ) (pieces : List Piece) (piece : Piece) → piece.bytes ≡ [] → Tiles at pieces → Tiles at (pieces ++ piece ∷ [])
hidden_last at pieces piece e t = tiles_on at pieces (piece ∷ []) t ((λ shown. absurd (true≢false (sym shown ∙ bare piece e))), tt)

table_tiles : (at place : ℕ) (words : Option EntryWords) → Tiles at (table_pieces place words)
table_tiles at place (Some (entry.Table words)) = ((λ e. absurd (true≢false (sym e))), tt)
table_tiles at place (Some entry.CantUnwind) = tt
table_tiles at place (Some (entry.Inline word)) = tt
table_tiles at place None = tt

pool_tiles : (labels : List NamePlace) (walk : Walk) → walk.at.sizes.text ≤ MOST_BYTES → Tiles walk.at.sizes.text (pool_pieces labels (pool_here walk))
pool_tiles labels walk small = by (is_empty walk.pool)
  where
    text : ℕ
    text = walk.at.sizes.text

    words_there : (n : ℕ) → n ≤ MOST_BYTES → min (n + gap n 4) (2 ^ 64 - 1) ≡ n + length (filling_bytes (gap n 4))
    words_there n h = omega (arith, h, filled_length (gap n 4))

    by : (b : Bool) → Tiles walk.at.sizes.text (cond b [] (filling_piece (place_at Text walk.at.sizes.text) (gap walk.at.sizes.text 4) ∷ words_piece labels (place_at Text (pool_place walk)) walk.pool ∷ []))
    by true = tt
    by false = ((λ e. refl), ((λ e. words_there walk.at.sizes.text small), tt))

start_tiles : (entries : List (Option EntryWords)) (labels : List NamePlace) (walk : Walk) (at : ℕ) → Tiles at (walk_sets entries labels walk statement.FnStart)
start_tiles entries labels walk at = by walk.at.inside
  where
    by : (b : Bool) → Tiles at (pieces_of_puts entries labels (cond b puts.Nothing (function_here walk.at)))
    by true = tt
    by false = table_tiles at walk.at.sizes.extab (entry_at entries walk.at.functions)

ended_tiles : (entries : List (Option EntryWords)) (labels : List NamePlace) (walk : Walk) (b : Bool) → walk.at.sizes.text ≤ MOST_BYTES → Tiles walk.at.sizes.text (pieces_of_puts entries labels (cond b (pool_puts walk) puts.Nothing))
ended_tiles entries labels walk true small = pool_tiles labels walk small
ended_tiles entries labels walk false small = tt

special_tiles : (entries : List (Option EntryWords)) (labels : List NamePlace) (walk : Walk) (word : Option ℕ) (kind : StmtKind) → walk.at.sizes.text ≤ MOST_BYTES → is_ordinary kind ≡ false
    → Tiles walk.at.sizes.text (walk_pieces entries labels walk word kind)
special_tiles entries labels walk word statement.Text small o = alone walk (own_piece labels statement.Text (cursor_place walk.at) word) (own_stands labels statement.Text (cursor_place walk.at) word)
special_tiles entries labels walk word statement.Data small o = alone walk (own_piece labels statement.Data (cursor_place walk.at) word) (own_stands labels statement.Data (cursor_place walk.at) word)
special_tiles entries labels walk word statement.Bss small o = alone walk (own_piece labels statement.Bss (cursor_place walk.at) word) (own_stands labels statement.Bss (cursor_place walk.at) word)
special_tiles entries labels walk word statement.Rodata small o = alone walk (own_piece labels statement.Rodata (cursor_place walk.at) word) (own_stands labels statement.Rodata (cursor_place walk.at) word)
special_tiles entries labels walk word statement.FnEnd small o = alone walk (own_piece labels statement.FnEnd (cursor_place walk.at) word) (own_stands labels statement.FnEnd (cursor_place walk.at) word)
special_tiles entries labels walk word statement.HandlerData small o =
    alone walk (own_piece labels statement.HandlerData (cursor_place walk.at) word) (own_stands labels statement.HandlerData (cursor_place walk.at) word)
special_tiles entries labels walk word statement.FnStart small o =
    hidden_last walk.at.sizes.text (walk_sets entries labels walk statement.FnStart) (own_piece labels statement.FnStart (cursor_place walk.at) word) refl
    (start_tiles entries labels walk walk.at.sizes.text)
special_tiles entries labels walk word (statement.Align n) small o =
    hidden_last walk.at.sizes.text (walk_sets entries labels walk (statement.Align n)) (own_piece labels (statement.Align n) (cursor_place walk.at) word) refl
    (alone walk (filling_piece (cursor_place walk.at) (gap (cursor_place walk.at).offset (multiple n))) refl)
special_tiles entries labels walk word statement.Pool small o =
    hidden_last walk.at.sizes.text (walk_sets entries labels walk statement.Pool) (own_piece labels statement.Pool (cursor_place walk.at) word) refl
    (ended_tiles entries labels walk (is_in_text walk.at) small)
special_tiles entries labels walk word _ small o = absurd (true≢false o)

tiles_at : (entries : List (Option EntryWords)) (labels : List NamePlace) (walk : Walk) (word : Option ℕ) (kind : StmtKind) → walk.at.sizes.text ≤ MOST_BYTES
    → Tiles walk.at.sizes.text (walk_pieces entries labels walk word kind)
tiles_at entries labels walk word kind small = by (is_ordinary kind) refl
  where
    own : Piece
    own = own_piece labels kind (cursor_place walk.at) word

    by : (b : Bool) → is_ordinary kind ≡ b → Tiles walk.at.sizes.text (walk_pieces entries labels walk word kind)
    by true o =
        let P : List Piece → Type 0 = λ set. Tiles walk.at.sizes.text (set ++ own_piece labels kind (cursor_place walk.at) word ∷ []) in
        subst P (sym (ordinary_sets entries labels walk kind o)) (alone walk (own_piece labels kind (cursor_place walk.at) word) (own_stands labels kind (cursor_place walk.at) word))
    by false o = special_tiles entries labels walk word kind small o

within : (a x end : ℕ) → a + x ≡ end → end ≤ MOST_BYTES → a ≤ MOST_BYTES
within a x end e h = omega (arith, e, h)

abbrev Unrefused : List (Option EntryWords) → List NamePlace → Walk → List Stmt → Type 0
Unrefused entries labels walk stmts = (refusals_from entries labels walk stmts ≡ []) × (is_too_large (sizes_with_pool (walk_after entries walk stmts)) ≡ false)

small_here : (entries : List (Option EntryWords)) (labels : List NamePlace) (walk : Walk) (stmts : List Stmt) → Fewer entries → Unrefused entries labels walk stmts → walk.at.sizes.text ≤ MOST_BYTES
small_here entries labels walk stmts few u =
    within walk.at.sizes.text (length (bytes_in Text (pieces_from entries labels walk stmts))) (size_in (sizes_with_pool (walk_after entries walk stmts)) Text)
    (law_of_ends entries labels walk stmts Text few u.0 u.1) (not_large (sizes_with_pool (walk_after entries walk stmts)) Text u.1)

-- the pieces of a statement, and where the text has come to after them
record Onward (entries : List (Option EntryWords)) (labels : List NamePlace) (walk : Walk) (stmt : Stmt) (more : List Stmt) : Type 0 where
  word : Option ℕ
  pieces : pieces_from entries labels walk (stmt ∷ more) ≡ walk_pieces entries labels walk word stmt.kind ++ pieces_from entries labels (next entries walk stmt.kind) more
  unrefused : Unrefused entries labels (next entries walk stmt.kind) more
  grown : walk.at.sizes.text + length (bytes_in Text (walk_pieces entries labels walk word stmt.kind)) ≡ (next entries walk stmt.kind).at.sizes.text

goes_on : (entries : List (Option EntryWords)) (labels : List NamePlace) (walk : Walk) (stmt : Stmt) (more : List Stmt) → Fewer entries → Unrefused entries labels walk (stmt ∷ more)
    → Onward entries labels walk stmt more
unfolding pieces_of place_stmts_from walk_after
goes_on entries labels walk stmt more few u =
    let after = next entries walk stmt.kind in
    let word = word_place walk stmt.kind (coming_pool entries walk (stmt ∷ more)) in
    let parts = none_parts stmt.line (refusal labels stmt.kind walk.at.section (cursor_place walk.at).offset word) (refusals_from entries labels after more) u.0 in
    record {
      word = word;
      pieces = refl;
      unrefused = (parts.1, u.1);
      grown =
          after_own walk.at.sizes.text (length (bytes_in Text (walk_pieces entries labels walk word stmt.kind))) (length (bytes_in Text (pieces_from entries labels after more))) after.at.sizes.text _
          (ap (λ n. walk.at.sizes.text + n) (sym (both (walk_pieces entries labels walk word stmt.kind) (pieces_from entries labels after more)))
          ∙ law_of_ends entries labels walk (stmt ∷ more) Text few u.0 u.1)
          (law_of_ends entries labels after more Text few parts.1 u.1);
    }
  where
    both : (xs ys : List Piece) → length (bytes_in Text (xs ++ ys)) ≡ length (bytes_in Text xs) + length (bytes_in Text ys)
    both xs ys =
        ap length (flat_map-append (λ p. cond (same_section p.place.section Text) p.bytes no_bytes) xs ys) ∙ length-append (bytes_in Text xs) (bytes_in Text ys)

    after_own : (a x y b end : ℕ) → a + (x + y) ≡ end → b + y ≡ end → a + x ≡ b
    after_own a x y b end e f = omega (arith, e, f)

tiles_from : (entries : List (Option EntryWords)) (labels : List NamePlace) (walk : Walk) (stmts : List Stmt) → Fewer entries → Unrefused entries labels walk stmts
    → Tiles walk.at.sizes.text (pieces_from entries labels walk stmts)
unfolding pieces_of place_stmts_from walk_after
tiles_from entries labels walk [] few u = pool_tiles labels walk (small_here entries labels walk [] few u)
tiles_from entries labels walk (stmt ∷ more) few u =
    let on = goes_on entries labels walk stmt more few u in
    let P : List Piece → Type 0 = λ pieces. Tiles walk.at.sizes.text pieces in
    let Q : ℕ → Type 0 = λ n. Tiles n (pieces_from entries labels (next entries walk stmt.kind) more) in
    subst P (sym on.pieces)
    (tiles_on walk.at.sizes.text (walk_pieces entries labels walk on.word stmt.kind) (pieces_from entries labels (next entries walk stmt.kind) more)
    (tiles_at entries labels walk on.word stmt.kind (small_here entries labels walk (stmt ∷ more) few u))
    (subst Q (sym on.grown) (tiles_from entries labels (next entries walk stmt.kind) more few on.unrefused)))

-- ---- the pieces of a source

-- an object's marks are those of pieces, of which some stand from a place of the text on
record Standing (object : Object) (at : ℕ) (later : List Piece) : Type 0 where
  front : List Piece
  marks : object.marks ≡ marks_from None (front ++ later)
  text : object.text ≡ bytes_in Text (front ++ later)
  tiles : Tiles 0 (front ++ later)
  small : length (bytes_in Text (front ++ later)) ≤ MOST_BYTES
  place : length (bytes_in Text front) ≡ at

both_bytes : (xs ys : List Piece) → length (bytes_in Text (xs ++ ys)) ≡ length (bytes_in Text xs) + length (bytes_in Text ys)
both_bytes xs ys =
    ap length (flat_map-append (λ p. cond (same_section p.place.section Text) p.bytes no_bytes) xs ys) ∙ length-append (bytes_in Text xs) (bytes_in Text ys)

regroup : (front inner : List Piece) (piece : Piece) (outer later : List Piece) → later ≡ inner ++ piece ∷ outer → front ++ later ≡ (front ++ inner) ++ piece ∷ outer
regroup front inner piece outer later e = ap (λ l. front ++ l) e ∙ sym (append_assoc front inner (piece ∷ outer))

told : (object : Object) (at : ℕ) (later : List Piece) (offset : ℕ) → Standing object at later → (inner : List Piece) (piece : Piece) (outer : List Piece) → later ≡ inner ++ piece ∷ outer
    → at + length (bytes_in Text inner) ≤ offset → offset < at + length (bytes_in Text inner) + length (text_bytes piece) → LastMarkSays object.marks offset piece.code
told object at later offset s inner piece outer e h k =
    let same = regroup s.front inner piece outer later e in
    let T : List Piece → Type 0 = λ l. Tiles 0 l in
    let L : List Piece → Type 0 = λ l. 0 + length (bytes_in Text l) ≤ MOST_BYTES in
    let M : List Mark → Type 0 = λ marks. LastMarkSays marks offset piece.code in
    let count : length (bytes_in Text (s.front ++ inner)) ≡ at + length (bytes_in Text inner) = both_bytes s.front inner ∙ ap (λ n. n + length (bytes_in Text inner)) s.place in
    subst M (sym (s.marks ∙ ap (marks_from None) same))
    (only (said 0 None (s.front ++ inner) piece outer offset (subst T same s.tiles) (subst L same (omega (arith, s.small)))
    (omega (arith, count, h)) (omega (arith, count, k))))
  where
    only : (r : Said None (marks_from None ((s.front ++ inner) ++ piece ∷ outer)) offset piece.code) → LastMarkSays (marks_from None ((s.front ++ inner) ++ piece ∷ outer)) offset piece.code
    only (inl none) = absurd (cc)
    only (inr r) = r

joined_marks : (stmts : List Stmt) → (assembled_object stmts).marks ≡ marks_from None (pieces_from (entries_of stmts) (labels_of (entries_of stmts) stmts) start stmts)
unfolding assembled_object
joined_marks stmts = refl

joined_text : (stmts : List Stmt) → (assembled_object stmts).text ≡ bytes_in Text (pieces_from (entries_of stmts) (labels_of (entries_of stmts) stmts) start stmts)
unfolding assembled_object
joined_text stmts = refl

record Cut (stmts before more : List Stmt) (object : Object) : Type 0 where
  few : Fewer (entries_of stmts)
  unrefused : Unrefused (entries_of stmts) (labels_of (entries_of stmts) stmts) (walk_over stmts before) more
  standing : Standing object (text_after stmts before) (pieces_from (entries_of stmts) (labels_of (entries_of stmts) stmts) (walk_over stmts before) more)

cut : (stmts before more : List Stmt) (object : Object) → stmts ≡ before ++ more → length stmts < 2 ^ 64 → IsTaken stmts object → Cut stmts before more object
cut stmts before more object same few t =
    let entries = entries_of stmts in
    let labels = labels_of entries stmts in
    let walk = walk_over stmts before in
    let few_entries = fewer _ _ (entries_count no_frame stmts) few in
    let R : List Stmt → Type 0 = λ s. refusals_from entries labels start s ≡ [] in
    let H : List Stmt → Type 0 = λ s. is_too_large (sizes_with_pool (walk_after entries start s)) ≡ false in
    let unrefused = subst R same t.unrefused in
    let small = subst H same (ends_small entries start 0 stmts t.small) in
    let parts = ap (pieces_from entries labels start) same ∙ split entries labels start before more in
    let T : List Piece → Type 0 = λ l. Tiles 0 l in
    let L : List Piece → Type 0 = λ l. length (bytes_in Text l) ≤ MOST_BYTES in
    let P : List Stmt → Type 0 = λ s. Unrefused entries labels start s in
    let all : Unrefused entries labels start stmts = subst P (sym same) (unrefused, small) in
    record {
      few = few_entries;
      unrefused = (none_after entries labels start before more unrefused, ap (λ w. is_too_large (sizes_with_pool w)) (sym (walks_on entries start before more)) ∙ small);
      standing = record {
        front = earlier entries labels start before more;
        marks = ap (λ (o : Object). o.marks) t.object_is ∙ joined_marks stmts ∙ ap (marks_from None) parts;
        text = ap (λ (o : Object). o.text) t.object_is ∙ joined_text stmts ∙ ap (bytes_in Text) parts;
        tiles = subst T parts (tiles_from entries labels start stmts few_entries all);
        small = subst L parts (whole_small entries labels stmts few_entries all);
        place =
            before_it _ _ _ (size_in walk.at.sizes Text) (both_bytes (earlier entries labels start before more) (pieces_from entries labels walk more))
            (ap (λ l. length (bytes_in Text l)) (sym (split entries labels start before more)) ∙ law_of_places entries labels before more Text few_entries unrefused small);
      };
    }
  where
    before_it : (all x y at : ℕ) → all ≡ x + y → all ≡ at + y → x ≡ at
    before_it all x y at e f = omega (arith, e, f)

    whole_small : (entries : List (Option EntryWords)) (labels : List NamePlace) (stmts : List Stmt) → Fewer entries → Unrefused entries labels start stmts
        → length (bytes_in Text (pieces_from entries labels start stmts)) ≤ MOST_BYTES
    whole_small entries labels stmts few u =
        no_more _ _ (law_of_ends entries labels start stmts Text few u.0 u.1) (not_large (sizes_with_pool (walk_after entries start stmts)) Text u.1)
      where
        no_more : (x end : ℕ) → 0 + x ≡ end → end ≤ MOST_BYTES → x ≤ MOST_BYTES
        no_more x end e h = omega (arith, e, h)

-- where the text has come to after a statement more
one_more : (stmts before : List Stmt) (stmt : Stmt) → text_after stmts (before ++ stmt ∷ []) ≡ (next (entries_of stmts) (walk_over stmts before) stmt.kind).at.sizes.text
unfolding walk_after
one_more stmts before stmt = ap (λ walk. walk.at.sizes.text) (walks_on (entries_of stmts) start before (stmt ∷ []))

-- ---- a statement's own bytes

-- a statement whose one piece is its own
plain_marks : (entries : List (Option EntryWords)) (labels : List NamePlace) (walk : Walk) (word : Option ℕ) (kind : StmtKind) (rest : List Piece) (object : Object) (offset : ℕ) (code : Bool)
    → walk_sets entries labels walk kind ≡ [] → (own_piece labels kind (cursor_place walk.at) word).code ≡ code
    → Standing object walk.at.sizes.text (walk_pieces entries labels walk word kind ++ rest) → walk.at.sizes.text ≤ offset
    → offset < walk.at.sizes.text + length (bytes_in Text (walk_pieces entries labels walk word kind)) → LastMarkSays object.marks offset code
plain_marks entries labels walk word kind rest object offset code none is s h k =
    let own = own_piece labels kind (cursor_place walk.at) word in
    let one : walk_pieces entries labels walk word kind ≡ own ∷ [] = ap (λ set. set ++ own ∷ []) none in
    let C : Bool → Type 0 = λ c. LastMarkSays object.marks offset c in
    subst C is
    (told object walk.at.sizes.text (walk_pieces entries labels walk word kind ++ rest) offset s [] own rest (ap (λ l. l ++ rest) one) (omega (arith, h))
    (omega (arith, k, ap (λ l. length (bytes_in Text l)) one, length-append (text_bytes own) no_bytes)))

align_marks : (entries : List (Option EntryWords)) (labels : List NamePlace) (walk : Walk) (word : Option ℕ) (n : ℤ) (rest : List Piece) (object : Object) (offset : ℕ)
    → Standing object walk.at.sizes.text (walk_pieces entries labels walk word (statement.Align n) ++ rest) → walk.at.sizes.text ≤ offset
    → offset < walk.at.sizes.text + length (bytes_in Text (walk_pieces entries labels walk word (statement.Align n))) → LastMarkSays object.marks offset true
align_marks entries labels walk word n rest object offset s h k =
    let own = own_piece labels (statement.Align n) (cursor_place walk.at) word in
    let fill = filling_piece (cursor_place walk.at) (gap (cursor_place walk.at).offset (multiple n)) in
    told object walk.at.sizes.text (walk_pieces entries labels walk word (statement.Align n) ++ rest) offset s [] fill (own ∷ rest) refl (omega (arith, h))
    (omega (arith, k, length-append (text_bytes fill) (bytes_in Text (own ∷ [])), length-append (text_bytes own) no_bytes, bare_length own refl))

own_marks : (entries : List (Option EntryWords)) (labels : List NamePlace) (walk : Walk) (word : Option ℕ) (kind : StmtKind) (rest : List Piece) (object : Object) (offset : ℕ) (code : Bool)
    → is_code kind ≡ Some code → Standing object walk.at.sizes.text (walk_pieces entries labels walk word kind ++ rest) → walk.at.sizes.text ≤ offset
    → offset < walk.at.sizes.text + length (bytes_in Text (walk_pieces entries labels walk word kind)) → LastMarkSays object.marks offset code
own_marks entries labels walk word statement.FnStart rest object offset code e s h k = absurd (cc)
own_marks entries labels walk word statement.Pool rest object offset code e s h k = absurd (cc)
own_marks entries labels walk word (statement.Align n) rest object offset code e s h k =
    let is : true ≡ code = cc in
    let C : Bool → Type 0 = λ c. LastMarkSays object.marks offset c in
    subst C is (align_marks entries labels walk word n rest object offset s h k)
own_marks entries labels walk word kind rest object offset code e s h k = plain_marks entries labels walk word kind rest object offset code refl (cc) s h k

pub law_of_marks : MarksTellCode
law_of_marks before more stmt code object offset few e is h k =
    let stmts = before ++ stmt ∷ more in
    let entries = entries_of stmts in
    let labels = labels_of entries stmts in
    let walk = walk_over stmts before in
    let at = cut stmts before (stmt ∷ more) object refl few (taken stmts object e) in
    let on = goes_on entries labels walk stmt more at.few at.unrefused in
    let S : List Piece → Type 0 = λ l. Standing object walk.at.sizes.text l in
    own_marks entries labels walk on.word stmt.kind (pieces_from entries labels (next entries walk stmt.kind) more) object offset code is (subst S on.pieces at.standing) h
    (omega (arith, k, one_more stmts before stmt, on.grown))

-- ---- pools

next_there : (n : ℕ) → next_multiple n 4 ≡ n + gap n 4
next_there n = omega arith

pool_marks : (labels : List NamePlace) (walk : Walk) (rest : List Piece) (object : Object) (offset : ℕ)
    → Standing object walk.at.sizes.text (pool_pieces labels (pool_here walk) ++ rest) → walk.at.sizes.text ≤ offset
    → offset < walk.at.sizes.text + length (bytes_in Text (pool_pieces labels (pool_here walk))) → LastMarkSays object.marks offset (nat_lt offset (next_multiple walk.at.sizes.text 4))
pool_marks labels walk rest object offset = by (is_empty walk.pool)
  where
    fill : Piece
    fill = filling_piece (place_at Text walk.at.sizes.text) (gap walk.at.sizes.text 4)

    words : Piece
    words = words_piece labels (place_at Text (pool_place walk)) walk.pool

    C : Bool → Type 0
    C c = LastMarkSays object.marks offset c

    filled : Standing object walk.at.sizes.text (fill ∷ words ∷ rest) → walk.at.sizes.text ≤ offset
        → offset < walk.at.sizes.text + length (bytes_in Text (fill ∷ words ∷ []))
        → (b : Bool) → nat_lt offset (next_multiple walk.at.sizes.text 4) ≡ b → LastMarkSays object.marks offset b
    filled s h k true e =
        let below : offset < next_multiple walk.at.sizes.text 4 = grind (arith, nat_tests) in
        told object walk.at.sizes.text (fill ∷ words ∷ rest) offset s [] fill (words ∷ rest) refl (omega (arith, h))
        (omega (arith, below, next_there walk.at.sizes.text, filled_length (gap walk.at.sizes.text 4)))
    filled s h k false e =
        let above : next_multiple walk.at.sizes.text 4 ≤ offset = grind (arith, nat_tests) in
        told object walk.at.sizes.text (fill ∷ words ∷ rest) offset s (fill ∷ []) words rest refl
        (omega (arith, above, next_there walk.at.sizes.text, filled_length (gap walk.at.sizes.text 4), length-append (text_bytes fill) no_bytes))
        (omega (arith, k, length-append (text_bytes fill) no_bytes, length-append (text_bytes fill) (bytes_in Text (words ∷ [])), length-append (text_bytes words) no_bytes))

    by : (b : Bool) → Standing object walk.at.sizes.text (cond b [] (fill ∷ words ∷ []) ++ rest) → walk.at.sizes.text ≤ offset
        → offset < walk.at.sizes.text + length (bytes_in Text (cond b [] (fill ∷ words ∷ []))) → LastMarkSays object.marks offset (nat_lt offset (next_multiple walk.at.sizes.text 4))
    by true s h k = absurd (omega (arith, h, k))
    by false s h k = filled s h k (nat_lt offset (next_multiple walk.at.sizes.text 4)) refl

ended_marks : (entries : List (Option EntryWords)) (labels : List NamePlace) (walk : Walk) (own : Piece) (rest : List Piece) (object : Object) (offset : ℕ) (b : Bool) → own.bytes ≡ []
    → Standing object walk.at.sizes.text ((pieces_of_puts entries labels (cond b (pool_puts walk) puts.Nothing) ++ own ∷ []) ++ rest) → walk.at.sizes.text ≤ offset
    → offset < walk.at.sizes.text + length (bytes_in Text (pieces_of_puts entries labels (cond b (pool_puts walk) puts.Nothing) ++ own ∷ []))
    → LastMarkSays object.marks offset (nat_lt offset (next_multiple walk.at.sizes.text 4))
ended_marks entries labels walk own rest object offset true none s h k =
    let S : List Piece → Type 0 = λ l. Standing object walk.at.sizes.text l in
    pool_marks labels walk (own ∷ rest) object offset (subst S (append_assoc (pool_pieces labels (pool_here walk)) (own ∷ []) rest) s) h
    (omega (arith, k, both_bytes (pool_pieces labels (pool_here walk)) (own ∷ []), length-append (text_bytes own) no_bytes, bare_length own none))
ended_marks entries labels walk own rest object offset false none s h k = absurd (omega (arith, h, k, length-append (text_bytes own) no_bytes, bare_length own none))

pub law_of_pools : PoolsAreMarked
law_of_pools before more line object offset few e h k =
    let stmt = pool_at line in
    let stmts = before ++ stmt ∷ more in
    let entries = entries_of stmts in
    let labels = labels_of entries stmts in
    let walk = walk_over stmts before in
    let at = cut stmts before (stmt ∷ more) object refl few (taken stmts object e) in
    let on = goes_on entries labels walk stmt more at.few at.unrefused in
    let S : List Piece → Type 0 = λ l. Standing object walk.at.sizes.text l in
    ended_marks entries labels walk (own_piece labels statement.Pool (cursor_place walk.at) on.word) (pieces_from entries labels (next entries walk statement.Pool) more) object offset (is_in_text walk.at) refl
    (subst S on.pieces at.standing) h (omega (arith, k, one_more stmts before stmt, on.grown))

last_pieces : (entries : List (Option EntryWords)) (labels : List NamePlace) (walk : Walk) → pieces_from entries labels walk [] ≡ pool_pieces labels (pool_here walk) ++ []
unfolding pieces_of place_stmts_from walk_after
last_pieces entries labels walk = sym (append-nil (pool_pieces labels (pool_here walk)))

pub law_of_last_pools : LastPoolsAreMarked
law_of_last_pools stmts object offset few e h k =
    let entries = entries_of stmts in
    let labels = labels_of entries stmts in
    let walk = walk_over stmts stmts in
    let at = cut stmts stmts [] object (sym (append-nil stmts)) few (taken stmts object e) in
    let S : List Piece → Type 0 = λ l. Standing object walk.at.sizes.text l in
    let last = subst S (last_pieces entries labels walk) at.standing in
    pool_marks labels walk [] object offset last h
    (omega (arith, k, ap length last.text, both_bytes last.front (pool_pieces labels (pool_here walk) ++ []), last.place, ap (λ l. length (bytes_in Text l)) (append-nil (pool_pieces labels (pool_here walk)))))
