-- A `ldr` of a value reads the value's word in the pool.
use Rattle.std.proofs.Common.{◌≡◌, ℕ, ◌+◌, ◌*◌, ◌^◌, ◌≤◌, ◌<◌, ◌==◌, ◌&&◌, ◌||◌, not, Bool, true, false, cond, List, [], ◌∷◌, ◌++◌, length, drop, take, Option, Some, None, option_map, refl, sym, ap, ◌∙◌, arith, append-nil, append_assoc, length-append}
use Rattle.std.specs.List.{list_any, position_or_len}
use Rattle.std.proofs.lemmas.Bool.{true≢false, eqb-true}
use Rattle.std.proofs.lemmas.Bool.Decides.{nat_tests}
use Rattle.std.proofs.lemmas.Grind.{flat_map-append}
use Rattle.std.proofs.lemmas.List.{drop-drop}
use Rattle.std.proofs.Math.Seq.{drop-append_seam, take-append_seam}
use Rattle.eh_word.specs.Names.{same_bytes}
use Rattle.asm_statements.specs.declared.statement.Expr.{Expr}
use Rattle.asm_statements.specs.declared.statement.Stmt.{Stmt}
use Rattle.asm_statements.specs.declared.statement.StmtKind.{StmtKind}
use Rattle.asm_statements.specs.declared.statement.StmtKind.TheVariants as stmt
use Rattle.thumb_isa.specs.declared.instr.Instr.TheVariants.{LdrLit}
use Rattle.thumb_encode.specs.Codes.{encode_result}
use Rattle.asm_unwind.specs.declared.entry.EntryWords.{EntryWords}
use Rattle.asm_layout.specs.declared.walk.Sizes.{Sizes}
use Rattle.asm_layout.specs.declared.walk.Walk.{Walk}
use Rattle.asm_layout.specs.declared.walk.TheConstants.{MOST_BYTES}
use Rattle.asm_layout.specs.declared.word.Word.{Word}
use Rattle.asm_layout.specs.declared.word.Word.TheVariants as word
use Rattle.asm_relocatable.specs.declared.place.Section.TheVariants.{Text}
use Rattle.asm_layout.specs.Words.{word_of}
use Rattle.asm_layout.specs.SameWords.{same_word}
use Rattle.asm_layout.specs.Functions.{entries_of, no_frame}
use Rattle.asm_layout.specs.Labels.{NamePlace, labels_of}
use Rattle.asm_layout.specs.Sizes.{sum_64, times, is_too_large}
use Rattle.eh_word.specs.Bytes.{gap}
use Rattle.asm_layout.specs.Walks.{start, cursor_place, next, is_empty, is_in_text, ends_pool, pool_with, pool_place, coming_pool, sizes_with_pool, walk_after}
use Rattle.asm_relocatable.specs.Sections.{same_section}
use Rattle.asm_layout.proofs.LayoutLaws.{same_bytes-true}
use Rattle.asm_object.specs.Bytes.{word_bytes, filling_bytes}
use Rattle.asm_object.specs.Values.{section_word}
use Rattle.asm_object.specs.Pieces.{Piece, words_bytes, pool_pieces, bytes_in, bytes_of_code, pieces_of}
use Rattle.asm_object.specs.Refusals.{instruction_fault, refusal}
use Rattle.asm_object.specs.LoadLaw.{LoadsItsWord, LoadsReadTheirWords}
use Rattle.asm_relocatable.specs.declared.object.Object.{Object}
use Rattle.asm_object.specs.Instructions.{literal, literal_to}
use Rattle.asm_object.specs.Objects.{assembled_object}
use Rattle.asm_object.proofs.PlaceLaws.{Fewer, filled_length, words_length, not_large, none_parts, none_after, walks_on, law_of_ends, law_of_bytes, refusal_parts, not_false, text_here, gives, loads}
use Rattle.asm_object.proofs.ObjectLaws.{taken, ends_small, entries_count}
use Rattle.asm_object.proofs.Statements.{walk_pieces}
use Rattle.asm_layout.specs.Placing.{word_place, place_stmts_from, pool_here}
use Rattle.asm_object.specs.After.{pieces_from, refusals_from}

-- ---- where a word goes in its pool

pub and_true : (a b : Bool) → (a && b) ≡ true → (a ≡ true) × (b ≡ true)
and_true true b e = (refl, e)
and_true false b e = absurd (true≢false (sym e))

same_words : (v w : Word) → same_word v w ≡ true → v ≡ w
same_words (word.Num m) (word.Num n) e = cc (eqb-true m n e)
same_words (word.Of a m) (word.Of b n) e =
    let parts = and_true (same_bytes a b) (m == n) e in
    cc (same_bytes-true a b parts.0, eqb-true m n parts.1)
same_words (word.Diff a c m) (word.Diff b d n) e =
    let parts = and_true (same_bytes a b && same_bytes c d) (m == n) e in
    let names = and_true (same_bytes a b) (same_bytes c d) parts.0 in
    cc (same_bytes-true a b names.0, same_bytes-true c d names.1, eqb-true m n parts.1)
same_words (word.Prel31 a) (word.Prel31 b) e = cc (same_bytes-true a b e)
same_words (word.Prel31Ref a) (word.Prel31Ref b) e = cc (same_bytes-true a b e)
same_words (word.Target2 a) (word.Target2 b) e = cc (same_bytes-true a b e)
same_words (word.Rel a) (word.Rel b) e = cc (same_bytes-true a b e)
same_words _ _ e = cc

-- a pool has a word after some others
pub record HasWord (pool : List Word) (word : Word) (at : ℕ) : Type 0 where
  pub front : List Word
  pub back : List Word
  pub split : pool ≡ front ++ word ∷ back
  pub place : at ≡ length front

pub put_there : (pool : List Word) (word : Word) → HasWord (pool_with pool word) word (position_or_len (same_word word) pool)
put_there [] word = record { front = []; back = []; split = refl; place = refl }
put_there (x ∷ xs) word = by (same_word word x) refl (put_there xs word)
  where
    by : (b : Bool) → same_word word x ≡ b → HasWord (pool_with xs word) word (position_or_len (same_word word) xs)
        → HasWord (cond (b || list_any (same_word word) xs) (x ∷ xs) (x ∷ xs ++ word ∷ [])) word (cond (not b) (1 + position_or_len (same_word word) xs) 0)
    by true e h = record { front = []; back = xs; split = ap (λ w. w ∷ xs) (sym (same_words word x e)); place = refl }
    by false e h = record { front = x ∷ h.front; back = h.back; split = grind (arith, h.split); place = omega (arith, h.place) }

has_some : (pool : List Word) (word : Word) (at : ℕ) → HasWord pool word at → is_empty pool ≡ false
has_some pool word at h = ap is_empty h.split ∙ grind (arith, nat_tests, length-append h.front (word ∷ h.back))

-- a pool without an end goes on
pub pool_keeps : (entries : List (Option EntryWords)) (walk : Walk) (kind : StmtKind) (word : Word) (at : ℕ) → ends_pool walk kind ≡ false
    → HasWord walk.pool word at → HasWord (next entries walk kind).pool word at
pool_keeps entries walk stmt.Pool word at e h =
    let filled = has_some walk.pool word at h in
    let out : is_in_text walk.at ≡ false = grind (arith, filled, e) in
    rw out h
pool_keeps entries walk (stmt.LdrPool t value) word at e h = by (is_in_text walk.at) (list_any (same_word (word_of value)) walk.pool)
  where
    by : (b c : Bool) → HasWord (cond b (cond c walk.pool (walk.pool ++ word_of value ∷ [])) walk.pool) word at
    by true false = record {
      front = h.front;
      back = h.back ++ word_of value ∷ [];
      split = ap (λ l. l ++ word_of value ∷ []) h.split ∙ append_assoc h.front (word ∷ h.back) (word_of value ∷ []);
      place = h.place;
    }
    by _ _ = h
pool_keeps entries walk _ word at e h = h

-- ---- the bytes of a pool

-- bytes have a word's at a place
record WordThere (labels : List NamePlace) (text coming : ℕ) (bytes : List ℕ) (word : Word) (at : ℕ) : Type 0 where
  before : List ℕ
  after : List ℕ
  split : bytes ≡ before ++ word_bytes (section_word labels word) ++ after
  place : coming + at * 4 ≡ text + length before

pool_has : (labels : List NamePlace) (walk : Walk) (word : Word) (at : ℕ) (rest all : List ℕ) → HasWord walk.pool word at
    → (sizes_with_pool walk).text ≤ MOST_BYTES → all ≡ bytes_in Text (pool_pieces labels (pool_here walk)) ++ rest
    → WordThere labels walk.at.sizes.text (pool_place walk) all word at
pool_has labels walk word at rest all h small is =
    let fill = gap walk.at.sizes.text 4 in
    let front = words_bytes labels h.front in
    let filled = has_some walk.pool word at h in
    let low = rw filled at small in
    let words : words_bytes labels walk.pool ≡ front ++ (word_bytes (section_word labels word) ++ words_bytes labels h.back) = rw (h.split, flat_map-append) in
    record {
      before = filling_bytes fill ++ front;
      after = words_bytes labels h.back ++ rest;
      split = rw filled at is ∙ rw words (simp (append-nil, append_assoc));
      place = omega (arith, h.place, low, length-append (filling_bytes fill) front, filled_length fill, words_length labels h.front);
    }

-- ---- statements

pub ends_sizes : (entries : List (Option EntryWords)) (walk : Walk) (kind : StmtKind) → ends_pool walk kind ≡ true → (next entries walk kind).at.sizes ≡ sizes_with_pool walk
ends_sizes entries walk stmt.Pool e = rw (and_true (is_in_text walk.at) (not (is_empty walk.pool)) e).0
ends_sizes entries walk _ e = cc

ends_pieces : (entries : List (Option EntryWords)) (labels : List NamePlace) (walk : Walk) (word : Option ℕ) (kind : StmtKind) → ends_pool walk kind ≡ true
    → bytes_in Text (walk_pieces entries labels walk word kind) ≡ bytes_in Text (pool_pieces labels (pool_here walk))
ends_pieces entries labels walk word stmt.Pool e =
    let text = (and_true (is_in_text walk.at) (not (is_empty walk.pool)) e).0 in
    rw (flat_map-append, text, append-nil)
ends_pieces entries labels walk word _ e = cc

stays : (entries : List (Option EntryWords)) (labels : List NamePlace) (walk : Walk) (kind : StmtKind) (own rest : List Piece) (later end : ℕ) (word : Word) (at : ℕ) (b : Bool)
    → ends_pool walk kind ≡ b → (ends_pool walk kind ≡ true → bytes_in Text own ≡ bytes_in Text (pool_pieces labels (pool_here walk)))
    → (next entries walk kind).at.sizes.text + length (bytes_in Text rest) ≡ end → walk.at.sizes.text + length (bytes_in Text (own ++ rest)) ≡ end → end ≤ MOST_BYTES
    → HasWord walk.pool word at
    → (b ≡ false → WordThere labels (next entries walk kind).at.sizes.text later (bytes_in Text rest) word at)
    → WordThere labels walk.at.sizes.text (cond b (pool_place walk) later) (bytes_in Text (own ++ rest)) word at
stays entries labels walk kind own rest later end word at true e pool ends all large there more =
    pool_has labels walk word at (bytes_in Text rest) (bytes_in Text (own ++ rest)) there (omega (arith, ap (λ (z : Sizes). z.text) (ends_sizes entries walk kind e), ends, large))
    (rw (flat_map-append, pool e))
stays entries labels walk kind own rest later end word at false e pool ends all large there more =
    let h = more refl in
    let first = bytes_in Text own in
    let both : bytes_in Text (own ++ rest) ≡ first ++ bytes_in Text rest = rw flat_map-append in
    record {
      before = first ++ h.before;
      after = h.after;
      split = both ∙ rw h.split (simp append_assoc);
      place = omega (arith, h.place, ends, all, ap length both, length-append first (bytes_in Text rest), length-append first h.before);
    }

word_stays : (entries : List (Option EntryWords)) (labels : List NamePlace) (walk : Walk) (stmts : List Stmt) (word : Word) (at : ℕ) → Fewer entries
    → refusals_from entries labels walk stmts ≡ [] → is_too_large (sizes_with_pool (walk_after entries walk stmts)) ≡ false → HasWord walk.pool word at
    → WordThere labels walk.at.sizes.text (coming_pool entries walk stmts) (bytes_in Text (pieces_from entries labels walk stmts)) word at
unfolding pieces_of place_stmts_from walk_after coming_pool
word_stays entries labels walk [] word at few r h there =
    pool_has labels walk word at [] _ there (not_large (sizes_with_pool walk) Text h) (sym (append-nil (bytes_in Text (pool_pieces labels (pool_here walk)))))
word_stays entries labels walk (stmt ∷ more) word at few r h there =
    let after = next entries walk stmt.kind in
    let end = (sizes_with_pool (walk_after entries after more)).text in
    let place = word_place walk stmt.kind (cond (ends_pool walk stmt.kind) (pool_place walk) (coming_pool entries after more)) in
    let parts = none_parts stmt.line (refusal labels stmt.kind walk.at.section (cursor_place walk.at).offset place) (refusals_from entries labels after more) r in
    stays entries labels walk stmt.kind (walk_pieces entries labels walk place stmt.kind) (pieces_from entries labels after more) (coming_pool entries after more) end word at
    (ends_pool walk stmt.kind) refl (ends_pieces entries labels walk place stmt.kind)
    (law_of_ends entries labels after more Text few parts.1 h) (law_of_ends entries labels walk (stmt ∷ more) Text few r h)
    (not_large (sizes_with_pool (walk_after entries after more)) Text h) there
    (λ e. word_stays entries labels after more word at few parts.1 h (pool_keeps entries walk stmt.kind word at e there))

-- ---- bytes after a statement, and of the statement itself

after_one : (entries : List (Option EntryWords)) (labels : List NamePlace) (before : List Stmt) (stmt : Stmt) (more : List Stmt) → Fewer entries
    → refusals_from entries labels start (before ++ stmt ∷ more) ≡ [] → is_too_large (sizes_with_pool (walk_after entries start (before ++ stmt ∷ more))) ≡ false
    → drop (next entries (walk_after entries start before) stmt.kind).at.sizes.text (bytes_in Text (pieces_from entries labels start (before ++ stmt ∷ more)))
    ≡ bytes_in Text (pieces_from entries labels (next entries (walk_after entries start before) stmt.kind) more)
unfolding walk_after
after_one entries labels before stmt more few r h =
    let same : before ++ stmt ∷ more ≡ before ++ stmt ∷ [] ++ more = sym (append_assoc before (stmt ∷ []) more) in
    rw same (rw (walks_on entries start before (stmt ∷ [])) at (law_of_bytes entries labels (before ++ stmt ∷ []) more Text few (rw (← same) r) (rw (← same) h)))

-- four bytes at a place after others
four_there : (whole rest before bytes after : List ℕ) (text place : ℕ) → drop text whole ≡ rest → rest ≡ before ++ bytes ++ after → length bytes ≡ 4 → place ≡ text + length before
    → take 4 (drop place whole) ≡ bytes
four_there whole rest before bytes after text place d s l p =
    rw (p, ← drop-drop (length before) text whole, d, s, append_assoc, drop-append_seam, ← l, take-append_seam)

first_two : (xs ys : List ℕ) → length xs ≡ 2 → take 2 (xs ++ ys) ≡ xs
first_two xs ys l = rw (← l, take-append_seam)

-- ---- a load

abbrev load : ℕ → ℕ → Expr → Stmt
load line t value = record { line = line; kind = stmt.LdrPool t value }

load_there : (stmts before more : List Stmt) (line t : ℕ) (value : Expr) (object : Object) → Fewer (entries_of stmts)
    → let entries = entries_of stmts in
    let labels = labels_of entries stmts in
    let walk = walk_after entries start before in
    let after = next entries walk (stmt.LdrPool t value) in
    refusals_from entries labels walk (load line t value ∷ more) ≡ [] → is_too_large (sizes_with_pool (walk_after entries walk (load line t value ∷ more))) ≡ false
    → drop walk.at.sizes.text object.text ≡ bytes_in Text (pieces_from entries labels walk (load line t value ∷ more))
    → drop after.at.sizes.text object.text ≡ bytes_in Text (pieces_from entries labels after more) → LoadsItsWord stmts before t value object
unfolding place_stmts_from walk_after pieces_of coming_pool
load_there stmts before more line t value object few r h own rest =
    let entries = entries_of stmts in
    let labels = labels_of entries stmts in
    let walk = walk_after entries start before in
    let kind = stmt.LdrPool t value in
    let after = next entries walk kind in
    let coming = coming_pool entries after more in
    let at = position_or_len (same_word (word_of value)) walk.pool in
    let word = word_place walk kind coming in
    let parts = none_parts line (refusal labels kind walk.at.section (cursor_place walk.at).offset word) (refusals_from entries labels after more) r in
    let mine = refusal_parts labels kind walk.at.section (cursor_place walk.at).offset word parts.0 in
    let text = not_false (same_section walk.at.section Text) mine.1.1 in
    let put : HasWord after.pool (word_of value) at = rw text (put_there walk.pool (word_of value)) in
    let there = word_stays entries labels after more (word_of value) at few parts.1 h put in
    let large = not_large (sizes_with_pool (walk_after entries after more)) Text h in
    let ends = law_of_ends entries labels after more Text few parts.1 h in
    let pool_word_place = sum_64 coming (times at 4) in
    let is : word ≡ Some pool_word_place = ap (λ b. option_map (sum_64 coming) (cond b (Some (times at 4)) None)) text in
    let place : pool_word_place ≡ after.at.sizes.text + length there.before =
    omega (arith, there.place, ap length there.split, length-append (there.before ++ word_bytes (section_word labels (word_of value))) there.after, length-append there.before (word_bytes (section_word labels (word_of value))), ends, large) in
    let taken : instruction_fault (Some (LdrLit t (literal pool_word_place (cursor_place walk.at).offset))) ≡ None =
    ap (λ o. instruction_fault (Some (LdrLit t (literal_to o (cursor_place walk.at).offset)))) (sym is) ∙ loads entries labels walk kind more word refl large parts.0 refl in
    let has = (gives (LdrLit t (literal pool_word_place (cursor_place walk.at).offset))).has taken in
    record {
      place = pool_word_place;
      word = four_there object.text _ there.before (word_bytes (section_word labels (word_of value))) there.after after.at.sizes.text pool_word_place rest there.split refl place;
      code = ap (λ n. take 2 (drop n object.text)) (text_here walk.at.sizes walk.at.section text)
          ∙ ap (take 2) own
          ∙ ap (λ b. take 2 (cond b (bytes_of_code (encode_result (LdrLit t (literal_to word (cursor_place walk.at).offset)))) [] ++ bytes_in Text (pieces_from entries labels after more))) text
          ∙ ap (λ o. take 2 (bytes_of_code (encode_result (LdrLit t (literal_to o (cursor_place walk.at).offset))) ++ bytes_in Text (pieces_from entries labels after more))) is
          ∙ first_two _ _ has;
    }

-- ---- the law

pub law_of_loads : LoadsReadTheirWords
unfolding assembled_object
law_of_loads before more line t value object few e =
    let stmts = before ++ load line t value ∷ more in
    let entries = entries_of stmts in
    let labels = labels_of entries stmts in
    let is = taken stmts object e in
    let fewer : length entries < 2 ^ 64 = omega (arith, few, entries_count no_frame stmts) in
    let h = ends_small entries start 0 stmts is.small in
    load_there stmts before more line t value object fewer (none_after entries labels start before (load line t value ∷ more) is.unrefused) (rw walks_on at h)
    (rw is.object_is (law_of_bytes entries labels before (load line t value ∷ more) Text fewer is.unrefused h))
    (rw is.object_is (after_one entries labels before (load line t value) more fewer is.unrefused h))
