-- The bytes of rows say what the rows say, and bytes that say a row are read as that row.
use Rattle.std.proofs.Common.{◌≡◌, ℕ, zero, suc, ◌+◌, ◌-◌, ◌*◌, ◌%◌, ◌^◌, ◌<◌, ◌≤◌, ◌==◌, Bool, true, false, cond, List, [], ◌∷◌, ◌++◌, length, drop, get_or, Some, None, refl, sym, ◌∙◌, ap, arith, length-append, append_assoc, subst}
use Rattle.std.specs.Prelude.{nat_le, slice_get, All}
use Rattle.std.proofs.Math.Seq.{drop-append_seam}
use Rattle.std.proofs.lemmas.Bool.Decides.{nat_tests}
use Rattle.std.proofs.lemmas.Int.{ints}
use Rattle.std.proofs.lemmas.List.{at_drop_more, drop-drop}
use Rattle.std.proofs.lemmas.List.Elements.{All-head, All-tail}
use Rattle.byteorder.specs.Endian.{little_number, little_bytes}
use Rattle.byteorder.specs.Numbers.{little_number-reads_back}
use Rattle.eh_word.specs.Words.{prel31_of, number_at}
use Rattle.eh_codes.specs.declared.row.Entry.{Entry}
use Rattle.eh_codes.specs.declared.row.EntryBody.{EntryBody}
use Rattle.eh_codes.specs.declared.row.EntryBody.TheVariants.{CantUnwind, Inline, Table}
use Rattle.eh_codes.specs.declared.row.TheConstants.{CANT_UNWIND, ROW_SIZE, PREL31_LIMIT}
use Rattle.eh_codes.specs.declared.words.TheConstants.{COMPACT_MARK}
use Rattle.eh_codes.specs.Rows.{prel31_to, even, body_of, second_word, row_bytes, rows_bytes}
use Rattle.eh_codes.specs.Laws.{IsTold, LeadsTo, Says, SaysRow, IsLowBody, IsLow, RowsSay, RowsAreRead}
use Rattle.eh_codes.proofs.RowLaws.{seen_back, law_of_rows}

-- ---- one row more

pub rows_more : (place : ℕ) (xs : List Entry) (i : ℕ) (d : Entry) → i < length xs
    → rows_bytes place (drop i xs) ≡ row_bytes place (get_or xs i d) ++ rows_bytes ((place + ROW_SIZE) % 2 ^ 32) (drop (i + 1) xs)
rows_more place xs i d h = at_drop_more (rows_bytes place) xs i d h

pub ruleset steps = (rows_more, append_assoc)

-- ---- words in bytes

is_there : (bytes : List ℕ) (at x : ℕ) → at + 4 ≤ length bytes → little_number 4 (drop at bytes) ≡ x → number_at 4 bytes at ≡ Some x
unfolding number_at
is_there bytes at x inside is = tested (nat_le (at + 4) (length bytes)) refl
  where
    tested : (b : Bool) → b ≡ nat_le (at + 4) (length bytes) → cond b (Some (little_number 4 (drop at bytes))) None ≡ Some x
    tested true e = ap Some is
    tested false e = absurd (grind (arith, nat_tests, inside))

four : (x : ℕ) → length (little_bytes 4 x) ≡ 4
four x = refl

first_there : (x : ℕ) (rest : List ℕ) → x < 2 ^ 32 → number_at 4 (little_bytes 4 x ++ rest) 0 ≡ Some x
first_there x rest h =
    is_there (little_bytes 4 x ++ rest) 0 x (omega (arith, length-append (little_bytes 4 x) rest, four x)) (little_number-reads_back 4 x rest h)

second_there : (x y : ℕ) (rest : List ℕ) → y < 2 ^ 32 → number_at 4 (little_bytes 4 x ++ (little_bytes 4 y ++ rest)) 4 ≡ Some y
second_there x y rest h =
    is_there (little_bytes 4 x ++ (little_bytes 4 y ++ rest)) 4 y
    (omega (arith, length-append (little_bytes 4 x) (little_bytes 4 y ++ rest), length-append (little_bytes 4 y) rest, four x, four y)) (little_number-reads_back 4 y rest h)

same_place : (front at all rest : ℕ) → all ≡ front + rest → nat_le (front + at + 4) all ≡ nat_le (at + 4) rest
same_place front at all rest e = grind (arith, nat_tests)

-- a word after other bytes
there_after : (front rest : List ℕ) (at x : ℕ) → number_at 4 rest at ≡ Some x → number_at 4 (front ++ rest) (length front + at) ≡ Some x
unfolding number_at
there_after front rest at x e =
    rw (same_place (length front) at (length (front ++ rest)) (length rest) (length-append front rest), ← drop-drop at (length front) (front ++ rest), drop-append_seam front rest) e

-- the number that stands there
pub read_number : (bytes : List ℕ) (at x : ℕ) → number_at 4 bytes at ≡ Some x → little_number 4 (drop at bytes) ≡ x
unfolding number_at
read_number bytes at x e = tested (nat_le (at + 4) (length bytes)) e
  where
    tested : (b : Bool) → cond b (Some (little_number 4 (drop at bytes))) None ≡ Some x → little_number 4 (drop at bytes) ≡ x
    tested true e = cc
    tested false e = absurd cc

-- ---- the bytes of one row

below_31 : (place target : ℕ) → prel31_to place target < PREL31_LIMIT
below_31 place target = omega arith

second_below : (place : ℕ) (body : EntryBody) → IsLowBody body → second_word place body < 2 ^ 32
second_below place CantUnwind low = omega arith
second_below place (Inline word) low = low
second_below place (Table address) low = omega arith

pub length-row : (place : ℕ) (row : Entry) → length (row_bytes place row) ≡ ROW_SIZE
unfolding row_bytes
length-row place row = refl

leads_to : (address place : ℕ) (bytes : List ℕ) (offset : ℕ) → address < 2 ^ 30 → place + offset < 2 ^ 30
    → number_at 4 bytes offset ≡ Some (prel31_to (place + offset) address) → LeadsTo address place bytes offset
leads_to address place bytes offset low fits e = record {
  word = prel31_to (place + offset) address;
  there = e;
  clear = below_31 (place + offset) address;
  leads = seen_back (place + offset) address fits low;
}

says : (body : EntryBody) (place : ℕ) (bytes : List ℕ) (offset : ℕ) → IsLowBody body → place + offset < 2 ^ 30
    → number_at 4 bytes offset ≡ Some (second_word (place + offset) body) → Says body place bytes offset
says CantUnwind place bytes offset low fits e = e
says (Inline word) place bytes offset low fits e = e
says (Table address) place bytes offset low fits e = leads_to address place bytes offset low fits e

says_row : (place : ℕ) (row : Entry) (rest : List ℕ) → IsLow row → place + ROW_SIZE ≤ 2 ^ 30 → SaysRow row place (row_bytes place row ++ rest) 0
unfolding row_bytes
says_row place row rest low fits =
    let here : place + 0 ≡ place = omega arith in
    let next : (place + 4) % 2 ^ 32 ≡ place + 4 = omega arith in
    let start : number_at 4 (row_bytes place row ++ rest) 0 ≡ Some (prel31_to (place + 0) row.start) =
    rw (here, append_assoc (little_bytes 4 (prel31_to place row.start)) (little_bytes 4 (second_word ((place + 4) % 2 ^ 32) row.body)) rest)
    (first_there (prel31_to place row.start) (little_bytes 4 (second_word ((place + 4) % 2 ^ 32) row.body) ++ rest) (omega (arith, below_31 place row.start))) in
    let second : number_at 4 (row_bytes place row ++ rest) 4 ≡ Some (second_word (place + 4) row.body) =
    rw (append_assoc (little_bytes 4 (prel31_to place row.start)) (little_bytes 4 (second_word ((place + 4) % 2 ^ 32) row.body)) rest, next)
    (second_there (prel31_to place row.start) (second_word (place + 4) row.body) rest (second_below (place + 4) row.body low.body)) in
    record {
      start = leads_to row.start place (row_bytes place row ++ rest) 0 low.start (omega arith) start;
      second = says row.body place (row_bytes place row ++ rest) 4 low.body (omega arith) second;
    }

-- ---- and of rows after each other

leads_after : (address place : ℕ) (front rest : List ℕ) (offset : ℕ) → LeadsTo address (place + length front) rest offset
    → LeadsTo address place (front ++ rest) (length front + offset)
leads_after address place front rest offset leads =
    let same : place + length front + offset ≡ place + (length front + offset) = omega arith in
    record {
      word = leads.word;
      there = there_after front rest offset leads.word leads.there;
      clear = leads.clear;
      leads = ap (λ p. prel31_of p leads.word) (sym same) ∙ leads.leads;
    }

says_after : (body : EntryBody) (place : ℕ) (front rest : List ℕ) (offset : ℕ) → Says body (place + length front) rest offset
    → Says body place (front ++ rest) (length front + offset)
says_after CantUnwind place front rest offset h = there_after front rest offset CANT_UNWIND h
says_after (Inline word) place front rest offset h = there_after front rest offset word h
says_after (Table address) place front rest offset h = leads_after address place front rest offset h

row_after : (row : Entry) (place : ℕ) (front rest : List ℕ) (offset : ℕ) → SaysRow row (place + length front) rest offset
    → SaysRow row place (front ++ rest) (length front + offset)
row_after row place front rest offset h =
    let same : length front + (offset + 4) ≡ length front + offset + 4 = omega arith in
    let S : ℕ → Type 0 = λ n. Says row.body place (front ++ rest) n in
    record {
      start = leads_after row.start place front rest offset h.start;
      second = subst S same (says_after row.body place front rest (offset + 4) h.second);
    }

each_row : (place : ℕ) (rows : List Entry) (k : ℕ) (row : Entry) → All IsLow rows → place + ROW_SIZE * length rows ≤ 2 ^ 30
    → slice_get rows k ≡ Some row → SaysRow row place (rows_bytes place rows) (ROW_SIZE * k)
each_row place [] k row all fits e = absurd cc
each_row place (x ∷ rows) zero row all fits e =
    let same : x ≡ row = cc in
    let low : IsLow row = subst IsLow same (All-head IsLow x rows all) in
    rw same (says_row place row (rows_bytes ((place + ROW_SIZE) % 2 ^ 32) rows) low (omega arith))
each_row place (x ∷ rows) (suc k) row all fits e =
    let next : (place + ROW_SIZE) % 2 ^ 32 ≡ place + ROW_SIZE = omega arith in
    let further : SaysRow row (place + ROW_SIZE) (rows_bytes (place + ROW_SIZE) rows) (ROW_SIZE * k) =
    each_row (place + ROW_SIZE) rows k row (All-tail IsLow x rows all) (omega arith) e in
    let size : length (row_bytes place x) ≡ ROW_SIZE = length-row place x in
    let offset : length (row_bytes place x) + ROW_SIZE * k ≡ ROW_SIZE * suc k = omega (arith, size) in
    let P : ℕ → Type 0 = λ n. SaysRow row (place + n) (rows_bytes (place + ROW_SIZE) rows) (ROW_SIZE * k) in
    let S : ℕ → Type 0 = λ n. SaysRow row place (row_bytes place x ++ rows_bytes (place + ROW_SIZE) rows) n in
    rw next (subst S offset (row_after row place (row_bytes place x) (rows_bytes (place + ROW_SIZE) rows) (ROW_SIZE * k) (subst P (sym size) further)))

pub length-rows : (place : ℕ) (rows : List Entry) → length (rows_bytes place rows) ≡ ROW_SIZE * length rows
length-rows place [] = refl
length-rows place (row ∷ more) =
    length-append (row_bytes place row) (rows_bytes ((place + ROW_SIZE) % 2 ^ 32) more)
    ∙ omega (arith, length-row place row, length-rows ((place + ROW_SIZE) % 2 ^ 32) more)

pub law_of_saying : RowsSay
law_of_saying place rows all fits = record { size = length-rows place rows; each = λ k row e. each_row place rows k row all fits e }

-- ---- bytes that say a row

-- the word that says that nothing unwinds leads to the place after its own
one_leads : (place : ℕ) → place < 2 ^ 30 → prel31_of place CANT_UNWIND ≡ place + 1
unfolding prel31_of
one_leads place h = grind (arith, ints, nat_tests)

no_one : (place address word : ℕ) → word ≡ CANT_UNWIND → place < 2 ^ 30 → place % 4 ≡ 0 → address % 4 ≡ 0 → prel31_of place word ≡ address → ⊥
no_one place address word one low four aligned e =
    let is : prel31_of place CANT_UNWIND ≡ address = ap (prel31_of place) (sym one) ∙ e in
    omega (arith, is, one_leads place low, four, aligned)

le_isnt : (m n : ℕ) → n < m → nat_le m n ≡ false
le_isnt m n h = grind (arith, nat_tests)

is_one : (word : ℕ) → true ≡ (word == CANT_UNWIND) → word ≡ CANT_UNWIND
is_one word e = grind (arith, nat_tests)

table_is : (place address word : ℕ) (one : Bool) → one ≡ (word == CANT_UNWIND) → word < PREL31_LIMIT → place < 2 ^ 30 → place % 4 ≡ 0 → address % 4 ≡ 0 → prel31_of place word ≡ address
    → cond one CantUnwind (cond (nat_le COMPACT_MARK word) (Inline word) (Table (prel31_of place word))) ≡ Table address
table_is place address word true e clear low four aligned leads = absurd (no_one place address word (is_one word e) low four aligned leads)
table_is place address word false e clear low four aligned leads =
    ap (λ b. cond b (Inline word) (Table (prel31_of place word))) (le_isnt COMPACT_MARK word clear) ∙ ap Table leads

body_read : (body : EntryBody) (place : ℕ) (bytes : List ℕ) (offset : ℕ) → Says body place bytes offset → IsTold body → place + offset < 2 ^ 30 → (place + offset) % 4 ≡ 0
    → body_of (place + offset) (little_number 4 (drop offset bytes)) ≡ body
body_read CantUnwind place bytes offset h fits low four = ap (body_of (place + offset)) (read_number bytes offset CANT_UNWIND h)
body_read (Inline word) place bytes offset h fits low four =
    ap (body_of (place + offset)) (read_number bytes offset word h) ∙ law_of_rows (place + offset) (Inline word) low four fits
body_read (Table address) place bytes offset leads fits low four =
    ap (body_of (place + offset)) (read_number bytes offset leads.word leads.there)
    ∙ table_is (place + offset) address leads.word (leads.word == CANT_UNWIND) refl leads.clear low four fits leads.leads

abbrev pub row_with : ℕ → EntryBody → Entry
row_with start body = record { start = even start; body = body }

row_same : (start other : ℕ) (body said : EntryBody) → start ≡ other → body ≡ said → row_with start body ≡ row_with other said
row_same start other body said e f = ap (λ s. row_with s body) e ∙ ap (row_with other) f

pub law_of_reading : RowsAreRead
law_of_reading row place bytes offset h fits four low =
    let next : (place + offset + 4) % 2 ^ 32 ≡ place + (offset + 4) = omega arith in
    let first : prel31_of (place + offset) (little_number 4 (drop offset bytes)) ≡ row.start =
    ap (prel31_of (place + offset)) (read_number bytes offset h.start.word h.start.there) ∙ h.start.leads in
    let second : body_of ((place + offset + 4) % 2 ^ 32) (little_number 4 (drop (offset + 4) bytes)) ≡ row.body =
    ap (λ p. body_of p (little_number 4 (drop (offset + 4) bytes))) next ∙ body_read row.body place bytes (offset + 4) h.second fits (omega arith) (omega arith) in
    row_same (prel31_of (place + offset) (little_number 4 (drop offset bytes))) row.start (body_of ((place + offset + 4) % 2 ^ 32) (little_number 4 (drop (offset + 4) bytes))) row.body first second
