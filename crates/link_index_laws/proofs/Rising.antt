-- The rows of the sources rise as they stand: in the order of the objects, and there in the order of the text.
use Rattle.std.proofs.Common.{ap, ◌∙◌, ◌≡◌, ℕ, false, suc, ◌+◌, ◌%◌, ◌^◌, ◌≤◌, ◌<◌, List, [], ◌∷◌, ◌++◌, length, map, flat_map, All, Some, refl, sym, arith, append_assoc, subst}
use Rattle.std.specs.Prelude.{slice_get}
use Rattle.std.proofs.lemmas.List.Elements.{All-nil, All-cons, All-head, All-tail, All-map, All-weaker}
use Rattle.asm_relocatable.specs.declared.place.Section.TheVariants.{Text, Extab}
use Rattle.asm_relocatable.specs.declared.object.IndexRow.{IndexRow}
use Rattle.asm_relocatable.specs.declared.object.Object.{Object}
use Rattle.asm_relocatable.specs.declared.object.RowEntry.{RowEntry}
use Rattle.asm_relocatable.specs.declared.object.RowEntry.TheVariants as entry
use Rattle.eh_codes.specs.declared.row.Entry.{Entry}
use Rattle.eh_codes.specs.declared.row.EntryBody.{EntryBody}
use Rattle.eh_codes.specs.declared.words.TheConstants.{COMPACT_MARK}
use Rattle.eh_codes.specs.declared.row.EntryBody.TheVariants.{CantUnwind, Inline, Table}
use Rattle.eh_link.specs.declared.places.Addresses.{Addresses}
use Rattle.eh_link.specs.declared.places.TheConstants.{CODE_START}
use Rattle.eh_link.specs.Placed.{PlacedObject}
use Rattle.eh_link.specs.Layout.{end_of, layout_of, is_too_large, firsts, align_all, part_ends, place_objects_from, place_objects, align_to_word}
use Rattle.eh_link.specs.Fields.{part_in, fill_object}
use Rattle.eh_link.specs.Index.{row_of, rows_in, body_at, closing}
use Rattle.eh_link.specs.IndexLaw.{object_rows, index_rows, IsEntryOf, IsRowOf}
use Rattle.eh_link.specs.LayoutLaw.{StandsAt, linked_code}
use Rattle.eh_link.proofs.Images.{placed_too, both_of, all_rows, part_end, code_below}
use Rattle.eh_link.proofs.Layouts.{rising, ends_of, end_ge}
use Rattle.eh_link.proofs.Sorting.{Ascending, sorted_is, never_falls}
use Rattle.eh_link.proofs.Standing.{text_sizes, extab_sizes, code_ends, law_of_code}
use Rattle.asm_laws.specs.SourceRowLaw.{LiesIn, RowLies}
use Rattle.asm_laws.proofs.SourceRows.{law_of_rising, law_of_lying}
use Rattle.link_index_laws.specs.SourceIndex.{IsAssembled, AssembledRowsLie, rows_to_read}

-- ---- one object

-- offsets that don't fall, from `low` on
abbrev pub Offsets : ℕ → List IndexRow → Type 0
Offsets low [] = Unit {0}
Offsets low (r ∷ rows) = (low ≤ r.offset) × Offsets r.offset rows

pub offsets_from : (rows : List IndexRow) (low : ℕ) → ((k : ℕ) (r : IndexRow) → slice_get rows k ≡ Some r → low ≤ r.offset)
    → ((j k : ℕ) (a b : IndexRow) → j ≤ k → slice_get rows j ≡ Some a → slice_get rows k ≡ Some b → a.offset ≤ b.offset) → Offsets low rows
offsets_from [] low h rise = tt
offsets_from (r ∷ rows) low h rise =
    (h 0 r refl, offsets_from rows r.offset (λ k b e. rise 0 (suc k) r b (omega arith) refl e) (λ j k a b le e f. rise (suc j) (suc k) a b (omega (arith, le)) e f))

pub record Orderly (object : Object) : Type 0 where
  pub lie : All (RowLies object) object.rows
  pub rise : Offsets 0 object.rows

pub orderly : (object : Object) → IsAssembled object → Orderly object
orderly object a = record {
  lie = law_of_lying a.stmts object a.few a.short a.accepted;
  rise = offsets_from object.rows 0 (λ k r e. omega arith) (λ j k x y le e f. law_of_rising a.stmts object j k x y a.few a.accepted le e f);
}

entry_of_object : (object : Object) (e : RowEntry) → LiesIn object e → IsEntryOf object e
entry_of_object object entry.CantUnwind h = tt
entry_of_object object (entry.Inline word) h = h.1
entry_of_object object (entry.Table offset) h = omega (arith, h.1)

pub law_of_assembled_rows : AssembledRowsLie
law_of_assembled_rows objects all =
    All-weaker IsAssembled (λ (object : Object). All (IsRowOf object) object.rows)
    (λ object a. All-weaker (RowLies object) (IsRowOf object) (λ row lies. record { start = lies.start; second = entry_of_object object row.entry lies.second }) object.rows (orderly object a).lie)
    objects all

pub all_orderly : (objects : List Object) → All IsAssembled objects → All Orderly objects
all_orderly objects all = All-weaker IsAssembled Orderly (λ object a. orderly object a) objects all

-- ---- rows that ascend

pub asc_lower : (a b : ℕ) (rows : List Entry) → a ≤ b → Ascending b rows → Ascending a rows
asc_lower a b [] h asc = tt
asc_lower a b (r ∷ rows) h asc = (omega (arith, h, asc.0), asc.1)

pub asc_front : (low : ℕ) (xs ys : List Entry) → Ascending low (xs ++ ys) → Ascending low xs
asc_front low [] ys asc = tt
asc_front low (x ∷ xs) ys asc = (asc.0, asc_front x.start xs ys asc.1)

pub asc_back : (low : ℕ) (xs : List Entry) (y : Entry) (ys : List Entry) → Ascending low (xs ++ y ∷ ys) → Ascending y.start ys
asc_back low [] y ys asc = asc.1
asc_back low (x ∷ xs) y ys asc = asc_back x.start xs y ys asc.1

low_address : (start offset len : ℕ) → offset ≤ len → start + len < 2 ^ 32 → (start + offset) % 2 ^ 32 ≡ start + offset
low_address start offset len h k = omega (arith, h, k)

pub asc_rows : (at : Addresses) (rows : List IndexRow) (low len m : ℕ) (ys : List Entry) → Offsets low rows → All (λ (r : IndexRow). r.offset ≤ len) rows → low ≤ len
    → at.text + len ≡ m → m < 2 ^ 32 → Ascending m ys → Ascending (at.text + low) (map (row_of at) rows ++ ys)
asc_rows at [] low len m ys o inside le e fits asc = asc_lower (at.text + low) m ys (omega (arith, le, e)) asc
asc_rows at (r ∷ rows) low len m ys o inside le e fits asc =
    let within : r.offset ≤ len = All-head (λ (x : IndexRow). x.offset ≤ len) r rows inside in
    let here : (row_of at r).start ≡ at.text + r.offset = low_address at.text r.offset len within (omega (arith, e, fits)) in
    let A : ℕ → Type 0 = λ n. Ascending n (map (row_of at) rows ++ ys) in
    (omega (arith, here, o.0), subst A (sym here) (asc_rows at rows r.offset len m ys o.1 (All-tail (λ (x : IndexRow). x.offset ≤ len) r rows inside) within e fits asc))

pub asc_objects : (at : Addresses) (objects : List Object) (end : ℕ) → All Orderly objects → end_of Text at.text objects ≡ end → end < 2 ^ 32
    → Ascending at.text (flat_map rows_in (place_objects_from at objects) ++ closing end ∷ [])
asc_objects at [] end all e fits = (omega (arith, e), tt)
asc_objects at (x ∷ xs) end all e fits =
    let here = align_all at in
    let next = part_ends here x in
    let p : PlacedObject = record { object = x; at = here } in
    let own = All-head Orderly x xs all in
    let rest = asc_objects next xs end (All-tail Orderly x xs all) e fits in
    let inside = All-weaker (RowLies x) (λ (r : IndexRow). r.offset ≤ length x.text) (λ r h. h.start) x.rows own.lie in
    let below : next.text ≤ end_of Text next.text xs = end_ge Text next.text xs in
    let A : List Entry → Type 0 = λ l. Ascending at.text l in
    subst A (sym (append_assoc (rows_in p) (flat_map rows_in (place_objects_from next xs)) (closing end ∷ [])))
    (asc_lower at.text (here.text + 0) _ (rounded at.text)
    (asc_rows here x.rows 0 (length x.text) next.text (flat_map rows_in (place_objects_from next xs) ++ closing end ∷ []) own.rise inside (omega arith) refl (fits_too next.text _ end below e fits) rest))
  where
    rounded : (n : ℕ) → n ≤ align_to_word n + 0
    rounded n = omega arith

    fits_too : (a b c : ℕ) → a ≤ b → b ≡ c → c < 2 ^ 32 → a < 2 ^ 32
    fits_too a b c h k l = omega (arith, h, k, l)

-- the objects after one of those that are placed
pub record After (end : ℕ) (placed : PlacedObject) (back : List PlacedObject) : Type 0 where
  pub rest : List Object
  pub back_is : back ≡ place_objects_from (part_ends placed.at placed.object) rest
  pub ends_there : end_of Text (part_ends placed.at placed.object).text rest ≡ end
  pub orderly_rest : All Orderly rest

heads : (x y : PlacedObject) (xs ys : List PlacedObject) → x ∷ xs ≡ y ∷ ys → (x ≡ y) × (xs ≡ ys)
heads x y xs ys e = (cc, cc)

pub after_placed : (at : Addresses) (objects : List Object) (end : ℕ) (front : List PlacedObject) (placed : PlacedObject) (back : List PlacedObject) → All Orderly objects → end_of Text at.text objects ≡ end
    → place_objects_from at objects ≡ front ++ placed ∷ back → After end placed back
after_placed at [] end [] placed back all e is = absurd (cc)
after_placed at [] end (y ∷ front) placed back all e is = absurd (cc)
after_placed at (x ∷ xs) end [] placed back all e is =
    let p : PlacedObject = record { object = x; at = align_all at } in
    let both = heads p placed (place_objects_from (part_ends (align_all at) x) xs) back is in
    record {
      rest = xs;
      back_is = sym both.1 ∙ ap (λ (q : PlacedObject). place_objects_from (part_ends q.at q.object) xs) both.0;
      ends_there = ap (λ (q : PlacedObject). end_of Text (part_ends q.at q.object).text xs) (sym both.0) ∙ e;
      orderly_rest = All-tail Orderly x xs all;
    }
after_placed at (x ∷ xs) end (y ∷ front) placed back all e is =
    let p : PlacedObject = record { object = x; at = align_all at } in
    after_placed (part_ends (align_all at) x) xs end front placed back (All-tail Orderly x xs all) e (heads p y (place_objects_from (part_ends (align_all at) x) xs) (front ++ placed ∷ back) is).1

pub rows_ascend : (objects : List Object) → All Orderly objects → is_too_large (layout_of objects) ≡ false → Ascending CODE_START (rows_to_read objects)
rows_ascend objects all fits =
    let l = layout_of objects in
    let r = rising objects in
    let below = code_below objects fits in
    asc_objects (firsts l) objects l.text_end all (sym (ends_of objects).text) (omega (arith, r.rodata, r.extab, r.index, r.code, below))

-- so the index has the rows in this order
pub in_this_order : (objects : List Object) → All Orderly objects → is_too_large (layout_of objects) ≡ false → index_rows (place_objects objects) ≡ object_rows (place_objects objects)
in_this_order objects all fits =
    let rows = object_rows (place_objects objects) in
    let up = asc_front CODE_START rows (closing (layout_of objects).text_end ∷ []) (rows_ascend objects all fits) in
    sym (sorted_is rows rows (never_falls CODE_START rows up) (λ k. refl))

-- ---- where the rows lie in the image

abbrev pub BodyFits : ℕ → EntryBody → Type 0
BodyFits end CantUnwind = Unit {0}
BodyFits end (Inline word) = (COMPACT_MARK ≤ word) × (word < 2 ^ 32)
BodyFits end (Table address) = (address % 4 ≡ 0) × ((CODE_START ≤ address) × (address + 4 ≤ end))

pub record RowFits (end : ℕ) (row : Entry) : Type 0 where
  pub from : CODE_START ≤ row.start
  pub to : row.start ≤ end
  pub body : BodyFits end row.body

-- where an object's parts stand
pub record Stands (end : ℕ) (p : PlacedObject) : Type 0 where
  pub text_from : CODE_START ≤ p.at.text
  pub text_to : p.at.text + length p.object.text ≤ end
  pub extab_from : CODE_START ≤ p.at.extab
  pub extab_to : p.at.extab + length p.object.extab ≤ end
  pub four : p.at.extab % 4 ≡ 0

four_placed : (at : Addresses) (xs : List Object) → All (λ (p : PlacedObject). p.at.extab % 4 ≡ 0) (place_objects_from at xs)
four_placed at [] = All-nil _
four_placed at (x ∷ xs) =
    All-cons (λ (p : PlacedObject). p.at.extab % 4 ≡ 0) (record { object = x; at = align_all at }) (place_objects_from (part_ends (align_all at) x) xs) (rounded at.extab) (four_placed (part_ends (align_all at) x) xs)
  where
    rounded : (n : ℕ) → align_to_word n % 4 ≡ 0
    rounded n = omega arith

stands_from : (address start : ℕ) (part bytes : List ℕ) → StandsAt address part start bytes → start ≤ address
stands_from address start part bytes s = omega (arith, s.place)

pub all_stand : (objects : List Object) → All (Stands (layout_of objects).code_end) (place_objects objects)
all_stand objects =
    let code = law_of_code objects in
    let bytes = code_ends objects in
    let all = place_objects objects in
    let text_stands : PlacedObject → Type 0 = λ p. StandsAt p.at.text (part_in Text (fill_object all p)) CODE_START (linked_code objects) in
    let extab_stands : PlacedObject → Type 0 = λ p. StandsAt p.at.extab (part_in Extab (fill_object all p)) CODE_START (linked_code objects) in
    let four : PlacedObject → Type 0 = λ p. p.at.extab % 4 ≡ 0 in
    All-weaker (λ (p : PlacedObject). (text_stands p × extab_stands p) × four p) (Stands (layout_of objects).code_end)
    (λ p h. record {
      text_from = stands_from p.at.text CODE_START (part_in Text (fill_object all p)) (linked_code objects) h.0.0;
      text_to = upto _ _ _ (part_end p.at.text (length p.object.text) CODE_START (part_in Text (fill_object all p)) (linked_code objects) h.0.0 (text_sizes all p)) bytes;
      extab_from = stands_from p.at.extab CODE_START (part_in Extab (fill_object all p)) (linked_code objects) h.0.1;
      extab_to = upto _ _ _ (part_end p.at.extab (length p.object.extab) CODE_START (part_in Extab (fill_object all p)) (linked_code objects) h.0.1 (extab_sizes all p)) bytes;
      four = h.1;
    }) all
    (both_of (λ (p : PlacedObject). text_stands p × extab_stands p) four all (both_of text_stands extab_stands all code.0 code.2) (four_placed (firsts (layout_of objects)) objects))
  where
    upto : (a b c : ℕ) → a ≤ b → b ≡ c → a ≤ c
    upto a b c h k = omega (arith, h, k)

body_fits : (end : ℕ) (p : PlacedObject) (e : RowEntry) → Stands end p → end < 2 ^ 30 → LiesIn p.object e → BodyFits end (body_at p.at e)
body_fits end p entry.CantUnwind s low h = tt
body_fits end p (entry.Inline word) s low h = h
body_fits end p (entry.Table offset) s low h = (table_four p.at.extab offset s.four h.0 (omega (arith, s.extab_to, h.1, low)), (omega (arith, s.extab_from, s.extab_to, h.1, low), omega (arith, s.extab_to, h.1, low)))
  where
    table_four : (a b : ℕ) → a % 4 ≡ 0 → b % 4 ≡ 0 → a + b < 2 ^ 32 → (a + b) % 2 ^ 32 % 4 ≡ 0
    table_four a b e f h = omega (arith, e, f, h)

pub row_fits : (end : ℕ) (p : PlacedObject) (r : IndexRow) → Stands end p → end < 2 ^ 30 → RowLies p.object r → RowFits end (row_of p.at r)
row_fits end p r s low h = record {
  from = omega (arith, s.text_from, s.text_to, h.start, low);
  to = omega (arith, s.text_to, h.start, low);
  body = body_fits end p r.entry s low h.second;
}

pub rows_fit : (objects : List Object) → All Orderly objects → is_too_large (layout_of objects) ≡ false → All (RowFits (layout_of objects).code_end) (object_rows (place_objects objects))
rows_fit objects all fits =
    let end = (layout_of objects).code_end in
    let low : end < 2 ^ 30 = omega (arith, code_below objects fits) in
    let lies : PlacedObject → Type 0 = λ p. All (RowLies p.object) p.object.rows in
    all_rows (RowFits end) (place_objects objects)
    (All-weaker (λ (p : PlacedObject). Stands end p × lies p) (λ (p : PlacedObject). All (RowFits end) (rows_in p)) (λ p h.
    All-map (RowFits end) (row_of p.at) p.object.rows
    (All-weaker (RowLies p.object) (λ (r : IndexRow). RowFits end (row_of p.at r)) (λ r k. row_fits end p r h.0 low k) p.object.rows h.1)) (place_objects objects)
    (both_of (Stands end) lies (place_objects objects) (all_stand objects)
    (placed_too (λ (object : Object). All (RowLies object) object.rows) (firsts (layout_of objects)) objects
    (All-weaker Orderly (λ (object : Object). All (RowLies object) object.rows) (λ object o. o.lie) objects all))))
