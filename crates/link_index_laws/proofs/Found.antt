-- An address of a function has the function's own entry.
use Rattle.eh_link.specs.declared.places.TheConstants.{CODE_START, MOST_MEMORY}
use Rattle.eh_link.proofs.Layouts.{rising, ends_of, end_ge}
use Rattle.asm_relocatable.specs.declared.place.Section.TheVariants.{Text}
use Rattle.asm_object.proofs.ObjectLaws.{taken}
use Rattle.std.proofs.Common.{◌≡◌, ℕ, ◌+◌, ◌%◌, ◌^◌, ◌≤◌, ◌<◌, nat_le, true, false, cond, List, [], ◌∷◌, ◌++◌, length, take, drop, map, flat_map, fold, All, Option, Some, None, Result, Ok, refl, sym, ap, ◌∙◌, arith, append_assoc, subst, zero, suc}
use Rattle.std.specs.Prelude.{slice_get}
use Rattle.std.proofs.lemmas.Bool.Decides.{nat_tests}
use Rattle.std.proofs.lemmas.Grind.{flat_map-append}
use Rattle.std.proofs.lemmas.List.{map-append, take-append-drop}
use Rattle.std.proofs.lemmas.List.Elements.{All-head, All-tail, All-get_or, All-drop, All-weaker}
use Rattle.std.proofs.lemmas.List.Sums.{fold-append}
use Rattle.std.proofs.lemmas.Option.{get_or_from_slice_get, slice_get_within}
use Rattle.asm_unwind.specs.declared.entry.EntryWords.{EntryWords}
use Rattle.asm_unwind.specs.declared.entry.EntryWords.TheVariants as words
use Rattle.asm_unwind.specs.declared.directive.UnwindFault.{UnwindFault}
use Rattle.asm_unwind.specs.Entries.{entry_words_of}
use Rattle.eh_codes.specs.declared.row.Entry.{Entry}
use Rattle.eh_codes.specs.declared.row.EntryBody.{EntryBody}
use Rattle.eh_codes.specs.declared.row.EntryBody.TheVariants as body
use Rattle.asm_relocatable.specs.declared.object.IndexRow.{IndexRow}
use Rattle.asm_relocatable.specs.declared.object.Object.{Object}
use Rattle.asm_object.proofs.ListLemmas.{drop_here}
use Rattle.elf_write.specs.Parts.{image_of_parts}
use Rattle.eh_link.specs.Placed.{PlacedObject}
use Rattle.eh_link.specs.Layout.{layout_of, firsts, part_ends}
use Rattle.eh_link.specs.Index.{row_of, rows_in, body_at, closing}
use Rattle.eh_link.proofs.Images.{image_made, placed_too, code_below}
use Rattle.eh_link.proofs.Sorting.{Ascending}
use Rattle.eh_index.specs.Covering.{covering}
use Rattle.asm_laws.specs.Functions.{Function, functions_in, source_of, directives_of, start_at, end_at}
use Rattle.asm_laws.specs.RowLaw.{walk_over, entry_for, HasItsRow}
use Rattle.asm_laws.specs.SourceRowLaw.{LiesIn, RowLies}
use Rattle.asm_laws.proofs.SourceRows.{text_offset, law_of_later_rows, law_of_rising, starts_inside}
use Rattle.asm_laws.proofs.Standing.{law_of_rows}
use Rattle.eh_codes.specs.Rows.{even, row_as_read}
use Rattle.link_index_laws.specs.SourceIndex.{IsAssembled, rows_to_read, IsIn, body_of, own_entry, later_rows, FunctionsAreFound, end_of, AddressesHaveTheirFunction}
use Rattle.link_index_laws.proofs.Rising.{Orderly, all_orderly, asc_back, Stands, all_stand, asc_rows, asc_objects, offsets_from, after_placed}
use Rattle.link_index_laws.proofs.Reading.{even_rises, entries_are, image_read}

-- ---- the last entry that begins at an address or below it

abbrev Above : ℕ → List Entry → Type 0
Above site [] = Unit {0}
Above site (e ∷ more) = (site < e.start) × Above site more

le_is : (m n : ℕ) → m ≤ n → nat_le m n ≡ true
le_is m n h = grind (arith, nat_tests)

le_isnt : (m n : ℕ) → n < m → nat_le m n ≡ false
le_isnt m n h = grind (arith, nat_tests)

abbrev latest : ℕ → Option Entry → Entry → Option Entry
latest site found e = cond (nat_le e.start site) (Some e) found

stays : (site : ℕ) (found : Option Entry) (after : List Entry) → Above site after → fold (latest site) found after ≡ found
stays site found [] h = refl
stays site found (e ∷ after) h = ap (λ b. fold (latest site) (cond b (Some e) found) after) (le_isnt e.start site h.0) ∙ stays site found after h.1

covering_here : (site : ℕ) (before : List Entry) (e : Entry) (after : List Entry) → e.start ≤ site → Above site after → covering (before ++ e ∷ after) site ≡ Some e
covering_here site before e after h above =
    fold-append (latest site) None before (e ∷ after)
    ∙ ap (λ b. fold (latest site) (cond b (Some e) (fold (latest site) None before)) after) (le_is e.start site h)
    ∙ stays site (Some e) after above

above_rows : (site low : ℕ) (rows : List Entry) → Ascending low rows → site < even low → Above site (map row_as_read rows)
above_rows site low [] asc h = tt
above_rows site low (r ∷ rows) asc h =
    let here : site < even r.start = omega (arith, h, even_rises low r.start asc.0) in
    (here, above_rows site r.start rows asc.1 here)

-- ---- the rows, cut at one of them

regroup : (f t : List Entry) (x : Entry) (d b c : List Entry) → (f ++ ((t ++ x ∷ d) ++ b)) ++ c ≡ (f ++ t) ++ x ∷ ((d ++ b) ++ c)
regroup f t x d b c =
    ap (λ l. (f ++ l) ++ c) (append_assoc t (x ∷ d) b)
    ∙ append_assoc f (t ++ x ∷ (d ++ b)) c
    ∙ ap (λ l. f ++ l) (append_assoc t (x ∷ (d ++ b)) c)
    ∙ sym (append_assoc f t (x ∷ ((d ++ b) ++ c)))

abbrev pub rows_before : (objects : List Object) (f : Function) → IsIn objects f → List Entry
rows_before objects f there = flat_map rows_in there.front ++ map (row_of there.placed.at) (take (functions_in f.before) there.placed.object.rows)

pub cut_there : (objects : List Object) (f : Function) (there : IsIn objects f) (row : IndexRow) → slice_get there.placed.object.rows (functions_in f.before) ≡ Some row
    → rows_to_read objects ≡ rows_before objects f there ++ row_of there.placed.at row ∷ later_rows objects f there
cut_there objects f there row e =
    let k = functions_in f.before in
    let rows = there.placed.object.rows in
    let at = there.placed.at in
    let end = closing (layout_of objects).text_end ∷ [] in
    let own : map (row_of at) rows ≡ map (row_of at) (take k rows) ++ row_of at row ∷ map (row_of at) (drop (k + 1) rows) =
    ap (map (row_of at)) (sym (take-append-drop k rows) ∙ ap (λ l. take k rows ++ l) (drop_here rows k row e)) ∙ map-append (row_of at) (take k rows) (row ∷ drop (k + 1) rows) in
    ap (λ all. flat_map rows_in all ++ end) there.split
    ∙ ap (λ l. l ++ end) (flat_map-append rows_in there.front (there.placed ∷ there.back))
    ∙ ap (λ l. (flat_map rows_in there.front ++ (l ++ flat_map rows_in there.back)) ++ end) own
    ∙ regroup (flat_map rows_in there.front) (map (row_of at) (take k rows)) (row_of at row) (map (row_of at) (drop (k + 1) rows)) (flat_map rows_in there.back) end

-- ---- the function's row

pub all_mid : {A : Type 0} (P : A → Type 0) (front : List A) (x : A) (back : List A) → All P (front ++ x ∷ back) → P x
all_mid P [] x back h = All-head P x back h
all_mid P (y ∷ front) x back h = all_mid P front x back (All-tail P y (front ++ x ∷ back) h)

-- what holds of a function of a source among objects that are linked
pub record InImage (objects : List Object) (f : Function) (placed : PlacedObject) (given : EntryWords) : Type 0 where
  pub has : HasItsRow f placed.object
  pub same : has.words ≡ given
  pub offset : has.offset ≡ (walk_over (source_of f) f.before).at.sizes.text
  pub lies : RowLies placed.object (record { offset = has.offset; entry = entry_for has.words has.table })
  pub stands : Stands (layout_of objects).code_end placed

words_same : (a b : EntryWords) (r : Result EntryWords UnwindFault) → r ≡ Ok a → r ≡ Ok b → a ≡ b
words_same a b r e f = cc

pub in_image : (objects : List Object) (f : Function) (there : IsIn objects f) (given : EntryWords) → All IsAssembled objects → entry_words_of (directives_of f) ≡ Ok given
    → InImage objects f there.placed given
in_image objects f there given all words_given =
    let object = there.placed.object in
    let has = law_of_rows f object there.unbounded there.few there.accepted in
    let row : IndexRow = record { offset = has.offset; entry = entry_for has.words has.table } in
    let O : PlacedObject → Type 0 = λ p. Orderly p.object in
    let S : PlacedObject → Type 0 = Stands (layout_of objects).code_end in
    let own : Orderly object = all_mid O there.front there.placed there.back (subst (All O) there.split (placed_too Orderly (firsts (layout_of objects)) objects (all_orderly objects all))) in
    record {
      has = has;
      same = words_same has.words given _ has.given words_given;
      offset = sym (text_offset (walk_over (source_of f) f.before) has.offset has.place);
      lies =
          subst (RowLies object) (get_or_from_slice_get object.rows (functions_in f.before) row row has.row)
          (All-get_or (RowLies object) object.rows (functions_in f.before) row (slice_get_within object.rows (functions_in f.before) row has.row) own.lie);
      stands = all_mid S there.front there.placed there.back (subst (All S) there.split (all_stand objects));
    }

low_address : (start offset end : ℕ) → start + offset ≤ end → end < 2 ^ 30 → (start + offset) % 2 ^ 32 ≡ start + offset
low_address start offset end h k = omega (arith, h, k)

upto : (a b c end : ℕ) → b ≤ c → a + c ≤ end → a + b ≤ end
upto a b c end h k = omega (arith, h, k)

upto_four : (a b c end : ℕ) → b + 4 ≤ c → a + c ≤ end → a + b ≤ end
upto_four a b c end h k = omega (arith, h, k)

body_is : (p : PlacedObject) (given : EntryWords) (table end : ℕ) → LiesIn p.object (entry_for given table) → p.at.extab + length p.object.extab ≤ end → end < 2 ^ 30
    → body_at p.at (entry_for given table) ≡ body_of given (p.at.extab + table)
body_is p words.CantUnwind table end lies fits low = refl
body_is p (words.Inline word) table end lies fits low = refl
body_is p (words.Table given) table end lies fits low = ap body.Table (low_address p.at.extab table end (upto_four p.at.extab table (length p.object.extab) end lies.1 fits) low)

abbrev entry_with : ℕ → EntryBody → Entry
entry_with start b = record { start = even start; body = b }

entry_same : (start other : ℕ) (b c : EntryBody) → start ≡ other → b ≡ c → entry_with start b ≡ entry_with other c
entry_same start other b c e f = ap (λ a. entry_with a b) e ∙ ap (entry_with other) f

pub entry_is : (objects : List Object) (f : Function) (placed : PlacedObject) (given : EntryWords) → (layout_of objects).code_end < 2 ^ 30 → (own : InImage objects f placed given)
    → row_as_read (row_of placed.at (record { offset = own.has.offset; entry = entry_for own.has.words own.has.table })) ≡ own_entry f placed given
entry_is objects f placed given low own =
    let end = (layout_of objects).code_end in
    let start = low_address placed.at.text own.has.offset end (upto placed.at.text own.has.offset (length placed.object.text) end own.lies.start own.stands.text_to) low in
    entry_same _ _ _ _ (start ∙ ap (λ n. placed.at.text + n) own.offset)
    (body_is placed own.has.words own.has.table end own.lies.second own.stands.extab_to low
    ∙ ap (λ g. body_of g (placed.at.extab + own.has.table)) own.same
    ∙ ap (λ t. body_of given (placed.at.extab + t)) own.has.table_place)

below_30 : (end : ℕ) → end ≤ CODE_START + MOST_MEMORY → end < 2 ^ 30
below_30 end h = omega (arith, h)

pub law_of_finding : FunctionsAreFound
law_of_finding objects name parts f there given next after site all linked_to words_given later from to =
    let image = image_read objects name parts all linked_to in
    let own = in_image objects f there given all words_given in
    let low = below_30 (layout_of objects).code_end (code_below objects (image_made objects name parts linked_to).fits) in
    let row : IndexRow = record { offset = own.has.offset; entry = entry_for own.has.words own.has.table } in
    let before = rows_before objects f there in
    let here = row_of there.placed.at row in
    let cut : rows_to_read objects ≡ before ++ here ∷ (next ∷ after) = cut_there objects f there row own.has.row ∙ ap (λ l. before ++ here ∷ l) later in
    let asc = asc_back CODE_START before here (next ∷ after) (subst (Ascending CODE_START) cut image.ascend) in
    let entry = entry_is objects f there.placed given low own in
    let F : Entry → Type 0 = λ e. e.start ≤ site in
    ap (λ l. covering l site)
    (entries_are (image_of_parts parts) (rows_to_read objects) image.read ∙ ap (map row_as_read) cut ∙ map-append row_as_read before (here ∷ (next ∷ after)))
    ∙ covering_here site (map row_as_read before) (row_as_read here) (map row_as_read (next ∷ after)) (subst F (sym entry) from) (to, above_rows site next.start after asc.1 to)
    ∙ ap Some entry

-- ---- the function's own addresses

got_dropped : {X : Type 0} (n j : ℕ) (xs : List X) (x : X) → slice_get (drop n xs) j ≡ Some x → slice_get xs (n + j) ≡ Some x
got_dropped zero j xs x e = let same : 0 + j ≡ j = omega arith in ap (slice_get xs) same ∙ e
got_dropped (suc n) j [] x e = absurd (cc)
got_dropped (suc n) j (y ∷ xs) x e = let same : suc n + j ≡ suc (n + j) = omega arith in ap (slice_get (y ∷ xs)) same ∙ got_dropped n j xs x e

after_k : (k j : ℕ) → k < k + 1 + j
after_k k j = omega arith

later_le : (k i j : ℕ) → i ≤ j → k + 1 + i ≤ k + 1 + j
later_le k i j h = omega (arith, h)

low_text : (a b end : ℕ) → a ≤ b → b ≡ end → end < 2 ^ 30 → a < 2 ^ 32
low_text a b end h e k = omega (arith, h, e, k)

-- the rows after a function's own begin at its `.fnend` or after it
later_ascend : (objects : List Object) (f : Function) (there : IsIn objects f) → All IsAssembled objects → (layout_of objects).code_end < 2 ^ 30 → Ascending (end_of f there.placed) (later_rows objects f there)
later_ascend objects f there all low =
    let placed = there.placed in
    let object = placed.object in
    let k = functions_in f.before in
    let l = layout_of objects in
    let r = rising objects in
    let own_end = (walk_over (source_of f) (f.before ++ start_at f.start_line ∷ f.between)).at.sizes.text in
    let O : PlacedObject → Type 0 = λ p. Orderly p.object in
    let own : Orderly object = all_mid O there.front placed there.back (subst (All O) there.split (placed_too Orderly (firsts l) objects (all_orderly objects all))) in
    let rest = after_placed (firsts l) objects l.text_end there.front placed there.back (all_orderly objects all) (sym (ends_of objects).text) there.split in
    let next = part_ends placed.at object in
    let text_low : l.text_end < 2 ^ 30 = omega (arith, r.rodata, r.extab, r.index, r.code, low) in
    let end = closing l.text_end ∷ [] in
    let B : List PlacedObject → Type 0 = λ back. Ascending next.text (flat_map rows_in back ++ end) in
    let others = subst B (sym rest.back_is) (asc_objects next rest.rest l.text_end rest.orderly_rest rest.ends_there (low_text l.text_end l.text_end l.text_end (omega arith) refl text_low)) in
    let offsets =
    offsets_from (drop (k + 1) object.rows) own_end
    (λ j row e. law_of_later_rows f object (k + 1 + j) row there.unbounded there.few there.accepted (after_k k j) (got_dropped (k + 1) j object.rows row e))
    (λ i j a b le e g. law_of_rising (source_of f) object (k + 1 + i) (k + 1 + j) a b there.few there.accepted (later_le k i j le) (got_dropped (k + 1) i object.rows a e) (got_dropped (k + 1) j object.rows b g)) in
    let inside = All-drop (λ (x : IndexRow). x.offset ≤ length object.text) (k + 1) object.rows (All-weaker (RowLies object) (λ (x : IndexRow). x.offset ≤ length object.text) (λ x h. h.start) object.rows own.lie) in
    let within =
    starts_inside (source_of f) (f.before ++ start_at f.start_line ∷ f.between) (end_at f.end_line ∷ f.after) object (sym (append_assoc f.before (start_at f.start_line ∷ f.between) (end_at f.end_line ∷ f.after))) there.few (taken (source_of f) object there.accepted) in
    let fits = low_text next.text _ l.text_end (end_ge Text next.text rest.rest) rest.ends_there text_low in
    subst (Ascending (end_of f placed)) (sym (append_assoc (map (row_of placed.at) (drop (k + 1) object.rows)) (flat_map rows_in there.back) end))
    (asc_rows placed.at (drop (k + 1) object.rows) own_end (length object.text) next.text (flat_map rows_in there.back ++ end) offsets inside within refl fits others)

pub law_of_addresses : AddressesHaveTheirFunction
law_of_addresses objects name parts f there given site all linked_to words_given from to =
    let image = image_read objects name parts all linked_to in
    let own = in_image objects f there given all words_given in
    let low = below_30 (layout_of objects).code_end (code_below objects (image_made objects name parts linked_to).fits) in
    let row : IndexRow = record { offset = own.has.offset; entry = entry_for own.has.words own.has.table } in
    let before = rows_before objects f there in
    let here = row_of there.placed.at row in
    let later = later_rows objects f there in
    let cut : rows_to_read objects ≡ before ++ here ∷ later = cut_there objects f there row own.has.row in
    let entry = entry_is objects f there.placed given low own in
    let F : Entry → Type 0 = λ e. e.start ≤ site in
    ap (λ l. covering l site)
    (entries_are (image_of_parts parts) (rows_to_read objects) image.read ∙ ap (map row_as_read) cut ∙ map-append row_as_read before (here ∷ later))
    ∙ covering_here site (map row_as_read before) (row_as_read here) (map row_as_read later) (subst F (sym entry) from) (above_rows site (end_of f there.placed) later (later_ascend objects f there all low) to)
    ∙ ap Some entry
