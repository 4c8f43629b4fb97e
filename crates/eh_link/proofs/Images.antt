-- What is so of the images that objects link to: each branch reaches its label, and the index has the objects' rows.
use Rattle.std.proofs.Common.{◌≡◌, ℕ, ◌+◌, ◌-◌, ◌*◌, ◌^◌, ◌≤◌, ◌<◌, Bool, true, false, cond, List, [], ◌∷◌, ◌++◌, length, drop, All, flat_map, Option, Some, None, Result, Ok, ℤ, not, nat_le, nat_lt, refl, ap, ◌∙◌, arith, length-append, length-drop}
use Rattle.std.proofs.lemmas.Bool.Decides.{nat_tests}
use Rattle.std.proofs.lemmas.List.Elements.{All-nil, All-cons, All-head, All-tail, All-append, All-map, All-weaker}
use Rattle.asm_relocatable.specs.declared.place.Section.{Section}
use Rattle.asm_relocatable.specs.declared.place.Section.TheVariants.{Text, Rodata, Extab, Init, Bss}
use Rattle.asm_relocatable.specs.declared.object.Object.{Object}
use Rattle.asm_relocatable.specs.declared.object.IndexRow.{IndexRow}
use Rattle.asm_relocatable.specs.declared.object.RowEntry.{RowEntry}
use Rattle.asm_relocatable.specs.declared.object.RowEntry.TheVariants as entry
use Rattle.asm_relocatable.specs.declared.object.Reloc.{Reloc}
use Rattle.elf_write.specs.declared.parts.ImageParts.{ImageParts}
use Rattle.eh_link.specs.declared.fault.LinkFault.{LinkFault}
use Rattle.eh_link.specs.declared.fault.LinkFault.TheVariants.{Duplicate, Undefined, NoEntry, TooLarge, RelocationRange}
use Rattle.asm_relocatable.specs.declared.relocation.FieldKind.{FieldKind}
use Rattle.asm_relocatable.specs.declared.relocation.FieldKind.TheVariants.{Absolute, Relative, Prel31, Call, Jump, CondJump}
use Rattle.eh_link.specs.declared.field.Change.TheVariants.{Keep}
use Rattle.eh_codes.specs.declared.row.Entry.{Entry}
use Rattle.eh_codes.specs.declared.row.TheConstants.{ROW_SIZE}
use Rattle.eh_link.specs.declared.names.Meaning.{Meaning}
use Rattle.eh_link.specs.declared.places.Addresses.{Addresses}
use Rattle.eh_link.specs.declared.places.TheConstants.{CODE_START, MOST_MEMORY}
use Rattle.eh_link.specs.Placed.{PlacedObject}
use Rattle.eh_link.specs.Layout.{address_at, layout_of, is_too_large, firsts, align_all, part_ends, place_objects_from, place_objects}
use Rattle.eh_link.specs.Symbols.{meaning_of, duplicate_of, first_undefined, has_entry}
use Rattle.eh_link.specs.Fields.{change_by, change_of, part_in, fill_object, unreachable_in, unreachable_for, unreachable_by, lowest_unreachable}
use Rattle.asm_relocatable.specs.Sections.{same_section}
use Rattle.asm_relocatable.specs.Relocations.{width, kind_of}
use Rattle.eh_link.specs.Index.{row_of, rows_in, body_at}
use Rattle.eh_link.specs.Linked.{unless, unless_true, link_result}
use Rattle.eh_link.specs.LayoutLaw.{StandsAt, linked_index, linked_code}
use Rattle.eh_link.specs.EquationLaw.{ImagesReach}
use Rattle.eh_codes.specs.Laws.{IsLow, IsLowBody}
use Rattle.eh_link.specs.IndexLaw.{object_rows, index_rows, IsEntryOf, IsRowOf, ImagesHaveTheirRows}
use Rattle.eh_link.proofs.Equations.{none_of}
use Rattle.eh_link.proofs.Layouts.{rising}
use Rattle.eh_link.proofs.Reading.{law_of_reading}
use Rattle.eh_link.proofs.Standing.{text_sizes, extab_sizes, code_ends, order_length, rows_length, law_of_images, law_of_code, law_of_index}

-- ---- what is past when there is an image

none_there : {A : Type 0} (value : Option A) (fault : A → LinkFault) (later : Result ImageParts LinkFault) (image : ImageParts)
    → unless value fault later ≡ Ok image → (value ≡ None) × (later ≡ Ok image)
none_there None fault later image e = (refl, e)
none_there (Some value) fault later image e = absurd cc

not_so : (holds : Bool) (fault : LinkFault) (later : Result ImageParts LinkFault) (image : ImageParts)
    → unless_true holds fault later ≡ Ok image → (holds ≡ false) × (later ≡ Ok image)
not_so true fault later image e = absurd cc
not_so false fault later image e = (refl, e)

pub record Linked (objects : List Object) : Type 0 where
  pub fits : is_too_large (layout_of objects) ≡ false
  pub reaches : lowest_unreachable (place_objects objects) (place_objects objects) ≡ None

pub image_made : (objects : List Object) (name : List ℕ) (image : ImageParts) → link_result objects name ≡ Ok image → Linked objects
unfolding link_result
image_made objects name image e =
    let single = none_there (duplicate_of objects) Duplicate _ image e in
    let defined = none_there (first_undefined objects objects) Undefined _ image single.1 in
    let enters = not_so (not (has_entry name objects)) NoEntry _ image defined.1 in
    let fits = not_so (is_too_large (layout_of objects)) TooLarge _ image enters.1 in
    let reaches = none_there (lowest_unreachable (place_objects objects) (place_objects objects)) RelocationRange _ image fits.1 in
    record { fits = fits.0; reaches = reaches.0 }

-- ---- branches

too_long : (b : Bool) (m n : ℕ) → b ≡ nat_le m n → n < m → b ≡ false
too_long true m n e h = absurd (grind (arith, nat_tests))
too_long false m n e h = refl

wide : (kind : FieldKind) → 0 < width kind
wide Absolute = omega arith
wide Relative = omega arith
wide Prel31 = omega arith
wide Call = omega arith
wide Jump = omega arith
wide CondJump = omega arith

abbrev empty : List ℕ
empty = []

no_room : (kind : Option FieldKind) (meaning : Option Meaning) (a : ℤ) (p : ℕ) (there : List ℕ) → length there ≡ 0 → change_by kind meaning a p there ≡ Keep
no_room (Some kind) (Some m) a p there e =
    let test : nat_le (width kind) (length there) ≡ false = too_long _ (width kind) (length there) refl (omega (arith, wide kind, e)) in
    rw test refl
no_room (Some kind) None a p there e = refl
no_room None (Some m) a p there e = refl
no_room None None a p there e = refl

nothing_left : (n : ℕ) → length (drop n empty) ≡ 0
nothing_left n = let e = length-drop n empty in omega (arith, e)

kept_empty : (means : List ℕ → Option Meaning) (section : Section) (start : ℕ) (r : Reloc) → change_of means section start [] r ≡ Keep
unfolding change_of
kept_empty means section start r =
    rw (no_room (kind_of r.kind) (means r.name) r.addend (address_at start r.offset) (drop r.offset []) (nothing_left r.offset)) (both (same_section r.section section))
  where
    both : (b : Bool) → cond b Keep Keep ≡ Keep
    both true = refl
    both false = refl

reached_empty : (means : List ℕ → Option Meaning) (section : Section) (start : ℕ) (relocs : List Reloc) → unreachable_in means section start [] relocs ≡ None
reached_empty means section start [] = refl
reached_empty means section start (r ∷ relocs) = rw (kept_empty means section start r) (reached_empty means section start relocs)

reached_in : (means : List ℕ → Option Meaning) (placed : PlacedObject) (section : Section) → unreachable_by means placed ≡ None → unreachable_for means placed section ≡ None
reached_in means placed Text h = (none_of _ _ (none_of _ _ h).0).0
reached_in means placed Rodata h = (none_of _ _ (none_of _ _ h).0).1
reached_in means placed Extab h = (none_of _ _ (none_of _ _ h).1).0
reached_in means placed Init h = (none_of _ _ (none_of _ _ h).1).1
reached_in means placed Bss h = reached_empty means Bss placed.at.bss placed.object.relocs

each_reaches : (all xs : List PlacedObject) (section : Section) → lowest_unreachable all xs ≡ None
    → All (λ (p : PlacedObject). unreachable_for (meaning_of all p) p section ≡ None) xs
each_reaches all [] section h = All-nil _
each_reaches all (x ∷ xs) section h =
    let two = none_of (unreachable_by (meaning_of all x) x) (lowest_unreachable all xs) h in
    All-cons (λ (p : PlacedObject). unreachable_for (meaning_of all p) p section ≡ None) x xs (reached_in (meaning_of all x) x section two.0) (each_reaches all xs section two.1)

pub law_of_reach : ImagesReach
law_of_reach objects name image section e = each_reaches (place_objects objects) (place_objects objects) section (image_made objects name image e).reaches

-- ---- rows

-- what is so of each object is so of it at its place
pub placed_too : (P : Object → Type 0) (at : Addresses) (xs : List Object) → All P xs → All (λ (p : PlacedObject). P p.object) (place_objects_from at xs)
placed_too P at [] h = All-nil _
placed_too P at (x ∷ xs) h =
    All-cons (λ (p : PlacedObject). P p.object) (record { object = x; at = align_all at }) (place_objects_from (part_ends (align_all at) x) xs) (All-head P x xs h)
    (placed_too P (part_ends (align_all at) x) xs (All-tail P x xs h))

pub both_of : (P Q : PlacedObject → Type 0) (xs : List PlacedObject) → All P xs → All Q xs → All (λ (p : PlacedObject). P p × Q p) xs
both_of P Q [] f g = All-nil _
both_of P Q (x ∷ xs) f g =
    let here : P x × Q x = (All-head P x xs f, All-head Q x xs g) in
    All-cons (λ (p : PlacedObject). P p × Q p) x xs here (both_of P Q xs (All-tail P x xs f) (All-tail Q x xs g))

pub all_rows : (P : Entry → Type 0) (xs : List PlacedObject) → All (λ (p : PlacedObject). All P (rows_in p)) xs → All P (flat_map rows_in xs)
all_rows P [] h = All-nil P
all_rows P (x ∷ xs) h =
    let each : PlacedObject → Type 0 = λ p. All P (rows_in p) in
    All-append P (rows_in x) (flat_map rows_in xs) (All-head each x xs h) (all_rows P xs (All-tail each x xs h))

-- the end of a part that stands in bytes
pub part_end : (address size start : ℕ) (part bytes : List ℕ) → StandsAt address part start bytes → length part ≡ size → address + size ≤ start + length bytes
part_end address size start part bytes s e =
    let whole : length bytes ≡ length (s.before ++ part ++ s.after) = ap length s.split in
    omega (arith, whole, e, s.place, length-append (s.before ++ part) s.after, length-append s.before part)

is_within : (b : Bool) (n : ℕ) → b ≡ nat_lt MOST_MEMORY n → b ≡ false → n ≤ MOST_MEMORY
is_within true n e f = absurd cc
is_within false n e f = grind (arith, nat_tests)

pub code_below : (objects : List Object) → is_too_large (layout_of objects) ≡ false → (layout_of objects).code_end ≤ CODE_START + MOST_MEMORY
code_below objects h =
    let l = layout_of objects in
    let all = is_within (is_too_large l) ((l.code_end - CODE_START) + (l.bss_end - l.data_start)) refl h in
    omega arith

low_entry : (object : Object) (at : Addresses) (entry : RowEntry) → at.extab + length object.extab < 2 ^ 30 → IsEntryOf object entry → IsLowBody (body_at at entry)
low_entry object at entry.CantUnwind h e = tt
low_entry object at (entry.Inline word) h e = e
low_entry object at (entry.Table offset) h e = omega (arith, h, e)

low_row : (object : Object) (at : Addresses) (row : IndexRow) → at.text + length object.text < 2 ^ 30 → at.extab + length object.extab < 2 ^ 30
    → IsRowOf object row → IsLow (row_of at row)
low_row object at row t x is = record { start = omega (arith, t, is.start); body = low_entry object at row.entry x is.second }

low_rows : (objects : List Object) → is_too_large (layout_of objects) ≡ false → All (λ (object : Object). All (IsRowOf object) object.rows) objects
    → All IsLow (object_rows (place_objects objects))
low_rows objects fits rows =
    let code = law_of_code objects in
    let below = code_below objects fits in
    let bytes = code_ends objects in
    let all = place_objects objects in
    let text_stands : PlacedObject → Type 0 = λ p. StandsAt p.at.text (part_in Text (fill_object all p)) CODE_START (linked_code objects) in
    let extab_stands : PlacedObject → Type 0 = λ p. StandsAt p.at.extab (part_in Extab (fill_object all p)) CODE_START (linked_code objects) in
    let has_rows : PlacedObject → Type 0 = λ p. All (IsRowOf p.object) p.object.rows in
    let stand = both_of (λ (p : PlacedObject). text_stands p × extab_stands p) has_rows all (both_of text_stands extab_stands all code.0 code.2)
    (placed_too (λ (object : Object). All (IsRowOf object) object.rows) (firsts (layout_of objects)) objects rows) in
    all_rows IsLow all
    (All-weaker (λ (p : PlacedObject). (text_stands p × extab_stands p) × has_rows p) (λ (p : PlacedObject). All IsLow (rows_in p)) (λ p h.
    let text = part_end p.at.text (length p.object.text) CODE_START (part_in Text (fill_object all p)) (linked_code objects) h.0.0 (text_sizes all p) in
    let extab = part_end p.at.extab (length p.object.extab) CODE_START (part_in Extab (fill_object all p)) (linked_code objects) h.0.1 (extab_sizes all p) in
    All-map IsLow (row_of p.at) p.object.rows
    (All-weaker (IsRowOf p.object) (λ (row : IndexRow). IsLow (row_of p.at row)) (λ row is. low_row p.object p.at row (omega arith) (omega arith) is) p.object.rows h.1)) all stand)

pub law_of_image_rows : ImagesHaveTheirRows
law_of_image_rows objects name image e rows =
    let made = image_made objects name image e in
    let low = low_rows objects made.fits rows in
    let l = layout_of objects in
    let r = rising objects in
    let below = code_below objects made.fits in
    let place : image.index.0 ≡ l.index_start = ap (λ (i : ℕ × ℕ). i.0) (law_of_images objects name image e).1 in
    let end = (law_of_index objects).1 in
    let size : length (linked_index objects) ≡ ROW_SIZE * (length (object_rows (place_objects objects)) + 1) =
    rows_length l.text_end l.index_start (index_rows (place_objects objects)) ∙ ap (λ n. ROW_SIZE * (n + 1)) (order_length (object_rows (place_objects objects))) in
    rw place
    (law_of_reading (place_objects objects) l.text_end l.index_start low
    (omega (arith, r.rodata, r.extab, r.index, r.code, below)) (omega (arith, end, size, below)))
