-- Where the parts of joined bytes stand, and how many bytes there are.
use Rattle.std.proofs.Common.{◌≡◌, ℕ, ◌+◌, ◌-◌, ◌*◌, ◌/◌, Bool, true, false, cond, nat_lt, List, [], ◌∷◌, ◌++◌, map, fold, length, All, sum_by, flat_map, Option, Some, None, Result, Ok, not, refl, sym, ap, subst, ◌∙◌, arith, append_assoc, length-append}
use Rattle.std.proofs.lemmas.List.{append-nil, length-map}
use Rattle.std.proofs.lemmas.List.Sums.{sum_by-cons}
use Rattle.std.proofs.lemmas.List.Elements.{All-nil, All-cons}
use Rattle.elf_write.specs.Layout.{word}
use Rattle.eh_word.specs.Bytes.{zeros, length-zeros, gap}
use Rattle.asm_relocatable.specs.declared.place.Section.{Section}
use Rattle.asm_relocatable.specs.declared.place.Section.TheVariants.{Text, Rodata, Extab, Init, Bss}
use Rattle.asm_relocatable.specs.declared.object.Object.{Object}
use Rattle.eh_link.specs.declared.places.Addresses.{Addresses}
use Rattle.elf_write.specs.declared.parts.ImageParts.{ImageParts}
use Rattle.eh_link.specs.declared.fault.LinkFault.{LinkFault}
use Rattle.eh_link.specs.declared.fault.LinkFault.TheVariants.{Duplicate, Undefined, NoEntry, TooLarge, RelocationRange}
use Rattle.eh_link.specs.declared.fill.FilledSections.{FilledSections}
use Rattle.eh_codes.specs.declared.row.Entry.{Entry}
use Rattle.eh_codes.specs.declared.row.TheConstants.{ROW_SIZE}
use Rattle.eh_codes.specs.Rows.{rows_bytes}
use Rattle.eh_codes.proofs.RowBytes.{length-rows}
use Rattle.eh_link.specs.declared.places.TheConstants.{CODE_START, PAGE}
use Rattle.eh_link.specs.Placed.{PlacedObject}
use Rattle.eh_link.specs.Layout.{size_in, address_in, end_of, index_size, layout_of, is_too_large, firsts, align_all, part_ends, place_objects_from, place_objects, address_at, align_to_word}
use Rattle.asm_relocatable.specs.Fields.{bytes_at}
use Rattle.eh_link.specs.Fields.{part_in, fill_section, fill_object, lowest_unreachable}
use Rattle.eh_link.specs.Symbols.{meaning_of, duplicate_of, first_undefined, has_entry}
use Rattle.eh_link.specs.Index.{row_of, rows_in, row_among, in_order, closing, index_of}
use Rattle.eh_link.specs.Linked.{join_aligned, segments_of, parts_of, unless, unless_true, link_result}
use Rattle.eh_link.specs.LayoutLaw.{ImagesHaveTheseBytes, fill_all_objects, linked_index, linked_code, linked_data, StandsAt, EachStands, SizesAreOfBytes, CodeStands, IndexStands, DataStands}
use Rattle.eh_link.proofs.Holding.{filled_length, word_length}
use Rattle.eh_link.proofs.Layouts.{ends_of, end_ge}
use Rattle.eh_link.proofs.Steps.{joined_append}

-- ---- joined bytes

-- the zeros before the next part
zeros_before : List ℕ → List ℕ
zeros_before so_far = zeros (gap (length so_far) 4)

zeros_before-is : (so_far : List ℕ) → zeros_before so_far ≡ zeros (gap (length so_far) 4)
unfolding zeros_before
zeros_before-is so_far = refl

zeros_before-length : (k : ℕ) (so_far : List ℕ) → 4 * k + length (so_far ++ zeros_before so_far) ≡ align_to_word (4 * k + length so_far)
zeros_before-length k so_far =
    let all = length-append so_far (zeros_before so_far) in
    let zeros_there : length (zeros_before so_far) ≡ gap (length so_far) 4 = ap length (zeros_before-is so_far) ∙ length-zeros (gap (length so_far) 4) in
    omega (arith, all, zeros_there)

joined_one : (so_far part : List ℕ) (more : List (List ℕ)) → join_aligned so_far (part ∷ more) ≡ join_aligned ((so_far ++ zeros_before so_far) ++ part) more
joined_one so_far part more = rw (zeros_before-is so_far) refl

-- what is joined begins with what was there
record Begins (so_far bytes : List ℕ) : Type 0 where
  rest : List ℕ
  is : bytes ≡ so_far ++ rest

begins : (so_far : List ℕ) (parts : List (List ℕ)) → Begins so_far (join_aligned so_far parts)
begins so_far [] = record { rest = []; is = sym (append-nil so_far) }
begins so_far (part ∷ more) =
    let next = begins ((so_far ++ zeros_before so_far) ++ part) more in
    record {
      rest = zeros_before so_far ++ (part ++ next.rest);
      is = joined_one so_far part more ∙ next.is ∙ append_assoc (so_far ++ zeros_before so_far) part next.rest ∙ append_assoc so_far (zeros_before so_far) (part ++ next.rest);
    }

first_stands : (k address : ℕ) (so_far part : List ℕ) (more : List (List ℕ)) → address ≡ align_to_word (4 * k + length so_far)
    → StandsAt address part (4 * k) (join_aligned so_far (part ∷ more))
first_stands k address so_far part more e =
    let next = begins ((so_far ++ zeros_before so_far) ++ part) more in
    record {
      before = so_far ++ zeros_before so_far;
      after = next.rest;
      split = joined_one so_far part more ∙ next.is;
      place = e ∙ sym (zeros_before-length k so_far);
    }

-- ---- the parts of a section

aligned_in : (section : Section) (at : Addresses) → address_in section (align_all at) ≡ align_to_word (address_in section at)
aligned_in Text at = refl
aligned_in Rodata at = refl
aligned_in Extab at = refl
aligned_in Init at = refl
aligned_in Bss at = refl

ends_in : (section : Section) (at : Addresses) (x : Object) → address_in section (part_ends at x) ≡ address_in section at + size_in section x
ends_in Text at x = refl
ends_in Rodata at x = refl
ends_in Extab at x = refl
ends_in Init at x = refl
ends_in Bss at x = refl

-- the parts have the sizes of the objects' parts
abbrev pub Sizes : Section → (PlacedObject → FilledSections) → Type 0
Sizes section f = (p : PlacedObject) → length (part_in section (f p)) ≡ size_in section p.object

parts : Section → (PlacedObject → FilledSections) → List PlacedObject → List (List ℕ)
parts section f all = map (part_in section) (map f all)

parts_is : (section : Section) (f : PlacedObject → FilledSections) (all : List PlacedObject) → parts section f all ≡ map (part_in section) (map f all)
unfolding parts
parts_is section f all = refl

parts_cons : (section : Section) (f : PlacedObject → FilledSections) (p : PlacedObject) (all : List PlacedObject) → parts section f (p ∷ all) ≡ part_in section (f p) ∷ parts section f all
unfolding parts
parts_cons section f p all = refl

parts_nil : (section : Section) (f : PlacedObject → FilledSections) → parts section f [] ≡ []
unfolding parts
parts_nil section f = refl

next_end : (k : ℕ) (section : Section) (f : PlacedObject → FilledSections) → Sizes section f → (at : Addresses) (x : Object) (so_far : List ℕ)
    → 4 * k + length so_far ≡ address_in section at
    → 4 * k + length ((so_far ++ zeros_before so_far) ++ part_in section (f (record { object = x; at = align_all at }))) ≡ address_in section (part_ends (align_all at) x)
next_end k section f sizes at x so_far e =
    let p : PlacedObject = record { object = x; at = align_all at } in
    let size : length (part_in section (f p)) ≡ size_in section x = sizes p in
    let whole = length-append (so_far ++ zeros_before so_far) (part_in section (f p)) in
    let put = zeros_before-length k so_far in
    let start : align_to_word (4 * k + length so_far) ≡ address_in section (align_all at) = ap align_to_word e ∙ sym (aligned_in section at) in
    omega (arith, size, whole, put, start, ends_in section (align_all at) x)

end_at : (k : ℕ) (section : Section) (f : PlacedObject → FilledSections) → Sizes section f → (at : Addresses) (xs : List Object) (so_far : List ℕ)
    → 4 * k + length so_far ≡ address_in section at
    → 4 * k + length (join_aligned so_far (parts section f (place_objects_from at xs))) ≡ end_of section (address_in section at) xs
end_at k section f sizes at [] so_far e = ap (λ l. 4 * k + length (join_aligned so_far l)) (parts_nil section f) ∙ e
end_at k section f sizes at (x ∷ xs) so_far e =
    let p : PlacedObject = record { object = x; at = align_all at } in
    ap (λ l. 4 * k + length (join_aligned so_far l)) (parts_cons section f p (place_objects_from (part_ends (align_all at) x) xs))
    ∙ ap (λ l. 4 * k + length l) (joined_one so_far (part_in section (f p)) (parts section f (place_objects_from (part_ends (align_all at) x) xs)))
    ∙ end_at k section f sizes (part_ends (align_all at) x) xs ((so_far ++ zeros_before so_far) ++ part_in section (f p)) (next_end k section f sizes at x so_far e)
    ∙ ap (λ a. end_of section a xs) (ends_in section (align_all at) x ∙ ap (λ a. a + size_in section x) (aligned_in section at))

abbrev Stand : ℕ → Section → (PlacedObject → FilledSections) → List ℕ → List PlacedObject → Type 0
Stand start section f bytes all = All (λ (p : PlacedObject). StandsAt (address_in section p.at) (part_in section (f p)) start bytes) all

each_stands : (k : ℕ) (section : Section) (f : PlacedObject → FilledSections) → Sizes section f → (at : Addresses) (xs : List Object) (so_far : List ℕ) (more : List (List ℕ))
    → 4 * k + length so_far ≡ address_in section at
    → Stand (4 * k) section f (join_aligned so_far (parts section f (place_objects_from at xs) ++ more)) (place_objects_from at xs)
each_stands k section f sizes at [] so_far more e = All-nil _
each_stands k section f sizes at (x ∷ xs) so_far more e =
    let p : PlacedObject = record { object = x; at = align_all at } in
    let all = place_objects_from (part_ends (align_all at) x) xs in
    let part = part_in section (f p) in
    let here : parts section f (p ∷ all) ++ more ≡ part ∷ (parts section f all ++ more) = ap (λ l. l ++ more) (parts_cons section f p all) in
    let whole : join_aligned so_far (parts section f (p ∷ all) ++ more) ≡ join_aligned so_far (part ∷ (parts section f all ++ more)) = ap (join_aligned so_far) here in
    let first : StandsAt (address_in section p.at) part (4 * k) (join_aligned so_far (part ∷ (parts section f all ++ more))) =
    first_stands k (address_in section p.at) so_far part (parts section f all ++ more) (aligned_in section at ∙ ap align_to_word (sym e)) in
    let rest : Stand (4 * k) section f (join_aligned ((so_far ++ zeros_before so_far) ++ part) (parts section f all ++ more)) all =
    each_stands k section f sizes (part_ends (align_all at) x) xs ((so_far ++ zeros_before so_far) ++ part) more (next_end k section f sizes at x so_far e) in
    All-cons (λ (p : PlacedObject). StandsAt (address_in section p.at) (part_in section (f p)) (4 * k) (join_aligned so_far (parts section f (place_objects_from at (x ∷ xs)) ++ more)))
    p all (subst (StandsAt (address_in section p.at) part (4 * k)) (sym whole) first)
    (subst (λ bytes. Stand (4 * k) section f bytes all) (sym (whole ∙ joined_one so_far part (parts section f all ++ more))) rest)

-- ---- the sizes of the objects' parts

filled_sizes : (all : List PlacedObject) (section : Section) → ((p : PlacedObject) → size_in section p.object ≡ length (bytes_at section p.object)) → ((p : PlacedObject) → part_in section (fill_object all p) ≡ fill_section (meaning_of all p) p section)
    → Sizes section (fill_object all)
filled_sizes all section size part p =
    ap length (part p)
    ∙ filled_length (meaning_of all p) section (address_in section p.at) (bytes_at section p.object) p.object.relocs
    ∙ sym (size p)

pub text_sizes : (all : List PlacedObject) → Sizes Text (fill_object all)
text_sizes all = filled_sizes all Text (λ p. refl) (λ p. refl)

rodata_sizes : (all : List PlacedObject) → Sizes Rodata (fill_object all)
rodata_sizes all = filled_sizes all Rodata (λ p. refl) (λ p. refl)

pub extab_sizes : (all : List PlacedObject) → Sizes Extab (fill_object all)
extab_sizes all = filled_sizes all Extab (λ p. refl) (λ p. refl)

init_sizes : (all : List PlacedObject) → Sizes Init (fill_object all)
init_sizes all = filled_sizes all Init (λ p. refl) (λ p. refl)

-- ---- the size of the index

among_length : (rows : List Entry) (row : Entry) → length (row_among rows row) ≡ length rows + 1
among_length [] row = refl
among_length (first ∷ more) row = by_test (nat_lt row.start first.start) (among_length more row)
  where
    by_test : (b : Bool) → length (row_among more row) ≡ length more + 1 → length (cond b (row ∷ first ∷ more) (first ∷ row_among more row)) ≡ length (first ∷ more) + 1
    by_test true e = omega arith
    by_test false e = omega (arith, e)

fold_length : (sorted rows : List Entry) → length (fold row_among sorted rows) ≡ length sorted + length rows
fold_length sorted [] = omega arith
fold_length sorted (row ∷ rows) = omega (arith, fold_length (row_among sorted row) rows, among_length sorted row)

pub order_length : (rows : List Entry) → length (in_order rows) ≡ length rows
unfolding in_order
order_length rows = fold_length [] rows ∙ omega arith

-- with the row that closes it
pub rows_length : (end place : ℕ) (rows : List Entry) → length (rows_bytes place (rows ++ closing end ∷ [])) ≡ ROW_SIZE * (length rows + 1)
rows_length end place rows = length-rows place (rows ++ closing end ∷ []) ∙ omega (arith, length-append rows (closing end ∷ []))

rows_of_placed : (at : Addresses) (xs : List Object) → length (flat_map rows_in (place_objects_from at xs)) ≡ sum_by (λ (object : Object). length object.rows) xs
rows_of_placed at [] = refl
rows_of_placed at (x ∷ xs) =
    let p : PlacedObject = record { object = x; at = align_all at } in
    let all = place_objects_from (part_ends (align_all at) x) xs in
    let one : length (rows_in p) ≡ length x.rows = length-map x.rows (row_of p.at) in
    length-append (rows_in p) (flat_map rows_in all)
    ∙ omega (arith, one, rows_of_placed (part_ends (align_all at) x) xs, sum_by-cons (λ (object : Object). length object.rows) x xs)

index_length : (end start : ℕ) (at : Addresses) (xs : List Object) → length (index_of end start (place_objects_from at xs)) ≡ index_size xs
index_length end start at xs =
    rows_length end start (in_order (flat_map rows_in (place_objects_from at xs)))
    ∙ omega (arith, order_length (flat_map rows_in (place_objects_from at xs)), rows_of_placed at xs)

-- ---- the first segment

-- its bytes up to the end of each section
texts : List Object → List ℕ
texts objects = join_aligned [] (parts Text (fill_object (place_objects objects)) (place_objects objects))

rodatas : List Object → List ℕ
rodatas objects = join_aligned (texts objects) (parts Rodata (fill_object (place_objects objects)) (place_objects objects))

extabs : List Object → List ℕ
extabs objects = join_aligned (rodatas objects) (parts Extab (fill_object (place_objects objects)) (place_objects objects))

texts_end : (objects : List Object) → 4 * (CODE_START / 4) + length (texts objects) ≡ (layout_of objects).text_end
unfolding texts
texts_end objects =
    end_at (CODE_START / 4) Text (fill_object (place_objects objects)) (text_sizes (place_objects objects)) (firsts (layout_of objects)) objects [] refl
    ∙ sym (ends_of objects).text

rodatas_end : (objects : List Object) → 4 * (CODE_START / 4) + length (rodatas objects) ≡ (layout_of objects).rodata_end
unfolding rodatas
rodatas_end objects =
    end_at (CODE_START / 4) Rodata (fill_object (place_objects objects)) (rodata_sizes (place_objects objects)) (firsts (layout_of objects)) objects (texts objects) (texts_end objects)
    ∙ sym (ends_of objects).rodata

extabs_end : (objects : List Object) → 4 * (CODE_START / 4) + length (extabs objects) ≡ (layout_of objects).extab_end
unfolding extabs
extabs_end objects =
    end_at (CODE_START / 4) Extab (fill_object (place_objects objects)) (extab_sizes (place_objects objects)) (firsts (layout_of objects)) objects (rodatas objects) (rodatas_end objects)
    ∙ sym (ends_of objects).extab

code_is : (objects : List Object)
    → linked_code objects
    ≡ join_aligned [] (parts Text (fill_object (place_objects objects)) (place_objects objects)
    ++ parts Rodata (fill_object (place_objects objects)) (place_objects objects)
    ++ parts Extab (fill_object (place_objects objects)) (place_objects objects)
    ++ linked_index objects ∷ [])
unfolding parts
code_is objects = refl

code_from_start : (objects : List Object)
    → linked_code objects
    ≡ join_aligned [] (parts Text (fill_object (place_objects objects)) (place_objects objects)
    ++ (parts Rodata (fill_object (place_objects objects)) (place_objects objects)
    ++ (parts Extab (fill_object (place_objects objects)) (place_objects objects) ++ linked_index objects ∷ [])))
code_from_start objects =
    let text = parts Text (fill_object (place_objects objects)) (place_objects objects) in
    let rodata = parts Rodata (fill_object (place_objects objects)) (place_objects objects) in
    let extab = parts Extab (fill_object (place_objects objects)) (place_objects objects) in
    code_is objects ∙ ap (join_aligned []) (append_assoc (text ++ rodata) extab (linked_index objects ∷ []) ∙ append_assoc text rodata (extab ++ linked_index objects ∷ []))

code_from_texts : (objects : List Object)
    → linked_code objects
    ≡ join_aligned (texts objects) (parts Rodata (fill_object (place_objects objects)) (place_objects objects)
    ++ (parts Extab (fill_object (place_objects objects)) (place_objects objects) ++ linked_index objects ∷ []))
unfolding texts
code_from_texts objects = code_from_start objects ∙ joined_append [] (parts Text (fill_object (place_objects objects)) (place_objects objects)) _

code_from_rodatas : (objects : List Object)
    → linked_code objects ≡ join_aligned (rodatas objects) (parts Extab (fill_object (place_objects objects)) (place_objects objects) ++ linked_index objects ∷ [])
unfolding rodatas
code_from_rodatas objects = code_from_texts objects ∙ joined_append (texts objects) (parts Rodata (fill_object (place_objects objects)) (place_objects objects)) _

code_from_extabs : (objects : List Object) → linked_code objects ≡ join_aligned (extabs objects) (linked_index objects ∷ [])
unfolding extabs
code_from_extabs objects = code_from_rodatas objects ∙ joined_append (rodatas objects) (parts Extab (fill_object (place_objects objects)) (place_objects objects)) _

pub code_ends : (objects : List Object) → CODE_START + length (linked_code objects) ≡ (layout_of objects).code_end
code_ends objects =
    let e = ends_of objects in
    let whole : length (linked_code objects) ≡ length ((extabs objects ++ zeros_before (extabs objects)) ++ linked_index objects) =
    ap length (code_from_extabs objects ∙ joined_one (extabs objects) (linked_index objects) []) in
    let split = length-append (extabs objects ++ zeros_before (extabs objects)) (linked_index objects) in
    let put = zeros_before-length (CODE_START / 4) (extabs objects) in
    let start : align_to_word (4 * (CODE_START / 4) + length (extabs objects)) ≡ (layout_of objects).index_start = ap align_to_word (extabs_end objects) ∙ sym e.index in
    let size : length (linked_index objects) ≡ index_size objects =
    index_length (layout_of objects).text_end (layout_of objects).index_start (firsts (layout_of objects)) objects in
    omega (arith, whole, split, put, start, size, e.code)

index_there : (objects : List Object) → StandsAt (layout_of objects).index_start (linked_index objects) CODE_START (linked_code objects)
index_there objects =
    subst (StandsAt (layout_of objects).index_start (linked_index objects) CODE_START) (sym (code_from_extabs objects))
    (first_stands (CODE_START / 4) (layout_of objects).index_start (extabs objects) (linked_index objects) []
    ((ends_of objects).index ∙ ap align_to_word (sym (extabs_end objects))))

pub law_of_index : IndexStands
law_of_index objects = (
  index_there objects,
  (ends_of objects).code
      ∙ ap (λ n. (layout_of objects).index_start + n)
      (sym (index_length (layout_of objects).text_end (layout_of objects).index_start (firsts (layout_of objects)) objects)),
)

texts_stand : (objects : List Object) → EachStands Text objects CODE_START (linked_code objects)
texts_stand objects =
    subst (λ bytes. Stand CODE_START Text (fill_object (place_objects objects)) bytes (place_objects objects)) (sym (code_from_start objects))
    (each_stands (CODE_START / 4) Text (fill_object (place_objects objects)) (text_sizes (place_objects objects)) (firsts (layout_of objects)) objects [] _ refl)

rodatas_stand : (objects : List Object) → EachStands Rodata objects CODE_START (linked_code objects)
rodatas_stand objects =
    subst (λ bytes. Stand CODE_START Rodata (fill_object (place_objects objects)) bytes (place_objects objects)) (sym (code_from_texts objects))
    (each_stands (CODE_START / 4) Rodata (fill_object (place_objects objects)) (rodata_sizes (place_objects objects)) (firsts (layout_of objects)) objects (texts objects) _
    (texts_end objects))

extabs_stand : (objects : List Object) → EachStands Extab objects CODE_START (linked_code objects)
extabs_stand objects =
    subst (λ bytes. Stand CODE_START Extab (fill_object (place_objects objects)) bytes (place_objects objects)) (sym (code_from_rodatas objects))
    (each_stands (CODE_START / 4) Extab (fill_object (place_objects objects)) (extab_sizes (place_objects objects)) (firsts (layout_of objects)) objects (rodatas objects) _
    (rodatas_end objects))

pub law_of_code : CodeStands
law_of_code objects = (texts_stand objects, rodatas_stand objects, extabs_stand objects)

-- ---- the second segment

-- a multiple of 4
quarter : List Object → ℕ
quarter objects = ((layout_of objects).code_end + (PAGE - 1)) / PAGE * (PAGE / 4)

start_is : (objects : List Object) → 4 * quarter objects ≡ (layout_of objects).data_start
unfolding quarter
start_is objects = omega (arith, (ends_of objects).start)

data_is : (objects : List Object) → linked_data objects ≡ join_aligned [] (parts Init (fill_object (place_objects objects)) (place_objects objects))
unfolding parts
data_is objects = refl

data_begins : (objects : List Object) → 4 * quarter objects + 0 ≡ (layout_of objects).data_start
data_begins objects = omega (arith, start_is objects)

data_end : (objects : List Object) → (layout_of objects).data_start + length (linked_data objects) ≡ (layout_of objects).init_end
data_end objects =
    ap (λ n. n + length (linked_data objects)) (sym (start_is objects))
    ∙ ap (λ bytes. 4 * quarter objects + length bytes) (data_is objects)
    ∙ end_at (quarter objects) Init (fill_object (place_objects objects)) (init_sizes (place_objects objects)) (firsts (layout_of objects)) objects [] (data_begins objects)
    ∙ sym (ends_of objects).init

pub law_of_data : DataStands
law_of_data objects =
    subst (λ start. Stand start Init (fill_object (place_objects objects)) (linked_data objects) (place_objects objects)) (start_is objects)
    (subst (λ bytes. Stand (4 * quarter objects) Init (fill_object (place_objects objects)) bytes (place_objects objects))
    (ap (join_aligned []) (append-nil (parts Init (fill_object (place_objects objects)) (place_objects objects))) ∙ sym (data_is objects))
    (each_stands (quarter objects) Init (fill_object (place_objects objects)) (init_sizes (place_objects objects)) (firsts (layout_of objects)) objects [] [] (data_begins objects)))

pub law_of_sizes : SizesAreOfBytes
law_of_sizes objects = (
  omega (arith, code_ends objects),
  omega (arith, data_end objects, (ends_of objects).bss, end_ge Bss (layout_of objects).init_end objects),
)

-- ---- the image

past : {A : Type 0} (value : Option A) (fault : A → LinkFault) (later : Result ImageParts LinkFault) (image : ImageParts) → unless value fault later ≡ Ok image → later ≡ Ok image
past None fault later image e = e
past (Some value) fault later image e = absurd cc

past_true : (holds : Bool) (fault : LinkFault) (later : Result ImageParts LinkFault) (image : ImageParts) → unless_true holds fault later ≡ Ok image → later ≡ Ok image
past_true true fault later image e = absurd cc
past_true false fault later image e = e

image_is : (objects : List Object) (entry : List ℕ) (image : ImageParts) → link_result objects entry ≡ Ok image → image ≡ parts_of objects entry
unfolding link_result
image_is objects entry image e =
    let named = past (first_undefined objects objects) Undefined _ image (past (duplicate_of objects) Duplicate _ image e) in
    let laid = past_true (is_too_large (layout_of objects)) TooLarge _ image (past_true (not (has_entry entry objects)) NoEntry _ image named) in
    let made : Ok (parts_of objects entry) ≡ Ok image = past (lowest_unreachable (place_objects objects) (place_objects objects)) RelocationRange _ image laid in
    cc

segments_are : (objects : List Object) (entry : List ℕ) → (parts_of objects entry).segments ≡ segments_of (layout_of objects) (fill_all_objects objects) (linked_index objects)
unfolding parts_of
segments_are objects entry = refl

index_named : (objects : List Object) (entry : List ℕ)
    → (parts_of objects entry).index ≡ ((layout_of objects).index_start, (layout_of objects).code_end - (layout_of objects).index_start)
unfolding parts_of
index_named objects entry = refl

pub law_of_images : ImagesHaveTheseBytes
law_of_images objects entry image e =
    let is = image_is objects entry image e in
    let size : (layout_of objects).code_end - (layout_of objects).index_start ≡ length (linked_index objects) = omega (arith, (law_of_index objects).1) in (
      ap (λ (i : ImageParts). i.segments) is ∙ segments_are objects entry,
      ap (λ (i : ImageParts). i.index) is ∙ index_named objects entry ∙ rw size refl,
    )
