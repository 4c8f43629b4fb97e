-- What is known of an image that is accepted: every test passed, and its segments are the headers to load in rising order.
use Rattle.std.proofs.Common.{◌≡◌, ℕ, ◌<◌, Bool, true, false, List, [], ◌∷◌, ◌++◌, map, fold, Option, Some, None, is_some, Ok, refl, sym, ◌∙◌, ap, subst, append_assoc, append-nil, arith}
use Rattle.std.proofs.lemmas.Bool.{false≢true}
use Rattle.std.proofs.lemmas.List.Elements.{All-head, All-tail}
use Rattle.std.proofs.lemmas.List.Sorted.{IsPermutation-refl, IsPermutation-trans, IsPermutation-map, IsPermutation-cons, IsPermutation-to_front}
use Rattle.std.specs.List.{list_any, All}
use Rattle.std.specs.List.Sorted.{IsPermutation}
use Rattle.std.specs.Map.{values_of}
use Rattle.std.specs.Ordering.{nat_cmp}
use Rattle.std.specs.BTreeMap.{insert_entry}
use Rattle.elf_image.specs.Format.{first_of, fault_when, entry_field, program_headers}
use Rattle.elf_image.specs.Header.{header_refusal, table_refusal}
use Rattle.elf_image.specs.Segments.{Segment, bytes_refusal, is_out_of_range, some_overlap, overlap, segment_refusal, by_address, segment_of, segments_of, RiseFrom}
use Rattle.elf_image.specs.Sorted.{Hold}
use Rattle.elf_image.specs.Symbols.{tables_refusal, symbol_count}
use Rattle.elf_image.specs.Index.{index_refusal, index_of}
use Rattle.elf_image.specs.Image.{Image, refusal_of, image_of, unless_refused, image_with, size_refusal, count_refusal, entry_refusal, file_loads, file_indexes, file_segments, file_tables, file_table, file_symbols, file_functions}
use Rattle.elf_image.specs.declared.fault.ImageFault.{ImageFault}
use Rattle.elf_image.specs.declared.fault.ImageFault.TheVariants.{SegmentRange, SegmentOverlap}
use Rattle.elf_image.specs.declared.format.ProgramHeader.{ProgramHeader}
use Rattle.elf_image.proofs.Entries.{at_key, insert_permutes, Rising, rising_insert, sorted_from_rising}
use Rattle.elf_image.proofs.Overlaps.{hold_none, hold_more, twice_any, overlap_push, overlap_kept, sorted_overlap}
use Rattle.elf_image.proofs.Reading.{have_memory, map_values, sorted_rise}

-- ---- the tests

none_more : (o : Option ImageFault) (more : List (Option ImageFault)) → first_of (o ∷ more) ≡ None → (o ≡ None) × (first_of more ≡ None)
none_more None more h = (refl, h)
none_more (Some fault) more h = absurd cc

unless_ok : (o : Option ImageFault) (x y : Image) → unless_refused o x ≡ Ok y → (o ≡ None) × (y ≡ x)
unless_ok None x y h = (refl, cc)
unless_ok (Some fault) x y h = absurd cc

pub record Accepted (bytes : List ℕ) (image : Image) : Type 0 where
  pub image_is : image ≡ image_with (entry_field bytes) (file_segments bytes) (index_of (file_indexes bytes) (file_segments bytes)) (file_symbols bytes)
  pub loaded : segment_refusal bytes (file_loads bytes) ≡ None
  pub indexed : index_refusal (file_indexes bytes) (file_segments bytes) ≡ None
  pub sizes : size_refusal (file_segments bytes) (symbol_count (file_table bytes)) ≡ None
  pub count : count_refusal (file_functions bytes) ≡ None
  pub entry : entry_refusal (entry_field bytes) (file_functions bytes) ≡ None

pub accepted_from : (bytes : List ℕ) (image : Image) → image_of bytes ≡ Ok image → Accepted bytes image
unfolding image_of refusal_of
accepted_from bytes image h =
    let last = entry_refusal (entry_field bytes) (file_functions bytes) ∷ [] in
    let tests7 = count_refusal (file_functions bytes) ∷ last in
    let tests6 = size_refusal (file_segments bytes) (symbol_count (file_table bytes)) ∷ tests7 in
    let tests5 = tables_refusal bytes (file_tables bytes) ∷ tests6 in
    let tests4 = index_refusal (file_indexes bytes) (file_segments bytes) ∷ tests5 in
    let tests3 = segment_refusal bytes (file_loads bytes) ∷ tests4 in
    let tests2 = table_refusal bytes ∷ tests3 in
    let all = unless_ok (first_of (header_refusal bytes ∷ tests2)) (image_with (entry_field bytes) (file_segments bytes) (index_of (file_indexes bytes) (file_segments bytes)) (file_symbols bytes)) image h in
    let p1 = none_more (header_refusal bytes) tests2 all.0 in
    let p2 = none_more (table_refusal bytes) tests3 p1.1 in
    let p3 = none_more (segment_refusal bytes (file_loads bytes)) tests4 p2.1 in
    let p4 = none_more (index_refusal (file_indexes bytes) (file_segments bytes)) tests5 p3.1 in
    let p5 = none_more (tables_refusal bytes (file_tables bytes)) tests6 p4.1 in
    let p6 = none_more (size_refusal (file_segments bytes) (symbol_count (file_table bytes))) tests7 p5.1 in
    let p7 = none_more (count_refusal (file_functions bytes)) last p6.1 in
    let p8 = none_more (entry_refusal (entry_field bytes) (file_functions bytes)) [] p7.1 in
    record { image_is = all.1; loaded = p3.0; indexed = p4.0; sizes = p6.0; count = p7.0; entry = p8.0 }

-- ---- headers that don't overlap, put in order

none_passes : (t : Bool) (fault : ImageFault) → fault_when t fault ≡ None → t ≡ false
none_passes true fault h = absurd cc
none_passes false fault h = refl

pub record Apart (bytes : List ℕ) (headers : List ProgramHeader) : Type 0 where
  pub inside : list_any is_out_of_range headers ≡ false
  pub apart : some_overlap headers ≡ false

apart_from : (bytes : List ℕ) (headers : List ProgramHeader) → segment_refusal bytes headers ≡ None → Apart bytes headers
unfolding segment_refusal
apart_from bytes headers h =
    let p = none_more (bytes_refusal bytes headers) (fault_when (list_any is_out_of_range headers) SegmentRange ∷ fault_when (some_overlap headers) SegmentOverlap ∷ []) h in
    let q = none_more (fault_when (list_any is_out_of_range headers) SegmentRange) (fault_when (some_overlap headers) SegmentOverlap ∷ []) p.1 in
    let r = none_more (fault_when (some_overlap headers) SegmentOverlap) [] q.1 in
    record { inside = none_passes _ SegmentRange q.0; apart = none_passes _ SegmentOverlap r.0 }

-- what the entries hold, seen so far
record Held (entries : List (ℕ × ProgramHeader)) (seen : List ProgramHeader) : Type 0 where
  pub hold : Hold entries seen
  pub rising : Rising 0 entries
  pub permuted : IsPermutation seen (values_of entries)

not_there : (o : Option ProgramHeader) → (is_some o ≡ true → ⊥) → o ≡ None
not_there None h = refl
not_there (Some x) h = absurd (h refl)

absent : (es : List (ℕ × ProgramHeader)) (seen rest : List ProgramHeader) (v : ProgramHeader) → Hold es seen → 0 < v.memory_size → some_overlap (seen ++ v ∷ rest) ≡ false
    → at_key v.address es ≡ None
absent es seen rest v h some apart =
    not_there (at_key v.address es) (λ found.
    let before : list_any (overlap v) seen ≡ true = sym (h.same (overlap v)) ∙ twice_any es v h.keyed some found in
    let now : some_overlap (seen ++ v ∷ []) ≡ true = overlap_push seen v ∙ rw before refl in
    let all : some_overlap ((seen ++ v ∷ []) ++ rest) ≡ true = overlap_kept (seen ++ v ∷ []) rest now in
    false≢true (sym apart ∙ sym (ap some_overlap (append_assoc seen (v ∷ []) rest)) ∙ all))

held_step : (es : List (ℕ × ProgramHeader)) (seen rest : List ProgramHeader) (v : ProgramHeader) → Held es seen → 0 < v.memory_size → some_overlap (seen ++ v ∷ rest) ≡ false
    → Held (insert_entry nat_cmp es v.address v) (seen ++ v ∷ [])
held_step es seen rest v h some apart =
    let none = absent es seen rest v h.hold some apart in
    record {
      hold = hold_more es seen v h.hold some none;
      rising = rising_insert 0 es v.address v (omega arith) h.rising;
      permuted = IsPermutation-trans (seen ++ v ∷ []) (v ∷ seen) (values_of (insert_entry nat_cmp es v.address v)) (IsPermutation-to_front seen v)
          (IsPermutation-trans (v ∷ seen) (v ∷ values_of es) (values_of (insert_entry nat_cmp es v.address v)) (IsPermutation-cons v seen (values_of es) h.permuted)
          (insert_permutes es v.address v none));
    }

held_all : (es : List (ℕ × ProgramHeader)) (seen rest : List ProgramHeader) → Held es seen → All (λ h. 0 < h.memory_size) rest → some_overlap (seen ++ rest) ≡ false
    → Held (fold (λ entries (h : ProgramHeader). insert_entry nat_cmp entries h.address h) es rest) (seen ++ rest)
held_all es seen [] h all apart = subst (λ (xs : List ProgramHeader). Held es xs) (sym (append-nil seen)) h
held_all es seen (v ∷ rest) h all apart =
    let some = All-head (λ (x : ProgramHeader). 0 < x.memory_size) v rest all in
    let step = held_step es seen rest v h some apart in
    let same = append_assoc seen (v ∷ []) rest in
    subst (λ (xs : List ProgramHeader). Held (fold (λ entries (h : ProgramHeader). insert_entry nat_cmp entries h.address h) (insert_entry nat_cmp es v.address v) rest) xs) same
    (held_all (insert_entry nat_cmp es v.address v) (seen ++ v ∷ []) rest step (All-tail (λ (x : ProgramHeader). 0 < x.memory_size) v rest all) (ap some_overlap same ∙ apart))

held : (bytes : List ℕ) (headers : List ProgramHeader) → Apart bytes headers → All (λ h. 0 < h.memory_size) headers → Held (by_address headers) headers
held bytes headers apart all = held_all [] [] headers (record { hold = hold_none; rising = tt; permuted = IsPermutation-refl [] }) all apart.apart

-- ---- the segments

pub record AreLoaded (bytes : List ℕ) : Type 0 where
  pub rise : RiseFrom 0 (file_segments bytes)
  pub permuted : IsPermutation (map (segment_of bytes) (file_loads bytes)) (file_segments bytes)

pub loaded_from : (bytes : List ℕ) → segment_refusal bytes (file_loads bytes) ≡ None → AreLoaded bytes
unfolding segments_of
loaded_from bytes h =
    let loads = file_loads bytes in
    let apart = apart_from bytes loads h in
    let all = held bytes loads apart (have_memory (program_headers bytes)) in
    let flat = sorted_overlap (by_address loads) loads all.hold (sorted_from_rising 0 (by_address loads) all.rising) in
    record {
      rise = sorted_rise bytes loads (values_of (by_address loads)) (file_segments bytes) all.hold apart.inside refl (sym flat ∙ apart.apart) refl;
      permuted = subst (λ (xs : List Segment). IsPermutation (map (segment_of bytes) loads) xs) (map_values (segment_of bytes) (by_address loads))
          (IsPermutation-map (segment_of bytes) loads (values_of (by_address loads)) all.permuted);
    }

pub segments_as : (bytes : List ℕ) (image : Image) → Accepted bytes image → image.segments ≡ file_segments bytes
unfolding image_with
segments_as bytes image k = ap (λ (i : Image). i.segments) k.image_is

pub loads_law : (bytes : List ℕ) (image : Image) → image_of bytes ≡ Ok image → IsPermutation (map (segment_of bytes) (file_loads bytes)) image.segments
loads_law bytes image h =
    let k = accepted_from bytes image h in
    rw (segments_as bytes image k) (loaded_from bytes k.loaded).permuted
