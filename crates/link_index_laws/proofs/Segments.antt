-- The segments and the index of the image that objects link to.
use Rattle.std.proofs.Common.{◌≡◌, ℕ, ◌+◌, ◌-◌, ◌%◌, ◌≤◌, ◌<◌, ◌==◌, not, nat_le, Bool, true, false, cond, List, [], ◌∷◌, ◌++◌, length, take, drop, fold, find, Some, Ok, refl, ap, ◌∙◌, arith, append_assoc}
use Rattle.std.specs.Map.{values_of}
use Rattle.std.proofs.lemmas.Bool.Decides.{nat_tests}
use Rattle.std.proofs.lemmas.List.{take-append-le}
use Rattle.std.proofs.Math.Seq.{drop-append_seam}
use Rattle.asm_relocatable.specs.declared.object.Object.{Object}
use Rattle.elf_image.specs.Segments.{Segment}
use Rattle.elf_image.specs.Image.{Image}
use Rattle.elf_image.proofs.Entries.{cmp_greater}
use Rattle.elf_write.specs.Parts.{own_segment, has_memory, with_segment, segments_of_parts, holds_range, range_in, index_of_parts, image_of_parts}
use Rattle.elf_write.specs.declared.parts.ImageParts.{ImageParts}
use Rattle.elf_write.specs.declared.parts.OwnSegment.{OwnSegment}
use Rattle.eh_link.specs.declared.places.TheConstants.{CODE_START}
use Rattle.eh_link.specs.Layout.{layout_of, code_size, data_size}
use Rattle.eh_link.specs.Linked.{code_segment, data_segment, link_result}
use Rattle.eh_link.specs.LayoutLaw.{StandsAt, linked_index, linked_code, linked_data}
use Rattle.eh_link.proofs.Layouts.{rising, ends_of}
use Rattle.eh_link.proofs.Standing.{law_of_images, law_of_index, code_ends}

-- ---- the segments

abbrev no_segments : List OwnSegment
no_segments = []

abbrev pub code_of : List Object → OwnSegment
code_of objects = code_segment (layout_of objects) (linked_code objects)

some_memory : (n : ℕ) → 0 < n → not (n == 0) ≡ true
some_memory n h = by (n == 0) refl
  where
    by : (b : Bool) → b ≡ (n == 0) → not b ≡ true
    by true e = absurd (grind (arith, nat_tests))
    by false e = refl

second_kept : (first second : OwnSegment) → has_memory first ≡ true → has_memory second ≡ true → first.start < second.start
    → segments_of_parts (first ∷ second ∷ []) ≡ own_segment first ∷ own_segment second ∷ []
unfolding segments_of_parts
second_kept first second m n h =
    ap (λ b. values_of (fold with_segment [] (cond b (first ∷ cond (has_memory second) (second ∷ []) []) (cond (has_memory second) (second ∷ []) [])))) m
    ∙ ap (λ b. values_of (fold with_segment [] (first ∷ cond b (second ∷ []) []))) n
    ∙ rw (cmp_greater second.start first.start h) refl

first_kept : (first : OwnSegment) → has_memory first ≡ true → segments_of_parts (first ∷ []) ≡ own_segment first ∷ []
unfolding segments_of_parts
first_kept first m = ap (λ b. values_of (fold with_segment [] (cond b (first ∷ []) []))) m

-- the first segment of the image has the code
pub record CodeFirst (objects : List Object) (parts : ImageParts) : Type 0 where
  pub more : List Segment
  pub segments : segments_of_parts parts.segments ≡ own_segment (code_of objects) ∷ more

code_memory : (objects : List Object) → has_memory (code_of objects) ≡ true
code_memory objects =
    let r = rising objects in
    let e = ends_of objects in
    some_memory (code_size (layout_of objects)) (omega (arith, r.text, r.rodata, r.extab, r.index, e.code))

pub code_first : (objects : List Object) (name : List ℕ) (parts : ImageParts) → link_result objects name ≡ Ok parts → CodeFirst objects parts
code_first objects name parts e = by (data_size (layout_of objects) == 0) refl (law_of_images objects name parts e).0
  where
    apart : CODE_START < (layout_of objects).data_start
    apart =
        let r = rising objects in
        let e = ends_of objects in
        omega (arith, r.text, r.rodata, r.extab, r.index, r.start, e.code)

    by : (none : Bool) → (data_size (layout_of objects) == 0) ≡ none
        → parts.segments ≡ code_of objects ∷ cond (data_size (layout_of objects) == 0) no_segments (data_segment (layout_of objects) (linked_data objects) ∷ []) → CodeFirst objects parts
    by true n is = record {
      more = [];
      segments = ap segments_of_parts (is ∙ ap (λ b. code_of objects ∷ cond b no_segments (data_segment (layout_of objects) (linked_data objects) ∷ [])) n) ∙ first_kept (code_of objects) (code_memory objects);
    }
    by false n is = record {
      more = own_segment (data_segment (layout_of objects) (linked_data objects)) ∷ [];
      segments =
          ap segments_of_parts (is ∙ ap (λ b. code_of objects ∷ cond b no_segments (data_segment (layout_of objects) (linked_data objects) ∷ [])) n)
          ∙ second_kept (code_of objects) (data_segment (layout_of objects) (linked_data objects)) (code_memory objects) (ap not n) apart;
    }

-- ---- the index

take_front : (xs ys : List ℕ) → take (length xs) (xs ++ ys) ≡ xs
take_front xs ys = take-append-le (length xs) xs ys (le_self (length xs)) ∙ take_all xs
  where
    le_self : (n : ℕ) → n ≤ n
    le_self n = omega arith

    take_all : (xs : List ℕ) → take (length xs) xs ≡ xs
    take_all [] = refl
    take_all (x ∷ xs) = ap (λ l. x ∷ l) (take_all xs)

-- a part that stands at the end of bytes is the range at its place
range_there : (address start : ℕ) (part bytes : List ℕ) → StandsAt address part start bytes → take (length part) (drop (address - start) bytes) ≡ part
range_there address start part bytes s =
    let place : address - start ≡ length s.before = omega (arith, s.place) in
    ap (λ b. take (length part) (drop (address - start) b)) (s.split ∙ append_assoc s.before part s.after)
    ∙ ap (λ n. take (length part) (drop n (s.before ++ (part ++ s.after)))) place
    ∙ ap (take (length part)) (drop-append_seam s.before (part ++ s.after))
    ∙ take_front part s.after

pub record IndexIs (objects : List Object) (image : Image) : Type 0 where
  pub start : image.index_start ≡ (layout_of objects).index_start
  pub bytes : image.index_bytes ≡ linked_index objects

holds_there : (start size : ℕ) (s : Segment) → s.write ≡ false → nat_le s.start start ≡ true → nat_le (start + size) (s.start + length s.bytes) ≡ true → (start % 4 == 0) ≡ true
    → holds_range start size s ≡ true
holds_there start size s w l h a = simp (w, l, h, a)

found_first : (p : Segment → Bool) (s : Segment) (more : List Segment) → p s ≡ true → find p (s ∷ more) ≡ Some s
found_first p s more h = ap (λ b. cond b (Some s) (find p more)) h

le_is : (m n : ℕ) → m ≤ n → nat_le m n ≡ true
le_is m n h = grind (arith, nat_tests)

zero_is : (n : ℕ) → n ≡ 0 → (n == 0) ≡ true
zero_is n h = grind (arith, nat_tests)

image_index : (parts : ImageParts) → ((image_of_parts parts).index_start ≡ (index_of_parts parts (segments_of_parts parts.segments)).0)
    × ((image_of_parts parts).index_bytes ≡ (index_of_parts parts (segments_of_parts parts.segments)).1)
unfolding image_of_parts
image_index parts = (refl, refl)

pub image_segments : (parts : ImageParts) → (image_of_parts parts).segments ≡ segments_of_parts parts.segments
unfolding image_of_parts
image_segments parts = refl

index_there : (parts : ImageParts) (segments : List Segment) (start : ℕ) (bytes : List ℕ) (s : Segment) (more : List Segment) → parts.index ≡ (start, length bytes) → 0 < length bytes
    → segments ≡ s ∷ more → holds_range start (length bytes) s ≡ true → take (length bytes) (drop (start - s.start) s.bytes) ≡ bytes
    → index_of_parts parts segments ≡ (start, bytes)
unfolding index_of_parts
index_there parts segments start bytes s more is some all holds range =
    ap (λ (i : ℕ × ℕ). cond (not (i.1 == 0)) (i.0, range_in i.0 i.1 (find (holds_range i.0 i.1) segments)) (0, [])) is
    ∙ ap (λ b. cond b (start, range_in start (length bytes) (find (holds_range start (length bytes)) segments)) (0, [])) (some_memory (length bytes) some)
    ∙ ap (λ l. (start, range_in start (length bytes) (find (holds_range start (length bytes)) l))) all
    ∙ ap (λ o. (start, range_in start (length bytes) o)) (found_first (holds_range start (length bytes)) s more holds)
    ∙ ap (λ b. (start, b)) range

pub index_is : (objects : List Object) (name : List ℕ) (parts : ImageParts) → link_result objects name ≡ Ok parts → IndexIs objects (image_of_parts parts)
index_is objects name parts e =
    let first = code_first objects name parts e in
    let l = layout_of objects in
    let r = rising objects in
    let ends = ends_of objects in
    let stands = law_of_index objects in
    let code = code_ends objects in
    let four : l.index_start % 4 ≡ 0 = omega (arith, ends.index) in
    let low : CODE_START ≤ l.index_start = omega (arith, r.text, r.rodata, r.extab, r.index) in
    let within : l.index_start + length (linked_index objects) ≤ CODE_START + length (linked_code objects) = omega (arith, stands.1, code) in
    let some : 0 < length (linked_index objects) = omega (arith, stands.1, ends.code) in
    let there =
    index_there parts (segments_of_parts parts.segments) l.index_start (linked_index objects) (own_segment (code_of objects)) first.more (law_of_images objects name parts e).1 some first.segments
    (holds_there l.index_start (length (linked_index objects)) (own_segment (code_of objects)) refl (le_is _ _ low) (le_is _ _ within) (zero_is _ four))
    (range_there l.index_start CODE_START (linked_index objects) (linked_code objects) stands.0) in
    record {
      start = (image_index parts).0 ∙ ap (λ (i : ℕ × List ℕ). i.0) there;
      bytes = (image_index parts).1 ∙ ap (λ (i : ℕ × List ℕ). i.1) there;
    }
