-- What stands in a part of an object stands in the image, at the part's address and as many bytes further on.
use Rattle.std.proofs.Common.{◌≡◌, ℕ, zero, suc, ◌+◌, ◌*◌, ◌≤◌, ◌<◌, ◌==◌, nat_lt, false, cond, List, [], ◌∷◌, ◌++◌, length, drop, get_or, Some, Ok, refl, sym, ap, ◌∙◌, arith, append_assoc, length-append, subst}
use Rattle.std.proofs.lemmas.Bool.Decides.{nat_tests}
use Rattle.std.proofs.lemmas.List.{get_or-drop}
use Rattle.byteorder.specs.Endian.{little_from}
use Rattle.eh_word.specs.Words.{number_at}
use Rattle.asm_relocatable.specs.declared.place.Section.{Section}
use Rattle.asm_relocatable.specs.declared.place.Section.TheVariants.{Text, Rodata, Extab, Init, Bss}
use Rattle.asm_relocatable.specs.declared.object.Object.{Object}
use Rattle.elf_write.specs.declared.parts.ImageParts.{ImageParts}
use Rattle.eh_link.specs.declared.places.TheConstants.{CODE_START, MOST_MEMORY}
use Rattle.eh_link.specs.Placed.{PlacedObject}
use Rattle.eh_link.specs.Layout.{layout_of, code_size, data_size, address_in, place_objects}
use Rattle.eh_link.specs.Fields.{part_in, fill_object}
use Rattle.eh_link.specs.Linked.{code_segment, data_segment, link_result}
use Rattle.eh_link.specs.LayoutLaw.{StandsAt, linked_code, linked_data}
use Rattle.eh_link.proofs.Images.{image_made}
use Rattle.eh_link.proofs.Layouts.{rising}
use Rattle.eh_link.proofs.Standing.{code_ends, law_of_images, law_of_sizes}
use Rattle.eh_link.proofs.Words.{Reads, number_is, number_reads, reads_after}
use Rattle.link_laws.specs.MeaningLaw.{IsOneOf}
use Rattle.link_laws.specs.LabelLaw.{Has}
use Rattle.link_laws.specs.JoinedLaw.{NumberAt}
use Rattle.link_laws.proofs.Labels.{begins_at}

-- ---- numbers in longer bytes

from_same : (i n : ℕ) (xs ys : List ℕ) → ((k : ℕ) → i ≤ k → k < i + n → get_or xs k 0 ≡ get_or ys k 0) → little_from i n xs ≡ little_from i n ys
from_same i zero xs ys h = refl
from_same i (suc n) xs ys h =
    let here = h i (omega arith) (omega arith) in
    let rest = from_same (suc i) n xs ys (λ k a b. h k (omega arith) (omega arith)) in
    ap (λ b. b + 256 * little_from (suc i) n xs) here ∙ ap (λ b. get_or ys i 0 + 256 * b) rest

left_part : (xs ys : List ℕ) (i : ℕ) → i < length xs → get_or (xs ++ ys) i 0 ≡ get_or xs i 0
left_part [] ys i h = absurd (omega (arith, h))
left_part (x ∷ xs) ys zero h = refl
left_part (x ∷ xs) ys (suc i) h = left_part xs ys i (omega (arith, h))

reads_front : (n k w : ℕ) (part after : List ℕ) → Reads n part k w → Reads n (part ++ after) k w
reads_front n k w part after r = record {
  inside = omega (arith, r.inside, length-append part after);
  is =
      from_same 0 n (drop k (part ++ after)) (drop k part)
      (λ j a b. get_or-drop k (part ++ after) j 0 ∙ left_part part after (k + j) (omega (arith, b, r.inside)) ∙ sym (get_or-drop k part j 0))
      ∙ r.is;
}

-- ---- a part in bytes that begin at an address

record InBytes (n address w start : ℕ) (bytes : List ℕ) : Type 0 where
  offset : ℕ
  place : address ≡ start + offset
  reads : number_at n bytes offset ≡ Some w

in_bytes : (n k w address start : ℕ) (part bytes : List ℕ) → StandsAt address part start bytes → number_at n part k ≡ Some w → InBytes n (address + k) w start bytes
in_bytes n k w address start part bytes stands h =
    let far = reads_after n (length stands.before) k (length stands.before + k) w stands.before (part ++ stands.after) refl refl
    (reads_front n k w part stands.after (number_reads n part k w h)) in
    let P : List ℕ → Type 0 = λ l. Reads n l (length stands.before + k) w in
    record {
      offset = length stands.before + k;
      place = omega (arith, stands.place);
      reads = number_is n bytes (length stands.before + k) w (subst P (sym (stands.split ∙ append_assoc stands.before part stands.after)) far);
    }

-- ---- the segments

code_there : (objects : List Object) (entry : List ℕ) (image : ImageParts) → link_result objects entry ≡ Ok image → Has image.segments (code_segment (layout_of objects) (linked_code objects))
code_there objects entry image e = record { before = []; after = _; split = (law_of_images objects entry image e).0 }

data_there : (objects : List Object) (entry : List ℕ) (image : ImageParts) → link_result objects entry ≡ Ok image → 0 < data_size (layout_of objects)
    → Has image.segments (data_segment (layout_of objects) (linked_data objects))
data_there objects entry image e some = record {
  before = code_segment (layout_of objects) (linked_code objects) ∷ [];
  after = [];
  split =
      (law_of_images objects entry image e).0
      ∙ ap (λ b. code_segment (layout_of objects) (linked_code objects) ∷ cond b [] (data_segment (layout_of objects) (linked_data objects) ∷ [])) (not_none (data_size (layout_of objects)) some);
}
  where
    not_none : (n : ℕ) → 0 < n → (n == 0) ≡ false
    not_none n h = grind (arith, nat_tests)

-- in the first segment
in_code : (objects : List Object) (entry : List ℕ) (image : ImageParts) (n address k w : ℕ) (part : List ℕ) → link_result objects entry ≡ Ok image
    → StandsAt address part CODE_START (linked_code objects) → number_at n part k ≡ Some w → NumberAt n image (address + k) w
in_code objects entry image n address k w part e stands h =
    let there = in_bytes n k w address CODE_START part (linked_code objects) stands h in
    record {
      segment = code_segment (layout_of objects) (linked_code objects);
      there = code_there objects entry image e;
      offset = there.offset;
      place = there.place;
      reads = there.reads;
    }

-- in the second one
in_data : (objects : List Object) (entry : List ℕ) (image : ImageParts) (n address k w : ℕ) (part : List ℕ) → link_result objects entry ≡ Ok image → 0 < n
    → StandsAt address part (layout_of objects).data_start (linked_data objects) → number_at n part k ≡ Some w → NumberAt n image (address + k) w
in_data objects entry image n address k w part e some stands h =
    let there = in_bytes n k w address (layout_of objects).data_start part (linked_data objects) stands h in
    let inside = (number_reads n (linked_data objects) there.offset w there.reads).inside in
    record {
      segment = data_segment (layout_of objects) (linked_data objects);
      there = data_there objects entry image e (omega (arith, some, inside, (law_of_sizes objects).1));
      offset = there.offset;
      place = there.place;
      reads = there.reads;
    }

-- a number in an object's part of a section
pub in_image : (s : Section) (objects : List Object) (entry : List ℕ) (image : ImageParts) (placed : PlacedObject) (one : IsOneOf objects placed) (n k w : ℕ) → link_result objects entry ≡ Ok image → 0 < n
    → number_at n (part_in s (fill_object (place_objects objects) placed)) k ≡ Some w → NumberAt n image (address_in s placed.at + k) w
in_image Text objects entry image placed one n k w e some h =
    in_code objects entry image n placed.at.text k w (part_in Text (fill_object (place_objects objects) placed)) e (begins_at Text objects placed one) h
in_image Rodata objects entry image placed one n k w e some h =
    in_code objects entry image n placed.at.rodata k w (part_in Rodata (fill_object (place_objects objects) placed)) e (begins_at Rodata objects placed one) h
in_image Extab objects entry image placed one n k w e some h =
    in_code objects entry image n placed.at.extab k w (part_in Extab (fill_object (place_objects objects) placed)) e (begins_at Extab objects placed one) h
in_image Init objects entry image placed one n k w e some h =
    in_data objects entry image n placed.at.init k w (part_in Init (fill_object (place_objects objects) placed)) e some (begins_at Init objects placed one) h
in_image Bss objects entry image placed one n k w e some h =
    let inside = (number_reads n [] k w h).inside in
    absurd (omega (arith, some, inside))

-- ---- addresses are words

below_all : (address start : ℕ) (part bytes : List ℕ) → StandsAt address part start bytes → address + length part ≤ start + length bytes
below_all address start part bytes stands =
    omega (arith, stands.place, ap length stands.split, length-append (stands.before ++ part) stands.after, length-append stands.before part)

pub address_small : (s : Section) (objects : List Object) (entry : List ℕ) (image : ImageParts) (placed : PlacedObject) (one : IsOneOf objects placed) → link_result objects entry ≡ Ok image
    → address_in s placed.at + length (part_in s (fill_object (place_objects objects) placed)) ≤ 0x400000
address_small s objects entry image placed one e = by s
  where
    fits : code_size (layout_of objects) + data_size (layout_of objects) ≤ MOST_MEMORY
    fits = not_above _ (image_made objects entry image e).fits
      where
        not_above : (n : ℕ) → nat_lt MOST_MEMORY n ≡ false → n ≤ MOST_MEMORY
        not_above n h = grind (arith, nat_tests)

    code : CODE_START + length (linked_code objects) ≤ 0x400000
    code = omega (arith, fits, code_ends objects)

    data_end : (layout_of objects).data_start + length (linked_data objects) ≤ 0x400000
    data_end = omega (arith, fits, (law_of_sizes objects).1, (rising objects).page, (rising objects).code, (rising objects).index, (rising objects).extab, (rising objects).rodata, (rising objects).text)

    by : (s : Section) → address_in s placed.at + length (part_in s (fill_object (place_objects objects) placed)) ≤ 0x400000
    by Text = omega (arith, code, below_all placed.at.text CODE_START (part_in Text (fill_object (place_objects objects) placed)) (linked_code objects) (begins_at Text objects placed one))
    by Rodata = omega (arith, code, below_all placed.at.rodata CODE_START (part_in Rodata (fill_object (place_objects objects) placed)) (linked_code objects) (begins_at Rodata objects placed one))
    by Extab = omega (arith, code, below_all placed.at.extab CODE_START (part_in Extab (fill_object (place_objects objects) placed)) (linked_code objects) (begins_at Extab objects placed one))
    by Init =
        omega (arith, data_end, below_all placed.at.init (layout_of objects).data_start (part_in Init (fill_object (place_objects objects) placed)) (linked_data objects) (begins_at Init objects placed one))
    by Bss =
        let room = begins_at Bss objects placed one in
        omega (arith, fits, room.within, (rising objects).page, (rising objects).code, (rising objects).index, (rising objects).extab, (rising objects).rodata, (rising objects).text)
