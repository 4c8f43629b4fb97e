-- The segments of the file: those of the parts, in rising order.
use Rattle.std.proofs.Common.{◌≡◌, ℕ, ◌+◌, ◌-◌, ◌/◌, ◌%◌, ◌==◌, Bool, true, false, not, cond, List, [], ◌∷◌, ◌++◌, length, drop, map, filter, fold, Ordering, Less, Equal, Greater, refl, sym, ap, ◌∙◌, arith, append_assoc}
use Rattle.std.specs.Ordering.{nat_cmp, match_ordering}
use Rattle.std.specs.BTreeMap.{insert_entry}
use Rattle.std.specs.Map.{values_of}
use Rattle.elf_image.specs.Segments.{Segment, is_load, segment_of, segments_of, by_address}
use Rattle.elf_image.specs.declared.format.ProgramHeader.{ProgramHeader}
use Rattle.elf_write.specs.Layout.{align_to_word, bit, padding, contents}
use Rattle.elf_write.specs.Parts.{own_segment, has_memory, with_segment, segments_of_parts}
use Rattle.elf_write.specs.declared.parts.OwnSegment.{OwnSegment}
use Rattle.elf_write.proofs.Layouts.{length_zeros}
use Rattle.elf_write.proofs.Pieces.{after, piece_is}
use Rattle.elf_write.proofs.Programs.{header_of, headers_of}

-- ---- one segment

write_back : (w e : Bool) → ((4 + bit w 2 + bit e 1) / 2 % 2 == 1) ≡ w
write_back true true = refl
write_back true false = refl
write_back false true = refl
write_back false false = refl

exec_back : (w e : Bool) → ((4 + bit w 2 + bit e 1) % 2 == 1) ≡ e
exec_back true true = refl
exec_back true false = refl
exec_back false true = refl
exec_back false false = refl

same_segment : (x y : Segment) → x.start ≡ y.start → x.bytes ≡ y.bytes → x.size ≡ y.size → x.write ≡ y.write → x.exec ≡ y.exec → x ≡ y
same_segment x y a b c d e = rw (sym a, sym b, sym c, sym d, sym e) refl

segment_back : (bytes rest : List ℕ) (at : ℕ) (s : OwnSegment) → drop (align_to_word at) bytes ≡ s.bytes ++ rest → segment_of bytes (header_of at s) ≡ own_segment s
unfolding segment_of
segment_back bytes rest at s h =
    same_segment (segment_of bytes (header_of at s)) (own_segment s) refl (piece_is (align_to_word at) bytes s.bytes rest h) refl (write_back s.write s.exec) (exec_back s.write s.exec)

-- ---- their order

abbrev read_as : List ℕ → ℕ × ProgramHeader → ℕ × Segment
read_as bytes e = (e.0, segment_of bytes e.1)

map_ordering : (bytes : List ℕ) (o : Ordering) (a b c : List (ℕ × ProgramHeader))
    → map (read_as bytes) (match_ordering o a b c) ≡ match_ordering o (map (read_as bytes) a) (map (read_as bytes) b) (map (read_as bytes) c)
map_ordering bytes Less a b c = refl
map_ordering bytes Equal a b c = refl
map_ordering bytes Greater a b c = refl

map_insert : (bytes : List ℕ) (es : List (ℕ × ProgramHeader)) (k : ℕ) (h : ProgramHeader)
    → map (read_as bytes) (insert_entry nat_cmp es k h) ≡ insert_entry nat_cmp (map (read_as bytes) es) k (segment_of bytes h)
map_insert bytes [] k h = refl
map_insert bytes (e ∷ es) k h = map_ordering bytes (nat_cmp k e.0) _ _ _ ∙ rw (map_insert bytes es k h)

abbrev with_header : List (ℕ × ProgramHeader) → ProgramHeader → List (ℕ × ProgramHeader)
with_header entries h = insert_entry nat_cmp entries h.address h

order_step : (bytes : List ℕ) (b : Bool) (h : ProgramHeader) (s : OwnSegment) (hs : List ProgramHeader) (xs : List OwnSegment) (es : List (ℕ × ProgramHeader)) → segment_of bytes h ≡ own_segment s
    → h.address ≡ s.start
    → ((fs : List (ℕ × ProgramHeader)) → map (read_as bytes) (fold with_header fs hs) ≡ fold with_segment (map (read_as bytes) fs) xs)
    → map (read_as bytes) (fold with_header es (cond b (h ∷ hs) hs)) ≡ fold with_segment (map (read_as bytes) es) (cond b (s ∷ xs) xs)
order_step bytes true h s hs xs es same at more =
    more (with_header es h) ∙ ap (λ (fs : List (ℕ × Segment)). fold with_segment fs xs)
    (map_insert bytes es h.address h ∙ rw (same, at) refl)
order_step bytes false h s hs xs es same at more = more es

order_back : (bytes rest : List ℕ) (at : ℕ) (xs : List OwnSegment) (es : List (ℕ × ProgramHeader)) → drop at bytes ≡ contents at xs ++ rest
    → map (read_as bytes) (fold with_header es (filter is_load (headers_of at xs))) ≡ fold with_segment (map (read_as bytes) es) (filter has_memory xs)
order_back bytes rest at [] es h = refl
order_back bytes rest at (s ∷ xs) es h =
    let next = align_to_word at + length s.bytes in
    let more = contents next xs in
    let whole : drop at bytes ≡ padding at ++ (s.bytes ++ (more ++ rest)) =
    h ∙ append_assoc (padding at ++ s.bytes) more rest ∙ append_assoc (padding at) s.bytes (more ++ rest) in
    let own : drop (align_to_word at) bytes ≡ s.bytes ++ (more ++ rest) =
    after at (align_to_word at) bytes (padding at) (s.bytes ++ (more ++ rest)) whole (omega (arith, length_zeros (align_to_word at - at))) in
    let later : drop next bytes ≡ more ++ rest = after (align_to_word at) next bytes s.bytes (more ++ rest) own refl in
    order_step bytes (not (s.size == 0)) (header_of at s) s (filter is_load (headers_of next xs)) (filter has_memory xs) es (segment_back bytes (more ++ rest) at s own) refl
    (λ fs. order_back bytes rest next xs fs later)

values_map : (bytes : List ℕ) (es : List (ℕ × ProgramHeader)) → map (λ (e : ℕ × ProgramHeader). segment_of bytes e.1) es ≡ values_of (map (read_as bytes) es)
values_map bytes [] = refl
values_map bytes (e ∷ es) = ap (λ (xs : List Segment). segment_of bytes e.1 ∷ xs) (values_map bytes es)

pub loads_back : (bytes rest : List ℕ) (at : ℕ) (xs : List OwnSegment) → drop at bytes ≡ contents at xs ++ rest → segments_of bytes (filter is_load (headers_of at xs)) ≡ segments_of_parts xs
unfolding segments_of segments_of_parts
loads_back bytes rest at xs h =
    values_map bytes (by_address (filter is_load (headers_of at xs))) ∙ ap (λ (es : List (ℕ × Segment)). values_of es) (order_back bytes rest at xs [] h)
