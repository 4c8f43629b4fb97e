-- Segments of parts that stand one above the other are those of the image.
use Rattle.std.proofs.Common.{◌≡◌, ℕ, ◌+◌, ◌<◌, ◌≤◌, ◌&&◌, ◌||◌, Bool, true, false, not, nat_eq, nat_lt, List, [], ◌∷◌, ◌++◌, length, map, filter, fold, refl, sym, ap, ◌∙◌, arith, max}
use Rattle.std.specs.Prelude.{sum_by}
use Rattle.std.specs.List.{list_any}
use Rattle.std.specs.Map.{values_of}
use Rattle.std.proofs.lemmas.Bool.Decides.{nat_tests}
use Rattle.elf_image.specs.Segments.{Segment, segment_end, RiseFrom}
use Rattle.elf_image.specs.declared.limits.TheConstants.{ADDRESS_LIMIT}
use Rattle.elf_write.specs.Parts.{own_segment, has_memory, with_segment, segments_of_parts, SegmentsFit}
use Rattle.elf_write.specs.declared.parts.OwnSegment.{OwnSegment}
use Rattle.elf_laws.specs.Good.{is_out_of_range, meet, some_meet}
use Rattle.gnu_rewrite_laws.proofs.Placing.{KeysFrom, keys_lower, put_all, values_keyed}

-- each begins at the end of the one before it, or above, and has memory for its bytes
abbrev pub Stacked : ℕ → List OwnSegment → Type 0
Stacked low [] = Unit {0}
Stacked low (s ∷ more) = (low ≤ s.start) × (0 < s.size) × (length s.bytes ≤ s.size) × Stacked (s.start + s.size) more

some_memory : (n : ℕ) → 0 < n → not (nat_eq n 0) ≡ true
some_memory n h = grind (arith, nat_tests)

lt_isnt : (a b : ℕ) → b ≤ a → nat_lt a b ≡ false
lt_isnt a b h = grind (arith, nat_tests)

lt_wasnt : (a b : ℕ) → nat_lt a b ≡ false → b ≤ a
lt_wasnt a b h = grind (arith, nat_tests)

either_false : (a b : Bool) → (a || b) ≡ false → (a ≡ false) × (b ≡ false)
either_false true b h = absurd cc
either_false false b h = (refl, h)

and_false : (a b : Bool) → b ≡ false → (a && b) ≡ false
and_false true b h = h
and_false false b h = refl

-- ---- the image's

pub all_kept : (low : ℕ) (xs : List OwnSegment) → Stacked low xs → filter has_memory xs ≡ xs
all_kept low [] h = refl
all_kept low (s ∷ xs) h = rw (some_memory s.size h.1) (ap (λ (l : List OwnSegment). s ∷ l) (all_kept (s.start + s.size) xs h.3))

starts_rise : (low : ℕ) (xs : List OwnSegment) → Stacked low xs → KeysFrom (λ (s : OwnSegment). s.start) low xs
starts_rise low [] h = tt
starts_rise low (s ∷ xs) h =
    (h.0, keys_lower (λ (x : OwnSegment). x.start) (s.start + 1) (s.start + s.size) xs (omega (arith, h.1)) (starts_rise (s.start + s.size) xs h.3))

map_same : (xs : List OwnSegment) → map (λ (s : OwnSegment). s) xs ≡ xs
map_same [] = refl
map_same (s ∷ xs) = ap (λ (l : List OwnSegment). s ∷ l) (map_same xs)

pub segments_are : (xs : List OwnSegment) → Stacked 0 xs → segments_of_parts xs ≡ map own_segment xs
unfolding segments_of_parts
segments_are xs h =
    ap (λ (l : List OwnSegment). values_of (fold with_segment [] l)) (all_kept 0 xs h ∙ sym (map_same xs))
    ∙ ap values_of (put_all (λ (s : OwnSegment). s.start) own_segment (λ (s : OwnSegment). s) with_segment (λ es x b. refl) 0 [] xs tt (starts_rise 0 xs h))
    ∙ values_keyed (λ (s : OwnSegment). s.start) own_segment xs

-- ---- limits

pub words_fit : (xs : List OwnSegment) → list_any (λ s. nat_lt ADDRESS_LIMIT (s.start + s.size)) xs ≡ false → SegmentsFit xs
words_fit [] h = tt
words_fit (s ∷ xs) h =
    let both = either_false (nat_lt ADDRESS_LIMIT (s.start + s.size)) (list_any (λ s. nat_lt ADDRESS_LIMIT (s.start + s.size)) xs) h in
    let low = lt_wasnt ADDRESS_LIMIT (s.start + s.size) both.0 in
    (omega (arith, low), omega (arith, low), words_fit xs both.1)

pub none_out : (low : ℕ) (xs : List OwnSegment) → Stacked low xs → list_any (λ s. nat_lt ADDRESS_LIMIT (s.start + s.size)) xs ≡ false → list_any is_out_of_range xs ≡ false
none_out low [] k h = refl
none_out low (s ∷ xs) k h =
    let both = either_false (nat_lt ADDRESS_LIMIT (s.start + s.size)) (list_any (λ s. nat_lt ADDRESS_LIMIT (s.start + s.size)) xs) h in
    rw (both.0, lt_isnt s.size (length s.bytes) k.2) (none_out (s.start + s.size) xs k.3 both.1)

meets_none : (t : OwnSegment) (low : ℕ) (xs : List OwnSegment) → t.start + t.size ≤ low → Stacked low xs → list_any (meet t) xs ≡ false
meets_none t low [] h k = refl
meets_none t low (s ∷ xs) h k =
    let above : t.start + t.size ≤ s.start = omega (arith, h, k.0) in
    let more : t.start + t.size ≤ s.start + s.size = omega (arith, above) in
    rw (and_false (nat_lt t.start (s.start + s.size)) (nat_lt s.start (t.start + t.size)) (lt_isnt s.start (t.start + t.size) above)) (meets_none t (s.start + s.size) xs more k.3)

pub none_meet : (low : ℕ) (xs : List OwnSegment) → Stacked low xs → some_meet xs ≡ false
none_meet low [] k = refl
none_meet low (s ∷ xs) k = rw (meets_none s (s.start + s.size) xs (omega arith) k.3) (none_meet (s.start + s.size) xs k.3)

pub same_memory : (xs : List OwnSegment) → sum_by (λ (s : Segment). s.size) (map own_segment xs) ≡ sum_by (λ (s : OwnSegment). s.size) xs
same_memory xs = from 0 xs
  where
    from : (n : ℕ) (ys : List OwnSegment) → fold (λ (a : ℕ) (s : Segment). a + s.size) n (map own_segment ys) ≡ fold (λ (a : ℕ) (s : OwnSegment). a + s.size) n ys
    from n [] = refl
    from n (s ∷ ys) = from (n + s.size) ys

-- ---- those of an image, and more above them

abbrev pub EndBy : ℕ → List Segment → Type 0
EndBy high [] = Unit {0}
EndBy high (s ∷ more) = (segment_end s ≤ high) × EndBy high more

max_left : (a b high : ℕ) → max a b ≤ high → (a ≤ high) × (b ≤ high)
max_left a b high h = (omega (arith, h), omega (arith, h))

pub ends_by : (end high : ℕ) (xs : List Segment) → fold (λ (e : ℕ) (s : Segment). max e (segment_end s)) end xs ≤ high → (end ≤ high) × EndBy high xs
ends_by end high [] h = (h, tt)
ends_by end high (s ∷ xs) h =
    let more = ends_by (max end (segment_end s)) high xs h in
    let both = max_left end (segment_end s) high more.0 in
    (both.0, (both.1, more.1))

stacked_lower : (low high : ℕ) (xs : List OwnSegment) → low ≤ high → Stacked high xs → Stacked low xs
stacked_lower low high [] h k = tt
stacked_lower low high (s ∷ xs) h k = (omega (arith, h, k.0), k.1, k.2, k.3)

-- the segment as a part
abbrev pub as_own : Segment → OwnSegment
as_own s = record { start = s.start; bytes = s.bytes; size = s.size; write = s.write; exec = s.exec }

pub stacked : (low high : ℕ) (xs : List Segment) (more : List OwnSegment) → low ≤ high → RiseFrom low xs → EndBy high xs → Stacked high more → Stacked low (map as_own xs ++ more)
stacked low high [] more h r e k = stacked_lower low high more h k
stacked low high (s ∷ xs) more h r e k = (r.0, r.1, r.2, stacked (s.start + s.size) high xs more e.0 r.3 e.1 k)

pub same_segments : (xs : List Segment) (more : List OwnSegment) → map own_segment (map as_own xs ++ more) ≡ xs ++ map own_segment more
same_segments [] more = refl
same_segments (s ∷ xs) more = ap (λ (l : List Segment). s ∷ l) (same_segments xs more)
