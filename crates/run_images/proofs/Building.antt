-- The segments of an image can be built.
use Rattle.std.specs.Prelude.{All, map, sum_by}
use Rattle.std.proofs.Common.{◌≡◌, ℕ, zero, suc, ◌+◌, ◌-◌, ◌<◌, ◌≤◌, List, [], ◌∷◌, ◌++◌, append-nil, length, get_or, refl, sym, ap, ◌∙◌, arith, inl}
use Rattle.std.proofs.lemmas.List.{length-append}
use Rattle.std.proofs.lemmas.List.Sums.{sum_by-cons}
use Rattle.eh_bus.specs.Built.{CanBuild, Fits, segment_of}
use Rattle.eh_bus.specs.eh_word.Bytes.{zeros, length-zeros}
use Rattle.eh_bus.specs.Segment.{Segment}
use Rattle.eh_bus.specs.declared.map.TheConstants.{IMAGE_END, MAX_IMAGE_SIZE}
use Rattle.eh_bus.specs.declared.segment.SegmentSpec.{SegmentSpec}
use Rattle.eh_bus.proofs.MapLaws.{Disjoint, disjoint_apart}
use Rattle.elf_image.specs.Segments.{Segment as Loaded, RiseFrom}
use Rattle.run_images.specs.Placing.{segment_asked_for}
use Rattle.run_images.specs.Start.{memory_segment}

whole : (s : Loaded) → length s.bytes ≤ s.size → length (memory_segment s).bytes ≡ s.size
whole s h = length-append s.bytes (zeros (s.size - length s.bytes)) ∙ ap (λ n. length s.bytes + n) (length-zeros (s.size - length s.bytes)) ∙ omega arith

-- each later one starts at or above low
starts_above : (low : ℕ) (ss : List Loaded) → RiseFrom low ss → (j : ℕ) (d : Segment) → j < length (map memory_segment ss) → low ≤ (get_or (map memory_segment ss) j d).start
starts_above low [] h j d k = absurd (omega arith)
starts_above low (s ∷ more) h zero d k = h.0
starts_above low (s ∷ more) h (suc j) d k =
    let later : s.start + s.size ≤ (get_or (map memory_segment more) j d).start = starts_above (s.start + s.size) more h.3 j d (omega arith) in
    let first : low ≤ s.start = h.0 in
    omega arith

disjoint : (low : ℕ) (ss : List Loaded) → RiseFrom low ss → (i j : ℕ) (d : Segment) → i < j → j < length (map memory_segment ss)
    → Disjoint (get_or (map memory_segment ss) i d) (get_or (map memory_segment ss) j d)
disjoint low [] h i j d below k = absurd (omega arith)
disjoint low (s ∷ more) h i zero d below k = absurd (omega arith)
disjoint low (s ∷ more) h zero (suc j) d below k = inl (rw (whole s h.2) (starts_above (s.start + s.size) more h.3 j d (omega arith)))
disjoint low (s ∷ more) h (suc i) (suc j) d below k = disjoint (s.start + s.size) more h.3 i j d (omega arith) (omega arith)

top : (low : ℕ) (ss : List Loaded) → RiseFrom low ss → low ≤ IMAGE_END
top low [] h = h
top low (s ∷ more) h =
    let later = top (s.start + s.size) more h.3 in
    let first : low ≤ s.start = h.0 in
    omega arith

fit : (low : ℕ) (specs : List SegmentSpec) → RiseFrom low (map segment_asked_for specs) → All Fits specs
fit low [] h k d below = absurd (omega arith)
fit low (spec ∷ more) h zero d below = (h.2, top (spec.start + spec.size) (map segment_asked_for more) h.3)
fit low (spec ∷ more) h (suc k) d below = fit (spec.start + spec.size) more h.3 k d (omega arith)

same_size : (specs : List SegmentSpec) → sum_by (λ (spec : SegmentSpec). spec.size) specs ≡ sum_by (λ (s : Loaded). s.size) (map segment_asked_for specs)
same_size [] = refl
same_size (spec ∷ more) =
    sum_by-cons (λ (x : SegmentSpec). x.size) spec more ∙ ap (λ n. spec.size + n) (same_size more) ∙ sym (sum_by-cons (λ (s : Loaded). s.size) (segment_asked_for spec) (map segment_asked_for more))

same_segments : (specs : List SegmentSpec) → map segment_of specs ≡ map memory_segment (map segment_asked_for specs)
same_segments [] = refl
same_segments (spec ∷ more) = ap (λ rest. segment_of spec ∷ rest) (same_segments more)

pub can_build : (specs : List SegmentSpec) (segments : List Loaded) → map segment_asked_for specs ≡ segments → RiseFrom 0 segments → sum_by (λ (s : Loaded). s.size) segments ≤ MAX_IMAGE_SIZE → CanBuild specs
can_build specs segments e h few =
    let rise : RiseFrom 0 (map segment_asked_for specs) = rw e h in
    record {
      fit = fit 0 specs rise;
      apart = rw (same_segments specs) (disjoint_apart (map memory_segment (map segment_asked_for specs)) (disjoint 0 (map segment_asked_for specs) rise));
      few = rw (same_size specs, e) few;
    }

pub built_of : (specs : List SegmentSpec) (segments : List Loaded) → map segment_asked_for specs ≡ segments → map segment_of specs ≡ map memory_segment segments
built_of specs segments e = same_segments specs ∙ ap (map memory_segment) e

-- raw code has no zeros after it
empty : (xs : List ℕ) → length xs ≡ 0 → xs ≡ []
empty [] h = refl
empty (x ∷ xs) h = absurd (omega arith)

pub no_zeros : (code : List ℕ) → code ++ zeros (length code - length code) ≡ code
no_zeros code =
    let none : length code - length code ≡ 0 = omega arith in
    rw none (ap (λ z. code ++ z) (empty (zeros 0) (length-zeros 0)) ∙ append-nil code)
