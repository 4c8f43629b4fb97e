-- What is built is a map.
use Rattle.std.proofs.Common.{◌≡◌, ℕ, zero, suc, ◌+◌, ◌-◌, ◌*◌, ◌<◌, ◌≤◌, ◌⊎◌, inl, inr, List, [], ◌∷◌, length, get_or, map, take, refl, arith}
use Rattle.std.specs.Prelude.{IsTrue, All}
use Rattle.std.proofs.lemmas.Nat.{mul-le}
use Rattle.std.proofs.lemmas.Bool.{cases_lt}
use Rattle.std.proofs.lemmas.List.{length-append, length-map, get_or-map, take_more}
use Rattle.std.proofs.lemmas.List.Sums.{sum_by-le}
use Rattle.std.proofs.lemmas.List.Elements.{All-append, All-push}
use Rattle.eh_bus.specs.Segment.{Segment, AreBytes, holds}
use Rattle.eh_bus.specs.Map.{AreSegments, AreApart, IsData}
use Rattle.eh_bus.specs.Built.{CanBuild, Fits, initial_memory, segment_of, zeros_at}
use Rattle.eh_word.specs.Bytes.{zeros, length-zeros}
use Rattle.eh_bus.specs.declared.segment.SegmentSpec.{SegmentSpec}
use Rattle.eh_bus.proofs.Kept.{inside}
use Rattle.eh_bus.specs.declared.map.TheConstants.{IMAGE_END, MAX_IMAGE_SIZE, POOL_SIZE, POOL_START, STACK_SIZE, STACK_START}

abbrev pub Ends : Segment → Type 0
Ends s = s.start + length s.bytes ≤ IMAGE_END

pub length-segment_of : (spec : SegmentSpec) → length spec.bytes.now ≤ spec.size → length (segment_of spec).bytes ≡ spec.size
length-segment_of spec h = simp (length-append, length-zeros) (omega arith)

fits_ends : (spec : SegmentSpec) → Fits spec → Ends (segment_of spec)
fits_ends spec f = let e = length-segment_of spec f.0 in omega (arith, f.1)

pub image_ends : (specs : List SegmentSpec) → All Fits specs → (i : ℕ) (d : Segment) → i < length (map segment_of specs) → Ends (get_or (map segment_of specs) i d)
image_ends [] f i d h = absurd (omega arith)
image_ends (s ∷ specs) f zero d h = fits_ends s (f 0 s (omega arith))
image_ends (s ∷ specs) f (suc i) d h = image_ends specs (λ k e l. f (suc k) e (omega arith)) i d (omega arith)

-- what is in a segment below the pool
in_image : (s : Segment) (a : ℕ) → Ends s → IsTrue (holds s a 1) → a < IMAGE_END
in_image s a e h = let p = inside s a 1 h in omega (arith, p.low, p.high)

in_zeros : (start size a : ℕ) → IsTrue (holds (zeros_at start size) a 1) → (start ≤ a) × (a < start + size)
in_zeros start size a h =
    let p = inside (zeros_at start size) a 1 h in
    let e = length-zeros size in
    (p.low, omega (arith, p.low, p.high))

pub apart_all : (image : List Segment) → ((i : ℕ) (d : Segment) → i < length image → Ends (get_or image i d)) → AreApart image
    → AreApart (zeros_at STACK_START STACK_SIZE ∷ zeros_at POOL_START POOL_SIZE ∷ image)
apart_all image e p a zero zero d h k x y = refl
apart_all image e p a zero (suc zero) d h k x y = let s = in_zeros STACK_START STACK_SIZE a x in let t = in_zeros POOL_START POOL_SIZE a y in absurd (omega (arith, s.0, t.1))
apart_all image e p a zero (suc (suc j)) d h k x y = let s = in_zeros STACK_START STACK_SIZE a x in let t = in_image (get_or image j d) a (e j d (omega arith)) y in absurd (omega (arith, s.0))
apart_all image e p a (suc zero) zero d h k x y = let s = in_zeros STACK_START STACK_SIZE a y in let t = in_zeros POOL_START POOL_SIZE a x in absurd (omega (arith, s.0, t.1))
apart_all image e p a (suc zero) (suc zero) d h k x y = refl
apart_all image e p a (suc zero) (suc (suc j)) d h k x y = let s = in_zeros POOL_START POOL_SIZE a x in let t = in_image (get_or image j d) a (e j d (omega arith)) y in absurd (omega (arith, s.0))
apart_all image e p a (suc (suc i)) zero d h k x y = let s = in_zeros STACK_START STACK_SIZE a y in let t = in_image (get_or image i d) a (e i d (omega arith)) x in absurd (omega (arith, s.0))
apart_all image e p a (suc (suc i)) (suc zero) d h k x y = let s = in_zeros POOL_START POOL_SIZE a y in let t = in_image (get_or image i d) a (e i d (omega arith)) x in absurd (omega (arith, s.0))
apart_all image e p a (suc (suc i)) (suc (suc j)) d h k x y = let s = p a i j d (omega arith) (omega arith) x y in omega arith

image_at : (image : List Segment) → ((i : ℕ) (d : Segment) → i < length image → Ends (get_or image i d))
    → (i : ℕ) (d : Segment) → 2 ≤ i → i < length (zeros_at STACK_START STACK_SIZE ∷ zeros_at POOL_START POOL_SIZE ∷ image)
    → Ends (get_or (zeros_at STACK_START STACK_SIZE ∷ zeros_at POOL_START POOL_SIZE ∷ image) i d)
image_at image e zero d l h = absurd (omega arith)
image_at image e (suc zero) d l h = absurd (omega arith)
image_at image e (suc (suc i)) d l h = e i d (omega arith)

pub zeros_data : (start size : ℕ) → IsData (zeros_at start size) start size
zeros_data start size = record { starts = refl; sized = length-zeros size; writes = refl; no_code = refl }

zeros_bytes : (n : ℕ) → AreBytes (zeros n)
unfolding zeros
zeros_bytes zero k d h = absurd (omega arith)
zeros_bytes (suc n) zero d h = omega arith
zeros_bytes (suc n) (suc k) d h = zeros_bytes n k d (omega arith)

spec_bytes : (spec : SegmentSpec) → AreBytes spec.bytes.now → AreBytes (segment_of spec).bytes
spec_bytes spec b = All-append (λ x. x < 256) _ _ b (zeros_bytes (spec.size - length spec.bytes.now))

-- bytes that are given, and zeros, are bytes
pub image_bytes : (specs : List SegmentSpec) → All (λ (spec : SegmentSpec). AreBytes spec.bytes.now) specs → All (λ (s : Segment). AreBytes s.bytes) (map segment_of specs)
image_bytes [] b = λ i d h. absurd (omega arith)
image_bytes (spec ∷ more) b = λ i d h. at i d h (image_bytes more (λ k e l. b (suc k) e (omega arith)))
  where
    at : (i : ℕ) (d : Segment) → i < length (segment_of spec ∷ map segment_of more) → All (λ (s : Segment). AreBytes s.bytes) (map segment_of more)
        → AreBytes (get_or (segment_of spec ∷ map segment_of more) i d).bytes
    at zero d h next = spec_bytes spec (b 0 spec (omega arith))
    at (suc i) d h next = next i d (omega arith)

all_bytes : (image : List Segment) → All (λ (s : Segment). AreBytes s.bytes) image → All (λ (s : Segment). AreBytes s.bytes) (zeros_at STACK_START STACK_SIZE ∷ zeros_at POOL_START POOL_SIZE ∷ image)
all_bytes image b zero d h = zeros_bytes STACK_SIZE
all_bytes image b (suc zero) d h = zeros_bytes POOL_SIZE
all_bytes image b (suc (suc i)) d h = b i d (omega arith)

pub built_segments : (specs : List SegmentSpec) → CanBuild specs → All (λ (s : Segment). AreBytes s.bytes) (map segment_of specs) → AreSegments (initial_memory specs).segments
built_segments specs p b = record {
  bytes = all_bytes (map segment_of specs) b;
  two = omega arith;
  stack = λ d. zeros_data STACK_START STACK_SIZE;
  pool = λ d. zeros_data POOL_START POOL_SIZE;
  image = image_at (map segment_of specs) (image_ends specs p.fit);
  apart = apart_all (map segment_of specs) (image_ends specs p.fit) p.apart;
}

-- one more of the given segments has bytes
pub more_bytes : (specs : List SegmentSpec) (i : ℕ) (spec : SegmentSpec) → i < length specs → All (λ (s : SegmentSpec). AreBytes s.bytes.now) (take i specs)
    → AreBytes (get_or specs i spec).bytes.now → All (λ (s : SegmentSpec). AreBytes s.bytes.now) (take (i + 1) specs)
more_bytes specs i spec h b n = rw (take_more specs i spec h) (All-push (λ (s : SegmentSpec). AreBytes s.bytes.now) (take i specs) (get_or specs i spec) b n)

-- ---- segments that begin a step apart

-- the segment of each number begins so many steps after the first, and has at most a step's bytes
pub record Spaced (specs : List SegmentSpec) (first step : ℕ) : Type 0 where
  pub start : (i : ℕ) (d : SegmentSpec) → i < length specs → (get_or specs i d).start ≡ first + i * step
  pub size : (i : ℕ) (d : SegmentSpec) → i < length specs → (get_or specs i d).size ≤ step
  pub given : (i : ℕ) (d : SegmentSpec) → i < length specs → length (get_or specs i d).bytes.now ≤ (get_or specs i d).size

next_step : (i n step : ℕ) → i < n → i * step + step ≤ n * step
next_step i n step h = let m : (i + 1) * step ≤ n * step = mul-le (i + 1) step n step (omega arith) (omega arith) in omega (arith, m)

spaced_apart : (e : SegmentSpec) (specs : List SegmentSpec) (first step : ℕ) → Spaced specs first step → AreApart (map segment_of specs)
spaced_apart e specs first step s a i j d h k x y = go (cases_lt i j) (cases_lt j i)
  where
    l : i < length specs
    l = omega (arith, length-map specs segment_of)

    m : j < length specs
    m = omega (arith, length-map specs segment_of)

    place : (n : ℕ) → n < length specs → IsTrue (holds (get_or (map segment_of specs) n d) a 1) → (first + n * step ≤ a) × (a < first + n * step + step)
    place n o z =
        let p = inside (segment_of (get_or specs n e)) a 1 (rw (get_or-map segment_of specs n e d o) at z) in
        let q = length-segment_of (get_or specs n e) (s.given n e o) in
        (omega (arith, p.low, s.start n e o), omega (arith, p.low, p.high, q, s.start n e o, s.size n e o))

    go : ((i < j) ⊎ (j ≤ i)) → ((j < i) ⊎ (i ≤ j)) → i ≡ j
    go (inl o) q = let x = place i l x in let y = place j m y in absurd (omega (arith, x.1, y.0, next_step i j step o))
    go (inr o) (inl q) = let x = place i l x in let y = place j m y in absurd (omega (arith, x.0, y.1, next_step j i step q))
    go (inr o) (inr q) = omega arith

pub spaced : (specs : List SegmentSpec) (first step : ℕ) → Spaced specs first step → first + length specs * step ≤ IMAGE_END → length specs * step ≤ MAX_IMAGE_SIZE → CanBuild specs
spaced specs first step s end few = record {
  fit = λ i d h. (s.given i d h, omega (arith, s.start i d h, s.size i d h, next_step i (length specs) step h));
  apart = apart specs s;
  few = omega (arith, sum_by-le (λ (spec : SegmentSpec). spec.size) step specs (λ i d h. s.size i d h));
}
  where
    apart : (specs : List SegmentSpec) → Spaced specs first step → AreApart (map segment_of specs)
    apart [] s a i j d h k x y = absurd (omega arith)
    apart (e ∷ more) s a i j d h k x y = spaced_apart e (e ∷ more) first step s a i j d h k x y
