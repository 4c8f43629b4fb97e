-- The lists of an image rise, so that halving may search them.
use Rattle.std.proofs.Common.{◌≡◌, ℕ, ◌+◌, ◌≤◌, Bool, true, false, cond, nat_eq, List, [], ◌∷◌, arith}
use Rattle.std.specs.List.Sorted.{IsNonDecreasing, IsNonDecreasingBy}
use Rattle.elf_image.proofs.Search.{Ascend, Apart, non_decreasing}
use Rattle.elf_image.specs.Segments.{Segment, segment_end, RiseFrom}
use Rattle.elf_image.specs.Functions.{Function, FunctionsFrom}
use Rattle.elf_image.specs.Symbols.{zeros_from}

pub segments_apart : (low : ℕ) (xs : List Segment) → RiseFrom low xs → Apart (λ s. s.start) segment_end low xs
segments_apart low [] h = tt
segments_apart low (s ∷ xs) h = (h.0, omega (arith, h.1), segments_apart (s.start + s.size) xs h.3)

pub ascend_from_apart : {X : Type 0} (begin end : X → ℕ) (low high : ℕ) (xs : List X) → high ≤ low → Apart begin end low xs → Ascend begin high xs
ascend_from_apart begin end low high [] e h = tt
ascend_from_apart begin end low high (x ∷ xs) e h = (omega (arith, h.0), ascend_from_apart begin end (end x) (begin x) xs (omega (arith, h.1)) h.2)

pub functions_apart : (low : ℕ) (xs : List Function) → FunctionsFrom low xs → Apart (λ f. f.start) (λ f. f.end) low xs
functions_apart low [] h = tt
functions_apart low (f ∷ xs) h = (h.0, h.1, functions_apart f.end xs h.2)

weaker : (low high : ℕ) (zs : List ℕ) → low ≤ high → Ascend (λ z. z) high zs → Ascend (λ z. z) low zs
weaker low high [] e h = tt
weaker low high (z ∷ zs) e h = (omega (arith, h.0), h.1)

zeros_step : (b : Bool) (at : ℕ) (zs : List ℕ) → Ascend (λ z. z) (at + 1) zs → Ascend (λ z. z) at (cond b (at ∷ zs) zs)
zeros_step true at zs h = (omega arith, weaker at (at + 1) zs (omega arith) h)
zeros_step false at zs h = weaker at (at + 1) zs (omega arith) h

pub zeros_ascend : (at : ℕ) (bytes : List ℕ) → Ascend (λ z. z) at (zeros_from at bytes)
zeros_ascend at [] = tt
zeros_ascend at (b ∷ bytes) = zeros_step (nat_eq b 0) at (zeros_from (at + 1) bytes) (zeros_ascend (at + 1) bytes)

pub zeros_rise : (zs bytes : List ℕ) → zs ≡ zeros_from 0 bytes → IsNonDecreasing zs
zeros_rise zs bytes e = rw e (non_decreasing (λ z. z) 0 (zeros_from 0 bytes) (zeros_ascend 0 bytes))

pub segments_rise : (xs : List Segment) → RiseFrom 0 xs → IsNonDecreasingBy (λ s. s.start) xs
segments_rise xs h = non_decreasing (λ (s : Segment). s.start) 0 xs (ascend_from_apart (λ s. s.start) segment_end 0 0 xs (omega arith) (segments_apart 0 xs h))

pub functions_rise : (xs : List Function) → FunctionsFrom 0 xs → IsNonDecreasingBy (λ f. f.start) xs
functions_rise xs h = non_decreasing (λ (f : Function). f.start) 0 xs (ascend_from_apart (λ f. f.start) (λ f. f.end) 0 0 xs (omega arith) (functions_apart 0 xs h))
