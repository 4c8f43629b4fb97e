-- Where segments end.
use Rattle.std.proofs.Common.{◌≡◌, ℕ, ◌+◌, ◌≤◌, Bool, true, false, cond, List, [], ◌∷◌, Some, subst, arith}
use Rattle.std.specs.List.{find}
use Rattle.elf_image.specs.declared.limits.TheConstants.{ADDRESS_LIMIT}
use Rattle.elf_image.specs.Segments.{Segment, holds, segment_end, RiseFrom}
use Rattle.elf_image.specs.Functions.{segment_at}
use Rattle.elf_image.specs.Image.{Image, IsSound}

low_fits : (low : ℕ) (xs : List Segment) → RiseFrom low xs → low ≤ ADDRESS_LIMIT
low_fits low [] h = h
low_fits low (s ∷ more) h = let more_fits = low_fits (s.start + s.size) more h.3 in omega (arith, h.0, more_fits)

end_fits : (low : ℕ) (xs : List Segment) (a : ℕ) (s : Segment) → RiseFrom low xs → find (holds a) xs ≡ Some s → segment_end s ≤ ADDRESS_LIMIT
end_fits low [] a s h e = absurd cc
end_fits low (x ∷ more) a s h e = tested (holds a x) e (λ further. end_fits (x.start + x.size) more a s h.3 further)
  where
    tested : (b : Bool) → cond b (Some x) (find (holds a) more) ≡ Some s → (find (holds a) more ≡ Some s → segment_end s ≤ ADDRESS_LIMIT) → segment_end s ≤ ADDRESS_LIMIT
    tested true e later = let same : x ≡ s = cc in subst (λ (t : Segment). segment_end t ≤ ADDRESS_LIMIT) same (low_fits (x.start + x.size) more h.3)
    tested false e later = later e

-- the segment of an image that holds an address ends by ADDRESS_LIMIT
pub ends_low : (image : Image) (a : ℕ) (s : Segment) → IsSound image → segment_at image.segments a ≡ Some s → segment_end s ≤ ADDRESS_LIMIT
ends_low image a s h e = end_fits 0 image.segments a s h.rise e
