-- The numbers of the bytes of segments are bytes.
use Rattle.std.proofs.Common.{◌≡◌, ℕ, zero, suc, ◌+◌, ◌<◌, List, [], ◌∷◌, length, get_or, take, refl, subst, arith}
use Rattle.std.specs.Prelude.{All}
use Rattle.std.proofs.lemmas.List.{take_more}
use Rattle.std.proofs.lemmas.List.Elements.{All-push}
use Rattle.elf_image.specs.Segments.{Segment}
use Rattle.frame_check.specs.Accepts.{AreBytes}

same_default : (xs : List ℕ) (k d e : ℕ) → k < length xs → get_or xs k d ≡ get_or xs k e
same_default [] k d e h = absurd (omega (arith, h))
same_default (x ∷ xs) zero d e h = refl
same_default (x ∷ xs) (suc k) d e h = same_default xs k d e (omega (arith, h))

pub all_small : (xs : List ℕ) → ((k : ℕ) → get_or xs k 0 < 256) → All (λ (b : ℕ). b < 256) xs
all_small xs small k d h = subst (λ (b : ℕ). b < 256) (same_default xs k 0 d h) (small k)

pub one_more : (segments : List Segment) (i : ℕ) (s : Segment) → i < length segments → AreBytes (take i segments) → All (λ (b : ℕ). b < 256) (get_or segments i s).bytes
    → AreBytes (take (i + 1) segments)
one_more segments i s h before n = rw (take_more segments i s h) (All-push (λ (t : Segment). All (λ (b : ℕ). b < 256) t.bytes) (take i segments) (get_or segments i s) before n)
