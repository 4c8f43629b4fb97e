-- Where segments end.
use Rattle.std.proofs.Common.{◌≡◌, ℕ, zero, suc, ◌+◌, ◌<◌, ◌≤◌, List, [], ◌∷◌, length, get_or, drop, fold, arith, ap, subst, sym, ◌∙◌}
use Rattle.std.specs.Prelude.{max}
use Rattle.std.proofs.lemmas.List.{at_drop_more, drop_more}
use Rattle.elf_image.specs.Segments.{Segment, RiseFrom, segment_end}
use Rattle.elf_image.specs.declared.limits.TheConstants.{ADDRESS_LIMIT}

low_fits : (low : ℕ) (xs : List Segment) → RiseFrom low xs → low ≤ ADDRESS_LIMIT
low_fits low [] h = h
low_fits low (x ∷ more) h = omega (arith, h.0, low_fits (x.start + x.size) more h.3)

ends_at : (low i : ℕ) (xs : List Segment) (d : Segment) → RiseFrom low xs → i < length xs → segment_end (get_or xs i d) ≤ ADDRESS_LIMIT
ends_at low i [] d h inside = absurd (omega arith)
ends_at low zero (x ∷ more) d h inside = low_fits (x.start + x.size) more h.3
ends_at low (suc i) (x ∷ more) d h inside = ends_at (x.start + x.size) i more d h.3 (omega arith)

pub ends_low : (xs : List Segment) (i : ℕ) (s : Segment) → s ≡ get_or xs i s → RiseFrom 0 xs → i < length xs → segment_end s ≤ ADDRESS_LIMIT
ends_low xs i s is h inside = subst (λ (t : Segment). segment_end t ≤ ADDRESS_LIMIT) (sym is) (ends_at 0 i xs s h inside)

pub end_more : (end i : ℕ) (xs : List Segment) (d : Segment) → i < length xs
    → fold (λ (e : ℕ) (s : Segment). max e (segment_end s)) end (drop i xs)
    ≡ fold (λ (e : ℕ) (s : Segment). max e (segment_end s)) (max end (segment_end (get_or xs i d))) (drop (i + 1) xs)
end_more end i xs d h = at_drop_more (fold (λ (e : ℕ) (s : Segment). max e (segment_end s)) end) xs i d h

pub end_step : (total end next i : ℕ) (xs : List Segment) (s : Segment) → i < length xs → s ≡ get_or xs i s → next ≡ max end (segment_end s)
    → fold (λ (e : ℕ) (t : Segment). max e (segment_end t)) end (drop i xs) ≡ total → fold (λ (e : ℕ) (t : Segment). max e (segment_end t)) next (drop (i + 1) xs) ≡ total
end_step total end next i xs s inside is e h =
    ap (λ (n : ℕ). fold (λ (e : ℕ) (t : Segment). max e (segment_end t)) n (drop (i + 1) xs)) (e ∙ ap (λ (t : Segment). max end (segment_end t)) is) ∙ sym (end_more end i xs s inside) ∙ h

-- the segments from one on are that one and those after it
pub drop_next : (xs : List Segment) (i : ℕ) (s : Segment) → i < length xs → s ≡ get_or xs i s → s ∷ drop (i + 1) xs ≡ drop i xs
drop_next xs i s inside is = ap (λ (t : Segment). t ∷ drop (i + 1) xs) is ∙ sym (drop_more xs i s inside)

pub ruleset ends = (ends_low, end_more)
