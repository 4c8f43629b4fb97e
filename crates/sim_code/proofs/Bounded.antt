-- The fields of whatever the checker decoded are within their bounds: each row of the table cuts them so.
use Rattle.std.proofs.Common.{◌≡◌, ℕ, Bool, true, false, cond, List, [], ◌∷◌, inl, inr, ◌+◌, ◌==◌, nat_le, Option, Some, None, refl, sym, subst, ◌<◌, arith}
use Rattle.thumb_isa.specs.declared.profile.Profile.{Profile}
use Rattle.thumb_isa.specs.Rows.{Row, fits_row, first_fit, rows, decode_result, decode_result_for}
use Rattle.thumb_isa.specs.Range.{InRange}
use Rattle.thumb_isa.specs.Laws.{is_late}
use Rattle.thumb_isa.proofs.LateFields.{first_or_late}
use Rattle.frame_check.specs.run_images.Profiles.{profile_of}
use Rattle.thumb_isa.specs.declared.instr.Instr.{Instr}
use Rattle.thumb_isa.specs.Nature.{Works, nature, WritesWell}
use Rattle.thumb_isa.proofs.Natures.{all_write_well}
use Rattle.thumb_isa.specs.declared.instr.Decoded.TheVariants.{Is, Undefined, Unpredictable, NotInProfile}
use Rattle.thumb_isa.specs.declared.instr.Decoded.{Decoded}
use Rattle.frame_code.specs.declared.standing.Standing.TheVariants.{Instruction, Udf}
use Rattle.frame_check.specs.frame_graph.FlowGraph.{FlowGraph}
use Rattle.frame_code.specs.Standing.{standing_of_decoded, wide_of, standing_by, is_udf}
use Rattle.frame_check.specs.frame_graph.Places.{standing_at, halfword_of}
use Rattle.frame_check.specs.Accepts.{Accepted}
use Rattle.frame_check.specs.Roots.{flow_graph_of}
use Rattle.sim_code.specs.Bounds.{NatureBounds, BoundsWhere, Bounds, AreInRange}
use Rattle.sim_code.proofs.RowBounds.{AllMean, rows_mean}

found : (rs : List Row) → AllMean rs → (f s : ℕ) (i : Instr) (n : ℕ) → first_fit rs f s ≡ Is i n → Bounds i
found [] a f s i n e = absurd cc
found (row ∷ more) a f s i n e = go (fits_row row f s) e (λ l. found more a.1 f s i n l)
  where
    go : (b : Bool) → cond b (row.means f s) (first_fit more f s) ≡ Is i n → (first_fit more f s ≡ Is i n → Bounds i) → Bounds i
    go true h later = a.0 f s i n h
    go false h later = later h

decoded_bounds : (f s : ℕ) (i : Instr) (n : ℕ) → decode_result f s ≡ Is i n → Bounds i
unfolding decode_result
decoded_bounds f s i n e = found rows rows_mean f s i n e

-- those that only the second profile has
late_bounds : (i : Instr) → is_late i ≡ true → InRange i → Bounds i
late_bounds i l r = subst (λ b. BoundsWhere b i) (sym l) r

-- what works on a register works on none that is sp
pub works_apart : (i : Instr) (d : ℕ) → nature i ≡ Works d → Bounds i → d ≡ 13 → ⊥
works_apart i d e r = go (is_late i) r
  where
    go : (b : Bool) → BoundsWhere b i → d ≡ 13 → ⊥
    go true r same = (subst WritesWell e (all_write_well i r)).1 same
    go false r same = let low : d < 8 = subst NatureBounds e r in omega (arith, low, same)

bounds_for : (p : Profile) (f s : ℕ) (i : Instr) (n : ℕ) → decode_result_for p f s ≡ Is i n → Bounds i
bounds_for p f s i n e = elim (first_or_late p f s i n e) [
  | inl first ↦ decoded_bounds f s i n first
  | inr (second, late) ↦ late_bounds i late.late late.fields
]

pub standing_bounds : (s : FlowGraph) (p : ℕ) (i : Instr) (size : ℕ) → standing_at s p ≡ Instruction i size → Bounds i
unfolding standing_at
standing_bounds s p i size e = by_halves (profile_of s.image) (halfword_of s p) (halfword_of s (p + 1)) e
  where
    by_decoded : (r : Profile) (f g : ℕ) (d : Decoded) → decode_result_for r f g ≡ d → standing_of_decoded d ≡ Instruction i size → Bounds i
    by_decoded r f g (Is j n) h q = let same : j ≡ i = cc in subst Bounds same (bounds_for r f g j n h)
    by_decoded r f g Undefined h q = absurd cc
    by_decoded r f g Unpredictable h q = absurd cc
    by_decoded r f g NotInProfile h q = absurd cc

    by_size : (r : Profile) (u b : Bool) (first : ℕ) (w : Option ℕ)
        → cond u Udf (cond ((cond b 4 2) == 2) (standing_of_decoded (decode_result_for r first 0)) (wide_of r first w)) ≡ Instruction i size → Bounds i
    by_size r true b first w g = absurd cc
    by_size r false false first w g = by_decoded r first 0 (decode_result_for r first 0) refl g
    by_size r false true first None g = absurd cc
    by_size r false true first (Some second) g = by_decoded r first second (decode_result_for r first second) refl g

    by_halves : (r : Profile) (o w : Option ℕ) → standing_by r o w ≡ Instruction i size → Bounds i
    by_halves r None w g = absurd cc
    by_halves r (Some first) w g = by_size r (is_udf first) (nat_le 0xe800 first) first w g

pub are_in_range : (x : Accepted) → AreInRange x
are_in_range x f p i size c e = standing_bounds (flow_graph_of x.image f) p i size e
