-- What every row of the instruction table gives, and so what stands at a place: BL is two halfwords wide, BLX one, and SUB sp lowers it.
use Rattle.std.proofs.Common.{ℕ, ◌&&◌, Bool, true, List, [], ◌∷◌, ◌++◌, ◌≡◌, cond, false, ◌==◌, pos, negsuc, refl, subst, Option, Some, None, ◌+◌, ℤ}
use Rattle.std.proofs.lemmas.Bool.{and_parts, eqb-true}
use Rattle.thumb_isa.specs.declared.instr.Decoded.{Decoded}
use Rattle.thumb_isa.specs.declared.profile.Profile.{Profile}
use Rattle.thumb_isa.specs.declared.profile.Profile.TheVariants.{One, Two}
use Rattle.thumb_isa.specs.Rows.{Row, fits_row, first_fit, rows, late_rows, decode_result, late_decode_result, decode_result_for}
use Rattle.frame_graph.specs.run_images.Profiles.{profile_of}
use Rattle.thumb_isa.specs.declared.instr.Decoded.TheVariants.{Undefined, Is, Unpredictable, NotInProfile}
use Rattle.thumb_isa.specs.declared.instr.Instr.TheVariants.{Bl, Blx, SubSp}
use Rattle.thumb_isa.specs.declared.instr.Instr.{Instr}
use Rattle.frame_code.specs.declared.standing.Standing.TheVariants.{Instruction, Udf}
use Rattle.frame_code.specs.Standing.{standing_of_decoded, is_udf, wide_of, standing_by}
use Rattle.frame_graph.specs.Places.{halfword_of, standing_at}
use Rattle.thumb_isa.specs.Range.{size_of}
use Rattle.frame_graph.specs.FlowGraph.{FlowGraph}

-- a test that the answer of each row passes
abbrev every : (Decoded → Bool) → List Row → ℕ → ℕ → Bool
every q [] f s = true
every q (r ∷ more) f s = q (r.means f s) && every q more f s

passes : (q : Decoded → Bool) → q Undefined ≡ true → (rs : List Row) (f s : ℕ) → every q rs f s ≡ true → q (first_fit rs f s) ≡ true
passes q none [] f s h = none
passes q none (r ∷ more) f s h =
    let both = and_parts (q (r.means f s)) (every q more f s) h in go (fits_row r f s) both.0 (passes q none more f s both.1)
  where
    go : (b : Bool) → q (r.means f s) ≡ true → q (first_fit more f s) ≡ true → q (cond b (r.means f s) (first_fit more f s)) ≡ true
    go true here later = here
    go false here later = later

-- what an instruction is, of those whose width or offset is asked
abbrev fine : Decoded → Bool
fine (Is (Bl off) n) = n == 4
fine (Is (Blx m) n) = n == 2
fine (Is (SubSp (pos k)) n) = true
fine (Is (SubSp (negsuc k)) n) = false
fine (Is i n) = true
fine Undefined = true
fine Unpredictable = true
fine NotInProfile = true

all_fine : (p : Profile) (f s : ℕ) → fine (decode_result_for p f s) ≡ true
unfolding decode_result late_decode_result
all_fine One f s = passes fine refl rows f s refl
all_fine Two f s = passes fine refl (late_rows ++ rows) f s refl

fine_there : (d : Decoded) (i : Instr) (n : ℕ) → standing_of_decoded d ≡ Instruction i n → fine d ≡ true → fine (Is i n) ≡ true
fine_there (Is j m) i n e h = subst (λ (t : Decoded). fine t ≡ true) (let same : ◌≡◌ {A = Decoded} (Is j m) (Is i n) = cc in same) h
fine_there Undefined i n e h = absurd cc
fine_there Unpredictable i n e h = absurd cc
fine_there NotInProfile i n e h = absurd cc

fine_by : (p : Profile) (o w : Option ℕ) (i : Instr) (n : ℕ) → standing_by p o w ≡ Instruction i n → fine (Is i n) ≡ true
fine_by p None w i n e = absurd cc
fine_by p (Some first) w i n e = go (is_udf first) (size_of first == 2) w e
  where
    go : (u b : Bool) (w : Option ℕ) → cond u Udf (cond b (standing_of_decoded (decode_result_for p first 0)) (wide_of p first w)) ≡ Instruction i n → fine (Is i n) ≡ true
    go true b w e = absurd cc
    go false true w e = fine_there (decode_result_for p first 0) i n e (all_fine p first 0)
    go false false None e = absurd cc
    go false false (Some second) e = fine_there (decode_result_for p first second) i n e (all_fine p first second)

pub fine_at : (s : FlowGraph) (p : ℕ) (i : Instr) (n : ℕ) → standing_at s p ≡ Instruction i n → fine (Is i n) ≡ true
unfolding standing_at
fine_at s p i n e = fine_by (profile_of s.image) (halfword_of s p) (halfword_of s (p + 1)) i n e

pub bl_width : (s : FlowGraph) (p : ℕ) (off : ℤ) (n : ℕ) → standing_at s p ≡ Instruction (Bl off) n → n ≡ 4
bl_width s p off n e = eqb-true n 4 (fine_at s p (Bl off) n e)

pub blx_width : (s : FlowGraph) (p m n : ℕ) → standing_at s p ≡ Instruction (Blx m) n → n ≡ 2
blx_width s p m n e = eqb-true n 2 (fine_at s p (Blx m) n e)

pub sub_sp_falls : (s : FlowGraph) (p k n : ℕ) → standing_at s p ≡ Instruction (SubSp (negsuc k)) n → ⊥
sub_sp_falls s p k n e = no_true (fine_at s p (SubSp (negsuc k)) n e)
  where
    no_true : false ≡ true → ⊥
    no_true h = cc
