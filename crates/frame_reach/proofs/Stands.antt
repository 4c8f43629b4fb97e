-- Where an instruction stands: the function has its halfwords, of which there are one or two.
use Rattle.std.proofs.Common.{ℕ, ◌≡◌, ◌<◌, ◌≤◌, ◌+◌, ◌*◌, ◌==◌, ◌&&◌, ◌||◌, ◌⊎◌, inl, inr, cond, Bool, true, false, List, [], ◌∷◌, Option, Some, None, sym, ◌∙◌, ap, subst, refl, ⊎_elim, arith, ◌++◌}
use Rattle.std.specs.Prelude.{if◌then◌else◌, nat_le, nat_lt}
use Rattle.std.specs.List.{list_all}
use Rattle.std.proofs.lemmas.Bool.{eqb-true, ltb-true, true≢false, cases_lt, le-leb}
use Rattle.thumb_isa.specs.declared.instr.Instr.{Instr}
use Rattle.thumb_isa.specs.declared.instr.Decoded.{Decoded}
use Rattle.thumb_isa.specs.declared.instr.Decoded.TheVariants.{Is, Undefined, Unpredictable, NotInProfile}
use Rattle.thumb_isa.specs.Range.{size_of, IsOfSize}
use Rattle.thumb_isa.specs.declared.profile.Profile.{Profile}
use Rattle.thumb_isa.specs.declared.profile.Profile.TheVariants.{One, Two}
use Rattle.thumb_isa.specs.Rows.{Row, fits_row, rows, late_rows, first_fit, decode_result, late_decode_result, decode_result_for}
use Rattle.thumb_isa.proofs.BothProfiles.{sized_for}
use Rattle.frame_code.specs.elf_image.Image.{is_code_in}
use Rattle.frame_graph.specs.run_images.Profiles.{profile_of}
use Rattle.frame_code.specs.declared.standing.Standing.TheVariants.{Instruction, Udf}
use Rattle.frame_graph.specs.FlowGraph.{FlowGraph}
use Rattle.frame_code.specs.Standing.{halfword_at, is_udf, standing_of_decoded, wide_of, standing_by}
use Rattle.frame_graph.specs.Places.{address_of, is_place, standing_at}
use Rattle.frame_reach.specs.Prologue.{places}

both : (a b : Bool) → (a && b) ≡ true → (a ≡ true) × (b ≡ true)
both true b h = (refl, h)
both false b h = absurd cc

-- ---- sizes

abbrev is_sized : Decoded → Bool
is_sized (Is i size) = (size == 2) || (size == 4)
is_sized Undefined = true
is_sized Unpredictable = true
is_sized NotInProfile = true

either : (b : Bool) (x y : Decoded) → is_sized x ≡ true → is_sized y ≡ true → is_sized (cond b x y) ≡ true
either true x y p q = p
either false x y p q = q

fit_sized : (rs : List Row) (first second : ℕ) → list_all (λ row. is_sized (row.means first second)) rs ≡ true → is_sized (first_fit rs first second) ≡ true
fit_sized [] first second h = refl
fit_sized (row ∷ more) first second h =
    let two = both (is_sized (row.means first second)) (list_all (λ row. is_sized (row.means first second)) more) h in
    either (fits_row row first second) (row.means first second) (first_fit more first second) two.0 (fit_sized more first second two.1)

decoded_sized : (first second : ℕ) → is_sized (decode_result first second) ≡ true
unfolding decode_result
decoded_sized first second = fit_sized rows first second refl

late_sized : (first second : ℕ) → is_sized (late_decode_result first second) ≡ true
unfolding late_decode_result
late_sized first second = fit_sized (late_rows ++ rows) first second refl

all_sized : (p : Profile) (first second : ℕ) → is_sized (decode_result_for p first second) ≡ true
all_sized One first second = decoded_sized first second
all_sized Two first second = late_sized first second

two_or_four : (size : ℕ) → ((size == 2) || (size == 4)) ≡ true → (size ≡ 2) ⊎ (size ≡ 4)
two_or_four size h = by_test (size == 2) refl h
  where
    by_test : (b : Bool) → (size == 2) ≡ b → (b || (size == 4)) ≡ true → (size ≡ 2) ⊎ (size ≡ 4)
    by_test true e h = inl (eqb-true size 2 e)
    by_test false e h = inr (eqb-true size 4 h)

is_size : (d : Decoded) (i : Instr) (size : ℕ) → is_sized d ≡ true → standing_of_decoded d ≡ Instruction i size → (size ≡ 2) ⊎ (size ≡ 4)
is_size (Is j n) i size h e = two_or_four size (subst (λ x. ((x == 2) || (x == 4)) ≡ true) (sizes j i n size e) h)
  where
    sizes : (j i : Instr) (n size : ℕ) → Instruction j n ≡ Instruction i size → n ≡ size
    sizes j i n size e = cc
is_size Undefined i size h e = absurd cc
is_size Unpredictable i size h e = absurd cc
is_size NotInProfile i size h e = absurd cc

-- ---- halfwords

-- an instruction of one halfword, or of two that are both the function's
abbrev pub IsWhole : ℕ → Bool → Type 0
IsWhole size second = (size ≡ 2) ⊎ ((size ≡ 4) × (second ≡ true))

of_size : (n : ℕ) (d : Decoded) (i : Instr) (size : ℕ) → IsOfSize n d → standing_of_decoded d ≡ Instruction i size → size ≡ n
of_size n (Is j m) i size h e = cc
of_size n Undefined i size h e = absurd cc
of_size n Unpredictable i size h e = absurd cc
of_size n NotInProfile i size h e = absurd cc

is_low : (first : ℕ) → (size_of first == 2) ≡ true → first < 0xe800
is_low first h = elim (cases_lt first 0xe800) [
  | inl low ↦ low
  | inr high ↦ absurd (true≢false (sym h ∙ ap (λ b. cond b 4 2 == 2) (le-leb 0xe800 first high)))
]

narrow : (p : Profile) (first : ℕ) (i : Instr) (size : ℕ) → (size_of first == 2) ≡ true → standing_of_decoded (decode_result_for p first 0) ≡ Instruction i size → size ≡ 2
narrow p first i size h e =
    let low = is_low first h in
    of_size (size_of first) (decode_result_for p first 0) i size (sized_for p first 0 (omega (arith, low))) e ∙ eqb-true (size_of first) 2 h

wide : (p : Profile) (first second : ℕ) (i : Instr) (size : ℕ) → standing_of_decoded (decode_result_for p first second) ≡ Instruction i size → IsWhole size true
wide p first second i size e = ⊎_elim
    (λ (two : size ≡ 2). inl two)
    (λ (four : size ≡ 4). inr (four, refl))
    (is_size (decode_result_for p first second) i size (all_sized p first second) e)

by_size : (p : Profile) (udf short : Bool) (first : ℕ) (second : Bool) (h : Option ℕ) (i : Instr) (size : ℕ) → (size_of first == 2) ≡ short
    → (if udf then Udf else (if short then standing_of_decoded (decode_result_for p first 0) else wide_of p first (if second then h else None))) ≡ Instruction i size → IsWhole size second
by_size p true short first second h i size is e = absurd cc
by_size p false true first second h i size is e = inl (narrow p first i size is e)
by_size p false false first false h i size is e = absurd cc
by_size p false false first true None i size is e = absurd cc
by_size p false false first true (Some halfword) i size is e = wide p first halfword i size e

by_halfwords : (p : Profile) (first second : Bool) (h g : Option ℕ) (i : Instr) (size : ℕ) → standing_by p (if first then h else None) (if second then g else None) ≡ Instruction i size
    → (first ≡ true) × IsWhole size second
by_halfwords p false second h g i size e = absurd cc
by_halfwords p true second None g i size e = absurd cc
by_halfwords p true second (Some halfword) g i size e = (refl, by_size p (is_udf halfword) (size_of halfword == 2) halfword second g i size refl e)

pub stands : (s : FlowGraph) (p : ℕ) (i : Instr) (size : ℕ) → standing_at s p ≡ Instruction i size → (is_place s p ≡ true) × IsWhole size (is_place s (p + 1))
unfolding standing_at
stands s p i size e = by_halfwords (profile_of s.image) (is_place s p) (is_place s (p + 1)) (halfword_at s.image (address_of s p)) (halfword_at s.image (address_of s (p + 1))) i size e

-- ---- inside the function

place_inside : (s : FlowGraph) (p : ℕ) → is_place s p ≡ true → s.start + 2 * p < s.end
place_inside s p h =
    let a = address_of s p in
    let low = both (nat_le s.start a && nat_lt a s.end) ((a == s.start) || is_code_in s.image a) h in
    ltb-true a s.end (both (nat_le s.start a) (nat_lt a s.end) low.0).1

pub stands_inside : (s : FlowGraph) (p : ℕ) (i : Instr) (size : ℕ) → standing_at s p ≡ Instruction i size → s.start + 2 * p + size ≤ s.end + 1
stands_inside s p i size e =
    let w = stands s p i size e in ⊎_elim
    (λ (two : size ≡ 2). omega (arith, two, place_inside s p w.0))
    (λ (four : (size ≡ 4) × (is_place s (p + 1) ≡ true)). omega (arith, four.0, place_inside s (p + 1) four.1))
    w.1

pub stands_size : (s : FlowGraph) (p : ℕ) (i : Instr) (size : ℕ) → standing_at s p ≡ Instruction i size → (size ≡ 2) ⊎ (size ≡ 4)
stands_size s p i size e = ⊎_elim
    (λ (two : size ≡ 2). inl two)
    (λ (four : (size ≡ 4) × (is_place s (p + 1) ≡ true)). inr four.0)
    (stands s p i size e).1

pub stands_below : (s : FlowGraph) (p : ℕ) (i : Instr) (size : ℕ) → standing_at s p ≡ Instruction i size → p < places s
stands_below s p i size e = omega (arith, place_inside s p (stands s p i size e).0)
