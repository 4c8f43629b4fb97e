-- Codes that only move the virtual stack pointer.
use Rattle.std.proofs.Common.{◌≡◌, ℕ, ◌+◌, ◌-◌, ◌*◌, ◌%◌, ◌^◌, ◌<◌, false, List, [], ◌∷◌, ◌++◌, map, ap, sym, ◌∙◌, refl, arith, append_assoc}
use Rattle.std.specs.Prelude.{sum_by, flat_map}
use Rattle.std.specs.List.{list_any}
use Rattle.std.proofs.lemmas.List.{map-append}
use Rattle.std.proofs.lemmas.List.Sums.{sum_by-cons}
use Rattle.eh_bus.specs.Segment.{Segment}
use Rattle.eh_codes.specs.declared.code.UnwindCode.{UnwindCode}
use Rattle.eh_codes.specs.Cut.{Item, Is}
use Rattle.eh_codes.specs.Meaning.{Effect, Rises, Falls, Pops, Takes, Refuses, Finishes, effect}
use Rattle.asm_unwind.specs.Meaning.{rise_of, fall_of, pops_of, is_other, code_rise, code_fall, code_pops, is_other_code}
use Rattle.asm_unwind.proofs.KeptLemmas.{or_no}
use Rattle.eh_bytecode.specs.declared.frame.UnwindState.{UnwindState}
use Rattle.eh_bytecode.specs.Meaning.{Goes, effect_step, continue_unwind, run_codes}

-- an unwinding that has popped no pc
abbrev pub at : ℕ → List ℕ → UnwindState
at vsp r = record { vsp = vsp; r = r; popped_pc = false }

pub same_at : (v w : ℕ) (r : List ℕ) → v ≡ w → at v r ≡ at w r
same_at v w r e = ap (λ v. at v r) e

-- codes lead from one state to another, whatever stands after them
abbrev pub Reaches : List Segment → UnwindState → List UnwindCode → UnwindState → Type 0
Reaches segments s codes t = (following : List Item) → run_codes segments s (map Is codes ++ following) ≡ run_codes segments t following

pub reaches_append : (segments : List Segment) (s t u : UnwindState) (xs ys : List UnwindCode) → Reaches segments s xs t → Reaches segments t ys u → Reaches segments s (xs ++ ys) u
reaches_append segments s t u xs ys first second following =
    ap (λ l. run_codes segments s (l ++ following)) (map-append Is xs ys) ∙ ap (run_codes segments s) (append_assoc (map Is xs) (map Is ys) following)
    ∙ first (map Is ys ++ following) ∙ second following

pub reaches_to : (segments : List Segment) (s t u : UnwindState) (codes : List UnwindCode) → t ≡ u → Reaches segments s codes t → Reaches segments s codes u
reaches_to segments s t u codes e h following = h following ∙ ap (λ t. run_codes segments t following) e

pub reaches_by : (segments : List Segment) (s t : UnwindState) (xs ys : List UnwindCode) → xs ≡ ys → Reaches segments s ys t → Reaches segments s xs t
reaches_by segments s t xs ys e h following = ap (λ (l : List UnwindCode). run_codes segments s (map Is l ++ following)) e ∙ h following

pub reaches_more : (segments : List Segment) (s t u : UnwindState) (code : UnwindCode) (codes : List UnwindCode) → effect_step segments s (effect code) ≡ Goes t → Reaches segments t codes u → Reaches segments s (code ∷ codes) u
reaches_more segments s t u code codes e h following = ap (continue_unwind (λ next. run_codes segments next (map Is codes ++ following))) e ∙ h following

pub no_elements : {X : Type 0} (xs ys : List X) → xs ++ ys ≡ [] → (xs ≡ []) × (ys ≡ [])
no_elements [] ys h = (refl, h)
no_elements (x ∷ xs) ys h = cc

-- one that pops nothing only moves the pointer
vsp_after : (v : ℕ) (e : Effect) → ℕ
vsp_after v e = (v + rise_of e + (2 ^ 32 - fall_of e)) % 2 ^ 32

pops_none : (segments : List Segment) (v : ℕ) (r registers : List ℕ) → registers ≡ [] → effect_step segments (at v r) (Pops registers) ≡ Goes (at ((v + 4 * 0) % 2 ^ 32) r)
pops_none segments v r registers none = ap (λ l. effect_step segments (at v r) (Pops l)) none

one_moves : (segments : List Segment) (v : ℕ) (r : List ℕ) (e : Effect) → is_other e ≡ false → pops_of e ≡ [] → effect_step segments (at v r) e ≡ Goes (at (vsp_after v e) r)
unfolding vsp_after
one_moves segments v r (Rises by) other none = ap (λ v. Goes (at v r)) (let e : (v + by) % 2 ^ 32 ≡ (v + by + (2 ^ 32 - 0)) % 2 ^ 32 = omega arith in e)
one_moves segments v r (Falls by) other none = ap (λ v. Goes (at v r)) (let e : (v + (2 ^ 32 - by)) % 2 ^ 32 ≡ (v + 0 + (2 ^ 32 - by)) % 2 ^ 32 = omega arith in e)
one_moves segments v r (Pops registers) other none =
    pops_none segments v r registers none ∙ ap (λ v. Goes (at v r)) (let e : (v + 4 * 0) % 2 ^ 32 ≡ (v + 0 + (2 ^ 32 - 0)) % 2 ^ 32 = omega arith in e)
one_moves segments v r (Takes register) other none = cc
one_moves segments v r Refuses other none = cc
one_moves segments v r Finishes other none = cc

-- codes that only raise the pointer, and codes that only lower it
pub rising : (segments : List Segment) (v w : ℕ) (r : List ℕ) (codes : List UnwindCode) → sum_by code_fall codes ≡ 0 → flat_map code_pops codes ≡ [] → list_any is_other_code codes ≡ false →
    v + sum_by code_rise codes ≡ w → w < 2 ^ 32 → Reaches segments (at v r) codes (at w r)
unfolding vsp_after
rising segments v w r [] low none keep is small = λ following. ap (λ v. run_codes segments (at v r) following) (let e : v ≡ w = omega arith in e)
rising segments v w r (code ∷ codes) low none keep is small =
    let other = or_no (is_other_code code) (list_any is_other_code codes) keep in
    let nothing = no_elements (code_pops code) (flat_map code_pops codes) none in
    let lows : code_fall code + sum_by code_fall codes ≡ 0 = sym (sum_by-cons code_fall code codes) ∙ low in
    let ups : sum_by code_rise (code ∷ codes) ≡ code_rise code + sum_by code_rise codes = sum_by-cons code_rise code codes in
    reaches_more segments (at v r) (at (vsp_after v (effect code)) r) (at w r) code codes (one_moves segments v r (effect code) other.0 nothing.0)
    (rising segments (vsp_after v (effect code)) w r codes (omega (arith, lows)) nothing.1 other.1 (omega (arith, lows, ups)) small)

pub falling : (segments : List Segment) (v w : ℕ) (r : List ℕ) (codes : List UnwindCode) → sum_by code_rise codes ≡ 0 → flat_map code_pops codes ≡ [] → list_any is_other_code codes ≡ false →
    v ≡ w + sum_by code_fall codes → v < 2 ^ 32 → Reaches segments (at v r) codes (at w r)
unfolding vsp_after
falling segments v w r [] up none keep is small = λ following. ap (λ v. run_codes segments (at v r) following) (let e : v ≡ w = omega arith in e)
falling segments v w r (code ∷ codes) up none keep is small =
    let other = or_no (is_other_code code) (list_any is_other_code codes) keep in
    let nothing = no_elements (code_pops code) (flat_map code_pops codes) none in
    let ups : code_rise code + sum_by code_rise codes ≡ 0 = sym (sum_by-cons code_rise code codes) ∙ up in
    let lows : sum_by code_fall (code ∷ codes) ≡ code_fall code + sum_by code_fall codes = sum_by-cons code_fall code codes in
    reaches_more segments (at v r) (at (vsp_after v (effect code)) r) (at w r) code codes (one_moves segments v r (effect code) other.0 nothing.0)
    (falling segments (vsp_after v (effect code)) w r codes (omega (arith, ups)) nothing.1 other.1 (omega (arith, ups, lows)) (omega arith))

-- codes lead to some pointer and change no register
pub record Leads (segments : List Segment) (v : ℕ) (r : List ℕ) (codes : List UnwindCode) : Type 0 where
  pub to : ℕ
  pub reaches : Reaches segments (at v r) codes (at to r)

-- codes that pop nothing and don't end do
pub moving : (segments : List Segment) (v : ℕ) (r : List ℕ) (codes : List UnwindCode) → flat_map code_pops codes ≡ [] → list_any is_other_code codes ≡ false → Leads segments v r codes
moving segments v r [] none keep = record { to = v; reaches = λ following. refl }
moving segments v r (code ∷ codes) none keep =
    let other = or_no (is_other_code code) (list_any is_other_code codes) keep in
    let nothing = no_elements (code_pops code) (flat_map code_pops codes) none in
    let on = moving segments (vsp_after v (effect code)) r codes nothing.1 other.1 in
    record {
      to = on.to;
      reaches = reaches_more segments (at v r) (at (vsp_after v (effect code)) r) (at on.to r) code codes (one_moves segments v r (effect code) other.0 nothing.0) on.reaches;
    }
