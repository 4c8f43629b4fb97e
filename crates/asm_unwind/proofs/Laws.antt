-- The codes of a directive undo what it says.
use Rattle.std.proofs.Common.{◌≡◌, ◌≢◌, ℕ, zero, suc, ◌+◌, ◌-◌, ◌*◌, ◌/◌, ◌%◌, ◌<◌, ◌≤◌, Bool, true, false, cond, List, [], ◌∷◌, ◌++◌, Option, Some, None, ap, sym, refl, get_or, arith, replicate}
use Rattle.std.specs.Prelude.{◌==◌, nat_eq, nat_lt, nat_le}
use Rattle.std.specs.List.{range_with_len}
use Rattle.std.proofs.lemmas.Bool.Decides.{nat_tests}
use Rattle.std.proofs.lemmas.Bool.{ltb-false, eqb-true, eqb-false}
use Rattle.std.proofs.lemmas.List.Quantifiers.{position-Some}
use Rattle.eh_codes.specs.declared.code.UnwindCode.{UnwindCode}
use Rattle.eh_codes.specs.declared.code.UnwindCode.TheVariants.{Raise, Lower, PopLow, RaiseLong}
use Rattle.eh_codes.specs.declared.code.TheConstants.{LONG_LEAST}
use Rattle.asm_unwind.specs.declared.code.TheConstants.{MOST_STEP, WORDS_OF_MOST_STEP}
use Rattle.asm_unwind.specs.Codes.{high_code, mask_code, range_of, ranges}
use Rattle.asm_unwind.specs.Meaning.{code_rise, code_fall, code_pops, is_other_code, registers_in, InAll, PadsRaise, FramePointersLower, SavesPop}
use Rattle.asm_unwind.proofs.InAllLemmas.{in_all_none, in_all_one, in_all-append, in_all_as}
use Rattle.asm_unwind.proofs.RegisterLists.{registers_in-split, high_masked, low_masked}

pad_cases : (size : ℕ) (short middle : Bool) → nat_le size MOST_STEP ≡ short → nat_le size (2 * MOST_STEP) ≡ middle → 0 < size → size % 4 ≡ 0 →
    InAll (cond short (Raise ((size - 4) / 4) ∷ []) (cond middle (Raise WORDS_OF_MOST_STEP ∷ Raise ((size - (MOST_STEP + 4)) / 4) ∷ []) (RaiseLong ((size - LONG_LEAST) / 4) ∷ []))) size 0 []
pad_cases size true middle s m some whole = record { raise = grind (arith, nat_tests); lower = refl; pop = refl; keep = refl }
pad_cases size false true s m some whole = record { raise = grind (arith, nat_tests); lower = refl; pop = refl; keep = refl }
pad_cases size false false s m some whole = record { raise = grind (arith, nat_tests); lower = refl; pop = refl; keep = refl }

-- the codes of a pad raise the virtual stack pointer by it
pub law_of_pads : PadsRaise
law_of_pads size some whole = pad_cases size (nat_le size MOST_STEP) (nat_le size (2 * MOST_STEP)) refl refl some whole

lower_steps : (n : ℕ) → InAll (replicate n (Lower WORDS_OF_MOST_STEP)) 0 (n * MOST_STEP) []
lower_steps zero = in_all_none
lower_steps (suc n) =
    let one : InAll (Lower WORDS_OF_MOST_STEP ∷ []) 0 MOST_STEP [] = record { raise = refl; lower = refl; pop = refl; keep = refl } in
    in_all_as (replicate (suc n) (Lower WORDS_OF_MOST_STEP)) 0 (MOST_STEP + n * MOST_STEP) 0 (suc n * MOST_STEP) [] refl (omega arith)
    (in_all-append (Lower WORDS_OF_MOST_STEP ∷ []) (replicate n (Lower WORDS_OF_MOST_STEP)) 0 MOST_STEP 0 (n * MOST_STEP) [] [] one (lower_steps n))

lower_cases : (size : ℕ) (none : Bool) → (size == 0) ≡ none → size % 4 ≡ 0 →
    InAll (cond none [] (replicate ((size - 4) / MOST_STEP) (Lower WORDS_OF_MOST_STEP) ++ Lower ((size - 4) % MOST_STEP / 4) ∷ [])) 0 size []
lower_cases size true s whole = in_all_as [] 0 0 0 size [] refl (sym (eqb-true size 0 s)) in_all_none
lower_cases size false s whole =
    let some : size ≢ 0 = eqb-false size 0 s in
    let last : UnwindCode = Lower ((size - 4) % MOST_STEP / 4) in
    in_all_as (replicate ((size - 4) / MOST_STEP) (Lower WORDS_OF_MOST_STEP) ++ last ∷ []) 0 ((size - 4) / MOST_STEP * MOST_STEP + ((size - 4) % MOST_STEP / 4 * 4 + 4)) 0 size [] refl (omega arith)
    (in_all-append (replicate ((size - 4) / MOST_STEP) (Lower WORDS_OF_MOST_STEP)) (last ∷ []) 0 ((size - 4) / MOST_STEP * MOST_STEP) 0 ((size - 4) % MOST_STEP / 4 * 4 + 4) [] []
    (lower_steps ((size - 4) / MOST_STEP)) (in_all_one last refl))

-- the codes of a frame pointer's offset lower the virtual stack pointer by it
pub law_of_offsets : FramePointersLower
law_of_offsets size whole = lower_cases size (size == 0) refl whole

-- the registers of a range from r4 on, and of such a range with lr, by its mask
range_at : (h n : ℕ) → n < 8 → nat_eq (get_or ranges n 0) h ≡ true → range_with_len 4 (n + 1) ≡ registers_in (16 * h)
range_at h zero l e = ap (λ h. registers_in (16 * h)) (eqb-true 0x01 h e)
range_at h (suc zero) l e = ap (λ h. registers_in (16 * h)) (eqb-true 0x03 h e)
range_at h (suc (suc zero)) l e = ap (λ h. registers_in (16 * h)) (eqb-true 0x07 h e)
range_at h (suc (suc (suc zero))) l e = ap (λ h. registers_in (16 * h)) (eqb-true 0x0F h e)
range_at h (suc (suc (suc (suc zero)))) l e = ap (λ h. registers_in (16 * h)) (eqb-true 0x1F h e)
range_at h (suc (suc (suc (suc (suc zero))))) l e = ap (λ h. registers_in (16 * h)) (eqb-true 0x3F h e)
range_at h (suc (suc (suc (suc (suc (suc zero)))))) l e = ap (λ h. registers_in (16 * h)) (eqb-true 0x7F h e)
range_at h (suc (suc (suc (suc (suc (suc (suc zero))))))) l e = ap (λ h. registers_in (16 * h)) (eqb-true 0xFF h e)
range_at h (suc (suc (suc (suc (suc (suc (suc (suc n)))))))) l e = absurd (omega arith)

range_is : (h n : ℕ) → range_of h ≡ Some n → range_with_len 4 (n + 1) ≡ registers_in (16 * h)
range_is h n e =
    let found = position-Some (λ range. range == h) ranges n 0 e in
    range_at h n found.0 found.1

lr_at : (h n : ℕ) → 0x400 ≤ h → n < 8 → nat_eq (get_or ranges n 0) (h - 0x400) ≡ true → range_with_len 4 (n + 1) ++ 14 ∷ [] ≡ registers_in (16 * h)
lr_at h zero m l e = ap (λ h. registers_in (16 * h)) (let was : 0x01 ≡ h - 0x400 = eqb-true 0x01 (h - 0x400) e in let is : 0x401 ≡ h = omega arith in is)
lr_at h (suc zero) m l e = ap (λ h. registers_in (16 * h)) (let was : 0x03 ≡ h - 0x400 = eqb-true 0x03 (h - 0x400) e in let is : 0x403 ≡ h = omega arith in is)
lr_at h (suc (suc zero)) m l e = ap (λ h. registers_in (16 * h)) (let was : 0x07 ≡ h - 0x400 = eqb-true 0x07 (h - 0x400) e in let is : 0x407 ≡ h = omega arith in is)
lr_at h (suc (suc (suc zero))) m l e = ap (λ h. registers_in (16 * h)) (let was : 0x0F ≡ h - 0x400 = eqb-true 0x0F (h - 0x400) e in let is : 0x40F ≡ h = omega arith in is)
lr_at h (suc (suc (suc (suc zero)))) m l e = ap (λ h. registers_in (16 * h)) (let was : 0x1F ≡ h - 0x400 = eqb-true 0x1F (h - 0x400) e in let is : 0x41F ≡ h = omega arith in is)
lr_at h (suc (suc (suc (suc (suc zero))))) m l e = ap (λ h. registers_in (16 * h)) (let was : 0x3F ≡ h - 0x400 = eqb-true 0x3F (h - 0x400) e in let is : 0x43F ≡ h = omega arith in is)
lr_at h (suc (suc (suc (suc (suc (suc zero)))))) m l e = ap (λ h. registers_in (16 * h)) (let was : 0x7F ≡ h - 0x400 = eqb-true 0x7F (h - 0x400) e in let is : 0x47F ≡ h = omega arith in is)
lr_at h (suc (suc (suc (suc (suc (suc (suc zero))))))) m l e = ap (λ h. registers_in (16 * h)) (let was : 0xFF ≡ h - 0x400 = eqb-true 0xFF (h - 0x400) e in let is : 0x4FF ≡ h = omega arith in is)
lr_at h (suc (suc (suc (suc (suc (suc (suc (suc n)))))))) m l e = absurd (omega arith)

lr_is : (h n : ℕ) (small : Bool) → nat_lt h 0x400 ≡ small → cond small None (range_of (h - 0x400)) ≡ Some n → range_with_len 4 (n + 1) ++ 14 ∷ [] ≡ registers_in (16 * h)
lr_is h n true s e = cc
lr_is h n false s e =
    let found = position-Some (λ range. range == h - 0x400) ranges n 0 e in
    lr_at h n (ltb-false h 0x400 s) found.0 found.1

mask_popped : (h : ℕ) (a b : Option ℕ) → ((n : ℕ) → a ≡ Some n → range_with_len 4 (n + 1) ≡ registers_in (16 * h)) → ((n : ℕ) → b ≡ Some n → range_with_len 4 (n + 1) ++ 14 ∷ [] ≡ registers_in (16 * h)) →
    code_pops (mask_code h a b) ≡ registers_in (16 * h)
mask_popped h (Some n) b f g = f n refl
mask_popped h None (Some n) f g = g n refl
mask_popped h None None f g = high_masked h

-- the code for a mask of r4 to lr pops just these registers
popped-high_code : (h : ℕ) → code_pops (high_code h) ≡ registers_in (16 * h)
unfolding high_code
popped-high_code h = mask_popped h (range_of h) (cond (nat_lt h 0x400) None (range_of (h - 0x400))) (λ n. range_is h n) (λ n. lr_is h n (nat_lt h 0x400) refl)

-- it does no more than pop
abbrev OnlyPops : UnwindCode → Type 0
OnlyPops code = (code_rise code ≡ 0) × (code_fall code ≡ 0) × (is_other_code code ≡ false)

mask_only_pops : (h : ℕ) (a b : Option ℕ) → OnlyPops (mask_code h a b)
mask_only_pops h (Some n) b = (refl, refl, refl)
mask_only_pops h None (Some n) = (refl, refl, refl)
mask_only_pops h None None = (refl, refl, refl)

high_only_pops : (h : ℕ) → OnlyPops (high_code h)
unfolding high_code
high_only_pops h = mask_only_pops h (range_of h) (cond (nat_lt h 0x400) None (range_of (h - 0x400)))

-- where there is a code, it pops this list, and where there is none, the list is empty
code_or_none : (n registers : ℕ) (none : Bool) (code : UnwindCode) → (n == 0) ≡ none → (n ≡ 0 → registers ≡ 0) → code_pops code ≡ registers_in registers → OnlyPops code →
    InAll (cond none [] (code ∷ [])) 0 0 (registers_in registers)
code_or_none n registers true code s zeros e m = rw (zeros (eqb-true n 0 s)) in_all_none
code_or_none n registers false code s zeros e m = rw (← e) (in_all_as (code ∷ []) (code_rise code) (code_fall code) 0 0 (code_pops code) m.0 m.1 (in_all_one code m.2))

-- the codes of a register list pop its registers, the lowest first
pub law_of_saves : SavesPop
law_of_saves registers =
    let low : List UnwindCode = cond (registers % 16 == 0) [] (PopLow (registers % 16) ∷ []) in
    let high : List UnwindCode = cond (registers / 16 == 0) [] (high_code (registers / 16) ∷ []) in
    let lows : InAll low 0 0 (registers_in (registers % 16)) = code_or_none (registers % 16) (registers % 16) (registers % 16 == 0) (PopLow (registers % 16)) refl (λ z. z) (low_masked registers) (refl, refl, refl) in
    let highs : InAll high 0 0 (registers_in (16 * (registers / 16))) = code_or_none (registers / 16) (16 * (registers / 16)) (registers / 16 == 0) (high_code (registers / 16)) refl (λ z. ap (λ x. 16 * x) z) (popped-high_code (registers / 16)) (high_only_pops (registers / 16)) in
    rw (registers_in-split registers) (in_all-append low high 0 0 0 0 (registers_in (registers % 16)) (registers_in (16 * (registers / 16))) lows highs)
