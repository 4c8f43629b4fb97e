-- What the rows that the second profile has besides say of each range of halfwords.
use Rattle.std.proofs.Common.{◌≡◌, ℕ, ◌/◌, ◌%◌, ◌^◌, ◌<◌, ◌≤◌, Bool, true, false, not, ◌&&◌, ◌==◌, nat_lt, pos, ◌⊎◌, inl, inr, refl, arith, sym, ◌∙◌}
use Rattle.std.proofs.lemmas.Bool.{cases_lt}
use Rattle.std.proofs.lemmas.Bool.Decides.{nat_tests}
use Rattle.thumb_isa.specs.declared.instr.Instr.TheVariants.{Cbz, BWide, MovW, MovT, Div}
use Rattle.thumb_isa.specs.declared.instr.Decoded.TheVariants.{Is, Undefined, Unpredictable}
use Rattle.thumb_isa.specs.Fields.{field}
use Rattle.thumb_isa.specs.Range.{IsGeneral}
use Rattle.thumb_isa.specs.Rows.{bl_offset, cbz_offset, wide_d, wide_imm}
use Rattle.thumb_isa.specs.Laws.{late_of}
use Rattle.thumb_isa.proofs.LateSearch.{late_like, late_pair, late_each, late_when, each_digits, each_digits_at}

none_0000 : (h s : ℕ) → h < 0x8000 → late_of h s ≡ Undefined
none_0000 h s = late_like 0x0000 0x8000 s refl h (omega arith)

none_8000 : (h s : ℕ) → 0x8000 ≤ h → h < 0xa000 → late_of h s ≡ Undefined
none_8000 h s = late_like 0x8000 0x2000 s refl h

none_a000 : (h s : ℕ) → 0xa000 ≤ h → h < 0xb000 → late_of h s ≡ Undefined
none_a000 h s = late_like 0xa000 0x1000 s refl h

none_b000 : (h s : ℕ) → 0xb000 ≤ h → h < 0xb100 → late_of h s ≡ Undefined
none_b000 h s = late_like 0xb000 0x100 s refl h

pub none_below : (h s : ℕ) → h < 0xb100 → late_of h s ≡ Undefined
none_below h s below = grind (arith, none_0000 h s, none_8000 h s, none_a000 h s, none_b000 h s)

pub cbz_b1 : (h s : ℕ) → 0xb100 ≤ h → h < 0xb200 → late_of h s ≡ Is (Cbz (field h 11 1 == 1) (field h 0 3) (pos (cbz_offset h))) 2
cbz_b1 h s = late_like 0xb100 0x100 s refl h

pub none_b2 : (h s : ℕ) → 0xb200 ≤ h → h < 0xb300 → late_of h s ≡ Undefined
none_b2 h s = late_like 0xb200 0x100 s refl h

pub cbz_b3 : (h s : ℕ) → 0xb300 ≤ h → h < 0xb400 → late_of h s ≡ Is (Cbz (field h 11 1 == 1) (field h 0 3) (pos (cbz_offset h))) 2
cbz_b3 h s = late_like 0xb300 0x100 s refl h

pub none_b4 : (h s : ℕ) → 0xb400 ≤ h → h < 0xb900 → late_of h s ≡ Undefined
none_b4 h s = late_like 0xb400 0x500 s refl h

pub cbnz_b9 : (h s : ℕ) → 0xb900 ≤ h → h < 0xba00 → late_of h s ≡ Is (Cbz (field h 11 1 == 1) (field h 0 3) (pos (cbz_offset h))) 2
cbnz_b9 h s = late_like 0xb900 0x100 s refl h

pub none_ba : (h s : ℕ) → 0xba00 ≤ h → h < 0xbb00 → late_of h s ≡ Undefined
none_ba h s = late_like 0xba00 0x100 s refl h

pub cbnz_bb : (h s : ℕ) → 0xbb00 ≤ h → h < 0xbc00 → late_of h s ≡ Is (Cbz (field h 11 1 == 1) (field h 0 3) (pos (cbz_offset h))) 2
cbnz_bb h s = late_like 0xbb00 0x100 s refl h

none_bc00 : (h s : ℕ) → 0xbc00 ≤ h → h < 0xc000 → late_of h s ≡ Undefined
none_bc00 h s = late_like 0xbc00 0x400 s refl h

none_c000 : (h s : ℕ) → 0xc000 ≤ h → h < 0xe000 → late_of h s ≡ Undefined
none_c000 h s = late_like 0xc000 0x2000 s refl h

none_e000 : (h s : ℕ) → 0xe000 ≤ h → h < 0xf000 → late_of h s ≡ Undefined
none_e000 h s = late_like 0xe000 0x1000 s refl h

pub none_bc : (h s : ℕ) → 0xbc00 ≤ h → h < 0xf000 → late_of h s ≡ Undefined
none_bc h s above below = grind (arith, none_bc00 h s, none_c000 h s, none_e000 h s)

pub none_f8 : (h s : ℕ) → 0xf800 ≤ h → h < 0xfb90 → late_of h s ≡ Undefined
none_f8 h s = late_like 0xf800 0x390 s refl h

pub none_fba : (h s : ℕ) → 0xfba0 ≤ h → h < 0xfbb0 → late_of h s ≡ Undefined
none_fba h s = late_like 0xfba0 0x10 s refl h

pub none_fbc : (h s : ℕ) → 0xfbc0 ≤ h → h < 0x10000 → late_of h s ≡ Undefined
none_fbc h s = late_like 0xfbc0 0x440 s refl h

-- the pairs that begin with 11110: where the second halfword has its top bit
pub none_8 : (h s : ℕ) → 0xf000 ≤ h → h < 0xf800 → 0x8000 ≤ s → s < 0x9000 → late_of h s ≡ Undefined
none_8 h s = late_pair 0xf000 0x800 0x8000 0x1000 refl h s

pub b_wide_9 : (h s : ℕ) → 0xf000 ≤ h → h < 0xf800 → 0x9000 ≤ s → s < 0xa000 → late_of h s ≡ Is (BWide (bl_offset h s)) 4
b_wide_9 h s = late_pair 0xf000 0x800 0x9000 0x1000 refl h s

pub none_a : (h s : ℕ) → 0xf000 ≤ h → h < 0xf800 → 0xa000 ≤ s → s < 0xb000 → late_of h s ≡ Undefined
none_a h s = late_pair 0xf000 0x800 0xa000 0x1000 refl h s

pub b_wide_b : (h s : ℕ) → 0xf000 ≤ h → h < 0xf800 → 0xb000 ≤ s → s < 0xc000 → late_of h s ≡ Is (BWide (bl_offset h s)) 4
b_wide_b h s = late_pair 0xf000 0x800 0xb000 0x1000 refl h s

pub none_c : (h s : ℕ) → 0xf000 ≤ h → h < 0xf800 → 0xc000 ≤ s → s < 0x10000 → late_of h s ≡ Undefined
none_c h s = late_pair 0xf000 0x800 0xc000 0x4000 refl h s

-- and where it has not
pub none_f0 : (h s : ℕ) → 0xf000 ≤ h → h < 0xf240 → s < 0x8000 → late_of h s ≡ Undefined
none_f0 h s a b c = late_pair 0xf000 0x240 0x0000 0x8000 refl h s a b (omega arith) c

pub none_f25 : (h s : ℕ) → 0xf250 ≤ h → h < 0xf2c0 → s < 0x8000 → late_of h s ≡ Undefined
none_f25 h s a b c = late_pair 0xf250 0x70 0x0000 0x8000 refl h s a b (omega arith) c

pub none_f2d : (h s : ℕ) → 0xf2d0 ≤ h → h < 0xf640 → s < 0x8000 → late_of h s ≡ Undefined
none_f2d h s a b c = late_pair 0xf2d0 0x370 0x0000 0x8000 refl h s a b (omega arith) c

pub none_f65 : (h s : ℕ) → 0xf650 ≤ h → h < 0xf6c0 → s < 0x8000 → late_of h s ≡ Undefined
none_f65 h s a b c = late_pair 0xf650 0x70 0x0000 0x8000 refl h s a b (omega arith) c

pub none_f6d : (h s : ℕ) → 0xf6d0 ≤ h → h < 0xf800 → s < 0x8000 → late_of h s ≡ Undefined
none_f6d h s a b c = late_pair 0xf6d0 0x130 0x0000 0x8000 refl h s a b (omega arith) c

-- any register but sp and pc
abbrev is_general : ℕ → Bool
is_general r = nat_lt r 15 && not (r == 13)

abbrev any : ℕ → Bool
any x = true

general_test : (r : ℕ) → IsGeneral r → is_general r ≡ true
general_test r g = grind (arith, nat_tests, g.0, g.1)

is_test : (r k : ℕ) → r ≡ k → (r == k) ≡ true
is_test r k e = grind (arith, nat_tests)

-- the register is cut off the upper byte of the second halfword
abbrev of_upper : (ℕ → Bool) → ℕ → Bool
of_upper test x = test (x % 2 ^ 4)

mov_w_f2 : (h s : ℕ) → 0xf240 ≤ h → h < 0xf250 → s < 0x8000 → IsGeneral (wide_d s) → late_of h s ≡ Is (MovW (wide_d s) (wide_imm h s)) 4
mov_w_f2 h s a b c g =
    late_when any (of_upper is_general) 0xf240 0x10 8 0 0x80 h s refl a b (general_test (wide_d s) g) (omega arith) (omega arith) 12 refl

mov_w_f6 : (h s : ℕ) → 0xf640 ≤ h → h < 0xf650 → s < 0x8000 → IsGeneral (wide_d s) → late_of h s ≡ Is (MovW (wide_d s) (wide_imm h s)) 4
mov_w_f6 h s a b c g =
    late_when any (of_upper is_general) 0xf640 0x10 8 0 0x80 h s refl a b (general_test (wide_d s) g) (omega arith) (omega arith) 12 refl

mov_t_f2 : (h s : ℕ) → 0xf2c0 ≤ h → h < 0xf2d0 → s < 0x8000 → IsGeneral (wide_d s) → late_of h s ≡ Is (MovT (wide_d s) (wide_imm h s)) 4
mov_t_f2 h s a b c g =
    late_when any (of_upper is_general) 0xf2c0 0x10 8 0 0x80 h s refl a b (general_test (wide_d s) g) (omega arith) (omega arith) 13 refl

mov_t_f6 : (h s : ℕ) → 0xf6c0 ≤ h → h < 0xf6d0 → s < 0x8000 → IsGeneral (wide_d s) → late_of h s ≡ Is (MovT (wide_d s) (wide_imm h s)) 4
mov_t_f6 h s a b c g =
    late_when any (of_upper is_general) 0xf6c0 0x10 8 0 0x80 h s refl a b (general_test (wide_d s) g) (omega arith) (omega arith) 13 refl

-- into sp or pc, by the four blocks of first halfwords
none_w : (h s : ℕ) → (0xf240 ≤ h) × (h < 0xf250) ⊎ (0xf640 ≤ h) × (h < 0xf650) → s < 0x8000 → (r : ℕ) → r ≡ wide_d s → (r ≡ 13) ⊎ (r ≡ 15)
    → late_of h s ≡ Unpredictable
none_w h s (inl h2) c r e (inl d) = late_when any (of_upper (λ r. r == 13)) 0xf240 0x10 8 0 0x80 h s refl h2.0 h2.1 (is_test (wide_d s) 13 (sym e ∙ d)) (omega arith) (omega arith) 0 refl
none_w h s (inl h2) c r e (inr d) = late_when any (of_upper (λ r. r == 15)) 0xf240 0x10 8 0 0x80 h s refl h2.0 h2.1 (is_test (wide_d s) 15 (sym e ∙ d)) (omega arith) (omega arith) 1 refl
none_w h s (inr h6) c r e (inl d) = late_when any (of_upper (λ r. r == 13)) 0xf640 0x10 8 0 0x80 h s refl h6.0 h6.1 (is_test (wide_d s) 13 (sym e ∙ d)) (omega arith) (omega arith) 0 refl
none_w h s (inr h6) c r e (inr d) = late_when any (of_upper (λ r. r == 15)) 0xf640 0x10 8 0 0x80 h s refl h6.0 h6.1 (is_test (wide_d s) 15 (sym e ∙ d)) (omega arith) (omega arith) 1 refl

none_t : (h s : ℕ) → (0xf2c0 ≤ h) × (h < 0xf2d0) ⊎ (0xf6c0 ≤ h) × (h < 0xf6d0) → s < 0x8000 → (r : ℕ) → r ≡ wide_d s → (r ≡ 13) ⊎ (r ≡ 15)
    → late_of h s ≡ Unpredictable
none_t h s (inl h2) c r e (inl d) = late_when any (of_upper (λ r. r == 13)) 0xf2c0 0x10 8 0 0x80 h s refl h2.0 h2.1 (is_test (wide_d s) 13 (sym e ∙ d)) (omega arith) (omega arith) 2 refl
none_t h s (inl h2) c r e (inr d) = late_when any (of_upper (λ r. r == 15)) 0xf2c0 0x10 8 0 0x80 h s refl h2.0 h2.1 (is_test (wide_d s) 15 (sym e ∙ d)) (omega arith) (omega arith) 3 refl
none_t h s (inr h6) c r e (inl d) = late_when any (of_upper (λ r. r == 13)) 0xf6c0 0x10 8 0 0x80 h s refl h6.0 h6.1 (is_test (wide_d s) 13 (sym e ∙ d)) (omega arith) (omega arith) 2 refl
none_t h s (inr h6) c r e (inr d) = late_when any (of_upper (λ r. r == 15)) 0xf6c0 0x10 8 0 0x80 h s refl h6.0 h6.1 (is_test (wide_d s) 15 (sym e ∙ d)) (omega arith) (omega arith) 3 refl

-- MOVW, MOVT: the first halfword without i and imm4, which tell neither from the other
pub mov_w : (h s : ℕ) → 0xf240 ≤ h → h < 0xf650 → field h 0 10 / 2 ^ 4 ≡ 0x24 → s < 0x8000 → IsGeneral (wide_d s)
    → late_of h s ≡ Is (MovW (wide_d s) (wide_imm h s)) 4
mov_w h s a b e c g = elim (cases_lt h 0xf250) [
  | inl low ↦ mov_w_f2 h s a low c g
  | inr high ↦ mov_w_f6 h s (omega arith) b c g
]

pub mov_t : (h s : ℕ) → 0xf2c0 ≤ h → h < 0xf6d0 → field h 0 10 / 2 ^ 4 ≡ 0x2c → s < 0x8000 → IsGeneral (wide_d s)
    → late_of h s ≡ Is (MovT (wide_d s) (wide_imm h s)) 4
mov_t h s a b e c g = elim (cases_lt h 0xf2d0) [
  | inl low ↦ mov_t_f2 h s a low c g
  | inr high ↦ mov_t_f6 h s (omega arith) b c g
]

pub mov_w_none : (h s : ℕ) → 0xf240 ≤ h → h < 0xf650 → field h 0 10 / 2 ^ 4 ≡ 0x24 → s < 0x8000 → (wide_d s ≡ 13) ⊎ (wide_d s ≡ 15)
    → late_of h s ≡ Unpredictable
mov_w_none h s a b e c g = elim (cases_lt h 0xf250) [
  | inl low ↦ none_w h s (inl (a, low)) c (wide_d s) refl g
  | inr high ↦ none_w h s (inr (omega arith, b)) c (wide_d s) refl g
]

pub mov_t_none : (h s : ℕ) → 0xf2c0 ≤ h → h < 0xf6d0 → field h 0 10 / 2 ^ 4 ≡ 0x2c → s < 0x8000 → (wide_d s ≡ 13) ⊎ (wide_d s ≡ 15)
    → late_of h s ≡ Unpredictable
mov_t_none h s a b e c g = elim (cases_lt h 0xf2d0) [
  | inl low ↦ none_t h s (inl (a, low)) c (wide_d s) refl g
  | inr high ↦ none_t h s (inr (omega arith, b)) c (wide_d s) refl g
]

below_test : (r k : ℕ) → r < k → nat_lt r k ≡ true
below_test r k l = grind (arith, nat_tests)

abbrev at_first : (ℕ → Bool) → ℕ → Bool
at_first test h = test (field h 0 4)

sdiv_none_0 : (h s : ℕ) → 0xfb90 ≤ h → h < 0xfba0 → s < 0x8000 → late_of h s ≡ Undefined
sdiv_none_0 h s a b c = late_pair 0xfb90 0x10 0x0000 0x8000 refl h s a b (omega arith) c

sdiv_none_8 : (h s : ℕ) → 0xfb90 ≤ h → h < 0xfba0 → 0x8000 ≤ s → s < 0xc000 → late_of h s ≡ Undefined
sdiv_none_8 h s = late_pair 0xfb90 0x10 0x8000 0x4000 refl h s

sdiv_none_c : (h s : ℕ) → 0xfb90 ≤ h → h < 0xfba0 → 0xc000 ≤ s → s < 0xe000 → late_of h s ≡ Undefined
sdiv_none_c h s = late_pair 0xfb90 0x10 0xc000 0x2000 refl h s

sdiv_none_e : (h s : ℕ) → 0xfb90 ≤ h → h < 0xfba0 → 0xe000 ≤ s → s < 0xf000 → late_of h s ≡ Undefined
sdiv_none_e h s = late_pair 0xfb90 0x10 0xe000 0x1000 refl h s

pub sdiv_none : (h s : ℕ) → 0xfb90 ≤ h → h < 0xfba0 → s < 0xf000 → late_of h s ≡ Undefined
sdiv_none h s a b c = grind (arith, sdiv_none_0 h s, sdiv_none_8 h s, sdiv_none_c h s, sdiv_none_e h s)

pub sdiv_none_third : (h s : ℕ) → 0xfb90 ≤ h → h < 0xfba0 → 0xf000 ≤ s → s < 0x10000 → field s 4 4 < 15 → late_of h s ≡ Undefined
sdiv_none_third h s a b c d e =
    late_when any (λ x. nat_lt (x % 2 ^ 4) 15) 0xfb90 0x10 4 0xf00 0x100 h s refl a b (below_test (field s 4 4) 15 e) (omega arith) (omega arith) 16 refl

pub sdiv : (h s : ℕ) → 0xfb90 ≤ h → h < 0xfba0 → 0xf000 ≤ s → s < 0x10000 → field s 4 4 ≡ 15 → IsGeneral (field h 0 4) → IsGeneral (field s 8 4)
    → IsGeneral (field s 0 4)
    → late_of h s ≡ Is (Div true (field s 8 4) (field h 0 4) (field s 0 4)) 4
sdiv h s a b c d e n r m =
    late_each (at_first is_general) 0xfb90 0x10 0 (each_digits is_general is_general) h s (general_test (field h 0 4) n) a b
    (each_digits_at is_general is_general s c d e (general_test (field s 8 4) r) (general_test (field s 0 4) m)) 14 refl

pub sdiv_no_n : (h s : ℕ) → 0xfb90 ≤ h → h < 0xfba0 → 0xf000 ≤ s → s < 0x10000 → field s 4 4 ≡ 15 → (field h 0 4 ≡ 13) ⊎ (field h 0 4 ≡ 15)
    → late_of h s ≡ Unpredictable
sdiv_no_n h s a b c d e (inl w) =
    late_each (at_first (λ r. r == 13)) 0xfb90 0x10 0 (each_digits any any) h s (is_test (field h 0 4) 13 w) a b
    (each_digits_at any any s c d e refl refl) 4 refl
sdiv_no_n h s a b c d e (inr w) =
    late_each (at_first (λ r. r == 15)) 0xfb90 0x10 0 (each_digits any any) h s (is_test (field h 0 4) 15 w) a b
    (each_digits_at any any s c d e refl refl) 5 refl

pub sdiv_no_d : (h s : ℕ) → 0xfb90 ≤ h → h < 0xfba0 → 0xf000 ≤ s → s < 0x10000 → field s 4 4 ≡ 15 → IsGeneral (field h 0 4)
    → (field s 8 4 ≡ 13) ⊎ (field s 8 4 ≡ 15) → late_of h s ≡ Unpredictable
sdiv_no_d h s a b c d e n (inl w) =
    late_each (at_first is_general) 0xfb90 0x10 0 (each_digits (λ r. r == 13) any) h s (general_test (field h 0 4) n) a b
    (each_digits_at (λ r. r == 13) any s c d e (is_test (field s 8 4) 13 w) refl) 6 refl
sdiv_no_d h s a b c d e n (inr w) =
    late_each (at_first is_general) 0xfb90 0x10 0 (each_digits (λ r. r == 15) any) h s (general_test (field h 0 4) n) a b
    (each_digits_at (λ r. r == 15) any s c d e (is_test (field s 8 4) 15 w) refl) 7 refl

pub sdiv_no_m : (h s : ℕ) → 0xfb90 ≤ h → h < 0xfba0 → 0xf000 ≤ s → s < 0x10000 → field s 4 4 ≡ 15 → IsGeneral (field h 0 4) → IsGeneral (field s 8 4)
    → (field s 0 4 ≡ 13) ⊎ (field s 0 4 ≡ 15) → late_of h s ≡ Unpredictable
sdiv_no_m h s a b c d e n r (inl w) =
    late_each (at_first is_general) 0xfb90 0x10 0 (each_digits is_general (λ r. r == 13)) h s (general_test (field h 0 4) n) a b
    (each_digits_at is_general (λ r. r == 13) s c d e (general_test (field s 8 4) r) (is_test (field s 0 4) 13 w)) 8 refl
sdiv_no_m h s a b c d e n r (inr w) =
    late_each (at_first is_general) 0xfb90 0x10 0 (each_digits is_general (λ r. r == 15)) h s (general_test (field h 0 4) n) a b
    (each_digits_at is_general (λ r. r == 15) s c d e (general_test (field s 8 4) r) (is_test (field s 0 4) 15 w)) 9 refl

udiv_none_0 : (h s : ℕ) → 0xfbb0 ≤ h → h < 0xfbc0 → s < 0x8000 → late_of h s ≡ Undefined
udiv_none_0 h s a b c = late_pair 0xfbb0 0x10 0x0000 0x8000 refl h s a b (omega arith) c

udiv_none_8 : (h s : ℕ) → 0xfbb0 ≤ h → h < 0xfbc0 → 0x8000 ≤ s → s < 0xc000 → late_of h s ≡ Undefined
udiv_none_8 h s = late_pair 0xfbb0 0x10 0x8000 0x4000 refl h s

udiv_none_c : (h s : ℕ) → 0xfbb0 ≤ h → h < 0xfbc0 → 0xc000 ≤ s → s < 0xe000 → late_of h s ≡ Undefined
udiv_none_c h s = late_pair 0xfbb0 0x10 0xc000 0x2000 refl h s

udiv_none_e : (h s : ℕ) → 0xfbb0 ≤ h → h < 0xfbc0 → 0xe000 ≤ s → s < 0xf000 → late_of h s ≡ Undefined
udiv_none_e h s = late_pair 0xfbb0 0x10 0xe000 0x1000 refl h s

pub udiv_none : (h s : ℕ) → 0xfbb0 ≤ h → h < 0xfbc0 → s < 0xf000 → late_of h s ≡ Undefined
udiv_none h s a b c = grind (arith, udiv_none_0 h s, udiv_none_8 h s, udiv_none_c h s, udiv_none_e h s)

pub udiv_none_third : (h s : ℕ) → 0xfbb0 ≤ h → h < 0xfbc0 → 0xf000 ≤ s → s < 0x10000 → field s 4 4 < 15 → late_of h s ≡ Undefined
udiv_none_third h s a b c d e =
    late_when any (λ x. nat_lt (x % 2 ^ 4) 15) 0xfbb0 0x10 4 0xf00 0x100 h s refl a b (below_test (field s 4 4) 15 e) (omega arith) (omega arith) 16 refl

pub udiv : (h s : ℕ) → 0xfbb0 ≤ h → h < 0xfbc0 → 0xf000 ≤ s → s < 0x10000 → field s 4 4 ≡ 15 → IsGeneral (field h 0 4) → IsGeneral (field s 8 4)
    → IsGeneral (field s 0 4)
    → late_of h s ≡ Is (Div false (field s 8 4) (field h 0 4) (field s 0 4)) 4
udiv h s a b c d e n r m =
    late_each (at_first is_general) 0xfbb0 0x10 0 (each_digits is_general is_general) h s (general_test (field h 0 4) n) a b
    (each_digits_at is_general is_general s c d e (general_test (field s 8 4) r) (general_test (field s 0 4) m)) 15 refl

pub udiv_no_n : (h s : ℕ) → 0xfbb0 ≤ h → h < 0xfbc0 → 0xf000 ≤ s → s < 0x10000 → field s 4 4 ≡ 15 → (field h 0 4 ≡ 13) ⊎ (field h 0 4 ≡ 15)
    → late_of h s ≡ Unpredictable
udiv_no_n h s a b c d e (inl w) =
    late_each (at_first (λ r. r == 13)) 0xfbb0 0x10 0 (each_digits any any) h s (is_test (field h 0 4) 13 w) a b
    (each_digits_at any any s c d e refl refl) 4 refl
udiv_no_n h s a b c d e (inr w) =
    late_each (at_first (λ r. r == 15)) 0xfbb0 0x10 0 (each_digits any any) h s (is_test (field h 0 4) 15 w) a b
    (each_digits_at any any s c d e refl refl) 5 refl

pub udiv_no_d : (h s : ℕ) → 0xfbb0 ≤ h → h < 0xfbc0 → 0xf000 ≤ s → s < 0x10000 → field s 4 4 ≡ 15 → IsGeneral (field h 0 4)
    → (field s 8 4 ≡ 13) ⊎ (field s 8 4 ≡ 15) → late_of h s ≡ Unpredictable
udiv_no_d h s a b c d e n (inl w) =
    late_each (at_first is_general) 0xfbb0 0x10 0 (each_digits (λ r. r == 13) any) h s (general_test (field h 0 4) n) a b
    (each_digits_at (λ r. r == 13) any s c d e (is_test (field s 8 4) 13 w) refl) 6 refl
udiv_no_d h s a b c d e n (inr w) =
    late_each (at_first is_general) 0xfbb0 0x10 0 (each_digits (λ r. r == 15) any) h s (general_test (field h 0 4) n) a b
    (each_digits_at (λ r. r == 15) any s c d e (is_test (field s 8 4) 15 w) refl) 7 refl

pub udiv_no_m : (h s : ℕ) → 0xfbb0 ≤ h → h < 0xfbc0 → 0xf000 ≤ s → s < 0x10000 → field s 4 4 ≡ 15 → IsGeneral (field h 0 4) → IsGeneral (field s 8 4)
    → (field s 0 4 ≡ 13) ⊎ (field s 0 4 ≡ 15) → late_of h s ≡ Unpredictable
udiv_no_m h s a b c d e n r (inl w) =
    late_each (at_first is_general) 0xfbb0 0x10 0 (each_digits is_general (λ r. r == 13)) h s (general_test (field h 0 4) n) a b
    (each_digits_at is_general (λ r. r == 13) s c d e (general_test (field s 8 4) r) (is_test (field s 0 4) 13 w)) 8 refl
udiv_no_m h s a b c d e n r (inr w) =
    late_each (at_first is_general) 0xfbb0 0x10 0 (each_digits is_general (λ r. r == 15)) h s (general_test (field h 0 4) n) a b
    (each_digits_at is_general (λ r. r == 15) s c d e (general_test (field s 8 4) r) (is_test (field s 0 4) 15 w)) 9 refl

-- the rows of one halfword, and the ranges that none of them fits
pub ruleset late_table = (none_below, cbz_b1, none_b2, cbz_b3, none_b4, cbnz_b9, none_ba, cbnz_bb, none_bc, none_f8, none_fba, none_fbc)

-- the pairs that begin with 11110
pub ruleset late_pairs = (none_8, b_wide_9, none_a, b_wide_b, none_c, none_f0, none_f25, none_f2d, none_f65, none_f6d)

-- SDIV, UDIV
pub ruleset late_divisions = (none_f8, none_fba, none_fbc, sdiv_none, sdiv_none_third, sdiv, sdiv_no_n, sdiv_no_d, sdiv_no_m, udiv_none, udiv_none_third, udiv, udiv_no_n, udiv_no_d, udiv_no_m)
