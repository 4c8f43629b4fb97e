-- What each range of halfwords means, in the order of the halfwords.
use Rattle.std.proofs.Common.{◌≡◌, ℕ, ◌+◌, ◌*◌, ◌^◌, ◌<◌, ◌≤◌, Bool, true, not, ◌&&◌, ◌||◌, ◌==◌, nat_lt, pos, ◌⊎◌, refl, arith}
use Rattle.std.proofs.lemmas.Bool.Decides.{nat_tests}
use Rattle.thumb_isa.specs.declared.instr.Instr.TheVariants.{ShiftImm, AddSubReg, AddSubImm3, Imm8, Alu, AddHigh, CmpHigh, MovHigh, Bx, Blx, LdrLit, MemReg, MemImm, MemSp, Adr, AddRdSp, AddSp, SubSp, Extend, Rev, Push, Pop, Hint, Stm, Ldm, BCond, Svc, B, Bl, Barrier}
use Rattle.thumb_isa.specs.declared.instr.Decoded.TheVariants.{Is, Undefined, Unpredictable, NotInProfile}
use Rattle.thumb_isa.specs.Fields.{field, signed_value}
use Rattle.thumb_isa.specs.Rows.{decode_result, bl_offset, high_register, right_amount}
use Rattle.thumb_isa.proofs.Search.{decoded_like, decoded_where, decoded_pair, unpredictable_where}

pub lsl : (h s : ℕ) → h < 0x0800 → decode_result h s ≡ Is (ShiftImm 0 (field h 0 3) (field h 3 3) (field h 6 5)) 2
lsl h s = decoded_like 0x0000 0x800 s refl h (omega arith)

pub lsr : (h s : ℕ) → 0x0800 ≤ h → h < 0x1000 → decode_result h s ≡ Is (ShiftImm 1 (field h 0 3) (field h 3 3) (right_amount h)) 2
lsr h s = decoded_like 0x0800 0x800 s refl h

pub asr : (h s : ℕ) → 0x1000 ≤ h → h < 0x1800 → decode_result h s ≡ Is (ShiftImm 2 (field h 0 3) (field h 3 3) (right_amount h)) 2
asr h s = decoded_like 0x1000 0x800 s refl h

pub add_sub_reg : (h s : ℕ) → 0x1800 ≤ h → h < 0x1c00 → decode_result h s ≡ Is (AddSubReg (field h 9 1 == 1) (field h 0 3) (field h 3 3) (field h 6 3)) 2
add_sub_reg h s = decoded_like 0x1800 0x400 s refl h

pub add_sub_imm : (h s : ℕ) → 0x1c00 ≤ h → h < 0x2000 → decode_result h s ≡ Is (AddSubImm3 (field h 9 1 == 1) (field h 0 3) (field h 3 3) (field h 6 3)) 2
add_sub_imm h s = decoded_like 0x1c00 0x400 s refl h

pub imm8 : (h s : ℕ) → 0x2000 ≤ h → h < 0x4000 → decode_result h s ≡ Is (Imm8 (field h 11 2) (field h 8 3) (field h 0 8)) 2
imm8 h s = decoded_like 0x2000 0x2000 s refl h

pub alu : (h s : ℕ) → 0x4000 ≤ h → h < 0x4400 → decode_result h s ≡ Is (Alu (field h 6 4) (field h 0 3) (field h 3 3)) 2
alu h s = decoded_like 0x4000 0x400 s refl h

pub add_high : (h s : ℕ) → 0x4400 ≤ h → h < 0x44ff → decode_result h s ≡ Is (AddHigh (high_register h) (field h 3 4)) 2
add_high h s = decoded_like 0x4400 0xff s refl h

pub add_high_both : (h s : ℕ) → h ≡ 0x44ff → decode_result h s ≡ Unpredictable
add_high_both h s e = decoded_like 0x44ff 1 s refl h (omega arith) (omega arith)

abbrev cmp_high_fits : ℕ → Bool
cmp_high_fits h = not (nat_lt (high_register h) 8 && nat_lt (field h 3 4) 8) && (nat_lt (high_register h) 15 && nat_lt (field h 3 4) 15)

cmp_high_test : (n m : ℕ) → n < 15 → m < 15 → ((8 ≤ n) ⊎ (8 ≤ m)) → (not (nat_lt n 8 && nat_lt m 8) && (nat_lt n 15 && nat_lt m 15)) ≡ true
cmp_high_test n m a b e = grind (arith, nat_tests)

pub cmp_high : (h s : ℕ) → 0x4500 ≤ h → h < 0x4600 → high_register h < 15 → field h 3 4 < 15 → ((8 ≤ high_register h) ⊎ (8 ≤ field h 3 4))
    → decode_result h s ≡ Is (CmpHigh (high_register h) (field h 3 4)) 2
cmp_high h s a b n m e =
    decoded_where cmp_high_fits 0x4540 0x4500 0x100 s refl h a b (cmp_high_test (high_register h) (field h 3 4) n m e)

cmp_low_test : (n m : ℕ) → n < 8 → m < 8 → (nat_lt n 8 && nat_lt m 8) ≡ true
cmp_low_test n m a b = grind (arith, nat_tests)

is_15_test : (n : ℕ) → n ≡ 15 → (n == 15) ≡ true
is_15_test n e = grind (arith, nat_tests)

pub cmp_high_low : (h s : ℕ) → 0x4500 ≤ h → h < 0x4600 → high_register h < 8 → field h 3 4 < 8 → decode_result h s ≡ Unpredictable
cmp_high_low h s a b n m =
    unpredictable_where (λ h. nat_lt (high_register h) 8 && nat_lt (field h 3 4) 8) 0x4500 0x100 s refl h a b
    (cmp_low_test (high_register h) (field h 3 4) n m)

pub cmp_high_n : (h s : ℕ) → 0x4500 ≤ h → h < 0x4600 → high_register h ≡ 15 → decode_result h s ≡ Unpredictable
cmp_high_n h s a b e =
    unpredictable_where (λ h. high_register h == 15) 0x4500 0x100 s refl h a b (is_15_test (high_register h) e)

pub cmp_high_m : (h s : ℕ) → 0x4500 ≤ h → h < 0x4600 → field h 3 4 ≡ 15 → decode_result h s ≡ Unpredictable
cmp_high_m h s a b e =
    unpredictable_where (λ h. field h 3 4 == 15) 0x4500 0x100 s refl h a b (is_15_test (field h 3 4) e)

pub mov_high : (h s : ℕ) → 0x4600 ≤ h → h < 0x4700 → decode_result h s ≡ Is (MovHigh (high_register h) (field h 3 4)) 2
mov_high h s = decoded_like 0x4600 0x100 s refl h

abbrev bx_fits : ℕ → Bool
bx_fits h = (field h 0 3 == 0) && nat_lt (field h 3 4) 15

bx_test : (n m : ℕ) → n ≡ 0 → m < 15 → ((n == 0) && nat_lt m 15) ≡ true
bx_test n m e l = grind (arith, nat_tests)

pub bx : (h s : ℕ) → 0x4700 ≤ h → h < 0x4780 → field h 0 3 ≡ 0 → field h 3 4 < 15 → decode_result h s ≡ Is (Bx (field h 3 4)) 2
bx h s a b n m = decoded_where bx_fits 0x4700 0x4700 0x80 s refl h a b (bx_test (field h 0 3) (field h 3 4) n m)

pub blx : (h s : ℕ) → 0x4780 ≤ h → h < 0x4800 → field h 0 3 ≡ 0 → field h 3 4 < 15 → decode_result h s ≡ Is (Blx (field h 3 4)) 2
blx h s a b n m = decoded_where bx_fits 0x4780 0x4780 0x80 s refl h a b (bx_test (field h 0 3) (field h 3 4) n m)

not_0_test : (n : ℕ) → 0 < n → not (n == 0) ≡ true
not_0_test n l = grind (arith, nat_tests)

pub bx_low_bits : (h s : ℕ) → 0x4700 ≤ h → h < 0x4800 → 0 < field h 0 3 → decode_result h s ≡ Unpredictable
bx_low_bits h s a b l =
    unpredictable_where (λ h. not (field h 0 3 == 0)) 0x4700 0x100 s refl h a b (not_0_test (field h 0 3) l)

pub bx_pc : (h s : ℕ) → 0x4700 ≤ h → h < 0x4800 → field h 3 4 ≡ 15 → decode_result h s ≡ Unpredictable
bx_pc h s a b e =
    unpredictable_where (λ h. field h 3 4 == 15) 0x4700 0x100 s refl h a b (is_15_test (field h 3 4) e)

pub ldr_lit : (h s : ℕ) → 0x4800 ≤ h → h < 0x5000 → decode_result h s ≡ Is (LdrLit (field h 8 3) (pos (field h 0 8 * 4))) 2
ldr_lit h s = decoded_like 0x4800 0x800 s refl h

pub mem_reg : (h s : ℕ) → 0x5000 ≤ h → h < 0x6000 → decode_result h s ≡ Is (MemReg (field h 9 3) (field h 0 3) (field h 3 3) (field h 6 3)) 2
mem_reg h s = decoded_like 0x5000 0x1000 s refl h

pub mem_word : (h s : ℕ) → 0x6000 ≤ h → h < 0x7000 → decode_result h s ≡ Is (MemImm (field h 11 1) (field h 0 3) (field h 3 3) (pos (field h 6 5 * 4))) 2
mem_word h s = decoded_like 0x6000 0x1000 s refl h

pub mem_byte : (h s : ℕ) → 0x7000 ≤ h → h < 0x8000 → decode_result h s ≡ Is (MemImm (2 + field h 11 1) (field h 0 3) (field h 3 3) (pos (field h 6 5))) 2
mem_byte h s = decoded_like 0x7000 0x1000 s refl h

pub mem_half : (h s : ℕ) → 0x8000 ≤ h → h < 0x9000 → decode_result h s ≡ Is (MemImm (4 + field h 11 1) (field h 0 3) (field h 3 3) (pos (field h 6 5 * 2))) 2
mem_half h s = decoded_like 0x8000 0x1000 s refl h

pub mem_sp : (h s : ℕ) → 0x9000 ≤ h → h < 0xa000 → decode_result h s ≡ Is (MemSp (field h 11 1 == 1) (field h 8 3) (pos (field h 0 8 * 4))) 2
mem_sp h s = decoded_like 0x9000 0x1000 s refl h

pub adr : (h s : ℕ) → 0xa000 ≤ h → h < 0xa800 → decode_result h s ≡ Is (Adr (field h 8 3) (pos (field h 0 8 * 4))) 2
adr h s = decoded_like 0xa000 0x800 s refl h

pub add_rd_sp : (h s : ℕ) → 0xa800 ≤ h → h < 0xb000 → decode_result h s ≡ Is (AddRdSp (field h 8 3) (pos (field h 0 8 * 4))) 2
add_rd_sp h s = decoded_like 0xa800 0x800 s refl h

pub add_sp : (h s : ℕ) → 0xb000 ≤ h → h < 0xb080 → decode_result h s ≡ Is (AddSp (pos (field h 0 7 * 4))) 2
add_sp h s = decoded_like 0xb000 0x80 s refl h

pub sub_sp : (h s : ℕ) → 0xb080 ≤ h → h < 0xb100 → decode_result h s ≡ Is (SubSp (pos (field h 0 7 * 4))) 2
sub_sp h s = decoded_like 0xb080 0x80 s refl h

pub none_b100 : (h s : ℕ) → 0xb100 ≤ h → h < 0xb200 → decode_result h s ≡ Undefined
none_b100 h s = decoded_like 0xb100 0x100 s refl h

pub extend : (h s : ℕ) → 0xb200 ≤ h → h < 0xb300 → decode_result h s ≡ Is (Extend (field h 6 2) (field h 0 3) (field h 3 3)) 2
extend h s = decoded_like 0xb200 0x100 s refl h

pub none_b300 : (h s : ℕ) → 0xb300 ≤ h → h < 0xb400 → decode_result h s ≡ Undefined
none_b300 h s = decoded_like 0xb300 0x100 s refl h

pub push_none : (h s : ℕ) → h ≡ 0xb400 → decode_result h s ≡ Unpredictable
push_none h s e = decoded_like 0xb400 1 s refl h (omega arith) (omega arith)

pub push : (h s : ℕ) → 0xb401 ≤ h → h < 0xb600 → decode_result h s ≡ Is (Push (field h 0 8 + field h 8 1 * 2 ^ 14)) 2
push h s = decoded_like 0xb401 0x1ff s refl h

pub none_b600 : (h s : ℕ) → 0xb600 ≤ h → h < 0xb660 → decode_result h s ≡ Undefined
none_b600 h s = decoded_like 0xb600 0x60 s refl h

pub cps : (h s : ℕ) → 0xb660 ≤ h → h < 0xb680 → decode_result h s ≡ NotInProfile
cps h s = decoded_like 0xb660 0x20 s refl h

pub none_b680 : (h s : ℕ) → 0xb680 ≤ h → h < 0xba00 → decode_result h s ≡ Undefined
none_b680 h s = decoded_like 0xb680 0x380 s refl h

pub rev : (h s : ℕ) → 0xba00 ≤ h → h < 0xba80 → decode_result h s ≡ Is (Rev (field h 6 2) (field h 0 3) (field h 3 3)) 2
rev h s = decoded_like 0xba00 0x80 s refl h

pub none_ba80 : (h s : ℕ) → 0xba80 ≤ h → h < 0xbac0 → decode_result h s ≡ Undefined
none_ba80 h s = decoded_like 0xba80 0x40 s refl h

pub revsh : (h s : ℕ) → 0xbac0 ≤ h → h < 0xbb00 → decode_result h s ≡ Is (Rev 3 (field h 0 3) (field h 3 3)) 2
revsh h s = decoded_like 0xbac0 0x40 s refl h

pub none_bb00 : (h s : ℕ) → 0xbb00 ≤ h → h < 0xbc00 → decode_result h s ≡ Undefined
none_bb00 h s = decoded_like 0xbb00 0x100 s refl h

pub pop_none : (h s : ℕ) → h ≡ 0xbc00 → decode_result h s ≡ Unpredictable
pop_none h s e = decoded_like 0xbc00 1 s refl h (omega arith) (omega arith)

pub pop : (h s : ℕ) → 0xbc01 ≤ h → h < 0xbe00 → decode_result h s ≡ Is (Pop (field h 0 8 + field h 8 1 * 2 ^ 15)) 2
pop h s = decoded_like 0xbc01 0x1ff s refl h

pub bkpt : (h s : ℕ) → 0xbe00 ≤ h → h < 0xbf00 → decode_result h s ≡ NotInProfile
bkpt h s = decoded_like 0xbe00 0x100 s refl h

is_0_test : (n : ℕ) → n ≡ 0 → (n == 0) ≡ true
is_0_test n e = grind (arith, nat_tests)

pub hint : (h s : ℕ) → 0xbf00 ≤ h → h < 0xc000 → field h 0 4 ≡ 0 → decode_result h s ≡ Is (Hint (field h 4 4)) 2
hint h s a b e = decoded_where (λ h. field h 0 4 == 0) 0xbf00 0xbf00 0x100 s refl h a b (is_0_test (field h 0 4) e)

pub none_bf01 : (h s : ℕ) → 0xbf00 ≤ h → h < 0xc000 → 0 < field h 0 4 → decode_result h s ≡ Undefined
none_bf01 h s a b l = decoded_where (λ h. not (field h 0 4 == 0)) 0xbf01 0xbf00 0x100 s refl h a b (not_0_test (field h 0 4) l)

-- the base is in the list, and so is a lower register
abbrev pub base_bit : ℕ → ℕ
base_bit h = field h (field h 8 3) 1

abbrev pub below_base : ℕ → ℕ
below_base h = field h 0 (field h 8 3)

abbrev stm_fits : ℕ → Bool
stm_fits h = not (field h 0 8 == 0) && ((base_bit h == 0) || (below_base h == 0))

stm_test : (list bit low : ℕ) → 0 < list → ((bit ≡ 0) ⊎ (low ≡ 0)) → (not (list == 0) && ((bit == 0) || (low == 0))) ≡ true
stm_test list bit low l e = grind (arith, nat_tests)

pub stm : (h s : ℕ) → 0xc000 ≤ h → h < 0xc800 → 0 < field h 0 8 → ((base_bit h ≡ 0) ⊎ (below_base h ≡ 0)) → decode_result h s ≡ Is (Stm (field h 8 3) (field h 0 8)) 2
stm h s a b l e = decoded_where stm_fits 0xc001 0xc000 0x800 s refl h a b (stm_test (field h 0 8) (base_bit h) (below_base h) l e)

stm_base_test : (bit low : ℕ) → bit ≡ 1 → 0 < low → ((bit == 1) && not (low == 0)) ≡ true
stm_base_test bit low e l = grind (arith, nat_tests)

pub stm_base : (h s : ℕ) → 0xc000 ≤ h → h < 0xc800 → base_bit h ≡ 1 → 0 < below_base h → decode_result h s ≡ Unpredictable
stm_base h s a b e l =
    unpredictable_where (λ h. (base_bit h == 1) && not (below_base h == 0)) 0xc000 0x800 s refl h a b (stm_base_test (base_bit h) (below_base h) e l)

pub list_none : (h s : ℕ) → 0xc000 ≤ h → h < 0xd000 → field h 0 8 ≡ 0 → decode_result h s ≡ Unpredictable
list_none h s a b e =
    unpredictable_where (λ h. field h 0 8 == 0) 0xc000 0x1000 s refl h a b (is_0_test (field h 0 8) e)

pub ldm : (h s : ℕ) → 0xc800 ≤ h → h < 0xd000 → 0 < field h 0 8 → decode_result h s ≡ Is (Ldm (field h 8 3) (field h 0 8)) 2
ldm h s a b l = decoded_where (λ h. not (field h 0 8 == 0)) 0xc801 0xc800 0x800 s refl h a b (not_0_test (field h 0 8) l)

pub b_cond_low : (h s : ℕ) → 0xd000 ≤ h → h < 0xd800 → decode_result h s ≡ Is (BCond (field h 8 4) (signed_value 9 (field h 0 8 * 2))) 2
b_cond_low h s = decoded_like 0xd000 0x800 s refl h

pub b_cond_mid : (h s : ℕ) → 0xd800 ≤ h → h < 0xdc00 → decode_result h s ≡ Is (BCond (field h 8 4) (signed_value 9 (field h 0 8 * 2))) 2
b_cond_mid h s = decoded_like 0xd800 0x400 s refl h

pub b_cond_high : (h s : ℕ) → 0xdc00 ≤ h → h < 0xde00 → decode_result h s ≡ Is (BCond (field h 8 4) (signed_value 9 (field h 0 8 * 2))) 2
b_cond_high h s = decoded_like 0xdc00 0x200 s refl h

pub none_de00 : (h s : ℕ) → 0xde00 ≤ h → h < 0xdf00 → decode_result h s ≡ Undefined
none_de00 h s = decoded_like 0xde00 0x100 s refl h

pub svc : (h s : ℕ) → 0xdf00 ≤ h → h < 0xe000 → decode_result h s ≡ Is (Svc (field h 0 8)) 2
svc h s = decoded_like 0xdf00 0x100 s refl h

pub b : (h s : ℕ) → 0xe000 ≤ h → h < 0xe800 → decode_result h s ≡ Is (B (signed_value 12 (field h 0 11 * 2))) 2
b h s = decoded_like 0xe000 0x800 s refl h

pub none_e800 : (h s : ℕ) → 0xe800 ≤ h → h < 0xf000 → decode_result h s ≡ Undefined
none_e800 h s = decoded_like 0xe800 0x800 s refl h

pub none_f800 : (h s : ℕ) → 0xf800 ≤ h → h < 0x10000 → decode_result h s ≡ Undefined
none_f800 h s = decoded_like 0xf800 0x800 s refl h

-- the pairs that begin with 11110
pub none_f000_0000 : (h s : ℕ) → 0xf000 ≤ h → h < 0xf800 → s < 0x8000 → decode_result h s ≡ Undefined
none_f000_0000 h s a b = decoded_pair 0xf000 0x800 0x0000 0x8000 refl h s a b (omega arith)

pub none_f000_8000 : (h s : ℕ) → 0xf000 ≤ h → h < 0xf380 → 0x8000 ≤ s → s < 0x9000 → decode_result h s ≡ Undefined
none_f000_8000 h s = decoded_pair 0xf000 0x380 0x8000 0x1000 refl h s

pub none_f380_8000 : (h s : ℕ) → 0xf380 ≤ h → h < 0xf390 → 0x8000 ≤ s → s < 0x8800 → decode_result h s ≡ Undefined
none_f380_8000 h s = decoded_pair 0xf380 0x10 0x8000 0x800 refl h s

pub msr : (h s : ℕ) → 0xf380 ≤ h → h < 0xf390 → 0x8800 ≤ s → s < 0x8900 → decode_result h s ≡ NotInProfile
msr h s = decoded_pair 0xf380 0x10 0x8800 0x100 refl h s

pub none_f380_8900 : (h s : ℕ) → 0xf380 ≤ h → h < 0xf390 → 0x8900 ≤ s → s < 0x9000 → decode_result h s ≡ Undefined
none_f380_8900 h s = decoded_pair 0xf380 0x10 0x8900 0x700 refl h s

pub none_f390_8000 : (h s : ℕ) → 0xf390 ≤ h → h < 0xf3bf → 0x8000 ≤ s → s < 0x9000 → decode_result h s ≡ Undefined
none_f390_8000 h s = decoded_pair 0xf390 0x2f 0x8000 0x1000 refl h s

pub none_f3bf_8000 : (h s : ℕ) → 0xf3bf ≤ h → h < 0xf3c0 → 0x8000 ≤ s → s < 0x8f40 → decode_result h s ≡ Undefined
none_f3bf_8000 h s = decoded_pair 0xf3bf 0x1 0x8000 0xf40 refl h s

pub dsb : (h s : ℕ) → 0xf3bf ≤ h → h < 0xf3c0 → 0x8f40 ≤ s → s < 0x8f50 → decode_result h s ≡ Is (Barrier 0 (field s 0 4)) 4
dsb h s = decoded_pair 0xf3bf 0x1 0x8f40 0x10 refl h s

pub dmb : (h s : ℕ) → 0xf3bf ≤ h → h < 0xf3c0 → 0x8f50 ≤ s → s < 0x8f60 → decode_result h s ≡ Is (Barrier 1 (field s 0 4)) 4
dmb h s = decoded_pair 0xf3bf 0x1 0x8f50 0x10 refl h s

pub isb : (h s : ℕ) → 0xf3bf ≤ h → h < 0xf3c0 → 0x8f60 ≤ s → s < 0x8f70 → decode_result h s ≡ Is (Barrier 2 (field s 0 4)) 4
isb h s = decoded_pair 0xf3bf 0x1 0x8f60 0x10 refl h s

pub none_f3bf_8f70 : (h s : ℕ) → 0xf3bf ≤ h → h < 0xf3c0 → 0x8f70 ≤ s → s < 0x9000 → decode_result h s ≡ Undefined
none_f3bf_8f70 h s = decoded_pair 0xf3bf 0x1 0x8f70 0x90 refl h s

pub none_f3c0_8000 : (h s : ℕ) → 0xf3c0 ≤ h → h < 0xf3ef → 0x8000 ≤ s → s < 0x9000 → decode_result h s ≡ Undefined
none_f3c0_8000 h s = decoded_pair 0xf3c0 0x2f 0x8000 0x1000 refl h s

pub mrs : (h s : ℕ) → 0xf3ef ≤ h → h < 0xf3f0 → 0x8000 ≤ s → s < 0x9000 → decode_result h s ≡ NotInProfile
mrs h s = decoded_pair 0xf3ef 0x1 0x8000 0x1000 refl h s

pub none_f3f0_8000 : (h s : ℕ) → 0xf3f0 ≤ h → h < 0xf800 → 0x8000 ≤ s → s < 0x9000 → decode_result h s ≡ Undefined
none_f3f0_8000 h s = decoded_pair 0xf3f0 0x410 0x8000 0x1000 refl h s

pub none_f000_9000 : (h s : ℕ) → 0xf000 ≤ h → h < 0xf800 → 0x9000 ≤ s → s < 0xd000 → decode_result h s ≡ Undefined
none_f000_9000 h s = decoded_pair 0xf000 0x800 0x9000 0x4000 refl h s

pub bl_13 : (h s : ℕ) → 0xf000 ≤ h → h < 0xf800 → 0xd000 ≤ s → s < 0xe000 → decode_result h s ≡ Is (Bl (bl_offset h s)) 4
bl_13 h s = decoded_pair 0xf000 0x800 0xd000 0x1000 refl h s

pub none_f000_e000 : (h s : ℕ) → 0xf000 ≤ h → h < 0xf800 → 0xe000 ≤ s → s < 0xf000 → decode_result h s ≡ Undefined
none_f000_e000 h s = decoded_pair 0xf000 0x800 0xe000 0x1000 refl h s

pub bl_15 : (h s : ℕ) → 0xf000 ≤ h → h < 0xf800 → 0xf000 ≤ s → s < 0x10000 → decode_result h s ≡ Is (Bl (bl_offset h s)) 4
bl_15 h s = decoded_pair 0xf000 0x800 0xf000 0x1000 refl h s

-- the rows of one halfword, and the ranges that no row fits, by the functions that decode them
pub ruleset shifts = (lsl, lsr, asr)

pub ruleset sums = (add_sub_reg, add_sub_imm)

pub ruleset of_registers = (alu, add_high, add_high_both, cmp_high, cmp_high_low, cmp_high_n, cmp_high_m, mov_high)

pub ruleset exchanges = (bx, blx, bx_low_bits, bx_pc)

pub ruleset transfers = (ldr_lit, mem_reg, mem_sp)

pub ruleset transfers_imm = (mem_word, mem_byte, mem_half)

pub ruleset miscellany = (none_b100, extend, none_b300, none_b600, cps, none_b680, none_bb00, bkpt, hint, none_bf01)

pub ruleset sp_sums = (add_sp, sub_sp)

pub ruleset reversals = (rev, none_ba80, revsh)

pub ruleset pushes = (push_none, push)

pub ruleset pops = (pop_none, pop)

pub ruleset lists = (list_none, ldm)

pub ruleset stores = (stm, stm_base)

pub ruleset conditions = (b_cond_low, b_cond_mid, b_cond_high, none_de00, svc)

pub ruleset others = (imm8, adr, add_rd_sp, b, none_e800, none_f800)

-- the pairs that begin with 11110
pub ruleset pairs = (none_f000_0000, none_f000_8000, none_f380_8000, msr, none_f380_8900, none_f390_8000, none_f3bf_8000, dsb, dmb, isb, none_f3bf_8f70, none_f3c0_8000, mrs, none_f3f0_8000, none_f000_9000, bl_13, none_f000_e000, bl_15)
