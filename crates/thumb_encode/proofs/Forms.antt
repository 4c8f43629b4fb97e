-- Codes whose fields no range of halfwords gives at once.
use Rattle.std.proofs.Common.{◌≡◌, ℕ, ◌+◌, ◌*◌, ◌%◌, ◌^◌, ◌<◌, ◌≤◌, Bool, true, ◌&&◌, ◌==◌, ◌⊎◌, inl, inr, refl, arith, ap, ◌∙◌, zero, suc, ℤ, pos, false}
use Rattle.std.proofs.lemmas.Bool.{eqb-true}
use Rattle.std.specs.Int.{from_bool}
use Rattle.thumb_isa.specs.declared.instr.Instr.TheVariants.{Stm, MemSp, Barrier}
use Rattle.thumb_isa.specs.declared.instr.Decoded.TheVariants.{Is}
use Rattle.thumb_isa.specs.Fields.{field}
use Rattle.thumb_isa.specs.Rows.{decode_result}
use Rattle.thumb_isa.proofs.Blocks.{all_from_at, both}
use Rattle.thumb_isa.proofs.Table.{base_bit, below_base, stm, mem_sp, dsb, dmb, isb}

-- the base's bit and the bits below it are those of the list
abbrev as_in_list : ℕ → Bool
as_in_list h =
    (base_bit h == field (field h 0 8) (field h 8 3) 1) && (below_base h == field (field h 0 8) 0 (field h 8 3))

same_parts : (n list h : ℕ) → field h 8 3 ≡ n → field h 0 8 ≡ list → as_in_list h ≡ true
    → (base_bit h ≡ field list n 1) × (below_base h ≡ field list 0 n)
same_parts n list h a b t =
    let two = both (base_bit h == field (field h 0 8) (field h 8 3) 1) (below_base h == field (field h 0 8) 0 (field h 8 3)) t in
    (eqb-true _ _ two.0 ∙ rw (a, b) refl, eqb-true _ _ two.1 ∙ rw (a, b) refl)

either_zero : (bit low bit_2 low_2 : ℕ) → bit_2 ≡ bit → low_2 ≡ low → ((bit ≡ 0) ⊎ (low ≡ 0)) → ((bit_2 ≡ 0) ⊎ (low_2 ≡ 0))
either_zero bit low bit_2 low_2 a b (inl e) = inl (a ∙ e)
either_zero bit low bit_2 low_2 a b (inr e) = inr (b ∙ e)

pub stm_code : (n list h s : ℕ) → n < 8 → 0 < list → list < 256 → ((field list n 1 ≡ 0) ⊎ (field list 0 n ≡ 0)) → h ≡ 0xc000 + n * 256 + list
    → decode_result h s ≡ Is (Stm n list) 2
stm_code n list h s a b c e f =
    let low : 0xc000 ≤ h = omega arith in
    let high : h < 0xc800 = omega arith in
    let base : field h 8 3 ≡ n = omega arith in
    let listed : field h 0 8 ≡ list = omega arith in
    let parts = same_parts n list h base listed (all_from_at as_in_list 0x800 0xc000 refl h low high) in
    stm h s low high (omega arith) (either_zero _ _ _ _ parts.0 parts.1 e) ∙ rw (base, listed) refl

barrier_at : (op option s : ℕ) → op < 3 → option < 16 → s ≡ 0x8f40 + op * 16 + option → decode_result 0xf3bf s ≡ Is (Barrier op option) 4
barrier_at zero option s a b e =
    dsb 0xf3bf s (omega arith) (omega arith) (omega arith) (omega arith) ∙ ap (λ x. Is (Barrier 0 x) 4) (omega arith)
barrier_at (suc zero) option s a b e =
    dmb 0xf3bf s (omega arith) (omega arith) (omega arith) (omega arith) ∙ ap (λ x. Is (Barrier 1 x) 4) (omega arith)
barrier_at (suc (suc zero)) option s a b e =
    isb 0xf3bf s (omega arith) (omega arith) (omega arith) (omega arith) ∙ ap (λ x. Is (Barrier 2 x) 4) (omega arith)
barrier_at (suc (suc (suc n))) option s a b e = absurd (omega arith)

pub barrier_code : (op option h s : ℕ) → op < 3 → option < 16 → h ≡ 0xf3bf → s ≡ 0x8f40 + op * 16 + option → decode_result h s ≡ Is (Barrier op option) 4
barrier_code op option h s a b e f = rw e (barrier_at op option s a b f)

pub mem_sp_code : (load : Bool) (kind t words h s : ℕ) (off : ℤ) → kind ≡ from_bool load → t < 8 → words * 4 ≤ 1020 → pos (words * 4) ≡ off
    → h ≡ 0x9000 + kind * 2048 % 2 ^ 16 + t * 256 % 2 ^ 16 + words → decode_result h s ≡ Is (MemSp load t off) 2
mem_sp_code true kind t words h s off k a b e f =
    let loads : field h 11 1 ≡ 1 = omega arith in
    let register : field h 8 3 ≡ t = omega arith in
    let amount : field h 0 8 ≡ words = omega arith in
    mem_sp h s (omega arith) (omega arith) ∙ rw (loads, register, amount, e) refl
mem_sp_code false kind t words h s off k a b e f =
    let stores : field h 11 1 ≡ 0 = omega arith in
    let register : field h 8 3 ≡ t = omega arith in
    let amount : field h 0 8 ≡ words = omega arith in
    mem_sp h s (omega arith) (omega arith) ∙ rw (stores, register, amount, e) refl
