-- Halfwords that stand at an address are the instruction there.
use Rattle.std.proofs.Common.{◌≡◌, ℕ, ◌+◌, ◌%◌, ◌^◌, nat_le, Bool, true, false, cond, Result, Ok, sym, ap, subst, ◌∙◌}
use Rattle.eh_bus.specs.Memory.{Memory, fetch}
use Rattle.eh_bus.specs.declared.fault.BusFault.{BusFault}
use Rattle.thumb_isa.specs.declared.profile.Profile.{Profile}
use Rattle.thumb_isa.specs.Rows.{decode_result_for}
use Rattle.thumb_core.specs.Step.{instr_for, instr_of, instr_of_first, instr_of_second}
use Rattle.thumb_core.specs.declared.halfwords.Halfwords.{Halfwords}
use Rattle.thumb_core.specs.Standing.{HasHalfwords, IsPair}

pub narrow : (m : Memory) (a first : ℕ) → Ok first ≡ fetch m a → false ≡ nat_le 0xe800 first → HasHalfwords m a (record { first = first; second = 0 })
narrow m a first e n = record {
  first = sym e;
  second = ap (λ (b : Bool). cond b (fetch m ((a + 2) % 2 ^ 32)) (Ok 0)) (sym n);
}

pub wide : (m : Memory) (a first second : ℕ) → Ok first ≡ fetch m a → true ≡ nat_le 0xe800 first → Ok second ≡ fetch m ((a + 2) % 2 ^ 32)
    → HasHalfwords m a (record { first = first; second = second })
wide m a first second e n f = record {
  first = sym e;
  second = ap (λ (b : Bool). cond b (fetch m ((a + 2) % 2 ^ 32)) (Ok 0)) (sym n) ∙ sym f;
}

pub stand_narrow : (m : Memory) (a first : ℕ) (h : Halfwords) → Ok first ≡ fetch m a → first ≡ h.first → false ≡ nat_le 0xe800 h.first → IsPair h → HasHalfwords m a h
stand_narrow m a first h e same n pair = record {
  first = sym e ∙ ap Ok same;
  second = ap (λ (b : Bool). cond b (fetch m ((a + 2) % 2 ^ 32)) (Ok 0)) (sym n) ∙ ap Ok (sym (pair (sym n)));
}

pub stand_wide : (m : Memory) (a first second : ℕ) (h : Halfwords) → Ok first ≡ fetch m a → first ≡ h.first → true ≡ nat_le 0xe800 h.first → Ok second ≡ fetch m ((a + 2) % 2 ^ 32)
    → second ≡ h.second → HasHalfwords m a h
stand_wide m a first second h e same n f also = record {
  first = sym e ∙ ap Ok same;
  second = ap (λ (b : Bool). cond b (fetch m ((a + 2) % 2 ^ 32)) (Ok 0)) (sym n) ∙ sym f ∙ ap Ok also;
}

pub is_pair : (m : Memory) (a : ℕ) (h : Halfwords) → HasHalfwords m a h → IsPair h
is_pair m a h stand n =
    let e : Ok 0 ≡ Ok h.second = subst (λ (b : Bool). cond b (fetch m ((a + 2) % 2 ^ 32)) (Ok 0) ≡ Ok h.second) n stand.second in
    cc

-- they are the instruction there, by the rows of any profile
pub by_halfwords : (p : Profile) (m : Memory) (a : ℕ) (h : Halfwords) → HasHalfwords m a h → instr_for p m a ≡ instr_of (decode_result_for p h.first h.second)
by_halfwords p m a h stand = ap (λ (r : Result ℕ BusFault). instr_of_first p r m a) stand.first ∙ go (nat_le 0xe800 h.first) stand.second
  where
    go : (b : Bool) → cond b (fetch m ((a + 2) % 2 ^ 32)) (Ok 0) ≡ Ok h.second
        → cond b (instr_of_second p (fetch m ((a + 2) % 2 ^ 32)) h.first) (instr_of (decode_result_for p h.first 0)) ≡ instr_of (decode_result_for p h.first h.second)
    go true e = ap (λ (r : Result ℕ BusFault). instr_of_second p r h.first) e
    go false e = ap (λ (r : Result ℕ BusFault). instr_of_second p r h.first) e
