-- What codes do in all, put together.
use Rattle.std.proofs.Common.{◌≡◌, ℕ, ◌+◌, false, List, [], ◌∷◌, ◌++◌, ◌∙◌, refl, arith, append-nil}
use Rattle.std.proofs.lemmas.Grind.{flat_map-append}
use Rattle.std.proofs.lemmas.List.Folds.{list_any-append}
use Rattle.std.proofs.lemmas.List.Sums.{sum_by-append}
use Rattle.eh_codes.specs.declared.code.UnwindCode.{UnwindCode}
use Rattle.asm_unwind.specs.Meaning.{code_rise, code_fall, code_pops, is_other_code, InAll}

-- what codes do in all, for none, for one, and for two lists one after the other
pub in_all_none : InAll [] 0 0 []
in_all_none = record { raise = refl; lower = refl; pop = refl; keep = refl }

pub in_all_one : (code : UnwindCode) → is_other_code code ≡ false → InAll (code ∷ []) (code_rise code) (code_fall code) (code_pops code)
in_all_one code other = record {
  raise = omega arith;
  lower = omega arith;
  pop = append-nil (code_pops code);
  keep = rw other refl;
}

pub in_all-append : (xs ys : List UnwindCode) (up down up' down' : ℕ) (registers registers' : List ℕ) →
    InAll xs up down registers → InAll ys up' down' registers' → InAll (xs ++ ys) (up + up') (down + down') (registers ++ registers')
in_all-append xs ys up down up' down' registers registers' a b = record {
  raise = rw (sum_by-append code_rise xs ys, a.raise, b.raise) refl;
  lower = rw (sum_by-append code_fall xs ys, a.lower, b.lower) refl;
  pop = rw (flat_map-append code_pops xs ys, a.pop, b.pop) refl;
  keep = rw (list_any-append is_other_code xs ys, a.keep, b.keep) refl;
}

pub in_all_as : (codes : List UnwindCode) (up down up' down' : ℕ) (registers : List ℕ) → up ≡ up' → down ≡ down' → InAll codes up down registers → InAll codes up' down' registers
in_all_as codes up down up' down' registers ups downs a = record { raise = a.raise ∙ ups; lower = a.lower ∙ downs; pop = a.pop; keep = a.keep }
