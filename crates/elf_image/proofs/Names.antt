-- Names of strings, by the places of their zero bytes.
use Rattle.std.proofs.Common.{◌≡◌, ℕ, zero, suc, ◌+◌, ◌-◌, ◌<◌, ◌≤◌, Bool, true, false, cond, not, nat_eq, nat_lt, List, [], ◌∷◌, length, take, drop, take_while, get_or, refl, sym, ap, inl, inr, arith}
use Rattle.std.proofs.lemmas.Bool.Decides.{nat_tests}
use Rattle.std.proofs.lemmas.Bool.{cases_lt, cases_eq}
use Rattle.std.proofs.lemmas.List.{drop_all, take_all, get_or_past}
use Rattle.std.proofs.lemmas.List.Sums.{prefix_len_stops}
use Rattle.std.specs.List.{prefix_len}
use Rattle.elf_image.specs.Symbols.{zeros_from, next_zero, name_at}

test_lt : (x y : ℕ) → x < y → nat_lt x y ≡ true
test_lt x y h = grind (arith, nat_tests)

test_ge : (x y : ℕ) → y ≤ x → nat_lt x y ≡ false
test_ge x y h = grind (arith, nat_tests)

test_eq : (x y : ℕ) → x ≡ y → nat_eq x y ≡ true
test_eq x y h = grind (arith, nat_tests)

test_ne : (x y : ℕ) → (x ≡ y → ⊥) → nat_eq x y ≡ false
test_ne x y h = grind (arith, nat_tests)

first_step : (t : Bool) (n a end : ℕ) (zs : List ℕ) → a ≤ n → (prefix_len (λ z. nat_lt z a) zs ≡ 0) × (n + 1 ≤ get_or zs 0 end)
    → (prefix_len (λ z. nat_lt z a) (cond t (n ∷ zs) zs) ≡ 0) × (n ≤ get_or (cond t (n ∷ zs) zs) 0 end)
first_step true n a end zs below rest = (rw (test_ge n a below) refl, omega arith)
first_step false n a end zs below rest = (rest.0, omega (arith, rest.1))

-- no zero of bytes that begin at n is below n
first_zero : (n a end : ℕ) (s : List ℕ) → a ≤ n → n + length s ≤ end → (prefix_len (λ z. nat_lt z a) (zeros_from n s) ≡ 0) × (n ≤ get_or (zeros_from n s) 0 end)
first_zero n a end [] below fits = (refl, omega arith)
first_zero n a end (b ∷ s) below fits = first_step (nat_eq b 0) n a end (zeros_from (n + 1) s) below (first_zero (n + 1) a end s (omega arith) (omega arith))

skip_zero : (t : Bool) (n a end : ℕ) (zs : List ℕ) → n < a → next_zero a (cond t (n ∷ zs) zs) end ≡ next_zero a zs end
skip_zero true n a end zs below =
    let e : 1 + prefix_len (λ z. nat_lt z a) zs ≡ suc (prefix_len (λ z. nat_lt z a) zs) = omega arith in
    rw (test_lt n a below, e) refl
skip_zero false n a end zs below = refl

abbrev is_letter : ℕ → Bool
is_letter b = not (nat_eq b 0)

-- the name at the first byte
front_name : (n b : ℕ) (s : List ℕ) → take_while is_letter s ≡ take (get_or (zeros_from (n + 1) s) 0 (n + suc (length s)) - (n + 1)) s
    → take_while is_letter (b ∷ s) ≡ take (next_zero n (zeros_from n (b ∷ s)) (n + suc (length s)) - n) (b ∷ s)
front_name n b s ih = elim (cases_eq b 0) [
  | inl zero_byte ↦
      let z : n - n ≡ 0 = omega arith in
      rw (test_eq b 0 zero_byte, test_ge n n (omega arith), z) refl
  | inr letter ↦
      let first = first_zero (n + 1) n (n + suc (length s)) s (omega arith) (omega arith) in
      let z : get_or (zeros_from (n + 1) s) 0 (n + suc (length s)) - n ≡ suc (get_or (zeros_from (n + 1) s) 0 (n + suc (length s)) - (n + 1)) = omega (arith, first.1) in
      let one : 1 + prefix_len is_letter s ≡ suc (prefix_len is_letter s) = omega arith in
      rw (test_ne b 0 letter, first.0, z, one) (ap (λ (x : List ℕ). b ∷ x) ih)
]

name_from : (n a : ℕ) (s : List ℕ) → n ≤ a → take_while is_letter (drop (a - n) s) ≡ take (next_zero a (zeros_from n s) (n + length s) - a) (drop (a - n) s)
name_from n a [] h = rw (drop_all {X = ℕ} (a - n) [] (omega arith)) (sym (take_all _ [] (omega arith)))
name_from n a (b ∷ s) h = elim (cases_lt n a) [
  | inl below ↦
      let e : a - n ≡ suc (a - (n + 1)) = omega arith in
      let f : n + suc (length s) ≡ n + 1 + length s = omega arith in
      rw (e, skip_zero (nat_eq b 0) n a (n + suc (length s)) (zeros_from (n + 1) s) below, f) (name_from (n + 1) a s (omega arith))
  | inr above ↦
      let e : a ≡ n = omega arith in
      let z : n - n ≡ 0 = omega arith in
      let y : n + 1 - (n + 1) ≡ 0 = omega arith in
      let f : n + 1 + length s ≡ n + suc (length s) = omega arith in
      let first = first_zero (n + 1) (n + 1) (n + suc (length s)) s (omega arith) (omega arith) in
      let ih = rw (y, first.0, f) at (name_from (n + 1) (n + 1) s (omega arith)) in
      rw (e, z) (front_name n b s ih)
]

-- ---- for a whole list of strings

pub name_is : (s zs : List ℕ) (a : ℕ) → zs ≡ zeros_from 0 s → name_at s a ≡ take (next_zero a zs (length s) - a) (drop a s)
name_is s zs a e =
    let p : a - 0 ≡ a = omega arith in
    let q : 0 + length s ≡ length s = omega arith in
    rw e (rw (p, q) at (name_from 0 a s (omega arith)))

end_step : (t : Bool) (n end : ℕ) (zs : List ℕ) → n ≤ end → ((j : ℕ) → get_or zs j end ≤ end) → (j : ℕ) → get_or (cond t (n ∷ zs) zs) j end ≤ end
end_step true n end zs h rest zero = h
end_step true n end zs h rest (suc j) = rest j
end_step false n end zs h rest j = rest j

zeros_inside : (n end : ℕ) (s : List ℕ) → n + length s ≤ end → (j : ℕ) → get_or (zeros_from n s) j end ≤ end
zeros_inside n end [] h j = omega arith
zeros_inside n end (b ∷ s) h j = end_step (nat_eq b 0) n end (zeros_from (n + 1) s) (omega arith) (zeros_inside (n + 1) end s (omega arith)) j

stops_above : (x a : ℕ) → nat_lt x a ≡ false → a ≤ x
stops_above x a h = grind (arith, nat_tests)

pub next_bounds : (s zs : List ℕ) (a : ℕ) → zs ≡ zeros_from 0 s → a ≤ length s → (a ≤ next_zero a zs (length s)) × (next_zero a zs (length s) ≤ length s)
next_bounds s zs a e h =
    let k = prefix_len (λ z. nat_lt z a) zs in
    let above : a ≤ next_zero a zs (length s) =
    elim (cases_lt k (length zs)) [
      | inl inside ↦ stops_above _ a (prefix_len_stops (λ z. nat_lt z a) zs (length s) inside)
      | inr past ↦ rw (get_or_past zs k (length s) past) h
    ] in
    (above, rw e (zeros_inside 0 (length s) s (omega arith) (prefix_len (λ z. nat_lt z a) (zeros_from 0 s))))

pub name_past : (s : List ℕ) (a : ℕ) → length s ≤ a → name_at s a ≡ []
name_past s a h = rw (drop_all a s h) refl

pub ruleset names = (name_is, name_past, next_bounds)
