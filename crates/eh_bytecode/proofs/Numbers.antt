-- A ULEB128 number is read from the first five bytes.
use Rattle.std.proofs.Common.{◌≡◌, ℕ, zero, suc, ◌+◌, ◌≤◌, ◌==◌, cond, List, [], ◌∷◌, length, take, get_or, Some, None, refl, arith, ◌∙◌, ap, sym}
use Rattle.std.specs.Prelude.{nat_lt, nat_le, Result, Ok, Err, ◌&&◌, min}
use Rattle.std.specs.List.{prefix_len}
use Rattle.std.specs.Result.{result_ok}
use Rattle.std.proofs.lemmas.Bool.Decides.{nat_tests}
use Rattle.std.proofs.lemmas.Grind.{common_steps}
use Rattle.eh_word.specs.declared.fault.WordFault.{WordFault}
use Rattle.eh_word.specs.declared.fault.WordFault.TheVariants.{Ends, TooWide}
use Rattle.eh_word.specs.Words.{has_more, base_128, uleb128_front, uleb128_of, move_place}
use Rattle.eh_codes.specs.declared.code.UnwindCode.TheVariants.{RaiseLong}
use Rattle.eh_codes.specs.Table.{code_front}
use Rattle.eh_codes.proofs.Table.{long, long_by}

take_four : (xs : List ℕ) → take 4 (take 5 xs) ≡ take 4 xs
take_four [] = refl
take_four (a ∷ []) = refl
take_four (a ∷ b ∷ []) = refl
take_four (a ∷ b ∷ c ∷ []) = refl
take_four (a ∷ b ∷ c ∷ d ∷ []) = refl
take_four (a ∷ b ∷ c ∷ d ∷ e ∷ more) = refl

fifth : (xs : List ℕ) → get_or (take 5 xs) 4 0 ≡ get_or xs 4 0
fifth [] = refl
fifth (a ∷ []) = refl
fifth (a ∷ b ∷ []) = refl
fifth (a ∷ b ∷ c ∷ []) = refl
fifth (a ∷ b ∷ c ∷ d ∷ []) = refl
fifth (a ∷ b ∷ c ∷ d ∷ e ∷ more) = refl

few : (xs : List ℕ) → prefix_len has_more (take 4 xs) ≤ 4
few xs = grind (arith, common_steps)

shorter : (last n m : ℕ) → last ≤ 4 → m ≡ min 5 n → nat_le m last ≡ nat_le n last
shorter last n m h e = grind (arith, nat_tests)

front_of : ℕ → ℕ → ℕ → ℕ → Result (ℕ × ℕ) WordFault
front_of size last top number = cond (nat_le size last) (Err Ends) (cond (last == 4 && nat_lt 15 top) (Err TooWide) (Ok (number, last + 1)))

as_front : (xs : List ℕ) → uleb128_front xs ≡ front_of (length xs) (prefix_len has_more (take 4 xs)) (get_or xs 4 0) (base_128 (take (prefix_len has_more (take 4 xs) + 1) xs))
unfolding front_of
as_front xs = refl

same_size : (size other last top number : ℕ) → last ≤ 4 → other ≡ min 5 size → front_of other last top number ≡ front_of size last top number
unfolding front_of
same_size size other last top number h e = ap (λ t. cond t (Err Ends) (cond (last == 4 && nat_lt 15 top) (Err TooWide) (Ok (number, last + 1)))) (shorter last size other h e)

take_less : (n m : ℕ) (xs : List ℕ) → n ≤ m → take n (take m xs) ≡ take n xs
take_less zero m xs h = refl
take_less (suc n) zero xs h = absurd (omega arith)
take_less (suc n) (suc m) [] h = refl
take_less (suc n) (suc m) (x ∷ xs) h = ap (λ l. x ∷ l) (take_less n m xs (omega arith))

pub five_enough : (xs : List ℕ) → uleb128_front (take 5 xs) ≡ uleb128_front xs
five_enough xs =
    let last : ℕ = prefix_len has_more (take 4 xs) in
    let number : ℕ = base_128 (take (last + 1) xs) in
    as_front (take 5 xs)
    ∙ ap (λ l. front_of (length (take 5 xs)) (prefix_len has_more l) (get_or (take 5 xs) 4 0) (base_128 (take (prefix_len has_more l + 1) (take 5 xs)))) (take_four xs)
    ∙ ap (λ f. front_of (length (take 5 xs)) last f (base_128 (take (last + 1) (take 5 xs)))) (fifth xs)
    ∙ ap (λ l. front_of (length (take 5 xs)) last (get_or xs 4 0) (base_128 l)) (take_less (last + 1) 5 xs (let few_bytes = few xs in omega arith))
    ∙ same_size (length xs) (length (take 5 xs)) last (get_or xs 4 0) number (few xs) (length_five xs)
    ∙ sym (as_front xs)
  where
    length_five : (xs : List ℕ) → length (take 5 xs) ≡ min 5 (length xs)
    length_five xs = grind (arith, common_steps)

-- a long raise by its first five bytes after the first
pub long_by_five : (xs front : List ℕ) → front ≡ take 5 xs → code_front 0xB2 xs ≡ long_by (result_ok (uleb128_of front 0))
unfolding uleb128_of
long_by_five xs front e = long 0xB2 xs refl ∙ ap (λ r. long_by (result_ok r)) (sym (five_enough xs) ∙ ap uleb128_front (sym e) ∙ placed (uleb128_front front))
  where
    placed : (r : Result (ℕ × ℕ) WordFault) → r ≡ move_place 0 r
    placed (Ok found) = λ i. Ok (found.0, (let e : found.1 ≡ 0 + found.1 = omega arith in e) i)
    placed (Err fault) = refl

pub long_found : (xs front : List ℕ) (words size : ℕ) → front ≡ take 5 xs → Ok (words, size) ≡ uleb128_of front 0 → Some (RaiseLong words, 1 + size) ≡ code_front 0xB2 xs
long_found xs front words size e is = sym (long_by_five xs front e ∙ ap (λ r. long_by (result_ok r)) (sym is))

pub long_refused : (xs front : List ℕ) (fault : WordFault) → front ≡ take 5 xs → Err fault ≡ uleb128_of front 0 → None ≡ code_front 0xB2 xs
long_refused xs front fault e is = sym (long_by_five xs front e ∙ ap (λ r. long_by (result_ok r)) (sym is))
