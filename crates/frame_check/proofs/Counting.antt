-- Loops that count, one step more.
use Rattle.std.proofs.Common.{◌≡◌, ℕ, zero, suc, ◌+◌, ◌*◌, ◌^◌, ◌<◌, ◌≤◌, List, [], ◌∷◌, ◌++◌, add-one, refl, sym, ap, ◌∙◌, arith, append_assoc}
use Rattle.std.specs.List.{flat_map, range_with_len}
use Rattle.std.proofs.Math.Nat.{pow-succ'}
use Rattle.std.proofs.lemmas.Grind.{flat_map-append}
use Rattle.std.proofs.lemmas.List.{append-nil}
use Rattle.frame_facts.specs.declared.saves.Prologue.{Prologue}
use Rattle.frame_check.specs.Pushes.{word_bit, word_bits}

range_more : (a n : ℕ) → range_with_len a (suc n) ≡ range_with_len a n ++ (a + n) ∷ []
range_more a zero = ap (λ (x : ℕ). x ∷ []) (omega arith)
range_more a (suc n) = ap (λ (xs : List ℕ). a ∷ xs) (range_more (a + 1) n ∙ ap (λ (x : ℕ). range_with_len (a + 1) n ++ x ∷ []) (omega arith))

pub joined_more : {X : Type 0} (f : ℕ → List X) (xs ys new : List X) (i : ℕ) → ys ≡ xs ++ flat_map f (range_with_len 0 i) → new ≡ ys ++ f i → new ≡ xs ++ flat_map f (range_with_len 0 (i + 1))
joined_more f xs ys new i e g =
    let zero_plus : 0 + i ≡ i = omega arith in
    let one : flat_map f ((0 + i) ∷ []) ≡ f i = ap (λ (k : ℕ). flat_map f (k ∷ [])) zero_plus ∙ append-nil (f i) in
    let more : flat_map f (range_with_len 0 (i + 1)) ≡ flat_map f (range_with_len 0 i) ++ f i =
    ap (λ (k : ℕ). flat_map f (range_with_len 0 k)) (add-one i) ∙ ap (flat_map f) (range_more 0 i) ∙ flat_map-append f (range_with_len 0 i) ((0 + i) ∷ [])
    ∙ ap (λ l. flat_map f (range_with_len 0 i) ++ l) one in
    let begins : new ≡ (xs ++ flat_map f (range_with_len 0 i)) ++ f i = g ∙ ap (λ l. l ++ f i) e in
    begins ∙ (rw (more, append_assoc) refl)

pub bits_more : (p : Prologue) (lowest k bits : ℕ) → bits ≡ word_bits p lowest k → bits + word_bit p lowest k ≡ word_bits p lowest (k + 1)
unfolding word_bits
bits_more p lowest k bits e = ap (λ (n : ℕ). n + word_bit p lowest k) e ∙ ap (word_bits p lowest) (sym (add-one k))

pub few_more : (k bits more : ℕ) → bits < 2 ^ k → more ≤ 2 ^ k → bits + more < 2 ^ (k + 1)
few_more k bits more l m = let e : 2 ^ suc k ≡ 2 * 2 ^ k = pow-succ' 2 k in rw (add-one k) (omega (arith, e))
