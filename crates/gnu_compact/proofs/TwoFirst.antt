-- Codes by the first two and the others.
use Rattle.std.proofs.Common.{◌≡◌, ℕ, suc, ◌-◌, ◌≤◌, List, [], ◌∷◌, length, take, drop, get_or, ap, arith}
use Rattle.std.proofs.lemmas.Grind.{common_steps}
use Rattle.eh_bytecode.specs.Codes.{swap_word_bytes}

pub two_first : (codes : List ℕ) (count : ℕ) → 2 ≤ length codes
    → swap_word_bytes (130 ∷ count ∷ codes) ≡ swap_word_bytes (130 ∷ count ∷ get_or codes 0 0 ∷ get_or codes 1 0 ∷ take (length codes - 2) (drop 2 codes))
two_first [] count h = absurd (omega arith)
two_first (a ∷ []) count h = absurd (omega arith)
two_first (a ∷ b ∷ rest) count h =
    let whole : take (suc (suc (length rest)) - 2) rest ≡ rest = grind (arith, common_steps) in
    ap (λ (l : List ℕ). b ∷ a ∷ count ∷ 130 ∷ swap_word_bytes l) (let e : rest ≡ take (suc (suc (length rest)) - 2) rest = cc in e)
