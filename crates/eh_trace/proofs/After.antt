-- The line for the events after the last that is kept.
use Rattle.std.proofs.Common.{◌≡◌, ℕ, cond, List, ◌++◌, Result, Ok, Err, ap, ◌∙◌, append_assoc}
use Rattle.std.specs.Prelude.{OnOk, codes, decimal, is_ok}
use Rattle.eh_trace.specs.Text.{after_line}

joined : (out p q r : List ℕ) → ((out ++ p) ++ q) ++ r ≡ out ++ ((p ++ q) ++ r)
joined out p q r = simp append_assoc

pub after : {E : Type 0} (r : Result (Unit {0}) E) (out a b c : List ℕ) (n : ℕ) → a ≡ out ++ codes "and " → b ≡ a ++ decimal n
    → c ≡ cond (is_ok r) (b ++ codes " more events\n") b → OnOk r (c ≡ out ++ after_line n)
after (Ok u) out a b c n d e f = f ∙ (ap (λ (l : List ℕ). l ++ codes " more events\n") (e ∙ ap (λ (l : List ℕ). l ++ decimal n) d) ∙ joined out (codes "and ") (decimal n) (codes " more events\n"))
after (Err x) out a b c n d e f = tt
