-- Names that are lent: what a set or a table of them says of any bytes.
use Rattle.std.proofs.Common.{◌≡◌, ℕ, Bool, true, false, cond, ◌||◌, List, [], ◌∷◌, map, Bor, Option, Some, None, refl, sym, ap, ◌∙◌, unwrap_or}
use Rattle.std.specs.List.{list_any}
use Rattle.std.specs.Map.{lookup}
use Rattle.std.specs.Option.{option_or}
use Rattle.std.specs.Cmp.Lexicographic.{bytes_decides, nat_list_eq_equiv}
use Rattle.eh_word.specs.Names.{same_bytes}
use Rattle.eh_link.specs.declared.names.Meaning.{Meaning}

-- a name of some bytes, wherever it stands
abbrev lent : List ℕ → Bor (List ℕ)
lent bytes = record { ref_ptr = (0, 0); now = bytes }

pub among_lent : (p : List ℕ → Bool) (names : List (Bor (List ℕ))) → list_any p (map (λ name. name.now) names) ≡ list_any (λ name. p name.now) names
among_lent p [] = refl
among_lent p (name ∷ more) = ap (λ b. p name.now || b) (among_lent p more)

pub found_lent : (p : List ℕ → Bool) (entries : List (Bor (List ℕ) × Meaning)) → lookup p (map (λ entry. (entry.0.now, entry.1)) entries) ≡ lookup (λ name. p name.now) entries
found_lent p [] = refl
found_lent p (entry ∷ more) = ap (λ o. cond (p entry.0.now) (Some entry.1) o) (found_lent p more)

either : (a b : Bool) → cond a true b ≡ (b || a)
either true true = refl
either true false = refl
either false true = refl
either false false = refl

-- a set after a name is added
pub among_added : (old new : List (Bor (List ℕ))) (name : List ℕ)
    → ((q : Bor (List ℕ)) → list_any (λ k. same_bytes q.now k.now) new ≡ cond (same_bytes name q.now) true (list_any (λ k. same_bytes q.now k.now) old))
    → (q : List ℕ) → list_any (same_bytes q) (map (λ k. k.now) new) ≡ (list_any (same_bytes q) (map (λ k. k.now) old) || same_bytes q name)
among_added old new name h q =
    among_lent (same_bytes q) new
    ∙ h (lent q)
    ∙ ap (λ b. cond b true (list_any (λ k. same_bytes q k.now) old)) (nat_list_eq_equiv.symm name q)
    ∙ either (same_bytes q name) (list_any (λ k. same_bytes q k.now) old)
    ∙ ap (λ b. b || same_bytes q name) (sym (among_lent (same_bytes q) old))

kept : (o : Option Meaning) → o ≡ option_or o None
kept None = refl
kept (Some meaning) = refl

given : (o : Option Meaning) (meaning : Meaning) → Some (unwrap_or o meaning) ≡ option_or o (Some meaning)
given None meaning = refl
given (Some own) meaning = refl

-- a table after a name is added, which means what it meant before where it meant something
pub found_added : (old new : List (Bor (List ℕ) × Meaning)) (name : List ℕ) (meaning : Meaning)
    → ((q : Bor (List ℕ)) → lookup (λ k. same_bytes q.now k.now) new ≡ cond (same_bytes name q.now) (Some (unwrap_or (lookup (λ k. same_bytes name k.now) old) meaning)) (lookup (λ k. same_bytes q.now k.now) old))
    → (q : List ℕ) → lookup (same_bytes q) (map (λ e. (e.0.now, e.1)) new) ≡ option_or (lookup (same_bytes q) (map (λ e. (e.0.now, e.1)) old)) (cond (same_bytes q name) (Some meaning) None)
found_added old new name meaning h q =
    found_lent (same_bytes q) new
    ∙ h (lent q)
    ∙ ap (λ b. cond b (Some (unwrap_or (lookup (λ k. same_bytes name k.now) old) meaning)) (lookup (λ k. same_bytes q k.now) old)) (nat_list_eq_equiv.symm name q)
    ∙ by (same_bytes q name) refl
    ∙ ap (λ o. option_or o (cond (same_bytes q name) (Some meaning) None)) (sym (found_lent (same_bytes q) old))
  where
    by : (b : Bool) → same_bytes q name ≡ b
        → cond (same_bytes q name) (Some (unwrap_or (lookup (λ k. same_bytes name k.now) old) meaning)) (lookup (λ k. same_bytes q k.now) old)
        ≡ option_or (lookup (λ k. same_bytes q k.now) old) (cond (same_bytes q name) (Some meaning) None)
    by true e =
        let same = (bytes_decides q name).0 e in
        rw (e, same) (given (lookup (λ k. same_bytes name k.now) old) meaning)
    by false e = rw e (kept (lookup (λ k. same_bytes q k.now) old))
