-- Types are equal by address or by name.
use Rattle.std.proofs.Common.{◌≡◌, ◌≢◌, ◌⊎◌, ℕ, ◌==◌, List, [], ◌∷◌, length, refl, ap, sym, ◌∙◌, inl, inr, Bool, true, false, eqb-true, eq-eqb, ne_eqb, arith}
use Rattle.std.specs.Prelude.{not, ◌&&◌, ◌||◌}
use Rattle.std.specs.Str.{bytes_eq}
use Rattle.std.proofs.lemmas.Bool.{false≢true}
use Rattle.std.proofs.lemmas.Bool.Decides.{not_from_Decides}
use Rattle.std.proofs.lemmas.Slice.Eq.{bytes_eq-Decides}
use Rattle.eh_types.specs.Graph.{Row, name_of, same_type, same_name}
use Rattle.eh_phase_laws.specs.Types.{ShareName, TypesAreEqual}

or_cases : (a b : Bool) → a || b ≡ true → (a ≡ true) ⊎ (b ≡ true)
or_cases true b e = inl refl
or_cases false b e = inr e

or_left : (a b : Bool) → a ≡ true → a || b ≡ true
or_left a b e = ap (λ c. c || b) e

or_right : (a b : Bool) → b ≡ true → a || b ≡ true
or_right true b e = refl
or_right false b e = e

both : (a b : Bool) → a && b ≡ true → (a ≡ true) × (b ≡ true)
both true true e = (refl, refl)
both true false e = absurd (false≢true e)
both false b e = absurd (false≢true e)

set : (b : Bool) → b ≡ true → not b ≡ false
set b e = ap not e

share : (g : List Row) (a b : ℕ) (m n : List ℕ) → name_of g a ≡ m → name_of g b ≡ n → same_name m n ≡ true → ShareName g a b
share g a b [] n e f h = absurd (false≢true h)
share g a b (first ∷ rest) n e f h =
    let p = both (not (length (first ∷ rest) == 0)) (not (first == 42) && bytes_eq (first ∷ rest) n) h in
    let q = both (not (first == 42)) (bytes_eq (first ∷ rest) n) p.1 in
    let same : first ∷ rest ≡ n = (bytes_eq-Decides (first ∷ rest) n).0 q.1 in
    record { first = first; rest = rest; own = e; other = f ∙ sym same; global = λ k. false≢true (sym (set (first == 42) (eq-eqb first 42 k)) ∙ q.0) }

same : (m : List ℕ) → bytes_eq m m ≡ true
same m = go (bytes_eq m m) refl
  where
    go : (b : Bool) → bytes_eq m m ≡ b → b ≡ true
    go true e = refl
    go false e = absurd (not_from_Decides (bytes_eq m m) (bytes_eq-Decides m m) e refl)

named : (first : ℕ) (rest : List ℕ) → first ≢ 42 → same_name (first ∷ rest) (first ∷ rest) ≡ true
named first rest h =
    let l : (length (first ∷ rest) == 0) ≡ false = ne_eqb (length (first ∷ rest)) 0 (λ k. absurd (omega (arith, k))) in
    let e : (first == 42) ≡ false = ne_eqb first 42 h in
    rw (l, e, same (first ∷ rest)) refl

pub types_are_equal : TypesAreEqual
unfolding same_type
types_are_equal g a b = (to, from)
  where
    to : (a == b || same_name (name_of g a) (name_of g b)) ≡ true → (a ≡ b) ⊎ ShareName g a b
    to e = elim (or_cases (a == b) (same_name (name_of g a) (name_of g b)) e) [
      | inl p ↦ inl (eqb-true a b p)
      | inr p ↦ inr (share g a b (name_of g a) (name_of g b) refl refl p)
    ]

    from : (a ≡ b) ⊎ ShareName g a b → (a == b || same_name (name_of g a) (name_of g b)) ≡ true
    from (inl p) = or_left (a == b) (same_name (name_of g a) (name_of g b)) (eq-eqb a b p)
    from (inr s) = or_right (a == b) (same_name (name_of g a) (name_of g b))
        (ap (λ m. same_name m (name_of g b)) s.own ∙ ap (λ n. same_name (s.first ∷ s.rest) n) s.other ∙ named s.first s.rest s.global)
