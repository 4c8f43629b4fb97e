-- Equal types and equal subobjects are equivalences.
use Rattle.std.proofs.Common.{◌≡◌, ◌≢◌, ℕ, List, length, refl, ◌∙◌, ap, sym, subst, inl, inr, ◌⊎◌, Bool, true, false, Option, Some, None, eqb-true, eq-eqb, ne_eqb}
use Rattle.std.specs.Prelude.{not, ◌==◌, ◌&&◌, ◌||◌, slice_index}
use Rattle.std.specs.Str.{bytes_eq}
use Rattle.std.proofs.lemmas.Slice.Eq.{bytes_eq-Decides}
use Rattle.eh_types.specs.declared.kind.Base.{Base}
use Rattle.eh_types.specs.declared.graph.TheConstants.{LOCAL_MARK}
use Rattle.eh_types.specs.Graph.{Row, name_of, same_type, same_name}
use Rattle.eh_match.specs.Paths.{root_of, offset_of}
use Rattle.eh_match.specs.Subobjects.{same_root, same_subobject}

or_cases : (a b : Bool) → a || b ≡ true → (a ≡ true) ⊎ (b ≡ true)
or_cases true b e = inl refl
or_cases false b e = inr e

or_left : (a b : Bool) → a ≡ true → a || b ≡ true
or_left a b e = ap (λ c. c || b) e

or_right : (a b : Bool) → b ≡ true → a || b ≡ true
or_right true b e = refl
or_right false b e = e

and_first : (a b : Bool) → a && b ≡ true → a ≡ true
and_first true b e = refl
and_first false b e = e

and_second : (a b : Bool) → a && b ≡ true → b ≡ true
and_second true b e = e
and_second false b e = absurd (cc e)

and_both : (a b : Bool) → a ≡ true → b ≡ true → a && b ≡ true
and_both a b e f = ap (λ c. c && b) e ∙ f

-- equal names are one name
name_eq : (m n : List ℕ) → same_name m n ≡ true → m ≡ n
name_eq m n e = (bytes_eq-Decides m n).0 (and_second (not (slice_index m 0 == LOCAL_MARK)) (bytes_eq m n) (and_second (not (length m == 0)) (not (slice_index m 0 == LOCAL_MARK) && bytes_eq m n) e))

pub same_type-refl : (g : List Row) (a : ℕ) → same_type g a a ≡ true
unfolding same_type
same_type-refl g a = or_left (a == a) (same_name (name_of g a) (name_of g a)) (eq-eqb a a refl)

pub same_type-sym : (g : List Row) (a b : ℕ) → same_type g a b ≡ true → same_type g b a ≡ true
unfolding same_type
same_type-sym g a b e = elim (or_cases (a == b) (same_name (name_of g a) (name_of g b)) e) [
  | inl same ↦ or_left (b == a) (same_name (name_of g b) (name_of g a)) (eq-eqb b a (sym (eqb-true a b same)))
  | inr same ↦
      let names = name_eq (name_of g a) (name_of g b) same in
      or_right (b == a) (same_name (name_of g b) (name_of g a)) (let P : List ℕ → Type 0 = λ n. same_name n (name_of g a) ≡ true in subst P names (ap (same_name (name_of g a)) names ∙ same))
]

pub same_type-trans : (g : List Row) (a b c : ℕ) → same_type g a b ≡ true → same_type g b c ≡ true → same_type g a c ≡ true
unfolding same_type
same_type-trans g a b c e f = elim (or_cases (a == b) (same_name (name_of g a) (name_of g b)) e) [
  | inl same ↦ ap (λ x. x == c || same_name (name_of g x) (name_of g c)) (eqb-true a b same) ∙ f
  | inr same ↦ elim (or_cases (b == c) (same_name (name_of g b) (name_of g c)) f) [
    | inl other ↦ ap (λ x. a == x || same_name (name_of g a) (name_of g x)) (sym (eqb-true b c other)) ∙ e
    | inr other ↦ or_right (a == c) (same_name (name_of g a) (name_of g c)) (ap (λ n. same_name n (name_of g c)) (name_eq (name_of g a) (name_of g b) same) ∙ other)
  ]
]

same_root-refl : (g : List Row) (r : Option ℕ) → same_root g r r ≡ true
same_root-refl g None = refl
same_root-refl g (Some a) = same_type-refl g a

same_root-sym : (g : List Row) (r s : Option ℕ) → same_root g r s ≡ true → same_root g s r ≡ true
same_root-sym g None None e = refl
same_root-sym g None (Some b) e = absurd (cc e)
same_root-sym g (Some a) None e = absurd (cc e)
same_root-sym g (Some a) (Some b) e = same_type-sym g a b e

same_root-trans : (g : List Row) (r s t : Option ℕ) → same_root g r s ≡ true → same_root g s t ≡ true → same_root g r t ≡ true
same_root-trans g None None t e f = f
same_root-trans g None (Some b) t e f = absurd (cc e)
same_root-trans g (Some a) None t e f = absurd (cc e)
same_root-trans g (Some a) (Some b) None e f = f
same_root-trans g (Some a) (Some b) (Some c) e f = same_type-trans g a b c e f

module _ (g : List Row) where
  pub offsets_eq : (p q : List Base) → same_subobject g p q ≡ true → offset_of p ≡ offset_of q
  offsets_eq p q e = eqb-true (offset_of p) (offset_of q) (and_first (offset_of p == offset_of q) (same_root g (root_of p) (root_of q)) e)

  pub roots_eq : (p q : List Base) → same_subobject g p q ≡ true → same_root g (root_of p) (root_of q) ≡ true
  roots_eq p q e = and_second (offset_of p == offset_of q) (same_root g (root_of p) (root_of q)) e

  pub same_from : (p q : List Base) → offset_of p ≡ offset_of q → same_root g (root_of p) (root_of q) ≡ true → same_subobject g p q ≡ true
  same_from p q e f = and_both (offset_of p == offset_of q) (same_root g (root_of p) (root_of q)) (eq-eqb (offset_of p) (offset_of q) e) f

  pub same-refl : (p : List Base) → same_subobject g p p ≡ true
  same-refl p = same_from p p refl (same_root-refl g (root_of p))

  pub same-sym : (p q : List Base) → same_subobject g p q ≡ true → same_subobject g q p ≡ true
  same-sym p q e = same_from q p (sym (offsets_eq p q e)) (same_root-sym g (root_of p) (root_of q) (roots_eq p q e))

  pub same-trans : (p q r : List Base) → same_subobject g p q ≡ true → same_subobject g q r ≡ true → same_subobject g p r ≡ true
  same-trans p q r e f = same_from p r (offsets_eq p q e ∙ offsets_eq q r f) (same_root-trans g (root_of p) (root_of q) (root_of r) (roots_eq p q e) (roots_eq q r f))

  pub apart_offsets : (p q : List Base) → offset_of p ≢ offset_of q → same_subobject g p q ≡ false
  apart_offsets p q e = ap (λ b. b && same_root g (root_of p) (root_of q)) (ne_eqb (offset_of p) (offset_of q) e)

  apart_by_root : (b : Bool) → b && false ≡ false
  apart_by_root true = refl
  apart_by_root false = refl

  pub apart_roots : (p q : List Base) → same_root g (root_of p) (root_of q) ≡ false → same_subobject g p q ≡ false
  apart_roots p q e = ap (λ b. offset_of p == offset_of q && b) e ∙ apart_by_root (offset_of p == offset_of q)
