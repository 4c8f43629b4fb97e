-- Effects and meetings on facts that are vaguer.
use Rattle.std.proofs.Common.{ℕ, ◌≡◌, ◌<◌, ◌≤◌, ◌⊎◌, inl, inr, min, List, [], ◌∷◌, length, Bool, true, false, cond, eqb, ◌||◌, IsTrue, Some, None, sym, ◌∙◌, ap, subst, refl, ⊎_elim, arith, set, get_or}
use Rattle.std.proofs.lemmas.Bool.{cases_eq, cases_lt, eqb-true, eq-eqb, false≢true}
use Rattle.std.proofs.lemmas.Option.{none-some, cond_some}
use Rattle.std.proofs.lemmas.List.{get_or-set_same, get_or-set_other, get_or_past, length-set}
use Rattle.std.specs.List.{sum_by}
use Rattle.frame_facts.specs.declared.facts.Source.{Source}
use Rattle.frame_facts.specs.declared.facts.Source.TheVariants.{Other}
use Rattle.frame_facts.specs.declared.facts.Fact.{Fact}
use Rattle.frame_facts.specs.Facts.{source, slot, with_source, met_sources, join_of, forget_register, forget_registers, source_height, height, IsVaguer, IsAtMost}
use Rattle.frame_facts.proofs.Meeting.{met_left, met_right, met_least, met_at, met_length, met_falls}

pub vaguer_self : (s : Source) → IsVaguer s s
vaguer_self s = inl refl

pub vaguer_via : (s t u : Source) → IsVaguer s t → IsVaguer t u → IsVaguer s u
vaguer_via s t u x (inr f) = inr f
vaguer_via s t u (inl e) (inl f) = inl (e ∙ f)
vaguer_via s t u (inr e) (inl f) = inr (sym f ∙ e)

pub at_most_self : (f : Fact) → IsAtMost f f
at_most_self f = record { depth = refl; below = λ h. h; kept = omega arith; long = refl; regs = λ r. inl refl }

pub at_most_via : (f g h : Fact) → IsAtMost f g → IsAtMost g h → IsAtMost f h
at_most_via f g h x y = record {
  depth = x.depth ∙ y.depth;
  below = λ t. y.below (x.below t);
  kept = omega (arith, x.kept, y.kept);
  long = x.long ∙ y.long;
  regs = λ r. vaguer_via (get_or f.regs r Other) (get_or g.regs r Other) (get_or h.regs r Other) (x.regs r) (y.regs r);
}

-- ---- meetings

abbrev pub joined : Fact → Fact → Fact
joined a b = record { depth = a.depth; below = a.below || b.below; kept = min a.kept b.kept; regs = met_sources a.regs b.regs }

or_left : (a b : Bool) → IsTrue a → IsTrue (a || b)
or_left true b h = h
or_left false b h = absurd (false≢true h)

or_right : (a b : Bool) → IsTrue b → IsTrue (a || b)
or_right true b h = refl
or_right false b h = h

or_either : (a b : Bool) (P : Type 0) → (IsTrue a → P) → (IsTrue b → P) → IsTrue (a || b) → P
or_either true b P x y h = x refl
or_either false b P x y h = y h

joined_left : (a b : Fact) → IsAtMost a (joined a b)
joined_left a b = record {
  depth = refl;
  below = or_left a.below b.below;
  kept = omega arith;
  long = sym (met_length a.regs b.regs);
  regs = λ r. subst (λ t. IsVaguer (get_or a.regs r Other) t) (sym (met_at a.regs b.regs r)) (met_left (get_or a.regs r Other) (get_or b.regs r Other));
}

joined_right : (a b : Fact) → a.depth ≡ b.depth → length a.regs ≡ length b.regs → IsAtMost b (joined a b)
joined_right a b e l = record {
  depth = sym e;
  below = or_right a.below b.below;
  kept = omega arith;
  long = sym l ∙ sym (met_length a.regs b.regs);
  regs = λ r. subst (λ t. IsVaguer (get_or b.regs r Other) t) (sym (met_at a.regs b.regs r)) (met_right (get_or a.regs r Other) (get_or b.regs r Other));
}

joined_least : (a b k : Fact) → IsAtMost a k → IsAtMost b k → IsAtMost (joined a b) k
joined_least a b k x y = record {
  depth = x.depth;
  below = or_either a.below b.below (IsTrue k.below) x.below y.below;
  kept = omega (arith, x.kept, y.kept);
  long = met_length a.regs b.regs ∙ x.long;
  regs = λ r. subst (λ t. IsVaguer t (get_or k.regs r Other)) (sym (met_at a.regs b.regs r)) (met_least (get_or a.regs r Other) (get_or b.regs r Other) (get_or k.regs r Other) (x.regs r) (y.regs r));
}

-- what a meeting says
pub join_is : (a b c : Fact) → join_of a b ≡ Some c → (a.depth ≡ b.depth) × (joined a b ≡ c)
join_is a b c h = let w = cond_some (eqb a.depth b.depth) (joined a b) c h in (eqb-true a.depth b.depth w.0, w.1)

pub some_joined : (a b : Fact) (below : Bool) (kept : ℕ) (regs : List Source) → a.depth ≡ b.depth → below ≡ (a.below || b.below) → kept ≡ min a.kept b.kept → regs ≡ met_sources a.regs b.regs
    → Some (let f : Fact = record { depth = a.depth; below = below; kept = kept; regs = regs } in f) ≡ join_of a b
some_joined a b below kept regs d w k r =
    ap (λ x. Some (let f : Fact = record { depth = a.depth; below = x; kept = kept; regs = regs } in f)) w
    ∙ ap (λ x. Some (let f : Fact = record { depth = a.depth; below = a.below || b.below; kept = x; regs = regs } in f)) k
    ∙ ap (λ x. Some (let f : Fact = record { depth = a.depth; below = a.below || b.below; kept = min a.kept b.kept; regs = x } in f)) r
    ∙ sym (ap (λ t. cond t (Some (joined a b)) None) (eq-eqb a.depth b.depth d))

pub join_left : (a b c : Fact) → join_of a b ≡ Some c → IsAtMost a c
join_left a b c h = subst (λ x. IsAtMost a x) (join_is a b c h).1 (joined_left a b)

pub join_right : (a b c : Fact) → length a.regs ≡ length b.regs → join_of a b ≡ Some c → IsAtMost b c
join_right a b c l h = subst (λ x. IsAtMost b x) (join_is a b c h).1 (joined_right a b (join_is a b c h).0 l)

pub join_least : (a b c k : Fact) → join_of a b ≡ Some c → IsAtMost a k → IsAtMost b k → IsAtMost c k
join_least a b c k h x y = subst (λ z. IsAtMost z k) (join_is a b c h).1 (joined_least a b k x y)

pub joins : (a b k : Fact) → IsAtMost a k → IsAtMost b k → join_of a b ≡ None → ⊥
joins a b k x y h = none-some (joined a b) (sym h ∙ ap (λ t. cond t (Some (joined a b)) None) (eq-eqb a.depth b.depth (x.depth ∙ sym y.depth)))

abbrev placed : Bool → ℕ
placed t = cond t 0 1

met_below : (a b : Bool) → ((a || b) ≡ a) ⊎ ((a ≡ false) × ((a || b) ≡ true))
met_below true b = inl refl
met_below false true = inr (refl, refl)
met_below false false = inl refl

joined_falls : (a b : Fact) → (joined a b ≡ a) ⊎ (height (joined a b) < height a)
unfolding height
joined_falls a b = ⊎_elim
    (λ (e : met_sources a.regs b.regs ≡ a.regs). ⊎_elim
    (λ (w : (a.below || b.below) ≡ a.below). ⊎_elim
    (λ (l : b.kept < a.kept). inr (omega (arith, ap (sum_by source_height) e, ap placed w, l)))
    (λ (l : a.kept ≤ b.kept). let k : min a.kept b.kept ≡ a.kept = omega arith in
    inl (ap (λ x. let f : Fact = record { depth = a.depth; below = a.below || b.below; kept = x; regs = met_sources a.regs b.regs } in f) k
    ∙ ap (λ x. let f : Fact = record { depth = a.depth; below = x; kept = a.kept; regs = met_sources a.regs b.regs } in f) w
    ∙ ap (λ x. let f : Fact = record { depth = a.depth; below = a.below; kept = a.kept; regs = x } in f) e))
    (cases_lt b.kept a.kept))
    (λ (w : (a.below ≡ false) × ((a.below || b.below) ≡ true)). inr (omega (arith, ap (sum_by source_height) e, ap placed w.0, ap placed w.1)))
    (met_below a.below b.below))
    (λ (l : sum_by source_height (met_sources a.regs b.regs) < sum_by source_height a.regs). ⊎_elim
    (λ (w : (a.below || b.below) ≡ a.below). inr (omega (arith, ap placed w, l)))
    (λ (w : (a.below ≡ false) × ((a.below || b.below) ≡ true)). inr (omega (arith, ap placed w.0, ap placed w.1, l)))
    (met_below a.below b.below))
    (met_falls a.regs b.regs)

-- a meeting leaves the first fact, or less is known
pub join_falls : (a b c : Fact) → join_of a b ≡ Some c → (c ≡ a) ⊎ (height c < height a)
join_falls a b c h = subst (λ x. (x ≡ a) ⊎ (height x < height a)) (join_is a b c h).1 (joined_falls a b)

-- ---- registers

pub source_vaguer : (f g : Fact) (reg : ℕ) → IsAtMost f g → IsVaguer (source f reg) (source g reg)
source_vaguer f g reg x = x.regs (slot reg)

-- what is written to a register is vaguer
pub with_vaguer : (f g : Fact) (reg : ℕ) (s t : Source) → IsAtMost f g → IsVaguer s t → IsAtMost (with_source f reg s) (with_source g reg t)
with_vaguer f g reg s t x v = set_vaguer (slot reg)
  where
    set_vaguer : (r : ℕ) → IsAtMost (record f { regs = set f.regs r s }) (record g { regs = set g.regs r t })
    set_vaguer r = record {
      depth = x.depth;
      below = x.below;
      kept = x.kept;
      long = length-set f.regs r s ∙ x.long ∙ sym (length-set g.regs r t);
      regs = λ k. ⊎_elim
          (λ (e : k ≡ r). subst (λ i. IsVaguer (get_or (set f.regs r s) i Other) (get_or (set g.regs r t) i Other)) (sym e) (⊎_elim
          (λ (l : r < length f.regs). let l' : r < length g.regs = omega (arith, l, x.long) in
          subst (λ u. IsVaguer u (get_or (set g.regs r t) r Other)) (sym (get_or-set_same f.regs r s Other l)) (subst (λ u. IsVaguer s u) (sym (get_or-set_same g.regs r t Other l')) v))
          (λ (l : length f.regs ≤ r). inr (get_or_past (set g.regs r t) r Other (omega (arith, length-set g.regs r t, x.long, l))))
          (cases_lt r (length f.regs))))
          (λ (n : k ≡ r → ⊥). subst (λ u. IsVaguer u (get_or (set g.regs r t) k Other)) (sym (get_or-set_other f.regs r k s Other n)) (subst (λ u. IsVaguer (get_or f.regs k Other) u) (sym (get_or-set_other g.regs r k t Other n)) (x.regs k)))
          (cases_eq k r);
    }

pub lost_vaguer : (f g : Fact) (reg : ℕ) → IsAtMost f g → IsAtMost (forget_register reg f) (forget_register reg g)
lost_vaguer f g reg x = with_vaguer f g reg Other Other x (inl refl)

pub clobbered_vaguer : (regs : List ℕ) (f g : Fact) → IsAtMost f g → IsAtMost (forget_registers regs f) (forget_registers regs g)
clobbered_vaguer [] f g x = x
clobbered_vaguer (reg ∷ more) f g x = clobbered_vaguer more (forget_register reg f) (forget_register reg g) (lost_vaguer f g reg x)
