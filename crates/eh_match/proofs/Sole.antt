-- The condition on a list of paths.
use Rattle.std.proofs.Common.{◌≡◌, List, [], ◌∷◌, refl, ◌∙◌, ap, sym, inl, inr, Bool, true, false, cond, Option, None}
use Rattle.std.specs.Prelude.{find}
use Rattle.std.specs.List.{list_all}
use Rattle.eh_types.specs.declared.kind.Base.{Base}
use Rattle.eh_types.specs.Graph.{Row}
use Rattle.eh_match.specs.Paths.{is_public}
use Rattle.eh_match.specs.Subobjects.{same_subobject, sole}
use Rattle.eh_match.proofs.Members.{Among, find-none, all_among, all_from}
use Rattle.eh_match.proofs.Equal.{same-refl, same-sym, same-trans}

cond_none : (b : Bool) (o : Option (List Base)) → o ≡ None → cond b o None ≡ None
cond_none true o e = e
cond_none false o e = refl

-- none is public
pub sole-not_public : (g : List Row) (ps : List (List Base)) → ((p : List Base) → Among ps p → is_public p ≡ false) → sole g ps ≡ None
sole-not_public g [] h = refl
sole-not_public g (p ∷ more) h = cond_none (list_all (same_subobject g p) more) (find is_public (p ∷ more)) (find-none is_public (p ∷ more) h)

-- the first is like each of them, where all those after it are
like_first : (g : List Row) (p : List Base) (more : List (List Base)) → list_all (same_subobject g p) more ≡ true → (q : List Base) → Among (p ∷ more) q → same_subobject g p q ≡ true
like_first g p more t q (inl e) = ap (same_subobject g p) (sym e) ∙ same-refl g p
like_first g p more t q (inr a) = all_among (same_subobject g p) more q t a

-- two aren't alike
parted_if : (g : List Row) (b : Bool) (p : List Base) (more : List (List Base)) (found : Option (List Base)) (one other : List Base)
    → list_all (same_subobject g p) more ≡ b → Among (p ∷ more) one → Among (p ∷ more) other → same_subobject g one other ≡ false → cond b found None ≡ None
parted_if g true p more found one other t a c f =
    let same = same-trans g one p other (same-sym g p one (like_first g p more t one a)) (like_first g p more t other c) in
    absurd (cc (same, f))
parted_if g false p more found one other t a c f = refl

pub sole-parted : (g : List Row) (ps : List (List Base)) (one other : List Base) → Among ps one → Among ps other → same_subobject g one other ≡ false → sole g ps ≡ None
sole-parted g [] one other a c f = refl
sole-parted g (p ∷ more) one other a c f = parted_if g (list_all (same_subobject g p) more) p more (find is_public (p ∷ more)) one other refl a c f

-- all are alike
pub sole-alike : (g : List Row) (ps : List (List Base)) (one : List Base) → ((q : List Base) → Among ps q → same_subobject g one q ≡ true) → sole g ps ≡ find is_public ps
sole-alike g [] one h = refl
sole-alike g (p ∷ more) one h =
    let alike = all_from (same_subobject g p) more (λ q a. same-trans g p one q (same-sym g one p (h p (inl refl))) (h q (inr a))) in
    ap (λ b. cond b (find is_public (p ∷ more)) None) alike
