-- Where facts are valid, every state is at most as vague as the fact at its place, and no cause stands.
use Rattle.std.proofs.Common.{ℕ, ◌≡◌, List, Option, sym, ◌∙◌, subst}
use Rattle.std.proofs.lemmas.Bool.{true≢false}
use Rattle.std.proofs.lemmas.Option.{same_Some}
use Rattle.frame_dataflow.specs.Flow.{Flow, IsState, at_entry, along, meeting, IsShownAt, met, apart, IsCovered, AreValid}
use Rattle.frame_dataflow.specs.Laws.{Laws, Bounds}

module _ (F C : Type 0) (flow : Flow F C) (at_most : F → F → Type 0) (laws : Laws F C flow at_most) (facts : List (Option F)) (v : AreValid F C flow at_most facts) where
  pub below : (p : ℕ) (f : F) → IsState F C flow p f → IsCovered at_most facts p f
  below _ _ at_entry = v.entry
  below _ _ (along {p} {q} {f} {g} s e) =
      let c = below p f s in
      let d = laws.transfer p f c.0 c.2 (v.passes p c.0 c.1) q g e in
      let r = v.closed p c.0 q d.0 c.1 d.1 in
      (r.0, r.1, laws.via g d.0 r.0 d.2 r.2)
  below _ _ (meeting {p} {f} {g} {h} s t e) =
      let c = below p f s in
      let d = below p g t in
      let one : d.0 ≡ c.0 = same_Some d.0 c.0 (sym d.1 ∙ c.1) in
      (c.0, c.1, laws.least f g h c.0 e c.2 (subst (λ k. at_most g k) one d.2))

  pub none_stand : (p : ℕ) (c : C) → IsShownAt F C flow p c → ⊥
  none_stand _ _ (met {p} {f} {c} s m) =
      let d = below p f s in
      true≢false (sym m ∙ laws.passes p f d.0 d.2 (v.passes p d.0 d.1) c)
  none_stand _ _ (apart {p} {f} {g} {c} s t e m) =
      let a = below p f s in
      let b = below p g t in
      let one : b.0 ≡ a.0 = same_Some b.0 a.0 (sym b.1 ∙ a.1) in
      laws.joins f g a.0 a.2 (subst (λ k. at_most g k) one b.2) e

pub bounds : (F C : Type 0) (at_most : F → F → Type 0) → Bounds F C at_most
bounds F C at_most flow facts laws v = (λ p f s. below F C flow at_most laws facts v p f s, λ p c s. none_stand F C flow at_most laws facts v p c s)
