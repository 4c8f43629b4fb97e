-- What two facts have in common.
use Rattle.std.proofs.Common.{◌≡◌, ◌≢◌, ℕ, ◌+◌, ◌<◌, ◌==◌, ◌||◌, min, Bool, true, false, cond, Some, None, ⊎_elim, refl, sym, ap, subst, ◌∙◌, arith, eq-eqb, eqb-true, ne_eqb}
use Rattle.std.proofs.lemmas.Bool.{false≢true}
use Rattle.thumb_core.specs.Registers.{reg}
use Rattle.frame_facts.specs.declared.facts.Source.{Source}
use Rattle.frame_facts.specs.declared.facts.Source.TheVariants.{Other}
use Rattle.frame_facts.specs.declared.facts.Fact.{Fact}
use Rattle.frame_facts.specs.Facts.{slot, source, met_source, met_sources, join_of}
use Rattle.frame_facts.specs.Machine.{Means}
use Rattle.frame_facts.proofs.Meeting.{met_at, met_cases, met_self, met_length}
use Rattle.frame_laws.specs.MeetingLaws.{IsCommon, DescribesBoth, MeetingsAreCommon}

-- what is common to two facts of one depth
abbrev common : Fact → Fact → Fact
common a b = record { depth = a.depth; below = a.below || b.below; kept = min a.kept b.kept; regs = met_sources a.regs b.regs }

record AreJoined (a b m : Fact) : Type 0 where
  depth : a.depth ≡ b.depth
  is : m ≡ common a b

joined : (a b m : Fact) → join_of a b ≡ Some m → AreJoined a b m
joined a b m h = go (a.depth == b.depth) refl h
  where
    go : (t : Bool) → (a.depth == b.depth) ≡ t → cond t (Some (common a b)) None ≡ Some m → AreJoined a b m
    go true e f = let same : common a b ≡ m = cc in record { depth = eqb-true a.depth b.depth e; is = sym same }
    go false e f = absurd cc

source_is : (a b : Fact) (k : ℕ) → source (common a b) k ≡ met_source (source a k) (source b k)
source_is a b k = met_at a.regs b.regs (slot k)

-- ---- sp

neither : (x y : Bool) → x || y ≡ false → (x ≡ false) × (y ≡ false)
neither true y e = absurd (false≢true (sym e))
neither false y e = (refl, e)

none : (x y : Bool) → (x ≡ false) × (y ≡ false) → x || y ≡ false
none x y e = ap (λ c. c || y) e.0 ∙ e.1

-- ---- sources

said_by_both : (x y s : Source) → s ≢ Other → met_source x y ≡ s → (x ≡ s) × (y ≡ s)
said_by_both x y s known e = ⊎_elim
    (λ (w : (x ≡ y) × (met_source x y ≡ x)). (sym w.1 ∙ e, sym w.0 ∙ sym w.1 ∙ e))
    (λ (o : met_source x y ≡ Other). absurd (known (sym e ∙ o)))
    (met_cases x y)

kept_by_both : (x y s : Source) → (x ≡ s) × (y ≡ s) → met_source x y ≡ s
kept_by_both x y s e = ap (λ z. met_source z y) e.0 ∙ ap (met_source s) e.1 ∙ met_self s

is_common : (a b : Fact) → a.depth ≡ b.depth → IsCommon a b (common a b)
is_common a b e = record {
  depth = refl;
  other_depth = e;
  sp = (neither a.below b.below, none a.below b.below);
  saves = λ k. ((λ (h : k < min a.kept b.kept). (omega (arith, h), omega (arith, h))), (λ (h : (k < a.kept) × (k < b.kept)). omega (arith, h.0, h.1)));
  registers = λ k s known. (
    (λ (h : source (common a b) k ≡ s). said_by_both (source a k) (source b k) s known (sym (source_is a b k) ∙ h)),
    (λ (h : (source a k ≡ s) × (source b k ≡ s)). source_is a b k ∙ kept_by_both (source a k) (source b k) s h),
  );
}

-- ---- what is described

-- what a source of either fact says, or nothing
left_means : (entry : ℕ → ℕ) (cfa : ℕ) (x y : Source) (value : ℕ) → Means entry cfa x value → Means entry cfa (met_source x y) value
left_means entry cfa x y value h = ⊎_elim
    (λ (w : (x ≡ y) × (met_source x y ≡ x)). subst (λ (s : Source). Means entry cfa s value) (sym w.1) h)
    (λ (o : met_source x y ≡ Other). subst (λ (s : Source). Means entry cfa s value) (sym o) tt)
    (met_cases x y)

right_means : (entry : ℕ → ℕ) (cfa : ℕ) (x y : Source) (value : ℕ) → Means entry cfa y value → Means entry cfa (met_source x y) value
right_means entry cfa x y value h = ⊎_elim
    (λ (w : (x ≡ y) × (met_source x y ≡ x)). subst (λ (s : Source). Means entry cfa s value) (sym (w.1 ∙ w.0)) h)
    (λ (o : met_source x y ≡ Other). subst (λ (s : Source). Means entry cfa s value) (sym o) tt)
    (met_cases x y)

describes_both : (a b : Fact) → a.depth ≡ b.depth → DescribesBoth a b (common a b)
describes_both a b e = record {
  one = λ entry cfa regs h. record {
    long = met_length a.regs b.regs ∙ h.long;
    sources = λ k. subst (λ (s : Source). Means entry cfa s (reg regs k)) (sym (source_is a b k)) (left_means entry cfa (source a k) (source b k) (reg regs k) (h.sources k));
    sp = λ f. h.sp (neither a.below b.below f).0;
  };
  other = λ entry cfa regs long h. record {
    long = met_length a.regs b.regs ∙ long;
    sources = λ k. subst (λ (s : Source). Means entry cfa s (reg regs k)) (sym (source_is a b k)) (right_means entry cfa (source a k) (source b k) (reg regs k) (h.sources k));
    sp = λ f. ap (λ n. reg regs 13 + n) e ∙ h.sp (neither a.below b.below f).1;
  };
}

pub meetings : MeetingsAreCommon
meetings = record {
  meet = λ a b e. (common a b, ap (λ t. cond t (Some (common a b)) None) (eq-eqb a.depth b.depth e));
  apart = λ a b e. ap (λ t. cond t (Some (common a b)) None) (ne_eqb a.depth b.depth e);
  common = λ a b m h. let j = joined a b m h in subst (IsCommon a b) (sym j.is) (is_common a b j.depth);
  describes = λ a b m h. let j = joined a b m h in subst (DescribesBoth a b) (sym j.is) (describes_both a b j.depth);
}
