-- A thrown object before catches and specifications.
use Rattle.std.proofs.Common.{◌≡◌, ℕ, zero, suc, ◌+◌, ◌<◌, true, cond, map, Option, Some, None, refl, ap, ◌∙◌, arith}
use Rattle.std.specs.Prelude.{find, unwrap_or, Ok}
use Rattle.std.specs.List.{range_with_len}
use Rattle.eh_match.specs.declared.rules.Match.{Match}
use Rattle.eh_match.specs.declared.rules.Match.TheVariants.{Failed, Object, PointerToBase, Unreadable}
use Rattle.eh_desc.specs.declared.descriptor.DescKind.TheVariants.{Spec}
use Rattle.eh_desc.specs.Grammar.{type_in}
use Rattle.eh_phase.specs.declared.verdict.Verdict.{Verdict}
use Rattle.eh_phase.specs.Calls.{meeting}
use Rattle.eh_phase.specs.Verdict.{Meeting, heard, desc_verdict_by, by_match, is_hit, unless_named}
use Rattle.eh_phase_laws.specs.Thrown.{Throw, match_as, CatchesAskTheMatch, match_as_spec_type, NoneBelow, SpecificationsAskTheMatch}
use Rattle.eh_phase_laws.proofs.Heard.{silent, spoken, in_says, everything_stops}

abbrev met : Throw → Meeting
met t = meeting t.image t.types t.memory t.what

-- ---- catches

pub catches_ask_the_match : CatchesAskTheMatch
catches_ask_the_match t f d pad reference more outer last h = record {
  everything = λ k. everything_stops (met t) f d pad reference more outer last h k;
  object = λ type x k e. spoken (met t) f (Ok d) _ more outer last (in_says (met t) f d h ∙ ap (desc_verdict_by (met t) d.at) k ∙ ap (by_match d.at) e);
  pointer = λ type x k e. spoken (met t) f (Ok d) _ more outer last (in_says (met t) f d h ∙ ap (desc_verdict_by (met t) d.at) k ∙ ap (by_match d.at) e);
  silent = λ type k e. silent (met t) f (Ok d) more outer last (in_says (met t) f d h ∙ ap (desc_verdict_by (met t) d.at) k ∙ ap (by_match d.at) e);
  unreadable = λ type a k e. spoken (met t) f (Ok d) _ more outer last (in_says (met t) f d h ∙ ap (desc_verdict_by (met t) d.at) k ∙ ap (by_match d.at) e);
}

-- ---- specifications

-- of the matches with types from a number on, none is a hit
none_hit : (g : ℕ → Match) (h : ℕ → ℕ) (low n : ℕ) → ((i : ℕ) → i < n → g (h (low + i)) ≡ Failed) → find is_hit (map g (map h (range_with_len low n))) ≡ None
none_hit g h low zero e = refl
none_hit g h low (suc n) e =
    let rest = find is_hit (map g (map h (range_with_len (low + 1) n))) in
    ap (λ x. cond (is_hit x) (Some x) rest) (ap (λ k. g (h k)) (let z : low ≡ low + 0 = omega arith in z) ∙ e 0 (omega arith))
    ∙ none_hit g h (low + 1) n (λ i b. ap (λ k. g (h k)) (let z : low + 1 + i ≡ low + suc i = omega arith in z) ∙ e (suc i) (omega (arith, b)))

-- .. or the first hit is the match with type i
first_is : (g : ℕ → Match) (h : ℕ → ℕ) (low n i : ℕ) (x : Match) → i < n → ((j : ℕ) → j < i → g (h (low + j)) ≡ Failed) → g (h (low + i)) ≡ x → is_hit x ≡ true
    → find is_hit (map g (map h (range_with_len low n))) ≡ Some x
first_is g h low zero i x b before e hit = absurd (omega arith)
first_is g h low (suc n) zero x b before e hit =
    let rest = find is_hit (map g (map h (range_with_len (low + 1) n))) in
    ap (λ y. cond (is_hit y) (Some y) rest) (ap (λ k. g (h k)) (let z : low ≡ low + 0 = omega arith in z) ∙ e) ∙ ap (λ c. cond c (Some x) rest) hit
first_is g h low (suc n) (suc i) x b before e hit =
    let rest = find is_hit (map g (map h (range_with_len (low + 1) n))) in
    ap (λ y. cond (is_hit y) (Some y) rest) (ap (λ k. g (h k)) (let z : low ≡ low + 0 = omega arith in z) ∙ before 0 (omega arith))
    ∙ first_is g h (low + 1) n i x (omega (arith, b)) (λ j c. ap (λ k. g (h k)) (let z : low + 1 + j ≡ low + suc j = omega arith in z) ∙ before (suc j) (omega (arith, c)))
    (ap (λ k. g (h k)) (let z : low + 1 + i ≡ low + suc i = omega arith in z) ∙ e) hit

pub specifications_ask_the_match : SpecificationsAskTheMatch
specifications_ask_the_match t f d types count pad more outer last h k = record {
  violated = λ none. spoken (met t) f (Ok d) _ more outer last (told ∙ ap by (none_hit (match_as t) name 0 count (λ i b. at i ∙ none i b)));
  object = λ i x b below e. silent (met t) f (Ok d) more outer last (told ∙ ap by (first i b (Object x) below e refl));
  pointer = λ i x b below e. silent (met t) f (Ok d) more outer last (told ∙ ap by (first i b (PointerToBase x) below e refl));
  unreadable = λ i a b below e. spoken (met t) f (Ok d) _ more outer last (told ∙ ap by (first i b (Unreadable a) below e refl));
}
  where
    name : ℕ → ℕ
    name i = unwrap_or (type_in t.image.segments (Spec types count pad) i) 0

    by : Option Match → Option Verdict
    by o = unless_named t.what.object d.at (unwrap_or o Failed)

    told : heard (met t) f.site (Ok d) ≡ by (find is_hit (map (match_as t) (map name (range_with_len 0 count))))
    told = in_says (met t) f d h ∙ ap (desc_verdict_by (met t) d.at) k

    at : (i : ℕ) → match_as t (name (0 + i)) ≡ match_as_spec_type t types count pad i
    at i = ap (λ n. match_as t (name n)) (let z : 0 + i ≡ i = omega arith in z)

    first : (i : ℕ) → i < count → (x : Match) → NoneBelow t types count pad i → match_as_spec_type t types count pad i ≡ x → is_hit x ≡ true
        → find is_hit (map (match_as t) (map name (range_with_len 0 count))) ≡ Some x
    first i b x below e hit = first_is (match_as t) name 0 count i x b (λ j c. at j ∙ below j c) (at i ∙ e) hit
