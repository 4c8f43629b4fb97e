-- A trace that says what came goes on to say it.
use Rattle.std.proofs.Common.{◌≡◌, ℕ, zero, suc, ◌+◌, ◌-◌, ◌^◌, ◌<◌, ◌≤◌, min, nat_lt, Bool, true, false, cond, List, [], ◌∷◌, ◌++◌, length, take, refl, sym, ap, ◌∙◌, arith}
use Rattle.std.proofs.lemmas.Bool.Decides.{nat_tests}
use Rattle.std.proofs.lemmas.List.{take-append-le, length-append, length-take}
use Rattle.std.proofs.lemmas.List.Sums.{sum_by-append}
use Rattle.std.specs.List.{count_by}
use Rattle.eh_trace.specs.declared.event.EventKind.{EventKind}
use Rattle.eh_trace.specs.declared.event.EventKind.TheVariants.{Throw, Rethrow, Cleanup, Catch, Unexpected}
use Rattle.eh_trace.specs.declared.event.Event.{Event}
use Rattle.eh_trace.specs.declared.events.TheConstants.{MAX_KEPT}
use Rattle.eh_trace.specs.Trace.{Trace, total_of, one_event, counting, keep_event, push_event, is_kind, Holds}

whole : (xs : List Event) (n : ℕ) → length xs ≤ n → take n xs ≡ xs
whole [] zero h = refl
whole [] (suc n) h = refl
whole (x ∷ xs) zero h = absurd (omega arith)
whole (x ∷ xs) (suc n) h = ap (λ (ys : List Event). x ∷ ys) (whole xs n (omega arith))

few_of : (a b n : ℕ) → a ≡ min n b → nat_lt a n ≡ true → b < n
few_of a b n e q = let h : a < n = grind (arith, nat_tests) in omega arith

many_of : (a b n : ℕ) → a ≡ min n b → nat_lt a n ≡ false → n ≤ b
many_of a b n e q = let h : n ≤ a = grind (arith, nat_tests) in omega arith

kept : (e : Event) (all : List Event) → keep_event e (take MAX_KEPT all) ≡ take MAX_KEPT (all ++ e ∷ [])
kept e all = by (nat_lt (length (take MAX_KEPT all)) MAX_KEPT) refl
  where
    size : length (take MAX_KEPT all) ≡ min MAX_KEPT (length all)
    size = length-take MAX_KEPT all

    more : length (all ++ e ∷ []) ≡ length all + 1
    more = length-append all (e ∷ [])

    by : (b : Bool) → nat_lt (length (take MAX_KEPT all)) MAX_KEPT ≡ b → cond b (take MAX_KEPT all ++ e ∷ []) (take MAX_KEPT all) ≡ take MAX_KEPT (all ++ e ∷ [])
    by true q =
        let few : length all < MAX_KEPT = few_of (length (take MAX_KEPT all)) (length all) MAX_KEPT size q in
        let a : take MAX_KEPT all ≡ all = whole all MAX_KEPT (omega arith) in
        let b : take MAX_KEPT (all ++ e ∷ []) ≡ all ++ e ∷ [] = whole (all ++ e ∷ []) MAX_KEPT (omega (arith, more)) in
        rw (a, b) refl
    by false q =
        let many : MAX_KEPT ≤ length all = many_of (length (take MAX_KEPT all)) (length all) MAX_KEPT size q in
        sym (take-append-le MAX_KEPT all (e ∷ []) many)

counted : (k : EventKind) (e : Event) (all : List Event) → count_by (λ x. is_kind k x.kind) (all ++ e ∷ []) ≡ count_by (λ x. is_kind k x.kind) all + cond (is_kind k e.kind) 1 0
counted k e all = let a = sum_by-append (λ (x : Event). cond (is_kind k x.kind) 1 0) all (e ∷ []) in omega (arith, a)

-- one more of its kind, and as many of each other kind
more_of : (n : ℕ) → one_event (min n (2 ^ 64 - 1)) ≡ min (n + 1) (2 ^ 64 - 1)
more_of n = omega arith

same_of : (n : ℕ) → min n (2 ^ 64 - 1) ≡ min (n + 0) (2 ^ 64 - 1)
same_of n = omega arith

totals : (k j : EventKind) (t : Trace) (n : ℕ) → total_of k t ≡ min n (2 ^ 64 - 1) → total_of k (counting j t) ≡ min (n + cond (is_kind k j) 1 0) (2 ^ 64 - 1)
totals Throw Throw t n e = rw e (more_of n)
totals Throw Rethrow t n e = rw e (same_of n)
totals Throw Cleanup t n e = rw e (same_of n)
totals Throw Catch t n e = rw e (same_of n)
totals Throw Unexpected t n e = rw e (same_of n)
totals Rethrow Throw t n e = rw e (same_of n)
totals Rethrow Rethrow t n e = rw e (more_of n)
totals Rethrow Cleanup t n e = rw e (same_of n)
totals Rethrow Catch t n e = rw e (same_of n)
totals Rethrow Unexpected t n e = rw e (same_of n)
totals Cleanup Throw t n e = rw e (same_of n)
totals Cleanup Rethrow t n e = rw e (same_of n)
totals Cleanup Cleanup t n e = rw e (more_of n)
totals Cleanup Catch t n e = rw e (same_of n)
totals Cleanup Unexpected t n e = rw e (same_of n)
totals Catch Throw t n e = rw e (same_of n)
totals Catch Rethrow t n e = rw e (same_of n)
totals Catch Cleanup t n e = rw e (same_of n)
totals Catch Catch t n e = rw e (more_of n)
totals Catch Unexpected t n e = rw e (same_of n)
totals Unexpected Throw t n e = rw e (same_of n)
totals Unexpected Rethrow t n e = rw e (same_of n)
totals Unexpected Cleanup t n e = rw e (same_of n)
totals Unexpected Catch t n e = rw e (same_of n)
totals Unexpected Unexpected t n e = rw e (more_of n)

-- what is kept plays no part in a total
total_kept : (k : EventKind) (t : Trace) (es : List Event) → total_of k (record t { kept = es }) ≡ total_of k t
total_kept Throw t es = refl
total_kept Rethrow t es = refl
total_kept Cleanup t es = refl
total_kept Catch t es = refl
total_kept Unexpected t es = refl

pub pushed_holds : (t : Trace) (e : Event) (all : List Event) → Holds t all → Holds (push_event t e) (all ++ e ∷ [])
pushed_holds t e all x = record {
  kept = ap (keep_event e) x.kept ∙ kept e all;
  total = λ k. total_kept k (counting e.kind t) (keep_event e t.kept)
      ∙ (totals k e.kind t (count_by (λ x. is_kind k x.kind) all) (x.total k) ∙ ap (λ (n : ℕ). min n (2 ^ 64 - 1)) (sym (counted k e all)));
}
