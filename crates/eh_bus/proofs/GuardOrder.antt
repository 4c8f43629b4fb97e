-- Guarded words stay in rising order when one is inserted, and when some are let go.
use Rattle.std.proofs.Common.{◌≡◌, ℕ, ◌+◌, ◌%◌, ◌<◌, ◌≤◌, Bool, true, false, ◌==◌, nat_lt, cond, List, [], ◌∷◌, filter, refl, sym, ◌∙◌, arith}
use Rattle.std.proofs.lemmas.Bool.{ltb-true, ltb-false, eqb-false}
use Rattle.eh_bus.specs.Guards.{insert_sorted, RiseFrom}
use Rattle.eh_bus.specs.declared.map.TheConstants.{STACK_END}

lower : (low high : ℕ) (guards : List ℕ) → low ≤ high → RiseFrom high guards → RiseFrom low guards
lower low high [] h r = omega arith
lower low high (g ∷ more) h r = (omega (arith, r.0), r.1)

pub inserted_rises : (low a : ℕ) (guards : List ℕ) → low ≤ a → a % 4 ≡ 0 → a < STACK_END → RiseFrom low guards → RiseFrom low (insert_sorted a guards)
inserted_rises low a [] h e b r = (h, (e, omega arith))
inserted_rises low a (g ∷ more) h e b r = by_order (nat_lt g a) refl (inserted_rises (g + 4) a more)
  where
    by_equal : (t : Bool) → (g == a) ≡ t → nat_lt g a ≡ false → RiseFrom low (cond t (g ∷ more) (a ∷ g ∷ more))
    by_equal true s o = r
    by_equal false s o =
        let above = ltb-false g a o in
        let other = eqb-false g a s in
        (h, (e, (omega (arith, r.1), r.1)))

    by_order : (t : Bool) → nat_lt g a ≡ t → (g + 4 ≤ a → a % 4 ≡ 0 → a < STACK_END → RiseFrom (g + 4) more → RiseFrom (g + 4) (insert_sorted a more))
        → RiseFrom low (cond t (g ∷ insert_sorted a more) (cond (g == a) (g ∷ more) (a ∷ g ∷ more)))
    by_order true o next = (r.0, (r.1.0, next (let below = ltb-true g a o in omega (arith, r.1)) e b r.1.1))
    by_order false o next = by_equal (g == a) refl o

pub filter_rises : (p : ℕ → Bool) (low : ℕ) (guards : List ℕ) → RiseFrom low guards → RiseFrom low (filter p guards)
filter_rises p low [] r = r
filter_rises p low (g ∷ more) r = by_test (p g) (filter_rises p (g + 4) more r.1.1)
  where
    by_test : (t : Bool) → RiseFrom (g + 4) (filter p more) → RiseFrom low (cond t (g ∷ filter p more) (filter p more))
    by_test true next = (r.0, (r.1.0, next))
    by_test false next = lower low (g + 4) (filter p more) (omega (arith, r.0)) next
