-- The guarded words of all threads together, and those of one thread and beyond it.
use Rattle.std.proofs.Common.{◌≡◌, ℕ, zero, suc, ◌+◌, ◌<◌, ◌⊎◌, inl, inr, ◌==◌, Bool, true, false, cond, List, [], ◌∷◌, ◌++◌, length, get_or, set, Option, Some, None, refl, sym, ap, subst, ◌∙◌, arith}
use Rattle.std.proofs.lemmas.Bool.{eqb-true}
use Rattle.std.proofs.lemmas.Bool.Decides.{nat_tests}
use Rattle.eh_bus.specs.Guards.{insert_all}
use Rattle.eh_bus.specs.Lists.{Has}
use Rattle.eh_bus.proofs.GuardLaws.{Rising, same_rising, inserted_rising, has_inserted, in_inserted, still_inserted}
use Rattle.sim_machines.specs.Activations.{Activation, guarded_words, slots_of}
use Rattle.sim_machines.proofs.Saving.{in_guarded}
use Rattle.thread_laws.specs.RecordedThreads.{RecordedThread, slots_in, slots_beside}
use Rattle.thread_laws.specs.Standing.{all_slots}

-- ---- lists in two parts

pub has_either : (xs ys : List ℕ) (g : ℕ) → Has (xs ++ ys) g → Has xs g ⊎ Has ys g
has_either [] ys g h = inr h
has_either (v ∷ more) ys g (inl e) = inl (inl e)
has_either (v ∷ more) ys g (inr h) = elim (has_either more ys g h) [ inl i ↦ inl (inr i) | inr i ↦ inr i ]

pub has_old : (xs ys : List ℕ) (g : ℕ) → Has ys g → Has (xs ++ ys) g
has_old [] ys g h = h
has_old (v ∷ more) ys g h = inr (has_old more ys g h)

pub has_new : (xs ys : List ℕ) (g : ℕ) → Has xs g → Has (xs ++ ys) g
has_new [] ys g h = absurd h
has_new (v ∷ more) ys g (inl e) = inl e
has_new (v ∷ more) ys g (inr h) = inr (has_new more ys g h)

-- ---- words that are put in

all_rise : (xs : List ℕ) → Rising 0 (insert_all xs [])
all_rise [] = tt
all_rise (x ∷ xs) = inserted_rising 0 x (insert_all xs []) (omega arith) (all_rise xs)

has_all : (xs : List ℕ) (g : ℕ) → Has (insert_all xs []) g → Has xs g
has_all [] g h = h
has_all (x ∷ xs) g h = elim (has_inserted x g (insert_all xs []) h) [ inl e ↦ inl e | inr k ↦ inr (has_all xs g k) ]

pub in_all : (xs : List ℕ) (g : ℕ) → Has xs g → Has (insert_all xs []) g
in_all [] g h = h
in_all (x ∷ xs) g (inl e) = subst (λ (y : ℕ). Has (insert_all (x ∷ xs) []) y) e (in_inserted x (insert_all xs []))
in_all (x ∷ xs) g (inr k) = still_inserted x g (insert_all xs []) (in_all xs g k)

-- they are the same where they are of the same words
same_guards : (xs ys : List ℕ) → ((g : ℕ) → Has xs g → Has ys g) → ((g : ℕ) → Has ys g → Has xs g) → insert_all xs [] ≡ insert_all ys []
same_guards xs ys p q =
    same_rising 0 (insert_all xs []) (insert_all ys []) (all_rise xs) (all_rise ys) (λ g h. in_all ys g (p g (has_all xs g h))) (λ g h. in_all xs g (q g (has_all ys g h)))

-- ---- of one thread and beside it

abbrev Threads : Type 0
Threads = List (Option RecordedThread)

abbrev pub slots_at : Threads → ℕ → List ℕ
slots_at threads j = slots_in (get_or threads j None)

pub of_all : (threads : Threads) (j g : ℕ) → Has (slots_at threads j) g → Has (all_slots threads) g
of_all [] j g h = absurd h
of_all (t ∷ more) zero g h = has_new (slots_in t) (all_slots more) g h
of_all (t ∷ more) (suc j) g h = has_old (slots_in t) (all_slots more) g (of_all more j g h)

-- a slot beside a thread is another's
pub of_others : (k i : ℕ) (threads : Threads) (g : ℕ) → Has (slots_beside k i threads) g → (j : ℕ) × ((i + j ≡ k → ⊥) × (j < length threads) × Has (slots_at threads j) g)
of_others k i [] g h = absurd h
of_others k i (t ∷ more) g h = elim (has_either (cond (i == k) [] (slots_in t)) (slots_beside k (suc i) more) g h) [
  | inl here ↦ let w = first (i == k) refl here in (0, ((λ e. w.0 (omega (arith, e))), omega arith, w.1))
  | inr there ↦ let w = of_others k (suc i) more g there in (suc w.0, ((λ e. w.1.0 (omega (arith, e))), omega (arith, w.1.1), w.1.2))
]
  where
    first : (b : Bool) → (i == k) ≡ b → Has (cond b [] (slots_in t)) g → (i ≡ k → ⊥) × Has (slots_in t) g
    first true e h = absurd h
    first false e h = ((λ q. absurd (let f : (i == k) ≡ true = grind (arith, nat_tests) in cc)), h)

beside_all : (k i : ℕ) (threads : Threads) (g : ℕ) → Has (slots_beside k i threads) g → Has (all_slots threads) g
beside_all k i threads g h = let w = of_others k i threads g h in of_all threads w.0 g w.1.2

all_beside : (k i : ℕ) (threads : Threads) (g : ℕ) → Has (all_slots threads) g → Has (slots_beside k i threads) g ⊎ ((j : ℕ) × ((i + j ≡ k) × Has (slots_at threads j) g))
all_beside k i [] g h = absurd h
all_beside k i (t ∷ more) g h = elim (has_either (slots_in t) (all_slots more) g h) [
  | inl here ↦ first (i == k) refl here
  | inr there ↦ elim (all_beside k (suc i) more g there) [
    | inl b ↦ inl (has_old (cond (i == k) [] (slots_in t)) (slots_beside k (suc i) more) g b)
    | inr w ↦ inr (suc w.0, (omega (arith, w.1.0), w.1.1))
  ]
]
  where
    first : (b : Bool) → (i == k) ≡ b → Has (slots_in t) g → Has (cond b [] (slots_in t) ++ slots_beside k (suc i) more) g ⊎ ((j : ℕ) × ((i + j ≡ k) × Has (slots_at (t ∷ more) j) g))
    first true e h = inr (0, (omega (arith, eqb-true i k e), h))
    first false e h = inl (has_new (slots_in t) (slots_beside k (suc i) more) g h)

-- of the words that are guarded for an activation record
of_guarded : (beyond : List ℕ) (acts : List Activation) (g : ℕ) → Has (guarded_words beyond acts) g → Has (slots_of acts) g ⊎ Has beyond g
of_guarded beyond [] g h = inr h
of_guarded beyond (a ∷ more) g h = elim (has_either a.slots (guarded_words beyond more) g h) [
  | inl k ↦ inl (has_new a.slots (slots_of more) g k)
  | inr k ↦ elim (of_guarded beyond more g k) [ inl m ↦ inl (has_old a.slots (slots_of more) g m) | inr b ↦ inr b ]
]

-- the same words are guarded for each thread
pub guards_for : (threads : Threads) (k : ℕ) (t : RecordedThread) → get_or threads k None ≡ Some t
    → insert_all (guarded_words (slots_beside k 0 threads) (t.first ∷ t.outer)) [] ≡ insert_all (all_slots threads) []
guards_for threads k t e = same_guards (guarded_words (slots_beside k 0 threads) (t.first ∷ t.outer)) (all_slots threads) to from
  where
    to : (g : ℕ) → Has (guarded_words (slots_beside k 0 threads) (t.first ∷ t.outer)) g → Has (all_slots threads) g
    to g h = elim (of_guarded (slots_beside k 0 threads) (t.first ∷ t.outer) g h) [
      | inl mine ↦ of_all threads k g (subst (λ (o : Option RecordedThread). Has (slots_in o) g) (sym e) mine)
      | inr theirs ↦ beside_all k 0 threads g theirs
    ]

    from : (g : ℕ) → Has (all_slots threads) g → Has (guarded_words (slots_beside k 0 threads) (t.first ∷ t.outer)) g
    from g h = elim (all_beside k 0 threads g h) [
      | inl theirs ↦ in_guarded (slots_beside k 0 threads) (t.first ∷ t.outer) g (inr theirs)
      | inr w ↦ in_guarded (slots_beside k 0 threads) (t.first ∷ t.outer) g
          (inl (subst (λ (o : Option RecordedThread). Has (slots_in o) g) (ap (λ (j : ℕ). get_or threads j None) (let s : w.0 ≡ k = omega (arith, w.1.0) in s) ∙ e) w.1.1))
    ]

-- ---- a thread that changes

-- what stands beside it is as it was
pub beside_set : (k i j : ℕ) (threads : Threads) (o : Option RecordedThread) → i + j ≡ k → slots_beside k i (set threads j o) ≡ slots_beside k i threads
beside_set k i j [] o e = refl
beside_set k i zero (t ∷ more) o e = ap (λ (b : Bool). cond b [] (slots_in o) ++ slots_beside k (suc i) more) is ∙ sym (ap (λ (b : Bool). cond b [] (slots_in t) ++ slots_beside k (suc i) more) is)
  where
    is : (i == k) ≡ true
    is = grind (arith, nat_tests)
beside_set k i (suc j) (t ∷ more) o e = ap (λ (xs : List ℕ). cond (i == k) [] (slots_in t) ++ xs) (beside_set k (suc i) j more o (omega (arith, e)))

-- .. and so it is where its slots are
pub beside_same : (k i j : ℕ) (threads : Threads) (o : Option RecordedThread) → slots_in o ≡ slots_at threads j → slots_beside k i (set threads j o) ≡ slots_beside k i threads
beside_same k i j [] o e = refl
beside_same k i zero (t ∷ more) o e = ap (λ (xs : List ℕ). cond (i == k) [] xs ++ slots_beside k (suc i) more) e
beside_same k i (suc j) (t ∷ more) o e = ap (λ (xs : List ℕ). cond (i == k) [] (slots_in t) ++ xs) (beside_same k (suc i) j more o e)

pub all_same : (j : ℕ) (threads : Threads) (o : Option RecordedThread) → slots_in o ≡ slots_at threads j → all_slots (set threads j o) ≡ all_slots threads
all_same j [] o e = refl
all_same zero (t ∷ more) o e = ap (λ (xs : List ℕ). xs ++ all_slots more) e
all_same (suc j) (t ∷ more) o e = ap (λ (xs : List ℕ). slots_in t ++ xs) (all_same j more o e)

-- a thread's slots stand beside any other
pub beside_has : (k i j : ℕ) (threads : Threads) (g : ℕ) → (i + j ≡ k → ⊥) → Has (slots_at threads j) g → Has (slots_beside k i threads) g
beside_has k i j [] g d h = absurd h
beside_has k i zero (t ∷ more) g d h = first (i == k) refl
  where
    first : (b : Bool) → (i == k) ≡ b → Has (cond b [] (slots_in t) ++ slots_beside k (suc i) more) g
    first true e = absurd (d (omega (arith, eqb-true i k e)))
    first false e = has_new (slots_in t) (slots_beside k (suc i) more) g h
beside_has k i (suc j) (t ∷ more) g d h = has_old (cond (i == k) [] (slots_in t)) (slots_beside k (suc i) more) g (beside_has k (suc i) j more g (λ e. d (omega (arith, e))) h)

-- of a thread that was never started all are beside it
pub guards_beside : (threads : Threads) (k : ℕ) → get_or threads k None ≡ None → insert_all (slots_beside k 0 threads) [] ≡ insert_all (all_slots threads) []
guards_beside threads k e = same_guards (slots_beside k 0 threads) (all_slots threads) (λ g h. beside_all k 0 threads g h) (λ g h. elim (all_beside k 0 threads g h) [
  | inl theirs ↦ theirs
  | inr w ↦ absurd (subst (λ (o : Option RecordedThread). Has (slots_in o) g) (ap (λ (j : ℕ). get_or threads j None) (let s : w.0 ≡ k = omega (arith, w.1.0) in s) ∙ e) w.1.1)
])
