-- What is left to do falls with each step of reading.
use Rattle.std.proofs.Common.{◌≡◌, ℕ, zero, suc, ◌+◌, ◌-◌, ◌^◌, ◌<◌, ◌≤◌, Bool, true, false, cond, not, ◌&&◌, nat_eq, List, [], ◌∷◌, ◌++◌, length, Option, Some, None, is_some, refl, sym, ap, inl, inr, arith, length-append}
use Rattle.std.proofs.lemmas.Bool.Decides.{nat_tests}
use Rattle.std.proofs.lemmas.Bool.{cases_eq}
use Rattle.std.proofs.lemmas.List.Sums.{sum_by-cons}
use Rattle.eh_types.specs.declared.kind.TypeKind.{TypeKind}
use Rattle.eh_types.specs.declared.kind.TypeKind.TheVariants.{Other, Fundamental, Class, Si, Vmi, Pointer}
use Rattle.eh_types.specs.declared.state.CountedType.{CountedType}
use Rattle.eh_types.specs.declared.state.Frame.{Frame}
use Rattle.eh_types.specs.Meant.{pointees}
use Rattle.eh_types.specs.Reading.{is_on, count_free, is_free, work_left}

test_same : (x : ℕ) → nat_eq x x ≡ true
test_same x = grind (arith, nat_tests)

test_not : (x y : ℕ) → (x ≡ y → ⊥) → nat_eq x y ≡ false
test_not x y h = grind (arith, nat_tests)

test_from : (x y : ℕ) → nat_eq x y ≡ true → x ≡ y
test_from x y h = grind (arith, nat_tests)

count_same : (p q : ℕ → Bool) (n : ℕ) → ((a : ℕ) → a < n → p a ≡ q a) → count_free p n ≡ count_free q n
unfolding count_free
count_same p q zero same = refl
count_same p q (suc n) same = rw (same n (omega arith), count_same p q n (λ a h. same a (omega arith))) refl

-- one number less
count_less : (p q : ℕ → Bool) (n b : ℕ) → b < n → p b ≡ true → q b ≡ false → ((a : ℕ) → (a ≡ b → ⊥) → p a ≡ q a) → count_free p n ≡ 1 + count_free q n
unfolding count_free
count_less p q zero b h on off same = absurd (omega arith)
count_less p q (suc n) b h on off same =
    elim (cases_eq n b) [
      | inl here ↦
          let p_here : p n ≡ true = rw here on in
          let q_here : q n ≡ false = rw here off in
          rw (p_here, q_here, count_same p q n (λ a below. same a (λ e. omega arith))) (omega arith)
      | inr other ↦
          let ih = count_less p q n b (omega arith) on off same in
          rw (same n other) (omega (arith, ih))
    ]

free_push : (done : ℕ → Option CountedType) (f : Frame) (frames : List Frame) (a : ℕ) → (a ≡ f.at → ⊥) → is_free done frames a ≡ is_free done (f ∷ frames) a
free_push done f frames a other = let off = test_not f.at a (λ e. other (sym e)) in rw off refl

pub work_visited : (done : ℕ → Option CountedType) (f : Frame) (frames : List Frame) (pending : List ℕ) → done f.at ≡ None → is_on frames f.at ≡ false → f.at < 2 ^ 32 → f.count < 2 ^ 32
    → work_left done (f ∷ frames) pending < work_left done frames pending
unfolding work_left
work_visited done f frames pending new off low fits =
    let less = count_less (is_free done frames) (is_free done (f ∷ frames)) (2 ^ 32) f.at low (rw (new, off) refl) (rw (new, test_same f.at) refl) (free_push done f frames) in
    omega (arith, less, fits, sum_by-cons (λ (x : Frame). x.count - x.next + 2) f frames)

pub work_counted : (done : ℕ → Option CountedType) (f g : Frame) (frames : List Frame) (pending : List ℕ) → g.at ≡ f.at → g.count ≡ f.count → g.next ≡ f.next + 1 → f.next < f.count
    → work_left done (g ∷ frames) pending < work_left done (f ∷ frames) pending
unfolding work_left
work_counted done f g frames pending at count next lt =
    let same = count_same (is_free done (g ∷ frames)) (is_free done (f ∷ frames)) (2 ^ 32) (λ a h. rw at refl) in
    omega (arith, same, count, next, sum_by-cons (λ (x : Frame). x.count - x.next + 2) f frames, sum_by-cons (λ (x : Frame). x.count - x.next + 2) g frames)

few_points : (kind : TypeKind) → length (pointees kind) ≤ 1
few_points Other = omega arith
few_points Fundamental = omega arith
few_points Class = omega arith
few_points (Si base) = omega arith
few_points Vmi = omega arith
few_points (Pointer flags pointee) = omega arith

free_done : (done done' : ℕ → Option CountedType) (f : Frame) (frames : List Frame) (d : CountedType) (a : ℕ) → ((q : ℕ) → done' q ≡ cond (nat_eq q f.at) (Some d) (done q))
    → is_free done' frames a ≡ is_free done (f ∷ frames) a
free_done done done' f frames d a now =
    elim (cases_eq a f.at) [
      | inl here ↦ rw (now a, here, test_same f.at) (never (is_some (done f.at)))
      | inr other ↦ rw (now a, test_not a f.at other, test_not f.at a (λ e. other (sym e))) refl
    ]
  where
    never : (b : Bool) → false ≡ (not b && false)
    never true = refl
    never false = refl

pub work_finished : (done done' : ℕ → Option CountedType) (f : Frame) (frames : List Frame) (pending after : List ℕ) (d : CountedType) → after ≡ pending ++ pointees f.kind → ((q : ℕ) → done' q ≡ cond (nat_eq q f.at) (Some d) (done q))
    → work_left done' frames after < work_left done (f ∷ frames) pending
unfolding work_left
work_finished done done' f frames pending after d last now =
    let same = count_same (is_free done' frames) (is_free done (f ∷ frames)) (2 ^ 32) (λ a h. free_done done done' f frames d a now) in
    omega (arith, same, few_points f.kind, ap length last, length-append pending (pointees f.kind), sum_by-cons (λ (x : Frame). x.count - x.next + 2) f frames)

pub work_waited : (done : ℕ → Option CountedType) (frames : List Frame) (before pending : List ℕ) (a : ℕ) → before ≡ pending ++ a ∷ [] → work_left done frames pending < work_left done frames before
unfolding work_left
work_waited done frames before pending a last = omega (arith, ap length last, length-append pending (a ∷ []))
