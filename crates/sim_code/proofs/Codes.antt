-- A code of bytes pops no register above 15 and never sp, takes the virtual stack pointer from no register above 14, and moves it by
-- multiples of 4.
use Rattle.std.proofs.Common.{ℕ, ◌⊎◌, inl, inr, List, [], ◌∷◌, ◌++◌, ◌≡◌, Bool, true, false, cond, filter, refl, subst, zero, suc, ◌+◌, ◌<◌, ◌≤◌, arith, ◌%◌, Option, Some, None, sym, ap, ◌∙◌, ◌-◌, ◌==◌, ◌*◌, ◌/◌, ◌^◌}
use Rattle.std.specs.List.{range_with_len}
use Rattle.std.specs.Int.{bit_at}
use Rattle.std.proofs.lemmas.Bool.{eqb-true, cases_eq, cases_lt}
use Rattle.std.specs.Result.{result_ok}
use Rattle.eh_bus.specs.Lists.{Has}
use Rattle.eh_codes.specs.Meaning.{Effect, Rises, Falls, Pops, Takes, Refuses, Finishes, effect, registers_of_mask}
use Rattle.eh_codes.specs.declared.code.UnwindCode.{UnwindCode}
use Rattle.eh_codes.specs.Table.{code_front}
use Rattle.eh_codes.specs.declared.code.UnwindCode.TheVariants.{Refuse, PopMask, Restore, PopLow, RaiseLong, Raise, Lower, PopRange, PopRangeAndLr, Finish}
use Rattle.eh_word.specs.Words.{uleb128_front}
use Rattle.eh_codes.proofs.Table as table
use Rattle.sim_code.specs.Recipes.{Bytes}

pub has_either : (xs ys : List ℕ) (k : ℕ) → Has (xs ++ ys) k → Has xs k ⊎ Has ys k
has_either [] ys k h = inr h
has_either (x ∷ xs) ys k (inl e) = inl (inl e)
has_either (x ∷ xs) ys k (inr h) = elim (has_either xs ys k h) [
  | inl l ↦ inl (inr l)
  | inr r ↦ inr r
]

has_passed : (q : ℕ → Bool) (xs : List ℕ) (k : ℕ) → Has (filter q xs) k → Has xs k × (q k ≡ true)
has_passed q [] k h = absurd h
has_passed q (x ∷ xs) k h = go (q x) refl h (has_passed q xs k)
  where
    go : (b : Bool) → q x ≡ b → Has (cond b (x ∷ filter q xs) (filter q xs)) k → (Has (filter q xs) k → Has xs k × (q k ≡ true)) → Has (x ∷ xs) k × (q k ≡ true)
    go true is (inl e) later = (inl e, subst (λ n. q n ≡ true) e is)
    go true is (inr h) later = let w = later h in (inr w.0, w.1)
    go false is h later = let w = later h in (inr w.0, w.1)

has_range : (n a k : ℕ) → Has (range_with_len a n) k → (a ≤ k) × (k < a + n)
has_range zero a k h = absurd h
has_range (suc n) a k (inl e) = (omega (arith, e), omega (arith, e))
has_range (suc n) a k (inr h) = let w = has_range n (a + 1) k h in (omega (arith, w.0), omega (arith, w.1))

-- ---- one code

abbrev pub IsTame : Effect → Type 0
IsTame (Rises by) = by % 4 ≡ 0
IsTame (Falls by) = by % 4 ≡ 0
IsTame (Pops registers) = (k : ℕ) → Has registers k → (k < 16) × (k ≡ 13 → ⊥)
IsTame (Takes register) = register < 15
IsTame Refuses = Unit {0}
IsTame Finishes = Unit {0}

module _ (first : ℕ) (more : List ℕ) (code : UnwindCode) (n : ℕ) (is : code_front first more ≡ Some (code, n)) where
  this : (c : UnwindCode) (m : ℕ) → code_front first more ≡ Some (c, m) → IsTame (effect c) → IsTame (effect code)
  this c m e t = let same : c ≡ code = pair c m e in subst (λ (d : UnwindCode). IsTame (effect d)) same t
    where
      pair : (c : UnwindCode) (m : ℕ) → code_front first more ≡ Some (c, m) → c ≡ code
      pair c m e = let w : ◌≡◌ {A = Option (UnwindCode × ℕ)} (Some (c, m)) (Some (code, n)) = sym e ∙ is in let v : ◌≡◌ {A = UnwindCode × ℕ} (c, m) (code, n) = cc in ap (λ (p : UnwindCode × ℕ). p.0) v

  not_this : code_front first more ≡ None → IsTame (effect code)
  not_this e = absurd (let w : ◌≡◌ {A = Option (UnwindCode × ℕ)} None (Some (code, n)) = sym e ∙ is in cc)

mask_tame : (mask : ℕ) → bit_at mask 9 ≡ 0 → (k : ℕ) → Has (registers_of_mask 4 12 mask) k → (k < 16) × (k ≡ 13 → ⊥)
mask_tame mask clear k h =
    let w = has_passed (λ (register : ℕ). bit_at mask (register - 4) == 1) (range_with_len 4 12) k h in
    let r = has_range 12 4 k w.0 in
    let set : bit_at mask (k - 4) ≡ 1 = eqb-true (bit_at mask (k - 4)) 1 w.1 in
    (omega (arith, r.1), λ e. absurd (let at : bit_at mask 9 ≡ 1 = ap (λ j. bit_at mask (j - 4)) (sym e) ∙ set in omega (arith, at, clear)))

ninth : (first next : ℕ) → first / 2 % 2 ≡ 0 → next < 2 ^ 8 → bit_at (first % 2 ^ 4 * 2 ^ 8 + next) 9 ≡ 0
ninth first next clear small = omega (arith, clear, small)

range_tame : (last : ℕ) → last < 8 → (k : ℕ) → Has (range_with_len 4 (last + 1)) k → (k < 16) × (k ≡ 13 → ⊥)
range_tame last l k h = let r = has_range (last + 1) 4 k h in (omega (arith, r.1, l), λ e. omega (arith, r.1, l, e))

lr_tame : (last : ℕ) → last < 8 → (k : ℕ) → Has (range_with_len 4 (last + 1) ++ 14 ∷ []) k → (k < 16) × (k ≡ 13 → ⊥)
lr_tame last l k h = elim (has_either (range_with_len 4 (last + 1)) (14 ∷ []) k h) [
  | inl r ↦ range_tame last l k r
  | inr one ↦ elim one [
    | inl e ↦ (omega (arith, e), λ f. omega (arith, e, f))
    | inr none ↦ absurd none
  ]
]

low_tame : (mask k : ℕ) → Has (registers_of_mask 0 4 mask) k → (k < 16) × (k ≡ 13 → ⊥)
low_tame mask k h =
    let w = has_passed (λ (register : ℕ). bit_at mask (register - 0) == 1) (range_with_len 0 4) k h in
    let r = has_range 4 0 k w.0 in
    (omega (arith, r.1), λ e. omega (arith, r.1, e))

low_eight : (first : ℕ) → first % 2 ^ 3 < 8
low_eight first = omega arith

mask_80 : (first : ℕ) (more : List ℕ) (code : UnwindCode) (n : ℕ) → first ≡ 0x80 → Bytes more → code_front first more ≡ Some (code, n) → IsTame (effect code)
mask_80 first [] code n e b is = not_this first [] code n is (table.mask_low_alone first e)
mask_80 first (next ∷ more) code n e b is = elim (cases_eq next 0) [
  | inl zero_next ↦ this first (next ∷ more) code n is Refuse 2 (ap (λ (k : ℕ). code_front first (k ∷ more)) zero_next ∙ table.refuse first more e) tt
  | inr some ↦
      this first (next ∷ more) code n is (PopMask (first % 2 ^ 4 * 2 ^ 8 + next)) 2 (table.mask_low first next more e b.0 some)
      (mask_tame (first % 2 ^ 4 * 2 ^ 8 + next) (ninth first next (let f : first / 2 % 2 ≡ 0 = omega (arith, e) in f) b.0))
]

mask_81 : (first : ℕ) (more : List ℕ) (code : UnwindCode) (n : ℕ) → 0x81 ≤ first → first < 0x90 → Bytes more → code_front first more ≡ Some (code, n) → IsTame (effect code)
mask_81 first [] code n l h b is = elim (cases_eq (first / 2 % 2) 0) [
  | inl clear ↦ not_this first [] code n is (table.mask_high_alone first l h clear)
  | inr set ↦ not_this first [] code n is (table.mask_sp first [] (omega (arith, l)) h (let f : first / 2 % 2 ≡ 1 = omega (arith, set) in f))
]
mask_81 first (next ∷ more) code n l h b is = elim (cases_eq (first / 2 % 2) 0) [
  | inl clear ↦
      this first (next ∷ more) code n is (PopMask (first % 2 ^ 4 * 2 ^ 8 + next)) 2 (table.mask_high first next more l h clear b.0)
      (mask_tame (first % 2 ^ 4 * 2 ^ 8 + next) (ninth first next clear b.0))
  | inr set ↦ not_this first (next ∷ more) code n is (table.mask_sp first (next ∷ more) (omega (arith, l)) h (let f : first / 2 % 2 ≡ 1 = omega (arith, set) in f))
]

take_90 : (first : ℕ) (more : List ℕ) (code : UnwindCode) (n : ℕ) → 0x90 ≤ first → first < 0xA0 → code_front first more ≡ Some (code, n) → IsTame (effect code)
take_90 first more code n l h is = elim (cases_eq (first % 2 ^ 4) 13) [
  | inl sp ↦ not_this first more code n is (table.restore_none first more l h (inl sp))
  | inr no_sp ↦ elim (cases_eq (first % 2 ^ 4) 15) [
    | inl pc ↦ not_this first more code n is (table.restore_none first more l h (inr pc))
    | inr no_pc ↦ this first more code n is (Restore (first % 2 ^ 4)) 1 (table.restore first more l h no_sp no_pc) (let f : first % 2 ^ 4 < 15 = omega (arith, no_pc) in f)
  ]
]

low_b1 : (first : ℕ) (more : List ℕ) (code : UnwindCode) (n : ℕ) → first ≡ 0xB1 → Bytes more → code_front first more ≡ Some (code, n) → IsTame (effect code)
low_b1 first [] code n e b is = not_this first [] code n is (table.low_alone first e)
low_b1 first (next ∷ more) code n e b is = elim (cases_eq next 0) [
  | inl zero_next ↦ not_this first (next ∷ more) code n is (ap (λ (k : ℕ). code_front first (k ∷ more)) zero_next ∙ table.low_empty first more e)
  | inr some ↦ elim (cases_lt next (2 ^ 4)) [
    | inl small ↦ this first (next ∷ more) code n is (PopLow next) 2 (table.low first next more e small some) (low_tame next)
    | inr high ↦ not_this first (next ∷ more) code n is (table.low_high first next more e high b.0)
  ]
]

long_b2 : (first : ℕ) (more : List ℕ) (code : UnwindCode) (n : ℕ) → first ≡ 0xB2 → code_front first more ≡ Some (code, n) → IsTame (effect code)
long_b2 first more code n e is = go (result_ok (uleb128_front more)) (table.long first more e)
  where
    go : (o : Option (ℕ × ℕ)) → code_front first more ≡ table.long_by o → IsTame (effect code)
    go None f = not_this first more code n is f
    go (Some number) f = this first more code n is (RaiseLong number.0) (1 + number.1) f (let t : (516 + number.0 * 4) % 4 ≡ 0 = omega arith in t)

pub front_tame : (first : ℕ) (more : List ℕ) (code : UnwindCode) (n : ℕ) → first < 2 ^ 8 → Bytes more → code_front first more ≡ Some (code, n) → IsTame (effect code)
front_tame first more code n small b is = elim (cases_lt first 0x40) [
  | inl l ↦ this first more code n is (Raise (first % 2 ^ 6)) 1 (table.raise first more l) (let t : (first % 2 ^ 6 * 4 + 4) % 4 ≡ 0 = omega arith in t)
  | inr h40 ↦ elim (cases_lt first 0x80) [
    | inl l ↦ this first more code n is (Lower (first % 2 ^ 6)) 1 (table.lower first more h40 l) (let t : (first % 2 ^ 6 * 4 + 4) % 4 ≡ 0 = omega arith in t)
    | inr h80 ↦ elim (cases_lt first 0x81) [
      | inl l ↦ mask_80 first more code n (omega (arith, h80, l)) b is
      | inr h81 ↦ elim (cases_lt first 0x90) [
        | inl l ↦ mask_81 first more code n h81 l b is
        | inr h90 ↦ elim (cases_lt first 0xA0) [
          | inl l ↦ take_90 first more code n h90 l is
          | inr ha0 ↦ from_a0 ha0
        ]
      ]
    ]
  ]
]
  where
    from_b0 : 0xB0 ≤ first → IsTame (effect code)
    from_b0 h = elim (cases_lt first 0xB1) [
      | inl l ↦ this first more code n is Finish 1 (table.finish first more (omega (arith, h, l))) tt
      | inr hb1 ↦ elim (cases_lt first 0xB2) [
        | inl l ↦ low_b1 first more code n (omega (arith, hb1, l)) b is
        | inr hb2 ↦ elim (cases_lt first 0xB3) [
          | inl l ↦ long_b2 first more code n (omega (arith, hb2, l)) is
          | inr hb3 ↦ not_this first more code n is (table.none first more hb3 (omega (arith, small)))
        ]
      ]
    ]

    from_a0 : 0xA0 ≤ first → IsTame (effect code)
    from_a0 h = elim (cases_lt first 0xA8) [
      | inl l ↦ this first more code n is (PopRange (first % 2 ^ 3)) 1 (table.range first more h l) (range_tame (first % 2 ^ 3) (low_eight first))
      | inr ha8 ↦ elim (cases_lt first 0xB0) [
        | inl l ↦ this first more code n is (PopRangeAndLr (first % 2 ^ 3)) 1 (table.range_and_lr first more ha8 l) (lr_tame (first % 2 ^ 3) (low_eight first))
        | inr hb0 ↦ from_b0 hb0
      ]
    ]
