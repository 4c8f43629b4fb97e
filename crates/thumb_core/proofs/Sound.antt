-- Registers stay words, and sp stays a multiple of 4.
use Rattle.std.proofs.Common.{◌≡◌, ℕ, ◌+◌, ◌%◌, ◌^◌, ◌<◌, ◌≤◌, List, [], ◌∷◌, ◌++◌, refl, subst, arith, Err, Ok, Result, length, take, get_or, inl, inr, get_or-set_other, length-append}
use Rattle.std.proofs.Math.ListN.{length-set}
use Rattle.std.proofs.lemmas.Bool.{cases_eq, cases_lt}
use Rattle.std.proofs.lemmas.List.{get_or_past, get_or_append_left, get_or-append_right, get_or-take, length-take}
use Rattle.std.proofs.lemmas.Grind.{get_or-set_at}
use Rattle.eh_bus.specs.Segment.{Segment}
use Rattle.eh_bus.specs.Memory.{load_number}
use Rattle.eh_bus.specs.declared.fault.BusFault.{BusFault}
use Rattle.thumb_core.specs.Registers.{write_register, word_in, even}
use Rattle.thumb_core.specs.Words.{Load, load_words, ◌>>=◌}
use Rattle.thumb_core.specs.Laws.{AreWords, AreSound}

word_small : (d x : ℕ) → word_in d x < 2 ^ 32
word_small d x = grind arith

word_aligned : (d x : ℕ) → 13 ≡ d → word_in d x % 4 ≡ 0
word_aligned d x same = subst (λ k. word_in k x % 4 ≡ 0) same (omega arith)

put_past : (r : List ℕ) (d x k : ℕ) → k ≡ d → length r ≤ d → get_or (write_register r d x) k 0 ≡ 0
put_past r d x k same past = get_or_past (write_register r d x) k 0 (rw (length-set r d (word_in d x)) (omega arith))

put_read : (n : ℕ) (r : List ℕ) (d x k : ℕ) → AreWords n r → get_or (write_register r d x) k 0 < 2 ^ 32
put_read n r d x k w = elim (cases_eq k d) [
  | inl same ↦ (elim (cases_lt d (length r)) [
    | inl inside ↦ rw (get_or-set_at r d k (word_in d x) 0 same inside) (word_small d x)
    | inr past ↦ rw (put_past r d x k same past) (omega arith)
  ])
  | inr other ↦ rw (get_or-set_other r d k (word_in d x) 0 other) (w.small k)
]

put_sp : (n : ℕ) (r : List ℕ) (d x : ℕ) → AreWords n r → get_or (write_register r d x) 13 0 % 4 ≡ 0
put_sp n r d x w = elim (cases_eq 13 d) [
  | inl same ↦ (elim (cases_lt d (length r)) [
    | inl inside ↦ rw (get_or-set_at r d 13 (word_in d x) 0 same inside) (word_aligned d x same)
    | inr past ↦ rw (put_past r d x 13 same past) refl
  ])
  | inr other ↦ rw (get_or-set_other r d 13 (word_in d x) 0 other) w.aligned
]

-- a write
pub words_put : (n : ℕ) (r : List ℕ) (d x : ℕ) → AreWords n r → AreWords n (write_register r d x)
words_put n r d x w = record {
  count = rw (length-set r d (word_in d x)) w.count;
  small = λ k. put_read n r d x k w;
  aligned = put_sp n r d x w;
}

-- loads of words
pub words_load : (n : ℕ) (segments : List Segment) (base : ℕ) (ws : List Load) (r after : List ℕ) → load_words segments base ws r ≡ Ok after → AreWords n r → AreWords n after
words_load n segments base [] r after e w = let same : r ≡ after = cc in subst (AreWords n) same w
words_load n segments base (l ∷ more) r after e w =
    go (load_number 4 segments ((base + l.at) % 2 ^ 32)) e (λ x h. words_load n segments base more (write_register r l.reg x) after h (words_put n r l.reg x w))
  where
    go : {P : Type 0} (loaded : Result ℕ BusFault) → (loaded >>= λ x. load_words segments base more (write_register r l.reg x)) ≡ Ok after → ((x : ℕ) → load_words segments base more (write_register r l.reg x) ≡ Ok after → P) → P
    go (Ok x) h next = next x h
    go (Err fault) h next = absurd (cc)

-- the fifteen registers and pc
pub words_all : (r : List ℕ) (pc : ℕ) → AreSound r pc → AreWords 16 (r ++ (pc ∷ []))
words_all r pc s = record {
  count = rw (length-append r (pc ∷ []), s.words.count) refl;
  small = λ k. elim (cases_lt k 15) [
    | inl low ↦ rw (get_or_append_left r (pc ∷ []) 0 k (rw s.words.count low)) (s.words.small k)
    | inr high ↦ elim (cases_eq k 15) [
      | inl last ↦ rw (get_or-append_right r (pc ∷ []) 15 k 0 s.words.count high, last) s.small
      | inr past ↦ rw (get_or_past (r ++ (pc ∷ [])) k 0 (rw (length-append r (pc ∷ []), s.words.count) (omega (arith, past, high)))) (omega arith)
    ]
  ];
  aligned = rw (get_or_append_left r (pc ∷ []) 0 13 (rw s.words.count (omega arith))) s.words.aligned;
}

-- the first fifteen of sixteen
pub words_take : (r : List ℕ) → AreWords 16 r → AreWords 15 (take 15 r)
words_take r w = record {
  count = rw (length-take 15 r, w.count) refl;
  small = λ k. elim (cases_lt k 15) [
    | inl low ↦ rw (get_or-take 15 r k 0 low) (w.small k)
    | inr high ↦ rw (get_or_past (take 15 r) k 0 (rw (length-take 15 r, w.count) high)) (omega arith)
  ];
  aligned = rw (get_or-take 15 r 13 0 (omega arith)) w.aligned;
}

-- pc goes to an even word
pub sound_pc : (r : List ℕ) (x : ℕ) → AreWords 15 r → AreSound r (even (x % 2 ^ 32))
sound_pc r x w = record { words = w; small = omega arith; is_even = omega arith }
