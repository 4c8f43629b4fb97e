-- A mask's low eight registers, and the one above them that a PUSH or a POP may name.
use Rattle.std.proofs.Common.{◌≡◌, ℕ, zero, suc, ◌+◌, ◌*◌, ◌%◌, ◌^◌, ◌<◌, ◌≤◌, ◌==◌, Bool, true, false, List, [], ◌∷◌, ◌++◌, cond, refl, sym, ap, ◌∙◌, arith, length, Err, Ok, Result, ◌⊎◌, inl, inr}
use Rattle.std.specs.List.{filter}
use Rattle.std.specs.Int.{bit_at}
use Rattle.std.proofs.Math.ListN.{length-set}
use Rattle.std.proofs.lemmas.Bool.{cases_lt}
use Rattle.std.proofs.lemmas.List.{set-append_left}
use Rattle.std.proofs.lemmas.Nat.Bits.{bit_at_above}
use Rattle.eh_bus.specs.Segment.{Segment}
use Rattle.eh_bus.specs.Memory.{Memory, load_number}
use Rattle.eh_bus.specs.declared.fault.BusFault.{BusFault}
use Rattle.thumb_core.specs.declared.regs.Regs.{Regs}
use Rattle.thumb_core.specs.Registers.{write_register, word_in}
use Rattle.thumb_core.specs.Words.{numbers, registers_of_list, load_words, loads_from, ◌>>=◌}
use Rattle.thumb_core.specs.Lists.{load_list}
use Rattle.thumb_core.proofs.Listed.{numbers_from, listed_from, listed_all, listed_none, listed_more, listed_end}

-- ---- masks

none_in : (mask n k : ℕ) → mask < 2 ^ 8 → 8 ≤ k → filter (λ j. bit_at mask j == 1) (numbers_from n k) ≡ []
none_in mask zero k l h = refl
none_in mask (suc n) k l h =
    let clear : bit_at mask k ≡ 0 = bit_at_above mask 8 k l h in
    rw clear (none_in mask n (k + 1) l (omega arith))

-- a mask of eight registers has none from 8 on
pub low_none : (mask : ℕ) → mask < 2 ^ 8 → listed_from 8 mask ≡ []
unfolding listed_from
low_none mask l = none_in mask 8 8 l (omega arith)

-- one register more, in both
joins : (k mask low : ℕ) (high : List ℕ) → k < 16 → bit_at mask k ≡ bit_at low k → listed_from (k + 1) mask ≡ listed_from (k + 1) low ++ high → listed_from k mask ≡ listed_from k low ++ high
joins k mask low high l same rest = go (bit_at low k == 1) refl
  where
    go : (b : Bool) → (bit_at low k == 1) ≡ b → listed_from k mask ≡ listed_from k low ++ high
    go true e = rw (listed_more k mask l, listed_more k low l, same, e, rest) refl
    go false e = rw (listed_more k mask l, listed_more k low l, same, e, rest) refl

-- the registers of a mask are those of its low byte, and those from 8 on
pub listed_low : (mask : ℕ) → registers_of_list mask ≡ registers_of_list (mask % 2 ^ 8) ++ listed_from 8 mask
listed_low mask =
    let low = mask % 2 ^ 8 in
    let high = listed_from 8 mask in
    let at8 : listed_from 8 mask ≡ listed_from 8 low ++ high = rw (low_none low (omega arith)) refl in
    let at7 = joins 7 mask low high (omega arith) (omega arith) at8 in
    let at6 = joins 6 mask low high (omega arith) (omega arith) at7 in
    let at5 = joins 5 mask low high (omega arith) (omega arith) at6 in
    let at4 = joins 4 mask low high (omega arith) (omega arith) at5 in
    let at3 = joins 3 mask low high (omega arith) (omega arith) at4 in
    let at2 = joins 2 mask low high (omega arith) (omega arith) at3 in
    let at1 = joins 1 mask low high (omega arith) (omega arith) at2 in
    listed_all mask ∙ joins 0 mask low high (omega arith) (omega arith) at1 ∙ ap (λ l. l ++ high) (sym (listed_all low))

-- what a mask of eight registers and pc has above the eight
pub with_pc_high : (mask : ℕ) → mask % 2 ^ 15 < 2 ^ 8 → listed_from 8 mask ≡ cond (bit_at mask 15 == 1) (15 ∷ []) []
with_pc_high mask l =
    let z8 : bit_at mask 8 ≡ 0 = omega arith in
    let z9 : bit_at mask 9 ≡ 0 = omega arith in
    let z10 : bit_at mask 10 ≡ 0 = omega arith in
    let z11 : bit_at mask 11 ≡ 0 = omega arith in
    let z12 : bit_at mask 12 ≡ 0 = omega arith in
    let z13 : bit_at mask 13 ≡ 0 = omega arith in
    let z14 : bit_at mask 14 ≡ 0 = omega arith in
    rw (
      listed_more 8 mask (omega arith),
      z8,
      listed_more 9 mask (omega arith),
      z9,
      listed_more 10 mask (omega arith),
      z10,
      listed_more 11 mask (omega arith),
      z11,
      listed_more 12 mask (omega arith),
      z12,
      listed_more 13 mask (omega arith),
      z13,
      listed_more 14 mask (omega arith),
      z14,
      listed_more 15 mask (omega arith),
      listed_none mask,
    ) refl

-- what a mask of eight registers and lr has above the eight
pub with_lr_high : (mask : ℕ) → mask < 2 ^ 15 → mask % 2 ^ 14 < 2 ^ 8 → listed_from 8 mask ≡ cond (bit_at mask 14 == 1) (14 ∷ []) []
with_lr_high mask h l =
    let z8 : bit_at mask 8 ≡ 0 = omega arith in
    let z9 : bit_at mask 9 ≡ 0 = omega arith in
    let z10 : bit_at mask 10 ≡ 0 = omega arith in
    let z11 : bit_at mask 11 ≡ 0 = omega arith in
    let z12 : bit_at mask 12 ≡ 0 = omega arith in
    let z13 : bit_at mask 13 ≡ 0 = omega arith in
    rw (
      listed_more 8 mask (omega arith),
      z8,
      listed_more 9 mask (omega arith),
      z9,
      listed_more 10 mask (omega arith),
      z10,
      listed_more 11 mask (omega arith),
      z11,
      listed_more 12 mask (omega arith),
      z12,
      listed_more 13 mask (omega arith),
      z13,
      listed_more 14 mask (omega arith),
      listed_end mask h,
    ) refl

-- ---- words loaded

-- registers below n
abbrev pub Below : ℕ → List ℕ → Type 0
Below n [] = Unit {0}
Below n (k ∷ more) = (k < n) × Below n more

low_below : (mask : ℕ) (ns : List ℕ) → mask < 2 ^ 8 → Below 15 (filter (λ k. bit_at mask k == 1) ns)
low_below mask [] l = tt
low_below mask (k ∷ more) l = go (bit_at mask k == 1) refl (low_below mask more l)
  where
    set_low : (bit_at mask k == 1) ≡ true → k < 15
    set_low e = by (cases_lt k 8)
      where
        by : (k < 8) ⊎ (8 ≤ k) → k < 15
        by (inl o) = omega arith
        by (inr o) = let clear : bit_at mask k ≡ 0 = bit_at_above mask 8 k l o in absurd (let f = rw clear at e in (cc))

    go : (b : Bool) → (bit_at mask k == 1) ≡ b → Below 15 (filter (λ k. bit_at mask k == 1) more)
        → Below 15 (cond b (k ∷ filter (λ k. bit_at mask k == 1) more) (filter (λ k. bit_at mask k == 1) more))
    go true e next = (set_low e, next)
    go false e next = next

listed_below : (mask : ℕ) → mask < 2 ^ 8 → Below 15 (registers_of_list mask)
unfolding registers_of_list
listed_below mask l = low_below mask numbers l

-- loads of registers that stand in a part of the list go on in that part
load_front :
    (segments : List Segment) (base at : ℕ) (ks r t : List ℕ)
    → length r ≡ 15 → Below 15 ks
    → load_words segments base (loads_from at ks) (r ++ t) ≡ (load_words segments base (loads_from at ks) r >>= λ after. Ok (after ++ t))
load_front segments base at [] r t count below = refl
load_front segments base at (k ∷ more) r t count below =
    let inside : k < length r = omega (arith, below.0) in
    go (load_number 4 segments ((base + at) % 2 ^ 32)) (λ x.
    rw (set-append_left r t k (word_in k x) inside)
    (load_front segments base (at + 4) more (write_register r k x) t (length-set r k (word_in k x) ∙ count) below.1))
  where
    go : (loaded : Result ℕ BusFault)
        → ((x : ℕ) → load_words segments base (loads_from (at + 4) more) (write_register (r ++ t) k x) ≡ (load_words segments base (loads_from (at + 4) more) (write_register r k x) >>= λ after. Ok (after ++ t)))
        → (loaded >>= λ x. load_words segments base (loads_from (at + 4) more) (write_register (r ++ t) k x))
        ≡ ((loaded >>= λ x. load_words segments base (loads_from (at + 4) more) (write_register r k x)) >>= λ after. Ok (after ++ t))
    go (Ok x) next = next x
    go (Err fault) next = refl

-- loads of two lists, one after the other
pub load_both :
    (segments : List Segment) (base at : ℕ) (ks js r : List ℕ)
    → load_words segments base (loads_from at (ks ++ js)) r
    ≡ (load_words segments base (loads_from at ks) r >>= λ after. load_words segments base (loads_from (at + 4 * length ks) js) after)
load_both segments base at [] js r = let same : at + 4 * 0 ≡ at = omega arith in rw same refl
load_both segments base at (k ∷ more) js r =
    let same : at + 4 * suc (length more) ≡ at + 4 + 4 * length more = omega arith in
    rw same (go (load_number 4 segments ((base + at) % 2 ^ 32)) (λ x. load_both segments base (at + 4) more js (write_register r k x)))
  where
    go : (loaded : Result ℕ BusFault)
        → ((x : ℕ) → load_words segments base (loads_from (at + 4) (more ++ js)) (write_register r k x)
        ≡ (load_words segments base (loads_from (at + 4) more) (write_register r k x) >>= λ after. load_words segments base (loads_from (at + 4 + 4 * length more) js) after))
        → (loaded >>= λ x. load_words segments base (loads_from (at + 4) (more ++ js)) (write_register r k x))
        ≡ ((loaded >>= λ x. load_words segments base (loads_from (at + 4) more) (write_register r k x)) >>= λ after. load_words segments base (loads_from (at + 4 + 4 * length more) js) after)
    go (Ok x) next = next x
    go (Err fault) next = refl

-- ---- a POP and an LDM, from the registers that the low byte loads

-- the low registers loaded, and what is loaded after them
pub load_list_low :
    (mask a : ℕ) (regs : Regs) (m : Memory) → length regs.r ≡ 15
    → load_list mask a regs m
    ≡ (load_words m.segments a (loads_from 0 (registers_of_list (mask % 2 ^ 8))) regs.r
    >>= λ r. load_words m.segments a (loads_from (4 * length (registers_of_list (mask % 2 ^ 8))) (listed_from 8 mask)) (r ++ (regs.pc ∷ [])))
load_list_low mask a regs m count =
    let low = registers_of_list (mask % 2 ^ 8) in
    rw (
      listed_low mask,
      load_both m.segments a 0 low (listed_from 8 mask) (regs.r ++ (regs.pc ∷ [])),
      load_front m.segments a 0 low regs.r (regs.pc ∷ []) count (listed_below (mask % 2 ^ 8) (omega arith)),
    )
    (go (load_words m.segments a (loads_from 0 low) regs.r))
  where
    go : (loaded : Result (List ℕ) BusFault)
        → ((loaded >>= λ after. Ok (after ++ (regs.pc ∷ []))) >>= λ after. load_words m.segments a (loads_from (0 + 4 * length (registers_of_list (mask % 2 ^ 8))) (listed_from 8 mask)) after)
        ≡ (loaded >>= λ r. load_words m.segments a (loads_from (4 * length (registers_of_list (mask % 2 ^ 8))) (listed_from 8 mask)) (r ++ (regs.pc ∷ [])))
    go (Ok r) = let same : 0 + 4 * length (registers_of_list (mask % 2 ^ 8)) ≡ 4 * length (registers_of_list (mask % 2 ^ 8)) = omega arith in rw same refl
    go (Err fault) = refl
