-- What a POP into pc leaves, in plain words.
use Rattle.std.proofs.Common.{◌≡◌, ◌≢◌, ℕ, ◌+◌, ◌-◌, ◌*◌, ◌%◌, ◌^◌, ◌<◌, ◌≤◌, ◌⊎◌, inl, inr, ◌==◌, Bool, true, false, List, [], ◌∷◌, ◌++◌, cond, refl, sym, subst, ◌∙◌, arith, length, take, get_or, Err, Ok, Result, length-append, get_or-set_other}
use Rattle.std.specs.List.{filter}
use Rattle.std.specs.Int.{bit_at}
use Rattle.std.proofs.Math.ListN.{length-set}
use Rattle.std.proofs.lemmas.Bool.{cases_lt}
use Rattle.std.proofs.lemmas.List.{get_or-take, get_or_append_left, get_or_past, length-take}
use Rattle.std.proofs.lemmas.Grind.{get_or-set_at}
use Rattle.eh_bus.specs.Segment.{Segment}
use Rattle.eh_bus.specs.Memory.{Memory, load_number}
use Rattle.eh_bus.specs.declared.fault.BusFault.{BusFault}
use Rattle.thumb_core.specs.declared.regs.TheConstants.{SP, PC}
use Rattle.thumb_core.specs.declared.regs.Regs.{Regs}
use Rattle.thumb_core.specs.Registers.{write_register, word_in, all_of}
use Rattle.thumb_core.specs.Words.{numbers, registers_of_list, load_words, loads_from, ◌>>=◌}
use Rattle.thumb_core.specs.Lists.{bytes_of, load_list}
use Rattle.thumb_core.proofs.Loaded.{load_both}

-- ---- registers that are not loaded

abbrev Misses : ℕ → List ℕ → Type 0
Misses k [] = Unit {0}
Misses k (j ∷ more) = (k ≢ j) × Misses k more

listed_misses : (mask k : ℕ) (ns : List ℕ) → bit_at mask k ≡ 0 → Misses k (filter (λ j. bit_at mask j == 1) ns)
listed_misses mask k [] clear = tt
listed_misses mask k (j ∷ more) clear = go (bit_at mask j == 1) refl (listed_misses mask k more clear)
  where
    other : (bit_at mask j == 1) ≡ true → k ≢ j
    other e same = let f : bit_at mask j ≡ 0 = subst (λ i. bit_at mask i ≡ 0) same clear in let g = rw f at e in cc

    go : (b : Bool) → (bit_at mask j == 1) ≡ b → Misses k (filter (λ j. bit_at mask j == 1) more)
        → Misses k (cond b (j ∷ filter (λ j. bit_at mask j == 1) more) (filter (λ j. bit_at mask j == 1) more))
    go true e next = (other e, next)
    go false e next = next

load_misses : (segments : List Segment) (base at k : ℕ) (ks r after : List ℕ) → Misses k ks → load_words segments base (loads_from at ks) r ≡ Ok after → get_or after k 0 ≡ get_or r k 0
load_misses segments base at k [] r after miss e = let same : r ≡ after = cc in rw same refl
load_misses segments base at k (j ∷ more) r after miss e =
    go (load_number 4 segments ((base + at) % 2 ^ 32)) e (λ x h.
    load_misses segments base (at + 4) k more (write_register r j x) after miss.1 h ∙ get_or-set_other r j k (word_in j x) 0 miss.0)
  where
    go : {P : Type 0} (answer : Result ℕ BusFault) → (answer >>= λ x. load_words segments base (loads_from (at + 4) more) (write_register r j x)) ≡ Ok after
        → ((x : ℕ) → load_words segments base (loads_from (at + 4) more) (write_register r j x) ≡ Ok after → P) → P
    go (Ok x) h next = next x h
    go (Err fault) h next = absurd (cc)

load_length : (segments : List Segment) (base at : ℕ) (ks r after : List ℕ) → load_words segments base (loads_from at ks) r ≡ Ok after → length after ≡ length r
load_length segments base at [] r after e = let same : r ≡ after = cc in rw same refl
load_length segments base at (j ∷ more) r after e =
    go (load_number 4 segments ((base + at) % 2 ^ 32)) e (λ x h. load_length segments base (at + 4) more (write_register r j x) after h ∙ length-set r j (word_in j x))
  where
    go : {P : Type 0} (answer : Result ℕ BusFault) → (answer >>= λ x. load_words segments base (loads_from (at + 4) more) (write_register r j x)) ≡ Ok after
        → ((x : ℕ) → load_words segments base (loads_from (at + 4) more) (write_register r j x) ≡ Ok after → P) → P
    go (Ok x) h next = next x h
    go (Err fault) h next = absurd (cc)

-- ---- pc's word is the last

filter_both : (p : ℕ → Bool) (xs ys : List ℕ) → filter p (xs ++ ys) ≡ filter p xs ++ filter p ys
filter_both p [] ys = refl
filter_both p (x ∷ xs) ys = go (p x) (filter_both p xs ys)
  where
    go : (b : Bool) → filter p (xs ++ ys) ≡ filter p xs ++ filter p ys
        → cond b (x ∷ filter p (xs ++ ys)) (filter p (xs ++ ys)) ≡ cond b (x ∷ filter p xs) (filter p xs) ++ filter p ys
    go true e = rw e refl
    go false e = e

-- the registers of a mask without pc
unfoldable front_of : ℕ → List ℕ
front_of mask = filter (λ k. bit_at mask k == 1) (0 ∷ 1 ∷ 2 ∷ 3 ∷ 4 ∷ 5 ∷ 6 ∷ 7 ∷ 8 ∷ 9 ∷ 10 ∷ 11 ∷ 12 ∷ 13 ∷ 14 ∷ [])

listed_front : (mask : ℕ) → bit_at mask PC ≡ 1 → registers_of_list mask ≡ front_of mask ++ (15 ∷ [])
unfolding registers_of_list front_of
listed_front mask set =
    filter_both (λ k. bit_at mask k == 1) (0 ∷ 1 ∷ 2 ∷ 3 ∷ 4 ∷ 5 ∷ 6 ∷ 7 ∷ 8 ∷ 9 ∷ 10 ∷ 11 ∷ 12 ∷ 13 ∷ 14 ∷ []) (15 ∷ [])
    ∙ rw set refl

pub record Last (mask a : ℕ) (m : Memory) (words : List ℕ) : Type 0 where
  pub word : ℕ
  pub loaded : load_number 4 m.segments ((a + (bytes_of mask - 4)) % 2 ^ 32) ≡ Ok word
  pub last : get_or words 15 0 ≡ word % 2 ^ 32

last_bytes : (mask : ℕ) → bit_at mask PC ≡ 1 → 0 + 4 * length (front_of mask) ≡ bytes_of mask - 4
last_bytes mask set = rw (listed_front mask set, length-append) (omega arith)

pub last_word : (mask a : ℕ) (regs : Regs) (m : Memory) (words : List ℕ) → length regs.r ≡ 15 → bit_at mask PC ≡ 1 → load_list mask a regs m ≡ Ok words → Last mask a m words
last_word mask a regs m words count set e =
    front (load_words m.segments a (loads_from 0 (front_of mask)) (all_of regs)) refl
    (rw (listed_front mask set, load_both m.segments a 0 (front_of mask) (15 ∷ []) (all_of regs), last_bytes mask set) at e)
  where
    pc_word : (after : List ℕ) → length after ≡ 16 → (answer : Result ℕ BusFault) → load_number 4 m.segments ((a + (bytes_of mask - 4)) % 2 ^ 32) ≡ answer
        → (answer >>= λ x. Ok (write_register after 15 x)) ≡ Ok words → Last mask a m words
    pc_word after size (Ok x) l e =
        let same : write_register after 15 x ≡ words = cc in
        record {
          word = x;
          loaded = l;
          last = rw (← same) (get_or-set_at after 15 15 (word_in PC x) 0 refl (omega arith));
        }
    pc_word after size (Err fault) l e = absurd (cc)

    front : (answer : Result (List ℕ) BusFault) → load_words m.segments a (loads_from 0 (front_of mask)) (all_of regs) ≡ answer
        → (answer >>= λ after. load_words m.segments a (loads_from (bytes_of mask - 4) (15 ∷ [])) after) ≡ Ok words → Last mask a m words
    front (Ok after) l e =
        pc_word after (load_length m.segments a 0 (front_of mask) (all_of regs) after l ∙ rw (length-append, count) refl)
        (load_number 4 m.segments ((a + (bytes_of mask - 4)) % 2 ^ 32)) refl e
    front (Err fault) l e = absurd (cc)

-- ---- the others

pub list_length : (mask a : ℕ) (regs : Regs) (m : Memory) (words : List ℕ) → length regs.r ≡ 15 → load_list mask a regs m ≡ Ok words → length words ≡ 16
list_length mask a regs m words count e = load_length m.segments a 0 (registers_of_list mask) (all_of regs) words e ∙ rw (length-append, count) refl

list_keeps : (mask a k : ℕ) (regs : Regs) (m : Memory) (words : List ℕ) → bit_at mask k ≡ 0 → load_list mask a regs m ≡ Ok words → get_or words k 0 ≡ get_or (all_of regs) k 0
unfolding registers_of_list
list_keeps mask a k regs m words clear e = load_misses m.segments a 0 k (filter (λ j. bit_at mask j == 1) numbers) (all_of regs) words (listed_misses mask k numbers clear) e

pub kept_register : (mask a k v : ℕ) (regs : Regs) (m : Memory) (words : List ℕ) → length regs.r ≡ 15 → load_list mask a regs m ≡ Ok words → k ≢ 13 → bit_at mask k ≡ 0
    → get_or (take 15 (write_register words SP v)) k 0 ≡ get_or regs.r k 0
kept_register mask a k v regs m words count e other clear = by (cases_lt k 15)
  where
    size : length (take 15 (write_register words SP v)) ≡ 15
    size = rw (length-take 15 (write_register words SP v), length-set words 13 (word_in SP v), list_length mask a regs m words count e) refl

    by : (k < 15) ⊎ (15 ≤ k) → get_or (take 15 (write_register words SP v)) k 0 ≡ get_or regs.r k 0
    by (inl low) =
        get_or-take 15 (write_register words SP v) k 0 low ∙ get_or-set_other words 13 k (word_in SP v) 0 other
        ∙ list_keeps mask a k regs m words clear e ∙ get_or_append_left regs.r (regs.pc ∷ []) 0 k (rw count low)
    by (inr high) = get_or_past (take 15 (write_register words SP v)) k 0 (rw size high) ∙ sym (get_or_past regs.r k 0 (rw count high))

pub sp_after : (mask a v : ℕ) (regs : Regs) (m : Memory) (words : List ℕ) → length regs.r ≡ 15 → load_list mask a regs m ≡ Ok words
    → get_or (take 15 (write_register words SP v)) 13 0 ≡ word_in SP v
sp_after mask a v regs m words count e =
    let size = list_length mask a regs m words count e in
    get_or-take 15 (write_register words SP v) 13 0 (omega arith) ∙ get_or-set_at words 13 13 (word_in SP v) 0 refl (omega arith)
