-- Words of the stack that POP loads into low registers.
use Rattle.std.proofs.Common.{ℕ, ◌<◌, List, [], ◌∷◌, ◌≡◌, Bool, true, false, cond, filter, refl, ◌^◌, ◌≤◌, ◌==◌, ◌⊎◌, inl, inr, arith, ◌+◌, ◌%◌, length, Result, Ok, Err, sym, ap, ◌∙◌, pos, zero, suc, set, ◌++◌, ◌-◌, subst}
use Rattle.std.specs.Int.{bit_at}
use Rattle.std.proofs.lemmas.Bool.{cases_lt, eqb-true}
use Rattle.std.proofs.lemmas.Nat.Bits.{bit_at_above}
use Rattle.std.proofs.lemmas.List.{length-set}
use Rattle.std.proofs.lemmas.Bool.Decides.{nat_tests}
use Rattle.thumb_core.specs.Words.{numbers, registers_of_list, loads_from, load_words, ◌>>=◌}
use Rattle.eh_bus.specs.Memory.{load_number}
use Rattle.eh_bus.specs.Segment.{Segment}
use Rattle.eh_bus.specs.declared.fault.BusFault.{BusFault}
use Rattle.thumb_core.specs.Registers.{write_register, word_in, reg}
use Rattle.frame_facts.specs.declared.facts.Fact.{Fact}
use Rattle.frame_facts.specs.declared.saves.Prologue.{Prologue}
use Rattle.frame_facts.specs.Facts.{with_source}
use Rattle.frame_facts.specs.Lists.{load_registers}
use Rattle.frame_facts.specs.Saves.{stack_word}
use Rattle.frame_facts.specs.declared.facts.Source.{Source}
use Rattle.thumb_core.specs.declared.regs.TheConstants.{SP}
use Rattle.thumb_core.specs.declared.regs.Regs.{Regs}
use Rattle.frame_facts.specs.Machine.{Means}
use Rattle.sim_machines.specs.Activations.{Activation}
use Rattle.sim_relation.specs.Holds.{Holds, IsWhole}
use Rattle.sim_accesses.proofs.Callers.{OnlyCallers, word_known, known_means, written_holds}

-- ---- the low registers of a list

abbrev pub AreLow : List ℕ → Type 0
AreLow [] = Unit {0}
AreLow (k ∷ more) = (k < 8) × AreLow more

filter_low : (q : ℕ → Bool) (xs : List ℕ) → ((k : ℕ) → q k ≡ true → k < 8) → AreLow (filter q xs)
filter_low q [] h = tt
filter_low q (k ∷ more) h = go (q k) refl (filter_low q more h)
  where
    go : (b : Bool) → q k ≡ b → AreLow (filter q more) → AreLow (cond b (k ∷ filter q more) (filter q more))
    go true e r = (h k e, r)
    go false e r = r

pub listed_are_low : (mask : ℕ) → mask < 2 ^ 8 → AreLow (registers_of_list mask)
unfolding registers_of_list
listed_are_low mask few = filter_low (λ k. bit_at mask k == 1) numbers (λ k e. go k (cases_lt k 8) e)
  where
    go : (k : ℕ) → (k < 8) ⊎ (8 ≤ k) → (bit_at mask k == 1) ≡ true → k < 8
    go k (inl l) e = l
    go k (inr l) e = absurd (let z = bit_at_above mask 8 k few l in let o = eqb-true (bit_at mask k) 1 e in omega (arith, z, o))

-- ---- words of the stack into low registers

pub load_length : (segments : List Segment) (base at : ℕ) (ks r new : List ℕ) → load_words segments base (loads_from at ks) r ≡ Ok new → length new ≡ length r
load_length segments base at [] r new e = let same : r ≡ new = cc in ap length (sym same)
load_length segments base at (j ∷ more) r new e = go (load_number 4 segments ((base + at) % 2 ^ 32)) e (λ v f. load_length segments base (at + 4) more (write_register r j v) new f)
  where
    go : (o : Result ℕ BusFault) → (o >>= λ v. load_words segments base (loads_from (at + 4) more) (write_register r j v)) ≡ Ok new
        → ((v : ℕ) → load_words segments base (loads_from (at + 4) more) (write_register r j v) ≡ Ok new → length new ≡ length (write_register r j v)) → length new ≡ length r
    go (Err fault) f later = absurd cc
    go (Ok v) f later = later v f ∙ length-set r j (word_in j v)

pub loaded_depth : (p : Prologue) (old : Fact) (at : ℕ) (ks : List ℕ) (f : Fact) → (load_registers p old at ks f).depth ≡ f.depth
loaded_depth p old at [] f = refl
loaded_depth p old at (k ∷ more) f = loaded_depth p old (at + 4) more (with_source f k (stack_word p old (pos at)))

-- pc stands after the last source
set_past : (xs : List Source) (k : ℕ) (s : Source) → length xs ≤ k → set xs k s ≡ xs
set_past [] k s l = refl
set_past (y ∷ more) zero s l = absurd (omega (arith, l))
set_past (y ∷ more) (suc k) s l = ap (λ ys. y ∷ ys) (set_past more k s (omega (arith, l)))

pub loaded_pc : (p : Prologue) (old : Fact) (at : ℕ) (ks : List ℕ) (f : Fact) → length f.regs ≡ 14 → load_registers p old at (ks ++ (15 ∷ [])) f ≡ load_registers p old at ks f
loaded_pc p old at [] f long = ap (λ rs. let g : Fact = record f { regs = rs } in g) (set_past f.regs 14 (stack_word p old (pos at)) (omega (arith, long)))
loaded_pc p old at (k ∷ more) f long = loaded_pc p old (at + 4) more (with_source f k (stack_word p old (pos at))) (length-set f.regs _ _ ∙ long)

module _ (p : Prologue) (old : Fact) (a : Activation) (segments : List Segment) (regs : Regs) (h : Holds p old a segments regs) (whole : IsWhole a.caller) (only : OnlyCallers p) (high : a.caller.sp < 2 ^ 32) where
  abbrev with_r : List ℕ → Regs
  with_r r = record regs { r = r }

  pub pops_hold : (ks : List ℕ) (at : ℕ) (f : Fact) (r new : List ℕ) → AreLow ks → length r ≡ 15 → Holds p f a segments (with_r r)
      → load_words segments (reg regs SP) (loads_from at ks) r ≡ Ok new → Holds p (load_registers p old at ks f) a segments (with_r new)
  pops_hold [] at f r new low count j e = let same : r ≡ new = cc in subst (λ l. Holds p f a segments (with_r l)) same j
  pops_hold (k ∷ more) at f r new low count j e =
      go (load_number 4 segments ((reg regs SP + at) % 2 ^ 32)) refl e (λ v i q. pops_hold more (at + 4) (with_source f k (stack_word p old (pos at))) (write_register r k v) new low.1 (length-set r k (word_in k v) ∙ count) i q)
    where
      low_word : (v : ℕ) → word_in k v ≡ v % 2 ^ 32
      low_word v = let l = low.0 in let no : (k == 13) ≡ false = grind (arith, nat_tests) in ap (λ b. cond b (v % 2 ^ 32 - v % 2 ^ 32 % 4) (v % 2 ^ 32)) no

      go : (o : Result ℕ BusFault) → load_number 4 segments ((reg regs SP + at) % 2 ^ 32) ≡ o → (o >>= λ v. load_words segments (reg regs SP) (loads_from (at + 4) more) (write_register r k v)) ≡ Ok new
          → ((v : ℕ) → Holds p (with_source f k (stack_word p old (pos at))) a segments (with_r (write_register r k v)) → load_words segments (reg regs SP) (loads_from (at + 4) more) (write_register r k v) ≡ Ok new
          → Holds p (load_registers p old (at + 4) more (with_source f k (stack_word p old (pos at)))) a segments (with_r new))
          → Holds p (load_registers p old at (k ∷ more) f) a segments (with_r new)
      go (Err fault) is q later = absurd cc
      go (Ok v) is q later =
          let known = word_known p old a segments regs h whole only high at v is in
          let means = known_means p old a segments regs h whole only high f (with_r r) j (stack_word p old (pos at)) v known in
          later v (written_holds p f a segments (with_r r) (with_r (write_register r k v)) k (word_in k v) (stack_word p old (pos at)) j low.0 count refl
          (subst (λ w. Means j.entry a.caller.sp (stack_word p old (pos at)) w) (sym (low_word v)) means)) q
