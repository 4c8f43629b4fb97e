-- What unwinding by codes gives is a list of sixteen words; and codes that refuse give nothing.
use Rattle.std.proofs.Common.{◌≡◌, ℕ, ◌^◌, ◌<◌, inl, inr, List, length, sym, ap, ◌∙◌, arith, ◌-◌, ◌%◌, ◌==◌, Bool, true, false, cond, ◌+◌, [], ◌∷◌, subst, ◌*◌, ◌||◌, refl, not, Some, pos}
use Rattle.std.specs.Prelude.{slice_index, slice_set, Result, Ok, Err, ◌+ℤ◌, ◌-ℤ◌, is_some, slice_index_or}
use Rattle.std.proofs.lemmas.Bool.{cases_eq, cases_lt}
use Rattle.std.proofs.lemmas.List.{get_or-set_same, get_or-set_other, get_or_past, length-set}
use Rattle.std.specs.List.{list_any}
use Rattle.thumb_core.specs.Registers.{word_in, write_register}
use Rattle.thumb_core.specs.declared.regs.TheConstants.{SP}
use Rattle.eh_bus.specs.Segment.{Segment}
use Rattle.eh_bus.specs.Memory.{load_number}
use Rattle.eh_bus.specs.declared.fault.BusFault.{BusFault}
use Rattle.thumb_core.specs.Words.{Load, load_words, ◌>>=◌, loads_from}
use Rattle.eh_bytecode.specs.declared.frame.UnwindState.{UnwindState}
use Rattle.eh_bytecode.specs.Meaning.{finish_registers, effect_step, pop_step, continue_unwind, run_codes, begin_unwind, unwind_result}
use Rattle.eh_codes.specs.Cut.{Item, Is, Bad}
use Rattle.eh_codes.specs.Meaning.{Effect, Rises, Falls, Pops, Takes, Refuses, Finishes, effect}
use Rattle.eh_bytecode.specs.declared.recipe.Recipe.{Recipe}
use Rattle.eh_bytecode.specs.declared.recipe.RecipeFault.{RecipeFault}
use Rattle.eh_bytecode.specs.declared.recipe.Src.TheVariants.{Same}
use Rattle.eh_bytecode.specs.declared.recipe.PartialRecipe.{PartialRecipe}
use Rattle.eh_bytecode.specs.Recipe.{Goes, Ends, sum_after, sums_on, sums, unless_far, is_same, is_far, fill_sources, recipe, empty_recipe}
use Rattle.eh_bytecode.specs.declared.recipe.RecipeFault.TheVariants as fault
use Rattle.sim_code.specs.Recipes.{AreRegisters}

pub small_set : (r : List ℕ) (j v : ℕ) → v < 2 ^ 32 → ((k : ℕ) → slice_index r k < 2 ^ 32) → (k : ℕ) → slice_index (slice_set r j v) k < 2 ^ 32
small_set r j v h small k = elim (cases_eq k j) [
  | inl same ↦ elim (cases_lt k (length r)) [
    | inl low ↦ (let at : slice_index (slice_set r j v) k ≡ v = ap (λ n. slice_index (slice_set r n v) k) (sym same) ∙ get_or-set_same r k v 0 low in omega (arith, at, h))
    | inr high ↦ (let at : slice_index (slice_set r j v) k ≡ 0 = get_or_past (slice_set r j v) k 0 (omega (arith, length-set r j v, high)) in omega (arith, at))
  ]
  | inr other ↦ (let at : slice_index (slice_set r j v) k ≡ slice_index r k = get_or-set_other r j k v 0 other in omega (arith, at, small k))
]

pub registers_set : (r : List ℕ) (j v : ℕ) → v < 2 ^ 32 → AreRegisters r → AreRegisters (slice_set r j v)
registers_set r j v h x = record { count = length-set r j v ∙ x.count; small = small_set r j v h x.small }

word_small : (j x : ℕ) → word_in j x < 2 ^ 32
word_small j x = go (j == SP)
  where
    go : (b : Bool) → cond b (x % 2 ^ 32 - x % 2 ^ 32 % 4) (x % 2 ^ 32) < 2 ^ 32
    go true = omega arith
    go false = omega arith

loaded : (m : List Segment) (base : ℕ) (ls : List Load) (r new : List ℕ) → AreRegisters r → load_words m base ls r ≡ Ok new → AreRegisters new
loaded m base [] r new h e = let same : r ≡ new = cc in subst AreRegisters same h
loaded m base (l ∷ more) r new h e = go (load_number 4 m ((base + l.at) % 2 ^ 32)) e (λ x. loaded m base more (write_register r l.reg x) new (registers_set r l.reg (word_in l.reg x) (word_small l.reg x) h))
  where
    go : (o : Result ℕ BusFault) → (o >>= (λ x. load_words m base more (write_register r l.reg x))) ≡ Ok new → ((x : ℕ) → load_words m base more (write_register r l.reg x) ≡ Ok new → AreRegisters new) → AreRegisters new
    go (Err f) e each = absurd cc
    go (Ok x) e each = each x e

pub record IsState (t : UnwindState) : Type 0 where
  pub registers : AreRegisters t.r
  pub vsp : t.vsp < 2 ^ 32

finished_registers : (t : UnwindState) → IsState t → AreRegisters (finish_registers t)
finished_registers t h = registers_set (cond t.popped_pc t.r (slice_set t.r 15 (slice_index t.r 14))) 13 t.vsp h.vsp (go t.popped_pc)
  where
    go : (b : Bool) → AreRegisters (cond b t.r (slice_set t.r 15 (slice_index t.r 14)))
    go true = h.registers
    go false = registers_set t.r 15 (slice_index t.r 14) (h.registers.small 14) h.registers

module _ (m : List Segment) (new : List ℕ) where
  abbrev Further : List Item → Type 0
  Further more = (t : UnwindState) → IsState t → run_codes m t more ≡ Ok new → AreRegisters new

  effect_on : (more : List Item) (t : UnwindState) (e : Effect) → IsState t → continue_unwind (λ n. run_codes m n more) (effect_step m t e) ≡ Ok new → Further more → AreRegisters new
  effect_on more t (Rises by) h u each = each (record t { vsp = (t.vsp + by) % 2 ^ 32 }) (record { registers = h.registers; vsp = omega arith }) u
  effect_on more t (Falls by) h u each = each (record t { vsp = (t.vsp + (2 ^ 32 - by)) % 2 ^ 32 }) (record { registers = h.registers; vsp = omega arith }) u
  effect_on more t (Pops registers) h u each = go (load_words m t.vsp (loads_from 0 registers) t.r) refl u
    where
      go : (o : Result (List ℕ) BusFault) → load_words m t.vsp (loads_from 0 registers) t.r ≡ o → continue_unwind (λ n. run_codes m n more) (pop_step t registers o) ≡ Ok new → AreRegisters new
      go (Err f) e u = absurd cc
      go (Ok r) e u =
          each (record { vsp = (t.vsp + 4 * length registers) % 2 ^ 32; r = r; popped_pc = t.popped_pc || list_any (λ (k : ℕ). k == 15) registers })
          (record { registers = loaded m t.vsp (loads_from 0 registers) t.r r h.registers e; vsp = omega arith }) u
  effect_on more t (Takes k) h u each = each (record t { vsp = slice_index t.r k }) (record { registers = h.registers; vsp = h.registers.small k }) u
  effect_on more t Refuses h u each = absurd cc
  effect_on more t Finishes h u each = let same : finish_registers t ≡ new = cc in subst AreRegisters same (finished_registers t h)

  folded : (items : List Item) → Further items
  folded [] t h u = let same : finish_registers t ≡ new = cc in subst AreRegisters same (finished_registers t h)
  folded (Bad place ∷ _) t h u = absurd cc
  folded (Is code ∷ more) t h u = effect_on more t (effect code) h u (folded more)

-- what unwinding gives
pub unwound_registers : (m : List Segment) (old new : List ℕ) (items : List Item) → AreRegisters old → unwind_result m old items ≡ Ok new → AreRegisters new
unfolding unwind_result
unwound_registers m old new items h u = folded m new items (begin_unwind old) (record { registers = h; vsp = h.small 13 }) u

-- ---- codes that refuse

module _ (m : List Segment) (new : List ℕ) where
  abbrev Never : List Item → Type 0
  Never more = (s : PartialRecipe) (t : UnwindState) → sums s more ≡ Err fault.Refuses → run_codes m t more ≡ Ok new → ⊥

  near : (next : PartialRecipe) (f : PartialRecipe → Result Recipe RecipeFault) (P : Type 0) → sums_on f (unless_far next) ≡ Err fault.Refuses → (f next ≡ Err fault.Refuses → P) → P
  near next f P e each = go (is_far next.vsp) e
    where
      go : (b : Bool) → sums_on f (cond b (Ends (Err fault.NotStatic)) (Goes next)) ≡ Err fault.Refuses → P
      go true e = absurd cc
      go false e = each e

  refuses_on : (more : List Item) (s : PartialRecipe) (t : UnwindState) (e : Effect) → sums_on (λ n. sums n more) (sum_after s e) ≡ Err fault.Refuses → continue_unwind (λ n. run_codes m n more) (effect_step m t e) ≡ Ok new → Never more → ⊥
  refuses_on more s t (Rises by) is u each = near (record s { vsp = s.vsp +ℤ pos by }) (λ n. sums n more) ⊥ is (λ w. each (record s { vsp = s.vsp +ℤ pos by }) (record t { vsp = (t.vsp + by) % 2 ^ 32 }) w u)
  refuses_on more s t (Falls by) is u each = near (record s { vsp = s.vsp -ℤ pos by }) (λ n. sums n more) ⊥ is (λ w. each (record s { vsp = s.vsp -ℤ pos by }) (record t { vsp = (t.vsp + (2 ^ 32 - by)) % 2 ^ 32 }) w u)
  refuses_on more s t (Pops registers) is u each =
      near next (λ n. sums n more) ⊥ is (λ w. go (load_words m t.vsp (loads_from 0 registers) t.r) u w)
    where
      next : PartialRecipe
      next = record s { vsp = s.vsp +ℤ pos (4 * length registers); src = fill_sources (is_some s.base) s.vsp registers s.src }

      go : (o : Result (List ℕ) BusFault) → continue_unwind (λ n. run_codes m n more) (pop_step t registers o) ≡ Ok new → sums next more ≡ Err fault.Refuses → ⊥
      go (Err f) u w = absurd cc
      go (Ok r) u w = each next (record { vsp = (t.vsp + 4 * length registers) % 2 ^ 32; r = r; popped_pc = t.popped_pc || list_any (λ (k : ℕ). k == 15) registers }) w u
  refuses_on more s t (Takes k) is u each = go (is_some s.base || not (is_same (slice_index_or s.src k Same))) is
    where
      go : (b : Bool) → sums_on (λ n. sums n more) (cond b (Ends (Err fault.NotStatic)) (Goes (record s { base = Some k; vsp = pos 0 }))) ≡ Err fault.Refuses → ⊥
      go true w = absurd cc
      go false w = each (record s { base = Some k; vsp = pos 0 }) (record t { vsp = slice_index t.r k }) w u
  refuses_on more s t Refuses is u each = absurd cc
  refuses_on more s t Finishes is u each = absurd cc

  never : (items : List Item) → Never items
  never [] s t is u = absurd cc
  never (Bad place ∷ _) s t is u = absurd cc
  never (Is code ∷ more) s t is u = refuses_on more s t (effect code) is u (never more)

-- codes that refuse give no registers, whatever they read before
pub refusing : (m : List Segment) (old new : List ℕ) (items : List Item) → recipe items ≡ Err fault.Refuses → unwind_result m old items ≡ Ok new → ⊥
unfolding unwind_result recipe
refusing m old new items is u = never m new items empty_recipe (begin_unwind old) is u
