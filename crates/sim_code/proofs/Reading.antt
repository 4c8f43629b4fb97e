-- Where codes have a recipe and pop no register twice, every word that they load is the source of a register: where each of these can be read,
-- unwinding finishes.
use Rattle.std.proofs.Common.{ℕ, ◌≡◌, Bool, List, [], ◌∷◌, length, ◌∙◌, ℤ, pos, inl, inr, refl, sym, ◌<◌, ap, subst, arith, true, false, cond, ◌++◌, ◌*◌, ◌||◌, not, Some, Option, ◌+◌, ◌-◌, ◌%◌, ◌^◌, ◌==◌, None}
use Rattle.std.specs.Prelude.{◌+ℤ◌, slice_set, slice_index_or, Result, Ok, Err, ◌-ℤ◌, is_some, unwrap_or, slice_index}
use Rattle.std.proofs.lemmas.List.{length-set, get_or-set_other, get_or-set_same}
use Rattle.std.specs.List.{list_any}
use Rattle.eh_bytecode.specs.declared.recipe.Src.{Src}
use Rattle.eh_bytecode.specs.Recipe.{word_source, fill_sources, is_same, Goes, Ends, sums_on, sums, recipe_of, sum_after, recipe, empty_recipe}
use Rattle.eh_bus.specs.Lists.{Has}
use Rattle.eh_bytecode.specs.declared.recipe.Src.TheVariants.{Same}
use Rattle.eh_cxa.specs.Lists.{Once}
use Rattle.eh_bytecode.specs.declared.recipe.Recipe.{Recipe}
use Rattle.eh_bytecode.specs.declared.recipe.RecipeFault.{RecipeFault}
use Rattle.eh_bytecode.specs.declared.recipe.PartialRecipe.{PartialRecipe}
use Rattle.eh_codes.specs.Cut.{Item, Is, Bad}
use Rattle.eh_bytecode.specs.Once.{popped_registers, with_popped_first}
use Rattle.eh_codes.specs.Meaning.{Effect, Rises, Falls, Pops, Takes, Refuses, Finishes, effect}
use Rattle.eh_bus.specs.Segment.{Segment}
use Rattle.eh_bus.specs.declared.fault.BusFault.{BusFault}
use Rattle.thumb_core.specs.Words.{load_words, ◌>>=◌, loads_from}
use Rattle.thumb_core.specs.Registers.{write_register}
use Rattle.eh_bytecode.specs.RecipeLaw.{loads_at, Small}
use Rattle.eh_bytecode.specs.declared.frame.UnwindState.{UnwindState}
use Rattle.eh_bytecode.specs.Meaning.{effect_step, pop_step, continue_unwind, run_codes, finish_registers, begin_unwind, unwind_result}
use Rattle.eh_bytecode.proofs.RecipeLaws.{loads_first}
use Rattle.eh_bytecode.proofs.Near.{near_high, near_low}
use Rattle.eh_bytecode.specs.declared.recipe.RecipeFault.TheVariants as fault
use Rattle.sim_code.proofs.Folding.{with_near, Told, vsp_rises, vsp_falls, taken_told, at_base, get_or-replicate}
use Rattle.sim_code.specs.Recipes.{Loadable, CanRead}
use Rattle.sim_code.proofs.Sources.{fill, other_filled, Meant}

-- ---- sources after pops

filled_long : (based : Bool) (off : ℤ) (registers : List ℕ) (src : List Src) → length src ≡ 16 → length (fill_sources based off registers src) ≡ 16
filled_long based off [] src h = h
filled_long based off (k ∷ more) src h = filled_long based (off +ℤ pos 4) more (slice_set src k (word_source based off)) (length-set src k (word_source based off) ∙ h)

filled_other : (registers : List ℕ) (based : Bool) (off : ℤ) (src : List Src) (k : ℕ) → (Has registers k → ⊥) → slice_index_or (fill_sources based off registers src) k Same ≡ slice_index_or src k Same
filled_other [] based off src k h = refl
filled_other (j ∷ more) based off src k h =
    filled_other more based (off +ℤ pos 4) (slice_set src j (word_source based off)) k (λ x. h (inr x)) ∙ get_or-set_other src j k (word_source based off) Same (λ e. h (inl (sym e)))

-- each register has a source of this kind then
filled_from : (registers : List ℕ) (based : Bool) (off : ℤ) (src : List Src) (k : ℕ) → length src ≡ 16 → k < 16 → Has registers k → Once registers
    → (o : ℤ) × (slice_index_or (fill_sources based off registers src) k Same ≡ word_source based o)
filled_from [] based off src k long low h once = absurd h
filled_from (j ∷ more) based off src k long low (inl e) once = (
  off,
  filled_other more based (off +ℤ pos 4) (slice_set src j (word_source based off)) k (λ x. once.0 (subst (Has more) (sym e) x))
      ∙ ap (λ n. slice_index_or (slice_set src n (word_source based off)) k Same) e ∙ get_or-set_same src k (word_source based off) Same (let l : k < length src = omega (arith, low, long) in l),
)
filled_from (j ∷ more) based off src k long low (inr x) once =
    filled_from more based (off +ℤ pos 4) (slice_set src j (word_source based off)) k (length-set src j (word_source based off) ∙ long) low x once.1

from_differs : (based : Bool) (o : ℤ) → is_same (word_source based o) ≡ false
from_differs true o = refl
from_differs false o = refl

-- ---- what stays to the end

taken : (b : Bool) (sum : PartialRecipe) (of : Recipe) (f : PartialRecipe → Result Recipe RecipeFault) → sums_on f (cond b (Ends (Err fault.NotStatic)) (Goes sum)) ≡ Ok of → (b ≡ false) × (f sum ≡ Ok of)
taken true sum of f h = absurd cc
taken false sum of f h = (refl, h)

has_left : (xs ys : List ℕ) (k : ℕ) → Has xs k → Has (xs ++ ys) k
has_left [] ys k h = absurd h
has_left (x ∷ xs) ys k (inl e) = inl e
has_left (x ∷ xs) ys k (inr h) = inr (has_left xs ys k h)

has_right : (xs ys : List ℕ) (k : ℕ) → Has ys k → Has (xs ++ ys) k
has_right [] ys k h = h
has_right (x ∷ xs) ys k h = inr (has_right xs ys k h)

-- a source that isn't the register's own value stays, where the register isn't popped again
abbrev KeepsSource : Recipe → List Item → Type 0
KeepsSource of items = (s : PartialRecipe) (k : ℕ) → sums s items ≡ Ok of → is_same (slice_index_or s.src k Same) ≡ false → (Has (popped_registers items) k → ⊥) → slice_index_or of.src k Same ≡ slice_index_or s.src k Same

at_end : (of : Recipe) (s : PartialRecipe) (k : ℕ) → recipe_of s ≡ of → is_same (slice_index_or s.src k Same) ≡ false → slice_index_or of.src k Same ≡ slice_index_or s.src k Same
at_end of s k e differs = ap (λ (r : Recipe). slice_index_or r.src k Same) (sym e) ∙ go (is_same (slice_index_or s.src 15 Same)) refl
  where
    go : (b : Bool) → is_same (slice_index_or s.src 15 Same) ≡ b → slice_index_or (cond b (slice_set s.src 15 (slice_index_or s.src 14 Same)) s.src) k Same ≡ slice_index_or s.src k Same
    go true is = get_or-set_other s.src 15 k (slice_index_or s.src 14 Same) Same (λ same. absurd (let clash : is_same (slice_index_or s.src k Same) ≡ true = ap (λ n. is_same (slice_index_or s.src n Same)) same ∙ is in
        let no : true ≡ false = sym clash ∙ differs in cc))
    go false is = refl

kept_after : (of : Recipe) (more : List Item) (s : PartialRecipe) (k : ℕ) (e : Effect) → sums_on (λ n. sums n more) (sum_after s e) ≡ Ok of → is_same (slice_index_or s.src k Same) ≡ false
    → (Has (with_popped_first e (popped_registers more)) k → ⊥) → KeepsSource of more → slice_index_or of.src k Same ≡ slice_index_or s.src k Same
kept_after of more s k (Rises by) is differs none each = with_near (record s { vsp = s.vsp +ℤ pos by }) of (λ n. sums n more) _ is (λ near further. each (record s { vsp = s.vsp +ℤ pos by }) k further differs none)
kept_after of more s k (Falls by) is differs none each = with_near (record s { vsp = s.vsp -ℤ pos by }) of (λ n. sums n more) _ is (λ near further. each (record s { vsp = s.vsp -ℤ pos by }) k further differs none)
kept_after of more s k (Pops registers) is differs none each =
    let next : PartialRecipe = record s { vsp = s.vsp +ℤ pos (4 * length registers); src = fill_sources (is_some s.base) s.vsp registers s.src } in
    let same = filled_other registers (is_some s.base) s.vsp s.src k (λ h. none (has_left registers (popped_registers more) k h)) in
    with_near next of (λ n. sums n more) _ is (λ near further. each next k further (ap is_same same ∙ differs) (λ h. none (has_right registers (popped_registers more) k h)) ∙ same)
kept_after of more s k (Takes register) is differs none each =
    let next : PartialRecipe = record s { base = Some register; vsp = pos 0 } in
    each next k (taken (is_some s.base || not (is_same (slice_index_or s.src register Same))) next of (λ n. sums n more) is).1 differs none
kept_after of more s k Refuses is differs none each = absurd cc
kept_after of more s k Finishes is differs none each = at_end of s k (let e : recipe_of s ≡ of = cc in e) differs

kept_source : (of : Recipe) (items : List Item) → KeepsSource of items
kept_source of [] s k is differs none = at_end of s k (let e : recipe_of s ≡ of = cc in e) differs
kept_source of (Bad place ∷ _) s k is differs none = absurd cc
kept_source of (Is code ∷ more) s k is differs none = kept_after of more s k (effect code) is differs none (kept_source of more)

-- so does a base that was taken
abbrev KeepsBase : Recipe → List Item → Type 0
KeepsBase of items = (s : PartialRecipe) (b : ℕ) → sums s items ≡ Ok of → s.base ≡ Some b → of.base ≡ b

base_after : (of : Recipe) (more : List Item) (s : PartialRecipe) (b : ℕ) (e : Effect) → sums_on (λ n. sums n more) (sum_after s e) ≡ Ok of → s.base ≡ Some b → KeepsBase of more → of.base ≡ b
base_after of more s b (Rises by) is e each = with_near (record s { vsp = s.vsp +ℤ pos by }) of (λ n. sums n more) _ is (λ near further. each (record s { vsp = s.vsp +ℤ pos by }) b further e)
base_after of more s b (Falls by) is e each = with_near (record s { vsp = s.vsp -ℤ pos by }) of (λ n. sums n more) _ is (λ near further. each (record s { vsp = s.vsp -ℤ pos by }) b further e)
base_after of more s b (Pops registers) is e each =
    let next : PartialRecipe = record s { vsp = s.vsp +ℤ pos (4 * length registers); src = fill_sources (is_some s.base) s.vsp registers s.src } in
    with_near next of (λ n. sums n more) _ is (λ near further. each next b further e)
base_after of more s b (Takes register) is e each =
    let two = taken (is_some s.base || not (is_same (slice_index_or s.src register Same))) (record s { base = Some register; vsp = pos 0 }) of (λ n. sums n more) is in
    absurd (let t : (true || not (is_same (slice_index_or s.src register Same))) ≡ false = subst (λ (o : Option ℕ). (is_some o || not (is_same (slice_index_or s.src register Same))) ≡ false) e two.0 in cc)
base_after of more s b Refuses is e each = absurd cc
base_after of more s b Finishes is e each = let f : recipe_of s ≡ of = cc in sym (ap (λ (r : Recipe). r.base) f) ∙ ap (λ (o : Option ℕ). unwrap_or o 13) e

kept_base : (of : Recipe) (items : List Item) → KeepsBase of items
kept_base of [] s b is e = let f : recipe_of s ≡ of = cc in sym (ap (λ (r : Recipe). r.base) f) ∙ ap (λ (o : Option ℕ). unwrap_or o 13) e
kept_base of (Bad place ∷ _) s b is e = absurd cc
kept_base of (Is code ∷ more) s b is e = base_after of more s b (effect code) is e (kept_base of more)

module _ (m : List Segment) (old : List ℕ) where
  -- the words of registers that are popped
  reads : (place : ℕ) (based : Bool) (registers : List ℕ) (off : ℤ) (src : List Src) (r : List ℕ) → length src ≡ 16 → Once registers → ((k : ℕ) → Has registers k → k < 16)
      → ((k : ℕ) (o : ℤ) → Has registers k → slice_index_or (fill_sources based off registers src) k Same ≡ word_source based o → Loadable m place o)
      → (new : List ℕ) × (load_words m place (loads_at off registers) r ≡ Ok new)
  reads place based [] off src r long once low each = (r, refl)
  reads place based (j ∷ more) off src r long once low each =
      let here : slice_index_or (fill_sources based off (j ∷ more) src) j Same ≡ word_source based off =
      filled_other more based (off +ℤ pos 4) (slice_set src j (word_source based off)) j once.0 ∙ get_or-set_same src j (word_source based off) Same (let l : j < length src = omega (arith, low j (inl refl), long) in l) in
      let w = each j off (inl refl) here in
      let rest = reads place based more (off +ℤ pos 4) (slice_set src j (word_source based off)) (write_register r j w.0) (length-set src j (word_source based off) ∙ long) once.1 (λ k h. low k (inr h)) (λ k o h. each k o (inr h)) in
      (rest.0, ap (λ (o : Result ℕ BusFault). o >>= (λ x. load_words m place (loads_at (off +ℤ pos 4) more) (write_register r j x))) w.1 ∙ rest.1)

-- ---- unwinding finishes

module _ (m : List Segment) (old : List ℕ) (wide : length old ≡ 16) (small : Small old) (of : Recipe) (all : (k : ℕ) → k < 16 → CanRead m old of.base (slice_index_or of.src k Same)) where
  abbrev Finishes_in : List Item → Type 0
  Finishes_in more = (s : PartialRecipe) (t : UnwindState) → Told m old s t → sums s more ≡ Ok of → Once (popped_registers more) → ((k : ℕ) → Has (popped_registers more) k → k < 16) → (new : List ℕ) × (run_codes m t more ≡ Ok new)

  once_left : (xs ys : List ℕ) → Once (xs ++ ys) → Once xs
  once_left [] ys h = tt
  once_left (x ∷ xs) ys h = (λ i. h.0 (has_left xs ys x i), once_left xs ys h.1)

  once_right : (xs ys : List ℕ) → Once (xs ++ ys) → Once ys
  once_right [] ys h = h
  once_right (x ∷ xs) ys h = once_right xs ys h.1

  once_apart : (xs ys : List ℕ) (k : ℕ) → Once (xs ++ ys) → Has xs k → Has ys k → ⊥
  once_apart [] ys k h a b = a
  once_apart (x ∷ xs) ys k h (inl e) b = h.0 (subst (Has (xs ++ ys)) (sym e) (has_right xs ys k b))
  once_apart (x ∷ xs) ys k h (inr a) b = once_apart xs ys k h.1 a b

  -- the word that a popped register takes
  popped_word : (more : List Item) (s next : PartialRecipe) (based : Option ℕ) (k : ℕ) (o : ℤ) → s.base ≡ based → next.base ≡ s.base → sums next more ≡ Ok of → slice_index_or next.src k Same ≡ word_source (is_some s.base) o → k < 16
      → (Has (popped_registers more) k → ⊥) → Loadable m (slice_index old (unwrap_or s.base 13)) o
  popped_word more s next based k o e same is at low none =
      go based e (subst (CanRead m old of.base) (kept_source of more next k is (ap is_same at ∙ from_differs (is_some s.base) o) none ∙ at) (all k low))
    where
      go : (b : Option ℕ) → s.base ≡ b → CanRead m old of.base (word_source (is_some s.base) o) → Loadable m (slice_index old (unwrap_or s.base 13)) o
      go None f c = subst (λ (q : Option ℕ). Loadable m (slice_index old (unwrap_or q 13)) o) (sym f) (subst (λ (q : Option ℕ). CanRead m old of.base (word_source (is_some q) o)) f c)
      go (Some b) f c =
          let base : of.base ≡ b = kept_base of more next b is (same ∙ f) in
          subst (λ (q : Option ℕ). Loadable m (slice_index old (unwrap_or q 13)) o) (sym f)
          (subst (λ n. Loadable m (slice_index old n) o) base (subst (λ (q : Option ℕ). CanRead m old of.base (word_source (is_some q) o)) f c))

  effect_reads : (more : List Item) (s : PartialRecipe) (t : UnwindState) (e : Effect) → Told m old s t → sums_on (λ n. sums n more) (sum_after s e) ≡ Ok of → Once (with_popped_first e (popped_registers more))
      → ((k : ℕ) → Has (with_popped_first e (popped_registers more)) k → k < 16) → Finishes_in more → (new : List ℕ) × (continue_unwind (λ n. run_codes m n more) (effect_step m t e) ≡ Ok new)
  effect_reads more s t (Rises by) h is once low each =
      with_near (record s { vsp = s.vsp +ℤ pos by }) of (λ n. sums n more) _ is (λ near further. each (record s { vsp = s.vsp +ℤ pos by }) (record t { vsp = (t.vsp + by) % 2 ^ 32 })
      (record { place = vsp_rises (slice_index old (unwrap_or s.base 13)) t.vsp by s.vsp h.near h.place; near = near; wide = h.wide; sources = h.sources; meant = h.meant; pc = h.pc }) further once low)
  effect_reads more s t (Falls by) h is once low each =
      with_near (record s { vsp = s.vsp -ℤ pos by }) of (λ n. sums n more) _ is (λ near further. each (record s { vsp = s.vsp -ℤ pos by }) (record t { vsp = (t.vsp + (2 ^ 32 - by)) % 2 ^ 32 })
      (record { place = vsp_falls (slice_index old (unwrap_or s.base 13)) t.vsp by s.vsp (near_low s.vsp h.near) (near_high s.vsp h.near) (near_low (s.vsp -ℤ pos by) near) h.place; near = near; wide = h.wide; sources = h.sources; meant = h.meant; pc = h.pc }) further once low)
  effect_reads more s t (Takes k) h is once low each =
      let two = taken (is_some s.base || not (is_same (slice_index_or s.src k Same))) (record s { base = Some k; vsp = pos 0 }) of (λ n. sums n more) is in
      each (record s { base = Some k; vsp = pos 0 }) (record t { vsp = slice_index t.r k }) (taken_told m old wide small s t k h two.0) two.1 once low
  effect_reads more s t (Pops registers) h is once low each =
      let next : PartialRecipe = record s { vsp = s.vsp +ℤ pos (4 * length registers); src = fill_sources (is_some s.base) s.vsp registers s.src } in
      with_near next of (λ n. sums n more) _ is (λ near further.
      let read = reads m old (slice_index old (unwrap_or s.base 13)) (is_some s.base) registers s.vsp s.src t.r h.sources (once_left registers (popped_registers more) once) (λ k i. low k (has_left registers (popped_registers more) k i))
      (λ k o i at. popped_word more s next s.base k o refl refl further at (low k (has_left registers (popped_registers more) k i)) (λ j. once_apart registers (popped_registers more) k once i j)) in
      let loaded : load_words m t.vsp (loads_from 0 registers) t.r ≡ Ok read.0 = loads_first m (slice_index old (unwrap_or s.base 13)) t.vsp s.vsp registers t.r h.near h.place ∙ read.1 in
      let f = fill m old s.base registers s.vsp s.src t.r read.0 h.sources h.wide h.meant read.1 in
      let rest = each next (record { vsp = (t.vsp + 4 * length registers) % 2 ^ 32; r = read.0; popped_pc = t.popped_pc || list_any (λ (k : ℕ). k == 15) registers })
      (record {
        place = vsp_rises (slice_index old (unwrap_or s.base 13)) t.vsp (4 * length registers) s.vsp h.near h.place;
        near = near;
        wide = f.wide;
        sources = f.sources;
        meant = f.meant;
        pc = ap (λ b. b || list_any (λ (k : ℕ). k == 15) registers) h.pc ∙ sym (other_filled registers (is_some s.base) s.vsp s.src h.sources);
      }) further (once_right registers (popped_registers more) once) (λ k i. low k (has_right registers (popped_registers more) k i)) in
      (rest.0, ap (λ (o : Result (List ℕ) BusFault). continue_unwind (λ n. run_codes m n more) (pop_step t registers o)) loaded ∙ rest.1))
  effect_reads more s t Refuses h is once low each = absurd cc
  effect_reads more s t Finishes h is once low each = (finish_registers t, refl)

  finishes_in : (items : List Item) → Finishes_in items
  finishes_in [] s t h is once low = (finish_registers t, refl)
  finishes_in (Bad place ∷ _) s t h is once low = absurd cc
  finishes_in (Is code ∷ more) s t h is once low = effect_reads more s t (effect code) h is once low (finishes_in more)

-- Where each word that a recipe names can be read, and no register is popped twice, unwinding by its codes finishes.
pub recipes_finish : (m : List Segment) (old : List ℕ) (items : List Item) (of : Recipe) → length old ≡ 16 → Small old → recipe items ≡ Ok of → Once (popped_registers items) → ((k : ℕ) → Has (popped_registers items) k → k < 16)
    → ((k : ℕ) → k < 16 → CanRead m old of.base (slice_index_or of.src k Same)) → (new : List ℕ) × (unwind_result m old items ≡ Ok new)
unfolding unwind_result recipe
recipes_finish m old items of wide small is once low all =
    finishes_in m old wide small of all items empty_recipe (begin_unwind old)
    (record { place = at_base (slice_index old 13) (small 13); near = refl; wide = wide; sources = refl; meant = λ k l. subst (λ (a : Src). Meant m old None k a (slice_index old k)) (sym (get_or-replicate 16 k)) refl; pc = refl }) is once low
