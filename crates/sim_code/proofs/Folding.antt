-- What a recipe says is what the fold of the codes gives: effect by effect, and whole.
use Rattle.std.proofs.Common.{◌≡◌, ℕ, ◌<◌, not, List, length, ◌+◌, ◌%◌, ◌^◌, ◌∙◌, ap, ℤ, pos, ◌-◌, arith, Bool, true, false, refl, ◌||◌, Option, Some, None, sym, subst, inl, inr, ◌*◌, ◌==◌, cond, [], ◌∷◌, zero, suc, replicate}
use Rattle.std.specs.Prelude.{unwrap_or, slice_index, slice_index_or, ◌+ℤ◌, ◌-ℤ◌, ◌≤ℤ◌, Result, Ok, is_some, Err, slice_set}
use Rattle.std.proofs.lemmas.Int.{ints}
use Rattle.std.proofs.lemmas.Bool.{cases_lt}
use Rattle.std.proofs.lemmas.List.{get_or_past, get_or-set_same, get_or-set_other, length-set}
use Rattle.std.specs.List.{list_any}
use Rattle.eh_word.specs.Words.{plus_offset}
use Rattle.eh_bus.specs.Segment.{Segment}
use Rattle.eh_bytecode.specs.declared.frame.UnwindState.{UnwindState}
use Rattle.eh_bytecode.specs.declared.recipe.Src.TheVariants.{Same, FromSp, FromBase}
use Rattle.eh_bytecode.specs.declared.recipe.PartialRecipe.{PartialRecipe}
use Rattle.eh_bytecode.specs.Recipe.{is_same, IsNear, sums_on, unless_far, is_far, Goes, Ends, sum_after, sums, recipe_of, fill_sources, recipe, empty_recipe}
use Rattle.eh_bytecode.proofs.Near.{near_low, near_high}
use Rattle.eh_bytecode.specs.declared.recipe.Recipe.{Recipe}
use Rattle.eh_bytecode.specs.declared.recipe.RecipeFault.{RecipeFault}
use Rattle.eh_bytecode.specs.declared.recipe.Src.{Src}
use Rattle.eh_bytecode.specs.RecipeLaw.{Small, loads_at}
use Rattle.eh_bus.specs.declared.fault.BusFault.{BusFault}
use Rattle.thumb_core.specs.Words.{load_words, loads_from}
use Rattle.eh_codes.specs.Cut.{Item, Is, Bad}
use Rattle.eh_codes.specs.Meaning.{Effect, Rises, Falls, Pops, Takes, Refuses, Finishes, effect}
use Rattle.eh_bytecode.specs.Meaning.{effect_step, pop_step, continue_unwind, run_codes, finish_registers, begin_unwind, unwind_result}
use Rattle.eh_bytecode.proofs.RecipeLaws.{loads_first}
use Rattle.eh_bytecode.specs.declared.recipe.RecipeFault.TheVariants as fault
use Rattle.sim_code.proofs.Sources.{Meant, same_place, takes_meant, says, fill, other_filled}
use Rattle.sim_code.specs.Recipes.{Says, Gives}

-- ---- the fold

pub record Told (m : List Segment) (old : List ℕ) (s : PartialRecipe) (t : UnwindState) : Type 0 where
  pub place : t.vsp ≡ plus_offset (slice_index old (unwrap_or s.base 13)) s.vsp
  pub near : IsNear s.vsp
  pub wide : length t.r ≡ 16
  pub sources : length s.src ≡ 16
  pub meant : (k : ℕ) → k < 16 → Meant m old s.base k (slice_index_or s.src k Same) (slice_index t.r k)
  pub pc : t.popped_pc ≡ not (is_same (slice_index_or s.src 15 Same))

-- ---- sums near their places

pub vsp_rises : (b v n : ℕ) (off : ℤ) → IsNear off → v ≡ plus_offset b off → (v + n) % 2 ^ 32 ≡ plus_offset b (off +ℤ pos n)
vsp_rises b v n off near e = ap (λ p. (p + n) % 2 ^ 32) e ∙ same_place b n off (near_low off near)

pub vsp_falls : (b v n : ℕ) (off : ℤ) → (pos 0 -ℤ pos 65536) ≤ℤ off → off ≤ℤ pos 65536 → (pos 0 -ℤ pos 65536) ≤ℤ (off -ℤ pos n) → v ≡ plus_offset b off → (v + (2 ^ 32 - n)) % 2 ^ 32 ≡ plus_offset b (off -ℤ pos n)
vsp_falls b v n off low high last e = grind (arith, ints)

pub at_base : (b : ℕ) → b < 2 ^ 32 → b ≡ plus_offset b (pos 0)
at_base b h = grind (arith, ints)

pub with_near : (s : PartialRecipe) (of : Recipe) (f : PartialRecipe → Result Recipe RecipeFault) (P : Type 0) → sums_on f (unless_far s) ≡ Ok of → (IsNear s.vsp → f s ≡ Ok of → P) → P
with_near s of f P h each = near_cases (is_far s.vsp) refl
  where
    near_cases : (far : Bool) → is_far s.vsp ≡ far → P
    near_cases true e =
        let none : ◌≡◌ {A = Result Recipe RecipeFault} (sums_on f (unless_far s)) (Ok of) = h in
        absurd (grind (arith, e, none))
    near_cases false e = each e (let some : f s ≡ Ok of = grind (arith, e, h) in some)

-- a base is taken, which holds its old value
pub taken_told : (m : List Segment) (old : List ℕ) (wide : length old ≡ 16) (small : Small old) (s : PartialRecipe) (t : UnwindState) (k : ℕ) → Told m old s t → (is_some s.base || not (is_same (slice_index_or s.src k Same))) ≡ false
    → Told m old (record s { base = Some k; vsp = pos 0 }) (record t { vsp = slice_index t.r k })
taken_told m old wide small s t k h e = go s.base refl (is_same (slice_index_or s.src k Same)) refl e
  where
    same_of : (a : Src) → is_same a ≡ true → Meant m old s.base k a (slice_index t.r k) → slice_index t.r k ≡ slice_index old k
    same_of Same e w = w
    same_of (FromSp o) e w = absurd cc
    same_of (FromBase o) e w = absurd cc

    own : is_same (slice_index_or s.src k Same) ≡ true → slice_index t.r k ≡ slice_index old k
    own e = elim (cases_lt k 16) [
      | inl low ↦ same_of (slice_index_or s.src k Same) e (h.meant k low)
      | inr high ↦ get_or_past t.r k 0 (omega (arith, high, h.wide)) ∙ sym (get_or_past old k 0 (omega (arith, high, wide)))
    ]

    go : (o : Option ℕ) → s.base ≡ o → (b : Bool) → is_same (slice_index_or s.src k Same) ≡ b → (is_some s.base || not b) ≡ false → Told m old (record s { base = Some k; vsp = pos 0 }) (record t { vsp = slice_index t.r k })
    go o f false i w = absurd (let x : (is_some o || true) ≡ false = subst (λ (q : Option ℕ). (is_some q || true) ≡ false) f w in both (is_some o) x)
      where
        both : (b : Bool) → (b || true) ≡ false → ⊥
        both true x = cc
        both false x = cc
    go (Some b) f true i w = absurd (let x : (true || false) ≡ false = subst (λ (q : Option ℕ). (is_some q || false) ≡ false) f w in cc)
    go None f true i w = record {
      place = own i ∙ at_base (slice_index old k) (small k);
      near = refl;
      wide = h.wide;
      sources = h.sources;
      meant = λ j l. takes_meant m old k j (slice_index_or s.src j Same) (slice_index t.r j) (subst (λ q. Meant m old q j (slice_index_or s.src j Same) (slice_index t.r j)) f (h.meant j l));
      pc = h.pc;
    }

-- ---- the fold, effect by effect

module _ (m : List Segment) (old : List ℕ) (wide : length old ≡ 16) (small : Small old) (of : Recipe) (new : List ℕ) where
  -- the codes end
  ended : (s : PartialRecipe) (t : UnwindState) → Told m old s t → recipe_of s ≡ of → finish_registers t ≡ new → Gives m old of new
  ended s t h e n = subst (λ (r : Recipe). Gives m old r new) e (subst (Gives m old (recipe_of s)) n (record { registers = registers; sp = sp; pc = pc }))
    where
      base_is : ℕ
      base_is = unwrap_or s.base 13

      last : List ℕ
      last = cond t.popped_pc t.r (slice_set t.r 15 (slice_index t.r 14))

      last_long : (b : Bool) → length (cond b t.r (slice_set t.r 15 (slice_index t.r 14))) ≡ 16
      last_long true = h.wide
      last_long false = length-set t.r 15 (slice_index t.r 14) ∙ h.wide

      sp : slice_index (finish_registers t) 13 ≡ plus_offset (slice_index old (unwrap_or s.base 13)) s.vsp
      sp = get_or-set_same (cond t.popped_pc t.r (slice_set t.r 15 (slice_index t.r 14))) 13 t.vsp 0 (let l : 13 < length (cond t.popped_pc t.r (slice_set t.r 15 (slice_index t.r 14))) = omega (arith, last_long t.popped_pc) in l) ∙ h.place

      other_reg : (k : ℕ) → k < 15 → (k ≡ 13 → ⊥) → slice_index (finish_registers t) k ≡ slice_index t.r k
      other_reg k l d = get_or-set_other (cond t.popped_pc t.r (slice_set t.r 15 (slice_index t.r 14))) 13 k t.vsp 0 d ∙ go t.popped_pc
        where
          go : (b : Bool) → slice_index (cond b t.r (slice_set t.r 15 (slice_index t.r 14))) k ≡ slice_index t.r k
          go true = refl
          go false = get_or-set_other t.r 15 k (slice_index t.r 14) 0 (λ e. absurd (omega (arith, e, l)))

      other_src : (k : ℕ) → k < 15 → slice_index_or (recipe_of s).src k Same ≡ slice_index_or s.src k Same
      other_src k l = go (is_same (slice_index_or s.src 15 Same))
        where
          go : (b : Bool) → slice_index_or (cond b (slice_set s.src 15 (slice_index_or s.src 14 Same)) s.src) k Same ≡ slice_index_or s.src k Same
          go true = get_or-set_other s.src 15 k (slice_index_or s.src 14 Same) Same (λ e. absurd (omega (arith, e, l)))
          go false = refl

      registers : (k : ℕ) → k < 15 → (k ≡ 13 → ⊥) → Says m old (unwrap_or s.base 13) k (slice_index_or (recipe_of s).src k Same) (slice_index (finish_registers t) k)
      registers k l d =
          subst (λ (a : Src). Says m old (unwrap_or s.base 13) k a (slice_index (finish_registers t) k)) (sym (other_src k l))
          (subst (λ v. Says m old (unwrap_or s.base 13) k (slice_index_or s.src k Same) v) (sym (other_reg k l d)) (says m old s.base k (slice_index_or s.src k Same) (slice_index t.r k) (h.meant k (omega (arith, l)))))

      -- pc
      popped_is : (b : Bool) → t.popped_pc ≡ b → slice_index (finish_registers t) 15 ≡ cond b (slice_index t.r 15) (slice_index t.r 14)
      popped_is b e = get_or-set_other (cond t.popped_pc t.r (slice_set t.r 15 (slice_index t.r 14))) 13 15 t.vsp 0 (λ x. absurd (omega (arith, x))) ∙ ap (λ c. slice_index (cond c t.r (slice_set t.r 15 (slice_index t.r 14))) 15) e ∙ go b
        where
          go : (b : Bool) → slice_index (cond b t.r (slice_set t.r 15 (slice_index t.r 14))) 15 ≡ cond b (slice_index t.r 15) (slice_index t.r 14)
          go true = refl
          go false = get_or-set_same t.r 15 (slice_index t.r 14) 0 (let l : 15 < length t.r = omega (arith, h.wide) in l)

      -- the word of lr is a word of pc
      as_pc : (a : Src) (v : ℕ) → Says m old (unwrap_or s.base 13) 14 a v → Says m old (unwrap_or s.base 13) (cond (is_same a) 14 15) a v
      as_pc Same v w = w
      as_pc (FromSp o) v w = w
      as_pc (FromBase o) v w = w

      pc : Says m old (unwrap_or s.base 13) (cond (is_same (slice_index_or (recipe_of s).src 15 Same)) 14 15) (slice_index_or (recipe_of s).src 15 Same) (slice_index (finish_registers t) 15)
      pc = go (slice_index_or s.src 15 Same) refl
        where
          own : (a : Src) (v : ℕ) → is_same a ≡ false → Says m old (unwrap_or s.base 13) 15 a v → Says m old (unwrap_or s.base 13) (cond (is_same a) 14 15) a v
          own Same v e w = absurd cc
          own (FromSp o) v e w = w
          own (FromBase o) v e w = w

          by_lr : is_same (slice_index_or s.src 15 Same) ≡ true → Says m old (unwrap_or s.base 13) (cond (is_same (slice_index_or (recipe_of s).src 15 Same)) 14 15) (slice_index_or (recipe_of s).src 15 Same) (slice_index (finish_registers t) 15)
          by_lr e =
              let src_is : slice_index_or (recipe_of s).src 15 Same ≡ slice_index_or s.src 14 Same =
              ap (λ b. slice_index_or (cond b (slice_set s.src 15 (slice_index_or s.src 14 Same)) s.src) 15 Same) e
              ∙ get_or-set_same s.src 15 (slice_index_or s.src 14 Same) Same (let l : 15 < length s.src = omega (arith, h.sources) in l) in
              let unpopped : t.popped_pc ≡ false = h.pc ∙ ap not e in
              subst (λ (a : Src). Says m old (unwrap_or s.base 13) (cond (is_same a) 14 15) a (slice_index (finish_registers t) 15)) (sym src_is)
              (subst (λ v. Says m old (unwrap_or s.base 13) (cond (is_same (slice_index_or s.src 14 Same)) 14 15) (slice_index_or s.src 14 Same) v) (sym (popped_is false unpopped))
              (as_pc (slice_index_or s.src 14 Same) (slice_index t.r 14) (says m old s.base 14 (slice_index_or s.src 14 Same) (slice_index t.r 14) (h.meant 14 (omega arith)))))

          by_own : is_same (slice_index_or s.src 15 Same) ≡ false → Says m old (unwrap_or s.base 13) (cond (is_same (slice_index_or (recipe_of s).src 15 Same)) 14 15) (slice_index_or (recipe_of s).src 15 Same) (slice_index (finish_registers t) 15)
          by_own e =
              let src_is : slice_index_or (recipe_of s).src 15 Same ≡ slice_index_or s.src 15 Same = ap (λ b. slice_index_or (cond b (slice_set s.src 15 (slice_index_or s.src 14 Same)) s.src) 15 Same) e in
              let popped : t.popped_pc ≡ true = h.pc ∙ ap not e in
              subst (λ (a : Src). Says m old (unwrap_or s.base 13) (cond (is_same a) 14 15) a (slice_index (finish_registers t) 15)) (sym src_is)
              (subst (λ v. Says m old (unwrap_or s.base 13) (cond (is_same (slice_index_or s.src 15 Same)) 14 15) (slice_index_or s.src 15 Same) v) (sym (popped_is true popped))
              (own (slice_index_or s.src 15 Same) (slice_index t.r 15) e (says m old s.base 15 (slice_index_or s.src 15 Same) (slice_index t.r 15) (h.meant 15 (omega arith)))))

          go : (a : Src) → slice_index_or s.src 15 Same ≡ a → Says m old (unwrap_or s.base 13) (cond (is_same (slice_index_or (recipe_of s).src 15 Same)) 14 15) (slice_index_or (recipe_of s).src 15 Same) (slice_index (finish_registers t) 15)
          go Same e = by_lr (ap is_same e)
          go (FromSp o) e = by_own (ap is_same e)
          go (FromBase o) e = by_own (ap is_same e)

  abbrev Further : List Item → Type 0
  Further more = (s : PartialRecipe) (t : UnwindState) → Told m old s t → sums s more ≡ Ok of → run_codes m t more ≡ Ok new → Gives m old of new

  effect_on : (more : List Item) (s : PartialRecipe) (t : UnwindState) (e : Effect) → Told m old s t → sums_on (λ n. sums n more) (sum_after s e) ≡ Ok of → continue_unwind (λ n. run_codes m n more) (effect_step m t e) ≡ Ok new
      → Further more → Gives m old of new
  effect_on more s t (Rises by) h is u each =
      let next : PartialRecipe = record s { vsp = s.vsp +ℤ pos by } in
      with_near next of (λ n. sums n more) (Gives m old of new) is (λ near further. each next (record t { vsp = (t.vsp + by) % 2 ^ 32 })
      (record { place = vsp_rises (slice_index old (unwrap_or s.base 13)) t.vsp by s.vsp h.near h.place; near = near; wide = h.wide; sources = h.sources; meant = h.meant; pc = h.pc }) further u)
  effect_on more s t (Falls by) h is u each =
      let next : PartialRecipe = record s { vsp = s.vsp -ℤ pos by } in
      with_near next of (λ n. sums n more) (Gives m old of new) is (λ near further. each next (record t { vsp = (t.vsp + (2 ^ 32 - by)) % 2 ^ 32 })
      (record { place = vsp_falls (slice_index old (unwrap_or s.base 13)) t.vsp by s.vsp (near_low s.vsp h.near) (near_high s.vsp h.near) (near_low (s.vsp -ℤ pos by) near) h.place; near = near; wide = h.wide; sources = h.sources; meant = h.meant; pc = h.pc }) further u)
  effect_on more s t (Takes k) h is u each =
      go s.base refl (is_same (slice_index_or s.src k Same)) refl is
    where
      next : PartialRecipe
      next = record s { base = Some k; vsp = pos 0 }

      own : is_same (slice_index_or s.src k Same) ≡ true → slice_index t.r k ≡ slice_index old k
      own e = elim (cases_lt k 16) [
        | inl low ↦ same_of (slice_index_or s.src k Same) e (h.meant k low)
        | inr high ↦ get_or_past t.r k 0 (omega (arith, high, h.wide)) ∙ sym (get_or_past old k 0 (omega (arith, high, wide)))
      ]
        where
          same_of : (a : Src) → is_same a ≡ true → Meant m old s.base k a (slice_index t.r k) → slice_index t.r k ≡ slice_index old k
          same_of Same e w = w
          same_of (FromSp o) e w = absurd cc
          same_of (FromBase o) e w = absurd cc

      go : (o : Option ℕ) → s.base ≡ o → (b : Bool) → is_same (slice_index_or s.src k Same) ≡ b
          → sums_on (λ n. sums n more) (cond (is_some o || not b) (Ends (Err fault.NotStatic)) (Goes next)) ≡ Ok of → Gives m old of new
      go None e true i w =
          each next (record t { vsp = slice_index t.r k })
          (record {
            place = own i ∙ at_base (slice_index old k) (small k);
            near = refl;
            wide = h.wide;
            sources = h.sources;
            meant = λ j l. takes_meant m old k j (slice_index_or s.src j Same) (slice_index t.r j) (subst (λ q. Meant m old q j (slice_index_or s.src j Same) (slice_index t.r j)) e (h.meant j l));
            pc = h.pc;
          }) w u
      go None e false i w = absurd cc
      go (Some b) e true i w = absurd cc
      go (Some b) e false i w = absurd cc
  effect_on more s t (Pops registers) h is u each =
      with_near next of (λ n. sums n more) (Gives m old of new) is (λ near further. go (load_words m t.vsp (loads_from 0 registers) t.r) refl u near further)
    where
      next : PartialRecipe
      next = record s { vsp = s.vsp +ℤ pos (4 * length registers); src = fill_sources (is_some s.base) s.vsp registers s.src }

      go : (o : Result (List ℕ) BusFault) → load_words m t.vsp (loads_from 0 registers) t.r ≡ o → continue_unwind (λ n. run_codes m n more) (pop_step t registers o) ≡ Ok new → IsNear next.vsp → sums next more ≡ Ok of → Gives m old of new
      go (Err f) e w near further = absurd cc
      go (Ok r) e w near further =
          let loaded : load_words m (slice_index old (unwrap_or s.base 13)) (loads_at s.vsp registers) t.r ≡ Ok r = sym (loads_first m (slice_index old (unwrap_or s.base 13)) t.vsp s.vsp registers t.r h.near h.place) ∙ e in
          let f = fill m old s.base registers s.vsp s.src t.r r h.sources h.wide h.meant loaded in
          each next (record { vsp = (t.vsp + 4 * length registers) % 2 ^ 32; r = r; popped_pc = t.popped_pc || list_any (λ (k : ℕ). k == 15) registers })
          (record {
            place = vsp_rises (slice_index old (unwrap_or s.base 13)) t.vsp (4 * length registers) s.vsp h.near h.place;
            near = near;
            wide = f.wide;
            sources = f.sources;
            meant = f.meant;
            pc = ap (λ b. b || list_any (λ (k : ℕ). k == 15) registers) h.pc ∙ sym (other_filled registers (is_some s.base) s.vsp s.src h.sources);
          }) further w
  effect_on more s t Refuses h is u each = absurd cc
  effect_on more s t Finishes h is u each = ended s t h (let e : recipe_of s ≡ of = cc in e) (let e : finish_registers t ≡ new = cc in e)

  folded : (items : List Item) → Further items
  folded [] s t h is u = ended s t h (let e : recipe_of s ≡ of = cc in e) (let e : finish_registers t ≡ new = cc in e)
  folded (Bad place ∷ more) s t h is u = absurd cc
  folded (Is code ∷ more) s t h is u = effect_on more s t (effect code) h is u (folded more)

pub get_or-replicate : (n k : ℕ) → slice_index_or (replicate n Same) k Same ≡ Same
get_or-replicate zero k = refl
get_or-replicate (suc n) zero = refl
get_or-replicate (suc n) (suc k) = get_or-replicate n k

-- Where codes have a recipe, unwinding by them gives each register what the recipe says.
pub recipes_say : (m : List Segment) (old new : List ℕ) (items : List Item) (of : Recipe) → length old ≡ 16 → Small old → recipe items ≡ Ok of → unwind_result m old items ≡ Ok new → Gives m old of new
unfolding unwind_result recipe
recipes_say m old new items of wide small is u =
    folded m old wide small of new items empty_recipe (begin_unwind old)
    (record { place = at_base (slice_index old 13) (small 13); near = refl; wide = wide; sources = refl; meant = λ k l. first k; pc = refl }) is u
  where
    first : (k : ℕ) → Meant m old None k (slice_index_or (empty_recipe).src k Same) (slice_index old k)
    first k = subst (λ (a : Src). Meant m old None k a (slice_index old k)) (sym (get_or-replicate 16 k)) refl
