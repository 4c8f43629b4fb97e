-- Codes of bytes that have a recipe and pop no register twice: their recipe never writes sp, and its words stand at multiples of 4.
use Rattle.std.proofs.Common.{List, [], ◌∷◌, ◌≡◌, ℕ, zero, suc, ◌+◌, ◌-◌, Option, Some, None, refl, ◌<◌, inl, inr, ◌==◌, ◌||◌, ◌⊎◌, Bool, true, false, sym, ◌∙◌, arith, not, ◌%◌, ℤ, pos, negsuc, length, ap, subst, cond, ◌*◌}
use Rattle.std.specs.Option.{option_map_or}
use Rattle.std.specs.List.{list_any}
use Rattle.std.proofs.lemmas.Bool.Decides.{nat_tests}
use Rattle.std.proofs.lemmas.Bool.{and_parts, cases_eq, cases_lt}
use Rattle.std.specs.Prelude.{◌+ℤ◌, ◌-ℤ◌, slice_index_or, slice_set, unwrap_or, Ok, Err, is_some}
use Rattle.std.proofs.lemmas.Int.{ints}
use Rattle.std.proofs.lemmas.List.{get_or-set_same, get_or-set_other, get_or_past, length-set}
use Rattle.eh_codes.specs.Cut.{Item, Is, Bad, split_codes_after, split_codes_from, split_codes}
use Rattle.eh_codes.specs.Meaning.{effect, Effect, Rises, Falls, Pops, Takes, Refuses, Finishes}
use Rattle.eh_codes.specs.declared.code.UnwindCode.{UnwindCode}
use Rattle.eh_codes.specs.Table.{code_front}
use Rattle.eh_bus.specs.Lists.{Has}
use Rattle.eh_bytecode.specs.Once.{popped_registers, with_popped_first}
use Rattle.eh_cxa.specs.Lists.{Once}
use Rattle.frame_check.specs.frame_entries.Unwinding.{are_distinct, pop_once}
use Rattle.eh_bytecode.specs.declared.recipe.Src.{Src}
use Rattle.eh_bytecode.specs.declared.recipe.Src.TheVariants.{Same, FromSp, FromBase}
use Rattle.eh_bytecode.specs.Recipe.{word_source, fill_sources, recipe_of, is_same, Goes, Ends, sum_after, sums_on, sums, recipe, empty_recipe}
use Rattle.eh_bytecode.specs.declared.recipe.PartialRecipe.{PartialRecipe}
use Rattle.eh_bytecode.specs.declared.recipe.Recipe.{Recipe}
use Rattle.eh_bytecode.specs.declared.recipe.RecipeFault.TheVariants as fault
use Rattle.sim_code.proofs.Codes.{IsTame, front_tame, has_either}
use Rattle.sim_code.specs.Recipes.{Bytes, IsQuad, IsRecipe}
use Rattle.sim_code.proofs.Folding.{with_near, get_or-replicate}

-- ---- codes

abbrev pub AreTame : List Item → Type 0
AreTame [] = Unit {0}
AreTame (Is code ∷ more) = IsTame (effect code) × AreTame more
AreTame (Bad place ∷ more) = Unit {0}

cut_tame : (inside place : ℕ) (bytes : List ℕ) → Bytes bytes → AreTame (split_codes_after inside place bytes)
cut_tame inside place [] b = tt
cut_tame (suc inside) place (x ∷ more) b = cut_tame inside (place + 1) more b.1
cut_tame zero place (x ∷ more) b = go (code_front x more) refl (λ n. cut_tame (n - 1) (place + 1) more b.1)
  where
    go : (o : Option (UnwindCode × ℕ)) → code_front x more ≡ o → ((n : ℕ) → AreTame (split_codes_after (n - 1) (place + 1) more))
        → AreTame (option_map_or (λ (found : UnwindCode × ℕ). Is found.0 ∷ split_codes_after (found.1 - 1) (place + 1) more) o (Bad place ∷ []))
    go None is later = tt
    go (Some (code, n)) is later = (front_tame x more code n b.0 b.1 is, later n)

pub codes_tame : (bytes : List ℕ) → Bytes bytes → AreTame (split_codes bytes)
unfolding split_codes_from
codes_tame bytes b = cut_tame 0 0 bytes b

-- ---- what they pop

popped_low : (items : List Item) → AreTame items → (k : ℕ) → Has (popped_registers items) k → k < 16
popped_low [] t k h = absurd h
popped_low (Bad place ∷ more) t k h = absurd h
popped_low (Is code ∷ more) t k h = go (effect code) t.0 h (popped_low more t.1 k)
  where
    go : (e : Effect) → IsTame e → Has (with_popped_first e (popped_registers more)) k → (Has (popped_registers more) k → k < 16) → k < 16
    go (Rises by) t h later = later h
    go (Falls by) t h later = later h
    go (Pops registers) t h later = elim (has_either registers (popped_registers more) k h) [
      | inl l ↦ (t k l).0
      | inr r ↦ later r
    ]
    go (Takes register) t h later = later h
    go Refuses t h later = absurd h
    go Finishes t h later = absurd h

none_there : (x : ℕ) (xs : List ℕ) → list_any (λ (y : ℕ). x == y) xs ≡ false → Has xs x → ⊥
none_there x [] e h = h
none_there x (y ∷ more) e h = go (x == y) refl e h (none_there x more)
  where
    go : (b : Bool) → (x == y) ≡ b → (b || list_any (λ (z : ℕ). x == z) more) ≡ false → (y ≡ x) ⊎ Has more x → (list_any (λ (z : ℕ). x == z) more ≡ false → Has more x → ⊥) → ⊥
    go true is e h later = absurd cc
    go false is e (inl same) later = let t : (x == y) ≡ true = grind (arith, nat_tests) in let clash : true ≡ false = sym t ∙ is in absurd cc
    go false is e (inr there) later = later e there

once_is : (xs : List ℕ) → are_distinct xs ≡ true → Once xs
once_is [] e = tt
once_is (x ∷ more) e =
    let w = and_parts (not (list_any (λ (y : ℕ). x == y) more)) (are_distinct more) e in
    (λ h. none_there x more (not_true (list_any (λ (y : ℕ). x == y) more) w.0) h, once_is more w.1)
  where
    not_true : (b : Bool) → not b ≡ true → b ≡ false
    not_true true e = absurd cc
    not_true false e = refl

-- ---- sums

quad_plus : (z : ℤ) (n : ℕ) → IsQuad z → n % 4 ≡ 0 → IsQuad (z +ℤ pos n)
quad_plus z n q h = go z (z +ℤ pos n) q refl
  where
    go : (z w : ℤ) → IsQuad z → z +ℤ pos n ≡ w → IsQuad w
    go (pos m) (pos r) q e = omega (arith, ints, q, h, e)
    go (pos m) (negsuc r) q e = absurd (omega (arith, ints, e))
    go (negsuc m) (pos r) q e = omega (arith, ints, q, h, e)
    go (negsuc m) (negsuc r) q e = omega (arith, ints, q, h, e)

quad_minus : (z : ℤ) (n : ℕ) → IsQuad z → n % 4 ≡ 0 → IsQuad (z -ℤ pos n)
quad_minus z n q h = go z (z -ℤ pos n) q refl
  where
    go : (z w : ℤ) → IsQuad z → z -ℤ pos n ≡ w → IsQuad w
    go (pos m) (pos r) q e = omega (arith, ints, q, h, e)
    go (pos m) (negsuc r) q e = omega (arith, ints, q, h, e)
    go (negsuc m) (pos r) q e = absurd (omega (arith, ints, e))
    go (negsuc m) (negsuc r) q e = omega (arith, ints, q, h, e)

abbrev QuadSource : Src → Type 0
QuadSource Same = Unit {0}
QuadSource (FromSp o) = IsQuad o
QuadSource (FromBase o) = IsQuad o

abbrev AllQuads : List Src → Type 0
AllQuads src = (k : ℕ) → QuadSource (slice_index_or src k Same)

quads_set : (src : List Src) (j : ℕ) (s : Src) → QuadSource s → AllQuads src → AllQuads (slice_set src j s)
quads_set src j s q all k = elim (cases_eq k j) [
  | inl same ↦ elim (cases_lt k (length src)) [
    | inl low ↦ subst QuadSource (sym (ap (λ n. slice_index_or (slice_set src n s) k Same) (sym same) ∙ get_or-set_same src k s Same low)) q
    | inr high ↦ subst QuadSource (sym (get_or_past (slice_set src j s) k Same (omega (arith, length-set src j s, high)))) tt
  ]
  | inr other ↦ subst QuadSource (sym (get_or-set_other src j k s Same other)) (all k)
]

from_quad : (based : Bool) (o : ℤ) → IsQuad o → QuadSource (word_source based o)
from_quad true o q = q
from_quad false o q = q

filled_quads : (based : Bool) (registers : List ℕ) (off : ℤ) (src : List Src) → IsQuad off → AllQuads src → AllQuads (fill_sources based off registers src)
filled_quads based [] off src q all = all
filled_quads based (k ∷ more) off src q all = filled_quads based more (off +ℤ pos 4) (slice_set src k (word_source based off)) (quad_plus off 4 q refl) (quads_set src k (word_source based off) (from_quad based off q) all)

filled_sp : (based : Bool) (registers : List ℕ) (off : ℤ) (src : List Src) → ((k : ℕ) → Has registers k → (k < 16) × (k ≡ 13 → ⊥)) → slice_index_or (fill_sources based off registers src) 13 Same ≡ slice_index_or src 13 Same
filled_sp based [] off src t = refl
filled_sp based (k ∷ more) off src t =
    filled_sp based more (off +ℤ pos 4) (slice_set src k (word_source based off)) (λ j h. t j (inr h)) ∙ get_or-set_other src k 13 (word_source based off) Same (λ e. (t k (inl refl)).1 (sym e))

pub record IsNeat (s : PartialRecipe) : Type 0 where
  pub vsp : IsQuad s.vsp
  pub quads : AllQuads s.src
  pub sp : slice_index_or s.src 13 Same ≡ Same
  pub base : unwrap_or s.base 13 < 15

pub record IsNeatRecipe (of : Recipe) : Type 0 where
  pub vsp : IsQuad of.vsp
  pub quads : AllQuads of.src
  pub sp : slice_index_or of.src 13 Same ≡ Same
  pub base : of.base < 15

ended_neat : (s : PartialRecipe) → IsNeat s → IsNeatRecipe (recipe_of s)
ended_neat s h = record { vsp = h.vsp; quads = quads (is_same (slice_index_or s.src 15 Same)); sp = sp (is_same (slice_index_or s.src 15 Same)); base = h.base }
  where
    quads : (b : Bool) → AllQuads (cond b (slice_set s.src 15 (slice_index_or s.src 14 Same)) s.src)
    quads true = quads_set s.src 15 (slice_index_or s.src 14 Same) (h.quads 14) h.quads
    quads false = h.quads

    sp : (b : Bool) → slice_index_or (cond b (slice_set s.src 15 (slice_index_or s.src 14 Same)) s.src) 13 Same ≡ Same
    sp true = get_or-set_other s.src 15 13 (slice_index_or s.src 14 Same) Same (λ e. absurd (omega (arith, e))) ∙ h.sp
    sp false = h.sp

module _ (of : Recipe) where
  abbrev Neat : List Item → Type 0
  Neat items = (s : PartialRecipe) → IsNeat s → sums s items ≡ Ok of → IsNeatRecipe of

  neat_after : (more : List Item) (s : PartialRecipe) (e : Effect) → IsTame e → IsNeat s → sums_on (λ n. sums n more) (sum_after s e) ≡ Ok of → Neat more → IsNeatRecipe of
  neat_after more s (Rises by) t h is each =
      let next : PartialRecipe = record s { vsp = s.vsp +ℤ pos by } in
      with_near next of (λ n. sums n more) (IsNeatRecipe of) is (λ near further. each next (record { vsp = quad_plus s.vsp by h.vsp t; quads = h.quads; sp = h.sp; base = h.base }) further)
  neat_after more s (Falls by) t h is each =
      let next : PartialRecipe = record s { vsp = s.vsp -ℤ pos by } in
      with_near next of (λ n. sums n more) (IsNeatRecipe of) is (λ near further. each next (record { vsp = quad_minus s.vsp by h.vsp t; quads = h.quads; sp = h.sp; base = h.base }) further)
  neat_after more s (Pops registers) t h is each =
      let next : PartialRecipe = record s { vsp = s.vsp +ℤ pos (4 * length registers); src = fill_sources (is_some s.base) s.vsp registers s.src } in
      with_near next of (λ n. sums n more) (IsNeatRecipe of) is (λ near further. each next
      (record {
        vsp = quad_plus s.vsp (4 * length registers) h.vsp (let f : 4 * length registers % 4 ≡ 0 = omega arith in f);
        quads = filled_quads (is_some s.base) registers s.vsp s.src h.vsp h.quads;
        sp = filled_sp (is_some s.base) registers s.vsp s.src t ∙ h.sp;
        base = h.base;
      }) further)
  neat_after more s (Takes k) t h is each = go (is_some s.base || not (is_same (slice_index_or s.src k Same))) is
    where
      go : (b : Bool) → sums_on (λ n. sums n more) (cond b (Ends (Err fault.NotStatic)) (Goes (record s { base = Some k; vsp = pos 0 }))) ≡ Ok of → IsNeatRecipe of
      go true w = absurd cc
      go false w = each (record s { base = Some k; vsp = pos 0 }) (record { vsp = refl; quads = h.quads; sp = h.sp; base = t }) w
  neat_after more s Refuses t h is each = absurd cc
  neat_after more s Finishes t h is each = let same : recipe_of s ≡ of = cc in subst IsNeatRecipe same (ended_neat s h)

  neat : (items : List Item) → AreTame items → Neat items
  neat [] t s h is = let same : recipe_of s ≡ of = cc in subst IsNeatRecipe same (ended_neat s h)
  neat (Bad place ∷ more) t s h is = absurd cc
  neat (Is code ∷ more) t s h is = neat_after more s (effect code) t.0 h is (neat more t.1)

pub neat_recipe : (items : List Item) (of : Recipe) → AreTame items → recipe items ≡ Ok of → IsNeatRecipe of
unfolding recipe
neat_recipe items of t is = neat of items t empty_recipe
    (record { vsp = refl; quads = λ k. subst QuadSource (sym (get_or-replicate 16 k)) tt; sp = refl; base = omega arith }) is

-- ---- all of it

pub codes_are : (codes : List ℕ) (of : Recipe) → Bytes codes → recipe (split_codes codes) ≡ Ok of → pop_once (split_codes codes) ≡ true → IsRecipe (split_codes codes) of
unfolding pop_once
codes_are codes of b is once =
    let tame = codes_tame codes b in
    let n = neat_recipe (split_codes codes) of tame is in
    record {
      is = is;
      once = once_is (popped_registers (split_codes codes)) once;
      low = popped_low (split_codes codes) tame;
      sp = n.sp;
      base = n.base;
      from_sp = λ k o e. subst QuadSource e (n.quads k);
      from_base = λ k o e. subst QuadSource e (n.quads k);
      vsp = n.vsp;
    }
