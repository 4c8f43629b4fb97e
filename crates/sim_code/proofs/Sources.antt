-- What a recipe says of a register is what unwinding by its codes gives it: its own value, or the word at an offset from the stack pointer or
-- from the base's old value.
use Rattle.std.proofs.Common.{◌≡◌, ℕ, List, Option, Some, None, ◌+◌, ◌%◌, ◌^◌, arith, ℤ, pos, ◌<◌, refl, [], ◌∷◌, length, ◌∙◌, ap, sym, subst, inl, inr, Bool, not, ◌==◌, ◌||◌, true, false}
use Rattle.std.specs.Prelude.{slice_index, unwrap_or, ◌+ℤ◌, ◌-ℤ◌, ◌≤ℤ◌, slice_index_or, Ok, is_some, Result, Err, slice_set}
use Rattle.std.specs.Int.{w32, cast_unsigned}
use Rattle.std.proofs.lemmas.Int.{ints}
use Rattle.std.proofs.lemmas.Bool.{cases_eq}
use Rattle.std.proofs.lemmas.List.{get_or-set_same, get_or-set_other, length-set}
use Rattle.std.proofs.lemmas.Bool.Decides.{nat_tests}
use Rattle.std.specs.List.{list_any}
use Rattle.eh_bus.specs.Segment.{Segment}
use Rattle.eh_bytecode.specs.declared.recipe.Src.{Src}
use Rattle.eh_bytecode.specs.declared.recipe.Src.TheVariants.{Same, FromSp, FromBase}
use Rattle.eh_word.specs.Words.{plus_offset}
use Rattle.eh_bus.specs.Memory.{load_number}
use Rattle.thumb_core.specs.Registers.{word_in, write_register}
use Rattle.eh_bytecode.specs.Recipe.{word_source, fill_sources, is_same}
use Rattle.eh_bus.specs.declared.fault.BusFault.{BusFault}
use Rattle.thumb_core.specs.Words.{load_words, ◌>>=◌}
use Rattle.eh_bytecode.specs.RecipeLaw.{loads_at}
use Rattle.sim_code.specs.Recipes.{HoldsWord, Says}

-- with the base that was taken so far, if one was
abbrev pub Meant : List Segment → List ℕ → Option ℕ → ℕ → Src → ℕ → Type 0
Meant m old base k Same v = v ≡ slice_index old k
Meant m old base k (FromSp o) v = HoldsWord m (slice_index old 13) o k v
Meant m old None k (FromBase o) v = ⊥
Meant m old (Some b) k (FromBase o) v = HoldsWord m (slice_index old b) o k v

pub says : (m : List Segment) (old : List ℕ) (o : Option ℕ) (k : ℕ) (s : Src) (v : ℕ) → Meant m old o k s v → Says m old (unwrap_or o 13) k s v
says m old o k Same v h = h
says m old o k (FromSp off) v h = h
says m old None k (FromBase off) v h = absurd h
says m old (Some b) k (FromBase off) v h = h

-- what is meant doesn't change where a base is taken
pub takes_meant : (m : List Segment) (old : List ℕ) (b k : ℕ) (s : Src) (v : ℕ) → Meant m old None k s v → Meant m old (Some b) k s v
takes_meant m old b k Same v h = h
takes_meant m old b k (FromSp off) v h = h
takes_meant m old b k (FromBase off) v h = absurd h

-- ---- pops

pub same_place : (b j : ℕ) (off : ℤ) → (pos 0 -ℤ pos 65536) ≤ℤ off → (plus_offset b off + j) % 2 ^ 32 ≡ (b + cast_unsigned w32 (off +ℤ pos j)) % 2 ^ 32
same_place b j off low = grind (arith, ints)

AllMeant : List Segment → List ℕ → Option ℕ → List Src → List ℕ → Type 0
AllMeant m old base src r = (k : ℕ) → k < 16 → Meant m old base k (slice_index_or src k Same) (slice_index r k)

-- ..
base_value : List ℕ → Option ℕ → ℕ
base_value old base = slice_index old (unwrap_or base 13)

from_meant : (m : List Segment) (old : List ℕ) (base : Option ℕ) (off : ℤ) (k x : ℕ) → load_number 4 m ((slice_index old (unwrap_or base 13) + cast_unsigned w32 off) % 2 ^ 32) ≡ Ok x
    → Meant m old base k (word_source (is_some base) off) (word_in k x)
from_meant m old None off k x e = (x, e, refl)
from_meant m old (Some b) off k x e = (x, e, refl)

module _ (m : List Segment) (old : List ℕ) (base : Option ℕ) where
  set_meant : (src : List Src) (r : List ℕ) (j x : ℕ) (off : ℤ) → length src ≡ 16 → length r ≡ 16 → load_number 4 m ((slice_index old (unwrap_or base 13) + cast_unsigned w32 off) % 2 ^ 32) ≡ Ok x
      → ((k : ℕ) → k < 16 → Meant m old base k (slice_index_or src k Same) (slice_index r k))
      → (k : ℕ) → k < 16 → Meant m old base k (slice_index_or (slice_set src j (word_source (is_some base) off)) k Same) (slice_index (write_register r j x) k)
  set_meant src r j x off sources wide e h k l = elim (cases_eq k j) [
    | inl same ↦ subst (λ n. Meant m old base n (slice_index_or (slice_set src j (word_source (is_some base) off)) n Same) (slice_index (write_register r j x) n)) (sym same)
        (subst (λ (s : Src). Meant m old base j s (slice_index (write_register r j x) j)) (sym (get_or-set_same src j (word_source (is_some base) off) Same (let t : j < length src = omega (arith, same, l, sources) in t)))
        (subst (λ v. Meant m old base j (word_source (is_some base) off) v) (sym (get_or-set_same r j (word_in j x) 0 (let t : j < length r = omega (arith, same, l, wide) in t))) (from_meant m old base off j x e)))
    | inr other ↦ subst (λ (s : Src). Meant m old base k s (slice_index (write_register r j x) k)) (sym (get_or-set_other src j k (word_source (is_some base) off) Same other))
        (subst (λ v. Meant m old base k (slice_index_or src k Same) v) (sym (get_or-set_other r j k (word_in j x) 0 other)) (h k l))
  ]

  pub record Filled (src : List Src) (new : List ℕ) : Type 0 where
    pub sources : length src ≡ 16
    pub wide : length new ≡ 16
    pub meant : (k : ℕ) → k < 16 → Meant m old base k (slice_index_or src k Same) (slice_index new k)

  pub fill : (registers : List ℕ) (off : ℤ) (src : List Src) (r new : List ℕ) → length src ≡ 16 → length r ≡ 16
      → ((k : ℕ) → k < 16 → Meant m old base k (slice_index_or src k Same) (slice_index r k))
      → load_words m (slice_index old (unwrap_or base 13)) (loads_at off registers) r ≡ Ok new → Filled (fill_sources (is_some base) off registers src) new
  fill [] off src r new sources wide h e = let same : r ≡ new = cc in
      record { sources = sources; wide = sym (ap length same) ∙ wide; meant = subst (λ (n : List ℕ). (k : ℕ) → k < 16 → Meant m old base k (slice_index_or src k Same) (slice_index n k)) same h }
  fill (j ∷ more) off src r new sources wide h e =
      go (load_number 4 m ((slice_index old (unwrap_or base 13) + cast_unsigned w32 off) % 2 ^ 32)) refl e (λ x w. fill more (off +ℤ pos 4) (slice_set src j (word_source (is_some base) off)) (write_register r j x) new
      (length-set src j (word_source (is_some base) off) ∙ sources) (length-set r j (word_in j x) ∙ wide) w)
    where
      go : (o : Result ℕ BusFault) → load_number 4 m ((slice_index old (unwrap_or base 13) + cast_unsigned w32 off) % 2 ^ 32) ≡ o
          → (o >>= (λ x. load_words m (slice_index old (unwrap_or base 13)) (loads_at (off +ℤ pos 4) more) (write_register r j x))) ≡ Ok new
          → ((x : ℕ) → ((k : ℕ) → k < 16 → Meant m old base k (slice_index_or (slice_set src j (word_source (is_some base) off)) k Same) (slice_index (write_register r j x) k))
          → load_words m (slice_index old (unwrap_or base 13)) (loads_at (off +ℤ pos 4) more) (write_register r j x) ≡ Ok new
          → Filled (fill_sources (is_some base) (off +ℤ pos 4) more (slice_set src j (word_source (is_some base) off))) new)
          → Filled (fill_sources (is_some base) (off +ℤ pos 4) more (slice_set src j (word_source (is_some base) off))) new
      go (Err f) is i each = absurd cc
      go (Ok x) is i each = each x (set_meant src r j x off sources wide is h) i

-- pc has a source other than itself exactly where it was popped
has_other : List Src → Bool
has_other src = not (is_same (slice_index_or src 15 Same))

other_one : (src : List Src) (j : ℕ) (based : Bool) (off : ℤ) → length src ≡ 16 → not (is_same (slice_index_or (slice_set src j (word_source based off)) 15 Same)) ≡ (not (is_same (slice_index_or src 15 Same)) || (j == 15))
other_one src j based off sources = elim (cases_eq 15 j) [
  | inl same ↦ at_same same
  | inr other ↦ ap (λ (s : Src). not (is_same s)) (get_or-set_other src j 15 (word_source based off) Same other) ∙ or_false (not (is_same (slice_index_or src 15 Same))) (j == 15) (let n : (j == 15) ≡ false = grind (arith, nat_tests) in n)
]
  where
    or_false : (a b : Bool) → b ≡ false → a ≡ (a || b)
    or_false true b e = refl
    or_false false b e = sym e

    is_other : (based : Bool) (off : ℤ) → not (is_same (word_source based off)) ≡ true
    is_other true off = refl
    is_other false off = refl

    or_true : (a b : Bool) → b ≡ true → true ≡ (a || b)
    or_true true b e = refl
    or_true false b e = sym e

    at_same : 15 ≡ j → not (is_same (slice_index_or (slice_set src j (word_source based off)) 15 Same)) ≡ (not (is_same (slice_index_or src 15 Same)) || (j == 15))
    at_same e =
        ap (λ n. not (is_same (slice_index_or (slice_set src n (word_source based off)) 15 Same))) (sym e)
        ∙ ap (λ (s : Src). not (is_same s)) (get_or-set_same src 15 (word_source based off) Same (let l : 15 < length src = omega (arith, sources) in l))
        ∙ is_other based off ∙ or_true (not (is_same (slice_index_or src 15 Same))) (j == 15) (let n : (j == 15) ≡ true = grind (arith, nat_tests) in n)

pub other_filled : (registers : List ℕ) (based : Bool) (off : ℤ) (src : List Src) → length src ≡ 16
    → not (is_same (slice_index_or (fill_sources based off registers src) 15 Same)) ≡ (not (is_same (slice_index_or src 15 Same)) || list_any (λ (k : ℕ). k == 15) registers)
other_filled [] based off src sources = or_nothing (not (is_same (slice_index_or src 15 Same)))
  where
    or_nothing : (b : Bool) → b ≡ (b || false)
    or_nothing true = refl
    or_nothing false = refl
other_filled (j ∷ more) based off src sources =
    other_filled more based (off +ℤ pos 4) (slice_set src j (word_source based off)) (length-set src j (word_source based off) ∙ sources)
    ∙ ap (λ b. b || list_any (λ (k : ℕ). k == 15) more) (other_one src j based off sources) ∙ either (not (is_same (slice_index_or src 15 Same))) (j == 15) (list_any (λ (k : ℕ). k == 15) more)
  where
    either : (a b c : Bool) → ((a || b) || c) ≡ (a || (b || c))
    either true b c = refl
    either false b c = refl
