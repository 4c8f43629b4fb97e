-- Places of a frame by how far they lie below the CFA; and what a kept save's word is known to hold.
use Rattle.std.proofs.Common.{◌≡◌, true, arith, ℤ, ℕ, ◌<◌, ◌≤◌, ◌+◌, ◌-◌, ◌^◌, pos, negsuc, ◌&&◌, cond, Bool, false, List, [], ◌∷◌, Some, refl, subst, ◌⊎◌, inl, inr, None, ap, take, Option, zero, suc, ◌||◌, not}
use Rattle.std.specs.Prelude.{◌≤ℤ◌, int_le, ◌+ℤ◌, ◌-ℤ◌, Contains, find, Ok}
use Rattle.std.proofs.lemmas.Int.{ints}
use Rattle.std.proofs.lemmas.Bool.{and_parts, eqb-true}
use Rattle.std.proofs.lemmas.Option.{same_Some, none-some}
use Rattle.std.specs.Option.{option_map_or}
use Rattle.eh_word.specs.Words.{plus_offset}
use Rattle.frame_dataflow.proofs.Work.{contains_head, contains_tail}
use Rattle.frame_facts.specs.declared.saves.Save.{Save}
use Rattle.eh_bus.specs.Lists.{Has}
use Rattle.frame_facts.specs.declared.facts.Source.{Source}
use Rattle.frame_facts.specs.declared.facts.Source.TheVariants.{Entry, SpAt, Other}
use Rattle.frame_facts.specs.Facts.{is_entry}
use Rattle.frame_facts.specs.declared.facts.Fact.{Fact}
use Rattle.frame_facts.specs.declared.saves.Prologue.{Prologue}
use Rattle.frame_facts.specs.Saves.{saves_of, lies_at}
use Rattle.frame_facts.specs.Agrees.{word_from, recipe_source, agreement_by}
use Rattle.thumb_core.specs.Words.{numbers}

-- ---- places

int_le_true : (a b : ℤ) → int_le a b ≡ true → a ≤ℤ b
int_le_true a b e = grind (arith, ints)

-- a word at an offset from a place that lies so many bytes below the CFA
pub moved_below : (b at x cfa : ℕ) (o : ℤ) → b + at ≡ cfa → pos x +ℤ o ≡ pos at → x ≤ cfa → cfa < 2 ^ 32 → at ≤ cfa → plus_offset b o ≡ cfa - x
moved_below b at x cfa (pos n) place e l top k = let sum : x + n ≡ at = omega (arith, ints, e) in grind (arith, ints, place, sum, l, top)
moved_below b at x cfa (negsuc n) place e l top k = let sum : x ≡ at + (n + 1) = omega (arith, ints, e) in grind (arith, ints, place, sum, l, top)

-- the CFA itself
pub moved_to_cfa : (b at cfa : ℕ) (v : ℤ) → b + at ≡ cfa → v ≡ pos at → cfa < 2 ^ 32 → plus_offset b v ≡ cfa
moved_to_cfa b at cfa (pos n) place e top = let same : n ≡ at = omega (arith, ints, e) in grind (arith, ints, place, same, top)
moved_to_cfa b at cfa (negsuc n) place e top = absurd (omega (arith, ints, e))

-- how far below the CFA a word lies that stands at an offset from a place
pub far_below : (at d : ℕ) (o : ℤ) → (int_le (pos 4) (pos at -ℤ o) && int_le (pos at -ℤ o) (pos d)) ≡ true → (x : ℕ) × (pos x +ℤ o ≡ pos at) × (4 ≤ x) × (x ≤ d)
far_below at d (pos n) e =
    let two = and_parts (int_le (pos 4) (pos at -ℤ pos n)) (int_le (pos at -ℤ pos n) (pos d)) e in
    (at - n, omega (arith, ints, int_le_true (pos 4) (pos at -ℤ pos n) two.0), omega (arith, ints, int_le_true (pos 4) (pos at -ℤ pos n) two.0), omega (arith, ints, int_le_true (pos 4) (pos at -ℤ pos n) two.0, int_le_true (pos at -ℤ pos n) (pos d) two.1))
far_below at d (negsuc n) e =
    let two = and_parts (int_le (pos 4) (pos at -ℤ negsuc n)) (int_le (pos at -ℤ negsuc n) (pos d)) e in
    (at + (n + 1), omega (arith, ints), omega (arith, ints, int_le_true (pos 4) (pos at -ℤ negsuc n) two.0), omega (arith, ints, int_le_true (pos at -ℤ negsuc n) (pos d) two.1))

-- ---- what was found

found_one : (q : Save → Bool) (xs : List Save) (s : Save) → find q xs ≡ Some s → Contains xs s × (q s ≡ true)
found_one q [] s e = absurd (none-some s e)
found_one q (x ∷ xs) s e = go (q x) refl e (found_one q xs s)
  where
    go : (b : Bool) → q x ≡ b → cond b (Some x) (find q xs) ≡ Some s → (find q xs ≡ Some s → Contains xs s × (q s ≡ true)) → Contains (x ∷ xs) s × (q s ≡ true)
    go true is h later = let same : x ≡ s = same_Some x s h in (subst (λ y. Contains (x ∷ xs) y) same (contains_head x xs), subst (λ y. q y ≡ true) same is)
    go false is h later = let w = later h in (contains_tail s x xs w.0, w.1)

pub none_found : (q : ℕ → Bool) (xs : List ℕ) (k : ℕ) → find q xs ≡ None → Has xs k → q k ≡ false
none_found q [] k e h = absurd h
none_found q (x ∷ xs) k e h = go (q x) refl e h (none_found q xs k)
  where
    go : (b : Bool) → q x ≡ b → cond b (Some x) (find q xs) ≡ None → (x ≡ k) ⊎ Has xs k → (find q xs ≡ None → Has xs k → q k ≡ false) → q k ≡ false
    go true is w i later = absurd cc
    go false is w (inl same) later = subst (λ n. q n ≡ false) same is
    go false is w (inr there) later = later w there

pub entry_is : (n : ℕ) (s : Source) → is_entry n s ≡ true → s ≡ Entry n
entry_is n (Entry k) e = ap Entry (eqb-true k n e)
entry_is n (SpAt k) e = absurd cc
entry_is n Other e = absurd cc

-- a word that is known to hold a register's value at the entry is a kept save of it
pub record SavedAt (p : Prologue) (f : Fact) (n : ℕ) (base : Option ℕ) (o : ℤ) : Type 0 where
  pub at : ℕ
  pub place : base ≡ Some at
  pub save : Save
  pub kept : Contains (take f.kept (saves_of p)) save
  pub reg : save.reg ≡ n
  pub offset : pos save.offset +ℤ o ≡ pos at

pub saved_at : (p : Prologue) (f : Fact) (n : ℕ) (base : Option ℕ) (o : ℤ) → is_entry n (word_from p f base o) ≡ true → SavedAt p f n base o
saved_at p f n None o e = absurd cc
saved_at p f n (Some at) o e = go (find (lies_at at o) (take f.kept (saves_of p))) refl e
  where
    go : (s : Option Save) → find (lies_at at o) (take f.kept (saves_of p)) ≡ s → is_entry n (option_map_or (λ (v : Save). Entry v.reg) s Other) ≡ true → SavedAt p f n (Some at) o
    go None is x = absurd cc
    go (Some v) is x = let w = found_one (lies_at at o) (take f.kept (saves_of p)) v is in
        record { at = at; place = refl; save = v; kept = w.0; reg = eqb-true v.reg n x; offset = grind (arith, ints, w.1) }

pub in_numbers : (k : ℕ) → k < 16 → Has numbers k
in_numbers zero h = inl refl
in_numbers (suc zero) h = inr (inl refl)
in_numbers (suc (suc zero)) h = inr (inr (inl refl))
in_numbers (suc (suc (suc zero))) h = inr (inr (inr (inl refl)))
in_numbers (suc (suc (suc (suc zero)))) h = inr (inr (inr (inr (inl refl))))
in_numbers (suc (suc (suc (suc (suc zero))))) h = inr (inr (inr (inr (inr (inl refl)))))
in_numbers (suc (suc (suc (suc (suc (suc zero)))))) h = inr (inr (inr (inr (inr (inr (inl refl))))))
in_numbers (suc (suc (suc (suc (suc (suc (suc zero))))))) h = inr (inr (inr (inr (inr (inr (inr (inl refl)))))))
in_numbers (suc (suc (suc (suc (suc (suc (suc (suc zero)))))))) h = inr (inr (inr (inr (inr (inr (inr (inr (inl refl))))))))
in_numbers (suc (suc (suc (suc (suc (suc (suc (suc (suc zero))))))))) h = inr (inr (inr (inr (inr (inr (inr (inr (inr (inl refl)))))))))
in_numbers (suc (suc (suc (suc (suc (suc (suc (suc (suc (suc zero)))))))))) h = inr (inr (inr (inr (inr (inr (inr (inr (inr (inr (inl refl))))))))))
in_numbers (suc (suc (suc (suc (suc (suc (suc (suc (suc (suc (suc zero))))))))))) h = inr (inr (inr (inr (inr (inr (inr (inr (inr (inr (inr (inl refl)))))))))))
in_numbers (suc (suc (suc (suc (suc (suc (suc (suc (suc (suc (suc (suc zero)))))))))))) h = inr (inr (inr (inr (inr (inr (inr (inr (inr (inr (inr (inr (inl refl))))))))))))
in_numbers (suc (suc (suc (suc (suc (suc (suc (suc (suc (suc (suc (suc (suc zero))))))))))))) h = inr (inr (inr (inr (inr (inr (inr (inr (inr (inr (inr (inr (inr (inl refl)))))))))))))
in_numbers (suc (suc (suc (suc (suc (suc (suc (suc (suc (suc (suc (suc (suc (suc zero)))))))))))))) h = inr (inr (inr (inr (inr (inr (inr (inr (inr (inr (inr (inr (inr (inr (inl refl))))))))))))))
in_numbers (suc (suc (suc (suc (suc (suc (suc (suc (suc (suc (suc (suc (suc (suc (suc zero))))))))))))))) h = inr (inr (inr (inr (inr (inr (inr (inr (inr (inr (inr (inr (inr (inr (inr (inl refl)))))))))))))))
in_numbers (suc (suc (suc (suc (suc (suc (suc (suc (suc (suc (suc (suc (suc (suc (suc (suc k)))))))))))))))) h = absurd (omega (arith, h))

pub agrees_so : (recipe_source : Option ℕ) (lost : Bool) (base : ℕ) → agreement_by recipe_source lost base ≡ Ok tt → (recipe_source ≡ None) × (lost ≡ false)
agrees_so (Some k) lost base e = absurd cc
agrees_so None true base e = absurd cc
agrees_so None false base e = (refl, refl)

pub not_failing : (a b c : Bool) → (a || (not b && not c)) ≡ false → b ≡ false → c ≡ true
not_failing true b c e f = absurd cc
not_failing false true c e f = absurd cc
not_failing false false true e f = refl
not_failing false false false e f = absurd cc
