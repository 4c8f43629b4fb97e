-- A register that a resume leaves alone has one source at every site where the recipe agrees: its own value at the entry, or the place from which
-- the codes take the virtual stack pointer.
use Rattle.std.proofs.Common.{◌≡◌, ℕ, ◌<◌, Bool, true, ◌≤◌, ◌==◌, ◌&&◌, nat_le, nat_lt, false, cond, refl, ap, ◌∙◌, arith, sym, pos, Some, None, subst, ◌||◌}
use Rattle.std.specs.Prelude.{Ok, find, slice_index_or}
use Rattle.std.proofs.lemmas.Bool.{eqb-true, lt-ltb, le-leb}
use Rattle.std.specs.Option.{option_map_or}
use Rattle.std.specs.Ordering.{int_eq}
use Rattle.std.proofs.lemmas.Int.{ints}
use Rattle.thumb_core.specs.Words.{numbers}
use Rattle.eh_bytecode.specs.declared.recipe.Recipe.{Recipe}
use Rattle.frame_facts.specs.declared.facts.Fact.{Fact}
use Rattle.frame_facts.specs.declared.saves.Prologue.{Prologue}
use Rattle.frame_facts.specs.Agrees.{at_site, is_lost, gives_caller_value, has_no_room, fails_register, agreement, recipe_source, in_frame, gives_cfa, stack_place, base_at}
use Rattle.eh_bytecode.specs.declared.recipe.Src.TheVariants.{Same, FromSp, FromBase}
use Rattle.frame_facts.specs.Facts.{is_entry, source}
use Rattle.eh_bytecode.specs.declared.recipe.Src.{Src}
use Rattle.eh_bytecode.specs.Recipe.{is_same}
use Rattle.frame_facts.specs.declared.facts.Source.TheVariants.{Entry, SpAt, Other}
use Rattle.frame_facts.specs.declared.facts.Source.{Source}
use Rattle.frame_entries.specs.Unwinding.{keeps_register}
use Rattle.sim_throws.proofs.sim_frames.FramePlaces.{none_found, in_numbers, agrees_so, not_failing, entry_is}

-- a recipe that agrees gives every register
pub gives_all : (p : Prologue) (r : Recipe) (call : Bool) (f : Fact) → agreement p r call f ≡ Ok tt → (k : ℕ) → k < 16 → gives_caller_value p r (at_site call f) k ≡ true
gives_all p r call f e k l =
    let g : Fact = at_site call f in
    let w = agrees_so (find (fails_register p r call g) numbers) (is_lost r g) r.base e in
    not_failing (has_no_room call g k) (is_lost r g) (gives_caller_value p r g k) (none_found (fails_register p r call g) numbers k w.0 (in_numbers k l)) w.1

-- of r4 to r11 it gives what the fact says of their values at the entry
gives_own : (p : Prologue) (r : Recipe) (f : Fact) (k : ℕ) → 4 ≤ k → k < 12 → gives_caller_value p r f k ≡ is_entry k (recipe_source p r f k (slice_index_or r.src k Same))
gives_own p r f k low high = go (k == 13) (k == 15) (nat_le 4 k && nat_lt k 12) refl refl within
  where
    within : (nat_le 4 k && nat_lt k 12) ≡ true
    within = ap (λ (b : Bool). b && nat_lt k 12) (le-leb 4 k low) ∙ lt-ltb k 12 high

    go : (a b c : Bool) → (k == 13) ≡ a → (k == 15) ≡ b → c ≡ true
        → cond a (gives_cfa r f) (cond b (is_entry 14 (recipe_source p r f k (slice_index_or r.src k Same))) (cond c (is_entry k (recipe_source p r f k (slice_index_or r.src k Same))) (in_frame r f (slice_index_or r.src k Same))))
        ≡ is_entry k (recipe_source p r f k (slice_index_or r.src k Same))
    go true b c e d w = absurd (let t = eqb-true k 13 e in omega (arith, t, high))
    go false true c e d w = absurd (let t = eqb-true k 15 d in omega (arith, t, high))
    go false false true e d w = refl
    go false false false e d w = absurd cc

same_is : (s : Src) → is_same s ≡ true → s ≡ Same
same_is Same e = refl
same_is (FromSp o) e = absurd cc
same_is (FromBase o) e = absurd cc

-- its own value
own_value : (p : Prologue) (r : Recipe) (f : Fact) (k : ℕ) → 4 ≤ k → k < 12 → gives_caller_value p r f k ≡ true → slice_index_or r.src k Same ≡ Same → source f k ≡ Entry k
own_value p r f k low high g e =
    entry_is k (source f k)
    (sym (ap (λ (j : ℕ). is_entry k (source f j)) (low_number (k == 15) refl)) ∙ sym (ap (λ (s : Src). is_entry k (recipe_source p r f k s)) e) ∙ sym (gives_own p r f k low high) ∙ g)
  where
    low_number : (b : Bool) → (k == 15) ≡ b → cond b 14 k ≡ k
    low_number true i = absurd (let t = eqb-true k 15 i in omega (arith, t, high))
    low_number false i = refl

-- the place from which the virtual stack pointer is taken
abbrev HasPlace : Recipe → Fact → ℕ → Type 0
HasPlace r f k = (n : ℕ) × (source f k ≡ SpAt n) × (pos n ≡ r.vsp)

base_value : (r : Recipe) (f : Fact) (k : ℕ) → k < 12 → gives_cfa r f ≡ true → r.base ≡ k → HasPlace r f k
base_value r f k high g e = by_number (k == 13) refl (subst (λ (b : ℕ). option_map_or (λ n. int_eq (pos n) r.vsp) (base_at f b) false ≡ true) e g)
  where
    by_source : (s : Source) → source f k ≡ s → option_map_or (λ n. int_eq (pos n) r.vsp) (stack_place s) false ≡ true → HasPlace r f k
    by_source (SpAt n) i h = (n, i, grind (arith, ints, h))
    by_source (Entry j) i h = absurd cc
    by_source Other i h = absurd cc

    by_number : (b : Bool) → (k == 13) ≡ b → option_map_or (λ n. int_eq (pos n) r.vsp) (cond b (cond f.below None (Some f.depth)) (stack_place (source f k))) false ≡ true → HasPlace r f k
    by_number true i h = absurd (let t = eqb-true k 13 i in omega (arith, t, high))
    by_number false i h = by_source (source f k) refl h

-- So two facts with which the recipe agrees say the same of it.
pub stays_same : (p q : Prologue) (r : Recipe) (f g : Fact) (k : ℕ) → 4 ≤ k → k < 12 → ((j : ℕ) → j < 16 → gives_caller_value p r f j ≡ true) → ((j : ℕ) → j < 16 → gives_caller_value q r g j ≡ true) → keeps_register r k ≡ true
    → source f k ≡ source g k
stays_same p q r f g k low high in_f in_g e = go (r.base == k) (is_same (slice_index_or r.src k Same)) refl refl e
  where
    go : (a b : Bool) → (r.base == k) ≡ a → is_same (slice_index_or r.src k Same) ≡ b → (a || b) ≡ true → source f k ≡ source g k
    go true b i j h =
        let one = base_value r f k high (in_f 13 (omega arith)) (eqb-true r.base k i) in
        let two = base_value r g k high (in_g 13 (omega arith)) (eqb-true r.base k i) in
        let place : pos one.0 ≡ pos two.0 = one.2 ∙ sym two.2 in
        let same : one.0 ≡ two.0 = omega (arith, ints, place) in
        one.1 ∙ ap SpAt same ∙ sym two.1
    go false true i j h =
        let own = same_is (slice_index_or r.src k Same) j in
        own_value p r f k low high (in_f k (omega (arith, high))) own ∙ sym (own_value q r g k low high (in_g k (omega (arith, high))) own)
    go false false i j h = absurd cc
