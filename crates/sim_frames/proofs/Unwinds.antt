-- At a site where a recipe agrees with the fact, unwinding gives what was recorded: sp, r4 to r11 and the return address.
use Rattle.std.proofs.Common.{ℕ, ◌≡◌, ◌<◌, ◌≤◌, List, ◌+◌, ◌-◌, ◌%◌, ◌^◌, ◌==◌, ◌&&◌, ◌⊎◌, inl, inr, cond, nat_le, nat_lt, Bool, true, false, length, Option, Some, None, refl, sym, ◌∙◌, ap, subst, arith, ℤ, pos, negsuc}
use Rattle.std.specs.Prelude.{Ok, slice_index, Result, find, ◌+ℤ◌, slice_index_or}
use Rattle.std.proofs.lemmas.Int.{ints}
use Rattle.std.specs.Ordering.{int_eq}
use Rattle.std.specs.Option.{option_map_or}
use Rattle.std.proofs.lemmas.Bool.{eqb-true, cases_eq, lt-ltb, le-leb}
use Rattle.std.proofs.lemmas.Option.{same_Some}
use Rattle.eh_bus.specs.Segment.{Segment}
use Rattle.eh_codes.specs.Cut.{Item}
use Rattle.eh_bytecode.specs.Meaning.{unwind_result}
use Rattle.sim_relation.specs.sim_machines.Activations.{Caller, Activation}
use Rattle.eh_word.specs.Words.{plus_offset}
use Rattle.eh_bus.specs.Map.{AreSegments}
use Rattle.eh_bus.specs.Memory.{load_number}
use Rattle.eh_bus.specs.declared.fault.BusFault.{BusFault}
use Rattle.eh_bus.specs.declared.map.TheConstants.{STACK_START, STACK_END}
use Rattle.eh_bus.proofs.PartLaws.{stack_loads}
use Rattle.thumb_core.specs.Registers.{reg, word_in}
use Rattle.thumb_core.specs.Words.{numbers}
use Rattle.thumb_core.specs.declared.regs.Regs.{Regs}
use Rattle.eh_bytecode.specs.declared.recipe.Src.{Src}
use Rattle.eh_bytecode.specs.declared.recipe.Src.TheVariants.{Same, FromSp, FromBase}
use Rattle.eh_bytecode.specs.declared.recipe.Recipe.{Recipe}
use Rattle.eh_bytecode.specs.Recipe.{is_same}
use Rattle.eh_bytecode.specs.RecipeLaw.{Small}
use Rattle.frame_facts.specs.declared.facts.Fact.{Fact}
use Rattle.frame_facts.specs.declared.facts.Source.{Source}
use Rattle.frame_facts.specs.declared.facts.Source.TheVariants.{Entry, SpAt, Other}
use Rattle.frame_facts.specs.declared.saves.Prologue.{Prologue}
use Rattle.frame_facts.specs.Agrees.{at_site, stack_place, base_at, is_lost, word_from, recipe_source, lies_whole, in_frame, gives_cfa, gives_caller_value, has_no_room, fails_register, agreement}
use Rattle.frame_facts.specs.Facts.{source, is_entry}
use Rattle.frame_facts.specs.Machine.{Means}
use Rattle.sim_relation.specs.Holds.{recorded_register, Holds, IsWhole}
use Rattle.sim_relation.specs.sim_code.Recipes.{Says, Loadable, CanRead, IsQuad, IsRecipe}
use Rattle.sim_relation.proofs.sim_code.Folding.{recipes_say}
use Rattle.sim_relation.proofs.sim_code.Reading.{recipes_finish}
use Rattle.sim_frames.proofs.FramePlaces.{moved_below, moved_to_cfa, far_below, none_found, entry_is, saved_at, in_numbers, agrees_so, not_failing}

-- what unwinding gives
pub record GivesBack (ss : List Segment) (old : List ℕ) (items : List Item) (c : Caller) : Type 0 where
  pub new : List ℕ
  pub unwinds : unwind_result ss old items ≡ Ok new
  pub sp : slice_index new 13 ≡ c.sp
  pub saved : (k : ℕ) → 4 ≤ k → k < 12 → slice_index new k ≡ recorded_register c k
  pub pc : slice_index new 15 ≡ c.back

module _ (p : Prologue) (r : Recipe) (is_call : Bool) (f : Fact) (a : Activation) (ss : List Segment) (regs : Regs) (old : List ℕ) (items : List Item)
    (agrees : agreement p r is_call f ≡ Ok tt) (h : Holds p (at_site is_call f) a ss regs) (whole : IsWhole a.caller) (wide : length old ≡ 16) (small : Small old)
    (same : (k : ℕ) → k < 15 → slice_index old k ≡ reg regs k) (codes : IsRecipe items r) (segments : AreSegments ss) (low : STACK_START ≤ reg regs 13) (top : a.caller.sp ≤ STACK_END)
    (aligned : reg regs 13 % 4 ≡ 0) where
  abbrev g : Fact
  g = at_site is_call f

  abbrev cfa : ℕ
  cfa = a.caller.sp

  answered : (find (fails_register p r is_call g) numbers ≡ None) × (is_lost r g ≡ false)
  answered = agrees_so (find (fails_register p r is_call g) numbers) (is_lost r g) r.base agrees

  each : (k : ℕ) → k < 16 → gives_caller_value p r g k ≡ true
  each k l = not_failing (has_no_room is_call g k) (is_lost r g) (gives_caller_value p r g k) (none_found (fails_register p r is_call g) numbers k answered.0 (in_numbers k l)) answered.1

  -- the place of a base
  base_place : (b at : ℕ) → b < 15 → base_at g b ≡ Some at → slice_index old b + at ≡ cfa
  base_place b at l e = go (b == 13) refl e
    where
      sp_place : (c : Bool) → g.below ≡ c → b ≡ 13 → cond c None (Some g.depth) ≡ Some at → slice_index old b + at ≡ cfa
      sp_place true i n w = absurd cc
      sp_place false i n w = let d : g.depth ≡ at = same_Some g.depth at w in omega (arith, same b l, ap (reg regs) n, h.describes.sp i, d)

      reg_place : (s : Source) → source g b ≡ s → stack_place s ≡ Some at → slice_index old b + at ≡ cfa
      reg_place (SpAt n) i w = let m : n ≡ at = same_Some n at w in let means : reg regs b + n ≡ cfa = subst (λ (t : Source). Means h.entry cfa t (reg regs b)) i (h.describes.sources b) in omega (arith, same b l, means, m)
      reg_place (Entry n) i w = absurd cc
      reg_place Other i w = absurd cc

      go : (c : Bool) → (b == 13) ≡ c → cond c (cond g.below None (Some g.depth)) (stack_place (source g b)) ≡ Some at → slice_index old b + at ≡ cfa
      go true i w = sp_place g.below refl (eqb-true b 13 i) w
      go false i w = reg_place (source g b) refl w

  -- a word that is known to hold a register's value
  saved_word : (n b : ℕ) (o : ℤ) → b < 15 → is_entry n (word_from p g (base_at g b) o) ≡ true → load_number 4 ss (plus_offset (slice_index old b) o) ≡ Ok (recorded_register a.caller n)
  saved_word n b o l e =
      let s = saved_at p g n (base_at g b) o e in
      let kept = h.saves s.save s.kept in
      let place = base_place b s.at l s.place in
      let deep = h.lower in
      ap (load_number 4 ss) (moved_below (slice_index old b) s.at s.save.offset cfa o place s.offset (omega (arith, kept.deep, deep)) (omega (arith, top)) (omega (arith, place)))
      ∙ kept.holds ∙ ap (λ k. Ok (recorded_register a.caller k)) s.reg

  -- the base holds a place, of which the recipe's sum is the CFA
  record IsBase : Type 0 where
    pub at : ℕ
    pub is : base_at g r.base ≡ Some at
    pub sum : r.vsp ≡ pos at

  based : IsBase
  based = go (base_at g r.base) refl (each 13 (omega arith))
    where
      go : (o : Option ℕ) → base_at g r.base ≡ o → option_map_or (λ n. int_eq (pos n) r.vsp) o false ≡ true → IsBase
      go None i w = absurd cc
      go (Some n) i w = record { at = n; is = i; sum = grind (arith, ints, w) }

  -- both bases are multiples of 4
  base_aligned : slice_index old r.base % 4 ≡ 0
  base_aligned =
      let place = base_place r.base based.at codes.base based.is in
      let quad : based.at % 4 ≡ 0 = subst IsQuad based.sum codes.vsp in
      omega (arith, place, quad, whole.aligned)

  sp_aligned : slice_index old 13 % 4 ≡ 0
  sp_aligned = omega (arith, same 13 (omega arith), aligned)

  -- a word of the frame can be read
  frame_word : (b : ℕ) (o : ℤ) → b < 15 → slice_index old b % 4 ≡ 0 → IsQuad o → lies_whole g (base_at g b) o ≡ true → Loadable ss (slice_index old b) o
  frame_word b o l quad_base quad e = go (base_at g b) refl e
    where
      four : (at x : ℕ) (z : ℤ) → IsQuad z → slice_index old b + at ≡ cfa → pos x +ℤ z ≡ pos at → x ≤ cfa → (cfa - x) % 4 ≡ 0
      four at x (pos n) q place s k = let sum : x + n ≡ at = omega (arith, ints, s) in omega (arith, q, place, sum, quad_base)
      four at x (negsuc n) q place s k = let sum : x ≡ at + (n + 1) = omega (arith, ints, s) in omega (arith, q, place, sum, quad_base, k)

      go : (at : Option ℕ) → base_at g b ≡ at → lies_whole g at o ≡ true → Loadable ss (slice_index old b) o
      go None i w = absurd cc
      go (Some at) i w =
          let far = far_below at g.depth o w in
          let place = base_place b at l i in
          let within : far.0 ≤ cfa = omega (arith, far.3, h.lower) in
          let word = stack_loads ss segments (cfa - far.0) (omega (arith, far.3, h.lower, low)) (omega (arith, far.2, top, within)) (four at far.0 o quad place far.1 within) in
          (word.0, ap (load_number 4 ss) (moved_below (slice_index old b) at far.0 cfa o place far.1 within (omega (arith, top)) (omega (arith, place))) ∙ word.1)

  word_reads : (b : ℕ) (o : ℤ) → b < 15 → slice_index old b % 4 ≡ 0 → IsQuad o → ((n : ℕ) × (is_entry n (word_from p g (base_at g b) o) ≡ true)) ⊎ (lies_whole g (base_at g b) o ≡ true)
      → Loadable ss (slice_index old b) o
  word_reads b o l quad_base quad (inl (n, e)) = (recorded_register a.caller n, saved_word n b o l e)
  word_reads b o l quad_base quad (inr e) = frame_word b o l quad_base quad e

  -- what a register that isn't sp is given by a word
  by_word : (k : ℕ) (w : Source) (frame : Bool) → (k ≡ 13 → ⊥) → cond (k == 13) (gives_cfa r g) (cond (k == 15) (is_entry 14 w) (cond (nat_le 4 k && nat_lt k 12) (is_entry k w) frame)) ≡ true
      → ((n : ℕ) × (is_entry n w ≡ true)) ⊎ (frame ≡ true)
  by_word k w frame other e = go (k == 13) refl (k == 15) (nat_le 4 k && nat_lt k 12) e
    where
      go : (x : Bool) → (k == 13) ≡ x → (y z : Bool) → cond x (gives_cfa r g) (cond y (is_entry 14 w) (cond z (is_entry k w) frame)) ≡ true → ((n : ℕ) × (is_entry n w ≡ true)) ⊎ (frame ≡ true)
      go true i y z v = absurd (other (eqb-true k 13 i))
      go false i true z v = inl (14, v)
      go false i false true v = inl (k, v)
      go false i false false v = inr v

  can_read : (k : ℕ) → k < 16 → CanRead ss old r.base (slice_index_or r.src k Same)
  can_read k l = elim (cases_eq k 13) [
    | inl sp ↦ subst (CanRead ss old r.base) (sym (ap (λ n. slice_index_or r.src n Same) sp ∙ codes.sp)) tt
    | inr other ↦ go (slice_index_or r.src k Same) refl other (each k l)
  ]
    where
      go : (s : Src) → slice_index_or r.src k Same ≡ s → (k ≡ 13 → ⊥) → gives_caller_value p r g k ≡ true → CanRead ss old r.base s
      go Same i other e = tt
      go (FromSp o) i other e =
          word_reads 13 o (omega arith) sp_aligned (codes.from_sp k o i)
          (by_word k (word_from p g (base_at g 13) o) (lies_whole g (base_at g 13) o) other
          (subst (λ (s : Src). cond (k == 13) (gives_cfa r g) (cond (k == 15) (is_entry 14 (recipe_source p r g k s)) (cond (nat_le 4 k && nat_lt k 12) (is_entry k (recipe_source p r g k s)) (in_frame r g s))) ≡ true) i e))
      go (FromBase o) i other e =
          word_reads r.base o codes.base base_aligned (codes.from_base k o i)
          (by_word k (word_from p g (base_at g r.base) o) (lies_whole g (base_at g r.base) o) other
          (subst (λ (s : Src). cond (k == 13) (gives_cfa r g) (cond (k == 15) (is_entry 14 (recipe_source p r g k s)) (cond (nat_le 4 k && nat_lt k 12) (is_entry k (recipe_source p r g k s)) (in_frame r g s))) ≡ true) i e))

  small_recorded : (n : ℕ) → recorded_register a.caller n < 2 ^ 32
  small_recorded n = go (n == 14)
    where
      go : (b : Bool) → cond b a.caller.back (slice_index a.caller.saved (n - 4)) < 2 ^ 32
      go true = whole.back
      go false = whole.words (n - 4)

  same_word : (n own v w place : ℕ) (o : ℤ) → load_number 4 ss (plus_offset place o) ≡ Ok w → load_number 4 ss (plus_offset place o) ≡ Ok (recorded_register a.caller n) → v ≡ word_in own w → (own == 13) ≡ false → v ≡ recorded_register a.caller n
  same_word n own v w place o e f i plain =
      let is : w ≡ recorded_register a.caller n = same_ok w (recorded_register a.caller n) (sym e ∙ f) in
      let least = small_recorded n in
      i ∙ ap (λ b. cond b (w % 2 ^ 32 - w % 2 ^ 32 % 4) (w % 2 ^ 32)) plain ∙ (let m : w % 2 ^ 32 ≡ recorded_register a.caller n = omega (arith, is, least) in m)
    where
      same_ok : (x y : ℕ) → ◌≡◌ {A = Result ℕ BusFault} (Ok x) (Ok y) → x ≡ y
      same_ok x y q = cc

  -- a register whose source is known to be what was recorded for n is given that
  is_recorded : (n k own v : ℕ) (s : Src) → (own == 13) ≡ false → is_entry n (recipe_source p r g k s) ≡ true → (s ≡ Same → (own < 15) × (source g own ≡ recipe_source p r g k Same))
      → ((n ≡ 14) ⊎ ((4 ≤ n) × (n < 12))) → Says ss old r.base own s v → v ≡ recorded_register a.caller n
  is_recorded n k own v Same plain e at which is =
      let known : source g own ≡ Entry n = (at refl).1 ∙ entry_is n (recipe_source p r g k Same) e in
      let means : reg regs own ≡ h.entry n = subst (λ (t : Source). Means h.entry cfa t (reg regs own)) known (h.describes.sources own) in
      is ∙ same own (at refl).0 ∙ means ∙ elim which [
        | inl lr ↦ ap h.entry lr ∙ h.link ∙ sym (ap (recorded_register a.caller) lr)
        | inr w ↦ h.saved n w.0 w.1
      ]
  is_recorded n k own v (FromSp o) plain e at which (w, f, q) = same_word n own v w (slice_index old 13) o f (saved_word n 13 o (omega arith) e) q plain
  is_recorded n k own v (FromBase o) plain e at which (w, f, q) = same_word n own v w (slice_index old r.base) o f (saved_word n r.base o codes.base e) q plain

  differs : (a b : ℕ) → (a ≡ b → ⊥) → (a == b) ≡ false
  differs a b n = go (a == b) refl
    where
      go : (c : Bool) → (a == b) ≡ c → c ≡ false
      go true i = absurd (n (eqb-true a b i))
      go false i = refl

  -- which of the four questions about a register is asked
  asked : (x y z : Bool) (one two three four : Bool) → cond x one (cond y two (cond z three four)) ≡ true → x ≡ false → ((y ≡ true → two ≡ true) × (y ≡ false → z ≡ true → three ≡ true))
  asked true y z one two three four e i = absurd cc
  asked false true z one two three four e i = (λ u. e, λ u v. absurd cc)
  asked false false true one two three four e i = (λ u. absurd cc, λ u v. e)
  asked false false false one two three four e i = (λ u. absurd cc, λ u v. absurd cc)

  -- the sources of r4 to r11, and of pc, give what was recorded
  own_source : (k : ℕ) → 4 ≤ k → k < 12 → is_entry k (recipe_source p r g k (slice_index_or r.src k Same)) ≡ true
  own_source k least most =
      (asked (k == 13) (k == 15) (nat_le 4 k && nat_lt k 12) (gives_cfa r g) (is_entry 14 (recipe_source p r g k (slice_index_or r.src k Same))) (is_entry k (recipe_source p r g k (slice_index_or r.src k Same)))
      (in_frame r g (slice_index_or r.src k Same)) (each k (omega (arith, most))) (differs k 13 (λ i. absurd (omega (arith, i, most))))).1
      (differs k 15 (λ i. absurd (omega (arith, i, most)))) (ap (λ b. b && nat_lt k 12) (le-leb 4 k least) ∙ lt-ltb k 12 most)

  back_source : is_entry 14 (recipe_source p r g 15 (slice_index_or r.src 15 Same)) ≡ true
  back_source = each 15 (omega arith)

  -- what unwinding gives is what was recorded
  pub gives_back : GivesBack ss old items a.caller
  gives_back =
      let ends = recipes_finish ss old items r wide small codes.is codes.once codes.low can_read in
      let said = recipes_say ss old ends.0 items r wide small codes.is ends.1 in
      record {
        new = ends.0;
        unwinds = ends.1;
        sp = said.sp ∙ moved_to_cfa (slice_index old r.base) based.at cfa r.vsp (base_place r.base based.at codes.base based.is) based.sum (omega (arith, top));
        saved = λ k least most. is_recorded k k k (slice_index ends.0 k) (slice_index_or r.src k Same) (differs k 13 (λ i. absurd (omega (arith, i, most)))) (own_source k least most)
            (λ i. (omega (arith, most), ap (λ b. source g (cond b 14 k)) (sym (differs k 15 (λ j. absurd (omega (arith, j, most))))))) (inr (least, most))
            (said.registers k (omega (arith, most)) (λ i. absurd (omega (arith, i, most))));
        pc = of_pc (slice_index_or r.src 15 Same) refl (slice_index ends.0 15) said.pc;
      }
    where
      of_pc : (s : Src) → slice_index_or r.src 15 Same ≡ s → (v : ℕ) → Says ss old r.base (cond (is_same (slice_index_or r.src 15 Same)) 14 15) (slice_index_or r.src 15 Same) v → v ≡ a.caller.back
      of_pc s i v w = by s v (subst (λ (t : Src). is_entry 14 (recipe_source p r g 15 t) ≡ true) i back_source) (subst (λ (t : Src). Says ss old r.base (cond (is_same t) 14 15) t v) i w)
        where
          by : (s : Src) (v : ℕ) → is_entry 14 (recipe_source p r g 15 s) ≡ true → Says ss old r.base (cond (is_same s) 14 15) s v → v ≡ a.caller.back
          by Same v e w = is_recorded 14 15 14 v Same refl e (λ i. (omega arith, refl)) (inl refl) w
          by (FromSp o) v e w = is_recorded 14 15 15 v (FromSp o) refl e (λ i. absurd cc) (inl refl) w
          by (FromBase o) v e w = is_recorded 14 15 15 v (FromBase o) refl e (λ i. absurd cc) (inl refl) w
