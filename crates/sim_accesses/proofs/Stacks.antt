-- sp moved by a known amount: ADD and SUB of a number, and MOV from a register that is known to hold a place of the frame.
use Rattle.std.proofs.Common.{◌≡◌, ℕ, zero, suc, ◌≤◌, ◌⊎◌, inl, inr, List, [], ◌∷◌, sym, subst, arith, ◌+◌, ◌<◌, Bool, false, length, set, get_or, ap, ◌∙◌, Option, Some, None, Ok, ◌%◌, ◌^◌, ◌==◌, ◌&&◌, min, nat_le, true, cond, refl, ℤ, pos, negsuc}
use Rattle.std.specs.Prelude.{Contains, take, option_map, ◌+ℤ◌, ◌-ℤ◌}
use Rattle.std.proofs.lemmas.Bool.{cases_eq, eqb-true, and_parts}
use Rattle.std.proofs.lemmas.List.{get_or-set_same, get_or-set_other, get_or_past}
use Rattle.std.specs.Option.{option_map_or}
use Rattle.std.proofs.lemmas.Int.{ints}
use Rattle.std.proofs.lemmas.Option.{same_Some}
use Rattle.frame_dataflow.proofs.Work.{contains_none, contains_head, contains_tail, contains_cons}
use Rattle.frame_facts.specs.declared.saves.Save.{Save}
use Rattle.eh_bus.specs.Segment.{Segment}
use Rattle.thumb_core.specs.Registers.{reg, operand, pc_operand, word_in, with_reg, with_next}
use Rattle.thumb_core.specs.declared.regs.Regs.{Regs}
use Rattle.frame_facts.specs.declared.facts.Fact.{Fact}
use Rattle.frame_facts.specs.declared.facts.Source.TheVariants.{Other, Entry, SpAt}
use Rattle.frame_facts.specs.declared.saves.Prologue.{Prologue}
use Rattle.frame_facts.specs.Facts.{source, bounded_depth, sp_plus, sp_at}
use Rattle.frame_facts.specs.Machine.{Means}
use Rattle.frame_facts.specs.Saves.{saves_of, saves_within, fact_at_depth}
use Rattle.sim_machines.specs.Activations.{Activation, Recorded, reg_in, memory_of}
use Rattle.frame_facts.specs.After.{effect_result, after_of}
use Rattle.thumb_isa.specs.declared.instr.Instr.{Instr}
use Rattle.thumb_core.specs.Data.{forward, backward}
use Rattle.thumb_core.specs.declared.regs.TheConstants.{SP}
use Rattle.thumb_core.specs.declared.regs.Stepped.TheVariants.{Done}
use Rattle.frame_facts.specs.declared.facts.TheConstants.{DEEPEST}
use Rattle.frame_facts.specs.declared.facts.Source.{Source}
use Rattle.frame_facts.specs.Data.{copy_source, set_sp}
use Rattle.frame_code.specs.declared.standing.Standing.TheVariants.{Instruction}
use Rattle.frame_graph.specs.Places.{address_of, standing_at}
use Rattle.frame_check.specs.Accepts.{Accepted}
use Rattle.frame_check.specs.Roots.{flow_graph_of}
use Rattle.frame_check.specs.Roles.{look}
use Rattle.sim_machines.specs.Machine.{is_raised}
use Rattle.thumb_isa.specs.declared.instr.Instr.TheVariants.{AddSp, SubSp, MovHigh}
use Rattle.sim_relation.specs.Holds.{Holds, AreKept}
use Rattle.sim_prologue.proofs.Ordered.{AreOrdered, few_within, range_down, are_ordered, within_pos}
use Rattle.sim_relation.specs.Chain.{code, StandsAt}
use Rattle.sim_relation.specs.Stands.{Keeps, IsProgram, DoesAt, Turns}
use Rattle.sim_accesses.proofs.Accesses.{pc_after, top}
use Rattle.sim_relation.proofs.SpTests.{not_raised, lowers_by_role}
use Rattle.sim_relation.proofs.Onward.{IsOn, on_turns}
use Rattle.sim_prologue.specs.sim_code.Bounds.{AreInRange}
use Rattle.sim_accesses.specs.Events.{IsStack}

-- ---- what a fact says where sp lies at another depth

take_more : (j k : ℕ) (xs : List Save) (v : Save) → j ≤ k → Contains (take j xs) v → Contains (take k xs) v
take_more zero k xs v l h = absurd (contains_none v h)
take_more (suc j) k [] v l h = absurd (contains_none v h)
take_more (suc j) zero (y ∷ more) v l h = absurd (omega (arith, l))
take_more (suc j) (suc k) (y ∷ more) v l h = go (contains_cons v y (take j more) h) (λ d. take_more j k more v (omega (arith, l)) d)
  where
    go : (v ≡ y) ⊎ Contains (take j more) v → (Contains (take j more) v → Contains (take k more) v) → Contains (y ∷ take k more) v
    go (inl e) later = subst (λ z. Contains (y ∷ take k more) z) (sym e) (contains_head y (take k more))
    go (inr d) later = contains_tail v y (take k more) (later d)

-- sp is written: what was known of the other registers is known, with this depth and these saves
sp_written : (p : Prologue) (f : Fact) (a : Activation) (segments : List Segment) (regs new : Regs) (d kept w : ℕ) (below : Bool) (h : Holds p f a segments regs) → length regs.r ≡ 15
    → new.r ≡ set regs.r 13 w → w + d ≤ a.caller.sp → (below ≡ false → w + d ≡ a.caller.sp)
    → AreKept segments a p (let g : Fact = record { depth = d; below = below; kept = kept; regs = f.regs } in g)
    → Holds p (let g : Fact = record { depth = d; below = below; kept = kept; regs = f.regs } in g) a segments new
sp_written p f a segments regs new d kept w below h count is lower exact saves = record {
  entry = h.entry;
  saved = h.saved;
  link = h.link;
  describes = record {
    long = h.describes.long;
    sources = λ k. elim (cases_eq k 13) [
      | inl e ↦ subst (λ s. Means h.entry a.caller.sp s (reg new k)) (sym (sp_other k e)) tt
      | inr n ↦ subst (λ v. Means h.entry a.caller.sp (source f k) v) (sym (other k n)) (h.describes.sources k)
    ];
    sp = λ b. ap (λ v. v + d) new_sp ∙ exact b;
  };
  lower = omega (arith, new_sp, lower);
  saves = saves;
}
  where
    sp_other : (k : ℕ) → k ≡ 13 → source f k ≡ Other
    sp_other k e = ap (source f) e ∙ get_or_past f.regs 14 Other (let l : length f.regs ≤ 14 = omega (arith, h.describes.long) in l)

    new_sp : reg new 13 ≡ w
    new_sp = ap (λ r. get_or r 13 0) is ∙ get_or-set_same regs.r 13 w 0 (let l : 13 < length regs.r = omega (arith, count) in l)

    other : (k : ℕ) → (k ≡ 13 → ⊥) → reg new k ≡ reg regs k
    other k n = ap (λ r. get_or r k 0) is ∙ get_or-set_other regs.r 13 k w 0 n

pub sp_holds : (p : Prologue) (f : Fact) (a : Activation) (segments : List Segment) (regs new : Regs) (d kept w : ℕ) (below : Bool) (h : Holds p f a segments regs) → AreOrdered p → length regs.r ≡ 15
    → new.r ≡ set regs.r 13 w → w + d ≤ a.caller.sp → (below ≡ false → w + d ≡ a.caller.sp) → kept ≤ f.kept → kept ≤ saves_within p d
    → Holds p (let g : Fact = record { depth = d; below = below; kept = kept; regs = f.regs } in g) a segments new
sp_holds p f a segments regs new d kept w below h order count is lower exact fewer below_depth =
    sp_written p f a segments regs new d kept w below h count is lower exact
    (λ v c. let k = h.saves v (take_more kept f.kept (saves_of p) v fewer c) in
    record { low = k.low; deep = few_within d 0 order.0 kept (saves_of p) v order.1 below_depth c; holds = k.holds; slot = k.slot })

-- sp comes to lie at or below where it was: the depth is at least as before, and the saves are as before
lowered_holds : (p : Prologue) (f : Fact) (a : Activation) (segments : List Segment) (regs new : Regs) (w : ℕ) → Holds p f a segments regs → length regs.r ≡ 15 → new.r ≡ set regs.r 13 w
    → w ≤ reg regs 13 → Holds p (let g : Fact = record f { below = true } in g) a segments new
lowered_holds p f a segments regs new w h count is low =
    sp_written p f a segments regs new f.depth f.kept w true h count is (let lower = h.lower in omega (arith, lower, low)) (λ b. absurd cc) h.saves

gone : (o : Option Fact) (g : Fact) → effect_result None o ≡ Ok g → o ≡ Some g
gone None g e = absurd cc
gone (Some f) g e = let same : f ≡ g = cc in ap (λ (h : Fact). Some h) same

module _ (x : Accepted) (is : IsProgram x) (ranges : AreInRange x) (s : Recorded) (k : Keeps x s) (at : StandsAt x s.first s.segments s.regs s.regs.pc) (i : Instr) (size : ℕ)
    (stands : standing_at (flow_graph_of x.image at.function) at.place ≡ Instruction i size) where
  abbrev f : Fact
  f = at.fact

  abbrev P : Prologue
  P = (code x at.function at.marks).prologue

  abbrev lowering : Bool
  lowering = (code x at.function at.marks).lowers at.place

  abbrev place : ℕ
  place = address_of (flow_graph_of x.image at.function) at.place

  pub order : AreOrdered P
  order = are_ordered (flow_graph_of x.image at.function) at.marks (λ p j n e. range_down j (ranges at.function p j n at.of.among e))

  -- sp comes to lie at a depth, by this value
  pub moves_on : (w : ℕ) → word_in SP w % 4 ≡ 0 → ((g : Fact) → after_of P lowering place i f ≡ Ok g → Holds P g s.first s.segments (with_next size (with_reg s.regs SP w)))
      → IsOn x is s k at i size stands (Done, with_next size (with_reg s.regs SP w), memory_of s)
  moves_on w aligned holds = record { map = k.corresponds.map; pc = pc_after x is s k at i size stands; holds = λ v. holds }

  pub to_depth_holds : (w d : ℕ) → word_in SP w + d ≡ reg_in s SP + f.depth → Holds P (fact_at_depth P d f) s.first s.segments (with_next size (with_reg s.regs SP w))
  to_depth_holds w d sum =
      sp_holds P f s.first s.segments s.regs (with_next size (with_reg s.regs SP w)) d (min f.kept (saves_within P d)) (word_in SP w) f.below at.holds order k.sound.words.count refl
      (let lower = at.holds.lower in omega (arith, sum, lower)) (λ b. let sp = at.holds.describes.sp b in omega (arith, sum, sp)) (omega arith) (omega arith)

  by_within : (w : ℕ) (z : ℤ) → ((d : ℕ) → z ≡ pos d → d ≤ DEEPEST → word_in SP w + d ≡ reg_in s SP + f.depth) → (g : Fact) → effect_result None (option_map (λ d. fact_at_depth P d f) (bounded_depth z)) ≡ Ok g
      → Holds P g s.first s.segments (with_next size (with_reg s.regs SP w))
  by_within w z sum g e = go (bounded_depth z) refl e
    where
      go : (o : Option ℕ) → bounded_depth z ≡ o → effect_result None (option_map (λ d. fact_at_depth P d f) o) ≡ Ok g → Holds P g s.first s.segments (with_next size (with_reg s.regs SP w))
      go None h e = absurd cc
      go (Some d) h e =
          let v = within_pos z d h in
          let same : fact_at_depth P d f ≡ g = same_Some (fact_at_depth P d f) g (gone (Some (fact_at_depth P d f)) g e) in
          subst (λ y. Holds P y s.first s.segments (with_next size (with_reg s.regs SP w))) same (to_depth_holds w d (sum d v.0 v.1))

  bounds : (reg_in s SP + f.depth < 2 ^ 32) × (DEEPEST ≤ reg_in s SP) × (reg_in s SP % 4 ≡ 0) × (reg_in s SP < 2 ^ 32)
  bounds =
      let home = k.corresponds.map.home in
      let t = top x is s k at i size stands in
      let lower = at.holds.lower in
      (omega (arith, t, lower), omega (arith, home.low, k.low), k.sound.words.aligned, k.sound.words.small SP)

  -- ADD to sp
  add_holds : (n : ℕ) → n < 512 → n % 4 ≡ 0 → (g : Fact) → effect_result None (option_map (λ d. fact_at_depth P d f) (bounded_depth (pos f.depth -ℤ pos n))) ≡ Ok g
      → Holds P g s.first s.segments (with_next size (with_reg s.regs SP (forward (reg_in s SP) (pos n))))
  add_holds n low quad g e =
      by_within (forward (reg_in s SP) (pos n)) (pos f.depth -ℤ pos n)
      (λ d z deep. let b = bounds in let sum : d + n ≡ f.depth = omega (arith, ints, z) in omega (arith, b.0, b.2, b.3, sum, low, quad)) g e

  -- SUB from sp
  sub_holds : (n : ℕ) → n < 512 → n % 4 ≡ 0 → (g : Fact) → effect_result None (option_map (λ d. fact_at_depth P d f) (bounded_depth (pos f.depth +ℤ pos n))) ≡ Ok g
      → Holds P g s.first s.segments (with_next size (with_reg s.regs SP (backward (reg_in s SP) (pos n))))
  sub_holds n low quad g e =
      by_within (backward (reg_in s SP) (pos n)) (pos f.depth +ℤ pos n)
      (λ d z deep. let b = bounds in let sum : d ≡ f.depth + n = omega (arith, ints, z) in omega (arith, b.1, b.2, b.3, sum, low, quad, deep)) g e

  -- MOV of a register that holds a place of the frame
  module _ (m : ℕ) where
    copy_means : Means at.holds.entry s.first.caller.sp (copy_source m f) (operand s.regs m)
    copy_means = go (m == 13) refl (m == 15) refl
      where
        by_sp : (b : Bool) → f.below ≡ b → reg_in s SP + f.depth ≡ reg_in s SP + f.depth → Means at.holds.entry s.first.caller.sp (cond b Other (sp_at (pos f.depth -ℤ pos 0))) (reg_in s SP)
        by_sp true e r = tt
        by_sp false e r = by_depth (bounded_depth (pos f.depth -ℤ pos 0)) refl
          where
            by_depth : (o : Option ℕ) → bounded_depth (pos f.depth -ℤ pos 0) ≡ o → Means at.holds.entry s.first.caller.sp (option_map_or SpAt o Other) (reg_in s SP)
            by_depth None h = tt
            by_depth (Some d) h = let v = within_pos (pos f.depth -ℤ pos 0) d h in let sum : d ≡ f.depth = omega (arith, ints, v.0) in let sp = at.holds.describes.sp e in omega (arith, sum, sp)

        go : (a : Bool) → (m == 13) ≡ a → (b : Bool) → (m == 15) ≡ b → Means at.holds.entry s.first.caller.sp (cond a (sp_plus f (pos 0)) (source f m)) (cond b (pc_operand s.regs) (reg s.regs m))
        go true p true q = absurd (omega (arith, eqb-true m 13 p, eqb-true m 15 q))
        go true p false q = subst (λ n. Means at.holds.entry s.first.caller.sp (sp_plus f (pos 0)) (reg s.regs n)) (sym (eqb-true m 13 p)) (by_sp f.below refl refl)
        go false p true q = subst (λ t. Means at.holds.entry s.first.caller.sp t (pc_operand s.regs))
            (sym (ap (source f) (eqb-true m 15 q) ∙ get_or_past f.regs 14 Other (let l : length f.regs ≤ 14 = omega (arith, at.holds.describes.long) in l))) tt
        go false p false q = at.holds.describes.sources m

    mov_holds : (g : Fact) → effect_result None (set_sp P (copy_source m f) f) ≡ Ok g → Holds P g s.first s.segments (with_next size (with_reg s.regs SP (operand s.regs m)))
    mov_holds g e = by_source (copy_source m f) copy_means e
      where
        set_at : (n : ℕ) → operand s.regs m + n ≡ s.first.caller.sp → (b : Bool) → ((n % 4 == 0) && nat_le n f.depth) ≡ b
            → effect_result None (cond b (Some (let y : Fact = record (fact_at_depth P n f) { below = false } in y)) None) ≡ Ok g → Holds P g s.first s.segments (with_next size (with_reg s.regs SP (operand s.regs m)))
        set_at n sum false t h = absurd cc
        set_at n sum true t h =
            let two = and_parts (n % 4 == 0) (nat_le n f.depth) t in
            let quad = eqb-true (n % 4) 0 two.0 in
            let same : (let y : Fact = record (fact_at_depth P n f) { below = false } in y) ≡ g =
            same_Some (let y : Fact = record (fact_at_depth P n f) { below = false } in y) g (gone (Some (let y : Fact = record (fact_at_depth P n f) { below = false } in y)) g h) in
            let high = top x is s k at i size stands in
            let even = k.whole.aligned in
            let word : word_in SP (operand s.regs m) + n ≡ s.first.caller.sp = omega (arith, sum, high, even, quad) in
            subst (λ y. Holds P y s.first s.segments (with_next size (with_reg s.regs SP (operand s.regs m)))) same
            (sp_holds P f s.first s.segments s.regs (with_next size (with_reg s.regs SP (operand s.regs m))) n (min f.kept (saves_within P n)) (word_in SP (operand s.regs m)) false at.holds order k.sound.words.count refl
            (omega (arith, word)) (λ b. word) (omega arith) (omega arith))

        by_source : (t : Source) → Means at.holds.entry s.first.caller.sp t (operand s.regs m) → effect_result None (set_sp P t f) ≡ Ok g → Holds P g s.first s.segments (with_next size (with_reg s.regs SP (operand s.regs m)))
        by_source (SpAt n) means h = set_at n means ((n % 4 == 0) && nat_le n f.depth) refl h
        by_source (Entry n) means h = absurd cc
        by_source Other means h = absurd cc

    -- into sp: at a lowering place sp falls or stays, and elsewhere it is set to a place of the frame
    mov_any : (b : Bool) → lowering ≡ b → is_raised (look x.roles s.regs.pc).lowers (reg_in s SP) (reg (with_next size (with_reg s.regs SP (operand s.regs m))) SP) ≡ false → (g : Fact)
        → effect_result None (cond b (Some (let y : Fact = record f { below = true } in y)) (set_sp P (copy_source m f) f)) ≡ Ok g → Holds P g s.first s.segments (with_next size (with_reg s.regs SP (operand s.regs m)))
    mov_any true e passed g h =
        let role = lowers_by_role x is s.first.function at.function at.marks at.place s.regs.pc at.of at.address e in
        let new = with_next size (with_reg s.regs SP (operand s.regs m)) in
        let is_word : reg new SP ≡ word_in SP (operand s.regs m) =
        get_or-set_same s.regs.r 13 (word_in SP (operand s.regs m)) 0 (let l : 13 < length s.regs.r = omega (arith, k.sound.words.count) in l) in
        let low = not_raised (look x.roles s.regs.pc).lowers (reg_in s SP) (reg new SP) role passed in
        let same : (let y : Fact = record f { below = true } in y) ≡ g =
        same_Some (let y : Fact = record f { below = true } in y) g (gone (Some (let y : Fact = record f { below = true } in y)) g h) in
        subst (λ y. Holds P y s.first s.segments (with_next size (with_reg s.regs SP (operand s.regs m)))) same
        (lowered_holds P f s.first s.segments s.regs (with_next size (with_reg s.regs SP (operand s.regs m))) (word_in SP (operand s.regs m)) at.holds k.sound.words.count refl (omega (arith, low, is_word)))
    mov_any false e passed g h = mov_holds g h

-- ---- whole

pub stack_turns : (x : Accepted) (s : Recorded) (i : Instr) (input : List ℕ) → IsProgram x → AreInRange x → Keeps x s → DoesAt x s i → IsStack i → Turns x s input
stack_turns x s (AddSp (negsuc n)) input is ranges k does what = absurd (ranges does.at.function does.at.place (AddSp (negsuc n)) does.size does.at.of.among does.stands)
stack_turns x s (AddSp (pos n)) input is ranges k does what =
    let r = ranges does.at.function does.at.place (AddSp (pos n)) does.size does.at.of.among does.stands in
    on_turns x is s k does.at (AddSp (pos n)) does.size does.stands refl refl refl refl input
    (record { map = k.corresponds.map; pc = pc_after x is s k does.at (AddSp (pos n)) does.size does.stands; holds = λ v. add_holds x is ranges s k does.at (AddSp (pos n)) does.size does.stands n r.0 r.1 }) does.reached
stack_turns x s (SubSp (negsuc n)) input is ranges k does what = absurd (ranges does.at.function does.at.place (SubSp (negsuc n)) does.size does.at.of.among does.stands)
stack_turns x s (SubSp (pos n)) input is ranges k does what =
    let r = ranges does.at.function does.at.place (SubSp (pos n)) does.size does.at.of.among does.stands in
    on_turns x is s k does.at (SubSp (pos n)) does.size does.stands refl refl refl refl input
    (record { map = k.corresponds.map; pc = pc_after x is s k does.at (SubSp (pos n)) does.size does.stands; holds = λ v. sub_holds x is ranges s k does.at (SubSp (pos n)) does.size does.stands n r.0 r.1 }) does.reached
stack_turns x s (MovHigh d m) input is ranges k does what = go d what does
  where
    go : (e : ℕ) → e ≡ 13 → DoesAt x s (MovHigh e m) → Turns x s input
    go e same at_e = to_sp (subst (λ n. DoesAt x s (MovHigh n m)) same at_e)
      where
        to_sp : DoesAt x s (MovHigh 13 m) → Turns x s input
        to_sp at = on_turns x is s k at.at (MovHigh 13 m) at.size at.stands refl refl refl refl input
            (record { map = k.corresponds.map; pc = pc_after x is s k at.at (MovHigh 13 m) at.size at.stands; holds = mov_any x is ranges s k at.at (MovHigh 13 m) at.size at.stands m ((code x at.at.function at.at.marks).lowers at.at.place) refl }) at.reached
stack_turns x s i input is ranges k does what = absurd what
