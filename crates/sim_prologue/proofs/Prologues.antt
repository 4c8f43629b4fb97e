-- The states in a prologue are the facts of its run.
use Rattle.std.proofs.Common.{negsuc, ◌≡◌, ◌≤◌, Some, subst, cond, Bool, true, false, ℕ, List, [], ◌∷◌, refl, nat_le, None, sym, ℤ, pos, Option, ◌∙◌, ap, arith, nat_lt, ◌+◌, ◌*◌, ◌==◌, ◌&&◌, ◌||◌, not, length, ◌<◌, ◌/◌, ◌%◌, ◌^◌, inl, inr, ◌++◌, append-nil, Ok, zero, suc}
use Rattle.std.proofs.lemmas.Option.{same_Some}
use Rattle.std.specs.Prelude.{option_map, ◌+ℤ◌, Result}
use Rattle.std.proofs.lemmas.Int.{ints}
use Rattle.std.specs.Option.{option_map_or}
use Rattle.std.proofs.lemmas.Bool.{lt-ltb}
use Rattle.std.proofs.lemmas.List.{append_assoc}
use Rattle.thumb_isa.specs.declared.instr.Instr.{Instr}
use Rattle.thumb_isa.specs.declared.instr.Instr.TheVariants.{SubSp}
use Rattle.thumb_isa.specs.Nature.{Shifts, AddsThree, AddsEight, Combines, AddsToSp, NearPc, AtSum, AtOffset, AtSp, Nature, Works, Idles, Derives, AddsHigh, MovesHigh, Transfers, StoresList, LoadsList, RaisesSp, LowersSp, PushesList, PopsList, Goes, nature}
use Rattle.frame_facts.specs.declared.facts.Fact.{Fact}
use Rattle.frame_facts.specs.Facts.{forget_register, forget_registers, bounded_depth, source, with_source, IsFit}
use Rattle.frame_facts.specs.declared.facts.TheConstants.{DEEPEST}
use Rattle.frame_facts.specs.declared.saves.Prologue.{Prologue}
use Rattle.frame_facts.specs.Lists.{push_to_depth}
use Rattle.frame_facts.specs.Saves.{fact_at_depth, saves_within, stack_word, saves_of}
use Rattle.thumb_core.specs.Words.{registers_of_list}
use Rattle.frame_facts.specs.After.{nature_effect, effect, after_of, effect_result}
use Rattle.frame_facts.specs.Data.{add_sub_imm3, imm8, alu, copy_source, set_sp}
use Rattle.frame_facts.specs.Access.{mem_reg, mem_imm}
use Rattle.frame_facts.specs.Prologues.{nature_may_stand, may_stand, with_instruction, run_on}
use Rattle.frame_facts.specs.Shifts.{shift_imm}
use Rattle.frame_code.specs.declared.standing.Standing.TheVariants.{Instruction}
use Rattle.frame_graph.specs.FlowGraph.{FlowGraph}
use Rattle.frame_graph.specs.Places.{standing_at, address_of}
use Rattle.frame_facts.specs.declared.cause.FrameCause.{FrameCause}
use Rattle.frame_facts.specs.declared.saves.Save.{Save}
use Rattle.frame_facts.specs.declared.straight.Straight.{Straight}
use Rattle.frame_facts.proofs.Fitting.{after_fits, entered_fits}
use Rattle.frame_reach.specs.Marks.{Marks, AreMarks}
use Rattle.frame_reach.specs.Prologue.{places, is_led_to, line_by, line_at, lines, prologue}
use Rattle.frame_reach.specs.Laws.{IsRun, begins, takes}
use Rattle.frame_reach.proofs.Runs.{line_stands}
use Rattle.frame_reach.proofs.Stands.{stands_inside, stands_size, stands_below}
use Rattle.sim_code.specs.frame_check.Accepts.{framed_function}
use Rattle.sim_prologue.proofs.Widths.{sub_sp_falls}
use Rattle.sim_prologue.proofs.Extends.{Above, above_less, above_both, Deeper, length_saves, effect_same, plain_after, IsGood, Step, step_of_run}
use Rattle.sim_prologue.proofs.Straight.{EffectsAgree}

-- ---- in a prologue the depth never falls

-- SUB sp has an offset of 0 or more, as every instruction that is decoded
abbrev pub IsDownwards : Nature → Type 0
IsDownwards (LowersSp (negsuc n)) = ⊥
IsDownwards n = Unit {0}

abbrev pub IsDown : Instr → Type 0
IsDown i = IsDownwards (nature i)

deeper : (f h g : Fact) → f.depth ≤ h.depth → Some h ≡ Some g → f.depth ≤ g.depth
deeper f h g l e = subst (λ (x : Fact). f.depth ≤ x.depth) (same_Some h g e) l

either : (f g h : Fact) (b : Bool) → f.depth ≤ g.depth → f.depth ≤ h.depth → f.depth ≤ (cond b g h).depth
either f g h true x y = x
either f g h false x y = y

pub clobbered_depth : (regs : List ℕ) (f : Fact) → (forget_registers regs f).depth ≡ f.depth
clobbered_depth [] f = refl
clobbered_depth (r ∷ more) f = clobbered_depth more (forget_register r f)

within_is : (z : ℤ) (d n : ℕ) → bounded_depth z ≡ Some d → z ≡ pos n → d ≡ n
within_is z d n e is = go (nat_le n DEEPEST) (subst (λ y. bounded_depth y ≡ Some d) is e)
  where
    go : (b : Bool) → cond b (Some n) None ≡ Some d → d ≡ n
    go true x = sym (same_Some n d x)
    go false x = absurd cc

to_deeper : (f g : Fact) (z : ℤ) (n : ℕ) (P : ℕ → Fact) → ((d : ℕ) → (P d).depth ≡ d) → z ≡ pos n → f.depth ≤ n → option_map P (bounded_depth z) ≡ Some g → f.depth ≤ g.depth
to_deeper f g z n P is at l e = go (bounded_depth z) refl e
  where
    go : (o : Option ℕ) → bounded_depth z ≡ o → option_map P o ≡ Some g → f.depth ≤ g.depth
    go None h x = absurd cc
    go (Some d) h x = let same = within_is z d n h at in let depth : d ≡ g.depth = sym (is d) ∙ ap (λ (y : Fact). y.depth) (same_Some (P d) g x) in omega (arith, same, depth, l)

pub pushed_depth : (q : Prologue) (at : ℕ) (f : Fact) (d : ℕ) → (push_to_depth q at d f).depth ≡ d
pushed_depth q at f d = go (nat_lt at q.end)
  where
    go : (b : Bool) → (cond b (let y : Fact = record f { depth = d; kept = saves_within q d } in y) (fact_at_depth q d f)).depth ≡ d
    go true = refl
    go false = refl

nature_effect_deeper : (q : Prologue) (at : ℕ) (n : Nature) (f g : Fact) → nature_may_stand n ≡ true → IsDownwards n → nature_effect q false at n f ≡ Some g → f.depth ≤ g.depth
nature_effect_deeper q at (Derives (Shifts op d m n)) f g may down e = deeper f (shift_imm op d m n f) g (either f (with_source f d (source f m)) (forget_register d f) ((op == 0) && (n == 0)) (omega arith) (omega arith)) e
nature_effect_deeper q at (Works d) f g may down e = deeper f (forget_register d f) g (omega arith) e
nature_effect_deeper q at (Derives (AddsThree sub d n imm)) f g may down e = deeper f (add_sub_imm3 sub d n imm f) g (omega arith) e
nature_effect_deeper q at (Derives (AddsEight op d imm)) f g may down e = deeper f (imm8 op d imm f) g (either f (forget_register d f) _ (op == 0) (omega arith) (either f f _ (op == 1) (omega arith) (omega arith))) e
nature_effect_deeper q at (Derives (Combines op d m)) f g may down e = deeper f (alu op d f) g (either f f (forget_register d f) ((op == 8) || (op == 10) || (op == 11)) (omega arith) (omega arith)) e
nature_effect_deeper q at (AddsHigh d m) f g may down e = go (d == 13) e
  where
    go : (b : Bool) → cond b None (Some (forget_register d f)) ≡ Some g → f.depth ≤ g.depth
    go true x = absurd cc
    go false x = deeper f (forget_register d f) g (omega arith) x
nature_effect_deeper q at Idles f g may down e = deeper f f g (omega arith) e
nature_effect_deeper q at (MovesHigh d m) f g may down e = go (d == 13) may e
  where
    go : (b : Bool) → (not b && not (d == 15)) ≡ true → cond b (set_sp q (copy_source m f) f) (Some (with_source f d (copy_source m f))) ≡ Some g → f.depth ≤ g.depth
    go true x y = absurd cc
    go false x y = deeper f (with_source f d (copy_source m f)) g (omega arith) y
nature_effect_deeper q at (Goes b) f g may down e = absurd cc
nature_effect_deeper q at (Transfers (NearPc t off)) f g may down e = deeper f (forget_register t f) g (omega arith) e
nature_effect_deeper q at (Transfers (AtSum op t n m)) f g may down e = deeper f (mem_reg op t f) g (either f f (forget_register t f) (nat_lt op 3) (omega arith) (omega arith)) e
nature_effect_deeper q at (Transfers (AtOffset op t n off)) f g may down e = deeper f (mem_imm op t f) g (either f (forget_register t f) f ((op == 1) || (op == 3) || (op == 5)) (omega arith) (omega arith)) e
nature_effect_deeper q at (Transfers (AtSp load t off)) f g may down e = go load e
  where
    go : (b : Bool) → Some (cond b (with_source f t (stack_word q f off)) f) ≡ Some g → f.depth ≤ g.depth
    go true x = deeper f (with_source f t (stack_word q f off)) g (omega arith) x
    go false x = deeper f f g (omega arith) x
nature_effect_deeper q at (Derives (AddsToSp d off)) f g may down e = deeper f (with_source f d _) g (omega arith) e
nature_effect_deeper q at (RaisesSp off) f g may down e = absurd cc
nature_effect_deeper q at (LowersSp (pos n)) f g may down e = to_deeper f g (pos f.depth +ℤ pos n) (f.depth + n) (λ d. fact_at_depth q d f) (λ d. refl) (let z : pos f.depth +ℤ pos n ≡ pos (f.depth + n) = omega (arith, ints) in z) (omega arith) e
nature_effect_deeper q at (LowersSp (negsuc n)) f g may down e = absurd down
nature_effect_deeper q at (PushesList list) f g may down e =
    let n = 4 * length (registers_of_list list) in
    to_deeper f g (pos f.depth +ℤ pos n) (f.depth + n) (λ d. push_to_depth q at d f) (λ d. pushed_depth q at f d) (let z : pos f.depth +ℤ pos n ≡ pos (f.depth + n) = omega (arith, ints) in z) (omega arith) e
nature_effect_deeper q at (PopsList list) f g may down e = absurd cc
nature_effect_deeper q at (StoresList n list) f g may down e = deeper f (forget_register n f) g (omega arith) e
nature_effect_deeper q at (LoadsList n list) f g may down e = deeper f (forget_register n (forget_registers (registers_of_list list) f)) g (omega (arith, clobbered_depth (registers_of_list list) f)) e

pub effect_deeper : (q : Prologue) (at : ℕ) (i : Instr) (f g : Fact) → may_stand i ≡ true → IsDown i → effect q false at i f ≡ Some g → f.depth ≤ g.depth
effect_deeper q at i f g may down e = nature_effect_deeper q at (nature i) f g may down e

never_up : (s : FlowGraph) (p : ℕ) (i : Instr) (size : ℕ) → standing_at s p ≡ Instruction i size → IsDown i
never_up s p (SubSp (pos n)) size e = tt
never_up s p (SubSp (negsuc n)) size e = sub_sp_falls s p n size e
never_up s p i size e = tt

-- ---- runs

module _ (s : FlowGraph) (m : Marks) (even : s.start % 2 ≡ 0) (low : s.end + 4 ≤ 2 ^ 32) where
  down : (p : ℕ) (i : Instr) (size : ℕ) → standing_at s p ≡ Instruction i size → IsDown i
  down = never_up s

  -- what is known of each run
  pub record Knows (p : ℕ) (run : Straight) : Type 0 where
    pub long : length run.prologue.saves ≡ 16
    pub few : run.prologue.count ≤ 16
    pub fits : IsFit run.prologue.count run.fact
    pub ends : run.prologue.end ≡ s.start + 2 * p

  pub good : (p : ℕ) (run : Straight) → Knows p run → IsGood run
  good p run k = record { long = k.long; few = k.few; kept = k.fits.kept }

  pub after : (p : ℕ) (run next : Straight) (i : Instr) (size : ℕ) → Knows p run → standing_at s p ≡ Instruction i size → Step run next i size → Knows (p + size / 2) next
  after p run next i size k e t = record {
    long = t.long;
    few = t.few;
    fits = after_fits next.prologue false run.prologue.end i run.fact next.fact (record { depth = k.fits.depth; kept = omega (arith, k.fits.kept, t.more); long = k.fits.long })
        (plain_after next.prologue false run.prologue.end i run.fact t.may ∙ ap (effect_result None) t.does);
    ends = let inside = stands_inside s p i size e in elim (stands_size s p i size e) [
      | inl two ↦ omega (arith, t.end, k.ends, inside, low, two)
      | inr four ↦ omega (arith, t.end, k.ends, inside, low, four)
    ];
  }

  pub knows : (p : ℕ) (run : Straight) → IsRun s m p run → Knows p run
  knows _ _ begins = record { long = refl; few = omega arith; fits = entered_fits 0; ends = omega arith }
  knows _ _ (takes {p} {run} {next} {i} {size} r e free t) = let k = knows p run r in after p run next i size k e (step_of_run run next i size (good p run k) t)

  -- the instructions from a place on
  abbrev pub from : ℕ → ℕ → Straight → Straight
  from fuel p run = run_on run (lines s m.target fuel p)

  pub record Grows (run last : Straight) : Type 0 where
    pub newer : List Save
    pub are : saves_of last.prologue ≡ saves_of run.prologue ++ newer
    pub above : Above run.fact.depth newer
    pub end : run.prologue.end ≤ last.prologue.end

  pub stays : (run : Straight) → Grows run run
  stays run = record { newer = []; are = sym (append-nil (saves_of run.prologue)); above = tt; end = omega arith }

  pub grows : (fuel p : ℕ) (run : Straight) → IsRun s m p run → Grows run (from fuel p run)
  grows zero p run r = stays run
  grows (suc fuel) p run r = by_line (line_at s m.target p) refl (λ i size next e free t. grows fuel (p + size / 2) next (takes r e free t))
    where
      by_taken : (i : Instr) (size : ℕ) → standing_at s p ≡ Instruction i size → is_led_to m.target p size ≡ false → (o : Option Straight) → with_instruction run i size ≡ o
          → ((next : Straight) → with_instruction run i size ≡ Some next → Grows next (from fuel (p + size / 2) next))
          → Grows run (option_map_or (λ (t : Straight). run_on t (lines s m.target fuel (p + size / 2))) o run)
      by_taken i size e free None is later = stays run
      by_taken i size e free (Some next) is later =
          let k = knows p run r in
          let t = step_of_run run next i size (good p run k) is in
          let g = later next is in
          let depth : run.fact.depth ≤ next.fact.depth = effect_deeper next.prologue run.prologue.end i run.fact next.fact t.may (down p i size e) t.does in
          let ends = (after p run next i size k e t).ends in
          record {
            newer = t.newer ++ g.newer;
            are = g.are ∙ ap (λ vs. vs ++ g.newer) t.are ∙ append_assoc (saves_of run.prologue) t.newer g.newer;
            above = above_both run.fact.depth t.newer g.newer t.above (above_less next.fact.depth run.fact.depth g.newer depth g.above);
            end = let first : run.prologue.end ≤ next.prologue.end = omega (arith, k.ends, ends) in omega (arith, first, g.end);
          }

      by_line : (o : Option (Instr × ℕ)) → line_at s m.target p ≡ o
          → ((i : Instr) (size : ℕ) (next : Straight) → standing_at s p ≡ Instruction i size → is_led_to m.target p size ≡ false → with_instruction run i size ≡ Some next → Grows next (from fuel (p + size / 2) next))
          → Grows run (run_on run (option_map_or (λ (line : Instr × ℕ). line ∷ lines s m.target fuel (p + line.1 / 2)) o []))
      by_line None is later = stays run
      by_line (Some (i, size)) is later =
          let w = line_stands m.target p (standing_at s p) (i, size) is in
          by_taken i size w.0 w.1 (with_instruction run i size) refl (λ next t. later i size next w.0 w.1 t)

  -- the prologue is what the instructions from any place of the run on make of it
  pub record Reaches (p : ℕ) (run : Straight) : Type 0 where
    pub fuel : ℕ
    pub enough : places s ≤ fuel + p
    pub is : (from fuel p run).prologue ≡ prologue s m

  line_is : (p : ℕ) (i : Instr) (size : ℕ) → standing_at s p ≡ Instruction i size → is_led_to m.target p size ≡ false → line_at s m.target p ≡ Some (i, size)
  line_is p i size e free = ap (line_by m.target p) e ∙ ap (λ b. cond b None (Some (i, size))) free

  pub reaches : (p : ℕ) (run : Straight) → IsRun s m p run → Reaches p run
  unfolding prologue
  reaches _ _ begins = record { fuel = places s; enough = omega arith; is = refl }
  reaches _ _ (takes {p} {run} {next} {i} {size} r e free t) = go (reaches p run r)
    where
      go : Reaches p run → Reaches (p + size / 2) next
      go k = by_fuel k.fuel k.enough k.is
        where
          by_fuel : (fuel : ℕ) → places s ≤ fuel + p → (from fuel p run).prologue ≡ prologue s m → Reaches (p + size / 2) next
          by_fuel zero l is = absurd (let in_there = stands_below s p i size e in omega (arith, l, in_there))
          by_fuel (suc fuel) l is = record {
            fuel = fuel;
            enough = elim (stands_size s p i size e) [ inl two ↦ omega (arith, l, two) | inr four ↦ omega (arith, l, four) ];
            is = sym (ap (λ (o : Option (Instr × ℕ)). (run_on run (option_map_or (λ (line : Instr × ℕ). line ∷ lines s m.target fuel (p + line.1 / 2)) o [])).prologue) (line_is p i size e free)
                ∙ ap (λ (o : Option Straight). (option_map_or (λ (x : Straight). run_on x (lines s m.target fuel (p + size / 2))) o run).prologue) t) ∙ is;
          }

  -- The effects of its instructions are the same by the whole prologue.
  pub effects_agree : (are : AreMarks s m) → EffectsAgree s m are
  effects_agree are p run next i size k r e free t h =
      let known = knows p run r in
      let step = step_of_run run next i size (good p run known) t in
      let there : IsRun s m (p + size / 2) next = takes r e free t in
      let last = reaches (p + size / 2) next there in
      let g = grows last.fuel (p + size / 2) next there in
      let after_it = after p run next i size known e step in
      let P : Prologue = prologue s m in
      let at : address_of s p ≡ run.prologue.end = sym known.ends in
      let further : Deeper next.prologue P next.fact.depth = record { newer = g.newer; are = ap saves_of (sym last.is) ∙ g.are; above = g.above } in
      let past : run.prologue.end < next.prologue.end = elim (stands_size s p i size e) [
        | inl two ↦ omega (arith, known.ends, after_it.ends, two)
        | inr four ↦ omega (arith, known.ends, after_it.ends, four)
      ] in
      let end_is : next.prologue.end ≤ P.end = subst (λ (x : Prologue). next.prologue.end ≤ x.end) last.is g.end in
      let count : run.fact.kept ≤ length (saves_of next.prologue) = omega (arith, known.fits.kept, step.more, length_saves next.prologue step.long step.few) in
      let by_P : effect P false run.prologue.end i run.fact ≡ Some next.fact =
      effect_same next.prologue P run.prologue.end i run.fact next.fact step.may count (lt-ltb run.prologue.end next.prologue.end past) (lt-ltb run.prologue.end P.end (omega (arith, past, end_is))) step.does further in
      let lowers : Bool = (framed_function s m).lowers p in
      let whole : after_of P lowers (address_of s p) i run.fact ≡ Ok next.fact =
      ap (λ a. after_of P lowers a i run.fact) at ∙ plain_after P lowers run.prologue.end i run.fact step.may ∙ ap (effect_result None) by_P in
      same_ok k next.fact (sym h ∙ whole)
    where
      same_ok : (a b : Fact) → ◌≡◌ {A = Result Fact FrameCause} (Ok a) (Ok b) → a ≡ b
      same_ok a b x = cc
