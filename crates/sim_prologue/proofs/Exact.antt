-- What a run of a prologue knows: sp stands where the depth says, every save that it has is kept, and they rise.
use Rattle.std.proofs.Common.{◌≡◌, ◌⊎◌, min, Some, subst, cond, Bool, true, false, ℕ, List, [], ◌∷◌, refl, ◌==◌, ◌&&◌, ◌||◌, inl, inr, not, nat_lt, Option, None, pos, negsuc, ◌≤◌, ◌+◌, nat_le, ◌∙◌, ap, arith, length, ◌<◌, ◌*◌, sym, ◌%◌, ◌^◌, ◌/◌}
use Rattle.std.proofs.lemmas.Option.{same_Some}
use Rattle.std.specs.Prelude.{option_map, ◌+ℤ◌, option_and_then}
use Rattle.std.specs.List.{count_by}
use Rattle.std.proofs.lemmas.Bool.{le-leb, lt-ltb}
use Rattle.std.proofs.lemmas.List.Sums.{sum_by-cons}
use Rattle.frame_facts.specs.declared.facts.Fact.{Fact}
use Rattle.frame_facts.specs.declared.saves.Prologue.{Prologue}
use Rattle.frame_facts.specs.Saves.{saves_within, fact_at_depth, stack_word, saves_of}
use Rattle.thumb_isa.specs.declared.instr.Instr.{Instr}
use Rattle.thumb_isa.specs.declared.instr.Instr.TheVariants.{Push}
use Rattle.thumb_isa.specs.Nature.{Shifts, AddsThree, AddsEight, Combines, AddsToSp, NearPc, AtSum, AtOffset, AtSp, Nature, Works, Idles, Derives, AddsHigh, MovesHigh, Transfers, StoresList, LoadsList, RaisesSp, LowersSp, PushesList, PopsList, Goes, nature}
use Rattle.frame_facts.specs.Facts.{forget_register, forget_registers, source, bounded_depth, with_source}
use Rattle.thumb_core.specs.Words.{registers_of_list}
use Rattle.frame_facts.specs.After.{nature_effect, effect}
use Rattle.frame_facts.specs.Data.{add_sub_imm3, imm8, alu, copy_source, set_sp}
use Rattle.frame_facts.specs.Access.{mem_reg, mem_imm}
use Rattle.frame_facts.specs.Prologues.{nature_may_stand, may_stand, prologue_after, run_with_end, with_instruction}
use Rattle.frame_facts.specs.Shifts.{shift_imm}
use Rattle.frame_facts.specs.declared.saves.Save.{Save}
use Rattle.frame_facts.specs.declared.straight.Straight.{Straight}
use Rattle.frame_facts.specs.Lists.{push_to_depth}
use Rattle.frame_facts.specs.declared.facts.TheConstants.{DEEPEST}
use Rattle.frame_code.specs.declared.standing.Standing.TheVariants.{Instruction}
use Rattle.frame_graph.specs.FlowGraph.{FlowGraph}
use Rattle.frame_graph.specs.Places.{standing_at}
use Rattle.frame_reach.specs.Marks.{Marks}
use Rattle.frame_reach.specs.Laws.{IsRun, begins, takes}
use Rattle.frame_reach.proofs.Stands.{stands_size}
use Rattle.sim_prologue.proofs.Prologues.{IsDownwards, IsDown, good, knows, after}
use Rattle.sim_prologue.proofs.Ordered.{Between, between_ends, Holds16, taken_holds}
use Rattle.sim_prologue.proofs.Extends.{length_saves, step_of_run}

-- ---- an instruction that pushes nothing keeps what is kept, but for saves that come to lie below sp

abbrev pub Frame : Prologue → Fact → Fact → Type 0
Frame q f g = (g.below ≡ f.below) × ((g.kept ≡ f.kept) ⊎ (g.kept ≡ min f.kept (saves_within q g.depth)))

abbrev pub NatureLeaves : Prologue → Nature → Fact → Fact → Type 0
NatureLeaves q (PushesList list) f g = Unit {0}
NatureLeaves q n f g = Frame q f g

abbrev pub Leaves : Prologue → Instr → Fact → Fact → Type 0
Leaves q i f g = NatureLeaves q (nature i) f g

give : (q : Prologue) (f h g : Fact) → Frame q f h → Some h ≡ Some g → Frame q f g
give q f h g l e = subst (Frame q f) (same_Some h g e) l

either : (q : Prologue) (f g h : Fact) (b : Bool) → Frame q f g → Frame q f h → Frame q f (cond b g h)
either q f g h true x y = x
either q f g h false x y = y

clobbered_below : (regs : List ℕ) (f : Fact) → (forget_registers regs f).below ≡ f.below
clobbered_below [] f = refl
clobbered_below (r ∷ more) f = clobbered_below more (forget_register r f)

clobbered_kept : (regs : List ℕ) (f : Fact) → (forget_registers regs f).kept ≡ f.kept
clobbered_kept [] f = refl
clobbered_kept (r ∷ more) f = clobbered_kept more (forget_register r f)

nature_other_frame : (q : Prologue) (at : ℕ) (n : Nature) (f g : Fact) → nature_may_stand n ≡ true → IsDownwards n → nature_effect q false at n f ≡ Some g → NatureLeaves q n f g
nature_other_frame q at (Derives (Shifts op d m n)) f g may down e = give q f (shift_imm op d m n f) g (either q f (with_source f d (source f m)) (forget_register d f) ((op == 0) && (n == 0)) (refl, inl refl) (refl, inl refl)) e
nature_other_frame q at (Works d) f g may down e = give q f (forget_register d f) g (refl, inl refl) e
nature_other_frame q at (Derives (AddsThree sub d n imm)) f g may down e = give q f (add_sub_imm3 sub d n imm f) g (refl, inl refl) e
nature_other_frame q at (Derives (AddsEight op d imm)) f g may down e = give q f (imm8 op d imm f) g (either q f (forget_register d f) _ (op == 0) (refl, inl refl) (either q f f _ (op == 1) (refl, inl refl) (refl, inl refl))) e
nature_other_frame q at (Derives (Combines op d m)) f g may down e = give q f (alu op d f) g (either q f f (forget_register d f) ((op == 8) || (op == 10) || (op == 11)) (refl, inl refl) (refl, inl refl)) e
nature_other_frame q at (AddsHigh d m) f g may down e = go (d == 13) e
  where
    go : (b : Bool) → cond b None (Some (forget_register d f)) ≡ Some g → Frame q f g
    go true x = absurd cc
    go false x = give q f (forget_register d f) g (refl, inl refl) x
nature_other_frame q at Idles f g may down e = give q f f g (refl, inl refl) e
nature_other_frame q at (MovesHigh d m) f g may down e = go (d == 13) may e
  where
    go : (b : Bool) → (not b && not (d == 15)) ≡ true → cond b (set_sp q (copy_source m f) f) (Some (with_source f d (copy_source m f))) ≡ Some g → Frame q f g
    go true x y = absurd cc
    go false x y = give q f (with_source f d (copy_source m f)) g (refl, inl refl) y
nature_other_frame q at (Goes b) f g may down e = absurd cc
nature_other_frame q at (Transfers (NearPc t off)) f g may down e = give q f (forget_register t f) g (refl, inl refl) e
nature_other_frame q at (Transfers (AtSum op t n m)) f g may down e = give q f (mem_reg op t f) g (either q f f (forget_register t f) (nat_lt op 3) (refl, inl refl) (refl, inl refl)) e
nature_other_frame q at (Transfers (AtOffset op t n off)) f g may down e = give q f (mem_imm op t f) g (either q f (forget_register t f) f ((op == 1) || (op == 3) || (op == 5)) (refl, inl refl) (refl, inl refl)) e
nature_other_frame q at (Transfers (AtSp load t off)) f g may down e = go load e
  where
    go : (b : Bool) → Some (cond b (with_source f t (stack_word q f off)) f) ≡ Some g → Frame q f g
    go true x = give q f (with_source f t (stack_word q f off)) g (refl, inl refl) x
    go false x = give q f f g (refl, inl refl) x
nature_other_frame q at (Derives (AddsToSp d off)) f g may down e = give q f (with_source f d _) g (refl, inl refl) e
nature_other_frame q at (RaisesSp off) f g may down e = absurd cc
nature_other_frame q at (LowersSp (pos n)) f g may down e = by_depth (bounded_depth (pos f.depth +ℤ pos n)) e
  where
    by_depth : (o : Option ℕ) → option_map (λ d. fact_at_depth q d f) o ≡ Some g → Frame q f g
    by_depth None x = absurd cc
    by_depth (Some d) x = give q f (fact_at_depth q d f) g (refl, inr refl) x
nature_other_frame q at (LowersSp (negsuc n)) f g may down e = absurd down
nature_other_frame q at (PushesList list) f g may down e = tt
nature_other_frame q at (PopsList list) f g may down e = absurd cc
nature_other_frame q at (StoresList n list) f g may down e = give q f (forget_register n f) g (refl, inl refl) e
nature_other_frame q at (LoadsList n list) f g may down e = give q f (forget_register n (forget_registers (registers_of_list list) f)) g (clobbered_below (registers_of_list list) f, inl (clobbered_kept (registers_of_list list) f)) e

pub other_frame : (q : Prologue) (at : ℕ) (i : Instr) (f g : Fact) → may_stand i ≡ true → IsDown i → effect q false at i f ≡ Some g → Leaves q i f g
other_frame q at i f g may down e = nature_other_frame q at (nature i) f g may down e

-- ---- all saves that a run has lie within its depth

pub all_within : (low high d : ℕ) (xs : List Save) → Between low high xs → high ≤ d → count_by (λ (s : Save). nat_le s.offset d) xs ≡ length xs
all_within low high d [] h l = refl
all_within low high d (v ∷ more) h l =
    let top = between_ends v.offset high more h.1 in
    sum_by-cons (λ (s : Save). cond (nat_le s.offset d) 1 0) v more
    ∙ ap (λ b. cond b 1 0 + count_by (λ (s : Save). nat_le s.offset d) more) (le-leb v.offset d (omega (arith, top, l)))
    ∙ ap (λ n. 1 + n) (all_within v.offset high d more h.1 l) ∙ omega arith

pub record Exact (run : Straight) : Type 0 where
  pub below : run.fact.below ≡ false
  pub kept : run.fact.kept ≡ run.prologue.count
  pub rise : Holds16 run.prologue run.fact.depth

pub within_all : (p : Prologue) (d : ℕ) → Holds16 p d → saves_within p d ≡ p.count
within_all p d h = all_within 0 d d (saves_of p) h.rise (omega arith) ∙ length_saves p h.long h.few

push_frame : (q : Prologue) (at list : ℕ) (f g : Fact) → at < q.end → effect q false at (Push list) f ≡ Some g → (g.below ≡ f.below) × (g.kept ≡ saves_within q g.depth)
push_frame q at list f g l e = go (bounded_depth (pos f.depth +ℤ pos (4 * length (registers_of_list list)))) e
  where
    go : (o : Option ℕ) → option_map (λ d. push_to_depth q at d f) o ≡ Some g → (g.below ≡ f.below) × (g.kept ≡ saves_within q g.depth)
    go None x = absurd cc
    go (Some d) x =
        let there : push_to_depth q at d f ≡ (let y : Fact = record f { depth = d; kept = saves_within q d } in y) = ap (λ t. cond t (let y : Fact = record f { depth = d; kept = saves_within q d } in y) (fact_at_depth q d f)) (lt-ltb at q.end l) in
        let same : (let y : Fact = record f { depth = d; kept = saves_within q d } in y) ≡ g = sym there ∙ same_Some (push_to_depth q at d f) g x in
        subst (λ (y : Fact). (y.below ≡ f.below) × (y.kept ≡ saves_within q y.depth)) same (refl, refl)

-- saves of a run that pushes nothing
same_count : (run t : Straight) (i : Instr) (size : ℕ) → prologue_after run i ≡ Some run.prologue → with_instruction run i size ≡ Some t → t.prologue.count ≡ run.prologue.count
same_count run t i size p e = go (nat_le run.fact.depth DEEPEST && may_stand i) (subst (λ o. cond (nat_le run.fact.depth DEEPEST && may_stand i) (option_and_then (run_with_end run i size) o) None ≡ Some t) p e)
  where
    by : (o : Option Fact) → option_map (λ f. let x : Straight = record { fact = f; prologue = (let r : Prologue = record run.prologue { end = (run.prologue.end + size) % 2 ^ 32 } in r) } in x) o ≡ Some t → t.prologue.count ≡ run.prologue.count
    by None g = absurd cc
    by (Some f) g = sym (ap (λ (y : Straight). y.prologue.count) (same_Some (let x : Straight = record { fact = f; prologue = (let r : Prologue = record run.prologue { end = (run.prologue.end + size) % 2 ^ 32 } in r) } in x) t g))

    go : (b : Bool) → cond b (run_with_end run i size run.prologue) None ≡ Some t → t.prologue.count ≡ run.prologue.count
    go false g = absurd cc
    go true g = by (effect (let r : Prologue = record run.prologue { end = (run.prologue.end + size) % 2 ^ 32 } in r) false run.prologue.end i run.fact) g

abbrev Counts : Instr → Straight → Straight → Type 0
Counts (Push list) run t = Unit {0}
Counts i run t = t.prologue.count ≡ run.prologue.count

counts : (run t : Straight) (i : Instr) (size : ℕ) → with_instruction run i size ≡ Some t → Counts i run t
counts run t (Push list) size e = tt
counts run t i size e = same_count run t i size refl e

next_kept : (i : Instr) (run t : Straight) → Exact run → Holds16 t.prologue t.fact.depth → run.prologue.end < t.prologue.end → effect t.prologue false run.prologue.end i run.fact ≡ Some t.fact
    → Leaves t.prologue i run.fact t.fact → Counts i run t → (t.fact.below ≡ false) × (t.fact.kept ≡ t.prologue.count)
next_kept (Push list) run t k h l e w c =
    let p = push_frame t.prologue run.prologue.end list run.fact t.fact l e in
    (p.0 ∙ k.below, p.1 ∙ within_all t.prologue t.fact.depth h)
next_kept i run t k h l e w c = plain w c
  where
    plain : Frame t.prologue run.fact t.fact → t.prologue.count ≡ run.prologue.count → (t.fact.below ≡ false) × (t.fact.kept ≡ t.prologue.count)
    plain (b, inl same) c = (b ∙ k.below, same ∙ k.kept ∙ sym c)
    plain (b, inr least) c =
        let all = within_all t.prologue t.fact.depth h in
        let before = k.kept in
        (b ∙ k.below, omega (arith, least, all, before, c))

module _ (s : FlowGraph) (m : Marks) (even : s.start % 2 ≡ 0) (low : s.end + 4 ≤ 2 ^ 32) (down : (p : ℕ) (i : Instr) (size : ℕ) → standing_at s p ≡ Instruction i size → IsDown i) where
  pub exact : (p : ℕ) (run : Straight) → IsRun s m p run → Exact run
  exact _ _ begins = record { below = refl; kept = refl; rise = record { long = refl; few = omega arith; rise = omega arith } }
  exact _ _ (takes {p} {run} {next} {i} {size} r e free t) =
      let k = exact p run r in
      let known = knows s m even low p run r in
      let step = step_of_run run next i size (good s m even low p run known) t in
      let further = after s m even low p run next i size known e step in
      let past : run.prologue.end < next.prologue.end = past_it known.ends further.ends (stands_size s p i size e) in
      let h = taken_holds run next i size k.rise (down p i size e) t in
      let w = next_kept i run next k h past step.does (other_frame next.prologue run.prologue.end i run.fact next.fact step.may (down p i size e) step.does) (counts run next i size t) in
      record { below = w.0; kept = w.1; rise = h }
    where
      past_it : run.prologue.end ≡ s.start + 2 * p → next.prologue.end ≡ s.start + 2 * (p + size / 2) → (size ≡ 2) ⊎ (size ≡ 4) → run.prologue.end < next.prologue.end
      past_it a b (inl two) = omega (arith, a, b, two)
      past_it a b (inr four) = omega (arith, a, b, four)
