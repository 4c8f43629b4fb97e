-- PUSH in the prologue: its words that are saves hold what was recorded, and become slots.
use Rattle.std.proofs.Common.{◌≡◌, ℕ, ◌+◌, ◌-◌, ◌*◌, ◌/◌, ◌%◌, ◌^◌, ◌<◌, ◌≤◌, ◌==◌, ◌&&◌, ◌||◌, ◌⊎◌, inl, inr, nat_lt, nat_le, Bool, true, false, cond, List, ◌++◌, length, get_or, Ok, refl, sym, ap, subst, ◌∙◌, arith}
use Rattle.std.specs.Prelude.{Contains, take}
use Rattle.std.specs.Int.{bit_at}
use Rattle.std.specs.List.{count_by}
use Rattle.std.proofs.Math.Seq.{take-append_seam}
use Rattle.std.proofs.lemmas.Bool.{and_parts, eqb-true, lt-ltb, ltb-true, le-leb, leb-true}
use Rattle.std.proofs.lemmas.List.{append_assoc}
use Rattle.elf_image.specs.Functions.{is_inside}
use Rattle.eh_bus.specs.Lists.{Has}
use Rattle.eh_bus.specs.Memory.{Memory, load_number, load, store_run}
use Rattle.eh_bus.proofs.AccessLaws.{run_back}
use Rattle.thumb_isa.specs.declared.instr.Instr.{Instr}
use Rattle.thumb_isa.specs.declared.instr.Instr.TheVariants.{Push}
use Rattle.thumb_core.specs.Lists.{words_of}
use Rattle.thumb_core.specs.Registers.{reg}
use Rattle.thumb_core.specs.Words.{registers_of_list}
use Rattle.frame_facts.specs.declared.facts.Fact.{Fact}
use Rattle.frame_facts.specs.declared.facts.Source.{Source}
use Rattle.frame_facts.specs.declared.saves.Prologue.{Prologue}
use Rattle.frame_facts.specs.declared.saves.Save.{Save}
use Rattle.frame_facts.specs.After.{after_of}
use Rattle.frame_facts.specs.Facts.{source}
use Rattle.frame_facts.specs.Machine.{Means}
use Rattle.frame_facts.specs.Prologues.{is_callers}
use Rattle.frame_facts.specs.Saves.{saves_of, saves_within, fact_at_depth}
use Rattle.frame_code.specs.declared.standing.Standing.TheVariants.{Instruction}
use Rattle.frame_graph.specs.Places.{address_of, standing_at}
use Rattle.frame_graph.specs.Reach.{IsReached}
use Rattle.frame_graph.specs.FlowGraph.{FlowGraph}
use Rattle.frame_reach.specs.Laws.{IsRun, takes}
use Rattle.frame_reach.specs.Marks.{Marks}
use Rattle.frame_reach.proofs.Runs.{prologue_is_the_longest_run}
use Rattle.frame_reach.proofs.Stands.{stands_inside, stands_size}
use Rattle.frame_check.proofs.frame_flow.Reaching.{state_reached}
use Rattle.frame_check.specs.Accepts.{Accepted, framed_function, saves_at}
use Rattle.frame_check.specs.Judged.{IsPlaced}
use Rattle.frame_check.specs.Roots.{flow_graph_of}
use Rattle.frame_check.proofs.Saving.{saves_are_words}
use Rattle.frame_check.proofs.Wells.{placed_at}
use Rattle.sim_machines.specs.Activations.{Activation, Recorded, memory_of}
use Rattle.sim_relation.specs.Holds.{recorded_register, Holds, IsKept}
use Rattle.sim_relation.specs.Chain.{code, StandsAt}
use Rattle.sim_relation.specs.Stands.{Keeps, IsProgram, DoesAt, Turns}
use Rattle.sim_accesses.proofs.Callers.{contains_take, only_callers}
use Rattle.sim_prologue.proofs.Exact.{Exact, exact, within_all}
use Rattle.sim_prologue.proofs.Extends.{Above, same_within, step_of_run, Step, length_saves}
use Rattle.sim_prologue.specs.sim_code.Bounds.{AreInRange}
use Rattle.sim_prologue.proofs.Ordered.{range_down, push_depth}
use Rattle.sim_prologue.proofs.Prologues.{IsDown, effects_agree, knows, good, grows, reaches}
use Rattle.sim_accesses.proofs.SavedWords.{has_saved, has_new}
use Rattle.sim_accesses.proofs.LaterPush.{moved_holds, later_push_turns}
use Rattle.sim_accesses.proofs.Pushing.{push_turns}
use Rattle.sim_prologue.proofs.Straight.{states}
use Rattle.sim_relation.proofs.Written.{with_gs, kept_moves}
use Rattle.sim_accesses.proofs.PushedSaves.{RunAt, run_at, IsNew, pushed_new, taken_pushed, word_at, words_count, words_small, saved_is, Takes, takes_it}
use Rattle.sim_accesses.proofs.Pushing as push

module _ (x : Accepted) (is : IsProgram x) (ranges : AreInRange x) (s : Recorded) (k : Keeps x s) (list : ℕ) (does : DoesAt x s (Push list))
    (there : nat_lt (address_of (flow_graph_of x.image does.at.function) does.at.place) (code x does.at.function does.at.marks).prologue.end ≡ true) where
  abbrev at : StandsAt x s.first s.segments s.regs s.regs.pc
  at = does.at

  abbrev flow_graph : FlowGraph
  flow_graph = flow_graph_of x.image at.function

  abbrev marks : Marks
  marks = at.marks

  abbrev f : Fact
  f = at.fact

  abbrev P : Prologue
  P = (code x at.function at.marks).prologue

  abbrev n : ℕ
  n = length (registers_of_list list)

  placed : IsPlaced at.function
  placed = subst IsPlaced at.of.among.2 (placed_at x.image at.of.among.0 at.function is.image at.of.among.1)

  even : flow_graph.start % 2 ≡ 0
  even = placed.even

  low : flow_graph.end + 4 ≤ 2 ^ 32
  low = omega (arith, placed.low)

  down : (p : ℕ) (i : Instr) (size : ℕ) → standing_at flow_graph p ≡ Instruction i size → IsDown i
  down p i size e = range_down i (ranges at.function p i size at.of.among e)

  reached : IsReached flow_graph at.place
  reached = state_reached (framed_function flow_graph marks) at.place f at.state

  comes : RunAt flow_graph marks at.place
  comes =
      let last = prologue_is_the_longest_run flow_graph marks in
      let known = knows flow_graph marks even low last.0 last.1 last.2 in
      let ends : P.end ≡ flow_graph.start + 2 * last.0 = ap (λ (p : Prologue). p.end) last.4 ∙ known.ends in
      let before = ltb-true (address_of flow_graph at.place) P.end there in
      run_at flow_graph marks at.of.are last.0 last.1 last.2 at.place reached (omega (arith, ends, before))

  it : Takes flow_graph marks at.place list
  it = takes_it flow_graph marks at.place list does.size does.stands comes

  run_fact : f ≡ it.run.fact
  run_fact = states flow_graph marks at.of.are even (effects_agree flow_graph marks even low at.of.are) at.place f at.state it.run it.from (Push list, it.size, it.next, it.stands, it.free, it.takes)

  after_run : IsRun flow_graph marks (at.place + it.size / 2) it.next
  after_run = takes it.from it.stands it.free it.takes

  before_it : Exact it.run
  before_it = exact flow_graph marks even low down at.place it.run it.from

  after_it : Exact it.next
  after_it = exact flow_graph marks even low down (at.place + it.size / 2) it.next after_run

  the_step : Step it.run it.next (Push list) it.size
  the_step = step_of_run it.run it.next (Push list) it.size (good flow_graph marks even low at.place it.run (knows flow_graph marks even low at.place it.run it.from)) it.takes

  next_depth : it.next.fact.depth ≡ f.depth + 4 * n
  next_depth = push_depth it.next.prologue it.run.prologue.end list it.run.fact it.next.fact the_step.does ∙ ap (λ (y : Fact). y.depth + 4 * n) (sym run_fact)

  -- the saves of the whole prologue are those so far, and deeper ones
  record Further : Type 0 where
    pub newer : List Save
    pub are : saves_of P ≡ saves_of it.next.prologue ++ newer
    pub above : Above it.next.fact.depth newer

  further : Further
  further =
      let r = reaches flow_graph marks even low (at.place + it.size / 2) it.next after_run in
      let g = grows flow_graph marks even low r.fuel (at.place + it.size / 2) it.next after_run in
      record { newer = g.newer; are = sym (ap saves_of r.is) ∙ g.are; above = g.above }

  kept_saves : (d : ℕ) → d ≡ f.depth + 4 * n → take (saves_within P d) (saves_of P) ≡ saves_of it.next.prologue
  kept_saves d sum =
      let w = further in
      let xs = saves_of it.next.prologue in
      let same : d ≡ it.next.fact.depth = sum ∙ sym next_depth in
      let rise = after_it.rise in
      let count : saves_within P d ≡ length xs =
      ap (saves_within P) same ∙ ap (count_by (λ (v : Save). nat_le v.offset it.next.fact.depth)) w.are ∙ same_within it.next.fact.depth xs w.newer w.above
      ∙ within_all it.next.prologue it.next.fact.depth rise ∙ sym (length_saves it.next.prologue rise.long rise.few) in
      ap (λ c. take c (saves_of P)) count ∙ ap (take (length xs)) w.are ∙ take-append_seam xs w.newer

  old_kept : (v : Save) → Contains (saves_of it.run.prologue) v → Contains (take f.kept (saves_of P)) v
  old_kept v c =
      let w = further in
      let xs = saves_of it.run.prologue in
      let rise = before_it.rise in
      let count : f.kept ≡ length xs = ap (λ (y : Fact). y.kept) run_fact ∙ before_it.kept ∙ sym (length_saves it.run.prologue rise.long rise.few) in
      let all : saves_of P ≡ xs ++ (the_step.newer ++ w.newer) = w.are ∙ ap (λ ys. ys ++ w.newer) the_step.are ∙ append_assoc xs the_step.newer w.newer in
      let front : take f.kept (saves_of P) ≡ xs = ap (λ j. take j (saves_of P)) count ∙ ap (take (length xs)) all ∙ take-append_seam xs (the_step.newer ++ w.newer) in
      subst (λ ys. Contains ys v) (sym front) c

  entry_is : (r : ℕ) → is_callers r ≡ true → at.holds.entry r ≡ recorded_register s.first.caller r
  entry_is r e = go (nat_le 4 r && nat_lt r 12) (r == 14) refl refl e
    where
      go : (b c : Bool) → (nat_le 4 r && nat_lt r 12) ≡ b → (r == 14) ≡ c → (b || c) ≡ true → at.holds.entry r ≡ recorded_register s.first.caller r
      go true c i j q = let two = and_parts (nat_le 4 r) (nat_lt r 12) i in at.holds.saved r (leb-true 4 r two.0) (ltb-true r 12 two.1)
      go false true i j q = let same : r ≡ 14 = eqb-true r 14 j in subst (λ m. at.holds.entry m ≡ recorded_register s.first.caller m) (sym same) at.holds.link
      go false false i j q = absurd cc

  -- ---- what the words hold

  module _ (m : Memory) (stores : store_run (memory_of s) (push.a x is s k list does) (words_of list s.regs) ≡ (Ok tt, m)) (d : ℕ) (sum : d ≡ f.depth + 4 * n) where
    abbrev a : Activation
    a = with_gs s.first (push.gs x is s k list does)

    abbrev new : ℕ
    new = push.new x is s k list does

    old_save : (v : Save) → Contains (saves_of it.run.prologue) v → IsKept m.segments a d v
    old_save v c =
        let kept = kept_moves s.segments m.segments 0 s.first (push.gs x is s k list does) f.depth v (push.moves x is s k list does m stores 0) (let lower = at.holds.lower in omega (arith, lower)) (at.holds.saves v (old_kept v c)) in
        record { low = kept.low; deep = omega (arith, kept.deep, sum); holds = kept.holds; slot = kept.slot }

    bit_is : (v : Save) (w : IsNew it.run.fact (registers_of_list list) v) → Contains (saves_of P) v → bit_at (push.saves x is s k list does) w.word ≡ 1
    bit_is v w c =
        let inside = stands_inside flow_graph at.place (Push list) does.size does.stands in
        let within : is_inside s.regs.pc at.function ≡ true = both (le-leb at.function.start s.regs.pc (omega (arith, at.address))) (lt-ltb s.regs.pc at.function.end (in_there (stands_size flow_graph at.place (Push list) does.size does.stands) inside)) in
        let told : push.saves x is s k list does ≡ saves_at flow_graph marks (address_of flow_graph at.place) = is.sound.roles.saves at.function marks s.regs.pc at.of.among at.of.are within ∙ ap (saves_at flow_graph marks) at.address in
        ap (λ b. bit_at b w.word) told
        ∙ (saves_are_words.bits flow_graph marks at.place it.run list w.word v.offset even low
        (record { size = it.size; next = it.next; comes = it.from; stands = it.stands; free = it.free; takes = it.takes }) (w.among, w.place)).1 (saved_is P v c)
      where
        both : nat_le at.function.start s.regs.pc ≡ true → nat_lt s.regs.pc at.function.end ≡ true → (nat_le at.function.start s.regs.pc && nat_lt s.regs.pc at.function.end) ≡ true
        both p q = rw (p, q) refl

        in_there : (does.size ≡ 2) ⊎ (does.size ≡ 4) → address_of flow_graph at.place + does.size ≤ at.function.end + 1 → s.regs.pc < at.function.end
        in_there (inl two) l = omega (arith, l, two, at.address)
        in_there (inr four) l = omega (arith, l, four, at.address)

    new_save : (v : Save) (w : IsNew it.run.fact (registers_of_list list) v) → Contains (saves_of P) v → IsKept m.segments a d v
    new_save v w c =
        let q = push.falls x is s k list does in
        let sp = at.holds.describes.sp (ap (λ (y : Fact). y.below) run_fact ∙ before_it.below) in
        let same_depth : it.run.fact.depth ≡ f.depth = ap (λ (y : Fact). y.depth) (sym run_fact) in
        let offset : v.offset + 4 * w.word ≡ f.depth + 4 * n = w.place ∙ ap (λ z. z + 4 * n) same_depth in
        let among = w.among in
        let address : s.first.caller.sp - v.offset ≡ new + 4 * w.word = omega (arith, offset, sp, q.0, among) in
        let count : length (words_of list s.regs) ≡ n = words_count s.regs.r (registers_of_list list) in
        let j = get_or (registers_of_list list) w.word 0 in
        let value : reg s.regs j ≡ at.holds.entry v.reg =
        subst (λ (t : Source). Means at.holds.entry s.first.caller.sp t (reg s.regs j)) (ap (λ (y : Fact). source y j) run_fact ∙ w.held) (at.holds.describes.sources j) in
        let back : load 4 m (push.a x is s k list does + 4 * w.word) ≡ Ok (get_or (words_of list s.regs) w.word 0) =
        run_back (memory_of s) (push.a x is s k list does) (words_of list s.regs) m w.word stores (omega (arith, q.0, q.1, q.3, count)) (words_small s.regs.r (registers_of_list list) k.sound.words.small) (omega (arith, among, count)) in
        let word : get_or (words_of list s.regs) w.word 0 ≡ recorded_register s.first.caller v.reg = word_at s.regs.r (registers_of_list list) w.word among ∙ value ∙ entry_is v.reg (only_callers flow_graph marks v c) in
        let where_is : s.first.caller.sp - v.offset ≡ push.a x is s k list does + 4 * w.word = omega (arith, address, q.1) in
        record {
          low = omega (arith, offset, among);
          deep = omega (arith, offset, sum);
          holds = ap (load_number 4 m.segments) where_is ∙ back ∙ ap (λ (z : ℕ). Ok z) word;
          slot = has_new (push.ws x is s k list does) s.first.slots (s.first.caller.sp - v.offset)
              (subst (λ g. Has (push.ws x is s k list does) g) (sym address) (has_saved (push.saves x is s k list does) n new w.word among (bit_is v w c)));
        }

    saves_kept : (v : Save) → Contains (take (saves_within P d) (saves_of P)) v → IsKept m.segments a d v
    saves_kept v c =
        let here : Contains (saves_of it.next.prologue) v = subst (λ ys. Contains ys v) (kept_saves d sum) c in
        let q = taken_pushed it.run it.next list it.size it.takes in
        elim (pushed_new it.run.prologue q.0 it.run.fact (registers_of_list list) v q.1 (subst (λ ys. Contains ys v) q.2 here)) [
          | inl old ↦ old_save v old
          | inr w ↦ new_save v w (contains_take (saves_within P d) (saves_of P) v c)
        ]

    holds : Holds P (let y : Fact = record f { depth = d; kept = saves_within P d } in y) a m.segments (push.regs x is s k list does)
    holds = let h = moved_holds x is ranges s k list does d sum in record {
      entry = h.entry;
      saved = h.saved;
      link = h.link;
      describes = record { long = h.describes.long; sources = h.describes.sources; sp = h.describes.sp };
      lower = h.lower;
      saves = saves_kept;
    }

  pub first_push_turns : (input : List ℕ) → Turns x s input
  first_push_turns input = push_turns x is s k list does at_g input
    where
      at_g : (m : Memory) → store_run (memory_of s) (push.a x is s k list does) (words_of list s.regs) ≡ (Ok tt, m) → (g : Fact) → after_of P ((code x at.function at.marks).lowers at.place) (address_of flow_graph at.place) (Push list) f ≡ Ok g
          → Holds P g (with_gs s.first (push.gs x is s k list does)) m.segments (push.regs x is s k list does)
      at_g m stores g e =
          let b = push.is_after x is s k list does g e in
          let same : g ≡ (let y : Fact = record f { depth = b.depth; kept = saves_within P b.depth } in y) =
          b.gives ∙ ap (λ (t : Bool). cond t (let y : Fact = record f { depth = b.depth; kept = saves_within P b.depth } in y) (fact_at_depth P b.depth f)) there in
          subst (λ y. Holds P y (with_gs s.first (push.gs x is s k list does)) m.segments (push.regs x is s k list does)) (sym same) (holds m stores b.depth b.sum)

-- ---- every PUSH

pub pushes_turn : (x : Accepted) (s : Recorded) (list : ℕ) (input : List ℕ) → IsProgram x → AreInRange x → Keeps x s → DoesAt x s (Push list) → Turns x s input
pushes_turn x s list input is ranges k does =
    go (nat_lt (address_of (flow_graph_of x.image does.at.function) does.at.place) (code x does.at.function does.at.marks).prologue.end) refl
  where
    go : (b : Bool) → nat_lt (address_of (flow_graph_of x.image does.at.function) does.at.place) (code x does.at.function does.at.marks).prologue.end ≡ b → Turns x s input
    go true e = first_push_turns x is ranges s k list does e input
    go false e = later_push_turns x is ranges s k list does e input
