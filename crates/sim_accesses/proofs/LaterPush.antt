-- A PUSH after the prologue.
use Rattle.std.proofs.Common.{◌≡◌, ℕ, ◌+◌, ◌*◌, min, nat_lt, Bool, false, cond, List, length, Ok, refl, sym, ap, subst, ◌∙◌, arith}
use Rattle.eh_bus.specs.Memory.{Memory, store_run}
use Rattle.thumb_isa.specs.declared.instr.Instr.TheVariants.{Push}
use Rattle.thumb_core.specs.Lists.{words_of}
use Rattle.thumb_core.specs.Registers.{word_in}
use Rattle.thumb_core.specs.Words.{registers_of_list}
use Rattle.thumb_core.specs.declared.regs.TheConstants.{SP}
use Rattle.frame_facts.specs.declared.facts.Fact.{Fact}
use Rattle.frame_facts.specs.After.{after_of}
use Rattle.frame_facts.specs.Saves.{fact_at_depth, saves_within}
use Rattle.frame_graph.specs.Places.{address_of}
use Rattle.frame_check.specs.Accepts.{Accepted}
use Rattle.frame_check.specs.Roots.{flow_graph_of}
use Rattle.sim_machines.specs.Activations.{Recorded, memory_of}
use Rattle.sim_relation.specs.Holds.{Holds}
use Rattle.sim_relation.specs.Chain.{code}
use Rattle.sim_relation.specs.Stands.{Keeps, IsProgram, DoesAt, Turns}
use Rattle.sim_prologue.specs.sim_code.Bounds.{AreInRange}
use Rattle.sim_accesses.proofs.Stacks.{sp_holds, order}
use Rattle.sim_relation.proofs.Written.{with_gs, holds_moves}
use Rattle.sim_accesses.proofs.Pushing.{is_after, a, regs, new, new_is, falls, gs, moves, push_turns}

-- ---- a PUSH after the prologue

module _ (x : Accepted) (is : IsProgram x) (ranges : AreInRange x) (s : Recorded) (k : Keeps x s) (list : ℕ) (does : DoesAt x s (Push list)) where
  -- what the fact says of the registers and of the saves so far
  pub moved_holds : (d : ℕ) → d ≡ does.at.fact.depth + 4 * length (registers_of_list list) → Holds (code x does.at.function does.at.marks).prologue (fact_at_depth (code x does.at.function does.at.marks).prologue d does.at.fact) s.first s.segments (regs x is s k list does)
  moved_holds d sum =
      let P = (code x does.at.function does.at.marks).prologue in
      let q = falls x is s k list does in
      let e = new_is x is s k list does in
      let at = does.at.holds in
      let lower = at.lower in
      sp_holds (code x does.at.function does.at.marks).prologue does.at.fact s.first s.segments s.regs (regs x is s k list does) d
      (min does.at.fact.kept (saves_within (code x does.at.function does.at.marks).prologue d)) (word_in SP (a x is s k list does)) does.at.fact.below at
      (order x is ranges s k does.at (Push list) does.size does.stands) k.sound.words.count refl (omega (arith, sum, lower, q.0, e)) (λ b. let exact = at.describes.sp b in omega (arith, sum, exact, q.0, e)) (omega arith) (omega arith)

  pub later_push_turns : nat_lt (address_of (flow_graph_of x.image does.at.function) does.at.place) (code x does.at.function does.at.marks).prologue.end ≡ false → (input : List ℕ) → Turns x s input
  later_push_turns past input = push_turns x is s k list does holds input
    where
      holds : (m : Memory) → store_run (memory_of s) (a x is s k list does) (words_of list s.regs) ≡ (Ok tt, m) → (g : Fact)
          → after_of (code x does.at.function does.at.marks).prologue ((code x does.at.function does.at.marks).lowers does.at.place) (address_of (flow_graph_of x.image does.at.function) does.at.place) (Push list) does.at.fact ≡ Ok g
          → Holds (code x does.at.function does.at.marks).prologue g (with_gs s.first (gs x is s k list does)) m.segments (regs x is s k list does)
      holds m stores g e =
          let b = is_after x is s k list does g e in
          let same : g ≡ fact_at_depth (code x does.at.function does.at.marks).prologue b.depth does.at.fact =
          b.gives ∙ ap (λ (t : Bool). cond t (let y : Fact = record does.at.fact { depth = b.depth; kept = saves_within (code x does.at.function does.at.marks).prologue b.depth } in y) (fact_at_depth (code x does.at.function does.at.marks).prologue b.depth does.at.fact)) past in
          subst (λ y. Holds (code x does.at.function does.at.marks).prologue y (with_gs s.first (gs x is s k list does)) m.segments (regs x is s k list does)) (sym same)
          (holds_moves s.segments m.segments (code x does.at.function does.at.marks).prologue (fact_at_depth (code x does.at.function does.at.marks).prologue b.depth does.at.fact) s.first (gs x is s k list does) (regs x is s k list does)
          (moves x is s k list does m stores (new x is s k list does)) (moved_holds b.depth b.sum))
