-- Registers that may change in any edge: those of which the fact says nothing, and after a gate those that it may change.
use Rattle.std.proofs.Common.{ℕ, ◌<◌, ◌≤◌, List, sym, ◌∙◌, arith, ◌≡◌, Bool, true, false, refl, inl, inr, subst, Option, ◌%◌, ◌^◌, ◌⊎◌, Some, slice_index, ap, ◌==◌, ◌+◌}
use Rattle.std.specs.Prelude.{Contains, take}
use Rattle.std.proofs.lemmas.List.{get_or-take, length-take}
use Rattle.std.proofs.lemmas.Option.{same_Some}
use Rattle.std.specs.List.{list_any}
use Rattle.frame_facts.specs.declared.facts.Fact.{Fact}
use Rattle.frame_facts.specs.Facts.{IsAtMost, slot, source, forget_registers}
use Rattle.eh_bus.specs.Segment.{Segment}
use Rattle.thumb_core.specs.Registers.{reg}
use Rattle.thumb_core.specs.declared.regs.Regs.{Regs}
use Rattle.frame_facts.specs.declared.facts.Source.{Source}
use Rattle.frame_facts.specs.declared.saves.Prologue.{Prologue}
use Rattle.frame_facts.specs.Machine.{Means}
use Rattle.frame_facts.specs.Saves.{saves_of}
use Rattle.sim_machines.specs.Activations.{Activation, Recorded, reg_in}
use Rattle.elf_image.specs.Functions.{Function}
use Rattle.frame_dataflow.proofs.Ends.{solves}
use Rattle.frame_facts.specs.declared.cause.FrameCause.{FrameCause}
use Rattle.frame_reach.specs.Marks.{Marks, AreMarks}
use Rattle.frame_flow.specs.Flows.{flow_of, IsStateOf}
use Rattle.frame_flow.proofs.Instance.{laws, finite}
use Rattle.frame_check.specs.Accepts.{Accepted}
use Rattle.frame_check.specs.Judged.{IsPlaced}
use Rattle.frame_check.specs.Roots.{flow_graph_of}
use Rattle.frame_check.proofs.Wells.{placed_at}
use Rattle.frame_dataflow.specs.Flow.{fact_at}
use Rattle.frame_dataflow.proofs.Law.{bounds}
use Rattle.thumb_core.specs.Laws.{AreSound, AreWords}
use Rattle.thumb_core.specs.declared.regs.TheConstants.{SP}
use Rattle.frame_facts.specs.declared.facts.Source.TheVariants.{Other}
use Rattle.frame_check.specs.Roles.{look}
use Rattle.thumb_core.specs.Words.{registers_of_list}
use Rattle.frame_facts.specs.Branches.{gate_changes}
use Rattle.run_images.specs.Start.{begins_function}
use Rattle.thumb_isa.specs.declared.instr.Instr.TheVariants.{Svc}
use Rattle.frame_facts.proofs.Described.{clobbering_described}
use Rattle.sim_relation.specs.Holds.{Holds}
use Rattle.sim_relation.specs.Chain.{code, StandsAt}
use Rattle.sim_changes.specs.Free.{AreFacts, FreeRegisters, FreeAnywhere, FreeAfterGates}
use Rattle.sim_relation.specs.Stands.{IsProgram, Keeps, DoesAt}
use Rattle.sim_relation.proofs.Flows.{none_stands}
use Rattle.sim_relation.proofs.Moves.{moved_holds, clobbered_frame}
use Rattle.sim_relation.proofs.SimpleTurns.{with_regs}
use Rattle.sim_relation.proofs.Goes.{next_stands}

-- ---- a fact that is no less vague holds too

fewer : {X : Type 0} (n m : ℕ) (xs : List X) (y : X) → n ≤ m → Contains (take n xs) y → Contains (take m xs) y
fewer n m xs y h c =
    let few = length-take n xs in
    let more = length-take m xs in
    let low : c.0 < n = omega (arith, few, c.1) in
    (c.0, omega (arith, few, more, c.1, h), get_or-take m xs c.0 y (omega (arith, low, h)) ∙ sym (get_or-take n xs c.0 y low) ∙ c.2)

not_below : (f h : Fact) → IsAtMost f h → h.below ≡ false → f.below ≡ false
not_below f h m e = go f.below h.below refl e m.below
  where
    go : (a b : Bool) → f.below ≡ a → b ≡ false → (Rattle.std.specs.Prelude.IsTrue a → Rattle.std.specs.Prelude.IsTrue b) → a ≡ false
    go false b p q i = refl
    go true true p q i = absurd cc
    go true false p q i = absurd (let e : false ≡ true = i refl in cc)

pub vaguer_holds : (p : Prologue) (f h : Fact) (a : Activation) (segments : List Segment) (regs : Regs) → IsAtMost f h → Holds p f a segments regs → Holds p h a segments regs
vaguer_holds p f h a segments regs m k = record {
  entry = k.entry;
  saved = k.saved;
  link = k.link;
  describes = record {
    long = sym m.long ∙ k.describes.long;
    sources = λ j. elim (m.regs (slot j)) [
      | inl e ↦ subst (λ (s : Source). Means k.entry a.caller.sp s (reg regs j)) e (k.describes.sources j)
      | inr none ↦ subst (λ (s : Source). Means k.entry a.caller.sp s (reg regs j)) (sym none) tt
    ];
    sp = λ b. omega (arith, k.describes.sp (not_below f h m b), m.depth);
  };
  lower = omega (arith, k.lower, m.depth);
  saves = λ s c. let one = k.saves s (fewer h.kept f.kept (saves_of p) s m.kept c) in
      record { low = one.low; deep = omega (arith, one.deep, m.depth); holds = one.holds; slot = one.slot };
}

-- ---- the facts of a function: valid, and each of them a state

-- each function of an accepted image has them
pub has_facts : (x : Accepted) (f : Function) (m : Marks) → IsProgram x → Contains x.image.functions f → AreMarks (flow_graph_of x.image f) m → (facts : List (Option Fact)) × AreFacts x f m facts
has_facts x f m is c are =
    let placed = subst IsPlaced c.2 (placed_at x.image c.0 f is.image c.1) in
    let w = solves Fact FrameCause IsAtMost (flow_of (code x f m)) (laws (code x f m)) (finite (code x f m) placed.some) (none_stands x f m is.sound c are) in
    (w.0, record { valid = w.1; states = w.2 })

-- ---- registers of which nothing is known

module _ (x : Accepted) (s : Recorded) (k : Keeps x s) (new : Regs) (pc : new.pc ≡ s.regs.pc) (words : AreWords 15 new.r) (sp : slice_index new.r SP ≡ reg_in s SP) where
  sound : AreSound new.r new.pc
  sound = record { words = words; small = subst (λ n. n < 2 ^ 32) (sym pc) k.sound.small; is_even = subst (λ n. n % 2 ≡ 0) (sym pc) k.sound.is_even }

  -- where no checked instruction stands at pc all may change
  pub free_anywhere : (look x.roles s.regs.pc).is_instr ≡ false → Keeps x (record s { regs = new })
  free_anywhere none = with_regs x s k new sound sp (λ reached. absurd (let clash : true ≡ false = sym reached ∙ ap (λ n. (look x.roles n).is_instr) pc ∙ none in cc))

  module _ (at : StandsAt x s.first s.segments s.regs s.regs.pc) where
    at_fact : (h : Fact) → IsStateOf (code x at.function at.marks) at.place h → Holds (code x at.function at.marks).prologue h s.first s.segments new → Keeps x (record s { regs = new })
    at_fact h state holds = with_regs x s k new sound sp (λ reached. record {
      function = at.function;
      marks = at.marks;
      of = at.of;
      place = at.place;
      address = pc ∙ at.address;
      fact = h;
      state = state;
      holds = holds;
    })

    -- by the state that the run is in
    pub free_by_state : ((j : ℕ) → (source at.fact j ≡ Other) ⊎ (reg new j ≡ reg s.regs j)) → Keeps x (record s { regs = new })
    free_by_state same = at_fact at.fact at.state (moved_holds (code x at.function at.marks).prologue at.fact s.first s.segments s.regs new at.holds same sp)

    -- by the fact of the place
    pub free_by_fact : (facts : List (Option Fact)) → AreFacts x at.function at.marks facts → (h : Fact) → fact_at facts at.place ≡ Some h
        → ((j : ℕ) → (source h j ≡ Other) ⊎ (reg new j ≡ reg s.regs j)) → Keeps x (record s { regs = new })
    free_by_fact facts are h e same =
        let flow = flow_of (code x at.function at.marks) in
        let w = (bounds Fact FrameCause IsAtMost flow facts (laws (code x at.function at.marks)) are.valid).0 at.place at.fact at.state in
        let is : w.0 ≡ h = same_Some w.0 h (sym w.1 ∙ e) in
        let vaguer = vaguer_holds (code x at.function at.marks).prologue at.fact h s.first s.segments s.regs (subst (IsAtMost at.fact) is w.2) at.holds in
        at_fact h (are.states at.place h e) (moved_holds (code x at.function at.marks).prologue h s.first s.segments s.regs new vaguer same sp)

-- ---- after a gate

sp_stays : list_any (λ (i : ℕ). i == 13) gate_changes ≡ false
unfolding registers_of_list
sp_stays = refl

-- at a checked SVC whose next address is no function's start pc may go there, with any words in r0 to r3 and r12
pub free_after_gate : (x : Accepted) (s : Recorded) (number : ℕ) (new : Regs) → IsProgram x → Keeps x s → (does : DoesAt x s (Svc number)) → begins_function x.image.functions (s.regs.pc + does.size) ≡ false
    → new.pc ≡ s.regs.pc + does.size → AreSound new.r new.pc → ((j : ℕ) → list_any (λ (i : ℕ). i == j) gate_changes ≡ false → reg new j ≡ reg s.regs j) → Keeps x (record s { regs = new })
free_after_gate x s number new is k does fresh pc sound same =
    with_regs x s k new sound sp (λ reached. next_stands x is s k does.at (Svc number) does.size does.stands (forget_registers gate_changes does.at.fact) new s.segments s.first refl refl refl pc holds reached
    (subst (λ n. begins_function x.image.functions n ≡ false) (sym pc) fresh))
  where
    sp : slice_index new.r SP ≡ reg_in s SP
    sp = same 13 sp_stays

    holds : Holds (code x does.at.function does.at.marks).prologue (forget_registers gate_changes does.at.fact) s.first s.segments new
    holds =
        let h = does.at.holds in
        let frame = clobbered_frame gate_changes does.at.fact in
        record {
          entry = h.entry;
          saved = h.saved;
          link = h.link;
          describes = clobbering_described h.entry s.first.caller.sp gate_changes does.at.fact s.regs new h.describes same sp_stays;
          lower = omega (arith, h.lower, frame.0, sp);
          saves = λ w e. let one = h.saves w (subst (λ n. Contains (take n (saves_of (code x does.at.function does.at.marks).prologue)) w) frame.1 e) in
              record { low = one.low; deep = omega (arith, one.deep, frame.0); holds = one.holds; slot = one.slot };
        }

-- ---- as the specifications say them

pub registers : FreeRegisters
registers x s new k other at facts are h e same = free_by_fact x s k new other.pc other.words other.sp at facts are h e same

pub anywhere : FreeAnywhere
anywhere x s new k other none = free_anywhere x s k new other.pc other.words other.sp none

pub after_gates : FreeAfterGates
after_gates = free_after_gate
