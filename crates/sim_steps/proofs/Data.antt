-- An instruction of the data group, which works on a register that is not sp: both sp and memory stay, and what is known after it holds.
use Rattle.std.proofs.Common.{◌≡◌, Option, Some, None, Ok, ap, ℕ, Bool, true, false, cond, List, slice_index, ◌∙◌, arith, ◌+◌, length, take, refl, sym, subst, inl, inr}
use Rattle.std.specs.Prelude.{slice_set, Contains}
use Rattle.std.proofs.lemmas.List.{get_or-set_other}
use Rattle.std.specs.Option.{option_or}
use Rattle.frame_facts.specs.declared.facts.Fact.{Fact}
use Rattle.frame_facts.specs.After.{effect_result, after_of, effect}
use Rattle.thumb_core.specs.declared.regs.TheConstants.{SP}
use Rattle.run_images.specs.Start.{begins_function}
use Rattle.thumb_isa.specs.declared.instr.Instr.{Instr}
use Rattle.thumb_core.specs.Laws.{AreSound}
use Rattle.thumb_core.specs.Outcome.{Outcome as Stepping}
use Rattle.thumb_core.specs.Registers.{with_next}
use Rattle.thumb_core.specs.Data.{data_effect}
use Rattle.run_images.specs.Profiles.{profile_of}
use Rattle.thumb_core.specs.Step.{step_for, instr_for}
use Rattle.thumb_core.proofs.Follows.{step_follows}
use Rattle.thumb_core.specs.declared.regs.Regs.{Regs}
use Rattle.thumb_core.specs.declared.regs.Stepped.TheVariants.{Done}
use Rattle.thumb_core.specs.declared.ends.End.{End}
use Rattle.thumb_ahead.specs.Ahead.{branches_some, pushes_some}
use Rattle.frame_facts.specs.declared.saves.Prologue.{Prologue}
use Rattle.frame_facts.specs.Machine.{Describes, IsRoomy, works_on}
use Rattle.frame_facts.specs.Saves.{saves_of}
use Rattle.frame_facts.proofs.Described.{data_described}
use Rattle.frame_code.specs.declared.standing.Standing.TheVariants.{Instruction}
use Rattle.frame_graph.specs.Places.{address_of, standing_at}
use Rattle.sim_machines.specs.frame_check.Accepts.{Accepted}
use Rattle.sim_machines.specs.frame_check.Judged.{IsPlaced}
use Rattle.sim_machines.specs.frame_check.Roles.{look}
use Rattle.sim_machines.proofs.frame_check.Wells.{placed_at}
use Rattle.sim_machines.proofs.frame_reach.Stands.{stands_inside, stands_size}
use Rattle.eh_cxa.specs.ListCalls.{innermost_in}
use Rattle.sim_machines.specs.frame_check.Roots.{flow_graph_of}
use Rattle.sim_machines.specs.Machine.{fell_off, sp_end}
use Rattle.sim_machines.specs.Activations.{Recorded, reg_in, memory_of, cleanups_in}
use Rattle.sim_machines.specs.Checked.{program_of}
use Rattle.thumb_core.specs.declared.ends.TrapKind.TheVariants as kind
use Rattle.thumb_core.specs.declared.ends.End.TheVariants as the_end
use Rattle.sim_machines.specs.ActivationMachine as acts
use Rattle.sim_steps.proofs.DataEffects.{Writes, IsData, data_is}
use Rattle.sim_relation.specs.Holds.{Holds}
use Rattle.sim_relation.specs.Chain.{code, StandsAt}
use Rattle.sim_relation.specs.Stands.{Keeps, IsProgram, OnEvent}
use Rattle.sim_relation.proofs.sim_code.Fetch.{fetched, IsFetched}
use Rattle.sim_relation.proofs.Flows.{leaves, none_stands, stands_instruction}
use Rattle.sim_relation.proofs.Goes.{reguarded_at_one_sp, chain_top, simple_keeps}

gone : (o : Option Fact) (g : Fact) → effect_result None o ≡ Ok g → o ≡ Some g
gone None g e = absurd cc
gone (Some f) g e = let same : f ≡ g = cc in ap (λ (h : Fact). Some h) same

same_sp : (d : ℕ) (old new : List ℕ) → (d ≡ 13 → ⊥) → Writes d old new → slice_index new SP ≡ slice_index old SP
same_sp d old new no_sp w = go w.does w.is
  where
    go : (b : Bool) → new ≡ cond b (slice_set old d w.value) old → slice_index new SP ≡ slice_index old SP
    go true e = ap (λ (r : List ℕ). slice_index r SP) e ∙ get_or-set_other old d SP w.value 0 (λ q. no_sp (sym q))
    go false e = ap (λ (r : List ℕ). slice_index r SP) e

none_or : {A : Type 0} (a b : Option A) → option_or a b ≡ None → b ≡ None
none_or (Some a) b e = absurd cc
none_or None b e = e

-- ---- the event

module _ (x : Accepted) (is : IsProgram x) (s : Recorded) (k : Keeps x s) (at : StandsAt x s.first s.segments s.regs s.regs.pc) (i : Instr) (size d : ℕ)
    (stands : standing_at (flow_graph_of x.image at.function) at.place ≡ Instruction i size) (no_sp : d ≡ 13 → ⊥) (it : IsData i d) (works : works_on i ≡ Some d) where
  abbrev regs : Regs
  regs = with_next size (data_effect i s.regs)

  fetch : IsFetched x.image at.function s.segments is.image at.of.among k.image i size s.regs (memory_of s)
  fetch = fetched x.image at.function s.segments is.image at.of.among k.image at.place i size s.regs (memory_of s) refl at.address stands

  pub stepped : step_for (profile_of x.image) s.regs (memory_of s) ≡ (Done, regs, memory_of s)
  stepped = fetch.step ∙ it.does size s.regs (memory_of s)

  sound : AreSound regs.r regs.pc
  sound = subst (λ (o : Stepping). AreSound o.1.r o.1.pc) stepped ((step_follows (profile_of x.image) s.regs (memory_of s)).sound k.sound)

  left : (g : Fact) × (after_of (code x at.function at.marks).prologue ((code x at.function at.marks).lowers at.place) (address_of (flow_graph_of x.image at.function) at.place) i at.fact ≡ Ok g)
  left = leaves (code x at.function at.marks) at.place at.fact (none_stands x at.function at.marks is.sound at.of.among at.of.are) at.state i
      (stands_instruction (flow_graph_of x.image at.function) at.place i size stands)

  abbrev p : Prologue
  p = (code x at.function at.marks).prologue

  abbrev lowering : Bool
  lowering = (code x at.function at.marks).lowers at.place

  effects : effect p lowering (address_of (flow_graph_of x.image at.function) at.place) i at.fact ≡ Some left.0
  effects = gone _ left.0 (sym (it.plain p lowering (address_of (flow_graph_of x.image at.function) at.place) at.fact) ∙ left.1)

  roomy : IsRoomy s.first.caller.sp s.regs
  roomy =
      let home = k.corresponds.map.home in
      let top = chain_top x s.segments s.home s.first.caller s.outer k.chain in
      record { count = k.sound.words.count; words = k.sound.words.small; room = omega (arith, home.low, k.low, k.high); top = omega (arith, top, home.high) }

  holds : Holds p left.0 s.first s.segments regs
  holds =
      let h = at.holds in
      let frame = it.frame p lowering (address_of (flow_graph_of x.image at.function) at.place) at.fact left.0 effects in
      let told : Describes h.entry s.first.caller.sp left.0 (data_effect i s.regs) =
      data_described h.entry s.first.caller.sp p lowering (address_of (flow_graph_of x.image at.function) at.place) i d at.fact left.0 s.regs works no_sp roomy h.describes effects in
      let sp : slice_index (data_effect i s.regs).r SP ≡ reg_in s SP = same_sp d s.regs.r (data_effect i s.regs).r no_sp (it.writes s.regs) in
      record {
        entry = h.entry;
        saved = h.saved;
        link = h.link;
        describes = record { long = told.long; sources = told.sources; sp = told.sp };
        lower = omega (arith, h.lower, frame.0, sp);
        saves = λ v c. let kept = h.saves v (subst (λ n. Contains (take n (saves_of p)) v) frame.1 c) in
            record { low = kept.low; deep = omega (arith, kept.deep, frame.0); holds = kept.holds; slot = kept.slot };
      }

  sp : slice_index regs.r SP ≡ reg_in s SP
  sp = same_sp d s.regs.r (data_effect i s.regs).r no_sp (it.writes s.regs)

  pc : regs.pc ≡ s.regs.pc + size
  pc =
      let inside = stands_inside (flow_graph_of x.image at.function) at.place i size stands in
      let placed : IsPlaced at.function = subst IsPlaced at.of.among.2 (placed_at x.image at.of.among.0 at.function is.image at.of.among.1) in
      elim (stands_size (flow_graph_of x.image at.function) at.place i size stands) [
        | inl two ↦ omega (arith, it.stays s.regs, at.address, inside, placed.low, k.sound.is_even, two)
        | inr four ↦ omega (arith, it.stays s.regs, at.address, inside, placed.low, k.sound.is_even, four)
      ]

  -- the tests let it pass only where no function begins after it
  fresh : acts.tests (program_of x) s Done regs ≡ None → begins_function x.image.functions regs.pc ≡ false
  fresh e =
      let landing = sp_end (look x.roles s.regs.pc).lowers (innermost_in (cleanups_in s.cleanups)) s.home.0 s.regs.pc (reg_in s SP) (slice_index regs.r SP) in
      let edge = none_or landing (acts.control_flow_trap_of (program_of x) s (branches_some (instr_for (profile_of x.image) (memory_of s) s.regs.pc) s.regs) Done regs) e in
      let straight : branches_some (instr_for (profile_of x.image) (memory_of s) s.regs.pc) s.regs ≡ false = ap (λ (o : Option (Instr × ℕ)). branches_some o s.regs) fetch.stands ∙ it.taken s.regs in
      let fell : fell_off (program_of x) s.regs.pc regs.pc ≡ None = subst (λ (b : Bool). cond b None (fell_off (program_of x) s.regs.pc regs.pc) ≡ None) straight edge in
      go (begins_function x.image.functions regs.pc) fell
    where
      go : (b : Bool) → cond b (Some (the_end.Trap kind.FellOff regs.pc s.regs.pc)) None ≡ None → b ≡ false
      go true h = absurd cc
      go false h = refl

  module _ (input : List ℕ) where
    tested : (o : Option End) → acts.tests (program_of x) s Done regs ≡ o → OnEvent x (acts.event_after_pass (program_of x) s (acts.pass_tests (program_of x) s Done regs (memory_of s) o) input)
    tested (Some end) e = k
    tested None e =
        let none : pushes_some (instr_for (profile_of x.image) (memory_of s) s.regs.pc) ≡ 0 = ap pushes_some fetch.stands ∙ ap length it.pushes in
        let t : Recorded = record s { regs = regs } in
        subst (Keeps x) (sym (reguarded_at_one_sp (look x.roles s.regs.pc).saves (pushes_some (instr_for (profile_of x.image) (memory_of s) s.regs.pc)) (reg_in s SP) (slice_index regs.r SP) t none sp))
        (simple_keeps x is s k at i size stands left.0 regs it.on left.1 pc sp sound holds (fresh e))

    checked : OnEvent x (acts.event_after_pass (program_of x) s (acts.pass_step (program_of x) s (step_for (profile_of x.image) s.regs (memory_of s))) input)
    checked = subst (λ (o : Stepping). OnEvent x (acts.event_after_pass (program_of x) s (acts.pass_step (program_of x) s o) input)) (sym stepped) (tested (acts.tests (program_of x) s Done regs) refl)

    event : (look x.roles s.regs.pc).is_instr ≡ true → OnEvent x (acts.recorded_event (program_of x) s input)
    unfolding acts.recorded_event acts.pass_instruction
    event reached = subst (λ (b : Bool). OnEvent x (acts.event_after_pass (program_of x) s (acts.pass_if_checked (program_of x) s b) input)) (sym reached) checked

-- An event that does an instruction of the data group keeps what every event keeps.
pub data_keeps : (x : Accepted) → IsProgram x → (s : Recorded) → Keeps x s → (at : StandsAt x s.first s.segments s.regs s.regs.pc) (i : Instr) (size d : ℕ)
    → standing_at (flow_graph_of x.image at.function) at.place ≡ Instruction i size → (d ≡ 13 → ⊥) → works_on i ≡ Some d → (look x.roles s.regs.pc).is_instr ≡ true → (input : List ℕ)
    → OnEvent x (acts.recorded_event (program_of x) s input)
data_keeps x is s k at i size d stands no_sp works reached input = event x is s k at i size d stands no_sp (data_is i d works) works input reached
