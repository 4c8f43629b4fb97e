-- An event by the instruction at pc: where no checked one stands there, or UDF does, both machines end alike and leave the state.
use Rattle.std.proofs.Common.{◌≡◌, ℕ, Bool, false, List, refl, sym, subst, true, zero, suc, ◌+◌, ◌&&◌, ◌<◌, inl, inr, arith, ◌-◌, ◌/◌, nat_le, cond, [], Option, Some, None, Ok, ap}
use Rattle.std.proofs.lemmas.Bool.{and_parts, cases_eq, eqb-true, lt-leb}
use Rattle.std.specs.Prelude.{Contains}
use Rattle.std.proofs.lemmas.List.Elements.{Contains-append_left}
use Rattle.sim_machines.specs.frame_check.Accepts.{Accepted}
use Rattle.sim_machines.specs.frame_check.Roles.{look}
use Rattle.sim_machines.specs.Activations.{Recorded, bytes_of, memory_of}
use Rattle.sim_machines.specs.ActivationLaws.{Matches}
use Rattle.sim_machines.specs.Checked.{program_of}
use Rattle.thumb_isa.specs.declared.instr.Decoded.{Decoded}
use Rattle.thumb_isa.specs.declared.instr.Decoded.TheVariants.{Is, Undefined, Unpredictable, NotInProfile}
use Rattle.thumb_isa.specs.Rows.{decode_result, late_decode_result, decode_result_for}
use Rattle.thumb_isa.specs.declared.profile.Profile.{Profile}
use Rattle.thumb_isa.specs.declared.profile.Profile.TheVariants.{One, Two}
use Rattle.frame_code.specs.Standing.{is_udf, standing_by, standing_of_decoded, wide_of, is_nothing}
use Rattle.frame_graph.specs.Places.{standing_at, halfword_of}
use Rattle.eh_bus.specs.Memory.{fetch}
use Rattle.frame_dataflow.proofs.Work.{contains_head}
use Rattle.thumb_isa.specs.declared.instr.Instr.{Instr}
use Rattle.run_images.specs.Profiles.{profile_of}
use Rattle.thumb_core.specs.Step.{step_for, outcome_of, instr_for, instr_of}
use Rattle.thumb_core.specs.declared.regs.Stepped.TheVariants.{Trap}
use Rattle.frame_facts.specs.declared.cause.FrameCause.TheVariants.{Undecodable}
use Rattle.frame_code.specs.declared.standing.Standing.{Standing}
use Rattle.frame_code.specs.declared.standing.Standing.TheVariants.{Instruction, Udf, Nothing}
use Rattle.frame_graph.specs.Edges.{is_undecodable}
use Rattle.sim_machines.specs.frame_flow.Causes.{cause_if, causes_at}
use Rattle.sim_machines.specs.frame_check.Roots.{flow_graph_of}
use Rattle.sim_machines.specs.Machine as bytes
use Rattle.sim_machines.specs.ActivationMachine as acts
use Rattle.thumb_core.specs.declared.regs.CoreTrap.TheVariants as trap
use Rattle.sim_relation.specs.Stands.{Keeps, OnEvent, Turns, IsProgram, DoesAt}
use Rattle.sim_relation.specs.Chain.{code, StandsAt}
use Rattle.sim_relation.proofs.sim_code.Fetch.{code_fetch}
use Rattle.sim_relation.proofs.Flows.{none_stands}
use Rattle.sim_steps.proofs.Jumps.{not_found}
use Rattle.sim_relation.proofs.Traps.{trap_turns}

-- ---- no checked instruction

pub unreached_turns : (x : Accepted) (s : Recorded) (input : List ℕ) → Keeps x s → (look x.roles s.regs.pc).is_instr ≡ false → Turns x s input
unfolding acts.recorded_event acts.pass_instruction bytes.machine_event bytes.pass_instruction
unreached_turns x s input k none = record {
  same = subst (λ (b : Bool). Matches (bytes.event_after_pass (program_of x) (bytes_of s) (bytes.pass_if_checked (program_of x) (bytes_of s) b) input) (acts.event_after_pass (program_of x) s (acts.pass_if_checked (program_of x) s b) input)) (sym none) (refl, refl);
  keeps = subst (λ (b : Bool). OnEvent x (acts.event_after_pass (program_of x) s (acts.pass_if_checked (program_of x) s b) input)) (sym none) k;
}

-- ---- UDF is undefined

abbrev undefined : Decoded → Bool
undefined (Is i size) = false
undefined Undefined = true
undefined Unpredictable = false
undefined NotInProfile = false

all_undefined : Profile → ℕ → Bool
all_undefined p zero = true
all_undefined p (suc n) = undefined (decode_result_for p (0xde00 + n) 0) && all_undefined p n

all : (p : Profile) → all_undefined p 256 ≡ true
unfolding decode_result late_decode_result all_undefined
all One = refl
all Two = refl

among : (p : Profile) (n k : ℕ) → all_undefined p n ≡ true → k < n → undefined (decode_result_for p (0xde00 + k) 0) ≡ true
unfolding all_undefined
among p zero k e h = absurd (omega (arith, h))
among p (suc n) k e h =
    let w = and_parts (undefined (decode_result_for p (0xde00 + n) 0)) (all_undefined p n) e in
    elim (cases_eq k n) [
      | inl same ↦ subst (λ j. undefined (decode_result_for p (0xde00 + j) 0) ≡ true) (sym same) w.0
      | inr other ↦ among p n k w.1 (omega (arith, h, other))
    ]

is_undefined : (d : Decoded) → undefined d ≡ true → d ≡ Undefined
is_undefined (Is i size) e = absurd cc
is_undefined Undefined e = refl
is_undefined Unpredictable e = absurd cc
is_undefined NotInProfile e = absurd cc

udf_undefined : (p : Profile) (first : ℕ) → is_udf first ≡ true → decode_result_for p first 0 ≡ Undefined
udf_undefined p first e =
    let top : first / 256 ≡ 0xde = eqb-true (first / 256) 0xde e in
    let same : 0xde00 + (first - 0xde00) ≡ first = omega (arith, top) in
    subst (λ n. decode_result_for p n 0 ≡ Undefined) same (is_undefined (decode_result_for p (0xde00 + (first - 0xde00)) 0) (among p 256 (first - 0xde00) (all p) (omega (arith, top))))

-- ---- what stands at a place with a state

module _ (x : Accepted) (s : Recorded) (input : List ℕ) (is : IsProgram x) (k : Keeps x s) (at : StandsAt x s.first s.segments s.regs s.regs.pc) where
  not_nothing : standing_at (flow_graph_of x.image at.function) at.place ≡ Nothing → ⊥
  unfolding causes_at
  not_nothing e =
      let c = code x at.function at.marks in
      let yes : is_undecodable c.flow_graph at.place ≡ true = ap is_nothing e in
      let first : Contains (cause_if (is_undecodable c.flow_graph at.place) Undecodable) Undecodable = rw yes (contains_head Undecodable []) in
      not_found c at.place at.fact (none_stands x at.function at.marks is.sound at.of.among at.of.are) at.state Undecodable
      (Contains-append_left (cause_if (is_undecodable c.flow_graph at.place) Undecodable) _ Undecodable first)

  udf_traps : standing_at (flow_graph_of x.image at.function) at.place ≡ Udf → Turns x s input
  unfolding standing_at
  udf_traps e = by_halves (halfword_of (flow_graph_of x.image at.function) at.place) (halfword_of (flow_graph_of x.image at.function) (at.place + 1)) refl e
    where
      step : (first : ℕ) → halfword_of (flow_graph_of x.image at.function) at.place ≡ Some first → is_udf first ≡ true → step_for (profile_of x.image) s.regs (memory_of s) ≡ (Trap (trap.Undefined first), s.regs, memory_of s)
      step first h udf =
          let top : first / 256 ≡ 0xde = eqb-true (first / 256) 0xde udf in
          let fetches : fetch (memory_of s) s.regs.pc ≡ Ok first = rw at.address (code_fetch x.image at.function s.segments is.image at.of.among k.image at.place first h) in
          let narrow : nat_le 0xe800 first ≡ false = lt-leb 0xe800 first (omega (arith, top)) in
          rw (fetches, narrow) (ap (λ (d : Decoded). outcome_of d first s.regs (memory_of s)) (udf_undefined (profile_of x.image) first udf))

      none_at : (first : ℕ) → halfword_of (flow_graph_of x.image at.function) at.place ≡ Some first → is_udf first ≡ true → instr_for (profile_of x.image) (memory_of s) s.regs.pc ≡ None
      none_at first h udf =
          let top : first / 256 ≡ 0xde = eqb-true (first / 256) 0xde udf in
          let fetches : fetch (memory_of s) s.regs.pc ≡ Ok first = rw at.address (code_fetch x.image at.function s.segments is.image at.of.among k.image at.place first h) in
          let narrow : nat_le 0xe800 first ≡ false = lt-leb 0xe800 first (omega (arith, top)) in
          rw (fetches, narrow) (ap instr_of (udf_undefined (profile_of x.image) first udf))

      of_decoded_not : (d : Decoded) → standing_of_decoded d ≡ Udf → ⊥
      of_decoded_not (Is i size) h = absurd cc
      of_decoded_not Undefined h = absurd cc
      of_decoded_not Unpredictable h = absurd cc
      of_decoded_not NotInProfile h = absurd cc

      wide_not : (first : ℕ) (w : Option ℕ) → wide_of (profile_of x.image) first w ≡ Udf → ⊥
      wide_not first None h = absurd cc
      wide_not first (Some second) h = of_decoded_not (decode_result_for (profile_of x.image) first second) h

      by_udf : (u b : Bool) (first : ℕ) (w : Option ℕ) → halfword_of (flow_graph_of x.image at.function) at.place ≡ Some first → is_udf first ≡ u
          → cond u Udf (cond b (standing_of_decoded (decode_result_for (profile_of x.image) first 0)) (wide_of (profile_of x.image) first w)) ≡ Udf → Turns x s input
      by_udf true b first w h u g = trap_turns x s input (trap.Undefined first) s.regs (memory_of s) k (step first h u)
          (ap (λ (q : Option (Instr × ℕ)). acts.registers_after_return s (acts.pops_some q)) (none_at first h u))
      by_udf false true first w h u g = absurd (of_decoded_not (decode_result_for (profile_of x.image) first 0) g)
      by_udf false false first w h u g = absurd (wide_not first w g)

      by_halves : (o w : Option ℕ) → halfword_of (flow_graph_of x.image at.function) at.place ≡ o → standing_by (profile_of x.image) o w ≡ Udf → Turns x s input
      by_halves None w h g = absurd cc
      by_halves (Some first) w h g = by_udf (is_udf first) _ first w h refl g

  module _ (reached : (look x.roles s.regs.pc).is_instr ≡ true) (each : (i : Instr) → DoesAt x s i → Turns x s input) where
    by_standing : (t : Standing) → standing_at (flow_graph_of x.image at.function) at.place ≡ t → Turns x s input
    by_standing (Instruction i size) e = each i (record { reached = reached; at = at; size = size; stands = e })
    by_standing Udf e = udf_traps e
    by_standing Nothing e = absurd (not_nothing e)

    at_reached : Turns x s input
    at_reached = by_standing (standing_at (flow_graph_of x.image at.function) at.place) refl

-- An event is that of an instruction which stands at pc, or ends alike in both machines.
pub turns_by_instruction : (x : Accepted) (s : Recorded) (input : List ℕ) → IsProgram x → Keeps x s → ((i : Instr) → DoesAt x s i → Turns x s input) → Turns x s input
turns_by_instruction x s input is k each = go (look x.roles s.regs.pc).is_instr refl
  where
    go : (b : Bool) → (look x.roles s.regs.pc).is_instr ≡ b → Turns x s input
    go true e = at_reached x s input is k (k.first e) e each
    go false e = unreached_turns x s input k e
