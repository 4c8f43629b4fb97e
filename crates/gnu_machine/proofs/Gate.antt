-- Where a gate is done, its instruction stands at a place of the first activation's function.
use Rattle.std.proofs.Common.{◌≡◌, ℕ, zero, suc, ◌+◌, ◌-◌, ◌/◌, ◌<◌, inl, inr, ◌&&◌, nat_le, Bool, true, false, cond, [], Option, Some, None, Ok, refl, sym, ap, subst, ◌∙◌, arith}
use Rattle.std.specs.Prelude.{Contains}
use Rattle.std.proofs.lemmas.Bool.{and_parts, cases_eq, eqb-true, lt-leb}
use Rattle.std.proofs.lemmas.List.Elements.{Contains-append_left}
use Rattle.std.proofs.lemmas.Option.{same_Some}
use Rattle.eh_bus.specs.Memory.{fetch}
use Rattle.frame_dataflow.proofs.Work.{contains_head}
use Rattle.frame_check.specs.Accepts.{Accepted}
use Rattle.frame_check.specs.Roles.{look}
use Rattle.frame_check.specs.Roots.{flow_graph_of}
use Rattle.frame_facts.specs.declared.cause.FrameCause.TheVariants.{Undecodable}
use Rattle.frame_flow.specs.Causes.{cause_if, causes_at}
use Rattle.frame_code.specs.declared.standing.Standing.{Standing}
use Rattle.frame_code.specs.declared.standing.Standing.TheVariants.{Instruction, Udf, Nothing}
use Rattle.frame_code.specs.Standing.{is_nothing, is_udf, standing_by, standing_of_decoded, wide_of}
use Rattle.frame_graph.specs.Edges.{is_undecodable}
use Rattle.frame_graph.specs.Places.{standing_at, halfword_of}
use Rattle.thumb_isa.specs.declared.instr.Decoded.{Decoded}
use Rattle.thumb_isa.specs.declared.instr.Decoded.TheVariants.{Is, Undefined, Unpredictable, NotInProfile}
use Rattle.thumb_isa.specs.declared.instr.Instr.{Instr}
use Rattle.thumb_isa.specs.declared.instr.Instr.TheVariants.{Svc}
use Rattle.thumb_isa.specs.Rows.{decode_result, late_decode_result, decode_result_for}
use Rattle.thumb_isa.specs.declared.profile.Profile.{Profile}
use Rattle.thumb_isa.specs.declared.profile.Profile.TheVariants.{One, Two}
use Rattle.thumb_core.specs.Laws.{Leaves}
use Rattle.thumb_core.specs.Step.{step_for, instr_for, instr_of}
use Rattle.thumb_core.specs.declared.regs.Stepped.{Stepped}
use Rattle.thumb_core.specs.declared.regs.Stepped.TheVariants.{Gate}
use Rattle.thumb_core.proofs.Acts.{step_acts}
use Rattle.sim_machines.specs.Program.{profile_in}
use Rattle.sim_machines.specs.Checked.{program_of}
use Rattle.sim_machines.specs.Activations.{Recorded, memory_of}
use Rattle.sim_relation.proofs.sim_code.Fetch.{code_fetch}
use Rattle.sim_relation.specs.Chain.{StandsAt, code}
use Rattle.sim_relation.specs.Stands.{Keeps, IsProgram, DoesAt}
use Rattle.sim_relation.proofs.Flows.{none_stands}
use Rattle.sim_relation.proofs.SimpleTurns.{fetch as fetched_at}
use Rattle.sim_resumes.proofs.sim_steps.Jumps.{not_found}

-- ---- what stands at pc is an instruction

abbrev undefined : Decoded → Bool
undefined (Is i size) = false
undefined Undefined = true
undefined Unpredictable = false
undefined NotInProfile = false

all_undefined : Profile → ℕ → Bool
all_undefined p zero = true
all_undefined p (suc n) = undefined (decode_result_for p (0xde00 + n) 0) && all_undefined p n

all : (p : Profile) → all_undefined p 256 ≡ true
unfolding decode_result late_decode_result all_undefined
all One = refl
all Two = refl

among : (p : Profile) (n k : ℕ) → all_undefined p n ≡ true → k < n → undefined (decode_result_for p (0xde00 + k) 0) ≡ true
unfolding all_undefined
among p zero k e h = absurd (omega (arith, h))
among p (suc n) k e h =
    let w = and_parts (undefined (decode_result_for p (0xde00 + n) 0)) (all_undefined p n) e in
    elim (cases_eq k n) [
      | inl same ↦ subst (λ j. undefined (decode_result_for p (0xde00 + j) 0) ≡ true) (sym same) w.0
      | inr other ↦ among p n k w.1 (omega (arith, h, other))
    ]

is_none : (d : Decoded) → undefined d ≡ true → instr_of d ≡ None
is_none (Is i size) e = absurd cc
is_none Undefined e = refl
is_none Unpredictable e = absurd cc
is_none NotInProfile e = absurd cc

module _ (x : Accepted) (is : IsProgram x) (s : Recorded) (k : Keeps x s) (number size : ℕ) (gate : instr_for (profile_in (program_of x)) (memory_of s) s.regs.pc ≡ Some (Svc number, size)) (reached : (look x.roles s.regs.pc).is_instr ≡ true) where
  abbrev profile : Profile
  profile = profile_in (program_of x)

  at : StandsAt x s.first s.segments s.regs s.regs.pc
  at = k.first reached

  not_nothing : standing_at (flow_graph_of x.image at.function) at.place ≡ Nothing → ⊥
  unfolding causes_at
  not_nothing e =
      let c = code x at.function at.marks in
      let yes : is_undecodable c.flow_graph at.place ≡ true = ap is_nothing e in
      let first : Contains (cause_if (is_undecodable c.flow_graph at.place) Undecodable) Undecodable = rw yes (contains_head Undecodable []) in
      not_found c at.place at.fact (none_stands x at.function at.marks is.sound at.of.among at.of.are) at.state Undecodable
      (Contains-append_left (cause_if (is_undecodable c.flow_graph at.place) Undecodable) _ Undecodable first)

  none_gate : ◌≡◌ {A = Option (Instr × ℕ)} None (Some (Svc number, size)) → ⊥
  none_gate e = cc

  not_udf : standing_at (flow_graph_of x.image at.function) at.place ≡ Udf → ⊥
  unfolding standing_at
  not_udf e = by_halves (halfword_of (flow_graph_of x.image at.function) at.place) (halfword_of (flow_graph_of x.image at.function) (at.place + 1)) refl e
    where
      none_at : (first : ℕ) → halfword_of (flow_graph_of x.image at.function) at.place ≡ Some first → is_udf first ≡ true → instr_for profile (memory_of s) s.regs.pc ≡ None
      none_at first h udf =
          let top : first / 256 ≡ 0xde = eqb-true (first / 256) 0xde udf in
          let same : 0xde00 + (first - 0xde00) ≡ first = omega (arith, top) in
          let fetches : fetch (memory_of s) s.regs.pc ≡ Ok first = rw at.address (code_fetch x.image at.function s.segments is.image at.of.among k.image at.place first h) in
          let narrow : nat_le 0xe800 first ≡ false = lt-leb 0xe800 first (omega (arith, top)) in
          let none : instr_of (decode_result_for profile first 0) ≡ None =
          subst (λ n. instr_of (decode_result_for profile n 0) ≡ None) same (is_none (decode_result_for profile (0xde00 + (first - 0xde00)) 0) (among profile 256 (first - 0xde00) (all profile) (omega (arith, top)))) in
          rw (fetches, narrow) none

      of_decoded_not : (d : Decoded) → standing_of_decoded d ≡ Udf → ⊥
      of_decoded_not (Is i size) h = absurd cc
      of_decoded_not Undefined h = absurd cc
      of_decoded_not Unpredictable h = absurd cc
      of_decoded_not NotInProfile h = absurd cc

      wide_not : (first : ℕ) (w : Option ℕ) → wide_of profile first w ≡ Udf → ⊥
      wide_not first None h = absurd cc
      wide_not first (Some second) h = of_decoded_not (decode_result_for profile first second) h

      by_udf : (u b : Bool) (first : ℕ) (w : Option ℕ) → halfword_of (flow_graph_of x.image at.function) at.place ≡ Some first → is_udf first ≡ u
          → cond u Udf (cond b (standing_of_decoded (decode_result_for profile first 0)) (wide_of profile first w)) ≡ Udf → ⊥
      by_udf true b first w h u g = none_gate (sym (none_at first h u) ∙ gate)
      by_udf false true first w h u g = of_decoded_not (decode_result_for profile first 0) g
      by_udf false false first w h u g = wide_not first w g

      by_halves : (o w : Option ℕ) → halfword_of (flow_graph_of x.image at.function) at.place ≡ o → standing_by profile o w ≡ Udf → ⊥
      by_halves None w h g = absurd cc
      by_halves (Some first) w h g = by_udf (is_udf first) _ first w h refl g

  pub does : DoesAt x s (Svc number)
  does = by (standing_at (flow_graph_of x.image at.function) at.place) refl
    where
      by : (t : Standing) → standing_at (flow_graph_of x.image at.function) at.place ≡ t → DoesAt x s (Svc number)
      by (Instruction i n) e =
          let stands = (fetched_at x is s k at i n e).stands in
          let same : ◌≡◌ {A = Instr × ℕ} (i, n) (Svc number, size) = same_Some _ _ (sym stands ∙ gate) in
          record { reached = reached; at = at; size = n; stands = e ∙ ap (λ (j : Instr). Instruction j n) (ap (λ (w : Instr × ℕ). w.0) same) }
      by Udf e = absurd (not_udf e)
      by Nothing e = absurd (not_nothing e)

-- by what was done
pub gate_there : (x : Accepted) → IsProgram x → (s : Recorded) → Keeps x s → (number : ℕ) → (step_for (profile_in (program_of x)) s.regs (memory_of s)).0 ≡ Gate number → (look x.roles s.regs.pc).is_instr ≡ true → DoesAt x s (Svc number)
gate_there x is s k number step reached =
    let acts = step_acts (profile_in (program_of x)) s.regs (memory_of s) (record { count = k.sound.words.count; words = k.sound.words.small }) in
    let left = subst (λ (w : Stepped). Leaves (instr_for (profile_in (program_of x)) (memory_of s) s.regs.pc) w s.regs (memory_of s) (step_for (profile_in (program_of x)) s.regs (memory_of s)).1) step acts.leaves in
    does x is s k number left.0 left.1 reached
