-- A state at a site, of an accepted image, stands at a gate or a call that the checker reached.
use Rattle.std.proofs.Common.{◌≡◌, ℕ, zero, suc, ◌+◌, ◌-◌, ◌/◌, ◌%◌, ◌^◌, ◌<◌, ◌&&◌, nat_le, Bool, true, false, cond, [], refl, sym, ap, subst, Option, Some, None, Ok, inl, inr, arith}
use Rattle.std.specs.Prelude.{Contains}
use Rattle.std.proofs.lemmas.Bool.{and_parts, cases_eq, eqb-true, lt-leb}
use Rattle.std.proofs.lemmas.List.Elements.{Contains-append_left}
use Rattle.std.proofs.lemmas.Option.{same_Some, none-some}
use Rattle.eh_bus.specs.Memory.{fetch}
use Rattle.thumb_isa.specs.declared.instr.Instr.{Instr}
use Rattle.thumb_isa.specs.declared.instr.Instr.TheVariants.{Bl, Blx, Svc}
use Rattle.thumb_isa.specs.declared.instr.Decoded.{Decoded}
use Rattle.thumb_isa.specs.declared.instr.Decoded.TheVariants.{Is, Undefined, Unpredictable, NotInProfile}
use Rattle.thumb_isa.specs.Rows.{decode_result, late_decode_result, decode_result_for}
use Rattle.thumb_isa.specs.declared.profile.Profile.{Profile}
use Rattle.thumb_isa.specs.declared.profile.Profile.TheVariants.{One, Two}
use Rattle.thumb_core.specs.Step.{instr_for, instr_of}
use Rattle.frame_facts.specs.declared.cause.FrameCause.TheVariants.{Undecodable}
use Rattle.frame_code.specs.declared.standing.Standing.{Standing}
use Rattle.frame_code.specs.declared.standing.Standing.TheVariants.{Instruction, Udf, Nothing}
use Rattle.frame_code.specs.Standing.{is_udf, standing_by, standing_of_decoded, wide_of, is_nothing}
use Rattle.frame_graph.specs.Places.{standing_at, halfword_of}
use Rattle.frame_graph.specs.FlowGraph.{FlowGraph}
use Rattle.frame_graph.specs.Edges.{is_undecodable}
use Rattle.frame_check.specs.frame_flow.Causes.{cause_if, causes_at}
use Rattle.frame_check.specs.Accepts.{Accepted}
use Rattle.frame_check.specs.Judged.{IsPlaced}
use Rattle.frame_check.specs.Roots.{flow_graph_of}
use Rattle.frame_check.specs.Roles.{look}
use Rattle.frame_check.proofs.Wells.{placed_at}
use Rattle.frame_reach.proofs.Stands.{stands_inside, stands_size}
use Rattle.sim_machines.specs.Activations.{Recorded, memory_of}
use Rattle.sim_machines.specs.Checked.{program_of}
use Rattle.sim_machines.specs.Program.{profile_in}
use Rattle.frame_dataflow.proofs.Work.{contains_head}
use Rattle.sim_relation.proofs.sim_code.Fetch.{code_fetch}
use Rattle.sim_relation.specs.Chain.{code, StandsAt}
use Rattle.sim_relation.specs.Stands.{Keeps, IsProgram, DoesAt}
use Rattle.sim_relation.proofs.Flows.{none_stands}
use Rattle.sim_relation.proofs.SimpleTurns as simple
use Rattle.sim_changes.proofs.sim_steps.Jumps.{not_found}
use Rattle.eh_machine.specs.sim_frames.Frames.{ThrowsAt}
use Rattle.eh_walk.specs.Sites.{site_by, site_at, site_state}

-- ---- UDF is no instruction

abbrev is_instr : Decoded → Bool
is_instr (Is i size) = true
is_instr Undefined = false
is_instr Unpredictable = false
is_instr NotInProfile = false

all_others : Profile → ℕ → Bool
all_others p zero = true
all_others p (suc n) = cond (is_instr (decode_result_for p (0xde00 + n) 0)) false true && all_others p n

all : (p : Profile) → all_others p 256 ≡ true
unfolding decode_result late_decode_result all_others
all One = refl
all Two = refl

other : (b : Bool) → cond b false true ≡ true → b ≡ false
other true e = absurd cc
other false e = refl

among : (p : Profile) (n k : ℕ) → all_others p n ≡ true → k < n → is_instr (decode_result_for p (0xde00 + k) 0) ≡ false
unfolding all_others
among p zero k e h = absurd (omega (arith, h))
among p (suc n) k e h =
    let w = and_parts (cond (is_instr (decode_result_for p (0xde00 + n) 0)) false true) (all_others p n) e in
    elim (cases_eq k n) [
      | inl same ↦ subst (λ j. is_instr (decode_result_for p (0xde00 + j) 0) ≡ false) (sym same) (other (is_instr (decode_result_for p (0xde00 + n) 0)) w.0)
      | inr differ ↦ among p n k w.1 (omega (arith, h, differ))
    ]

none_of : (d : Decoded) → is_instr d ≡ false → instr_of d ≡ None
none_of (Is i size) e = absurd cc
none_of Undefined e = refl
none_of Unpredictable e = refl
none_of NotInProfile e = refl

udf_none : (p : Profile) (first : ℕ) → is_udf first ≡ true → instr_of (decode_result_for p first 0) ≡ None
udf_none p first e =
    let top : first / 256 ≡ 0xde = eqb-true (first / 256) 0xde e in
    let same : 0xde00 + (first - 0xde00) ≡ first = omega (arith, top) in
    subst (λ n. instr_of (decode_result_for p n 0) ≡ None) same (none_of (decode_result_for p (0xde00 + (first - 0xde00)) 0) (among p 256 (first - 0xde00) (all p) (omega (arith, top))))

not_udf : (d : Decoded) → standing_of_decoded d ≡ Udf → ⊥
not_udf (Is i size) e = cc
not_udf Undefined e = cc
not_udf Unpredictable e = cc
not_udf NotInProfile e = cc

wide_not : (p : Profile) (first : ℕ) (w : Option ℕ) → wide_of p first w ≡ Udf → ⊥
wide_not p first None e = cc
wide_not p first (Some second) e = not_udf (decode_result_for p first second) e

-- ---- what stands at pc

module _ (x : Accepted) (is : IsProgram x) (s : Recorded) (k : Keeps x s) (at : StandsAt x s.first s.segments s.regs s.regs.pc) where
  abbrev flow_graph : FlowGraph
  flow_graph = flow_graph_of x.image at.function

  abbrev profile : Profile
  profile = profile_in (program_of x)

  not_nothing : standing_at flow_graph at.place ≡ Nothing → ⊥
  unfolding causes_at
  not_nothing e =
      let c = code x at.function at.marks in
      let yes : is_undecodable c.flow_graph at.place ≡ true = ap is_nothing e in
      let first : Contains (cause_if (is_undecodable c.flow_graph at.place) Undecodable) Undecodable = rw yes (contains_head Undecodable []) in
      not_found c at.place at.fact (none_stands x at.function at.marks is.sound at.of.among at.of.are) at.state Undecodable
      (Contains-append_left (cause_if (is_undecodable c.flow_graph at.place) Undecodable) _ Undecodable first)

  none_at : standing_at flow_graph at.place ≡ Udf → instr_for profile (memory_of s) s.regs.pc ≡ None
  unfolding standing_at
  none_at e = by_halves (halfword_of flow_graph at.place) (halfword_of flow_graph (at.place + 1)) refl e
    where
      none_by : (first : ℕ) → halfword_of flow_graph at.place ≡ Some first → is_udf first ≡ true → instr_for profile (memory_of s) s.regs.pc ≡ None
      none_by first h udf =
          let top : first / 256 ≡ 0xde = eqb-true (first / 256) 0xde udf in
          let fetches : fetch (memory_of s) s.regs.pc ≡ Ok first = rw at.address (code_fetch x.image at.function s.segments is.image at.of.among k.image at.place first h) in
          let narrow : nat_le 0xe800 first ≡ false = lt-leb 0xe800 first (omega (arith, top)) in
          rw (fetches, narrow) (udf_none profile first udf)

      by_udf : (u b : Bool) (first : ℕ) (w : Option ℕ) → halfword_of flow_graph at.place ≡ Some first → is_udf first ≡ u
          → cond u Udf (cond b (standing_of_decoded (decode_result_for profile first 0)) (wide_of profile first w)) ≡ Udf → instr_for profile (memory_of s) s.regs.pc ≡ None
      by_udf true b first w h u g = none_by first h u
      by_udf false true first w h u g = absurd (not_udf (decode_result_for profile first 0) g)
      by_udf false false first w h u g = absurd (wide_not profile first w g)

      by_halves : (o w : Option ℕ) → halfword_of flow_graph at.place ≡ o → standing_by profile o w ≡ Udf → instr_for profile (memory_of s) s.regs.pc ≡ None
      by_halves None w h g = absurd cc
      by_halves (Some first) w h g = by_udf (is_udf first) _ first w h refl g

  placed : IsPlaced at.function
  placed = subst IsPlaced at.of.among.2 (placed_at x.image at.of.among.0 at.function is.image at.of.among.1)

  -- the instruction lies below the end of all addresses
  below : (i : Instr) (size : ℕ) → standing_at flow_graph at.place ≡ Instruction i size → s.regs.pc + 2 < 2 ^ 32
  below i size e =
      let inside = stands_inside flow_graph at.place i size e in
      let here = at.address in
      elim (stands_size flow_graph at.place i size e) [
        | inl two ↦ omega (arith, inside, two, placed.low, here)
        | inr four ↦ omega (arith, inside, four, placed.low, here)
      ]

  module _ (reached : (look x.roles s.regs.pc).is_instr ≡ true) (site : ℕ) where
    does : (i : Instr) (size : ℕ) → standing_at flow_graph at.place ≡ Instruction i size → DoesAt x s i
    does i size e = record { reached = reached; at = at; size = size; stands = e }

    at_instr : (i : Instr) (size : ℕ) → standing_at flow_graph at.place ≡ Instruction i size → site_by s.regs.pc i ≡ Some site → ThrowsAt x s site
    at_instr (Svc imm) size e h = inl (imm, does (Svc imm) size e, sym (same_Some s.regs.pc site h))
    at_instr (Blx m) size e h = inr (inl (m, does (Blx m) size e, sym (same_Some s.regs.pc site h)))
    at_instr (Bl off) size e h =
        let same : (s.regs.pc + 2) % 2 ^ 32 ≡ site = same_Some ((s.regs.pc + 2) % 2 ^ 32) site h in
        let low = below (Bl off) size e in
        inr (inr (off, does (Bl off) size e, omega (arith, same, low)))
    at_instr i size e h = absurd (none-some site h)

    by_standing : (t : Standing) → standing_at flow_graph at.place ≡ t → site_at s.regs.pc (instr_for profile (memory_of s) s.regs.pc) ≡ Some site → ThrowsAt x s site
    by_standing (Instruction i size) e h = at_instr i size e (subst (λ (o : Option (Instr × ℕ)). site_at s.regs.pc o ≡ Some site) (simple.fetch x is s k at i size e).stands h)
    by_standing Udf e h = absurd (none-some site (subst (λ (o : Option (Instr × ℕ)). site_at s.regs.pc o ≡ Some site) (none_at e) h))
    by_standing Nothing e h = absurd (not_nothing e)

-- A state that is kept and stands at a site stands at a checked gate or call, from where a throw may begin.
pub throws_there : (x : Accepted) (s : Recorded) (site : ℕ) → IsProgram x → Keeps x s → site_state (program_of x) s.regs (memory_of s) ≡ Some site → ThrowsAt x s site
unfolding site_state
throws_there x s site is k e = go (look x.roles s.regs.pc).is_instr refl e
  where
    go : (b : Bool) → (look x.roles s.regs.pc).is_instr ≡ b → cond b (site_at s.regs.pc (instr_for (profile_in (program_of x)) (memory_of s) s.regs.pc)) None ≡ Some site → ThrowsAt x s site
    go true reached h =
        let at = k.first reached in
        by_standing x is s k at reached site (standing_at (flow_graph_of x.image at.function) at.place) refl h
    go false reached h = absurd (none-some site h)
