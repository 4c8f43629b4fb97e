-- After the landing of a throw the activation that is entered stands at the pad.
use Rattle.std.proofs.Common.{◌≡◌, ℕ, ◌+◌, ◌≤◌, List, suc, ◌<◌, [], ◌∷◌, length, sym, ◌∙◌, arith, zero, inl, inr, Bool, ◌++◌, Some, refl, ap, subst}
use Rattle.std.specs.Prelude.{slice_index, Ok}
use Rattle.std.proofs.lemmas.List.{get_or_append_left, get_or-append_right}
use Rattle.eh_bus.specs.Segment.{Segment}
use Rattle.eh_bus.specs.Memory.{load_number}
use Rattle.eh_bus.specs.declared.map.TheConstants.{STACK_START, STACK_END}
use Rattle.thumb_core.specs.declared.regs.Regs.{Regs}
use Rattle.frame_check.specs.Accepts.{Accepted}
use Rattle.sim_relation.specs.sim_machines.Activations.{Activation, Caller, registers_of, Recorded}
use Rattle.thumb_core.specs.Registers.{reg, all_of}
use Rattle.thumb_core.specs.declared.regs.TheConstants.{SP}
use Rattle.eh_gates.specs.Landing.{landing_registers}
use Rattle.eh_phase.specs.Phases.{Frame}
use Rattle.frame_facts.specs.Agrees.{at_site}
use Rattle.frame_graph.specs.Sites.{site_at, items_at}
use Rattle.frame_flow.specs.Causes.{is_call}
use Rattle.frame_check.specs.Roots.{flow_graph_of}
use Rattle.sim_relation.specs.Holds.{AreWithin, Holds}
use Rattle.sim_relation.specs.Chain.{code, StandsAt, regs_at}
use Rattle.sim_frames.proofs.Agreement.{holds_there, called_site, same_registers}
use Rattle.sim_relation.specs.Stands.{Keeps, IsProgram}
use Rattle.sim_frames.specs.Frames.{IsSiteOf}
use Rattle.sim_frames.proofs.CodeBytes.{codes_are_recipes}
use Rattle.sim_relation.proofs.Flows.{stands_instruction}
use Rattle.sim_frames.specs.Landings.{Offers, Reads, AtFirst, AtCall, IsLocated}
use Rattle.sim_frames.proofs.Located.{covered_items}
use Rattle.sim_frames.proofs.Pads.{stands_at_pad}
use Rattle.sim_frames.proofs.Sites.{site_holds}

-- other segments that give the stack's words alike
pub stands_there : (old new : List Segment) → ((g : ℕ) → STACK_START ≤ g → g + 4 ≤ STACK_END → load_number 4 new g ≡ load_number 4 old g) → (x : Accepted) (a : Activation) (regs : Regs) (at low : ℕ) → AreWithin low a
    → STACK_START ≤ low → a.caller.sp ≤ STACK_END → StandsAt x a old regs at → StandsAt x a new regs at
stands_there old new same x a regs at low within least most h = record {
  function = h.function;
  marks = h.marks;
  of = h.of;
  place = h.place;
  address = h.address;
  fact = h.fact;
  state = h.state;
  holds = holds_there old new same (code x h.function h.marks).prologue h.fact a regs low within least most h.holds;
}

saved_at : (c : Caller) (j : ℕ) → length c.saved ≡ 8 → j < 8 → slice_index (registers_of c) (suc (suc (suc (suc j)))) ≡ reg (regs_at c) (suc (suc (suc (suc j))))
saved_at c j count h =
    get_or_append_left c.saved (0 ∷ c.sp ∷ 0 ∷ c.back ∷ []) 0 j (let l : j < length c.saved = omega (arith, h, count) in l)
    ∙ sym (get_or_append_left c.saved (0 ∷ c.sp ∷ 0 ∷ []) 0 j (let l : j < length c.saved = omega (arith, h, count) in l))

pub saved_same : (c : Caller) (k : ℕ) → length c.saved ≡ 8 → 4 ≤ k → k < 12 → slice_index (registers_of c) k ≡ reg (regs_at c) k
saved_same c zero count l h = absurd (omega (arith, l))
saved_same c (suc zero) count l h = absurd (omega (arith, l))
saved_same c (suc (suc zero)) count l h = absurd (omega (arith, l))
saved_same c (suc (suc (suc zero))) count l h = absurd (omega (arith, l))
saved_same c (suc (suc (suc (suc j)))) count l h = saved_at c j count (omega (arith, h))

pub sp_same : (c : Caller) → length c.saved ≡ 8 → slice_index (registers_of c) SP ≡ reg (regs_at c) SP
sp_same c count = get_or-append_right c.saved (0 ∷ c.sp ∷ 0 ∷ c.back ∷ []) 8 9 0 count (omega arith) ∙ sym (get_or-append_right c.saved (0 ∷ c.sp ∷ 0 ∷ []) 8 9 0 count (omega arith))

module _ (x : Accepted) (is : IsProgram x) (s : Recorded) (k : Keeps x s) (site : ℕ) (here : IsSiteOf x s site) where
  pub pad_stands : (f : Frame) (a : Activation) (pad first : ℕ) → IsLocated x s.segments site (all_of s.regs) s.first f a → Offers f pad → StandsAt x a s.segments (landing_registers s.regs f.r pad first) (landing_registers s.regs f.r pad first).pc
  pad_stands f a pad first l o = elim l.1 [
    | inl one ↦ at_first one
    | inr two ↦ at_call two
  ]
    where
      reads : Reads x.image f
      reads = l.0

      at_first : AtFirst site (all_of s.regs) s.first f a → StandsAt x a s.segments (landing_registers s.regs f.r pad first) (landing_registers s.regs f.r pad first).pc
      at_first one =
          let at = here.at in
          let items : items_at (flow_graph_of x.image at.function) f.site ≡ o.before ++ Ok o.desc ∷ o.after =
          covered_items (flow_graph_of x.image at.function) f.site reads.covered reads.covers ∙ sym reads.items ∙ o.items in
          let there : site_at (flow_graph_of x.image at.function) at.place ≡ Some f.site = here.is_site ∙ ap Some (sym one.site) in
          subst (λ (b : Activation). StandsAt x b s.segments (landing_registers s.regs f.r pad first) (landing_registers s.regs f.r pad first).pc) (sym one.is)
          (stands_at_pad x is at.function at.marks s.first.function at.of at.place at.fact at.state here.instr here.stands f.site there o.before o.desc o.after items o.scope pad o.kind
          s.first s.segments s.regs s.regs f.r first refl (site_holds (code x at.function at.marks).prologue (is_call here.instr) at.fact s.first s.segments s.regs at.holds)
          (λ j low high. inr (ap (λ (r : List ℕ). slice_index r j) one.registers ∙ same_registers s.regs k.sound j (omega (arith, high))))
          (ap (λ (r : List ℕ). slice_index r SP) one.registers ∙ same_registers s.regs k.sound SP (omega arith)))

      at_call : AtCall x s.segments f a → StandsAt x a s.segments (landing_registers s.regs f.r pad first) (landing_registers s.regs f.r pad first).pc
      at_call two =
          let out = two.stands in
          let items : items_at (flow_graph_of x.image out.function) f.site ≡ o.before ++ Ok o.desc ∷ o.after =
          covered_items (flow_graph_of x.image out.function) f.site reads.covered reads.covers ∙ sym reads.items ∙ o.items in
          let there : site_at (flow_graph_of x.image out.function) out.place ≡ Some f.site =
          called_site x is (codes_are_recipes x is) s.segments k.corresponds.map.segments two.inside a out two.whole ∙ ap Some (sym two.site) in
          stands_at_pad x is out.function out.marks a.function out.of out.place out.fact out.state out.instr (stands_instruction (flow_graph_of x.image out.function) out.place out.instr out.size out.stands) f.site there
          o.before o.desc o.after items o.scope pad o.kind a s.segments (regs_at two.inside) s.regs f.r first refl
          (subst (λ (b : Bool). Holds (code x out.function out.marks).prologue (at_site b out.fact) a s.segments (regs_at two.inside)) (sym out.call) out.holds)
          (λ j low high. inr (ap (λ (r : List ℕ). slice_index r j) two.registers ∙ saved_same two.inside j two.whole.count low high))
          (ap (λ (r : List ℕ). slice_index r SP) two.registers ∙ sp_same two.inside two.whole.count)
