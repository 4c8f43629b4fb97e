-- Where a resume enters a pad of the cleanup's own activation, that stands there.
use Rattle.std.proofs.Common.{◌≡◌, ℕ, zero, suc, ◌-◌, ◌/◌, ◌<◌, ◌≤◌, ◌⊎◌, inl, inr, Bool, true, List, ◌∷◌, ◌++◌, length, Some, Ok, refl, sym, subst, ap, ◌∙◌, arith}
use Rattle.std.specs.Prelude.{slice_index}
use Rattle.std.specs.List.{list_any}
use Rattle.std.proofs.lemmas.Bool.{cases_eq, cases_lt}
use Rattle.eh_bus.specs.Map.{AreSegments}
use Rattle.eh_bus.specs.Segment.{Segment}
use Rattle.eh_cxa.specs.Lists.{Cleanup}
use Rattle.eh_desc.specs.declared.descriptor.Desc.{Desc}
use Rattle.eh_gates.specs.Landing.{landing_registers}
use Rattle.eh_phase.specs.declared.phase2.Goal.{Goal}
use Rattle.thumb_core.specs.Registers.{reg}
use Rattle.thumb_core.specs.Words.{registers_of_list}
use Rattle.thumb_core.specs.declared.regs.Regs.{Regs}
use Rattle.frame_facts.specs.Facts.{source, slot, forget_registers}
use Rattle.frame_facts.specs.Machine.{Means}
use Rattle.frame_facts.specs.declared.facts.Fact.{Fact}
use Rattle.frame_facts.specs.declared.facts.Source.{Source}
use Rattle.frame_facts.specs.declared.facts.Source.TheVariants.{Other}
use Rattle.frame_facts.specs.declared.saves.Prologue.{Prologue}
use Rattle.frame_entries.specs.Scopes.{Item, is_scope_at, is_cleanup_at, is_one, pad_of}
use Rattle.frame_graph.specs.Sites.{items_at}
use Rattle.frame_entries.specs.Unwinding.{landing_changes}
use Rattle.frame_flow.specs.Flows.{IsStateOf}
use Rattle.frame_flow.proofs.Instance.{state_fits}
use Rattle.frame_check.specs.Accepts.{Accepted}
use Rattle.frame_check.specs.Roots.{flow_graph_of}
use Rattle.sim_machines.specs.Activations.{Caller, Activation, registers_of}
use Rattle.sim_steps.specs.sim_relation.Holds.{Holds, IsWhole}
use Rattle.sim_steps.specs.sim_relation.Chain.{code, regs_at, StandsAt, StandsAtCall}
use Rattle.sim_steps.specs.sim_relation.Cleanups.{IsEntered}
use Rattle.sim_steps.specs.sim_relation.Stands.{IsProgram}
use Rattle.sim_steps.proofs.sim_relation.Flows.{none_stands, goes_along}
use Rattle.sim_steps.proofs.sim_relation.Moves.{moved_holds, at_sp}
use Rattle.sim_throws.proofs.sim_frames.Pads.{none_past, past_lr}
use Rattle.sim_throws.proofs.sim_frames.PadStands.{saved_same, sp_same}
use Rattle.sim_throws.proofs.sim_frames.Sites.{kept_same}
use Rattle.sim_throws.proofs.sim_frames.Pads as pads
use Rattle.sim_resumes.proofs.ResumedPads as site

module _ (x : Accepted) (is : IsProgram x) (segments : List Segment) (are : AreSegments segments) (g : Goal) (c : Cleanup) (a : Activation) (more : List Activation) (e : IsEntered x segments g c a more)
    (caller : Caller) (out : StandsAtCall x segments caller a) (whole : IsWhole caller) (called : caller.sp ≡ c.sp) (before : List Item) (d : Desc) (after : List Item)
    (items : items_at (flow_graph_of x.image e.function) c.site ≡ before ++ Ok d ∷ after) (scope : is_scope_at c.site d ≡ true) (pad : ℕ) (has : pad_of d.kind ≡ Some pad)
    (resumed : list_any (is_one (is_cleanup_at c.site)) before ≡ true) where
  abbrev p : Prologue
  p = (code x e.function e.marks).prologue

  abbrev pad_fact : Fact
  pad_fact = site.pad_fact x is segments are g c a more e caller out whole called

  abbrev left : Fact
  left = site.left x is e.function e.marks a.function e.of e.place e.fact e.state (site.i x is segments are g c a more e caller out whole called) (site.kept_instr x is segments are g c a more e caller out whole called).1 c.site e.site

  abbrev place : ℕ
  place = (pad - e.function.start) / 2

  state_there : IsStateOf (code x e.function e.marks) place pad_fact
  state_there =
      let i = site.kept_instr x is segments are g c a more e caller out whole called in
      subst (λ (b : Bool). IsStateOf (code x e.function e.marks) place (forget_registers (registers_of_list (landing_changes (site.u x is segments are g c a more e caller out whole called) b)) left)) resumed
      (goes_along (code x e.function e.marks) e.place e.fact (none_stands x e.function e.marks is.sound e.of.among e.of.are) e.state i.0 left
      (pads.edge x is e.function e.marks a.function e.of e.place e.fact e.state i.0 i.1 c.site e.site before d after items scope pad has) i.1
      (pads.leaves x is e.function e.marks a.function e.of e.place e.fact e.state i.0 i.1 c.site e.site).is_after
      (pads.is_edge x is e.function e.marks a.function e.of e.place e.fact e.state i.0 i.1 c.site e.site before d after items scope pad has))

  depth : pad_fact.depth ≡ e.fact.depth
  depth =
      let i = site.kept_instr x is segments are g c a more e caller out whole called in
      site.depth_there x is e.function e.marks a.function e.of e.place e.fact e.state i.0 i.1 c.site e.site (landing_changes (site.u x is segments are g c a more e caller out whole called) true)

  below : pad_fact.below ≡ e.fact.below
  below =
      let i = site.kept_instr x is segments are g c a more e caller out whole called in
      site.below_there x is e.function e.marks a.function e.of e.place e.fact e.state i.0 i.1 c.site e.site (landing_changes (site.u x is segments are g c a more e caller out whole called) true)

  kept : pad_fact.kept ≡ e.fact.kept
  kept =
      let i = site.kept_instr x is segments are g c a more e caller out whole called in
      site.kept_there x is e.function e.marks a.function e.of e.place e.fact e.state i.0 i.1 c.site e.site (landing_changes (site.u x is segments are g c a more e caller out whole called) true)

  long : length pad_fact.regs ≡ 14
  long = (state_fits (code x e.function e.marks) place pad_fact state_there).long

  lost : (k : ℕ) → (k < 4) ⊎ ((k ≡ 12) ⊎ (k ≡ 14)) → source pad_fact k ≡ Other
  lost k h = site.lost_there x is segments are g c a more e caller out whole called k h

  past : (k : ℕ) → (k ≡ 13) ⊎ (15 ≤ k) → source pad_fact k ≡ Other
  past k (inl thirteen) = none_past pad_fact k long (ap slot thirteen)
  past k (inr far) = none_past pad_fact k long (past_lr k far)

  abbrev Said : ℕ → Type 0
  Said k = Means out.holds.entry a.caller.sp (source pad_fact k) (reg (regs_at caller) k)

  none_said : (k : ℕ) → source pad_fact k ≡ Other → Said k
  none_said k o = subst (λ (s : Source). Means out.holds.entry a.caller.sp s (reg (regs_at caller) k)) (sym o) tt

  said : (k : ℕ) → Said k
  said k = elim (cases_lt k 4) [
    | inl l ↦ none_said k (lost k (inl l))
    | inr low ↦ elim (cases_lt k 12) [
      | inl high ↦ elim (site.saved_source x is segments are g c a more e caller out whole called k low high) [
        | inl o ↦ none_said k o
        | inr s ↦ subst (λ (t : Source). Means out.holds.entry a.caller.sp t (reg (regs_at caller) k)) (sym s) (out.holds.describes.sources k)
      ]
      | inr above ↦ elim (cases_eq k 12) [
        | inl twelve ↦ none_said k (lost k (inr (inl twelve)))
        | inr n ↦ elim (cases_eq k 13) [
          | inl thirteen ↦ none_said k (past k (inl thirteen))
          | inr m ↦ elim (cases_eq k 14) [
            | inl fourteen ↦ none_said k (lost k (inr (inr fourteen)))
            | inr far ↦ none_said k (past k (inr (omega (arith, above, n, m, far))))
          ]
        ]
      ]
    ]
  ]

  -- the fact at the pad holds of what the gate's function recorded
  at_call : Holds p pad_fact a segments (regs_at caller)
  at_call = record {
    entry = out.holds.entry;
    saved = out.holds.saved;
    link = out.holds.link;
    describes = record {
      long = long;
      sources = said;
      sp = λ b. let w = e.at_depth (sym below ∙ b) in let n = depth in let s = at_sp caller whole.count in omega (arith, w, n, s, called);
    };
    lower = let w = e.lower in let n = depth in let s = at_sp caller whole.count in omega (arith, w, n, s, called);
    saves = kept_same p e.fact pad_fact a segments depth kept e.saves;
  }

  module _ (old : Regs) (answer : ℕ) where
    abbrev regs : Regs
    regs = landing_registers old (registers_of caller) pad answer

    at_saved : (k : ℕ) → 4 ≤ k → k < 12 → slice_index (registers_of caller) k ≡ reg (regs_at caller) k
    at_saved k low high = saved_same caller k whole.count low high

    each : (k : ℕ) → (source pad_fact k ≡ Other) ⊎ (reg regs k ≡ reg (regs_at caller) k)
    each zero = inl (lost 0 (inl (omega arith)))
    each (suc zero) = inl (lost 1 (inl (omega arith)))
    each (suc (suc zero)) = inl (lost 2 (inl (omega arith)))
    each (suc (suc (suc zero))) = inl (lost 3 (inl (omega arith)))
    each (suc (suc (suc (suc zero)))) = inr (at_saved 4 (omega arith) (omega arith))
    each (suc (suc (suc (suc (suc zero))))) = inr (at_saved 5 (omega arith) (omega arith))
    each (suc (suc (suc (suc (suc (suc zero)))))) = inr (at_saved 6 (omega arith) (omega arith))
    each (suc (suc (suc (suc (suc (suc (suc zero))))))) = inr (at_saved 7 (omega arith) (omega arith))
    each (suc (suc (suc (suc (suc (suc (suc (suc zero)))))))) = inr (at_saved 8 (omega arith) (omega arith))
    each (suc (suc (suc (suc (suc (suc (suc (suc (suc zero))))))))) = inr (at_saved 9 (omega arith) (omega arith))
    each (suc (suc (suc (suc (suc (suc (suc (suc (suc (suc zero)))))))))) = inr (at_saved 10 (omega arith) (omega arith))
    each (suc (suc (suc (suc (suc (suc (suc (suc (suc (suc (suc zero))))))))))) = inr (at_saved 11 (omega arith) (omega arith))
    each (suc (suc (suc (suc (suc (suc (suc (suc (suc (suc (suc (suc zero)))))))))))) = inl (lost 12 (inr (inl refl)))
    each (suc (suc (suc (suc (suc (suc (suc (suc (suc (suc (suc (suc (suc zero))))))))))))) = inl (past 13 (inl refl))
    each (suc (suc (suc (suc (suc (suc (suc (suc (suc (suc (suc (suc (suc (suc zero)))))))))))))) = inl (lost 14 (inr (inr refl)))
    each (suc (suc (suc (suc (suc (suc (suc (suc (suc (suc (suc (suc (suc (suc (suc k))))))))))))))) = inl (past (suc (suc (suc (suc (suc (suc (suc (suc (suc (suc (suc (suc (suc (suc (suc k))))))))))))))) (inr (omega arith)))

    pub resumed_stands : StandsAt x a segments regs regs.pc
    resumed_stands = record {
      function = e.function;
      marks = e.marks;
      of = e.of;
      place = place;
      address = (let i = site.kept_instr x is segments are g c a more e caller out whole called in
          let even = pads.even_pad x is e.function e.marks a.function e.of e.place e.fact e.state i.0 i.1 c.site e.site before d after items scope pad has in
          let same = pads.stands x is e.function e.marks a.function e.of e.place e.fact e.state i.0 i.1 c.site e.site before d after items scope pad has in
          omega (arith, even, same));
      fact = pad_fact;
      state = state_there;
      holds = moved_holds p pad_fact a segments (regs_at caller) regs at_call each (sp_same caller whole.count);
    }
