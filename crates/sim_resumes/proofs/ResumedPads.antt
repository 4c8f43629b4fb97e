-- Where a resume enters a pad of the cleanup's own activation, that stands there: with depth and saves as at the kept site, and of r4 to r11 with
-- those that stay, as they were at the call of the gate's function.
use Rattle.std.proofs.Common.{◌≡◌, ℕ, ◌⊎◌, inl, inr, List, [], ◌∷◌, refl, ◌∙◌, Bool, true, false, ◌≤◌, ◌+◌, ◌^◌, ◌<◌, Some, subst, arith, Option, None, sym, ap, not}
use Rattle.std.proofs.lemmas.Bool.{cases_eq}
use Rattle.std.proofs.lemmas.List.{get_or-set_other}
use Rattle.std.specs.Prelude.{Result, Ok, option_and_then}
use Rattle.std.proofs.lemmas.List.Elements.{All-contains}
use Rattle.std.proofs.lemmas.Option.{none-some}
use Rattle.frame_facts.specs.Facts.{source, slot, forget_register, forget_registers}
use Rattle.frame_facts.specs.declared.facts.Fact.{Fact}
use Rattle.frame_facts.specs.declared.facts.Source.TheVariants.{Other}
use Rattle.frame_facts.specs.Agrees.{at_site, gives_caller_value}
use Rattle.frame_facts.specs.Branches.{call_changes, gate_changes}
use Rattle.frame_facts.specs.declared.cause.FrameCause.{FrameCause}
use Rattle.elf_image.specs.Functions.{Function}
use Rattle.frame_graph.specs.Sites.{unwinding_at, site_at}
use Rattle.frame_check.specs.Accepts.{Accepted, IsWell}
use Rattle.frame_check.specs.Roots.{flow_graph_of}
use Rattle.frame_graph.specs.Places.{address_of}
use Rattle.frame_graph.specs.Reach.{IsReached}
use Rattle.frame_graph.specs.Edges.{instruction_at}
use Rattle.frame_check.specs.frame_reach.Marks.{Marks}
use Rattle.frame_check.proofs.frame_reach.Found.{inside}
use Rattle.frame_flow.specs.Flows.{IsStateOf}
use Rattle.frame_flow.proofs.Reaching.{state_reached}
use Rattle.frame_check.specs.Judged.{IsPlaced}
use Rattle.frame_check.proofs.Wells.{placed_at}
use Rattle.elf_image.specs.Image.{Image}
use Rattle.thumb_isa.specs.declared.instr.Instr.{Instr}
use Rattle.thumb_isa.specs.declared.instr.Instr.TheVariants.{Svc, Bl, Blx}
use Rattle.thumb_core.specs.Words.{registers_of_list}
use Rattle.frame_facts.specs.After.{after_of}
use Rattle.frame_flow.specs.Causes.{is_call}
use Rattle.eh_bus.specs.Map.{AreSegments}
use Rattle.eh_bus.specs.Segment.{Segment}
use Rattle.eh_bytecode.specs.declared.recipe.Recipe.{Recipe}
use Rattle.eh_cxa.specs.Lists.{Cleanup}
use Rattle.eh_phase.specs.Frames.{site_of}
use Rattle.eh_phase.specs.declared.phase2.Goal.{Goal}
use Rattle.frame_entries.specs.Unwinding.{keeps_register, changes_register, landing_changes}
use Rattle.frame_entries.specs.declared.unwinding.EntrySummary.{EntrySummary}
use Rattle.frame_entries.specs.declared.unwinding.EntrySummary.TheVariants.{Finds, Refused, BadBytecode, GenericModel}
use Rattle.sim_machines.specs.Activations.{Caller, Activation, registers_of}
use Rattle.frame_graph.specs.Sites as flow_graph_site
use Rattle.sim_steps.proofs.sim_relation.Moves.{lost_here, clobbered_here}
use Rattle.sim_throws.proofs.sim_frames.Sites.{clobbered_depth, clobbered_below, clobbered_kept, agrees}
use Rattle.sim_steps.specs.sim_relation.Chain.{IsOf, code, StandsAtCall}
use Rattle.sim_steps.specs.sim_relation.Stands.{IsProgram}
use Rattle.sim_steps.proofs.sim_code.Entries.{unwinding_of_start}
use Rattle.sim_resumes.proofs.Resumed.{site_there}
use Rattle.sim_steps.specs.sim_relation.Holds.{IsWhole}
use Rattle.sim_steps.specs.sim_relation.Cleanups.{IsEntered}
use Rattle.sim_throws.proofs.sim_frames.Agreement.{called_site}
use Rattle.sim_throws.proofs.sim_frames.CodeBytes.{codes_are_recipes}
use Rattle.sim_steps.proofs.sim_relation.Flows.{stands_instruction}
use Rattle.sim_throws.proofs.sim_frames.Clobbers.{landing_clobbers}
use Rattle.sim_resumes.proofs.ResumeChanges.{changes_clobber}
use Rattle.sim_resumes.proofs.Staying.{gives_all, stays_same}
use Rattle.sim_throws.proofs.sim_frames.Pads as pads

-- ---- what a fact clobbers

clobbered_source : (xs : List ℕ) (f : Fact) (k : ℕ) → (source (forget_registers xs f) k ≡ Other) ⊎ (source (forget_registers xs f) k ≡ source f k)
clobbered_source [] f k = inr refl
clobbered_source (r ∷ xs) f k = elim (clobbered_source xs (forget_register r f) k) [
  | inl e ↦ inl e
  | inr e ↦ elim (cases_eq (slot k) (slot r)) [
    | inl same ↦ inl (e ∙ lost_here r f k same)
    | inr differs ↦ inr (e ∙ get_or-set_other f.regs (slot r) (slot k) Other Other differs)
  ]
]

site_depth : (call : Bool) (f : Fact) → (at_site call f).depth ≡ f.depth
site_depth true f = clobbered_depth call_changes f
site_depth false f = refl

site_below : (call : Bool) (f : Fact) → (at_site call f).below ≡ f.below
site_below true f = clobbered_below call_changes f
site_below false f = refl

site_kept : (call : Bool) (f : Fact) → (at_site call f).kept ≡ f.kept
site_kept true f = clobbered_kept call_changes f
site_kept false f = refl

same_ok : (g h : Fact) → ◌≡◌ {A = Result Fact FrameCause} (Ok g) (Ok h) → g ≡ h
same_ok g h e = cc

-- ---- a site of a function

-- it lies above the function's start, and unwinds like that
pub record IsLike (x : Accepted) (f : Function) (site : ℕ) : Type 0 where
  pub low : f.start ≤ site
  pub same : unwinding_at (flow_graph_of x.image f) site ≡ unwinding_at (flow_graph_of x.image f) f.start

like_start : (x : Accepted) → IsProgram x → (start : ℕ) (f : Function) (m : Marks) → IsOf x start f m → (p : ℕ) (fact : Fact) → IsStateOf (code x f m) p fact → (site : ℕ)
    → site_at (flow_graph_of x.image f) p ≡ Some site → IsLike x f site
like_start x is start f m of p fact state site e =
    let reached : IsReached (flow_graph_of x.image f) p = state_reached (code x f m) p fact state in
    let placed : IsPlaced f = subst IsPlaced of.among.2 (placed_at x.image of.among.0 f is.image of.among.1) in
    let below : address_of (flow_graph_of x.image f) p + 2 < 2 ^ 32 = elim (inside (flow_graph_of x.image f) p reached) [
      | inl zero_place ↦ omega (arith, zero_place, placed.some, placed.low)
      | inr low ↦ omega (arith, low, placed.low)
    ] in
    let above = site_there (address_of (flow_graph_of x.image f) p) site (instruction_at (flow_graph_of x.image f) p) below e in
    let low : f.start ≤ site = omega (arith, above) in
    record {
      low = low;
      same = unwinding_of_start (flow_graph_of x.image f) p site (All-contains (λ (g : Function). IsWell (flow_graph_of x.image g)) x.image.functions f is.sound.functions of.among) reached e low;
    }

-- functions of one image read one index
one_index : (image : Image) (f h : Function) (a : ℕ) → unwinding_at (flow_graph_of image f) a ≡ unwinding_at (flow_graph_of image h) a
unfolding unwinding_at
one_index image f h a = refl

some_instr : (address site : ℕ) (o : Option Instr) → option_and_then (flow_graph_site.site_of address) o ≡ Some site → (i : Instr) × (o ≡ Some i)
some_instr address site None e = absurd (none-some site e)
some_instr address site (Some i) e = (i, refl)

-- ---- what a pad's fact says, by the fact at its site

module _ (x : Accepted) (is : IsProgram x) (f : Function) (m : Marks) (start : ℕ) (of : IsOf x start f m) (p : ℕ) (fact : Fact) (state : IsStateOf (code x f m) p fact) (i : Instr)
    (at : instruction_at (flow_graph_of x.image f) p ≡ Some i) (site : ℕ) (site_is : site_at (flow_graph_of x.image f) p ≡ Some site) where
  abbrev pub left : Fact
  left = (pads.leaves x is f m start of p fact state i at site site_is).fact_after

  -- a call and a gate leave a fact that clobbers registers alone
  record Forgot : Type 0 where
    pub names : List ℕ
    pub same : left ≡ forget_registers names (at_site (is_call i) fact)

  forgot_by : (j : Instr) → i ≡ j → flow_graph_site.site_of (address_of (flow_graph_of x.image f) p) j ≡ Some site → Forgot
  forgot_by (Bl off) e h =
      let w = subst (λ (j : Instr). after_of (code x f m).prologue ((code x f m).lowers p) (address_of (flow_graph_of x.image f) p) j fact ≡ Ok left) e (pads.leaves x is f m start of p fact state i at site site_is).is_after in
      record { names = []; same = sym (same_ok (forget_registers call_changes fact) left w) ∙ sym (ap (λ (j : Instr). at_site (is_call j) fact) e) }
  forgot_by (Blx n) e h =
      let w = subst (λ (j : Instr). after_of (code x f m).prologue ((code x f m).lowers p) (address_of (flow_graph_of x.image f) p) j fact ≡ Ok left) e (pads.leaves x is f m start of p fact state i at site site_is).is_after in
      record { names = []; same = sym (same_ok (forget_registers call_changes fact) left w) ∙ sym (ap (λ (j : Instr). at_site (is_call j) fact) e) }
  forgot_by (Svc imm) e h =
      let w = subst (λ (j : Instr). after_of (code x f m).prologue ((code x f m).lowers p) (address_of (flow_graph_of x.image f) p) j fact ≡ Ok left) e (pads.leaves x is f m start of p fact state i at site site_is).is_after in
      record { names = gate_changes; same = sym (same_ok (forget_registers gate_changes fact) left w) ∙ sym (ap (λ (j : Instr). forget_registers gate_changes (at_site (is_call j) fact)) e) }
  forgot_by j e h = absurd (none-some site h)

  forgot : Forgot
  forgot = forgot_by i refl (ap (option_and_then (flow_graph_site.site_of (address_of (flow_graph_of x.image f) p))) (sym at) ∙ site_is)

  module _ (changed : ℕ) where
    abbrev there : Fact
    there = forget_registers (registers_of_list changed) left

    pub depth_there : there.depth ≡ fact.depth
    depth_there = clobbered_depth (registers_of_list changed) left ∙ ap (λ (g : Fact). g.depth) forgot.same ∙ clobbered_depth forgot.names (at_site (is_call i) fact) ∙ site_depth (is_call i) fact

    pub below_there : there.below ≡ fact.below
    below_there = clobbered_below (registers_of_list changed) left ∙ ap (λ (g : Fact). g.below) forgot.same ∙ clobbered_below forgot.names (at_site (is_call i) fact) ∙ site_below (is_call i) fact

    pub kept_there : there.kept ≡ fact.kept
    kept_there = clobbered_kept (registers_of_list changed) left ∙ ap (λ (g : Fact). g.kept) forgot.same ∙ clobbered_kept forgot.names (at_site (is_call i) fact) ∙ site_kept (is_call i) fact

    pub source_there : (k : ℕ) → (source there k ≡ Other) ⊎ (source there k ≡ source (at_site (is_call i) fact) k)
    source_there k = elim (clobbered_source (registers_of_list changed) left k) [
      | inl e ↦ inl e
      | inr e ↦ elim (clobbered_source forgot.names (at_site (is_call i) fact) k) [
        | inl d ↦ inl (e ∙ ap (λ (g : Fact). source g k) forgot.same ∙ d)
        | inr d ↦ inr (e ∙ ap (λ (g : Fact). source g k) forgot.same ∙ d)
      ]
    ]

-- ---- the cleanup's activation

module _ (x : Accepted) (is : IsProgram x) (segments : List Segment) (are : AreSegments segments) (g : Goal) (c : Cleanup) (a : Activation) (more : List Activation) (e : IsEntered x segments g c a more)
    (caller : Caller) (out : StandsAtCall x segments caller a) (whole : IsWhole caller) (called : caller.sp ≡ c.sp) where
  pub kept_instr : (i : Instr) × (instruction_at (flow_graph_of x.image e.function) e.place ≡ Some i)
  kept_instr = some_instr (address_of (flow_graph_of x.image e.function) e.place) c.site (instruction_at (flow_graph_of x.image e.function) e.place) e.site

  abbrev pub i : Instr
  i = kept_instr.0

  abbrev pub u : EntrySummary
  u = unwinding_at (flow_graph_of x.image e.function) c.site

  call_there : site_at (flow_graph_of x.image out.function) out.place ≡ Some (site_of (registers_of caller))
  call_there = called_site x is (codes_are_recipes x is) segments are caller a out whole

  kept_like : IsLike x e.function c.site
  kept_like = like_start x is a.function e.function e.marks e.of e.place e.fact e.state c.site e.site

  call_like : IsLike x out.function (site_of (registers_of caller))
  call_like = like_start x is a.function out.function out.marks out.of out.place out.fact out.state (site_of (registers_of caller)) call_there

  -- one recipe for both sites
  same_unwinding : u ≡ unwinding_at (flow_graph_of x.image out.function) (site_of (registers_of caller))
  same_unwinding =
      kept_like.same ∙ one_index x.image e.function out.function e.function.start ∙ ap (unwinding_at (flow_graph_of x.image out.function)) (e.of.begins ∙ sym out.of.begins) ∙ sym call_like.same

  module _ (r : Recipe) (finds : u ≡ Finds r) where
    in_kept : (j : ℕ) → j < 16 → gives_caller_value (code x e.function e.marks).prologue r (at_site (is_call i) e.fact) j ≡ true
    in_kept =
        gives_all (code x e.function e.marks).prologue r (is_call i) e.fact
        (agrees x is (codes_are_recipes x is) e.function e.marks a.function e.of e.place e.fact e.state i kept_instr.1 c.site e.site kept_like.low r finds)

    in_call : (j : ℕ) → j < 16 → gives_caller_value (code x out.function out.marks).prologue r (at_site true out.fact) j ≡ true
    in_call j l =
        subst (λ (b : Bool). gives_caller_value (code x out.function out.marks).prologue r (at_site b out.fact) j ≡ true) out.call
        (gives_all (code x out.function out.marks).prologue r (is_call out.instr) out.fact
        (agrees x is (codes_are_recipes x is) out.function out.marks a.function out.of out.place out.fact out.state out.instr
        (stands_instruction (flow_graph_of x.image out.function) out.place out.instr out.size out.stands) (site_of (registers_of caller)) call_there call_like.low r (sym same_unwinding ∙ finds)) j l)

  -- what stays has one source at both
  stays_there : (k : ℕ) → 4 ≤ k → k < 12 → changes_register u k ≡ false → source (at_site (is_call i) e.fact) k ≡ source (at_site true out.fact) k
  stays_there k low high s = go u refl s
    where
      stays_so : (b : Bool) → not b ≡ false → b ≡ true
      stays_so true n = refl
      stays_so false n = absurd cc

      go : (v : EntrySummary) → u ≡ v → changes_register v k ≡ false → source (at_site (is_call i) e.fact) k ≡ source (at_site true out.fact) k
      go (Finds r) f n =
          stays_same (code x e.function e.marks).prologue (code x out.function out.marks).prologue r (at_site (is_call i) e.fact) (at_site true out.fact) k low high (in_kept r f) (in_call r f) (stays_so (keeps_register r k) n)
      go Refused f n = absurd cc
      go BadBytecode f n = absurd cc
      go GenericModel f n = absurd cc

  abbrev pub pad_fact : Fact
  pad_fact = forget_registers (registers_of_list (landing_changes u true)) (left x is e.function e.marks a.function e.of e.place e.fact e.state i kept_instr.1 c.site e.site)

  pub saved_source : (k : ℕ) → 4 ≤ k → k < 12 → (source pad_fact k ≡ Other) ⊎ (source pad_fact k ≡ source (at_site true out.fact) k)
  saved_source k low high = go (changes_register u k) refl
    where
      go : (b : Bool) → changes_register u k ≡ b → (source pad_fact k ≡ Other) ⊎ (source pad_fact k ≡ source (at_site true out.fact) k)
      go true n = inl (clobbered_here (registers_of_list (landing_changes u true)) (left x is e.function e.marks a.function e.of e.place e.fact e.state i kept_instr.1 c.site e.site) k (changes_clobber u k low high n))
      go false n = elim (source_there x is e.function e.marks a.function e.of e.place e.fact e.state i kept_instr.1 c.site e.site (landing_changes u true) k) [
        | inl o ↦ inl o
        | inr s ↦ inr (s ∙ stays_there k low high n)
      ]

  pub lost_there : (k : ℕ) → (k < 4) ⊎ ((k ≡ 12) ⊎ (k ≡ 14)) → source pad_fact k ≡ Other
  lost_there k h =
      clobbered_here (registers_of_list (landing_changes u true)) (left x is e.function e.marks a.function e.of e.place e.fact e.state i kept_instr.1 c.site e.site) k (landing_clobbers u true k h)
