-- At a landing pad nothing is known of r0 to r3: a site leads to each pad of its descriptors in scope by an edge that forgets them, so the fact of
-- the pad's place does not tell them.
use Rattle.std.proofs.Common.{◌≡◌, ℕ, ◌≤◌, ◌<◌, ◌⊎◌, inl, inr, Bool, true, false, ◌∷◌, ◌++◌, Some, Ok, refl, sym, ap, subst, ◌∙◌, arith}
use Rattle.std.proofs.lemmas.Bool.{cases_lt}
use Rattle.sim_relation.proofs.sim_code.Places.{apart}
use Rattle.eh_phase.specs.Phases.{Frame}
use Rattle.elf_image.specs.Functions.{Function}
use Rattle.frame_dataflow.proofs.Law.{bounds}
use Rattle.frame_check.specs.Accepts.{Accepted}
use Rattle.frame_check.specs.Judged.{IsPlaced}
use Rattle.frame_check.specs.Roles.{look}
use Rattle.frame_check.specs.Roots.{flow_graph_of}
use Rattle.frame_check.proofs.Wells.{placed_at}
use Rattle.frame_facts.specs.Facts.{IsAtMost, slot, source}
use Rattle.frame_facts.specs.declared.cause.FrameCause.{FrameCause}
use Rattle.frame_facts.specs.declared.facts.Fact.{Fact}
use Rattle.frame_facts.specs.declared.facts.Source.TheVariants.{Other}
use Rattle.frame_flow.proofs.Instance.{laws}
use Rattle.frame_flow.specs.Flows.{flow_of, IsStateOf}
use Rattle.frame_graph.specs.Edges.{instruction_at}
use Rattle.frame_graph.specs.Places.{address_of}
use Rattle.frame_graph.specs.Sites.{site_at, items_at}
use Rattle.frame_entries.specs.declared.unwinding.EntrySummary.{EntrySummary}
use Rattle.frame_reach.proofs.Existing.{marks_agree}
use Rattle.frame_reach.specs.Marks.{Marks}
use Rattle.sim_frames.proofs.Clobbers.{landing_clobbers}
use Rattle.sim_frames.proofs.Located.{covered_items}
use Rattle.sim_frames.proofs.Pads as pads
use Rattle.sim_frames.specs.Landings.{Offers, Reads}
use Rattle.sim_relation.proofs.Flows.{none_stands, goes_along}
use Rattle.sim_relation.proofs.Moves.{clobbered_here}
use Rattle.sim_relation.specs.Chain.{IsOf, code, StandsAt}
use Rattle.sim_relation.specs.Stands.{Keeps, IsProgram}
use Rattle.sim_changes.specs.FactLaws.{FactsAreThere}
use Rattle.sim_changes.specs.Free.{OtherRegisters, FreeRegisters, FreeAnywhere}
use Rattle.thumb_core.specs.Registers.{even, reg}
use Rattle.thumb_core.specs.declared.regs.TheConstants.{SP}
use Rattle.thumb_core.specs.declared.regs.Regs.{Regs}
use Rattle.thumb_isa.specs.declared.instr.Instr.{Instr}
use Rattle.sim_machines.specs.Activations.{Recorded}
use Rattle.gnu_machine.specs.Laws.{DiffersLow}

-- a site of the function that begins at an address, where a state of facts is
pub record SiteState (x : Accepted) (start site : ℕ) : Type 0 where
  pub function : Function
  pub marks : Marks
  pub of : IsOf x start function marks
  pub place : ℕ
  pub fact : Fact
  pub state : IsStateOf (code x function marks) place fact
  pub instr : Instr
  pub at : instruction_at (flow_graph_of x.image function) place ≡ Some instr
  pub is_site : site_at (flow_graph_of x.image function) place ≡ Some site

-- a state at a place that knows nothing of r0 to r3
pub record Forgets (x : Accepted) (f : Function) (m : Marks) (place : ℕ) : Type 0 where
  pub fact : Fact
  pub state : IsStateOf (code x f m) place fact
  pub lost : (k : ℕ) → k < 4 → source fact k ≡ Other

pub record PadState (x : Accepted) (start at : ℕ) : Type 0 where
  pub function : Function
  pub marks : Marks
  pub of : IsOf x start function marks
  pub place : ℕ
  pub address : at ≡ address_of (flow_graph_of x.image function) place
  pub forgets : Forgets x function marks place

-- ---- each pad of a site's descriptors in scope is such a one

module _ (x : Accepted) (is : IsProgram x) (start site : ℕ) (s : SiteState x start site) (f : Frame) (reads : Reads x.image f) (same : f.site ≡ site) (pad : ℕ) (o : Offers f pad) where
  there : site_at (flow_graph_of x.image s.function) s.place ≡ Some f.site
  there = s.is_site ∙ ap Some (sym same)

  items : items_at (flow_graph_of x.image s.function) f.site ≡ o.before ++ Ok o.desc ∷ o.after
  items = covered_items (flow_graph_of x.image s.function) f.site reads.covered reads.covers ∙ sym reads.items ∙ o.items

  abbrev left : Fact
  left = (pads.leaves x is s.function s.marks start s.of s.place s.fact s.state s.instr s.at f.site there).fact_after

  abbrev u : EntrySummary
  u = pads.u x is s.function s.marks start s.of s.place s.fact s.state s.instr s.at f.site there o.before o.desc o.after items o.scope pad o.kind

  abbrev resumed : Bool
  resumed = pads.resumed x is s.function s.marks start s.of s.place s.fact s.state s.instr s.at f.site there o.before o.desc o.after items o.scope pad o.kind

  abbrev pad_fact : Fact
  pad_fact = pads.pad_fact x is s.function s.marks start s.of s.place s.fact s.state s.instr s.at f.site there o.before o.desc o.after items o.scope pad o.kind

  forgets : Forgets x s.function s.marks (pads.q x is s.function s.marks start s.of s.place s.fact s.state s.instr s.at f.site there o.before o.desc o.after items o.scope pad o.kind)
  forgets = record {
    fact = pad_fact;
    state = goes_along (code x s.function s.marks) s.place s.fact (none_stands x s.function s.marks is.sound s.of.among s.of.are) s.state s.instr left
        (pads.edge x is s.function s.marks start s.of s.place s.fact s.state s.instr s.at f.site there o.before o.desc o.after items o.scope pad o.kind) s.at
        (pads.leaves x is s.function s.marks start s.of s.place s.fact s.state s.instr s.at f.site there).is_after
        (pads.is_edge x is s.function s.marks start s.of s.place s.fact s.state s.instr s.at f.site there o.before o.desc o.after items o.scope pad o.kind);
    lost = λ k low. clobbered_here _ left k (landing_clobbers u resumed k (inl low));
  }

  pub pad_state : PadState x start (even pad)
  pad_state = record {
    function = s.function;
    marks = s.marks;
    of = s.of;
    place = pads.q x is s.function s.marks start s.of s.place s.fact s.state s.instr s.at f.site there o.before o.desc o.after items o.scope pad o.kind;
    address = (let e = pads.even_pad x is s.function s.marks start s.of s.place s.fact s.state s.instr s.at f.site there o.before o.desc o.after items o.scope pad o.kind in
        let w = pads.stands x is s.function s.marks start s.of s.place s.fact s.state s.instr s.at f.site there o.before o.desc o.after items o.scope pad o.kind in
        omega (arith, e, w));
    forgets = forgets;
  }

-- ---- so r0 to r3 may change there

module _ (x : Accepted) (is : IsProgram x) where
  -- one function begins at an address
  one_function : (start : ℕ) (f g : Function) (m n : Marks) → IsOf x start f m → IsOf x start g n → f ≡ g
  one_function start f g m n one two = go (apart 0 x.image.functions f g is.image.functions one.among two.among)
    where
      one_placed : IsPlaced f
      one_placed = subst IsPlaced one.among.2 (placed_at x.image one.among.0 f is.image one.among.1)

      two_placed : IsPlaced g
      two_placed = subst IsPlaced two.among.2 (placed_at x.image two.among.0 g is.image two.among.1)

      go : (f ≡ g) ⊎ ((f.end ≤ g.start) ⊎ (g.end ≤ f.start)) → f ≡ g
      go (inl e) = e
      go (inr (inl h)) = absurd (let a = one.begins in let b = two.begins in let some = one_placed.some in omega (arith, h, a, b, some))
      go (inr (inr h)) = absurd (let a = one.begins in let b = two.begins in let some = two_placed.some in omega (arith, h, a, b, some))

  -- a state there knows it of the place, whichever way is taken to name this
  forgets_there : (start at : ℕ) (p : PadState x start at) (g : Function) (n : Marks) (place : ℕ) → IsOf x start g n → at ≡ address_of (flow_graph_of x.image g) place → Forgets x g n place
  forgets_there start at p g n place of address =
      let f : p.function ≡ g = one_function start p.function g p.marks n p.of of in
      by g f n place of address
    where
      by : (h : Function) → p.function ≡ h → (n : Marks) (place : ℕ) → IsOf x start h n → at ≡ address_of (flow_graph_of x.image h) place → Forgets x h n place
      by h e n place of address = moved (subst (λ (f : Function). (m : Marks) × (q : ℕ) × IsOf x start f m × (at ≡ address_of (flow_graph_of x.image f) q) × Forgets x f m q) e (p.marks, p.place, p.of, p.address, p.forgets))
        where
          moved : (m : Marks) × (q : ℕ) × IsOf x start h m × (at ≡ address_of (flow_graph_of x.image h) q) × Forgets x h m q → Forgets x h n place
          moved (m, q, was, there, known) =
              let marks : m ≡ n = marks_agree (flow_graph_of x.image h) m n was.are of.are in
              let one : q ≡ place = omega (arith, there, address) in
              subst (λ (k : ℕ). Forgets x h n k) one (subst (λ (v : Marks). Forgets x h v q) marks known)

  module _ (t : Recorded) (k : Keeps x t) (p : PadState x t.first.function t.regs.pc) (new : Regs) (d : DiffersLow t.regs new)
      (registers : FreeRegisters) (anywhere : FreeAnywhere) (facts_there : FactsAreThere) where
    other : OtherRegisters t new
    other = record { pc = d.pc; words = d.words; sp = d.same SP (omega arith) }

    by_fact : (at : StandsAt x t.first t.segments t.regs t.regs.pc) → Keeps x (record t { regs = new })
    by_fact at =
        let facts = facts_there x at.function at.marks is at.of.among at.of.are in
        let known = forgets_there t.first.function t.regs.pc p at.function at.marks at.place at.of at.address in
        let w = (bounds Fact FrameCause IsAtMost (flow_of (code x at.function at.marks)) facts.0 (laws (code x at.function at.marks)) facts.1.valid).0 at.place known.fact known.state in
        registers x t new k other at facts.0 facts.1 w.0 w.1 (each known w.0 w.2)
      where
        vague : (f h : Fact) → IsAtMost f h → (j : ℕ) → source f j ≡ Other → source h j ≡ Other
        vague f h m j e = elim (m.regs (slot j)) [
          | inl same ↦ sym same ∙ e
          | inr none ↦ none
        ]

        each : (known : Forgets x at.function at.marks at.place) (h : Fact) → IsAtMost known.fact h → (j : ℕ) → (source h j ≡ Other) ⊎ (reg new j ≡ reg t.regs j)
        each known h m j = elim (cases_lt j 4) [
          | inl low ↦ inl (vague known.fact h m j (known.lost j low))
          | inr high ↦ inr (d.same j high)
        ]

    pub pad_free : Keeps x (record t { regs = new })
    pad_free = go (look x.roles t.regs.pc).is_instr refl
      where
        go : (b : Bool) → (look x.roles t.regs.pc).is_instr ≡ b → Keeps x (record t { regs = new })
        go true reached = by_fact (k.first reached)
        go false none = anywhere x t new k other none
