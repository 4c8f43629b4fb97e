-- Which causes stand at a place, and which instructions are calls.
use Rattle.std.proofs.Common.{ℕ, ◌≡◌, ◌==◌, ◌⊎◌, inl, inr, cond, Bool, true, false, Some, None, option_and_then, sym, ◌∙◌, ap, refl, ⊎_elim}
use Rattle.std.proofs.lemmas.Bool.{false≢true, eqb-true, eq-eqb}
use Rattle.thumb_isa.specs.declared.instr.Instr.{Instr}
use Rattle.thumb_isa.specs.declared.instr.Instr.TheVariants.{Bl, Blx, Svc}
use Rattle.frame_facts.specs.declared.cause.FrameCause.{FrameCause}
use Rattle.frame_facts.specs.declared.cause.FrameCause.TheVariants.{JoinDepth, PadDepth}
use Rattle.frame_facts.specs.declared.facts.Fact.{Fact}
use Rattle.frame_facts.specs.Facts.{join_of}
use Rattle.frame_graph.specs.Places.{address_of}
use Rattle.frame_graph.specs.Sites.{site_of}
use Rattle.frame_dataflow.specs.Flow.{at_entry, met, apart}
use Rattle.frame_flow.specs.Framed.{FramedFunction}
use Rattle.frame_flow.specs.Causes.{is_call}
use Rattle.frame_flow.specs.Flows.{is_depth_cause, StandsIn, IsStateOf}
use Rattle.frame_flow.specs.Conditions.{Holds, HasTwoDepths, OfDepths, CausesStand, EntryIsAState, SitesAreCallsOrGates}
use Rattle.frame_flow.proofs.Conditions.{causes_are_conditions}

parted_is : (x : FramedFunction) (p : ℕ) (c : FrameCause) → is_depth_cause x p c ≡ true → OfDepths x p c
parted_is x p JoinDepth h = tt
parted_is x p PadDepth h = h
parted_is x p c h = absurd (false≢true h)

is_parted : (x : FramedFunction) (p : ℕ) (c : FrameCause) → OfDepths x p c → is_depth_cause x p c ≡ true
is_parted x p JoinDepth h = refl
is_parted x p PadDepth h = h
is_parted x p c h = absurd h

-- two facts have no meeting exactly where their depths differ
apart_differ : (f g : Fact) → join_of f g ≡ None → f.depth ≡ g.depth → ⊥
apart_differ f g h e = by (f.depth == g.depth) _ (eq-eqb f.depth g.depth e) h
  where
    by : (b : Bool) (k : Fact) → b ≡ true → cond b (Some k) None ≡ None → ⊥
    by true k e h = absurd cc
    by false k e h = false≢true e

differ_apart : (f g : Fact) → (f.depth ≡ g.depth → ⊥) → join_of f g ≡ None
differ_apart f g ne = by (f.depth == g.depth) _ (λ e. ne (eqb-true f.depth g.depth e))
  where
    by : (b : Bool) (k : Fact) → (b ≡ true → ⊥) → cond b (Some k) None ≡ None
    by true k h = absurd (h refl)
    by false k h = refl

stands_is : (x : FramedFunction) (p : ℕ) (c : FrameCause) → StandsIn x p c → ((f : Fact) × IsStateOf x p f × Holds x p f c) ⊎ (OfDepths x p c × HasTwoDepths x p)
stands_is x _ _ (met {p} {f} {c} s m) = inl (f, s, (causes_are_conditions x c p f).0 m)
stands_is x _ _ (apart {p} {f} {g} {c} s t e m) = inr (parted_is x p c m, (f, g, s, t, apart_differ f g e))

pub causes_stand : CausesStand
causes_stand x p c = (
  λ s. stands_is x p c s,
  λ w. ⊎_elim
      (λ (h : (f : Fact) × IsStateOf x p f × Holds x p f c). met h.1 ((causes_are_conditions x c p h.0).1 h.2))
      (λ (h : OfDepths x p c × HasTwoDepths x p). apart h.1.2 h.1.3 (differ_apart h.1.0 h.1.1 h.1.4) (is_parted x p c h.0))
      w,
)

pub entry_is_a_state : EntryIsAState
entry_is_a_state x = at_entry

call_or_gate : (a site : ℕ) (i : Instr) → site_of a i ≡ Some site → (is_call i ≡ true) ⊎ ((is_call i ≡ false) × ((imm : ℕ) × (i ≡ Svc imm)))
call_or_gate a site (Bl off) h = inl refl
call_or_gate a site (Blx m) h = inl refl
call_or_gate a site (Svc imm) h = inr (refl, (imm, refl))
call_or_gate a site i h = absurd cc

pub sites_are_calls_or_gates : SitesAreCallsOrGates
sites_are_calls_or_gates x p i site e s = call_or_gate (address_of x.flow_graph p) site i (sym (ap (λ o. option_and_then (site_of (address_of x.flow_graph p)) o) e) ∙ s)
