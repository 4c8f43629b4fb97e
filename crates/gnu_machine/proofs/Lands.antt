-- What a landing leaves: it stands at a pad of the activation that phase 2 enters, and at a handler's pad the exception has landed.
use Rattle.std.proofs.Common.{◌≡◌, ℕ, ◌<◌, ◌≤◌, ◌⊎◌, inl, inr, Bool, true, false, List, ◌∷◌, ◌++◌, length, drop, Option, Some, None, refl, sym, ap, subst, ◌∙◌, arith, get_or-set_same}
use Rattle.std.specs.Prelude.{unwrap_or, slice_index}
use Rattle.eh_bus.specs.Segment.{Segment}
use Rattle.eh_cxa.proofs.Looking.{one_state}
use Rattle.eh_cxa.proofs.Pools.{slot_of_block_is}
use Rattle.eh_cxa.specs.ListCalls.{become, land_record, land_entry, land_list}
use Rattle.eh_cxa.specs.Lists.{Record, Entry, Free, OutOfUse, Live, Lists, entry, state_in}
use Rattle.eh_cxa.specs.States.{is_flying}
use Rattle.eh_cxa.specs.Words.{block, block_slot}
use Rattle.eh_cxa.specs.declared.globals.CleanupWords.{CleanupWords}
use Rattle.eh_cxa.specs.declared.layout.TheConstants.{SLOTS}
use Rattle.eh_cxa.specs.declared.state.State.{State as Stage}
use Rattle.eh_cxa.specs.declared.state.State.TheVariants.{Flying, Landed}
use Rattle.eh_gates.specs.Landing.{pad_event, words_of}
use Rattle.eh_gates.specs.declared.state.Turned.TheVariants.{Went}
use Rattle.eh_phase.specs.Firsts.{first_some}
use Rattle.eh_phase.specs.Phases.{Frame, Frames, enter_at_place, places, phase2}
use Rattle.eh_phase.specs.declared.phase2.Entered.{Entered}
use Rattle.eh_phase.specs.declared.phase2.Entered.TheVariants as enters
use Rattle.eh_phase.specs.declared.phase2.Goal.{Goal}
use Rattle.eh_trace.specs.declared.event.Event.{Event}
use Rattle.eh_trace.specs.declared.event.EventKind.TheVariants as event
use Rattle.frame_check.specs.Accepts.{Accepted}
use Rattle.frame_entries.specs.Scopes.{pad_of}
use Rattle.sim_frames.proofs.Landing.{lands_in}
use Rattle.sim_frames.proofs.Located.{Sides, side_at, located}
use Rattle.sim_frames.specs.Landings.{Offers, OfFrame, Fit, Rise, LandsIn, IsLocated, AtFirst, AtCall}
use Rattle.sim_frames.proofs.Agreement.{called_site}
use Rattle.sim_frames.proofs.CodeBytes.{codes_are_recipes}
use Rattle.sim_relation.proofs.Flows.{stands_instruction}
use Rattle.eh_bus.specs.Map.{AreSegments}
use Rattle.frame_check.specs.Roots.{flow_graph_of}
use Rattle.sim_relation.specs.Chain.{Chain}
use Rattle.sim_relation.specs.Holds.{IsWhole}
use Rattle.sim_relation.specs.Stands.{IsProgram}
use Rattle.thumb_core.specs.Registers.{even}
use Rattle.thumb_core.specs.declared.regs.TheConstants.{SP}
use Rattle.sim_machines.specs.Activations.{Activation, Recorded, frames_at, lists_of}
use Rattle.sim_machines.specs.ActivationMachine as machine
use Rattle.gnu_machine.specs.Laws.{HasLanded}
use Rattle.gnu_machine.proofs.Events.{not_went}
use Rattle.gnu_machine.proofs.PadStates.{SiteState, PadState, pad_state}

-- ---- an exception that flies lands

landed_record : (l : Lists) (slot : ℕ) (r : Record) → slot < length l.entries → (b : Bool) → is_flying (Some r.state) ≡ b → r.state ≡ Flying → state_in (entry (land_record b l slot r) slot) ≡ Some Landed
landed_record l slot r inside true e f = ap state_in (get_or-set_same l.entries slot (Live (become Landed r.count r)) OutOfUse inside)
landed_record l slot r inside false e f = absurd (let q : true ≡ false = sym (ap (λ (st : Stage). is_flying (Some st)) f) ∙ e in cc)

pub lands_landed : (l : Lists) (slot : ℕ) → slot < length l.entries → state_in (entry l slot) ≡ Some Flying → state_in (entry (land_list l slot) slot) ≡ Some Landed
lands_landed l slot inside flies = by (entry l slot) flies
  where
    by : (e : Entry) → state_in e ≡ Some Flying → state_in (entry (land_entry l slot e) slot) ≡ Some Landed
    by Free f = absurd cc
    by OutOfUse f = absurd cc
    by (Live r) f = landed_record l slot r inside (is_flying (Some r.state)) refl (one_state r.state Flying f)

-- ---- what is left

-- at a pad, and where it is not a handler's no catch was counted
pub record Arrived (x : Accepted) (s t : Recorded) : Type 0 where
  pub pad : PadState x t.first.function t.regs.pc
  pub landed : HasLanded t ⊎ (t.events.catches ≡ s.events.catches)

module _ (x : Accepted) (is : IsProgram x) (s t u : Recorded) (slot : ℕ) (small : slot < SLOTS) (flies : state_in (entry (lists_of u) slot) ≡ Some Flying) (sized : length u.entries ≡ SLOTS)
    (catches : u.events.catches ≡ s.events.catches) (segments : List Segment) (are : AreSegments segments) (home : ℕ × ℕ) (a : Activation) (outer : List Activation) (site : ℕ) (r : List ℕ) (at : SiteState x a.function site)
    (whole : IsWhole a.caller) (chain : Chain x segments home a.caller outer) (low : ℕ) (within : low ≤ home.1)
    (fit : Fit low (frames_at x.image None site r a outer).frames (a ∷ outer)) (rise : Rise home.1 low (a ∷ outer))
    (g : Goal) (from object : ℕ) (went : machine.advances u (a ∷ outer) (block slot) object g from (frames_at x.image None site r a outer) ≡ (Went, t)) where
  abbrev fs : Frames
  fs = frames_at x.image None site r a outer

  is_slot : block_slot (block slot) ≡ Some slot
  is_slot = slot_of_block_is slot small

  -- the pads of a frame that is located
  pads_of : (f : Frame) (b : Activation) (pad : ℕ) → IsLocated x segments site r a f b → Offers f pad → PadState x b.function (even pad)
  pads_of f b pad l o = elim l.1 [
    | inl one ↦ at_first one
    | inr two ↦ at_call two
  ]
    where
      at_first : AtFirst site r a f b → PadState x b.function (even pad)
      at_first one = subst (λ (c : Activation). PadState x c.function (even pad)) (sym one.is) (pad_state x is a.function site at f l.0 one.site pad o)

      at_call : AtCall x segments f b → PadState x b.function (even pad)
      at_call two =
          let out = two.stands in
          let there : SiteState x b.function f.site = record {
            function = out.function;
            marks = out.marks;
            of = out.of;
            place = out.place;
            fact = out.fact;
            state = out.state;
            instr = out.instr;
            at = stands_instruction (flow_graph_of x.image out.function) out.place out.instr out.size out.stands;
            is_site = called_site x is (codes_are_recipes x is) segments are two.inside b out two.whole ∙ ap Some (sym two.site);
          } in
          pad_state x is b.function f.site there f l.0 refl pad o

  module _ (e : Entered) (phase : phase2 g from fs ≡ e) (l : LandsIn g from home.1 low fs.frames (a ∷ outer) e) where
    there : IsLocated x segments site r a l.frame l.first
    there =
        side_at (IsLocated x segments site r a) l.inner l.frame l.outer l.cut l.first l.more l.beside
        (subst (λ (acts : List Activation). Sides (IsLocated x segments site r a) (l.inner ++ l.frame ∷ l.outer) acts) l.all
        (subst (λ (gs : List Frame). Sides (IsLocated x segments site r a) gs (a ∷ outer)) l.frames (located x segments home None site r a outer whole chain)))

    left : machine.enter_landing u (l.first ∷ l.more) (block slot) object e ≡ (Went, t)
    left =
        sym (ap (λ (acts : List Activation). machine.enter_landing u acts (block slot) object e) l.passed)
        ∙ sym (ap (machine.enter_landing u (drop (machine.passed_frame_count g from fs.frames) (a ∷ outer)) (block slot) object) phase) ∙ went

    in_cleanup : (pad : ℕ) (rs : List ℕ) (w : CleanupWords) → Offers l.frame pad → Arrived x s (machine.enter_cleanup u (l.first ∷ l.more) (block slot) rs pad w)
    in_cleanup pad rs w o = record { pad = pads_of l.frame l.first pad there o; landed = inr (same (block_slot (block slot)) ∙ catches) }
      where
        same : (k : Option ℕ) → (machine.in_progress u (machine.outside_of (l.first ∷ l.more)) (block slot) w k).events.catches ≡ u.events.catches
        same None = refl
        same (Some k) = refl

    at_handler : (pad : ℕ) (rs : List ℕ) (e : Event) → Offers l.frame pad → Arrived x s (machine.enter_handler u (l.first ∷ l.more) (block slot) rs pad e)
    at_handler pad rs e o = record {
      pad = pads_of l.frame l.first pad there o;
      landed = inl (record {
        slot = slot;
        small = small;
        control = refl;
        landed =
            ap (λ (k : Option ℕ). state_in (entry (lists_of (machine.land_exception u k)) slot)) is_slot
            ∙ lands_landed (lists_of u) slot (let z = sized in omega (arith, z, small)) flies;
      });
    }

    by_entered : (d : Entered) → OfFrame g l.frame d → machine.enter_landing u (l.first ∷ l.more) (block slot) object d ≡ (Went, t) → Arrived x s t
    by_entered (enters.Cleanup vrs pad next at) of q =
        let c = of.2 in
        subst (Arrived x s) (ap (λ (o : machine.Outcome). o.1) q)
        (in_cleanup pad vrs.r (words_of vrs.r next at) (record { before = c.before; desc = c.desc; after = c.after; items = c.items; scope = c.scope; kind = ap pad_of c.kind }))
    by_entered (enters.Catch vrs pad) of q =
        subst (Arrived x s) (ap (λ (o : machine.Outcome). o.1) q) (at_handler pad vrs.r (pad_event event.Catch pad (slice_index vrs.r SP) object) of.1)
    by_entered (enters.Spec vrs pad) of q =
        subst (Arrived x s) (ap (λ (o : machine.Outcome). o.1) q) (at_handler pad vrs.r (pad_event event.Unexpected pad (slice_index vrs.r SP) 0) of.1)
    by_entered enters.Unexpected of q = absurd (not_went _ u t q)
    by_entered (enters.Terminate why) of q = absurd (not_went _ u t q)

    arrives_in : Arrived x s t
    arrives_in = by_entered e l.of left

  phase_is : (o : Option Entered) → first_some (enter_at_place g) (places from fs.frames) ≡ o → phase2 g from fs ≡ unwrap_or o (enters.Terminate fs.last)
  unfolding phase2
  phase_is o e = ap (λ (v : Option Entered). unwrap_or v (enters.Terminate fs.last)) e

  pub arrives : Arrived x s t
  arrives = by (first_some (enter_at_place g) (places from fs.frames)) refl
    where
      by : (o : Option Entered) → first_some (enter_at_place g) (places from fs.frames) ≡ o → Arrived x s t
      by None e =
          absurd (not_went _ u t
          (sym (ap (machine.enter_landing u (drop (machine.passed_frame_count g from fs.frames) (a ∷ outer)) (block slot) object) (phase_is None e)) ∙ went))
      by (Some d) e = arrives_in d (phase_is (Some d) e) (lands_in g from home.1 low fs.frames (a ∷ outer) d within fit rise e)
