-- What phase 2 enters over the frames of recorded activations is the first that is due; after a cleanup the rest is due from its frame on.
use Rattle.std.proofs.Common.{◌≡◌, ℕ, suc, Bool, cond, List, [], ◌∷◌, ◌++◌, drop, length, Option, Some, None, refl, sym, ◌∙◌, ap}
use Rattle.std.specs.Prelude.{All, is_some}
use Rattle.std.proofs.lemmas.List.Elements.{All-head, All-tail}
use Rattle.std.proofs.lemmas.Option.{none-some}
use Rattle.eh_bytecode.specs.declared.frame.Vrs.{Vrs}
use Rattle.eh_desc.specs.declared.descriptor.Desc.{Desc}
use Rattle.eh_desc.specs.declared.descriptor.DescFault.{DescFault}
use Rattle.std.specs.Prelude.{Result}
use Rattle.eh_phase.specs.declared.phase2.Goal.{Goal}
use Rattle.eh_phase.specs.declared.phase2.Entered.{Entered}
use Rattle.eh_phase.specs.declared.phase2.Entered.TheVariants as enters
use Rattle.eh_phase.specs.Cleanups.{remaining_landings}
use Rattle.eh_phase.specs.Firsts.{first_some, or_else}
use Rattle.eh_phase.specs.Laws.{IsInOrder}
use Rattle.eh_phase.specs.Phases.{Frame, descriptor_places, places, from_address, vrs_of, enter_item, enter_at_place}
use Rattle.eh_phase.proofs.First.{first-map}
use Rattle.eh_phase.proofs.Steps.{parted}
use Rattle.sim_machines.specs.Activations.{Activation}
use Rattle.sim_machines.specs.ActivationMachine.{is_entered, passed_frame_count}
use Rattle.sim_frames.specs.Landings.{Fit}
use Rattle.sim_landings.proofs.DueSteps.{here_due, passed_due}

pub record IsDueFrom (g : Goal) (from : ℕ) (fs : List Frame) (acts : List Activation) (vrs : Vrs) (pad next site : ℕ) : Type 0 where
  pub cut : List Activation
  pub first : Activation
  pub more : List Activation
  pub all : acts ≡ cut ++ first ∷ more
  pub passed : drop (passed_frame_count g from fs) acts ≡ first ∷ more
  pub inner : List Frame
  pub frame : Frame
  pub outer : List Frame
  pub frames : fs ≡ inner ++ frame ∷ outer
  pub beside : length inner ≡ length cut
  pub registers : vrs_of frame ≡ vrs
  pub stands : frame.site ≡ site
  pub due : remaining_landings g from fs ≡ enters.Cleanup vrs pad next site ∷ remaining_landings g next (frame ∷ outer)

own_first : (g : Goal) (f : Frame) (items : List (Result Desc DescFault)) → first_some (enter_at_place g) (descriptor_places f items) ≡ first_some (enter_item g f) items
own_first g f items = first-map (enter_at_place g) (λ i. record { frame = f; item = i }) items

pub lands_due : (g : Goal) (from sp : ℕ) (fs : List Frame) (acts : List Activation) (vrs : Vrs) (pad next site : ℕ) → Fit sp fs acts → All IsInOrder fs
    → first_some (enter_at_place g) (places from fs) ≡ Some (enters.Cleanup vrs pad next site) → IsDueFrom g from fs acts vrs pad next site
unfolding passed_frame_count first_some places
lands_due g from sp [] acts vrs pad next site fit o is = absurd (none-some _ is)
lands_due g from sp (f ∷ more) [] vrs pad next site fit o is = absurd fit
lands_due g from sp (f ∷ more) (a ∷ acts) vrs pad next site fit o is =
    go (first_some (enter_item g f) (from_address from f.items)) refl (sym (parted g from f more) ∙ is) (λ w. lands_due g 0 a.caller.sp more acts vrs pad next site fit.2 (All-tail IsInOrder f more o) w)
  where
    here : (o : Option Entered) → first_some (enter_item g f) (from_address from f.items) ≡ o → is_entered g from f ≡ is_some o
    here o e = ap is_some (own_first g f (from_address from f.items) ∙ e)

    go : (q : Option Entered) → first_some (enter_item g f) (from_address from f.items) ≡ q → or_else q (first_some (enter_at_place g) (places 0 more)) ≡ Some (enters.Cleanup vrs pad next site)
        → (first_some (enter_at_place g) (places 0 more) ≡ Some (enters.Cleanup vrs pad next site) → IsDueFrom g 0 more acts vrs pad next site) → IsDueFrom g from (f ∷ more) (a ∷ acts) vrs pad next site
    go (Some y) own is later =
        let d = here_due g from f more vrs pad next site (All-head IsInOrder f more o) (own ∙ is) in
        record {
          cut = [];
          first = a;
          more = acts;
          all = refl;
          passed = ap (λ (b : Bool). drop (cond b 0 (suc (passed_frame_count g 0 more))) (a ∷ acts)) (here (Some y) own);
          inner = [];
          frame = f;
          outer = more;
          frames = refl;
          beside = refl;
          registers = d.registers;
          stands = d.stands;
          due = d.due;
        }
    go None own is later =
        let l = later is in
        record {
          cut = a ∷ l.cut;
          first = l.first;
          more = l.more;
          all = ap (λ (xs : List Activation). a ∷ xs) l.all;
          passed = ap (λ (b : Bool). drop (cond b 0 (suc (passed_frame_count g 0 more))) (a ∷ acts)) (here None own) ∙ l.passed;
          inner = f ∷ l.inner;
          frame = l.frame;
          outer = l.outer;
          frames = ap (λ (xs : List Frame). f ∷ xs) l.frames;
          beside = ap (λ (n : ℕ). suc n) l.beside;
          registers = l.registers;
          stands = l.stands;
          due = passed_due g from f more own ∙ l.due;
        }
