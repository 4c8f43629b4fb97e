-- After a cleanup that phase 2 enters, what is due goes on at its frame; and a frame of which nothing is entered leaves it.
use Rattle.std.proofs.Common.{◌≡◌, ℕ, List, [], ◌∷◌, ◌++◌, Some, None, Result, Ok, sym, ◌∙◌, ap, subst}
use Rattle.std.specs.List.{cons_option}
use Rattle.eh_bytecode.specs.declared.frame.Vrs.{Vrs}
use Rattle.eh_desc.specs.declared.descriptor.Desc.{Desc}
use Rattle.eh_desc.specs.declared.descriptor.DescFault.{DescFault}
use Rattle.eh_phase.specs.declared.phase2.Goal.{Goal}
use Rattle.eh_phase.specs.declared.phase2.Entered.{Entered}
use Rattle.eh_phase.specs.declared.phase2.Entered.TheVariants as enters
use Rattle.eh_phase.specs.Cleanups.{remaining_landings, due_in}
use Rattle.eh_phase.specs.Firsts.{first_some}
use Rattle.eh_phase.specs.Laws.{IsInOrder}
use Rattle.eh_phase.specs.Phases.{Frame, Place, descriptor_places, places, from_address, vrs_of, enter_item}
use Rattle.eh_phase.proofs.First.{first_past, first_gives, first_none}
use Rattle.eh_phase.proofs.Due.{Stops, Sort, Unread, Quiet, Clean, Stop, sort, due_past}
use Rattle.sim_frames.proofs.GoesHere.{passes, places-from, left_after}

abbrev Cleanup : Vrs → ℕ → ℕ → ℕ → Entered
Cleanup vrs pad next site = enters.Cleanup vrs pad next site

-- the frame's own items up to a cleanup that is entered
record Cleans (g : Goal) (f : Frame) (items : List (Result Desc DescFault)) (qs : List Place) (vrs : Vrs) (pad next site : ℕ) : Type 0 where
  pub before : List (Result Desc DescFault)
  pub desc : Desc
  pub later : List (Result Desc DescFault)
  pub parts : items ≡ before ++ (Ok desc ∷ later)
  pub next_is : desc.next ≡ next
  pub registers : vrs_of f ≡ vrs
  pub stands : f.site ≡ site
  pub due : due_in g (descriptor_places f items ++ qs) ≡ Cleanup vrs pad next site ∷ due_in g (descriptor_places f later ++ qs)

abbrev IsCleanup : Entered → Type 0
IsCleanup (enters.Cleanup vrs pad next site) = Unit {0}
IsCleanup (enters.Catch vrs pad) = ⊥
IsCleanup (enters.Spec vrs pad) = ⊥
IsCleanup enters.Unexpected = ⊥
IsCleanup (enters.Terminate cause) = ⊥

not_both : (e : Entered) → Stops e → IsCleanup e → ⊥
not_both (enters.Cleanup vrs pad next site) s c = s
not_both (enters.Catch vrs pad) s c = c
not_both (enters.Spec vrs pad) s c = c
not_both enters.Unexpected s c = c
not_both (enters.Terminate cause) s c = c

abbrev placed_item : Frame → Result Desc DescFault → Place
placed_item f i = record { frame = f; item = i }

cleans_by : (g : Goal) (f : Frame) (i : Result Desc DescFault) (more : List (Result Desc DescFault)) (qs : List Place) (vrs : Vrs) (pad next site : ℕ)
    → (first_some (enter_item g f) more ≡ Some (Cleanup vrs pad next site) → Cleans g f more qs vrs pad next site) → first_some (enter_item g f) (i ∷ more) ≡ Some (Cleanup vrs pad next site) → Sort g f i
    → Cleans g f (i ∷ more) qs vrs pad next site
cleans_by g f i more qs vrs pad next site further e (Unread r k) = let h = first_gives (enter_item g f) i more _ k in absurd cc
cleans_by g f i more qs vrs pad next site further e (Quiet r n c b) =
    let h = further (sym (first_past (enter_item g f) i more n) ∙ e) in
    record {
      before = i ∷ h.before;
      desc = h.desc;
      later = h.later;
      parts = ap (λ l. i ∷ l) h.parts;
      next_is = h.next_is;
      registers = h.registers;
      stands = h.stands;
      due = due_past g (placed_item f i) (descriptor_places f more ++ qs) b ∙ ap (λ o. cons_option o (due_in g (descriptor_places f more ++ qs))) c ∙ h.due;
    }
cleans_by g f i more qs vrs pad next site further e (Clean d at is n c b) =
    let same : Some (enters.Cleanup (vrs_of f) at d.next f.site) ≡ Some (Cleanup vrs pad next site) = sym (first_gives (enter_item g f) i more _ n) ∙ e in
    let whole : enters.Cleanup (vrs_of f) at d.next f.site ≡ Cleanup vrs pad next site = cc in
    record {
      before = [];
      desc = d;
      later = more;
      parts = ap (λ j. j ∷ more) is;
      next_is = cc;
      registers = cc;
      stands = cc;
      due = due_past g (placed_item f i) (descriptor_places f more ++ qs) b ∙ ap (λ o. cons_option o (due_in g (descriptor_places f more ++ qs))) c ∙ ap (λ t. t ∷ due_in g (descriptor_places f more ++ qs)) whole;
    }
cleans_by g f i more qs vrs pad next site further e (Stop t s r n b) =
    let same : Some t ≡ Some (Cleanup vrs pad next site) = sym (first_gives (enter_item g f) i more _ n) ∙ e in
    let is : t ≡ Cleanup vrs pad next site = cc in
    absurd (not_both t s (subst IsCleanup (sym is) tt))

cleans : (g : Goal) (f : Frame) (items : List (Result Desc DescFault)) (qs : List Place) (vrs : Vrs) (pad next site : ℕ) → first_some (enter_item g f) items ≡ Some (Cleanup vrs pad next site)
    → Cleans g f items qs vrs pad next site
cleans g f [] qs vrs pad next site e = let h = first_none (enter_item g f) in absurd cc
cleans g f (i ∷ more) qs vrs pad next site e = cleans_by g f i more qs vrs pad next site (cleans g f more qs vrs pad next site) e (sort g f i)

pub record GoesHere (g : Goal) (from : ℕ) (f : Frame) (more : List Frame) (vrs : Vrs) (pad next site : ℕ) : Type 0 where
  pub registers : vrs_of f ≡ vrs
  pub stands : f.site ≡ site
  pub due : remaining_landings g from (f ∷ more) ≡ Cleanup vrs pad next site ∷ remaining_landings g next (f ∷ more)

-- where the frame's own cleanup is entered
pub here_due : (g : Goal) (from : ℕ) (f : Frame) (more : List Frame) (vrs : Vrs) (pad next site : ℕ) → IsInOrder f → first_some (enter_item g f) (from_address from f.items) ≡ Some (Cleanup vrs pad next site)
    → GoesHere g from f more vrs pad next site
here_due g from f more vrs pad next site o e =
    let c = cleans g f (from_address from f.items) (places 0 more) vrs pad next site e in
    let left : from_address next f.items ≡ c.later = ap (λ a. from_address a f.items) (sym c.next_is) ∙ left_after f from c.before c.desc c.later o c.parts in
    let here : places next (f ∷ more) ≡ descriptor_places f c.later ++ places 0 more = places-from next f more ∙ ap (λ l. descriptor_places f l ++ places 0 more) left in
    record {
      registers = c.registers;
      stands = c.stands;
      due = ap (due_in g) (places-from from f more) ∙ c.due ∙ ap (λ es. Cleanup vrs pad next site ∷ es) (sym (ap (due_in g) here));
    }

-- where none of the frame's own is
pub passed_due : (g : Goal) (from : ℕ) (f : Frame) (more : List Frame) → first_some (enter_item g f) (from_address from f.items) ≡ None → remaining_landings g from (f ∷ more) ≡ remaining_landings g 0 more
passed_due g from f more e = ap (due_in g) (places-from from f more) ∙ (passes g f (from_address from f.items) (places 0 more) e).due
