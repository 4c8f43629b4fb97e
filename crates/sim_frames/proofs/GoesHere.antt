-- After a cleanup of a frame the barrier is within reach after it.
use Rattle.std.proofs.Common.{◌≡◌, ℕ, true, List, ◌∷◌, ◌++◌, Result, Ok, [], sym, ◌∙◌, ap, subst, Some, None, refl, ◌<◌, ◌≤◌, Err, arith, Bool, false, cond, nat_eq, append_assoc}
use Rattle.std.specs.List.{cons_option}
use Rattle.std.specs.Prelude.{◌==◌}
use Rattle.std.proofs.lemmas.Bool.Decides.{nat_tests}
use Rattle.eh_bytecode.specs.declared.frame.Vrs.{Vrs}
use Rattle.eh_desc.specs.declared.descriptor.Desc.{Desc}
use Rattle.eh_desc.specs.declared.descriptor.DescFault.{DescFault}
use Rattle.eh_phase.specs.declared.phase2.Goal.{Goal}
use Rattle.eh_phase.specs.Phases.{Frame, Place, descriptor_places, vrs_of, enter_item, from_descriptor, from_address, stands_at, places}
use Rattle.eh_phase.specs.Cleanups.{due_in, is_reached_in, can_be_read}
use Rattle.eh_phase.specs.declared.phase2.Entered.{Entered}
use Rattle.eh_phase.proofs.Due.{Stops, Sort, Unread, Quiet, Clean, Stop, due_past, reached_past, sort}
use Rattle.eh_phase.specs.Firsts.{first_some}
use Rattle.eh_phase.proofs.First.{first_past, first_gives, first_none}
use Rattle.eh_desc.specs.Laws.{Follow, Rise}
use Rattle.eh_phase.proofs.Steps.{all_places}
use Rattle.eh_phase.specs.Laws.{IsInOrder}
use Rattle.eh_phase.specs.declared.phase2.Entered.TheVariants as enters

-- ---- items of one frame

pub record Cleans (g : Goal) (f : Frame) (items : List (Result Desc DescFault)) (qs : List Place) (vrs : Vrs) (pad next site : ℕ) : Type 0 where
  pub before : List (Result Desc DescFault)
  pub desc : Desc
  pub later : List (Result Desc DescFault)
  pub parts : items ≡ before ++ (Ok desc ∷ later)
  pub next_is : desc.next ≡ next
  pub registers : vrs_of f ≡ vrs
  pub stands : f.site ≡ site
  pub due : due_in g (descriptor_places f items ++ qs) ≡ enters.Cleanup vrs pad next site ∷ due_in g (descriptor_places f later ++ qs)
  pub reach : is_reached_in g (descriptor_places f items ++ qs) ≡ true → is_reached_in g (descriptor_places f later ++ qs) ≡ true

abbrev IsCleanup : Entered → Type 0
IsCleanup (enters.Cleanup vrs pad next site) = Unit {0}
IsCleanup (enters.Catch vrs pad) = ⊥
IsCleanup (enters.Spec vrs pad) = ⊥
IsCleanup enters.Unexpected = ⊥
IsCleanup (enters.Terminate cause) = ⊥

not_both : (e : Entered) → Stops e → IsCleanup e → ⊥
not_both (enters.Cleanup vrs pad next site) s c = s
not_both (enters.Catch vrs pad) s c = c
not_both (enters.Spec vrs pad) s c = c
not_both enters.Unexpected s c = c
not_both (enters.Terminate cause) s c = c

abbrev placed_item : Frame → Result Desc DescFault → Place
placed_item f i = record { frame = f; item = i }

cleans_by : (g : Goal) (f : Frame) (i : Result Desc DescFault) (more : List (Result Desc DescFault)) (qs : List Place) (vrs : Vrs) (pad next site : ℕ)
    → (first_some (enter_item g f) more ≡ Some (enters.Cleanup vrs pad next site) → Cleans g f more qs vrs pad next site)
    → first_some (enter_item g f) (i ∷ more) ≡ Some (enters.Cleanup vrs pad next site) → Sort g f i → Cleans g f (i ∷ more) qs vrs pad next site
cleans_by g f i more qs vrs pad next site further e (Unread r k) = let h = first_gives (enter_item g f) i more _ k in absurd cc
cleans_by g f i more qs vrs pad next site further e (Quiet r n c b) =
    let h = further (sym (first_past (enter_item g f) i more n) ∙ e) in
    record {
      before = i ∷ h.before;
      desc = h.desc;
      later = h.later;
      parts = ap (λ l. i ∷ l) h.parts;
      next_is = h.next_is;
      registers = h.registers;
      stands = h.stands;
      due = due_past g (placed_item f i) (descriptor_places f more ++ qs) b ∙ ap (λ o. cons_option o (due_in g (descriptor_places f more ++ qs))) c ∙ h.due;
      reach = λ t. h.reach (sym (reached_past g (placed_item f i) (descriptor_places f more ++ qs) r b) ∙ t);
    }
cleans_by g f i more qs vrs pad next site further e (Clean d at is n c b) =
    let same : Some (enters.Cleanup (vrs_of f) at d.next f.site) ≡ Some (enters.Cleanup vrs pad next site) = sym (first_gives (enter_item g f) i more _ n) ∙ e in
    let whole : enters.Cleanup (vrs_of f) at d.next f.site ≡ enters.Cleanup vrs pad next site = cc in
    record {
      before = [];
      desc = d;
      later = more;
      parts = ap (λ j. j ∷ more) is;
      next_is = cc;
      registers = cc;
      stands = cc;
      due = due_past g (placed_item f i) (descriptor_places f more ++ qs) b ∙ ap (λ o. cons_option o (due_in g (descriptor_places f more ++ qs))) c ∙ ap (λ t. t ∷ due_in g (descriptor_places f more ++ qs)) whole;
      reach = λ t. sym (reached_past g (placed_item f i) (descriptor_places f more ++ qs) (ap can_be_read is) b) ∙ t;
    }
cleans_by g f i more qs vrs pad next site further e (Stop t s r n b) =
    let same : Some t ≡ Some (enters.Cleanup vrs pad next site) = sym (first_gives (enter_item g f) i more _ n) ∙ e in
    let is : t ≡ enters.Cleanup vrs pad next site = cc in
    absurd (not_both t s (subst IsCleanup (sym is) tt))

cleans : (g : Goal) (f : Frame) (items : List (Result Desc DescFault)) (qs : List Place) (vrs : Vrs) (pad next site : ℕ)
    → first_some (enter_item g f) items ≡ Some (enters.Cleanup vrs pad next site) → Cleans g f items qs vrs pad next site
cleans g f [] qs vrs pad next site e = let h = first_none (enter_item g f) in absurd cc
cleans g f (i ∷ more) qs vrs pad next site e = cleans_by g f i more qs vrs pad next site (cleans g f more qs vrs pad next site) e (sort g f i)

-- a frame of which nothing is entered
pub record Passes (g : Goal) (f : Frame) (items : List (Result Desc DescFault)) (qs : List Place) : Type 0 where
  pub due : due_in g (descriptor_places f items ++ qs) ≡ due_in g qs
  pub reach : is_reached_in g (descriptor_places f items ++ qs) ≡ is_reached_in g qs

passes_by : (g : Goal) (f : Frame) (i : Result Desc DescFault) (more : List (Result Desc DescFault)) (qs : List Place)
    → (first_some (enter_item g f) more ≡ None → Passes g f more qs) → first_some (enter_item g f) (i ∷ more) ≡ None → Sort g f i → Passes g f (i ∷ more) qs
passes_by g f i more qs further e (Unread r k) = let h = first_gives (enter_item g f) i more _ k in absurd cc
passes_by g f i more qs further e (Quiet r n c b) =
    let h = further (sym (first_past (enter_item g f) i more n) ∙ e) in
    record {
      due = due_past g (placed_item f i) (descriptor_places f more ++ qs) b ∙ ap (λ o. cons_option o (due_in g (descriptor_places f more ++ qs))) c ∙ h.due;
      reach = reached_past g (placed_item f i) (descriptor_places f more ++ qs) r b ∙ h.reach;
    }
passes_by g f i more qs further e (Clean d at is n c b) = let h = first_gives (enter_item g f) i more _ n in absurd cc
passes_by g f i more qs further e (Stop t s r n b) = let h = first_gives (enter_item g f) i more _ n in absurd cc

pub passes : (g : Goal) (f : Frame) (items : List (Result Desc DescFault)) (qs : List Place) → first_some (enter_item g f) items ≡ None → Passes g f items qs
passes g f [] qs e = record { due = refl; reach = refl }
passes g f (i ∷ more) qs e = passes_by g f i more qs (passes g f more qs) e (sort g f i)

-- ---- the address after a descriptor leads to the items after it

at_least : (a : ℕ) (before : List (Result Desc DescFault)) (d : Desc) (later : List (Result Desc DescFault))
    → Follow a (before ++ (Ok d ∷ later)) → Rise (before ++ (Ok d ∷ later)) → (a ≤ d.at) × (d.at < d.next)
at_least a [] d later h k = (omega (arith, h.0), k.0)
at_least a (Ok x ∷ before) d later h k = let m = at_least x.next before d later h.1 k.1 in (omega (arith, h.0, k.0, m.0), m.1)
at_least a (Err fault ∷ []) d later h k = absurd cc
at_least a (Err fault ∷ y ∷ before) d later h k = absurd cc

not_there : (x : Desc) (at : ℕ) (more : List (Result Desc DescFault)) → x.at < at → from_descriptor at (Ok x ∷ more) ≡ from_descriptor at more
unfolding from_descriptor
not_there x at more h = go (x.at == at) refl
  where
    go : (b : Bool) → nat_eq x.at at ≡ b → cond b (Ok x ∷ more) (from_descriptor at more) ≡ from_descriptor at more
    go true e = absurd (grind (arith, nat_tests))
    go false e = refl

right_there : (at : ℕ) (items : List (Result Desc DescFault)) → Follow at items → from_descriptor at items ≡ items
unfolding from_descriptor
right_there at [] h = refl
right_there at (Err fault ∷ more) h = refl
right_there at (Ok x ∷ more) h = go (x.at == at) refl
  where
    go : (b : Bool) → nat_eq x.at at ≡ b → cond b (Ok x ∷ more) (from_descriptor at more) ≡ Ok x ∷ more
    go true e = refl
    go false e = absurd (let k = h.0 in grind (arith, nat_tests))

after_next : (a : ℕ) (before : List (Result Desc DescFault)) (d : Desc) (later : List (Result Desc DescFault))
    → Follow a (before ++ (Ok d ∷ later)) → Rise (before ++ (Ok d ∷ later)) → from_descriptor d.next (before ++ (Ok d ∷ later)) ≡ later
after_next a [] d later h k = not_there d d.next later k.0 ∙ right_there d.next later h.1
after_next a (Ok x ∷ before) d later h k =
    let m = at_least x.next before d later h.1 k.1 in
    not_there x d.next (before ++ (Ok d ∷ later)) (omega (arith, k.0, m.0, m.1)) ∙ after_next x.next before d later h.1 k.1
after_next a (Err fault ∷ []) d later h k = absurd cc
after_next a (Err fault ∷ y ∷ before) d later h k = absurd cc

-- the address isn't 0
from_next : (at : ℕ) (items : List (Result Desc DescFault)) → 0 < at → from_address at items ≡ from_descriptor at items
from_next at items h = go (at == 0) refl
  where
    go : (b : Bool) → nat_eq at 0 ≡ b → cond b items (from_descriptor at items) ≡ from_descriptor at items
    go true e = absurd (grind (arith, nat_tests))
    go false e = refl

-- the items from an address on are the last ones
pub record Tail (items left : List (Result Desc DescFault)) : Type 0 where
  pub front : List (Result Desc DescFault)
  pub parts : items ≡ front ++ left

after_tail : (at : ℕ) (items : List (Result Desc DescFault)) → Tail items (from_descriptor at items)
unfolding from_descriptor
after_tail at [] = record { front = []; parts = refl }
after_tail at (i ∷ more) = go (stands_at at i) (after_tail at more)
  where
    go : (b : Bool) → Tail more (from_descriptor at more) → Tail (i ∷ more) (cond b (i ∷ more) (from_descriptor at more))
    go true t = record { front = []; parts = refl }
    go false t = record { front = i ∷ t.front; parts = ap (λ l. i ∷ l) t.parts }

from_tail : (at : ℕ) (items : List (Result Desc DescFault)) → Tail items (from_address at items)
from_tail at items = go (at == 0)
  where
    go : (b : Bool) → Tail items (cond b items (from_descriptor at items))
    go true = record { front = []; parts = refl }
    go false = after_tail at items

-- ---- frames

pub places-from : (from : ℕ) (f : Frame) (more : List Frame) → places from (f ∷ more) ≡ descriptor_places f (from_address from f.items) ++ places 0 more
unfolding places
places-from from f more = ap (λ l. descriptor_places f (from_address from f.items) ++ l) (all_places more)

-- the items after a cleanup, as they are looked at from its next address on
pub left_after : (f : Frame) (from : ℕ) (before : List (Result Desc DescFault)) (d : Desc) (later : List (Result Desc DescFault))
    → IsInOrder f → from_address from f.items ≡ before ++ (Ok d ∷ later) → from_address d.next f.items ≡ later
left_after f from before d later o e =
    let t = from_tail from f.items in
    let whole : f.items ≡ (t.front ++ before) ++ (Ok d ∷ later) = t.parts ∙ ap (λ l. t.front ++ l) e ∙ sym (append_assoc t.front before (Ok d ∷ later)) in
    let follow = subst (Follow o.address) whole o.follow in
    let rise = subst Rise whole o.rise in
    let m = at_least o.address (t.front ++ before) d later follow rise in
    ap (from_address d.next) whole ∙ from_next d.next _ (omega (arith, m.1)) ∙ after_next o.address (t.front ++ before) d later follow rise

-- where the frame's own cleanup is entered, the barrier is within reach after it
pub here_reach : (g : Goal) (from : ℕ) (f : Frame) (more : List Frame) (vrs : Vrs) (pad next site : ℕ) → IsInOrder f → first_some (enter_item g f) (from_address from f.items) ≡ Some (enters.Cleanup vrs pad next site)
    → is_reached_in g (places from (f ∷ more)) ≡ true → is_reached_in g (places next (f ∷ more)) ≡ true
here_reach g from f more vrs pad next site o e t =
    let c = cleans g f (from_address from f.items) (places 0 more) vrs pad next site e in
    let left : from_address next f.items ≡ c.later = ap (λ a. from_address a f.items) (sym c.next_is) ∙ left_after f from c.before c.desc c.later o c.parts in
    let here : places next (f ∷ more) ≡ descriptor_places f c.later ++ places 0 more = places-from next f more ∙ ap (λ l. descriptor_places f l ++ places 0 more) left in
    ap (is_reached_in g) here ∙ c.reach (sym (ap (is_reached_in g) (places-from from f more)) ∙ t)

-- a frame of which nothing is entered is passed
pub passed_reach : (g : Goal) (from : ℕ) (f : Frame) (more : List Frame) → first_some (enter_item g f) (from_address from f.items) ≡ None → is_reached_in g (places from (f ∷ more)) ≡ true → is_reached_in g (places 0 more) ≡ true
passed_reach g from f more e t = sym (ap (is_reached_in g) (places-from from f more) ∙ (passes g f (from_address from f.items) (places 0 more) e).reach) ∙ t
