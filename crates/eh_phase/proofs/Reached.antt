-- A barrier that phase 1 gives is within reach of phase 2.
use Rattle.std.proofs.Common.{◌≡◌, ℕ, ◌-◌, zero, suc, Bool, true, false, cond, List, [], ◌∷◌, ◌++◌, refl, sym, ◌∙◌, ap, Option, Some, None, Result, Ok, Err, arith, eq-eqb, append_assoc}
use Rattle.std.specs.Prelude.{unwrap_or, slice_index}
use Rattle.std.specs.Option.{option_to_list}
use Rattle.std.specs.List.{cons_option, flat_map}
use Rattle.thumb_core.specs.declared.ends.Cause.{Cause}
use Rattle.elf_image.specs.Image.{Image}
use Rattle.eh_bytecode.specs.Meaning.{unwind_result}
use Rattle.eh_codes.specs.Cut.{split_codes}
use Rattle.eh_bytecode.specs.declared.frame.Vrs.{Vrs}
use Rattle.eh_match.specs.declared.rules.Match.{Match}
use Rattle.eh_match.specs.declared.rules.Match.TheVariants.{Failed, Object, PointerToBase, Unreadable}
use Rattle.eh_desc.specs.declared.descriptor.CatchType.{CatchType}
use Rattle.eh_desc.specs.declared.descriptor.CatchType.TheVariants.{All, AllFails, One}
use Rattle.eh_desc.specs.declared.descriptor.Desc.{Desc}
use Rattle.eh_desc.specs.declared.descriptor.DescFault.{DescFault}
use Rattle.eh_desc.specs.declared.descriptor.DescKind.{DescKind}
use Rattle.eh_desc.specs.declared.descriptor.DescKind.TheVariants as kind
use Rattle.eh_phase.specs.declared.verdict.Verdict.{Verdict}
use Rattle.eh_phase.specs.declared.verdict.Verdict.TheVariants as says
use Rattle.eh_phase.specs.declared.phase1.Barrier.{Barrier}
use Rattle.eh_phase.specs.declared.phase1.Found.{Found}
use Rattle.eh_phase.specs.declared.phase1.Found.TheVariants as found
use Rattle.eh_phase.specs.declared.phase2.Goal.{Goal}
use Rattle.eh_phase.specs.declared.phase2.Entered.{Entered}
use Rattle.eh_phase.specs.declared.phase2.Entered.TheVariants as enters
use Rattle.eh_phase.specs.declared.walk.CoveringEntry.{CoveringEntry}
use Rattle.eh_phase.specs.Firsts.{first_some, or_else}
use Rattle.eh_phase.specs.Verdict.{Meeting, in_scope, by_match, catch_says, unless_named, desc_verdict_by, heard, verdict_of}
use Rattle.eh_phase.specs.Phases.{Frame, Frames, Place, descriptor_places, places_in, places, is_goal, verdict_result, phase1, phase2, enter_at_place}
use Rattle.eh_phase.specs.Frames.{Stack, MOST_FRAMES, frames_in, frames_of, entry_contents_at, outer, caller_of, check_caller, is_no_frame, is_above, site_of}
use Rattle.eh_phase.specs.Cleanups.{is_barrier_item, is_barrier, due_in, can_be_read, is_reached_in, is_reached}
use Rattle.eh_phase.specs.Laws.{goal_of, Lands, frames_up_to_verdict, Reaches, BarriersAreReached}
use Rattle.eh_phase.proofs.First.{first_past, first_gives, first-append}
use Rattle.eh_phase.proofs.Steps.{said_here, silent_here, all_places, phase1_uncovered, phase1_said, phase1_ended, phase1_on}
use Rattle.eh_phase.proofs.Due.{Stops, Sort, Unread, Quiet, Clean, Stop, sort, due_past, due_stop, reached_unread, reached_past, reached_stop, reached_none}

-- ---- what phase 2 enters is the first that is due

pub record Heads (g : Goal) (ps : List Place) : Type 0 where
  pub entered : Entered
  pub later : List Entered
  pub lands : Lands entered
  pub first : first_some (enter_at_place g) ps ≡ Some entered
  pub due : due_in g ps ≡ entered ∷ later
  pub last : Stops entered → later ≡ []

stops_land : (e : Entered) → Stops e → Lands e
stops_land (enters.Cleanup vrs pad next site) h = tt
stops_land (enters.Catch vrs pad) h = tt
stops_land (enters.Spec vrs pad) h = tt
stops_land enters.Unexpected h = tt
stops_land (enters.Terminate cause) h = h

heads_of : (g : Goal) (p : Place) (ps : List Place) → is_reached_in g (p ∷ ps) ≡ true → (is_reached_in g ps ≡ true → Heads g ps) → Sort g p.frame p.item → Heads g (p ∷ ps)
heads_of g p ps e further (Unread r k) = absurd (let h = reached_unread g p ps r in cc)
heads_of g p ps e further (Quiet r n c b) =
    let h = further (sym (reached_past g p ps r b) ∙ e) in
    record {
      entered = h.entered;
      later = h.later;
      lands = h.lands;
      first = first_past (enter_at_place g) p ps n ∙ h.first;
      due = due_past g p ps b ∙ ap (λ o. cons_option o (due_in g ps)) c ∙ h.due;
      last = h.last;
    }
heads_of g p ps e further (Clean d pad is n c b) = record {
  entered = _;
  later = due_in g ps;
  lands = tt;
  first = first_gives (enter_at_place g) p ps _ n;
  due = due_past g p ps b ∙ ap (λ o. cons_option o (due_in g ps)) c;
  last = λ s. absurd s;
}
heads_of g p ps e further (Stop t s r n b) = record {
  entered = t;
  later = [];
  lands = stops_land t s;
  first = first_gives (enter_at_place g) p ps _ n;
  due = due_stop g p ps b ∙ ap option_to_list n;
  last = λ _. refl;
}

pub heads : (g : Goal) (ps : List Place) → is_reached_in g ps ≡ true → Heads g ps
heads g [] e = absurd (let h = reached_none g in cc)
heads g (p ∷ ps) e = heads_of g p ps e (heads g ps) (sort g p.frame p.item)

-- ---- places in front of others

reached_more : (g : Goal) (p : Place) (ps : List Place) → can_be_read p.item ≡ true → is_reached_in g ps ≡ true → is_reached_in g (p ∷ ps) ≡ true
reached_more g p ps r e = go (is_barrier g p) refl
  where
    go : (b : Bool) → is_barrier g p ≡ b → is_reached_in g (p ∷ ps) ≡ true
    go true h = reached_stop g p ps r h
    go false h = reached_past g p ps r h ∙ e

pub reached_append : (g : Goal) (ps qs : List Place) → is_reached_in g ps ≡ true → is_reached_in g (ps ++ qs) ≡ true
reached_append g [] qs e = absurd (let h = reached_none g in cc)
reached_append g (p ∷ ps) qs e = go (can_be_read p.item) refl (is_barrier g p) refl (reached_append g ps qs)
  where
    go : (r : Bool) → can_be_read p.item ≡ r → (b : Bool) → is_barrier g p ≡ b → (is_reached_in g ps ≡ true → is_reached_in g (ps ++ qs) ≡ true) → is_reached_in g (p ∷ (ps ++ qs)) ≡ true
    go false r b h further = absurd (let k = reached_unread g p ps r in cc)
    go true r true h further = reached_stop g p (ps ++ qs) r h
    go true r false h further = reached_past g p (ps ++ qs) r h ∙ further (sym (reached_past g p ps r h) ∙ e)

pub flat-append : (xs ys : List Frame) → flat_map places_in (xs ++ ys) ≡ flat_map places_in xs ++ flat_map places_in ys
flat-append [] ys = refl
flat-append (f ∷ xs) ys = ap (λ l. places_in f ++ l) (flat-append xs ys) ∙ sym (append_assoc (places_in f) (flat_map places_in xs) (flat_map places_in ys))

pub places-append : (xs ys : List Frame) → places 0 (xs ++ ys) ≡ places 0 xs ++ places 0 ys
places-append xs ys = sym (all_places (xs ++ ys)) ∙ flat-append xs ys ∙ ap (λ l. l ++ flat_map places_in ys) (all_places xs) ∙ ap (λ l. places 0 xs ++ l) (all_places ys)

pub places-cons : (f : Frame) (fs : List Frame) → places 0 (f ∷ fs) ≡ descriptor_places f f.items ++ places 0 fs
unfolding places
places-cons f fs = ap (λ l. descriptor_places f f.items ++ l) (all_places fs)

-- ---- what phase 1 says of a frame

-- an item that says that it is the barrier is it
by_match_at : (at : ℕ) (h : Match) (desc : ℕ) (hit : Match) → by_match at h ≡ Some (says.Barrier desc hit) → at ≡ desc
by_match_at at Failed desc hit e = absurd cc
by_match_at at (Object x) desc hit e = cc
by_match_at at (PointerToBase x) desc hit e = cc
by_match_at at (Unreadable a) desc hit e = absurd cc

unless_named_at : (object at : ℕ) (h : Match) (desc : ℕ) (hit : Match) → unless_named object at h ≡ Some (says.Barrier desc hit) → at ≡ desc
unless_named_at object at Failed desc hit e = cc
unless_named_at object at (Object x) desc hit e = absurd cc
unless_named_at object at (PointerToBase x) desc hit e = absurd cc
unless_named_at object at (Unreadable a) desc hit e = absurd cc

catch_at : (m : Meeting) (at : ℕ) (type : CatchType) (desc : ℕ) (hit : Match) → catch_says m at type ≡ Some (says.Barrier desc hit) → at ≡ desc
catch_at m at All desc hit e = cc
catch_at m at AllFails desc hit e = absurd cc
catch_at m at (One type) desc hit e = by_match_at at (m.matched type) desc hit e

abbrev Speaks : Goal → Frame → Result Desc DescFault → Type 0
Speaks g f i = (can_be_read i ≡ true) × (is_barrier_item g f i ≡ true)

same_goal : (g : Goal) (f : Frame) (at : ℕ) → f.sp ≡ g.sp → at ≡ g.desc → is_goal g f at ≡ true
same_goal g f at e k = rw (eq-eqb _ _ e, eq-eqb _ _ k) refl

speaks : (m : Meeting) (g : Goal) (f : Frame) (i : Result Desc DescFault) (hit : Match) → f.sp ≡ g.sp → heard m f.site i ≡ Some (says.Barrier g.desc hit) → Speaks g f i
speaks m g f (Err fault) hit sp e = absurd cc
speaks m g f (Ok d) hit sp e = scoped (in_scope f.site d) refl d.kind refl e
  where
    scoped : (b : Bool) → in_scope f.site d ≡ b → (k : DescKind) → d.kind ≡ k → cond b (desc_verdict_by m d.at k) None ≡ Some (says.Barrier g.desc hit) → Speaks g f (Ok d)
    scoped false s k is e = absurd cc
    scoped true s (kind.Cleanup pad) is e = absurd cc
    scoped true s (kind.Catch pad reference type) is e = (refl, rw (s, is, same_goal g f d.at sp (catch_at m d.at type g.desc hit e)) refl)
    scoped true s (kind.Spec types count pad) is e = (refl, rw (s, is, same_goal g f d.at sp (unless_named_at m.object d.at _ g.desc hit e)) refl)

-- an item that says nothing can be read
silent : (m : Meeting) (site : ℕ) (i : Result Desc DescFault) → heard m site i ≡ None → can_be_read i ≡ true
silent m site (Ok d) e = refl
silent m site (Err fault) e = absurd cc

said_places : (m : Meeting) (g : Goal) (f : Frame) (items : List (Result Desc DescFault)) (hit : Match) (qs : List Place) → f.sp ≡ g.sp
    → first_some (heard m f.site) items ≡ Some (says.Barrier g.desc hit) → is_reached_in g (descriptor_places f items ++ qs) ≡ true
unfolding first_some
said_places m g f [] hit qs sp e = absurd cc
said_places m g f (i ∷ more) hit qs sp e = go (heard m f.site i) refl e (said_places m g f more hit qs sp)
  where
    go : (o : Option Verdict) → heard m f.site i ≡ o → or_else o (first_some (heard m f.site) more) ≡ Some (says.Barrier g.desc hit)
        → (first_some (heard m f.site) more ≡ Some (says.Barrier g.desc hit) → is_reached_in g (descriptor_places f more ++ qs) ≡ true)
        → is_reached_in g ((record { frame = f; item = i }) ∷ (descriptor_places f more ++ qs)) ≡ true
    go None h e further = reached_more g _ _ (silent m f.site i h) (further e)
    go (Some v) h e further = let s = speaks m g f i hit sp (h ∙ e) in reached_stop g _ _ s.0 s.1

silent_places : (m : Meeting) (g : Goal) (f : Frame) (items : List (Result Desc DescFault)) (qs : List Place)
    → first_some (heard m f.site) items ≡ None → is_reached_in g qs ≡ true → is_reached_in g (descriptor_places f items ++ qs) ≡ true
unfolding first_some
silent_places m g f [] qs e h = h
silent_places m g f (i ∷ more) qs e h = go (heard m f.site i) refl e (λ k. silent_places m g f more qs k h)
  where
    go : (o : Option Verdict) → heard m f.site i ≡ o → or_else o (first_some (heard m f.site) more) ≡ None
        → (first_some (heard m f.site) more ≡ None → is_reached_in g (descriptor_places f more ++ qs) ≡ true)
        → is_reached_in g ((record { frame = f; item = i }) ∷ (descriptor_places f more ++ qs)) ≡ true
    go None k e further = reached_more g _ _ (silent m f.site i k) (further e)
    go (Some v) k e further = absurd cc

-- ---- the frames up to the barrier's

abbrev stop_of : Found → Barrier
stop_of (found.Barrier b) = b
stop_of (found.Terminate cause) = record { sp = 0; desc = 0; site = 0; hit = Failed }
stop_of (found.ObjectRead a) = record { sp = 0; desc = 0; site = 0; hit = Failed }

pub record UpTo (m : Meeting) (b : Barrier) (fs : List Frame) : Type 0 where
  pub reach : is_reached_in (goal_of b) (places 0 (frames_up_to_verdict m fs)) ≡ true
  pub beyond : List Frame
  pub parts : fs ≡ frames_up_to_verdict m fs ++ beyond

found_at : (m : Meeting) (f : Frame) (qs : List Place) (b : Barrier) (v : Verdict) → verdict_of m f.site f.items ≡ Some v → verdict_result f v ≡ found.Barrier b
    → is_reached_in (goal_of b) (descriptor_places f f.items ++ qs) ≡ true
unfolding verdict_of
found_at m f qs b (says.Barrier desc hit) e k =
    let sp : f.sp ≡ b.sp = ap (λ x. (stop_of x).sp) k in
    let at : desc ≡ b.desc = ap (λ x. (stop_of x).desc) k in
    said_places m (goal_of b) f f.items hit qs sp (e ∙ ap (λ a. Some (says.Barrier a hit)) at)
found_at m f qs b (says.ObjectRead a) e k = absurd cc
found_at m f qs b (says.Terminate cause) e k = absurd cc

quiet_frame : (m : Meeting) (g : Goal) (f : Frame) (qs : List Place) → verdict_of m f.site f.items ≡ None → is_reached_in g qs ≡ true → is_reached_in g (descriptor_places f f.items ++ qs) ≡ true
unfolding verdict_of
quiet_frame m g f qs h e = silent_places m g f f.items qs h e

up_to_said : (m : Meeting) (f : Frame) (more : List Frame) (v : Verdict) → verdict_of m f.site f.items ≡ Some v → frames_up_to_verdict m (f ∷ more) ≡ f ∷ []
unfolding frames_up_to_verdict
up_to_said m f more v e = rw e refl

up_to_silent : (m : Meeting) (f : Frame) (more : List Frame) → verdict_of m f.site f.items ≡ None → frames_up_to_verdict m (f ∷ more) ≡ f ∷ frames_up_to_verdict m more
unfolding frames_up_to_verdict
up_to_silent m f more e = rw e refl

no_frames : (m : Meeting) (last : Cause) → phase1 m (record { frames = []; last = last }) ≡ found.Terminate last
unfolding phase1 first_some
no_frames m last = refl

up_to_by : (m : Meeting) (last : Cause) (b : Barrier) (f : Frame) (more : List Frame) (o : Option Verdict) → verdict_of m f.site f.items ≡ o
    → (phase1 m (record { frames = more; last = last }) ≡ found.Barrier b → UpTo m b more) → phase1 m (record { frames = f ∷ more; last = last }) ≡ found.Barrier b → UpTo m b (f ∷ more)
up_to_by m last b f more (Some v) h further e =
    let up = up_to_said m f more v h in
    let k : verdict_result f v ≡ found.Barrier b = sym (said_here m f (record { frames = more; last = last }) v h) ∙ e in
    record {
      reach = ap (λ l. is_reached_in (goal_of b) (places 0 l)) up ∙ ap (is_reached_in (goal_of b)) (places-cons f []) ∙ found_at m f (places 0 []) b v h k;
      beyond = more;
      parts = ap (λ l. l ++ more) (sym up);
    }
up_to_by m last b f more None h further e =
    let up = up_to_silent m f more h in
    let u = further (sym (silent_here m f (record { frames = more; last = last }) h) ∙ e) in
    record {
      reach = ap (λ l. is_reached_in (goal_of b) (places 0 l)) up ∙ ap (is_reached_in (goal_of b)) (places-cons f (frames_up_to_verdict m more)) ∙ quiet_frame m (goal_of b) f (places 0 (frames_up_to_verdict m more)) h u.reach;
      beyond = u.beyond;
      parts = ap (λ l. f ∷ l) u.parts ∙ ap (λ l. l ++ u.beyond) (sym up);
    }

pub up_to_barrier : (m : Meeting) (last : Cause) (b : Barrier) (fs : List Frame) → phase1 m (record { frames = fs; last = last }) ≡ found.Barrier b → UpTo m b fs
up_to_barrier m last b [] e = absurd (let h = no_frames m last in cc)
up_to_barrier m last b (f ∷ more) e = up_to_by m last b f more (verdict_of m f.site f.items) refl (up_to_barrier m last b more) e

-- ---- a barrier that is found under a limit is found without one

free_tests : (end : ℕ) (limit : Option ℕ) (innermost : Bool) (sp : ℕ) (v next : Vrs) (a b : Bool)
    → is_no_frame end innermost sp (slice_index v.r 13) ≡ a → is_above limit (slice_index v.r 13) ≡ b
    → check_caller end limit innermost sp (Some v) ≡ Ok next → check_caller end None innermost sp (Some v) ≡ Ok next
free_tests end limit innermost sp v next true b ea eb e = absurd (grind arith)
free_tests end limit innermost sp v next false true ea eb e = absurd (grind arith)
free_tests end limit innermost sp v next false false ea eb e = grind arith

free_end : (end : ℕ) (limit : Option ℕ) (innermost : Bool) (sp : ℕ) (o : Option Vrs) (next : Vrs) → check_caller end limit innermost sp o ≡ Ok next → check_caller end None innermost sp o ≡ Ok next
free_end end limit innermost sp None next e = e
free_end end limit innermost sp (Some v) next e = free_tests end limit innermost sp v next _ _ refl refl e

free : (stack : Stack) (limit : Option ℕ) (innermost : Bool) (codes r : List ℕ) (next : Vrs) → outer stack limit innermost codes r ≡ Ok next → outer stack None innermost codes r ≡ Ok next
unfolding outer
free stack limit innermost codes r next e = free_end stack.end limit innermost (slice_index r 13) (caller_of (unwind_result stack.segments r (split_codes codes))) next e

none_cut : (m : Meeting) (image : Image) (stack : Stack) (limit : Option ℕ) (innermost : Bool) (site : ℕ) (r : List ℕ)
    → phase1 m (frames_in zero image stack None innermost site r) ≡ phase1 m (frames_in zero image stack limit innermost site r)
unfolding frames_in
none_cut m image stack limit innermost site r = refl

abbrev Freed : Meeting → ℕ → Image → Stack → Option ℕ → Bool → ℕ → List ℕ → Barrier → Type 0
Freed m n image stack limit innermost site r b =
    phase1 m (frames_in n image stack limit innermost site r) ≡ found.Barrier b → phase1 m (frames_in n image stack None innermost site r) ≡ found.Barrier b

by_outer : (m : Meeting) (n : ℕ) (image : Image) (stack : Stack) (limit : Option ℕ) (innermost : Bool) (site : ℕ) (r : List ℕ) (b : Barrier)
    → ((at : ℕ) (new : List ℕ) → Freed m n image stack limit false at new b) → (c : CoveringEntry) → entry_contents_at image site ≡ Some c → verdict_of m site c.descs ≡ None
    → (o : Result Vrs Cause) → outer stack limit innermost c.codes r ≡ o → Freed m (suc n) image stack limit innermost site r b
by_outer m n image stack limit innermost site r b further c is k (Err cause) h e =
    let ends = phase1_ended m (suc n) image stack limit innermost site r c cause (omega arith) is k h in absurd cc
by_outer m n image stack limit innermost site r b further c is k (Ok next) h e =
    let z : suc n - 1 ≡ n = omega arith in
    let on = phase1_on m (suc n) image stack limit innermost site r c next (omega arith) is k h in
    let out = phase1_on m (suc n) image stack None innermost site r c next (omega arith) is k (free stack limit innermost c.codes r next h) in
    out ∙ ap (λ j. phase1 m (frames_in j image stack None false (site_of next.r) next.r)) z
    ∙ further (site_of next.r) next.r (ap (λ j. phase1 m (frames_in j image stack limit false (site_of next.r) next.r)) (sym z) ∙ sym on ∙ e)

by_verdict : (m : Meeting) (n : ℕ) (image : Image) (stack : Stack) (limit : Option ℕ) (innermost : Bool) (site : ℕ) (r : List ℕ) (b : Barrier)
    → ((at : ℕ) (new : List ℕ) → Freed m n image stack limit false at new b) → (c : CoveringEntry) → entry_contents_at image site ≡ Some c
    → (o : Option Verdict) → verdict_of m site c.descs ≡ o → Freed m (suc n) image stack limit innermost site r b
by_verdict m n image stack limit innermost site r b further c is (Some v) k e =
    phase1_said m (suc n) image stack None innermost site r c v (omega arith) is k ∙ sym (phase1_said m (suc n) image stack limit innermost site r c v (omega arith) is k) ∙ e
by_verdict m n image stack limit innermost site r b further c is None k e = by_outer m n image stack limit innermost site r b further c is k (outer stack limit innermost c.codes r) refl e

by_cover : (m : Meeting) (n : ℕ) (image : Image) (stack : Stack) (limit : Option ℕ) (innermost : Bool) (site : ℕ) (r : List ℕ) (b : Barrier)
    → ((at : ℕ) (new : List ℕ) → Freed m n image stack limit false at new b) → (o : Option CoveringEntry) → entry_contents_at image site ≡ o → Freed m (suc n) image stack limit innermost site r b
by_cover m n image stack limit innermost site r b further None is e = let ends = phase1_uncovered m (suc n) image stack limit innermost site r is in absurd cc
by_cover m n image stack limit innermost site r b further (Some c) is e = by_verdict m n image stack limit innermost site r b further c is (verdict_of m site c.descs) refl e

pub unlimited : (m : Meeting) (n : ℕ) (image : Image) (stack : Stack) (limit : Option ℕ) (innermost : Bool) (site : ℕ) (r : List ℕ) (b : Barrier)
    → phase1 m (frames_in n image stack limit innermost site r) ≡ found.Barrier b → phase1 m (frames_in n image stack None innermost site r) ≡ found.Barrier b
unlimited m zero image stack limit innermost site r b e = none_cut m image stack limit innermost site r ∙ e
unlimited m (suc n) image stack limit innermost site r b e =
    by_cover m n image stack limit innermost site r b (λ at new. unlimited m n image stack limit false at new b) (entry_contents_at image site) refl e

-- ---- the law

entered_first : (g : Goal) (from : ℕ) (fs : List Frame) (last : Cause) (e : Entered) → first_some (enter_at_place g) (places from fs) ≡ Some e → phase2 g from (record { frames = fs; last = last }) ≡ e
unfolding phase2
entered_first g from fs last e k = ap (λ o. unwrap_or o (enters.Terminate last)) k

further_first : (g : Goal) (ps qs : List Place) (e : Entered) → first_some (enter_at_place g) ps ≡ Some e → first_some (enter_at_place g) (ps ++ qs) ≡ Some e
further_first g ps qs e k = first-append (enter_at_place g) ps qs ∙ ap (λ o. or_else o (first_some (enter_at_place g) qs)) k

pub whole_reached : (m : Meeting) (b : Barrier) (fs : Frames) → UpTo m b fs.frames → is_reached (goal_of b) 0 fs.frames ≡ true
whole_reached m b fs u =
    let g = goal_of b in
    ap (λ l. is_reached_in g (places 0 l)) u.parts ∙ ap (is_reached_in g) (places-append (frames_up_to_verdict m fs.frames) u.beyond) ∙ reached_append g (places 0 (frames_up_to_verdict m fs.frames)) (places 0 u.beyond) u.reach

reaches : (m : Meeting) (b : Barrier) (fs : Frames) → UpTo m b fs.frames → Reaches m b fs
reaches m b fs u =
    let g = goal_of b in
    let h = heads g (places 0 (frames_up_to_verdict m fs.frames)) u.reach in
    let first : (more : List Frame) → first_some (enter_at_place g) (places 0 (frames_up_to_verdict m fs.frames ++ more)) ≡ Some h.entered =
    λ more. ap (first_some (enter_at_place g)) (places-append (frames_up_to_verdict m fs.frames) more) ∙ further_first g (places 0 (frames_up_to_verdict m fs.frames)) (places 0 more) h.entered h.first in
    let here : first_some (enter_at_place g) (places 0 fs.frames) ≡ Some h.entered = ap (λ l. first_some (enter_at_place g) (places 0 l)) u.parts ∙ first u.beyond in
    let k = heads g (places 0 fs.frames) (whole_reached m b fs u) in
    let both : Some k.entered ≡ Some h.entered = sym k.first ∙ here in
    let same : k.entered ≡ h.entered = cc in
    record {
      entered = h.entered;
      later = k.later;
      lands = h.lands;
      first = k.due ∙ ap (λ e. e ∷ k.later) same;
      enters = entered_first g 0 fs.frames fs.last h.entered here;
      no_further = λ more last. entered_first g 0 (frames_up_to_verdict m fs.frames ++ more) last h.entered (first more);
    }

pub barriers_are_reached : BarriersAreReached
barriers_are_reached m image stack limit site r b e =
    let fs = frames_of image stack None site r in
    reaches m b fs (up_to_barrier m fs.last b fs.frames (unlimited m MOST_FRAMES image stack limit true site r b e))
