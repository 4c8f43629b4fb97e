-- A stop that is found: the frame of the number has its descriptor, and all descriptors in front of it can be read.
use Rattle.std.proofs.Common.{◌≡◌, ℕ, zero, suc, ◌≤◌, ◌&&◌, Bool, true, false, cond, List, [], ◌∷◌, ◌++◌, map, take, drop, refl, sym, ap, subst, ◌∙◌, Option, Some, None, Result, Ok, Err, arith, eq-eqb}
use Rattle.std.specs.Prelude.{All, is_some}
use Rattle.std.specs.List.{list_any}
use Rattle.std.proofs.lemmas.Bool.{or_parts}
use Rattle.std.proofs.lemmas.Bool.Decides.{nat_tests}
use Rattle.std.proofs.lemmas.List.{map-append, take-append-drop}
use Rattle.std.proofs.lemmas.List.Elements.{All-head, All-tail}
use Rattle.std.proofs.lemmas.Option.{same_Some, none-some}
use Rattle.eh_cxa.specs.ListCalls.{innermost_in}
use Rattle.eh_cxa.specs.Lists.{Cleanup}
use Rattle.eh_desc.specs.Laws.{Follow}
use Rattle.eh_desc.specs.declared.descriptor.Desc.{Desc}
use Rattle.eh_desc.specs.declared.descriptor.DescFault.{DescFault}
use Rattle.eh_desc.specs.declared.descriptor.DescKind.{DescKind}
use Rattle.eh_desc.specs.declared.descriptor.DescKind.TheVariants as kind
use Rattle.eh_phase.specs.Cleanups.{can_stop, is_barrier_item, can_be_read, is_barrier, is_reached_in, is_reached}
use Rattle.eh_phase.specs.Firsts.{first_some, or_else}
use Rattle.eh_phase.specs.Frames.{is_above}
use Rattle.eh_phase.specs.Laws.{IsInOrder, frame_through, goal_of}
use Rattle.eh_phase.specs.Phases.{Frame, Place, descriptor_places, places}
use Rattle.eh_phase.specs.Verdict.{in_scope}
use Rattle.eh_phase.specs.declared.phase2.Goal.{Goal}
use Rattle.eh_phase.proofs.Due.{reached_past, reached_stop}
use Rattle.eh_phase.proofs.Reached.{reached_append, places-append, places-cons}
use Rattle.sim_machines.specs.Agreeing.{preserved_registers}
use Rattle.sim_relation.specs.Cleanups.{IsWithin}
use Rattle.eh_walk.specs.declared.stopping.ForceFault.TheVariants.{InsideCleanup, BadTables, BadType}
use Rattle.eh_walk.specs.declared.stopping.StopFrame.{StopFrame}
use Rattle.eh_walk.specs.Forced.{stop_barrier}
use Rattle.eh_walk.specs.Stops.{takes_all, stop_by, stop_in, fault_of, is_unreadable, stop_or_fault, stop_among, stop_at}

-- ---- in one frame

pub record Split (f : Frame) (items : List (Result Desc DescFault)) (stop : StopFrame) : Type 0 where
  pub before : List (Result Desc DescFault)
  pub desc : Desc
  pub after : List (Result Desc DescFault)
  pub parts : items ≡ before ++ Ok desc ∷ after
  pub scope : in_scope f.site desc ≡ true
  pub all : takes_all desc.kind ≡ true
  pub is : stop ≡ record { sp = f.sp; desc = desc.at; site = f.site }

later : (f : Frame) (i : Result Desc DescFault) (more : List (Result Desc DescFault)) (stop : StopFrame) → Split f more stop → Split f (i ∷ more) stop
later f i more stop w = record {
  before = i ∷ w.before;
  desc = w.desc;
  after = w.after;
  parts = ap (λ (items : List (Result Desc DescFault)). i ∷ items) w.parts;
  scope = w.scope;
  all = w.all;
  is = w.is;
}

split : (f : Frame) (items : List (Result Desc DescFault)) (stop : StopFrame) → first_some (stop_by f) items ≡ Some stop → Split f items stop
unfolding first_some
split f [] stop e = absurd (none-some stop e)
split f (Err fault ∷ more) stop e = later f (Err fault) more stop (split f more stop e)
split f (Ok d ∷ more) stop e = by (in_scope f.site d) refl (takes_all d.kind) refl e (λ w. split f more stop w)
  where
    by : (b : Bool) → in_scope f.site d ≡ b → (c : Bool) → takes_all d.kind ≡ c
        → or_else (cond (b && c) (Some (record { sp = f.sp; desc = d.at; site = f.site })) None) (first_some (stop_by f) more) ≡ Some stop
        → (first_some (stop_by f) more ≡ Some stop → Split f more stop) → Split f (Ok d ∷ more) stop
    by true s true t e further = record {
      before = [];
      desc = d;
      after = more;
      parts = refl;
      scope = s;
      all = t;
      is = sym (same_Some (record { sp = f.sp; desc = d.at; site = f.site }) stop e);
    }
    by true s false t e further = later f (Ok d) more stop (further e)
    by false s c t e further = later f (Ok d) more stop (further e)

-- ---- among the frames

pub record StopIn (limit : Option ℕ) (fs : List Frame) (stop : StopFrame) : Type 0 where
  pub inner : List Frame
  pub frame : Frame
  pub outer : List Frame
  pub parts : fs ≡ inner ++ frame ∷ outer
  pub read : list_any is_unreadable inner ≡ false
  pub within : is_above limit frame.sp ≡ false
  pub own : Split frame frame.items stop

module _ (limit : Option ℕ) (holds : Bool) (number : ℕ) (fs : List Frame) (stop : StopFrame) where
  by_faulty : (f : Frame) (outer : List Frame) → drop number fs ≡ f ∷ outer → is_above limit f.sp ≡ false → (s : StopFrame) → stop_in f ≡ Some s
      → (b : Bool) → list_any is_unreadable (take number fs) ≡ b → (c : Bool) → cond b (Err BadTables) (cond c (Ok s) (Err BadType)) ≡ Ok stop → StopIn limit fs stop
  by_faulty f outer q w s h true r c e = absurd cc
  by_faulty f outer q w s h false r false e = absurd cc
  by_faulty f outer q w s h false r true e =
      let same : s ≡ stop = cc in
      record {
        inner = take number fs;
        frame = f;
        outer = outer;
        parts = sym (take-append-drop number fs) ∙ ap (λ (rest : List Frame). take number fs ++ rest) q;
        read = r;
        within = w;
        own = split f f.items stop (h ∙ ap Some same);
      }

  by_stop : (f : Frame) (outer : List Frame) → drop number fs ≡ f ∷ outer → is_above limit f.sp ≡ false → (o : Option StopFrame) → stop_in f ≡ o
      → stop_or_fault (list_any is_unreadable (take number fs)) holds o ≡ Ok stop → StopIn limit fs stop
  by_stop f outer q w None h e = absurd cc
  by_stop f outer q w (Some s) h e = by_faulty f outer q w s h (list_any is_unreadable (take number fs)) refl holds e

  by_limit : (f : Frame) (outer : List Frame) → drop number fs ≡ f ∷ outer → (b : Bool) → is_above limit f.sp ≡ b
      → cond b (Err InsideCleanup) (stop_or_fault (list_any is_unreadable (take number fs)) holds (stop_in f)) ≡ Ok stop → StopIn limit fs stop
  by_limit f outer q true w e = absurd cc
  by_limit f outer q false w e = by_stop f outer q w (stop_in f) refl e

  by_rest : (rest : List Frame) → drop number fs ≡ rest → stop_among limit (list_any is_unreadable (take number fs)) holds rest ≡ Ok stop → StopIn limit fs stop
  by_rest [] q e = absurd cc
  by_rest (f ∷ outer) q e = by_limit f outer q (is_above limit f.sp) refl e

  pub found : stop_at limit holds number fs ≡ Ok stop → StopIn limit fs stop
  found e = by_rest (drop number fs) refl e

-- ---- the barrier is within reach

abbrev AreRead : List Place → Type 0
AreRead [] = Unit {0}
AreRead (p ∷ more) = (can_be_read p.item ≡ true) × AreRead more

read_append : (ps qs : List Place) → AreRead ps → AreRead qs → AreRead (ps ++ qs)
read_append [] qs h k = k
read_append (p ∷ ps) qs h k = (h.0, read_append ps qs h.1 k)

read_items : (f : Frame) (items : List (Result Desc DescFault)) → is_some (first_some fault_of items) ≡ false → AreRead (descriptor_places f items)
unfolding first_some
read_items f [] e = tt
read_items f (Ok d ∷ more) e = (refl, read_items f more e)
read_items f (Err fault ∷ more) e = absurd cc

read_none : AreRead (places 0 [])
unfolding places
read_none = tt

read_frames : (fs : List Frame) → list_any is_unreadable fs ≡ false → AreRead (places 0 fs)
read_frames [] e = read_none
read_frames (f ∷ fs) e =
    let w = or_parts (is_unreadable f) (list_any is_unreadable fs) e in
    subst AreRead (sym (places-cons f fs)) (read_append (descriptor_places f f.items) (places 0 fs) (read_items f f.items w.0) (read_frames fs w.1))

no_end : (xs : List (Result Desc DescFault)) (y : Result Desc DescFault) (ys : List (Result Desc DescFault)) → xs ++ y ∷ ys ≡ [] → ⊥
no_end [] y ys e = cc
no_end (x ∷ xs) y ys e = cc

-- a fault is the last of a frame's descriptors
read_before : (f : Frame) (a : ℕ) (before : List (Result Desc DescFault)) (d : Desc) (after : List (Result Desc DescFault)) → Follow a (before ++ Ok d ∷ after) → AreRead (descriptor_places f before)
read_before f a [] d after h = tt
read_before f a (Ok e ∷ before) d after h = (refl, read_before f e.next before d after h.1)
read_before f a (Err fault ∷ before) d after h = absurd (no_end before (Ok d) after h)

reached_more : (g : Goal) (p : Place) (ps : List Place) → can_be_read p.item ≡ true → is_reached_in g ps ≡ true → is_reached_in g (p ∷ ps) ≡ true
reached_more g p ps r e = go (is_barrier g p) refl
  where
    go : (b : Bool) → is_barrier g p ≡ b → is_reached_in g (p ∷ ps) ≡ true
    go true h = reached_stop g p ps r h
    go false h = reached_past g p ps r h ∙ e

reached_after : (g : Goal) (ps qs : List Place) → AreRead ps → is_reached_in g qs ≡ true → is_reached_in g (ps ++ qs) ≡ true
reached_after g [] qs h e = e
reached_after g (p ∷ ps) qs h e = reached_more g p (ps ++ qs) h.0 (reached_after g ps qs h.1 e)

stops : (k : DescKind) → takes_all k ≡ true → can_stop k ≡ true
stops (kind.Cleanup pad) e = absurd cc
stops (kind.Catch pad reference type) e = refl
stops (kind.Spec types count pad) e = refl

barrier_there : (f : Frame) (d : Desc) → in_scope f.site d ≡ true → can_stop d.kind ≡ true → is_barrier_item (record { sp = f.sp; desc = d.at }) f (Ok d) ≡ true
barrier_there f d s k = rw (s, k, eq-eqb f.sp f.sp refl, eq-eqb d.at d.at refl) refl

order_at : (inner : List Frame) (f : Frame) (outer : List Frame) → All IsInOrder (inner ++ f ∷ outer) → IsInOrder f
order_at [] f outer h = All-head IsInOrder f outer h
order_at (x ∷ inner) f outer h = order_at inner f outer (All-tail IsInOrder x (inner ++ f ∷ outer) h)

module _ (limit : Option ℕ) (fs : List Frame) (stop : StopFrame) (w : StopIn limit fs stop) (ordered : All IsInOrder fs) where
  abbrev goal : Goal
  goal = record { sp = w.frame.sp; desc = w.own.desc.at }

  abbrev place : Place
  place = record { frame = w.frame; item = Ok w.own.desc }

  order : IsInOrder w.frame
  order = order_at w.inner w.frame w.outer (subst (λ (l : List Frame). All IsInOrder l) w.parts ordered)

  reached_own : is_reached_in goal (descriptor_places w.frame w.frame.items) ≡ true
  reached_own =
      let front = read_before w.frame order.address w.own.before w.own.desc w.own.after (subst (λ (l : List (Result Desc DescFault)). Follow order.address l) w.own.parts order.follow) in
      subst (λ (ps : List Place). is_reached_in goal ps ≡ true)
      (sym (ap (descriptor_places w.frame) w.own.parts ∙ map-append (λ (i : Result Desc DescFault). record { frame = w.frame; item = i }) w.own.before (Ok w.own.desc ∷ w.own.after)))
      (reached_after goal (descriptor_places w.frame w.own.before) (place ∷ descriptor_places w.frame w.own.after) front
      (reached_stop goal place (descriptor_places w.frame w.own.after) refl (barrier_there w.frame w.own.desc w.own.scope (stops w.own.desc.kind w.own.all))))

  reached_all : is_reached goal 0 fs ≡ true
  reached_all =
      subst (λ (l : List Frame). is_reached_in goal (places 0 l) ≡ true) (sym w.parts)
      (subst (λ (ps : List Place). is_reached_in goal ps ≡ true) (sym (places-append w.inner (w.frame ∷ w.outer)))
      (reached_after goal (places 0 w.inner) (places 0 (w.frame ∷ w.outer)) (read_frames w.inner w.read)
      (subst (λ (ps : List Place). is_reached_in goal ps ≡ true) (sym (places-cons w.frame w.outer))
      (reached_append goal (descriptor_places w.frame w.frame.items) (places 0 w.outer) reached_own))))

  pub stop_reached : (object : ℕ) → is_reached (goal_of (stop_barrier object stop)) 0 fs ≡ true
  stop_reached object = subst (λ (s : StopFrame). is_reached (goal_of (stop_barrier object s)) 0 fs ≡ true) (sym w.own.is) reached_all

-- ---- and below the landing sp of the innermost cleanup in progress

pub within_of : (sp : ℕ) (cleanups : List Cleanup) → is_above (innermost_in cleanups) sp ≡ false → IsWithin sp cleanups
within_of sp [] e = tt
within_of sp (c ∷ more) e = let low : sp ≤ c.sp = grind (arith, nat_tests) in low

-- ---- frames that agree have the same stops

module _ (limit : Option ℕ) (holds : Bool) where
  seen_any : (n : ℕ) (fs : List Frame) → list_any is_unreadable (take n (map (frame_through preserved_registers) fs)) ≡ list_any is_unreadable (take n fs)
  seen_any zero fs = refl
  seen_any (suc n) [] = refl
  seen_any (suc n) (f ∷ more) = rw (seen_any n more) refl

  seen_rest : (faulty : Bool) (n : ℕ) (fs : List Frame) → stop_among limit faulty holds (drop n (map (frame_through preserved_registers) fs)) ≡ stop_among limit faulty holds (drop n fs)
  seen_rest faulty zero [] = refl
  seen_rest faulty zero (f ∷ more) = refl
  seen_rest faulty (suc n) [] = refl
  seen_rest faulty (suc n) (f ∷ more) = seen_rest faulty n more

  seen_stop : (n : ℕ) (fs : List Frame) → stop_at limit holds n (map (frame_through preserved_registers) fs) ≡ stop_at limit holds n fs
  seen_stop n fs =
      ap (λ (b : Bool). stop_among limit b holds (drop n (map (frame_through preserved_registers) fs))) (seen_any n fs) ∙ seen_rest (list_any is_unreadable (take n fs)) n fs

  pub stops_agree : (n : ℕ) (fs gs : List Frame) → map (frame_through preserved_registers) fs ≡ map (frame_through preserved_registers) gs → stop_at limit holds n fs ≡ stop_at limit holds n gs
  stops_agree n fs gs e = sym (seen_stop n fs) ∙ ap (stop_at limit holds n) e ∙ seen_stop n gs
