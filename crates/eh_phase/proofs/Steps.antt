-- The phases by one frame.
use Rattle.std.proofs.Common.{◌≡◌, ℕ, ◌-◌, ◌<◌, zero, suc, Bool, false, List, [], ◌∷◌, refl, sym, ◌∙◌, ap, arith, Option, Some, None, Result, Ok, Err}
use Rattle.std.specs.Prelude.{unwrap_or, slice_index, if◌then◌else◌}
use Rattle.std.specs.List.{flat_map}
use Rattle.thumb_core.specs.declared.ends.Cause.{Cause}
use Rattle.thumb_core.specs.declared.ends.Cause.TheVariants.{CannotUnwind}
use Rattle.elf_image.specs.Image.{Image}
use Rattle.eh_bytecode.specs.declared.frame.Vrs.{Vrs}
use Rattle.eh_phase.specs.declared.walk.CoveringEntry.{CoveringEntry}
use Rattle.eh_phase.specs.declared.verdict.Verdict.{Verdict}
use Rattle.eh_phase.specs.declared.verdict.Verdict.TheVariants as says
use Rattle.eh_desc.specs.declared.descriptor.Desc.{Desc}
use Rattle.eh_desc.specs.declared.descriptor.DescFault.{DescFault}
use Rattle.eh_desc.specs.declared.descriptor.DescKind.{DescKind}
use Rattle.eh_desc.specs.declared.descriptor.DescKind.TheVariants.{Cleanup, Catch, Spec}
use Rattle.eh_phase.specs.declared.phase1.Found.{Found}
use Rattle.eh_phase.specs.declared.phase1.Found.TheVariants as found
use Rattle.eh_phase.specs.declared.phase2.Goal.{Goal}
use Rattle.eh_phase.specs.declared.phase2.Entered.{Entered}
use Rattle.eh_phase.specs.declared.phase2.Entered.TheVariants as enters
use Rattle.eh_phase.specs.Firsts.{first_some, or_else}
use Rattle.eh_phase.specs.Verdict.{Meeting, verdict_of, in_scope}
use Rattle.eh_phase.specs.Phases.{Frame, Frames, verdict_result, phase1, descriptor_places, places_in, from_address, places, enter_by_kind, enter_item, enter_at_place, phase2}
use Rattle.eh_phase.specs.Frames.{Stack, frames_in, entry_contents_at, outer, site_of, frame_of, frames_of_caller, frame_and_outer, end_of_frames}
use Rattle.eh_phase.specs.declared.walk.Cursor.{Cursor}
use Rattle.eh_phase.specs.Calls.{cursor_of}
use Rattle.eh_phase.proofs.Outer.{height, outer_lower}
use Rattle.eh_phase.proofs.First.{first-append, first-map, first_same, or_past}

-- a frame as the walk sees it
abbrev pub bare : ℕ → List ℕ → Frame
bare site r = record { site = site; sp = slice_index r 13; r = r; items = [] }

-- ---- phase 1

-- a frame that says something decides
pub said_here : (m : Meeting) (f : Frame) (further : Frames) (v : Verdict) → verdict_of m f.site f.items ≡ Some v → phase1 m (frame_and_outer f further) ≡ verdict_result f v
unfolding phase1 first_some
said_here m f further v e = rw e refl

-- one that says nothing is passed
pub silent_here : (m : Meeting) (f : Frame) (further : Frames) → verdict_of m f.site f.items ≡ None → phase1 m (frame_and_outer f further) ≡ phase1 m further
unfolding phase1 first_some
silent_here m f further e = rw e refl

pub phase1_uncovered : (m : Meeting) (n : ℕ) (image : Image) (stack : Stack) (limit : Option ℕ) (innermost : Bool) (site : ℕ) (r : List ℕ)
    → entry_contents_at image site ≡ None → phase1 m (frames_in n image stack limit innermost site r) ≡ found.Terminate CannotUnwind
unfolding phase1 first_some frames_in
phase1_uncovered m zero image stack limit innermost site r e = refl
phase1_uncovered m (suc n) image stack limit innermost site r e = rw e refl

same_found : (f g : Frame) (v : Verdict) → f.sp ≡ g.sp → f.site ≡ g.site → verdict_result f v ≡ verdict_result g v
same_found f g (says.Barrier desc hit) e k = rw (e, k) refl
same_found f g (says.ObjectRead a) e k = refl
same_found f g (says.Terminate cause) e k = refl

pub phase1_said : (m : Meeting) (n : ℕ) (image : Image) (stack : Stack) (limit : Option ℕ) (innermost : Bool) (site : ℕ) (r : List ℕ) (c : CoveringEntry) (v : Verdict)
    → 0 < n → entry_contents_at image site ≡ Some c → verdict_of m site c.descs ≡ Some v
    → phase1 m (frames_in n image stack limit innermost site r) ≡ verdict_result (bare site r) v
unfolding frames_in
phase1_said m zero image stack limit innermost site r c v h e k = absurd (omega arith)
phase1_said m (suc n) image stack limit innermost site r c v h e k = rw e (said_here m (frame_of site r c) _ v k ∙ same_found (frame_of site r c) (bare site r) v refl refl)

pub phase1_ended : (m : Meeting) (n : ℕ) (image : Image) (stack : Stack) (limit : Option ℕ) (innermost : Bool) (site : ℕ) (r : List ℕ) (c : CoveringEntry) (cause : Cause)
    → 0 < n → entry_contents_at image site ≡ Some c → verdict_of m site c.descs ≡ None → outer stack limit innermost c.codes r ≡ Err cause
    → phase1 m (frames_in n image stack limit innermost site r) ≡ found.Terminate cause
unfolding frames_in phase1 first_some
phase1_ended m zero image stack limit innermost site r c cause h e k l = absurd (omega arith)
phase1_ended m (suc n) image stack limit innermost site r c cause h e k l =
    rw e (silent_here m (frame_of site r c) _ k ∙ ap (λ o. phase1 m (frames_of_caller (λ new. frames_in n image stack limit false (site_of new) new) o)) l)

pub phase1_on : (m : Meeting) (n : ℕ) (image : Image) (stack : Stack) (limit : Option ℕ) (innermost : Bool) (site : ℕ) (r : List ℕ) (c : CoveringEntry) (next : Vrs)
    → 0 < n → entry_contents_at image site ≡ Some c → verdict_of m site c.descs ≡ None → outer stack limit innermost c.codes r ≡ Ok next
    → phase1 m (frames_in n image stack limit innermost site r) ≡ phase1 m (frames_in (n - 1) image stack limit false (site_of next.r) next.r)
unfolding frames_in
phase1_on m zero image stack limit innermost site r c next h e k l = absurd (omega arith)
phase1_on m (suc n) image stack limit innermost site r c next h e k l =
    let z : n ≡ suc n - 1 = omega arith in
    rw e (silent_here m (frame_of site r c) _ k ∙ ap (λ o. phase1 m (frames_of_caller (λ new. frames_in n image stack limit false (site_of new) new) o)) l)
    ∙ ap (λ j. phase1 m (frames_in j image stack limit false (site_of next.r) next.r)) z

-- ---- phase 2

-- the places of frames that are looked at from their first descriptor on
pub all_places : (fs : List Frame) → flat_map places_in fs ≡ places 0 fs
unfolding places
all_places [] = refl
all_places (f ∷ more) = refl

-- a frame's own descriptors, and then those of the frames outside it
pub parted : (g : Goal) (from : ℕ) (f : Frame) (more : List Frame)
    → first_some (enter_at_place g) (places from (f ∷ more)) ≡ or_else (first_some (enter_item g f) (from_address from f.items)) (first_some (enter_at_place g) (places 0 more))
unfolding places
parted g from f more =
    first-append (enter_at_place g) (descriptor_places f (from_address from f.items)) (flat_map places_in more)
    ∙ ap (λ o. or_else o (first_some (enter_at_place g) (flat_map places_in more))) (first-map (enter_at_place g) (λ i. record { frame = f; item = i }) (from_address from f.items))
    ∙ ap (λ ps. or_else (first_some (enter_item g f) (from_address from f.items)) (first_some (enter_at_place g) ps)) (all_places more)

pub enters_here : (g : Goal) (from : ℕ) (f : Frame) (further : Frames) (e : Entered)
    → first_some (enter_item g f) (from_address from f.items) ≡ Some e → phase2 g from (frame_and_outer f further) ≡ e
unfolding phase2
enters_here g from f further e k = ap (λ o. unwrap_or o (enters.Terminate further.last)) (parted g from f further.frames ∙ ap (λ o. or_else o (first_some (enter_at_place g) (places 0 further.frames))) k)

pub passes_here : (g : Goal) (from : ℕ) (f : Frame) (further : Frames)
    → first_some (enter_item g f) (from_address from f.items) ≡ None → phase2 g from (frame_and_outer f further) ≡ phase2 g 0 further
unfolding phase2
passes_here g from f further k = ap (λ o. unwrap_or o (enters.Terminate further.last)) (parted g from f further.frames ∙ or_past _ _ k)

-- the descriptors of a frame play no part but as the items
same_by : (g : Goal) (site sp : ℕ) (r : List ℕ) (xs ys : List (Result Desc DescFault)) (d : Desc) (k : DescKind)
    → enter_by_kind g (record { site = site; sp = sp; r = r; items = xs }) d k ≡ enter_by_kind g (record { site = site; sp = sp; r = r; items = ys }) d k
same_by g site sp r xs ys d (Cleanup pad) = refl
same_by g site sp r xs ys d (Catch pad reference type) = refl
same_by g site sp r xs ys d (Spec types count None) = refl
same_by g site sp r xs ys d (Spec types count (Some pad)) = refl

same_item : (g : Goal) (site sp : ℕ) (r : List ℕ) (xs ys : List (Result Desc DescFault)) (i : Result Desc DescFault)
    → enter_item g (record { site = site; sp = sp; r = r; items = xs }) i ≡ enter_item g (record { site = site; sp = sp; r = r; items = ys }) i
same_item g site sp r xs ys (Ok d) = ap (λ o. if in_scope site d then o else None) (same_by g site sp r xs ys d d.kind)
same_item g site sp r xs ys (Err fault) = refl

pub same_items : (g : Goal) (site sp : ℕ) (r : List ℕ) (xs ys : List (Result Desc DescFault)) (items : List (Result Desc DescFault))
    → first_some (enter_item g (record { site = site; sp = sp; r = r; items = xs })) items ≡ first_some (enter_item g (record { site = site; sp = sp; r = r; items = ys })) items
same_items g site sp r xs ys items = first_same _ _ items (same_item g site sp r xs ys)

pub phase2_uncovered : (g : Goal) (from n : ℕ) (image : Image) (stack : Stack) (limit : Option ℕ) (innermost : Bool) (site : ℕ) (r : List ℕ)
    → entry_contents_at image site ≡ None → phase2 g from (frames_in n image stack limit innermost site r) ≡ enters.Terminate CannotUnwind
unfolding phase2 first_some places frames_in
phase2_uncovered g from zero image stack limit innermost site r e = refl
phase2_uncovered g from (suc n) image stack limit innermost site r e = rw e refl

pub phase2_entered : (g : Goal) (from n : ℕ) (image : Image) (stack : Stack) (limit : Option ℕ) (innermost : Bool) (site : ℕ) (r : List ℕ) (c : CoveringEntry) (t : Entered)
    → 0 < n → entry_contents_at image site ≡ Some c → first_some (enter_item g (bare site r)) (from_address from c.descs) ≡ Some t
    → phase2 g from (frames_in n image stack limit innermost site r) ≡ t
unfolding frames_in
phase2_entered g from zero image stack limit innermost site r c t h e k = absurd (omega arith)
phase2_entered g from (suc n) image stack limit innermost site r c t h e k =
    rw e (enters_here g from (frame_of site r c) _ t (same_items g site (slice_index r 13) r c.descs [] (from_address from c.descs) ∙ k))

none_left : (g : Goal) (cause : Cause) → phase2 g 0 (end_of_frames cause) ≡ enters.Terminate cause
unfolding phase2 first_some places
none_left g cause = refl

pub phase2_ended : (g : Goal) (from n : ℕ) (image : Image) (stack : Stack) (limit : Option ℕ) (innermost : Bool) (site : ℕ) (r : List ℕ) (c : CoveringEntry) (cause : Cause)
    → 0 < n → entry_contents_at image site ≡ Some c → first_some (enter_item g (bare site r)) (from_address from c.descs) ≡ None
    → outer stack limit innermost c.codes r ≡ Err cause → phase2 g from (frames_in n image stack limit innermost site r) ≡ enters.Terminate cause
unfolding frames_in
phase2_ended g from zero image stack limit innermost site r c cause h e k l = absurd (omega arith)
phase2_ended g from (suc n) image stack limit innermost site r c cause h e k l =
    rw e (passes_here g from (frame_of site r c) _ (same_items g site (slice_index r 13) r c.descs [] (from_address from c.descs) ∙ k)
    ∙ ap (λ o. phase2 g 0 (frames_of_caller (λ new. frames_in n image stack limit false (site_of new) new) o)) l ∙ none_left g cause)

pub phase2_on : (g : Goal) (from n : ℕ) (image : Image) (stack : Stack) (limit : Option ℕ) (innermost : Bool) (site : ℕ) (r : List ℕ) (c : CoveringEntry) (next : Vrs)
    → 0 < n → entry_contents_at image site ≡ Some c → first_some (enter_item g (bare site r)) (from_address from c.descs) ≡ None
    → outer stack limit innermost c.codes r ≡ Ok next
    → phase2 g from (frames_in n image stack limit innermost site r) ≡ phase2 g 0 (frames_in (n - 1) image stack limit false (site_of next.r) next.r)
unfolding frames_in
phase2_on g from zero image stack limit innermost site r c next h e k l = absurd (omega arith)
phase2_on g from (suc n) image stack limit innermost site r c next h e k l =
    let z : n ≡ suc n - 1 = omega arith in
    rw e (passes_here g from (frame_of site r c) _ (same_items g site (slice_index r 13) r c.descs [] (from_address from c.descs) ∙ k)
    ∙ ap (λ o. phase2 g 0 (frames_of_caller (λ new. frames_in n image stack limit false (site_of new) new) o)) l)
    ∙ ap (λ j. phase2 g 0 (frames_in j image stack limit false (site_of next.r) next.r)) z

-- ---- the walk, from a frame to the next

pub record Moves (o : Result Vrs Cause) (next : Cursor) : Type 0 where
  pub outer : o ≡ Ok next.vrs
  pub site : next.site ≡ site_of next.vrs.r
  pub innermost : next.innermost ≡ false

moves : (o : Result Vrs Cause) (next : Cursor) → cursor_of o ≡ Ok next → Moves o next
moves (Err cause) next e = absurd cc
moves (Ok vrs) next e =
    let same : record { vrs = vrs; site = site_of vrs.r; innermost = false } ≡ next = cc in
    let v : vrs ≡ next.vrs = ap (λ (c : Cursor). c.vrs) same in
    record {
      outer = ap (λ (x : Vrs). Ok x) v;
      site = sym (ap (λ (c : Cursor). c.site) same) ∙ ap (λ (x : Vrs). site_of x.r) v;
      innermost = sym (ap (λ (c : Cursor). c.innermost) same);
    }

stays : (o : Result Vrs Cause) (cause : Cause) → cursor_of o ≡ Err cause → o ≡ Err cause
stays (Err why) cause e = cc
stays (Ok vrs) cause e = absurd cc

abbrev pub height_of : Stack → Cursor → ℕ
height_of stack c = height stack.end c.innermost (slice_index c.vrs.r 13)

pub lower : (stack : Stack) (limit : Option ℕ) (codes : List ℕ) (c next : Cursor)
    → cursor_of (outer stack limit c.innermost codes c.vrs.r) ≡ Ok next → height_of stack next < height_of stack c
lower stack limit codes c next e =
    let m = moves _ next e in
    let h = outer_lower stack limit c.innermost codes c.vrs.r next.vrs m.outer in
    rw m.innermost h

abbrev pub Searches : Meeting → Image → Stack → Option ℕ → Found → Cursor → Type 0
Searches m image stack limit answer c = (n : ℕ) × (height_of stack c < n) × (phase1 m (frames_in n image stack limit c.innermost c.site c.vrs.r) ≡ answer)

pub search_on : (m : Meeting) (image : Image) (stack : Stack) (limit : Option ℕ) (answer : Found) (c next : Cursor) (here : CoveringEntry)
    → Searches m image stack limit answer c → entry_contents_at image c.site ≡ Some here → verdict_of m c.site here.descs ≡ None
    → cursor_of (outer stack limit c.innermost here.codes c.vrs.r) ≡ Ok next → Searches m image stack limit answer next
search_on m image stack limit answer c next here s e k l =
    let v = moves _ next l in
    let h = lower stack limit here.codes c next l in (
      s.0 - 1,
      omega (arith, s.1, h),
      rw (v.innermost, v.site) (sym (phase1_on m s.0 image stack limit c.innermost c.site c.vrs.r here next.vrs (omega (arith, s.1)) e k v.outer) ∙ s.2),
    )

pub search_ended : (m : Meeting) (image : Image) (stack : Stack) (limit : Option ℕ) (answer : Found) (c : Cursor) (here : CoveringEntry) (cause : Cause)
    → Searches m image stack limit answer c → entry_contents_at image c.site ≡ Some here → verdict_of m c.site here.descs ≡ None
    → cursor_of (outer stack limit c.innermost here.codes c.vrs.r) ≡ Err cause → found.Terminate cause ≡ answer
search_ended m image stack limit answer c here cause s e k l =
    sym (phase1_ended m s.0 image stack limit c.innermost c.site c.vrs.r here cause (omega (arith, s.1)) e k (stays _ cause l)) ∙ s.2

pub search_said : (m : Meeting) (image : Image) (stack : Stack) (limit : Option ℕ) (answer : Found) (c : Cursor) (here : CoveringEntry) (v : Verdict)
    → Searches m image stack limit answer c → entry_contents_at image c.site ≡ Some here → verdict_of m c.site here.descs ≡ Some v → verdict_result (bare c.site c.vrs.r) v ≡ answer
search_said m image stack limit answer c here v s e k = sym (phase1_said m s.0 image stack limit c.innermost c.site c.vrs.r here v (omega (arith, s.1)) e k) ∙ s.2

pub search_uncovered : (m : Meeting) (image : Image) (stack : Stack) (limit : Option ℕ) (answer : Found) (c : Cursor)
    → Searches m image stack limit answer c → entry_contents_at image c.site ≡ None → found.Terminate CannotUnwind ≡ answer
search_uncovered m image stack limit answer c s e = sym (phase1_uncovered m s.0 image stack limit c.innermost c.site c.vrs.r e) ∙ s.2

abbrev pub Advances : Goal → ℕ → Image → Stack → Entered → Cursor → Type 0
Advances g from image stack answer c = (n : ℕ) × (height_of stack c < n) × (phase2 g from (frames_in n image stack None c.innermost c.site c.vrs.r) ≡ answer)

pub advance_on : (g : Goal) (from : ℕ) (image : Image) (stack : Stack) (answer : Entered) (c next : Cursor) (here : CoveringEntry)
    → Advances g from image stack answer c → entry_contents_at image c.site ≡ Some here → first_some (enter_item g (bare c.site c.vrs.r)) (from_address from here.descs) ≡ None
    → cursor_of (outer stack None c.innermost here.codes c.vrs.r) ≡ Ok next → Advances g 0 image stack answer next
advance_on g from image stack answer c next here s e k l =
    let v = moves _ next l in
    let h = lower stack None here.codes c next l in (
      s.0 - 1,
      omega (arith, s.1, h),
      rw (v.innermost, v.site) (sym (phase2_on g from s.0 image stack None c.innermost c.site c.vrs.r here next.vrs (omega (arith, s.1)) e k v.outer) ∙ s.2),
    )

pub advance_ended : (g : Goal) (from : ℕ) (image : Image) (stack : Stack) (answer : Entered) (c : Cursor) (here : CoveringEntry) (cause : Cause)
    → Advances g from image stack answer c → entry_contents_at image c.site ≡ Some here → first_some (enter_item g (bare c.site c.vrs.r)) (from_address from here.descs) ≡ None
    → cursor_of (outer stack None c.innermost here.codes c.vrs.r) ≡ Err cause → enters.Terminate cause ≡ answer
advance_ended g from image stack answer c here cause s e k l =
    sym (phase2_ended g from s.0 image stack None c.innermost c.site c.vrs.r here cause (omega (arith, s.1)) e k (stays _ cause l)) ∙ s.2

pub advance_entered : (g : Goal) (from : ℕ) (image : Image) (stack : Stack) (answer : Entered) (c : Cursor) (here : CoveringEntry) (t : Entered)
    → Advances g from image stack answer c → entry_contents_at image c.site ≡ Some here → first_some (enter_item g (bare c.site c.vrs.r)) (from_address from here.descs) ≡ Some t → t ≡ answer
advance_entered g from image stack answer c here t s e k = sym (phase2_entered g from s.0 image stack None c.innermost c.site c.vrs.r here t (omega (arith, s.1)) e k) ∙ s.2

pub advance_uncovered : (g : Goal) (from : ℕ) (image : Image) (stack : Stack) (answer : Entered) (c : Cursor)
    → Advances g from image stack answer c → entry_contents_at image c.site ≡ None → enters.Terminate CannotUnwind ≡ answer
advance_uncovered g from image stack answer c s e = sym (phase2_uncovered g from s.0 image stack None c.innermost c.site c.vrs.r e) ∙ s.2
