-- A throw and its resumes enter what is due, one after the other.
use Rattle.std.proofs.Common.{◌≡◌, ℕ, zero, suc, ◌<◌, ◌≤◌, Bool, true, false, nat_eq, List, [], ◌∷◌, ◌++◌, take, refl, sym, ◌∙◌, ap, subst, Option, Some, None, Result, Ok, Err, arith, slice_index, append-nil}
use Rattle.std.specs.Prelude.{nat_lt, unwrap_or}
use Rattle.std.specs.List.{cons_option}
use Rattle.eh_bus.specs.declared.map.TheConstants.{STACK_END}
use Rattle.elf_image.specs.Image.{Image, IsSound}
use Rattle.thumb_core.specs.declared.ends.Cause.{Cause}
use Rattle.run_gates.specs.declared.gates.TheConstants.{NO_CALLER}
use Rattle.eh_codes.specs.Cut.{split_codes}
use Rattle.eh_bytecode.specs.Meaning.{unwind_result}
use Rattle.eh_bytecode.specs.declared.frame.Vrs.{Vrs}
use Rattle.eh_phase.specs.declared.walk.CoveringEntry.{CoveringEntry}
use Rattle.eh_phase.specs.declared.phase2.Goal.{Goal}
use Rattle.eh_phase.specs.declared.phase2.Entered.{Entered}
use Rattle.eh_phase.specs.declared.phase2.Entered.TheVariants as enters
use Rattle.eh_phase.specs.Firsts.{first_some}
use Rattle.eh_phase.specs.Phases.{Frame, Frames, Place, descriptor_places, places, from_address, vrs_of, enter_at_place, phase2}
use Rattle.eh_phase.specs.Frames.{Stack, MOST_FRAMES, frames_in, frames_of, entry_contents_at, is_no_frame, caller_of, check_caller, outer, site_of, frame_of, frames_of_caller, frame_and_outer}
use Rattle.eh_phase.specs.Cleanups.{cleanup_at, is_barrier, due_in, remaining_landings, can_be_read, is_reached_in, is_reached}
use Rattle.eh_phase.specs.Laws.{goal_of, Lands, enters_on, landings_in_turn, PadsAreInOrder}
use Rattle.eh_phase.proofs.Outer.{height, few, outer_lower}
use Rattle.eh_phase.proofs.Due.{Stops, due_past, due_stop, reached_unread, reached_past, reached_none}
use Rattle.eh_phase.proofs.Reached.{heads, reached_append, up_to_barrier, unlimited, whole_reached}
use Rattle.eh_phase.proofs.Goes.{places-from, cleanups_go_on}
use Rattle.eh_phase.proofs.Whole.{enough, all_in_order}

-- ---- what stands after a barrier plays no part

due_append : (g : Goal) (ps qs : List Place) → is_reached_in g ps ≡ true → due_in g (ps ++ qs) ≡ due_in g ps
due_append g [] qs e = absurd (let h = reached_none g in cc)
due_append g (p ∷ ps) qs e = go (can_be_read p.item) refl (is_barrier g p) refl (due_append g ps qs)
  where
    go : (r : Bool) → can_be_read p.item ≡ r → (b : Bool) → is_barrier g p ≡ b → (is_reached_in g ps ≡ true → due_in g (ps ++ qs) ≡ due_in g ps) → due_in g (p ∷ (ps ++ qs)) ≡ due_in g (p ∷ ps)
    go false r b h further = absurd (let k = reached_unread g p ps r in cc)
    go true r true h further = due_stop g p (ps ++ qs) h ∙ sym (due_stop g p ps h)
    go true r false h further =
        due_past g p (ps ++ qs) h ∙ ap (cons_option (cleanup_at p)) (further (sym (reached_past g p ps r h) ∙ e)) ∙ sym (due_past g p ps h)

-- ---- a frame as the innermost

-- what has a frame outside it has the same one where it is the innermost
inner_tests : (end sp : ℕ) (v next : Vrs) (a c : Bool) → is_no_frame end false sp (slice_index v.r 13) ≡ a → nat_eq (slice_index v.r 15) NO_CALLER ≡ c
    → check_caller end None false sp (Some v) ≡ Ok next → check_caller end None true sp (Some v) ≡ Ok next
inner_tests end sp v next true c ea ec e = absurd (grind arith)
inner_tests end sp v next false c ea ec e =
    let k : is_no_frame end true sp (slice_index v.r 13) ≡ false = inner_frame end sp (slice_index v.r 13) _ _ _ refl refl refl ea in
    rw k (rw ea at e)
  where
    inner_frame : (end sp to : ℕ) (a b c : Bool) → nat_lt to sp ≡ a → nat_eq to sp ≡ b → nat_lt end to ≡ c → is_no_frame end false sp to ≡ false → is_no_frame end true sp to ≡ false
    inner_frame end sp to true b c ea eb ec e = let k = rw ea at e in absurd cc
    inner_frame end sp to false b true ea eb ec e = absurd (grind arith)
    inner_frame end sp to false b false ea eb ec e = rw (ea, ec) refl

inner_end : (end sp : ℕ) (o : Option Vrs) (next : Vrs) → check_caller end None false sp o ≡ Ok next → check_caller end None true sp o ≡ Ok next
inner_end end sp None next e = e
inner_end end sp (Some v) next e = inner_tests end sp v next _ _ refl refl e

as_innermost : (stack : Stack) (innermost : Bool) (codes r : List ℕ) (next : Vrs) → outer stack None innermost codes r ≡ Ok next → outer stack None true codes r ≡ Ok next
unfolding outer
as_innermost stack true codes r next e = e
as_innermost stack false codes r next e = inner_end stack.end (slice_index r 13) (caller_of (unwind_result stack.segments r (split_codes codes))) next e

-- the same is due, and within reach, where the walk begins at a frame
pub record Alike (g : Goal) (from : ℕ) (fs gs : List Frame) : Type 0 where
  pub due : remaining_landings g from gs ≡ remaining_landings g from fs
  pub reach : is_reached g from gs ≡ true

same_alike : (g : Goal) (from : ℕ) (fs gs : List Frame) → fs ≡ gs → is_reached g from fs ≡ true → Alike g from fs gs
same_alike g from fs gs e t = record { due = ap (remaining_landings g from) (sym e); reach = ap (is_reached g from) (sym e) ∙ t }

no_place : (from : ℕ) → places from [] ≡ []
unfolding places
no_place from = refl

-- a barrier in the first frame
first_alike : (g : Goal) (from : ℕ) (f : Frame) (more : List Frame) → is_reached g from (f ∷ []) ≡ true → Alike g from (f ∷ []) (f ∷ more)
first_alike g from f more t =
    let own = descriptor_places f (from_address from f.items) in
    let alone : is_reached_in g (own ++ places 0 []) ≡ true = sym (ap (is_reached_in g) (places-from from f [])) ∙ t in
    let here : is_reached_in g own ≡ true = sym (ap (is_reached_in g) (no_more own)) ∙ alone in
    record {
      due = ap (due_in g) (places-from from f more) ∙ due_append g own (places 0 more) here ∙ sym (ap (due_in g) (places-from from f [] ∙ no_more own));
      reach = ap (is_reached_in g) (places-from from f more) ∙ reached_append g own (places 0 more) here;
    }
  where
    no_more : (own : List Place) → own ++ places 0 [] ≡ own
    no_more own = ap (λ l. own ++ l) (no_place 0) ∙ append-nil own

frames_cons : (n : ℕ) (image : Image) (stack : Stack) (innermost : Bool) (site : ℕ) (r : List ℕ) (c : CoveringEntry) → entry_contents_at image site ≡ Some c
    → frames_in (suc n) image stack None innermost site r ≡ frame_and_outer (frame_of site r c) (frames_of_caller (λ new. frames_in n image stack None false (site_of new) new) (outer stack None innermost c.codes r))
unfolding frames_in
frames_cons n image stack innermost site r c e = rw e refl

frames_none : (n : ℕ) (image : Image) (stack : Stack) (innermost : Bool) (site : ℕ) (r : List ℕ) → entry_contents_at image site ≡ None → (frames_in n image stack None innermost site r).frames ≡ []
unfolding frames_in
frames_none zero image stack innermost site r e = refl
frames_none (suc n) image stack innermost site r e = rw e refl

unreached : (g : Goal) (from : ℕ) → is_reached g from [] ≡ false
unfolding places is_reached_in
unreached g from = refl

alike_by : (g : Goal) (from n : ℕ) (image : Image) (stack : Stack) (innermost : Bool) (site : ℕ) (r : List ℕ) (c : CoveringEntry) → entry_contents_at image site ≡ Some c
    → is_reached g from (frames_in (suc n) image stack None innermost site r).frames ≡ true
    → (o : Result Vrs Cause) → outer stack None innermost c.codes r ≡ o
    → Alike g from (frames_in (suc n) image stack None innermost site r).frames (frames_in (suc n) image stack None true site r).frames
alike_by g from n image stack innermost site r c e t (Ok next) k =
    let outwards = λ (o : Result Vrs Cause). frame_and_outer (frame_of site r c) (frames_of_caller (λ new. frames_in n image stack None false (site_of new) new) o) in
    let same : frames_in (suc n) image stack None innermost site r ≡ frames_in (suc n) image stack None true site r =
    frames_cons n image stack innermost site r c e ∙ ap outwards (k ∙ sym (as_innermost stack innermost c.codes r next k)) ∙ sym (frames_cons n image stack true site r c e) in
    same_alike g from _ _ (ap (λ (x : Frames). x.frames) same) t
alike_by g from n image stack innermost site r c e t (Err cause) k =
    let rest = frames_of_caller (λ new. frames_in n image stack None false (site_of new) new) in
    let alone : (frames_in (suc n) image stack None innermost site r).frames ≡ frame_of site r c ∷ [] =
    ap (λ (x : Frames). x.frames) (frames_cons n image stack innermost site r c e ∙ ap (λ o. frame_and_outer (frame_of site r c) (rest o)) k) in
    let other : (frames_in (suc n) image stack None true site r).frames ≡ frame_of site r c ∷ (rest (outer stack None true c.codes r)).frames =
    ap (λ (x : Frames). x.frames) (frames_cons n image stack true site r c e) in
    let a = first_alike g from (frame_of site r c) (rest (outer stack None true c.codes r)).frames (sym (ap (is_reached g from) alone) ∙ t) in
    record {
      due = ap (remaining_landings g from) other ∙ a.due ∙ sym (ap (remaining_landings g from) alone);
      reach = ap (is_reached g from) other ∙ a.reach;
    }

alike_at : (g : Goal) (from n : ℕ) (image : Image) (stack : Stack) (innermost : Bool) (site : ℕ) (r : List ℕ)
    → is_reached g from (frames_in (suc n) image stack None innermost site r).frames ≡ true → (o : Option CoveringEntry) → entry_contents_at image site ≡ o
    → Alike g from (frames_in (suc n) image stack None innermost site r).frames (frames_in (suc n) image stack None true site r).frames
alike_at g from n image stack innermost site r t (Some c) e = alike_by g from n image stack innermost site r c e t (outer stack None innermost c.codes r) refl
alike_at g from n image stack innermost site r t None e =
    let h = ap (is_reached g from) (frames_none (suc n) image stack innermost site r e) in
    let u = unreached g from in absurd cc

alike : (g : Goal) (from n : ℕ) (image : Image) (stack : Stack) (innermost : Bool) (site : ℕ) (r : List ℕ) → stack.end ≤ STACK_END
    → height stack.end innermost (slice_index r 13) < n → is_reached g from (frames_in n image stack None innermost site r).frames ≡ true
    → Alike g from (frames_in n image stack None innermost site r).frames (frames_of image stack None site r).frames
alike g from n image stack innermost site r low h t =
    let p = few stack.end innermost (slice_index r 13) low in
    let q = few stack.end true (slice_index r 13) low in
    let same : frames_in n image stack None innermost site r ≡ frames_in (suc MOST_FRAMES) image stack None innermost site r = enough n (suc MOST_FRAMES) image stack None innermost site r h (omega (arith, p)) in
    let last : frames_in (suc MOST_FRAMES) image stack None true site r ≡ frames_of image stack None site r = enough (suc MOST_FRAMES) MOST_FRAMES image stack None true site r (omega (arith, q)) q in
    let a = alike_at g from MOST_FRAMES image stack innermost site r (sym (ap (λ (x : Frames). is_reached g from x.frames) same) ∙ t) (entry_contents_at image site) refl in
    record {
      due = ap (λ (x : Frames). remaining_landings g from x.frames) (sym last) ∙ a.due ∙ sym (ap (λ (x : Frames). remaining_landings g from x.frames) same);
      reach = ap (λ (x : Frames). is_reached g from x.frames) (sym last) ∙ a.reach;
    }

-- ---- the frames from one of them on

pub record Made (image : Image) (stack : Stack) (f : Frame) (more : List Frame) : Type 0 where
  pub most : ℕ
  pub innermost : Bool
  pub room : height stack.end innermost (slice_index f.r 13) < most
  pub is : f ∷ more ≡ (frames_in most image stack None innermost f.site f.r).frames

made_here : (n : ℕ) (image : Image) (stack : Stack) (innermost : Bool) (site : ℕ) (r : List ℕ) (c : CoveringEntry) (f : Frame) (more rest : List Frame)
    → height stack.end innermost (slice_index r 13) < n → (frames_in n image stack None innermost site r).frames ≡ frame_of site r c ∷ rest
    → frame_of site r c ∷ rest ≡ f ∷ more → Made image stack f more
made_here n image stack innermost site r c f more rest h e k =
    let same : frame_of site r c ≡ f = cc in
    let P : Frame → Type 0 = λ x. (height stack.end innermost (slice_index x.r 13) < n) × ((frames_in n image stack None innermost x.site x.r).frames ≡ f ∷ more) in
    let at = subst P same (h, e ∙ k) in
    record { most = n; innermost = innermost; room = at.0; is = sym at.1 }

made_by : (n : ℕ) (image : Image) (stack : Stack) (innermost : Bool) (site : ℕ) (r : List ℕ) (f : Frame) (more : List Frame) (x : Frame) (inner : List Frame)
    → height stack.end innermost (slice_index r 13) < suc n → (c : CoveringEntry) → entry_contents_at image site ≡ Some c
    → ((at : ℕ) (new : List ℕ) → height stack.end false (slice_index new 13) < n → (frames_in n image stack None false at new).frames ≡ inner ++ (f ∷ more) → Made image stack f more)
    → (frames_in (suc n) image stack None innermost site r).frames ≡ x ∷ (inner ++ (f ∷ more)) → (o : Result Vrs Cause) → outer stack None innermost c.codes r ≡ o → Made image stack f more
made_by n image stack innermost site r f more x inner h c is further e (Ok next) k =
    let rest = frames_of_caller (λ new. frames_in n image stack None false (site_of new) new) in
    let cons : (frames_in (suc n) image stack None innermost site r).frames ≡ frame_of site r c ∷ (frames_in n image stack None false (site_of next.r) next.r).frames =
    ap (λ (y : Frames). y.frames) (frames_cons n image stack innermost site r c is ∙ ap (λ o. frame_and_outer (frame_of site r c) (rest o)) k) in
    let both : frame_of site r c ∷ (frames_in n image stack None false (site_of next.r) next.r).frames ≡ x ∷ (inner ++ (f ∷ more)) = sym cons ∙ e in
    let l = outer_lower stack None innermost c.codes r next k in
    further (site_of next.r) next.r (omega (arith, h, l)) cc
made_by n image stack innermost site r f more x inner h c is further e (Err cause) k =
    let rest = frames_of_caller (λ new. frames_in n image stack None false (site_of new) new) in
    let cons : (frames_in (suc n) image stack None innermost site r).frames ≡ frame_of site r c ∷ [] =
    ap (λ (y : Frames). y.frames) (frames_cons n image stack innermost site r c is ∙ ap (λ o. frame_and_outer (frame_of site r c) (rest o)) k) in
    let both : frame_of site r c ∷ [] ≡ x ∷ (inner ++ (f ∷ more)) = sym cons ∙ e in
    absurd (no_tail inner cc)
  where
    no_tail : (inner : List Frame) → [] ≡ inner ++ (f ∷ more) → ⊥
    no_tail [] e = cc
    no_tail (y ∷ ys) e = cc

made_at : (n : ℕ) (image : Image) (stack : Stack) (innermost : Bool) (site : ℕ) (r : List ℕ) (f : Frame) (more : List Frame) (inner : List Frame)
    → height stack.end innermost (slice_index r 13) < suc n
    → ((x : Frame) (xs : List Frame) → inner ≡ x ∷ xs → (at : ℕ) (new : List ℕ) → height stack.end false (slice_index new 13) < n → (frames_in n image stack None false at new).frames ≡ xs ++ (f ∷ more) → Made image stack f more)
    → (frames_in (suc n) image stack None innermost site r).frames ≡ inner ++ (f ∷ more) → (o : Option CoveringEntry) → entry_contents_at image site ≡ o → Made image stack f more
made_at n image stack innermost site r f more [] h further e (Some c) is =
    let cons = ap (λ (y : Frames). y.frames) (frames_cons n image stack innermost site r c is) in
    made_here (suc n) image stack innermost site r c f more _ h cons (sym cons ∙ e)
made_at n image stack innermost site r f more [] h further e None is = let k = frames_none (suc n) image stack innermost site r is in absurd cc
made_at n image stack innermost site r f more (x ∷ xs) h further e (Some c) is = made_by n image stack innermost site r f more x xs h c is (further x xs refl) e (outer stack None innermost c.codes r) refl
made_at n image stack innermost site r f more (x ∷ xs) h further e None is = let k = frames_none (suc n) image stack innermost site r is in absurd cc

made : (n : ℕ) (image : Image) (stack : Stack) (innermost : Bool) (site : ℕ) (r : List ℕ) (f : Frame) (more : List Frame) (inner : List Frame)
    → height stack.end innermost (slice_index r 13) < n → (frames_in n image stack None innermost site r).frames ≡ inner ++ (f ∷ more) → Made image stack f more
made zero image stack innermost site r f more inner h e = absurd (omega (arith, h))
made (suc n) image stack innermost site r f more inner h e =
    made_at n image stack innermost site r f more inner h
    (λ x xs is at new low k. made n image stack false at new f more xs low k)
    e (entry_contents_at image site) refl

-- ---- in turn

take_none : (n : ℕ) → take n (let none : List Entered = [] in none) ≡ []
take_none zero = refl
take_none (suc n) = refl

alone : (n : ℕ) (e : Entered) (later : List Entered) → later ≡ [] → e ∷ [] ≡ take (suc n) (e ∷ later)
alone n e later k = ap (λ l. e ∷ l) (sym (ap (take n) k ∙ take_none n))

in_turn_by : (n : ℕ) (image : Image) (stack : Stack) (g : Goal) (from site : ℕ) (r : List ℕ) → IsSound image → stack.end ≤ STACK_END
    → ((from site : ℕ) (r : List ℕ) → is_reached g from (frames_of image stack None site r).frames ≡ true → landings_in_turn n image stack g from site r ≡ take n (remaining_landings g from (frames_of image stack None site r).frames))
    → is_reached g from (frames_of image stack None site r).frames ≡ true
    → (e : Entered) (later : List Entered) → phase2 g from (frames_of image stack None site r) ≡ e → remaining_landings g from (frames_of image stack None site r).frames ≡ e ∷ later → Lands e → (Stops e → later ≡ [])
    → enters_on (λ vrs next at. landings_in_turn n image stack g next at vrs.r) e ≡ take (suc n) (e ∷ later)
in_turn_by n image stack g from site r sound low further t (enters.Cleanup vrs pad next at) later e d lands last =
    let fs = frames_of image stack None site r in
    let go = cleanups_go_on g from fs vrs pad next at (all_in_order MOST_FRAMES image stack None true site r sound) e in
    let m = made MOST_FRAMES image stack true site r go.frame go.outer go.inner (few stack.end true (slice_index r 13) low) go.place in
    let seen = λ (l : List Frame). is_reached g next l in
    let a = alike g next m.most image stack m.innermost go.frame.site go.frame.r low m.room (sym (ap seen m.is) ∙ go.reach t) in
    let of = λ (x : ℕ) (v : Vrs). (frames_of image stack None x v.r).frames in
    let moved : of go.frame.site (vrs_of go.frame) ≡ of at vrs = ap (λ x. of x (vrs_of go.frame)) go.stands ∙ ap (of at) go.registers in
    let ih = further next at vrs.r (sym (ap seen moved) ∙ a.reach) in
    let both : enters.Cleanup vrs pad next at ∷ later ≡ enters.Cleanup vrs pad next at ∷ remaining_landings g next (go.frame ∷ go.outer) = sym d ∙ go.due in
    let tail : later ≡ remaining_landings g next (go.frame ∷ go.outer) = cc in
    ap (λ l. enters.Cleanup vrs pad next at ∷ l) (ih ∙ ap (take n) (sym (ap (remaining_landings g next) moved) ∙ a.due ∙ sym (ap (remaining_landings g next) m.is) ∙ sym tail))
in_turn_by n image stack g from site r sound low further t (enters.Catch vrs pad) later e d lands last = alone n _ later (last tt)
in_turn_by n image stack g from site r sound low further t (enters.Spec vrs pad) later e d lands last = alone n _ later (last tt)
in_turn_by n image stack g from site r sound low further t enters.Unexpected later e d lands last = alone n _ later (last tt)
in_turn_by n image stack g from site r sound low further t (enters.Terminate cause) later e d lands last = absurd lands

entered_of : (g : Goal) (from : ℕ) (fs : Frames) (e : Entered) → first_some (enter_at_place g) (places from fs.frames) ≡ Some e → phase2 g from fs ≡ e
unfolding phase2
entered_of g from fs e k = ap (λ o. unwrap_or o (enters.Terminate fs.last)) k

in_turn : (n : ℕ) (image : Image) (stack : Stack) (g : Goal) (from site : ℕ) (r : List ℕ) → IsSound image → stack.end ≤ STACK_END
    → is_reached g from (frames_of image stack None site r).frames ≡ true → landings_in_turn n image stack g from site r ≡ take n (remaining_landings g from (frames_of image stack None site r).frames)
unfolding landings_in_turn
in_turn zero image stack g from site r sound low t = none_taken (remaining_landings g from (frames_of image stack None site r).frames)
  where
    none_taken : (l : List Entered) → [] ≡ take zero l
    none_taken [] = refl
    none_taken (x ∷ l) = refl
in_turn (suc n) image stack g from site r sound low t =
    let fs = frames_of image stack None site r in
    let h = heads g (places from fs.frames) t in
    let e = entered_of g from fs h.entered h.first in
    ap (enters_on (λ vrs next at. landings_in_turn n image stack g next at vrs.r)) e
    ∙ in_turn_by n image stack g from site r sound low (λ from site r k. in_turn n image stack g from site r sound low k) t h.entered h.later e h.due h.lands h.last
    ∙ ap (take (suc n)) (sym h.due)

pub pads_are_in_order : PadsAreInOrder
pads_are_in_order m image stack limit site r b n sound low e =
    let fs = frames_of image stack None site r in
    in_turn n image stack (goal_of b) 0 site r sound low
    (whole_reached m b fs (up_to_barrier m fs.last b fs.frames (unlimited m MOST_FRAMES image stack limit true site r b e)))
