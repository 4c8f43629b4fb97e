-- Who decides, and what plays no part.
use Rattle.std.proofs.Common.{◌≡◌, ◌⊎◌, inl, inr, ℕ, Bool, true, false, cond, List, [], ◌∷◌, ◌++◌, map, refl, sym, ◌∙◌, ap, Option, Some, None, Result, Ok, Err}
use Rattle.std.specs.Prelude.{All, find, option_map, unwrap_or}
use Rattle.std.proofs.lemmas.List.Elements.{All-nil, All-cons, All-head, All-tail}
use Rattle.thumb_core.specs.declared.ends.Cause.{Cause}
use Rattle.eh_match.specs.declared.rules.Match.{Match}
use Rattle.eh_match.specs.declared.rules.Match.TheVariants.{Failed, Object}
use Rattle.eh_desc.specs.declared.descriptor.Desc.{Desc}
use Rattle.eh_desc.specs.declared.descriptor.DescFault.{DescFault}
use Rattle.eh_desc.specs.declared.descriptor.DescKind.{DescKind}
use Rattle.eh_desc.specs.declared.descriptor.DescKind.TheVariants as kind
use Rattle.eh_phase.specs.declared.verdict.Verdict.{Verdict}
use Rattle.eh_phase.specs.declared.verdict.Verdict.TheVariants as says
use Rattle.eh_phase.specs.declared.phase1.Found.{Found}
use Rattle.eh_phase.specs.declared.phase1.Found.TheVariants as found
use Rattle.eh_phase.specs.declared.phase2.Goal.{Goal}
use Rattle.eh_phase.specs.declared.phase2.Entered.{Entered}
use Rattle.eh_phase.specs.declared.phase2.Entered.TheVariants as enters
use Rattle.eh_phase.specs.Firsts.{first_some, or_else}
use Rattle.eh_phase.specs.Verdict.{Meeting, in_scope, is_hit, unless_named, heard, verdict_of}
use Rattle.eh_phase.specs.Phases.{Frame, Frames, places, from_address, is_goal, enter_spec, enter_by_kind, enter_item, enter_at_place, verdict_result, phase1, phase2}
use Rattle.eh_phase.specs.Laws.{SpecificationsNameTypes, IsVerdict, VerdictsAreFirst, IsDecided, InnermostDecides, frame_through, frames_through, entered_through, RegistersAreHandedOn}
use Rattle.eh_phase.proofs.Steps.{said_here, silent_here, parted}

-- ---- the verdict

verdict_by : (m : Meeting) (site : ℕ) (i : Result Desc DescFault) (more : List (Result Desc DescFault)) (o : Option Verdict) → heard m site i ≡ o
    → (p : Option Verdict) → IsVerdict m site more p → IsVerdict m site (i ∷ more) (or_else o p)
verdict_by m site i more (Some v) e p further = record { before = []; item = i; later = more; parts = refl; silent = All-nil (λ j. heard m site j ≡ None); says = e }
verdict_by m site i more None e None further = All-cons (λ j. heard m site j ≡ None) i more e further
verdict_by m site i more None e (Some v) further = record {
  before = i ∷ further.before;
  item = further.item;
  later = further.later;
  parts = ap (λ l. i ∷ l) further.parts;
  silent = All-cons (λ j. heard m site j ≡ None) i further.before e further.silent;
  says = further.says;
}

first_verdict : (m : Meeting) (site : ℕ) (items : List (Result Desc DescFault)) → IsVerdict m site items (first_some (heard m site) items)
unfolding first_some
first_verdict m site [] = All-nil (λ j. heard m site j ≡ None)
first_verdict m site (i ∷ more) = verdict_by m site i more (heard m site i) refl (first_some (heard m site) more) (first_verdict m site more)

pub verdicts_are_first : VerdictsAreFirst
unfolding verdict_of
verdicts_are_first m site items = first_verdict m site items

-- ---- phase 1

abbrev Silent : Meeting → Frame → Type 0
Silent m f = verdict_of m f.site f.items ≡ None

abbrev Decision : Meeting → List Frame → Cause → Found → Type 0
Decision m frames last answer = (All (λ (f : Frame). verdict_of m f.site f.items ≡ None) frames × (answer ≡ found.Terminate last)) ⊎ IsDecided m frames answer

no_frames : (m : Meeting) (last : Cause) → phase1 m (record { frames = []; last = last }) ≡ found.Terminate last
unfolding phase1 first_some
no_frames m last = refl

passed_by : (m : Meeting) (f : Frame) (more : List Frame) (last : Cause) (answer next : Found) → answer ≡ next → Silent m f → Decision m more last next → Decision m (f ∷ more) last answer
passed_by m f more last answer next e s (inl d) = inl (All-cons (Silent m) f more s d.0, e ∙ d.1)
passed_by m f more last answer next e s (inr d) = inr (record {
  inner = f ∷ d.inner;
  frame = d.frame;
  outer = d.outer;
  parts = ap (λ l. f ∷ l) d.parts;
  silent = All-cons (Silent m) f d.inner s d.silent;
  verdict = d.verdict;
  says = d.says;
  found = e ∙ d.found;
})

decided_by : (m : Meeting) (f : Frame) (more : List Frame) (last : Cause) → Decision m more last (phase1 m (record { frames = more; last = last }))
    → (o : Option Verdict) → verdict_of m f.site f.items ≡ o → Decision m (f ∷ more) last (phase1 m (record { frames = f ∷ more; last = last }))
decided_by m f more last further (Some v) e = inr (record {
  inner = [];
  frame = f;
  outer = more;
  parts = refl;
  silent = All-nil (Silent m);
  verdict = v;
  says = e;
  found = said_here m f (record { frames = more; last = last }) v e;
})
decided_by m f more last further None e = passed_by m f more last _ _ (silent_here m f (record { frames = more; last = last }) e) e further

decided : (m : Meeting) (last : Cause) (frames : List Frame) → Decision m frames last (phase1 m (record { frames = frames; last = last }))
decided m last [] = inl (All-nil (Silent m), no_frames m last)
decided m last (f ∷ more) = decided_by m f more last (decided m last more) (verdict_of m f.site f.items) refl

pub innermost_decides : InnermostDecides
innermost_decides m fs = decided m fs.last fs.frames

-- ---- registers

or_map : {A B : Type 0} (h : A → B) (o p : Option A) → or_else (option_map h o) (option_map h p) ≡ option_map h (or_else o p)
or_map h None p = refl
or_map h (Some x) p = refl

first_seen : {A B C : Type 0} (h : B → C) (f : A → Option B) (g : A → Option C) (xs : List A) → ((x : A) → g x ≡ option_map h (f x)) → first_some g xs ≡ option_map h (first_some f xs)
unfolding first_some
first_seen h f g [] same = refl
first_seen h f g (x ∷ more) same = ap (λ o. or_else o (first_some g more)) (same x) ∙ ap (or_else (option_map h (f x))) (first_seen h f g more same) ∙ or_map h (f x) (first_some f more)

found_seen : (view : List ℕ → List ℕ) (f : Frame) (v : Verdict) → verdict_result (frame_through view f) v ≡ verdict_result f v
found_seen view f (says.Barrier desc hit) = refl
found_seen view f (says.ObjectRead a) = refl
found_seen view f (says.Terminate cause) = refl

search_by : (m : Meeting) (view : List ℕ → List ℕ) (last : Cause) (f : Frame) (more : List Frame)
    → phase1 m (record { frames = map (frame_through view) more; last = last }) ≡ phase1 m (record { frames = more; last = last })
    → (o : Option Verdict) → verdict_of m f.site f.items ≡ o → phase1 m (record { frames = map (frame_through view) (f ∷ more); last = last }) ≡ phase1 m (record { frames = f ∷ more; last = last })
search_by m view last f more further (Some v) e =
    said_here m (frame_through view f) (record { frames = map (frame_through view) more; last = last }) v e ∙ found_seen view f v ∙ sym (said_here m f (record { frames = more; last = last }) v e)
search_by m view last f more further None e =
    silent_here m (frame_through view f) (record { frames = map (frame_through view) more; last = last }) e ∙ further ∙ sym (silent_here m f (record { frames = more; last = last }) e)

search_seen : (m : Meeting) (view : List ℕ → List ℕ) (last : Cause) (frames : List Frame)
    → phase1 m (record { frames = map (frame_through view) frames; last = last }) ≡ phase1 m (record { frames = frames; last = last })
search_seen m view last [] = refl
search_seen m view last (f ∷ more) = search_by m view last f more (search_seen m view last more) (verdict_of m f.site f.items) refl

entered_seen_by : (view : List ℕ → List ℕ) (g : Goal) (f : Frame) (d : Desc) (k : DescKind) → enter_by_kind g (frame_through view f) d k ≡ option_map (entered_through view) (enter_by_kind g f d k)
entered_seen_by view g f d (kind.Cleanup pad) = refl
entered_seen_by view g f d (kind.Catch pad reference type) = go (is_goal g f d.at)
  where
    go : (b : Bool) → cond b (Some (enters.Catch (record { r = view f.r }) pad)) None ≡ option_map (entered_through view) (cond b (Some (enters.Catch (record { r = f.r }) pad)) None)
    go true = refl
    go false = refl
entered_seen_by view g f d (kind.Spec types count pad) = go (is_goal g f d.at) pad
  where
    go : (b : Bool) (pad : Option ℕ) → cond b (Some (enter_spec (frame_through view f) pad)) None ≡ option_map (entered_through view) (cond b (Some (enter_spec f pad)) None)
    go true None = refl
    go true (Some pad) = refl
    go false pad = refl

entered_seen : (view : List ℕ → List ℕ) (g : Goal) (f : Frame) (i : Result Desc DescFault) → enter_item g (frame_through view f) i ≡ option_map (entered_through view) (enter_item g f i)
entered_seen view g f (Err fault) = refl
entered_seen view g f (Ok d) = go (in_scope f.site d)
  where
    go : (b : Bool) → cond b (enter_by_kind g (frame_through view f) d d.kind) None ≡ option_map (entered_through view) (cond b (enter_by_kind g f d d.kind) None)
    go true = entered_seen_by view g f d d.kind
    go false = refl

no_places : (view : List ℕ → List ℕ) (g : Goal) (from : ℕ) → first_some (enter_at_place g) (places from []) ≡ option_map (entered_through view) (first_some (enter_at_place g) (places from []))
unfolding places first_some
no_places view g from = refl

first_places : (view : List ℕ → List ℕ) (g : Goal) (from : ℕ) (fs : List Frame) → first_some (enter_at_place g) (places from (map (frame_through view) fs)) ≡ option_map (entered_through view) (first_some (enter_at_place g) (places from fs))
first_places view g from [] = no_places view g from
first_places view g from (f ∷ more) =
    let own = from_address from f.items in
    let further = first_some (enter_at_place g) (places 0 more) in
    parted g from (frame_through view f) (map (frame_through view) more)
    ∙ ap (λ o. or_else o (first_some (enter_at_place g) (places 0 (map (frame_through view) more)))) (first_seen (entered_through view) (enter_item g f) (enter_item g (frame_through view f)) own (entered_seen view g f))
    ∙ ap (or_else (option_map (entered_through view) (first_some (enter_item g f) own))) (first_places view g 0 more)
    ∙ or_map (entered_through view) (first_some (enter_item g f) own) further
    ∙ sym (ap (option_map (entered_through view)) (parted g from f more))

or_last : (view : List ℕ → List ℕ) (o : Option Entered) (last : Cause) → unwrap_or (option_map (entered_through view) o) (enters.Terminate last) ≡ entered_through view (unwrap_or o (enters.Terminate last))
or_last view None last = refl
or_last view (Some e) last = refl

advance_seen : (view : List ℕ → List ℕ) (g : Goal) (from : ℕ) (fs : Frames) → phase2 g from (frames_through view fs) ≡ entered_through view (phase2 g from fs)
unfolding phase2
advance_seen view g from fs = ap (λ o. unwrap_or o (enters.Terminate fs.last)) (first_places view g from fs.frames) ∙ or_last view _ fs.last

pub registers_are_handed_on : RegistersAreHandedOn
registers_are_handed_on view fs = record { search = λ m. search_seen m view fs.last fs.frames; advance = λ g from. advance_seen view g from fs }

-- ---- specifications

none_hit : (f : ℕ → Match) (ts : List ℕ) → All (λ t. f t ≡ Failed) ts → find is_hit (map f ts) ≡ None
none_hit f [] a = refl
none_hit f (t ∷ ts) a = rw (All-head (λ u. f u ≡ Failed) t ts a) (none_hit f ts (All-tail (λ u. f u ≡ Failed) t ts a))

some_hit : (f : ℕ → Match) (before : List ℕ) (t : ℕ) (later : List ℕ) (x : ℕ) → All (λ u. f u ≡ Failed) before → f t ≡ Object x → find is_hit (map f (before ++ t ∷ later)) ≡ Some (Object x)
some_hit f [] t later x a e = rw e refl
some_hit f (u ∷ before) t later x a e = rw (All-head (λ v. f v ≡ Failed) u before a) (some_hit f before t later x (All-tail (λ v. f v ≡ Failed) u before a) e)

pub specifications_name_types : SpecificationsNameTypes
specifications_name_types m at types count pad = record {
  violated = λ a. ap (λ o. unless_named m.object at (unwrap_or o Failed)) (none_hit m.matched (m.types (kind.Spec types count pad)) a);
  named = λ before t later x parts a e. ap (λ o. unless_named m.object at (unwrap_or o Failed)) (ap (λ l. find is_hit (map m.matched l)) parts ∙ some_hit m.matched before t later x a e);
}
