-- Frames that are passed by what the entry said of the one before.
use Rattle.std.proofs.Common.{◌≡◌, ℕ, List, [], ◌∷◌, refl, ◌∙◌, ap, arith, cond, nat_eq, Option, Some, None, Result, Ok, Err, Bool, true, false}
use Rattle.std.specs.Prelude.{◌&&◌}
use Rattle.std.proofs.lemmas.Bool.Decides.{nat_tests}
use Rattle.elf_image.specs.Image.{Image}
use Rattle.thumb_core.specs.declared.ends.Cause.{Cause}
use Rattle.thumb_core.specs.declared.ends.Cause.TheVariants.{CannotUnwind}
use Rattle.eh_desc.specs.declared.descriptor.Desc.{Desc}
use Rattle.eh_desc.specs.declared.descriptor.DescFault.{DescFault}
use Rattle.eh_desc.specs.declared.descriptor.DescKind.{DescKind}
use Rattle.eh_desc.specs.declared.descriptor.DescKind.TheVariants.{Cleanup, Catch, Spec}
use Rattle.eh_phase.specs.declared.walk.CoveringEntry.{CoveringEntry}
use Rattle.eh_phase.specs.declared.walk.Cursor.{Cursor}
use Rattle.eh_phase.specs.declared.verdict.Verdict.{Verdict}
use Rattle.eh_phase.specs.declared.verdict.Verdict.TheVariants as says
use Rattle.eh_phase.specs.declared.phase1.Found.{Found}
use Rattle.eh_phase.specs.declared.phase1.Found.TheVariants as found
use Rattle.eh_phase.specs.declared.phase2.Goal.{Goal}
use Rattle.eh_phase.specs.declared.phase2.Entered.{Entered}
use Rattle.eh_phase.specs.declared.phase2.Entered.TheVariants as enters
use Rattle.eh_phase.specs.Firsts.{first_some, or_else}
use Rattle.eh_phase.specs.Verdict.{Meeting, verdict_of, in_scope}
use Rattle.eh_phase.specs.Phases.{Frame, verdict_result, enter_item, enter_by_kind, enter_spec, vrs_of, from_address}
use Rattle.eh_phase.specs.Frames.{Stack, entry_contents_at, outer}
use Rattle.eh_phase.specs.Calls.{cursor_of, frame_at}
use Rattle.eh_phase.specs.Passed.{unless, verdict_or_codes_by, verdict_or_codes, enters_by, enters_at, IsQuiet}
use Rattle.eh_phase.proofs.First.{or_past}
use Rattle.eh_phase.proofs.Steps.{Searches, search_on, search_ended, search_said, search_uncovered, Advances, advance_on, advance_ended, advance_entered, advance_uncovered}

-- ---- phase 1

-- the entry behind codes at a site that says nothing
record Silent (m : Meeting) (image : Image) (site : ℕ) (codes : List ℕ) : Type 0 where
  here : CoveringEntry
  covered : entry_contents_at image site ≡ Some here
  silent : verdict_of m site here.descs ≡ None
  same : here.codes ≡ codes

silent_by : (m : Meeting) (image : Image) (site : ℕ) (codes : List ℕ) (o : Option CoveringEntry) → entry_contents_at image site ≡ o → verdict_or_codes_by m site o ≡ Ok codes → Silent m image site codes
silent_by m image site codes None e h = absurd cc
silent_by m image site codes (Some c) e h = by_verdict (verdict_of m site c.descs) refl h
  where
    by_verdict : (v : Option Verdict) → verdict_of m site c.descs ≡ v → unless c.codes v ≡ Ok codes → Silent m image site codes
    by_verdict None k h = record { here = c; covered = e; silent = k; same = cc }
    by_verdict (Some v) k h = absurd cc

silent_at : (m : Meeting) (image : Image) (site : ℕ) (codes : List ℕ) → verdict_or_codes m image site ≡ Ok codes → Silent m image site codes
unfolding verdict_or_codes
silent_at m image site codes h = silent_by m image site codes (entry_contents_at image site) refl h

pub passed_on : (m : Meeting) (image : Image) (stack : Stack) (limit : Option ℕ) (answer : Found) (c next : Cursor) (codes : List ℕ)
    → Searches m image stack limit answer c → verdict_or_codes m image c.site ≡ Ok codes
    → cursor_of (outer stack limit c.innermost codes c.vrs.r) ≡ Ok next → Searches m image stack limit answer next
passed_on m image stack limit answer c next codes s h l =
    let e = silent_at m image c.site codes h in
    search_on m image stack limit answer c next e.here s e.covered e.silent (rw e.same l)

pub passed_ended : (m : Meeting) (image : Image) (stack : Stack) (limit : Option ℕ) (answer : Found) (c : Cursor) (codes : List ℕ) (cause : Cause)
    → Searches m image stack limit answer c → verdict_or_codes m image c.site ≡ Ok codes
    → cursor_of (outer stack limit c.innermost codes c.vrs.r) ≡ Err cause → found.Terminate cause ≡ answer
passed_ended m image stack limit answer c codes cause s h l =
    let e = silent_at m image c.site codes h in
    search_ended m image stack limit answer c e.here cause s e.covered e.silent (rw e.same l)

pub passed_said : (m : Meeting) (image : Image) (stack : Stack) (limit : Option ℕ) (answer : Found) (c : Cursor) (v : Verdict)
    → Searches m image stack limit answer c → verdict_or_codes m image c.site ≡ Err v → verdict_result (frame_at c) v ≡ answer
unfolding verdict_or_codes
passed_said m image stack limit answer c v s h = by_covered (entry_contents_at image c.site) refl h
  where
    by_verdict : (here : CoveringEntry) → entry_contents_at image c.site ≡ Some here → (o : Option Verdict) → verdict_of m c.site here.descs ≡ o → unless here.codes o ≡ Err v → verdict_result (frame_at c) v ≡ answer
    by_verdict here e None k h = absurd cc
    by_verdict here e (Some w) k h = let same : w ≡ v = cc in search_said m image stack limit answer c here v s e (k ∙ ap (λ (x : Verdict). Some x) same)

    by_covered : (o : Option CoveringEntry) → entry_contents_at image c.site ≡ o → verdict_or_codes_by m c.site o ≡ Err v → verdict_result (frame_at c) v ≡ answer
    by_covered None e h = let same : v ≡ says.Terminate CannotUnwind = cc in ap (verdict_result (frame_at c)) same ∙ search_uncovered m image stack limit answer c s e
    by_covered (Some here) e h = by_verdict here e (verdict_of m c.site here.descs) refl h

-- ---- phase 2

-- the entry behind codes of a frame that enters nothing
record Quiet (g : Goal) (from : ℕ) (image : Image) (f : Frame) (codes : List ℕ) : Type 0 where
  here : CoveringEntry
  covered : entry_contents_at image f.site ≡ Some here
  nothing : first_some (enter_item g f) (from_address from here.descs) ≡ None
  same : here.codes ≡ codes

quiet_by : (g : Goal) (from : ℕ) (image : Image) (f : Frame) (codes : List ℕ) (o : Option CoveringEntry) → entry_contents_at image f.site ≡ o → enters_by g from f o ≡ Ok codes
    → Quiet g from image f codes
quiet_by g from image f codes None e h = absurd cc
quiet_by g from image f codes (Some c) e h = by_entered (first_some (enter_item g f) (from_address from c.descs)) refl h
  where
    by_entered : (t : Option Entered) → first_some (enter_item g f) (from_address from c.descs) ≡ t → unless c.codes t ≡ Ok codes → Quiet g from image f codes
    by_entered None k h = record { here = c; covered = e; nothing = k; same = cc }
    by_entered (Some t) k h = absurd cc

quiet_at : (g : Goal) (from : ℕ) (image : Image) (f : Frame) (codes : List ℕ) → enters_at g from image f ≡ Ok codes → Quiet g from image f codes
unfolding enters_at
quiet_at g from image f codes h = quiet_by g from image f codes (entry_contents_at image f.site) refl h

pub quiet_on : (g : Goal) (from : ℕ) (image : Image) (stack : Stack) (answer : Entered) (c next : Cursor) (codes : List ℕ)
    → Advances g from image stack answer c → enters_at g from image (frame_at c) ≡ Ok codes
    → cursor_of (outer stack None c.innermost codes c.vrs.r) ≡ Ok next → Advances g 0 image stack answer next
quiet_on g from image stack answer c next codes s h l =
    let e = quiet_at g from image (frame_at c) codes h in
    advance_on g from image stack answer c next e.here s e.covered e.nothing (rw e.same l)

pub quiet_ended : (g : Goal) (from : ℕ) (image : Image) (stack : Stack) (answer : Entered) (c : Cursor) (codes : List ℕ) (cause : Cause)
    → Advances g from image stack answer c → enters_at g from image (frame_at c) ≡ Ok codes
    → cursor_of (outer stack None c.innermost codes c.vrs.r) ≡ Err cause → enters.Terminate cause ≡ answer
quiet_ended g from image stack answer c codes cause s h l =
    let e = quiet_at g from image (frame_at c) codes h in
    advance_ended g from image stack answer c e.here cause s e.covered e.nothing (rw e.same l)

pub quiet_entered : (g : Goal) (from : ℕ) (image : Image) (stack : Stack) (answer : Entered) (c : Cursor) (t : Entered)
    → Advances g from image stack answer c → enters_at g from image (frame_at c) ≡ Err t → t ≡ answer
unfolding enters_at
quiet_entered g from image stack answer c t s h = by_covered (entry_contents_at image c.site) refl h
  where
    by_entered : (here : CoveringEntry) → entry_contents_at image c.site ≡ Some here → (o : Option Entered) → first_some (enter_item g (frame_at c)) (from_address from here.descs) ≡ o
        → unless here.codes o ≡ Err t → t ≡ answer
    by_entered here e None k h = absurd cc
    by_entered here e (Some u) k h = let same : u ≡ t = cc in advance_entered g from image stack answer c here t s e (k ∙ ap (λ (x : Entered). Some x) same)

    by_covered : (o : Option CoveringEntry) → entry_contents_at image c.site ≡ o → enters_by g from (frame_at c) o ≡ Err t → t ≡ answer
    by_covered None e h = let same : t ≡ enters.Terminate CannotUnwind = cc in same ∙ advance_uncovered g from image stack answer c s e
    by_covered (Some here) e h = by_entered here e (first_some (enter_item g (frame_at c)) (from_address from here.descs)) refl h

-- ---- what enters nothing in one frame enters nothing in another at the same site, but for the barrier's

or_none : {B : Type 0} (o more : Option B) → or_else o more ≡ None → (o ≡ None) × (more ≡ None)
or_none None more e = (refl, e)
or_none (Some x) more e = absurd cc

apart_from : (x y : ℕ) (b : Bool) → (x ≡ y → ⊥) → (nat_eq x y && b) ≡ false
apart_from x y b h = grind (arith, nat_tests)

quiet_kind : (g : Goal) (f k : Frame) (d : Desc) (kind : DescKind) → (k.sp ≡ g.sp → ⊥) → enter_by_kind g f d kind ≡ None → enter_by_kind g k d kind ≡ None
quiet_kind g f k d (Cleanup pad) apart e = absurd cc
quiet_kind g f k d (Catch pad reference type) apart e = ap (λ (b : Bool). cond b (Some (enters.Catch (vrs_of k) pad)) None) (apart_from k.sp g.sp (nat_eq d.at g.desc) apart)
quiet_kind g f k d (Spec types count pad) apart e = ap (λ (b : Bool). cond b (Some (enter_spec k pad)) None) (apart_from k.sp g.sp (nat_eq d.at g.desc) apart)

quiet_item : (g : Goal) (f k : Frame) (i : Result Desc DescFault) → k.site ≡ f.site → (k.sp ≡ g.sp → ⊥) → enter_item g f i ≡ None → enter_item g k i ≡ None
quiet_item g f k (Err fault) same apart e = absurd cc
quiet_item g f k (Ok d) same apart e =
    ap (λ (site : ℕ). cond (in_scope site d) (enter_by_kind g k d d.kind) None) same ∙ by_scope (in_scope f.site d) e
  where
    by_scope : (b : Bool) → cond b (enter_by_kind g f d d.kind) None ≡ None → cond b (enter_by_kind g k d d.kind) None ≡ None
    by_scope true e = quiet_kind g f k d d.kind apart e
    by_scope false e = refl

quiet_items : (g : Goal) (f k : Frame) (items : List (Result Desc DescFault)) → k.site ≡ f.site → (k.sp ≡ g.sp → ⊥)
    → first_some (enter_item g f) items ≡ None → first_some (enter_item g k) items ≡ None
unfolding first_some
quiet_items g f k [] same apart e = refl
quiet_items g f k (i ∷ more) same apart e =
    let both = or_none (enter_item g f i) (first_some (enter_item g f) more) e in
    or_past (enter_item g k i) (first_some (enter_item g k) more) (quiet_item g f k i same apart both.0) ∙ quiet_items g f k more same apart both.1

quiet_covered : (g : Goal) (image : Image) (k : Frame) (here : CoveringEntry) (codes : List ℕ) → entry_contents_at image k.site ≡ Some here
    → first_some (enter_item g k) (from_address 0 here.descs) ≡ None → here.codes ≡ codes → enters_at g 0 image k ≡ Ok codes
unfolding enters_at
quiet_covered g image k here codes e n same = rw (e, n, same) refl

pub stays_quiet : (g : Goal) (image : Image) (f : Frame) (codes : List ℕ) → enters_at g 0 image f ≡ Ok codes → IsQuiet g image f.site codes
stays_quiet g image f codes h k same apart =
    let q = quiet_at g 0 image f codes h in
    quiet_covered g image k q.here codes (ap (entry_contents_at image) same ∙ q.covered) (quiet_items g f k q.here.descs same apart q.nothing) q.same
