-- A function is well exactly where no cause stands, and what is refused isn't accepted.
use Rattle.std.proofs.Common.{◌≡◌, ℕ, ◌+◌, ◌<◌, ◌≤◌, List, [], ◌∷◌, ◌++◌, length, get_or, take, drop, drop-cons, add-one, Some, refl, sym, ap, ◌∙◌, subst, arith, Bool, true, false}
use Rattle.std.specs.Prelude.{All, find, if◌then◌else◌}
use Rattle.std.proofs.lemmas.List.{take-append-drop, take_more}
use Rattle.std.proofs.lemmas.List.Elements.{All-contains, Contains-append_right, All-get_or, All-push}
use Rattle.elf_image.specs.Segments.{Segment, RiseFrom, segment_end, holds}
use Rattle.elf_image.specs.Functions.{Function, FunctionsFrom, segment_at}
use Rattle.elf_image.specs.Image.{Image, IsSound as IsSoundImage, IsWithinCode}
use Rattle.elf_image.specs.declared.limits.TheConstants.{ADDRESS_LIMIT}
use Rattle.eh_types.proofs.Meaning.{fault_no_graph}
use Rattle.frame_facts.specs.declared.cause.FrameCause.{FrameCause}
use Rattle.frame_graph.specs.FlowGraph.{FlowGraph}
use Rattle.frame_reach.specs.Marks.{Marks}
use Rattle.frame_reach.specs.Laws.{MarksExist, MarksAgree}
use Rattle.frame_flow.specs.Flows.{StandsIn}
use Rattle.frame_flow.specs.Laws.{FactsDecide}
use Rattle.frame_check.specs.declared.fault.CheckFault.{CheckFault}
use Rattle.frame_check.specs.declared.fault.CheckFault.TheVariants.{Index, Function as OfFunction, Types, OutOfMemory}
use Rattle.frame_check.specs.Roles.{Table}
use Rattle.frame_check.specs.Roots.{flow_graph_of, roots_of}
use Rattle.frame_check.specs.Accepts.{framed_function, CauseStands, by_facts, at_start, IsWell, AreWell, AreRoles}
use Rattle.frame_check.specs.Judged.{RefusesOne, RefusesFunctions, IsTaken, IsPlaced}
use Rattle.frame_check.specs.Laws.{WellIsUnrefused, RefusalsAreRight}
use Rattle.frame_check.proofs.Images.{functions_before, roles_more}

pub none_stands : MarksAgree → FactsDecide → (s : FlowGraph) → s.start < s.end → IsWell s → (p : ℕ) (c : FrameCause) → CauseStands s p c → ⊥
none_stands agree decide s some w p c (by_facts m am st) =
    let e = agree s m w.marks am w.are in
    (decide (framed_function s w.marks) some).0 w.facts p c (subst (λ (n : Marks). StandsIn (framed_function s n) p c) e st)
none_stands agree decide s some w _ c (at_start st) = w.start c st

pub well_decides : MarksExist → MarksAgree → FactsDecide → WellIsUnrefused
well_decides exist agree decide s some = (none_stands agree decide s some, back)
  where
    back : ((p : ℕ) (c : FrameCause) → CauseStands s p c → ⊥) → IsWell s
    back h =
        let m = exist s in
        record { marks = m.0; are = m.1; facts = (decide (framed_function s m.0) some).1 (λ p c st. h p c (by_facts m.0 m.1 st)); start = λ c st. h 0 c (at_start st) }

pub refusals_right : MarksAgree → FactsDecide → RefusalsAreRight
refusals_right agree decide image (Index fault) r a = cc (r, a.index)
refusals_right agree decide image (OfFunction r) x a =
    let f = x.1 in
    let all = subst (λ (fs : List Function). AreWell image fs) f.divided a.functions in
    let well : IsWell (flow_graph_of image f.function) =
    All-contains (λ (g : Function). IsWell (flow_graph_of image g)) (f.before ++ f.function ∷ f.after) f.function all (Contains-append_right f.before (f.function ∷ f.after) f.function (0, omega arith, refl)) in
    none_stands agree decide (flow_graph_of image f.function) (omega (arith, f.address, f.inside)) well f.place r.cause f.stands
refusals_right agree decide image (Types fault) x a = fault_no_graph image (roots_of image) fault x.2 a.types a.graph
refusals_right agree decide image OutOfMemory x a = x

-- ---- functions by their numbers

pub divided : {X : Type 0} (xs : List X) (i : ℕ) (d : X) → i < length xs → xs ≡ take i xs ++ get_or xs i d ∷ drop (i + 1) xs
divided xs i d l = sym (take-append-drop i xs) ∙ ap (λ ys. take i xs ++ ys) (rw add-one (drop-cons xs i d l))

pub first_rejected : (image : Image) (i : ℕ) (d : Function) (fault : CheckFault) → i < length image.functions → AreWell image (take i image.functions)
    → RefusesOne image (get_or image.functions i d) fault → RefusesFunctions image fault
first_rejected image i d (Index fault) l w r = r
first_rejected image i d (OfFunction x) l w r = record {
  before = take i image.functions;
  function = get_or image.functions i d;
  after = drop (i + 1) image.functions;
  divided = divided image.functions i d l;
  well = w;
  name = r.name;
  start = r.start;
  place = r.place;
  address = r.address;
  inside = r.inside;
  stands = r.stands;
}
first_rejected image i d (Types fault) l w r = r
first_rejected image i d OutOfMemory l w r = r

-- ---- where functions lie

rise_ends : (from : ℕ) (ys : List Segment) → RiseFrom from ys → from ≤ ADDRESS_LIMIT
rise_ends from [] q = q
rise_ends from (y ∷ ys) q = let l = rise_ends (y.start + y.size) ys q.3 in omega (arith, q.0, q.1, l)

held_below : (a low : ℕ) (xs : List Segment) (s : Segment) → RiseFrom low xs → segment_at xs a ≡ Some s → segment_end s ≤ ADDRESS_LIMIT
held_below a low [] s r e = absurd (cc)
held_below a low (x ∷ xs) s r e = go (holds a x) e (λ h. held_below a (x.start + x.size) xs s r.3 h)
  where
    go : (t : Bool) → (if t then Some x else find (holds a) xs) ≡ Some s → (segment_at xs a ≡ Some s → segment_end s ≤ ADDRESS_LIMIT) → segment_end s ≤ ADDRESS_LIMIT
    go true e rec = let same : x ≡ s = cc in subst (λ (y : Segment). segment_end y ≤ ADDRESS_LIMIT) same (rise_ends (x.start + x.size) xs r.3)
    go false e rec = rec e

pub placed_at : (image : Image) (i : ℕ) (d : Function) → IsSoundImage image → i < length image.functions → IsPlaced (get_or image.functions i d)
placed_at image i d x l =
    let w = All-get_or (IsWithinCode image.segments) image.functions i d l x.within in
    let b = functions_before 0 (take i image.functions) (drop (i + 1) image.functions) (get_or image.functions i d) (subst (FunctionsFrom 0) (divided image.functions i d l) x.functions) in
    record { even = w.even; some = b.2; low = omega (arith, w.within, held_below (get_or image.functions i d).start 0 image.segments w.segment x.rise w.holder) }

pub ends_before : (image : Image) (i : ℕ) (d : Function) → IsSoundImage image → i < length image.functions
    → All (λ (g : Function). g.end ≤ (get_or image.functions i d).start) (take i image.functions)
ends_before image i d x l =
    (functions_before 0 (take i image.functions) (drop (i + 1) image.functions) (get_or image.functions i d) (subst (FunctionsFrom 0) (divided image.functions i d l) x.functions)).0

-- ---- a function of the loop

pub same_item : {X : Type 0} (xs ys : List X) (i : ℕ) (x : X) → xs ≡ ys → x ≡ get_or xs i x → x ≡ get_or ys i x
same_item xs ys i x e f = f ∙ ap (λ l. get_or l i x) e

pub placed_item : (image sound : Image) (fs : List Function) (i : ℕ) (f : Function) → IsSoundImage sound → sound ≡ image → fs ≡ image.functions → i < length fs → f ≡ get_or fs i f → IsPlaced f
placed_item image sound fs i f x same e l is =
    subst IsPlaced (sym (same_item fs image.functions i f e is)) (placed_at image i f (subst IsSoundImage same x) (subst (λ (gs : List Function). i < length gs) e l))

pub rejected_item : (image : Image) (fs : List Function) (i : ℕ) (f : Function) (fault : CheckFault) → fs ≡ image.functions → i < length fs → f ≡ get_or fs i f → AreWell image (take i image.functions)
    → RefusesOne image f fault → RefusesFunctions image fault
rejected_item image fs i f fault e l is w r =
    first_rejected image i f fault (subst (λ (gs : List Function). i < length gs) e l) w (subst (λ (g : Function). RefusesOne image g fault) (same_item fs image.functions i f e is) r)

-- one function more that is well
pub taken_item : (image sound : Image) (fs : List Function) (i : ℕ) (f : Function) (old new : Table) → MarksAgree → IsSoundImage sound → sound ≡ image → fs ≡ image.functions → i < length fs → f ≡ get_or fs i f
    → AreWell image (take i image.functions) → AreRoles image (take i image.functions) old → IsTaken image f old new → AreWell image (take (i + 1) image.functions) × AreRoles image (take (i + 1) image.functions) new
taken_item image sound fs i f old new agree x same e l is w sp t = (well, roles)
  where
    at : f ≡ get_or image.functions i f
    at = same_item fs image.functions i f e is

    within : i < length image.functions
    within = subst (λ (gs : List Function). i < length gs) e l

    placed : IsPlaced f
    placed = placed_item image sound fs i f x same e l is

    more : take (i + 1) image.functions ≡ take i image.functions ++ f ∷ []
    more = take_more image.functions i f within ∙ ap (λ (g : Function). take i image.functions ++ g ∷ []) (sym at)

    before : All (λ (g : Function). g.end ≤ f.start) (take i image.functions)
    before = subst (λ (h : Function). All (λ (g : Function). g.end ≤ h.start) (take i image.functions)) (sym at) (ends_before image i f (subst IsSoundImage same x) within)

    well : AreWell image (take (i + 1) image.functions)
    well =
        subst (λ (gs : List Function). AreWell image gs) (sym more)
        (All-push (λ (g : Function). IsWell (flow_graph_of image g)) (take i image.functions) f w t.well)

    roles : AreRoles image (take (i + 1) image.functions) new
    roles =
        subst (λ (gs : List Function). AreRoles image gs new) (sym more)
        (roles_more image (take i image.functions) f t.marks old new placed.even (omega (arith, placed.low)) before agree t.are sp t.marked)
