-- What is known of an entry of which nothing is refused, and the laws.
use Rattle.std.proofs.Common.{◌≡◌, ℕ, ◌+◌, ◌-◌, ◌%◌, ◌^◌, ◌<◌, ◌≤◌, ◌==◌, ◌&&◌, ◌||◌, not, Bool, true, false, cond, nat_le, nat_lt, List, [], ◌∷◌, ◌++◌, map, flat_map, Option, Some, None, refl, sym, ap, ◌∙◌, arith, subst}
use Rattle.std.specs.Prelude.{Result, Ok, Err}
use Rattle.std.proofs.lemmas.Bool.Decides.{nat_tests}
use Rattle.elf_image.specs.Image.{Image}
use Rattle.elf_image.specs.declared.limits.TheConstants.{ADDRESS_LIMIT}
use Rattle.eh_phase.specs.Firsts.{first_some}
use Rattle.eh_phase.specs.Verdict.{Meeting, verdict_of}
use Rattle.gnu_compact.specs.declared.descriptor.OwnKind.TheVariants as own
use Rattle.gnu_lsda.specs.declared.actions.CatchFilter.{CatchFilter}
use Rattle.gnu_lsda.specs.declared.actions.CatchFilter.TheVariants.{All, OfType}
use Rattle.gnu_lsda.specs.declared.actions.Action.{Action}
use Rattle.gnu_lsda.specs.declared.actions.Action.TheVariants.{Cleanup, Catch, NoTypes, Specification}
use Rattle.gnu_lsda.specs.declared.actions.ActionFault.{ActionFault}
use Rattle.gnu_lsda.specs.declared.lsda.HeadFault.{HeadFault}
use Rattle.gnu_lsda.specs.declared.records.Record.{Record}
use Rattle.gnu_lsda.specs.declared.records.RecordFault.{RecordFault}
use Rattle.gnu_lsda.specs.declared.records.RecordFault.TheVariants.{Short}
use Rattle.gnu_lsda.specs.declared.fault.EntryFault.{EntryFault}
use Rattle.gnu_lsda.specs.declared.fault.EntryFault.TheVariants.{Personality, Order, TooLong}
use Rattle.gnu_lsda.specs.Entries.{Form, personality_in, words_after}
use Rattle.gnu_lsda.specs.Heads.{Area, area_of}
use Rattle.gnu_lsda.specs.Sites.{records_of}
use Rattle.gnu_lsda.specs.Chains.{actions_of}
use Rattle.gnu_lsda.specs.Faults.{fault_when, is_odd, is_pad_beyond, is_disordered, is_too_long, names_routine, fault_of}
use Rattle.gnu_lsda.specs.FirstFault.{fault_list, chain_shows, records_show, area_shows, shown_faults, IsFirst}
use Rattle.gnu_lsda.proofs.FirstFault.{law_of_first}
use Rattle.gnu_descriptors.specs.declared.scopes.GnuDescriptor.{GnuDescriptor}
use Rattle.gnu_descriptors.specs.Scopes.{gnu_descriptor, uncovered_part, pad_of, catch_descriptor, catches_of, is_cleaning, cleanup_of, landing_of, record_descriptors, end_after, item_descriptors, scopes_from, scopes_of}
use Rattle.gnu_verdict_laws.specs.Verdicts.{GnuVerdict, Passed, record_at}
use Rattle.gnu_descriptors.specs.Filters.{filters_at}
use Rattle.gnu_verdict_laws.specs.Read.{items_at, verdict_as}
use Rattle.gnu_verdict_laws.specs.Laws.{IsMet, VerdictsAreGnus, CleanupsAreGnus}
use Rattle.gnu_verdict_laws.proofs.Hearing.{said, IsScoped, AreScoped, IsHeard, same_verdict, all_same, pads_same}
use Rattle.gnu_verdict_laws.proofs.Filters.{filters_known}
use Rattle.gnu_verdict_laws.proofs.Along.{Rise, Means, along}

-- ---- nothing is shown

pub none_both : {A : Type 0} (xs ys : List A) → xs ++ ys ≡ [] → (xs ≡ []) × (ys ≡ [])
none_both [] ys h = (refl, h)
none_both (x ∷ xs) ys h = absurd cc

pub or_none : (a b : Bool) → (a || b) ≡ false → (a ≡ false) × (b ≡ false)
or_none true b h = absurd cc
or_none false b h = (refl, h)

pub not_told : (b : Bool) (fault : EntryFault) → fault_list (fault_when b fault) ≡ [] → b ≡ false
not_told true fault h = absurd cc
not_told false fault h = refl

ordered : (f : Form) (before : ℕ) (site : Record) → is_disordered f before site ≡ false → (before ≤ site.start) × (site.start + site.size ≤ f.size)
ordered f before site h =
    let a = or_none (nat_lt site.start before || nat_lt f.size (site.start + site.size) || is_odd site.start || is_odd site.size || is_odd site.pad) (is_pad_beyond f site) h in
    let b = or_none (nat_lt site.start before || nat_lt f.size (site.start + site.size) || is_odd site.start || is_odd site.size) (is_odd site.pad) a.0 in
    let c = or_none (nat_lt site.start before || nat_lt f.size (site.start + site.size) || is_odd site.start) (is_odd site.size) b.0 in
    let d = or_none (nat_lt site.start before || nat_lt f.size (site.start + site.size)) (is_odd site.start) c.0 in
    let e = or_none (nat_lt site.start before) (nat_lt f.size (site.start + site.size)) d.0 in
    (not_lt site.start before e.0, not_lt f.size (site.start + site.size) e.1)
  where
    not_lt : (x y : ℕ) → nat_lt x y ≡ false → y ≤ x
    not_lt x y h = grind (arith, nat_tests)

rises : (image : Image) (f : Form) (a : Area) (before : ℕ) (rs : List (Result Record RecordFault)) → records_show image f a before rs ≡ [] → Rise f.size before rs
rises image f a before [] h = tt
rises image f a before (Err Short ∷ more) h = absurd cc
rises image f a before (Ok site ∷ more) h =
    let first = none_both (fault_list (fault_when (is_disordered f before site) Order)) (chain_shows image a site.action ++ records_show image f a (site.start + site.size) more) h in
    let later = none_both (chain_shows image a site.action) (records_show image f a (site.start + site.size) more) first.1 in
    let order = ordered f before site (not_told (is_disordered f before site) Order first.0) in
    (order.0, order.1, rises image f a (site.start + site.size) more later.1)

named_shows : (image : Image) (f : Form) (b : Bool) (faults : List EntryFault) → cond b faults (Personality ∷ []) ≡ [] → faults ≡ []
named_shows image f true faults h = h
named_shows image f false faults h = absurd cc

pub accepted_shows : (image : Image) (f : Form) (a : Area) → fault_of image f ≡ None → area_of f ≡ Ok a
    → fault_list (fault_when (is_too_long (words_after f)) TooLong) ++ records_show image f a 0 (records_of a) ≡ []
accepted_shows image f a none area =
    let shown : shown_faults image f ≡ [] = subst (λ (o : Option EntryFault). IsFirst (shown_faults image f) o) none (law_of_first image f) in
    let of_area : area_shows image f (area_of f) ≡ [] = named_shows image f (names_routine f (personality_in image)) (area_shows image f (area_of f)) shown in
    ap (λ (r : Result Area HeadFault). area_shows image f r) (sym area) ∙ of_area

pub accepted_rises : (image : Image) (f : Form) (a : Area) → fault_of image f ≡ None → area_of f ≡ Ok a → Rise f.size 0 (records_of a)
accepted_rises image f a none area =
    rises image f a 0 (records_of a) (none_both (fault_list (fault_when (is_too_long (words_after f)) TooLong)) (records_show image f a 0 (records_of a)) (accepted_shows image f a none area)).1

-- ---- scopes lie in the range

are_both : (size : ℕ) (xs ys : List GnuDescriptor) → AreScoped size xs → AreScoped size ys → AreScoped size (xs ++ ys)
are_both size [] ys h k = k
are_both size (x ∷ xs) ys h k = (h.0, are_both size xs ys h.1 k)

gap_is : (size from to : ℕ) → to ≤ size → AreScoped size (uncovered_part from to)
gap_is size from to h = by_test (nat_lt from to) refl
  where
    by_test : (b : Bool) → nat_lt from to ≡ b → AreScoped size (cond b (gnu_descriptor from (to - from) own.Specification None ∷ []) [])
    by_test true e = let l : from < to = grind (arith, nat_tests) in (record { within = omega arith; told = refl }, tt)
    by_test false e = tt

caught_is : (size start : ℕ) (site : Record) (filter : ℕ) (takes : CatchFilter) → site.start + site.size ≤ size → IsScoped size (catch_descriptor start site filter takes)
caught_is size start site filter All h = record { within = h; told = tt }
caught_is size start site filter (OfType type) h = record { within = h; told = tt }

item_is : (size start : ℕ) (site : Record) (item : Result Action ActionFault) → site.start + site.size ≤ size → AreScoped size (catches_of start site item)
item_is size start site (Ok (Catch filter takes)) h = (caught_is size start site filter takes h, tt)
item_is size start site (Ok Cleanup) h = tt
item_is size start site (Ok NoTypes) h = tt
item_is size start site (Ok Specification) h = tt
item_is size start site (Err fault) h = tt

catches_are : (size start : ℕ) (site : Record) (items : List (Result Action ActionFault)) → site.start + site.size ≤ size → AreScoped size (flat_map (catches_of start site) items)
catches_are size start site [] h = tt
catches_are size start site (item ∷ more) h = are_both size (catches_of start site item) (flat_map (catches_of start site) more) (item_is size start site item h) (catches_are size start site more h)

told_are : (size start : ℕ) (a : Area) (site : Record) → site.start + site.size ≤ size → AreScoped size (record_descriptors start a site)
told_are size start a site h = by_pad (site.pad == 0)
  where
    by_cleanup : (b : Bool) → AreScoped size (cond b (cleanup_of start site) [])
    by_cleanup true = (record { within = h; told = refl }, tt)
    by_cleanup false = tt

    by_pad : (b : Bool) → AreScoped size (cond b [] (landing_of start a site))
    by_pad true = tt
    by_pad false =
        are_both size (flat_map (catches_of start site) (actions_of a site.action)) (cond (is_cleaning a site.action) (cleanup_of start site) [])
        (catches_are size start site (actions_of a site.action) h) (by_cleanup (is_cleaning a site.action))

scopes_are : (start size : ℕ) (a : Area) (at before : ℕ) (rs : List (Result Record RecordFault)) → Rise size before rs → AreScoped size (scopes_from start size a at rs)
scopes_are start size a at before [] r = gap_is size at size (omega arith)
scopes_are start size a at before (Err fault ∷ more) r = absurd r
scopes_are start size a at before (Ok site ∷ more) r =
    are_both size (item_descriptors start a at (Ok site)) (scopes_from start size a (end_after at (Ok site)) more) (by_size (site.size == 0))
    (scopes_are start size a (end_after at (Ok site)) (site.start + site.size) more r.2)
  where
    by_size : (b : Bool) → AreScoped size (cond b [] (uncovered_part at site.start ++ record_descriptors start a site))
    by_size true = tt
    by_size false = are_both size (uncovered_part at site.start) (record_descriptors start a site) (gap_is size at site.start (let e = r.1 in omega arith)) (told_are size start a site r.1)

-- ---- the laws

pub law_of_verdicts : VerdictsAreGnus
law_of_verdicts image f a place o m is =
    let scopes = scopes_of f a in
    let filters = filters_at place scopes in
    let rise = accepted_rises image f a is.accepted is.area in
    let heard : IsHeard filters m f.start f.size o = record { low = is.low; inside = is.inside; none_named = is.none_named } in
    let means = along m o f.start f.size a 0 0 (records_of a) (omega arith) rise (omega arith) is.inside in
    same_verdict filters (verdict_of m (f.start + o) (items_at f.start place scopes)) (first_some (said m o) scopes)
    (all_same filters m f.start f.size place o scopes heard (scopes_are f.start f.size a 0 0 (records_of a) rise) (filters_known place scopes))
    ∙ ap (λ (v : GnuVerdict). Some v) means.verdict

pub law_of_cleanups : CleanupsAreGnus
law_of_cleanups image f a place o m is =
    let scopes = scopes_of f a in
    let filters = filters_at place scopes in
    let rise = accepted_rises image f a is.accepted is.area in
    let heard : IsHeard filters m f.start f.size o = record { low = is.low; inside = is.inside; none_named = is.none_named } in
    let means = along m o f.start f.size a 0 0 (records_of a) (omega arith) rise (omega arith) is.inside in
    pads_same filters m f.start f.size place o scopes heard (scopes_are f.start f.size a 0 0 (records_of a) rise) (filters_known place scopes) ∙ means.pads
