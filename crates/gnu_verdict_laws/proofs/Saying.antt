-- What the scopes of one record, and of a part that none covers, say at an offset.
use Rattle.std.proofs.Common.{◌≡◌, ◌≢◌, ℕ, ◌+◌, ◌-◌, ◌%◌, ◌^◌, ◌<◌, ◌≤◌, ◌==◌, ◌&&◌, ◌||◌, Bool, true, false, cond, nat_le, nat_lt, List, [], ◌∷◌, ◌++◌, flat_map, Option, Some, None, refl, sym, ap, ◌∙◌, arith}
use Rattle.std.specs.Prelude.{is_some, unwrap_or, Result, Ok, Err}
use Rattle.std.specs.List.{filter_map, before_first, list_any}
use Rattle.std.proofs.lemmas.Bool.Decides.{nat_tests}
use Rattle.eh_match.specs.declared.rules.Match.{Match}
use Rattle.eh_match.specs.declared.rules.Match.TheVariants.{Failed, Object, PointerToBase, Unreadable}
use Rattle.eh_phase.specs.Firsts.{or_else, first_some}
use Rattle.eh_phase.specs.Verdict.{Meeting}
use Rattle.gnu_compact.specs.declared.descriptor.OwnKind.TheVariants as own
use Rattle.gnu_lsda.specs.declared.actions.CatchFilter.{CatchFilter}
use Rattle.gnu_lsda.specs.declared.actions.CatchFilter.TheVariants.{All, OfType}
use Rattle.gnu_lsda.specs.declared.actions.Action.{Action}
use Rattle.gnu_lsda.specs.declared.actions.Action.TheVariants.{Cleanup, Catch, NoTypes, Specification}
use Rattle.gnu_lsda.specs.declared.actions.ActionFault.{ActionFault}
use Rattle.gnu_lsda.specs.declared.records.Record.{Record}
use Rattle.gnu_lsda.specs.Heads.{Area}
use Rattle.gnu_lsda.specs.Chains.{actions_of}
use Rattle.gnu_descriptors.specs.declared.scopes.GnuDescriptor.{GnuDescriptor}
use Rattle.gnu_descriptors.specs.Scopes.{gnu_descriptor, uncovered_part, takes_of, pad_of, catch_descriptor, catches_of, is_cleaning, cleanup_of, landing_of, record_descriptors}
use Rattle.gnu_verdict_laws.specs.Verdicts.{GnuVerdict, Violated, Passed, CaughtBy, CantRead, by_match, is_record_at, takes_says, item_says, chain_hit}
use Rattle.gnu_verdict_laws.proofs.Hearing.{covers_own, catch_says, kind_says, said, own_pad, own_pads, with_pad, pad_step}

-- ---- lists one after the other

pub first_both : {A B : Type 0} (f : A → Option B) (xs ys : List A) → first_some f (xs ++ ys) ≡ or_else (first_some f xs) (first_some f ys)
unfolding first_some
first_both f [] ys = refl
first_both f (x ∷ xs) ys = ap (or_else (f x)) (first_both f xs ys) ∙ or_three (f x) (first_some f xs) (first_some f ys)
  where
    or_three : {B : Type 0} (a b c : Option B) → or_else a (or_else b c) ≡ or_else (or_else a b) c
    or_three None b c = refl
    or_three (Some v) b c = refl

-- what the scopes of a list say first, and the cleanups in front of that
pub record Says (m : Meeting) (o : ℕ) (scopes : List GnuDescriptor) (g : Option GnuVerdict) (cleanups : List ℕ) : Type 0 where
  pub first : first_some (said m o) scopes ≡ g
  pub pads : own_pads m o scopes ≡ cleanups

-- pads go on where nothing is said
abbrev pub pads_after : Option GnuVerdict → List ℕ → List ℕ → List ℕ
pads_after None pads more = pads ++ more
pads_after (Some g) pads more = pads

combine : (o : Option GnuVerdict) (q : Option ℕ) (g : Option GnuVerdict) (a b : List ℕ)
    → cond (is_some o) [] (with_pad q (pads_after g a b)) ≡ pads_after (or_else o g) (cond (is_some o) [] (with_pad q a)) b
combine (Some v) q g a b = refl
combine None None g a b = refl
combine None (Some pad) None a b = refl
combine None (Some pad) (Some v) a b = refl

before_both : {X : Type 0} (p : X → Option GnuVerdict) (f : X → Option ℕ) (xs ys : List X)
    → filter_map f (before_first (λ x. is_some (p x)) (xs ++ ys))
    ≡ pads_after (first_some p xs) (filter_map f (before_first (λ x. is_some (p x)) xs)) (filter_map f (before_first (λ x. is_some (p x)) ys))
unfolding first_some
before_both p f [] ys = refl
before_both p f (x ∷ xs) ys =
    let own = filter_map f (before_first (λ x. is_some (p x)) xs) in
    let others = filter_map f (before_first (λ x. is_some (p x)) ys) in
    pad_step f (λ x. is_some (p x)) x (xs ++ ys)
    ∙ ap (λ l. cond (is_some (p x)) [] (with_pad (f x) l)) (before_both p f xs ys)
    ∙ combine (p x) (f x) (first_some p xs) own others
    ∙ ap (λ l. pads_after (or_else (p x) (first_some p xs)) l others) (sym (pad_step f (λ x. is_some (p x)) x xs))

pub says_both : (m : Meeting) (o : ℕ) (xs ys : List GnuDescriptor) (g h : Option GnuVerdict) (ps qs : List ℕ) → Says m o xs g ps → Says m o ys h qs
    → Says m o (xs ++ ys) (or_else g h) (pads_after g ps qs)
says_both m o xs ys g h ps qs s t = record {
  first = first_both (said m o) xs ys ∙ ap (λ v. or_else v (first_some (said m o) ys)) s.first ∙ ap (or_else g) t.first;
  pads = before_both (said m o) (own_pad o) xs ys ∙ ap (λ v. pads_after v (own_pads m o xs) (own_pads m o ys)) s.first
      ∙ ap (λ l. pads_after g l (own_pads m o ys)) s.pads ∙ ap (pads_after g ps) t.pads;
}

pub says_none : (m : Meeting) (o : ℕ) → Says m o [] None []
unfolding first_some
says_none m o = record { first = refl; pads = refl }

-- ---- single scopes

or_none : {A : Type 0} (v : Option A) → or_else v None ≡ v
or_none None = refl
or_none (Some x) = refl

says_one : (m : Meeting) (o : ℕ) (s : GnuDescriptor) (g : Option GnuVerdict) (pads : List ℕ) → said m o s ≡ g → cond (is_some (said m o s)) [] (with_pad (own_pad o s) []) ≡ pads → Says m o (s ∷ []) g pads
unfolding first_some
says_one m o s g pads e f = record { first = or_none (said m o s) ∙ e; pads = pad_step (own_pad o) (λ t. is_some (said m o t)) s [] ∙ f }

no_pad : (b : Bool) (v : Option GnuVerdict) → cond (is_some v) [] (with_pad (cond b None None) []) ≡ []
no_pad true None = refl
no_pad false None = refl
no_pad b (Some v) = refl

le_is : (a b : ℕ) → a ≤ b → nat_le a b ≡ true
le_is a b h = grind (arith, nat_tests)

lt_is : (a b : ℕ) → a < b → nat_lt a b ≡ true
lt_is a b h = grind (arith, nat_tests)

le_isnt : (a b : ℕ) → b < a → nat_le a b ≡ false
le_isnt a b h = grind (arith, nat_tests)

lt_isnt : (a b : ℕ) → b ≤ a → nat_lt a b ≡ false
lt_isnt a b h = grind (arith, nat_tests)

and_false : (b : Bool) → (b && false) ≡ false
and_false true = refl
and_false false = refl

-- ---- a part that no record covers

gap_there : (m : Meeting) (o from to : ℕ) (g : Option GnuVerdict) → nat_lt from to ≡ true → cond (nat_le from o && nat_lt o to) (Some Violated) None ≡ g → Says m o (uncovered_part from to) g []
gap_there m o from to g some e =
    let whole : from + (to - from) ≡ to = let l = lt_back from to some in omega arith in
    let s = gnu_descriptor from (to - from) own.Specification None in
    let is : said m o s ≡ g = ap (λ n. cond (nat_le from o && nat_lt o n) (Some Violated) None) whole ∙ e in
    let one : Says m o (s ∷ []) g [] = says_one m o s g [] is (no_pad (covers_own o s.descriptor) (said m o s)) in
    rw some one
  where
    lt_back : (a b : ℕ) → nat_lt a b ≡ true → a < b
    lt_back a b h = grind (arith, nat_tests)

pub gap_in : (m : Meeting) (o from to : ℕ) → from ≤ o → o < to → Says m o (uncovered_part from to) (Some Violated) []
gap_in m o from to h k =
    gap_there m o from to (Some Violated) (lt_is from to (omega arith)) (rw (le_is from o h, lt_is o to k) refl)

pub gap_below : (m : Meeting) (o from to : ℕ) → o < from → Says m o (uncovered_part from to) None []
gap_below m o from to h = by_test (nat_lt from to) refl
  where
    by_test : (b : Bool) → nat_lt from to ≡ b → Says m o (uncovered_part from to) None []
    by_test true e = gap_there m o from to None e (rw (le_isnt from o h) refl)
    by_test false e = rw e (says_none m o)

pub gap_above : (m : Meeting) (o from to : ℕ) → to ≤ o → Says m o (uncovered_part from to) None []
gap_above m o from to h = by_test (nat_lt from to) refl
  where
    by_test : (b : Bool) → nat_lt from to ≡ b → Says m o (uncovered_part from to) None []
    by_test true e = gap_there m o from to None e (rw (lt_isnt o to h, and_false (nat_le from o)) refl)
    by_test false e = rw e (says_none m o)

-- ---- a record

takes_same : (m : Meeting) (filter : ℕ) (takes : CatchFilter) → catch_says m (takes_of takes) (Some filter) ≡ takes_says m filter takes
takes_same m filter All = refl
takes_same m filter (OfType type) = refl

none_either : {A : Type 0} (b : Bool) → ◌≡◌ {A = Option A} (cond b None None) None
none_either true = refl
none_either false = refl

catch_says_so : (m : Meeting) (o start : ℕ) (site : Record) (filter : ℕ) (takes : CatchFilter)
    → Says m o (catch_descriptor start site filter takes ∷ []) (cond (is_record_at o site) (takes_says m (filter % 2 ^ 32) takes) None) []
catch_says_so m o start site filter takes =
    let s = catch_descriptor start site filter takes in
    says_one m o s _ [] (ap (λ g. cond (is_record_at o site) g None) (takes_same m (filter % 2 ^ 32) takes)) (no_pad (is_record_at o site) (said m o s))

nothing_said : (m : Meeting) (o : ℕ) (b : Bool) → Says m o [] (cond b None None) []
nothing_said m o true = says_none m o
nothing_said m o false = says_none m o

item_says_so : (m : Meeting) (o start : ℕ) (site : Record) (item : Result Action ActionFault) → Says m o (catches_of start site item) (cond (is_record_at o site) (item_says m item) None) []
item_says_so m o start site (Ok (Catch filter takes)) = catch_says_so m o start site filter takes
item_says_so m o start site (Ok Cleanup) = nothing_said m o (is_record_at o site)
item_says_so m o start site (Ok NoTypes) = nothing_said m o (is_record_at o site)
item_says_so m o start site (Ok Specification) = nothing_said m o (is_record_at o site)
item_says_so m o start site (Err fault) = nothing_said m o (is_record_at o site)

or_both : (b : Bool) (g h : Option GnuVerdict) → or_else (cond b g None) (cond b h None) ≡ cond b (or_else g h) None
or_both true g h = refl
or_both false g h = refl

no_pads : (g : Option GnuVerdict) → pads_after g [] [] ≡ []
no_pads None = refl
no_pads (Some v) = refl

as_said : (m : Meeting) (o : ℕ) (scopes : List GnuDescriptor) (g h : Option GnuVerdict) (ps qs : List ℕ) → g ≡ h → ps ≡ qs → Says m o scopes g ps → Says m o scopes h qs
as_said m o scopes g h ps qs e f s = record { first = s.first ∙ e; pads = s.pads ∙ f }

catches_say : (m : Meeting) (o start : ℕ) (site : Record) (items : List (Result Action ActionFault))
    → Says m o (flat_map (catches_of start site) items) (cond (is_record_at o site) (first_some (item_says m) items) None) []
unfolding first_some
catches_say m o start site [] = nothing_said m o (is_record_at o site)
catches_say m o start site (item ∷ more) =
    let b = is_record_at o site in
    let g = cond b (item_says m item) None in
    let h = cond b (first_some (item_says m) more) None in
    as_said m o (catches_of start site item ++ flat_map (catches_of start site) more) (or_else g h) (cond b (or_else (item_says m item) (first_some (item_says m) more)) None) (pads_after g [] []) []
    (or_both b (item_says m item) (first_some (item_says m) more)) (no_pads g)
    (says_both m o (catches_of start site item) (flat_map (catches_of start site) more) g h [] [] (item_says_so m o start site item) (catches_say m o start site more))

cleanup_says : (m : Meeting) (o start : ℕ) (site : Record) (c : Bool) → Says m o (cond c (cleanup_of start site) []) None (cond (is_record_at o site) (cond c (pad_of start site ∷ []) []) [])
cleanup_says m o start site false = as_said m o [] None None [] (cond (is_record_at o site) [] []) refl (either (is_record_at o site)) (says_none m o)
  where
    either : (b : Bool) → ◌≡◌ {A = List ℕ} [] (cond b [] [])
    either true = refl
    either false = refl
cleanup_says m o start site true =
    let s = gnu_descriptor site.start site.size (own.Cleanup (pad_of start site)) None in
    says_one m o s None _ (none_either (is_record_at o site)) (by_test (is_record_at o site))
  where
    by_test : (b : Bool) → cond (is_some (cond b None (let n : Option GnuVerdict = None in n))) [] (with_pad (cond b (Some (pad_of start site)) None) []) ≡ cond b (pad_of start site ∷ []) []
    by_test true = refl
    by_test false = refl

landing_says : (m : Meeting) (o start : ℕ) (a : Area) (site : Record)
    → Says m o (landing_of start a site) (or_else (cond (is_record_at o site) (chain_hit m a site.action) None) None)
    (pads_after (cond (is_record_at o site) (chain_hit m a site.action) None) [] (cond (is_record_at o site) (cond (is_cleaning a site.action) (pad_of start site ∷ []) []) []))
landing_says m o start a site =
    says_both m o _ _ _ _ _ _ (catches_say m o start site (actions_of a site.action)) (cleanup_says m o start site (is_cleaning a site.action))

-- the record doesn't cover the offset
pub told_out : (m : Meeting) (o start : ℕ) (a : Area) (site : Record) → is_record_at o site ≡ false → Says m o (record_descriptors start a site) None []
told_out m o start a site e = by_pad (site.pad == 0)
  where
    landing : Says m o (landing_of start a site) None []
    landing =
        as_said m o (landing_of start a site) _ None _ []
        (ap (λ b. or_else (cond b (chain_hit m a site.action) None) None) e)
        (ap (λ b. pads_after (cond b (chain_hit m a site.action) None) [] (cond b (cond (is_cleaning a site.action) (pad_of start site ∷ []) []) [])) e)
        (landing_says m o start a site)

    by_pad : (b : Bool) → Says m o (cond b [] (landing_of start a site)) None []
    by_pad true = says_none m o
    by_pad false = landing

-- it has no landing pad
pub told_passed : (m : Meeting) (o start : ℕ) (a : Area) (site : Record) → (site.pad == 0) ≡ true → Says m o (record_descriptors start a site) None []
told_passed m o start a site e = rw e (says_none m o)

abbrev pub landing_pads : Option GnuVerdict → Bool → ℕ → List ℕ
landing_pads hit c pad = pads_after hit [] (cond c (pad ∷ []) [])

-- it covers the offset and has one
pub told_in : (m : Meeting) (o start : ℕ) (a : Area) (site : Record) → is_record_at o site ≡ true → (site.pad == 0) ≡ false
    → Says m o (record_descriptors start a site) (chain_hit m a site.action) (landing_pads (chain_hit m a site.action) (is_cleaning a site.action) (pad_of start site))
told_in m o start a site e f =
    let there : Says m o (landing_of start a site) (chain_hit m a site.action) (landing_pads (chain_hit m a site.action) (is_cleaning a site.action) (pad_of start site)) =
    as_said m o (landing_of start a site) _ (chain_hit m a site.action) _ (landing_pads (chain_hit m a site.action) (is_cleaning a site.action) (pad_of start site))
    (ap (λ b. or_else (cond b (chain_hit m a site.action) None) None) e ∙ or_none (chain_hit m a site.action))
    (ap (λ b. pads_after (cond b (chain_hit m a site.action) None) [] (cond b (cond (is_cleaning a site.action) (pad_of start site ∷ []) []) [])) e)
    (landing_says m o start a site) in
    rw f there
