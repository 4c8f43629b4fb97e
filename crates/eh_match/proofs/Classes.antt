-- Classes and their bases: the rules over the chains of base steps.
use Rattle.std.proofs.Common.{◌≡◌, ℕ, List, [], ◌∷◌, ◌++◌, refl, ◌∙◌, ap, sym, Bool, true, false, Some, None, Ok, ne_eqb}
use Rattle.std.specs.Prelude.{◌==◌, ◌&&◌, ◌||◌, filter, find, option_map, if◌then◌else◌}
use Rattle.eh_bus.specs.Segment.{Segment}
use Rattle.eh_types.specs.declared.kind.Base.{Base}
use Rattle.eh_types.specs.declared.graph.TheConstants.{MOST_PATHS}
use Rattle.eh_types.specs.Graph.{Row, kind_of, same_type, IsCounted}
use Rattle.eh_match.specs.declared.rules.Match.{Match}
use Rattle.eh_match.specs.declared.rules.Match.TheVariants.{Failed, Object}
use Rattle.eh_match.specs.Paths.{paths, end_of, is_public, root_of, offset_of}
use Rattle.eh_match.specs.Address.{address}
use Rattle.eh_match.specs.Subobjects.{same_subobject, same_root, sole, chosen}
use Rattle.eh_match.specs.Rules.{is_class_type, object_at, base_at, pointer_match, pointer_of, match_of}
use Rattle.eh_match.specs.Laws.{LeadsTo, AreClasses, NoPublicPathFails, PartedBasesFail, OneBaseIsCaught, OnePathIsCaught, OnePlainPathIsCaught, TwoPlainBasesFail, PlainAndVirtualBaseFail, VirtualBaseIsOne, EndsVirtual}
use Rattle.eh_match.proofs.Members.{Among, among_filter, among_filter_from, found, among_found, find-filter}
use Rattle.eh_match.proofs.Chains.{among_chain, chains_among}
use Rattle.eh_match.proofs.Equal.{same_type-sym, same_type-trans, same-refl, same_from, apart_offsets, apart_roots}
use Rattle.eh_match.proofs.Sole.{sole-not_public, sole-parted, sole-alike}
use Rattle.eh_match.proofs.Names.{plain_paths_are_named, virtual_paths_are_named}
use Rattle.eh_match.proofs.Addresses.{plain_steps_add}

-- ---- the paths that lead to a wanted type

abbrev ends : List Row → ℕ → ℕ → List Base → Bool
ends g ty wanted steps = same_type g (end_of ty steps) wanted

abbrev leading : List Row → ℕ → ℕ → List (List Base)
leading g ty wanted = filter (ends g ty wanted) (paths g MOST_PATHS ty)

among_leading : (g : List Row) (count : ℕ → ℕ) → IsCounted g count → (ty wanted : ℕ) (steps : List Base) → LeadsTo g ty wanted steps → Among (leading g ty wanted) steps
among_leading g count counted ty wanted steps l = among_filter (ends g ty wanted) (paths g MOST_PATHS ty) steps (chains_among g count counted ty steps l.chain) l.ends

leads : (g : List Row) (ty wanted : ℕ) (steps : List Base) → Among (paths g MOST_PATHS ty) steps → ends g ty wanted steps ≡ true → LeadsTo g ty wanted steps
leads g ty wanted steps a e = record { chain = among_chain g MOST_PATHS ty steps a; ends = e }

leading_leads : (g : List Row) (ty wanted : ℕ) (steps : List Base) → Among (leading g ty wanted) steps → LeadsTo g ty wanted steps
leading_leads g ty wanted steps a = let both = among_filter_from (ends g ty wanted) (paths g MOST_PATHS ty) steps a in leads g ty wanted steps both.0 both.1

-- ---- the match of two classes

abbrev pub class_rule : Bool → Bool → Bool → Match → Match → Match → Match
class_rule zero same classes object base other = if zero then Failed else (if same then object else (if classes then base else other))

pub by_rule : (zero same classes : Bool) (object base other : Match) → zero ≡ false → same ≡ false → classes ≡ true → class_rule zero same classes object base other ≡ base
by_rule zero same classes object base other z s c =
    ap (λ b. class_rule b same classes object base other) z ∙ ap (λ b. class_rule false b classes object base other) s ∙ ap (λ b. class_rule false false b object base other) c

pub neither : (a b : Bool) → a ≡ false → b ≡ false → a || b ≡ false
neither a b e f = ap (λ c. c || b) e ∙ f

both : (a b : Bool) → a ≡ true → b ≡ true → a && b ≡ true
both a b e f = ap (λ c. c && b) e ∙ f

pub match_of-classes : (g : List Row) (segments : List Segment) (thrown object wanted : ℕ) → AreClasses g thrown wanted
    → match_of g segments thrown object wanted ≡ object_at (option_map (address segments (Ok object)) (chosen g thrown wanted))
unfolding match_of
match_of-classes g segments thrown object wanted c =
    by_rule (thrown == 0 || wanted == 0) (same_type g thrown wanted) (is_class_type g thrown && is_class_type g wanted)
    (Object object) (object_at (base_at g segments thrown (Ok object) wanted)) (pointer_match g segments object (pointer_of (kind_of g thrown)) (pointer_of (kind_of g wanted)))
    (neither (thrown == 0) (wanted == 0) (ne_eqb thrown 0 c.thrown_given) (ne_eqb wanted 0 c.wanted_given)) c.unequal (both (is_class_type g thrown) (is_class_type g wanted) c.thrown_class c.wanted_class)

chosen-none : (g : List Row) (ty wanted : ℕ) → sole g (leading g ty wanted) ≡ None → chosen g ty wanted ≡ None
unfolding chosen
chosen-none g ty wanted e = e

fails : (g : List Row) (segments : List Segment) (thrown object wanted : ℕ) → AreClasses g thrown wanted → sole g (leading g thrown wanted) ≡ None → match_of g segments thrown object wanted ≡ Failed
fails g segments thrown object wanted c e = match_of-classes g segments thrown object wanted c ∙ ap (λ o. object_at (option_map (address segments (Ok object)) o)) (chosen-none g thrown wanted e)

pub no_public_path_fails : NoPublicPathFails
no_public_path_fails g count segments thrown object wanted counted c none =
    fails g segments thrown object wanted c (sole-not_public g (leading g thrown wanted) (λ p a. none p (leading_leads g thrown wanted p a)))

pub parted_bases_fail : PartedBasesFail
parted_bases_fail g count segments thrown object wanted one other counted c l k apart =
    fails g segments thrown object wanted c (sole-parted g (leading g thrown wanted) one other (among_leading g count counted thrown wanted one l) (among_leading g count counted thrown wanted other k) apart)

abbrev is_public_path : List Row → ℕ → ℕ → List Base → Bool
is_public_path g thrown wanted p = is_public p && same_type g (end_of thrown p) wanted

chosen-alike : (g : List Row) (thrown wanted : ℕ) (steps : List Base) → ((q : List Base) → LeadsTo g thrown wanted q → same_subobject g steps q ≡ true)
    → chosen g thrown wanted ≡ find (is_public_path g thrown wanted) (paths g MOST_PATHS thrown)
unfolding chosen
chosen-alike g thrown wanted steps alike =
    sole-alike g (leading g thrown wanted) steps (λ q a. alike q (leading_leads g thrown wanted q a)) ∙ find-filter is_public (ends g thrown wanted) (paths g MOST_PATHS thrown)

pub one_base_is_caught : OneBaseIsCaught
one_base_is_caught g count segments thrown object wanted steps counted c l public alike =
    let path = found (is_public_path g thrown wanted) (paths g MOST_PATHS thrown) steps (chains_among g count counted thrown steps l.chain) (both (is_public steps) (ends g thrown wanted steps) public l.ends) in
    (path.0, path.1, match_of-classes g segments thrown object wanted c ∙ ap (λ o. object_at (option_map (address segments (Ok object)) o)) (chosen-alike g thrown wanted steps alike ∙ path.1))

pub one_path_is_caught : OnePathIsCaught
one_path_is_caught g count segments thrown object wanted steps counted c l public only =
    let caught = one_base_is_caught g count segments thrown object wanted steps counted c l public (λ q k. ap (same_subobject g steps) (only q k) ∙ same-refl g steps) in
    let first = among_found (is_public_path g thrown wanted) (paths g MOST_PATHS thrown) caught.0 caught.1 in
    let same = only caught.0 (leads g thrown wanted caught.0 first.0 (second (is_public caught.0) (ends g thrown wanted caught.0) first.1)) in
    caught.2 ∙ ap (λ p. object_at (Some (address segments (Ok object) p))) same
  where
    second : (a b : Bool) → a && b ≡ true → b ≡ true
    second true b e = e
    second false b e = absurd (cc e)

pub one_plain_path_is_caught : OnePlainPathIsCaught
one_plain_path_is_caught g count segments thrown object wanted steps counted c l public only fits plain =
    one_path_is_caught g count segments thrown object wanted steps counted c l public only ∙ ap (λ a. object_at (Some a)) (plain_steps_add segments object steps fits plain)

-- ---- the diamond

pub two_plain_bases_fail : TwoPlainBasesFail
two_plain_bases_fail g count segments thrown object wanted one other counted c l k plain plain' apart =
    parted_bases_fail g count segments thrown object wanted one other counted c l k
    (apart_offsets g one other (λ e. apart (sym (plain_paths_are_named one plain).1 ∙ e ∙ (plain_paths_are_named other plain').1)))

pub plain_and_virtual_base_fail : PlainAndVirtualBaseFail
plain_and_virtual_base_fail g count segments thrown object wanted one before after step counted c l k plain virtual plain' =
    parted_bases_fail g count segments thrown object wanted one (before ++ step ∷ after) counted c l k
    (apart_roots g one (before ++ step ∷ after) (ap (λ r. same_root g r (root_of (before ++ step ∷ after))) (plain_paths_are_named one plain).0 ∙ ap (same_root g None) (virtual_paths_are_named before after step virtual plain').0))

-- the end of a path whose last step is virtual names its subobject
virtual_end : (before : List Base) (step : Base) (ty : ℕ) → end_of ty (before ++ step ∷ []) ≡ step.ty
virtual_end [] step ty = refl
virtual_end (b ∷ more) step ty = virtual_end more step b.ty

root_of_virtual : (ty : ℕ) (steps : List Base) → EndsVirtual steps → root_of steps ≡ Some (end_of ty steps)
root_of_virtual ty steps v =
    ap root_of v.parts ∙ (virtual_paths_are_named v.before [] v.step v.is_virtual refl).0 ∙ sym (ap (λ p. Some (end_of ty p)) v.parts ∙ ap (λ t. Some t) (virtual_end v.before v.step ty))

offset_of_virtual : (steps : List Base) → EndsVirtual steps → offset_of steps ≡ 0
offset_of_virtual steps v = ap offset_of v.parts ∙ (virtual_paths_are_named v.before [] v.step v.is_virtual refl).1

pub virtual_base_is_one : VirtualBaseIsOne
virtual_base_is_one g count segments thrown object wanted steps counted c l public virtual =
    one_base_is_caught g count segments thrown object wanted steps counted c l public (λ q k.
    same_from g steps q (offset_of_virtual steps (virtual steps l) ∙ sym (offset_of_virtual q (virtual q k)))
    (ap (λ r. same_root g r (root_of q)) (root_of_virtual thrown steps (virtual steps l)) ∙ ap (same_root g (Some (end_of thrown steps))) (root_of_virtual thrown q (virtual q k))
    ∙ same_type-trans g (end_of thrown steps) wanted (end_of thrown q) l.ends (same_type-sym g (end_of thrown q) wanted k.ends)))
