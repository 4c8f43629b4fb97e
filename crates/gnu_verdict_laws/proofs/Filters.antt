-- Each catch is found by its own address.
use Rattle.std.proofs.Common.{◌≡◌, ℕ, ◌+◌, ◌*◌, ◌<◌, ◌≤◌, ◌==◌, Bool, true, false, cond, List, [], ◌∷◌, Option, Some, None, refl, sym, ap, ◌∙◌, arith}
use Rattle.std.proofs.lemmas.Bool.Decides.{nat_tests}
use Rattle.gnu_compact.specs.declared.descriptor.OwnKind.{OwnKind}
use Rattle.gnu_compact.specs.declared.descriptor.OwnKind.TheVariants.{Specification, Catch, Cleanup}
use Rattle.gnu_compact.specs.Descriptors.{kind_size}
use Rattle.gnu_descriptors.specs.declared.scopes.GnuDescriptor.{GnuDescriptor}
use Rattle.gnu_descriptors.specs.Filters.{with_filter, filters_at, filter_in}
use Rattle.gnu_verdict_laws.proofs.Hearing.{Knows}

kind_some : (k : OwnKind) → 0 < kind_size k
kind_some Specification = omega arith
kind_some (Catch pad takes) = omega arith
kind_some (Cleanup pad) = omega arith

isnt : (a b : ℕ) → a < b → (a == b) ≡ false
isnt a b h = grind (arith, nat_tests)

is_own : (a : ℕ) → (a == a) ≡ true
is_own a = grind (arith, nat_tests)

isnt_back : (a b : ℕ) → a < b → (b == a) ≡ false
isnt_back a b h = grind (arith, nat_tests)

-- one filter more at a lower place
skipped : (place desc : ℕ) (f : Option ℕ) (more : List (ℕ × ℕ)) → (place == desc) ≡ false → filter_in (with_filter place f more) desc ≡ filter_in more desc
skipped place desc None more h = refl
skipped place desc (Some filter) more h = rw h refl

-- below the first place there is none
none_below : (desc place : ℕ) (scopes : List GnuDescriptor) → desc < place → filter_in (filters_at place scopes) desc ≡ None
none_below desc place [] h = refl
none_below desc place (s ∷ more) h =
    skipped place desc s.filter (filters_at (place + kind_size s.descriptor.kind) more) (isnt_back desc place h)
    ∙ none_below desc (place + kind_size s.descriptor.kind) more (omega (arith, h, kind_some s.descriptor.kind))

found_first : (place : ℕ) (f : Option ℕ) (more : List (ℕ × ℕ)) → filter_in more place ≡ None → filter_in (with_filter place f more) place ≡ f
found_first place None more h = h
found_first place (Some filter) more h = rw (is_own place) refl

known_more : (place next : ℕ) (f : Option ℕ) (more : List (ℕ × ℕ)) (scopes : List GnuDescriptor) → place < next → Knows more next scopes → Knows (with_filter place f more) next scopes
known_more place next f more [] h k = tt
known_more place next f more (s ∷ rest) h k =
    (skipped place next f more (isnt place next h) ∙ k.0, known_more place (next + kind_size s.descriptor.kind) f more rest (omega (arith, h, kind_some s.descriptor.kind)) k.1)

pub filters_known : (place : ℕ) (scopes : List GnuDescriptor) → Knows (filters_at place scopes) place scopes
filters_known place [] = tt
filters_known place (s ∷ more) =
    let next = place + kind_size s.descriptor.kind in
    let above : place < next = omega (arith, kind_some s.descriptor.kind) in
    (found_first place s.filter (filters_at next more) (none_below place next more above), known_more place next s.filter (filters_at next more) more above (filters_known next more))
