-- Pointers as pointers, and types that are unlike.
use Rattle.std.proofs.Common.{◌≡◌, ◌≢◌, ◌⊎◌, ℕ, ◌/◌, ◌%◌, ◌==◌, List, [], ◌∷◌, length, refl, ◌∙◌, ap, sym, Bool, true, false, Option, Some, None, arith, ne_eqb, eqb-true, inl, inr}
use Rattle.std.specs.Prelude.{◌&&◌, ◌||◌, not, slice_index, if◌then◌else◌, Ok}
use Rattle.std.specs.Int.{bit_at}
use Rattle.std.proofs.Math.Nat.{div-one}
use Rattle.std.proofs.lemmas.Bool.{false≢true}
use Rattle.std.proofs.lemmas.Bool.Decides.{eqb_tells}
use Rattle.eh_bus.specs.Segment.{Segment}
use Rattle.eh_types.specs.declared.kind.TypeKind.{TypeKind}
use Rattle.eh_types.specs.declared.kind.TypeKind.TheVariants.{Other, Fundamental, Class, Si, Vmi, Pointer}
use Rattle.eh_types.specs.Graph.{Row, kind_of, name_of, same_type}
use Rattle.eh_match.specs.declared.rules.Match.{Match}
use Rattle.eh_match.specs.declared.rules.Match.TheVariants.{Failed, Object}
use Rattle.eh_match.specs.Address.{load_or_address}
use Rattle.eh_match.specs.Rules.{is_class, is_fundamental, is_class_type, is_void, is_function, object_at, pointer_at, base_at, is_dropped, loses_qualifier, adds_promise, pointee_match, pointer_match, pointer_of, match_of}
use Rattle.eh_match.proofs.Classes.{class_rule, neither}
use Rattle.eh_phase_laws.specs.Pointers.{Pointers, EqualPointeesMatch, IsVoid, Begins, VoidTakesObjects, VoidTakesNoFunctions, IsClass, OtherPointeesFail, UnlikeTypesFail}

-- ---- qualifiers

kept_by : (flags wanted : ℕ) → (flags ≡ 1 → wanted ≡ 1) → (flags == 1 && wanted == 0) ≡ false
kept_by flags wanted h = elim (eqb_tells flags 1) [
  | inl one ↦ ap (λ b. b && wanted == 0) one.0 ∙ ap (λ n. n == 0) (h one.1)
  | inr other ↦ ap (λ b. b && wanted == 0) other.0
]

const_at : (n : ℕ) → bit_at n 0 ≡ n % 2
const_at n = ap (λ m. m % 2) (div-one n)

kept : (flags wanted : ℕ) → (flags % 2 ≡ 1 → wanted % 2 ≡ 1) → (flags / 2 % 2 ≡ 1 → wanted / 2 % 2 ≡ 1) → loses_qualifier flags wanted ≡ false
kept flags wanted h k =
    neither (is_dropped 0 flags wanted) (is_dropped 1 flags wanted)
    (kept_by (bit_at flags 0) (bit_at wanted 0) (λ e. const_at wanted ∙ h (sym (const_at flags) ∙ e)))
    (kept_by (flags / 2 % 2) (wanted / 2 % 2) k)

none_added : (flags wanted : ℕ) → (wanted / 32 % 2 ≡ 1 → flags / 32 % 2 ≡ 1) → (wanted / 64 % 2 ≡ 1 → flags / 64 % 2 ≡ 1) → adds_promise flags wanted ≡ false
none_added flags wanted h k =
    neither (is_dropped 5 wanted flags) (is_dropped 6 wanted flags) (kept_by (wanted / 32 % 2) (flags / 32 % 2) h) (kept_by (wanted / 64 % 2) (flags / 64 % 2) k)

-- the flags of two pointers suit each other
suit : {g : List Row} {thrown wanted from to : ℕ} → (p : Pointers g thrown wanted from to) → (loses_qualifier p.flags p.wanted_flags || adds_promise p.flags p.wanted_flags) ≡ false
suit p =
    neither (loses_qualifier p.flags p.wanted_flags) (adds_promise p.flags p.wanted_flags)
    (kept p.flags p.wanted_flags p.const p.volatile) (none_added p.flags p.wanted_flags p.transaction_safe p.noexcept)

-- ---- pointers

by_pointees : (g : List Row) (segments : List Segment) (thrown object wanted from to : ℕ) → Pointers g thrown wanted from to
    → match_of g segments thrown object wanted ≡ pointee_match g segments from object to
unfolding match_of
by_pointees g segments thrown object wanted from to p =
    ap (λ b. class_rule b (same_type g thrown wanted) (is_class_type g thrown && is_class_type g wanted) (Object object) (object_at (base_at g segments thrown (Ok object) wanted)) (pointer_match g segments object (pointer_of (kind_of g thrown)) (pointer_of (kind_of g wanted))))
    (neither (thrown == 0) (wanted == 0) (ne_eqb thrown 0 p.thrown_given) (ne_eqb wanted 0 p.wanted_given))
    ∙ ap (λ b. class_rule false b (is_class_type g thrown && is_class_type g wanted) (Object object) (object_at (base_at g segments thrown (Ok object) wanted)) (pointer_match g segments object (pointer_of (kind_of g thrown)) (pointer_of (kind_of g wanted)))) p.unequal
    ∙ ap (λ k. if is_class k && is_class_type g wanted then object_at (base_at g segments thrown (Ok object) wanted) else pointer_match g segments object (pointer_of k) (pointer_of (kind_of g wanted))) p.thrown_pointer
    ∙ ap (λ k. pointer_match g segments object (Some (record { flags = p.flags; pointee = from })) (pointer_of k)) p.wanted_pointer
    ∙ ap (λ b. if b then Failed else pointee_match g segments from object to) (suit p)

-- what unequal pointees give
abbrev unequal_pointees : Bool → Bool → Bool → Match → Match → Match
unequal_pointees void function classes object base = if void then (if function then Failed else object) else (if classes then base else Failed)

by_equal : (g : List Row) (segments : List Segment) (object from to : ℕ) → same_type g from to ≡ true → pointee_match g segments from object to ≡ Object object
by_equal g segments object from to e =
    ap (λ b. if b then Object object else unequal_pointees (is_void g to) (is_function g from) (is_class_type g from && is_class_type g to) (Object object) (pointer_at (load_or_address segments object) (base_at g segments from (load_or_address segments object) to))) e

by_unequal : (g : List Row) (segments : List Segment) (object from to : ℕ) → same_type g from to ≡ false → pointee_match g segments from object to
    ≡ unequal_pointees (is_void g to) (is_function g from) (is_class_type g from && is_class_type g to) (Object object) (pointer_at (load_or_address segments object) (base_at g segments from (load_or_address segments object) to))
by_unequal g segments object from to e =
    ap (λ b. if b then Object object else unequal_pointees (is_void g to) (is_function g from) (is_class_type g from && is_class_type g to) (Object object) (pointer_at (load_or_address segments object) (base_at g segments from (load_or_address segments object) to))) e

pub equal_pointees_match : EqualPointeesMatch
equal_pointees_match g segments thrown object wanted from to p e = by_pointees g segments thrown object wanted from to p ∙ by_equal g segments object from to e

-- ---- void

void : (g : List Row) (type : ℕ) → IsVoid g type → is_void g type ≡ true
void g type v = rw (v.kind, v.name) refl

and_false : (b : Bool) → b && false ≡ false
and_false true = refl
and_false false = refl

no_function : (name : List ℕ) → ¬ (Begins 70 name) → (not (length name == 0) && slice_index name 0 == 70) ≡ false
no_function [] never = refl
no_function (first ∷ rest) never =
    ap (λ b. not (length (first ∷ rest) == 0) && b) (ne_eqb first 70 (λ e. never (record { rest = rest; is = ap (λ (x : ℕ). x ∷ rest) e })))
    ∙ and_false (not (length (first ∷ rest) == 0))

a_function : (name : List ℕ) → Begins 70 name → (not (length name == 0) && slice_index name 0 == 70) ≡ true
a_function name b =
    let l : (length (70 ∷ b.rest) == 0) ≡ false = ne_eqb (length (70 ∷ b.rest)) 0 (λ k. absurd (omega (arith, k))) in
    ap (λ n. not (length n == 0) && slice_index n 0 == 70) b.is ∙ ap (λ c. not c && 70 == 70) l

pub void_takes_objects : VoidTakesObjects
void_takes_objects g segments thrown object wanted from to p v never = by_pointees g segments thrown object wanted from to p ∙ go (same_type g from to) refl
  where
    go : (b : Bool) → same_type g from to ≡ b → pointee_match g segments from object to ≡ Object object
    go true e = by_equal g segments object from to e
    go false e =
        by_unequal g segments object from to e
        ∙ ap (λ b. unequal_pointees b (is_function g from) (is_class_type g from && is_class_type g to) (Object object) (pointer_at (load_or_address segments object) (base_at g segments from (load_or_address segments object) to))) (void g to v)
        ∙ ap (λ b. if b then Failed else Object object) (no_function (name_of g from) never)

pub void_takes_no_functions : VoidTakesNoFunctions
void_takes_no_functions g segments thrown object wanted from to p v is e =
    by_pointees g segments thrown object wanted from to p
    ∙ by_unequal g segments object from to e
    ∙ ap (λ b. unequal_pointees b (is_function g from) (is_class_type g from && is_class_type g to) (Object object) (pointer_at (load_or_address segments object) (base_at g segments from (load_or_address segments object) to))) (void g to v)
    ∙ ap (λ b. if b then Failed else Object object) (a_function (name_of g from) is)

-- ---- other pointees

class_from : (k : Option TypeKind) → is_class k ≡ true → IsClass k
class_from None e = absurd (false≢true e)
class_from (Some Other) e = absurd (false≢true e)
class_from (Some Fundamental) e = absurd (false≢true e)
class_from (Some Class) e = tt
class_from (Some (Si base)) e = tt
class_from (Some Vmi) e = tt
class_from (Some (Pointer flags pointee)) e = absurd (false≢true e)

no_class : (k : Option TypeKind) → ¬ (IsClass k) → is_class k ≡ false
no_class k never = go (is_class k) refl
  where
    go : (b : Bool) → is_class k ≡ b → b ≡ false
    go true e = absurd (never (class_from k e))
    go false e = refl

fundamental_from : (k : Option TypeKind) → is_fundamental k ≡ true → k ≡ Some Fundamental
fundamental_from None e = absurd (false≢true e)
fundamental_from (Some Other) e = absurd (false≢true e)
fundamental_from (Some Fundamental) e = refl
fundamental_from (Some Class) e = absurd (false≢true e)
fundamental_from (Some (Si base)) e = absurd (false≢true e)
fundamental_from (Some Vmi) e = absurd (false≢true e)
fundamental_from (Some (Pointer flags pointee)) e = absurd (false≢true e)

both : (a b : Bool) → a && b ≡ true → (a ≡ true) × (b ≡ true)
both true true e = (refl, refl)
both true false e = absurd (false≢true e)
both false b e = absurd (false≢true e)

void_name : (name : List ℕ) → (length name == 1 && slice_index name 0 == 118) ≡ true → name ≡ 118 ∷ []
void_name [] e = absurd (false≢true e)
void_name (first ∷ []) e = ap (λ (x : ℕ). x ∷ []) (eqb-true first 118 (both (length (first ∷ []) == 1) (first == 118) e).1)
void_name (first ∷ next ∷ rest) e =
    let one : length (first ∷ next ∷ rest) ≡ 1 = eqb-true (length (first ∷ next ∷ rest)) 1 (both (length (first ∷ next ∷ rest) == 1) (first == 118) e).0 in
    absurd (omega (arith, one))

no_void : (g : List Row) (type : ℕ) → ¬ (IsVoid g type) → is_void g type ≡ false
no_void g type never = go (is_void g type) refl
  where
    go : (b : Bool) → is_void g type ≡ b → b ≡ false
    go true e =
        let p = both (is_fundamental (kind_of g type)) (length (name_of g type) == 1 && slice_index (name_of g type) 0 == 118) e in
        absurd (never (record { kind = fundamental_from (kind_of g type) p.0; name = void_name (name_of g type) p.1 }))
    go false e = refl

not_both : (g : List Row) (from to : ℕ) → ¬ (IsClass (kind_of g from)) ⊎ ¬ (IsClass (kind_of g to)) → (is_class_type g from && is_class_type g to) ≡ false
not_both g from to (inl never) = ap (λ b. b && is_class_type g to) (no_class (kind_of g from) never)
not_both g from to (inr never) = ap (λ b. is_class_type g from && b) (no_class (kind_of g to) never) ∙ and_false (is_class_type g from)

pub other_pointees_fail : OtherPointeesFail
other_pointees_fail g segments thrown object wanted from to p e v c =
    by_pointees g segments thrown object wanted from to p
    ∙ by_unequal g segments object from to e
    ∙ ap (λ b. unequal_pointees b (is_function g from) (is_class_type g from && is_class_type g to) (Object object) (pointer_at (load_or_address segments object) (base_at g segments from (load_or_address segments object) to))) (no_void g to v)
    ∙ ap (λ b. if b then pointer_at (load_or_address segments object) (base_at g segments from (load_or_address segments object) to) else Failed) (not_both g from to c)

-- ---- unlike types

by_other : (zero same classes : Bool) (object base other : Match) → same ≡ false → classes ≡ false → other ≡ Failed → class_rule zero same classes object base other ≡ Failed
by_other true same classes object base other s c o = refl
by_other false same classes object base other s c o = ap (λ b. class_rule false b classes object base other) s ∙ ap (λ b. class_rule false false b object base other) c ∙ o

unlike : (g : List Row) (segments : List Segment) (thrown object wanted : ℕ) → same_type g thrown wanted ≡ false → (is_class_type g thrown && is_class_type g wanted) ≡ false
    → pointer_match g segments object (pointer_of (kind_of g thrown)) (pointer_of (kind_of g wanted)) ≡ Failed → match_of g segments thrown object wanted ≡ Failed
unfolding match_of
unlike g segments thrown object wanted s c o =
    by_other (thrown == 0 || wanted == 0) (same_type g thrown wanted) (is_class_type g thrown && is_class_type g wanted) (Object object) (object_at (base_at g segments thrown (Ok object) wanted)) (pointer_match g segments object (pointer_of (kind_of g thrown)) (pointer_of (kind_of g wanted))) s c o

none_wanted : (g : List Row) (segments : List Segment) (object : ℕ) (k : Option TypeKind) → pointer_match g segments object (pointer_of k) None ≡ Failed
none_wanted g segments object None = refl
none_wanted g segments object (Some Other) = refl
none_wanted g segments object (Some Fundamental) = refl
none_wanted g segments object (Some Class) = refl
none_wanted g segments object (Some (Si base)) = refl
none_wanted g segments object (Some Vmi) = refl
none_wanted g segments object (Some (Pointer flags pointee)) = refl

no_pointer : (k : Option TypeKind) → ((flags to : ℕ) → k ≢ Some (Pointer flags to)) → pointer_of k ≡ None
no_pointer None never = refl
no_pointer (Some Other) never = refl
no_pointer (Some Fundamental) never = refl
no_pointer (Some Class) never = refl
no_pointer (Some (Si base)) never = refl
no_pointer (Some Vmi) never = refl
no_pointer (Some (Pointer flags pointee)) never = absurd (never flags pointee refl)

class_no_pointer : (k : Option TypeKind) → IsClass k → pointer_of k ≡ None
class_no_pointer None c = refl
class_no_pointer (Some Other) c = refl
class_no_pointer (Some Fundamental) c = refl
class_no_pointer (Some Class) c = refl
class_no_pointer (Some (Si base)) c = refl
class_no_pointer (Some Vmi) c = refl
class_no_pointer (Some (Pointer flags pointee)) c = absurd c

pub unlike_types_fail : UnlikeTypesFail
unlike_types_fail g segments thrown object wanted s = record {
  no_pointer = λ p c. unlike g segments thrown object wanted s (not_both g thrown wanted (inl c))
      (ap (λ o. pointer_match g segments object o (pointer_of (kind_of g wanted))) (no_pointer (kind_of g thrown) p));
  none_wanted = λ p c. unlike g segments thrown object wanted s (not_both g thrown wanted (inr c))
      (ap (λ o. pointer_match g segments object (pointer_of (kind_of g thrown)) o) (no_pointer (kind_of g wanted) p) ∙ none_wanted g segments object (kind_of g thrown));
  class_as_pointer = λ t c. unlike g segments thrown object wanted s (not_both g thrown wanted (inr c))
      (ap (λ o. pointer_match g segments object o (pointer_of (kind_of g wanted))) (class_no_pointer (kind_of g thrown) t));
  pointer_as_class = λ c w. unlike g segments thrown object wanted s (not_both g thrown wanted (inl c))
      (ap (λ o. pointer_match g segments object (pointer_of (kind_of g thrown)) o) (class_no_pointer (kind_of g wanted) w) ∙ none_wanted g segments object (kind_of g thrown));
}
