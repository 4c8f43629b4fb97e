-- Equal types, types that aren't held, and pointers.
use Rattle.std.proofs.Common.{◌≡◌, ℕ, zero, suc, ◌/◌, ◌%◌, List, [], ◌∷◌, length, refl, ◌∙◌, ap, sym, Bool, true, false, Option, Some, None, Result, Ok, Err, ne_eqb, inl, inr}
use Rattle.std.specs.Prelude.{◌==◌, ◌&&◌, ◌||◌, not, option_map, slice_index, if◌then◌else◌}
use Rattle.std.specs.Int.{bit_at}
use Rattle.std.proofs.Math.Nat.{div-one}
use Rattle.std.proofs.lemmas.Bool.Decides.{eqb_tells}
use Rattle.eh_bus.specs.Segment.{Segment}
use Rattle.eh_types.specs.declared.kind.Base.{Base}
use Rattle.eh_types.specs.declared.kind.TypeKind.{TypeKind}
use Rattle.eh_types.specs.declared.kind.TypeKind.TheVariants.{Other, Fundamental, Class, Si, Vmi, Pointer}
use Rattle.eh_types.specs.declared.graph.TheConstants.{LOCAL_MARK}
use Rattle.eh_types.specs.Graph.{Row, row_of, kind_of, name_of, name_in, same_type, same_name}
use Rattle.eh_match.specs.declared.rules.TheConstants.{VOID_NAME, CONST_BIT, VOLATILE_BIT, TRANSACTION_SAFE_BIT, NOEXCEPT_BIT}
use Rattle.eh_match.specs.declared.rules.Match.{Match}
use Rattle.eh_match.specs.declared.rules.Match.TheVariants.{Failed, Object, Unreadable}
use Rattle.eh_match.specs.declared.rules.Pointing.{Pointing}
use Rattle.eh_match.specs.Address.{load_or_address, or_address, address}
use Rattle.eh_match.specs.Subobjects.{chosen}
use Rattle.eh_match.specs.Rules.{is_class, is_fundamental, is_class_type, is_void, is_function, object_at, pointer_at, base_at, is_dropped, loses_qualifier, adds_promise, pointee_match, pointer_match, pointer_of, match_of}
use Rattle.eh_match.specs.Laws.{TypesMatchThemselves, ZeroMatchesNothing, UnheldTypesStandAlone, ArePointers, AreClasses, QualifiersAreKept, Suits, PromisesAreKept, PointersFollowTheirPointees, UnreadPointersAreNamed, pointer_result, unreadable_pointer_result}
use Rattle.eh_match.proofs.Equal.{same_type-refl}
use Rattle.eh_match.proofs.Classes.{class_rule, neither, match_of-classes}

-- ---- equal types

pub types_match_themselves : TypesMatchThemselves
unfolding match_of
types_match_themselves g segments ty object given =
    ap (λ b. if b then Failed else (if same_type g ty ty then Object object else other g segments ty object ty)) (neither (ty == 0) (ty == 0) (ne_eqb ty 0 given) (ne_eqb ty 0 given))
    ∙ ap (λ b. if b then Object object else other g segments ty object ty) (same_type-refl g ty)
  where
    other : List Row → List Segment → ℕ → ℕ → ℕ → Match
    other g segments thrown object wanted = if is_class_type g thrown && is_class_type g wanted then object_at (base_at g segments thrown (Ok object) wanted) else pointer_match g segments object (pointer_of (kind_of g thrown)) (pointer_of (kind_of g wanted))

or_true : (b : Bool) → b || true ≡ true
or_true true = refl
or_true false = refl

pub zero_matches_nothing : ZeroMatchesNothing
unfolding match_of
zero_matches_nothing g segments ty object = (
  refl,
  ap (λ b. class_rule b (same_type g ty 0) (is_class_type g ty && is_class_type g 0) (Object object) (object_at (base_at g segments ty (Ok object) 0)) (pointer_match g segments object (pointer_of (kind_of g ty)) (pointer_of (kind_of g 0)))) (or_true (ty == 0)),
)

-- ---- types that aren't held

both_false : (a b : Bool) → a && (b && false) ≡ false
both_false true true = refl
both_false true false = refl
both_false false b = refl

no_name : (m : List ℕ) → same_name m [] ≡ false
no_name [] = refl
no_name (b ∷ m) = both_false (not (length (b ∷ m) == 0)) (not (b == LOCAL_MARK))

unheld_rule : (zero same classes : Bool) (object base other : Match) → same ≡ false → classes ≡ false → other ≡ Failed → class_rule zero same classes object base other ≡ Failed
unheld_rule true same classes object base other s c o = refl
unheld_rule false same classes object base other s c o = ap (λ b. class_rule false b classes object base other) s ∙ ap (λ b. class_rule false false b object base other) c ∙ o

unheld_class : (g : List Row) (ty : ℕ) → row_of g ty ≡ None → is_class_type g ty ≡ false
unheld_class g ty e = ap (λ r. is_class (option_map (λ (row : Row). row.kind) r)) e

and_false : (b : Bool) → b && false ≡ false
and_false true = refl
and_false false = refl

no_pointer_wanted : (g : List Row) (segments : List Segment) (object : ℕ) (p : Option Pointing) → pointer_match g segments object p None ≡ Failed
no_pointer_wanted g segments object None = refl
no_pointer_wanted g segments object (Some p) = refl

pub unheld_types_stand_alone : UnheldTypesStandAlone
unfolding match_of same_type
unheld_types_stand_alone g segments ty other object e apart = (
  unheld_rule (ty == 0 || other == 0) (same_type g ty other) (is_class_type g ty && is_class_type g other) (Object object) (object_at (base_at g segments ty (Ok object) other)) (pointer_match g segments object (pointer_of (kind_of g ty)) (pointer_of (kind_of g other)))
      (neither (ty == other) (same_name (name_of g ty) (name_of g other)) (ne_eqb ty other apart) (ap (λ r. same_name (name_in r) (name_of g other)) e))
      (ap (λ b. b && is_class_type g other) (unheld_class g ty e))
      (ap (λ r. pointer_match g segments object (pointer_of (option_map (λ (row : Row). row.kind) r)) (pointer_of (kind_of g other))) e),
  unheld_rule (other == 0 || ty == 0) (same_type g other ty) (is_class_type g other && is_class_type g ty) (Object object) (object_at (base_at g segments other (Ok object) ty)) (pointer_match g segments object (pointer_of (kind_of g other)) (pointer_of (kind_of g ty)))
      (neither (other == ty) (same_name (name_of g other) (name_of g ty)) (ne_eqb other ty (λ q. apart (sym q))) (ap (λ r. same_name (name_of g other) (name_in r)) e ∙ no_name (name_of g other)))
      (ap (λ b. is_class_type g other && b) (unheld_class g ty e) ∙ and_false (is_class_type g other))
      (ap (λ r. pointer_match g segments object (pointer_of (kind_of g other)) (pointer_of (option_map (λ (row : Row). row.kind) r))) e ∙ no_pointer_wanted g segments object (pointer_of (kind_of g other))),
)

-- ---- pointers

-- two pointers that aren't equal
match_of-pointers : (g : List Row) (segments : List Segment) (thrown object wanted flags from wanted_flags to : ℕ) → ArePointers g thrown wanted flags from wanted_flags to
    → match_of g segments thrown object wanted ≡ (if loses_qualifier flags wanted_flags || adds_promise flags wanted_flags then Failed else pointee_match g segments from object to)
unfolding match_of
match_of-pointers g segments thrown object wanted flags from wanted_flags to p =
    ap (λ b. class_rule b (same_type g thrown wanted) (is_class_type g thrown && is_class_type g wanted) (Object object) (object_at (base_at g segments thrown (Ok object) wanted)) (pointer_match g segments object (pointer_of (kind_of g thrown)) (pointer_of (kind_of g wanted))))
    (neither (thrown == 0) (wanted == 0) (ne_eqb thrown 0 p.thrown_given) (ne_eqb wanted 0 p.wanted_given))
    ∙ ap (λ b. class_rule false b (is_class_type g thrown && is_class_type g wanted) (Object object) (object_at (base_at g segments thrown (Ok object) wanted)) (pointer_match g segments object (pointer_of (kind_of g thrown)) (pointer_of (kind_of g wanted)))) p.unequal
    ∙ ap (λ k. if is_class k && is_class_type g wanted then object_at (base_at g segments thrown (Ok object) wanted) else pointer_match g segments object (pointer_of k) (pointer_of (kind_of g wanted))) p.thrown_pointer
    ∙ ap (λ k. pointer_match g segments object (Some (record { flags = flags; pointee = from })) (pointer_of k)) p.wanted_pointer

const_at : (n : ℕ) → bit_at n CONST_BIT ≡ n % 2
const_at n = ap (λ m. m % 2) (div-one n)

lost : (flags wanted : ℕ) → flags ≡ 1 → wanted ≡ 0 → (flags == 1 && wanted == 0) ≡ true
lost flags wanted e f = ap (λ n. n == 1 && wanted == 0) e ∙ ap (λ n. n == 0) f

lost_first : (flags wanted : ℕ) → flags % 2 ≡ 1 → wanted % 2 ≡ 0 → loses_qualifier flags wanted ≡ true
lost_first flags wanted e f = ap (λ b. b || is_dropped VOLATILE_BIT flags wanted) (lost (bit_at flags CONST_BIT) (bit_at wanted CONST_BIT) (const_at flags ∙ e) (const_at wanted ∙ f))

lost_second : (flags wanted : ℕ) → flags / 2 % 2 ≡ 1 → wanted / 2 % 2 ≡ 0 → loses_qualifier flags wanted ≡ true
lost_second flags wanted e f = ap (λ b. is_dropped CONST_BIT flags wanted || b) (lost (flags / 2 % 2) (wanted / 2 % 2) e f) ∙ or_true (is_dropped CONST_BIT flags wanted)

pub qualifiers_are_kept : QualifiersAreKept
qualifiers_are_kept g segments thrown object wanted flags from wanted_flags to p =
    let by = match_of-pointers g segments thrown object wanted flags from wanted_flags to p in (
      λ e f. by ∙ ap (λ b. if b || adds_promise flags wanted_flags then Failed else pointee_match g segments from object to) (lost_first flags wanted_flags e f),
      λ e f. by ∙ ap (λ b. if b || adds_promise flags wanted_flags then Failed else pointee_match g segments from object to) (lost_second flags wanted_flags e f),
    )

-- a promise of the wanted flags that the thrown ones don't give: is_dropped of bit 5 or 6, the flags the other way round
added_first : (flags wanted : ℕ) → wanted / 32 % 2 ≡ 1 → flags / 32 % 2 ≡ 0 → adds_promise flags wanted ≡ true
added_first flags wanted e f = ap (λ b. b || is_dropped NOEXCEPT_BIT wanted flags) (lost (wanted / 32 % 2) (flags / 32 % 2) e f)

added_second : (flags wanted : ℕ) → wanted / 64 % 2 ≡ 1 → flags / 64 % 2 ≡ 0 → adds_promise flags wanted ≡ true
added_second flags wanted e f = ap (λ b. is_dropped TRANSACTION_SAFE_BIT wanted flags || b) (lost (wanted / 64 % 2) (flags / 64 % 2) e f) ∙ or_true (is_dropped TRANSACTION_SAFE_BIT wanted flags)

pub promises_are_kept : PromisesAreKept
promises_are_kept g segments thrown object wanted flags from wanted_flags to p =
    let by = match_of-pointers g segments thrown object wanted flags from wanted_flags to p in (
      λ e f. by ∙ ap (λ b. if b then Failed else pointee_match g segments from object to) (ap (λ b. loses_qualifier flags wanted_flags || b) (added_first flags wanted_flags e f) ∙ or_true (loses_qualifier flags wanted_flags)),
      λ e f. by ∙ ap (λ b. if b then Failed else pointee_match g segments from object to) (ap (λ b. loses_qualifier flags wanted_flags || b) (added_second flags wanted_flags e f) ∙ or_true (loses_qualifier flags wanted_flags)),
    )

kept_by : (flags wanted : ℕ) → (flags ≡ 1 → wanted ≡ 1) → (flags == 1 && wanted == 0) ≡ false
kept_by flags wanted h = elim (eqb_tells flags 1) [
  | inl one ↦ ap (λ b. b && wanted == 0) one.0 ∙ ap (λ n. n == 0) (h one.1)
  | inr other ↦ ap (λ b. b && wanted == 0) other.0
]

kept : (flags wanted : ℕ) → Suits flags wanted → (loses_qualifier flags wanted || adds_promise flags wanted) ≡ false
kept flags wanted h =
    neither (loses_qualifier flags wanted) (adds_promise flags wanted)
    (neither (is_dropped CONST_BIT flags wanted) (is_dropped VOLATILE_BIT flags wanted)
    (kept_by (bit_at flags CONST_BIT) (bit_at wanted CONST_BIT) (λ e. const_at wanted ∙ h.const (sym (const_at flags) ∙ e)))
    (kept_by (flags / 2 % 2) (wanted / 2 % 2) h.volatile))
    (neither (is_dropped TRANSACTION_SAFE_BIT wanted flags) (is_dropped NOEXCEPT_BIT wanted flags)
    (kept_by (wanted / 32 % 2) (flags / 32 % 2) h.transaction_safe)
    (kept_by (wanted / 64 % 2) (flags / 64 % 2) h.noexcept))

class_not_fundamental : (k : Option TypeKind) → is_class k ≡ true → is_fundamental k ≡ false
class_not_fundamental None e = refl
class_not_fundamental (Some Other) e = refl
class_not_fundamental (Some Fundamental) e = absurd (cc e)
class_not_fundamental (Some Class) e = refl
class_not_fundamental (Some (Si base)) e = refl
class_not_fundamental (Some Vmi) e = refl
class_not_fundamental (Some (Pointer flags pointee)) e = refl

class_pointees : (same void classes function : Bool) (object : ℕ) (base : Match) → same ≡ false → void ≡ false → classes ≡ true
    → (if same then Object object else (if void then (if function then Failed else Object object) else (if classes then base else Failed))) ≡ base
class_pointees same void classes function object base s v c =
    ap (λ b. if b then Object object else (if void then (if function then Failed else Object object) else (if classes then base else Failed))) s
    ∙ ap (λ b. if b then (if function then Failed else Object object) else (if classes then base else Failed)) v
    ∙ ap (λ b. if b then base else Failed) c

pointed_at : (p : ℕ) (o : Option (Result ℕ ℕ)) → pointer_at (Ok p) o ≡ pointer_result p (object_at o)
pointed_at p None = refl
pointed_at zero (Some (Ok a)) = refl
pointed_at zero (Some (Err refused)) = refl
pointed_at (suc p) (Some (Ok a)) = refl
pointed_at (suc p) (Some (Err refused)) = refl

-- two pointers to classes, whose qualifiers are kept
match_of-pointees : (g : List Row) (segments : List Segment) (thrown object wanted flags from wanted_flags to : ℕ) → ArePointers g thrown wanted flags from wanted_flags to
    → AreClasses g from to → Suits flags wanted_flags
    → match_of g segments thrown object wanted ≡ pointer_at (load_or_address segments object) (base_at g segments from (load_or_address segments object) to)
match_of-pointees g segments thrown object wanted flags from wanted_flags to pointers classes suits =
    match_of-pointers g segments thrown object wanted flags from wanted_flags to pointers
    ∙ ap (λ b. if b then Failed else pointee_match g segments from object to) (kept flags wanted_flags suits)
    ∙ class_pointees (same_type g from to) (is_void g to) (is_class_type g from && is_class_type g to) (is_function g from) object (pointer_at (load_or_address segments object) (base_at g segments from (load_or_address segments object) to))
    classes.unequal
    (ap (λ b. b && (length (name_of g to) == 1 && slice_index (name_of g to) 0 == VOID_NAME)) (class_not_fundamental (kind_of g to) classes.wanted_class))
    (ap (λ b. b && is_class_type g to) classes.thrown_class ∙ classes.wanted_class)

pub pointers_follow_their_pointees : PointersFollowTheirPointees
pointers_follow_their_pointees g segments thrown object wanted flags from wanted_flags to p pointers classes suits word =
    match_of-pointees g segments thrown object wanted flags from wanted_flags to pointers classes suits
    ∙ ap (λ w. pointer_at (or_address object w) (base_at g segments from (or_address object w) to)) word
    ∙ pointed_at p (base_at g segments from (Ok p) to)
    ∙ ap (pointer_result p) (sym (match_of-classes g segments from p to classes))

unread_at : (segments : List Segment) (object a : ℕ) (o : Option (List Base)) → pointer_at (Err object) (option_map (address segments (Err object)) o) ≡ unreadable_pointer_result object (object_at (option_map (address segments (Ok a)) o))
unread_at segments object a None = refl
unread_at segments object a (Some steps) = by (address segments (Ok a) steps)
  where
    by : (r : Result ℕ ℕ) → Unreadable object ≡ unreadable_pointer_result object (object_at (Some r))
    by (Ok b) = refl
    by (Err refused) = refl

pub unread_pointers_are_named : UnreadPointersAreNamed
unread_pointers_are_named g segments thrown object wanted flags from wanted_flags to a fault pointers classes suits word =
    match_of-pointees g segments thrown object wanted flags from wanted_flags to pointers classes suits
    ∙ ap (λ w. pointer_at (or_address object w) (base_at g segments from (or_address object w) to)) word
    ∙ unread_at segments object a (chosen g from to)
    ∙ ap (unreadable_pointer_result object) (sym (match_of-classes g segments from a to classes))
