-- When a pointer is caught as another pointer (Itanium C++ ABI, "Exception handling"; docs/rules/types-and-matching.md): laws above the match of two
-- types.
use Rattle.std.specs.Prelude.{◌≡◌, ◌≢◌, ◌⊎◌, ℕ, ◌/◌, ◌%◌, true, false, List, [], ◌∷◌, Option, Some, None}
use Rattle.eh_bus.specs.Segment.{Segment}
use Rattle.eh_types.specs.declared.kind.TypeKind.{TypeKind}
use Rattle.eh_types.specs.declared.kind.TypeKind.TheVariants.{Other, Fundamental, Class, Si, Vmi, Pointer}
use Rattle.eh_types.specs.Graph.{Row, kind_of, name_of, same_type}
use Rattle.eh_match.specs.declared.rules.Match.TheVariants.{Failed, Object}
use Rattle.eh_match.specs.Rules.{match_of}

-- Two unequal pointer types. The wanted one keeps const (bit 0 of the flags) and volatile (bit 1). It doesn't add that a function is
-- transaction-safe (bit 5) or noexcept (bit 6).
pub record Pointers (g : List Row) (thrown wanted from to : ℕ) : Type 0 where
  pub flags : ℕ
  pub wanted_flags : ℕ
  pub thrown_given : thrown ≢ 0
  pub wanted_given : wanted ≢ 0
  pub thrown_pointer : kind_of g thrown ≡ Some (Pointer flags from)
  pub wanted_pointer : kind_of g wanted ≡ Some (Pointer wanted_flags to)
  pub unequal : same_type g thrown wanted ≡ false
  pub const : flags % 2 ≡ 1 → wanted_flags % 2 ≡ 1
  pub volatile : flags / 2 % 2 ≡ 1 → wanted_flags / 2 % 2 ≡ 1
  pub transaction_safe : wanted_flags / 32 % 2 ≡ 1 → flags / 32 % 2 ≡ 1
  pub noexcept : wanted_flags / 64 % 2 ≡ 1 → flags / 64 % 2 ≡ 1

-- a pointer is caught as one to an equal type: the handler is given the pointer itself
abbrev pub EqualPointeesMatch : Type 0
EqualPointeesMatch =
    (g : List Row) (segments : List Segment) (thrown object wanted from to : ℕ) → Pointers g thrown wanted from to
    → same_type g from to ≡ true → match_of g segments thrown object wanted ≡ Object object

-- the built-in type of the name `v`
pub record IsVoid (g : List Row) (type : ℕ) : Type 0 where
  pub kind : kind_of g type ≡ Some Fundamental
  pub name : name_of g type ≡ 118 ∷ []

-- a name that begins with this byte
pub record Begins (byte : ℕ) (name : List ℕ) : Type 0 where
  pub rest : List ℕ
  pub is : name ≡ byte ∷ rest

-- every pointer except one to a function, whose name begins with `F`, is caught as a pointer to void: the handler is given the pointer
-- itself
abbrev pub VoidTakesObjects : Type 0
VoidTakesObjects =
    (g : List Row) (segments : List Segment) (thrown object wanted from to : ℕ) → Pointers g thrown wanted from to
    → IsVoid g to → ¬ (Begins 70 (name_of g from)) → match_of g segments thrown object wanted ≡ Object object

abbrev pub VoidTakesNoFunctions : Type 0
VoidTakesNoFunctions =
    (g : List Row) (segments : List Segment) (thrown object wanted from to : ℕ) → Pointers g thrown wanted from to
    → IsVoid g to → Begins 70 (name_of g from) → same_type g from to ≡ false → match_of g segments thrown object wanted ≡ Failed

-- a class, by its kind
abbrev pub IsClass : Option TypeKind → Type 0
IsClass (Some Class) = Unit {0}
IsClass (Some (Si base)) = Unit {0}
IsClass (Some Vmi) = Unit {0}
IsClass (Some Other) = ⊥
IsClass (Some Fundamental) = ⊥
IsClass (Some (Pointer flags pointee)) = ⊥
IsClass None = ⊥

-- pointers to unequal types don't match, if the wanted one isn't to void and one of them isn't to a class
abbrev pub OtherPointeesFail : Type 0
OtherPointeesFail =
    (g : List Row) (segments : List Segment) (thrown object wanted from to : ℕ) → Pointers g thrown wanted from to
    → same_type g from to ≡ false → ¬ (IsVoid g to) → ¬ (IsClass (kind_of g from)) ⊎ ¬ (IsClass (kind_of g to)) → match_of g segments thrown object wanted ≡ Failed

-- unequal types don't match if one is neither a class nor a pointer, nor do a class and a pointer
pub record Unlike (g : List Row) (segments : List Segment) (thrown object wanted : ℕ) : Type 0 where
  pub no_pointer : ((flags from : ℕ) → kind_of g thrown ≢ Some (Pointer flags from)) → ¬ (IsClass (kind_of g thrown)) → match_of g segments thrown object wanted ≡ Failed
  pub none_wanted : ((flags to : ℕ) → kind_of g wanted ≢ Some (Pointer flags to)) → ¬ (IsClass (kind_of g wanted)) → match_of g segments thrown object wanted ≡ Failed
  pub class_as_pointer : IsClass (kind_of g thrown) → ¬ (IsClass (kind_of g wanted)) → match_of g segments thrown object wanted ≡ Failed
  pub pointer_as_class : ¬ (IsClass (kind_of g thrown)) → IsClass (kind_of g wanted) → match_of g segments thrown object wanted ≡ Failed

abbrev pub UnlikeTypesFail : Type 0
UnlikeTypesFail = (g : List Row) (segments : List Segment) (thrown object wanted : ℕ) → same_type g thrown wanted ≡ false → Unlike g segments thrown object wanted
