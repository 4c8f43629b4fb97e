-- What `.type` and `.global` say of an object's symbols (docs/rules/sources.md, "Symbols"): the type STT_FUNC or STT_OBJECT and the binding
-- STB_GLOBAL or STB_LOCAL of "Executable and Linking Format".
use Rattle.std.specs.Prelude.{◌≡◌, ℕ, Bool, true, false, List, ◌∷◌, ◌++◌, All, Ok}
use Rattle.std.specs.List.{list_any}
use Rattle.eh_word.specs.Names.{same_bytes}
use Rattle.asm_statements.specs.declared.statement.Stmt.{Stmt}
use Rattle.asm_statements.specs.declared.statement.StmtKind.{StmtKind}
use Rattle.asm_statements.specs.declared.statement.StmtKind.TheVariants as statement
use Rattle.asm_relocatable.specs.declared.object.Object.{Object}
use Rattle.asm_relocatable.specs.declared.object.ObjSymbol.{ObjSymbol}
use Rattle.asm_object.specs.Objects.{object_of}

-- a `.type` of a name
abbrev pub is_type : List ℕ → StmtKind → Bool
is_type name (statement.TypeFunction other) = same_bytes name other
is_type name (statement.TypeObject other) = same_bytes name other
is_type name _ = false

-- a `.global` of a name
abbrev pub is_global : List ℕ → StmtKind → Bool
is_global name (statement.Global other) = same_bytes name other
is_global name _ = false

-- statements have none of some sort
abbrev pub HasNone : (StmtKind → Bool) → List Stmt → Type 0
HasNone sort stmts = list_any (λ s. sort s.kind) stmts ≡ false

-- something holds of each symbol of a name
abbrev pub EachNamed : List ℕ → (ObjSymbol → Type 0) → Object → Type 0
EachNamed name Holds object = All (λ symbol. same_bytes name symbol.name ≡ true → Holds symbol) object.symbols

-- a statement that is the last of its kind for a name
abbrev pub TheLastSays : (List ℕ → StmtKind) → (List ℕ → StmtKind → Bool) → (ObjSymbol → Type 0) → Type 0
TheLastSays kind sort Holds =
    (before more : List Stmt) (line : ℕ) (name : List ℕ) (object : Object)
    → object_of (before ++ record { line = line; kind = kind name } ∷ more) ≡ Ok object → HasNone (sort name) more → EachNamed name Holds object

-- a source without a statement of a kind for a name
abbrev pub WithoutOne : (List ℕ → StmtKind → Bool) → (ObjSymbol → Type 0) → Type 0
WithoutOne sort Holds = (stmts : List Stmt) (name : List ℕ) (object : Object) → object_of stmts ≡ Ok object → HasNone (sort name) stmts → EachNamed name Holds object

-- after the last `.type name, %function` the name is a function
abbrev pub FunctionsAreTyped : Type 0
FunctionsAreTyped = TheLastSays statement.TypeFunction is_type (λ symbol. symbol.function ≡ true)

-- after the last `.type name, %object` the name is no function
abbrev pub ObjectsAreTyped : Type 0
ObjectsAreTyped = TheLastSays statement.TypeObject is_type (λ symbol. symbol.function ≡ false)

-- nor where no `.type` says anything
abbrev pub OthersAreNoFunctions : Type 0
OthersAreNoFunctions = WithoutOne is_type (λ symbol. symbol.function ≡ false)

-- a `.global` anywhere makes a name global
abbrev pub GlobalsAreGlobal : Type 0
GlobalsAreGlobal =
    (before more : List Stmt) (line : ℕ) (name : List ℕ) (object : Object)
    → object_of (before ++ record { line = line; kind = statement.Global name } ∷ more) ≡ Ok object → EachNamed name (λ symbol. symbol.global ≡ true) object

-- and nothing else does
abbrev pub OthersAreLocal : Type 0
OthersAreLocal = WithoutOne is_global (λ symbol. symbol.global ≡ false)
