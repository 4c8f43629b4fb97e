-- The last `.type` of a name says whether its symbol is a function, and a `.global` makes it global.
use Rattle.std.proofs.Common.{◌≡◌, ℕ, ◌||◌, Bool, true, false, cond, List, [], ◌∷◌, ◌++◌, map, All, refl, sym, ap, ◌∙◌, subst}
use Rattle.std.specs.List.{list_any}
use Rattle.std.proofs.lemmas.Bool.{or_parts}
use Rattle.std.proofs.lemmas.Cmp.{nat_list_eq_equiv}
use Rattle.std.proofs.lemmas.List.Elements.{All-nil, All-cons}
use Rattle.eh_word.specs.Names.{same_bytes}
use Rattle.asm_statements.specs.declared.statement.Stmt.{Stmt}
use Rattle.asm_statements.specs.declared.statement.StmtKind.{StmtKind}
use Rattle.asm_statements.specs.declared.statement.StmtKind.TheVariants as statement
use Rattle.asm_layout.proofs.LayoutLaws.{same_bytes-true}
use Rattle.asm_layout.specs.Functions.{entries_of}
use Rattle.asm_layout.specs.Labels.{NamePlace, labels_of, name_with_label, is_function_after, function_from, global_by}
use Rattle.asm_relocatable.specs.declared.object.Object.{Object}
use Rattle.asm_relocatable.specs.declared.object.ObjSymbol.{ObjSymbol}
use Rattle.asm_object.specs.Objects.{assembled_object, symbol_of}
use Rattle.asm_object.proofs.ObjectLaws.{taken}
use Rattle.asm_laws.specs.SymbolLaw.{is_type, is_global, HasNone, EachNamed, FunctionsAreTyped, ObjectsAreTyped, OthersAreNoFunctions, GlobalsAreGlobal, OthersAreLocal}

abbrev pub symbol_in : List Stmt → NamePlace → ObjSymbol
symbol_in stmts label = symbol_of (name_with_label (entries_of stmts) stmts label)

pub joined_symbols : (stmts : List Stmt) → (assembled_object stmts).symbols ≡ map (symbol_in stmts) (labels_of (entries_of stmts) stmts)
unfolding assembled_object
joined_symbols stmts = refl

each_label : (Holds : ObjSymbol → Type 0) (stmts : List Stmt) (name : List ℕ) (labels : List NamePlace) → ((label : NamePlace) → name ≡ label.name → Holds (symbol_in stmts label))
    → All (λ symbol. same_bytes name symbol.name ≡ true → Holds symbol) (map (symbol_in stmts) labels)
each_label Holds stmts name [] h = All-nil (λ (symbol : ObjSymbol). same_bytes name symbol.name ≡ true → Holds symbol)
each_label Holds stmts name (label ∷ more) h =
    All-cons (λ (symbol : ObjSymbol). same_bytes name symbol.name ≡ true → Holds symbol) (symbol_in stmts label) (map (symbol_in stmts) more)
    (λ e. h label (same_bytes-true name label.name e)) (each_label Holds stmts name more h)

-- what holds of the labels of a name holds of its symbols
pub each_named : (Holds : ObjSymbol → Type 0) (stmts : List Stmt) (name : List ℕ) (object : Object) → object ≡ assembled_object stmts
    → ((label : NamePlace) → name ≡ label.name → Holds (symbol_in stmts label)) → EachNamed name Holds object
each_named Holds stmts name object is h =
    let P : List ObjSymbol → Type 0 = λ symbols. All (λ symbol. same_bytes name symbol.name ≡ true → Holds symbol) symbols in
    subst P (sym (ap (λ (o : Object). o.symbols) is ∙ joined_symbols stmts)) (each_label Holds stmts name (labels_of (entries_of stmts) stmts) h)

-- ---- `.type`

not_typed : (name : List ℕ) (function : Bool) (kind : StmtKind) → is_type name kind ≡ false → is_function_after name function kind ≡ function
not_typed name function (statement.TypeFunction other) e = ap (λ b. cond b true function) e
not_typed name function (statement.TypeObject other) e = ap (λ b. cond b false function) e
not_typed name function _ e = refl

untyped : (name : List ℕ) (function : Bool) (stmts : List Stmt) → HasNone (is_type name) stmts → function_from name function stmts ≡ function
unfolding function_from
untyped name function [] e = refl
untyped name function (stmt ∷ more) e =
    let parts = or_parts (is_type name stmt.kind) (list_any (λ s. is_type name s.kind) more) e in
    ap (λ f. function_from name f more) (not_typed name function stmt.kind parts.0) ∙ untyped name function more parts.1

type_after : (name : List ℕ) (function : Bool) (before more : List Stmt) (line : ℕ) (kind : StmtKind)
    → function_from name function (before ++ record { line = line; kind = kind } ∷ more) ≡ function_from name (is_function_after name (function_from name function before) kind) more
unfolding function_from
type_after name function [] more line kind = refl
type_after name function (stmt ∷ before) more line kind = type_after name (is_function_after name function stmt.kind) before more line kind

itself : (name : List ℕ) → same_bytes name name ≡ true
itself name = nat_list_eq_equiv.refl name

-- of the label's own name
own_type : (name : List ℕ) (kind : List ℕ → StmtKind) (says : Bool) (before more : List Stmt) (line : ℕ) → ((f : Bool) → is_function_after name f (kind name) ≡ says) → HasNone (is_type name) more
    → function_from name false (before ++ record { line = line; kind = kind name } ∷ more) ≡ says
own_type name kind says before more line typed none =
    type_after name false before more line (kind name) ∙ ap (λ f. function_from name f more) (typed (function_from name false before)) ∙ untyped name says more none

pub law_of_functions : FunctionsAreTyped
law_of_functions before more line name object e none =
    let stmts = before ++ record { line = line; kind = statement.TypeFunction name } ∷ more in
    each_named (λ symbol. symbol.function ≡ true) stmts name object (taken stmts object e).object_is
    (λ label is. ap (λ n. function_from n false stmts) (sym is)
    ∙ own_type name statement.TypeFunction true before more line (λ f. ap (λ b. cond b true f) (itself name)) none)

pub law_of_objects : ObjectsAreTyped
law_of_objects before more line name object e none =
    let stmts = before ++ record { line = line; kind = statement.TypeObject name } ∷ more in
    each_named (λ symbol. symbol.function ≡ false) stmts name object (taken stmts object e).object_is
    (λ label is. ap (λ n. function_from n false stmts) (sym is)
    ∙ own_type name statement.TypeObject false before more line (λ f. ap (λ b. cond b false f) (itself name)) none)

pub law_of_no_functions : OthersAreNoFunctions
law_of_no_functions stmts name object e none =
    each_named (λ symbol. symbol.function ≡ false) stmts name object (taken stmts object e).object_is
    (λ label is. ap (λ n. function_from n false stmts) (sym is) ∙ untyped name false stmts none)

-- ---- `.global`

same_sort : (name : List ℕ) (kind : StmtKind) → global_by name kind ≡ is_global name kind
same_sort name (statement.Global other) = refl
same_sort name _ = refl

same_any : (name : List ℕ) (stmts : List Stmt) → list_any (λ s. global_by name s.kind) stmts ≡ list_any (λ s. is_global name s.kind) stmts
same_any name [] = refl
same_any name (stmt ∷ more) =
    ap (λ b. b || list_any (λ s. global_by name s.kind) more) (same_sort name stmt.kind) ∙ ap (λ b. is_global name stmt.kind || b) (same_any name more)

one_there : (name : List ℕ) (before more : List Stmt) (line : ℕ) → list_any (λ s. global_by name s.kind) (before ++ record { line = line; kind = statement.Global name } ∷ more) ≡ true
one_there name [] more line = ap (λ b. b || list_any (λ s. global_by name s.kind) more) (itself name)
one_there name (stmt ∷ before) more line =
    ap (λ b. global_by name stmt.kind || b) (one_there name before more line) ∙ either (global_by name stmt.kind)
  where
    either : (b : Bool) → (b || true) ≡ true
    either true = refl
    either false = refl

pub law_of_globals : GlobalsAreGlobal
law_of_globals before more line name object e =
    let stmts = before ++ record { line = line; kind = statement.Global name } ∷ more in
    each_named (λ symbol. symbol.global ≡ true) stmts name object (taken stmts object e).object_is
    (λ label is. ap (λ n. list_any (λ s. global_by n s.kind) stmts) (sym is) ∙ one_there name before more line)

pub law_of_locals : OthersAreLocal
law_of_locals stmts name object e none =
    each_named (λ symbol. symbol.global ≡ false) stmts name object (taken stmts object e).object_is
    (λ label is. ap (λ n. list_any (λ s. global_by n s.kind) stmts) (sym is) ∙ same_any name stmts ∙ none)
