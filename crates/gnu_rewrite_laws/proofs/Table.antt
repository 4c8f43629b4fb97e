-- The symbol table of names, functions, types and marks.
use Rattle.std.proofs.Common.{◌≡◌, ℕ, ◌+◌, ◌-◌, ◌%◌, Bool, true, false, cond, codes, List, [], ◌∷◌, ◌++◌, map, filter, refl, ap, ◌∙◌, append-nil}
use Rattle.std.proofs.lemmas.List.{map-append}
use Rattle.std.proofs.lemmas.List.Elements.{filter-append}
use Rattle.elf_image.specs.Symbols.{Symbol}
use Rattle.elf_image.specs.Functions.{Function}
use Rattle.elf_write.specs.Layout.{section_of, symbol_row_of, is_wanted, wanted_rows, table_of}
use Rattle.elf_write.specs.declared.parts.OwnSegment.{OwnSegment}
use Rattle.elf_write.specs.declared.parts.OwnSymbol.{OwnSymbol}
use Rattle.elf_write.specs.declared.parts.SymbolKind.TheVariants.{Function as IsFunction, Object, Code, Words}
use Rattle.elf_write.specs.declared.parts.ImageParts.{ImageParts}

-- ---- symbols

abbrev pub Name : Type 0
Name = List ℕ × ℕ

abbrev pub named_own : Name → OwnSymbol
named_own n = record { name = n.0; value = n.1; size = 0; kind = Object }

abbrev pub function_own : Function → OwnSymbol
function_own f = record { name = f.name; value = f.start; size = f.end - f.start; kind = IsFunction }

abbrev pub mark_own : ℕ × Bool → OwnSymbol
mark_own m = record { name = []; value = m.0; size = 0; kind = cond m.1 Code Words }

-- names, functions, more names and marks
abbrev pub all_own : List Name → List Function → List Name → List (ℕ × Bool) → List OwnSymbol
all_own names functions types marks = map named_own names ++ map function_own functions ++ map named_own types ++ map mark_own marks

-- ---- their rows

abbrev pub name_row : List OwnSegment → Name → Symbol
name_row segments n = record { name = n.0; value = n.1; size = 0; info = 0x11; section = section_of segments n.1 }

abbrev pub function_row : List OwnSegment → Function → Symbol
function_row segments f = record { name = f.name; value = f.start - f.start % 2 + 1; size = f.end - f.start; info = 0x12; section = section_of segments f.start }

abbrev pub mark_row : List OwnSegment → ℕ × Bool → Symbol
mark_row segments m = record { name = cond m.1 (codes "$t") (codes "$d"); value = m.0; size = 0; info = 0; section = section_of segments m.0 }

abbrev row : List OwnSegment → OwnSymbol → Symbol
row segments s = symbol_row_of segments s s.kind

abbrev wants : Bool → OwnSymbol → Bool
wants mapping s = is_wanted mapping s.kind

mark_row_is : (segments : List OwnSegment) (a : ℕ) (b : Bool) → row segments (mark_own (a, b)) ≡ mark_row segments (a, b)
mark_row_is segments a true = refl
mark_row_is segments a false = refl

mark_wanted : (mapping b : Bool) (a : ℕ) → wants mapping (mark_own (a, b)) ≡ mapping
mark_wanted true true a = refl
mark_wanted true false a = refl
mark_wanted false true a = refl
mark_wanted false false a = refl

rows_all : {A : Type 0} (mapping : Bool) (segments : List OwnSegment) (own : A → OwnSymbol) (shown : A → Symbol) → ((x : A) → wants mapping (own x) ≡ true) → ((x : A) → row segments (own x) ≡ shown x)
    → (xs : List A) → map (row segments) (filter (wants mapping) (map own xs)) ≡ map shown xs
rows_all mapping segments own shown w r [] = refl
rows_all mapping segments own shown w r (x ∷ xs) = rw (w x) (rw (r x) (ap (λ (l : List Symbol). shown x ∷ l) (rows_all mapping segments own shown w r xs)))

rows_none : {A : Type 0} (mapping : Bool) (segments : List OwnSegment) (own : A → OwnSymbol) → ((x : A) → wants mapping (own x) ≡ false)
    → (xs : List A) → map (row segments) (filter (wants mapping) (map own xs)) ≡ []
rows_none mapping segments own w [] = refl
rows_none mapping segments own w (x ∷ xs) = rw (w x) (rows_none mapping segments own w xs)

-- the rows of each
four : (mapping : Bool) (segments : List OwnSegment) (a b c d : List OwnSymbol) → map (row segments) (filter (wants mapping) (a ++ b ++ c ++ d))
    ≡ map (row segments) (filter (wants mapping) a) ++ map (row segments) (filter (wants mapping) b) ++ map (row segments) (filter (wants mapping) c) ++ map (row segments) (filter (wants mapping) d)
four mapping segments a b c d = simp (filter-append, map-append)

pub marks_first : (segments : List OwnSegment) (names : List Name) (functions : List Function) (types : List Name) (marks : List (ℕ × Bool))
    → wanted_rows true segments (all_own names functions types marks) ≡ map (mark_row segments) marks
marks_first segments names functions types marks =
    four true segments (map named_own names) (map function_own functions) (map named_own types) (map mark_own marks)
    ∙ rw (rows_none true segments named_own (λ x. refl) names, rows_none true segments function_own (λ x. refl) functions, rows_none true segments named_own (λ x. refl) types)
    (rows_all true segments mark_own (mark_row segments) (λ m. mark_wanted true m.1 m.0) (λ m. mark_row_is segments m.0 m.1) marks)

pub others_then : (segments : List OwnSegment) (names : List Name) (functions : List Function) (types : List Name) (marks : List (ℕ × Bool))
    → wanted_rows false segments (all_own names functions types marks) ≡ map (name_row segments) names ++ map (function_row segments) functions ++ map (name_row segments) types
others_then segments names functions types marks =
    four false segments (map named_own names) (map function_own functions) (map named_own types) (map mark_own marks)
    ∙ rw (
      rows_none false segments mark_own (λ m. mark_wanted false m.1 m.0) marks,
      rows_all false segments named_own (name_row segments) (λ x. refl) (λ x. refl) names,
      rows_all false segments function_own (function_row segments) (λ x. refl) (λ x. refl) functions,
      rows_all false segments named_own (name_row segments) (λ x. refl) (λ x. refl) types,
    )
    (append-nil (map (name_row segments) names ++ map (function_row segments) functions ++ map (name_row segments) types))

-- the table: marks, names, functions, and more names
abbrev pub rows : List OwnSegment → List Name → List Function → List Name → List (ℕ × Bool) → List Symbol
rows segments names functions types marks =
    map (mark_row segments) marks ++ (map (name_row segments) names ++ map (function_row segments) functions ++ map (name_row segments) types)

pub table_is : (parts : ImageParts) (names : List Name) (functions : List Function) (types : List Name) (marks : List (ℕ × Bool)) → parts.symbols ≡ all_own names functions types marks
    → table_of parts ≡ rows parts.segments names functions types marks
table_is parts names functions types marks e =
    ap (λ (xs : List OwnSymbol). wanted_rows true parts.segments xs ++ wanted_rows false parts.segments xs) e
    ∙ rw (marks_first parts.segments names functions types marks, others_then parts.segments names functions types marks) refl
