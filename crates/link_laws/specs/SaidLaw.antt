-- What an image linked from sources holds for their data: the value of each expression of a `.word`, `.half` or `.byte`
-- is at its address, and so are the bytes of each text (docs/rules/sources.md, "Names"; docs/rules/linking.md, "Relocations").
use Rattle.std.specs.Prelude.{◌≡◌, ℕ, ℤ, pos, ◌+◌, ◌*◌, ◌%◌, ◌^◌, ◌<◌, ◌+ℤ◌, ◌-ℤ◌, false, List, [], ◌∷◌, ◌++◌, length, Some, Ok}
use Rattle.asm_statements.specs.declared.statement.Expr.{Expr}
use Rattle.asm_statements.specs.declared.statement.Expr.TheVariants as expr
use Rattle.asm_statements.specs.declared.statement.Stmt.{Stmt}
use Rattle.asm_statements.specs.declared.statement.StmtKind.{StmtKind}
use Rattle.asm_statements.specs.declared.statement.StmtKind.TheVariants as statement
use Rattle.asm_relocatable.specs.declared.place.Place.{Place}
use Rattle.asm_relocatable.specs.declared.place.Section.TheVariants.{Bss}
use Rattle.asm_layout.specs.Walks.{cursor_place}
use Rattle.asm_relocatable.specs.Sections.{same_section}
use Rattle.asm_layout.specs.Words.{low_word}
use Rattle.asm_relocatable.specs.declared.object.Object.{Object}
use Rattle.asm_object.specs.Objects.{object_of}
use Rattle.asm_object.specs.ObjectLaw.{symbol_place}
use Rattle.asm_object.specs.Values.{signed_word}
use Rattle.elf_write.specs.declared.parts.ImageParts.{ImageParts}
use Rattle.eh_link.specs.declared.names.Meaning.{Meaning}
use Rattle.eh_link.specs.Placed.{PlacedObject}
use Rattle.eh_link.specs.Layout.{place_objects}
use Rattle.eh_link.specs.Symbols.{meaning_of}
use Rattle.eh_link.specs.EquationLaw.{target_of}
use Rattle.eh_link.specs.Linked.{link_result}
use Rattle.asm_laws.specs.RowLaw.{walk_over}
use Rattle.link_laws.specs.MeaningLaw.{IsOneOf}
use Rattle.link_laws.specs.LabelLaw.{PartBegins}
use Rattle.link_laws.specs.JoinedLaw.{NumberAt}
use Rattle.link_laws.specs.FilledLaw.{RelativeAt, Prel31At}

-- ---- what expressions say

-- a name of an object has a meaning of which this holds
pub record MeansSo (objects : List Object) (placed : PlacedObject) (name : List ℕ) (Says : Meaning → Type 0) : Type 0 where
  pub meaning : Meaning
  pub means : meaning_of (place_objects objects) placed name ≡ Some meaning
  pub says : Says meaning

-- the offset of one label of an object from another one of its section
pub record StandsAfter (object : Object) (a b : List ℕ) (displacement : ℤ) : Type 0 where
  pub first : Place
  pub first_is : symbol_place a object.symbols ≡ Some first
  pub second : Place
  pub second_is : symbol_place b object.symbols ≡ Some second
  pub together : first.section ≡ second.section
  pub displacement_is : displacement ≡ pos first.offset -ℤ pos second.offset

-- a number of this many bytes is the distance of two labels plus n, without the bits that don't fit
pub record DifferenceAt (size : ℕ) (object : Object) (a b : List ℕ) (n : ℤ) (image : ImageParts) (address : ℕ) : Type 0 where
  pub displacement : ℤ
  pub apart : StandsAfter object a b displacement
  pub there : NumberAt size image address (low_word (displacement +ℤ n) % 256 ^ size)

-- the word at an address is the value of an expression
abbrev pub WordSays : List Object → PlacedObject → ImageParts → Expr → ℕ → Type 0
WordSays objects placed image (expr.Num n) address = NumberAt 4 image address (low_word n)
WordSays objects placed image (expr.Diff a b n) address = DifferenceAt 4 placed.object a b n image address
WordSays objects placed image (expr.Of name n) address = MeansSo objects placed name (λ meaning. NumberAt 4 image address (target_of meaning (signed_word (low_word n))))
WordSays objects placed image (expr.Rel name) address = MeansSo objects placed name (λ meaning. RelativeAt (target_of meaning (pos 0)) image address)
WordSays objects placed image (expr.Target2 name) address = MeansSo objects placed name (λ meaning. RelativeAt (target_of meaning (pos 0)) image address)
WordSays objects placed image (expr.Prel31 name) address = MeansSo objects placed name (λ meaning. Prel31At 0 (target_of meaning (pos 0)) image address)
WordSays objects placed image (expr.Prel31Ref name) address = MeansSo objects placed name (λ meaning. Prel31At 1 (target_of meaning (pos 0)) image address)

-- the halfword or byte is a number or a difference; no other expression is accepted
abbrev pub NumberSays : ℕ → List Object → PlacedObject → ImageParts → Expr → ℕ → Type 0
NumberSays size objects placed image (expr.Num n) address = NumberAt size image address (low_word n % 256 ^ size)
NumberSays size objects placed image (expr.Diff a b n) address = DifferenceAt size placed.object a b n image address
NumberSays size objects placed image (expr.Of name n) address = ⊥
NumberSays size objects placed image (expr.Rel name) address = ⊥
NumberSays size objects placed image (expr.Target2 name) address = ⊥
NumberSays size objects placed image (expr.Prel31 name) address = ⊥
NumberSays size objects placed image (expr.Prel31Ref name) address = ⊥

-- ---- where they stand

-- something holds of an address: that of the statement after some others, plus a number of bytes, in the object's
-- section
pub record SaysThere (objects : List Object) (placed : PlacedObject) (one : IsOneOf objects placed) (stmts before : List Stmt) (offset : ℕ) (Says : ℕ → Type 0) : Type 0 where
  pub part : ℕ
  pub begins : PartBegins (walk_over stmts before).at.section objects placed one part
  pub says : Says (part + ((cursor_place (walk_over stmts before).at).offset + offset))

-- each expression of a statement of a kind, whose values have this many bytes each
abbrev pub EachSays : (List Expr → StmtKind) → ℕ → (List Object → PlacedObject → ImageParts → Expr → ℕ → Type 0) → Type 0
EachSays kind size Says =
    (objects : List Object) (entry : List ℕ) (image : ImageParts) (placed : PlacedObject) (one : IsOneOf objects placed)
    (before more : List Stmt) (line : ℕ) (front back : List Expr) (value : Expr)
    → let stmts = before ++ record { line = line; kind = kind (front ++ value ∷ back) } ∷ more in
    length stmts < 2 ^ 64 → object_of stmts ≡ Ok placed.object → link_result objects entry ≡ Ok image
    → SaysThere objects placed one stmts before (size * length front) (Says objects placed image value)

abbrev pub WordsSay : Type 0
WordsSay = EachSays statement.Words 4 WordSays

abbrev pub HalvesSay : Type 0
HalvesSay = EachSays statement.Halves 2 (NumberSays 2)

abbrev pub BytesSay : Type 0
BytesSay = EachSays statement.Bytes 1 (NumberSays 1)

-- each byte of a text's statement, given the bytes that its kind makes of the text
abbrev pub EachByteSays : (List ℕ → StmtKind) → (List ℕ → List ℕ) → Type 0
EachByteSays kind given =
    (objects : List Object) (entry : List ℕ) (image : ImageParts) (placed : PlacedObject) (one : IsOneOf objects placed)
    (before more : List Stmt) (line : ℕ) (text front back : List ℕ) (byte : ℕ)
    → let stmts = before ++ record { line = line; kind = kind text } ∷ more in
    given text ≡ front ++ byte ∷ back → length stmts < 2 ^ 64 → object_of stmts ≡ Ok placed.object → link_result objects entry ≡ Ok image
    → SaysThere objects placed one stmts before (length front) (λ address. NumberAt 1 image address byte)

abbrev pub TextsSay : Type 0
TextsSay = EachByteSays statement.Ascii (λ text. text)

-- after the text of an `.asciz` a zero byte
abbrev pub ZeroedTextsSay : Type 0
ZeroedTextsSay = EachByteSays statement.Asciz (λ text. text ++ 0 ∷ [])

-- each byte of a `.space` is zero, if the section has bytes in the image
abbrev pub SpacesSay : Type 0
SpacesSay =
    (objects : List Object) (entry : List ℕ) (image : ImageParts) (placed : PlacedObject) (one : IsOneOf objects placed)
    (before more : List Stmt) (line count offset : ℕ)
    → let stmts = before ++ record { line = line; kind = statement.Space (pos count) } ∷ more in
    offset < count → same_section (walk_over stmts before).at.section Bss ≡ false
    → length stmts < 2 ^ 64 → object_of stmts ≡ Ok placed.object → link_result objects entry ≡ Ok image
    → SaysThere objects placed one stmts before offset (λ address. NumberAt 1 image address 0)
