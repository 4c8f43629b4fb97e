-- In an image linked from sources, the word of a `.word name+n` is the address of the name plus n, by R_ARM_ABS32 (IHI
-- 0044, "Relocation types"; docs/rules/linking.md).
use Rattle.std.specs.Prelude.{◌≡◌, ℕ, ℤ, ◌+◌, ◌*◌, ◌^◌, ◌<◌, List, ◌∷◌, ◌++◌, length, Some, Ok}
use Rattle.eh_word.specs.Words.{number_at}
use Rattle.asm_statements.specs.declared.statement.Expr.{Expr}
use Rattle.asm_statements.specs.declared.statement.Expr.TheVariants as expr
use Rattle.asm_statements.specs.declared.statement.Stmt.{Stmt}
use Rattle.asm_statements.specs.declared.statement.StmtKind.TheVariants as statement
use Rattle.asm_layout.specs.Walks.{cursor_place}
use Rattle.asm_layout.specs.Words.{low_word}
use Rattle.asm_relocatable.specs.declared.object.Object.{Object}
use Rattle.asm_object.specs.Objects.{object_of}
use Rattle.asm_object.specs.Values.{signed_word}
use Rattle.elf_write.specs.declared.parts.ImageParts.{ImageParts}
use Rattle.elf_write.specs.declared.parts.OwnSegment.{OwnSegment}
use Rattle.eh_link.specs.declared.names.Meaning.{Meaning}
use Rattle.eh_link.specs.Placed.{PlacedObject}
use Rattle.eh_link.specs.Layout.{place_objects}
use Rattle.eh_link.specs.Symbols.{meaning_of}
use Rattle.eh_link.specs.EquationLaw.{target_of}
use Rattle.eh_link.specs.Linked.{link_result}
use Rattle.asm_laws.specs.RowLaw.{walk_over}
use Rattle.link_laws.specs.MeaningLaw.{IsOneOf}
use Rattle.link_laws.specs.LabelLaw.{Has, PartBegins}

-- the n bytes at an address of the image are those of a number, lowest byte first
pub record NumberAt (n : ℕ) (image : ImageParts) (address number : ℕ) : Type 0 where
  pub segment : OwnSegment
  pub there : Has image.segments segment
  pub offset : ℕ
  pub place : address ≡ segment.start + offset
  pub reads : number_at n segment.bytes offset ≡ Some number

-- where a `.word` of a source stands, so many words after the statement's own place
abbrev pub word_offset : List Stmt → List Stmt → List Expr → ℕ
word_offset stmts before front = (cursor_place (walk_over stmts before).at).offset + 4 * length front

-- the word that many bytes after the start of the source's part of the section is S + n, with bit 0 set where the name means a function
pub record WordIsSum (objects : List Object) (image : ImageParts) (placed : PlacedObject) (one : IsOneOf objects placed) (stmts before : List Stmt) (front : List Expr) (name : List ℕ) (n : ℤ) : Type 0 where
  pub part : ℕ
  pub begins : PartBegins (walk_over stmts before).at.section objects placed one part
  pub meaning : Meaning
  pub means : meaning_of (place_objects objects) placed name ≡ Some meaning
  pub word : NumberAt 4 image (part + word_offset stmts before front) (target_of meaning (signed_word (low_word n)))

abbrev pub WordsAreSums : Type 0
WordsAreSums =
    (objects : List Object) (entry : List ℕ) (image : ImageParts) (placed : PlacedObject) (one : IsOneOf objects placed)
    (before more : List Stmt) (line : ℕ) (front back : List Expr) (name : List ℕ) (n : ℤ)
    → let stmts = before ++ record { line = line; kind = statement.Words (front ++ expr.Of name n ∷ back) } ∷ more in
    length stmts < 2 ^ 64 → object_of stmts ≡ Ok placed.object → link_result objects entry ≡ Ok image
    → WordIsSum objects image placed one stmts before front name n
