-- What `ldr rt, =value` loads in an image linked from sources: the word that the instruction addresses is the value
-- (docs/rules/sources.md, "Pools"; docs/rules/linking.md, "Relocations").
use Rattle.std.specs.Prelude.{◌≡◌, ℕ, ◌+◌, ◌^◌, ◌<◌, List, ◌∷◌, ◌++◌, length, Ok}
use Rattle.thumb_isa.specs.declared.instr.Instr.TheVariants.{LdrLit}
use Rattle.asm_statements.specs.declared.statement.Expr.{Expr}
use Rattle.asm_statements.specs.declared.statement.Stmt.{Stmt}
use Rattle.asm_statements.specs.declared.statement.StmtKind.TheVariants.{LdrPool}
use Rattle.asm_relocatable.specs.declared.place.Section.TheVariants.{Text}
use Rattle.asm_relocatable.specs.declared.object.Object.{Object}
use Rattle.asm_object.specs.Objects.{object_of}
use Rattle.elf_write.specs.declared.parts.ImageParts.{ImageParts}
use Rattle.eh_link.specs.Placed.{PlacedObject}
use Rattle.eh_link.specs.Linked.{link_result}
use Rattle.asm_laws.specs.MarkLaw.{text_after}
use Rattle.link_laws.specs.MeaningLaw.{IsOneOf}
use Rattle.link_laws.specs.LabelLaw.{PartBegins}
use Rattle.link_laws.specs.SaidLaw.{WordSays}
use Rattle.link_laws.specs.TargetLaw.{LeadsTo, literal_at}

pub record LoadsValue (objects : List Object) (image : ImageParts) (placed : PlacedObject) (one : IsOneOf objects placed) (stmts before : List Stmt) (t : ℕ) (value : Expr) : Type 0 where
  pub part : ℕ
  pub begins : PartBegins Text objects placed one part
  pub to : ℕ
  pub leads : LeadsTo (LdrLit t) literal_at image (part + text_after stmts before) to
  pub word : WordSays objects placed image value to

abbrev pub LoadsReadValues : Type 0
LoadsReadValues =
    (objects : List Object) (entry : List ℕ) (image : ImageParts) (placed : PlacedObject) (one : IsOneOf objects placed) (before more : List Stmt) (line t : ℕ) (value : Expr)
    → let stmts = before ++ record { line = line; kind = LdrPool t value } ∷ more in
    length stmts < 2 ^ 64 → object_of stmts ≡ Ok placed.object → link_result objects entry ≡ Ok image
    → LoadsValue objects image placed one stmts before t value
