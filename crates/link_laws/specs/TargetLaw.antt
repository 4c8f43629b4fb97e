-- Where the branches, `adr` and `ldr rt, name` of sources lead in the image that these link to: to what their names mean there, as the
-- decoder reads the image's halfwords and as the core counts from the instruction's own address (docs/rules/sources.md, "Names";
-- docs/rules/linking.md, "Relocations").
use Rattle.std.specs.Prelude.{◌≡◌, ℕ, ℤ, ◌+◌, ◌^◌, ◌<◌, Bool, List, ◌∷◌, ◌++◌, length, Some, Ok}
use Rattle.thumb_isa.specs.declared.instr.Instr.{Instr}
use Rattle.thumb_isa.specs.declared.instr.Instr.TheVariants as instr
use Rattle.thumb_core.specs.declared.regs.Regs.{Regs}
use Rattle.thumb_core.specs.Registers.{base}
use Rattle.thumb_core.specs.Data.{forward}
use Rattle.thumb_core.specs.Branch.{target_of}
use Rattle.asm_statements.specs.declared.statement.Stmt.{Stmt}
use Rattle.asm_statements.specs.declared.statement.StmtKind.{StmtKind}
use Rattle.asm_statements.specs.declared.statement.StmtKind.TheVariants as statement
use Rattle.asm_relocatable.specs.declared.place.Section.TheVariants.{Text}
use Rattle.asm_relocatable.specs.declared.object.Object.{Object}
use Rattle.asm_object.specs.Objects.{object_of}
use Rattle.elf_write.specs.declared.parts.ImageParts.{ImageParts}
use Rattle.eh_link.specs.declared.names.Meaning.{Meaning}
use Rattle.eh_link.specs.Placed.{PlacedObject}
use Rattle.eh_link.specs.Layout.{place_objects}
use Rattle.eh_link.specs.Symbols.{meaning_of}
use Rattle.eh_link.specs.Linked.{link_result}
use Rattle.asm_laws.specs.MarkLaw.{text_after}
use Rattle.link_laws.specs.MeaningLaw.{IsOneOf}
use Rattle.link_laws.specs.LabelLaw.{PartBegins}
use Rattle.link_laws.specs.FilledLaw.{DecodesAt}

-- the address that the core reaches by an offset, for branches and for literals
abbrev pub branch_to : Regs → ℤ → ℕ
branch_to regs offset = target_of offset regs

abbrev pub literal_at : Regs → ℤ → ℕ
literal_at regs offset = forward (base regs) offset

-- the halfwords at an address decode to an instruction whose offset leads the core from there to another address
pub record LeadsTo (instruction : ℤ → Instr) (comes_to : Regs → ℤ → ℕ) (image : ImageParts) (address to : ℕ) : Type 0 where
  pub offset : ℤ
  pub reads : DecodesAt (instruction offset) image address
  pub comes : (regs : Regs) → regs.pc ≡ address → comes_to regs offset ≡ to

-- the statement after some others of a source leads to the address of its name
pub record NameLeads (objects : List Object) (image : ImageParts) (placed : PlacedObject) (one : IsOneOf objects placed) (stmts before : List Stmt) (name : List ℕ) (instruction : ℤ → Instr) (comes_to : Regs → ℤ → ℕ) : Type 0 where
  pub part : ℕ
  pub begins : PartBegins Text objects placed one part
  pub meaning : Meaning
  pub means : meaning_of (place_objects objects) placed name ≡ Some meaning
  pub leads : LeadsTo instruction comes_to image (part + text_after stmts before) meaning.address

abbrev pub NamesLeadTo : (List ℕ → StmtKind) → (ℤ → Instr) → (Regs → ℤ → ℕ) → Type 0
NamesLeadTo kind instruction comes_to =
    (objects : List Object) (entry : List ℕ) (image : ImageParts) (placed : PlacedObject) (one : IsOneOf objects placed) (before more : List Stmt) (line : ℕ) (name : List ℕ)
    → let stmts = before ++ record { line = line; kind = kind name } ∷ more in
    length stmts < 2 ^ 64 → object_of stmts ≡ Ok placed.object → link_result objects entry ≡ Ok image
    → NameLeads objects image placed one stmts before name instruction comes_to

abbrev pub JumpsLeadTo : Type 0
JumpsLeadTo = NamesLeadTo statement.B instr.B branch_to

abbrev pub CondJumpsLeadTo : Type 0
CondJumpsLeadTo = (cond : ℕ) → NamesLeadTo (statement.BCond cond) (instr.BCond cond) branch_to

abbrev pub CallsLeadTo : Type 0
CallsLeadTo = NamesLeadTo statement.Bl instr.Bl branch_to

abbrev pub WideJumpsLeadTo : Type 0
WideJumpsLeadTo = NamesLeadTo statement.BWide instr.BWide branch_to

abbrev pub ZeroJumpsLeadTo : Type 0
ZeroJumpsLeadTo = (nonzero : Bool) (n : ℕ) → NamesLeadTo (statement.Cbz nonzero n) (instr.Cbz nonzero n) branch_to

abbrev pub AddressesLeadTo : Type 0
AddressesLeadTo = (d : ℕ) → NamesLeadTo (statement.Adr d) (instr.Adr d) literal_at

abbrev pub LoadsLeadTo : Type 0
LoadsLeadTo = (t : ℕ) → NamesLeadTo (statement.LdrLabel t) (instr.LdrLit t) literal_at
