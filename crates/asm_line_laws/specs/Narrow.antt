-- Which forms take only some of what could be at a place: the register sp, one of few numbers, a word, a repeated name,
-- registers including the first, or expressions of one kind. What such a piece takes is defined with the pieces
-- (asm_read's specs/Fits). A form that took more would still read what is written.
use Rattle.std.specs.Prelude.{◌≡◌, Bool, true, false, List, [], ◌∷◌, map, filter}
use Rattle.asm_read.specs.declared.form.Piece.{Piece}
use Rattle.asm_read.specs.declared.form.Piece.TheVariants.{Dot, Expressions, Function, RegistersWithFirst, Object, Rodata, SameName, Sp, UpToThree, WordExpressions, Zero}
use Rattle.asm_read.specs.declared.makes.Makes.{Makes}
use Rattle.asm_read.specs.declared.makes.Makes.TheVariants as makes
use Rattle.asm_read.specs.declared.makes.Computation.TheVariants as computation
use Rattle.asm_read.specs.declared.makes.Transfer.TheVariants as transfer
use Rattle.asm_read.specs.declared.makes.Directive.TheVariants as directive
use Rattle.asm_read.specs.declared.makes.Named.TheVariants as name
use Rattle.asm_read.specs.Patterns.{pieces_of}
use Rattle.asm_read.specs.Forms.{rows}

abbrev pub is_narrow : Piece → Bool
is_narrow Sp = true
is_narrow Zero = true
is_narrow UpToThree = true
is_narrow SameName = true
is_narrow Dot = true
is_narrow Rodata = true
is_narrow Function = true
is_narrow Object = true
is_narrow RegistersWithFirst = true
is_narrow Expressions = true
is_narrow WordExpressions = true
is_narrow piece = false

-- the narrow pieces of a statement's forms, in their order
abbrev pub narrow : Makes → List Piece
narrow (makes.Computes computation.AddRdSp) = Sp ∷ []
narrow (makes.Computes computation.AddSp) = Sp ∷ []
narrow (makes.Computes computation.SubSp) = Sp ∷ []
narrow (makes.Computes computation.Rsbs) = Zero ∷ []
narrow (makes.Transfers (transfer.MemSp load)) = Sp ∷ []
narrow (makes.Transfers transfer.Ldm) = RegistersWithFirst ∷ []
narrow (makes.Directs directive.Rodata) = Rodata ∷ []
narrow (makes.Directs directive.Align) = UpToThree ∷ []
narrow (makes.Directs directive.SetFp) = Sp ∷ []
narrow (makes.Names name.TypeFunction) = Function ∷ []
narrow (makes.Names name.TypeObject) = Object ∷ []
narrow (makes.Names name.Size) = Dot ∷ SameName ∷ []
narrow (makes.Names name.Words) = WordExpressions ∷ []
narrow (makes.Names name.Halves) = Expressions ∷ []
narrow (makes.Names name.Bytes) = Expressions ∷ []
narrow form = []

abbrev pub FormsAreNarrow : Type 0
FormsAreNarrow = map (λ row. filter is_narrow (pieces_of row.form.operands)) rows ≡ map (λ row. narrow row.form.makes) rows
