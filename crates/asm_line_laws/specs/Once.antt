-- No two rows of the table of forms are alike; the second would never be used.
use Rattle.std.specs.Prelude.{◌≡◌, ℕ, ◌+◌, ◌&&◌, not, Bool, true, List, [], ◌∷◌, map}
use Rattle.asm_read.specs.declared.form.Piece.{Piece}
use Rattle.asm_read.specs.declared.form.Piece.TheVariants.{First, Second, Third, Sp, Mark, MaybeHash, Number, Zero, UpToThree, Name, SameName, Dot, Rodata, Function, Object, Registers, RegistersWithFirst, Text, Expression, Expressions, WordExpressions}
use Rattle.asm_read.specs.Operands.{same}
use Rattle.asm_read.specs.Patterns.{pieces_of}
use Rattle.asm_read.specs.Forms.{TableRow, rows}

-- another number for each piece
abbrev pub piece_number : Piece → ℕ
piece_number First = 0
piece_number Second = 1
piece_number Third = 2
piece_number Sp = 3
piece_number MaybeHash = 4
piece_number Number = 5
piece_number Zero = 6
piece_number UpToThree = 7
piece_number Name = 8
piece_number SameName = 9
piece_number Dot = 10
piece_number Rodata = 11
piece_number Function = 12
piece_number Object = 13
piece_number Registers = 14
piece_number RegistersWithFirst = 15
piece_number Text = 16
piece_number Expression = 17
piece_number Expressions = 18
piece_number WordExpressions = 19
piece_number (Mark b) = 20 + b

-- rows with the same word and the same pieces after it
abbrev pub are_alike_rows : TableRow → TableRow → Bool
are_alike_rows r q =
    same r.word q.word && same (map piece_number (pieces_of r.form.operands)) (map piece_number (pieces_of q.form.operands))

abbrev pub none_like_row : TableRow → List TableRow → Bool
none_like_row r [] = true
none_like_row r (q ∷ qs) = not (are_alike_rows r q) && none_like_row r qs

abbrev pub all_differ : List TableRow → Bool
all_differ [] = true
all_differ (r ∷ rs) = none_like_row r rs && all_differ rs

abbrev pub RowsDiffer : Type 0
RowsDiffer = all_differ rows ≡ true
