-- The operands of forms as patterns of pieces (docs/rules/sources.md, "Statements" and "Directives").
use Rattle.std.specs.Prelude.{List, [], ◌∷◌}
use Rattle.asm_read.specs.declared.form.Piece.{Piece}
use Rattle.asm_read.specs.declared.form.Piece.TheVariants.{Dot, Expression, Expressions, First, Function, Mark, MaybeHash, Name, Number, Object, Registers, RegistersWithFirst, Rodata, SameName, Second, Sp, Text, Third, UpToThree, WordExpressions, Zero}
use Rattle.asm_read.specs.declared.pattern.Pattern.{Pattern}
use Rattle.asm_read.specs.declared.pattern.Pattern.TheVariants as pattern

abbrev pub pieces_of : Pattern → List Piece
pieces_of pattern.Nothing = []
pieces_of pattern.OneRegister = First ∷ []
pieces_of pattern.TwoRegisters = First ∷ Mark 44 ∷ Second ∷ []
pieces_of pattern.ThreeRegisters = First ∷ Mark 44 ∷ Second ∷ Mark 44 ∷ Third ∷ []
pieces_of pattern.OneNumber = Mark 35 ∷ Number ∷ []
pieces_of pattern.RegisterNumber = First ∷ Mark 44 ∷ Mark 35 ∷ Number ∷ []
pieces_of pattern.TwoRegistersNumber = First ∷ Mark 44 ∷ Second ∷ Mark 44 ∷ Mark 35 ∷ Number ∷ []
pieces_of pattern.TwoRegistersZero = First ∷ Mark 44 ∷ Second ∷ Mark 44 ∷ Mark 35 ∷ Zero ∷ []
pieces_of pattern.SpNumber = Sp ∷ Mark 44 ∷ Mark 35 ∷ Number ∷ []
pieces_of pattern.RegisterSpNumber = First ∷ Mark 44 ∷ Sp ∷ Mark 44 ∷ Mark 35 ∷ Number ∷ []
pieces_of pattern.RegisterSpCount = First ∷ Mark 44 ∷ Sp ∷ Mark 44 ∷ MaybeHash ∷ Number ∷ []
pieces_of pattern.Count = MaybeHash ∷ Number ∷ []
pieces_of pattern.Power = MaybeHash ∷ UpToThree ∷ []
pieces_of pattern.OneName = Name ∷ []
pieces_of pattern.RegisterName = First ∷ Mark 44 ∷ Name ∷ []
pieces_of pattern.NameFunction = Name ∷ Mark 44 ∷ Mark 37 ∷ Function ∷ []
pieces_of pattern.NameObject = Name ∷ Mark 44 ∷ Mark 37 ∷ Object ∷ []
pieces_of pattern.NameSize = Name ∷ Mark 44 ∷ Dot ∷ Mark 45 ∷ SameName ∷ []
pieces_of pattern.RodataName = Rodata ∷ []
pieces_of pattern.OneText = Text ∷ []
pieces_of pattern.RegisterValue = First ∷ Mark 44 ∷ Mark 61 ∷ Expression ∷ []
pieces_of pattern.Values = Expressions ∷ []
pieces_of pattern.WordValues = WordExpressions ∷ []
pieces_of pattern.SpOffset = First ∷ Mark 44 ∷ Mark 91 ∷ Sp ∷ Mark 44 ∷ Mark 35 ∷ Number ∷ Mark 93 ∷ []
pieces_of pattern.SpAlone = First ∷ Mark 44 ∷ Mark 91 ∷ Sp ∷ Mark 93 ∷ []
pieces_of pattern.BaseOffset = First ∷ Mark 44 ∷ Mark 91 ∷ Second ∷ Mark 44 ∷ Mark 35 ∷ Number ∷ Mark 93 ∷ []
pieces_of pattern.BaseAlone = First ∷ Mark 44 ∷ Mark 91 ∷ Second ∷ Mark 93 ∷ []
pieces_of pattern.BaseIndex = First ∷ Mark 44 ∷ Mark 91 ∷ Second ∷ Mark 44 ∷ Third ∷ Mark 93 ∷ []
pieces_of pattern.RegisterList = Registers ∷ []
pieces_of pattern.BaseBackList = First ∷ Mark 33 ∷ Mark 44 ∷ Registers ∷ []
pieces_of pattern.BaseList = First ∷ Mark 44 ∷ RegistersWithFirst ∷ []
