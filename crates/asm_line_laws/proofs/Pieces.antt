-- The pieces of the forms that a word has several of, to say of each how far tokens fit it.
use Rattle.std.proofs.Common.{List}
use Rattle.asm_read.specs.declared.form.Piece.{Piece}
use Rattle.asm_read.specs.declared.pattern.Pattern.TheVariants as pattern
use Rattle.asm_read.specs.Patterns.{pieces_of}

abbrev pub two_registers : List Piece
two_registers = pieces_of pattern.TwoRegisters

abbrev pub register_sp_number : List Piece
register_sp_number = pieces_of pattern.RegisterSpNumber

abbrev pub sp_number : List Piece
sp_number = pieces_of pattern.SpNumber

abbrev pub register_name : List Piece
register_name = pieces_of pattern.RegisterName

abbrev pub register_value : List Piece
register_value = pieces_of pattern.RegisterValue

abbrev pub sp_offset : List Piece
sp_offset = pieces_of pattern.SpOffset

abbrev pub sp_alone : List Piece
sp_alone = pieces_of pattern.SpAlone

abbrev pub base_offset : List Piece
base_offset = pieces_of pattern.BaseOffset

abbrev pub base_alone : List Piece
base_alone = pieces_of pattern.BaseAlone

abbrev pub base_index : List Piece
base_index = pieces_of pattern.BaseIndex

abbrev pub base_back_list : List Piece
base_back_list = pieces_of pattern.BaseBackList

abbrev pub base_list : List Piece
base_list = pieces_of pattern.BaseList

abbrev pub name_size : List Piece
name_size = pieces_of pattern.NameSize
