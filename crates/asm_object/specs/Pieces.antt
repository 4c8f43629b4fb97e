-- The bytes of statements, each piece at its place, with their relocations (docs/rules/sources.md, "Sections and places").
use Rattle.std.specs.Prelude.{ℕ, ◌+◌, ◌%◌, ◌^◌, ◌==◌, ◌&&◌, not, ℤ, pos, negsuc, Bool, true, false, nat_lt, if◌then◌else◌, List, [], ◌∷◌, ◌++◌, map, flat_map, length, Option, Some, None, Result, Ok, Err}
use Rattle.byteorder.specs.Endian.{little_bytes}
use Rattle.asm_statements.specs.declared.statement.Expr.{Expr}
use Rattle.asm_statements.specs.declared.statement.StmtKind.{StmtKind}
use Rattle.asm_unwind.specs.declared.entry.EntryWords.{EntryWords}
use Rattle.asm_unwind.specs.declared.entry.EntryWords.TheVariants as entry
use Rattle.thumb_isa.specs.declared.instr.Instr.{Instr}
use Rattle.thumb_encode.specs.declared.code.Code.{Code}
use Rattle.thumb_isa.specs.declared.encode_fault.EncodeFault.{EncodeFault}
use Rattle.asm_relocatable.specs.declared.place.Section.{Section}
use Rattle.asm_relocatable.specs.declared.place.Section.TheVariants.{Text, Extab}
use Rattle.asm_relocatable.specs.declared.object.Reloc.{Reloc}
use Rattle.asm_relocatable.specs.declared.object.Mark.{Mark}
use Rattle.asm_relocatable.specs.declared.object.RowEntry.{RowEntry}
use Rattle.asm_relocatable.specs.declared.object.RowEntry.TheVariants as row
use Rattle.asm_relocatable.specs.declared.object.IndexRow.{IndexRow}
use Rattle.asm_relocatable.specs.declared.place.Place.{Place}
use Rattle.asm_layout.specs.declared.word.Word.{Word}
use Rattle.asm_layout.specs.Words.{word_of}
use Rattle.asm_layout.specs.Sizes.{sum_64, multiple, natural, is_instruction}
use Rattle.asm_layout.specs.declared.given.Width.{Width}
use Rattle.asm_layout.specs.Given.{StmtData, FieldsOf, TextOf, ZerosOf, bytes_of, takes_addresses}
use Rattle.asm_layout.specs.Sorts.{Operation, Nameless, Undefined, AdrOf, LdrOf, LdrValue, BTo, BCondTo, BlTo, BWideTo, CbzTo, Sort, CodeOf, DataOf, Filling, AboutName, Bare, sort_of, operation, stmt_data}
use Rattle.eh_word.specs.Bytes.{gap, zeros}
use Rattle.asm_object.specs.Bytes.{half_bytes, word_bytes, code_bytes, filling_bytes}
use Rattle.asm_layout.specs.declared.placed.PlacedFunction.{PlacedFunction}
use Rattle.asm_layout.specs.declared.placed.PlacedPool.{PlacedPool}
use Rattle.asm_layout.specs.declared.placed.Puts.{Puts}
use Rattle.asm_layout.specs.declared.placed.Puts.TheVariants as puts
use Rattle.asm_layout.specs.PlacedStmt.{PlacedStmt}
use Rattle.asm_layout.specs.Walks.{entry_at, is_empty}
use Rattle.asm_relocatable.specs.Sections.{same_section}
use Rattle.asm_layout.specs.Labels.{NamePlace}
use Rattle.asm_object.specs.declared.value.Link.{Link}
use Rattle.asm_object.specs.Values.{number, section_word, low_or_zero, link_of}
use Rattle.asm_object.specs.Instructions.{instruction, encode_option, branch_link}

-- bytes at a place, code or words, with the relocations in them
pub record Piece : Type 0 where
  pub place : Place
  pub code : Bool
  pub bytes : List ℕ
  pub relocs : List Reloc

abbrev pub place_at : Section → ℕ → Place
place_at section offset = record { section = section; offset = offset }

abbrev pub relocs_of : Place → Option Link → List Reloc
relocs_of place None = []
relocs_of place (Some link) = record {
  section = place.section;
  offset = place.offset % 2 ^ 32;
  kind = link.kind;
  name = link.name;
  addend = link.addend;
} ∷ []

-- the relocations of words from a place on
unfoldable pub word_relocs : Section → ℕ → List Word → List Reloc
word_relocs section offset [] = []
word_relocs section offset (word ∷ more) =
    relocs_of (place_at section offset) (link_of word) ++ word_relocs section (sum_64 offset 4) more

abbrev pub words_bytes : List NamePlace → List Word → List ℕ
words_bytes labels words = flat_map (λ word. word_bytes (section_word labels word)) words

abbrev pub words_piece : List NamePlace → Place → List Word → Piece
words_piece labels place words = record {
  place = place;
  code = false;
  bytes = words_bytes labels words;
  relocs = word_relocs place.section place.offset words;
}

abbrev pub bytes_piece : Place → Bool → List ℕ → Piece
bytes_piece place code bytes = record { place = place; code = code; bytes = bytes; relocs = [] }

-- a text is filled with instructions, which count as code; another section with zeros
abbrev pub filling_piece : Place → ℕ → Piece
filling_piece place count =
    bytes_piece place true (if same_section place.section Text then filling_bytes count else zeros count)

-- a literal pool, at a multiple of 4; nothing if it has no words
abbrev pub pool_pieces : List NamePlace → PlacedPool → List Piece
pool_pieces labels pool =
    if is_empty pool.words then []
    else filling_piece (place_at Text pool.from) (gap pool.from 4)
    ∷ words_piece labels (place_at Text (sum_64 pool.from (gap pool.from 4))) pool.words ∷ []

-- the words of a function's table, at a multiple of 4
abbrev pub table_pieces : ℕ → Option EntryWords → List Piece
table_pieces place (Some (entry.Table words)) =
    bytes_piece (place_at Extab place) false (zeros (gap place 4) ++ flat_map word_bytes words) ∷ []
table_pieces place (Some entry.CantUnwind) = []
table_pieces place (Some (entry.Inline _)) = []
table_pieces place None = []

abbrev pub bytes_of_code : Result Code EncodeFault → List ℕ
bytes_of_code (Ok code) = code_bytes code
bytes_of_code (Err _) = []

abbrev pub bytes_of_coded : Option (Result Code EncodeFault) → List ℕ
bytes_of_coded (Some code) = bytes_of_code code
bytes_of_coded None = []

abbrev pub bytes_of_instruction : Option Instr → List ℕ
bytes_of_instruction i = bytes_of_coded (encode_option i)

abbrev pub low_byte_or_zero : ℤ → ℕ
low_byte_or_zero (pos n) = if nat_lt n 256 then n else 0
low_byte_or_zero (negsuc n) = 0

-- the halfword of `udf`, which the encoder doesn't have
abbrev pub undefined_half : Option Operation → Option ℕ
undefined_half None = None
undefined_half (Some (Nameless _)) = None
undefined_half (Some (Undefined imm)) = Some (0xde00 + low_byte_or_zero imm)
undefined_half (Some (AdrOf _ _)) = None
undefined_half (Some (LdrOf _ _)) = None
undefined_half (Some (LdrValue _ _)) = None
undefined_half (Some (BTo _)) = None
undefined_half (Some (BCondTo _ _)) = None
undefined_half (Some (BlTo _)) = None
undefined_half (Some (BWideTo _)) = None
undefined_half (Some (CbzTo _ _ _)) = None

abbrev pub udf_half : StmtKind → Option ℕ
udf_half kind = undefined_half (operation kind)

abbrev pub bytes_of_half : Option ℕ → List ℕ
bytes_of_half None = []
bytes_of_half (Some half) = half_bytes half

-- the bytes of an instruction, given the result of the encoder
abbrev pub code_bytes_of : StmtKind → Option (Result Code EncodeFault) → List ℕ
code_bytes_of kind code = bytes_of_half (udf_half kind) ++ bytes_of_coded code

abbrev pub code_piece : List NamePlace → StmtKind → Place → Option (Result Code EncodeFault) → Piece
code_piece labels kind place code = record {
  place = place;
  code = true;
  bytes = code_bytes_of kind code;
  relocs = relocs_of place (branch_link labels kind);
}

abbrev pub instruction_piece : List NamePlace → StmtKind → Place → Option ℕ → Piece
instruction_piece labels kind place word = code_piece labels kind place (encode_option (instruction labels kind place.offset word))

-- the bytes of fields: of words if the width takes addresses, else of numbers
abbrev pub fields_bytes : List NamePlace → Width → List Expr → List ℕ
fields_bytes labels width fields =
    if takes_addresses width then words_bytes labels (map word_of fields)
    else flat_map (λ field. little_bytes (bytes_of width) (low_or_zero (number labels field))) fields

-- the bytes of data
abbrev pub bytes_of_data : List NamePlace → Option StmtData → List ℕ
bytes_of_data labels None = []
bytes_of_data labels (Some (FieldsOf width fields)) = fields_bytes labels width fields
bytes_of_data labels (Some (TextOf text closed)) = if closed then text ++ 0 ∷ [] else text
bytes_of_data labels (Some (ZerosOf n)) = zeros (natural n)

abbrev pub data_bytes : List NamePlace → StmtKind → List ℕ
data_bytes labels kind = bytes_of_data labels (stmt_data kind)

-- the relocations of fields from a place on, if the width takes addresses
abbrev pub fields_relocs : Width → List Expr → Place → List Reloc
fields_relocs width fields place = if takes_addresses width then word_relocs place.section place.offset (map word_of fields) else []

-- the relocations of data
abbrev pub relocs_of_data : Option StmtData → Place → List Reloc
relocs_of_data None place = []
relocs_of_data (Some (FieldsOf width fields)) place = fields_relocs width fields place
relocs_of_data (Some (TextOf _ _)) place = []
relocs_of_data (Some (ZerosOf _)) place = []

abbrev pub data_relocs : StmtKind → Place → List Reloc
data_relocs kind place = relocs_of_data (stmt_data kind) place

abbrev pub data_piece : List NamePlace → StmtKind → Place → Piece
data_piece labels kind place = record {
  place = place;
  code = false;
  bytes = data_bytes labels kind;
  relocs = data_relocs kind place;
}

-- the literal pool or the unwind table that a statement emits
abbrev pub pieces_of_puts : List (Option EntryWords) → List NamePlace → Puts → List Piece
pieces_of_puts entries labels (puts.Pool pool) = pool_pieces labels pool
pieces_of_puts entries labels (puts.Function function) =
    table_pieces function.from (entry_at entries function.number)
pieces_of_puts entries labels puts.Nothing = []

-- what a statement fills, or else what it emits; only `.align` fills
abbrev pub filled_or : Sort → Place → List Piece → List Piece
filled_or (CodeOf _ _) place put = put
filled_or (DataOf _) place put = put
filled_or (Filling n) place put = filling_piece place (gap place.offset (multiple n)) ∷ []
filled_or (AboutName _) place put = put
filled_or Bare place put = put

-- the filling of a statement, or the pool or table that it emits
abbrev pub set_pieces : List (Option EntryWords) → List NamePlace → StmtKind → Place → Puts → List Piece
set_pieces entries labels kind place put = filled_or (sort_of kind) place (pieces_of_puts entries labels put)

-- a statement's own bytes, given the result of the encoder
abbrev pub own_piece_by : List NamePlace → StmtKind → Place → Option (Result Code EncodeFault) → Piece
own_piece_by labels kind place code = if is_instruction kind then code_piece labels kind place code else data_piece labels kind place

-- the same, given the place of its pool word, if it has one
abbrev pub own_piece : List NamePlace → StmtKind → Place → Option ℕ → Piece
own_piece labels kind place word = own_piece_by labels kind place (encode_option (instruction labels kind place.offset word))

-- the pieces of a statement where it stands
abbrev pub pieces_at : List (Option EntryWords) → List NamePlace → PlacedStmt → List Piece
pieces_at entries labels placed =
    set_pieces entries labels placed.stmt.kind placed.at placed.puts
    ++ own_piece labels placed.stmt.kind placed.at placed.word ∷ []

-- the pieces of statements in the order of the text, the pool at its end last
unfoldable pub pieces_of : List (Option EntryWords) → List NamePlace → List PlacedStmt → PlacedPool → List Piece
pieces_of entries labels [] last = pool_pieces labels last
pieces_of entries labels (placed ∷ more) last = pieces_at entries labels placed ++ pieces_of entries labels more last

-- a section's bytes and relocations are those of its pieces
abbrev pub bytes_in : Section → List Piece → List ℕ
bytes_in section pieces = flat_map (λ piece. if same_section piece.place.section section then piece.bytes else []) pieces

abbrev pub relocs_in : Section → List Piece → List Reloc
relocs_in section pieces = flat_map (λ piece. if same_section piece.place.section section then piece.relocs else []) pieces

abbrev pub same_bool : Bool → Bool → Bool
same_bool true code = code
same_bool false code = not code

abbrev pub changes_to : Option Bool → Bool → Bool
changes_to None code = true
changes_to (Some last) code = not (same_bool last code)

-- a piece that has bytes of the text
abbrev pub is_text_piece : Piece → Bool
is_text_piece piece = same_section piece.place.section Text && not (length piece.bytes == 0)

-- a mark, if the bytes at a place of the text are of another kind than the bytes before
abbrev pub mark_of : Option Bool → ℕ → Bool → List Mark
mark_of last place code = if changes_to last code then record { offset = place % 2 ^ 32; code = code } ∷ [] else []

-- the changes between code and data in the text; its first bytes make one
unfoldable pub marks_from : Option Bool → List Piece → List Mark
marks_from last [] = []
marks_from last (piece ∷ more) =
    if is_text_piece piece
    then mark_of last piece.place.offset piece.code ++ marks_from (Some piece.code) more
    else marks_from last more

abbrev pub row_entry : ℕ → EntryWords → RowEntry
row_entry table entry.CantUnwind = row.CantUnwind
row_entry table (entry.Inline word) = row.Inline word
row_entry table (entry.Table _) = row.Table (table % 2 ^ 32)

-- a function's row: its place, and its table at a multiple of 4
abbrev pub row_of : PlacedFunction → Option EntryWords → List IndexRow
row_of function None = []
row_of function (Some words) = record {
  offset = function.start % 2 ^ 32;
  entry = row_entry (sum_64 function.from (gap function.from 4)) words;
} ∷ []

-- the row of the function that a statement begins
abbrev pub rows_of_puts : List (Option EntryWords) → Puts → List IndexRow
rows_of_puts entries (puts.Function function) = row_of function (entry_at entries function.number)
rows_of_puts entries (puts.Pool _) = []
rows_of_puts entries puts.Nothing = []

-- the rows of functions in the order of the text
abbrev pub rows_of : List (Option EntryWords) → List PlacedStmt → List IndexRow
rows_of entries placed = flat_map (λ p. rows_of_puts entries p.puts) placed
