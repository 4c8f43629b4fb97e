-- The words of a function's index entry or table, by its bytecode (IHI 0038, the compact model).
use Rattle.std.specs.Prelude.{ℕ, ◌+◌, ◌*◌, ◌/◌, ◌^◌, ◌==◌, not, Bool, nat_lt, nat_le, if◌then◌else◌, List, [], ◌∷◌, ◌++◌, map, length, slice_index_or, Option, unwrap_or, Result, Ok, Err}
use Rattle.std.specs.List.{range_with_len}
use Rattle.asm_unwind.specs.declared.directive.UnwindDirective.{UnwindDirective}
use Rattle.asm_unwind.specs.declared.directive.UnwindFault.{UnwindFault}
use Rattle.asm_unwind.specs.declared.directive.UnwindFault.TheVariants.{OutsideFunction, TooLong}
use Rattle.asm_unwind.specs.declared.entry.EntryWords.{EntryWords}
use Rattle.asm_unwind.specs.declared.entry.EntryWords.TheVariants.{CantUnwind, Inline, Table}
use Rattle.asm_unwind.specs.declared.entry.TheConstants.{SHORT_ROOM, LONG_ROOM}
use Rattle.eh_codes.specs.declared.code.TheConstants.{FINISH}
use Rattle.eh_codes.specs.declared.words.TheConstants.{COMPACT_TOP}
use Rattle.asm_unwind.specs.Refusals.{directive_state_of}
use Rattle.asm_unwind.specs.Codes.{bytecode_of}

-- the byte of bytecode at an index; "finish" past the end
abbrev pub code_byte : List ℕ → ℕ → ℕ
code_byte bytes at = slice_index_or bytes at FINISH

-- a word of four bytes, its top byte first
abbrev pub word : ℕ → ℕ → ℕ → ℕ → ℕ
word a b c d = a * 2 ^ 24 + b * 2 ^ 16 + c * 2 ^ 8 + d

-- the word of four bytes of bytecode
unfoldable pub word_at : List ℕ → ℕ → ℕ
word_at bytes at = word (code_byte bytes at) (code_byte bytes (at + 1)) (code_byte bytes (at + 2)) (code_byte bytes (at + 3))

-- the number of the personality routine: the given one; else 0 if the bytecode fits a short entry, and 1 if it doesn't
abbrev pub index_of : Option ℕ → List ℕ → ℕ
index_of given bytes = unwrap_or given (if nat_le (length bytes) SHORT_ROOM then 0 else 1)

-- the most bytes of bytecode in an entry
abbrev pub room : ℕ → ℕ
room index = if index == 0 then SHORT_ROOM else LONG_ROOM

-- how many further words hold the bytes after the first two
abbrev pub further_words : List ℕ → ℕ
further_words bytes = (length bytes + 1) / 4

-- personality 0: three bytes in one word
unfoldable pub short_entry : List ℕ → ℕ
short_entry bytes = word COMPACT_TOP (code_byte bytes 0) (code_byte bytes 1) (code_byte bytes 2)

-- personality 1 and 2: the number of further words and two bytes in the first word, four bytes in each further one
unfoldable pub long_entry : ℕ → List ℕ → List ℕ
long_entry index bytes =
    word (COMPACT_TOP + index) (further_words bytes) (code_byte bytes 0) (code_byte bytes 1)
    ∷ map (λ k. word_at bytes (2 + 4 * k)) (range_with_len 0 (further_words bytes))

-- the entry of bytecode. With personality 0 it is inline where the source gives no words of its own; with 1 and 2 a
-- zero word closes the empty list of descriptors there
unfoldable pub entry_of : ℕ → Bool → List ℕ → EntryWords
entry_of index handler_data bytes =
    if index == 0
    then (if handler_data then Table (short_entry bytes ∷ []) else Inline (short_entry bytes))
    else Table (long_entry index bytes ++ (if handler_data then [] else 0 ∷ []))

-- the entry of a function's bytecode, if it fits
abbrev pub entry_of_code : Option ℕ → Bool → List ℕ → Result EntryWords UnwindFault
entry_of_code personality handler_data bytes =
    if nat_lt (room (index_of personality bytes)) (length bytes) then Err TooLong
    else Ok (entry_of (index_of personality bytes) handler_data bytes)

-- the entry of a function by its directives, or why there is none
unfoldable pub entry_words_of : List UnwindDirective → Result EntryWords UnwindFault
entry_words_of directives =
    if not (directive_state_of directives).ended then Err OutsideFunction
    else (if (directive_state_of directives).cant_unwind then Ok CantUnwind
    else entry_of_code (directive_state_of directives).personality (directive_state_of directives).handler_data (bytecode_of directives))
