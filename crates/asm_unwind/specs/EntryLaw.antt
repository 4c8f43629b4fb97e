-- An entry contains its bytecode: the bytes read out of it, by the compact model of IHI 0038, are the bytecode padded
-- by "finish". Decoded, they give the instructions of the directives.
use Rattle.std.specs.Prelude.{◌≡◌, ℕ, ◌+◌, ◌/◌, ◌^◌, ◌<◌, ◌≤◌, ◌==◌, ◌||◌, ◌&&◌, not, Bool, true, false, if◌then◌else◌, List, [], ◌∷◌, ◌++◌, map, length, replicate, All, MatchOption, ⊤, Ok}
use Rattle.eh_codes.specs.declared.code.UnwindCode.{UnwindCode}
use Rattle.eh_codes.specs.declared.code.UnwindCode.TheVariants.{Finish}
use Rattle.eh_codes.specs.declared.code.TheConstants.{FINISH}
use Rattle.eh_codes.specs.declared.words.TheConstants.{COMPACT_TOP, MOST_PERSONALITY}
use Rattle.eh_codes.specs.Cut.{Is, split_codes}
use Rattle.eh_codes.specs.Words.{code_words_after, code_of_words, words_after_code}
use Rattle.asm_unwind.specs.declared.directive.UnwindDirective.{UnwindDirective}
use Rattle.asm_unwind.specs.declared.entry.EntryWords.{EntryWords}
use Rattle.asm_unwind.specs.declared.entry.EntryWords.TheVariants.{CantUnwind, Inline, Table}
use Rattle.asm_unwind.specs.Refusals.{directive_state_of}
use Rattle.asm_unwind.specs.Codes.{IsWritable, codes_of, bytecode_of}
use Rattle.asm_unwind.specs.Entries.{room, index_of, entry_of, entry_words_of}

-- the words of an entry, in the index row or in the table
abbrev pub words_in_entry : EntryWords → List ℕ
words_in_entry CantUnwind = []
words_in_entry (Inline word) = word ∷ []
words_in_entry (Table words) = words

-- the code bytes of an entry
abbrev pub code_of : EntryWords → List ℕ
code_of entry = code_of_words (words_in_entry entry)

-- the top byte of words
abbrev pub top_byte : List ℕ → ℕ
top_byte [] = 0
top_byte (first ∷ _) = first / 2 ^ 24

-- the words that the first one counts are there
abbrev pub HasItsWords : List ℕ → Type 0
HasItsWords [] = ⊤
HasItsWords (first ∷ more) = code_words_after first ≤ length more

abbrev pub is_inline : EntryWords → Bool
is_inline (Inline _) = true
is_inline _ = false

-- An entry of bytecode has its top bit set and the personality's number in its top byte, and has all words that it
-- counts. Its bytes are the bytecode and at most three "finish". In a table of personality 1 or 2, a zero word follows
-- the bytecode if the source gives no words of its own; else nothing does. Only with personality 0 and no such words
-- there is no table.
pub record HoldsCode (entry : EntryWords) (index : ℕ) (handler_data : Bool) (bytes : List ℕ) : Type 0 where
  pub top : top_byte (words_in_entry entry) ≡ COMPACT_TOP + index
  pub whole : HasItsWords (words_in_entry entry)
  pub fill : ℕ
  pub fill_is_short : fill ≤ 3
  pub code : code_of entry ≡ bytes ++ replicate fill FINISH
  pub after : words_after_code (words_in_entry entry) ≡ (if handler_data || index == 0 then [] else 0 ∷ [])
  pub place : is_inline entry ≡ (not handler_data && index == 0)

-- the entry of bytecode that fits contains that bytecode
abbrev pub EntriesHoldTheirCode : Type 0
EntriesHoldTheirCode =
    (index : ℕ) (handler_data : Bool) (bytes : List ℕ)
    → index ≤ MOST_PERSONALITY → length bytes ≤ room index → All (λ b. b < 2 ^ 8) bytes
    → HoldsCode (entry_of index handler_data bytes) index handler_data bytes

-- so the entry of a function, unless nothing unwinds through it, holds the codes of its directives, where their numbers are
-- within their limits
abbrev pub FunctionsHoldTheirCode : Type 0
FunctionsHoldTheirCode =
    (directives : List UnwindDirective) (entry : EntryWords)
    → All IsWritable directives → MatchOption (directive_state_of directives).personality ⊤ (λ index. index ≤ MOST_PERSONALITY)
    → (directive_state_of directives).cant_unwind ≡ false → entry_words_of directives ≡ Ok entry
    → HoldsCode entry (index_of (directive_state_of directives).personality (bytecode_of directives)) (directive_state_of directives).handler_data (bytecode_of directives)

-- the bytes of an entry decode to these instructions and at most three "finish"
pub record ReadsAs (entry : EntryWords) (codes : List UnwindCode) : Type 0 where
  pub fill : ℕ
  pub fill_is_short : fill ≤ 3
  pub items : split_codes (code_of entry) ≡ map Is codes ++ replicate fill (Is Finish)

-- and what is read there are the codes of the directives
abbrev pub FunctionsAreRead : Type 0
FunctionsAreRead =
    (directives : List UnwindDirective) (entry : EntryWords)
    → All IsWritable directives → MatchOption (directive_state_of directives).personality ⊤ (λ index. index ≤ MOST_PERSONALITY)
    → (directive_state_of directives).cant_unwind ≡ false → entry_words_of directives ≡ Ok entry
    → ReadsAs entry (codes_of directives)
