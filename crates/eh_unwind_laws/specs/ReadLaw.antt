-- The entry that the assembler writes for a function is accepted by the readers of tables (IHI 0038, "The compact model").
use Rattle.std.specs.Prelude.{◌≡◌, ℕ, List, false, All, Result, Ok, Err}
use Rattle.asm_unwind.specs.declared.directive.UnwindDirective.{UnwindDirective}
use Rattle.asm_unwind.specs.declared.entry.EntryWords.{EntryWords}
use Rattle.asm_unwind.specs.declared.entry.EntryWords.TheVariants.{CantUnwind, Inline, Table}
use Rattle.asm_unwind.specs.Refusals.{directive_state_of}
use Rattle.asm_unwind.specs.Entries.{entry_words_of}
use Rattle.asm_unwind.specs.EntryLaw.{code_of}
use Rattle.eh_bytecode.specs.declared.codes.CodesFault.{CodesFault}
use Rattle.eh_bytecode.specs.declared.codes.CodesFault.TheVariants.{Short}
use Rattle.eh_bytecode.specs.Codes.{inline_codes, codes_of_words}
use Rattle.eh_unwind_laws.specs.PrologueLaw.{IsOfItsType, NoneRefused}

-- the unwind instructions that a reader finds in an entry: in the word of the row, or in the words of the table
abbrev pub codes_in : EntryWords → Result (List ℕ) CodesFault
codes_in CantUnwind = Err Short
codes_in (Inline word) = inline_codes word
codes_in (Table words) = codes_of_words words

-- it is refused for no function through which frames are unwound
abbrev pub EntriesAreRead : Type 0
EntriesAreRead =
    (directives : List UnwindDirective) (entry : EntryWords)
    → NoneRefused directives → All IsOfItsType directives → (directive_state_of directives).cant_unwind ≡ false → entry_words_of directives ≡ Ok entry
    → codes_in entry ≡ Ok (code_of entry)
