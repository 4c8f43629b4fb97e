-- How the unwind instructions of an entry unwind (IHI 0038).
use Rattle.std.specs.Prelude.{ℕ, ◌+◌, ◌^◌, ◌==◌, ◌&&◌, ◌||◌, not, Bool, true, if◌then◌else◌, List, [], ◌∷◌, Option, Some, None, Result, Ok, Err, slice_index_or}
use Rattle.std.specs.List.{list_any}
use Rattle.eh_codes.specs.Cut.{Item, split_codes}
use Rattle.eh_codes.specs.declared.row.EntryBody.{EntryBody}
use Rattle.eh_codes.specs.declared.row.EntryBody.TheVariants.{CantUnwind, Inline, Table}
use Rattle.eh_bytecode.specs.declared.codes.CodesFault.{CodesFault}
use Rattle.eh_bytecode.specs.declared.codes.CodesFault.TheVariants.{Short, Generic, Reserved}
use Rattle.eh_bytecode.specs.declared.recipe.Src.TheVariants.{Same}
use Rattle.eh_bytecode.specs.declared.recipe.Recipe.{Recipe}
use Rattle.eh_bytecode.specs.declared.recipe.RecipeFault.{RecipeFault}
use Rattle.eh_bytecode.specs.declared.recipe.RecipeFault.TheVariants.{BadCode, Refuses, NotStatic}
use Rattle.eh_bytecode.specs.Codes.{inline_codes, table_codes}
use Rattle.eh_bytecode.specs.Recipe.{is_same, recipe}
use Rattle.eh_bytecode.specs.Once.{popped_registers}
use Rattle.thumb_core.specs.declared.calls.TheConstants.{CALL_CHANGES}
use Rattle.frame_entries.specs.declared.unwinding.EntrySummary.{EntrySummary}
use Rattle.frame_entries.specs.declared.unwinding.EntrySummary.TheVariants.{Finds, Refused, BadBytecode, GenericModel}

-- no number stands twice
abbrev pub are_distinct : List ℕ → Bool
are_distinct [] = true
are_distinct (x ∷ more) = not (list_any (λ y. x == y) more) && are_distinct more

-- the codes pop no register twice
unfoldable pub pop_once : List Item → Bool
pop_once items = are_distinct (popped_registers items)

abbrev pub by_recipe : Result Recipe RecipeFault → Bool → EntrySummary
by_recipe (Ok r) once = if once then Finds r else BadBytecode
by_recipe (Err BadCode) once = BadBytecode
by_recipe (Err Refuses) once = Refused
by_recipe (Err NotStatic) once = BadBytecode

-- what codes say
abbrev pub summary_of_codes : List ℕ → EntrySummary
summary_of_codes codes = by_recipe (recipe (split_codes codes)) (pop_once (split_codes codes))

-- why there are no codes
abbrev pub summary_of_fault : CodesFault → EntrySummary
summary_of_fault Short = BadBytecode
summary_of_fault Generic = GenericModel
summary_of_fault Reserved = BadBytecode

abbrev pub summary_of_read : Result (List ℕ) CodesFault → EntrySummary
summary_of_read (Ok codes) = summary_of_codes codes
summary_of_read (Err fault) = summary_of_fault fault

abbrev pub of_table : Option (List ℕ) → EntrySummary
of_table None = BadBytecode
of_table (Some bytes) = summary_of_read (table_codes bytes)

-- how an entry unwinds, from its body and the bytes of its table
abbrev pub summary_of_body : EntryBody → Option (List ℕ) → EntrySummary
summary_of_body CantUnwind bytes = Refused
summary_of_body (Inline word) bytes = summary_of_read (inline_codes word)
summary_of_body (Table a) bytes = of_table bytes

-- ---- what a landing pad finds that is reached by a resume, after a cleanup

-- a register of r4 to r11 is the same as at the site after a resume: it is the base register, or the instructions don't pop it
abbrev pub keeps_register : Recipe → ℕ → Bool
keeps_register r reg = r.base == reg || is_same (slice_index_or r.src reg Same)

abbrev pub changes_register : EntrySummary → ℕ → Bool
changes_register (Finds r) reg = not (keeps_register r reg)
changes_register Refused reg = true
changes_register BadBytecode reg = true
changes_register GenericModel reg = true

-- the bit of a register that changes
abbrev pub change_bit : EntrySummary → ℕ → ℕ
change_bit u reg = if changes_register u reg then 2 ^ reg else 0

-- those of r4 to r11 that change, as a list by bits
abbrev pub resume_changes : EntrySummary → ℕ
resume_changes u =
    change_bit u 4 + change_bit u 5 + change_bit u 6 + change_bit u 7 + change_bit u 8 + change_bit u 9 + change_bit u 10 + change_bit u 11

-- the registers of which nothing is known at a landing pad: those that a call changes, and after a cleanup those that its resume
-- changes
abbrev pub landing_changes : EntrySummary → Bool → ℕ
landing_changes u resumed = CALL_CHANGES + (if resumed then resume_changes u else 0)
