-- The bytes of the image built from sources, or the line of the first refusal.
use Rattle.std.specs.Prelude.{ℕ, Bool, true, false, List, [], ◌∷◌, ◌++◌, codes, Result, Ok, Err}
use Rattle.std.specs.Result.{result_map_both}
use Rattle.asm_layout.specs.declared.fault.AsmWhat.{AsmWhat}
use Rattle.asm_layout.specs.declared.fault.AsmWhat.TheVariants as asm
use Rattle.asm_object.specs.Objects.{object_of}
use Rattle.asm_relocatable.specs.declared.object.Object.{Object}
use Rattle.asm_read.specs.Reading.{source_stmts}
use Rattle.asm_statements.specs.declared.statement.Stmt.{Stmt}
use Rattle.asm_read.specs.declared.fault.SourceWhat.{SourceWhat}
use Rattle.asm_read.specs.declared.fault.SourceWhat.TheVariants as source
use Rattle.eh_kit.specs.Stubs.{stubs_text}
use Rattle.eh_link.specs.Linked.{link_result}
use Rattle.eh_link.specs.declared.fault.LinkFault.{LinkFault}
use Rattle.eh_link.specs.declared.fault.LinkFault.TheVariants as link
use Rattle.elf_image.specs.declared.fault.ImageFault.{ImageFault}
use Rattle.elf_image.specs.declared.fault.ImageFault.TheVariants as image
use Rattle.elf_write.specs.Layout.{write_result}
use Rattle.elf_write.specs.declared.parts.ImageParts.{ImageParts}
use Rattle.eh_port.specs.FileList.{answer_of}
use Rattle.eh_port.specs.declared.files.FileAnswer.{FileAnswer}
use Rattle.eh_port.specs.declared.files.FileAnswer.TheVariants.{Found, Missing, TooLong}
use Rattle.cmd_input.specs.RefusalText.{source_line, asm_line, link_line, schedule_line}
use Rattle.cmd_input.specs.Sources.{NamedText, NamedStmts, Refusal, and_then, all_answers}
use Rattle.cmd_answers.specs.Files.{missing_line, too_long_line}
use Rattle.gnu_index.specs.declared.refusal.GnuFault.{GnuFault}
use Rattle.gnu_index.specs.declared.refusal.GnuFault.TheVariants as tables
use Rattle.cmd_lines.specs.CheckText.{index_line}
use Rattle.cmd_lines.specs.TablesText.{tables_line}
use Rattle.cmd_lines.specs.Text.{image_fault_line}
use Rattle.cmd_input.specs.declared.refusal.BuildFault.{BuildFault}
use Rattle.cmd_input.specs.declared.refusal.BuildFault.TheVariants.{InSource, InObject, InLink, InImage, InIndex, InTables, InSchedule, OutOfMemory}
use Rattle.cmd_input.specs.declared.refusal.FilesFault.{FilesFault}
use Rattle.cmd_input.specs.declared.refusal.FilesFault.TheVariants as files
use Rattle.cmd_input.specs.declared.sources.TheConstants.{FILE_LIMIT}
use Rattle.cmd_answers.specs.declared.status.TheConstants.{REFUSED, FILE_UNAVAILABLE}
use Rattle.cmd_input.specs.declared.sources.LoadedFiles.{LoadedFiles}
use Rattle.cmd_input.specs.declared.sources.LoadedFiles.TheVariants.{All, Lacks, Exceeds}

-- ---- files

abbrev pub found_text : List ℕ → FileAnswer → Result NamedText (List ℕ)
found_text name (Found bytes) = Ok (record { name = name; text = bytes })
found_text name Missing = Err (missing_line name)
found_text name TooLong = Err (too_long_line name)

-- the file of a name, or the line of a missing or too long one
abbrev pub file_of : List (List ℕ × List ℕ) → List ℕ → Result NamedText (List ℕ)
file_of files name = found_text name (answer_of files name FILE_LIMIT)

abbrev pub files_of : List (List ℕ × List ℕ) → List (List ℕ) → Result (List NamedText) (List ℕ)
files_of files names = all_answers (file_of files) names

abbrev pub loaded_texts : LoadedFiles → Result (List NamedText) (List ℕ)
loaded_texts (All sources) = Ok sources.items
loaded_texts (Lacks name) = Err (missing_line name.now)
loaded_texts (Exceeds name) = Err (too_long_line name.now)

-- ---- from sources to the bytes of an image

abbrev pub named_stmts : List ℕ → List Stmt → NamedStmts
named_stmts name stmts = record { name = name; stmts = stmts }

abbrev pub statements_of : NamedText → Result NamedStmts (List ℕ)
statements_of source = result_map_both (named_stmts source.name) (source_line source.name) (source_stmts source.text)

abbrev pub assemble_source : NamedStmts → Result Object (List ℕ)
assemble_source source = result_map_both (λ object. object) (asm_line source.name) (object_of source.stmts)

-- the entry is the function `_start`
abbrev pub linked_parts : List Object → Result ImageParts (List ℕ)
linked_parts objects = result_map_both (λ parts. parts) link_line (link_result objects (codes "_start"))

abbrev pub written_bytes : ImageParts → Result (List ℕ) (List ℕ)
written_bytes parts = result_map_both (λ bytes. bytes) image_fault_line (write_result parts)

-- the runtime's own source, under the name `stubs`
abbrev pub stubs : NamedText
stubs = record { name = codes "stubs"; text = stubs_text }

-- All sources are read, then all are assembled, then they are linked, and the image is written. The stubs come last.
unfoldable pub build_image : List NamedText → Result (List ℕ) (List ℕ)
build_image sources =
    and_then (all_answers statements_of (sources ++ stubs ∷ [])) (λ read.
    and_then (all_answers assemble_source read) (λ objects.
    and_then (linked_parts objects) written_bytes))

-- ---- from files to the bytes of an image

-- what is made of the files' contents, or the line that says why it is refused
abbrev pub or_refusal : {T : Type 0} → Result T (List ℕ) → Result T Refusal
or_refusal (Ok made) = Ok made
or_refusal (Err line) = Err (record { status = REFUSED; line = line })

-- what is made of files, if all of them are there
abbrev pub made_of_files : {T : Type 0} → (List NamedText → Result T (List ℕ)) → Result (List NamedText) (List ℕ) → Result T Refusal
made_of_files make (Ok files) = or_refusal (make files)
made_of_files make (Err line) = Err (record { status = FILE_UNAVAILABLE; line = line })

-- The bytes of the image built from the sources of these names, or why there are none: a file is missing or too long, or the sources are
-- refused.
unfoldable pub image_bytes : List (List ℕ) → List (List ℕ × List ℕ) → Result (List ℕ) Refusal
image_bytes names files = made_of_files build_image (files_of files names)

-- ---- refusals as values of the program's types

abbrev pub is_source_memory : SourceWhat → Bool
is_source_memory source.OutOfMemory = true
is_source_memory what = false

abbrev pub is_asm_memory : AsmWhat → Bool
is_asm_memory asm.OutOfMemory = true
is_asm_memory what = false

abbrev pub is_link_memory : LinkFault → Bool
is_link_memory link.OutOfMemory = true
is_link_memory fault = false

abbrev pub is_image_memory : ImageFault → Bool
is_image_memory image.OutOfMemory = true
is_image_memory fault = false

abbrev pub is_tables_memory : GnuFault → Bool
is_tables_memory (tables.Entry e) = false
is_tables_memory tables.TooLarge = false
is_tables_memory tables.OutOfMemory = true

-- lack of memory
abbrev pub is_memory : BuildFault → Bool
is_memory (InSource name fault) = is_source_memory fault.what
is_memory (InObject name fault) = is_asm_memory fault.what
is_memory (InLink fault) = is_link_memory fault
is_memory (InImage fault) = is_image_memory fault
is_memory (InIndex fault) = false
is_memory (InTables fault) = is_tables_memory fault
is_memory (InSchedule name at) = false
is_memory OutOfMemory = true

-- the line of a refusal; lack of memory has none
abbrev pub fault_line : BuildFault → List ℕ
fault_line (InSource name fault) = source_line name.now fault
fault_line (InObject name fault) = asm_line name.now fault
fault_line (InLink fault) = link_line fault
fault_line (InImage fault) = image_fault_line fault
fault_line (InIndex fault) = index_line fault
fault_line (InTables fault) = tables_line fault
fault_line (InSchedule name at) = schedule_line name.now at
fault_line OutOfMemory = []

-- lack of memory, for files
abbrev pub wants_memory : FilesFault → Bool
wants_memory (files.Missing name) = false
wants_memory (files.TooLong name) = false
wants_memory (files.Sources fault) = is_memory fault

abbrev pub refusal_of : FilesFault → Refusal
refusal_of (files.Missing name) = record { status = FILE_UNAVAILABLE; line = missing_line name.now }
refusal_of (files.TooLong name) = record { status = FILE_UNAVAILABLE; line = too_long_line name.now }
refusal_of (files.Sources fault) = record { status = REFUSED; line = fault_line fault }
