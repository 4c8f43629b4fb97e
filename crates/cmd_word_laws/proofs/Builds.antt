-- How sources are built: the first refusal of a step is that of the whole.
use Rattle.std.specs.Result.{result_map_both}
use Rattle.std.proofs.Common.{◌≡◌, ℕ, List, [], ◌∷◌, ◌++◌, codes, Result, Ok, Err, refl, sym, ap, ◌∙◌}
use Rattle.asm_layout.specs.declared.fault.AsmFault.{AsmFault}
use Rattle.asm_object.specs.Objects.{object_of}
use Rattle.asm_read.specs.Reading.{source_stmts}
use Rattle.asm_read.specs.declared.fault.SourceFault.{SourceFault}
use Rattle.eh_link.specs.Linked.{link_result}
use Rattle.elf_write.specs.declared.parts.ImageParts.{ImageParts}
use Rattle.asm_relocatable.specs.declared.object.Object.{Object}
use Rattle.cmd_input.specs.Building.{named_stmts, statements_of, assemble_source, linked_parts, written_bytes, build_image}
use Rattle.cmd_input.specs.RefusalText.{source_line, asm_line, link_line}
use Rattle.cmd_input.specs.Sources.{NamedText, NamedStmts, and_then, and_rest, all_answers}
use Rattle.cmd_lines.specs.Text.{image_fault_line}
use Rattle.cmd_word_laws.specs.Builds.{with_stubs, AreRead, AreAssembled, AssemblesSources, BuildsAreInOrder}

-- ---- reading

reads : (sources : List NamedText) (read : List NamedStmts) → AreRead sources read → all_answers statements_of sources ≡ Ok read
unfolding all_answers
reads [] [] h = refl
reads [] (statements ∷ read) h = absurd h
reads (source ∷ sources) [] h = absurd h
reads (source ∷ sources) (statements ∷ read) h =
    ap (λ a. and_rest (result_map_both (named_stmts source.name) (source_line source.name) a) (all_answers statements_of sources)) h.1
    ∙ ap (and_rest (Ok (named_stmts source.name statements.stmts))) (reads sources read h.2)
    ∙ ap (λ n. Ok (named_stmts n statements.stmts ∷ read)) (sym h.0)

stops_reading : (before after : List NamedText) (read : List NamedStmts) (source : NamedText) (fault : SourceFault) → AreRead before read → source_stmts source.text ≡ Err fault
    → all_answers statements_of (before ++ source ∷ after) ≡ Err (source_line source.name fault)
unfolding all_answers
stops_reading [] after [] source fault h e = ap (λ a. and_rest (result_map_both (named_stmts source.name) (source_line source.name) a) (all_answers statements_of after)) e
stops_reading [] after (statements ∷ read) source fault h e = absurd h
stops_reading (one ∷ before) after [] source fault h e = absurd h
stops_reading (one ∷ before) after (statements ∷ read) source fault h e =
    ap (λ a. and_rest (result_map_both (named_stmts one.name) (source_line one.name) a) (all_answers statements_of (before ++ source ∷ after))) h.1
    ∙ ap (and_rest (Ok (named_stmts one.name statements.stmts))) (stops_reading before after read source fault h.2 e)

-- ---- assembling

assembles : (read : List NamedStmts) (objects : List Object) → AreAssembled read objects → all_answers assemble_source read ≡ Ok objects
unfolding all_answers
assembles [] [] h = refl
assembles [] (object ∷ objects) h = absurd h
assembles (statements ∷ read) [] h = absurd h
assembles (statements ∷ read) (object ∷ objects) h =
    ap (λ a. and_rest (result_map_both (λ o. o) (asm_line statements.name) a) (all_answers assemble_source read)) h.0
    ∙ ap (and_rest (Ok object)) (assembles read objects h.1)

stops_assembling : (before after : List NamedStmts) (objects : List Object) (source : NamedStmts) (fault : AsmFault) → AreAssembled before objects → object_of source.stmts ≡ Err fault
    → all_answers assemble_source (before ++ source ∷ after) ≡ Err (asm_line source.name fault)
unfolding all_answers
stops_assembling [] after [] source fault h e = ap (λ a. and_rest (result_map_both (λ o. o) (asm_line source.name) a) (all_answers assemble_source after)) e
stops_assembling [] after (object ∷ objects) source fault h e = absurd h
stops_assembling (one ∷ before) after [] source fault h e = absurd h
stops_assembling (one ∷ before) after (object ∷ objects) source fault h e =
    ap (λ a. and_rest (result_map_both (λ o. o) (asm_line one.name) a) (all_answers assemble_source (before ++ source ∷ after))) h.0
    ∙ ap (and_rest (Ok object)) (stops_assembling before after objects source fault h.1 e)

-- ---- the steps

after_assembled : List Object → Result (List ℕ) (List ℕ)
after_assembled objects = and_then (linked_parts objects) written_bytes

after_read : List NamedStmts → Result (List ℕ) (List ℕ)
after_read read = and_then (all_answers assemble_source read) after_assembled

built_is : (sources : List NamedText) → build_image sources ≡ and_then (all_answers statements_of (with_stubs sources)) after_read
unfolding build_image after_read after_assembled
built_is sources = refl

all_read : (sources : List NamedText) (read : List NamedStmts) → AreRead (with_stubs sources) read → build_image sources ≡ after_read read
all_read sources read h = built_is sources ∙ ap (λ a. and_then a after_read) (reads (with_stubs sources) read h)

all_assembled : (sources : List NamedText) (objects : List Object) → AssemblesSources sources objects → build_image sources ≡ after_assembled objects
unfolding after_read
all_assembled sources objects h = all_read sources h.read h.are_read ∙ ap (λ a. and_then a after_assembled) (assembles h.read objects h.are_assembled)

all_linked : (sources : List NamedText) (objects : List Object) (parts : ImageParts) → AssemblesSources sources objects → link_result objects (codes "_start") ≡ Ok parts → build_image sources ≡ written_bytes parts
unfolding after_assembled
all_linked sources objects parts h e = all_assembled sources objects h ∙ ap (λ a. and_then (result_map_both (λ p. p) link_line a) written_bytes) e

none_linked : (sources : List NamedText) (objects : List Object) (line : List ℕ) → AssemblesSources sources objects → linked_parts objects ≡ Err line → build_image sources ≡ Err line
unfolding after_assembled
none_linked sources objects line h e = all_assembled sources objects h ∙ ap (λ a. and_then a written_bytes) e

none_assembled : (sources : List NamedText) (read : List NamedStmts) (line : List ℕ) → AreRead (with_stubs sources) read → all_answers assemble_source read ≡ Err line → build_image sources ≡ Err line
unfolding after_read
none_assembled sources read line h e = all_read sources read h ∙ ap (λ a. and_then a after_assembled) e

pub builds : BuildsAreInOrder
builds = record {
  unread = λ sources before after read source fault is h e.
      built_is sources ∙ ap (λ a. and_then a after_read) (ap (all_answers statements_of) is ∙ stops_reading before after read source fault h e);
  unassembled = λ sources read before after objects source fault h is g e.
      none_assembled sources read (asm_line source.name fault) h (ap (all_answers assemble_source) is ∙ stops_assembling before after objects source fault g e);
  unlinked = λ sources objects fault h e. none_linked sources objects (link_line fault) h (ap (result_map_both (λ p. p) link_line) e);
  unwritten = λ sources objects parts fault h e f. all_linked sources objects parts h e ∙ ap (result_map_both (λ b. b) image_fault_line) f;
  image = λ sources objects parts bytes h e f. all_linked sources objects parts h e ∙ ap (result_map_both (λ b. b) image_fault_line) f;
}
