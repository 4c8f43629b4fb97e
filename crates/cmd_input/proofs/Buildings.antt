-- What sources are built to, from what each part of the way answers.
use Rattle.std.proofs.Common.{◌≡◌, ℕ, List, [], ◌∷◌, ◌++◌, Ok, Err, refl}
use Rattle.asm_relocatable.specs.declared.object.Object.{Object}
use Rattle.elf_write.specs.declared.parts.ImageParts.{ImageParts}
use Rattle.cmd_input.specs.Building.{statements_of, assemble_source, linked_parts, written_bytes, stubs, build_image}
use Rattle.cmd_input.specs.Sources.{NamedText, NamedStmts, all_answers}

pub not_read : (sources : List NamedText) (line : List ℕ) → all_answers statements_of (sources ++ stubs ∷ []) ≡ Err line → build_image sources ≡ Err line
unfolding build_image
not_read sources line e = rw e refl

pub not_assembled : (sources : List NamedText) (read : List NamedStmts) (line : List ℕ)
    → all_answers statements_of (sources ++ stubs ∷ []) ≡ Ok read → all_answers assemble_source read ≡ Err line → build_image sources ≡ Err line
unfolding build_image
not_assembled sources read line e f = rw (e, f) refl

pub not_linked : (sources : List NamedText) (read : List NamedStmts) (objects : List Object) (line : List ℕ)
    → all_answers statements_of (sources ++ stubs ∷ []) ≡ Ok read → all_answers assemble_source read ≡ Ok objects → linked_parts objects ≡ Err line → build_image sources ≡ Err line
unfolding build_image
not_linked sources read objects line e f g = rw (e, f, g) refl

pub all_linked : (sources : List NamedText) (read : List NamedStmts) (objects : List Object) (parts : ImageParts)
    → all_answers statements_of (sources ++ stubs ∷ []) ≡ Ok read → all_answers assemble_source read ≡ Ok objects → linked_parts objects ≡ Ok parts → build_image sources ≡ written_bytes parts
unfolding build_image
all_linked sources read objects parts e f g = rw (e, f, g) refl
