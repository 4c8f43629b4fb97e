-- The bytes of texts are in the image, and zeros for those of a space.
use Rattle.std.proofs.Common.{◌≡◌, ℕ, pos, zero, suc, ◌+◌, ◌-◌, ◌*◌, ◌≤◌, ◌<◌, ◌==◌, not, true, List, [], ◌∷◌, ◌++◌, length, drop, Ok, refl, sym, ap, ◌∙◌, arith, append_assoc, length-append, length-drop, subst}
use Rattle.std.proofs.lemmas.Bool.Decides.{nat_tests}
use Rattle.std.proofs.lemmas.List.{drop-drop}
use Rattle.std.proofs.Math.Seq.{drop-append_seam}
use Rattle.byteorder.specs.Endian.{little_number}
use Rattle.eh_word.specs.Bytes.{zeros, length-zeros}
use Rattle.asm_statements.specs.declared.statement.Stmt.{Stmt}
use Rattle.asm_statements.specs.declared.statement.StmtKind.{StmtKind}
use Rattle.asm_statements.specs.declared.statement.StmtKind.TheVariants as statement
use Rattle.asm_relocatable.specs.declared.place.Section.TheVariants.{Bss}
use Rattle.asm_layout.specs.Functions.{entries_of}
use Rattle.asm_layout.specs.Labels.{labels_of}
use Rattle.asm_layout.specs.Walks.{cursor_place}
use Rattle.asm_relocatable.specs.Sections.{same_section}
use Rattle.asm_relocatable.specs.declared.object.Object.{Object}
use Rattle.asm_relocatable.specs.declared.object.Reloc.{Reloc}
use Rattle.asm_relocatable.specs.Fields.{bytes_at}
use Rattle.asm_object.specs.Pieces.{own_piece}
use Rattle.asm_object.proofs.ObjectLaws.{taken}
use Rattle.elf_write.specs.declared.parts.ImageParts.{ImageParts}
use Rattle.eh_link.specs.FieldLaw.{IsInNoField}
use Rattle.eh_link.specs.Placed.{PlacedObject}
use Rattle.eh_link.specs.Layout.{address_in}
use Rattle.eh_link.specs.Linked.{link_result}
use Rattle.eh_link.proofs.Words.{Reads}
use Rattle.asm_laws.specs.RowLaw.{walk_over}
use Rattle.link_laws.specs.MeaningLaw.{IsOneOf}
use Rattle.link_laws.specs.JoinedLaw.{NumberAt}
use Rattle.link_laws.specs.SaidLaw.{SaysThere, TextsSay, ZeroedTextsSay, SpacesSay}
use Rattle.link_laws.proofs.Given.{Given, given}
use Rattle.link_laws.proofs.Labels.{begins_at}
use Rattle.link_laws.proofs.Said.{not_there, number_stays}

byte_there : (offset byte : ℕ) (bytes front back after : List ℕ) → drop offset bytes ≡ (front ++ byte ∷ back) ++ after → Reads 1 bytes (offset + length front) byte
byte_there offset byte bytes front back after e =
    let there : drop (offset + length front) bytes ≡ byte ∷ back ++ after =
    sym (drop-drop (length front) offset bytes) ∙ ap (drop (length front)) (e ∙ append_assoc front (byte ∷ back) after) ∙ drop-append_seam front (byte ∷ back ++ after) in
    record {
      inside = inside (offset + length front) (length bytes) (length (drop (offset + length front) bytes)) (length (back ++ after)) (length-drop (offset + length front) bytes) (ap length there);
      is = ap (little_number 1) there ∙ one byte;
    }
  where
    inside : (k all rest more : ℕ) → rest ≡ all - k → rest ≡ suc more → k + 1 ≤ all
    inside k all rest more h l = omega (arith, h, l)

    one : (b : ℕ) → b + 256 * 0 ≡ b
    one b = omega arith

-- a byte of a statement that has no fields
byte_says : (objects : List Object) (entry : List ℕ) (image : ImageParts) (placed : PlacedObject) (one : IsOneOf objects placed) (stmts before : List Stmt) (kind : StmtKind) (front back : List ℕ) (byte : ℕ)
    → link_result objects entry ≡ Ok image → (own : Given stmts before kind placed.object)
    → (own_piece (labels_of (entries_of stmts) stmts) kind (cursor_place (walk_over stmts before).at) own.word).relocs ≡ []
    → (own_piece (labels_of (entries_of stmts) stmts) kind (cursor_place (walk_over stmts before).at) own.word).bytes ≡ front ++ byte ∷ back
    → SaysThere objects placed one stmts before (length front) (λ address. NumberAt 1 image address byte)
byte_says objects entry image placed one stmts before kind front back byte made own unlinked bytes =
    let s = (walk_over stmts before).at.section in
    let offset = (cursor_place (walk_over stmts before).at).offset in
    record {
      part = address_in s placed.at;
      begins = begins_at s objects placed one;
      says =
          number_stays s objects entry image placed one 1 (offset + length front) byte made (omega arith) own.has_bytes
          (byte_there offset byte (bytes_at s placed.object) front back own.after (own.bytes ∙ ap (λ l. l ++ own.after) bytes))
          (λ j from below.
          let P : List Reloc → Type 0 = λ l. IsInNoField s j l in
          own.others j (omega (arith, from)) (inside j offset (length front) (length back) _ below (ap length bytes ∙ length-append front (byte ∷ back))) (subst P (sym unlinked) tt));
    }
  where
    inside : (j offset front back bytes : ℕ) → j < offset + front + 1 → bytes ≡ front + suc back → j < offset + bytes
    inside j offset front back bytes h e = omega (arith, h, e)

some_text : (text front back : List ℕ) (byte : ℕ) → text ≡ front ++ byte ∷ back → not (length text == 0) ≡ true
some_text text front back byte e = not_none (length text) (more (length text) (length front) (length back) (ap length e ∙ length-append front (byte ∷ back)))
  where
    more : (n a b : ℕ) → n ≡ a + suc b → 0 < n
    more n a b h = omega (arith, h)

    not_none : (count : ℕ) → 0 < count → not (count == 0) ≡ true
    not_none count h = grind (arith, nat_tests)

pub law_of_texts : TextsSay
law_of_texts objects entry image placed one before more line text front back byte e few accepted made =
    let stmts = before ++ record { line = line; kind = statement.Ascii text } ∷ more in
    let own = given stmts before more line (statement.Ascii text) placed.object refl few (taken stmts placed.object accepted) refl
    (λ h. not_there (not (length text == 0)) (same_section (walk_over stmts before).at.section Bss) (some_text text front back byte e) h) in
    byte_says objects entry image placed one stmts before (statement.Ascii text) front back byte made own refl e

pub law_of_zeroed_texts : ZeroedTextsSay
law_of_zeroed_texts objects entry image placed one before more line text front back byte e few accepted made =
    let stmts = before ++ record { line = line; kind = statement.Asciz text } ∷ more in
    let own = given stmts before more line (statement.Asciz text) placed.object refl few (taken stmts placed.object accepted) refl (λ h. h) in
    byte_says objects entry image placed one stmts before (statement.Asciz text) front back byte made own refl e

-- ---- `.space`

zeros_split : (count offset : ℕ) → offset < count → (rest : ℕ) × (zeros count ≡ zeros offset ++ 0 ∷ zeros rest)
unfolding zeros
zeros_split zero offset h = absurd (omega (arith, h))
zeros_split (suc count) zero h = (count, refl)
zeros_split (suc count) (suc offset) h =
    let later = zeros_split count offset (omega (arith, h)) in
    (later.0, ap (λ l. 0 ∷ l) later.1)

pub law_of_spaces : SpacesSay
law_of_spaces objects entry image placed one before more line count offset inside outside few accepted made =
    let stmts = before ++ record { line = line; kind = statement.Space (pos count) } ∷ more in
    let own = given stmts before more line (statement.Space (pos count)) placed.object refl few (taken stmts placed.object accepted) refl (λ h. outside) in
    let cut = zeros_split count offset inside in
    let P : ℕ → Type 0 = λ n. SaysThere objects placed one stmts before n (λ address. NumberAt 1 image address 0) in
    subst P (length-zeros offset) (byte_says objects entry image placed one stmts before (statement.Space (pos count)) (zeros offset) (zeros cut.0) 0 made own refl cut.1)
