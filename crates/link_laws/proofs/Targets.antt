-- Branches and literals of a source lead to what their names mean in the image.
use Rattle.asm_layout.specs.declared.walk.TheConstants.{MOST_BYTES}
use Rattle.std.proofs.Common.{◌≡◌, ℕ, ℤ, pos, negsuc, ◌+◌, ◌-◌, ◌*◌, ◌%◌, ◌^◌, ◌≤◌, ◌<◌, ◌-ℤ◌, ◌+ℤ◌, not, Bool, true, false, cond, List, [], ◌∷◌, ◌++◌, length, find, map, nat_lt, Option, Some, None, is_some, Result, Ok, Err, refl, sym, ap, ◌∙◌, arith, subst}
use Rattle.std.specs.Option.{option_or, option_map}
use Rattle.std.specs.Result.{result_err}
use Rattle.std.proofs.lemmas.Bool.{true≢false}
use Rattle.std.proofs.lemmas.Bool.Decides.{nat_tests}
use Rattle.std.proofs.lemmas.Int.{ints}
use Rattle.eh_word.specs.Names.{same_bytes}
use Rattle.eh_word.specs.Words.{number_at}
use Rattle.asm_statements.specs.declared.statement.Stmt.{Stmt}
use Rattle.asm_statements.specs.declared.statement.StmtKind.{StmtKind}
use Rattle.asm_statements.specs.declared.statement.StmtKind.TheVariants as statement
use Rattle.asm_unwind.specs.declared.entry.EntryWords.{EntryWords}
use Rattle.thumb_isa.specs.Fields.{field}
use Rattle.thumb_isa.specs.declared.instr.Instr.{Instr}
use Rattle.thumb_isa.specs.declared.instr.Instr.TheVariants as instr
use Rattle.thumb_encode.specs.Codes.{encode_result, refused_if, with_field, target_field}
use Rattle.thumb_encode.specs.declared.code.Code.{Code}
use Rattle.thumb_encode.specs.declared.code.Code.TheVariants as code
use Rattle.thumb_isa.specs.declared.encode_fault.EncodeFault.{EncodeFault}
use Rattle.thumb_isa.specs.declared.encode_fault.EncodeFault.TheVariants.{RegisterRange}
use Rattle.thumb_core.specs.declared.regs.Regs.{Regs}
use Rattle.thumb_core.specs.Data.{forward}
use Rattle.asm_relocatable.specs.declared.place.Place.{Place}
use Rattle.asm_relocatable.specs.declared.place.Section.{Section}
use Rattle.asm_relocatable.specs.declared.place.Section.TheVariants.{Text, Rodata, Extab, Init, Bss}
use Rattle.asm_layout.specs.Functions.{entries_of, no_frame}
use Rattle.asm_layout.specs.Labels.{NamePlace, find as find_label, labels_of, name_with_label}
use Rattle.asm_layout.specs.Walks.{start, cursor_place}
use Rattle.asm_relocatable.specs.Sections.{same_section}
use Rattle.asm_relocatable.specs.declared.object.Object.{Object}
use Rattle.asm_relocatable.specs.declared.object.ObjSymbol.{ObjSymbol}
use Rattle.asm_relocatable.specs.declared.object.Reloc.{Reloc}
use Rattle.asm_relocatable.specs.declared.relocation.FieldKind.{FieldKind}
use Rattle.asm_relocatable.specs.declared.relocation.FieldKind.TheVariants.{Call, Jump, CondJump}
use Rattle.asm_relocatable.specs.declared.relocation.TheConstants.{R_ARM_THM_CALL, R_ARM_THM_JUMP11, R_ARM_THM_JUMP8}
use Rattle.asm_object.specs.Bytes.{code_bytes}
use Rattle.asm_object.specs.Instructions.{in_text, text_place, place_difference, pc, branch, branch_to as branch_offset, literal, literal_to, linked_unless}
use Rattle.asm_object.specs.Objects.{symbol_of, object_of}
use Rattle.asm_relocatable.specs.Fields.{bytes_at}
use Rattle.asm_object.specs.Pieces.{own_piece, bytes_of_code, relocs_of}
use Rattle.asm_object.specs.Refusals.{is_misplaced}
use Rattle.asm_relocatable.specs.Relocations.{kind_of}
use Rattle.asm_object.proofs.ObjectLaws.{IsTaken, taken, ends_small, entries_count, same_is}
use Rattle.asm_object.proofs.PlaceLaws.{not_false, text_here}
use Rattle.asm_object.proofs.Statements.{walk_sets}
use Rattle.elf_write.specs.declared.parts.ImageParts.{ImageParts}
use Rattle.eh_link.specs.declared.names.Meaning.{Meaning}
use Rattle.eh_link.specs.declared.places.Addresses.{Addresses}
use Rattle.eh_link.specs.FieldLaw.{IsInNoField}
use Rattle.eh_link.specs.Placed.{PlacedObject}
use Rattle.eh_link.specs.Layout.{address_in, align_to_word, align_all, part_ends, firsts, layout_of, place_objects_from, place_objects}
use Rattle.eh_link.specs.Symbols.{is_label, is_global, meaning, first_in, meaning_of}
use Rattle.eh_link.specs.EquationLaw.{CodeAt, displacement_of}
use Rattle.eh_link.specs.Linked.{link_result}
use Rattle.eh_link.proofs.Branches.{target_back, bl_means, b_means, b_cond_means, bl_is_small, b_is_small, b_cond_is_small}
use Rattle.eh_link.proofs.Words.{number_reads}
use Rattle.asm_laws.specs.RowLaw.{walk_over}
use Rattle.asm_laws.specs.MarkLaw.{text_after}
use Rattle.link_laws.specs.MeaningLaw.{IsOneOf}
use Rattle.link_laws.specs.LabelLaw.{Has}
use Rattle.link_laws.specs.JoinedLaw.{NumberAt}
use Rattle.link_laws.specs.FilledLaw.{StandsIn, DecodesAt, FieldSays}
use Rattle.link_laws.specs.TargetLaw.{branch_to, literal_at, LeadsTo, NameLeads, JumpsLeadTo, CondJumpsLeadTo, CallsLeadTo, WideJumpsLeadTo, ZeroJumpsLeadTo, AddressesLeadTo, LoadsLeadTo}
use Rattle.link_laws.proofs.Codes.{Means, adr_means, load_means, wide_means, zero_means, code_there}
use Rattle.link_laws.proofs.Filled.{FilledAt, filled_at}
use Rattle.link_laws.proofs.Given.{Given, given}
use Rattle.link_laws.proofs.Labels.{begins_at, law_of_labels}
use Rattle.link_laws.proofs.Leading.{coded, found_small, goes, joined_symbols, reaches}
use Rattle.link_laws.proofs.Numbers.{address_small}
use Rattle.link_laws.proofs.Said.{known_some, number_stays}

-- ---- codes in no field

-- halfwords of a section whose bytes lie in no field are the image's
code_stays : (c : Code) (s : Section) (objects : List Object) (entry : List ℕ) (image : ImageParts) (placed : PlacedObject) (one : IsOneOf objects placed) (k : ℕ) → link_result objects entry ≡ Ok image
    → same_section s Bss ≡ false → CodeAt c (bytes_at s placed.object) k → ((j : ℕ) → k ≤ j → j < k + length (code_bytes c) → IsInNoField s j placed.object.relocs)
    → StandsIn c image (address_in s placed.at + k)
code_stays (code.Half first) s objects entry image placed one k e given there none =
    number_stays s objects entry image placed one 2 k first e (omega arith) given (number_reads 2 (bytes_at s placed.object) k first there) none
code_stays (code.Pair first second) s objects entry image placed one k e given there none = (
  number_stays s objects entry image placed one 2 k first e (omega arith) given (number_reads 2 (bytes_at s placed.object) k first there.0) (λ j from below. none j from (wider j k below)),
  (let P : ℕ → Type 0 = λ n. NumberAt 2 image n second in
      subst P (regroup (address_in s placed.at) k)
      (number_stays s objects entry image placed one 2 (k + 2) second e (omega arith) given (number_reads 2 (bytes_at s placed.object) (k + 2) second there.1) (λ j from below. none j (omega (arith, from)) (after_it j k below)))),
)
  where
    regroup : (a k : ℕ) → a + (k + 2) ≡ a + k + 2
    regroup a k = omega arith

    wider : (j k : ℕ) → j < k + 2 → j < k + 4
    wider j k h = omega (arith, h)

    after_it : (j k : ℕ) → j < k + 2 + 2 → j < k + 4
    after_it j k h = omega (arith, h)

-- ---- an instruction of a source

-- an instruction with a name, in objects that link to an image
pub record Naming (kind : StmtKind) (name : List ℕ) (objects : List Object) (entry : List ℕ) (image : ImageParts) (placed : PlacedObject) (one : IsOneOf objects placed) (stmts before : List Stmt) : Type 0 where
  pub few : length stmts < 2 ^ 64
  pub accepted : object_of stmts ≡ Ok placed.object
  pub made : link_result objects entry ≡ Ok image
  pub own : Given stmts before kind placed.object
  pub text : (walk_over stmts before).at.section ≡ Text

abbrev pub place_in : List Stmt → List Stmt → ℕ
place_in stmts before = (cursor_place (walk_over stmts before).at).offset

-- an instruction that the assembler gave its offset
pub own_decodes : (kind : StmtKind) (name : List ℕ) (objects : List Object) (entry : List ℕ) (image : ImageParts) (placed : PlacedObject) (one : IsOneOf objects placed) (stmts before : List Stmt) (i : Instr)
    → (n : Naming kind name objects entry image placed one stmts before)
    → (own_piece (labels_of (entries_of stmts) stmts) kind (cursor_place (walk_over stmts before).at) n.own.word).relocs ≡ []
    → (own_piece (labels_of (entries_of stmts) stmts) kind (cursor_place (walk_over stmts before).at) n.own.word).bytes ≡ bytes_of_code (encode_result i)
    → result_err (encode_result i) ≡ None → ((c : Code) → encode_result i ≡ Ok c → Means c i)
    → DecodesAt i image (address_in (walk_over stmts before).at.section placed.at + place_in stmts before)
own_decodes kind name objects entry image placed one stmts before i n unlinked bytes unfaulted means =
    let s = (walk_over stmts before).at.section in
    let own = coded (encode_result i) unfaulted in
    let known = means own.code own.is in
    let given_bytes = bytes ∙ ap bytes_of_code own.is in
    let count : length (own_piece (labels_of (entries_of stmts) stmts) kind (cursor_place (walk_over stmts before).at) n.own.word).bytes ≡ length (code_bytes own.code) = ap length given_bytes in
    record {
      encoding = own.code;
      there =
          code_stays own.code s objects entry image placed one (place_in stmts before) n.made n.own.has_bytes
          (code_there own.code (bytes_at s placed.object) (place_in stmts before) n.own.after (n.own.bytes ∙ ap (λ l. l ++ n.own.after) given_bytes) known.small)
          (λ j from below.
          let P : List Reloc → Type 0 = λ l. IsInNoField s j l in
          n.own.others j from (omega (arith, below, count)) (subst P (sym unlinked) tt));
      means = known.means;
    }

-- ---- names of the own text

record OwnSymbol (name : List ℕ) (symbols : List ObjSymbol) (place : Place) : Type 0 where
  symbol : ObjSymbol
  found : find (is_label name) symbols ≡ Some symbol
  section : symbol.section ≡ place.section
  offset : symbol.offset ≡ place.offset % 2 ^ 32

own_symbol : (entries : List (Option EntryWords)) (stmts : List Stmt) (name : List ℕ) (labels : List NamePlace) (place : Place) → find_label name labels ≡ Some place
    → OwnSymbol name (map (λ label. symbol_of (name_with_label entries stmts label)) labels) place
unfolding find_label
own_symbol entries stmts name [] place e = absurd (cc)
own_symbol entries stmts name (label ∷ more) place e = by (same_bytes name label.name) refl e (own_symbol entries stmts name more place)
  where
    by : (b : Bool) → same_bytes name label.name ≡ b → cond b (Some label.place) (find_label name more) ≡ Some place
        → (find_label name more ≡ Some place → OwnSymbol name (map (λ l. symbol_of (name_with_label entries stmts l)) more) place)
        → OwnSymbol name (map (λ l. symbol_of (name_with_label entries stmts l)) (label ∷ more)) place
    by true t e rest =
        let same : label.place ≡ place = cc in
        record {
          symbol = symbol_of (name_with_label entries stmts label);
          found = ap (λ b. cond b (Some (symbol_of (name_with_label entries stmts label))) (find (is_label name) (map (λ l. symbol_of (name_with_label entries stmts l)) more))) t;
          section = ap (λ (p : Place). p.section) same;
          offset = ap (λ (p : Place). p.offset % 2 ^ 32) same;
        }
    by false t e rest =
        let later = rest e in
        record {
          symbol = later.symbol;
          found = ap (λ b. cond b (Some (symbol_of (name_with_label entries stmts label))) (find (is_label name) (map (λ l. symbol_of (name_with_label entries stmts l)) more))) t ∙ later.found;
          section = later.section;
          offset = later.offset;
        }

-- a label of the own text means the address as many bytes after the start of the text
record OwnMeaning (objects : List Object) (placed : PlacedObject) (name : List ℕ) (to : ℕ) : Type 0 where
  meaning : Meaning
  means : meaning_of (place_objects objects) placed name ≡ Some meaning
  address : meaning.address ≡ (placed.at.text + to) % 2 ^ 32
  small : to ≤ MOST_BYTES

in_text_is : (place : Option Place) (to : ℕ) → in_text place ≡ Some to → (p : Place) × ((place ≡ Some p) × ((p.section ≡ Text) × (p.offset ≡ to)))
in_text_is None to e = absurd (cc)
in_text_is (Some p) to e = by (same_section p.section Text) refl e
  where
    by : (b : Bool) → same_section p.section Text ≡ b → cond b (Some p.offset) None ≡ Some to → (q : Place) × ((Some p ≡ Some q) × ((q.section ≡ Text) × (q.offset ≡ to)))
    by true s e = (p, (refl, (same_is p.section Text s, cc)))
    by false s e = absurd (cc)

fewer : (a b : ℕ) → a ≤ b → b < 2 ^ 64 → a < 2 ^ 64
fewer a b h k = omega (arith, h, k)

own_meaning : (objects : List Object) (placed : PlacedObject) (stmts : List Stmt) (name : List ℕ) (to : ℕ) → length stmts < 2 ^ 64 → IsTaken stmts placed.object
    → text_place (labels_of (entries_of stmts) stmts) name ≡ Some to → OwnMeaning objects placed name to
own_meaning objects placed stmts name to few t e =
    let entries = entries_of stmts in
    let labels = labels_of entries stmts in
    let found = in_text_is (find_label name labels) to e in
    let small = found_small entries labels [] start stmts name found.0 (fewer _ _ (entries_count no_frame stmts) few) t.unrefused (ends_small entries start 0 stmts t.small) found.1.0 in
    let own = own_symbol entries stmts name labels found.0 found.1.0 in
    let symbols = ap (λ (o : Object). o.symbols) t.object_is ∙ joined_symbols stmts in
    let there : find (is_label name) placed.object.symbols ≡ Some own.symbol = ap (find (is_label name)) symbols ∙ own.found in
    let in_text : own.symbol.section ≡ Text = own.section ∙ found.1.1.0 in
    let offset : own.symbol.offset ≡ to = own.offset ∙ low found.0.offset to small found.1.1.1 in
    record {
      meaning = meaning placed.at own.symbol;
      means = ap (λ o. option_or (option_map (meaning placed.at) o) (first_in (is_global name) (place_objects objects))) there;
      address = ap (λ s. (address_in s placed.at + own.symbol.offset) % 2 ^ 32) in_text ∙ ap (λ n. (placed.at.text + n) % 2 ^ 32) offset;
      small = omega (arith, small, found.1.1.1);
    }
  where
    low : (n m : ℕ) → n ≤ MOST_BYTES → n ≡ m → n % 2 ^ 32 ≡ m
    low n m h e = omega (arith, h, e)

-- an object's text begins at a multiple of 4
aligned_from : (at : Addresses) (objects : List Object) (front back : List PlacedObject) (placed : PlacedObject) → place_objects_from at objects ≡ front ++ placed ∷ back → placed.at.text % 4 ≡ 0
aligned_from at [] [] back placed e = absurd (cc)
aligned_from at [] (x ∷ front) back placed e = absurd (cc)
aligned_from at (object ∷ more) [] back placed e =
    let same : record { object = object; at = align_all at } ≡ placed = cc in
    let P : PlacedObject → Type 0 = λ p. p.at.text % 4 ≡ 0 in
    subst P same (fourth at.text)
  where
    fourth : (n : ℕ) → align_to_word n % 4 ≡ 0
    fourth n = omega arith
aligned_from at (object ∷ more) (x ∷ front) back placed e =
    let rest : place_objects_from (part_ends (align_all at) object) more ≡ front ++ placed ∷ back = cc in
    aligned_from (part_ends (align_all at) object) more front back placed rest

pub text_aligned : (objects : List Object) (placed : PlacedObject) → IsOneOf objects placed → placed.at.text % 4 ≡ 0
text_aligned objects placed one = aligned_from (firsts (layout_of objects)) objects one.front one.back placed one.split

-- ---- a named instruction

pub text_begins : (s : Section) (objects : List Object) (placed : PlacedObject) (one : IsOneOf objects placed) → s ≡ Text → address_in s placed.at ≡ placed.at.text
text_begins s objects placed one e = ap (λ t. address_in t placed.at) e

pub text_small : (objects : List Object) (entry : List ℕ) (image : ImageParts) (placed : PlacedObject) (one : IsOneOf objects placed) → link_result objects entry ≡ Ok image → placed.at.text ≤ 0x400000
text_small objects entry image placed one e = omega (arith, address_small Text objects entry image placed one e)

-- where the text has come to is where the statement stands
pub place_is : (kind : StmtKind) (name : List ℕ) (objects : List Object) (entry : List ℕ) (image : ImageParts) (placed : PlacedObject) (one : IsOneOf objects placed) (stmts before : List Stmt)
    → Naming kind name objects entry image placed one stmts before → place_in stmts before ≡ text_after stmts before
place_is kind name objects entry image placed one stmts before n =
    text_here (walk_over stmts before).at.sizes (walk_over stmts before).at.section (ap (λ s. same_section s Text) n.text)

-- an instruction with the offset of a label of the own text
own_leads : (kind : StmtKind) (name : List ℕ) (objects : List Object) (entry : List ℕ) (image : ImageParts) (placed : PlacedObject) (one : IsOneOf objects placed) (stmts before : List Stmt)
    (instruction : ℤ → Instr) (comes_to : Regs → ℤ → ℕ) (offset : ℤ) (to : ℕ)
    → (n : Naming kind name objects entry image placed one stmts before)
    → (own_piece (labels_of (entries_of stmts) stmts) kind (cursor_place (walk_over stmts before).at) n.own.word).relocs ≡ []
    → (own_piece (labels_of (entries_of stmts) stmts) kind (cursor_place (walk_over stmts before).at) n.own.word).bytes ≡ bytes_of_code (encode_result (instruction offset))
    → result_err (encode_result (instruction offset)) ≡ None → ((c : Code) → encode_result (instruction offset) ≡ Ok c → Means c (instruction offset))
    → text_place (labels_of (entries_of stmts) stmts) name ≡ Some to
    → ((regs : Regs) → to ≤ MOST_BYTES → placed.at.text + to < 2 ^ 32 → regs.pc ≡ placed.at.text + place_in stmts before → comes_to regs offset ≡ placed.at.text + to)
    → NameLeads objects image placed one stmts before name instruction comes_to
own_leads kind name objects entry image placed one stmts before instruction comes_to offset to n unlinked bytes unfaulted means there comes =
    let decodes = own_decodes kind name objects entry image placed one stmts before (instruction offset) n unlinked bytes unfaulted means in
    let own = own_meaning objects placed stmts name to n.few (taken stmts placed.object n.accepted) there in
    let low = text_small objects entry image placed one n.made in
    let fits : placed.at.text + to < 2 ^ 32 = omega (arith, low, own.small) in
    let address : own.meaning.address ≡ placed.at.text + to = own.address ∙ same (placed.at.text + to) fits in
    let place = place_is kind name objects entry image placed one stmts before n in
    let P : ℕ → Type 0 = λ a. DecodesAt (instruction offset) image a in
    record {
      part = placed.at.text;
      begins = begins_at Text objects placed one;
      meaning = own.meaning;
      means = own.means;
      leads = record {
        offset = offset;
        reads = subst P (ap (λ a. a + place_in stmts before) (text_begins (walk_over stmts before).at.section objects placed one n.text) ∙ ap (λ p. placed.at.text + p) place) decodes;
        comes = λ regs at. comes regs own.small fits (at ∙ ap (λ p. placed.at.text + p) (sym place)) ∙ sym address;
      };
    }
  where
    same : (a : ℕ) → a < 2 ^ 32 → a % 2 ^ 32 ≡ a
    same a h = omega (arith, h)

-- ---- an instruction that the linker fills

-- its field
abbrev field_there : List Stmt → List Stmt → ℕ → List ℕ → Reloc
field_there stmts before number name = record { section = (walk_over stmts before).at.section; offset = place_in stmts before; kind = number; name = name; addend = negsuc 3 }

linked_field : (kind : StmtKind) (name : List ℕ) (objects : List Object) (entry : List ℕ) (image : ImageParts) (placed : PlacedObject) (one : IsOneOf objects placed) (stmts before : List Stmt) (number : ℕ)
    → (n : Naming kind name objects entry image placed one stmts before)
    → (own_piece (labels_of (entries_of stmts) stmts) kind (cursor_place (walk_over stmts before).at) n.own.word).relocs ≡ relocs_of (cursor_place (walk_over stmts before).at) (Some (record { kind = number; name = name; addend = negsuc 3 }))
    → FilledAt objects image placed (field_there stmts before number name)
linked_field kind name objects entry image placed one stmts before number n relocs =
    let low : place_in stmts before % 2 ^ 32 ≡ place_in stmts before = low_place (place_in stmts before) _ n.own.small in
    let P : List Reloc → Type 0 = λ l. Has l (field_there stmts before number name) in
    let has = n.own.fields (field_there stmts before number name)
    (subst P (sym relocs) (record {
      before = [];
      after = [];
      split = ap (λ o. record { section = (walk_over stmts before).at.section; offset = o; kind = number; name = name; addend = negsuc 3 } ∷ []) low;
    })) in
    filled_at objects entry image placed one stmts has.before has.after (field_there stmts before number name) n.few n.accepted n.made has.split
  where
    low_place : (a b : ℕ) → a + b ≤ MOST_BYTES → a % 2 ^ 32 ≡ a
    low_place a b h = omega (arith, h)

kind_is : (a b : FieldKind) → Some a ≡ Some b → b ≡ a
kind_is a b e = cc

below : (a b : ℕ) → a ≡ b % 2 ^ 32 → a < 2 ^ 32
below a b e = omega (arith, e)

-- the displacement from an instruction's pc, of a field with the addend -4
comes_there : (s p : ℕ) → s < 2 ^ 32 → p < 2 ^ 31 → forward ((p + 4) % 2 ^ 32) ((pos s +ℤ negsuc 3) -ℤ pos p) ≡ s
comes_there s p h k = grind (arith, ints, nat_tests)

linked_leads : (kind : StmtKind) (name : List ℕ) (objects : List Object) (entry : List ℕ) (image : ImageParts) (placed : PlacedObject) (one : IsOneOf objects placed) (stmts before : List Stmt)
    (instruction : ℤ → Instr) (number : ℕ) (field_kind : FieldKind)
    → (n : Naming kind name objects entry image placed one stmts before)
    → (own_piece (labels_of (entries_of stmts) stmts) kind (cursor_place (walk_over stmts before).at) n.own.word).relocs ≡ relocs_of (cursor_place (walk_over stmts before).at) (Some (record { kind = number; name = name; addend = negsuc 3 }))
    → kind_of number ≡ Some field_kind
    → ((means : Meaning) (at : ℕ) → FieldSays field_kind means (negsuc 3) (bytes_at (walk_over stmts before).at.section placed.object) (place_in stmts before) image at → DecodesAt (instruction (displacement_of means (negsuc 3) at)) image at)
    → NameLeads objects image placed one stmts before name instruction branch_to
linked_leads kind name objects entry image placed one stmts before instruction number field_kind n relocs is says =
    let f = linked_field kind name objects entry image placed one stmts before number n relocs in
    let address = address_in (walk_over stmts before).at.section placed.at + place_in stmts before in
    let P : FieldKind → Type 0 = λ k. FieldSays k f.meaning (negsuc 3) (bytes_at (walk_over stmts before).at.section placed.object) (place_in stmts before) image address in
    let decodes = says f.meaning address (subst P (kind_is field_kind f.kind (sym is ∙ f.number)) f.says) in
    let place = place_is kind name objects entry image placed one stmts before n in
    let same : address ≡ placed.at.text + text_after stmts before =
    ap (λ a. a + place_in stmts before) (text_begins (walk_over stmts before).at.section objects placed one n.text) ∙ ap (λ p. placed.at.text + p) place in
    let D : ℕ → Type 0 = λ a. LeadsTo instruction branch_to image a f.meaning.address in
    let label = law_of_labels objects placed name f.meaning one f.means in
    let low : address < 2 ^ 31 = omega (arith, ap (λ a. a + place_in stmts before) (text_begins (walk_over stmts before).at.section objects placed one n.text), text_small objects entry image placed one n.made, n.own.small) in
    record {
      part = placed.at.text;
      begins = begins_at Text objects placed one;
      meaning = f.meaning;
      means = f.means;
      leads = subst D same (record {
        offset = displacement_of f.meaning (negsuc 3) address;
        reads = decodes;
        comes = λ regs at.
            ap (λ a. forward ((a + 4) % 2 ^ 32) (displacement_of f.meaning (negsuc 3) address)) at
            ∙ comes_there f.meaning.address address (below f.meaning.address (label.part + label.symbol.offset) label.address) low;
      });
    }

-- ---- the laws

-- an instruction stands in the text
pub given_in_text : (stmts before more : List Stmt) (line : ℕ) (kind : StmtKind) (name : List ℕ) (objects : List Object) (entry : List ℕ) (image : ImageParts) (placed : PlacedObject) (one : IsOneOf objects placed)
    → stmts ≡ before ++ record { line = line; kind = kind } ∷ more → length stmts < 2 ^ 64 → object_of stmts ≡ Ok placed.object → link_result objects entry ≡ Ok image
    → walk_sets (entries_of stmts) (labels_of (entries_of stmts) stmts) (walk_over stmts before) kind ≡ [] → ((s : Section) → is_misplaced kind s ≡ not (same_section s Text))
    → Naming kind name objects entry image placed one stmts before
given_in_text stmts before more line kind name objects entry image placed one same few accepted made none placed_so =
    let s = (walk_over stmts before).at.section in
    let own = given stmts before more line kind placed.object same few (taken stmts placed.object accepted) none (λ h. not_zeros s (not_false (same_section s Text) (sym (placed_so s) ∙ h))) in
    record {
      few = few;
      accepted = accepted;
      made = made;
      own = own;
      text = same_is s Text (not_false (same_section s Text) (sym (placed_so s) ∙ own.in_place));
    }
  where
    not_zeros : (s : Section) → same_section s Text ≡ true → same_section s Bss ≡ false
    not_zeros Text e = refl
    not_zeros Rodata e = refl
    not_zeros Extab e = refl
    not_zeros Init e = refl
    not_zeros Bss e = absurd (true≢false (sym e))

-- a branch to a label of the own text, and to what the linker finds
branch_leads : (kind : StmtKind) (name : List ℕ) (objects : List Object) (entry : List ℕ) (image : ImageParts) (placed : PlacedObject) (one : IsOneOf objects placed) (stmts before : List Stmt)
    (instruction : ℤ → Instr) (number : ℕ) (field_kind : FieldKind)
    → (n : Naming kind name objects entry image placed one stmts before)
    → (own_piece (labels_of (entries_of stmts) stmts) kind (cursor_place (walk_over stmts before).at) n.own.word).relocs
    ≡ relocs_of (cursor_place (walk_over stmts before).at) (linked_unless (text_place (labels_of (entries_of stmts) stmts) name) number name)
    → (own_piece (labels_of (entries_of stmts) stmts) kind (cursor_place (walk_over stmts before).at) n.own.word).bytes
    ≡ bytes_of_code (encode_result (instruction (branch (labels_of (entries_of stmts) stmts) name (place_in stmts before))))
    → result_err (encode_result (instruction (branch (labels_of (entries_of stmts) stmts) name (place_in stmts before)))) ≡ None
    → ((off : ℤ) (c : Code) → encode_result (instruction off) ≡ Ok c → Means c (instruction off))
    → kind_of number ≡ Some field_kind
    → (text_place (labels_of (entries_of stmts) stmts) name ≡ None → (means : Meaning) (at : ℕ)
    → FieldSays field_kind means (negsuc 3) (bytes_at (walk_over stmts before).at.section placed.object) (place_in stmts before) image at → DecodesAt (instruction (displacement_of means (negsuc 3) at)) image at)
    → NameLeads objects image placed one stmts before name instruction branch_to
branch_leads kind name objects entry image placed one stmts before instruction number field_kind n relocs bytes unfaulted means is says = by (text_place (labels_of (entries_of stmts) stmts) name) refl
  where
    by : (to : Option ℕ) → text_place (labels_of (entries_of stmts) stmts) name ≡ to → NameLeads objects image placed one stmts before name instruction branch_to
    by (Some to) e =
        let place = place_in stmts before in
        let offset_is : branch (labels_of (entries_of stmts) stmts) name place ≡ place_difference to (pc place) = ap (λ o. branch_offset o place) e in
        own_leads kind name objects entry image placed one stmts before instruction branch_to (place_difference to (pc place)) to n
        (relocs ∙ ap (λ o. relocs_of (cursor_place (walk_over stmts before).at) (linked_unless o number name)) e)
        (bytes ∙ ap (λ off. bytes_of_code (encode_result (instruction off))) offset_is)
        (sym (ap (λ off. result_err (encode_result (instruction off))) offset_is) ∙ unfaulted)
        (means (place_difference to (pc place))) e
        (λ regs small fits at. goes place to (omega (arith, n.own.small)) small regs placed.at.text fits at)
    by None e =
        linked_leads kind name objects entry image placed one stmts before instruction number field_kind n
        (relocs ∙ ap (λ o. relocs_of (cursor_place (walk_over stmts before).at) (linked_unless o number name)) e) is (says e)

pub law_of_calls : CallsLeadTo
law_of_calls objects entry image placed one before more line name few accepted made =
    let stmts = before ++ record { line = line; kind = statement.Bl name } ∷ more in
    let n = given_in_text stmts before more line (statement.Bl name) name objects entry image placed one refl few accepted made refl (λ s. refl) in
    branch_leads (statement.Bl name) name objects entry image placed one stmts before instr.Bl R_ARM_THM_CALL Call n refl refl n.own.unfaulted
    (λ off c e. record { means = bl_means off c e; small = bl_is_small off c e }) refl (λ none means at says. says)

pub law_of_jumps : JumpsLeadTo
law_of_jumps objects entry image placed one before more line name few accepted made =
    let stmts = before ++ record { line = line; kind = statement.B name } ∷ more in
    let n = given_in_text stmts before more line (statement.B name) name objects entry image placed one refl few accepted made refl (λ s. refl) in
    branch_leads (statement.B name) name objects entry image placed one stmts before instr.B R_ARM_THM_JUMP11 Jump n refl refl n.own.unfaulted
    (λ off c e. record { means = b_means off c e; small = b_is_small off c e }) refl (λ none means at says. says)

-- the halfword of a branch under a condition has the condition in bits 11 to 8
record CondHalf (cond : ℕ) (c : Code) : Type 0 where
  first : ℕ
  is : c ≡ code.Half first
  condition : field first 8 4 ≡ cond

cond_half : (cond : ℕ) (off : ℤ) (c : Code) → encode_result (instr.BCond cond off) ≡ Ok c → CondHalf cond c
cond_half cond off c e = by (nat_lt 13 cond) (target_field (2 ^ 8) off) refl refl e
  where
    by : (high : Bool) (t : Result ℕ EncodeFault) → nat_lt 13 cond ≡ high → target_field (2 ^ 8) off ≡ t
        → refused_if high RegisterRange (with_field t (λ x. code.Half (0xd000 + cond * 2 ^ 8 + x))) ≡ Ok c → CondHalf cond c
    by true t h g e = absurd (cc)
    by false (Err fault) h g e = absurd (cc)
    by false (Ok x) h g e =
        let target = target_back (2 ^ 8) off x g in
        let low : cond < 14 = grind (arith, nat_tests, h) in
        record { first = 0xd000 + cond * 2 ^ 8 + x; is = cc; condition = omega (arith, target.below, low) }

pub law_of_cond_jumps : CondJumpsLeadTo
law_of_cond_jumps cond objects entry image placed one before more line name few accepted made =
    let stmts = before ++ record { line = line; kind = statement.BCond cond name } ∷ more in
    let n = given_in_text stmts before more line (statement.BCond cond name) name objects entry image placed one refl few accepted made refl (λ s. refl) in
    let s = (walk_over stmts before).at.section in
    let place = place_in stmts before in
    let off = branch (labels_of (entries_of stmts) stmts) name place in
    let own = coded (encode_result (instr.BCond cond off)) n.own.unfaulted in
    let half = cond_half cond off own.code own.is in
    let small = b_cond_is_small cond off own.code own.is in
    let C : Code → Type 0 = λ c. CodeAt c (bytes_at s placed.object) place in
    let there : number_at 2 (bytes_at s placed.object) place ≡ Some half.first =
    subst C half.is (code_there own.code (bytes_at s placed.object) place n.own.after (n.own.bytes ∙ ap (λ r. bytes_of_code r ++ n.own.after) own.is) small) in
    branch_leads (statement.BCond cond name) name objects entry image placed one stmts before (instr.BCond cond) R_ARM_THM_JUMP8 CondJump n refl refl n.own.unfaulted
    (λ off c e. record { means = b_cond_means cond off c e; small = b_cond_is_small cond off c e }) refl
    (λ none means at says. let D : ℕ → Type 0 = λ x. DecodesAt (instr.BCond x (displacement_of means (negsuc 3) at)) image at in subst D half.condition (says half.first there))

-- a branch to a label of the own text that the linker has no part in
local_leads : (kind : StmtKind) (name : List ℕ) (objects : List Object) (entry : List ℕ) (image : ImageParts) (placed : PlacedObject) (one : IsOneOf objects placed) (stmts before : List Stmt) (instruction : ℤ → Instr)
    → (n : Naming kind name objects entry image placed one stmts before)
    → is_some (text_place (labels_of (entries_of stmts) stmts) name) ≡ true
    → (own_piece (labels_of (entries_of stmts) stmts) kind (cursor_place (walk_over stmts before).at) n.own.word).relocs ≡ []
    → (own_piece (labels_of (entries_of stmts) stmts) kind (cursor_place (walk_over stmts before).at) n.own.word).bytes
    ≡ bytes_of_code (encode_result (instruction (branch (labels_of (entries_of stmts) stmts) name (place_in stmts before))))
    → result_err (encode_result (instruction (branch (labels_of (entries_of stmts) stmts) name (place_in stmts before)))) ≡ None
    → ((off : ℤ) (c : Code) → encode_result (instruction off) ≡ Ok c → Means c (instruction off))
    → NameLeads objects image placed one stmts before name instruction branch_to
local_leads kind name objects entry image placed one stmts before instruction n known relocs bytes unfaulted means =
    let place = place_in stmts before in
    let to = known_some (text_place (labels_of (entries_of stmts) stmts) name) known in
    let offset_is : branch (labels_of (entries_of stmts) stmts) name place ≡ place_difference to.value (pc place) = ap (λ o. branch_offset o place) to.is in
    own_leads kind name objects entry image placed one stmts before instruction branch_to (place_difference to.value (pc place)) to.value n relocs
    (bytes ∙ ap (λ off. bytes_of_code (encode_result (instruction off))) offset_is)
    (sym (ap (λ off. result_err (encode_result (instruction off))) offset_is) ∙ unfaulted)
    (means (place_difference to.value (pc place))) to.is
    (λ regs small fits at. goes place to.value (omega (arith, n.own.small)) small regs placed.at.text fits at)

pub law_of_wide_jumps : WideJumpsLeadTo
law_of_wide_jumps objects entry image placed one before more line name few accepted made =
    let stmts = before ++ record { line = line; kind = statement.BWide name } ∷ more in
    let n = given_in_text stmts before more line (statement.BWide name) name objects entry image placed one refl few accepted made refl (λ s. refl) in
    local_leads (statement.BWide name) name objects entry image placed one stmts before instr.BWide n n.own.known refl refl n.own.unfaulted (λ off c e. wide_means off c e)

pub law_of_zero_jumps : ZeroJumpsLeadTo
law_of_zero_jumps nonzero register objects entry image placed one before more line name few accepted made =
    let stmts = before ++ record { line = line; kind = statement.Cbz nonzero register name } ∷ more in
    let n = given_in_text stmts before more line (statement.Cbz nonzero register name) name objects entry image placed one refl few accepted made refl (λ s. refl) in
    local_leads (statement.Cbz nonzero register name) name objects entry image placed one stmts before (instr.Cbz nonzero register) n n.own.known refl refl n.own.unfaulted
    (λ off c e. zero_means nonzero register off c e)

-- a literal of a label of the own text
literal_leads : (kind : StmtKind) (name : List ℕ) (objects : List Object) (entry : List ℕ) (image : ImageParts) (placed : PlacedObject) (one : IsOneOf objects placed) (stmts before : List Stmt) (instruction : ℤ → Instr)
    → (n : Naming kind name objects entry image placed one stmts before)
    → is_some (text_place (labels_of (entries_of stmts) stmts) name) ≡ true
    → (own_piece (labels_of (entries_of stmts) stmts) kind (cursor_place (walk_over stmts before).at) n.own.word).relocs ≡ []
    → (own_piece (labels_of (entries_of stmts) stmts) kind (cursor_place (walk_over stmts before).at) n.own.word).bytes
    ≡ bytes_of_code (encode_result (instruction (literal_to (text_place (labels_of (entries_of stmts) stmts) name) (place_in stmts before))))
    → result_err (encode_result (instruction (literal_to (text_place (labels_of (entries_of stmts) stmts) name) (place_in stmts before)))) ≡ None
    → ((off : ℤ) (c : Code) → encode_result (instruction off) ≡ Ok c → Means c (instruction off))
    → NameLeads objects image placed one stmts before name instruction literal_at
literal_leads kind name objects entry image placed one stmts before instruction n known relocs bytes unfaulted means =
    let place = place_in stmts before in
    let to = known_some (text_place (labels_of (entries_of stmts) stmts) name) known in
    let offset_is : literal_to (text_place (labels_of (entries_of stmts) stmts) name) place ≡ literal to.value place = ap (λ o. literal_to o place) to.is in
    own_leads kind name objects entry image placed one stmts before instruction literal_at (literal to.value place) to.value n relocs
    (bytes ∙ ap (λ off. bytes_of_code (encode_result (instruction off))) offset_is)
    (sym (ap (λ off. result_err (encode_result (instruction off))) offset_is) ∙ unfaulted)
    (means (literal to.value place)) to.is
    (λ regs small fits at. reaches place to.value (omega (arith, n.own.small)) small regs placed.at.text (fourth objects placed one) fits at)
  where
    fourth : (objects : List Object) (placed : PlacedObject) → IsOneOf objects placed → placed.at.text % 4 ≡ 0
    fourth objects placed one = text_aligned objects placed one

pub law_of_addresses : AddressesLeadTo
law_of_addresses d objects entry image placed one before more line name few accepted made =
    let stmts = before ++ record { line = line; kind = statement.Adr d name } ∷ more in
    let n = given_in_text stmts before more line (statement.Adr d name) name objects entry image placed one refl few accepted made refl (λ s. refl) in
    literal_leads (statement.Adr d name) name objects entry image placed one stmts before (instr.Adr d) n n.own.known refl refl n.own.unfaulted (λ off c e. adr_means d off c e)

pub law_of_loads : LoadsLeadTo
law_of_loads t objects entry image placed one before more line name few accepted made =
    let stmts = before ++ record { line = line; kind = statement.LdrLabel t name } ∷ more in
    let n = given_in_text stmts before more line (statement.LdrLabel t name) name objects entry image placed one refl few accepted made refl (λ s. refl) in
    literal_leads (statement.LdrLabel t name) name objects entry image placed one stmts before (instr.LdrLit t) n n.own.known refl refl n.own.unfaulted (λ off c e. load_means t off c e)
