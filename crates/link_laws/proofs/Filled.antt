-- Each field of a source is in the image what its kind says.
use Rattle.std.proofs.Common.{◌≡◌, ℕ, ◌+◌, ◌^◌, ◌≤◌, ◌<◌, ◌==◌, ◌||◌, ◌&&◌, Bool, true, false, List, [], ◌∷◌, ◌++◌, length, Some, None, Ok, refl, sym, ap, ◌∙◌, arith, All, subst}
use Rattle.std.specs.List.{list_all, list_any}
use Rattle.std.specs.Option.{option_map_or}
use Rattle.std.proofs.lemmas.Bool.{true≢false}
use Rattle.std.proofs.lemmas.Bool.Decides.{nat_tests}
use Rattle.eh_word.specs.Words.{number_at}
use Rattle.thumb_isa.specs.Fields.{field}
use Rattle.thumb_isa.specs.declared.instr.Instr.{Instr}
use Rattle.thumb_encode.specs.declared.code.Code.{Code}
use Rattle.thumb_encode.specs.declared.code.Code.TheVariants as code
use Rattle.asm_statements.specs.declared.statement.Stmt.{Stmt}
use Rattle.asm_relocatable.specs.declared.place.Section.{Section}
use Rattle.asm_relocatable.specs.declared.place.Section.TheVariants.{Text, Rodata, Extab, Init, Bss}
use Rattle.asm_relocatable.specs.Sections.{same_section}
use Rattle.asm_relocatable.specs.declared.object.Object.{Object}
use Rattle.asm_relocatable.specs.declared.object.Reloc.{Reloc}
use Rattle.asm_relocatable.specs.declared.relocation.FieldKind.{FieldKind}
use Rattle.asm_relocatable.specs.declared.relocation.FieldKind.TheVariants.{Absolute, Relative, Prel31, Call, Jump, CondJump}
use Rattle.asm_object.specs.Objects.{object_of}
use Rattle.asm_object.specs.ObjectLaw.{relocation_kinds}
use Rattle.asm_relocatable.specs.Fields.{bytes_at}
use Rattle.asm_relocatable.specs.Relocations.{kind_of, width}
use Rattle.asm_object.proofs.ObjectLaws.{law_of_kinds}
use Rattle.elf_write.specs.declared.parts.ImageParts.{ImageParts}
use Rattle.eh_link.specs.declared.names.Meaning.{Meaning}
use Rattle.eh_link.specs.Placed.{PlacedObject}
use Rattle.eh_link.specs.Layout.{address_in, place_objects}
use Rattle.eh_link.specs.Symbols.{meaning_of}
use Rattle.eh_link.specs.Fields.{part_in, fill_fields, fill_object, unreachable_in, unreachable_for}
use Rattle.eh_link.specs.EquationLaw.{IsField, CodeAt, Decodes}
use Rattle.eh_link.specs.Linked.{link_result}
use Rattle.link_laws.proofs.AssembledLaws.{law_of_assembled}
use Rattle.eh_link.proofs.Equations.{law_of_absolute, law_of_relative, law_of_prel31, law_of_calls, law_of_jumps, law_of_cond_jumps}
use Rattle.eh_link.proofs.Holding.{filled_length}
use Rattle.eh_link.proofs.Images.{law_of_reach}
use Rattle.link_laws.specs.MeaningLaw.{IsOneOf}
use Rattle.link_laws.specs.JoinedLaw.{NumberAt}
use Rattle.link_laws.specs.FilledLaw.{StandsIn, DecodesAt, FieldSays, FieldsAreFilled}
use Rattle.link_laws.proofs.Meanings.{law_of_meanings}
use Rattle.link_laws.proofs.Labels.{begins_at, mid}
use Rattle.link_laws.proofs.Numbers.{in_image, address_small}

-- ---- sections and kinds

pub itself : (s : Section) → same_section s s ≡ true
itself Text = refl
itself Rodata = refl
itself Extab = refl
itself Init = refl
itself Bss = refl

-- a part of a section is the object's bytes with their fields filled
pub part_is : (s : Section) (all : List PlacedObject) (placed : PlacedObject) → same_section s Bss ≡ false
    → part_in s (fill_object all placed) ≡ fill_fields (meaning_of all placed) s (address_in s placed.at) (bytes_at s placed.object) placed.object.relocs
part_is Text all placed e = refl
part_is Rodata all placed e = refl
part_is Extab all placed e = refl
part_is Init all placed e = refl
part_is Bss all placed e = absurd (true≢false e)

-- a section that has bytes is none of zeros
pub has_bytes : (s : Section) (object : Object) (n size : ℕ) → 0 < size → n + size ≤ length (bytes_at s object) → same_section s Bss ≡ false
has_bytes Text object n size some h = refl
has_bytes Rodata object n size some h = refl
has_bytes Extab object n size some h = refl
has_bytes Init object n size some h = refl
has_bytes Bss object n size some h = absurd (omega (arith, some, h))

abbrev is_kind : ℕ → Bool
is_kind number = list_any (λ kind. number == kind) relocation_kinds

record HasKind (number : ℕ) : Type 0 where
  kind : FieldKind
  is : kind_of number ≡ Some kind

same_number : (m n : ℕ) → (m == n) ≡ true → n ≡ m
same_number m n e = grind (arith, nat_tests)

-- each kind of a source is in the table
has_kind : (number : ℕ) → is_kind number ≡ true → HasKind number
has_kind number e = by (number == 2) (number == 3) (number == 10) (number == 41) (number == 42) (number == 102) (number == 103) refl refl refl refl refl refl refl e
  where
    given : (n : ℕ) (kind : FieldKind) → kind_of n ≡ Some kind → (number == n) ≡ true → HasKind number
    given n kind k t = let P : ℕ → Type 0 = HasKind in subst P (same_number number n t) (record { kind = kind; is = k })

    by : (a b c d e f g : Bool) → (number == 2) ≡ a → (number == 3) ≡ b → (number == 10) ≡ c → (number == 41) ≡ d → (number == 42) ≡ e → (number == 102) ≡ f → (number == 103) ≡ g
        → (a || (b || (c || (d || (e || (f || (g || false))))))) ≡ true → HasKind number
    by true b c d e f g ta tb tc td te tf tg h = given 2 Absolute refl ta
    by false true c d e f g ta tb tc td te tf tg h = given 3 Relative refl tb
    by false false true d e f g ta tb tc td te tf tg h = given 10 Call refl tc
    by false false false true e f g ta tb tc td te tf tg h = given 41 Relative refl td
    by false false false false true f g ta tb tc td te tf tg h = given 42 Prel31 refl te
    by false false false false false true g ta tb tc td te tf tg h = given 102 Jump refl tf
    by false false false false false false true ta tb tc td te tf tg h = given 103 CondJump refl tg
    by false false false false false false false ta tb tc td te tf tg h = absurd (true≢false (sym h))

known : (before : List Reloc) (reloc : Reloc) (after : List Reloc) → list_all (λ (r : Reloc). is_kind r.kind) (before ++ reloc ∷ after) ≡ true → is_kind reloc.kind ≡ true
known [] reloc after h = first (is_kind reloc.kind) _ h
  where
    first : (a b : Bool) → (a && b) ≡ true → a ≡ true
    first true b e = refl
    first false b e = e
known (x ∷ before) reloc after h = known before reloc after (second (is_kind x.kind) _ h)
  where
    second : (a b : Bool) → (a && b) ≡ true → b ≡ true
    second true b e = e
    second false b e = absurd (true≢false (sym e))

wide : (kind : FieldKind) → 2 ≤ width kind
wide Absolute = omega arith
wide Relative = omega arith
wide Prel31 = omega arith
wide Call = omega arith
wide Jump = omega arith
wide CondJump = omega arith

-- ---- from a part to the image

code_in : (c : Code) (s : Section) (objects : List Object) (entry : List ℕ) (image : ImageParts) (placed : PlacedObject) (one : IsOneOf objects placed) (k : ℕ) → link_result objects entry ≡ Ok image
    → CodeAt c (part_in s (fill_object (place_objects objects) placed)) k → StandsIn c image (address_in s placed.at + k)
code_in (code.Half first) s objects entry image placed one k e h = in_image s objects entry image placed one 2 k first e (omega arith) h
code_in (code.Pair first second) s objects entry image placed one k e h = (
  in_image s objects entry image placed one 2 k first e (omega arith) h.0,
  (let P : ℕ → Type 0 = λ n. NumberAt 2 image n second in
      subst P (regroup (address_in s placed.at) k) (in_image s objects entry image placed one 2 (k + 2) second e (omega arith) h.1)),
)
  where
    regroup : (a k : ℕ) → a + (k + 2) ≡ a + k + 2
    regroup a k = omega arith

-- halfwords of a part that decode to an instruction do so in the image
pub decodes_in : (i : Instr) (s : Section) (objects : List Object) (entry : List ℕ) (image : ImageParts) (placed : PlacedObject) (one : IsOneOf objects placed) (k : ℕ) → link_result objects entry ≡ Ok image
    → Decodes i (part_in s (fill_object (place_objects objects) placed)) k → DecodesAt i image (address_in s placed.at + k)
decodes_in i s objects entry image placed one k e h = record { encoding = h.encoding; there = code_in h.encoding s objects entry image placed one k e h.there; means = h.means }

decodes_same : (i : Instr) (k : ℕ) (xs ys : List ℕ) → xs ≡ ys → Decodes i xs k → Decodes i ys k
decodes_same i k xs ys e h = let P : List ℕ → Type 0 = λ l. Decodes i l k in subst P e h

-- ---- the law

-- a field at the address of the object's part
pub record FilledAt (objects : List Object) (image : ImageParts) (placed : PlacedObject) (reloc : Reloc) : Type 0 where
  pub kind : FieldKind
  pub number : kind_of reloc.kind ≡ Some kind
  pub meaning : Meaning
  pub means : meaning_of (place_objects objects) placed reloc.name ≡ Some meaning
  pub says : FieldSays kind meaning reloc.addend (bytes_at reloc.section placed.object) reloc.offset image (address_in reloc.section placed.at + reloc.offset)

pub filled_at : (objects : List Object) (entry : List ℕ) (image : ImageParts) (placed : PlacedObject) (one : IsOneOf objects placed) (stmts : List Stmt) (before after : List Reloc) (reloc : Reloc)
    → length stmts < 2 ^ 64 → object_of stmts ≡ Ok placed.object → link_result objects entry ≡ Ok image → placed.object.relocs ≡ before ++ reloc ∷ after
    → FilledAt objects image placed reloc
filled_at objects entry image placed one stmts before after reloc few accepted e relocs =
    let s = reloc.section in
    let k = reloc.offset in
    let object = placed.object in
    let all = place_objects objects in
    let means = meaning_of all placed in
    let start = address_in s placed.at in
    let old = bytes_at s object in
    let K : List Reloc → Type 0 = λ l. list_all (λ (r : Reloc). is_kind r.kind) l ≡ true in
    let has = has_kind reloc.kind (known before reloc after (subst K relocs (law_of_kinds stmts object accepted))) in
    let alone = law_of_assembled stmts object before reloc after few accepted relocs in
    let inside : k + width has.kind ≤ length old = let P : ℕ → Type 0 = λ n. k + n ≤ length old in subst P (ap (λ o. option_map_or width o 0) has.is) alone.whole in
    let given = has_bytes s object k (width has.kind) (some has.kind) inside in
    let meaning = law_of_meanings objects entry image placed before after reloc e one relocs in
    let part = part_is s all placed given in
    let size : length (part_in s (fill_object all placed)) ≡ length old = ap length part ∙ filled_length means s start old object.relocs in
    let small : start + length old ≤ 0x400000 = omega (arith, size, address_small s objects entry image placed one e) in
    let is : IsField means s old (before ++ after) reloc has.kind meaning.means = record { here = itself s; number = has.is; inside = inside; alone = alone.alone; name = meaning.is } in
    let whole : fill_fields means s start old (before ++ reloc ∷ after) ≡ part_in s (fill_object all placed) = ap (fill_fields means s start old) (sym relocs) ∙ sym part in
    let reach : unreachable_in means s start old (before ++ reloc ∷ after) ≡ None =
    ap (unreachable_in means s start old) (sym relocs)
    ∙ (let P : PlacedObject → Type 0 = λ p. unreachable_for (meaning_of all p) p s ≡ None in mid P one.front placed one.back (subst (All P) one.split (law_of_reach objects entry image s e))) in
    record { kind = has.kind; number = has.is; meaning = meaning.means; means = meaning.is; says = by has.kind meaning.means is inside whole reach small }
  where
    some : (kind : FieldKind) → 0 < width kind
    some kind = omega (arith, wide kind)

    by : (kind : FieldKind) (meaning : Meaning)
        → IsField (meaning_of (place_objects objects) placed) reloc.section (bytes_at reloc.section placed.object) (before ++ after) reloc kind meaning
        → reloc.offset + width kind ≤ length (bytes_at reloc.section placed.object)
        → fill_fields (meaning_of (place_objects objects) placed) reloc.section (address_in reloc.section placed.at) (bytes_at reloc.section placed.object) (before ++ reloc ∷ after)
        ≡ part_in reloc.section (fill_object (place_objects objects) placed)
        → unreachable_in (meaning_of (place_objects objects) placed) reloc.section (address_in reloc.section placed.at) (bytes_at reloc.section placed.object) (before ++ reloc ∷ after) ≡ None
        → address_in reloc.section placed.at + length (bytes_at reloc.section placed.object) ≤ 0x400000
        → FieldSays kind meaning reloc.addend (bytes_at reloc.section placed.object) reloc.offset image (address_in reloc.section placed.at + reloc.offset)
    by Absolute meaning is inside whole reach small =
        in_image reloc.section objects entry image placed one 4 reloc.offset _ e (omega arith)
        (ap (λ l. number_at 4 l reloc.offset) (sym whole)
        ∙ law_of_absolute (meaning_of (place_objects objects) placed) reloc.section (address_in reloc.section placed.at) (bytes_at reloc.section placed.object) before reloc after meaning is (omega (arith, inside, small)))
    by Relative meaning is inside whole reach small =
        let r = law_of_relative (meaning_of (place_objects objects) placed) reloc.section (address_in reloc.section placed.at) (bytes_at reloc.section placed.object) before reloc after meaning is (omega (arith, inside, small)) in
        record {
          word = r.word;
          there = in_image reloc.section objects entry image placed one 4 reloc.offset r.word e (omega arith) (ap (λ l. number_at 4 l reloc.offset) (sym whole) ∙ r.there);
          sum = r.sum;
        }
    by Prel31 meaning is inside whole reach small = λ word there low.
        let r = law_of_prel31 (meaning_of (place_objects objects) placed) reloc.section (address_in reloc.section placed.at) (bytes_at reloc.section placed.object) before reloc after meaning is (omega (arith, inside, small)) word there low in
        record {
          word = r.word;
          there = in_image reloc.section objects entry image placed one 4 reloc.offset r.word e (omega arith) (ap (λ l. number_at 4 l reloc.offset) (sym whole) ∙ r.there);
          sum = r.sum;
          kept = r.kept;
          leads = λ t. r.leads (omega (arith, inside, small)) t;
        }
    by Call meaning is inside whole reach small =
        decodes_in _ reloc.section objects entry image placed one reloc.offset e
        (decodes_same _ reloc.offset _ _ whole
        (law_of_calls (meaning_of (place_objects objects) placed) reloc.section (address_in reloc.section placed.at) (bytes_at reloc.section placed.object) before reloc after meaning is (omega (arith, inside, small)) reach))
    by Jump meaning is inside whole reach small =
        decodes_in _ reloc.section objects entry image placed one reloc.offset e
        (decodes_same _ reloc.offset _ _ whole
        (law_of_jumps (meaning_of (place_objects objects) placed) reloc.section (address_in reloc.section placed.at) (bytes_at reloc.section placed.object) before reloc after meaning is (omega (arith, inside, small)) reach))
    by CondJump meaning is inside whole reach small = λ half there.
        decodes_in _ reloc.section objects entry image placed one reloc.offset e
        (decodes_same _ reloc.offset _ _ whole
        (law_of_cond_jumps (meaning_of (place_objects objects) placed) reloc.section (address_in reloc.section placed.at) (bytes_at reloc.section placed.object) before reloc after meaning is (omega (arith, inside, small)) reach half there))

pub law_of_filled : FieldsAreFilled
law_of_filled objects entry image placed one stmts before after reloc few accepted e relocs =
    let f = filled_at objects entry image placed one stmts before after reloc few accepted e relocs in
    record {
      part = address_in reloc.section placed.at;
      begins = begins_at reloc.section objects placed one;
      kind = f.kind;
      number = f.number;
      meaning = f.meaning;
      means = f.means;
      says = f.says;
    }
