-- What the words, halfwords and bytes of a source are in the image.
use Rattle.asm_layout.specs.declared.walk.TheConstants.{MOST_BYTES}
use Rattle.std.proofs.Common.{◌≡◌, ℕ, suc, ℤ, pos, negsuc, ◌+◌, ◌-◌, ◌*◌, ◌/◌, ◌%◌, ◌^◌, ◌≤◌, ◌<◌, ◌+ℤ◌, ◌-ℤ◌, ◌&&◌, ◌==◌, not, Bool, true, false, cond, List, [], ◌∷◌, ◌++◌, length, drop, map, flat_map, Option, Some, None, is_some, Ok, refl, sym, ap, ◌∙◌, arith, append_assoc, length-append, length-drop, subst}
use Rattle.std.specs.List.{list_all}
use Rattle.std.proofs.lemmas.Bool.{true≢false}
use Rattle.std.proofs.lemmas.Bool.Decides.{nat_tests}
use Rattle.std.proofs.lemmas.Grind.{flat_map-append}
use Rattle.std.proofs.lemmas.Int.{ints}
use Rattle.std.proofs.lemmas.List.{drop-drop}
use Rattle.std.proofs.Math.Nat.{mul-le-mul_left, mul-suc}
use Rattle.std.proofs.Math.Seq.{drop-append_seam}
use Rattle.byteorder.specs.Endian.{little_bytes, little_number}
use Rattle.byteorder.specs.Numbers.{little_from-bytes}
use Rattle.eh_word.specs.Names.{same_bytes}
use Rattle.eh_word.specs.Words.{number_at}
use Rattle.asm_statements.specs.declared.statement.Expr.{Expr}
use Rattle.asm_statements.specs.declared.statement.Expr.TheVariants as expr
use Rattle.asm_statements.specs.declared.statement.Stmt.{Stmt}
use Rattle.asm_statements.specs.declared.statement.StmtKind.{StmtKind}
use Rattle.asm_statements.specs.declared.statement.StmtKind.TheVariants as statement
use Rattle.asm_unwind.specs.declared.entry.EntryWords.{EntryWords}
use Rattle.asm_relocatable.specs.declared.place.Place.{Place}
use Rattle.asm_relocatable.specs.declared.place.Section.{Section}
use Rattle.asm_relocatable.specs.declared.place.Section.TheVariants.{Bss}
use Rattle.asm_layout.specs.declared.word.Word.{Word}
use Rattle.asm_layout.specs.declared.word.Word.TheVariants as word
use Rattle.asm_layout.specs.Functions.{entries_of, no_frame}
use Rattle.asm_layout.specs.Labels.{NamePlace, find, labels_of, name_with_label}
use Rattle.asm_layout.specs.Sizes.{sum_64}
use Rattle.asm_layout.specs.Walks.{start, cursor_place}
use Rattle.asm_relocatable.specs.Sections.{same_section}
use Rattle.asm_layout.specs.Words.{low_word, word_of}
use Rattle.asm_relocatable.specs.declared.object.Object.{Object}
use Rattle.asm_relocatable.specs.declared.object.Reloc.{Reloc}
use Rattle.asm_relocatable.specs.declared.relocation.FieldKind.{FieldKind}
use Rattle.asm_relocatable.specs.declared.relocation.FieldKind.TheVariants.{Absolute, Relative, Prel31}
use Rattle.asm_relocatable.specs.declared.relocation.TheConstants.{R_ARM_ABS32, R_ARM_REL32, R_ARM_TARGET2, R_ARM_PREL31}
use Rattle.asm_object.specs.Bytes.{word_bytes}
use Rattle.asm_object.specs.Objects.{symbol_of, object_of}
use Rattle.asm_object.specs.ObjectLaw.{symbol_place}
use Rattle.asm_relocatable.specs.Fields.{bytes_at}
use Rattle.asm_object.specs.Pieces.{place_at, relocs_of, word_relocs, words_bytes, own_piece}
use Rattle.asm_object.specs.Refusals.{has_fields}
use Rattle.asm_relocatable.specs.Relocations.{kind_of}
use Rattle.asm_object.specs.declared.value.Link.{Link}
use Rattle.asm_object.specs.Values.{between_places, distance, is_word_known, section_word, link_of, low_or_zero, number, plus, signed_word}
use Rattle.asm_object.proofs.ObjectLaws.{IsTaken, taken, ends_small, entries_count, same_is}
use Rattle.elf_write.specs.declared.parts.ImageParts.{ImageParts}
use Rattle.eh_link.specs.FieldLaw.{IsInNoField}
use Rattle.eh_link.specs.Placed.{PlacedObject}
use Rattle.eh_link.specs.Layout.{address_in, place_objects}
use Rattle.eh_link.specs.Symbols.{meaning_of}
use Rattle.eh_link.specs.Fields.{fill_fields}
use Rattle.eh_link.specs.Linked.{link_result}
use Rattle.eh_link.proofs.Holding.{filled_length, law_of_other_bytes}
use Rattle.eh_link.proofs.Words.{Reads, number_is, reads_same}
use Rattle.asm_laws.specs.RowLaw.{walk_over}
use Rattle.link_laws.specs.MeaningLaw.{IsOneOf}
use Rattle.link_laws.specs.LabelLaw.{Has}
use Rattle.link_laws.specs.JoinedLaw.{NumberAt}
use Rattle.link_laws.specs.FilledLaw.{FieldSays}
use Rattle.link_laws.specs.SaidLaw.{MeansSo, StandsAfter, WordSays, NumberSays, SaysThere, WordsSay, HalvesSay, BytesSay}
use Rattle.link_laws.proofs.Filled.{filled_at, part_is}
use Rattle.link_laws.proofs.Given.{Given, given, none_in_both}
use Rattle.link_laws.proofs.Labels.{begins_at, has_right}
use Rattle.link_laws.proofs.Leading.{found_small, joined_symbols}
use Rattle.link_laws.proofs.Numbers.{in_image}

-- ---- numbers in no field

-- a number of a section whose bytes lie in no field is the image's
pub number_stays : (s : Section) (objects : List Object) (entry : List ℕ) (image : ImageParts) (placed : PlacedObject) (one : IsOneOf objects placed) (n k w : ℕ) → link_result objects entry ≡ Ok image → 0 < n
    → same_section s Bss ≡ false → Reads n (bytes_at s placed.object) k w → ((j : ℕ) → k ≤ j → j < k + n → IsInNoField s j placed.object.relocs)
    → NumberAt n image (address_in s placed.at + k) w
number_stays s objects entry image placed one n k w e some given reads none =
    let all = place_objects objects in
    let means = meaning_of all placed in
    let start_at = address_in s placed.at in
    let old = bytes_at s placed.object in
    let relocs = placed.object.relocs in
    let new = reads_same n k w (fill_fields means s start_at old relocs) old (filled_length means s start_at old relocs)
    (λ j from below. law_of_other_bytes means s start_at old relocs j (none j from below)) reads in
    in_image s objects entry image placed one n k w e some
    (ap (λ l. number_at n l k) (part_is s all placed given) ∙ number_is n (fill_fields means s start_at old relocs) k w new)

-- ---- numbers in a statement's bytes

each_has : {A : Type 0} (f : A → List ℕ) (n : ℕ) → ((a : A) → length (f a) ≡ n) → (xs : List A) → length (flat_map f xs) ≡ n * length xs
each_has f n h [] = omega arith
each_has f n h (x ∷ xs) =
    length-append (f x) (flat_map f xs) ∙ sums (length (f x)) (length (flat_map f xs)) n (n * length xs) (n * suc (length xs)) (h x) (each_has f n h xs) (mul-suc n (length xs))
  where
    sums : (a b n m s : ℕ) → a ≡ n → b ≡ m → s ≡ m + n → a + b ≡ s
    sums a b n m s e f g = omega (arith, e, f, g)

pub reads_there : (n x offset k : ℕ) (bytes front back after : List ℕ) → 0 < n → length (little_bytes n x) ≡ n → drop offset bytes ≡ (front ++ (little_bytes n x ++ back)) ++ after → length front ≡ k
    → Reads n bytes (offset + k) (x % 256 ^ n)
reads_there n x offset k bytes front back after some size e count =
    let whole : drop offset bytes ≡ front ++ (little_bytes n x ++ (back ++ after)) =
    e ∙ append_assoc front (little_bytes n x ++ back) after ∙ ap (λ l. front ++ l) (append_assoc (little_bytes n x) back after) in
    let there : drop (offset + k) bytes ≡ little_bytes n x ++ (back ++ after) =
    sym (drop-drop k offset bytes) ∙ ap (drop k) whole ∙ ap (λ m. drop m (front ++ (little_bytes n x ++ (back ++ after)))) (sym count) ∙ drop-append_seam front (little_bytes n x ++ (back ++ after)) in
    record {
      inside = inside offset k n (length bytes) (length (drop (offset + k) bytes)) (length (back ++ after)) some (length-drop (offset + k) bytes)
          (ap length there ∙ length-append (little_bytes n x) (back ++ after) ∙ ap (λ m. m + length (back ++ after)) size);
      is = ap (little_number n) there ∙ little_from-bytes n 0 x (back ++ after) ∙ ap (λ y. y % 256 ^ n) (one x);
    }
  where
    inside : (offset k n all rest more : ℕ) → 0 < n → rest ≡ all - (offset + k) → rest ≡ n + more → offset + k + n ≤ all
    inside offset k n all rest more some h l = omega (arith, some, h, l)

    one : (x : ℕ) → x / 256 ^ 0 ≡ x
    one x = omega arith

each_split : {A : Type 0} (f : A → List ℕ) (front : List A) (x : A) (back : List A) → flat_map f (front ++ x ∷ back) ≡ flat_map f front ++ (f x ++ flat_map f back)
each_split f front x back = flat_map-append f front (x ∷ back)

words_split : (front back : List Expr) (value : Expr) → map word_of (front ++ value ∷ back) ≡ map word_of front ++ word_of value ∷ map word_of back
words_split [] back value = refl
words_split (x ∷ front) back value = ap (λ l. word_of x ∷ l) (words_split front back value)

words_count : (exprs : List Expr) → length (map word_of exprs) ≡ length exprs
words_count [] = refl
words_count (x ∷ exprs) = ap suc (words_count exprs)

-- ---- the fields of a `.word`

abbrev pub field_at : Section → ℕ → Link → Reloc
field_at section offset link = record { section = section; offset = offset; kind = link.kind; name = link.name; addend = link.addend }

next_low : (offset count : ℕ) → offset + 4 * suc count ≤ MOST_BYTES → sum_64 offset 4 + 4 * count ≤ MOST_BYTES
next_low offset count h = omega (arith, h)

next_is : (offset count : ℕ) → offset + 4 * suc count ≤ MOST_BYTES → sum_64 offset 4 + 4 * count ≡ offset + 4 * suc count
next_is offset count h = omega (arith, h)

pub words_have : (section : Section) (offset : ℕ) (front : List Word) (value : Word) (back : List Word) (link : Link) → offset + 4 * length front ≤ MOST_BYTES → link_of value ≡ Some link
    → Has (word_relocs section offset (front ++ value ∷ back)) (field_at section (offset + 4 * length front) link)
unfolding word_relocs
words_have section offset [] value back link h e = record {
  before = [];
  after = word_relocs section (sum_64 offset 4) back;
  split =
      ap (λ l. relocs_of (place_at section offset) l ++ word_relocs section (sum_64 offset 4) back) e
      ∙ ap (λ o. field_at section o link ∷ word_relocs section (sum_64 offset 4) back) (low offset h);
}
  where
    low : (offset : ℕ) → offset + 4 * 0 ≤ MOST_BYTES → offset % 2 ^ 32 ≡ offset + 4 * 0
    low offset h = omega (arith, h)
words_have section offset (x ∷ front) value back link h e =
    let later = words_have section (sum_64 offset 4) front value back link (next_low offset (length front) h) e in
    let P : ℕ → Type 0 = λ o. Has (word_relocs section offset (x ∷ front ++ value ∷ back)) (field_at section o link) in
    subst P (next_is offset (length front) h) (has_right (relocs_of (place_at section offset) (link_of x)) (word_relocs section (sum_64 offset 4) (front ++ value ∷ back)) _ later)

low_field : (j offset : ℕ) → offset ≤ MOST_BYTES → j < offset → offset % 2 ^ 32 ≤ j → ⊥
low_field j offset h lt f = omega (arith, h, lt, f)

high_field : (j offset : ℕ) → offset + 4 ≤ j → j < offset % 2 ^ 32 + 4 → ⊥
high_field j offset le f = omega (arith, le, f)

word_after : (s : Section) (offset j : ℕ) (w : Word) → offset ≤ MOST_BYTES → j < offset → IsInNoField s j (relocs_of (place_at s offset) (link_of w))
word_after s offset j (word.Num n) h lt = tt
word_after s offset j (word.Diff a b n) h lt = tt
word_after s offset j (word.Of name n) h lt = ((λ f. low_field j offset h lt f.from), tt)
word_after s offset j (word.Rel name) h lt = ((λ f. low_field j offset h lt f.from), tt)
word_after s offset j (word.Target2 name) h lt = ((λ f. low_field j offset h lt f.from), tt)
word_after s offset j (word.Prel31 name) h lt = ((λ f. low_field j offset h lt f.from), tt)
word_after s offset j (word.Prel31Ref name) h lt = ((λ f. low_field j offset h lt f.from), tt)

word_before : (s : Section) (offset j : ℕ) (w : Word) → offset + 4 ≤ j → IsInNoField s j (relocs_of (place_at s offset) (link_of w))
word_before s offset j (word.Num n) le = tt
word_before s offset j (word.Diff a b n) le = tt
word_before s offset j (word.Of name n) le = ((λ f. high_field j offset le f.below), tt)
word_before s offset j (word.Rel name) le = ((λ f. high_field j offset le f.below), tt)
word_before s offset j (word.Target2 name) le = ((λ f. high_field j offset le f.below), tt)
word_before s offset j (word.Prel31 name) le = ((λ f. high_field j offset le f.below), tt)
word_before s offset j (word.Prel31Ref name) le = ((λ f. high_field j offset le f.below), tt)

words_after : (s : Section) (offset j : ℕ) (words : List Word) → offset + 4 * length words ≤ MOST_BYTES → j < offset → IsInNoField s j (word_relocs s offset words)
unfolding word_relocs
words_after s offset j [] h lt = tt
words_after s offset j (x ∷ words) h lt =
    none_in_both s (relocs_of (place_at s offset) (link_of x)) (word_relocs s (sum_64 offset 4) words) j (word_after s offset j x (omega (arith, h)) lt)
    (words_after s (sum_64 offset 4) j words (next_low offset (length words) h) (omega (arith, h, lt)))

-- a word that the linker doesn't fill lies in no field of its `.word`
pub word_clear : (s : Section) (offset j : ℕ) (front : List Word) (value : Word) (back : List Word) → link_of value ≡ None → offset + 4 * length (front ++ value ∷ back) ≤ MOST_BYTES
    → offset + 4 * length front ≤ j → j < offset + 4 * length front + 4 → IsInNoField s j (word_relocs s offset (front ++ value ∷ back))
unfolding word_relocs
word_clear s offset j [] value back e h from below =
    let P : List Reloc → Type 0 = λ l. IsInNoField s j (l ++ word_relocs s (sum_64 offset 4) back) in
    subst P (sym (ap (relocs_of (place_at s offset)) e)) (words_after s (sum_64 offset 4) j back (next_low offset (length back) h) (omega (arith, h, below)))
word_clear s offset j (x ∷ front) value back e h from below =
    none_in_both s (relocs_of (place_at s offset) (link_of x)) (word_relocs s (sum_64 offset 4) (front ++ value ∷ back)) j (word_before s offset j x (omega (arith, from)))
    (word_clear s (sum_64 offset 4) j front value back e (next_low offset (length (front ++ value ∷ back)) h) (omega (arith, h, from)) (omega (arith, below)))

-- ---- labels

symbols_find : (entries : List (Option EntryWords)) (stmts : List Stmt) (name : List ℕ) (labels : List NamePlace) (place : Place) → find name labels ≡ Some place
    → symbol_place name (map (λ label. symbol_of (name_with_label entries stmts label)) labels) ≡ Some (record { section = place.section; offset = place.offset % 2 ^ 32 })
unfolding find
symbols_find entries stmts name [] place e = absurd (cc)
symbols_find entries stmts name (label ∷ more) place e = by (same_bytes name label.name) e (symbols_find entries stmts name more place)
  where
    by : (b : Bool) → cond b (Some label.place) (find name more) ≡ Some place
        → (find name more ≡ Some place → symbol_place name (map (λ l. symbol_of (name_with_label entries stmts l)) more) ≡ Some (record { section = place.section; offset = place.offset % 2 ^ 32 }))
        → cond b (Some (record { section = label.place.section; offset = label.place.offset % 2 ^ 32 })) (symbol_place name (map (λ l. symbol_of (name_with_label entries stmts l)) more))
        ≡ Some (record { section = place.section; offset = place.offset % 2 ^ 32 })
    by true e h =
        let same : label.place ≡ place = cc in
        ap (λ (p : Place). Some (record { section = p.section; offset = p.offset % 2 ^ 32 })) same
    by false e h = h e

fewer : (a b : ℕ) → a ≤ b → b < 2 ^ 64 → a < 2 ^ 64
fewer a b h k = omega (arith, h, k)

-- a label of an accepted source has its place as a symbol
pub symbol_there : (stmts : List Stmt) (object : Object) (name : List ℕ) (place : Place) → length stmts < 2 ^ 64 → IsTaken stmts object → find name (labels_of (entries_of stmts) stmts) ≡ Some place
    → symbol_place name object.symbols ≡ Some place
symbol_there stmts object name place few t e =
    let entries = entries_of stmts in
    let labels = labels_of entries stmts in
    let small = found_small entries labels [] start stmts name place (fewer _ _ (entries_count no_frame stmts) few) t.unrefused (ends_small entries start 0 stmts t.small) e in
    ap (symbol_place name) (ap (λ (o : Object). o.symbols) t.object_is ∙ joined_symbols stmts)
    ∙ symbols_find entries stmts name labels place e
    ∙ ap (λ n. Some (record { section = place.section; offset = n })) (low place.offset small)
  where
    low : (n : ℕ) → n ≤ MOST_BYTES → n % 2 ^ 32 ≡ n
    low n h = omega (arith, h)

pub stands_after : (stmts : List Stmt) (object : Object) (a b : List ℕ) (displacement : ℤ) → length stmts < 2 ^ 64 → IsTaken stmts object → distance (labels_of (entries_of stmts) stmts) a b ≡ Some displacement
    → StandsAfter object a b displacement
stands_after stmts object a b displacement few t e = by (find a (labels_of (entries_of stmts) stmts)) (find b (labels_of (entries_of stmts) stmts)) refl refl e
  where
    in_one : (p q : Place) (same : Bool) → same_section p.section q.section ≡ same → find a (labels_of (entries_of stmts) stmts) ≡ Some p → find b (labels_of (entries_of stmts) stmts) ≡ Some q
        → cond same (Some (pos p.offset -ℤ pos q.offset)) None ≡ Some displacement → StandsAfter object a b displacement
    in_one p q false s f g e = absurd (cc)
    in_one p q true s f g e = record {
      first = p;
      first_is = symbol_there stmts object a p few t f;
      second = q;
      second_is = symbol_there stmts object b q few t g;
      together = same_is p.section q.section s;
      displacement_is = cc;
    }

    by : (p q : Option Place) → find a (labels_of (entries_of stmts) stmts) ≡ p → find b (labels_of (entries_of stmts) stmts) ≡ q → between_places p q ≡ Some displacement → StandsAfter object a b displacement
    by (Some p) (Some q) f g e = in_one p q (same_section p.section q.section) refl f g e
    by (Some p) None f g e = absurd (cc)
    by None q f g e = absurd (cc)

-- ---- numbers modulo 2 ^ 32

pub low_small : (n : ℤ) → low_word n < 2 ^ 32
low_small (pos n) = omega arith
low_small (negsuc n) = omega arith

low_low : (d n : ℤ) → low_word (d +ℤ pos (low_word n)) ≡ low_word (d +ℤ n)
low_low (pos d) (pos n) = omega arith
low_low (pos d) (negsuc n) = grind (arith, ints, nat_tests)
low_low (negsuc d) (pos n) = grind (arith, ints, nat_tests)
low_low (negsuc d) (negsuc n) = grind (arith, ints, nat_tests)

-- ---- a `.word` of a source

-- a `.word` with an expression, in objects that link to an image
pub record Wording : Type 0 where
  pub objects : List Object
  pub entry : List ℕ
  pub image : ImageParts
  pub placed : PlacedObject
  pub one : IsOneOf objects placed
  pub before : List Stmt
  pub more : List Stmt
  pub line : ℕ
  pub front : List Expr
  pub back : List Expr
  pub value : Expr
  pub few : length (before ++ record { line = line; kind = statement.Words (front ++ value ∷ back) } ∷ more) < 2 ^ 64
  pub accepted : object_of (before ++ record { line = line; kind = statement.Words (front ++ value ∷ back) } ∷ more) ≡ Ok placed.object
  pub made : link_result objects entry ≡ Ok image

abbrev values : Wording → List Expr
values w = w.front ++ w.value ∷ w.back

abbrev source : Wording → List Stmt
source w = w.before ++ record { line = w.line; kind = statement.Words (values w) } ∷ w.more

abbrev labels_in : Wording → List NamePlace
labels_in w = labels_of (entries_of (source w)) (source w)

abbrev section_of : Wording → Section
section_of w = (walk_over (source w) w.before).at.section

abbrev word_place : Wording → ℕ
word_place w = (cursor_place (walk_over (source w) w.before).at).offset + 4 * length w.front

some_fields : (front : List Expr) (x : Expr) (back : List Expr) → has_fields (front ++ x ∷ back) ≡ true
some_fields front x back = not_none (length (front ++ x ∷ back)) (omega (arith, length-append front (x ∷ back)))
  where
    not_none : (count : ℕ) → 0 < count → not (count == 0) ≡ true
    not_none count h = grind (arith, nat_tests)

pub not_there : (a b : Bool) → a ≡ true → (a && b) ≡ false → b ≡ false
not_there true b e f = f
not_there false b e f = absurd (true≢false (sym e))

word_given : (w : Wording) → Given (source w) w.before (statement.Words (values w)) w.placed.object
word_given w =
    given (source w) w.before w.more w.line (statement.Words (values w)) w.placed.object refl w.few (taken (source w) w.placed.object w.accepted) refl
    (λ h. not_there (has_fields (values w)) (same_section (section_of w) Bss) (some_fields w.front w.value w.back) h)

bytes_count : (labels : List NamePlace) (exprs : List Expr) → length (words_bytes labels (map word_of exprs)) ≡ 4 * length exprs
bytes_count labels exprs = each_has (λ v. word_bytes (section_word labels v)) 4 (λ v. refl) (map word_of exprs) ∙ ap (λ n. 4 * n) (words_count exprs)

-- the bytes of the section have there what the assembler holds for the word
word_reads : (w : Wording) (x : ℕ) → section_word (labels_in w) (word_of w.value) ≡ x → Reads 4 (bytes_at (section_of w) w.placed.object) (word_place w) (x % 256 ^ 4)
word_reads w x e =
    let own = word_given w in
    let labels = labels_in w in
    let first = words_bytes labels (map word_of w.front) in
    let last = words_bytes labels (map word_of w.back) in
    reads_there 4 x (cursor_place (walk_over (source w) w.before).at).offset (4 * length w.front) (bytes_at (section_of w) w.placed.object) first last own.after (omega arith) refl
    (own.bytes
    ∙ ap (λ l. l ++ own.after)
    (ap (words_bytes labels) (words_split w.front w.back w.value)
    ∙ each_split (λ v. word_bytes (section_word labels v)) (map word_of w.front) (word_of w.value) (map word_of w.back)
    ∙ ap (λ n. first ++ (word_bytes n ++ last)) e))
    (bytes_count labels w.front)

word_clears : (w : Wording) → link_of (word_of w.value) ≡ None → (j : ℕ) → word_place w ≤ j → j < word_place w + 4 → IsInNoField (section_of w) j w.placed.object.relocs
word_clears w none j from below =
    let own = word_given w in
    let offset = (cursor_place (walk_over (source w) w.before).at).offset in
    let count : length (own_piece (labels_in w) (statement.Words (values w)) (cursor_place (walk_over (source w) w.before).at) own.word).bytes ≡ 4 * length (values w) = bytes_count (labels_in w) (values w) in
    let split = words_split w.front w.back w.value in
    let P : List Word → Type 0 = λ l. IsInNoField (section_of w) j (word_relocs (section_of w) offset l) in
    own.others j (omega (arith, from)) (omega (arith, below, count, length-append w.front (w.value ∷ w.back)))
    (subst P (sym split)
    (word_clear (section_of w) offset j (map word_of w.front) (word_of w.value) (map word_of w.back) none
    (omega (arith, own.small, count, ap length split, words_count (values w)))
    (omega (arith, from, words_count w.front)) (omega (arith, below, words_count w.front))))

word_field : (w : Wording) (link : Link) → link_of (word_of w.value) ≡ Some link → Has w.placed.object.relocs (field_at (section_of w) (word_place w) link)
word_field w link e =
    let own = word_given w in
    let offset = (cursor_place (walk_over (source w) w.before).at).offset in
    let count : length (own_piece (labels_in w) (statement.Words (values w)) (cursor_place (walk_over (source w) w.before).at) own.word).bytes ≡ 4 * length (values w) = bytes_count (labels_in w) (values w) in
    let low : offset + 4 * length (map word_of w.front) ≤ MOST_BYTES =
    omega (arith, own.small, count, words_count w.front, length-append w.front (w.value ∷ w.back)) in
    let there = words_have (section_of w) offset (map word_of w.front) (word_of w.value) (map word_of w.back) link low e in
    let P : List Word → Type 0 = λ l. Has (word_relocs (section_of w) offset l) (field_at (section_of w) (offset + 4 * length (map word_of w.front)) link) in
    let Q : ℕ → Type 0 = λ n. Has (word_relocs (section_of w) offset (map word_of (values w))) (field_at (section_of w) (offset + 4 * n) link) in
    own.fields (field_at (section_of w) (word_place w) link) (subst Q (words_count w.front) (subst P (sym (words_split w.front w.back w.value)) there))

known_in : {A : Type 0} (p : A → Bool) (front : List A) (x : A) (back : List A) → list_all p (front ++ x ∷ back) ≡ true → p x ≡ true
known_in p [] x back h = first (p x) _ h
  where
    first : (a b : Bool) → (a && b) ≡ true → a ≡ true
    first true b e = refl
    first false b e = e
known_in p (y ∷ front) x back h = known_in p front x back (second (p y) _ h)
  where
    second : (a b : Bool) → (a && b) ≡ true → b ≡ true
    second true b e = e
    second false b e = absurd (true≢false (sym e))

pub record Known {A : Type 0} (o : Option A) : Type 0 where
  pub value : A
  pub is : o ≡ Some value

pub known_some : {A : Type 0} (o : Option A) → is_some o ≡ true → Known o
known_some (Some x) e = record { value = x; is = refl }
known_some None e = absurd (true≢false (sym e))

kind_is : (a b : FieldKind) → Some a ≡ Some b → b ≡ a
kind_is a b e = cc

-- ---- what a word of a source is in the image

-- the word of an expression at a place of a section of an object: what the bytes hold there, and its field, or that it lies in none
pub record WordHere (objects : List Object) (entry : List ℕ) (image : ImageParts) (placed : PlacedObject) (one : IsOneOf objects placed) (stmts : List Stmt) (s : Section) (k : ℕ) (value : Expr) : Type 0 where
  pub few : length stmts < 2 ^ 64
  pub accepted : object_of stmts ≡ Ok placed.object
  pub made : link_result objects entry ≡ Ok image
  pub has_bytes : same_section s Bss ≡ false
  pub known : is_word_known (labels_of (entries_of stmts) stmts) value ≡ true
  pub reads : (x : ℕ) → section_word (labels_of (entries_of stmts) stmts) (word_of value) ≡ x → Reads 4 (bytes_at s placed.object) k (x % 256 ^ 4)
  pub field : (link : Link) → link_of (word_of value) ≡ Some link → Has placed.object.relocs (field_at s k link)
  pub clear : link_of (word_of value) ≡ None → (j : ℕ) → k ≤ j → j < k + 4 → IsInNoField s j placed.object.relocs

-- a word that the linker doesn't fill
plain_word : (objects : List Object) (entry : List ℕ) (image : ImageParts) (placed : PlacedObject) (one : IsOneOf objects placed) (stmts : List Stmt) (s : Section) (k : ℕ) (value : Expr)
    → WordHere objects entry image placed one stmts s k value → (x : ℕ) → link_of (word_of value) ≡ None → section_word (labels_of (entries_of stmts) stmts) (word_of value) ≡ x
    → NumberAt 4 image (address_in s placed.at + k) (x % 256 ^ 4)
plain_word objects entry image placed one stmts s k value w x none e =
    number_stays s objects entry image placed one 4 k (x % 256 ^ 4) w.made (omega arith) w.has_bytes (w.reads x e) (w.clear none)

-- what the field of a word says, by its kind
filled_word : (objects : List Object) (entry : List ℕ) (image : ImageParts) (placed : PlacedObject) (one : IsOneOf objects placed) (stmts : List Stmt) (s : Section) (k : ℕ) (value : Expr) (kind : FieldKind) (link : Link)
    → WordHere objects entry image placed one stmts s k value → link_of (word_of value) ≡ Some link → kind_of link.kind ≡ Some kind
    → MeansSo objects placed link.name (λ meaning. FieldSays kind meaning link.addend (bytes_at s placed.object) k image (address_in s placed.at + k))
filled_word objects entry image placed one stmts s k value kind link w e is =
    let has = w.field link e in
    let f = filled_at objects entry image placed one stmts has.before has.after (field_at s k link) w.few w.accepted w.made has.split in
    let P : FieldKind → Type 0 = λ c. FieldSays c f.meaning link.addend (bytes_at s placed.object) k image (address_in s placed.at + k) in
    record { meaning = f.meaning; means = f.means; says = subst P (kind_is kind f.kind (sym is ∙ f.number)) f.says }

low_is : (n : ℤ) → low_word n % 256 ^ 4 ≡ low_word n
low_is n = omega (arith, low_small n)

difference_is : (labels : List NamePlace) (a b : List ℕ) (n displacement : ℤ) → distance labels a b ≡ Some displacement → low_or_zero (plus (distance labels a b) (pos (low_word n))) ≡ low_word (displacement +ℤ n)
difference_is labels a b n displacement e = ap (λ d. low_or_zero (plus d (pos (low_word n)))) e ∙ low_low displacement n

pub word_says : (objects : List Object) (entry : List ℕ) (image : ImageParts) (placed : PlacedObject) (one : IsOneOf objects placed) (stmts : List Stmt) (s : Section) (k : ℕ) (value : Expr)
    → WordHere objects entry image placed one stmts s k value → WordSays objects placed image value (address_in s placed.at + k)
word_says objects entry image placed one stmts s k (expr.Num n) w =
    let P : ℕ → Type 0 = NumberAt 4 image (address_in s placed.at + k) in
    subst P (low_is n) (plain_word objects entry image placed one stmts s k (expr.Num n) w (low_word n) refl refl)
word_says objects entry image placed one stmts s k (expr.Diff a b n) w =
    let labels = labels_of (entries_of stmts) stmts in
    let known = known_some (distance labels a b) w.known in
    record {
      displacement = known.value;
      apart = stands_after stmts placed.object a b known.value w.few (taken stmts placed.object w.accepted) known.is;
      there = plain_word objects entry image placed one stmts s k (expr.Diff a b n) w (low_word (known.value +ℤ n)) refl (difference_is labels a b n known.value known.is);
    }
word_says objects entry image placed one stmts s k (expr.Of name n) w =
    filled_word objects entry image placed one stmts s k (expr.Of name n) Absolute (record { kind = R_ARM_ABS32; name = name; addend = signed_word (low_word n) }) w refl refl
word_says objects entry image placed one stmts s k (expr.Rel name) w =
    filled_word objects entry image placed one stmts s k (expr.Rel name) Relative (record { kind = R_ARM_REL32; name = name; addend = pos 0 }) w refl refl
word_says objects entry image placed one stmts s k (expr.Target2 name) w =
    filled_word objects entry image placed one stmts s k (expr.Target2 name) Relative (record { kind = R_ARM_TARGET2; name = name; addend = pos 0 }) w refl refl
word_says objects entry image placed one stmts s k (expr.Prel31 name) w =
    let f = filled_word objects entry image placed one stmts s k (expr.Prel31 name) Prel31 (record { kind = R_ARM_PREL31; name = name; addend = pos 0 }) w refl refl in
    let old = number_is 4 (bytes_at s placed.object) k (0 % 256 ^ 4) (w.reads 0 refl) in
    record { meaning = f.meaning; means = f.means; says = f.says (0 % 256 ^ 4) old (omega arith) }
word_says objects entry image placed one stmts s k (expr.Prel31Ref name) w =
    let f = filled_word objects entry image placed one stmts s k (expr.Prel31Ref name) Prel31 (record { kind = R_ARM_PREL31; name = name; addend = pos 0 }) w refl refl in
    let old = number_is 4 (bytes_at s placed.object) k (0x80000000 % 256 ^ 4) (w.reads 0x80000000 refl) in
    record { meaning = f.meaning; means = f.means; says = f.says (0x80000000 % 256 ^ 4) old (omega arith) }

-- ---- `.word`

pub law_of_words : WordsSay
law_of_words objects entry image placed one before more line front back value few accepted made =
    let w : Wording = record {
      objects = objects;
      entry = entry;
      image = image;
      placed = placed;
      one = one;
      before = before;
      more = more;
      line = line;
      front = front;
      back = back;
      value = value;
      few = few;
      accepted = accepted;
      made = made;
    } in
    record {
      part = address_in (section_of w) placed.at;
      begins = begins_at (section_of w) objects placed one;
      says =
          word_says objects entry image placed one (source w) (section_of w) (word_place w) value
          (record {
            few = few;
            accepted = accepted;
            made = made;
            has_bytes = (word_given w).has_bytes;
            known = known_in (is_word_known (labels_in w)) front value back (word_given w).known;
            reads = word_reads w;
            field = word_field w;
            clear = word_clears w;
          });
    }

-- ---- `.half` and `.byte`

-- a statement of numbers of so many bytes each, in objects that link to an image
record Numbers (size : ℕ) (stmts before : List Stmt) (kind : StmtKind) (front back : List Expr) (value : Expr) (objects : List Object) (entry : List ℕ) (image : ImageParts) (placed : PlacedObject) (one : IsOneOf objects placed) : Type 0 where
  few : length stmts < 2 ^ 64
  accepted : object_of stmts ≡ Ok placed.object
  made : link_result objects entry ≡ Ok image
  some : 0 < size
  whole : (x : ℕ) → length (little_bytes size x) ≡ size
  own : Given stmts before kind placed.object
  unlinked : (own_piece (labels_of (entries_of stmts) stmts) kind (cursor_place (walk_over stmts before).at) own.word).relocs ≡ []
  bytes :
      (own_piece (labels_of (entries_of stmts) stmts) kind (cursor_place (walk_over stmts before).at) own.word).bytes
      ≡ flat_map (λ v. little_bytes size (low_or_zero (number (labels_of (entries_of stmts) stmts) v))) (front ++ value ∷ back)
  known : is_some (number (labels_of (entries_of stmts) stmts) value) ≡ true

number_there : (size : ℕ) (stmts before : List Stmt) (kind : StmtKind) (front back : List Expr) (value : Expr) (objects : List Object) (entry : List ℕ) (image : ImageParts) (placed : PlacedObject) (one : IsOneOf objects placed)
    → Numbers size stmts before kind front back value objects entry image placed one
    → NumberAt size image (address_in (walk_over stmts before).at.section placed.at + ((cursor_place (walk_over stmts before).at).offset + size * length front)) (low_or_zero (number (labels_of (entries_of stmts) stmts) value) % 256 ^ size)
number_there size stmts before kind front back value objects entry image placed one c =
    let s = (walk_over stmts before).at.section in
    let labels = labels_of (entries_of stmts) stmts in
    let offset = (cursor_place (walk_over stmts before).at).offset in
    let f : Expr → List ℕ = λ v. little_bytes size (low_or_zero (number labels v)) in
    let x = low_or_zero (number labels value) in
    let first = each_has f size (λ v. c.whole (low_or_zero (number labels v))) front in
    let last = each_has f size (λ v. c.whole (low_or_zero (number labels v))) (front ++ value ∷ back) in
    number_stays s objects entry image placed one size (offset + size * length front) (x % 256 ^ size) c.made c.some c.own.has_bytes
    (reads_there size x offset (size * length front) (bytes_at s placed.object) (flat_map f front) (flat_map f back) c.own.after c.some (c.whole x)
    (c.own.bytes ∙ ap (λ l. l ++ c.own.after) (c.bytes ∙ each_split f front value back)) first)
    (λ j from below.
    let P : List Reloc → Type 0 = λ l. IsInNoField s j l in
    c.own.others j (low offset (size * length front) j from) (inside j offset size (length front) (length (front ++ value ∷ back)) _ below (more front value back) (ap length c.bytes ∙ last)) (subst P (sym c.unlinked) tt))
  where
    more : (front : List Expr) (value : Expr) (back : List Expr) → suc (length front) ≤ length (front ++ value ∷ back)
    more front value back = omega (arith, length-append front (value ∷ back))

    low : (offset x j : ℕ) → offset + x ≤ j → offset ≤ j
    low offset x j h = omega (arith, h)

    below_all : (j offset x size next all bytes : ℕ) → j < offset + x + size → next ≡ x + size → next ≤ all → bytes ≡ all → j < offset + bytes
    below_all j offset x size next all bytes h k l e = omega (arith, h, k, l, e)

    inside : (j offset size front all bytes : ℕ) → j < offset + size * front + size → suc front ≤ all → bytes ≡ size * all → j < offset + bytes
    inside j offset size front all bytes h k e = below_all j offset (size * front) size (size * suc front) (size * all) bytes h (mul-suc size front) (mul-le-mul_left size k) e

number_says : (size : ℕ) (stmts before : List Stmt) (kind : StmtKind) (front back : List Expr) (value : Expr) (objects : List Object) (entry : List ℕ) (image : ImageParts) (placed : PlacedObject) (one : IsOneOf objects placed)
    → Numbers size stmts before kind front back value objects entry image placed one → (v : Expr) → value ≡ v
    → SaysThere objects placed one stmts before (size * length front) (NumberSays size objects placed image v)
number_says size stmts before kind front back value objects entry image placed one c v e = record {
  part = address_in (walk_over stmts before).at.section placed.at;
  begins = begins_at (walk_over stmts before).at.section objects placed one;
  says =
      by v
      (ap (λ u. is_some (number (labels_of (entries_of stmts) stmts) u)) (sym e) ∙ c.known)
      (let P : Expr → Type 0 = λ u. NumberAt size image (address_in (walk_over stmts before).at.section placed.at + ((cursor_place (walk_over stmts before).at).offset + size * length front)) (low_or_zero (number (labels_of (entries_of stmts) stmts) u) % 256 ^ size) in
      subst P e (number_there size stmts before kind front back value objects entry image placed one c));
}
  where
    some_of : (o : Option ℤ) (n : ℤ) → is_some (plus o n) ≡ true → is_some o ≡ true
    some_of (Some m) n h = refl
    some_of None n h = h

    by : (v : Expr) → is_some (number (labels_of (entries_of stmts) stmts) v) ≡ true
        → NumberAt size image (address_in (walk_over stmts before).at.section placed.at + ((cursor_place (walk_over stmts before).at).offset + size * length front)) (low_or_zero (number (labels_of (entries_of stmts) stmts) v) % 256 ^ size)
        → NumberSays size objects placed image v (address_in (walk_over stmts before).at.section placed.at + ((cursor_place (walk_over stmts before).at).offset + size * length front))
    by (expr.Num n) k h = h
    by (expr.Diff a b n) k h =
        let known = known_some (distance (labels_of (entries_of stmts) stmts) a b) (some_of (distance (labels_of (entries_of stmts) stmts) a b) n k) in
        let P : Option ℤ → Type 0 = λ d. NumberAt size image (address_in (walk_over stmts before).at.section placed.at + ((cursor_place (walk_over stmts before).at).offset + size * length front)) (low_or_zero (plus d n) % 256 ^ size) in
        record {
          displacement = known.value;
          apart = stands_after stmts placed.object a b known.value c.few (taken stmts placed.object c.accepted) known.is;
          there = subst P known.is h;
        }
    by (expr.Of name n) k h = true≢false (sym k)
    by (expr.Rel name) k h = true≢false (sym k)
    by (expr.Target2 name) k h = true≢false (sym k)
    by (expr.Prel31 name) k h = true≢false (sym k)
    by (expr.Prel31Ref name) k h = true≢false (sym k)

pub law_of_halves : HalvesSay
law_of_halves objects entry image placed one before more line front back value few accepted made =
    let stmts = before ++ record { line = line; kind = statement.Halves (front ++ value ∷ back) } ∷ more in
    let own = given stmts before more line (statement.Halves (front ++ value ∷ back)) placed.object refl few (taken stmts placed.object accepted) refl (λ h. not_there (has_fields (front ++ value ∷ back)) (same_section (walk_over stmts before).at.section Bss) (some_fields front value back) h) in
    number_says 2 stmts before (statement.Halves (front ++ value ∷ back)) front back value objects entry image placed one
    (record {
      few = few;
      accepted = accepted;
      made = made;
      some = omega arith;
      whole = λ x. refl;
      own = own;
      unlinked = refl;
      bytes = refl;
      known = known_in (λ v. is_some (number (labels_of (entries_of stmts) stmts) v)) front value back own.known;
    }) value refl

pub law_of_bytes : BytesSay
law_of_bytes objects entry image placed one before more line front back value few accepted made =
    let stmts = before ++ record { line = line; kind = statement.Bytes (front ++ value ∷ back) } ∷ more in
    let own = given stmts before more line (statement.Bytes (front ++ value ∷ back)) placed.object refl few (taken stmts placed.object accepted) refl (λ h. not_there (has_fields (front ++ value ∷ back)) (same_section (walk_over stmts before).at.section Bss) (some_fields front value back) h) in
    number_says 1 stmts before (statement.Bytes (front ++ value ∷ back)) front back value objects entry image placed one
    (record {
      few = few;
      accepted = accepted;
      made = made;
      some = omega arith;
      whole = λ x. refl;
      own = own;
      unlinked = refl;
      bytes = refl;
      known = known_in (λ v. is_some (number (labels_of (entries_of stmts) stmts) v)) front value back own.known;
    }) value refl
