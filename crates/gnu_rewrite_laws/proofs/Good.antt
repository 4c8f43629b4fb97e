-- The rewritten parts of an image that was read are good.
use Rattle.std.proofs.Common.{◌≡◌, ℕ, ◌+◌, ◌-◌, ◌*◌, ◌/◌, ◌%◌, ◌<◌, ◌≤◌, ◌^◌, ◌&&◌, ◌||◌, Bool, true, false, cond, not, nat_eq, nat_lt, nat_le, List, [], ◌∷◌, ◌++◌, length, map, All, refl, sym, ap, subst, ◌∙◌, arith, length-append}
use Rattle.std.specs.Prelude.{sum_by}
use Rattle.std.specs.List.{list_any}
use Rattle.std.proofs.lemmas.Bool.Decides.{nat_tests}
use Rattle.std.proofs.lemmas.List.{length-map}
use Rattle.std.proofs.lemmas.List.Folds.{list_any-append}
use Rattle.std.proofs.lemmas.List.Elements.{All-head, All-tail}
use Rattle.elf_image.specs.Segments.{Segment, holds, RiseFrom}
use Rattle.elf_image.specs.Functions.{Function, FunctionsFrom}
use Rattle.elf_image.specs.Marks.{is_code_by_marks}
use Rattle.elf_image.specs.Image.{Image, IsSound, IsWithinCode, is_code_in}
use Rattle.elf_image.specs.declared.limits.TheConstants.{ADDRESS_LIMIT, MEMORY_LIMIT, SEGMENT_LIMIT, SYMBOL_LIMIT}
use Rattle.elf_image.proofs.Sound.{sound_law}
use Rattle.eh_codes.specs.declared.row.TheConstants.{ROW_SIZE}
use Rattle.eh_codes.specs.declared.row.Entry.{Entry}
use Rattle.eh_codes.specs.Rows.{rows_bytes}
use Rattle.eh_codes.proofs.RowBytes.{length-rows}
use Rattle.elf_write.specs.Layout.{plan_of, file_end, is_too_long}
use Rattle.elf_write.specs.Parts.{IsWord, SymbolsFit, own_segment, holds_range, segments_of_parts, symbols_of_parts, image_of_parts}
use Rattle.elf_write.specs.declared.parts.OwnSegment.{OwnSegment}
use Rattle.elf_write.specs.declared.parts.OwnSymbol.{OwnSymbol}
use Rattle.elf_write.specs.declared.parts.ImageParts.{ImageParts}
use Rattle.elf_laws.specs.Good.{is_out_of_range, some_meet, own_functions, AreGood}
use Rattle.elf_laws.proofs.Refusals.{law_of_their_image, law_of_good_parts}
use Rattle.gnu_index.specs.Lists.{Lists}
use Rattle.gnu_rewrite.specs.declared.limits.TheConstants.{FILE_LIMIT}
use Rattle.gnu_rewrite.specs.Segments.{greatest_end, tables_start, rows_start, new_bytes, read_only, segment_from, kept_segment, index_at}
use Rattle.gnu_rewrite.specs.Marks.{marks_of}
use Rattle.gnu_rewrite.specs.Parts.{parts_with, new_tables, new_parts}
use Rattle.gnu_rewrite.specs.Refusal.{passes_limits}
use Rattle.gnu_rewrite_laws.specs.Laws.{PartsAreGood, PartsAreWritten, FilesAreRead, FunctionsStay, SegmentsStay, CodeStays}
use Rattle.gnu_rewrite_laws.proofs.Standing.{all_kept, segments_are, words_fit, none_out, none_meet, same_memory}
use Rattle.gnu_rewrite_laws.proofs.Table.{Name, all_own, rows}
use Rattle.gnu_rewrite_laws.proofs.Marks.{marks_say}
use Rattle.gnu_rewrite_laws.proofs.Words.{Placed, addresses_are_words}
use Rattle.gnu_rewrite_laws.proofs.Fitting.{all_fit, function_low}
use Rattle.gnu_rewrite_laws.proofs.Sizes.{tables_whole}
use Rattle.gnu_rewrite_laws.proofs.Parts.{names_of, types_in, marks_split, symbols_are, parts_symbols, parts_entry, all_stacked, new_segments, even_entry, read_segments, read_symbols, read_functions, has}

-- ---- the limits

either_false : (a b : Bool) → (a || b) ≡ false → (a ≡ false) × (b ≡ false)
either_false true b h = absurd cc
either_false false b h = (refl, h)

lt_wasnt : (a b : ℕ) → nat_lt a b ≡ false → b ≤ a
lt_wasnt a b h = grind (arith, nat_tests)

le_wasnt : (a b : ℕ) → nat_le a b ≡ false → b < a
le_wasnt a b h = grind (arith, nat_tests)

lt_isnt : (a b : ℕ) → b ≤ a → nat_lt a b ≡ false
lt_isnt a b h = grind (arith, nat_tests)

le_isnt : (a b : ℕ) → b < a → nat_le a b ≡ false
le_isnt a b h = grind (arith, nat_tests)

le_is : (a b : ℕ) → a ≤ b → nat_le a b ≡ true
le_is a b h = grind (arith, nat_tests)

eq_is : (a b : ℕ) → a ≡ b → nat_eq a b ≡ true
eq_is a b h = grind (arith, nat_tests)

pub record Limits (parts : ImageParts) : Type 0 where
  pub memory : sum_by (λ (s : OwnSegment). s.size) parts.segments ≤ MEMORY_LIMIT
  pub count : length parts.segments ≤ SEGMENT_LIMIT
  pub symbols : 1 + length parts.symbols ≤ SYMBOL_LIMIT
  pub addresses : list_any (λ (s : OwnSegment). nat_lt ADDRESS_LIMIT (s.start + s.size)) parts.segments ≡ false
  pub file : file_end (plan_of parts) < FILE_LIMIT

pub limits_of : (parts : ImageParts) → passes_limits parts ≡ false → Limits parts
unfolding passes_limits
limits_of parts h =
    let a = nat_lt MEMORY_LIMIT (sum_by (λ (s : OwnSegment). s.size) parts.segments) in
    let b = nat_lt SEGMENT_LIMIT (length parts.segments) in
    let c = nat_lt SYMBOL_LIMIT (1 + length parts.symbols) in
    let d = list_any (λ (s : OwnSegment). nat_lt ADDRESS_LIMIT (s.start + s.size)) parts.segments in
    let e = nat_le FILE_LIMIT (file_end (plan_of parts)) in
    let four = either_false (a || b || c || d) e h in
    let three = either_false (a || b || c) d four.0 in
    let two = either_false (a || b) c three.0 in
    let one = either_false a b two.0 in
    record {
      memory = lt_wasnt MEMORY_LIMIT (sum_by (λ (s : OwnSegment). s.size) parts.segments) one.0;
      count = lt_wasnt SEGMENT_LIMIT (length parts.segments) one.1;
      symbols = lt_wasnt SYMBOL_LIMIT (1 + length parts.symbols) two.1;
      addresses = three.1;
      file = le_wasnt FILE_LIMIT (file_end (plan_of parts)) four.1;
    }

not_long : (parts : ImageParts) → length parts.segments ≤ SEGMENT_LIMIT → file_end (plan_of parts) < FILE_LIMIT → is_too_long parts ≡ false
unfolding is_too_long
not_long parts few short = rw (lt_isnt SEGMENT_LIMIT (length parts.segments) few, le_isnt (2 ^ 32) (file_end (plan_of parts)) (omega (arith, short))) refl

-- ---- the entry

entry_step : (b c : Bool) → (b || c) ≡ true → (b ≡ false → c ≡ true)
entry_step true c h e = absurd cc
entry_step false c h e = h

entry_low : (entry low : ℕ) (segments : List Segment) (fs : List Function) → RiseFrom 0 segments → FunctionsFrom low fs → All (IsWithinCode segments) fs
    → list_any (λ f. nat_eq f.start entry) fs ≡ true → entry < 2 ^ 32
entry_low entry low segments [] r h w e = absurd cc
entry_low entry low segments (f ∷ fs) r h w e =
    by (nat_eq f.start entry) refl e (λ any. entry_low entry f.end segments fs r h.2 (All-tail (IsWithinCode segments) f fs w) any)
  where
    by : (b : Bool) → nat_eq f.start entry ≡ b → (b || list_any (λ g. nat_eq g.start entry) fs) ≡ true → (list_any (λ g. nat_eq g.start entry) fs ≡ true → entry < 2 ^ 32) → entry < 2 ^ 32
    by true t any later =
        let same : f.start ≡ entry = grind (arith, nat_tests) in
        omega (arith, same, function_low segments f r (All-head (IsWithinCode segments) f fs w), h.1)
    by false t any later = later any

-- ---- the symbols

length_four : (a b c d : List OwnSymbol) → length (a ++ b ++ c ++ d) ≡ length a + length b + length c + length d
length_four a b c d = simp length-append

length_rows : (own : List OwnSegment) (names types : List Name) (functions : List Function) (marks : List (ℕ × Bool))
    → length (rows own names functions types marks) ≡ length (all_own names functions types marks)
length_rows own names types functions marks = simp (length-append, length-map) omega arith

-- ---- the index

length_new : (image : Image) (t : Lists) → length (new_bytes image t) ≡ length t.bytes + ROW_SIZE * length t.rows
length_new image t = length-append t.bytes (rows_bytes (rows_start image t) t.rows) ∙ ap (λ (n : ℕ). length t.bytes + n) (length-rows (rows_start image t) t.rows)

last_any : (xs ys : List OwnSegment) → list_any (λ (s : OwnSegment). nat_lt ADDRESS_LIMIT (s.start + s.size)) (xs ++ ys) ≡ false
    → list_any (λ (s : OwnSegment). nat_lt ADDRESS_LIMIT (s.start + s.size)) ys ≡ false
last_any xs ys h =
    (either_false (list_any (λ (s : OwnSegment). nat_lt ADDRESS_LIMIT (s.start + s.size)) xs) (list_any (λ (s : OwnSegment). nat_lt ADDRESS_LIMIT (s.start + s.size)) ys)
    (sym (list_any-append (λ (s : OwnSegment). nat_lt ADDRESS_LIMIT (s.start + s.size)) xs ys) ∙ h)).1

new_low : (start : ℕ) (bytes : List ℕ) → list_any (λ (s : OwnSegment). nat_lt ADDRESS_LIMIT (s.start + s.size)) (segment_from start bytes) ≡ false
    → 0 < length bytes → start + length bytes ≤ ADDRESS_LIMIT
new_low start bytes h some = by (nat_eq (length bytes) 0) refl h
  where
    by : (b : Bool) → nat_eq (length bytes) 0 ≡ b → list_any (λ (s : OwnSegment). nat_lt ADDRESS_LIMIT (s.start + s.size)) (cond b [] (read_only start bytes ∷ [])) ≡ false → start + length bytes ≤ ADDRESS_LIMIT
    by true e h = let none : length bytes ≡ 0 = grind (arith, nat_tests) in absurd (omega (arith, none, some))
    by false e h = lt_wasnt ADDRESS_LIMIT (start + length bytes) (either_false (nat_lt ADDRESS_LIMIT (start + length bytes)) false h).0

-- the new bytes end below the limit
pub new_ends : (image : Image) (t : Lists) → Limits (parts_with image t) → 0 < length (new_bytes image t) → tables_start image + length (new_bytes image t) ≤ ADDRESS_LIMIT
unfolding parts_with
new_ends image t limits some = new_low (tables_start image) (new_bytes image t) (last_any (map kept_segment image.segments) (segment_from (tables_start image) (new_bytes image t)) limits.addresses) some

abbrev Both : ℕ × ℕ → Type 0
Both i = IsWord i.0 × IsWord i.1

index_word : (place : ℕ) (rows : List Entry) → place < 2 ^ 32 → ROW_SIZE * length rows < 2 ^ 32 → Both (index_at place rows)
index_word place rows h k = by (nat_eq (length rows) 0)
  where
    by : (b : Bool) → Both (cond b (0, 0) (place, ROW_SIZE * length rows))
    by true = (omega arith, omega arith)
    by false = (h, k)

pub parts_index : (image : Image) (t : Lists) → (parts_with image t).index ≡ index_at (rows_start image t) t.rows
unfolding parts_with
parts_index image t = refl

rows_low : (image : Image) (t : Lists) → Limits (parts_with image t) → ROW_SIZE * length t.rows < 2 ^ 32
rows_low image t limits = by (nat_eq (length (new_bytes image t)) 0) refl
  where
    by : (b : Bool) → nat_eq (length (new_bytes image t)) 0 ≡ b → ROW_SIZE * length t.rows < 2 ^ 32
    by true e = let none : length (new_bytes image t) ≡ 0 = grind (arith, nat_tests) in omega (arith, none, length_new image t)
    by false e =
        let some : 0 < length (new_bytes image t) = grind (arith, nat_tests) in
        omega (arith, new_ends image t limits some, length_new image t)

place_low : (n : ℕ) → n % 2 ^ 32 < 2 ^ 32
place_low n = omega arith

pub tables_aligned : (n : ℕ) → (n + (4096 - 1)) / 4096 * 4096 % 4 ≡ 0
tables_aligned n = omega arith

-- where the rows stand
pub record Placing (image : Image) (t : Lists) : Type 0 where
  pub place : rows_start image t ≡ tables_start image + length t.bytes
  pub aligned : rows_start image t % 4 ≡ 0
  pub ends : tables_start image + length t.bytes + ROW_SIZE * length t.rows ≤ ADDRESS_LIMIT

place_is : (start long : ℕ) → start + long < 2 ^ 32 → (start + long) % 2 ^ 32 ≡ start + long
place_is start long h = omega (arith, h)

pub placing : (image : Image) (t : Lists) → Limits (parts_with image t) → length t.bytes % 4 ≡ 0 → 0 < length t.rows → Placing image t
placing image t limits whole some =
    let size = length_new image t in
    let ends : tables_start image + length (new_bytes image t) ≤ ADDRESS_LIMIT = new_ends image t limits (omega (arith, size, some)) in
    let place : rows_start image t ≡ tables_start image + length t.bytes = place_is (tables_start image) (length t.bytes) (omega (arith, ends, size)) in
    let four = tables_aligned (greatest_end image.segments) in
    record {
      place = place;
      aligned = omega (arith, place, four, whole);
      ends = omega (arith, ends, size);
    }

any_last : (p : Segment → Bool) (xs ys : List Segment) → list_any p ys ≡ true → list_any p (xs ++ ys) ≡ true
any_last p xs ys h = list_any-append p xs ys ∙ by (list_any p xs) (list_any p ys) h
  where
    by : (b c : Bool) → c ≡ true → (b || c) ≡ true
    by true c h = refl
    by false c h = h

any_of : (p : Segment → Bool) (s : Segment) → p s ≡ true → list_any p (s ∷ []) ≡ true
any_of p s h = rw h refl

-- the new segment is there where there are rows
pub the_new_one : (image : Image) (t : Lists) → 0 < length t.rows → new_segments image t ≡ own_segment (read_only (tables_start image) (new_bytes image t)) ∷ []
the_new_one image t some =
    let size = length_new image t in
    let long : nat_eq (length (new_bytes image t)) 0 ≡ false = not_zero (length (new_bytes image t)) (omega (arith, size, some)) in
    ap (λ (b : Bool). map own_segment (cond b [] (read_only (tables_start image) (new_bytes image t) ∷ []))) long
  where
    not_zero : (n : ℕ) → 0 < n → nat_eq n 0 ≡ false
    not_zero n h = grind (arith, nat_tests)

holds_there : (start size : ℕ) (s : Segment) → s.write ≡ false → nat_le s.start start ≡ true → nat_le (start + size) (s.start + length s.bytes) ≡ true → nat_eq (start % 4) 0 ≡ true
    → holds_range start size s ≡ true
holds_there start size s w l h a = simp (w, l, h, a)

index_held : (image : Image) (t : Lists) → Limits (parts_with image t) → length t.bytes % 4 ≡ 0 → 0 < length t.rows
    → list_any (holds_range (rows_start image t) (ROW_SIZE * length t.rows)) (image.segments ++ new_segments image t) ≡ true
index_held image t limits whole some =
    let size = length_new image t in
    let p = placing image t limits whole some in
    let last = own_segment (read_only (tables_start image) (new_bytes image t)) in
    any_last (holds_range (rows_start image t) (ROW_SIZE * length t.rows)) image.segments (new_segments image t)
    (ap (list_any (holds_range (rows_start image t) (ROW_SIZE * length t.rows))) (the_new_one image t some)
    ∙ any_of (holds_range (rows_start image t) (ROW_SIZE * length t.rows)) last
    (holds_there (rows_start image t) (ROW_SIZE * length t.rows) last refl (le_is (tables_start image) (rows_start image t) (omega (arith, p.place)))
    (le_is (rows_start image t + ROW_SIZE * length t.rows) (tables_start image + length (new_bytes image t)) (omega (arith, p.place, size))) (eq_is (rows_start image t % 4) 0 p.aligned)))

abbrev Held : List Segment → ℕ × ℕ → Type 0
Held segments i = not (nat_eq i.1 0) ≡ true → list_any (holds_range i.0 i.1) segments ≡ true

held_at : (place : ℕ) (rows : List Entry) (segments : List Segment) → (0 < length rows → list_any (holds_range place (ROW_SIZE * length rows)) segments ≡ true) → Held segments (index_at place rows)
held_at place rows segments h = by (nat_eq (length rows) 0) refl
  where
    by : (b : Bool) → nat_eq (length rows) 0 ≡ b → Held segments (cond b (0, 0) (place, ROW_SIZE * length rows))
    by true e none = absurd cc
    by false e some = h (grind (arith, nat_tests))

-- ---- the law

good : (image : Image) (t : Lists) → IsSound image → Placed image.symbols → length t.bytes % 4 ≡ 0 → Limits (parts_with image t) → AreGood (parts_with image t)
good image t sound placed whole limits =
    let parts = parts_with image t in
    let up = all_stacked image t sound.rise in
    let all = all_kept 0 parts.segments up in
    let own = segments_are parts.segments up in
    let functions = read_functions image t sound in
    let words = index_word (rows_start image t) t.rows (place_low (tables_start image + length t.bytes)) (rows_low image t limits) in
    let indexed = parts_index image t in
    let memory : sum_by (λ (s : Segment). s.size) (segments_of_parts parts.segments) ≡ sum_by (λ (s : OwnSegment). s.size) parts.segments =
    ap (sum_by (λ (s : Segment). s.size)) own ∙ same_memory parts.segments in
    let count : length (segments_of_parts parts.segments) ≡ length parts.segments = ap length own ∙ length-map parts.segments own_segment in
    let table : length (symbols_of_parts parts) ≡ 1 + length parts.symbols =
    ap length (read_symbols image t) ∙ omega (
      arith,
      length_rows parts.segments (names_of image) (types_in image) image.functions (marks_of image),
      ap length (parts_symbols image t ∙ symbols_are image),
    ) in
    record {
      are = record {
        entry = subst IsWord (sym (parts_entry image t)) (entry_low image.entry 0 image.segments image.functions sound.rise sound.functions sound.within sound.entry_begins);
        segments = words_fit parts.segments limits.addresses;
        symbols = subst SymbolsFit (sym (parts_symbols image t ∙ symbols_are image))
            (subst (λ (ms : List (ℕ × Bool)). SymbolsFit (all_own (names_of image) image.functions (types_in image) ms)) (sym (marks_split image))
            (all_fit image (is_code_in image) sound.rise sound.functions sound.within placed));
        index_start = (subst Both (sym indexed) words).0;
        index_size = (subst Both (sym indexed) words).1;
      };
      short = not_long parts limits.count limits.file;
      fit = ap (list_any is_out_of_range) all ∙ none_out 0 parts.segments up limits.addresses;
      apart = ap some_meet all ∙ none_meet 0 parts.segments up;
      memory = rw memory limits.memory;
      count = rw count limits.count;
      symbols = rw table limits.symbols;
      functions = rw functions sound.function_count;
      entry = ap (λ (e : ℕ). list_any (λ (f : Function). nat_eq f.start (e - e % 2)) (own_functions parts)) (parts_entry image t)
          ∙ ap (λ (fs : List Function). list_any (λ (f : Function). nat_eq f.start (image.entry - image.entry % 2)) fs) functions
          ∙ ap (λ (e : ℕ). list_any (λ (f : Function). nat_eq f.start e) image.functions) (even_entry image.entry sound.entry_even) ∙ sound.entry_begins;
      index = subst (λ (segments : List Segment). Held segments parts.index) (sym (read_segments image t sound.rise))
          (subst (Held (image.segments ++ new_segments image t)) (sym indexed)
          (held_at (rows_start image t) t.rows (image.segments ++ new_segments image t) (index_held image t limits whole)));
    }

pub law_of_good : PartsAreGood
law_of_good file image kept =
    good image (new_tables image) (sound_law file image kept.read) (addresses_are_words file image kept.bytes kept.read) (tables_whole image (tables_start image)) (limits_of (new_parts image) kept.limits)

pub law_of_writing : PartsAreWritten
law_of_writing file image kept = law_of_good_parts (new_parts image) (law_of_good file image kept)

pub law_of_files : FilesAreRead
law_of_files file image kept = law_of_their_image (new_parts image) (law_of_good file image kept)

-- ---- what stays

pub law_of_functions : FunctionsStay
law_of_functions file image h = let made = has image (new_tables image) (sound_law file image h) in (made.entry, made.functions)

pub law_of_segments : SegmentsStay
law_of_segments file image h = (has image (new_tables image) (sound_law file image h)).segments

new_not_code : (image : Image) (t : Lists) (a : ℕ) → list_any (λ s. holds a s && s.exec) (new_segments image t) ≡ false
new_not_code image t a = by (nat_eq (length (new_bytes image t)) 0)
  where
    and_false : (b : Bool) → (b && false) ≡ false
    and_false true = refl
    and_false false = refl

    by : (b : Bool) → list_any (λ s. holds a s && s.exec) (map own_segment (cond b [] (read_only (tables_start image) (new_bytes image t) ∷ []))) ≡ false
    by true = refl
    by false = rw (and_false (holds a (own_segment (read_only (tables_start image) (new_bytes image t))))) refl

or_false : (b : Bool) → (b || false) ≡ b
or_false true = refl
or_false false = refl

same_code : (b c d e : Bool) → (b ≡ true → c ≡ true → d ≡ e) → (b && c && d) ≡ (b && c && e)
same_code true true d e h = h refl refl
same_code true false d e h = refl
same_code false c d e h = refl

all_true : (b c d : Bool) → b ≡ true → c ≡ true → (b && c && d) ≡ d
all_true b c d h k = rw (h, k) refl

even_is : (a : ℕ) → nat_eq (a % 2) 0 ≡ true → a % 2 ≡ 0
even_is a h = grind (arith, nat_tests)

pub law_of_code : CodeStays
law_of_code file image a h =
    let sound = sound_law file image h in
    let t = new_tables image in
    let made = has image t sound in
    let any : list_any (λ (s : Segment). holds a s && s.exec) (image.segments ++ new_segments image t) ≡ list_any (λ (s : Segment). holds a s && s.exec) image.segments =
    list_any-append (λ (s : Segment). holds a s && s.exec) image.segments (new_segments image t)
    ∙ ap (λ (b : Bool). list_any (λ (s : Segment). holds a s && s.exec) image.segments || b) (new_not_code image t a)
    ∙ or_false (list_any (λ (s : Segment). holds a s && s.exec) image.segments) in
    ap (λ (l : List Segment). nat_eq (a % 2) 0 && list_any (λ (s : Segment). holds a s && s.exec) l && is_code_by_marks (image_of_parts (new_parts image)).marks a) made.segments
    ∙ ap (λ (b : Bool). nat_eq (a % 2) 0 && b && is_code_by_marks (image_of_parts (new_parts image)).marks a) any
    ∙ ap (λ (ms : List (ℕ × Bool)). nat_eq (a % 2) 0 && list_any (λ (s : Segment). holds a s && s.exec) image.segments && is_code_by_marks ms a) made.marks
    ∙ same_code (nat_eq (a % 2) 0) (list_any (λ (s : Segment). holds a s && s.exec) image.segments) (is_code_by_marks (marks_of image) a) (is_code_by_marks image.marks a)
    (λ even inside.
    ap (λ (ms : List (ℕ × Bool)). is_code_by_marks ms a) (marks_split image)
    ∙ marks_say (is_code_in image) a 0 true image.segments sound.rise (even_is a even) inside
    ∙ all_true (nat_eq (a % 2) 0) (list_any (λ (s : Segment). holds a s && s.exec) image.segments) (is_code_by_marks image.marks a) even inside)
