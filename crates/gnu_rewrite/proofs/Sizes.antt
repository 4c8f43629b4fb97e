-- How long the file of parts is, by the number of their symbols and the size of their names.
use Rattle.std.proofs.Common.{◌≡◌, ℕ, zero, suc, ◌+◌, ◌*◌, ◌<◌, ◌≤◌, ◌||◌, not, Bool, true, false, cond, nat_le, nat_lt, List, [], ◌∷◌, ◌++◌, length, drop, map, filter, Option, Some, None, refl, ap, sym, ◌∙◌, arith, length-append}
use Rattle.std.specs.Prelude.{sum_by}
use Rattle.std.specs.List.{flat_map, list_any}
use Rattle.std.proofs.lemmas.Grind.{flat_map-append}
use Rattle.std.proofs.lemmas.List.Sums.{sum_by-append, sum_by-cons}
use Rattle.eh_word.specs.Bytes.{zeros}
use Rattle.elf_image.specs.Symbols.{Symbol}
use Rattle.elf_image.specs.Image.{Image, symbol_in, type_symbols_of}
use Rattle.elf_image.specs.declared.limits.TheConstants.{ADDRESS_LIMIT, MEMORY_LIMIT, SEGMENT_LIMIT, SYMBOL_LIMIT}
use Rattle.elf_write.specs.Layout.{align_to_word, zero_terminated, contents, section_names, segment_name, segment_names, last_names, program_rows, index_row, has_index, base_of, is_mapping, is_wanted, symbol_row_of, wanted_rows, table_of, strings_of, symbol_rows, plan_of, file_end}
use Rattle.elf_write.specs.declared.parts.OwnSegment.{OwnSegment}
use Rattle.elf_write.specs.declared.parts.OwnSymbol.{OwnSymbol}
use Rattle.elf_write.specs.declared.parts.SymbolKind.{SymbolKind}
use Rattle.elf_write.specs.declared.parts.SymbolKind.TheVariants.{Function, Object, Code, Words}
use Rattle.elf_write.specs.declared.parts.ImageParts.{ImageParts}
use Rattle.elf_write.proofs.Layouts.{length_zeros, length_rows, names_more as names_more_of}
use Rattle.elf_write.proofs.Planning.{length_programs}
use Rattle.gnu_rewrite.specs.declared.limits.TheConstants.{FILE_LIMIT}
use Rattle.gnu_rewrite.specs.Marks.{marks_of}
use Rattle.gnu_rewrite.specs.Symbols.{object_at, symbol_of_name, kept_names, function_symbol, type_name, type_symbol, mark_symbol, symbols_of}
use Rattle.gnu_rewrite.specs.Sizes.{name_size, names_size, file_size, names_end, is_too_large}
use Rattle.gnu_rewrite.specs.Refusal.{passes_limits}

-- ---- each symbol is a mapping symbol or another

map_cond : {A B : Type 0} (f : A → B) (b : Bool) (x : A) (xs : List A) → map f (cond b (x ∷ xs) xs) ≡ cond b (f x ∷ map f xs) (map f xs)
map_cond f true x xs = refl
map_cond f false x xs = refl

count_step : (b : Bool) (x y : Symbol) (F G : List Symbol) → length (cond b (x ∷ F) F) + length (cond (not b) (y ∷ G) G) ≡ suc (length F + length G)
count_step true x y F G = omega arith
count_step false x y F G = omega arith

table_count : (segments : List OwnSegment) (xs : List OwnSymbol) → length (wanted_rows true segments xs) + length (wanted_rows false segments xs) ≡ length xs
table_count segments [] = refl
table_count segments (s ∷ xs) =
    let row = symbol_row_of segments s s.kind in
    let F : List Symbol = wanted_rows true segments xs in
    let G : List Symbol = wanted_rows false segments xs in
    let one : length (wanted_rows true segments (s ∷ xs)) ≡ length (cond (is_mapping s.kind) (row ∷ F) F) =
    ap length (map_cond (λ t. symbol_row_of segments t t.kind) (is_mapping s.kind) s (filter (λ t. is_wanted true t.kind) xs)) in
    let two : length (wanted_rows false segments (s ∷ xs)) ≡ length (cond (not (is_mapping s.kind)) (row ∷ G) G) =
    ap length (map_cond (λ t. symbol_row_of segments t t.kind) (not (is_mapping s.kind)) s (filter (λ t. is_wanted false t.kind) xs)) in
    omega (arith, one, two, count_step (is_mapping s.kind) row row F G, table_count segments xs)

-- ---- their names

abbrev size_of : List Symbol → ℕ
size_of xs = length (flat_map (λ (s : Symbol). zero_terminated s.name) xs)

size_first : (x : Symbol) (xs : List Symbol) → size_of (x ∷ xs) ≡ length (zero_terminated x.name) + size_of xs
size_first x xs = length-append (zero_terminated x.name) (flat_map (λ (s : Symbol). zero_terminated s.name) xs)

name_step : (segments : List OwnSegment) (s : OwnSymbol) (k : SymbolKind) (F G : List Symbol)
    → size_of (cond (is_mapping k) (symbol_row_of segments s k ∷ F) F) + size_of (cond (not (is_mapping k)) (symbol_row_of segments s k ∷ G) G) ≡ name_size k s.name + (size_of F + size_of G)
name_step segments s Function F G = omega (arith, size_first (symbol_row_of segments s Function) G)
name_step segments s Object F G = omega (arith, size_first (symbol_row_of segments s Object) G)
name_step segments s Code F G = omega (arith, size_first (symbol_row_of segments s Code) F)
name_step segments s Words F G = omega (arith, size_first (symbol_row_of segments s Words) F)

table_names : (segments : List OwnSegment) (xs : List OwnSymbol) → size_of (wanted_rows true segments xs) + size_of (wanted_rows false segments xs) ≡ names_size xs
table_names segments [] = refl
table_names segments (s ∷ xs) =
    let row = symbol_row_of segments s s.kind in
    let F : List Symbol = wanted_rows true segments xs in
    let G : List Symbol = wanted_rows false segments xs in
    let one : size_of (wanted_rows true segments (s ∷ xs)) ≡ size_of (cond (is_mapping s.kind) (row ∷ F) F) =
    ap size_of (map_cond (λ t. symbol_row_of segments t t.kind) (is_mapping s.kind) s (filter (λ t. is_wanted true t.kind) xs)) in
    let two : size_of (wanted_rows false segments (s ∷ xs)) ≡ size_of (cond (not (is_mapping s.kind)) (row ∷ G) G) =
    ap size_of (map_cond (λ t. symbol_row_of segments t t.kind) (not (is_mapping s.kind)) s (filter (λ t. is_wanted false t.kind) xs)) in
    let all : names_size (s ∷ xs) ≡ name_size s.kind s.name + names_size xs = sum_by-cons (λ (t : OwnSymbol). name_size t.kind t.name) s xs in
    omega (arith, one, two, all, name_step segments s s.kind F G, table_names segments xs)

-- ---- the file

strings_size : (parts : ImageParts) → length (strings_of (table_of parts)) ≡ 1 + names_size parts.symbols
strings_size parts =
    let F : List Symbol = wanted_rows true parts.segments parts.symbols in
    let G : List Symbol = wanted_rows false parts.segments parts.symbols in
    let all : size_of (F ++ G) ≡ size_of F + size_of G =
    ap length (flat_map-append (λ (s : Symbol). zero_terminated s.name) F G) ∙ length-append (flat_map (λ (s : Symbol). zero_terminated s.name) F) (flat_map (λ (s : Symbol). zero_terminated s.name) G) in
    omega (arith, all, table_names parts.segments parts.symbols)

table_size : (parts : ImageParts) → length (zeros 16 ++ symbol_rows 1 (table_of parts)) ≡ 16 * (1 + length parts.symbols)
table_size parts =
    let count : length (table_of parts) ≡ length parts.symbols =
    length-append (wanted_rows true parts.segments parts.symbols) (wanted_rows false parts.segments parts.symbols) ∙ table_count parts.segments parts.symbols in
    omega (arith, count, length-append (zeros 16) (symbol_rows 1 (table_of parts)), length_zeros 16, length_rows 1 (table_of parts))

pub file_end_is : (parts : ImageParts) → file_end (plan_of parts) ≡ file_size parts.segments (has_index parts) (length parts.symbols) (names_size parts.symbols)
unfolding plan_of
file_end_is parts =
    let base = base_of parts in
    let body = contents base parts.segments in
    let p = program_rows base parts.segments ++ index_row base parts in
    let t = zeros 16 ++ symbol_rows 1 (table_of parts) in
    let s = strings_of (table_of parts) in
    let n = section_names parts.segments in
    let first : 52 + length p + length body ≡ base + length body = ap (λ (k : ℕ). k + length body) (length_programs base parts) in
    let names : align_to_word (52 + length p + length body) + length t + length s + length n ≡ names_end parts.segments (has_index parts) (length parts.symbols) (names_size parts.symbols) =
    ap (λ (k : ℕ). align_to_word k + length t + length s + length n) first
    ∙ ap (λ (k : ℕ). align_to_word (base + length body) + k + length s + length n) (table_size parts)
    ∙ ap (λ (k : ℕ). align_to_word (base + length body) + 16 * (1 + length parts.symbols) + k + length n) (strings_size parts) in
    ap (λ (k : ℕ). align_to_word k + 40 * (length parts.segments + 4)) names

pub limits_are : (parts : ImageParts) → passes_limits parts ≡ is_too_large parts.segments (has_index parts) (length parts.symbols) (names_size parts.symbols)
unfolding passes_limits is_too_large
limits_are parts =
    ap (λ (k : ℕ). nat_lt MEMORY_LIMIT (sum_by (λ s. s.size) parts.segments) || nat_lt SEGMENT_LIMIT (length parts.segments) || nat_lt SYMBOL_LIMIT (1 + length parts.symbols)
    || list_any (λ s. nat_lt ADDRESS_LIMIT (s.start + s.size)) parts.segments || nat_le FILE_LIMIT k) (file_end_is parts)

-- ---- the symbols of a rewritten image

names_both : (xs ys : List OwnSymbol) → names_size (xs ++ ys) ≡ names_size xs + names_size ys
names_both xs ys = sum_by-append (λ (s : OwnSymbol). name_size s.kind s.name) xs ys

names_more : (s : OwnSymbol) (xs : List OwnSymbol) → names_size (s ∷ xs) ≡ name_size s.kind s.name + names_size xs
names_more s xs = sum_by-cons (λ (t : OwnSymbol). name_size t.kind t.name) s xs

type_size : (x : ℕ) → length (zero_terminated (type_name x)) ≡ 13
unfolding type_name
type_size x = refl

types_size : (xs : List ℕ) → names_size (map type_symbol xs) ≡ 13 * length xs
types_size [] = refl
types_size (x ∷ xs) =
    let all : names_size (map type_symbol (x ∷ xs)) ≡ length (zero_terminated (type_name x)) + names_size (map type_symbol xs) = names_more (type_symbol x) (map type_symbol xs) in
    omega (arith, all, type_size x, types_size xs)

mark_size : (m : ℕ × Bool) → name_size (mark_symbol m).kind (mark_symbol m).name ≡ 3
mark_size (a, true) = refl
mark_size (a, false) = refl

marks_size : (xs : List (ℕ × Bool)) → names_size (map mark_symbol xs) ≡ 3 * length xs
marks_size [] = refl
marks_size (x ∷ xs) =
    let all : names_size (map mark_symbol (x ∷ xs)) ≡ name_size (mark_symbol x).kind (mark_symbol x).name + names_size (map mark_symbol xs) = names_more (mark_symbol x) (map mark_symbol xs) in
    omega (arith, all, mark_size x, marks_size xs)

pub names_are : (image : Image) (kept : List OwnSymbol) (marks : List (ℕ × Bool)) → kept ≡ flat_map (symbol_of_name image) kept_names → marks ≡ marks_of image
    → names_size (symbols_of image) ≡ names_size kept + names_size (map function_symbol image.functions) + 13 * length (type_symbols_of image.symbols) + 3 * length marks
unfolding symbols_of
names_are image kept marks e f =
    let x : List OwnSymbol = flat_map (symbol_of_name image) kept_names in
    let y : List OwnSymbol = map function_symbol image.functions in
    let z : List OwnSymbol = map type_symbol (type_symbols_of image.symbols) in
    let w : List OwnSymbol = map mark_symbol (marks_of image) in
    let whole : names_size (symbols_of image) ≡ names_size (((x ++ y) ++ z) ++ w) = refl in
    let one : names_size x ≡ names_size kept = ap (λ (l : List OwnSymbol). names_size l) (sym e) in
    let two : length (marks_of image) ≡ length marks = ap (λ (l : List (ℕ × Bool)). length l) (sym f) in
    omega (arith, whole, one, two, names_both ((x ++ y) ++ z) w, names_both (x ++ y) z, names_both x y, types_size (type_symbols_of image.symbols), marks_size (marks_of image))

length_map : {A : Type 0} (f : A → OwnSymbol) (xs : List A) → length (map f xs) ≡ length xs
length_map f [] = refl
length_map f (x ∷ xs) = ap suc (length_map f xs)

pub count_is : (image : Image) (kept : List OwnSymbol) (marks : List (ℕ × Bool)) → kept ≡ flat_map (symbol_of_name image) kept_names → marks ≡ marks_of image
    → length (symbols_of image) ≡ length kept + length image.functions + length (type_symbols_of image.symbols) + length marks
unfolding symbols_of
count_is image kept marks e f =
    let x : List OwnSymbol = flat_map (symbol_of_name image) kept_names in
    let y : List OwnSymbol = map function_symbol image.functions in
    let z : List OwnSymbol = map type_symbol (type_symbols_of image.symbols) in
    let w : List OwnSymbol = map mark_symbol (marks_of image) in
    let whole : length (symbols_of image) ≡ length (((x ++ y) ++ z) ++ w) = refl in
    let one : length x ≡ length kept = ap (λ (l : List OwnSymbol). length l) (sym e) in
    let two : length (marks_of image) ≡ length marks = ap (λ (l : List (ℕ × Bool)). length l) (sym f) in
    omega (
      arith,
      whole,
      one,
      two,
      length-append ((x ++ y) ++ z) w,
      length-append (x ++ y) z,
      length-append x y,
      length_map function_symbol image.functions,
      length_map type_symbol (type_symbols_of image.symbols),
      length_map mark_symbol (marks_of image),
    )

one_at_most : (name : List ℕ) (o : Option ℕ) → length (object_at name o) ≤ 1
one_at_most name None = omega arith
one_at_most name (Some a) = omega arith

few_named : (image : Image) (names : List (List ℕ)) → length (flat_map (symbol_of_name image) names) ≤ length names
few_named image [] = omega arith
few_named image (n ∷ names) =
    omega (arith, length-append (symbol_of_name image n) (flat_map (symbol_of_name image) names), one_at_most n (symbol_in image n), few_named image names)

pub kept_few : (image : Image) (kept : List OwnSymbol) → kept ≡ flat_map (symbol_of_name image) kept_names → length kept ≤ 6
kept_few image kept e = rw e (few_named image kept_names)

pub ruleset counted = (names_are, count_is, kept_few)

-- ---- the names of sections

last_length : length last_names ≡ 26
unfolding last_names
last_length = refl

pub sections_size : (xs : List OwnSegment) → length (section_names xs) ≡ 27 + length (segment_names 0 xs)
sections_size xs = omega (arith, length-append (segment_names 0 xs) last_names, last_length)

pub segment_names_more : (n : ℕ) (xs : List OwnSegment) (i : ℕ) (d : OwnSegment) → i < length xs
    → length (segment_names n (drop i xs)) ≡ length (segment_name n) + length (segment_names (n + 1) (drop (i + 1) xs))
segment_names_more n xs i d h = ap length (names_more_of n xs i d h) ∙ length-append (segment_name n) (segment_names (n + 1) (drop (i + 1) xs))

drop_past : (k : ℕ) (xs : List OwnSegment) → length xs ≤ k → drop k xs ≡ []
drop_past zero [] h = refl
drop_past (suc k) [] h = refl
drop_past zero (x ∷ xs) h = absurd (omega arith)
drop_past (suc k) (x ∷ xs) h = drop_past k xs (omega arith)

pub all_names : (total i k : ℕ) (xs : List OwnSegment) → length xs ≤ k → total + length (segment_names i (drop k xs)) ≡ 27 + length (segment_names 0 xs) → total ≡ length (section_names xs)
all_names total i k xs past h =
    let none : length (segment_names i (drop k xs)) ≡ 0 = ap (λ (ys : List OwnSegment). length (segment_names i ys)) (drop_past k xs past) in
    omega (arith, h, none, sections_size xs)

pub ruleset section_sizes = (sections_size, segment_names_more)
