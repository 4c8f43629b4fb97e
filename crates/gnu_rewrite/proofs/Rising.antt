-- The filters of rewritten tables rise by the addresses of their catches.
use Rattle.std.proofs.Common.{◌≡◌, ℕ, zero, suc, ◌+◌, ◌*◌, ◌/◌, ◌%◌, ◌^◌, ◌<◌, ◌≤◌, Bool, true, false, nat_lt, nat_le, List, [], ◌∷◌, ◌++◌, length, take, drop, fold, Option, Some, None, refl, sym, ap, ◌∙◌, subst, arith, length-append, length-drop}
use Rattle.std.specs.Prelude.{option_and_then, Result, Ok, Err}
use Rattle.std.specs.List.{range_with_len}
use Rattle.std.specs.List.Sorted.{IsStrictlySortedBy}
use Rattle.std.specs.Ordering.{nat_cmp}
use Rattle.std.specs.Map.{keys_of}
use Rattle.std.proofs.lemmas.Bool.Decides.{nat_tests}
use Rattle.elf_image.specs.Image.{Image}
use Rattle.elf_image.specs.declared.limits.TheConstants.{ADDRESS_LIMIT, MEMORY_LIMIT}
use Rattle.elf_image.proofs.Entries.{Rising, sorted_from_rising}
use Rattle.eh_codes.specs.declared.row.Entry.{Entry}
use Rattle.eh_index.specs.Rows.{entry_at, entry_count}
use Rattle.eh_bytecode.specs.Codes.{swap_word_bytes}
use Rattle.eh_bytecode.proofs.CodesLaws.{length-turned}
use Rattle.gnu_compact.specs.declared.descriptor.OwnDescriptor.{OwnDescriptor}
use Rattle.gnu_compact.specs.declared.descriptor.OwnKind.{OwnKind}
use Rattle.gnu_compact.specs.declared.descriptor.OwnKind.TheVariants.{Specification, Catch, Cleanup}
use Rattle.gnu_compact.specs.Descriptors.{kind_size, kind_bytes, descriptors_bytes}
use Rattle.gnu_compact.specs.Laws.{descriptors_size}
use Rattle.gnu_compact.specs.Tables.{codes_end, codes_bytes, table_bytes}
use Rattle.gnu_lsda.specs.declared.fault.EntryFault.{EntryFault}
use Rattle.gnu_lsda.specs.declared.lsda.HeadFault.{HeadFault}
use Rattle.gnu_lsda.specs.declared.lsda.HeadFault.TheVariants as heads
use Rattle.gnu_lsda.specs.Entries.{Form, words_after, code_word_bytes, generic_of, personality_in}
use Rattle.gnu_lsda.specs.Heads.{Area, area_after, area_of}
use Rattle.gnu_lsda.specs.Faults.{fault_with}
use Rattle.gnu_descriptors.specs.declared.scopes.GnuDescriptor.{GnuDescriptor}
use Rattle.gnu_descriptors.specs.Codes.{codes_in, codes_by, codes_of}
use Rattle.gnu_descriptors.specs.Scopes.{scopes_of}
use Rattle.gnu_descriptors.specs.Filters.{with_filter}
use Rattle.gnu_index.specs.Lists.{Lists}
use Rattle.gnu_index.specs.Tables.{descriptors_of, filters_from, no_tables, place_after, with_table, with_area, with_entry_or_fault, with_entry, with_row, rewrite_rows}

-- ---- addresses that rise from one on and stay below another

abbrev Between : ℕ → ℕ → List (ℕ × ℕ) → Type 0
Between low high [] = low ≤ high
Between low high (f ∷ fs) = (low ≤ f.0) × Between (f.0 + 1) high fs

between_lower : (low high from : ℕ) (fs : List (ℕ × ℕ)) → from ≤ low → Between low high fs → Between from high fs
between_lower low high from [] e h = omega arith
between_lower low high from (f ∷ fs) e h = (omega (arith, h.0), h.1)

between_higher : (low high to : ℕ) (fs : List (ℕ × ℕ)) → high ≤ to → Between low high fs → Between low to fs
between_higher low high to [] e h = omega arith
between_higher low high to (f ∷ fs) e h = (h.0, between_higher (f.0 + 1) high to fs e h.1)

between_both : (low mid high : ℕ) (xs ys : List (ℕ × ℕ)) → Between low mid xs → Between mid high ys → Between low high (xs ++ ys)
between_both low mid high [] ys h k = between_lower mid high low ys h k
between_both low mid high (x ∷ xs) ys h k = (h.0, between_both (x.0 + 1) mid high xs ys h.1 k)

rising_of : (low high : ℕ) (fs : List (ℕ × ℕ)) → Between low high fs → Rising low fs
rising_of low high [] h = tt
rising_of low high (f ∷ fs) h = (h.0, rising_of (f.0 + 1) high fs h.1)

-- ---- the catches of one table

some_size : (k : OwnKind) → 0 < kind_size k
some_size Specification = omega arith
some_size (Catch pad takes) = omega arith
some_size (Cleanup pad) = omega arith

filter_step : (place next high : ℕ) (o : Option ℕ) (fs : List (ℕ × ℕ)) → place < next → Between next high fs → Between place high (with_filter place o fs)
filter_step place next high None fs e h = between_lower next high place fs (omega arith) h
filter_step place next high (Some filter) fs e h = (omega arith, between_lower next high (place + 1) fs (omega arith) h)

filters_between : (place : ℕ) (scopes : List GnuDescriptor) → place + descriptors_size (descriptors_of scopes) < 2 ^ 32
    → Between place (place + descriptors_size (descriptors_of scopes)) (filters_from place scopes)
filters_between place [] h = omega arith
filters_between place (s ∷ more) h =
    let size = kind_size s.descriptor.kind in
    let rest = descriptors_size (descriptors_of more) in
    let small : (place + size) % 2 ^ 32 ≡ place + size = omega (arith, h) in
    let end : place + size + rest ≡ place + (size + rest) = omega arith in
    let later = filters_between (place + size) more (omega (arith, h)) in
    filter_step place (place + size) (place + (size + rest)) s.filter (filters_from ((place + size) % 2 ^ 32) more) (omega (arith, some_size s.descriptor.kind))
    (rw small (subst (λ (n : ℕ). Between (place + size) n (filters_from (place + size) more)) end later))

-- ---- how long a table is

kind_length : (place size offset : ℕ) (k : OwnKind) → length (kind_bytes place size offset k) ≡ kind_size k
kind_length place size offset Specification = refl
kind_length place size offset (Catch pad takes) = refl
kind_length place size offset (Cleanup pad) = refl

descriptors_length : (place : ℕ) (ds : List OwnDescriptor) → length (descriptors_bytes place ds) ≡ descriptors_size ds
descriptors_length place [] = refl
descriptors_length place (d ∷ more) =
    let next = (place + kind_size d.kind) % 2 ^ 32 in
    omega (arith, length-append (kind_bytes place d.size d.offset d.kind) (descriptors_bytes next more), kind_length place d.size d.offset d.kind, descriptors_length next more)

taken_length : (n : ℕ) (xs : List ℕ) → n ≤ length xs → length (take n xs) ≡ n
taken_length zero xs h = refl
taken_length (suc n) [] h = absurd (omega arith)
taken_length (suc n) (x ∷ xs) h = ap suc (taken_length n xs (omega arith))

-- the words of an entry whose head is read are there
record HasWords (f : Form) (n : ℕ) : Type 0 where
  counted : words_after f ≡ Some n
  there : f.place + 8 + 4 * n < length f.bytes

no_head : (a : Area) → ◌≡◌ {A = Result Area HeadFault} (Err heads.Short) (Ok a) → ⊥
no_head a h = cc

words_cases : (f : Form) (a : Area) (o : Option ℕ) → words_after f ≡ o → area_after f o ≡ Ok a → (n : ℕ) × HasWords f n
words_cases f a None e h = absurd (no_head a h)
words_cases f a (Some n) e h = (n, record { counted = e; there = by_test (nat_lt (f.place + 8 + 4 * n) (length f.bytes)) refl })
  where
    by_test : (b : Bool) → nat_lt (f.place + 8 + 4 * n) (length f.bytes) ≡ b → f.place + 8 + 4 * n < length f.bytes
    by_test true t = grind (arith, nat_tests)
    by_test false t = absurd (no_head a (rw t at h))

words_there : (f : Form) (a : Area) → area_of f ≡ Ok a → (n : ℕ) × HasWords f n
words_there f a h = words_cases f a (words_after f) refl h

abbrev code_words : Form → ℕ → List ℕ
code_words f n = take (4 + 4 * n) (drop (f.place + 4) f.bytes)

codes_are : (f : Form) (n : ℕ) → HasWords f n → codes_of f ≡ codes_in (code_words f n)
codes_are f n has =
    let there = has.there in
    let held : nat_le (f.place + 8 + 4 * n) (length f.bytes) ≡ true = grind (arith, nat_tests) in
    ap (λ (o : Option ℕ). codes_by (option_and_then (code_word_bytes f) o)) has.counted ∙ rw held refl

codes_length : (f : Form) (n : ℕ) → HasWords f n → length (codes_in (code_words f n)) ≡ 6 + 4 * n
codes_length f n has =
    let there = has.there in
    let room : 4 + 4 * n ≤ length (drop (f.place + 4) f.bytes) = omega (arith, length-drop (f.place + 4) f.bytes) in
    let words : length (code_words f n) ≡ 4 + 4 * n = taken_length (4 + 4 * n) (drop (f.place + 4) f.bytes) room in
    let all : length (swap_word_bytes (code_words f n)) ≡ 4 + 4 * n = length-turned (code_words f n) ∙ omega (arith, words) in
    length-append (drop 1 (swap_word_bytes (code_words f n))) (0xB0 ∷ 0xB0 ∷ 0xB0 ∷ []) ∙ omega (arith, all, length-drop 1 (swap_word_bytes (code_words f n)))

room_of : (codes : List ℕ) (n : ℕ) → length codes ≡ 6 + 4 * n → codes_end codes ≤ length (codes_bytes codes)
room_of codes n h = omega (arith, h, length-turned (0x82 ∷ (length codes / 4 % 2 ^ 8) ∷ codes))

codes_room : (f : Form) (a : Area) → area_of f ≡ Ok a → codes_end (codes_of f) ≤ length (codes_bytes (codes_of f))
codes_room f a h = let w = words_there f a h in room_of (codes_of f) w.0 (ap length (codes_are f w.0 w.1) ∙ codes_length f w.0 w.1)

-- ---- tables one after the other

abbrev Good : ℕ → Lists → Type 0
Good base t = base + length t.bytes < 2 ^ 32 → Between base (base + length t.bytes) t.filters

table_good : (base start : ℕ) (t : Lists) (codes : List ℕ) (scopes : List GnuDescriptor) → codes_end codes ≤ length (codes_bytes codes) → Good base t → Good base (with_table (place_after base t) t start codes scopes)
table_good base start t codes scopes room good fits =
    let p = place_after base t in
    let ds = descriptors_of scopes in
    let at = (p + codes_end codes) % 2 ^ 32 in
    let size = descriptors_size ds in
    let tail : length (table_bytes p codes ds) ≡ length (codes_bytes codes) + size =
    length-append (codes_bytes codes) (descriptors_bytes at ds) ∙ ap (λ (n : ℕ). length (codes_bytes codes) + n) (descriptors_length at ds) in
    let all : length (t.bytes ++ table_bytes p codes ds) ≡ length t.bytes + (length (codes_bytes codes) + size) =
    length-append t.bytes (table_bytes p codes ds) ∙ ap (λ (n : ℕ). length t.bytes + n) tail in
    let before : base + length t.bytes < 2 ^ 32 = omega (arith, all, fits) in
    let place : p ≡ base + length t.bytes = omega (arith, before) in
    let start_at : at ≡ p + codes_end codes = omega (arith, all, fits, room, place) in
    let own : Between at (at + size) (filters_from at scopes) = filters_between at scopes (omega (arith, all, fits, room, place, start_at)) in
    between_both base (base + length t.bytes) (base + length (t.bytes ++ table_bytes p codes ds)) t.filters (filters_from at scopes) (good before)
    (between_lower at (base + length (t.bytes ++ table_bytes p codes ds)) (base + length t.bytes) (filters_from at scopes) (omega (arith, start_at, place))
    (between_higher at (at + size) (base + length (t.bytes ++ table_bytes p codes ds)) (filters_from at scopes) (omega (arith, start_at, place, room, all)) own))

area_good : (base : ℕ) (t : Lists) (f : Form) (r : Result Area HeadFault) → area_of f ≡ r → Good base t → Good base (with_area (place_after base t) t f r)
area_good base t f (Ok a) e good = table_good base f.start t (codes_of f) (scopes_of f a) (codes_room f a e) good
area_good base t f (Err fault) e good = good

judged_good : (base : ℕ) (t : Lists) (f : Form) (fault : Option EntryFault) → Good base t → Good base (with_entry_or_fault (place_after base t) t f fault)
judged_good base t f None good = area_good base t f (area_of f) refl good
judged_good base t f (Some fault) good = good

entry_good : (image : Image) (personality : Option ℕ) (base : ℕ) (t : Lists) (row : Entry) (o : Option Form) → Good base t → Good base (with_entry image personality (place_after base t) t row o)
entry_good image personality base t row None good = good
entry_good image personality base t row (Some f) good = judged_good base t f (fault_with image personality f) good

all_good : (image : Image) (base : ℕ) (t : Lists) (ks : List ℕ) → Good base t → Good base (fold (with_row image base) t ks)
all_good image base t [] good = good
all_good image base t (k ∷ ks) good =
    all_good image base (with_row image base t k) ks (entry_good image (personality_in image) base t (entry_at image k) (generic_of image k) good)

tables_good : (image : Image) (base : ℕ) → Good base (rewrite_rows image base)
unfolding rewrite_rows
tables_good image base = all_good image base no_tables (range_with_len 0 (entry_count image)) (λ fits. omega arith)

pub filters_rise : (image : Image) (base : ℕ) (t : Lists) (fs : List (ℕ × ℕ)) → fs ≡ t.filters → t ≡ rewrite_rows image base → base ≤ ADDRESS_LIMIT → length t.bytes ≤ MEMORY_LIMIT
    → IsStrictlySortedBy nat_cmp (keys_of fs)
filters_rise image base t fs same e low few =
    let good : Good base t = subst (λ (u : Lists). Good base u) (sym e) (tables_good image base) in
    let rise : IsStrictlySortedBy nat_cmp (keys_of t.filters) = sorted_from_rising base t.filters (rising_of base (base + length t.bytes) t.filters (good (omega (arith, low, few)))) in
    subst (λ (l : List (ℕ × ℕ)). IsStrictlySortedBy nat_cmp (keys_of l)) (sym same) rise
