-- What holds of every image, from what was not refused.
use Rattle.std.proofs.Common.{◌≡◌, ◌≢◌, ℕ, zero, suc, ◌+◌, ◌-◌, ◌*◌, ◌%◌, ◌≤◌, Bool, true, false, not, ◌&&◌, ◌||◌, cond, nat_eq, nat_le, nat_lt, List, [], ◌∷◌, length, drop, map, sum_by, Option, Some, None, Ok, refl, sym, ap, subst, inl, inr, arith, length-take, length-drop}
use Rattle.std.proofs.lemmas.Bool.Decides.{nat_tests}
use Rattle.std.proofs.lemmas.Bool.{false≢true}
use Rattle.std.proofs.lemmas.List.Elements.{All-cons, All-nil}
use Rattle.std.proofs.lemmas.List.Sums.{take_while-cons}
use Rattle.std.specs.List.{find, list_any, All, Contains, take_while, range_with_len}
use Rattle.elf_image.specs.Format.{first_of, fault_when, field, part, entry_field}
use Rattle.elf_image.specs.Segments.{Segment, RiseFrom}
use Rattle.elf_image.specs.Symbols.{Symbol, HasPlainName, symbol_at, symbols_of, symbol_count}
use Rattle.elf_image.specs.Functions.{Function, functions_of}
use Rattle.elf_image.specs.Index.{holds_index, index_refusal, index_of}
use Rattle.elf_image.specs.Image.{NamedAddress, named_addresses, Image, IsSound, StandsAt, IndexStands, image_of, image_with, size_refusal, count_refusal, entry_refusal, build_refusal, file_indexes, file_segments, file_table, file_tables, file_symbols, file_functions, strings_in}
use Rattle.elf_image.specs.Laws.{AreFunctionsOf, IsMarkedBy}
use Rattle.elf_image.specs.Marks.{marks_of, is_code_by_marks}
use Rattle.elf_image.specs.declared.fault.ImageFault.{ImageFault}
use Rattle.elf_image.specs.declared.fault.ImageFault.TheVariants.{TooLarge, Entry, IndexRange}
use Rattle.elf_image.specs.declared.format.ProgramHeader.{ProgramHeader}
use Rattle.elf_image.proofs.Entries.{sorted_from_rising}
use Rattle.elf_image.proofs.Lookups.{both_true}
use Rattle.elf_image.proofs.Starts.{functions_are, functions_within, functions_rising}
use Rattle.elf_image.proofs.Marking.{marks_rising, marks_decide}
use Rattle.elf_image.proofs.Accepted.{Accepted, accepted_from, loaded_from, segments_as}
use Rattle.elf_image.specs.declared.limits.TheConstants.{MEMORY_LIMIT, SEGMENT_LIMIT, SYMBOL_LIMIT}

-- ---- names

byte_step : (b : ℕ) (t : Bool) (rest : List ℕ) → nat_eq b 0 ≡ t → All (λ x. x ≢ 0) rest → All (λ x. x ≢ 0) (cond (not t) (b ∷ rest) [])
byte_step b true rest e h = All-nil (λ (x : ℕ). x ≢ 0)
byte_step b false rest e h = let some : b ≢ 0 = grind (arith, nat_tests) in All-cons (λ (x : ℕ). x ≢ 0) b rest some h

plain_front : (bytes : List ℕ) → All (λ x. x ≢ 0) (take_while (λ x. not (nat_eq x 0)) bytes)
plain_front [] = All-nil (λ (x : ℕ). x ≢ 0)
plain_front (b ∷ bytes) = rw (take_while-cons (λ (x : ℕ). not (nat_eq x 0)) b bytes) (byte_step b (nat_eq b 0) (take_while (λ x. not (nat_eq x 0)) bytes) refl (plain_front bytes))

plain_symbol : (table strings : List ℕ) (at : ℕ) → HasPlainName (symbol_at table strings at)
unfolding symbol_at
plain_symbol table strings at = plain_front (drop (field 4 table at) strings)

all_mapped : {X : Type 0} (P : X → Type 0) (f : ℕ → X) (is : List ℕ) → ((i : ℕ) → P (f i)) → All P (map f is)
all_mapped P f [] h = All-nil P
all_mapped P f (i ∷ is) h = All-cons P (f i) (map f is) (h i) (all_mapped P f is h)

pub plain_symbols : (table strings : List ℕ) → All HasPlainName (symbols_of table strings)
unfolding symbols_of
plain_symbols table strings = all_mapped HasPlainName (λ i. symbol_at table strings (16 * i)) (range_with_len 0 (symbol_count table)) (λ i. plain_symbol table strings (16 * i))

-- ---- the index

contains_more : (s x : Segment) (xs : List Segment) → Contains xs s → Contains (x ∷ xs) s
contains_more s x xs h = (suc h.0, omega (arith, h.1), h.2)

found_in : (p : Segment → Bool) (xs : List Segment) → list_any p xs ≡ true → (s : Segment) × (find p xs ≡ Some s) × (p s ≡ true) × Contains xs s
found_in p [] h = absurd (false≢true h)
found_in p (x ∷ xs) h = by_test (p x) refl h (found_in p xs)
  where
    by_test : (b : Bool) → p x ≡ b → (b || list_any p xs) ≡ true → (list_any p xs ≡ true → (s : Segment) × (find p xs ≡ Some s) × (p s ≡ true) × Contains xs s)
        → (s : Segment) × (cond b (Some x) (find p xs) ≡ Some s) × (p s ≡ true) × Contains (x ∷ xs) s
    by_test true e any rest = (x, refl, e, (zero, omega arith, refl))
    by_test false e any rest = let r = rest any in (r.0, r.1, r.2, contains_more r.0 x xs r.3)

le_from : (x y : ℕ) → nat_le x y ≡ true → x ≤ y
le_from x y h = grind (arith, nat_tests)

eq_from : (x y : ℕ) → nat_eq x y ≡ true → x ≡ y
eq_from x y h = grind (arith, nat_tests)

not_true : (b : Bool) → not b ≡ true → b ≡ false
not_true true e = absurd (false≢true e)
not_true false e = refl

part_whole : (bytes : List ℕ) (at size : ℕ) → at + size ≤ length bytes → length (part bytes at size) ≡ size
part_whole bytes at size h = omega (arith, length-take size (drop at bytes), length-drop at bytes)

stands_in : (h : ProgramHeader) (segments : List Segment) (s : Segment) → holds_index h s ≡ true → Contains segments s → StandsAt segments h.address (part s.bytes (h.address - s.start) h.memory_size)
stands_in h segments s t c =
    let p1 = both_true (not s.write && nat_le s.start h.address && nat_le (h.address + h.memory_size) (s.start + length s.bytes)) (nat_eq (h.address % 4) 0) t in
    let p2 = both_true (not s.write && nat_le s.start h.address) (nat_le (h.address + h.memory_size) (s.start + length s.bytes)) p1.0 in
    let p3 = both_true (not s.write) (nat_le s.start h.address) p2.0 in
    let low = le_from s.start h.address p3.1 in
    let high = le_from (h.address + h.memory_size) (s.start + length s.bytes) p2.1 in
    let whole = part_whole s.bytes (h.address - s.start) h.memory_size (omega arith) in
    record {
      aligned = eq_from (h.address % 4) 0 p1.1;
      segment = s;
      there = c;
      read_only = not_true s.write p3.0;
      above = low;
      below = rw whole high;
      same = rw whole refl;
    }

not_refused : (t : Bool) → fault_when (not t) IndexRange ≡ None → t ≡ true
not_refused true h = refl
not_refused false h = absurd cc

pub index_stands : (headers : List ProgramHeader) (segments : List Segment) → index_refusal headers segments ≡ None → IndexStands segments (index_of headers segments).0 (index_of headers segments).1
unfolding index_refusal index_of
index_stands [] segments h = inl (refl, refl)
index_stands (x ∷ []) segments h =
    let f = found_in (holds_index x) segments (not_refused (list_any (holds_index x) segments) h) in
    inr (rw f.1 (stands_in x segments f.0 f.2 f.3))
index_stands (x ∷ y ∷ more) segments h = absurd cc

-- ---- limits, and the entry

both_false : (a b : Bool) → (a || b) ≡ false → (a ≡ false) × (b ≡ false)
both_false true b h = absurd cc
both_false false b h = (refl, h)

at_most : (x y : ℕ) → nat_lt y x ≡ false → x ≤ y
at_most x y h = grind (arith, nat_tests)

none_passes : (t : Bool) (fault : ImageFault) → fault_when t fault ≡ None → t ≡ false
none_passes true fault h = absurd cc
none_passes false fault h = refl

pub record Sized (segments : List Segment) : Type 0 where
  pub memory : sum_by (λ s. s.size) segments ≤ MEMORY_LIMIT
  pub count : length segments ≤ SEGMENT_LIMIT

sized : (segments : List Segment) (n : ℕ) → size_refusal segments n ≡ None → Sized segments
unfolding size_refusal
sized segments n h =
    let t = none_passes (nat_lt MEMORY_LIMIT (sum_by (λ (s : Segment). s.size) segments) || nat_lt SEGMENT_LIMIT (length segments) || nat_lt SYMBOL_LIMIT n) TooLarge h in
    let p = both_false (nat_lt MEMORY_LIMIT (sum_by (λ (s : Segment). s.size) segments) || nat_lt SEGMENT_LIMIT (length segments)) (nat_lt SYMBOL_LIMIT n) t in
    let q = both_false (nat_lt MEMORY_LIMIT (sum_by (λ (s : Segment). s.size) segments)) (nat_lt SEGMENT_LIMIT (length segments)) p.0 in
    record { memory = at_most (sum_by (λ (s : Segment). s.size) segments) MEMORY_LIMIT q.0; count = at_most (length segments) SEGMENT_LIMIT q.1 }

counted : (functions : List Function) → count_refusal functions ≡ None → length functions ≤ 4096
unfolding count_refusal
counted functions h = at_most (length functions) 4096 (none_passes (nat_lt 4096 (length functions)) TooLarge h)

entered : (field : ℕ) (functions : List Function) → entry_refusal field functions ≡ None → ((field - 1) % 2 ≡ 0) × (list_any (λ f. nat_eq f.start (field - 1)) functions ≡ true)
unfolding entry_refusal
entered field functions h =
    let t = none_passes (not (nat_eq (field % 2) 1 && list_any (λ f. nat_eq f.start (field - 1)) functions)) Entry h in
    let p = both_true (nat_eq (field % 2) 1) (list_any (λ f. nat_eq f.start (field - 1)) functions) (positive (nat_eq (field % 2) 1 && list_any (λ f. nat_eq f.start (field - 1)) functions) t) in
    let odd = eq_from (field % 2) 1 p.0 in
    (omega arith, p.1)
  where
    positive : (b : Bool) → not b ≡ false → b ≡ true
    positive true e = refl
    positive false e = absurd cc

two_none : (o p : Option ImageFault) → first_of (o ∷ p ∷ []) ≡ None → (o ≡ None) × (p ≡ None)
two_none None None h = (refl, refl)
two_none None (Some f) h = absurd cc
two_none (Some f) p h = absurd cc

-- ---- the image of these parts is sound

pub sound_parts : (field : ℕ) (segments : List Segment) (index : ℕ × List ℕ) (symbols : List Symbol) → RiseFrom 0 segments → sum_by (λ (s : Segment). s.size) segments ≤ MEMORY_LIMIT → length segments ≤ SEGMENT_LIMIT
    → IndexStands segments index.0 index.1 → All HasPlainName symbols → build_refusal field (functions_of segments symbols) ≡ None → IsSound (image_with field segments index symbols)
unfolding image_with
sound_parts field segments index symbols rise memory count stands plain h =
    let p = two_none (count_refusal (functions_of segments symbols)) (entry_refusal field (functions_of segments symbols)) h in
    let e = entered field (functions_of segments symbols) p.1 in
    record {
      rise = rise;
      memory = memory;
      count = count;
      functions = functions_rising segments symbols rise;
      function_count = counted (functions_of segments symbols) p.0;
      within = functions_within segments symbols rise plain;
      entry_even = e.0;
      entry_begins = e.1;
      marks = sorted_from_rising 0 _ (marks_rising symbols);
      index = stands;
    }

both_accepted : (o p : Option ImageFault) → o ≡ None → p ≡ None → first_of (o ∷ p ∷ []) ≡ None
both_accepted o p e f = rw (e, f) refl

-- ---- the laws

pub sound_law : (bytes : List ℕ) (image : Image) → image_of bytes ≡ Ok image → IsSound image
sound_law bytes image h =
    let k = accepted_from bytes image h in
    let l = loaded_from bytes k.loaded in
    let s = sized (file_segments bytes) (symbol_count (file_table bytes)) k.sizes in
    rw k.image_is
    (sound_parts (entry_field bytes) (file_segments bytes) (index_of (file_indexes bytes) (file_segments bytes)) (file_symbols bytes) l.rise s.memory s.count
    (index_stands (file_indexes bytes) (file_segments bytes) k.indexed) (plain_symbols (file_table bytes) (strings_in bytes (file_tables bytes)))
    (both_accepted (count_refusal (file_functions bytes)) (entry_refusal (entry_field bytes) (file_functions bytes)) k.count k.entry))

functions_as : (bytes : List ℕ) (image : Image) → Accepted bytes image → image.functions ≡ file_functions bytes
unfolding image_with
functions_as bytes image k = ap (λ (i : Image). i.functions) k.image_is

marks_as : (bytes : List ℕ) (image : Image) → Accepted bytes image → (a : ℕ) → IsMarkedBy (file_symbols bytes) a (is_code_by_marks image.marks a)
unfolding image_with
marks_as bytes image k a = subst (λ (i : Image). IsMarkedBy (file_symbols bytes) a (is_code_by_marks i.marks a)) (sym k.image_is) (marks_decide a (file_symbols bytes))

pub functions_law : (bytes : List ℕ) (image : Image) → image_of bytes ≡ Ok image → AreFunctionsOf image.segments (file_symbols bytes) image.functions
functions_law bytes image h =
    let k = accepted_from bytes image h in
    rw (segments_as bytes image k, functions_as bytes image k) (functions_are (file_segments bytes) (file_symbols bytes) (loaded_from bytes k.loaded).rise)

pub marks_law : (bytes : List ℕ) (image : Image) → image_of bytes ≡ Ok image → (a : ℕ) → IsMarkedBy (file_symbols bytes) a (is_code_by_marks image.marks a)
marks_law bytes image h = marks_as bytes image (accepted_from bytes image h)

-- ---- where an image is put together

pub accepted_parts : (field : ℕ) (functions : List Function) → length functions ≤ 4096 → entry_refusal field functions ≡ None → build_refusal field functions ≡ None
unfolding count_refusal
accepted_parts field functions h e = both_accepted (count_refusal functions) (entry_refusal field functions) (few (nat_lt 4096 (length functions)) refl) e
  where
    few : (b : Bool) → nat_lt 4096 (length functions) ≡ b → fault_when b TooLarge ≡ None
    few true e = let no : nat_lt 4096 (length functions) ≡ false = grind (arith, nat_tests) in absurd cc
    few false e = refl

pub sound_built : (field : ℕ) (segments : List Segment) (start : ℕ) (bytes : List ℕ) (symbols : List Symbol) (functions : List Function) (marks : List (ℕ × Bool)) (all : List NamedAddress)
    → RiseFrom 0 segments → sum_by (λ (s : Segment). s.size) segments ≤ MEMORY_LIMIT → length segments ≤ SEGMENT_LIMIT → IndexStands segments start bytes → All HasPlainName symbols
    → length functions ≤ 4096 → entry_refusal field functions ≡ None → functions ≡ functions_of segments symbols → marks ≡ marks_of symbols → all ≡ named_addresses segments symbols
    → IsSound (record { entry = field - 1; segments = segments; functions = functions; marks = marks; symbols = all; index_start = start; index_bytes = bytes })
unfolding image_with
sound_built field segments start bytes symbols functions marks all rise memory count stands plain few entry f m n =
    let h = rw f at (accepted_parts field functions few entry) in
    rw (f, m, n) (sound_parts field segments (start, bytes) symbols rise memory count stands plain h)
