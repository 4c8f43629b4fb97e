-- The addresses of a file's symbols are of 32 bits.
use Rattle.std.proofs.Common.{◌≡◌, ℕ, ◌+◌, ◌-◌, ◌*◌, ◌^◌, ◌<◌, ◌&&◌, Bool, true, false, cond, not, nat_eq, min, List, [], ◌∷◌, length, get_or, take, drop, map, filter, All, Option, Some, None, Ok, sym, ap, subst, inl, inr, arith}
use Rattle.std.specs.List.{range_with_len}
use Rattle.std.proofs.lemmas.Bool.{cases_lt}
use Rattle.std.proofs.lemmas.List.{get_or-drop, get_or-take, get_or_past, length-take}
use Rattle.std.proofs.lemmas.List.Elements.{All-get_or}
use Rattle.elf_image.specs.Format.{field, part}
use Rattle.elf_image.specs.Segments.{Segment, segment_end}
use Rattle.elf_image.specs.Symbols.{Symbol, symbol_at, symbols_of, symbol_count}
use Rattle.elf_image.specs.Functions.{is_thumb_function, function_in, segment_at, function_of_symbol}
use Rattle.elf_image.specs.Image.{Image, NamedAddress, image_of, image_with, is_defined, address_of, named_address, named_addresses, file_segments, file_symbols, file_table, file_tables, table_in, strings_in}
use Rattle.elf_image.specs.declared.format.SectionHeader.{SectionHeader}
use Rattle.elf_image.proofs.Accepted.{accepted_from}
use Rattle.elf_write.specs.Parts.{IsWord}

-- each place has a byte
abbrev pub Small : List ℕ → Type 0
Small xs = (i : ℕ) → get_or xs i 0 < 256

pub small_all : (xs : List ℕ) → All (λ b. b < 256) xs → Small xs
small_all xs h i =
    elim (cases_lt i (length xs)) [
      | inl inside ↦ All-get_or (λ (b : ℕ). b < 256) xs i 0 inside h
      | inr past ↦ rw (get_or_past xs i 0 past) (omega arith)
    ]

pub small_drop : (n : ℕ) (xs : List ℕ) → Small xs → Small (drop n xs)
small_drop n xs h i = rw (get_or-drop n xs i 0) (h (n + i))

pub small_take : (n : ℕ) (xs : List ℕ) → Small xs → Small (take n xs)
small_take n xs h i =
    elim (cases_lt i n) [
      | inl inside ↦ rw (get_or-take n xs i 0 inside) (h i)
      | inr past ↦ rw (get_or_past (take n xs) i 0 (omega (arith, length-take n xs))) (omega arith)
    ]

pub small_part : (xs : List ℕ) (at size : ℕ) → Small xs → Small (part xs at size)
small_part xs at size h = small_take size (drop at xs) (small_drop at xs h)

pub word_small : (xs : List ℕ) (at : ℕ) → Small xs → field 4 xs at < 2 ^ 32
word_small xs at h =
    let d = small_drop at xs h in
    let a = d 0 in
    let b = d 1 in
    let e = d 2 in
    let f = d 3 in
    omega (arith, a, b, e, f)

-- ---- symbols

abbrev pub Valued : List Symbol → Type 0
Valued [] = Unit {0}
Valued (s ∷ more) = IsWord s.value × Valued more

value_at : (table strings : List ℕ) (at : ℕ) → Small table → IsWord (symbol_at table strings at).value
unfolding symbol_at
value_at table strings at h = word_small table (at + 4) h

values_at : (table strings : List ℕ) (is : List ℕ) → Small table → Valued (map (λ i. symbol_at table strings (16 * i)) is)
values_at table strings [] h = tt
values_at table strings (i ∷ is) h = (value_at table strings (16 * i) h, values_at table strings is h)

values : (table strings : List ℕ) → Small table → Valued (symbols_of table strings)
unfolding symbols_of
values table strings h = values_at table strings (range_with_len 0 (symbol_count table)) h

-- ---- names

abbrev pub Placed : List NamedAddress → Type 0
Placed [] = Unit {0}
Placed (n ∷ more) = IsWord n.address × Placed more

low_function : (b : Bool) (s : Symbol) (end : ℕ) → IsWord s.value → IsWord (address_of s (cond b (Some (record { name = s.name; start = s.value - 1; end = end })) None))
low_function true s end h = omega (arith, h)
low_function false s end h = h

low_in : (b : Bool) (s : Symbol) (o : Option Segment) → IsWord s.value → IsWord (address_of s (cond b (function_in s o) None))
low_in false s o h = h
low_in true s None h = h
low_in true s (Some g) h = low_function (g.exec && not g.write) s (cond (nat_eq s.size 0) (segment_end g) (min (segment_end g) (s.value - 1 + s.size))) h

low_named : (segments : List Segment) (s : Symbol) → IsWord s.value → IsWord (named_address segments s).address
unfolding named_address function_of_symbol
low_named segments s h = low_in (is_thumb_function s) s (segment_at segments (s.value - 1)) h

name_step : (b : Bool) (segments : List Segment) (s : Symbol) (more : List Symbol) → IsWord s.value → Placed (map (λ s. named_address segments s) more) → Placed (map (λ s. named_address segments s) (cond b (s ∷ more) more))
name_step true segments s more h k = (low_named segments s h, k)
name_step false segments s more h k = k

names_placed : (segments : List Segment) (symbols : List Symbol) → Valued symbols → Placed (named_addresses segments symbols)
unfolding named_addresses
names_placed segments [] h = tt
names_placed segments (s ∷ symbols) h = name_step (is_defined s) segments s (filter is_defined symbols) h.0 (names_placed segments symbols h.1)

small_table : (bytes : List ℕ) (o : Option (SectionHeader × SectionHeader)) → Small bytes → Small (table_in bytes o)
small_table bytes None h i = omega arith
small_table bytes (Some t) h i = small_part bytes t.0.offset t.0.size h i

pub symbols_as : (bytes : List ℕ) (image : Image) → image_of bytes ≡ Ok image → image.symbols ≡ named_addresses (file_segments bytes) (file_symbols bytes)
unfolding image_with
symbols_as bytes image h = ap (λ (i : Image). i.symbols) (accepted_from bytes image h).image_is

pub addresses_are_words : (bytes : List ℕ) (image : Image) → All (λ b. b < 256) bytes → image_of bytes ≡ Ok image → Placed image.symbols
addresses_are_words bytes image all h =
    subst Placed (sym (symbols_as bytes image h))
    (names_placed (file_segments bytes) (file_symbols bytes) (values (file_table bytes) (strings_in bytes (file_tables bytes)) (small_table bytes (file_tables bytes) (small_all bytes all))))
