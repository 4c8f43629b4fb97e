-- The whole symbol table of parts, read back.
use Rattle.std.proofs.Common.{◌≡◌, ℕ, zero, suc, ◌+◌, ◌*◌, ◌^◌, ◌<◌, ◌≤◌, ◌&&◌, Bool, true, false, cond, nat_le, List, [], ◌∷◌, ◌++◌, length, drop, map, filter, Option, Some, unwrap_or, refl, sym, arith, append-nil, length-append}
use Rattle.std.proofs.lemmas.List.Elements.{All-append}
use Rattle.std.specs.List.{All, range_with_len, flat_map, position_from}
use Rattle.elf_image.specs.Symbols.{Symbol, symbol_at, symbols_of, symbol_count}
use Rattle.eh_word.specs.Bytes.{zeros}
use Rattle.elf_write.specs.Layout.{zero_terminated, symbol_rows, strings_of, symbol_row_of, rows_of, section_of, is_wanted, wanted_rows, table_of}
use Rattle.elf_write.specs.Parts.{IsWord, HasNoZero, SymbolsFit, AreParts, null_symbol, symbols_of_parts}
use Rattle.elf_write.specs.declared.parts.OwnSegment.{OwnSegment}
use Rattle.elf_write.specs.declared.parts.OwnSymbol.{OwnSymbol}
use Rattle.elf_write.specs.declared.parts.SymbolKind.{SymbolKind}
use Rattle.elf_write.specs.declared.parts.SymbolKind.TheVariants as kind
use Rattle.elf_write.specs.declared.parts.ImageParts.{ImageParts}
use Rattle.elf_write.proofs.Layouts.{length_rows, length_zeros}
use Rattle.elf_write.proofs.Symbols.{Fits, symbols_back}
use Rattle.elf_image.specs.declared.limits.TheConstants.{SEGMENT_LIMIT}

position_step : (b : Bool) (i limit : ℕ) (o : Option ℕ) → i < limit → unwrap_or o 0xfff1 < limit → unwrap_or (cond b (Some i) o) 0xfff1 < limit
position_step true i limit o h more = h
position_step false i limit o h more = more

position_small : (p : OwnSegment → Bool) (i : ℕ) (xs : List OwnSegment) → i + length xs < 2 ^ 16 → unwrap_or (position_from p i xs) 0xfff1 < 2 ^ 16
position_small p i [] h = omega arith
position_small p i (x ∷ xs) h = position_step (p x) i (2 ^ 16) (position_from p (i + 1) xs) (omega arith) (position_small p (i + 1) xs (omega arith))

section_small : (segments : List OwnSegment) (value : ℕ) → length segments ≤ SEGMENT_LIMIT → section_of segments value < 2 ^ 16
section_small segments value h = position_small (λ s. nat_le s.start value && nat_le value (s.start + s.size)) 1 segments (omega arith)

row_fits : (segments : List OwnSegment) (s : OwnSymbol) (k : SymbolKind) → length segments ≤ SEGMENT_LIMIT → HasNoZero s.name → IsWord s.value → IsWord s.size → Fits (symbol_row_of segments s k)
row_fits segments s kind.Function few name value size = record { name = name; value = omega arith; size = size; section = section_small segments s.value few }
row_fits segments s kind.Object few name value size = record { name = name; value = value; size = size; section = section_small segments s.value few }
row_fits segments s kind.Code few name value size = record { name = ((λ e. omega arith), ((λ e. omega arith), tt)); value = value; size = omega arith; section = section_small segments s.value few }
row_fits segments s kind.Words few name value size = record { name = ((λ e. omega arith), ((λ e. omega arith), tt)); value = value; size = omega arith; section = section_small segments s.value few }

all_step : (segments : List OwnSegment) (b : Bool) (s : OwnSymbol) (more : List OwnSymbol) → Fits (symbol_row_of segments s s.kind) → All Fits (rows_of segments more)
    → All Fits (rows_of segments (cond b (s ∷ more) more))
all_step segments true s more one others zero d inside = one
all_step segments true s more one others (suc k) d inside = others k d (omega arith)
all_step segments false s more one others k d inside = others k d inside

rows_fit : (wanted : Bool) (segments : List OwnSegment) (xs : List OwnSymbol) → length segments ≤ SEGMENT_LIMIT → SymbolsFit xs → All Fits (wanted_rows wanted segments xs)
rows_fit wanted segments [] few fit = λ k d inside. absurd (omega arith)
rows_fit wanted segments (s ∷ xs) few fit =
    all_step segments (is_wanted wanted s.kind) s (filter (λ s. is_wanted wanted s.kind) xs) (row_fits segments s s.kind few fit.0 fit.1 fit.2) (rows_fit wanted segments xs few fit.3)

table_fits : (parts : ImageParts) → AreParts parts → length parts.segments ≤ SEGMENT_LIMIT → All Fits (table_of parts)
table_fits parts are few =
    All-append Fits (wanted_rows true parts.segments parts.symbols) (wanted_rows false parts.segments parts.symbols)
    (rows_fit true parts.segments parts.symbols few are.symbols) (rows_fit false parts.segments parts.symbols few are.symbols)

-- the null symbol
null_back : (rest strings : List ℕ) → symbol_at (zeros 16 ++ rest) (0 ∷ strings) 0 ≡ null_symbol
unfolding symbol_at zeros
null_back rest strings = refl

rows_after : (rest : List ℕ) → drop 16 (zeros 16 ++ rest) ≡ rest
unfolding zeros
rows_after rest = refl

rows_count : (xs : List Symbol) → symbol_count (zeros 16 ++ symbol_rows 1 xs) ≡ suc (length xs)
rows_count xs =
    let all : length (zeros 16 ++ symbol_rows 1 xs) ≡ 16 + 16 * length xs = omega (arith, length-append (zeros 16) (symbol_rows 1 xs), length_zeros 16, length_rows 1 xs) in
    rw all (omega arith)

pub table_back : (parts : ImageParts) → AreParts parts → length parts.segments ≤ SEGMENT_LIMIT → IsWord (length (strings_of (table_of parts)))
    → symbols_of (zeros 16 ++ symbol_rows 1 (table_of parts)) (strings_of (table_of parts)) ≡ symbols_of_parts parts
unfolding symbols_of
table_back parts are few small =
    let xs : List Symbol = table_of parts in
    let strings : List ℕ = flat_map (λ (s : Symbol). zero_terminated s.name) xs in
    let table : List ℕ = zeros 16 ++ symbol_rows 1 xs in
    let nothing : strings ≡ strings ++ [] = sym (append-nil strings) in
    let others : map (λ i. symbol_at table (0 ∷ strings) (16 * i)) (range_with_len 1 (length xs)) ≡ xs =
    symbols_back table (0 ∷ strings) [] 1 1 xs (table_fits parts are few) (omega (arith, small)) refl nothing (rows_after (symbol_rows 1 xs)) in
    rw (rows_count xs, null_back (symbol_rows 1 xs) strings, others) refl
