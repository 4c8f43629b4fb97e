-- The loops that lay out a file.
use Rattle.std.proofs.Common.{◌≡◌, ℕ, ◌+◌, ◌<◌, ◌≤◌, List, [], ◌∷◌, ◌++◌, length, get_or, drop, arith, append_assoc, length-append, ◌-◌, ap, refl, sym, cond, Bool, true, false, ◌&&◌, nat_le, ◌*◌, ◌∙◌}
use Rattle.std.proofs.lemmas.Bool.Decides.{nat_tests}
use Rattle.std.specs.List.{flat_map}
use Rattle.std.proofs.lemmas.List.{at_drop_more, length-replicate}
use Rattle.elf_image.specs.Symbols.{Symbol}
use Rattle.eh_word.specs.Bytes.{zeros}
use Rattle.elf_write.specs.Layout.{load_header, segment_row, word, half, align_to_word, padding, zero_terminated, symbol_bytes, symbol_rows, contents, program_bytes, program_rows, file_place, segment_name, segment_names, section_bytes, section_rows}
use Rattle.elf_write.specs.declared.parts.OwnSegment.{OwnSegment}

-- one more name
pub strings_more : (xs : List Symbol) (i : ℕ) (d : Symbol) → i < length xs
    → length (flat_map (λ (s : Symbol). zero_terminated s.name) (drop i xs)) ≡ length (zero_terminated (get_or xs i d).name) + length (flat_map (λ (s : Symbol). zero_terminated s.name) (drop (i + 1) xs))
strings_more xs i d h =
    at_drop_more (λ (ys : List Symbol). length (flat_map (λ (s : Symbol). zero_terminated s.name) ys)) xs i d h ∙ length-append (zero_terminated (get_or xs i d).name) _

-- one more row
pub rows_more : (at : ℕ) (xs : List Symbol) (i : ℕ) (d : Symbol) → i < length xs
    → symbol_rows at (drop i xs) ≡ symbol_bytes at (get_or xs i d) ++ symbol_rows (at + length (zero_terminated (get_or xs i d).name)) (drop (i + 1) xs)
rows_more at xs i d h = at_drop_more (symbol_rows at) xs i d h

pub length_zeros : (n : ℕ) → length (zeros n) ≡ n
unfolding zeros
length_zeros n = length-replicate n 0

-- where the next segment's bytes may begin
pub next_at : (base : ℕ) (out bytes : List ℕ) → base + length ((out ++ padding (base + length out)) ++ bytes) ≡ align_to_word (base + length out) + length bytes
next_at base out bytes =
    let all : length ((out ++ padding (base + length out)) ++ bytes) ≡ length out + length (padding (base + length out)) + length bytes =
    length-append (out ++ padding (base + length out)) bytes ∙ rw (length-append out (padding (base + length out))) refl in
    omega (arith, all, length_zeros (align_to_word (base + length out) - (base + length out)))

pub contents_more : (at : ℕ) (xs : List OwnSegment) (i : ℕ) (d : OwnSegment) → i < length xs
    → contents at (drop i xs) ≡ (padding at ++ (get_or xs i d).bytes) ++ contents (align_to_word at + length (get_or xs i d).bytes) (drop (i + 1) xs)
contents_more at xs i d h = at_drop_more (contents at) xs i d h

pub contents_length : (at : ℕ) (xs : List OwnSegment) (i : ℕ) (d : OwnSegment) → i < length xs
    → at + length (contents at (drop i xs))
    ≡ (align_to_word at + length (get_or xs i d).bytes) + length (contents (align_to_word at + length (get_or xs i d).bytes) (drop (i + 1) xs))
contents_length at xs i d h =
    let x = get_or xs i d in
    let rest = contents (align_to_word at + length x.bytes) (drop (i + 1) xs) in
    let all : length (contents at (drop i xs)) ≡ length (padding at) + length x.bytes + length rest =
    ap length (contents_more at xs i d h) ∙ length-append (padding at ++ x.bytes) rest ∙ rw (length-append (padding at) x.bytes) refl in
    omega (arith, all, length_zeros (align_to_word at - at))

pub program_more : (at : ℕ) (xs : List OwnSegment) (i : ℕ) (d : OwnSegment) → i < length xs
    → program_rows at (drop i xs)
    ≡ program_bytes (load_header (align_to_word at) (get_or xs i d))
    ++ program_rows (align_to_word at + length (get_or xs i d).bytes) (drop (i + 1) xs)
program_more at xs i d h = at_drop_more (program_rows at) xs i d h

pub names_more : (n : ℕ) (xs : List OwnSegment) (i : ℕ) (d : OwnSegment) → i < length xs
    → segment_names n (drop i xs) ≡ segment_name n ++ segment_names (n + 1) (drop (i + 1) xs)
names_more n xs i d h = at_drop_more (segment_names n) xs i d h

pub place_more : (a z at : ℕ) (xs : List OwnSegment) (i : ℕ) (d : OwnSegment) → i < length xs
    → file_place a z at (drop i xs)
    ≡ cond (nat_le (get_or xs i d).start a && nat_le (a + z) ((get_or xs i d).start + length (get_or xs i d).bytes)) (align_to_word at + (a - (get_or xs i d).start))
    (file_place a z (align_to_word at + length (get_or xs i d).bytes) (drop (i + 1) xs))
place_more a z at xs i d h = at_drop_more (file_place a z at) xs i d h

pub sections_more : (n name at : ℕ) (xs : List OwnSegment) (i : ℕ) (d : OwnSegment) → i < length xs
    → section_rows n name at (drop i xs)
    ≡ section_bytes (segment_row name (align_to_word at) (get_or xs i d))
    ++ section_rows (n + 1) (name + length (segment_name n)) (align_to_word at + length (get_or xs i d).bytes) (drop (i + 1) xs)
sections_more n name at xs i d h = at_drop_more (section_rows n name at) xs i d h

-- the bytes of the next segment end by the end of all
pub next_fits : (at total : ℕ) (xs : List OwnSegment) (i : ℕ) (x : OwnSegment) → i < length xs → x ≡ get_or xs i x → at + length (contents at (drop i xs)) ≡ total
    → align_to_word at + length x.bytes ≤ total
next_fits at total xs i x h is all =
    let same : length (get_or xs i x).bytes ≡ length x.bytes = ap (λ (y : OwnSegment). length y.bytes) (sym is) in
    omega (arith, contents_length at xs i x h, all, same)

both_true : (b c : Bool) → (b && c) ≡ true → (b ≡ true) × (c ≡ true)
both_true true c h = (refl, h)
both_true false c h = absurd cc

pub both_le : (a b x y : ℕ) → (nat_le a b && nat_le x y) ≡ true → (a ≤ b) × (x ≤ y)
both_le a b x y h = (grind (arith, nat_tests, both_true (nat_le a b) (nat_le x y) h), grind (arith, nat_tests, both_true (nat_le a b) (nat_le x y) h))

pub length_row : (at : ℕ) (s : Symbol) → length (symbol_bytes at s) ≡ 16
unfolding symbol_bytes word half
length_row at s = refl

-- 16 bytes a row
pub length_rows : (at : ℕ) (xs : List Symbol) → length (symbol_rows at xs) ≡ 16 * length xs
length_rows at [] = refl
length_rows at (s ∷ xs) =
    let rest = length_rows (at + length (zero_terminated s.name)) xs in
    let all = length-append (symbol_bytes at s) (symbol_rows (at + length (zero_terminated s.name)) xs) in
    omega (arith, all, rest, length_row at s)

pub next_all : (at at' total : ℕ) (xs : List OwnSegment) (i : ℕ) (x : OwnSegment) (bytes : List ℕ) → i < length xs → x ≡ get_or xs i x → bytes ≡ x.bytes → at' ≡ align_to_word at
    → at + length (contents at (drop i xs)) ≡ total → at' + length bytes + length (contents (at' + length bytes) (drop (i + 1) xs)) ≡ total
next_all at at' total xs i x bytes h is b a all =
    rw (b, a) (ap (λ (y : OwnSegment). (align_to_word at + length y.bytes) + length (contents (align_to_word at + length y.bytes) (drop (i + 1) xs))) is
    ∙ sym (contents_length at xs i x h) ∙ all)

pub place_past : (k z at at' total : ℕ) (xs : List OwnSegment) (i : ℕ) (x : OwnSegment) (bytes : List ℕ) → i < length xs → x ≡ get_or xs i x → bytes ≡ x.bytes → at' ≡ align_to_word at
    → (nat_le x.start k && nat_le (k + z) (x.start + length x.bytes)) ≡ false → file_place k z at (drop i xs) ≡ total
    → file_place k z (at' + length bytes) (drop (i + 1) xs) ≡ total
place_past k z at at' total xs i x bytes h is b a past all =
    let there : (nat_le (get_or xs i x).start k && nat_le (k + z) ((get_or xs i x).start + length (get_or xs i x).bytes)) ≡ false =
    ap (λ (y : OwnSegment). nat_le y.start k && nat_le (k + z) (y.start + length y.bytes)) (sym is) ∙ past in
    let step : file_place k z at (drop i xs) ≡ file_place k z (align_to_word at + length (get_or xs i x).bytes) (drop (i + 1) xs) = place_more k z at xs i x h ∙ rw there refl in
    rw (b, a) (ap (λ (y : OwnSegment). file_place k z (align_to_word at + length y.bytes) (drop (i + 1) xs)) is ∙ sym step ∙ all)

-- ---- a loop's step: one more row stands at the end

pub program_past : (at at' : ℕ) (xs : List OwnSegment) (i : ℕ) (x : OwnSegment) (bytes out out' total : List ℕ) → i < length xs → x ≡ get_or xs i x → bytes ≡ x.bytes → at' ≡ align_to_word at
    → out' ≡ out ++ program_bytes (load_header at' x) → out ++ program_rows at (drop i xs) ≡ total → out' ++ program_rows (at' + length bytes) (drop (i + 1) xs) ≡ total
program_past at at' xs i x bytes out out' total h is b a e all =
    rw (e, b, a) (append_assoc out (program_bytes (load_header (align_to_word at) x)) (program_rows (align_to_word at + length x.bytes) (drop (i + 1) xs))
    ∙ ap (λ (y : OwnSegment). out ++ (program_bytes (load_header (align_to_word at) y) ++ program_rows (align_to_word at + length y.bytes) (drop (i + 1) xs))) is
    ∙ ap (λ (rows : List ℕ). out ++ rows) (sym (program_more at xs i x h)) ∙ all)

pub names_past : (n : ℕ) (xs : List OwnSegment) (i : ℕ) (out out' total : List ℕ) → i < length xs → out' ≡ out ++ segment_name n → out ++ segment_names n (drop i xs) ≡ total
    → out' ++ segment_names (n + 1) (drop (i + 1) xs) ≡ total
names_past n xs i out out' total h e all =
    let none : OwnSegment = record { start = 0; bytes = []; size = 0; write = false; exec = false } in
    rw e (append_assoc out (segment_name n) (segment_names (n + 1) (drop (i + 1) xs)) ∙ ap (λ (names : List ℕ). out ++ names) (sym (names_more n xs i none h)) ∙ all)

pub sections_past : (n name at at' len : ℕ) (xs : List OwnSegment) (i : ℕ) (x : OwnSegment) (bytes out out' total : List ℕ) → i < length xs → x ≡ get_or xs i x → bytes ≡ x.bytes → at' ≡ align_to_word at
    → len ≡ length (segment_name n) → out' ≡ out ++ section_bytes (segment_row name at' x) → out ++ section_rows n name at (drop i xs) ≡ total
    → out' ++ section_rows (n + 1) (name + len) (at' + length bytes) (drop (i + 1) xs) ≡ total
sections_past n name at at' len xs i x bytes out out' total h is b a l e all =
    let next = name + length (segment_name n) in
    rw (e, b, a, l) (append_assoc out (section_bytes (segment_row name (align_to_word at) x)) (section_rows (n + 1) next (align_to_word at + length x.bytes) (drop (i + 1) xs))
    ∙ ap (λ (y : OwnSegment). out ++ (section_bytes (segment_row name (align_to_word at) y) ++ section_rows (n + 1) next (align_to_word at + length y.bytes) (drop (i + 1) xs))) is
    ∙ ap (λ (rows : List ℕ). out ++ rows) (sym (sections_more n name at xs i x h)) ∙ all)

pub strings_past : (at len total : ℕ) (xs : List Symbol) (i : ℕ) (x : Symbol) → i < length xs → x ≡ get_or xs i x → len ≡ length (zero_terminated x.name)
    → at + length (flat_map (λ (s : Symbol). zero_terminated s.name) (drop i xs)) ≡ total → at + len + length (flat_map (λ (s : Symbol). zero_terminated s.name) (drop (i + 1) xs)) ≡ total
strings_past at len total xs i x h is l all =
    let same : length (zero_terminated (get_or xs i x).name) ≡ length (zero_terminated x.name) = ap (λ (y : Symbol). length (zero_terminated y.name)) (sym is) in
    omega (arith, strings_more xs i x h, all, same, l)

pub rows_past : (at len : ℕ) (xs : List Symbol) (i : ℕ) (x : Symbol) (out out' total : List ℕ) → i < length xs → x ≡ get_or xs i x → len ≡ length (zero_terminated x.name) → out' ≡ out ++ symbol_bytes at x
    → out ++ symbol_rows at (drop i xs) ≡ total → out' ++ symbol_rows (at + len) (drop (i + 1) xs) ≡ total
rows_past at len xs i x out out' total h is l e all =
    rw (e, l) (append_assoc out (symbol_bytes at x) (symbol_rows (at + length (zero_terminated x.name)) (drop (i + 1) xs))
    ∙ ap (λ (y : Symbol). out ++ (symbol_bytes at y ++ symbol_rows (at + length (zero_terminated y.name)) (drop (i + 1) xs))) is
    ∙ ap (λ (rows : List ℕ). out ++ rows) (sym (rows_more at xs i x h)) ∙ all)
