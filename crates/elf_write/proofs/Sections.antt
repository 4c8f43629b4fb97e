-- The section headers, read back.
use Rattle.std.proofs.Common.{◌≡◌, ℕ, suc, ◌+◌, ◌*◌, List, [], ◌∷◌, ◌++◌, length, drop, map, Some, refl, sym, ◌∙◌, arith, append_assoc, length-append}
use Rattle.std.specs.List.{range_with_len, find, slice_get}
use Rattle.elf_image.specs.Format.{section_header}
use Rattle.elf_image.specs.Symbols.{is_symbol_table, tables_of}
use Rattle.elf_image.specs.declared.format.SectionHeader.{SectionHeader}
use Rattle.eh_word.specs.Bytes.{zeros}
use Rattle.elf_write.specs.Layout.{word, align_to_word, bit, contents, section_bytes, section_rows, segment_name}
use Rattle.elf_write.specs.Parts.{IsWord}
use Rattle.elf_write.specs.declared.parts.OwnSegment.{OwnSegment}
use Rattle.elf_write.proofs.Layouts.{length_zeros}
use Rattle.elf_write.proofs.Pieces.{section, word_back, field_is, after}
use Rattle.elf_write.proofs.Programs.{first_place}

abbrev pub head : ℕ → ℕ → ℕ → ℕ → SectionHeader
head kind offset size link = record { kind = kind; offset = offset; size = size; link = link }

same_head : (h : SectionHeader) (kind offset size link : ℕ) → h.kind ≡ kind → h.offset ≡ offset → h.size ≡ size → h.link ≡ link → h ≡ head kind offset size link
same_head h kind offset size link a b c d = rw (sym a, sym b, sym c, sym d) refl

-- a row that stands at a place
pub head_back : (bytes rest : List ℕ) (at name kind flags address offset size link info entry : ℕ) → IsWord kind → IsWord offset → IsWord size → IsWord link
    → drop at bytes ≡ section_bytes (section name kind flags address offset size link info entry) ++ rest → section_header bytes at ≡ head kind offset size link
unfolding section_header section_bytes word
head_back bytes rest at name kind flags address offset size link info entry k o z l h =
    let row = section_bytes (section name kind flags address offset size link info entry) ++ rest in
    let six : List ℕ = word info ++ (word 4 ++ (word entry ++ rest)) in
    let five : List ℕ = word link ++ six in
    let four : List ℕ = word size ++ five in
    let two : List ℕ = word flags ++ (word address ++ (word offset ++ four)) in
    same_head (section_header bytes at) kind offset size link
    (field_is 4 4 at kind bytes row h (word_back kind two k))
    (field_is 4 16 at offset bytes row h (word_back offset four o))
    (field_is 4 20 at size bytes row h (word_back size five z))
    (field_is 4 24 at link bytes row h (word_back link six l))

-- forty zero bytes
pub null_back : (bytes rest : List ℕ) (at : ℕ) → drop at bytes ≡ zeros 40 ++ rest → section_header bytes at ≡ head 0 0 0 0
unfolding section_header zeros
null_back bytes rest at h =
    let row = zeros 40 ++ rest in
    same_head (section_header bytes at) 0 0 0 0 (field_is 4 4 at 0 bytes row h refl) (field_is 4 16 at 0 bytes row h refl) (field_is 4 20 at 0 bytes row h refl)
    (field_is 4 24 at 0 bytes row h refl)

abbrev pub heads_of : ℕ → List OwnSegment → List SectionHeader
heads_of at [] = []
heads_of at (s ∷ more) = head 1 (align_to_word at) (length s.bytes) 0 ∷ heads_of (align_to_word at + length s.bytes) more

pub length_section : (name kind flags address offset size link info entry : ℕ) → length (section_bytes (section name kind flags address offset size link info entry)) ≡ 40
unfolding section_bytes word
length_section name kind flags address offset size link info entry = refl

pub length_section_rows : (i name at : ℕ) (xs : List OwnSegment) → length (section_rows i name at xs) ≡ 40 * length xs
length_section_rows i name at [] = refl
length_section_rows i name at (s ∷ xs) =
    let row = section_bytes (section name 1 (2 + bit s.write 1 + bit s.exec 4) s.start (align_to_word at) (length s.bytes) 0 0 0) in
    let rest = length_section_rows (i + 1) (name + length (segment_name i)) (align_to_word at + length s.bytes) xs in
    let all = length-append row (section_rows (i + 1) (name + length (segment_name i)) (align_to_word at + length s.bytes) xs) in
    omega (arith, all, rest, length_section name 1 (2 + bit s.write 1 + bit s.exec 4) s.start (align_to_word at) (length s.bytes) 0 0 0)

-- the rows of the segments, and then others
pub heads_back : (bytes rest : List ℕ) (others : List SectionHeader) (off k i name at m : ℕ) (xs : List OwnSegment) → IsWord (at + length (contents at xs))
    → drop (off + 40 * k) bytes ≡ section_rows i name at xs ++ rest
    → map (λ j. section_header bytes (off + 40 * j)) (range_with_len (k + length xs) m) ≡ others
    → map (λ j. section_header bytes (off + 40 * j)) (range_with_len k (length xs + m)) ≡ heads_of at xs ++ others
heads_back bytes rest others off k i name at m [] inside h last =
    let a : k + 0 ≡ k = omega arith in
    let b : 0 + m ≡ m = omega arith in
    rw b (rw a at last)
heads_back bytes rest others off k i name at m (s ∷ xs) inside h last =
    let next = align_to_word at + length s.bytes in
    let row = section_bytes (section name 1 (2 + bit s.write 1 + bit s.exec 4) s.start (align_to_word at) (length s.bytes) 0 0 0) in
    let tail = section_rows (i + 1) (name + length (segment_name i)) next xs in
    let place = first_place at s xs in
    let whole : drop (off + 40 * k) bytes ≡ row ++ (tail ++ rest) = h ∙ append_assoc row tail rest in
    let one : section_header bytes (off + 40 * k) ≡ head 1 (align_to_word at) (length s.bytes) 0 =
    head_back bytes (tail ++ rest) (off + 40 * k) name 1 (2 + bit s.write 1 + bit s.exec 4) s.start (align_to_word at) (length s.bytes) 0 0 0
    (omega arith) (omega (arith, place, inside)) (omega (arith, place, inside)) (omega arith) whole in
    let rows = length_section name 1 (2 + bit s.write 1 + bit s.exec 4) s.start (align_to_word at) (length s.bytes) 0 0 0 in
    let later : drop (off + 40 * (k + 1)) bytes ≡ tail ++ rest =
    after (off + 40 * k) (off + 40 * (k + 1)) bytes row (tail ++ rest) whole (omega (arith, rows)) in
    let e : k + suc (length xs) ≡ k + 1 + length xs = omega arith in
    let f : suc (length xs) + m ≡ suc (length xs + m) = omega arith in
    let more = heads_back bytes rest others off (k + 1) (i + 1) (name + length (segment_name i)) next m xs (omega (arith, place, inside)) later (rw e at last) in
    rw (f, one, more) refl

-- the three last rows
last_back : (bytes : List ℕ) (at ta tl sa sl na nl i j n locals link : ℕ) → IsWord ta → IsWord tl → IsWord sa → IsWord sl → IsWord na → IsWord nl → IsWord link
    → drop at bytes ≡ section_bytes (section i 2 0 0 ta tl link locals 16) ++ (section_bytes (section j 3 0 0 sa sl 0 0 0) ++ (section_bytes (section n 3 0 0 na nl 0 0 0) ++ []))
    → (section_header bytes at ≡ head 2 ta tl link) × (section_header bytes (at + 40) ≡ head 3 sa sl 0) × (section_header bytes (at + 40 + 40) ≡ head 3 na nl 0)
last_back bytes at ta tl sa sl na nl i j n locals link a b c d e f g h =
    let three : List ℕ = section_bytes (section n 3 0 0 na nl 0 0 0) ++ [] in
    let two : List ℕ = section_bytes (section j 3 0 0 sa sl 0 0 0) ++ three in
    let zero_word : IsWord 0 = omega arith in
    let three_word : IsWord 3 = omega arith in
    let second = after at (at + 40) bytes (section_bytes (section i 2 0 0 ta tl link locals 16)) two h (omega (arith, length_section i 2 0 0 ta tl link locals 16)) in
    let third = after (at + 40) (at + 40 + 40) bytes (section_bytes (section j 3 0 0 sa sl 0 0 0)) three second (omega (arith, length_section j 3 0 0 sa sl 0 0 0)) in (
      head_back bytes two at i 2 0 0 ta tl link locals 16 (omega arith) a b g h,
      head_back bytes three (at + 40) j 3 0 0 sa sl 0 0 0 three_word c d zero_word second,
      head_back bytes [] (at + 40 + 40) n 3 0 0 na nl 0 0 0 three_word e f zero_word third,
    )

pub sections_back : (bytes : List ℕ) (off base ta tl sa sl na nl i j n locals : ℕ) (xs : List OwnSegment) → IsWord (base + length (contents base xs))
    → IsWord ta → IsWord tl → IsWord sa → IsWord sl → IsWord na → IsWord nl → IsWord (length xs + 2)
    → drop off bytes
    ≡ zeros 40
    ++ (section_rows 0 1 base xs
    ++ (section_bytes (section i 2 0 0 ta tl (length xs + 2) locals 16) ++ (section_bytes (section j 3 0 0 sa sl 0 0 0) ++ (section_bytes (section n 3 0 0 na nl 0 0 0) ++ []))))
    → map (λ k. section_header bytes (off + 40 * k)) (range_with_len 0 (length xs + 4))
    ≡ head 0 0 0 0 ∷ heads_of base xs ++ head 2 ta tl (length xs + 2) ∷ head 3 sa sl 0 ∷ head 3 na nl 0 ∷ []
sections_back bytes off base ta tl sa sl na nl i j n locals xs inside a b c d e f g h =
    let last : List ℕ = section_bytes (section i 2 0 0 ta tl (length xs + 2) locals 16) ++ (section_bytes (section j 3 0 0 sa sl 0 0 0) ++ (section_bytes (section n 3 0 0 na nl 0 0 0) ++ [])) in
    let rows : List ℕ = section_rows 0 1 base xs in
    let there : drop (off + 40 * 0) bytes ≡ zeros 40 ++ (rows ++ last) = let o : off + 40 * 0 ≡ off = omega arith in rw o h in
    let null = null_back bytes (rows ++ last) (off + 40 * 0) there in
    let segments : drop (off + 40 * 1) bytes ≡ rows ++ last = after (off + 40 * 0) (off + 40 * 1) bytes (zeros 40) (rows ++ last) there (omega (arith, length_zeros 40)) in
    let p : ℕ = off + 40 * (1 + length xs) in
    let ends : drop p bytes ≡ last = after (off + 40 * 1) p bytes rows last segments (omega (arith, length_section_rows 0 1 base xs)) in
    let lasts = last_back bytes p ta tl sa sl na nl i j n locals (length xs + 2) a b c d e f g ends in
    let q : off + 40 * (1 + length xs + 1) ≡ p + 40 = omega arith in
    let r : off + 40 * (1 + length xs + 1 + 1) ≡ p + 40 + 40 = omega arith in
    let others : map (λ k. section_header bytes (off + 40 * k)) (range_with_len (1 + length xs) 3) ≡ head 2 ta tl (length xs + 2) ∷ head 3 sa sl 0 ∷ head 3 na nl 0 ∷ [] =
    rw (q, r, lasts.0, lasts.1, lasts.2) refl in
    let more = heads_back bytes last (head 2 ta tl (length xs + 2) ∷ head 3 sa sl 0 ∷ head 3 na nl 0 ∷ []) off 1 0 1 base 3 xs inside segments others in
    let count : length xs + 4 ≡ suc (length xs + 3) = omega arith in
    rw (count, null, more) refl

-- ---- the symbol table among them

find_table : (at : ℕ) (xs : List OwnSegment) (t : SectionHeader) (more : List SectionHeader) → t.kind ≡ 2 → find is_symbol_table (heads_of at xs ++ t ∷ more) ≡ Some t
find_table at [] t more k = rw k refl
find_table at (s ∷ xs) t more k = find_table (align_to_word at + length s.bytes) xs t more k

get_past : (at : ℕ) (xs : List OwnSegment) (t u : SectionHeader) (more : List SectionHeader) → slice_get (heads_of at xs ++ t ∷ u ∷ more) (length xs + 1) ≡ Some u
get_past at [] t u more = refl
get_past at (s ∷ xs) t u more = let e : suc (length xs) + 1 ≡ suc (length xs + 1) = omega arith in rw e (get_past (align_to_word at + length s.bytes) xs t u more)

pub tables_back : (at a b c d : ℕ) (xs : List OwnSegment) (more : List SectionHeader)
    → tables_of (head 0 0 0 0 ∷ heads_of at xs ++ head 2 a b (length xs + 2) ∷ head 3 c d 0 ∷ more) ≡ Some (head 2 a b (length xs + 2), head 3 c d 0)
unfolding tables_of
tables_back at a b c d xs more =
    let e : length xs + 2 ≡ suc (length xs + 1) = omega arith in
    rw (find_table at xs (head 2 a b (length xs + 2)) (head 3 c d 0 ∷ more) refl, e, get_past at xs (head 2 a b (suc (length xs + 1))) (head 3 c d 0) more) refl
