-- The symbol table and its names, read back.
use Rattle.std.proofs.Common.{◌≡◌, ◌≢◌, ℕ, suc, ◌+◌, ◌*◌, ◌^◌, ◌<◌, Bool, true, false, not, nat_eq, List, [], ◌∷◌, ◌++◌, length, drop, get_or, map, take_while, refl, sym, ap, ◌∙◌, arith, append_assoc, length-append}
use Rattle.std.proofs.lemmas.Bool.Decides.{nat_tests}
use Rattle.std.proofs.lemmas.List.{get_or-drop}
use Rattle.std.specs.List.{All, prefix_len, range_with_len, flat_map}
use Rattle.byteorder.specs.Endian.{little_number}
use Rattle.elf_image.specs.Symbols.{Symbol, symbol_at, name_at}
use Rattle.elf_write.specs.Layout.{word, half, zero_terminated, name_offset, symbol_bytes, symbol_rows}
use Rattle.elf_write.specs.Parts.{IsWord, HasNoZero}
use Rattle.elf_write.proofs.Layouts.{length_row}
use Rattle.elf_write.proofs.Pieces.{word_back, half_back, field_is, after}

-- ---- names

abbrev is_letter : ℕ → Bool
is_letter b = not (nat_eq b 0)

letter : (b : ℕ) → b ≢ 0 → is_letter b ≡ true
letter b h = let e : nat_eq b 0 ≡ false = grind (arith, nat_tests) in rw e refl

-- a name runs up to its zero byte
cut : (name rest : List ℕ) → HasNoZero name → take_while is_letter (name ++ 0 ∷ rest) ≡ name
cut [] rest h = refl
cut (b ∷ name) rest h =
    let one : 1 + prefix_len is_letter (name ++ 0 ∷ rest) ≡ suc (prefix_len is_letter (name ++ 0 ∷ rest)) = omega arith in
    rw (letter b h.0, one) (ap (λ (xs : List ℕ). b ∷ xs) (cut name rest h.1))

some : (n : ℕ) → nat_eq (suc n) 0 ≡ false
some n = grind (arith, nat_tests)

offset_some : (b n : ℕ) (name : List ℕ) → name_offset (b ∷ name) n ≡ n
offset_some b n name = rw (some (length name)) refl

closed_some : (b : ℕ) (name : List ℕ) → zero_terminated (b ∷ name) ≡ (b ∷ name) ++ 0 ∷ []
closed_some b name = rw (some (length name)) refl

pub name_back : (strings name rest : List ℕ) (at : ℕ) → HasNoZero name → drop 0 strings ≡ 0 ∷ drop 1 strings → drop at strings ≡ zero_terminated name ++ rest → name_at strings (name_offset name at) ≡ name
name_back strings [] rest at h first there = rw first refl
name_back strings (b ∷ name) rest at h first there =
    ap (λ (o : ℕ). name_at strings o) (offset_some b at name)
    ∙ ap (λ (xs : List ℕ). take_while is_letter xs) (there ∙ ap (λ (xs : List ℕ). xs ++ rest) (closed_some b name) ∙ append_assoc (b ∷ name) (0 ∷ []) rest)
    ∙ cut (b ∷ name) rest h

-- ---- rows

-- what a row can hold
pub record Fits (s : Symbol) : Type 0 where
  pub name : HasNoZero s.name
  pub value : IsWord s.value
  pub size : IsWord s.size
  pub section : s.section < 2 ^ 16

same_symbol : (t s : Symbol) → t.name ≡ s.name → t.value ≡ s.value → t.size ≡ s.size → t.info ≡ s.info → t.section ≡ s.section → t ≡ s
same_symbol t s a b c d e = rw (sym a, sym b, sym c, sym d, sym e) refl

offset_small : (name : List ℕ) (n : ℕ) → IsWord n → IsWord (name_offset name n)
offset_small [] n h = omega arith
offset_small (b ∷ name) n h = rw (offset_some b n name) h

pub symbol_back : (table strings rest names : List ℕ) (at n : ℕ) (s : Symbol) → Fits s → IsWord n → drop 0 strings ≡ 0 ∷ drop 1 strings → drop n strings ≡ zero_terminated s.name ++ names
    → drop at table ≡ symbol_bytes n s ++ rest → symbol_at table strings at ≡ s
unfolding symbol_at symbol_bytes word half
symbol_back table strings rest names at n s fit small first there h =
    let row = symbol_bytes n s ++ rest in
    let four : List ℕ = (s.info ∷ 0 ∷ []) ++ (half s.section ++ rest) in
    let three : List ℕ = word s.size ++ four in
    let two : List ℕ = word s.value ++ three in
    let offset : little_number 4 (drop at table) ≡ name_offset s.name n = ap (λ (xs : List ℕ). little_number 4 xs) h ∙ word_back (name_offset s.name n) two (offset_small s.name n small) in
    same_symbol (symbol_at table strings at) s
    (ap (λ (o : ℕ). name_at strings o) offset ∙ name_back strings s.name names n fit.name first there)
    (field_is 4 4 at s.value table row h (word_back s.value three fit.value))
    (field_is 4 8 at s.size table row h (word_back s.size four fit.size))
    (sym (get_or-drop at table 12 0) ∙ ap (λ (xs : List ℕ). get_or xs 12 0) h)
    (field_is 2 14 at s.section table row h (half_back s.section rest fit.section))

pub symbols_back : (table strings names : List ℕ) (k n : ℕ) (xs : List Symbol) → All Fits xs → IsWord (n + length (flat_map (λ (s : Symbol). zero_terminated s.name) xs))
    → drop 0 strings ≡ 0 ∷ drop 1 strings → drop n strings ≡ flat_map (λ (s : Symbol). zero_terminated s.name) xs ++ names → drop (16 * k) table ≡ symbol_rows n xs
    → map (λ i. symbol_at table strings (16 * i)) (range_with_len k (length xs)) ≡ xs
symbols_back table strings names k n [] fit small first there h = refl
symbols_back table strings names k n (s ∷ xs) fit small first there h =
    let more = flat_map (λ (x : Symbol). zero_terminated x.name) xs in
    let next = n + length (zero_terminated s.name) in
    let long = length-append (zero_terminated s.name) more in
    let named : drop n strings ≡ zero_terminated s.name ++ (more ++ names) = there ∙ append_assoc (zero_terminated s.name) more names in
    let one : symbol_at table strings (16 * k) ≡ s =
    symbol_back table strings (symbol_rows next xs) (more ++ names) (16 * k) n s (fit 0 s (omega arith)) (omega (arith, long, small)) first named h in
    let later : drop (16 * (k + 1)) table ≡ symbol_rows next xs =
    after (16 * k) (16 * (k + 1)) table (symbol_bytes n s) (symbol_rows next xs) h (omega (arith, length_row n s)) in
    let others = symbols_back table strings names (k + 1) next xs (λ i d l. fit (suc i) d (omega arith)) (omega (arith, long, small)) first
    (after n next strings (zero_terminated s.name) (more ++ names) named refl) later in
    rw (one, others) refl
