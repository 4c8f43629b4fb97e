-- What single unwinding instructions do to the registers of a frame (IHI 0038, "Frame unwinding instructions";
-- docs/rules/unwind-tables.md): laws in bytes and numbers, each instruction followed by "finish", B0.
use Rattle.std.specs.Prelude.{◌≡◌, ◌≢◌, ℕ, ◌+◌, ◌-◌, ◌*◌, ◌%◌, ◌<◌, List, [], ◌∷◌, slice_index, slice_set, Ok, Err}
use Rattle.eh_bus.specs.Segment.{Segment}
use Rattle.eh_bus.specs.Memory.{load_number}
use Rattle.eh_codes.specs.Cut.{split_codes}
use Rattle.eh_bytecode.specs.declared.frame.UnwindEnd.TheVariants.{Refused, BadCode}
use Rattle.eh_bytecode.specs.Meaning.{unwind_result}

-- the caller's registers if only the stack pointer, r13, changes: pc, r15, becomes the link register, r14
abbrev pub registers_with_sp : List ℕ → ℕ → List ℕ
registers_with_sp r sp = slice_set (slice_set r 15 (slice_index r 14)) 13 sp

-- these bytes and "finish" move the stack pointer alone
abbrev pub Moves : List Segment → List ℕ → List ℕ → ℕ → Type 0
Moves segments r bytes sp = unwind_result segments r (split_codes bytes) ≡ Ok (registers_with_sp r (sp % 4294967296))

-- 00 to 3F raise it by 4 to 256
abbrev pub Raises : Type 0
Raises = (segments : List Segment) (r : List ℕ) (x : ℕ) → x < 64 → Moves segments r (x ∷ 0xB0 ∷ []) (slice_index r 13 + (x * 4 + 4))

-- 40 to 7F lower it by 4 to 256
abbrev pub Lowers : Type 0
Lowers = (segments : List Segment) (r : List ℕ) (x : ℕ) → x < 64 → Moves segments r ((64 + x) ∷ 0xB0 ∷ []) (slice_index r 13 + (4294967296 - (x * 4 + 4)))

-- B2 00 raises it by 516
abbrev pub LeastLongRaise : Type 0
LeastLongRaise = (segments : List Segment) (r : List ℕ) → Moves segments r (0xB2 ∷ 0 ∷ 0xB0 ∷ []) (slice_index r 13 + 516)

-- B2 and a number raise it by four times the number more; a byte of the number that is 80 or above has another one after it
abbrev pub LongRaises : Type 0
LongRaises =
    (segments : List Segment) (r : List ℕ) (low high : ℕ) → low < 128 → high < 128 → 0 < high
    → Moves segments r (0xB2 ∷ low ∷ 0xB0 ∷ []) (slice_index r 13 + (516 + low * 4))
    × Moves segments r (0xB2 ∷ (128 + low) ∷ high ∷ 0xB0 ∷ []) (slice_index r 13 + (516 + (low + 128 * high) * 4))

-- 90 to 9F take it from a register, but for 9D and 9F, which are kept
abbrev pub Takes : Type 0
Takes =
    (segments : List Segment) (r : List ℕ) (n : ℕ) → n < 16 → n ≢ 13 → n ≢ 15
    → unwind_result segments r (split_codes ((0x90 + n) ∷ 0xB0 ∷ [])) ≡ Ok (registers_with_sp r (slice_index r n))

abbrev pub KeptTakes : Type 0
KeptTakes =
    (segments : List Segment) (r more : List ℕ) → (unwind_result segments r (split_codes (0x9D ∷ more)) ≡ Err (BadCode 0)) × (unwind_result segments r (split_codes (0x9F ∷ more)) ≡ Err (BadCode 0))

-- B0 and the end of the bytes finish, 80 00 refuses
abbrev pub Finishes : Type 0
Finishes =
    (segments : List Segment) (r more : List ℕ)
    → (unwind_result segments r (split_codes []) ≡ Ok (registers_with_sp r (slice_index r 13)))
    × (unwind_result segments r (split_codes (0xB0 ∷ more)) ≡ Ok (registers_with_sp r (slice_index r 13)))
    × (unwind_result segments r (split_codes (0x80 ∷ 0 ∷ more)) ≡ Err Refused)

-- A0 pops r4, B1 01 r0, 80 01 r4: from the word at the stack pointer, which moves four bytes up
abbrev pub SinglePops : Type 0
SinglePops =
    (segments : List Segment) (r : List ℕ) (word : ℕ) → word < 4294967296 → load_number 4 segments ((slice_index r 13 + 0) % 4294967296) ≡ Ok word
    → (unwind_result segments r (split_codes (0xA0 ∷ 0xB0 ∷ [])) ≡ Ok (registers_with_sp (slice_set r 4 word) ((slice_index r 13 + 4) % 4294967296)))
    × (unwind_result segments r (split_codes (0x80 ∷ 1 ∷ 0xB0 ∷ [])) ≡ Ok (registers_with_sp (slice_set r 4 word) ((slice_index r 13 + 4) % 4294967296)))
    × (unwind_result segments r (split_codes (0xB1 ∷ 1 ∷ 0xB0 ∷ [])) ≡ Ok (registers_with_sp (slice_set r 0 word) ((slice_index r 13 + 4) % 4294967296)))

-- A8 pops r4 and then lr, 84 01 as well, the lower register from the lower address
abbrev pub PopsWithLink : Type 0
PopsWithLink =
    (segments : List Segment) (r : List ℕ) (word link : ℕ) → word < 4294967296 → link < 4294967296 → load_number 4 segments ((slice_index r 13 + 0) % 4294967296) ≡ Ok word → load_number 4 segments ((slice_index r 13 + 4) % 4294967296) ≡ Ok link
    → (unwind_result segments r (split_codes (0xA8 ∷ 0xB0 ∷ [])) ≡ Ok (registers_with_sp (slice_set (slice_set r 4 word) 14 link) ((slice_index r 13 + 8) % 4294967296)))
    × (unwind_result segments r (split_codes (0x84 ∷ 1 ∷ 0xB0 ∷ [])) ≡ Ok (registers_with_sp (slice_set (slice_set r 4 word) 14 link) ((slice_index r 13 + 8) % 4294967296)))
