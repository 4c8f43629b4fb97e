-- The bytecode of a function is bytes, and its entry holds it.
use Rattle.std.proofs.Common.{◌≡◌, ◌≢◌, ℕ, ◌+◌, ◌*◌, ◌-◌, ◌/◌, ◌%◌, ◌^◌, ◌<◌, ◌≤◌, Bool, true, false, cond, List, [], ◌∷◌, ◌++◌, Option, Some, None, refl, arith, replicate, length}
use Rattle.std.specs.Prelude.{◌==◌, not, nat_lt, nat_le, flat_map, reverse, All, MatchOption, ⊤, Result, Ok, Err}
use Rattle.std.specs.List.{prefix_len}
use Rattle.std.proofs.lemmas.Bool.Decides.{nat_tests}
use Rattle.std.proofs.lemmas.Bool.{ltb-true, ltb-false, eqb-false}
use Rattle.std.proofs.lemmas.List.{reverse-append}
use Rattle.std.proofs.lemmas.List.Elements.{All-nil, All-cons, All-head, All-tail, All-append, All-replicate, All-take, All-drop, All-filter}
use Rattle.std.proofs.lemmas.List.Quantifiers.{position-Some}
use Rattle.eh_codes.specs.declared.code.UnwindCode.{UnwindCode}
use Rattle.eh_codes.specs.declared.code.UnwindCode.TheVariants.{Raise, Lower, Refuse, PopMask, Restore, PopRange, PopRangeAndLr, Finish, PopLow, RaiseLong}
use Rattle.eh_codes.specs.declared.code.TheConstants.{RAISE, LOWER, POP_MASK, RESTORE, POP_RANGE, POP_RANGE_AND_LR, FINISH, POP_LOW, RAISE_LONG, LONG_LEAST}
use Rattle.eh_codes.specs.declared.words.TheConstants.{MOST_PERSONALITY}
use Rattle.eh_codes.specs.Bytes.{code_bytes, shortest_uleb128, HasBytes, IsCode}
use Rattle.asm_unwind.specs.declared.code.TheConstants.{MOST_STEP, WORDS_OF_MOST_STEP}
use Rattle.asm_unwind.specs.declared.directive.TheConstants.{MOST_PAD}
use Rattle.asm_unwind.specs.declared.directive.UnwindDirective.{UnwindDirective}
use Rattle.asm_unwind.specs.declared.directive.UnwindDirective.TheVariants.{FnStart, FnEnd, Save, Pad, SetFp, CantUnwind, PersonalityIndex, HandlerData}
use Rattle.asm_unwind.specs.declared.directive.UnwindFault.{UnwindFault}
use Rattle.asm_unwind.specs.declared.directive.UnwindFault.TheVariants.{OutsideFunction, TooLong}
use Rattle.asm_unwind.specs.declared.entry.EntryWords.{EntryWords}
use Rattle.asm_unwind.specs.declared.entry.EntryWords.TheVariants.{CantUnwind as Unwindless}
use Rattle.asm_unwind.specs.Refusals.{is_frame_pointer, directive_state_of}
use Rattle.asm_unwind.specs.Codes.{IsWritable, ranges, range_of, mask_code, high_code, lower_codes, directive_codes, is_no_pad, before_frame_pointer, from_frame_pointer, coded_directives, with_pads_if, codes_of, bytecode_of}
use Rattle.asm_unwind.specs.Entries.{room, index_of, entry_of, entry_of_code, entry_words_of}
use Rattle.asm_unwind.specs.EntryLaw.{FunctionsHoldTheirCode}
use Rattle.asm_unwind.proofs.EntryLaws.{law_of_entries}

abbrev IsByte : ℕ → Type 0
IsByte b = b < 2 ^ 8

one_byte : (a : ℕ) → a < 2 ^ 8 → All IsByte (a ∷ [])
one_byte a h = All-cons IsByte a [] h (All-nil IsByte)

two_bytes : (a b : ℕ) → a < 2 ^ 8 → b < 2 ^ 8 → All IsByte (a ∷ b ∷ [])
two_bytes a b h i = All-cons IsByte a (b ∷ []) h (one_byte b i)

uleb128_small : (number : ℕ) (short : Bool) → nat_lt number 128 ≡ short → number < 2 ^ 14 → All IsByte (cond short (number ∷ []) ((128 + number % 128) ∷ (number / 128) ∷ []))
uleb128_small number true s h = one_byte number (let low : number < 128 = ltb-true number 128 s in omega arith)
uleb128_small number false s h = two_bytes (128 + number % 128) (number / 128) (omega arith) (omega arith)

code_small : (code : UnwindCode) → HasBytes code → All IsByte (code_bytes code)
code_small (Raise words) h = one_byte (RAISE + words) (omega arith)
code_small (Lower words) h = one_byte (LOWER + words) (omega arith)
code_small Refuse h = two_bytes POP_MASK 0 (omega arith) (omega arith)
code_small (PopMask mask) h = two_bytes (POP_MASK + mask / 256) (mask % 256) (omega arith) (omega arith)
code_small (Restore register) h = one_byte (RESTORE + register) (omega arith)
code_small (PopRange last) h = one_byte (POP_RANGE + last) (omega arith)
code_small (PopRangeAndLr last) h = one_byte (POP_RANGE_AND_LR + last) (omega arith)
code_small Finish h = one_byte FINISH (omega arith)
code_small (PopLow mask) h = two_bytes POP_LOW mask (omega arith) (omega arith)
code_small (RaiseLong words) h = All-cons IsByte RAISE_LONG (shortest_uleb128 words) (omega arith) (uleb128_small words (nat_lt words 128) refl h)

All-flat_map : {X Y : Type 0} (P : X → Type 0) (Q : Y → Type 0) (f : X → List Y) → ((x : X) → P x → All Q (f x)) → (xs : List X) → All P xs → All Q (flat_map f xs)
All-flat_map P Q f each [] h = All-nil Q
All-flat_map P Q f each (x ∷ xs) h = All-append Q (f x) (flat_map f xs) (each x (All-head P x xs h)) (All-flat_map P Q f each xs (All-tail P x xs h))

All-reverse : {X : Type 0} (P : X → Type 0) (xs : List X) → All P xs → All P (reverse xs)
All-reverse P [] h = h
All-reverse P (x ∷ xs) h =
    rw (reverse-append (x ∷ []) xs) (All-append P (reverse xs) (x ∷ []) (All-reverse P xs (All-tail P x xs h)) (All-cons P x [] (All-head P x xs h) (All-nil P)))

-- a code of the standard, whose fields fit its bits
abbrev Fits : UnwindCode → Type 0
Fits code = IsCode code × HasBytes code

one_code : (code : UnwindCode) → Fits code → All Fits (code ∷ [])
one_code code h = All-cons Fits code [] h (All-nil Fits)

mask_fits : (h : ℕ) (a b : Option ℕ) → h < 2 ^ 12 → h ≢ 0 → h / 2 ^ 9 % 2 ≡ 0 → ((n : ℕ) → a ≡ Some n → n < 8) → ((n : ℕ) → b ≡ Some n → n < 8) → Fits (mask_code h a b)
mask_fits h (Some n) b small some no_sp f g = (f n refl, f n refl)
mask_fits h None (Some n) small some no_sp f g = (g n refl, g n refl)
mask_fits h None None small some no_sp f g = ((small, some, no_sp), small)

range_small : (h n : ℕ) → range_of h ≡ Some n → n < 8
range_small h n e = (position-Some (λ range. range == h) ranges n 0 e).0

lr_small : (h n : ℕ) (small : Bool) → cond small None (range_of (h - 0x400)) ≡ Some n → n < 8
lr_small h n true e = cc
lr_small h n false e = range_small (h - 0x400) n e

high_fits : (h : ℕ) → h < 2 ^ 12 → h ≢ 0 → h / 2 ^ 9 % 2 ≡ 0 → Fits (high_code h)
unfolding high_code
high_fits h small some no_sp = mask_fits h (range_of h) (cond (nat_lt h 0x400) None (range_of (h - 0x400))) small some no_sp (λ n. range_small h n) (λ n. lr_small h n (nat_lt h 0x400))

code_or_none_fits : (n : ℕ) (none : Bool) (code : UnwindCode) → (n == 0) ≡ none → (n ≢ 0 → Fits code) → All Fits (cond none [] (code ∷ []))
code_or_none_fits n true code s h = All-nil Fits
code_or_none_fits n false code s h = one_code code (h (eqb-false n 0 s))

raise_fits : (words : ℕ) → words < 64 → Fits (Raise words)
raise_fits words h = (h, h)

lower_step_fits : (words : ℕ) → words < 64 → Fits (Lower words)
lower_step_fits words h = (h, h)

long_fits : (words : ℕ) → words < 2 ^ 14 → Fits (RaiseLong words)
long_fits words h = (omega arith, h)

pad_fits : (size : ℕ) (short middle : Bool) → nat_le size MOST_STEP ≡ short → nat_le size (2 * MOST_STEP) ≡ middle → size ≤ MOST_PAD →
    All Fits (cond short (Raise ((size - 4) / 4) ∷ []) (cond middle (Raise WORDS_OF_MOST_STEP ∷ Raise ((size - (MOST_STEP + 4)) / 4) ∷ []) (RaiseLong ((size - LONG_LEAST) / 4) ∷ [])))
pad_fits size true middle s m h = one_code (Raise ((size - 4) / 4)) (raise_fits ((size - 4) / 4) (grind (arith, nat_tests)))
pad_fits size false true s m h =
    All-cons Fits (Raise WORDS_OF_MOST_STEP) (Raise ((size - (MOST_STEP + 4)) / 4) ∷ []) (raise_fits WORDS_OF_MOST_STEP (omega arith))
    (one_code (Raise ((size - (MOST_STEP + 4)) / 4)) (raise_fits ((size - (MOST_STEP + 4)) / 4) (grind (arith, nat_tests))))
pad_fits size false false s m h = one_code (RaiseLong ((size - LONG_LEAST) / 4)) (long_fits ((size - LONG_LEAST) / 4) (omega arith))

lower_fits : (size : ℕ) (none : Bool) → All Fits (cond none [] (replicate ((size - 4) / MOST_STEP) (Lower WORDS_OF_MOST_STEP) ++ Lower ((size - 4) % MOST_STEP / 4) ∷ []))
lower_fits size true = All-nil Fits
lower_fits size false =
    let last : UnwindCode = Lower ((size - 4) % MOST_STEP / 4) in
    All-append Fits (replicate ((size - 4) / MOST_STEP) (Lower WORDS_OF_MOST_STEP)) (last ∷ [])
    (All-replicate Fits ((size - 4) / MOST_STEP) (Lower WORDS_OF_MOST_STEP) (lower_step_fits WORDS_OF_MOST_STEP (omega arith)))
    (one_code last (lower_step_fits ((size - 4) % MOST_STEP / 4) (omega arith)))

low_fits : (n : ℕ) → n < 16 → n ≢ 0 → Fits (PopLow n)
low_fits n small some = ((small, some), small)

directive_fits : (d : UnwindDirective) → IsWritable d → All Fits (directive_codes d)
directive_fits (Save registers) h =
    let narrow : registers < 2 ^ 15 = h.0 in
    let no_sp : registers / 2 ^ 13 % 2 ≡ 0 = h.1 in
    All-append Fits (cond (registers % 16 == 0) [] (PopLow (registers % 16) ∷ [])) (cond (registers / 16 == 0) [] (high_code (registers / 16) ∷ []))
    (code_or_none_fits (registers % 16) (registers % 16 == 0) (PopLow (registers % 16)) refl (λ some. low_fits (registers % 16) (omega arith) some))
    (code_or_none_fits (registers / 16) (registers / 16 == 0) (high_code (registers / 16)) refl (λ some. high_fits (registers / 16) (omega arith) some (omega arith)))
directive_fits (Pad size) h = pad_fits size (nat_le size MOST_STEP) (nat_le size (2 * MOST_STEP)) refl refl h
directive_fits (SetFp register offset) h =
    let low : register ≤ 11 = h in
    All-cons Fits (Restore register) (lower_codes offset) ((omega arith, (λ e. absurd (omega arith)), (λ e. absurd (omega arith))), omega arith) (lower_fits offset (offset == 0))
directive_fits FnStart h = All-nil Fits
directive_fits FnEnd h = All-nil Fits
directive_fits CantUnwind h = All-nil Fits
directive_fits (PersonalityIndex index) h = All-nil Fits
directive_fits HandlerData h = All-nil Fits

-- the codes of a function are codes of the standard, and fit their bits
all_fit : (directives : List UnwindDirective) → All IsWritable directives → All Fits (codes_of directives)
unfolding codes_of
all_fit directives h =
    let before : All IsWritable (before_frame_pointer directives) = All-take IsWritable (prefix_len (λ d. not (is_frame_pointer d)) directives) directives h in
    let after : All IsWritable (with_pads_if false (from_frame_pointer directives)) = All-filter is_no_pad IsWritable (from_frame_pointer directives) (All-drop IsWritable (length (before_frame_pointer directives)) directives h) in
    All-flat_map IsWritable Fits directive_codes directive_fits (reverse (coded_directives directives))
    (All-reverse IsWritable (coded_directives directives) (All-append IsWritable (before_frame_pointer directives) (with_pads_if false (from_frame_pointer directives)) before after))

pub codes_are : (directives : List UnwindDirective) → All IsWritable directives → All IsCode (codes_of directives)
codes_are directives h k or l = (all_fit directives h k or l).0

pub codes_fit : (directives : List UnwindDirective) → All IsWritable directives → All HasBytes (codes_of directives)
codes_fit directives h k or l = (all_fit directives h k or l).1

-- and its bytecode is bytes
bytecode_small : (directives : List UnwindDirective) → All IsWritable directives → All IsByte (bytecode_of directives)
unfolding bytecode_of
bytecode_small directives h = All-flat_map HasBytes IsByte code_bytes code_small (codes_of directives) (codes_fit directives h)

index_low : (given : Option ℕ) (bytes : List ℕ) → MatchOption given ⊤ (λ index. index ≤ MOST_PERSONALITY) → index_of given bytes ≤ MOST_PERSONALITY
index_low None bytes h = elim (nat_le (length bytes) 3) as (λ few. cond few 0 1 ≤ MOST_PERSONALITY) [ true ↦ omega arith | false ↦ omega arith ]
index_low (Some index) bytes h = h

-- an entry is the one of its code, which has room in it
has_entry : (ended cant_unwind : Bool) (entry : EntryWords) (coded : Result EntryWords UnwindFault) → cant_unwind ≡ false →
    cond (not ended) (Err OutsideFunction) (cond cant_unwind (Ok Unwindless) coded) ≡ Ok entry → coded ≡ Ok entry
has_entry false cant_unwind entry coded none is = cc
has_entry true true entry coded none is = cc
has_entry true false entry coded none is = is

has_room : (index : ℕ) (bytes : List ℕ) (entry coded : EntryWords) (full : Bool) → nat_lt (room index) (length bytes) ≡ full →
    cond {A = Result EntryWords UnwindFault} full (Err TooLong) (Ok coded) ≡ Ok entry → (length bytes ≤ room index) × (coded ≡ entry)
has_room index bytes entry coded true s is = cc
has_room index bytes entry coded false s is = (ltb-false (room index) (length bytes) s, cc)

pub law_of_function_entries : FunctionsHoldTheirCode
unfolding entry_words_of
law_of_function_entries directives entry writable low unwinds is =
    let bytes : List ℕ = bytecode_of directives in
    let index : ℕ = index_of (directive_state_of directives).personality bytes in
    let handler_data : Bool = (directive_state_of directives).handler_data in
    let coded = has_entry (directive_state_of directives).ended (directive_state_of directives).cant_unwind entry (entry_of_code (directive_state_of directives).personality handler_data bytes) unwinds is in
    let fits = has_room index bytes entry (entry_of index handler_data bytes) (nat_lt (room index) (length bytes)) refl coded in
    rw (← fits.1) (law_of_entries index handler_data bytes (index_low (directive_state_of directives).personality bytes low) fits.0 (bytecode_small directives writable))
