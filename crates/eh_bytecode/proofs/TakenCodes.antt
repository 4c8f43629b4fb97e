-- The codes of two bytes and more, as they are taken after their first byte.
use Rattle.std.proofs.Common.{◌≡◌, ◌≢◌, ℕ, ◌+◌, ◌-◌, ◌*◌, ◌/◌, ◌%◌, ◌^◌, ◌<◌, ◌≤◌, ◌⊎◌, inl, inr, List, [], ◌∷◌, drop, Option, Some, None, arith, ◌∙◌, ap, sym}
use Rattle.std.proofs.lemmas.Bool.{cases_lt}
use Rattle.eh_codes.specs.declared.code.UnwindCode.{UnwindCode}
use Rattle.eh_codes.specs.declared.code.UnwindCode.TheVariants.{Refuse, PopMask, PopLow, RaiseLong}
use Rattle.eh_codes.specs.Table.{code_front}
use Rattle.eh_codes.proofs.Table.{refuse, mask_low, mask_low_alone, mask_high, mask_high_alone, low, low_alone, low_empty, low_high}
use Rattle.eh_bytecode.specs.Codes.{code_and_rest}
use Rattle.eh_bytecode.proofs.Taking.{took, took_none}

second : (bytes after : List ℕ) (code : UnwindCode) (first next : ℕ) → bytes ≡ next ∷ after → code_front first bytes ≡ Some (code, 2) → (Some code, after) ≡ code_and_rest (code_front first bytes) bytes
second bytes after code first next e is = took bytes after code 2 (code_front first bytes) is (ap (drop 1) (sym e))

pub no_second : (first : ℕ) (bytes left : List ℕ) (r : Option UnwindCode) → r ≡ None → (bytes ≡ []) × (left ≡ []) → code_front first [] ≡ None → (r, left) ≡ code_and_rest (code_front first bytes) bytes
no_second first bytes left r none e is =
    ap (λ (r : Option UnwindCode). (r, left)) none ∙ took_none bytes left (code_front first bytes) (ap (code_front first) e.0 ∙ is) (e.1 ∙ sym e.0)

pub mask_alone : (first : ℕ) → 0x80 ≤ first → first < 0x90 → first / 2 % 2 ≡ 0 → code_front first [] ≡ None
mask_alone first l h clear = elim (cases_lt 0x80 first) [ inl above ↦ mask_high_alone first above h clear | inr at ↦ mask_low_alone first (omega arith) ]

pub took_refuse : (first next : ℕ) (bytes after : List ℕ) → bytes ≡ next ∷ after → first ≡ 0x80 → next ≡ 0 → (Some Refuse, after) ≡ code_and_rest (code_front first bytes) bytes
took_refuse first next bytes after e is none = second bytes after Refuse first next e (ap (code_front first) (e ∙ ap (λ (n : ℕ). n ∷ after) none) ∙ refuse first after is)

mask_found : (first next : ℕ) (after : List ℕ) → 0x80 ≤ first → first < 0x90 → first / 2 % 2 ≡ 0 → next < 2 ^ 8 → (first ≡ 0x80 → next ≢ 0) → code_front first (next ∷ after) ≡ Some (PopMask (first % 2 ^ 4 * 2 ^ 8 + next), 2)
mask_found first next after l h clear small some =
    elim (cases_lt 0x80 first) [
      | inl above ↦ mask_high first next after above h clear small
      | inr at ↦ let least : first ≡ 0x80 = omega arith in mask_low first next after least small (some least)
    ]

pub took_mask : (first next high_part low_part : ℕ) (bytes after : List ℕ) → bytes ≡ next ∷ after → 0x80 ≤ first → first < 0x90 → first / 2 % 2 ≡ 0 → next < 2 ^ 8 → (first ≡ 0x80 → next ≢ 0)
    → high_part ≡ first % 16 → low_part ≡ next → (Some (PopMask (high_part * 256 + low_part)), after) ≡ code_and_rest (code_front first bytes) bytes
took_mask first next high_part low_part bytes after e l h clear small some is_high is_low =
    let mask : high_part * 256 + low_part ≡ first % 2 ^ 4 * 2 ^ 8 + next = omega arith in
    ap (λ (n : ℕ). (Some (PopMask n), after)) mask
    ∙ second bytes after (PopMask (first % 2 ^ 4 * 2 ^ 8 + next)) first next e (ap (code_front first) e ∙ mask_found first next after l h clear small some)

low_none : (next : ℕ) (after : List ℕ) → next < 2 ^ 8 → (next ≡ 0) ⊎ (15 < next) → code_front 0xB1 (next ∷ after) ≡ None
low_none next after small (inl none) = ap (λ (n : ℕ). code_front 0xB1 (n ∷ after)) none ∙ low_empty 0xB1 after (omega arith)
low_none next after small (inr high) = low_high 0xB1 next after (omega arith) (omega arith) small

pub took_no_low : (next : ℕ) (bytes after : List ℕ) → bytes ≡ next ∷ after → next < 2 ^ 8 → (next ≡ 0) ⊎ (15 < next) → (None, bytes) ≡ code_and_rest (code_front 0xB1 bytes) bytes
took_no_low next bytes after e small h = took_none bytes bytes (code_front 0xB1 bytes) (ap (code_front 0xB1) e ∙ low_none next after small h) (λ _. bytes)

pub took_low : (next : ℕ) (bytes after : List ℕ) → bytes ≡ next ∷ after → next < 2 ^ 4 → next ≢ 0 → (Some (PopLow next), after) ≡ code_and_rest (code_front 0xB1 bytes) bytes
took_low next bytes after e small some = second bytes after (PopLow next) 0xB1 next e (ap (code_front 0xB1) e ∙ low 0xB1 next after (omega arith) small some)

pub low_alone_is : code_front 0xB1 [] ≡ None
low_alone_is = low_alone 0xB1 (omega arith)

pub took_long : (bytes left : List ℕ) (words size : ℕ) → Some (RaiseLong words, 1 + size) ≡ code_front 0xB2 bytes → left ≡ drop size bytes → (Some (RaiseLong words), left) ≡ code_and_rest (code_front 0xB2 bytes) bytes
took_long bytes left words size is rest =
    took bytes left (RaiseLong words) (1 + size) (code_front 0xB2 bytes) (sym is) (rest ∙ ap (λ n. drop n bytes) (let e : size ≡ 1 + size - 1 = omega arith in e))
