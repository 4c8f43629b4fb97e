-- A field alone in its place holds what its relocation writes, and the other bytes stay.
use Rattle.std.proofs.Common.{◌≡◌, ℕ, ◌+◌, ◌-◌, ◌*◌, ◌/◌, ◌%◌, ◌^◌, ◌≤◌, ◌<◌, ◌⊎◌, inl, inr, Bool, true, false, cond, List, [], ◌∷◌, ◌++◌, length, take, drop, get_or, Option, Some, None, ℤ, refl, sym, ap, ◌∙◌, arith, nat_le, nat_lt, length-append, length-drop}
use Rattle.std.specs.Option.{option_map_or}
use Rattle.std.proofs.lemmas.Bool.Decides.{nat_tests}
use Rattle.std.proofs.lemmas.List.{length-take-le, get_or-drop, get_or-take, get_or_append_left, get_or-append_right}
use Rattle.byteorder.specs.Endian.{little_number}
use Rattle.thumb_isa.specs.declared.instr.Instr.TheVariants.{BCond}
use Rattle.thumb_encode.specs.Codes.{encode_result}
use Rattle.asm_relocatable.specs.declared.place.Section.{Section}
use Rattle.asm_relocatable.specs.declared.object.Reloc.{Reloc}
use Rattle.elf_write.specs.Layout.{word, half}
use Rattle.eh_link.specs.declared.names.Meaning.{Meaning}
use Rattle.asm_relocatable.specs.declared.relocation.FieldKind.{FieldKind}
use Rattle.asm_relocatable.specs.declared.relocation.FieldKind.TheVariants.{Absolute, Relative, Prel31, Call, Jump, CondJump}
use Rattle.eh_link.specs.declared.field.Change.{Change}
use Rattle.eh_link.specs.declared.field.Change.TheVariants.{Keep, Half, Word, Unreachable}
use Rattle.eh_link.specs.Layout.{address_at}
use Rattle.eh_link.specs.Fields.{size_of, branch, distance, filling, relative, change_by, change_of, overwrite_at, apply_change, fill_fields}
use Rattle.asm_relocatable.specs.Sections.{same_section}
use Rattle.asm_relocatable.specs.Relocations.{kind_of, width, field_size}
use Rattle.eh_link.specs.FieldLaw.{IsInField, IsInNoField, StandsAlone, OtherBytesStay, FieldsHold}
use Rattle.eh_link.proofs.Changes.{filling_fits, change_fits}

-- ---- bytes written over others

three_ways : (j a b : ℕ) → (j < a) ⊎ ((b ≤ j) ⊎ ((a ≤ j) × (j < b)))
three_ways j a b = at (nat_lt j a) (nat_le b j) refl refl
  where
    at : (p q : Bool) → p ≡ nat_lt j a → q ≡ nat_le b j → (j < a) ⊎ ((b ≤ j) ⊎ ((a ≤ j) × (j < b)))
    at true q e f = inl (grind (arith, nat_tests))
    at false true e f = inr (inl (grind (arith, nat_tests)))
    at false false e f = inr (inr (grind (arith, nat_tests), grind (arith, nat_tests)))

written_length : (offset : ℕ) (new bytes : List ℕ) → offset + length new ≤ length bytes → length (overwrite_at offset new bytes) ≡ length bytes
unfolding overwrite_at
written_length offset new bytes h =
    let whole = length-append (take offset bytes) (new ++ drop (length new) (drop offset bytes)) in
    let rest = length-append new (drop (length new) (drop offset bytes)) in
    omega (arith, whole, rest, length-take-le offset bytes (omega arith), length-drop (length new) (drop offset bytes), length-drop offset bytes)

written_below : (offset : ℕ) (new bytes : List ℕ) (j : ℕ) → offset + length new ≤ length bytes → j < offset
    → get_or (overwrite_at offset new bytes) j 0 ≡ get_or bytes j 0
unfolding overwrite_at
written_below offset new bytes j h lt =
    let len = length-take-le offset bytes (omega arith) in
    get_or_append_left (take offset bytes) (new ++ drop (length new) (drop offset bytes)) 0 j (omega (arith, len)) ∙ get_or-take offset bytes j 0 lt

written_here : (offset : ℕ) (new bytes : List ℕ) (j : ℕ) → offset + length new ≤ length bytes → offset ≤ j → j < offset + length new
    → get_or (overwrite_at offset new bytes) j 0 ≡ get_or new (j - offset) 0
unfolding overwrite_at
written_here offset new bytes j h ge lt =
    let len = length-take-le offset bytes (omega arith) in
    get_or-append_right (take offset bytes) (new ++ drop (length new) (drop offset bytes)) offset j 0 len ge
    ∙ get_or_append_left new (drop (length new) (drop offset bytes)) 0 (j - offset) (omega arith)

written_above : (offset : ℕ) (new bytes : List ℕ) (j : ℕ) → offset + length new ≤ length bytes → offset + length new ≤ j
    → get_or (overwrite_at offset new bytes) j 0 ≡ get_or bytes j 0
unfolding overwrite_at
written_above offset new bytes j h ge =
    let len = length-take-le offset bytes (omega arith) in
    let back : offset + (length new + (j - offset - length new)) ≡ j = omega arith in
    get_or-append_right (take offset bytes) (new ++ drop (length new) (drop offset bytes)) offset j 0 len (omega arith)
    ∙ get_or-append_right new (drop (length new) (drop offset bytes)) (length new) (j - offset) 0 refl (omega arith)
    ∙ get_or-drop (length new) (drop offset bytes) (j - offset - length new) 0
    ∙ get_or-drop offset bytes (length new + (j - offset - length new)) 0
    ∙ ap (λ k. get_or bytes k 0) back

pub half_length : (v : ℕ) → length (half v) ≡ 2
unfolding half
half_length v = refl

pub word_length : (v : ℕ) → length (word v) ≡ 4
unfolding word
word_length v = refl

-- ---- changes

pub changed_length : (c : Change) (offset : ℕ) (bytes : List ℕ) → size_of c ≤ length (drop offset bytes) → length (apply_change c offset bytes) ≡ length bytes
changed_length Keep offset bytes h = refl
changed_length (Half v) offset bytes h = written_length offset (half v) bytes (omega (arith, h, length-drop offset bytes, half_length v))
changed_length (Word v) offset bytes h = written_length offset (word v) bytes (omega (arith, h, length-drop offset bytes, word_length v))
changed_length Unreachable offset bytes h = refl

changed_below : (c : Change) (offset : ℕ) (bytes : List ℕ) (j : ℕ) → size_of c ≤ length (drop offset bytes) → j < offset
    → get_or (apply_change c offset bytes) j 0 ≡ get_or bytes j 0
changed_below Keep offset bytes j h lt = refl
changed_below (Half v) offset bytes j h lt = written_below offset (half v) bytes j (omega (arith, h, length-drop offset bytes, half_length v)) lt
changed_below (Word v) offset bytes j h lt = written_below offset (word v) bytes j (omega (arith, h, length-drop offset bytes, word_length v)) lt
changed_below Unreachable offset bytes j h lt = refl

changed_above : (c : Change) (offset : ℕ) (bytes : List ℕ) (j : ℕ) → size_of c ≤ length (drop offset bytes) → offset + size_of c ≤ j
    → get_or (apply_change c offset bytes) j 0 ≡ get_or bytes j 0
changed_above Keep offset bytes j h ge = refl
changed_above (Half v) offset bytes j h ge =
    written_above offset (half v) bytes j (omega (arith, h, length-drop offset bytes, half_length v)) (omega (arith, ge, half_length v))
changed_above (Word v) offset bytes j h ge =
    written_above offset (word v) bytes j (omega (arith, h, length-drop offset bytes, word_length v)) (omega (arith, ge, word_length v))
changed_above Unreachable offset bytes j h ge = refl

changed_here : (c : Change) (offset : ℕ) (one two : List ℕ) (j : ℕ) → size_of c ≤ length (drop offset one) → length one ≡ length two → offset ≤ j → j < offset + size_of c
    → get_or (apply_change c offset one) j 0 ≡ get_or (apply_change c offset two) j 0
changed_here Keep offset one two j h e ge lt = absurd (omega (arith, ge, lt))
changed_here (Half v) offset one two j h e ge lt =
    written_here offset (half v) one j (omega (arith, h, length-drop offset one, half_length v)) ge (omega (arith, lt, half_length v))
    ∙ sym (written_here offset (half v) two j (omega (arith, h, e, length-drop offset one, half_length v)) ge (omega (arith, lt, half_length v)))
changed_here (Word v) offset one two j h e ge lt =
    written_here offset (word v) one j (omega (arith, h, length-drop offset one, word_length v)) ge (omega (arith, lt, word_length v))
    ∙ sym (written_here offset (word v) two j (omega (arith, h, e, length-drop offset one, word_length v)) ge (omega (arith, lt, word_length v)))
changed_here Unreachable offset one two j h e ge lt = absurd (omega (arith, ge, lt))

-- the same change of lists that are alike there
changed_alike : (c : Change) (offset : ℕ) (one two : List ℕ) (j : ℕ) → size_of c ≤ length (drop offset one) → length one ≡ length two
    → get_or one j 0 ≡ get_or two j 0 → get_or (apply_change c offset one) j 0 ≡ get_or (apply_change c offset two) j 0
changed_alike c offset one two j h e same =
    let there : size_of c ≤ length (drop offset two) = omega (arith, h, e, length-drop offset one, length-drop offset two) in
    elim (three_ways j offset (offset + size_of c)) [
      | inl lt ↦ changed_below c offset one j h lt ∙ same ∙ sym (changed_below c offset two j there lt)
      | inr (inl ge) ↦ changed_above c offset one j h ge ∙ same ∙ sym (changed_above c offset two j there ge)
      | inr (inr at) ↦ changed_here c offset one two j h e at.0 at.1
    ]

-- ---- a relocation's change

by_size : (kind : Option FieldKind) (meaning : Option Meaning) (a : ℤ) (p : ℕ) (there : List ℕ) → size_of (change_by kind meaning a p there) ≤ option_map_or width kind 0
by_size (Some kind) (Some m) a p there = tested (nat_le (width kind) (length there))
  where
    tested : (b : Bool) → size_of (cond b (filling kind m a p there) Keep) ≤ width kind
    tested true = filling_fits kind m a p there
    tested false = omega arith
by_size (Some kind) None a p there = omega arith
by_size None (Some m) a p there = omega arith
by_size None None a p there = omega arith

fits_where : (b : Bool) (c : Change) (n : ℕ) → size_of c ≤ n → size_of (cond b c Keep) ≤ n
fits_where true c n h = h
fits_where false c n h = omega arith

change_size : (means : List ℕ → Option Meaning) (section : Section) (start : ℕ) (bytes : List ℕ) (r : Reloc) → size_of (change_of means section start bytes r) ≤ field_size r
unfolding change_of
change_size means section start bytes r =
    fits_where (same_section r.section section) _ _ (by_size (kind_of r.kind) (means r.name) r.addend (address_at start r.offset) (drop r.offset bytes))

pub change_within : (means : List ℕ → Option Meaning) (section : Section) (start : ℕ) (bytes : List ℕ) (r : Reloc) → size_of (change_of means section start bytes r) ≤ length (drop r.offset bytes)
unfolding change_of
change_within means section start bytes r =
    fits_where (same_section r.section section) _ _ (change_fits (kind_of r.kind) (means r.name) r.addend (address_at start r.offset) (drop r.offset bytes))

kept_elsewhere : (means : List ℕ → Option Meaning) (section : Section) (start : ℕ) (bytes : List ℕ) (r : Reloc) → same_section r.section section ≡ false
    → change_of means section start bytes r ≡ Keep
unfolding change_of
kept_elsewhere means section start bytes r e = rw e refl

step_keeps : (means : List ℕ → Option Meaning) (section : Section) (start : ℕ) (bytes : List ℕ) (r : Reloc) (j : ℕ) → (IsInField section j r → ⊥)
    → get_or (apply_change (change_of means section start bytes r) r.offset bytes) j 0 ≡ get_or bytes j 0
step_keeps means section start bytes r j out = by_section (same_section r.section section) refl
  where
    by_section : (b : Bool) → b ≡ same_section r.section section → get_or (apply_change (change_of means section start bytes r) r.offset bytes) j 0 ≡ get_or bytes j 0
    by_section false e = rw (kept_elsewhere means section start bytes r (sym e)) refl
    by_section true e =
        elim (three_ways j r.offset (r.offset + size_of (change_of means section start bytes r))) [
          | inl lt ↦ changed_below (change_of means section start bytes r) r.offset bytes j (change_within means section start bytes r) lt
          | inr (inl ge) ↦ changed_above (change_of means section start bytes r) r.offset bytes j (change_within means section start bytes r) ge
          | inr (inr at) ↦ absurd (out (record { here = sym e; from = at.0; below = omega (arith, at.1, change_size means section start bytes r) }))
        ]

-- ---- the laws

stay : OtherBytesStay
stay means section start bytes [] j out = refl
stay means section start bytes (r ∷ relocs) j out =
    stay means section start (apply_change (change_of means section start bytes r) r.offset bytes) relocs j out.1
    ∙ step_keeps means section start bytes r j out.0

pub filled_length : (means : List ℕ → Option Meaning) (section : Section) (start : ℕ) (bytes : List ℕ) (relocs : List Reloc) → length (fill_fields means section start bytes relocs) ≡ length bytes
filled_length means section start bytes [] = refl
filled_length means section start bytes (r ∷ relocs) =
    filled_length means section start (apply_change (change_of means section start bytes r) r.offset bytes) relocs
    ∙ changed_length (change_of means section start bytes r) r.offset bytes (change_within means section start bytes r)

filled_append : (means : List ℕ → Option Meaning) (section : Section) (start : ℕ) (bytes : List ℕ) (xs ys : List Reloc)
    → fill_fields means section start bytes (xs ++ ys) ≡ fill_fields means section start (fill_fields means section start bytes xs) ys
filled_append means section start bytes [] ys = refl
filled_append means section start bytes (r ∷ xs) ys = filled_append means section start (apply_change (change_of means section start bytes r) r.offset bytes) xs ys

-- what is written depends on the bytes of the field alone
same_filling : (kind : FieldKind) (m : Meaning) (a : ℤ) (p : ℕ) (one two : List ℕ) → ((i : ℕ) → i < width kind → get_or one i 0 ≡ get_or two i 0)
    → filling kind m a p one ≡ filling kind m a p two
same_filling Absolute m a p one two h = refl
same_filling Relative m a p one two h = refl
same_filling Prel31 m a p one two h =
    let number : little_number 4 one ≡ little_number 4 two = rw (h 0 (omega arith), h 1 (omega arith), h 2 (omega arith), h 3 (omega arith)) refl in
    ap (λ n. Word (relative m a p % 2 ^ 31 + n / 2 ^ 31 * 2 ^ 31)) number
same_filling Call m a p one two h = refl
same_filling Jump m a p one two h = refl
same_filling CondJump m a p one two h =
    let number : little_number 2 one ≡ little_number 2 two = rw (h 0 (omega arith), h 1 (omega arith)) refl in
    ap (λ n. branch (encode_result (BCond (n / 2 ^ 8 % 2 ^ 4) (distance m a p)))) number

same_by : (kind : Option FieldKind) (meaning : Option Meaning) (a : ℤ) (p : ℕ) (one two : List ℕ) → length one ≡ length two
    → ((i : ℕ) → i < option_map_or width kind 0 → get_or one i 0 ≡ get_or two i 0) → change_by kind meaning a p one ≡ change_by kind meaning a p two
same_by (Some kind) (Some m) a p one two e h = rw (e, same_filling kind m a p one two h) refl
same_by (Some kind) None a p one two e h = refl
same_by None (Some m) a p one two e h = refl
same_by None None a p one two e h = refl

same_where : (b : Bool) (c d : Change) → (b ≡ true → c ≡ d) → cond b c Keep ≡ cond b d Keep
same_where true c d h = h refl
same_where false c d h = refl

same_change : (means : List ℕ → Option Meaning) (section : Section) (start : ℕ) (one two : List ℕ) (r : Reloc) → length one ≡ length two
    → ((j : ℕ) → IsInField section j r → get_or one j 0 ≡ get_or two j 0) → change_of means section start one r ≡ change_of means section start two r
unfolding change_of
same_change means section start one two r e h =
    same_where (same_section r.section section) _ _ (λ here.
    same_by (kind_of r.kind) (means r.name) r.addend (address_at start r.offset) (drop r.offset one) (drop r.offset two)
    (length-drop r.offset one ∙ ap (λ n. n - r.offset) e ∙ sym (length-drop r.offset two))
    (λ i lt. get_or-drop r.offset one i 0 ∙ h (r.offset + i) (record { here = here; from = omega arith; below = omega arith }) ∙ sym (get_or-drop r.offset two i 0)))

no_field_left : (section : Section) (j : ℕ) (xs ys : List Reloc) → IsInNoField section j (xs ++ ys) → IsInNoField section j xs
no_field_left section j [] ys h = tt
no_field_left section j (x ∷ xs) ys h = (h.0, no_field_left section j xs ys h.1)

no_field_right : (section : Section) (j : ℕ) (xs ys : List Reloc) → IsInNoField section j (xs ++ ys) → IsInNoField section j ys
no_field_right section j [] ys h = h
no_field_right section j (x ∷ xs) ys h = no_field_right section j xs ys h.1

-- the relocations before it leave what it writes
pub same_after : (means : List ℕ → Option Meaning) (section : Section) (start : ℕ) (bytes : List ℕ) (before : List Reloc) (r : Reloc) (after : List Reloc)
    → StandsAlone section r (before ++ after) → change_of means section start (fill_fields means section start bytes before) r ≡ change_of means section start bytes r
same_after means section start bytes before r after alone =
    same_change means section start (fill_fields means section start bytes before) bytes r (filled_length means section start bytes before)
    (λ k in_field. stay means section start bytes before k (no_field_left section k before after (alone k in_field)))

hold : FieldsHold
hold means section start bytes before r after j alone at =
    let so_far = fill_fields means section start bytes before in
    let len : length so_far ≡ length bytes = filled_length means section start bytes before in
    let same : change_of means section start so_far r ≡ change_of means section start bytes r = same_after means section start bytes before r after alone in
    ap (λ xs. get_or xs j 0) (filled_append means section start bytes before (r ∷ after))
    ∙ stay means section start (apply_change (change_of means section start so_far r) r.offset so_far) after j (no_field_right section j before after (alone j at))
    ∙ ap (λ c. get_or (apply_change c r.offset so_far) j 0) same
    ∙ changed_alike (change_of means section start bytes r) r.offset so_far bytes j
    (omega (arith, change_within means section start bytes r, length-drop r.offset bytes, length-drop r.offset so_far, len)) len
    (stay means section start bytes before j (no_field_left section j before after (alone j at)))

pub law_of_other_bytes : OtherBytesStay
law_of_other_bytes = stay

pub law_of_fields : FieldsHold
law_of_fields = hold
