-- A field that stands alone holds what the equation of its kind says.
use Rattle.std.proofs.Common.{◌≡◌, ℕ, ◌+◌, ◌-◌, ◌*◌, ◌/◌, ◌%◌, ◌^◌, ◌≤◌, ◌<◌, Bool, true, false, List, [], ◌∷◌, ◌++◌, length, take, drop, get_or, Option, Some, None, Result, Ok, Err, ℤ, refl, sym, ap, ◌∙◌, arith, nat_le, append_assoc, length-drop}
use Rattle.std.specs.Option.{option_map_or}
use Rattle.std.specs.Int.{from_bool}
use Rattle.std.proofs.lemmas.Nat.{or_lt}
use Rattle.std.proofs.lemmas.Bool.Decides.{nat_tests}
use Rattle.std.proofs.lemmas.List.{length-take-le}
use Rattle.byteorder.specs.Endian.{little_number}
use Rattle.eh_word.specs.Words.{plus_offset, number_at}
use Rattle.eh_codes.specs.declared.row.TheConstants.{PREL31_LIMIT}
use Rattle.eh_codes.specs.Rows.{prel31_to}
use Rattle.eh_codes.proofs.RowLaws.{seen_back}
use Rattle.thumb_isa.specs.Fields.{field}
use Rattle.thumb_isa.specs.declared.instr.Instr.{Instr}
use Rattle.thumb_isa.specs.declared.instr.Instr.TheVariants.{BCond, B, Bl}
use Rattle.thumb_encode.specs.Codes.{encode_result}
use Rattle.thumb_encode.specs.declared.code.Code.{Code}
use Rattle.thumb_encode.specs.declared.code.Code.TheVariants as code
use Rattle.thumb_isa.specs.declared.encode_fault.EncodeFault.{EncodeFault}
use Rattle.asm_relocatable.specs.declared.place.Section.{Section}
use Rattle.asm_relocatable.specs.declared.object.Reloc.{Reloc}
use Rattle.elf_write.specs.Layout.{word, half}
use Rattle.eh_link.specs.declared.names.Meaning.{Meaning}
use Rattle.asm_relocatable.specs.declared.relocation.FieldKind.{FieldKind}
use Rattle.asm_relocatable.specs.declared.relocation.FieldKind.TheVariants.{Absolute, Relative, Prel31, Call, Jump, CondJump}
use Rattle.eh_link.specs.declared.field.Change.{Change}
use Rattle.eh_link.specs.declared.field.Change.TheVariants.{Half, Word}
use Rattle.eh_link.specs.Layout.{address_at}
use Rattle.eh_link.specs.Fields.{size_of, relative, branch, filling, change_of, overwrite_at, apply_change, fill_fields, lower, unreachable_at, unreachable_in}
use Rattle.asm_relocatable.specs.Relocations.{width, field_size}
use Rattle.eh_link.specs.EquationLaw.{target_of, displacement_of, IsField, CodeAt, IsCodeInEach, Decodes, AbsoluteFields, RelativeFields, Prel31Fields, Calls, Jumps, CondJumps}
use Rattle.eh_link.proofs.Changes.{filling_fits}
use Rattle.eh_link.proofs.Holding.{word_length, half_length, changed_length, change_within, filled_length, same_after, law_of_fields}
use Rattle.eh_link.proofs.Words.{Reads, number_is, number_reads, word_reads, half_reads, reads_after, reads_same, word_halves, seen_same}
use Rattle.eh_link.proofs.Branches.{IsSmall, bl_means, b_means, b_cond_means, bl_is_small, b_is_small, b_cond_is_small}

-- ---- what is written over bytes

written_is : (offset : ℕ) (new bytes : List ℕ) (n k x : ℕ) → offset + length new ≤ length bytes
    → Reads n (new ++ drop (length new) (drop offset bytes)) k x → Reads n (overwrite_at offset new bytes) (offset + k) x
unfolding overwrite_at
written_is offset new bytes n k x h r =
    reads_after n offset k (offset + k) x (take offset bytes) (new ++ drop (length new) (drop offset bytes)) (length-take-le offset bytes (omega arith)) refl r

word_written : (offset v : ℕ) (bytes : List ℕ) → offset + 4 ≤ length bytes → v < 2 ^ 32 → Reads 4 (overwrite_at offset (word v) bytes) offset v
word_written offset v bytes h low =
    let same : offset + 0 ≡ offset = omega arith in
    let there : Reads 4 (overwrite_at offset (word v) bytes) (offset + 0) v =
    written_is offset (word v) bytes 4 0 v (omega (arith, word_length v)) (word_reads v (drop (length (word v)) (drop offset bytes)) low) in
    rw same at there

-- a code's halfwords stand at an offset
abbrev ReadsCode : Code → List ℕ → ℕ → Type 0
ReadsCode (code.Half first) bytes offset = Reads 2 bytes offset first
ReadsCode (code.Pair first second) bytes offset = Reads 2 bytes offset first × Reads 2 bytes (offset + 2) second

stands : (c : Code) (bytes : List ℕ) (offset : ℕ) → ReadsCode c bytes offset → CodeAt c bytes offset
stands (code.Half first) bytes offset r = number_is 2 bytes offset first r
stands (code.Pair first second) bytes offset r = (number_is 2 bytes offset first r.0, number_is 2 bytes (offset + 2) second r.1)

code_written : (c : Code) (offset : ℕ) (bytes : List ℕ) → offset + size_of (branch (Ok c)) ≤ length bytes → IsSmall c
    → ReadsCode c (apply_change (branch (Ok c)) offset bytes) offset
code_written (code.Half first) offset bytes h small =
    let same : offset + 0 ≡ offset = omega arith in
    let there : Reads 2 (overwrite_at offset (half first) bytes) (offset + 0) first =
    written_is offset (half first) bytes 2 0 first (omega (arith, half_length first)) (half_reads first (drop (length (half first)) (drop offset bytes)) small) in
    rw same at there
code_written (code.Pair first second) offset bytes h small =
    let v = first + second * 2 ^ 16 in
    let rest = drop (length (word v)) (drop offset bytes) in
    let size : offset + length (word v) ≤ length bytes = omega (arith, word_length v) in
    let split : word v ++ rest ≡ half first ++ (half second ++ rest) = ap (λ xs. xs ++ rest) (word_halves first second small.0) ∙ append_assoc (half first) (half second) rest in
    let one : Reads 2 (word v ++ rest) 0 first = rw split (half_reads first (half second ++ rest) small.0) in
    let two : Reads 2 (word v ++ rest) 2 second = rw split (reads_after 2 2 0 2 second (half first) (half second ++ rest) (half_length first) refl (half_reads second rest small.1)) in
    let same : offset + 0 ≡ offset = omega arith in
    let there : Reads 2 (overwrite_at offset (word v) bytes) (offset + 0) first = written_is offset (word v) bytes 2 0 first size one in
    (rw same at there, written_is offset (word v) bytes 2 2 second size two)

-- ---- a field that stands alone

le_true : (b : Bool) (m n : ℕ) → b ≡ nat_le m n → m ≤ n → b ≡ true
le_true true m n e h = refl
le_true false m n e h = absurd (grind (arith, nat_tests))

pub record Alone : Type 0 where
  pub means : List ℕ → Option Meaning
  pub section : Section
  pub start : ℕ
  pub bytes : List ℕ
  pub before : List Reloc
  pub reloc : Reloc
  pub after : List Reloc
  pub kind : FieldKind
  pub meaning : Meaning
  pub is : IsField means section bytes (before ++ after) reloc kind meaning
  pub low : start + reloc.offset < 2 ^ 32

-- the bytes of the section after all relocations
result_of : Alone → List ℕ
result_of f = fill_fields f.means f.section f.start f.bytes (f.before ++ f.reloc ∷ f.after)

written_by : Alone → Change
written_by f = filling f.kind f.meaning f.reloc.addend (f.start + f.reloc.offset) (drop f.reloc.offset f.bytes)

change_is : (f : Alone) → change_of f.means f.section f.start f.bytes f.reloc ≡ written_by f
unfolding change_of written_by
change_is f =
    let place : address_at f.start f.reloc.offset ≡ f.start + f.reloc.offset = omega (arith, f.low) in
    let fits : nat_le (width f.kind) (length (drop f.reloc.offset f.bytes)) ≡ true =
    le_true _ (width f.kind) (length (drop f.reloc.offset f.bytes)) refl (omega (arith, f.is.inside, length-drop f.reloc.offset f.bytes)) in
    rw (f.is.here, f.is.number, f.is.name, place, fits) refl

-- a number within the field, as what the field's relocation writes has it
field_reads : (f : Alone) (c : Change) (n at x : ℕ) → written_by f ≡ c → f.reloc.offset ≤ at → at + n ≤ f.reloc.offset + width f.kind
    → Reads n (apply_change c f.reloc.offset f.bytes) at x → Reads n (result_of f) at x
unfolding result_of
field_reads f c n at x e from to r =
    let size : field_size f.reloc ≡ width f.kind = ap (λ k. option_map_or width k 0) f.is.number in
    let change : change_of f.means f.section f.start f.bytes f.reloc ≡ c = change_is f ∙ e in
    let len : length (apply_change c f.reloc.offset f.bytes) ≡ length f.bytes =
    ap (λ k. length (apply_change k f.reloc.offset f.bytes)) (sym change)
    ∙ changed_length (change_of f.means f.section f.start f.bytes f.reloc) f.reloc.offset f.bytes (change_within f.means f.section f.start f.bytes f.reloc) in
    reads_same n at x (fill_fields f.means f.section f.start f.bytes (f.before ++ f.reloc ∷ f.after)) (apply_change c f.reloc.offset f.bytes)
    (filled_length f.means f.section f.start f.bytes (f.before ++ f.reloc ∷ f.after) ∙ sym len)
    (λ j ge lt. law_of_fields f.means f.section f.start f.bytes f.before f.reloc f.after j f.is.alone
    (record { here = f.is.here; from = omega arith; below = omega (arith, size, lt, to) })
    ∙ ap (λ k. get_or (apply_change k f.reloc.offset f.bytes) j 0) change)
    r

word_field : (f : Alone) (v : ℕ) → written_by f ≡ Word v → width f.kind ≡ 4 → v < 2 ^ 32 → number_at 4 (result_of f) f.reloc.offset ≡ Some v
word_field f v e four low =
    number_is 4 (result_of f) f.reloc.offset v
    (field_reads f (Word v) 4 f.reloc.offset v e (omega arith) (omega (arith, four)) (word_written f.reloc.offset v f.bytes (omega (arith, four, f.is.inside)) low))

-- ---- words

bit_below : (b : Bool) → from_bool b < 2 ^ 32
bit_below true = omega arith
bit_below false = omega arith

target_below : (meaning : Meaning) (addend : ℤ) → target_of meaning addend < 2 ^ 32
target_below meaning addend = or_lt 32 (plus_offset meaning.address addend) (from_bool meaning.function) (omega arith) (bit_below meaning.function)

back_32 : (target place : ℕ) → target < 2 ^ 32 → place < 2 ^ 32 → ((target + (2 ^ 32 - place)) % 2 ^ 32 + place) % 2 ^ 32 ≡ target
back_32 target place t p = omega arith

back_31 : (target place old : ℕ) → target < 2 ^ 32 → place < 2 ^ 32
    → (prel31_to place target + old / PREL31_LIMIT * PREL31_LIMIT + place) % PREL31_LIMIT ≡ target % PREL31_LIMIT
back_31 target place old t p = omega arith

kept_31 : (displacement old : ℕ) → old < 2 ^ 32 → (displacement % PREL31_LIMIT + old / PREL31_LIMIT * PREL31_LIMIT) / PREL31_LIMIT ≡ old / PREL31_LIMIT
kept_31 displacement old h = omega arith

low_31 : (displacement old : ℕ) → (displacement % PREL31_LIMIT + old / PREL31_LIMIT * PREL31_LIMIT) % PREL31_LIMIT ≡ displacement % PREL31_LIMIT % PREL31_LIMIT
low_31 displacement old = omega arith

below_32 : (displacement old : ℕ) → old < 2 ^ 32 → displacement % PREL31_LIMIT + old / PREL31_LIMIT * PREL31_LIMIT < 2 ^ 32
below_32 displacement old h = omega arith

pub law_of_absolute : AbsoluteFields
unfolding result_of written_by
law_of_absolute means section start bytes before reloc after meaning is low =
    let f : Alone = record { means = means; section = section; start = start; bytes = bytes; before = before; reloc = reloc; after = after; kind = Absolute; meaning = meaning; is = is; low = low } in
    word_field f (target_of meaning reloc.addend) refl refl (target_below meaning reloc.addend)

pub law_of_relative : RelativeFields
unfolding result_of written_by
law_of_relative means section start bytes before reloc after meaning is low =
    let f : Alone = record { means = means; section = section; start = start; bytes = bytes; before = before; reloc = reloc; after = after; kind = Relative; meaning = meaning; is = is; low = low } in
    record {
      word = relative meaning reloc.addend (start + reloc.offset);
      there = word_field f (relative meaning reloc.addend (start + reloc.offset)) refl refl (omega arith);
      sum = back_32 (target_of meaning reloc.addend) (start + reloc.offset) (target_below meaning reloc.addend) low;
    }

pub law_of_prel31 : Prel31Fields
unfolding result_of written_by
law_of_prel31 means section start bytes before reloc after meaning is low old there small =
    let f : Alone = record { means = means; section = section; start = start; bytes = bytes; before = before; reloc = reloc; after = after; kind = Prel31; meaning = meaning; is = is; low = low } in
    let target = target_of meaning reloc.addend in
    let place = start + reloc.offset in
    let displacement = relative meaning reloc.addend place in
    let v = displacement % PREL31_LIMIT + old / PREL31_LIMIT * PREL31_LIMIT in
    let number : little_number 4 (drop reloc.offset bytes) ≡ old = (number_reads 4 bytes reloc.offset old there).is in
    let writes : written_by f ≡ Word v = ap (λ n. Word (displacement % PREL31_LIMIT + n / PREL31_LIMIT * PREL31_LIMIT)) number in
    record {
      word = v;
      there = word_field f v writes refl (below_32 displacement old small);
      sum = back_31 target place old (target_below meaning reloc.addend) low;
      kept = kept_31 displacement old small;
      leads = λ p t. seen_same place v (prel31_to place target) (low_31 displacement old) ∙ seen_back place target p t;
    }

-- ---- branches

pub none_of : (a b : Option ℕ) → lower a b ≡ None → (a ≡ None) × (b ≡ None)
none_of None b e = (refl, e)
none_of (Some a) None e = absurd cc
none_of (Some a) (Some b) e = absurd cc

reached_here : (means : List ℕ → Option Meaning) (section : Section) (start : ℕ) (bytes : List ℕ) (before : List Reloc) (r : Reloc) (after : List Reloc)
    → unreachable_in means section start bytes (before ++ r ∷ after) ≡ None
    → unreachable_at (change_of means section start (fill_fields means section start bytes before) r) (address_at start r.offset) ≡ None
reached_here means section start bytes [] r after h = (none_of _ _ h).0
reached_here means section start bytes (x ∷ before) r after h =
    reached_here means section start (apply_change (change_of means section start bytes x) x.offset bytes) before r after (none_of _ _ h).1

has_code : (r : Result Code EncodeFault) (place : ℕ) → unreachable_at (branch r) place ≡ None → (c : Code) × (r ≡ Ok c)
has_code (Ok c) place e = (c, refl)
has_code (Err fault) place e = absurd cc

code_reads : (f : Alone) (c : Code) → written_by f ≡ branch (Ok c) → size_of (branch (Ok c)) ≤ width f.kind
    → ReadsCode c (apply_change (branch (Ok c)) f.reloc.offset f.bytes) f.reloc.offset → ReadsCode c (result_of f) f.reloc.offset
code_reads f (code.Half first) e size r = field_reads f (Half first) 2 f.reloc.offset first e (omega arith) (omega (arith, size)) r
code_reads f (code.Pair first second) e size r = (
  field_reads f (Word (first + second * 2 ^ 16)) 2 f.reloc.offset first e (omega arith) (omega (arith, size)) r.0,
  field_reads f (Word (first + second * 2 ^ 16)) 2 (f.reloc.offset + 2) second e (omega arith) (omega (arith, size)) r.1,
)

branch_field : (f : Alone) (i : Instr) → written_by f ≡ branch (encode_result i) → unreachable_in f.means f.section f.start f.bytes (f.before ++ f.reloc ∷ f.after) ≡ None
    → ((c : Code) → encode_result i ≡ Ok c → IsCodeInEach c i) → ((c : Code) → encode_result i ≡ Ok c → IsSmall c)
    → Decodes i (result_of f) f.reloc.offset
unfolding written_by
branch_field f i e reached means small =
    let change : change_of f.means f.section f.start (fill_fields f.means f.section f.start f.bytes f.before) f.reloc ≡ branch (encode_result i) =
    same_after f.means f.section f.start f.bytes f.before f.reloc f.after f.is.alone ∙ change_is f ∙ e in
    let there = reached_here f.means f.section f.start f.bytes f.before f.reloc f.after reached in
    let encoded = has_code (encode_result i) (address_at f.start f.reloc.offset) (ap (λ k. unreachable_at k (address_at f.start f.reloc.offset)) (sym change) ∙ there) in
    let c = encoded.0 in
    let writes : written_by f ≡ branch (Ok c) = e ∙ ap branch encoded.1 in
    let size : size_of (branch (Ok c)) ≤ width f.kind =
    rw (← writes) (filling_fits f.kind f.meaning f.reloc.addend (f.start + f.reloc.offset) (drop f.reloc.offset f.bytes)) in
    record {
      encoding = c;
      there = stands c (result_of f) f.reloc.offset
          (code_reads f c writes size (code_written c f.reloc.offset f.bytes (omega (arith, size, f.is.inside)) (small c encoded.1)));
      means = means c encoded.1;
    }

pub law_of_calls : Calls
unfolding result_of written_by
law_of_calls means section start bytes before reloc after meaning is low reached =
    let f : Alone = record { means = means; section = section; start = start; bytes = bytes; before = before; reloc = reloc; after = after; kind = Call; meaning = meaning; is = is; low = low } in
    let displacement = displacement_of meaning reloc.addend (start + reloc.offset) in
    branch_field f (Bl displacement) refl reached (bl_means displacement) (bl_is_small displacement)

pub law_of_jumps : Jumps
unfolding result_of written_by
law_of_jumps means section start bytes before reloc after meaning is low reached =
    let f : Alone = record { means = means; section = section; start = start; bytes = bytes; before = before; reloc = reloc; after = after; kind = Jump; meaning = meaning; is = is; low = low } in
    let displacement = displacement_of meaning reloc.addend (start + reloc.offset) in
    branch_field f (B displacement) refl reached (b_means displacement) (b_is_small displacement)

pub law_of_cond_jumps : CondJumps
unfolding result_of written_by
law_of_cond_jumps means section start bytes before reloc after meaning is low reached old there =
    let f : Alone = record { means = means; section = section; start = start; bytes = bytes; before = before; reloc = reloc; after = after; kind = CondJump; meaning = meaning; is = is; low = low } in
    let displacement = displacement_of meaning reloc.addend (start + reloc.offset) in
    let number : little_number 2 (drop reloc.offset bytes) ≡ old = (number_reads 2 bytes reloc.offset old there).is in
    let writes : written_by f ≡ branch (encode_result (BCond (field old 8 4) displacement)) = ap (λ n. branch (encode_result (BCond (n / 2 ^ 8 % 2 ^ 4) displacement))) number in
    branch_field f (BCond (field old 8 4) displacement) writes reached (b_cond_means (field old 8 4) displacement) (b_cond_is_small (field old 8 4) displacement)
