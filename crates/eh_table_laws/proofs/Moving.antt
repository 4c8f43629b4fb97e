-- Single codes, cut from their bytes and run.
use Rattle.std.proofs.Common.{◌≡◌, ℕ, ◌+◌, ◌-◌, ◌*◌, ◌/◌, ◌%◌, ◌<◌, true, false, List, [], ◌∷◌, ◌++◌, Some, None, refl, ap, sym, ◌∙◌, arith, append-nil, inl, inr}
use Rattle.std.specs.Prelude.{nat_lt, slice_index, slice_set, Result, Ok}
use Rattle.std.proofs.lemmas.Bool.Decides.{nat_tests}
use Rattle.std.proofs.lemmas.List.Elements.{All-nil, All-cons}
use Rattle.eh_codes.specs.declared.code.UnwindCode.{UnwindCode}
use Rattle.eh_codes.specs.declared.code.UnwindCode.TheVariants.{Raise, Lower, Refuse, PopMask, Restore, PopRange, PopRangeAndLr, Finish, PopLow, RaiseLong}
use Rattle.eh_codes.specs.Bytes.{code_bytes, shortest_uleb128, IsCode, HasBytes}
use Rattle.eh_codes.specs.Cut.{Is, Bad, split_codes, split_codes_from, split_codes_after}
use Rattle.eh_codes.specs.Table.{code_front}
use Rattle.eh_codes.proofs.CutLaws.{law_of_codes}
use Rattle.eh_codes.proofs.Table.{refuse, restore_none, finish}
use Rattle.eh_bytecode.specs.Meaning.{unwind_result}
use Rattle.eh_bytecode.specs.declared.frame.UnwindEnd.{UnwindEnd}
use Rattle.eh_table_laws.specs.CodeBytes.{registers_with_sp, Raises, Lowers, LeastLongRaise, LongRaises, Takes, KeptTakes, Finishes, SinglePops, PopsWithLink}

-- ---- cutting

-- a code that has bytes, in front of "finish"
written : (code : UnwindCode) (bytes : List ℕ) → IsCode code → HasBytes code → code_bytes code ≡ bytes → split_codes (bytes ++ 0xB0 ∷ []) ≡ Is code ∷ Is Finish ∷ []
unfolding split_codes_from
written code bytes is has e =
    ap (λ (l : List ℕ). split_codes_from 0 (l ++ 0xB0 ∷ [])) (sym e)
    ∙ ap (split_codes_from 0) (sym (append-nil (code_bytes code ++ 0xB0 ∷ [])))
    ∙ law_of_codes (code ∷ Finish ∷ []) 0 [] (All-cons IsCode code (Finish ∷ []) is (All-cons IsCode Finish [] tt (All-nil IsCode)))
    (All-cons HasBytes code (Finish ∷ []) has (All-cons HasBytes Finish [] tt (All-nil HasBytes)))

begins : (first size : ℕ) (more : List ℕ) (code : UnwindCode) → code_front first more ≡ Some (code, size) → split_codes (first ∷ more) ≡ Is code ∷ split_codes_after (size - 1) 1 more
unfolding split_codes_from
begins first size more code e = rw e refl

begins_none : (first : ℕ) (more : List ℕ) → code_front first more ≡ None → split_codes (first ∷ more) ≡ Bad 0 ∷ []
unfolding split_codes_from
begins_none first more e = rw e refl

-- ---- codes that move the stack pointer

pub raises : Raises
unfolding unwind_result
raises segments r x h = ap (unwind_result segments r) (written (Raise x) (x ∷ []) h h (ap (λ (n : ℕ). n ∷ []) (let e : 0 + x ≡ x = omega arith in e)))

pub lowers : Lowers
unfolding unwind_result
lowers segments r x h = ap (unwind_result segments r) (written (Lower x) ((64 + x) ∷ []) h h refl)

small : (n : ℕ) → n < 128 → shortest_uleb128 n ≡ n ∷ []
small n h = let e : nat_lt n 128 ≡ true = grind (arith, nat_tests) in rw e refl

large : (low high : ℕ) → low < 128 → 0 < high → shortest_uleb128 (low + 128 * high) ≡ (128 + low) ∷ high ∷ []
large low high l h =
    let e : nat_lt (low + 128 * high) 128 ≡ false = grind (arith, nat_tests) in
    let f : (low + 128 * high) % 128 ≡ low = omega arith in
    let g : (low + 128 * high) / 128 ≡ high = omega arith in
    rw (e, f, g) refl

pub long_raises : LongRaises
unfolding unwind_result
long_raises segments r low high l h some = (
  ap (unwind_result segments r) (written (RaiseLong low) (0xB2 ∷ low ∷ []) (omega arith) (omega arith) (ap (λ (b : List ℕ). 0xB2 ∷ b) (small low l))),
  ap (unwind_result segments r) (written (RaiseLong (low + 128 * high)) (0xB2 ∷ (128 + low) ∷ high ∷ []) (omega arith) (omega arith) (ap (λ (b : List ℕ). 0xB2 ∷ b) (large low high l some))),
)

pub least_long_raise : LeastLongRaise
unfolding unwind_result
least_long_raise segments r = ap (unwind_result segments r) (written (RaiseLong 0) (0xB2 ∷ 0 ∷ []) (omega arith) (omega arith) refl)

pub takes : Takes
unfolding unwind_result
takes segments r n h sp pc = ap (unwind_result segments r) (written (Restore n) ((0x90 + n) ∷ []) (h, sp, pc) h refl)

pub kept_takes : KeptTakes
unfolding unwind_result
kept_takes segments r more = (
  ap (unwind_result segments r) (begins_none 0x9D more (restore_none 0x9D more (omega arith) (omega arith) (inl refl))),
  ap (unwind_result segments r) (begins_none 0x9F more (restore_none 0x9F more (omega arith) (omega arith) (inr refl))),
)

pub finishes : Finishes
unfolding unwind_result split_codes_from
finishes segments r more = (
  refl,
  ap (unwind_result segments r) (begins 0xB0 1 more Finish (finish 0xB0 more refl)),
  ap (unwind_result segments r) (begins 0x80 2 (0 ∷ more) Refuse (refuse 0x80 more refl)),
)

-- ---- codes that pop

whole : (n : ℕ) → n < 4294967296 → n % 4294967296 ≡ n
whole n h = omega arith

pub single_pops : SinglePops
unfolding unwind_result
single_pops segments r word h e = (
  ap (unwind_result segments r) (written (PopRange 0) (0xA0 ∷ []) (omega arith) (omega arith) refl) ∙ rw e (result 4),
  ap (unwind_result segments r) (written (PopMask 1) (0x80 ∷ 1 ∷ []) ((omega arith), (λ h. absurd (omega arith)), refl) (omega arith) refl) ∙ rw e (result 4),
  ap (unwind_result segments r) (written (PopLow 1) (0xB1 ∷ 1 ∷ []) ((omega arith), (λ h. absurd (omega arith))) (omega arith) refl) ∙ rw e (result 0),
)
  where
    result : (k : ℕ) → ◌≡◌ {A = Result (List ℕ) UnwindEnd} (Ok (registers_with_sp (slice_set r k (word % 4294967296)) ((slice_index r 13 + 4) % 4294967296))) (Ok (registers_with_sp (slice_set r k word) ((slice_index r 13 + 4) % 4294967296)))
    result k = ap (λ (w : ℕ). Ok (registers_with_sp (slice_set r k w) ((slice_index r 13 + 4) % 4294967296))) (whole word h)

pub pops_with_link : PopsWithLink
unfolding unwind_result
pops_with_link segments r word link h g e f = (
  ap (unwind_result segments r) (written (PopRangeAndLr 0) (0xA8 ∷ []) (omega arith) (omega arith) refl) ∙ rw (e, f) result,
  ap (unwind_result segments r) (written (PopMask 0x401) (0x84 ∷ 1 ∷ []) ((omega arith), (λ h. absurd (omega arith)), refl) (omega arith) refl) ∙ rw (e, f) result,
)
  where
    result : ◌≡◌ {A = Result (List ℕ) UnwindEnd} (Ok (registers_with_sp (slice_set (slice_set r 4 (word % 4294967296)) 14 (link % 4294967296)) ((slice_index r 13 + 8) % 4294967296)))
        (Ok (registers_with_sp (slice_set (slice_set r 4 word) 14 link) ((slice_index r 13 + 8) % 4294967296)))
    result = ap (λ (w : ℕ). Ok (registers_with_sp (slice_set (slice_set r 4 w) 14 (link % 4294967296)) ((slice_index r 13 + 8) % 4294967296))) (whole word h)
        ∙ ap (λ (w : ℕ). Ok (registers_with_sp (slice_set (slice_set r 4 word) 14 w) ((slice_index r 13 + 8) % 4294967296))) (whole link g)
