-- What the codes of a function without a frame pointer do in all.
use Rattle.std.proofs.Common.{◌≡◌, ◌≢◌, ℕ, ◌+◌, ◌%◌, Bool, true, false, List, [], ◌∷◌, ◌++◌, length, drop, ap, ◌∙◌, refl, arith, append-nil}
use Rattle.std.specs.Prelude.{◌||◌, ◌==◌, not, sum_by, flat_map, reverse, nat_lt}
use Rattle.std.specs.List.{list_any, AllPass}
use Rattle.std.proofs.lemmas.Bool.{eqb-true, eqb-false}
use Rattle.std.proofs.lemmas.Grind.{flat_map-append}
use Rattle.std.proofs.lemmas.List.{reverse-append, drop_all}
use Rattle.std.proofs.lemmas.List.Elements.{All-head, All-tail}
use Rattle.std.proofs.lemmas.List.Sums.{sum_by-cons, take_while-cons}
use Rattle.asm_unwind.specs.declared.directive.UnwindDirective.{UnwindDirective}
use Rattle.asm_unwind.specs.declared.directive.UnwindDirective.TheVariants.{FnStart, FnEnd, Save, Pad, SetFp, CantUnwind, PersonalityIndex, HandlerData}
use Rattle.asm_unwind.specs.declared.directive.TheConstants.{MOST_PAD}
use Rattle.asm_unwind.specs.Refusals.{is_frame_pointer, is_bad_pad}
use Rattle.asm_unwind.specs.Codes.{pad_codes, with_pads_if, directive_codes, before_frame_pointer, from_frame_pointer, coded_directives, reversed_codes, codes_of}
use Rattle.asm_unwind.specs.Meaning.{InAll, FunctionsUndo, pad_size, saved_registers}
use Rattle.asm_unwind.proofs.InAllLemmas.{in_all_none, in_all-append}
use Rattle.asm_unwind.proofs.Reversed.{reversed_codes-cons}
use Rattle.asm_unwind.proofs.KeptLemmas.{or_no}
use Rattle.asm_unwind.proofs.Laws.{law_of_pads, law_of_saves}

not_true : (b : Bool) → not b ≡ true → b ≡ false
not_true true h = cc
not_true false h = refl

pub not_false : (b : Bool) → not b ≡ false → b ≡ true
not_false true h = refl
not_false false h = cc

-- a list without a frame pointer is all in front of the first one
all_before : (xs : List UnwindDirective) → list_any is_frame_pointer xs ≡ false → before_frame_pointer xs ≡ xs
all_before [] none = refl
all_before (d ∷ xs) none =
    let none_here : is_frame_pointer d ≡ false = (or_no (is_frame_pointer d) (list_any is_frame_pointer xs) none).0 in
    let none_after : list_any is_frame_pointer xs ≡ false = (or_no (is_frame_pointer d) (list_any is_frame_pointer xs) none).1 in
    rw (take_while-cons, none_here, all_before xs none_after) refl

all_written : (xs : List UnwindDirective) → list_any is_frame_pointer xs ≡ false → coded_directives xs ≡ xs
all_written xs none =
    let after : from_frame_pointer xs ≡ [] = ap (λ (l : List UnwindDirective). drop (length l) xs) (all_before xs none) ∙ drop_all (length xs) xs (omega arith) in
    ap (λ l. l ++ with_pads_if false (from_frame_pointer xs)) (all_before xs none) ∙ ap (λ l. xs ++ with_pads_if false l) after ∙ append-nil xs

-- the codes of a pad that isn't refused
pub pad_in_all : (size : ℕ) → is_bad_pad (Pad size) ≡ false → InAll (pad_codes size) size 0 []
pad_in_all size good =
    let parts = or_no (size == 0 || nat_lt MOST_PAD size) (not (size % 4 == 0)) good in
    let some : size ≢ 0 = eqb-false size 0 (or_no (size == 0) (nat_lt MOST_PAD size) parts.0).0 in
    let whole : size % 4 ≡ 0 = eqb-true (size % 4) 0 (not_false (size % 4 == 0) parts.1) in
    law_of_pads size (omega arith) whole

-- the codes of one directive
one_directive : (d : UnwindDirective) → is_frame_pointer d ≡ false → not (is_bad_pad d) ≡ true → InAll (directive_codes d) (pad_size d) 0 (saved_registers d)
one_directive (Save registers) none fine = law_of_saves registers
one_directive (Pad size) none fine = pad_in_all size (not_true (is_bad_pad (Pad size)) fine)
one_directive (SetFp register offset) none fine = cc
one_directive FnStart none fine = in_all_none
one_directive FnEnd none fine = in_all_none
one_directive CantUnwind none fine = in_all_none
one_directive (PersonalityIndex index) none fine = in_all_none
one_directive HandlerData none fine = in_all_none

all_directives : (xs : List UnwindDirective) → list_any is_frame_pointer xs ≡ false → AllPass (λ d. not (is_bad_pad d)) xs →
    InAll (reversed_codes xs) (sum_by pad_size xs) 0 (flat_map saved_registers (reverse xs))
all_directives [] none fine = in_all_none
all_directives (d ∷ xs) none fine =
    let none_here : is_frame_pointer d ≡ false = (or_no (is_frame_pointer d) (list_any is_frame_pointer xs) none).0 in
    let none_after : list_any is_frame_pointer xs ≡ false = (or_no (is_frame_pointer d) (list_any is_frame_pointer xs) none).1 in
    let P : UnwindDirective → Type 0 = λ d. not (is_bad_pad d) ≡ true in
    let here : InAll (directive_codes d) (pad_size d) 0 (saved_registers d) = one_directive d none_here (All-head P d xs fine) in
    let after : InAll (reversed_codes xs) (sum_by pad_size xs) 0 (flat_map saved_registers (reverse xs)) = all_directives xs none_after (All-tail P d xs fine) in
    let turned : reverse (d ∷ xs) ≡ reverse xs ++ d ∷ [] = reverse-append (d ∷ []) xs in
    let saved : flat_map saved_registers (reverse (d ∷ xs)) ≡ flat_map saved_registers (reverse xs) ++ saved_registers d =
    ap (flat_map saved_registers) turned ∙ flat_map-append saved_registers (reverse xs) (d ∷ []) ∙ ap (λ l. flat_map saved_registers (reverse xs) ++ l) (append-nil (saved_registers d)) in
    let sizes : sum_by pad_size xs + pad_size d ≡ sum_by pad_size (d ∷ xs) = omega (arith, sum_by-cons pad_size d xs) in
    rw (reversed_codes-cons d xs, saved, ← sizes) (in_all-append (reversed_codes xs) (directive_codes d) (sum_by pad_size xs) 0 (pad_size d) 0 (flat_map saved_registers (reverse xs)) (saved_registers d) after here)

pub law_of_functions : FunctionsUndo
unfolding codes_of
law_of_functions directives none fine = rw (all_written directives none) (all_directives directives none fine)
