-- One item more of an unwinding.
use Rattle.std.proofs.Common.{◌≡◌, ℕ, ◌+◌, ◌-◌, ◌≤◌, ◌<◌, Bool, ◌||◌, ◌==◌, ◌*◌, ◌/◌, ◌%◌, ◌^◌, List, [], ◌∷◌, length, drop, Some, None, arith, ◌∙◌, ap, sym, subst, length-drop}
use Rattle.std.specs.Prelude.{Result, Ok, Err}
use Rattle.eh_bus.specs.Segment.{Segment}
use Rattle.eh_codes.specs.declared.code.UnwindCode.{UnwindCode}
use Rattle.eh_codes.specs.declared.code.UnwindCode.TheVariants.{PopRange, PopRangeAndLr, PopLow}
use Rattle.eh_codes.specs.Bytes.{IsCode}
use Rattle.eh_bus.specs.declared.fault.BusFault.{BusFault}
use Rattle.thumb_core.specs.Words.{load_words, loads_from, registers_of_list}
use Rattle.eh_codes.specs.Cut.{Is, Bad, split_codes, split_codes_from}
use Rattle.eh_codes.specs.Meaning.{effect, Pops}
use Rattle.eh_codes.proofs.CutSteps.{front_within, cut_one, cut_bad, cut_nothing}
use Rattle.eh_bytecode.specs.declared.frame.UnwindEnd.{UnwindEnd}
use Rattle.eh_bytecode.specs.declared.frame.UnwindEnd.TheVariants.{BadCode, Finished}
use Rattle.eh_bytecode.specs.declared.frame.UnwindState.{UnwindState}
use Rattle.eh_bytecode.specs.declared.frame.Vrs.{Vrs}
use Rattle.eh_bytecode.proofs.Lists.{pc_popped}
use Rattle.eh_bytecode.specs.Codes.{first_code}
use Rattle.eh_bytecode.specs.Meaning.{Step, Goes, Ends, effect_step, continue_unwind, run_codes, finish_registers, begin_unwind, unwind_result, unwind_answer, pop_step}

-- a code has a byte, and no more than are left
pub front_bounds : (left : List ℕ) (code : UnwindCode) (size : ℕ) → Some (code, size) ≡ first_code left → (1 ≤ size) × (size ≤ length left)
front_bounds [] code size is = cc
front_bounds (first ∷ more) code size is = front_within first more code size (sym is)

pub on_code : (segments : List Segment) (s : UnwindState) (place : ℕ) (left : List ℕ) (code : UnwindCode) (size : ℕ) → Some (code, size) ≡ first_code left →
    run_codes segments s (split_codes_from place left) ≡ continue_unwind (λ next. run_codes segments next (split_codes_from (place + size) (drop size left))) (effect_step segments s (effect code))
on_code segments s place [] code size is = cc
on_code segments s place (first ∷ more) code size is = ap (run_codes segments s) (cut_one place first more code size (sym is))

pub on_goes : (segments : List Segment) (s next : UnwindState) (total place : ℕ) (left following : List ℕ) (code : UnwindCode) (size : ℕ) → Some (code, size) ≡ first_code left →
    effect_step segments s (effect code) ≡ Goes next → following ≡ drop size left → length left ≤ total → place ≡ total - length left →
    run_codes segments next (split_codes_from (total - length following) following) ≡ run_codes segments s (split_codes_from place left)
on_goes segments s next total place left following code size is goes e fits at =
    let bounds = front_bounds left code size is in
    let rest : length following ≡ length left - size = ap length e ∙ length-drop size left in
    let there : total - length following ≡ place + size = omega (arith, bounds.0, bounds.1) in
    sym (on_code segments s place left code size is ∙ ap (continue_unwind (λ next. run_codes segments next (split_codes_from (place + size) (drop size left)))) goes
    ∙ ap (λ l. run_codes segments next (split_codes_from (place + size) l)) (sym e) ∙ ap (λ p. run_codes segments next (split_codes_from p following)) (sym there))

pub on_ends : (segments : List Segment) (s : UnwindState) (end : Result (List ℕ) UnwindEnd) (place : ℕ) (left : List ℕ) (code : UnwindCode) (size : ℕ) → Some (code, size) ≡ first_code left →
    effect_step segments s (effect code) ≡ Ends end → run_codes segments s (split_codes_from place left) ≡ end
on_ends segments s end place left code size is ends = on_code segments s place left code size is ∙ ap (continue_unwind (λ next. run_codes segments next (split_codes_from (place + size) (drop size left)))) ends

pub on_bad : (segments : List Segment) (s : UnwindState) (place : ℕ) (left : List ℕ) → None ≡ first_code left → 0 < length left → run_codes segments s (split_codes_from place left) ≡ Err (BadCode place)
on_bad segments s place [] is some = absurd (omega arith)
on_bad segments s place (first ∷ more) is some = ap (run_codes segments s) (cut_bad place first more (sym is))

pub on_nothing : (segments : List Segment) (s : UnwindState) (place : ℕ) (left : List ℕ) → length left ≡ 0 → run_codes segments s (split_codes_from place left) ≡ Ok (finish_registers s)
on_nothing segments s place [] none = ap (run_codes segments s) (cut_nothing place)
on_nothing segments s place (first ∷ more) none = absurd (omega arith)

-- ---- the calls

pub started : (segments : List Segment) (r : List ℕ) (s : UnwindState) (codes left : List ℕ) → s ≡ begin_unwind r → left ≡ codes →
    run_codes segments s (split_codes_from (length codes - length left) left) ≡ unwind_result segments r (split_codes codes)
unfolding unwind_result
started segments r s codes left e f =
    let none : length codes - length left ≡ 0 = omega (arith, ap length f) in
    ap (λ p. run_codes segments s (split_codes_from p left)) none ∙ ap (λ l. run_codes segments s (split_codes_from 0 l)) f ∙ ap (λ s. run_codes segments s (split_codes codes)) e

pub bad_answer : (segments : List Segment) (s : UnwindState) (old : Vrs) (codes left : List ℕ) (w : Result (List ℕ) UnwindEnd) (place : ℕ) →
    run_codes segments s (split_codes_from (length codes - length left) left) ≡ w → None ≡ first_code left → 0 < length left → place ≡ length codes - length left →
    (BadCode place, old) ≡ unwind_answer old w
bad_answer segments s old codes left w place to_do none some at =
    ap (λ p. (BadCode p, old)) at ∙ ap (unwind_answer old) (sym (on_bad segments s (length codes - length left) left none some) ∙ to_do)

pub end_answer : (segments : List Segment) (s : UnwindState) (old : Vrs) (place : ℕ) (left : List ℕ) (w : Result (List ℕ) UnwindEnd) (code : UnwindCode) (size : ℕ) (end : UnwindEnd) →
    run_codes segments s (split_codes_from place left) ≡ w → Some (code, size) ≡ first_code left → effect_step segments s (effect code) ≡ Ends (Err end) → (end, old) ≡ unwind_answer old w
end_answer segments s old place left w code size end to_do is ends = ap (unwind_answer old) (sym (on_ends segments s (Err end) place left code size is ends) ∙ to_do)

pub finish_answer : (old : Vrs) (x w : Result (List ℕ) UnwindEnd) (r : List ℕ) (last s : UnwindState) → x ≡ w → x ≡ Ok (finish_registers s) → r ≡ finish_registers last → last ≡ s →
    (Finished, record { r = r }) ≡ unwind_answer old w
finish_answer old x w r last s to_do ends e f = ap (λ (r : List ℕ). unwind_answer old (Ok r)) (e ∙ ap finish_registers f) ∙ ap (unwind_answer old) (sym ends ∙ to_do)

pub as_list : (segments : List Segment) (s : UnwindState) (code : UnwindCode) (xs ys : List ℕ) (step : Step) → effect code ≡ Pops xs → xs ≡ ys →
    pop_step s ys (load_words segments s.vsp (loads_from 0 ys) s.r) ≡ step → effect_step segments s (effect code) ≡ step
as_list segments s code xs ys step is e h = ap (effect_step segments s) is ∙ ap (λ l. effect_step segments s (Pops l)) e ∙ h

pub popped_as : (s : UnwindState) (list bytes : ℕ) (r : List ℕ) (o : Result (List ℕ) BusFault) (pc : Bool) → o ≡ Ok r → bytes ≡ 4 * length (registers_of_list list) → list < 2 ^ 16 → pc ≡ (s.popped_pc || (list / 2 ^ 15 == 1)) →
    pop_step s (registers_of_list list) o ≡ Goes (record { vsp = (s.vsp + bytes) % 2 ^ 32; r = r; popped_pc = pc })
popped_as s list bytes r o pc is e small last =
    ap (pop_step s (registers_of_list list)) is
    ∙ (λ i. Goes (record { vsp = (s.vsp + sym e i) % 2 ^ 32; r = r; popped_pc = (ap (λ b. s.popped_pc || b) (pc_popped list small) ∙ sym last) i }))

pub code_range : (code : UnwindCode) (last : ℕ) → IsCode code → code ≡ PopRange last → last < 8
code_range code last h is = let k : IsCode (PopRange last) = subst IsCode is h in k

pub code_range_and_lr : (code : UnwindCode) (last : ℕ) → IsCode code → code ≡ PopRangeAndLr last → last < 8
code_range_and_lr code last h is = let k : IsCode (PopRangeAndLr last) = subst IsCode is h in k

pub code_low : (code : UnwindCode) (mask : ℕ) → IsCode code → code ≡ PopLow mask → mask < 16
code_low code mask h is = let k : IsCode (PopLow mask) = subst IsCode is h in k.0

-- ---- where the codes go on, for any fold over them

pub cut_code : (place : ℕ) (left : List ℕ) (code : UnwindCode) (size : ℕ) → Some (code, size) ≡ first_code left → split_codes_from place left ≡ Is code ∷ split_codes_from (place + size) (drop size left)
cut_code place [] code size is = cc
cut_code place (first ∷ more) code size is = cut_one place first more code size (sym is)

pub cut_none : (place : ℕ) (left : List ℕ) → None ≡ first_code left → 0 < length left → split_codes_from place left ≡ Bad place ∷ []
cut_none place [] is some = absurd (omega arith)
cut_none place (first ∷ more) is some = cut_bad place first more (sym is)

pub cut_empty : (place : ℕ) (left : List ℕ) → length left ≡ 0 → split_codes_from place left ≡ []
cut_empty place [] none = cut_nothing place
cut_empty place (first ∷ more) none = absurd (omega arith)
