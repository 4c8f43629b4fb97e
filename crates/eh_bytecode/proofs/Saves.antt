-- Codes that pop r4 to r4+n and the link register, and then finish.
use Rattle.std.proofs.Common.{◌≡◌, ℕ, ◌%◌, ◌<◌, ◌≤◌, ◌^◌, List, ◌∷◌, arith, ◌∙◌, ap, sym}
use Rattle.std.specs.Prelude.{Ok, Err}
use Rattle.eh_bus.specs.Segment.{Segment}
use Rattle.eh_codes.specs.declared.code.UnwindCode.{UnwindCode}
use Rattle.eh_codes.specs.declared.code.UnwindCode.TheVariants.{PopRangeAndLr, Finish}
use Rattle.eh_codes.specs.Cut.{Item, Is, split_codes, split_codes_from}
use Rattle.eh_codes.specs.Meaning.{effect}
use Rattle.eh_codes.proofs.Table.{range_and_lr, finish}
use Rattle.eh_bytecode.specs.declared.frame.UnwindEnd.{UnwindEnd}
use Rattle.eh_bytecode.specs.declared.frame.UnwindState.{UnwindState}
use Rattle.eh_bytecode.specs.declared.frame.Vrs.{Vrs}
use Rattle.eh_bytecode.specs.Meaning.{Goes, Ends, effect_step, continue_unwind, run_codes, finish_registers, begin_unwind, unwind_result, unwind_answer}
use Rattle.eh_bytecode.specs.declared.frame.UnwindEnd.TheVariants.{Finished}
use Rattle.eh_bytecode.proofs.Unwinds.{cut_code}

-- a first code that stops, and one that goes on to the code that finishes or finishes itself
pub saves_stop : (segments : List Segment) (r : List ℕ) (s : UnwindState) (code : UnwindCode) (end : UnwindEnd) (old : Vrs) (more : List Item) → s ≡ begin_unwind r
    → effect_step segments s (effect code) ≡ Ends (Err end) → (end, old) ≡ unwind_answer old (unwind_result segments r (Is code ∷ more))
unfolding unwind_result
saves_stop segments r s code end old more e stops =
    sym (ap (λ s. unwind_answer old (run_codes segments s (Is code ∷ more))) (sym e) ∙ ap (λ step. unwind_answer old (continue_unwind (λ next. run_codes segments next more) step)) stops)

pub saves_go : (segments : List Segment) (r new : List ℕ) (s next : UnwindState) (code : UnwindCode) (old : Vrs) (more : List Item) → s ≡ begin_unwind r
    → effect_step segments s (effect code) ≡ Goes next → new ≡ finish_registers next → (Finished, record { r = new }) ≡ unwind_answer old (unwind_result segments r (Is code ∷ Is Finish ∷ more))
unfolding unwind_result
saves_go segments r new s next code old more e goes is =
    ap (λ (r : List ℕ). unwind_answer old (Ok r)) is
    ∙ sym (ap (λ s. unwind_answer old (run_codes segments s (Is code ∷ Is Finish ∷ more))) (sym e) ∙ ap (λ step. unwind_answer old (continue_unwind (λ next. run_codes segments next (Is Finish ∷ more)) step)) goes)

pub saves_end : (segments : List Segment) (r new : List ℕ) (s next : UnwindState) (code : UnwindCode) (old : Vrs) (more : List Item) → s ≡ begin_unwind r
    → effect_step segments s (effect code) ≡ Ends (Ok (finish_registers next)) → new ≡ finish_registers next → (Finished, record { r = new }) ≡ unwind_answer old (unwind_result segments r (Is code ∷ more))
unfolding unwind_result
saves_end segments r new s next code old more e ends is =
    ap (λ (r : List ℕ). unwind_answer old (Ok r)) is
    ∙ sym (ap (λ s. unwind_answer old (run_codes segments s (Is code ∷ more))) (sym e) ∙ ap (λ step. unwind_answer old (continue_unwind (λ next. run_codes segments next more) step)) ends)

-- the codes of bytes that begin so
pub saves_cut : (codes rest more : List ℕ) (first last : ℕ) → codes ≡ first ∷ rest → rest ≡ 0xB0 ∷ more → 0xA8 ≤ first → first < 0xB0 → last ≡ first % 8
    → split_codes codes ≡ Is (PopRangeAndLr last) ∷ Is Finish ∷ split_codes_from 2 more
saves_cut codes rest more first last e f low high is =
    ap split_codes (e ∙ ap (λ l. first ∷ l) f)
    ∙ cut_code 0 (first ∷ 0xB0 ∷ more) (PopRangeAndLr (first % 2 ^ 3)) 1 (sym (range_and_lr first (0xB0 ∷ more) low high))
    ∙ ap (λ l. Is (PopRangeAndLr (first % 2 ^ 3)) ∷ l) (cut_code 1 (0xB0 ∷ more) Finish 1 (sym (finish 0xB0 more (omega arith))))
    ∙ ap (λ n. Is (PopRangeAndLr n) ∷ Is Finish ∷ split_codes_from 2 more) (let k : first % 2 ^ 3 ≡ last = sym is in k)

pub finish_cut : (codes rest : List ℕ) → codes ≡ 0xB0 ∷ rest → split_codes codes ≡ Is Finish ∷ split_codes_from 1 rest
finish_cut codes rest e = ap split_codes e ∙ cut_code 0 (0xB0 ∷ rest) Finish 1 (sym (finish 0xB0 rest (omega arith)))
