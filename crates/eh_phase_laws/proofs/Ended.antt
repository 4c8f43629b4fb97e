-- By which cause frames end.
use Rattle.std.proofs.Common.{◌≡◌, ℕ, ◌<◌, ◌≤◌, ◌==◌, Bool, true, false, cond, List, Option, Some, None, refl, ap, ◌∙◌, arith, inl, inr, ne_eqb, eq-eqb}
use Rattle.std.specs.Prelude.{nat_lt, slice_index, Result, Ok, Err}
use Rattle.std.proofs.lemmas.Bool.Decides.{nat_tests}
use Rattle.elf_image.specs.Image.{Image}
use Rattle.thumb_core.specs.declared.ends.Cause.{Cause}
use Rattle.thumb_core.specs.declared.ends.Cause.TheVariants.{NoHandler, CannotUnwind, LeavesCleanup}
use Rattle.eh_codes.specs.Cut.{split_codes}
use Rattle.eh_bytecode.specs.Meaning.{unwind_result}
use Rattle.eh_bytecode.specs.declared.frame.Vrs.{Vrs}
use Rattle.eh_phase.specs.declared.walk.CoveringEntry.{CoveringEntry}
use Rattle.eh_phase.specs.Frames.{Stack, MOST_FRAMES, frames_in, entry_contents_at, site_of, frames_of_entry, frame_and_outer, frame_of, frames_of_caller, outer, check_caller, caller_of, is_no_frame, is_above}
use Rattle.eh_phase.proofs.Whole.{frames_are_whole}
use Rattle.eh_phase_laws.specs.FrameEnds.{frames_from_site, IsNoFrame, IsFrame, IsWithin, FramesEnd, UncoveredEnds}

pub uncovered_ends : UncoveredEnds
uncovered_ends image stack limit innermost site r low e =
    frames_are_whole image stack limit innermost site r low
    ∙ ap (frames_of_entry (λ new. frames_in MOST_FRAMES image stack limit false (site_of new) new) stack limit innermost site r) e

-- a frame, and what its codes give
walks : (image : Image) (stack : Stack) (limit : Option ℕ) (innermost : Bool) (site : ℕ) (r : List ℕ) (c : CoveringEntry) (o : Result Vrs Cause) → stack.end ≤ 0x40000000 → entry_contents_at image site ≡ Some c
    → outer stack limit innermost c.codes r ≡ o
    → frames_from_site image stack limit innermost site r ≡ frame_and_outer (frame_of site r c) (frames_of_caller (λ new. frames_from_site image stack limit false (site_of new) new) o)
walks image stack limit innermost site r c o low e is =
    frames_are_whole image stack limit innermost site r low
    ∙ ap (frames_of_entry (λ new. frames_in MOST_FRAMES image stack limit false (site_of new) new) stack limit innermost site r) e
    ∙ ap (λ x. frame_and_outer (frame_of site r c) (frames_of_caller (λ new. frames_from_site image stack limit false (site_of new) new) x)) is

-- ---- the tests of a stack pointer

no_frame : (innermost : Bool) (end sp next : ℕ) → IsNoFrame innermost end sp next → is_no_frame end innermost sp next ≡ true
no_frame true end sp next (inl h) = grind (arith, nat_tests)
no_frame true end sp next (inr h) = grind (arith, nat_tests)
no_frame false end sp next (inl h) = grind (arith, nat_tests)
no_frame false end sp next (inr h) = grind (arith, nat_tests)

a_frame : (innermost : Bool) (end sp next : ℕ) → IsFrame innermost end sp next → is_no_frame end innermost sp next ≡ false
a_frame true end sp next h =
    let a : nat_lt next sp ≡ false = grind (arith, nat_tests, h.0) in
    let b : nat_lt end next ≡ false = grind (arith, nat_tests, h.1) in
    rw (a, b) refl
a_frame false end sp next h =
    let a : nat_lt next sp ≡ false = grind (arith, nat_tests, h.0) in
    let e : (next == sp) ≡ false = ne_eqb next sp (λ e. absurd (omega (arith, h.0))) in
    let b : nat_lt end next ≡ false = grind (arith, nat_tests, h.1) in
    rw (a, e, b) refl

within : (limit : Option ℕ) (next : ℕ) → IsWithin limit next → is_above limit next ≡ false
within None next h = refl
within (Some limit) next h = grind (arith, nat_tests)

above : (bound next : ℕ) → bound < next → is_above (Some bound) next ≡ true
above bound next h = grind (arith, nat_tests)

-- ---- the caller

outer_by : (stack : Stack) (limit : Option ℕ) (innermost : Bool) (codes r caller : List ℕ) → unwind_result stack.segments r (split_codes codes) ≡ Ok caller
    → outer stack limit innermost codes r ≡ check_caller stack.end limit innermost (slice_index r 13) (Some (record { r = caller }))
unfolding outer
outer_by stack limit innermost codes r caller e = ap (λ o. check_caller stack.end limit innermost (slice_index r 13) (caller_of o)) e

pub frames_end : FramesEnd
unfolding outer
frames_end image stack limit innermost site r c low e = record {
  refused = λ why u. walks image stack limit innermost site r c (Err CannotUnwind) low e
      (ap (λ o. check_caller stack.end limit innermost (slice_index r 13) (caller_of o)) u);
  no_frame = λ caller u n. walks image stack limit innermost site r c (Err CannotUnwind) low e
      (outer_by stack limit innermost c.codes r caller u ∙ first caller (no_frame innermost stack.end (slice_index r 13) (slice_index caller 13) n));
  leaves = λ caller bound u f is n. walks image stack limit innermost site r c (Err LeavesCleanup) low e
      (outer_by stack limit innermost c.codes r caller u
      ∙ second caller (a_frame innermost stack.end (slice_index r 13) (slice_index caller 13) f) (ap (λ o. is_above o (slice_index caller 13)) is ∙ above bound (slice_index caller 13) n));
  last = λ caller u f w p. walks image stack limit innermost site r c (Err NoHandler) low e
      (outer_by stack limit innermost c.codes r caller u
      ∙ third caller (a_frame innermost stack.end (slice_index r 13) (slice_index caller 13) f) (within limit (slice_index caller 13) w) true (eq-eqb (slice_index caller 15) 0xFFFFFFFF p));
  goes_on = λ caller u f w p. walks image stack limit innermost site r c (Ok (record { r = caller })) low e
      (outer_by stack limit innermost c.codes r caller u
      ∙ third caller (a_frame innermost stack.end (slice_index r 13) (slice_index caller 13) f) (within limit (slice_index caller 13) w) false (ne_eqb (slice_index caller 15) 0xFFFFFFFF p));
}
  where
    first : (caller : List ℕ) → is_no_frame stack.end innermost (slice_index r 13) (slice_index caller 13) ≡ true
        → check_caller stack.end limit innermost (slice_index r 13) (Some (record { r = caller })) ≡ Err CannotUnwind
    first caller h = ap (λ b. cond b (Err CannotUnwind) (cond (is_above limit (slice_index caller 13)) (Err LeavesCleanup) (cond (slice_index caller 15 == 0xFFFFFFFF) (Err NoHandler) (Ok (record { r = caller }))))) h

    second : (caller : List ℕ) → is_no_frame stack.end innermost (slice_index r 13) (slice_index caller 13) ≡ false → is_above limit (slice_index caller 13) ≡ true
        → check_caller stack.end limit innermost (slice_index r 13) (Some (record { r = caller })) ≡ Err LeavesCleanup
    second caller h k =
        ap (λ b. cond b (Err CannotUnwind) (cond (is_above limit (slice_index caller 13)) (Err LeavesCleanup) (cond (slice_index caller 15 == 0xFFFFFFFF) (Err NoHandler) (Ok (record { r = caller }))))) h
        ∙ ap (λ b. cond b (Err LeavesCleanup) (cond (slice_index caller 15 == 0xFFFFFFFF) (Err NoHandler) (Ok (record { r = caller })))) k

    third : (caller : List ℕ) → is_no_frame stack.end innermost (slice_index r 13) (slice_index caller 13) ≡ false → is_above limit (slice_index caller 13) ≡ false
        → (b : Bool) → (slice_index caller 15 == 0xFFFFFFFF) ≡ b
        → check_caller stack.end limit innermost (slice_index r 13) (Some (record { r = caller })) ≡ cond b (Err NoHandler) (Ok (record { r = caller }))
    third caller h k b i =
        ap (λ b. cond b (Err CannotUnwind) (cond (is_above limit (slice_index caller 13)) (Err LeavesCleanup) (cond (slice_index caller 15 == 0xFFFFFFFF) (Err NoHandler) (Ok (record { r = caller }))))) h
        ∙ ap (λ b. cond b (Err LeavesCleanup) (cond (slice_index caller 15 == 0xFFFFFFFF) (Err NoHandler) (Ok (record { r = caller })))) k
        ∙ ap (λ b. cond b (Err NoHandler) (Ok (record { r = caller }))) i
