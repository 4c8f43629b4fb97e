-- The codes of a function lead from after its prologue to the stack pointer in front of it, with what it stored.
use Rattle.std.proofs.Common.{◌≡◌, ℕ, ◌+◌, ◌-◌, ◌^◌, ◌<◌, ◌≤◌, true, false, List, [], ◌∷◌, ◌++◌, None, length, drop, ap, sym, ◌∙◌, refl, arith, append-nil, All}
use Rattle.std.specs.Prelude.{◌||◌, sum_by, slice_index}
use Rattle.std.specs.List.{list_any}
use Rattle.std.proofs.lemmas.List.Sums.{sum_by-cons, take_while-cons}
use Rattle.eh_bus.specs.Segment.{Segment}
use Rattle.eh_codes.specs.declared.code.UnwindCode.{UnwindCode}
use Rattle.eh_codes.specs.declared.code.UnwindCode.TheVariants.{Restore}
use Rattle.asm_unwind.specs.declared.directive.UnwindDirective.{UnwindDirective}
use Rattle.asm_unwind.specs.declared.directive.UnwindDirective.TheVariants.{FnStart, FnEnd, Save, Pad, SetFp, CantUnwind, PersonalityIndex, HandlerData}
use Rattle.asm_unwind.specs.declared.seen.DirectiveState.{DirectiveState}
use Rattle.asm_unwind.specs.Refusals.{is_frame_pointer, refusal_of, with_next}
use Rattle.asm_unwind.specs.Codes.{with_pads_if, directive_codes, save_codes, lower_codes, pad_codes, before_frame_pointer, from_frame_pointer, coded_directives, reversed_codes, codes_of}
use Rattle.asm_unwind.specs.Meaning.{InAll, code_fall, registers_in, saved_registers}
use Rattle.asm_unwind.proofs.FunctionLaw.{pad_in_all}
use Rattle.asm_unwind.proofs.KeptLemmas.{clear}
use Rattle.asm_unwind.proofs.Reversed.{reversed_codes-cons}
use Rattle.asm_unwind.proofs.Laws.{law_of_offsets, law_of_saves}
use Rattle.eh_bytecode.specs.Meaning.{run_codes}
use Rattle.eh_bytecode.specs.RecipeLaw.{Small}
use Rattle.eh_unwind_laws.specs.PrologueLaw.{frame_bytes, words_from, stores, FramePointerHolds}
use Rattle.eh_unwind_laws.proofs.Accepted.{Accepted, offset_whole, save_plain}
use Rattle.eh_unwind_laws.proofs.Steps.{at, Reaches, reaches_append, reaches_to, reaches_by, reaches_more, rising, falling, Leads, moving}
use Rattle.eh_unwind_laws.proofs.Loading.{taken, taken-append, Holds, plain_list, in_front, pops_list}

-- the codes of one directive, which is no frame pointer
nothing_done : (segments : List Segment) (old : List ℕ) (v : ℕ) (r : List ℕ) → Reaches segments (at v r) [] (at (v + 0) r)
nothing_done segments old v r after = ap (λ v. run_codes segments (at v r) after) (let e : v ≡ v + 0 = omega arith in e)

directive_after : (segments : List Segment) (old : List ℕ) (v : ℕ) (r : List ℕ) (seen : DirectiveState) (d : UnwindDirective) → Small old → is_frame_pointer d ≡ false → refusal_of seen d ≡ None →
    v + frame_bytes d < 2 ^ 32 → All (Holds segments old) (words_from v (saved_registers d)) →
    Reaches segments (at v r) (directive_codes d) (at (v + frame_bytes d) (taken old (words_from v (saved_registers d)) r))
directive_after segments old v r seen (Save registers) small other fine room holds =
    let plain = save_plain seen registers (clear seen (Save registers) fine).2 in
    pops_list segments old v r (registers_in registers) (save_codes registers) small (law_of_saves registers) (plain_list registers plain.0 plain.1) room holds
directive_after segments old v r seen (Pad size) small other fine room holds =
    let law : InAll (pad_codes size) size 0 [] = pad_in_all size (clear seen (Pad size) fine).0 in
    rising segments v (v + size) r (pad_codes size) law.lower law.pop law.keep (ap (λ n. v + n) law.raise) room
directive_after segments old v r seen (SetFp register offset) small other fine room holds = cc
directive_after segments old v r seen FnStart small other fine room holds = nothing_done segments old v r
directive_after segments old v r seen FnEnd small other fine room holds = nothing_done segments old v r
directive_after segments old v r seen CantUnwind small other fine room holds = nothing_done segments old v r
directive_after segments old v r seen (PersonalityIndex index) small other fine room holds = nothing_done segments old v r
directive_after segments old v r seen HandlerData small other fine room holds = nothing_done segments old v r

-- the codes of a list are those of the ones after its first directive and then that one's
before_more : (d : UnwindDirective) (xs : List UnwindDirective) → is_frame_pointer d ≡ false → before_frame_pointer (d ∷ xs) ≡ d ∷ before_frame_pointer xs
before_more d xs other = rw (take_while-cons, other) refl

codes_of-cons : (d : UnwindDirective) (xs : List UnwindDirective) → is_frame_pointer d ≡ false → codes_of (d ∷ xs) ≡ codes_of xs ++ directive_codes d
unfolding codes_of
codes_of-cons d xs other =
    let after : from_frame_pointer (d ∷ xs) ≡ from_frame_pointer xs = ap (λ (l : List UnwindDirective). drop (length l) (d ∷ xs)) (before_more d xs other) in
    let all : coded_directives (d ∷ xs) ≡ d ∷ coded_directives xs =
    ap (λ l. l ++ with_pads_if false (from_frame_pointer (d ∷ xs))) (before_more d xs other) ∙ ap (λ (l : List UnwindDirective). d ∷ before_frame_pointer xs ++ with_pads_if false l) after in
    ap reversed_codes all ∙ reversed_codes-cons d (coded_directives xs)

-- at a frame pointer they are its own, after those of the directives after it without their pads
codes_of-frame_pointer : (register offset : ℕ) (xs : List UnwindDirective) →
    codes_of (SetFp register offset ∷ xs) ≡ reversed_codes (with_pads_if false xs) ++ (Restore register ∷ lower_codes offset)
unfolding codes_of
codes_of-frame_pointer register offset xs = reversed_codes-cons (SetFp register offset) (with_pads_if false xs)

-- what stands after a frame pointer leads to some pointer, and stores nothing
record After (segments : List Segment) (v : ℕ) (r : List ℕ) (more : List UnwindDirective) : Type 0 where
  codes : Leads segments v r (reversed_codes (with_pads_if false more))
  none : (sp : ℕ) → stores sp more ≡ []

leads_by : (segments : List Segment) (v : ℕ) (r : List ℕ) (xs ys : List UnwindCode) → xs ≡ ys → Leads segments v r ys → Leads segments v r xs
leads_by segments v r xs ys e h = record { to = h.to; reaches = reaches_by segments (at v r) (at h.to r) xs ys e h.reaches }

no_codes : (d : UnwindDirective) (xs : List UnwindDirective) → directive_codes d ≡ [] → reversed_codes (d ∷ xs) ≡ reversed_codes xs
no_codes d xs none = reversed_codes-cons d xs ∙ ap (λ l. reversed_codes xs ++ l) none ∙ append-nil (reversed_codes xs)

nothing_more : (segments : List Segment) (v : ℕ) (r : List ℕ) (d : UnwindDirective) (more : List UnwindDirective) → directive_codes d ≡ [] → saved_registers d ≡ [] → with_pads_if false (d ∷ more) ≡ d ∷ with_pads_if false more →
    After segments v r more → After segments v r (d ∷ more)
nothing_more segments v r d more codes saves keeps before = record {
  codes = leads_by segments v r (reversed_codes (with_pads_if false (d ∷ more))) (reversed_codes (with_pads_if false more)) (ap reversed_codes keeps ∙ no_codes d (with_pads_if false more) codes) before.codes;
  none = λ sp. λ i. before.none (sp - frame_bytes d) i ++ words_from (sp - frame_bytes d) (saves i);
}

restore_leads : (segments : List Segment) (v : ℕ) (r : List ℕ) (register : ℕ) (codes : List UnwindCode) → Leads segments (slice_index r register) r codes → Leads segments v r (Restore register ∷ codes)
restore_leads segments v r register codes on = record {
  to = on.to;
  reaches = reaches_more segments (at v r) (at (slice_index r register) r) (at on.to r) (Restore register) codes refl on.reaches;
}

leads_append : (segments : List Segment) (v : ℕ) (r : List ℕ) (xs ys : List UnwindCode) (first : Leads segments v r xs) → Leads segments first.to r ys → Leads segments v r (xs ++ ys)
leads_append segments v r xs ys first second = record { to = second.to; reaches = reaches_append segments (at v r) (at first.to r) (at second.to r) xs ys first.reaches second.reaches }

nothing_after : (segments : List Segment) (v : ℕ) (r : List ℕ) (more : List UnwindDirective) (seen : DirectiveState) → seen.frame_pointer ≡ true → Accepted seen more → After segments v r more
nothing_after segments v r [] seen after fine = record { codes = record { to = v; reaches = λ after. refl }; none = λ sp. refl }
nothing_after segments v r (Save registers ∷ more) seen after fine =
    let none = (save_plain seen registers (clear seen (Save registers) fine.0).2).2 in
    cc
nothing_after segments v r (Pad size ∷ more) seen after fine =
    let before = nothing_after segments v r more seen after fine.1 in
    record { codes = before.codes; none = λ sp. ap (λ l. l ++ []) (before.none (sp - size)) }
nothing_after segments v r (SetFp register offset ∷ more) seen after fine =
    let law : InAll (lower_codes offset) 0 offset [] = law_of_offsets offset (offset_whole register offset (clear seen (SetFp register offset) fine.0).0) in
    let before = nothing_after segments v r more (with_next seen (SetFp register offset)) refl fine.1 in
    record {
      codes = leads_by segments v r (reversed_codes (SetFp register offset ∷ with_pads_if false more)) (reversed_codes (with_pads_if false more) ++ (Restore register ∷ lower_codes offset)) (reversed_codes-cons (SetFp register offset) (with_pads_if false more))
          (leads_append segments v r (reversed_codes (with_pads_if false more)) (Restore register ∷ lower_codes offset) before.codes
          (restore_leads segments before.codes.to r register (lower_codes offset) (moving segments (slice_index r register) r (lower_codes offset) law.pop law.keep)));
      none = λ sp. ap (λ l. l ++ []) (before.none (sp - 0));
    }
nothing_after segments v r (FnStart ∷ more) seen after fine = nothing_more segments v r FnStart more refl refl refl (nothing_after segments v r more (with_next seen FnStart) after fine.1)
nothing_after segments v r (FnEnd ∷ more) seen after fine = nothing_more segments v r FnEnd more refl refl refl (nothing_after segments v r more (with_next seen FnEnd) after fine.1)
nothing_after segments v r (CantUnwind ∷ more) seen after fine = nothing_more segments v r CantUnwind more refl refl refl (nothing_after segments v r more (with_next seen CantUnwind) after fine.1)
nothing_after segments v r (PersonalityIndex index ∷ more) seen after fine =
    nothing_more segments v r (PersonalityIndex index) more refl refl refl (nothing_after segments v r more (with_next seen (PersonalityIndex index)) after fine.1)
nothing_after segments v r (HandlerData ∷ more) seen after fine = nothing_more segments v r HandlerData more refl refl refl (nothing_after segments v r more (with_next seen HandlerData) after fine.1)

-- at a frame pointer the pointer is found again, wherever it was
frame_pointer_after : (segments : List Segment) (old r : List ℕ) (sp start register offset : ℕ) (more : List UnwindDirective) (seen : DirectiveState) → Small r → Accepted seen (SetFp register offset ∷ more) →
    slice_index r register ≡ sp + offset → Reaches segments (at start r) (codes_of (SetFp register offset ∷ more)) (at sp (taken old (stores sp (SetFp register offset ∷ more)) r))
frame_pointer_after segments old r sp start register offset more seen small fine holds =
    let after : List UnwindCode = reversed_codes (with_pads_if false more) in
    let nothing = nothing_after segments start r more (with_next seen (SetFp register offset)) refl fine.1 in
    let law : InAll (lower_codes offset) 0 offset [] = law_of_offsets offset (offset_whole register offset (clear seen (SetFp register offset) fine.0).0) in
    let low : sum_by code_fall (lower_codes offset) ≡ offset = law.lower in
    let none : stores sp (SetFp register offset ∷ more) ≡ [] = ap (λ l. l ++ []) (nothing.none (sp - 0)) in
    reaches_by segments (at start r) (at sp (taken old (stores sp (SetFp register offset ∷ more)) r)) (codes_of (SetFp register offset ∷ more)) (after ++ (Restore register ∷ lower_codes offset)) (codes_of-frame_pointer register offset more)
    (reaches_to segments (at start r) (at sp r) (at sp (taken old (stores sp (SetFp register offset ∷ more)) r)) (after ++ (Restore register ∷ lower_codes offset)) (ap (λ l. at sp (taken old l r)) (sym none))
    (reaches_append segments (at start r) (at nothing.codes.to r) (at sp r) after (Restore register ∷ lower_codes offset) nothing.codes.reaches
    (reaches_more segments (at nothing.codes.to r) (at (slice_index r register) r) (at sp r) (Restore register) (lower_codes offset) refl
    (falling segments (slice_index r register) sp r (lower_codes offset) law.raise law.pop law.keep (omega (arith, low, holds)) (small register)))))

-- a directive more in front
directive_more : (segments : List Segment) (old r : List ℕ) (sp start : ℕ) (seen : DirectiveState) (d : UnwindDirective) (more : List UnwindDirective) → Small old → is_frame_pointer d ≡ false → refusal_of seen d ≡ None →
    sp < 2 ^ 32 → sum_by frame_bytes (d ∷ more) ≤ sp → All (Holds segments old) (stores sp (d ∷ more)) → (list_any is_frame_pointer (d ∷ more) ≡ false → start ≡ sp - sum_by frame_bytes (d ∷ more)) →
    (sum_by frame_bytes more ≤ sp - frame_bytes d → All (Holds segments old) (stores (sp - frame_bytes d) more) → (list_any is_frame_pointer more ≡ false → start ≡ sp - frame_bytes d - sum_by frame_bytes more) →
    Reaches segments (at start r) (codes_of more) (at (sp - frame_bytes d) (taken old (stores (sp - frame_bytes d) more) r))) →
    Reaches segments (at start r) (codes_of (d ∷ more)) (at sp (taken old (stores sp (d ∷ more)) r))
directive_more segments old r sp start seen d more small other fine below room holds begins before =
    let all : sum_by frame_bytes (d ∷ more) ≡ frame_bytes d + sum_by frame_bytes more = sum_by-cons frame_bytes d more in
    let low : ℕ = sp - frame_bytes d in
    let first : List (ℕ × ℕ) = stores low more in
    let own : List (ℕ × ℕ) = words_from low (saved_registers d) in
    let parts = in_front (Holds segments old) first own holds in
    let begins_before = λ (none : list_any is_frame_pointer more ≡ false).
    (let from : start ≡ sp - sum_by frame_bytes (d ∷ more) = begins (ap (λ b. b || list_any is_frame_pointer more) other ∙ none) in
    let e : start ≡ sp - frame_bytes d - sum_by frame_bytes more = omega (arith, all, from) in e) in
    let back : low + frame_bytes d ≡ sp = omega (arith, all) in
    reaches_by segments (at start r) (at sp (taken old (first ++ own) r)) (codes_of (d ∷ more)) (codes_of more ++ directive_codes d) (codes_of-cons d more other)
    (reaches_append segments (at start r) (at low (taken old first r)) (at sp (taken old (first ++ own) r)) (codes_of more) (directive_codes d) (before (omega (arith, all)) parts.0 begins_before)
    (reaches_to segments (at low (taken old first r)) (at (low + frame_bytes d) (taken old own (taken old first r))) (at sp (taken old (first ++ own) r)) (directive_codes d)
    (λ i. at (back i) (sym (taken-append old first own r) i))
    (directive_after segments old low (taken old first r) seen d small other fine (omega (arith, back)) parts.1)))

pub undone : (segments : List Segment) (old r : List ℕ) (sp start : ℕ) (seen : DirectiveState) (xs : List UnwindDirective) → Small old → Small r → Accepted seen xs → sp < 2 ^ 32 → sum_by frame_bytes xs ≤ sp →
    FramePointerHolds r sp xs → All (Holds segments old) (stores sp xs) → (list_any is_frame_pointer xs ≡ false → start ≡ sp - sum_by frame_bytes xs) →
    Reaches segments (at start r) (codes_of xs) (at sp (taken old (stores sp xs) r))
unfolding codes_of
undone segments old r sp start seen [] small own fine below room holds stand begins = λ after.
    ap (λ v. run_codes segments (at v r) after) (let from : start ≡ sp - 0 = begins refl in let e : start ≡ sp = omega arith in e)
undone segments old r sp start seen (SetFp register offset ∷ more) small own fine below room holds stand begins = frame_pointer_after segments old r sp start register offset more seen own fine holds
undone segments old r sp start seen (d ∷ more) small own fine below room holds stand begins =
    directive_more segments old r sp start seen d more small refl fine.0 below room stand begins
    (λ fits left starts. undone segments old r (sp - frame_bytes d) start (with_next seen d) more small own fine.1 (omega arith) fits holds left starts)
