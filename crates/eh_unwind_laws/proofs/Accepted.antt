-- Directives of which none is refused.
use Rattle.std.proofs.Common.{◌≡◌, ◌≢◌, ℕ, arith, ◌<◌, ◌/◌, ◌%◌, ◌^◌, List, [], ◌∷◌, ◌++◌, None, false, subst, sym, ◌∙◌, refl, append_assoc, append-nil}
use Rattle.std.specs.Prelude.{◌||◌, ◌==◌, not, nat_lt, All}
use Rattle.std.proofs.lemmas.Bool.{eqb-true, eqb-false}
use Rattle.std.proofs.lemmas.List.Elements.{All-head, All-tail}
use Rattle.asm_unwind.specs.declared.directive.UnwindDirective.{UnwindDirective}
use Rattle.asm_unwind.specs.declared.directive.UnwindDirective.TheVariants.{FnStart, FnEnd, Save, Pad, SetFp, CantUnwind, PersonalityIndex, HandlerData}
use Rattle.asm_unwind.specs.declared.directive.TheConstants.{MOST_FRAME_OFFSET}
use Rattle.asm_unwind.specs.declared.seen.DirectiveState.{DirectiveState}
use Rattle.asm_unwind.specs.Refusals.{HasNarrowList, has_register, is_bad_pad, is_bad_save, directive_state_of, refusal_of, with_next}
use Rattle.asm_unwind.specs.Kept.{IsKept}
use Rattle.asm_unwind.proofs.FunctionLaw.{not_false}
use Rattle.asm_unwind.proofs.KeptLemmas.{or_no, clear, seen_more, kept_none, kept_more}
use Rattle.eh_unwind_laws.specs.PrologueLaw.{IsOfItsType, NoneRefused}

-- each directive is taken after those before it
abbrev pub Accepted : DirectiveState → List UnwindDirective → Type 0
Accepted seen [] = Unit {0}
Accepted seen (d ∷ more) = (refusal_of seen d ≡ None) × Accepted (with_next seen d) more

accepted_from : (done rest : List UnwindDirective) →
    ((before : List UnwindDirective) (next : UnwindDirective) (more : List UnwindDirective) → done ++ rest ≡ before ++ next ∷ more → refusal_of (directive_state_of before) next ≡ None) →
    Accepted (directive_state_of done) rest
accepted_from done [] h = tt
accepted_from done (d ∷ rest) h =
    let here : refusal_of (directive_state_of done) d ≡ None = h done d rest refl in
    let more : Accepted (directive_state_of (done ++ d ∷ [])) rest = accepted_from (done ++ d ∷ []) rest (λ before next more e. h before next more (sym (append_assoc done (d ∷ []) rest) ∙ e)) in
    (here, (let P : DirectiveState → Type 0 = λ seen. Accepted seen rest in subst P (seen_more done d here) more))

pub accepted : (directives : List UnwindDirective) → NoneRefused directives → Accepted (directive_state_of []) directives
accepted directives h = accepted_from [] directives h

-- what a directive that isn't refused says of its registers
pub save_plain : (seen : DirectiveState) (registers : ℕ) → is_bad_save seen (Save registers) ≡ false → (has_register registers 13 ≡ false) × (has_register registers 15 ≡ false) × (seen.frame_pointer ≡ false)
save_plain seen registers fine =
    let first = or_no ((registers == 0 || has_register registers 13) || has_register registers 15) seen.frame_pointer fine in
    let second = or_no (registers == 0 || has_register registers 13) (has_register registers 15) first.0 in
    ((or_no (registers == 0) (has_register registers 13) second.0).1, second.1, first.1)

save_narrow : (seen : DirectiveState) (registers : ℕ) → registers < 2 ^ 16 → is_bad_save seen (Save registers) ≡ false → registers < 2 ^ 15
save_narrow seen registers wide fine =
    let none : (registers / 2 ^ 15 % 2 == 1) ≡ false = (save_plain seen registers fine).1 in
    let other : registers / 2 ^ 15 % 2 ≢ 1 = eqb-false (registers / 2 ^ 15 % 2) 1 none in
    omega arith

narrow_of : (seen : DirectiveState) (d : UnwindDirective) → IsOfItsType d → refusal_of seen d ≡ None → HasNarrowList d
narrow_of seen (Save registers) wide fine = save_narrow seen registers wide (clear seen (Save registers) fine).2
narrow_of seen FnStart wide fine = tt
narrow_of seen FnEnd wide fine = tt
narrow_of seen (Pad size) wide fine = tt
narrow_of seen (SetFp register offset) wide fine = tt
narrow_of seen CantUnwind wide fine = tt
narrow_of seen (PersonalityIndex index) wide fine = tt
narrow_of seen HandlerData wide fine = tt

-- a frame keeps directives of which none is refused
kept_from : (done rest : List UnwindDirective) → IsKept done (directive_state_of done) → Accepted (directive_state_of done) rest → All IsOfItsType rest → IsKept (done ++ rest) (directive_state_of (done ++ rest))
kept_from done [] is fine narrow = let P : List UnwindDirective → Type 0 = λ l. IsKept l (directive_state_of l) in subst P (sym (append-nil done)) is
kept_from done (d ∷ rest) is fine narrow =
    let P : List UnwindDirective → Type 0 = λ l. IsKept l (directive_state_of l) in
    let Q : DirectiveState → Type 0 = λ seen. Accepted seen rest in
    let here : IsKept (done ++ d ∷ []) (directive_state_of (done ++ d ∷ [])) =
    kept_more done (done ++ d ∷ []) (directive_state_of done) (directive_state_of (done ++ d ∷ [])) d is (narrow_of (directive_state_of done) d (All-head IsOfItsType d rest narrow) fine.0) fine.0 refl (seen_more done d fine.0) in
    subst P (append_assoc done (d ∷ []) rest) (kept_from (done ++ d ∷ []) rest here (subst Q (sym (seen_more done d fine.0)) fine.1) (All-tail IsOfItsType d rest narrow))

pub kept_all : (directives : List UnwindDirective) → NoneRefused directives → All IsOfItsType directives → IsKept directives (directive_state_of directives)
kept_all directives fine narrow = kept_from [] directives kept_none (accepted directives fine) narrow

-- what a directive that isn't refused says
pub offset_whole : (register offset : ℕ) → is_bad_pad (SetFp register offset) ≡ false → offset % 4 ≡ 0
offset_whole register offset fine =
    let first = (or_no ((nat_lt MOST_FRAME_OFFSET offset || not (offset % 4 == 0)) || nat_lt register 4) (nat_lt 11 register) fine).0 in
    let second = (or_no (nat_lt MOST_FRAME_OFFSET offset || not (offset % 4 == 0)) (nat_lt register 4) first).0 in
    eqb-true (offset % 4) 0 (not_false (offset % 4 == 0) (or_no (nat_lt MOST_FRAME_OFFSET offset) (not (offset % 4 == 0)) second).1)
