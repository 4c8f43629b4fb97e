-- How subobjects are named.
use Rattle.std.proofs.Common.{◌≡◌, ℕ, ◌+◌, ◌%◌, ◌^◌, List, [], ◌∷◌, refl, arith, ◌∙◌, ap, Bool, true, false, Option, Some, None, zero-add}
use Rattle.std.specs.Prelude.{not, ◌&&◌, if◌then◌else◌}
use Rattle.std.specs.List.{fold, sum_by}
use Rattle.std.specs.Int.{cast_unsigned, w32}
use Rattle.std.proofs.lemmas.List.Sums.{fold-append, sum_by-cons}
use Rattle.std.proofs.Math.Nat.{mod-add-mod}
use Rattle.eh_types.specs.declared.kind.Base.{Base}
use Rattle.eh_match.specs.Paths.{at_offset}
use Rattle.eh_match.specs.Laws.{are_plain, span, PlainPathsAreNamed, VirtualPathsAreNamed}

abbrev rooted : Option ℕ → Base → Option ℕ
rooted root b = if b.is_virtual then Some b.ty else root

abbrev offset_by : ℕ → Base → ℕ
offset_by offset b = if b.is_virtual then 0 else at_offset offset b.offset

pub not_virtual : (b : Base) (rest : Bool) → not b.is_virtual && rest ≡ true → b.is_virtual ≡ false
not_virtual b rest e = by b.is_virtual e
  where
    by : (v : Bool) → not v && rest ≡ true → v ≡ false
    by true e = absurd (cc e)
    by false e = refl

pub rest_plain : (b : Base) (rest : Bool) → not b.is_virtual && rest ≡ true → rest ≡ true
rest_plain b rest e = by b.is_virtual e
  where
    by : (v : Bool) → not v && rest ≡ true → rest ≡ true
    by true e = absurd (cc e)
    by false e = e

root_kept : (root : Option ℕ) (steps : List Base) → are_plain steps ≡ true → fold rooted root steps ≡ root
root_kept root [] e = refl
root_kept root (b ∷ more) e =
    ap (λ v. fold rooted (if v then Some b.ty else root) more) (not_virtual b (are_plain more) e) ∙ root_kept root more (rest_plain b (are_plain more) e)

pub offsets_summed : (offset : ℕ) (steps : List Base) → are_plain steps ≡ true → fold offset_by (offset % 2 ^ 32) steps ≡ (offset + sum_by (λ b. cast_unsigned w32 b.offset) steps) % 2 ^ 32
offsets_summed offset [] e = ap (λ n. n % 2 ^ 32) (let s : offset ≡ offset + 0 = omega arith in s)
offsets_summed offset (b ∷ more) e =
    ap (λ v. fold offset_by (if v then 0 else at_offset (offset % 2 ^ 32) b.offset) more) (not_virtual b (are_plain more) e)
    ∙ ap (λ o. fold offset_by o more) (mod-add-mod offset (2 ^ 32) (cast_unsigned w32 b.offset))
    ∙ offsets_summed (offset + cast_unsigned w32 b.offset) more (rest_plain b (are_plain more) e)
    ∙ ap (λ n. n % 2 ^ 32) (let s = sum_by-cons (λ (c : Base). cast_unsigned w32 c.offset) b more in omega (arith, s))

offsets_span : (steps : List Base) → are_plain steps ≡ true → fold offset_by 0 steps ≡ span steps
offsets_span steps e = offsets_summed 0 steps e ∙ ap (λ n. n % 2 ^ 32) (zero-add (sum_by (λ (b : Base). cast_unsigned w32 b.offset) steps))

pub plain_paths_are_named : PlainPathsAreNamed
plain_paths_are_named steps e = (root_kept None steps e, offsets_span steps e)

pub virtual_paths_are_named : VirtualPathsAreNamed
virtual_paths_are_named before after step v e = (
  fold-append rooted None before (step ∷ after) ∙ ap (λ b. fold rooted (if b then Some step.ty else fold rooted None before) after) v ∙ root_kept (Some step.ty) after e,
  fold-append offset_by 0 before (step ∷ after) ∙ ap (λ b. fold offset_by (if b then 0 else at_offset (fold offset_by 0 before) step.offset) after) v ∙ offsets_span after e,
)
