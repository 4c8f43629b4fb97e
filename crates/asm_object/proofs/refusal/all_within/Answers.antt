use Rattle.std.proofs.Common.{◌≡◌, ◌<◌, ◌+◌, ◌&&◌, ◌∙◌, ℕ, ℤ, pos, Bool, List, Some, length, drop, get_or, refl, sym, ap, arith, rules}
use Rattle.std.specs.List.{list_all}
use Rattle.std.proofs.lemmas.List.{at_drop_more, drop_all}
use Rattle.std.proofs.lemmas.Int.{to_z-of_z}
use mir.Val.{SFits, to_z, of_z}
use mir.Syntax.{w64, w128}
use borrow.Author.Rules.{sfits_of}
use Rattle.asm_object.specs.Refusals.{fits_field}
use Rattle.asm_object.proofs.refusal.all_within.Goals as goal

-- a number and the rest of a list, of which a test says something
checked : (p : ℤ → Bool) (xs : List ℤ) (i : ℕ) (b : Bool) → i < length xs → b ≡ p (get_or xs i (pos 0)) → (b && list_all p (drop (i + 1) xs)) ≡ list_all p (drop i xs)
checked p xs i b h e = ap (λ x. x && list_all p (drop (i + 1) xs)) e ∙ sym (at_drop_more (list_all p) xs i (pos 0) h)

-- a number and the same one in 128 bits
widened : (limit : ℕ) (x y : ℤ) → SFits w64 x → SFits w128 y → y ≡ to_z w64 (of_z w64 x) → fits_field limit (Some (to_z w128 (of_z w128 y))) ≡ fits_field limit (Some x)
widened limit x y small large e = ap (λ n. fits_field limit (Some n)) (to_z-of_z w128 y large ∙ e ∙ to_z-of_z w64 x small)

pub loop-n-init : goal.loop-n-init
loop-n-init c = refl

pub loop-n-preserved : goal.loop-n-preserved
loop-n-preserved c =
    let small : SFits w64 (get_or c.args.numbers.now c.loop-n.n-index (pos 0)) = search rules in
    let fit = sym c.if-not-fits_field.false ∙ c.fits_field.ensures ∙ widened c.args.limit _ c.from.result small (sfits_of c.from.type_inv) c.from.ensures in
    checked (λ n. fits_field c.args.limit (Some n)) c.args.numbers.now c.loop-n.n-index _ c.loop-n-test.true fit ∙ c.loop-n.invariant

pub returns-then-not-fits_field : goal.returns-then-not-fits_field
returns-then-not-fits_field c =
    let small : SFits w64 (get_or c.args.numbers.now c.loop-n.n-index (pos 0)) = search rules in
    let fit = sym c.if-not-fits_field.true ∙ c.fits_field.ensures ∙ widened c.args.limit _ c.from.result small (sfits_of c.from.type_inv) c.from.ensures in
    checked (λ n. fits_field c.args.limit (Some n)) c.args.numbers.now c.loop-n.n-index _ c.loop-n-test.true fit ∙ c.loop-n.invariant

pub returns : goal.returns
returns c = ap (list_all (λ n. fits_field c.args.limit (Some n))) (sym (drop_all c.loop-n.n-index c.args.numbers.now (omega arith))) ∙ c.loop-n.invariant
