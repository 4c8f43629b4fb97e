use Rattle.std.proofs.Common.{ℕ, ◌^◌, ◌<◌, slice_index_or, inl, inr, subst, sym, arith}
use Rattle.std.proofs.lemmas.Bool.{cases_eq}
use Rattle.std.proofs.lemmas.List.{get_or_default}
use Rattle.gnu_machine.proofs.laws.are_words.Goals as goal

pub loop-f-preserved : goal.loop-f-preserved
loop-f-preserved c k d h = elim (cases_eq k c.loop-f.f-index) [
  | inl e ↦ subst (λ (n : ℕ). (slice_index_or c.args.filters.now n d).1 < 2 ^ 32) (sym e)
      (subst (λ (f : ℕ × ℕ). f.1 < 2 ^ 32) (get_or_default c.args.filters.now c.loop-f.f-index (0, 0) d c.loop-f-test.true) c.is_word.ensures)
  | inr other ↦ c.loop-f.invariant k d (omega (arith, h, other))
]
