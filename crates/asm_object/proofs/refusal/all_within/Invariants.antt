use Rattle.std.proofs.Common.{◌≡◌, Some, drop}
use Rattle.std.specs.List.{list_all}
use Rattle.asm_object.specs.Refusals.{fits_field}
use Rattle.asm_object.proofs.refusal.all_within.Given as goal

abbrev pub invariant-loop-n : goal.invariant-loop-n
invariant-loop-n l = list_all (λ n. fits_field l.limit (Some n)) (drop l.n-index l.numbers) ≡ list_all (λ n. fits_field l.limit (Some n)) l.numbers
