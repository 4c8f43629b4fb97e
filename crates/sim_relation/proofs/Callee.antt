-- The registers r4 to r11 as a call records them.
use Rattle.std.proofs.Common.{◌≡◌, ℕ, ◌+◌, ◌<◌, List, drop, slice_index, ap, ◌∙◌, arith, length}
use Rattle.std.proofs.lemmas.List.{get_or-take, get_or-drop, length-take-le, length-drop}
use Rattle.sim_machines.specs.Activations.{callee}

pub callee_at : (r : List ℕ) (j : ℕ) → j < 8 → slice_index (callee r) j ≡ slice_index r (j + 4)
callee_at r j h = get_or-take 8 (drop 4 r) j 0 h ∙ get_or-drop 4 r j 0 ∙ ap (λ n. slice_index r n) (let n : 4 + j ≡ j + 4 = omega arith in n)

pub callee_count : (r : List ℕ) → length r ≡ 15 → length (callee r) ≡ 8
callee_count r count = let left = length-drop 4 r in length-take-le 8 (drop 4 r) (omega (arith, left, count))
