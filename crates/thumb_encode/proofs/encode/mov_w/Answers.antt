use Rattle.std.proofs.Common.{◌≡◌, ℕ, ◌+◌, ◌*◌, ◌/◌, ◌%◌, true, arith, refl}
use Rattle.thumb_encode.specs.Codes.{is_general}
use Rattle.thumb_encode.proofs.LateForms.{mov_w_code, general}
use Rattle.thumb_encode.proofs.encode.mov_w.Goals as goal

pub returns-clause-ok : goal.returns-clause-ok
returns-clause-ok c =
    let shown : is_general c.args.d ≡ true = grind arith in
    rw c.sixteen.ensures (mov_w_code c.args.d c.args.imm _ _ (general c.args.d shown) (omega arith) refl refl)
