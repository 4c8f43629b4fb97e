use Rattle.std.proofs.Common.{◌≡◌, true, arith}
use Rattle.thumb_encode.specs.Codes.{is_general}
use Rattle.thumb_encode.proofs.LateForms.{div_code, general}
use Rattle.thumb_encode.proofs.encode.div.Goals as goal

pub returns-clause-ok : goal.returns-clause-ok
returns-clause-ok c =
    let to : is_general c.args.d ≡ true = grind arith in
    let one : is_general c.args.n ≡ true = grind arith in
    let two : is_general c.args.m ≡ true = grind arith in
    div_code c.args.signed c.args.d c.args.n c.args.m _ _ c.from.result (general c.args.d to) (general c.args.n one) (general c.args.m two) (omega arith)
    (omega arith) (omega arith)
