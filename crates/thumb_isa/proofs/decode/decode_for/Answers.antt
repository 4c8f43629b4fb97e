use Rattle.std.proofs.Common.{◌≡◌, sym, subst, ◌∙◌, arith}
use Rattle.thumb_isa.specs.declared.profile.Profile.TheVariants.{Two}
use Rattle.thumb_isa.specs.Range.{IsOfSize, size_of}
use Rattle.thumb_isa.specs.Rows.{late_decode_result, decode_result_for}
use Rattle.thumb_isa.proofs.BothProfiles.{added, alone_for, sized_for}
use Rattle.thumb_isa.proofs.decode.decode_for.Goals as goal

pub returns-in-Two-clause-size : goal.returns-in-Two-clause-size
returns-in-Two-clause-size c =
    let same : c.decode_late.result ≡ late_decode_result c.args.first c.args.second =
    c.decode_late.ensures.row ∙ sym (added c.args.first c.args.second (sym c.in-Undefined.ensures.row)) in
    subst (IsOfSize (size_of c.args.first)) (sym same) (sized_for Two c.args.first c.args.second (omega arith))

pub returns-in-Two-clause-alone : goal.returns-in-Two-clause-alone
returns-in-Two-clause-alone c = λ below other.
    let same : c.decode_late.result ≡ late_decode_result c.args.first c.args.second =
    c.decode_late.ensures.row ∙ sym (added c.args.first c.args.second (sym c.in-Undefined.ensures.row)) in
    subst (λ p. c.decode_late.result ≡ decode_result_for p c.args.first other) (sym c.in-Two.is)
    (same ∙ alone_for Two c.args.first c.args.second other below)
