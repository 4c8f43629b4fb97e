use Rattle.std.proofs.Common.{◌≡◌, ◌==◌, true, false, refl, arith}
use Rattle.std.specs.Prelude.{vec_len}
use Rattle.std.proofs.lemmas.Bool.{eqb-true, eqb-false, ne_eqb}
use Rattle.thread_schedule.proofs.Reading.{reads_bad, reads_none_at_all, reads_some}
use Rattle.thread_schedule.proofs.schedule.read_schedule.Goals as goal

pub returns-then-byte-ne-LINE_FEED-clause-refused : goal.returns-then-byte-ne-LINE_FEED-clause-refused
returns-then-byte-ne-LINE_FEED-clause-refused c =
    reads_bad c.args.text.now c.loop-at.digits.items c.loop-at.at _ (omega arith) refl (cc) (ne_eqb _ _ (λ e. absurd (omega arith))) c.loop-at.invariant

pub returns-then-is_empty-clause-refused : goal.returns-then-is_empty-clause-refused
returns-then-is_empty-clause-refused c =
    let t : (vec_len c.loop-at.digits == 0) ≡ true = cc in
    let e = eqb-true (vec_len c.loop-at.digits) 0 t in
    reads_none_at_all c.args.text.now c.loop-at.digits.items c.loop-at.at (omega arith) (omega arith) c.loop-at.invariant

pub returns-clause-read : goal.returns-clause-read
returns-clause-read c =
    let t : (vec_len c.loop-at.digits == 0) ≡ false = cc in
    let n = eqb-false (vec_len c.loop-at.digits) 0 t in
    reads_some c.args.text.now c.loop-at.digits.items c.loop-at.at (omega arith) (omega (arith, n)) c.loop-at.invariant
