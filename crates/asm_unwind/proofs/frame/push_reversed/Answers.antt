use Rattle.std.proofs.Common.{◌<◌, length, length-take, arith}
use Rattle.std.proofs.lemmas.List.Elements.{All-take}
use Rattle.asm_unwind.specs.Codes.{IsWritable}
use Rattle.asm_unwind.proofs.Reversed.{last_first, none_left}
use Rattle.asm_unwind.proofs.frame.push_reversed.Goals as goal

pub loop-rest-preserved : goal.loop-rest-preserved
loop-rest-preserved c =
    let some : 0 < length c.loop-rest.rest.now = omega arith in
    record {
      pushed = last_first _ _ _ _ _ _ some c.in_ok-push_kept.ensures c.loop-rest.invariant.pushed;
      within = rw length-take (omega arith);
      writable = All-take IsWritable _ _ c.loop-rest.invariant.writable;
    }

pub returns : goal.returns
returns c = none_left _ _ _ _ c.in_default.len_below c.loop-rest.invariant.pushed
