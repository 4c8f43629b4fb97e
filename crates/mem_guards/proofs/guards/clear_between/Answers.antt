use Rattle.std.proofs.Common.{arith}
use Rattle.mem_guards.proofs.FlagLemmas.{cleared_before}
use Rattle.mem_guards.proofs.guards.clear_between.Goals as goal

pub returns : goal.returns
returns c =
    cleared_before c.args.numbers.now c.clear_whole.new.numbers c.args.from c.args.end c.bits_from.result c.requires.rises (omega arith) c.clear_whole.ensures.clear c.clear_whole.ensures.rest
    c.bits_from.ensures.bits c.bits_from.ensures.all
