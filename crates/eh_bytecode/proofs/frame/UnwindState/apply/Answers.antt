use Rattle.std.proofs.Common.{◌+◌, ap, sym, ◌∙◌}
use Rattle.thumb_core.specs.Words.{registers_of_list}
use Rattle.eh_codes.specs.Meaning.{effect}
use Rattle.eh_bytecode.proofs.Unwinds.{as_list, code_range, code_range_and_lr, code_low}
use Rattle.eh_bytecode.proofs.Lists.{mask_listed, low_listed, range_listed, range_and_lr_listed}
use Rattle.eh_bytecode.proofs.frame.UnwindState.apply.Goals as goal
use Rattle.eh_bytecode.proofs.frame.UnwindState.apply.Goals.{in-PopMask, in-PopRange, in-PopRangeAndLr, in-PopLow}

pub returns : goal.returns
returns g c = elim c.match-code.branch [
  | in-PopMask w ↦ as_list _ _ c.args.code _ _ _ (ap effect w.in-PopMask.is) (mask_listed w.in-PopMask.mask ∙ ap registers_of_list (sym w.list-is)) c.pop.ensures
  | in-PopRange w ↦
      as_list _ _ c.args.code _ _ _ (ap effect w.in-PopRange.is)
      (range_listed w.in-PopRange.last (code_range c.args.code w.in-PopRange.last c.requires w.in-PopRange.is) ∙ ap registers_of_list (sym w.range-list.ensures) ∙ ap registers_of_list (sym w.list-is)) c.pop.ensures
  | in-PopRangeAndLr w ↦
      as_list _ _ c.args.code _ _ _ (ap effect w.in-PopRangeAndLr.is)
      (range_and_lr_listed w.in-PopRangeAndLr.last (code_range_and_lr c.args.code w.in-PopRangeAndLr.last c.requires w.in-PopRangeAndLr.is) ∙ ap (λ n. registers_of_list (n + 0x4000)) (sym w.range.ensures) ∙ ap registers_of_list (sym w.list-is))
      c.pop.ensures
  | in-PopLow w ↦
      as_list _ _ c.args.code _ _ _ (ap effect w.in-PopLow.is)
      (low_listed w.in-PopLow.mask (code_low c.args.code w.in-PopLow.mask c.requires w.in-PopLow.is) ∙ ap registers_of_list (sym w.from-list.ensures) ∙ ap registers_of_list (sym w.list-is)) c.pop.ensures
]
