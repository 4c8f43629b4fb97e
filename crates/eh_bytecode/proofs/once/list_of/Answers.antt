use Rattle.std.proofs.Common.{◌+◌, ap, sym, ◌∙◌}
use Rattle.thumb_core.specs.Words.{registers_of_list}
use Rattle.eh_codes.specs.Meaning.{effect}
use Rattle.eh_bytecode.proofs.Unwinds.{code_range, code_range_and_lr, code_low}
use Rattle.eh_bytecode.proofs.Lists.{mask_listed, low_listed, range_listed, range_and_lr_listed}
use Rattle.eh_bytecode.proofs.Fresh.{first_list, first_empty}
use Rattle.eh_bytecode.proofs.once.list_of.Goals as goal

pub returns-in-PopMask : goal.returns-in-PopMask
returns-in-PopMask c = first_list c.args.code _ _ (ap effect c.in-PopMask.is) (mask_listed c.in-PopMask.mask)

pub returns-in-PopRange : goal.returns-in-PopRange
returns-in-PopRange c =
    first_list c.args.code _ _ (ap effect c.in-PopRange.is)
    (range_listed c.in-PopRange.last (code_range c.args.code c.in-PopRange.last c.requires c.in-PopRange.is) ∙ ap registers_of_list (sym c.range.ensures))

pub returns-in-PopRangeAndLr : goal.returns-in-PopRangeAndLr
returns-in-PopRangeAndLr c =
    first_list c.args.code _ _ (ap effect c.in-PopRangeAndLr.is)
    (range_and_lr_listed c.in-PopRangeAndLr.last (code_range_and_lr c.args.code c.in-PopRangeAndLr.last c.requires c.in-PopRangeAndLr.is) ∙ ap (λ n. registers_of_list (n + 0x4000)) (sym c.range-in-PopRangeAndLr.ensures))

pub returns-in-PopLow : goal.returns-in-PopLow
returns-in-PopLow c =
    first_list c.args.code _ _ (ap effect c.in-PopLow.is)
    (low_listed c.in-PopLow.mask (code_low c.args.code c.in-PopLow.mask c.requires c.in-PopLow.is) ∙ ap registers_of_list (sym c.from.ensures))

pub returns-in-Raise : goal.returns-in-Raise
returns-in-Raise c = first_empty c.args.code c.in-Raise.is
