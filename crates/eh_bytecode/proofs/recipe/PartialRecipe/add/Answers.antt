use Rattle.std.proofs.Common.{◌+◌, ap, sym, ◌∙◌}
use Rattle.thumb_core.specs.Words.{registers_of_list}
use Rattle.eh_codes.specs.Meaning.{effect}
use Rattle.eh_bytecode.proofs.Unwinds.{code_range, code_range_and_lr, code_low}
use Rattle.eh_bytecode.proofs.Summing.{pops_listed}
use Rattle.eh_bytecode.proofs.Lists.{mask_listed, low_listed, range_listed, range_and_lr_listed}
use Rattle.eh_bytecode.proofs.recipe.PartialRecipe.add.Goals as goal

pub returns-in-PopMask-clause-added : goal.returns-in-PopMask-clause-added
returns-in-PopMask-clause-added c = pops_listed _ c.args.code _ _ _ (ap effect c.in-PopMask.is) (mask_listed c.in-PopMask.mask) c.pop.ensures.popped

pub returns-in-PopRange-clause-added : goal.returns-in-PopRange-clause-added
returns-in-PopRange-clause-added c =
    pops_listed _ c.args.code _ _ _ (ap effect c.in-PopRange.is)
    (range_listed c.in-PopRange.last (code_range c.args.code c.in-PopRange.last c.requires.code c.in-PopRange.is) ∙ ap registers_of_list (sym c.range.ensures)) c.pop-in-PopRange.ensures.popped

pub returns-in-PopRangeAndLr-clause-added : goal.returns-in-PopRangeAndLr-clause-added
returns-in-PopRangeAndLr-clause-added c =
    pops_listed _ c.args.code _ _ _ (ap effect c.in-PopRangeAndLr.is)
    (range_and_lr_listed c.in-PopRangeAndLr.last (code_range_and_lr c.args.code c.in-PopRangeAndLr.last c.requires.code c.in-PopRangeAndLr.is) ∙ ap (λ n. registers_of_list (n + 0x4000)) (sym c.range-in-PopRangeAndLr.ensures))
    c.pop-in-PopRangeAndLr.ensures.popped

pub returns-in-PopLow-clause-added : goal.returns-in-PopLow-clause-added
returns-in-PopLow-clause-added c =
    pops_listed _ c.args.code _ _ _ (ap effect c.in-PopLow.is)
    (low_listed c.in-PopLow.mask (code_low c.args.code c.in-PopLow.mask c.requires.code c.in-PopLow.is) ∙ ap registers_of_list (sym c.from-in-PopLow.ensures)) c.pop-in-PopLow.ensures.popped
