use Rattle.std.proofs.Common.{◌≡◌, refl, arith, length-append}
use Rattle.std.specs.Int.{bit_at}
use Rattle.std.proofs.lemmas.Grind.{common_steps}
use Rattle.thumb_core.proofs.Popped.{pushed_lr, take_word}
use Rattle.thumb_core.proofs.lists.pushed_words.Goals as goal

pub returns-clause-count : goal.returns-clause-count
returns-clause-count c =
    let set : bit_at c.args.list 14 ≡ 1 = grind (arith, common_steps) in
    rw (pushed_lr c.args.list c.requires.list_in c.requires.low set, length-append, c.low_words-count.ensures.count) refl

pub returns-clause-words : goal.returns-clause-words
returns-clause-words c =
    let set : bit_at c.args.list 14 ≡ 1 = grind (arith, common_steps) in
    rw (pushed_lr c.args.list c.requires.list_in c.requires.low set) (take_word _ _ _ _ 14 (omega arith) c.low_words-count.ensures.words)
