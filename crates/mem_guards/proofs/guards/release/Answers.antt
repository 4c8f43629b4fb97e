use Rattle.std.proofs.Common.{◌≡◌, ◌-◌, ◌*◌, ◌/◌, arith}
use Rattle.mem_guards.proofs.FlagLemmas.{released_on, released_nowhere, stack_release}
use Rattle.mem_guards.specs.declared.guards.TheConstants.{HOME_SIZE, HOME_WORDS}
use Rattle.eh_bus.specs.declared.map.TheConstants.{STACK_START}
use Rattle.mem_guards.proofs.guards.release.Goals as goal

pub returns-then-last-first-clause-kept : goal.returns-then-last-first-clause-kept
returns-then-last-first-clause-kept c = λ high.
    stack_release c.args.a c.args.low ((c.args.low - STACK_START) / HOME_SIZE) c.words_below-end.result high c.args.numbers.now c.args.numbers.now (omega arith) c.requires.flags.flags.whole (omega arith)
    c.words_below-end.ensures.below c.words_below-end.ensures.rest (released_nowhere _ _ _ (omega arith))

pub returns-then-last-lt-HOMES-clause-kept : goal.returns-then-last-lt-HOMES-clause-kept
returns-then-last-lt-HOMES-clause-kept c = λ high.
    stack_release c.args.a c.args.low ((c.args.low - STACK_START) / HOME_SIZE) c.words_below-end.result high c.args.numbers.now c.release_in.new.numbers (omega arith) c.requires.flags.flags.whole (omega arith)
    c.words_below-end.ensures.below c.words_below-end.ensures.rest
    (released_on c.args.numbers.now c.release_homes_below.new.numbers c.release_in.new.numbers _ _ _ (omega arith) (omega arith) c.release_homes_below.ensures.released c.release_in.ensures.released)

pub returns-else-last-lt-HOMES-clause-kept : goal.returns-else-last-lt-HOMES-clause-kept
returns-else-last-lt-HOMES-clause-kept c = λ high.
    let e : HOME_WORDS * (c.words_below-end.result / HOME_WORDS) ≡ c.words_below-end.result = omega arith in
    stack_release c.args.a c.args.low ((c.args.low - STACK_START) / HOME_SIZE) c.words_below-end.result high c.args.numbers.now c.release_homes_below.new.numbers (omega arith) c.requires.flags.flags.whole (omega arith)
    c.words_below-end.ensures.below c.words_below-end.ensures.rest (rw e at c.release_homes_below.ensures.released)
