use Rattle.std.proofs.Common.{◌≡◌, [], Some, refl, sym, ◌∙◌, arith}
use Rattle.eh_bus.specs.Memory.{guard_hit}
use Rattle.thread_memory.proofs.Runs.{same_outside, stops_at, goes_at}
use Rattle.thread_memory.proofs.bus.run_hit.Goals as goal

pub returns-then-not-is_stack_word-clause-none : goal.returns-then-not-is_stack_word-clause-none
returns-then-not-is_stack_word-clause-none c = λ ss x.
    sym (c.loop-word.invariant.guarded ss x) ∙ same_outside c.args.guards.now ss c.loop-word.at _ c.requires x (c.is_stack_word.ensures.outside (cc)) ∙ c.loop-word.invariant.free ss x

pub returns-in-Some-clause-some : goal.returns-in-Some-clause-some
returns-in-Some-clause-some c = λ ss x.
    let e : guard_hit c.args.guards.now c.loop-word.at 4 ≡ Some c.in-Some.g = cc in
    let w = c.is_stack_word.ensures.word (cc) in
    sym (c.loop-word.invariant.guarded ss x)
    ∙ stops_at c.args.guards.now ss c.loop-word.at c.loop-word._word-index c.in-Some.g c.args.words.now (omega arith) x w.0 w.1.0 w.1.1 e

pub loop-word-preserved : goal.loop-word-preserved
loop-word-preserved c =
    let w = c.is_stack_word.ensures.word (cc) in
    record {
      guarded = λ ss x.
          sym (goes_at c.args.guards.now ss c.loop-word.at c.loop-word._word-index c.args.words.now (omega arith) x w.0 w.1.0 w.1.1 (cc))
          ∙ c.loop-word.invariant.guarded ss x;
      free = λ ss x. sym (goes_at [] ss c.loop-word.at c.loop-word._word-index c.args.words.now (omega arith) x w.0 w.1.0 w.1.1 refl) ∙ c.loop-word.invariant.free ss x;
    }
