use Rattle.std.proofs.Common.{◌≡◌, ◌+◌, ◌-◌, ◌/◌, ◌%◌, ◌^◌, arith}
use Rattle.mem_guards.proofs.FlagLemmas.{free_off, off_free}
use Rattle.mem_guards.specs.Flags.{flags_of}
use Rattle.eh_bus.specs.declared.map.TheConstants.{STACK_START}
use Rattle.mem_guards.proofs.guards.free_in.Goals as goal

pub returns-then-first-lt-STACK_WORDS-clause-yes : goal.returns-then-first-lt-STACK_WORDS-clause-yes
returns-then-first-lt-STACK_WORDS-clause-yes c = λ t.
    let e : (c.args.a + (2 ^ 32 - STACK_START)) % 2 ^ 32 / 4 ≡ (c.args.a - STACK_START) / 4 = omega arith in
    free_off c.args.a c.args.count (flags_of c.args.numbers.now) c.requires.aligned (omega arith) (omega arith) (rw e at (c.all_off.ensures.yes t))

pub returns-then-first-lt-STACK_WORDS-clause-no : goal.returns-then-first-lt-STACK_WORDS-clause-no
returns-then-first-lt-STACK_WORDS-clause-no c = λ t f.
    let e : (c.args.a + (2 ^ 32 - STACK_START)) % 2 ^ 32 / 4 ≡ (c.args.a - STACK_START) / 4 = omega arith in
    (rw e at (c.all_off.ensures.no t)) (off_free c.args.a c.args.count (flags_of c.args.numbers.now) c.requires.aligned f)
