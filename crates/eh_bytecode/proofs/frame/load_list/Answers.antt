use Rattle.std.proofs.Common.{◌≡◌, [], List, ℕ, length, ap, sym, ◌∙◌, arith}
use Rattle.std.proofs.lemmas.Grind.{common_steps}
use Rattle.std.proofs.lemmas.Nat.{and_le_l}
use Rattle.std.specs.Int.{bit_at}
use Rattle.thumb_core.specs.Words.{registers_of_list, load_words, loads_from}
use Rattle.eh_bytecode.proofs.Lists.{plain_word}
use Rattle.eh_bytecode.proofs.Next.{lowest_of, still_clear, listed_zero, listed_few}
use Rattle.eh_bytecode.proofs.frame.load_list.Goals as goal

pub bounds-r-k : goal.bounds-r-k
bounds-r-k g c = (lowest_of c.loop-rest.rest c.loop-rest.invariant.small c.loop-rest-test.true).within

pub returns-in-Err-clause-fault : goal.returns-in-Err-clause-fault
returns-in-Err-clause-fault g c =
    let here = (lowest_of c.loop-rest.rest c.loop-rest.invariant.small c.loop-rest-test.true).is in
    grind (arith, common_steps, here, c.in-Err.ensures)

pub overflow_add-at : goal.overflow_add-at
overflow_add-at g c = omega (arith, c.loop-rest.invariant.counted, listed_few c.args.list)

pub loop-rest-smaller : goal.loop-rest-smaller
loop-rest-smaller g c =
    let here = (lowest_of c.loop-rest.rest c.loop-rest.invariant.small c.loop-rest-test.true).is in
    omega (arith, ap length here)

pub loop-rest-preserved : goal.loop-rest-preserved
loop-rest-preserved g c =
    let low = lowest_of c.loop-rest.rest c.loop-rest.invariant.small c.loop-rest-test.true in
    let here = low.is in
    let set = low.set in
    let no_sp : bit_at c.loop-rest.rest 13 ≡ 0 = c.loop-rest.invariant.no_sp in
    record {
      small = omega (arith, and_le_l, c.loop-rest.invariant.small);
      no_sp = still_clear c.loop-rest.rest _ 13 low.within (omega arith) no_sp;
      size = grind (arith, common_steps);
      counted = omega (arith, c.loop-rest.invariant.counted, ap length here);
      to_do = grind (arith, common_steps, here, set, plain_word, c.in-Ok.ensures);
    }

pub returns-clause-bytes : goal.returns-clause-bytes
returns-clause-bytes g c =
    let none : registers_of_list c.loop-rest.rest ≡ [] = listed_zero c.loop-rest.rest c.loop-rest-test.false in
    omega (arith, ap length none, c.loop-rest.invariant.counted)

pub returns-clause-ok : goal.returns-clause-ok
returns-clause-ok g c =
    let none : registers_of_list c.loop-rest.rest ≡ [] = listed_zero c.loop-rest.rest c.loop-rest-test.false in
    sym c.loop-rest.invariant.to_do ∙ ap (λ (xs : List ℕ). load_words (g.B.Bus.memory c.args.bus.now).segments c.args.a (loads_from c.loop-rest.at xs) c.loop-rest.r) none
