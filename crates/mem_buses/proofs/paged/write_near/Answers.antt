use Rattle.std.proofs.Common.{◌∙◌, length, arith}
use Rattle.mem_buses.specs.Pages.{IsSpan}
use Rattle.mem_buses.proofs.PageLaws.{near_word, near_stored}
use Rattle.mem_buses.proofs.paged.write_near.Goals as goal

pub store32-requires : goal.store32-requires
store32-requires c =
    let stand = c.loop-word.invariant.stand in
    let near : IsSpan c.loop-word.pages.places c.args.parts.now c.args.near.now = rw c.loop-word.invariant.places c.requires.near in
    let can = near_word c.loop-word.pages c.args.parts.now c.args.near.now c.args.a (length c.args.words.now) c.loop-word.word-index c.requires.aligned stand.sound stand.owned near c.requires.within c.loop-word-test.true in
    rw c.loop-word.invariant.at can.room

pub loop-word-preserved : goal.loop-word-preserved
loop-word-preserved c =
    let near : IsSpan c.loop-word.pages.places c.args.parts.now c.args.near.now = rw c.loop-word.invariant.places c.requires.near in
    let more =
    near_stored c.loop-word.pages c.store32.new.self c.args.parts.now c.args.near.now c.args.a c.loop-word.at c.loop-word.word-index c.args.words.now c.requires.aligned (omega (arith, c.requires.high)) c.loop-word.invariant.stand near c.requires.within
    c.loop-word-test.true c.loop-word.invariant.at c.store32.ensures in
    record {
      stand = more.0;
      places = rw c.store32.ensures c.loop-word.invariant.places;
      at = omega (arith, c.loop-word.invariant.at);
      run = more.1 ∙ c.loop-word.invariant.run;
    }
