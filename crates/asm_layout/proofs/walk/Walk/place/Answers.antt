use Rattle.asm_layout.proofs.PlacingLaws.{no_pool}
use Rattle.asm_layout.proofs.walk.Walk.place.Goals as goal

pub returns-in_ok-placed-in_default : goal.returns-in_ok-placed-in_default
returns-in_ok-placed-in_default c =
    let other = no_pool c.args.entries.now c.args.self.now c.args.stmt.now.kind c.in_default.not-Pool in
    record {
      placed = rw (c.in_ok-placed-in_default.ensures, c.cursor_place-at.ensures, c.in_ok-word-in_default.ensures.word, c.function_puts-puts.ensures, other.1);
      walk = rw (c.pass.ensures, c.in_ok-word-in_default.ensures.walk) other.0;
    }
