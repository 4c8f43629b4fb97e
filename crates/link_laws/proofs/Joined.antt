-- A `.word name+n` of a source is in the image the sum that it says.
use Rattle.asm_statements.specs.declared.statement.Expr.TheVariants as expr
use Rattle.link_laws.specs.JoinedLaw.{WordsAreSums}
use Rattle.link_laws.proofs.Said.{law_of_words as law_of_said_words}

pub law_of_words : WordsAreSums
law_of_words objects entry image placed one before more line front back name n few accepted made =
    let there = law_of_said_words objects entry image placed one before more line front back (expr.Of name n) few accepted made in
    record { part = there.part; begins = there.begins; meaning = there.says.meaning; means = there.says.means; word = there.says.says }
