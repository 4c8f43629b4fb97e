use Rattle.std.proofs.Common.{length, drop, arith, length-append, length-drop, ap}
use Rattle.eh_bytecode.specs.Codes.{swap_word_bytes}
use Rattle.eh_bytecode.proofs.CodesLaws.{length-turned}
use Rattle.eh_bytecode.proofs.codes.Codes.len.Goals as goal

pub returns : goal.returns
returns c =
    let view = ap length c.self.view_is in
    omega (arith, view, length-turned c.self.inside.further.now, length-append (drop c.self.inside.given c.self.inside.word) (swap_word_bytes c.self.inside.further.now), length-drop c.self.inside.given c.self.inside.word)
