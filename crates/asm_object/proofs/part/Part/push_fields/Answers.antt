use Rattle.std.proofs.lemmas.Result.{on_ok_weaker}
use Rattle.asm_layout.specs.Labels.{label_places}
use Rattle.asm_object.proofs.PlainLemmas.{part_of_plain}
use Rattle.asm_object.proofs.part.Part.push_fields.Goals as goal

pub returns-in-Numbers : goal.returns-in-Numbers
returns-in-Numbers c =
    on_ok_weaker c.push_plain.result (part_of_plain (label_places c.args.labels.now) c.args.width c.in-Numbers.numbers.now c.args.fields.now c.args.at c.args.self.now c.push_plain.new.bytes c.in-Numbers.ensures)
    c.push_plain.ensures
