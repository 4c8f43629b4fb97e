use Rattle.std.proofs.Common.{ap, sym, ◌∙◌, arith}
use Rattle.cmd_input.specs.Sources.{NamedText}
use Rattle.cmd_perform.proofs.Threading.{empty, last_of_none, last_popped}
use Rattle.cmd_perform.proofs.threads.last_bytes.Goals as goal

pub returns-in-Some : goal.returns-in-Some
returns-in-Some c =
    c.into_text.ensures ∙ sym (ap (λ (file : NamedText). file.text) (last_popped c.args.files.items c.pop.new.self.items c.in-Some.file c.in-Some.ensures.items))

pub returns : goal.returns
returns c =
    let none = empty c.args.files.items (omega (arith, c.args.files.ok.0, c.in-None.ensures.cases.0)) in
    c.of_vec.ensures ∙ c.new.ensures.items ∙ sym (ap (λ (file : NamedText). file.text) (last_of_none c.args.files.items none))
