use Rattle.cmd_input.proofs.Asking.{asked_of}
use Rattle.cmd_perform.proofs.Doing.{usage_does}
use Rattle.cmd_answers.specs.Words.{texts}
use Rattle.cmd_answers.specs.Files.{file_state}
use Rattle.cmd_perform.proofs.perform.Goals as goal

pub returns-in-None : goal.returns-in-None
returns-in-None g c = rw (← c.in-None.ensures) (usage_does _ _ _ _ _ _ _ _ c.answer_text.ensures)

pub returns-in-Some-Build : goal.returns-in-Some-Build
returns-in-Some-Build g c =
    let command = rw c.in-Some-Build.field-0-is at c.in-Some-Build.ensures in
    rw (← command) (c.build.ensures (g.I.Source.left c.args.input.now) (g.I.Source.faults c.args.input.now))

pub returns-in-Some-Check : goal.returns-in-Some-Check
returns-in-Some-Check g c =
    let command = rw c.in-Some-Check.field-0-is at c.in-Some-Check.ensures in
    rw (← command) (c.check_file.ensures (g.I.Source.left c.args.input.now) (g.I.Source.faults c.args.input.now))

pub returns-in-Some-CheckSources : goal.returns-in-Some-CheckSources
returns-in-Some-CheckSources g c =
    let command = rw c.in-Some-CheckSources.field-0-is at c.in-Some-CheckSources.ensures in
    rw (← command) (c.check_sources.ensures (g.I.Source.left c.args.input.now) (g.I.Source.faults c.args.input.now))

pub count_program-requires : goal.count_program-requires
count_program-requires g c =
    let command = rw c.in-Some-Generate.field-0-is at c.in-Some-Generate.ensures in
    let asked = asked_of (texts c.args.words.now) _ _ command in
    record { some = asked.some; most = asked.most }

pub returns-in-Some-Generate : goal.returns-in-Some-Generate
returns-in-Some-Generate g c =
    let command = rw c.in-Some-Generate.field-0-is at c.in-Some-Generate.ensures in
    rw (← command) (c.count_program.ensures (file_state (g.F.Files.held c.args.files.now) (g.F.Files.faults c.args.files.now) (g.F.Files.asked c.args.files.now) g.F.Files.with_name) (g.I.Source.left c.args.input.now) (g.I.Source.faults c.args.input.now))
