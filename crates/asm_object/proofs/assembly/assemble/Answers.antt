use Rattle.std.proofs.Common.{◌≡◌, None, refl, sym, ◌∙◌}
use Rattle.std.proofs.lemmas.Result.{MatchResult-weaker}
use Rattle.asm_layout.specs.Faults.{first_of_all}
use Rattle.asm_layout.specs.Functions.{entries_of}
use Rattle.asm_layout.specs.Labels.{label_places}
use Rattle.asm_object.specs.Objects.{faults_of, refusals_of}
use Rattle.asm_object.proofs.ObjectLemmas.{first_fault, refused_by, taken}
use Rattle.asm_object.proofs.assembly.assemble.Goals as goal

pub returns : goal.returns
returns c =
    let stmts = c.args.stmts.now in
    let entries = c.as_slice-entries.result.now in
    let functions = c.in_ok-functions in
    let layout = c.in_ok-layout.layout in
    let told = c.in_ok-layout.ensures in
    let known : entries ≡ entries_of stmts = c.as_slice-entries.ensures ∙ functions.ensures.entries in
    let first : first_of_all c.first_of-first.result (refusals_of (label_places layout.labels) layout.placed.items) ≡ first_of_all None (faults_of stmts) =
    first_fault stmts entries layout.labels layout.placed.items functions.functions.first layout.duplicate layout.too_large c.first_of.result c.first_of-first.result _
    known told.labels told.placed functions.ensures.first told.duplicate told.too_large c.first_of.ensures c.first_of-first.ensures refl in
    MatchResult-weaker c.assemble_placed.result c.assemble_placed.ensures
    (λ object all. taken stmts entries layout.labels layout.placed.items layout.last _ _ layout.bss object (sym first ∙ all.0) known told.labels told.placed told.last refl refl told.bss all.1)
    (λ fault why. refused_by stmts fault _ first why)
