use Rattle.std.proofs.Common.{◌+◌, ◌-◌, length, take, drop, arith}
use Rattle.std.proofs.lemmas.List.{take_rest, drop_min, get_or_default}
use Rattle.mem_buses.specs.Pages.{FillsBytes}
use Rattle.mem_buses.proofs.PageBuild.{filled_more}
use Rattle.mem_buses.proofs.pages.Pages.fill.Goals as goal

pub pages-preserved : goal.pages-preserved
pages-preserved c =
    let given = c.args.given.now in
    let run : FillsBytes c.pages.self c.claim_run.new.self (c.args.start + c.pages.done) c.min-run.result (take (length given - c.min.result) (drop c.min.result given)) c.args.owner = c.in_ok-claim_run.ensures in
    let filled = rw (take_rest, c.min.ensures, drop_min) at run in
    record { within = omega arith; filled = filled_more c.args.self.now c.pages.self c.claim_run.new.self c.args.start c.pages.done c.min-run.result given c.args.owner (c.pages.invariant).filled filled }

pub returns-clause-bytes : goal.returns-clause-bytes
returns-clause-bytes c = λ k d h. rw (get_or_default c.args.given.now k d 0 h) (omega (arith, c.type_inv.given k))

pub returns-in_err-claim_run-clause-bytes : goal.returns-in_err-claim_run-clause-bytes
returns-in_err-claim_run-clause-bytes c = λ k d h. rw (get_or_default c.args.given.now k d 0 h) (omega (arith, c.type_inv.given k))
