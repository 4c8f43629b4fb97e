use Rattle.std.proofs.Common.{rules, ◌≡◌, ◌∙◌, ℕ, subst, refl, true, Ok, Err}
use Rattle.eh_phase.specs.declared.walk.Cursor.{Cursor}
use Rattle.eh_phase.specs.Phases.{phase1}
use Rattle.eh_phase.specs.Frames.{frames_of, outer}
use Rattle.eh_phase.specs.Calls.{meeting, stack_of, cursor_of}
use Rattle.eh_phase.specs.Passed.{verdict_or_codes}
use Rattle.eh_phase.proofs.Steps.{Searches, lower}
use Rattle.eh_phase.proofs.Passing.{passed_said, passed_ended, passed_on}
use Rattle.eh_phase.proofs.phase1.search.Goals as goal

pub returns-in-Err : goal.returns-in-Err
returns-in-Err g c =
    let m = meeting c.args.t.now.index c.args.t.now.types.now (g.B.Bus.memory c.args.bus.now).segments c.args.what.now in
    let stack = stack_of (g.B.Bus.memory c.args.bus.now) in
    let first : Cursor = record { vrs = c.args.from.now; site = c.args.site; innermost = true } in
    let s : Searches m c.args.t.now.index stack c.args.limit (phase1 m (frames_of c.args.t.now.index stack c.args.limit c.args.site c.args.from.now.r)) first = search rules in
    let k : verdict_or_codes m c.args.t.now.index c.args.site ≡ Err c.in-Err.said = search rules in
    c.verdict_result.ensures ∙ passed_said m c.args.t.now.index stack c.args.limit _ first _ s k

pub returns-in-Some : goal.returns-in-Some
returns-in-Some g c =
    let m = meeting c.args.t.now.index c.args.t.now.types.now (g.B.Bus.memory c.args.bus.now).segments c.args.what.now in
    let stack = stack_of (g.B.Bus.memory c.args.bus.now) in
    let k = subst (λ (s : ℕ). verdict_or_codes m c.args.t.now.index s ≡ Ok c.loop-cause.here.codes) c.loop-cause.invariant.1 c.loop-cause.invariant.2 in
    let o : cursor_of (outer stack c.args.limit c.loop-cause.cursor.innermost c.loop-cause.here.codes c.loop-cause.cursor.vrs.r) ≡ Err c.in-Some.cause = c.in-Some.ensures in
    passed_ended m _ stack _ _ c.loop-cause.cursor _ _ c.loop-cause.invariant.0 k o

pub loop-cause-smaller-then-here-cursor : goal.loop-cause-smaller-then-here-cursor
loop-cause-smaller-then-here-cursor g c =
    let stack = stack_of (g.B.Bus.memory c.args.bus.now) in
    let o : cursor_of (outer stack c.args.limit c.loop-cause.cursor.innermost c.loop-cause.here.codes c.loop-cause.cursor.vrs.r) ≡ Ok c.go_to_caller.new.cursor = c.in_default.ensures in
    lower stack _ _ c.loop-cause.cursor c.go_to_caller.new.cursor o

pub loop-cause-preserved-then-here-cursor : goal.loop-cause-preserved-then-here-cursor
loop-cause-preserved-then-here-cursor g c =
    let m = meeting c.args.t.now.index c.args.t.now.types.now (g.B.Bus.memory c.args.bus.now).segments c.args.what.now in
    let stack = stack_of (g.B.Bus.memory c.args.bus.now) in
    let k = subst (λ (s : ℕ). verdict_or_codes m c.args.t.now.index s ≡ Ok c.loop-cause.here.codes) c.loop-cause.invariant.1 c.loop-cause.invariant.2 in
    let o : cursor_of (outer stack c.args.limit c.loop-cause.cursor.innermost c.loop-cause.here.codes c.loop-cause.cursor.vrs.r) ≡ Ok c.go_to_caller.new.cursor = c.in_default.ensures in
    (passed_on m _ stack _ _ c.loop-cause.cursor c.go_to_caller.new.cursor _ c.loop-cause.invariant.0 k o, search rules, c.loop-cause.invariant.2)

pub loop-cause-smaller : goal.loop-cause-smaller
loop-cause-smaller g c =
    let stack = stack_of (g.B.Bus.memory c.args.bus.now) in
    let o : cursor_of (outer stack c.args.limit c.loop-cause.cursor.innermost c.loop-cause.here.codes c.loop-cause.cursor.vrs.r) ≡ Ok c.go_to_caller.new.cursor = c.in_default.ensures in
    lower stack _ _ c.loop-cause.cursor c.go_to_caller.new.cursor o

pub loop-cause-preserved : goal.loop-cause-preserved
loop-cause-preserved g c =
    let m = meeting c.args.t.now.index c.args.t.now.types.now (g.B.Bus.memory c.args.bus.now).segments c.args.what.now in
    let stack = stack_of (g.B.Bus.memory c.args.bus.now) in
    let k = subst (λ (s : ℕ). verdict_or_codes m c.args.t.now.index s ≡ Ok c.loop-cause.here.codes) c.loop-cause.invariant.1 c.loop-cause.invariant.2 in
    let o : cursor_of (outer stack c.args.limit c.loop-cause.cursor.innermost c.loop-cause.here.codes c.loop-cause.cursor.vrs.r) ≡ Ok c.go_to_caller.new.cursor = c.in_default.ensures in
    let n : verdict_or_codes m c.args.t.now.index c.go_to_caller.new.cursor.site ≡ Ok c.in-Ok-codes_or_verdict.codes = search rules in
    (passed_on m _ stack _ _ c.loop-cause.cursor c.go_to_caller.new.cursor _ c.loop-cause.invariant.0 k o, refl, n)

pub returns-in-Err-codes_or_verdict : goal.returns-in-Err-codes_or_verdict
returns-in-Err-codes_or_verdict g c =
    let m = meeting c.args.t.now.index c.args.t.now.types.now (g.B.Bus.memory c.args.bus.now).segments c.args.what.now in
    let stack = stack_of (g.B.Bus.memory c.args.bus.now) in
    let k = subst (λ (s : ℕ). verdict_or_codes m c.args.t.now.index s ≡ Ok c.loop-cause.here.codes) c.loop-cause.invariant.1 c.loop-cause.invariant.2 in
    let o : cursor_of (outer stack c.args.limit c.loop-cause.cursor.innermost c.loop-cause.here.codes c.loop-cause.cursor.vrs.r) ≡ Ok c.go_to_caller.new.cursor = c.in_default.ensures in
    let s = passed_on m c.args.t.now.index stack c.args.limit _ c.loop-cause.cursor c.go_to_caller.new.cursor _ c.loop-cause.invariant.0 k o in
    let n : verdict_or_codes m c.args.t.now.index c.go_to_caller.new.cursor.site ≡ Err c.in-Err-codes_or_verdict.said = search rules in
    c.verdict_result-in-Err-codes_or_verdict.ensures ∙ passed_said m c.args.t.now.index stack c.args.limit _ c.go_to_caller.new.cursor _ s n
