use Rattle.std.proofs.Common.{rules, ◌≡◌, ℕ, subst, None, Ok, Err}
use Rattle.eh_phase.specs.declared.walk.Cursor.{Cursor}
use Rattle.eh_phase.specs.Phases.{phase2}
use Rattle.eh_phase.specs.Frames.{frames_of, outer}
use Rattle.eh_phase.specs.Calls.{stack_of, cursor_of, frame_at}
use Rattle.eh_phase.specs.Landings.{landing_in_frame}
use Rattle.eh_phase.specs.Passed.{enters_at}
use Rattle.eh_phase.proofs.Steps.{Advances, lower}
use Rattle.eh_phase.proofs.Passing.{quiet_entered, quiet_ended, quiet_on, stays_quiet}
use Rattle.eh_phase.proofs.phase2.find_landing.Goals as goal

pub returns-in-Err : goal.returns-in-Err
returns-in-Err g c =
    let stack = stack_of (g.B.Bus.memory c.args.bus.now) in
    let first : Cursor = c.args.cursor.now in
    let s : Advances c.args.goal.now c.args.next c.args.t.now.index stack (phase2 c.args.goal.now c.args.next (frames_of c.args.t.now.index stack None c.args.cursor.now.site c.args.cursor.now.vrs.r)) first = search rules in
    let k : enters_at c.args.goal.now c.args.next c.args.t.now.index (frame_at first) ≡ Err (landing_in_frame (frame_at first) c.in-Err.landing) = c.in-Err.ensures in
    quiet_entered _ _ _ stack _ first _ s k

pub loop-cause-init : goal.loop-cause-init
loop-cause-init g c =
    let stack = stack_of (g.B.Bus.memory c.args.bus.now) in
    let first : Cursor = c.args.cursor.now in
    let s : Advances c.args.goal.now c.args.next c.args.t.now.index stack (phase2 c.args.goal.now c.args.next (frames_of c.args.t.now.index stack None c.args.cursor.now.site c.args.cursor.now.vrs.r)) first = search rules in
    let k : enters_at c.args.goal.now c.args.next c.args.t.now.index (frame_at first) ≡ Ok c.in-Ok.codes = c.in-Ok.ensures in
    (s, k, λ e. stays_quiet c.args.goal.now c.args.t.now.index (frame_at first) c.in-Ok.codes (subst (λ (n : ℕ). enters_at c.args.goal.now n c.args.t.now.index (frame_at first) ≡ Ok c.in-Ok.codes) e k))

pub returns-in-Some : goal.returns-in-Some
returns-in-Some g c =
    let stack = stack_of (g.B.Bus.memory c.args.bus.now) in
    let o : cursor_of (outer stack None c.loop-cause.cursor.innermost c.loop-cause.here.codes c.loop-cause.cursor.vrs.r) ≡ Err c.in-Some.cause = c.in-Some.ensures in
    quiet_ended _ _ _ stack _ c.loop-cause.cursor _ _ c.loop-cause.invariant.0 c.loop-cause.invariant.1 o

pub loop-cause-smaller-then-cursor-goal : goal.loop-cause-smaller-then-cursor-goal
loop-cause-smaller-then-cursor-goal g c =
    let stack = stack_of (g.B.Bus.memory c.args.bus.now) in
    let o : cursor_of (outer stack None c.loop-cause.cursor.innermost c.loop-cause.here.codes c.loop-cause.cursor.vrs.r) ≡ Ok c.go_to_caller.new.cursor = c.in_default.ensures in
    lower stack _ _ c.loop-cause.cursor c.go_to_caller.new.cursor o

pub loop-cause-preserved-then-cursor-goal : goal.loop-cause-preserved-then-cursor-goal
loop-cause-preserved-then-cursor-goal g c =
    let stack = stack_of (g.B.Bus.memory c.args.bus.now) in
    let o : cursor_of (outer stack None c.loop-cause.cursor.innermost c.loop-cause.here.codes c.loop-cause.cursor.vrs.r) ≡ Ok c.go_to_caller.new.cursor = c.in_default.ensures in
    let s = quiet_on c.args.goal.now c.loop-cause.next c.args.t.now.index stack _ c.loop-cause.cursor c.go_to_caller.new.cursor _ c.loop-cause.invariant.0 c.loop-cause.invariant.1 o in
    let z : c.loop-cause.next ≡ 0 = search rules in
    let q = c.loop-cause.invariant.2 z in
    let k : enters_at c.args.goal.now 0 c.args.t.now.index (frame_at c.go_to_caller.new.cursor) ≡ Ok c.loop-cause.here.codes = q (frame_at c.go_to_caller.new.cursor) (search rules) (search rules) in
    rw z (s, k, λ e. q)

pub loop-cause-smaller : goal.loop-cause-smaller
loop-cause-smaller g c =
    let stack = stack_of (g.B.Bus.memory c.args.bus.now) in
    let o : cursor_of (outer stack None c.loop-cause.cursor.innermost c.loop-cause.here.codes c.loop-cause.cursor.vrs.r) ≡ Ok c.go_to_caller.new.cursor = c.in_default.ensures in
    lower stack _ _ c.loop-cause.cursor c.go_to_caller.new.cursor o

pub loop-cause-preserved : goal.loop-cause-preserved
loop-cause-preserved g c =
    let stack = stack_of (g.B.Bus.memory c.args.bus.now) in
    let o : cursor_of (outer stack None c.loop-cause.cursor.innermost c.loop-cause.here.codes c.loop-cause.cursor.vrs.r) ≡ Ok c.go_to_caller.new.cursor = c.in_default.ensures in
    let s = quiet_on c.args.goal.now c.loop-cause.next c.args.t.now.index stack _ c.loop-cause.cursor c.go_to_caller.new.cursor _ c.loop-cause.invariant.0 c.loop-cause.invariant.1 o in
    let k : enters_at c.args.goal.now 0 c.args.t.now.index (frame_at c.go_to_caller.new.cursor) ≡ Ok c.in-Ok-codes_or_landing.codes = c.in-Ok-codes_or_landing.ensures in
    (s, k, λ e. stays_quiet c.args.goal.now c.args.t.now.index (frame_at c.go_to_caller.new.cursor) c.in-Ok-codes_or_landing.codes k)

pub returns-in-Err-codes_or_landing : goal.returns-in-Err-codes_or_landing
returns-in-Err-codes_or_landing g c =
    let stack = stack_of (g.B.Bus.memory c.args.bus.now) in
    let o : cursor_of (outer stack None c.loop-cause.cursor.innermost c.loop-cause.here.codes c.loop-cause.cursor.vrs.r) ≡ Ok c.go_to_caller.new.cursor = c.in_default.ensures in
    let s = quiet_on c.args.goal.now c.loop-cause.next c.args.t.now.index stack _ c.loop-cause.cursor c.go_to_caller.new.cursor _ c.loop-cause.invariant.0 c.loop-cause.invariant.1 o in
    let k : enters_at c.args.goal.now 0 c.args.t.now.index (frame_at c.go_to_caller.new.cursor) ≡ Err (landing_in_frame (frame_at c.go_to_caller.new.cursor) c.in-Err-codes_or_landing.landing) = c.in-Err-codes_or_landing.ensures in
    quiet_entered _ _ _ stack _ c.go_to_caller.new.cursor _ s k
