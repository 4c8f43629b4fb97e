use Rattle.std.proofs.Common.{◌++◌, ◌∷◌, [], true, None, refl, sym, ap, subst, ◌∙◌, arith}
use Rattle.eh_phase.specs.Calls.{stack_of}
use Rattle.eh_phase.specs.Frames.{frames_of}
use Rattle.eh_phase.specs.declared.walk.Cursor.{Cursor}
use Rattle.thumb_core.specs.Registers.{all_of}
use Rattle.eh_walk.proofs.Advance.{Walked, begins_at, goes_on, nothing_ends, uncovered_ends, last_given, most_ends}
use Rattle.eh_walk.proofs.walk.walk_from.Goals as goal

pub loop-at-init : goal.loop-at-init
loop-at-init g c =
    let stack = stack_of (g.B.Bus.memory c.args.bus.now) in
    let whole = frames_of c.args.t.now.index stack None c.args.site (all_of c.args.regs.now) in
    let first : Cursor = record { vrs = c.registers.result; site = c.args.site; innermost = true } in
    subst (λ fs. Walked c.args.t.now.index stack c.args.most whole first fs) (sym c.new-frames.ensures.items)
    (begins_at c.args.t.now.index stack c.args.most c.args.site (all_of c.args.regs.now) c.registers.result c.registers.ensures)

pub loop-at-preserved : goal.loop-at-preserved
loop-at-preserved g c =
    let stack = stack_of (g.B.Bus.memory c.args.bus.now) in
    let low = (g.met.B.Bus.is_map c.args.bus.now).home.high in
    let whole = frames_of c.args.t.now.index stack None c.args.site (all_of c.args.regs.now) in
    let step = goes_on c.args.t.now.index stack low c.args.most whole c.loop-at.at c.loop-at.frames.items c.loop-at.invariant c.in-Inside.next
    (omega (arith, c.loop-at.frames.ok.0)) (sym c.in-Inside.ensures) in
    subst (λ fs. Walked c.args.t.now.index stack c.args.most whole c.in-Inside.next fs) (ap (λ f. c.loop-at.frames.items ++ (f ∷ [])) (sym c.walk_frame_at.ensures) ∙ sym c.in_ok-push-in-Inside.ensures.items) step

pub returns-in-Nothing : goal.returns-in-Nothing
returns-in-Nothing g c =
    let stack = stack_of (g.B.Bus.memory c.args.bus.now) in
    let low = (g.met.B.Bus.is_map c.args.bus.now).home.high in
    let whole = frames_of c.args.t.now.index stack None c.args.site (all_of c.args.regs.now) in
    nothing_ends c.args.t.now.index stack low c.args.most whole c.loop-at.at c.loop-at.frames.items c.loop-at.invariant _ (sym c.in-Nothing.ensures) refl refl

pub returns-in-Last : goal.returns-in-Last
returns-in-Last g c =
    let stack = stack_of (g.B.Bus.memory c.args.bus.now) in
    let low = (g.met.B.Bus.is_map c.args.bus.now).home.high in
    let whole = frames_of c.args.t.now.index stack None c.args.site (all_of c.args.regs.now) in
    last_given c.args.t.now.index stack low c.args.most whole c.loop-at.at c.loop-at.frames.items c.loop-at.invariant c.backtrace_with_last.result c.in-Last.end
    (omega (arith, c.loop-at.frames.ok.0)) (sym c.in-Last.ensures) c.backtrace_with_last.ensures.frames c.backtrace_with_last.ensures.end

pub returns-then-is_covered : goal.returns-then-is_covered
returns-then-is_covered g c =
    let stack = stack_of (g.B.Bus.memory c.args.bus.now) in
    let low = (g.met.B.Bus.is_map c.args.bus.now).home.high in
    let whole = frames_of c.args.t.now.index stack None c.args.site (all_of c.args.regs.now) in
    let few = c.loop-at.invariant.few in
    most_ends c.args.t.now.index stack low c.args.most whole c.loop-at.at c.loop-at.frames.items c.loop-at.invariant _ (sym c.is_covered.ensures ∙ c.if-is_covered.true)
    (omega (arith, c.loop-at.frames.ok.0, few)) refl refl

pub returns-else-is_covered : goal.returns-else-is_covered
returns-else-is_covered g c =
    let stack = stack_of (g.B.Bus.memory c.args.bus.now) in
    let low = (g.met.B.Bus.is_map c.args.bus.now).home.high in
    let whole = frames_of c.args.t.now.index stack None c.args.site (all_of c.args.regs.now) in
    uncovered_ends c.args.t.now.index stack low c.args.most whole c.loop-at.at c.loop-at.frames.items c.loop-at.invariant _ (sym c.is_covered.ensures ∙ c.if-is_covered.false) refl refl
