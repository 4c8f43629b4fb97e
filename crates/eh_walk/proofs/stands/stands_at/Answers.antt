use Rattle.std.proofs.Common.{ℕ, sym, ap, ◌∙◌, None, Some}
use Rattle.std.specs.Prelude.{slice_index}
use Rattle.eh_phase.specs.Calls.{stack_of}
use Rattle.eh_phase.specs.Frames.{check_caller}
use Rattle.eh_walk.specs.Walks.{outside_of}
use Rattle.eh_walk.proofs.Standing.{stands_last, stands_nothing, stands_outside}
use Rattle.eh_walk.proofs.stands.stands_at.Goals as goal

pub returns-then-is_covered : goal.returns-then-is_covered
returns-then-is_covered g c =
    sym (stands_last c.args.t.now.index (stack_of (g.B.Bus.memory c.args.bus.now)) c.args.at.now (sym c.in-None.ensures) (sym c.is_covered.ensures ∙ c.if-is_covered.true))

pub returns-else-is_covered : goal.returns-else-is_covered
returns-else-is_covered g c =
    sym (stands_nothing c.args.t.now.index (stack_of (g.B.Bus.memory c.args.bus.now)) c.args.at.now (sym c.is_covered.ensures ∙ c.if-is_covered.false))

pub returns-in-Some : goal.returns-in-Some
returns-in-Some g c =
    c.outside.ensures
    ∙ ap (λ (end : ℕ). outside_of (check_caller end None c.args.at.now.innermost (slice_index c.args.at.now.vrs.r 13) (Some c.in-Some.next))) (ap (λ (home : ℕ × ℕ). home.1) c.home-end.ensures)
    ∙ sym (stands_outside c.args.t.now.index (stack_of (g.B.Bus.memory c.args.bus.now)) c.args.at.now c.in-Some.next (sym c.in-Some.ensures))
