use Rattle.std.proofs.Common.{rules, ◌≡◌, None, Ok, Err, sym, ◌∙◌, arith}
use Rattle.eh_gates.specs.State.{state_of}
use Rattle.sim_machines.specs.Checked.{program_of}
use Rattle.eh_walk.specs.Sites.{site_state}
use Rattle.eh_walk.specs.declared.stopping.ForceFault.TheVariants.{NotSite}
use Rattle.eh_walk.proofs.ForcedActs.{forces, at_no_site, at_site}
use Rattle.eh_walk.proofs.forcing.force.Goals as goal

pub returns-in_default-clause-bytes : goal.returns-in_default-clause-bytes
returns-in_default-clause-bytes g c =
    at_no_site (program_of c.args.a.now) c.args.stop c.args.ty (state_of c.args.core.now (g.B.Bus.memory c.args.shared.now.bus) c.args.events.now)
    (let e : site_state (program_of c.args.a.now) c.args.core.now.regs (g.B.Bus.memory c.args.shared.now.bus) ≡ None = search rules in e)

pub returns-in_default-clause-recorded : goal.returns-in_default-clause-recorded
returns-in_default-clause-recorded g c =
    forces c.args.a.now c.args.stop c.args.ty (state_of c.args.core.now (g.B.Bus.memory c.args.shared.now.bus) c.args.events.now) (state_of c.args.core.now (g.B.Bus.memory c.args.shared.now.bus) c.args.events.now) (Err NotSite) (rw c.image.ensures.image at c.functions.ensures.sound) c.holds.ensures (let h = c.ranges.ty.fits in omega arith)
    (at_no_site (program_of c.args.a.now) c.args.stop c.args.ty (state_of c.args.core.now (g.B.Bus.memory c.args.shared.now.bus) c.args.events.now)
    (let e : site_state (program_of c.args.a.now) c.args.core.now.regs (g.B.Bus.memory c.args.shared.now.bus) ≡ None = search rules in e))

pub returns-in-Ok-clause-bytes : goal.returns-in-Ok-clause-bytes
returns-in-Ok-clause-bytes g c =
    c.allocate_and_fly.ensures ∙ sym (at_site (program_of c.args.a.now) c.args.stop c.args.ty (state_of c.args.core.now (g.B.Bus.memory c.args.shared.now.bus) c.args.events.now) c.in-Some.from c.innermost_sp.result c.holds-2.result
    c.tables-t.result.index c.tables-t.result.types.now (Ok c.in-Ok.stop)
    (sym c.in-Some.ensures) c.tables-t.ensures.index c.tables-t.ensures.types c.innermost_sp.ensures.words c.holds-2.ensures.holds c.in-Ok.ensures)

pub returns-in-Ok-clause-recorded : goal.returns-in-Ok-clause-recorded
returns-in-Ok-clause-recorded g c =
    forces c.args.a.now c.args.stop c.args.ty (state_of c.args.core.now (g.B.Bus.memory c.args.shared.now.bus) c.args.events.now) (state_of c.allocate_and_fly.new.core (g.B.Bus.memory c.allocate_and_fly.new.shared.bus) c.allocate_and_fly.new.events) c.allocate_and_fly.result (rw c.image.ensures.image at c.functions.ensures.sound) c.holds.ensures (let h = c.ranges.ty.fits in omega arith)
    (c.allocate_and_fly.ensures ∙ sym (at_site (program_of c.args.a.now) c.args.stop c.args.ty (state_of c.args.core.now (g.B.Bus.memory c.args.shared.now.bus) c.args.events.now) c.in-Some.from c.innermost_sp.result c.holds-2.result
    c.tables-t.result.index c.tables-t.result.types.now (Ok c.in-Ok.stop)
    (sym c.in-Some.ensures) c.tables-t.ensures.index c.tables-t.ensures.types c.innermost_sp.ensures.words c.holds-2.ensures.holds c.in-Ok.ensures))

pub returns-in-Err-clause-bytes : goal.returns-in-Err-clause-bytes
returns-in-Err-clause-bytes g c =
    sym (at_site (program_of c.args.a.now) c.args.stop c.args.ty (state_of c.args.core.now (g.B.Bus.memory c.args.shared.now.bus) c.args.events.now) c.in-Some.from c.innermost_sp.result c.holds-2.result
    c.tables-t.result.index c.tables-t.result.types.now (Err c.in-Err.fault)
    (sym c.in-Some.ensures) c.tables-t.ensures.index c.tables-t.ensures.types c.innermost_sp.ensures.words c.holds-2.ensures.holds c.in-Err.ensures)

pub returns-in-Err-clause-recorded : goal.returns-in-Err-clause-recorded
returns-in-Err-clause-recorded g c =
    forces c.args.a.now c.args.stop c.args.ty (state_of c.args.core.now (g.B.Bus.memory c.args.shared.now.bus) c.args.events.now) (state_of c.args.core.now (g.B.Bus.memory c.args.shared.now.bus) c.args.events.now) (Err c.in-Err.fault) (rw c.image.ensures.image at c.functions.ensures.sound) c.holds.ensures (let h = c.ranges.ty.fits in omega arith)
    (sym (at_site (program_of c.args.a.now) c.args.stop c.args.ty (state_of c.args.core.now (g.B.Bus.memory c.args.shared.now.bus) c.args.events.now) c.in-Some.from c.innermost_sp.result c.holds-2.result
    c.tables-t.result.index c.tables-t.result.types.now (Err c.in-Err.fault)
    (sym c.in-Some.ensures) c.tables-t.ensures.index c.tables-t.ensures.types c.innermost_sp.ensures.words c.holds-2.ensures.holds c.in-Err.ensures))
