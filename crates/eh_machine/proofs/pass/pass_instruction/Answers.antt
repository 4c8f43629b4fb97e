use Rattle.std.proofs.Common.{subst}
use Rattle.thumb_ahead.specs.Ahead.{IsAhead}
use Rattle.thumb_ahead.specs.declared.instruction.Ahead.{Ahead as Told}
use Rattle.sim_machines.specs.Program.{profile_in}
use Rattle.sim_machines.specs.Checked.{program_of}
use Rattle.eh_machine.specs.Passes.{at_of}
use Rattle.eh_machine.proofs.Passing.{none_stored}
use Rattle.eh_machine.proofs.pass.pass_instruction.Goals as goal

pub pass_with-requires : goal.pass_with-requires
pass_with-requires g c =
    let other = subst (λ (t : Told). IsAhead c.args.at.now.instr c.args.core.now.regs t) c.in-Other.is c.requires.told in
    record {
      fetched = c.requires.fetched;
      told = other;
      restores = none_stored (profile_in (program_of c.args.a.now)) c.args.core.now.regs (g.B.Bus.memory c.args.bus.now) (at_of c.args.at.now) c.are_words.ensures c.requires.fetched.there other.stores;
    }
