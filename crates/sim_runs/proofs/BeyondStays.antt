-- After each event sp stands in the running stack, so that no word beyond it is released.
use Rattle.std.proofs.Common.{ℕ, ◌≤◌, subst, arith}
use Rattle.run_events.specs.Runs.{Event, Goes, Ends}
use Rattle.thumb_core.specs.declared.regs.TheConstants.{SP}
use Rattle.thumb_core.specs.declared.ends.End.{End}
use Rattle.sim_machines.specs.frame_check.Accepts.{Accepted}
use Rattle.sim_machines.specs.Activations.{Recorded, reg_in}
use Rattle.sim_machines.specs.RecordedSlots.{LeavesBeyond}
use Rattle.sim_machines.specs.ActivationMachine.{recorded_event}
use Rattle.sim_machines.specs.Checked.{program_of}
use Rattle.sim_machines.proofs.Beyond.{words_beyond_stay}
use Rattle.sim_runs.specs.Beyond.{SameBeyond, BeyondStays}
use Rattle.sim_accesses.specs.sim_relation.Stands.{OnEvent}
use Rattle.sim_accesses.proofs.sim_relation.Goes.{chain_top}
use Rattle.sim_runs.proofs.OneEvent.{turns}

stays : (x : Accepted) (s : Recorded) (e : Event Recorded End) → OnEvent x e → LeavesBeyond s e → SameBeyond s e
stays x s (Goes t text left) k l =
    let top : t.first.caller.sp ≤ t.home.1 = chain_top x t.segments t.home t.first.caller t.outer k.chain in
    let sp : reg_in t SP ≤ t.first.caller.sp = k.high in
    let within : reg_in t SP ≤ t.home.1 = omega (arith, top, sp) in
    l.1 (subst (λ (h : ℕ × ℕ). reg_in t SP ≤ h.1) l.0 within)
stays x s (Ends end t) k l = l.1

pub beyond_stays : BeyondStays
beyond_stays x s input is k fits =
    stays x s (recorded_event (program_of x) s input) (turns x s input is k fits).keeps (words_beyond_stay (program_of x) s input k.beyond)
