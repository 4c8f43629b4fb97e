-- The start of a run and a flight to a barrier, of an accepted image: the same with recorded activations.
use Rattle.std.proofs.Common.{◌≡◌, ℕ, List, sym, ap, subst, ◌∙◌}
use Rattle.elf_image.specs.Image.{Image, IsSound as IsImage}
use Rattle.eh_types.specs.Graph.{Row}
use Rattle.eh_bus.specs.Memory.{Memory}
use Rattle.eh_cxa.specs.Runs.{no_globals}
use Rattle.eh_cxa.specs.declared.globals.Globals.{Globals}
use Rattle.eh_trace.specs.Trace.{Trace, no_events}
use Rattle.run_images.specs.Start.{start_regs, image_start}
use Rattle.thumb_core.specs.declared.regs.Regs.{Regs}
use Rattle.eh_cxa.specs.Words.{block}
use Rattle.eh_cxa.proofs.Pools.{slot_block}
use Rattle.eh_phase.specs.declared.phase1.Barrier.{Barrier}
use Rattle.thumb_core.specs.declared.ends.End.{End}
use Rattle.eh_gates.specs.declared.state.Turned.{Turned}
use Rattle.eh_gates.specs.declared.state.Turned.TheVariants.{Went, Ended}
use Rattle.eh_gates.specs.State.{State, Outcome, tables_of}
use Rattle.eh_gates.specs.Throwing.{throw_to}
use Rattle.frame_check.specs.Accepts.{Accepted, IsSound}
use Rattle.sim_machines.specs.Program.{program_tables}
use Rattle.sim_machines.specs.Start.{start_of}
use Rattle.sim_machines.specs.Checked.{program_of}
use Rattle.sim_machines.specs.Activations.{Recorded, bytes_of}
use Rattle.sim_machines.specs.ActivationMachine as acts
use Rattle.sim_machines.specs.Corresponds.{OutcomesMatch}
use Rattle.sim_runs.specs.sim_relation.Stands.{Keeps, IsProgram}
use Rattle.sim_runs.specs.sim_resumes.Flying.{fly_from, CanFly}
use Rattle.sim_runs.proofs.sim_relation.First.{starts_stand}
use Rattle.sim_runs.proofs.sim_resumes.FlyFrom.{gates_fly, flights_match}
use Rattle.eh_machine.specs.Follows.{StartsAlike, FlownAlike, FollowsFlight}
use Rattle.eh_machine.proofs.Following.{accepted_is}

start_follows : (x : Accepted) (new : State) → IsProgram x → new ≡ start_of (program_of x) → StartsAlike x new
start_follows x new is e = record { same = e; keeps = starts_stand x is }

-- as the call makes it: registers of the image's entry, and its memory
pub start_told : (x : Accepted) (regs : Regs) (globals : Globals) (memory : Memory) (events : Trace) (entry : ℕ) (image : Image) → IsImage x.image → IsSound x
    → regs ≡ start_regs entry → entry ≡ image.entry → globals ≡ no_globals → memory ≡ (image_start image).memory → events ≡ no_events
    → image ≡ x.image → StartsAlike x (record { regs = regs; globals = globals; memory = memory; events = events })
start_told x regs globals memory events entry image of sound r at g m e whose =
    let regs_are : regs ≡ start_regs x.image.entry = r ∙ ap start_regs (at ∙ ap (λ (i : Image). i.entry) whose) in
    let memory_is : memory ≡ (image_start x.image).memory = m ∙ ap (λ (i : Image). (image_start i).memory) whose in
    let one : Regs → State = λ v. record { regs = v; globals = globals; memory = memory; events = events } in
    let two : Globals → State = λ v. record { regs = start_regs x.image.entry; globals = v; memory = memory; events = events } in
    let three : Memory → State = λ v. record { regs = start_regs x.image.entry; globals = no_globals; memory = v; events = events } in
    let four : Trace → State = λ v. record { regs = start_regs x.image.entry; globals = no_globals; memory = (image_start x.image).memory; events = v } in
    start_follows x _ (accepted_is x of sound) (ap one regs_are ∙ ap two g ∙ ap three memory_is ∙ ap four e)

module _ (x : Accepted) (is : IsProgram x) (s : Recorded) (k : Keeps x s) (site slot : ℕ) (b : Barrier) (can : CanFly x s site slot b) where
  -- an outcome over bytes that matches one with recorded activations
  alike : (result : Turned) (new : State) (q : acts.Outcome) → acts.throw_to (program_tables (program_of x)) site (block slot) b s ≡ q → OutcomesMatch (result, new) q → Keeps x q.1
      → FlownAlike x s site (block slot) b result new
  alike Went new (Went, t) e m keeps = record { state = t; is = sym e; stands = record { same = m; keeps = keeps } }
  alike (Ended end) new (Ended why, t) e m keeps =
      let one : End → acts.Outcome = λ w. (Ended w, t) in
      record { state = t; is = ap one m.0 ∙ sym e; stands = record { same = m.1; keeps = keeps } }
  alike Went new (Ended why, t) e m keeps = absurd m
  alike (Ended end) new (Went, t) e m keeps = absurd m

  pub flown : (result : Turned) (new : State) → ◌≡◌ {A = Outcome} (result, new) (throw_to (program_tables (program_of x)) (bytes_of s) site (block slot) b)
      → FlownAlike x s site (block slot) b result new
  flown result new e =
      let w = flights_match x s site slot b is k can in
      let f = gates_fly (program_tables (program_of x)) site (block slot) b s in
      let q = fly_from (program_tables (program_of x)) site (block slot) b s in
      alike result new q f (subst (λ (o : Outcome). OutcomesMatch o q) (sym e) w.same.same) w.keeps

flight_follows : (x : Accepted) (old new : State) (site control : ℕ) (b : Barrier) (result : Turned) → IsImage x.image → IsSound x
    → ◌≡◌ {A = Outcome} (result, new) (throw_to (program_tables (program_of x)) old site control b) → FollowsFlight x old site control b result new
flight_follows x old new site control b result image sound e = λ s r slot at can.
    let is_block : control ≡ block slot = slot_block control slot at in
    let told : ◌≡◌ {A = Outcome} (result, new) (throw_to (program_tables (program_of x)) (bytes_of s) site (block slot) b) =
    e ∙ ap (λ (o : State). throw_to (program_tables (program_of x)) o site control b) r.same
    ∙ ap (λ (c : ℕ). throw_to (program_tables (program_of x)) (bytes_of s) site c b) is_block in
    subst (λ (c : ℕ). FlownAlike x s site c b result new) (sym is_block) (flown x (accepted_is x image sound) s r.keeps site slot b can result new told)

-- as the call is made: the guide is that of the program
pub flight_told : (x : Accepted) (old new : State) (site control : ℕ) (b : Barrier) (result : Turned) (image : Image) (types : List Row) → IsImage x.image → IsSound x
    → ◌≡◌ {A = Outcome} (result, new) (throw_to (tables_of image types) old site control b) → image ≡ x.image → types ≡ x.types → FollowsFlight x old site control b result new
flight_told x old new site control b result image types of sound e i t =
    flight_follows x old new site control b result of sound
    (e ∙ ap (λ (v : Image). throw_to (tables_of v types) old site control b) i ∙ ap (λ (v : List Row). throw_to (tables_of x.image v) old site control b) t)
