-- One event of the machine with recorded activations, and its runs (docs/rules/machine.md, "With recorded activations"). Returns, throws
-- and the ends of cleanups use what was recorded at the calls, whatever saved words hold.
use Rattle.std.specs.Prelude.{ℕ, suc, ◌+◌, ◌==◌, ◌&&◌, nat_lt, Bool, true, false, List, [], ◌∷◌, length, map, filter, drop, slice_index, Option, Some, None, is_some, Result, Ok, Err, if◌then◌else◌}
use Rattle.std.specs.Int.{bit_at}
use Rattle.std.specs.Option.{option_or}
use Rattle.run_events.specs.Runs.{Event, Goes, Ends, Machine}
use Rattle.eh_bus.specs.Memory.{Memory, stays_guarded}
use Rattle.eh_bus.specs.declared.fault.BusFault.{BusFault}
use Rattle.run_gates.specs.declared.gates.TheConstants.{INPUT_GATE}
use Rattle.run_gates.specs.Ends.{trap_end, is_fault}
use Rattle.run_gates.specs.Gates.{r0, with_r0, gate_event, gate_fails}
use Rattle.eh_cxa.specs.Allocate.{allocate_of, free_of}
use Rattle.eh_cxa.specs.Catch.{begin_catch_of, end_catch_of, rethrow_of}
use Rattle.eh_cxa.specs.Cleanup.{begin_cleanup_of}
use Rattle.eh_cxa.specs.ListCalls.{allocate_list, free_list, size_in, throw_list, land_list, catch_list, end_list, rethrow_list, innermost_in}
use Rattle.eh_cxa.specs.Lists.{Entry, Free, OutOfUse, Live, Cleanup, Lists, entry}
use Rattle.eh_cxa.specs.Lists.{Outcome as Call}
use Rattle.eh_cxa.specs.Throw.{Throw, start_throw_of, set_barrier_of, barrier_of, land_of}
use Rattle.eh_cxa.specs.Words.{word, block, object, block_slot, object_slot}
use Rattle.eh_cxa.specs.declared.globals.BarrierWords.{BarrierWords}
use Rattle.eh_cxa.specs.declared.globals.CleanupWords.{CleanupWords}
use Rattle.eh_cxa.specs.declared.globals.CxaFault.{CxaFault}
use Rattle.eh_cxa.specs.declared.globals.CxaFault.TheVariants as fault
use Rattle.eh_cxa.specs.declared.layout.TheConstants.{BARRIER_OBJECT}
use Rattle.eh_phase.specs.Calls.{meeting}
use Rattle.eh_phase.specs.Firsts.{first_some}
use Rattle.eh_phase.specs.Frames.{entry_contents_at}
use Rattle.eh_phase.specs.Laws.{goal_of}
use Rattle.eh_phase.specs.Phases.{Frame, Frames, phase1, phase2, descriptor_places, from_address, enter_at_place}
use Rattle.eh_phase.specs.declared.walk.CoveringEntry.{CoveringEntry}
use Rattle.eh_phase.specs.declared.phase1.Barrier.{Barrier}
use Rattle.eh_phase.specs.declared.phase1.Found.{Found}
use Rattle.eh_phase.specs.declared.phase2.Entered.{Entered}
use Rattle.eh_phase.specs.declared.phase2.Entered.TheVariants as enters
use Rattle.eh_phase.specs.declared.phase2.Goal.{Goal}
use Rattle.eh_phase.specs.declared.verdict.Thrown.{Thrown}
use Rattle.eh_trace.specs.Trace.{push_event}
use Rattle.eh_trace.specs.declared.event.Event.{Event as Traced}
use Rattle.eh_trace.specs.declared.event.EventKind.{EventKind}
use Rattle.eh_trace.specs.declared.event.EventKind.TheVariants as event
use Rattle.eh_types.specs.Graph.{row_of}
use Rattle.eh_codes.specs.Cut.{split_codes}
use Rattle.eh_bytecode.specs.Recipe.{recipe}
use Rattle.eh_bytecode.specs.declared.recipe.Recipe.{Recipe}
use Rattle.eh_bytecode.specs.declared.recipe.RecipeFault.{RecipeFault}
use Rattle.thumb_ahead.specs.Ahead.{branches_some, pushes_some}
use Rattle.thumb_isa.specs.declared.instr.Instr.{Instr}
use Rattle.thumb_isa.specs.declared.instr.Instr.TheVariants.{Pop}
use Rattle.thumb_core.specs.Lists.{bytes_of, load_list}
use Rattle.thumb_core.specs.Outcome.{Outcome as Stepping}
use Rattle.thumb_core.specs.Registers.{all_of, even, write_register, with_all}
use Rattle.thumb_core.specs.Step.{step_for, instr_for}
use Rattle.thumb_core.specs.declared.regs.CoreTrap.{CoreTrap}
use Rattle.thumb_core.specs.declared.regs.TheConstants.{SP, PC}
use Rattle.thumb_core.specs.declared.regs.Regs.{Regs}
use Rattle.thumb_core.specs.declared.regs.Stepped.{Stepped}
use Rattle.thumb_core.specs.declared.regs.Stepped.TheVariants.{Done, Call as Calls, Return, Gate, Trap}
use Rattle.thumb_core.specs.declared.ends.Cause.{Cause}
use Rattle.thumb_core.specs.declared.ends.Cause.TheVariants as cause
use Rattle.thumb_core.specs.declared.ends.TrapKind.{TrapKind}
use Rattle.thumb_core.specs.declared.ends.TrapKind.TheVariants as kind
use Rattle.thumb_core.specs.declared.ends.End.{End}
use Rattle.thumb_core.specs.declared.ends.End.TheVariants as the_end
use Rattle.eh_gates.specs.declared.gates.TheConstants.{ALLOCATE_GATE, FREE_GATE, THROW_GATE, BEGIN_CATCH_GATE, END_CATCH_GATE, RETHROW_GATE, END_CLEANUP_GATE, UNEXPECTED_GATE, TERMINATE_GATE, UNCAUGHT_GATE}
use Rattle.eh_gates.specs.declared.state.Turned.{Turned}
use Rattle.eh_gates.specs.declared.state.Turned.TheVariants.{Went, Ended}
use Rattle.eh_gates.specs.State.{Tables, at_next}
use Rattle.eh_gates.specs.CallGates.{fault_end, with_r1}
use Rattle.eh_gates.specs.Landing.{landing_registers, pad_event, words_of}
use Rattle.eh_gates.specs.Throwing.{handler_object, barrier_words, throw_event, barrier_in, rethrow_end}
use Rattle.eh_gates.specs.Resuming.{goal_in}
use Rattle.sim_machines.specs.Program.{Program, program_tables, profile_in}
use Rattle.sim_machines.specs.Machine.{sp_end, control_flow_trap, fell_off, saved_words}
use Rattle.sim_machines.specs.Activations.{Caller, Activation, InProgress, Recorded, callee, with_caller, registers_of, release_slots, release_raised, staying_words, with_slots, lists_of, reg_in, memory_of, words_in, heads, with_words, with_lists, first_place, frames_at, cleanups_in}

-- ---- what a gate does

-- whether the run goes on, and the new state in either case
abbrev pub Outcome : Type 0
Outcome = Turned × Recorded

abbrev pub trap_outcome : TrapKind → ℕ → Recorded → Outcome
trap_outcome kind value s = (Ended (the_end.Trap kind value s.regs.pc), s)

abbrev pub terminate_outcome : Cause → Recorded → Outcome
terminate_outcome cause s = (Ended (the_end.Terminate cause), s)

abbrev pub refusal_outcome : CxaFault → ℕ → Recorded → Outcome
refusal_outcome why handler_address s = (Ended (fault_end why handler_address s.regs.pc), s)

abbrev pub log_event : Recorded → Traced → Recorded
log_event s e = record s { events = push_event s.events e }

-- the run goes on after the gate, with its answers in r0 and r1
abbrev pub go_on_outcome : ℕ → Recorded → Outcome
go_on_outcome next s = (Went, record s { regs = at_next next s.regs })

abbrev pub with_answer : ℕ → Recorded → Recorded
with_answer x s = record s { regs = with_r0 x s.regs }

abbrev pub with_second : ℕ → Recorded → Recorded
with_second x s = record s { regs = with_r1 x s.regs }

-- ---- gates that only call on exceptions

abbrev pub allocate_outcome : ℕ → Recorded → Recorded → Result ℕ CxaFault → Outcome
allocate_outcome next s new (Ok object) = go_on_outcome next (with_answer object new)
allocate_outcome next s new (Err why) = refusal_outcome why (reg_in s 0) s

abbrev pub free_outcome : ℕ → Recorded → Recorded → Result (Unit {0}) CxaFault → Outcome
free_outcome next s new (Ok done) = go_on_outcome next new
free_outcome next s new (Err why) = refusal_outcome why (reg_in s 0) s

abbrev pub begin_catch_outcome : ℕ → Recorded → Recorded → Result ℕ CxaFault → Outcome
begin_catch_outcome next s new (Ok object) = go_on_outcome next (with_answer object new)
begin_catch_outcome next s new (Err why) = refusal_outcome why (reg_in s 0) s

abbrev pub end_catch_outcome : ℕ → Recorded → Recorded → Result (ℕ × ℕ) CxaFault → Outcome
end_catch_outcome next s new (Ok (object, destructor)) = go_on_outcome next (with_second destructor (with_answer object new))
end_catch_outcome next s new (Err why) = refusal_outcome why 0 s

-- with a new exception of so many bytes, if there is room for it
abbrev pub with_new : ℕ → Recorded → Recorded
with_new size s = with_lists (allocate_list (lists_of s) size).lists (allocate_of (words_in (lists_of s)) size).writes s

abbrev pub allocate_gate : ℕ → Recorded → Outcome
allocate_gate next s = allocate_outcome next s (with_new (reg_in s 0) s) (allocate_list (lists_of s) (reg_in s 0)).answer

abbrev pub free_gate : ℕ → Recorded → Outcome
free_gate next s =
    free_outcome next s
    (with_lists (free_list (lists_of s) (object_slot (reg_in s 0))).lists (free_of (words_in (lists_of s)) (object_slot (reg_in s 0))).writes s)
    (free_list (lists_of s) (object_slot (reg_in s 0))).answer

-- the object that the barrier of a slot gives to its handler
abbrev pub handler_address : Recorded → ℕ → ℕ
handler_address s slot = word (memory_of s) slot BARRIER_OBJECT

abbrev pub begin_catch : Recorded → Call (Result ℕ CxaFault)
begin_catch s = catch_list (handler_address s) (lists_of s) (block_slot (reg_in s 0))

abbrev pub begin_catch_gate : ℕ → Recorded → Outcome
begin_catch_gate next s =
    begin_catch_outcome next s (with_lists (begin_catch s).lists (begin_catch_of (words_in (lists_of s)) (heads (lists_of s)) (reg_in s 0)).writes s) (begin_catch s).answer

abbrev pub end_catch_gate : ℕ → Recorded → Outcome
end_catch_gate next s =
    end_catch_outcome next s (with_lists (end_list (lists_of s)).lists (end_catch_of (words_in (lists_of s)) (heads (lists_of s))).writes s) (end_list (lists_of s)).answer

abbrev pub uncaught_gate : ℕ → Recorded → Outcome
uncaught_gate next s = go_on_outcome next (with_answer s.uncaught s)

-- ---- landing

-- whether phase 2 enters something of a frame; in the first frame only the descriptors from an address on count
abbrev pub is_entered : Goal → ℕ → Frame → Bool
is_entered g from f = is_some (first_some (enter_at_place g) (descriptor_places f (from_address from f.items)))

-- how many frames phase 2 passes before the one that it enters
unfoldable pub passed_frame_count : Goal → ℕ → List Frame → ℕ
passed_frame_count g from [] = 0
passed_frame_count g from (f ∷ more) = if is_entered g from f then 0 else suc (passed_frame_count g 0 more)

-- The activation that is entered becomes the first, and those inside it are gone. sp and r4 to r11 are those of its frame. Slots below sp
-- are dropped.
abbrev pub at_pad : Recorded → List Activation → List ℕ → ℕ → ℕ → Recorded
at_pad s [] r pad answer = record s { regs = landing_registers s.regs r pad answer }
at_pad s (a ∷ more) r pad answer = record s {
  regs = landing_registers s.regs r pad answer;
  first = release_slots s.home (slice_index r SP) a;
  outer = map (λ b. release_slots s.home (slice_index r SP) b) more;
  beyond = filter (stays_guarded s.home (slice_index r SP)) s.beyond;
}

-- a cleanup is in progress, in the activation with so many outside it
abbrev pub in_progress : Recorded → ℕ → ℕ → CleanupWords → Option ℕ → Recorded
in_progress s outside block w None = s
in_progress s outside block w (Some slot) = record (with_words (begin_cleanup_of (heads (lists_of s)) block w).writes s) {
  cleanups = record { cleanup = record { slot = slot; next = w.next; sp = w.sp; site = w.site }; place = outside } ∷ s.cleanups;
}

-- the number of the activations outside the first of some
abbrev pub outside_of : List Activation → ℕ
outside_of [] = 0
outside_of (a ∷ more) = length more

abbrev pub enter_cleanup : Recorded → List Activation → ℕ → List ℕ → ℕ → CleanupWords → Recorded
enter_cleanup s acts block r pad w =
    log_event (at_pad (in_progress s (outside_of acts) block w (block_slot block)) acts r pad 0) (pad_event event.Cleanup pad (slice_index r SP) 0)

-- the exception landed
abbrev pub land_exception : Recorded → Option ℕ → Recorded
land_exception s None = s
land_exception s (Some slot) = with_lists (land_list (lists_of s) slot) (land_of (words_in (lists_of s)) (Some slot)) s

abbrev pub enter_handler : Recorded → List Activation → ℕ → List ℕ → ℕ → Traced → Recorded
enter_handler s acts block r pad e = log_event (at_pad (land_exception s (block_slot block)) acts r pad block) e

-- what phase 2 enters in the first of these activations; an end leaves the state as it is
abbrev pub enter_landing : Recorded → List Activation → ℕ → ℕ → Entered → Outcome
enter_landing s acts block object (enters.Cleanup vrs pad next site) = (Went, enter_cleanup s acts block vrs.r pad (words_of vrs.r next site))
enter_landing s acts block object (enters.Catch vrs pad) =
    (Went, enter_handler s acts block vrs.r pad (pad_event event.Catch pad (slice_index vrs.r SP) object))
enter_landing s acts block object (enters.Spec vrs pad) =
    (Went, enter_handler s acts block vrs.r pad (pad_event event.Unexpected pad (slice_index vrs.r SP) 0))
enter_landing s acts block object enters.Unexpected = terminate_outcome cause.Unexpected s
enter_landing s acts block object (enters.Terminate why) = terminate_outcome why s

-- phase 2 over the frames of these activations, from a descriptor of the first
abbrev pub advances : Recorded → List Activation → ℕ → ℕ → Goal → ℕ → Frames → Outcome
advances s acts block object g from fs = enter_landing s (drop (passed_frame_count g from fs.frames) acts) block object (phase2 g from fs)

-- ---- a throw

-- the frames of a throw: the innermost one is at the site, with the registers as they are
abbrev pub frames_from : Tables → Recorded → Option ℕ → ℕ → Frames
frames_from g s place site = frames_at g.image place site (all_of s.regs) s.first s.outer

-- for a throw at a gate the site is the gate's own address; phase 1 goes no further than the activation of the innermost cleanup in
-- progress
abbrev pub phase1_result : Tables → Recorded → Thrown → Found
phase1_result g s thrown = phase1 (meeting g.image g.types s.segments thrown) (frames_from g s (first_place s.cleanups) s.regs.pc)

abbrev pub size_of : Lists → Option ℕ → ℕ
size_of l None = 0
size_of l (Some slot) = size_in (entry l slot)

-- phase 1 for a type of the graph, after the event of the throw
unfoldable pub find_barrier : Tables → Recorded → EventKind → Thrown → Result Barrier End × Recorded
find_barrier g s what thrown =
    if is_some (row_of g.types thrown.ty)
    then (
      barrier_in s.regs.pc (phase1_result g s thrown),
      log_event s (throw_event what (memory_of s) thrown (size_of (lists_of s) (object_slot thrown.object))),
    )
    else (Err (the_end.Trap kind.BadType thrown.ty s.regs.pc), s)

abbrev pub from_barrier : (Barrier → Recorded → Outcome) → Result Barrier End × Recorded → Outcome
from_barrier further (Ok b, s) = further b s
from_barrier further (Err end, s) = (Ended end, s)

-- the barrier is written, and phase 2 goes to it from a site
abbrev pub fly_to_barrier : Tables → Recorded → ℕ → ℕ → Barrier → Outcome
fly_to_barrier g s site block b = advances s (s.first ∷ s.outer) block (handler_object block b.hit) (goal_of b) 0 (frames_from g s None site)

unfoldable pub throw_to : Tables → ℕ → ℕ → Barrier → Recorded → Outcome
throw_to g site block b s = fly_to_barrier g (with_words (set_barrier_of (block_slot block) (barrier_words block b)) s) site block b

-- of the object at r0, of the type at r1, with the destructor at r2
abbrev pub gate_thrown : Recorded → Thrown
gate_thrown s = record { object = reg_in s 0; ty = reg_in s 1 }

abbrev pub thrown_words : Recorded → Throw
thrown_words s = record { ty = reg_in s 1; destructor = reg_in s 2 }

-- the exception of an object begins to fly, with the type and the destructor of a throw
abbrev pub flight_of : ℕ → Throw → Recorded → Call (Result ℕ CxaFault)
flight_of object t s = throw_list (lists_of s) (object_slot object) t

abbrev pub in_flight : ℕ → Throw → Recorded → Recorded
in_flight object t s = with_lists (flight_of object t s).lists (start_throw_of (words_in (lists_of s)) (heads (lists_of s)) (object_slot object) t).writes s

abbrev pub first_flight : Recorded → Call (Result ℕ CxaFault)
first_flight s = flight_of (reg_in s 0) (thrown_words s) s

abbrev pub flies_first : Recorded → Recorded
flies_first s = in_flight (reg_in s 0) (thrown_words s) s

abbrev pub throw_outcome : Tables → Recorded → Result ℕ CxaFault → Outcome
throw_outcome g s (Err why) = refusal_outcome why (reg_in s 0) s
throw_outcome g s (Ok block) = from_barrier (λ b t. throw_to g s.regs.pc block b (flies_first t)) (find_barrier g s event.Throw (gate_thrown s))

abbrev pub throw_gate : Tables → Recorded → Outcome
throw_gate g s = throw_outcome g s (first_flight s).answer

-- a rethrow of the top of the caught stack

abbrev pub type_in : Entry → ℕ
type_in Free = 0
type_in OutOfUse = 0
type_in (Live r) = r.ty

abbrev pub slot_thrown : Lists → Option ℕ → Thrown
slot_thrown l None = record { object = 0; ty = 0 }
slot_thrown l (Some slot) = record { object = object slot; ty = type_in (entry l slot) }

abbrev pub flies_again : Recorded → Recorded
flies_again s = with_lists (rethrow_list (lists_of s)).lists (rethrow_of (words_in (lists_of s)) (heads (lists_of s))).writes s

abbrev pub rethrow_outcome : Tables → Recorded → Result ℕ CxaFault → Outcome
rethrow_outcome g s (Err why) = (Ended (rethrow_end why (heads (lists_of s)).caught s.regs.pc), s)
rethrow_outcome g s (Ok block) =
    from_barrier (λ b t. throw_to g s.regs.pc block b (flies_again t)) (find_barrier g s event.Rethrow (slot_thrown (lists_of s) (block_slot block)))

abbrev pub rethrow_gate : Tables → Recorded → Outcome
rethrow_gate g s = rethrow_outcome g s (rethrow_list (lists_of s)).answer

-- ---- the end of a cleanup

-- Phase 2 goes on in the cleanup's activation, from its site and next descriptor, to the barrier of its exception. The registers there are
-- those at the call of the function that runs the gate.
abbrev pub continue_flight : Tables → Recorded → Cleanup → Caller → Activation → List Activation → BarrierWords → Outcome
continue_flight g s c gate a outer b =
    advances s (a ∷ outer) (block c.slot) b.object (goal_in b) c.next (frames_at g.image None c.site (registers_of gate) a outer)

-- the cleanup's activation is the one outside the gate's; the cleanup is in progress no more
abbrev pub resumes_in : Tables → Recorded → InProgress → List InProgress → List Activation → Outcome
resumes_in g s p more [] = refusal_outcome fault.CleanupElsewhere s.first.caller.sp s
resumes_in g s p more (a ∷ outer) =
    if (s.first.caller.sp == p.cleanup.sp) && (length outer == p.place)
    then continue_flight g (record s { cleanups = more }) p.cleanup s.first.caller a outer (barrier_of (word (memory_of s)) (Some p.cleanup.slot))
    else refusal_outcome fault.CleanupElsewhere s.first.caller.sp s

-- an activation can be unwound if its entry has codes with a recipe
abbrev pub has_recipe : Result Recipe RecipeFault → Bool
has_recipe (Ok done) = true
has_recipe (Err why) = false

abbrev pub can_unwind : Option CoveringEntry → Bool
can_unwind None = false
can_unwind (Some c) = has_recipe (recipe (split_codes c.codes))

abbrev pub resume_outcome : Tables → Recorded → List InProgress → Outcome
resume_outcome g s [] = refusal_outcome fault.NoCleanup 0 s
resume_outcome g s (p ∷ more) =
    if can_unwind (entry_contents_at g.image s.regs.pc) then resumes_in g s p more s.outer else refusal_outcome fault.CleanupElsewhere 0 s

abbrev pub end_cleanup_gate : Tables → Recorded → Outcome
end_cleanup_gate g s = resume_outcome g s s.cleanups

-- ---- gates by their numbers, in the state before the instruction; the next instruction is at `next`

unfoldable pub gate_of : Tables → ℕ → ℕ → Recorded → Outcome
gate_of g number next s =
    if number == ALLOCATE_GATE then allocate_gate next s
    else (if number == FREE_GATE then free_gate next s
    else (if number == THROW_GATE then throw_gate g s
    else (if number == BEGIN_CATCH_GATE then begin_catch_gate next s
    else (if number == END_CATCH_GATE then end_catch_gate next s
    else (if number == RETHROW_GATE then rethrow_gate g s
    else (if number == END_CLEANUP_GATE then end_cleanup_gate g s
    else (if number == UNEXPECTED_GATE then terminate_outcome cause.Unexpected s
    else (if number == TERMINATE_GATE then terminate_outcome cause.Called s
    else (if number == UNCAUGHT_GATE then uncaught_gate next s else trap_outcome kind.UnknownGate number s)))))))))

-- ---- an event before its gate

-- the registers after an instruction: a return restores the caller's, as they were recorded at its call
abbrev pub caller_registers : Caller → Regs → Regs
caller_registers c regs = record regs { r = with_caller c regs.r; pc = even c.back }

abbrev pub registers_after : Caller → Stepped → Regs → Regs
registers_after c Done regs = regs
registers_after c (Calls target ret) regs = regs
registers_after c (Return to) regs = caller_registers c regs
registers_after c (Gate number) regs = regs
registers_after c (Trap trap) regs = regs

-- the last activation returns to nobody, which ends the run with r0
abbrev pub return_end : Program → ℕ → List Activation → Regs → Option End
return_end p pc [] regs = Some (the_end.Exit (r0 regs))
return_end p pc (a ∷ more) regs = fell_off p pc regs.pc

abbrev pub control_flow_trap_of : Program → Recorded → Bool → Stepped → Regs → Option End
control_flow_trap_of p s branches Done regs = control_flow_trap p branches s.regs.pc Done regs
control_flow_trap_of p s branches (Calls target ret) regs = control_flow_trap p branches s.regs.pc (Calls target ret) regs
control_flow_trap_of p s branches (Return to) regs = return_end p s.regs.pc s.outer regs
control_flow_trap_of p s branches (Gate number) regs = control_flow_trap p branches s.regs.pc (Gate number) regs
control_flow_trap_of p s branches (Trap trap) regs = None

abbrev pub tests : Program → Recorded → Stepped → Regs → Option End
tests p s what regs =
    option_or (sp_end (p.look s.regs.pc).lowers (innermost_in (cleanups_in s.cleanups)) s.home.0 s.regs.pc (reg_in s SP) (slice_index regs.r SP))
    (control_flow_trap_of p s (branches_some (instr_for (profile_in p) (memory_of s) s.regs.pc) s.regs) what regs)

-- The slots after an instruction. A push adds those of its words that are saves to the first activation's. If sp rose, the slots below it
-- are dropped.
abbrev pub update_slots : ℕ → ℕ → ℕ → ℕ → Recorded → Recorded
update_slots saves count old new s = record s {
  first = release_raised s.home old new (with_slots (saved_words saves count new) s.first);
  outer = map (λ a. release_raised s.home old new a) s.outer;
  beyond = staying_words s.home old new s.beyond;
}

abbrev pub update_slots_at : Program → Recorded → Regs → Recorded → Recorded
update_slots_at p s regs t =
    update_slots (p.look s.regs.pc).saves (pushes_some (instr_for (profile_in p) (memory_of s) s.regs.pc)) (reg_in s SP) (slice_index regs.r SP) t

-- the activations after it: a call adds a new one in front, and a return removes the first
abbrev pub with_call : ℕ → ℕ → Recorded → Recorded
with_call target ret s = record s {
  first = record { function = target; caller = record { back = ret; sp = reg_in s SP; saved = callee s.regs.r }; slots = [] };
  outer = s.first ∷ s.outer;
}

abbrev pub with_remaining : List Activation → Recorded → Recorded
with_remaining [] s = s
with_remaining (a ∷ more) s = record s { first = a; outer = more }

abbrev pub activations_after : Stepped → Recorded → Recorded
activations_after Done s = s
activations_after (Calls target ret) s = with_call target ret s
activations_after (Return to) s = with_remaining s.outer s
activations_after (Gate number) s = s
activations_after (Trap trap) s = s

abbrev pub record_step : Program → Recorded → Stepped → Regs → Memory → Recorded
record_step p s what regs m = activations_after what (update_slots_at p s regs (record s { regs = regs; segments = m.segments }))

abbrev pub PassResult : Type 0
PassResult = Result Stepped End × Recorded

abbrev pub pass_tests : Program → Recorded → Stepped → Regs → Memory → Option End → PassResult
pass_tests p s what regs m (Some end) = (Err end, s)
pass_tests p s what regs m None = (Ok what, record_step p s what regs m)

abbrev pub with_tests : Program → Recorded → Stepped → Regs → Memory → PassResult
with_tests p s what regs m = pass_tests p s what regs m (tests p s what regs)

-- a POP, by its registers
abbrev pub popped_mask : Instr → Option ℕ
popped_mask (Pop list) = Some list
popped_mask i = None

abbrev pub pops_some : Option (Instr × ℕ) → Option ℕ
pops_some (Some (i, size)) = popped_mask i
pops_some None = None

-- the registers after a POP, if its words can be loaded
abbrev pub registers_after_pop : Recorded → ℕ → Result (List ℕ) BusFault → Option Regs
registers_after_pop s list (Ok words) = Some (with_all s.regs (write_register words SP (reg_in s SP + bytes_of list)))
registers_after_pop s list (Err why) = None

-- .. after a POP into pc
abbrev pub registers_after_return : Recorded → Option ℕ → Option Regs
registers_after_return s (Some list) = if bit_at list PC == 1 then registers_after_pop s list (load_list list (reg_in s SP) s.regs (memory_of s)) else None
registers_after_return s None = None

-- .. if there is one at pc
abbrev pub pops_back : Program → Recorded → Option Regs
pops_back p s = registers_after_return s (pops_some (instr_for (profile_in p) (memory_of s) s.regs.pc))

-- A trap ends the run. But a POP into pc returns whatever word it finds for pc, since that word may be a saved one.
abbrev pub trap_or_return : Program → Recorded → CoreTrap → Option Regs → PassResult
trap_or_return p s trap None = (Err (trap_end trap s.regs.pc), s)
trap_or_return p s trap (Some regs) = with_tests p s (Return s.first.caller.back) (caller_registers s.first.caller regs) (memory_of s)

abbrev pub pass_step : Program → Recorded → Stepping → PassResult
pass_step p s (Trap trap, regs, m) = trap_or_return p s trap (pops_back p s)
pass_step p s (what, regs, m) = with_tests p s what (registers_after s.first.caller what regs) m

abbrev pub pass_if_checked : Program → Recorded → Bool → PassResult
pass_if_checked p s true = pass_step p s (step_for (profile_in p) s.regs (memory_of s))
pass_if_checked p s false = (Err (the_end.Trap kind.FellOff s.regs.pc s.regs.pc), s)

unfoldable pub pass_instruction : Program → Recorded → PassResult
pass_instruction p s = pass_if_checked p s (p.look s.regs.pc).is_instr

-- ---- one event

abbrev pub event_of : Outcome → List ℕ → Event Recorded End
event_of (Went, s) input = Goes s [] input
event_of (Ended end, s) input = Ends end s

-- a gate that every machine has changes only registers
abbrev pub in_state : Recorded → Event Regs End → Event Recorded End
in_state s (Goes regs text left) = Goes (record s { regs = regs }) text left
in_state s (Ends end regs) = Ends end (record s { regs = regs })

abbrev pub event_at_gate : Program → ℕ → Recorded → Regs → List ℕ → Event Recorded End
event_at_gate p number s regs input =
    if nat_lt INPUT_GATE number then event_of (gate_of (program_tables p) number regs.pc s) input
    else in_state s (gate_event number s.regs regs input)

abbrev pub event_after_step : Program → Recorded → Stepped → Recorded → List ℕ → Event Recorded End
event_after_step p s (Gate number) t input = event_at_gate p number s t.regs input
event_after_step p s Done t input = Goes t [] input
event_after_step p s (Calls target ret) t input = Goes t [] input
event_after_step p s (Return to) t input = Goes t [] input
event_after_step p s (Trap trap) t input = Goes t [] input

abbrev pub event_after_pass : Program → Recorded → PassResult → List ℕ → Event Recorded End
event_after_pass p s (Err end, t) input = Ends end t
event_after_pass p s (Ok what, t) input = event_after_step p s what t input

unfoldable pub recorded_event : Program → Recorded → List ℕ → Event Recorded End
recorded_event p s input = event_after_pass p s (pass_instruction p s) input

-- ---- runs

abbrev pub pass_fails : PassResult → End → Bool
pass_fails (Err why, t) end = false
pass_fails (Ok what, t) end = gate_fails what end

unfoldable pub recorded_may_fail : Program → Recorded → End → Bool
recorded_may_fail p s end = pass_fails (pass_instruction p s) end

abbrev pub recorded_machine : Program → Machine Recorded End
recorded_machine p = record { event = recorded_event p; spent = the_end.Budget; is_fault = is_fault; may_fail = recorded_may_fail p }
