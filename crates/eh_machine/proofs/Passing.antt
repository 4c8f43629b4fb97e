-- One instruction up to its gate, from what its step and its tests have done.
use Rattle.std.proofs.Common.{◌≡◌, ℕ, ℤ, ◌+◌, ◌*◌, ◌%◌, ◌^◌, ◌<◌, ◌≤◌, nat_lt, Bool, true, false, ◌&&◌, Option, Some, None, Result, Ok, Err, slice_index, length, refl, sym, ap, subst, ◌∙◌, cond, arith}
use Rattle.std.proofs.lemmas.Bool.{ltb-false, le-ltb}
use Rattle.std.proofs.lemmas.List.{get_or-set_other}
use Rattle.std.proofs.Math.Nat.{le_trans}
use Rattle.std.specs.Option.{option_or}
use Rattle.eh_bus.specs.Memory.{Memory, guard_all, without_guards_below}
use Rattle.eh_bus.specs.Map.{IsMap}
use Rattle.eh_bus.specs.declared.fault.BusFault.{BusFault}
use Rattle.eh_bus.specs.declared.fault.BusFault.TheVariants as bus
use Rattle.eh_cxa.specs.Words.{Pool, word, block_slot}
use Rattle.eh_cxa.specs.declared.globals.Globals.{Globals}
use Rattle.eh_cxa.specs.Cleanup.{innermost_of}
use Rattle.run_gates.specs.Ends.{bus_end, trap_end, is_fault}
use Rattle.thumb_isa.specs.Range.{InRange}
use Rattle.thumb_isa.specs.declared.instr.Instr.{Instr}
use Rattle.thumb_isa.specs.declared.instr.Instr.TheVariants.{ShiftImm, AddSubReg, AddSubImm3, Imm8, Alu, CmpHigh, Adr, AddRdSp, AddSp, SubSp, Extend, Rev, Hint, Barrier, MovW, MovT, Div, AddHigh, MovHigh, BCond, Cbz, B, BWide, Bl, Blx, Bx, Svc, LdrLit, MemReg, MemImm, MemSp, Push, Pop, Stm, Ldm}
use Rattle.thumb_core.specs.Outcome.{Outcome as Stepping}
use Rattle.thumb_core.specs.Registers.{even, word_in, with_reg, with_pc, with_next, reg as reg_of}
use Rattle.thumb_core.specs.Branch.{link_of, target_of}
use Rattle.thumb_isa.specs.declared.profile.Profile.{Profile}
use Rattle.thumb_core.specs.Step.{step_for, instr_for, effect}
use Rattle.thumb_core.specs.Stores.{stores_of, stores_of_some}
use Rattle.thumb_core.specs.Laws.{Leaves, LeavesMemory}
use Rattle.thumb_core.specs.declared.regs.TheConstants.{SP, LR}
use Rattle.thumb_core.specs.declared.regs.CoreTrap.{CoreTrap}
use Rattle.thumb_core.specs.declared.regs.CoreTrap.TheVariants as core
use Rattle.thumb_core.specs.declared.regs.Regs.{Regs}
use Rattle.thumb_core.specs.declared.regs.Stepped.{Stepped}
use Rattle.thumb_core.specs.declared.regs.Stepped.TheVariants.{Done, Call, Return, Gate, Trap}
use Rattle.thumb_core.specs.declared.ends.TrapKind.TheVariants as kind
use Rattle.thumb_core.specs.declared.ends.End.{End}
use Rattle.thumb_core.specs.declared.ends.End.TheVariants as the_end
use Rattle.thumb_ahead.specs.declared.undo_record.UndoRecord.{UndoRecord}
use Rattle.thumb_ahead.specs.declared.undo_record.UndoRecord.TheVariants.{Nothing}
use Rattle.thumb_ahead.specs.Ahead.{branches, branches_some, pushed_registers, pushes_some, is_fall_through, IsAhead, IsFallThrough, IsJump}
use Rattle.thumb_ahead.specs.declared.instruction.Ahead.{Ahead as Told}
use Rattle.thumb_ahead.specs.UndoRecord.{restore, Restores, InStack, lowest}
use Rattle.thumb_ahead.proofs.Stored.{AreWords, OnGo, on_go, step_is, effect_pushed, nothing_back}
use Rattle.thumb_ahead.proofs.Straight.{GoesOn, effect_goes}
use Rattle.eh_trace.specs.Trace.{Trace}
use Rattle.eh_gates.specs.declared.state.Core.{Core}
use Rattle.eh_gates.specs.State.{State, state_of, reg}
use Rattle.frame_check.specs.Accepts.{Accepted}
use Rattle.sim_machines.specs.Program.{Program, profile_in}
use Rattle.sim_machines.specs.Checked.{program_of}
use Rattle.run_images.specs.Profiles.{profile_of}
use Rattle.eh_machine.specs.Passes.{Passes, TriesInstruction, IsFetched, next_address}
use Rattle.eh_machine.specs.declared.pass.CheckedInstr.{CheckedInstr}
use Rattle.sim_machines.specs.Machine.{PassResult, is_raised, leaves_cleanup, control_flow_trap, refusal, tests, update_guards, update_guards_at, saved_words, pass_tests, pass_step, pass_instruction, with_pc_of}

-- ---- what a call has done, by its end

bus_inside : (fault : BusFault) (pc : ℕ) → is_fault (bus_end fault pc) ≡ false
bus_inside (bus.Unmapped a) pc = refl
bus_inside (bus.Unaligned a) pc = refl
bus_inside (bus.ReadOnly a) pc = refl
bus_inside (bus.SavedSlot a) pc = refl
bus_inside (bus.Protected a) pc = refl
bus_inside (bus.NotExecutable a) pc = refl

trap_inside : (trap : CoreTrap) (pc : ℕ) → is_fault (trap_end trap pc) ≡ false
trap_inside (core.Undefined first) pc = refl
trap_inside (core.Unpredictable first) pc = refl
trap_inside (core.NotInProfile first) pc = refl
trap_inside (core.EvenTarget target) pc = refl
trap_inside (core.Memory fault) pc = bus_inside fault pc

-- the end by a trap is no fault of the outside
pub by_trap : (trap : CoreTrap) (pc : ℕ) (end : End) → end ≡ trap_end trap pc → is_fault end ≡ false
by_trap trap pc end e = ap is_fault e ∙ trap_inside trap pc

module _ (p : Program) (before : Core) (m : Memory) (after : Core) (new : Memory) where
  pub ended : (end : End) → ((events : Trace) → ◌≡◌ {A = PassResult} (Err end, state_of after new events) (pass_instruction p (state_of before m events))) → is_fault end ≡ false
      → Passes p before m (Err end) after new
  ended end does inside = record { does = does; inside = inside; gate = λ number events e. absurd (cc) }

  pub went_on : (what : Stepped) → ((events : Trace) → ◌≡◌ {A = PassResult} (Ok what, state_of after new events) (pass_instruction p (state_of before m events)))
      → ((number : ℕ) (events : Trace) → ◌≡◌ {A = Result Stepped End} (Ok what) (Ok (Gate number)) → with_pc_of (state_of after new events) before.regs.pc ≡ state_of before m events)
      → Passes p before m (Ok what) after new
  went_on what does gate = record { does = does; inside = tt; gate = gate }

  -- an instruction that was tried and done
  pub was_done : (what : Stepped) → ((number : ℕ) → what ≡ Gate number → ⊥) → Passes p before m (Ok what) after new → TriesInstruction p before m true after new
  was_done what never h = record { done = λ e. record { what = what; no_gate = never; passes = h }; left = λ e. absurd (cc) }

  -- one that wasn't
  pub was_left : after ≡ before → new ≡ m → TriesInstruction p before m false after new
  was_left core memory = record { done = λ e. absurd (cc); left = λ e. (core, memory) }

-- ---- after a call that changed nothing

pub same_state : (core before : Core) (m n : Memory) (events : Trace) → (before ≡ core) × (n ≡ m) → state_of before n events ≡ state_of core m events
same_state core before m n events same = ap (λ (c : Core). state_of c n events) same.0 ∙ ap (λ (k : Memory). state_of core k events) same.1

pub same_fetched : (p : Program) (core before : Core) (m n : Memory) (at : CheckedInstr) → (before ≡ core) × (n ≡ m) → IsFetched p core.regs.pc m at → IsFetched p before.regs.pc n at
same_fetched p core before m n at same is = subst (λ (c : Core). IsFetched p c.regs.pc n at) (sym same.0) (subst (λ (k : Memory). IsFetched p core.regs.pc k at) (sym same.1) is)

pub same_told : (i : Instr) (ahead : Told) (core before : Core) → before ≡ core → IsAhead i core.regs ahead → IsAhead i before.regs ahead
same_told i ahead core before same told = subst (λ (c : Core). IsAhead i c.regs ahead) (sym same) told

-- not a trap
abbrev pub Goes : Stepped → Type 0
Goes what = (trap : CoreTrap) → what ≡ Trap trap → ⊥

module _ (p : Program) (s : State) where
  pub unchecked : (p.look s.regs.pc).is_instr ≡ false → ◌≡◌ {A = PassResult} (Err (the_end.Trap kind.FellOff s.regs.pc s.regs.pc), s) (pass_instruction p s)
  unfolding pass_instruction
  unchecked e = rw e refl

  is_checked : (o : Stepping) → (p.look s.regs.pc).is_instr ≡ true → o ≡ step_for (profile_in p) s.regs s.memory → pass_step p s o ≡ pass_instruction p s
  unfolding pass_instruction
  is_checked o e f = rw e (ap (pass_step p s) f)

  -- a trap of the instruction, which left registers and memory
  pub trap_passes : (trap : CoreTrap) (regs : Regs) (m : Memory) (end : End) → (p.look s.regs.pc).is_instr ≡ true → (Trap trap, regs, m) ≡ step_for (profile_in p) s.regs s.memory
      → regs ≡ s.regs → m ≡ s.memory → end ≡ trap_end trap s.regs.pc → ◌≡◌ {A = PassResult} (Err end, record s { regs = regs; memory = m }) (pass_instruction p s)
  trap_passes trap regs m end e f er em ee =
      let one : Regs → PassResult = λ r. (Err end, record s { regs = r; memory = m }) in
      let two : Memory → PassResult = λ n. (Err end, record s { memory = n }) in
      let three : End → PassResult = λ x. (Err x, s) in
      ap one er ∙ ap two em ∙ ap three ee ∙ is_checked (Trap trap, regs, m) e f

  module _ (what : Stepped) (regs : Regs) (m : Memory) (e : (p.look s.regs.pc).is_instr ≡ true) (f : (what, regs, m) ≡ step_for (profile_in p) s.regs s.memory) (h : Goes what) where
    goes : (w : Stepped) → Goes w → pass_step p s (w, regs, m) ≡ pass_tests p s w regs m (tests p s w regs)
    goes Done h = refl
    goes (Call target ret) h = refl
    goes (Return to) h = refl
    goes (Gate number) h = refl
    goes (Trap trap) h = absurd (h trap refl)

    is_tested : (o : Option End) → tests p s what regs ≡ o → pass_tests p s what regs m o ≡ pass_instruction p s
    is_tested o g = sym (goes what h ∙ ap (pass_tests p s what regs m) g) ∙ is_checked (what, regs, m) e f

    -- a test ended the run, and registers and memory are back
    pub refused_passes : (end : End) (back : Memory) → tests p s what regs ≡ Some end → back ≡ s.memory → ◌≡◌ {A = PassResult} (Err end, record s { memory = back }) (pass_instruction p s)
    refused_passes end back g em =
        let two : Memory → PassResult = λ n. (Err end, record s { memory = n }) in
        ap two em ∙ is_tested (Some end) g

    -- no test did
    pub tested_passes : (new : Memory) → tests p s what regs ≡ None → new ≡ update_guards_at p s regs m → ◌≡◌ {A = PassResult} (Ok what, record s { regs = regs; memory = new }) (pass_instruction p s)
    tested_passes new g en =
        let two : Memory → PassResult = λ n. (Ok what, record s { regs = regs; memory = n }) in
        ap two en ∙ is_tested None g

    -- what was kept gives the memory back
    pub restored : (kept : UndoRecord) (back : Memory) → Restores (profile_in p) kept s.regs s.memory → what ≡ Done → back ≡ restore kept m → back ≡ s.memory
    restored kept back t d eb = eb ∙ t regs m (sym f ∙ ap (λ (w : Stepped). (w, regs, m)) d)

    -- and what is neither done nor a trap left it
    left_back : (w : Stepped) → Goes w → (w ≡ Done → ⊥) → LeavesMemory w s.memory m → m ≡ s.memory
    left_back Done h d l = absurd (d refl)
    left_back (Call target ret) h d l = l
    left_back (Return to) h d l = l
    left_back (Gate number) h d l = l
    left_back (Trap trap) h d l = absurd (h trap refl)

    pub left_as_it_was : (what ≡ Done → ⊥) → LeavesMemory what s.memory m → m ≡ s.memory
    left_as_it_was d l = left_back what h d l

-- the tests, from what their calls answered
pub tests_are : (p : Program) (s : State) (what : Stepped) (regs : Regs) (landing : Option ℕ) (low : ℕ) (branches : Bool) (o : Option End)
    → landing ≡ innermost_of (word s.memory) s.globals → low ≡ s.memory.home.0 → branches ≡ branches_some (instr_for (profile_in p) s.memory s.regs.pc) s.regs
    → o ≡ refusal p (landing, low) (s.regs.pc, reg s SP) branches what regs → tests p s what regs ≡ o
tests_are p s what regs landing low branches o el eh eb eo =
    sym (eo
    ∙ ap (λ (l : Option ℕ). refusal p (l, low) (s.regs.pc, reg s SP) branches what regs) el
    ∙ ap (λ (n : ℕ). refusal p (innermost_of (word s.memory) s.globals, n) (s.regs.pc, reg s SP) branches what regs) eh
    ∙ ap (λ (b : Bool). refusal p (innermost_of (word s.memory) s.globals, s.memory.home.0) (s.regs.pc, reg s SP) b what regs) eb)

-- the guards, from what was told of the instruction
pub reguarded_is : (p : Program) (s : State) (regs : Regs) (m new : Memory) (saves count old sp : ℕ) → saves ≡ (p.look s.regs.pc).saves → count ≡ pushes_some (instr_for (profile_in p) s.memory s.regs.pc)
    → old ≡ reg s SP → sp ≡ slice_index regs.r SP → new ≡ update_guards saves count old sp m → new ≡ update_guards_at p s regs m
reguarded_is p s regs m new saves count old sp ea ec eo es e =
    e ∙ ap (λ (n : ℕ). update_guards n count old sp m) ea ∙ ap (λ (n : ℕ). update_guards (p.look s.regs.pc).saves n old sp m) ec
    ∙ ap (λ (n : ℕ). update_guards (p.look s.regs.pc).saves (pushes_some (instr_for (profile_in p) s.memory s.regs.pc)) n sp m) eo
    ∙ ap (λ (n : ℕ). update_guards (p.look s.regs.pc).saves (pushes_some (instr_for (profile_in p) s.memory s.regs.pc)) (reg s SP) n m) es

-- sp does not rise: the words of a push are guarded
pub guarded_is : (p : Program) (s : State) (regs : Regs) (m new : Memory) (saves count sp : ℕ) → saves ≡ (p.look s.regs.pc).saves → count ≡ pushes_some (instr_for (profile_in p) s.memory s.regs.pc)
    → sp ≡ slice_index regs.r SP → slice_index regs.r SP ≤ reg s SP → new ≡ guard_all (saved_words saves count sp) m → new ≡ update_guards_at p s regs m
guarded_is p s regs m new saves count sp ea ec es high e =
    e ∙ ap (λ (n : ℕ). guard_all (saved_words n count sp) m) ea ∙ ap (λ (n : ℕ). guard_all (saved_words (p.look s.regs.pc).saves n sp) m) ec
    ∙ ap (λ (n : ℕ). guard_all (saved_words (p.look s.regs.pc).saves (pushes_some (instr_for (profile_in p) s.memory s.regs.pc)) n) m) es
    ∙ sym (go (nat_lt (reg s SP) (slice_index regs.r SP)) (le-ltb (reg s SP) (slice_index regs.r SP) high)
    (guard_all (saved_words (p.look s.regs.pc).saves (pushes_some (instr_for (profile_in p) s.memory s.regs.pc)) (slice_index regs.r SP)) m))
  where
    go : (b : Bool) → b ≡ false → (guards : Memory) → cond b (without_guards_below guards (slice_index regs.r SP)) guards ≡ guards
    go true f guards = absurd (cc)
    go false f guards = refl

-- no word is pushed and sp stays: the guards stay
pub reguarded_none : (saves sp : ℕ) (m : Memory) → update_guards saves 0 sp sp m ≡ m
reguarded_none saves sp m = go (nat_lt sp sp) (not_below sp)
  where
    not_below : (n : ℕ) → nat_lt n n ≡ false
    not_below n = grind (arith)

    go : (b : Bool) → b ≡ false → cond b (without_guards_below m sp) m ≡ m
    go true e = absurd (cc)
    go false e = refl

-- at a gate
pub gate_stays : (p : Program) (saves count old sp number : ℕ) (s : State) (regs : Regs) (m new : Memory) → Leaves (instr_for (profile_in p) s.memory s.regs.pc) (Gate number) s.regs s.memory regs → m ≡ s.memory
    → count ≡ pushes_some (instr_for (profile_in p) s.memory s.regs.pc) → old ≡ reg s SP → sp ≡ slice_index regs.r SP → new ≡ update_guards saves count old sp m
    → with_pc_of (record s { regs = regs; memory = new }) s.regs.pc ≡ s
gate_stays p saves count old sp number s regs m new l em ec eo es en =
    let none : count ≡ 0 = ec ∙ ap pushes_some l.1 in
    let same : sp ≡ reg s SP = es ∙ ap (λ (r : Regs). slice_index r.r SP) l.2 in
    let kept : new ≡ s.memory =
    en ∙ ap (λ (n : ℕ). update_guards saves n old sp m) none ∙ ap (λ (n : ℕ). update_guards saves 0 n sp m) eo ∙ ap (λ (n : ℕ). update_guards saves 0 (reg s SP) n m) same
    ∙ reguarded_none saves (reg s SP) m ∙ em in
    let one : Regs → State = λ r. with_pc_of (record s { regs = r; memory = new }) s.regs.pc in
    let two : Memory → State = λ n. record s { memory = n } in
    ap one l.2 ∙ ap two kept

-- what was done is a gate
pub gate_done : (what : Stepped) (number : ℕ) → ◌≡◌ {A = Result Stepped End} (Ok what) (Ok (Gate number)) → what ≡ Gate number
gate_done what number e = cc

abbrev instr_or : Instr → Option (Instr × ℕ) → Instr
instr_or i None = i
instr_or i (Some at) = at.0

-- a gate is done by an SVC alone
pub not_gate : (i : Instr) (size : ℕ) (what : Stepped) (regs : Regs) (m : Memory) (after : Regs) → Leaves (Some (i, size)) what regs m after
    → ((imm : ℕ) → i ≡ Svc imm → ⊥) → (number : ℕ) → what ≡ Gate number → ⊥
not_gate i size (Gate n) regs m after l never number e = never n (ap (instr_or i) l.1)
not_gate i size Done regs m after l never number e = absurd (cc)
not_gate i size (Call target ret) regs m after l never number e = absurd (cc)
not_gate i size (Return to) regs m after l never number e = absurd (cc)
not_gate i size (Trap trap) regs m after l never number e = absurd (cc)

pub gate_passes : (p : Program) (what : Stepped) (saves count old sp number : ℕ) (s : State) (regs : Regs) (m new : Memory) → what ≡ Gate number
    → Leaves (instr_for (profile_in p) s.memory s.regs.pc) what s.regs s.memory regs → LeavesMemory what s.memory m
    → count ≡ pushes_some (instr_for (profile_in p) s.memory s.regs.pc) → old ≡ reg s SP → sp ≡ slice_index regs.r SP → new ≡ update_guards saves count old sp m
    → with_pc_of (record s { regs = regs; memory = new }) s.regs.pc ≡ s
gate_passes p what saves count old sp number s regs m new e l lm ec eo es en =
    gate_stays p saves count old sp number s regs m new (subst (λ (w : Stepped). Leaves (instr_for (profile_in p) s.memory s.regs.pc) w s.regs s.memory regs) e l)
    (subst (λ (w : Stepped). LeavesMemory w s.memory m) e lm) ec eo es en

-- where no test ended the run, sp is at or above the start of the running stack
pub above_low : (p : Program) (landing : Option ℕ) (low : ℕ) (at : ℕ × ℕ) (branches : Bool) (what : Stepped) (regs : Regs) → refusal p (landing, low) at branches what regs ≡ None
    → low ≤ slice_index regs.r SP
above_low p landing low at branches what regs e =
    go (is_raised (p.look at.0).lowers at.1 (slice_index regs.r SP)) (leaves_cleanup landing at.1 (slice_index regs.r SP)) (nat_lt (slice_index regs.r SP) low) refl e
  where
    go : (r a b : Bool) → nat_lt (slice_index regs.r SP) low ≡ b
        → option_or (cond r (Some (the_end.Trap kind.SpRaised (slice_index regs.r SP) at.0)) (cond a (Some (the_end.Trap kind.SpInCleanup (slice_index regs.r SP) at.0)) (cond b (Some (the_end.Trap kind.StackLimit (slice_index regs.r SP) at.0)) None))) (control_flow_trap p branches at.0 what regs) ≡ None
        → low ≤ slice_index regs.r SP
    go true a b f e = absurd (cc)
    go false true b f e = absurd (cc)
    go false false true f e = absurd (cc)
    go false false false f e = ltb-false _ _ f

-- ---- what was fetched by the rows of the image's profile

pub in_profile : (x : Accepted) (profile : Profile) (m : Memory) (a : ℕ) (o : Option (Instr × ℕ)) → profile ≡ profile_of x.image → instr_for profile m a ≡ o
    → instr_for (profile_in (program_of x)) m a ≡ o
in_profile x profile m a o is e = sym (ap (λ (p : Profile). instr_for p m a) is) ∙ e

pub does_in_profile : (x : Accepted) (profile : Profile) (regs : Regs) (m : Memory) (o : Stepping) → profile ≡ profile_of x.image → step_for profile regs m ≡ o
    → step_for (profile_in (program_of x)) regs m ≡ o
does_in_profile x profile regs m o is e = sym (ap (λ (p : Profile). step_for p regs m) is) ∙ e

-- ---- an instruction `at` pc

module _ (profile : Profile) (regs : Regs) (m : Memory) (at : Instr × ℕ) where
  -- its effect is a step
  pub at_step : (o : Stepping) → instr_for profile m regs.pc ≡ Some at → o ≡ effect at.0 at.1 regs m → o ≡ step_for profile regs m
  at_step o there e = e ∙ sym (step_is profile regs m at.0 at.1 there)

  pub branches_there : (is_taken : Bool) → instr_for profile m regs.pc ≡ Some at → is_taken ≡ branches at.0 regs → is_taken ≡ branches_some (instr_for profile m regs.pc) regs
  branches_there is_taken there e = e ∙ sym (ap (λ (o : Option (Instr × ℕ)). branches_some o regs) there)

  pub pushes_there : (n : ℕ) → instr_for profile m regs.pc ≡ Some at → n ≡ length (pushed_registers at.0) → n ≡ pushes_some (instr_for profile m regs.pc)
  pushes_there n there e = e ∙ sym (ap (λ (o : Option (Instr × ℕ)). pushes_some o) there)

  pub leaves_there : (what : Stepped) (after : Regs) → instr_for profile m regs.pc ≡ Some at → Leaves (Some at) what regs m after → Leaves (instr_for profile m regs.pc) what regs m after
  leaves_there what after there l = subst (λ (o : Option (Instr × ℕ)). Leaves o what regs m after) (sym there) l

  -- one that stores nothing
  pub none_stored : AreWords regs → instr_for profile m regs.pc ≡ Some at → stores_of at.0 regs ≡ None → Restores profile Nothing regs m
  none_stored small there e = nothing_back profile regs m small (ap (λ (o : Option (Instr × ℕ)). stores_of_some o regs) there ∙ e)

  -- .. leaves the memory
  pub none_changed : (what : Stepped) (after : Regs) (new : Memory) → AreWords regs → instr_for profile m regs.pc ≡ Some at → stores_of at.0 regs ≡ None
      → (what, after, new) ≡ effect at.0 at.1 regs m → Goes what → LeavesMemory what m new → new ≡ m
  none_changed Done after new small there none e h l = none_stored small there none after new (sym (at_step (Done, after, new) there e))
  none_changed (Call target ret) after new small there none e h l = l
  none_changed (Return to) after new small there none e h l = l
  none_changed (Gate number) after new small there none e h l = l
  none_changed (Trap trap) after new small there none e h l = absurd (h trap refl)

-- what it has done leaves the words that it pushes in the stack
pub in_stack : (regs : Regs) (m : Memory) (at : Instr × ℕ) (n : ℕ) (what : Stepped) (after : Regs) (new : Memory) → IsMap m → length regs.r ≡ 15 → n ≡ length (pushed_registers at.0)
    → (what, after, new) ≡ effect at.0 at.1 regs m → Goes what → 0 < n → InStack n after
in_stack regs m at n what after new x count e did h some =
    let all : 0 < length (pushed_registers at.0) = subst (λ (k : ℕ). 0 < k) e some in
    let on = subst (λ (o : Stepping). OnGo o.0 (InStack (length (pushed_registers at.0)) o.1)) (sym did) (effect_pushed at.0 at.1 regs m x count all) in
    subst (λ (k : ℕ). InStack k after) (sym e) (on_go what (InStack (length (pushed_registers at.0)) after) h on)

-- a test ended the run: registers and memory are back
pub stopped : (p : Program) (s : State) (at : Instr × ℕ) (what : Stepped) (regs : Regs) (m back : Memory) (landing : Option ℕ) (low : ℕ) (taken : Bool) (o : Option End) (end : End)
    → (p.look s.regs.pc).is_instr ≡ true → instr_for (profile_in p) s.memory s.regs.pc ≡ Some at → (what, regs, m) ≡ effect at.0 at.1 s.regs s.memory → Goes what
    → landing ≡ innermost_of (word s.memory) s.globals → low ≡ s.memory.home.0 → taken ≡ branches at.0 s.regs → o ≡ refusal p (landing, low) (s.regs.pc, reg s SP) taken what regs
    → o ≡ Some end → back ≡ s.memory → ◌≡◌ {A = PassResult} (Err end, record s { memory = back }) (pass_instruction p s)
stopped p s at what regs m back landing low taken o end reached there e h words home is_taken is some same =
    refused_passes p s what regs m reached (at_step (profile_in p) s.regs s.memory at (what, regs, m) there e) h end back
    (tests_are p s what regs landing low taken o words home (branches_there (profile_in p) s.regs s.memory at taken there is_taken) is ∙ some) same

-- what is told to go straight on does
pub straight : (regs : Regs) (m : Memory) (at : Instr × ℕ) (n : ℕ) (what : Stepped) (after : Regs) (new : Memory) → IsFallThrough at.0 regs n → InRange at.0 → length regs.r ≡ 15 → AreWords regs
    → 4 * n ≤ reg_of regs SP → (what, after, new) ≡ effect at.0 at.1 regs m → Goes what → GoesOn n at.1 regs what after
straight regs m at n what after new told range count small room e h =
    let k = length (pushed_registers at.0) in
    let room_k : 4 * k ≤ reg_of regs SP = subst (λ (j : ℕ). 4 * j ≤ reg_of regs SP) told.count room in
    let on = subst (λ (o : Stepping). OnGo o.0 (GoesOn k at.1 regs o.0 o.1)) (sym e) (effect_goes at.0 at.1 regs m told.fall_through told.taken range count small room_k) in
    subst (λ (j : ℕ). GoesOn j at.1 regs what after) (sym told.count) (on_go what (GoesOn k at.1 regs what after) h on)

-- no test ends a run where sp stays in the running stack and doesn't rise, and no function begins after the instruction
not_left : (landing : Option ℕ) (old new : ℕ) → new ≤ old → leaves_cleanup landing old new ≡ false
not_left None old new h = refl
not_left (Some landing) old new h = go (nat_lt old new) (le-ltb old new h)
  where
    go : (b : Bool) → b ≡ false → (b && nat_lt landing new) ≡ false
    go true e = absurd (cc)
    go false e = refl

not_raised : (lowers : Bool) (old new : ℕ) → new ≤ old → is_raised lowers old new ≡ false
not_raised true old new h = le-ltb old new h
not_raised false old new h = refl

none_refused : (p : Program) (landing : Option ℕ) (low pc old : ℕ) (regs : Regs) → slice_index regs.r SP ≤ old → low ≤ slice_index regs.r SP → (p.look regs.pc).is_function ≡ false
    → refusal p (landing, low) (pc, old) false Done regs ≡ None
none_refused p landing low pc old regs high above next =
    go (is_raised (p.look pc).lowers old (slice_index regs.r SP)) (leaves_cleanup landing old (slice_index regs.r SP)) (nat_lt (slice_index regs.r SP) low)
    ((p.look regs.pc).is_function) (not_raised (p.look pc).lowers old (slice_index regs.r SP) high) (not_left landing old (slice_index regs.r SP) high) (le-ltb (slice_index regs.r SP) low above) next
  where
    go : (r a b f : Bool) → r ≡ false → a ≡ false → b ≡ false → f ≡ false
        → option_or (cond r (Some (the_end.Trap kind.SpRaised (slice_index regs.r SP) pc)) (cond a (Some (the_end.Trap kind.SpInCleanup (slice_index regs.r SP) pc)) (cond b (Some (the_end.Trap kind.StackLimit (slice_index regs.r SP) pc)) None)))
        (cond f (Some (the_end.Trap kind.FellOff regs.pc pc)) None) ≡ None
    go true a b f er ea eb ef = absurd (cc)
    go false true b f er ea eb ef = absurd (cc)
    go false false true f er ea eb ef = absurd (cc)
    go false false false true er ea eb ef = absurd (cc)
    go false false false false er ea eb ef = refl

pub no_test : (p : Program) (s : State) (at : Instr × ℕ) (n low : ℕ) (what : Stepped) (after : Regs) → instr_for (profile_in p) s.memory s.regs.pc ≡ Some at → IsFallThrough at.0 s.regs n → low ≡ s.memory.home.0
    → GoesOn n at.1 s.regs what after → low ≤ lowest (reg_of s.regs SP) n → (p.look (even ((s.regs.pc + at.1) % 2 ^ 32))).is_function ≡ false → tests p s what after ≡ None
no_test p s at n low what after there told home on room next =
    let landing = innermost_of (word s.memory) s.globals in
    let taken : branches_some (instr_for (profile_in p) s.memory s.regs.pc) s.regs ≡ false = ap (λ (o : Option (Instr × ℕ)). branches_some o s.regs) there ∙ told.taken in
    let above : s.memory.home.0 ≤ slice_index after.r SP = subst (λ (k : ℕ). k ≤ slice_index after.r SP) home (le_trans room on.low) in
    let none = none_refused p landing s.memory.home.0 s.regs.pc (reg s SP) after on.high above (subst (λ (a : ℕ). (p.look a).is_function ≡ false) (sym on.pc) next) in
    ap (λ (w : Stepped). tests p s w after) on.done
    ∙ ap (λ (b : Bool). refusal p (landing, s.memory.home.0) (s.regs.pc, reg s SP) b Done after) taken ∙ none

pub as_done : (p : Program) (s t : State) (what : Stepped) → what ≡ Done → ◌≡◌ {A = PassResult} (Ok what, t) (pass_instruction p s) → ◌≡◌ {A = PassResult} (Ok Done, t) (pass_instruction p s)
as_done p s t what is e = let one : Stepped → PassResult = λ w. (Ok w, t) in sym (ap one is) ∙ e

-- what goes straight on goes to what follows it
pub goes_after : (i : Instr) (size a : ℕ) → is_fall_through i ≡ true → next_address i size a ≡ even ((a + size) % 2 ^ 32)
goes_after (Bl off) size a e = absurd (cc)
goes_after (ShiftImm op d k n) size a e = refl
goes_after (AddSubReg sub d n k) size a e = refl
goes_after (AddSubImm3 sub d n imm) size a e = refl
goes_after (Imm8 op d imm) size a e = refl
goes_after (Alu op d k) size a e = refl
goes_after (CmpHigh n k) size a e = refl
goes_after (Adr d off) size a e = refl
goes_after (AddRdSp d off) size a e = refl
goes_after (AddSp off) size a e = refl
goes_after (SubSp off) size a e = refl
goes_after (Extend op d k) size a e = refl
goes_after (Rev op d k) size a e = refl
goes_after (Hint n) size a e = refl
goes_after (Barrier op option) size a e = refl
goes_after (MovW d imm) size a e = refl
goes_after (MovT d imm) size a e = refl
goes_after (Div signed d n k) size a e = refl
goes_after (AddHigh d k) size a e = refl
goes_after (MovHigh d k) size a e = refl
goes_after (BCond c off) size a e = refl
goes_after (Cbz nonzero n off) size a e = refl
goes_after (B off) size a e = refl
goes_after (BWide off) size a e = refl
goes_after (Blx k) size a e = refl
goes_after (Bx k) size a e = refl
goes_after (Svc imm) size a e = refl
goes_after (LdrLit t off) size a e = refl
goes_after (MemReg op t n k) size a e = refl
goes_after (MemImm op t n off) size a e = refl
goes_after (MemSp is_load t off) size a e = refl
goes_after (Push list) size a e = refl
goes_after (Pop list) size a e = refl
goes_after (Stm n list) size a e = refl
goes_after (Ldm n list) size a e = refl

-- ---- a call of a function

-- with sp as it was and in the running stack no test ends the run
none_called : (p : Program) (landing : Option ℕ) (low pc old : ℕ) (taken : Bool) (target ret : ℕ) (regs : Regs) → slice_index regs.r SP ≡ old → low ≤ slice_index regs.r SP
    → (p.look target).is_function ≡ true → refusal p (landing, low) (pc, old) taken (Call target ret) regs ≡ None
none_called p landing low pc old taken target ret regs same above function =
    go (is_raised (p.look pc).lowers old (slice_index regs.r SP)) (leaves_cleanup landing old (slice_index regs.r SP)) (nat_lt (slice_index regs.r SP) low)
    ((p.look target).is_function) (not_raised (p.look pc).lowers old (slice_index regs.r SP) (omega (arith, same))) (not_left landing old (slice_index regs.r SP) (omega (arith, same)))
    (le-ltb (slice_index regs.r SP) low above) function
  where
    go : (r a b f : Bool) → r ≡ false → a ≡ false → b ≡ false → f ≡ true
        → option_or (cond r (Some (the_end.Trap kind.SpRaised (slice_index regs.r SP) pc)) (cond a (Some (the_end.Trap kind.SpInCleanup (slice_index regs.r SP) pc)) (cond b (Some (the_end.Trap kind.StackLimit (slice_index regs.r SP) pc)) None)))
        (cond f None (Some (the_end.Trap kind.BadCallTarget target pc))) ≡ None
    go true a b f er ea eb ef = absurd (cc)
    go false true b f er ea eb ef = absurd (cc)
    go false false true f er ea eb ef = absurd (cc)
    go false false false false er ea eb ef = absurd (cc)
    go false false false true er ea eb ef = refl

-- what a BL does
abbrev called : ℤ → ℕ → Regs → Stepped
called off size regs = Call (next_address (Bl off) size regs.pc) (link_of size regs)

abbrev after_call : ℤ → ℕ → Regs → Regs
after_call off size regs = with_pc (with_reg regs LR (link_of size regs)) (target_of off regs)

pub call_passes : (p : Program) (s : State) (off : ℤ) (size low : ℕ) (what : Stepped) (regs : Regs) (m : Memory) → (p.look s.regs.pc).is_instr ≡ true
    → instr_for (profile_in p) s.memory s.regs.pc ≡ Some (Bl off, size) → (what, regs, m) ≡ effect (Bl off) size s.regs s.memory
    → (p.look (next_address (Bl off) size s.regs.pc)).is_function ≡ true → low ≡ s.memory.home.0 → low ≤ reg s SP
    → ◌≡◌ {A = PassResult} (Ok what, record s { regs = regs; memory = m }) (pass_instruction p s)
call_passes p s off size low what regs m reached there e function home above =
    let call = called off size s.regs in
    let after = after_call off size s.regs in
    let landing = innermost_of (word s.memory) s.globals in
    let count : pushes_some (instr_for (profile_in p) s.memory s.regs.pc) ≡ 0 = ap (λ (o : Option (Instr × ℕ)). pushes_some o) there in
    let sp : slice_index after.r SP ≡ reg s SP = get_or-set_other s.regs.r 14 13 (word_in LR (link_of size s.regs)) 0 (omega arith) in
    let did : (call, after, s.memory) ≡ step_for (profile_in p) s.regs s.memory = at_step (profile_in p) s.regs s.memory (Bl off, size) (call, after, s.memory) there refl in
    let low_is : s.memory.home.0 ≤ slice_index after.r SP = subst (λ (k : ℕ). k ≤ slice_index after.r SP) home (omega (arith, above, sp)) in
    let t : tests p s call after ≡ None =
    none_called p landing s.memory.home.0 s.regs.pc (reg s SP) (branches_some (instr_for (profile_in p) s.memory s.regs.pc) s.regs)
    (next_address (Bl off) size s.regs.pc) (link_of size s.regs) after sp low_is function in
    let one : Stepping → PassResult = λ o. (Ok o.0, record s { regs = o.1; memory = o.2 }) in
    ap one e ∙ tested_passes p s call after s.memory reached did (λ trap x. cc) s.memory t
    (guarded_is p s after s.memory s.memory (p.look s.regs.pc).saves 0 (slice_index after.r SP) refl (sym count) refl (omega (arith, sp)) refl)

-- ---- a branch that is taken

-- with sp as it was and in the running stack no test ends the run
none_stops : (p : Program) (landing : Option ℕ) (low pc old : ℕ) (regs : Regs) → slice_index regs.r SP ≡ old → low ≤ slice_index regs.r SP
    → refusal p (landing, low) (pc, old) true Done regs ≡ None
none_stops p landing low pc old regs same above =
    go (is_raised (p.look pc).lowers old (slice_index regs.r SP)) (leaves_cleanup landing old (slice_index regs.r SP)) (nat_lt (slice_index regs.r SP) low)
    (not_raised (p.look pc).lowers old (slice_index regs.r SP) (omega (arith, same))) (not_left landing old (slice_index regs.r SP) (omega (arith, same)))
    (le-ltb (slice_index regs.r SP) low above)
  where
    go : (r a b : Bool) → r ≡ false → a ≡ false → b ≡ false
        → option_or (cond r (Some (the_end.Trap kind.SpRaised (slice_index regs.r SP) pc)) (cond a (Some (the_end.Trap kind.SpInCleanup (slice_index regs.r SP) pc)) (cond b (Some (the_end.Trap kind.StackLimit (slice_index regs.r SP) pc)) None))) None ≡ None
    go true a b er ea eb = absurd (cc)
    go false true b er ea eb = absurd (cc)
    go false false true er ea eb = absurd (cc)
    go false false false er ea eb = refl

pub jump_passes : (p : Program) (s : State) (at : Instr × ℕ) (to low : ℕ) → (p.look s.regs.pc).is_instr ≡ true → instr_for (profile_in p) s.memory s.regs.pc ≡ Some at → IsJump at.0 s.regs to
    → low ≡ s.memory.home.0 → low ≤ reg s SP → ◌≡◌ {A = PassResult} (Ok Done, record s { regs = record s.regs { pc = to } }) (pass_instruction p s)
jump_passes p s at to low reached there told home above =
    let after : Regs = record s.regs { pc = to } in
    let landing = innermost_of (word s.memory) s.globals in
    let taken : branches_some (instr_for (profile_in p) s.memory s.regs.pc) s.regs ≡ true = ap (λ (o : Option (Instr × ℕ)). branches_some o s.regs) there ∙ told.taken in
    let count : pushes_some (instr_for (profile_in p) s.memory s.regs.pc) ≡ 0 = ap (λ (o : Option (Instr × ℕ)). pushes_some o) there ∙ ap length told.pushes in
    let did : (Done, after, s.memory) ≡ step_for (profile_in p) s.regs s.memory = at_step (profile_in p) s.regs s.memory at (Done, after, s.memory) there (sym (told.goes at.1 s.memory)) in
    let t : tests p s Done after ≡ None =
    ap (λ (b : Bool). refusal p (landing, s.memory.home.0) (s.regs.pc, reg s SP) b Done after) taken
    ∙ none_stops p landing s.memory.home.0 s.regs.pc (reg s SP) after refl (subst (λ (k : ℕ). k ≤ reg s SP) home above) in
    tested_passes p s Done after s.memory reached did (λ trap e. cc) s.memory t
    (guarded_is p s after s.memory s.memory (p.look s.regs.pc).saves 0 (reg s SP) refl (sym count) refl (omega arith) refl)

-- no cleanup is in progress where their chain has no head
pub no_cleanup : (w : Pool) (g : Globals) → g.cleanup ≡ 0 → innermost_of w g ≡ None
unfolding block_slot
no_cleanup w g e = rw e refl

-- where sp stays no cleanup is left, so the landing sp plays no part
pub no_landing : (p : Program) (landing : Option ℕ) (low pc old : ℕ) (b : Bool) (what : Stepped) (regs : Regs) → slice_index regs.r SP ≡ old
    → refusal p (None, low) (pc, old) b what regs ≡ refusal p (landing, low) (pc, old) b what regs
no_landing p landing low pc old b what regs same =
    let new = slice_index regs.r SP in
    let with : Bool → Option End = λ x. option_or (cond (is_raised (p.look pc).lowers old new) (Some (the_end.Trap kind.SpRaised new pc))
    (cond x (Some (the_end.Trap kind.SpInCleanup new pc)) (cond (nat_lt new low) (Some (the_end.Trap kind.StackLimit new pc)) None))) (control_flow_trap p b pc what regs) in
    ap with (sym (not_left landing old new (omega (arith, same))))

-- pc back, as it was before a gate
pub back_at : (core : Core) (size : ℕ) (regs : Regs) → regs ≡ with_next size core.regs → record core { regs = record regs { pc = core.regs.pc } } ≡ core
back_at core size regs e = ap (λ (r : Regs). record core { regs = record r { pc = core.regs.pc } }) e
