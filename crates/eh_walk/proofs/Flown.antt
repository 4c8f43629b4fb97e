-- What the calls of a forced unwinding do one after the other is its definition.
use Rattle.std.proofs.Common.{◌≡◌, ℕ, ◌==◌, nat_lt, Bool, true, false, cond, List, [], Option, Some, None, Result, Ok, Err, refl, sym, ap, ◌∙◌}
use Rattle.eh_bus.specs.Memory.{Memory}
use Rattle.elf_image.specs.Image.{Image}
use Rattle.eh_types.specs.Graph.{Row}
use Rattle.eh_cxa.specs.Allocate.{first_slot, allocate_at, allocate_of}
use Rattle.eh_cxa.specs.Throw.{start_throw_of}
use Rattle.eh_cxa.specs.Words.{Pool, Write, word, set_slot_words, wrote, call_result, object_slot}
use Rattle.eh_cxa.specs.declared.globals.Globals.{Globals}
use Rattle.eh_cxa.specs.declared.globals.CxaFault.{CxaFault}
use Rattle.eh_cxa.specs.declared.globals.CxaFault.TheVariants.{TooBig}
use Rattle.eh_cxa.specs.declared.layout.TheConstants.{OBJECT_BYTES, STATE}
use Rattle.eh_cxa.specs.declared.state.TheConstants.{FREE}
use Rattle.eh_trace.specs.Trace.{Trace, push_event}
use Rattle.eh_gates.specs.declared.state.Core.{Core}
use Rattle.eh_gates.specs.declared.state.Turned.{Turned}
use Rattle.eh_gates.specs.State.{State, Outcome, state_of, tables_of}
use Rattle.eh_gates.specs.Throwing.{throw_to}
use Rattle.eh_phase.specs.declared.phase1.Barrier.{Barrier}
use Rattle.sim_machines.specs.Program.{Program, program_tables}
use Rattle.eh_walk.specs.declared.forcing.Forcing.{Forcing}
use Rattle.eh_walk.specs.declared.stopping.ForceFault.TheVariants.{PoolFull}
use Rattle.eh_walk.specs.Forced.{ForceResult, forced_throw, forced_event, stop_barrier, flies, forced_flight, fly_allocated, allocate_and_fly}

-- a refused allocation writes nothing
writes_none : (w : Pool) (why : CxaFault) → (allocate_of w 0).answer ≡ Err why → (allocate_of w 0).writes ≡ []
writes_none w why = by_size (nat_lt OBJECT_BYTES 0)
  where
    by_slot : (o : Option ℕ) → (allocate_at 0 o).answer ≡ Err why → (allocate_at 0 o).writes ≡ []
    by_slot None e = refl
    by_slot (Some s) e = absurd cc

    by_size : (b : Bool) → (cond b (record { answer = Err TooBig; writes = [] }) (allocate_at 0 (first_slot (λ s. w s STATE == FREE)))).answer ≡ Err why
        → (cond b (record { answer = Err TooBig; writes = [] }) (allocate_at 0 (first_slot (λ s. w s STATE == FREE)))).writes ≡ []
    by_size true e = refl
    by_size false e = by_slot (first_slot (λ s. w s STATE == FREE)) e

module _ (p : Program) (f : Forcing) (core : Core) (m : Memory) (events : Trace) where
  abbrev old : State
  old = state_of core m events

  pub refused_fly : (why : CxaFault) (m1 : Memory) → ◌≡◌ {A = Result ℕ CxaFault × Memory} (Err why, m1) (wrote (allocate_of (word m) 0) m)
      → ◌≡◌ {A = ForceResult} (Err PoolFull, state_of core m1 events) (allocate_and_fly p f old)
  refused_fly why m1 e =
      let answer : (allocate_of (word m) 0).answer ≡ Err why = sym (ap (λ (q : Result ℕ CxaFault × Memory). q.0) e) in
      let same : m1 ≡ m = ap (λ (q : Result ℕ CxaFault × Memory). q.1) e ∙ ap (λ (ws : List Write). set_slot_words ws m) (writes_none (word m) why answer) in
      let at : Memory → ForceResult = λ n. (Err PoolFull, state_of core n events) in
      ap at same ∙ sym (ap (fly_allocated p f old) answer)

  module _ (object : ℕ) (m1 : Memory) (e : ◌≡◌ {A = Result ℕ CxaFault × Memory} (Ok object, m1) (wrote (allocate_of (word m) 0) m))
      (now : Trace) (added : now ≡ push_event events (forced_event object f.ty)) where
    abbrev middle : State
    middle = state_of core m1 now

    new_is : allocate_and_fly p f old ≡ (Ok tt, forced_flight p f object middle)
    new_is =
        let answer : (allocate_of (word m) 0).answer ≡ Ok object = sym (ap (λ (q : Result ℕ CxaFault × Memory). q.0) e) in
        let same : set_slot_words (allocate_of (word m) 0).writes m ≡ m1 = sym (ap (λ (q : Result ℕ CxaFault × Memory). q.1) e) in
        let at : Memory → ForceResult = λ n. (Ok tt, forced_flight p f object (state_of core n (push_event events (forced_event object f.ty)))) in
        let with : Trace → ForceResult = λ n. (Ok tt, forced_flight p f object (state_of core m1 n)) in
        ap (fly_allocated p f old) answer ∙ ap at same ∙ ap with (sym added)

    module _ (r : Result ℕ CxaFault) (g2 : Globals) (m2 : Memory)
        (s : ◌≡◌ {A = Result ℕ CxaFault × Globals × Memory} (r, g2, m2) (call_result (start_throw_of (word m1) core.globals (object_slot object) (forced_throw f.ty)) m1)) where
      abbrev before : State
      before = record { regs = core.regs; globals = g2; memory = m2; events = now }

      thrown_is : forced_flight p f object middle ≡ flies (program_tables p) f.site (stop_barrier object f.stop) r before
      thrown_is =
          let at : Result ℕ CxaFault × Globals × Memory → State = λ q.
          flies (program_tables p) f.site (stop_barrier object f.stop) q.0 (record { regs = core.regs; globals = q.1; memory = q.2; events = now }) in
          sym (ap at s)

      pub left_fly : (why : CxaFault) → r ≡ Err why → ◌≡◌ {A = ForceResult} (Ok tt, before) (allocate_and_fly p f old)
      left_fly why q =
          let at : State → ForceResult = λ n. (Ok tt, n) in
          sym (new_is ∙ ap at (thrown_is ∙ ap (λ (o : Result ℕ CxaFault). flies (program_tables p) f.site (stop_barrier object f.stop) o before) q))

      pub done_fly : (block : ℕ) → r ≡ Ok block → (image : Image) (types : List Row) → image ≡ p.image → types ≡ p.types → (b : Barrier) → b ≡ stop_barrier object f.stop
          → (turned : Turned) (new : State) → ◌≡◌ {A = Outcome} (turned, new) (throw_to (tables_of image types) before f.site block b) → ◌≡◌ {A = ForceResult} (Ok tt, new) (allocate_and_fly p f old)
      done_fly block q image types i t b d turned new w =
          let at : State → ForceResult = λ n. (Ok tt, n) in
          let by : throw_to (tables_of image types) before f.site block b ≡ throw_to (program_tables p) before f.site block (stop_barrier object f.stop) =
          ap (λ (v : Image). throw_to (tables_of v types) before f.site block b) i
          ∙ ap (λ (v : List Row). throw_to (tables_of p.image v) before f.site block b) t
          ∙ ap (throw_to (program_tables p) before f.site block) d in
          let last : new ≡ flies (program_tables p) f.site (stop_barrier object f.stop) (Ok block) before = ap (λ (o : Outcome). o.1) (w ∙ by) in
          ap at last ∙ sym (new_is ∙ ap at (thrown_is ∙ ap (λ (o : Result ℕ CxaFault). flies (program_tables p) f.site (stop_barrier object f.stop) o before) q))
