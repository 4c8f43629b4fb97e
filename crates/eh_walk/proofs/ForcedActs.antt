-- A forced unwinding over bytes is the one over the activations that they stand for.
use Rattle.std.proofs.Common.{◌≡◌, ℕ, ◌<◌, ◌^◌, Bool, List, ◌∷◌, length, set, refl, sym, ap, subst, ◌∙◌, inl, inr, arith, get_or-set_same, Option, Some, None, Result, Ok, Err}
use Rattle.std.specs.Prelude.{All, is_some}
use Rattle.eh_bus.specs.Lists.{Has}
use Rattle.eh_bus.specs.Memory.{Memory}
use Rattle.elf_image.specs.Image.{Image, IsSound as IsImage}
use Rattle.eh_types.specs.Graph.{Row, row_of}
use Rattle.eh_cxa.specs.Allocate.{first_slot, allocate_of}
use Rattle.eh_cxa.specs.Cleanup.{innermost_of}
use Rattle.eh_cxa.specs.ListCalls.{with_entry, is_free, fresh_record, allocate_in, allocate_list, record_of_throw, throw_entry, throw_list, innermost_in}
use Rattle.eh_cxa.specs.Lists.{Entry, OutOfUse, Live, Lists, entry, slots, state_in}
use Rattle.eh_cxa.specs.Lists.{Outcome as Call}
use Rattle.eh_cxa.specs.Throw.{start_throw_of}
use Rattle.eh_cxa.specs.Words.{Write, Done, word, block, object, object_slot, set_slot_words, one_more}
use Rattle.eh_cxa.specs.declared.globals.Globals.{Globals}
use Rattle.eh_cxa.specs.declared.globals.CxaFault.{CxaFault}
use Rattle.eh_cxa.specs.declared.globals.CxaFault.TheVariants as fault
use Rattle.eh_cxa.specs.declared.layout.TheConstants.{SLOTS}
use Rattle.eh_cxa.specs.declared.state.State.TheVariants.{Fresh, Flying}
use Rattle.eh_cxa.proofs.Looking.{one_state}
use Rattle.eh_cxa.proofs.Pools.{slot_of_object_is}
use Rattle.eh_cxa.proofs.Zeros.{first_passes}
use Rattle.eh_phase.specs.Calls.{stack_of}
use Rattle.eh_phase.specs.Frames.{frames_of}
use Rattle.eh_phase.specs.Laws.{IsInOrder}
use Rattle.eh_phase.specs.Phases.{Frame, Frames}
use Rattle.eh_phase.specs.declared.phase1.Barrier.{Barrier}
use Rattle.eh_trace.specs.declared.event.Event.{Event}
use Rattle.thumb_isa.specs.declared.instr.Instr.{Instr}
use Rattle.thumb_core.specs.Registers.{all_of}
use Rattle.thumb_core.specs.declared.regs.TheConstants.{SP}
use Rattle.eh_gates.specs.declared.state.Turned.TheVariants.{Went, Ended}
use Rattle.eh_gates.specs.State.{State, Outcome, log_event}
use Rattle.frame_check.specs.Accepts.{Accepted, IsSound}
use Rattle.sim_machines.specs.Activations.{Recorded, reg_in, memory_of, bytes_of, heads, lists_of, words_in, cleanups_in, frames_at, outer_frames, with_lists}
use Rattle.sim_machines.specs.ActivationMachine.{with_new, flight_of, in_flight}
use Rattle.sim_machines.specs.ActivationMachine as acts
use Rattle.sim_machines.specs.Checked.{program_of}
use Rattle.sim_machines.specs.Corresponds.{Corresponds, OutcomesMatch}
use Rattle.sim_machines.specs.Program.{Program, program_tables}
use Rattle.sim_machines.proofs.CallEvents.{knows}
use Rattle.sim_machines.proofs.CallGates.{InStep, same_heads}
use Rattle.sim_machines.proofs.FirstEvent.{segments_alone}
use Rattle.sim_machines.proofs.WithLists.{lists_are, heads_same, allocate_keeps}
use Rattle.sim_relation.specs.Cleanups.{IsWithin}
use Rattle.sim_relation.specs.Stands.{Keeps, IsProgram, DoesAt, StandsFor}
use Rattle.sim_relation.proofs.Goes.{chain_top}
use Rattle.eh_machine.specs.sim_frames.Frames.{ThrowsAt}
use Rattle.eh_machine.specs.sim_frames.Landings.{Fit}
use Rattle.eh_machine.proofs.sim_frames.FramesSame.{frames_are_same, site_is}
use Rattle.eh_machine.proofs.sim_frames.Landing.{fit_top, fit_frames, rise_outside}
use Rattle.eh_machine.proofs.sim_throws.Landable.{AreSmall, AllGood, Good, good_at, good_framed, good_outside, small_next}
use Rattle.eh_machine.proofs.sim_throws.ThrowLands.{sp_is}
use Rattle.eh_machine.proofs.sim_throws.ThrowReached.{throw_in_order}
use Rattle.eh_machine.specs.sim_resumes.Flying.{fly_from, CanFly}
use Rattle.eh_machine.proofs.sim_resumes.FlyFrom.{flights_match, gates_fly}
use Rattle.sim_changes.proofs.Forced.{allocate_in_step, throw_in_step, allocate_keeps_all, throw_keeps_all, allocate_does, throw_does}
use Rattle.eh_machine.proofs.Following.{accepted_is}
use Rattle.eh_walk.specs.declared.forcing.Forcing.{Forcing}
use Rattle.eh_walk.specs.declared.stopping.ForceFault.{ForceFault}
use Rattle.eh_walk.specs.declared.stopping.ForceFault.TheVariants.{NotSite, PoolFull}
use Rattle.eh_walk.specs.declared.stopping.StopFrame.{StopFrame}
use Rattle.eh_walk.specs.Forced.{ForceResult, RecordedForced, forced_throw, forced_event, stop_barrier, with_new_words, flight_words, in_flight_words, flies, forced_flight, fly_allocated, allocate_and_fly, force_to_stop, force_from_site, force_outcome, recorded_flies, recorded_forced_flight, recorded_fly_allocated, recorded_allocate_and_fly, recorded_force_to_stop, recorded_force_from_site, recorded_force_outcome}
use Rattle.eh_walk.specs.Laws.{ForcedAlike, ForcesActivations, ForcingsSame}
use Rattle.eh_walk.specs.Sites.{site_state}
use Rattle.eh_walk.specs.Stops.{stop_at}
use Rattle.eh_walk.proofs.SiteStates.{throws_there}
use Rattle.eh_walk.proofs.StopFound.{StopIn, found, stop_reached, within_of, stops_agree}

-- ---- events of the trace play no part

logged_keeps : (x : Accepted) (s : Recorded) (e : Event) → Keeps x s → Keeps x (acts.log_event s e)
logged_keeps x s e k = record {
  corresponds = record { map = k.corresponds.map; stands = k.corresponds.stands };
  counted = k.counted;
  image = k.image;
  sound = k.sound;
  low = k.low;
  high = k.high;
  whole = k.whole;
  slots = k.slots;
  first = k.first;
  beyond = k.beyond;
  chain = k.chain;
  cleanups = k.cleanups;
}

logged_does : (x : Accepted) (s : Recorded) (e : Event) (i : Instr) → DoesAt x s i → DoesAt x (acts.log_event s e) i
logged_does x s e i d = record { reached = d.reached; at = d.at; size = d.size; stands = d.stands }

-- ---- a call on the words of the pool and on its lists

after_call : {A : Type 0} (s : Recorded) (c : Corresponds s) (d : Done A) (ws : List Write) (o : Call A) → InStep s d ws o
    → record (bytes_of s) { globals = d.globals; memory = set_slot_words d.writes (memory_of s) } ≡ bytes_of (with_lists o.lists ws s)
after_call s c d ws o i =
    let at : Globals → Memory → State = λ g m. record { regs = s.regs; globals = g; memory = m; events = s.events } in
    let g = heads (lists_of (with_lists o.lists ws s)) in
    ap (λ (h : Globals). at h (set_slot_words d.writes (memory_of s))) (same_heads s c d ws o i ∙ sym (heads_same o.lists ws s i.cleanups))
    ∙ ap (λ (vs : List Write). at g (set_slot_words vs (memory_of s))) (sym i.writes)
    ∙ ap (at g) (segments_alone ws (memory_of s))

-- ---- both alike

pub record Alike (x : Accepted) (o : ForceResult) (q : RecordedForced) : Type 0 where
  pub answer : o.0 ≡ q.0
  pub same : o.1 ≡ bytes_of q.1
  pub keeps : Keeps x q.1

alike_by : (x : Accepted) (o o' : ForceResult) (q q' : RecordedForced) → o ≡ o' → q ≡ q' → Alike x o' q' → Alike x o q
alike_by x o o' q q' e f a = subst (λ (v : ForceResult). Alike x v q) (sym e) (subst (λ (v : RecordedForced). Alike x o' v) (sym f) a)

state_matches : (o : Outcome) (q : acts.Outcome) → OutcomesMatch o q → o.1 ≡ bytes_of q.1
state_matches (Went, b) (Went, s) m = m
state_matches (Ended end, b) (Ended why, s) m = m.1
state_matches (Went, b) (Ended why, s) m = absurd m
state_matches (Ended end, b) (Went, s) m = absurd m

-- ---- a stop that was found

module _ (x : Accepted) (is : IsProgram x) (s : Recorded) (k : Keeps x s) (site : ℕ) (throws : ThrowsAt x s site) where
  abbrev frames : List Frame
  frames = (frames_at x.image None site (all_of s.regs) s.first s.outer).frames

  site_small : site < 2 ^ 32
  site_small = go throws
    where
      go : ThrowsAt x s site → site < 2 ^ 32
      go (inl (imm, does, e)) = let p = k.sound.small in omega (arith, e, p)
      go (inr (inl (m, does, e))) = let p = k.sound.small in omega (arith, e, p)
      go (inr (inr (off, does, e))) = let here = site_is x s site is throws in let h = here.below in let a = here.at.address in omega (arith, e, h, a)

  module _ (stop : StopFrame) (w : StopIn (innermost_in (cleanups_in s.cleanups)) frames stop) where
    sp_small : stop.sp < 2 ^ 32
    sp_small =
        let top = chain_top x s.segments s.home s.first.caller s.outer k.chain in
        let high = k.high in
        let roof = k.corresponds.map.home.high in
        let under =
        fit_top s.home.1 (reg_in s SP) w.inner w.frame w.outer (s.first ∷ s.outer) (omega (arith, high, top))
        (subst (λ (fs : List Frame). Fit (reg_in s SP) fs (s.first ∷ s.outer)) w.parts
        (subst (λ (n : ℕ). Fit n frames (s.first ∷ s.outer)) (sp_is x is s k site throws)
        (fit_frames x s.segments s.home None site (all_of s.regs) s.first s.outer k.whole k.chain)))
        (k.slots, high, top, rise_outside x s.segments s.home s.first.caller s.outer k.chain) in
        let e = ap (λ (q : StopFrame). q.sp) w.own.is in
        omega (arith, under, roof, e)

    desc_small : stop.desc < 2 ^ 32
    desc_small =
        let good : Good w.frame =
        good_at w.inner w.frame w.outer
        (subst AllGood w.parts (good_framed x.image (outer_frames x.image None s.first.caller s.outer) site (all_of s.regs) site_small (good_outside x.image None s.first.caller s.outer))) in
        let small = small_next w.own.before w.own.desc w.own.after (subst AreSmall w.own.parts good.0) in
        let low = small.0 in
        let e = ap (λ (q : StopFrame). q.desc) w.own.is in
        omega (arith, low, e)

    stop_within : IsWithin stop.sp (cleanups_in s.cleanups)
    stop_within = subst (λ (q : StopFrame). IsWithin q.sp (cleanups_in s.cleanups)) (sym w.own.is) (within_of w.frame.sp (cleanups_in s.cleanups) w.within)

    -- ---- the flight of a new exception, of a type

    module _ (type : ℕ) (small : type < 2 ^ 32) where
      abbrev p : Program
      p = program_of x

      abbrev f : Forcing
      f = record { site = site; ty = type; stop = stop }

      same_answer : (allocate_of (word (memory_of s)) 0).answer ≡ (allocate_list (lists_of s) 0).answer
      same_answer = (allocate_in_step s k.corresponds 0 (omega arith)).follows.same

      no_slot : first_slot (λ t. is_free (entry (lists_of s) t)) ≡ None → Alike x (allocate_and_fly p f (bytes_of s)) (recorded_allocate_and_fly p f s)
      no_slot e =
          let none : (allocate_list (lists_of s) 0).answer ≡ Err fault.PoolFull = ap (λ (o : Option ℕ). (allocate_in (lists_of s) 0 o).answer) e in
          alike_by x (allocate_and_fly p f (bytes_of s)) (Err PoolFull, bytes_of s) (recorded_allocate_and_fly p f s) (Err PoolFull, s)
          (ap (fly_allocated p f (bytes_of s)) (same_answer ∙ none)) (ap (recorded_fly_allocated p f s) none) (record { answer = refl; same = refl; keeps = k })

      module _ (slot : ℕ) (free : first_slot (λ t. is_free (entry (lists_of s) t)) ≡ Some slot) where
        abbrev t : Recorded
        t = acts.log_event (with_new 0 s) (forced_event (object slot) type)

        abbrev u : Recorded
        u = in_flight (object slot) (forced_throw type) t

        abbrev b : Barrier
        b = stop_barrier (object slot) stop

        low : slot < SLOTS
        low = (first_passes (λ t. is_free (entry (lists_of s) t)) slot free).0

        new_keeps : Keeps x (with_new 0 s)
        new_keeps = allocate_keeps_all x s 0 k (omega arith)

        t_keeps : Keeps x t
        t_keeps = logged_keeps x (with_new 0 s) (forced_event (object slot) type) new_keeps

        u_keeps : Keeps x u
        u_keeps = throw_keeps_all x t (object slot) (forced_throw type) t_keeps (record { ty = small; destructor = omega arith })

        -- in which the exception flies

        abbrev pub in_flight_of : Recorded
        in_flight_of = in_flight (object slot) (forced_throw type) (acts.log_event (with_new 0 s) (forced_event (object slot) type))

        pub in_flight_keeps : Keeps x in_flight_of
        in_flight_keeps = u_keeps

        -- the lists

        listed : ◌≡◌ {A = Call (Result ℕ CxaFault)} (allocate_list (lists_of s) 0) (record { answer = Ok (object slot); lists = with_entry (lists_of s) slot (Live (fresh_record 0)) })
        listed = ap (allocate_in (lists_of s) 0) free

        lists_t : lists_of t ≡ with_entry (lists_of s) slot (Live (fresh_record 0))
        lists_t =
            lists_are (allocate_list (lists_of s) 0).lists (allocate_of (words_in (lists_of s)) 0).writes s (allocate_keeps (lists_of s) 0)
            ∙ ap (λ (o : Call (Result ℕ CxaFault)). o.lists) listed

        entry_t : entry (lists_of t) slot ≡ Live (fresh_record 0)
        entry_t =
            let h = low in
            let z = k.corresponds.stands.shows.sized in
            let inside : slot < length s.entries = omega arith in
            ap (λ (l : Lists). entry l slot) lists_t ∙ get_or-set_same s.entries slot (Live (fresh_record 0)) OutOfUse inside

        abbrev flying : Lists
        flying = record {
          entries = set (lists_of t).entries slot (Live (record_of_throw (forced_throw type) (fresh_record 0)));
          caught = (lists_of t).caught;
          cleanups = (lists_of t).cleanups;
          uncaught = one_more (lists_of t).uncaught;
        }

        thrown_list : ◌≡◌ {A = Call (Result ℕ CxaFault)} (flight_of (object slot) (forced_throw type) t) (record { answer = Ok (block slot); lists = flying })
        thrown_list =
            ap (λ (o : Option ℕ). throw_list (lists_of t) o (forced_throw type)) (slot_of_object_is slot low)
            ∙ ap (λ (e : Entry). throw_entry (lists_of t) slot e (forced_throw type)) entry_t

        lists_u : lists_of u ≡ flying
        lists_u =
            lists_are (flight_of (object slot) (forced_throw type) t).lists (start_throw_of (words_in (lists_of t)) (heads (lists_of t)) (object_slot (object slot)) (forced_throw type)).writes t
            (ap (λ (o : Call (Result ℕ CxaFault)). o.lists.cleanups) thrown_list)
            ∙ ap (λ (o : Call (Result ℕ CxaFault)). o.lists) thrown_list

        flies_u : state_in (entry (lists_of u) slot) ≡ Some Flying
        flies_u =
            let h = low in
            let z = t_keeps.corresponds.stands.shows.sized in
            let inside : slot < length t.entries = omega arith in
            ap (λ (l : Lists). state_in (entry l slot)) lists_u
            ∙ ap state_in (get_or-set_same t.entries slot (Live (record_of_throw (forced_throw type) (fresh_record 0))) OutOfUse inside)

        idle : Has (slots (cleanups_in s.cleanups)) slot → ⊥
        idle h =
            let q : Some Fresh ≡ Some Flying = sym (ap state_in entry_t) ∙ t_keeps.corresponds.stands.valid.flying slot h in
            let r : Fresh ≡ Flying = one_state Fresh Flying q in
            absurd (cc)

        does_there : (i : Instr) → DoesAt x s i → DoesAt x u i
        does_there i does =
            throw_does x t (object slot) (forced_throw type) t_keeps (record { ty = small; destructor = omega arith }) i
            (logged_does x (with_new 0 s) (forced_event (object slot) type) i (allocate_does x s 0 k (omega arith) i does))

        throws_u : ThrowsAt x u site
        throws_u = go throws
          where
            go : ThrowsAt x s site → ThrowsAt x u site
            go (inl (imm, does, e)) = inl (imm, does_there _ does, e)
            go (inr (inl (m, does, e))) = inr (inl (m, does_there _ does, e))
            go (inr (inr (off, does, e))) = inr (inr (off, does_there _ does, e))

        ordered : All IsInOrder frames
        ordered = throw_in_order x is s k site throws

        pub can : CanFly x u site slot b
        can = record {
          throws = throws_u;
          flight = record { small = low; flies = flies_u; idle = idle };
          sp = sp_small;
          object = (let h = low in let o : object slot < 2 ^ 32 = omega (arith, h) in o);
          desc = desc_small;
          pointer = omega arith;
          reached = stop_reached (innermost_in (cleanups_in s.cleanups)) frames stop w ordered (object slot);
          within = stop_within;
        }

        -- over bytes

        bytes_new : with_new_words (bytes_of s) ≡ bytes_of (with_new 0 s)
        bytes_new =
            after_call s k.corresponds
            (record { answer = (allocate_of (word (memory_of s)) 0).answer; globals = heads (lists_of s); writes = (allocate_of (word (memory_of s)) 0).writes })
            (allocate_of (words_in (lists_of s)) 0).writes (allocate_list (lists_of s) 0) (allocate_in_step s k.corresponds 0 (omega arith))

        bytes_u : in_flight_words (object slot) (forced_throw type) (bytes_of t) ≡ bytes_of u
        bytes_u =
            after_call t t_keeps.corresponds (flight_words (object slot) (forced_throw type) (bytes_of t))
            (start_throw_of (words_in (lists_of t)) (heads (lists_of t)) (object_slot (object slot)) (forced_throw type)).writes (flight_of (object slot) (forced_throw type) t)
            (throw_in_step t t_keeps.corresponds (object slot) (forced_throw type) (record { ty = small; destructor = omega arith }))

        flight_answer : (flight_words (object slot) (forced_throw type) (bytes_of t)).answer ≡ Ok (block slot)
        flight_answer =
            (throw_in_step t t_keeps.corresponds (object slot) (forced_throw type) (record { ty = small; destructor = omega arith })).follows.same
            ∙ ap (λ (o : Call (Result ℕ CxaFault)). o.answer) thrown_list

        lands : flies (program_tables p) site b (Ok (block slot)) (bytes_of u) ≡ bytes_of (recorded_flies (program_tables p) site b (Ok (block slot)) u)
        lands =
            state_matches _ (fly_from (program_tables p) site (block slot) b u) (flights_match x u site slot b is u_keeps can).same.same
            ∙ ap (λ (q : acts.Outcome). bytes_of q.1) (sym (gates_fly (program_tables p) site (block slot) b u))

        pub recorded_lands : recorded_forced_flight p f (object slot) t ≡ recorded_flies (program_tables p) site b (Ok (block slot)) u
        recorded_lands = ap (λ (o : Call (Result ℕ CxaFault)). recorded_flies (program_tables p) site b o.answer u) thrown_list

        thrown_same : forced_flight p f (object slot) (log_event (with_new_words (bytes_of s)) (forced_event (object slot) type)) ≡ bytes_of (recorded_forced_flight p f (object slot) t)
        thrown_same =
            ap (λ (v : State). forced_flight p f (object slot) (log_event v (forced_event (object slot) type))) bytes_new
            ∙ ap (λ (r : Result ℕ CxaFault). flies (program_tables p) site b r (in_flight_words (object slot) (forced_throw type) (bytes_of t))) flight_answer
            ∙ ap (λ (v : State). flies (program_tables p) site b (Ok (block slot)) v) bytes_u ∙ lands ∙ ap bytes_of (sym recorded_lands)

        thrown_keeps : Keeps x (recorded_forced_flight p f (object slot) t)
        thrown_keeps =
            subst (Keeps x) (sym (recorded_lands ∙ ap (λ (q : acts.Outcome). q.1) (gates_fly (program_tables p) site (block slot) b u))) (flights_match x u site slot b is u_keeps can).keeps

        one_slot : Alike x (allocate_and_fly p f (bytes_of s)) (recorded_allocate_and_fly p f s)
        one_slot =
            let some : (allocate_list (lists_of s) 0).answer ≡ Ok (object slot) = ap (λ (o : Call (Result ℕ CxaFault)). o.answer) listed in
            alike_by x (allocate_and_fly p f (bytes_of s)) (fly_allocated p f (bytes_of s) (Ok (object slot))) (recorded_allocate_and_fly p f s) (recorded_fly_allocated p f s (Ok (object slot)))
            (ap (fly_allocated p f (bytes_of s)) (same_answer ∙ some)) (ap (recorded_fly_allocated p f s) some) (record { answer = refl; same = thrown_same; keeps = thrown_keeps })

      by_slot : (o : Option ℕ) → first_slot (λ t. is_free (entry (lists_of s) t)) ≡ o → Alike x (allocate_and_fly p f (bytes_of s)) (recorded_allocate_and_fly p f s)
      by_slot None e = no_slot e
      by_slot (Some slot) e = one_slot slot e

      pub flown_alike : Alike x (allocate_and_fly p f (bytes_of s)) (recorded_allocate_and_fly p f s)
      flown_alike = by_slot (first_slot (λ t. is_free (entry (lists_of s) t))) refl

-- ---- from any state

module _ (x : Accepted) (is : IsProgram x) (s : Recorded) (k : Keeps x s) (number type : ℕ) (small : type < 2 ^ 32) where
  abbrev holds : Bool
  holds = is_some (row_of x.types type)

  by_stop : (site : ℕ) → ThrowsAt x s site → (r : Result StopFrame ForceFault)
      → stop_at (innermost_in (cleanups_in s.cleanups)) holds number (frames_at x.image None site (all_of s.regs) s.first s.outer).frames ≡ r
      → Alike x (force_to_stop (program_of x) site type (bytes_of s) r) (recorded_force_to_stop (program_of x) site type s r)
  by_stop site throws (Ok stop) e =
      flown_alike x is s k site throws stop
      (found (innermost_in (cleanups_in s.cleanups)) holds number (frames_at x.image None site (all_of s.regs) s.first s.outer).frames stop e) type small
  by_stop site throws (Err why) e = record { answer = refl; same = refl; keeps = k }

  same_stop : (site : ℕ) → ThrowsAt x s site
      → stop_at (innermost_of (word (memory_of s)) (heads (lists_of s))) holds number (frames_of x.image (stack_of (memory_of s)) None site (all_of s.regs)).frames
      ≡ stop_at (innermost_in (cleanups_in s.cleanups)) holds number (frames_at x.image None site (all_of s.regs) s.first s.outer).frames
  same_stop site throws =
      let fs = frames_of x.image (stack_of (memory_of s)) None site (all_of s.regs) in
      let gs = frames_at x.image None site (all_of s.regs) s.first s.outer in
      ap (λ (l : Option ℕ). stop_at l holds number fs.frames) (knows s k.corresponds)
      ∙ stops_agree (innermost_in (cleanups_in s.cleanups)) holds number fs.frames gs.frames (ap (λ (v : Frames). v.frames) (frames_are_same x s site is k throws).all)

  by_site : (o : Option ℕ) → site_state (program_of x) s.regs (memory_of s) ≡ o
      → Alike x (force_from_site (program_of x) number type (bytes_of s) o) (recorded_force_from_site (program_of x) number type s o)
  by_site None e = record { answer = refl; same = refl; keeps = k }
  by_site (Some site) e =
      let throws = throws_there x s site is k e in
      subst (λ (r : Result StopFrame ForceFault). Alike x (force_to_stop (program_of x) site type (bytes_of s) r) (recorded_force_from_site (program_of x) number type s (Some site)))
      (sym (same_stop site throws)) (by_stop site throws _ refl)

  forced_alike : Alike x (force_outcome (program_of x) number type (bytes_of s)) (recorded_force_outcome (program_of x) number type s)
  unfolding force_outcome recorded_force_outcome
  forced_alike = by_site (site_state (program_of x) s.regs (memory_of s)) refl

pub forcings_same : ForcingsSame
forcings_same x b s number type is r small =
    let a = forced_alike x is s r.keeps number type small in
    subst (λ (c : State). ForcedAlike x number type s (force_outcome (program_of x) number type c).0 (force_outcome (program_of x) number type c).1) (sym r.same)
    (record { answer = a.answer; stands = record { same = a.same; keeps = a.keeps } })

pub forces : (x : Accepted) (number type : ℕ) (old new : State) (result : Result (Unit {0}) ForceFault) → IsImage x.image → IsSound x → type < 2 ^ 32
    → ◌≡◌ {A = ForceResult} (result, new) (force_outcome (program_of x) number type old) → ForcesActivations x number type old result new
forces x number type old new result image sound small e = λ s r.
    let a = forcings_same x old s number type (accepted_is x image sound) r small in
    record {
      answer = ap (λ (o : ForceResult). o.0) e ∙ a.answer;
      stands = subst (λ (c : State). StandsFor x c (recorded_force_outcome (program_of x) number type s).1) (sym (ap (λ (o : ForceResult). o.1) e)) a.stands;
    }

-- ---- as the call is made

module _ (p : Program) (number type : ℕ) (b : State) where
  pub at_no_site : site_state p b.regs b.memory ≡ None → ◌≡◌ {A = ForceResult} (Err NotSite, b) (force_outcome p number type b)
  unfolding force_outcome
  at_no_site e = sym (ap (force_from_site p number type b) e)

  pub at_site : (site : ℕ) (limit : Option ℕ) (holds : Bool) (image : Image) (types : List Row) (r : Result StopFrame ForceFault) → site_state p b.regs b.memory ≡ Some site
      → image ≡ p.image → types ≡ p.types → limit ≡ innermost_of (word b.memory) b.globals → holds ≡ is_some (row_of types type)
      → r ≡ stop_at limit holds number (frames_of image (stack_of b.memory) None site (all_of b.regs)).frames
      → force_outcome p number type b ≡ force_to_stop p site type b r
  unfolding force_outcome
  at_site site limit holds image types r e i t l h q =
      ap (force_from_site p number type b) e
      ∙ ap (force_to_stop p site type b)
      (ap (λ (v : Option ℕ). stop_at v (is_some (row_of p.types type)) number (frames_of p.image (stack_of b.memory) None site (all_of b.regs)).frames) (sym l)
      ∙ ap (λ (v : List Row). stop_at limit (is_some (row_of v type)) number (frames_of p.image (stack_of b.memory) None site (all_of b.regs)).frames) (sym t)
      ∙ ap (λ (v : Bool). stop_at limit v number (frames_of p.image (stack_of b.memory) None site (all_of b.regs)).frames) (sym h)
      ∙ ap (λ (v : Image). stop_at limit holds number (frames_of v (stack_of b.memory) None site (all_of b.regs)).frames) (sym i)
      ∙ sym q)
