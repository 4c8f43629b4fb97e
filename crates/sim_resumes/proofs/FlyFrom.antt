-- An exception flies from any site: its barrier is written, and then phase 2 enters the same in both machines.
use Rattle.std.proofs.Common.{refl, ◌≡◌, ℕ, inl, inr, true, List, ◌∷◌, Option, Some, None, sym, ap, subst, ◌∙◌, arith}
use Rattle.eh_bus.specs.Map.{IsMap}
use Rattle.eh_bus.specs.Memory.{Memory}
use Rattle.eh_cxa.specs.Stands.{Stands}
use Rattle.eh_cxa.specs.Throw.{set_barrier_of}
use Rattle.eh_cxa.specs.Words.{Write, word, block, block_slot, set_slot_words}
use Rattle.eh_cxa.specs.declared.globals.BarrierWords.{BarrierWords}
use Rattle.eh_cxa.specs.declared.layout.TheConstants.{BARRIER_SP, BARRIER_DESCRIPTOR}
use Rattle.eh_cxa.proofs.Meets.{barrier_meets}
use Rattle.eh_cxa.proofs.Pools.{slot_of_block_is, all_is_map}
use Rattle.eh_phase.specs.Calls.{stack_of}
use Rattle.eh_phase.specs.Cleanups.{is_reached}
use Rattle.eh_phase.specs.Frames.{frames_of}
use Rattle.eh_phase.specs.Laws.{goal_of}
use Rattle.eh_phase.specs.Phases.{phase2}
use Rattle.eh_phase.specs.declared.phase1.Barrier.{Barrier}
use Rattle.eh_phase.specs.declared.phase2.Goal.{Goal}
use Rattle.thumb_isa.specs.declared.instr.Instr.{Instr}
use Rattle.thumb_core.specs.Registers.{all_of}
use Rattle.thumb_core.specs.declared.regs.TheConstants.{SP}
use Rattle.frame_check.specs.Accepts.{Accepted}
use Rattle.eh_gates.specs.Landing.{enter_landing}
use Rattle.eh_gates.specs.State.{State, Outcome}
use Rattle.eh_gates.specs.Throwing.{handler_object, barrier_words, throw_to}
use Rattle.sim_machines.specs.Activations.{Recorded, reg_in, memory_of, heads, bytes_of, with_words, lists_of, cleanups_in}
use Rattle.sim_machines.specs.Checked.{program_of}
use Rattle.sim_machines.specs.Corresponds.{Corresponds, GateMatches}
use Rattle.sim_machines.specs.Landings.{IsInFlight}
use Rattle.sim_machines.specs.Program.{program_tables}
use Rattle.sim_machines.proofs.FirstEvent.{segments_alone}
use Rattle.sim_machines.specs.ActivationMachine as machine
use Rattle.sim_resumes.specs.Flying.{GatesFly, SearchesReach, all_frames, fly_from, CanFly, FlightsMatch}
use Rattle.sim_throws.proofs.ThrowKeeps.{throw_within}
use Rattle.sim_throws.proofs.ThrowReached.{throw_reached}
use Rattle.sim_steps.specs.sim_relation.Chain.{code}
use Rattle.sim_steps.specs.sim_relation.Cleanups.{goal_at, IsWithin}
use Rattle.sim_throws.specs.sim_frames.Frames.{ThrowsAt}
use Rattle.sim_steps.specs.sim_relation.Stands.{Keeps, IsProgram, DoesAt}
use Rattle.sim_throws.proofs.sim_frames.Agreement.{holds_there}
use Rattle.sim_throws.proofs.CleanupEntered.{barrier_sp, barrier_desc}
use Rattle.sim_throws.proofs.EndsKeep.{poured_keeps}
use Rattle.sim_resumes.proofs.FlyKeeps.{fly_matches, fly_keeps}
use Rattle.sim_steps.proofs.sim_relation.Goes.{chain_top}
use Rattle.sim_throws.proofs.Handler.{Wrote, wrote_one, barred_of}
use Rattle.sim_throws.proofs.CleanupKeeps.{word_same}
use Rattle.sim_resumes.proofs.FlyLands.{fly_enters}

pub gates_fly : GatesFly
unfolding machine.throw_to
gates_fly g site control b s = refl

pub searches_reach : SearchesReach
searches_reach x s site m b is k throws search = (throw_reached x is s k site throws m b search, throw_within x is s k site throws m b search)

module _ (x : Accepted) (is : IsProgram x) (s : Recorded) (k : Keeps x s) (site slot : ℕ) (b : Barrier) (can : CanFly x s site slot b) where
  abbrev words : BarrierWords
  words = barrier_words (block slot) b

  abbrev writes : List Write
  writes = set_barrier_of (Some slot) (barrier_words (block slot) b)

  -- after the words of the barrier
  abbrev following : Recorded
  following = with_words (set_barrier_of (Some slot) (barrier_words (block slot) b)) s

  is_slot : block_slot (block slot) ≡ Some slot
  is_slot = slot_of_block_is slot can.flight.small

  memory_is : set_slot_words writes (memory_of s) ≡ memory_of following
  memory_is = segments_alone writes (memory_of s)

  still : Corresponds following
  still = record {
    map = subst (λ (m : Memory). IsMap m) memory_is (all_is_map writes (memory_of s) k.corresponds.map);
    stands = subst (λ (m : Memory). Stands (word m) (heads (lists_of s)) (lists_of s)) memory_is
        (barrier_meets (memory_of s) (set_slot_words writes (memory_of s)) (block slot) words k.corresponds.map (record { sp = can.sp; object = can.object; desc = can.desc; pointer = can.pointer })
        (ap (λ (o : Option ℕ). set_slot_words (set_barrier_of o words) (memory_of s)) (sym is_slot)) (heads (lists_of s)) (lists_of s) k.corresponds.stands);
  }

  wrote : Wrote slot s following
  wrote = wrote_one slot writes s following can.flight.small (barred_of slot words) k.corresponds.map refl

  after_keeps : Keeps x following
  after_keeps = poured_keeps x s k (lists_of s) following.segments s.events k.counted slot wrote can.flight.idle still

  -- it stands at the site as before
  does_there : (i : Instr) → DoesAt x s i → DoesAt x following i
  does_there i does =
      let low = k.corresponds.map.home.low in
      let high = k.corresponds.map.home.high in
      let above = k.low in
      let top = chain_top x s.segments s.home s.first.caller s.outer k.chain in
      record {
        reached = does.reached;
        at = record {
          function = does.at.function;
          marks = does.at.marks;
          of = does.at.of;
          place = does.at.place;
          address = does.at.address;
          fact = does.at.fact;
          state = does.at.state;
          holds =
              holds_there s.segments following.segments wrote.stack (code x does.at.function does.at.marks).prologue does.at.fact s.first s.regs (reg_in s SP) k.slots (omega (arith, low, above)) (omega (arith, top, high))
              does.at.holds;
        };
        size = does.size;
        stands = does.stands;
      }

  throws_there : ThrowsAt x following site
  throws_there = go can.throws
    where
      go : ThrowsAt x s site → ThrowsAt x following site
      go (inl (imm, does, e)) = inl (imm, does_there _ does, e)
      go (inr (inl (m, does, e))) = inr (inl (m, does_there _ does, e))
      go (inr (inr (off, does, e))) = inr (inr (off, does_there _ does, e))

  same_goal : goal_at following slot ≡ goal_of b
  same_goal =
      let sp = word_same (set_slot_words writes (memory_of s)) (memory_of following) refl slot BARRIER_SP ∙ barrier_sp (memory_of s) slot words k.corresponds.map can.flight.small can.sp in
      let desc = word_same (set_slot_words writes (memory_of s)) (memory_of following) refl slot BARRIER_DESCRIPTOR ∙ barrier_desc (memory_of s) slot words k.corresponds.map can.flight.small can.desc in
      ap (λ (v : ℕ). let g : Goal = record { sp = v; desc = word (memory_of following) slot BARRIER_DESCRIPTOR } in g) sp ∙ ap (λ (v : ℕ). let g : Goal = record { sp = b.sp; desc = v } in g) desc

  reached_there : is_reached (goal_at following slot) 0 (all_frames x following site).frames ≡ true
  reached_there = subst (λ (g : Goal). is_reached g 0 (all_frames x s site).frames ≡ true) (sym same_goal) can.reached

  within_there : IsWithin (goal_at following slot).sp (cleanups_in s.cleanups)
  within_there = subst (λ (g : Goal). IsWithin g.sp (cleanups_in s.cleanups)) (sym same_goal) can.within

  abbrev flight : IsInFlight following slot
  flight = record { small = can.flight.small; flies = can.flight.flies; idle = can.flight.idle }

  -- what both machines do, from the state after those words
  abbrev on_bytes : Goal → Outcome
  on_bytes g = enter_landing (bytes_of following) (block slot) (handler_object (block slot) b.hit) (phase2 g 0 (frames_of x.image (stack_of (memory_of following)) None site (all_of s.regs)))

  abbrev on_lists : Goal → machine.Outcome
  on_lists g = machine.advances following (s.first ∷ s.outer) (block slot) (handler_object (block slot) b.hit) g 0 (all_frames x s site)

  bytes_fly : throw_to (program_tables (program_of x)) (bytes_of s) site (block slot) b ≡ on_bytes (goal_of b)
  unfolding throw_to
  bytes_fly =
      let after : Memory → State = λ m. record { regs = s.regs; globals = heads (lists_of s); memory = m; events = s.events } in
      let one : Memory → Outcome = λ m. enter_landing (after m) (block slot) (handler_object (block slot) b.hit) (phase2 (goal_of b) 0 (frames_of x.image (stack_of m) None site (all_of s.regs))) in
      ap (λ (o : Option ℕ). one (set_slot_words (set_barrier_of o words) (memory_of s))) is_slot ∙ ap one memory_is

  lists_fly : fly_from (program_tables (program_of x)) site (block slot) b s ≡ on_lists (goal_of b)
  lists_fly =
      ap (λ (o : Option ℕ). machine.advances (with_words (set_barrier_of o words) s) (s.first ∷ s.outer) (block slot) (handler_object (block slot) b.hit) (goal_of b) 0 (all_frames x s site)) is_slot

  pub flies_same : GateMatches (throw_to (program_tables (program_of x)) (bytes_of s) site (block slot) b) (fly_from (program_tables (program_of x)) site (block slot) b s)
  flies_same =
      subst (λ (o : Outcome). GateMatches o (fly_from (program_tables (program_of x)) site (block slot) b s)) (sym bytes_fly)
      (subst (λ (q : machine.Outcome). GateMatches (on_bytes (goal_of b)) q) (sym lists_fly)
      (subst (λ (g : Goal). GateMatches (on_bytes g) (on_lists g)) same_goal
      (fly_matches x is following after_keeps site throws_there slot (handler_object (block slot) b.hit) flight reached_there within_there)))

  pub flies_keep : Keeps x (fly_from (program_tables (program_of x)) site (block slot) b s).1
  flies_keep =
      subst (λ (q : machine.Outcome). Keeps x q.1) (sym lists_fly)
      (subst (λ (g : Goal). Keeps x (on_lists g).1) same_goal (fly_keeps x is following after_keeps site throws_there slot (handler_object (block slot) b.hit) flight reached_there within_there))

pub flights_match : FlightsMatch
flights_match x s site slot b is k can = record {
  same = flies_same x is s k site slot b can;
  keeps = flies_keep x is s k site slot b can;
  lands = fly_enters x is s k site can.throws (goal_of b) can.reached;
}
