-- A throw that lands: of its cleanups in order and then its barrier it enters the first, and leaves the rest due; of any other exception what is due
-- stays.
use Rattle.std.proofs.Common.{◌≡◌, ℕ, ◌<◌, ◌^◌, List, [], ◌∷◌, Option, Some, None, refl, sym, ap, subst, ◌∙◌, true, arith}
use Rattle.std.proofs.lemmas.List.{get_or_append_left}
use Rattle.std.specs.Prelude.{slice_index, drop}
use Rattle.eh_bus.specs.Lists.{Has}
use Rattle.eh_bus.specs.Map.{IsMap}
use Rattle.eh_bus.specs.Memory.{Memory}
use Rattle.eh_cxa.specs.Lists.{slots}
use Rattle.eh_cxa.specs.Throw.{set_barrier_of}
use Rattle.eh_cxa.specs.Words.{word, block, set_slot_words}
use Rattle.eh_cxa.specs.declared.globals.BarrierWords.{BarrierWords}
use Rattle.eh_cxa.specs.declared.layout.TheConstants.{SLOTS, BARRIER_SP, BARRIER_DESCRIPTOR}
use Rattle.eh_cxa.proofs.Pools.{slot_of_block_is}
use Rattle.eh_gates.specs.Throwing.{handler_object, barrier_words}
use Rattle.eh_gates.specs.declared.state.Turned.TheVariants.{Went}
use Rattle.eh_phase.specs.Calls.{meeting}
use Rattle.eh_phase.specs.Cleanups.{remaining_landings, is_reached}
use Rattle.eh_phase.specs.Laws.{goal_of}
use Rattle.eh_phase.specs.Phases.{Frames, phase2}
use Rattle.eh_phase.specs.declared.phase1.Barrier.{Barrier}
use Rattle.eh_phase.specs.declared.phase2.Goal.{Goal}
use Rattle.eh_phase.specs.declared.verdict.Thrown.{Thrown}
use Rattle.thumb_core.specs.Registers.{all_of}
use Rattle.thumb_core.specs.declared.regs.TheConstants.{SP}
use Rattle.frame_check.specs.Accepts.{Accepted}
use Rattle.sim_machines.specs.Checked.{program_of}
use Rattle.sim_machines.specs.Program.{program_tables}
use Rattle.sim_machines.specs.Activations.{Activation, Recorded, reg_in, memory_of, with_words, with_lists, first_place, outer_frames, frames_at, cleanups_in, InProgress}
use Rattle.sim_machines.specs.ActivationMachine as machine
use Rattle.sim_relation.specs.Cleanups.{goal_at, AreInProgress}
use Rattle.sim_relation.specs.Stands.{Keeps, IsProgram}
use Rattle.sim_relation.proofs.Goes.{chain_top}
use Rattle.sim_frames.specs.Landings.{Fit, Rise}
use Rattle.sim_frames.proofs.Landing.{fit_frames, rise_outside}
use Rattle.sim_runs.proofs.sim_throws.Bounds.{puts_other}
use Rattle.sim_runs.proofs.sim_throws.CleanupEntered.{barrier_sp, barrier_desc}
use Rattle.sim_runs.proofs.sim_throws.CleanupKeeps.{word_same}
use Rattle.sim_runs.proofs.sim_throws.Handler.{barred_of, map_with}
use Rattle.sim_runs.proofs.sim_throws.Landable.{AllGood, good_framed, good_outside}
use Rattle.sim_landings.specs.Landings.{stands_at, pads, AreFirst}
use Rattle.sim_landings.specs.Due.{due_among, left_due}
use Rattle.sim_landings.proofs.Beside.{SameBarrier, same_goal, beside_same, barrier_then, same_segments}
use Rattle.sim_landings.proofs.Flies.{FliesTo}
use Rattle.sim_landings.proofs.FlightDue.{is_landed, flight_due}
use Rattle.sim_landings.proofs.Kept.{Moved}
use Rattle.sim_landings.proofs.Landed.{IsLanded}
use Rattle.sim_landings.proofs.Others.{others_kept}
use Rattle.sim_landings.proofs.Reached.{IsSmall, found_reached, goal_small}

-- the frames of all live activations from a site of the first
abbrev pub frames_from : Accepted → Recorded → ℕ → Frames
frames_from x s site = frames_at x.image None site (all_of s.regs) s.first s.outer

module _ (x : Accepted) (is : IsProgram x) (s : Recorded) (k : Keeps x s) (site : ℕ) where
  sp_is : slice_index (all_of s.regs) SP ≡ reg_in s SP
  sp_is = get_or_append_left s.regs.r (s.regs.pc ∷ []) 0 13 (let count = k.sound.words.count in omega (arith, count))

  pub fit : Fit (reg_in s SP) (frames_from x s site).frames (s.first ∷ s.outer)
  fit = subst (λ (n : ℕ). Fit n (frames_from x s site).frames (s.first ∷ s.outer)) sp_is (fit_frames x s.segments s.home None site (all_of s.regs) s.first s.outer k.whole k.chain)

  rise : Rise s.home.1 (reg_in s SP) (s.first ∷ s.outer)
  rise = (k.slots, k.high, chain_top x s.segments s.home s.first.caller s.outer k.chain, rise_outside x s.segments s.home s.first.caller s.outer k.chain)

  good : site < 2 ^ 32 → AllGood (frames_from x s site).frames
  good low = good_framed x.image (outer_frames x.image None s.first.caller s.outer) site (all_of s.regs) low (good_outside x.image None s.first.caller s.outer)

  -- a barrier within reach is named by words
  pub small_goal : site < 2 ^ 32 → (b : Barrier) → is_reached (goal_of b) 0 (frames_from x s site).frames ≡ true → (b.sp < 2 ^ 32) × (b.desc < 2 ^ 32)
  small_goal low b reached =
      let top = chain_top x s.segments s.home s.first.caller s.outer k.chain in
      let high = k.high in
      let w : IsSmall (goal_of b) s.home.1 = goal_small (goal_of b) 0 s.home.1 (reg_in s SP) (frames_from x s site).frames (s.first ∷ s.outer) (omega (arith, high, top)) fit rise (good low) reached in
      let roof = k.corresponds.map.home.high in
      let sp = w.0 in
      (omega (arith, sp, roof), w.1)

-- ---- what flies

-- An exception of a slot flies from a state with the activations, registers and cleanups of one that keeps.
module _ (x : Accepted) (is : IsProgram x) (s : Recorded) (k : Keeps x s) (v t : Recorded) (site slot : ℕ) (b : Barrier) (small : slot < SLOTS) (regs : v.regs ≡ s.regs) (first : v.first ≡ s.first) (outer : v.outer ≡ s.outer)
    (cleanups : v.cleanups ≡ s.cleanups) (map : IsMap (memory_of v)) (same : (u : ℕ) → SameBarrier s v u) (idle : Has (slots (cleanups_in s.cleanups)) slot → ⊥)
    (sp : b.sp < 2 ^ 32) (desc : b.desc < 2 ^ 32) (reached : is_reached (goal_of b) 0 (frames_from x s site).frames ≡ true) where
  abbrev words : BarrierWords
  words = barrier_words (block slot) b

  abbrev pub barred : Recorded
  barred = with_words (set_barrier_of (Some slot) words) v

  own_goal : goal_at barred slot ≡ goal_of b
  own_goal =
      let there : Memory = set_slot_words (set_barrier_of (Some slot) words) (memory_of v) in
      let low : word (memory_of barred) slot BARRIER_SP ≡ b.sp = word_same there (memory_of barred) refl slot BARRIER_SP ∙ barrier_sp (memory_of v) slot words map small sp in
      let at : word (memory_of barred) slot BARRIER_DESCRIPTOR ≡ b.desc = word_same there (memory_of barred) refl slot BARRIER_DESCRIPTOR ∙ barrier_desc (memory_of v) slot words map small desc in
      ap (λ (n : ℕ). let g : Goal = record { sp = n; desc = word (memory_of barred) slot BARRIER_DESCRIPTOR } in g) low ∙ ap (λ (n : ℕ). let g : Goal = record { sp = b.sp; desc = n } in g) at

  other_barrier : (u : ℕ) → (u ≡ slot → ⊥) → SameBarrier v barred u
  other_barrier u differ j low high =
      same_segments (set_slot_words (set_barrier_of (Some slot) words) (memory_of v)) (memory_of barred) refl u j ∙ puts_other (set_barrier_of (Some slot) words) (memory_of v) slot u j (barred_of slot words) differ (omega (arith, high))

  abbrev fs : Frames
  fs = frames_from x s site

  acts_same : s.first ∷ s.outer ≡ barred.first ∷ barred.outer
  acts_same = sym (ap (λ (a : Activation). a ∷ v.outer) first ∙ ap (λ (xs : List Activation). s.first ∷ xs) outer)

  idle_there : Has (slots (cleanups_in barred.cleanups)) slot → ⊥
  idle_there h = idle (subst (λ (cs : List InProgress). Has (slots (cleanups_in cs)) slot) cleanups h)

  module _ (went : machine.advances barred (s.first ∷ s.outer) (block slot) (handler_object (block slot) b.hit) (goal_of b) 0 fs ≡ (Went, t)) where
    landing : IsLanded barred (drop (machine.passed_frame_count (goal_of b) 0 fs.frames) (s.first ∷ s.outer)) slot (phase2 (goal_of b) 0 fs) t
    landing =
        is_landed x.image is.image barred t 0 s.first s.outer acts_same slot (handler_object (block slot) b.hit) small idle_there (goal_of b) own_goal 0 site (all_of s.regs) (reg_in s SP) (fit x is s k site) reached went

    pub flight_lands : AreFirst (stands_at t ∷ left_due x.image t slot) (pads (remaining_landings (goal_of b) 0 fs.frames))
    flight_lands =
        flight_due x.image is.image barred t 0 s.first s.outer acts_same slot (handler_object (block slot) b.hit) small idle_there (goal_of b) own_goal 0 site (all_of s.regs) (reg_in s SP) (fit x is s k site) reached went

    pub flight_leaves : Keeps x t → (u : ℕ) → (slot ≡ u → ⊥) → left_due x.image t u ≡ left_due x.image s u
    flight_leaves kt u differ =
        let barriers : SameBarrier s t u = barrier_then s v t u (same u) (barrier_then v barred t u (other_barrier u (λ e. differ (sym e))) (landing.same u)) in
        let there : AreInProgress x s (reg_in s SP) barred.cleanups = subst (AreInProgress x s (reg_in s SP)) (sym cleanups) k.cleanups in
        others_kept x s t barred (subst (λ (xs : List Activation). Moved xs (t.first ∷ t.outer)) (sym acts_same) landing.moved) (drop (machine.passed_frame_count (goal_of b) 0 fs.frames) (s.first ∷ s.outer)) slot u (reg_in s SP) (reg_in t SP) differ there kt.cleanups
        (λ h. same_goal s t u barriers) (phase2 (goal_of b) 0 fs) landing.listed
        ∙ ap (due_among x.image s u) cleanups

-- ---- a throw or a rethrow

module _ (x : Accepted) (is : IsProgram x) (s : Recorded) (k : Keeps x s) (t : Recorded) (slot : ℕ) (small : slot < SLOTS) (thrown : Thrown) (f : FliesTo (program_tables (program_of x)) s t slot thrown) where
  threw_reached : is_reached (goal_of f.barrier) 0 (frames_from x s s.regs.pc).frames ≡ true
  threw_reached = found_reached (meeting (program_tables (program_of x)).image (program_tables (program_of x)).types s.segments thrown) x.image (first_place s.cleanups) s.regs.pc (all_of s.regs) s.first s.outer f.barrier f.found

  same_there : (u : ℕ) → SameBarrier s (with_lists f.lists f.writes (machine.log_event s f.told)) u
  same_there u = beside_same f.writes s (with_lists f.lists f.writes (machine.log_event s f.told)) u f.beside refl

  idle : Has (slots (cleanups_in s.cleanups)) slot → ⊥
  idle h = f.idle (k.corresponds.stands.valid.flying slot h)

  words_small : (f.barrier.sp < 2 ^ 32) × (f.barrier.desc < 2 ^ 32)
  words_small = small_goal x is s k s.regs.pc k.sound.small f.barrier threw_reached

  map_there : IsMap (memory_of (with_lists f.lists f.writes (machine.log_event s f.told)))
  map_there = map_with f.writes s k.corresponds.map

  went : machine.advances (with_words (set_barrier_of (Some slot) (barrier_words (block slot) f.barrier)) (with_lists f.lists f.writes (machine.log_event s f.told))) (s.first ∷ s.outer) (block slot) (handler_object (block slot) f.barrier.hit) (goal_of f.barrier) 0
      (frames_from x s s.regs.pc) ≡ (Went, t)
  unfolding machine.throw_to
  went =
      ap (λ (o : Option ℕ). machine.advances (with_words (set_barrier_of o (barrier_words (block slot) f.barrier)) (with_lists f.lists f.writes (machine.log_event s f.told))) (s.first ∷ s.outer) (block slot) (handler_object (block slot) f.barrier.hit)
      (goal_of f.barrier) 0 (frames_from x s s.regs.pc)) (sym (slot_of_block_is slot small))
      ∙ f.goes

  pub threw_lands : AreFirst (stands_at t ∷ left_due x.image t slot) (pads (remaining_landings (goal_of f.barrier) 0 (frames_from x s s.regs.pc).frames))
  threw_lands =
      flight_lands x is s k (with_lists f.lists f.writes (machine.log_event s f.told)) t s.regs.pc slot f.barrier small refl refl refl refl map_there same_there idle words_small.0 words_small.1 threw_reached went

  pub threw_leaves : Keeps x t → (u : ℕ) → (slot ≡ u → ⊥) → left_due x.image t u ≡ left_due x.image s u
  threw_leaves =
      flight_leaves x is s k (with_lists f.lists f.writes (machine.log_event s f.told)) t s.regs.pc slot f.barrier small refl refl refl refl map_there same_there idle words_small.0 words_small.1 threw_reached went
