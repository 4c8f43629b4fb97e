-- Throws that find nothing, and the ends of cleanups, with recorded activations.
use Rattle.std.proofs.Common.{◌≡◌, ℕ, suc, ◌+◌, ◌-◌, ◌<◌, ◌≤◌, ◌==◌, ◌&&◌, Bool, true, false, cond, List, [], ◌∷◌, length, map, drop, slice_index, Option, Some, None, Result, Ok, Err, refl, sym, ap, subst, ◌∙◌, arith}
use Rattle.std.specs.Prelude.{is_some}
use Rattle.std.proofs.lemmas.Bool.Decides.{nat_tests}
use Rattle.std.proofs.lemmas.List.{drop-map, drop_all, length-drop, length-map}
use Rattle.elf_image.specs.Image.{Image}
use Rattle.eh_bytecode.specs.declared.recipe.Recipe.{Recipe}
use Rattle.eh_bytecode.specs.declared.recipe.RecipeFault.{RecipeFault}
use Rattle.eh_bytecode.specs.Recipe.{recipe}
use Rattle.eh_codes.specs.Cut.{split_codes}
use Rattle.eh_phase.specs.declared.walk.CoveringEntry.{CoveringEntry}
use Rattle.eh_cxa.specs.Lists.{Cleanup}
use Rattle.eh_cxa.specs.Throw.{barrier_of}
use Rattle.eh_cxa.specs.Words.{word, block, block_slot, object_slot}
use Rattle.eh_cxa.specs.declared.layout.TheConstants.{SLOTS}
use Rattle.eh_cxa.proofs.Pools.{slot_of_block_is}
use Rattle.eh_types.specs.Graph.{row_of}
use Rattle.eh_phase.specs.Frames.{site_of, entry_contents_at, end_of_frames, frame_and_outer, frame_of}
use Rattle.eh_phase.specs.Phases.{Frames, phase2}
use Rattle.eh_phase.specs.declared.phase1.Barrier.{Barrier}
use Rattle.eh_phase.specs.declared.phase2.Entered.{Entered}
use Rattle.eh_phase.specs.declared.phase2.Entered.TheVariants as enters
use Rattle.eh_phase.specs.declared.phase2.Goal.{Goal}
use Rattle.eh_phase.specs.declared.verdict.Thrown.{Thrown}
use Rattle.eh_trace.specs.declared.event.EventKind.{EventKind}
use Rattle.eh_trace.specs.declared.event.EventKind.TheVariants as event
use Rattle.thumb_core.specs.declared.regs.TheConstants.{SP}
use Rattle.thumb_core.specs.declared.ends.Cause.{Cause}
use Rattle.thumb_core.specs.declared.ends.Cause.TheVariants.{NoHandler, LeavesCleanup}
use Rattle.thumb_core.specs.declared.ends.TrapKind.TheVariants as kind
use Rattle.thumb_core.specs.declared.ends.End.{End}
use Rattle.thumb_core.specs.declared.ends.End.TheVariants as the_end
use Rattle.eh_gates.specs.declared.state.Turned.TheVariants.{Ended}
use Rattle.eh_gates.specs.State.{Tables}
use Rattle.eh_gates.specs.Throwing.{barrier_in, throw_event}
use Rattle.eh_gates.specs.Resuming.{goal_in}
use Rattle.sim_machines.specs.Activations.{Caller, Activation, InProgress, Recorded, registers_of, memory_of, ends_at, if_recipe, activation_frames, outer_frames, frames_at, release_slots, lists_of}
use Rattle.sim_machines.specs.ActivationMachine.{Outcome, gate_of, log_event, find_barrier, phase1_result, size_of, from_barrier, throw_to, throw_outcome, throw_gate, flies_first, gate_thrown, rethrow_outcome, rethrow_gate, flies_again, slot_thrown, can_unwind, resume_outcome, resumes_in, continue_flight, enter_landing, advances, passed_frame_count}
use Rattle.sim_machines.specs.ActivationLaws.{IsPassed, callers}
use Rattle.sim_machines.proofs.Passed.{landings_stand}
use Rattle.sim_machines.specs.RecordedGates.{EndsAlone, FailedSearchesAddTheirEvent, IsCalledBy, IsResumed, CleanupsEndInTheirOwn}

-- ---- a throw that finds no barrier

module _ (g : Tables) (s : Recorded) (what : EventKind) (thrown : Thrown) (why : End) (holds : is_some (row_of g.types thrown.ty) ≡ true) (none : barrier_in s.regs.pc (phase1_result g s thrown) ≡ Err why) where
  abbrev after : Recorded
  after = log_event s (throw_event what (memory_of s) thrown (size_of (lists_of s) (object_slot thrown.object)))

  found_none : ◌≡◌ {A = Result Barrier End × Recorded} (find_barrier g s what thrown) (Err why, after)
  unfolding find_barrier
  found_none =
      let one : Result Barrier End → Result Barrier End × Recorded = λ r. (r, after) in
      rw holds (ap one none)

  alone : (further : Barrier → Recorded → Outcome) (o : Outcome) → from_barrier further (find_barrier g s what thrown) ≡ o → EndsAlone what why s o
  alone further o e =
      subst (λ (q : Outcome). EndsAlone what why s q) (sym (ap (from_barrier further) found_none) ∙ e)
      (record { ends = refl; added = throw_event what (memory_of s) thrown (size_of (lists_of s) (object_slot thrown.object)); is = refl; only = refl })

pub searches_fail : FailedSearchesAddTheirEvent
unfolding gate_of
searches_fail g next s why = record {
  throw = λ block may holds none.
      alone g s event.Throw (gate_thrown s) why holds none (λ b t. throw_to g s.regs.pc block b (flies_first t)) (throw_gate g s) (ap (throw_outcome g s) (sym may));
  rethrow = λ block may holds none.
      alone g s event.Rethrow (slot_thrown (lists_of s) (block_slot block)) why holds none (λ b t. throw_to g s.regs.pc block b (flies_again t)) (rethrow_gate g s) (ap (rethrow_outcome g s) (sym may));
}

-- ---- the end of a cleanup

pub callers_left : (home : ℕ × ℕ) (sp : ℕ) (acts : List Activation) → callers (map (λ (b : Activation). release_slots home sp b) acts) ≡ callers acts
callers_left home sp [] = refl
callers_left home sp (a ∷ more) = ap (λ (cs : List Caller). a.caller ∷ cs) (callers_left home sp more)

-- no more frames than activations
few_framed : (further : Frames) (site : ℕ) (r : List ℕ) (c : Option CoveringEntry) (n : ℕ) → length further.frames ≤ n → length (activation_frames further site r c).frames ≤ n + 1
few_framed further site r None n h = omega arith
few_framed further site r (Some c) n h = go (recipe (split_codes c.codes))
  where
    go : (d : Result Recipe RecipeFault) → length (frame_and_outer (frame_of site r c) (if_recipe d further)).frames ≤ n + 1
    go (Ok done) = omega (arith, h)
    go (Err fault) = omega arith

few_outside : (image : Image) (place : Option ℕ) (c : Caller) (outer : List Activation) → length (outer_frames image place c outer).frames ≤ length outer
few_outside image place c [] = go (ends_at place 0)
  where
    go : (b : Bool) → length (cond b (end_of_frames LeavesCleanup) (end_of_frames NoHandler)).frames ≤ 0
    go true = omega arith
    go false = omega arith
few_outside image place c (a ∷ more) = go (ends_at place (length (a ∷ more))) (few_outside image place a.caller more)
  where
    go : (b : Bool) → length (outer_frames image place a.caller more).frames ≤ length more
        → length (cond b (end_of_frames LeavesCleanup) (activation_frames (outer_frames image place a.caller more) (site_of (registers_of c)) (registers_of c) (entry_contents_at image (site_of (registers_of c))))).frames ≤ length (a ∷ more)
    go true h = omega arith
    go false h =
        let f = few_framed (outer_frames image place a.caller more) (site_of (registers_of c)) (registers_of c) (entry_contents_at image (site_of (registers_of c))) (length more) h in
        omega arith

few : (image : Image) (place : Option ℕ) (site : ℕ) (r : List ℕ) (a : Activation) (outer : List Activation) → length (frames_at image place site r a outer).frames ≤ length (a ∷ outer)
few image place site r a outer =
    let f = few_framed (outer_frames image place a.caller outer) site r (entry_contents_at image site) (length outer) (few_outside image place a.caller outer) in
    omega arith

none_left : {A : Type 0} (n : ℕ) (xs : List A) → length xs ≤ n → drop n xs ≡ []
none_left n xs h = drop_all n xs h

some_left : {A : Type 0} (n : ℕ) (xs : List A) → drop n xs ≡ [] → length xs ≤ n
some_left {A} n xs e = let l : length (drop n xs) ≡ 0 = ap (λ (ys : List A). length ys) e in
    let m : length (drop n xs) ≡ length xs - n = length-drop n xs in
    omega arith

-- ---- what is entered, of a state without its innermost cleanup

module _ (s : Recorded) (c : Cleanup) (more : List InProgress) (h : c.slot < SLOTS) where
  abbrev ended_one : Recorded
  ended_one = record s { cleanups = more }

  module _ (b : Activation) (rest : List Activation) (object gone : ℕ) (acts : callers (b ∷ rest) ≡ drop gone (callers s.outer)) where
    same_acts : (sp : ℕ) → b.caller ∷ callers (map (λ (x : Activation). release_slots s.home sp x) rest) ≡ drop gone (callers s.outer)
    same_acts sp = ap (λ (cs : List Caller). b.caller ∷ cs) (callers_left s.home sp rest) ∙ acts

    -- the place of the cleanup that is entered: as many stand outside as before the slots below sp left
    entered_one : (r : List ℕ) (next site : ℕ)
        → ◌≡◌ {A = List InProgress} (record { cleanup = record { slot = c.slot; next = next; sp = slice_index r SP; site = site }; place = length rest } ∷ more)
        (record { cleanup = record { slot = c.slot; next = next; sp = slice_index r SP; site = site }; place = length (map (λ (x : Activation). release_slots s.home (slice_index r SP) x) rest) } ∷ more)
    entered_one r next site =
        ap (λ (n : ℕ).
        let all : List InProgress = record { cleanup = record { slot = c.slot; next = next; sp = slice_index r SP; site = site }; place = n } ∷ more in
        all)
        (sym (length-map rest (λ (x : Activation). release_slots s.home (slice_index r SP) x)))

    resumed : (e : Entered) → IsResumed s c more e (enter_landing ended_one (b ∷ rest) (block c.slot) object e)
    resumed (enters.Cleanup vrs pad next site) =
        rw (slot_of_block_is c.slot h) (record { goes = refl; regs = refl; cleanups = entered_one vrs.r next site; gone = gone; acts = same_acts (slice_index vrs.r SP) })
    resumed (enters.Catch vrs pad) =
        rw (slot_of_block_is c.slot h) (record { goes = refl; regs = refl; cleanups = refl; gone = gone; acts = same_acts (slice_index vrs.r SP) })
    resumed (enters.Spec vrs pad) =
        rw (slot_of_block_is c.slot h) (record { goes = refl; regs = refl; cleanups = refl; gone = gone; acts = same_acts (slice_index vrs.r SP) })
    resumed enters.Unexpected = record { ends = refl; regs = refl; cleanups = refl; first = refl; outer = refl }
    resumed (enters.Terminate why) = record { ends = refl; regs = refl; cleanups = refl; first = refl; outer = refl }

  over : (acts : List Activation) (object : ℕ) (why : Cause) → IsResumed s c more (enters.Terminate why) (enter_landing ended_one acts (block c.slot) object (enters.Terminate why))
  over acts object why = record { ends = refl; regs = refl; cleanups = refl; first = refl; outer = refl }

  module _ (object : ℕ) (g : Goal) (from : ℕ) (fs : Frames) (small : length fs.frames ≤ length s.outer) where
    abbrev j : ℕ
    j = passed_frame_count g from fs.frames

    advanced : (acts : List Activation) → drop j s.outer ≡ acts → IsResumed s c more (phase2 g from fs) (enter_landing ended_one acts (block c.slot) object (phase2 g from fs))
    advanced [] e =
        let low = some_left j s.outer e in
        let all : phase2 g from fs ≡ enters.Terminate fs.last = IsPassed.ends (landings_stand g from fs) (none_left j fs.frames (omega (arith, small, low))) in
        rw all (over [] object fs.last)
    advanced (b ∷ rest) e =
        resumed b rest object j (sym (ap callers e) ∙ sym (drop-map (λ (x : Activation). x.caller) j s.outer)) (phase2 g from fs)

    advances_so : IsResumed s c more (phase2 g from fs) (advances ended_one s.outer (block c.slot) object g from fs)
    advances_so = advanced (drop j s.outer) refl

module _ (g : Tables) (s : Recorded) (p : InProgress) (more : List InProgress) (cleanups : s.cleanups ≡ p ∷ more) where
  abbrev c : Cleanup
  c = p.cleanup

  -- the tests of the gate's activation passed
  tested : can_unwind (entry_contents_at g.image s.regs.pc) ≡ true → ◌≡◌ {A = Outcome} (resume_outcome g s s.cleanups) (resumes_in g s p more s.outer)
  tested u = ap (resume_outcome g s) cleanups ∙ rw u refl

  refused_at : (acts : List Activation) → s.outer ≡ acts → (IsCalledBy g s p → ⊥) → can_unwind (entry_contents_at g.image s.regs.pc) ≡ true
      → ◌≡◌ {A = Outcome} (resumes_in g s p more acts) (Ended (the_end.Trap kind.CleanupElsewhere s.first.caller.sp s.regs.pc), s)
  refused_at [] e n u = refl
  refused_at (a ∷ outer) e n u = go (s.first.caller.sp == c.sp) refl (length outer == p.place) refl
    where
      yes : Outcome
      yes = continue_flight g (record s { cleanups = more }) c s.first.caller a outer (barrier_of (word (memory_of s)) (Some c.slot))

      no : Outcome
      no = (Ended (the_end.Trap kind.CleanupElsewhere s.first.caller.sp s.regs.pc), s)

      go : (x : Bool) → (s.first.caller.sp == c.sp) ≡ x → (y : Bool) → (length outer == p.place) ≡ y → ◌≡◌ {A = Outcome} (cond (x && y) yes no) no
      go false v y q = refl
      go true v false q = refl
      go true v true q =
          let same : s.first.caller.sp ≡ c.sp = grind (arith, nat_tests) in
          let stands : length outer ≡ p.place = grind (arith, nat_tests) in
          let many : length s.outer ≡ p.place + 1 = ap (λ (xs : List Activation). length xs) e ∙ omega arith in
          absurd (n (record { unwinds = u; sp = same; place = many }))

  passes_tests : (a : Activation) (outer : List Activation) → s.outer ≡ a ∷ outer → IsCalledBy g s p
      → ◌≡◌ {A = Outcome} (resumes_in g s p more s.outer) (continue_flight g (record s { cleanups = more }) c s.first.caller a outer (barrier_of (word (memory_of s)) (Some c.slot)))
  passes_tests a outer e i =
      let same : (s.first.caller.sp == c.sp) ≡ true = let u = i.sp in grind (arith, nat_tests) in
      let many : suc (length outer) ≡ p.place + 1 = sym (ap (λ (xs : List Activation). length xs) e) ∙ i.place in
      let stands : (length outer == p.place) ≡ true = grind (arith, nat_tests) in
      ap (λ (acts : List Activation). resumes_in g s p more acts) e ∙ rw (same, stands) refl

  resumes_so : (a : Activation) (outer : List Activation) → c.slot < SLOTS → s.outer ≡ a ∷ outer → IsCalledBy g s p
      → IsResumed s c more (phase2 (goal_in (barrier_of (word (memory_of s)) (Some c.slot))) c.next (frames_at g.image None c.site (registers_of s.first.caller) a outer)) (resume_outcome g s s.cleanups)
  resumes_so a outer h e i =
      let b = barrier_of (word (memory_of s)) (Some c.slot) in
      let fs = frames_at g.image None c.site (registers_of s.first.caller) a outer in
      let small : length fs.frames ≤ length s.outer =
      subst (λ (acts : List Activation). length fs.frames ≤ length acts) (sym e) (few g.image None c.site (registers_of s.first.caller) a outer) in
      let is : ◌≡◌ {A = Outcome} (resume_outcome g s s.cleanups) (advances (record s { cleanups = more }) s.outer (block c.slot) b.object (goal_in b) c.next fs) =
      tested i.unwinds ∙ passes_tests a outer e i ∙ ap (λ (acts : List Activation). advances (record s { cleanups = more }) acts (block c.slot) b.object (goal_in b) c.next fs) (sym e) in
      subst (λ (o : Outcome). IsResumed s c more (phase2 (goal_in b) c.next fs) o) (sym is) (advances_so s c more h b.object (goal_in b) c.next fs small)

pub cleanups_end : CleanupsEndInTheirOwn
unfolding gate_of
cleanups_end g next s = record {
  none = λ e. ap (resume_outcome g s) e;
  stuck = λ p more e u. ap (resume_outcome g s) e ∙ rw u refl;
  elsewhere = λ p more e u n. tested g s p more e u ∙ refused_at g s p more e s.outer refl n u;
  resumes = λ p more a outer e h i o. resumes_so g s p more e a outer h o i;
}
