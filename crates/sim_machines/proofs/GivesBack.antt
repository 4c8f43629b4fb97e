-- A return gives back what was recorded, and the frames of a throw are the activations.
use Rattle.std.proofs.Common.{◌≡◌, ℕ, ◌+◌, Bool, true, false, cond, List, [], ◌∷◌, ◌++◌, length, map, take, slice_index, Option, Some, None, Result, Ok, Err, refl, sym, ap, subst, ◌∙◌}
use Rattle.std.specs.Prelude.{IsSome}
use Rattle.std.proofs.lemmas.List.{get_or-append-add}
use Rattle.std.proofs.Math.Seq.{take-append_seam}
use Rattle.run_events.specs.Runs.{Event, Goes}
use Rattle.elf_image.specs.Image.{Image}
use Rattle.eh_bus.specs.Memory.{Memory}
use Rattle.eh_bytecode.specs.declared.recipe.Recipe.{Recipe}
use Rattle.eh_bytecode.specs.declared.recipe.RecipeFault.{RecipeFault}
use Rattle.eh_bytecode.specs.Recipe.{recipe}
use Rattle.eh_codes.specs.Cut.{split_codes}
use Rattle.eh_phase.specs.Frames.{site_of, entry_contents_at, end_of_frames, frame_and_outer, frame_of}
use Rattle.eh_phase.specs.Phases.{Frames}
use Rattle.eh_phase.specs.declared.walk.CoveringEntry.{CoveringEntry}
use Rattle.thumb_core.specs.declared.ends.Cause.TheVariants.{NoHandler, LeavesCleanup}
use Rattle.thumb_core.specs.Outcome.{Outcome as Stepping}
use Rattle.thumb_core.specs.Step.{step_for}
use Rattle.thumb_core.specs.declared.regs.CoreTrap.{CoreTrap}
use Rattle.thumb_core.specs.declared.regs.TheConstants.{SP}
use Rattle.thumb_core.specs.declared.regs.Regs.{Regs}
use Rattle.thumb_core.specs.declared.regs.Stepped.TheVariants.{Done, Call, Return, Gate, Trap}
use Rattle.thumb_core.specs.declared.ends.End.{End}
use Rattle.sim_machines.specs.Program.{Program, profile_in}
use Rattle.sim_machines.specs.Activations.{Caller, Activation, Recorded, memory_of, callee, registers_of, ends_at, if_recipe, activation_frames, outer_frames}
use Rattle.sim_machines.specs.ActivationMachine.{caller_registers, pass_tests, tests, record_step, pass_if_checked, pass_instruction, pass_step, pops_back, trap_or_return, event_after_pass, recorded_event, with_remaining, update_slots_at}
use Rattle.sim_machines.specs.ActivationLaws.{IsBack, IsWhole, IsReturn, AreWhole, ReturnsGiveBack, site_and_sp, recorded_places, FramesAreActivations}

-- ---- registers that a caller left

sp_after : (xs : List ℕ) (a sp : ℕ) (more : List ℕ) → length xs ≡ 8 → slice_index (xs ++ (a ∷ sp ∷ more)) 9 ≡ sp
sp_after xs a sp more h = ap (λ (n : ℕ). slice_index (xs ++ (a ∷ sp ∷ more)) (n + 1)) (sym h) ∙ get_or-append-add xs (a ∷ sp ∷ more) 1 0

saved_are : (xs ys : List ℕ) → length xs ≡ 8 → take 8 (xs ++ ys) ≡ xs
saved_are xs ys h = ap (λ (n : ℕ). take n (xs ++ ys)) (sym h) ∙ take-append_seam xs ys

-- ---- a return

left_regs : (acts : List Activation) (s : Recorded) → (with_remaining acts s).regs ≡ s.regs
left_regs [] s = refl
left_regs (a ∷ more) s = refl

is_back : (c : Caller) (t : Recorded) (regs : Regs) → length c.saved ≡ 8 → t.regs ≡ caller_registers c regs → IsBack c t
is_back c t regs h e = record {
  pc = ap (λ (r : Regs). r.pc) e;
  sp = ap (λ (r : Regs). slice_index r.r SP) e ∙ sp_after c.saved _ c.sp _ h;
  saved = ap (λ (r : Regs). callee r.r) e ∙ saved_are c.saved _ h;
}

module _ (p : Program) (s t : Recorded) (input text left : List ℕ) (whole : IsWhole s.first) where
  from_test : (to : ℕ) (regs : Regs) (m : Memory) (o : Option End) → event_after_pass p s (pass_tests p s (Return to) (caller_registers s.first.caller regs) m o) input ≡ Goes t text left → IsBack s.first.caller t
  from_test to regs m (Some end) e = absurd (cc)
  from_test to regs m None e =
      let after : Regs = caller_registers s.first.caller regs in
      let goes : ◌≡◌ {A = Event Recorded End} (Goes (record_step p s (Return to) after m) [] input) (Goes t text left) = e in
      let state : record_step p s (Return to) after m ≡ t = cc in
      let base = update_slots_at p s after (record s { regs = after; segments = m.segments }) in
      is_back s.first.caller t regs whole (ap (λ (x : Recorded). x.regs) (sym state) ∙ left_regs base.outer base)

  from_trap : (trap : CoreTrap) (o : Option Regs) → IsSome o → event_after_pass p s (trap_or_return p s trap o) input ≡ Goes t text left → IsBack s.first.caller t
  from_trap trap None h e = absurd (cc)
  from_trap trap (Some regs) h e = from_test s.first.caller.back regs (memory_of s) (tests p s (Return s.first.caller.back) (caller_registers s.first.caller regs)) e

  from_step : (o : Stepping) → IsReturn p s o.0 → event_after_pass p s (pass_step p s o) input ≡ Goes t text left → IsBack s.first.caller t
  from_step (Return to, regs, m) h e = from_test to regs m (tests p s (Return to) (caller_registers s.first.caller regs)) e
  from_step (Trap trap, regs, m) h e = from_trap trap (pops_back p s) h e
  from_step (Done, regs, m) h e = absurd h
  from_step (Call target ret, regs, m) h e = absurd h
  from_step (Gate number, regs, m) h e = absurd h

  from_check : (b : Bool) → IsReturn p s (step_for (profile_in p) s.regs (memory_of s)).0 → event_after_pass p s (pass_if_checked p s b) input ≡ Goes t text left → IsBack s.first.caller t
  from_check true h e = from_step (step_for (profile_in p) s.regs (memory_of s)) h e
  from_check false h e = absurd (cc)

pub gives_back : ReturnsGiveBack
unfolding recorded_event pass_instruction
gives_back p s t input text left h e whole = from_check p s t input text left whole (p.look s.regs.pc).is_instr h e

-- ---- the frames of a throw

abbrev Firsts : Frames → List (ℕ × ℕ) → Type 0
Firsts fs all = map site_and_sp fs.frames ≡ take (length fs.frames) all

framed_firsts : (further : Frames) (site : ℕ) (r : List ℕ) (c : Option CoveringEntry) (all : List (ℕ × ℕ)) → Firsts further all
    → Firsts (activation_frames further site r c) ((site, slice_index r SP) ∷ all)
framed_firsts further site r None all h = refl
framed_firsts further site r (Some c) all h = go (recipe (split_codes c.codes))
  where
    go : (d : Result Recipe RecipeFault) → Firsts (frame_and_outer (frame_of site r c) (if_recipe d further)) ((site, slice_index r SP) ∷ all)
    go (Ok done) = ap (λ (xs : List (ℕ × ℕ)). (site, slice_index r SP) ∷ xs) h
    go (Err why) = refl

outside_firsts : (image : Image) (place : Option ℕ) (c : Caller) (outer : List Activation) → length c.saved ≡ 8 → AreWhole outer → Firsts (outer_frames image place c outer) (recorded_places c outer)
outside_firsts image place c [] h w = go (ends_at place 0)
  where
    go : (b : Bool) → Firsts (cond b (end_of_frames LeavesCleanup) (end_of_frames NoHandler)) []
    go true = refl
    go false = refl
outside_firsts image place c (a ∷ more) h w = go (ends_at place (length (a ∷ more))) (outside_firsts image place a.caller more w.0 w.1)
  where
    go : (b : Bool) → Firsts (outer_frames image place a.caller more) (recorded_places a.caller more)
        → Firsts (cond b (end_of_frames LeavesCleanup) (activation_frames (outer_frames image place a.caller more) (site_of (registers_of c)) (registers_of c) (entry_contents_at image (site_of (registers_of c))))) (recorded_places c (a ∷ more))
    go true i = refl
    go false i =
        subst (λ (sp : ℕ). Firsts (activation_frames (outer_frames image place a.caller more) (site_of (registers_of c)) (registers_of c) (entry_contents_at image (site_of (registers_of c)))) ((site_of (registers_of c), sp) ∷ recorded_places a.caller more))
        (sp_after c.saved 0 c.sp (0 ∷ c.back ∷ []) h)
        (framed_firsts (outer_frames image place a.caller more) (site_of (registers_of c)) (registers_of c) (entry_contents_at image (site_of (registers_of c))) (recorded_places a.caller more) i)

pub frames_are : FramesAreActivations
frames_are image place site r a outer w =
    framed_firsts (outer_frames image place a.caller outer) site r (entry_contents_at image site) (recorded_places a.caller outer) (outside_firsts image place a.caller outer w.0 w.1)
