-- The frames that unwinding gives, from one frame on outwards, are those of the recorded activations: the tests of each new sp pass, a limit and the
-- place of a cleanup's activation end them alike.
use Rattle.std.proofs.Common.{◌≡◌, ℕ, ◌<◌, ◌≤◌, List, Some, ◌⊎◌, None, false, [], ◌∷◌, length, Option, refl, map, ap, ◌∙◌, ◌++◌, arith, sym, ◌+◌, ◌-◌, ◌%◌, ◌^◌, ◌==◌, inl, inr, Bool, true, cond, subst}
use Rattle.std.specs.Prelude.{slice_index, Ok, Result, Err}
use Rattle.std.proofs.lemmas.List.{get_or_append_left, get_or-append_right}
use Rattle.std.proofs.lemmas.Bool.{eqb-true}
use Rattle.std.proofs.lemmas.Bool.Decides.{nat_tests}
use Rattle.sim_relation.specs.sim_machines.Activations.{Caller, Activation, ends_at, registers_of, if_recipe, activation_frames, outer_frames}
use Rattle.elf_image.specs.Image.{Image}
use Rattle.eh_bus.specs.Segment.{Segment}
use Rattle.eh_codes.specs.Cut.{split_codes}
use Rattle.eh_bytecode.specs.Meaning.{unwind_result}
use Rattle.eh_bytecode.specs.Recipe.{recipe}
use Rattle.eh_bytecode.specs.declared.recipe.Recipe.{Recipe}
use Rattle.eh_phase.specs.Frames.{entry_contents_at, is_above, frame_and_outer, frame_of, Stack, is_no_frame, caller_of, check_caller, outer, site_of, end_of_frames, frames_of_caller, frames_of_entry, frames_in, MOST_FRAMES}
use Rattle.eh_phase.specs.declared.walk.CoveringEntry.{CoveringEntry}
use Rattle.eh_phase.specs.Laws.{frame_through}
use Rattle.eh_phase.specs.Phases.{Frame, Frames}
use Rattle.sim_relation.specs.sim_machines.Agreeing.{preserved_registers, Agree}
use Rattle.eh_bus.specs.declared.map.TheConstants.{STACK_START, STACK_END}
use Rattle.run_gates.specs.declared.gates.TheConstants.{NO_CALLER}
use Rattle.thumb_core.specs.declared.ends.Cause.{Cause}
use Rattle.thumb_core.specs.declared.ends.Cause.TheVariants.{NoHandler, CannotUnwind, LeavesCleanup}
use Rattle.eh_bytecode.specs.declared.frame.UnwindEnd.{UnwindEnd}
use Rattle.eh_bytecode.specs.declared.frame.Vrs.{Vrs}
use Rattle.eh_bytecode.specs.declared.recipe.RecipeFault.{RecipeFault}
use Rattle.eh_phase.proofs.Whole.{frames_are_whole}
use Rattle.frame_check.specs.Accepts.{Accepted}
use Rattle.frame_check.specs.Judged.{IsPlaced}
use Rattle.frame_check.specs.Roots.{flow_graph_of}
use Rattle.frame_check.proofs.Wells.{placed_at}
use Rattle.frame_check.proofs.frame_reach.Stands.{stands_inside}
use Rattle.sim_relation.specs.Holds.{recorded_register, IsWhole}
use Rattle.sim_relation.specs.sim_code.Recipes.{AreRegisters}
use Rattle.sim_relation.proofs.sim_code.Entries.{IsStuck}
use Rattle.sim_relation.specs.Chain.{StandsAtCall, Chain}
use Rattle.sim_relation.specs.Stands.{IsProgram}
use Rattle.sim_relation.proofs.Goes.{chain_top}
use Rattle.sim_relation.proofs.sim_code.Results.{refusing}

-- ---- what becomes of a frame

-- registers that an activation recorded of its caller, as unwinding gives them
pub record IsNew (c : Caller) (new : List ℕ) : Type 0 where
  pub registers : AreRegisters new
  pub saved : (k : ℕ) → 4 ≤ k → k < 12 → slice_index new k ≡ recorded_register c k
  pub sp : slice_index new 13 ≡ c.sp
  pub pc : slice_index new 15 ≡ c.back

-- codes with a recipe, and what unwinding by them gives is what the activation recorded
pub record GoesOut (image : Image) (segments : List Segment) (site : ℕ) (r : List ℕ) (c : Caller) : Type 0 where
  pub covered : CoveringEntry
  pub covers : entry_contents_at image site ≡ Some covered
  pub of : Recipe
  pub recipe : recipe (split_codes covered.codes) ≡ Ok of
  pub new : List ℕ
  pub unwinds : unwind_result segments r (split_codes covered.codes) ≡ Ok new
  pub is : IsNew c new

-- nothing covers the site, the codes refuse, or they give the caller
abbrev pub Unwinds : Image → List Segment → ℕ → List ℕ → Caller → Type 0
Unwinds image segments site r c = (entry_contents_at image site ≡ None) ⊎ (IsStuck image site ⊎ GoesOut image segments site r c)

-- ---- where frames end

-- a limit on sp and the place of an activation stop at the same activation
abbrev pub StopAlike : Option ℕ → Option ℕ → Caller → List Activation → Type 0
StopAlike limit place c [] = is_above limit c.sp ≡ ends_at place 0
StopAlike limit place c (a ∷ more) = (is_above limit c.sp ≡ ends_at place (length (a ∷ more))) × (is_above limit c.sp ≡ false → StopAlike limit place a.caller more)

pub none_stop : (c : Caller) (acts : List Activation) → StopAlike None None c acts
none_stop c [] = refl
none_stop c (a ∷ more) = (refl, λ e. none_stop a.caller more)

-- ---- frames that agree

agree_framed : (f g : Frame) (fs gs : Frames) → frame_through preserved_registers f ≡ frame_through preserved_registers g → Agree fs gs → Agree (frame_and_outer f fs) (frame_and_outer g gs)
agree_framed f g fs gs e h =
    ap (λ (v : Frame). let r : Frames = record { frames = v ∷ map (frame_through preserved_registers) fs.frames; last = fs.last } in r) e
    ∙ ap (λ (v : Frames). let r : Frames = record { frames = frame_through preserved_registers g ∷ v.frames; last = v.last } in r) h

same_frames : (site : ℕ) (r q : List ℕ) (c : CoveringEntry) → preserved_registers r ≡ preserved_registers q → slice_index r 13 ≡ slice_index q 13 → frame_through preserved_registers (frame_of site r c) ≡ frame_through preserved_registers (frame_of site q c)
same_frames site r q c e s =
    ap (λ (v : List ℕ). let f : Frame = record { site = site; sp = slice_index r 13; r = v; items = c.descs } in f) e
    ∙ ap (λ (n : ℕ). let f : Frame = record { site = site; sp = n; r = preserved_registers q; items = c.descs } in f) s

-- the registers of a caller by what was recorded
at_saved : (c : Caller) (j : ℕ) → length c.saved ≡ 8 → j < 8 → slice_index (c.saved ++ (0 ∷ c.sp ∷ 0 ∷ c.back ∷ [])) j ≡ slice_index c.saved j
at_saved c j count h = get_or_append_left c.saved (0 ∷ c.sp ∷ 0 ∷ c.back ∷ []) 0 j (let l : j < length c.saved = omega (arith, h, count) in l)

pub at_sp : (c : Caller) → length c.saved ≡ 8 → slice_index (registers_of c) 13 ≡ c.sp
at_sp c count = get_or-append_right c.saved (0 ∷ c.sp ∷ 0 ∷ c.back ∷ []) 8 9 0 count (omega arith)

pub at_pc : (c : Caller) → length c.saved ≡ 8 → slice_index (registers_of c) 15 ≡ c.back
at_pc c count = get_or-append_right c.saved (0 ∷ c.sp ∷ 0 ∷ c.back ∷ []) 8 11 0 count (omega arith)

pub hands : (c : Caller) (new : List ℕ) → IsWhole c → IsNew c new → preserved_registers new ≡ preserved_registers (registers_of c)
hands c new whole is =
    let e4 : slice_index new 4 ≡ slice_index (registers_of c) 4 = is.saved 4 (omega arith) (omega arith) ∙ sym (at_saved c 0 whole.count (omega arith)) in
    let e5 : slice_index new 5 ≡ slice_index (registers_of c) 5 = is.saved 5 (omega arith) (omega arith) ∙ sym (at_saved c 1 whole.count (omega arith)) in
    let e6 : slice_index new 6 ≡ slice_index (registers_of c) 6 = is.saved 6 (omega arith) (omega arith) ∙ sym (at_saved c 2 whole.count (omega arith)) in
    let e7 : slice_index new 7 ≡ slice_index (registers_of c) 7 = is.saved 7 (omega arith) (omega arith) ∙ sym (at_saved c 3 whole.count (omega arith)) in
    let e8 : slice_index new 8 ≡ slice_index (registers_of c) 8 = is.saved 8 (omega arith) (omega arith) ∙ sym (at_saved c 4 whole.count (omega arith)) in
    let e9 : slice_index new 9 ≡ slice_index (registers_of c) 9 = is.saved 9 (omega arith) (omega arith) ∙ sym (at_saved c 5 whole.count (omega arith)) in
    let e10 : slice_index new 10 ≡ slice_index (registers_of c) 10 = is.saved 10 (omega arith) (omega arith) ∙ sym (at_saved c 6 whole.count (omega arith)) in
    let e11 : slice_index new 11 ≡ slice_index (registers_of c) 11 = is.saved 11 (omega arith) (omega arith) ∙ sym (at_saved c 7 whole.count (omega arith)) in
    let e13 : slice_index new 13 ≡ slice_index (registers_of c) 13 = is.sp ∙ sym (at_sp c whole.count) in
    by (slice_index new 4) (slice_index (registers_of c) 4) (slice_index new 5) (slice_index (registers_of c) 5) (slice_index new 6) (slice_index (registers_of c) 6) (slice_index new 7) (slice_index (registers_of c) 7)
    (slice_index new 8) (slice_index (registers_of c) 8) (slice_index new 9) (slice_index (registers_of c) 9) (slice_index new 10) (slice_index (registers_of c) 10) (slice_index new 11) (slice_index (registers_of c) 11)
    (slice_index new 13) (slice_index (registers_of c) 13) e4 e5 e6 e7 e8 e9 e10 e11 e13
  where
    by : (a a' b b' c c' d d' e e' f f' g g' h h' i i' : ℕ) → a ≡ a' → b ≡ b' → c ≡ c' → d ≡ d' → e ≡ e' → f ≡ f' → g ≡ g' → h ≡ h' → i ≡ i'
        → ◌≡◌ {A = List ℕ} (0 ∷ 0 ∷ 0 ∷ 0 ∷ a ∷ b ∷ c ∷ d ∷ e ∷ f ∷ g ∷ h ∷ 0 ∷ i ∷ []) (0 ∷ 0 ∷ 0 ∷ 0 ∷ a' ∷ b' ∷ c' ∷ d' ∷ e' ∷ f' ∷ g' ∷ h' ∷ 0 ∷ i' ∷ [])
    by a a' b b' c c' d d' e e' f f' g g' h h' i i' p q r s t u v w x = cc

-- ---- the frames

module _ (x : Accepted) (is : IsProgram x) (segments : List Segment) (home : ℕ × ℕ) (top : home.1 ≤ STACK_END) (limit place : Option ℕ)
    (each : (c : Caller) (a : Activation) (new : List ℕ) → StandsAtCall x segments c a → IsWhole c → STACK_START ≤ c.sp → a.caller.sp ≤ STACK_END → IsNew c new
    → Unwinds x.image segments (site_of (registers_of c)) new a.caller) where
  abbrev stack : Stack
  stack = record { segments = segments; end = home.1 }

  abbrev further : List ℕ → Frames
  further new = frames_in MOST_FRAMES x.image stack limit false (site_of new) new

  -- one frame, and those outside it
  pub walk : (innermost : Bool) (site : ℕ) (r q : List ℕ) (a : Activation) (acts : List Activation) → Unwinds x.image segments site r a.caller → preserved_registers r ≡ preserved_registers q → slice_index r 13 ≡ slice_index q 13
      → ((new : List ℕ) → IsNew a.caller new → Agree (frames_of_caller further (check_caller home.1 limit innermost (slice_index r 13) (Some (record { r = new })))) (outer_frames x.image place a.caller acts))
      → Agree (frames_of_entry further stack limit innermost site r (entry_contents_at x.image site)) (activation_frames (outer_frames x.image place a.caller acts) site q (entry_contents_at x.image site))
  unfolding outer
  walk innermost site r q a acts (inl none) e s rest =
      subst (λ (o : Option CoveringEntry). Agree (frames_of_entry further stack limit innermost site r o) (activation_frames (outer_frames x.image place a.caller acts) site q o)) (sym none) refl
  walk innermost site r q a acts (inr (inl stuck)) e s rest =
      subst (λ (o : Option CoveringEntry). Agree (frames_of_entry further stack limit innermost site r o) (activation_frames (outer_frames x.image place a.caller acts) site q o)) (sym stuck.covers)
      (agree_framed (frame_of site r stuck.covered) (frame_of site q stuck.covered) _ _ (same_frames site r q stuck.covered e s)
      (subst (λ (o : Result Recipe RecipeFault). Agree (frames_of_caller further (check_caller home.1 limit innermost (slice_index r 13) (caller_of (unwind_result segments r (split_codes stuck.covered.codes))))) (if_recipe o (outer_frames x.image place a.caller acts)))
      (sym stuck.refuses) (go (unwind_result segments r (split_codes stuck.covered.codes)) refl)))
    where
      go : (o : Result (List ℕ) UnwindEnd) → unwind_result segments r (split_codes stuck.covered.codes) ≡ o → Agree (frames_of_caller further (check_caller home.1 limit innermost (slice_index r 13) (caller_of o))) (end_of_frames CannotUnwind)
      go (Ok new) is = absurd (refusing segments r new (split_codes stuck.covered.codes) stuck.refuses is)
      go (Err why) is = refl
  walk innermost site r q a acts (inr (inr goes)) e s rest =
      subst (λ (o : Option CoveringEntry). Agree (frames_of_entry further stack limit innermost site r o) (activation_frames (outer_frames x.image place a.caller acts) site q o)) (sym goes.covers)
      (agree_framed (frame_of site r goes.covered) (frame_of site q goes.covered) _ _ (same_frames site r q goes.covered e s)
      (subst (λ (o : Result Recipe RecipeFault). Agree (frames_of_caller further (check_caller home.1 limit innermost (slice_index r 13) (caller_of (unwind_result segments r (split_codes goes.covered.codes))))) (if_recipe o (outer_frames x.image place a.caller acts)))
      (sym goes.recipe)
      (subst (λ (o : Result (List ℕ) UnwindEnd). Agree (frames_of_caller further (check_caller home.1 limit innermost (slice_index r 13) (caller_of o))) (outer_frames x.image place a.caller acts)) (sym goes.unwinds)
      (rest goes.new goes.is))))

  -- the tests of a new sp that is no frame's end
  passes : (innermost : Bool) (sp : ℕ) (c : Caller) (new : List ℕ) → IsNew c new → is_no_frame home.1 innermost sp c.sp ≡ false
      → check_caller home.1 limit innermost sp (Some (record { r = new })) ≡ cond (is_above limit c.sp) (Err LeavesCleanup) (cond (c.back == NO_CALLER) (Err NoHandler) (Ok (record { r = new })))
  passes innermost sp c new is free =
      ap (λ (n : ℕ). asked n (slice_index new 15)) is.sp ∙ ap (λ (m : ℕ). asked c.sp m) is.pc
      ∙ ap (λ (b : Bool). let o : Result Vrs Cause = cond b (Err CannotUnwind) (cond (is_above limit c.sp) (Err LeavesCleanup) (cond (c.back == NO_CALLER) (Err NoHandler) (Ok (record { r = new })))) in o) free
    where
      asked : ℕ → ℕ → Result Vrs Cause
      asked n m = cond (is_no_frame home.1 innermost sp n) (Err CannotUnwind) (cond (is_above limit n) (Err LeavesCleanup) (cond (m == NO_CALLER) (Err NoHandler) (Ok (record { r = new }))))

  -- an activation that was called recorded no end of the stack
  called : (c : Caller) (a : Activation) → StandsAtCall x segments c a → (c.back == NO_CALLER) ≡ false
  called c a out =
      let placed : IsPlaced out.function = subst IsPlaced out.of.among.2 (placed_at x.image out.of.among.0 out.function is.image out.of.among.1) in
      let inside = stands_inside (flow_graph_of x.image out.function) out.place out.instr out.size out.stands in
      differs (c.back == NO_CALLER) refl (λ f. omega (arith, out.back, placed.low, inside, f))
    where
      differs : (b : Bool) → (c.back == NO_CALLER) ≡ b → (c.back ≡ NO_CALLER → ⊥) → b ≡ false
      differs true e f = absurd (f (eqb-true c.back NO_CALLER e))
      differs false e f = refl

  above : (sp next : ℕ) → sp + 4 ≤ next → next ≤ home.1 → is_no_frame home.1 false sp next ≡ false
  above sp next h l = grind (arith, nat_tests)

  pub from_first : (sp next : ℕ) → sp ≤ next → next ≤ home.1 → is_no_frame home.1 true sp next ≡ false
  from_first sp next h l = grind (arith, nat_tests)

  -- after the codes of a frame
  pub out : (c : Caller) (acts : List Activation) → Chain x segments home c acts → IsWhole c → STACK_START ≤ c.sp → StopAlike limit place c acts → (innermost : Bool) (sp : ℕ)
      → is_no_frame home.1 innermost sp c.sp ≡ false → (new : List ℕ) → IsNew c new
      → Agree (frames_of_caller further (check_caller home.1 limit innermost sp (Some (record { r = new })))) (outer_frames x.image place c acts)
  out c [] ch whole low stop innermost sp free new n =
      subst (λ (o : Result Vrs Cause). Agree (frames_of_caller further o) (outer_frames x.image place c [])) (sym (passes innermost sp c new n free))
      (subst (λ (b : Bool). Agree (frames_of_caller further (cond (is_above limit c.sp) (Err LeavesCleanup) (cond (c.back == NO_CALLER) (Err NoHandler) (Ok (record { r = new })))))
      (cond b (end_of_frames LeavesCleanup) (end_of_frames NoHandler))) stop (go (is_above limit c.sp)))
    where
      last : (c.back == NO_CALLER) ≡ true
      last = let e = ch.0 in grind (arith, nat_tests)

      go : (b : Bool) → Agree (frames_of_caller further (cond b (Err LeavesCleanup) (cond (c.back == NO_CALLER) (Err NoHandler) (Ok (record { r = new }))))) (cond b (end_of_frames LeavesCleanup) (end_of_frames NoHandler))
      go true = refl
      go false = subst (λ (b : Bool). Agree (frames_of_caller further (cond b (Err NoHandler) (Ok (record { r = new })))) (end_of_frames NoHandler)) (sym last) refl
  out c (a ∷ more) ch whole low stop innermost sp free new n =
      subst (λ (o : Result Vrs Cause). Agree (frames_of_caller further o) (outer_frames x.image place c (a ∷ more))) (sym (passes innermost sp c new n free))
      (subst (λ (b : Bool). Agree (frames_of_caller further (cond (is_above limit c.sp) (Err LeavesCleanup) (cond (c.back == NO_CALLER) (Err NoHandler) (Ok (record { r = new })))))
      (cond b (end_of_frames LeavesCleanup) there)) stop.0
      (go (is_above limit c.sp) refl
      (λ e newer m. out a.caller more ch.1 ch.0.whole (let room = ch.0.room in omega (arith, room, low)) (stop.1 e) false (slice_index new 13)
      (subst (λ (k : ℕ). is_no_frame home.1 false k a.caller.sp ≡ false) (sym n.sp) (above c.sp a.caller.sp ch.0.room (chain_top x segments home a.caller more ch.1))) newer m)))
    where
      there : Frames
      there = activation_frames (outer_frames x.image place a.caller more) (site_of (registers_of c)) (registers_of c) (entry_contents_at x.image (site_of (registers_of c)))

      same_site : site_of new ≡ site_of (registers_of c)
      same_site = ap (λ (k : ℕ). (k - k % 2 + (2 ^ 32 - 2)) % 2 ^ 32) (n.pc ∙ sym (at_pc c whole.count))

      go : (b : Bool) → is_above limit c.sp ≡ b
          → (is_above limit c.sp ≡ false → (newer : List ℕ) → IsNew a.caller newer → Agree (frames_of_caller further (check_caller home.1 limit false (slice_index new 13) (Some (record { r = newer })))) (outer_frames x.image place a.caller more))
          → Agree (frames_of_caller further (cond b (Err LeavesCleanup) (cond (c.back == NO_CALLER) (Err NoHandler) (Ok (record { r = new }))))) (cond b (end_of_frames LeavesCleanup) there)
      go true e rest = refl
      go false e rest =
          subst (λ (b : Bool). Agree (frames_of_caller further (cond b (Err NoHandler) (Ok (record { r = new })))) there) (sym (called c a ch.0))
          (subst (λ (fs : Frames). Agree fs there) (sym (frames_are_whole x.image stack limit false (site_of new) new top))
          (subst (λ (k : ℕ). Agree (frames_of_entry further stack limit false k new (entry_contents_at x.image k)) there) (sym same_site)
          (walk false (site_of (registers_of c)) new (registers_of c) a more
          (each c a new ch.0 whole low (let t = chain_top x segments home a.caller more ch.1 in omega (arith, t, top)) n)
          (hands c new whole n) (n.sp ∙ sym (at_sp c whole.count)) (rest e))))
