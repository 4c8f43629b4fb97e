-- What the gate at the end of a cleanup does, over bytes and with recorded activations: both end alike and leave the state, or both go on to what
-- phase 2 enters over the recorded frames.
use Rattle.std.proofs.Common.{◌≡◌, ℕ, List, [], ◌∷◌, ap, ◌∙◌, ◌==◌, true, arith, ◌&&◌, ◌⊎◌, inl, inr, Bool, false, cond, length, Option, Some, None, refl, sym, subst}
use Rattle.std.proofs.lemmas.Bool.Decides.{nat_tests}
use Rattle.std.specs.Prelude.{Result, slice_index}
use Rattle.std.proofs.lemmas.Bool.{eqb-true}
use Rattle.eh_cxa.specs.Words.{chain_word, word_if_block, Done, word, block, block_slot, with_all}
use Rattle.eh_cxa.proofs.Pools.{slot_block, slot_of_block_is}
use Rattle.sim_machines.specs.Activations.{head_of, Activation, Recorded, memory_of, heads, bytes_of, lists_of, cleanups_in, InProgress}
use Rattle.thumb_core.specs.declared.ends.Cause.{Cause}
use Rattle.thumb_core.specs.declared.ends.TrapKind.{TrapKind}
use Rattle.eh_bytecode.specs.declared.frame.Vrs.{Vrs}
use Rattle.eh_cxa.specs.Cleanup.{end_cleanup_by, end_cleanup_at, end_cleanup_of}
use Rattle.eh_cxa.specs.ListCalls.{innermost_in, end_cleanup_by_list, end_cleanup_from, end_cleanup_list}
use Rattle.eh_cxa.specs.Lists.{Cleanup, slots, Outcome as Call}
use Rattle.eh_cxa.specs.Stands.{Stands, cleanup_of}
use Rattle.eh_cxa.specs.Throw.{barrier_of}
use Rattle.eh_cxa.specs.declared.globals.BarrierWords.{BarrierWords}
use Rattle.eh_cxa.specs.declared.globals.CleanupWords.{CleanupWords}
use Rattle.eh_cxa.specs.declared.globals.CxaFault.{CxaFault}
use Rattle.eh_cxa.specs.declared.globals.Globals.{Globals}
use Rattle.eh_cxa.specs.declared.layout.TheConstants.{CLEANUP_SP, NEXT_CLEANUP}
use Rattle.eh_cxa.proofs.CleanupLaws.{end_cleanup_follows}
use Rattle.eh_phase.specs.Calls.{stack_of}
use Rattle.eh_phase.specs.Frames.{caller_at, frames_of}
use Rattle.eh_phase.specs.Phases.{phase2}
use Rattle.eh_phase.specs.declared.phase2.Entered.{Entered}
use Rattle.thumb_core.specs.Registers.{all_of}
use Rattle.thumb_core.specs.declared.regs.TheConstants.{SP}
use Rattle.thumb_core.specs.declared.ends.End.{End}
use Rattle.frame_check.specs.Accepts.{Accepted}
use Rattle.eh_gates.specs.Landing.{enter_landing}
use Rattle.eh_gates.specs.Resuming.{goal_in}
use Rattle.eh_gates.specs.State.{Tables, Outcome}
use Rattle.eh_gates.specs.declared.state.Turned.TheVariants.{Ended}
use Rattle.sim_machines.specs.Corresponds.{Corresponds}
use Rattle.sim_machines.proofs.Agreeing.{are_one}
use Rattle.sim_machines.proofs.CallEvents.{knows}
use Rattle.eh_cxa.specs.Stands as cxa
use Rattle.thumb_core.specs.declared.ends.End.TheVariants as the_end
use Rattle.thumb_core.specs.declared.ends.TrapKind.TheVariants as kind
use Rattle.eh_gates.specs.Resuming as bytes
use Rattle.sim_machines.specs.ActivationMachine as machine
use Rattle.sim_steps.specs.sim_relation.Cleanups.{AreInProgress}
use Rattle.sim_steps.specs.sim_relation.Stands.{Keeps, IsProgram}
use Rattle.sim_throws.specs.sim_frames.Frames.{IsSiteOf}
use Rattle.sim_throws.proofs.sim_frames.Outwards.{IsNew}
use Rattle.sim_resumes.proofs.Resumed.{HasCaller, first_caller}
use Rattle.sim_resumes.proofs.ResumeLands.{Resumes}
use Rattle.sim_resumes.proofs.Resuming.{innermost_outside}
use Rattle.sim_resumes.proofs.ResumeLands as resume

-- a link leads to the next of a chain
chained_is : (next : ℕ → ℕ) (n : ℕ) (xs : List ℕ) → cxa.Chain next n xs → chain_word n ≡ head_of xs
chained_is next n [] h = ap (word_if_block n) h
chained_is next n (t ∷ more) h = ap (word_if_block n) h.0 ∙ slot_block n t h.0

same_number : (n m : ℕ) → n ≡ m → (n == m) ≡ true
same_number n m e = grind (arith, nat_tests)

-- a trap terminates nothing
no_trap : (what : TrapKind) (value pc : ℕ) (why : Cause) → the_end.Trap what value pc ≡ the_end.Terminate why → ⊥
no_trap what value pc why e = absurd cc

module _ (x : Accepted) (is : IsProgram x) (s : Recorded) (k : Keeps x s) (g : Tables) where
  abbrev pub ours : Tables
  ours = record g { image = x.image }

  -- ---- the throw goes on

  module _ (r : Resumes x s) where
    abbrev slot : ℕ
    slot = r.ends.cleanup.slot

    abbrev pub ended : Recorded
    ended = record s { cleanups = r.others }

    abbrev barrier : BarrierWords
    barrier = barrier_of (word (memory_of s)) (Some r.ends.cleanup.slot)

    abbrev pub enters : Entered
    enters = phase2 (goal_in barrier) r.ends.cleanup.next (resume.frames x is s k r)

    next_is : chain_word (word (memory_of s) slot NEXT_CLEANUP) ≡ head_of (slots (cleanups_in r.others))
    next_is =
        let chain = subst (λ (cs : List Cleanup). cxa.Chain (λ t. word (memory_of s) t NEXT_CLEANUP) (heads (lists_of s)).cleanup (slots cs)) (resume.listed x is s k r) k.corresponds.stands.shows.cleanups in
        chained_is (λ t. word (memory_of s) t NEXT_CLEANUP) (word (memory_of s) slot NEXT_CLEANUP) (slots (cleanups_in r.others)) chain.1

    abbrev with_head : ℕ → Globals
    with_head n = record { caught = (heads (lists_of s)).caught; cleanup = n; uncaught = (heads (lists_of s)).uncaught }

    stands : Stands (word (memory_of s)) (heads (lists_of ended)) (lists_of ended)
    stands =
        let w = word (memory_of s) in
        let low : r.ends.cleanup.sp ≡ w slot CLEANUP_SP = ap (λ (d : Cleanup). d.sp) (resume.words x is s k r) in
        let on_words : end_cleanup_of w (heads (lists_of s)) r.ends.cleanup.sp ≡ end_cleanup_by true w (heads (lists_of s)) slot =
        ap (end_cleanup_at w (heads (lists_of s)) r.ends.cleanup.sp) (resume.head x is s k r)
        ∙ ap (λ (b : Bool). end_cleanup_by b w (heads (lists_of s)) slot) (same_number (w slot CLEANUP_SP) r.ends.cleanup.sp (sym low)) in
        let on_lists : end_cleanup_list (lists_of s) r.ends.cleanup.sp ≡ end_cleanup_by_list true (lists_of s) r.ends.cleanup (cleanups_in r.others) =
        ap (end_cleanup_from (lists_of s) r.ends.cleanup.sp) (resume.listed x is s k r) ∙ ap (λ (b : Bool). end_cleanup_by_list b (lists_of s) r.ends.cleanup (cleanups_in r.others)) (same_number r.ends.cleanup.sp r.ends.cleanup.sp refl) in
        let f = end_cleanup_follows w (heads (lists_of s)) (lists_of s) r.ends.cleanup.sp k.corresponds.stands in
        let f1 = subst (λ (d : Done (Result (ℕ × CleanupWords) CxaFault)). Stands (with_all d.writes w) d.globals (end_cleanup_list (lists_of s) r.ends.cleanup.sp).lists) on_words f.stands in
        let f2 = subst (λ (o : Call (Result (ℕ × CleanupWords) CxaFault)). Stands w (with_head (chain_word (w slot NEXT_CLEANUP))) o.lists) on_lists f1 in
        subst (λ (n : ℕ). Stands w (with_head n) (lists_of ended)) next_is f2

    pub still : Corresponds ended
    still = record {
      map = k.corresponds.map;
      stands = stands;
    }

    -- over bytes
    bytes_go : bytes.ends_cleanup ours (bytes_of s) (record { r = r.new }) (end_cleanup_by true (word (memory_of s)) (heads (lists_of s)) slot) ≡ enter_landing (bytes_of ended) (block slot) barrier.object enters
    bytes_go =
        let m = memory_of s in
        let v : Vrs = record { r = r.new } in
        let w : CleanupWords = record { next = (cleanup_of (word m) slot).next; sp = (cleanup_of (word m) slot).sp; site = (cleanup_of (word m) slot).site } in
        let one : Globals → Outcome = λ h. bytes.continue_flight_to ours (record (bytes_of s) { globals = h }) v w (block slot) (barrier_of (word m) (block_slot (block slot))) in
        let two : Option ℕ → Outcome = λ o. bytes.continue_flight_to ours (bytes_of ended) v w (block slot) (barrier_of (word m) o) in
        let three : Cleanup → Outcome = λ d. enter_landing (bytes_of ended) (block slot) barrier.object (phase2 (goal_in barrier) d.next (frames_of x.image (stack_of m) None d.site r.new)) in
        ap one (ap with_head next_is) ∙ ap two (slot_of_block_is slot (resume.small x is s k r)) ∙ ap three (sym (resume.words x is s k r))
        ∙ (are_one (frames_of x.image (stack_of m) None r.ends.cleanup.site r.new) (resume.frames x is s k r) (resume.kept x is s k r)).bytes (goal_in barrier) r.ends.cleanup.next (bytes_of ended) (block slot) barrier.object

    -- with recorded activations
    recorded_go : machine.resumes_in ours s r.ends r.others s.outer
        ≡ machine.enter_landing ended ((resume.there x is s k r).first ∷ (resume.there x is s k r).more) (block slot) barrier.object enters
    recorded_go =
        let a = r.holder.first in
        let outer = r.holder.more in
        let yes : machine.Outcome = machine.continue_flight ours ended r.ends.cleanup s.first.caller a outer barrier in
        let no : machine.Outcome = machine.refusal_outcome Rattle.eh_cxa.specs.declared.globals.CxaFault.TheVariants.CleanupElsewhere s.first.caller.sp s in
        ap (λ (acts : List Activation). machine.resumes_in ours s r.ends r.others acts) r.holder.is
        ∙ ap (λ (b : Bool). cond (b && (length outer == r.ends.place)) yes no) (same_number s.first.caller.sp r.ends.cleanup.sp r.called)
        ∙ ap (λ (b : Bool). cond b yes no) (same_number (length outer) r.ends.place r.holder.place)
        ∙ ap (λ (acts : List Activation). machine.enter_landing ended acts (block slot) barrier.object enters) (resume.there x is s k r).passed

  -- ---- both

  -- they end alike, by a trap, in the state as it was; or both enter the same
  abbrev pub Alike : Outcome → machine.Outcome → Type 0
  Alike o q =
      ((end : End) × (o ≡ (Ended end, bytes_of s)) × (q ≡ (Ended end, s)) × ((why : Cause) → end ≡ the_end.Terminate why → ⊥))
      ⊎ ((r : Resumes x s) × (o ≡ enter_landing (bytes_of (record s { cleanups = r.others })) (block r.ends.cleanup.slot) (barrier_of (word (memory_of s)) (Some r.ends.cleanup.slot)).object (enters r))
      × (q ≡ machine.enter_landing (record s { cleanups = r.others }) ((resume.there x is s k r).first ∷ (resume.there x is s k r).more) (block r.ends.cleanup.slot) (barrier_of (word (memory_of s)) (Some r.ends.cleanup.slot)).object (enters r)))

  module _ (one : InProgress) (others : List InProgress) (cleanups : s.cleanups ≡ one ∷ others) where
    abbrev c : Cleanup
    c = one.cleanup

    listed : cleanups_in s.cleanups ≡ c ∷ cleanups_in others
    listed = ap cleanups_in cleanups

    head_there : block_slot (heads (lists_of s)).cleanup ≡ Some c.slot
    head_there =
        (subst (λ (cs : List Cleanup). cxa.Chain (λ t. word (memory_of s) t NEXT_CLEANUP) (heads (lists_of s)).cleanup (slots cs)) listed k.corresponds.stands.shows.cleanups).0

    words_there : c ≡ cleanup_of (word (memory_of s)) c.slot
    words_there = (subst (λ (cs : List Cleanup). cxa.Frames (word (memory_of s)) cs) listed k.corresponds.stands.shows.frames).0

    by_words : (sp : ℕ) → end_cleanup_of (word (memory_of s)) (heads (lists_of s)) sp ≡ end_cleanup_by (c.sp == sp) (word (memory_of s)) (heads (lists_of s)) c.slot
    by_words sp =
        ap (end_cleanup_at (word (memory_of s)) (heads (lists_of s)) sp) head_there
        ∙ ap (λ (n : ℕ). end_cleanup_by (n == sp) (word (memory_of s)) (heads (lists_of s)) c.slot) (sym (ap (λ (d : Cleanup). d.sp) words_there))

    abbrev elsewhere : End
    elsewhere = the_end.Trap kind.CleanupElsewhere s.first.caller.sp s.regs.pc

    not_there : (acts : List Activation) → (s.first.caller.sp == c.sp) ≡ false → ◌≡◌ {A = machine.Outcome} (machine.resumes_in ours s one others acts) (Ended elsewhere, s)
    not_there [] e = refl
    not_there (a ∷ outer) e =
        let yes : machine.Outcome = machine.continue_flight ours (record s { cleanups = others }) c s.first.caller a outer (barrier_of (word (memory_of s)) (Some c.slot)) in
        let no : machine.Outcome = (Ended elsewhere, s) in
        ap (λ (b : Bool). cond (b && (length outer == one.place)) yes no) e

    by_place : (new : List ℕ) → IsNew s.first.caller new → s.first.caller.sp ≡ c.sp
        → Alike (bytes.ends_cleanup ours (bytes_of s) (record { r = new }) (end_cleanup_by true (word (memory_of s)) (heads (lists_of s)) c.slot)) (machine.resumes_in ours s one others s.outer)
    by_place new n e =
        let r : Resumes x s = record {
          ends = one;
          others = others;
          cleanups = cleanups;
          holder = innermost_outside x s (slice_index s.regs.r SP) one others k.chain (subst (AreInProgress x s (slice_index s.regs.r SP)) cleanups k.cleanups) e;
          called = e;
          new = new;
          is_new = n;
        } in inr (r, bytes_go r, recorded_go r)

    by_sp : (new : List ℕ) → IsNew s.first.caller new → (b : Bool) → (c.sp == slice_index new SP) ≡ b
        → Alike (bytes.ends_cleanup ours (bytes_of s) (record { r = new }) (end_cleanup_by b (word (memory_of s)) (heads (lists_of s)) c.slot)) (machine.resumes_in ours s one others s.outer)
    by_sp new n true e =
        let same : c.sp ≡ slice_index new SP = eqb-true c.sp (slice_index new SP) e in
        by_place new n (sym n.sp ∙ sym same)
    by_sp new n false e =
        let sp = n.sp in
        let other : (s.first.caller.sp == c.sp) ≡ false = grind (arith, nat_tests) in
        inl (elsewhere, ap (λ (v : ℕ). let o : Outcome = (Ended (the_end.Trap kind.CleanupElsewhere v s.regs.pc), bytes_of s) in o) n.sp, not_there s.outer other, no_trap kind.CleanupElsewhere s.first.caller.sp s.regs.pc)

    by_caller : HasCaller x.image s.segments s.regs.pc (all_of s.regs) s.first.caller
        → Alike (bytes.resumes_in ours (bytes_of s) (caller_at x.image s.segments s.regs.pc (all_of s.regs))) (machine.resume_outcome ours s (one ∷ others))
    by_caller (inl none) =
        let yes : machine.Outcome = machine.resumes_in ours s one others s.outer in
        let no : machine.Outcome = (Ended (the_end.Trap kind.CleanupElsewhere 0 s.regs.pc), s) in
        inl (the_end.Trap kind.CleanupElsewhere 0 s.regs.pc, ap (bytes.resumes_in ours (bytes_of s)) none.0, ap (λ (b : Bool). cond b yes no) none.1, no_trap kind.CleanupElsewhere 0 s.regs.pc)
    by_caller (inr (new, found, can, n)) =
        let yes : machine.Outcome = machine.resumes_in ours s one others s.outer in
        let no : machine.Outcome = (Ended (the_end.Trap kind.CleanupElsewhere 0 s.regs.pc), s) in
        subst (λ (o : Option Vrs). Alike (bytes.resumes_in ours (bytes_of s) o) (machine.resume_outcome ours s (one ∷ others))) (sym found)
        (subst (λ (b : Bool). Alike (bytes.resumes_in ours (bytes_of s) (Some (record { r = new }))) (cond b yes no)) (sym can)
        (subst (λ (d : Done (Result (ℕ × CleanupWords) CxaFault)). Alike (bytes.ends_cleanup ours (bytes_of s) (record { r = new }) d) yes) (sym (by_words (slice_index new SP)))
        (by_sp new n (c.sp == slice_index new SP) refl)))

  pub end_alike : IsSiteOf x s s.regs.pc → Alike (bytes.end_cleanup_gate ours (bytes_of s)) (machine.end_cleanup_gate ours s)
  end_alike here = subst (λ (o : Option ℕ). Alike (bytes.resumes ours (bytes_of s) o) (machine.end_cleanup_gate ours s)) (sym (knows s k.corresponds)) (by_cleanups s.cleanups refl)
    where
      by_cleanups : (cs : List InProgress) → s.cleanups ≡ cs → Alike (bytes.resumes ours (bytes_of s) (innermost_in (cleanups_in cs))) (machine.resume_outcome ours s cs)
      by_cleanups [] e = inl (the_end.Trap kind.NoCleanup 0 s.regs.pc, refl, refl, no_trap kind.NoCleanup 0 s.regs.pc)
      by_cleanups (c ∷ others) e = by_caller c others e (first_caller x is s k s.regs.pc here)
