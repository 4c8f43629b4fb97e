-- The end of a cleanup does the same over bytes and with recorded activations.
use Rattle.std.proofs.Common.{◌≡◌, List, ap, ◌∙◌, ℕ, inl, inr, ◌∷◌, Some, refl, sym, subst}
use Rattle.eh_cxa.specs.Throw.{barrier_of}
use Rattle.eh_cxa.specs.Words.{word, block}
use Rattle.eh_phase.specs.declared.phase2.Entered.{Entered}
use Rattle.thumb_isa.specs.declared.instr.Instr.TheVariants.{Svc}
use Rattle.thumb_core.specs.declared.ends.Cause.{Cause}
use Rattle.thumb_core.specs.declared.ends.End.{End}
use Rattle.frame_check.specs.Accepts.{Accepted}
use Rattle.eh_gates.specs.Gates.{gate_of}
use Rattle.eh_gates.specs.Landing.{enter_landing}
use Rattle.eh_gates.specs.State.{Tables, Outcome}
use Rattle.eh_gates.specs.declared.gates.TheConstants.{END_CLEANUP_GATE}
use Rattle.eh_gates.specs.declared.state.Turned.TheVariants.{Ended}
use Rattle.sim_machines.specs.Activations.{Activation, Recorded, memory_of, bytes_of}
use Rattle.sim_machines.specs.Corresponds.{GateMatches}
use Rattle.sim_machines.proofs.Landed.{landings_match}
use Rattle.eh_phase.specs.Laws as phase_law
use Rattle.eh_phase.specs.declared.phase2.Entered.TheVariants as enter
use Rattle.thumb_core.specs.declared.ends.Cause.TheVariants as cause
use Rattle.thumb_core.specs.declared.ends.End.TheVariants as the_end
use Rattle.eh_gates.specs.Resuming as bytes
use Rattle.sim_machines.specs.ActivationMachine as machine
use Rattle.sim_steps.specs.sim_relation.Stands.{Keeps, IsProgram, DoesAt}
use Rattle.sim_throws.proofs.sim_frames.FramesSame.{site_is}
use Rattle.sim_resumes.proofs.ResumeEnds.{ours, Alike, enters, still, end_alike}
use Rattle.sim_resumes.proofs.ResumeLands.{Resumes}
use Rattle.sim_resumes.proofs.ResumeLands as resume

module _ (x : Accepted) (is : IsProgram x) (s : Recorded) (k : Keeps x s) (g : Tables) where
  -- what phase 2 enters is entered alike
  pub entered_match : (r : Resumes x s) → GateMatches (enter_landing (bytes_of (record s { cleanups = r.others })) (block r.ends.cleanup.slot) (barrier_of (word (memory_of s)) (Some r.ends.cleanup.slot)).object (enters x is s k g r))
      (machine.enter_landing (record s { cleanups = r.others }) ((resume.there x is s k r).first ∷ (resume.there x is s k r).more) (block r.ends.cleanup.slot) (barrier_of (word (memory_of s)) (Some r.ends.cleanup.slot)).object (enters x is s k g r))
  entered_match r =
      landings_match (record s { cleanups = r.others }) (resume.cut x is s k r) (resume.there x is s k r).first (resume.there x is s k r).more r.ends.cleanup.slot (barrier_of (word (memory_of s)) (Some r.ends.cleanup.slot)).object
      (enters x is s k g r) (still x is s k g r) (resume.in_flight x is s k r) (resume.all x is s k r) (resume.lands_there x is s k r)

  alike_match : (o : Outcome) (q : machine.Outcome) → Alike x is s k g o q → GateMatches o q
  alike_match o q (inl (end, on_bytes, on_lists, trap)) =
      subst (λ (v : Outcome). GateMatches v q) (sym on_bytes) (subst (λ (w : machine.Outcome). GateMatches (Ended end, bytes_of s) w) (sym on_lists) (record { same = (refl, refl); still = k.corresponds }))
  alike_match o q (inr (r, on_bytes, on_lists)) =
      let object = (barrier_of (word (memory_of s)) (Some r.ends.cleanup.slot)).object in
      subst (λ (v : Outcome). GateMatches v q) (sym on_bytes)
      (subst (λ (w : machine.Outcome). GateMatches (enter_landing (bytes_of (record s { cleanups = r.others })) (block r.ends.cleanup.slot) object (enters x is s k g r)) w) (sym on_lists) (entered_match r))

  pub resume_matches : (imm : ℕ) → DoesAt x s (Svc imm) → (next : ℕ) → GateMatches (gate_of (ours x is s k g) END_CLEANUP_GATE next (bytes_of s)) (machine.gate_of (ours x is s k g) END_CLEANUP_GATE next s)
  unfolding gate_of machine.gate_of
  resume_matches imm does next =
      alike_match (bytes.end_cleanup_gate (ours x is s k g) (bytes_of s)) (machine.end_cleanup_gate (ours x is s k g) s)
      (end_alike x is s k g (site_is x s s.regs.pc is (inl (imm, does, refl))))

  -- ---- it terminates nothing but a specification without a pad

  lands_so : (t : Recorded) (acts : List Activation) (block object : ℕ) (e : Entered) → phase_law.Lands e → (why : Cause) → (machine.enter_landing t acts block object e).0 ≡ Ended (the_end.Terminate why) → why ≡ cause.Unexpected
  lands_so t acts block object (enter.Cleanup vrs pad next site) l why e = absurd cc
  lands_so t acts block object (enter.Catch vrs pad) l why e = absurd cc
  lands_so t acts block object (enter.Spec vrs pad) l why e = absurd cc
  lands_so t acts block object enter.Unexpected l why e = same_cause why e
    where
      same_cause : (why : Cause) → Ended (the_end.Terminate cause.Unexpected) ≡ Ended (the_end.Terminate why) → why ≡ cause.Unexpected
      same_cause why e = cc
  lands_so t acts block object (enter.Terminate other) l why e = absurd l

  alike_lands : (o : Outcome) (q : machine.Outcome) → Alike x is s k g o q → (why : Cause) → q.0 ≡ Ended (the_end.Terminate why) → why ≡ cause.Unexpected
  alike_lands o q (inl (end, on_bytes, on_lists, trap)) why e = absurd (trap why (same_end end why (sym (ap (λ (v : machine.Outcome). v.0) on_lists) ∙ e)))
    where
      same_end : (end : End) (why : Cause) → Ended end ≡ Ended (the_end.Terminate why) → end ≡ the_end.Terminate why
      same_end end why e = cc
  alike_lands o q (inr (r, on_bytes, on_lists)) why e =
      lands_so (record s { cleanups = r.others }) ((resume.there x is s k r).first ∷ (resume.there x is s k r).more) (block r.ends.cleanup.slot) (barrier_of (word (memory_of s)) (Some r.ends.cleanup.slot)).object
      (enters x is s k g r) (resume.resume_enters x is s k r) why (sym (ap (λ (v : machine.Outcome). v.0) on_lists) ∙ e)

  pub resume_goes_on : (imm : ℕ) → DoesAt x s (Svc imm) → (next : ℕ) (why : Cause) → (machine.gate_of (ours x is s k g) END_CLEANUP_GATE next s).0 ≡ Ended (the_end.Terminate why) → why ≡ cause.Unexpected
  unfolding machine.gate_of
  resume_goes_on imm does next why e =
      alike_lands (bytes.end_cleanup_gate (ours x is s k g) (bytes_of s)) (machine.end_cleanup_gate (ours x is s k g) s) (end_alike x is s k g (site_is x s s.regs.pc is (inl (imm, does, refl)))) why e
