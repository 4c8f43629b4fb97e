-- One event, by the instruction.
use Rattle.std.proofs.Common.{ℕ, List, refl, ◌≡◌, ◌<◌, Some, inl, inr, pos, negsuc, subst, arith}
use Rattle.std.proofs.lemmas.Bool.{cases_eq}
use Rattle.thumb_isa.specs.declared.instr.Instr.TheVariants.{Svc, ShiftImm, AddSubReg, AddSubImm3, Imm8, Alu, AddHigh, CmpHigh, MovHigh, Bx, Blx, LdrLit, MemReg, MemImm, MemSp, Adr, AddRdSp, AddSp, SubSp, Extend, Rev, Push, Pop, Hint, Stm, Ldm, BCond, B, Bl, Barrier, Cbz, BWide, MovW, MovT, Div}
use Rattle.eh_gates.specs.declared.gates.TheConstants.{THROW_GATE, RETHROW_GATE, END_CLEANUP_GATE}
use Rattle.sim_machines.specs.frame_check.Accepts.{Accepted}
use Rattle.sim_machines.specs.Activations.{Recorded}
use Rattle.sim_machines.specs.Checked.{program_of}
use Rattle.sim_machines.specs.Program.{program_tables}
use Rattle.thumb_isa.specs.declared.instr.Instr.{Instr}
use Rattle.frame_facts.specs.Machine.{works_on}
use Rattle.sim_machines.specs.frame_check.Roots.{flow_graph_of}
use Rattle.sim_accesses.specs.sim_relation.Stands.{Keeps, IsProgram, Turns, DoesAt}
use Rattle.sim_resumes.proofs.ResumeKeeps.{resume_keeps}
use Rattle.sim_resumes.proofs.ResumeMatches.{resume_matches}
use Rattle.sim_resumes.proofs.sim_throws.ThrowGates.{throw_gates_match}
use Rattle.sim_resumes.proofs.sim_throws.ThrowLeaves.{throw_gate_keeps, rethrow_gate_keeps}
use Rattle.sim_runs.proofs.WalkingGates.{walking_turns}
use Rattle.sim_runs.specs.Turned.{AreBytes, TurnsSame}
use Rattle.sim_resumes.proofs.sim_steps.DataTurns.{data_turns}
use Rattle.sim_accesses.proofs.BxTurns.{bx_turns}
use Rattle.sim_resumes.proofs.sim_steps.Jumps.{b_turns, b_wide_turns, bcond_turns, cbz_turns, cmp_high_turns, hint_turns, barrier_turns}
use Rattle.sim_resumes.proofs.sim_steps.High.{add_high_turns, mov_high_turns}
use Rattle.sim_resumes.proofs.sim_steps.Calls.{bl_turns, blx_turns}
use Rattle.sim_resumes.proofs.sim_steps.Gates.{gate_turns}
use Rattle.sim_accesses.specs.sim_code.Bounds.{Bounds}
use Rattle.sim_accesses.proofs.sim_code.Bounded.{standing_bounds}
use Rattle.sim_accesses.proofs.Events.{accesses, stacks}
use Rattle.sim_accesses.proofs.PopTurns.{pops}
use Rattle.sim_accesses.proofs.PushTurns.{pushes}
use Rattle.sim_runs.proofs.Fitting.{byte_small}
use Rattle.sim_resumes.proofs.sim_steps.Cases.{turns_by_instruction}

-- a throw, a rethrow and the end of a cleanup walk frames
module _ (x : Accepted) (s : Recorded) (input : List ℕ) (is : IsProgram x) (k : Keeps x s) where
  throws : DoesAt x s (Svc THROW_GATE) → Turns x s input
  throws does =
      walking_turns x is s k does.at THROW_GATE does.size does.stands refl (λ next. (throw_gates_match x s next THROW_GATE is k does).0) (throw_gate_keeps x is s k THROW_GATE does (program_tables (program_of x))) input does.reached

  rethrows : DoesAt x s (Svc RETHROW_GATE) → Turns x s input
  rethrows does =
      walking_turns x is s k does.at RETHROW_GATE does.size does.stands refl (λ next. (throw_gates_match x s next RETHROW_GATE is k does).1) (rethrow_gate_keeps x is s k RETHROW_GATE does (program_tables (program_of x))) input does.reached

  resumes : DoesAt x s (Svc END_CLEANUP_GATE) → Turns x s input
  resumes does =
      walking_turns x is s k does.at END_CLEANUP_GATE does.size does.stands refl (resume_matches x is s k (program_tables (program_of x)) END_CLEANUP_GATE does) (resume_keeps x is s k END_CLEANUP_GATE does (program_tables (program_of x))) input does.reached

module _ (x : Accepted) (s : Recorded) (input : List ℕ) (is : IsProgram x) (k : Keeps x s) (bytes : AreBytes input) where
  gate : (number : ℕ) → DoesAt x s (Svc number) → Turns x s input
  gate number does = elim (cases_eq number THROW_GATE) [
    | inl e ↦ throws x s input is k (subst (λ n. DoesAt x s (Svc n)) e does)
    | inr a ↦ elim (cases_eq number RETHROW_GATE) [
      | inl e ↦ rethrows x s input is k (subst (λ n. DoesAt x s (Svc n)) e does)
      | inr b ↦ elim (cases_eq number END_CLEANUP_GATE) [
        | inl e ↦ resumes x s input is k (subst (λ n. DoesAt x s (Svc n)) e does)
        | inr c ↦ gate_turns x s number input is k does (record { throw = a; rethrow = b; cleanup = c }) (byte_small input bytes)
      ]
    ]
  ]

  -- what the checker decoded has its fields in range
  in_range : (i : Instr) → DoesAt x s i → Bounds i
  in_range i does = standing_bounds (flow_graph_of x.image does.at.function) does.at.place i does.size does.stands

  -- one that works on a low register
  low : (i : Instr) (d : ℕ) → works_on i ≡ Some d → d < 8 → DoesAt x s i → Turns x s input
  low i d works l does = data_turns x s i d input is k does works (λ e. absurd (omega (arith, l, e)))

  each : (i : Instr) → DoesAt x s i → Turns x s input
  each (ShiftImm op d m n) does = low (ShiftImm op d m n) d refl (in_range (ShiftImm op d m n) does) does
  each (AddSubReg sub d n m) does = low (AddSubReg sub d n m) d refl (in_range (AddSubReg sub d n m) does) does
  each (AddSubImm3 sub d n imm) does = low (AddSubImm3 sub d n imm) d refl (in_range (AddSubImm3 sub d n imm) does) does
  each (Imm8 op d imm) does = low (Imm8 op d imm) d refl (in_range (Imm8 op d imm) does) does
  each (Alu op d m) does = low (Alu op d m) d refl (in_range (Alu op d m) does) does
  each (Adr d off) does = low (Adr d off) d refl (in_range (Adr d off) does) does
  each (Extend op d m) does = low (Extend op d m) d refl (in_range (Extend op d m) does) does
  each (Rev op d m) does = low (Rev op d m) d refl (in_range (Rev op d m) does) does
  each (AddRdSp d (pos off)) does = low (AddRdSp d (pos off)) d refl (in_range (AddRdSp d (pos off)) does).0 does
  each (AddRdSp d (negsuc off)) does = absurd (in_range (AddRdSp d (negsuc off)) does).1
  each (LdrLit t off) does = accesses x s (LdrLit t off) input is k does tt
  each (MemReg op t n m) does = accesses x s (MemReg op t n m) input is k does tt
  each (MemImm op t n off) does = accesses x s (MemImm op t n off) input is k does tt
  each (MemSp load t off) does = accesses x s (MemSp load t off) input is k does tt
  each (Stm n list) does = accesses x s (Stm n list) input is k does tt
  each (Ldm n list) does = accesses x s (Ldm n list) input is k does tt
  each (AddSp off) does = stacks x s (AddSp off) input is k does tt
  each (SubSp off) does = stacks x s (SubSp off) input is k does tt
  each (Push list) does = pushes x s list input is k does
  each (Pop list) does = pops x s list input is k does
  each (Svc number) does = gate number does
  each (AddHigh d m) does = add_high_turns x s d m input is k does
  each (MovHigh d m) does = elim (cases_eq d 13) [
    | inl e ↦ stacks x s (MovHigh d m) input is k does e
    | inr other ↦ mov_high_turns x s d m input is k does other
  ]
  each (CmpHigh n m) does = cmp_high_turns x s n m input is k does
  each (Bx m) does = bx_turns x s m input is k does
  each (Blx m) does = blx_turns x s m input is k does
  each (Hint n) does = hint_turns x s n input is k does
  each (BCond cc off) does = bcond_turns x s cc off input is k does
  each (B off) does = b_turns x s off input is k does
  each (Bl off) does = bl_turns x s off input is k does
  each (Barrier op option) does = barrier_turns x s op option input is k does
  each (Cbz nonzero n off) does = cbz_turns x s nonzero n off input is k does
  each (BWide off) does = b_wide_turns x s off input is k does
  each (MovW d imm) does = data_turns x s (MovW d imm) d input is k does refl (in_range (MovW d imm) does).0.1
  each (MovT d imm) does = data_turns x s (MovT d imm) d input is k does refl (in_range (MovT d imm) does).0.1
  each (Div signed d n m) does = data_turns x s (Div signed d n m) d input is k does refl (in_range (Div signed d n m) does).0.1

pub turns : TurnsSame
turns x s input is k bytes = turns_by_instruction x s input is k (each x s input is k bytes)
