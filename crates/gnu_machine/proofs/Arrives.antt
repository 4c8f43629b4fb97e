-- An event that counts a catch or a cleanup has landed at a pad.
use Rattle.std.proofs.Common.{◌≡◌, ℕ, ◌<◌, ◌⊎◌, inl, inr, List, refl, sym, ap, subst, ◌∙◌, arith}
use Rattle.std.proofs.lemmas.Bool.{cases_eq}
use Rattle.run_events.specs.Runs.{Event, Goes}
use Rattle.eh_gates.specs.State.{Tables}
use Rattle.eh_gates.specs.declared.gates.TheConstants.{THROW_GATE, RETHROW_GATE, END_CLEANUP_GATE}
use Rattle.eh_gates.specs.declared.state.Turned.TheVariants.{Went}
use Rattle.eh_trace.specs.Trace.{Trace}
use Rattle.frame_check.specs.Accepts.{Accepted}
use Rattle.sim_resumes.specs.ResumeLaws.{CleanupsAreOutside}
use Rattle.sim_relation.specs.Stands.{Keeps, DoesAt, OnEvent}
use Rattle.eh_machine.proofs.sim_runs.OneEvent.{turns}
use Rattle.thumb_isa.specs.declared.instr.Instr.TheVariants.{Svc}
use Rattle.thumb_core.specs.declared.ends.End.{End}
use Rattle.sim_machines.specs.Activations.{Recorded}
use Rattle.sim_machines.specs.ActivationMachine as machine
use Rattle.sim_machines.specs.Checked.{program_of}
use Rattle.sim_machines.specs.Program.{program_tables}
use Rattle.sim_changes.specs.FactLaws.{FactsAreThere}
use Rattle.sim_changes.specs.Free.{FreeRegisters, FreeAnywhere}
use Rattle.gnu_machine.specs.Laws.{Goings, CatchesHaveLanded, PadsAreFree}
use Rattle.gnu_machine.proofs.Events.{ByGate, By, event_by, gate_same}
use Rattle.gnu_machine.proofs.Gate.{gate_there}
use Rattle.gnu_machine.proofs.Lands.{Arrived}
use Rattle.gnu_machine.proofs.PadStates.{pad_free}
use Rattle.gnu_machine.proofs.Resumes.{resume_arrives}
use Rattle.gnu_machine.proofs.Throws.{throw_arrives, rethrow_arrives}

module _ (x : Accepted) (s t : Recorded) (input text left : List ℕ) (w : Goings x s t input text left) (outside : CleanupsAreOutside) where
  abbrev g : Tables
  g = program_tables (program_of x)

  throw_at : (next : ℕ) → machine.gate_of g THROW_GATE next s ≡ machine.throw_gate g s
  unfolding machine.gate_of
  throw_at next = refl

  rethrow_at : (next : ℕ) → machine.gate_of g RETHROW_GATE next s ≡ machine.rethrow_gate g s
  unfolding machine.gate_of
  rethrow_at next = refl

  end_at : (next : ℕ) → machine.gate_of g END_CLEANUP_GATE next s ≡ machine.end_cleanup_gate g s
  unfolding machine.gate_of
  end_at next = refl

  by_gate : ByGate (program_of x) s t → (t.events ≡ s.events) ⊎ Arrived x s t
  by_gate b = elim (cases_eq b.number THROW_GATE) [
    | inl e ↦ inr (throw_arrives x w.program s t w.keeps b.number does (sym (throw_at b.next) ∙ at THROW_GATE e))
    | inr no_throw ↦ elim (cases_eq b.number RETHROW_GATE) [
      | inl e ↦ inr (rethrow_arrives x w.program s t w.keeps b.number does (sym (rethrow_at b.next) ∙ at RETHROW_GATE e))
      | inr no_rethrow ↦ elim (cases_eq b.number END_CLEANUP_GATE) [
        | inl e ↦ inr (resume_arrives x w.program s t w.keeps outside (sym (end_at b.next) ∙ at END_CLEANUP_GATE e))
        | inr no_end ↦ inl (gate_same s b.next g b.number t (record { throw = no_throw; rethrow = no_rethrow; cleanup = no_end }) b.does)
      ]
    ]
  ]
    where
      does : DoesAt x s (Svc b.number)
      does = gate_there x w.program s w.keeps b.number b.step b.reached

      at : (n : ℕ) → b.number ≡ n → machine.gate_of g n b.next s ≡ (Went, t)
      at n e = subst (λ (m : ℕ). machine.gate_of g m b.next s ≡ (Went, t)) e b.does

  arrived : (t.events ≡ s.events) ⊎ Arrived x s t
  arrived = go (machine.recorded_event (program_of x) s input) (event_by (program_of x) s input) w.goes
    where
      go : (e : Event Recorded End) → By (program_of x) s input e → e ≡ Goes t text left → (t.events ≡ s.events) ⊎ Arrived x s t
      go e h q = on_goes (subst (By (program_of x) s input) q h)
        where
          on_goes : (t.events ≡ s.events) ⊎ ByGate (program_of x) s t → (t.events ≡ s.events) ⊎ Arrived x s t
          on_goes (inl same) = inl same
          on_goes (inr b) = by_gate b

  -- where a total rose
  pub arrives_by : (total : Trace → ℕ) → total s.events < total t.events → Arrived x s t
  arrives_by total rose = elim arrived [
    | inl same ↦ absurd (let e = ap total same in omega (arith, e, rose))
    | inr a ↦ a
  ]

  pub keeps_after : Keeps x t
  keeps_after = subst (OnEvent x) w.goes (turns x s input w.program w.keeps w.bytes).keeps

pub catches_have_landed : CleanupsAreOutside → CatchesHaveLanded
catches_have_landed outside x s t input text left w rose = elim (arrives_by x s t input text left w outside (λ (e : Trace). e.catches) rose).landed [
  | inl landed ↦ landed
  | inr same ↦ absurd (omega (arith, same, rose))
]

pub pads_are_free : CleanupsAreOutside → FreeRegisters → FreeAnywhere → FactsAreThere → PadsAreFree
pads_are_free outside registers anywhere facts x s t input text left w rose new d =
    pad_free x w.program t (keeps_after x s t input text left w outside) (at rose).pad new d registers anywhere facts
  where
    at : (s.events.catches < t.events.catches) ⊎ (s.events.cleanups < t.events.cleanups) → Arrived x s t
    at (inl up) = arrives_by x s t input text left w outside (λ (e : Trace). e.catches) up
    at (inr up) = arrives_by x s t input text left w outside (λ (e : Trace). e.cleanups) up
