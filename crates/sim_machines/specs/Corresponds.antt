-- Words and lists of exceptions that stand for each other, and the gates that walk no frames (docs/rules/machine.md, "Laws").
use Rattle.std.specs.Prelude.{◌≡◌, ℕ, ◌<◌, ◌≤◌, ◌^◌, List, None}
use Rattle.run_events.specs.Runs.{Goes}
use Rattle.run_gates.specs.declared.gates.TheConstants.{INPUT_GATE}
use Rattle.eh_bus.specs.Map.{IsMap}
use Rattle.eh_cxa.specs.Stands.{Stands}
use Rattle.eh_cxa.specs.Words.{word}
use Rattle.thumb_core.specs.Step.{step_for}
use Rattle.thumb_core.specs.declared.regs.Stepped.{Stepped}
use Rattle.thumb_core.specs.declared.regs.Stepped.TheVariants.{Done, Call, Return, Gate, Trap}
use Rattle.eh_gates.specs.declared.gates.TheConstants.{THROW_GATE, RETHROW_GATE, END_CLEANUP_GATE}
use Rattle.eh_gates.specs.declared.state.Turned.TheVariants.{Went, Ended}
use Rattle.eh_gates.specs.State.{Tables, Outcome}
use Rattle.eh_gates.specs.Gates.{gate_of}
use Rattle.sim_machines.specs.Program.{Program, profile_in}
use Rattle.sim_machines.specs.Machine.{machine_event}
use Rattle.sim_machines.specs.Start.{start_of}
use Rattle.sim_machines.specs.Activations.{Recorded, reg_in, memory_of, heads, bytes_of, recorded_start, lists_of}
use Rattle.sim_machines.specs.ActivationMachine as acts
use Rattle.sim_machines.specs.ActivationLaws.{Matches, KnowsLanding}

-- the memory is one that a bus may have, and the words of its pool and the heads stand for the lists
pub record Corresponds (s : Recorded) : Type 0 where
  pub map : IsMap (memory_of s)
  pub stands : Stands (word (memory_of s)) (heads (lists_of s)) (lists_of s)

-- Both go on or both end, alike. Their states agree: guarded words correspond to slots, and chains to lists.
abbrev pub OutcomesMatch : Outcome → acts.Outcome → Type 0
OutcomesMatch (Went, b) (Went, s) = b ≡ bytes_of s
OutcomesMatch (Ended end, b) (Ended why, s) = (end ≡ why) × (b ≡ bytes_of s)
OutcomesMatch (Went, b) (Ended why, s) = ⊥
OutcomesMatch (Ended end, b) (Went, s) = ⊥

-- a gate that walks no frames: no throw, no rethrow and no end of a cleanup
pub record WalksNone (number : ℕ) : Type 0 where
  pub throw : number ≡ THROW_GATE → ⊥
  pub rethrow : number ≡ RETHROW_GATE → ⊥
  pub cleanup : number ≡ END_CLEANUP_GATE → ⊥

-- such a gate does the same over bytes and with recorded activations, and afterwards the words stand for the lists again
pub record GateMatches (o : Outcome) (q : acts.Outcome) : Type 0 where
  pub same : OutcomesMatch o q
  pub still : Corresponds q.1

-- all instructions but a return, a throw, a rethrow and the end of a cleanup
abbrev pub IsInPlace : Program → Recorded → Stepped → Type 0
IsInPlace p s Done = Unit {0}
IsInPlace p s (Call target ret) = Unit {0}
IsInPlace p s (Return to) = ⊥
IsInPlace p s (Gate number) = WalksNone number
IsInPlace p s (Trap trap) = acts.pops_back p s ≡ None

pub record CallsMatch : Type 0 where
  pub start : (p : Program) → IsMap (start_of p).memory → Corresponds (recorded_start p)
  pub landing : (s : Recorded) → Corresponds s → KnowsLanding s
  pub gates :
      (g : Tables) (number next : ℕ) (s : Recorded) → Corresponds s → reg_in s 0 < 2 ^ 32 → WalksNone number
      → GateMatches (gate_of g number next (bytes_of s)) (acts.gate_of g number next s)
  pub events :
      (p : Program) (s : Recorded) (input : List ℕ) → Corresponds s → reg_in s 0 < 2 ^ 32
      → IsInPlace p s (step_for (profile_in p) s.regs (memory_of s)).0
      → Matches (machine_event p (bytes_of s) input) (acts.recorded_event p s input)

-- all instructions but gates of exceptions
abbrev pub IsNoCall : Stepped → Type 0
IsNoCall Done = Unit {0}
IsNoCall (Call target ret) = Unit {0}
IsNoCall (Return to) = Unit {0}
IsNoCall (Gate number) = number ≤ INPUT_GATE
IsNoCall (Trap trap) = Unit {0}

-- after an instruction that is no gate of exceptions, the lists and the places of cleanups are unchanged, and the words of the pool still
-- stand for the lists
pub record KeepLists (s t : Recorded) : Type 0 where
  pub lists : lists_of t ≡ lists_of s
  pub cleanups : t.cleanups ≡ s.cleanups
  pub stands : Stands (word (memory_of t)) (heads (lists_of t)) (lists_of t)

abbrev pub ListsAreKept : Type 0
ListsAreKept =
    (p : Program) (s t : Recorded) (input text left : List ℕ) → Stands (word (memory_of s)) (heads (lists_of s)) (lists_of s)
    → IsNoCall (step_for (profile_in p) s.regs (memory_of s)).0
    → acts.recorded_event p s input ≡ Goes t text left → KeepLists s t
