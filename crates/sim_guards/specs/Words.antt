-- Stores of several words along runs of accepted images (docs/inside/simulation.md, "What is proved").
use Rattle.std.specs.Prelude.{◌≡◌, ℕ, ◌^◌, ◌<◌, List, ◌∷◌, length, Err}
use Rattle.frame_check.specs.Accepts.{Accepted}
use Rattle.eh_bus.specs.Lists.{Has}
use Rattle.eh_bus.specs.Memory.{store_run}
use Rattle.eh_bus.specs.declared.fault.BusFault.TheVariants.{SavedSlot}
use Rattle.eh_gates.specs.State.{State}
use Rattle.sim_machines.specs.Activations.{Recorded, slots_of}
use Rattle.sim_relation.specs.Stands.{IsProgram}
use Rattle.sim_runs.specs.Turned.{AreBytes, byte_run, recorded_run}
use Rattle.mem_laws.specs.Runs.{word_address, CanStore}

-- the state that a run has reached, over bytes and with recorded activations
abbrev pub bytes_at : Accepted → ℕ → List ℕ → State
bytes_at x n input = (byte_run x n input).state

abbrev pub recorded_state_at : Accepted → ℕ → List ℕ → Recorded
recorded_state_at x n input = (recorded_run x n input).state

-- a word is a slot of a live activation
abbrev pub IsSlot : Accepted → ℕ → List ℕ → ℕ → Type 0
IsSlot x n input g = Has (slots_of ((recorded_state_at x n input).first ∷ (recorded_state_at x n input).outer)) g

-- words stored upwards are refused if the first that can't be stored is such a slot; the refusal names its address, and none is stored
abbrev pub RunsGuardWords : Type 0
RunsGuardWords = (x : Accepted) (n : ℕ) (input : List ℕ) → IsProgram x → AreBytes input
    → (a : ℕ) (words : List ℕ) (k : ℕ) → a < 2 ^ 32 → k < length words → CanStore (bytes_at x n input).memory a words k → IsSlot x n input (word_address a k)
    → store_run (bytes_at x n input).memory a words ≡ (Err (SavedSlot (word_address a k)), (bytes_at x n input).memory)
