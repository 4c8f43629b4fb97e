-- Runs of a machine with states S and ends E: consecutive events, at most as many as the budget (docs/rules/memory.md).
use Rattle.std.specs.Prelude.{ℕ, ◌≡◌, ◌+◌, ◌-◌, ◌<◌, List, [], ◌++◌, Bool, true, Option, Some, None, option_map}
use Rattle.std.proofs.Common.{zero, suc}
use Rattle.std.specs.Bool.{OnFalse, OnTrue}
use Rattle.std.specs.Io.KnownBytes.{Appends}
use Rattle.eh_port.specs.Writing.{AppendsPart}

-- An event goes on, with the next state, the text that it writes and the input that it leaves. Or it ends the run, with
-- the state that it leaves; then it writes nothing and takes no input.
pub data Event (S E : Type 0) : Type 0 where
  Goes : (state : S) (text left : List ℕ) → Event S E
  Ends : (end : E) (state : S) → Event S E

-- the result of a run: what it writes, how it ends, the state and the input that it leaves, and how many events it had
-- to spare
pub record Ran (S E : Type 0) : Type 0 where
  pub text : List ℕ
  pub end : E
  pub state : S
  pub left : List ℕ
  pub spare : ℕ

abbrev pub prepend : {S E : Type 0} → List ℕ → Ran S E → Ran S E
prepend text ran = record { text = text ++ ran.text; end = ran.end; state = ran.state; left = ran.left; spare = ran.spare }

abbrev pub run_after : {S E : Type 0} → Event S E → (S → List ℕ → Ran S E) → ℕ → List ℕ → Ran S E
run_after (Goes state text left) rest n input = prepend text (rest state left)
run_after (Ends end state) rest n input = record { text = []; end = end; state = state; left = input; spare = n }

-- the run of at most n events; `spent` is the end of a run whose events all went on
unfoldable pub run : {S E : Type 0} → (S → List ℕ → Event S E) → E → ℕ → S → List ℕ → Ran S E
run event spent zero state input = record { text = []; end = spent; state = state; left = input; spare = 0 }
run event spent (suc n) state input = run_after (event state input) (run event spent n) n input

-- ---- the result of n events that all went on

pub record ReachedState (S : Type 0) : Type 0 where
  pub text : List ℕ
  pub state : S
  pub left : List ℕ

abbrev pub prepend_reached : {S : Type 0} → List ℕ → ReachedState S → ReachedState S
prepend_reached text reach_state = record { text = text ++ reach_state.text; state = reach_state.state; left = reach_state.left }

abbrev pub reach_after : {S E : Type 0} → Event S E → (S → List ℕ → Option (ReachedState S)) → Option (ReachedState S)
reach_after (Goes state text left) rest = option_map (prepend_reached text) (rest state left)
reach_after (Ends end state) rest = None

-- None if one of the first n events ends the run
unfoldable pub reach_state : {S E : Type 0} → (S → List ℕ → Event S E) → ℕ → S → List ℕ → Option (ReachedState S)
reach_state event zero state input = Some (record { text = []; state = state; left = input })
reach_state event (suc n) state input = reach_after (event state input) (reach_state event n)

-- ---- what calls of a program have done, on the known bytes of a source (`left`) and of a sink (`before`, `now`)

-- A machine as a program runs it: its events, the end of a run whose events all went on, the ends that are faults of
-- the source or sink, and which of these may stop it in a state.
pub record Machine (S E : Type 0) : Type 0 where
  pub event : S → List ℕ → Event S E
  pub spent : E
  pub is_fault : E → Bool
  pub may_fail : S → E → Bool

abbrev pub machine_run : {S E : Type 0} → Machine S E → ℕ → S → List ℕ → Ran S E
machine_run machine n state input = run machine.event machine.spent n state input

-- one event went on
pub record GoesOn {S E : Type 0} (event : Event S E) (new : S) (left before now : Option (List ℕ)) : Type 0 where
  pub text : List ℕ
  pub rest : List ℕ
  pub is : event ≡ Goes new text rest
  pub leaves : left ≡ Some rest
  pub wrote : Appends before now text

-- a fault where one is possible; the state is unchanged
pub record Fails {S E : Type 0} (may_fail : E → Bool) (end : E) (old new : S) : Type 0 where
  pub may : may_fail end ≡ true
  pub same : new ≡ old

-- One event ended the run, or a fault that is possible there did. Either way nothing was written or taken.
pub record EndsBy {S E : Type 0} (is_fault may_fail : E → Bool) (event : Event S E) (end : E) (old new : S) (input : List ℕ) (left before now : Option (List ℕ)) : Type 0 where
  pub is : OnFalse (is_fault end) (event ≡ Ends end new)
  pub fails : OnTrue (is_fault end) (Fails may_fail end old new)
  pub leaves : left ≡ Some input
  pub wrote : Appends before now []

-- a fault stopped the run after some events that went on, in a state where it is possible
pub record StopsAt {S E : Type 0} (machine : Machine S E) (n : ℕ) (state : S) (input : List ℕ) (end : E) (new : S) (unspent : ℕ) (left before now : Option (List ℕ)) : Type 0 where
  pub count : ℕ
  pub text : List ℕ
  pub rest : List ℕ
  pub within : count < n
  pub went : reach_state machine.event count state input ≡ Some (record { text = text; state = new; left = rest })
  pub may : machine.may_fail new end ≡ true
  pub spare : unspent ≡ n - (count + 1)
  pub leaves : left ≡ Some rest
  pub wrote : Appends before now text

-- A run of at most n events was done: all of it, or up to a fault, with a front part of its text.
pub record Runs {S E : Type 0} (machine : Machine S E) (n : ℕ) (state : S) (input : List ℕ)
    (end : E) (new : S) (unspent : ℕ) (left before now : Option (List ℕ)) : Type 0 where
  pub part : AppendsPart before now (machine_run machine n state input).text
  pub ends : OnFalse (machine.is_fault end) (end ≡ (machine_run machine n state input).end)
  pub state_is : OnFalse (machine.is_fault end) (new ≡ (machine_run machine n state input).state)
  pub leaves : OnFalse (machine.is_fault end) (left ≡ Some (machine_run machine n state input).left)
  pub spare : OnFalse (machine.is_fault end) (unspent ≡ (machine_run machine n state input).spare)
  pub wrote : OnFalse (machine.is_fault end) (Appends before now (machine_run machine n state input).text)
  pub stopped : OnTrue (machine.is_fault end) (StopsAt machine n state input end new unspent left before now)
