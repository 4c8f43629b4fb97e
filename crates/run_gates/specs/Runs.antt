-- The contract of a run whose source may not know its bytes. Each event is given bytes of its own, since such a source
-- may be at its end and later give more (docs/rules/memory.md, "Sources that tell nothing").
use Rattle.std.specs.Prelude.{ℕ, ◌≡◌, ◌+◌, ◌-◌, ◌<◌, List, [], ◌∷◌, ◌++◌, length, true, false, Option, Some, None, option_map}
use Rattle.std.specs.List.{All}
use Rattle.std.specs.Io.KnownBytes.{Appends}
use Rattle.eh_bus.specs.Segment.{AreBytes}
use Rattle.run_events.specs.Runs.{Event, Goes, Ends, Machine}

-- the result of some events: their text, and the state
pub record FedState (S : Type 0) : Type 0 where
  pub text : List ℕ
  pub state : S

abbrev pub prepend_fed : {S : Type 0} → List ℕ → FedState S → FedState S
prepend_fed text led = record { text = text ++ led.text; state = led.state }

abbrev pub feed_after : {S E : Type 0} → Event S E → (S → Option (FedState S)) → Option (FedState S)
feed_after (Goes state text left) rest = option_map (prepend_fed text) (rest state)
feed_after (Ends end state) rest = None

-- consecutive events, each on the bytes that it was given; None if one of them ends the run
unfoldable pub feed_events : {S E : Type 0} → (S → List ℕ → Event S E) → List (List ℕ) → S → Option (FedState S)
feed_events event [] state = Some (record { text = []; state = state })
feed_events event (bytes ∷ more) state = feed_after (event state bytes) (feed_events event more)

-- How a run of at most n events is over, in the state after `count` events: none is left; or one more event ended it,
-- with the state that this one leaves; or a fault that is possible there did, and left the state unchanged.
pub data IsOver {S E : Type 0} (machine : Machine S E) (n count : ℕ) (at : S) (end : E) (new : S) (unspent : ℕ) : Type 0 where
  spent : count ≡ n → end ≡ machine.spent → new ≡ at → unspent ≡ 0 → IsOver machine n count at end new unspent
  ended : count < n → unspent ≡ n - (count + 1) → machine.is_fault end ≡ false → (bytes : List ℕ) → AreBytes bytes → machine.event at bytes ≡ Ends end new
      → IsOver machine n count at end new unspent
  failed : count < n → unspent ≡ n - (count + 1) → machine.is_fault end ≡ true → machine.may_fail at end ≡ true → new ≡ at → IsOver machine n count at end new unspent

-- a run of at most n events, each on bytes that it was given
pub record RunsGiven {S E : Type 0} (machine : Machine S E) (n : ℕ) (old : S) (end : E) (new : S) (unspent : ℕ) (before now : Option (List ℕ)) : Type 0 where
  pub given : List (List ℕ)
  pub are : All AreBytes given
  pub text : List ℕ
  pub at : S
  pub led : feed_events machine.event given old ≡ Some (record { text = text; state = at })
  pub wrote : Appends before now text
  pub over : IsOver machine n (length given) at end new unspent
