-- What was given: a byte that was taken, and nothing where the source failed.
use Rattle.std.specs.Prelude.{MatchOption}
use Rattle.std.proofs.Common.{◌≡◌, ℕ, ◌<◌, List, [], ◌∷◌, ◌++◌, length, take, slice_set, Option, Some, refl, ap, arith}
use Rattle.std.proofs.lemmas.List.Elements.{All-nil, All-push}
use Rattle.std.proofs.KnownBytes.{Appends-nil}
use Rattle.eh_bus.specs.Segment.{AreBytes}
use Rattle.run_events.specs.Runs.{GoesOn, EndsBy}
use Rattle.run_gates.specs.Ends.{is_fault}
use Rattle.run_gates.specs.Gates.{gate_event, gate_may_fail}
use Rattle.run_gates.specs.declared.gates.TheConstants.{INPUT_GATE}
use Rattle.thumb_core.specs.declared.regs.Regs.{Regs}
use Rattle.thumb_core.specs.declared.ends.End.TheVariants.{ReadFault}
use Rattle.run_gates.specs.Given.{OnGiven, given_bytes}

pub one_byte : (byte : ℕ) → byte < 256 → AreBytes (byte ∷ [])
one_byte byte small = All-push (λ (b : ℕ). b < 256) [] byte (All-nil (λ (b : ℕ). b < 256)) small

pub taken : (o : Option ℕ) (byte : ℕ) (buf : List ℕ) → o ≡ Some byte → 0 < length buf → given_bytes o ≡ take 1 (slice_set buf 0 byte) ++ []
taken o byte [] e some = absurd (omega (arith, some))
taken o byte (x ∷ xs) e some = ap given_bytes e

-- the source failed: nothing was given, and the registers are those before the gate
pub given_failed : (number : ℕ) (old new : Regs) (out : Option (List ℕ)) → number ≡ INPUT_GATE
    → OnGiven (λ bytes left. MatchOption (Some ReadFault) (GoesOn (gate_event number old new bytes) old left out out)
    (λ end. EndsBy is_fault (gate_may_fail number) (gate_event number old new bytes) end old old bytes left out out))
given_failed number old new out e = record {
  bytes = [];
  left = [];
  are = All-nil (λ (b : ℕ). b < 256);
  done = record { is = tt; fails = record { may = rw e refl; same = refl }; leaves = refl; wrote = Appends-nil out };
}
