-- Allocating and freeing exceptions, as writes of words.
use Rattle.std.specs.Prelude.{ℕ, zero, suc, ◌==◌, nat_lt, Bool, true, false, List, [], ◌∷◌, ◌++◌, Option, Some, None, Result, Ok, Err, if◌then◌else◌}
use Rattle.eh_cxa.specs.declared.globals.CxaFault.{CxaFault}
use Rattle.eh_cxa.specs.declared.globals.CxaFault.TheVariants.{TooBig, PoolFull, BadObject}
use Rattle.eh_cxa.specs.declared.layout.TheConstants.{SLOTS, SLOT_WORDS, OBJECT_BYTES, STATE, SIZE}
use Rattle.eh_cxa.specs.declared.state.TheConstants.{FREE, FRESH}
use Rattle.eh_cxa.specs.States.{state_of_word, may_be_freed}
use Rattle.eh_cxa.specs.Words.{Pool, Write, write, object, Wrote}

-- zeros in the first n words of the slot
unfoldable pub zeros : ℕ → ℕ → List Write
zeros s zero = []
zeros s (suc n) = zeros s n ++ (write s n 0 ∷ [])

-- the first of n slots from s on that passes
unfoldable pub first_from : (ℕ → Bool) → ℕ → ℕ → Option ℕ
first_from p zero s = None
first_from p (suc n) s = if p s then Some s else first_from p n (suc s)

-- the lowest slot that passes a test
unfoldable pub first_slot : (ℕ → Bool) → Option ℕ
first_slot p = first_from p SLOTS 0

abbrev pub allocate_at : ℕ → Option ℕ → Wrote (Result ℕ CxaFault)
allocate_at size None = record { answer = Err PoolFull; writes = [] }
allocate_at size (Some s) = record {
  answer = Ok (object s);
  writes = zeros s SLOT_WORDS ++ (write s SIZE size ∷ (write s STATE FRESH ∷ []));
}

abbrev pub allocate_of : Pool → ℕ → Wrote (Result ℕ CxaFault)
allocate_of w size =
    if nat_lt OBJECT_BYTES size then record { answer = Err TooBig; writes = [] } else allocate_at size (first_slot (λ s. w s STATE == FREE))

abbrev pub free_by : Bool → ℕ → Wrote (Result (Unit {0}) CxaFault)
free_by true s = record { answer = Ok tt; writes = write s STATE FREE ∷ [] }
free_by false s = record { answer = Err BadObject; writes = [] }

-- s is the slot whose object is freed; None if the address isn't an object's
abbrev pub free_of : Pool → Option ℕ → Wrote (Result (Unit {0}) CxaFault)
free_of w None = record { answer = Err BadObject; writes = [] }
free_of w (Some s) = free_by (may_be_freed (state_of_word (w s STATE))) s

-- the size as it was given to allocate
abbrev pub size_at : Pool → Option ℕ → ℕ
size_at w None = 0
size_at w (Some s) = w s SIZE
