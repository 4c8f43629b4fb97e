-- Catches and rethrows, as writes of words.
use Rattle.std.specs.Prelude.{ℕ, ◌+◌, ◌-◌, ◌%◌, ◌^◌, ◌==◌, ◌&&◌, not, min, nat_lt, Bool, true, false, [], ◌∷◌, Option, Some, None, Result, Ok, Err, if◌then◌else◌}
use Rattle.eh_cxa.specs.declared.globals.Globals.{Globals}
use Rattle.eh_cxa.specs.declared.globals.CxaFault.{CxaFault}
use Rattle.eh_cxa.specs.declared.globals.CxaFault.TheVariants.{BadUcb, CaughtOrder, NoCaught}
use Rattle.eh_cxa.specs.declared.layout.TheConstants.{STATE, DESTRUCTOR, COUNT, NEXT_CAUGHT, BARRIER_OBJECT}
use Rattle.eh_cxa.specs.declared.state.TheConstants.{FLYING, CAUGHT, ENDED}
use Rattle.eh_cxa.specs.States.{state_of_word, is_landed, is_caught}
use Rattle.eh_cxa.specs.declared.state.State.{State}
use Rattle.eh_cxa.specs.Words.{Pool, write, block, object, block_slot, Done, chain_word, one_more, one_less}

abbrev pub call_refusal : {A : Type 0} → CxaFault → Globals → Done (Result A CxaFault)
call_refusal e g = record { answer = Err e; globals = g; writes = [] }

-- ---- counts, as words: those from 2^31 on are negative

-- n + 1 if n isn't negative, else 1 - n; at most 2^31 - 1
abbrev pub count_after_catch : ℕ → ℕ
count_after_catch c = min (if nat_lt c (2 ^ 31) then c + 1 else 2 ^ 32 - c + 1) (2 ^ 31 - 1)

abbrev pub negated_count : ℕ → ℕ
negated_count c = (2 ^ 32 - c) % 2 ^ 32

-- ---- begin_catch

-- the tests are: its count isn't 0; it is on top of the caught stack
abbrev pub catch_fault : Option State → Bool → Bool → Option CxaFault
catch_fault state uncounted top =
    if not (is_landed state) then Some BadUcb else (if not uncounted && not top then Some CaughtOrder else None)

-- true: no handler has it, so it is pushed
abbrev pub catch_by : Bool → Pool → Globals → ℕ → ℕ → Done (Result ℕ CxaFault)
catch_by true w g ucb s = record {
  answer = Ok (w s BARRIER_OBJECT);
  globals = record { caught = ucb; cleanup = g.cleanup; uncaught = one_less g.uncaught };
  writes = write s NEXT_CAUGHT g.caught ∷ (write s COUNT (count_after_catch (w s COUNT)) ∷ (write s STATE CAUGHT ∷ []));
}
catch_by false w g ucb s = record {
  answer = Ok (w s BARRIER_OBJECT);
  globals = record { caught = g.caught; cleanup = g.cleanup; uncaught = one_less g.uncaught };
  writes = write s COUNT (count_after_catch (w s COUNT)) ∷ (write s STATE CAUGHT ∷ []);
}

abbrev pub catch_at : Pool → Globals → ℕ → ℕ → Option CxaFault → Done (Result ℕ CxaFault)
catch_at w g ucb s (Some e) = call_refusal e g
catch_at w g ucb s None = catch_by (w s COUNT == 0) w g ucb s

abbrev pub catch_in : Pool → Globals → ℕ → Option ℕ → Done (Result ℕ CxaFault)
catch_in w g ucb None = call_refusal BadUcb g
catch_in w g ucb (Some s) = catch_at w g ucb s (catch_fault (state_of_word (w s STATE)) (w s COUNT == 0) (g.caught == ucb))

abbrev pub begin_catch_of : Pool → Globals → ℕ → Done (Result ℕ CxaFault)
begin_catch_of w g ucb = catch_in w g ucb (block_slot ucb)

-- ---- end_catch

-- what happens to the count of the top: nothing, if it is 0; it changes; it falls to 0, and the exception ends; it rises to 0, and the
-- exception leaves the stack
pub data Fall (A : Type 0) : Type 0 where
  stays : Fall A
  falls : A → Fall A
  ends : Fall A
  leaves : Fall A

abbrev pub fall : ℕ → Fall ℕ
fall c =
    if c == 0 then stays
    else (if c == 1 then ends else (if c == 2 ^ 32 - 1 then leaves else (if nat_lt c (2 ^ 31) then falls (c - 1) else falls (c + 1))))

abbrev pub globals_without_top : Pool → Globals → ℕ → Globals
globals_without_top w g s = record { caught = chain_word (w s NEXT_CAUGHT); cleanup = g.cleanup; uncaught = g.uncaught }

abbrev pub end_catch_by : Fall ℕ → Pool → Globals → ℕ → Done (Result (ℕ × ℕ) CxaFault)
end_catch_by stays w g s = record { answer = Ok (0, 0); globals = g; writes = [] }
end_catch_by (falls c) w g s = record { answer = Ok (0, 0); globals = g; writes = write s COUNT c ∷ [] }
end_catch_by ends w g s = record {
  answer = Ok (object s, w s DESTRUCTOR);
  globals = globals_without_top w g s;
  writes = write s COUNT 0 ∷ (write s STATE ENDED ∷ []);
}
end_catch_by leaves w g s = record { answer = Ok (0, 0); globals = globals_without_top w g s; writes = write s COUNT 0 ∷ [] }

abbrev pub end_catch_at : Pool → Globals → Option ℕ → Done (Result (ℕ × ℕ) CxaFault)
end_catch_at w g None = call_refusal NoCaught g
end_catch_at w g (Some s) = end_catch_by (fall (w s COUNT)) w g s

abbrev pub end_catch_of : Pool → Globals → Done (Result (ℕ × ℕ) CxaFault)
end_catch_of w g = end_catch_at w g (block_slot g.caught)

-- ---- rethrow

abbrev pub rethrow_by : Bool → Pool → Globals → ℕ → Done (Result ℕ CxaFault)
rethrow_by false w g s = call_refusal CaughtOrder g
rethrow_by true w g s = record {
  answer = Ok (block s);
  globals = record { caught = g.caught; cleanup = g.cleanup; uncaught = one_more g.uncaught };
  writes = write s COUNT (negated_count (w s COUNT)) ∷ (write s STATE FLYING ∷ []);
}

abbrev pub rethrow_at : Pool → Globals → Option ℕ → Done (Result ℕ CxaFault)
rethrow_at w g None = call_refusal NoCaught g
rethrow_at w g (Some s) = rethrow_by (is_caught (state_of_word (w s STATE))) w g s

abbrev pub rethrow_of : Pool → Globals → Done (Result ℕ CxaFault)
rethrow_of w g = rethrow_at w g (block_slot g.caught)
