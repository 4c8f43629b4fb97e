-- An unwinding that gives no registers ends otherwise than finished.
use Rattle.std.proofs.Common.{◌≡◌, ℕ, List, [], ◌∷◌, ap, Some, Result, Ok, Err}
use Rattle.eh_bus.specs.Segment.{Segment}
use Rattle.eh_bus.specs.declared.fault.BusFault.{BusFault}
use Rattle.eh_codes.specs.Cut.{Item, Is, Bad}
use Rattle.eh_codes.specs.Meaning.{Effect, Rises, Falls, Pops, Takes, Refuses, Finishes, effect}
use Rattle.eh_bytecode.specs.declared.frame.Vrs.{Vrs}
use Rattle.eh_bytecode.specs.declared.frame.UnwindState.{UnwindState}
use Rattle.eh_bytecode.specs.declared.frame.UnwindEnd.{UnwindEnd}
use Rattle.eh_bytecode.specs.declared.frame.UnwindEnd.TheVariants.{Finished, Refused, BadCode, Unreadable}
use Rattle.eh_bytecode.specs.Meaning.{Step, Goes, Ends, begin_unwind, pop_step, effect_step, continue_unwind, run_codes, unwind_result, unwind_answer}
use Rattle.eh_phase.specs.Frames.{caller_of}

abbrev IsEnd : Result (List ℕ) UnwindEnd → Type 0
IsEnd (Ok r) = Unit {0}
IsEnd (Err Finished) = ⊥
IsEnd (Err Refused) = Unit {0}
IsEnd (Err (BadCode place)) = Unit {0}
IsEnd (Err (Unreadable a)) = Unit {0}

abbrev IsStep : Step → Type 0
IsStep (Goes s) = Unit {0}
IsStep (Ends end) = IsEnd end

pops_end : (s : UnwindState) (registers : List ℕ) (o : Result (List ℕ) BusFault) → IsStep (pop_step s registers o)
pops_end s registers (Ok r) = tt
pops_end s registers (Err fault) = tt

after_end : (segments : List Segment) (s : UnwindState) (e : Effect) → IsStep (effect_step segments s e)
after_end segments s (Rises by) = tt
after_end segments s (Falls by) = tt
after_end segments s (Pops registers) = pops_end s registers _
after_end segments s (Takes register) = tt
after_end segments s Refuses = tt
after_end segments s Finishes = tt

on_end : (further : UnwindState → Result (List ℕ) UnwindEnd) (step : Step) → IsStep step → ((s : UnwindState) → IsEnd (further s)) → IsEnd (continue_unwind further step)
on_end further (Goes s) h each = each s
on_end further (Ends end) h each = h

runs_end : (segments : List Segment) (items : List Item) (s : UnwindState) → IsEnd (run_codes segments s items)
runs_end segments [] s = tt
runs_end segments (Bad place ∷ more) s = tt
runs_end segments (Is code ∷ more) s = on_end (λ next. run_codes segments next more) (effect_step segments s (effect code)) (after_end segments s (effect code)) (λ next. runs_end segments more next)

by_answer : (old new : Vrs) (o : Result (List ℕ) UnwindEnd) → IsEnd o → (Finished, new) ≡ unwind_answer old o → Some new ≡ caller_of o
by_answer old new (Ok r) h e = ap (λ (p : UnwindEnd × Vrs). Some p.1) e
by_answer old new (Err Finished) h e = absurd h
by_answer old new (Err Refused) h e = absurd (let q = ap (λ (p : UnwindEnd × Vrs). p.0) e in cc)
by_answer old new (Err (BadCode place)) h e = absurd (let q = ap (λ (p : UnwindEnd × Vrs). p.0) e in cc)
by_answer old new (Err (Unreadable a)) h e = absurd (let q = ap (λ (p : UnwindEnd × Vrs). p.0) e in cc)

-- the registers of a finished unwinding
pub finished : (segments : List Segment) (old new : Vrs) (items : List Item) → (Finished, new) ≡ unwind_answer old (unwind_result segments old.r items) → Some new ≡ caller_of (unwind_result segments old.r items)
unfolding unwind_result
finished segments old new items e = by_answer old new (run_codes segments (begin_unwind old.r) items) (runs_end segments items (begin_unwind old.r)) e
