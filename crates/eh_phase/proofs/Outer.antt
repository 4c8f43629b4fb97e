-- Each frame stands above the one inside it.
use Rattle.std.proofs.Common.{◌≡◌, ℕ, ◌+◌, ◌-◌, ◌<◌, ◌≤◌, Bool, true, false, cond, nat_eq, List, refl, subst, arith, Option, Some, None, Ok}
use Rattle.std.specs.Prelude.{slice_index}
use Rattle.std.proofs.lemmas.Bool.Decides.{nat_tests}
use Rattle.eh_bus.specs.declared.map.TheConstants.{STACK_END}
use Rattle.run_gates.specs.declared.gates.TheConstants.{NO_CALLER}
use Rattle.eh_codes.specs.Cut.{split_codes}
use Rattle.eh_bytecode.specs.Meaning.{unwind_result}
use Rattle.eh_bytecode.specs.declared.frame.Vrs.{Vrs}
use Rattle.eh_phase.specs.Frames.{Stack, MOST_FRAMES, outer, caller_of, check_caller, is_no_frame, is_above}

-- falls from a frame to the next
abbrev pub height : ℕ → Bool → ℕ → ℕ
height end innermost sp = (end + 1 - sp) + cond innermost 1 0

pub few : (end : ℕ) (innermost : Bool) (sp : ℕ) → end ≤ STACK_END → height end innermost sp < MOST_FRAMES
few end true sp low = omega arith
few end false sp low = omega arith

no_lower : (end : ℕ) (innermost : Bool) (sp next : ℕ) → is_no_frame end innermost sp next ≡ false → height end false next < height end innermost sp
no_lower end true sp next e = grind (arith, nat_tests)
no_lower end false sp next e = grind (arith, nat_tests)

by_tests : (end : ℕ) (limit : Option ℕ) (innermost : Bool) (sp : ℕ) (v next : Vrs) (a b c : Bool)
    → is_no_frame end innermost sp (slice_index v.r 13) ≡ a → is_above limit (slice_index v.r 13) ≡ b → nat_eq (slice_index v.r 15) NO_CALLER ≡ c
    → check_caller end limit innermost sp (Some v) ≡ Ok next → height end false (slice_index next.r 13) < height end innermost sp
by_tests end limit innermost sp v next true b c ea eb ec e = absurd (grind arith)
by_tests end limit innermost sp v next false true c ea eb ec e = absurd (grind arith)
by_tests end limit innermost sp v next false false true ea eb ec e = absurd (grind arith)
by_tests end limit innermost sp v next false false false ea eb ec e =
    let same : v ≡ next = grind arith in
    let P : Vrs → Type 0 = λ x. height end false (slice_index x.r 13) < height end innermost sp in
    subst P same (no_lower end innermost sp (slice_index v.r 13) ea)

by_end : (end : ℕ) (limit : Option ℕ) (innermost : Bool) (sp : ℕ) (o : Option Vrs) (next : Vrs)
    → check_caller end limit innermost sp o ≡ Ok next → height end false (slice_index next.r 13) < height end innermost sp
by_end end limit innermost sp None next e = absurd cc
by_end end limit innermost sp (Some v) next e = by_tests end limit innermost sp v next _ _ _ refl refl refl e

pub outer_lower : (stack : Stack) (limit : Option ℕ) (innermost : Bool) (codes r : List ℕ) (next : Vrs)
    → outer stack limit innermost codes r ≡ Ok next → height stack.end false (slice_index next.r 13) < height stack.end innermost (slice_index r 13)
unfolding outer
outer_lower stack limit innermost codes r next e = by_end stack.end limit innermost (slice_index r 13) (caller_of (unwind_result stack.segments r (split_codes codes))) next e
