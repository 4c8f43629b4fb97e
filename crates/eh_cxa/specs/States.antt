-- The states of an exception and the words that name them.
use Rattle.std.specs.Prelude.{ℕ, ◌==◌, Bool, true, false, Option, Some, None, if◌then◌else◌}
use Rattle.eh_cxa.specs.declared.state.TheConstants.{FRESH, FLYING, LANDED, CAUGHT, ENDED}
use Rattle.eh_cxa.specs.declared.state.State.{State}
use Rattle.eh_cxa.specs.declared.state.State.TheVariants.{Fresh, Flying, Landed, Caught, Ended}

-- the word of a state
abbrev pub code : State → ℕ
code Fresh = FRESH
code Flying = FLYING
code Landed = LANDED
code Caught = CAUGHT
code Ended = ENDED

-- the state that a word names; none for 0, which is a free slot, and for a word above 5
abbrev pub state_of_word : ℕ → Option State
state_of_word n =
    if n == FRESH then Some Fresh
    else (if n == FLYING then Some Flying
    else (if n == LANDED then Some Landed else (if n == CAUGHT then Some Caught else (if n == ENDED then Some Ended else None))))

-- ---- the states that calls accept; a slot without a state is never accepted

abbrev pub is_fresh : Option State → Bool
is_fresh (Some Fresh) = true
is_fresh (Some Flying) = false
is_fresh (Some Landed) = false
is_fresh (Some Caught) = false
is_fresh (Some Ended) = false
is_fresh None = false

abbrev pub is_flying : Option State → Bool
is_flying (Some Flying) = true
is_flying (Some Fresh) = false
is_flying (Some Landed) = false
is_flying (Some Caught) = false
is_flying (Some Ended) = false
is_flying None = false

abbrev pub is_landed : Option State → Bool
is_landed (Some Landed) = true
is_landed (Some Fresh) = false
is_landed (Some Flying) = false
is_landed (Some Caught) = false
is_landed (Some Ended) = false
is_landed None = false

abbrev pub is_caught : Option State → Bool
is_caught (Some Caught) = true
is_caught (Some Fresh) = false
is_caught (Some Flying) = false
is_caught (Some Landed) = false
is_caught (Some Ended) = false
is_caught None = false

-- an object that was never thrown, or whose last handler ended
abbrev pub may_be_freed : Option State → Bool
may_be_freed (Some Fresh) = true
may_be_freed (Some Ended) = true
may_be_freed (Some Flying) = false
may_be_freed (Some Landed) = false
may_be_freed (Some Caught) = false
may_be_freed None = false

-- thrown, and not yet caught by a handler
abbrev pub is_in_flight : Option State → Bool
is_in_flight (Some Flying) = true
is_in_flight (Some Landed) = true
is_in_flight (Some Fresh) = false
is_in_flight (Some Caught) = false
is_in_flight (Some Ended) = false
is_in_flight None = false
