-- What a schedule's text says (docs/guide/walks-and-threads.md).
use Rattle.std.specs.Prelude.{◌≡◌, ℕ, Bool, not, ◌&&◌, ◌||◌, ◌==◌, nat_le, List, [], ◌∷◌, length, filter, Option, Some, None, Result, Ok, Err}
use Rattle.std.specs.List.{position_from}
use Rattle.thread_schedule.specs.declared.schedule.ScheduleFault.{ScheduleFault}
use Rattle.thread_schedule.specs.declared.schedule.ScheduleFault.TheVariants.{BadSchedule, OutOfMemory}
use Rattle.thread_schedule.specs.declared.schedule.TheConstants.{FIRST_DIGIT, LAST_DIGIT, LINE_FEED}

abbrev pub is_digit : ℕ → Bool
is_digit byte = nat_le FIRST_DIGIT byte && nat_le byte LAST_DIGIT

-- a byte that a schedule may not have
abbrev pub is_bad : ℕ → Bool
is_bad byte = not (is_digit byte || byte == LINE_FEED)

-- a schedule has a digit
abbrev pub some_digits : List ℕ → ℕ → Result (List ℕ) ℕ
some_digits [] end = Err end
some_digits (digit ∷ more) end = Ok (digit ∷ more)

abbrev pub unless_bad : Option ℕ → List ℕ → Result (List ℕ) ℕ
unless_bad (Some at) text = Err at
unless_bad None text = some_digits (filter is_digit text) (length text)

-- the digits, or the offset at which the text is refused
unfoldable pub schedule_of : List ℕ → Result (List ℕ) ℕ
schedule_of text = unless_bad (position_from is_bad 0 text) text

-- a refusal names that offset
abbrev pub Refuses : List ℕ → ScheduleFault → Type 0
Refuses text (BadSchedule at) = schedule_of text ≡ Err at
Refuses text OutOfMemory = Unit {0}
