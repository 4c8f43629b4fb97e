-- The chains of action records of a language-specific data area, and the types of its type table (docs/rules/gnu-tables.md). A record has two
-- SLEB128 numbers: a filter, and the displacement from the second number's own place to the next record, 0 at the chain's end.
use Rattle.std.specs.Prelude.{ℕ, zero, suc, ◌+◌, ◌-◌, ◌*◌, ◌%◌, ◌^◌, ◌==◌, nat_lt, if◌then◌else◌, List, [], ◌∷◌, Option, Some, None, Result, Ok, Err}
use Rattle.eh_word.specs.Words.{number_at}
use Rattle.gnu_lsda.specs.declared.leb128.SignedNumber.{SignedNumber}
use Rattle.gnu_lsda.specs.declared.leb128.SignedNumber.TheVariants.{Plus, Minus}
use Rattle.gnu_lsda.specs.declared.actions.CatchFilter.{CatchFilter}
use Rattle.gnu_lsda.specs.declared.actions.CatchFilter.TheVariants.{All, OfType}
use Rattle.gnu_lsda.specs.declared.actions.Action.{Action}
use Rattle.gnu_lsda.specs.declared.actions.Action.TheVariants.{Cleanup, Catch, NoTypes, Specification}
use Rattle.gnu_lsda.specs.declared.actions.ActionFault.{ActionFault}
use Rattle.gnu_lsda.specs.declared.actions.ActionFault.TheVariants.{Short, Chain}
use Rattle.gnu_lsda.specs.declared.actions.NextAction.{NextAction}
use Rattle.gnu_lsda.specs.declared.actions.NextAction.TheVariants as places
use Rattle.gnu_lsda.specs.declared.actions.Step.{Step}
use Rattle.gnu_lsda.specs.declared.actions.Step.TheVariants.{End, One, Fault}
use Rattle.gnu_lsda.specs.declared.actions.TheConstants.{MOST_ACTIONS}
use Rattle.gnu_lsda.specs.Leb128.{sleb128_of}
use Rattle.gnu_lsda.specs.Entries.{address_in}
use Rattle.gnu_lsda.specs.Heads.{Area}
use Rattle.gnu_lsda.specs.Sites.{table_end}

-- ---- types

-- what the type word at an address refers to: everything for a word of 0, else the type at that distance from the word's own address
abbrev pub caught_type_by : ℕ → ℕ → CatchFilter
caught_type_by address word = if word == 0 then All else OfType ((address + word) % 2 ^ 32)

abbrev pub caught_type_in : Area → ℕ → Option ℕ → Option CatchFilter
caught_type_in a place None = None
caught_type_in a place (Some word) = Some (caught_type_by (address_in a.address place) word)

-- the type table's entry for a filter above 0: its word is four times the filter below the table's base
abbrev pub caught_type_at : Area → ℕ → ℕ → Option CatchFilter
caught_type_at a base filter = if nat_lt base (4 * filter) then None else caught_type_in a (base - 4 * filter) (number_at 4 a.bytes (base - 4 * filter))

-- ---- actions; None where a type word lies outside the bytes

abbrev pub catch_of : ℕ → Option CatchFilter → Option Action
catch_of filter None = None
catch_of filter (Some takes) = Some (Catch filter takes)

abbrev pub typed_action : Area → ℕ → Option ℕ → Option Action
typed_action a filter None = Some NoTypes
typed_action a filter (Some base) = catch_of filter (caught_type_at a base filter)

-- what a record says by its filter
abbrev pub action_of : Area → SignedNumber → Option Action
action_of a (Minus n) = Some Specification
action_of a (Plus n) = if n == 0 then Some Cleanup else typed_action a n a.types

-- where the next record is: the displacement counts from the place of the displacement itself
abbrev pub next_of : ℕ → SignedNumber → NextAction
next_of at (Plus n) = if n == 0 then places.Last else places.At (at + n)
next_of at (Minus n) = if nat_lt at n then places.Outside else places.At (at - n)

-- goes on with a number that is there, and the place after it
abbrev pub with_signed : Option (SignedNumber × ℕ) → (SignedNumber → ℕ → Step) → Step
with_signed None further = Fault Short
with_signed (Some found) further = further found.0 found.1

abbrev pub step_of : Option Action → NextAction → Step
step_of None next = Fault Short
step_of (Some action) next = One action next

-- the record at a place
abbrev pub action_at : Area → ℕ → Step
action_at a place =
    with_signed (sleb128_of a.bytes place) (λ filter second. with_signed (sleb128_of a.bytes second) (λ displacement after. step_of (action_of a filter) (next_of second displacement)))

-- the next item of a chain, of which at most so many more records are read
abbrev pub step_at : ℕ → Area → NextAction → Step
step_at most a places.Last = End
step_at most a places.Outside = if most == 0 then Fault Chain else Fault Short
step_at most a (places.At place) = if most == 0 then Fault Chain else action_at a place

abbrev pub with_further_actions : (NextAction → List (Result Action ActionFault)) → Step → List (Result Action ActionFault)
with_further_actions further End = []
with_further_actions further (One action next) = Ok action ∷ further next
with_further_actions further (Fault fault) = Err fault ∷ []

-- the actions of a chain of which so many records are looked at
unfoldable pub actions_in : ℕ → Area → NextAction → List (Result Action ActionFault)
actions_in zero a from = with_further_actions (λ _. []) (step_at 0 a from)
actions_in (suc most) a from = with_further_actions (λ next. actions_in most a next) (step_at (suc most) a from)

-- the first record of a chain, from a call-site record's action: 1 is the first byte after the call-site table
abbrev pub first_of : Area → ℕ → NextAction
first_of a action = if action == 0 then places.Last else places.At (table_end a + (action - 1))

-- the actions of a chain; a fault is the last item, and so is a 65th action
unfoldable pub actions_of : Area → ℕ → List (Result Action ActionFault)
actions_of a action = actions_in MOST_ACTIONS a (first_of a action)
