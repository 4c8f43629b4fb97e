-- How many records and actions there are.
use Rattle.std.proofs.Common.{◌≡◌, ℕ, zero, suc, ◌+◌, ◌-◌, ◌*◌, ◌≤◌, ◌<◌, Bool, true, false, cond, List, [], length, take, length-take, Option, Some, None, refl, arith, subst}
use Rattle.std.specs.Prelude.{Result, nat_le}
use Rattle.gnu_lsda.specs.declared.records.NextRecord.{NextRecord}
use Rattle.gnu_lsda.specs.declared.records.NextRecord.TheVariants.{End, One, Fault}
use Rattle.gnu_lsda.specs.declared.actions.Action.{Action}
use Rattle.gnu_lsda.specs.declared.actions.ActionFault.{ActionFault}
use Rattle.gnu_lsda.specs.declared.actions.NextAction.{NextAction}
use Rattle.gnu_lsda.specs.declared.actions.Step.{Step}
use Rattle.gnu_lsda.specs.declared.actions.Step.TheVariants as steps
use Rattle.gnu_lsda.specs.declared.actions.TheConstants.{MOST_ACTIONS}
use Rattle.gnu_lsda.specs.Leb128.{uleb128_at}
use Rattle.gnu_lsda.specs.Heads.{Area}
use Rattle.gnu_lsda.specs.Sites.{with_number, record_at, next_record_at, with_further_records, records_in, records_from, table_end}
use Rattle.gnu_lsda.specs.Chains as chains
use Rattle.gnu_lsda.specs.Chains.{step_at, actions_in, first_of, actions_of}
use Rattle.gnu_lsda.specs.Laws.{RecordsTakeFourBytes, RecordsAreFew, ChainsAreShort}
use Rattle.gnu_lsda.proofs.NumberEnds.{uleb128_inside}

-- ---- records

-- what stands after a record is at least four bytes further on, and among the bytes
abbrev IsInside : List ℕ → ℕ → NextRecord → Type 0
IsInside table place End = Unit {0}
IsInside table place (Fault fault) = Unit {0}
IsInside table place (One site next) = (place + 4 ≤ next) × (next ≤ length table)

with_inside : (table : List ℕ) (place at : ℕ) (o : Option (ℕ × ℕ)) (f : ℕ → ℕ → NextRecord) → uleb128_at table at ≡ o
    → ((n next : ℕ) → at < next → next ≤ length table → IsInside table place (f n next)) → IsInside table place (with_number o f)
with_inside table place at None f e each = tt
with_inside table place at (Some found) f e each = let h = uleb128_inside table at found e in each found.0 found.1 h.0 h.1

record_inside : (table : List ℕ) (place : ℕ) → IsInside table place (record_at table place)
record_inside table place =
    with_inside table place place (uleb128_at table place) _ refl (λ a second h h2. with_inside table place second (uleb128_at table second) _ refl (λ b third i i2.
    with_inside table place third (uleb128_at table third) _ refl (λ c fourth j j2. with_inside table place fourth (uleb128_at table fourth) _ refl (λ d next k k2.
    (omega arith, k2)))))

pub law_of_records : RecordsTakeFourBytes
law_of_records table place site next e = subst (IsInside table place) e (record_inside table place)

either : (table : List ℕ) (place : ℕ) (b : Bool) (x y : NextRecord) → IsInside table place x → IsInside table place y → IsInside table place (cond b x y)
either table place true x y h k = h
either table place false x y h k = k

found_inside : (table : List ℕ) (end place : ℕ) → IsInside table place (next_record_at table end place)
found_inside table end place = either table place (nat_le end place) End (record_at table place) tt (record_inside table place)

few_in : (most : ℕ) (table : List ℕ) (end place : ℕ) → length table ≤ end → 4 * length (records_in most table end place) ≤ (end - place) + 4
few_in zero table end place h = omega arith
few_in (suc most) table end place h = go (next_record_at table end place) (found_inside table end place) (λ next. few_in most table end next h)
  where
    go : (f : NextRecord) → IsInside table place f → ((next : ℕ) → 4 * length (records_in most table end next) ≤ (end - next) + 4)
        → 4 * length (with_further_records (λ next. records_in most table end next) f) ≤ (end - place) + 4
    go End inside each = omega arith
    go (Fault fault) inside each = omega arith
    go (One site next) inside each = let rest = each next in omega (arith, rest, inside.0, inside.1)

few_from : (table : List ℕ) (end place : ℕ) → length table ≤ end → 4 * length (records_from table end place) ≤ (end - place) + 4
unfolding records_from
few_from table end place h = few_in (end - place) table end place h

pub law_of_few : RecordsAreFew
law_of_few a =
    let size : length (take (table_end a) a.bytes) ≤ table_end a = grind (arith, length-take {A = ℕ}) in
    let few = few_from (take (table_end a) a.bytes) (table_end a) a.records size in
    omega (arith, few)

-- ---- chains

short_listed : (most : ℕ) (further : NextAction → List (Result Action ActionFault)) (step : Step) → ((next : NextAction) → length (further next) ≤ most)
    → length (chains.with_further_actions further step) ≤ most + 1
short_listed most further steps.End each = omega arith
short_listed most further (steps.Fault fault) each = omega arith
short_listed most further (steps.One action next) each = omega (arith, each next)

short_in : (most : ℕ) (a : Area) (from : NextAction) → length (actions_in most a from) ≤ most + 1
unfolding actions_in
short_in zero a from = short_listed 0 (λ _. []) (step_at 0 a from) (λ next. omega arith)
short_in (suc most) a from =
    let rest = short_listed (most + 1) (λ next. actions_in most a next) (step_at (suc most) a from) (λ next. short_in most a next) in omega (arith, rest)

pub law_of_chains : ChainsAreShort
unfolding actions_of
law_of_chains a action = short_in MOST_ACTIONS a (first_of a action)
