-- One call-site record more.
use Rattle.std.proofs.Common.{◌≡◌, ℕ, zero, suc, ◌-◌, ◌≤◌, ◌<◌, Bool, true, false, cond, List, [], ◌∷◌, Option, Some, None, refl, arith, ◌∙◌, ap, sym, subst}
use Rattle.std.specs.Prelude.{Result, Ok, Err, nat_le}
use Rattle.std.proofs.lemmas.Bool.Decides.{nat_tests}
use Rattle.gnu_lsda.specs.declared.records.Record.{Record}
use Rattle.gnu_lsda.specs.declared.records.RecordFault.{RecordFault}
use Rattle.gnu_lsda.specs.declared.records.NextRecord.{NextRecord}
use Rattle.gnu_lsda.specs.declared.records.NextRecord.TheVariants.{End, One, Fault}
use Rattle.gnu_lsda.specs.Leb128.{uleb128_at}
use Rattle.gnu_lsda.specs.Sites.{with_number, record_at, next_record_at, with_further_records, records_in, records_from}
use Rattle.gnu_lsda.proofs.NumberEnds.{uleb128_inside}

-- what stands after a record is further on
abbrev pub IsNext : ℕ → NextRecord → Type 0
IsNext place End = Unit {0}
IsNext place (Fault fault) = Unit {0}
IsNext place (One site next) = place < next

with_next : (table : List ℕ) (place at : ℕ) (o : Option (ℕ × ℕ)) (f : ℕ → ℕ → NextRecord) → uleb128_at table at ≡ o
    → ((n next : ℕ) → at < next → IsNext place (f n next)) → IsNext place (with_number o f)
with_next table place at None f e each = tt
with_next table place at (Some found) f e each = each found.0 found.1 (uleb128_inside table at found e).0

record_next : (table : List ℕ) (place : ℕ) → IsNext place (record_at table place)
record_next table place =
    with_next table place place (uleb128_at table place) _ refl (λ a second h. with_next table place second (uleb128_at table second) _ refl (λ b third i.
    with_next table place third (uleb128_at table third) _ refl (λ c fourth j. with_next table place fourth (uleb128_at table fourth) _ refl (λ d next k. omega arith))))

either : (place : ℕ) (b : Bool) (x y : NextRecord) → IsNext place x → IsNext place y → IsNext place (cond b x y)
either place true x y h k = h
either place false x y h k = k

found_next : (table : List ℕ) (end place : ℕ) → IsNext place (next_record_at table end place)
found_next table end place = either place (nat_le end place) End (record_at table place) tt (record_next table place)

pub one_next : (table : List ℕ) (end place : ℕ) (f : NextRecord) → next_record_at table end place ≡ f → IsNext place f
one_next table end place f e = subst (IsNext place) e (found_next table end place)

-- at the end there is no more record
past : (table : List ℕ) (end place : ℕ) → end ≤ place → next_record_at table end place ≡ End
past table end place h = let e : nat_le end place ≡ true = grind (arith, nat_tests) in ap (λ (b : Bool). cond b End (record_at table place)) e

-- more room than there are bytes gives no more records
same_records : (n m : ℕ) (table : List ℕ) (end place : ℕ) → end - place ≤ n → end - place ≤ m → records_in n table end place ≡ records_in m table end place
same_records zero zero table end place h k = refl
same_records zero (suc m) table end place h k = sym (ap (with_further_records (λ next. records_in m table end next)) (past table end place (omega arith)))
same_records (suc n) zero table end place h k = ap (with_further_records (λ next. records_in n table end next)) (past table end place (omega arith))
same_records (suc n) (suc m) table end place h k = go (next_record_at table end place) refl (λ next a b. same_records n m table end next a b)
  where
    go : (f : NextRecord) → next_record_at table end place ≡ f
        → ((next : ℕ) → end - next ≤ n → end - next ≤ m → records_in n table end next ≡ records_in m table end next) →
        with_further_records (λ next. records_in n table end next) f ≡ with_further_records (λ next. records_in m table end next) f
    go End e same = refl
    go (Fault fault) e same = refl
    go (One site next) e same =
        let further : place < next = one_next table end place (One site next) e in
        ap (λ l. Ok site ∷ l) (same next (omega arith) (omega arith))

records_more : (table : List ℕ) (end place : ℕ) → records_from table end place ≡ with_further_records (λ next. records_in (end - place) table end next) (next_record_at table end place)
unfolding records_from
records_more table end place = same_records (end - place) (suc (end - place)) table end place (omega arith) (omega arith)

pub over : (table : List ℕ) (end place : ℕ) → End ≡ next_record_at table end place → records_from table end place ≡ []
over table end place e = records_more table end place ∙ ap (with_further_records (λ next. records_in (end - place) table end next)) (sym e)

pub fault : (table : List ℕ) (end place : ℕ) (why : RecordFault) → Fault why ≡ next_record_at table end place → records_from table end place ≡ Err why ∷ []
fault table end place why e = records_more table end place ∙ ap (with_further_records (λ next. records_in (end - place) table end next)) (sym e)

pub one : (table : List ℕ) (end place : ℕ) (site : Record) (next : ℕ) → One site next ≡ next_record_at table end place
    → records_from table end place ≡ Ok site ∷ records_from table end next
unfolding records_from
one table end place site next e =
    let further : place < next = one_next table end place (One site next) (sym e) in
    records_more table end place ∙ ap (with_further_records (λ next. records_in (end - place) table end next)) (sym e)
    ∙ ap (λ l. Ok site ∷ l) (same_records (end - place) (end - next) table end next (omega arith) (omega arith))

-- ---- what is left, as the iterator keeps it

pub left_one : (gone : Bool) (table : List ℕ) (end place : ℕ) (all : List (Result Record RecordFault)) (site : Record) (next : ℕ) → gone ≡ false
    → cond gone [] (records_from table end place) ≡ all → One site next ≡ next_record_at table end place → all ≡ Ok site ∷ cond gone [] (records_from table end next)
left_one true table end place all site next e is here = cc
left_one false table end place all site next e is here = sym is ∙ one table end place site next here

pub left_fault : (gone : Bool) (table : List ℕ) (end place : ℕ) (all : List (Result Record RecordFault)) (why : RecordFault) → gone ≡ false
    → cond gone [] (records_from table end place) ≡ all → Fault why ≡ next_record_at table end place → all ≡ Err why ∷ []
left_fault true table end place all why e is here = cc
left_fault false table end place all why e is here = sym is ∙ fault table end place why here
