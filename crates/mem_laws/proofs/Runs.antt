-- Words stored upwards: the first that can't be stored alone decides.
use Rattle.std.proofs.Common.{◌≡◌, ℕ, zero, suc, ◌+◌, ◌%◌, ◌^◌, ◌<◌, List, [], ◌∷◌, length, Option, Some, None, Ok, Err, refl, sym, subst, arith}
use Rattle.eh_bus.specs.Segment.{Segment}
use Rattle.eh_bus.specs.Memory.{Memory, fault_in, store_fault, run_fault, unless_fault, store_number, store}
use Rattle.eh_bus.specs.declared.fault.BusFault.{BusFault}
use Rattle.eh_bus.proofs.AccessLaws.{store_refused, run_refused}
use Rattle.mem_laws.specs.Runs.{word_address, RunsStopAtTheirFirst, RunsAreDone, RefusalsChangeNothing}

-- the fault of one word
abbrev pub word_fault : List ℕ → List Segment → ℕ → Option BusFault
word_fault guards ss a = fault_in (λ s. store_fault 4 guards s a) 4 ss a

free : (o : Option BusFault) (m n : Memory) → (unless_fault o m n).0 ≡ Ok tt → o ≡ None
free None m n e = refl
free (Some why) m n e = absurd (cc)

held : (o : Option BusFault) (m n : Memory) (why : BusFault) → (unless_fault o m n).0 ≡ Err why → o ≡ Some why
held None m n why e = absurd (cc)
held (Some other) m n why e = cc

pub no_fault : (m : Memory) (a v : ℕ) → (store 4 m a v).0 ≡ Ok tt → word_fault m.guards m.segments a ≡ None
no_fault m a v e = free (word_fault m.guards m.segments a) m (record m { segments = store_number 4 m.segments a v }) e

pub its_fault : (m : Memory) (a v : ℕ) (why : BusFault) → (store 4 m a v).0 ≡ Err why → word_fault m.guards m.segments a ≡ Some why
its_fault m a v why e = held (word_fault m.guards m.segments a) m (record m { segments = store_number 4 m.segments a v }) why e

-- the first word of some stands at a, and those after it a word further
at_first : (a : ℕ) → a < 2 ^ 32 → word_address a 0 ≡ a
at_first a l = omega arith

further : (a k : ℕ) → word_address ((a + 4) % 2 ^ 32) k ≡ word_address a (suc k)
further a k = omega arith

within : (a : ℕ) → (a + 4) % 2 ^ 32 < 2 ^ 32
within a = omega arith

pub run_faults : (gs : List ℕ) (ss : List Segment) (words : List ℕ) (a k : ℕ) (why : BusFault) → a < 2 ^ 32 → k < length words
    → ((j : ℕ) → j < k → word_fault gs ss (word_address a j) ≡ None) → word_fault gs ss (word_address a k) ≡ Some why → run_fault gs ss a words ≡ Some why
run_faults gs ss [] a k why l h before here = absurd (omega arith)
run_faults gs ss (w ∷ more) a zero why l h before here =
    let first : word_fault gs ss a ≡ Some why = subst (λ (x : ℕ). word_fault gs ss x ≡ Some why) (at_first a l) here in
    rw first
run_faults gs ss (w ∷ more) a (suc k) why l h before here =
    let first : word_fault gs ss a ≡ None = subst (λ (x : ℕ). word_fault gs ss x ≡ None) (at_first a l) (before 0 (omega arith)) in
    let rest = run_faults gs ss more ((a + 4) % 2 ^ 32) k why (within a) (omega arith)
    (λ j b. subst (λ (x : ℕ). word_fault gs ss x ≡ None) (sym (further a j)) (before (suc j) (omega arith)))
    (subst (λ (x : ℕ). word_fault gs ss x ≡ Some why) (sym (further a k)) here) in
    rw (first, rest)

no_run_fault : (gs : List ℕ) (ss : List Segment) (words : List ℕ) (a : ℕ) → a < 2 ^ 32
    → ((j : ℕ) → j < length words → word_fault gs ss (word_address a j) ≡ None) → run_fault gs ss a words ≡ None
no_run_fault gs ss [] a l all = refl
no_run_fault gs ss (w ∷ more) a l all =
    let first : word_fault gs ss a ≡ None = subst (λ (x : ℕ). word_fault gs ss x ≡ None) (at_first a l) (all 0 (omega arith)) in
    let rest = no_run_fault gs ss more ((a + 4) % 2 ^ 32) (within a) (λ j b. subst (λ (x : ℕ). word_fault gs ss x ≡ None) (sym (further a j)) (all (suc j) (omega arith))) in
    rw (first, rest)

pub stop_at_first : RunsStopAtTheirFirst
stop_at_first m a words k why l h before here =
    let fault = run_faults m.guards m.segments words a k why l h (λ j b. no_fault m (word_address a j) _ (before j b)) (its_fault m (word_address a k) _ why here) in
    rw fault

pub are_done : RunsAreDone
are_done m a words l all =
    let none = no_run_fault m.guards m.segments words a l (λ j b. no_fault m (word_address a j) _ (all j b)) in
    rw none

pub change_nothing : RefusalsChangeNothing
change_nothing = record { store = λ m new n a v why e. store_refused n m a v why new e; run = λ m new a words why e. run_refused m a words why new e }
