-- A memory: segments of bytes, the guarded words, and the running stack. Addresses are in bytes.
use Rattle.std.specs.Prelude.{ℕ, ◌+◌, ◌%◌, ◌^◌, Bool, not, ◌&&◌, ◌||◌, ◌==◌, nat_le, nat_lt, List, [], ◌∷◌, find, filter, Option, Some, None, Result, Ok, Err, if◌then◌else◌}
use Rattle.eh_bus.specs.Segment.{Segment, holds, number_at, with_number_at}
use Rattle.eh_bus.specs.Guards.{insert_sorted}
use Rattle.eh_bus.specs.declared.fault.BusFault.{BusFault}
use Rattle.eh_bus.specs.declared.fault.BusFault.TheVariants.{Unmapped, Unaligned, ReadOnly, SavedSlot, Protected, NotExecutable}
use Rattle.eh_bus.specs.declared.map.TheConstants.{CLOSED_SIZE, OPEN_WORD, POOL_END, POOL_START, SLOT_SIZE}

pub record Memory : Type 0 where
  -- in a fixed order; no two share an address
  pub segments : List Segment
  -- addresses of words of the stack, strictly rising
  pub guards : List ℕ
  -- the running stack: its first address, and the one after its last
  pub home : ℕ × ℕ

-- the pool has 64 slots of 512 bytes; the first 128 bytes of a slot are closed to the guest
abbrev pub is_closed : ℕ → Bool
is_closed a = nat_le POOL_START a && (nat_lt a POOL_END && nat_lt (a % SLOT_SIZE) CLOSED_SIZE)

-- except that the word at byte 84 of a slot, word 2 of its barrier, may be loaded
abbrev pub is_open_word : ℕ → ℕ → Bool
is_open_word n a = nat_le OPEN_WORD (a % SLOT_SIZE) && nat_le (a % SLOT_SIZE + n) (OPEN_WORD + 4)

-- the first guarded word that the n bytes from a on touch
abbrev pub guard_hit : List ℕ → ℕ → ℕ → Option ℕ
guard_hit guards a n = find (λ g. nat_lt a (g + 4) && nat_lt g (a + n)) guards

-- ---- the faults of an access that lies in a segment, in the order of the tests.
-- An aligned access of 1, 2 or 4 bytes lies in one word, so its first byte tells whether it is closed.

abbrev pub load_fault : ℕ → ℕ → Option BusFault
load_fault n a =
    if not (a % n == 0) then Some (Unaligned a) else (if is_closed a && not (is_open_word n a) then Some (Protected a) else None)

abbrev pub slot_fault : Option ℕ → ℕ → Option BusFault
slot_fault (Some g) a = Some (SavedSlot g)
slot_fault None a = if is_closed a then Some (Protected a) else None

abbrev pub store_fault : ℕ → List ℕ → Segment → ℕ → Option BusFault
store_fault n guards s a =
    if not (a % n == 0) then Some (Unaligned a)
    else (if not s.write then Some (ReadOnly a) else slot_fault (guard_hit guards a n) a)

abbrev pub fetch_fault : Segment → ℕ → Option BusFault
fetch_fault s a =
    if not (a % 2 == 0) then Some (Unaligned a) else (if not s.exec then Some (NotExecutable a) else None)

-- ---- the first segment that holds the access decides; where none does, the access is unmapped

abbrev pub fault_in : (Segment → Option BusFault) → ℕ → List Segment → ℕ → Option BusFault
fault_in fault n [] a = Some (Unmapped a)
fault_in fault n (s ∷ more) a = if holds s a n then fault s else fault_in fault n more a

abbrev pub number_in : ℕ → List Segment → ℕ → ℕ
number_in n [] a = 0
number_in n (s ∷ more) a = if holds s a n then number_at n s a else number_in n more a

abbrev pub store_number : ℕ → List Segment → ℕ → ℕ → List Segment
store_number n [] a v = []
store_number n (s ∷ more) a v = if holds s a n then with_number_at n s a v ∷ more else s ∷ store_number n more a v

-- the first of two faults
abbrev pub first_fault : Option BusFault → Option BusFault → Option BusFault
first_fault (Some fault) later = Some fault
first_fault None later = later

-- ---- the accesses

abbrev pub or_fault : Option BusFault → ℕ → Result ℕ BusFault
or_fault (Some fault) value = Err fault
or_fault None value = Ok value

abbrev pub unless_fault : Option BusFault → Memory → Memory → Result (Unit {0}) BusFault × Memory
unless_fault (Some fault) old new = (Err fault, old)
unless_fault None old new = (Ok tt, new)

-- a load of n bytes reads no guard
abbrev pub load_number : ℕ → List Segment → ℕ → Result ℕ BusFault
load_number n segments a = or_fault (fault_in (λ s. load_fault n a) n segments a) (number_in n segments a)

abbrev pub load : ℕ → Memory → ℕ → Result ℕ BusFault
load n m a = load_number n m.segments a

-- a halfword of code
abbrev pub fetches : List Segment → ℕ → Result ℕ BusFault
fetches segments a = or_fault (fault_in (λ s. fetch_fault s a) 2 segments a) (number_in 2 segments a)

abbrev pub fetch : Memory → ℕ → Result ℕ BusFault
fetch m a = fetches m.segments a

-- a store of n bytes
abbrev pub store : ℕ → Memory → ℕ → ℕ → Result (Unit {0}) BusFault × Memory
store n m a v =
    unless_fault (fault_in (λ s. store_fault n m.guards s a) n m.segments a) m (record m { segments = store_number n m.segments a v })

-- ---- words stored upwards: the first fault stops the run before anything is stored

abbrev pub run_fault : List ℕ → List Segment → ℕ → List ℕ → Option BusFault
run_fault guards segments a [] = None
run_fault guards segments a (word ∷ more) =
    first_fault (fault_in (λ s. store_fault 4 guards s a) 4 segments a) (run_fault guards segments ((a + 4) % 2 ^ 32) more)

abbrev pub store_words : List Segment → ℕ → List ℕ → List Segment
store_words segments a [] = segments
store_words segments a (word ∷ more) = store_words (store_number 4 segments a word) ((a + 4) % 2 ^ 32) more

abbrev pub store_run : Memory → ℕ → List ℕ → Result (Unit {0}) BusFault × Memory
store_run m a words = unless_fault (run_fault m.guards m.segments a words) m (record m { segments = store_words m.segments a words })

-- ---- the host's own accesses, which no right and no guard stops

abbrev pub host_load : Memory → ℕ → ℕ
host_load m a = number_in 4 m.segments a

abbrev pub host_store : Memory → ℕ → ℕ → Memory
host_store m a v = record m { segments = store_number 4 m.segments a v }

-- ---- guards

-- with the word at a guarded
abbrev pub with_guard : Memory → ℕ → Memory
with_guard m a = record m { guards = insert_sorted a m.guards }

-- with all of these words guarded, the last one first
abbrev pub guard_all : List ℕ → Memory → Memory
guard_all [] m = m
guard_all (a ∷ more) m = with_guard (guard_all more m) a

-- a guarded word remains if it is at or above the address, or below the running stack
abbrev pub stays_guarded : ℕ × ℕ → ℕ → ℕ → Bool
stays_guarded home a g = nat_le a g || nat_lt g home.0

-- without the guarded words of the running stack that are below a
abbrev pub without_guards_below : Memory → ℕ → Memory
without_guards_below m a = record m { guards = filter (stays_guarded m.home a) m.guards }
