-- Slots that are free stay so: no store of a thread reaches a state word, and one of the host is told.
use Rattle.std.proofs.Common.{◌≡◌, ℕ, zero, suc, ◌+◌, ◌-◌, ◌*◌, ◌/◌, ◌%◌, ◌<◌, ◌≤◌, ◌⊎◌, inl, inr, List, [], ◌∷◌, length, take, Option, Some, None, Result, Ok, sym, ap, ◌∙◌, arith}
use Rattle.eh_bus.specs.Memory.{Memory, fault_in, run_fault, store_words, store_number, store_fault, store, store_run, unless_fault, host_load, host_store}
use Rattle.eh_bus.specs.Place.{IsWidth}
use Rattle.eh_bus.specs.Segment.{Segment}
use Rattle.eh_bus.specs.declared.fault.BusFault.{BusFault}
use Rattle.eh_bus.specs.declared.map.TheConstants.{POOL_START, SLOT_SIZE}
use Rattle.eh_bus.proofs.PartLaws.{IsClosedWord, store_leaves_closed, run_leaves_closed, host_other}
use Rattle.eh_cxa.specs.Words.{word, set_slot_words}
use Rattle.eh_cxa.specs.declared.layout.TheConstants.{SLOTS, STATE}
use Rattle.thread_memory.specs.Owners.{changes_from, AreFree}
use Rattle.thread_memory.specs.declared.owners.Holding.{Holding}
use Rattle.thread_memory.proofs.Noting.{written_before}

-- ---- stores of a thread

abbrev Stored : Type 0
Stored = Result (Unit {0}) BusFault × Memory

abbrev done_to : Memory → Stored
done_to m = (Ok tt, m)

-- what is refused changes nothing
refused_or_done : (f : Option BusFault) (m new : Memory) (r : Result (Unit {0}) BusFault) (m' : Memory) → ◌≡◌ {A = Stored} (r, m') (unless_fault f m new)
    → (m' ≡ m) ⊎ (◌≡◌ {A = Stored} (unless_fault f m new) (done_to m'))
refused_or_done None m new r m' e = let same : m' ≡ new = ap (λ (p : Stored). p.1) e in inr (ap done_to (sym same))
refused_or_done (Some fault) m new r m' e = inl (ap (λ (p : Stored). p.1) e)

plain_after : (f : Option BusFault) (m : Memory) (ss : List Segment) (r : Result (Unit {0}) BusFault) (m' : Memory) → ◌≡◌ {A = Stored} (r, m') (unless_fault f m (record m { segments = ss }))
    → m.guards ≡ [] → m'.guards ≡ []
plain_after None m ss r m' e plain = ap (λ (p : Stored). p.1.guards) e ∙ plain
plain_after (Some fault) m ss r m' e plain = ap (λ (p : Stored). p.1.guards) e ∙ plain

pub plain_after_store : (n : ℕ) (m : Memory) (a v : ℕ) (r : Result (Unit {0}) BusFault) (m' : Memory) → ◌≡◌ {A = Stored} (r, m') (store n m a v) → m.guards ≡ [] → m'.guards ≡ []
plain_after_store n m a v r m' e plain = plain_after (fault_in (λ s. store_fault n m.guards s a) n m.segments a) m (store_number n m.segments a v) r m' e plain

pub plain_after_run : (m : Memory) (a : ℕ) (ws : List ℕ) (r : Result (Unit {0}) BusFault) (m' : Memory) → ◌≡◌ {A = Stored} (r, m') (store_run m a ws) → m.guards ≡ [] → m'.guards ≡ []
plain_after_run m a ws r m' e plain = plain_after (run_fault m.guards m.segments a ws) m (store_words m.segments a ws) r m' e plain

state_word : (s : ℕ) → s < SLOTS → IsClosedWord (POOL_START + SLOT_SIZE * s + 4 * STATE)
state_word s h = record { low = omega arith; high = omega arith; closed = omega arith; aligned = omega arith }

kept_free : (m m' : Memory) (used : ℕ) → ((b : ℕ) → IsClosedWord b → host_load m' b ≡ host_load m b) → AreFree (word m) used → AreFree (word m') used
unfolding word
kept_free m m' used keeps free s l h = keeps (POOL_START + SLOT_SIZE * s + 4 * STATE) (state_word s h) ∙ free s l h

pub free_after_store : (n : ℕ) (m : Memory) (a v : ℕ) (r : Result (Unit {0}) BusFault) (m' : Memory) (used : ℕ) → IsWidth n → ◌≡◌ {A = Stored} (r, m') (store n m a v)
    → AreFree (word m) used → AreFree (word m') used
free_after_store n m a v r m' used w e free =
    elim (refused_or_done (fault_in (λ s. store_fault n m.guards s a) n m.segments a) m (record m { segments = store_number n m.segments a v }) r m' e) [
      | inl same ↦ rw same free
      | inr done ↦ kept_free m m' used (λ b c. store_leaves_closed n m a v m' b w done c) free
    ]

pub free_after_run : (m : Memory) (a : ℕ) (ws : List ℕ) (r : Result (Unit {0}) BusFault) (m' : Memory) (used : ℕ) → ◌≡◌ {A = Stored} (r, m') (store_run m a ws)
    → AreFree (word m) used → AreFree (word m') used
free_after_run m a ws r m' used e free =
    elim (refused_or_done (run_fault m.guards m.segments a ws) m (record m { segments = store_words m.segments a ws }) r m' e) [
      | inl same ↦ rw same free
      | inr done ↦ kept_free m m' used (λ b c. run_leaves_closed m a ws m' b done c) free
    ]

-- ---- stores of the host

pub free_after_host : (m : Memory) (a v : ℕ) (m' : Memory) (used now : ℕ) → m' ≡ host_store m a v → a % 4 ≡ 0 → POOL_START ≤ a → used ≤ now → (a - POOL_START) / SLOT_SIZE + 1 ≤ now
    → AreFree (word m) used → AreFree (word m') now
unfolding word
free_after_host m a v m' used now e al low more past free s l h =
    rw e (host_other m a v (POOL_START + SLOT_SIZE * s + 4 * STATE) (inl (omega arith)) ∙ free s (omega arith) h)

take_few : {A : Type 0} (k : ℕ) (xs : List A) → length (take k xs) ≤ k
take_few zero xs = omega arith
take_few (suc k) [] = omega arith
take_few (suc k) (x ∷ xs) = omega (arith, take_few k xs)

pub free_after_changes : (old new used : ℕ) (owners : List Holding) (m m' : Memory) → m' ≡ set_slot_words (changes_from old new 0 (take used owners)) m → AreFree (word m) used → AreFree (word m') used
free_after_changes old new used owners m m' e free s l h =
    rw e (written_before old new 0 s (take used owners) m (omega (arith, take_few used owners)) ∙ free s l h)
