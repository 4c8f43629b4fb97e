-- What a thread sees that is entered.
use Rattle.std.proofs.Common.{◌≡◌, ℕ, ◌==◌, true, false, List, refl, ap, ◌∙◌, sym}
use Rattle.eh_bus.specs.Memory.{Memory}
use Rattle.eh_cxa.specs.Words.{Pool, word}
use Rattle.thread_memory.specs.Owners.{owners_after, switch_thread}
use Rattle.thread_memory.specs.Seen.{thread_view}
use Rattle.thread_memory.specs.declared.owners.Holding.{Holding}
use Rattle.eh_threads.specs.Elements.{owners_at_switch, memory_at_switch}

-- words of the pool are read whatever is guarded
pub seen_word : (m : Memory) (guards : List ℕ) (thread : ℕ) → ◌≡◌ {A = Pool} (word (thread_view m guards thread)) (word m)
unfolding word
seen_word m guards thread = refl

pub owners_stay : (thread entered : ℕ) (m : Memory) (owners : List Holding) → (thread == entered) ≡ true → owners ≡ owners_at_switch thread entered m owners
owners_stay thread entered m owners e = rw e refl

pub memory_stays : (thread entered : ℕ) (m : Memory) (owners : List Holding) → (thread == entered) ≡ true → m ≡ memory_at_switch thread entered m owners
memory_stays thread entered m owners e = rw e refl

pub owners_enter : (thread entered : ℕ) (m : Memory) (guards : List ℕ) (on : ℕ) (owners after : List Holding) → (thread == entered) ≡ false
    → after ≡ owners_after entered (word m) owners → after ≡ owners_at_switch thread entered (thread_view m guards on) owners
owners_enter thread entered m guards on owners after e h =
    rw e (h ∙ ap (λ (w : Pool). owners_after entered w owners) (sym (seen_word m guards on)))

pub memory_enters : (thread entered : ℕ) (m now : Memory) (guards : List ℕ) (on : ℕ) (owners after : List Holding) → (thread == entered) ≡ false
    → after ≡ owners_after entered (word m) owners → now ≡ switch_thread entered thread after (thread_view m guards on)
    → now ≡ memory_at_switch thread entered (thread_view m guards on) owners
memory_enters thread entered m now guards on owners after e h n =
    rw e (n ∙ ap (λ (os : List Holding). switch_thread entered thread os (thread_view m guards on)) (h ∙ ap (λ (w : Pool). owners_after entered w owners) (sym (seen_word m guards on))))
