-- The words of the pool: 64 slots of 128 words, of which the header and the control block count.
use Rattle.std.specs.Prelude.{ℕ, ◌+◌, ◌-◌, ◌*◌, ◌/◌, ◌%◌, ◌^◌, ◌==◌, ◌&&◌, nat_le, nat_lt, List, [], ◌∷◌, Option, Some, None, if◌then◌else◌}
use Rattle.eh_bus.specs.Memory.{Memory, host_load, host_store}
use Rattle.eh_cxa.specs.declared.globals.Globals.{Globals}
use Rattle.eh_cxa.specs.declared.layout.TheConstants.{BLOCK, OBJECT}
use Rattle.eh_bus.specs.declared.map.TheConstants.{POOL_START, POOL_END, SLOT_SIZE}

-- the control block and the object of a slot
abbrev pub block : ℕ → ℕ
block s = POOL_START + SLOT_SIZE * s + BLOCK

abbrev pub object : ℕ → ℕ
object s = POOL_START + SLOT_SIZE * s + OBJECT

-- the slot for which this address is so many bytes from its start; None if there is none
abbrev pub slot_from : ℕ → ℕ → Option ℕ
slot_from offset a =
    if nat_le (POOL_START + offset) a && (nat_lt a POOL_END && ((a - (POOL_START + offset)) % SLOT_SIZE == 0)) then Some ((a - (POOL_START + offset)) / SLOT_SIZE) else None

-- the slot whose control block is at this address, and the one whose object is
unfoldable pub block_slot : ℕ → Option ℕ
block_slot a = slot_from BLOCK a

unfoldable pub object_slot : ℕ → Option ℕ
object_slot a = slot_from OBJECT a

unfoldable pub word : Memory → ℕ → ℕ → ℕ
word m s k = host_load m (POOL_START + SLOT_SIZE * s + 4 * k)

unfoldable pub set_slot_word : Memory → ℕ → ℕ → ℕ → Memory
set_slot_word m s k v = host_store m (POOL_START + SLOT_SIZE * s + 4 * k) v

-- ---- words as a function of slot and place

abbrev pub Pool : Type 0
Pool = ℕ → ℕ → ℕ

pub record Write : Type 0 where
  pub slot : ℕ
  pub place : ℕ
  pub value : ℕ

abbrev pub write : ℕ → ℕ → ℕ → Write
write s k v = record { slot = s; place = k; value = v }

abbrev pub with_word : Pool → Write → Pool
with_word w x t j = if (j == x.place) && (t == x.slot) then x.value else w t j

-- writes are applied from the first to the last
abbrev pub with_all : List Write → Pool → Pool
with_all [] w = w
with_all (x ∷ more) w = with_all more (with_word w x)

abbrev pub set_slot_words : List Write → Memory → Memory
set_slot_words [] m = m
set_slot_words (x ∷ more) m = set_slot_words more (set_slot_word m x.slot x.place x.value)

-- ---- what a call does on words: its result, and the words that it writes, in order

pub record Wrote (A : Type 0) : Type 0 where
  pub answer : A
  pub writes : List Write

abbrev pub wrote : {A : Type 0} → Wrote A → Memory → A × Memory
wrote d m = (d.answer, set_slot_words d.writes m)

-- the same, with the globals that it leaves
pub record Done (A : Type 0) : Type 0 where
  pub answer : A
  pub globals : Globals
  pub writes : List Write

abbrev pub call_result : {A : Type 0} → Done A → Memory → A × Globals × Memory
call_result d m = (d.answer, d.globals, set_slot_words d.writes m)

-- a link that isn't the address of a control block counts as 0
abbrev pub word_if_block : ℕ → Option ℕ → ℕ
word_if_block w (Some s) = w
word_if_block w None = 0

abbrev pub chain_word : ℕ → ℕ
chain_word w = word_if_block w (block_slot w)

-- ---- the number uncaught, modulo 2^32

abbrev pub one_more : ℕ → ℕ
one_more n = (n + 1) % 2 ^ 32

abbrev pub one_less : ℕ → ℕ
one_less n = (n + (2 ^ 32 - 1)) % 2 ^ 32
