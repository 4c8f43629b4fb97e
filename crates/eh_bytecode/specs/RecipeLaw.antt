-- A recipe does what its instructions do: for any registers and memory it gives the registers that unwinding gives, or the first
-- address that can't be read.
use Rattle.std.specs.Prelude.{◌≡◌, ℕ, ◌*◌, ◌^◌, ◌<◌, ◌==◌, ◌||◌, Bool, true, false, if◌then◌else◌, List, [], ◌∷◌, ◌++◌, length, slice_index, slice_set, Result, Ok, Err, ℤ, pos, ◌+ℤ◌, ◌-ℤ◌}
use Rattle.std.specs.Int.{w32, cast_unsigned}
use Rattle.std.specs.List.{list_any}
use Rattle.eh_word.specs.Words.{plus_offset}
use Rattle.eh_bus.specs.Segment.{Segment}
use Rattle.eh_bus.specs.declared.fault.BusFault.{BusFault}
use Rattle.thumb_core.specs.Words.{Load, load_words}
use Rattle.eh_codes.specs.Cut.{Item, Is, Bad}
use Rattle.eh_codes.specs.Meaning.{Effect, Rises, Falls, Pops, Takes, Refuses, Finishes, effect}
use Rattle.eh_bytecode.specs.declared.frame.UnwindEnd.{UnwindEnd}
use Rattle.eh_bytecode.specs.declared.frame.UnwindEnd.TheVariants.{Unreadable}
use Rattle.eh_bytecode.specs.declared.recipe.Recipe.{Recipe}
use Rattle.eh_bytecode.specs.Meaning.{address_of, unwind_result}
use Rattle.eh_bytecode.specs.Recipe.{recipe}

-- ---- the words that codes load, each with its register and its offset from the stack pointer, and after a `1001nnnn` from that
-- register's value. An offset below 0 stands for itself modulo 2 ^ 32.

pub record Loads : Type 0 where
  pub from_sp : List Load
  pub from_base : List Load

abbrev pub no_loads : Loads
no_loads = record { from_sp = []; from_base = [] }

-- registers from words that stand one after the other
abbrev pub loads_at : ℤ → List ℕ → List Load
loads_at offset [] = []
loads_at offset (k ∷ more) = record { reg = k; at = cast_unsigned w32 offset } ∷ loads_at (offset +ℤ pos 4) more

abbrev pub in_front : Bool → List Load → Loads → Loads
in_front true first loads = record loads { from_base = first ++ loads.from_base }
in_front false first loads = record loads { from_sp = first ++ loads.from_sp }

-- the loads of an effect, before those of the instructions after it
abbrev pub loads_more : (Bool → ℤ → Loads) → Bool → ℤ → Effect → Loads
loads_more further based offset (Rises by) = further based (offset +ℤ pos by)
loads_more further based offset (Falls by) = further based (offset -ℤ pos by)
loads_more further based offset (Pops registers) = in_front based (loads_at offset registers) (further based (offset +ℤ pos (4 * length registers)))
loads_more further based offset (Takes register) = further true (pos 0)
loads_more further based offset Refuses = no_loads
loads_more further based offset Finishes = no_loads

abbrev pub loads_on : Bool → ℤ → List Item → Loads
loads_on based offset [] = no_loads
loads_on based offset (Bad place ∷ _) = no_loads
loads_on based offset (Is code ∷ more) = loads_more (λ based offset. loads_on based offset more) based offset (effect code)

-- the words that codes load, in their order
unfoldable pub loads_of : List Item → Loads
loads_of items = loads_on false (pos 0) items

-- ---- a recipe run

-- a register is among those that are loaded
abbrev pub is_loaded : ℕ → List Load → Bool
is_loaded register loads = list_any (λ (l : Load). l.reg == register) loads

-- pc becomes the link register unless it was loaded, and the stack pointer becomes the base's old value plus the recipe's offset
abbrev pub finish_recipe : Recipe → Bool → List ℕ → List ℕ → List ℕ
finish_recipe recipe pc old r = slice_set (if pc then r else slice_set r 15 (slice_index r 14)) 13 (plus_offset (slice_index old recipe.base) recipe.vsp)

abbrev pub or_unreadable : Result (List ℕ) BusFault → (List ℕ → Result (List ℕ) UnwindEnd) → Result (List ℕ) UnwindEnd
or_unreadable (Ok r) further = further r
or_unreadable (Err fault) further = Err (Unreadable (address_of fault))

-- loads the words in order, those from the stack pointer first, and then sets the last two registers
abbrev pub run_recipe : List Segment → List ℕ → Recipe → Loads → Result (List ℕ) UnwindEnd
run_recipe segments r recipe loads =
    or_unreadable (load_words segments (slice_index r 13) loads.from_sp r) (λ s.
    or_unreadable (load_words segments (slice_index r recipe.base) loads.from_base s) (λ t.
    Ok (finish_recipe recipe (is_loaded 15 loads.from_sp || is_loaded 15 loads.from_base) r t)))

-- registers of 32 bits
abbrev pub Small : List ℕ → Type 0
Small r = (k : ℕ) → slice_index r k < 2 ^ 32

-- if instructions have a recipe, running it is unwinding by them
abbrev pub RecipesRun : Type 0
RecipesRun =
    (segments : List Segment) (r : List ℕ) (items : List Item) (of : Recipe)
    → length r ≡ 16 → Small r → recipe items ≡ Ok of
    → unwind_result segments r items ≡ run_recipe segments r of (loads_of items)
