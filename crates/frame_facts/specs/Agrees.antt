-- Whether an unwind recipe, run on a fact, gives the caller's registers.
use Rattle.std.specs.Prelude.{ℕ, ◌==◌, ◌&&◌, ◌||◌, not, Bool, true, false, nat_lt, nat_le, if◌then◌else◌, find, Option, Some, None, is_none, Result, Ok, Err, slice_index_or, ℤ, pos, ◌-ℤ◌, int_le}
use Rattle.std.specs.Option.{option_map_or}
use Rattle.std.specs.Ordering.{int_eq}
use Rattle.thumb_core.specs.Words.{numbers}
use Rattle.eh_bytecode.specs.declared.recipe.Src.{Src}
use Rattle.eh_bytecode.specs.declared.recipe.Src.TheVariants.{Same, FromSp, FromBase}
use Rattle.eh_bytecode.specs.declared.recipe.Recipe.{Recipe}
use Rattle.frame_facts.specs.declared.cause.FrameCause.{FrameCause}
use Rattle.frame_facts.specs.declared.cause.FrameCause.TheVariants.{CallState, FramePointerLost}
use Rattle.frame_facts.specs.declared.facts.Source.{Source}
use Rattle.frame_facts.specs.declared.facts.Source.TheVariants.{Entry, SpAt, Other}
use Rattle.frame_facts.specs.declared.facts.Fact.{Fact}
use Rattle.frame_facts.specs.declared.saves.Prologue.{Prologue}
use Rattle.frame_facts.specs.Facts.{source, is_entry, forget_registers}
use Rattle.frame_facts.specs.Saves.{word}
use Rattle.frame_facts.specs.Branches.{call_changes}

-- the fact at a site; for a call, r0 to r3, r12 and lr are the callee's
abbrev pub at_site : Bool → Fact → Fact
at_site is_call f = if is_call then forget_registers call_changes f else f

abbrev pub stack_place : Source → Option ℕ
stack_place (SpAt offset) = Some offset
stack_place (Entry k) = None
stack_place Other = None

-- how many bytes below the CFA the address in sp or in the recipe's base register is known to lie
abbrev pub base_at : Fact → ℕ → Option ℕ
base_at f base = if base == 13 then (if f.below then None else Some f.depth) else stack_place (source f base)

-- the recipe's base register isn't known to have an address of the frame
abbrev pub is_lost : Recipe → Fact → Bool
is_lost r f = not (r.base == 13) && is_none (base_at f r.base)

-- the word at an offset from a base
abbrev pub word_from : Prologue → Fact → Option ℕ → ℤ → Source
word_from p f None offset = Other
word_from p f (Some at) offset = word p f.kept at offset

-- the value that a recipe gives a register; for pc, "the same" means lr
abbrev pub recipe_source : Prologue → Recipe → Fact → ℕ → Src → Source
recipe_source p r f reg Same = source f (if reg == 15 then 14 else reg)
recipe_source p r f reg (FromSp offset) = word_from p f (base_at f 13) offset
recipe_source p r f reg (FromBase offset) = word_from p f (base_at f r.base) offset

-- all of the word at an offset from a base lies between sp and the CFA
abbrev pub lies_whole : Fact → Option ℕ → ℤ → Bool
lies_whole f None offset = false
lies_whole f (Some at) offset = int_le (pos 4) (pos at -ℤ offset) && int_le (pos at -ℤ offset) (pos f.depth)

-- a word that a recipe names does
abbrev pub in_frame : Recipe → Fact → Src → Bool
in_frame r f Same = true
in_frame r f (FromSp offset) = lies_whole f (base_at f 13) offset
in_frame r f (FromBase offset) = lies_whole f (base_at f r.base) offset

-- the new stack pointer is the CFA
abbrev pub gives_cfa : Recipe → Fact → Bool
gives_cfa r f = option_map_or (λ at. int_eq (pos at) r.vsp) (base_at f r.base) false

-- the recipe gives a register what the caller needs: r4 to r11 their own values, sp the CFA, pc the entry's lr, and the others any word
-- of the frame
abbrev pub gives_caller_value : Prologue → Recipe → Fact → ℕ → Bool
gives_caller_value p r f reg =
    if reg == 13 then gives_cfa r f
    else (if reg == 15 then is_entry 14 (recipe_source p r f reg (slice_index_or r.src reg Same))
    else (if nat_le 4 reg && nat_lt reg 12 then is_entry reg (recipe_source p r f reg (slice_index_or r.src reg Same))
    else in_frame r f (slice_index_or r.src reg Same)))

-- a call with no word on the stack counts as lr
abbrev pub has_no_room : Bool → Fact → ℕ → Bool
has_no_room is_call f reg = is_call && (reg == 14) && nat_lt f.depth 4

-- a register is wrong; if the base register is lost, only a call's word on the stack is checked
abbrev pub fails_register : Prologue → Recipe → Bool → Fact → ℕ → Bool
fails_register p r is_call f reg = has_no_room is_call f reg || (not (is_lost r f) && not (gives_caller_value p r f reg))

abbrev pub agreement_by : Option ℕ → Bool → ℕ → Result (Unit {0}) FrameCause
agreement_by (Some reg) lost base = Err (CallState reg)
agreement_by None true base = Err (FramePointerLost base)
agreement_by None false base = Ok tt

abbrev pub agreement : Prologue → Recipe → Bool → Fact → Result (Unit {0}) FrameCause
agreement p r is_call f = let g = at_site is_call f in agreement_by (find (fails_register p r is_call g) numbers) (is_lost r g) r.base
