-- Which directives are refused after which others.
use Rattle.std.specs.Prelude.{ℕ, ◌<◌, ◌/◌, ◌%◌, ◌^◌, ◌==◌, ◌&&◌, ◌||◌, not, Bool, true, false, nat_lt, if◌then◌else◌, List, [], ◌∷◌, Option, Some, None, is_some}
use Rattle.std.specs.List.{list_any}
use Rattle.asm_unwind.specs.declared.directive.UnwindDirective.{UnwindDirective}
use Rattle.asm_unwind.specs.declared.directive.UnwindDirective.TheVariants.{FnStart, FnEnd, Save, Pad, SetFp, CantUnwind, PersonalityIndex, HandlerData}
use Rattle.asm_unwind.specs.declared.directive.TheConstants.{MOST_PAD, MOST_FRAME_OFFSET}
use Rattle.eh_codes.specs.declared.words.TheConstants.{MOST_PERSONALITY}
use Rattle.asm_unwind.specs.declared.directive.UnwindFault.{UnwindFault}
use Rattle.asm_unwind.specs.declared.directive.UnwindFault.TheVariants.{OutsideFunction, NestedFunction, SaveRange, PadRange, TwoPersonalities, AfterCantunwind}
use Rattle.asm_unwind.specs.declared.seen.DirectiveState.{DirectiveState}

abbrev pub is_start : UnwindDirective → Bool
is_start FnStart = true
is_start _ = false

abbrev pub is_end : UnwindDirective → Bool
is_end FnEnd = true
is_end _ = false

abbrev pub is_frame_pointer : UnwindDirective → Bool
is_frame_pointer (SetFp _ _) = true
is_frame_pointer _ = false

abbrev pub is_cant_unwind : UnwindDirective → Bool
is_cant_unwind CantUnwind = true
is_cant_unwind _ = false

abbrev pub is_handler_data : UnwindDirective → Bool
is_handler_data HandlerData = true
is_handler_data _ = false

-- the first personality index among directives
abbrev pub personality_in : List UnwindDirective → Option ℕ
personality_in [] = None
personality_in (PersonalityIndex index ∷ _) = Some index
personality_in (_ ∷ more) = personality_in more

-- the state of a list of directives, on which later ones depend
unfoldable pub directive_state_of : List UnwindDirective → DirectiveState
directive_state_of directives = record {
  started = list_any is_start directives;
  ended = list_any is_end directives;
  frame_pointer = list_any is_frame_pointer directives;
  personality = personality_in directives;
  cant_unwind = list_any is_cant_unwind directives;
  handler_data = list_any is_handler_data directives;
}

-- the register is in the list
abbrev pub has_register : ℕ → ℕ → Bool
has_register registers register = registers / 2 ^ register % 2 == 1

-- the directive is before `.fnstart` or after `.fnend`
abbrev pub is_outside : DirectiveState → UnwindDirective → Bool
is_outside seen next = seen.ended || (not seen.started && not (is_start next))

-- a second `.fnstart`
abbrev pub is_nested : DirectiveState → UnwindDirective → Bool
is_nested seen next = seen.started && is_start next

-- an empty list, one with r13 or r15, or a list after `.setfp`
abbrev pub is_bad_save : DirectiveState → UnwindDirective → Bool
is_bad_save seen (Save registers) =
    registers == 0 || has_register registers 13 || has_register registers 15 || seen.frame_pointer
is_bad_save _ _ = false

-- the list has no register above lr
abbrev pub HasNarrowList : UnwindDirective → Type 0
HasNarrowList (Save registers) = registers < 2 ^ 15
HasNarrowList _ = Unit {0}

-- a pad of 0, above its limit or no multiple of 4; an offset above its limit or no multiple of 4, or a register
-- other than r4 to r11
abbrev pub is_bad_pad : UnwindDirective → Bool
is_bad_pad (Pad size) = size == 0 || nat_lt MOST_PAD size || not (size % 4 == 0)
is_bad_pad (SetFp register offset) =
    nat_lt MOST_FRAME_OFFSET offset || not (offset % 4 == 0) || nat_lt register 4 || nat_lt 11 register
is_bad_pad _ = false

-- a second personality index, or one above the highest
abbrev pub is_bad_personality : DirectiveState → UnwindDirective → Bool
is_bad_personality seen (PersonalityIndex index) = is_some seen.personality || nat_lt MOST_PERSONALITY index
is_bad_personality _ _ = false

-- anything but `.fnend` after `.cantunwind`
abbrev pub is_after_cant_unwind : DirectiveState → UnwindDirective → Bool
is_after_cant_unwind seen next = seen.cant_unwind && not (is_end next)

-- the first refusal of a list whose condition holds
abbrev pub first_that_holds : List (Bool × UnwindFault) → Option UnwindFault
first_that_holds [] = None
first_that_holds (refusal ∷ more) = if refusal.0 then Some refusal.1 else first_that_holds more

-- why the next directive is refused after this state, or None
unfoldable pub refusal_of : DirectiveState → UnwindDirective → Option UnwindFault
refusal_of seen next = first_that_holds (
    (is_outside seen next, OutsideFunction)
    ∷ (is_nested seen next, NestedFunction)
    ∷ (is_bad_save seen next, SaveRange)
    ∷ (is_bad_pad next, PadRange)
    ∷ (is_bad_personality seen next, TwoPersonalities)
    ∷ (is_after_cant_unwind seen next, AfterCantunwind)
    ∷ [])

-- the state after one more directive, which isn't refused
abbrev pub with_next : DirectiveState → UnwindDirective → DirectiveState
with_next seen FnStart = record seen { started = true }
with_next seen FnEnd = record seen { ended = true }
with_next seen (SetFp _ _) = record seen { frame_pointer = true }
with_next seen CantUnwind = record seen { cant_unwind = true }
with_next seen (PersonalityIndex index) = record seen { personality = Some index }
with_next seen HandlerData = record seen { handler_data = true }
with_next seen _ = seen
