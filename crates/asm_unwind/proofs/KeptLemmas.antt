-- What a frame keeps when it takes a directive more.
use Rattle.std.proofs.Common.{◌≡◌, ◌≢◌, ℕ, ◌/◌, ◌%◌, ◌^◌, ◌≤◌, Bool, true, false, List, [], ◌∷◌, ◌++◌, Option, Some, None, ap, sym, ◌∙◌, refl, arith}
use Rattle.std.specs.Prelude.{◌||◌, ◌==◌, not, is_some, nat_lt, MatchOption, ⊤}
use Rattle.std.proofs.lemmas.Bool.{ltb-false, eqb-false}
use Rattle.eh_codes.specs.declared.words.TheConstants.{MOST_PERSONALITY}
use Rattle.asm_unwind.specs.declared.directive.UnwindFault.TheVariants.{OutsideFunction, NestedFunction, SaveRange, PadRange, TwoPersonalities, AfterCantunwind}
use Rattle.std.specs.List.{list_any}
use Rattle.std.proofs.lemmas.List.Elements.{All-nil, All-push}
use Rattle.asm_unwind.specs.declared.directive.UnwindDirective.{UnwindDirective}
use Rattle.asm_unwind.specs.declared.directive.UnwindDirective.TheVariants.{FnStart, FnEnd, Save, Pad, SetFp, CantUnwind, PersonalityIndex, HandlerData}
use Rattle.asm_unwind.specs.declared.seen.DirectiveState.{DirectiveState}
use Rattle.asm_unwind.specs.Refusals.{is_start, is_end, is_frame_pointer, is_cant_unwind, is_handler_data, personality_in, directive_state_of, refusal_of, first_that_holds, is_outside, is_nested, is_bad_save, is_bad_pad, is_bad_personality, is_after_cant_unwind, with_next, HasNarrowList, has_register}
use Rattle.asm_unwind.specs.declared.directive.TheConstants.{MOST_PAD, MOST_FRAME_OFFSET}
use Rattle.asm_unwind.specs.Codes.{IsWritable}
use Rattle.asm_unwind.specs.Kept.{IsKept}

or_true : (b : Bool) → (b || true) ≡ true
or_true true = refl
or_true false = refl

or_false : (b : Bool) → (b || false) ≡ b
or_false true = refl
or_false false = refl

any_more : (p : UnwindDirective → Bool) (xs : List UnwindDirective) (d : UnwindDirective) → list_any p (xs ++ d ∷ []) ≡ (list_any p xs || p d)
any_more p [] d = or_false (p d)
any_more p (x ∷ xs) d = elim (p x) as (λ b. (b || list_any p (xs ++ d ∷ [])) ≡ ((b || list_any p xs) || p d)) [
  | true ↦ refl
  | false ↦ any_more p xs d
]

now_seen : (p : UnwindDirective → Bool) (xs : List UnwindDirective) (d : UnwindDirective) → p d ≡ true → list_any p (xs ++ d ∷ []) ≡ true
now_seen p xs d is = any_more p xs d ∙ ap (λ b. list_any p xs || b) is ∙ or_true (list_any p xs)

not_seen : (p : UnwindDirective → Bool) (xs : List UnwindDirective) (d : UnwindDirective) → p d ≡ false → list_any p (xs ++ d ∷ []) ≡ list_any p xs
not_seen p xs d is = any_more p xs d ∙ ap (λ b. list_any p xs || b) is ∙ or_false (list_any p xs)

no_index : (xs : List UnwindDirective) (d : UnwindDirective) → personality_in (d ∷ []) ≡ None → personality_in (xs ++ d ∷ []) ≡ personality_in xs
no_index [] d h = h
no_index (PersonalityIndex i ∷ xs) d h = refl
no_index (_ ∷ xs) d h = no_index xs d h

first_index : (xs : List UnwindDirective) (i : ℕ) → personality_in xs ≡ None → personality_in (xs ++ PersonalityIndex i ∷ []) ≡ Some i
first_index [] i h = refl
first_index (PersonalityIndex j ∷ xs) i h = cc
first_index (_ ∷ xs) i h = first_index xs i h

pub or_no : (a b : Bool) → (a || b) ≡ false → (a ≡ false) × (b ≡ false)
or_no true b h = cc
or_no false b h = (refl, h)

no_value : (o : Option ℕ) → is_some o ≡ false → o ≡ None
no_value None h = refl
no_value (Some x) h = cc

-- of conditions that show no refusal each is false
all_clear : (a b c d e f : Bool) → first_that_holds ((a, OutsideFunction) ∷ (b, NestedFunction) ∷ (c, SaveRange) ∷ (d, PadRange) ∷ (e, TwoPersonalities) ∷ (f, AfterCantunwind) ∷ []) ≡ None →
    (a ≡ false) × (b ≡ false) × (c ≡ false) × (d ≡ false) × (e ≡ false) × (f ≡ false)
all_clear true b c d e f h = cc
all_clear false true c d e f h = cc
all_clear false false true d e f h = cc
all_clear false false false true e f h = cc
all_clear false false false false true f h = cc
all_clear false false false false false true h = cc
all_clear false false false false false false h = (refl, refl, refl, refl, refl, refl)

-- no condition of a refusal holds where there is none
pub clear : (seen : DirectiveState) (d : UnwindDirective) → refusal_of seen d ≡ None → (is_bad_pad d ≡ false) × (is_bad_personality seen d ≡ false) × (is_bad_save seen d ≡ false)
unfolding refusal_of
clear seen d h =
    let all = all_clear (is_outside seen d) (is_nested seen d) (is_bad_save seen d) (is_bad_pad d) (is_bad_personality seen d) (is_after_cant_unwind seen d) h in
    (all.3, all.4, all.2)

no_personality : (xs : List UnwindDirective) (i : ℕ) → refusal_of (directive_state_of xs) (PersonalityIndex i) ≡ None → personality_in xs ≡ None
unfolding directive_state_of
no_personality xs i h = no_value (personality_in xs) (or_no (is_some (personality_in xs)) (nat_lt MOST_PERSONALITY i) (clear (directive_state_of xs) (PersonalityIndex i) h).1).0

pub seen_more : (xs : List UnwindDirective) (d : UnwindDirective) → refusal_of (directive_state_of xs) d ≡ None → directive_state_of (xs ++ d ∷ []) ≡ with_next (directive_state_of xs) d
unfolding directive_state_of refusal_of
seen_more xs FnStart h = rw (now_seen is_start xs FnStart refl, not_seen is_end xs FnStart refl, not_seen is_frame_pointer xs FnStart refl, not_seen is_cant_unwind xs FnStart refl, not_seen is_handler_data xs FnStart refl, no_index xs FnStart refl) refl
seen_more xs FnEnd h = rw (not_seen is_start xs FnEnd refl, now_seen is_end xs FnEnd refl, not_seen is_frame_pointer xs FnEnd refl, not_seen is_cant_unwind xs FnEnd refl, not_seen is_handler_data xs FnEnd refl, no_index xs FnEnd refl) refl
seen_more xs (Save r) h = rw (not_seen is_start xs (Save r) refl, not_seen is_end xs (Save r) refl, not_seen is_frame_pointer xs (Save r) refl, not_seen is_cant_unwind xs (Save r) refl, not_seen is_handler_data xs (Save r) refl, no_index xs (Save r) refl) refl
seen_more xs (Pad n) h = rw (not_seen is_start xs (Pad n) refl, not_seen is_end xs (Pad n) refl, not_seen is_frame_pointer xs (Pad n) refl, not_seen is_cant_unwind xs (Pad n) refl, not_seen is_handler_data xs (Pad n) refl, no_index xs (Pad n) refl) refl
seen_more xs (SetFp r k) h = rw (not_seen is_start xs (SetFp r k) refl, not_seen is_end xs (SetFp r k) refl, now_seen is_frame_pointer xs (SetFp r k) refl, not_seen is_cant_unwind xs (SetFp r k) refl, not_seen is_handler_data xs (SetFp r k) refl, no_index xs (SetFp r k) refl) refl
seen_more xs CantUnwind h = rw (not_seen is_start xs CantUnwind refl, not_seen is_end xs CantUnwind refl, not_seen is_frame_pointer xs CantUnwind refl, now_seen is_cant_unwind xs CantUnwind refl, not_seen is_handler_data xs CantUnwind refl, no_index xs CantUnwind refl) refl
seen_more xs (PersonalityIndex i) h =
    let free : personality_in xs ≡ None = no_personality xs i h in
    rw (not_seen is_start xs (PersonalityIndex i) refl, not_seen is_end xs (PersonalityIndex i) refl, not_seen is_frame_pointer xs (PersonalityIndex i) refl, not_seen is_cant_unwind xs (PersonalityIndex i) refl, not_seen is_handler_data xs (PersonalityIndex i) refl, first_index xs i free) refl
seen_more xs HandlerData h = rw (not_seen is_start xs HandlerData refl, not_seen is_end xs HandlerData refl, not_seen is_frame_pointer xs HandlerData refl, not_seen is_cant_unwind xs HandlerData refl, now_seen is_handler_data xs HandlerData refl, no_index xs HandlerData refl) refl

pub kept_none : IsKept [] (directive_state_of [])
unfolding directive_state_of
kept_none = record { seen_so_far = refl; writable = All-nil IsWritable; small_index = tt }

no_sp : (seen : DirectiveState) (r : ℕ) → is_bad_save seen (Save r) ≡ false → r / 2 ^ 13 % 2 ≡ 0
no_sp seen r s =
    let first = (or_no ((r == 0 || has_register r 13) || has_register r 15) seen.frame_pointer s).0 in
    let second = (or_no (r == 0 || has_register r 13) (has_register r 15) first).0 in
    let none : (r / 2 ^ 13 % 2 == 1) ≡ false = (or_no (r == 0) (has_register r 13) second).1 in
    let other : r / 2 ^ 13 % 2 ≢ 1 = eqb-false (r / 2 ^ 13 % 2) 1 none in
    omega arith

writable_of : (seen : DirectiveState) (d : UnwindDirective) → HasNarrowList d → is_bad_save seen d ≡ false → is_bad_pad d ≡ false → IsWritable d
writable_of seen (Save r) h s p = (h, no_sp seen r s)
writable_of seen (Pad n) h s p = ltb-false MOST_PAD n (or_no (n == 0) (nat_lt MOST_PAD n) (or_no (n == 0 || nat_lt MOST_PAD n) (not (n % 4 == 0)) p).0).1
writable_of seen (SetFp r k) h s p = ltb-false 11 r (or_no ((nat_lt MOST_FRAME_OFFSET k || not (k % 4 == 0)) || nat_lt r 4) (nat_lt 11 r) p).1
writable_of seen FnStart h s p = tt
writable_of seen FnEnd h s p = tt
writable_of seen CantUnwind h s p = tt
writable_of seen (PersonalityIndex i) h s p = tt
writable_of seen HandlerData h s p = tt

pub kept_writable : (seen : DirectiveState) (d : UnwindDirective) → HasNarrowList d → refusal_of seen d ≡ None → IsWritable d
kept_writable seen d narrow h = writable_of seen d narrow (clear seen d h).2 (clear seen d h).0

small_index_more : (seen : DirectiveState) (d : UnwindDirective) → refusal_of seen d ≡ None → MatchOption seen.personality ⊤ (λ index. index ≤ MOST_PERSONALITY) →
    MatchOption (with_next seen d).personality ⊤ (λ index. index ≤ MOST_PERSONALITY)
small_index_more seen (PersonalityIndex i) h was = ltb-false MOST_PERSONALITY i (or_no (is_some seen.personality) (nat_lt MOST_PERSONALITY i) (clear seen (PersonalityIndex i) h).1).1
small_index_more seen (Save r) h was = was
small_index_more seen (Pad n) h was = was
small_index_more seen (SetFp r k) h was = was
small_index_more seen FnStart h was = was
small_index_more seen FnEnd h was = was
small_index_more seen CantUnwind h was = was
small_index_more seen HandlerData h was = was

-- a frame keeps what it says of its directives when it takes one more
pub kept_more : (xs ys : List UnwindDirective) (seen next : DirectiveState) (d : UnwindDirective) → IsKept xs seen →
    HasNarrowList d → refusal_of seen d ≡ None → ys ≡ xs ++ d ∷ [] → next ≡ with_next seen d → IsKept ys next
kept_more xs ys seen next d was narrow h pushed is =
    let fine : refusal_of (directive_state_of xs) d ≡ None = rw was.seen_so_far at h in
    rw (pushed, is) (record {
      seen_so_far = rw was.seen_so_far (sym (seen_more xs d fine));
      writable = All-push IsWritable xs d was.writable (kept_writable seen d narrow h);
      small_index = small_index_more seen d h was.small_index;
    })
