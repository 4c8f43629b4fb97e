-- The digits of a text, from a place on.
use Rattle.std.proofs.Common.{◌≡◌, ℕ, ◌+◌, ◌<◌, ◌≤◌, Bool, true, false, ◌||◌, ◌==◌, List, [], ◌∷◌, ◌++◌, length, get_or, drop, filter, Some, None, Ok, Err, refl, sym, ◌∙◌, arith, append_assoc}
use Rattle.std.specs.List.{position_from}
use Rattle.std.proofs.lemmas.List.{at_drop_more, drop_all, append-nil}
use Rattle.thread_schedule.specs.Schedules.{is_digit, is_bad, schedule_of, some_digits}
use Rattle.thread_schedule.specs.declared.schedule.TheConstants.{LINE_FEED}

-- these are the digits before place i, and no byte before it is bad
pub record Reads (text digits : List ℕ) (i : ℕ) : Type 0 where
  pub filtered : filter is_digit text ≡ digits ++ filter is_digit (drop i text)
  pub found : position_from is_bad 0 text ≡ position_from is_bad i (drop i text)

pub reads_none : (text : List ℕ) → Reads text [] 0
reads_none text = record { filtered = refl; found = refl }

not_bad : (b : ℕ) → (is_digit b || b == LINE_FEED) ≡ true → is_bad b ≡ false
not_bad b e = rw e refl

or_left : (u v : Bool) → u ≡ true → (u || v) ≡ true
or_left true v e = refl
or_left false v e = absurd (cc)

or_right : (u v : Bool) → v ≡ true → (u || v) ≡ true
or_right true v e = refl
or_right false v e = e

pub reads_digit : (text digits : List ℕ) (i b : ℕ) → i < length text → get_or text i 0 ≡ b → is_digit b ≡ true → Reads text digits i → Reads text (digits ++ b ∷ []) (i + 1)
reads_digit text digits i b h e d r = record {
  filtered = r.filtered ∙ at_drop_more (λ xs. digits ++ filter is_digit xs) text i 0 h ∙ rw (e, d) (sym (append_assoc digits (b ∷ []) (filter is_digit (drop (i + 1) text))));
  found = r.found ∙ at_drop_more (position_from is_bad i) text i 0 h ∙ rw (e, not_bad b (or_left (is_digit b) (b == LINE_FEED) d)) refl;
}

pub reads_on : (text digits : List ℕ) (i b : ℕ) → i < length text → get_or text i 0 ≡ b → is_digit b ≡ false → (b == LINE_FEED) ≡ true → Reads text digits i → Reads text digits (i + 1)
reads_on text digits i b h e d l r = record {
  filtered = r.filtered ∙ at_drop_more (λ xs. digits ++ filter is_digit xs) text i 0 h ∙ rw (e, d) refl;
  found = r.found ∙ at_drop_more (position_from is_bad i) text i 0 h ∙ rw (e, not_bad b (or_right (is_digit b) (b == LINE_FEED) l)) refl;
}

pub reads_bad : (text digits : List ℕ) (i b : ℕ) → i < length text → get_or text i 0 ≡ b → is_digit b ≡ false → (b == LINE_FEED) ≡ false → Reads text digits i
    → schedule_of text ≡ Err i
unfolding schedule_of
reads_bad text digits i b h e d l r =
    let f : position_from is_bad 0 text ≡ Some i = r.found ∙ at_drop_more (position_from is_bad i) text i 0 h ∙ rw (e, d, l) refl in
    rw f refl

reads_all : (text digits : List ℕ) (i : ℕ) → length text ≤ i → Reads text digits i → schedule_of text ≡ some_digits digits (length text)
unfolding schedule_of
reads_all text digits i h r =
    let none : drop i text ≡ [] = drop_all i text h in
    let f : position_from is_bad 0 text ≡ None = r.found ∙ rw none refl in
    let g : filter is_digit text ≡ digits = r.filtered ∙ rw none (append-nil digits) in
    rw (f, g) refl

pub reads_none_at_all : (text digits : List ℕ) (i : ℕ) → length text ≤ i → length digits ≡ 0 → Reads text digits i → schedule_of text ≡ Err (length text)
reads_none_at_all text [] i h e r = reads_all text [] i h r
reads_none_at_all text (d ∷ ds) i h e r = absurd (omega arith)

pub reads_some : (text digits : List ℕ) (i : ℕ) → length text ≤ i → 0 < length digits → Reads text digits i → schedule_of text ≡ Ok digits
reads_some text [] i h e r = absurd (omega arith)
reads_some text (d ∷ ds) i h e r = reads_all text (d ∷ ds) i h r
