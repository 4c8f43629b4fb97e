-- The saves of a PUSH, and lists of registers that are tested, one register more.
use Rattle.std.proofs.Common.{ℕ, ◌≡◌, ◌≢◌, ◌<◌, ◌+◌, ◌-◌, ◌*◌, ◌/◌, ◌^◌, ◌||◌, Bool, true, false, ◌∷◌, length, Option, Some, sym, ◌∙◌, ap, arith}
use Rattle.std.specs.Prelude.{option_and_then}
use Rattle.std.specs.Int.Bits.{bit_and}
use Rattle.std.specs.List.{list_any}
use Rattle.thumb_core.specs.Words.{registers_of_list}
use Rattle.thumb_core.proofs.Listed.{listed_from, listed_all, listed_none}
use Rattle.frame_facts.specs.declared.facts.Source.{Source}
use Rattle.frame_facts.specs.declared.facts.Fact.{Fact}
use Rattle.frame_facts.specs.declared.saves.Save.{Save}
use Rattle.frame_facts.specs.declared.saves.Prologue.{Prologue}
use Rattle.frame_facts.specs.Facts.{source, some_if}
use Rattle.frame_facts.specs.Prologues.{save_of_word, with_save, with_push_saves}
use Rattle.frame_facts.proofs.Walks.{one_more, one_less}

pub any_start : (q : ℕ → Bool) (list : ℕ) → list_any q (listed_from 0 list) ≡ list_any q (registers_of_list list)
any_start q list = ap (list_any q) (sym (listed_all list))

pub any_next : (q : ℕ → Bool) (k list : ℕ) → k < 16 → bit_and (list / 2 ^ k) 1 ≡ 1 → q k ≡ false → list_any q (listed_from (k + 1) list) ≡ list_any q (listed_from k list)
any_next q k list low is e = sym (ap (list_any q) (one_more k list low is) ∙ ap (λ b. b || list_any q (listed_from (k + 1) list)) e)

pub any_past : (q : ℕ → Bool) (k list : ℕ) → k < 16 → bit_and (list / 2 ^ k) 1 ≢ 1 → list_any q (listed_from (k + 1) list) ≡ list_any q (listed_from k list)
any_past q k list low is = sym (ap (list_any q) (one_less k list low is))

pub any_stop : (q : ℕ → Bool) (k list : ℕ) → k < 16 → bit_and (list / 2 ^ k) 1 ≡ 1 → q k ≡ true → list_any q (listed_from k list) ≡ true
any_stop q k list low is e = ap (list_any q) (one_more k list low is) ∙ ap (λ b. b || list_any q (listed_from (k + 1) list)) e

pub any_end : (q : ℕ → Bool) (k list : ℕ) → k ≡ 16 → list_any q (listed_from k list) ≡ false
any_end q k list last = ap (λ n. list_any q (listed_from n list)) last ∙ ap (list_any q) (listed_none list)

-- ---- saves, from the highest register down

pub push_start : (p : Prologue) (f : Fact) (list : ℕ) → Some p ≡ with_push_saves p f (listed_from 16 list)
push_start p f list = sym (ap (with_push_saves p f) (listed_none list))

pub push_next : (p : Prologue) (f : Fact) (list k offset next : ℕ) (old new : Option Prologue) (s : Option Save) (held : Source) → k < 16 → bit_and (list / 2 ^ k) 1 ≡ 1
    → offset ≡ f.depth + 4 * length (listed_from (k + 1) list) → next ≡ offset + 4 → held ≡ source f k → s ≡ save_of_word next held → old ≡ with_push_saves p f (listed_from (k + 1) list) → new ≡ option_and_then (with_save s) old
    → new ≡ with_push_saves p f (listed_from k list)
push_next p f list k offset next old new s held low is o n h e was now =
    let deep : next ≡ f.depth + 4 * length (k ∷ listed_from (k + 1) list) = omega (arith, o, n) in
    now ∙ ap (λ t. option_and_then (with_save t) old) (e ∙ ap (save_of_word next) h ∙ ap (λ m. save_of_word m (source f k)) deep)
    ∙ ap (option_and_then (with_save (save_of_word (f.depth + 4 * length (k ∷ listed_from (k + 1) list)) (source f k)))) was
    ∙ sym (ap (with_push_saves p f) (one_more k list low is))

pub push_past : (p : Prologue) (f : Fact) (list k : ℕ) (old new : Option Prologue) → k < 16 → bit_and (list / 2 ^ k) 1 ≢ 1 → old ≡ with_push_saves p f (listed_from (k + 1) list) → new ≡ old
    → new ≡ with_push_saves p f (listed_from k list)
push_past p f list k old new low is was now = now ∙ was ∙ sym (ap (with_push_saves p f) (one_less k list low is))

pub push_end : (p : Prologue) (f : Fact) (list n : ℕ) (last : Option Prologue) → n ≡ 16 → last ≡ with_push_saves p f (listed_from (16 - n) list) → last ≡ with_push_saves p f (registers_of_list list)
push_end p f list n last e is = is ∙ ap (λ m. with_push_saves p f (listed_from (16 - m) list)) e ∙ ap (with_push_saves p f) (sym (listed_all list))

pub same_placed : (a b : Bool) (x y : Prologue) → a ≡ b → x ≡ y → some_if a x ≡ some_if b y
same_placed a b x y e f = cc

pub at_step : (n : ℕ) (list : ℕ) → n < 16 → listed_from (15 - n + 1) list ≡ listed_from (16 - n) list
at_step n list l = let e : 15 - n + 1 ≡ 16 - n = omega arith in ap (λ m. listed_from m list) e

pub at_next : (n : ℕ) (list : ℕ) → n < 16 → listed_from (15 - n) list ≡ listed_from (16 - (n + 1)) list
at_next n list l = let e : 15 - n ≡ 16 - (n + 1) = omega arith in ap (λ m. listed_from m list) e
