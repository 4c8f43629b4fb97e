-- The laws above the lines of a generated program.
use Rattle.std.proofs.Common.{◌≡◌, ℕ, zero, suc, ◌+◌, ◌-◌, ◌%◌, ◌^◌, ◌<◌, ◌≤◌, ◌==◌, ◌&&◌, nat_lt, Bool, true, false, cond, List, [], ◌∷◌, ◌++◌, length, map, get_or, refl, ap, ◌∙◌, arith, append_assoc}
use Rattle.std.specs.Prelude.{All, codes, decimal, flat_map, nat_le}
use Rattle.std.specs.List.{list_all, range_with_len, slice_split}
use Rattle.std.specs.Str.Lines.{lines_of_parts, strip_carriage_return}
use Rattle.std.proofs.lemmas.Bool.Decides.{nat_tests}
use Rattle.std.proofs.lemmas.Fmt.{decimal_by_steps}
use Rattle.std.proofs.lemmas.List.Elements.{All-cons}
use Rattle.std.proofs.lemmas.List.Folds.{list_all-append}
use Rattle.std.proofs.lemmas.List.Splits.{slice_split_at}
use Rattle.eh_kit.specs.declared.program.FunctionName.{FunctionName}
use Rattle.eh_kit.specs.declared.program.FunctionName.TheVariants.{Main, Numbered, Boom}
use Rattle.eh_kit.specs.declared.program.FunctionKind.{FunctionKind}
use Rattle.eh_kit.specs.declared.program.FunctionKind.TheVariants.{Plain, Cleanup, CatchAll, CatchInt}
use Rattle.eh_kit.specs.declared.program.Caller.{Caller}
use Rattle.eh_kit.specs.declared.program_text.TheConstants.{MAX_FUNCTIONS}
use Rattle.eh_kit.specs.Program.{nth_caller, callee_of, callers, main_function}
use Rattle.eh_kit.specs.ProgramText.{name_text, lines_text, call_lines, after_catch, caught_lines, cleanup_lines, scope_lines, pad_lines, caller_lines, boom_lines, generated_lines, generated_text}
use Rattle.eh_kit.specs.Laws.{is_printable, is_plain, LinesArePlain, LinesAreRead}

-- ---- tests

and_true : (a b : Bool) → a ≡ true → b ≡ true → (a && b) ≡ true
and_true a b e f = rw (e, f) refl

and_left : (a b : Bool) → (a && b) ≡ true → a ≡ true
and_left true b e = refl
and_left false b e = e

and_right : (a b : Bool) → (a && b) ≡ true → b ≡ true
and_right true b e = e
and_right false b e = cc

abbrev Prints : List ℕ → Type 0
Prints bs = list_all is_printable bs ≡ true

both : (a b : List ℕ) → Prints a → Prints b → Prints (a ++ b)
both a b e f = list_all-append is_printable a b ∙ and_true _ _ e f

abbrev ArePlain : List (List ℕ) → Type 0
ArePlain ls = list_all is_plain ls ≡ true

plain_both : (a b : List (List ℕ)) → ArePlain a → ArePlain b → ArePlain (a ++ b)
plain_both a b e f = list_all-append is_plain a b ∙ and_true _ _ e f

-- ---- names

digit_prints : (n : ℕ) → n < 10 → Prints ((48 + n) ∷ [])
digit_prints n h =
    let low : nat_le 32 (48 + n) ≡ true = grind (arith, nat_tests) in
    let high : nat_le (48 + n) 126 ≡ true = grind (arith, nat_tests) in
    rw (low, high) refl

digits_print : (n : ℕ) → n < 2 ^ 64 → Prints (decimal n)
digits_print n h =
    decimal_by_steps (λ _ ds. Prints ds) digit_prints (λ m ds ten e. both ds ((48 + m % 10) ∷ []) e (digit_prints (m % 10) (omega arith))) n h

abbrev IsSmall : FunctionName → Type 0
IsSmall Main = Unit {0}
IsSmall (Numbered i) = i < 2 ^ 64
IsSmall Boom = Unit {0}

name_prints : (n : FunctionName) → IsSmall n → Prints (name_text n)
name_prints Main h = refl
name_prints (Numbered i) h = digits_print i h
name_prints Boom h = refl

-- a line that begins with a name
name_begins : (n : FunctionName) (more : List ℕ) → IsSmall n → Prints more → is_plain (name_text n ++ more) ≡ true
name_begins Main more h e = e
name_begins (Numbered i) more h e = both (decimal i) more (digits_print i h) e
name_begins Boom more h e = e

-- ---- the lines of a function

call_plain : (n m : FunctionName) → IsSmall n → Prints (name_text m) → ArePlain (call_lines n m)
unfolding call_lines
call_plain n m h e = and_true _ _ typed (and_true _ _ begun (and_true _ _ called after))
  where
    typed : is_plain (codes ".type " ++ name_text n ++ codes ", %function") ≡ true
    typed = both (name_text n) (codes ", %function") (name_prints n h) refl

    begun : is_plain (name_text n ++ codes ": .fnstart") ≡ true
    begun = name_begins n (codes ": .fnstart") h refl

    called : is_plain (codes ".Lb" ++ name_text n ++ codes ": bl " ++ name_text m) ≡ true
    called = both (name_text n ++ codes ": bl ") (name_text m) (both (name_text n) (codes ": bl ") (name_prints n h) refl) e

    after : ArePlain ((codes ".Le" ++ name_text n ++ codes ": pop {r4, pc}") ∷ [])
    after = and_true _ _ (both (name_text n) (codes ": pop {r4, pc}") (name_prints n h) refl) refl

after_plain : (n : FunctionName) → ArePlain (after_catch n)
after_plain Main = refl
after_plain (Numbered i) = refl
after_plain Boom = refl

caught_plain : (n : FunctionName) → IsSmall n → ArePlain (caught_lines n)
unfolding caught_lines
caught_plain n h = and_true _ _ (both (name_text n) (codes ": bl __cxa_begin_catch") (name_prints n h) refl) (after_plain n)

cleanup_plain : (n : FunctionName) → IsSmall n → ArePlain (cleanup_lines n)
unfolding cleanup_lines
cleanup_plain n h = and_true _ _ (both (name_text n) (codes ": bl __cxa_end_cleanup") (name_prints n h) refl) refl

half_prints : (n mark : List ℕ) → Prints n → Prints mark → Prints (n ++ codes "-.Lb" ++ n ++ mark ++ codes ", .Lb" ++ n ++ codes "-" ++ n)
half_prints n mark e f =
    let a = both n (codes "-.Lb") e refl in
    let b = both (n ++ codes "-.Lb") n a e in
    let c = both (n ++ codes "-.Lb" ++ n) mark b f in
    let d = both (n ++ codes "-.Lb" ++ n ++ mark) (codes ", .Lb") c refl in
    let g = both (n ++ codes "-.Lb" ++ n ++ mark ++ codes ", .Lb") n d e in
    let i = both (n ++ codes "-.Lb" ++ n ++ mark ++ codes ", .Lb" ++ n) (codes "-") g refl in
    both (n ++ codes "-.Lb" ++ n ++ mark ++ codes ", .Lb" ++ n ++ codes "-") n i e

scope_plain : (n : FunctionName) (mark what : List ℕ) → IsSmall n → Prints mark → Prints what → ArePlain (scope_lines n mark what)
unfolding scope_lines
scope_plain n mark what h e f = and_true _ _ (half_prints (name_text n) mark (name_prints n h) e) word
  where
    word : ArePlain ((codes ".word .Lp" ++ name_text n ++ codes "(prel31), " ++ what) ∷ [])
    word = and_true _ _ (both (name_text n ++ codes "(prel31), ") what (both (name_text n) (codes "(prel31), ") (name_prints n h) refl) f) refl

pad_plain : (n : FunctionName) (kind : FunctionKind) → IsSmall n → ArePlain (pad_lines n kind)
unfolding pad_lines
pad_plain n Plain h = refl
pad_plain n Cleanup h = plain_both (cleanup_lines n) (scope_lines n [] (codes "0")) (cleanup_plain n h) (scope_plain n [] (codes "0") h refl refl)
pad_plain n CatchAll h =
    plain_both (caught_lines n) (scope_lines n (codes "+1") (codes "0xFFFFFFFF, 0")) (caught_plain n h) (scope_plain n (codes "+1") (codes "0xFFFFFFFF, 0") h refl refl)
pad_plain n CatchInt h =
    plain_both (caught_lines n) (scope_lines n (codes "+1") (codes "_ZTIi(target2), 0")) (caught_plain n h) (scope_plain n (codes "+1") (codes "_ZTIi(target2), 0") h refl refl)

caller_plain : (f : Caller) → IsSmall f.name → Prints (name_text f.callee) → ArePlain (caller_lines f)
unfolding caller_lines
caller_plain f h e =
    plain_both (call_lines f.name f.callee ++ pad_lines f.name f.kind) (codes ".fnend" ∷ [])
    (plain_both (call_lines f.name f.callee) (pad_lines f.name f.kind) (call_plain f.name f.callee h e) (pad_plain f.name f.kind h)) refl

-- ---- the lines of a program

callee_prints : (functions i : ℕ) → i + 1 < 2 ^ 64 → Prints (name_text (callee_of functions i))
callee_prints functions i h = by (nat_lt (i + 1) functions)
  where
    by : (b : Bool) → Prints (name_text (cond b (Numbered (i + 1)) Boom))
    by true = digits_print (i + 1) h
    by false = refl

numbered_plain : (number functions a k : ℕ) → a + k ≤ MAX_FUNCTIONS → ArePlain (flat_map caller_lines (map (nth_caller number functions) (range_with_len a k)))
numbered_plain number functions a zero h = refl
numbered_plain number functions a (suc k) h =
    plain_both (caller_lines (nth_caller number functions a)) (flat_map caller_lines (map (nth_caller number functions) (range_with_len (a + 1) k)))
    (caller_plain (nth_caller number functions a) (omega arith) (callee_prints functions a (omega arith)))
    (numbered_plain number functions (a + 1) k (omega arith))

pub lines_are_plain : LinesArePlain
lines_are_plain number functions h =
    plain_both (flat_map caller_lines (callers number functions)) boom_lines
    (plain_both (caller_lines main_function) (flat_map caller_lines (map (nth_caller number functions) (range_with_len 0 functions)))
    (caller_plain main_function tt (digits_print 0 (omega arith))) (numbered_plain number functions 0 functions (omega arith)))
    refl

-- ---- lines are read

plain_prints : (l : List ℕ) → is_plain l ≡ true → Prints l
plain_prints [] e = refl
plain_prints (b ∷ more) e = and_true _ _ (and_true _ _ low high) rest
  where
    first : (nat_le 33 b && nat_le b 126) ≡ true
    first = and_left (nat_le 33 b && nat_le b 126) (list_all is_printable more) e

    rest : list_all is_printable more ≡ true
    rest = and_right (nat_le 33 b && nat_le b 126) (list_all is_printable more) e

    above : nat_le 33 b ≡ true
    above = and_left (nat_le 33 b) (nat_le b 126) first

    low : nat_le 32 b ≡ true
    low = grind (arith, nat_tests, above)

    high : nat_le b 126 ≡ true
    high = and_right (nat_le 33 b) (nat_le b 126) first

apart : (b c : ℕ) → c < 32 → is_printable b ≡ true → (b == c) ≡ false
apart b c h e = let above : nat_le 32 b ≡ true = and_left (nat_le 32 b) (nat_le b 126) e in grind (arith, nat_tests, above)

no_feed : (l : List ℕ) → Prints l → All (λ b. (b == 10) ≡ false) l
no_feed [] e = λ k d h. absurd (omega arith)
no_feed (b ∷ more) e =
    All-cons (λ b. (b == 10) ≡ false) b more (apart b 10 (omega arith) (and_left (is_printable b) (list_all is_printable more) e))
    (no_feed more (and_right (is_printable b) (list_all is_printable more) e))

no_return : (l : List ℕ) (k : ℕ) → Prints l → (get_or l k 0 == 13) ≡ false
no_return [] zero e = refl
no_return [] (suc k) e = refl
no_return (b ∷ more) zero e = apart b 13 (omega arith) (and_left (is_printable b) (list_all is_printable more) e)
no_return (b ∷ more) (suc k) e = no_return more k (and_right (is_printable b) (list_all is_printable more) e)

stripped : (l : List ℕ) → Prints l → strip_carriage_return l ≡ l
stripped l e = let other : (get_or l (length l - 1) 0 == 13) ≡ false = no_return l (length l - 1) e in rw other refl

cut : (ls : List (List ℕ)) → ArePlain ls → slice_split (λ b. b == 10) (lines_text ls) ≡ ls ++ [] ∷ []
cut [] e = refl
cut (l ∷ ls) e =
    ap (λ (t : List ℕ). slice_split (λ b. b == 10) t) (append_assoc l (codes "\n") (lines_text ls))
    ∙ (slice_split_at (λ b. b == 10) l 10 (lines_text ls) (no_feed l (plain_prints l (and_left (is_plain l) (list_all is_plain ls) e))) refl
    ∙ ap (λ (rest : List (List ℕ)). l ∷ rest) (cut ls (and_right (is_plain l) (list_all is_plain ls) e)))

parts : (ls : List (List ℕ)) → ArePlain ls → lines_of_parts (ls ++ [] ∷ []) ≡ ls
parts [] e = refl
parts (l ∷ []) e = ap (λ (t : List ℕ). t ∷ []) (stripped l (plain_prints l (and_left (is_plain l) true e)))
parts (l ∷ m ∷ more) e =
    ap (λ (t : List ℕ). t ∷ lines_of_parts (m ∷ more ++ [] ∷ [])) (stripped l (plain_prints l (and_left (is_plain l) (list_all is_plain (m ∷ more)) e)))
    ∙ ap (λ (rest : List (List ℕ)). l ∷ rest) (parts (m ∷ more) (and_right (is_plain l) (list_all is_plain (m ∷ more)) e))

pub lines_are_read : LinesAreRead
unfolding generated_text
lines_are_read number functions h =
    let plain = lines_are_plain number functions h in
    ap lines_of_parts (cut (generated_lines number functions) plain) ∙ parts (generated_lines number functions) plain
