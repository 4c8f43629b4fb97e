-- The functions of the table are those that were given.
use Rattle.std.proofs.Common.{◌≡◌, ℕ, ◌+◌, ◌-◌, ◌%◌, ◌<◌, ◌≤◌, ◌&&◌, min, Bool, true, false, cond, nat_eq, nat_le, List, [], ◌∷◌, ◌++◌, map, fold, All, Option, Some, None, refl, ap, ◌∙◌, arith}
use Rattle.std.specs.Prelude.{unwrap_or}
use Rattle.std.specs.List.{position_from}
use Rattle.std.specs.Map.{values_of}
use Rattle.std.specs.Ordering.{nat_cmp}
use Rattle.std.specs.BTreeMap.{insert_entry}
use Rattle.std.proofs.lemmas.Bool.Decides.{nat_tests}
use Rattle.std.proofs.lemmas.List.Sums.{fold-append}
use Rattle.std.proofs.lemmas.List.Folds.{find-append}
use Rattle.std.proofs.lemmas.List.Elements.{All-head, All-tail}
use Rattle.elf_image.specs.Segments.{Segment, holds, segment_end}
use Rattle.elf_image.specs.Symbols.{Symbol}
use Rattle.elf_image.specs.Functions.{Function, is_thumb_function, segment_at, function_in, function_of_symbol, insert_first, functions_by_start, next_start, clip_ends, functions_of, FunctionsFrom}
use Rattle.elf_image.specs.Image.{IsWithinCode}
use Rattle.elf_write.specs.Layout.{section_of}
use Rattle.elf_write.specs.Parts.{null_symbol}
use Rattle.elf_write.specs.declared.layout.TheConstants.{SHN_ABS}
use Rattle.elf_write.specs.declared.parts.OwnSegment.{OwnSegment}
use Rattle.gnu_rewrite_laws.proofs.Placing.{KeysFrom, keys_lower, put_all, put_none, values_keyed, Below, lookup_above}
use Rattle.gnu_rewrite_laws.proofs.Table.{Name, name_row, function_row, mark_row, rows}

-- ---- a section is never that of an undefined symbol

some_number : (n : ℕ) → nat_eq (n + 1) 0 ≡ false
some_number n = grind (arith, nat_tests)

section_step : (b : Bool) (n : ℕ) (o : Option ℕ) → nat_eq (unwrap_or o SHN_ABS) 0 ≡ false → nat_eq (unwrap_or (cond b (Some (n + 1)) o) SHN_ABS) 0 ≡ false
section_step true n o h = some_number n
section_step false n o h = h

section_from : (p : OwnSegment → Bool) (n : ℕ) (xs : List OwnSegment) → nat_eq (unwrap_or (position_from p (n + 1) xs) SHN_ABS) 0 ≡ false
section_from p n [] = refl
section_from p n (x ∷ xs) = section_step (p x) n (position_from p (n + 1 + 1) xs) (section_from p (n + 1) xs)

pub has_section : (segments : List OwnSegment) (value : ℕ) → nat_eq (section_of segments value) 0 ≡ false
has_section segments value = section_from (λ s. nat_le s.start value && nat_le value (s.start + s.size)) 0 segments

-- ---- one function

odd_row : (start : ℕ) → start % 2 ≡ 0 → nat_eq ((start - start % 2 + 1) % 2) 1 ≡ true
odd_row start h = grind (arith, nat_tests)

some_size : (start end : ℕ) → start < end → nat_eq (end - start) 0 ≡ false
some_size start end h = grind (arith, nat_tests)

is_function : (own : List OwnSegment) (f : Function) → f.start % 2 ≡ 0 → is_thumb_function (function_row own f) ≡ true
is_function own f h = rw (odd_row f.start h, has_section own f.start) refl

same_function : (f : Function) (start end : ℕ) → start ≡ f.start → end ≡ f.end → Some (record { name = f.name; start = start; end = end }) ≡ Some f
same_function f start end a b = rw (a, b) refl

function_there : (own : List OwnSegment) (f : Function) (s : Segment) → f.start % 2 ≡ 0 → f.start < f.end → f.end ≤ segment_end s → s.exec ≡ true → s.write ≡ false
    → function_in (function_row own f) (Some s) ≡ Some f
function_there own f s even some within exec write =
    let least : min (segment_end s) (f.start - f.start % 2 + 1 - 1 + (f.end - f.start)) ≡ f.end = omega (arith, even, some, within) in
    rw (exec, write, some_size f.start f.end some) (same_function f (f.start - f.start % 2 + 1 - 1) (min (segment_end s) (f.start - f.start % 2 + 1 - 1 + (f.end - f.start))) (omega (arith, even)) least)

-- in an image's segments, and more behind them
pub function_back : (own : List OwnSegment) (segments more : List Segment) (f : Function) → f.start < f.end → IsWithinCode segments f → function_of_symbol (segments ++ more) (function_row own f) ≡ Some f
unfolding function_of_symbol
function_back own segments more f some in_code =
    let place : f.start - f.start % 2 + 1 - 1 ≡ f.start = omega (arith, in_code.even) in
    let there : segment_at (segments ++ more) (f.start - f.start % 2 + 1 - 1) ≡ Some in_code.segment =
    ap (λ (a : ℕ). segment_at (segments ++ more) a) place ∙ find-append (holds f.start) segments more ∙ rw in_code.holder refl in
    rw (is_function own f in_code.even, there) (function_there own f in_code.segment in_code.even some in_code.within in_code.exec in_code.read_only)

-- ---- all of them

pub no_function : (segments : List Segment) (s : Symbol) → is_thumb_function s ≡ false → function_of_symbol segments s ≡ None
unfolding function_of_symbol
no_function segments s h = rw h refl

-- each is a function of segments
abbrev pub AreThere : List OwnSegment → List Segment → List Function → Type 0
AreThere own segments [] = Unit {0}
AreThere own segments (f ∷ more) = (function_of_symbol segments (function_row own f) ≡ Some f) × AreThere own segments more

abbrev step : List Segment → List (ℕ × Function) → Symbol → List (ℕ × Function)
step segments entries s = insert_first entries (function_of_symbol segments s)

put_function : (es : List (ℕ × Function)) (f : Function) → Below f.start es → insert_first es (Some f) ≡ insert_entry nat_cmp es f.start f
put_function es f b = rw (lookup_above f.start es b) refl

put_functions : (own : List OwnSegment) (segments : List Segment) (es : List (ℕ × Function)) (fs : List Function) → AreThere own segments fs
    → fold (step segments) es (map (function_row own) fs) ≡ fold (λ entries (f : Function). insert_first entries (Some f)) es (map (λ (f : Function). f) fs)
put_functions own segments es [] t = refl
put_functions own segments es (f ∷ fs) t =
    ap (λ (o : Option Function). fold (step segments) (insert_first es o) (map (function_row own) fs)) t.0 ∙ put_functions own segments (insert_first es (Some f)) fs t.1

mark_is_none : (own : List OwnSegment) (segments : List Segment) (m : ℕ × Bool) → function_of_symbol segments (mark_row own m) ≡ None
mark_is_none own segments m = no_function segments (mark_row own m) refl

name_is_none : (own : List OwnSegment) (segments : List Segment) (n : Name) → function_of_symbol segments (name_row own n) ≡ None
name_is_none own segments n = no_function segments (name_row own n) refl

map_same : (fs : List Function) → map (λ (f : Function). f) fs ≡ fs
map_same [] = refl
map_same (f ∷ fs) = ap (λ (l : List Function). f ∷ l) (map_same fs)

by_start : (own : List OwnSegment) (segments : List Segment) (names types : List Name) (functions : List Function) (marks : List (ℕ × Bool)) → KeysFrom (λ (f : Function). f.start) 0 functions
    → AreThere own segments functions → values_of (functions_by_start segments (null_symbol ∷ rows own names functions types marks)) ≡ functions
by_start own segments names types functions marks k t =
    let put = step segments in
    let name : (es : List (ℕ × Function)) (n : Name) → put es (name_row own n) ≡ es = λ es n. ap (insert_first es) (name_is_none own segments n) in
    let mark : (es : List (ℕ × Function)) (m : ℕ × Bool) → put es (mark_row own m) ≡ es = λ es m. ap (insert_first es) (mark_is_none own segments m) in
    ap (λ (o : Option Function). values_of (fold put (insert_first [] o) (rows own names functions types marks))) (no_function segments null_symbol refl)
    ∙ ap values_of (
    fold-append put [] (map (mark_row own) marks) (map (name_row own) names ++ map (function_row own) functions ++ map (name_row own) types)
    ∙ ap (λ (es : List (ℕ × Function)). fold put es (map (name_row own) names ++ map (function_row own) functions ++ map (name_row own) types)) (put_none (mark_row own) put mark [] marks)
    ∙ fold-append put [] (map (name_row own) names ++ map (function_row own) functions) (map (name_row own) types)
    ∙ put_none (name_row own) put name (fold put [] (map (name_row own) names ++ map (function_row own) functions)) types
    ∙ fold-append put [] (map (name_row own) names) (map (function_row own) functions)
    ∙ ap (λ (es : List (ℕ × Function)). fold put es (map (function_row own) functions)) (put_none (name_row own) put name [] names)
    ∙ put_functions own segments [] functions t
    ∙ put_all (λ (f : Function). f.start) (λ (f : Function). f) (λ (f : Function). f) (λ entries (f : Function). insert_first entries (Some f)) put_function 0 [] functions tt k
    )
    ∙ values_keyed (λ (f : Function). f.start) (λ (f : Function). f) functions
    ∙ map_same functions

-- ---- where they end

least_left : (a b : ℕ) → a ≤ b → min a b ≡ a
least_left a b h = omega (arith, h)

next_above : (f : Function) (more : List Function) → FunctionsFrom f.end more → f.end ≤ next_start more f.end
next_above f [] h = omega arith
next_above f (g ∷ more) h = h.0

pub ended_same : (low : ℕ) (fs : List Function) → FunctionsFrom low fs → clip_ends fs ≡ fs
ended_same low [] h = refl
ended_same low (f ∷ fs) h =
    rw (least_left f.end (next_start fs f.end) (next_above f fs h.2)) (ap (λ (l : List Function). f ∷ l) (ended_same f.end fs h.2))

starts_rise : (low : ℕ) (fs : List Function) → FunctionsFrom low fs → KeysFrom (λ (f : Function). f.start) low fs
starts_rise low [] h = tt
starts_rise low (f ∷ fs) h = (h.0, keys_lower (λ (g : Function). g.start) (f.start + 1) f.end fs (omega (arith, h.1)) (starts_rise f.end fs h.2))

pub all_there : (own : List OwnSegment) (segments more : List Segment) (low : ℕ) (fs : List Function) → FunctionsFrom low fs → All (IsWithinCode segments) fs → AreThere own (segments ++ more) fs
all_there own segments more low [] h w = tt
all_there own segments more low (f ∷ fs) h w =
    (function_back own segments more f h.1 (All-head (IsWithinCode segments) f fs w), all_there own segments more f.end fs h.2 (All-tail (IsWithinCode segments) f fs w))

-- the functions of an image, among its segments and more
pub functions_are : (own : List OwnSegment) (segments more : List Segment) (names types : List Name) (functions : List Function) (marks : List (ℕ × Bool)) → FunctionsFrom 0 functions
    → All (IsWithinCode segments) functions → functions_of (segments ++ more) (null_symbol ∷ rows own names functions types marks) ≡ functions
unfolding functions_of
functions_are own segments more names types functions marks h w =
    ap clip_ends (by_start own (segments ++ more) names types functions marks (starts_rise 0 functions h) (all_there own segments more 0 functions h w)) ∙ ended_same 0 functions h
