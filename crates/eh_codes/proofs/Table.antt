-- What each range of first bytes begins, in the order of the bytes.
use Rattle.std.proofs.Common.{◌≡◌, ◌≢◌, ℕ, ◌+◌, ◌*◌, ◌/◌, ◌%◌, ◌^◌, ◌<◌, ◌≤◌, ◌==◌, Bool, true, false, not, ◌||◌, ◌&&◌, ◌⊎◌, bit_and, List, [], ◌∷◌, Option, Some, None, refl, arith, ◌∙◌}
use Rattle.std.specs.Result.{result_ok}
use Rattle.std.proofs.lemmas.Bool.Decides.{nat_tests}
use Rattle.eh_word.specs.Words.{uleb128_front}
use Rattle.eh_codes.specs.declared.code.UnwindCode.{UnwindCode}
use Rattle.eh_codes.specs.declared.code.UnwindCode.TheVariants.{Raise, Lower, Refuse, PopMask, Restore, PopRange, PopRangeAndLr, Finish, PopLow, RaiseLong}
use Rattle.eh_codes.specs.Table.{code_front}
use Rattle.eh_codes.proofs.Search.{all_from_at, front_like, front_where}

-- ---- tests of a second byte

other : (n : ℕ) (b : Bool) → n ≢ 0 → ((n == 0) || not b) ≡ true → b ≡ false
other n true some h = grind (arith, nat_tests)
other n false some h = refl

-- a byte that isn't 0 has a bit
some_set : (next : ℕ) → next < 2 ^ 8 → next ≢ 0 → (bit_and next 0xFF == 0) ≡ false
some_set next small some = other next (bit_and next 0xFF == 0) some (all_from_at (λ n. (n == 0) || not (bit_and n 0xFF == 0)) 256 0 refl next (omega arith) small)

any : (next : ℕ) → next < 2 ^ 8 → (bit_and next 0 == 0) ≡ true
any next small = all_from_at (λ n. bit_and n 0 == 0) 256 0 refl next (omega arith) small

low_half : (next : ℕ) → next < 2 ^ 4 → (bit_and next 0xF0 == 0) ≡ true
low_half next small = all_from_at (λ n. bit_and n 0xF0 == 0) 16 0 refl next (omega arith) small

high_set : (next : ℕ) → 2 ^ 4 ≤ next → next < 2 ^ 8 → (bit_and next 0xF0 == 0) ≡ false
high_set next high small = flipped (bit_and next 0xF0 == 0) (all_from_at (λ n. not (bit_and n 0xF0 == 0)) 240 16 refl next high (omega arith))
  where
    flipped : (b : Bool) → not b ≡ true → b ≡ false
    flipped true h = cc
    flipped false h = refl

-- ---- the first bytes

pub raise : (first : ℕ) (more : List ℕ) → first < 0x40 → code_front first more ≡ Some (Raise (first % 2 ^ 6), 1)
raise first more h = front_like 0x00 0x40 refl first (omega arith) h more

pub lower : (first : ℕ) (more : List ℕ) → 0x40 ≤ first → first < 0x80 → code_front first more ≡ Some (Lower (first % 2 ^ 6), 1)
lower first more l h = front_like 0x40 0x40 refl first l h more

pub refuse : (first : ℕ) (more : List ℕ) → first ≡ 0x80 → code_front first (0 ∷ more) ≡ Some (Refuse, 2)
refuse first more e = front_like 0x80 1 refl first (omega arith) (omega arith) (0 ∷ more)

pub mask_low : (first next : ℕ) (more : List ℕ) → first ≡ 0x80 → next < 2 ^ 8 → next ≢ 0 → code_front first (next ∷ more) ≡ Some (PopMask (first % 2 ^ 4 * 2 ^ 8 + next), 2)
mask_low first next more e small some =
    front_like 0x80 1 refl first (omega arith) (omega arith) (next ∷ more) ∙ rw (some_set next small some, any next small) refl

pub mask_low_alone : (first : ℕ) → first ≡ 0x80 → code_front first [] ≡ None
mask_low_alone first e = front_like 0x80 1 refl first (omega arith) (omega arith) []

bit_clear : (first : ℕ) → first / 2 % 2 ≡ 0 → (first / 2 % 2 == 0) ≡ true
bit_clear first h = grind (arith, nat_tests)

bit_set : (first : ℕ) → first / 2 % 2 ≡ 1 → (first / 2 % 2 == 1) ≡ true
bit_set first h = grind (arith, nat_tests)

pub mask_high : (first next : ℕ) (more : List ℕ) → 0x81 ≤ first → first < 0x90 → first / 2 % 2 ≡ 0 → next < 2 ^ 8 → code_front first (next ∷ more) ≡ Some (PopMask (first % 2 ^ 4 * 2 ^ 8 + next), 2)
mask_high first next more l h clear small =
    front_where (λ f. f / 2 % 2 == 0) 0x81 0x81 15 refl first l h (bit_clear first clear) (next ∷ more) ∙ rw (any next small) refl

pub mask_high_alone : (first : ℕ) → 0x81 ≤ first → first < 0x90 → first / 2 % 2 ≡ 0 → code_front first [] ≡ None
mask_high_alone first l h clear = front_where (λ f. f / 2 % 2 == 0) 0x81 0x81 15 refl first l h (bit_clear first clear) []

-- the mask has the stack pointer
pub mask_sp : (first : ℕ) (more : List ℕ) → 0x80 ≤ first → first < 0x90 → first / 2 % 2 ≡ 1 → code_front first more ≡ None
mask_sp first more l h set = front_where (λ f. f / 2 % 2 == 1) 0x82 0x80 16 refl first l h (bit_set first set) more

is_plain : (n : ℕ) → n ≢ 13 → n ≢ 15 → (not (n == 13) && not (n == 15)) ≡ true
is_plain n a b = grind (arith, nat_tests)

is_kept : (n : ℕ) → (n ≡ 13) ⊎ (n ≡ 15) → ((n == 13) || (n == 15)) ≡ true
is_kept n h = grind (arith, nat_tests)

pub restore : (first : ℕ) (more : List ℕ) → 0x90 ≤ first → first < 0xA0 → first % 2 ^ 4 ≢ 13 → first % 2 ^ 4 ≢ 15 → code_front first more ≡ Some (Restore (first % 2 ^ 4), 1)
restore first more l h a b = front_where (λ f. not (f % 2 ^ 4 == 13) && not (f % 2 ^ 4 == 15)) 0x90 0x90 16 refl first l h (is_plain (first % 2 ^ 4) a b) more

pub restore_none : (first : ℕ) (more : List ℕ) → 0x90 ≤ first → first < 0xA0 → (first % 2 ^ 4 ≡ 13) ⊎ (first % 2 ^ 4 ≡ 15) → code_front first more ≡ None
restore_none first more l h a = front_where (λ f. (f % 2 ^ 4 == 13) || (f % 2 ^ 4 == 15)) 0x9D 0x90 16 refl first l h (is_kept (first % 2 ^ 4) a) more

pub range : (first : ℕ) (more : List ℕ) → 0xA0 ≤ first → first < 0xA8 → code_front first more ≡ Some (PopRange (first % 2 ^ 3), 1)
range first more l h = front_like 0xA0 8 refl first l h more

pub range_and_lr : (first : ℕ) (more : List ℕ) → 0xA8 ≤ first → first < 0xB0 → code_front first more ≡ Some (PopRangeAndLr (first % 2 ^ 3), 1)
range_and_lr first more l h = front_like 0xA8 8 refl first l h more

pub finish : (first : ℕ) (more : List ℕ) → first ≡ 0xB0 → code_front first more ≡ Some (Finish, 1)
finish first more e = front_like 0xB0 1 refl first (omega arith) (omega arith) more

pub low : (first next : ℕ) (more : List ℕ) → first ≡ 0xB1 → next < 2 ^ 4 → next ≢ 0 → code_front first (next ∷ more) ≡ Some (PopLow next, 2)
low first next more e small some =
    front_like 0xB1 1 refl first (omega arith) (omega arith) (next ∷ more) ∙ rw (some_set next (omega arith) some, low_half next small) refl

pub low_alone : (first : ℕ) → first ≡ 0xB1 → code_front first [] ≡ None
low_alone first e = front_like 0xB1 1 refl first (omega arith) (omega arith) []

pub low_empty : (first : ℕ) (more : List ℕ) → first ≡ 0xB1 → code_front first (0 ∷ more) ≡ None
low_empty first more e = front_like 0xB1 1 refl first (omega arith) (omega arith) (0 ∷ more)

pub low_high : (first next : ℕ) (more : List ℕ) → first ≡ 0xB1 → 2 ^ 4 ≤ next → next < 2 ^ 8 → code_front first (next ∷ more) ≡ None
low_high first next more e high small =
    front_like 0xB1 1 refl first (omega arith) (omega arith) (next ∷ more) ∙ rw (some_set next small (omega arith), high_set next high small) refl

-- a long raise, by what is read after its first byte
abbrev pub long_by : Option (ℕ × ℕ) → Option (UnwindCode × ℕ)
long_by None = None
long_by (Some number) = Some (RaiseLong number.0, 1 + number.1)

long_cases : (o : Option (ℕ × ℕ)) (first : ℕ) (more : List ℕ) → result_ok (uleb128_front more) ≡ o → first ≡ 0xB2 → code_front first more ≡ long_by o
long_cases None first more is e = front_like 0xB2 1 refl first (omega arith) (omega arith) more ∙ rw is refl
long_cases (Some number) first more is e = front_like 0xB2 1 refl first (omega arith) (omega arith) more ∙ rw is refl

pub long : (first : ℕ) (more : List ℕ) → first ≡ 0xB2 → code_front first more ≡ long_by (result_ok (uleb128_front more))
long first more e = long_cases (result_ok (uleb128_front more)) first more refl e

pub none : (first : ℕ) (more : List ℕ) → 0xB3 ≤ first → first < 0x100 → code_front first more ≡ None
none first more l h = front_like 0xB3 0x4D refl first l h more

-- ---- the same in one set, for the search

pub ruleset table = (raise, lower, refuse, mask_low, mask_low_alone, mask_high, mask_high_alone, mask_sp, restore, restore_none, range, range_and_lr, finish, low, low_alone, low_empty, low_high, none)
