-- Laws of schedules and tagged lines, a text at a time (docs/guide/walks-and-threads.md).
use Rattle.std.specs.Prelude.{◌≡◌, ℕ, ◌+◌, true, false, List, [], ◌∷◌, ◌++◌, length, replicate, Ok, Err}
use Rattle.thread_schedule.specs.Schedules.{is_bad, is_digit, schedule_of}
use Rattle.thread_schedule.specs.Tags.{tag_text}
use Rattle.thread_schedule.specs.declared.schedule.TheConstants.{FIRST_DIGIT, LAST_DIGIT, LINE_FEED}
use Rattle.thread_schedule.specs.declared.tags.TheConstants.{BLANK, ZERO}

-- ---- schedules

abbrev pub AreDigits : List ℕ → Type 0
AreDigits [] = Unit {0}
AreDigits (byte ∷ more) = (is_digit byte ≡ true) × AreDigits more

-- digits and line feeds alone
abbrev pub NoneIsBad : List ℕ → Type 0
NoneIsBad [] = Unit {0}
NoneIsBad (byte ∷ more) = (is_bad byte ≡ false) × NoneIsBad more

-- a text of digits is its own schedule
abbrev pub DigitsAreRead : Type 0
DigitsAreRead = (digit : ℕ) (more : List ℕ) → AreDigits (digit ∷ more) → schedule_of (digit ∷ more) ≡ Ok (digit ∷ more)

-- a further line feed changes no schedule
abbrev pub LineFeedsPass : Type 0
LineFeedsPass = (before after digits : List ℕ) → schedule_of (before ++ after) ≡ Ok digits → schedule_of (before ++ LINE_FEED ∷ after) ≡ Ok digits

-- the first bad byte is named by its offset
abbrev pub FirstBadIsNamed : Type 0
FirstBadIsNamed = (before after : List ℕ) (byte : ℕ) → NoneIsBad before → is_bad byte ≡ true → schedule_of (before ++ byte ∷ after) ≡ Err (length before)

-- a text of line feeds alone is named by its length
abbrev pub NoDigitIsNamed : Type 0
NoDigitIsNamed = (n : ℕ) → schedule_of (replicate n LINE_FEED) ≡ Err n

-- ---- tags

abbrev pub NoLineFeed : List ℕ → Type 0
NoLineFeed [] = Unit {0}
NoLineFeed (byte ∷ more) = (byte ≡ LINE_FEED → ⊥) × NoLineFeed more

-- a line with its line feed, followed by the other lines with the other tags
abbrev pub LinesAreTagged : Type 0
LinesAreTagged =
    (tag : ℕ) (tags line more : List ℕ) → NoLineFeed line
    → tag_text (tag ∷ tags) (line ++ LINE_FEED ∷ more) ≡ (ZERO + tag) ∷ BLANK ∷ (line ++ LINE_FEED ∷ tag_text tags more)

-- a last line without a line feed
abbrev pub LastLineIsTagged : Type 0
LastLineIsTagged = (tag byte : ℕ) (tags more : List ℕ) → NoLineFeed (byte ∷ more) → tag_text (tag ∷ tags) (byte ∷ more) ≡ (ZERO + tag) ∷ BLANK ∷ byte ∷ more

-- without tags, and without text
abbrev pub NoTagChangesNothing : Type 0
NoTagChangesNothing = (text : List ℕ) → tag_text [] text ≡ text

abbrev pub NoLineIsTagged : Type 0
NoLineIsTagged = (tags : List ℕ) → tag_text tags [] ≡ []

-- ---- in digits

pub record InDigits : Type 0 where
  pub digits : (FIRST_DIGIT ≡ 48) × (LAST_DIGIT ≡ 51)
  pub feed : LINE_FEED ≡ 10
  pub tags : (ZERO ≡ 48) × (BLANK ≡ 32)
