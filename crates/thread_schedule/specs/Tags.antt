-- The lines of a text with tags before them (docs/guide/walks-and-threads.md).
use Rattle.std.specs.Prelude.{ℕ, ◌+◌, ◌==◌, Bool, true, false, List, [], ◌∷◌, ◌++◌, if◌then◌else◌}
use Rattle.thread_schedule.specs.declared.schedule.TheConstants.{LINE_FEED}
use Rattle.thread_schedule.specs.declared.tags.TheConstants.{BLANK, ZERO}

-- a byte added to the front of the first of these lines
abbrev pub prefix_first_line : ℕ → List (List ℕ) → List (List ℕ)
prefix_first_line byte [] = (byte ∷ []) ∷ []
prefix_first_line byte (line ∷ more) = (byte ∷ line) ∷ more

-- the lines of a text, each with its line feed
abbrev pub lines_of : List ℕ → List (List ℕ)
lines_of [] = []
lines_of (byte ∷ more) = if byte == LINE_FEED then (byte ∷ []) ∷ lines_of more else prefix_first_line byte (lines_of more)

abbrev pub join_lines : List (List ℕ) → List ℕ
join_lines [] = []
join_lines (line ∷ more) = line ++ join_lines more

-- each line with its tag before it, until lines or tags run out
abbrev pub with_tags : List ℕ → List (List ℕ) → List (List ℕ)
with_tags tags [] = []
with_tags [] (line ∷ more) = line ∷ more
with_tags (tag ∷ tags) (line ∷ more) = ((ZERO + tag) ∷ BLANK ∷ line) ∷ with_tags tags more

unfoldable pub tag_text : List ℕ → List ℕ → List ℕ
tag_text tags text = join_lines (with_tags tags (lines_of text))

-- ---- one line after the other

-- what is written before a byte: the next tag if a line begins with it
abbrev pub tag_before : Bool → List ℕ → List ℕ
tag_before false tags = []
tag_before true [] = []
tag_before true (tag ∷ more) = (ZERO + tag) ∷ BLANK ∷ []

-- and the remaining tags
abbrev pub tags_left : Bool → List ℕ → List ℕ
tags_left false tags = tags
tags_left true [] = []
tags_left true (tag ∷ more) = more
