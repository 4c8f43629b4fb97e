-- Tagged lines, a text at a time.
use Rattle.std.proofs.Common.{◌≡◌, ℕ, ◌+◌, Bool, true, false, ◌==◌, cond, List, [], ◌∷◌, ◌++◌, refl, ap, ◌∙◌, append_assoc}
use Rattle.std.proofs.lemmas.Bool.{ne_eqb}
use Rattle.std.proofs.lemmas.List.{append-nil}
use Rattle.thread_schedule.specs.Laws.{NoLineFeed, LinesAreTagged, LastLineIsTagged, NoTagChangesNothing, NoLineIsTagged}
use Rattle.thread_schedule.specs.Tags.{prefix_first_line, lines_of, join_lines, with_tags, tag_text}
use Rattle.thread_schedule.specs.declared.schedule.TheConstants.{LINE_FEED}
use Rattle.thread_schedule.specs.declared.tags.TheConstants.{BLANK, ZERO}

-- a line ends at its line feed
first_line : (line more : List ℕ) → NoLineFeed line → lines_of (line ++ LINE_FEED ∷ more) ≡ (line ++ LINE_FEED ∷ []) ∷ lines_of more
first_line [] more n = refl
first_line (b ∷ line) more n = rw (ne_eqb b LINE_FEED n.0, first_line line more n.1) refl

-- or with the text
last_line : (b : ℕ) (line : List ℕ) → NoLineFeed (b ∷ line) → lines_of (b ∷ line) ≡ (b ∷ line) ∷ []
last_line b [] n = rw (ne_eqb b LINE_FEED n.0) refl
last_line b (c ∷ line) n = rw (ne_eqb b LINE_FEED n.0) (rw (last_line c line n.1) refl)

pub law_of_lines : LinesAreTagged
unfolding tag_text
law_of_lines tag tags line more n =
    rw (first_line line more n) (ap (λ xs. (ZERO + tag) ∷ BLANK ∷ xs) (append_assoc line (LINE_FEED ∷ []) (join_lines (with_tags tags (lines_of more)))))

pub law_of_last : LastLineIsTagged
unfolding tag_text
law_of_last tag b tags more n = rw (last_line b more n) (ap (λ xs. (ZERO + tag) ∷ BLANK ∷ b ∷ xs) (nothing tags))
  where
    nothing : (tags : List ℕ) → more ++ join_lines (with_tags tags []) ≡ more
    nothing [] = append-nil more
    nothing (t ∷ ts) = append-nil more

join_begun : (b : ℕ) (lines : List (List ℕ)) → join_lines (prefix_first_line b lines) ≡ b ∷ join_lines lines
join_begun b [] = refl
join_begun b (line ∷ more) = refl

-- the lines of a text are all of it
joins : (text : List ℕ) → join_lines (lines_of text) ≡ text
joins [] = refl
joins (b ∷ more) = go (b == LINE_FEED) (joins more)
  where
    go : (t : Bool) → join_lines (lines_of more) ≡ more → join_lines (cond t ((b ∷ []) ∷ lines_of more) (prefix_first_line b (lines_of more))) ≡ b ∷ more
    go true e = ap (λ xs. b ∷ xs) e
    go false e = join_begun b (lines_of more) ∙ ap (λ xs. b ∷ xs) e

pub law_of_untagged : NoTagChangesNothing
unfolding tag_text
law_of_untagged text = ap join_lines (plain (lines_of text)) ∙ joins text
  where
    plain : (lines : List (List ℕ)) → with_tags [] lines ≡ lines
    plain [] = refl
    plain (line ∷ more) = refl

pub law_of_empty : NoLineIsTagged
unfolding tag_text
law_of_empty [] = refl
law_of_empty (t ∷ ts) = refl
