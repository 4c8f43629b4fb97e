-- A text with tags, from a place on.
use Rattle.std.proofs.Common.{◌≡◌, ℕ, ◌+◌, ◌<◌, ◌≤◌, Bool, true, false, ◌==◌, cond, List, [], ◌∷◌, ◌++◌, length, get_or, drop, refl, sym, ap, ◌∙◌, append_assoc}
use Rattle.std.proofs.lemmas.List.{at_drop_more, drop_all, append-nil}
use Rattle.thread_schedule.specs.Tags.{prefix_first_line, lines_of, join_lines, with_tags, tag_text, tag_before, tags_left}
use Rattle.thread_schedule.specs.declared.schedule.TheConstants.{LINE_FEED}
use Rattle.thread_schedule.specs.declared.tags.TheConstants.{BLANK, ZERO}

-- the first of these lines has its tag, or none was there for it; the others come with theirs
abbrev within : List ℕ → List (List ℕ) → List ℕ
within tags [] = []
within tags (line ∷ more) = line ++ join_lines (with_tags tags more)

-- what comes from a place on: where a line begins there it has its tag still to come
abbrev pub coming : Bool → List ℕ → List ℕ → List ℕ
coming true tags text = join_lines (with_tags tags (lines_of text))
coming false tags text = within tags (lines_of text)

no_tags : (lines : List (List ℕ)) → join_lines (with_tags [] lines) ≡ within [] lines
no_tags [] = refl
no_tags (line ∷ more) = rw (plain more) refl
  where
    plain : (more : List (List ℕ)) → with_tags [] more ≡ more
    plain [] = refl
    plain (x ∷ xs) = refl

-- a byte within a line
within_byte : (b : ℕ) (tags : List ℕ) (lines : List (List ℕ)) → within tags (prefix_first_line b lines) ≡ b ∷ within tags lines
within_byte b tags [] = refl
within_byte b tags (line ∷ more) = refl

-- the byte after a tag, or where there is none
coming_byte : (b : ℕ) (tags more : List ℕ) → coming false tags (b ∷ more) ≡ b ∷ coming (b == LINE_FEED) tags more
coming_byte b tags more = go (b == LINE_FEED)
  where
    go : (t : Bool) → within tags (cond t ((b ∷ []) ∷ lines_of more) (prefix_first_line b (lines_of more))) ≡ b ∷ coming t tags more
    go true = refl
    go false = within_byte b tags (lines_of more)

-- a line begins with its tag
coming_tag : (tag b : ℕ) (tags more : List ℕ) → coming true (tag ∷ tags) (b ∷ more) ≡ (ZERO + tag) ∷ BLANK ∷ coming false tags (b ∷ more)
coming_tag tag b tags more = go (b == LINE_FEED) (lines_of more)
  where
    go : (t : Bool) (lines : List (List ℕ))
        → join_lines (with_tags (tag ∷ tags) (cond t ((b ∷ []) ∷ lines) (prefix_first_line b lines))) ≡ (ZERO + tag) ∷ BLANK ∷ within tags (cond t ((b ∷ []) ∷ lines) (prefix_first_line b lines))
    go true lines = refl
    go false [] = refl
    go false (line ∷ rest) = refl

begins : (starts : Bool) (b : ℕ) (tags more : List ℕ) → coming starts tags (b ∷ more) ≡ tag_before starts tags ++ coming false (tags_left starts tags) (b ∷ more)
begins false b tags more = refl
begins true b [] more = no_tags (lines_of (b ∷ more))
begins true b (tag ∷ tags) more = coming_tag tag b tags more

-- ---- the text from place i on, with the tags from place n on

pub record Tags (tags text out : List ℕ) (starts : Bool) (i n : ℕ) : Type 0 where
  pub is : tag_text tags text ≡ out ++ coming starts (drop n tags) (drop i text)

pub tags_none : (tags text : List ℕ) → Tags tags text [] true 0 0
unfolding tag_text
tags_none tags text = record { is = refl }

pub tags_byte : (tags text out out' : List ℕ) (starts : Bool) (i n n' b : ℕ) → i < length text → get_or text i 0 ≡ b
    → out' ≡ out ++ tag_before starts (drop n tags) → drop n' tags ≡ tags_left starts (drop n tags)
    → Tags tags text out starts i n → Tags tags text (out' ++ b ∷ []) (b == LINE_FEED) (i + 1) n'
tags_byte tags text out out' starts i n n' b h e o l t = record { is = t.is ∙ step }
  where
    rest : List ℕ
    rest = drop (i + 1) text

    here : coming starts (drop n tags) (drop i text) ≡ tag_before starts (drop n tags) ++ (b ∷ coming (b == LINE_FEED) (drop n' tags) rest)
    here =
        let q : coming false (tags_left starts (drop n tags)) (b ∷ rest) ≡ b ∷ coming (b == LINE_FEED) (drop n' tags) rest = rw (← l) (coming_byte b (drop n' tags) rest) in
        at_drop_more (coming starts (drop n tags)) text i 0 h ∙ rw e (begins starts b (drop n tags) rest) ∙ ap (λ (xs : List ℕ). tag_before starts (drop n tags) ++ xs) q

    step : out ++ coming starts (drop n tags) (drop i text) ≡ (out' ++ b ∷ []) ++ coming (b == LINE_FEED) (drop n' tags) rest
    step =
        ap (λ (xs : List ℕ). out ++ xs) here ∙ sym (append_assoc out (tag_before starts (drop n tags)) (b ∷ coming (b == LINE_FEED) (drop n' tags) rest))
        ∙ rw (← o) (sym (append_assoc out' (b ∷ []) (coming (b == LINE_FEED) (drop n' tags) rest)))

nothing_comes : (starts : Bool) (tags : List ℕ) → coming starts tags [] ≡ []
nothing_comes true [] = refl
nothing_comes true (tag ∷ tags) = refl
nothing_comes false tags = refl

pub tags_all : (tags text out : List ℕ) (starts : Bool) (i n : ℕ) → length text ≤ i → Tags tags text out starts i n → out ≡ tag_text tags text
tags_all tags text out starts i n h t = sym (t.is ∙ rw (drop_all i text h, nothing_comes starts (drop n tags)) (append-nil out))

-- ---- one tag

pub tag_at : (tags : List ℕ) (n : ℕ) → n < length tags → tag_before true (drop n tags) ≡ (ZERO + get_or tags n 0) ∷ BLANK ∷ []
tag_at tags n h = at_drop_more (tag_before true) tags n 0 h

pub tag_left : (tags : List ℕ) (n : ℕ) → n < length tags → drop (n + 1) tags ≡ tags_left true (drop n tags)
tag_left tags n h = sym (at_drop_more (tags_left true) tags n 0 h)

pub no_tag : (tags : List ℕ) (n : ℕ) → length tags ≤ n → tag_before true (drop n tags) ≡ []
no_tag tags n h = rw (drop_all n tags h) refl

pub none_left : (tags : List ℕ) (n : ℕ) → length tags ≤ n → drop n tags ≡ tags_left true (drop n tags)
none_left tags n h = rw (drop_all n tags h) refl
