-- Forms whose words rise: those of one word stand together, and where they begin is found by halving.
use Rattle.std.proofs.Common.{◌≡◌, ℕ, suc, zero, ◌+◌, ◌<◌, ◌≤◌, ◌==◌, nat_lt, not, min, ◌∙◌, Bool, true, false, List, [], ◌∷◌, ◌++◌, length, drop, map, get_or, Option, Result, Ok, Err, refl, ap, sym, arith}
use Rattle.std.specs.List.{prefix_len, list_all}
use Rattle.std.proofs.lemmas.Bool.Decides.{nat_tests}
use Rattle.std.specs.List.Sorted.{IsPartitionedBy, IsPartitionPoint}
use Rattle.std.proofs.lemmas.Bool.{cond_both}
use Rattle.std.proofs.lemmas.List.{drop_more, drop_all, length-drop}
use Rattle.std.proofs.lemmas.List.Sums.{prefix_len_is}
use Rattle.std.specs.Cmp.Lexicographic.{nat_list_cmp_total, texts_ties, same_text}
use Rattle.asm_read.specs.declared.line.LineEnd.{LineEnd}
use Rattle.asm_read.specs.declared.choice.Statement.{Statement}
use Rattle.asm_read.specs.Operands.{same}
use Rattle.asm_read.specs.Fits.{no_operands, read_pieces}
use Rattle.asm_read.specs.declared.table.Group.{Group}
use Rattle.asm_read.specs.declared.table.Group.TheVariants as group
use Rattle.asm_read.specs.Patterns.{pieces_of}
use Rattle.asm_read.specs.Forms.{CodeRow, row_of, TableRow, group_of, forms_in, directives, a_to_b, c_to_l, m_to_z, rows}
use Rattle.asm_read.specs.Plans.{is_passed}
use Rattle.asm_read.specs.Search.{is_before, rises, form_attempt, try_form, or_else_form, first_fit}

-- ---- the order of words

-- before a word is before each word that isn't before that
before_further : (w v u : List ℕ) → is_before w v ≡ true → is_before u v ≡ false → is_before w u ≡ true
before_further w v u h i =
    let o = nat_list_cmp_total in
    grind (arith, o.trans w v u, o.congr u v w, o.antisymm v u, o.antisymm w u, o.antisymm v w)

-- byte by byte: two that are the same, two that differ, and the end of one word
module _ (v w : List ℕ) (i : ℕ) where
  pub before_more : i < length v → i < length w → get_or v i 0 ≡ get_or w i 0 → is_before (drop (i + 1) v) (drop (i + 1) w) ≡ is_before (drop i v) (drop i w)
  before_more m n e = rw (drop_more v i 0 m, drop_more w i 0 n, e) (grind (arith, nat_tests))

  pub before_here : i < length v → i < length w → (get_or v i 0 == get_or w i 0) ≡ false → nat_lt (get_or v i 0) (get_or w i 0) ≡ is_before (drop i v) (drop i w)
  before_here m n e = rw (drop_more v i 0 m, drop_more w i 0 n) (grind (arith, nat_tests))

  pub same_more : i < length v → i < length w → get_or v i 0 ≡ get_or w i 0 → same (drop (i + 1) v) (drop (i + 1) w) ≡ same (drop i v) (drop i w)
  same_more m n e = rw (drop_more v i 0 m, drop_more w i 0 n, e) (grind (arith, nat_tests))

  pub same_here : i < length v → i < length w → (get_or v i 0 == get_or w i 0) ≡ false → false ≡ same (drop i v) (drop i w)
  same_here m n e = rw (drop_more v i 0 m, drop_more w i 0 n) (grind (arith, nat_tests))

  pub same_end : length v ≤ i → length w ≤ i → true ≡ same (drop i v) (drop i w)
  same_end m n = rw (drop_all i v m, drop_all i w n) refl

pub same_lengths : (v w : List ℕ) → (length v == length w) ≡ false → false ≡ same v w
same_lengths [] [] h = sym h
same_lengths [] (b ∷ w) h = refl
same_lengths (a ∷ v) [] h = refl
same_lengths (a ∷ v) (b ∷ w) h = grind (arith, nat_tests, same_lengths v w)

ended : (v w : List ℕ) → nat_lt 0 (length v) ≡ false → nat_lt 0 (length w) ≡ is_before v w
ended [] [] h = refl
ended [] (b ∷ w) h = grind (arith, nat_tests)
ended (a ∷ v) w h = grind arith

over : (v w : List ℕ) → nat_lt 0 (length w) ≡ false → false ≡ is_before v w
over [] [] h = refl
over (a ∷ v) [] h = refl
over v (b ∷ w) h = grind arith

pub before_end : (v w : List ℕ) (i : ℕ) → i ≡ min (length v) (length w) → nat_lt (length v) (length w) ≡ is_before (drop i v) (drop i w)
before_end v w i h = grind (arith, nat_tests, ended (drop i v) (drop i w), over (drop i v) (drop i w), length-drop i v, length-drop i w)

-- ---- forms whose words rise

abbrev pub words_before : List ℕ → List CodeRow → ℕ
words_before w rows = prefix_len (λ (r : CodeRow). is_before (row_of r).word w) rows

-- after the forms of words before a word none is before it
pub rest_rises : (rs : List CodeRow) (v w : List ℕ) → rises v (map row_of rs) ≡ true → rises w (map row_of (drop (words_before w rs) rs)) ≡ true
rest_rises [] v w h = refl
rest_rises (r ∷ rs) v w h =
    cond_both (is_before (row_of r).word w) (1 + words_before w rs) 0 (λ k. rises w (map row_of (drop k (r ∷ rs))) ≡ true)
    (λ e. grind (arith, rest_rises rs (row_of r).word w)) (λ e. grind arith)

-- halving finds where they begin
pub parted : (rs : List CodeRow) (v w : List ℕ) → rises v (map row_of rs) ≡ true → IsPartitionedBy (λ (r : CodeRow). is_before (row_of r).word w) rs
parted (r ∷ rs) v w h zero zero d le lt e = e
parted (r ∷ s ∷ rs) v w h zero (suc j) d le lt e =
    let more : is_before (row_of s).word w ≡ true = parted (s ∷ rs) (row_of r).word w (grind arith) zero j d (omega arith) (omega arith) e in
    grind (arith, before_further (row_of s).word w (row_of r).word more)
parted (r ∷ rs) v w h (suc i) (suc j) d le lt e = parted rs (row_of r).word w (grind arith) i j d (omega arith) (omega arith) e
parted _ v w h i j d le lt e = absurd (omega arith)

-- the place where a test begins to fail is the length of the front that passes
pub partition_is : {X : Type 0} (p : X → Bool) (xs : List X) (i : ℕ) → i ≤ length xs → IsPartitionPoint (λ y. p y ≡ true) (λ y. p y ≡ false) xs i → i ≡ prefix_len p xs
partition_is p [] i read_pieces h = omega arith
partition_is p (x ∷ xs) i read_pieces h = sym (prefix_len_is p (x ∷ xs) i x read_pieces (λ k. h.0 k x (omega arith)) (h.1 i x (omega arith)))

-- after a form of the word none is before it
pub row_rises : (rs : List CodeRow) (i : ℕ) (d : CodeRow) (w : List ℕ) → i < length rs → same (row_of (get_or rs i d)).word w ≡ true → rises w (map row_of (drop i rs)) ≡ true → rises w (map row_of (drop (i + 1) rs)) ≡ true
row_rises rs i d w h e r = grind (arith, drop_more rs i d, same_text (row_of (get_or rs i d)).word w)

-- the words of each group rise, and are of that group
pub group_rises : (g : Group) → rises [] (forms_in g) ≡ true
unfolding directives a_to_b c_to_l m_to_z
group_rises group.Directives = refl
group_rises _ = refl

abbrev is_group : Group → Group → Bool
is_group group.Directives group.Directives = true
is_group group.AToB group.AToB = true
is_group group.CToL group.CToL = true
is_group group.MToZ group.MToZ = true
is_group g h = false

group_holds : (g : Group) → list_all (λ f. is_group g (group_of f.word)) (forms_in g) ≡ true
unfolding directives a_to_b c_to_l m_to_z
group_holds group.Directives = refl
group_holds _ = refl

-- no word of a group is passed over
passed_holds : (g : Group) → list_all (λ f. not (is_passed f.word)) (forms_in g) ≡ true
unfolding directives a_to_b c_to_l m_to_z
passed_holds group.Directives = refl
passed_holds _ = refl

module _ (w line : List ℕ) (from : ℕ) where
  -- a form of another word is passed over
  other_form : (f : TableRow) (fs : List TableRow) (best : Option LineEnd) → same f.word w ≡ false → first_fit (f ∷ fs) w line from best ≡ first_fit fs w line from best
  unfolding first_fit try_form
  other_form f fs best h = rw h

  -- after a word there is none of it
  none_after : (fs : List TableRow) (v : List ℕ) (best : Option LineEnd) → is_before w v ≡ true → rises v fs ≡ true → first_fit fs w line from best ≡ Err best
  unfolding first_fit
  none_after [] v best h r = refl
  none_after (f ∷ fs) v best h r =
      let next = before_further w v f.word h in
      grind (arith, next, texts_ties f.word w, nat_list_cmp_total.antisymm f.word w, other_form f fs best, none_after fs f.word best)

  -- forms of words before a word are passed over
  pub skipped : (rs : List CodeRow) (best : Option LineEnd) → first_fit (map row_of (drop (words_before w rs) rs)) w line from best ≡ first_fit (map row_of rs) w line from best
  skipped [] best = refl
  skipped (r ∷ rs) best =
      cond_both (is_before (row_of r).word w) (1 + words_before w rs) 0 (λ k. first_fit (map row_of (drop k (r ∷ rs))) w line from best ≡ first_fit (map row_of (r ∷ rs)) w line from best)
      (λ e. grind (arith, skipped rs best, other_form (row_of r) (map row_of rs) best, texts_ties (row_of r).word w)) (λ e. refl)

  -- ---- one row after another

  pub row_hit : (rs : List CodeRow) (i : ℕ) (d : CodeRow) (best : Option LineEnd) (s : Statement) → i < length rs → same (row_of (get_or rs i d)).word w ≡ true → form_attempt (row_of (get_or rs i d)).form.makes best (read_pieces (pieces_of (row_of (get_or rs i d)).form.operands) line (no_operands from)) ≡ Ok s → first_fit (map row_of (drop i rs)) w line from best ≡ Ok s
  unfolding first_fit try_form
  row_hit rs i d best s h e t = rw (drop_more rs i d h, e, t)

  pub row_miss : (rs : List CodeRow) (i : ℕ) (d : CodeRow) (best next : Option LineEnd) → i < length rs → same (row_of (get_or rs i d)).word w ≡ true → form_attempt (row_of (get_or rs i d)).form.makes best (read_pieces (pieces_of (row_of (get_or rs i d)).form.operands) line (no_operands from)) ≡ Err next → first_fit (map row_of (drop i rs)) w line from best ≡ first_fit (map row_of (drop (i + 1) rs)) w line from next
  unfolding first_fit try_form
  row_miss rs i d best next h e t = rw (drop_more rs i d h, e, t)

  -- a form of another word, and all after it
  pub row_other : (rs : List CodeRow) (i : ℕ) (d : CodeRow) (best : Option LineEnd) → i < length rs → rises w (map row_of (drop i rs)) ≡ true → same (row_of (get_or rs i d)).word w ≡ false → first_fit (map row_of (drop i rs)) w line from best ≡ Err best
  row_other rs i d best h r e =
      let f = row_of (get_or rs i d) in
      let more = map row_of (drop (i + 1) rs) in
      grind (arith, drop_more rs i d, texts_ties f.word w, nat_list_cmp_total.antisymm w f.word, other_form f more best, none_after more f.word best)

  -- ---- the groups of the table

  -- forms of which none begins with a word
  none_of : (fs : List TableRow) (p : List ℕ → Bool) (best : Option LineEnd) → list_all (λ f. p f.word) fs ≡ true → p w ≡ false → first_fit fs w line from best ≡ Err best
  unfolding first_fit
  none_of [] p best h n = refl
  none_of (f ∷ fs) p best h n = grind (arith, same_text f.word w, other_form f fs best, none_of fs p best)

  -- forms in two parts
  first_fit_append : (fs gs : List TableRow) (best : Option LineEnd) → first_fit (fs ++ gs) w line from best ≡ or_else_form (first_fit fs w line from best) (λ b. first_fit gs w line from b)
  unfolding first_fit
  first_fit_append [] gs best = refl
  first_fit_append (f ∷ fs) gs best = grind (arith, first_fit_append fs gs)

  kept : (r : Result Statement (Option LineEnd)) → or_else_form r (λ b. Err b) ≡ r
  kept (Ok s) = refl
  kept (Err b) = refl

  grouped : (g : Group) (best : Option LineEnd) → ((h : Group) → is_group h g ≡ false → (b : Option LineEnd) → first_fit (forms_in h) w line from b ≡ Err b) → first_fit (forms_in g) w line from best ≡ first_fit rows w line from best
  unfolding rows
  grouped group.Directives best none =
      simp (first_fit_append, none group.AToB refl, none group.CToL refl, none group.MToZ refl, kept)
  grouped group.AToB best none =
      simp (first_fit_append, none group.Directives refl, none group.CToL refl, none group.MToZ refl, kept)
  grouped group.CToL best none =
      simp (first_fit_append, none group.Directives refl, none group.AToB refl, none group.MToZ refl, kept)
  grouped group.MToZ best none =
      simp (first_fit_append, none group.Directives refl, none group.AToB refl, none group.CToL refl)

  -- a word's group has all its forms
  pub word_grouped : (best : Option LineEnd) → first_fit (forms_in (group_of w)) w line from best ≡ first_fit rows w line from best
  word_grouped best = grouped (group_of w) best (λ h n b. none_of (forms_in h) (λ v. is_group h (group_of v)) b (group_holds h) n)

  -- a word that is passed over has none
  pub passed_over : (best : Option LineEnd) → is_passed w ≡ true → first_fit rows w line from best ≡ Err best
  passed_over best h = sym (word_grouped best) ∙ none_of (forms_in (group_of w)) (λ v. not (is_passed v)) best (passed_holds (group_of w)) (ap not h)
