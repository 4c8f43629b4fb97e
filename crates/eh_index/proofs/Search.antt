-- What is found among rows: the first refusal, and the entry that covers an address.
use Rattle.eh_index.specs.Laws.{IsEntry, EntriesStand, FirstWordsAreClear, RangesCover}
use Rattle.std.proofs.Common.{◌≡◌, ℕ, zero, suc, ◌+◌, ◌-◌, ◌%◌, ◌<◌, ◌≤◌, Bool, true, false, not, ◌&&◌, ◌||◌, cond, nat_eq, nat_le, nat_lt, List, [], ◌∷◌, ◌++◌, length, map, fold, Option, Some, None, refl, sym, ◌∙◌, ap, subst, append_assoc, append-nil, arith}
use Rattle.std.proofs.lemmas.Bool.Decides.{nat_tests}
use Rattle.std.proofs.lemmas.Bool.{false≢true}
use Rattle.std.proofs.lemmas.List.Elements.{All-nil, All-push}
use Rattle.std.proofs.lemmas.List.FromFn.{get_or-map-range_with_len, length-map-range_with_len}
use Rattle.std.specs.List.{range_with_len}
use Rattle.elf_image.specs.Image.{Image}
use Rattle.eh_codes.specs.declared.row.Entry.{Entry}
use Rattle.eh_codes.specs.declared.row.TheConstants.{ROW_SIZE, PREL31_LIMIT}
use Rattle.eh_index.specs.declared.fault.IndexFault.{IndexFault}
use Rattle.eh_index.specs.declared.fault.IndexFault.TheVariants.{Length, OutsideImage, Unsorted}
use Rattle.eh_index.specs.Rows.{entry_at, entry_count, entries_of, first_word}
use Rattle.eh_index.specs.Places.{is_code_bound, is_table_place}
use Rattle.eh_index.specs.Refusal.{first_of, entry_refusal, index_refusal, is_outside, is_unsorted}
use Rattle.eh_index.specs.Covering.{covering, IsCovering}

-- ---- the first refusal

first_step : (o : Option IndexFault) (more : List (Option IndexFault)) → o ≡ None → first_of (o ∷ more) ≡ first_of more
first_step None more e = refl
first_step (Some fault) more e = absurd cc

first_found : (o : Option IndexFault) (more : List (Option IndexFault)) (fault : IndexFault) → o ≡ Some fault → first_of (o ∷ more) ≡ Some fault
first_found None more fault e = absurd cc
first_found (Some x) more fault e = e

hit_from : (f : ℕ → Option IndexFault) (low n k : ℕ) (fault : IndexFault) → k < n → ((j : ℕ) → j < k → f (low + j) ≡ None) → f (low + k) ≡ Some fault
    → first_of (map f (range_with_len low n)) ≡ Some fault
hit_from f low zero k fault inside before hit = absurd (omega arith)
hit_from f low (suc n) zero fault inside before hit =
    let here : low + 0 ≡ low = omega arith in
    first_found (f low) (map f (range_with_len (low + 1) n)) fault (ap f (sym here) ∙ hit)
hit_from f low (suc n) (suc k) fault inside before hit =
    let here : low + 0 ≡ low = omega arith in
    first_step (f low) (map f (range_with_len (low + 1) n)) (ap f (sym here) ∙ before 0 (omega arith))
    ∙ hit_from f (low + 1) n k fault (omega arith) (λ j below. let e : low + 1 + j ≡ low + suc j = omega arith in ap f e ∙ before (suc j) (omega arith))
    (let e : low + 1 + k ≡ low + suc k = omega arith in ap f e ∙ hit)

none_from : (f : ℕ → Option IndexFault) (low n : ℕ) → ((j : ℕ) → j < n → f (low + j) ≡ None) → first_of (map f (range_with_len low n)) ≡ None
none_from f low zero before = refl
none_from f low (suc n) before =
    let here : low + 0 ≡ low = omega arith in
    first_step (f low) (map f (range_with_len (low + 1) n)) (ap f (sym here) ∙ before 0 (omega arith))
    ∙ none_from f (low + 1) n (λ j below. let e : low + 1 + j ≡ low + suc j = omega arith in ap f e ∙ before (suc j) (omega arith))

zero_left : (k : ℕ) → 0 + k ≡ k
zero_left k = omega arith

pub refused_at : (image : Image) (k : ℕ) (fault : IndexFault) → k < entry_count image → ((j : ℕ) → j < k → entry_refusal image j ≡ None) → entry_refusal image k ≡ Some fault
    → first_of (map (entry_refusal image) (range_with_len 0 (entry_count image))) ≡ Some fault
refused_at image k fault inside before hit =
    hit_from (entry_refusal image) 0 (entry_count image) k fault inside (λ j below. ap (entry_refusal image) (zero_left j) ∙ before j below) (ap (entry_refusal image) (zero_left k) ∙ hit)

pub none_refused : (image : Image) → ((j : ℕ) → j < entry_count image → entry_refusal image j ≡ None) → first_of (map (entry_refusal image) (range_with_len 0 (entry_count image))) ≡ None
none_refused image before = none_from (entry_refusal image) 0 (entry_count image) (λ j below. ap (entry_refusal image) (zero_left j) ∙ before j below)

-- ---- what is known of an index that is accepted

all_step : (o : Option IndexFault) (more : List (Option IndexFault)) → first_of (o ∷ more) ≡ None → (o ≡ None) × (first_of more ≡ None)
all_step None more h = (refl, h)
all_step (Some fault) more h = absurd cc

all_from : (f : ℕ → Option IndexFault) (low n : ℕ) → first_of (map f (range_with_len low n)) ≡ None → (j : ℕ) → j < n → f (low + j) ≡ None
all_from f low zero h j inside = absurd (omega arith)
all_from f low (suc n) h zero inside =
    let here : low + 0 ≡ low = omega arith in
    ap f here ∙ (all_step (f low) (map f (range_with_len (low + 1) n)) h).0
all_from f low (suc n) h (suc j) inside =
    let e : low + suc j ≡ low + 1 + j = omega arith in
    ap f e ∙ all_from f (low + 1) n (all_step (f low) (map f (range_with_len (low + 1) n)) h).1 j (omega arith)

rows_step : (image : Image) (b : Bool) → cond b (first_of (map (entry_refusal image) (range_with_len 0 (entry_count image)))) (Some Length) ≡ None
    → first_of (map (entry_refusal image) (range_with_len 0 (entry_count image))) ≡ None
rows_step image true h = h
rows_step image false h = absurd cc

pub each_accepted : (image : Image) → index_refusal image ≡ None → (k : ℕ) → k < entry_count image → entry_refusal image k ≡ None
unfolding index_refusal
each_accepted image h k inside =
    ap (entry_refusal image) (sym (zero_left k)) ∙ all_from (entry_refusal image) 0 (entry_count image) (rows_step image (nat_eq (length image.index_bytes % ROW_SIZE) 0) h) k inside

tests_step : (k : ℕ) (b c : Bool) → cond b (Some (OutsideImage k)) (cond c (Some (Unsorted k)) None) ≡ None → (b ≡ false) × (c ≡ false)
tests_step k true c h = absurd cc
tests_step k false true h = absurd cc
tests_step k false false h = (refl, refl)

pub tests_passed : (image : Image) → index_refusal image ≡ None → (k : ℕ) → k < entry_count image → (is_outside image k ≡ false) × (is_unsorted image k ≡ false)
unfolding entry_refusal
tests_passed image h k inside = tests_step k (is_outside image k) (is_unsorted image k) (each_accepted image h k inside)

not_below : (k x y : ℕ) → 0 < k → (nat_lt 0 k && nat_lt x y) ≡ false → y ≤ x
not_below k x y some h = by_test (nat_lt 0 k) (nat_lt x y) refl refl h
  where
    by_test : (b c : Bool) → nat_lt 0 k ≡ b → nat_lt x y ≡ c → (b && c) ≡ false → y ≤ x
    by_test true true e f h = absurd (false≢true (sym h))
    by_test true false e f h = grind (arith, nat_tests)
    by_test false c e f h = let no : nat_lt 0 k ≡ true = grind (arith, nat_tests) in absurd (false≢true (sym e ∙ no))

next_rises : (image : Image) → index_refusal image ≡ None → (k : ℕ) → suc k < entry_count image → (entry_at image k).start ≤ (entry_at image (suc k)).start
next_rises image h k inside =
    let e : suc k - 1 ≡ k = omega arith in
    let below = not_below (suc k) (entry_at image (suc k)).start (entry_at image (suc k - 1)).start (omega arith) (tests_passed image h (suc k) inside).1 in
    subst (λ (x : ℕ). (entry_at image x).start ≤ (entry_at image (suc k)).start) e below

rises_by : (image : Image) → index_refusal image ≡ None → (j d : ℕ) → j + d < entry_count image → (entry_at image j).start ≤ (entry_at image (j + d)).start
rises_by image h j zero inside = let e : j + 0 ≡ j = omega arith in rw e (omega arith)
rises_by image h j (suc d) inside =
    let e : j + suc d ≡ suc (j + d) = omega arith in
    let before = rises_by image h j d (omega arith) in
    let next = next_rises image h (j + d) (omega arith) in
    rw e (omega arith)

-- the starts don't fall
pub rises : (image : Image) → index_refusal image ≡ None → (j k : ℕ) → j ≤ k → k < entry_count image → (entry_at image j).start ≤ (entry_at image k).start
rises image h j k below inside =
    let e : j + (k - j) ≡ k = omega arith in
    subst (λ (x : ℕ). (entry_at image j).start ≤ (entry_at image x).start) e (rises_by image h j (k - j) (omega arith))

-- ---- the entry that covers an address

le_true : (x y : ℕ) → x ≤ y → nat_le x y ≡ true
le_true x y h = grind (arith, nat_tests)

le_false : (x y : ℕ) → y < x → nat_le x y ≡ false
le_false x y h = grind (arith, nat_tests)

abbrev pub pick : (ℕ → Entry) → ℕ → Option Entry → ℕ → Option Entry
pick f low o zero = o
pick f low o (suc m) = Some (f (low + m))

pick_more : (f : ℕ → Entry) (low m : ℕ) → pick f (low + 1) (Some (f low)) m ≡ Some (f (low + m))
pick_more f low zero = let e : low + 0 ≡ low = omega arith in ap (λ (x : ℕ). Some (f x)) (sym e)
pick_more f low (suc m) = let e : low + 1 + m ≡ low + suc m = omega arith in ap (λ (x : ℕ). Some (f x)) e

abbrev Latest : ℕ → Option Entry → List Entry → Option Entry
Latest site o entries = fold (λ found (e : Entry). cond (nat_le e.start site) (Some e) found) o entries

later_no : (site : ℕ) (o : Option Entry) (e : Entry) (more : List Entry) → site < e.start → Latest site o (e ∷ more) ≡ Latest site o more
later_no site o e more h = ap (λ (b : Bool). Latest site (cond b (Some e) o) more) (le_false e.start site h)

later_yes : (site : ℕ) (o : Option Entry) (e : Entry) (more : List Entry) → e.start ≤ site → Latest site o (e ∷ more) ≡ Latest site (Some e) more
later_yes site o e more h = ap (λ (b : Bool). Latest site (cond b (Some e) o) more) (le_true e.start site h)

covers_from : (f : ℕ → Entry) (site low n m : ℕ) (o : Option Entry) → m ≤ n → ((k : ℕ) → k < m → (f (low + k)).start ≤ site) → ((k : ℕ) → m ≤ k → k < n → site < (f (low + k)).start)
    → fold (λ found (e : Entry). cond (nat_le e.start site) (Some e) found) o (map f (range_with_len low n)) ≡ pick f low o m
covers_from f site low zero zero o fits below above = refl
covers_from f site low zero (suc m) o fits below above = absurd (omega arith)
covers_from f site low (suc n) zero o fits below above =
    let here : low + 0 ≡ low = omega arith in
    later_no site o (f low) (map f (range_with_len (low + 1) n)) (subst (λ (e : Entry). site < e.start) (ap f here) (above 0 (omega arith) (omega arith)))
    ∙ covers_from f site (low + 1) n zero o (omega arith) (λ k inside. absurd (omega arith))
    (λ k at inside. let e : low + suc k ≡ low + 1 + k = omega arith in subst (λ (x : ℕ). site < (f x).start) e (above (suc k) (omega arith) (omega arith)))
covers_from f site low (suc n) (suc m) o fits below above =
    let here : low + 0 ≡ low = omega arith in
    later_yes site o (f low) (map f (range_with_len (low + 1) n)) (subst (λ (e : Entry). e.start ≤ site) (ap f here) (below 0 (omega arith)))
    ∙ covers_from f site (low + 1) n m (Some (f low)) (omega arith)
    (λ k inside. let e : low + suc k ≡ low + 1 + k = omega arith in subst (λ (x : ℕ). (f x).start ≤ site) e (below (suc k) (omega arith)))
    (λ k at inside. let e : low + suc k ≡ low + 1 + k = omega arith in subst (λ (x : ℕ). site < (f x).start) e (above (suc k) (omega arith) (omega arith)))
    ∙ pick_more f low m

pub covering_is : (image : Image) (site m : ℕ) → m ≤ entry_count image → ((k : ℕ) → k < m → (entry_at image k).start ≤ site) → ((k : ℕ) → m ≤ k → k < entry_count image → site < (entry_at image k).start)
    → covering (entries_of image) site ≡ pick (entry_at image) 0 None m
unfolding entries_of
covering_is image site m fits below above =
    covers_from (entry_at image) site 0 (entry_count image) m None fits
    (λ k inside. subst (λ (x : ℕ). (entry_at image x).start ≤ site) (sym (zero_left k)) (below k inside))
    (λ k at inside. subst (λ (x : ℕ). site < (entry_at image x).start) (sym (zero_left k)) (above k at inside))

pick_none : (f : ℕ → Entry) (m : ℕ) → m ≡ 0 → pick f 0 None m ≡ None
pick_none f zero e = refl
pick_none f (suc m) e = absurd (omega arith)

pick_some : (f : ℕ → Entry) (m : ℕ) → (m ≡ 0 → ⊥) → pick f 0 None m ≡ Some (f (m - 1))
pick_some f zero e = absurd (e refl)
pick_some f (suc m) e = let same : 0 + m ≡ suc m - 1 = omega arith in ap (λ (x : ℕ). Some (f x)) same

pub covering_none : (image : Image) (site m : ℕ) → m ≡ 0 → m ≤ entry_count image → ((k : ℕ) → k < m → (entry_at image k).start ≤ site)
    → ((k : ℕ) → m ≤ k → k < entry_count image → site < (entry_at image k).start) → None ≡ covering (entries_of image) site
covering_none image site m e fits below above = sym (covering_is image site m fits below above ∙ pick_none (entry_at image) m e)

pub covering_some : (image : Image) (site m : ℕ) → (m ≡ 0 → ⊥) → m ≤ entry_count image → ((k : ℕ) → k < m → (entry_at image k).start ≤ site)
    → ((k : ℕ) → m ≤ k → k < entry_count image → site < (entry_at image k).start) → Some (entry_at image (m - 1)) ≡ covering (entries_of image) site
covering_some image site m e fits below above = sym (covering_is image site m fits below above ∙ pick_some (entry_at image) m e)

-- ---- the last one whose start is at most the address, in any list

covers_step : (seen : List Entry) (site : ℕ) (e : Entry) (o : Option Entry) (b : Bool) → nat_le e.start site ≡ b → IsCovering seen site o → IsCovering (seen ++ e ∷ []) site (cond b (Some e) o)
covers_step seen site e o true h i = record {
  before = seen;
  after = [];
  place = refl;
  begins = let at : e.start ≤ site = grind (arith, nat_tests) in at;
  later = All-nil (λ (f : Entry). site < f.start);
}
covers_step seen site e None false h i = let above : site < e.start = grind (arith, nat_tests) in All-push (λ (f : Entry). site < f.start) seen e i above
covers_step seen site e (Some x) false h i =
    let above : site < e.start = grind (arith, nat_tests) in
    record {
      before = i.before;
      after = i.after ++ e ∷ [];
      place = ap (λ (xs : List Entry). xs ++ e ∷ []) i.place ∙ append_assoc i.before (x ∷ i.after) (e ∷ []);
      begins = i.begins;
      later = All-push (λ (f : Entry). site < f.start) i.after e i.later above;
    }

covers_all : (seen rest : List Entry) (site : ℕ) (o : Option Entry) → IsCovering seen site o → IsCovering (seen ++ rest) site (fold (λ found (e : Entry). cond (nat_le e.start site) (Some e) found) o rest)
covers_all seen [] site o h = subst (λ (xs : List Entry). IsCovering xs site o) (sym (append-nil seen)) h
covers_all seen (e ∷ rest) site o h =
    subst (λ (xs : List Entry). IsCovering xs site (fold (λ found (e : Entry). cond (nat_le e.start site) (Some e) found) (cond (nat_le e.start site) (Some e) o) rest)) (append_assoc seen (e ∷ []) rest)
    (covers_all (seen ++ e ∷ []) rest site (cond (nat_le e.start site) (Some e) o) (covers_step seen site e o (nat_le e.start site) refl h))

pub is_covering : (entries : List Entry) (site : ℕ) → IsCovering entries site (covering entries site)
is_covering entries site = covers_all [] entries site None (All-nil (λ (f : Entry). site < f.start))

pub ruleset refusals = (refused_at, none_refused)

pub entries_len : (image : Image) → length (entries_of image) ≡ entry_count image
unfolding entries_of
entries_len image = length-map-range_with_len (entry_at image) 0 (entry_count image)

-- ---- what an index that is read tells

neither : (a b c : Bool) → ((a || not b) || not c) ≡ false → (b ≡ true) × (c ≡ true)
neither true b c h = absurd cc
neither false true true h = (refl, refl)
neither false true false h = absurd cc
neither false false c h = absurd cc

pub entry_stands : (image : Image) → index_refusal image ≡ None → (k : ℕ) → k < entry_count image → IsEntry image (entry_at image k)
entry_stands image h k inside =
    let p =
    neither (nat_le PREL31_LIMIT (first_word image k)) (is_code_bound image.segments (entry_at image k).start) (is_table_place image.segments (entry_at image k).body) (tests_passed image h k inside).0 in
    record { code = p.0; table = p.1 }

first_clear : (a b c : Bool) → ((a || not b) || not c) ≡ false → a ≡ false
first_clear true b c h = absurd cc
first_clear false b c h = refl

below_limit : (word : ℕ) → nat_le PREL31_LIMIT word ≡ false → word < PREL31_LIMIT
below_limit word h = grind (arith, nat_tests)

pub first_words_clear : FirstWordsAreClear
first_words_clear image k h inside =
    below_limit (first_word image k)
    (first_clear (nat_le PREL31_LIMIT (first_word image k)) (is_code_bound image.segments (entry_at image k).start) (is_table_place image.segments (entry_at image k).body) (tests_passed image h k inside).0)

pub entries_stand : EntriesStand
unfolding entries_of
entries_stand image h k d inside =
    let fits : k < entry_count image = omega (arith, length-map-range_with_len (entry_at image) 0 (entry_count image)) in
    rw (get_or-map-range_with_len (entry_at image) 0 (entry_count image) k k d fits (zero_left k)) (entry_stands image h k fits)

pub ranges_cover : RangesCover
ranges_cover image site k h inside begins ends =
    covering_is image site (suc k) (omega arith)
    (λ j below. let up = rises image h j k (omega arith) inside in omega arith)
    (λ j at in_rows. let e : k + 1 < entry_count image = omega arith in let up = rises image h (k + 1) j (omega arith) in_rows in omega (arith, ends e))
    ∙ ap (λ (x : ℕ). Some (entry_at image x)) (zero_left k)
