-- Each row is that of a function of the source, and lies in the object.
use Rattle.std.proofs.Common.{◌≡◌, ℕ, zero, suc, ◌+◌, ◌/◌, ◌%◌, ◌^◌, ◌≤◌, ◌<◌, ◌==◌, ◌&&◌, ◌||◌, ◌⊎◌, inl, inr, not, Bool, true, false, cond, List, [], ◌∷◌, ◌++◌, length, drop, flat_map, All, Option, Some, None, Result, Ok, Err, refl, sym, ap, ◌∙◌, arith, append_assoc, append-nil, length-append, length-drop, get_or, subst}
use Rattle.std.specs.Prelude.{slice_get}
use Rattle.std.specs.List.{list_any, cons_option}
use Rattle.std.proofs.lemmas.Bool.{true≢false, or_parts, eqb-true}
use Rattle.std.proofs.lemmas.Bool.Decides.{nat_tests}
use Rattle.std.proofs.lemmas.Grind.{flat_map-append}
use Rattle.std.proofs.lemmas.List.Elements.{All-nil, All-cons, All-head, All-tail, All-from_get_or}
use Rattle.std.proofs.lemmas.Option.{get_or_from_slice_get, slice_get_within}
use Rattle.asm_statements.specs.declared.statement.Stmt.{Stmt}
use Rattle.asm_statements.specs.declared.statement.StmtKind.{StmtKind}
use Rattle.asm_statements.specs.declared.statement.StmtKind.TheVariants as statement
use Rattle.eh_codes.specs.declared.words.TheConstants.{COMPACT_MARK, COMPACT_TOP}
use Rattle.asm_unwind.specs.declared.directive.UnwindDirective.{UnwindDirective}
use Rattle.asm_unwind.specs.declared.directive.UnwindDirective.TheVariants as unwind
use Rattle.asm_unwind.specs.declared.directive.UnwindFault.{UnwindFault}
use Rattle.asm_unwind.specs.declared.directive.UnwindFault.TheVariants.{OutsideFunction}
use Rattle.asm_unwind.specs.declared.entry.EntryWords.{EntryWords}
use Rattle.asm_unwind.specs.declared.entry.EntryWords.TheVariants as entry
use Rattle.asm_unwind.specs.declared.seen.DirectiveState.{DirectiveState}
use Rattle.asm_unwind.specs.Refusals.{has_register, directive_state_of, refusal_of, HasNarrowList}
use Rattle.asm_unwind.specs.Entries.{entry_of_code, entry_words_of}
use Rattle.asm_unwind.specs.Codes.{bytecode_of}
use Rattle.asm_unwind.specs.EntryLaw.{HoldsCode}
use Rattle.asm_unwind.specs.Kept.{IsKept}
use Rattle.asm_unwind.proofs.ByteLaws.{law_of_function_entries}
use Rattle.asm_unwind.proofs.KeptLemmas.{or_no, clear, kept_none, kept_more, seen_more}
use Rattle.asm_relocatable.specs.declared.place.Place.{Place}
use Rattle.asm_relocatable.specs.declared.place.Section.{Section}
use Rattle.asm_relocatable.specs.declared.place.Section.TheVariants.{Text}
use Rattle.asm_layout.specs.declared.walk.Walk.{Walk}
use Rattle.asm_layout.specs.Functions.{Frame, no_frame, directive_of, entries_of, unwind_faults_from}
use Rattle.asm_layout.specs.Labels.{labels_of}
use Rattle.asm_layout.specs.Sizes.{size_in, is_too_large}
use Rattle.asm_layout.specs.Walks.{start, cursor_place, walk_after, sizes_with_pool}
use Rattle.asm_relocatable.specs.Sections.{same_section}
use Rattle.eh_word.specs.Bytes.{next_multiple}
use Rattle.asm_relocatable.specs.declared.object.IndexRow.{IndexRow}
use Rattle.asm_relocatable.specs.declared.object.Object.{Object}
use Rattle.asm_relocatable.specs.declared.object.RowEntry.TheVariants as row
use Rattle.asm_object.specs.Bytes.{word_bytes}
use Rattle.asm_object.specs.Objects.{assembled_object, object_of}
use Rattle.asm_object.specs.Pieces.{Piece, place_at, bytes_in}
use Rattle.asm_object.proofs.PlaceLaws.{law_of_places, earlier, split, walks_on}
use Rattle.asm_object.proofs.ObjectLaws.{IsTaken, taken, ends_small, entries_count}
use Rattle.asm_laws.specs.Functions.{starts_function, bounds_function, HasNoBound, functions_in, directives_in, Function, source_of, directives_of, start_at, end_at}
use Rattle.asm_laws.specs.RowLaw.{walk_over, entry_for, TableStands, HasItsRow}
use Rattle.asm_laws.specs.SourceRowLaw.{EachRowIsAFunctions, RowsRise, LaterRowsBeginAfter, HasShortList, HaveShortLists, LiesIn, RowLies, RowsLieInTheirObjects}
use Rattle.asm_laws.proofs.Frames.{Shape, regroup, begins, goes_on, taken_directive}
use Rattle.asm_laws.proofs.Rows.{one_if, functions_more}
use Rattle.asm_laws.proofs.Standing.{fewer, at_start, law_of_rows, law_of_count, law_of_closing}
use Rattle.asm_object.specs.After.{pieces_from, refusals_from}

-- ---- the k-th `.fnstart`

record KthStart (stmts : List Stmt) (k : ℕ) : Type 0 where
  before : List Stmt
  line : ℕ
  more : List Stmt
  split : stmts ≡ before ++ start_at line ∷ more
  number : functions_in before ≡ k

starts_or : (kind : StmtKind) → (kind ≡ statement.FnStart) ⊎ (starts_function kind ≡ false)
starts_or statement.FnStart = inl refl
starts_or _ = inr refl

one_less : (k n m : ℕ) → m ≡ 1 + n → suc k < m → k < n
one_less k n m e h = omega (arith, e, h)

one_more : (k n m : ℕ) → m ≡ 1 + n → n ≡ k → m ≡ suc k
one_more k n m e h = omega (arith, e, h)

none_less : (k n m : ℕ) → m ≡ 0 + n → k < m → k < n
none_less k n m e h = omega (arith, e, h)

none_more : (k n m : ℕ) → m ≡ 0 + n → n ≡ k → m ≡ k
none_more k n m e h = omega (arith, e, h)

-- a statement more, which begins a function, or doesn't
counted : (stmt : Stmt) (more : List Stmt) (b : Bool) → starts_function stmt.kind ≡ b → functions_in (stmt ∷ more) ≡ cond b 1 0 + functions_in more
counted stmt more b e = functions_more stmt more ∙ ap (λ c. cond c 1 0 + functions_in more) e

kth_here : (stmt : Stmt) (more : List Stmt) → stmt.kind ≡ statement.FnStart → KthStart (stmt ∷ more) 0
kth_here stmt more is = record { before = []; line = stmt.line; more = more; split = ap (λ s. record { line = stmt.line; kind = s } ∷ more) is; number = refl }

kth_later : (stmt : Stmt) (more : List Stmt) (k j : ℕ) → KthStart more j → ((n : ℕ) → n ≡ j → (m : ℕ) → m ≡ one_if stmt.kind + n → m ≡ k) → KthStart (stmt ∷ more) k
kth_later stmt more k j rest count = record {
  before = stmt ∷ rest.before;
  line = rest.line;
  more = rest.more;
  split = ap (λ l. stmt ∷ l) rest.split;
  number = count (functions_in rest.before) rest.number (functions_in (stmt ∷ rest.before)) (functions_more stmt rest.before);
}

kth_start : (stmts : List Stmt) (k : ℕ) → k < functions_in stmts → KthStart stmts k
kth_start [] k h = absurd (omega (arith, h))
kth_start (stmt ∷ more) zero h =
    elim (starts_or stmt.kind) [
      | inl is ↦ kth_here stmt more is
      | inr none ↦
          kth_later stmt more 0 0 (kth_start more 0 (none_less 0 (functions_in more) (functions_in (stmt ∷ more)) (counted stmt more false none) h))
          (λ n e m f. none_more 0 n m (f ∙ ap (λ b. cond b 1 0 + n) none) e)
    ]
kth_start (stmt ∷ more) (suc k) h =
    elim (starts_or stmt.kind) [
      | inl is ↦
          kth_later stmt more (suc k) k (kth_start more k (one_less k (functions_in more) (functions_in (stmt ∷ more)) (counted stmt more true (ap starts_function is)) h))
          (λ n e m f. one_more k n m (f ∙ ap (λ s. one_if s + n) is) e)
      | inr none ↦
          kth_later stmt more (suc k) (suc k) (kth_start more (suc k) (none_less (suc k) (functions_in more) (functions_in (stmt ∷ more)) (counted stmt more false none) h))
          (λ n e m f. none_more (suc k) n m (f ∙ ap (λ b. cond b 1 0 + n) none) e)
    ]

pub law_of_functions : EachRowIsAFunctions
law_of_functions stmts object k few e h =
    let K : ℕ → Type 0 = λ n. k < n in
    let kth = kth_start stmts k (subst K (law_of_count stmts object few e) h) in
    let O : List Stmt → Type 0 = λ s. object_of s ≡ Ok object in
    let closed = law_of_closing kth.before kth.more kth.line object (subst O kth.split e) in
    let f : Function = record { before = kth.before; start_line = kth.line; between = closed.between; end_line = closed.end_line; after = closed.after } in
    let source : source_of f ≡ stmts = ap (λ m. kth.before ++ start_at kth.line ∷ m) (sym closed.split) ∙ sym kth.split in
    let L : List Stmt → Type 0 = λ s. length s < 2 ^ 64 in
    record {
      function = f;
      source = source;
      number = kth.number;
      unbounded = closed.unbounded;
      has_row = law_of_rows f object closed.unbounded (subst L (sym source) few) (subst O (sym source) e);
    }

-- ---- places rise

abbrev no_bytes : List ℕ
no_bytes = []

rises_by : (all a b r q e : ℕ) → all ≡ a + r → all ≡ b + q → r ≡ e + q → a ≤ b
rises_by all a b r q e h k l = omega (arith, h, k, l)

pub sizes_rise : (stmts before mid more : List Stmt) (object : Object) (s : Section) → stmts ≡ before ++ (mid ++ more) → length stmts < 2 ^ 64 → IsTaken stmts object
    → size_in (walk_over stmts before).at.sizes s ≤ size_in (walk_over stmts (before ++ mid)).at.sizes s
sizes_rise stmts before mid more object s same few t =
    let entries = entries_of stmts in
    let labels = labels_of entries stmts in
    let few_entries = fewer _ _ (entries_count no_frame stmts) few in
    let R : List Stmt → Type 0 = λ l. refusals_from entries labels start l ≡ [] in
    let T : List Stmt → Type 0 = λ l. is_too_large (sizes_with_pool (walk_after entries start l)) ≡ false in
    let all : List Stmt → ℕ = λ l. length (bytes_in s (pieces_from entries labels start l)) in
    let again : before ++ (mid ++ more) ≡ (before ++ mid) ++ more = sym (append_assoc before mid more) in
    let small = ends_small entries start 0 stmts t.small in
    let first = law_of_places entries labels before (mid ++ more) s few_entries (subst R same t.unrefused) (subst T same small) in
    let second = law_of_places entries labels (before ++ mid) more s few_entries (subst R (same ∙ again) t.unrefused) (subst T (same ∙ again) small) in
    let walk = walk_after entries start before in
    let f : Piece → List ℕ = λ p. cond (same_section p.place.section s) p.bytes no_bytes in
    let parts : length (bytes_in s (pieces_from entries labels walk (mid ++ more)))
    ≡ length (bytes_in s (earlier entries labels walk mid more)) + length (bytes_in s (pieces_from entries labels (walk_after entries start (before ++ mid)) more)) =
    ap (λ p. length (bytes_in s p)) (split entries labels walk mid more)
    ∙ ap length (flat_map-append f (earlier entries labels walk mid more) (pieces_from entries labels (walk_after entries walk mid) more))
    ∙ length-append (bytes_in s (earlier entries labels walk mid more)) (bytes_in s (pieces_from entries labels (walk_after entries walk mid) more))
    ∙ ap (λ w. length (bytes_in s (earlier entries labels walk mid more)) + length (bytes_in s (pieces_from entries labels w more))) (sym (walks_on entries start before mid)) in
    rises_by (all (before ++ (mid ++ more))) _ _ _ _ _ first (ap all again ∙ second) parts

-- ---- where one `.fnstart` stands after another

same_head : (x y : Stmt) (xs ys : List Stmt) → x ∷ xs ≡ y ∷ ys → (x ≡ y) × (xs ≡ ys)
same_head x y xs ys e = (cc, cc)

not_both : (n m : ℕ) → m ≡ 1 + n → m ≤ 0 → ⊥
not_both n m e h = omega (arith, e, h)

less_both : (a m n p q : ℕ) → p ≡ a + m → q ≡ a + n → p ≤ q → m ≤ n
less_both a m n p q e f h = omega (arith, e, f, h)

prefix : (b c : List Stmt) (i j : ℕ) (m n : List Stmt) → b ++ start_at i ∷ m ≡ c ++ start_at j ∷ n → functions_in b ≤ functions_in c → (mid : List Stmt) × (c ≡ b ++ mid)
prefix [] c i j m n e h = (c, refl)
prefix (x ∷ b) [] i j m n e h =
    let head = (same_head x (start_at j) (b ++ start_at i ∷ m) n e).0 in
    absurd (not_both (functions_in b) (functions_in (x ∷ b)) (counted x b true (ap (λ (s : Stmt). starts_function s.kind) head)) h)
prefix (x ∷ b) (y ∷ c) i j m n e h =
    let heads = same_head x y (b ++ start_at i ∷ m) (c ++ start_at j ∷ n) e in
    let rest = prefix b c i j m n heads.1
    (less_both (one_if y.kind) (functions_in b) (functions_in c) (functions_in (x ∷ b)) (functions_in (y ∷ c))
    (functions_more x b ∙ ap (λ (s : Stmt). one_if s.kind + functions_in b) heads.0) (functions_more y c) h) in
    (rest.0, ap (λ l. y ∷ l) rest.1 ∙ ap (λ s. s ∷ (b ++ rest.0)) (sym heads.0))

some_row : (a b : IndexRow) (o : Option IndexRow) → o ≡ Some a → o ≡ Some b → a ≡ b
some_row a b o e f = cc

-- the place of a function in the text
pub text_offset : (w : Walk) (offset : ℕ) → cursor_place w.at ≡ place_at Text offset → w.at.sizes.text ≡ offset
text_offset w offset e =
    ap (λ s. size_in w.at.sizes s) (sym (ap (λ (p : Place). p.section) e)) ∙ ap (λ (p : Place). p.offset) e

pub law_of_rising : RowsRise
law_of_rising stmts object j k first second few e le one two =
    let a = law_of_functions stmts object j few e (slice_get_within object.rows j first one) in
    let b = law_of_functions stmts object k few e (slice_get_within object.rows k second two) in
    let F : ℕ → Type 0 = λ n. n ≤ functions_in b.function.before in
    let G : ℕ → Type 0 = λ n. j ≤ n in
    let order = subst F (sym a.number) (subst G (sym b.number) le) in
    let mid = prefix a.function.before b.function.before a.function.start_line b.function.start_line _ _ (a.source ∙ sym b.source) order in
    let rest = start_at b.function.start_line ∷ (b.function.between ++ end_at b.function.end_line ∷ b.function.after) in
    let same : stmts ≡ a.function.before ++ (mid.0 ++ rest) = sym b.source ∙ ap (λ l. l ++ rest) mid.1 ∙ append_assoc a.function.before mid.0 rest in
    let up = sizes_rise stmts a.function.before mid.0 rest object Text same few (taken stmts object e) in
    let offset_a : first.offset ≡ a.has_row.offset = ap (λ (r : IndexRow). r.offset) (some_row first _ _ one (ap (λ n. slice_get object.rows n) (sym a.number) ∙ a.has_row.row)) in
    let offset_b : second.offset ≡ b.has_row.offset = ap (λ (r : IndexRow). r.offset) (some_row second _ _ two (ap (λ n. slice_get object.rows n) (sym b.number) ∙ b.has_row.row)) in
    let text_a = ap (λ s. (walk_over s a.function.before).at.sizes.text) (sym a.source) ∙ text_offset (walk_over (source_of a.function) a.function.before) a.has_row.offset a.has_row.place in
    let text_b = ap (λ l. (walk_over stmts l).at.sizes.text) (sym mid.1) ∙ ap (λ s. (walk_over s b.function.before).at.sizes.text) (sym b.source) ∙ text_offset (walk_over (source_of b.function) b.function.before) b.has_row.offset b.has_row.place in
    omega (arith, offset_a, offset_b, text_a, text_b, up)

-- ---- a later row begins after the function

cancelled : (xs ys zs : List Stmt) → xs ++ ys ≡ xs ++ zs → ys ≡ zs
cancelled [] ys zs e = e
cancelled (x ∷ xs) ys zs e = cancelled xs ys zs (same_head x x (xs ++ ys) (xs ++ zs) e).1

-- a `.fnstart` after statements without one stands after all of them
past : (between mid : List Stmt) (j : ℕ) (rest n : List Stmt) → HasNoBound between → between ++ rest ≡ mid ++ start_at j ∷ n → (later : List Stmt) × (mid ≡ between ++ later)
past [] mid j rest n plain e = (mid, refl)
past (x ∷ between) [] j rest n plain e =
    let head = (same_head x (start_at j) (between ++ rest) n e).0 in
    absurd (true≢false (sym (ap (λ (s : Stmt). bounds_function s.kind) head) ∙ (or_parts (bounds_function x.kind) (list_any (λ s. bounds_function s.kind) between) plain).0))
past (x ∷ between) (y ∷ mid) j rest n plain e =
    let heads = same_head x y (between ++ rest) (mid ++ start_at j ∷ n) e in
    let later = past between mid j rest n (or_parts (bounds_function x.kind) (list_any (λ s. bounds_function s.kind) between) plain).1 heads.1 in
    (later.0, ap (λ l. y ∷ l) later.1 ∙ ap (λ s. s ∷ (between ++ later.0)) (sym heads.0))

abbrev own_stmts : Function → List Stmt
own_stmts f = f.before ++ start_at f.start_line ∷ f.between

none_between : (n m : ℕ) → n < m → m ≡ n → ⊥
none_between n m h e = omega (arith, h, e)

-- the statements before a later function are those up to the end of this one, and others
up_to_later : (f g : Function) (mid : List Stmt) → HasNoBound f.between → source_of g ≡ source_of f → functions_in f.before < functions_in g.before → g.before ≡ f.before ++ mid
    → (later : List Stmt) × (g.before ≡ own_stmts f ++ later)
up_to_later f g [] plain e order is = absurd (none_between (functions_in f.before) (functions_in g.before) order (ap functions_in (is ∙ append-nil f.before)))
up_to_later f g (x ∷ mid) plain e order is =
    let rest = start_at g.start_line ∷ (g.between ++ end_at g.end_line ∷ g.after) in
    let whole : f.before ++ start_at f.start_line ∷ (f.between ++ end_at f.end_line ∷ f.after) ≡ f.before ++ (x ∷ mid ++ rest) =
    sym e ∙ ap (λ l. l ++ rest) is ∙ append_assoc f.before (x ∷ mid) rest in
    let heads = same_head (start_at f.start_line) x (f.between ++ end_at f.end_line ∷ f.after) (mid ++ rest) (cancelled f.before _ _ whole) in
    let later = past f.between mid g.start_line (end_at f.end_line ∷ f.after) (g.between ++ end_at g.end_line ∷ g.after) plain heads.1 in (
      later.0,
      is ∙ ap (λ s. f.before ++ s ∷ mid) (sym heads.0) ∙ ap (λ l. f.before ++ start_at f.start_line ∷ l) later.1 ∙ sym (append_assoc f.before (start_at f.start_line ∷ f.between) later.0),
    )

at_most : (n m : ℕ) → n < m → n ≤ m
at_most n m h = omega (arith, h)

pub law_of_later_rows : LaterRowsBeginAfter
law_of_later_rows f object k row plain few e order got =
    let stmts = source_of f in
    let b = law_of_functions stmts object k few e (slice_get_within object.rows k row got) in
    let g = b.function in
    let L : ℕ → Type 0 = λ n. functions_in f.before < n in
    let less = subst L (sym b.number) order in
    let mid = prefix f.before g.before f.start_line g.start_line _ _ (sym b.source) (at_most _ _ less) in
    let later = up_to_later f g mid.0 plain b.source less mid.1 in
    let rest = start_at g.start_line ∷ (g.between ++ end_at g.end_line ∷ g.after) in
    let same : stmts ≡ own_stmts f ++ (later.0 ++ rest) = sym b.source ∙ ap (λ l. l ++ rest) later.1 ∙ append_assoc (own_stmts f) later.0 rest in
    let up = sizes_rise stmts (own_stmts f) later.0 rest object Text same few (taken stmts object e) in
    let offset : row.offset ≡ b.has_row.offset = ap (λ (r : IndexRow). r.offset) (some_row row _ _ got (ap (λ n. slice_get object.rows n) (sym b.number) ∙ b.has_row.row)) in
    let text = ap (λ l. (walk_over stmts l).at.sizes.text) (sym later.1) ∙ ap (λ s. (walk_over s g.before).at.sizes.text) (sym b.source) ∙ text_offset (walk_over (source_of g) g.before) b.has_row.offset b.has_row.place in
    omega (arith, offset, text, up)

-- ---- what an entry's words are

all_front : {A : Type 0} (P : A → Type 0) (xs ys : List A) → All P (xs ++ ys) → All P xs
all_front P [] ys h = All-nil P
all_front P (x ∷ xs) ys h = All-cons P x xs (All-head P x (xs ++ ys) h) (all_front P xs ys (All-tail P x (xs ++ ys) h))

all_back : {A : Type 0} (P : A → Type 0) (xs ys : List A) → All P (xs ++ ys) → All P ys
all_back P [] ys h = h
all_back P (x ∷ xs) ys h = all_back P xs ys (All-tail P x (xs ++ ys) h)

narrow_list : (list : ℕ) (b : Bool) → b ≡ (list / 2 ^ 15 % 2 == 1) → b ≡ false → list < 2 ^ 16 → list < 2 ^ 15
narrow_list list true e f h = absurd (true≢false f)
narrow_list list false e f h = grind (arith, nat_tests)

the_plain : (x d : UnwindDirective) → Some x ≡ Some d → HasNarrowList x → HasNarrowList d
the_plain x d e h = let same : x ≡ d = cc in subst HasNarrowList same h

-- a list of 16 bits that isn't refused is narrow
narrow : (kind : StmtKind) (d : UnwindDirective) (seen : DirectiveState) → HasShortList kind → directive_of kind ≡ Some d → refusal_of seen d ≡ None → HasNarrowList d
narrow (statement.Save list) d seen short is none =
    let same : unwind.Save list ≡ d = cc in
    let R : UnwindDirective → Type 0 = λ x. refusal_of seen x ≡ None in
    let bad = (clear seen (unwind.Save list) (subst R (sym same) none)).2 in
    let not_fifteen = (or_no (list == 0 || has_register list 13) (has_register list 15) (or_no (list == 0 || has_register list 13 || has_register list 15) seen.frame_pointer bad).0).1 in
    subst HasNarrowList same (narrow_list list (has_register list 15) refl not_fifteen short)
narrow statement.FnStart d seen short is none = the_plain unwind.FnStart d is tt
narrow statement.FnEnd d seen short is none = the_plain unwind.FnEnd d is tt
narrow (statement.Pad n) d seen short is none = the_plain _ d is tt
narrow (statement.SetFp r off) d seen short is none = the_plain _ d is tt
narrow statement.CantUnwind d seen short is none = the_plain _ d is tt
narrow (statement.PersonalityIndex n) d seen short is none = the_plain _ d is tt
narrow statement.HandlerData d seen short is none = the_plain _ d is tt
narrow _ d seen short is none = absurd (cc)

-- the directives up to a `.fnend` have codes
pub kept_between : (frame : Frame) (between : List Stmt) (line : ℕ) (after : List Stmt) → Shape true frame → IsKept frame.directives (directive_state_of frame.directives) → HasNoBound between
    → unwind_faults_from frame (between ++ end_at line ∷ after) ≡ [] → HaveShortLists between
    → IsKept (frame.directives ++ directives_in between ++ unwind.FnEnd ∷ []) (directive_state_of (frame.directives ++ directives_in between ++ unwind.FnEnd ∷ []))
kept_between frame [] line after shape kept plain e short =
    let none = (taken_directive frame (end_at line) after unwind.FnEnd refl e).refusal in
    let K : List UnwindDirective → Type 0 = λ l. IsKept (l ++ unwind.FnEnd ∷ []) (directive_state_of (l ++ unwind.FnEnd ∷ [])) in
    subst K (sym (append-nil frame.directives))
    (kept_more frame.directives (frame.directives ++ unwind.FnEnd ∷ []) (directive_state_of frame.directives) _ unwind.FnEnd kept tt none refl (seen_more frame.directives unwind.FnEnd none))
kept_between frame (stmt ∷ between) line after shape kept plain e short =
    let rest = between ++ end_at line ∷ after in
    let parts = or_parts (bounds_function stmt.kind) (list_any (λ s. bounds_function s.kind) between) plain in
    let went = goes_on frame stmt rest shape parts.0 e in
    let K : List UnwindDirective → Type 0 = λ l. IsKept l (directive_state_of l) in
    let onward : K went.onward.directives = subst K (sym went.directives) (one (directive_of stmt.kind) refl) in
    let all = kept_between went.onward between line after went.shape onward parts.1 went.rest (All-tail (λ (s : Stmt). HasShortList s.kind) stmt between short) in
    subst K (ap (λ l. l ++ directives_in between ++ unwind.FnEnd ∷ []) went.directives ∙ regroup frame.directives (directive_of stmt.kind) (directives_in between) (unwind.FnEnd ∷ [])) all
  where
    one : (o : Option UnwindDirective) → directive_of stmt.kind ≡ o
        → IsKept (frame.directives ++ cons_option (directive_of stmt.kind) []) (directive_state_of (frame.directives ++ cons_option (directive_of stmt.kind) []))
    one None is =
        let K : List UnwindDirective → Type 0 = λ l. IsKept l (directive_state_of l) in
        subst K (sym (append-nil frame.directives) ∙ ap (λ o. frame.directives ++ cons_option o []) (sym is)) kept
    one (Some d) is =
        let none = (taken_directive frame stmt (between ++ end_at line ∷ after) d is e).refusal in
        let K : List UnwindDirective → Type 0 = λ l. IsKept l (directive_state_of l) in
        let fits = narrow stmt.kind d (directive_state_of frame.directives) (All-head (λ (s : Stmt). HasShortList s.kind) stmt between short) is none in
        subst K (ap (λ o. frame.directives ++ cons_option o []) (sym is))
        (kept_more frame.directives (frame.directives ++ d ∷ []) (directive_state_of frame.directives) _ d kept fits none refl (seen_more frame.directives d none))

-- what a row needs of the words
abbrev pub WordsLie : EntryWords → Type 0
WordsLie entry.CantUnwind = Unit {0}
WordsLie (entry.Inline word) = (COMPACT_MARK ≤ word) × (word < 2 ^ 32)
WordsLie (entry.Table words) = 0 < length words

with_index : (a b : Bool) (index : ℕ) → b ≡ (index == 0) → true ≡ (a && b) → index ≡ 0
with_index true true index e h = eqb-true index 0 (sym e)
with_index true false index e h = absurd (true≢false h)
with_index false b index e h = absurd (true≢false h)

top_bounds : (word index : ℕ) → index ≡ 0 → word / 2 ^ 24 ≡ COMPACT_TOP + index → (COMPACT_MARK ≤ word) × (word < 2 ^ 32)
top_bounds word index e h = (omega (arith, e, h), omega (arith, e, h))

no_top : (index : ℕ) → 0 ≡ COMPACT_TOP + index → ⊥
no_top index h = omega (arith, h)

words_of_code : (words : EntryWords) (index : ℕ) (handler_data : Bool) (bytes : List ℕ) → HoldsCode words index handler_data bytes → WordsLie words
words_of_code entry.CantUnwind index handler_data bytes h = tt
words_of_code (entry.Inline word) index handler_data bytes h = top_bounds word index (with_index (not handler_data) (index == 0) index refl h.place) h.top
words_of_code (entry.Table []) index handler_data bytes h = absurd (no_top index h.top)
words_of_code (entry.Table (word ∷ words)) index handler_data bytes h = omega arith

pub words_lie : (directives : List UnwindDirective) (words : EntryWords) → IsKept directives (directive_state_of directives) → entry_words_of directives ≡ Ok words → WordsLie words
unfolding entry_words_of
words_lie directives words kept is = by (directive_state_of directives).ended (directive_state_of directives).cant_unwind refl is
  where
    coded : Result EntryWords UnwindFault
    coded = entry_of_code (directive_state_of directives).personality (directive_state_of directives).handler_data (bytecode_of directives)

    by : (ended cant : Bool) → (directive_state_of directives).cant_unwind ≡ cant → cond (not ended) (Err OutsideFunction) (cond cant (Ok entry.CantUnwind) coded) ≡ Ok words → WordsLie words
    by false cant same e = absurd (cc)
    by true true same e = let none : entry.CantUnwind ≡ words = cc in subst WordsLie none tt
    by true false same e =
        words_of_code words _ _ _ (law_of_function_entries directives words kept.writable kept.small_index same is)

-- ---- rows in their object

joined_text : (stmts : List Stmt) → (assembled_object stmts).text ≡ bytes_in Text (pieces_from (entries_of stmts) (labels_of (entries_of stmts) stmts) start stmts)
unfolding assembled_object
joined_text stmts = refl

le_sum : (all a b : ℕ) → all ≡ a + b → a ≤ all
le_sum all a b e = omega (arith, e)

pub starts_inside : (stmts before more : List Stmt) (object : Object) → stmts ≡ before ++ more → length stmts < 2 ^ 64 → IsTaken stmts object
    → (walk_over stmts before).at.sizes.text ≤ length object.text
starts_inside stmts before more object same few t =
    let entries = entries_of stmts in
    let labels = labels_of entries stmts in
    let R : List Stmt → Type 0 = λ l. refusals_from entries labels start l ≡ [] in
    let T : List Stmt → Type 0 = λ l. is_too_large (sizes_with_pool (walk_after entries start l)) ≡ false in
    le_sum _ _ _
    (ap (λ (o : Object). length o.text) t.object_is ∙ ap length (joined_text stmts) ∙ ap (λ s. length (bytes_in Text (pieces_from entries labels start s))) same
    ∙ law_of_places entries labels before more Text (fewer _ _ (entries_count no_frame stmts) few) (subst R same t.unrefused) (subst T same (ends_small entries start 0 stmts t.small)))

at_four : (n : ℕ) → next_multiple n 4 % 4 ≡ 0
at_four n = omega arith

room_there : (table : ℕ) (bytes front rest : List ℕ) → drop table bytes ≡ front ++ rest → 4 ≤ length front → table + 4 ≤ length bytes
room_there table bytes front rest e h = omega (arith, length-drop table bytes, ap length e, length-append front rest, h)

word_room : (words : List ℕ) → 0 < length words → 4 ≤ length (flat_map word_bytes words)
word_room [] h = absurd (omega (arith, h))
word_room (word ∷ words) h = omega (arith, length-append (word_bytes word) (flat_map word_bytes words), four word)
  where
    four : (word : ℕ) → length (word_bytes word) ≡ 4
    four word = refl

second_lies : (words : EntryWords) (f : Function) (object : Object) (table : ℕ) → table % 4 ≡ 0 → WordsLie words → TableStands words f object table → LiesIn object (entry_for words table)
second_lies entry.CantUnwind f object table four lie stands = tt
second_lies (entry.Inline word) f object table four lie stands = lie
second_lies (entry.Table words) f object table four lie stands =
    (four, room_there table object.extab (flat_map word_bytes words) _ stands (word_room words lie))

-- the directives of a function of an accepted source have codes
function_kept : (f : Function) (object : Object) → HasNoBound f.between → length (source_of f) < 2 ^ 64 → HaveShortLists (source_of f) → IsTaken (source_of f) object
    → IsKept (directives_of f) (directive_state_of (directives_of f))
function_kept f object plain few short t =
    let more = f.between ++ end_at f.end_line ∷ f.after in
    let at = at_start (source_of f) f.before f.start_line more object refl few t in
    let P : Stmt → Type 0 = λ s. HasShortList s.kind in
    let after_start = All-tail P (start_at f.start_line) more (all_back P f.before (start_at f.start_line ∷ more) short) in
    kept_between (record { directives = unwind.FnStart ∷ []; start = Some f.start_line }) f.between f.end_line f.after (refl, (f.start_line, refl)) first plain at.opens.state.taken
    (all_front P f.between (end_at f.end_line ∷ f.after) after_start)
  where
    first : IsKept (unwind.FnStart ∷ []) (directive_state_of (unwind.FnStart ∷ []))
    first = kept_more [] (unwind.FnStart ∷ []) (directive_state_of []) _ unwind.FnStart kept_none tt begins refl (seen_more [] unwind.FnStart begins)

pub row_lies : (f : Function) (object : Object) → HasNoBound f.between → length (source_of f) < 2 ^ 64 → HaveShortLists (source_of f) → object_of (source_of f) ≡ Ok object
    → (has : HasItsRow f object) → RowLies object (record { offset = has.offset; entry = entry_for has.words has.table })
row_lies f object plain few short e has =
    let t = taken (source_of f) object e in
    let F : ℕ → Type 0 = λ n. n ≤ length object.text in
    let four : has.table % 4 ≡ 0 = ap (λ n. n % 4) has.table_place ∙ at_four (walk_over (source_of f) f.before).at.sizes.extab in
    record {
      start = subst F (text_offset (walk_over (source_of f) f.before) has.offset has.place) (starts_inside (source_of f) f.before _ object refl few t);
      second = second_lies has.words f object has.table four (words_lie (directives_of f) has.words (function_kept f object plain few short t) has.given) has.stands;
    }

pub law_of_lying : RowsLieInTheirObjects
law_of_lying stmts object few short e = All-from_get_or (RowLies object) object.rows (record { offset = 0; entry = row.CantUnwind }) (λ i h. each i h)
  where
    none : IndexRow
    none = record { offset = 0; entry = row.CantUnwind }

    each : (i : ℕ) → i < length object.rows → RowLies object (get_or object.rows i none)
    each i h =
        let own = law_of_functions stmts object i few e h in
        let L : List Stmt → Type 0 = λ s. length s < 2 ^ 64 in
        let O : List Stmt → Type 0 = λ s. object_of s ≡ Ok object in
        let is : slice_get object.rows i ≡ Some (record { offset = own.has_row.offset; entry = entry_for own.has_row.words own.has_row.table }) =
        ap (λ n. slice_get object.rows n) (sym own.number) ∙ own.has_row.row in
        subst (RowLies object) (sym (get_or_from_slice_get object.rows i _ none is))
        (row_lies own.function object own.unbounded (subst L (sym own.source) few) (subst HaveShortLists (sym own.source) short) (subst O (sym own.source) e) own.has_row)
