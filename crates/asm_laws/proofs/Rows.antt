-- The rows of an accepted source: one for each function, in the order of the text.
use Rattle.std.proofs.Common.{◌≡◌, ℕ, zero, suc, ◌+◌, ◌-◌, ◌^◌, ◌≤◌, ◌<◌, inl, inr, Bool, true, false, cond, ◌||◌, not, nat_lt, List, [], ◌∷◌, ◌++◌, length, drop, Option, Some, None, unwrap_or, refl, sym, ap, ◌∙◌, arith, append_assoc, length-append, subst}
use Rattle.std.specs.Prelude.{slice_get}
use Rattle.std.specs.Int.{from_bool}
use Rattle.std.proofs.lemmas.Bool.{true≢false}
use Rattle.std.proofs.lemmas.Bool.Decides.{nat_tests}
use Rattle.std.proofs.lemmas.List.Sums.{sum_by-cons}
use Rattle.asm_statements.specs.declared.statement.Stmt.{Stmt}
use Rattle.asm_statements.specs.declared.statement.StmtKind.{StmtKind}
use Rattle.asm_statements.specs.declared.statement.StmtKind.TheVariants as statement
use Rattle.asm_unwind.specs.declared.directive.UnwindDirective.TheVariants as unwind
use Rattle.asm_unwind.specs.declared.entry.EntryWords.{EntryWords}
use Rattle.asm_relocatable.specs.declared.place.Section.TheVariants.{Extab}
use Rattle.asm_layout.specs.declared.walk.LayoutPosition.{LayoutPosition}
use Rattle.asm_layout.specs.declared.walk.Walk.{Walk}
use Rattle.asm_layout.specs.Functions.{Frame, no_frame, entries_from, entries_of, unwind_faults_from}
use Rattle.asm_layout.specs.Sizes.{table_size, sizes_with_more}
use Rattle.asm_layout.specs.Walks.{start, next, entry_at, is_in_text, sizes_with_pool, walk_after}
use Rattle.asm_relocatable.specs.Sections.{same_section}
use Rattle.asm_object.specs.Pieces.{row_of, rows_of_puts}
use Rattle.asm_laws.specs.Functions.{starts_function, bounds_function, functions_in, start_at, end_at}
use Rattle.asm_laws.proofs.Frames.{Shape, which, goes_on, ended_with, closes, no_second, no_end, begun, plain_outside, taken_none}
use Rattle.asm_layout.specs.Placing.{place_stmts_from, pool_puts, function_at, function_here, puts_at}
use Rattle.asm_layout.specs.declared.placed.Puts.TheVariants as puts
use Rattle.asm_object.specs.After.{rows_from}

-- ---- the walk

-- a statement that bounds no function opens, closes and counts none, and has no row
pub record Keeps (entries : List (Option EntryWords)) (walk : Walk) (kind : StmtKind) : Type 0 where
  pub inside : (next entries walk kind).at.inside ≡ walk.at.inside
  pub functions : (next entries walk kind).at.functions ≡ walk.at.functions
  pub rows : rows_of_puts entries (puts_at walk kind) ≡ []
  pub starts : starts_function kind ≡ false

pub keeps : (entries : List (Option EntryWords)) (walk : Walk) (kind : StmtKind) → bounds_function kind ≡ false → Keeps entries walk kind
keeps entries walk statement.FnStart e = absurd (true≢false e)
keeps entries walk statement.FnEnd e = absurd (true≢false e)
keeps entries walk statement.HandlerData e = record { inside = inside (same_section walk.at.section Extab); functions = functions (same_section walk.at.section Extab); rows = refl; starts = refl }
  where
    inside : (b : Bool) → (cond b walk.at (record walk.at { section = Extab; left = Some walk.at.section })).inside ≡ walk.at.inside
    inside true = refl
    inside false = refl

    functions : (b : Bool) → (cond b walk.at (record walk.at { section = Extab; left = Some walk.at.section })).functions ≡ walk.at.functions
    functions true = refl
    functions false = refl
keeps entries walk statement.Pool e = record { inside = inside (is_in_text walk.at); functions = functions (is_in_text walk.at); rows = rows (is_in_text walk.at); starts = refl }
  where
    rows : (b : Bool) → rows_of_puts entries (cond b (pool_puts walk) puts.Nothing) ≡ []
    rows true = refl
    rows false = refl

    inside : (b : Bool) → (cond b (record { at = record walk.at { sizes = sizes_with_pool walk }; pool = [] }) walk).at.inside ≡ walk.at.inside
    inside true = refl
    inside false = refl

    functions : (b : Bool) → (cond b (record { at = record walk.at { sizes = sizes_with_pool walk }; pool = [] }) walk).at.functions ≡ walk.at.functions
    functions true = refl
    functions false = refl
keeps entries walk _ e = record { inside = refl; functions = refl; rows = refl; starts = refl }

-- a `.fnstart` outside of a function opens one
pub starts_at : (entries : List (Option EntryWords)) (walk : Walk) → walk.at.inside ≡ false → walk.at.functions < 2 ^ 64 - 1
    → (next entries walk statement.FnStart).at
    ≡ record walk.at {
      sizes = sizes_with_more walk.at.sizes Extab (table_size walk.at.sizes.extab (entry_at entries walk.at.functions));
      inside = true;
      functions = walk.at.functions + 1;
    }
starts_at entries walk closed few = by walk.at.inside (nat_lt walk.at.functions (2 ^ 64 - 1)) closed (is_few walk.at.functions few)
  where
    is_few : (n : ℕ) → n < 2 ^ 64 - 1 → nat_lt n (2 ^ 64 - 1) ≡ true
    is_few n h = grind (arith, nat_tests)

    opened : LayoutPosition
    opened = record walk.at {
      sizes = sizes_with_more walk.at.sizes Extab (table_size walk.at.sizes.extab (entry_at entries walk.at.functions));
      inside = true;
      functions = walk.at.functions + 1;
    }

    by : (b few : Bool) → b ≡ false → few ≡ true → cond (b || not few) walk.at opened ≡ opened
    by true few c f = absurd (true≢false c)
    by false true c f = refl
    by false false c f = absurd (true≢false (sym f))

-- ---- the frame beside the walk

-- a source from a place on, where nothing is refused: whether a function is open, and the entries of those that end from there on
pub record State (entries : List (Option EntryWords)) (opened : Bool) (frame : Frame) (walk : Walk) (stmts : List Stmt) : Type 0 where
  pub taken : unwind_faults_from frame stmts ≡ []
  pub shape : Shape opened frame
  pub inside : walk.at.inside ≡ opened
  pub ended : ℕ
  pub functions : walk.at.functions ≡ ended + from_bool opened
  pub queue : drop ended entries ≡ entries_from frame stmts
  pub few : walk.at.functions + length stmts < 2 ^ 64

pub dropped_get : {X : Type 0} (n : ℕ) (xs : List X) (x : X) (ys : List X) → drop n xs ≡ x ∷ ys → slice_get xs n ≡ Some x
dropped_get zero xs x ys e = ap (λ l. slice_get l 0) e
dropped_get (suc n) [] x ys e = absurd (cc)
dropped_get (suc n) (y ∷ xs) x ys e = dropped_get n xs x ys e

dropped_next : {X : Type 0} (n : ℕ) (xs : List X) (x : X) (ys : List X) → drop n xs ≡ x ∷ ys → drop (n + 1) xs ≡ ys
dropped_next zero xs x ys e = ap (λ l. drop 1 l) e
dropped_next (suc n) [] x ys e = absurd (cc)
dropped_next (suc n) (y ∷ xs) x ys e =
    let next : suc n + 1 ≡ suc (n + 1) = omega arith in
    ap (λ k. drop k (y ∷ xs)) next ∙ dropped_next n xs x ys e

-- the entry of the function that begins here, and what is open after its `.fnstart`
pub record Opens (entries : List (Option EntryWords)) (walk : Walk) (line : ℕ) (more : List Stmt) : Type 0 where
  pub words : EntryWords
  pub entry : entry_at entries walk.at.functions ≡ Some words
  pub closed : walk.at.inside ≡ false
  pub few : walk.at.functions < 2 ^ 64 - 1
  pub state : State entries true (record { directives = unwind.FnStart ∷ []; start = Some line }) (next entries walk statement.FnStart) more
  pub number : walk.at.functions ≡ state.ended

few_more : (n : ℕ) (xs : List Stmt) (x : Stmt) → n + length (x ∷ xs) < 2 ^ 64 → n < 2 ^ 64 - 1
few_more n xs x h = omega (arith, h)

few_after : (n m : ℕ) (xs : List Stmt) (x : Stmt) → m ≤ n + 1 → n + length (x ∷ xs) < 2 ^ 64 → m + length xs < 2 ^ 64
few_after n m xs x l h = omega (arith, l, h)

opens_closed : (entries : List (Option EntryWords)) (walk : Walk) (line : ℕ) (more : List Stmt) → State entries false no_frame walk (start_at line ∷ more) → Opens entries walk line more
opens_closed entries walk line more s =
    let frame : Frame = record { directives = unwind.FnStart ∷ []; start = Some line } in
    let first = begun line more s.taken in
    let shape : Shape true frame = (refl, (line, refl)) in
    let closed = closes frame more shape first.rest in
    let T : List Stmt → Type 0 = λ l. unwind_faults_from frame l ≡ [] in
    let ended = ended_with frame closed.between closed.end_line closed.after shape closed.unbounded (subst T closed.split first.rest) in
    let queue : drop s.ended entries ≡ Some ended.words ∷ entries_from no_frame closed.after = s.queue ∙ first.entries ∙ ap (λ l. entries_from frame l) closed.split ∙ ended.entries in
    let number : walk.at.functions ≡ s.ended = s.functions ∙ plus_none s.ended in
    let few = few_more walk.at.functions more (start_at line) s.few in
    let following = starts_at entries walk s.inside few in
    let count : (next entries walk statement.FnStart).at.functions ≡ walk.at.functions + 1 = ap (λ (c : LayoutPosition). c.functions) following in
    record {
      words = ended.words;
      entry = ap (λ n. entry_at entries n) number ∙ ap (λ o. unwrap_or o None) (dropped_get s.ended entries (Some ended.words) (entries_from no_frame closed.after) queue);
      closed = s.inside;
      few = few;
      state = record {
        taken = first.rest;
        shape = shape;
        inside = ap (λ (c : LayoutPosition). c.inside) following;
        ended = s.ended;
        functions = count ∙ ap (λ n. n + 1) number;
        queue = s.queue ∙ first.entries;
        few = few_after walk.at.functions (next entries walk statement.FnStart).at.functions more (start_at line) (at_most _ _ count) s.few;
      };
      number = number;
    }
  where
    plus_none : (n : ℕ) → n + 0 ≡ n
    plus_none n = omega arith

    at_most : (a b : ℕ) → a ≡ b + 1 → a ≤ b + 1
    at_most a b e = omega (arith, e)

pub opens : (entries : List (Option EntryWords)) (opened : Bool) (frame : Frame) (walk : Walk) (line : ℕ) (more : List Stmt) → State entries opened frame walk (start_at line ∷ more)
    → Opens entries walk line more
opens entries true frame walk line more s = absurd (no_second frame (start_at line) more s.shape refl s.taken)
opens entries false frame walk line more s =
    let S : Frame → Type 0 = λ f. State entries false f walk (start_at line ∷ more) in
    opens_closed entries walk line more (subst S s.shape s)

-- ---- one statement

abbrev pub one_if : StmtKind → ℕ
one_if kind = cond (starts_function kind) 1 0

pub functions_more : (stmt : Stmt) (more : List Stmt) → functions_in (stmt ∷ more) ≡ one_if stmt.kind + functions_in more
functions_more stmt more = sum_by-cons (λ (s : Stmt). one_if s.kind) stmt more

pub record Stepped (entries : List (Option EntryWords)) (walk : Walk) (stmt : Stmt) (more : List Stmt) : Type 0 where
  pub opened : Bool
  pub frame : Frame
  pub state : State entries opened frame (next entries walk stmt.kind) more
  pub functions : (next entries walk stmt.kind).at.functions ≡ walk.at.functions + one_if stmt.kind
  pub rows : length (rows_of_puts entries (puts_at walk stmt.kind)) ≡ one_if stmt.kind

step_start : (entries : List (Option EntryWords)) (opened : Bool) (frame : Frame) (walk : Walk) (line : ℕ) (more : List Stmt) → State entries opened frame walk (start_at line ∷ more)
    → Stepped entries walk (start_at line) more
step_start entries opened frame walk line more s =
    let open_now = opens entries opened frame walk line more s in
    record {
      opened = true;
      frame = record { directives = unwind.FnStart ∷ []; start = Some line };
      state = open_now.state;
      functions = ap (λ (c : LayoutPosition). c.functions) (starts_at entries walk open_now.closed open_now.few);
      rows = ap (λ b. length (rows_of_puts entries (cond b puts.Nothing (function_here walk.at)))) open_now.closed ∙ ap (λ o. length (row_of (function_at walk.at) o)) open_now.entry;
    }

step_end : (entries : List (Option EntryWords)) (opened : Bool) (frame : Frame) (walk : Walk) (line : ℕ) (more : List Stmt) → State entries opened frame walk (end_at line ∷ more)
    → Stepped entries walk (end_at line) more
step_end entries false frame walk line more s =
    let T : Frame → Type 0 = λ f. unwind_faults_from f (end_at line ∷ more) ≡ [] in
    absurd (no_end (end_at line) more refl (subst T s.shape s.taken))
step_end entries true frame walk line more s =
    let ended = ended_with frame [] line more s.shape refl s.taken in
    record {
      opened = false;
      frame = no_frame;
      state = record {
        taken = ended.rest;
        shape = refl;
        inside = refl;
        ended = s.ended + 1;
        functions = s.functions ∙ plus_none (s.ended + 1);
        queue = dropped_next s.ended entries (Some ended.words) (entries_from no_frame more) (s.queue ∙ ended.entries);
        few = few_after walk.at.functions walk.at.functions more (end_at line) (le_next walk.at.functions) s.few;
      };
      functions = plus_none walk.at.functions;
      rows = refl;
    }
  where
    plus_none : (n : ℕ) → n ≡ n + 0
    plus_none n = omega arith

    le_next : (n : ℕ) → n ≤ n + 1
    le_next n = omega arith

-- a statement that bounds no function: the frame and the walk stay at it
plain_state : (entries : List (Option EntryWords)) (opened : Bool) (frame onward : Frame) (walk : Walk) (stmt : Stmt) (more : List Stmt) → State entries opened frame walk (stmt ∷ more)
    → Shape opened onward → unwind_faults_from onward more ≡ [] → entries_from frame (stmt ∷ more) ≡ entries_from onward more → bounds_function stmt.kind ≡ false
    → Stepped entries walk stmt more
plain_state entries opened frame onward walk stmt more s shape rest queue plain =
    let kept = keeps entries walk stmt.kind plain in
    record {
      opened = opened;
      frame = onward;
      state = record {
        taken = rest;
        shape = shape;
        inside = kept.inside ∙ s.inside;
        ended = s.ended;
        functions = kept.functions ∙ s.functions;
        queue = s.queue ∙ queue;
        few = few_after walk.at.functions (next entries walk stmt.kind).at.functions more stmt (same_le _ _ kept.functions) s.few;
      };
      functions = kept.functions ∙ plus_none walk.at.functions ∙ ap (λ b. walk.at.functions + cond b 1 0) (sym kept.starts);
      rows = ap length kept.rows ∙ ap (λ b. cond b 1 0) (sym kept.starts);
    }
  where
    plus_none : (n : ℕ) → n ≡ n + 0
    plus_none n = omega arith

    same_le : (a b : ℕ) → a ≡ b → a ≤ b + 1
    same_le a b e = omega (arith, e)

step_plain : (entries : List (Option EntryWords)) (opened : Bool) (frame : Frame) (walk : Walk) (stmt : Stmt) (more : List Stmt) → State entries opened frame walk (stmt ∷ more)
    → bounds_function stmt.kind ≡ false → Stepped entries walk stmt more
step_plain entries true frame walk stmt more s plain =
    let went = goes_on frame stmt more s.shape plain s.taken in
    plain_state entries true frame went.onward walk stmt more s went.shape went.rest went.entries plain
step_plain entries false frame walk stmt more s plain =
    let T : Frame → Type 0 = λ f. unwind_faults_from f (stmt ∷ more) ≡ [] in
    let none = plain_outside stmt more plain (subst T s.shape s.taken) in
    let kept = taken_none frame stmt more none s.taken in
    plain_state entries false frame frame walk stmt more s s.shape kept.0 kept.1 plain

pub step : (entries : List (Option EntryWords)) (opened : Bool) (frame : Frame) (walk : Walk) (stmt : Stmt) (more : List Stmt) → State entries opened frame walk (stmt ∷ more)
    → Stepped entries walk stmt more
step entries opened frame walk stmt more s =
    elim (which stmt.kind) [
      | inl is ↦
          let Q : StmtKind → Type 0 = λ k. State entries opened frame walk (record { line = stmt.line; kind = k } ∷ more) → Stepped entries walk (record { line = stmt.line; kind = k }) more in
          subst Q (sym is) (step_start entries opened frame walk stmt.line more) s
      | inr other ↦ elim other [
        | inl is ↦
            let Q : StmtKind → Type 0 = λ k. State entries opened frame walk (record { line = stmt.line; kind = k } ∷ more) → Stepped entries walk (record { line = stmt.line; kind = k }) more in
            subst Q (sym is) (step_end entries opened frame walk stmt.line more) s
        | inr plain ↦ step_plain entries opened frame walk stmt more s plain
      ]
    ]

-- ---- statements

pub record Reached (entries : List (Option EntryWords)) (walk : Walk) (before more : List Stmt) : Type 0 where
  pub opened : Bool
  pub frame : Frame
  pub state : State entries opened frame (walk_after entries walk before) more
  pub rows : length (rows_from entries walk before) ≡ functions_in before

pub reach : (entries : List (Option EntryWords)) (opened : Bool) (frame : Frame) (walk : Walk) (before more : List Stmt) → State entries opened frame walk (before ++ more)
    → Reached entries walk before more
unfolding walk_after place_stmts_from
reach entries opened frame walk [] more s = record { opened = opened; frame = frame; state = s; rows = refl }
reach entries opened frame walk (stmt ∷ before) more s =
    let one = step entries opened frame walk stmt (before ++ more) s in
    let rest = reach entries one.opened one.frame (next entries walk stmt.kind) before more one.state in
    record {
      opened = rest.opened;
      frame = rest.frame;
      state = rest.state;
      rows =
          length-append (rows_of_puts entries (puts_at walk stmt.kind)) (rows_from entries (next entries walk stmt.kind) before)
          ∙ ap (λ n. n + length (rows_from entries (next entries walk stmt.kind) before)) one.rows
          ∙ ap (λ n. one_if stmt.kind + n) rest.rows
          ∙ sym (functions_more stmt before);
    }

pub rows_split : (entries : List (Option EntryWords)) (walk : Walk) (before more : List Stmt)
    → rows_from entries walk (before ++ more) ≡ rows_from entries walk before ++ rows_from entries (walk_after entries walk before) more
unfolding walk_after place_stmts_from
rows_split entries walk [] more = refl
rows_split entries walk (stmt ∷ before) more =
    ap (λ rows. rows_of_puts entries (puts_at walk stmt.kind) ++ rows) (rows_split entries (next entries walk stmt.kind) before more)
    ∙ sym (append_assoc (rows_of_puts entries (puts_at walk stmt.kind)) (rows_from entries (next entries walk stmt.kind) before) (rows_from entries (walk_after entries (next entries walk stmt.kind) before) more))

-- the beginning of a source
pub begins : (stmts : List Stmt) → length stmts < 2 ^ 64 → unwind_faults_from no_frame stmts ≡ [] → State (entries_of stmts) false no_frame start stmts
begins stmts few e = record { taken = e; shape = refl; inside = refl; ended = 0; functions = refl; queue = refl; few = few_all (length stmts) few }
  where
    few_all : (n : ℕ) → n < 2 ^ 64 → 0 + n < 2 ^ 64
    few_all n h = omega (arith, h)
