-- The functions of an accepted source by their unwind directives: outside of one the next directive is a `.fnstart`, and inside of one
-- each is taken up to the next `.fnend`.
use Rattle.std.proofs.Common.{◌≡◌, ℕ, ◌⊎◌, inl, inr, Bool, true, false, cond, ◌&&◌, ◌||◌, not, List, [], ◌∷◌, ◌++◌, Option, Some, None, Result, Ok, Err, refl, sym, ap, ◌∙◌, append_assoc, append-nil, subst}
use Rattle.std.specs.List.{list_any, cons_option}
use Rattle.std.proofs.lemmas.Bool.{true≢false, or_parts}
use Rattle.std.proofs.lemmas.List.Folds.{list_any-append}
use Rattle.asm_statements.specs.declared.statement.Stmt.{Stmt}
use Rattle.asm_statements.specs.declared.statement.StmtKind.{StmtKind}
use Rattle.asm_statements.specs.declared.statement.StmtKind.TheVariants as statement
use Rattle.asm_unwind.specs.declared.directive.UnwindDirective.{UnwindDirective}
use Rattle.asm_unwind.specs.declared.directive.UnwindDirective.TheVariants as unwind
use Rattle.asm_unwind.specs.declared.directive.UnwindFault.{UnwindFault}
use Rattle.asm_unwind.specs.declared.directive.UnwindFault.TheVariants.{OutsideFunction, NestedFunction}
use Rattle.asm_unwind.specs.declared.entry.EntryWords.{EntryWords}
use Rattle.asm_unwind.specs.Refusals.{is_start, is_end, directive_state_of, refusal_of}
use Rattle.asm_unwind.specs.Entries.{entry_words_of}
use Rattle.asm_layout.specs.Functions.{Frame, no_frame, directive_of, frame_after, frame_unless_refused, next_frame, entry_or_none, ended_entry, new_entries, entries_from, entry_faults, directive_faults, new_faults, open_faults, unwind_faults_from}
use Rattle.asm_object.proofs.ObjectLaws.{both_none}
use Rattle.asm_laws.specs.Functions.{bounds_function, HasNoBound, directives_in, start_at, end_at}
use Rattle.asm_laws.specs.RowLaw.{IsClosed}

-- ---- single directives

outside : (d : UnwindDirective) → is_start d ≡ false → refusal_of (directive_state_of []) d ≡ None → ⊥
unfolding directive_state_of refusal_of
outside unwind.FnStart e n = true≢false e
outside unwind.FnEnd e n = absurd (cc)
outside (unwind.Save list) e n = absurd (cc)
outside (unwind.Pad size) e n = absurd (cc)
outside (unwind.SetFp register offset) e n = absurd (cc)
outside unwind.CantUnwind e n = absurd (cc)
outside (unwind.PersonalityIndex index) e n = absurd (cc)
outside unwind.HandlerData e n = absurd (cc)

pub begins : refusal_of (directive_state_of []) unwind.FnStart ≡ None
unfolding directive_state_of refusal_of
begins = refl

nested : (directives : List UnwindDirective) → list_any is_start directives ≡ true → refusal_of (directive_state_of directives) unwind.FnStart ≡ None → ⊥
unfolding directive_state_of refusal_of
nested directives s e = by (list_any is_end directives) (list_any is_start directives) s _ e
  where
    by : (ended started : Bool) → started ≡ true → (more : Option UnwindFault)
        → cond (ended || (not started && false)) (Some OutsideFunction) (cond (started && true) (Some NestedFunction) more) ≡ None → ⊥
    by true started s more e = absurd (cc)
    by false true s more e = absurd (cc)
    by false false s more e = true≢false (sym s)

-- ---- frames

-- no function is open, or one is: its directives have its start and no end
abbrev pub Shape : Bool → Frame → Type 0
Shape false frame = frame ≡ no_frame
Shape true frame = (list_any is_start frame.directives ≡ true) × ((line : ℕ) × (frame.start ≡ Some line))

-- a directive that isn't refused
taken_with : (frame : Frame) (line : ℕ) (d : UnwindDirective) (r : Option UnwindFault) → directive_faults frame line d r ≡ [] → r ≡ None
taken_with frame line d (Some fault) e = absurd (cc)
taken_with frame line d None e = refl

-- what a statement of an accepted source does to the frame
pub record Taken (frame : Frame) (stmt : Stmt) (more : List Stmt) (d : UnwindDirective) : Type 0 where
  pub refusal : refusal_of (directive_state_of frame.directives) d ≡ None
  pub faults : directive_faults frame stmt.line d None ≡ []
  pub rest : unwind_faults_from (frame_after frame stmt.line d) more ≡ []
  pub entries : entries_from frame (stmt ∷ more) ≡ ended_entry frame d None ++ entries_from (frame_after frame stmt.line d) more

pub taken_directive : (frame : Frame) (stmt : Stmt) (more : List Stmt) (d : UnwindDirective) → directive_of stmt.kind ≡ Some d
    → unwind_faults_from frame (stmt ∷ more) ≡ [] → Taken frame stmt more d
unfolding unwind_faults_from entries_from
taken_directive frame stmt more d is e =
    let F : Option UnwindDirective → Type 0 = λ o. new_faults frame stmt.line o ++ unwind_faults_from (next_frame frame stmt.line o) more ≡ [] in
    let here = subst F is e in
    let parts = both_none (directive_faults frame stmt.line d (refusal_of (directive_state_of frame.directives) d)) (unwind_faults_from (frame_unless_refused frame stmt.line d (refusal_of (directive_state_of frame.directives) d)) more) here in
    let none : refusal_of (directive_state_of frame.directives) d ≡ None = taken_with frame stmt.line d (refusal_of (directive_state_of frame.directives) d) parts.0 in
    let R : Option UnwindFault → Type 0 = λ r. directive_faults frame stmt.line d r ≡ [] in
    let N : Option UnwindFault → Type 0 = λ r. unwind_faults_from (frame_unless_refused frame stmt.line d r) more ≡ [] in
    record {
      refusal = none;
      faults = subst R none parts.0;
      rest = subst N none parts.1;
      entries =
          ap (λ o. new_entries frame o ++ entries_from (next_frame frame stmt.line o) more) is
          ∙ ap (λ r. ended_entry frame d r ++ entries_from (frame_unless_refused frame stmt.line d r) more) none;
    }

pub taken_none : (frame : Frame) (stmt : Stmt) (more : List Stmt) → directive_of stmt.kind ≡ None
    → unwind_faults_from frame (stmt ∷ more) ≡ [] → (unwind_faults_from frame more ≡ []) × (entries_from frame (stmt ∷ more) ≡ entries_from frame more)
unfolding unwind_faults_from entries_from
taken_none frame stmt more is e =
    let F : Option UnwindDirective → Type 0 = λ o. new_faults frame stmt.line o ++ unwind_faults_from (next_frame frame stmt.line o) more ≡ [] in
    (subst F is e, ap (λ o. new_entries frame o ++ entries_from (next_frame frame stmt.line o) more) is)

plain_some : (x d : UnwindDirective) → Some x ≡ Some d → (is_start x ≡ false) × (is_end x ≡ false) → (is_start d ≡ false) × (is_end d ≡ false)
plain_some x d e h =
    let same : x ≡ d = cc in
    let P : UnwindDirective → Type 0 = λ y. (is_start y ≡ false) × (is_end y ≡ false) in subst P same h

-- a directive of a statement that bounds no function
bounds_none : (kind : StmtKind) (d : UnwindDirective) → bounds_function kind ≡ false → directive_of kind ≡ Some d → (is_start d ≡ false) × (is_end d ≡ false)
bounds_none statement.FnStart d p is = absurd (true≢false p)
bounds_none statement.FnEnd d p is = absurd (true≢false p)
bounds_none (statement.Save list) d p is = plain_some _ d is (refl, refl)
bounds_none (statement.Pad n) d p is = plain_some _ d is (refl, refl)
bounds_none (statement.SetFp r off) d p is = plain_some _ d is (refl, refl)
bounds_none statement.CantUnwind d p is = plain_some _ d is (refl, refl)
bounds_none (statement.PersonalityIndex n) d p is = plain_some _ d is (refl, refl)
bounds_none statement.HandlerData d p is = plain_some _ d is (refl, refl)
bounds_none _ d p is = absurd (cc)

-- outside of a function, a statement that bounds none has no directive
pub plain_outside : (stmt : Stmt) (more : List Stmt) → bounds_function stmt.kind ≡ false → unwind_faults_from no_frame (stmt ∷ more) ≡ [] → directive_of stmt.kind ≡ None
plain_outside stmt more plain e = by (directive_of stmt.kind) refl
  where
    by : (o : Option UnwindDirective) → directive_of stmt.kind ≡ o → directive_of stmt.kind ≡ None
    by None is = is
    by (Some d) is = absurd (outside d (bounds_none stmt.kind d plain is).0 (taken_directive no_frame stmt more d is e).refusal)

-- ---- from a `.fnstart` to its `.fnend`

any_after : (directives : List UnwindDirective) (d : UnwindDirective) → list_any is_start directives ≡ true → list_any is_start (directives ++ d ∷ []) ≡ true
any_after directives d e = list_any-append is_start directives (d ∷ []) ∙ ap (λ b. b || list_any is_start (d ∷ [])) e

pub which : (kind : StmtKind) → (kind ≡ statement.FnStart) ⊎ ((kind ≡ statement.FnEnd) ⊎ (bounds_function kind ≡ false))
which statement.FnStart = inl refl
which statement.FnEnd = inr (inl refl)
which _ = inr (inr refl)

-- inside of a function, a statement that bounds none adds its directive, if it is one
pub record Went (frame : Frame) (stmt : Stmt) (more : List Stmt) : Type 0 where
  pub onward : Frame
  pub shape : Shape true onward
  pub rest : unwind_faults_from onward more ≡ []
  pub entries : entries_from frame (stmt ∷ more) ≡ entries_from onward more
  pub directives : onward.directives ≡ frame.directives ++ cons_option (directive_of stmt.kind) []

plain_after : (frame : Frame) (line : ℕ) (d : UnwindDirective) → is_start d ≡ false → is_end d ≡ false
    → (frame_after frame line d ≡ record { directives = frame.directives ++ d ∷ []; start = frame.start }) × (ended_entry frame d None ≡ [])
plain_after frame line unwind.FnStart s e = absurd (true≢false s)
plain_after frame line unwind.FnEnd s e = absurd (true≢false e)
plain_after frame line _ s e = (refl, refl)

pub goes_on : (frame : Frame) (stmt : Stmt) (more : List Stmt) → Shape true frame → bounds_function stmt.kind ≡ false → unwind_faults_from frame (stmt ∷ more) ≡ []
    → Went frame stmt more
goes_on frame stmt more shape plain e = by (directive_of stmt.kind) refl
  where
    by : (o : Option UnwindDirective) → directive_of stmt.kind ≡ o → Went frame stmt more
    by None is =
        let rest = taken_none frame stmt more is e in
        record {
          onward = frame;
          shape = shape;
          rest = rest.0;
          entries = rest.1;
          directives = sym (append-nil frame.directives) ∙ ap (λ o. frame.directives ++ cons_option o []) (sym is);
        }
    by (Some d) is =
        let taken = taken_directive frame stmt more d is e in
        let none = bounds_none stmt.kind d plain is in
        let next = plain_after frame stmt.line d none.0 none.1 in
        let N : Frame → Type 0 = λ f. unwind_faults_from f more ≡ [] in
        record {
          onward = record { directives = frame.directives ++ d ∷ []; start = frame.start };
          shape = (any_after frame.directives d shape.0, shape.1);
          rest = subst N next.0 taken.rest;
          entries = taken.entries ∙ ap (λ front. front ++ entries_from (frame_after frame stmt.line d) more) next.1 ∙ ap (λ f. entries_from f more) next.0;
          directives = ap (λ o. frame.directives ++ cons_option o []) (sym is);
        }

-- what the `.fnend` of an open function gives
pub record Ended (frame : Frame) (between : List Stmt) (line : ℕ) (after : List Stmt) : Type 0 where
  pub words : EntryWords
  pub given : entry_words_of (frame.directives ++ directives_in between ++ unwind.FnEnd ∷ []) ≡ Ok words
  pub entries : entries_from frame (between ++ end_at line ∷ after) ≡ Some words ∷ entries_from no_frame after
  pub rest : unwind_faults_from no_frame after ≡ []

pub regroup : (ds : List UnwindDirective) (o : Option UnwindDirective) (more following : List UnwindDirective) → ds ++ cons_option o [] ++ more ++ following ≡ ds ++ cons_option o more ++ following
regroup ds None more following = ap (λ l. l ++ more ++ following) (append-nil ds)
regroup ds (Some d) more following = ap (λ l. l ++ following) (append_assoc ds (d ∷ []) more)

pub ended_with : (frame : Frame) (between : List Stmt) (line : ℕ) (after : List Stmt) → Shape true frame → HasNoBound between
    → unwind_faults_from frame (between ++ end_at line ∷ after) ≡ [] → Ended frame between line after
ended_with frame [] line after shape plain e =
    let taken = taken_directive frame (end_at line) after unwind.FnEnd refl e in
    by (entry_words_of (frame.directives ++ unwind.FnEnd ∷ [])) refl taken.faults taken.entries taken.rest
  where
    by : (r : Result EntryWords UnwindFault) → entry_words_of (frame.directives ++ unwind.FnEnd ∷ []) ≡ r → entry_faults line (entry_words_of (frame.directives ++ unwind.FnEnd ∷ [])) ≡ []
        → entries_from frame (end_at line ∷ after) ≡ entry_or_none (entry_words_of (frame.directives ++ unwind.FnEnd ∷ [])) ∷ [] ++ entries_from no_frame after
        → unwind_faults_from no_frame after ≡ [] → Ended frame [] line after
    by (Ok words) is f en rest = record {
      words = words;
      given = ap (λ l. entry_words_of (l ++ unwind.FnEnd ∷ [])) (append-nil frame.directives) ∙ is;
      entries = en ∙ ap (λ r. entry_or_none r ∷ entries_from no_frame after) is;
      rest = rest;
    }
    by (Err fault) is f en rest =
        let F : Result EntryWords UnwindFault → Type 0 = λ r. entry_faults line r ≡ [] in
        let none : entry_faults line (Err fault) ≡ [] = subst F is f in absurd (cc)
ended_with frame (stmt ∷ between) line after shape plain e =
    let parts = or_parts (bounds_function stmt.kind) (list_any (λ s. bounds_function s.kind) between) plain in
    let went = goes_on frame stmt (between ++ end_at line ∷ after) shape parts.0 e in
    let ended = ended_with went.onward between line after went.shape parts.1 went.rest in
    record {
      words = ended.words;
      given =
          sym (ap (λ ds. entry_words_of (ds ++ directives_in between ++ unwind.FnEnd ∷ [])) went.directives
          ∙ ap entry_words_of (regroup frame.directives (directive_of stmt.kind) (directives_in between) (unwind.FnEnd ∷ [])))
          ∙ ended.given;
      entries = went.entries ∙ ended.entries;
      rest = ended.rest;
    }

-- a second `.fnstart` in a function is refused
pub no_second : (frame : Frame) (stmt : Stmt) (more : List Stmt) → Shape true frame → stmt.kind ≡ statement.FnStart → unwind_faults_from frame (stmt ∷ more) ≡ [] → ⊥
no_second frame stmt more shape is e = nested frame.directives shape.0 (taken_directive frame stmt more unwind.FnStart (ap directive_of is) e).refusal

-- an open function is closed
pub closes : (frame : Frame) (stmts : List Stmt) → Shape true frame → unwind_faults_from frame stmts ≡ [] → IsClosed stmts
unfolding unwind_faults_from
closes frame [] shape e =
    let line = shape.1.0 in
    let F : Option ℕ → Type 0 = λ o. open_faults o ≡ [] in
    let none : open_faults (Some line) ≡ [] = subst F shape.1.1 e in absurd (cc)
closes frame (stmt ∷ more) shape e =
    elim (which stmt.kind) [
      | inl is ↦ absurd (no_second frame stmt more shape is e)
      | inr other ↦ elim other [
        | inl is ↦ record {
          between = [];
          end_line = stmt.line;
          after = more;
          split = ap (λ k. record { line = stmt.line; kind = k } ∷ more) is;
          unbounded = refl;
        }
        | inr plain ↦
            let went = goes_on frame stmt more shape plain e in
            let closed = closes went.onward more went.shape went.rest in
            record {
              between = stmt ∷ closed.between;
              end_line = closed.end_line;
              after = closed.after;
              split = ap (λ l. stmt ∷ l) closed.split;
              unbounded = ap (λ b. b || list_any (λ s. bounds_function s.kind) closed.between) plain ∙ closed.unbounded;
            }
      ]
    ]

-- the frame after a `.fnstart`
pub record Begun (line : ℕ) (more : List Stmt) : Type 0 where
  pub rest : unwind_faults_from (record { directives = unwind.FnStart ∷ []; start = Some line }) more ≡ []
  pub entries : entries_from no_frame (start_at line ∷ more) ≡ entries_from (record { directives = unwind.FnStart ∷ []; start = Some line }) more

pub begun : (line : ℕ) (more : List Stmt) → unwind_faults_from no_frame (start_at line ∷ more) ≡ [] → Begun line more
begun line more e =
    let taken = taken_directive no_frame (start_at line) more unwind.FnStart refl e in
    record { rest = taken.rest; entries = taken.entries }

-- outside of a function there is no `.fnend`
pub no_end : (stmt : Stmt) (more : List Stmt) → stmt.kind ≡ statement.FnEnd → unwind_faults_from no_frame (stmt ∷ more) ≡ [] → ⊥
no_end stmt more is e = outside unwind.FnEnd refl (taken_directive no_frame stmt more unwind.FnEnd (ap directive_of is) e).refusal

-- after any statements of an accepted source, a `.fnstart` is closed
pub closed_after : (frame : Frame) (before : List Stmt) (line : ℕ) (more : List Stmt) (opened : Bool) → Shape opened frame → unwind_faults_from frame (before ++ start_at line ∷ more) ≡ []
    → IsClosed more
closed_after frame [] line more true shape e = absurd (no_second frame (start_at line) more shape refl e)
closed_after frame [] line more false shape e =
    let T : Frame → Type 0 = λ f. unwind_faults_from f (start_at line ∷ more) ≡ [] in
    closes (record { directives = unwind.FnStart ∷ []; start = Some line }) more (refl, (line, refl)) (begun line more (subst T shape e)).rest
closed_after frame (stmt ∷ before) line more true shape e =
    elim (which stmt.kind) [
      | inl is ↦ absurd (no_second frame stmt (before ++ start_at line ∷ more) shape is e)
      | inr other ↦ elim other [
        | inl is ↦
            closed_after no_frame before line more false refl
            (taken_directive frame stmt (before ++ start_at line ∷ more) unwind.FnEnd (ap directive_of is) e).rest
        | inr plain ↦
            let went = goes_on frame stmt (before ++ start_at line ∷ more) shape plain e in
            closed_after went.onward before line more true went.shape went.rest
      ]
    ]
closed_after frame (stmt ∷ before) line more false shape e =
    let T : Frame → Type 0 = λ f. unwind_faults_from f (stmt ∷ before ++ start_at line ∷ more) ≡ [] in
    elim (which stmt.kind) [
      | inl is ↦
          closed_after (record { directives = unwind.FnStart ∷ []; start = Some stmt.line }) before line more true (refl, (stmt.line, refl))
          (taken_directive no_frame stmt (before ++ start_at line ∷ more) unwind.FnStart (ap directive_of is) (subst T shape e)).rest
      | inr other ↦ elim other [
        | inl is ↦ absurd (no_end stmt (before ++ start_at line ∷ more) is (subst T shape e))
        | inr plain ↦
            let none = plain_outside stmt (before ++ start_at line ∷ more) plain (subst T shape e) in
            closed_after frame before line more false shape (taken_none frame stmt (before ++ start_at line ∷ more) none e).0
      ]
    ]
