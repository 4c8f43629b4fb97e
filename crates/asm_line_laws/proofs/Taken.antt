-- Each statement that is read stands as one of its lines.
use Rattle.std.proofs.Common.{◌≡◌, inl, inr, ℕ, ◌+◌, Bool, true, false, ◌&&◌, if◌then◌else◌, List, [], ◌∷◌, ◌++◌, Option, Some, None, Result, Ok, Err, refl, ap, sym, subst}
use Rattle.std.specs.Prelude.{nat_lt}
use Rattle.std.specs.Cmp.Lexicographic.{same_text}
use Rattle.asm_read.specs.declared.token.TokenKind.{TokenKind}
use Rattle.asm_read.specs.declared.token.TokenKind.TheVariants as kind
use Rattle.asm_read.specs.declared.token.Token.{Token}
use Rattle.asm_read.specs.declared.line.Span.{Span}
use Rattle.asm_read.specs.declared.line.LineEnd.{LineEnd}
use Rattle.asm_read.specs.declared.form.Operands.{Operands}
use Rattle.asm_read.specs.declared.choice.Statement.{Statement}
use Rattle.asm_read.specs.declared.plan.LineContent.{LineContent}
use Rattle.asm_read.specs.declared.fault.SourceFault.{SourceFault}
use Rattle.asm_read.specs.declared.read.TheConstants.{MOST_LINES}
use Rattle.asm_statements.specs.declared.statement.Stmt.{Stmt}
use Rattle.asm_read.specs.Tokens.{token_at}
use Rattle.asm_read.specs.Fault.{fault_at}
use Rattle.asm_read.specs.Operands.{◌>>=◌, span, bytes_of, same, name_of, past_if, is_mark_of, mark_at, name_span, name_at}
use Rattle.asm_read.specs.Fits.{no_operands, read_pieces}
use Rattle.asm_read.specs.Patterns.{pieces_of}
use Rattle.asm_read.specs.Forms.{TableRow, directives, a_to_b, c_to_l, m_to_z, rows}
use Rattle.asm_read.specs.Search.{farther_end, form_attempt, try_form, or_else_form, first_fit}
use Rattle.asm_read.specs.Plans.{is_passed, fit_or_stop, word_statement, statement_from_token, statement_at, is_word, plan, plan_of, not_plain_at, too_long, earlier_end, stop_of, unless, line_plan}
use Rattle.asm_read.specs.Statements.{kind_of as kind_made}
use Rattle.asm_read.specs.Reading.{lines_of, statement_stmts, stmts_of, line_as, line_of, then_append_stmts, excess_fault, read_lines, source_stmts}
use Rattle.asm_line_laws.specs.Lines.{lines, OneStands}
use Rattle.asm_line_laws.specs.Read.{StandAfter, AreOfLine, AreOfLines, WasWritten}
use Rattle.asm_line_laws.proofs.Going.{goes}
use Rattle.asm_line_laws.proofs.Reading.{ReadsItsLine, Each, directives_read, a_to_b_read, c_to_l_read, m_to_z_read}

each_append : (P : TableRow → Type 0) (rs qs : List TableRow) → Each P rs → Each P qs → Each P (rs ++ qs)
each_append P [] qs a b = b
each_append P (r ∷ rs) qs a b = (a.0, each_append P rs qs a.1 b)

rows_read : Each ReadsItsLine rows
unfolding rows
rows_read = each_append ReadsItsLine directives (a_to_b ++ (c_to_l ++ m_to_z)) directives_read (each_append ReadsItsLine a_to_b (c_to_l ++ m_to_z) a_to_b_read (each_append ReadsItsLine c_to_l m_to_z c_to_l_read m_to_z_read))

-- one of the lines of this statement stands after a word
abbrev Stands : List ℕ → List ℕ → ℕ → Statement → Type 0
Stands source word from s = OneStands source word from (lines (kind_made source s))

row_stands : (row : TableRow) (source word : List ℕ) (from : ℕ) (o : Operands) (s : Statement) → ReadsItsLine row → same row.word word ≡ true → read_pieces (pieces_of row.form.operands) source (no_operands from) ≡ Ok o → record { makes = row.form.makes; operands = o } ≡ s → Stands source word from s
unfolding kind_made
row_stands row source word from o s reads is fit e =
    subst (λ x. Stands source word from x) e
    (subst (λ w. OneStands source w from (lines (kind_made source (record { makes = row.form.makes; operands = o })))) (same_text row.word word (sym is))
    (reads source from o (goes (pieces_of row.form.operands) source (no_operands from) o fit)))

tried_stands : (row : TableRow) (source word : List ℕ) (from : ℕ) (best : Option LineEnd) (s : Statement) (r : Result Operands LineEnd) (next : Option LineEnd → Result Statement (Option LineEnd)) → ReadsItsLine row → same row.word word ≡ true → read_pieces (pieces_of row.form.operands) source (no_operands from) ≡ r → ((b : Option LineEnd) → next b ≡ Ok s → Stands source word from s) → or_else_form (form_attempt row.form.makes best r) next ≡ Ok s → Stands source word from s
tried_stands row source word from best s (Ok o) next reads is fit more h =
    row_stands row source word from o s reads is fit (let q : record { makes = row.form.makes; operands = o } ≡ s = cc in q)
tried_stands row source word from best s (Err t) next reads is fit more h = more (Some (farther_end best t)) h

by_word : (row : TableRow) (source word : List ℕ) (from : ℕ) (best : Option LineEnd) (s : Statement) (b : Bool) (next : Option LineEnd → Result Statement (Option LineEnd)) → ReadsItsLine row → same row.word word ≡ b → ((c : Option LineEnd) → next c ≡ Ok s → Stands source word from s) → or_else_form (if b then form_attempt row.form.makes best (read_pieces (pieces_of row.form.operands) source (no_operands from)) else Err best) next ≡ Ok s → Stands source word from s
by_word row source word from best s true next reads is more h =
    tried_stands row source word from best s (read_pieces (pieces_of row.form.operands) source (no_operands from)) next reads is refl more h
by_word row source word from best s false next reads is more h = more best h

first_stands : (rs : List TableRow) (source word : List ℕ) (from : ℕ) (best : Option LineEnd) (s : Statement) → Each ReadsItsLine rs → first_fit rs word source from best ≡ Ok s → Stands source word from s
unfolding first_fit try_form
first_stands [] source word from best s all h = cc
first_stands (row ∷ more) source word from best s all h =
    by_word row source word from best s (same row.word word) (λ c. first_fit more word source from c) all.0 refl (λ c g. first_stands more source word from c s all.1 g) h

-- ---- what a line has at a place

taken : (source word : List ℕ) (token : Token) (from : ℕ) (r : Result Statement (Option LineEnd)) (so : Option Statement) → fit_or_stop token word r ≡ Ok so → (s : Statement) × (r ≡ Ok s) × (so ≡ Some s)
taken source word token from (Ok s) so h = (s, refl, sym (let q : Some s ≡ so = cc in q))
taken source word token from (Err None) so h = cc
taken source word token from (Err (Some t)) so h = cc

by_passing : (number : ℕ) (source : List ℕ) (from : ℕ) (so : Option Statement) (b : Bool) → (token_at source from).kind ≡ kind.Word → is_passed (name_of source (token_at source from)) ≡ b → (if b then Ok None else fit_or_stop (token_at source from) (name_of source (token_at source from)) (first_fit rows (name_of source (token_at source from)) source (token_at source from).end None)) ≡ Ok so → StandAfter number source from (statement_stmts number source so)
by_passing number source from so true k p h =
    subst (λ x. StandAfter number source from (statement_stmts number source x)) (let q : None ≡ so = cc in q) (inr (k, p))
by_passing number source from so false k p h =
    let word = name_of source (token_at source from) in
    let t = taken source word (token_at source from) (token_at source from).end (first_fit rows word source (token_at source from).end None) so h in
    subst (λ x. StandAfter number source from (statement_stmts number source x)) (sym t.2)
    (refl, (k, first_stands rows source word (token_at source from).end None t.0 rows_read t.1))

by_kind : (number : ℕ) (source : List ℕ) (from : ℕ) (so : Option Statement) (k : TokenKind) → (token_at source from).kind ≡ k → statement_from_token source (token_at source from) k ≡ Ok so → StandAfter number source from (statement_stmts number source so)
unfolding word_statement
by_kind number source from so kind.Word e h =
    by_passing number source from so (is_passed (name_of source (token_at source from))) e refl h
by_kind number source from so kind.End e h =
    subst (λ x. StandAfter number source from (statement_stmts number source x)) (let q : None ≡ so = cc in q) (inl e)
by_kind number source from so k e h = cc

after_stands : (number : ℕ) (source : List ℕ) (from : ℕ) (so : Option Statement) → statement_at source from ≡ Ok so → StandAfter number source from (statement_stmts number source so)
unfolding statement_at
after_stands number source from so h = by_kind number source from so (token_at source from).kind refl h

-- ---- a line

planned : (r : Result (Option Statement) LineEnd) (label : Option Span) (p : LineContent) → (r >>= (λ s. Ok (plan label s))) ≡ Ok p → (so : Option Statement) × (r ≡ Ok so) × (p ≡ plan label so)
planned (Ok so) label p h = (so, refl, sym (let q : plan label so ≡ p = cc in q))
planned (Err t) label p h = cc

is_name_kind : (k : TokenKind) (b : Bool) → (is_word k && b) ≡ true → k ≡ kind.Word
is_name_kind kind.Word b h = refl
is_name_kind k b h = cc

is_colon : (a b : Bool) → (a && b) ≡ true → b ≡ true
is_colon true b h = h
is_colon false b h = cc

name_there : (source : List ℕ) (from : ℕ) → (token_at source from).kind ≡ kind.Word → name_at source from ≡ Ok (span (token_at source from).start (token_at source from).end)
unfolding name_at
name_there source from e = ap (name_span (token_at source from)) e

colon_there : (source : List ℕ) (from : ℕ) → is_mark_of 58 (token_at source from).kind ≡ true → mark_at 58 source from ≡ Ok (token_at source from).end
unfolding mark_at
colon_there source from e = ap (λ b. past_if b (token_at source from)) e

by_label : (number : ℕ) (source : List ℕ) (p : LineContent) (b : Bool) →
    let token = token_at source 0 in
    let colon = token_at source token.end in
    (is_word token.kind && is_mark_of 58 colon.kind) ≡ b → (if b then (statement_at source colon.end >>= (λ s. Ok (plan (Some (span token.start token.end)) s))) else (statement_at source 0 >>= (λ s. Ok (plan None s)))) ≡ Ok p → AreOfLine number source (stmts_of number source p)
by_label number source p true e h =
    let token = token_at source 0 in
    let colon = token_at source token.end in
    let t = planned (statement_at source colon.end) (Some (span token.start token.end)) p h in
    subst (λ x. AreOfLine number source (stmts_of number source x)) (sym t.2)
    (inr (bytes_of source (span token.start token.end), token.end, colon.end, refl, (token.start, name_there source 0 (is_name_kind token.kind (is_mark_of 58 colon.kind) e), refl), colon_there source token.end (is_colon (is_word token.kind) (is_mark_of 58 colon.kind) e), after_stands number source colon.end t.0 t.1))
by_label number source p false e h =
    let t = planned (statement_at source 0) None p h in
    subst (λ x. AreOfLine number source (stmts_of number source x)) (sym t.2) (inl (after_stands number source 0 t.0 t.1))

plan_stands : (number : ℕ) (source : List ℕ) (p : LineContent) → plan_of source ≡ Ok p → AreOfLine number source (stmts_of number source p)
unfolding plan_of
plan_stands number source p h =
    by_label number source p (is_word (token_at source 0).kind && is_mark_of 58 (token_at source (token_at source 0).end).kind) refl h

unstopped : (s : Option LineEnd) (r : Result LineContent LineEnd) (p : LineContent) → unless s r ≡ Ok p → r ≡ Ok p
unstopped None r p h = h
unstopped (Some t) r p h = cc

line_plan_is : (source : List ℕ) (p : LineContent) → line_plan source ≡ Ok p → plan_of source ≡ Ok p
unfolding line_plan
line_plan_is source p h = unstopped (earlier_end (earlier_end (not_plain_at 0 source) (too_long source)) (stop_of (plan_of source))) (plan_of source) p h

by_plan : (number : ℕ) (source : List ℕ) (stmts : List Stmt) (r : Result LineContent LineEnd) → line_plan source ≡ r → line_as number source r ≡ Ok stmts → AreOfLine number source stmts
by_plan number source stmts (Ok p) e h =
    subst (λ x. AreOfLine number source x) (let q : stmts_of number source p ≡ stmts = cc in q) (plan_stands number source p (line_plan_is source p e))
by_plan number source stmts (Err t) e h = cc

line_stands : (number : ℕ) (source : List ℕ) (stmts : List Stmt) → line_of number source ≡ Ok stmts → AreOfLine number source stmts
line_stands number source stmts h = by_plan number source stmts (line_plan source) refl h

-- ---- a text

joined : (b : Bool) (f : SourceFault) (here more : Result (List Stmt) SourceFault) (stmts : List Stmt) → (if b then Err f else then_append_stmts here more) ≡ Ok stmts → (xs : List Stmt) × (ys : List Stmt) × (here ≡ Ok xs) × (more ≡ Ok ys) × (stmts ≡ xs ++ ys)
joined true f here more stmts h = cc
joined false f (Ok xs) (Ok ys) stmts h = (xs, ys, refl, refl, sym (let q : xs ++ ys ≡ stmts = cc in q))
joined false f (Ok xs) (Err e) stmts h = cc
joined false f (Err e) more stmts h = cc

lines_stand : (number : ℕ) (sources : List (List ℕ)) (stmts : List Stmt) → read_lines number sources ≡ Ok stmts → AreOfLines number sources stmts
unfolding read_lines
lines_stand number [] stmts h = sym (let q : [] ≡ stmts = cc in q)
lines_stand number (source ∷ sources) stmts h =
    let j = joined (nat_lt MOST_LINES number) (fault_at number 1 (excess_fault source)) (line_of number source) (read_lines (number + 1) sources) stmts h in
    (j.0, j.1, j.4, line_stands number source j.0 j.2, lines_stand (number + 1) sources j.1 j.3)

pub was_written : WasWritten
unfolding source_stmts
was_written text stmts h = lines_stand 1 (lines_of text) stmts h
