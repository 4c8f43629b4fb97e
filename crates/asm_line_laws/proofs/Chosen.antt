-- The form that tokens choose among rows, and what the reader makes of a line that has these tokens.
use Rattle.std.proofs.Common.{◌≡◌, ℕ, ◌+◌, ◌<◌, ◌≤◌, ◌==◌, ◌&&◌, not, Bool, true, false, if◌then◌else◌, List, [], ◌∷◌, ◌++◌, length, Option, Some, None, Result, Ok, Err, refl, ap, sym, subst, ◌∙◌, arith, length-append}
use Rattle.std.proofs.lemmas.List.{append-nil, drop_at}
use Rattle.std.proofs.lemmas.Bool.{ne_eqb, le-ltb}
use Rattle.asm_read.specs.declared.token.TokenKind.TheVariants.{Word}
use Rattle.asm_read.specs.declared.line.LineEnd.{LineEnd}
use Rattle.asm_read.specs.declared.form.Operands.{Operands}
use Rattle.asm_read.specs.declared.makes.Makes.{Makes}
use Rattle.asm_read.specs.declared.choice.Statement.{Statement}
use Rattle.asm_read.specs.declared.plan.LineContent.{LineContent}
use Rattle.asm_read.specs.declared.plan.TheConstants.{LONGEST}
use Rattle.asm_statements.specs.declared.statement.StmtKind.{StmtKind}
use Rattle.asm_read.specs.Tokens.{front_of, token, token_at}
use Rattle.asm_read.specs.declared.fault.SourceWhat.TheVariants.{NotAscii, LineTooLong}
use Rattle.asm_read.specs.Operands.{◌>>=◌, span, stop, same, is_mark_of, bytes_of, name_in}
use Rattle.asm_read.specs.Fits.{no_operands, read_pieces}
use Rattle.asm_read.specs.Patterns.{pieces_of}
use Rattle.asm_read.specs.Forms.{TableRow, rows}
use Rattle.asm_read.specs.Search.{form_attempt, try_form, or_else_form, first_fit, farther_end}
use Rattle.asm_read.specs.Plans.{is_passed, fit_or_stop, word_statement, statement_from_token, statement_at, is_word, plan, plan_of, not_plain, not_plain_at, too_long, earlier_end, stop_of, unless, line_plan}
use Rattle.asm_read.specs.Statements.{kind_of as kind_made}
use Rattle.asm_read.specs.Reading.{in_front, lines_of, stmt, stmts_of, line_as, then_append_stmts, read_lines, source_stmts}
use Rattle.asm_line_laws.specs.Written.{is_name}
use Rattle.asm_line_laws.proofs.Texts.{plain, and_left, and_right, not_true, front_of_name, blank_of_name, both, name_plain}
use Rattle.asm_read.specs.declared.line.Span.{Span}
use Rattle.asm_statements.specs.declared.statement.StmtKind.TheVariants.{Label}
use Rattle.std.proofs.lemmas.List.Folds.{list_all-append}
use Rattle.asm_line_laws.proofs.Heads.{head_of}
use Rattle.asm_line_laws.proofs.Items.{Item, flat}
use Rattle.asm_line_laws.proofs.Toks.{Tok, word, spelled, AllEnd, head_kind, Reads, reads, token_lead, bytes_at, filled, toks_few, sign, Ends}
use Rattle.asm_line_laws.proofs.Fitted.{Vals, none_yet, Step, went, refused, unknown, fitted, Agrees, Follows, fits_follows}

pub data Choice : Type 0 where
  picked : Makes → Vals → Choice
  nothing : Choice

abbrev pub if_went : Makes → Step → Choice → Choice
if_went makes (went ts v) more = picked makes v
if_went makes refused more = more
if_went makes unknown more = nothing

-- the first of these forms that begins with a word and fits
abbrev pub chosen : List TableRow → List ℕ → List Item → Choice
chosen [] w ts = nothing
chosen (f ∷ fs) w ts = if same f.word w then if_went f.form.makes (fitted (pieces_of f.form.operands) ts none_yet) (chosen fs w ts) else chosen fs w ts

-- the reader's statement with these values
abbrev pub Chooses : List ℕ → Result Statement (Option LineEnd) → Makes → Vals → Type 0
Chooses line r m v = (o : Operands) × (r ≡ Ok (record { makes = m; operands = o })) × Agrees line o v

agreed : (line : List ℕ) (o : Operands) (m n : Makes) (v w : Vals) → Agrees line o w → picked n w ≡ picked m v → Chooses line (Ok (record { makes = n; operands = o })) m v
agreed line o m n v w a e =
    let f : n ≡ m = cc in
    let g : w ≡ v = cc in
    (o, ap (λ k. Ok (record { makes = k; operands = o })) f, subst (λ x. Agrees line o x) g a)

tried_chooses : (line : List ℕ) (n m : Makes) (v : Vals) (best : Option LineEnd) (r : Result Operands LineEnd) (s : Step) (more : Choice) (next : Option LineEnd → Result Statement (Option LineEnd)) → Follows line r s → ((b : Option LineEnd) → more ≡ picked m v → Chooses line (next b) m v) → if_went n s more ≡ picked m v → Chooses line (or_else_form (form_attempt n best r) next) m v
tried_chooses line n m v best (Ok o) (went ts w) more next h k e = agreed line o m n v w h.0 e
tried_chooses line n m v best (Ok o) refused more next h k e = absurd h
tried_chooses line n m v best (Ok o) unknown more next h k e = cc
tried_chooses line n m v best (Err s) (went ts w) more next h k e = absurd h
tried_chooses line n m v best (Err s) refused more next h k e = k (Some (farther_end best s)) e
tried_chooses line n m v best (Err s) unknown more next h k e = cc

pub first_chooses : (fs : List TableRow) (w line : List ℕ) (from : ℕ) (best : Option LineEnd) (ts : List Item) (m : Makes) (v : Vals) → Agrees line (no_operands from) none_yet → Reads line from (flat ts) → chosen fs w ts ≡ picked m v → Chooses line (first_fit fs w line from best) m v
unfolding first_fit try_form
first_chooses [] w line from best ts m v a h e = cc
first_chooses (f ∷ fs) w line from best ts m v a h e =
    (elim (same f.word w) as (λ b. (if b then if_went f.form.makes (fitted (pieces_of f.form.operands) ts none_yet) (chosen fs w ts) else chosen fs w ts) ≡ picked m v → Chooses line (or_else_form (if b then form_attempt f.form.makes best (read_pieces (pieces_of f.form.operands) line (no_operands from)) else Err best) (λ c. first_fit fs w line from c)) m v) [
      | true ↦ λ d. tried_chooses line f.form.makes m v best (read_pieces (pieces_of f.form.operands) line (no_operands from)) (fitted (pieces_of f.form.operands) ts none_yet) (chosen fs w ts) (λ c. first_fit fs w line from c) (fits_follows (pieces_of f.form.operands) line (no_operands from) ts none_yet a h) (λ c g. first_chooses fs w line from c ts m v a h g) d
      | false ↦ λ d. first_chooses fs w line from best ts m v a h d
    ]) e

nothing_yet : (line : List ℕ) (from : ℕ) → Agrees line (no_operands from) none_yet
nothing_yet line from = record { first = refl; second = refl; third = refl; list = refl; number = refl; name = refl; value = tt }

-- operands after their word
abbrev pub after_word : List Tok → List ℕ
after_word [] = []
after_word (t ∷ ts) = 32 ∷ spelled (t ∷ ts)

-- the word, and then the operands
line_reads : (w : List ℕ) (ts : List Tok) → is_name w ≡ true → AllEnd ts → Reads (w ++ after_word ts) 0 (word w ∷ ts)
line_reads w [] n h =
    let here = token_lead false (w ++ []) (w ++ []) 0 Word (length w) refl (blank_of_name w [] n) (front_of_name w [] n refl) in
    (token 0 (0 + length w) Word, record { is = here; kind = refl; name = bytes_at (w ++ []) w [] 0 (filled w n) refl; register = refl; few = omega (arith, filled w n, length-append w []); text = tt }, reads (w ++ []) [] false (0 + length w) tt (drop_at w [] (0 + length w) (omega arith)))
line_reads w (t ∷ ts) n h =
    let rest = 32 ∷ spelled (t ∷ ts) in
    let here = token_lead false (w ++ rest) (w ++ rest) 0 Word (length w) refl (blank_of_name w rest n) (front_of_name w rest n refl) in
    (token 0 (0 + length w) Word, record { is = here; kind = refl; name = bytes_at (w ++ rest) w rest 0 (filled w n) refl; register = refl; few = omega (arith, filled w n, length-append w rest, toks_few (t ∷ ts) h); text = tt }, reads (w ++ rest) (t ∷ ts) true (0 + length w) h (drop_at w rest (0 + length w) (omega arith)))

and_no : (a : Bool) → (a && false) ≡ false
and_no true = refl
and_no false = refl

-- what a line with these tokens holds
plan_reads : (line w : List ℕ) (ts : List Item) (m : Makes) (v : Vals) → Reads line 0 (word w ∷ flat ts) → is_passed w ≡ false → is_mark_of 58 (head_kind (flat ts)) ≡ false → chosen rows w ts ≡ picked m v → (o : Operands) × (plan_of line ≡ Ok (plan None (Some (record { makes = m; operands = o })))) × Agrees line o v
unfolding plan_of statement_at word_statement
plan_reads line w ts m v h passed colon e =
    let found = h.0 in
    let next = head_of line found.end (flat ts) h.2 in
    let choice = first_chooses rows w line found.end None ts m v (nothing_yet line found.end) h.2 e in
    let no_label : (is_word found.kind && is_mark_of 58 (token_at line found.end).kind) ≡ false =
    ap (λ c. is_word found.kind && is_mark_of 58 c.kind) next.1.is
    ∙ ap (λ k. is_word found.kind && is_mark_of 58 k) next.1.kind
    ∙ ap (λ b. is_word found.kind && b) colon
    ∙ and_no (is_word found.kind) in
    let stated : statement_at line 0 ≡ Ok (Some (record { makes = m; operands = choice.0 })) =
    ap (λ t. statement_from_token line t t.kind) h.1.is
    ∙ ap (λ k. statement_from_token line found k) h.1.kind
    ∙ ap (λ n. if is_passed n then Ok None else fit_or_stop found n (first_fit rows n line found.end None)) h.1.name
    ∙ ap (λ b. if b then Ok None else fit_or_stop found w (first_fit rows w line found.end None)) passed
    ∙ ap (fit_or_stop found w) choice.1 in (
      choice.0,
      ap (λ t. if is_word t.kind && is_mark_of 58 (token_at line t.end).kind then (statement_at line (token_at line t.end).end >>= (λ s. Ok (plan (Some (span t.start t.end)) s))) else (statement_at line 0 >>= (λ s. Ok (plan None s)))) h.1.is
          ∙ ap (λ b. if b then (statement_at line (token_at line found.end).end >>= (λ s. Ok (plan (Some (span found.start found.end)) s))) else (statement_at line 0 >>= (λ s. Ok (plan None s)))) no_label
          ∙ ap (λ r. r >>= (λ s. Ok (plan None s))) stated,
      choice.2,
    )

no_feed : (b : ℕ) → not (not_plain b) ≡ true → (b == 10) ≡ false
no_feed b h = ne_eqb b 10 (λ e. let f : false ≡ true = ap (λ x. not (not_plain x)) (sym e) ∙ h in cc)

-- bytes that may stand in a source are one line
lines_one : (b : ℕ) (bs : List ℕ) → plain (b ∷ bs) ≡ true → lines_of (b ∷ bs) ≡ (b ∷ bs) ∷ []
unfolding lines_of
lines_one b [] h = ap (λ t. if t then [] ∷ lines_of [] else in_front b (lines_of [])) (no_feed b (and_left (not (not_plain b)) true h))
lines_one b (c ∷ cs) h =
    ap (λ t. if t then [] ∷ lines_of (c ∷ cs) else in_front b (lines_of (c ∷ cs))) (no_feed b (and_left (not (not_plain b)) (plain (c ∷ cs)) h))
    ∙ ap (in_front b) (lines_one c cs (and_right (not (not_plain b)) (plain (c ∷ cs)) h))

all_plain : (at : ℕ) (bs : List ℕ) → plain bs ≡ true → not_plain_at at bs ≡ None
all_plain at [] h = refl
all_plain at (b ∷ bs) h =
    ap (λ t. if t then Some (stop at NotAscii) else not_plain_at (at + 1) bs) (not_true (not_plain b) (and_left (not (not_plain b)) (plain bs) h))
    ∙ all_plain (at + 1) bs (and_right (not (not_plain b)) (plain bs) h)

short : (line : List ℕ) → length line ≤ LONGEST → too_long line ≡ None
short line h = ap (λ t. if t then Some (stop LONGEST LineTooLong) else None) (le-ltb LONGEST (length line) h)

plan_line : (line : List ℕ) (p : LineContent) → not_plain_at 0 line ≡ None → too_long line ≡ None → plan_of line ≡ Ok p → line_plan line ≡ Ok p
unfolding line_plan
plan_line line p a b c =
    ap (λ x. unless (earlier_end (earlier_end x (too_long line)) (stop_of (plan_of line))) (plan_of line)) a
    ∙ ap (λ x. unless (earlier_end (earlier_end None x) (stop_of (plan_of line))) (plan_of line)) b
    ∙ ap (λ q. unless (earlier_end (earlier_end None None) (stop_of q)) q) c

-- a text of one line that may stand in a source
pub read_one : (b : ℕ) (bs : List ℕ) (p : LineContent) → plain (b ∷ bs) ≡ true → length (b ∷ bs) ≤ LONGEST → plan_of (b ∷ bs) ≡ Ok p → source_stmts (b ∷ bs) ≡ Ok (stmts_of 1 (b ∷ bs) p)
unfolding source_stmts read_lines
read_one b bs p h small e =
    ap (read_lines 1) (lines_one b bs h)
    ∙ ap (λ r. then_append_stmts (line_as 1 (b ∷ bs) r) (Ok [])) (plan_line (b ∷ bs) p (all_plain 0 (b ∷ bs) h) (short (b ∷ bs) small) e)
    ∙ ap (λ x. Ok x) (append-nil (stmts_of 1 (b ∷ bs) p))

-- a line of a word and these tokens is the statement of the form that they choose
pub line_is : (w : List ℕ) (ts : List Item) (m : Makes) (v : Vals) (k : StmtKind) → is_name w ≡ true → is_passed w ≡ false → AllEnd (flat ts) → is_mark_of 58 (head_kind (flat ts)) ≡ false → plain (w ++ after_word (flat ts)) ≡ true → length (w ++ after_word (flat ts)) ≤ 256 → chosen rows w ts ≡ picked m v → ((line : List ℕ) (o : Operands) → Agrees line o v → kind_made line (record { makes = m; operands = o }) ≡ k) → source_stmts (w ++ after_word (flat ts)) ≡ Ok (stmt 1 k ∷ [])
line_is [] ts m v k n passed ends colon clean small e makes = cc
line_is (b ∷ bs) ts m v k n passed ends colon clean small e makes =
    let line = b ∷ (bs ++ after_word (flat ts)) in
    let planned = plan_reads line (b ∷ bs) ts m v (line_reads (b ∷ bs) (flat ts) n ends) passed colon e in
    read_one b (bs ++ after_word (flat ts)) (plan None (Some (record { makes = m; operands = planned.0 }))) clean small planned.1
    ∙ ap (λ x. Ok (stmt 1 x ∷ [])) (makes line planned.0 planned.2)

colon_ends : Ends (sign 58) []
unfolding front_of
colon_ends = (refl, refl, refl)

label_reads : (w : List ℕ) → is_name w ≡ true → Reads (w ++ (58 ∷ [])) 0 (word w ∷ sign 58 ∷ [])
label_reads w n =
    let here = token_lead false (w ++ (58 ∷ [])) (w ++ (58 ∷ [])) 0 Word (length w) refl (blank_of_name w (58 ∷ []) n) (front_of_name w (58 ∷ []) n refl) in
    (token 0 (0 + length w) Word, record { is = here; kind = refl; name = bytes_at (w ++ (58 ∷ [])) w (58 ∷ []) 0 (filled w n) refl; register = refl; few = omega (arith, filled w n, length-append w (58 ∷ [])); text = tt }, reads (w ++ (58 ∷ [])) (sign 58 ∷ []) false (0 + length w) (colon_ends, tt) (drop_at w (58 ∷ []) (0 + length w) (omega arith)))

-- a name and a colon are a label
label_plan : (line w : List ℕ) → Reads line 0 (word w ∷ sign 58 ∷ []) → (s : Span) × (plan_of line ≡ Ok (plan (Some s) None)) × (bytes_of line s ≡ w)
unfolding plan_of statement_at
label_plan line w h =
    let found = h.0 in
    let colon = h.2.0 in
    let end = h.2.2.0 in
    let s = span found.start found.end in
    let labelled : (is_word found.kind && is_mark_of 58 colon.kind) ≡ true =
    ap (λ k. is_word k && is_mark_of 58 colon.kind) h.1.kind ∙ ap (is_mark_of 58) h.2.1.kind in
    let stated : statement_at line colon.end ≡ Ok None = ap (λ t. statement_from_token line t t.kind) h.2.2.1.is ∙ ap (statement_from_token line end) h.2.2.1.kind in (
      s,
      ap (λ t. if is_word t.kind && is_mark_of 58 (token_at line t.end).kind then (statement_at line (token_at line t.end).end >>= (λ x. Ok (plan (Some (span t.start t.end)) x))) else (statement_at line 0 >>= (λ x. Ok (plan None x)))) h.1.is
          ∙ ap (λ c. if is_word found.kind && is_mark_of 58 c.kind then (statement_at line c.end >>= (λ x. Ok (plan (Some s) x))) else (statement_at line 0 >>= (λ x. Ok (plan None x)))) h.2.1.is
          ∙ ap (λ b. if b then (statement_at line colon.end >>= (λ x. Ok (plan (Some s) x))) else (statement_at line 0 >>= (λ x. Ok (plan None x)))) labelled
          ∙ ap (λ r. r >>= (λ x. Ok (plan (Some s) x))) stated,
      sym (ap (name_in line s) h.1.kind) ∙ h.1.name,
    )

pub label_is : (w : List ℕ) → is_name w ≡ true → length w < LONGEST → source_stmts (w ++ (58 ∷ [])) ≡ Ok (stmt 1 (Label w) ∷ [])
label_is [] n few = cc
label_is (b ∷ bs) n few =
    let line = b ∷ (bs ++ (58 ∷ [])) in
    let planned = label_plan line (b ∷ bs) (label_reads (b ∷ bs) n) in
    let clean = list_all-append (λ c. not (not_plain c)) (b ∷ bs) (58 ∷ []) ∙ both (plain (b ∷ bs)) true (name_plain (b ∷ bs) n) refl in
    let small : length line ≤ LONGEST = omega (arith, length-append bs (58 ∷ [])) in
    read_one b (bs ++ (58 ∷ [])) (plan (Some planned.0) None) clean small planned.1
    ∙ ap (λ x. Ok (stmt 1 (Label x) ∷ [])) planned.2
