-- The first line of a source that isn't read, and where it stops.
use Rattle.std.proofs.Common.{◌≡◌, ◌⊎◌, inl, inr, ℕ, zero, suc, ◌+◌, ◌<◌, ◌≤◌, Bool, true, false, ◌&&◌, if◌then◌else◌, List, [], ◌∷◌, Option, Some, None, Result, Ok, Err, refl, ap, sym, subst, ◌∙◌, arith}
use Rattle.std.specs.Prelude.{nat_lt}
use Rattle.std.proofs.lemmas.Bool.{ltb-true, ltb-false}
use Rattle.asm_read.specs.declared.fault.SourceFault.{SourceFault}
use Rattle.asm_read.specs.declared.token.TokenKind.{TokenKind}
use Rattle.asm_read.specs.declared.token.TokenKind.TheVariants as kind
use Rattle.asm_read.specs.declared.line.Span.{Span}
use Rattle.asm_read.specs.declared.line.LineEnd.{LineEnd}
use Rattle.asm_read.specs.declared.plan.LineContent.{LineContent}
use Rattle.asm_read.specs.declared.choice.Statement.{Statement}
use Rattle.asm_read.specs.declared.read.TheConstants.{MOST_LINES}
use Rattle.asm_statements.specs.declared.statement.Stmt.{Stmt}
use Rattle.asm_read.specs.Tokens.{token_at}
use Rattle.asm_read.specs.Fault.{fault_at}
use Rattle.asm_read.specs.Operands.{◌>>=◌, span, is_mark_of, mark_at}
use Rattle.asm_read.specs.Plans.{statement_at, is_word, plan, plan_of, not_plain_at, too_long, earlier_end, stop_of, unless, line_plan}
use Rattle.asm_read.specs.Reading.{lines_of, line_as, line_of, then_append_stmts, excess_fault, read_lines, source_stmts}
use Rattle.asm_line_laws.specs.Stops.{LabelEnds, StatementBegins, IsStopAt, CanStop, IsLineStop, IsRefused, FirstRefused, StopsAtTheFirst}
use Rattle.asm_line_laws.proofs.Stopped.{mark_there, mark_end, mark_kind, name_there, name_token}
use Rattle.asm_line_laws.proofs.Stopping.{statement_stops}

-- ---- a line

unplanned : (r : Result (Option Statement) LineEnd) (label : Option Span) (s : LineEnd) → (r >>= (λ x. Ok (plan label x))) ≡ Err s → r ≡ Err s
unplanned (Ok x) label s h = cc
unplanned (Err t) label s h = let q : t ≡ s = cc in ap (λ x. Err x) q

is_name_kind : (k : TokenKind) (b : Bool) → (is_word k && b) ≡ true → k ≡ kind.Word
is_name_kind kind.Word b h = refl
is_name_kind k b h = cc

is_colon : (a b : Bool) → (a && b) ≡ true → b ≡ true
is_colon true b h = h
is_colon false b h = cc

and_so : (a b : Bool) → a ≡ true → b ≡ true → (a && b) ≡ false → ⊥
and_so true b e f h = cc
and_so false b e f h = cc

-- where no colon stands after a name there is no label
no_label : (source : List ℕ) → (is_word (token_at source 0).kind && is_mark_of 58 (token_at source (token_at source 0).end).kind) ≡ false → (after : ℕ) → LabelEnds source after → ⊥
no_label source n after x =
    let named = name_token source 0 x.0 x.1 in
    let colon = subst (λ at. mark_at 58 source at ≡ Ok after) named.1 x.2 in
    and_so (is_word (token_at source 0).kind) (is_mark_of 58 (token_at source (token_at source 0).end).kind) (ap is_word named.0) (mark_kind 58 source (token_at source 0).end after colon) n

by_label : (source : List ℕ) (s : LineEnd) (b : Bool) →
    let token = token_at source 0 in
    let colon = token_at source token.end in
    (is_word token.kind && is_mark_of 58 colon.kind) ≡ b → (if b then (statement_at source colon.end >>= (λ x. Ok (plan (Some (span token.start token.end)) x))) else (statement_at source 0 >>= (λ x. Ok (plan None x)))) ≡ Err s → (from : ℕ) × StatementBegins source from × (statement_at source from ≡ Err s) × IsStopAt source from s
by_label source s true e h =
    let token = token_at source 0 in
    let colon = token_at source token.end in
    let stops = unplanned (statement_at source colon.end) (Some (span token.start token.end)) s h in (
      colon.end,
      inr (span token.start token.end, name_there source 0 (is_name_kind token.kind (is_mark_of 58 colon.kind) e), mark_there 58 source token.end (is_colon (is_word token.kind) (is_mark_of 58 colon.kind) e)),
      stops,
      statement_stops source colon.end s stops,
    )
by_label source s false e h =
    let stops = unplanned (statement_at source 0) None s h in
    (0, inl (refl, no_label source e), stops, statement_stops source 0 s stops)

plan_stops : (source : List ℕ) (s : LineEnd) → plan_of source ≡ Err s → CanStop 2 source s
unfolding plan_of
plan_stops source s h =
    by_label source s (is_word (token_at source 0).kind && is_mark_of 58 (token_at source (token_at source 0).end).kind) refl h

-- a line's statement begins at one place
begins_by : (source : List ℕ) (from : ℕ) (b : Bool) →
    let token = token_at source 0 in
    let colon = token_at source token.end in
    (is_word token.kind && is_mark_of 58 colon.kind) ≡ b → StatementBegins source from → from ≡ (if b then colon.end else 0)
begins_by source from true e (inl x) =
    let token = token_at source 0 in
    let colon = token_at source token.end in
    absurd (x.1 colon.end (span token.start token.end, name_there source 0 (is_name_kind token.kind (is_mark_of 58 colon.kind) e), mark_there 58 source token.end (is_colon (is_word token.kind) (is_mark_of 58 colon.kind) e)))
begins_by source from true e (inr x) =
    let named = name_token source 0 x.0 x.1 in
    mark_end 58 source (token_at source 0).end from (subst (λ at. mark_at 58 source at ≡ Ok from) named.1 x.2)
begins_by source from false e (inl x) = x.0
begins_by source from false e (inr x) = absurd (no_label source e from x)

stop_by : (source : List ℕ) (t : LineEnd) (b : Bool) →
    let token = token_at source 0 in
    let colon = token_at source token.end in
    statement_at source (if b then colon.end else 0) ≡ Err t → (if b then (statement_at source colon.end >>= (λ x. Ok (plan (Some (span token.start token.end)) x))) else (statement_at source 0 >>= (λ x. Ok (plan None x)))) ≡ Err t
stop_by source t true h =
    let token = token_at source 0 in
    ap (λ r. r >>= (λ x. Ok (plan (Some (span token.start token.end)) x))) h
stop_by source t false h = ap (λ r. r >>= (λ x. Ok (plan None x))) h

plan_stopped : (source : List ℕ) (t : LineEnd) → CanStop 2 source t → plan_of source ≡ Err t
unfolding plan_of
plan_stopped source t x =
    let b = is_word (token_at source 0).kind && is_mark_of 58 (token_at source (token_at source 0).end).kind in
    stop_by source t b (sym (ap (statement_at source) (begins_by source x.0 b refl x.1)) ∙ x.2)

-- ---- the first of a line's stops

stopped_by_two : (p : Result LineContent LineEnd) (x t s : LineEnd) (c : Bool) → unless (if c then Some t else Some x) p ≡ Err s → (if c then Some t else Some x) ≡ Some s
stopped_by_two p x t s true h = let q : t ≡ s = cc in ap (λ y. Some y) q
stopped_by_two p x t s false h = let q : x ≡ s = cc in ap (λ y. Some y) q

stopped_so : (q : Option LineEnd) (p : Result LineContent LineEnd) (s : LineEnd) → unless (earlier_end q (stop_of p)) p ≡ Err s → earlier_end q (stop_of p) ≡ Some s
stopped_so None (Ok p) s h = cc
stopped_so (Some x) (Ok p) s h = let q : x ≡ s = cc in ap (λ y. Some y) q
stopped_so None (Err t) s h = let q : t ≡ s = cc in ap (λ y. Some y) q
stopped_so (Some x) (Err t) s h = stopped_by_two (Err t) x t s (nat_lt t.at x.at) h

plan_stop : (p : Result LineContent LineEnd) (s : LineEnd) → stop_of p ≡ Some s → p ≡ Err s
plan_stop (Ok p) s h = cc
plan_stop (Err t) s h = let q : t ≡ s = cc in ap (λ x. Err x) q

-- the earlier of two is one of them, and no later than the other
abbrev Nearer : Option LineEnd → Option LineEnd → LineEnd → Type 0
Nearer a b s =
    ((a ≡ Some s) × ((t : LineEnd) → b ≡ Some t → s.at ≤ t.at)) ⊎ ((b ≡ Some s) × ((t : LineEnd) → a ≡ Some t → s.at < t.at))

nearer_by : (x y s : LineEnd) (c : Bool) → nat_lt y.at x.at ≡ c → (if c then Some y else Some x) ≡ Some s → Nearer (Some x) (Some y) s
nearer_by x y s true n h =
    inr (
      h,
      λ t e.
          let q = ap (λ (z : LineEnd). z.at) (let r : y ≡ s = cc in r) in
          let r = ap (λ (z : LineEnd). z.at) (let r : x ≡ t = cc in r) in
          let l = ltb-true y.at x.at n in
          omega arith,
    )
nearer_by x y s false n h =
    inl (
      h,
      λ t e.
          let q = ap (λ (z : LineEnd). z.at) (let r : x ≡ s = cc in r) in
          let r = ap (λ (z : LineEnd). z.at) (let r : y ≡ t = cc in r) in
          let l = ltb-false y.at x.at n in
          omega arith,
    )

nearer : (a b : Option LineEnd) (s : LineEnd) → earlier_end a b ≡ Some s → Nearer a b s
nearer None b s h = inr (h, λ t e. cc)
nearer (Some x) None s h = inl (h, λ t e. cc)
nearer (Some x) (Some y) s h = nearer_by x y s (nat_lt y.at x.at) refl h

at_most_by : (x y t : LineEnd) (c : Bool) → nat_lt y.at x.at ≡ c → (Some x ≡ Some t) ⊎ (Some y ≡ Some t) → (u : LineEnd) × ((if c then Some y else Some x) ≡ Some u) × (u.at ≤ t.at)
at_most_by x y t true n (inl e) =
    (y, refl, let r = ap (λ (z : LineEnd). z.at) (let r : x ≡ t = cc in r) in let l = ltb-true y.at x.at n in omega arith)
at_most_by x y t true n (inr e) =
    (y, refl, let r = ap (λ (z : LineEnd). z.at) (let r : y ≡ t = cc in r) in omega arith)
at_most_by x y t false n (inl e) =
    (x, refl, let r = ap (λ (z : LineEnd). z.at) (let r : x ≡ t = cc in r) in omega arith)
at_most_by x y t false n (inr e) =
    (x, refl, let r = ap (λ (z : LineEnd). z.at) (let r : y ≡ t = cc in r) in let l = ltb-false y.at x.at n in omega arith)

at_most : (a b : Option LineEnd) (t : LineEnd) → (a ≡ Some t) ⊎ (b ≡ Some t) → (u : LineEnd) × (earlier_end a b ≡ Some u) × (u.at ≤ t.at)
at_most None b t (inl e) = cc
at_most None b t (inr e) = (t, e, omega arith)
at_most (Some x) None t (inl e) = (t, e, omega arith)
at_most (Some x) None t (inr e) = cc
at_most (Some x) (Some y) t e = at_most_by x y t (nat_lt y.at x.at) refl e

-- before, or at one place for no later a reason
abbrev IsBefore : ℕ → LineEnd → ℕ → LineEnd → Type 0
IsBefore n s m t = (s.at < t.at) ⊎ ((s.at ≡ t.at) × (n ≤ m))

before_by : (n m : ℕ) (s t : LineEnd) (c : Bool) → nat_lt s.at t.at ≡ c → s.at ≤ t.at → n ≤ m → IsBefore n s m t
before_by n m s t true e h k = inl (ltb-true s.at t.at e)
before_by n m s t false e h k = inr (let l = ltb-false s.at t.at e in omega arith, k)

before : (n m : ℕ) (s t : LineEnd) → s.at ≤ t.at → n ≤ m → IsBefore n s m t
before n m s t h k = before_by n m s t (nat_lt s.at t.at) refl h k

same_stop : (a : Option LineEnd) (s t : LineEnd) → a ≡ Some s → a ≡ Some t → s.at ≡ t.at
same_stop a s t e f = ap (λ (z : LineEnd). z.at) (let q : s ≡ t = cc in q)

same_refusal : (p : Result LineContent LineEnd) (s t : LineEnd) → p ≡ Err s → p ≡ Err t → s.at ≡ t.at
same_refusal p s t e f = ap (λ (z : LineEnd). z.at) (let q : s ≡ t = cc in q)

byte_first : (source : List ℕ) (s : LineEnd) → not_plain_at 0 source ≡ Some s → ((t : LineEnd) → too_long source ≡ Some t → s.at ≤ t.at) → ((t : LineEnd) → stop_of (plan_of source) ≡ Some t → s.at ≤ t.at) → (m : ℕ) (t : LineEnd) → CanStop m source t → IsBefore 0 s m t
byte_first source s e f g zero t h = inr (same_stop (not_plain_at 0 source) s t e h, omega arith)
byte_first source s e f g (suc zero) t h = before 0 1 s t (f t h) (omega arith)
byte_first source s e f g (suc (suc zero)) t h = before 0 2 s t (g t (ap stop_of (plan_stopped source t h))) (omega arith)
byte_first source s e f g (suc (suc (suc m))) t h = absurd h

length_first : (source : List ℕ) (s : LineEnd) → too_long source ≡ Some s → ((t : LineEnd) → not_plain_at 0 source ≡ Some t → s.at < t.at) → ((t : LineEnd) → stop_of (plan_of source) ≡ Some t → s.at ≤ t.at) → (m : ℕ) (t : LineEnd) → CanStop m source t → IsBefore 1 s m t
length_first source s e f g zero t h = inl (f t h)
length_first source s e f g (suc zero) t h = inr (same_stop (too_long source) s t e h, omega arith)
length_first source s e f g (suc (suc zero)) t h = before 1 2 s t (g t (ap stop_of (plan_stopped source t h))) (omega arith)
length_first source s e f g (suc (suc (suc m))) t h = absurd h

statement_first : (source : List ℕ) (s : LineEnd) → plan_of source ≡ Err s → ((t : LineEnd) → earlier_end (not_plain_at 0 source) (too_long source) ≡ Some t → s.at < t.at) → (m : ℕ) (t : LineEnd) → CanStop m source t → IsBefore 2 s m t
statement_first source s e f zero t h =
    let u = at_most (not_plain_at 0 source) (too_long source) t (inl h) in
    let l = f u.0 u.1 in
    let k = u.2 in
    inl (omega arith)
statement_first source s e f (suc zero) t h =
    let u = at_most (not_plain_at 0 source) (too_long source) t (inr h) in
    let l = f u.0 u.1 in
    let k = u.2 in
    inl (omega arith)
statement_first source s e f (suc (suc zero)) t h =
    inr (same_refusal (plan_of source) s t e (plan_stopped source t h), omega arith)
statement_first source s e f (suc (suc (suc m))) t h = absurd h

of_front : (source : List ℕ) (s : LineEnd) → Nearer (not_plain_at 0 source) (too_long source) s → ((t : LineEnd) → stop_of (plan_of source) ≡ Some t → s.at ≤ t.at) → IsLineStop source s
of_front source s (inl x) g = (0, x.0, λ m t h. byte_first source s x.0 x.1 g m t h)
of_front source s (inr x) g = (1, x.0, λ m t h. length_first source s x.0 x.1 g m t h)

of_stops : (source : List ℕ) (s : LineEnd) → Nearer (earlier_end (not_plain_at 0 source) (too_long source)) (stop_of (plan_of source)) s → IsLineStop source s
of_stops source s (inl x) = of_front source s (nearer (not_plain_at 0 source) (too_long source) s x.0) x.1
of_stops source s (inr x) =
    let e = plan_stop (plan_of source) s x.0 in
    (2, plan_stops source s e, λ m t h. statement_first source s e x.1 m t h)

line_stops : (source : List ℕ) (s : LineEnd) → line_plan source ≡ Err s → IsLineStop source s
unfolding line_plan
line_stops source s h =
    of_stops source s (nearer (earlier_end (not_plain_at 0 source) (too_long source)) (stop_of (plan_of source)) s (stopped_so (earlier_end (not_plain_at 0 source) (too_long source)) (plan_of source) s h))

by_plan : (number : ℕ) (source : List ℕ) (fault : SourceFault) (r : Result LineContent LineEnd) → line_plan source ≡ r → line_as number source r ≡ Err fault → IsRefused number source fault
by_plan number source fault (Ok p) e h = cc
by_plan number source fault (Err s) e h =
    inr (s, sym (let q : fault_at number (s.at + 1) s.what ≡ fault = cc in q), line_stops source s e)

line_refused : (number : ℕ) (source : List ℕ) (fault : SourceFault) → line_of number source ≡ Err fault → IsRefused number source fault
line_refused number source fault h = by_plan number source fault (line_plan source) refl h

-- ---- lines

after_line : (here more : Result (List Stmt) SourceFault) (fault : SourceFault) → then_append_stmts here more ≡ Err fault → (here ≡ Err fault) ⊎ ((stmts : List Stmt) × (here ≡ Ok stmts) × (more ≡ Err fault))
after_line (Ok xs) (Ok ys) fault h = cc
after_line (Ok xs) (Err f) fault h = inr (xs, refl, h)
after_line (Err f) more fault h = inl h

by_place : (number : ℕ) (source : List ℕ) (sources : List (List ℕ)) (fault : SourceFault) → (line_of number source ≡ Err fault) ⊎ ((stmts : List Stmt) × (line_of number source ≡ Ok stmts) × (read_lines (number + 1) sources ≡ Err fault)) → (read_lines (number + 1) sources ≡ Err fault → FirstRefused (number + 1) sources fault) → FirstRefused number (source ∷ sources) fault
by_place number source sources fault (inl e) more = inl (line_refused number source fault e)
by_place number source sources fault (inr x) more = inr (x.0, x.1, more x.2)

by_number : (number : ℕ) (source : List ℕ) (sources : List (List ℕ)) (fault : SourceFault) (b : Bool) → nat_lt MOST_LINES number ≡ b → (if b then Err (fault_at number 1 (excess_fault source)) else then_append_stmts (line_of number source) (read_lines (number + 1) sources)) ≡ Err fault → (read_lines (number + 1) sources ≡ Err fault → FirstRefused (number + 1) sources fault) → FirstRefused number (source ∷ sources) fault
by_number number source sources fault true e h more =
    inl (inl (ltb-true MOST_LINES number e, sym (let q : fault_at number 1 (excess_fault source) ≡ fault = cc in q)))
by_number number source sources fault false e h more =
    by_place number source sources fault (after_line (line_of number source) (read_lines (number + 1) sources) fault h) more

lines_refused : (number : ℕ) (sources : List (List ℕ)) (fault : SourceFault) → read_lines number sources ≡ Err fault → FirstRefused number sources fault
unfolding read_lines
lines_refused number [] fault h = cc
lines_refused number (source ∷ sources) fault h =
    by_number number source sources fault (nat_lt MOST_LINES number) refl h (λ g. lines_refused (number + 1) sources fault g)

pub stops_at_first : StopsAtTheFirst
unfolding source_stmts
stops_at_first text fault h = lines_refused 1 (lines_of text) fault h
