-- Where a form stops, and the form that goes on longest.
use Rattle.std.proofs.Common.{◌≡◌, ◌≢◌, ◌⊎◌, inl, inr, ℕ, ◌<◌, ◌==◌, Bool, true, false, not, ◌&&◌, ◌||◌, if◌then◌else◌, List, [], ◌∷◌, length, Option, Some, None, Result, Ok, Err, ℤ, pos, refl, ap, sym, subst, ◌∙◌, arith, codes}
use Rattle.std.specs.Prelude.{int_le, nat_lt}
use Rattle.std.proofs.lemmas.Bool.{ltb-true, eqb-true}
use Rattle.std.proofs.lemmas.Bool.Decides.{nat_tests}
use Rattle.std.specs.Cmp.Lexicographic.{same_text, other_text}
use Rattle.asm_read.specs.declared.fault.SourceWhat.{SourceWhat}
use Rattle.asm_read.specs.declared.fault.SourceWhat.TheVariants.{BadOperand}
use Rattle.asm_read.specs.declared.token.TokenKind.{TokenKind}
use Rattle.asm_read.specs.declared.token.TokenKind.TheVariants as kind
use Rattle.asm_read.specs.declared.token.Token.{Token}
use Rattle.asm_read.specs.declared.line.LineEnd.{LineEnd}
use Rattle.asm_read.specs.declared.line.Numeral.{Numeral}
use Rattle.asm_read.specs.declared.line.ListRegisters.{ListRegisters}
use Rattle.asm_read.specs.declared.form.Piece.{Piece}
use Rattle.asm_read.specs.declared.form.Piece.TheVariants.{First, Second, Third, Sp, Mark, MaybeHash, Number, Zero, UpToThree, Name, SameName, Dot, Rodata, Function, Object, Registers, RegistersWithFirst, Text, Expression, Expressions, WordExpressions}
use Rattle.asm_read.specs.declared.form.Operands.{Operands}
use Rattle.asm_read.specs.declared.choice.Statement.{Statement}
use Rattle.asm_read.specs.Tokens.{token_at}
use Rattle.asm_read.specs.Operands.{◌>>=◌, bytes_of, same, stop, end_at_token, name_of, register_at, mark_at, word_at, name_at, text_span, text_at, number_at, limited_number, limited_number_at, has_register, list_at}
use Rattle.asm_read.specs.Expressions.{expression_at, expressions_at}
use Rattle.asm_read.specs.Fits.{no_operands, piece_at, end_if, end_at, read_pieces}
use Rattle.asm_read.specs.Patterns.{pieces_of}
use Rattle.asm_read.specs.Forms.{TableRow, rows}
use Rattle.asm_read.specs.Search.{is_operand, farther_end, form_attempt, try_form, or_else_form, first_fit}
use Rattle.asm_read.specs.Plans.{is_passed, unknown, fit_or_stop, word_statement, statement_from_token, statement_at}
use Rattle.asm_line_laws.specs.Stops.{IsStoppedBy, GoesInList, GoesInExpression, GoesInExpressions, IsLast, StopsIn, Stops, IsNoFarther, Among, IsRowOf, IsFarthest, IsUnknown, IsStopAt}
use Rattle.asm_line_laws.proofs.Stopped.{stopped_by, not_past, register_stops, mark_stops, name_stops, number_stops, ListEnds, list_ends, Ended, expression_ends, SeriesEnds, series_ends}

-- ---- one piece

unread : {A : Type 0} (r : Result A LineEnd) (f : A → Operands) (s : LineEnd) → (r >>= (λ a. Ok (f a))) ≡ Err s → r ≡ Err s
unread (Ok a) f s h = cc
unread (Err t) f s h = let q : t ≡ s = cc in ap (λ x. Err x) q

abbrev within : Bool → Token → ℤ → Result Numeral LineEnd
within b t z = if b then Ok (record { value = z; end = t.end }) else Err (end_at_token t)

not_within : (b : Bool) (t : Token) (z : ℤ) (s : LineEnd) → within b t z ≡ Err s → s ≡ end_at_token t
not_within true t z s h = cc
not_within false t z s h = sym (let q : end_at_token t ≡ s = cc in q)

no_limited : (t : Token) (high : ℤ) (k : TokenKind) (s : LineEnd) → limited_number t high k ≡ Err s → s ≡ end_at_token t
no_limited t high (kind.Number z) s h = not_within (int_le (pos 0) z && int_le z high) t z s h
no_limited t high k s h = sym (let q : end_at_token t ≡ s = cc in q)

no_text : (t : Token) (k : TokenKind) (s : LineEnd) → text_span t k ≡ Err s → s ≡ end_at_token t
no_text t kind.Quoted s h = cc
no_text t k s h = sym (let q : end_at_token t ≡ s = cc in q)

-- at the token that stands at a place
there : (source : List ℕ) (from : ℕ) (s : LineEnd) → IsStoppedBy (token_at source from) s → (at : ℕ) × (at ≡ from) × IsStoppedBy (token_at source at) s × IsLast (λ a. a ≡ from) at
there source from s h = (from, refl, h, λ far q. omega arith)

at_limited : (high : ℤ) (source : List ℕ) (from : ℕ) (s : LineEnd) → limited_number_at high source from ≡ Err s → (at : ℕ) × (at ≡ from) × IsStoppedBy (token_at source at) s × IsLast (λ a. a ≡ from) at
unfolding limited_number_at
at_limited high source from s h =
    there source from s (stopped_by (token_at source from) s (no_limited (token_at source from) high (token_at source from).kind s h))

at_text : (source : List ℕ) (from : ℕ) (s : LineEnd) → text_at source from ≡ Err s → (at : ℕ) × (at ≡ from) × IsStoppedBy (token_at source at) s × IsLast (λ a. a ≡ from) at
unfolding text_at
at_text source from s h =
    there source from s (stopped_by (token_at source from) s (no_text (token_at source from) (token_at source from).kind s h))

at_register : (source : List ℕ) (from : ℕ) (s : LineEnd) → register_at source from ≡ Err s → (at : ℕ) × (at ≡ from) × IsStoppedBy (token_at source at) s × IsLast (λ a. a ≡ from) at
at_register source from s h = there source from s (register_stops source from s h)

at_word : (word source : List ℕ) (from : ℕ) (s : LineEnd) → word_at word source from ≡ Err s → (at : ℕ) × (at ≡ from) × IsStoppedBy (token_at source at) s × IsLast (λ a. a ≡ from) at
unfolding word_at
at_word word source from s h =
    there source from s (stopped_by (token_at source from) s (not_past (same (name_of source (token_at source from)) word) (token_at source from) s h))

at_list : (source : List ℕ) (from : ℕ) (s : LineEnd) → list_at source from ≡ Err s → (at : ℕ) × GoesInList source from at × IsStoppedBy (token_at source at) s × IsLast (GoesInList source from) at
at_list source from s h = subst (λ r. ListEnds source from r) h (list_ends source from)

-- the closing brace of a list without a register
at_close : (source : List ℕ) (from : ℕ) (l : ListRegisters) (s : LineEnd) → list_at source from ≡ Ok l → s ≡ stop l.close BadOperand → (at : ℕ) × GoesInList source from at × IsStoppedBy (token_at source at) s × IsLast (GoesInList source from) at
at_close source from l s h e =
    let x = subst (λ r. ListEnds source from r) h (list_ends source from) in
    (x.0, x.1, subst (λ t. IsStoppedBy (token_at source x.0) t) (sym e) (x.2, x.3), x.4)

not_with : (source : List ℕ) (from : ℕ) (l : ListRegisters) (has : ListRegisters → Bool) (f : ListRegisters → Operands) (s : LineEnd) (b : Bool) → list_at source from ≡ Ok l → (if not b then Err (stop l.close BadOperand) else Ok (f l)) ≡ Err s → (at : ℕ) × GoesInList source from at × IsStoppedBy (token_at source at) s × IsLast (GoesInList source from) at
not_with source from l has f s true e h = cc
not_with source from l has f s false e h =
    at_close source from l s e (sym (let q : stop l.close BadOperand ≡ s = cc in q))

list_with_by : (source : List ℕ) (from : ℕ) (has : ListRegisters → Bool) (f : ListRegisters → Operands) (s : LineEnd) (r : Result ListRegisters LineEnd) → list_at source from ≡ r → (r >>= (λ l. if not (has l) then Err (stop l.close BadOperand) else Ok (f l))) ≡ Err s → (at : ℕ) × GoesInList source from at × IsStoppedBy (token_at source at) s × IsLast (GoesInList source from) at
list_with_by source from has f s (Ok l) e h = not_with source from l has f s (has l) e h
list_with_by source from has f s (Err t) e h =
    let q : t ≡ s = cc in
    at_list source from s (e ∙ ap (λ x. Err x) q)

at_expressions : (word : Bool) (source : List ℕ) (from : ℕ) (s : LineEnd) → expressions_at (length source) word source from ≡ Err s → (at : ℕ) × GoesInExpressions word source from at × IsStoppedBy (token_at source at) s × IsLast (GoesInExpressions word source from) at
at_expressions word source from s h =
    subst (λ r. SeriesEnds (length source) word source from r) h (series_ends (length source) word source from)

at_expression : (source : List ℕ) (from : ℕ) (s : LineEnd) → expression_at false source from ≡ Err s → (at : ℕ) × GoesInExpression false source from at × IsStoppedBy (token_at source at) s × IsLast (GoesInExpression false source from) at
at_expression source from s h =
    let x = subst (λ r. Ended source (GoesInExpression false source from) from r) h (expression_ends false source from) in
    (x.0, x.1, x.2, x.4)

stops_in : (p : Piece) (source : List ℕ) (o : Operands) (s : LineEnd) → piece_at p source o ≡ Err s → StopsIn p source o.at s
unfolding piece_at
stops_in First source o s h = at_register source o.at s (unread (register_at source o.at) (λ r. record o { at = r.end; first = r.number }) s h)
stops_in Second source o s h = at_register source o.at s (unread (register_at source o.at) (λ r. record o { at = r.end; second = r.number }) s h)
stops_in Third source o s h = at_register source o.at s (unread (register_at source o.at) (λ r. record o { at = r.end; third = r.number }) s h)
stops_in Sp source o s h = at_word (codes "sp") source o.at s (unread (word_at (codes "sp") source o.at) (λ at. record o { at = at }) s h)
stops_in (Mark b) source o s h = there source o.at s (mark_stops b source o.at s (unread (mark_at b source o.at) (λ at. record o { at = at }) s h))
stops_in MaybeHash source o s h = cc
stops_in Number source o s h = there source o.at s (number_stops source o.at s (unread (number_at source o.at) (λ n. record o { at = n.end; number = n.value }) s h))
stops_in Zero source o s h = at_limited (pos 0) source o.at s (unread (limited_number_at (pos 0) source o.at) (λ n. record o { at = n.end; number = n.value }) s h)
stops_in UpToThree source o s h = at_limited (pos 3) source o.at s (unread (limited_number_at (pos 3) source o.at) (λ n. record o { at = n.end; number = n.value }) s h)
stops_in Name source o s h = there source o.at s (name_stops source o.at s (unread (name_at source o.at) (λ x. record o { at = x.end; name = x }) s h))
stops_in SameName source o s h = at_word (bytes_of source o.name) source o.at s (unread (word_at (bytes_of source o.name) source o.at) (λ at. record o { at = at }) s h)
stops_in Dot source o s h = at_word (codes ".") source o.at s (unread (word_at (codes ".") source o.at) (λ at. record o { at = at }) s h)
stops_in Rodata source o s h = at_word (codes ".rodata") source o.at s (unread (word_at (codes ".rodata") source o.at) (λ at. record o { at = at }) s h)
stops_in Function source o s h = at_word (codes "function") source o.at s (unread (word_at (codes "function") source o.at) (λ at. record o { at = at }) s h)
stops_in Object source o s h = at_word (codes "object") source o.at s (unread (word_at (codes "object") source o.at) (λ at. record o { at = at }) s h)
stops_in Registers source o s h = at_list source o.at s (unread (list_at source o.at) (λ l. record o { at = l.end; list = l.list }) s h)
stops_in RegistersWithFirst source o s h = list_with_by source o.at (λ l. has_register l.list o.first) (λ l. record o { at = l.end; list = l.list }) s (list_at source o.at) refl h
stops_in Text source o s h = at_text source o.at s (unread (text_at source o.at) (λ x. record o { at = x.end; name = x }) s h)
stops_in Expression source o s h = at_expression source o.at s (unread (expression_at false source o.at) (λ e. record o { at = e.end; from = o.at }) s h)
stops_in Expressions source o s h = at_expressions false source o.at s (unread (expressions_at (length source) false source o.at) (λ e. record o { at = e.end; from = o.at }) s h)
stops_in WordExpressions source o s h = at_expressions true source o.at s (unread (expressions_at (length source) true source o.at) (λ e. record o { at = e.end; from = o.at }) s h)

-- ---- the pieces of a form

not_ended : (source : List ℕ) (o : Operands) (s : LineEnd) (k : TokenKind) → (token_at source o.at).kind ≡ k → end_if o (token_at source o.at) k ≡ Err s → ((token_at source o.at).kind ≢ kind.End) × IsStoppedBy (token_at source o.at) s
not_ended source o s kind.End e h = cc
not_ended source o s k e h = (λ f. cc, stopped_by (token_at source o.at) s (sym (let q : end_at_token (token_at source o.at) ≡ s = cc in q)))

piece_stops : (p : Piece) (ps : List Piece) (source : List ℕ) (o : Operands) (s : LineEnd) (r : Result Operands LineEnd) → piece_at p source o ≡ r → ((n : Operands) → read_pieces ps source n ≡ Err s → Stops ps source n s) → (r >>= (λ n. read_pieces ps source n)) ≡ Err s → ((piece_at p source o ≡ Err s) × StopsIn p source o.at s) ⊎ ((next : Operands) × (piece_at p source o ≡ Ok next) × Stops ps source next s)
piece_stops p ps source o s (Ok n) e more h = inr (n, e, more n h)
piece_stops p ps source o s (Err t) e more h =
    let q : t ≡ s = cc in
    let f : piece_at p source o ≡ Err s = e ∙ ap (λ x. Err x) q in
    inl (f, stops_in p source o s f)

form_stops : (ps : List Piece) (source : List ℕ) (o : Operands) (s : LineEnd) → read_pieces ps source o ≡ Err s → Stops ps source o s
unfolding read_pieces end_at
form_stops [] source o s h = not_ended source o s (token_at source o.at).kind refl h
form_stops (p ∷ ps) source o s h = piece_stops p ps source o s (piece_at p source o) refl (λ n g. form_stops ps source n s g) h

-- ---- the farthest of stops

no_farther_self : (s : LineEnd) → IsNoFarther s s
no_farther_self s = inr (refl, λ h. h)

no_farther_then : (s t u : LineEnd) → IsNoFarther s t → IsNoFarther t u → IsNoFarther s u
no_farther_then s t u (inl a) (inl b) = inl (omega arith)
no_farther_then s t u (inl a) (inr b) = inl (let e = b.0 in omega arith)
no_farther_then s t u (inr a) (inl b) = inl (let e = a.0 in omega arith)
no_farther_then s t u (inr a) (inr b) = inr (a.0 ∙ b.0, λ h. a.1 (b.1 h))

operand_is : (w : SourceWhat) → is_operand w ≡ true → w ≡ BadOperand
operand_is BadOperand h = refl
operand_is w h = cc

operand_not : (w : SourceWhat) → is_operand w ≡ false → w ≡ BadOperand → ⊥
operand_not w h e = let f : true ≡ false = ap is_operand (sym e) ∙ h in cc

-- the farther of two is one of them, and neither is farther than it
abbrev IsFarther : LineEnd → LineEnd → LineEnd → Type 0
IsFarther a s f = IsNoFarther a f × IsNoFarther s f × ((f ≡ s) ⊎ (f ≡ a))

farther_by : (a s : LineEnd) (x y z : Bool) → nat_lt a.at s.at ≡ x → (a.at == s.at) ≡ y → is_operand a.what ≡ z → IsFarther a s (if x || (y && z) then s else a)
farther_by a s true y z p q r = (inl (ltb-true a.at s.at p), no_farther_self s, inl refl)
farther_by a s false true true p q r = (inr (eqb-true a.at s.at q, λ h. operand_is a.what r), no_farther_self s, inl refl)
farther_by a s false true false p q r = (no_farther_self a, inr (sym (eqb-true a.at s.at q), λ h. absurd (operand_not a.what r h)), inr refl)
farther_by a s false false z p q r = (no_farther_self a, inl (nearer a.at s.at p q), inr refl)
  where
    nearer : (m n : ℕ) → nat_lt m n ≡ false → (m == n) ≡ false → n < m
    nearer m n h k = grind (arith, nat_tests)

farther_is : (a s : LineEnd) → IsFarther a s (farther_end (Some a) s)
farther_is a s = farther_by a s (nat_lt a.at s.at) (a.at == s.at) (is_operand a.what) refl refl refl

abbrev AtMost : Option LineEnd → Option LineEnd → Type 0
AtMost None t = Unit {0}
AtMost (Some a) None = ⊥
AtMost (Some a) (Some b) = IsNoFarther a b

at_most_self : (b : Option LineEnd) → AtMost b b
at_most_self None = tt
at_most_self (Some a) = no_farther_self a

at_most_then : (a b : LineEnd) (c : Option LineEnd) → IsNoFarther a b → AtMost (Some b) c → AtMost (Some a) c
at_most_then a b None h k = absurd k
at_most_then a b (Some c) h k = no_farther_then a b c h k

-- what trying one form more leaves: no farther than what more leaves
kept_by : (best c : Option LineEnd) (s : LineEnd) → AtMost (Some (farther_end best s)) c → AtMost best c × AtMost (Some s) c
kept_by None c s h = (tt, h)
kept_by (Some a) c s h =
    let f = farther_is a s in
    (at_most_then a (farther_end (Some a) s) c f.0 h, at_most_then s (farther_end (Some a) s) c f.1 h)

farther_one : (best : Option LineEnd) (s : LineEnd) → (farther_end best s ≡ s) ⊎ (Some (farther_end best s) ≡ best)
farther_one None s = inl refl
farther_one (Some a) s = elim ((farther_is a s).2) [ inl e ↦ inl e | inr e ↦ inr (ap (λ x. Some x) e) ]

-- ---- rows

-- a row of a word stops there
abbrev StopsThere : List TableRow → List ℕ → List ℕ → ℕ → LineEnd → Type 0
StopsThere rs word source from s = (row : TableRow) × (Among rs row × (row.word ≡ word)) × Stops (pieces_of row.form.operands) source (no_operands from) s

record Collected (rs : List TableRow) (word source : List ℕ) (from : ℕ) (best last : Option LineEnd) : Type 0 where
  kept : AtMost best last
  each : (row : TableRow) → Among rs row → row.word ≡ word → (t : LineEnd) × Stops (pieces_of row.form.operands) source (no_operands from) t × AtMost (Some t) last
  begun : (last ≡ best) ⊎ ((s : LineEnd) × (last ≡ Some s) × StopsThere rs word source from s)

-- a row of another word before others
pass_row : (row : TableRow) (rs : List TableRow) (word source : List ℕ) (from : ℕ) (best last : Option LineEnd) → same row.word word ≡ false → Collected rs word source from best last → Collected (row ∷ rs) word source from best last
pass_row row rs word source from best last other c = record {
  kept = c.kept;
  each = λ q a w. each_of q a w;
  begun = elim (c.begun) [ inl e ↦ inl e | inr x ↦ inr (x.0, x.1, (x.2.0, (inr x.2.1.0, x.2.1.1), x.2.2)) ];
}
  where
    each_of : (q : TableRow) → (row ≡ q) ⊎ Among rs q → q.word ≡ word → (t : LineEnd) × Stops (pieces_of q.form.operands) source (no_operands from) t × AtMost (Some t) last
    each_of q (inl e) w = absurd (other_text row.word word (sym other) (ap (λ (x : TableRow). x.word) e ∙ w))
    each_of q (inr a) w = c.each q a w

-- a row of the word that stops, before others
take_row : (row : TableRow) (rs : List TableRow) (word source : List ℕ) (from : ℕ) (best last : Option LineEnd) (s : LineEnd) → row.word ≡ word → Stops (pieces_of row.form.operands) source (no_operands from) s → Collected rs word source from (Some (farther_end best s)) last → Collected (row ∷ rs) word source from best last
take_row row rs word source from best last s is stops c = record {
  kept = (kept_by best last s c.kept).0;
  each = λ q a w. each_of q a w;
  begun = begun_of c.begun;
}
  where
    each_of : (q : TableRow) → (row ≡ q) ⊎ Among rs q → q.word ≡ word → (t : LineEnd) × Stops (pieces_of q.form.operands) source (no_operands from) t × AtMost (Some t) last
    each_of q (inl e) w = subst (λ (x : TableRow). (t : LineEnd) × Stops (pieces_of x.form.operands) source (no_operands from) t × AtMost (Some t) last) e (s, stops, (kept_by best last s c.kept).1)
    each_of q (inr a) w = c.each q a w

    here_of : (farther_end best s ≡ s) ⊎ (Some (farther_end best s) ≡ best) → last ≡ Some (farther_end best s) → (last ≡ best) ⊎ ((t : LineEnd) × (last ≡ Some t) × StopsThere (row ∷ rs) word source from t)
    here_of (inl f) e = inr (s, e ∙ ap (λ x. Some x) f, (row, (inl refl, is), stops))
    here_of (inr f) e = inl (e ∙ f)

    begun_of : (last ≡ Some (farther_end best s)) ⊎ ((t : LineEnd) × (last ≡ Some t) × StopsThere rs word source from t) → (last ≡ best) ⊎ ((t : LineEnd) × (last ≡ Some t) × StopsThere (row ∷ rs) word source from t)
    begun_of (inl e) = here_of (farther_one best s) e
    begun_of (inr x) = inr (x.0, x.1, (x.2.0, (inr x.2.1.0, x.2.1.1), x.2.2))

tried_collects : (row : TableRow) (rs : List TableRow) (word source : List ℕ) (from : ℕ) (best last : Option LineEnd) (r : Result Operands LineEnd) (next : Option LineEnd → Result Statement (Option LineEnd)) → row.word ≡ word → read_pieces (pieces_of row.form.operands) source (no_operands from) ≡ r → ((b : Option LineEnd) → next b ≡ Err last → Collected rs word source from b last) → or_else_form (form_attempt row.form.makes best r) next ≡ Err last → Collected (row ∷ rs) word source from best last
tried_collects row rs word source from best last (Ok o) next is fit more h = cc
tried_collects row rs word source from best last (Err s) next is fit more h =
    take_row row rs word source from best last s is (form_stops (pieces_of row.form.operands) source (no_operands from) s fit) (more (Some (farther_end best s)) h)

word_collects : (row : TableRow) (rs : List TableRow) (word source : List ℕ) (from : ℕ) (best last : Option LineEnd) (b : Bool) (next : Option LineEnd → Result Statement (Option LineEnd)) → same row.word word ≡ b → ((c : Option LineEnd) → next c ≡ Err last → Collected rs word source from c last) → or_else_form (if b then form_attempt row.form.makes best (read_pieces (pieces_of row.form.operands) source (no_operands from)) else Err best) next ≡ Err last → Collected (row ∷ rs) word source from best last
word_collects row rs word source from best last true next is more h =
    tried_collects row rs word source from best last (read_pieces (pieces_of row.form.operands) source (no_operands from)) next (same_text row.word word (sym is)) refl more h
word_collects row rs word source from best last false next is more h =
    pass_row row rs word source from best last is (more best h)

collected : (rs : List TableRow) (word source : List ℕ) (from : ℕ) (best last : Option LineEnd) → first_fit rs word source from best ≡ Err last → Collected rs word source from best last
unfolding first_fit try_form
collected [] word source from best last h =
    let q : best ≡ last = cc in
    record { kept = subst (λ x. AtMost best x) q (at_most_self best); each = λ row a w. absurd a; begun = inl (sym q) }
collected (row ∷ rs) word source from best last h =
    word_collects row rs word source from best last (same row.word word) (λ c. first_fit rs word source from c) refl (λ c g. collected rs word source from c last g) h

-- ---- a statement

unknown_is : (word source : List ℕ) (from : ℕ) → Collected rows word source from None None → IsUnknown word
unknown_is word source from c row a = (c.each row a.0 a.1).2

farthest_is : (word source : List ℕ) (from : ℕ) (s : LineEnd) → Collected rows word source from None (Some s) → IsFarthest word source from s
farthest_is word source from s c = record { one = one_of c.begun; each = λ row a. c.each row a.0 a.1 }
  where
    one_of : (Some s ≡ None) ⊎ ((t : LineEnd) × (Some s ≡ Some t) × StopsThere rows word source from t) → (row : TableRow) × IsRowOf word row × Stops (pieces_of row.form.operands) source (no_operands from) s
    one_of (inl e) = cc
    one_of (inr x) =
        let q : x.0 ≡ s = let e = x.1 in cc in
        subst (λ t. (row : TableRow) × IsRowOf word row × Stops (pieces_of row.form.operands) source (no_operands from) t) q (x.2.0, x.2.1, x.2.2)

choice_stops : (source : List ℕ) (from : ℕ) (s : LineEnd) (r : Result Statement (Option LineEnd)) → (token_at source from).kind ≡ kind.Word → first_fit rows (name_of source (token_at source from)) source (token_at source from).end None ≡ r → fit_or_stop (token_at source from) (name_of source (token_at source from)) r ≡ Err s → IsStopAt source from s
choice_stops source from s (Ok t) k e h = cc
choice_stops source from s (Err (Some t)) k e h =
    let q : t ≡ s = cc in
    let word = name_of source (token_at source from) in
    inr (inr (k, farthest_is word source (token_at source from).end s (collected rows word source (token_at source from).end None (Some s) (e ∙ ap (λ x. Err (Some x)) q))))
choice_stops source from s (Err None) k e h =
    let word = name_of source (token_at source from) in
    inr (inl (k, unknown_is word source (token_at source from).end (collected rows word source (token_at source from).end None None e), ap (λ (x : LineEnd). x.at) (sym (let q : stop (token_at source from).start (unknown word) ≡ s = cc in q)), ap (λ (x : LineEnd). x.what) (sym (let q : stop (token_at source from).start (unknown word) ≡ s = cc in q))))

by_passing : (source : List ℕ) (from : ℕ) (s : LineEnd) (b : Bool) → (token_at source from).kind ≡ kind.Word → (if b then Ok None else fit_or_stop (token_at source from) (name_of source (token_at source from)) (first_fit rows (name_of source (token_at source from)) source (token_at source from).end None)) ≡ Err s → IsStopAt source from s
by_passing source from s true k h = cc
by_passing source from s false k h =
    choice_stops source from s (first_fit rows (name_of source (token_at source from)) source (token_at source from).end None) k refl h

by_kind : (source : List ℕ) (from : ℕ) (s : LineEnd) (k : TokenKind) → (token_at source from).kind ≡ k → statement_from_token source (token_at source from) k ≡ Err s → IsStopAt source from s
unfolding word_statement
by_kind source from s kind.Word e h = by_passing source from s (is_passed (name_of source (token_at source from))) e h
by_kind source from s kind.End e h = cc
by_kind source from s k e h =
    inl (λ f. cc, stopped_by (token_at source from) s (sym (let q : end_at_token (token_at source from) ≡ s = cc in q)))

pub statement_stops : (source : List ℕ) (from : ℕ) (s : LineEnd) → statement_at source from ≡ Err s → IsStopAt source from s
unfolding statement_at
statement_stops source from s h = by_kind source from s (token_at source from).kind refl h
