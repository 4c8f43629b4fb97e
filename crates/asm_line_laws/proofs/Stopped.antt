-- Where registers, marks, names, numbers, lists and expressions stop.
use Rattle.std.proofs.Common.{◌≡◌, ◌⊎◌, inl, inr, ℕ, zero, suc, ◌+◌, ◌<◌, ◌≤◌, ◌==◌, Bool, true, false, ◌&&◌, if◌then◌else◌, List, ◌∷◌, length, drop, Option, Some, None, Result, Ok, Err, pos, bit_or, refl, ap, sym, subst, ◌∙◌, arith}
use Rattle.std.specs.Prelude.{nat_lt}
use Rattle.std.specs.List.{prefix_len}
use Rattle.std.proofs.lemmas.Bool.{ltb-true, ltb-false, eqb-true}
use Rattle.asm_read.specs.declared.fault.SourceWhat.TheVariants.{BadOperand, NumberRange}
use Rattle.asm_read.specs.declared.token.TokenKind.{TokenKind}
use Rattle.asm_read.specs.declared.token.TokenKind.TheVariants as kind
use Rattle.asm_read.specs.declared.token.Token.{Token}
use Rattle.asm_read.specs.declared.line.Span.{Span}
use Rattle.asm_read.specs.declared.line.LineEnd.{LineEnd}
use Rattle.asm_read.specs.declared.line.Register.{Register}
use Rattle.asm_read.specs.declared.line.Numeral.{Numeral}
use Rattle.asm_read.specs.declared.line.Item.{Item}
use Rattle.asm_read.specs.declared.line.ListRegisters.{ListRegisters}
use Rattle.asm_read.specs.declared.expression.Shape.{Shape}
use Rattle.asm_read.specs.declared.expression.Shape.TheVariants as shape
use Rattle.asm_read.specs.declared.expression.ParsedExpr.{ParsedExpr}
use Rattle.asm_read.specs.Tokens.{is_blank, front_of, place_token, token_at}
use Rattle.asm_read.specs.Operands.{◌>>=◌, span, stop, refusal, end_at_token, name_in, name_of, register_of, register_in, register_at, past_if, is_mark_of, mark_at, name_span, name_at, numeral, number_at, register_mask, item_at, list_from, list_at}
use Rattle.asm_read.specs.Expressions.{parsed_expr, relation_of, read_relation_as, read_relation, read_difference, after_name, expression_of, expression_at, list_expr_at, item, list_item_at, Series, expr_series, and_more, expressions_at}
use Rattle.asm_line_laws.specs.Stops.{Refuses, IsStoppedBy, IsLast, GoesInRange, GoesInItem, GoesInItems, GoesInList, GoesInDifference, GoesInRelation, GoesAfterName, GoesInExpression, GoesInListed, GoesInSeries}

refuses : (k : TokenKind) → Refuses k (refusal k)
refuses kind.Bad = refl
refuses kind.Wide = inr refl
refuses k = refl

pub stopped_by : (t : Token) (s : LineEnd) → s ≡ end_at_token t → IsStoppedBy t s
stopped_by t s e = subst (λ x. IsStoppedBy t x) (sym e) (refl, refuses t.kind)

same_ok : {A : Type 0} (r : Result A LineEnd) (a b : A) → r ≡ Ok a → r ≡ Ok b → a ≡ b
same_ok r a b e f = let q : Ok a ≡ r = sym e in cc

ok_err : {A : Type 0} (r : Result A LineEnd) (a : A) (s : LineEnd) → r ≡ Ok a → r ≡ Err s → ⊥
ok_err r a s e f = cc

-- ---- single tokens

placed_after : (from start n : ℕ) (k : TokenKind) → from ≤ start → (from ≤ (place_token from start n k).start) × ((place_token from start n k).start ≤ (place_token from start n k).end)
placed_after from start n kind.End h = (omega arith, omega arith)
placed_after from start n k h = (h, omega arith)

token_after : (source : List ℕ) (from : ℕ) → (from ≤ (token_at source from).start) × ((token_at source from).start ≤ (token_at source from).end)
unfolding token_at
token_after source from =
    let start = from + prefix_len is_blank (drop from source) in
    let f = front_of (drop start source) in
    placed_after from start f.len f.kind (omega arith)

end_after : (source : List ℕ) (from : ℕ) → from ≤ (token_at source from).end
end_after source from =
    let a = (token_after source from).0 in
    let b = (token_after source from).1 in
    omega arith

no_register : (t : Token) (r : Option ℕ) (s : LineEnd) → register_in t r ≡ Err s → s ≡ end_at_token t
no_register t None s h = sym (let q : end_at_token t ≡ s = cc in q)
no_register t (Some r) s h = cc

pub register_stops : (source : List ℕ) (from : ℕ) (s : LineEnd) → register_at source from ≡ Err s → IsStoppedBy (token_at source from) s
unfolding register_at
register_stops source from s h =
    stopped_by (token_at source from) s (no_register (token_at source from) (register_of (name_of source (token_at source from))) s h)

register_is : (t : Token) (q : Option ℕ) (r : Register) → register_in t q ≡ Ok r → (r.start ≡ t.start) × (r.end ≡ t.end)
register_is t None r h = cc
register_is t (Some n) r h =
    let q : record { number = n; start = t.start; end = t.end } ≡ r = cc in
    (ap (λ (x : Register). x.start) (sym q), ap (λ (x : Register). x.end) (sym q))

register_token : (source : List ℕ) (from : ℕ) (r : Register) → register_at source from ≡ Ok r → (r.start ≡ (token_at source from).start) × (r.end ≡ (token_at source from).end)
unfolding register_at
register_token source from r h = register_is (token_at source from) (register_of (name_of source (token_at source from))) r h

register_after : (source : List ℕ) (from : ℕ) (r : Register) → register_at source from ≡ Ok r → from ≤ r.end
register_after source from r h =
    let q = (register_token source from r h).1 in
    let a = end_after source from in
    omega arith

word_refuses : (source : List ℕ) (t : Token) (k : TokenKind) (r : Register) → register_in t (register_of (name_in source (span t.start t.end) k)) ≡ Ok r → Refuses k BadOperand
word_refuses source t kind.Bad r h = cc
word_refuses source t kind.Wide r h = inr refl
word_refuses source t k r h = refl

register_refuses : (source : List ℕ) (from : ℕ) (r : Register) → register_at source from ≡ Ok r → Refuses (token_at source from).kind BadOperand
unfolding register_at
register_refuses source from r h = word_refuses source (token_at source from) (token_at source from).kind r h

pub not_past : (b : Bool) (t : Token) (s : LineEnd) → past_if b t ≡ Err s → s ≡ end_at_token t
not_past true t s h = cc
not_past false t s h = sym (let q : end_at_token t ≡ s = cc in q)

past_end : (b : Bool) (t : Token) (at : ℕ) → past_if b t ≡ Ok at → at ≡ t.end
past_end true t at h = sym (let q : t.end ≡ at = cc in q)
past_end false t at h = cc

past_not : (b : Bool) (t : Token) (at : ℕ) → b ≡ false → past_if b t ≡ Ok at → ⊥
past_not true t at n h = cc
past_not false t at n h = cc

pub mark_stops : (b : ℕ) (source : List ℕ) (from : ℕ) (s : LineEnd) → mark_at b source from ≡ Err s → IsStoppedBy (token_at source from) s
unfolding mark_at
mark_stops b source from s h =
    stopped_by (token_at source from) s (not_past (is_mark_of b (token_at source from).kind) (token_at source from) s h)

pub mark_there : (b : ℕ) (source : List ℕ) (from : ℕ) → is_mark_of b (token_at source from).kind ≡ true → mark_at b source from ≡ Ok (token_at source from).end
unfolding mark_at
mark_there b source from e = ap (λ c. past_if c (token_at source from)) e

pub mark_end : (b : ℕ) (source : List ℕ) (from at : ℕ) → mark_at b source from ≡ Ok at → at ≡ (token_at source from).end
unfolding mark_at
mark_end b source from at h = past_end (is_mark_of b (token_at source from).kind) (token_at source from) at h

mark_after : (b : ℕ) (source : List ℕ) (from at : ℕ) → mark_at b source from ≡ Ok at → from ≤ at
mark_after b source from at h =
    let q = mark_end b source from at h in
    let a = end_after source from in
    omega arith

mark_not : (b : ℕ) (source : List ℕ) (from at : ℕ) → is_mark_of b (token_at source from).kind ≡ false → mark_at b source from ≡ Ok at → ⊥
unfolding mark_at
mark_not b source from at n h = past_not (is_mark_of b (token_at source from).kind) (token_at source from) at n h

past_is : (b : Bool) (t : Token) (at : ℕ) → past_if b t ≡ Ok at → b ≡ true
past_is true t at h = refl
past_is false t at h = cc

pub mark_kind : (b : ℕ) (source : List ℕ) (from at : ℕ) → mark_at b source from ≡ Ok at → is_mark_of b (token_at source from).kind ≡ true
unfolding mark_at
mark_kind b source from at h = past_is (is_mark_of b (token_at source from).kind) (token_at source from) at h

-- a mark is no other
other_mark : (b c : ℕ) (k : TokenKind) → is_mark_of b k ≡ true → (c == b) ≡ false → is_mark_of c k ≡ false
other_mark b c (kind.Mark d) h n = ap (λ x. c == x) (sym (eqb-true b d h)) ∙ n
other_mark b c k h n = cc

mark_refuses : (b : ℕ) (k : TokenKind) → is_mark_of b k ≡ true → Refuses k BadOperand
mark_refuses b (kind.Mark c) h = refl
mark_refuses b k h = cc

no_name : (t : Token) (k : TokenKind) (s : LineEnd) → name_span t k ≡ Err s → s ≡ end_at_token t
no_name t kind.Word s h = cc
no_name t k s h = sym (let q : end_at_token t ≡ s = cc in q)

pub name_stops : (source : List ℕ) (from : ℕ) (s : LineEnd) → name_at source from ≡ Err s → IsStoppedBy (token_at source from) s
unfolding name_at
name_stops source from s h =
    stopped_by (token_at source from) s (no_name (token_at source from) (token_at source from).kind s h)

pub name_there : (source : List ℕ) (from : ℕ) → (token_at source from).kind ≡ kind.Word → name_at source from ≡ Ok (span (token_at source from).start (token_at source from).end)
unfolding name_at
name_there source from e = ap (name_span (token_at source from)) e

name_is : (t : Token) (k : TokenKind) (s : Span) → name_span t k ≡ Ok s → (k ≡ kind.Word) × (s.end ≡ t.end)
name_is t kind.Word s h = (refl, ap (λ (x : Span). x.end) (sym (let q : span t.start t.end ≡ s = cc in q)))
name_is t k s h = cc

pub name_token : (source : List ℕ) (from : ℕ) (s : Span) → name_at source from ≡ Ok s → ((token_at source from).kind ≡ kind.Word) × (s.end ≡ (token_at source from).end)
unfolding name_at
name_token source from s h = name_is (token_at source from) (token_at source from).kind s h

name_after : (source : List ℕ) (from : ℕ) (s : Span) → name_at source from ≡ Ok s → from ≤ s.end
name_after source from s h =
    let q = (name_token source from s h).1 in
    let a = end_after source from in
    omega arith

wide : (t : Token) (s : LineEnd) → t.kind ≡ kind.Wide → s ≡ stop t.start NumberRange → IsStoppedBy t s
wide t s e h = subst (λ x. IsStoppedBy t x) (sym h) (refl, subst (λ k. Refuses k NumberRange) (sym e) (inl refl))

no_number : (t : Token) (k : TokenKind) (s : LineEnd) → t.kind ≡ k → numeral t k ≡ Err s → IsStoppedBy t s
no_number t (kind.Number n) s e h = cc
no_number t kind.Wide s e h = wide t s e (sym (let q : stop t.start NumberRange ≡ s = cc in q))
no_number t k s e h = stopped_by t s (sym (let q : end_at_token t ≡ s = cc in q))

pub number_stops : (source : List ℕ) (from : ℕ) (s : LineEnd) → number_at source from ≡ Err s → IsStoppedBy (token_at source from) s
unfolding number_at
number_stops source from s h = no_number (token_at source from) (token_at source from).kind s refl h

number_is : (t : Token) (k : TokenKind) (n : Numeral) → numeral t k ≡ Ok n → n.end ≡ t.end
number_is t (kind.Number z) n h =
    ap (λ (x : Numeral). x.end) (sym (let q : record { value = z; end = t.end } ≡ n = cc in q))
number_is t k n h = cc

number_after : (source : List ℕ) (from : ℕ) (n : Numeral) → number_at source from ≡ Ok n → from ≤ n.end
unfolding number_at
number_after source from n h =
    let q = number_is (token_at source from) (token_at source from).kind n h in
    let a = end_after source from in
    omega arith

-- ---- register lists

far_in_range : (source : List ℕ) (low : Register) (dash bound far : ℕ) → dash ≤ bound → ((high : Register) → register_at source dash ≡ Ok high → low.number ≤ high.number → high.end ≤ bound) → ((far ≡ dash) ⊎ ((high : Register) × (register_at source dash ≡ Ok high) × (low.number ≤ high.number) × (far ≡ high.end))) → far ≤ bound
far_in_range source low dash bound far h k (inl q) = omega arith
far_in_range source low dash bound far h k (inr x) =
    let a = k x.0 x.1 x.2 in
    let q = x.3 in
    omega arith

-- what no range goes beyond
abbrev RangeWithin : List ℕ → Register → ℕ → Type 0
RangeWithin source low bound = (dash : ℕ) → mark_at 45 source low.end ≡ Ok dash → (dash ≤ bound) × ((high : Register) → register_at source dash ≡ Ok high → low.number ≤ high.number → high.end ≤ bound)

range_last : (source : List ℕ) (low : Register) (bound : ℕ) → low.end ≤ bound → RangeWithin source low bound → (far : ℕ) → GoesInRange source low far → far ≤ bound
range_last source low bound h k far (inl q) = omega arith
range_last source low bound h k far (inr x) =
    let z = k x.0 x.1 in
    far_in_range source low x.0 bound far z.0 z.1 x.2

item_last : (source : List ℕ) (from : ℕ) (low : Register) (bound : ℕ) → register_at source from ≡ Ok low → low.end ≤ bound → RangeWithin source low bound → (far : ℕ) → GoesInItem source from far → far ≤ bound
item_last source from low bound e h k far (inl q) = let a = register_after source from low e in omega arith
item_last source from low bound e h k far (inr x) =
    let q = same_ok (register_at source from) x.0 low x.1 e in
    range_last source low bound h k far (subst (λ l. GoesInRange source l far) q x.2)

-- an item ends where it goes on to, or stops at a token
abbrev ItemEnds : List ℕ → ℕ → Result Item LineEnd → Type 0
ItemEnds source from (Ok i) = GoesInItem source from i.end × IsLast (GoesInItem source from) i.end
ItemEnds source from (Err s) = (at : ℕ) × GoesInItem source from at × IsStoppedBy (token_at source at) s × IsLast (GoesInItem source from) at

abbrev ranged : Register → Register → Result Item LineEnd
ranged low high = if nat_lt high.number low.number then Err (stop high.start BadOperand) else Ok (record { low = low.number; high = high.number; end = high.end })

same_high : (source : List ℕ) (d dash : ℕ) (h high : Register) → d ≡ dash → register_at source d ≡ Ok h → register_at source dash ≡ Ok high → h ≡ high
same_high source d dash h high q g f = same_ok (register_at source dash) h high (sym (ap (register_at source) q) ∙ g) f

falls_by : (source : List ℕ) (from dash : ℕ) (low high : Register) (b : Bool) → nat_lt high.number low.number ≡ b → register_at source from ≡ Ok low → mark_at 45 source low.end ≡ Ok dash → register_at source dash ≡ Ok high → ItemEnds source from (if b then Err (stop high.start BadOperand) else Ok (record { low = low.number; high = high.number; end = high.end }))
falls_by source from dash low high true l e m f =
    let below : high.number < low.number = ltb-true high.number low.number l in (
      dash,
      inr (low, e, inr (dash, m, inl refl)),
      ((register_token source dash high f).0, register_refuses source dash high f),
      item_last source from low dash e (mark_after 45 source low.end dash m) (λ d n.
          let q = same_ok (mark_at 45 source low.end) d dash n m in
          (omega arith, λ h g a. absurd (let r = ap (λ (x : Register). x.number) (same_high source d dash h high q g f) in omega arith))),
    )
falls_by source from dash low high false l e m f =
    let not_below : low.number ≤ high.number = ltb-false high.number low.number l in
    let after = register_after source dash high f in
    let before = mark_after 45 source low.end dash m in (
      inr (low, e, inr (dash, m, inr (high, f, not_below, refl))),
      item_last source from low high.end e (omega arith) (λ d n.
          let q = same_ok (mark_at 45 source low.end) d dash n m in
          (omega arith, λ h g a. let r = ap (λ (x : Register). x.end) (same_high source d dash h high q g f) in omega arith)),
    )

high_by : (source : List ℕ) (from dash : ℕ) (low : Register) (r : Result Register LineEnd) → register_at source from ≡ Ok low → mark_at 45 source low.end ≡ Ok dash → register_at source dash ≡ r → ItemEnds source from (r >>= (λ high. ranged low high))
high_by source from dash low (Ok high) e m f =
    falls_by source from dash low high (nat_lt high.number low.number) refl e m f
high_by source from dash low (Err s) e m f = (
  dash,
  inr (low, e, inr (dash, m, inl refl)),
  register_stops source dash s f,
  item_last source from low dash e (mark_after 45 source low.end dash m) (λ d n.
      let q = same_ok (mark_at 45 source low.end) d dash n m in
      (omega arith, λ h g a. absurd (ok_err (register_at source dash) h s (sym (ap (register_at source) q) ∙ g) f))),
)

dash_by : (source : List ℕ) (from : ℕ) (low : Register) (b : Bool) → register_at source from ≡ Ok low → is_mark_of 45 (token_at source low.end).kind ≡ b → ItemEnds source from (if b then (register_at source (token_at source low.end).end >>= (λ high. ranged low high)) else Ok (record { low = low.number; high = low.number; end = low.end }))
dash_by source from low true e m =
    let dash = (token_at source low.end).end in
    high_by source from dash low (register_at source dash) e (mark_there 45 source low.end m) refl
dash_by source from low false e m =
    (inr (low, e, inl refl), item_last source from low low.end e (omega arith) (λ d n. absurd (mark_not 45 source low.end d m n)))

no_item_goes : (source : List ℕ) (from : ℕ) (s : LineEnd) → register_at source from ≡ Err s → (far : ℕ) → GoesInItem source from far → far ≤ from
no_item_goes source from s e far (inl q) = omega arith
no_item_goes source from s e far (inr x) = absurd (ok_err (register_at source from) x.0 s x.1 e)

low_by : (source : List ℕ) (from : ℕ) (r : Result Register LineEnd) → register_at source from ≡ r → ItemEnds source from (r >>= (λ low. if is_mark_of 45 (token_at source low.end).kind then (register_at source (token_at source low.end).end >>= (λ high. ranged low high)) else Ok (record { low = low.number; high = low.number; end = low.end })))
low_by source from (Ok low) e = dash_by source from low (is_mark_of 45 (token_at source low.end).kind) e refl
low_by source from (Err s) e = (from, inl refl, register_stops source from s e, no_item_goes source from s e)

item_ends : (source : List ℕ) (from : ℕ) → ItemEnds source from (item_at source from)
unfolding item_at
item_ends source from = low_by source from (register_at source from) refl

-- items from a place on end at a closing brace, or stop at a token
abbrev ItemsEnd : ℕ → List ℕ → ℕ → Result ListRegisters LineEnd → Type 0
ItemsEnd n source from (Ok l) = (at : ℕ) × GoesInItems n source from at × (l.close ≡ (token_at source at).start) × Refuses (token_at source at).kind BadOperand × IsLast (GoesInItems n source from) at
ItemsEnd n source from (Err s) = (at : ℕ) × GoesInItems n source from at × IsStoppedBy (token_at source at) s × IsLast (GoesInItems n source from) at

goes_nowhere : (n : ℕ) (source : List ℕ) (from : ℕ) → GoesInItems n source from from
goes_nowhere zero source from = refl
goes_nowhere (suc n) source from = inl (inl refl)

items_last : (n : ℕ) (source : List ℕ) (from bound : ℕ) (i : Item) → item_at source from ≡ Ok i → IsLast (GoesInItem source from) i.end → i.end ≤ bound → ((next : ℕ) → mark_at 44 source i.end ≡ Ok next → IsLast (GoesInItems n source next) bound) → (far : ℕ) → GoesInItems (suc n) source from far → far ≤ bound
items_last n source from bound i e last h k far (inl g) = let a = last far g in omega arith
items_last n source from bound i e last h k far (inr x) =
    let q = same_ok (item_at source from) x.0 i x.2 e in
    k x.1 (subst (λ (j : Item). mark_at 44 source j.end ≡ Ok x.1) q x.3) far x.4

-- a list after an item and a comma
further : (n : ℕ) (source : List ℕ) (from next : ℕ) (i : Item) (r : Result ListRegisters LineEnd) → item_at source from ≡ Ok i → IsLast (GoesInItem source from) i.end → mark_at 44 source i.end ≡ Ok next → ItemsEnd n source next r → ItemsEnd (suc n) source from r
further n source from next i (Ok l) e last m h =
    let a = mark_after 44 source i.end next m in
    let b = h.4 next (goes_nowhere n source next) in
    (h.0, inr (i, next, e, m, h.1), h.2, h.3, items_last n source from h.0 i e last (omega arith) (λ y n'. subst (λ z. IsLast (GoesInItems n source z) h.0) (same_ok (mark_at 44 source i.end) next y m n') h.4))
further n source from next i (Err s) e last m h =
    let a = mark_after 44 source i.end next m in
    let b = h.3 next (goes_nowhere n source next) in
    (h.0, inr (i, next, e, m, h.1), h.2, items_last n source from h.0 i e last (omega arith) (λ y n'. subst (λ z. IsLast (GoesInItems n source z) h.0) (same_ok (mark_at 44 source i.end) next y m n') h.3))

abbrev listed : ℕ → Token → ListRegisters
listed all t = record { list = all; close = t.start; end = t.end }

after_by : (n : ℕ) (source : List ℕ) (from : ℕ) (i : Item) (all : ℕ) (b c : Bool) → item_at source from ≡ Ok i → GoesInItem source from i.end → IsLast (GoesInItem source from) i.end → is_mark_of 125 (token_at source i.end).kind ≡ b → is_mark_of 44 (token_at source i.end).kind ≡ c → ((next : ℕ) → ItemsEnd n source next (list_from n source all next)) → ItemsEnd (suc n) source from (if b then Ok (listed all (token_at source i.end)) else if c then list_from n source all (token_at source i.end).end else Err (end_at_token (token_at source i.end)))
after_by n source from i all true c e goes last close comma rest =
    (i.end, inl goes, refl, mark_refuses 125 (token_at source i.end).kind close, items_last n source from i.end i e last (omega arith) (λ y m. absurd (mark_not 44 source i.end y (other_mark 125 44 (token_at source i.end).kind close refl) m)))
after_by n source from i all false true e goes last close comma rest =
    let next = (token_at source i.end).end in
    further n source from next i (list_from n source all next) e last (mark_there 44 source i.end comma) (rest next)
after_by n source from i all false false e goes last close comma rest =
    (i.end, inl goes, stopped_by (token_at source i.end) (end_at_token (token_at source i.end)) refl, items_last n source from i.end i e last (omega arith) (λ y m. absurd (mark_not 44 source i.end y comma m)))

no_items_go : (n : ℕ) (source : List ℕ) (from bound : ℕ) (s : LineEnd) → item_at source from ≡ Err s → IsLast (GoesInItem source from) bound → (far : ℕ) → GoesInItems (suc n) source from far → far ≤ bound
no_items_go n source from bound s e last far (inl g) = last far g
no_items_go n source from bound s e last far (inr x) = absurd (ok_err (item_at source from) x.0 s x.2 e)

item_by : (n : ℕ) (source : List ℕ) (from list : ℕ) (r : Result Item LineEnd) → item_at source from ≡ r → ItemEnds source from r → ((all next : ℕ) → ItemsEnd n source next (list_from n source all next)) → ItemsEnd (suc n) source from (r >>= (λ i. if is_mark_of 125 (token_at source i.end).kind then Ok (listed (bit_or list (register_mask i.low i.high)) (token_at source i.end)) else if is_mark_of 44 (token_at source i.end).kind then list_from n source (bit_or list (register_mask i.low i.high)) (token_at source i.end).end else Err (end_at_token (token_at source i.end))))
item_by n source from list (Ok i) e ends rest =
    let all = bit_or list (register_mask i.low i.high) in
    after_by n source from i all (is_mark_of 125 (token_at source i.end).kind) (is_mark_of 44 (token_at source i.end).kind) e ends.0 ends.1 refl refl (λ next. rest all next)
item_by n source from list (Err s) e ends rest =
    (ends.0, inl ends.1, ends.2, no_items_go n source from ends.0 s e ends.3)

items_end : (n : ℕ) (source : List ℕ) (list from : ℕ) → ItemsEnd n source from (list_from n source list from)
unfolding list_from
items_end zero source list from =
    (from, refl, stopped_by (token_at source from) (end_at_token (token_at source from)) refl, λ far q. omega arith)
items_end (suc n) source list from =
    item_by n source from list (item_at source from) refl (item_ends source from) (λ all next. items_end n source all next)

-- a list ends at its closing brace, or stops at a token
abbrev pub ListEnds : List ℕ → ℕ → Result ListRegisters LineEnd → Type 0
ListEnds source from (Ok l) = (at : ℕ) × GoesInList source from at × (l.close ≡ (token_at source at).start) × Refuses (token_at source at).kind BadOperand × IsLast (GoesInList source from) at
ListEnds source from (Err s) = (at : ℕ) × GoesInList source from at × IsStoppedBy (token_at source at) s × IsLast (GoesInList source from) at

list_last : (source : List ℕ) (from inside bound : ℕ) → mark_at 123 source from ≡ Ok inside → IsLast (GoesInItems (length source) source inside) bound → (far : ℕ) → GoesInList source from far → far ≤ bound
list_last source from inside bound m last far (inl q) =
    let a = mark_after 123 source from inside m in
    let b = last inside (goes_nowhere (length source) source inside) in
    omega arith
list_last source from inside bound m last far (inr x) =
    last far (subst (λ z. GoesInItems (length source) source z far) (same_ok (mark_at 123 source from) x.0 inside x.1 m) x.2)

no_register_by : (source : List ℕ) (t : Token) (b : ℕ) (k : TokenKind) → is_mark_of b k ≡ true → register_in t (register_of (name_in source (span t.start t.end) k)) ≡ Err (end_at_token t)
no_register_by source t b (kind.Mark c) h = refl
no_register_by source t b k h = cc

no_register_at : (source : List ℕ) (from b : ℕ) → is_mark_of b (token_at source from).kind ≡ true → register_at source from ≡ Err (end_at_token (token_at source from))
unfolding register_at
no_register_at source from b h = no_register_by source (token_at source from) b (token_at source from).kind h

no_item_at : (source : List ℕ) (from : ℕ) (s : LineEnd) → register_at source from ≡ Err s → item_at source from ≡ Err s
unfolding item_at
no_item_at source from s e = ap (λ r. r >>= (λ low. if is_mark_of 45 (token_at source low.end).kind then (register_at source (token_at source low.end).end >>= (λ high. ranged low high)) else Ok (record { low = low.number; high = low.number; end = low.end }))) e

-- after { and before } stands no item
empty_last : (n : ℕ) (source : List ℕ) (inside : ℕ) (s : LineEnd) → register_at source inside ≡ Err s → (far : ℕ) → GoesInItems n source inside far → far ≤ inside
empty_last zero source inside s e far q = omega arith
empty_last (suc n) source inside s e far x =
    no_items_go n source inside inside s (no_item_at source inside s e) (no_item_goes source inside s e) far x

inside_by : (source : List ℕ) (from inside : ℕ) (b : Bool) → mark_at 123 source from ≡ Ok inside → is_mark_of 125 (token_at source inside).kind ≡ b → ListEnds source from (if b then Ok (listed 0 (token_at source inside)) else list_from (length source) source 0 inside)
inside_by source from inside true m close =
    (inside, inr (inside, m, goes_nowhere (length source) source inside), refl, mark_refuses 125 (token_at source inside).kind close, list_last source from inside inside m (empty_last (length source) source inside (end_at_token (token_at source inside)) (no_register_at source inside 125 close)))
inside_by source from inside false m close =
    opened source from inside (list_from (length source) source 0 inside) m (items_end (length source) source 0 inside)
  where
    opened : (source : List ℕ) (from inside : ℕ) (r : Result ListRegisters LineEnd) → mark_at 123 source from ≡ Ok inside → ItemsEnd (length source) source inside r → ListEnds source from r
    opened source from inside (Ok l) m h = (h.0, inr (inside, m, h.1), h.2, h.3, list_last source from inside h.0 m h.4)
    opened source from inside (Err s) m h = (h.0, inr (inside, m, h.1), h.2, list_last source from inside h.0 m h.3)

no_list_goes : (source : List ℕ) (from : ℕ) (s : LineEnd) → mark_at 123 source from ≡ Err s → (far : ℕ) → GoesInList source from far → far ≤ from
no_list_goes source from s e far (inl q) = omega arith
no_list_goes source from s e far (inr x) = absurd (ok_err (mark_at 123 source from) x.0 s x.1 e)

brace_by : (source : List ℕ) (from : ℕ) (r : Result ℕ LineEnd) → mark_at 123 source from ≡ r → ListEnds source from (r >>= (λ inside. if is_mark_of 125 (token_at source inside).kind then Ok (listed 0 (token_at source inside)) else list_from (length source) source 0 inside))
brace_by source from (Ok inside) e = inside_by source from inside (is_mark_of 125 (token_at source inside).kind) e refl
brace_by source from (Err s) e = (from, inl refl, mark_stops 123 source from s e, no_list_goes source from s e)

pub list_ends : (source : List ℕ) (from : ℕ) → ListEnds source from (list_at source from)
unfolding list_at
list_ends source from = brace_by source from (mark_at 123 source from) refl

-- ---- expressions

-- what is read from a place on ends after all places that it goes on to, or stops at the token of the last of them
abbrev pub Ended : List ℕ → (ℕ → Type 0) → ℕ → Result ParsedExpr LineEnd → Type 0
Ended source P low (Ok e) = (low ≤ e.end) × IsLast P e.end
Ended source P low (Err s) = (at : ℕ) × P at × IsStoppedBy (token_at source at) s × (low ≤ at) × IsLast P at

-- a number after a mark
number_then : (source : List ℕ) (P : ℕ → Type 0) (low at : ℕ) (f : Numeral → Shape) (r : Result Numeral LineEnd) → P at → low ≤ at → IsLast P at → number_at source at ≡ r → Ended source P low (r >>= (λ n. Ok (parsed_expr (f n) n.end)))
number_then source P low at f (Ok n) p h last e =
    let a = number_after source at n e in
    (omega arith, λ far x. let b = last far x in omega arith)
number_then source P low at f (Err s) p h last e = (at, p, number_stops source at s e, h, last)

difference_last : (source : List ℕ) (minus bound : ℕ) (other : Span) → name_at source minus ≡ Ok other → minus ≤ bound → ((at : ℕ) → mark_at 43 source other.end ≡ Ok at → at ≤ bound) → (far : ℕ) → GoesInDifference source minus far → far ≤ bound
difference_last source minus bound other e h k far (inl q) = omega arith
difference_last source minus bound other e h k far (inr x) =
    let q = same_ok (name_at source minus) x.0 other x.1 e in
    k far (subst (λ (o : Span). mark_at 43 source o.end ≡ Ok far) q x.2)

second_by : (source : List ℕ) (name : Span) (minus : ℕ) (other : Span) (b : Bool) → name_at source minus ≡ Ok other → is_mark_of 43 (token_at source other.end).kind ≡ b → Ended source (GoesInDifference source minus) minus (if b then (number_at source (token_at source other.end).end >>= (λ n. Ok (parsed_expr (shape.Diff name other n.value) n.end))) else Ok (parsed_expr (shape.Diff name other (pos 0)) other.end))
second_by source name minus other true e plus =
    let at = (token_at source other.end).end in
    let m = mark_there 43 source other.end plus in
    let a = name_after source minus other e in
    let b = mark_after 43 source other.end at m in
    let low : minus ≤ at = omega arith in
    number_then source (GoesInDifference source minus) minus at (λ n. shape.Diff name other n.value) (number_at source at) (inr (other, e, m)) low (difference_last source minus at other e low (λ y n. let q = same_ok (mark_at 43 source other.end) y at n m in omega arith)) refl
second_by source name minus other false e plus =
    let a = name_after source minus other e in
    (a, difference_last source minus other.end other e a (λ y n. absurd (mark_not 43 source other.end y plus n)))

no_difference_goes : (source : List ℕ) (minus : ℕ) (s : LineEnd) → name_at source minus ≡ Err s → (far : ℕ) → GoesInDifference source minus far → far ≤ minus
no_difference_goes source minus s e far (inl q) = omega arith
no_difference_goes source minus s e far (inr x) = absurd (ok_err (name_at source minus) x.0 s x.1 e)

other_by : (source : List ℕ) (name : Span) (minus : ℕ) (r : Result Span LineEnd) → name_at source minus ≡ r → Ended source (GoesInDifference source minus) minus (r >>= (λ other. if is_mark_of 43 (token_at source other.end).kind then (number_at source (token_at source other.end).end >>= (λ n. Ok (parsed_expr (shape.Diff name other n.value) n.end))) else Ok (parsed_expr (shape.Diff name other (pos 0)) other.end)))
other_by source name minus (Ok other) e =
    second_by source name minus other (is_mark_of 43 (token_at source other.end).kind) e refl
other_by source name minus (Err s) e =
    (minus, inl refl, name_stops source minus s e, omega arith, no_difference_goes source minus s e)

difference_ends : (source : List ℕ) (name : Span) (minus : ℕ) → Ended source (GoesInDifference source minus) minus (read_difference source name minus)
unfolding read_difference
difference_ends source name minus = other_by source name minus (name_at source minus) refl

relation_last : (source : List ℕ) (name : Span) (inside bound : ℕ) → (token_at source inside).end ≤ bound → (far : ℕ) → GoesInRelation source name inside far → far ≤ bound
relation_last source name inside bound h far (inl q) = let a = end_after source inside in omega arith
relation_last source name inside bound h far (inr x) = let q = x.2 in omega arith

close_by : (source : List ℕ) (name : Span) (inside : ℕ) (s : Shape) (r : Result ℕ LineEnd) → relation_of name (name_of source (token_at source inside)) ≡ Some s → mark_at 41 source (token_at source inside).end ≡ r → Ended source (GoesInRelation source name inside) inside (r >>= (λ end. Ok (parsed_expr s end)))
close_by source name inside s (Ok end) e m =
    let a = mark_after 41 source (token_at source inside).end end m in
    let b = end_after source inside in
    (omega arith, relation_last source name inside end a)
close_by source name inside s (Err t) e m =
    let end = (token_at source inside).end in
    (end, inr (s, e, refl), mark_stops 41 source end t m, end_after source inside, relation_last source name inside end (omega arith))

no_relation_goes : (source : List ℕ) (name : Span) (inside : ℕ) → relation_of name (name_of source (token_at source inside)) ≡ None → (far : ℕ) → GoesInRelation source name inside far → far ≤ inside
no_relation_goes source name inside e far (inl q) = omega arith
no_relation_goes source name inside e far (inr x) = absurd (let f = x.1 in let q : None ≡ Some x.0 = sym e ∙ f in cc)

relation_by : (source : List ℕ) (name : Span) (inside : ℕ) (q : Option Shape) → relation_of name (name_of source (token_at source inside)) ≡ q → Ended source (GoesInRelation source name inside) inside (read_relation_as source (token_at source inside) q)
relation_by source name inside None e =
    (inside, inl refl, stopped_by (token_at source inside) (end_at_token (token_at source inside)) refl, omega arith, no_relation_goes source name inside e)
relation_by source name inside (Some s) e =
    close_by source name inside s (mark_at 41 source (token_at source inside).end) e refl

related_ends : (source : List ℕ) (name : Span) (inside : ℕ) → Ended source (GoesInRelation source name inside) inside (read_relation source name inside)
unfolding read_relation
related_ends source name inside =
    relation_by source name inside (relation_of name (name_of source (token_at source inside))) refl

after_last : (word : Bool) (source : List ℕ) (name : Span) (bound : ℕ) → ((at : ℕ) → mark_at 43 source name.end ≡ Ok at → at ≤ bound) → ((minus : ℕ) → mark_at 45 source name.end ≡ Ok minus → IsLast (GoesInDifference source minus) bound) → ((inside : ℕ) → word ≡ true → mark_at 40 source name.end ≡ Ok inside → IsLast (GoesInRelation source name inside) bound) → (far : ℕ) → GoesAfterName word source name far → far ≤ bound
after_last word source name bound p q r far (inl m) = p far m
after_last word source name bound p q r far (inr (inl x)) = q x.0 x.1 far x.2
after_last word source name bound p q r far (inr (inr x)) = r x.0 x.1 x.2 far x.3

-- after a minus sign, and after an opening parenthesis
lift_difference : (word : Bool) (source : List ℕ) (name : Span) (minus : ℕ) (r : Result ParsedExpr LineEnd) → is_mark_of 45 (token_at source name.end).kind ≡ true → mark_at 45 source name.end ≡ Ok minus → Ended source (GoesInDifference source minus) minus r → Ended source (GoesAfterName word source name) name.end r
lift_difference word source name minus (Ok e) is m h =
    let a = mark_after 45 source name.end minus m in
    let b = h.0 in
    (omega arith, after_last word source name e.end (λ y n. absurd (mark_not 43 source name.end y (other_mark 45 43 (token_at source name.end).kind is refl) n)) (λ y n. subst (λ z. IsLast (GoesInDifference source z) e.end) (same_ok (mark_at 45 source name.end) minus y m n) h.1) (λ y w n. absurd (mark_not 40 source name.end y (other_mark 45 40 (token_at source name.end).kind is refl) n)))
lift_difference word source name minus (Err s) is m h =
    let a = mark_after 45 source name.end minus m in
    let b = h.3 in
    (h.0, inr (inl (minus, m, h.1)), h.2, omega arith, after_last word source name h.0 (λ y n. absurd (mark_not 43 source name.end y (other_mark 45 43 (token_at source name.end).kind is refl) n)) (λ y n. subst (λ z. IsLast (GoesInDifference source z) h.0) (same_ok (mark_at 45 source name.end) minus y m n) h.4) (λ y w n. absurd (mark_not 40 source name.end y (other_mark 45 40 (token_at source name.end).kind is refl) n)))

lift_relation : (source : List ℕ) (name : Span) (inside : ℕ) (r : Result ParsedExpr LineEnd) → is_mark_of 40 (token_at source name.end).kind ≡ true → mark_at 40 source name.end ≡ Ok inside → Ended source (GoesInRelation source name inside) inside r → Ended source (GoesAfterName true source name) name.end r
lift_relation source name inside (Ok e) is m h =
    let a = mark_after 40 source name.end inside m in
    let b = h.0 in
    (omega arith, after_last true source name e.end (λ y n. absurd (mark_not 43 source name.end y (other_mark 40 43 (token_at source name.end).kind is refl) n)) (λ y n. absurd (mark_not 45 source name.end y (other_mark 40 45 (token_at source name.end).kind is refl) n)) (λ y w n. subst (λ z. IsLast (GoesInRelation source name z) e.end) (same_ok (mark_at 40 source name.end) inside y m n) h.1))
lift_relation source name inside (Err s) is m h =
    let a = mark_after 40 source name.end inside m in
    let b = h.3 in
    (h.0, inr (inr (inside, refl, m, h.1)), h.2, omega arith, after_last true source name h.0 (λ y n. absurd (mark_not 43 source name.end y (other_mark 40 43 (token_at source name.end).kind is refl) n)) (λ y n. absurd (mark_not 45 source name.end y (other_mark 40 45 (token_at source name.end).kind is refl) n)) (λ y w n. subst (λ z. IsLast (GoesInRelation source name z) h.0) (same_ok (mark_at 40 source name.end) inside y m n) h.4))

plus_ends : (word : Bool) (source : List ℕ) (name : Span) → is_mark_of 43 (token_at source name.end).kind ≡ true → Ended source (GoesAfterName word source name) name.end (number_at source (token_at source name.end).end >>= (λ n. Ok (parsed_expr (shape.Of name n.value) n.end)))
plus_ends word source name plus =
    let at = (token_at source name.end).end in
    let m = mark_there 43 source name.end plus in
    number_then source (GoesAfterName word source name) name.end at (λ n. shape.Of name n.value) (number_at source at) (inl m) (mark_after 43 source name.end at m) (after_last word source name at (λ y n. let q = same_ok (mark_at 43 source name.end) y at n m in omega arith) (λ y n. absurd (mark_not 45 source name.end y (other_mark 43 45 (token_at source name.end).kind plus refl) n)) (λ y w n. absurd (mark_not 40 source name.end y (other_mark 43 40 (token_at source name.end).kind plus refl) n))) refl

alone_ends : (word : Bool) (source : List ℕ) (name : Span) → is_mark_of 43 (token_at source name.end).kind ≡ false → is_mark_of 45 (token_at source name.end).kind ≡ false → (word && is_mark_of 40 (token_at source name.end).kind) ≡ false → (name.end ≤ name.end) × IsLast (GoesAfterName word source name) name.end
alone_ends true source name plus minus open_mark =
    (omega arith, after_last true source name name.end (λ y n. absurd (mark_not 43 source name.end y plus n)) (λ y n. absurd (mark_not 45 source name.end y minus n)) (λ y w n. absurd (mark_not 40 source name.end y open_mark n)))
alone_ends false source name plus minus open_mark =
    (omega arith, after_last false source name name.end (λ y n. absurd (mark_not 43 source name.end y plus n)) (λ y n. absurd (mark_not 45 source name.end y minus n)) (λ y w n. absurd (let q : false ≡ true = w in cc)))

after_cases : (word : Bool) (source : List ℕ) (name : Span) (b c d : Bool) →
    let token = token_at source name.end in
    is_mark_of 43 token.kind ≡ b → is_mark_of 45 token.kind ≡ c → (word && is_mark_of 40 token.kind) ≡ d → Ended source (GoesAfterName word source name) name.end (if b then (number_at source token.end >>= (λ n. Ok (parsed_expr (shape.Of name n.value) n.end))) else if c then read_difference source name token.end else if d then read_relation source name token.end else Ok (parsed_expr (shape.Of name (pos 0)) name.end))
after_cases word source name true c d plus minus open_mark = plus_ends word source name plus
after_cases word source name false true d plus minus open_mark =
    let at = (token_at source name.end).end in
    lift_difference word source name at (read_difference source name at) minus (mark_there 45 source name.end minus) (difference_ends source name at)
after_cases true source name false false true plus minus open_mark =
    let at = (token_at source name.end).end in
    lift_relation source name at (read_relation source name at) open_mark (mark_there 40 source name.end open_mark) (related_ends source name at)
after_cases false source name false false true plus minus open_mark = cc
after_cases word source name false false false plus minus open_mark = alone_ends word source name plus minus open_mark

name_ends : (word : Bool) (source : List ℕ) (name : Span) → Ended source (GoesAfterName word source name) name.end (after_name word source name)
unfolding after_name
name_ends word source name =
    after_cases word source name (is_mark_of 43 (token_at source name.end).kind) (is_mark_of 45 (token_at source name.end).kind) (word && is_mark_of 40 (token_at source name.end).kind) refl refl refl

expression_last : (word : Bool) (source : List ℕ) (from bound : ℕ) (name : Span) → name_at source from ≡ Ok name → from ≤ bound → IsLast (GoesAfterName word source name) bound → (far : ℕ) → GoesInExpression word source from far → far ≤ bound
expression_last word source from bound name e h last far (inl q) = omega arith
expression_last word source from bound name e h last far (inr x) =
    last far (subst (λ n. GoesAfterName word source n far) (same_ok (name_at source from) x.0 name x.1 e) x.2)

after_a_name : (word : Bool) (source : List ℕ) (from : ℕ) (name : Span) (r : Result ParsedExpr LineEnd) → name_at source from ≡ Ok name → Ended source (GoesAfterName word source name) name.end r → Ended source (GoesInExpression word source from) from r
after_a_name word source from name (Ok e) n h =
    let a = name_after source from name n in
    let b = h.0 in
    let low : from ≤ e.end = omega arith in
    (low, expression_last word source from e.end name n low h.1)
after_a_name word source from name (Err s) n h =
    let a = name_after source from name n in
    let b = h.3 in
    let low : from ≤ h.0 = omega arith in
    (h.0, inr (name, n, h.1), h.2, low, expression_last word source from h.0 name n low h.4)

-- no name goes on where none stands
no_name_goes : (word : Bool) (source : List ℕ) (from bound : ℕ) (k : TokenKind) → (token_at source from).kind ≡ k → (k ≡ kind.Word → ⊥) → from ≤ bound → (far : ℕ) → GoesInExpression word source from far → far ≤ bound
no_name_goes word source from bound k e n h far (inl q) = omega arith
no_name_goes word source from bound k e n h far (inr x) = absurd (n (sym e ∙ (name_token source from x.0 x.1).0))

begun_by : (word : Bool) (source : List ℕ) (from : ℕ) (k : TokenKind) → (token_at source from).kind ≡ k → Ended source (GoesInExpression word source from) from (expression_of word source (token_at source from) k)
begun_by word source from (kind.Number n) e =
    let a = end_after source from in
    (a, no_name_goes word source from (token_at source from).end (kind.Number n) e (λ f. cc) a)
begun_by word source from kind.Wide e =
    (from, inl refl, wide (token_at source from) (stop (token_at source from).start NumberRange) e refl, omega arith, no_name_goes word source from from kind.Wide e (λ f. cc) (omega arith))
begun_by word source from kind.Word e =
    let name = span (token_at source from).start (token_at source from).end in
    after_a_name word source from name (after_name word source name) (name_there source from e) (name_ends word source name)
begun_by word source from k e =
    (from, inl refl, stopped_by (token_at source from) (end_at_token (token_at source from)) refl, omega arith, no_name_goes word source from from k e (λ f. cc) (omega arith))

pub expression_ends : (word : Bool) (source : List ℕ) (from : ℕ) → Ended source (GoesInExpression word source from) from (expression_at word source from)
unfolding expression_at
expression_ends word source from = begun_by word source from (token_at source from).kind refl

-- ---- lists of expressions

mark_no_word : (b : ℕ) (k : TokenKind) → is_mark_of b k ≡ true → k ≡ kind.Word → ⊥
mark_no_word b (kind.Mark c) h f = cc
mark_no_word b k h f = cc

hash_last : (word : Bool) (source : List ℕ) (from at : ℕ) → is_mark_of 35 (token_at source from).kind ≡ true → mark_at 35 source from ≡ Ok at → (far : ℕ) → GoesInListed word source from far → far ≤ at
hash_last word source from at is m far (inl n) = let q = same_ok (mark_at 35 source from) far at n m in omega arith
hash_last word source from at is m far (inr x) =
    no_name_goes word source from at (token_at source from).kind refl (mark_no_word 35 (token_at source from).kind is) (mark_after 35 source from at m) far x

plain_last : (word : Bool) (source : List ℕ) (from bound : ℕ) → is_mark_of 35 (token_at source from).kind ≡ false → IsLast (GoesInExpression word source from) bound → (far : ℕ) → GoesInListed word source from far → far ≤ bound
plain_last word source from bound n last far (inl m) = absurd (mark_not 35 source from far n m)
plain_last word source from bound n last far (inr x) = last far x

without_hash : (word : Bool) (source : List ℕ) (from : ℕ) (r : Result ParsedExpr LineEnd) → is_mark_of 35 (token_at source from).kind ≡ false → Ended source (GoesInExpression word source from) from r → Ended source (GoesInListed word source from) from r
without_hash word source from (Ok e) n h = (h.0, plain_last word source from e.end n h.1)
without_hash word source from (Err s) n h = (h.0, inr h.1, h.2, h.3, plain_last word source from h.0 n h.4)

hash_by : (word : Bool) (source : List ℕ) (from : ℕ) (b : Bool) → is_mark_of 35 (token_at source from).kind ≡ b → Ended source (GoesInListed word source from) from (if b then (number_at source (token_at source from).end >>= (λ n. Ok (parsed_expr (shape.Num n.value) n.end))) else expression_at word source from)
hash_by word source from true e =
    let at = (token_at source from).end in
    let m = mark_there 35 source from e in
    number_then source (GoesInListed word source from) from at (λ n. shape.Num n.value) (number_at source at) (inl m) (mark_after 35 source from at m) (hash_last word source from at e m) refl
hash_by word source from false e = without_hash word source from (expression_at word source from) e (expression_ends word source from)

listed_ends : (word : Bool) (source : List ℕ) (from : ℕ) → Ended source (GoesInListed word source from) from (list_expr_at word source from)
unfolding list_expr_at
listed_ends word source from = hash_by word source from (is_mark_of 35 (token_at source from).kind) refl

abbrev pub SeriesEnds : ℕ → Bool → List ℕ → ℕ → Result Series LineEnd → Type 0
SeriesEnds n word source from (Ok s) = Unit {0}
SeriesEnds n word source from (Err s) = (at : ℕ) × GoesInSeries n word source from at × IsStoppedBy (token_at source at) s × IsLast (GoesInSeries n word source from) at

series_nowhere : (n : ℕ) (word : Bool) (source : List ℕ) (from : ℕ) → GoesInSeries n word source from from
series_nowhere zero word source from = refl
series_nowhere (suc n) word source from = inl (inr (inl refl))

series_last : (n : ℕ) (word : Bool) (source : List ℕ) (from bound : ℕ) (e : ParsedExpr) → list_expr_at word source from ≡ Ok e → IsLast (GoesInListed word source from) e.end → e.end ≤ bound → ((next : ℕ) → mark_at 44 source e.end ≡ Ok next → IsLast (GoesInSeries n word source next) bound) → (far : ℕ) → GoesInSeries (suc n) word source from far → far ≤ bound
series_last n word source from bound e f last h k far (inl g) = let a = last far g in omega arith
series_last n word source from bound e f last h k far (inr x) =
    let q = same_ok (list_expr_at word source from) x.0 e x.2 f in
    k x.1 (subst (λ (j : ParsedExpr). mark_at 44 source j.end ≡ Ok x.1) q x.3) far x.4

in_front : (n : ℕ) (word : Bool) (source : List ℕ) (from next : ℕ) (e : ParsedExpr) (f : Series → Series) (r : Result Series LineEnd) → list_expr_at word source from ≡ Ok e → IsLast (GoesInListed word source from) e.end → mark_at 44 source e.end ≡ Ok next → SeriesEnds n word source next r → SeriesEnds (suc n) word source from (r >>= (λ rest. Ok (f rest)))
in_front n word source from next e f (Ok s) h last m k = tt
in_front n word source from next e f (Err s) h last m k =
    let a = mark_after 44 source e.end next m in
    let b = k.3 next (series_nowhere n word source next) in
    (k.0, inr (e, next, h, m, k.1), k.2, series_last n word source from k.0 e h last (omega arith) (λ y o. subst (λ z. IsLast (GoesInSeries n word source z) k.0) (same_ok (mark_at 44 source e.end) next y m o) k.3))

comma_by : (n : ℕ) (word : Bool) (source : List ℕ) (from : ℕ) (e : ParsedExpr) (b : Bool) → list_expr_at word source from ≡ Ok e → IsLast (GoesInListed word source from) e.end → is_mark_of 44 (token_at source e.end).kind ≡ b → ((next : ℕ) → SeriesEnds n word source next (expressions_at n word source next)) → SeriesEnds (suc n) word source from (and_more (item e (token_at source e.end)) (if b then Some (token_at source e.end).end else None) (λ next. expressions_at n word source next))
comma_by n word source from e true h last comma rest =
    let next = (token_at source e.end).end in
    in_front n word source from next e (λ s. expr_series (e.shape ∷ s.shapes) s.end) (expressions_at n word source next) h last (mark_there 44 source e.end comma) (rest next)
comma_by n word source from e false h last comma rest = tt

no_series_goes : (n : ℕ) (word : Bool) (source : List ℕ) (from bound : ℕ) (s : LineEnd) → list_expr_at word source from ≡ Err s → IsLast (GoesInListed word source from) bound → (far : ℕ) → GoesInSeries (suc n) word source from far → far ≤ bound
no_series_goes n word source from bound s e last far (inl g) = last far g
no_series_goes n word source from bound s e last far (inr x) = absurd (ok_err (list_expr_at word source from) x.0 s x.2 e)

expression_by : (n : ℕ) (word : Bool) (source : List ℕ) (from : ℕ) (r : Result ParsedExpr LineEnd) → list_expr_at word source from ≡ r → Ended source (GoesInListed word source from) from r → ((next : ℕ) → SeriesEnds n word source next (expressions_at n word source next)) → SeriesEnds (suc n) word source from ((r >>= (λ e. Ok (item e (token_at source e.end)))) >>= (λ i. and_more i i.next (λ next. expressions_at n word source next)))
expression_by n word source from (Ok e) h ends rest =
    comma_by n word source from e (is_mark_of 44 (token_at source e.end).kind) h ends.1 refl rest
expression_by n word source from (Err s) h ends rest =
    (ends.0, inl ends.1, ends.2, no_series_goes n word source from ends.0 s h ends.4)

pub series_ends : (n : ℕ) (word : Bool) (source : List ℕ) (from : ℕ) → SeriesEnds n word source from (expressions_at n word source from)
unfolding expressions_at list_item_at
series_ends zero word source from =
    (from, refl, stopped_by (token_at source from) (end_at_token (token_at source from)) refl, λ far q. omega arith)
series_ends (suc n) word source from =
    expression_by n word source from (list_expr_at word source from) refl (listed_ends word source from) (λ next. series_ends n word source next)
