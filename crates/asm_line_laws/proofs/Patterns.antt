-- What stands in a line where a pattern fits it: its operands, with what was read of them.
use Rattle.std.proofs.Common.{◌≡◌, ◌⊎◌, inl, inr, ℕ, ◌&&◌, Bool, true, false, if◌then◌else◌, zero, suc, List, [], ◌∷◌, length, Ok, Err, ℤ, pos, negsuc, refl, ap, sym, subst, ◌∙◌, codes, arith}
use Rattle.std.specs.Prelude.{int_le}
use Rattle.std.proofs.lemmas.Bool.Decides.{nat_tests}
use Rattle.asm_read.specs.declared.token.TokenKind.{TokenKind}
use Rattle.asm_read.specs.declared.token.TokenKind.TheVariants as kind
use Rattle.asm_read.specs.declared.token.Token.{Token}
use Rattle.asm_read.specs.declared.line.Numeral.{Numeral}
use Rattle.asm_read.specs.declared.expression.ParsedExpr.{ParsedExpr}
use Rattle.asm_read.specs.declared.form.Operands.{Operands}
use Rattle.asm_read.specs.declared.pattern.Pattern.TheVariants as pattern
use Rattle.asm_read.specs.Tokens.{token_at}
use Rattle.asm_read.specs.Operands.{bytes_of, numeral, number_at, limited_number, limited_number_at, end_at_token}
use Rattle.asm_read.specs.Expressions.{expression_at, expressions_at, expr_of, expr_from, expr_or_zero, exprs_of}
use Rattle.asm_read.specs.Statements.{text_of}
use Rattle.asm_read.specs.Fits.{no_operands}
use Rattle.asm_read.specs.Patterns.{pieces_of}
use Rattle.asm_line_laws.specs.Lines.{Operand, mark, register, this, name, number, power, registers, registers_with, text, value, values, Stand}
use Rattle.asm_line_laws.proofs.Going.{Hashed, Goes}

and_not : (a b : Bool) → b ≡ false → (a && b) ≡ true → ⊥
and_not true b e h = cc
and_not false b e h = cc

zero_only : (z : ℤ) → (int_le (pos 0) z && int_le z (pos 0)) ≡ true → z ≡ pos 0
zero_only (pos zero) h = refl
zero_only (pos (suc n)) h =
    let e : int_le (pos (suc n)) (pos 0) ≡ false = grind (arith, nat_tests) in
    absurd (and_not (int_le (pos 0) (pos (suc n))) (int_le (pos (suc n)) (pos 0)) e h)
zero_only (negsuc n) h = cc

zero_test : (t : Token) (z : ℤ) (b : Bool) (n : Numeral) → (int_le (pos 0) z && int_le z (pos 0)) ≡ b → (if b then Ok (record { value = z; end = t.end }) else Err (end_at_token t)) ≡ Ok n → numeral t (kind.Number z) ≡ Ok (record { value = pos 0; end = n.end })
zero_test t z true n e h =
    let q : record { value = z; end = t.end } ≡ n = cc in
    let v = zero_only z e in
    ap (λ x. Ok (record { value = x; end = t.end })) v ∙ ap (λ (m : Numeral). Ok (record { value = pos 0; end = m.end })) q
zero_test t z false n e h = cc

zero_by : (t : Token) (k : TokenKind) (n : Numeral) → limited_number t (pos 0) k ≡ Ok n → numeral t k ≡ Ok (record { value = pos 0; end = n.end })
zero_by t (kind.Number z) n h = zero_test t z (int_le (pos 0) z && int_le z (pos 0)) n refl h
zero_by t k n h = cc

-- a number from 0 to 0
zero_number : (source : List ℕ) (from : ℕ) (n : Numeral) → limited_number_at (pos 0) source from ≡ Ok n → number_at source from ≡ Ok (record { value = pos 0; end = n.end })
unfolding limited_number_at number_at
zero_number source from n h = zero_by (token_at source from) (token_at source from).kind n h

value_is : (source : List ℕ) (from : ℕ) (e : ParsedExpr) → expression_at false source from ≡ Ok e → expr_of source e.shape ≡ expr_from source from
unfolding expr_from
value_is source from e h = sym (ap (expr_or_zero source) h)

-- a # or nothing, and what stands after it
hashed : (source : List ℕ) (from at : ℕ) (os : List Operand) → Hashed source from at → Stand source at os → Stand source from os ⊎ Stand source from (mark 35 ∷ os)
hashed source from at os (inl e) s = inr (at, e, s)
hashed source from at os (inr q) s = inl (subst (λ f. Stand source f os) q s)

pub nothing_stands : (source : List ℕ) (from : ℕ) (o : Operands) → Goes (pieces_of pattern.Nothing) source (no_operands from) o → Stand source from []
nothing_stands source from o g = g.1

pub one_register_stands : (source : List ℕ) (from : ℕ) (o : Operands) → Goes (pieces_of pattern.OneRegister) source (no_operands from) o → Stand source from (register o.first ∷ [])
one_register_stands source from o g = subst (λ x. Stand source from (register x.first ∷ [])) (sym g.2.0) (g.0.end, (g.0.start, g.1), g.2.1)

pub two_registers_stands : (source : List ℕ) (from : ℕ) (o : Operands) → Goes (pieces_of pattern.TwoRegisters) source (no_operands from) o → Stand source from (register o.first ∷ mark 44 ∷ register o.second ∷ [])
two_registers_stands source from o g = subst (λ x. Stand source from (register x.first ∷ mark 44 ∷ register x.second ∷ [])) (sym g.2.2.2.0) (g.0.end, (g.0.start, g.1), (g.2.0, g.2.1, (g.2.2.0.end, (g.2.2.0.start, g.2.2.1), g.2.2.2.1)))

pub three_registers_stands : (source : List ℕ) (from : ℕ) (o : Operands) → Goes (pieces_of pattern.ThreeRegisters) source (no_operands from) o → Stand source from (register o.first ∷ mark 44 ∷ register o.second ∷ mark 44 ∷ register o.third ∷ [])
three_registers_stands source from o g = subst (λ x. Stand source from (register x.first ∷ mark 44 ∷ register x.second ∷ mark 44 ∷ register x.third ∷ [])) (sym g.2.2.2.2.2.0) (g.0.end, (g.0.start, g.1), (g.2.0, g.2.1, (g.2.2.0.end, (g.2.2.0.start, g.2.2.1), (g.2.2.2.0, g.2.2.2.1, (g.2.2.2.2.0.end, (g.2.2.2.2.0.start, g.2.2.2.2.1), g.2.2.2.2.2.1)))))

pub one_number_stands : (source : List ℕ) (from : ℕ) (o : Operands) → Goes (pieces_of pattern.OneNumber) source (no_operands from) o → Stand source from (mark 35 ∷ number o.number ∷ [])
one_number_stands source from o g = subst (λ x. Stand source from (mark 35 ∷ number x.number ∷ [])) (sym g.2.2.0) (g.0, g.1, (g.2.0.end, g.2.1, g.2.2.1))

pub register_number_stands : (source : List ℕ) (from : ℕ) (o : Operands) → Goes (pieces_of pattern.RegisterNumber) source (no_operands from) o → Stand source from (register o.first ∷ mark 44 ∷ mark 35 ∷ number o.number ∷ [])
register_number_stands source from o g = subst (λ x. Stand source from (register x.first ∷ mark 44 ∷ mark 35 ∷ number x.number ∷ [])) (sym g.2.2.2.2.0) (g.0.end, (g.0.start, g.1), (g.2.0, g.2.1, (g.2.2.0, g.2.2.1, (g.2.2.2.0.end, g.2.2.2.1, g.2.2.2.2.1))))

pub two_registers_number_stands : (source : List ℕ) (from : ℕ) (o : Operands) → Goes (pieces_of pattern.TwoRegistersNumber) source (no_operands from) o → Stand source from (register o.first ∷ mark 44 ∷ register o.second ∷ mark 44 ∷ mark 35 ∷ number o.number ∷ [])
two_registers_number_stands source from o g = subst (λ x. Stand source from (register x.first ∷ mark 44 ∷ register x.second ∷ mark 44 ∷ mark 35 ∷ number x.number ∷ [])) (sym g.2.2.2.2.2.2.0) (g.0.end, (g.0.start, g.1), (g.2.0, g.2.1, (g.2.2.0.end, (g.2.2.0.start, g.2.2.1), (g.2.2.2.0, g.2.2.2.1, (g.2.2.2.2.0, g.2.2.2.2.1, (g.2.2.2.2.2.0.end, g.2.2.2.2.2.1, g.2.2.2.2.2.2.1))))))

pub two_registers_zero_stands : (source : List ℕ) (from : ℕ) (o : Operands) → Goes (pieces_of pattern.TwoRegistersZero) source (no_operands from) o → Stand source from (register o.first ∷ mark 44 ∷ register o.second ∷ mark 44 ∷ mark 35 ∷ number (pos 0) ∷ [])
two_registers_zero_stands source from o g = subst (λ x. Stand source from (register x.first ∷ mark 44 ∷ register x.second ∷ mark 44 ∷ mark 35 ∷ number (pos 0) ∷ [])) (sym g.2.2.2.2.2.2.0) (g.0.end, (g.0.start, g.1), (g.2.0, g.2.1, (g.2.2.0.end, (g.2.2.0.start, g.2.2.1), (g.2.2.2.0, g.2.2.2.1, (g.2.2.2.2.0, g.2.2.2.2.1, (g.2.2.2.2.2.0.end, zero_number source g.2.2.2.2.0 g.2.2.2.2.2.0 g.2.2.2.2.2.1, g.2.2.2.2.2.2.1))))))

pub sp_number_stands : (source : List ℕ) (from : ℕ) (o : Operands) → Goes (pieces_of pattern.SpNumber) source (no_operands from) o → Stand source from (this (codes "sp") ∷ mark 44 ∷ mark 35 ∷ number o.number ∷ [])
sp_number_stands source from o g = subst (λ x. Stand source from (this (codes "sp") ∷ mark 44 ∷ mark 35 ∷ number x.number ∷ [])) (sym g.2.2.2.2.0) (g.0, g.1, (g.2.0, g.2.1, (g.2.2.0, g.2.2.1, (g.2.2.2.0.end, g.2.2.2.1, g.2.2.2.2.1))))

pub register_sp_number_stands : (source : List ℕ) (from : ℕ) (o : Operands) → Goes (pieces_of pattern.RegisterSpNumber) source (no_operands from) o → Stand source from (register o.first ∷ mark 44 ∷ this (codes "sp") ∷ mark 44 ∷ mark 35 ∷ number o.number ∷ [])
register_sp_number_stands source from o g = subst (λ x. Stand source from (register x.first ∷ mark 44 ∷ this (codes "sp") ∷ mark 44 ∷ mark 35 ∷ number x.number ∷ [])) (sym g.2.2.2.2.2.2.0) (g.0.end, (g.0.start, g.1), (g.2.0, g.2.1, (g.2.2.0, g.2.2.1, (g.2.2.2.0, g.2.2.2.1, (g.2.2.2.2.0, g.2.2.2.2.1, (g.2.2.2.2.2.0.end, g.2.2.2.2.2.1, g.2.2.2.2.2.2.1))))))

pub register_sp_count_stands : (source : List ℕ) (from : ℕ) (o : Operands) → Goes (pieces_of pattern.RegisterSpCount) source (no_operands from) o → Stand source from (register o.first ∷ mark 44 ∷ this (codes "sp") ∷ mark 44 ∷ number o.number ∷ []) ⊎ Stand source from (register o.first ∷ mark 44 ∷ this (codes "sp") ∷ mark 44 ∷ mark 35 ∷ number o.number ∷ [])
register_sp_count_stands source from o g =
    subst (λ x. Stand source from (register x.first ∷ mark 44 ∷ this (codes "sp") ∷ mark 44 ∷ number x.number ∷ []) ⊎ Stand source from (register x.first ∷ mark 44 ∷ this (codes "sp") ∷ mark 44 ∷ mark 35 ∷ number x.number ∷ [])) (sym g.2.2.2.2.2.2.0)
    (elim (hashed source g.2.2.2.0 g.2.2.2.2.0 (number g.2.2.2.2.2.0.value ∷ []) g.2.2.2.2.1 (g.2.2.2.2.2.0.end, g.2.2.2.2.2.1, g.2.2.2.2.2.2.1)) [ inl s ↦ inl (g.0.end, (g.0.start, g.1), (g.2.0, g.2.1, (g.2.2.0, g.2.2.1, (g.2.2.2.0, g.2.2.2.1, s)))) | inr s ↦ inr (g.0.end, (g.0.start, g.1), (g.2.0, g.2.1, (g.2.2.0, g.2.2.1, (g.2.2.2.0, g.2.2.2.1, s)))) ])

pub count_stands : (source : List ℕ) (from : ℕ) (o : Operands) → Goes (pieces_of pattern.Count) source (no_operands from) o → Stand source from (number o.number ∷ []) ⊎ Stand source from (mark 35 ∷ number o.number ∷ [])
count_stands source from o g =
    subst (λ x. Stand source from (number x.number ∷ []) ⊎ Stand source from (mark 35 ∷ number x.number ∷ [])) (sym g.2.2.0)
    (elim (hashed source from g.0 (number g.2.0.value ∷ []) g.1 (g.2.0.end, g.2.1, g.2.2.1)) [ inl s ↦ inl s | inr s ↦ inr s ])

pub power_stands : (source : List ℕ) (from : ℕ) (o : Operands) → Goes (pieces_of pattern.Power) source (no_operands from) o → Stand source from (power o.number ∷ []) ⊎ Stand source from (mark 35 ∷ power o.number ∷ [])
power_stands source from o g =
    subst (λ x. Stand source from (power x.number ∷ []) ⊎ Stand source from (mark 35 ∷ power x.number ∷ [])) (sym g.2.2.0)
    (elim (hashed source from g.0 (power g.2.0.value ∷ []) g.1 (g.2.0.end, g.2.1, g.2.2.1)) [ inl s ↦ inl s | inr s ↦ inr s ])

pub one_name_stands : (source : List ℕ) (from : ℕ) (o : Operands) → Goes (pieces_of pattern.OneName) source (no_operands from) o → Stand source from (name (bytes_of source o.name) ∷ [])
one_name_stands source from o g = subst (λ x. Stand source from (name (bytes_of source x.name) ∷ [])) (sym g.2.0) (g.0.end, (g.0.start, g.1, refl), g.2.1)

pub register_name_stands : (source : List ℕ) (from : ℕ) (o : Operands) → Goes (pieces_of pattern.RegisterName) source (no_operands from) o → Stand source from (register o.first ∷ mark 44 ∷ name (bytes_of source o.name) ∷ [])
register_name_stands source from o g = subst (λ x. Stand source from (register x.first ∷ mark 44 ∷ name (bytes_of source x.name) ∷ [])) (sym g.2.2.2.0) (g.0.end, (g.0.start, g.1), (g.2.0, g.2.1, (g.2.2.0.end, (g.2.2.0.start, g.2.2.1, refl), g.2.2.2.1)))

pub name_function_stands : (source : List ℕ) (from : ℕ) (o : Operands) → Goes (pieces_of pattern.NameFunction) source (no_operands from) o → Stand source from (name (bytes_of source o.name) ∷ mark 44 ∷ mark 37 ∷ this (codes "function") ∷ [])
name_function_stands source from o g = subst (λ x. Stand source from (name (bytes_of source x.name) ∷ mark 44 ∷ mark 37 ∷ this (codes "function") ∷ [])) (sym g.2.2.2.2.0) (g.0.end, (g.0.start, g.1, refl), (g.2.0, g.2.1, (g.2.2.0, g.2.2.1, (g.2.2.2.0, g.2.2.2.1, g.2.2.2.2.1))))

pub name_object_stands : (source : List ℕ) (from : ℕ) (o : Operands) → Goes (pieces_of pattern.NameObject) source (no_operands from) o → Stand source from (name (bytes_of source o.name) ∷ mark 44 ∷ mark 37 ∷ this (codes "object") ∷ [])
name_object_stands source from o g = subst (λ x. Stand source from (name (bytes_of source x.name) ∷ mark 44 ∷ mark 37 ∷ this (codes "object") ∷ [])) (sym g.2.2.2.2.0) (g.0.end, (g.0.start, g.1, refl), (g.2.0, g.2.1, (g.2.2.0, g.2.2.1, (g.2.2.2.0, g.2.2.2.1, g.2.2.2.2.1))))

pub name_size_stands : (source : List ℕ) (from : ℕ) (o : Operands) → Goes (pieces_of pattern.NameSize) source (no_operands from) o → Stand source from (name (bytes_of source o.name) ∷ mark 44 ∷ this (codes ".") ∷ mark 45 ∷ this (bytes_of source o.name) ∷ [])
name_size_stands source from o g = subst (λ x. Stand source from (name (bytes_of source x.name) ∷ mark 44 ∷ this (codes ".") ∷ mark 45 ∷ this (bytes_of source x.name) ∷ [])) (sym g.2.2.2.2.2.0) (g.0.end, (g.0.start, g.1, refl), (g.2.0, g.2.1, (g.2.2.0, g.2.2.1, (g.2.2.2.0, g.2.2.2.1, (g.2.2.2.2.0, g.2.2.2.2.1, g.2.2.2.2.2.1)))))

pub rodata_name_stands : (source : List ℕ) (from : ℕ) (o : Operands) → Goes (pieces_of pattern.RodataName) source (no_operands from) o → Stand source from (this (codes ".rodata") ∷ [])
rodata_name_stands source from o g = subst (λ x. Stand source from (this (codes ".rodata") ∷ [])) (sym g.2.0) (g.0, g.1, g.2.1)

pub one_text_stands : (source : List ℕ) (from : ℕ) (o : Operands) → Goes (pieces_of pattern.OneText) source (no_operands from) o → Stand source from (text (text_of source o.name) ∷ [])
one_text_stands source from o g = subst (λ x. Stand source from (text (text_of source x.name) ∷ [])) (sym g.2.0) (g.0.end, (g.0.start, g.1, refl), g.2.1)

pub register_value_stands : (source : List ℕ) (from : ℕ) (o : Operands) → Goes (pieces_of pattern.RegisterValue) source (no_operands from) o → Stand source from (register o.first ∷ mark 44 ∷ mark 61 ∷ value (expr_from source o.from) ∷ [])
register_value_stands source from o g = subst (λ x. Stand source from (register x.first ∷ mark 44 ∷ mark 61 ∷ value (expr_from source x.from) ∷ [])) (sym g.2.2.2.2.0) (g.0.end, (g.0.start, g.1), (g.2.0, g.2.1, (g.2.2.0, g.2.2.1, (g.2.2.2.0.end, (g.2.2.2.0.shape, g.2.2.2.1, value_is source g.2.2.0 g.2.2.2.0 g.2.2.2.1), g.2.2.2.2.1))))

pub values_stands : (source : List ℕ) (from : ℕ) (o : Operands) → Goes (pieces_of pattern.Values) source (no_operands from) o → Stand source from (values false (exprs_of source (expressions_at (length source) false source o.from)) ∷ [])
values_stands source from o g = subst (λ x. Stand source from (values false (exprs_of source (expressions_at (length source) false source x.from)) ∷ [])) (sym g.2.0) (g.0.end, (g.0.shapes, g.1, sym (ap (exprs_of source) g.1)), g.2.1)

pub word_values_stands : (source : List ℕ) (from : ℕ) (o : Operands) → Goes (pieces_of pattern.WordValues) source (no_operands from) o → Stand source from (values true (exprs_of source (expressions_at (length source) true source o.from)) ∷ [])
word_values_stands source from o g = subst (λ x. Stand source from (values true (exprs_of source (expressions_at (length source) true source x.from)) ∷ [])) (sym g.2.0) (g.0.end, (g.0.shapes, g.1, sym (ap (exprs_of source) g.1)), g.2.1)

pub sp_offset_stands : (source : List ℕ) (from : ℕ) (o : Operands) → Goes (pieces_of pattern.SpOffset) source (no_operands from) o → Stand source from (register o.first ∷ mark 44 ∷ mark 91 ∷ this (codes "sp") ∷ mark 44 ∷ mark 35 ∷ number o.number ∷ mark 93 ∷ [])
sp_offset_stands source from o g = subst (λ x. Stand source from (register x.first ∷ mark 44 ∷ mark 91 ∷ this (codes "sp") ∷ mark 44 ∷ mark 35 ∷ number x.number ∷ mark 93 ∷ [])) (sym g.2.2.2.2.2.2.2.2.0) (g.0.end, (g.0.start, g.1), (g.2.0, g.2.1, (g.2.2.0, g.2.2.1, (g.2.2.2.0, g.2.2.2.1, (g.2.2.2.2.0, g.2.2.2.2.1, (g.2.2.2.2.2.0, g.2.2.2.2.2.1, (g.2.2.2.2.2.2.0.end, g.2.2.2.2.2.2.1, (g.2.2.2.2.2.2.2.0, g.2.2.2.2.2.2.2.1, g.2.2.2.2.2.2.2.2.1))))))))

pub sp_alone_stands : (source : List ℕ) (from : ℕ) (o : Operands) → Goes (pieces_of pattern.SpAlone) source (no_operands from) o → Stand source from (register o.first ∷ mark 44 ∷ mark 91 ∷ this (codes "sp") ∷ mark 93 ∷ [])
sp_alone_stands source from o g = subst (λ x. Stand source from (register x.first ∷ mark 44 ∷ mark 91 ∷ this (codes "sp") ∷ mark 93 ∷ [])) (sym g.2.2.2.2.2.0) (g.0.end, (g.0.start, g.1), (g.2.0, g.2.1, (g.2.2.0, g.2.2.1, (g.2.2.2.0, g.2.2.2.1, (g.2.2.2.2.0, g.2.2.2.2.1, g.2.2.2.2.2.1)))))

pub sp_alone_stands_zero : (source : List ℕ) (from : ℕ) (o : Operands) → Goes (pieces_of pattern.SpAlone) source (no_operands from) o → o.number ≡ pos 0
sp_alone_stands_zero source from o g = ap (λ (x : Operands). x.number) g.2.2.2.2.2.0

pub base_offset_stands : (source : List ℕ) (from : ℕ) (o : Operands) → Goes (pieces_of pattern.BaseOffset) source (no_operands from) o → Stand source from (register o.first ∷ mark 44 ∷ mark 91 ∷ register o.second ∷ mark 44 ∷ mark 35 ∷ number o.number ∷ mark 93 ∷ [])
base_offset_stands source from o g = subst (λ x. Stand source from (register x.first ∷ mark 44 ∷ mark 91 ∷ register x.second ∷ mark 44 ∷ mark 35 ∷ number x.number ∷ mark 93 ∷ [])) (sym g.2.2.2.2.2.2.2.2.0) (g.0.end, (g.0.start, g.1), (g.2.0, g.2.1, (g.2.2.0, g.2.2.1, (g.2.2.2.0.end, (g.2.2.2.0.start, g.2.2.2.1), (g.2.2.2.2.0, g.2.2.2.2.1, (g.2.2.2.2.2.0, g.2.2.2.2.2.1, (g.2.2.2.2.2.2.0.end, g.2.2.2.2.2.2.1, (g.2.2.2.2.2.2.2.0, g.2.2.2.2.2.2.2.1, g.2.2.2.2.2.2.2.2.1))))))))

pub base_alone_stands : (source : List ℕ) (from : ℕ) (o : Operands) → Goes (pieces_of pattern.BaseAlone) source (no_operands from) o → Stand source from (register o.first ∷ mark 44 ∷ mark 91 ∷ register o.second ∷ mark 93 ∷ [])
base_alone_stands source from o g = subst (λ x. Stand source from (register x.first ∷ mark 44 ∷ mark 91 ∷ register x.second ∷ mark 93 ∷ [])) (sym g.2.2.2.2.2.0) (g.0.end, (g.0.start, g.1), (g.2.0, g.2.1, (g.2.2.0, g.2.2.1, (g.2.2.2.0.end, (g.2.2.2.0.start, g.2.2.2.1), (g.2.2.2.2.0, g.2.2.2.2.1, g.2.2.2.2.2.1)))))

pub base_alone_stands_zero : (source : List ℕ) (from : ℕ) (o : Operands) → Goes (pieces_of pattern.BaseAlone) source (no_operands from) o → o.number ≡ pos 0
base_alone_stands_zero source from o g = ap (λ (x : Operands). x.number) g.2.2.2.2.2.0

pub base_index_stands : (source : List ℕ) (from : ℕ) (o : Operands) → Goes (pieces_of pattern.BaseIndex) source (no_operands from) o → Stand source from (register o.first ∷ mark 44 ∷ mark 91 ∷ register o.second ∷ mark 44 ∷ register o.third ∷ mark 93 ∷ [])
base_index_stands source from o g = subst (λ x. Stand source from (register x.first ∷ mark 44 ∷ mark 91 ∷ register x.second ∷ mark 44 ∷ register x.third ∷ mark 93 ∷ [])) (sym g.2.2.2.2.2.2.2.0) (g.0.end, (g.0.start, g.1), (g.2.0, g.2.1, (g.2.2.0, g.2.2.1, (g.2.2.2.0.end, (g.2.2.2.0.start, g.2.2.2.1), (g.2.2.2.2.0, g.2.2.2.2.1, (g.2.2.2.2.2.0.end, (g.2.2.2.2.2.0.start, g.2.2.2.2.2.1), (g.2.2.2.2.2.2.0, g.2.2.2.2.2.2.1, g.2.2.2.2.2.2.2.1)))))))

pub register_list_stands : (source : List ℕ) (from : ℕ) (o : Operands) → Goes (pieces_of pattern.RegisterList) source (no_operands from) o → Stand source from (registers o.list ∷ [])
register_list_stands source from o g = subst (λ x. Stand source from (registers x.list ∷ [])) (sym g.2.0) (g.0.end, (g.0.close, g.1), g.2.1)

pub base_back_list_stands : (source : List ℕ) (from : ℕ) (o : Operands) → Goes (pieces_of pattern.BaseBackList) source (no_operands from) o → Stand source from (register o.first ∷ mark 33 ∷ mark 44 ∷ registers o.list ∷ [])
base_back_list_stands source from o g = subst (λ x. Stand source from (register x.first ∷ mark 33 ∷ mark 44 ∷ registers x.list ∷ [])) (sym g.2.2.2.2.0) (g.0.end, (g.0.start, g.1), (g.2.0, g.2.1, (g.2.2.0, g.2.2.1, (g.2.2.2.0.end, (g.2.2.2.0.close, g.2.2.2.1), g.2.2.2.2.1))))

pub base_list_stands : (source : List ℕ) (from : ℕ) (o : Operands) → Goes (pieces_of pattern.BaseList) source (no_operands from) o → Stand source from (register o.first ∷ mark 44 ∷ registers_with o.first o.list ∷ [])
base_list_stands source from o g = subst (λ x. Stand source from (register x.first ∷ mark 44 ∷ registers_with x.first x.list ∷ [])) (sym g.2.2.3.0) (g.0.end, (g.0.start, g.1), (g.2.0, g.2.1, (g.2.2.0.end, (g.2.2.0.close, g.2.2.1, g.2.2.2), g.2.2.3.1)))
