-- Statements with expressions.
use Rattle.std.proofs.Common.{◌≡◌, ℕ, zero, suc, ◌<◌, ◌≤◌, ◌==◌, Bool, true, false, if◌then◌else◌, List, [], ◌∷◌, ◌++◌, length, length-append, append_assoc, Ok, ℤ, pos, negsuc, refl, ap, sym, subst, ◌∙◌, arith, codes}
use Rattle.std.proofs.lemmas.List.{append-nil}
use Rattle.std.specs.List.{prefix_len}
use Rattle.std.specs.Fmt.{signed_decimal}
use Rattle.asm_read.specs.declared.form.Operands.{Operands}
use Rattle.asm_read.specs.declared.makes.Makes.{Makes}
use Rattle.asm_read.specs.declared.makes.Makes.TheVariants as makes
use Rattle.asm_read.specs.declared.makes.Named.TheVariants as name
use Rattle.asm_statements.specs.declared.statement.StmtKind.{StmtKind}
use Rattle.asm_statements.specs.declared.statement.StmtKind.TheVariants.{LdrPool, Words, Halves, Bytes}
use Rattle.asm_statements.specs.declared.statement.Expr.{Expr}
use Rattle.asm_statements.specs.declared.statement.Expr.TheVariants.{Num, Of, Diff, Prel31, Prel31Ref, Target2, Rel}
use Rattle.asm_read.specs.Tokens.{is_name_byte, front_of}
use Rattle.asm_read.specs.Operands.{is_mark_of}
use Rattle.asm_read.specs.Forms.{directives, a_to_b, c_to_l, m_to_z, rows}
use Rattle.asm_read.specs.Statements.{kind_of as kind_made}
use Rattle.asm_read.specs.Reading.{stmt, source_stmts}
use Rattle.asm_line_laws.specs.Written.{register, InRange, IsNameText, plus, expression, expressions, IsExpression, AreExpressions, IsList, line}
use Rattle.asm_line_laws.proofs.Texts.{Stops}
use Rattle.asm_line_laws.proofs.Toks.{Tok, reg, word, num, sign, spelled, after, Ends, AllEnd, head_kind}
use Rattle.asm_line_laws.proofs.Lists.{plus_toks, relation_toks, expr_toks, exprs_toks, Stands, AllStand}
use Rattle.asm_line_laws.proofs.Items.{Item, value, values, flat}
use Rattle.asm_line_laws.proofs.Items as items
use Rattle.asm_line_laws.proofs.Fitted.{one, many, none_yet, Agrees, fitted}
use Rattle.asm_line_laws.proofs.Chosen.{picked, chosen}
use Rattle.asm_line_laws.proofs.Standing.{IsMnemonic, stands_in, register_short, comma_ends, minus_before, values as vals}

-- ---- their text

word_then : (a : List ℕ) (ts : List Tok) → spelled (word a ∷ ts) ≡ a ++ spelled ts
word_then a [] = sym (append-nil a)
word_then a (t ∷ ts) = refl

num_then : (z : ℤ) (ts : List Tok) → spelled (num z ∷ ts) ≡ signed_decimal z ++ spelled ts
num_then z [] = sym (append-nil (signed_decimal z))
num_then z (t ∷ ts) = refl

sign_then : (b : ℕ) (ts : List Tok) → (b == 44) ≡ false → spelled (sign b ∷ ts) ≡ b ∷ spelled ts
sign_then b [] h = refl
sign_then b (t ∷ ts) h = ap (λ c. b ∷ (if c then 32 ∷ spelled (t ∷ ts) else spelled (t ∷ ts))) h

comma_then : (ts : List Tok) → 0 < length ts → spelled (sign 44 ∷ ts) ≡ 44 ∷ 32 ∷ spelled ts
comma_then [] h = absurd (omega arith)
comma_then (t ∷ ts) h = refl

plus_spelled : (n : ℤ) (ts : List Tok) → spelled (plus_toks n ts) ≡ plus n ++ spelled ts
plus_spelled (pos zero) ts = refl
plus_spelled (pos (suc n)) ts = ap (λ x. 43 ∷ x) (num_then (pos (suc n)) ts)
plus_spelled (negsuc n) ts = ap (λ x. 43 ∷ x) (num_then (negsuc n) ts)

relation_spelled : (a w : List ℕ) (ts : List Tok) → spelled (relation_toks a w ts) ≡ a ++ (40 ∷ (w ++ (41 ∷ spelled ts)))
relation_spelled a w ts = ap (λ x. a ++ (40 ∷ (w ++ x))) (sign_then 41 ts refl)

expr_spelled : (e : Expr) (ts : List Tok) → spelled (expr_toks e ts) ≡ expression e ++ spelled ts
expr_spelled (Num z) ts = num_then z ts
expr_spelled (Of a n) ts = word_then a (plus_toks n ts) ∙ ap (λ x. a ++ x) (plus_spelled n ts) ∙ sym (append_assoc a (plus n) (spelled ts))
expr_spelled (Diff a b n) ts =
    ap (λ x. a ++ (45 ∷ x)) (word_then b (plus_toks n ts) ∙ ap (λ x. b ++ x) (plus_spelled n ts) ∙ sym (append_assoc b (plus n) (spelled ts)))
    ∙ sym (append_assoc a (45 ∷ (b ++ plus n)) (spelled ts))
expr_spelled (Prel31 a) ts = relation_spelled a (codes "prel31") ts ∙ sym (append_assoc a (codes "(prel31)") (spelled ts))
expr_spelled (Prel31Ref a) ts = relation_spelled a (codes "prel31ref") ts ∙ sym (append_assoc a (codes "(prel31ref)") (spelled ts))
expr_spelled (Target2 a) ts = relation_spelled a (codes "target2") ts ∙ sym (append_assoc a (codes "(target2)") (spelled ts))
expr_spelled (Rel a) ts = relation_spelled a (codes "rel") ts ∙ sym (append_assoc a (codes "(rel)") (spelled ts))

expr_some : (e : Expr) (ts : List Tok) → 0 < length (expr_toks e ts)
expr_some (Num z) ts = omega arith
expr_some (Of a n) ts = omega arith
expr_some (Diff a b n) ts = omega arith
expr_some (Prel31 a) ts = omega arith
expr_some (Prel31Ref a) ts = omega arith
expr_some (Target2 a) ts = omega arith
expr_some (Rel a) ts = omega arith

exprs_some : (e : Expr) (es : List Expr) → 0 < length (exprs_toks e es [])
exprs_some e [] = expr_some e []
exprs_some e (f ∷ fs) = expr_some e (sign 44 ∷ exprs_toks f fs [])

exprs_spelled : (e : Expr) (es : List Expr) → spelled (exprs_toks e es []) ≡ expressions (e ∷ es)
exprs_spelled e [] = expr_spelled e [] ∙ append-nil (expression e)
exprs_spelled e (f ∷ fs) =
    expr_spelled e (sign 44 ∷ exprs_toks f fs [])
    ∙ ap (λ x. expression e ++ x) (comma_then (exprs_toks f fs []) (exprs_some f fs) ∙ ap (λ x. 44 ∷ 32 ∷ x) (exprs_spelled f fs))

-- ---- their tokens end where the next begin

after_word : (a : List ℕ) (ts : List Tok) → after (word a) ts ≡ spelled ts
after_word a [] = refl
after_word a (t ∷ ts) = refl

after_num : (z : ℤ) (ts : List Tok) → after (num z) ts ≡ spelled ts
after_num z [] = refl
after_num z (t ∷ ts) = refl

word_ends : (a : List ℕ) (ts : List Tok) → IsNameText a → Stops (spelled ts) → Ends (word a) (after (word a) ts)
word_ends a ts h q = (h.0, ap (λ x. prefix_len is_name_byte x) (after_word a ts) ∙ q)

num_ends : (z : ℤ) (ts : List Tok) → InRange z → Stops (spelled ts) → Ends (num z) (after (num z) ts)
num_ends z ts h q = (h, ap (λ x. prefix_len is_name_byte x) (after_num z ts) ∙ q)

plus_stops : (n : ℤ) (ts : List Tok) → Stops (spelled ts) → Stops (spelled (plus_toks n ts))
plus_stops (pos zero) ts q = q
plus_stops (pos (suc n)) ts q = refl
plus_stops (negsuc n) ts q = refl

plus_end : (n : ℤ) (ts : List Tok) → InRange n → Stops (spelled ts) → AllEnd ts → AllEnd (plus_toks n ts)
unfolding front_of
plus_end (pos zero) ts h q k = k
plus_end (pos (suc n)) ts h q k = ((refl, refl, refl), (num_ends (pos (suc n)) ts h q, k))
plus_end (negsuc n) ts h q k = ((refl, refl, refl), (num_ends (negsuc n) ts h q, k))

minus_end : (b : List ℕ) (ts : List Tok) → IsNameText b → Ends (sign 45) (after (sign 45) (word b ∷ ts))
minus_end b ts h = subst (λ x. Ends (sign 45) x) (sym (word_then b ts)) (minus_before b (spelled ts) h.0)

relation_end : (a w : List ℕ) (ts : List Tok) → IsNameText a → IsNameText w → AllEnd ts → AllEnd (relation_toks a w ts)
unfolding front_of
relation_end a w ts h g k =
    ((h.0, refl), ((refl, refl, refl), (word_ends w (sign 41 ∷ ts) g (ap (λ x. prefix_len is_name_byte x) (sign_then 41 ts refl)), ((refl, refl, refl), k))))

expr_end : (w : Bool) (e : Expr) (ts : List Tok) → IsExpression w e → Stops (spelled ts) → AllEnd ts → AllEnd (expr_toks e ts)
expr_end w (Num z) ts h q k = (num_ends z ts h q, k)
expr_end w (Of a n) ts h q k = (word_ends a (plus_toks n ts) h.0 (plus_stops n ts q), plus_end n ts h.1 q k)
expr_end w (Diff a b n) ts h q k = ((h.0.0, refl), (minus_end b (plus_toks n ts) h.1, (word_ends b (plus_toks n ts) h.1 (plus_stops n ts q), plus_end n ts h.2 q k)))
expr_end w (Prel31 a) ts h q k = relation_end a (codes "prel31") ts h.1 (refl, omega arith) k
expr_end w (Prel31Ref a) ts h q k = relation_end a (codes "prel31ref") ts h.1 (refl, omega arith) k
expr_end w (Target2 a) ts h q k = relation_end a (codes "target2") ts h.1 (refl, omega arith) k
expr_end w (Rel a) ts h q k = relation_end a (codes "rel") ts h.1 (refl, omega arith) k

comma_stops : (ts : List Tok) → 0 < length ts → Stops (spelled (sign 44 ∷ ts))
comma_stops ts h = ap (λ x. prefix_len is_name_byte x) (comma_then ts h)

exprs_end : (w : Bool) (e : Expr) (es : List Expr) → AreExpressions w (e ∷ es) → AllEnd (exprs_toks e es [])
exprs_end w e [] h = expr_end w e [] h.0 refl tt
exprs_end w e (f ∷ fs) h = expr_end w e (sign 44 ∷ exprs_toks f fs []) h.0 (comma_stops (exprs_toks f fs []) (exprs_some f fs)) (comma_ends _, exprs_end w f fs h.1)

-- ---- and they stand where they may

pub expr_stands : (w : Bool) (e : Expr) → IsExpression w e → Stands w e
expr_stands w (Num z) h = tt
expr_stands w (Of a n) h = tt
expr_stands w (Diff a b n) h = tt
expr_stands w (Prel31 a) h = h.0
expr_stands w (Prel31Ref a) h = h.0
expr_stands w (Target2 a) h = h.0
expr_stands w (Rel a) h = h.0

pub exprs_stand : (w : Bool) (e : Expr) (es : List Expr) → AreExpressions w (e ∷ es) → AllStand w e es
exprs_stand w e [] h = expr_stands w e h.0
exprs_stand w e (f ∷ fs) h = (expr_stands w e h.0, exprs_stand w f fs h.1)

no_colon : (e : Expr) (ts : List Tok) → is_mark_of 58 (head_kind (expr_toks e ts)) ≡ false
no_colon (Num z) ts = refl
no_colon (Of a n) ts = refl
no_colon (Diff a b n) ts = refl
no_colon (Prel31 a) ts = refl
no_colon (Prel31Ref a) ts = refl
no_colon (Target2 a) ts = refl
no_colon (Rel a) ts = refl

no_colons : (e : Expr) (es : List Expr) → is_mark_of 58 (head_kind (exprs_toks e es [])) ≡ false
no_colons e [] = no_colon e []
no_colons e (f ∷ fs) = no_colon e (sign 44 ∷ exprs_toks f fs [])

-- a list of expressions
pub of_values : (b : Bool) (w : List ℕ) (m : Makes) (k : StmtKind) (e : Expr) (es : List Expr) → IsMnemonic w → length w ≤ 15 → (h : IsList b (e ∷ es)) → chosen rows w (values b e es (exprs_stand b e es h.0) ∷ []) ≡ picked m (record none_yet { value = many b e es }) → ((text : List ℕ) (o : Operands) → Agrees text o (record none_yet { value = many b e es }) → kind_made text (record { makes = m; operands = o }) ≡ k) → source_stmts (line w (expressions (e ∷ es))) ≡ Ok (stmt 1 k ∷ [])
of_values b w m k e es is brief h choice makes =
    let text = exprs_spelled e es in
    let size = ap length text in
    let few = h.1 in
    subst (λ x. source_stmts (line w x) ≡ Ok (stmt 1 k ∷ [])) text
    (stands_in w (values b e es (exprs_stand b e es h.0) ∷ []) m (record none_yet { value = many b e es }) k is (exprs_some e es) (exprs_end b e es h.0) (no_colons e es) (omega arith) choice makes)

pub words_line : (es : List Expr) → IsList true es → source_stmts (line (codes ".word") (expressions es)) ≡ Ok (stmt 1 (Words es) ∷ [])
unfolding rows directives a_to_b c_to_l m_to_z fitted kind_made
words_line [] h = absurd h
words_line (e ∷ es) h = of_values true (codes ".word") (makes.Names name.Words) (Words (e ∷ es)) e es (record { named = refl; kept = refl; clean = refl; brief = omega arith }) (omega arith) h refl (λ text o g. ap (λ x. Words x) g.value)

pub halves_line : (es : List Expr) → IsList false es → source_stmts (line (codes ".half") (expressions es)) ≡ Ok (stmt 1 (Halves es) ∷ [])
unfolding rows directives a_to_b c_to_l m_to_z fitted kind_made
halves_line [] h = absurd h
halves_line (e ∷ es) h = of_values false (codes ".half") (makes.Names name.Halves) (Halves (e ∷ es)) e es (record { named = refl; kept = refl; clean = refl; brief = omega arith }) (omega arith) h refl (λ text o g. ap (λ x. Halves x) g.value)

pub bytes_line : (es : List Expr) → IsList false es → source_stmts (line (codes ".byte") (expressions es)) ≡ Ok (stmt 1 (Bytes es) ∷ [])
unfolding rows directives a_to_b c_to_l m_to_z fitted kind_made
bytes_line [] h = absurd h
bytes_line (e ∷ es) h = of_values false (codes ".byte") (makes.Names name.Bytes) (Bytes (e ∷ es)) e es (record { named = refl; kept = refl; clean = refl; brief = omega arith }) (omega arith) h refl (λ text o g. ap (λ x. Bytes x) g.value)

-- a word of the pool
equals_text : (a : ℕ) (e : Expr) → spelled (reg a ∷ sign 44 ∷ sign 61 ∷ expr_toks e []) ≡ register a ++ (codes ", =" ++ expression e)
equals_text a e = ap (λ x. register a ++ (44 ∷ 32 ∷ x)) (sign_then 61 (expr_toks e []) refl ∙ ap (λ x. 61 ∷ x) (expr_spelled e [] ∙ append-nil (expression e)))

pub pool_word_line : (a : ℕ) (e : Expr) → a < 16 → IsExpression false e → length (expression e) ≤ 240 → source_stmts (line (codes "ldr") (register a ++ (codes ", =" ++ expression e))) ≡ Ok (stmt 1 (LdrPool a e) ∷ [])
unfolding rows directives a_to_b c_to_l m_to_z fitted kind_made front_of
pool_word_line a e ha h few =
    let text = equals_text a e in
    let size = ap length text in
    let long = length-append (register a) (codes ", =" ++ expression e) in
    let short = register_short a ha in
    subst (λ x. source_stmts (line (codes "ldr") x) ≡ Ok (stmt 1 (LdrPool a e) ∷ [])) text
    (stands_in (codes "ldr") (items.reg a ∷ items.sign 44 ∷ items.sign 61 ∷ value e (expr_stands false e h) ∷ []) (makes.Names name.LdrPool) (record (vals a 0 0 (pos 0) []) { value = one e }) (LdrPool a e) (record { named = refl; kept = refl; clean = refl; brief = omega arith }) (omega arith)
    ((ha, refl), ((refl, refl, refl), ((refl, refl, refl), expr_end false e [] h refl tt))) refl (omega arith) refl (λ text o g. ap (λ x. LdrPool o.first x) g.value ∙ ap (λ x. LdrPool x e) g.first))
