-- Statements with a text: its escapes stand for its bytes.
use Rattle.std.proofs.Common.{◌≡◌, ℕ, ◌+◌, ◌-◌, ◌≤◌, ◌==◌, ◌&&◌, Bool, true, false, not, if◌then◌else◌, List, [], ◌∷◌, ◌++◌, length, take, length-append, append_assoc, Some, None, is_some, unwrap_or, Ok, pos, refl, ap, sym, subst, ◌∙◌, arith, codes}
use Rattle.std.proofs.lemmas.Bool.{eqb-true}
use Rattle.std.proofs.lemmas.Bool.Decides.{nat_tests}
use Rattle.std.proofs.lemmas.List.{take_at}
use Rattle.std.proofs.lemmas.List.Folds.{list_all-append}
use Rattle.std.specs.List.{list_all}
use Rattle.asm_read.specs.declared.token.TokenKind.TheVariants.{Quoted}
use Rattle.asm_read.specs.declared.form.Operands.{Operands}
use Rattle.asm_read.specs.declared.makes.Makes.{Makes}
use Rattle.asm_read.specs.declared.makes.Makes.TheVariants as makes
use Rattle.asm_read.specs.declared.makes.Named.TheVariants as name
use Rattle.asm_statements.specs.declared.statement.StmtKind.{StmtKind}
use Rattle.asm_statements.specs.declared.statement.StmtKind.TheVariants.{Ascii, Asciz}
use Rattle.asm_read.specs.Tokens.{escape_of, one_more, closing, quoted_front, front, front_of, unescape}
use Rattle.asm_read.specs.Forms.{directives, a_to_b, c_to_l, m_to_z, rows}
use Rattle.asm_read.specs.Plans.{not_plain}
use Rattle.asm_read.specs.Statements.{inside, kind_of as kind_made}
use Rattle.asm_read.specs.Reading.{stmt, source_stmts}
use Rattle.asm_line_laws.specs.Written.{escaped_byte, escaped_text, quoted_text, can_stand, IsText, line}
use Rattle.asm_line_laws.proofs.Texts.{plain, both, and_left, and_right}
use Rattle.asm_line_laws.proofs.Toks as toks
use Rattle.asm_line_laws.proofs.Toks.{Ends}
use Rattle.asm_line_laws.proofs.Items.{quote}
use Rattle.asm_line_laws.proofs.Fitted.{Agrees, fitted}
use Rattle.asm_line_laws.proofs.Chosen.{picked, chosen}
use Rattle.asm_line_laws.proofs.Standing.{IsMnemonic, stands_in, values}

-- how a byte is spelled in a text
data Spells (b : ℕ) : Type 0 where
  after_backslash : (c : ℕ) → escaped_byte b ≡ 92 ∷ c ∷ [] → escape_of c ≡ Some b → not_plain c ≡ false → Spells b
  itself : escaped_byte b ≡ b ∷ [] → (b == 34) ≡ false → (b == 92) ≡ false → not_plain b ≡ false → Spells b

told : {A : Type 0} (x : Bool) → (x ≡ true → A) → (x ≡ false → A) → A
told true f g = f refl
told false f g = g refl

at_byte : (b k : ℕ) → (b == k) ≡ true → Spells k → Spells b
at_byte b k e h = subst Spells (sym (eqb-true b k e)) h

spelled_plain : (b : ℕ) → (b == 10) ≡ false → (b == 9) ≡ false → (b == 13) ≡ false → (b == 0) ≡ false → can_stand b ≡ true → not_plain b ≡ false
spelled_plain b h i j k c = grind (arith, nat_tests)

stands_itself : (b : ℕ) → (b == 10) ≡ false → (b == 9) ≡ false → (b == 13) ≡ false → (b == 0) ≡ false → (b == 92) ≡ false → (b == 34) ≡ false → escaped_byte b ≡ b ∷ []
stands_itself b h i j k l m = rw (h, i, j, k, l, m) refl

spells : (b : ℕ) → can_stand b ≡ true → Spells b
spells b c =
    told (b == 10) (λ e. at_byte b 10 e (after_backslash 110 refl refl refl)) (λ h.
    told (b == 9) (λ e. at_byte b 9 e (after_backslash 116 refl refl refl)) (λ i.
    told (b == 13) (λ e. at_byte b 13 e (after_backslash 114 refl refl refl)) (λ j.
    told (b == 0) (λ e. at_byte b 0 e (after_backslash 48 refl refl refl)) (λ k.
    told (b == 92) (λ e. at_byte b 92 e (after_backslash 92 refl refl refl)) (λ l.
    told (b == 34) (λ e. at_byte b 34 e (after_backslash 34 refl refl refl)) (λ m.
    itself (stands_itself b h i j k l m) m l (spelled_plain b h i j k c)))))))

-- ---- the quote that closes a text

closing_escape : (b c : ℕ) (xs : List ℕ) → escape_of c ≡ Some b → closing false (92 ∷ c ∷ xs) ≡ one_more (one_more (closing false xs))
closing_escape b c xs h = ap (λ o. one_more (if is_some o then one_more (closing false xs) else None)) h

closing_byte : (b : ℕ) (xs : List ℕ) → (b == 34) ≡ false → (b == 92) ≡ false → closing false (b ∷ xs) ≡ one_more (closing false xs)
closing_byte b xs q s = rw (q, s) refl

closed_more : (b : ℕ) (bs rest : List ℕ) → Spells b → closing false (escaped_text bs ++ (34 ∷ rest)) ≡ Some (length (escaped_text bs) + 1) → closing false ((escaped_byte b ++ escaped_text bs) ++ (34 ∷ rest)) ≡ Some (length (escaped_byte b ++ escaped_text bs) + 1)
closed_more b bs rest (after_backslash c e f p) h =
    ap (λ x. closing false ((x ++ escaped_text bs) ++ (34 ∷ rest))) e
    ∙ closing_escape b c (escaped_text bs ++ (34 ∷ rest)) f
    ∙ ap (λ o. one_more (one_more o)) h
    ∙ ap (λ n. Some n) (let size = ap (λ x. length (x ++ escaped_text bs)) e in omega arith)
closed_more b bs rest (itself e q s p) h =
    ap (λ x. closing false ((x ++ escaped_text bs) ++ (34 ∷ rest))) e
    ∙ closing_byte b (escaped_text bs ++ (34 ∷ rest)) q s
    ∙ ap one_more h
    ∙ ap (λ n. Some n) (let size = ap (λ x. length (x ++ escaped_text bs)) e in omega arith)

closed : (bs rest : List ℕ) → list_all can_stand bs ≡ true → closing false (escaped_text bs ++ (34 ∷ rest)) ≡ Some (length (escaped_text bs) + 1)
closed [] rest h = refl
closed (b ∷ bs) rest h =
    closed_more b bs rest (spells b (and_left (can_stand b) (list_all can_stand bs) h)) (closed bs rest (and_right (can_stand b) (list_all can_stand bs) h))

-- ---- what its bytes stand for

unescaped_escape : (b c : ℕ) (xs : List ℕ) → escape_of c ≡ Some b → unescape false (92 ∷ c ∷ xs) ≡ b ∷ unescape false xs
unescaped_escape b c xs h = ap (λ o. unwrap_or o c ∷ unescape false xs) h

unescaped_byte : (b : ℕ) (xs : List ℕ) → (b == 92) ≡ false → unescape false (b ∷ xs) ≡ b ∷ unescape false xs
unescaped_byte b xs s = rw s refl

read_more : (b : ℕ) (bs : List ℕ) → Spells b → unescape false (escaped_text bs) ≡ bs → unescape false (escaped_byte b ++ escaped_text bs) ≡ b ∷ bs
read_more b bs (after_backslash c e f p) h =
    ap (λ x. unescape false (x ++ escaped_text bs)) e ∙ unescaped_escape b c (escaped_text bs) f ∙ ap (λ x. b ∷ x) h
read_more b bs (itself e q s p) h =
    ap (λ x. unescape false (x ++ escaped_text bs)) e ∙ unescaped_byte b (escaped_text bs) s ∙ ap (λ x. b ∷ x) h

read : (bs : List ℕ) → list_all can_stand bs ≡ true → unescape false (escaped_text bs) ≡ bs
read [] h = refl
read (b ∷ bs) h = read_more b bs (spells b (and_left (can_stand b) (list_all can_stand bs) h)) (read bs (and_right (can_stand b) (list_all can_stand bs) h))

inside_is : (raw : List ℕ) → inside (34 ∷ (raw ++ (34 ∷ []))) ≡ raw
inside_is raw =
    let size : length (34 ∷ (raw ++ (34 ∷ []))) - 1 - 1 ≡ length raw = omega (arith, length-append raw (34 ∷ [])) in
    ap (λ n. take n (raw ++ (34 ∷ []))) size ∙ take_at raw (34 ∷ []) (length raw) refl

text_read : (bs : List ℕ) → list_all can_stand bs ≡ true → unescape false (inside (quoted_text bs)) ≡ bs
text_read bs h = ap (unescape false) (inside_is (escaped_text bs)) ∙ read bs h

-- ---- its bytes may stand in a source

byte_plain : (b : ℕ) → Spells b → plain (escaped_byte b) ≡ true
byte_plain b (after_backslash c e f p) = ap plain e ∙ ap (λ t. not t && true) p
byte_plain b (itself e q s p) = ap plain e ∙ ap (λ t. not t && true) p

escaped_plain : (bs : List ℕ) → list_all can_stand bs ≡ true → plain (escaped_text bs) ≡ true
escaped_plain [] h = refl
escaped_plain (b ∷ bs) h =
    list_all-append (λ c. not (not_plain c)) (escaped_byte b) (escaped_text bs)
    ∙ both (plain (escaped_byte b)) (plain (escaped_text bs)) (byte_plain b (spells b (and_left (can_stand b) (list_all can_stand bs) h))) (escaped_plain bs (and_right (can_stand b) (list_all can_stand bs) h))

quote_ends : (bs rest : List ℕ) → list_all can_stand bs ≡ true → Ends (toks.quote (escaped_text bs)) rest
unfolding front_of
quote_ends bs rest h =
    let raw = escaped_text bs in (
      ap (λ x. quoted_front (closing false x)) (append_assoc raw (34 ∷ []) rest)
          ∙ ap quoted_front (closed bs rest h)
          ∙ ap (front Quoted) (let e : length raw + 1 + 1 ≡ length (34 ∷ (raw ++ (34 ∷ []))) = omega (arith, length-append raw (34 ∷ [])) in e),
      escaped_plain bs h,
    )

of_text : (w : List ℕ) (m : Makes) (k : StmtKind) (bs : List ℕ) → IsMnemonic w → length w ≤ 10 → IsText bs → chosen rows w (quote (escaped_text bs) ∷ []) ≡ picked m (values 0 0 0 (pos 0) (quoted_text bs)) → ((text : List ℕ) (o : Operands) → Agrees text o (values 0 0 0 (pos 0) (quoted_text bs)) → kind_made text (record { makes = m; operands = o }) ≡ k) → source_stmts (line w (quoted_text bs)) ≡ Ok (stmt 1 k ∷ [])
of_text w m k bs is brief h choice makes =
    let few = h.1 in
    let size = length-append (escaped_text bs) (34 ∷ []) in
    stands_in w (quote (escaped_text bs) ∷ []) m (values 0 0 0 (pos 0) (quoted_text bs)) k is (omega arith) (quote_ends bs [] h.0, tt) refl (omega arith) choice makes

pub ascii_line : (bs : List ℕ) → IsText bs → source_stmts (line (codes ".ascii") (quoted_text bs)) ≡ Ok (stmt 1 (Ascii bs) ∷ [])
unfolding rows directives a_to_b c_to_l m_to_z fitted kind_made
ascii_line bs h = of_text (codes ".ascii") (makes.Names name.Ascii) (Ascii bs) bs (record { named = refl; kept = refl; clean = refl; brief = omega arith }) (omega arith) h refl (λ text o g. ap (λ x. Ascii (unescape false (inside x))) g.name ∙ ap (λ x. Ascii x) (text_read bs h.0))

pub asciz_line : (bs : List ℕ) → IsText bs → source_stmts (line (codes ".asciz") (quoted_text bs)) ≡ Ok (stmt 1 (Asciz bs) ∷ [])
unfolding rows directives a_to_b c_to_l m_to_z fitted kind_made
asciz_line bs h = of_text (codes ".asciz") (makes.Names name.Asciz) (Asciz bs) bs (record { named = refl; kept = refl; clean = refl; brief = omega arith }) (omega arith) h refl (λ text o g. ap (λ x. Asciz (unescape false (inside x))) g.name ∙ ap (λ x. Asciz x) (text_read bs h.0))
