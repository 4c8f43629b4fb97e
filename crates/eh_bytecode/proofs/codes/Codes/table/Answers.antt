use Rattle.std.proofs.Common.{◌-◌, ◌≤◌, ◌<◌, ◌^◌, List, ℕ, get_or, sym, ◌∙◌, ap, arith, take, drop, length}
use Rattle.std.proofs.lemmas.Grind.{common_steps}
use Rattle.eh_bytecode.specs.Codes.{table_codes}
use Rattle.eh_bytecode.proofs.CodesLaws.{IsFour, four, few, generic_first, reserved_first, short_first, long_short, long_first}
use Rattle.eh_bytecode.proofs.codes.Codes.table.Goals as goal

parts : (bytes : List ℕ) → 4 ≤ length bytes → ((i : ℕ) → get_or bytes i 0 < 2 ^ 8) →
    IsFour bytes (get_or bytes 0 0) (get_or bytes 1 0) (get_or bytes 2 0) (get_or bytes 3 0) (take (length bytes - 4) (drop 4 bytes))
parts bytes some small = four bytes some small

pub returns-in_default : goal.returns-in_default
returns-in_default c = sym (few c.args.bytes.now c.in_default.len_below)

pub returns-then-word : goal.returns-then-word
returns-then-word c =
    let f = parts c.args.bytes.now c.in-len4-up.len_at_least (λ i. omega (arith, c.type_inv.bytes i)) in
    sym (ap table_codes f.is ∙ short_first _ _ _ _ _ f.first c.if-word.true)

pub returns-then-word-lt-COMPACT_TOP : goal.returns-then-word-lt-COMPACT_TOP
returns-then-word-lt-COMPACT_TOP c =
    let f = parts c.args.bytes.now c.in-len4-up.len_at_least (λ i. omega (arith, c.type_inv.bytes i)) in
    sym (ap table_codes f.is ∙ generic_first _ _ _ _ _ f.first c.if-word-lt-COMPACT_TOP.true)

pub returns-then-word-2 : goal.returns-then-word-2
returns-then-word-2 c =
    let f = parts c.args.bytes.now c.in-len4-up.len_at_least (λ i. omega (arith, c.type_inv.bytes i)) in
    sym (ap table_codes f.is ∙ reserved_first _ _ _ _ _ f.first c.if-word-2.true)

pub returns-then-more-size : goal.returns-then-more-size
returns-then-more-size c =
    let f = parts c.args.bytes.now c.in-len4-up.len_at_least (λ i. omega (arith, c.type_inv.bytes i)) in
    sym (ap table_codes f.is ∙ long_short _ _ _ _ _ f.first (omega arith) (omega (arith, c.if-word-2.false)) (grind (arith, common_steps)))

pub returns : goal.returns
returns c =
    let f = parts c.args.bytes.now c.in-len4-up.len_at_least (λ i. omega (arith, c.type_inv.bytes i)) in
    sym (ap table_codes f.is ∙ long_first _ _ _ _ _ f.first (omega arith) (omega (arith, c.if-word-2.false)) (grind (arith, common_steps)) f.small)
