use Rattle.std.proofs.Common.{ℕ, List, Bor, cond, Some, None, ap, ◌∙◌, arith, unwrap_or}
use Rattle.std.specs.Map.{lookup}
use Rattle.std.specs.Option.{option_or}
use Rattle.eh_word.specs.Names.{same_bytes}
use Rattle.eh_link.proofs.Lent.{found_added}
use Rattle.eh_link.proofs.names.Meanings.add.Goals as goal

pub returns : goal.returns
returns c q =
    let old = c.self.inside.by_name.entries in
    let name = c.args.name.now in
    let held = c.or_insert.ensures.value ∙ ap (λ o. unwrap_or o c.args.meaning) (c.in_ok-self-inside.ensures.value ∙ ap (λ bytes. lookup (λ other. same_bytes bytes other.now) old) c.bytes.ensures) in
    let put = λ (k : Bor (List ℕ)).
    (c.in_ok-self-inside.ensures.update.0 c.or_insert.result.now).0 k
    ∙ ap (λ bytes. cond (same_bytes bytes k.now) (Some c.or_insert.result.now) (lookup (λ other. same_bytes k.now other.now) old)) c.bytes.ensures in
    found_added old _ name c.args.meaning (λ k. grind (arith, put k, held)) q
    ∙ ap (λ meanings. option_or (lookup (same_bytes q) meanings) (cond (same_bytes q name) (Some c.args.meaning) None)) c.self.view_is
