use Rattle.std.proofs.Common.{sym, ap, ◌∙◌}
use Rattle.std.specs.Map.{lookup}
use Rattle.eh_word.specs.Names.{same_bytes}
use Rattle.eh_link.proofs.Lent.{found_lent}
use Rattle.eh_link.proofs.names.Meanings.get.Goals as goal

pub returns : goal.returns
returns c =
    let entries = c.self.inside.by_name.entries in
    c.copied.ensures
    ∙ c.get.ensures.value
    ∙ ap (λ bytes. lookup (λ k. same_bytes bytes k.now) entries) c.bytes.ensures
    ∙ sym (found_lent (same_bytes c.args.name.now) entries)
    ∙ ap (lookup (same_bytes c.args.name.now)) c.self.view_is
