use Rattle.std.proofs.Common.{sym, ap, ◌∙◌}
use Rattle.std.specs.List.{list_any}
use Rattle.eh_word.specs.Names.{same_bytes}
use Rattle.eh_link.proofs.Lent.{among_lent}
use Rattle.eh_link.proofs.names.NameSet.contains.Goals as goal

pub returns : goal.returns
returns c =
    let keys = c.self.inside.names.keys in
    c.contains.ensures
    ∙ ap (λ bytes. list_any (λ k. same_bytes bytes k.now) keys) c.bytes.ensures
    ∙ sym (among_lent (same_bytes c.args.name.now) keys)
    ∙ ap (list_any (same_bytes c.args.name.now)) c.self.view_is
