use Rattle.std.proofs.Common.{◌||◌, true, cond, ap, ◌∙◌}
use Rattle.std.specs.List.{list_any}
use Rattle.eh_word.specs.Names.{same_bytes}
use Rattle.eh_link.proofs.Lent.{among_added}
use Rattle.eh_link.proofs.names.NameSet.add.Goals as goal

pub returns : goal.returns
returns c q =
    let old = c.self.inside.names.keys in
    among_added
    old
    c.insert.new.self.keys
    c.args.name.now
    (λ k. c.in_ok-insert.ensures.updates.0 k ∙ ap (λ bytes. cond (same_bytes bytes k.now) true (list_any (λ other. same_bytes k.now other.now) old)) c.bytes.ensures)
    q
    ∙ ap (λ names. list_any (same_bytes q) names || same_bytes q c.args.name.now) c.self.view_is
