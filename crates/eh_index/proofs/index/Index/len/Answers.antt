use Rattle.std.proofs.Common.{sym, ◌∙◌, ap, length}
use Rattle.elf_image.specs.Image.{Image}
use Rattle.eh_index.specs.Rows.{entries_of}
use Rattle.eh_index.proofs.Search.{entries_len}
use Rattle.eh_index.proofs.index.Index.len.Goals as goal

pub returns : goal.returns
returns c = c.count.ensures ∙ sym (entries_len c.self.inside.image.now) ∙ ap (λ (i : Image). length (entries_of i)) c.self.view_is
