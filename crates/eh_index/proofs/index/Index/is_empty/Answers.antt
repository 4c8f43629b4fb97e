use Rattle.std.proofs.Common.{ℕ, sym, ◌∙◌, ap, length, nat_eq}
use Rattle.elf_image.specs.Image.{Image}
use Rattle.eh_index.specs.Rows.{entries_of}
use Rattle.eh_index.proofs.Search.{entries_len}
use Rattle.eh_index.proofs.index.Index.is_empty.Goals as goal

pub returns : goal.returns
returns c =
    ap (λ (n : ℕ). nat_eq n 0) (c.count.ensures ∙ sym (entries_len c.self.inside.image.now) ∙ ap (λ (i : Image). length (entries_of i)) c.self.view_is)
