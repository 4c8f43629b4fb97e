use Rattle.std.proofs.Common.{refl, ap, reverse}
use Rattle.eh_types.proofs.Steps.{none_done}
use Rattle.eh_types.proofs.reader.start.Goals as goal

pub returns : goal.returns
returns c =
    none_done c.args.source.now.image.now c.args.source.now.roots.now c.in_ok-pending.pending.items _ _ _ (ap reverse c.new-3.ensures.items) c.in_ok-pending.ensures.items (λ q. rw c.new.ensures.empty refl)
    (λ q. rw c.new-2.ensures.empty refl)
