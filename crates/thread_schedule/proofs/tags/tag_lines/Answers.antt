use Rattle.std.proofs.Common.{◌≡◌, ◌∷◌, ◌++◌, [], slice_index_or, refl, arith}
use Rattle.thread_schedule.proofs.Tagging.{tags_none, tags_byte}
use Rattle.thread_schedule.proofs.tags.tag_lines.Goals as goal

pub loop-byte-init : goal.loop-byte-init
loop-byte-init c = let e : c.new-lines.result.items ≡ [] = cc in rw e (tags_none c.args.tags.now c.args.text.now)

pub loop-byte-preserved : goal.loop-byte-preserved
loop-byte-preserved c =
    let e : c.push.new.bytes.items ≡ c.begin_line.new.lines.items ++ slice_index_or c.args.text.now c.loop-byte.byte-index 0 ∷ [] = c.in_ok-push.ensures in
    rw e (
    tags_byte c.args.tags.now c.args.text.now c.loop-byte.lines.items c.begin_line.new.lines.items c.loop-byte.starts c.loop-byte.byte-index c.loop-byte.next c.in_ok-next.next
    (slice_index_or c.args.text.now c.loop-byte.byte-index 0) (omega arith) refl c.in_ok-next.ensures.begins c.in_ok-next.ensures.left c.loop-byte.invariant
    )
