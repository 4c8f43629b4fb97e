use Rattle.std.proofs.Common.{sym}
use Rattle.thumb_ahead.proofs.Stored.{back_from, back_of_none}
use Rattle.thumb_ahead.proofs.undo_record.undo_record_of.Goals as goal

pub returns-in-None : goal.returns-in-None
returns-in-None g c = λ p there. back_of_none p c.args.regs.now (g.B.Bus.memory c.args.bus.now) c.args.i c.args.size c.are_words.ensures (sym there) c.in-None.ensures

pub returns-in-Some : goal.returns-in-Some
returns-in-Some g c = λ p there.
    back_from p _ c.args.regs.now (g.B.Bus.memory c.args.bus.now) c.args.i c.args.size c.in-Some.start c.in-Some.bytes (g.met.B.Bus.is_map c.args.bus.now)
    c.are_words.ensures (sym there) c.in-Some.ensures c.record_at.ensures
