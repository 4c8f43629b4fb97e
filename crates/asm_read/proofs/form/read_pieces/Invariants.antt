use Rattle.std.proofs.Common.{◌≡◌, ◌≤◌, length, drop}
use Rattle.asm_read.specs.Fits.{read_pieces}
use Rattle.asm_read.proofs.form.read_pieces.Given as goal

abbrev pub invariant-loop-piece : goal.invariant-loop-piece
invariant-loop-piece l = (l.so_far.at ≤ length l.line) × (read_pieces (drop l.piece-index l.pieces) l.line l.so_far ≡ read_pieces l.pieces l.line l.fn.operands)
