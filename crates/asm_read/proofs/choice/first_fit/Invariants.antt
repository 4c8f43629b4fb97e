use Rattle.std.proofs.Common.{◌≡◌, ◌≤◌, true, length, drop, map, None, IfSome}
use Rattle.asm_read.specs.Forms.{row_of}
use Rattle.asm_read.specs.Search.{rises, first_fit}
use Rattle.asm_read.proofs.choice.first_fit.Given as goal

abbrev pub invariant-loop-row : goal.invariant-loop-row
invariant-loop-row l = record {
  stop : IfSome l.so_far (λ s. s.at ≤ length l.line);
  rise : rises l.word (map row_of (drop l.row-index l.rows)) ≡ true;
  fit : first_fit (map row_of (drop l.row-index l.rows)) l.word l.line l.from l.so_far ≡ first_fit (map row_of l.rows) l.word l.line l.from None;
}
