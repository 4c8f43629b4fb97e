use Rattle.std.proofs.Common.{◌≡◌, ◌≤◌, ◌+◌, length}
use Rattle.asm_read.specs.declared.read.TheConstants.{MOST_LINES}
use Rattle.asm_read.specs.Reading.{append_stmts, read_lines, lines_of, source_stmts}
use Rattle.asm_read.proofs.read.read_source.Given as goal

abbrev pub invariant-loop-rest : goal.invariant-loop-rest
invariant-loop-rest l = (l.number ≤ MOST_LINES + 1) × (append_stmts l.stmts.items (read_lines l.number (lines_of l.rest)) ≡ source_stmts l.text)

abbrev pub decreases-loop-rest : goal.decreases-loop-rest
decreases-loop-rest l = length l.rest
