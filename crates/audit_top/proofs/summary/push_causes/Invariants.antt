use Rattle.std.proofs.Common.{◌≡◌, ◌++◌, flat_map, take}
use Rattle.audit_top.specs.Text.{cause_count_line}
use Rattle.audit_top.proofs.summary.push_causes.Given as goal

-- the lines of the causes so far are added
abbrev pub invariant-loop-cause : goal.invariant-loop-cause
invariant-loop-cause l = l.lines.items ≡ l.initial.lines.items ++ flat_map (cause_count_line l.audit.functions) (take l.cause-index l.causes)
