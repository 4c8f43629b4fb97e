use Rattle.std.proofs.Common.{ap, ◌∙◌, ◌+◌}
use Rattle.std.specs.List.{prefix_len}
use Rattle.std.proofs.lemmas.List.{take_rest}
use Rattle.asm_read.specs.Tokens.{is_blank}
use Rattle.asm_read.specs.Marks.{begins_with}
use Rattle.asm_read.proofs.Marks.{no_mark, lone_mark}
use Rattle.asm_read.proofs.token.mark_after.Goals as goal

pub returns-then-not-begins_with-clause-place : goal.returns-then-not-begins_with-clause-place
returns-then-not-begins_with-clause-place c =
    let line = c.args.line.now in
    let blanks = c.blank_len.ensures.len ∙ ap (prefix_len is_blank) (take_rest line c.args.from) in
    let other = c.if-not-begins_with.ensures ∙ ap (begins_with c.args.mark) (take_rest line (c.args.from + c.blank_len.result)) in
    no_mark c.args.mark line c.args.from c.blank_len.result blanks other

pub returns-then-is_lone_mark-clause-place : goal.returns-then-is_lone_mark-clause-place
returns-then-is_lone_mark-clause-place c =
    let line = c.args.line.now in
    let blanks = c.blank_len.ensures.len ∙ ap (prefix_len is_blank) (take_rest line c.args.from) in
    let it = c.if-not-begins_with.ensures ∙ ap (begins_with c.args.mark) (take_rest line (c.args.from + c.blank_len.result)) in
    lone_mark c.args.mark line c.args.from c.blank_len.result blanks c.if-is_lone_mark.ensures it
