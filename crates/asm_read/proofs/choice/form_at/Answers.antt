use Rattle.std.proofs.Common.{◌∙◌, ap, [], map, drop, None}
use Rattle.std.proofs.lemmas.List.{take_rest}
use Rattle.asm_read.specs.Forms.{row_of, forms_in}
use Rattle.asm_read.specs.Search.{rises, first_fit}
use Rattle.asm_read.proofs.Rising.{group_rises, rest_rises, skipped, word_grouped}
use Rattle.asm_read.proofs.choice.form_at.Goals as goal

pub begin_of-requires : goal.begin_of-requires
begin_of-requires c = ap (rises []) c.forms_in-rows.ensures ∙ group_rises c.of.result

-- what stands from the word's first form on
pub first_fit-requires-clause-rise : goal.first_fit-requires-clause-rise
first_fit-requires-clause-rise c =
    let rs = c.forms_in-rows.result.now in
    let word = c.args.word.now in
    ap (λ x. rises word (map row_of x)) (take_rest rs c.begin_of.result ∙ ap (λ k. drop k rs) c.begin_of.ensures.count)
    ∙ rest_rises rs [] word (ap (rises []) c.forms_in-rows.ensures ∙ group_rises c.of.result)

pub returns-clause-fit : goal.returns-clause-fit
returns-clause-fit c =
    let rs = c.forms_in-rows.result.now in
    let word = c.args.word.now in
    let line = c.args.line.now in
    let from = c.args.from in
    c.first_fit.ensures.fit
    ∙ ap (λ x. first_fit (map row_of x) word line from None) (take_rest rs c.begin_of.result ∙ ap (λ k. drop k rs) c.begin_of.ensures.count)
    ∙ skipped word line from rs None
    ∙ ap (λ fs. first_fit fs word line from None) (c.forms_in-rows.ensures ∙ ap forms_in c.of.ensures)
    ∙ word_grouped word line from None
