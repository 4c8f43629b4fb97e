use Rattle.std.proofs.Common.{◌∙◌, arith}
use Rattle.eh_link.proofs.Layouts.{text_past, rodata_past, extab_past, index_past, init_past, bss_past, layout_is, found_layout, large_layout, rises_of}
use Rattle.eh_link.proofs.places.lay_out.Goals as goal

pub returns-in_err-text_end-clause-found : goal.returns-in_err-text_end-clause-found
returns-in_err-text_end-clause-found c = c.from_residual.ensures ∙ text_past c.args.objects.now c.in_err-text_end.ensures.none

pub returns-in_err-rodata_end-clause-found : goal.returns-in_err-rodata_end-clause-found
returns-in_err-rodata_end-clause-found c =
    c.from_residual-in_err-rodata_end.ensures ∙ rodata_past c.args.objects.now _ c.in_ok-text_end.ensures.some.0 c.in_err-rodata_end.ensures.none

pub returns-in_err-extab_end-clause-found : goal.returns-in_err-extab_end-clause-found
returns-in_err-extab_end-clause-found c =
    c.from_residual-in_err-extab_end.ensures ∙ extab_past c.args.objects.now _ _ c.in_ok-text_end.ensures.some.0 c.in_ok-rodata_end.ensures.some.0 c.in_err-extab_end.ensures.none

pub returns-in_err-code_end-clause-found : goal.returns-in_err-code_end-clause-found
returns-in_err-code_end-clause-found c =
    c.from_residual-in_err-code_end.ensures
    ∙ index_past c.args.objects.now _ _ _ _ c.in_ok-text_end.ensures.some.0 c.in_ok-rodata_end.ensures.some.0 c.in_ok-extab_end.ensures.some.0
    c.align_to_word-index_start.ensures c.in_err-code_end.ensures.none

pub returns-in_err-init_end-clause-found : goal.returns-in_err-init_end-clause-found
returns-in_err-init_end-clause-found c =
    c.from_residual-in_err-init_end.ensures
    ∙ init_past c.args.objects.now _ _ _ _ _ _ c.in_ok-text_end.ensures.some.0 c.in_ok-rodata_end.ensures.some.0 c.in_ok-extab_end.ensures.some.0
    c.align_to_word-index_start.ensures c.in_ok-code_end.ensures.some.0 c.page_after-data_start.ensures c.in_err-init_end.ensures.none

pub returns-in_err-bss_end-clause-found : goal.returns-in_err-bss_end-clause-found
returns-in_err-bss_end-clause-found c =
    c.from_residual-in_err-bss_end.ensures
    ∙ bss_past c.args.objects.now _ _ _ _ _ _ _ c.in_ok-text_end.ensures.some.0 c.in_ok-rodata_end.ensures.some.0 c.in_ok-extab_end.ensures.some.0
    c.align_to_word-index_start.ensures c.in_ok-code_end.ensures.some.0 c.page_after-data_start.ensures c.in_ok-init_end.ensures.some.0 c.in_err-bss_end.ensures.none

pub overflow_sub-code_end : goal.overflow_sub-code_end
overflow_sub-code_end c =
    let is = layout_is c.args.objects.now _ _ _ _ _ _ _ _ c.in_ok-text_end.ensures.some.0 c.in_ok-rodata_end.ensures.some.0 c.in_ok-extab_end.ensures.some.0
    c.align_to_word-index_start.ensures c.in_ok-code_end.ensures.some.0 c.page_after-data_start.ensures c.in_ok-init_end.ensures.some.0 c.in_ok-bss_end.ensures.some.0 in
    let r = rises_of _ _ is c.in_ok-bss_end.ensures.some.1 in
    omega (arith, r.text, r.rodata, r.extab, r.index, r.code)

pub overflow_sub-bss_end : goal.overflow_sub-bss_end
overflow_sub-bss_end c =
    let is = layout_is c.args.objects.now _ _ _ _ _ _ _ _ c.in_ok-text_end.ensures.some.0 c.in_ok-rodata_end.ensures.some.0 c.in_ok-extab_end.ensures.some.0
    c.align_to_word-index_start.ensures c.in_ok-code_end.ensures.some.0 c.page_after-data_start.ensures c.in_ok-init_end.ensures.some.0 c.in_ok-bss_end.ensures.some.0 in
    let r = rises_of _ _ is c.in_ok-bss_end.ensures.some.1 in
    omega (arith, r.init, r.bss)

pub returns-then-code_end-bss_end-gt-MOST_MEMORY-clause-found : goal.returns-then-code_end-bss_end-gt-MOST_MEMORY-clause-found
returns-then-code_end-bss_end-gt-MOST_MEMORY-clause-found c =
    let is = layout_is c.args.objects.now _ _ _ _ _ _ _ _ c.in_ok-text_end.ensures.some.0 c.in_ok-rodata_end.ensures.some.0 c.in_ok-extab_end.ensures.some.0
    c.align_to_word-index_start.ensures c.in_ok-code_end.ensures.some.0 c.page_after-data_start.ensures c.in_ok-init_end.ensures.some.0 c.in_ok-bss_end.ensures.some.0 in
    large_layout _ _ is c.if-code_end-bss_end-gt-MOST_MEMORY.true

pub returns-clause-found : goal.returns-clause-found
returns-clause-found c =
    let is = layout_is c.args.objects.now _ _ _ _ _ _ _ _ c.in_ok-text_end.ensures.some.0 c.in_ok-rodata_end.ensures.some.0 c.in_ok-extab_end.ensures.some.0
    c.align_to_word-index_start.ensures c.in_ok-code_end.ensures.some.0 c.page_after-data_start.ensures c.in_ok-init_end.ensures.some.0 c.in_ok-bss_end.ensures.some.0 in
    found_layout _ _ is c.if-code_end-bss_end-gt-MOST_MEMORY.false

pub returns-clause-rises : goal.returns-clause-rises
returns-clause-rises c =
    let is = layout_is c.args.objects.now _ _ _ _ _ _ _ _ c.in_ok-text_end.ensures.some.0 c.in_ok-rodata_end.ensures.some.0 c.in_ok-extab_end.ensures.some.0
    c.align_to_word-index_start.ensures c.in_ok-code_end.ensures.some.0 c.page_after-data_start.ensures c.in_ok-init_end.ensures.some.0 c.in_ok-bss_end.ensures.some.0 in
    rises_of _ _ is c.in_ok-bss_end.ensures.some.1
