use Rattle.elf_image.specs.declared.format.FileHeader.{FileHeader}
use Rattle.std.proofs.Common.{ap, ℕ, List, ◌∙◌, sym, subst}
use Rattle.std.proofs.lemmas.Result.{err_from_is_err_and}
use Rattle.elf_image.proofs.Outcome.{refused_header, refused_table, known, exit_segments, exit_index, headers_there, sections_there, exit_tables, exit_size, ready, finish_image, finish_refused}
use Rattle.elf_image.proofs.Lookups.{sum_fits}
use Rattle.elf_image.proofs.Sound.{index_stands, plain_symbols}
use Rattle.elf_image.specs.Index.{is_index}
use Rattle.elf_image.specs.Image.{IndexStands}
use Rattle.std.specs.List.{filter}
use Rattle.elf_image.proofs.read.read_image.Goals as goal

pub returns-in-Some-clause-refused : goal.returns-in-Some-clause-refused
returns-in-Some-clause-refused c = λ _. refused_header c.args.bytes.now c.in-Some.fault (sym c.header_refusal.ensures.refusal ∙ c.in-Some.is)

pub returns-in-Some-table_refusal-clause-refused : goal.returns-in-Some-table_refusal-clause-refused
returns-in-Some-table_refusal-clause-refused c = λ _.
    refused_table c.args.bytes.now c.in-Some-table_refusal.fault (sym c.header_refusal.ensures.refusal ∙ c.in_default.is) (sym c.table_refusal.ensures ∙ c.in-Some-table_refusal.is)

pub returns-in_err-segments-clause-refused : goal.returns-in_err-segments-clause-refused
returns-in_err-segments-clause-refused c =
    let p = err_from_is_err_and c.from_residual-in_err-segments.result c.from_residual-in_err-segments.ensures.1 in
    rw (p.1, p.2) (λ ne. exit_segments c.args.bytes.now c.deref.result.now c.in_err-segments.field-0.0 (sym c.header_refusal.ensures.refusal ∙ c.in_default.is)
    (sym c.table_refusal.ensures ∙ c.in_default-table_refusal.is) (c.deref.ensures.value ∙ c.in_ok-headers.ensures) (c.in_err-segments.ensures.refused ne))

pub returns-in_err-index-clause-refused : goal.returns-in_err-index-clause-refused
returns-in_err-index-clause-refused c =
    let hd = c.deref.ensures.value ∙ c.in_ok-headers.ensures in
    let k = known c.args.bytes.now c.deref.result.now c.in_ok-segments.segments.items (sym c.header_refusal.ensures.refusal ∙ c.in_default.is)
    (sym c.table_refusal.ensures ∙ c.in_default-table_refusal.is) hd c.in_ok-segments.ensures.accepted c.in_ok-segments.ensures.segments in
    let h = rw (c.deref-2.ensures.value, ← c.deref.ensures.value, c.deref-3.ensures.value) at c.in_err-index.ensures.refused in
    let p = err_from_is_err_and c.from_residual-in_err-index.result c.from_residual-in_err-index.ensures.1 in
    rw (p.1, p.2) (λ ne. exit_index c.args.bytes.now c.deref.result.now c.in_ok-segments.segments.items k c.in_err-index.field-0.0 (h ne))

pub returns-in_err-table-clause-refused : goal.returns-in_err-table-clause-refused
returns-in_err-table-clause-refused c =
    let hd = c.deref.ensures.value ∙ c.in_ok-headers.ensures in
    let k = known c.args.bytes.now c.deref.result.now c.in_ok-segments.segments.items (sym c.header_refusal.ensures.refusal ∙ c.in_default.is)
    (sym c.table_refusal.ensures ∙ c.in_default-table_refusal.is) hd c.in_ok-segments.ensures.accepted c.in_ok-segments.ensures.segments in
    let h = rw (c.deref-2.ensures.value, ← c.deref.ensures.value, c.deref-3.ensures.value) at c.in_ok-index.ensures.accepted in
    let p = err_from_is_err_and c.from_residual-in_err-table.result c.from_residual-in_err-table.ensures.1 in
    rw (p.1, p.2) (λ ne. exit_tables c.args.bytes.now c.deref.result.now c.in_ok-segments.segments.items k c.in_err-table.field-0.0 h (c.in_err-table.ensures.refused ne))

pub table_refusal-requires : goal.table_refusal-requires
table_refusal-requires c = c.header_refusal.ensures.whole c.in_default.is

pub program_headers-requires : goal.program_headers-requires
program_headers-requires c = record {
  whole = c.header_refusal.ensures.whole c.in_default.is;
  there = headers_there c.args.bytes.now (sym c.table_refusal.ensures ∙ c.in_default-table_refusal.is);
}

pub read_tables-requires : goal.read_tables-requires
read_tables-requires c = record {
  whole = c.header_refusal.ensures.whole c.in_default.is;
  there = sections_there c.args.bytes.now (sym c.table_refusal.ensures ∙ c.in_default-table_refusal.is);
}

pub is_too_large-requires : goal.is_too_large-requires
is_too_large-requires c = rw c.deref-4.ensures.value (sum_fits c.in_ok-segments.segments.items c.in_ok-segments.ensures.rise)

pub returns-then-is_too_large-clause-refused : goal.returns-then-is_too_large-clause-refused
returns-then-is_too_large-clause-refused c =
    let hd = c.deref.ensures.value ∙ c.in_ok-headers.ensures in
    let k = known c.args.bytes.now c.deref.result.now c.in_ok-segments.segments.items (sym c.header_refusal.ensures.refusal ∙ c.in_default.is)
    (sym c.table_refusal.ensures ∙ c.in_default-table_refusal.is) hd c.in_ok-segments.ensures.accepted c.in_ok-segments.ensures.segments in
    let i = rw (c.deref-2.ensures.value, ← c.deref.ensures.value, c.deref-3.ensures.value) at c.in_ok-index.ensures.accepted in
    let size = rw c.deref-4.ensures.value at (sym c.is_too_large.ensures ∙ c.if-is_too_large.true) in
    λ _. exit_size c.args.bytes.now c.deref.result.now c.in_ok-segments.segments.items k c.in_ok-table.table.now i c.in_ok-table.ensures.accepted c.in_ok-table.ensures.table size

pub returns-clause-image : goal.returns-clause-image
returns-clause-image c =
    let hd = c.deref.ensures.value ∙ c.in_ok-headers.ensures in
    let k = known c.args.bytes.now c.deref.result.now c.in_ok-segments.segments.items (sym c.header_refusal.ensures.refusal ∙ c.in_default.is)
    (sym c.table_refusal.ensures ∙ c.in_default-table_refusal.is) hd c.in_ok-segments.ensures.accepted c.in_ok-segments.ensures.segments in
    let i = rw (c.deref-2.ensures.value, ← c.deref.ensures.value, c.deref-3.ensures.value) at c.in_ok-index.ensures.accepted in
    let j = rw (c.deref-2.ensures.value, ← c.deref.ensures.value, c.deref-3.ensures.value) at c.in_ok-index.ensures.index in
    let size = rw c.deref-4.ensures.value at (sym c.is_too_large.ensures ∙ c.if-is_too_large.false) in
    let r = ready c.args.bytes.now c.deref.result.now c.in_ok-segments.segments.items _ c.in_ok-table.table.now c.in_ok-table.strings.now c.deref-5.result.now c.file_header.result.entry k i j
    c.in_ok-table.ensures.accepted c.in_ok-table.ensures.table c.in_ok-table.ensures.strings size (c.deref-5.ensures.value ∙ c.in_ok-symbols.ensures) (ap (λ (h : FileHeader). h.entry) c.file_header.ensures) in
    finish_image c.args.bytes.now c.in_ok-segments.segments.items _ c.deref-5.result.now c.file_header.result.entry r c.build.result c.build.ensures.accepted c.build.ensures.image

pub returns-clause-refused : goal.returns-clause-refused
returns-clause-refused c =
    let hd = c.deref.ensures.value ∙ c.in_ok-headers.ensures in
    let k = known c.args.bytes.now c.deref.result.now c.in_ok-segments.segments.items (sym c.header_refusal.ensures.refusal ∙ c.in_default.is)
    (sym c.table_refusal.ensures ∙ c.in_default-table_refusal.is) hd c.in_ok-segments.ensures.accepted c.in_ok-segments.ensures.segments in
    let i = rw (c.deref-2.ensures.value, ← c.deref.ensures.value, c.deref-3.ensures.value) at c.in_ok-index.ensures.accepted in
    let j = rw (c.deref-2.ensures.value, ← c.deref.ensures.value, c.deref-3.ensures.value) at c.in_ok-index.ensures.index in
    let size = rw c.deref-4.ensures.value at (sym c.is_too_large.ensures ∙ c.if-is_too_large.false) in
    let r = ready c.args.bytes.now c.deref.result.now c.in_ok-segments.segments.items _ c.in_ok-table.table.now c.in_ok-table.strings.now c.deref-5.result.now c.file_header.result.entry k i j
    c.in_ok-table.ensures.accepted c.in_ok-table.ensures.table c.in_ok-table.ensures.strings size (c.deref-5.ensures.value ∙ c.in_ok-symbols.ensures) (ap (λ (h : FileHeader). h.entry) c.file_header.ensures) in
    finish_refused c.args.bytes.now c.in_ok-segments.segments.items _ c.deref-5.result.now c.file_header.result.entry r c.build.result c.build.ensures.refused

pub build-requires-clause-index : goal.build-requires-clause-index
build-requires-clause-index c =
    let i = rw (c.deref-2.ensures.value, c.deref-3.ensures.value) at c.in_ok-index.ensures.accepted in
    let j = rw (c.deref-2.ensures.value, c.deref-3.ensures.value) at c.in_ok-index.ensures.index in
    subst (λ (x : ℕ × List ℕ). IndexStands c.in_ok-segments.segments.items x.0 x.1) (sym j)
    (index_stands (filter is_index c.in_ok-headers.headers.items) c.in_ok-segments.segments.items i)

pub build-requires-clause-plain : goal.build-requires-clause-plain
build-requires-clause-plain c = rw (c.deref-5.ensures.value, c.in_ok-symbols.ensures) (plain_symbols c.in_ok-table.table.now c.in_ok-table.strings.now)
