use Rattle.std.proofs.Common.{◌+◌, ◌*◌, ap, arith}
use Rattle.elf_image.specs.Format.{section_header, section_offset, section_count}
use Rattle.elf_image.specs.declared.format.FileHeader.{FileHeader}
use Rattle.elf_image.proofs.Listed.{listed_all}
use Rattle.elf_image.proofs.Rows.{section_there, section_pushed}
use Rattle.elf_image.proofs.format.section_headers.Goals as goal

pub section_header-requires : goal.section_header-requires
section_header-requires c = section_there c.args.bytes.now c.file_header-header.result c.file_header-header.ensures c.loop-i.i c.requires.there (omega arith)

pub loop-i-preserved : goal.loop-i-preserved
loop-i-preserved c =
    section_pushed c.args.bytes.now c.file_header-header.result c.file_header-header.ensures c.loop-i.i c.loop-i.headers.items _ c.section_header.result c.loop-i.invariant c.in_ok-push.ensures.items c.section_header.ensures

pub returns : goal.returns
returns c =
    let count = ap (λ (h : FileHeader). h.section_count) c.file_header-header.ensures in
    listed_all (λ i. section_header c.args.bytes.now (section_offset c.args.bytes.now + 40 * i)) c.loop-i.headers.items c.loop-i.i (section_count c.args.bytes.now) (omega (arith, count)) c.loop-i.invariant
