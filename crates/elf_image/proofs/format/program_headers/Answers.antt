use Rattle.std.proofs.Common.{◌+◌, ◌*◌, ap, arith}
use Rattle.elf_image.specs.Format.{program_header, program_offset, program_count}
use Rattle.elf_image.specs.declared.format.FileHeader.{FileHeader}
use Rattle.elf_image.proofs.Listed.{listed_all}
use Rattle.elf_image.proofs.Rows.{program_there, program_pushed}
use Rattle.elf_image.proofs.format.program_headers.Goals as goal

pub program_header-requires : goal.program_header-requires
program_header-requires c = program_there c.args.bytes.now c.file_header-header.result c.file_header-header.ensures c.loop-i.i c.requires.there (omega arith)

pub loop-i-preserved : goal.loop-i-preserved
loop-i-preserved c =
    program_pushed c.args.bytes.now c.file_header-header.result c.file_header-header.ensures c.loop-i.i c.loop-i.headers.items _ c.program_header.result c.loop-i.invariant c.in_ok-push.ensures.items c.program_header.ensures

pub returns : goal.returns
returns c =
    let count = ap (λ (h : FileHeader). h.program_count) c.file_header-header.ensures in
    listed_all (λ i. program_header c.args.bytes.now (program_offset c.args.bytes.now + 32 * i)) c.loop-i.headers.items c.loop-i.i (program_count c.args.bytes.now) (omega (arith, count)) c.loop-i.invariant
