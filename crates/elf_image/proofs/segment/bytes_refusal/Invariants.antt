use Rattle.std.proofs.Common.{◌≡◌, drop}
use Rattle.elf_image.specs.Segments.{bytes_refusal}
use Rattle.elf_image.proofs.segment.bytes_refusal.Given as goal

abbrev pub invariant-loop-h : goal.invariant-loop-h
invariant-loop-h l = bytes_refusal l.bytes (drop l.h-index l.headers) ≡ bytes_refusal l.bytes l.headers
