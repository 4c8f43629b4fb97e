use Rattle.std.proofs.Common.{◌∙◌, sym, ap, arith}
use Rattle.elf_image.specs.Image.{type_symbols_of}
use Rattle.elf_image.proofs.Sound.{sound_built}
use Rattle.elf_image.proofs.read.build.Goals as goal

pub invariant_of-result : goal.invariant_of-result
invariant_of-result c =
    let functions = rw c.deref.ensures.value at c.in_ok-functions.ensures.items in
    let all = rw c.deref-3.ensures.value at c.in_ok-symbols.ensures in
    let entry = rw c.deref-2.ensures.value at (sym c.entry_refusal.ensures ∙ c.in_default.is) in (
      sound_built c.args.field c.args.segments.items c.args.index.0 c.args.index.1.now c.args.symbols.now c.in_ok-functions.functions.items c.in_ok-marks.marks.items c.in_ok-symbols.symbols.items
          c.requires.rise c.requires.memory c.requires.count c.requires.index c.requires.plain (omega (arith, c.len.ensures)) entry functions c.in_ok-marks.ensures.items all,
      c.in_ok-type_symbols.ensures ∙ ap type_symbols_of c.deref-4.ensures.value,
    )
