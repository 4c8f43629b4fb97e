-- An image, from the fields that keep it.
use Rattle.elf_image.specs.Image.{Image}
use Rattle.elf_image.specs.declared.image.Image.TheInside.{Inside}

abbrev pub view_of : Inside → Image
view_of i = record {
  entry = i.entry;
  segments = i.segments.items;
  functions = i.functions.items;
  marks = i.marks.items;
  symbols = i.symbols.items;
  index_start = i.index_start;
  index_bytes = i.index_bytes.now;
}
