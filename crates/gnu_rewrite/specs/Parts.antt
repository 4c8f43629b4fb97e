-- The parts of an image whose unwind tables are rewritten (docs/rules/gnu-tables.md).
use Rattle.elf_image.specs.Image.{Image}
use Rattle.elf_write.specs.declared.parts.ImageParts.{ImageParts}
use Rattle.gnu_index.specs.Lists.{Lists}
use Rattle.gnu_index.specs.Tables.{rewrite_rows}
use Rattle.gnu_rewrite.specs.Segments.{tables_start, rows_start, segments_of, index_at}
use Rattle.gnu_rewrite.specs.Symbols.{symbols_of}

-- with such tables, rows and filters
unfoldable pub parts_with : Image → Lists → ImageParts
parts_with image t = record { entry = image.entry; segments = segments_of image t; symbols = symbols_of image; index = index_at (rows_start image t) t.rows }

-- the rewritten tables, from the new segment's start on
abbrev pub new_tables : Image → Lists
new_tables image = rewrite_rows image (tables_start image)

abbrev pub new_parts : Image → ImageParts
new_parts image = parts_with image (new_tables image)
