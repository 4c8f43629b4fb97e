-- Which images aren't rewritten (docs/rules/gnu-tables.md): entries, and limits of the new image.
use Rattle.std.specs.Prelude.{◌+◌, ◌||◌, nat_le, nat_lt, Bool, if◌then◌else◌, length, sum_by, Option, Some, None}
use Rattle.std.specs.List.{list_any}
use Rattle.elf_image.specs.Image.{Image}
use Rattle.elf_image.specs.declared.limits.TheConstants.{ADDRESS_LIMIT, MEMORY_LIMIT, SEGMENT_LIMIT, SYMBOL_LIMIT}
use Rattle.elf_write.specs.Layout.{plan_of, file_end}
use Rattle.elf_write.specs.declared.parts.ImageParts.{ImageParts}
use Rattle.gnu_index.specs.declared.refusal.GnuFault.{GnuFault}
use Rattle.gnu_index.specs.declared.refusal.GnuFault.TheVariants.{TooLarge}
use Rattle.gnu_index.specs.Refusal.{sites_refusal, or_later_fault, rows_refusal}
use Rattle.gnu_rewrite.specs.declared.limits.TheConstants.{FILE_LIMIT}
use Rattle.gnu_rewrite.specs.Parts.{new_parts}

-- One of these limits is passed: the segments have more than 1,048,576 bytes of memory; there are more than 1,024 segments, or more
-- than 65,536 symbols with the null one; a segment ends past 0x30000000; the file has 16,777,216 bytes or more.
unfoldable pub passes_limits : ImageParts → Bool
passes_limits parts =
    nat_lt MEMORY_LIMIT (sum_by (λ s. s.size) parts.segments)
    || nat_lt SEGMENT_LIMIT (length parts.segments)
    || nat_lt SYMBOL_LIMIT (1 + length parts.symbols)
    || list_any (λ s. nat_lt ADDRESS_LIMIT (s.start + s.size)) parts.segments
    || nat_le FILE_LIMIT (file_end (plan_of parts))

abbrev pub size_refusal : Image → Option GnuFault
size_refusal image = if passes_limits (new_parts image) then Some TooLarge else None

-- the lowest row that is refused; else TooLarge if the new image is too large
abbrev pub translation_refusal : Image → Option GnuFault
translation_refusal image = or_later_fault (rows_refusal image) (size_refusal image)

-- entries with a fault are left without tables, so the rows are only refused for too many bytes of call-site tables
abbrev pub rewrite_refusal : Image → Option GnuFault
rewrite_refusal image = or_later_fault (sites_refusal image) (size_refusal image)
