-- The segments of an image whose unwind tables are rewritten, and the place of its new index (docs/rules/gnu-tables.md).
use Rattle.std.specs.Prelude.{ℕ, ◌*◌, ◌==◌, max, false, if◌then◌else◌, List, [], ◌∷◌, ◌++◌, length, map, fold}
use Rattle.eh_word.specs.Bytes.{next_multiple}
use Rattle.elf_image.specs.Segments.{Segment, segment_end}
use Rattle.elf_image.specs.Image.{Image}
use Rattle.eh_codes.specs.Rows.{rows_bytes}
use Rattle.eh_codes.specs.declared.row.Entry.{Entry}
use Rattle.eh_codes.specs.declared.row.TheConstants.{ROW_SIZE}
use Rattle.elf_write.specs.declared.parts.OwnSegment.{OwnSegment}
use Rattle.gnu_index.specs.Lists.{Lists}
use Rattle.gnu_index.specs.Tables.{place_after}
use Rattle.gnu_rewrite.specs.declared.segments.TheConstants.{SEGMENT_STEP}

-- the greatest end of the memory of segments
abbrev pub greatest_end : List Segment → ℕ
greatest_end segments = fold (λ end s. max end (segment_end s)) 0 segments

-- the new tables stand from the next multiple of 4,096 on
abbrev pub tables_start : Image → ℕ
tables_start image = next_multiple (greatest_end image.segments) SEGMENT_STEP

-- and the rows of the index behind them
abbrev pub rows_start : Image → Lists → ℕ
rows_start image t = place_after (tables_start image) t

abbrev pub new_bytes : Image → Lists → List ℕ
new_bytes image t = t.bytes ++ rows_bytes (rows_start image t) t.rows

-- read-only memory, all of whose bytes are given
abbrev pub read_only : ℕ → List ℕ → OwnSegment
read_only start bytes = record { start = start; bytes = bytes; size = length bytes; write = false; exec = false }

-- where there are no bytes there is no segment
abbrev pub segment_from : ℕ → List ℕ → List OwnSegment
segment_from start bytes = if length bytes == 0 then [] else read_only start bytes ∷ []

abbrev pub kept_segment : Segment → OwnSegment
kept_segment s = record { start = s.start; bytes = s.bytes; size = s.size; write = s.write; exec = s.exec }

-- those of the image, and the new one
abbrev pub segments_of : Image → Lists → List OwnSegment
segments_of image t = map kept_segment image.segments ++ segment_from (tables_start image) (new_bytes image t)

-- the address and the size of the index; without rows there is none
abbrev pub index_at : ℕ → List Entry → ℕ × ℕ
index_at place rows = if length rows == 0 then (0, 0) else (place, ROW_SIZE * length rows)
