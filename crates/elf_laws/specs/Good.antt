-- Parts of an image that aren't refused (docs/rules/elf.md), in terms of the parts.
use Rattle.std.specs.Prelude.{ℕ, ◌≡◌, ◌+◌, ◌-◌, ◌%◌, ◌==◌, ◌≤◌, ◌&&◌, ◌||◌, nat_lt, Bool, true, false, List, [], ◌∷◌, length, filter, sum_by, Ok}
use Rattle.std.specs.List.{list_any}
use Rattle.elf_image.specs.Functions.{Function, functions_of}
use Rattle.elf_image.specs.Image.{image_of}
use Rattle.elf_image.specs.declared.limits.TheConstants.{ADDRESS_LIMIT, MEMORY_LIMIT, SEGMENT_LIMIT, SYMBOL_LIMIT, FUNCTION_LIMIT}
use Rattle.elf_write.specs.Layout.{has_index, layout_of, is_too_long, write_result}
use Rattle.elf_write.specs.Parts.{AreParts, has_memory, holds_range, segments_of_parts, symbols_of_parts, image_of_parts}
use Rattle.elf_write.specs.declared.parts.OwnSegment.{OwnSegment}
use Rattle.elf_write.specs.declared.parts.ImageParts.{ImageParts}

-- ---- segments, of which only those with memory count

abbrev pub memory_end : OwnSegment → ℕ
memory_end s = s.start + s.size

-- the segment ends past the end of the memory map, or has more bytes than memory
abbrev pub is_out_of_range : OwnSegment → Bool
is_out_of_range s = nat_lt ADDRESS_LIMIT (memory_end s) || nat_lt s.size (length s.bytes)

-- two segments share a byte of memory
abbrev pub meet : OwnSegment → OwnSegment → Bool
meet s t = nat_lt s.start (memory_end t) && nat_lt t.start (memory_end s)

abbrev pub some_meet : List OwnSegment → Bool
some_meet [] = false
some_meet (s ∷ more) = list_any (meet s) more || some_meet more

-- ---- parts

abbrev pub own_segments : ImageParts → List OwnSegment
own_segments parts = filter has_memory parts.segments

abbrev pub own_functions : ImageParts → List Function
own_functions parts = functions_of (segments_of_parts parts.segments) (symbols_of_parts parts)

pub record AreGood (parts : ImageParts) : Type 0 where
  pub are : AreParts parts
  pub short : is_too_long parts ≡ false
  pub fit : list_any is_out_of_range (own_segments parts) ≡ false
  pub apart : some_meet (own_segments parts) ≡ false
  pub memory : sum_by (λ s. s.size) (segments_of_parts parts.segments) ≤ MEMORY_LIMIT
  pub count : length (segments_of_parts parts.segments) ≤ SEGMENT_LIMIT
  pub symbols : length (symbols_of_parts parts) ≤ SYMBOL_LIMIT
  pub functions : length (own_functions parts) ≤ FUNCTION_LIMIT
  pub entry : list_any (λ f. f.start == parts.entry - parts.entry % 2) (own_functions parts) ≡ true
  pub index : has_index parts ≡ true → list_any (holds_range parts.index.0 parts.index.1) (segments_of_parts parts.segments) ≡ true

-- what is written for them is their layout
abbrev pub GoodPartsAreRead : Type 0
GoodPartsAreRead = (parts : ImageParts) → AreGood parts → write_result parts ≡ Ok (layout_of parts)

-- and it is read as their image
abbrev pub GoodPartsMeanTheirImage : Type 0
GoodPartsMeanTheirImage = (parts : ImageParts) → AreGood parts → image_of (layout_of parts) ≡ Ok (image_of_parts parts)
