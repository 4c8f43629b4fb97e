-- The mapping symbols that tell which addresses of an image are code ("ELF for the Arm Architecture", "Mapping symbols";
-- docs/rules/gnu-tables.md).
use Rattle.std.specs.Prelude.{ℕ, ◌+◌, ◌-◌, ◌%◌, ◌==◌, not, ◌&&◌, ◌||◌, nat_lt, Bool, if◌then◌else◌, List, [], map, filter}
use Rattle.std.specs.List.{range_with_len, flat_map}
use Rattle.elf_image.specs.Segments.{Segment}
use Rattle.elf_image.specs.Image.{Image, is_code_in}

-- exactly one of the address and the address two bytes below it is code
abbrev pub turns : Image → ℕ → Bool
turns image a = if is_code_in image a then not (is_code_in image (a - 2)) else is_code_in image (a - 2)

-- the first even address of a segment that begins at an address, or a later one that is code while the address two bytes below isn't,
-- or the other way round
abbrev pub is_marked : Image → ℕ → ℕ → Bool
is_marked image start a = a % 2 == 0 && (nat_lt a (start + 2) || turns image a)

-- the marks of so many addresses: in ascending order, each with whether code begins there
abbrev pub marks_from : Image → ℕ → ℕ → List (ℕ × Bool)
marks_from image start size = map (λ a. (a, is_code_in image a)) (filter (is_marked image start) (range_with_len start size))

-- a segment has marks where it may be executed
abbrev pub marks_in : Image → Segment → List (ℕ × Bool)
marks_in image s = if s.exec then marks_from image s.start s.size else []

unfoldable pub marks_of : Image → List (ℕ × Bool)
marks_of image = flat_map (marks_in image) image.segments
