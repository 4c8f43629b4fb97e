-- Code, and code that is in no function (docs/guide/audit.md, "Code in no function").
use Rattle.std.specs.Prelude.{ℕ, ◌*◌, ◌&&◌, Bool, is_some, sum_by}
use Rattle.std.specs.Option.{is_none}
use Rattle.std.specs.List.{count_by, range_with_len}
use Rattle.elf_image.specs.Segments.{Segment}
use Rattle.elf_image.specs.Image.{Image, is_code_in, function_at}
use Rattle.frame_audit.specs.declared.code.TheConstants.{HALFWORD}

-- a halfword of code begins at the address, and the address is in no function
abbrev pub is_stray : Image → ℕ → Bool
is_stray image a = is_code_in image a && is_none (function_at image a)

-- .. and a function holds it
abbrev pub is_held : Image → ℕ → Bool
is_held image a = is_code_in image a && is_some (function_at image a)

-- how many addresses of a segment pass a test
unfoldable pub halfwords_in : (ℕ → Bool) → Segment → ℕ
halfwords_in test s = count_by test (range_with_len s.start s.size)

abbrev pub halfwords : (ℕ → Bool) → Image → ℕ
halfwords test image = sum_by (halfwords_in test) image.segments

abbrev pub code_bytes : Image → ℕ
code_bytes image = HALFWORD * halfwords (is_code_in image) image

abbrev pub held_bytes : Image → ℕ
held_bytes image = HALFWORD * halfwords (is_held image) image

abbrev pub stray_bytes : Image → ℕ
stray_bytes image = HALFWORD * halfwords (is_stray image) image
