-- The text of a walk. Each line ends in a line feed.
use Rattle.std.specs.Prelude.{List, ℕ, ◌++◌, codes, flat_map}
use Rattle.eh_word.specs.Address.{address_text}
use Rattle.elf_image.specs.Image.{Image}
use Rattle.eh_trace.specs.Text.{place_text}
use Rattle.eh_walk.specs.declared.walk.WalkFrame.{WalkFrame}

-- the place of a frame in its function, and its stack pointer
abbrev pub frame_line : Image → WalkFrame → List ℕ
frame_line image f = codes "frame " ++ place_text image f.site ++ codes " sp " ++ address_text f.sp ++ codes "\n"

-- the frames, the innermost first
abbrev pub walk_text : Image → List WalkFrame → List ℕ
walk_text image frames = codes "-- frames\n" ++ flat_map (frame_line image) frames ++ codes "-- walked\n"
