use Rattle.std.proofs.Common.{◌≡◌, ◌++◌, take}
use Rattle.std.specs.Prelude.{codes, flat_map}
use Rattle.eh_walk.specs.Text.{frame_line}
use Rattle.eh_walk.proofs.text.walk_lines.Given as goal

abbrev pub invariant-loop-frame : goal.invariant-loop-frame
invariant-loop-frame l = l.out.items ≡ codes "-- frames\n" ++ flat_map (frame_line l.image) (take l.frame-index l.frames)
