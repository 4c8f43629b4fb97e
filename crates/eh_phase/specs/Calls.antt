-- The definitions, applied to the parameters of the calls.
use Rattle.std.specs.Prelude.{ℕ, false, List, [], map, slice_index, unwrap_or, Result, Ok, Err}
use Rattle.std.specs.List.{range_with_len}
use Rattle.eh_bus.specs.Segment.{Segment}
use Rattle.eh_bus.specs.Memory.{Memory}
use Rattle.elf_image.specs.Image.{Image}
use Rattle.elf_image.specs.Segments.{Segment as Loaded}
use Rattle.eh_types.specs.Graph.{Row}
use Rattle.eh_match.specs.Rules.{match_of}
use Rattle.eh_desc.specs.declared.descriptor.DescKind.{DescKind}
use Rattle.eh_desc.specs.declared.descriptor.DescKind.TheVariants.{Cleanup, Catch, Spec}
use Rattle.eh_desc.specs.Grammar.{type_in}
use Rattle.eh_phase.specs.declared.verdict.Thrown.{Thrown}
use Rattle.thumb_core.specs.declared.ends.Cause.{Cause}
use Rattle.eh_bytecode.specs.declared.frame.Vrs.{Vrs}
use Rattle.eh_phase.specs.declared.walk.Cursor.{Cursor}
use Rattle.eh_phase.specs.Verdict.{Meeting}
use Rattle.eh_phase.specs.Phases.{Frame}
use Rattle.eh_phase.specs.Frames.{Stack, site_of}

-- the types that a specification names, in order; a word that names no type is type 0, which matches nothing
abbrev pub types_of : List Loaded → DescKind → List ℕ
types_of segments (Cleanup pad) = []
types_of segments (Catch pad reference type) = []
types_of segments (Spec types count pad) = map (λ i. unwrap_or (type_in segments (Spec types count pad) i) 0) (range_with_len 0 count)

-- a thrown object in a memory, seen by the descriptors of an image
abbrev pub meeting : Image → List Row → List Segment → Thrown → Meeting
meeting image types segments what = record {
  object = what.object;
  matched = λ wanted. match_of types segments what.ty what.object wanted;
  types = types_of image.segments;
}

-- what a memory gives for unwinding
abbrev pub stack_of : Memory → Stack
stack_of memory = record { segments = memory.segments; end = memory.home.1 }

-- the cursor at the next frame, or the reason why there is none
abbrev pub cursor_of : Result Vrs Cause → Result Cursor Cause
cursor_of (Ok vrs) = Ok (record { vrs = vrs; site = site_of vrs.r; innermost = false })
cursor_of (Err cause) = Err cause

-- the frame at a cursor, as the phases see it
abbrev pub frame_at : Cursor → Frame
frame_at c = record { site = c.site; sp = slice_index c.vrs.r 13; r = c.vrs.r; items = [] }
