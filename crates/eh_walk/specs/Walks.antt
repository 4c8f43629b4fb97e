-- What a walk gives of a state (docs/guide/walks-and-threads.md).
use Rattle.std.specs.Prelude.{ℕ, ◌≡◌, nat_lt, false, List, [], ◌∷◌, length, map, take, slice_index, if◌then◌else◌, Option, Some, None, option_map, Result, Ok, Err}
use Rattle.elf_image.specs.Image.{Image}
use Rattle.eh_bus.specs.Memory.{Memory}
use Rattle.thumb_core.specs.Registers.{all_of}
use Rattle.thumb_core.specs.declared.regs.Regs.{Regs}
use Rattle.thumb_core.specs.declared.ends.Cause.{Cause}
use Rattle.thumb_core.specs.declared.ends.Cause.TheVariants.{NoHandler, CannotUnwind, NoThrow, LeavesCleanup, Unexpected, NothingCaught, PoolFull, Called}
use Rattle.eh_bytecode.specs.declared.frame.Vrs.{Vrs}
use Rattle.eh_phase.specs.Calls.{stack_of}
use Rattle.eh_phase.specs.Frames.{Stack, frames_of, entry_contents_at, outer, site_of}
use Rattle.eh_phase.specs.Phases.{Frame, Frames}
use Rattle.eh_phase.specs.declared.walk.CoveringEntry.{CoveringEntry}
use Rattle.eh_phase.specs.declared.walk.Cursor.{Cursor}
use Rattle.sim_machines.specs.Activations.{Recorded, memory_of, frames_at}
use Rattle.sim_machines.specs.Program.{Program}
use Rattle.eh_walk.specs.Sites.{site_state}
use Rattle.eh_walk.specs.declared.walk.Backtrace.{Backtrace}
use Rattle.eh_walk.specs.declared.walk.WalkEnd.{WalkEnd}
use Rattle.eh_walk.specs.declared.walk.WalkEnd.TheVariants.{Root, NoUnwind, Most, NotSite}
use Rattle.eh_walk.specs.declared.walk.WalkFrame.{WalkFrame}
use Rattle.eh_walk.specs.declared.stands.WalkPlace.{WalkPlace}
use Rattle.eh_walk.specs.declared.stands.WalkPlace.TheVariants.{Nothing, Last, Inside}

-- ---- what is shown

-- of a frame: its site, sp, and r4 to r11
abbrev pub walk_frame_of : ℕ → ℕ → List ℕ → WalkFrame
walk_frame_of site sp r = record {
  site = site;
  sp = sp;
  regs = slice_index r 4 ∷ slice_index r 5 ∷ slice_index r 6 ∷ slice_index r 7 ∷ slice_index r 8 ∷ slice_index r 9 ∷ slice_index r 10 ∷ slice_index r 11 ∷ [];
}

abbrev pub walk_frame : Frame → WalkFrame
walk_frame f = walk_frame_of f.site f.sp f.r

-- why there are no more frames, from the cause that ends them: nobody called the outermost, or another one
abbrev pub end_by : Cause → WalkEnd
end_by NoHandler = Root
end_by CannotUnwind = NoUnwind
end_by NoThrow = NoUnwind
end_by LeavesCleanup = NoUnwind
end_by Unexpected = NoUnwind
end_by NothingCaught = NoUnwind
end_by PoolFull = NoUnwind
end_by Called = NoUnwind

-- ---- a walk

-- at most as many of these frames as asked for, the innermost first; without a site there are none
abbrev pub walk_frames : ℕ → Option Frames → List WalkFrame
walk_frames most None = []
walk_frames most (Some fs) = take most (map walk_frame fs.frames)

-- why there is no further one
abbrev pub end_of_walk : ℕ → Option Frames → WalkEnd
end_of_walk most None = NotSite
end_of_walk most (Some fs) = if nat_lt most (length fs.frames) then Most else end_by fs.last

-- a walk that was asked for at most so many frames
pub record IsWalk (most : ℕ) (o : Option Frames) (t : Backtrace) : Type 0 where
  pub frames : t.frames.items ≡ walk_frames most o
  pub end : t.end ≡ end_of_walk most o

-- ---- the frames of a walk, from the site of a state outwards

-- Over bytes: the frames that the image's tables give for the registers and the memory. A cleanup in progress doesn't end them.
abbrev pub walk_of : Program → Regs → Memory → Option Frames
walk_of p regs m = option_map (λ site. frames_of p.image (stack_of m) None site (all_of regs)) (site_state p regs m)

-- with recorded activations: the first one's own frame, and for each other what the one inside it recorded at its call
abbrev pub recorded_walk : Program → Recorded → Option Frames
recorded_walk p s = option_map (λ site. frames_at p.image None site (all_of s.regs) s.first s.outer) (site_state p s.regs (memory_of s))

-- ---- one step of a walk

abbrev pub walk_frame_at : Cursor → WalkFrame
walk_frame_at at = walk_frame_of at.site (slice_index at.vrs.r 13) at.vrs.r

abbrev pub outside_of : Result Vrs Cause → WalkPlace
outside_of (Ok next) = Inside (record { vrs = next; site = site_of next.r; innermost = false })
outside_of (Err cause) = Last (end_by cause)

abbrev pub stands_by : Stack → Cursor → Option CoveringEntry → WalkPlace
stands_by stack at None = Nothing
stands_by stack at (Some c) = outside_of (outer stack None at.innermost c.codes at.vrs.r)

-- no frame, the last one, or one that has another outside it
unfoldable pub stands_at : Image → Stack → Cursor → WalkPlace
stands_at image stack at = stands_by stack at (entry_contents_at image at.site)
