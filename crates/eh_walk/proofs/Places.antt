-- What stands at a place of a walk is the first of the frames from there, and after it come those from the next place.
use Rattle.std.proofs.Common.{◌≡◌, ℕ, ◌≤◌, true, false, List, [], ◌∷◌, map, refl, sym, ap, subst, ◌∙◌, Option, Some, None, Result, Ok, Err}
use Rattle.std.specs.Prelude.{is_some}
use Rattle.eh_bus.specs.declared.map.TheConstants.{STACK_END}
use Rattle.elf_image.specs.Image.{Image}
use Rattle.thumb_core.specs.declared.ends.Cause.{Cause}
use Rattle.thumb_core.specs.declared.ends.Cause.TheVariants.{CannotUnwind}
use Rattle.eh_bytecode.specs.declared.frame.Vrs.{Vrs}
use Rattle.eh_phase.specs.declared.walk.CoveringEntry.{CoveringEntry}
use Rattle.eh_phase.specs.declared.walk.Cursor.{Cursor}
use Rattle.eh_phase.specs.Phases.{Frames}
use Rattle.eh_phase.specs.Frames.{Stack, MOST_FRAMES, frames_in, entry_contents_at, outer, site_of, frame_of, frames_of_caller, frames_of_entry, frame_and_outer, end_of_frames}
use Rattle.eh_phase.proofs.Whole.{frames_are_whole}
use Rattle.eh_walk.specs.declared.walk.WalkEnd.{WalkEnd}
use Rattle.eh_walk.specs.declared.walk.WalkEnd.TheVariants.{NoUnwind}
use Rattle.eh_walk.specs.declared.walk.WalkFrame.{WalkFrame}
use Rattle.eh_walk.specs.declared.stands.WalkPlace.{WalkPlace}
use Rattle.eh_walk.specs.declared.stands.WalkPlace.TheVariants.{Nothing, Last, Inside}
use Rattle.eh_walk.specs.Walks.{walk_frame, end_by, walk_frame_at, outside_of, stands_by, stands_at}

-- the frames from a place on
abbrev pub frames_from : Image → Stack → Cursor → Frames
frames_from image stack at = frames_in MOST_FRAMES image stack None at.innermost at.site at.vrs.r

-- what is shown of them
abbrev pub all_shown : Frames → List WalkFrame
all_shown fs = map walk_frame fs.frames

module _ (image : Image) (stack : Stack) where
  abbrev further : List ℕ → Frames
  further new = frames_in MOST_FRAMES image stack None false (site_of new) new

  module _ (at : Cursor) where
    abbrev by_cover : Option CoveringEntry → Frames
    by_cover o = frames_of_entry further stack None at.innermost at.site at.vrs.r o

    -- ---- no frame

    not_nothing : (o : Result Vrs Cause) → outside_of o ≡ Nothing → ⊥
    not_nothing (Ok next) e = cc
    not_nothing (Err cause) e = cc

    nothing_by : (o : Option CoveringEntry) → stands_by stack at o ≡ Nothing → by_cover o ≡ end_of_frames CannotUnwind
    nothing_by None e = refl
    nothing_by (Some c) e = absurd (not_nothing (outer stack None at.innermost c.codes at.vrs.r) e)

    -- ---- the last one

    end_in : WalkPlace → WalkEnd
    end_in Nothing = NoUnwind
    end_in (Last end) = end
    end_in (Inside next) = NoUnwind

    IsLast : Frames → WalkEnd → Type 0
    IsLast fs end = (all_shown fs ≡ walk_frame_at at ∷ []) × (end_by fs.last ≡ end)

    last_outside : (c : CoveringEntry) (o : Result Vrs Cause) (end : WalkEnd) → outside_of o ≡ Last end → IsLast (frame_and_outer (frame_of at.site at.vrs.r c) (frames_of_caller further o)) end
    unfolding IsLast end_in
    last_outside c (Ok next) end e = absurd cc
    last_outside c (Err cause) end e = (refl, ap end_in e)

    last_by : (o : Option CoveringEntry) (end : WalkEnd) → stands_by stack at o ≡ Last end → IsLast (by_cover o) end
    last_by None end e = absurd cc
    last_by (Some c) end e = last_outside c (outer stack None at.innermost c.codes at.vrs.r) end e

    -- ---- one inside another

    next_in : Cursor → WalkPlace → Cursor
    next_in other Nothing = other
    next_in other (Last end) = other
    next_in other (Inside next) = next

    GoesOn : Frames → Cursor → Type 0
    GoesOn fs next = (all_shown fs ≡ walk_frame_at at ∷ all_shown (frames_from image stack next)) × (fs.last ≡ (frames_from image stack next).last)

    inside_outside : (c : CoveringEntry) (o : Result Vrs Cause) (next : Cursor) → outside_of o ≡ Inside next → GoesOn (frame_and_outer (frame_of at.site at.vrs.r c) (frames_of_caller further o)) next
    unfolding GoesOn next_in
    inside_outside c (Ok vrs) next e =
        let same : record { vrs = vrs; site = site_of vrs.r; innermost = false } ≡ next = ap (next_in next) e in
        subst (GoesOn (frame_and_outer (frame_of at.site at.vrs.r c) (further vrs.r))) same (refl, refl)
    inside_outside c (Err cause) next e = absurd cc

    inside_by : (o : Option CoveringEntry) (next : Cursor) → stands_by stack at o ≡ Inside next → GoesOn (by_cover o) next
    inside_by None next e = absurd cc
    inside_by (Some c) next e = inside_outside c (outer stack None at.innermost c.codes at.vrs.r) next e

    -- ---- whether one stands there

    HasMore : Frames → Type 0
    HasMore fs = (rest : List WalkFrame) × (all_shown fs ≡ walk_frame_at at ∷ rest)

    more_by : (o : Option CoveringEntry) → is_some o ≡ true → HasMore (by_cover o)
    unfolding HasMore
    more_by None e = absurd cc
    more_by (Some c) e = (all_shown (frames_of_caller further (outer stack None at.innermost c.codes at.vrs.r)), refl)

    none_by : (o : Option CoveringEntry) → is_some o ≡ false → by_cover o ≡ end_of_frames CannotUnwind
    none_by None e = refl
    none_by (Some c) e = absurd cc

    -- ---- of a stack whose end is no higher than that of all stacks

    module _ (low : stack.end ≤ STACK_END) where
      whole : frames_from image stack at ≡ by_cover (entry_contents_at image at.site)
      whole = frames_are_whole image stack None at.innermost at.site at.vrs.r low

      pub nothing_stands : stands_at image stack at ≡ Nothing → frames_from image stack at ≡ end_of_frames CannotUnwind
      unfolding stands_at
      nothing_stands e = whole ∙ nothing_by (entry_contents_at image at.site) e

      pub last_stands : (end : WalkEnd) → stands_at image stack at ≡ Last end → (all_shown (frames_from image stack at) ≡ walk_frame_at at ∷ []) × (end_by (frames_from image stack at).last ≡ end)
      unfolding stands_at IsLast
      last_stands end e = subst (λ fs. IsLast fs end) (sym whole) (last_by (entry_contents_at image at.site) end e)

      pub inside_stands : (next : Cursor) → stands_at image stack at ≡ Inside next
          → (all_shown (frames_from image stack at) ≡ walk_frame_at at ∷ all_shown (frames_from image stack next)) × ((frames_from image stack at).last ≡ (frames_from image stack next).last)
      unfolding stands_at GoesOn
      inside_stands next e = subst (λ fs. GoesOn fs next) (sym whole) (inside_by (entry_contents_at image at.site) next e)

      pub more_stands : is_some (entry_contents_at image at.site) ≡ true → (rest : List WalkFrame) × (all_shown (frames_from image stack at) ≡ walk_frame_at at ∷ rest)
      unfolding HasMore
      more_stands e = subst HasMore (sym whole) (more_by (entry_contents_at image at.site) e)

      pub none_stands : is_some (entry_contents_at image at.site) ≡ false → frames_from image stack at ≡ end_of_frames CannotUnwind
      none_stands e = whole ∙ none_by (entry_contents_at image at.site) e
