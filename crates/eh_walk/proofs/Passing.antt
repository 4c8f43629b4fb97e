-- The way to the frame of a number, place by place.
use Rattle.std.proofs.Common.{◌≡◌, ℕ, zero, suc, ◌-◌, ◌<◌, ◌≤◌, ◌||◌, Bool, true, false, cond, List, [], ◌∷◌, take, drop, slice_index, refl, sym, ap, ◌∙◌, Option, Some, None, Result, Ok, Err, arith}
use Rattle.std.specs.Prelude.{is_some, option_map}
use Rattle.std.specs.List.{list_any}
use Rattle.std.proofs.Math.Bool.{or-false, or_assoc}
use Rattle.std.proofs.Math.Seq.{drop-nil}
use Rattle.std.proofs.lemmas.Option.{same_Some, none-some}
use Rattle.eh_bus.specs.declared.map.TheConstants.{STACK_END}
use Rattle.elf_image.specs.Image.{Image}
use Rattle.eh_codes.specs.declared.row.Entry.{Entry}
use Rattle.eh_index.specs.Covering.{covering}
use Rattle.eh_index.specs.Places.{table_of}
use Rattle.eh_index.specs.Rows.{entries_of}
use Rattle.thumb_core.specs.declared.ends.Cause.{Cause}
use Rattle.eh_bytecode.specs.declared.frame.Vrs.{Vrs}
use Rattle.eh_desc.specs.declared.descriptor.Desc.{Desc}
use Rattle.eh_desc.specs.declared.descriptor.DescFault.{DescFault}
use Rattle.eh_phase.specs.Calls.{frame_at}
use Rattle.eh_phase.specs.Firsts.{first_some}
use Rattle.eh_phase.specs.Frames.{Stack, MOST_FRAMES, frames_in, frames_of, codes_of, with_items, entry_contents, entry_contents_at, outer, site_of, is_above, frame_of, frames_of_caller, frames_of_entry, frame_and_outer}
use Rattle.eh_phase.specs.Phases.{Frame, Frames}
use Rattle.eh_phase.specs.declared.walk.CoveringEntry.{CoveringEntry}
use Rattle.eh_phase.specs.declared.walk.Cursor.{Cursor}
use Rattle.eh_phase.proofs.Whole.{frames_are_whole}
use Rattle.eh_walk.specs.declared.walk.WalkEnd.{WalkEnd}
use Rattle.eh_walk.specs.declared.stands.WalkPlace.{WalkPlace}
use Rattle.eh_walk.specs.declared.stands.WalkPlace.TheVariants.{Nothing, Last, Inside}
use Rattle.eh_walk.specs.declared.stopping.ForceFault.{ForceFault}
use Rattle.eh_walk.specs.declared.stopping.ForceFault.TheVariants.{NoFrame, InsideCleanup}
use Rattle.eh_walk.specs.declared.stopping.StopFrame.{StopFrame}
use Rattle.eh_walk.specs.Stops.{stop_by, fault_of, is_unreadable, stop_or_fault, stop_among, stop_at, items_by, items_at, stop_here}
use Rattle.eh_walk.specs.Walks.{outside_of, stands_by, stands_at}
use Rattle.eh_walk.proofs.Places.{frames_from, nothing_stands}

-- ---- the descriptors of a frame are those of its site

covered_items : (image : Image) (site : ℕ) (c : CoveringEntry) → entry_contents_at image site ≡ Some c → items_at image site ≡ c.descs
unfolding entry_contents_at items_at
covered_items image site c e = go (covering (entries_of image) site) e
  where
    some : (x : Entry) (o : Option (List ℕ)) → option_map (with_items x (table_of image x)) o ≡ Some c → items_by image (Some x) ≡ c.descs
    some x None e = absurd (none-some c e)
    some x (Some codes) e = ap (λ (d : CoveringEntry). d.descs) (same_Some (with_items x (table_of image x) codes) c e)

    go : (o : Option Entry) → entry_contents image o ≡ Some c → items_by image o ≡ c.descs
    go None e = absurd (none-some c e)
    go (Some x) e = some x (codes_of x.body (table_of image x)) e

module _ (image : Image) (stack : Stack) (at : Cursor) (low : stack.end ≤ STACK_END) where
  abbrev further : List ℕ → Frames
  further new = frames_in MOST_FRAMES image stack None false (site_of new) new

  whole : frames_from image stack at ≡ frames_of_entry further stack None at.innermost at.site at.vrs.r (entry_contents_at image at.site)
  whole = frames_are_whole image stack None at.innermost at.site at.vrs.r low

  -- ---- a frame with one outside it

  pub record Framed (next : Cursor) : Type 0 where
    pub covered : CoveringEntry
    pub covers : entry_contents_at image at.site ≡ Some covered
    pub frames : frames_from image stack at ≡ frame_and_outer (frame_of at.site at.vrs.r covered) (frames_from image stack next)

  next_in : Cursor → WalkPlace → Cursor
  next_in other Nothing = other
  next_in other (Last end) = other
  next_in other (Inside next) = next

  pub framed_inside : (next : Cursor) → stands_at image stack at ≡ Inside next → Framed next
  unfolding stands_at next_in
  framed_inside next e = go (entry_contents_at image at.site) refl e
    where
      by_outer : (c : CoveringEntry) → entry_contents_at image at.site ≡ Some c → (r : Result Vrs Cause) → outer stack None at.innermost c.codes at.vrs.r ≡ r → outside_of r ≡ Inside next → Framed next
      by_outer c q (Err cause) o e = absurd cc
      by_outer c q (Ok vrs) o e =
          let same : record { vrs = vrs; site = site_of vrs.r; innermost = false } ≡ next = ap (next_in next) e in
          record {
            covered = c;
            covers = q;
            frames =
                whole ∙ ap (λ (v : Option CoveringEntry). frames_of_entry further stack None at.innermost at.site at.vrs.r v) q
                ∙ ap (λ (w : Result Vrs Cause). frame_and_outer (frame_of at.site at.vrs.r c) (frames_of_caller further w)) o
                ∙ ap (λ (n : Cursor). frame_and_outer (frame_of at.site at.vrs.r c) (frames_from image stack n)) same;
          }

      go : (o : Option CoveringEntry) → entry_contents_at image at.site ≡ o → stands_by stack at o ≡ Inside next → Framed next
      go None q e = absurd cc
      go (Some c) q e = by_outer c q (outer stack None at.innermost c.codes at.vrs.r) refl e

  -- ---- the last one

  framed_last : (end : WalkEnd) → stands_at image stack at ≡ Last end → (f : Frame) × ((frames_from image stack at).frames ≡ f ∷ [])
  unfolding stands_at
  framed_last end e = go (entry_contents_at image at.site) refl e
    where
      by_outer : (c : CoveringEntry) → entry_contents_at image at.site ≡ Some c → (r : Result Vrs Cause) → outer stack None at.innermost c.codes at.vrs.r ≡ r → outside_of r ≡ Last end
          → (f : Frame) × ((frames_from image stack at).frames ≡ f ∷ [])
      by_outer c q (Ok vrs) o e = absurd cc
      by_outer c q (Err cause) o e = (
        frame_of at.site at.vrs.r c,
        ap (λ (fs : Frames). fs.frames)
            (whole ∙ ap (λ (v : Option CoveringEntry). frames_of_entry further stack None at.innermost at.site at.vrs.r v) q
            ∙ ap (λ (w : Result Vrs Cause). frame_and_outer (frame_of at.site at.vrs.r c) (frames_of_caller further w)) o),
      )

      go : (o : Option CoveringEntry) → entry_contents_at image at.site ≡ o → stands_by stack at o ≡ Last end → (f : Frame) × ((frames_from image stack at).frames ≡ f ∷ [])
      go None q e = absurd cc
      go (Some c) q e = by_outer c q (outer stack None at.innermost c.codes at.vrs.r) refl e

  -- ---- how far it has come

  module _ (limit : Option ℕ) (holds : Bool) where
    -- what is found from a place on, with so many frames still to pass
    abbrev pub found_from : Bool → ℕ → Result StopFrame ForceFault
    found_from faulty n =
        stop_among limit (faulty || list_any is_unreadable (take n (frames_from image stack at).frames)) holds (drop n (frames_from image stack at).frames)

    nothing_found : (faulty : Bool) (n : ℕ) → stands_at image stack at ≡ Nothing → found_from faulty n ≡ Err NoFrame
    nothing_found faulty n e =
        ap (λ (fs : List Frame). stop_among limit (faulty || list_any is_unreadable (take n fs)) holds (drop n fs)) (ap (λ (fs : Frames). fs.frames) (nothing_stands image stack at low e))
        ∙ ap (λ (fs : List Frame). stop_among limit (faulty || list_any is_unreadable (take n [])) holds fs) (drop-nil n)

    pub nothing_is_found : (faulty : Bool) (n : ℕ) (answer : Result StopFrame ForceFault) → stands_at image stack at ≡ Nothing → found_from faulty n ≡ answer → Err NoFrame ≡ answer
    nothing_is_found faulty n answer e w = sym (nothing_found faulty n e) ∙ w

    past_last : (faulty : Bool) (m : ℕ) (end : WalkEnd) → stands_at image stack at ≡ Last end → found_from faulty (suc m) ≡ Err NoFrame
    past_last faulty m end e =
        let l = framed_last end e in
        ap (λ (fs : List Frame). stop_among limit (faulty || list_any is_unreadable (take (suc m) fs)) holds (drop (suc m) fs)) l.1
        ∙ ap (λ (fs : List Frame). stop_among limit (faulty || list_any is_unreadable (take (suc m) (l.0 ∷ []))) holds fs) (drop-nil m)

    pub last_is_found : (faulty : Bool) (n : ℕ) (answer : Result StopFrame ForceFault) (end : WalkEnd) → 0 < n → stands_at image stack at ≡ Last end → found_from faulty n ≡ answer → Err NoFrame ≡ answer
    last_is_found faulty zero answer end h e w = absurd (omega (arith, h))
    last_is_found faulty (suc m) answer end h e w = sym (past_last faulty m end e) ∙ w

    -- ---- there

    here_by : (faulty : Bool) (o : Option CoveringEntry) → entry_contents_at image at.site ≡ o
        → stop_among limit faulty holds (frames_of_entry further stack None at.innermost at.site at.vrs.r o).frames
        ≡ cond (is_some o) (cond (is_above limit (slice_index at.vrs.r 13)) (Err InsideCleanup) (stop_or_fault faulty holds (first_some (stop_by (frame_at at)) (items_at image at.site)))) (Err NoFrame)
    here_by faulty None e = refl
    here_by faulty (Some c) e =
        ap (λ (items : List (Result Desc DescFault)). cond (is_above limit (slice_index at.vrs.r 13)) (Err InsideCleanup) (stop_or_fault faulty holds (first_some (stop_by (frame_at at)) items)))
        (sym (covered_items image at.site c e))

    found_here : (faulty : Bool) → found_from faulty 0 ≡ stop_here image limit faulty holds at
    found_here faulty =
        ap (λ (b : Bool). stop_among limit b holds (frames_from image stack at).frames) (or-false faulty)
        ∙ ap (λ (fs : Frames). stop_among limit faulty holds fs.frames) whole
        ∙ here_by faulty (entry_contents_at image at.site) refl

    pub is_found_here : (faulty : Bool) (n : ℕ) (answer : Result StopFrame ForceFault) → n ≡ 0 → found_from faulty n ≡ answer → stop_here image limit faulty holds at ≡ answer
    is_found_here faulty n answer e w = sym (found_here faulty) ∙ sym (ap (found_from faulty) e) ∙ w

-- ---- on to the next place

module _ (image : Image) (stack : Stack) (low : stack.end ≤ STACK_END) (limit : Option ℕ) (holds : Bool) where
  abbrev pub found_at : Cursor → Bool → ℕ → Result StopFrame ForceFault
  found_at at faulty n = found_from image stack at low limit holds faulty n

  passes : (at next : Cursor) (faulty : Bool) (m : ℕ) (f : Framed image stack at low next)
      → found_at at faulty (suc m) ≡ found_at next (faulty || is_some (first_some fault_of (items_at image at.site))) m
  passes at next faulty m f =
      let one = frame_of at.site at.vrs.r f.covered in
      let rest = (frames_from image stack next).frames in
      ap (λ (fs : Frames). stop_among limit (faulty || list_any is_unreadable (take (suc m) fs.frames)) holds (drop (suc m) fs.frames)) f.frames
      ∙ ap (λ (b : Bool). stop_among limit b holds (drop m rest)) (sym (or_assoc faulty (is_unreadable one) (list_any is_unreadable (take m rest))))
      ∙ ap (λ (items : List (Result Desc DescFault)). stop_among limit ((faulty || is_some (first_some fault_of items)) || list_any is_unreadable (take m rest)) holds (drop m rest))
      (sym (covered_items image at.site f.covered f.covers))

  by_number : (at next : Cursor) (faulty : Bool) (n : ℕ) (answer : Result StopFrame ForceFault) → 0 < n → stands_at image stack at ≡ Inside next
      → found_at at faulty n ≡ answer → found_at next (faulty || is_some (first_some fault_of (items_at image at.site))) (n - 1) ≡ answer
  by_number at next faulty zero answer h e w = absurd (omega (arith, h))
  by_number at next faulty (suc m) answer h e w =
      let less : suc m - 1 ≡ m = omega arith in
      ap (found_at next (faulty || is_some (first_some fault_of (items_at image at.site)))) less
      ∙ sym (passes at next faulty m (framed_inside image stack at low next e)) ∙ w

  pub goes_further : (at next : Cursor) (faulty new : Bool) (n : ℕ) (answer : Result StopFrame ForceFault) → 0 < n → stands_at image stack at ≡ Inside next
      → new ≡ (faulty || is_some (first_some fault_of (items_at image at.site))) → found_at at faulty n ≡ answer → found_at next new (n - 1) ≡ answer
  goes_further at next faulty new n answer h e q w = ap (λ (b : Bool). found_at next b (n - 1)) q ∙ by_number at next faulty n answer h e w

  -- the first place
  pub begins : (site number : ℕ) (r : List ℕ) (vrs : Vrs) → vrs.r ≡ r
      → found_at (record { vrs = vrs; site = site; innermost = true }) false number ≡ stop_at limit holds number (frames_of image stack None site r).frames
  begins site number r vrs e = ap (λ (q : List ℕ). stop_at limit holds number (frames_of image stack None site q).frames) e
