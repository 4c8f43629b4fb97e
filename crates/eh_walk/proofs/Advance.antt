-- How far a walk has come, and what it gives where it ends.
use Rattle.std.proofs.Common.{◌≡◌, ℕ, ◌+◌, ◌<◌, ◌≤◌, Bool, true, false, cond, List, [], ◌∷◌, ◌++◌, length, take, refl, sym, ap, subst, ◌∙◌, Some, None, Result, Ok, Err, arith, length-append, append_assoc}
use Rattle.std.specs.Prelude.{is_some, IfOk}
use Rattle.std.proofs.lemmas.Bool.{lt-ltb, le-ltb}
use Rattle.std.proofs.lemmas.List.{take_all, take-append-le, length-map, append-nil}
use Rattle.eh_bus.specs.declared.map.TheConstants.{STACK_END}
use Rattle.elf_image.specs.Image.{Image}
use Rattle.thumb_core.specs.declared.ends.Cause.TheVariants.{CannotUnwind}
use Rattle.eh_bytecode.specs.declared.frame.Vrs.{Vrs}
use Rattle.eh_phase.specs.declared.walk.Cursor.{Cursor}
use Rattle.eh_phase.specs.Phases.{Frames}
use Rattle.eh_phase.specs.Frames.{Stack, entry_contents_at, end_of_frames, frames_of}
use Rattle.eh_walk.specs.declared.walk.Backtrace.{Backtrace}
use Rattle.eh_walk.specs.declared.walk.WalkEnd.{WalkEnd}
use Rattle.eh_walk.specs.declared.walk.WalkEnd.TheVariants.{NoUnwind, Most}
use Rattle.eh_walk.specs.declared.walk.WalkFrame.{WalkFrame}
use Rattle.eh_walk.specs.declared.walk.WalkMemory.{WalkMemory}
use Rattle.eh_walk.specs.declared.stands.WalkPlace.TheVariants.{Nothing, Last, Inside}
use Rattle.eh_walk.specs.Walks.{walk_frame, end_by, walk_frame_at, IsWalk, stands_at}
use Rattle.eh_walk.proofs.Places.{frames_from, all_shown, nothing_stands, last_stands, inside_stands, more_stands, none_stands}

-- ---- what is given

-- all frames are
given : (most : ℕ) (fs : Frames) (t : Backtrace) → all_shown fs ≡ t.frames.items → length t.frames.items ≤ most → end_by fs.last ≡ t.end → IsWalk most (Some fs) t
given most fs t e few ends =
    let count : length fs.frames ≡ length t.frames.items = sym (length-map fs.frames walk_frame) ∙ ap length e in
    record {
      frames = sym (take_all most t.frames.items few) ∙ ap (take most) (sym e);
      end = subst (λ (b : Bool). t.end ≡ cond b Most (end_by fs.last)) (sym (le-ltb most (length fs.frames) (omega (arith, count, few)))) (sym ends);
    }

longer : (n : ℕ) (rest : List WalkFrame) (x : WalkFrame) → n < n + length (x ∷ rest)
longer n rest x = omega arith

-- a further one stands there
given_most : (most : ℕ) (fs : Frames) (t : Backtrace) (x : WalkFrame) (rest : List WalkFrame) → all_shown fs ≡ t.frames.items ++ (x ∷ rest) → length t.frames.items ≡ most → t.end ≡ Most → IsWalk most (Some fs) t
given_most most fs t x rest e full ends =
    let count : length fs.frames ≡ length t.frames.items + length (x ∷ rest) = sym (length-map fs.frames walk_frame) ∙ ap length e ∙ length-append t.frames.items (x ∷ rest) in
    let more : length t.frames.items < length fs.frames = rw count (longer (length t.frames.items) rest x) in
    record {
      frames = sym (take_all most t.frames.items (omega (arith, full))) ∙ sym (take-append-le most t.frames.items (x ∷ rest) (omega (arith, full))) ∙ ap (take most) (sym e);
      end = subst (λ (b : Bool). t.end ≡ cond b Most (end_by fs.last)) (sym (lt-ltb most (length fs.frames) (omega (arith, more, full)))) ends;
    }

-- ---- how far it has come: to a place, with what is shown of the frames inside it

pub record Walked (image : Image) (stack : Stack) (most : ℕ) (whole : Frames) (at : Cursor) (items : List WalkFrame) : Type 0 where
  pub frames : all_shown whole ≡ items ++ all_shown (frames_from image stack at)
  pub last : whole.last ≡ (frames_from image stack at).last
  pub few : length items ≤ most

pub begins : (image : Image) (stack : Stack) (most : ℕ) (at : Cursor) → Walked image stack most (frames_from image stack at) at []
begins image stack most at = record { frames = refl; last = refl; few = omega arith }

pub begins_at : (image : Image) (stack : Stack) (most site : ℕ) (r : List ℕ) (vrs : Vrs) → vrs.r ≡ r
    → Walked image stack most (frames_of image stack None site r) (record { vrs = vrs; site = site; innermost = true }) []
begins_at image stack most site r vrs e =
    subst (λ (q : List ℕ). Walked image stack most (frames_of image stack None site q) (record { vrs = vrs; site = site; innermost = true }) []) e
    (begins image stack most (record { vrs = vrs; site = site; innermost = true }))

module _ (image : Image) (stack : Stack) (low : stack.end ≤ STACK_END) (most : ℕ) (whole : Frames) (at : Cursor) (items : List WalkFrame) (w : Walked image stack most whole at items) where
  pub goes_on : (next : Cursor) → length items < most → stands_at image stack at ≡ Inside next → Walked image stack most whole next (items ++ (walk_frame_at at ∷ []))
  goes_on next room e =
      let n = inside_stands image stack at low next e in
      record {
        frames = w.frames ∙ ap (λ fs. items ++ fs) n.0 ∙ sym (append_assoc items (walk_frame_at at ∷ []) (all_shown (frames_from image stack next)));
        last = w.last ∙ n.1;
        few = let l = length-append items (walk_frame_at at ∷ []) in omega (arith, l, room);
      }

  module _ (t : Backtrace) where
    -- no frame stands at the place
    pub no_further : frames_from image stack at ≡ end_of_frames CannotUnwind → t.frames.items ≡ items → t.end ≡ NoUnwind → IsWalk most (Some whole) t
    no_further e same ends =
        let all : all_shown whole ≡ items = w.frames ∙ ap (λ fs. items ++ all_shown fs) e ∙ append-nil items in
        given most whole t (all ∙ sym same) (subst (λ fs. length fs ≤ most) (sym same) w.few) (ap end_by (w.last ∙ ap (λ (fs : Frames). fs.last) e) ∙ sym ends)

    pub nothing_ends : stands_at image stack at ≡ Nothing → t.frames.items ≡ items → t.end ≡ NoUnwind → IsWalk most (Some whole) t
    nothing_ends e = no_further (nothing_stands image stack at low e)

    pub uncovered_ends : is_some (entry_contents_at image at.site) ≡ false → t.frames.items ≡ items → t.end ≡ NoUnwind → IsWalk most (Some whole) t
    uncovered_ends e = no_further (none_stands image stack at low e)

    -- the last frame does
    pub last_ends : (end : WalkEnd) → length items < most → stands_at image stack at ≡ Last end → t.frames.items ≡ items ++ (walk_frame_at at ∷ []) → t.end ≡ end → IsWalk most (Some whole) t
    last_ends end room e same ends =
        let n = last_stands image stack at low end e in
        let l = length-append items (walk_frame_at at ∷ []) in
        given most whole t (w.frames ∙ ap (λ fs. items ++ fs) n.0 ∙ sym same) (subst (λ fs. length fs ≤ most) (sym same) (omega (arith, l, room))) (ap end_by w.last ∙ n.1 ∙ sym ends)

    -- one does, and as many as were asked for are given
    pub most_ends : is_some (entry_contents_at image at.site) ≡ true → length items ≡ most → t.frames.items ≡ items → t.end ≡ Most → IsWalk most (Some whole) t
    most_ends e full same ends =
        let n = more_stands image stack at low e in
        given_most most whole t (walk_frame_at at) n.0 (w.frames ∙ ap (λ fs. items ++ fs) n.1 ∙ ap (λ fs. fs ++ (walk_frame_at at ∷ n.0)) (sym same)) (ap length same ∙ full) ends

  -- the same of a call that puts it after the others
  pub last_given : (r : Result Backtrace WalkMemory) (end : WalkEnd) → length items < most → stands_at image stack at ≡ Last end
      → IfOk r (λ w. w.frames.items ≡ items ++ (walk_frame_at at ∷ [])) → IfOk r (λ w. w.end ≡ end) → IfOk r (λ w. IsWalk most (Some whole) w)
  last_given (Ok t) end room e same ends = last_ends t end room e same ends
  last_given (Err why) end room e same ends = tt
