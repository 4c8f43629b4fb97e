-- What stands at a place, from what the codes of its site give.
use Rattle.std.proofs.Common.{◌≡◌, true, false, refl, ap, Option, Some, None}
use Rattle.std.specs.Prelude.{is_some, slice_index}
use Rattle.elf_image.specs.Image.{Image}
use Rattle.eh_bytecode.specs.declared.frame.Vrs.{Vrs}
use Rattle.eh_phase.specs.declared.walk.CoveringEntry.{CoveringEntry}
use Rattle.eh_phase.specs.declared.walk.Cursor.{Cursor}
use Rattle.eh_phase.specs.Frames.{Stack, entry_contents_at, caller_by, caller_at, check_caller, outer}
use Rattle.eh_walk.specs.declared.walk.WalkEnd.TheVariants.{NoUnwind}
use Rattle.eh_walk.specs.declared.stands.WalkPlace.TheVariants.{Nothing, Last}
use Rattle.eh_walk.specs.Walks.{outside_of, stands_by, stands_at}

module _ (image : Image) (stack : Stack) (at : Cursor) where
  abbrev tested : Option Vrs → Option CoveringEntry → Type 0
  tested o c = caller_by stack.segments at.vrs.r c ≡ o

  last_by : (c : Option CoveringEntry) → tested None c → is_some c ≡ true → stands_by stack at c ≡ Last NoUnwind
  unfolding outer
  last_by None e k = absurd cc
  last_by (Some c) e k = ap (λ (o : Option Vrs). outside_of (check_caller stack.end None at.innermost (slice_index at.vrs.r 13) o)) e

  none_by : (c : Option CoveringEntry) → is_some c ≡ false → stands_by stack at c ≡ Nothing
  none_by None k = refl
  none_by (Some c) k = absurd cc

  some_by : (next : Vrs) (c : Option CoveringEntry) → tested (Some next) c
      → stands_by stack at c ≡ outside_of (check_caller stack.end None at.innermost (slice_index at.vrs.r 13) (Some next))
  unfolding outer
  some_by next None e = absurd cc
  some_by next (Some c) e = ap (λ (o : Option Vrs). outside_of (check_caller stack.end None at.innermost (slice_index at.vrs.r 13) o)) e

  pub stands_last : caller_at image stack.segments at.site at.vrs.r ≡ None → is_some (entry_contents_at image at.site) ≡ true → stands_at image stack at ≡ Last NoUnwind
  unfolding stands_at
  stands_last e k = last_by (entry_contents_at image at.site) e k

  pub stands_nothing : is_some (entry_contents_at image at.site) ≡ false → stands_at image stack at ≡ Nothing
  unfolding stands_at
  stands_nothing k = none_by (entry_contents_at image at.site) k

  pub stands_outside : (next : Vrs) → caller_at image stack.segments at.site at.vrs.r ≡ Some next
      → stands_at image stack at ≡ outside_of (check_caller stack.end None at.innermost (slice_index at.vrs.r 13) (Some next))
  unfolding stands_at
  stands_outside next e = some_by next (entry_contents_at image at.site) e
