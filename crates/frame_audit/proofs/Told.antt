-- What the words of an image tell of an audit.
use Rattle.std.proofs.Common.{◌≡◌, ℕ, ◌+◌, ◌<◌, zero, suc, List, [], ◌∷◌, length, get_or, Bool, true, false, Some, None, refl, ap, ◌∙◌, arith}
use Rattle.std.specs.Prelude.{◌&&◌, if◌then◌else◌}
use Rattle.std.specs.Option.{is_none}
use Rattle.std.specs.List.{position_from}
use Rattle.eh_codes.specs.declared.row.Entry.{Entry}
use Rattle.eh_codes.specs.declared.row.EntryBody.TheVariants.{CantUnwind as NoUnwinding}
use Rattle.eh_bytecode.specs.declared.recipe.Recipe.{Recipe}
use Rattle.eh_index.specs.Covering.{covering}
use Rattle.eh_index.specs.Rows.{entries_of}
use Rattle.elf_image.specs.Functions.{Function, is_inside}
use Rattle.elf_image.specs.Image.{Image, is_code_in, function_at}
use Rattle.frame_entries.specs.declared.unwinding.EntrySummary.TheVariants.{Finds}
use Rattle.frame_graph.specs.Sites.{unwinding_at}
use Rattle.frame_check.specs.Roots.{flow_graph_of}
use Rattle.frame_audit.specs.Laws.{UnwindingIsTold, StrayIsOutside}
use Rattle.frame_audit.specs.Listing.{can_unwind}

uncovered : (image : Image) (f : Function) → covering (entries_of image) f.start ≡ None → can_unwind image f ≡ false
unfolding unwinding_at
uncovered image f e = rw e refl

barred : (image : Image) (f : Function) (e : Entry) → covering (entries_of image) f.start ≡ Some e → e.body ≡ NoUnwinding → can_unwind image f ≡ false
unfolding unwinding_at
barred image f e is body = rw (is, body) refl

found : (image : Image) (f : Function) (r : Recipe) → unwinding_at (flow_graph_of image f) f.start ≡ Finds r → can_unwind image f ≡ true
found image f r e = rw e refl

pub unwinding_told : UnwindingIsTold
unwinding_told = record { uncovered = uncovered; barred = barred; found = found }

-- ---- code in no function

found_in : {X : Type 0} (p : X → Bool) (i : ℕ) (xs : List X) (k : ℕ) (x : X) → k < length xs → get_or xs k x ≡ x → p x ≡ true → is_none (position_from p i xs) ≡ false
found_in p i [] k x l e t = absurd (omega (arith, l))
found_in p i (y ∷ ys) zero x l e t = let passes : p y ≡ true = ap p e ∙ t in rw passes refl
found_in p i (y ∷ ys) (suc k) x l e t = go (p y) (found_in p (i + 1) ys k x (omega (arith, l)) e t)
  where
    go : (b : Bool) → is_none (position_from p (i + 1) ys) ≡ false → is_none (if b then Some i else position_from p (i + 1) ys) ≡ false
    go true r = refl
    go false r = r

and_none : (b c : Bool) → c ≡ false → (b && c) ≡ false
and_none true c e = e
and_none false c e = refl

pub stray_outside : StrayIsOutside
stray_outside image f a c inside = and_none (is_code_in image a) (is_none (function_at image a)) (found_in (is_inside a) 0 image.functions c.0 f c.1 c.2 inside)
