-- Where a search ends by an object that can't be read, no word can be loaded at the address that it names.
use Rattle.std.proofs.Common.{◌≡◌, ℕ, zero, suc, ◌==◌, ◌&&◌, ◌||◌, Bool, true, false, cond, List, [], ◌∷◌, map, find, Option, Some, None, unwrap_or, Result, Ok, Err, refl, sym, subst, ◌∙◌}
use Rattle.std.specs.Prelude.{option_map}
use Rattle.eh_bus.specs.Segment.{Segment}
use Rattle.eh_bus.specs.Memory.{load_number}
use Rattle.eh_bus.specs.declared.fault.BusFault.{BusFault}
use Rattle.elf_image.specs.Image.{Image}
use Rattle.eh_types.specs.declared.kind.Base.{Base}
use Rattle.eh_types.specs.declared.kind.TypeKind.{TypeKind}
use Rattle.eh_types.specs.declared.kind.TypeKind.TheVariants.{Other, Fundamental, Class, Si, Vmi, Pointer}
use Rattle.eh_types.specs.Graph.{Row, kind_of, same_type}
use Rattle.eh_match.specs.Address.{or_address, load_or_address, plus_distance, by_vtable, address_after_step, address}
use Rattle.eh_match.specs.Paths.{at_offset}
use Rattle.eh_match.specs.Subobjects.{chosen}
use Rattle.eh_match.specs.declared.rules.Match.{Match}
use Rattle.eh_match.specs.declared.rules.Match.TheVariants.{Failed, Object, PointerToBase, Unreadable}
use Rattle.eh_match.specs.Rules.{is_class_type, is_void, is_function, pointer_of, object_at, pointer_at, base_at, pointee_match, loses_qualifier, adds_promise, pointer_match, match_of}
use Rattle.eh_desc.specs.declared.descriptor.CatchType.{CatchType}
use Rattle.eh_desc.specs.declared.descriptor.CatchType.TheVariants.{All, AllFails, One}
use Rattle.eh_desc.specs.declared.descriptor.DescKind.{DescKind}
use Rattle.eh_desc.specs.declared.descriptor.DescKind.TheVariants.{Cleanup, Catch, Spec}
use Rattle.eh_desc.specs.declared.descriptor.Desc.{Desc}
use Rattle.eh_desc.specs.declared.descriptor.DescFault.{DescFault}
use Rattle.eh_phase.specs.declared.verdict.Thrown.{Thrown}
use Rattle.eh_phase.specs.declared.verdict.Verdict.{Verdict}
use Rattle.eh_phase.specs.declared.verdict.Verdict.TheVariants as says
use Rattle.eh_phase.specs.declared.phase1.Found.{Found}
use Rattle.eh_phase.specs.declared.phase1.Found.TheVariants as found
use Rattle.eh_phase.specs.Firsts.{or_else, first_some}
use Rattle.eh_phase.specs.Verdict.{Meeting, is_hit, first_hit, unless_named, by_match, catch_says, desc_verdict_by, in_scope, heard, verdict_of}
use Rattle.eh_phase.specs.Phases.{Frame, Frames, verdict_result, frame_result, phase1}
use Rattle.eh_phase.specs.Calls.{meeting}

either : {A : Type 0} (P : A → Type 0) (b : Bool) (x y : A) → P x → P y → P (cond b x y)
either P true x y px py = px
either P false x y px py = py

-- the first of some that is any has what all of them have
next : {B : Type 0} (P : Option B → Type 0) (o more : Option B) → P o → P more → P (or_else o more)
next P (Some y) more h k = h
next P None more h k = k

first_has : {A B : Type 0} (P : Option B → Type 0) → P None → (f : A → Option B) → ((x : A) → P (f x)) → (xs : List A) → P (first_some f xs)
unfolding first_some
first_has P none f all [] = none
first_has P none f all (x ∷ more) = next P (f x) (first_some f more) (all x) (first_has P none f all more)

module _ (segments : List Segment) where
  -- no word can be loaded at an address
  abbrev pub Unread : ℕ → Type 0
  Unread a = (value : ℕ) → load_number 4 segments a ≡ Ok value → ⊥

  -- of an address that may be the first on the way that can't be read
  abbrev OfAddress : Result ℕ ℕ → Type 0
  OfAddress (Ok a) = Unit {0}
  OfAddress (Err a) = Unread a

  read_says : (a : ℕ) → OfAddress (load_or_address segments a)
  read_says a = go (load_number 4 segments a) refl
    where
      go : (r : Result ℕ BusFault) → load_number 4 segments a ≡ r → OfAddress (or_address a r)
      go (Ok word) e = tt
      go (Err fault) e = λ value f. absurd (let g : Err fault ≡ Ok value = sym e ∙ f in cc)

  shifted_says : (a : ℕ) (r : Result ℕ ℕ) → OfAddress r → OfAddress (plus_distance a r)
  shifted_says a (Ok distance) h = tt
  shifted_says a (Err refused) h = h

  moved_says : (at : Result ℕ ℕ) (b : Base) → OfAddress at → OfAddress (address_after_step segments at b)
  moved_says (Err refused) b h = h
  moved_says (Ok a) b h = either OfAddress b.is_virtual _ _ (by (load_or_address segments a) (read_says a)) tt
    where
      by : (r : Result ℕ ℕ) → OfAddress r → OfAddress (by_vtable segments a b.offset r)
      by (Ok vtable) k = shifted_says a (load_or_address segments (at_offset vtable b.offset)) (read_says (at_offset vtable b.offset))
      by (Err refused) k = k

  address_says : (steps : List Base) (at : Result ℕ ℕ) → OfAddress at → OfAddress (address segments at steps)
  address_says [] at h = h
  address_says (b ∷ more) at h = address_says more (address_after_step segments at b) (moved_says at b h)

  -- ---- of matches

  abbrev OfMatch : Match → Type 0
  OfMatch Failed = Unit {0}
  OfMatch (Object a) = Unit {0}
  OfMatch (PointerToBase a) = Unit {0}
  OfMatch (Unreadable a) = Unread a

  abbrev OfBase : Option (Result ℕ ℕ) → Type 0
  OfBase None = Unit {0}
  OfBase (Some r) = OfAddress r

  base_says : (g : List Row) (ty : ℕ) (at : Result ℕ ℕ) (wanted : ℕ) → OfAddress at → OfBase (base_at g segments ty at wanted)
  base_says g ty at wanted h = go (chosen g ty wanted)
    where
      go : (o : Option (List Base)) → OfBase (option_map (address segments at) o)
      go None = tt
      go (Some steps) = address_says steps at h

  object_says : (o : Option (Result ℕ ℕ)) → OfBase o → OfMatch (object_at o)
  object_says None h = tt
  object_says (Some (Ok a)) h = tt
  object_says (Some (Err refused)) h = h

  pointer_says : (pointer : Result ℕ ℕ) (o : Option (Result ℕ ℕ)) → OfAddress pointer → OfBase o → OfMatch (pointer_at pointer o)
  pointer_says pointer None p h = tt
  pointer_says (Ok zero) (Some at) p h = tt
  pointer_says (Ok (suc x)) (Some (Ok a)) p h = tt
  pointer_says (Ok (suc x)) (Some (Err refused)) p h = h
  pointer_says (Err refused) (Some at) p h = p

  pointee_says : (g : List Row) (from object to : ℕ) → OfMatch (pointee_match g segments from object to)
  pointee_says g from object to =
      either OfMatch (same_type g from to) _ _ tt (
      either OfMatch (is_void g to) _ _ (either OfMatch (is_function g from) _ _ tt tt) (
      either OfMatch (is_class_type g from && is_class_type g to) _ _
      (pointer_says (load_or_address segments object) (base_at g segments from (load_or_address segments object) to) (read_says object) (base_says g from (load_or_address segments object) to (read_says object))) tt))

  pointers_say : (g : List Row) (object : ℕ) (thrown wanted : Option TypeKind) → OfMatch (pointer_match g segments object (pointer_of thrown) (pointer_of wanted))
  pointers_say g object None wanted = tt
  pointers_say g object (Some Other) wanted = tt
  pointers_say g object (Some Fundamental) wanted = tt
  pointers_say g object (Some Class) wanted = tt
  pointers_say g object (Some (Si base)) wanted = tt
  pointers_say g object (Some Vmi) wanted = tt
  pointers_say g object (Some (Pointer flags pointee)) None = tt
  pointers_say g object (Some (Pointer flags pointee)) (Some Other) = tt
  pointers_say g object (Some (Pointer flags pointee)) (Some Fundamental) = tt
  pointers_say g object (Some (Pointer flags pointee)) (Some Class) = tt
  pointers_say g object (Some (Pointer flags pointee)) (Some (Si base)) = tt
  pointers_say g object (Some (Pointer flags pointee)) (Some Vmi) = tt
  pointers_say g object (Some (Pointer flags pointee)) (Some (Pointer more to)) = either OfMatch (loses_qualifier flags more || adds_promise flags more) _ _ tt (pointee_says g pointee object to)

  match_says : (g : List Row) (thrown object wanted : ℕ) → OfMatch (match_of g segments thrown object wanted)
  unfolding match_of
  match_says g thrown object wanted =
      either OfMatch (thrown == 0 || wanted == 0) _ _ tt (
      either OfMatch (same_type g thrown wanted) _ _ tt (
      either OfMatch (is_class_type g thrown && is_class_type g wanted) _ _ (object_says (base_at g segments thrown (Ok object) wanted) (base_says g thrown (Ok object) wanted tt))
      (pointers_say g object (kind_of g thrown) (kind_of g wanted))))

  -- ---- of verdicts

  abbrev OfVerdict : Option Verdict → Type 0
  OfVerdict None = Unit {0}
  OfVerdict (Some (says.Barrier at hit)) = Unit {0}
  OfVerdict (Some (says.ObjectRead a)) = Unread a
  OfVerdict (Some (says.Terminate cause)) = Unit {0}

  by_match_says : (at : ℕ) (hit : Match) → OfMatch hit → OfVerdict (by_match at hit)
  by_match_says at Failed h = tt
  by_match_says at (Object a) h = tt
  by_match_says at (PointerToBase a) h = tt
  by_match_says at (Unreadable a) h = h

  named_says : (object at : ℕ) (hit : Match) → OfMatch hit → OfVerdict (unless_named object at hit)
  named_says object at Failed h = tt
  named_says object at (Object a) h = tt
  named_says object at (PointerToBase a) h = tt
  named_says object at (Unreadable a) h = h

  hits_say : (matched : ℕ → Match) → ((t : ℕ) → OfMatch (matched t)) → (types : List ℕ) → OfMatch (first_hit (map matched types))
  hits_say matched all [] = tt
  hits_say matched all (t ∷ more) = go (is_hit (matched t)) (hits_say matched all more)
    where
      go : (b : Bool) → OfMatch (unwrap_or (find is_hit (map matched more)) Failed) → OfMatch (unwrap_or (cond b (Some (matched t)) (find is_hit (map matched more))) Failed)
      go true rest = all t
      go false rest = rest

  module _ (m : Meeting) (all : (t : ℕ) → OfMatch (m.matched t)) where
    catch_is : (at : ℕ) (type : CatchType) → OfVerdict (catch_says m at type)
    catch_is at All = tt
    catch_is at AllFails = tt
    catch_is at (One type) = by_match_says at (m.matched type) (all type)

    kind_is : (at : ℕ) (kind : DescKind) → OfVerdict (desc_verdict_by m at kind)
    kind_is at (Cleanup pad) = tt
    kind_is at (Catch pad reference type) = catch_is at type
    kind_is at (Spec types count pad) = named_says m.object at (first_hit (map m.matched (m.types (Spec types count pad)))) (hits_say m.matched all (m.types (Spec types count pad)))

    heard_is : (site : ℕ) (item : Result Desc DescFault) → OfVerdict (heard m site item)
    heard_is site (Ok d) = either OfVerdict (in_scope site d) _ _ (kind_is d.at d.kind) tt
    heard_is site (Err fault) = tt

    verdict_is : (site : ℕ) (items : List (Result Desc DescFault)) → OfVerdict (verdict_of m site items)
    unfolding verdict_of
    verdict_is site items = first_has OfVerdict tt (heard m site) (heard_is site) items

    abbrev OfFound : Option Found → Type 0
    OfFound None = Unit {0}
    OfFound (Some (found.Barrier b)) = Unit {0}
    OfFound (Some (found.ObjectRead a)) = Unread a
    OfFound (Some (found.Terminate cause)) = Unit {0}

    found_is : (f : Frame) → OfFound (frame_result m f)
    found_is f = go (verdict_of m f.site f.items) (verdict_is f.site f.items)
      where
        go : (o : Option Verdict) → OfVerdict o → OfFound (option_map (verdict_result f) o)
        go None h = tt
        go (Some (says.Barrier at hit)) h = tt
        go (Some (says.ObjectRead a)) h = h
        go (Some (says.Terminate cause)) h = tt

    phase1_is : (fs : Frames) → OfFound (Some (phase1 m fs))
    unfolding phase1
    phase1_is fs = go (first_some (frame_result m) fs.frames) (first_has OfFound tt (frame_result m) found_is fs.frames)
      where
        go : (o : Option Found) → OfFound o → OfFound (Some (unwrap_or o (found.Terminate fs.last)))
        go None h = tt
        go (Some f) h = h

    pub unread_at : (fs : Frames) (a : ℕ) → phase1 m fs ≡ found.ObjectRead a → Unread a
    unread_at fs a e = subst (λ (f : Found). OfFound (Some f)) e (phase1_is fs)

-- of a thrown object in a memory
pub unread : (image : Image) (types : List Row) (segments : List Segment) (thrown : Thrown) (fs : Frames) (a : ℕ)
    → phase1 (meeting image types segments thrown) fs ≡ found.ObjectRead a → Unread segments a
unread image types segments thrown fs a e =
    unread_at segments (meeting image types segments thrown) (λ wanted. match_says segments types thrown.ty thrown.object wanted) fs a e
