-- The numbers of a barrier that a search finds are words.
use Rattle.std.proofs.Common.{◌≡◌, ℕ, ◌<◌, List, length, arith, inl, inr, ◌+◌, ◌-◌, ◌^◌, Bool, true, false, cond, [], ◌∷◌, drop, zero, suc, ◌==◌, ◌&&◌, ◌||◌, Option, Some, None, map, subst}
use Rattle.std.specs.Prelude.{slice_index, All, Result, Ok, Err, option_map}
use Rattle.std.proofs.lemmas.Bool.{cases_lt}
use Rattle.std.proofs.lemmas.List.{get_or_past, get_or-drop}
use Rattle.std.proofs.lemmas.List.Elements.{All-head, All-tail}
use Rattle.eh_bus.specs.Memory.{number_in, load_fault, or_fault, fault_in}
use Rattle.eh_bus.specs.Segment.{Segment, AreBytes, holds, number_at}
use Rattle.eh_match.specs.declared.rules.Match.{Match}
use Rattle.eh_match.specs.declared.rules.Match.TheVariants.{Failed, Object, PointerToBase, Unreadable}
use Rattle.eh_bus.specs.declared.fault.BusFault.{BusFault}
use Rattle.eh_types.specs.Graph.{Row, kind_of, same_type}
use Rattle.eh_types.specs.declared.kind.Base.{Base}
use Rattle.eh_match.specs.Address.{or_address, load_or_address, plus_distance, by_vtable, address_after_step, address}
use Rattle.eh_match.specs.Paths.{at_offset}
use Rattle.eh_match.specs.Rules.{is_class_type, is_void, is_function, object_at, pointer_to, pointer_at, pointee_match, loses_qualifier, adds_promise, pointer_of, pointer_match, match_of}
use Rattle.eh_match.specs.Subobjects.{chosen}
use Rattle.eh_types.specs.declared.kind.TypeKind.{TypeKind}
use Rattle.eh_phase.specs.declared.verdict.Verdict.{Verdict}
use Rattle.eh_desc.specs.declared.descriptor.Desc.{Desc}
use Rattle.eh_desc.specs.declared.descriptor.DescFault.{DescFault}
use Rattle.eh_desc.specs.declared.descriptor.DescKind.{DescKind}
use Rattle.eh_phase.specs.Firsts.{first_some, or_else}
use Rattle.eh_phase.specs.Verdict.{Meeting, in_scope, by_match, first_hit, unless_named, desc_verdict_by, heard, verdict_of}
use Rattle.eh_types.specs.declared.kind.TypeKind.TheVariants as type
use Rattle.eh_phase.specs.declared.verdict.Verdict.TheVariants as says
use Rattle.eh_desc.specs.declared.descriptor.CatchType.TheVariants as catches
use Rattle.eh_desc.specs.declared.descriptor.DescKind.TheVariants as kind
use Rattle.sim_throws.proofs.Landable.{AreSmall}

-- ---- words that are read

byte_small : (xs : List ℕ) → All (λ (b : ℕ). b < 256) xs → (i : ℕ) → slice_index xs i < 256
byte_small xs a i = elim (cases_lt i (length xs)) [
  | inl l ↦ a i 0 l
  | inr h ↦ (let e : slice_index xs i ≡ 0 = get_or_past xs i 0 h in omega (arith, e))
]

number_small : (ss : List Segment) → All (λ (s : Segment). AreBytes s.bytes) ss → (a : ℕ) → number_in 4 ss a < 2 ^ 32
number_small [] h a = omega arith
number_small (s ∷ more) h a = go (holds s a 4) (number_small more (All-tail (λ (t : Segment). AreBytes t.bytes) s more h) a)
  where
    one : (i : ℕ) → slice_index (drop (a - s.start) s.bytes) i < 256
    one i = let e = get_or-drop (a - s.start) s.bytes i 0 in let b = byte_small s.bytes (All-head (λ (t : Segment). AreBytes t.bytes) s more h) (a - s.start + i) in omega (arith, e, b)

    go : (b : Bool) → number_in 4 more a < 2 ^ 32 → cond b (number_at 4 s a) (number_in 4 more a) < 2 ^ 32
    go true later = let b0 = one 0 in let b1 = one 1 in let b2 = one 2 in let b3 = one 3 in omega (arith, b0, b1, b2, b3)
    go false later = later

abbrev SmallOk : Result ℕ ℕ → Type 0
SmallOk (Ok a) = a < 2 ^ 32
SmallOk (Err refused) = Unit {0}

abbrev pub SmallMatch : Match → Type 0
SmallMatch Failed = Unit {0}
SmallMatch (Object a) = a < 2 ^ 32
SmallMatch (PointerToBase a) = a < 2 ^ 32
SmallMatch (Unreadable a) = Unit {0}

module _ (ss : List Segment) (bytes : All (λ (s : Segment). AreBytes s.bytes) ss) where
  read_small : (a : ℕ) → SmallOk (load_or_address ss a)
  read_small a = go (fault_in (λ s. load_fault 4 a) 4 ss a)
    where
      go : (o : Option BusFault) → SmallOk (or_address a (or_fault o (number_in 4 ss a)))
      go None = number_small ss bytes a
      go (Some fault) = tt

  moved_small : (at : Result ℕ ℕ) (b : Base) → SmallOk at → SmallOk (address_after_step ss at b)
  moved_small (Err refused) b h = tt
  moved_small (Ok a) b h = go b.is_virtual
    where
      by_word : (r : Result ℕ ℕ) → SmallOk (plus_distance a r)
      by_word (Ok d) = omega arith
      by_word (Err refused) = tt

      virtual : (r : Result ℕ ℕ) → SmallOk (by_vtable ss a b.offset r)
      virtual (Ok v) = by_word (load_or_address ss (at_offset v b.offset))
      virtual (Err refused) = tt

      go : (v : Bool) → SmallOk (cond v (by_vtable ss a b.offset (load_or_address ss a)) (Ok (at_offset a b.offset)))
      go true = virtual (load_or_address ss a)
      go false = omega arith

  address_small : (steps : List Base) (at : Result ℕ ℕ) → SmallOk at → SmallOk (address ss at steps)
  address_small [] at h = h
  address_small (b ∷ more) at h = address_small more (address_after_step ss at b) (moved_small at b h)

  if_match : (b : Bool) (x y : Match) → SmallMatch x → SmallMatch y → SmallMatch (cond b x y)
  if_match true x y p q = p
  if_match false x y p q = q

  object_small : (at : Result ℕ ℕ) (o : Option (List Base)) → SmallOk at → SmallMatch (object_at (option_map (address ss at) o))
  object_small at None h = tt
  object_small at (Some steps) h = go (address ss at steps) (address_small steps at h)
    where
      go : (r : Result ℕ ℕ) → SmallOk r → SmallMatch (object_at (Some r))
      go (Ok a) h = h
      go (Err refused) h = tt

  pointer_small : (at : Result ℕ ℕ) (o : Option (List Base)) → SmallOk at → SmallMatch (pointer_at at (option_map (address ss at) o))
  pointer_small at None h = tt
  pointer_small at (Some steps) h = go at (address ss at steps) (address_small steps at h)
    where
      go : (p r : Result ℕ ℕ) → SmallOk r → SmallMatch (pointer_to p r)
      go (Ok zero) r h = omega arith
      go (Ok (suc p)) (Ok a) h = h
      go (Ok (suc p)) (Err refused) h = tt
      go (Err refused) r h = tt

  module _ (g : List Row) (object : ℕ) (small : object < 2 ^ 32) where
    pointee_small : (a b : ℕ) → SmallMatch (pointee_match g ss a object b)
    pointee_small a b =
        if_match (same_type g a b) _ _ small
        (if_match (is_void g b) _ _ (if_match (is_function g a) _ _ tt small)
        (if_match (is_class_type g a && is_class_type g b) _ _ (pointer_small (load_or_address ss object) (chosen g a b) (read_small object)) tt))

    by_pointers : (a b : Option TypeKind) → SmallMatch (pointer_match g ss object (pointer_of a) (pointer_of b))
    by_pointers None b = tt
    by_pointers (Some type.Other) b = tt
    by_pointers (Some type.Fundamental) b = tt
    by_pointers (Some type.Class) b = tt
    by_pointers (Some (type.Si base)) b = tt
    by_pointers (Some type.Vmi) b = tt
    by_pointers (Some (type.Pointer flags pointee)) None = tt
    by_pointers (Some (type.Pointer flags pointee)) (Some type.Other) = tt
    by_pointers (Some (type.Pointer flags pointee)) (Some type.Fundamental) = tt
    by_pointers (Some (type.Pointer flags pointee)) (Some type.Class) = tt
    by_pointers (Some (type.Pointer flags pointee)) (Some (type.Si base)) = tt
    by_pointers (Some (type.Pointer flags pointee)) (Some type.Vmi) = tt
    by_pointers (Some (type.Pointer flags pointee)) (Some (type.Pointer wanted to)) = if_match (loses_qualifier flags wanted || adds_promise flags wanted) _ _ tt (pointee_small pointee to)

    pub match_small : (thrown wanted : ℕ) → SmallMatch (match_of g ss thrown object wanted)
    unfolding match_of
    match_small thrown wanted =
        if_match ((thrown == 0) || (wanted == 0)) _ _ tt
        (if_match (same_type g thrown wanted) _ _ small
        (if_match (is_class_type g thrown && is_class_type g wanted) _ _ (object_small (Ok object) (chosen g thrown wanted) small)
        (by_pointers (kind_of g thrown) (kind_of g wanted))))

-- ---- verdicts

abbrev SmallVerdict : Verdict → Type 0
SmallVerdict (says.Barrier desc hit) = (desc < 2 ^ 32) × SmallMatch hit
SmallVerdict (says.ObjectRead a) = Unit {0}
SmallVerdict (says.Terminate why) = Unit {0}

abbrev SmallSome : Option Verdict → Type 0
SmallSome None = Unit {0}
SmallSome (Some v) = SmallVerdict v

module _ (m : Meeting) (object : m.object < 2 ^ 32) (matched : (t : ℕ) → SmallMatch (m.matched t)) where
  says_small : (at : ℕ) (k : DescKind) → at < 2 ^ 32 → SmallSome (desc_verdict_by m at k)
  says_small at (kind.Cleanup pad) l = tt
  says_small at (kind.Catch pad reference catches.All) l = (l, object)
  says_small at (kind.Catch pad reference catches.AllFails) l = tt
  says_small at (kind.Catch pad reference (catches.One t)) l = go (m.matched t) (matched t)
    where
      go : (h : Match) → SmallMatch h → SmallSome (by_match at h)
      go Failed h = tt
      go (Object a) h = (l, h)
      go (PointerToBase a) h = (l, h)
      go (Unreadable a) h = tt
  says_small at (kind.Spec types count pad) l = go (first_hit (map m.matched (m.types (kind.Spec types count pad))))
    where
      go : (h : Match) → SmallSome (unless_named m.object at h)
      go Failed = (l, object)
      go (Object a) = tt
      go (PointerToBase a) = tt
      go (Unreadable a) = tt

  items_small : (site : ℕ) (items : List (Result Desc DescFault)) → AreSmall items → SmallSome (first_some (heard m site) items)
  unfolding first_some
  items_small site [] h = tt
  items_small site (Err fault ∷ more) h = tt
  items_small site (Ok d ∷ more) h = go (in_scope site d) (desc_verdict_by m d.at d.kind) (says_small d.at d.kind h.0) (items_small site more h.2)
    where
      either : (o : Option Verdict) → SmallSome o → SmallSome (first_some (heard m site) more) → SmallSome (or_else o (first_some (heard m site) more))
      either None s later = later
      either (Some v) s later = s

      go : (b : Bool) (o : Option Verdict) → SmallSome o → SmallSome (first_some (heard m site) more) → SmallSome (or_else (cond b o None) (first_some (heard m site) more))
      go true o s later = either o s later
      go false o s later = later

  pub verdict_small : (site : ℕ) (items : List (Result Desc DescFault)) (desc : ℕ) (hit : Match) → AreSmall items → verdict_of m site items ≡ Some (says.Barrier desc hit) → (desc < 2 ^ 32) × SmallMatch hit
  unfolding verdict_of
  verdict_small site items desc hit h e = subst SmallSome e (items_small site items h)
