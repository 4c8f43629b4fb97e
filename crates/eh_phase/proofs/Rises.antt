-- The frames rise.
use Rattle.std.proofs.Common.{◌≡◌, ◌⊎◌, inl, inr, ℕ, zero, suc, ◌+◌, ◌-◌, ◌%◌, ◌^◌, ◌<◌, ◌≤◌, ◌++◌, Bool, true, false, nat_eq, List, [], ◌∷◌, refl, sym, ◌∙◌, ap, subst, Option, Some, None, Result, Ok, Err, arith, slice_index}
use Rattle.std.proofs.lemmas.Bool.Decides.{nat_tests}
use Rattle.elf_image.specs.Image.{Image}
use Rattle.thumb_core.specs.declared.ends.Cause.{Cause}
use Rattle.run_gates.specs.declared.gates.TheConstants.{NO_CALLER}
use Rattle.eh_codes.specs.Cut.{split_codes}
use Rattle.eh_bytecode.specs.Meaning.{unwind_result}
use Rattle.eh_bytecode.specs.declared.frame.Vrs.{Vrs}
use Rattle.eh_phase.specs.declared.walk.CoveringEntry.{CoveringEntry}
use Rattle.std.specs.Prelude.{◌&&◌}
use Rattle.eh_desc.specs.declared.descriptor.Desc.{Desc}
use Rattle.eh_desc.specs.declared.descriptor.DescFault.{DescFault}
use Rattle.eh_phase.specs.declared.phase2.Goal.{Goal}
use Rattle.eh_phase.specs.Phases.{Frame, Frames, Place, descriptor_places, places, from_address}
use Rattle.eh_phase.specs.Verdict.{in_scope}
use Rattle.eh_phase.specs.Cleanups.{can_stop, is_barrier_item, can_be_read, is_reached_in, is_reached}
use Rattle.eh_phase.proofs.Due.{reached_unread, reached_past}
use Rattle.eh_phase.proofs.Goes.{places-from}
use Rattle.eh_phase.specs.Frames.{Stack, MOST_FRAMES, frames_in, entry_contents_at, is_no_frame, is_above, caller_of, check_caller, outer, site_of, frames_of_caller, frames_of_entry}
use Rattle.eh_phase.specs.Laws.{IsAbove, IsWithin, RiseFrom, RiseOutwards, FramesRise, SitesStandInCalls, BarriersStandOutside}

abbrev Stands : ℕ → Option ℕ → Bool → ℕ → ℕ → Type 0
Stands end limit innermost sp next = IsAbove innermost sp next × (next ≤ end) × IsWithin limit next

within : (limit : Option ℕ) (sp : ℕ) → is_above limit sp ≡ false → IsWithin limit sp
within None sp e = tt
within (Some limit) sp e = grind (arith, nat_tests)

stands : (end : ℕ) (limit : Option ℕ) (innermost : Bool) (sp next : ℕ) → is_no_frame end innermost sp next ≡ false → is_above limit next ≡ false → Stands end limit innermost sp next
stands end limit true sp next e k = (grind (arith, nat_tests), grind (arith, nat_tests), within limit next k)
stands end limit false sp next e k = (grind (arith, nat_tests), grind (arith, nat_tests), within limit next k)

by_tests : (end : ℕ) (limit : Option ℕ) (innermost : Bool) (sp : ℕ) (v next : Vrs) (a b c : Bool)
    → is_no_frame end innermost sp (slice_index v.r 13) ≡ a → is_above limit (slice_index v.r 13) ≡ b → nat_eq (slice_index v.r 15) NO_CALLER ≡ c
    → check_caller end limit innermost sp (Some v) ≡ Ok next → Stands end limit innermost sp (slice_index next.r 13)
by_tests end limit innermost sp v next true b c ea eb ec e = absurd (grind arith)
by_tests end limit innermost sp v next false true c ea eb ec e = absurd (grind arith)
by_tests end limit innermost sp v next false false true ea eb ec e = absurd (grind arith)
by_tests end limit innermost sp v next false false false ea eb ec e =
    let same : v ≡ next = grind arith in
    let P : Vrs → Type 0 = λ x. Stands end limit innermost sp (slice_index x.r 13) in
    subst P same (stands end limit innermost sp (slice_index v.r 13) ea eb)

by_end : (end : ℕ) (limit : Option ℕ) (innermost : Bool) (sp : ℕ) (o : Option Vrs) (next : Vrs) → check_caller end limit innermost sp o ≡ Ok next → Stands end limit innermost sp (slice_index next.r 13)
by_end end limit innermost sp None next e = absurd cc
by_end end limit innermost sp (Some v) next e = by_tests end limit innermost sp v next _ _ _ refl refl refl e

outer_stands : (stack : Stack) (limit : Option ℕ) (innermost : Bool) (codes r : List ℕ) (next : Vrs) → outer stack limit innermost codes r ≡ Ok next
    → Stands stack.end limit innermost (slice_index r 13) (slice_index next.r 13)
unfolding outer
outer_stands stack limit innermost codes r next e = by_end stack.end limit innermost (slice_index r 13) (caller_of (unwind_result stack.segments r (split_codes codes))) next e

-- frames that begin at a stack pointer
abbrev Begin : ℕ → List Frame → Type 0
Begin sp [] = Unit {0}
Begin sp (f ∷ more) = f.sp ≡ sp

abbrev Rising : Stack → Option ℕ → Bool → ℕ → Frames → Type 0
Rising stack limit innermost sp fs = Begin sp fs.frames × RiseOutwards stack.end limit innermost fs.frames

after : (stack : Stack) (limit : Option ℕ) (innermost : Bool) (sp next : ℕ) (l : List Frame) → Stands stack.end limit innermost sp next → Begin next l → RiseOutwards stack.end limit false l
    → RiseFrom stack.end limit innermost sp l
after stack limit innermost sp next [] s b h = tt
after stack limit innermost sp next (f ∷ more) s b h =
    let P : ℕ → Type 0 = λ x. Stands stack.end limit innermost sp x in
    let at = subst P (sym b) s in
    (at.0, at.1, at.2, h)

rising_by : (stack : Stack) (limit : Option ℕ) (innermost : Bool) (site : ℕ) (r : List ℕ) (further : List ℕ → Frames) → ((new : List ℕ) → Rising stack limit false (slice_index new 13) (further new))
    → (o : Option CoveringEntry) → Rising stack limit innermost (slice_index r 13) (frames_of_entry further stack limit innermost site r o)
rising_by stack limit innermost site r further each None = (tt, tt)
rising_by stack limit innermost site r further each (Some c) = (refl, go (outer stack limit innermost c.codes r) refl)
  where
    go : (o : Result Vrs Cause) → outer stack limit innermost c.codes r ≡ o → RiseFrom stack.end limit innermost (slice_index r 13) (frames_of_caller further o).frames
    go (Err cause) e = tt
    go (Ok next) e =
        let h = each next.r in
        after stack limit innermost (slice_index r 13) (slice_index next.r 13) (further next.r).frames (outer_stands stack limit innermost c.codes r next e) h.0 h.1

rising : (n : ℕ) (image : Image) (stack : Stack) (limit : Option ℕ) (innermost : Bool) (site : ℕ) (r : List ℕ) → Rising stack limit innermost (slice_index r 13) (frames_in n image stack limit innermost site r)
unfolding frames_in
rising zero image stack limit innermost site r = (tt, tt)
rising (suc n) image stack limit innermost site r =
    rising_by stack limit innermost site r (λ new. frames_in n image stack limit false (site_of new) new) (λ new. rising n image stack limit false (site_of new) new) (entry_contents_at image site)

pub frames_rise : FramesRise
frames_rise image stack limit site r = (rising MOST_FRAMES image stack limit true site r).1

-- ---- sites

-- the return address of a call, without bit 0
even_back : (call size : ℕ) → call % 2 ≡ 0 → (size ≡ 2) ⊎ (size ≡ 4) → (call + size + 1) % 2 ≡ 1
even_back call size even (inl two) = omega (arith, even, two)
even_back call size even (inr four) = omega (arith, even, four)

stands_in : (call size back : ℕ) → call % 2 ≡ 0 → (size ≡ 2) ⊎ (size ≡ 4) → call + size < 2 ^ 32 → back ≡ call + size + 1
    → (call ≤ (back - back % 2 + (2 ^ 32 - 2)) % 2 ^ 32) × ((back - back % 2 + (2 ^ 32 - 2)) % 2 ^ 32 < call + size)
stands_in call size back even (inl two) low is =
    let odd : back % 2 ≡ 1 = ap (λ n. n % 2) is ∙ even_back call size even (inl two) in
    (omega (arith, odd, two, low, is), omega (arith, odd, two, low, is))
stands_in call size back even (inr four) low is =
    let odd : back % 2 ≡ 1 = ap (λ n. n % 2) is ∙ even_back call size even (inr four) in
    (omega (arith, odd, four, low, is), omega (arith, odd, four, low, is))

pub sites_stand_in_calls : SitesStandInCalls
sites_stand_in_calls call size r even sized low is = stands_in call size (slice_index r 15) even sized low is

-- ---- a barrier in frames

-- it stands in the frame of its own stack pointer
barrier_sp : (g : Goal) (f : Frame) (i : Result Desc DescFault) → is_barrier_item g f i ≡ true → f.sp ≡ g.sp
barrier_sp g f (Err fault) e = absurd cc
barrier_sp g f (Ok d) e = go (in_scope f.site d) (can_stop d.kind) (nat_eq f.sp g.sp) refl e
  where
    go : (a b c : Bool) → nat_eq f.sp g.sp ≡ c → (a && (b && (c && nat_eq d.at g.desc))) ≡ true → f.sp ≡ g.sp
    go a b true h e = grind (arith, nat_tests)
    go false b false h e = absurd cc
    go true false false h e = absurd cc
    go true true false h e = absurd cc

in_frame : (g : Goal) (f : Frame) (items : List (Result Desc DescFault)) (qs : List Place) → is_reached_in g (descriptor_places f items ++ qs) ≡ true → (f.sp ≡ g.sp) ⊎ (is_reached_in g qs ≡ true)
in_frame g f [] qs e = inr e
in_frame g f (i ∷ more) qs e = go (can_be_read i) refl (is_barrier_item g f i) refl (in_frame g f more qs)
  where
    go : (r : Bool) → can_be_read i ≡ r → (b : Bool) → is_barrier_item g f i ≡ b → (is_reached_in g (descriptor_places f more ++ qs) ≡ true → (f.sp ≡ g.sp) ⊎ (is_reached_in g qs ≡ true)) → (f.sp ≡ g.sp) ⊎ (is_reached_in g qs ≡ true)
    go false r b h further = absurd (let k = reached_unread g (record { frame = f; item = i }) (descriptor_places f more ++ qs) r in cc)
    go true r true h further = inl (barrier_sp g f i h)
    go true r false h further = further (sym (reached_past g (record { frame = f; item = i }) (descriptor_places f more ++ qs) r h) ∙ e)

none_reached : (g : Goal) (from : ℕ) → is_reached g from [] ≡ false
unfolding places is_reached_in
none_reached g from = refl

above_all : (innermost : Bool) (sp next : ℕ) → IsAbove innermost sp next → sp ≤ next
above_all true sp next h = h
above_all false sp next h = omega (arith, h)

outside : (g : Goal) (from end : ℕ) (limit : Option ℕ) (innermost : Bool) (f : Frame) (more : List Frame) → RiseFrom end limit innermost f.sp more → is_reached g from (f ∷ more) ≡ true → f.sp ≤ g.sp
outside g from end limit innermost f [] rise e = go (in_frame g f (from_address from f.items) (places 0 []) (sym (ap (is_reached_in g) (places-from from f [])) ∙ e))
  where
    go : (f.sp ≡ g.sp) ⊎ (is_reached_in g (places 0 []) ≡ true) → f.sp ≤ g.sp
    go (inl same) = omega (arith, same)
    go (inr h) = absurd (let k = none_reached g 0 in cc)
outside g from end limit innermost f (h ∷ more) rise e =
    go (in_frame g f (from_address from f.items) (places 0 (h ∷ more)) (sym (ap (is_reached_in g) (places-from from f (h ∷ more))) ∙ e)) (outside g 0 end limit false h more rise.3)
  where
    go : (f.sp ≡ g.sp) ⊎ (is_reached_in g (places 0 (h ∷ more)) ≡ true) → (is_reached g 0 (h ∷ more) ≡ true → h.sp ≤ g.sp) → f.sp ≤ g.sp
    go (inl same) further = omega (arith, same)
    go (inr k) further = let low = above_all innermost f.sp h.sp rise.0 in omega (arith, low, further k)

pub barriers_stand_outside : BarriersStandOutside
barriers_stand_outside g from end limit innermost f more rise e = outside g from end limit innermost f more rise e
