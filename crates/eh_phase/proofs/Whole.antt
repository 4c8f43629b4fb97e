-- The list of frames isn't cut, and each frame's descriptors stand in order.
use Rattle.std.proofs.Common.{◌≡◌, ℕ, zero, suc, ◌<◌, ◌≤◌, ◌+◌, ◌-◌, ◌^◌, Bool, true, false, cond, List, [], ◌∷◌, length, drop, length-drop, refl, sym, ◌∙◌, ap, subst, Option, Some, None, Result, Ok, Err, arith, slice_index}
use Rattle.std.specs.Prelude.{All, find, option_map}
use Rattle.std.proofs.lemmas.List.Elements.{All-nil, All-cons}
use Rattle.std.proofs.lemmas.Bool.Decides.{nat_tests}
use Rattle.eh_bus.specs.eh_word.Words.{number_at}
use Rattle.elf_image.specs.Image.{Image, IsSound}
use Rattle.elf_image.specs.Segments.{Segment, RiseFrom}
use Rattle.elf_image.specs.declared.limits.TheConstants.{ADDRESS_LIMIT}
use Rattle.thumb_core.specs.declared.ends.Cause.{Cause}
use Rattle.eh_codes.specs.declared.row.Entry.{Entry}
use Rattle.eh_codes.specs.declared.row.EntryBody.{EntryBody}
use Rattle.eh_codes.specs.declared.row.EntryBody.TheVariants.{CantUnwind, Inline, Table}
use Rattle.eh_index.specs.Rows.{entries_of}
use Rattle.eh_index.specs.Places.{holds_byte, bytes_at, table_in, table_of}
use Rattle.eh_index.specs.Covering.{covering}
use Rattle.eh_bytecode.specs.Codes.{table_codes}
use Rattle.eh_bytecode.specs.declared.codes.CodesFault.{CodesFault}
use Rattle.eh_bytecode.specs.declared.frame.Vrs.{Vrs}
use Rattle.eh_desc.specs.declared.descriptor.Desc.{Desc}
use Rattle.eh_desc.specs.declared.descriptor.DescFault.{DescFault}
use Rattle.eh_desc.specs.Grammar.{items_of, body_items, table_items, if_codes}
use Rattle.eh_desc.specs.Laws.{Follow, Rise}
use Rattle.eh_desc.proofs.Items.{law_of_descriptors}
use Rattle.eh_desc.proofs.Rising.{law_of_rising}
use Rattle.eh_phase.specs.declared.walk.CoveringEntry.{CoveringEntry}
use Rattle.eh_phase.specs.Phases.{Frames}
use Rattle.eh_phase.specs.Frames.{Stack, MOST_FRAMES, frames_in, codes_of, with_items, entry_contents, entry_contents_at, outer, site_of, frame_of, frames_of_caller, frames_of_entry, frame_and_outer}
use Rattle.eh_phase.specs.Laws.{FramesAreWhole, IsInOrder}
use Rattle.eh_phase.proofs.Outer.{height, few, outer_lower}

-- ---- more room gives no more frames

then_same : (f g : List ℕ → Frames) (o : Result Vrs Cause) → ((next : Vrs) → o ≡ Ok next → f next.r ≡ g next.r) → frames_of_caller f o ≡ frames_of_caller g o
then_same f g (Ok next) same = same next refl
then_same f g (Err cause) same = refl

walked_same : (f g : List ℕ → Frames) (stack : Stack) (limit : Option ℕ) (innermost : Bool) (site : ℕ) (r : List ℕ) (o : Option CoveringEntry)
    → ((codes : List ℕ) (next : Vrs) → outer stack limit innermost codes r ≡ Ok next → f next.r ≡ g next.r)
    → frames_of_entry f stack limit innermost site r o ≡ frames_of_entry g stack limit innermost site r o
walked_same f g stack limit innermost site r None same = refl
walked_same f g stack limit innermost site r (Some c) same = ap (frame_and_outer (frame_of site r c)) (then_same f g (outer stack limit innermost c.codes r) (same c.codes))

pub enough : (n m : ℕ) (image : Image) (stack : Stack) (limit : Option ℕ) (innermost : Bool) (site : ℕ) (r : List ℕ)
    → height stack.end innermost (slice_index r 13) < n → height stack.end innermost (slice_index r 13) < m
    → frames_in n image stack limit innermost site r ≡ frames_in m image stack limit innermost site r
unfolding frames_in
enough zero m image stack limit innermost site r h k = absurd (omega arith)
enough (suc n) zero image stack limit innermost site r h k = absurd (omega arith)
enough (suc n) (suc m) image stack limit innermost site r h k =
    walked_same (λ new. frames_in n image stack limit false (site_of new) new) (λ new. frames_in m image stack limit false (site_of new) new) stack limit innermost site r (entry_contents_at image site)
    (λ codes next e.
    let l = outer_lower stack limit innermost codes r next e in
    enough n m image stack limit false (site_of next.r) next.r (omega (arith, h, l)) (omega (arith, k, l)))

one_more : (n : ℕ) (image : Image) (stack : Stack) (limit : Option ℕ) (innermost : Bool) (site : ℕ) (r : List ℕ)
    → frames_in (suc n) image stack limit innermost site r ≡ frames_of_entry (λ new. frames_in n image stack limit false (site_of new) new) stack limit innermost site r (entry_contents_at image site)
unfolding frames_in
one_more n image stack limit innermost site r = refl

whole : (n : ℕ) (image : Image) (stack : Stack) (limit : Option ℕ) (innermost : Bool) (site : ℕ) (r : List ℕ) → height stack.end innermost (slice_index r 13) < n
    → frames_in n image stack limit innermost site r ≡ frames_of_entry (λ new. frames_in n image stack limit false (site_of new) new) stack limit innermost site r (entry_contents_at image site)
whole n image stack limit innermost site r h = enough n (suc n) image stack limit innermost site r h (omega (arith, h)) ∙ one_more n image stack limit innermost site r

pub frames_are_whole : FramesAreWhole
frames_are_whole image stack limit innermost site r low = whole MOST_FRAMES image stack limit innermost site r (few stack.end innermost (slice_index r 13) low)

-- ---- tables lie below the last address

rise_low : (low : ℕ) (segments : List Segment) → RiseFrom low segments → low ≤ ADDRESS_LIMIT
rise_low low [] h = h
rise_low low (s ∷ more) h = let k = rise_low (s.start + s.size) more h.3 in omega (arith, h.0, k)

table_low : (low : ℕ) (segments : List Segment) (a : ℕ) (bytes : List ℕ) → RiseFrom low segments → bytes_at segments a ≡ Some bytes → a + length bytes ≤ ADDRESS_LIMIT
table_low low [] a bytes h e = absurd cc
table_low low (s ∷ more) a bytes h e = go (holds_byte a s) refl e (λ k. table_low (s.start + s.size) more a bytes h.3 k)
  where
    go : (b : Bool) → holds_byte a s ≡ b → option_map (λ (t : Segment). drop (a - t.start) t.bytes) (cond b (Some s) (find (holds_byte a) more)) ≡ Some bytes
        → (bytes_at more a ≡ Some bytes → a + length bytes ≤ ADDRESS_LIMIT) → a + length bytes ≤ ADDRESS_LIMIT
    go false t e further = further e
    go true t e further =
        let is : drop (a - s.start) s.bytes ≡ bytes = cc in
        let top = rise_low (s.start + s.size) more h.3 in
        let above : s.start ≤ a = grind (arith, nat_tests) in
        let within : a < s.start + length s.bytes = grind (arith, nat_tests) in
        let size : length bytes ≡ length s.bytes - (a - s.start) = sym (ap length is) ∙ length-drop (a - s.start) s.bytes in
        omega (arith, top, above, within, size, h.2)

-- ---- descriptors in order

abbrev Ordered : List (Result Desc DescFault) → Type 0
Ordered items = (address : ℕ) × Follow address items × Rise items

no_items : (r : Result (List ℕ) CodesFault) → Ordered (if_codes r [])
no_items (Ok codes) = (0, tt, tt)
no_items (Err fault) = (0, tt, tt)

table_ordered : (start address : ℕ) (bytes : List ℕ) → address + length bytes < 2 ^ 32 → (o : Option ℕ) → number_at 4 bytes 0 ≡ o → Ordered (table_items start address bytes)
table_ordered start address bytes low None e = rw e (no_items (table_codes bytes))
table_ordered start address bytes low (Some first) e = (_, law_of_descriptors start address bytes first e, law_of_rising start address bytes low)

body_ordered : (segments : List Segment) (start : ℕ) (body : EntryBody) (bytes : List ℕ) → RiseFrom 0 segments → ((a : ℕ) → body ≡ Table a → bytes_at segments a ≡ Some bytes) → Ordered (body_items start body bytes)
body_ordered segments start CantUnwind bytes rise is = (0, tt, tt)
body_ordered segments start (Inline word) bytes rise is = (0, tt, tt)
body_ordered segments start (Table a) bytes rise is =
    let low = table_low 0 segments a bytes rise (is a refl) in
    table_ordered start a bytes (omega (arith, low)) _ refl

entry_ordered : (image : Image) (e : Entry) (o : Option (List ℕ)) → IsSound image → table_of image e ≡ o → Ordered (items_of e o)
entry_ordered image e None sound is = (0, tt, tt)
entry_ordered image e (Some bytes) sound is = body_ordered image.segments e.start e.body bytes sound.rise (λ a k. ap (λ b. table_in image.segments b) (sym k) ∙ is)

covered_ordered : (image : Image) (o : Option Entry) (c : CoveringEntry) → IsSound image → entry_contents image o ≡ Some c → Ordered c.descs
covered_ordered image None c sound e = absurd cc
covered_ordered image (Some n) c sound e = go (codes_of n.body (table_of image n)) e
  where
    go : (o : Option (List ℕ)) → option_map (with_items n (table_of image n)) o ≡ Some c → Ordered c.descs
    go None e = absurd cc
    go (Some codes) e =
        let same : with_items n (table_of image n) codes ≡ c = cc in
        subst Ordered (ap (λ (x : CoveringEntry). x.descs) same) (entry_ordered image n (table_of image n) sound refl)

site_ordered : (image : Image) (site : ℕ) (c : CoveringEntry) → IsSound image → entry_contents_at image site ≡ Some c → Ordered c.descs
unfolding entry_contents_at
site_ordered image site c sound e = covered_ordered image (covering (entries_of image) site) c sound e

walked_ordered : (image : Image) (stack : Stack) (limit : Option ℕ) (innermost : Bool) (site : ℕ) (r : List ℕ) (further : List ℕ → Frames) → IsSound image
    → ((new : List ℕ) → All IsInOrder (further new).frames) → (o : Option CoveringEntry) → entry_contents_at image site ≡ o → All IsInOrder (frames_of_entry further stack limit innermost site r o).frames
walked_ordered image stack limit innermost site r further sound each None e = All-nil IsInOrder
walked_ordered image stack limit innermost site r further sound each (Some c) e =
    let o = site_ordered image site c sound e in
    All-cons IsInOrder (frame_of site r c) _ (record { address = o.0; follow = o.1; rise = o.2 }) (rest (outer stack limit innermost c.codes r))
  where
    rest : (o : Result Vrs Cause) → All IsInOrder (frames_of_caller further o).frames
    rest (Ok next) = each next.r
    rest (Err cause) = All-nil IsInOrder

pub all_in_order : (n : ℕ) (image : Image) (stack : Stack) (limit : Option ℕ) (innermost : Bool) (site : ℕ) (r : List ℕ) → IsSound image → All IsInOrder (frames_in n image stack limit innermost site r).frames
unfolding frames_in
all_in_order zero image stack limit innermost site r sound = All-nil IsInOrder
all_in_order (suc n) image stack limit innermost site r sound =
    walked_ordered image stack limit innermost site r (λ new. frames_in n image stack limit false (site_of new) new) sound (λ new. all_in_order n image stack limit false (site_of new) new sound) (entry_contents_at image site) refl
