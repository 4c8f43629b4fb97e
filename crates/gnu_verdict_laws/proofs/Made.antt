-- The table that stands for an accepted entry can be read.
use Rattle.std.proofs.Common.{◌≡◌, ℕ, zero, suc, ◌+◌, ◌-◌, ◌*◌, ◌/◌, ◌%◌, ◌^◌, ◌<◌, ◌≤◌, ◌==◌, ◌&&◌, ◌||◌, not, Bool, true, false, cond, nat_le, nat_lt, List, [], ◌∷◌, ◌++◌, length, take, drop, map, flat_map, Option, Some, None, refl, sym, ap, ◌∙◌, arith, subst, length-append, length-drop, length-take}
use Rattle.std.specs.Prelude.{slice_index, All, find, option_map, option_and_then, Result, Ok, Err}
use Rattle.std.proofs.lemmas.Bool.Decides.{nat_tests}
use Rattle.std.proofs.lemmas.List.Elements.{All-head, All-tail}
use Rattle.byteorder.specs.Endian.{little_number}
use Rattle.eh_word.specs.Words.{number_at}
use Rattle.eh_codes.proofs.RowBytes.{read_number}
use Rattle.elf_image.specs.Segments.{Segment, holds, segment_end}
use Rattle.elf_image.specs.Functions.{segment_at}
use Rattle.elf_image.specs.Image.{Image}
use Rattle.elf_image.specs.declared.limits.TheConstants.{ADDRESS_LIMIT}
use Rattle.eh_bytecode.specs.Codes.{swap_word_bytes}
use Rattle.eh_bytecode.proofs.CodesLaws.{length-turned}
use Rattle.eh_desc.specs.declared.descriptor.CatchType.{CatchType}
use Rattle.eh_desc.specs.declared.descriptor.CatchType.TheVariants as takes_as
use Rattle.gnu_compact.specs.declared.descriptor.OwnDescriptor.{OwnDescriptor}
use Rattle.gnu_compact.specs.declared.descriptor.OwnKind.{OwnKind}
use Rattle.gnu_compact.specs.declared.descriptor.OwnKind.TheVariants as kinds
use Rattle.gnu_compact.specs.Descriptors.{type_word, kind_size}
use Rattle.gnu_compact.specs.Tables.{codes_end}
use Rattle.gnu_compact.specs.Laws.{IsPad, IsTaken, IsKind, IsDescriptor, AreDescriptors, descriptors_size, IsTable}
use Rattle.gnu_compact.proofs.Bytes.{Small, small_at, at_small, small_both, small_turned}
use Rattle.gnu_compact.proofs.Tables.{law_of_tables}
use Rattle.gnu_lsda.specs.declared.actions.CatchFilter.{CatchFilter}
use Rattle.gnu_lsda.specs.declared.actions.CatchFilter.TheVariants.{All as CatchesAll, OfType}
use Rattle.gnu_lsda.specs.declared.actions.Action.{Action}
use Rattle.gnu_lsda.specs.declared.actions.Action.TheVariants.{Cleanup, Catch, NoTypes, Specification}
use Rattle.gnu_lsda.specs.declared.actions.ActionFault.{ActionFault}
use Rattle.gnu_lsda.specs.declared.lsda.HeadFault.{HeadFault}
use Rattle.gnu_lsda.specs.declared.lsda.HeadFault.TheVariants as heads
use Rattle.gnu_lsda.specs.declared.records.Record.{Record}
use Rattle.gnu_lsda.specs.declared.records.RecordFault.{RecordFault}
use Rattle.gnu_lsda.specs.declared.records.RecordFault.TheVariants.{Short}
use Rattle.gnu_lsda.specs.declared.fault.EntryFault.{EntryFault}
use Rattle.gnu_lsda.specs.declared.fault.EntryFault.TheVariants.{Order, Filter, TooLong}
use Rattle.gnu_lsda.specs.Entries.{Form, words_after, code_word_bytes, words_of, personality_in}
use Rattle.gnu_lsda.specs.Heads.{Area, byte_at, area_at, area_after, area_of}
use Rattle.gnu_lsda.specs.Sites.{records_of}
use Rattle.gnu_lsda.specs.Chains.{actions_of}
use Rattle.gnu_lsda.specs.Faults.{fault_when, read_only, caught_type_fault, item_fault, is_odd, is_pad_beyond, is_disordered, is_too_long, names_routine, fault_of}
use Rattle.gnu_lsda.specs.FirstFault.{fault_list, chain_shows, records_show, area_shows, shown_faults, IsFirst}
use Rattle.gnu_lsda.proofs.FirstFault.{law_of_first}
use Rattle.gnu_descriptors.specs.declared.scopes.GnuDescriptor.{GnuDescriptor}
use Rattle.gnu_descriptors.specs.Codes.{without_count, codes_in, codes_by, codes_of}
use Rattle.gnu_descriptors.specs.Scopes.{gnu_descriptor, uncovered_part, takes_of, pad_of, catch_descriptor, catches_of, is_cleaning, cleanup_of, landing_of, record_descriptors, end_after, item_descriptors, scopes_from, scopes_of}
use Rattle.gnu_verdict_laws.specs.Read.{items_at}
use Rattle.gnu_verdict_laws.specs.Tables.{own, IsPlaced, RewrittenEntriesAreRead}
use Rattle.gnu_verdict_laws.proofs.Accepted.{none_both, or_none, not_told, accepted_shows}

-- ---- types of read-only segments stand below the table

held_step : (b : Bool) (place a : ℕ) (s : Segment) (rest : Option Segment) → (b ≡ true → a < place) → (read_only rest ≡ true → a < place) → read_only (cond b (Some s) rest) ≡ true → a < place
held_step true place a s rest own more h = own refl
held_step false place a s rest own more h = more h

inside : (a place : ℕ) (s : Segment) → segment_end s ≤ place → holds a s ≡ true → a < place
inside a place s h e = grind (arith, nat_tests)

held_below : (place a : ℕ) (segments : List Segment) → All (λ s. segment_end s ≤ place) segments → read_only (segment_at segments a) ≡ true → a < place
held_below place a [] all h = absurd cc
held_below place a (s ∷ more) all h =
    held_step (holds a s) place a s (segment_at more a) (inside a place s (All-head (λ (t : Segment). segment_end t ≤ place) s more all))
    (held_below place a more (All-tail (λ (t : Segment). segment_end t ≤ place) s more all)) h

-- ---- scopes that can be written

abbrev TypeBelow : ℕ → CatchType → Type 0
TypeBelow limit takes_as.All = Unit {0}
TypeBelow limit takes_as.AllFails = Unit {0}
TypeBelow limit (takes_as.One address) = address < limit

abbrev IsMadeKind : ℕ → OwnKind → Type 0
IsMadeKind limit kinds.Specification = Unit {0}
IsMadeKind limit (kinds.Catch pad takes) = IsPad pad × TypeBelow limit takes
IsMadeKind limit (kinds.Cleanup pad) = IsPad pad

record IsMade (size limit : ℕ) (s : GnuDescriptor) : Type 0 where
  offset_even : s.descriptor.offset % 2 ≡ 0
  size_even : s.descriptor.size % 2 ≡ 0
  some : 0 < s.descriptor.size
  within : s.descriptor.offset + s.descriptor.size ≤ size
  kind : IsMadeKind limit s.descriptor.kind

abbrev AreMade : ℕ → ℕ → List GnuDescriptor → Type 0
AreMade size limit [] = Unit {0}
AreMade size limit (s ∷ more) = IsMade size limit s × AreMade size limit more

taken : (limit p : ℕ) (takes : CatchType) → limit + 12 ≤ p → p ≤ 2 ^ 30 → TypeBelow limit takes → IsTaken p takes
taken limit p takes_as.All h l below = tt
taken limit p takes_as.AllFails h l below = tt
taken limit p (takes_as.One address) h l below = (omega arith, omega arith, omega arith)

made_kind : (limit at : ℕ) (k : OwnKind) → limit ≤ at → at + kind_size k ≤ 2 ^ 30 → IsMadeKind limit k → IsKind at k
made_kind limit at kinds.Specification h l made = tt
made_kind limit at (kinds.Catch pad takes) h l made = (made.0, taken limit (at + 12) takes (omega arith) (omega arith) made.1)
made_kind limit at (kinds.Cleanup pad) h l made = made

descriptors_fit : (size limit at : ℕ) (scopes : List GnuDescriptor) → size ≤ ADDRESS_LIMIT → limit ≤ at → at + descriptors_size (own scopes) ≤ 2 ^ 30 → AreMade size limit scopes
    → AreDescriptors at (own scopes)
descriptors_fit size limit at [] s h l made = tt
descriptors_fit size limit at (t ∷ more) s h l made =
    let within = made.0.within in (
      record {
        offset_even = made.0.offset_even;
        offset_low = omega arith;
        size_even = made.0.size_even;
        size_low = omega arith;
        some = made.0.some;
        kind = made_kind limit at t.descriptor.kind h (omega arith) made.0.kind;
      },
      descriptors_fit size limit (at + kind_size t.descriptor.kind) more s (omega arith) (omega arith) made.1,
    )

-- ---- records of an accepted entry

record IsSite (image : Image) (f : Form) (a : Area) (before : ℕ) (site : Record) : Type 0 where
  above : before ≤ site.start
  within : site.start + site.size ≤ f.size
  start_even : site.start % 2 ≡ 0
  size_even : site.size % 2 ≡ 0
  pad_even : site.pad % 2 ≡ 0
  pad_low : (site.pad == 0) ≡ false → f.start + site.pad < ADDRESS_LIMIT
  types : chain_shows image a site.action ≡ []

abbrev AreSites : Image → Form → Area → ℕ → List (Result Record RecordFault) → Type 0
AreSites image f a before [] = Unit {0}
AreSites image f a before (Ok site ∷ more) = IsSite image f a before site × AreSites image f a (site.start + site.size) more
AreSites image f a before (Err fault ∷ more) = ⊥

not_odd : (n : ℕ) → is_odd n ≡ false → n % 2 ≡ 0
not_odd n h = grind (arith, nat_tests)

not_lt : (x y : ℕ) → nat_lt x y ≡ false → y ≤ x
not_lt x y h = grind (arith, nat_tests)

pad_below : (f : Form) (site : Record) (zero_pad : Bool) → (not zero_pad && nat_le ADDRESS_LIMIT (f.start + site.pad)) ≡ false → zero_pad ≡ false → f.start + site.pad < ADDRESS_LIMIT
pad_below f site true h e = absurd cc
pad_below f site false h e = grind (arith, nat_tests)

site_is : (image : Image) (f : Form) (a : Area) (before : ℕ) (site : Record) → is_disordered f before site ≡ false → chain_shows image a site.action ≡ [] → IsSite image f a before site
site_is image f a before site h types =
    let v = or_none (nat_lt site.start before || nat_lt f.size (site.start + site.size) || is_odd site.start || is_odd site.size || is_odd site.pad) (is_pad_beyond f site) h in
    let w = or_none (nat_lt site.start before || nat_lt f.size (site.start + site.size) || is_odd site.start || is_odd site.size) (is_odd site.pad) v.0 in
    let x = or_none (nat_lt site.start before || nat_lt f.size (site.start + site.size) || is_odd site.start) (is_odd site.size) w.0 in
    let y = or_none (nat_lt site.start before || nat_lt f.size (site.start + site.size)) (is_odd site.start) x.0 in
    let z = or_none (nat_lt site.start before) (nat_lt f.size (site.start + site.size)) y.0 in
    record {
      above = not_lt site.start before z.0;
      within = not_lt f.size (site.start + site.size) z.1;
      start_even = not_odd site.start y.1;
      size_even = not_odd site.size x.1;
      pad_even = not_odd site.pad w.1;
      pad_low = pad_below f site (site.pad == 0) v.1;
      types = types;
    }

sites_are : (image : Image) (f : Form) (a : Area) (before : ℕ) (rs : List (Result Record RecordFault)) → records_show image f a before rs ≡ [] → AreSites image f a before rs
sites_are image f a before [] h = tt
sites_are image f a before (Err Short ∷ more) h = absurd cc
sites_are image f a before (Ok site ∷ more) h =
    let first = none_both (fault_list (fault_when (is_disordered f before site) Order)) (chain_shows image a site.action ++ records_show image f a (site.start + site.size) more) h in
    let later = none_both (chain_shows image a site.action) (records_show image f a (site.start + site.size) more) first.1 in
    (site_is image f a before site (not_told (is_disordered f before site) Order first.0) later.0, sites_are image f a (site.start + site.size) more later.1)

-- ---- their scopes

made_both : (size limit : ℕ) (xs ys : List GnuDescriptor) → AreMade size limit xs → AreMade size limit ys → AreMade size limit (xs ++ ys)
made_both size limit [] ys h k = k
made_both size limit (x ∷ xs) ys h k = (h.0, made_both size limit xs ys h.1 k)

gap_made : (size limit from to : ℕ) → from % 2 ≡ 0 → to % 2 ≡ 0 → to ≤ size → AreMade size limit (uncovered_part from to)
gap_made size limit from to e g h = by_test (nat_lt from to) refl
  where
    by_test : (b : Bool) → nat_lt from to ≡ b → AreMade size limit (cond b (gnu_descriptor from (to - from) kinds.Specification None ∷ []) [])
    by_test true t = let l : from < to = grind (arith, nat_tests) in (record { offset_even = e; size_even = omega arith; some = omega arith; within = omega arith; kind = tt }, tt)
    by_test false t = tt

pad_is : (f : Form) (site : Record) → f.start % 2 ≡ 0 → site.pad % 2 ≡ 0 → f.start + site.pad < ADDRESS_LIMIT → IsPad (pad_of f.start site)
pad_is f site e g h = (omega arith, omega arith)

type_below : (image : Image) (limit : ℕ) (takes : CatchFilter) → All (λ s. segment_end s ≤ limit) image.segments → fault_list (caught_type_fault image takes) ≡ [] → TypeBelow limit (takes_of takes)
type_below image limit CatchesAll all h = tt
type_below image limit (OfType address) all h =
    held_below limit address image.segments all (not_false (read_only (segment_at image.segments address)) (not_told (not (read_only (segment_at image.segments address))) Filter h))
  where
    not_false : (b : Bool) → not b ≡ false → b ≡ true
    not_false true h = refl
    not_false false h = absurd cc

abbrev shown_of : Image → Result Action ActionFault → List EntryFault
shown_of image item = fault_list (item_fault image item)

item_made : (image : Image) (f : Form) (limit : ℕ) (site : Record) (item : Result Action ActionFault) → All (λ s. segment_end s ≤ limit) image.segments → IsPad (pad_of f.start site)
    → site.start % 2 ≡ 0 → site.size % 2 ≡ 0 → 0 < site.size → site.start + site.size ≤ f.size → shown_of image item ≡ [] → AreMade f.size limit (catches_of f.start site item)
item_made image f limit site (Ok (Catch filter takes)) all pad e g some within h =
    (record { offset_even = e; size_even = g; some = some; within = within; kind = (pad, type_below image limit takes all h) }, tt)
item_made image f limit site (Ok Cleanup) all pad e g some within h = tt
item_made image f limit site (Ok NoTypes) all pad e g some within h = tt
item_made image f limit site (Ok Specification) all pad e g some within h = tt
item_made image f limit site (Err fault) all pad e g some within h = tt

catches_made : (image : Image) (f : Form) (limit : ℕ) (site : Record) (items : List (Result Action ActionFault)) → All (λ s. segment_end s ≤ limit) image.segments → IsPad (pad_of f.start site)
    → site.start % 2 ≡ 0 → site.size % 2 ≡ 0 → 0 < site.size → site.start + site.size ≤ f.size → flat_map (shown_of image) items ≡ []
    → AreMade f.size limit (flat_map (catches_of f.start site) items)
catches_made image f limit site [] all pad e g some within h = tt
catches_made image f limit site (item ∷ more) all pad e g some within h =
    let both = none_both (shown_of image item) (flat_map (shown_of image) more) h in
    made_both f.size limit (catches_of f.start site item) (flat_map (catches_of f.start site) more) (item_made image f limit site item all pad e g some within both.0)
    (catches_made image f limit site more all pad e g some within both.1)

told_made : (image : Image) (f : Form) (a : Area) (limit before : ℕ) (site : Record) → All (λ s. segment_end s ≤ limit) image.segments → f.start % 2 ≡ 0 → IsSite image f a before site → 0 < site.size
    → AreMade f.size limit (record_descriptors f.start a site)
told_made image f a limit before site all even is some = by_pad (site.pad == 0) refl
  where
    by_cleanup : IsPad (pad_of f.start site) → (b : Bool) → AreMade f.size limit (cond b (cleanup_of f.start site) [])
    by_cleanup pad true = (record { offset_even = is.start_even; size_even = is.size_even; some = some; within = is.within; kind = pad }, tt)
    by_cleanup pad false = tt

    by_pad : (b : Bool) → (site.pad == 0) ≡ b → AreMade f.size limit (cond b [] (landing_of f.start a site))
    by_pad true e = tt
    by_pad false e =
        let pad = pad_is f site even is.pad_even (is.pad_low e) in
        made_both f.size limit (flat_map (catches_of f.start site) (actions_of a site.action)) (cond (is_cleaning a site.action) (cleanup_of f.start site) [])
        (catches_made image f limit site (actions_of a site.action) all pad is.start_even is.size_even some is.within is.types) (by_cleanup pad (is_cleaning a site.action))

some_of : (n : ℕ) → (n == 0) ≡ false → 0 < n
some_of n h = grind (arith, nat_tests)

scopes_made : (image : Image) (f : Form) (a : Area) (limit at before : ℕ) (rs : List (Result Record RecordFault)) → All (λ s. segment_end s ≤ limit) image.segments → f.start % 2 ≡ 0 → f.size % 2 ≡ 0
    → at % 2 ≡ 0 → AreSites image f a before rs → AreMade f.size limit (scopes_from f.start f.size a at rs)
scopes_made image f a limit at before [] all even size_even at_even sites = gap_made f.size limit at f.size at_even size_even (omega arith)
scopes_made image f a limit at before (Err fault ∷ more) all even size_even at_even sites = absurd sites
scopes_made image f a limit at before (Ok site ∷ more) all even size_even at_even sites =
    let is = sites.0 in
    let s = is.start_even in
    let z = is.size_even in
    made_both f.size limit (item_descriptors f.start a at (Ok site)) (scopes_from f.start f.size a (end_after at (Ok site)) more) (by_size (site.size == 0) refl)
    (scopes_made image f a limit (end_after at (Ok site)) (site.start + site.size) more all even size_even (end_even (site.size == 0) (omega arith)) sites.1)
  where
    end_even : (b : Bool) → (site.start + site.size) % 2 ≡ 0 → cond b at (site.start + site.size) % 2 ≡ 0
    end_even true e = at_even
    end_even false e = e

    by_size : (b : Bool) → (site.size == 0) ≡ b → AreMade f.size limit (cond b [] (uncovered_part at site.start ++ record_descriptors f.start a site))
    by_size true e = tt
    by_size false e =
        made_both f.size limit (uncovered_part at site.start) (record_descriptors f.start a site)
        (gap_made f.size limit at site.start at_even sites.0.start_even (let w = sites.0.within in omega arith))
        (told_made image f a limit before site all even sites.0 (some_of site.size e))

-- ---- the codes

small_drop : (n : ℕ) (xs : List ℕ) → Small xs → Small (drop n xs)
small_drop zero xs h = h
small_drop (suc n) [] h = tt
small_drop (suc n) (x ∷ xs) h = small_drop n xs h.1

small_take : (n : ℕ) (xs : List ℕ) → Small xs → Small (take n xs)
small_take zero xs h = tt
small_take (suc n) [] h = tt
small_take (suc n) (x ∷ xs) h = (h.0, small_take n xs h.1)

taken_length : (n : ℕ) (xs : List ℕ) → n ≤ length xs → length (take n xs) ≡ n
taken_length zero xs h = refl
taken_length (suc n) [] h = absurd (omega arith)
taken_length (suc n) (x ∷ xs) h = ap suc (taken_length n xs (omega arith))

small_number : (xs : List ℕ) → Small xs → little_number 4 xs < 2 ^ 32
small_number xs h = omega (arith, small_at xs h 0, small_at xs h 1, small_at xs h 2, small_at xs h 3)

-- the words of an accepted entry are there
record HasWords (f : Form) (n : ℕ) : Type 0 where
  counted : words_after f ≡ Some n
  there : f.place + 8 + 4 * n < length f.bytes

no_head : (a : Area) → ◌≡◌ {A = Result Area HeadFault} (Err heads.Short) (Ok a) → ⊥
no_head a h = cc

words_cases : (f : Form) (a : Area) (o : Option ℕ) → words_after f ≡ o → area_after f o ≡ Ok a → (n : ℕ) × HasWords f n
words_cases f a None e h = absurd (no_head a h)
words_cases f a (Some n) e h = (n, record { counted = e; there = by_test (nat_lt (f.place + 8 + 4 * n) (length f.bytes)) refl })
  where
    by_test : (b : Bool) → nat_lt (f.place + 8 + 4 * n) (length f.bytes) ≡ b → f.place + 8 + 4 * n < length f.bytes
    by_test true t = grind (arith, nat_tests)
    by_test false t = absurd (no_head a (rw t at h))

words_there : (f : Form) (a : Area) → area_of f ≡ Ok a → (n : ℕ) × HasWords f n
words_there f a h = words_cases f a (words_after f) refl h

byte_count : (bytes : List ℕ) (at n : ℕ) (o : Option ℕ) → Small bytes → number_at 4 bytes at ≡ o → option_map (λ w. w / 2 ^ 24) o ≡ Some n → n < 256
byte_count bytes at n None small e h = absurd cc
byte_count bytes at n (Some w) small e h =
    let is : little_number 4 (drop at bytes) ≡ w = read_number bytes at w e in
    let low : little_number 4 (drop at bytes) < 2 ^ 32 = small_number (drop at bytes) (small_drop at bytes small) in
    let top : w / 2 ^ 24 ≡ n = cc in
    omega (arith, is, low, top)

few_words : (f : Form) (n : ℕ) → Small f.bytes → HasWords f n → fault_list (fault_when (is_too_long (words_after f)) TooLong) ≡ [] → n ≤ 254
few_words f n small has h =
    let low : n < 256 = byte_count f.bytes (f.place + 4) n (number_at 4 f.bytes (f.place + 4)) small refl has.counted in
    let not_most : (n == 255) ≡ false = not_told (n == 255) TooLong (ap (λ (o : Option ℕ). fault_list (fault_when (is_too_long o) TooLong)) (sym has.counted) ∙ h) in
    grind (arith, nat_tests)

abbrev code_words : Form → ℕ → List ℕ
code_words f n = take (4 + 4 * n) (drop (f.place + 4) f.bytes)

codes_are : (f : Form) (n : ℕ) → HasWords f n → codes_of f ≡ codes_in (code_words f n)
codes_are f n has =
    let there = has.there in
    let held : nat_le (f.place + 8 + 4 * n) (length f.bytes) ≡ true = grind (arith, nat_tests) in
    ap (λ (o : Option ℕ). codes_by (option_and_then (code_word_bytes f) o)) has.counted ∙ rw held refl

codes_length : (f : Form) (n : ℕ) → HasWords f n → length (codes_in (code_words f n)) ≡ 6 + 4 * n
codes_length f n has =
    let there = has.there in
    let room : 4 + 4 * n ≤ length (drop (f.place + 4) f.bytes) = omega (arith, length-drop (f.place + 4) f.bytes) in
    let words : length (code_words f n) ≡ 4 + 4 * n = taken_length (4 + 4 * n) (drop (f.place + 4) f.bytes) room in
    let all : length (swap_word_bytes (code_words f n)) ≡ 4 + 4 * n = length-turned (code_words f n) ∙ omega (arith, words) in
    length-append (drop 1 (swap_word_bytes (code_words f n))) (0xB0 ∷ 0xB0 ∷ 0xB0 ∷ []) ∙ omega (arith, all, length-drop 1 (swap_word_bytes (code_words f n)))

codes_small : (f : Form) (n : ℕ) → Small f.bytes → Small (codes_in (code_words f n))
codes_small f n small =
    small_both (drop 1 (swap_word_bytes (code_words f n))) (0xB0 ∷ 0xB0 ∷ 0xB0 ∷ [])
    (small_drop 1 (swap_word_bytes (code_words f n)) (small_turned (code_words f n) (small_take (4 + 4 * n) (drop (f.place + 4) f.bytes) (small_drop (f.place + 4) f.bytes small))))
    (omega arith, (omega arith, (omega arith, tt)))

-- ---- the law

table_is : (image : Image) (f : Form) (a : Area) (place : ℕ) → IsPlaced image f a place → IsTable place (codes_of f) (own (scopes_of f a))
table_is image f a place is =
    let shown = none_both (fault_list (fault_when (is_too_long (words_after f)) TooLong)) (records_show image f a 0 (records_of a)) (accepted_shows image f a is.accepted is.area) in
    let small = at_small f.bytes is.bytes in
    let found = words_there f a is.area in
    let n = found.0 in
    let has = found.1 in
    let few : n ≤ 254 = few_words f n small has shown.0 in
    let same = codes_are f n has in
    let size : length (codes_of f) ≡ 6 + 4 * n = ap length same ∙ codes_length f n has in
    let sites = sites_are image f a 0 (records_of a) shown.1 in
    let low = is.low in
    record {
      bytes = small_at (codes_of f) (subst Small (sym same) (codes_small f n small));
      whole = omega (arith, size);
      few = omega (arith, size, few);
      low = is.room;
      each = descriptors_fit f.size place (place + codes_end (codes_of f)) (scopes_of f a) (omega arith) (omega arith) is.room
          (scopes_made image f a place 0 0 (records_of a) is.above is.start_even is.size_even (omega arith) sites);
    }

pub law_of_entries : RewrittenEntriesAreRead
law_of_entries image f a place after is small = law_of_tables f.start place (codes_of f) (own (scopes_of f a)) after (table_is image f a place is) small
