-- Pages: cells and addresses, and what stands in the segments that pages make.
use Rattle.std.proofs.Common.{◌≡◌, ℕ, zero, suc, ◌+◌, ◌-◌, ◌*◌, ◌/◌, ◌%◌, ◌^◌, ◌<◌, ◌≤◌, ◌⊎◌, inl, inr, Bool, true, false, not, cond, if◌then◌else◌, ◌==◌, ◌&&◌, nat_lt, List, [], ◌∷◌, ◌++◌, length, get_or, map, take, drop, set, Option, Some, None, Ok, Err, refl, sym, ap, ◌∙◌, arith, le-leb}
use Rattle.std.proofs.lemmas.List.{get_or-map, length-map, get_or_default, length-set, get_or-set_same, get_or-set_other, same_lists, get_or-drop, at_drop_more}
use Rattle.std.proofs.lemmas.Grind.{same_number_lists}
use Rattle.std.proofs.lemmas.Bool.{and_parts, le-ltb, leb-true, ltb-true, ltb-false, eqb-true, eqb-false}
use Rattle.std.specs.Prelude.{IsTrue, IfSome}
use Rattle.byteorder.specs.Endian.{little_number, little_bytes}
use Rattle.byteorder.specs.Numbers.{length-bytes_low_first}
use Rattle.eh_bus.specs.Segment.{Segment, holds, number_at, with_number_at}
use Rattle.eh_bus.specs.Memory.{Memory, fault_in, number_in, store_number, store, store_run, run_fault, store_words, first_fault, load_fault, fetch_fault, store_fault, is_closed, is_open_word, guard_hit}
use Rattle.eh_bus.specs.Map.{AreApart, AreSegments}
use Rattle.eh_bus.specs.Place.{IsPlace, IsWidth}
use Rattle.mem_buses.specs.Pages.{Pages, ArePages, AreOwned, AreUsed, CanStore, PagesMake, HasPage, ArePageNumbers, cell_in, cell_of, byte_at_cell, owner_at_cell, byte_of, owner_of, bytes_from, segment_at, segments_at, part_holds, spans, IsSpan, IsOpen, IsCode, cell_at}
use Rattle.mem_buses.specs.declared.part.SegmentInfo.{SegmentInfo}
use Rattle.mem_buses.specs.declared.part.CellRun.{CellRun}
use Rattle.mem_buses.specs.declared.paged.AccessCell.{AccessCell}
use Rattle.eh_bus.specs.declared.fault.BusFault.{BusFault}
use Rattle.eh_bus.specs.declared.fault.BusFault.TheVariants.{Unmapped, Unaligned, SavedSlot, Protected, NotExecutable}
use Rattle.eh_bus.specs.declared.map.TheConstants.{PAGE_SIZE, POOL_END, POOL_START, STACK_START}
use Rattle.mem_guards.specs.Flags.{AreFree}
use Rattle.eh_bus.proofs.AccessLaws.{passes, fault_some, load_fault_none}
use Rattle.eh_bus.proofs.Kept.{kept}
use Rattle.mem_buses.proofs.Places.{by_holding, unread, unwritten}
use Rattle.eh_bus.proofs.WordLaws.{little_same, other_byte}
use Rattle.eh_bus.proofs.UndoLaws.{new_byte, length_put}

pub no_part : SegmentInfo
no_part = record { start = 0; size = 0; write = false; exec = false }

-- ---- cells

pub record IsCell (p : Pages) (a at : ℕ) : Type 0 where
  pub place : ℕ
  pub is : get_or p.places (a / PAGE_SIZE) None ≡ Some place
  pub within : place < length p.firsts
  pub number : get_or p.firsts place 0 / PAGE_SIZE ≡ a / PAGE_SIZE
  pub cell : place * PAGE_SIZE + a % PAGE_SIZE ≡ at

pub is_cell : (p : Pages) (a at : ℕ) → ArePages p → cell_of p a ≡ Some at → IsCell p a at
is_cell p a at x e = go (get_or p.places (a / PAGE_SIZE) None) refl e
  where
    go : (o : Option ℕ) → get_or p.places (a / PAGE_SIZE) None ≡ o → cell_in o a ≡ Some at → IsCell p a at
    go None o e = absurd (cc)
    go (Some q) o e = let n = x.number (a / PAGE_SIZE) q o in record { place = q; is = o; within = n.0; number = n.1; cell = cc }

-- a cell lies in its page
pub cell_room : (p : Pages) (a at n : ℕ) → ArePages p → cell_of p a ≡ Some at → a % PAGE_SIZE + n ≤ PAGE_SIZE → at + n ≤ length p.bytes
cell_room p a at n x e h = let s = is_cell p a at x e in omega (arith, s.within, s.cell, x.bytes)

-- the next addresses of the page have the next cells
pub cell_next : (p : Pages) (a at k : ℕ) → cell_of p a ≡ Some at → a % PAGE_SIZE + k < PAGE_SIZE → cell_of p (a + k) ≡ Some (at + k)
cell_next p a at k e h =
    let same : (a + k) / PAGE_SIZE ≡ a / PAGE_SIZE = omega arith in
    let rest : (a + k) % PAGE_SIZE ≡ a % PAGE_SIZE + k = omega arith in
    go (get_or p.places (a / PAGE_SIZE) None) refl same rest e
  where
    go : (o : Option ℕ) → get_or p.places (a / PAGE_SIZE) None ≡ o → (a + k) / PAGE_SIZE ≡ a / PAGE_SIZE → (a + k) % PAGE_SIZE ≡ a % PAGE_SIZE + k → cell_in o a ≡ Some at
        → cell_of p (a + k) ≡ Some (at + k)
    go None o same rest e = absurd (cc)
    go (Some q) o same rest e = rw (same, o, rest) (let f : q * PAGE_SIZE + a % PAGE_SIZE ≡ at = cc in ap Some (omega arith))

-- two addresses with one cell are equal
pub cell_back : (p : Pages) (a at b k : ℕ) → ArePages p → cell_of p a ≡ Some at → a % PAGE_SIZE + k < PAGE_SIZE → cell_of p b ≡ Some (at + k) → b ≡ a + k
cell_back p a at b k x e h f =
    let s = is_cell p a at x e in
    let t = is_cell p b (at + k) x f in
    let same : t.place ≡ s.place = omega (arith, s.cell, t.cell) in
    let number : b / PAGE_SIZE ≡ a / PAGE_SIZE = sym t.number ∙ ap (λ (q : ℕ). get_or p.firsts q 0 / PAGE_SIZE) same ∙ s.number in
    omega (arith, s.cell, t.cell)

-- ---- bytes of a run of addresses

pub length-from : (f : ℕ → ℕ) (start n : ℕ) → length (bytes_from f start n) ≡ n
unfolding bytes_from
length-from f start zero = refl
length-from f start (suc n) = ap suc (length-from f (suc start) n)

pub from_at : (f : ℕ → ℕ) (start n k : ℕ) → k < n → get_or (bytes_from f start n) k 0 ≡ f (start + k)
unfolding bytes_from
from_at f start zero k h = absurd (omega arith)
from_at f start (suc n) zero h = ap f (omega arith)
from_at f start (suc n) (suc k) h = from_at f (suc start) n k (omega arith) ∙ ap f (omega arith)

same_from : (f g : ℕ → ℕ) (start n : ℕ) → ((k : ℕ) → k < n → f (start + k) ≡ g (start + k)) → bytes_from f start n ≡ bytes_from g start n
same_from f g start n h =
    same_number_lists _ _ (length-from f start n ∙ sym (length-from g start n))
    (λ k l. let m : k < n = omega (arith, length-from f start n) in from_at f start n k m ∙ h k m ∙ sym (from_at g start n k m))

-- ---- the segments that parts make

pub holds_covers : (f : ℕ → ℕ) (part : SegmentInfo) (a n : ℕ) → holds (segment_at f part) a n ≡ part_holds part a n
holds_covers f part a n = rw (length-from f part.start part.size) refl

pub at_part : (f : ℕ → ℕ) (parts : List SegmentInfo) (i : ℕ) (s : Segment) (d : SegmentInfo) → i < length parts → get_or (segments_at f parts) i s ≡ segment_at f (get_or parts i d)
at_part f parts i s d h = get_or-map (segment_at f) parts i d s h

pub record Covered (part : SegmentInfo) (a n : ℕ) : Type 0 where
  pub low : part.start ≤ a
  pub high : a - part.start + n ≤ part.size

pub covered : (part : SegmentInfo) (a n : ℕ) → part_holds part a n ≡ true → Covered part a n
covered part a n h = let p = and_parts _ _ h in record { low = leb-true _ _ p.0; high = leb-true _ _ p.1 }

pub covering : (part : SegmentInfo) (a n : ℕ) → part.start ≤ a → a - part.start + n ≤ part.size → part_holds part a n ≡ true
covering part a n l h = rw (le-leb part.start a l, le-leb (a - part.start + n) part.size h) refl

covers_byte : (part : SegmentInfo) (a n k : ℕ) → k < n → part_holds part a n ≡ true → part_holds part (a + k) 1 ≡ true
covers_byte part a n k l h = let c = covered part a n h in covering part (a + k) 1 (omega (arith, c.low)) (omega (arith, c.low, c.high))

owned_part : (has : ℕ → Option ℕ) (parts : List SegmentInfo) (d : SegmentInfo) (a i n : ℕ) → AreOwned has parts → 0 < n → i < length parts → part_holds (get_or parts i d) a n ≡ true → has a ≡ Some i
owned_part has parts d a i n o z l h =
    let c = covered (get_or parts i d) a n h in
    o.owner a i d l (covering (get_or parts i d) a 1 c.low (omega (arith, c.high)))

-- an address has one owner, so no two parts meet
pub parts_apart : (f : ℕ → ℕ) (has : ℕ → Option ℕ) (parts : List SegmentInfo) (d : SegmentInfo) → AreOwned has parts → AreApart (segments_at f parts)
parts_apart f has parts d o a i j s h k x y =
    let l : i < length parts = omega (arith, length-map parts (segment_at f)) in
    let m : j < length parts = omega (arith, length-map parts (segment_at f)) in
    let p = rw (at_part f parts i s d l, holds_covers f (get_or parts i d) a 1) at x in
    let q = rw (at_part f parts j s d m, holds_covers f (get_or parts j d) a 1) at y in
    let e : Some i ≡ Some j = sym (o.owner a i d l p) ∙ o.owner a j d m q in
    cc

pub owned_place : (f : ℕ → ℕ) (has : ℕ → Option ℕ) (parts : List SegmentInfo) (d : SegmentInfo) (a n i : ℕ) → AreOwned has parts → 0 < n → has a ≡ Some i → part_holds (get_or parts i d) a n ≡ true
    → IsPlace n (segments_at f parts) a i
owned_place f has parts d a n i o z e h =
    let l = (o.part a i d e).0 in
    by_holding n a (segments_at f parts) i (parts_apart f has parts d o) z (rw length-map l) (λ s. rw (at_part f parts i s d l, holds_covers f (get_or parts i d) a n) h)

-- where no part covers an access it is unmapped
uncovered : (f : ℕ → ℕ) (parts : List SegmentInfo) (a n : ℕ) (fault : Segment → Option BusFault) → ((i : ℕ) (d : SegmentInfo) → i < length parts → part_holds (get_or parts i d) a n ≡ false)
    → fault_in fault n (segments_at f parts) a ≡ Some (Unmapped a)
uncovered f [] a n fault h = refl
uncovered f (part ∷ more) a n fault h =
    let here = holds_covers f part a n ∙ h 0 part (omega arith) in
    rw here (uncovered f more a n fault (λ i d l. h (suc i) d (omega arith)))

pub unowned : (f : ℕ → ℕ) (has : ℕ → Option ℕ) (parts : List SegmentInfo) (a n : ℕ) → AreOwned has parts → 0 < n → has a ≡ None → (fault : Segment → Option BusFault)
    → fault_in fault n (segments_at f parts) a ≡ Some (Unmapped a)
unowned f has parts a n o z e fault = uncovered f parts a n fault (λ i d l. go i d l (part_holds (get_or parts i d) a n) refl)
  where
    go : (i : ℕ) (d : SegmentInfo) → i < length parts → (t : Bool) → part_holds (get_or parts i d) a n ≡ t → t ≡ false
    go i d l false t = refl
    go i d l true t = absurd (let g : None ≡ Some i = sym e ∙ owned_part has parts d a i n o z l t in cc)

pub misowned : (f : ℕ → ℕ) (has : ℕ → Option ℕ) (parts : List SegmentInfo) (d : SegmentInfo) (a n i : ℕ) → AreOwned has parts → 0 < n → has a ≡ Some i → part_holds (get_or parts i d) a n ≡ false
    → (fault : Segment → Option BusFault) → fault_in fault n (segments_at f parts) a ≡ Some (Unmapped a)
misowned f has parts d a n i o z e h fault = uncovered f parts a n fault (λ j c l. go j c l (part_holds (get_or parts j c) a n) refl)
  where
    go : (j : ℕ) (c : SegmentInfo) → j < length parts → (t : Bool) → part_holds (get_or parts j c) a n ≡ t → t ≡ false
    go j c l false t = refl
    go j c l true t =
        let g : Some i ≡ Some j = sym e ∙ owned_part has parts c a j n o z l t in
        let s : i ≡ j = cc in
        absurd (let u : part_holds (get_or parts i d) a n ≡ true = rw (s, get_or_default parts j d c l) t in let v : true ≡ false = sym u ∙ h in cc)

-- ---- spans

record InSpan (s : CellRun) (a n : ℕ) : Type 0 where
  low : s.start ≤ a
  high : a - s.start + n ≤ s.size

in_span : (s : CellRun) (a n : ℕ) → spans s a n ≡ true → InSpan s a n
in_span s a n h = let p = and_parts _ _ h in record { low = leb-true _ _ p.0; high = leb-true _ _ p.1 }

-- each word of words that lie in a span lies in it
word_spans : (s : CellRun) (a n k : ℕ) → spans s a (4 * n) ≡ true → k < n → spans s (a + 4 * k) 4 ≡ true
word_spans s a n k h l =
    let i = in_span s a (4 * n) h in
    rw (le-leb s.start (a + 4 * k) (omega (arith, i.low)), le-leb (a + 4 * k - s.start + 4) s.size (omega (arith, i.low, i.high, l))) refl

pub span_covers : (places : List (Option ℕ)) (parts : List SegmentInfo) (s : CellRun) (d : SegmentInfo) (a n : ℕ) → IsSpan places parts s → spans s a n ≡ true → part_holds (get_or parts s.part d) a n ≡ true
span_covers places parts s d a n x h = let i = in_span s a n h in covering (get_or parts s.part d) a n (omega (arith, i.low, x.low d)) (omega (arith, i.low, i.high, x.low d, x.high d))

pub span_cell : (places : List (Option ℕ)) (parts : List SegmentInfo) (s : CellRun) (a n : ℕ) → IsSpan places parts s → 0 < n → spans s a n ≡ true → cell_at places a ≡ Some (s.at + (a - s.start))
span_cell places parts s a n x z h =
    let i = in_span s a n h in
    let to : s.start + (a - s.start) ≡ a = omega (arith, i.low) in
    rw to at (x.cell (a - s.start) (omega (arith, i.high)))

pub span_place : (f : ℕ → ℕ) (has : ℕ → Option ℕ) (places : List (Option ℕ)) (parts : List SegmentInfo) (s : CellRun) (a n : ℕ) → AreOwned has parts → IsSpan places parts s → 0 < n → spans s a n ≡ true
    → IsPlace n (segments_at f parts) a s.part
span_place f has places parts s a n own x z h =
    let c = span_covers places parts s no_part a n x h in
    owned_place f has parts no_part a n s.part own z (owned_part has parts no_part a s.part n own z x.inside c) c

-- the bytes up to the end of a page stand one after the other
pub span_more : (p : Pages) (start at size more : ℕ) → ((k : ℕ) → k < size → cell_of p (start + k) ≡ Some (at + k)) → cell_of p (start + size) ≡ Some (at + size)
    → more ≤ PAGE_SIZE - (start + size) % PAGE_SIZE → (k : ℕ) → k < size + more → cell_of p (start + k) ≡ Some (at + k)
span_more p start at size more old e h k l = go (nat_lt k size) refl
  where
    go : (t : Bool) → nat_lt k size ≡ t → cell_of p (start + k) ≡ Some (at + k)
    go true t = old k (ltb-true k size t)
    go false t =
        let b = ltb-false k size t in
        let to : start + size + (k - size) ≡ start + k = omega arith in
        let at_to : at + size + (k - size) ≡ at + k = omega arith in
        rw (to, at_to) at (cell_next p (start + size) (at + size) (k - size) e (omega arith))

-- ---- numbers

pub paged_number : (p : Pages) (parts : List SegmentInfo) (d : SegmentInfo) (a n i at : ℕ) → ArePages p → i < length parts → part_holds (get_or parts i d) a n ≡ true
    → IsPlace n (segments_at (byte_of p) parts) a i → cell_of p a ≡ Some at → a % PAGE_SIZE + n ≤ PAGE_SIZE
    → number_in n (segments_at (byte_of p) parts) a ≡ little_number n (drop at p.bytes)
paged_number p parts d a n i at x l h place e w =
    let part = get_or parts i d in
    let c = covered part a n h in
    let s = segment_at (byte_of p) part in
    let is = at_part (byte_of p) parts i s d l in
    place.number s ∙ ap (λ (t : Segment). number_at n t a) is
    ∙ little_same 0 n (drop (a - part.start) s.bytes) (drop at p.bytes) each
  where
    each : (k : ℕ) → k < n → get_or (drop (a - (get_or parts i d).start) (bytes_from (byte_of p) (get_or parts i d).start (get_or parts i d).size)) (0 + k) 0 ≡ get_or (drop at p.bytes) (0 + k) 0
    each k m =
        let part = get_or parts i d in
        let c = covered part a n h in
        let b : a - part.start + k < part.size = omega (arith, c.low, c.high) in
        let to : part.start + (a - part.start + k) ≡ a + k = omega (arith, c.low) in
        let byte = from_at (byte_of p) part.start part.size (a - part.start + k) b ∙ ap (byte_of p) to ∙ ap (byte_at_cell p.bytes) (cell_next p a at k e (omega arith)) in
        let z : 0 + k ≡ k = omega arith in
        rw (z, get_or-drop (a - part.start) (bytes_from (byte_of p) part.start part.size) k 0, get_or-drop at p.bytes k 0) byte

-- the owner of what stands nowhere, and of what stands at a cell
pub no_cell : (p : Pages) (a : ℕ) → cell_of p a ≡ None → owner_of p a ≡ None
no_cell p a e = ap (owner_at_cell p.owners) e

pub at_cell : (p : Pages) (a at : ℕ) → cell_of p a ≡ Some at → owner_of p a ≡ get_or p.owners at None
at_cell p a at e = ap (owner_at_cell p.owners) e

pub cell_owned : (p : Pages) (a at : ℕ) → ArePages p → cell_of p a ≡ Some at → at < length p.owners
cell_owned p a at x e =
    let s = is_cell p a at x e in
    omega (arith, s.within, s.cell, x.bytes, x.owners)

-- ---- stores

-- the pages with v in the n bytes from a cell on
abbrev pub with_cell : Pages → ℕ → ℕ → ℕ → Pages
with_cell p n at v = record p { bytes = take at p.bytes ++ (little_bytes n v ++ drop (at + n) p.bytes) }

pub length-with_cell : (p : Pages) (n at v : ℕ) → at + n ≤ length p.bytes → length (with_cell p n at v).bytes ≡ length p.bytes
length-with_cell p n at v h = length_put at n (little_bytes n v) p.bytes (length-bytes_low_first 0 n v) h

pub with_cell_pages : (p : Pages) (n at v : ℕ) → at + n ≤ length p.bytes → ArePages p → ArePages (with_cell p n at v)
with_cell_pages p n at v h x =
    let l = length-with_cell p n at v h in
    record { number = x.number; place = x.place; bytes = l ∙ x.bytes; owners = x.owners ∙ sym l }

byte_in : (p : Pages) (a at n v k : ℕ) → cell_of p a ≡ Some at → a % PAGE_SIZE + n ≤ PAGE_SIZE → at + n ≤ length p.bytes → k < n
    → byte_of (with_cell p n at v) (a + k) ≡ get_or (little_bytes n v) k 0
byte_in p a at n v k e w h l =
    let next = cell_next p a at k e (omega arith) in
    let same : at + k - at ≡ k = omega arith in
    ap (byte_at_cell (with_cell p n at v).bytes) next
    ∙ new_byte at n (at + k) (little_bytes n v) p.bytes (length-bytes_low_first 0 n v) h (omega arith) (omega arith)
    ∙ ap (λ (j : ℕ). get_or (little_bytes n v) j 0) same

byte_out : (p : Pages) (a at n v b : ℕ) → ArePages p → cell_of p a ≡ Some at → a % PAGE_SIZE + n ≤ PAGE_SIZE → at + n ≤ length p.bytes → ((b < a) ⊎ (a + n ≤ b))
    → byte_of (with_cell p n at v) b ≡ byte_of p b
byte_out p a at n v b x e w h o = go (cell_of p b) refl
  where
    away : (s : ℕ) → cell_of p b ≡ Some s → ((b < a) ⊎ (a + n ≤ b)) → (t : Bool) → nat_lt s at ≡ t → (u : Bool) → nat_lt s (at + n) ≡ u → ((s < at) ⊎ (at + n ≤ s))
    away s f o true t u v = inl (ltb-true s at t)
    away s f o false t false u = inr (ltb-false s (at + n) u)
    away s f o false t true u =
        let low = ltb-false s at t in
        let high = ltb-true s (at + n) u in
        let k = s - at in
        let to : s ≡ at + (s - at) = omega arith in
        let same = cell_back p a at b (s - at) x e (omega arith) (f ∙ ap Some to) in
        absurd (no o same (omega arith))
      where
        no : ((b < a) ⊎ (a + n ≤ b)) → b ≡ a + (s - at) → s - at < n → ⊥
        no (inl l) same m = omega arith
        no (inr l) same m = omega arith

    go : (q : Option ℕ) → cell_of p b ≡ q → byte_of (with_cell p n at v) b ≡ byte_of p b
    go None f = ap (byte_at_cell (with_cell p n at v).bytes) f ∙ sym (ap (byte_at_cell p.bytes) f)
    go (Some s) f =
        ap (byte_at_cell (with_cell p n at v).bytes) f
        ∙ other_byte at n s (little_bytes n v) p.bytes (length-bytes_low_first 0 n v) h (away s f o (nat_lt s at) refl (nat_lt s (at + n)) refl)
        ∙ sym (ap (byte_at_cell p.bytes) f)

-- a part whose bytes change in the n bytes from a on alone
part_with : (f g : ℕ → ℕ) (part : SegmentInfo) (a n v : ℕ) → Covered part a n
    → ((k : ℕ) → k < n → g (a + k) ≡ get_or (little_bytes n v) k 0)
    → ((b : ℕ) → ((b < a) ⊎ (a + n ≤ b)) → g b ≡ f b)
    → segment_at g part ≡ with_number_at n (segment_at f part) a v
part_with f g part a n v c inside outside = ap (λ (bs : List ℕ). record { start = part.start; bytes = bs; write = part.write; exec = part.exec }) bytes
  where
    bytes : bytes_from g part.start part.size ≡ take (a - part.start) (bytes_from f part.start part.size) ++ (little_bytes n v ++ drop (a - part.start + n) (bytes_from f part.start part.size))
    bytes =
        let lf = length-from f part.start part.size in
        let lg = length-from g part.start part.size in
        let room : a - part.start + n ≤ length (bytes_from f part.start part.size) = omega (arith, c.high, lf) in
        let ln = length-bytes_low_first 0 n v in
        let lp = length_put (a - part.start) n (little_bytes n v) (bytes_from f part.start part.size) ln room in
        same_number_lists _ _ (lg ∙ sym lf ∙ sym lp) (λ k h. each k (omega (arith, lg)) room ln (nat_lt k (a - part.start)) refl (nat_lt k (a - part.start + n)) refl)
      where
        each : (k : ℕ) → k < part.size → a - part.start + n ≤ length (bytes_from f part.start part.size) → length (little_bytes n v) ≡ n
            → (t : Bool) → nat_lt k (a - part.start) ≡ t → (u : Bool) → nat_lt k (a - part.start + n) ≡ u
            → get_or (bytes_from g part.start part.size) k 0
            ≡ get_or (take (a - part.start) (bytes_from f part.start part.size) ++ (little_bytes n v ++ drop (a - part.start + n) (bytes_from f part.start part.size))) k 0
        each k h room ln true t u w =
            let l = ltb-true k (a - part.start) t in
            from_at g part.start part.size k h ∙ outside (part.start + k) (inl (omega (arith, c.low))) ∙ sym (other_byte (a - part.start) n k (little_bytes n v) (bytes_from f part.start part.size) ln room (inl l) ∙ from_at f part.start part.size k h)
        each k h room ln false t false u =
            let l = ltb-false k (a - part.start + n) u in
            from_at g part.start part.size k h ∙ outside (part.start + k) (inr (omega (arith, c.low))) ∙ sym (other_byte (a - part.start) n k (little_bytes n v) (bytes_from f part.start part.size) ln room (inr l) ∙ from_at f part.start part.size k h)
        each k h room ln false t true u =
            let l = ltb-false k (a - part.start) t in
            let m = ltb-true k (a - part.start + n) u in
            let to : part.start + k ≡ a + (k - (a - part.start)) = omega (arith, c.low) in
            from_at g part.start part.size k h ∙ ap g to ∙ inside (k - (a - part.start)) (omega arith) ∙ sym (new_byte (a - part.start) n k (little_bytes n v) (bytes_from f part.start part.size) ln room l m)

pub part_same : (f g : ℕ → ℕ) (part : SegmentInfo) → ((k : ℕ) → k < part.size → g (part.start + k) ≡ f (part.start + k)) → segment_at g part ≡ segment_at f part
part_same f g part h = ap (λ (bs : List ℕ). record { start = part.start; bytes = bs; write = part.write; exec = part.exec }) (same_from g f part.start part.size h)

pub paged_written : (p : Pages) (parts : List SegmentInfo) (d : SegmentInfo) (a at n i v : ℕ) → ArePages p → AreOwned (owner_of p) parts → i < length parts → part_holds (get_or parts i d) a n ≡ true
    → IsPlace n (segments_at (byte_of p) parts) a i → cell_of p a ≡ Some at → a % PAGE_SIZE + n ≤ PAGE_SIZE → at + n ≤ length p.bytes
    → segments_at (byte_of (with_cell p n at v)) parts ≡ store_number n (segments_at (byte_of p) parts) a v
paged_written p parts d a at n i v x own l c place e w h =
    let s = segment_at (byte_of p) (get_or parts i d) in
    same_lists _ _ (length-map parts (segment_at (byte_of (with_cell p n at v))) ∙ sym (length-set (segments_at (byte_of p) parts) i (with_number_at n (get_or (segments_at (byte_of p) parts) i s) a v) ∙ length-map parts (segment_at (byte_of p))))
    (λ j t m. each j t (omega (arith, length-map parts (segment_at (byte_of (with_cell p n at v))))) (j == i) refl)
    ∙ sym (place.change s v)
  where
    each : (j : ℕ) (t : Segment) → j < length parts → (q : Bool) → (j == i) ≡ q
        → get_or (segments_at (byte_of (with_cell p n at v)) parts) j t
        ≡ get_or (set (segments_at (byte_of p) parts) i (with_number_at n (get_or (segments_at (byte_of p) parts) i (segment_at (byte_of p) (get_or parts i d))) a v)) j t
    each j t m true q =
        let same : j ≡ i = eqb-true j i q in
        let there : i < length (segments_at (byte_of p) parts) = rw length-map l in
        rw same (
        at_part (byte_of (with_cell p n at v)) parts i t d l
        ∙ part_with (byte_of p) (byte_of (with_cell p n at v)) (get_or parts i d) a n v (covered (get_or parts i d) a n c) (λ k z. byte_in p a at n v k e w h z) (λ b z. byte_out p a at n v b x e w h z)
        ∙ sym (get_or-set_same (segments_at (byte_of p) parts) i _ t there ∙ ap (λ (z : Segment). with_number_at n z a v) (at_part (byte_of p) parts i (segment_at (byte_of p) (get_or parts i d)) d l))
        )
    each j t m false q =
        at_part (byte_of (with_cell p n at v)) parts j t d m
        ∙ part_same (byte_of p) (byte_of (with_cell p n at v)) (get_or parts j d) (λ k z. byte_out p a at n v ((get_or parts j d).start + k) x e w h (away k z (nat_lt ((get_or parts j d).start + k) a) refl (nat_lt ((get_or parts j d).start + k) (a + n)) refl))
        ∙ sym (get_or-set_other (segments_at (byte_of p) parts) i j _ t (eqb-false j i q) ∙ at_part (byte_of p) parts j t d m)
      where
        away : (k : ℕ) → k < (get_or parts j d).size → (t : Bool) → nat_lt ((get_or parts j d).start + k) a ≡ t → (u : Bool) → nat_lt ((get_or parts j d).start + k) (a + n) ≡ u
            → (((get_or parts j d).start + k < a) ⊎ (a + n ≤ (get_or parts j d).start + k))
        away k z true t u y = inl (ltb-true _ _ t)
        away k z false t false u = inr (ltb-false _ _ u)
        away k z false t true u =
            let low = ltb-false ((get_or parts j d).start + k) a t in
            let high = ltb-true ((get_or parts j d).start + k) (a + n) u in
            let b = (get_or parts j d).start + k in
            let mine = own.owner b j d m (covering (get_or parts j d) b 1 (omega arith) (omega arith)) in
            let to : a + (b - a) ≡ b = omega arith in
            let his = own.owner b i d l (rw to at (covers_byte (get_or parts i d) a n (b - a) (omega arith) c)) in
            absurd (let g : Some j ≡ Some i = sym mine ∙ his in eqb-false j i q (cc))

-- what no segment has stays 0
pub with_cell_used : (p : Pages) (parts : List SegmentInfo) (d : SegmentInfo) (a at n i v : ℕ) → ArePages p → AreOwned (owner_of p) parts → i < length parts → part_holds (get_or parts i d) a n ≡ true
    → cell_of p a ≡ Some at → a % PAGE_SIZE + n ≤ PAGE_SIZE → at + n ≤ length p.bytes → AreUsed p → AreUsed (with_cell p n at v)
with_cell_used p parts d a at n i v x own l c e w h y = record {
  used = y.used;
  blank = λ b z. byte_out p a at n v b x e w h (away b z (nat_lt b a) refl (nat_lt b (a + n)) refl) ∙ y.blank b z;
}
  where
    away : (b : ℕ) → owner_of p b ≡ None → (t : Bool) → nat_lt b a ≡ t → (u : Bool) → nat_lt b (a + n) ≡ u → ((b < a) ⊎ (a + n ≤ b))
    away b z true t u y = inl (ltb-true _ _ t)
    away b z false t false u = inr (ltb-false _ _ u)
    away b z false t true u =
        let low = ltb-false b a t in
        let high = ltb-true b (a + n) u in
        let to : a + (b - a) ≡ b = omega arith in
        let his = own.owner b i d l (rw to at (covers_byte (get_or parts i d) a n (b - a) (omega arith) c)) in
        absurd (let g : None ≡ Some i = sym z ∙ his in cc)

-- an access that is a multiple of its size lies in one page
pub in_page : (n a : ℕ) → IsWidth n → (a % n == 0) ≡ true → a % PAGE_SIZE + n ≤ PAGE_SIZE
in_page n a (inl e) h = omega arith
in_page n a (inr (inl e)) h = let f = eqb-true _ _ h in let g : a % 2 ≡ 0 = rw e at f in omega arith
in_page n a (inr (inr e)) h = let f = eqb-true _ _ h in let g : a % 4 ≡ 0 = rw e at f in omega arith

-- what the tests of an access say of its alignment

pub load_aligned : (n a : ℕ) → load_fault n a ≡ None → (a % n == 0) ≡ true
load_aligned n a e = go (a % n == 0) refl e
  where
    go : (t : Bool) → (a % n == 0) ≡ t → cond (not t) (Some (Unaligned a)) (if is_closed a && not (is_open_word n a) then Some (Protected a) else None) ≡ None → t ≡ true
    go true t e = refl
    go false t e = absurd (cc)

pub fetch_aligned : (s : Segment) (a : ℕ) → fetch_fault s a ≡ None → (a % 2 == 0) ≡ true
fetch_aligned s a e = go (a % 2 == 0) refl e
  where
    go : (t : Bool) → (a % 2 == 0) ≡ t → cond (not t) (Some (Unaligned a)) (if not s.exec then Some (NotExecutable a) else None) ≡ None → t ≡ true
    go true t e = refl
    go false t e = absurd (cc)

pub located : (n : ℕ) (p : Pages) (parts : List SegmentInfo) (a i at : ℕ) → IsWidth n → (a % n == 0) ≡ true → ArePages p → i < length parts → ((d : SegmentInfo) → part_holds (get_or parts i d) a n ≡ true)
    → IsPlace n (segments_at (byte_of p) parts) a i → cell_of p a ≡ Some at → CanStore n p parts a i at
located n p parts a i at w e x l c place s =
    let one = in_page n a w e in
    record { inside = l; covering = c; place = place; cell = s; one_page = one; room = cell_room p a at n x s one }

pub cell_number : (n : ℕ) (p : Pages) (parts : List SegmentInfo) (a i at : ℕ) → ArePages p → CanStore n p parts a i at → number_in n (segments_at (byte_of p) parts) a ≡ little_number n (drop at p.bytes)
cell_number n p parts a i at x c = paged_number p parts no_part a n i at x c.inside (c.covering no_part) c.place c.cell c.one_page

pub cell_fault : (n : ℕ) (p : Pages) (parts : List SegmentInfo) (d : SegmentInfo) (a i : ℕ) (f : Segment → Option BusFault) → i < length parts → IsPlace n (segments_at (byte_of p) parts) a i
    → fault_in f n (segments_at (byte_of p) parts) a ≡ f (segment_at (byte_of p) (get_or parts i d))
cell_fault n p parts d a i f l place = place.fault (segment_at (byte_of p) (get_or parts i d)) f ∙ ap f (at_part (byte_of p) parts i (segment_at (byte_of p) (get_or parts i d)) d l)

pub exec_of : (parts : List SegmentInfo) (i : ℕ) (d e : SegmentInfo) → i < length parts → (get_or parts i d).exec ≡ (get_or parts i e).exec
exec_of parts i d e h = ap (λ (part : SegmentInfo). part.exec) (get_or_default parts i d e h)

pub write_of : (parts : List SegmentInfo) (i : ℕ) (d e : SegmentInfo) → i < length parts → (get_or parts i d).write ≡ (get_or parts i e).write
write_of parts i d e h = ap (λ (part : SegmentInfo). part.write) (get_or_default parts i d e h)

pub store_aligned : (n : ℕ) (guards : List ℕ) (s : Segment) (a : ℕ) → store_fault n guards s a ≡ None → (a % n == 0) ≡ true
store_aligned n guards s a e = (passes n guards s a e).aligned

-- ---- accesses in a span

pub near_can : (n : ℕ) (p : Pages) (parts : List SegmentInfo) (s : CellRun) (a : ℕ) → IsWidth n → ArePages p → AreOwned (owner_of p) parts → IsSpan p.places parts s → spans s a n ≡ true → (a % n == 0) ≡ true
    → CanStore n p parts a s.part (s.at + (a - s.start))
near_can n p parts s a w x own near h e =
    let z = positive n w in
    located n p parts a s.part (s.at + (a - s.start)) w e x near.inside (λ d. span_covers p.places parts s d a n near h) (span_place (byte_of p) (owner_of p) p.places parts s a n own near z h) (span_cell p.places parts s a n near z h)
  where
    positive : (n : ℕ) → IsWidth n → 0 < n
    positive n (inl e) = omega arith
    positive n (inr (inl e)) = omega arith
    positive n (inr (inr e)) = omega arith

near_fault : (n : ℕ) (p : Pages) (parts : List SegmentInfo) (s : CellRun) (a at : ℕ) (f : Segment → Option BusFault) → CanStore n p parts a s.part at
    → fault_in f n (segments_at (byte_of p) parts) a ≡ f (segment_at (byte_of p) (get_or parts s.part no_part))
near_fault n p parts s a at f can = cell_fault n p parts no_part a s.part f can.inside can.place

open_above : (a : ℕ) → POOL_END ≤ a → is_closed a ≡ false
open_above a h = rw (le-leb POOL_START a (omega arith), le-ltb a POOL_END h) refl

opened : (parts : List SegmentInfo) (s : CellRun) (a n : ℕ) → IsOpen parts s → spans s a n ≡ true → is_closed a ≡ false
opened parts s a n o h = let i = in_span s a n h in open_above a (omega (arith, o.above, i.low))

-- the span of the stack is open
pub stack_opens : (f : ℕ → ℕ) (places : List (Option ℕ)) (parts : List SegmentInfo) (ss : List Segment) (s : CellRun) → segments_at f parts ≡ ss → AreSegments ss → IsSpan places parts s → s.part ≡ 0 → IsOpen parts s
stack_opens f places parts ss s made given x e = record { above = omega (arith, rw e at (x.low no_part), starts); writes = λ d. rw e (write_of parts 0 d no_part some ∙ writes) }
  where
    m : AreSegments (segments_at f parts)
    m = rw made given

    some : 0 < length parts
    some = omega (arith, m.two, length-map parts (segment_at f))

    is : get_or (segments_at f parts) 0 (segment_at f no_part) ≡ segment_at f (get_or parts 0 no_part)
    is = at_part f parts 0 (segment_at f no_part) no_part some

    starts : (get_or parts 0 no_part).start ≡ STACK_START
    starts = rw is at (m.stack (segment_at f no_part)).starts

    writes : (get_or parts 0 no_part).write ≡ true
    writes = rw is at (m.stack (segment_at f no_part)).writes

pub near_load : (n : ℕ) (p : Pages) (parts : List SegmentInfo) (s : CellRun) (a at : ℕ) → CanStore n p parts a s.part at → IsOpen parts s → spans s a n ≡ true → (a % n == 0) ≡ true
    → fault_in (λ t. load_fault n a) n (segments_at (byte_of p) parts) a ≡ None
near_load n p parts s a at can o h e = near_fault n p parts s a at (λ t. load_fault n a) can ∙ load_fault_none n a e (opened parts s a n o h)

pub near_fetch : (p : Pages) (parts : List SegmentInfo) (s : CellRun) (a at : ℕ) → CanStore 2 p parts a s.part at → IsCode parts s → spans s a 2 ≡ true → (a % 2 == 0) ≡ true
    → fault_in (λ t. fetch_fault t a) 2 (segments_at (byte_of p) parts) a ≡ None
near_fetch p parts s a at can code h e =
    let i = in_span s a 2 h in
    let x = code.runs no_part (omega (arith, i.high)) in
    near_fault 2 p parts s a at (λ t. fetch_fault t a) can ∙ rw (e, x) refl

pub near_store : (n : ℕ) (guards : List ℕ) (p : Pages) (parts : List SegmentInfo) (s : CellRun) (a at : ℕ) → CanStore n p parts a s.part at → IsOpen parts s → spans s a n ≡ true → (a % n == 0) ≡ true
    → guard_hit guards a n ≡ None → fault_in (λ t. store_fault n guards t a) n (segments_at (byte_of p) parts) a ≡ None
near_store n guards p parts s a at can o h e g =
    near_fault n p parts s a at (λ t. store_fault n guards t a) can ∙ rw (e, o.writes no_part, g, opened parts s a n o h) refl

pub near_guarded : (n : ℕ) (guards : List ℕ) (p : Pages) (parts : List SegmentInfo) (s : CellRun) (a at g : ℕ) → CanStore n p parts a s.part at → IsOpen parts s → spans s a n ≡ true → (a % n == 0) ≡ true
    → guard_hit guards a n ≡ Some g → fault_in (λ t. store_fault n guards t a) n (segments_at (byte_of p) parts) a ≡ Some (SavedSlot g)
near_guarded n guards p parts s a at g can o h e hit =
    near_fault n p parts s a at (λ t. store_fault n guards t a) can ∙ rw (e, o.writes no_part, hit) refl

-- ---- a store at its cell, whole

pub pages_stored : (n : ℕ) (p new : Pages) (parts : List SegmentInfo) (a i at v : ℕ) → ArePages p → AreUsed p → AreOwned (owner_of p) parts → AreSegments (segments_at (byte_of p) parts)
    → CanStore n p parts a i at → new ≡ with_cell p n at v → PagesMake new parts (store_number n (segments_at (byte_of p) parts) a v)
pages_stored n p new parts a i at v x used own mapped can e = rw e made
  where
    made : PagesMake (with_cell p n at v) parts (store_number n (segments_at (byte_of p) parts) a v)
    made = record {
      sound = with_cell_pages p n at v can.room x;
      used = with_cell_used p parts no_part a at n i v x own can.inside (can.covering no_part) can.cell can.one_page can.room used;
      owned = own;
      mapped = kept n a v (segments_at (byte_of p) parts) mapped;
      made = paged_written p parts no_part a at n i v x own can.inside (can.covering no_part) can.place can.cell can.one_page can.room;
    }

-- what no segment holds isn't written
pub pages_unwritten : (n : ℕ) (p : Pages) (parts : List SegmentInfo) (a v : ℕ) → ArePages p → AreUsed p → AreOwned (owner_of p) parts → AreSegments (segments_at (byte_of p) parts)
    → fault_in (λ s. None) n (segments_at (byte_of p) parts) a ≡ Some (Unmapped a) → PagesMake p parts (store_number n (segments_at (byte_of p) parts) a v)
pages_unwritten n p parts a v x used own mapped e = record {
  sound = x;
  used = used;
  owned = own;
  mapped = kept n a v (segments_at (byte_of p) parts) mapped;
  made = sym (unwritten n a v (segments_at (byte_of p) parts) e);
}

pub pages_same : (p : Pages) (parts : List SegmentInfo) → ArePages p → AreUsed p → AreOwned (owner_of p) parts → AreSegments (segments_at (byte_of p) parts) → PagesMake p parts (segments_at (byte_of p) parts)
pages_same p parts x used own mapped = record { sound = x; used = used; owned = own; mapped = mapped; made = refl }

-- a run that is stored begins at a multiple of 4
pub run_aligned : (gs : List ℕ) (ss : List Segment) (a : ℕ) (words : List ℕ) → run_fault gs ss a words ≡ None → 0 < length words → a % 4 ≡ 0
run_aligned gs ss a [] e h = absurd (omega arith)
run_aligned gs ss a (w ∷ ws) e h = go (fault_in (λ s. store_fault 4 gs s a) 4 ss a) refl e
  where
    go : (o : Option BusFault) → fault_in (λ s. store_fault 4 gs s a) 4 ss a ≡ o → first_fault o (run_fault gs ss ((a + 4) % 2 ^ 32) ws) ≡ None → a % 4 ≡ 0
    go (Some x) f e = absurd (cc)
    go None f e = fault_some 4 a (λ s. store_fault 4 gs s a) ss (a % 4 ≡ 0) (λ s q. eqb-true (a % 4) 0 (passes 4 gs s a q).aligned) f

-- ---- runs in a span

-- each word of a run in a span can be stored at its place from the cell of the first on
pub near_word : (p : Pages) (parts : List SegmentInfo) (s : CellRun) (a n k : ℕ) → a % 4 ≡ 0 → ArePages p → AreOwned (owner_of p) parts → IsSpan p.places parts s → spans s a (4 * n) ≡ true → k < n
    → CanStore 4 p parts (a + 4 * k) s.part (s.at + (a - s.start) + 4 * k)
near_word p parts s a n k e x own near h l =
    let i = in_span s a (4 * n) h in
    let at : s.at + (a + 4 * k - s.start) ≡ s.at + (a - s.start) + 4 * k = omega (arith, i.low) in
    let t : (a + 4 * k) % 4 ≡ 0 = omega (arith, e) in
    rw at at (near_can 4 p parts s (a + 4 * k) (inr (inr refl)) x own near (word_spans s a n k h l) (rw t refl))

-- and so can all of them where no word is guarded
pub near_run : (p : Pages) (parts : List SegmentInfo) (s : CellRun) (gs : List ℕ) (a n k : ℕ) (words : List ℕ) → a % 4 ≡ 0 → a + 4 * n < 2 ^ 32 → ArePages p → AreOwned (owner_of p) parts → IsSpan p.places parts s
    → IsOpen parts s → spans s a (4 * n) ≡ true → ((j : ℕ) → j < n → guard_hit gs (a + 4 * j) 4 ≡ None) → k + length words ≡ n
    → run_fault gs (segments_at (byte_of p) parts) (a + 4 * k) words ≡ None
near_run p parts s gs a n k [] e f x own near o h g l = refl
near_run p parts s gs a n k (w ∷ ws) e f x own near o h g l =
    let m : k < n = omega (arith, l) in
    let t : (a + 4 * k) % 4 ≡ 0 = omega (arith, e) in
    let here = near_store 4 gs p parts s (a + 4 * k) _ (near_word p parts s a n k e x own near h m) o (word_spans s a n k h m) (rw t refl) (g k m) in
    let next : (a + 4 * k + 4) % 2 ^ 32 ≡ a + 4 * (k + 1) = omega (arith, f, m) in
    rw (here, next) (near_run p parts s gs a n (k + 1) ws e f x own near o h g (omega (arith, l)))

pub near_run_free : (p : Pages) (parts : List SegmentInfo) (s : CellRun) (gs : List ℕ) (a : ℕ) (words : List ℕ) → a % 4 ≡ 0 → AreFree gs a (length words) → ArePages p → AreOwned (owner_of p) parts
    → IsSpan p.places parts s → IsOpen parts s → spans s a (4 * length words) ≡ true → run_fault gs (segments_at (byte_of p) parts) a words ≡ None
near_run_free p parts s gs a words e free x own near o h =
    let z : a + 4 * 0 ≡ a = omega arith in
    rw z at (near_run p parts s gs a (length words) 0 words e (omega (arith, free.high)) x own near o h free.free (omega arith))

-- one word more of a run
pub near_stored : (p new : Pages) (parts : List SegmentInfo) (s : CellRun) (a at k : ℕ) (words : List ℕ) → a % 4 ≡ 0 → a + 4 * length words < 2 ^ 32 → PagesMake p parts (segments_at (byte_of p) parts)
    → IsSpan p.places parts s → spans s a (4 * length words) ≡ true → k < length words → at ≡ s.at + (a - s.start) + 4 * k → new ≡ with_cell p 4 at (get_or words k 0)
    → PagesMake new parts (segments_at (byte_of new) parts)
    × (store_words (segments_at (byte_of new) parts) (a + 4 * (k + 1)) (drop (k + 1) words) ≡ store_words (segments_at (byte_of p) parts) (a + 4 * k) (drop k words))
near_stored p new parts s a at k words e f stand near h l i n =
    let v = get_or words k 0 in
    let can = near_word p parts s a (length words) k e stand.sound stand.owned near h l in
    let m = pages_stored 4 p new parts (a + 4 * k) s.part at v stand.sound stand.used stand.owned stand.mapped (rw i can) n in
    let next : (a + 4 * k + 4) % 2 ^ 32 ≡ a + 4 * (k + 1) = omega (arith, f, l) in
    let run : store_words (segments_at (byte_of p) parts) (a + 4 * k) (drop k words) ≡ store_words (store_number 4 (segments_at (byte_of p) parts) (a + 4 * k) v) ((a + 4 * k + 4) % 2 ^ 32) (drop (k + 1) words) =
    at_drop_more (store_words (segments_at (byte_of p) parts) (a + 4 * k)) words k 0 l in
    (record { sound = m.sound; used = m.used; owned = m.owned; mapped = rw m.made m.mapped; made = refl }, rw m.made (sym (rw next at run)))

pub is_store : (n : ℕ) (ss new : List Segment) (guards : List ℕ) (home : ℕ × ℕ) (a v : ℕ) → fault_in (λ s. store_fault n guards s a) n ss a ≡ None → new ≡ store_number n ss a v
    → (Ok tt, record { segments = new; guards = guards; home = home }) ≡ store n (record { segments = ss; guards = guards; home = home }) a v
is_store n ss new guards home a v e w = rw (e, w) refl

pub is_run : (ss new : List Segment) (guards : List ℕ) (home : ℕ × ℕ) (a : ℕ) (words : List ℕ) → run_fault guards ss a words ≡ None → new ≡ store_words ss a words
    → (Ok tt, record { segments = new; guards = guards; home = home }) ≡ store_run (record { segments = ss; guards = guards; home = home }) a words
is_run ss new guards home a words e w = rw (e, w) refl

pub is_refused : (n : ℕ) (m : Memory) (a v : ℕ) (fault : BusFault) → fault_in (λ s. store_fault n m.guards s a) n m.segments a ≡ Some fault → (Err fault, m) ≡ store n m a v
is_refused n m a v fault e = rw e refl

-- ---- pages lent

no_page : (p : Pages) (a : ℕ) → get_or p.places (a / PAGE_SIZE) None ≡ None → owner_of p a ≡ None
no_page p a e = no_cell p a (ap (λ (o : Option ℕ). cell_in o a) e)

-- an address that has an owner lies in its segment
pub owned_holds : (p : Pages) (parts : List SegmentInfo) (a i : ℕ) → AreOwned (owner_of p) parts → owner_of p a ≡ Some i
    → (i < length (segments_at (byte_of p) parts)) × ((s : Segment) → IsTrue (holds (get_or (segments_at (byte_of p) parts) i s) a 1))
owned_holds p parts a i own e =
    let q = own.part a i no_part e in
    (rw length-map q.0, λ s. rw (at_part (byte_of p) parts i s no_part q.0, holds_covers (byte_of p) (get_or parts i no_part) a 1) q.1)

holds_owned : (p : Pages) (parts : List SegmentInfo) (a i : ℕ) → AreOwned (owner_of p) parts → i < length (segments_at (byte_of p) parts)
    → ((s : Segment) → IsTrue (holds (get_or (segments_at (byte_of p) parts) i s) a 1)) → owner_of p a ≡ Some i
holds_owned p parts a i own l h =
    let m : i < length parts = rw length-map at l in
    own.owner a i no_part m (rw (at_part (byte_of p) parts i (segment_at (byte_of p) no_part) no_part m, holds_covers (byte_of p) (get_or parts i no_part) a 1) at (h (segment_at (byte_of p) no_part)))

pub page_has : (p : Pages) (parts : List SegmentInfo) (guards : List ℕ) (home : ℕ × ℕ) (q : ℕ) → AreUsed p → AreOwned (owner_of p) parts → q < length p.firsts
    → HasPage (record { segments = segments_at (byte_of p) parts; guards = guards; home = home }) (get_or p.firsts q 0 / PAGE_SIZE)
page_has p parts guards home q used own l = go (owner_of p (get_or p.firsts q 0)) refl
  where
    go : (o : Option ℕ) → owner_of p (get_or p.firsts q 0) ≡ o → HasPage (record { segments = segments_at (byte_of p) parts; guards = guards; home = home }) (get_or p.firsts q 0 / PAGE_SIZE)
    go None e = absurd (used.used q l e)
    go (Some i) e = let h = owned_holds p parts (get_or p.firsts q 0) i own e in (get_or p.firsts q 0, i, (refl, h.0, h.1))

pub page_not : (p : Pages) (parts : List SegmentInfo) (guards : List ℕ) (home : ℕ × ℕ) (n : ℕ) → AreOwned (owner_of p) parts → get_or p.places n None ≡ None
    → HasPage (record { segments = segments_at (byte_of p) parts; guards = guards; home = home }) n → ⊥
page_not p parts guards home n own e h =
    let mine = holds_owned p parts h.0 h.1 own h.2.1 h.2.2 in
    let his = no_page p h.0 (rw h.2.0 e) in
    let g : None ≡ Some h.1 = sym his ∙ mine in
    cc

pub page_cell : (p : Pages) (n q k : ℕ) → get_or p.places n None ≡ Some q → k < PAGE_SIZE → cell_of p (n * PAGE_SIZE + k) ≡ Some (q * PAGE_SIZE + k)
page_cell p n q k e h =
    let same : (n * PAGE_SIZE + k) / PAGE_SIZE ≡ n = omega arith in
    let rest : (n * PAGE_SIZE + k) % PAGE_SIZE ≡ k = omega arith in
    rw (same, e, rest) refl

-- each byte of a page is the memory's
pub page_byte : (p : Pages) (parts : List SegmentInfo) (n q k : ℕ) → ArePages p → AreUsed p → AreOwned (owner_of p) parts → get_or p.places n None ≡ Some q → k < PAGE_SIZE
    → get_or p.bytes (q * PAGE_SIZE + k) 0 ≡ number_in 1 (segments_at (byte_of p) parts) (n * PAGE_SIZE + k)
page_byte p parts n q k x used own e h = go (owner_of p (n * PAGE_SIZE + k)) refl
  where
    go : (o : Option ℕ) → owner_of p (n * PAGE_SIZE + k) ≡ o → get_or p.bytes (q * PAGE_SIZE + k) 0 ≡ number_in 1 (segments_at (byte_of p) parts) (n * PAGE_SIZE + k)
    go None o =
        let cell = page_cell p n q k e h in
        let zero : get_or p.bytes (q * PAGE_SIZE + k) 0 ≡ 0 = sym (ap (byte_at_cell p.bytes) cell) ∙ used.blank (n * PAGE_SIZE + k) o in
        zero ∙ sym (unread 1 (n * PAGE_SIZE + k) (segments_at (byte_of p) parts) (unowned (byte_of p) (owner_of p) parts (n * PAGE_SIZE + k) 1 own (omega arith) o (λ s. None)))
    go (Some i) o =
        let cell = page_cell p n q k e h in
        let own2 = own.part (n * PAGE_SIZE + k) i no_part o in
        let place = owned_place (byte_of p) (owner_of p) parts no_part (n * PAGE_SIZE + k) 1 i own (omega arith) o own2.1 in
        let number = paged_number p parts no_part (n * PAGE_SIZE + k) 1 i (q * PAGE_SIZE + k) x own2.0 own2.1 place cell (omega arith) in
        let same : get_or (drop (q * PAGE_SIZE + k) p.bytes) 0 0 ≡ get_or p.bytes (q * PAGE_SIZE + k) 0 = get_or-drop (q * PAGE_SIZE + k) p.bytes 0 0 ∙ ap (λ (j : ℕ). get_or p.bytes j 0) (omega arith) in
        let one : little_number 1 (drop (q * PAGE_SIZE + k) p.bytes) ≡ get_or (drop (q * PAGE_SIZE + k) p.bytes) 0 0 = omega arith in
        sym (number ∙ one ∙ same)

pub page_numbers : (p : Pages) (parts : List SegmentInfo) (guards : List ℕ) (home : ℕ × ℕ) → ArePages p → AreUsed p → AreOwned (owner_of p) parts
    → ArePageNumbers (record { segments = segments_at (byte_of p) parts; guards = guards; home = home }) (map (λ a. a / PAGE_SIZE) p.firsts)
page_numbers p parts guards home x used own = record {
  once = λ i j h k e. once i j (rw length-map at h) (rw length-map at k) e;
  has = λ i h. let l : i < length p.firsts = rw length-map at h in rw (number i l) (page_has p parts guards home i used own l);
  every = λ n h. every n h (holds_owned p parts h.0 h.1 own h.2.1 h.2.2);
}
  where
    number : (i : ℕ) → i < length p.firsts → get_or (map (λ a. a / PAGE_SIZE) p.firsts) i 0 ≡ get_or p.firsts i 0 / PAGE_SIZE
    number i h = get_or-map (λ a. a / PAGE_SIZE) p.firsts i 0 0 h

    once : (i j : ℕ) → i < length p.firsts → j < length p.firsts → get_or (map (λ a. a / PAGE_SIZE) p.firsts) i 0 ≡ get_or (map (λ a. a / PAGE_SIZE) p.firsts) j 0 → i ≡ j
    once i j h k e =
        let same : get_or p.firsts i 0 / PAGE_SIZE ≡ get_or p.firsts j 0 / PAGE_SIZE = sym (number i h) ∙ e ∙ number j k in
        let f : Some i ≡ Some j = sym (x.place i h) ∙ ap (λ (n : ℕ). get_or p.places n None) same ∙ x.place j k in
        cc

    every : (n : ℕ) (h : HasPage (record { segments = segments_at (byte_of p) parts; guards = guards; home = home }) n) → owner_of p h.0 ≡ Some h.1
        → (i : ℕ) × ((i < length (map (λ a. a / PAGE_SIZE) p.firsts)) × (get_or (map (λ a. a / PAGE_SIZE) p.firsts) i 0 ≡ n))
    every n h o = go (get_or p.places (h.0 / PAGE_SIZE) None) refl
      where
        go : (q : Option ℕ) → get_or p.places (h.0 / PAGE_SIZE) None ≡ q
            → (i : ℕ) × ((i < length (map (λ a. a / PAGE_SIZE) p.firsts)) × (get_or (map (λ a. a / PAGE_SIZE) p.firsts) i 0 ≡ n))
        go None e = absurd (let g : None ≡ Some h.1 = sym (no_page p h.0 e) ∙ o in cc)
        go (Some q) e =
            let f = x.number (h.0 / PAGE_SIZE) q e in
            (q, (rw length-map f.0, number q f.0 ∙ f.1 ∙ h.2.0))

pub if_located : (p : Pages) (parts : List SegmentInfo) (a : ℕ) (found : Option AccessCell) → a % 4 ≡ 0 → ArePages p
    → IfSome found (λ f. f.part < length parts)
    → IfSome found (λ f. (d : SegmentInfo) → part_holds (get_or parts f.part d) a 4 ≡ true)
    → IfSome found (λ f. IsPlace 4 (segments_at (byte_of p) parts) a f.part)
    → IfSome found (λ f. cell_of p a ≡ Some f.at)
    → IfSome found (λ f. CanStore 4 p parts a f.part f.at)
if_located p parts a None e x l c place s = tt
if_located p parts a (Some f) e x l c place s = located 4 p parts a f.part f.at (inr (inr refl)) (rw e refl) x l c place s
