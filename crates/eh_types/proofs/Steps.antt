-- What a step of reading keeps.
use Rattle.std.proofs.Common.{◌≡◌, ℕ, zero, suc, ◌+◌, ◌^◌, ◌<◌, ◌≤◌, Bool, true, false, cond, not, ◌&&◌, ◌||◌, nat_eq, nat_lt, List, [], ◌∷◌, ◌++◌, length, take, get_or, Option, Some, None, IsSome, is_some, option_map, reverse, Result, Ok, Err, IfOk, refl, sym, ◌∙◌, ap, subst, inl, inr, arith, take_all, append-nil}
use Rattle.std.specs.Prelude.{◌⊎◌, option_to_list}
use Rattle.std.specs.List.{sum_by, range_with_len}
use Rattle.std.proofs.lemmas.Bool.Decides.{nat_tests}
use Rattle.std.proofs.lemmas.Bool.{false≢true}
use Rattle.std.proofs.lemmas.List.{take_more, length-map, reverse-append}
use Rattle.std.proofs.lemmas.List.Sums.{sum_by_push, sum_by-cons}
use Rattle.std.proofs.lemmas.List.FromFn.{length-map-range_with_len, get_or-map-range_with_len}
use Rattle.std.proofs.lemmas.Simd.{map-map}
use Rattle.elf_image.specs.Image.{Image}
use Rattle.elf_image.specs.Segments.{Segment}
use Rattle.eh_types.specs.declared.kind.Base.{Base}
use Rattle.eh_types.specs.declared.kind.TypeKind.{TypeKind}
use Rattle.eh_types.specs.declared.kind.TypeKind.TheVariants.{Other, Fundamental, Class, Si, Vmi, Pointer}
use Rattle.eh_types.specs.declared.fault.TypeFault.{TypeFault}
use Rattle.eh_types.specs.declared.fault.TypeFault.TheVariants.{Unreadable, Writable, NameTooLong, Cyclic, TooManyPaths}
use Rattle.eh_types.specs.declared.state.CountedType.{CountedType}
use Rattle.eh_types.specs.declared.state.Frame.{Frame}
use Rattle.eh_types.specs.Graph.{Row, paths_within}
use Rattle.eh_types.specs.Words.{word, words_from, name_at}
use Rattle.eh_types.specs.Types.{kind_at, base_in, base_by, bases_at, base_type, base_count, row_named, row_in, type_or_fault, word_count, type_at}
use Rattle.eh_types.specs.Meant.{Among, types_of, pointees, bases_by, IsReachedType, root, step, IsBaseOf, one, more, Shows}
use Rattle.eh_types.specs.Reading.{paths_of, IsDone, IsFrame, Leads, is_on, AreStacked, Reading}
use Rattle.eh_types.proofs.BaseLists.{base_counts}
use Rattle.eh_types.proofs.Paths.{sum_same, paths_more, paths_converge}
use Rattle.eh_types.proofs.Meaning.{among_left, among_right, among_either, is_there, there_is}
use Rattle.eh_types.specs.declared.types.TheConstants.{NAME_LIMIT}

test_same : (x : ℕ) → nat_eq x x ≡ true
test_same x = grind (arith, nat_tests)

test_not : (x y : ℕ) → (x ≡ y → ⊥) → nat_eq x y ≡ false
test_not x y h = grind (arith, nat_tests)

test_from : (x y : ℕ) → nat_eq x y ≡ true → x ≡ y
test_from x y h = grind (arith, nat_tests)

test_other : (x y : ℕ) → nat_eq x y ≡ false → x ≡ y → ⊥
test_other x y h e = grind (arith, nat_tests)

-- ---- what is read of a type

judged_row : (image : Image) (a : ℕ) (words : Option Bool) (name : Option (List ℕ × Bool)) (r : Row) → type_or_fault image a words name ≡ Ok r → (r.at ≡ a) × (r.kind ≡ kind_at image a)
unfolding row_named
judged_row image a None name r e = absurd cc
judged_row image a (Some w) None r e = absurd cc
judged_row image a (Some w) (Some name) r e = by_write (w || name.1) e
  where
    by_length : (b : Bool) → cond b (Err (NameTooLong a)) (Ok (row_named image a name.0)) ≡ Ok r → (r.at ≡ a) × (r.kind ≡ kind_at image a)
    by_length true f = absurd cc
    by_length false f = let same : row_named image a name.0 ≡ r = cc in rw (← same) (refl, refl)

    by_write : (b : Bool) → cond b (Err (Writable a)) (cond (nat_lt NAME_LIMIT (length name.0)) (Err (NameTooLong a)) (Ok (row_named image a name.0))) ≡ Ok r → (r.at ≡ a) × (r.kind ≡ kind_at image a)
    by_write true f = absurd cc
    by_write false f = by_length (nat_lt NAME_LIMIT (length name.0)) f

pub row_is : (image : Image) (a : ℕ) (r : Row) → type_at image a ≡ Ok r → (r.at ≡ a) × (r.kind ≡ kind_at image a)
unfolding type_at
row_is image a r e = judged_row image a (words_from image.segments a (word_count image.segments a (kind_at image a))) (name_at image.segments (word image.segments (a + 4))) r e

judged_fault : (image : Image) (roots : List ℕ) (a : ℕ) (words : Option Bool) (name : Option (List ℕ × Bool)) (fault : TypeFault) → IsReachedType image roots a
    → type_at image a ≡ type_or_fault image a words name → type_or_fault image a words name ≡ Err fault → Shows image roots fault
judged_fault image roots a None name fault h t e = let same : Unreadable a ≡ fault = cc in rw (← same) (h, t)
judged_fault image roots a (Some w) None fault h t e = let same : Unreadable a ≡ fault = cc in rw (← same) (h, t)
judged_fault image roots a (Some w) (Some name) fault h t e = by_write (w || name.1) t e
  where
    by_length : (b : Bool) → type_at image a ≡ cond b (Err (NameTooLong a)) (Ok (row_named image a name.0)) → cond b (Err (NameTooLong a)) (Ok (row_named image a name.0)) ≡ Err fault → Shows image roots fault
    by_length true u f = let same : NameTooLong a ≡ fault = cc in rw (← same) (h, u)
    by_length false u f = absurd cc

    by_write : (b : Bool) → type_at image a ≡ cond b (Err (Writable a)) (cond (nat_lt NAME_LIMIT (length name.0)) (Err (NameTooLong a)) (Ok (row_named image a name.0)))
        → cond b (Err (Writable a)) (cond (nat_lt NAME_LIMIT (length name.0)) (Err (NameTooLong a)) (Ok (row_named image a name.0))) ≡ Err fault → Shows image roots fault
    by_write true u f = let same : Writable a ≡ fault = cc in rw (← same) (h, u)
    by_write false u f = by_length (nat_lt NAME_LIMIT (length name.0)) u f

-- a fault of words is shown by a type that is reached
pub fault_shown : (image : Image) (roots : List ℕ) (a : ℕ) (fault : TypeFault) → IsReachedType image roots a → type_at image a ≡ Err fault → Shows image roots fault
unfolding type_at
fault_shown image roots a fault h e = read_shown image roots a fault h e refl
  where
    read_shown : (image : Image) (roots : List ℕ) (a : ℕ) (fault : TypeFault) → IsReachedType image roots a → type_at image a ≡ Err fault
        → type_at image a ≡ type_or_fault image a (words_from image.segments a (word_count image.segments a (kind_at image a))) (name_at image.segments (word image.segments (a + 4))) → Shows image roots fault
    read_shown image roots a fault h e t =
        judged_fault image roots a (words_from image.segments a (word_count image.segments a (kind_at image a))) (name_at image.segments (word image.segments (a + 4))) fault h t (sym t ∙ e)

-- ---- the bases of a type that is being read

base_types : (segments : List Segment) (a : ℕ) (kind : TypeKind) (k : ℕ) → k < length (bases_at segments a kind) → get_or (types_of (bases_at segments a kind)) k 0 ≡ base_type segments a kind k
unfolding base_in base_by
base_types segments a Other k h = absurd (omega arith)
base_types segments a Fundamental k h = absurd (omega arith)
base_types segments a Class k h = absurd (omega arith)
base_types segments a (Pointer flags pointee) k h = absurd (omega arith)
base_types segments a (Si base) zero h = refl
base_types segments a (Si base) (suc k) h = absurd (omega arith)
base_types segments a Vmi k h =
    let inside : k < word segments (a + 12) = omega (arith, h, length-map-range_with_len (base_in segments a) 0 (word segments (a + 12))) in
    ap (λ (xs : List ℕ). get_or xs k 0) (map-map (λ (b : Base). b.ty) (base_in segments a) (range_with_len 0 (word segments (a + 12))))
    ∙ get_or-map-range_with_len (λ i. (base_in segments a i).ty) 0 (word segments (a + 12)) k k 0 inside (omega arith)

among_at : (xs : List ℕ) (i : ℕ) → i < length xs → Among xs (get_or xs i 0)
among_at [] i h = absurd (omega arith)
among_at (x ∷ xs) zero h = inl refl
among_at (x ∷ xs) (suc i) h = inr (among_at xs i (omega arith))

module _ (image : Image) (roots : List ℕ) (done : ℕ → Option CountedType) (f : Frame) (h : IsFrame image roots done f) where
  types_count : length (types_of h.row.bases) ≡ f.count
  types_count = length-map h.row.bases (λ (b : Base). b.ty) ∙ sym h.count

  next_base : f.next < f.count → get_or (types_of h.row.bases) f.next 0 ≡ base_type image.segments f.at f.kind f.next
  next_base lt = rw h.bases (base_types image.segments f.at f.kind f.next (omega (arith, lt, h.count, ap length h.bases)))

  next_among : f.next < f.count → Among (types_of h.row.bases) (base_type image.segments f.at f.kind f.next)
  next_among lt = rw (← next_base lt) (among_at (types_of h.row.bases) f.next (omega (arith, lt, types_count)))

  read_bases : bases_by image f.at ≡ h.row.bases
  read_bases = rw h.read refl

  pub next_is_base : f.next < f.count → Among (types_of (bases_by image f.at)) (base_type image.segments f.at f.kind f.next)
  next_is_base lt = rw read_bases (next_among lt)

  pub next_reached : f.next < f.count → IsReachedType image roots (base_type image.segments f.at f.kind f.next)
  next_reached lt = step f.at (base_type image.segments f.at f.kind f.next) h.row h.reached h.read (among_left (types_of h.row.bases) (pointees h.row.kind) _ (next_among lt))

  -- the paths of its next base are counted
  counted_frame : (d : CountedType) → f.next < f.count → done (base_type image.segments f.at f.kind f.next) ≡ Some d → d.paths ≡ paths_of image (base_type image.segments f.at f.kind f.next) → d.paths ≤ 256
      → IsFrame image roots done (record { at = f.at; kind = f.kind; count = f.count; next = f.next + 1; paths = f.paths + d.paths })
  counted_frame d lt e p few =
      let more : take (f.next + 1) (types_of h.row.bases) ≡ take f.next (types_of h.row.bases) ++ base_type image.segments f.at f.kind f.next ∷ [] =
      take_more (types_of h.row.bases) f.next 0 (omega (arith, lt, types_count)) ∙ ap (λ (b : ℕ). take f.next (types_of h.row.bases) ++ b ∷ []) (next_base lt) in
      record {
        row = h.row;
        read = h.read;
        kind = h.kind;
        bases = h.bases;
        count = h.count;
        low = h.low;
        fits = h.fits;
        reached = h.reached;
        free = h.free;
        next = omega arith;
        passed = λ b in_front. elim (among_either (take f.next (types_of h.row.bases)) (base_type image.segments f.at f.kind f.next ∷ []) b (rw more at in_front)) [
          | inl before ↦ h.passed b before
          | inr last ↦ elim last [ inl same ↦ is_there (done b) d (ap done (sym same) ∙ e) | inr none ↦ absurd none ]
        ];
        paths = rw more (omega (arith, h.paths, p, sum_by_push (paths_of image) (take f.next (types_of h.row.bases)) (base_type image.segments f.at f.kind f.next)));
        bound = omega (arith, h.bound, few);
      }

-- ---- more is done

module _ (image : Image) (roots : List ℕ) (done done' : ℕ → Option CountedType) (keeps : (q : ℕ) → IsSome (done q) → IsSome (done' q)) where
  done_more : (pending pending' : List ℕ) → ((q : ℕ) → Among pending q → IsSome (done' q) ⊎ Among pending' q) → (a : ℕ) (d : CountedType) → IsDone image roots done pending a d → IsDone image roots done' pending' a d
  done_more pending pending' waits a d h = record {
    row = h.row;
    reached = h.reached;
    paths = h.paths;
    few = h.few;
    bases = λ b among. keeps b (h.bases b among);
    points = λ b among. elim (h.points b among) [ inl is ↦ inl (keeps b is) | inr waiting ↦ waits b waiting ];
  }

  frame_more : (f : Frame) → done' f.at ≡ None → IsFrame image roots done f → IsFrame image roots done' f
  frame_more f free h = record {
    row = h.row;
    read = h.read;
    kind = h.kind;
    bases = h.bases;
    count = h.count;
    low = h.low;
    fits = h.fits;
    reached = h.reached;
    free = free;
    next = h.next;
    passed = λ b in_front. keeps b (h.passed b in_front);
    paths = h.paths;
    bound = h.bound;
  }

  stack_more : (at : ℕ) (frames : List Frame) → ((q : ℕ) → nat_eq q at ≡ false → done' q ≡ done q) → is_on frames at ≡ false → AreStacked image roots done frames → AreStacked image roots done' frames
  stack_more at [] others not_on h = tt
  stack_more at (f ∷ frames) others not_on h =
      let both = neither (nat_eq f.at at) (is_on frames at) not_on in
      (frame_more f (others f.at both.0 ∙ h.0.free) h.0, h.1, h.2, stack_more at frames others both.1 h.3)
    where
      neither : (b c : Bool) → (b || c) ≡ false → (b ≡ false) × (c ≡ false)
      neither true c e = absurd (false≢true (sym e))
      neither false c e = (refl, e)

-- ---- steps

-- a type is put on top
pub visited : (image : Image) (roots : List ℕ) (done : ℕ → Option CountedType) (open_now open_next : ℕ → Bool) (frames : List Frame) (pending : List ℕ) (a : ℕ) (kind : TypeKind) (count : ℕ) (text : List ℕ)
    → Reading image roots done open_now frames pending → IsReachedType image roots a → Leads image a frames → done a ≡ None → open_now a ≡ false
    → type_at image a ≡ Ok (row_named image a text) → kind ≡ kind_at image a → count ≡ base_count image.segments a (kind_at image a) → a < 2 ^ 32 → count < 2 ^ 32
    → ((q : ℕ) → open_next q ≡ (nat_eq a q || open_now q))
    → Reading image roots done open_next (record { at = a; kind = kind; count = count; next = 0; paths = 1 } ∷ frames) pending
unfolding row_named
visited image roots done open_now open_next frames pending a kind count text r reached leads new shut e k n low fits opens = record {
  each = r.each;
  opened = λ q. opens q ∙ ap (λ (b : Bool). nat_eq a q || b) (r.opened q);
  stacked = (
    record {
      row = row_named image a text;
      read = e;
      kind = k;
      bases = rw k refl;
      count = n ∙ base_counts image.segments a (kind_at image a);
      low = low;
      fits = fits;
      reached = reached;
      free = new;
      next = omega arith;
      passed = λ b none. absurd none;
      paths = refl;
      bound = omega arith;
    },
    sym (r.opened a) ∙ shut,
    leads,
    r.stacked,
  );
  begins = r.begins;
  waiting = r.waiting;
}

-- a base of the type on top is done
pub base_counted : (image : Image) (roots : List ℕ) (done : ℕ → Option CountedType) (open_now : ℕ → Bool) (f : Frame) (frames : List Frame) (pending : List ℕ) (d : CountedType)
    → Reading image roots done open_now (f ∷ frames) pending → f.next < f.count → done (base_type image.segments f.at f.kind f.next) ≡ Some d
    → Reading image roots done open_now (record { at = f.at; kind = f.kind; count = f.count; next = f.next + 1; paths = f.paths + d.paths } ∷ frames) pending
base_counted image roots done open_now f frames pending d r lt e =
    let is = r.each (base_type image.segments f.at f.kind f.next) d e in
    record {
      each = r.each;
      opened = r.opened;
      stacked = (counted_frame image roots done f r.stacked.0 d lt e is.paths is.few, r.stacked.1, r.stacked.2, r.stacked.3);
      begins = r.begins;
      waiting = r.waiting;
    }

-- a type that waits is done
pub waiting_done : (image : Image) (roots : List ℕ) (done : ℕ → Option CountedType) (open_now : ℕ → Bool) (frames : List Frame) (before pending : List ℕ) (a : ℕ) → before ≡ pending ++ a ∷ []
    → Reading image roots done open_now frames before → IsSome (done a) → Reading image roots done open_now frames pending
waiting_done image roots done open_now frames before pending a last r is = record {
  each = λ b d e. done_more image roots done done (λ q h. h) before pending still b d (r.each b d e);
  opened = r.opened;
  stacked = r.stacked;
  begins = λ b among. elim (r.begins b among) [ inl h ↦ inl h | inr h ↦ still b h ];
  waiting = λ b among. r.waiting b (rw last (among_left pending (a ∷ []) b among));
}
  where
    still : (q : ℕ) → Among before q → IsSome (done q) ⊎ Among pending q
    still q h = elim (among_either pending (a ∷ []) q (rw last at h)) [
      | inl before ↦ inr before
      | inr last ↦ elim last [ inl same ↦ inl (rw (← same) is) | inr none ↦ absurd none ]
    ]

-- the paths of a type whose bases are done
frame_paths : (image : Image) (roots : List ℕ) (done : ℕ → Option CountedType) (pending : List ℕ) (f : Frame) (h : IsFrame image roots done f)
    → ((a : ℕ) (d : CountedType) → done a ≡ Some d → IsDone image roots done pending a d) → f.count ≤ f.next → f.paths ≡ paths_of image f.at
frame_paths image roots done pending f h each all =
    let whole : take f.next (types_of h.row.bases) ≡ types_of h.row.bases = take_all f.next (types_of h.row.bases) (omega (arith, types_count image roots done f h, all)) in
    let converge : (b : ℕ) → Among (types_of h.row.bases) b → paths_within (bases_by image) 255 b ≡ paths_within (bases_by image) 256 b = λ b among.
    (let is = there_is (done b) (h.passed b (rw whole among)) in
    let d = each b is.0 is.1 in
    paths_converge (bases_by image) 255 b (omega (arith, d.paths, d.few))) in
    h.paths
    ∙ ap (λ (xs : List ℕ). 1 + sum_by (paths_of image) xs) whole
    ∙ ap (λ n. 1 + n) (sum_types (paths_of image) h.row.bases ∙ sym (sum_same (paths_within (bases_by image) 255) (paths_within (bases_by image) 256) h.row.bases converge))
    ∙ ap (λ (bs : List Base). 1 + sum_by (λ (b : Base). paths_within (bases_by image) 255 b.ty) bs) (sym (read_bases image roots done f h))
    ∙ sym (paths_more (bases_by image) 255 f.at)
  where
    sum_types : (g : ℕ → ℕ) (bs : List Base) → sum_by g (types_of bs) ≡ sum_by (λ (b : Base). g b.ty) bs
    sum_types g [] = refl
    sum_types g (b ∷ bs) = sum_by-cons g b.ty (types_of bs) ∙ ap (λ n. g b.ty + n) (sum_types g bs) ∙ sym (sum_by-cons (λ (x : Base). g x.ty) b bs)

-- the type on top is done
module _ (image : Image) (roots : List ℕ) (done done' : ℕ → Option CountedType) (f : Frame) (frames : List Frame) (d : CountedType) (now : (q : ℕ) → done' q ≡ cond (nat_eq q f.at) (Some d) (done q)) where
  now_at : done' f.at ≡ Some d
  now_at = now f.at ∙ rw (test_same f.at) refl

  now_other : (q : ℕ) → nat_eq q f.at ≡ false → done' q ≡ done q
  now_other q e = now q ∙ rw e refl

  now_keeps : (q : ℕ) → IsSome (done q) → IsSome (done' q)
  now_keeps q h = rw (now q) (by_test (nat_eq q f.at))
    where
      by_test : (b : Bool) → IsSome (cond b (Some d) (done q))
      by_test true = refl
      by_test false = h

open_left : (f : Frame) (frames : List Frame) (q : ℕ) (b : Bool) → nat_eq f.at q ≡ b → is_on frames f.at ≡ false → (not b && (b || is_on frames q)) ≡ is_on frames q
open_left f frames q true e off = sym (ap (is_on frames) (sym (test_from f.at q e)) ∙ off)
open_left f frames q false e off = refl

-- the type that ends is done, and those that were done still are
each_done : (image : Image) (roots : List ℕ) (done done' : ℕ → Option CountedType) (pending pending' : List ℕ) (f : Frame) (d : CountedType)
    → ((q : ℕ) → IsSome (done q) → IsSome (done' q)) → ((q : ℕ) → Among pending q → IsSome (done' q) ⊎ Among pending' q)
    → ((a : ℕ) (x : CountedType) → done a ≡ Some x → IsDone image roots done pending a x) → IsDone image roots done' pending' f.at d
    → (a : ℕ) (x : CountedType) (b : Bool) → nat_eq a f.at ≡ b → cond b (Some d) (done a) ≡ Some x → IsDone image roots done' pending' a x
each_done image roots done done' pending pending' f d keeps waits each here a x true e h =
    let same : d ≡ x = cc in let place = test_from a f.at e in rw (place, ← same) here
each_done image roots done done' pending pending' f d keeps waits each here a x false e h =
    done_more image roots done done' keeps pending pending' waits a x (each a x h)

one_row : (o : Result Row TypeFault) (r s : Row) → o ≡ Ok r → o ≡ Ok s → r ≡ s
one_row o r s e f = cc

pub finished : (image : Image) (roots : List ℕ) (done done' : ℕ → Option CountedType) (open_now open_next : ℕ → Bool) (f : Frame) (frames : List Frame) (pending after : List ℕ) (info : Row) → after ≡ pending ++ pointees f.kind
    → Reading image roots done open_now (f ∷ frames) pending → f.count ≤ f.next → f.paths ≤ 256 → type_at image f.at ≡ Ok (row_in image.segments info)
    → ((q : ℕ) → done' q ≡ cond (nat_eq q f.at) (Some (record { info = info; paths = f.paths })) (done q)) → ((q : ℕ) → open_next q ≡ (not (nat_eq f.at q) && open_now q))
    → Reading image roots done' open_next frames after
finished image roots done done' open_now open_next f frames pending after info last r all few e now opens = rw last (
    let d : CountedType = record { info = info; paths = f.paths } in
    let keeps = now_keeps image roots done done' f frames d now in
    let frame = r.stacked.0 in
    let row : row_in image.segments info ≡ frame.row = one_row (type_at image f.at) (row_in image.segments info) frame.row e frame.read in
    let kind : info.kind ≡ f.kind = (row_is image f.at (row_in image.segments info) e).1 ∙ sym frame.kind in
    let waits : (q : ℕ) → Among pending q → IsSome (done' q) ⊎ Among (pending ++ pointees f.kind) q = λ q h. inr (among_left pending (pointees f.kind) q h) in
    let whole : take f.next (types_of frame.row.bases) ≡ types_of frame.row.bases = take_all f.next (types_of frame.row.bases) (omega (arith, types_count image roots done f frame, all)) in
    let here : IsDone image roots done' (pending ++ pointees f.kind) f.at d = record {
      row = e;
      reached = frame.reached;
      paths = frame_paths image roots done pending f frame r.each all;
      few = few;
      bases = λ b among. keeps b (frame.passed b (rw whole (subst (λ (r : Row). Among (types_of r.bases) b) row among)));
      points = λ b among. inr (among_right pending (pointees f.kind) b (rw kind at among));
    } in
    record {
      each = λ a x at. each_done image roots done done' pending (pending ++ pointees f.kind) f d keeps waits r.each here a x (nat_eq a f.at) refl (sym (now a) ∙ at);
      opened = λ q. opens q ∙ ap (λ (b : Bool). not (nat_eq f.at q) && b) (r.opened q) ∙ open_left f frames q (nat_eq f.at q) refl r.stacked.1;
      stacked = stack_more image roots done done' keeps f.at frames (now_other image roots done done' f frames d now) r.stacked.1 r.stacked.3;
      begins = λ b among. elim (r.begins b among) [ inl h ↦ inl (keeps b h) | inr h ↦ waits b h ];
      waiting = λ b among. elim (among_either pending (pointees f.kind) b among) [
        | inl before ↦ r.waiting b before
        | inr last ↦ step f.at b (row_in image.segments info) frame.reached e (among_right (types_of (row_in image.segments info).bases) (pointees info.kind) b (rw kind last))
      ];
    })

-- ---- faults

-- a base of a base
base_on : (image : Image) (a c d : ℕ) → IsBaseOf image c a → Among (types_of (bases_by image c)) d → IsBaseOf image d a
base_on image _ _ d (one a b among) last = more a b d among (one b d last)
base_on image _ _ d (more a b c among rest) last = more a b d among (base_on image b c d rest last)

-- the type on top is a base of each one that is open below it
on_leads : (image : Image) (roots : List ℕ) (done : ℕ → Option CountedType) (f : Frame) (frames : List Frame) (a : ℕ) → AreStacked image roots done (f ∷ frames) → is_on frames a ≡ true → IsBaseOf image f.at a
on_leads image roots done f [] a h on = absurd (false≢true on)
on_leads image roots done f (g ∷ frames) a h on = by_test (nat_eq g.at a) refl on (on_leads image roots done g frames a h.3)
  where
    by_test : (b : Bool) → nat_eq g.at a ≡ b → (b || is_on frames a) ≡ true → (is_on frames a ≡ true → IsBaseOf image g.at a) → IsBaseOf image f.at a
    by_test true e on rest = let same = test_from g.at a e in rw (← same) (one g.at f.at h.2)
    by_test false e on rest = base_on image a g.at f.at (rest on) h.2

-- a base that is open is its own base
pub open_cyclic : (image : Image) (roots : List ℕ) (done : ℕ → Option CountedType) (open_now : ℕ → Bool) (f : Frame) (frames : List Frame) (pending : List ℕ)
    → Reading image roots done open_now (f ∷ frames) pending → f.next < f.count → open_now (base_type image.segments f.at f.kind f.next) ≡ true
    → Shows image roots (Cyclic (base_type image.segments f.at f.kind f.next))
open_cyclic image roots done open_now f frames pending r lt on =
    let b = base_type image.segments f.at f.kind f.next in
    let last = next_is_base image roots done f r.stacked.0 lt in
    (next_reached image roots done f r.stacked.0 lt, by_test b last (nat_eq f.at b) refl (sym (r.opened b) ∙ on))
  where
    by_test : (b : ℕ) → Among (types_of (bases_by image f.at)) b → (t : Bool) → nat_eq f.at b ≡ t → (t || is_on frames b) ≡ true → IsBaseOf image b b
    by_test b last true e h = let same = test_from f.at b e in one b b (rw same at last)
    by_test b last false e h = base_on image b f.at b (on_leads image roots done f frames b r.stacked h) last

-- the bases of a type that is done are done, through any steps
done_closed : (image : Image) (roots : List ℕ) (done : ℕ → Option CountedType) (pending : List ℕ) → ((a : ℕ) (d : CountedType) → done a ≡ Some d → IsDone image roots done pending a d)
    → (a c : ℕ) → IsBaseOf image c a → IsSome (done a) → IsSome (done c)
done_closed image roots done pending each _ _ (one a b among) is =
    let d = there_is (done a) is in let h = each a d.0 d.1 in let row = h.row in
    h.bases b (rw row at among)
done_closed image roots done pending each _ _ (more a b c among rest) is =
    let d = there_is (done a) is in let h = each a d.0 d.1 in let row = h.row in
    done_closed image roots done pending each b c rest (h.bases b (rw row at among))

not_both : (o : Option CountedType) → o ≡ None → IsSome o → ⊥
not_both None e h = false≢true h
not_both (Some d) e h = cc

-- a type whose bases are done is not its own base
own_base : (image : Image) (roots : List ℕ) (done : ℕ → Option CountedType) (pending : List ℕ) (f : Frame) (h : IsFrame image roots done f)
    → ((a : ℕ) (d : CountedType) → done a ≡ Some d → IsDone image roots done pending a d) → f.count ≤ f.next → (c : ℕ) → c ≡ f.at → IsBaseOf image c f.at → ⊥
own_base image roots done pending f h each all c same own =
    let whole : take f.next (types_of h.row.bases) ≡ types_of h.row.bases = take_all f.next (types_of h.row.bases) (omega (arith, types_count image roots done f h, all)) in
    let bases = read_bases image roots done f h in
    let passed : (b : ℕ) → Among (types_of (bases_by image f.at)) b → IsSome (done b) = λ b among. h.passed b (rw whole (rw bases at among)) in
    not_both (done f.at) h.free (rw (← same) (base_passed f.at c own passed))
  where
    base_passed : (a c : ℕ) → IsBaseOf image c a → ((b : ℕ) → Among (types_of (bases_by image a)) b → IsSome (done b)) → IsSome (done c)
    base_passed _ _ (one a b among) passed = passed b among
    base_passed _ _ (more a b c among rest) passed = done_closed image roots done pending each b c rest (passed b among)

pub paths_shown : (image : Image) (roots : List ℕ) (done : ℕ → Option CountedType) (open_now : ℕ → Bool) (f : Frame) (frames : List Frame) (pending : List ℕ)
    → Reading image roots done open_now (f ∷ frames) pending → f.count ≤ f.next → 256 < f.paths → Shows image roots (TooManyPaths f.at)
paths_shown image roots done open_now f frames pending r all over =
    (r.stacked.0.reached, own_base image roots done pending f r.stacked.0 r.each all f.at refl, rw (← frame_paths image roots done pending f r.stacked.0 r.each all) over)

-- ---- the stack and the look-ups of the code

pub pushed : (xs ys : List Frame) (f : Frame) → ys ≡ xs ++ f ∷ [] → reverse ys ≡ f ∷ reverse xs
pushed xs ys f e = ap reverse e ∙ reverse-append xs (f ∷ [])

pub mapped : (o : Option CountedType) (n : ℕ) → option_map (λ (d : CountedType). d.paths) o ≡ Some n → (d : CountedType) × (o ≡ Some d) × (d.paths ≡ n)
mapped None n e = absurd cc
mapped (Some d) n e = let same : d.paths ≡ n = cc in (d, refl, same)

pub mapped_some : (o : Option CountedType) (p : Option ℕ) → p ≡ option_map (λ (d : CountedType). d.paths) o → is_some p ≡ true → IsSome o
mapped_some None p e h = absurd (false≢true (sym (ap is_some e) ∙ h))
mapped_some (Some d) p e h = refl

pub waiting_reached : (image : Image) (roots : List ℕ) (before pending : List ℕ) (a : ℕ) → before ≡ pending ++ a ∷ [] → ((q : ℕ) → Among before q → IsReachedType image roots q) → IsReachedType image roots a
waiting_reached image roots before pending a last each = each a (rw last (among_right pending (a ∷ []) a (inl refl)))

-- nothing is done at the start
pub none_done : (image : Image) (roots pending : List ℕ) (done : ℕ → Option CountedType) (open_now : ℕ → Bool) (frames : List Frame) → frames ≡ [] → pending ≡ roots → ((q : ℕ) → done q ≡ None)
    → ((q : ℕ) → open_now q ≡ false) → Reading image roots done open_now frames pending
none_done image roots pending done open_now frames empty same none shut = record {
  each = λ a d e. (let n = none a in absurd cc);
  opened = λ a. rw empty (shut a);
  stacked = rw empty tt;
  begins = λ a among. inr (rw same among);
  waiting = λ a among. root a (rw same at among);
}

pub less_before : (r : Result Bool TypeFault) (x y z : ℕ) → y ≡ z → IfOk r (λ more. more ≡ true → x < y) → IfOk r (λ more. more ≡ true → x < z)
less_before (Ok left) x y z e h = λ t. omega (arith, h t, e)
less_before (Err fault) x y z e h = tt

pub none_popped : (xs ys : List ℕ) (o : Option ℕ) → xs ≡ ys ++ option_to_list o → o ≡ None → xs ≡ ys
none_popped xs ys None e n = e ∙ append-nil ys
none_popped xs ys (Some a) e n = absurd cc

pub popped_none : (xs ys : List Frame) (o : Option Frame) → xs ≡ ys ++ option_to_list o → o ≡ None → reverse ys ≡ reverse xs
popped_none xs ys None e n = ap reverse (sym (e ∙ append-nil ys))
popped_none xs ys (Some f) e n = absurd cc
