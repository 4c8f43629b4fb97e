-- Pages as they are made: a page is added, a byte claimed, a run of bytes filled, a segment laid.
use Rattle.std.proofs.Common.{◌≡◌, ℕ, zero, suc, ◌+◌, ◌-◌, ◌*◌, ◌/◌, ◌%◌, ◌<◌, ◌≤◌, ◌⊎◌, inl, inr, Bool, true, false, ◌==◌, nat_lt, List, [], ◌∷◌, ◌++◌, length, get_or, map, take, drop, set, Option, Some, None, Result, Ok, Err, append_assoc, drop-cons, refl, sym, ap, ◌∙◌, arith, le-leb, replicate}
use Rattle.std.proofs.lemmas.List.{get_or-set_same, get_or-set_other, length-set, length-append, get_or_append_left, get_or-append-add, get_or_push, get_or_past, same_lists, length-map, map-append, length-replicate, take-append-drop, take_more, places, length-take, get_or-take, get_or-drop, get_or-append_right, get_or-replicate}
use Rattle.std.proofs.lemmas.Grind.{same_number_lists}
use Rattle.std.proofs.lemmas.Bool.{ltb-true, ltb-false, eqb-true, eqb-false}
use Rattle.std.specs.Prelude.{IsTrue, OnOk, IfOk}
use Rattle.eh_word.specs.Bytes.{zeros, length-zeros}
use Rattle.eh_bus.specs.Segment.{Segment, holds}
use Rattle.mem_buses.specs.Pages.{Pages, ArePages, AreUsed, Ready, FillsBytes, Lays, with_page, no_pages, no_places, cell_in, cell_of, byte_at_cell, owner_at_cell, byte_of, owner_of, segment_at, segments_at, part_holds, bytes_from}
use Rattle.mem_buses.specs.declared.part.SegmentInfo.{SegmentInfo}
use Rattle.eh_bus.specs.declared.segment.SegmentSpec.{SegmentSpec}
use Rattle.eh_bus.specs.Map.{AreApart}
use Rattle.eh_bus.specs.Built.{CanBuild, initial_memory, zeros_at, segment_of}
use Rattle.eh_bus.specs.declared.map.TheConstants.{PAGE_COUNT, PAGE_SIZE, STACK_START, STACK_SIZE, POOL_START, POOL_SIZE}
use Rattle.eh_bus.proofs.BuiltLemmas.{length-segment_of, apart_all, image_ends}
use Rattle.eh_bus.proofs.PartLaws.{get_or-zeros}
use Rattle.std.proofs.Math.Seq.{take-length}
use Rattle.eh_bus.proofs.MapLaws.{one_apart}
use Rattle.mem_buses.proofs.PageLaws.{no_part, cell_back, cell_next, cell_room, cell_owned, at_part, holds_covers, covered, covering, length-from, from_at, part_same}

length-no_places : (n : ℕ) → length (no_places n) ≡ n
unfolding no_places
length-no_places n = length-replicate n None

get_or-no_places : (n k : ℕ) → get_or (no_places n) k None ≡ None
unfolding no_places
get_or-no_places zero k = refl
get_or-no_places (suc n) zero = refl
get_or-no_places (suc n) (suc k) = get_or-no_places n k

-- ---- a page is added

page_sound : (p : Pages) (a : ℕ) → ArePages p → a / PAGE_SIZE < length p.places → get_or p.places (a / PAGE_SIZE) None ≡ None → ArePages (with_page p a)
page_sound p a x room absent = record {
  number = λ n q e. number n q e (n == a / PAGE_SIZE) refl;
  place = λ q h. place q (omega (arith, length-append p.firsts (a ∷ []))) (nat_lt q (length p.firsts)) refl;
  bytes = omega (arith, length-append p.bytes (zeros PAGE_SIZE), length-zeros PAGE_SIZE, length-append p.firsts (a ∷ []), x.bytes);
  owners = omega (arith, length-append p.bytes (zeros PAGE_SIZE), length-zeros PAGE_SIZE, length-append p.owners (no_places PAGE_SIZE), length-no_places PAGE_SIZE, x.owners);
}
  where
    number : (n q : ℕ) → get_or (set p.places (a / PAGE_SIZE) (Some (length p.firsts))) n None ≡ Some q → (t : Bool) → (n == a / PAGE_SIZE) ≡ t
        → (q < length (p.firsts ++ a ∷ [])) × (get_or (p.firsts ++ a ∷ []) q 0 / PAGE_SIZE ≡ n)
    number n q e true t =
        let same : n ≡ a / PAGE_SIZE = eqb-true n (a / PAGE_SIZE) t in
        let f : Some (length p.firsts) ≡ Some q = sym (get_or-set_same p.places (a / PAGE_SIZE) (Some (length p.firsts)) None room) ∙ ap (λ (m : ℕ). get_or (set p.places (a / PAGE_SIZE) (Some (length p.firsts))) m None) (sym same) ∙ e in
        let g : length p.firsts ≡ q = cc in
        (omega (arith, length-append p.firsts (a ∷ [])), ap (λ (y : ℕ). y / PAGE_SIZE) (get_or_push p.firsts a 0 q g) ∙ sym same)
    number n q e false t =
        let f = sym (get_or-set_other p.places (a / PAGE_SIZE) n (Some (length p.firsts)) None (eqb-false n (a / PAGE_SIZE) t)) ∙ e in
        let o = x.number n q f in
        (omega (arith, length-append p.firsts (a ∷ []), o.0), ap (λ (y : ℕ). y / PAGE_SIZE) (get_or_append_left p.firsts (a ∷ []) 0 q o.0) ∙ o.1)

    place : (q : ℕ) → q < length p.firsts + 1 → (t : Bool) → nat_lt q (length p.firsts) ≡ t
        → get_or (set p.places (a / PAGE_SIZE) (Some (length p.firsts))) (get_or (p.firsts ++ a ∷ []) q 0 / PAGE_SIZE) None ≡ Some q
    place q h true t =
        let l = ltb-true q (length p.firsts) t in
        let first = get_or_append_left p.firsts (a ∷ []) 0 q l in
        rw first (old l (get_or p.firsts q 0 / PAGE_SIZE == a / PAGE_SIZE) refl)
      where
        old : q < length p.firsts → (u : Bool) → (get_or p.firsts q 0 / PAGE_SIZE == a / PAGE_SIZE) ≡ u
            → get_or (set p.places (a / PAGE_SIZE) (Some (length p.firsts))) (get_or p.firsts q 0 / PAGE_SIZE) None ≡ Some q
        old l true u =
            let same = eqb-true _ _ u in
            absurd (let g : None ≡ Some q = sym absent ∙ ap (λ (m : ℕ). get_or p.places m None) (sym same) ∙ x.place q l in cc)
        old l false u = get_or-set_other p.places (a / PAGE_SIZE) (get_or p.firsts q 0 / PAGE_SIZE) (Some (length p.firsts)) None (eqb-false _ _ u) ∙ x.place q l
    place q h false t =
        let l = ltb-false q (length p.firsts) t in
        let last : length p.firsts ≡ q = omega arith in
        rw (get_or_push p.firsts a 0 q last, get_or-set_same p.places (a / PAGE_SIZE) (Some (length p.firsts)) None room) (ap Some last)

-- the cell of an address elsewhere stays, and what is added is blank
page_cell_of : (p : Pages) (a b : ℕ) → a / PAGE_SIZE < length p.places → get_or p.places (a / PAGE_SIZE) None ≡ None
    → ((cell_of (with_page p a) b ≡ cell_of p b) ⊎ ((cell_of p b ≡ None) × (cell_of (with_page p a) b ≡ Some (length p.firsts * PAGE_SIZE + b % PAGE_SIZE))))
page_cell_of p a b room absent = go (b / PAGE_SIZE == a / PAGE_SIZE) refl
  where
    go : (t : Bool) → (b / PAGE_SIZE == a / PAGE_SIZE) ≡ t
        → ((cell_of (with_page p a) b ≡ cell_of p b) ⊎ ((cell_of p b ≡ None) × (cell_of (with_page p a) b ≡ Some (length p.firsts * PAGE_SIZE + b % PAGE_SIZE))))
    go false t = inl (ap (λ (o : Option ℕ). cell_in o b) (get_or-set_other p.places (a / PAGE_SIZE) (b / PAGE_SIZE) (Some (length p.firsts)) None (eqb-false _ _ t)))
    go true t =
        let same : b / PAGE_SIZE ≡ a / PAGE_SIZE = eqb-true _ _ t in
        inr (both same)
      where
        both : b / PAGE_SIZE ≡ a / PAGE_SIZE → (cell_of p b ≡ None) × (cell_of (with_page p a) b ≡ Some (length p.firsts * PAGE_SIZE + b % PAGE_SIZE))
        both same = (
          ap (λ (o : Option ℕ). cell_in o b) (ap (λ (m : ℕ). get_or p.places m None) same ∙ absent),
          ap (λ (o : Option ℕ). cell_in o b) (ap (λ (m : ℕ). get_or (set p.places (a / PAGE_SIZE) (Some (length p.firsts))) m None) same ∙ get_or-set_same p.places (a / PAGE_SIZE) (Some (length p.firsts)) None room),
        )

page_byte_of : (p : Pages) (a b : ℕ) → ArePages p → a / PAGE_SIZE < length p.places → get_or p.places (a / PAGE_SIZE) None ≡ None → byte_of (with_page p a) b ≡ byte_of p b
page_byte_of p a b x room absent = go (page_cell_of p a b room absent)
  where
    old : (o : Option ℕ) → cell_of p b ≡ o → byte_at_cell (p.bytes ++ zeros PAGE_SIZE) o ≡ byte_at_cell p.bytes o
    old None e = refl
    old (Some s) e = get_or_append_left p.bytes (zeros PAGE_SIZE) 0 s (let q = cell_owned p b s x e in omega (arith, x.owners))

    go : ((cell_of (with_page p a) b ≡ cell_of p b) ⊎ ((cell_of p b ≡ None) × (cell_of (with_page p a) b ≡ Some (length p.firsts * PAGE_SIZE + b % PAGE_SIZE)))) → byte_of (with_page p a) b ≡ byte_of p b
    go (inl e) = ap (byte_at_cell (p.bytes ++ zeros PAGE_SIZE)) e ∙ old (cell_of p b) refl
    go (inr e) =
        let at : length p.firsts * PAGE_SIZE + b % PAGE_SIZE ≡ length p.bytes + b % PAGE_SIZE = omega (arith, x.bytes) in
        ap (byte_at_cell (p.bytes ++ zeros PAGE_SIZE)) e.1 ∙ ap (λ (j : ℕ). get_or (p.bytes ++ zeros PAGE_SIZE) j 0) at ∙ get_or-append-add p.bytes (zeros PAGE_SIZE) (b % PAGE_SIZE) 0 ∙ get_or-zeros PAGE_SIZE (b % PAGE_SIZE) ∙ sym (ap (byte_at_cell p.bytes) e.0)

page_owner_of : (p : Pages) (a b : ℕ) → ArePages p → a / PAGE_SIZE < length p.places → get_or p.places (a / PAGE_SIZE) None ≡ None → owner_of (with_page p a) b ≡ owner_of p b
page_owner_of p a b x room absent = go (page_cell_of p a b room absent)
  where
    old : (o : Option ℕ) → cell_of p b ≡ o → owner_at_cell (p.owners ++ no_places PAGE_SIZE) o ≡ owner_at_cell p.owners o
    old None e = refl
    old (Some s) e = get_or_append_left p.owners (no_places PAGE_SIZE) None s (cell_owned p b s x e)

    go : ((cell_of (with_page p a) b ≡ cell_of p b) ⊎ ((cell_of p b ≡ None) × (cell_of (with_page p a) b ≡ Some (length p.firsts * PAGE_SIZE + b % PAGE_SIZE)))) → owner_of (with_page p a) b ≡ owner_of p b
    go (inl e) = ap (owner_at_cell (p.owners ++ no_places PAGE_SIZE)) e ∙ old (cell_of p b) refl
    go (inr e) =
        let at : length p.firsts * PAGE_SIZE + b % PAGE_SIZE ≡ length p.owners + b % PAGE_SIZE = omega (arith, x.bytes, x.owners) in
        ap (owner_at_cell (p.owners ++ no_places PAGE_SIZE)) e.1 ∙ ap (λ (j : ℕ). get_or (p.owners ++ no_places PAGE_SIZE) j None) at ∙ get_or-append-add p.owners (no_places PAGE_SIZE) (b % PAGE_SIZE) None ∙ get_or-no_places PAGE_SIZE (b % PAGE_SIZE) ∙ sym (ap (owner_at_cell p.owners) e.0)

pub page_ready : (p new : Pages) (a at : ℕ) → ArePages p → a / PAGE_SIZE < length p.places → cell_of p a ≡ None → new ≡ with_page p a → at ≡ length p.firsts * PAGE_SIZE + a % PAGE_SIZE → Ready p new a at
page_ready p new a at x room e n s = rw (n, s) (made (absent (get_or p.places (a / PAGE_SIZE) None) refl e))
  where
    absent : (o : Option ℕ) → get_or p.places (a / PAGE_SIZE) None ≡ o → cell_in o a ≡ None → get_or p.places (a / PAGE_SIZE) None ≡ None
    absent None o e = o
    absent (Some q) o e = absurd (cc)

    made : get_or p.places (a / PAGE_SIZE) None ≡ None → Ready p (with_page p a) a (length p.firsts * PAGE_SIZE + a % PAGE_SIZE)
    made absent = record {
      sound = page_sound p a x room absent;
      cell = ap (λ (o : Option ℕ). cell_in o a) (get_or-set_same p.places (a / PAGE_SIZE) (Some (length p.firsts)) None room);
      places = length-set p.places (a / PAGE_SIZE) (Some (length p.firsts));
      byte = λ b. page_byte_of p a b x room absent;
      owner = λ b. page_owner_of p a b x room absent;
      firsts = λ q h. firsts q (omega (arith, length-append p.firsts (a ∷ []))) (nat_lt q (length p.firsts)) refl;
    }
      where
        firsts : (q : ℕ) → q < length p.firsts + 1 → (t : Bool) → nat_lt q (length p.firsts) ≡ t
            → ((q < length p.firsts) × (get_or (p.firsts ++ a ∷ []) q 0 ≡ get_or p.firsts q 0)) ⊎ (get_or (p.firsts ++ a ∷ []) q 0 ≡ a)
        firsts q h true t = let l = ltb-true q (length p.firsts) t in inl ((l, get_or_append_left p.firsts (a ∷ []) 0 q l))
        firsts q h false t = let l = ltb-false q (length p.firsts) t in inr (get_or_push p.firsts a 0 q (omega arith))

pub cell_ready : (p : Pages) (a at : ℕ) → ArePages p → cell_of p a ≡ Some at → Ready p p a at
cell_ready p a at x e = record { sound = x; cell = e; places = refl; byte = λ b. refl; owner = λ b. refl; firsts = λ q h. inl ((h, refl)) }

-- ---- a run of bytes in one page is claimed

length_put : {X : Type 0} (at n : ℕ) (new xs : List X) → length new ≡ n → at + n ≤ length xs → length (take at xs ++ (new ++ drop (at + n) xs)) ≡ length xs
length_put at n new xs e h = grind (arith, places)

put_inside : {X : Type 0} (at n k : ℕ) (new xs : List X) (d : X) → length new ≡ n → at + n ≤ length xs → k < n → get_or (take at xs ++ (new ++ drop (at + n) xs)) (at + k) d ≡ get_or new k d
put_inside at n k new xs d e h l = grind (arith, places)

put_outside : {X : Type 0} (at n j : ℕ) (new xs : List X) (d : X) → length new ≡ n → at + n ≤ length xs → ((j < at) ⊎ (at + n ≤ j)) → get_or (take at xs ++ (new ++ drop (at + n) xs)) j d ≡ get_or xs j d
put_outside at n j new xs d e h o = grind (arith, places)

-- these bytes, as many as there is room for, and zeros after them
given_length : (size : ℕ) (given : List ℕ) → length (take size given ++ zeros (size - length given)) ≡ size
given_length size given = omega (arith, length-append (take size given) (zeros (size - length given)), length-zeros (size - length given), length-take size given)

given_at : (size k : ℕ) (given : List ℕ) → k < size → get_or (take size given ++ zeros (size - length given)) k 0 ≡ get_or given k 0
given_at size k given h = go (nat_lt k (length given)) refl
  where
    go : (t : Bool) → nat_lt k (length given) ≡ t → get_or (take size given ++ zeros (size - length given)) k 0 ≡ get_or given k 0
    go true t =
        let l = ltb-true k (length given) t in
        get_or_append_left (take size given) (zeros (size - length given)) 0 k (omega (arith, length-take size given)) ∙ get_or-take size given k 0 h
    go false t =
        let l = ltb-false k (length given) t in
        get_or-append_right (take size given) (zeros (size - length given)) (length given) k 0 (omega (arith, length-take size given)) l
        ∙ get_or-zeros (size - length given) (k - length given) ∙ sym (get_or_past given k 0 l)

-- the bytes of the pages where a run of cells is written
record AreWritten {X : Type 0} (old new : List X) (at size : ℕ) (value : ℕ → X) (d : X) : Type 0 where
  sized : length new ≡ length old
  inside : (k : ℕ) → k < size → get_or new (at + k) d ≡ value k
  outside : (j : ℕ) → ((j < at) ⊎ (at + size ≤ j)) → get_or new j d ≡ get_or old j d

run_filled : (old mid new : Pages) (a at size : ℕ) (given : List ℕ) (i : ℕ) → AreUsed old → Ready old mid a at → 0 < size → a % PAGE_SIZE + size ≤ PAGE_SIZE
    → new.places ≡ mid.places → new.firsts ≡ mid.firsts → AreWritten mid.bytes new.bytes at size (λ k. get_or given k 0) 0 → AreWritten mid.owners new.owners at size (λ k. Some i) None
    → FillsBytes old new a size given i
run_filled old mid new a at size given i used r some fits same_places same_firsts bytes owners = made
  where
    cell : (b : ℕ) → cell_of new b ≡ cell_of mid b
    cell b = ap (λ (places : List (Option ℕ)). cell_in (get_or places (b / PAGE_SIZE) None) b) same_places

    away : (b s : ℕ) → ((b < a) ⊎ (a + size ≤ b)) → cell_of mid b ≡ Some s → ((s < at) ⊎ (at + size ≤ s))
    away b s o e = go (nat_lt s at) refl (nat_lt s (at + size)) refl
      where
        go : (t : Bool) → nat_lt s at ≡ t → (u : Bool) → nat_lt s (at + size) ≡ u → ((s < at) ⊎ (at + size ≤ s))
        go true t u v = inl (ltb-true _ _ t)
        go false t false u = inr (ltb-false _ _ u)
        go false t true u =
            let low = ltb-false _ _ t in
            let high = ltb-true _ _ u in
            let to : Some s ≡ Some (at + (s - at)) = ap Some (omega arith) in
            let back : b ≡ a + (s - at) = cell_back mid a at b (s - at) r.sound r.cell (omega arith) (e ∙ to) in
            absurd (clash back low high o)
          where
            clash : b ≡ a + (s - at) → at ≤ s → s < at + size → ((b < a) ⊎ (a + size ≤ b)) → ⊥
            clash back low high (inl o) = omega arith
            clash back low high (inr o) = omega arith

    byte_outside : (b : ℕ) → ((b < a) ⊎ (a + size ≤ b)) → byte_of new b ≡ byte_of old b
    byte_outside b o = ap (byte_at_cell new.bytes) (cell b) ∙ go (cell_of mid b) refl ∙ r.byte b
      where
        go : (c : Option ℕ) → cell_of mid b ≡ c → byte_at_cell new.bytes c ≡ byte_at_cell mid.bytes c
        go None e = refl
        go (Some s) e = bytes.outside s (away b s o e)

    owner_outside : (b : ℕ) → ((b < a) ⊎ (a + size ≤ b)) → owner_of new b ≡ owner_of old b
    owner_outside b o = ap (owner_at_cell new.owners) (cell b) ∙ go (cell_of mid b) refl ∙ r.owner b
      where
        go : (c : Option ℕ) → cell_of mid b ≡ c → owner_at_cell new.owners c ≡ owner_at_cell mid.owners c
        go None e = refl
        go (Some s) e = owners.outside s (away b s o e)

    here : (k : ℕ) → k < size → cell_of new (a + k) ≡ Some (at + k)
    here k h = cell (a + k) ∙ cell_next mid a at k r.cell (omega arith)

    byte_inside : (k : ℕ) → k < size → byte_of new (a + k) ≡ get_or given k 0
    byte_inside k h = ap (byte_at_cell new.bytes) (here k h) ∙ bytes.inside k h

    owner_inside : (k : ℕ) → k < size → owner_of new (a + k) ≡ Some i
    owner_inside k h = ap (owner_at_cell new.owners) (here k h) ∙ owners.inside k h

    owned_here : (b : ℕ) → a ≤ b → b < a + size → owner_of new b ≡ None → ⊥
    owned_here b low high e =
        let to : a + (b - a) ≡ b = omega arith in
        let g : Some i ≡ None = sym (owner_inside (b - a) (omega arith)) ∙ ap (owner_of new) to ∙ e in
        absurd (cc)

    -- an address lies outside, or it has an owner
    where_is : (b : ℕ) → owner_of new b ≡ None → ((b < a) ⊎ (a + size ≤ b))
    where_is b e = go (nat_lt b a) refl (nat_lt b (a + size)) refl
      where
        go : (t : Bool) → nat_lt b a ≡ t → (u : Bool) → nat_lt b (a + size) ≡ u → ((b < a) ⊎ (a + size ≤ b))
        go true t u v = inl (ltb-true _ _ t)
        go false t false u = inr (ltb-false _ _ u)
        go false t true u = absurd (owned_here b (ltb-false _ _ t) (ltb-true _ _ u) e)

    first : (q : ℕ) → ((q < length old.firsts) × (get_or mid.firsts q 0 ≡ get_or old.firsts q 0)) ⊎ (get_or mid.firsts q 0 ≡ a) → owner_of new (get_or mid.firsts q 0) ≡ None → ⊥
    first q (inl p) e =
        let f = rw p.1 at e in
        used.used q p.0 (sym (owner_outside (get_or old.firsts q 0) (where_is (get_or old.firsts q 0) f)) ∙ f)
    first q (inr p) e = owned_here a (omega arith) (omega arith) (rw p at e)

    made : FillsBytes old new a size given i
    made = record {
      sound = record {
        number = rw (same_places, same_firsts) (r.sound).number;
        place = rw (same_places, same_firsts) (r.sound).place;
        bytes = bytes.sized ∙ (r.sound).bytes ∙ ap (λ (fs : List ℕ). length fs * PAGE_SIZE) (sym same_firsts);
        owners = owners.sized ∙ (r.sound).owners ∙ sym bytes.sized;
      };
      used = record {
        used = λ q h e. first q (r.firsts q (rw same_firsts at h)) (rw same_firsts at e);
        blank = λ b e. let o = where_is b e in byte_outside b o ∙ used.blank b (sym (owner_outside b o) ∙ e);
      };
      places = ap length same_places ∙ r.places;
      byte_inside = byte_inside;
      owner_inside = owner_inside;
      byte_outside = byte_outside;
      owner_outside = owner_outside;
    }

pub run_claimed : (old mid new : Pages) (a at size : ℕ) (given : List ℕ) (i : ℕ) → AreUsed old → Ready old mid a at → 0 < size → a % PAGE_SIZE + size ≤ PAGE_SIZE
    → new ≡ record mid { bytes = take at mid.bytes ++ ((take size given ++ zeros (size - length given)) ++ drop (at + size) mid.bytes); owners = take at mid.owners ++ (replicate size (Some i) ++ drop (at + size) mid.owners) }
    → FillsBytes old new a size given i
run_claimed old mid new a at size given i used r some fits n = rw n (run_filled old mid _ a at size given i used r some fits refl refl bytes owners)
  where
    room : at + size ≤ length mid.bytes
    room = cell_room mid a at size r.sound r.cell fits

    owner_room : at + size ≤ length mid.owners
    owner_room = omega (arith, room, (r.sound).owners)

    bytes : AreWritten mid.bytes (take at mid.bytes ++ ((take size given ++ zeros (size - length given)) ++ drop (at + size) mid.bytes)) at size (λ k. get_or given k 0) 0
    bytes = record {
      sized = length_put at size _ mid.bytes (given_length size given) room;
      inside = λ k h. put_inside at size k _ mid.bytes 0 (given_length size given) room h ∙ given_at size k given h;
      outside = λ j o. put_outside at size j _ mid.bytes 0 (given_length size given) room o;
    }

    owners : AreWritten mid.owners (take at mid.owners ++ (replicate size (Some i) ++ drop (at + size) mid.owners)) at size (λ k. Some i) None
    owners = record {
      sized = length_put at size _ mid.owners (length-replicate size (Some i)) owner_room;
      inside = λ k h. put_inside at size k _ mid.owners None (length-replicate size (Some i)) owner_room h ∙ get_or-replicate size k (Some i) None h;
      outside = λ j o. put_outside at size j _ mid.owners None (length-replicate size (Some i)) owner_room o;
    }

-- ---- a run of bytes is filled

-- a run goes on where the run before it ends
pub filled_more : (old mid new : Pages) (start k n : ℕ) (given : List ℕ) (i : ℕ) → FillsBytes old mid start k given i → FillsBytes mid new (start + k) n (drop k given) i → FillsBytes old new start (k + n) given i
filled_more old mid new start k n given i f g = record {
  sound = g.sound;
  used = g.used;
  places = g.places ∙ f.places;
  byte_inside = λ j h. byte_inside j h (nat_lt j k) refl;
  owner_inside = λ j h. owner_inside j h (nat_lt j k) refl;
  byte_outside = λ b o. g.byte_outside b (after b o) ∙ f.byte_outside b (before b o);
  owner_outside = λ b o. g.owner_outside b (after b o) ∙ f.owner_outside b (before b o);
}
  where
    after : (b : ℕ) → ((b < start) ⊎ (start + (k + n) ≤ b)) → ((b < start + k) ⊎ (start + k + n ≤ b))
    after b (inl o) = inl (omega arith)
    after b (inr o) = inr (omega arith)

    before : (b : ℕ) → ((b < start) ⊎ (start + (k + n) ≤ b)) → ((b < start) ⊎ (start + k ≤ b))
    before b (inl o) = inl o
    before b (inr o) = inr (omega arith)

    byte_inside : (j : ℕ) → j < k + n → (t : Bool) → nat_lt j k ≡ t → byte_of new (start + j) ≡ get_or given j 0
    byte_inside j h true t = let l = ltb-true j k t in g.byte_outside (start + j) (inl (omega arith)) ∙ f.byte_inside j l
    byte_inside j h false t =
        let l = ltb-false j k t in
        let to : start + k + (j - k) ≡ start + j = omega arith in
        let at : k + (j - k) ≡ j = omega arith in
        ap (byte_of new) (sym to) ∙ g.byte_inside (j - k) (omega arith) ∙ get_or-drop k given (j - k) 0 ∙ ap (λ (m : ℕ). get_or given m 0) at

    owner_inside : (j : ℕ) → j < k + n → (t : Bool) → nat_lt j k ≡ t → owner_of new (start + j) ≡ Some i
    owner_inside j h true t = let l = ltb-true j k t in g.owner_outside (start + j) (inl (omega arith)) ∙ f.owner_inside j l
    owner_inside j h false t =
        let l = ltb-false j k t in
        let to : start + k + (j - k) ≡ start + j = omega arith in
        ap (owner_of new) (sym to) ∙ g.owner_inside (j - k) (omega arith)

-- ---- a segment is laid

outside : (p : Pages) (parts : List SegmentInfo) (spec : SegmentSpec) (d : SegmentInfo) (a i : ℕ) → length spec.bytes.now ≤ spec.size → AreApart (segments_at (byte_of p) parts ++ segment_of spec ∷ [])
    → i < length parts → part_holds (get_or parts i d) a 1 ≡ true → ((a < spec.start) ⊎ (spec.start + spec.size ≤ a))
outside p parts spec d a i fits apart l c = go (nat_lt a spec.start) refl (nat_lt a (spec.start + spec.size)) refl
  where
    one : holds (get_or (segments_at (byte_of p) parts ++ segment_of spec ∷ []) i (segment_of spec)) a 1 ≡ true
    one =
        rw (
          get_or_append_left (segments_at (byte_of p) parts) (segment_of spec ∷ []) (segment_of spec) i (omega (arith, length-map parts (segment_at (byte_of p)))),
          at_part (byte_of p) parts i (segment_of spec) d l,
          holds_covers (byte_of p) (get_or parts i d) a 1,
        )
        c

    two : spec.start ≤ a → a < spec.start + spec.size → holds (get_or (segments_at (byte_of p) parts ++ segment_of spec ∷ []) (length parts) (segment_of spec)) a 1 ≡ true
    two low high =
        let size = length-segment_of spec fits in
        rw (get_or_push (segments_at (byte_of p) parts) (segment_of spec) (segment_of spec) (length parts) (length-map parts (segment_at (byte_of p))), size, le-leb spec.start a low, le-leb (a - spec.start + 1) spec.size (omega arith)) refl

    go : (t : Bool) → nat_lt a spec.start ≡ t → (u : Bool) → nat_lt a (spec.start + spec.size) ≡ u → ((a < spec.start) ⊎ (spec.start + spec.size ≤ a))
    go true t u v = inl (ltb-true _ _ t)
    go false t false u = inr (ltb-false _ _ u)
    go false t true u =
        let low = ltb-false _ _ t in
        let high = ltb-true _ _ u in
        let k = length-append (segments_at (byte_of p) parts) (segment_of spec ∷ []) in
        let m = length-map parts (segment_at (byte_of p)) in
        absurd (let e : i ≡ length parts = apart a i (length parts) (segment_of spec) (omega (arith, k, m)) (omega (arith, k, m)) one (two low high) in omega arith)

laid_bytes : (new : Pages) (spec : SegmentSpec) → length spec.bytes.now ≤ spec.size → ((k : ℕ) → k < spec.size → byte_of new (spec.start + k) ≡ get_or spec.bytes.now k 0)
    → bytes_from (byte_of new) spec.start spec.size ≡ spec.bytes.now ++ zeros (spec.size - length spec.bytes.now)
laid_bytes new spec fits inside =
    let n = length-from (byte_of new) spec.start spec.size in
    let m : length (spec.bytes.now ++ zeros (spec.size - length spec.bytes.now)) ≡ spec.size = omega (arith, length-append spec.bytes.now (zeros (spec.size - length spec.bytes.now)), length-zeros (spec.size - length spec.bytes.now)) in
    same_number_lists _ _ (n ∙ sym m) (λ k h. let l : k < spec.size = omega (arith, n) in from_at (byte_of new) spec.start spec.size k l ∙ inside k l ∙ each k (nat_lt k (length spec.bytes.now)) refl)
  where
    each : (k : ℕ) → (t : Bool) → nat_lt k (length spec.bytes.now) ≡ t → get_or spec.bytes.now k 0 ≡ get_or (spec.bytes.now ++ zeros (spec.size - length spec.bytes.now)) k 0
    each k true t = sym (get_or_append_left spec.bytes.now (zeros (spec.size - length spec.bytes.now)) 0 k (ltb-true _ _ t))
    each k false t =
        let l = ltb-false k (length spec.bytes.now) t in
        let to : k ≡ length spec.bytes.now + (k - length spec.bytes.now) = omega arith in
        get_or_past spec.bytes.now k 0 l
        ∙ sym (ap (λ (j : ℕ). get_or (spec.bytes.now ++ zeros (spec.size - length spec.bytes.now)) j 0) to ∙ get_or-append-add spec.bytes.now (zeros (spec.size - length spec.bytes.now)) (k - length spec.bytes.now) 0 ∙ get_or-zeros (spec.size - length spec.bytes.now) (k - length spec.bytes.now))

abbrev pub part_of : SegmentSpec → SegmentInfo
part_of spec = record { start = spec.start; size = spec.size; write = spec.write; exec = spec.exec }

pub lays_more : (p new : Pages) (parts : List SegmentInfo) (spec : SegmentSpec) (ss : List Segment) → Lays p parts ss → FillsBytes p new spec.start spec.size spec.bytes.now (length parts) → length spec.bytes.now ≤ spec.size
    → AreApart (segments_at (byte_of p) parts ++ segment_of spec ∷ []) → Lays new (parts ++ part_of spec ∷ []) (segments_at (byte_of p) parts ++ segment_of spec ∷ [])
lays_more p new parts spec ss lays f fits apart = record {
  sound = f.sound;
  used = f.used;
  owned = record { part = λ a i d e. part a i d e (nat_lt a spec.start) refl (nat_lt a (spec.start + spec.size)) refl; owner = λ a i d l c. owner a i d (omega (arith, length-append parts (part_of spec ∷ []))) c (nat_lt i (length parts)) refl };
  places = f.places ∙ lays.places;
  made = map-append (segment_at (byte_of new)) parts (part_of spec ∷ []) ∙ join olds (ap (λ (bs : List ℕ). record { start = spec.start; bytes = bs; write = spec.write; exec = spec.exec }) (laid_bytes new spec fits f.byte_inside));
}
  where
    join : segments_at (byte_of new) parts ≡ segments_at (byte_of p) parts → segment_at (byte_of new) (part_of spec) ≡ segment_of spec
        → segments_at (byte_of new) parts ++ segment_at (byte_of new) (part_of spec) ∷ [] ≡ segments_at (byte_of p) parts ++ segment_of spec ∷ []
    join e g = rw (e, g) refl

    olds : segments_at (byte_of new) parts ≡ segments_at (byte_of p) parts
    olds =
        same_lists _ _ (length-map parts (segment_at (byte_of new)) ∙ sym (length-map parts (segment_at (byte_of p))))
        (λ j t h. let l : j < length parts = omega (arith, length-map parts (segment_at (byte_of new))) in at_part (byte_of new) parts j t no_part l ∙ same j l ∙ sym (at_part (byte_of p) parts j t no_part l))
      where
        same : (j : ℕ) → j < length parts → segment_at (byte_of new) (get_or parts j no_part) ≡ segment_at (byte_of p) (get_or parts j no_part)
        same j l = part_same (byte_of p) (byte_of new) (get_or parts j no_part) (λ k z. let part = get_or parts j no_part in f.byte_outside (part.start + k) (outside p parts spec no_part (part.start + k) j fits apart l (covering part (part.start + k) 1 (omega arith) (omega arith))))

    part : (a i : ℕ) (d : SegmentInfo) → owner_of new a ≡ Some i → (t : Bool) → nat_lt a spec.start ≡ t → (u : Bool) → nat_lt a (spec.start + spec.size) ≡ u
        → (i < length (parts ++ part_of spec ∷ [])) × IsTrue (part_holds (get_or (parts ++ part_of spec ∷ []) i d) a 1)
    part a i d e true t u v = old (f.owner_outside a (inl (ltb-true _ _ t)))
      where
        old : owner_of new a ≡ owner_of p a → (i < length (parts ++ part_of spec ∷ [])) × IsTrue (part_holds (get_or (parts ++ part_of spec ∷ []) i d) a 1)
        old s = let q = (lays.owned).part a i d (sym s ∙ e) in (omega (arith, length-append parts (part_of spec ∷ []), q.0), rw (get_or_append_left parts (part_of spec ∷ []) d i q.0) q.1)
    part a i d e false t false u = old (f.owner_outside a (inr (ltb-false _ _ u)))
      where
        old : owner_of new a ≡ owner_of p a → (i < length (parts ++ part_of spec ∷ [])) × IsTrue (part_holds (get_or (parts ++ part_of spec ∷ []) i d) a 1)
        old s = let q = (lays.owned).part a i d (sym s ∙ e) in (omega (arith, length-append parts (part_of spec ∷ []), q.0), rw (get_or_append_left parts (part_of spec ∷ []) d i q.0) q.1)
    part a i d e false t true u =
        let low = ltb-false _ _ t in
        let high = ltb-true _ _ u in
        let to : spec.start + (a - spec.start) ≡ a = omega arith in
        let mine = rw to at (f.owner_inside (a - spec.start) (omega arith)) in
        let g : Some (length parts) ≡ Some i = sym mine ∙ e in
        let last : length parts ≡ i = cc in
        (omega (arith, length-append parts (part_of spec ∷ [])), rw (get_or_push parts (part_of spec) d i last) (covering (part_of spec) a 1 low (omega arith)))

    owner : (a i : ℕ) (d : SegmentInfo) → i < length parts + 1 → IsTrue (part_holds (get_or (parts ++ part_of spec ∷ []) i d) a 1) → (t : Bool) → nat_lt i (length parts) ≡ t → owner_of new a ≡ Some i
    owner a i d l c true t =
        let m = ltb-true _ _ t in
        let k = rw (get_or_append_left parts (part_of spec ∷ []) d i m) at c in
        f.owner_outside a (outside p parts spec d a i fits apart m k) ∙ (lays.owned).owner a i d m k
    owner a i d l c false t =
        let m = ltb-false _ _ t in
        let last : length parts ≡ i = omega arith in
        let k = covered (part_of spec) a 1 (rw (get_or_push parts (part_of spec) d i last) at c) in
        let to : spec.start + (a - spec.start) ≡ a = omega (arith, k.low) in
        rw to at (f.owner_inside (a - spec.start) (omega (arith, k.high))) ∙ ap Some last

-- nothing is laid at first
pub lays_none : Lays no_pages [] []
lays_none = record {
  sound = record {
    number = λ n q e. absurd (let g : None ≡ Some q = sym (get_or-no_places PAGE_COUNT n) ∙ e in cc);
    place = λ q h. absurd (omega arith);
    bytes = refl;
    owners = refl;
  };
  used = record { used = λ q h e. absurd (omega arith); blank = λ a e. ap (byte_at_cell []) (ap (λ (o : Option ℕ). cell_in o a) (get_or-no_places PAGE_COUNT (a / PAGE_SIZE))) };
  owned = record {
    part = λ a i d e. absurd (let g : None ≡ Some i = sym (ap (owner_at_cell []) (ap (λ (o : Option ℕ). cell_in o a) (get_or-no_places PAGE_COUNT (a / PAGE_SIZE)))) ∙ e in cc);
    owner = λ a i d l c. absurd (omega arith);
  };
  places = length-no_places PAGE_COUNT;
  made = refl;
}

pub if_ready : (p new : Pages) (a : ℕ) (E : Type 0) (r : Result ℕ E) → ArePages p → a / PAGE_SIZE < length p.places → cell_of p a ≡ None → OnOk r (new ≡ with_page p a)
    → IfOk r (λ at. at ≡ length p.firsts * PAGE_SIZE + a % PAGE_SIZE) → IfOk r (λ at. Ready p new a at)
if_ready p new a E (Ok at) x room e n s = page_ready p new a at x room e n s
if_ready p new a E (Err f) x room e n s = tt

-- ---- the segments of a bus are apart as they are laid one after the other

prefix_apart : (xs ys : List Segment) → AreApart (xs ++ ys) → AreApart xs
prefix_apart xs ys p a i j d h k x y =
    let n = length-append xs ys in
    p a i j d (omega arith) (omega arith) (rw (get_or_append_left xs ys d i h) x) (rw (get_or_append_left xs ys d j k) y)

pub next_apart : (xs : List Segment) (y : Segment) (ys all : List Segment) → all ≡ xs ++ (y ∷ ys) → AreApart all → AreApart (xs ++ y ∷ [])
next_apart xs y ys all e p = prefix_apart (xs ++ y ∷ []) ys (rw (append_assoc xs (y ∷ []) ys) (rw e at p))

pub rest_of : (specs : List SegmentSpec) (i : ℕ) (d : SegmentSpec) → i < length specs
    → map segment_of specs ≡ map segment_of (take i specs) ++ (segment_of (get_or specs i d) ∷ map segment_of (drop (suc i) specs))
rest_of specs i d h =
    ap (map segment_of) (sym (take-append-drop i specs)) ∙ map-append segment_of (take i specs) (drop i specs)
    ∙ ap (λ (rest : List SegmentSpec). map segment_of (take i specs) ++ map segment_of rest) (drop-cons specs i d h)

pub relay : (p : Pages) (parts : List SegmentInfo) (ss : List Segment) → Lays p parts ss → Lays p parts (segments_at (byte_of p) parts)
relay p parts ss l = record { sound = l.sound; used = l.used; owned = l.owned; places = l.places; made = refl }

whole_apart : (specs : List SegmentSpec) → CanBuild specs → AreApart (initial_memory specs).segments
whole_apart specs c = apart_all (map segment_of specs) (image_ends specs c.fit) c.apart

pub stack_apart : (p : Pages) (parts : List SegmentInfo) → parts ≡ [] → AreApart (segments_at (byte_of p) parts ++ zeros_at STACK_START STACK_SIZE ∷ [])
stack_apart p parts e = rw e (one_apart (zeros_at STACK_START STACK_SIZE))

pub pool_apart : (p : Pages) (parts : List SegmentInfo) (specs : List SegmentSpec) → CanBuild specs → Lays p parts (zeros_at STACK_START STACK_SIZE ∷ []) → AreApart (segments_at (byte_of p) parts ++ zeros_at POOL_START POOL_SIZE ∷ [])
pool_apart p parts specs c l =
    rw l.made (next_apart (zeros_at STACK_START STACK_SIZE ∷ []) (zeros_at POOL_START POOL_SIZE) (map segment_of specs) (initial_memory specs).segments refl (whole_apart specs c))

pub image_apart : (p : Pages) (parts : List SegmentInfo) (specs : List SegmentSpec) (i : ℕ) (d : SegmentSpec) → CanBuild specs → i < length specs → Lays p parts (initial_memory (take i specs)).segments
    → AreApart (segments_at (byte_of p) parts ++ segment_of (get_or specs i d) ∷ [])
image_apart p parts specs i d c h l =
    rw l.made (
    next_apart (initial_memory (take i specs)).segments (segment_of (get_or specs i d)) (map segment_of (drop (suc i) specs)) (initial_memory specs).segments
    (ap (λ (r : List Segment). zeros_at STACK_START STACK_SIZE ∷ zeros_at POOL_START POOL_SIZE ∷ r) (rest_of specs i d h)) (whole_apart specs c)
    )

pub laid_as : (p new : Pages) (parts more : List SegmentInfo) (ss : List Segment) (s : Segment) → Lays p parts ss → Lays new more (segments_at (byte_of p) parts ++ s ∷ []) → Lays new more (ss ++ s ∷ [])
laid_as p new parts more ss s l m = rw l.made at m

pub laid_more : (p new : Pages) (parts more : List SegmentInfo) (specs : List SegmentSpec) (i : ℕ) (d : SegmentSpec) → i < length specs → Lays p parts (initial_memory (take i specs)).segments
    → Lays new more (segments_at (byte_of p) parts ++ segment_of (get_or specs i d) ∷ []) → Lays new more (initial_memory (take (i + 1) specs)).segments
laid_more p new parts more specs i d h l m =
    let e : map segment_of (take (i + 1) specs) ≡ map segment_of (take i specs) ++ segment_of (get_or specs i d) ∷ [] = ap (map segment_of) (take_more specs i d h) ∙ map-append segment_of (take i specs) (get_or specs i d ∷ []) in
    rw e (laid_as p new parts more (initial_memory (take i specs)).segments (segment_of (get_or specs i d)) l m)

pub laid_segments : (p : Pages) (parts : List SegmentInfo) (specs : List SegmentSpec) → Lays p parts (initial_memory (take (length specs) specs)).segments → Lays p parts (initial_memory specs).segments
laid_segments p parts specs l = rw (take-length specs) at l
