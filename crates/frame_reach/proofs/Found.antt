-- What a search finds: the places of the function that are reached, once all edges are followed.
use Rattle.std.proofs.Common.{ℕ, ◌≡◌, ◌<◌, ◌≤◌, ◌+◌, ◌-◌, ◌*◌, ◌^◌, ◌⊎◌, inl, inr, Bool, true, false, cond, List, [], ◌++◌, length, get_or, take, Option, Some, None, Result, Ok, Err, sym, ◌∙◌, ap, subst, refl, ⊎_elim, arith, zero, suc, replicate}
use Rattle.std.proofs.lemmas.Grind.{get_or_default_zero}
use Rattle.std.proofs.lemmas.List.Elements.{Contains-append_left, Contains-append_right, Contains-append_cases, Contains-push_cases, Contains-get_or}
use Rattle.std.proofs.lemmas.Bool.{cases_eq, true≢false}
use Rattle.std.specs.Option.{option_map_or}
use Rattle.std.proofs.lemmas.List.{take_more, take_all, length-replicate}
use Rattle.std.specs.Prelude.{nat_eq, slice_index, OnOk, is_ok}
use Rattle.std.specs.List.{Contains, IsDistinct}
use Rattle.frame_graph.specs.declared.edges.Edge.{Edge}
use Rattle.frame_graph.specs.FlowGraph.{FlowGraph}
use Rattle.frame_code.specs.declared.standing.Standing.{Standing}
use Rattle.frame_code.specs.declared.standing.Standing.TheVariants.{Instruction, Udf, Nothing}
use Rattle.frame_graph.specs.Places.{address_of, place_of, standing_at}
use Rattle.frame_code.specs.Branches.{branch_target}
use Rattle.frame_code.specs.Standing.{instruction_of}
use Rattle.frame_graph.specs.Edges.{edges_to, fall_through_edges, straight_by, straight_edges, branch_place}
use Rattle.std.proofs.lemmas.Option.{none-some}
use Rattle.std.specs.Prelude.{option_and_then}
use Rattle.frame_dataflow.proofs.Work.{contains_head}
use Rattle.frame_graph.specs.Sites.{site_at, edges_from, edges_of, is_split}
use Rattle.frame_graph.specs.Reach.{IsReached, entry, along}
use Rattle.frame_graph.proofs.Inside.{edges_stay_inside}
use Rattle.frame_reach.specs.Marks.{IsPad, IsBranched, IsTarget, IsTooLong, IsSplit, Marks, AreMarks, AreThePlaces}
use Rattle.frame_reach.specs.Held.{SearchView, is_set, marks_of, splits_at}
use Rattle.frame_reach.specs.Prologue.{places}
use Rattle.frame_reach.specs.Laws.{TargetsAreReached}
use Rattle.frame_reach.specs.Search.{AreSound, Grow, AreFollowed, IsPutIn, IsLandedIn}
use Rattle.frame_reach.proofs.Marking.{no_more}

-- ---- places that are reached lie inside

pub inside : (s : FlowGraph) (p : ℕ) → IsReached s p → (p ≡ 0) ⊎ (s.start + 2 * p < s.end)
inside s _ entry = inl refl
inside s _ (along {p} {w} r h) = inr (edges_stay_inside s p w h)

pub below : (s : FlowGraph) (p : ℕ) → IsReached s p → p < places s
below s p r = ⊎_elim
    (λ (e : p ≡ 0). omega (arith, e))
    (λ (l : s.start + 2 * p < s.end). omega (arith, l))
    (inside s p r)

pub low : (s : FlowGraph) (p : ℕ) → IsReached s p → s.start < 2 ^ 32 → s.end < 2 ^ 32 → s.start + 2 * p < 2 ^ 32
low s p r a b = ⊎_elim
    (λ (e : p ≡ 0). omega (arith, e, a))
    (λ (l : s.start + 2 * p < s.end). omega (arith, l, b))
    (inside s p r)

-- ---- edges lead to places that are reached

pub straight_reached : (s : FlowGraph) (p : ℕ) (w : Edge) → IsReached s p → Contains (straight_edges s p) w → IsReached s w.to
unfolding edges_of
straight_reached s p w r h = along r (Contains-append_left (straight_edges s p) (edges_from s (site_at s p)) w h)

pub landing_reached : (s : FlowGraph) (p : ℕ) (w : Edge) → IsReached s p → Contains (edges_from s (site_at s p)) w → IsReached s w.to
unfolding edges_of
landing_reached s p w r h = along r (Contains-append_right (straight_edges s p) (edges_from s (site_at s p)) w h)

pub pad_reached : (s : FlowGraph) (q : ℕ) → IsPad s q → IsReached s q
pad_reached s q d = subst (λ (x : ℕ). IsReached s x) d.4 (landing_reached s d.0 d.1 d.2 d.3)

-- ---- all edges are followed

module _ (s : FlowGraph) (h : SearchView) (a : AreSound s h) (begins : is_set h.reached 0 ≡ true)
    (followed : (k : ℕ) → k < length h.places → AreFollowed s h (slice_index h.places k)) where
  follow : (p : ℕ) → is_set h.reached p ≡ true → AreFollowed s h p
  follow p e =
      let c = (a.listed.all p).1 e in
      subst (λ (x : ℕ). AreFollowed s h x) (sym (get_or_default_zero h.places c.0 p c.1) ∙ c.2) (followed c.0 c.1)

  every : (p : ℕ) → IsReached s p → is_set h.reached p ≡ true
  unfolding edges_of
  every _ entry = begins
  every _ (along {p} {w} r e) =
      let f = follow p (every p r) in ⊎_elim
      (λ (c : Contains (straight_edges s p) w). f.straight w c)
      (λ (c : Contains (edges_from s (site_at s p)) w). (f.landings w c).0)
      (Contains-append_cases (straight_edges s p) (edges_from s (site_at s p)) w e)

  pad_marked : (q : ℕ) → IsPad s q → IsLandedIn h q
  pad_marked q d = subst (λ (x : ℕ). IsLandedIn h x) d.4 ((follow d.0 (every d.0 d.2)).landings d.1 d.3)

  pub all_marked : AreMarks s (marks_of h)
  all_marked = record {
    reached = λ p. (a.reached p, every p);
    target = λ q. (
      a.target q,
      λ t. ⊎_elim
          (λ (b : IsBranched s q). (follow b.0 (every b.0 b.1)).branch q b.2)
          (λ (d : IsPad s q). (pad_marked q d).1)
          t,
    );
    pad = λ q. (a.pad q, λ d. (pad_marked q d).2);
  }

  pub not_too_long : IsTooLong s → ⊥
  not_too_long t = omega (arith, t.3, a.few, no_more t.0 h.places t.1 (λ p c. (a.listed.all p).1 (every p (t.2 p c))))

branch_edge : (s : FlowGraph) (a : ℕ) (t : Standing) (q : ℕ) → option_and_then (place_of s) (option_and_then (branch_target a) (instruction_of t)) ≡ Some q
    → Contains (straight_by s a t) (record { to = q; clobbers = 0 })
branch_edge s a (Instruction i size) q e =
    let w : Edge = record { to = q; clobbers = 0 } in
    let to = option_and_then (place_of s) (branch_target a i) in
    Contains-append_right (fall_through_edges s a i size) (edges_to 0 to) w (subst (λ (o : Option ℕ). Contains (edges_to 0 o) w) (sym e) (contains_head w []))
branch_edge s a Udf q e = absurd (none-some q e)
branch_edge s a Nothing q e = absurd (none-some q e)

branch_reached : (s : FlowGraph) (q : ℕ) → IsBranched s q → IsReached s q
branch_reached s q b = straight_reached s b.0 (record { to = q; clobbers = 0 }) b.1 (branch_edge s (address_of s b.0) (standing_at s b.0) q b.2)

pub targets_are_reached : TargetsAreReached
targets_are_reached s q t = ⊎_elim (λ (b : IsBranched s q). branch_reached s q b) (λ (d : IsPad s q). pad_reached s q d) t

pub target_below : (s : FlowGraph) (q : ℕ) → IsTarget s q → q < places s
target_below s q t = below s q (targets_are_reached s q t)

-- ---- nothing is found yet

pub unmarked : (n p : ℕ) → is_set (replicate n false) p ≡ false
unmarked zero p = refl
unmarked (suc n) zero = refl
unmarked (suc n) (suc p) = unmarked n p

none_listed : (p : ℕ) → Contains [] p → ⊥
none_listed p c = omega (arith, c.1)

none_twice : IsDistinct nat_eq []
unfolding IsDistinct
none_twice = tt

blank_sound : (s : FlowGraph) (n : ℕ) → n ≡ places s → AreSound s (record { reached = replicate n false; target = replicate n false; pad = replicate n false; places = [] })
blank_sound s n e = record {
  reached_long = length-replicate n false ∙ e;
  target_long = length-replicate n false ∙ e;
  pad_long = length-replicate n false ∙ e;
  listed = record { once = none_twice; all = λ p. (λ c. absurd (none_listed p c), λ h. absurd (true≢false (sym h ∙ unmarked n p))) };
  few = omega arith;
  reached = λ p h. absurd (true≢false (sym h ∙ unmarked n p));
  target = λ p h. absurd (true≢false (sym h ∙ unmarked n p));
  pad = λ p h. absurd (true≢false (sym h ∙ unmarked n p));
}

pub blanks_sound : (s : FlowGraph) (n : ℕ) (a b c : List Bool) (ps : List ℕ) → n ≡ places s → a ≡ replicate n false → b ≡ replicate n false → c ≡ replicate n false → ps ≡ []
    → AreSound s (record { reached = a; target = b; pad = c; places = ps })
blanks_sound s n a b c ps e x y z w =
    let blank = replicate n false in
    subst (λ (u : List Bool). AreSound s (record { reached = u; target = b; pad = c; places = ps })) (sym x)
    (subst (λ (u : List Bool). AreSound s (record { reached = blank; target = u; pad = c; places = ps })) (sym y)
    (subst (λ (u : List Bool). AreSound s (record { reached = blank; target = blank; pad = u; places = ps })) (sym z)
    (subst (λ (u : List ℕ). AreSound s (record { reached = blank; target = blank; pad = blank; places = u })) (sym w) (blank_sound s n e))))

-- the lists of other marks: there are none in them yet
pub none_are_places : (reached target pad : List Bool) (ps : List ℕ) → reached ≡ [] → ps ≡ [] → AreThePlaces (marks_of (record { reached = reached; target = target; pad = pad; places = ps })) ps
none_are_places reached target pad ps e f = record {
  once = subst (λ (l : List ℕ). IsDistinct nat_eq l) (sym f) none_twice;
  all = λ p. (λ c. absurd (none_listed p (subst (λ (l : List ℕ). Contains l p) f c)), λ h. absurd (true≢false (sym h ∙ ap (λ (l : List Bool). is_set l p) e)));
}

none_taken : (n : ℕ) (none : List Bool) → none ≡ [] → take n none ≡ []
none_taken zero none e = refl
none_taken (suc n) none e = ap (take (suc n)) e

-- .. and they are made as long as the function
pub unmarked_anew : {E : Type 0} (before marks : List Bool) (n m : ℕ) (r : Result (Unit {0}) E) → before ≡ [] → m ≡ 0 → marks ≡ cond (is_ok r) (take n before ++ replicate (n - m) false) before
    → OnOk r (marks ≡ replicate n false)
unmarked_anew before marks n m (Ok u) e z is =
    let rest : n - m ≡ n = omega (arith, z) in
    is ∙ (ap (λ (l : List Bool). l ++ replicate (n - m) false) (none_taken n before e) ∙ ap (λ (k : ℕ). replicate k false) rest)
unmarked_anew before marks n m (Err fault) e z is = tt

-- ---- the edges of one place

-- what is followed stays so
pub followed_grow : (s : FlowGraph) (h g : SearchView) (p : ℕ) → Grow h g → AreFollowed s h p → AreFollowed s g p
followed_grow s h g p more f = record {
  straight = λ w c. more.reached w.to (f.straight w c);
  landings = λ w c. let l = f.landings w c in (more.reached w.to l.0, more.target w.to l.1, more.pad w.to l.2);
  branch = λ q e. more.target q (f.branch q e);
}

pub followed : (s : FlowGraph) (a b c : SearchView) (p : ℕ) (edges : List Edge) (target : Option ℕ) → edges ≡ straight_edges s p → target ≡ branch_place s p
    → Grow a b → Grow b c → ((w : Edge) → Contains edges w → IsPutIn a w.to) → ((w : Edge) → Contains (edges_from s (site_at s p)) w → IsLandedIn b w.to) → ((q : ℕ) → target ≡ Some q → is_set c.target q ≡ true) → AreFollowed s c p
followed s a b c p edges target is_edges is_target g h put landed aimed = record {
  straight = λ w e. h.reached w.to (g.reached w.to (put w (subst (λ (ws : List Edge). Contains ws w) (sym is_edges) e)));
  landings = λ w e. let l = landed w e in (h.reached w.to l.0, h.target w.to l.1, h.pad w.to l.2);
  branch = λ q e. aimed q (is_target ∙ e);
}

pub straight_all : (s : FlowGraph) (p : ℕ) (edges : List Edge) → IsReached s p → edges ≡ straight_edges s p → (w : Edge) → Contains edges w → IsReached s w.to
straight_all s p edges r e w c = straight_reached s p w r (subst (λ (ws : List Edge). Contains ws w) e c)

-- a place more is followed
pub followed_more : (s : FlowGraph) (h g : SearchView) (n p : ℕ) → Grow h g → n < length h.places → p ≡ slice_index h.places n → ((k : ℕ) → k < n → AreFollowed s h (slice_index h.places k)) → AreFollowed s g p
    → (k : ℕ) → k < n + 1 → AreFollowed s g (slice_index g.places k)
followed_more s h g n p more l is before now k m = ⊎_elim
    (λ (e : k ≡ n). subst (λ (x : ℕ). AreFollowed s g x) (is ∙ (sym (more.kept n l) ∙ ap (λ (x : ℕ). slice_index g.places x) (sym e))) now)
    (λ (other : k ≡ n → ⊥).
    let less : k < n = omega (arith, m, other) in
    subst (λ (x : ℕ). AreFollowed s g x) (sym (more.kept k (omega (arith, less, l)))) (followed_grow s h g (slice_index h.places k) more (before k less)))
    (cases_eq k n)

-- ---- lists of places

-- the place at an index
pub at_index : (s : FlowGraph) (places : List ℕ) (n p : ℕ) → n < length places → p ≡ get_or places n p → p ≡ slice_index places n
at_index s places n p l e = e ∙ get_or_default_zero places n p l

pub listed_reached : (s : FlowGraph) (h : SearchView) (n : ℕ) → AreSound s h → n < length h.places → IsReached s (slice_index h.places n)
listed_reached s h n a l = a.reached (slice_index h.places n) ((a.listed.all (slice_index h.places n)).0 (Contains-get_or h.places n 0 l))

-- ---- whether a function is split

found_split : (s : FlowGraph) (o : Option ℕ) → option_map_or (is_split s) o false ≡ true → (site : ℕ) × (o ≡ Some site) × (is_split s site ≡ true)
found_split s None h = absurd (true≢false (sym h))
found_split s (Some site) h = (site, refl, h)

module _ (s : FlowGraph) (m : Marks) (places : List ℕ) (marks : AreMarks s m) (a : AreThePlaces m places) where
  pub index_reached : (k : ℕ) → k < length places → IsReached s (slice_index places k)
  index_reached k l = (marks.reached (slice_index places k)).0 ((a.all (slice_index places k)).0 (Contains-get_or places k 0 l))

  pub splits_here : (k : ℕ) → k < length places → splits_at s (slice_index places k) ≡ true → IsSplit s
  splits_here k l h =
      let w = found_split s (site_at s (slice_index places k)) h in
      (slice_index places k, w.0, index_reached k l, w.1, w.2)

  pub splits_nowhere : (n : ℕ) → length places ≤ n → ((k : ℕ) → k < n → splits_at s (slice_index places k) ≡ false) → IsSplit s → ⊥
  splits_nowhere n l none (p, site, r, e, t) =
      let c = (a.all p).1 ((marks.reached p).1 r) in
      let here : splits_at s p ≡ true = ap (λ (o : Option ℕ). option_map_or (is_split s) o false) e ∙ t in
      let is : slice_index places c.0 ≡ p = sym (get_or_default_zero places c.0 p c.1) ∙ c.2 in
      true≢false (sym here ∙ (ap (splits_at s) (sym is) ∙ none c.0 (omega (arith, c.1, l))))

-- ---- steps of a loop over edges

-- one edge more
pub contains_next : (P : Edge → Type 0) (edges : List Edge) (i : ℕ) (d : Edge) → i < length edges → ((w : Edge) → Contains (take i edges) w → P w) → P (get_or edges i d)
    → (w : Edge) → Contains (take (i + 1) edges) w → P w
contains_next P edges i d l before now w c = ⊎_elim
    (λ (old : Contains (take i edges) w). before w old)
    (λ (new : get_or edges i d ≡ w). subst (λ (x : Edge). P x) new now)
    (Contains-push_cases (take i edges) (get_or edges i d) w (subst (λ (xs : List Edge). Contains xs w) (take_more edges i d l) c))

-- all of them
pub contains_all : (P : Edge → Type 0) (edges : List Edge) (i : ℕ) → length edges ≤ i → ((w : Edge) → Contains (take i edges) w → P w) → (w : Edge) → Contains edges w → P w
contains_all P edges i l all w c = all w (subst (λ (xs : List Edge). Contains xs w) (sym (take_all i edges l)) c)
