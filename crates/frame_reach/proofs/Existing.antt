-- Marks exist, and there is one of each kind.
use Rattle.std.proofs.Common.{ℕ, ◌≡◌, ◌<◌, ◌==◌, ◌&&◌, ◌||◌, ◌⊎◌, ◌↔◌, inl, inr, Bool, true, false, List, [], ◌∷◌, map, Option, Some, None, zero, suc, sym, ◌∙◌, ap, subst, refl, ⊎_elim, arith}
use mathlib.Core.Path.{fun_ext}
use Rattle.std.specs.List.{Contains}
use Rattle.std.specs.Option.{is_some}
use Rattle.std.proofs.lemmas.Bool.{true≢false, eqb-true, eq-eqb, cases_eq}
use Rattle.std.proofs.lemmas.Option.{same_Some, none-some}
use Rattle.frame_dataflow.specs.Flow.{Flow, IsState, at_entry, meeting, IsShownAt, met, apart, fact_at}
use Rattle.frame_dataflow.specs.Flow.{along as moves}
use Rattle.frame_dataflow.specs.Laws.{Laws, IsFinite}
use Rattle.frame_dataflow.proofs.Law.{below}
use Rattle.frame_dataflow.proofs.Ends.{solves}
use Rattle.frame_dataflow.proofs.Work.{contains_none, contains_head, contains_tail, contains_cons}
use Rattle.frame_graph.specs.declared.edges.Edge.{Edge}
use Rattle.frame_graph.specs.FlowGraph.{FlowGraph}
use Rattle.frame_graph.specs.Edges.{branch_place}
use Rattle.frame_graph.specs.Sites.{site_at, edges_from, edges_of}
use Rattle.frame_graph.specs.Reach.{IsReached, entry, along}
use Rattle.frame_graph.proofs.Inside.{edges_stay_inside}
use Rattle.frame_reach.specs.Marks.{IsPad, IsBranched, IsTarget, IsTooLong, Marks, AreMarks}
use Rattle.frame_reach.specs.Prologue.{places}
use Rattle.frame_reach.specs.Laws.{MarksExist, MarksAgree, PlacesAreCounted}
use Rattle.frame_reach.proofs.Marking.{no_more}
use Rattle.frame_reach.proofs.Found.{below as place_below}

both : (a b : Bool) → (a && b) ≡ true → (a ≡ true) × (b ≡ true)
both true b h = (refl, h)
both false b h = absurd cc

both_hold : (a b : Bool) → a ≡ true → b ≡ true → (a && b) ≡ true
both_hold true b g h = h
both_hold false b g h = absurd cc

-- ---- what is reached, as a flow whose facts say nothing

abbrev along_edge : Edge → ℕ × Unit {0}
along_edge w = (w.to, tt)

to_along_edge : (ws : List Edge) (w : Edge) → Contains ws w → Contains (map along_edge ws) (w.to, tt)
to_along_edge [] w h = absurd (contains_none w h)
to_along_edge (x ∷ more) w h = ⊎_elim
    (λ (e : w ≡ x). subst (λ (y : Edge). Contains (along_edge y ∷ map along_edge more) (w.to, tt)) e (contains_head (w.to, tt) (map along_edge more)))
    (λ (c : Contains more w). contains_tail (w.to, tt) (x.to, tt) (map along_edge more) (to_along_edge more w c))
    (contains_cons w x more h)

from_along_edge : (ws : List Edge) (q : ℕ) (g : Unit {0}) → Contains (map along_edge ws) (q, g) → (w : Edge) × Contains ws w × (w.to ≡ q)
from_along_edge [] q g h = absurd (contains_none (q, g) h)
from_along_edge (x ∷ more) q g h = ⊎_elim
    (λ (e : (q, g) ≡ along_edge x). (x, contains_head x more, sym (ap (λ (y : ℕ × Unit {0}). y.0) e)))
    (λ (c : Contains (map along_edge more) (q, g)). let r = from_along_edge more q g c in (r.0, contains_tail r.0 x more r.1, r.2))
    (contains_cons (q, g) (along_edge x) (map along_edge more) h)

abbrev flow_of : FlowGraph → Flow (Unit {0}) (Unit {0})
flow_of s = record { entry = 0; start = tt; transfer = λ p f. map along_edge (edges_of s p); meets = λ c p f. false; join = λ f g. Some f; parted = λ p c. true }

abbrev at_most : Unit {0} → Unit {0} → Type 0
at_most f g = Unit {0}

laws_of : (s : FlowGraph) → Laws (Unit {0}) (Unit {0}) (flow_of s) at_most
laws_of s = record {
  same = λ f. tt;
  via = λ f g h a b. tt;
  left = λ f g h e. tt;
  right = λ p f g h a b e. tt;
  least = λ f g h k e a b. tt;
  joins = λ f g k a b e. none-some f (sym e);
  passes = λ p f g a h c. refl;
  transfer = λ p f g a h q f' c. (f', c, tt);
}

finite : (s : FlowGraph) → IsFinite (Unit {0}) (Unit {0}) (flow_of s)
finite s = record {
  count = places s;
  begins = omega arith;
  inside = λ p f q g c.
      let r = from_along_edge (edges_of s p) q g c in
      let l : r.0.to < places s = omega (arith, edges_stay_inside s p r.0 r.1) in
      subst (λ (x : ℕ). x < places s) r.2 l;
  height = λ f. 0;
  top = 1;
  falls = record { falls = λ h g k e. inl (sym (same_Some h k e)); low = λ p f state. omega arith };
  first = λ p f. None;
  first_met = λ p f c e. absurd (none-some c e);
  first_none = λ p f e c. refl;
  named = λ q. tt;
  named_is = λ q. refl;
}

none_stand : (s : FlowGraph) (p : ℕ) (c : Unit {0}) → IsShownAt (Unit {0}) (Unit {0}) (flow_of s) p c → ⊥
none_stand s _ _ (met state m) = true≢false (sym m)
none_stand s _ _ (apart {p} {f} state other e m) = none-some f (sym e)

state_reached : (s : FlowGraph) (p : ℕ) (f : Unit {0}) → IsState (Unit {0}) (Unit {0}) (flow_of s) p f → IsReached s p
state_reached s _ _ at_entry = entry
state_reached s _ _ (moves {p} {q} {f} {g} state e) =
    let r = from_along_edge (edges_of s p) q g e in
    subst (λ (x : ℕ). IsReached s x) r.2 (along (state_reached s p f state) r.1)
state_reached s _ _ (meeting {p} {f} state other e) = state_reached s p f state

reached_state : (s : FlowGraph) (p : ℕ) → IsReached s p → IsState (Unit {0}) (Unit {0}) (flow_of s) p tt
reached_state s _ entry = at_entry
reached_state s _ (along {p} {w} r h) = moves (reached_state s p r) (to_along_edge (edges_of s p) w h)

abbrev Table : FlowGraph → (ℕ → Bool) → Type 0
Table s test = (p : ℕ) → (test p ≡ true) ↔ IsReached s p

has_fact : (o : Option (Unit {0})) → is_some o ≡ true → (f : Unit {0}) × (o ≡ Some f)
has_fact None h = absurd (true≢false (sym h))
has_fact (Some f) h = (f, refl)

table : (s : FlowGraph) → (test : ℕ → Bool) × Table s test
table s =
    let t = solves (Unit {0}) (Unit {0}) at_most (flow_of s) (laws_of s) (finite s) (none_stand s) in (
      λ p. is_some (fact_at t.0 p),
      λ p. (
        λ h. let f = has_fact (fact_at t.0 p) h in state_reached s p f.0 (t.2 p f.0 f.1),
        λ r.
            let c = below (Unit {0}) (Unit {0}) (flow_of s) at_most (laws_of s) t.0 t.1 p tt (reached_state s p r) in
            ap (λ (o : Option (Unit {0})). is_some o) c.1,
      ),
    )

-- ---- some place below a bound

abbrev some_below : ℕ → (ℕ → Bool) → Bool
some_below zero test = false
some_below (suc n) test = test n || some_below n test

or_cases : (a b : Bool) → (a || b) ≡ true → (a ≡ true) ⊎ (b ≡ true)
or_cases true b h = inl refl
or_cases false b h = inr h

or_left : (a b : Bool) → a ≡ true → (a || b) ≡ true
or_left true b h = refl
or_left false b h = absurd cc

or_right : (a b : Bool) → b ≡ true → (a || b) ≡ true
or_right true b h = refl
or_right false b h = h

some_holds : (n : ℕ) (test : ℕ → Bool) → some_below n test ≡ true → (p : ℕ) × (test p ≡ true)
some_holds zero test h = absurd (true≢false (sym h))
some_holds (suc n) test h = ⊎_elim
    (λ (e : test n ≡ true). (n, e))
    (λ (m : some_below n test ≡ true). some_holds n test m)
    (or_cases (test n) (some_below n test) h)

some_found : (n : ℕ) (test : ℕ → Bool) (p : ℕ) → p < n → test p ≡ true → some_below n test ≡ true
some_found zero test p l h = absurd (omega (arith, l))
some_found (suc n) test p l h = ⊎_elim
    (λ (e : p ≡ n). or_left (test n) (some_below n test) (subst (λ (x : ℕ). test x ≡ true) e h))
    (λ (other : p ≡ n → ⊥). or_right (test n) (some_below n test) (some_found n test p (omega (arith, l, other)) h))
    (cases_eq p n)

-- ---- branches and landing pads as tests

abbrev leads : Option ℕ → ℕ → Bool
leads None q = false
leads (Some p) q = p == q

leads_there : (o : Option ℕ) (q : ℕ) → leads o q ≡ true → o ≡ Some q
leads_there None q h = absurd (true≢false (sym h))
leads_there (Some p) q h = ap (λ (x : ℕ). Some x) (eqb-true p q h)

there_leads : (o : Option ℕ) (q : ℕ) → o ≡ Some q → leads o q ≡ true
there_leads o q e = ap (λ (x : Option ℕ). leads x q) e ∙ eq-eqb q q refl

abbrev some_edge : List Edge → ℕ → Bool
some_edge [] q = false
some_edge (w ∷ more) q = (w.to == q) || some_edge more q

edge_there : (ws : List Edge) (q : ℕ) → some_edge ws q ≡ true → (w : Edge) × Contains ws w × (w.to ≡ q)
edge_there [] q h = absurd (true≢false (sym h))
edge_there (x ∷ more) q h = ⊎_elim
    (λ (e : (x.to == q) ≡ true). (x, contains_head x more, eqb-true x.to q e))
    (λ (m : some_edge more q ≡ true). let r = edge_there more q m in (r.0, contains_tail r.0 x more r.1, r.2))
    (or_cases (x.to == q) (some_edge more q) h)

there_edge : (ws : List Edge) (q : ℕ) (w : Edge) → Contains ws w → w.to ≡ q → some_edge ws q ≡ true
there_edge [] q w c e = absurd (contains_none w c)
there_edge (x ∷ more) q w c e = ⊎_elim
    (λ (is : w ≡ x). or_left (x.to == q) (some_edge more q) (eq-eqb x.to q (ap (λ (y : Edge). y.to) (sym is) ∙ e)))
    (λ (m : Contains more w). or_right (x.to == q) (some_edge more q) (there_edge more q w m e))
    (contains_cons w x more c)

module _ (s : FlowGraph) (test : ℕ → Bool) (t : Table s test) where
  abbrev branches : ℕ → ℕ → Bool
  branches q p = test p && leads (branch_place s p) q

  abbrev lands : ℕ → ℕ → Bool
  lands q p = test p && some_edge (edges_from s (site_at s p)) q

  pads : (q : ℕ) → (some_below (places s) (lands q) ≡ true) ↔ IsPad s q
  pads q = (
    λ h.
        let p = some_holds (places s) (lands q) h in
        let w = both (test p.0) (some_edge (edges_from s (site_at s p.0)) q) p.1 in
        let r = edge_there (edges_from s (site_at s p.0)) q w.1 in
        (p.0, r.0, (t p.0).0 w.0, r.1, r.2),
    λ (d : IsPad s q). some_found (places s) (lands q) d.0 (place_below s d.0 d.2)
        (both_hold (test d.0) (some_edge (edges_from s (site_at s d.0)) q) ((t d.0).1 d.2) (there_edge (edges_from s (site_at s d.0)) q d.1 d.3 d.4)),
  )

  branched : (q : ℕ) → (some_below (places s) (branches q) ≡ true) ↔ IsBranched s q
  branched q = (
    λ h.
        let p = some_holds (places s) (branches q) h in
        let w = both (test p.0) (leads (branch_place s p.0) q) p.1 in
        (p.0, (t p.0).0 w.0, leads_there (branch_place s p.0) q w.1),
    λ (b : IsBranched s q). some_found (places s) (branches q) b.0 (place_below s b.0 b.1)
        (both_hold (test b.0) (leads (branch_place s b.0) q) ((t b.0).1 b.1) (there_leads (branch_place s b.0) q b.2)),
  )

  pub marks : (m : Marks) × AreMarks s m
  marks = (
    record { reached = test; target = λ q. some_below (places s) (branches q) || some_below (places s) (lands q); pad = λ q. some_below (places s) (lands q) },
    record {
      reached = t;
      target = λ q. (
        λ h. ⊎_elim
            (λ (b : some_below (places s) (branches q) ≡ true). inl ((branched q).0 b))
            (λ (d : some_below (places s) (lands q) ≡ true). inr ((pads q).0 d))
            (or_cases (some_below (places s) (branches q)) (some_below (places s) (lands q)) h),
        λ (i : IsTarget s q). ⊎_elim
            (λ (b : IsBranched s q). or_left (some_below (places s) (branches q)) (some_below (places s) (lands q)) ((branched q).1 b))
            (λ (d : IsPad s q). or_right (some_below (places s) (branches q)) (some_below (places s) (lands q)) ((pads q).1 d))
            i,
      );
      pad = pads;
    },
  )

pub marks_exist : MarksExist
marks_exist s = let t = table s in marks s t.0 t.1

-- ---- and no others

same_tests : (a b : Bool) → (a ≡ true → b ≡ true) → (b ≡ true → a ≡ true) → a ≡ b
same_tests true b f g = sym (f refl)
same_tests false true f g = g refl
same_tests false false f g = refl

agree : (a b : ℕ → Bool) (P : ℕ → Type 0) → ((p : ℕ) → (a p ≡ true) ↔ P p) → ((p : ℕ) → (b p ≡ true) ↔ P p) → a ≡ b
agree a b P f g = fun_ext (λ p. same_tests (a p) (b p) (λ h. (g p).1 ((f p).0 h)) (λ h. (f p).1 ((g p).0 h)))

same_marks : (m n : Marks) → m.reached ≡ n.reached → m.target ≡ n.target → m.pad ≡ n.pad → m ≡ n
same_marks m n a b c = λ i. record { reached = a i; target = b i; pad = c i }

pub marks_agree : MarksAgree
marks_agree s m n a b = same_marks m n (agree m.reached n.reached (λ p. IsReached s p) a.reached b.reached) (agree m.target n.target (λ p. IsTarget s p) a.target b.target) (agree m.pad n.pad (λ p. IsPad s p) a.pad b.pad)

pub places_are_counted : PlacesAreCounted
places_are_counted s m ps a l = (
  λ (t : IsTooLong s). omega (arith, t.3, no_more t.0 ps t.1 (λ p c. (l.all p).1 ((a.reached p).1 (t.2 p c)))),
  λ more. (ps, l.once, λ p c. (a.reached p).0 ((l.all p).0 c), more),
)
