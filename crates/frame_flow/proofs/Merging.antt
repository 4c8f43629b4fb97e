-- What an edge makes of the facts and the work list.
use Rattle.std.proofs.Common.{ℕ, ◌≡◌, ◌<◌, ◌+◌, map, List, [], ◌∷◌, ◌++◌, length, true, false, Option, Some, None, Result, Ok, Err, IfOk, IfErr, ap, sym, ◌∙◌, refl, subst, ⊎_elim, arith, set, get_or, drop, drop-cons, add-one}
use Rattle.std.proofs.lemmas.Bool.{false≢true}
use Rattle.std.specs.Option.{option_map_or}
use Rattle.thumb_core.specs.Words.{registers_of_list}
use Rattle.frame_facts.specs.declared.cause.FrameCause.{FrameCause}
use Rattle.frame_facts.specs.declared.facts.Fact.{Fact}
use Rattle.frame_facts.specs.Facts.{join_of, same_fact, height, forget_registers, IsAtMost}
use Rattle.frame_facts.proofs.Same.{one_fact, two_facts}
use Rattle.frame_facts.proofs.Vaguer.{join_falls}
use Rattle.frame_graph.specs.declared.edges.Edge.{Edge}
use Rattle.frame_dataflow.specs.Flow.{fact_at}
use Rattle.frame_dataflow.proofs.Work.{contains_head}
use Rattle.frame_dataflow.proofs.Ends.{merge_new, merge_vaguer, merge_same, merge_apart}
use Rattle.frame_flow.specs.declared.work.FrameFault.{FrameFault}
use Rattle.frame_flow.specs.declared.work.FrameFault.TheVariants.{Stands, OutOfMemory}
use Rattle.frame_flow.specs.Framed.{FramedFunction}
use Rattle.frame_flow.specs.Flows.{along_edge, parting, flow_of, count_of}
use Rattle.frame_flow.specs.Work.{IsSound, top_of, Keeps, MergesFact, fresh, same, vaguer, parts, spent}
use Rattle.frame_flow.proofs.Instance.{laws, falls, inside, parting_is}

pub put_fresh : (x : FramedFunction) (facts : List (Option Fact)) (work : List ℕ) (q : ℕ) (g : Fact) (facts' : List (Option Fact)) (work' : List ℕ) (r : Result (Unit {0}) FrameFault)
    → fact_at facts q ≡ None → IfOk r (λ _. facts' ≡ set facts q (Some g)) → IfOk r (λ _. work' ≡ work ++ q ∷ []) → IfErr r (λ e. e ≡ OutOfMemory) → MergesFact x facts work q g facts' work' r
put_fresh x facts work q g facts' work' (Ok u) none is more e = fresh none is more
put_fresh x facts work q g facts' work' (Err y) none is more e = subst (λ y. MergesFact x facts work q g facts' work' (Err y)) (sym e) spent

pub put_vaguer : (x : FramedFunction) (facts : List (Option Fact)) (work : List ℕ) (q : ℕ) (g h k : Fact) (facts' : List (Option Fact)) (work' : List ℕ) (r : Result (Unit {0}) FrameFault)
    → fact_at facts q ≡ Some h → join_of h g ≡ Some k → (k ≡ h → ⊥) → IfOk r (λ _. facts' ≡ set facts q (Some k)) → IfOk r (λ _. work' ≡ work ++ q ∷ []) → IfErr r (λ e. e ≡ OutOfMemory) → MergesFact x facts work q g facts' work' r
put_vaguer x facts work q g h k facts' work' (Ok u) held met ne is more e = vaguer h k held met ne is more
put_vaguer x facts work q g h k facts' work' (Err y) held met ne is more e = subst (λ y. MergesFact x facts work q g facts' work' (Err y)) (sym e) spent

-- the meeting is the fact that was there
met_as : (o : Option Fact) (h : Fact) → option_map_or (λ met. same_fact met h) o false ≡ true → (k : Fact) × (o ≡ Some k) × (k ≡ h)
met_as None h e = absurd (false≢true e)
met_as (Some k) h e = (k, refl, one_fact k h e)

pub stays_same : (x : FramedFunction) (facts : List (Option Fact)) (work : List ℕ) (q : ℕ) (g h : Fact) → fact_at facts q ≡ Some h → option_map_or (λ met. same_fact met h) (join_of h g) false ≡ true
    → MergesFact x facts work q g facts work (Ok tt)
stays_same x facts work q g h held e = let w = met_as (join_of h g) h e in same h w.0 held w.1 w.2 refl refl

-- the meeting is another one
pub met_other : (g h k : Fact) → join_of h g ≡ Some k → option_map_or (λ met. same_fact met h) (join_of h g) false ≡ false → k ≡ h → ⊥
met_other g h k met e = two_facts k h (sym (ap (λ o. option_map_or (λ met. same_fact met h) o false) met) ∙ e)

-- two depths part
pub parts_at : (x : FramedFunction) (facts : List (Option Fact)) (work : List ℕ) (q : ℕ) (g : Fact) (facts' : List (Option Fact)) (work' : List ℕ) (h : Fact) (c : FrameCause)
    → fact_at facts q ≡ Some h → join_of h g ≡ None → c ≡ parting x q → MergesFact x facts work q g facts' work' (Err (Stands q c))
parts_at x facts work q g facts' work' h c held met e = subst (λ d. MergesFact x facts work q g facts' work' (Err (Stands q d))) (sym e) (parts h held met)

less_from : (h g k : Fact) → join_of h g ≡ Some k → (k ≡ h → ⊥) → height k < height h
less_from h g k met ne = ⊎_elim (λ (e : k ≡ h). absurd (ne e)) (λ (l : height k < height h). l) (join_falls h g k met)

pub merged_keeps : (x : FramedFunction) (facts : List (Option Fact)) (work : List ℕ) (q : ℕ) (g : Fact) (facts' : List (Option Fact)) (work' : List ℕ) (todo : List (ℕ × Fact)) (r : Result (Unit {0}) FrameFault)
    → MergesFact x facts work q g facts' work' r → IsSound x facts work ((q, g) ∷ todo) → Keeps x facts work facts' work' todo r
merged_keeps x facts work q g facts' work' todo _ (fresh none is more) s =
    let m = merge_new Fact FrameCause (flow_of x) IsAtMost (laws x) (count_of x.flow_graph) (inside x) height (top_of x) (falls x) facts work todo q g s none in
    rw (is, more) (m.0, omega (arith, m.1))
merged_keeps x facts work q g facts' work' todo _ (same h k held met one is more) s =
    rw (is, more) (merge_same Fact FrameCause (flow_of x) IsAtMost (laws x) (count_of x.flow_graph) (inside x) height (top_of x) (falls x) facts work todo q g h k s held met one, omega arith)
merged_keeps x facts work q g facts' work' todo _ (vaguer h k held met ne is more) s =
    let m = merge_vaguer Fact FrameCause (flow_of x) IsAtMost (laws x) (count_of x.flow_graph) (inside x) height (top_of x) (falls x) facts work todo q g h k s held met (less_from h g k met ne) in
    rw (is, more) (m.0, omega (arith, m.1))
merged_keeps x facts work q g facts' work' todo _ (parts h held met) s =
    merge_apart Fact FrameCause (flow_of x) IsAtMost (laws x) (count_of x.flow_graph) (inside x) height (top_of x) (falls x) facts work todo q g h (parting x q) s held met (parting_is x q)
merged_keeps x facts work q g facts' work' todo _ spent s = tt

-- an edge that clobbers nothing leaves the fact as it is
unclobbered : (list : ℕ) (f : Fact) → list ≡ 0 → forget_registers (registers_of_list list) f ≡ f
unfolding registers_of_list
unclobbered list f e = ap (λ (n : ℕ). forget_registers (registers_of_list n) f) e

pub taken_whole : (x : FramedFunction) (facts : List (Option Fact)) (work : List ℕ) (q list : ℕ) (f : Fact) (facts' : List (Option Fact)) (work' : List ℕ) (r : Result (Unit {0}) FrameFault)
    → list ≡ 0 → MergesFact x facts work q f facts' work' r → MergesFact x facts work q (forget_registers (registers_of_list list) f) facts' work' r
taken_whole x facts work q list f facts' work' r e m = subst (λ (g : Fact). MergesFact x facts work q g facts' work' r) (sym (unclobbered list f e)) m

-- the next edge comes in hand
pub next_transfer : (x : FramedFunction) (facts : List (Option Fact)) (work : List ℕ) (f : Fact) (edges : List Edge) (i : ℕ) (d : Edge) (g : Fact) → i < length edges → g ≡ forget_registers (registers_of_list (get_or edges i d).clobbers) f
    → IsSound x facts work (map (along_edge f) (drop i edges)) → IsSound x facts work (((get_or edges i d).to, g) ∷ map (along_edge f) (drop (i + 1) edges))
next_transfer x facts work f edges i d g l e s =
    let cut : drop i edges ≡ get_or edges i d ∷ drop (i + 1) edges = rw (add-one) (drop-cons edges i d l) in
    subst (λ k. IsSound x facts work (((get_or edges i d).to, k) ∷ map (along_edge f) (drop (i + 1) edges))) (sym e) (subst (λ ws. IsSound x facts work (map (along_edge f) ws)) cut s)

pub transfer_within : (x : FramedFunction) (facts : List (Option Fact)) (work : List ℕ) (q : ℕ) (g : Fact) (todo : List (ℕ × Fact)) → IsSound x facts work ((q, g) ∷ todo) → q < length facts
transfer_within x facts work q g todo s = omega (arith, s.long, (s.ahead q g (contains_head (q, g) todo)).1)
