-- What becomes of one function: a fault names what stands.
use Rattle.std.proofs.Common.{◌≡◌, ℕ, ◌+◌, ◌*◌, ◌^◌, ◌%◌, ◌<◌, ◌≤◌, Bool, List, [], ◌∷◌, true, length, get_or, take, Result, Ok, Err, sym, ap, ◌∙◌, subst, arith}
use Rattle.std.specs.Prelude.{IfErr, OnOk, All, Contains}
use Rattle.std.proofs.lemmas.List.{take_more}
use Rattle.std.proofs.lemmas.List.Elements.{All-weaker, All-same}
use Rattle.frame_facts.specs.declared.cause.FrameCause.{FrameCause}
use Rattle.frame_dataflow.specs.Flow.{met, apart}
use Rattle.frame_graph.specs.FlowGraph.{FlowGraph}
use Rattle.frame_graph.specs.Places.{address_of}
use Rattle.frame_graph.specs.Lowering.{is_lowering}
use Rattle.frame_graph.specs.Reach.{IsReached}
use Rattle.frame_graph.proofs.Inside.{reached_places_are_inside}
use Rattle.frame_reach.specs.Marks.{Marks, AreMarks, AreThePlaces}
use Rattle.frame_reach.specs.Prologue.{prologue, lines, places}
use Rattle.frame_flow.specs.declared.work.FrameFault.{FrameFault}
use Rattle.frame_flow.specs.declared.work.FrameFault.TheVariants.{Stands, OutOfMemory}
use Rattle.frame_facts.specs.declared.saves.Prologue.{Prologue}
use Rattle.frame_reach.specs.Held.{SearchView, is_set, marks_of}
use Rattle.frame_flow.specs.Framed.{FramedFunction, Parts, framed_view}
use Rattle.frame_flow.specs.Flows.{StandsIn}
use Rattle.frame_flow.specs.Work.{FaultStands}
use Rattle.frame_flow.proofs.Reaching.{state_reached}
use Rattle.frame_check.specs.declared.pushes.ProloguePush.{ProloguePush}
use Rattle.frame_check.specs.Roles.{Table}
use Rattle.frame_check.specs.Pushes.{pushes_of}
use Rattle.frame_check.specs.Marking.{with_instr, with_lowers, with_start, ChangesRole, AreInstrs, AreLowered, AreSaved, IsMarked}
use Rattle.frame_check.specs.Accepts.{framed_function, by_facts}
use Rattle.frame_check.specs.Judged.{IsJudged}
use Rattle.frame_check.proofs.Lines.{IsFrom, pushes_inside}
use Rattle.frame_check.proofs.Marked.{instrs_more, lowered_one, lowered_more, marked_all}

stands_reached : (x : FramedFunction) (p : ℕ) (c : FrameCause) → StandsIn x p c → IsReached x.flow_graph p
stands_reached x _ _ (met {p} {f} {c} s e) = state_reached x p f s
stands_reached x _ _ (apart {p} {f} {g} {c} s t j e) = state_reached x p f s

judged : (s : FlowGraph) (m : Marks) (fault : FrameFault) → s.start < s.end → AreMarks s m → FaultStands (framed_function s m) fault → IsJudged s fault
judged s m (Stands place cause) some are st = (by_facts m are st, reached_places_are_inside s place some (stands_reached (framed_function s m) place cause st))
judged s m OutOfMemory some are st = tt

pub all_judged : (s : FlowGraph) (m : Marks) (x : FramedFunction) (r : Result (Unit {0}) FrameFault) → s.start < s.end → AreMarks s m → x ≡ framed_function s m → IfErr r (FaultStands x) → IfErr r (IsJudged s)
all_judged s m x (Ok u) some are e h = tt
all_judged s m x (Err fault) some are e h = judged s m fault some are (subst (λ (y : FramedFunction). FaultStands y fault) e h)

-- the function as it is handed on, with its marks in lists
pub framed_by : (s : FlowGraph) (h : SearchView) (x : Parts) (p : Prologue) (pads reached : List Bool) → x ≡ record { flow_graph = s; prologue = p; pads = pads; reached = reached } → p ≡ prologue s (marks_of h) → pads ≡ h.pad
    → reached ≡ h.reached → framed_view x ≡ framed_function s (marks_of h)
framed_by s h x p pads reached e f g k =
    ap framed_view e
    ∙ ap (λ q. let y : FramedFunction = record { flow_graph = s; prologue = q; pad = is_set pads; lowers = is_lowering s (is_set reached) } in y) f
    ∙ ap (λ l. let y : FramedFunction = record { flow_graph = s; prologue = prologue s (marks_of h); pad = is_set l; lowers = is_lowering s (is_set reached) } in y) g
    ∙ ap (λ l. let y : FramedFunction = record { flow_graph = s; prologue = prologue s (marks_of h); pad = is_set h.pad; lowers = is_lowering s (is_set l) } in y) k

-- ---- marking

pub instrs_next : (s : FlowGraph) (ps : List ℕ) (i a : ℕ) (old mid new : Table) → i < length ps → AreInstrs s (take i ps) old mid → a ≡ address_of s (get_or ps i 0) → ChangesRole with_instr a mid new
    → AreInstrs s (take (i + 1) ps) old new
instrs_next s ps i a old mid new l x e t =
    subst (λ (qs : List ℕ). AreInstrs s qs old new) (sym (take_more ps i 0 l))
    (instrs_more s (take i ps) (get_or ps i 0) old mid new x (subst (λ (b : ℕ). ChangesRole with_instr b mid new) e t))

-- one place, whether or not memory runs out
pub one_lowered : {E : Type 0} (s : FlowGraph) (reached : ℕ → Bool) (p a : ℕ) (old new : Table) (r : Result (Unit {0}) E) → is_lowering s reached p ≡ true → a ≡ address_of s p
    → OnOk r (ChangesRole with_lowers a old new) → OnOk r (AreLowered s reached (p ∷ []) old new)
one_lowered s reached p a old new (Ok u) h e t = lowered_one s reached p old new h (subst (λ (b : ℕ). ChangesRole with_lowers b old new) e t)
one_lowered s reached p a old new (Err fault) h e t = tt

pub lowered_next : (s : FlowGraph) (reached : ℕ → Bool) (ps : List ℕ) (i : ℕ) (old mid new : Table) → i < length ps → AreLowered s reached (take i ps) old mid
    → AreLowered s reached (get_or ps i 0 ∷ []) mid new → AreLowered s reached (take (i + 1) ps) old new
lowered_next s reached ps i old mid new l x y =
    subst (λ (qs : List ℕ). AreLowered s reached qs old new) (sym (take_more ps i 0 l)) (lowered_more s reached (take i ps) (get_or ps i 0) old mid new x y)

pub low_places : (s : FlowGraph) (m : Marks) (ps : List ℕ) → s.start < s.end → s.end + 4 ≤ 2 ^ 32 → AreMarks s m → AreThePlaces m ps → (p : ℕ) → Contains ps p → s.start + 2 * p < 2 ^ 32
low_places s m ps some low are the p c =
    let r = reached_places_are_inside s p some ((are.reached p).0 ((the.all p).0 c)) in
    omega (arith, r)

pub even_pushes : (s : FlowGraph) (m : Marks) (pushes : List ProloguePush) → s.start % 2 ≡ 0 → s.end + 4 ≤ 2 ^ 32 → pushes ≡ pushes_of (prologue s m) s.start (lines s m.target (places s) 0)
    → All (λ (x : ProloguePush). x.at % 2 ≡ 0) pushes
even_pushes s m pushes even low e =
    All-same (λ (x : ProloguePush). x.at % 2 ≡ 0) pushes (pushes_of (prologue s m) s.start (lines s m.target (places s) 0)) e
    (All-weaker (λ (x : ProloguePush). IsFrom s 0 x.at) (λ (x : ProloguePush). x.at % 2 ≡ 0) (λ x h. h.even) (pushes_of (prologue s m) s.start (lines s m.target (places s) 0)) (pushes_inside s m (prologue s m) even low))

pub all_marked : {E : Type 0} (s : FlowGraph) (m : Marks) (ps : List ℕ) (pushes : List ProloguePush) (old first low second new : Table) (r : Result (Unit {0}) E) → AreMarks s m → AreThePlaces m ps
    → AreInstrs s ps old first → AreLowered s m.reached ps first low → ChangesRole with_start s.start low second → pushes ≡ pushes_of (prologue s m) s.start (lines s m.target (places s) 0) → OnOk r (AreSaved pushes second new)
    → OnOk r (IsMarked s m old new)
all_marked s m ps pushes old first low second new (Ok u) are the x w t e y = marked_all s m ps pushes old first low second new are the x w t e y
all_marked s m ps pushes old first low second new (Err fault) are the x w t e y = tt
