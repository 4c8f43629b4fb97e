-- The prologue as a run, taken instruction by instruction.
use Rattle.std.proofs.Common.{ℕ, ◌≡◌, ◌<◌, ◌≤◌, ◌+◌, ◌-◌, ◌*◌, ◌/◌, ◌%◌, ◌^◌, ◌==◌, ◌&&◌, ◌||◌, ◌⊎◌, inl, inr, not, Bool, true, false, List, [], ◌∷◌, Option, Some, None, zero, suc, sym, ◌∙◌, ap, subst, refl, ⊎_elim, arith}
use Rattle.std.specs.Prelude.{if◌then◌else◌, nat_le, option_map, option_and_then}
use Rattle.std.specs.Option.{option_map_or}
use Rattle.std.specs.List.{Contains}
use Rattle.std.proofs.lemmas.Bool.{true≢false, cases_eq, cases_lt}
use Rattle.std.proofs.lemmas.Option.{same_Some, none-some}
use Rattle.std.proofs.lemmas.List.Elements.{Contains-append_left}
use Rattle.thumb_isa.specs.declared.instr.Instr.{Instr}
use Rattle.thumb_isa.specs.Nature.{Nature, Works, Idles, Derives, AddsHigh, MovesHigh, Transfers, StoresList, LoadsList, RaisesSp, LowersSp, PushesList, PopsList, Goes, nature}
use Rattle.frame_facts.specs.declared.facts.Fact.{Fact}
use Rattle.frame_facts.specs.declared.facts.TheConstants.{DEEPEST}
use Rattle.frame_facts.specs.declared.saves.Prologue.{Prologue}
use Rattle.frame_facts.specs.declared.straight.Straight.{Straight}
use Rattle.frame_facts.specs.After.{effect}
use Rattle.frame_facts.specs.Prologues.{is_callers, nature_may_stand, may_stand, prologue_after, run_with_end, with_instruction, empty_run, run_on}
use Rattle.frame_code.specs.declared.standing.Standing.{Standing}
use Rattle.frame_code.specs.declared.standing.Standing.TheVariants.{Instruction, Udf, Nothing}
use Rattle.frame_graph.specs.declared.edges.Edge.{Edge}
use Rattle.frame_graph.specs.FlowGraph.{FlowGraph}
use Rattle.frame_graph.specs.Places.{address_of, place_of, is_place, standing_at}
use Rattle.frame_code.specs.Branches.{nature_reaches_next, reaches_next, branch_target}
use Rattle.frame_graph.specs.Edges.{edges_to, fall_through_edges, straight_by, straight_edges}
use Rattle.frame_graph.specs.Sites.{site_at, edges_from, edges_of}
use Rattle.frame_graph.specs.Reach.{IsReached, entry, along}
use Rattle.frame_graph.proofs.Inside.{places_have_their_address}
use Rattle.frame_dataflow.proofs.Work.{contains_head}
use Rattle.frame_reach.specs.Marks.{Marks}
use Rattle.frame_reach.specs.Prologue.{places, is_led_to, line_by, line_at, lines, prologue}
use Rattle.frame_reach.specs.Laws.{IsRun, begins, takes, Continues, PrologueIsTheLongestRun, RunsAreReached, NoTargetInThePrologue}
use Rattle.frame_reach.proofs.Stands.{stands, stands_inside, stands_size, stands_below}

both : (a b : Bool) → (a && b) ≡ true → (a ≡ true) × (b ≡ true)
both true b h = (refl, h)
both false b h = absurd cc

some_or_none : {X : Type 0} (o : Option X) → (o ≡ None) ⊎ ((x : X) × (o ≡ Some x))
some_or_none None = inl refl
some_or_none (Some x) = inr (x, refl)

-- ---- what an instruction of a prologue is

-- it is followed by the one after it
nature_stands_goes : (n : Nature) → nature_may_stand n ≡ true → nature_reaches_next n ≡ true
nature_stands_goes (Derives v) h = refl
nature_stands_goes (Works d) h = refl
nature_stands_goes (AddsHigh d m) h = (both (not (is_callers d) && not (d == 13)) (not (d == 15)) h).1
nature_stands_goes Idles h = refl
nature_stands_goes (MovesHigh d m) h = (both (not (d == 13)) (not (d == 15)) h).1
nature_stands_goes (Goes b) h = absurd cc
nature_stands_goes (Transfers t) h = refl
nature_stands_goes (RaisesSp off) h = refl
nature_stands_goes (LowersSp off) h = refl
nature_stands_goes (PushesList list) h = refl
nature_stands_goes (PopsList list) h = absurd cc
nature_stands_goes (StoresList n list) h = refl
nature_stands_goes (LoadsList n list) h = refl

stands_goes : (i : Instr) → may_stand i ≡ true → reaches_next i ≡ true
stands_goes i h = nature_stands_goes (nature i) h

if_some : {X : Type 0} (b : Bool) (o : Option X) (x : X) → (if b then o else None) ≡ Some x → (b ≡ true) × (o ≡ Some x)
if_some true o x e = (refl, e)
if_some false o x e = absurd (none-some x e)

ended_by : (r next : Straight) (i : Instr) (size : ℕ) (p : Prologue) → run_with_end r i size p ≡ Some next → next.prologue.end ≡ (r.prologue.end + size) % 2 ^ 32
ended_by r next i size p e =
    let q : Prologue = record p { end = (r.prologue.end + size) % 2 ^ 32 } in by_effect q (effect q false r.prologue.end i r.fact) e
  where
    by_effect : (q : Prologue) (o : Option Fact) → option_map (λ f. record { fact = f; prologue = q }) o ≡ Some next → next.prologue.end ≡ q.end
    by_effect q None e = absurd (none-some next e)
    by_effect q (Some f) e = ap (λ (x : Straight). x.prologue.end) (sym (same_Some (record { fact = f; prologue = q }) next e))

pushed_ended : (r next : Straight) (i : Instr) (size : ℕ) (o : Option Prologue) → option_and_then (run_with_end r i size) o ≡ Some next → next.prologue.end ≡ (r.prologue.end + size) % 2 ^ 32
pushed_ended r next i size None e = absurd (none-some next e)
pushed_ended r next i size (Some p) e = ended_by r next i size p e

-- it may stand there, and the run ends after it
pub taken_well : (r next : Straight) (i : Instr) (size : ℕ) → with_instruction r i size ≡ Some next → (may_stand i ≡ true) × (next.prologue.end ≡ (r.prologue.end + size) % 2 ^ 32)
taken_well r next i size e =
    let w = if_some (nat_le r.fact.depth DEEPEST && may_stand i) (option_and_then (run_with_end r i size) (prologue_after r i)) next e in
    ((both (nat_le r.fact.depth DEEPEST) (may_stand i) w.0).1, pushed_ended r next i size (prologue_after r i) w.1)

-- ---- each is reached

pub onward_edge : (s : FlowGraph) (a : ℕ) (i : Instr) (size q : ℕ) → reaches_next i ≡ true → place_of s (a + size) ≡ Some q → Contains (fall_through_edges s a i size) (record { to = q; clobbers = 0 })
onward_edge s a i size q g e =
    let w : Edge = record { to = q; clobbers = 0 } in
    subst (λ (b : Bool). Contains (if b then edges_to 0 (place_of s (a + size)) else []) w) (sym g)
    (subst (λ (o : Option ℕ). Contains (edges_to 0 o) w) (sym e) (contains_head w []))

-- from an instruction that goes on to a place after it that is code
pub next_reached : (s : FlowGraph) (p : ℕ) (i : Instr) (size : ℕ) → IsReached s p → standing_at s p ≡ Instruction i size → reaches_next i ≡ true → is_place s (p + size / 2) ≡ true
    → IsReached s (p + size / 2)
unfolding edges_of
next_reached s p i size r e g h =
    let q = p + size / 2 in
    let w : Edge = record { to = q; clobbers = 0 } in
    let a : s.start + 2 * q ≡ address_of s p + size = ⊎_elim (λ (two : size ≡ 2). omega (arith, two)) (λ (four : size ≡ 4). omega (arith, four)) (stands_size s p i size e) in
    let to : place_of s (address_of s p + size) ≡ Some q = subst (λ (x : ℕ). place_of s x ≡ Some q) a (places_have_their_address s q h) in
    let on = Contains-append_left (fall_through_edges s (address_of s p) i size) (edges_to 0 (option_and_then (place_of s) (branch_target (address_of s p) i))) w (onward_edge s (address_of s p) i size q g to) in
    let straight : Contains (straight_edges s p) w = subst (λ (t : Standing). Contains (straight_by s (address_of s p) t) w) (sym e) on in
    along r (Contains-append_left (straight_edges s p) (edges_from s (site_at s p)) w straight)

pub runs_are_reached : RunsAreReached
runs_are_reached s m _ _ begins h = entry
runs_are_reached s m _ _ (takes {p} {run} {next} {i} {size} r e off t) h =
    next_reached s p i size (runs_are_reached s m p run r (i, size, next, e, off, t)) e (stands_goes i (taken_well run next i size t).0) (stands s (p + size / 2) h.0 h.1 h.3).0

-- ---- no target lies in it

-- where a run ends, and that no place before is a target
abbrev Ends : FlowGraph → Marks → ℕ → Straight → Type 0
Ends s m p run = ((run.prologue.end ≡ s.start + 2 * p) ⊎ ((run.prologue.end ≡ 0) × (s.end ≤ s.start + 2 * p))) × ((q : ℕ) → q < p → m.target q ≡ false)

or_false : (a b : Bool) → (a || b) ≡ false → (a ≡ false) × (b ≡ false)
or_false false b h = (refl, h)
or_false true b h = absurd cc

-- no halfword of an instruction is a target
untouched : (m : Marks) (p size : ℕ) → (size ≡ 2) ⊎ (size ≡ 4) → is_led_to m.target p size ≡ false → ((q : ℕ) → q < p → m.target q ≡ false) → (q : ℕ) → q < p + size / 2 → m.target q ≡ false
untouched m p size (inl two) off before q l = ⊎_elim
    (λ (e : q ≡ p). subst (λ (x : ℕ). m.target x ≡ false) (sym e) (or_false (m.target p) ((size == 4) && m.target (p + 1)) off).0)
    (λ (n : q ≡ p → ⊥). before q (omega (arith, l, n, two)))
    (cases_eq q p)
untouched m p size (inr four) off before q l =
    let o = or_false (m.target p) ((size == 4) && m.target (p + 1)) off in
    let second : m.target (p + 1) ≡ false = subst (λ (x : ℕ). ((x == 4) && m.target (p + 1)) ≡ false) four o.1 in ⊎_elim
    (λ (e : q ≡ p). subst (λ (x : ℕ). m.target x ≡ false) (sym e) o.0)
    (λ (n : q ≡ p → ⊥). ⊎_elim
    (λ (e : q ≡ p + 1). subst (λ (x : ℕ). m.target x ≡ false) (sym e) second)
    (λ (n' : q ≡ p + 1 → ⊥). before q (omega (arith, l, n, n', four)))
    (cases_eq q (p + 1)))
    (cases_eq q p)

-- the sum of 32 bits
wrapped : (x : ℕ) → x ≤ 2 ^ 32 → (x % 2 ^ 32 ≡ x) ⊎ ((x % 2 ^ 32 ≡ 0) × (x ≡ 2 ^ 32))
wrapped x l = elim (cases_lt x (2 ^ 32)) [
  | inl less ↦ inl (omega (arith, less))
  | inr more ↦ inr (let e : x ≡ 2 ^ 32 = omega (arith, l, more) in (ap (λ (y : ℕ). y % 2 ^ 32) e, e))
]

-- after an instruction more
stepped : (s : FlowGraph) (p size end next : ℕ) → s.end < 2 ^ 32 → (size ≡ 2) ⊎ (size ≡ 4) → s.start + 2 * p + size ≤ s.end + 1 → next ≡ (end + size) % 2 ^ 32
    → (end ≡ s.start + 2 * p) ⊎ ((end ≡ 0) × (s.end ≤ s.start + 2 * p)) → (next ≡ s.start + 2 * (p + size / 2)) ⊎ ((next ≡ 0) × (s.end ≤ s.start + 2 * (p + size / 2)))
stepped s p size end next small even inside e (inl is) =
    let half : 2 * (p + size / 2) ≡ 2 * p + size = ⊎_elim (λ (two : size ≡ 2). omega (arith, two)) (λ (four : size ≡ 4). omega (arith, four)) even in
    ⊎_elim
    (λ (w : (end + size) % 2 ^ 32 ≡ end + size). inl (omega (arith, e, w, is, half)))
    (λ (w : ((end + size) % 2 ^ 32 ≡ 0) × (end + size ≡ 2 ^ 32)). inr (e ∙ w.0, omega (arith, w.1, is, half, small)))
    (wrapped (end + size) (omega (arith, is, inside, small)))
stepped s p size end next small even inside e (inr is) = absurd (⊎_elim
    (λ (two : size ≡ 2). omega (arith, two, is.1, inside))
    (λ (four : size ≡ 4). omega (arith, four, is.1, inside))
    even)

run_ends : (s : FlowGraph) (m : Marks) (p : ℕ) (run : Straight) → s.end < 2 ^ 32 → IsRun s m p run → Ends s m p run
run_ends s m _ _ small begins = (inl (omega arith), λ q l. absurd (omega (arith, l)))
run_ends s m _ _ small (takes {p} {run} {next} {i} {size} r e off t) =
    let before = run_ends s m p run small r in
    let even = stands_size s p i size e in (
      stepped s p size run.prologue.end next.prologue.end small even (stands_inside s p i size e) (taken_well run next i size t).1 before.0,
      untouched m p size even off before.1,
    )

-- ---- the run of the definition

pub line_stands : (target : ℕ → Bool) (p : ℕ) (t : Standing) (x : Instr × ℕ) → line_by target p t ≡ Some x → (t ≡ Instruction x.0 x.1) × (is_led_to target p x.1 ≡ false)
line_stands target p (Instruction i size) x e = by_test (is_led_to target p size) refl e
  where
    by_test : (b : Bool) → is_led_to target p size ≡ b → (if b then None else Some (i, size)) ≡ Some x → (Instruction i size ≡ Instruction x.0 x.1) × (is_led_to target p x.1 ≡ false)
    by_test true is e = absurd (none-some x e)
    by_test false is e =
        let one = same_Some (i, size) x e in
        (ap (λ (y : Instr × ℕ). Instruction y.0 y.1) one, subst (λ (y : Instr × ℕ). is_led_to target p y.1 ≡ false) one is)
line_stands target p Udf x e = absurd (none-some x e)
line_stands target p Nothing x e = absurd (none-some x e)

-- where a run takes an instruction more, that is the line of the place
stands_line : (target : ℕ → Bool) (p : ℕ) (t : Standing) (i : Instr) (size : ℕ) → t ≡ Instruction i size → is_led_to target p size ≡ false → line_by target p t ≡ Some (i, size)
stands_line target p t i size e off =
    ap (line_by target p) e ∙ ap (λ (b : Bool). if b then None else Some (i, size)) off

abbrev Longest : FlowGraph → Marks → Straight → Type 0
Longest s m last = (p : ℕ) × (run : Straight) × IsRun s m p run × (Continues s m p run → ⊥) × (last.prologue ≡ run.prologue)

walk : (s : FlowGraph) (m : Marks) (fuel p : ℕ) (run : Straight) → IsRun s m p run → places s ≤ p + fuel → Longest s m (run_on run (lines s m.target fuel p))
walk s m zero p run r l = (p, run, r, λ c. omega (arith, l, stands_below s p c.0 c.1 c.3), refl)
walk s m (suc fuel) p run r l = ⊎_elim
    (λ (none : line_at s m.target p ≡ None). (
      p,
      run,
      r,
      λ c. none-some (c.0, c.1) (sym none ∙ stands_line m.target p (standing_at s p) c.0 c.1 c.3 c.4),
      ap (λ (o : Option (Instr × ℕ)). (run_on run (option_map_or (λ (line : Instr × ℕ). line ∷ lines s m.target fuel (p + line.1 / 2)) o [])).prologue) none,
    ))
    (λ (some : (x : Instr × ℕ) × (line_at s m.target p ≡ Some x)).
    let x = some.0 in
    let more = lines s m.target fuel (p + x.1 / 2) in
    let w = line_stands m.target p (standing_at s p) x some.1 in
    let is : lines s m.target (suc fuel) p ≡ x ∷ more = ap (λ (o : Option (Instr × ℕ)). option_map_or (λ (line : Instr × ℕ). line ∷ lines s m.target fuel (p + line.1 / 2)) o []) some.1 in
    subst (λ (ls : List (Instr × ℕ)). Longest s m (run_on run ls)) (sym is)
    (⊎_elim
    (λ (none : with_instruction run x.0 x.1 ≡ None).
    let stays : run_on run (x ∷ more) ≡ run = ap (λ (o : Option Straight). option_map_or (λ (t : Straight). run_on t more) o run) none in
    subst (λ (last : Straight). Longest s m last) (sym stays) (
      p,
      run,
      r,
      λ c.
          let same = same_Some x (c.0, c.1) (sym some.1 ∙ stands_line m.target p (standing_at s p) c.0 c.1 c.3 c.4) in
          none-some c.2 (sym none ∙ (ap (λ (y : Instr × ℕ). with_instruction run y.0 y.1) same ∙ c.5)),
      refl,
    ))
    (λ (next : (next : Straight) × (with_instruction run x.0 x.1 ≡ Some next)).
    let goes : run_on run (x ∷ more) ≡ run_on next.0 more = ap (λ (o : Option Straight). option_map_or (λ (t : Straight). run_on t more) o run) next.1 in
    let far : places s ≤ (p + x.1 / 2) + fuel = ⊎_elim (λ (two : x.1 ≡ 2). omega (arith, two, l)) (λ (four : x.1 ≡ 4). omega (arith, four, l)) (stands_size s p x.0 x.1 w.0) in
    subst (λ (last : Straight). Longest s m last) (sym goes) (walk s m fuel (p + x.1 / 2) next.0 (takes r w.0 w.1 next.1) far))
    (some_or_none (with_instruction run x.0 x.1))))
    (some_or_none (line_at s m.target p))

pub prologue_is_the_longest_run : PrologueIsTheLongestRun
unfolding prologue
prologue_is_the_longest_run s m = walk s m (places s) 0 (empty_run s.start) begins (omega arith)

pub no_target_in_the_prologue : NoTargetInThePrologue
no_target_in_the_prologue s m small marks q t l =
    let w = prologue_is_the_longest_run s m in
    let ends = run_ends s m w.0 w.1 small w.2 in
    let end : (prologue s m).end ≡ w.1.prologue.end = ap (λ (x : Prologue). x.end) w.4 in
    ⊎_elim
    (λ (is : w.1.prologue.end ≡ s.start + 2 * w.0). true≢false (sym ((marks.target q).1 t) ∙ ends.1 q (omega (arith, l, end, is))))
    (λ (is : (w.1.prologue.end ≡ 0) × (s.end ≤ s.start + 2 * w.0)). omega (arith, l, end, is.0))
    ends.0

-- ---- the run of the code

pub walk_start : (s : FlowGraph) (m : Marks) (run : Straight) → run ≡ empty_run s.start → (run_on run (lines s m.target (places s - 0) 0)).prologue ≡ prologue s m
unfolding prologue
walk_start s m run e =
    let all : places s - 0 ≡ places s = omega arith in
    ap (λ (n : ℕ). (run_on run (lines s m.target n 0)).prologue) all ∙ ap (λ (x : Straight). (run_on x (lines s m.target (places s) 0)).prologue) e

-- an instruction more
pub walk_next : (s : FlowGraph) (m : Marks) (run next : Straight) (k p : ℕ) (i : Instr) (size : ℕ) (all : Prologue) → k < places s → line_at s m.target p ≡ Some (i, size) → with_instruction run i size ≡ Some next
    → (run_on run (lines s m.target (places s - k) p)).prologue ≡ all → (run_on next (lines s m.target (places s - (k + 1)) (p + size / 2))).prologue ≡ all
walk_next s m run next k p i size all l line t e =
    let fuel = places s - (k + 1) in
    let more = lines s m.target fuel (p + size / 2) in
    let one : places s - k ≡ suc fuel = omega (arith, l) in
    let is : lines s m.target (suc fuel) p ≡ (i, size) ∷ more = ap (λ (o : Option (Instr × ℕ)). option_map_or (λ (x : Instr × ℕ). x ∷ lines s m.target fuel (p + x.1 / 2)) o []) line in
    let goes : run_on run ((i, size) ∷ more) ≡ run_on next more = ap (λ (o : Option Straight). option_map_or (λ (r : Straight). run_on r more) o run) t in
    ap (λ (x : Straight). x.prologue) (sym goes)
    ∙ (ap (λ (ls : List (Instr × ℕ)). (run_on run ls).prologue) (sym is)
    ∙ (ap (λ (n : ℕ). (run_on run (lines s m.target n p)).prologue) (sym one) ∙ e))

pub line_fits : (s : FlowGraph) (target : ℕ → Bool) (p : ℕ) (i : Instr) (size : ℕ) → line_at s target p ≡ Some (i, size) → (p < places s) × (size ≤ 4)
line_fits s target p i size e =
    let w = line_stands target p (standing_at s p) (i, size) e in (
      stands_below s p i size w.0,
      ⊎_elim (λ (two : size ≡ 2). omega (arith, two)) (λ (four : size ≡ 4). omega (arith, four)) (stands_size s p i size w.0),
    )
