-- At a place of a function's prologue each state is the fact of the run that comes there: no edge leads into the run but from its own instructions.
use Rattle.std.proofs.Common.{ℕ, ◌≡◌, sym, ◌∙◌, ◌+◌, ◌/◌, false, Some, ◌⊎◌, inl, inr, refl, arith, ◌<◌, ◌≤◌, ◌-◌, ◌%◌, ◌==◌, ◌&&◌, ◌||◌, cond, Bool, true, List, [], ◌∷◌, Option, None, Ok, ap, subst, min}
use Rattle.std.specs.Prelude.{if◌then◌else◌, option_and_then, Contains}
use Rattle.std.proofs.lemmas.Bool.{true≢false, cases_eq, cases_lt}
use Rattle.std.proofs.lemmas.Bool.Decides.{nat_tests}
use Rattle.std.proofs.lemmas.Option.{same_Some}
use Rattle.std.proofs.lemmas.List.Elements.{Contains-append_cases}
use Rattle.thumb_isa.specs.declared.instr.Instr.{Instr}
use Rattle.frame_code.specs.declared.standing.Standing.TheVariants.{Instruction, Udf, Nothing}
use Rattle.frame_graph.specs.FlowGraph.{FlowGraph}
use Rattle.frame_graph.specs.Places.{standing_at, address_of, place_of, is_code_of}
use Rattle.frame_facts.specs.declared.straight.Straight.{Straight}
use Rattle.frame_facts.specs.Prologues.{with_instruction, empty_run}
use Rattle.frame_reach.specs.Marks.{Marks, AreMarks, IsTarget}
use Rattle.frame_reach.specs.Prologue.{is_led_to}
use Rattle.frame_reach.specs.Laws.{IsRun, begins, takes, Continues, IsAfter}
use Rattle.frame_reach.proofs.Stands.{stands_size}
use Rattle.thumb_core.specs.Words.{registers_of_list}
use Rattle.frame_dataflow.specs.Flow.{at_entry, along as flows_along, meeting}
use Rattle.frame_dataflow.proofs.Work.{contains_none, contains_one}
use Rattle.frame_facts.specs.declared.facts.Fact.{Fact}
use Rattle.frame_facts.specs.declared.facts.Source.{Source}
use Rattle.frame_facts.specs.After.{after_of}
use Rattle.frame_facts.specs.Facts.{forget_registers, join_of, met_sources}
use Rattle.frame_facts.proofs.Meeting.{met_self}
use Rattle.frame_code.specs.declared.standing.Standing.{Standing}
use Rattle.frame_graph.specs.declared.edges.Edge.{Edge}
use Rattle.frame_code.specs.Branches.{reaches_next, branch_target}
use Rattle.frame_code.specs.Standing.{instruction_of}
use Rattle.frame_graph.specs.Edges.{edges_to, fall_through_edges, straight_by, straight_edges, branch_place}
use Rattle.frame_graph.specs.Sites.{site_at, edges_from, edges_of}
use Rattle.frame_graph.specs.Reach.{IsReached}
use Rattle.frame_reach.proofs.Others.{others_are_after}
use Rattle.sim_code.specs.frame_flow.Flows.{IsStateOf}
use Rattle.sim_code.specs.frame_flow.Conditions.{Leaves}
use Rattle.sim_code.proofs.frame_flow.Conditions.{transfer_follows_edges}
use Rattle.sim_code.proofs.frame_flow.Reaching.{state_reached}
use Rattle.sim_code.specs.frame_check.Accepts.{framed_function}

pub same_stands : (s : FlowGraph) (p : ℕ) (i j : Instr) (n k : ℕ) → standing_at s p ≡ Instruction i n → standing_at s p ≡ Instruction j k → (i ≡ j) × (n ≡ k)
same_stands s p i j n k e f = let g : Instruction i n ≡ Instruction j k = sym e ∙ f in both g
  where
    both : Instruction i n ≡ Instruction j k → (i ≡ j) × (n ≡ k)
    both g = (cc, cc)

-- ---- runs

-- a run that has taken an instruction
pub record Took (s : FlowGraph) (m : Marks) (p : ℕ) (run : Straight) : Type 0 where
  pub at : ℕ
  pub before : Straight
  pub instr : Instr
  pub size : ℕ
  pub from : IsRun s m at before
  pub stands : standing_at s at ≡ Instruction instr size
  pub free : is_led_to m.target at size ≡ false
  pub takes : with_instruction before instr size ≡ Some run
  pub is : p ≡ at + size / 2

how_run : (s : FlowGraph) (m : Marks) (p : ℕ) (run : Straight) → IsRun s m p run → ((p ≡ 0) × (run ≡ empty_run s.start)) ⊎ Took s m p run
how_run s m _ _ begins = inl (refl, refl)
how_run s m _ _ (takes {p} {run} {next} {i} {size} r e free t) = inr (record { at = p; before = run; instr = i; size = size; from = r; stands = e; free = free; takes = t; is = refl })

pub two_or_four : (s : FlowGraph) (p : ℕ) (i : Instr) (size : ℕ) → standing_at s p ≡ Instruction i size → (size / 2 ≡ 1) ⊎ ((size / 2 ≡ 2) × (size ≡ 4))
two_or_four s p i size e = elim (stands_size s p i size e) [
  | inl two ↦ inl (omega (arith, two))
  | inr four ↦ inr (omega (arith, four), four)
]

module _ (s : FlowGraph) (m : Marks) (are : AreMarks s m) where
  -- a place that is reached before a run has come so far is one of the run's, and ends by there
  pub record Passed (p q : ℕ) : Type 0 where
    pub instr : Instr
    pub size : ℕ
    pub stands : standing_at s q ≡ Instruction instr size
    pub within : q + size / 2 ≤ p

  not_target : (p size : ℕ) → is_led_to m.target p size ≡ false → (IsTarget s p → ⊥) × (size ≡ 4 → IsTarget s (p + 1) → ⊥)
  not_target p size free = (
    λ t. go (m.target p) refl ((are.target p).1 t) free,
    λ four t. wide (m.target p) ((are.target (p + 1)).1 t) (subst (λ n. (m.target p || ((n == 4) && m.target (p + 1))) ≡ false) four free),
  )
    where
      go : (b : Bool) → m.target p ≡ b → b ≡ true → (b || ((size == 4) && m.target (p + 1))) ≡ false → ⊥
      go true is e f = absurd cc
      go false is e f = absurd cc

      wide : (b : Bool) → m.target (p + 1) ≡ true → (b || m.target (p + 1)) ≡ false → ⊥
      wide true e f = absurd cc
      wide false e f = true≢false (sym e ∙ f)

  -- nothing that is reached stands in the second halfword of an instruction of a run
  pub no_straddle : (p0 size : ℕ) (i : Instr) → standing_at s p0 ≡ Instruction i size → is_led_to m.target p0 size ≡ false → size ≡ 4 → ((q : ℕ) → IsReached s q → q < p0 → Passed p0 q) → IsReached s (p0 + 1) → ⊥
  no_straddle p0 size i e free four passed r = elim (others_are_after s (p0 + 1) r) [
    | inl zero_place ↦ omega (arith, zero_place)
    | inr rest ↦ elim rest [
      | inl target ↦ (not_target p0 size free).1 four target
      | inr after ↦ from_after after
    ]
  ]
    where
      from_after : IsAfter s (p0 + 1) → ⊥
      from_after (q, j, n, reached, stands, on, is) = elim (cases_lt q p0) [
        | inl low ↦ let w = passed q reached low in let same = (same_stands s q j w.instr n w.size stands w.stands).1 in let within = w.within in omega (arith, is, within, same)
        | inr high ↦ elim (cases_eq q p0) [
          | inl here ↦ let same = (same_stands s p0 j i n size (subst (λ z. standing_at s z ≡ Instruction j n) here stands) e).1 in omega (arith, is, here, same, four)
          | inr above ↦ elim (two_or_four s q j n stands) [
            | inl one ↦ omega (arith, is, high, above, one)
            | inr two ↦ omega (arith, is, high, above, two.0)
          ]
        ]
      ]

  pub passed : (p : ℕ) (run : Straight) → IsRun s m p run → (q : ℕ) → IsReached s q → q < p → Passed p q
  passed _ _ begins q r l = absurd (omega (arith, l))
  passed _ _ (takes {p} {run} {next} {i} {size} from e free t) q r l = go (passed p run from)
    where
      go : ((q : ℕ) → IsReached s q → q < p → Passed p q) → Passed (p + size / 2) q
      go before = elim (cases_lt q p) [
        | inl low ↦ let w = before q r low in record { instr = w.instr; size = w.size; stands = w.stands; within = omega (arith, w.within) }
        | inr high ↦ elim (cases_eq q p) [
          | inl here ↦ record { instr = i; size = size; stands = subst (λ z. standing_at s z ≡ Instruction i size) (sym here) e; within = omega (arith, here) }
          | inr above ↦ elim (two_or_four s p i size e) [
            | inl one ↦ absurd (omega (arith, l, high, above, one))
            | inr two ↦ absurd (no_straddle p size i e free two.1 before (let is : q ≡ p + 1 = omega (arith, l, high, above, two.0) in subst (IsReached s) is r))
          ]
        ]
      ]

  -- the instruction in front of a place of the run is the run's
  pub in_front : (p : ℕ) (run : Straight) (k : Took s m p run) (q : ℕ) (i : Instr) (size : ℕ) → IsReached s q → standing_at s q ≡ Instruction i size → q + size / 2 ≡ p → q ≡ k.at
  in_front p run k q i size r e is = elim (cases_lt q k.at) [
    | inl low ↦ absurd (let w = passed k.at k.before k.from q r low in let same = (same_stands s q i w.instr size w.size e w.stands).1 in let within = w.within in let last = two_or_four s k.at k.instr k.size k.stands in
        elim last [
          | inl one ↦ omega (arith, is, within, same, k.is, one)
          | inr two ↦ omega (arith, is, within, same, k.is, two.0)
        ])
    | inr high ↦ elim (cases_eq q k.at) [
      | inl here ↦ here
      | inr above ↦ absurd (elim (two_or_four s k.at k.instr k.size k.stands) [
        | inl one ↦ elim (two_or_four s q i size e) [
          | inl a ↦ omega (arith, is, k.is, high, above, one, a)
          | inr a ↦ omega (arith, is, k.is, high, above, one, a.0)
        ]
        | inr two ↦ elim (two_or_four s q i size e) [
          | inl a ↦ no_straddle k.at k.size k.instr k.stands k.free two.1 (passed k.at k.before k.from) (let at : q ≡ k.at + 1 = omega (arith, is, k.is, high, above, two.0, a) in subst (IsReached s) at r)
          | inr a ↦ omega (arith, is, k.is, high, above, two.0, a.0)
        ]
      ])
    ]
  ]

  -- ---- states

  -- what the effect of a run's instruction gives is the fact of the run after it
  abbrev pub EffectsAgree : Type 0
  EffectsAgree = (p : ℕ) (run next : Straight) (i : Instr) (size : ℕ) (k : Fact) → IsRun s m p run → standing_at s p ≡ Instruction i size → is_led_to m.target p size ≡ false → with_instruction run i size ≡ Some next
      → after_of (framed_function s m).prologue ((framed_function s m).lowers p) (address_of s p) i run.fact ≡ Ok k → k ≡ next.fact

  met_all_self : (xs : List Source) → met_sources xs xs ≡ xs
  unfolding met_sources
  met_all_self [] = refl
  met_all_self (x ∷ xs) = ap (λ y. y ∷ met_sources xs xs) (met_self x) ∙ ap (λ ys. x ∷ ys) (met_all_self xs)

  join_self : (f h : Fact) → join_of f f ≡ Some h → f ≡ h
  join_self f h e =
      let eq : (f.depth == f.depth) ≡ true = grind (arith, nat_tests) in
      let j : Fact = record { depth = f.depth; below = f.below || f.below; kept = min f.kept f.kept; regs = met_sources f.regs f.regs } in
      let is : Some j ≡ Some h = sym (ap (λ b. cond b (Some j) None) eq) ∙ e in
      let low : min f.kept f.kept ≡ f.kept = omega arith in
      sym (ap (λ b. let x : Fact = record j { below = b } in x) (either f.below) ∙ ap (λ n. let x : Fact = record j { below = f.below; kept = n } in x) low
      ∙ ap (λ rs. let x : Fact = record f { regs = rs } in x) (met_all_self f.regs)) ∙ same_Some j h is
    where
      either : (b : Bool) → (b || b) ≡ b
      either true = refl
      either false = refl

  module _ (even : s.start % 2 ≡ 0) (agree : EffectsAgree) where
    listed_nothing : registers_of_list 0 ≡ []
    unfolding registers_of_list
    listed_nothing = refl

    -- an edge into a place of the run that is no target comes from the instruction in front of it
    record Comes (p q : ℕ) (w : Edge) : Type 0 where
      pub instr : Instr
      pub size : ℕ
      pub stands : standing_at s p ≡ Instruction instr size
      pub is : q ≡ p + size / 2
      pub clobbers : w.clobbers ≡ 0

    comes : (p q : ℕ) (w : Edge) → IsReached s p → Contains (edges_of s p) w → q ≡ w.to → (IsTarget s q → ⊥) → Comes p q w
    unfolding edges_of
    comes p q w r c e untargeted = elim (Contains-append_cases (straight_edges s p) (edges_from s (site_at s p)) w c) [
      | inl straight ↦ by_standing (standing_at s p) refl straight
      | inr pad ↦ absurd (untargeted (inr (p, w, r, pad, sym e)))
    ]
      where
        branch_no : (t : Option ℕ) → branch_place s p ≡ option_and_then (place_of s) t → Contains (edges_to 0 (option_and_then (place_of s) t)) w → ⊥
        branch_no t is d = go (option_and_then (place_of s) t) (is) d
          where
            go : (o : Option ℕ) → branch_place s p ≡ o → Contains (edges_to 0 o) w → ⊥
            go None f d = contains_none w d
            go (Some n) f d = untargeted (inl (p, r, f ∙ ap (λ (z : ℕ). Some z) (sym (e ∙ ap (λ (y : Edge). y.to) (contains_one w (record { to = n; clobbers = 0 }) d)))))

        onward_is : (i : Instr) (size : ℕ) → standing_at s p ≡ Instruction i size → (b : Bool) → Contains (if b then edges_to 0 (place_of s (address_of s p + size)) else []) w → Comes p q w
        onward_is i size at true d = go (is_code_of s (address_of s p + size)) d
          where
            go : (b : Bool) → Contains (edges_to 0 (if b then Some ((address_of s p + size - s.start) / 2) else None)) w → Comes p q w
            go false d = absurd (contains_none w d)
            go true d =
                let one = contains_one w (record { to = (address_of s p + size - s.start) / 2; clobbers = 0 }) d in
                let to : q ≡ (address_of s p + size - s.start) / 2 = e ∙ ap (λ (y : Edge). y.to) one in
                record { instr = i; size = size; stands = at; is = elim (stands_size s p i size at) [ inl two ↦ omega (arith, to, two) | inr four ↦ omega (arith, to, four) ]; clobbers = ap (λ (y : Edge). y.clobbers) one }
        onward_is i size at false d = absurd (contains_none w d)

        by_standing : (t : Standing) → standing_at s p ≡ t → Contains (straight_by s (address_of s p) t) w → Comes p q w
        by_standing (Instruction i size) at d = elim (Contains-append_cases (fall_through_edges s (address_of s p) i size) (edges_to 0 (option_and_then (place_of s) (branch_target (address_of s p) i))) w d) [
          | inl on ↦ onward_is i size at (reaches_next i) on
          | inr branch ↦ absurd (branch_no (branch_target (address_of s p) i)
              (ap (λ (t : Standing). option_and_then (place_of s) (option_and_then (branch_target (address_of s p)) (instruction_of t))) at) branch)
        ]
        by_standing Udf at d = absurd (contains_none w d)
        by_standing Nothing at d = absurd (contains_none w d)

    -- Each state at a place where a run goes on is the run's fact.
    pub states : (p : ℕ) (f : Fact) → IsStateOf (framed_function s m) p f → (run : Straight) → IsRun s m p run → Continues s m p run → f ≡ run.fact
    states _ _ at_entry run r c = elim (how_run s m 0 run r) [
      | inl start ↦ sym (ap (λ (x : Straight). x.fact) start.1)
      | inr took ↦ absurd (elim (two_or_four s took.at took.instr took.size took.stands) [ inl one ↦ omega (arith, took.is, one) | inr two ↦ omega (arith, took.is, two.0) ])
    ]
    states _ _ (flows_along {p} {q} {f} {g} st c) run r on = go (how_run s m q run r) ((transfer_follows_edges (framed_function s m) p f q g).0 c) (λ before from more. states p f st before from more)
      where
        reached : IsReached s p
        reached = state_reached (framed_function s m) p f st

        go : ((q ≡ 0) × (run ≡ empty_run s.start)) ⊎ Took s m q run
            → ((k : Fact) × (w : Edge) × Leaves (framed_function s m) p f k × Contains (edges_of s p) w × (q ≡ w.to) × (g ≡ forget_registers (registers_of_list w.clobbers) k))
            → ((before : Straight) → IsRun s m p before → Continues s m p before → f ≡ before.fact) → g ≡ run.fact
        go how (k, w, (i, at, e), d, to, is) each = by_edge (comes p q w reached d to (not_target q on.1 on.4).0) how
          where
            by_edge : Comes p q w → ((q ≡ 0) × (run ≡ empty_run s.start)) ⊎ Took s m q run → g ≡ run.fact
            by_edge v (inl start) = absurd (elim (two_or_four s p v.instr v.size v.stands) [ inl one ↦ omega (arith, v.is, start.0, one) | inr two ↦ omega (arith, v.is, start.0, two.0) ])
            by_edge v (inr took) =
                let here : p ≡ took.at = in_front q run took p v.instr v.size reached v.stands (sym v.is) in
                let from : IsRun s m p took.before = subst (λ z. IsRun s m z took.before) (sym here) took.from in
                let stands : standing_at s p ≡ Instruction took.instr took.size = subst (λ z. standing_at s z ≡ Instruction took.instr took.size) (sym here) took.stands in
                let free : is_led_to m.target p took.size ≡ false = subst (λ z. is_led_to m.target z took.size ≡ false) (sym here) took.free in
                let before : f ≡ took.before.fact = each took.before from (took.instr, took.size, run, stands, free, took.takes) in
                let same_instr : i ≡ took.instr = same_Some i took.instr (sym at ∙ ap instruction_of stands) in
                let left : after_of (framed_function s m).prologue ((framed_function s m).lowers p) (address_of s p) took.instr took.before.fact ≡ Ok k =
                subst (λ (j : Instr). after_of (framed_function s m).prologue ((framed_function s m).lowers p) (address_of s p) j took.before.fact ≡ Ok k) same_instr
                (subst (λ (h : Fact). after_of (framed_function s m).prologue ((framed_function s m).lowers p) (address_of s p) i h ≡ Ok k) before e) in
                let plain : g ≡ k = is ∙ ap (λ (n : ℕ). forget_registers (registers_of_list n) k) v.clobbers ∙ ap (λ (rs : List ℕ). forget_registers rs k) listed_nothing in
                plain ∙ agree p took.before run took.instr took.size k from stands free took.takes left
    states _ _ (meeting {p} {f} {g} {h} a b j) run r on =
        let x = states p f a run r on in
        let y = states p g b run r on in
        let joined : join_of run.fact run.fact ≡ Some h = subst (λ (u : Fact). join_of u run.fact ≡ Some h) x (subst (λ (v : Fact). join_of f v ≡ Some h) y j) in
        sym (join_self run.fact h joined)
