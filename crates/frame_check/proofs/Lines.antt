-- The PUSHes of a prologue stand at even addresses of their function.
use Rattle.std.proofs.Common.{◌≡◌, ℕ, zero, suc, ◌+◌, ◌/◌, ◌%◌, ◌^◌, ◌&&◌, ◌<◌, ◌≤◌, ◌⊎◌, inl, inr, Bool, true, false, if◌then◌else◌, nat_le, [], ◌∷◌, ◌++◌, Option, Some, None, refl, sym, ap, ◌∙◌, subst, arith}
use Rattle.std.specs.Prelude.{All, option_map, option_and_then}
use Rattle.std.specs.Option.{option_map_or}
use Rattle.std.proofs.lemmas.Bool.{and_parts, ltb-true}
use Rattle.std.proofs.lemmas.List.Elements.{All-nil, All-cons, All-append, All-map, All-weaker}
use Rattle.thumb_isa.specs.declared.instr.Instr.{Instr}
use Rattle.thumb_isa.specs.declared.instr.Instr.TheVariants.{Push}
use Rattle.frame_facts.specs.declared.facts.Fact.{Fact}
use Rattle.frame_facts.specs.declared.facts.TheConstants.{DEEPEST}
use Rattle.frame_facts.specs.declared.saves.Prologue.{Prologue}
use Rattle.frame_facts.specs.declared.straight.Straight.{Straight}
use Rattle.frame_facts.specs.After.{effect}
use Rattle.frame_facts.specs.Prologues.{with_instruction, run_with_end, prologue_after, may_stand, empty_run}
use Rattle.frame_graph.specs.frame_code.declared.standing.Standing.{Standing}
use Rattle.frame_graph.specs.frame_code.declared.standing.Standing.TheVariants.{Instruction, Udf, Nothing}
use Rattle.frame_graph.specs.FlowGraph.{FlowGraph}
use Rattle.frame_graph.specs.Places.{is_code_of, address_of, standing_at}
use Rattle.frame_reach.specs.Marks.{Marks}
use Rattle.frame_reach.specs.Prologue.{places, is_led_to, line_by, line_at, lines}
use Rattle.frame_reach.proofs.Stands.{stands, stands_size}
use Rattle.frame_check.specs.declared.pushes.ProloguePush.{ProloguePush}
use Rattle.frame_check.specs.Pushes.{Pushing, pushing, pushings, mark_push, pushes_of}

-- ---- what stands at a place that is a line

pub record IsLine (s : FlowGraph) (place bytes : ℕ) : Type 0 where
  pub inside : address_of s place < s.end
  pub size : (bytes ≡ 2) ⊎ (bytes ≡ 4)

code_below : (s : FlowGraph) (a : ℕ) → is_code_of s a ≡ true → a < s.end
code_below s a e = let two = and_parts _ _ e in let low = and_parts _ _ two.0 in ltb-true a s.end low.1

standing_line : (s : FlowGraph) (place : ℕ) (i : Instr) (size : ℕ) → standing_at s place ≡ Instruction i size → IsLine s place size
standing_line s place i size e = record { inside = code_below s (address_of s place) (stands s place i size e).0; size = stands_size s place i size e }

pub line_is : (s : FlowGraph) (target : ℕ → Bool) (place : ℕ) (line : Instr × ℕ) → line_at s target place ≡ Some line → IsLine s place line.1
line_is s target place line e = go (standing_at s place) refl e
  where
    go : (x : Standing) → standing_at s place ≡ x → line_by target place x ≡ Some line → IsLine s place line.1
    go (Instruction i size) f e = by (is_led_to target place size) e
      where
        by : (t : Bool) → (if t then None else Some (i, size)) ≡ Some line → IsLine s place line.1
        by true e = absurd (cc)
        by false e = let same : (i, size) ≡ line = cc in subst (λ (l : Instr × ℕ). IsLine s place l.1) same (standing_line s place i size f)
    go Udf f e = absurd (cc)
    go Nothing f e = absurd (cc)

-- ---- the run

pub unsome : {X : Type 0} (x y : X) → Some x ≡ Some y → x ≡ y
unsome x y e = cc

taken_end : (s t : Straight) (i : Instr) (size : ℕ) → with_instruction s i size ≡ Some t → t.prologue.end ≡ (s.prologue.end + size) % 2 ^ 32
taken_end s t i size e = go (prologue_after s i) (nat_le s.fact.depth DEEPEST && may_stand i) e
  where
    by : (p : Prologue) (o : Option Fact) → option_map (λ (f : Fact). record { fact = f; prologue = record p { end = (s.prologue.end + size) % 2 ^ 32 } }) o ≡ Some t
        → t.prologue.end ≡ (s.prologue.end + size) % 2 ^ 32
    by p None e = absurd (cc)
    by p (Some f) e = sym (ap (λ (x : Straight). x.prologue.end) (unsome _ _ e))

    go : (o : Option Prologue) (b : Bool) → (if b then option_and_then (run_with_end s i size) o else None) ≡ Some t → t.prologue.end ≡ (s.prologue.end + size) % 2 ^ 32
    go o false e = absurd (cc)
    go None true e = absurd (cc)
    go (Some p) true e = by p (effect (record p { end = (s.prologue.end + size) % 2 ^ 32 }) false s.prologue.end i s.fact) e

-- an even address of the function, at a place or above it
pub record IsFrom (s : FlowGraph) (place a : ℕ) : Type 0 where
  pub even : a % 2 ≡ 0
  pub above : address_of s place ≤ a
  pub below : a < s.end

pushing_at : (s : FlowGraph) (place : ℕ) (run : Straight) (i : Instr) → IsFrom s place run.prologue.end → All (λ (x : Pushing). IsFrom s place x.at) (pushing run i)
pushing_at s place run (Push list) x = All-cons (λ (y : Pushing). IsFrom s place y.at) _ [] x (All-nil (λ (y : Pushing). IsFrom s place y.at))
pushing_at s place run i x = All-nil (λ (y : Pushing). IsFrom s place y.at)

pub next_address : (s : FlowGraph) (place size : ℕ) (run t : Straight) (i : Instr) → s.end + 4 ≤ 2 ^ 32 → run.prologue.end ≡ address_of s place → IsLine s place size → with_instruction run i size ≡ Some t
    → t.prologue.end ≡ address_of s (place + size / 2)
next_address s place size run t i low e l f = taken_end run t i size f ∙ next l.size
  where
    next : (size ≡ 2) ⊎ (size ≡ 4) → (run.prologue.end + size) % 2 ^ 32 ≡ address_of s (place + size / 2)
    next (inl n) = omega (arith, n, e, l.inside, low)
    next (inr n) = omega (arith, n, e, l.inside, low)

pub pushings_from : (s : FlowGraph) (target : ℕ → Bool) (fuel place : ℕ) (run : Straight) → s.start % 2 ≡ 0 → s.end + 4 ≤ 2 ^ 32 → run.prologue.end ≡ address_of s place
    → All (λ (x : Pushing). IsFrom s place x.at) (pushings run (lines s target fuel place))
unfolding pushings
pushings_from s target zero place run even low e = All-nil (λ (x : Pushing). IsFrom s place x.at)
pushings_from s target (suc fuel) place run even low e = go (line_at s target place) refl (λ q r h. pushings_from s target fuel q r even low h)
  where
    rest : (line : Instr × ℕ) → IsLine s place line.1 → (o : Option Straight) → with_instruction run line.0 line.1 ≡ o
        → ((q : ℕ) (r : Straight) → r.prologue.end ≡ address_of s q → All (λ (x : Pushing). IsFrom s q x.at) (pushings r (lines s target fuel q)))
        → All (λ (x : Pushing). IsFrom s place x.at) (option_map_or (λ t. pushing run line.0 ++ pushings t (lines s target fuel (place + line.1 / 2))) o [])
    rest line l None f rec = All-nil (λ (x : Pushing). IsFrom s place x.at)
    rest line l (Some t) f rec =
        All-append (λ (x : Pushing). IsFrom s place x.at) (pushing run line.0) (pushings t (lines s target fuel (place + line.1 / 2)))
        (pushing_at s place run line.0 (record { even = omega (arith, e, even); above = omega (arith, e); below = omega (arith, e, l.inside) }))
        (All-weaker (λ (x : Pushing). IsFrom s (place + line.1 / 2) x.at) (λ (x : Pushing). IsFrom s place x.at)
        (λ x y. record { even = y.even; above = omega (arith, y.above); below = y.below }) (pushings t (lines s target fuel (place + line.1 / 2)))
        (rec (place + line.1 / 2) t (next_address s place line.1 run t line.0 low e l f)))

    go : (o : Option (Instr × ℕ)) → line_at s target place ≡ o
        → ((q : ℕ) (r : Straight) → r.prologue.end ≡ address_of s q → All (λ (x : Pushing). IsFrom s q x.at) (pushings r (lines s target fuel q)))
        → All (λ (x : Pushing). IsFrom s place x.at) (pushings run (option_map_or (λ line. line ∷ lines s target fuel (place + line.1 / 2)) o []))
    go None f rec = All-nil (λ (x : Pushing). IsFrom s place x.at)
    go (Some line) f rec = rest line (line_is s target place line f) (with_instruction run line.0 line.1) refl rec

pub pushes_inside : (s : FlowGraph) (m : Marks) (p : Prologue) → s.start % 2 ≡ 0 → s.end + 4 ≤ 2 ^ 32
    → All (λ (x : ProloguePush). IsFrom s 0 x.at) (pushes_of p s.start (lines s m.target (places s) 0))
unfolding pushes_of
pushes_inside s m p even low =
    All-map (λ (x : ProloguePush). IsFrom s 0 x.at) (mark_push p) (pushings (empty_run s.start) (lines s m.target (places s) 0))
    (pushings_from s m.target (places s) 0 (empty_run s.start) even low (omega arith))
