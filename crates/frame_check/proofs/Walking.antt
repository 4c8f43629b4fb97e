-- The walk over the instructions of a prologue, one step more.
use Rattle.std.proofs.Common.{◌≡◌, ℕ, suc, ◌+◌, ◌-◌, ◌/◌, ◌<◌, ◌≤◌, Bool, List, [], ◌∷◌, ◌++◌, map, Option, Some, None, append_assoc, refl, sym, ap, ◌∙◌, arith}
use Rattle.std.specs.Option.{option_map_or}
use Rattle.std.proofs.lemmas.List.{append-nil, map-append}
use Rattle.thumb_isa.specs.declared.instr.Instr.{Instr}
use Rattle.thumb_isa.specs.declared.instr.Instr.TheVariants.{Push}
use Rattle.frame_facts.specs.declared.saves.Prologue.{Prologue}
use Rattle.frame_facts.specs.declared.straight.Straight.{Straight}
use Rattle.frame_facts.specs.Prologues.{with_instruction, empty_run, run_on}
use Rattle.frame_graph.specs.FlowGraph.{FlowGraph}
use Rattle.frame_reach.specs.Marks.{Marks}
use Rattle.frame_reach.specs.Prologue.{places, line_at, lines, prologue}
use Rattle.frame_check.specs.declared.pushes.OpenPush.{OpenPush}
use Rattle.frame_check.specs.declared.pushes.ProloguePush.{ProloguePush}
use Rattle.frame_check.specs.Pushes.{Pushing, pushing, pushings, pushings_of, pushing_of, push_at, push_saves, mark_push, pushes_of}

-- what is found so far, with what is still to be found
abbrev pub Goes : FlowGraph → (ℕ → Bool) → List OpenPush → Straight → ℕ → ℕ → Type 0
Goes s target found run step place =
    map pushing_of found ++ pushings run (lines s target (places s - step) place) ≡ pushings (empty_run s.start) (lines s target (places s) 0)

pub walk_starts : (s : FlowGraph) (target : ℕ → Bool) (found : List OpenPush) (run : Straight) → found ≡ [] → run ≡ empty_run s.start → Goes s target found run 0 0
walk_starts s target found run e f =
    ap (λ (l : List OpenPush). map pushing_of l ++ pushings run (lines s target (places s - 0) 0)) e ∙ ap (λ (r : Straight). pushings r (lines s target (places s - 0) 0)) f
    ∙ ap (λ (n : ℕ). pushings (empty_run s.start) (lines s target n 0)) (omega arith)

further : (s : FlowGraph) (step : ℕ) → step < places s → places s - step ≡ suc (places s - (step + 1))
further s step l = omega arith

-- where nothing more is taken all is found
pub walk_ends : (s : FlowGraph) (target : ℕ → Bool) (found : List OpenPush) (run : Straight) (step place : ℕ) → pushings run (lines s target (places s - step) place) ≡ []
    → Goes s target found run step place → map pushing_of found ≡ pushings (empty_run s.start) (lines s target (places s) 0)
walk_ends s target found run step place e g = sym (append-nil (map pushing_of found)) ∙ ap (λ l. map pushing_of found ++ l) (sym e) ∙ g

pub none_left : (s : FlowGraph) (target : ℕ → Bool) (run : Straight) (step place : ℕ) → places s ≤ step → pushings run (lines s target (places s - step) place) ≡ []
unfolding pushings
none_left s target run step place l = ap (λ (n : ℕ). pushings run (lines s target n place)) (let z : places s - step ≡ 0 = omega arith in z)

pub no_line : (s : FlowGraph) (target : ℕ → Bool) (run : Straight) (step place : ℕ) → step < places s → line_at s target place ≡ None → pushings run (lines s target (places s - step) place) ≡ []
unfolding pushings
no_line s target run step place l e =
    ap (λ (n : ℕ). pushings run (lines s target n place)) (further s step l)
    ∙ ap (λ (o : Option (Instr × ℕ)). pushings run (option_map_or (λ line. line ∷ lines s target (places s - (step + 1)) (place + line.1 / 2)) o [])) e

next_line : (s : FlowGraph) (target : ℕ → Bool) (run : Straight) (step place : ℕ) (i : Instr) (size : ℕ) (o : Option Straight) → step < places s → line_at s target place ≡ Some (i, size) → with_instruction run i size ≡ o
    → pushings run (lines s target (places s - step) place) ≡ option_map_or (λ t. pushing run i ++ pushings t (lines s target (places s - (step + 1)) (place + size / 2))) o []
unfolding pushings
next_line s target run step place i size o l e f =
    ap (λ (n : ℕ). pushings run (lines s target n place)) (further s step l)
    ∙ ap (λ (q : Option (Instr × ℕ)). pushings run (option_map_or (λ line. line ∷ lines s target (places s - (step + 1)) (place + line.1 / 2)) q [])) e
    ∙ ap (λ (q : Option Straight). option_map_or (λ t. pushing run i ++ pushings t (lines s target (places s - (step + 1)) (place + size / 2))) q []) f

pub not_taken : (s : FlowGraph) (target : ℕ → Bool) (run : Straight) (step place : ℕ) (i : Instr) (size : ℕ) → step < places s → line_at s target place ≡ Some (i, size) → with_instruction run i size ≡ None
    → pushings run (lines s target (places s - step) place) ≡ []
not_taken s target run step place i size l e f = next_line s target run step place i size None l e f

one_counted : (run : Straight) (i : Instr) → map pushing_of (push_at run i) ≡ pushing run i
one_counted run (Push list) = refl
one_counted run i = refl

pub walk_goes : (s : FlowGraph) (target : ℕ → Bool) (found new : List OpenPush) (run next : Straight) (step place : ℕ) (i : Instr) (size : ℕ) → step < places s
    → line_at s target place ≡ Some (i, size) → with_instruction run i size ≡ Some next → new ≡ found ++ push_at run i
    → Goes s target found run step place → Goes s target new next (step + 1) (place + size / 2)
walk_goes s target found new run next step place i size l e f n g =
    let rest = pushings next (lines s target (places s - (step + 1)) (place + size / 2)) in
    let line = next_line s target run step place i size (Some next) l e f in
    let more : map pushing_of new ≡ map pushing_of found ++ pushing run i = ap (map pushing_of) n ∙ (map-append pushing_of found (push_at run i) ∙ ap (λ x. map pushing_of found ++ x) (one_counted run i)) in
    ap (λ x. x ++ rest) more ∙ append_one (map pushing_of found) (pushing run i) rest ∙ ap (λ x. map pushing_of found ++ x) (sym line) ∙ g
  where
    append_one : (xs ys zs : List Pushing) → (xs ++ ys) ++ zs ≡ xs ++ (ys ++ zs)
    append_one xs ys zs = rw append_assoc refl

-- ---- where the run ends

pub run_left : (s : FlowGraph) (target : ℕ → Bool) (run : Straight) (step place : ℕ) → places s ≤ step → run_on run (lines s target (places s - step) place) ≡ run
run_left s target run step place l = ap (λ (n : ℕ). run_on run (lines s target n place)) (let z : places s - step ≡ 0 = omega arith in z)

pub run_no_line : (s : FlowGraph) (target : ℕ → Bool) (run : Straight) (step place : ℕ) → step < places s → line_at s target place ≡ None → run_on run (lines s target (places s - step) place) ≡ run
run_no_line s target run step place l e =
    ap (λ (n : ℕ). run_on run (lines s target n place)) (further s step l)
    ∙ ap (λ (o : Option (Instr × ℕ)). run_on run (option_map_or (λ line. line ∷ lines s target (places s - (step + 1)) (place + line.1 / 2)) o [])) e

pub run_not_taken : (s : FlowGraph) (target : ℕ → Bool) (run : Straight) (step place : ℕ) (i : Instr) (size : ℕ) → step < places s → line_at s target place ≡ Some (i, size) → with_instruction run i size ≡ None
    → run_on run (lines s target (places s - step) place) ≡ run
run_not_taken s target run step place i size l e f =
    ap (λ (n : ℕ). run_on run (lines s target n place)) (further s step l)
    ∙ ap (λ (q : Option (Instr × ℕ)). run_on run (option_map_or (λ line. line ∷ lines s target (places s - (step + 1)) (place + line.1 / 2)) q [])) e
    ∙ ap (λ (q : Option Straight). option_map_or (λ t. run_on t (lines s target (places s - (step + 1)) (place + size / 2))) q run) f

-- so it is the prologue
pub run_is : (run last : Straight) (p : Prologue) → last ≡ run → last.prologue ≡ p → run.prologue ≡ p
run_is run last p e f = ap (λ (r : Straight). r.prologue) (sym e) ∙ f

-- ---- what is told of the PUSHes that are found

told_all : (p : Prologue) (found : List OpenPush) → map (push_saves p) found ≡ map (mark_push p) (map pushing_of found)
told_all p [] = refl
told_all p (x ∷ more) = ap (λ l. mark_push p (pushing_of x) ∷ l) (told_all p more)

-- of those of a function's prologue
pub all_told : (s : FlowGraph) (m : Marks) (p : Prologue) (found : List OpenPush) (out : List ProloguePush) → p ≡ prologue s m → map pushing_of found ≡ pushings_of s m → out ≡ map (push_saves p) found
    → out ≡ pushes_of (prologue s m) s.start (lines s m.target (places s) 0)
unfolding pushes_of
all_told s m p found out e f n = n ∙ (told_all p found ∙ (ap (map (mark_push p)) f ∙ ap (λ (q : Prologue). map (mark_push q) (pushings_of s m)) e))
