-- The saves of a prologue stand in rising order of their offsets: so those that count as within a depth are the first ones.
use Rattle.std.proofs.Common.{negsuc, ℕ, ◌≤◌, List, [], ◌∷◌, arith, ◌++◌, ◌≡◌, ◌<◌, ◌+◌, cond, nat_le, ◌∙◌, ap, refl, ◌⊎◌, inl, inr, zero, suc, length, Bool, true, false, Some, None, sym, nat_lt, Option, subst, set, ◌*◌, ℤ, pos, ◌%◌, ◌^◌, ◌&&◌, ◌/◌}
use Rattle.std.specs.List.{count_by}
use Rattle.std.proofs.lemmas.Bool.{lt-leb, le-leb, cases_lt, ltb-true, leb-true, and_parts}
use Rattle.std.proofs.lemmas.List.Sums.{sum_by-cons}
use Rattle.std.specs.Prelude.{Contains, take, option_and_then, option_map, ◌+ℤ◌}
use Rattle.std.proofs.lemmas.Option.{same_Some}
use Rattle.std.proofs.lemmas.List.{length-set}
use Rattle.std.proofs.lemmas.Int.{ints}
use Rattle.std.specs.Option.{option_map_or}
use Rattle.thumb_isa.specs.declared.instr.Instr.{Instr}
use Rattle.thumb_isa.specs.declared.instr.Instr.TheVariants.{SubSp, Push}
use Rattle.frame_facts.specs.declared.saves.Save.{Save}
use Rattle.frame_dataflow.proofs.Work.{contains_none, contains_cons}
use Rattle.frame_facts.specs.declared.saves.Prologue.{Prologue}
use Rattle.frame_facts.specs.Saves.{saves_of}
use Rattle.frame_facts.specs.declared.facts.Source.{Source}
use Rattle.frame_facts.specs.declared.facts.Source.TheVariants.{Entry, SpAt, Other}
use Rattle.frame_facts.specs.Prologues.{is_callers, save_of_word, with_save, with_push_saves, may_stand, prologue_after, run_with_end, with_instruction, empty_run, run_on}
use Rattle.frame_facts.specs.declared.saves.TheConstants.{MOST_SAVES}
use Rattle.frame_facts.specs.declared.facts.Fact.{Fact}
use Rattle.frame_facts.specs.Facts.{source, bounded_depth}
use Rattle.frame_facts.specs.declared.facts.TheConstants.{DEEPEST}
use Rattle.thumb_core.specs.Words.{registers_of_list}
use Rattle.frame_facts.specs.After.{effect}
use Rattle.frame_facts.specs.Lists.{push_to_depth}
use Rattle.frame_facts.specs.declared.straight.Straight.{Straight}
use Rattle.frame_code.specs.declared.standing.Standing.TheVariants.{Instruction}
use Rattle.frame_graph.specs.Places.{standing_at}
use Rattle.frame_graph.specs.FlowGraph.{FlowGraph}
use Rattle.frame_reach.specs.Marks.{Marks}
use Rattle.frame_reach.specs.Prologue.{places, line_at, lines, prologue}
use Rattle.frame_reach.proofs.Runs.{line_stands}
use Rattle.sim_code.specs.Bounds.{Bounds}
use Rattle.sim_prologue.proofs.Prologues.{IsDown, pushed_depth, effect_deeper}
use Rattle.sim_prologue.proofs.Extends.{take_last}

pub range_down : (i : Instr) → Bounds i → IsDown i
range_down (SubSp (negsuc n)) r = r
range_down i r = tt

-- from low on, each at least as deep as the one before it, and none deeper than high
abbrev pub Between : ℕ → ℕ → List Save → Type 0
Between low high [] = low ≤ high
Between low high (v ∷ more) = (low ≤ v.offset) × Between v.offset high more

pub between_ends : (low high : ℕ) (xs : List Save) → Between low high xs → low ≤ high
between_ends low high [] h = h
between_ends low high (v ∷ more) h = let l = between_ends v.offset high more h.1 in omega (arith, h.0, l)

raised : (low high up : ℕ) (xs : List Save) → Between low high xs → high ≤ up → Between low up xs
raised low high up [] h l = omega (arith, h, l)
raised low high up (v ∷ more) h l = (h.0, raised v.offset high up more h.1 l)

one_more : (low high : ℕ) (xs : List Save) (v : Save) → Between low high xs → high ≤ v.offset → Between low v.offset (xs ++ (v ∷ []))
one_more low high [] v h l = (omega (arith, h, l), omega arith)
one_more low high (w ∷ more) v h l = (h.0, one_more w.offset high more v h.1 l)

-- ---- saves within a depth

none_within : (d low high : ℕ) (xs : List Save) → Between low high xs → d < low → count_by (λ (s : Save). nat_le s.offset d) xs ≡ 0
none_within d low high [] h l = refl
none_within d low high (v ∷ more) h l =
    sum_by-cons (λ (s : Save). cond (nat_le s.offset d) 1 0) v more
    ∙ ap (λ b. cond b 1 0 + count_by (λ (s : Save). nat_le s.offset d) more) (lt-leb v.offset d (omega (arith, h.0, l)))
    ∙ ap (λ n. 0 + n) (none_within d v.offset high more h.1 (omega (arith, h.0, l))) ∙ omega arith

pub few_within : (d low high k : ℕ) (xs : List Save) (v : Save) → Between low high xs → k ≤ count_by (λ (s : Save). nat_le s.offset d) xs → Contains (take k xs) v → v.offset ≤ d
few_within d low high zero xs v h l c = absurd (contains_none v c)
few_within d low high (suc k) [] v h l c = absurd (contains_none v c)
few_within d low high (suc k) (w ∷ more) v h l c =
    go (cases_lt d w.offset) (contains_cons v w (take k more) c) (λ m e. few_within d w.offset high k more v h.1 m e)
  where
    count : count_by (λ (s : Save). nat_le s.offset d) (w ∷ more) ≡ cond (nat_le w.offset d) 1 0 + count_by (λ (s : Save). nat_le s.offset d) more
    count = sum_by-cons (λ (s : Save). cond (nat_le s.offset d) 1 0) w more

    go : (d < w.offset) ⊎ (w.offset ≤ d) → (v ≡ w) ⊎ Contains (take k more) v → (k ≤ count_by (λ (s : Save). nat_le s.offset d) more → Contains (take k more) v → v.offset ≤ d) → v.offset ≤ d
    go (inl deep) e later = absurd (let n = none_within d w.offset high more h.1 deep in let z = lt-leb w.offset d deep in let sum : count_by (λ (s : Save). nat_le s.offset d) (w ∷ more) ≡ 0 + count_by (λ (s : Save). nat_le s.offset d) more = count ∙ ap (λ b. cond b 1 0 + count_by (λ (s : Save). nat_le s.offset d) more) z in omega (arith, l, n, sum))
    go (inr in_there) (inl same) later = omega (arith, in_there, ap (λ (x : Save). x.offset) same)
    go (inr in_there) (inr c) later =
        let z = le-leb w.offset d in_there in
        let sum : count_by (λ (s : Save). nat_le s.offset d) (w ∷ more) ≡ 1 + count_by (λ (s : Save). nat_le s.offset d) more = count ∙ ap (λ b. cond b 1 0 + count_by (λ (s : Save). nat_le s.offset d) more) z in
        later (omega (arith, l, sum)) c

-- ---- a prologue

pub record Holds16 (p : Prologue) (d : ℕ) : Type 0 where
  pub long : length p.saves ≡ 16
  pub few : p.count ≤ 16
  pub rise : Between 0 d (saves_of p)

saved_offset : (offset : ℕ) (s : Source) (v : Save) → save_of_word offset s ≡ Some v → v.offset ≡ offset
saved_offset offset (Entry k) v e = go (is_callers k) e
  where
    go : (b : Bool) → cond b (Some (let x : Save = record { reg = k; offset = offset } in x)) None ≡ Some v → v.offset ≡ offset
    go true x = ap (λ (y : Save). y.offset) (sym (same_Some (record { reg = k; offset = offset }) v x))
    go false x = absurd cc
saved_offset offset (SpAt at) v e = absurd cc
saved_offset offset Other v e = absurd cc

with_one : (p q : Prologue) (d offset : ℕ) (s : Option Save) → Holds16 p d → d ≤ offset → ((v : Save) → s ≡ Some v → v.offset ≡ offset) → with_save s p ≡ Some q → Holds16 q offset
with_one p q d offset None h l at e = subst (λ r. Holds16 r offset) (same_Some p q e) (record { long = h.long; few = h.few; rise = raised 0 d offset (saves_of p) h.rise l })
with_one p q d offset (Some v) h l at e = go (nat_lt p.count MOST_SAVES) refl e
  where
    next : Prologue
    next = record p { count = p.count + 1; saves = set p.saves p.count v }

    go : (b : Bool) → nat_lt p.count MOST_SAVES ≡ b → cond b (Some next) None ≡ Some q → Holds16 q offset
    go false is x = absurd cc
    go true is x =
        let less : p.count < 16 = ltb-true p.count MOST_SAVES is in
        let same = at v refl in
        let rises : Between 0 v.offset (saves_of p ++ (v ∷ [])) = one_more 0 d (saves_of p) v h.rise (omega (arith, same, l)) in
        subst (λ r. Holds16 r offset) (same_Some next q x) (record {
          long = length-set p.saves p.count v ∙ h.long;
          few = omega (arith, less);
          rise = subst (λ n. Between 0 n (saves_of next)) same (subst (λ vs. Between 0 v.offset vs) (sym (take_last p.count p.saves v (omega (arith, less, h.long)))) rises);
        })

with_push : (p q : Prologue) (f : Fact) (regs : List ℕ) → Holds16 p f.depth → with_push_saves p f regs ≡ Some q → Holds16 q (f.depth + 4 * length regs)
with_push p q f [] h e = subst (λ r. Holds16 r (f.depth + 0)) (same_Some p q e) (let z : f.depth ≡ f.depth + 0 = omega arith in subst (Holds16 p) z h)
with_push p q f (reg ∷ more) h e = go (with_push_saves p f more) refl e (λ r w. with_push p r f more h w)
  where
    go : (o : Option Prologue) → with_push_saves p f more ≡ o → option_and_then (with_save (save_of_word (f.depth + 4 * length (reg ∷ more)) (source f reg))) o ≡ Some q
        → ((r : Prologue) → with_push_saves p f more ≡ Some r → Holds16 r (f.depth + 4 * length more)) → Holds16 q (f.depth + 4 * length (reg ∷ more))
    go None is x each = absurd cc
    go (Some r) is x each =
        with_one r q (f.depth + 4 * length more) (f.depth + 4 * length (reg ∷ more)) (save_of_word (f.depth + 4 * length (reg ∷ more)) (source f reg)) (each r is) (omega arith)
        (λ v w. saved_offset (f.depth + 4 * length (reg ∷ more)) (source f reg) v w) x

pub within_pos : (z : ℤ) (d : ℕ) → bounded_depth z ≡ Some d → (z ≡ pos d) × (d ≤ DEEPEST)
within_pos (pos n) d e = go (nat_le n DEEPEST) refl e
  where
    go : (b : Bool) → nat_le n DEEPEST ≡ b → cond b (Some n) None ≡ Some d → (◌≡◌ {A = ℤ} (pos n) (pos d)) × (d ≤ DEEPEST)
    go true is x = let same : n ≡ d = same_Some n d x in (ap (λ (k : ℕ). let y : ℤ = pos k in y) same, let l = leb-true n DEEPEST is in omega (arith, l, same))
    go false is x = absurd cc
within_pos (negsuc n) d e = absurd cc

-- the depth after a push
pub push_depth : (q : Prologue) (at list : ℕ) (f g : Fact) → effect q false at (Push list) f ≡ Some g → g.depth ≡ f.depth + 4 * length (registers_of_list list)
push_depth q at list f g e = go (bounded_depth (pos f.depth +ℤ pos (4 * length (registers_of_list list)))) refl e
  where
    go : (o : Option ℕ) → bounded_depth (pos f.depth +ℤ pos (4 * length (registers_of_list list))) ≡ o → option_map (λ d. push_to_depth q at d f) o ≡ Some g → g.depth ≡ f.depth + 4 * length (registers_of_list list)
    go None h x = absurd cc
    go (Some d) h x =
        let w = within_pos (pos f.depth +ℤ pos (4 * length (registers_of_list list))) d h in
        let is : d ≡ f.depth + 4 * length (registers_of_list list) = omega (arith, ints, w.0) in
        sym (ap (λ (y : Fact). y.depth) (same_Some (push_to_depth q at d f) g x)) ∙ pushed_depth q at f d ∙ is

-- how deep the saves go, and that the fact after goes as deep
record Deep (run : Straight) (j : Instr) (q : Prologue) : Type 0 where
  pub depth : ℕ
  pub holds : Holds16 q depth
  pub deep : (r : Prologue) (g : Fact) → effect r false run.prologue.end j run.fact ≡ Some g → depth ≤ g.depth

pub taken_holds : (run t : Straight) (i : Instr) (size : ℕ) → Holds16 run.prologue run.fact.depth → IsDown i → with_instruction run i size ≡ Some t → Holds16 t.prologue t.fact.depth
taken_holds run t i size h down e = go (nat_le run.fact.depth DEEPEST && may_stand i) refl (prologue_after run i) refl e
  where
    by_effect : (q : Prologue) (d : ℕ) → Holds16 q d → ((r : Prologue) (g : Fact) → effect r false run.prologue.end i run.fact ≡ Some g → d ≤ g.depth) → (o : Option Fact)
        → (let r : Prologue = record q { end = (run.prologue.end + size) % 2 ^ 32 } in effect r false run.prologue.end i run.fact) ≡ o
        → option_map (λ f. let x : Straight = record { fact = f; prologue = (let r : Prologue = record q { end = (run.prologue.end + size) % 2 ^ 32 } in r) } in x) o ≡ Some t → Holds16 t.prologue t.fact.depth
    by_effect q d k deep None is x = absurd cc
    by_effect q d k deep (Some f) is x =
        let r : Prologue = record q { end = (run.prologue.end + size) % 2 ^ 32 } in
        subst (λ (y : Straight). Holds16 y.prologue y.fact.depth) (same_Some (let y : Straight = record { fact = f; prologue = r } in y) t x)
        (record { long = k.long; few = k.few; rise = raised 0 d f.depth (saves_of q) k.rise (deep r f is) })

    plain : (j : Instr) (q : Prologue) → may_stand j ≡ true → IsDown j → Some run.prologue ≡ Some q → Deep run j q
    plain j q may d p = record {
      depth = run.fact.depth;
      holds = subst (λ z. Holds16 z run.fact.depth) (same_Some run.prologue q p) h;
      deep = λ r g w. effect_deeper r run.prologue.end j run.fact g may d w;
    }

    by_instr : (j : Instr) (q : Prologue) → may_stand j ≡ true → IsDown j → prologue_after run j ≡ Some q → Deep run j q
    by_instr (Push list) q may d p = record {
      depth = run.fact.depth + 4 * length (registers_of_list list);
      holds = with_push run.prologue q run.fact (registers_of_list list) h p;
      deep = λ r g w. let same = push_depth r run.prologue.end list run.fact g w in omega (arith, same);
    }
    by_instr j q may d p = plain j q may d p

    go : (b : Bool) → (nat_le run.fact.depth DEEPEST && may_stand i) ≡ b → (o : Option Prologue) → prologue_after run i ≡ o → cond b (option_and_then (run_with_end run i size) o) None ≡ Some t → Holds16 t.prologue t.fact.depth
    go false m o p x = absurd cc
    go true m None p x = absurd cc
    go true m (Some q) p x =
        let w = by_instr i q (and_parts (nat_le run.fact.depth DEEPEST) (may_stand i) m).1 down p in
        by_effect q w.depth w.holds w.deep (let r : Prologue = record q { end = (run.prologue.end + size) % 2 ^ 32 } in effect r false run.prologue.end i run.fact) refl x

-- the saves rise up to some depth
abbrev pub AreOrdered : Prologue → Type 0
AreOrdered p = (high : ℕ) × Between 0 high (saves_of p)

module _ (s : FlowGraph) (m : Marks) (down : (p : ℕ) (i : Instr) (size : ℕ) → standing_at s p ≡ Instruction i size → IsDown i) where
  from_run : (fuel p : ℕ) (run : Straight) → Holds16 run.prologue run.fact.depth → AreOrdered (run_on run (lines s m.target fuel p)).prologue
  from_run zero p run h = (run.fact.depth, h.rise)
  from_run (suc fuel) p run h = by_line (line_at s m.target p) refl (λ i size next k. from_run fuel (p + size / 2) next k)
    where
      by_taken : (i : Instr) (size : ℕ) → standing_at s p ≡ Instruction i size → (o : Option Straight) → with_instruction run i size ≡ o
          → ((next : Straight) → Holds16 next.prologue next.fact.depth → AreOrdered (run_on next (lines s m.target fuel (p + size / 2))).prologue)
          → AreOrdered (option_map_or (λ (t : Straight). run_on t (lines s m.target fuel (p + size / 2))) o run).prologue
      by_taken i size e None is later = (run.fact.depth, h.rise)
      by_taken i size e (Some next) is later = later next (taken_holds run next i size h (down p i size e) is)

      by_line : (o : Option (Instr × ℕ)) → line_at s m.target p ≡ o
          → ((i : Instr) (size : ℕ) (next : Straight) → Holds16 next.prologue next.fact.depth → AreOrdered (run_on next (lines s m.target fuel (p + size / 2))).prologue)
          → AreOrdered (run_on run (option_map_or (λ (line : Instr × ℕ). line ∷ lines s m.target fuel (p + line.1 / 2)) o [])).prologue
      by_line None is later = (run.fact.depth, h.rise)
      by_line (Some (i, size)) is later =
          let w = line_stands m.target p (standing_at s p) (i, size) is in
          by_taken i size w.0 (with_instruction run i size) refl (later i size)

  pub are_ordered : AreOrdered (prologue s m)
  unfolding prologue
  are_ordered = from_run (places s) 0 (empty_run s.start) (record { long = refl; few = omega arith; rise = omega arith })
