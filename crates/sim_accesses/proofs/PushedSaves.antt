-- What the run of a prologue says of a PUSH in it: its new saves, and the words that it stores.
use Rattle.std.proofs.Common.{ℕ, ◌≡◌, ◌+◌, ◌<◌, inl, inr, sym, subst, arith, ◌*◌, List, length, get_or, Bool, true, false, cond, Some, None, ap, suc, ◌⊎◌, nat_lt, [], ◌∷◌, set, Option, refl, ◌∙◌, ◌%◌, ◌^◌, ◌&&◌, nat_le, zero, slice_index, ◌==◌}
use Rattle.std.proofs.lemmas.Bool.{cases_lt, cases_eq}
use Rattle.std.proofs.lemmas.Option.{same_Some}
use Rattle.std.specs.Prelude.{Contains, take, option_and_then, option_map}
use Rattle.std.proofs.lemmas.Bool.Decides.{nat_tests}
use Rattle.std.proofs.lemmas.List.Folds.{list_any_at}
use Rattle.frame_facts.specs.declared.straight.Straight.{Straight}
use Rattle.frame_graph.specs.FlowGraph.{FlowGraph}
use Rattle.frame_reach.specs.Laws.{IsRun, Continues, begins, takes}
use Rattle.frame_reach.specs.Marks.{Marks, AreMarks}
use Rattle.frame_graph.specs.Reach.{IsReached}
use Rattle.frame_facts.specs.declared.facts.Fact.{Fact}
use Rattle.frame_facts.specs.declared.facts.Source.TheVariants.{Entry, SpAt, Other}
use Rattle.frame_facts.specs.declared.saves.Save.{Save}
use Rattle.frame_facts.specs.Facts.{source}
use Rattle.frame_facts.specs.declared.facts.Source.{Source}
use Rattle.frame_facts.specs.Prologues.{is_callers, save_of_word, with_save, with_push_saves, may_stand, run_with_end, with_instruction}
use Rattle.thumb_core.specs.Registers.{reg}
use Rattle.frame_facts.specs.declared.saves.Prologue.{Prologue}
use Rattle.frame_facts.specs.declared.saves.TheConstants.{MOST_SAVES}
use Rattle.frame_facts.specs.Saves.{saves_of}
use Rattle.thumb_isa.specs.declared.instr.Instr.TheVariants.{Push}
use Rattle.thumb_core.specs.Words.{registers_of_list, words_in}
use Rattle.frame_facts.specs.declared.facts.TheConstants.{DEEPEST}
use Rattle.eh_bus.proofs.AccessLaws.{Words}
use Rattle.frame_check.specs.Pushes.{is_saved}
use Rattle.frame_code.specs.declared.standing.Standing.TheVariants.{Instruction}
use Rattle.frame_graph.specs.Places.{standing_at}
use Rattle.frame_reach.specs.Prologue.{is_led_to}
use Rattle.sim_prologue.proofs.Straight.{passed, no_straddle, two_or_four, same_stands}
use Rattle.sim_accesses.proofs.Callers.{grown}

-- ---- a reached place in front of the end of a run is one of the run's

abbrev pub RunAt : FlowGraph → Marks → ℕ → Type 0
RunAt s m q = (r : Straight) × IsRun s m q r × Continues s m q r

pub run_at : (s : FlowGraph) (m : Marks) (are : AreMarks s m) (p : ℕ) (run : Straight) → IsRun s m p run → (q : ℕ) → IsReached s q → q < p → RunAt s m q
run_at s m are _ _ begins q r l = absurd (omega (arith, l))
run_at s m are _ _ (takes {p} {run} {next} {i} {size} from e free t) q r l = go (run_at s m are p run from)
  where
    go : ((q : ℕ) → IsReached s q → q < p → RunAt s m q) → RunAt s m q
    go before = elim (cases_lt q p) [
      | inl low ↦ before q r low
      | inr high ↦ elim (cases_eq q p) [
        | inl here ↦ subst (RunAt s m) (sym here) (run, from, (i, size, next, e, free, t))
        | inr above ↦ elim (two_or_four s p i size e) [
          | inl one ↦ absurd (omega (arith, l, high, above, one))
          | inr two ↦ absurd (no_straddle s m are p size i e free two.1 (passed s m are p run from) (let is : q ≡ p + 1 = omega (arith, l, high, above, two.0) in subst (IsReached s) is r))
        ]
      ]
    ]

-- ---- the saves of a push

-- a save that a push adds: its word holds a register that holds its own value at the entry
pub record IsNew (f : Fact) (regs : List ℕ) (v : Save) : Type 0 where
  pub word : ℕ
  pub among : word < length regs
  pub place : v.offset + 4 * word ≡ f.depth + 4 * length regs
  pub held : source f (get_or regs word 0) ≡ Entry v.reg

saved_so : (offset : ℕ) (s : Source) (v : Save) → save_of_word offset s ≡ Some v → (v.offset ≡ offset) × (s ≡ Entry v.reg)
saved_so offset (Entry k) v e = go (is_callers k) e
  where
    go : (b : Bool) → cond b (Some (let x : Save = record { reg = k; offset = offset } in x)) None ≡ Some v → (v.offset ≡ offset) × (Entry k ≡ Entry v.reg)
    go true x = let same = same_Some (record { reg = k; offset = offset }) v x in (ap (λ (y : Save). y.offset) (sym same), ap (λ (y : Save). Entry y.reg) same)
    go false x = absurd cc
saved_so offset (SpAt at) v e = absurd cc
saved_so offset Other v e = absurd cc

pub pushed_new : (p q : Prologue) (f : Fact) (regs : List ℕ) (v : Save) → with_push_saves p f regs ≡ Some q → Contains (saves_of q) v → Contains (saves_of p) v ⊎ IsNew f regs v
pushed_new p q f [] v e h = inl (subst (λ (r : Prologue). Contains (saves_of r) v) (sym (same_Some p q e)) h)
pushed_new p q f (reg ∷ more) v e h = go (with_push_saves p f more) refl e (λ mid m c. pushed_new p mid f more v m c)
  where
    later : Contains (saves_of p) v ⊎ IsNew f more v → Contains (saves_of p) v ⊎ IsNew f (reg ∷ more) v
    later (inl c) = inl c
    later (inr w) = inr (record { word = suc w.word; among = omega (arith, w.among); place = omega (arith, w.place); held = w.held })

    by_room : (mid : Prologue) (new : Save) → (Contains (saves_of mid) v → Contains (saves_of p) v ⊎ IsNew f more v) → save_of_word (f.depth + 4 * length (reg ∷ more)) (source f reg) ≡ Some new
        → (b : Bool) → cond b (Some (let r : Prologue = record mid { count = mid.count + 1; saves = set mid.saves mid.count new } in r)) None ≡ Some q → Contains (saves_of p) v ⊎ IsNew f (reg ∷ more) v
    by_room mid new rec s false g = absurd cc
    by_room mid new rec s true g =
        let inside : Contains (take (mid.count + 1) (set mid.saves mid.count new)) v =
        subst (λ (r : Prologue). Contains (saves_of r) v) (sym (same_Some (let r : Prologue = record mid { count = mid.count + 1; saves = set mid.saves mid.count new } in r) q g)) h in
        elim (grown mid.saves mid.count new v (subst (λ (n : ℕ). Contains (take n (set mid.saves mid.count new)) v) (let n : mid.count + 1 ≡ suc mid.count = omega arith in n) inside)) [
          | inl old ↦ later (rec old)
          | inr same ↦ (let so = saved_so (f.depth + 4 * length (reg ∷ more)) (source f reg) v (s ∙ ap (λ (y : Save). Some y) same) in
              inr (record { word = 0; among = omega arith; place = omega (arith, so.0); held = so.1 }))
        ]

    by_save : (mid : Prologue) → (Contains (saves_of mid) v → Contains (saves_of p) v ⊎ IsNew f more v) → (o : Option Save) → save_of_word (f.depth + 4 * length (reg ∷ more)) (source f reg) ≡ o → with_save o mid ≡ Some q
        → Contains (saves_of p) v ⊎ IsNew f (reg ∷ more) v
    by_save mid rec None s g = later (rec (subst (λ (r : Prologue). Contains (saves_of r) v) (sym (same_Some mid q g)) h))
    by_save mid rec (Some new) s g = by_room mid new rec s (nat_lt mid.count MOST_SAVES) g

    go : (o : Option Prologue) → with_push_saves p f more ≡ o → option_and_then (with_save (save_of_word (f.depth + 4 * length (reg ∷ more)) (source f reg))) o ≡ Some q
        → ((mid : Prologue) → with_push_saves p f more ≡ Some mid → Contains (saves_of mid) v → Contains (saves_of p) v ⊎ IsNew f more v) → Contains (saves_of p) v ⊎ IsNew f (reg ∷ more) v
    go None m g rec = absurd cc
    go (Some mid) m g rec = by_save mid (rec mid m) (save_of_word (f.depth + 4 * length (reg ∷ more)) (source f reg)) refl g

pub taken_pushed : (run t : Straight) (list size : ℕ) → with_instruction run (Push list) size ≡ Some t → (q : Prologue) × (with_push_saves run.prologue run.fact (registers_of_list list) ≡ Some q) × (saves_of t.prologue ≡ saves_of q)
taken_pushed run t list size e = go (nat_le run.fact.depth DEEPEST && may_stand (Push list)) (with_push_saves run.prologue run.fact (registers_of_list list)) refl e
  where
    by : (q : Prologue) (o : Option Fact) → option_map (λ (f : Fact). let x : Straight = record { fact = f; prologue = (let r : Prologue = record q { end = (run.prologue.end + size) % 2 ^ 32 } in r) } in x) o ≡ Some t → saves_of t.prologue ≡ saves_of q
    by q None e = absurd cc
    by q (Some f) e = sym (ap (λ (z : Straight). saves_of z.prologue) (same_Some (let x : Straight = record { fact = f; prologue = (let r : Prologue = record q { end = (run.prologue.end + size) % 2 ^ 32 } in r) } in x) t e))

    go : (b : Bool) (o : Option Prologue) → with_push_saves run.prologue run.fact (registers_of_list list) ≡ o → cond b (option_and_then (run_with_end run (Push list) size) o) None ≡ Some t
        → (q : Prologue) × (with_push_saves run.prologue run.fact (registers_of_list list) ≡ Some q) × (saves_of t.prologue ≡ saves_of q)
    go false o p e = absurd cc
    go true None p e = absurd cc
    go true (Some q) p e = (q, p, by q _ e)

-- ---- words that are stored

pub word_at : (r ks : List ℕ) (j : ℕ) → j < length ks → get_or (words_in r ks) j 0 ≡ slice_index r (get_or ks j 0)
word_at r [] j l = absurd (omega (arith, l))
word_at r (k ∷ more) zero l = refl
word_at r (k ∷ more) (suc j) l = word_at r more j (omega (arith, l))

pub words_count : (r ks : List ℕ) → length (words_in r ks) ≡ length ks
words_count r [] = refl
words_count r (k ∷ more) = let w = words_count r more in omega (arith, w)

pub words_small : (r ks : List ℕ) → ((k : ℕ) → slice_index r k < 2 ^ 32) → Words (words_in r ks)
words_small r [] h = tt
words_small r (k ∷ more) h = (h k, words_small r more h)

pub saved_is : (p : Prologue) (v : Save) → Contains (saves_of p) v → is_saved p v.offset ≡ true
saved_is p v c = list_any_at (λ (s : Save). s.offset == v.offset) (saves_of p) c.0 v c.1
    (subst (λ (s : Save). (s.offset == v.offset) ≡ true) (sym c.2) (let same : (v.offset == v.offset) ≡ true = grind (arith, nat_tests) in same))

-- a PUSH that a run takes
pub record Takes (s : FlowGraph) (m : Marks) (p list : ℕ) : Type 0 where
  pub run : Straight
  pub from : IsRun s m p run
  pub size : ℕ
  pub next : Straight
  pub stands : standing_at s p ≡ Instruction (Push list) size
  pub free : is_led_to m.target p size ≡ false
  pub takes : with_instruction run (Push list) size ≡ Some next

pub takes_it : (s : FlowGraph) (m : Marks) (p list size : ℕ) → standing_at s p ≡ Instruction (Push list) size → RunAt s m p → Takes s m p list
takes_it s m p list size e (run, from, (i, n, next, stands, free, t)) =
    let same = same_stands s p i (Push list) n size stands e in
    record {
      run = run;
      from = from;
      size = n;
      next = next;
      stands = subst (λ j. standing_at s p ≡ Instruction j n) same.0 stands;
      free = free;
      takes = subst (λ j. with_instruction run j n ≡ Some next) same.0 t;
    }
