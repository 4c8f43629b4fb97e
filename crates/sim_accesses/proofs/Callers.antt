-- Saves are of registers that are the caller's; and what a word of the stack holds that a fact says to hold one.
use Rattle.std.proofs.Common.{◌≡◌, ℕ, zero, suc, ◌⊎◌, inl, inr, List, [], ◌∷◌, set, sym, subst, true, Bool, false, cond, Some, None, refl, ◌+◌, ◌*◌, nat_lt, length, Option, arith, ◌%◌, ◌^◌, ◌&&◌, nat_le, ◌-◌, ◌<◌, ◌==◌, slice_index, pos, ◌||◌, Result, Ok, ap, ◌∙◌, get_or}
use Rattle.std.specs.Prelude.{Contains, take, option_and_then, option_map, find, ◌+ℤ◌}
use Rattle.std.proofs.lemmas.Option.{same_Some, none-some}
use Rattle.std.specs.Option.{option_map_or}
use Rattle.std.specs.Ordering.{int_eq}
use Rattle.std.proofs.lemmas.Int.{ints}
use Rattle.std.proofs.lemmas.Bool.{and_parts, ltb-true, leb-true, eqb-true, cases_eq}
use Rattle.std.proofs.lemmas.Bool.Decides.{nat_tests}
use Rattle.std.proofs.lemmas.List.{get_or-set_same, get_or-set_other, length-set}
use Rattle.frame_dataflow.proofs.Work.{contains_none, contains_head, contains_tail, contains_cons}
use Rattle.frame_facts.specs.declared.saves.Save.{Save}
use Rattle.frame_facts.specs.declared.saves.Prologue.{Prologue}
use Rattle.frame_facts.specs.Prologues.{is_callers, save_of_word, with_save, with_push_saves, may_stand, prologue_after, run_with_end, with_instruction, run_on, empty_run}
use Rattle.frame_facts.specs.Saves.{saves_of, lies_at, word, stack_word}
use Rattle.frame_facts.specs.declared.facts.Source.{Source}
use Rattle.frame_facts.specs.declared.facts.Source.TheVariants.{Entry, SpAt, Other}
use Rattle.thumb_core.specs.Registers.{reg}
use Rattle.frame_facts.specs.declared.facts.Fact.{Fact}
use Rattle.frame_facts.specs.declared.saves.TheConstants.{MOST_SAVES}
use Rattle.frame_facts.specs.Facts.{source, slot, with_source}
use Rattle.thumb_isa.specs.declared.instr.Instr.{Instr}
use Rattle.thumb_isa.specs.declared.instr.Instr.TheVariants.{Push}
use Rattle.thumb_core.specs.Words.{registers_of_list}
use Rattle.frame_facts.specs.declared.facts.TheConstants.{DEEPEST}
use Rattle.frame_facts.specs.declared.straight.Straight.{Straight}
use Rattle.frame_facts.specs.After.{effect}
use Rattle.frame_graph.specs.FlowGraph.{FlowGraph}
use Rattle.frame_reach.specs.Marks.{Marks}
use Rattle.frame_reach.specs.Prologue.{lines, places, prologue}
use Rattle.thumb_core.specs.declared.regs.TheConstants.{LR, SP}
use Rattle.sim_machines.specs.Activations.{Caller, Activation}
use Rattle.eh_bus.specs.Memory.{load_number}
use Rattle.eh_bus.specs.Segment.{Segment}
use Rattle.eh_bus.specs.declared.fault.BusFault.{BusFault}
use Rattle.thumb_core.specs.declared.regs.Regs.{Regs}
use Rattle.frame_facts.specs.Machine.{Means}
use Rattle.sim_relation.specs.Holds.{recorded_register, IsWhole, Holds}

-- ---- saves

pub grown : (xs : List Save) (c : ℕ) (new x : Save) → Contains (take (suc c) (set xs c new)) x → Contains (take c xs) x ⊎ (new ≡ x)
grown [] zero new x h = absurd (contains_none x h)
grown [] (suc c) new x h = absurd (contains_none x h)
grown (y ∷ more) zero new x h = elim (contains_cons x new (take 0 more) h) [
  | inl e ↦ inr (sym e)
  | inr d ↦ absurd (contains_none x d)
]
grown (y ∷ more) (suc c) new x h = go (contains_cons x y (take (suc c) (set more c new)) h) (λ d. grown more c new x d)
  where
    go : (x ≡ y) ⊎ Contains (take (suc c) (set more c new)) x → (Contains (take (suc c) (set more c new)) x → Contains (take c more) x ⊎ (new ≡ x)) → Contains (y ∷ take c more) x ⊎ (new ≡ x)
    go (inl e) later = inl (subst (λ z. Contains (y ∷ take c more) z) (sym e) (contains_head y (take c more)))
    go (inr d) later = elim (later d) [
      | inl f ↦ inl (contains_tail x y (take c more) f)
      | inr f ↦ inr f
    ]

abbrev pub OnlyCallers : Prologue → Type 0
OnlyCallers p = (v : Save) → Contains (saves_of p) v → is_callers v.reg ≡ true

saved_callers : (offset : ℕ) (s : Source) (v : Save) → save_of_word offset s ≡ Some v → is_callers v.reg ≡ true
saved_callers offset (Entry k) v e = go (is_callers k) refl e
  where
    go : (b : Bool) → is_callers k ≡ b → cond b (Some (let x : Save = record { reg = k; offset = offset } in x)) None ≡ Some v → is_callers v.reg ≡ true
    go true is x = subst (λ (y : Save). is_callers y.reg ≡ true) (same_Some (record { reg = k; offset = offset }) v x) is
    go false is x = absurd cc
saved_callers offset (SpAt at) v e = absurd cc
saved_callers offset Other v e = absurd cc

pushed_only : (p q : Prologue) (f : Fact) (regs : List ℕ) → OnlyCallers p → with_push_saves p f regs ≡ Some q → OnlyCallers q
pushed_only p q f [] h e = subst OnlyCallers (same_Some p q e) h
pushed_only p q f (reg ∷ more) h e = go (with_push_saves p f more) refl e (λ mid w. pushed_only p mid f more h w)
  where
    by_room : (mid : Prologue) (new : Save) → OnlyCallers mid → is_callers new.reg ≡ true → (b : Bool)
        → cond b (Some (let r : Prologue = record mid { count = mid.count + 1; saves = set mid.saves mid.count new } in r)) None ≡ Some q → OnlyCallers q
    by_room mid new hm c false g = absurd cc
    by_room mid new hm c true g = subst OnlyCallers (same_Some (let r : Prologue = record mid { count = mid.count + 1; saves = set mid.saves mid.count new } in r) q g)
        (λ v d. elim (grown mid.saves mid.count new v (subst (λ (n : ℕ). Contains (take n (set mid.saves mid.count new)) v) (let n : mid.count + 1 ≡ suc mid.count = omega arith in n) d)) [
          | inl old ↦ hm v old
          | inr same ↦ subst (λ (w : Save). is_callers w.reg ≡ true) same c
        ])

    by_save : (mid : Prologue) → OnlyCallers mid → (o : Option Save) → save_of_word (f.depth + 4 * length (reg ∷ more)) (source f reg) ≡ o → with_save o mid ≡ Some q → OnlyCallers q
    by_save mid hm None s g = subst OnlyCallers (same_Some mid q g) hm
    by_save mid hm (Some new) s g = by_room mid new hm (saved_callers (f.depth + 4 * length (reg ∷ more)) (source f reg) new s) (nat_lt mid.count MOST_SAVES) g

    go : (o : Option Prologue) → with_push_saves p f more ≡ o → option_and_then (with_save (save_of_word (f.depth + 4 * length (reg ∷ more)) (source f reg))) o ≡ Some q
        → ((mid : Prologue) → with_push_saves p f more ≡ Some mid → OnlyCallers mid) → OnlyCallers q
    go None m g rec = absurd cc
    go (Some mid) m g rec = by_save mid (rec mid m) (save_of_word (f.depth + 4 * length (reg ∷ more)) (source f reg)) refl g

taken_only : (run t : Straight) (i : Instr) (size : ℕ) → OnlyCallers run.prologue → with_instruction run i size ≡ Some t → OnlyCallers t.prologue
taken_only run t i size h e = go (nat_le run.fact.depth DEEPEST && may_stand i) (prologue_after run i) refl e
  where
    by_instr : (j : Instr) (q : Prologue) → prologue_after run j ≡ Some q → OnlyCallers q
    by_instr (Push list) q g = pushed_only run.prologue q run.fact (registers_of_list list) h g
    by_instr j q g = subst OnlyCallers (same_Some run.prologue q g) h

    by : (q : Prologue) → OnlyCallers q → (o : Option Fact)
        → option_map (λ f. let x : Straight = record { fact = f; prologue = (let r : Prologue = record q { end = (run.prologue.end + size) % 2 ^ 32 } in r) } in x) o ≡ Some t → OnlyCallers t.prologue
    by q c None g = absurd cc
    by q c (Some f) g = subst (λ (y : Straight). OnlyCallers y.prologue) (same_Some (let x : Straight = record { fact = f; prologue = (let r : Prologue = record q { end = (run.prologue.end + size) % 2 ^ 32 } in r) } in x) t g) c

    go : (b : Bool) (o : Option Prologue) → prologue_after run i ≡ o → cond b (option_and_then (run_with_end run i size) o) None ≡ Some t → OnlyCallers t.prologue
    go false o p g = absurd cc
    go true None p g = absurd cc
    go true (Some q) p g = by q (by_instr i q p) (effect (let r : Prologue = record q { end = (run.prologue.end + size) % 2 ^ 32 } in r) false run.prologue.end i run.fact) g

run_only : (ls : List (Instr × ℕ)) (run : Straight) → OnlyCallers run.prologue → OnlyCallers (run_on run ls).prologue
run_only [] run h = h
run_only (line ∷ more) run h = go (with_instruction run line.0 line.1) refl (λ t e. run_only more t (taken_only run t line.0 line.1 h e))
  where
    go : (o : Option Straight) → with_instruction run line.0 line.1 ≡ o → ((t : Straight) → with_instruction run line.0 line.1 ≡ Some t → OnlyCallers (run_on t more).prologue)
        → OnlyCallers (option_map_or (λ (t : Straight). run_on t more) o run).prologue
    go None e later = h
    go (Some t) e later = later t e

pub only_callers : (s : FlowGraph) (m : Marks) → OnlyCallers (prologue s m)
unfolding prologue
only_callers s m = run_only (lines s m.target (places s) 0) (empty_run s.start) (λ v c. absurd (contains_none v c))

pub contains_take : (k : ℕ) (xs : List Save) (v : Save) → Contains (take k xs) v → Contains xs v
contains_take zero xs v h = absurd (contains_none v h)
contains_take (suc k) [] v h = absurd (contains_none v h)
contains_take (suc k) (y ∷ more) v h = go (contains_cons v y (take k more) h) (λ d. contains_take k more v d)
  where
    go : (v ≡ y) ⊎ Contains (take k more) v → (Contains (take k more) v → Contains more v) → Contains (y ∷ more) v
    go (inl e) later = subst (λ z. Contains (y ∷ more) z) (sym e) (contains_head y more)
    go (inr d) later = contains_tail v y more (later d)

-- ---- what was found

pub found_one : (q : Save → Bool) (xs : List Save) (s : Save) → find q xs ≡ Some s → Contains xs s × (q s ≡ true)
found_one q [] s e = absurd (none-some s e)
found_one q (x ∷ xs) s e = go (q x) refl e (found_one q xs s)
  where
    go : (b : Bool) → q x ≡ b → cond b (Some x) (find q xs) ≡ Some s → (find q xs ≡ Some s → Contains xs s × (q s ≡ true)) → Contains (x ∷ xs) s × (q s ≡ true)
    go true is h later = let same : x ≡ s = same_Some x s h in (subst (λ y. Contains (x ∷ xs) y) same (contains_head x xs), subst (λ y. q y ≡ true) same is)
    go false is h later = let w = later h in (contains_tail s x xs w.0, w.1)

pub recorded_small : (c : Caller) (k : ℕ) → IsWhole c → recorded_register c k < 2 ^ 32
recorded_small c k w = go (k == LR)
  where
    go : (b : Bool) → cond b c.back (slice_index c.saved (k - 4)) < 2 ^ 32
    go true = w.back
    go false = w.words (k - 4)

lies_sum : (s off at : ℕ) → int_eq (pos s +ℤ pos off) (pos at) ≡ true → s + off ≡ at
lies_sum s off at e = grind (arith, ints)

module _ (p : Prologue) (f : Fact) (a : Activation) (segments : List Segment) (regs : Regs) (h : Holds p f a segments regs) (whole : IsWhole a.caller) (only : OnlyCallers p) (top : a.caller.sp < 2 ^ 32) where
  -- what is known of a loaded word, by its source
  abbrev pub Known : Source → ℕ → Type 0
  Known (Entry n) v = (is_callers n ≡ true) × (v ≡ recorded_register a.caller n)
  Known (SpAt n) v = ⊥
  Known Other v = Unit {0}

  pub word_known : (off v : ℕ) → load_number 4 segments ((reg regs SP + off) % 2 ^ 32) ≡ Ok v → Known (stack_word p f (pos off)) v
  word_known off v e = by_below f.below refl
    where
      by_save : f.below ≡ false → (o : Option Save) → find (lies_at f.depth (pos off)) (take f.kept (saves_of p)) ≡ o → Known (option_map_or (λ (s : Save). Entry s.reg) o Other) v
      by_save below None is = tt
      by_save below (Some s) is =
          let w = found_one (lies_at f.depth (pos off)) (take f.kept (saves_of p)) s is in
          let kept = h.saves s w.0 in
          let sum : s.offset + off ≡ f.depth = lies_sum s.offset off f.depth w.1 in
          let sp = h.describes.sp below in
          let address : (reg regs SP + off) % 2 ^ 32 ≡ a.caller.sp - s.offset = omega (arith, sum, sp, top) in
          (only s (contains_take f.kept (saves_of p) s w.0), same_ok v (recorded_register a.caller s.reg) (sym e ∙ ap (λ n. load_number 4 segments n) address ∙ kept.holds))
        where
          same_ok : (x y : ℕ) → ◌≡◌ {A = Result ℕ BusFault} (Ok x) (Ok y) → x ≡ y
          same_ok x y q = cc

      by_below : (b : Bool) → f.below ≡ b → Known (cond b Other (word p f.kept f.depth (pos off))) v
      by_below true is = tt
      by_below false is = by_save is (find (lies_at f.depth (pos off)) (take f.kept (saves_of p))) refl

  -- so it means that for any values at the entry that are those recorded
  pub known_means : (g : Fact) (new : Regs) (j : Holds p g a segments new) (s : Source) (v : ℕ) → Known s v → Means j.entry a.caller.sp s (v % 2 ^ 32)
  known_means g new j (Entry n) v w =
      let small = recorded_small a.caller n whole in
      let low : v % 2 ^ 32 ≡ v = omega (arith, w.1, small) in
      low ∙ w.1 ∙ sym (go (nat_le 4 n && nat_lt n 12) (n == 14) refl refl w.0)
    where
      go : (b c : Bool) → (nat_le 4 n && nat_lt n 12) ≡ b → (n == 14) ≡ c → (b || c) ≡ true → j.entry n ≡ recorded_register a.caller n
      go true c is js q = let two = and_parts (nat_le 4 n) (nat_lt n 12) is in j.saved n (leb-true 4 n two.0) (ltb-true n 12 two.1)
      go false true is js q = let same : n ≡ 14 = eqb-true n 14 js in subst (λ m. j.entry m ≡ recorded_register a.caller m) (sym same) j.link
      go false false is js q = absurd cc
  known_means g new j (SpAt n) v w = absurd w
  known_means g new j Other v w = tt

  -- a word so many bytes above sp that a fact knows holds what it says
  pub word_means : (off v : ℕ) → load_number 4 segments ((reg regs SP + off) % 2 ^ 32) ≡ Ok v → Means h.entry a.caller.sp (stack_word p f (pos off)) (v % 2 ^ 32)
  word_means off v e = known_means f regs h (stack_word p f (pos off)) v (word_known off v e)

-- ---- a low register is written, and its source

low_slot : (d : ℕ) → d < 8 → slot d ≡ d
low_slot d l = let low : nat_lt d 13 ≡ true = grind (arith, nat_tests) in ap (λ b. cond b d (cond (d == 14) 13 14)) low

far_slot : (d k : ℕ) → d < 8 → (k ≡ d → ⊥) → slot k ≡ d → ⊥
far_slot d k l n = go (nat_lt k 13) (k == 14)
  where
    go : (b c : Bool) → cond b k (cond c 13 14) ≡ d → ⊥
    go true c e = n e
    go false true e = absurd (omega (arith, l, e))
    go false false e = absurd (omega (arith, l, e))

pub source_here : (f : Fact) (d : ℕ) (s : Source) → d < 8 → length f.regs ≡ 14 → source (with_source f d s) d ≡ s
source_here f d s low long = get_or-set_same f.regs (slot d) s Other (let l : slot d < length f.regs = omega (arith, low_slot d low, low, long) in l)

pub source_there : (f : Fact) (d k : ℕ) (s : Source) → d < 8 → (k ≡ d → ⊥) → source (with_source f d s) k ≡ source f k
source_there f d k s low n = get_or-set_other f.regs (slot d) (slot k) s Other (λ e. far_slot d k low n (e ∙ low_slot d low))

pub written_holds : (p : Prologue) (f : Fact) (a : Activation) (segments : List Segment) (regs new : Regs) (d w : ℕ) (s : Source) (h : Holds p f a segments regs) → d < 8 → length regs.r ≡ 15
    → new.r ≡ set regs.r d w → Means h.entry a.caller.sp s w → Holds p (with_source f d s) a segments new
written_holds p f a segments regs new d w s h low count is means = record {
  entry = h.entry;
  saved = h.saved;
  link = h.link;
  describes = record {
    long = length-set f.regs (slot d) s ∙ h.describes.long;
    sources = λ k. elim (cases_eq k d) [
      | inl e ↦ subst (λ j. Means h.entry a.caller.sp (source (with_source f d s) j) (reg new j)) (sym e)
          (subst (λ t. Means h.entry a.caller.sp t (reg new d)) (sym (source_here f d s low h.describes.long)) (subst (λ v. Means h.entry a.caller.sp s v) (sym new_d) means))
      | inr n ↦ subst (λ t. Means h.entry a.caller.sp t (reg new k)) (sym (source_there f d k s low n)) (subst (λ v. Means h.entry a.caller.sp (source f k) v) (sym (other k n)) (h.describes.sources k))
    ];
    sp = λ b. omega (arith, same_sp, h.describes.sp b);
  };
  lower = omega (arith, same_sp, h.lower);
  saves = h.saves;
}
  where
    new_d : reg new d ≡ w
    new_d = ap (λ r. get_or r d 0) is ∙ get_or-set_same regs.r d w 0 (let l : d < length regs.r = omega (arith, low, count) in l)

    other : (k : ℕ) → (k ≡ d → ⊥) → reg new k ≡ reg regs k
    other k n = ap (λ r. get_or r k 0) is ∙ get_or-set_other regs.r d k w 0 n

    same_sp : reg new 13 ≡ reg regs 13
    same_sp = other 13 (λ e. absurd (omega (arith, low, e)))
