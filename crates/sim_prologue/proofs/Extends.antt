-- The saves of a prologue are those that its run has found so far, and further ones that lie deeper: so the effects of its instructions are the
-- same by the whole prologue as by the part that the run has come to.
use Rattle.std.proofs.Common.{ℕ, ◌<◌, List, [], ◌∷◌, ◌≤◌, arith, ◌++◌, Bool, nat_le, ◌≡◌, ◌+◌, cond, ◌∙◌, ap, refl, sym, length, take, ℤ, ◌*◌, ◌==◌, ◌&&◌, not, true, false, nat_lt, Option, Some, None, min, pos, Err, zero, suc, set, subst, append-nil, ◌%◌, ◌^◌}
use Rattle.std.specs.List.{count_by}
use Rattle.std.proofs.lemmas.Bool.{lt-leb, and_parts, ltb-true}
use Rattle.std.proofs.lemmas.List.Sums.{sum_by-cons}
use Rattle.std.specs.Prelude.{find, option_map, ◌+ℤ◌, slice_set, option_and_then}
use Rattle.std.specs.Option.{option_map_or}
use Rattle.std.proofs.lemmas.List.{take-append-le, length-take, length-set, append_assoc}
use Rattle.std.proofs.lemmas.Option.{same_Some}
use Rattle.frame_facts.specs.declared.saves.Save.{Save}
use Rattle.frame_facts.specs.declared.saves.Prologue.{Prologue}
use Rattle.frame_facts.specs.Saves.{saves_of, saves_within, lies_at, word, fact_at_depth}
use Rattle.frame_facts.specs.declared.facts.Source.TheVariants.{Entry, Other, SpAt}
use Rattle.thumb_isa.specs.declared.instr.Instr.{Instr}
use Rattle.thumb_isa.specs.declared.instr.Instr.TheVariants.{Push}
use Rattle.thumb_isa.specs.Nature.{NearPc, AtSum, AtOffset, AtSp, Nature, Works, Idles, Derives, AddsHigh, MovesHigh, Transfers, StoresList, LoadsList, RaisesSp, LowersSp, PushesList, PopsList, Goes, nature}
use Rattle.thumb_core.specs.Words.{registers_of_list}
use Rattle.frame_facts.specs.declared.facts.Fact.{Fact}
use Rattle.frame_facts.specs.declared.facts.Source.{Source}
use Rattle.frame_facts.specs.Branches.{nature_is_indirect, nature_returns_to}
use Rattle.frame_facts.specs.After.{nature_effect, effect, after_of, effect_result}
use Rattle.frame_facts.specs.Facts.{bounded_depth, with_source, source}
use Rattle.frame_facts.specs.Lists.{push_to_depth}
use Rattle.frame_facts.specs.Data.{set_sp, copy_source}
use Rattle.frame_facts.specs.Prologues.{nature_may_stand, may_stand, is_callers, with_save, save_of_word, with_push_saves, prologue_after, run_with_end, with_instruction}
use Rattle.frame_facts.specs.declared.cause.FrameCause.TheVariants.{IndirectBranch}
use Rattle.frame_facts.specs.declared.straight.Straight.{Straight}
use Rattle.frame_facts.specs.declared.saves.TheConstants.{MOST_SAVES}
use Rattle.frame_facts.specs.declared.facts.TheConstants.{DEEPEST}

-- ---- deeper saves

abbrev pub Above : ℕ → List Save → Type 0
Above d [] = Unit {0}
Above d (v ∷ more) = (d < v.offset) × Above d more

pub above_less : (d e : ℕ) (vs : List Save) → e ≤ d → Above d vs → Above e vs
above_less d e [] l h = tt
above_less d e (v ∷ more) l h = (omega (arith, h.0, l), above_less d e more l h.1)

pub above_both : (d : ℕ) (xs ys : List Save) → Above d xs → Above d ys → Above d (xs ++ ys)
above_both d [] ys h k = k
above_both d (v ∷ more) ys h k = (h.0, above_both d more ys h.1 k)

-- those that lie deeper don't count
abbrev is_within : ℕ → Save → Bool
is_within d v = nat_le v.offset d

none_within : (d : ℕ) (ys : List Save) → Above d ys → count_by (λ (s : Save). nat_le s.offset d) ys ≡ 0
none_within d [] h = refl
none_within d (v ∷ more) h = sum_by-cons (λ (s : Save). cond (nat_le s.offset d) 1 0) v more ∙ ap (λ b. cond b 1 0 + count_by (λ (s : Save). nat_le s.offset d) more) (lt-leb v.offset d h.0)
    ∙ ap (λ n. 0 + n) (none_within d more h.1) ∙ omega arith

pub same_within : (d : ℕ) (xs ys : List Save) → Above d ys → count_by (λ (s : Save). nat_le s.offset d) (xs ++ ys) ≡ count_by (λ (s : Save). nat_le s.offset d) xs
same_within d [] ys h = none_within d ys h
same_within d (v ∷ more) ys h =
    sum_by-cons (λ (s : Save). cond (nat_le s.offset d) 1 0) v (more ++ ys) ∙ ap (λ n. cond (nat_le v.offset d) 1 0 + n) (same_within d more ys h)
    ∙ sym (sum_by-cons (λ (s : Save). cond (nat_le s.offset d) 1 0) v more)

-- ---- a prologue with deeper saves

-- the saves of P are those of q, and others that lie deeper than d
pub record Deeper (q P : Prologue) (d : ℕ) : Type 0 where
  pub newer : List Save
  pub are : saves_of P ≡ saves_of q ++ newer
  pub above : Above d newer

pub within_same : (q P : Prologue) (d e : ℕ) → e ≤ d → Deeper q P d → saves_within P e ≡ saves_within q e
within_same q P d e l h = ap (count_by (λ (s : Save). nat_le s.offset e)) h.are ∙ same_within e (saves_of q) h.newer (above_less d e h.newer l h.above)

word_same : (q P : Prologue) (d kept at : ℕ) (off : ℤ) → kept ≤ length (saves_of q) → Deeper q P d → word P kept at off ≡ word q kept at off
word_same q P d kept at off l h =
    ap (λ (vs : List Save). option_map_or (λ (s : Save). Entry s.reg) (find (lies_at at off) vs) Other) (ap (take kept) h.are ∙ take-append-le kept (saves_of q) h.newer l)

-- ---- effects

-- by q an instruction that may stand in a prologue gives g; it gives the same by P
nature_effect_same : (q P : Prologue) (at : ℕ) (n : Nature) (f g : Fact) → nature_may_stand n ≡ true → f.kept ≤ length (saves_of q) → nat_lt at q.end ≡ true → nat_lt at P.end ≡ true
    → nature_effect q false at n f ≡ Some g → Deeper q P g.depth → nature_effect P false at n f ≡ Some g
nature_effect_same q P at (Derives v) f g may k a b e h = e
nature_effect_same q P at (Works d) f g may k a b e h = e
nature_effect_same q P at (AddsHigh d m) f g may k a b e h = e
nature_effect_same q P at Idles f g may k a b e h = e
nature_effect_same q P at (MovesHigh d m) f g may k a b e h = go (d == 13) may e
  where
    go : (s : Bool) → (not s && not (d == 15)) ≡ true → cond s (set_sp q (copy_source m f) f) (Some (with_source f d (copy_source m f))) ≡ Some g → cond s (set_sp P (copy_source m f) f) (Some (with_source f d (copy_source m f))) ≡ Some g
    go true x y = absurd cc
    go false x y = y
nature_effect_same q P at (Goes way) f g may k a b e h = absurd cc
nature_effect_same q P at (Transfers (NearPc t off)) f g may k a b e h = e
nature_effect_same q P at (Transfers (AtSum op t n m)) f g may k a b e h = e
nature_effect_same q P at (Transfers (AtOffset op t n off)) f g may k a b e h = e
nature_effect_same q P at (Transfers (AtSp load t off)) f g may k a b e h =
    ap (λ (s : Source). Some (cond load (with_source f t s) f)) (same f.below) ∙ e
  where
    same : (b : Bool) → cond b Other (word P f.kept f.depth off) ≡ cond b Other (word q f.kept f.depth off)
    same true = refl
    same false = word_same q P g.depth f.kept f.depth off k h
nature_effect_same q P at (RaisesSp off) f g may k a b e h = absurd cc
nature_effect_same q P at (LowersSp off) f g may k a b e h = go (bounded_depth (pos f.depth +ℤ off)) e
  where
    go : (o : Option ℕ) → option_map (λ d. fact_at_depth q d f) o ≡ Some g → option_map (λ d. fact_at_depth P d f) o ≡ Some g
    go None x = absurd cc
    go (Some d) x =
        let is : fact_at_depth q d f ≡ g = same_Some (fact_at_depth q d f) g x in
        let depth : d ≡ g.depth = ap (λ (y : Fact). y.depth) is in
        ap (λ n. Some (let y : Fact = record f { depth = d; kept = min f.kept n } in y)) (within_same q P g.depth d (omega (arith, depth)) h) ∙ x
nature_effect_same q P at (PushesList list) f g may k a b e h = go (bounded_depth (pos f.depth +ℤ pos (4 * length (registers_of_list list)))) e
  where
    to_q : (d : ℕ) → push_to_depth q at d f ≡ (let y : Fact = record f { depth = d; kept = saves_within q d } in y)
    to_q d = ap (λ t. cond t (let y : Fact = record f { depth = d; kept = saves_within q d } in y) (fact_at_depth q d f)) a

    to_P : (d : ℕ) → push_to_depth P at d f ≡ (let y : Fact = record f { depth = d; kept = saves_within P d } in y)
    to_P d = ap (λ t. cond t (let y : Fact = record f { depth = d; kept = saves_within P d } in y) (fact_at_depth P d f)) b

    go : (o : Option ℕ) → option_map (λ d. push_to_depth q at d f) o ≡ Some g → option_map (λ d. push_to_depth P at d f) o ≡ Some g
    go None x = absurd cc
    go (Some d) x =
        let is : (let y : Fact = record f { depth = d; kept = saves_within q d } in y) ≡ g = sym (to_q d) ∙ same_Some (push_to_depth q at d f) g x in
        let depth : d ≡ g.depth = ap (λ (y : Fact). y.depth) is in
        ap (λ (y : Fact). Some y) (to_P d ∙ ap (λ n. let y : Fact = record f { depth = d; kept = n } in y) (within_same q P g.depth d (omega (arith, depth)) h) ∙ is)
nature_effect_same q P at (PopsList list) f g may k a b e h = absurd cc
nature_effect_same q P at (StoresList n list) f g may k a b e h = e
nature_effect_same q P at (LoadsList n list) f g may k a b e h = e

pub effect_same : (q P : Prologue) (at : ℕ) (i : Instr) (f g : Fact) → may_stand i ≡ true → f.kept ≤ length (saves_of q) → nat_lt at q.end ≡ true → nat_lt at P.end ≡ true
    → effect q false at i f ≡ Some g → Deeper q P g.depth → effect P false at i f ≡ Some g
effect_same q P at i f g may k a b e h = nature_effect_same q P at (nature i) f g may k a b e h

-- an instruction that may stand there shows no cause but by its effect, and lowers sp by no unknown amount: none writes sp by a MOV
nature_plain_after : (p : Prologue) (lowers : Bool) (at : ℕ) (n : Nature) (f : Fact) → nature_may_stand n ≡ true
    → cond (nature_is_indirect n f) (Err IndirectBranch) (effect_result (nature_returns_to p n f) (nature_effect p lowers at n f)) ≡ effect_result None (nature_effect p false at n f)
nature_plain_after p lowers at (AddsHigh d m) f may = go (d == 15) may
  where
    go : (b : Bool) → (not (is_callers d) && not (d == 13) && not b) ≡ true → cond b (Err IndirectBranch) (effect_result None (nature_effect p false at (AddsHigh d m) f)) ≡ effect_result None (nature_effect p false at (AddsHigh d m) f)
    go true x = absurd (let two = and_parts (not (is_callers d) && not (d == 13)) false x in cc)
    go false x = refl
nature_plain_after p lowers at (MovesHigh d m) f may = go (d == 13) (d == 15) may
  where
    go : (b c : Bool) → (not b && not c) ≡ true
        → cond c (Err IndirectBranch) (effect_result None (cond b (cond lowers (Some (let y : Fact = record f { below = true } in y)) (set_sp p (copy_source m f) f)) (Some (with_source f d (copy_source m f)))))
        ≡ effect_result None (cond b (set_sp p (copy_source m f) f) (Some (with_source f d (copy_source m f))))
    go true c x = absurd cc
    go false true x = absurd cc
    go false false x = refl
nature_plain_after p lowers at (Goes b) f may = absurd cc
nature_plain_after p lowers at (PopsList list) f may = absurd cc
nature_plain_after p lowers at (Derives v) f may = refl
nature_plain_after p lowers at (Works d) f may = refl
nature_plain_after p lowers at Idles f may = refl
nature_plain_after p lowers at (Transfers t) f may = refl
nature_plain_after p lowers at (RaisesSp off) f may = refl
nature_plain_after p lowers at (LowersSp off) f may = refl
nature_plain_after p lowers at (PushesList list) f may = refl
nature_plain_after p lowers at (StoresList n list) f may = refl
nature_plain_after p lowers at (LoadsList n list) f may = refl

pub plain_after : (p : Prologue) (lowers : Bool) (at : ℕ) (i : Instr) (f : Fact) → may_stand i ≡ true
    → after_of p lowers at i f ≡ effect_result None (effect p false at i f)
plain_after p lowers at i f may = nature_plain_after p lowers at (nature i) f may

-- ---- a run, instruction by instruction

-- what a run keeps of its prologue: room for sixteen saves, of which it has so many
pub record IsGood (run : Straight) : Type 0 where
  pub long : length run.prologue.saves ≡ 16
  pub few : run.prologue.count ≤ 16
  pub kept : run.fact.kept ≤ run.prologue.count

pub length_saves : (p : Prologue) → length p.saves ≡ 16 → p.count ≤ 16 → length (saves_of p) ≡ p.count
length_saves p long few = length-take p.count p.saves ∙ omega (arith, long, few)

pub take_last : (n : ℕ) (xs : List Save) (v : Save) → n < length xs → take (n + 1) (set xs n v) ≡ take n xs ++ (v ∷ [])
take_last n [] v l = absurd (omega (arith, l))
take_last zero (x ∷ xs) v l = refl
take_last (suc n) (x ∷ xs) v l = ap (λ k. take k (set (x ∷ xs) (suc n) v)) (let e : suc n + 1 ≡ suc (n + 1) = omega arith in e) ∙ ap (λ ys. x ∷ ys) (take_last n xs v (omega (arith, l)))

-- with further saves, all deeper
record Grown (p q : Prologue) (d : ℕ) : Type 0 where
  pub newer : List Save
  pub are : saves_of q ≡ saves_of p ++ newer
  pub above : Above d newer
  pub long : length q.saves ≡ 16
  pub few : q.count ≤ 16
  pub more : p.count ≤ q.count
  pub end : q.end ≡ p.end

one_grown : (p q r : Prologue) (d offset : ℕ) (s : Option Save) → Grown p q d → ((v : Save) → s ≡ Some v → v.offset ≡ offset) → d < offset → with_save s q ≡ Some r → Grown p r d
one_grown p q r d offset None g h l e = subst (λ x. Grown p x d) (same_Some q r e) g
one_grown p q r d offset (Some v) g h l e = go (nat_lt q.count MOST_SAVES) refl e
  where
    next : Prologue
    next = record q { count = q.count + 1; saves = slice_set q.saves q.count v }

    go : (b : Bool) → nat_lt q.count MOST_SAVES ≡ b → cond b (Some next) None ≡ Some r → Grown p r d
    go false is x = absurd cc
    go true is x =
        let less : q.count < 16 = ltb-true q.count MOST_SAVES is in
        let same_offset = h v refl in
        subst (λ y. Grown p y d) (same_Some next r x) (record {
          newer = g.newer ++ (v ∷ []);
          are = take_last q.count q.saves v (omega (arith, less, g.long)) ∙ ap (λ vs. vs ++ (v ∷ [])) g.are ∙ append_assoc (saves_of p) g.newer (v ∷ []);
          above = above_both d g.newer (v ∷ []) g.above (omega (arith, same_offset, l), tt);
          long = length-set q.saves q.count v ∙ g.long;
          few = omega (arith, less);
          more = omega (arith, g.more);
          end = g.end;
        })

saved_offset : (offset : ℕ) (s : Source) (v : Save) → save_of_word offset s ≡ Some v → v.offset ≡ offset
saved_offset offset (Entry k) v e = go (is_callers k) e
  where
    go : (b : Bool) → cond b (Some (let x : Save = record { reg = k; offset = offset } in x)) None ≡ Some v → v.offset ≡ offset
    go true x = ap (λ (y : Save). y.offset) (sym (same_Some (record { reg = k; offset = offset }) v x))
    go false x = absurd cc
saved_offset offset (SpAt at) v e = absurd cc
saved_offset offset Other v e = absurd cc

pushed_grown : (p q : Prologue) (f : Fact) (regs : List ℕ) → length p.saves ≡ 16 → p.count ≤ 16 → with_push_saves p f regs ≡ Some q → Grown p q f.depth
pushed_grown p q f [] long few e =
    subst (λ x. Grown p x f.depth) (same_Some p q e) (record { newer = []; are = sym (append-nil (saves_of p)); above = tt; long = long; few = few; more = omega arith; end = refl })
pushed_grown p q f (reg ∷ more) long few e = go (with_push_saves p f more) refl e (λ r w. pushed_grown p r f more long few w)
  where
    offset : ℕ
    offset = f.depth + 4 * length (reg ∷ more)

    go : (o : Option Prologue) → with_push_saves p f more ≡ o → option_and_then (with_save (save_of_word (f.depth + 4 * length (reg ∷ more)) (source f reg))) o ≡ Some q
        → ((r : Prologue) → with_push_saves p f more ≡ Some r → Grown p r f.depth) → Grown p q f.depth
    go None is x each = absurd cc
    go (Some r) is x each =
        one_grown p r q f.depth (f.depth + 4 * length (reg ∷ more)) (save_of_word (f.depth + 4 * length (reg ∷ more)) (source f reg)) (each r is)
        (λ v w. saved_offset (f.depth + 4 * length (reg ∷ more)) (source f reg) v w) (omega arith) x

-- an instruction that a run takes: it may stand there, its saves are added, and its effect is that by the prologue up to its end
pub record Step (run next : Straight) (i : Instr) (size : ℕ) : Type 0 where
  pub may : may_stand i ≡ true
  pub newer : List Save
  pub are : saves_of next.prologue ≡ saves_of run.prologue ++ newer
  pub above : Above run.fact.depth newer
  pub long : length next.prologue.saves ≡ 16
  pub few : next.prologue.count ≤ 16
  pub more : run.prologue.count ≤ next.prologue.count
  pub end : next.prologue.end ≡ (run.prologue.end + size) % 2 ^ 32
  pub does : effect next.prologue false run.prologue.end i run.fact ≡ Some next.fact

pub step_of_run : (run next : Straight) (i : Instr) (size : ℕ) → IsGood run → with_instruction run i size ≡ Some next → Step run next i size
step_of_run run next i size good e = by_test (nat_le run.fact.depth DEEPEST && may_stand i) refl e
  where
    by_effect : (q : Prologue) (g : Grown run.prologue q run.fact.depth) → may_stand i ≡ true → (o : Option Fact)
        → (let r : Prologue = record q { end = (run.prologue.end + size) % 2 ^ 32 } in effect r false run.prologue.end i run.fact) ≡ o
        → option_map (λ f. let x : Straight = record { fact = f; prologue = (let r : Prologue = record q { end = (run.prologue.end + size) % 2 ^ 32 } in r) } in x) o ≡ Some next → Step run next i size
    by_effect q g may None is x = absurd cc
    by_effect q g may (Some f) is x =
        subst (λ y. Step run y i size) (same_Some (let y : Straight = record { fact = f; prologue = (let r : Prologue = record q { end = (run.prologue.end + size) % 2 ^ 32 } in r) } in y) next x)
        (record { may = may; newer = g.newer; are = g.are; above = g.above; long = g.long; few = g.few; more = g.more; end = refl; does = is })

    by_pushed : may_stand i ≡ true → (o : Option Prologue) → ((q : Prologue) → o ≡ Some q → Grown run.prologue q run.fact.depth) → option_and_then (run_with_end run i size) o ≡ Some next → Step run next i size
    by_pushed may None h x = absurd cc
    by_pushed may (Some q) h x = by_effect q (h q refl) may (let r : Prologue = record q { end = (run.prologue.end + size) % 2 ^ 32 } in effect r false run.prologue.end i run.fact) refl x

    none_new : (q : Prologue) → Some run.prologue ≡ Some q → Grown run.prologue q run.fact.depth
    none_new q x = subst (λ y. Grown run.prologue y run.fact.depth) (same_Some run.prologue q x)
        (record { newer = []; are = sym (append-nil (saves_of run.prologue)); above = tt; long = good.long; few = good.few; more = omega arith; end = refl })

    grown : (i : Instr) (q : Prologue) → prologue_after run i ≡ Some q → Grown run.prologue q run.fact.depth
    grown (Push list) q x = pushed_grown run.prologue q run.fact (registers_of_list list) good.long good.few x
    grown i q x = none_new q x

    by_test : (b : Bool) → (nat_le run.fact.depth DEEPEST && may_stand i) ≡ b → cond b (option_and_then (run_with_end run i size) (prologue_after run i)) None ≡ Some next → Step run next i size
    by_test false is x = absurd cc
    by_test true is x = by_pushed (and_parts (nat_le run.fact.depth DEEPEST) (may_stand i) is).1 (prologue_after run i) (grown i) x
