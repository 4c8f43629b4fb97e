-- Effects and meetings keep what each state keeps, and heights are low.
use Rattle.std.proofs.Common.{ℕ, ◌≡◌, ◌<◌, ◌≤◌, ◌+◌, ◌*◌, ◌%◌, List, [], ◌∷◌, length, Bool, true, false, not, cond, eqb, ltb, leb, ◌&&◌, ◌||◌, Option, Some, None, Ok, Err, ◌∙◌, subst, refl, arith, take, zero, suc, ℤ, pos, negsuc}
use Rattle.std.specs.Prelude.{◌+ℤ◌, ◌-ℤ◌, option_map, count_by, Result}
use Rattle.std.specs.List.{sum_by}
use Rattle.std.proofs.lemmas.Bool.{leb-true, and_parts}
use Rattle.std.proofs.lemmas.Option.{same_Some, none-some, cond_some}
use Rattle.std.proofs.lemmas.List.{length-set}
use Rattle.std.proofs.lemmas.List.Sums.{sum_by-cons}
use Rattle.thumb_core.specs.Words.{registers_of_list}
use Rattle.thumb_isa.specs.declared.instr.Instr.{Instr}
use Rattle.thumb_isa.specs.Nature.{Shifts, AddsThree, AddsEight, Combines, AddsToSp, NearPc, AtSum, AtOffset, AtSp, BranchesTo, BranchesIf, BranchesOn, Calls, ReturnsBy, Gates, Nature, Works, Idles, Derives, AddsHigh, MovesHigh, Transfers, StoresList, LoadsList, RaisesSp, LowersSp, PushesList, PopsList, Goes, nature}
use Rattle.frame_facts.specs.declared.cause.FrameCause.{FrameCause}
use Rattle.frame_facts.specs.declared.cause.FrameCause.TheVariants.{IndirectBranch, SpWrite, ReturnState}
use Rattle.frame_facts.specs.declared.facts.Source.{Source}
use Rattle.frame_facts.specs.declared.facts.Source.TheVariants.{Entry, SpAt, Other}
use Rattle.frame_facts.specs.declared.facts.Fact.{Fact}
use Rattle.frame_facts.specs.declared.facts.TheConstants.{DEEPEST}
use Rattle.frame_facts.specs.declared.saves.Save.{Save}
use Rattle.frame_facts.specs.declared.saves.Prologue.{Prologue}
use Rattle.frame_facts.specs.Facts.{source, with_source, forget_register, forget_registers, bounded_depth, sp_plus, offset_source, entry_fact, join_of, source_height, height, IsFit}
use Rattle.frame_facts.specs.Saves.{saves_within, stack_word, fact_at_depth, to_depth}
use Rattle.frame_facts.specs.Shifts.{shift_imm}
use Rattle.frame_facts.specs.Data.{add_sub_imm3, imm8, alu, copy_source, set_sp, mov_high}
use Rattle.frame_facts.specs.Access.{mem_reg, mem_imm, mem_sp}
use Rattle.frame_facts.specs.Lists.{push_to_depth, push, load_registers, ldm}
use Rattle.frame_facts.specs.Branches.{call_changes, gate_changes, is_indirect, return_to, returns_well}
use Rattle.frame_facts.specs.After.{nature_effect, effect, check_return, effect_result, after_of}
use Rattle.frame_facts.proofs.Meeting.{met_length}
use Rattle.frame_facts.proofs.Vaguer.{joined, join_is}

pub entered_fits : (count : ℕ) → IsFit count entry_fact
entered_fits count = record { depth = omega arith; kept = omega arith; long = refl }

with_fits : (n : ℕ) (f : Fact) (reg : ℕ) (s : Source) → IsFit n f → IsFit n (with_source f reg s)
with_fits n f reg s x = record { depth = x.depth; kept = x.kept; long = length-set f.regs _ s ∙ x.long }

lost_fits : (n : ℕ) (f : Fact) (reg : ℕ) → IsFit n f → IsFit n (forget_register reg f)
lost_fits n f reg x = with_fits n f reg Other x

pub clobbered_fits : (n : ℕ) (regs : List ℕ) (f : Fact) → IsFit n f → IsFit n (forget_registers regs f)
clobbered_fits n [] f x = x
clobbered_fits n (reg ∷ more) f x = clobbered_fits n more (forget_register reg f) (lost_fits n f reg x)

pub join_fits : (n : ℕ) (a b c : Fact) → IsFit n a → join_of a b ≡ Some c → IsFit n c
join_fits n a b c x h = subst (λ f. IsFit n f) (join_is a b c h).1 (let r : IsFit n (joined a b) = record { depth = x.depth; kept = omega (arith, x.kept); long = met_length a.regs b.regs ∙ x.long } in r)

-- ---- the number of saves

count_take : (q : Save → Bool) (m : ℕ) (xs : List Save) → count_by q (take m xs) ≤ m
count_take q zero xs = omega arith
count_take q (suc m) [] = omega arith
count_take q (suc m) (x ∷ xs) = omega (arith, sum_by-cons (λ y. cond (q y) 1 0) x (take m xs), one_at_most (q x), count_take q m xs)
  where
    one_at_most : (b : Bool) → cond b 1 0 ≤ 1
    one_at_most true = omega arith
    one_at_most false = omega arith

few_saves : (p : Prologue) (d : ℕ) → saves_within p d ≤ p.count
few_saves p d = count_take (λ (s : Save). leb s.offset d) p.count p.saves

within_is : (z : ℤ) (d : ℕ) → bounded_depth z ≡ Some d → d ≤ DEEPEST
within_is (pos n) d h = let w = cond_some (leb n DEEPEST) n d h in subst (λ m. m ≤ DEEPEST) w.1 (leb-true n DEEPEST w.0)
within_is (negsuc n) d h = absurd (none-some d h)

-- ---- effects

-- where a fact is given, it fits
abbrev Gives : ℕ → Option Fact → Type 0
Gives n o = (g : Fact) → o ≡ Some g → IsFit n g

always : (n : ℕ) (f : Fact) → IsFit n f → Gives n (Some f)
always n f x g e = subst (λ k. IsFit n k) (same_Some f g e) x

never : (n : ℕ) → Gives n None
never n g e = absurd (none-some g e)

pick : (n : ℕ) (b : Bool) (o u : Option Fact) → Gives n o → Gives n u → Gives n (cond b o u)
pick n true o u v w = v
pick n false o u v w = w

pick_fact : (n : ℕ) (b : Bool) (f g : Fact) → IsFit n f → IsFit n g → IsFit n (cond b f g)
pick_fact n true f g v w = v
pick_fact n false f g v w = w

mapped : (n : ℕ) (o : Option ℕ) (u : ℕ → Fact) → ((d : ℕ) → o ≡ Some d → IsFit n (u d)) → Gives n (option_map u o)
mapped n None u h = never n
mapped n (Some d) u h = always n (u d) (h d refl)

moved_fits : (p : Prologue) (d : ℕ) (f : Fact) → d ≤ DEEPEST → IsFit p.count f → IsFit p.count (fact_at_depth p d f)
moved_fits p d f l x = record { depth = l; kept = omega (arith, x.kept); long = x.long }

to_depth_fits : (p : Prologue) (z : ℤ) (f : Fact) → IsFit p.count f → Gives p.count (to_depth p z f)
to_depth_fits p z f x = mapped p.count (bounded_depth z) (λ d. fact_at_depth p d f) (λ d e. moved_fits p d f (within_is z d e) x)

pushed_fits : (p : Prologue) (at d : ℕ) (f : Fact) → d ≤ DEEPEST → IsFit p.count f → IsFit p.count (push_to_depth p at d f)
pushed_fits p at d f l x =
    pick_fact p.count (ltb at p.end) (record f { depth = d; kept = saves_within p d }) (fact_at_depth p d f)
    (record { depth = l; kept = few_saves p d; long = x.long }) (moved_fits p d f l x)

push_fits : (p : Prologue) (at list : ℕ) (f : Fact) → IsFit p.count f → Gives p.count (push p at list f)
push_fits p at list f x =
    mapped p.count (bounded_depth (pos f.depth +ℤ pos (4 * length (registers_of_list list)))) (λ d. push_to_depth p at d f)
    (λ d e. pushed_fits p at d f (within_is (pos f.depth +ℤ pos (4 * length (registers_of_list list))) d e) x)

loaded_fits : (n : ℕ) (p : Prologue) (old : Fact) (at : ℕ) (regs : List ℕ) (f : Fact) → IsFit n f → IsFit n (load_registers p old at regs f)
loaded_fits n p old at [] f x = x
loaded_fits n p old at (reg ∷ more) f x = loaded_fits n p old (at + 4) more (with_source f reg (stack_word p old (pos at))) (with_fits n f reg (stack_word p old (pos at)) x)

sp_set_fits : (p : Prologue) (s : Source) (f : Fact) → IsFit p.count f → Gives p.count (set_sp p s f)
sp_set_fits p (Entry k) f x = never p.count
sp_set_fits p Other f x = never p.count
sp_set_fits p (SpAt k) f x = λ g e.
    let w = cond_some (eqb (k % 4) 0 && leb k f.depth) (let r : Fact = record (fact_at_depth p k f) { below = false } in r) g e in
    let l : k ≤ DEEPEST = omega (arith, leb-true k f.depth (and_parts (eqb (k % 4) 0) (leb k f.depth) w.0).1, x.depth) in
    subst (λ h. IsFit p.count h) w.1 (record { depth = l; kept = (moved_fits p k f l x).kept; long = x.long })

mov_high_fits : (p : Prologue) (lowers : Bool) (d m : ℕ) (f : Fact) → IsFit p.count f → Gives p.count (mov_high p lowers d m f)
mov_high_fits p lowers d m f x =
    pick p.count (eqb d 13) (cond lowers (Some (let r : Fact = record f { below = true } in r)) (set_sp p (copy_source m f) f)) (Some (with_source f d (copy_source m f)))
    (pick p.count lowers (Some (let r : Fact = record f { below = true } in r)) (set_sp p (copy_source m f) f)
    (always p.count (record f { below = true }) (record { depth = x.depth; kept = x.kept; long = x.long })) (sp_set_fits p (copy_source m f) f x))
    (always p.count (with_source f d (copy_source m f)) (with_fits p.count f d (copy_source m f) x))

nature_effect_fits : (p : Prologue) (lowers : Bool) (at : ℕ) (n : Nature) (f : Fact) → IsFit p.count f → Gives p.count (nature_effect p lowers at n f)
nature_effect_fits p lowers at (Derives (Shifts op d m n)) f x =
    always p.count (shift_imm op d m n f) (pick_fact p.count (eqb op 0 && eqb n 0) (with_source f d (source f m)) (forget_register d f) (with_fits p.count f d (source f m) x) (lost_fits p.count f d x))
nature_effect_fits p lowers at (Works d) f x = always p.count (forget_register d f) (lost_fits p.count f d x)
nature_effect_fits p lowers at (Derives (AddsThree sub d n imm)) f x = always p.count (add_sub_imm3 sub d n imm f) (with_fits p.count f d (cond (eqb imm 0) (source f n) (offset_source sub imm (source f n))) x)
nature_effect_fits p lowers at (Derives (AddsEight op d imm)) f x =
    let t = offset_source (not (eqb op 2)) imm (source f d) in
    always p.count (imm8 op d imm f) (pick_fact p.count (eqb op 0) (forget_register d f) (cond (eqb op 1) f (with_source f d t)) (lost_fits p.count f d x) (pick_fact p.count (eqb op 1) f (with_source f d t) x (with_fits p.count f d t x)))
nature_effect_fits p lowers at (Derives (Combines op d m)) f x = always p.count (alu op d f) (pick_fact p.count (eqb op 8 || eqb op 10 || eqb op 11) f (forget_register d f) x (lost_fits p.count f d x))
nature_effect_fits p lowers at (AddsHigh d m) f x = pick p.count (eqb d 13) None (Some (forget_register d f)) (never p.count) (always p.count (forget_register d f) (lost_fits p.count f d x))
nature_effect_fits p lowers at Idles f x = always p.count f x
nature_effect_fits p lowers at (MovesHigh d m) f x = mov_high_fits p lowers d m f x
nature_effect_fits p lowers at (Goes (ReturnsBy m)) f x = always p.count f x
nature_effect_fits p lowers at (Transfers (NearPc t off)) f x = always p.count (forget_register t f) (lost_fits p.count f t x)
nature_effect_fits p lowers at (Transfers (AtSum op t n m)) f x = always p.count (mem_reg op t f) (pick_fact p.count (ltb op 3) f (forget_register t f) x (lost_fits p.count f t x))
nature_effect_fits p lowers at (Transfers (AtOffset op t n off)) f x = always p.count (mem_imm op t f) (pick_fact p.count (eqb op 1 || eqb op 3 || eqb op 5) (forget_register t f) f (lost_fits p.count f t x) x)
nature_effect_fits p lowers at (Transfers (AtSp load t off)) f x = always p.count (mem_sp p load t off f) (pick_fact p.count load (with_source f t (stack_word p f off)) f (with_fits p.count f t (stack_word p f off) x) x)
nature_effect_fits p lowers at (Derives (AddsToSp d off)) f x = always p.count (with_source f d (sp_plus f off)) (with_fits p.count f d (sp_plus f off) x)
nature_effect_fits p lowers at (RaisesSp off) f x = to_depth_fits p (pos f.depth -ℤ off) f x
nature_effect_fits p lowers at (LowersSp off) f x = to_depth_fits p (pos f.depth +ℤ off) f x
nature_effect_fits p lowers at (PushesList list) f x = push_fits p at list f x
nature_effect_fits p lowers at (PopsList list) f x = to_depth_fits p (pos f.depth -ℤ pos (4 * length (registers_of_list list))) (load_registers p f 0 (registers_of_list list) f) (loaded_fits p.count p f 0 (registers_of_list list) f x)
nature_effect_fits p lowers at (StoresList n list) f x = always p.count (forget_register n f) (lost_fits p.count f n x)
nature_effect_fits p lowers at (LoadsList n list) f x = always p.count (ldm n list f) (lost_fits p.count (forget_registers (registers_of_list list) f) n (clobbered_fits p.count (registers_of_list list) f x))
nature_effect_fits p lowers at (Goes (BranchesIf cc off)) f x = always p.count f x
nature_effect_fits p lowers at (Goes (Gates imm)) f x = always p.count (forget_registers gate_changes f) (clobbered_fits p.count gate_changes f x)
nature_effect_fits p lowers at (Goes (BranchesTo off)) f x = always p.count f x
nature_effect_fits p lowers at (Goes (Calls off)) f x = always p.count (forget_registers call_changes f) (clobbered_fits p.count call_changes f x)
nature_effect_fits p lowers at (Goes (BranchesOn nonzero n off)) f x = always p.count f x

effect_fits : (p : Prologue) (lowers : Bool) (at : ℕ) (i : Instr) (f : Fact) → IsFit p.count f → Gives p.count (effect p lowers at i f)
effect_fits p lowers at i f x = nature_effect_fits p lowers at (nature i) f x

err_ok : (e : FrameCause) (x : Fact) → (let r : Result Fact FrameCause = Err e in r) ≡ Ok x → ⊥
err_ok e x h = cc

same_ok : (x y : Fact) → (let r : Result Fact FrameCause = Ok x in r) ≡ Ok y → x ≡ y
same_ok x y h = cc

returned_is : (pc : Option Source) (f g : Fact) → check_return pc f ≡ Ok g → f ≡ g
returned_is None f g h = same_ok f g h
returned_is (Some s) f g h = split (returns_well f s) h
  where
    split : (b : Bool) → cond b (Ok f) (Err ReturnState) ≡ Ok g → f ≡ g
    split true h = same_ok f g h
    split false h = absurd (err_ok ReturnState g h)

gone_is : (pc : Option Source) (o : Option Fact) (g : Fact) → effect_result pc o ≡ Ok g → o ≡ Some g
gone_is pc None g h = absurd (err_ok SpWrite g h)
gone_is pc (Some f) g h = let e = returned_is pc f g h in subst (λ x. (let o : Option Fact = Some f in o) ≡ Some x) e refl

pub after_fits : (p : Prologue) (lowers : Bool) (at : ℕ) (i : Instr) (f g : Fact) → IsFit p.count f → after_of p lowers at i f ≡ Ok g → IsFit p.count g
after_fits p lowers at i f g x h = effect_fits p lowers at i f x g (gone_is (return_to p i f) (effect p lowers at i f) g (split (is_indirect i f) h))
  where
    split : (b : Bool) → cond b (Err IndirectBranch) (effect_result (return_to p i f) (effect p lowers at i f)) ≡ Ok g → effect_result (return_to p i f) (effect p lowers at i f) ≡ Ok g
    split true h = absurd (err_ok IndirectBranch g h)
    split false h = h

-- ---- heights

known_few : (xs : List Source) → sum_by source_height xs ≤ length xs
known_few [] = omega arith
known_few (x ∷ xs) = omega (arith, sum_by-cons source_height x xs, one_at_most x, known_few xs)
  where
    one_at_most : (s : Source) → source_height s ≤ 1
    one_at_most (Entry n) = omega arith
    one_at_most (SpAt n) = omega arith
    one_at_most Other = omega arith

pub height_low : (n : ℕ) (f : Fact) → n ≤ 16 → IsFit n f → height f < 32
unfolding height
height_low n f l x = omega (arith, l, x.kept, known_few f.regs, x.long, one_at_most f.below)
  where
    one_at_most : (b : Bool) → cond b 0 1 ≤ 1
    one_at_most true = omega arith
    one_at_most false = omega arith
