-- The effect of an instruction on a fact is at most as vague as that on a vaguer fact.
use Rattle.std.proofs.Common.{ℕ, ◌≡◌, ◌≤◌, ◌+◌, ◌*◌, ◌%◌, inl, inr, List, [], ◌∷◌, length, Bool, true, false, not, cond, eqb, ltb, leb, ◌&&◌, ◌||◌, IsTrue, Option, Some, None, Ok, Err, sym, ◌∙◌, ap, subst, refl, arith, take, zero, suc, ℤ, pos}
use Rattle.std.specs.Prelude.{◌+ℤ◌, ◌-ℤ◌, option_map, Result}
use Rattle.std.specs.Option.{option_map_or}
use Rattle.std.specs.List.{find, list_all}
use Rattle.std.specs.Int.{bit_at}
use Rattle.std.proofs.lemmas.Bool.{and_parts, and_from, false≢true, true≢false}
use Rattle.std.proofs.lemmas.Option.{same_Some, none-some}
use Rattle.thumb_core.specs.Words.{registers_of_list}
use Rattle.thumb_isa.specs.declared.instr.Instr.{Instr}
use Rattle.thumb_isa.specs.declared.instr.Instr.TheVariants.{AddHigh, MovHigh, Bx, Pop}
use Rattle.thumb_isa.specs.Nature.{Shifts, AddsThree, AddsEight, Combines, AddsToSp, NearPc, AtSum, AtOffset, AtSp, BranchesTo, BranchesIf, BranchesOn, Calls, ReturnsBy, Gates, Nature, Works, Idles, Derives, AddsHigh, MovesHigh, Transfers, StoresList, LoadsList, RaisesSp, LowersSp, PushesList, PopsList, Goes, nature}
use Rattle.frame_facts.specs.declared.cause.FrameCause.{FrameCause}
use Rattle.frame_facts.specs.declared.cause.FrameCause.TheVariants.{IndirectBranch, SpWrite, ReturnState}
use Rattle.frame_facts.specs.declared.facts.Source.{Source}
use Rattle.frame_facts.specs.declared.facts.Source.TheVariants.{Entry, SpAt, Other}
use Rattle.frame_facts.specs.declared.facts.Fact.{Fact}
use Rattle.frame_facts.specs.declared.saves.Save.{Save}
use Rattle.frame_facts.specs.declared.saves.Prologue.{Prologue}
use Rattle.frame_facts.specs.Facts.{source, with_source, forget_register, forget_registers, bounded_depth, sp_at, sp_plus, offset_source, is_entry, IsVaguer, IsAtMost}
use Rattle.frame_facts.specs.Saves.{saves_of, saves_within, lies_at, word, stack_word, fact_at_depth, to_depth}
use Rattle.frame_facts.specs.Shifts.{shift_imm}
use Rattle.frame_facts.specs.Data.{add_sub_imm3, imm8, alu, copy_source, set_sp, mov_high, add_high}
use Rattle.frame_facts.specs.Access.{mem_reg, mem_imm, mem_sp}
use Rattle.frame_facts.specs.Lists.{push_to_depth, push, load_registers, pop, ldm}
use Rattle.frame_facts.specs.Branches.{call_changes, gate_changes, preserved_by_calls, is_indirect, return_to, holds_own, returns_well}
use Rattle.frame_facts.specs.After.{nature_effect, effect, check_return, effect_result, after_of}
use Rattle.frame_facts.proofs.Vaguer.{source_vaguer, with_vaguer, lost_vaguer, clobbered_vaguer}

-- ---- words of the stack

find_take : (q : Save → Bool) (xs : List Save) (m n : ℕ) (s : Save) → m ≤ n → find q (take m xs) ≡ Some s → find q (take n xs) ≡ Some s
find_take q xs zero n s l h = absurd (none-some s h)
find_take q [] (suc m) n s l h = absurd (none-some s h)
find_take q (x ∷ xs) (suc m) zero s l h = absurd (omega (arith, l))
find_take q (x ∷ xs) (suc m) (suc n) s l h = either_way (q x) (λ e. find_take q xs m n s (omega (arith, l)) e) h
  where
    either_way : (b : Bool) → (find q (take m xs) ≡ Some s → find q (take n xs) ≡ Some s) → cond b (Some x) (find q (take m xs)) ≡ Some s → cond b (Some x) (find q (take n xs)) ≡ Some s
    either_way true rest e = e
    either_way false rest e = rest e

pub word_vaguer : (p : Prologue) (k k' at : ℕ) (offset : ℤ) → k' ≤ k → IsVaguer (word p k at offset) (word p k' at offset)
word_vaguer p k k' at offset l = split (find (lies_at at offset) (take k' (saves_of p))) refl
  where
    split : (o : Option Save) → find (lies_at at offset) (take k' (saves_of p)) ≡ o → IsVaguer (word p k at offset) (option_map_or (λ (s : Save). Entry s.reg) o Other)
    split None e = inr refl
    split (Some s) e = inl (ap (λ o. option_map_or (λ (s : Save). Entry s.reg) o Other) (find_take (lies_at at offset) (saves_of p) k' k s l e))

-- a source that nothing is said of below
guarded : (a b : Bool) (s t : Source) → (IsTrue a → IsTrue b) → IsVaguer s t → IsVaguer (cond a Other s) (cond b Other t)
guarded a true s t h v = inr refl
guarded true false s t h v = absurd (false≢true (h refl))
guarded false false s t h v = v

stack_word_vaguer : (p : Prologue) (f g : Fact) (offset : ℤ) → IsAtMost f g → IsVaguer (stack_word p f offset) (stack_word p g offset)
stack_word_vaguer p f g offset x =
    guarded f.below g.below (word p f.kept f.depth offset) (word p g.kept g.depth offset) x.below
    (subst (λ d. IsVaguer (word p f.kept f.depth offset) (word p g.kept d offset)) x.depth (word_vaguer p f.kept g.kept f.depth offset x.kept))

sp_plus_vaguer : (f g : Fact) (offset : ℤ) → IsAtMost f g → IsVaguer (sp_plus f offset) (sp_plus g offset)
sp_plus_vaguer f g offset x = guarded f.below g.below (sp_at (pos f.depth -ℤ offset)) (sp_at (pos g.depth -ℤ offset)) x.below (inl (ap (λ d. sp_at (pos d -ℤ offset)) x.depth))

moved_vaguer : (sub : Bool) (by : ℕ) (s t : Source) → IsVaguer s t → IsVaguer (offset_source sub by s) (offset_source sub by t)
moved_vaguer sub by s t (inl e) = inl (ap (offset_source sub by) e)
moved_vaguer sub by s t (inr e) = inr (ap (offset_source sub by) e)

pub entry_vaguer : (n : ℕ) (s t : Source) → IsVaguer s t → is_entry n t ≡ true → is_entry n s ≡ true
entry_vaguer n s t (inl e) h = ap (is_entry n) e ∙ h
entry_vaguer n s t (inr e) h = absurd (false≢true (sym (ap (is_entry n) e) ∙ h))

pick_source : (b : Bool) (s s' t t' : Source) → IsVaguer s s' → IsVaguer t t' → IsVaguer (cond b s t) (cond b s' t')
pick_source true s s' t t' v w = v
pick_source false s s' t t' v w = w

pick_fact : (b : Bool) (f f' g g' : Fact) → IsAtMost f f' → IsAtMost g g' → IsAtMost (cond b f g) (cond b f' g')
pick_fact true f f' g g' v w = v
pick_fact false f f' g g' v w = w

-- ---- where the effect on the vaguer fact is, the effect on the other is, and is no vaguer

abbrev pub NoVaguer : Option Fact → Option Fact → Type 0
NoVaguer o o' = (g' : Fact) → o' ≡ Some g' → (f' : Fact) × (o ≡ Some f') × IsAtMost f' g'

always : (f g : Fact) → IsAtMost f g → NoVaguer (Some f) (Some g)
always f g x g' e = (f, refl, subst (λ k. IsAtMost f k) (same_Some g g' e) x)

tested : (b : Bool) (f g : Fact) → IsAtMost f g → NoVaguer (cond b (Some f) None) (cond b (Some g) None)
tested true f g x = always f g x
tested false f g x = λ g' e. absurd (none-some g' e)

pick : (b : Bool) (o o' u u' : Option Fact) → NoVaguer o o' → NoVaguer u u' → NoVaguer (cond b o u) (cond b o' u')
pick true o o' u u' v w = v
pick false o o' u u' v w = w

mapped : (o : Option ℕ) (u v : ℕ → Fact) → ((d : ℕ) → IsAtMost (u d) (v d)) → NoVaguer (option_map u o) (option_map v o)
mapped None u v h g' e = absurd (none-some g' e)
mapped (Some d) u v h g' e = (u d, refl, subst (λ k. IsAtMost (u d) k) (same_Some (v d) g' e) (h d))

moved_to_vaguer : (p : Prologue) (d : ℕ) (f g : Fact) → IsAtMost f g → IsAtMost (fact_at_depth p d f) (fact_at_depth p d g)
moved_to_vaguer p d f g x = record { depth = refl; below = x.below; kept = omega (arith, x.kept); long = x.long; regs = x.regs }

to_depth_vaguer : (p : Prologue) (z : ℤ) (f g : Fact) → IsAtMost f g → NoVaguer (to_depth p z f) (to_depth p z g)
to_depth_vaguer p z f g x = mapped (bounded_depth z) (λ d. fact_at_depth p d f) (λ d. fact_at_depth p d g) (λ d. moved_to_vaguer p d f g x)

pushed_vaguer : (p : Prologue) (at d : ℕ) (f g : Fact) → IsAtMost f g → IsAtMost (push_to_depth p at d f) (push_to_depth p at d g)
pushed_vaguer p at d f g x =
    pick_fact (ltb at p.end) (record f { depth = d; kept = saves_within p d }) (record g { depth = d; kept = saves_within p d }) (fact_at_depth p d f) (fact_at_depth p d g)
    (record { depth = refl; below = x.below; kept = omega arith; long = x.long; regs = x.regs }) (moved_to_vaguer p d f g x)

push_vaguer : (p : Prologue) (at list : ℕ) (f g : Fact) → IsAtMost f g → NoVaguer (push p at list f) (push p at list g)
push_vaguer p at list f g x =
    subst (λ d. NoVaguer (push p at list f) (option_map (λ e. push_to_depth p at e g) (bounded_depth (pos d +ℤ pos (4 * length (registers_of_list list)))))) x.depth
    (mapped (bounded_depth (pos f.depth +ℤ pos (4 * length (registers_of_list list)))) (λ d. push_to_depth p at d f) (λ d. push_to_depth p at d g) (λ d. pushed_vaguer p at d f g x))

loaded_vaguer : (p : Prologue) (old old' : Fact) (at : ℕ) (regs : List ℕ) (f g : Fact) → IsAtMost old old' → IsAtMost f g → IsAtMost (load_registers p old at regs f) (load_registers p old' at regs g)
loaded_vaguer p old old' at [] f g y x = x
loaded_vaguer p old old' at (reg ∷ more) f g y x =
    loaded_vaguer p old old' (at + 4) more (with_source f reg (stack_word p old (pos at))) (with_source g reg (stack_word p old' (pos at))) y
    (with_vaguer f g reg (stack_word p old (pos at)) (stack_word p old' (pos at)) x (stack_word_vaguer p old old' (pos at) y))

pop_vaguer : (p : Prologue) (list : ℕ) (f g : Fact) → IsAtMost f g → NoVaguer (pop p list f) (pop p list g)
pop_vaguer p list f g x =
    subst (λ d. NoVaguer (pop p list f) (to_depth p (pos d -ℤ pos (4 * length (registers_of_list list))) (load_registers p g 0 (registers_of_list list) g))) x.depth
    (to_depth_vaguer p (pos f.depth -ℤ pos (4 * length (registers_of_list list))) (load_registers p f 0 (registers_of_list list) f) (load_registers p g 0 (registers_of_list list) g) (loaded_vaguer p f g 0 (registers_of_list list) f g x x))

sp_set_vaguer : (p : Prologue) (s t : Source) (f g : Fact) → IsVaguer s t → IsAtMost f g → NoVaguer (set_sp p s f) (set_sp p t g)
sp_set_vaguer p s (Entry n) f g v x = λ g' h. absurd (none-some g' h)
sp_set_vaguer p s Other f g v x = λ g' h. absurd (none-some g' h)
sp_set_vaguer p s (SpAt k) f g (inl e) x = subst (λ u. NoVaguer (set_sp p u f) (set_sp p (SpAt k) g)) (sym e) (at_place g.depth x.depth)
  where
    set_down : IsAtMost (record (fact_at_depth p k f) { below = false }) (record (fact_at_depth p k g) { below = false })
    set_down = let m = moved_to_vaguer p k f g x in record { depth = refl; below = λ h. h; kept = m.kept; long = x.long; regs = x.regs }

    at_place : (d : ℕ) → f.depth ≡ d
        → NoVaguer (set_sp p (SpAt k) f) (cond (eqb (k % 4) 0 && leb k d) (Some (let r : Fact = record (fact_at_depth p k g) { below = false } in r)) None)
    at_place d e = subst (λ d. NoVaguer (set_sp p (SpAt k) f) (cond (eqb (k % 4) 0 && leb k d) (Some (let r : Fact = record (fact_at_depth p k g) { below = false } in r)) None)) e
        (tested (eqb (k % 4) 0 && leb k f.depth) (record (fact_at_depth p k f) { below = false }) (record (fact_at_depth p k g) { below = false }) set_down)
sp_set_vaguer p s (SpAt k) f g (inr e) x = absurd (spat_other k e)
  where
    spat_other : (k : ℕ) → SpAt k ≡ Other → ⊥
    spat_other k e = cc

copied_vaguer : (m : ℕ) (f g : Fact) → IsAtMost f g → IsVaguer (copy_source m f) (copy_source m g)
copied_vaguer m f g x = pick_source (eqb m 13) (sp_plus f (pos 0)) (sp_plus g (pos 0)) (source f m) (source g m) (sp_plus_vaguer f g (pos 0) x) (source_vaguer f g m x)

mov_high_vaguer : (p : Prologue) (lowers : Bool) (d m : ℕ) (f g : Fact) → IsAtMost f g → NoVaguer (mov_high p lowers d m f) (mov_high p lowers d m g)
mov_high_vaguer p lowers d m f g x =
    pick (eqb d 13)
    (cond lowers (Some (let r : Fact = record f { below = true } in r)) (set_sp p (copy_source m f) f)) (cond lowers (Some (let r : Fact = record g { below = true } in r)) (set_sp p (copy_source m g) g))
    (Some (with_source f d (copy_source m f))) (Some (with_source g d (copy_source m g)))
    (pick lowers (Some (let r : Fact = record f { below = true } in r)) (Some (let r : Fact = record g { below = true } in r)) (set_sp p (copy_source m f) f) (set_sp p (copy_source m g) g)
    (always (record f { below = true }) (record g { below = true }) (record { depth = x.depth; below = λ h. h; kept = x.kept; long = x.long; regs = x.regs }))
    (sp_set_vaguer p (copy_source m f) (copy_source m g) f g (copied_vaguer m f g x) x))
    (always (with_source f d (copy_source m f)) (with_source g d (copy_source m g)) (with_vaguer f g d (copy_source m f) (copy_source m g) x (copied_vaguer m f g x)))

add_high_vaguer : (d : ℕ) (f g : Fact) → IsAtMost f g → NoVaguer (add_high d f) (add_high d g)
add_high_vaguer d f g x = pick (eqb d 13) None None (Some (forget_register d f)) (Some (forget_register d g)) (λ g' e. absurd (none-some g' e)) (always (forget_register d f) (forget_register d g) (lost_vaguer f g d x))

shift_vaguer : (op d m n : ℕ) (f g : Fact) → IsAtMost f g → IsAtMost (shift_imm op d m n f) (shift_imm op d m n g)
shift_vaguer op d m n f g x =
    pick_fact (eqb op 0 && eqb n 0) (with_source f d (source f m)) (with_source g d (source g m)) (forget_register d f) (forget_register d g)
    (with_vaguer f g d (source f m) (source g m) x (source_vaguer f g m x)) (lost_vaguer f g d x)

imm3_vaguer : (sub : Bool) (d n imm : ℕ) (f g : Fact) → IsAtMost f g → IsAtMost (add_sub_imm3 sub d n imm f) (add_sub_imm3 sub d n imm g)
imm3_vaguer sub d n imm f g x =
    with_vaguer f g d (cond (eqb imm 0) (source f n) (offset_source sub imm (source f n))) (cond (eqb imm 0) (source g n) (offset_source sub imm (source g n))) x
    (pick_source (eqb imm 0) (source f n) (source g n) (offset_source sub imm (source f n)) (offset_source sub imm (source g n)) (source_vaguer f g n x) (moved_vaguer sub imm (source f n) (source g n) (source_vaguer f g n x)))

imm8_vaguer : (op d imm : ℕ) (f g : Fact) → IsAtMost f g → IsAtMost (imm8 op d imm f) (imm8 op d imm g)
imm8_vaguer op d imm f g x =
    let s = offset_source (not (eqb op 2)) imm (source f d) in
    let t = offset_source (not (eqb op 2)) imm (source g d) in
    pick_fact (eqb op 0) (forget_register d f) (forget_register d g) (cond (eqb op 1) f (with_source f d s)) (cond (eqb op 1) g (with_source g d t)) (lost_vaguer f g d x)
    (pick_fact (eqb op 1) f g (with_source f d s) (with_source g d t) x (with_vaguer f g d s t x (moved_vaguer (not (eqb op 2)) imm (source f d) (source g d) (source_vaguer f g d x))))

or_lost : (b : Bool) (d : ℕ) (f g : Fact) → IsAtMost f g → IsAtMost (cond b f (forget_register d f)) (cond b g (forget_register d g))
or_lost b d f g x = pick_fact b f g (forget_register d f) (forget_register d g) x (lost_vaguer f g d x)

lost_or : (b : Bool) (d : ℕ) (f g : Fact) → IsAtMost f g → IsAtMost (cond b (forget_register d f) f) (cond b (forget_register d g) g)
lost_or b d f g x = pick_fact b (forget_register d f) (forget_register d g) f g (lost_vaguer f g d x) x

mem_sp_vaguer : (p : Prologue) (load : Bool) (t : ℕ) (off : ℤ) (f g : Fact) → IsAtMost f g → IsAtMost (mem_sp p load t off f) (mem_sp p load t off g)
mem_sp_vaguer p load t off f g x =
    pick_fact load (with_source f t (stack_word p f off)) (with_source g t (stack_word p g off)) f g (with_vaguer f g t (stack_word p f off) (stack_word p g off) x (stack_word_vaguer p f g off x)) x

nature_effect_vaguer : (p : Prologue) (lowers : Bool) (at : ℕ) (n : Nature) (f g : Fact) → IsAtMost f g → NoVaguer (nature_effect p lowers at n f) (nature_effect p lowers at n g)
nature_effect_vaguer p lowers at (Derives (Shifts op d m n)) f g x = always (shift_imm op d m n f) (shift_imm op d m n g) (shift_vaguer op d m n f g x)
nature_effect_vaguer p lowers at (Works d) f g x = always (forget_register d f) (forget_register d g) (lost_vaguer f g d x)
nature_effect_vaguer p lowers at (Derives (AddsThree sub d n imm)) f g x = always (add_sub_imm3 sub d n imm f) (add_sub_imm3 sub d n imm g) (imm3_vaguer sub d n imm f g x)
nature_effect_vaguer p lowers at (Derives (AddsEight op d imm)) f g x = always (imm8 op d imm f) (imm8 op d imm g) (imm8_vaguer op d imm f g x)
nature_effect_vaguer p lowers at (Derives (Combines op d m)) f g x = always (alu op d f) (alu op d g) (or_lost (eqb op 8 || eqb op 10 || eqb op 11) d f g x)
nature_effect_vaguer p lowers at (AddsHigh d m) f g x = add_high_vaguer d f g x
nature_effect_vaguer p lowers at Idles f g x = always f g x
nature_effect_vaguer p lowers at (MovesHigh d m) f g x = mov_high_vaguer p lowers d m f g x
nature_effect_vaguer p lowers at (Goes (ReturnsBy m)) f g x = always f g x
nature_effect_vaguer p lowers at (Transfers (NearPc t off)) f g x = always (forget_register t f) (forget_register t g) (lost_vaguer f g t x)
nature_effect_vaguer p lowers at (Transfers (AtSum op t n m)) f g x = always (mem_reg op t f) (mem_reg op t g) (or_lost (ltb op 3) t f g x)
nature_effect_vaguer p lowers at (Transfers (AtOffset op t n off)) f g x = always (mem_imm op t f) (mem_imm op t g) (lost_or (eqb op 1 || eqb op 3 || eqb op 5) t f g x)
nature_effect_vaguer p lowers at (Transfers (AtSp load t off)) f g x = always (mem_sp p load t off f) (mem_sp p load t off g) (mem_sp_vaguer p load t off f g x)
nature_effect_vaguer p lowers at (Derives (AddsToSp d off)) f g x = always (with_source f d (sp_plus f off)) (with_source g d (sp_plus g off)) (with_vaguer f g d (sp_plus f off) (sp_plus g off) x (sp_plus_vaguer f g off x))
nature_effect_vaguer p lowers at (RaisesSp off) f g x = subst (λ d. NoVaguer (to_depth p (pos f.depth -ℤ off) f) (to_depth p (pos d -ℤ off) g)) x.depth (to_depth_vaguer p (pos f.depth -ℤ off) f g x)
nature_effect_vaguer p lowers at (LowersSp off) f g x = subst (λ d. NoVaguer (to_depth p (pos f.depth +ℤ off) f) (to_depth p (pos d +ℤ off) g)) x.depth (to_depth_vaguer p (pos f.depth +ℤ off) f g x)
nature_effect_vaguer p lowers at (PushesList list) f g x = push_vaguer p at list f g x
nature_effect_vaguer p lowers at (PopsList list) f g x = pop_vaguer p list f g x
nature_effect_vaguer p lowers at (StoresList n list) f g x = always (forget_register n f) (forget_register n g) (lost_vaguer f g n x)
nature_effect_vaguer p lowers at (LoadsList n list) f g x = always (ldm n list f) (ldm n list g) (lost_vaguer (forget_registers (registers_of_list list) f) (forget_registers (registers_of_list list) g) n (clobbered_vaguer (registers_of_list list) f g x))
nature_effect_vaguer p lowers at (Goes (BranchesIf cc off)) f g x = always f g x
nature_effect_vaguer p lowers at (Goes (Gates imm)) f g x = always (forget_registers gate_changes f) (forget_registers gate_changes g) (clobbered_vaguer gate_changes f g x)
nature_effect_vaguer p lowers at (Goes (BranchesTo off)) f g x = always f g x
nature_effect_vaguer p lowers at (Goes (Calls off)) f g x = always (forget_registers call_changes f) (forget_registers call_changes g) (clobbered_vaguer call_changes f g x)
nature_effect_vaguer p lowers at (Goes (BranchesOn nonzero n off)) f g x = always f g x

pub effect_vaguer : (p : Prologue) (lowers : Bool) (at : ℕ) (i : Instr) (f g : Fact) → IsAtMost f g → NoVaguer (effect p lowers at i f) (effect p lowers at i g)
effect_vaguer p lowers at i f g x = nature_effect_vaguer p lowers at (nature i) f g x

-- ---- branches and returns

clear_of : (b : Bool) → not b ≡ false → b ≡ true
clear_of true h = refl
clear_of false h = absurd (true≢false h)

pub indirect_vaguer : (i : Instr) (f g : Fact) → IsAtMost f g → is_indirect i g ≡ false → is_indirect i f ≡ false
indirect_vaguer (MovHigh d m) f g x h = h
indirect_vaguer (AddHigh d m) f g x h = h
indirect_vaguer (Bx m) f g x h = ap not (entry_vaguer 14 (source f m) (source g m) (source_vaguer f g m x) (clear_of (is_entry 14 (source g m)) h))
indirect_vaguer i f g x h = refl

abbrev PcVaguer : Option Source → Option Source → Type 0
PcVaguer None None = Unit {0}
PcVaguer (Some s) (Some t) = IsVaguer s t
PcVaguer None (Some t) = ⊥
PcVaguer (Some s) None = ⊥

return_vaguer : (p : Prologue) (i : Instr) (f g : Fact) → IsAtMost f g → PcVaguer (return_to p i f) (return_to p i g)
return_vaguer p (Bx m) f g x = source_vaguer f g m x
return_vaguer p (Pop list) f g x = popped_vaguer (eqb (bit_at list 15) 1)
  where
    popped_vaguer : (b : Bool) → PcVaguer (cond b (Some (stack_word p f (pos (4 * length (registers_of_list list)) -ℤ pos 4))) None) (cond b (Some (stack_word p g (pos (4 * length (registers_of_list list)) -ℤ pos 4))) None)
    popped_vaguer true = stack_word_vaguer p f g (pos (4 * length (registers_of_list list)) -ℤ pos 4) x
    popped_vaguer false = tt
return_vaguer p i f g x = tt

pub all_follow : (q r : ℕ → Bool) (xs : List ℕ) → ((k : ℕ) → r k ≡ true → q k ≡ true) → list_all r xs ≡ true → list_all q xs ≡ true
all_follow q r [] h e = refl
all_follow q r (k ∷ xs) h e = let w = and_parts (r k) (list_all r xs) e in and_from (q k) (list_all q xs) (h k w.0) (all_follow q r xs h w.1)

not_below : (a b : Bool) → (IsTrue a → IsTrue b) → not b ≡ true → not a ≡ true
not_below a true h e = absurd (false≢true e)
not_below true false h e = absurd (false≢true (h refl))
not_below false false h e = refl

pub returns_vaguer : (f g : Fact) (s t : Source) → IsAtMost f g → IsVaguer s t → returns_well g t ≡ true → returns_well f s ≡ true
returns_vaguer f g s t x v h =
    let a = and_parts (eqb g.depth 0 && not g.below && list_all (holds_own g) preserved_by_calls) (is_entry 14 t) h in
    let b = and_parts (eqb g.depth 0 && not g.below) (list_all (holds_own g) preserved_by_calls) a.0 in
    let c = and_parts (eqb g.depth 0) (not g.below) b.0 in
    and_from (eqb f.depth 0 && not f.below && list_all (holds_own f) preserved_by_calls) (is_entry 14 s)
    (and_from (eqb f.depth 0 && not f.below) (list_all (holds_own f) preserved_by_calls)
    (and_from (eqb f.depth 0) (not f.below) (ap (λ d. eqb d 0) x.depth ∙ c.0) (not_below f.below g.below x.below c.1))
    (all_follow (holds_own f) (holds_own g) preserved_by_calls (λ k e. entry_vaguer k (source f k) (source g k) (source_vaguer f g k x) e) b.1))
    (entry_vaguer 14 s t v a.1)

err_ok : {X : Type 0} (e : FrameCause) (x : X) → Err e ≡ Ok x → ⊥
err_ok e x h = cc

same_ok : (x y : Fact) → (let r : Result Fact FrameCause = Ok x in r) ≡ Ok y → x ≡ y
same_ok x y h = cc

returned_vaguer : (pc pc' : Option Source) (f g k : Fact) → PcVaguer pc pc' → IsAtMost f g → check_return pc' g ≡ Ok k → (check_return pc f ≡ Ok f) × (g ≡ k)
returned_vaguer None None f g k v x h = (refl, same_ok g k h)
returned_vaguer None (Some t) f g k v x h = absurd v
returned_vaguer (Some s) None f g k v x h = absurd v
returned_vaguer (Some s) (Some t) f g k v x h = split (returns_well g t) refl h
  where
    split : (b : Bool) → returns_well g t ≡ b → cond b (Ok g) (Err ReturnState) ≡ Ok k → (cond (returns_well f s) (Ok f) (Err ReturnState) ≡ Ok f) × (g ≡ k)
    split true e h = (ap (λ (b : Bool). cond b (let r : Result Fact FrameCause = Ok f in r) (Err ReturnState)) (returns_vaguer f g s t x v e), same_ok g k h)
    split false e h = absurd (err_ok ReturnState k h)

gone_vaguer : (pc pc' : Option Source) (o o' : Option Fact) (k : Fact) → PcVaguer pc pc' → NoVaguer o o' → effect_result pc' o' ≡ Ok k → (f' : Fact) × (effect_result pc o ≡ Ok f') × IsAtMost f' k
gone_vaguer pc pc' o None k v n h = absurd (err_ok SpWrite k h)
gone_vaguer pc pc' o (Some g) k v n h =
    let w = n g refl in
    let r = returned_vaguer pc pc' w.0 g k v w.2 h in
    (w.0, ap (effect_result pc) w.1 ∙ r.0, subst (λ x. IsAtMost w.0 x) r.1 w.2)

-- where an instruction shows no cause on a fact, it shows none on a fact that is less vague, and the fact after is no vaguer
pub after_vaguer : (p : Prologue) (lowers : Bool) (at : ℕ) (i : Instr) (f g k : Fact) → IsAtMost f g → after_of p lowers at i g ≡ Ok k → (f' : Fact) × (after_of p lowers at i f ≡ Ok f') × IsAtMost f' k
after_vaguer p lowers at i f g k x h = split (is_indirect i g) refl h
  where
    split : (b : Bool) → is_indirect i g ≡ b → cond b (Err IndirectBranch) (effect_result (return_to p i g) (effect p lowers at i g)) ≡ Ok k → (f' : Fact) × (after_of p lowers at i f ≡ Ok f') × IsAtMost f' k
    split true e h = absurd (err_ok IndirectBranch k h)
    split false e h =
        let w = gone_vaguer (return_to p i f) (return_to p i g) (effect p lowers at i f) (effect p lowers at i g) k (return_vaguer p i f g x) (effect_vaguer p lowers at i f g x) h in
        (w.0, ap (λ (b : Bool). cond b (let r : Result Fact FrameCause = Err IndirectBranch in r) (effect_result (return_to p i f) (effect p lowers at i f))) (indirect_vaguer i f g x e) ∙ w.1, w.2)
