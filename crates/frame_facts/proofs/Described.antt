-- The instructions that work on registers keep what a fact says of them.
use Rattle.std.proofs.Common.{ℕ, ◌≡◌, ◌≢◌, ◌<◌, ◌≤◌, ◌+◌, ◌-◌, ◌%◌, ◌^◌, length, Bool, true, false, not, cond, eqb, ltb, leb, ◌&&◌, ◌||◌, Option, Some, None, sym, ◌∙◌, ap, subst, refl, ⊎_elim, arith, set, get_or, ℤ, pos, negsuc, ◌⊎◌, List, [], ◌∷◌, inl, inr}
use Rattle.std.specs.Prelude.{◌+ℤ◌, ◌-ℤ◌}
use Rattle.std.specs.List.{list_any}
use Rattle.std.specs.Option.{option_map_or}
use Rattle.std.proofs.lemmas.Bool.{cases_eq, eqb-true, lt-ltb, le-ltb, leb-true, and_parts, false≢true, cases_Bool, cases_lt}
use Rattle.std.proofs.lemmas.Bool.Decides.{nat_tests}
use Rattle.std.proofs.lemmas.Option.{same_Some, none-some}
use Rattle.std.proofs.lemmas.Int.{ints}
use Rattle.std.proofs.lemmas.List.{get_or-set_same, get_or-set_other, get_or_past, length-set}
use Rattle.thumb_isa.specs.declared.instr.Instr.TheVariants.{ShiftImm, AddSubImm3, Imm8, Alu, AddRdSp}
use Rattle.thumb_isa.specs.Nature.{Derivation, Shifts, AddsThree, AddsEight, Combines, AddsToSp, Nature, Works, Derives, nature}
use Rattle.thumb_isa.proofs.Natures.{derived_instr, derived_is}
use Rattle.thumb_core.proofs.Natures.{work}
use Rattle.thumb_core.specs.declared.regs.Regs.{Regs}
use Rattle.thumb_core.specs.Registers.{reg, word_in, with_flags, operand, pc_operand, with_next, with_reg, with_pc}
use Rattle.thumb_core.specs.Arith.{sum_or_difference, sum_of, difference_of}
use Rattle.thumb_core.specs.Shift.{shift_of}
use Rattle.thumb_core.specs.Alu.{alu_of}
use Rattle.thumb_core.specs.Data.{data_effect, forward, with_value, with_sum}
use Rattle.frame_facts.specs.declared.facts.Source.{Source}
use Rattle.frame_facts.specs.declared.facts.Source.TheVariants.{Entry, SpAt, Other}
use Rattle.frame_facts.specs.declared.facts.Fact.{Fact}
use Rattle.frame_facts.specs.declared.facts.TheConstants.{DEEPEST}
use Rattle.frame_facts.specs.Facts.{source, slot, with_source, forget_register, forget_registers, sp_at, sp_plus, offset_source}
use Rattle.frame_facts.specs.Shifts.{shift_imm}
use Rattle.frame_facts.specs.Data.{add_sub_imm3, imm8, alu, copy_source, set_sp}
use Rattle.frame_facts.specs.After.{derive_effect, nature_effect}
use Rattle.frame_facts.specs.Machine.{written_register, nature_works_on, Means, Describes, IsRoomy, DataIsDescribed, MovesAreDescribed, ClobberingIsDescribed}

-- ---- places of registers

-- r0 to r12, lr, and all others
slots : (k : ℕ) → ((k < 13) × (slot k ≡ k)) ⊎ (((k ≡ 14) × (slot k ≡ 13)) ⊎ (slot k ≡ 14))
slots k = elim (cases_lt k 13) [
  | inl low ↦ inl (low, ap (λ b. cond b k (cond (eqb k 14) 13 14)) (lt-ltb k 13 low))
  | inr high ↦ elim (cases_eq k 14) [
    | inl e ↦ inr (inl (e, subst (λ n. slot n ≡ 13) (sym e) refl))
    | inr other ↦ inr (inr (ap (λ b. cond b k (cond (eqb k 14) 13 14)) (le-ltb k 13 high) ∙ ap (λ b. cond b 13 14) (let differs : eqb k 14 ≡ false = grind (arith, nat_tests) in differs)))
  ]
]

same_slot : (k d : ℕ) → slot k ≡ slot d → slot d < 14 → k ≡ d
same_slot k d e low = elim (slots k) [
  | inl a ↦ elim (slots d) [
    | inl b ↦ omega (arith, a.1, b.1, e)
    | inr (inl b) ↦ absurd (omega (arith, a.0, a.1, b.1, e))
    | inr (inr b) ↦ absurd (omega (arith, b, low))
  ]
  | inr (inl a) ↦ elim (slots d) [
    | inl b ↦ absurd (omega (arith, b.0, b.1, a.1, e))
    | inr (inl b) ↦ omega (arith, a.0, b.0)
    | inr (inr b) ↦ absurd (omega (arith, b, low))
  ]
  | inr (inr a) ↦ absurd (omega (arith, a, e, low))
]

few_slots : (d : ℕ) → slot d < 14 → d < 15
few_slots d low = elim (slots d) [
  | inl b ↦ omega (arith, b.0)
  | inr (inl b) ↦ omega (arith, b.0)
  | inr (inr b) ↦ absurd (omega (arith, b, low))
]

-- a register of which nothing is known any more
lost_cases : (f : Fact) (r k : ℕ) → (source (forget_register r f) k ≡ Other) ⊎ ((source (forget_register r f) k ≡ source f k) × (k ≡ r → ⊥))
lost_cases f r k = ⊎_elim
    (λ (e : slot k ≡ slot r). inl (ap (λ j. get_or (forget_register r f).regs j Other) e ∙ ⊎_elim
    (λ (l : slot r < length f.regs). get_or-set_same f.regs (slot r) Other Other l)
    (λ (l : length f.regs ≤ slot r). get_or_past (forget_register r f).regs (slot r) Other (omega (arith, length-set f.regs (slot r) Other, l)))
    (cases_lt (slot r) (length f.regs))))
    (λ (n : slot k ≡ slot r → ⊥). inr (get_or-set_other f.regs (slot r) (slot k) Other Other n, λ e. n (ap slot e)))
    (cases_eq (slot k) (slot r))

module _ (entry : ℕ → ℕ) (cfa : ℕ) where
  -- a register but sp is written, and its source
  written : (f : Fact) (regs new : Regs) (d : ℕ) (t : Source) (w : ℕ) → d ≢ 13 → IsRoomy cfa regs → Describes entry cfa f regs → new.r ≡ set regs.r d w → Means entry cfa t w
      → Describes entry cfa (with_source f d t) new
  written f regs new d t w low roomy x is means = record {
    long = length-set f.regs (slot d) t ∙ x.long;
    sources = λ k. elim (cases_eq (slot k) (slot d)) [
      | inl same ↦ elim (cases_lt (slot d) 14) [
        | inl few ↦ at_d k (same_slot k d same few) few
        | inr past ↦ subst (λ u. Means entry cfa u (reg new k)) (sym (get_or_past (with_source f d t).regs (slot k) Other (omega (arith, length-set f.regs (slot d) t, x.long, past, same)))) tt
      ]
      | inr other ↦ subst (λ u. Means entry cfa u (reg new k)) (sym (get_or-set_other f.regs (slot d) (slot k) t Other other))
          (subst (λ v. Means entry cfa (source f k) v) (sym (new_other k (λ e. other (ap slot e)))) (x.sources k))
    ];
    sp = λ b. ap (λ v. v + f.depth) (new_other 13 (λ e. low (sym e))) ∙ x.sp b;
  }
    where
      new_other : (k : ℕ) → (k ≡ d → ⊥) → reg new k ≡ reg regs k
      new_other k n = ap (λ r. get_or r k 0) is ∙ get_or-set_other regs.r d k w 0 n

      at_d : (k : ℕ) → k ≡ d → slot d < 14 → Means entry cfa (source (with_source f d t) k) (reg new k)
      at_d k e few =
          let src : source (with_source f d t) d ≡ t = get_or-set_same f.regs (slot d) t Other (let l : slot d < length f.regs = omega (arith, few, x.long) in l) in
          let in_list = few_slots d few in
          let val : reg new d ≡ w = ap (λ r. get_or r d 0) is ∙ get_or-set_same regs.r d w 0 (let l : d < length regs.r = omega (arith, in_list, roomy.count) in l) in
          subst (λ j. Means entry cfa (source (with_source f d t) j) (reg new j)) (sym e) (subst (λ u. Means entry cfa u (reg new d)) (sym src) (subst (λ v. Means entry cfa t v) (sym val) means))

  -- of a register that an instruction may write nothing is said
  untold : (f : Fact) (regs new : Regs) (d w : ℕ) → d ≢ 13 → IsRoomy cfa regs → Describes entry cfa f regs → new.r ≡ set regs.r d w → Describes entry cfa (forget_register d f) new
  untold f regs new d w low roomy x is = written f regs new d Other w low roomy x is tt

  unchanged : (f : Fact) (regs new : Regs) → Describes entry cfa f regs → new.r ≡ regs.r → Describes entry cfa f new
  unchanged f regs new x is = record {
    long = x.long;
    sources = λ k. subst (λ r. Means entry cfa (source f k) (get_or r k 0)) (sym is) (x.sources k);
    sp = λ b. ap (λ r. get_or r 13 0 + f.depth) is ∙ x.sp b;
  }

  clobbers : (f : Fact) (regs : Regs) (d : ℕ) → Describes entry cfa f regs → Describes entry cfa (forget_register d f) regs
  clobbers f regs d x = record {
    long = length-set f.regs (slot d) Other ∙ x.long;
    sources = λ k. ⊎_elim
        (λ (e : source (forget_register d f) k ≡ Other). subst (λ t. Means entry cfa t (reg regs k)) (sym e) tt)
        (λ (v : (source (forget_register d f) k ≡ source f k) × (k ≡ d → ⊥)). subst (λ t. Means entry cfa t (reg regs k)) (sym v.0) (x.sources k))
        (lost_cases f d k);
    sp = x.sp;
  }

  -- ---- values

  low_word : (d v : ℕ) → d ≢ 13 → word_in d v ≡ v % 2 ^ 32
  low_word d v low = split (eqb d 13) refl
    where
      split : (b : Bool) → eqb d 13 ≡ b → cond b (v % 2 ^ 32 - v % 2 ^ 32 % 4) (v % 2 ^ 32) ≡ v % 2 ^ 32
      split true e = absurd (low (eqb-true d 13 e))
      split false e = refl

  kept : (s : Source) (v w : ℕ) → v < 2 ^ 32 → w ≡ v % 2 ^ 32 → Means entry cfa s v → Means entry cfa s w
  kept s v w l e m = subst (λ x. Means entry cfa s x) (let is : v ≡ w = omega (arith, l, e) in is) m

  -- the CFA minus what is a depth
  at_place : (z : ℤ) (w : ℕ) → ((n : ℕ) → z ≡ pos n → n ≤ DEEPEST → w + n ≡ cfa) → Means entry cfa (sp_at z) w
  at_place (negsuc n) w h = tt
  at_place (pos n) w h = split (leb n DEEPEST) refl
    where
      split : (b : Bool) → leb n DEEPEST ≡ b → Means entry cfa (option_map_or SpAt (cond b (Some n) None) Other) w
      split true e = h n refl (leb-true n DEEPEST e)
      split false e = tt

  moved_means : (sub : Bool) (imm : ℕ) (s : Source) (v w : ℕ) → DEEPEST ≤ cfa → cfa < 2 ^ 32 → v < 2 ^ 32 → w ≡ (sum_or_difference sub v imm).value % 2 ^ 32 → Means entry cfa s v → Means entry cfa (offset_source sub imm s) w
  moved_means sub imm (Entry k) v w room top l e m = tt
  moved_means sub imm Other v w room top l e m = tt
  moved_means true imm (SpAt o) v w room top l e m = at_place (pos o +ℤ pos imm) w (λ n z deep. let sum : o + imm ≡ n = omega (arith, ints, z) in omega (arith, room, top, l, e, m, sum, deep))
  moved_means false imm (SpAt o) v w room top l e m = at_place (pos o -ℤ pos imm) w (λ n z deep. let sum : n + imm ≡ o = omega (arith, ints, z) in omega (arith, room, top, l, e, m, sum, deep))

  same_value : (sub : Bool) (imm v : ℕ) → imm ≡ 0 → (sum_or_difference sub v imm).value % 2 ^ 32 ≡ v % 2 ^ 32
  same_value true imm v e = omega (arith, e)
  same_value false imm v e = omega (arith, e)

  imm3_described : (sub : Bool) (d n imm : ℕ) (f : Fact) (regs new : Regs) → d ≢ 13 → IsRoomy cfa regs → Describes entry cfa f regs → new.r ≡ set regs.r d (word_in d (sum_or_difference sub (reg regs n) imm).value)
      → Describes entry cfa (with_source f d (cond (eqb imm 0) (source f n) (offset_source sub imm (source f n)))) new
  imm3_described sub d n imm f regs new low roomy x is = written f regs new d (cond (eqb imm 0) (source f n) (offset_source sub imm (source f n))) (word_in d (sum_or_difference sub (reg regs n) imm).value) low roomy x is (split (eqb imm 0) refl)
    where
      split : (b : Bool) → eqb imm 0 ≡ b → Means entry cfa (cond b (source f n) (offset_source sub imm (source f n))) (word_in d (sum_or_difference sub (reg regs n) imm).value)
      split true e = kept (source f n) (reg regs n) (word_in d (sum_or_difference sub (reg regs n) imm).value) (roomy.words n) (low_word d (sum_or_difference sub (reg regs n) imm).value low ∙ same_value sub imm (reg regs n) (eqb-true imm 0 e)) (x.sources n)
      split false e = moved_means sub imm (source f n) (reg regs n) (word_in d (sum_or_difference sub (reg regs n) imm).value) roomy.room roomy.top (roomy.words n) (low_word d (sum_or_difference sub (reg regs n) imm).value low) (x.sources n)

  shift_described : (op d m n : ℕ) (f : Fact) (regs new : Regs) → d ≢ 13 → IsRoomy cfa regs → Describes entry cfa f regs → new.r ≡ set regs.r d (word_in d (shift_of op (reg regs m) n regs.c).0)
      → Describes entry cfa (cond (eqb op 0 && eqb n 0) (with_source f d (source f m)) (forget_register d f)) new
  shift_described op d m n f regs new low roomy x is = split (eqb op 0 && eqb n 0) refl
    where
      split : (b : Bool) → (eqb op 0 && eqb n 0) ≡ b → Describes entry cfa (cond b (with_source f d (source f m)) (forget_register d f)) new
      split true e =
          let none : n ≡ 0 = eqb-true n 0 (and_parts (eqb op 0) (eqb n 0) e).1 in
          written f regs new d (source f m) (word_in d (shift_of op (reg regs m) n regs.c).0) low roomy x is
          (kept (source f m) (reg regs m) (word_in d (shift_of op (reg regs m) n regs.c).0) (roomy.words m)
          (low_word d (shift_of op (reg regs m) n regs.c).0 low ∙ ap (λ k. (shift_of op (reg regs m) k regs.c).0 % 2 ^ 32) none) (x.sources m))
      split false e = untold f regs new d (word_in d (shift_of op (reg regs m) n regs.c).0) low roomy x is

  maybe_described : (b : Bool) (d w : ℕ) (f : Fact) (regs new : Regs) → d ≢ 13 → IsRoomy cfa regs → Describes entry cfa f regs → new.r ≡ cond b (set regs.r d w) regs.r → Describes entry cfa (forget_register d f) new
  maybe_described true d w f regs new low roomy x is = untold f regs new d w low roomy x is
  maybe_described false d w f regs new low roomy x is = unchanged (forget_register d f) regs new (clobbers f regs d x) is

  unwritten : (op x y : ℕ) (regs : Regs) → (eqb op 8 || eqb op 10 || eqb op 11) ≡ true → (alu_of op x y regs).written ≡ false
  unwritten op x y regs e = split (eqb op 8) (eqb op 10) (eqb op 11) refl refl refl e
    where
      split : (a b c : Bool) → eqb op 8 ≡ a → eqb op 10 ≡ b → eqb op 11 ≡ c → (a || b || c) ≡ true → (alu_of op x y regs).written ≡ false
      split true b c p q r e = ap (λ o. (alu_of o x y regs).written) (eqb-true op 8 p)
      split false true c p q r e = ap (λ o. (alu_of o x y regs).written) (eqb-true op 10 q)
      split false false true p q r e = ap (λ o. (alu_of o x y regs).written) (eqb-true op 11 r)
      split false false false p q r e = absurd (false≢true e)

  alu_described : (op d m : ℕ) (f : Fact) (regs new : Regs) → d ≢ 13 → IsRoomy cfa regs → Describes entry cfa f regs
      → new.r ≡ cond (alu_of op (reg regs d) (reg regs m) regs).written (set regs.r d (word_in d (alu_of op (reg regs d) (reg regs m) regs).value)) regs.r
      → Describes entry cfa (cond (eqb op 8 || eqb op 10 || eqb op 11) f (forget_register d f)) new
  alu_described op d m f regs new low roomy x is = split (eqb op 8 || eqb op 10 || eqb op 11) refl
    where
      split : (b : Bool) → (eqb op 8 || eqb op 10 || eqb op 11) ≡ b → Describes entry cfa (cond b f (forget_register d f)) new
      split true e = unchanged f regs new x (is ∙ ap (λ t. cond t (set regs.r d (word_in d (alu_of op (reg regs d) (reg regs m) regs).value)) regs.r) (unwritten op (reg regs d) (reg regs m) regs e))
      split false e = maybe_described (alu_of op (reg regs d) (reg regs m) regs).written d (word_in d (alu_of op (reg regs d) (reg regs m) regs).value) f regs new low roomy x is

  sp_described : (d off : ℕ) (f : Fact) (regs new : Regs) → d ≢ 13 → IsRoomy cfa regs → Describes entry cfa f regs → new.r ≡ set regs.r d (word_in d (forward (reg regs 13) (pos off)))
      → Describes entry cfa (with_source f d (sp_plus f (pos off))) new
  sp_described d off f regs new low roomy x is = written f regs new d (sp_plus f (pos off)) (word_in d (forward (reg regs 13) (pos off))) low roomy x is (split f.below refl)
    where
      split : (b : Bool) → f.below ≡ b → Means entry cfa (cond b Other (sp_at (pos f.depth -ℤ pos off))) (word_in d (forward (reg regs 13) (pos off)))
      split true e = tt
      split false e = at_place (pos f.depth -ℤ pos off) (word_in d (forward (reg regs 13) (pos off)))
          (λ n z deep. let sum : n + off ≡ f.depth = omega (arith, ints, z) in omega (arith, roomy.top, low_word d (forward (reg regs 13) (pos off)) low, x.sp e, sum))

  imm8_described : (op d imm : ℕ) (f : Fact) (regs : Regs) → d ≢ 13 → IsRoomy cfa regs → Describes entry cfa f regs → Describes entry cfa (imm8 op d imm f) (data_effect (Imm8 op d imm) regs)
  imm8_described op d imm f regs low roomy x = split (eqb op 0) (eqb op 1) (eqb op 2)
    where
      raised : (sub : Bool) (new : Regs) → new.r ≡ set regs.r d (word_in d (sum_or_difference sub (reg regs d) imm).value) → Describes entry cfa (with_source f d (offset_source sub imm (source f d))) new
      raised sub new is =
          written f regs new d (offset_source sub imm (source f d)) (word_in d (sum_or_difference sub (reg regs d) imm).value) low roomy x is
          (moved_means sub imm (source f d) (reg regs d) (word_in d (sum_or_difference sub (reg regs d) imm).value) roomy.room roomy.top (roomy.words d) (low_word d (sum_or_difference sub (reg regs d) imm).value low) (x.sources d))

      split : (a b c : Bool)
          → Describes entry cfa (cond a (forget_register d f) (cond b f (with_source f d (offset_source (not c) imm (source f d)))))
          (cond a (with_value d imm regs) (cond b (with_flags regs (difference_of (reg regs d) imm)) (cond c (with_sum d (sum_of (reg regs d) imm 0) regs) (with_sum d (difference_of (reg regs d) imm) regs))))
      split true b c = untold f regs (with_value d imm regs) d (word_in d imm) low roomy x refl
      split false true c = unchanged f regs (with_flags regs (difference_of (reg regs d) imm)) x refl
      split false false true = raised false (with_sum d (sum_of (reg regs d) imm 0) regs) refl
      split false false false = raised true (with_sum d (difference_of (reg regs d) imm) regs) refl

-- the instructions, one by one: which register, and the fact after
for_d : (P : ℕ → Type 0) (d d' : ℕ) → (let o : Option ℕ = Some d in o) ≡ Some d' → P d' → P d
for_d P d d' e h = subst P (sym (same_Some d d' e)) h

to_g : (entry : ℕ → ℕ) (cfa : ℕ) (regs : Regs) (f g : Fact) → Some f ≡ Some g → Describes entry cfa f regs → Describes entry cfa g regs
to_g entry cfa regs f g e x = subst (λ h. Describes entry cfa h regs) (same_Some f g e) x

derived_described : (entry : ℕ → ℕ) (cfa : ℕ) (v : Derivation) (d' : ℕ) (f g : Fact) (regs : Regs) → written_register v ≡ Some d' → d' ≢ 13 → IsRoomy cfa regs → Describes entry cfa f regs
    → Some (derive_effect v f) ≡ Some g → Describes entry cfa g (data_effect (derived_instr v) regs)
derived_described entry cfa (Shifts op d m n) d' f g regs on low roomy x e =
    to_g entry cfa (data_effect (ShiftImm op d m n) regs) (shift_imm op d m n f) g e (shift_described entry cfa op d m n f regs (data_effect (ShiftImm op d m n) regs) (for_d (λ k. k ≢ 13) d d' on low) roomy x refl)
derived_described entry cfa (AddsThree sub d n imm) d' f g regs on low roomy x e =
    to_g entry cfa (data_effect (AddSubImm3 sub d n imm) regs) (add_sub_imm3 sub d n imm f) g e (imm3_described entry cfa sub d n imm f regs (data_effect (AddSubImm3 sub d n imm) regs) (for_d (λ k. k ≢ 13) d d' on low) roomy x refl)
derived_described entry cfa (AddsEight op d imm) d' f g regs on low roomy x e =
    to_g entry cfa (data_effect (Imm8 op d imm) regs) (imm8 op d imm f) g e (imm8_described entry cfa op d imm f regs (for_d (λ k. k ≢ 13) d d' on low) roomy x)
derived_described entry cfa (Combines op d m) d' f g regs on low roomy x e =
    to_g entry cfa (data_effect (Alu op d m) regs) (alu op d f) g e (alu_described entry cfa op d m f regs (data_effect (Alu op d m) regs) (for_d (λ k. k ≢ 13) d d' on low) roomy x refl)
derived_described entry cfa (AddsToSp d (pos off)) d' f g regs on low roomy x e =
    to_g entry cfa (data_effect (AddRdSp d (pos off)) regs) (with_source f d (sp_plus f (pos off))) g e (sp_described entry cfa d off f regs (data_effect (AddRdSp d (pos off)) regs) (for_d (λ k. k ≢ 13) d d' on low) roomy x refl)
derived_described entry cfa (AddsToSp d (negsuc off)) d' f g regs on low roomy x e = absurd (none-some d' on)

pub data_described : DataIsDescribed
data_described entry cfa p lowers at i d' f g regs on low roomy x e = by_nature (nature i) refl on e
  where
    by_nature : (n : Nature) → nature i ≡ n → nature_works_on n ≡ Some d' → nature_effect p lowers at n f ≡ Some g → Describes entry cfa g (data_effect i regs)
    by_nature (Works d) s on e =
        let w = work i d s in
        to_g entry cfa (data_effect i regs) (forget_register d f) g e (untold entry cfa f regs (data_effect i regs) d (word_in d (w.value regs)) (for_d (λ k. k ≢ 13) d d' on low) roomy x (w.writes regs))
    by_nature (Derives v) s on e = subst (λ j. Describes entry cfa g (data_effect j regs)) (sym (derived_is i v s)) (derived_described entry cfa v d' f g regs on low roomy x e)
    by_nature n s on e = absurd (none-some d' on)

-- ---- moves

module _ (entry : ℕ → ℕ) (cfa d m : ℕ) (f : Fact) (regs : Regs) (low : d ≢ 13) (roomy : IsRoomy cfa regs) (x : Describes entry cfa f regs) where
  sp_copied : (w : ℕ) → w ≡ reg regs 13 % 2 ^ 32 → Means entry cfa (sp_plus f (pos 0)) w
  sp_copied w e = split f.below refl
    where
      split : (b : Bool) → f.below ≡ b → Means entry cfa (cond b Other (sp_at (pos f.depth -ℤ pos 0))) w
      split true h = tt
      split false h = at_place entry cfa (pos f.depth -ℤ pos 0) w (λ n z deep. let sum : n ≡ f.depth = omega (arith, ints, z) in omega (arith, roomy.words 13, e, x.sp h, sum))

  pc_unknown : m ≡ 15 → source f m ≡ Other
  pc_unknown e = ap (source f) e ∙ get_or_past f.regs 14 Other (let l : length f.regs ≤ 14 = omega (arith, x.long) in l)

  copy_means : Means entry cfa (copy_source m f) (word_in d (operand regs m))
  copy_means = split (eqb m 13) (eqb m 15) refl refl
    where
      split : (a b : Bool) → eqb m 13 ≡ a → eqb m 15 ≡ b → Means entry cfa (cond a (sp_plus f (pos 0)) (source f m)) (word_in d (cond b (pc_operand regs) (reg regs m)))
      split true true p q = absurd (omega (arith, eqb-true m 13 p, eqb-true m 15 q))
      split true false p q = sp_copied (word_in d (reg regs m)) (low_word entry cfa d (reg regs m) low ∙ ap (λ k. reg regs k % 2 ^ 32) (eqb-true m 13 p))
      split false true p q = subst (λ s. Means entry cfa s (word_in d (pc_operand regs))) (sym (pc_unknown (eqb-true m 15 q))) tt
      split false false p q = kept entry cfa (source f m) (reg regs m) (word_in d (reg regs m)) (roomy.words m) (low_word entry cfa d (reg regs m) low) (x.sources m)

pub moves_described : MovesAreDescribed
moves_described entry cfa p lowers at d m size f g regs low roomy x e =
    by_d (eqb d 13) (eqb d 15) refl refl e
  where
    no_sp : d ≢ 13
    no_sp q = omega (arith, low, q)

    done : Some (with_source f d (copy_source m f)) ≡ Some g → Describes entry cfa g (with_next size (with_reg regs d (operand regs m)))
    done h = to_g entry cfa (with_next size (with_reg regs d (operand regs m))) (with_source f d (copy_source m f)) g h
        (written entry cfa f regs (with_next size (with_reg regs d (operand regs m))) d (copy_source m f) (word_in d (operand regs m)) no_sp roomy x refl (copy_means entry cfa d m f regs no_sp roomy x))

    by_d : (a b : Bool) → eqb d 13 ≡ a → eqb d 15 ≡ b
        → cond a (cond lowers (Some (let r : Fact = record f { below = true } in r)) (set_sp p (copy_source m f) f)) (Some (with_source f d (copy_source m f))) ≡ Some g
        → Describes entry cfa g (cond b (with_pc regs (operand regs m)) (with_next size (with_reg regs d (operand regs m))))
    by_d true b q r h = absurd (omega (arith, low, eqb-true d 13 q))
    by_d false true q r h = absurd (omega (arith, low, eqb-true d 15 r))
    by_d false false q r h = done h

-- ---- forgetting

differs : (a b : ℕ) → (b ≡ a → ⊥) → eqb a b ≡ false
differs a b n = ⊎_elim (λ (e : eqb a b ≡ true). absurd (n (sym (eqb-true a b e)))) (λ (e : eqb a b ≡ false). e) (cases_Bool (eqb a b))

clobbered_cases : (xs : List ℕ) (f : Fact) (k : ℕ) → (source (forget_registers xs f) k ≡ Other) ⊎ ((source (forget_registers xs f) k ≡ source f k) × (list_any (λ j. eqb j k) xs ≡ false))
clobbered_cases [] f k = inr (refl, refl)
clobbered_cases (r ∷ xs) f k = ⊎_elim
    (λ (e : source (forget_registers xs (forget_register r f)) k ≡ Other). inl e)
    (λ (w : (source (forget_registers xs (forget_register r f)) k ≡ source (forget_register r f) k) × (list_any (λ j. eqb j k) xs ≡ false)). ⊎_elim
    (λ (e : source (forget_register r f) k ≡ Other). inl (w.0 ∙ e))
    (λ (v : (source (forget_register r f) k ≡ source f k) × (k ≡ r → ⊥)). inr (w.0 ∙ v.0, ap (λ b. b || list_any (λ j. eqb j k) xs) (differs r k v.1) ∙ w.1))
    (lost_cases f r k))
    (clobbered_cases xs (forget_register r f) k)

clobbered_same : (xs : List ℕ) (f : Fact) → (length (forget_registers xs f).regs ≡ length f.regs) × ((forget_registers xs f).below ≡ f.below) × ((forget_registers xs f).depth ≡ f.depth)
clobbered_same [] f = (refl, refl, refl)
clobbered_same (r ∷ xs) f = let w = clobbered_same xs (forget_register r f) in (w.0 ∙ length-set f.regs (slot r) Other, w.1, w.2)

pub clobbering_described : ClobberingIsDescribed
clobbering_described entry cfa xs f regs new x same keeps =
    let w = clobbered_same xs f in
    record {
      long = w.0 ∙ x.long;
      sources = λ k. ⊎_elim
          (λ (e : source (forget_registers xs f) k ≡ Other). subst (λ s. Means entry cfa s (reg new k)) (sym e) tt)
          (λ (v : (source (forget_registers xs f) k ≡ source f k) × (list_any (λ j. eqb j k) xs ≡ false)).
          subst (λ s. Means entry cfa s (reg new k)) (sym v.0) (subst (λ u. Means entry cfa (source f k) u) (sym (same k v.1)) (x.sources k)))
          (clobbered_cases xs f k);
      sp = λ b. omega (arith, same 13 keeps, w.2, x.sp (sym w.1 ∙ b));
    }
