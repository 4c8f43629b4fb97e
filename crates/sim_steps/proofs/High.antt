-- MOV and ADD of any two registers, where sp is not written: both machines do the same, and what is known after it holds. That pc is not
-- written the checker saw to.
use Rattle.std.proofs.Common.{◌≡◌, ℕ, Option, ◌<◌, ◌==◌, ◌⊎◌, inl, inr, false, cond, refl, sym, ap, subst, ◌∙◌, arith, ◌+◌, length, get_or, set, ◌-◌, ◌%◌, ◌^◌, Bool, true, ◌≤◌, nat_le, Some, None, ℤ, pos, negsuc, List, [], Ok, Err, Result, not}
use Rattle.std.proofs.lemmas.Bool.{cases_eq, cases_lt, lt-ltb, le-ltb, eqb-true, leb-true}
use Rattle.std.proofs.lemmas.Bool.Decides.{nat_tests}
use Rattle.std.proofs.lemmas.List.{get_or-set_same, get_or-set_other, get_or_past, length-set}
use Rattle.std.specs.Prelude.{◌-ℤ◌}
use Rattle.std.specs.Option.{option_map_or}
use Rattle.std.proofs.lemmas.Int.{ints}
use Rattle.frame_facts.specs.Facts.{slot, source, with_source, sp_plus, sp_at}
use Rattle.thumb_core.specs.Registers.{reg, word_in, operand, pc_operand, with_next, with_reg, with_pc}
use Rattle.thumb_core.specs.declared.regs.Regs.{Regs}
use Rattle.frame_facts.specs.declared.facts.Fact.{Fact}
use Rattle.frame_facts.specs.declared.facts.Source.{Source}
use Rattle.frame_facts.specs.declared.facts.Source.TheVariants.{Other, SpAt}
use Rattle.frame_facts.specs.Machine.{Means, Describes, IsRoomy}
use Rattle.frame_facts.specs.declared.facts.TheConstants.{DEEPEST}
use Rattle.frame_facts.specs.Data.{copy_source, set_sp}
use Rattle.thumb_core.specs.declared.regs.TheConstants.{SP, PC}
use Rattle.sim_machines.specs.frame_check.Accepts.{Accepted}
use Rattle.sim_machines.specs.Activations.{Recorded, memory_of}
use Rattle.thumb_isa.specs.declared.instr.Instr.{Instr}
use Rattle.thumb_core.specs.Branch.{write_high}
use Rattle.thumb_core.specs.Outcome.{Outcome as Stepping}
use Rattle.run_images.specs.Profiles.{profile_of}
use Rattle.thumb_core.specs.Step.{step_for}
use Rattle.thumb_core.specs.declared.regs.Stepped.TheVariants.{Done}
use Rattle.thumb_ahead.specs.Ahead.{branches, pushed_registers}
use Rattle.frame_facts.specs.After.{after_of, effect_result}
use Rattle.frame_graph.specs.Places.{address_of}
use Rattle.frame_code.specs.Branches.{reaches_next}
use Rattle.sim_machines.specs.frame_check.Roots.{flow_graph_of}
use Rattle.sim_machines.specs.Machine.{control_flow_trap}
use Rattle.sim_machines.specs.Checked.{program_of}
use Rattle.frame_facts.specs.declared.cause.FrameCause.{FrameCause}
use Rattle.frame_facts.specs.declared.cause.FrameCause.TheVariants.{IndirectBranch}
use Rattle.thumb_isa.specs.declared.instr.Instr.TheVariants.{AddHigh, MovHigh}
use Rattle.frame_facts.specs.declared.saves.Prologue.{Prologue}
use Rattle.sim_relation.specs.Holds.{Holds}
use Rattle.sim_relation.specs.Chain.{code, StandsAt}
use Rattle.sim_relation.specs.Stands.{Keeps, IsProgram, Turns, DoesAt}
use Rattle.sim_relation.proofs.Goes.{chain_top}
use Rattle.sim_relation.proofs.SimpleTurns.{simple_turns, fetch}
use Rattle.sim_steps.proofs.Jumps.{next_pc, straight_first}
use Rattle.sim_relation.proofs.Flows.{leaves, none_stands, stands_instruction}

-- ---- places of registers: r0 to r12, lr, and all others

slots : (k : ℕ) → ((k < 13) × (slot k ≡ k)) ⊎ (((k ≡ 14) × (slot k ≡ 13)) ⊎ (slot k ≡ 14))
slots k = elim (cases_lt k 13) [
  | inl low ↦ inl (low, ap (λ b. cond b k (cond (k == 14) 13 14)) (lt-ltb k 13 low))
  | inr high ↦ elim (cases_eq k 14) [
    | inl e ↦ inr (inl (e, subst (λ n. slot n ≡ 13) (sym e) refl))
    | inr other ↦ inr (inr (ap (λ b. cond b k (cond (k == 14) 13 14)) (le-ltb k 13 high) ∙ ap (λ b. cond b 13 14) (let differs : (k == 14) ≡ false = grind (arith, nat_tests) in differs)))
  ]
]

same_slot : (k d : ℕ) → slot k ≡ slot d → slot d < 14 → k ≡ d
same_slot k d e low = elim (slots k) [
  | inl a ↦ elim (slots d) [
    | inl b ↦ omega (arith, a.1, b.1, e)
    | inr (inl b) ↦ absurd (omega (arith, a.0, a.1, b.1, e))
    | inr (inr b) ↦ absurd (omega (arith, b, low))
  ]
  | inr (inl a) ↦ elim (slots d) [
    | inl b ↦ absurd (omega (arith, b.0, b.1, a.1, e))
    | inr (inl b) ↦ omega (arith, a.0, b.0)
    | inr (inr b) ↦ absurd (omega (arith, b, low))
  ]
  | inr (inr a) ↦ absurd (omega (arith, a, e, low))
]

few_slots : (d : ℕ) → slot d < 14 → d < 15
few_slots d low = elim (slots d) [
  | inl b ↦ omega (arith, b.0)
  | inr (inl b) ↦ omega (arith, b.0)
  | inr (inr b) ↦ absurd (omega (arith, b, low))
]

-- ---- a register but sp is written, and its source

pub written_any : (entry : ℕ → ℕ) (cfa : ℕ) (f : Fact) (regs new : Regs) (d : ℕ) (t : Source) (w : ℕ) → (d ≡ 13 → ⊥) → length regs.r ≡ 15 → Describes entry cfa f regs → new.r ≡ set regs.r d w → Means entry cfa t w
    → Describes entry cfa (with_source f d t) new
written_any entry cfa f regs new d t w no_sp count x is means = record {
  long = length-set f.regs (slot d) t ∙ x.long;
  sources = λ k. elim (cases_eq (slot k) (slot d)) [
    | inl same ↦ elim (cases_lt (slot d) 14) [
      | inl low ↦ at_d k (same_slot k d same low) low
      | inr past ↦ subst (λ u. Means entry cfa u (reg new k)) (sym (get_or_past (with_source f d t).regs (slot k) Other (omega (arith, length-set f.regs (slot d) t, x.long, past, same)))) tt
    ]
    | inr other ↦ subst (λ u. Means entry cfa u (reg new k)) (sym (get_or-set_other f.regs (slot d) (slot k) t Other other))
        (subst (λ v. Means entry cfa (source f k) v) (sym (new_other k (λ e. other (ap slot e)))) (x.sources k))
  ];
  sp = λ b. ap (λ v. v + f.depth) (new_other 13 (λ e. no_sp (sym e))) ∙ x.sp b;
}
  where
    new_other : (k : ℕ) → (k ≡ d → ⊥) → reg new k ≡ reg regs k
    new_other k n = ap (λ r. get_or r k 0) is ∙ get_or-set_other regs.r d k w 0 n

    at_d : (k : ℕ) → k ≡ d → slot d < 14 → Means entry cfa (source (with_source f d t) k) (reg new k)
    at_d k e low =
        let src : source (with_source f d t) d ≡ t = get_or-set_same f.regs (slot d) t Other (let l : slot d < length f.regs = omega (arith, low, x.long) in l) in
        let few = few_slots d low in
        let val : reg new d ≡ w = ap (λ r. get_or r d 0) is ∙ get_or-set_same regs.r d w 0 (let l : d < length regs.r = omega (arith, few, count) in l) in
        subst (λ j. Means entry cfa (source (with_source f d t) j) (reg new j)) (sym e) (subst (λ u. Means entry cfa u (reg new d)) (sym src) (subst (λ v. Means entry cfa t v) (sym val) means))

pub plain_word : (d v : ℕ) → (d ≡ 13 → ⊥) → word_in d v ≡ v % 2 ^ 32
plain_word d v no_sp = go (d == 13) refl
  where
    go : (b : Bool) → (d == 13) ≡ b → cond b (v % 2 ^ 32 - v % 2 ^ 32 % 4) (v % 2 ^ 32) ≡ v % 2 ^ 32
    go true e = absurd (no_sp (eqb-true d 13 e))
    go false e = refl

-- ---- a copy of any register

module _ (entry : ℕ → ℕ) (cfa d m : ℕ) (f : Fact) (regs : Regs) (no_sp : d ≡ 13 → ⊥) (roomy : IsRoomy cfa regs) (x : Describes entry cfa f regs) where
  at_place : (z : ℤ) (w : ℕ) → ((n : ℕ) → z ≡ pos n → n ≤ DEEPEST → w + n ≡ cfa) → Means entry cfa (sp_at z) w
  at_place (negsuc n) w h = tt
  at_place (pos n) w h = go (nat_le n DEEPEST) refl
    where
      go : (b : Bool) → nat_le n DEEPEST ≡ b → Means entry cfa (option_map_or SpAt (cond b (Some n) None) Other) w
      go true e = h n refl (leb-true n DEEPEST e)
      go false e = tt

  sp_copied : (w : ℕ) → w ≡ reg regs 13 % 2 ^ 32 → Means entry cfa (sp_plus f (pos 0)) w
  sp_copied w e = go f.below refl
    where
      go : (b : Bool) → f.below ≡ b → Means entry cfa (cond b Other (sp_at (pos f.depth -ℤ pos 0))) w
      go true h = tt
      go false h = at_place (pos f.depth -ℤ pos 0) w (λ n z deep. let sum : n ≡ f.depth = omega (arith, ints, z) in omega (arith, roomy.words 13, e, x.sp h, sum))

  copy_means : Means entry cfa (copy_source m f) (word_in d (operand regs m))
  copy_means = go (m == 13) (m == 15) refl refl
    where
      same_word : reg regs m % 2 ^ 32 ≡ reg regs m
      same_word = omega (arith, roomy.words m)

      go : (a b : Bool) → (m == 13) ≡ a → (m == 15) ≡ b → Means entry cfa (cond a (sp_plus f (pos 0)) (source f m)) (word_in d (cond b (pc_operand regs) (reg regs m)))
      go true true q r = absurd (omega (arith, eqb-true m 13 q, eqb-true m 15 r))
      go true false q r = sp_copied (word_in d (reg regs m)) (plain_word d (reg regs m) no_sp ∙ ap (λ k. reg regs k % 2 ^ 32) (eqb-true m 13 q))
      go false true q r =
          let unknown : source f m ≡ Other = ap (source f) (eqb-true m 15 r) ∙ get_or_past f.regs 14 Other (let l : length f.regs ≤ 14 = omega (arith, x.long) in l) in
          subst (λ u. Means entry cfa u (word_in d (pc_operand regs))) (sym unknown) tt
      go false false q r = subst (λ v. Means entry cfa (source f m) v) (sym (plain_word d (reg regs m) no_sp ∙ same_word)) (x.sources m)

-- ---- the events

module _ (x : Accepted) (is : IsProgram x) (s : Recorded) (k : Keeps x s) (at : StandsAt x s.first s.segments s.regs s.regs.pc) where
  pub roomy_at : IsRoomy s.first.caller.sp s.regs
  roomy_at =
      let home = k.corresponds.map.home in
      let top = chain_top x s.segments s.home s.first.caller s.outer k.chain in
      record { count = k.sound.words.count; words = k.sound.words.small; room = omega (arith, home.low, k.low, k.high); top = omega (arith, top, home.high) }

  module _ (d v : ℕ) (no_sp : d ≡ 13 → ⊥) (g : Source) (means : Means at.holds.entry s.first.caller.sp g (word_in d v)) where
    -- what is known where v is written to d
    pub high_holds : (size : ℕ) → Holds (code x at.function at.marks).prologue (with_source at.fact d g) s.first s.segments (with_next size (with_reg s.regs d v))
    high_holds size =
        let h = at.holds in
        let told : Describes h.entry s.first.caller.sp (with_source at.fact d g) (with_next size (with_reg s.regs d v)) =
        written_any h.entry s.first.caller.sp at.fact s.regs (with_next size (with_reg s.regs d v)) d g (word_in d v) no_sp k.sound.words.count h.describes refl means in
        let sp : reg (with_next size (with_reg s.regs d v)) SP ≡ reg s.regs SP = get_or-set_other s.regs.r d SP (word_in d v) 0 (λ e. no_sp (sym e)) in
        record {
          entry = h.entry;
          saved = h.saved;
          link = h.link;
          describes = record { long = told.long; sources = told.sources; sp = told.sp };
          lower = omega (arith, h.lower, sp);
          saves = λ w c. let kept = h.saves w c in record { low = kept.low; deep = kept.deep; holds = kept.holds; slot = kept.slot };
        }

module _ (x : Accepted) (s : Recorded) (i : Instr) (d v : ℕ) (g : Source) (input : List ℕ) (is : IsProgram x) (k : Keeps x s) (does : DoesAt x s i) (no_sp : d ≡ 13 → ⊥) (no_pc : (d == PC) ≡ false)
    (means : Means does.at.holds.entry s.first.caller.sp g (word_in d v)) (on : reaches_next i ≡ true) (taken : branches i s.regs ≡ false) (pushes : pushed_registers i ≡ [])
    (after : after_of (code x does.at.function does.at.marks).prologue ((code x does.at.function does.at.marks).lowers does.at.place) (address_of (flow_graph_of x.image does.at.function) does.at.place) i does.at.fact ≡ Ok (with_source does.at.fact d g))
    (step : step_for (profile_of x.image) s.regs (memory_of s) ≡ (Done, write_high d v does.size s.regs, memory_of s)) where
  abbrev regs : Regs
  regs = with_next does.size (with_reg s.regs d v)

  stepped : step_for (profile_of x.image) s.regs (memory_of s) ≡ (Done, regs, memory_of s)
  stepped = step ∙ ap (λ (b : Bool). let o : Stepping = (Done, cond b (with_pc s.regs v) regs, memory_of s) in o) no_pc

  pub high_event : Turns x s input
  high_event =
      simple_turns x is s k does.at i does.size does.stands regs stepped (get_or-set_other s.regs.r d SP (word_in d v) 0 (λ e. no_sp (sym e))) pushes
      (λ w. straight_first x is s k does.at i does.size does.stands (with_source does.at.fact d g) regs on after (next_pc x is s k does.at i does.size does.stands)
      (high_holds x is s k does.at d v no_sp g means does.size) (subst (λ (b : Bool). control_flow_trap (program_of x) b s.regs.pc Done regs ≡ None) taken w))
      input does.reached

-- what an instruction that may write pc or sp leaves, where no cause stands
no_indirect : (b : Bool) (r : Result Fact FrameCause) (g : Fact) → cond b (Err IndirectBranch) r ≡ Ok g → (b ≡ false) × (r ≡ Ok g)
no_indirect true r g e = absurd cc
no_indirect false r g e = (refl, e)

no_write : (b : Bool) (f g : Fact) → effect_result None (cond b None (Some f)) ≡ Ok g → (b ≡ false) × (f ≡ g)
no_write true f g e = absurd cc
no_write false f g e = (refl, cc)

module _ (x : Accepted) (s : Recorded) (d m : ℕ) (input : List ℕ) (is : IsProgram x) (k : Keeps x s) (does : DoesAt x s (AddHigh d m)) where
  abbrev p : Prologue
  p = (code x does.at.function does.at.marks).prologue

  abbrev here : ℕ
  here = address_of (flow_graph_of x.image does.at.function) does.at.place

  by_add : (g : Fact) × (after_of p ((code x does.at.function does.at.marks).lowers does.at.place) here (AddHigh d m) does.at.fact ≡ Ok g) → Turns x s input
  by_add w =
      let a = no_indirect (d == 15) (effect_result None (cond (d == 13) None (Some (with_source does.at.fact d Other)))) w.0 w.1 in
      let b = no_write (d == 13) (with_source does.at.fact d Other) w.0 a.1 in
      high_event x s (AddHigh d m) d (operand s.regs d + operand s.regs m) Other input is k does (λ e. absurd (let yes : (d == 13) ≡ true = grind (arith, nat_tests) in let clash : true ≡ false = sym yes ∙ b.0 in cc)) a.0 tt
      (ap not a.0) a.0 refl (w.1 ∙ ap (λ (f : Fact). Ok f) (sym b.1)) (fetch x is s k does.at (AddHigh d m) does.size does.stands).step

  add_high_is : Turns x s input
  add_high_is = by_add (leaves (code x does.at.function does.at.marks) does.at.place does.at.fact (none_stands x does.at.function does.at.marks is.sound does.at.of.among does.at.of.are) does.at.state (AddHigh d m)
      (stands_instruction (flow_graph_of x.image does.at.function) does.at.place (AddHigh d m) does.size does.stands))

pub add_high_turns : (x : Accepted) (s : Recorded) (d m : ℕ) (input : List ℕ) → IsProgram x → Keeps x s → DoesAt x s (AddHigh d m) → Turns x s input
add_high_turns x s d m input is k does = add_high_is x s d m input is k does

module _ (x : Accepted) (s : Recorded) (d m : ℕ) (input : List ℕ) (is : IsProgram x) (k : Keeps x s) (does : DoesAt x s (MovHigh d m)) (no_sp : d ≡ 13 → ⊥) where
  abbrev q : Prologue
  q = (code x does.at.function does.at.marks).prologue

  abbrev lowering : Bool
  lowering = (code x does.at.function does.at.marks).lowers does.at.place

  abbrev there : ℕ
  there = address_of (flow_graph_of x.image does.at.function) does.at.place

  abbrev into_sp : Option Fact
  into_sp = cond lowering (Some (let f : Fact = record does.at.fact { below = true } in f)) (set_sp q (copy_source m does.at.fact) does.at.fact)

  no_13 : (d == 13) ≡ false
  no_13 = elim (cases_eq d 13) [
    | inl e ↦ absurd (no_sp e)
    | inr other ↦ grind (arith, nat_tests)
  ]

  by_mov : (g : Fact) × (after_of q lowering there (MovHigh d m) does.at.fact ≡ Ok g) → Turns x s input
  by_mov w =
      let a = no_indirect (d == 15) (effect_result None (cond (d == 13) into_sp (Some (with_source does.at.fact d (copy_source m does.at.fact))))) w.0 w.1 in
      let after : after_of q lowering there (MovHigh d m) does.at.fact ≡ Ok (with_source does.at.fact d (copy_source m does.at.fact)) =
      ap (λ (b : Bool). cond b (Err IndirectBranch) (effect_result None (cond (d == 13) into_sp (Some (with_source does.at.fact d (copy_source m does.at.fact)))))) a.0
      ∙ ap (λ (b : Bool). effect_result None (cond b into_sp (Some (with_source does.at.fact d (copy_source m does.at.fact))))) no_13 in
      high_event x s (MovHigh d m) d (operand s.regs m) (copy_source m does.at.fact) input is k does no_sp a.0
      (copy_means does.at.holds.entry s.first.caller.sp d m does.at.fact s.regs no_sp (roomy_at x is s k does.at) does.at.holds.describes)
      (ap not a.0) a.0 refl after (fetch x is s k does.at (MovHigh d m) does.size does.stands).step

  mov_high_is : Turns x s input
  mov_high_is = by_mov (leaves (code x does.at.function does.at.marks) does.at.place does.at.fact (none_stands x does.at.function does.at.marks is.sound does.at.of.among does.at.of.are) does.at.state (MovHigh d m)
      (stands_instruction (flow_graph_of x.image does.at.function) does.at.place (MovHigh d m) does.size does.stands))

pub mov_high_turns : (x : Accepted) (s : Recorded) (d m : ℕ) (input : List ℕ) → IsProgram x → Keeps x s → DoesAt x s (MovHigh d m) → (d ≡ 13 → ⊥) → Turns x s input
mov_high_turns x s d m input is k does no_sp = mov_high_is x s d m input is k does no_sp
