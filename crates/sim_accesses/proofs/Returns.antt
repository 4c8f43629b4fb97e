-- A return by BX finds what was recorded: of an accepted function it goes to the value that lr had at the entry, with sp and r4 to r11 as they
-- were then.
use Rattle.std.proofs.Common.{◌≡◌, ℕ, true, ap, ◌⊎◌, inl, inr, Bool, List, [], ◌∷◌, subst, zero, suc, ◌+◌, ◌<◌, refl, arith, false, not, ◌==◌, ◌&&◌, ◌-◌, ◌++◌, length, get_or, slice_index, sym, ◌∙◌, ◌%◌, ◌^◌, ◌≤◌, cond, Ok, Err}
use Rattle.std.proofs.lemmas.Bool.{eqb-true, and_parts, cases_lt, cases_eq}
use Rattle.std.specs.List.{list_all}
use Rattle.std.proofs.lemmas.Grind.{same_number_lists}
use Rattle.std.proofs.lemmas.List.{get_or_append_left, get_or-append_right, length-append, get_or_past}
use Rattle.std.proofs.lemmas.Bool.Decides.{nat_tests}
use Rattle.frame_facts.specs.declared.facts.Source.{Source}
use Rattle.frame_facts.specs.declared.facts.Source.TheVariants.{Entry, SpAt, Other}
use Rattle.frame_facts.specs.Facts.{is_entry, source}
use Rattle.eh_bus.specs.Lists.{Has}
use Rattle.frame_facts.specs.Branches.{preserved_by_calls, holds_own, returns_well}
use Rattle.frame_facts.specs.declared.facts.Fact.{Fact}
use Rattle.thumb_core.specs.declared.regs.TheConstants.{SP, LR, PC}
use Rattle.sim_machines.specs.Activations.{Caller, with_caller, Activation, Recorded, reg_in, memory_of, bytes_of}
use Rattle.run_gates.specs.declared.gates.TheConstants.{NO_CALLER}
use Rattle.thumb_isa.specs.declared.instr.Instr.TheVariants.{Bx}
use Rattle.thumb_core.specs.Branch.{if_odd, return_to}
use Rattle.thumb_core.specs.Outcome.{Outcome as Stepping, with_memory}
use Rattle.thumb_core.specs.Registers.{reg, operand, pc_operand, with_pc, even}
use Rattle.run_images.specs.Profiles.{profile_of}
use Rattle.thumb_core.specs.Step.{step_for}
use Rattle.thumb_core.specs.declared.regs.Regs.{Regs}
use Rattle.thumb_core.specs.declared.regs.Stepped.TheVariants.{Return, Trap}
use Rattle.thumb_core.specs.declared.regs.CoreTrap.TheVariants.{EvenTarget}
use Rattle.frame_facts.specs.declared.cause.FrameCause.TheVariants.{IndirectBranch, ReturnState}
use Rattle.frame_facts.specs.After.{after_of}
use Rattle.frame_facts.specs.Machine.{Means}
use Rattle.frame_code.specs.declared.standing.Standing.TheVariants.{Instruction}
use Rattle.frame_graph.specs.Places.{address_of, standing_at}
use Rattle.frame_reach.proofs.Stands.{stands_inside}
use Rattle.frame_check.specs.Accepts.{Accepted}
use Rattle.frame_check.specs.Judged.{IsPlaced}
use Rattle.frame_check.specs.Roots.{flow_graph_of}
use Rattle.frame_check.proofs.Wells.{placed_at}
use Rattle.sim_machines.specs.Machine.{machine_event}
use Rattle.sim_machines.specs.ActivationMachine.{recorded_event, caller_registers}
use Rattle.sim_machines.specs.ActivationLaws.{Matches}
use Rattle.sim_machines.specs.RecordedSlots.{FindsCaller}
use Rattle.sim_machines.specs.Checked.{program_of}
use Rattle.sim_machines.proofs.CallEvents.{knows}
use Rattle.sim_machines.proofs.Returning.{returns_match}
use Rattle.sim_relation.specs.Chain.{code, StandsAt, StandsAtCall, Chain}
use Rattle.sim_relation.specs.Stands.{Keeps, IsProgram}
use Rattle.sim_prologue.proofs.sim_code.Fetch.{fetched, IsFetched}
use Rattle.sim_relation.proofs.Flows.{leaves, none_stands, stands_instruction}

-- ---- what a fact that returns well says

entry_is : (n : ℕ) (s : Source) → is_entry n s ≡ true → s ≡ Entry n
entry_is n (Entry k) e = ap Entry (eqb-true k n e)
entry_is n (SpAt k) e = absurd cc
entry_is n Other e = absurd cc

pick : (q : ℕ → Bool) (xs : List ℕ) (k : ℕ) → list_all q xs ≡ true → Has xs k → q k ≡ true
pick q [] k e h = absurd h
pick q (j ∷ xs) k e h = go (and_parts (q j) (list_all q xs) e) h (λ u. pick q xs k u)
  where
    go : (q j ≡ true) × (list_all q xs ≡ true) → (j ≡ k) ⊎ Has xs k → (list_all q xs ≡ true → Has xs k → q k ≡ true) → q k ≡ true
    go w (inl same) later = subst (λ n. q n ≡ true) same w.0
    go w (inr there) later = later w.1 there

eight : (j : ℕ) → j < 8 → Has preserved_by_calls (j + 4)
eight zero h = inl refl
eight (suc zero) h = inr (inl refl)
eight (suc (suc zero)) h = inr (inr (inl refl))
eight (suc (suc (suc zero))) h = inr (inr (inr (inl refl)))
eight (suc (suc (suc (suc zero)))) h = inr (inr (inr (inr (inl refl))))
eight (suc (suc (suc (suc (suc zero))))) h = inr (inr (inr (inr (inr (inl refl)))))
eight (suc (suc (suc (suc (suc (suc zero)))))) h = inr (inr (inr (inr (inr (inr (inl refl))))))
eight (suc (suc (suc (suc (suc (suc (suc zero))))))) h = inr (inr (inr (inr (inr (inr (inr (inl refl)))))))
eight (suc (suc (suc (suc (suc (suc (suc (suc j)))))))) h = absurd (omega (arith, h))

-- depth 0, sp known, r4 to r11 their own, and pc from the entry's lr
pub record ReturnsWell (f : Fact) (pc : Source) : Type 0 where
  pub depth : f.depth ≡ 0
  pub below : f.below ≡ false
  pub own : (j : ℕ) → j < 8 → source f (j + 4) ≡ Entry (j + 4)
  pub link : pc ≡ Entry 14

not_false : (b : Bool) → not b ≡ true → b ≡ false
not_false true e = absurd cc
not_false false e = refl

pub returns_so : (f : Fact) (pc : Source) → returns_well f pc ≡ true → ReturnsWell f pc
returns_so f pc e =
    let a = and_parts ((f.depth == 0) && not f.below && list_all (holds_own f) preserved_by_calls) (is_entry 14 pc) e in
    let b = and_parts ((f.depth == 0) && not f.below) (list_all (holds_own f) preserved_by_calls) a.0 in
    let c = and_parts (f.depth == 0) (not f.below) b.0 in
    record {
      depth = eqb-true f.depth 0 c.0;
      below = not_false f.below c.1;
      own = λ j h. entry_is (j + 4) (source f (j + 4)) (pick (holds_own f) preserved_by_calls (j + 4) b.1 (eight j h));
      link = entry_is 14 pc a.1;
    }

-- ---- a list of registers with those of a caller that it has already

module _ (c : Caller) (r : List ℕ) (count : length c.saved ≡ 8) (fifteen : length r ≡ 15) (sp : c.sp ≡ slice_index r SP)
    (saved : (j : ℕ) → j < 8 → slice_index r (j + 4) ≡ slice_index c.saved j) where
  abbrev last : List ℕ
  last = slice_index r 12 ∷ c.sp ∷ slice_index r LR ∷ []

  last_same : (i : ℕ) → i < 3 → get_or last i 0 ≡ get_or r (i + 12) 0
  last_same zero h = refl
  last_same (suc zero) h = sp
  last_same (suc (suc zero)) h = refl
  last_same (suc (suc (suc i))) h = absurd (omega (arith, h))

  after_four : (j : ℕ) → j < 11 → get_or (c.saved ++ last) j 0 ≡ get_or r (j + 4) 0
  after_four j h = elim (cases_lt j 8) [
    | inl low ↦ get_or_append_left c.saved last 0 j (let l : j < length c.saved = omega (arith, low, count) in l) ∙ sym (saved j low)
    | inr high ↦ get_or-append_right c.saved last 8 j 0 count high ∙ last_same (j - 8) (omega (arith, h, high)) ∙ ap (λ n. get_or r n 0) (let n : j - 8 + 12 ≡ j + 4 = omega (arith, high) in n)
  ]

  each : (k : ℕ) → k < 15 → get_or (with_caller c r) k 0 ≡ get_or r k 0
  each zero h = refl
  each (suc zero) h = refl
  each (suc (suc zero)) h = refl
  each (suc (suc (suc zero))) h = refl
  each (suc (suc (suc (suc j)))) h = after_four j (omega (arith, h)) ∙ ap (λ n. get_or r n 0) (let n : j + 4 ≡ suc (suc (suc (suc j))) = omega arith in n)

  pub caller_same : with_caller c r ≡ r
  caller_same =
      let all : length (with_caller c r) ≡ 15 = omega (arith, length-append c.saved last, count) in
      same_number_lists (with_caller c r) r (all ∙ sym fifteen) (λ k h. each k (omega (arith, h, all)))

-- ---- BX

module _ (x : Accepted) (is : IsProgram x) (s : Recorded) (k : Keeps x s) (at : StandsAt x s.first s.segments s.regs s.regs.pc) (m size : ℕ)
    (stands : standing_at (flow_graph_of x.image at.function) at.place ≡ Instruction (Bx m) size) where
  abbrev caller : Caller
  caller = s.first.caller

  left : (g : Fact) × (after_of (code x at.function at.marks).prologue ((code x at.function at.marks).lowers at.place) (address_of (flow_graph_of x.image at.function) at.place) (Bx m) at.fact ≡ Ok g)
  left = leaves (code x at.function at.marks) at.place at.fact (none_stands x at.function at.marks is.sound at.of.among at.of.are) at.state (Bx m)
      (stands_instruction (flow_graph_of x.image at.function) at.place (Bx m) size stands)

  well : ReturnsWell at.fact (source at.fact m)
  well = go (is_entry 14 (source at.fact m)) (returns_well at.fact (source at.fact m)) refl left.1
    where
      go : (e r : Bool) → returns_well at.fact (source at.fact m) ≡ r → cond (not e) (Err IndirectBranch) (cond r (Ok at.fact) (Err ReturnState)) ≡ Ok left.0
          → ReturnsWell at.fact (source at.fact m)
      go true true h i = returns_so at.fact (source at.fact m) h
      go true false h i = absurd cc
      go false r h i = absurd cc

  -- the register holds the return address
  holds_link : reg s.regs m ≡ caller.back
  holds_link = subst (λ (t : Source). Means at.holds.entry caller.sp t (reg s.regs m)) well.link (at.holds.describes.sources m) ∙ at.holds.link

  is_no_pc : (m == PC) ≡ false
  is_no_pc = elim (cases_eq m 15) [
    | inl same ↦ absurd (let none : source at.fact m ≡ Other = ap (source at.fact) same ∙ get_or_past at.fact.regs 14 Other (let l : length at.fact.regs ≤ 14 = omega (arith, at.holds.describes.long) in l) in
        let clash : Entry 14 ≡ Other = sym well.link ∙ none in cc)
    | inr other ↦ grind (arith, nat_tests)
  ]

  goes_to : operand s.regs m ≡ caller.back
  goes_to = ap (λ (b : Bool). cond b (pc_operand s.regs) (reg s.regs m)) is_no_pc ∙ holds_link

  odd_test : (caller.back % 2 == 0) ≡ false
  odd_test = let odd = k.whole.odd in grind (arith, nat_tests)

  pub stepped : step_for (profile_of x.image) s.regs (memory_of s) ≡ (Return caller.back, with_pc s.regs caller.back, memory_of s)
  stepped =
      let fetch : IsFetched x.image at.function s.segments is.image at.of.among k.image (Bx m) size s.regs (memory_of s) =
      fetched x.image at.function s.segments is.image at.of.among k.image at.place (Bx m) size s.regs (memory_of s) refl at.address stands in
      let small : caller.back % 2 ^ 32 ≡ caller.back = omega (arith, k.whole.back) in
      fetch.step
      ∙ ap (λ (v : ℕ). with_memory (if_odd v s.regs (return_to v s.regs)) (memory_of s)) goes_to
      ∙ ap (λ (b : Bool). with_memory (cond b (Trap (EvenTarget caller.back), s.regs) (return_to caller.back s.regs)) (memory_of s)) odd_test
      ∙ ap (λ (v : ℕ). let o : Stepping = (Return v, with_pc s.regs caller.back, memory_of s) in o) small

  pub sp_is : caller.sp ≡ reg_in s SP
  sp_is = omega (arith, at.holds.describes.sp well.below, well.depth)

  pub saved_is : (j : ℕ) → j < 8 → slice_index s.regs.r (j + 4) ≡ slice_index caller.saved j
  saved_is j h =
      let value : reg s.regs (j + 4) ≡ at.holds.entry (j + 4) = subst (λ (t : Source). Means at.holds.entry caller.sp t (reg s.regs (j + 4))) (well.own j h) (at.holds.describes.sources (j + 4)) in
      let no_link : (j + 4 == LR) ≡ false = grind (arith, nat_tests) in
      value ∙ at.holds.saved (j + 4) (omega arith) (omega (arith, h))
      ∙ ap (λ (b : Bool). cond b caller.back (slice_index caller.saved (j + 4 - 4))) no_link ∙ ap (λ n. slice_index caller.saved n) (let n : j + 4 - 4 ≡ j = omega arith in n)

  pub same_regs : caller_registers caller (with_pc s.regs caller.back) ≡ with_pc s.regs caller.back
  same_regs =
      let small : caller.back % 2 ^ 32 ≡ caller.back = omega (arith, k.whole.back) in
      ap (λ (r : List ℕ). let t : Regs = record s.regs { r = r; pc = even caller.back } in t) (caller_same caller s.regs.r k.whole.count k.sound.words.count sp_is saved_is)
      ∙ ap (λ (n : ℕ). let t : Regs = record s.regs { pc = even n } in t) (sym small)

  -- the activation that was called stands outside
  called_low : (a : Activation) (more : List Activation) → s.outer ≡ a ∷ more → caller.back ≡ NO_CALLER → ⊥
  called_low a more e f =
      let out : StandsAtCall x s.segments caller a = (subst (Chain x s.segments s.home caller) e k.chain).0 in
      let placed : IsPlaced out.function = subst IsPlaced out.of.among.2 (placed_at x.image out.of.among.0 out.function is.image out.of.among.1) in
      let inside = stands_inside (flow_graph_of x.image out.function) out.place out.instr out.size out.stands in
      omega (arith, out.back, placed.low, inside, f)

  pub finds : FindsCaller s caller.back (with_pc s.regs caller.back)
  finds = record {
    same = same_regs;
    last = λ e. (subst (Chain x s.segments s.home caller) e k.chain).0;
    called = called_low;
    slots = λ g h. let within = k.slots g h in (omega (arith, within.0, k.low), within.0, omega (arith, within.1, sp_is));
  }

  -- so it does the same in both machines
  pub bx_matches : (input : List ℕ) → Matches (machine_event (program_of x) (bytes_of s) input) (recorded_event (program_of x) s input)
  bx_matches input = returns_match (program_of x) s input caller.back (with_pc s.regs caller.back) (memory_of s) (knows s k.corresponds) k.sound.words stepped finds
