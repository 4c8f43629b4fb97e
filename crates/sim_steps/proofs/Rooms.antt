-- A call has a word on the stack: where the depth is below 4 a cause stands at it.
use Rattle.std.proofs.Common.{◌≡◌, ℕ, ◌⊎◌, inl, inr, Bool, true, false, cond, List, [], ◌∷◌, find, Some, None, refl, subst, ◌<◌, nat_lt, Option, sym, ◌∙◌, arith, ◌+◌, ◌%◌, ◌^◌, ◌≤◌, ◌++◌, ap}
use Rattle.std.specs.Prelude.{Contains, option_and_then}
use Rattle.std.proofs.lemmas.Bool.{lt-ltb, cases_lt}
use Rattle.std.specs.Option.{option_map_or}
use Rattle.std.proofs.lemmas.List.Elements.{Contains-append_left, Contains-append_right}
use Rattle.eh_bus.specs.Lists.{Has}
use Rattle.thumb_core.specs.Words.{numbers}
use Rattle.frame_facts.specs.declared.cause.FrameCause.{FrameCause}
use Rattle.frame_dataflow.proofs.Work.{contains_head}
use Rattle.thumb_core.specs.declared.regs.TheConstants.{LR}
use Rattle.frame_facts.specs.declared.cause.FrameCause.TheVariants.{CallState, Undecodable, BranchOut, CallNotFunction, PadDepth, ThrowInLeafScope}
use Rattle.frame_facts.specs.declared.facts.Fact.{Fact}
use Rattle.sim_machines.specs.frame_flow.Causes.{cause_if, causes_of_result, entry_causes, is_call, causes_at, site_causes, instruction_causes, after_at, throws_in_leaf}
use Rattle.thumb_core.specs.Registers.{reg}
use Rattle.eh_bytecode.specs.declared.recipe.Recipe.{Recipe}
use Rattle.frame_facts.specs.declared.saves.Prologue.{Prologue}
use Rattle.frame_facts.specs.Agrees.{fails_register, agreement_by, agreement, is_lost}
use Rattle.frame_facts.specs.Branches.{call_changes}
use Rattle.frame_facts.specs.Facts.{forget_registers}
use Rattle.frame_graph.specs.frame_entries.declared.unwinding.EntrySummary.{EntrySummary}
use Rattle.frame_graph.specs.frame_entries.declared.unwinding.EntrySummary.TheVariants.{Finds, Refused, BadBytecode as BadCodes, GenericModel as Generic}
use Rattle.thumb_isa.specs.declared.instr.Instr.{Instr}
use Rattle.thumb_isa.specs.declared.instr.Instr.TheVariants.{Bl, Blx}
use Rattle.frame_graph.specs.Sites.{site_of, site_at, unwinding_at, pads_out}
use Rattle.frame_graph.specs.Places.{address_of}
use Rattle.frame_graph.specs.Edges.{instruction_at, is_undecodable, branches_out, calls_nothing}
use Rattle.sim_machines.specs.frame_flow.Flows.{IsStateOf, NoneStands}
use Rattle.sim_machines.specs.frame_flow.Framed.{FramedFunction}
use Rattle.sim_relation.proofs.Moves.{clobbered_frame}
use Rattle.sim_steps.proofs.Jumps.{not_found}

-- ---- a call has a word on the stack

find_none : (q : ℕ → Bool) (xs : List ℕ) (k : ℕ) → find q xs ≡ None → Has xs k → q k ≡ false
find_none q [] k e h = absurd h
find_none q (j ∷ xs) k e h = go (q j) refl e (λ u v. find_none q xs k u v) h
  where
    go : (b : Bool) → q j ≡ b → cond b (Some j) (find q xs) ≡ None → (find q xs ≡ None → Has xs k → q k ≡ false) → (j ≡ k) ⊎ Has xs k → q k ≡ false
    go true is none later w = absurd cc
    go false is none later (inl same) = subst (λ n. q n ≡ false) same is
    go false is none later (inr there) = later none there

fourteen : Has numbers 14
fourteen = inr (inr (inr (inr (inr (inr (inr (inr (inr (inr (inr (inr (inr (inr (inl refl))))))))))))))

abbrev Shows : List FrameCause → Type 0
Shows cs = (c : FrameCause) × Contains cs c

no_room_shown : (f : Fact) → f.depth < 4 → Shows (cause_if (nat_lt f.depth 4) (CallState LR))
no_room_shown f low = (CallState LR, rw (lt-ltb f.depth 4 low) (contains_head (CallState LR) []))

no_room_fails : (q : Prologue) (r : Recipe) (f : Fact) → f.depth < 4 → Shows (causes_of_result (agreement q r true f))
no_room_fails q r f low = go (find (fails_register q r true (forget_registers call_changes f)) numbers) refl
  where
    test : fails_register q r true (forget_registers call_changes f) 14 ≡ true
    test = let depth = (clobbered_frame call_changes f).0 in rw (lt-ltb (forget_registers call_changes f).depth 4 (omega (arith, depth, low))) refl

    go : (o : Option ℕ) → find (fails_register q r true (forget_registers call_changes f)) numbers ≡ o → Shows (causes_of_result (agreement_by o (is_lost r (forget_registers call_changes f)) r.base))
    go (Some reg) e = (CallState reg, contains_head (CallState reg) [])
    go None e = absurd (let clash : true ≡ false = sym test ∙ find_none (fails_register q r true (forget_registers call_changes f)) numbers 14 e fourteen in cc)

no_room : (q : Prologue) (u : EntrySummary) (f : Fact) → f.depth < 4 → Shows (entry_causes q u true f)
no_room q (Finds r) f low = no_room_fails q r f low
no_room q Refused f low = no_room_shown f low
no_room q BadCodes f low = no_room_shown f low
no_room q Generic f low = no_room_shown f low

call_site : (a : ℕ) (i : Instr) → is_call i ≡ true → (site : ℕ) × (site_of a i ≡ Some site)
call_site a (Bl off) e = ((a + 2) % 2 ^ 32, refl)
call_site a (Blx m) e = (a, refl)
call_site a i e = absurd cc

module _ (c : FramedFunction) (p : ℕ) (f : Fact) (none : NoneStands c) (state : IsStateOf c p f) (i : Instr) (at : instruction_at c.flow_graph p ≡ Some i) (call : is_call i ≡ true) where
  site : (site : ℕ) × (site_at c.flow_graph p ≡ Some site)
  site = let w = call_site (address_of c.flow_graph p) i call in (w.0, ap (λ (o : Option Instr). option_and_then (site_of (address_of c.flow_graph p)) o) at ∙ w.1)

  shown_at_call : f.depth < 4 → Shows (causes_at c p f)
  unfolding causes_at
  shown_at_call low =
      let w = no_room c.prologue (unwinding_at c.flow_graph site.0) f low in
      let here : Contains (site_causes c true f site.0) w.0 =
      Contains-append_left (entry_causes c.prologue (unwinding_at c.flow_graph site.0) true f) (cause_if (pads_out c.flow_graph site.0) PadDepth ++ cause_if (throws_in_leaf c.flow_graph site.0 true f) ThrowInLeafScope) w.0 w.1 in
      let by_site : Contains (option_map_or (site_causes c (is_call i) f) (site_at c.flow_graph p) []) w.0 =
      subst (λ (o : Option ℕ). Contains (option_map_or (site_causes c (is_call i) f) o []) w.0) (sym site.1) (subst (λ (b : Bool). Contains (site_causes c b f site.0) w.0) (sym call) here) in
      let by_instr : Contains (instruction_causes c p f i) w.0 = Contains-append_right (causes_of_result (after_at c p f i)) _ w.0 by_site in
      let last : Contains (option_map_or (instruction_causes c p f) (instruction_at c.flow_graph p) []) w.0 =
      subst (λ (o : Option Instr). Contains (option_map_or (instruction_causes c p f) o []) w.0) (sym at) by_instr in (
        w.0,
        Contains-append_right (cause_if (is_undecodable c.flow_graph p) Undecodable) _ w.0
            (Contains-append_right (cause_if (branches_out c.flow_graph p) BranchOut) _ w.0 (Contains-append_right (cause_if (calls_nothing c.flow_graph p) CallNotFunction) _ w.0 last)),
      )

  pub has_room : 4 ≤ f.depth
  has_room = elim (cases_lt f.depth 4) [
    | inl low ↦ absurd (let w = shown_at_call low in not_found c p f none state w.0 w.1)
    | inr high ↦ high
  ]
