-- One event, from what a step and what came after it have done.
use Rattle.std.specs.Prelude.{MatchOption}
use Rattle.std.proofs.Common.{◌≡◌, ℕ, ◌==◌, ◌<◌, List, [], cond, ◌⊎◌, inl, inr, Bool, true, false, Option, Some, None, IfSome, refl, sym, ap, subst, ◌∙◌}
use Rattle.std.specs.Bool.{OnFalse, OnTrue}
use Rattle.std.proofs.KnownBytes.{Appends-nil}
use Rattle.std.proofs.lemmas.List.Elements.{All-nil}
use Rattle.run_events.specs.Runs.{Event, Goes, Ends, GoesOn, Fails, EndsBy, Runs}
use Rattle.eh_bus.specs.Memory.{Memory}
use Rattle.run_gates.specs.Given.{OnGiven}
use Rattle.std.proofs.lemmas.Bool.{eqb-true}
use Rattle.eh_bus.specs.declared.fault.BusFault.{BusFault}
use Rattle.eh_bus.specs.declared.fault.BusFault.TheVariants as bus
use Rattle.thumb_core.specs.declared.regs.CoreTrap.{CoreTrap}
use Rattle.thumb_core.specs.declared.regs.CoreTrap.TheVariants as core
use Rattle.run_gates.specs.Ends.{is_fault, bus_end, trap_end}
use Rattle.run_gates.specs.Gates.{gate_fails, gate_may_fail, gate_event, r0}
use Rattle.run_gates.specs.declared.gates.TheConstants.{NO_CALLER}
use Rattle.run_images.specs.Start.{State}
use Rattle.run_flat.specs.Machine.{event_after_instr, in_memory, stepped_event, flat_event, may_fail, flat_machine, FlatRuns}
use Rattle.run_flat.specs.Returning.{may_return}
use Rattle.thumb_isa.specs.declared.instr.Instr.{Instr}
use Rattle.thumb_core.specs.Laws.{Leaves, LeavesMemory, ReturnsTo}
use Rattle.thumb_core.specs.Outcome.{Outcome}
use Rattle.thumb_core.specs.Step.{step_of}
use Rattle.thumb_core.specs.declared.regs.Regs.{Regs}
use Rattle.thumb_core.specs.declared.regs.Stepped.{Stepped}
use Rattle.thumb_core.specs.declared.regs.Stepped.TheVariants.{Done, Call, Return, Gate, Trap}
use Rattle.thumb_core.specs.declared.ends.End.{End}
use Rattle.thumb_core.specs.declared.ends.End.TheVariants as the_end

on_false : (b : Bool) (P Q : Type 0) → OnFalse b P → (P → Q) → OnFalse b Q
on_false true P Q p f = tt
on_false false P Q p f = f p

on_true : (b : Bool) (P Q : Type 0) → OnTrue b P → (P → Q) → OnTrue b Q
on_true true P Q p f = f p
on_true false P Q p f = tt

module _ (old : State) (what : Stepped) (regs : Regs) (memory : Memory) (is : (what, regs, memory) ≡ step_of old.regs old.memory) where
  event_is : (input : List ℕ) → flat_event old input ≡ in_memory old.memory memory (event_after_instr what old.regs regs input)
  unfolding flat_event
  event_is input = ap (λ (o : Outcome). stepped_event o old input) (sym is)

  may_be : (end : End) → gate_fails what end ≡ may_fail old end
  unfolding may_fail
  may_be end = ap (λ (o : Outcome). gate_fails o.0 end) is

  -- what ends a run leaves the memory
  ended_leaves : (w : Stepped) (end : End) (new : Regs) (input : List ℕ) (b : Bool) → LeavesMemory w old.memory memory
      → OnFalse b (event_after_instr w old.regs regs input ≡ Ends end new) → OnTrue b (Fails (gate_fails w) end old.regs new) → memory ≡ old.memory
  ended_leaves Done end new input true l is fails = absurd (let may = fails.may in cc)
  ended_leaves Done end new input false l is fails = absurd (no_end regs end new input is)
    where
      no_end : (regs : Regs) (end : End) (new : Regs) (input : List ℕ) → Goes regs [] input ≡ Ends end new → ⊥
      no_end regs end new input e = cc
  ended_leaves (Call target ret) end new input b l is fails = l
  ended_leaves (Return to) end new input b l is fails = l
  ended_leaves (Gate number) end new input b l is fails = l
  ended_leaves (Trap trap) end new input b l is fails = l

  pub went_on : (told left before now : Option (List ℕ)) (result : Option End) (new : Regs) → LeavesMemory what old.memory memory
      → IfSome told (λ bytes. MatchOption result
      (GoesOn (event_after_instr what old.regs regs bytes) new left before now)
      (λ end. EndsBy is_fault (gate_fails what) (event_after_instr what old.regs regs bytes) end old.regs new bytes left before now))
      → IfSome told (λ bytes. MatchOption result
      (GoesOn (flat_event old bytes) (record { regs = new; memory = memory }) left before now)
      (λ end. EndsBy is_fault (may_fail old) (flat_event old bytes) end old (record { regs = new; memory = memory }) bytes left before now))
  went_on None left before now result new l g = tt
  went_on (Some bytes) left before now None new l g = record {
    text = g.text;
    rest = g.rest;
    is = event_is bytes ∙ ap (in_memory old.memory memory) g.is;
    leaves = g.leaves;
    wrote = g.wrote;
  }
  went_on (Some bytes) left before now (Some end) new l g =
      let kept : old.memory ≡ memory = sym (ended_leaves what end new bytes (is_fault end) l g.is g.fails) in
      record {
        is = on_false (is_fault end) _ _ g.is (λ ends.
            event_is bytes ∙ ap (in_memory old.memory memory) ends ∙ ap (λ (m : Memory). Ends end (record { regs = new; memory = m })) kept);
        fails = on_true (is_fault end) _ _ g.fails (λ fails. record {
          may = sym (may_be end) ∙ Fails.may fails;
          same = ap (λ (m : Memory). record { regs = new; memory = m }) (sym kept) ∙ ap (λ (r : Regs). record { regs = r; memory = old.memory }) (Fails.same fails);
        });
        leaves = g.leaves;
        wrote = g.wrote;
      }

  -- the same on bytes that were given
  pub given_on : (before now : Option (List ℕ)) (result : Option End) (new : Regs) → LeavesMemory what old.memory memory
      → OnGiven (λ bytes left. MatchOption result
      (GoesOn (event_after_instr what old.regs regs bytes) new left before now)
      (λ end. EndsBy is_fault (gate_fails what) (event_after_instr what old.regs regs bytes) end old.regs new bytes left before now))
      → OnGiven (λ bytes left. MatchOption result
      (GoesOn (flat_event old bytes) (record { regs = new; memory = memory }) left before now)
      (λ end. EndsBy is_fault (may_fail old) (flat_event old bytes) end old (record { regs = new; memory = memory }) bytes left before now))
  given_on before now result new l g = record { bytes = g.bytes; left = g.left; are = g.are; done = went_on (Some g.bytes) (Some g.left) before now result new l g.done }

-- nothing was asked for
pub given_none : (Holds : List ℕ → Option (List ℕ) → Type 0) → Holds [] (Some []) → OnGiven Holds
given_none Holds holds = record { bytes = []; left = []; are = All-nil (λ (b : ℕ). b < 256); done = holds }

-- what an instruction goes on to, by what a source tells, and on bytes that it gave
abbrev pub ToldOn : Stepped → Option End → Regs → Regs → Regs → Option (List ℕ) → Option (List ℕ) → Option (List ℕ) → Option (List ℕ) → Type 0
ToldOn what result old regs new told left before now = IfSome told (λ bytes. MatchOption result (GoesOn (event_after_instr what old regs bytes) new left before now)
    (λ end. EndsBy is_fault (gate_fails what) (event_after_instr what old regs bytes) end old new bytes left before now))

abbrev pub WentOn : Stepped → Option End → Regs → Regs → Regs → Option (List ℕ) → Option (List ℕ) → Type 0
WentOn what result old regs new before now = OnGiven (λ bytes left. MatchOption result (GoesOn (event_after_instr what old regs bytes) new left before now)
    (λ end. EndsBy is_fault (gate_fails what) (event_after_instr what old regs bytes) end old new bytes left before now))

-- one that asks for nothing and goes on
pub told_goes : (what : Stepped) (old regs : Regs) (told out : Option (List ℕ)) → ((bytes : List ℕ) → event_after_instr what old regs bytes ≡ Goes regs [] bytes)
    → ToldOn what None old regs regs told told out out
told_goes what old regs None out e = tt
told_goes what old regs (Some bytes) out e = record { text = []; rest = bytes; is = e bytes; leaves = refl; wrote = Appends-nil out }

pub given_goes : (what : Stepped) (old regs : Regs) (out : Option (List ℕ)) → ((bytes : List ℕ) → event_after_instr what old regs bytes ≡ Goes regs [] bytes)
    → WentOn what None old regs regs out out
given_goes what old regs out e = given_none _ (record { text = []; rest = []; is = e []; leaves = refl; wrote = Appends-nil out })

-- an instruction that is no gate, no trap and no return goes on; so does a return, but to where nobody called
pub plain_goes : (what : Stepped) (old regs : Regs) → (what ≡ Done) ⊎ ((target : ℕ) × (ret : ℕ) × (what ≡ Call target ret))
    → (bytes : List ℕ) → event_after_instr what old regs bytes ≡ Goes regs [] bytes
plain_goes what old regs (inl e) bytes = ap (λ (w : Stepped). event_after_instr w old regs bytes) e
plain_goes what old regs (inr w) bytes = ap (λ (v : Stepped). event_after_instr v old regs bytes) w.2

pub returned_goes : (what : Stepped) (to : ℕ) (old regs : Regs) → what ≡ Return to → (to ≡ NO_CALLER → ⊥)
    → (bytes : List ℕ) → event_after_instr what old regs bytes ≡ Goes regs [] bytes
returned_goes what to old regs is called bytes = ap (λ (w : Stepped). event_after_instr w old regs bytes) is ∙ go (to == NO_CALLER) refl
  where
    go : (b : Bool) → (to == NO_CALLER) ≡ b → cond b (Ends (the_end.Exit (r0 regs)) old) (Goes regs [] bytes) ≡ Goes regs [] bytes
    go true e = absurd (called (eqb-true to NO_CALLER e))
    go false e = refl

pub returned_ends : (what : Stepped) (to : ℕ) (old regs : Regs) → what ≡ Return to → to ≡ NO_CALLER
    → (bytes : List ℕ) → event_after_instr what old regs bytes ≡ Ends (the_end.Exit (r0 regs)) old
returned_ends what to old regs is nobody bytes =
    ap (λ (w : Stepped). event_after_instr w old regs bytes) is ∙ ap (λ (n : ℕ). event_after_instr (Return n) old regs bytes) nobody

-- the registers are kept before what returns
abbrev instr_returns : Option (Instr × ℕ) → Bool
instr_returns None = false
instr_returns (Some at) = may_return at.0

pub kept_before : (what : Stepped) (i : Instr) (size to : ℕ) (old : Regs) (m : Memory) (after before : Regs) → what ≡ Return to
    → Leaves (Some (i, size)) what old m after → (may_return i ≡ true → before ≡ old) → before ≡ old
kept_before what i size to old m after before is leaves kept =
    by_return (subst (λ (w : Stepped). Leaves (Some (i, size)) w old m after) is leaves)
  where
    by_return : ReturnsTo (Some (i, size)) to old m after → before ≡ old
    by_return (inl r) = kept (ap instr_returns r.2)
    by_return (inr r) = kept (ap instr_returns r.2)

-- a trap of the core is no fault of the outside
bus_inside : (fault : BusFault) (pc : ℕ) → is_fault (bus_end fault pc) ≡ false
bus_inside (bus.Unmapped a) pc = refl
bus_inside (bus.Unaligned a) pc = refl
bus_inside (bus.ReadOnly a) pc = refl
bus_inside (bus.SavedSlot a) pc = refl
bus_inside (bus.Protected a) pc = refl
bus_inside (bus.NotExecutable a) pc = refl

trap_inside : (trap : CoreTrap) (pc : ℕ) → is_fault (trap_end trap pc) ≡ false
trap_inside (core.Undefined first) pc = refl
trap_inside (core.Unpredictable first) pc = refl
trap_inside (core.NotInProfile first) pc = refl
trap_inside (core.EvenTarget target) pc = refl
trap_inside (core.Memory fault) pc = bus_inside fault pc

pub by_trap : (trap : CoreTrap) (pc : ℕ) (end : End) → end ≡ trap_end trap pc → is_fault end ≡ false
by_trap trap pc end e = ap (λ (x : End). is_fault x) e ∙ trap_inside trap pc

pub trap_ends : (what : Stepped) (trap : CoreTrap) (old regs : Regs) (end : End) → what ≡ Trap trap → end ≡ trap_end trap old.pc
    → (bytes : List ℕ) → event_after_instr what old regs bytes ≡ Ends end old
trap_ends what trap old regs end is e bytes = ap (λ (w : Stepped). event_after_instr w old regs bytes) is ∙ ap (λ (x : End). Ends x old) (sym e)

-- one that ends the run by no fault of the outside
module _ (what : Stepped) (end : End) (old regs : Regs) (out : Option (List ℕ)) (inside : is_fault end ≡ false)
    (e : (bytes : List ℕ) → event_after_instr what old regs bytes ≡ Ends end old) where
  ends_by : (bytes : List ℕ) → EndsBy is_fault (gate_fails what) (event_after_instr what old regs bytes) end old old bytes (Some bytes) out out
  ends_by bytes = record { is = any (is_fault end) (e bytes); fails = none (is_fault end) inside; leaves = refl; wrote = Appends-nil out }
    where
      any : (b : Bool) → event_after_instr what old regs bytes ≡ Ends end old → OnFalse b (event_after_instr what old regs bytes ≡ Ends end old)
      any true e = tt
      any false e = e

      none : (b : Bool) → b ≡ false → OnTrue b (Fails (gate_fails what) end old old)
      none true f = absurd cc
      none false f = tt

  pub told_ends : (told : Option (List ℕ)) → ToldOn what (Some end) old regs old told told out out
  told_ends None = tt
  told_ends (Some bytes) = ends_by bytes

  pub given_ends : WentOn what (Some end) old regs old out out
  given_ends = given_none _ (ends_by [])

-- a gate: the registers before it are those after its instruction, but for pc
module _ (what : Stepped) (number : ℕ) (at : Option (Instr × ℕ)) (old regs new : Regs) (m : Memory) (before now : Option (List ℕ)) (result : Option End)
    (is : what ≡ Gate number) (leaves : Leaves at what old m regs) where
  same : record regs { pc = old.pc } ≡ old
  same =
      let l : Leaves at (Gate number) old m regs = subst (λ (w : Stepped). Leaves at w old m regs) is leaves in
      ap (λ (r : Regs). record r { pc = old.pc }) l.2

  gate_told : (told left : Option (List ℕ)) → IfSome told (λ bytes. let begun : Regs = record regs { pc = old.pc } in MatchOption result
      (GoesOn (gate_event number begun regs bytes) new left before now)
      (λ end. EndsBy is_fault (gate_may_fail number) (gate_event number begun regs bytes) end begun new bytes left before now))
      → ToldOn what result old regs new told left before now
  gate_told told left g =
      let there : ToldOn (Gate number) result old regs new told left before now = subst (λ (r : Regs). IfSome told (λ bytes. MatchOption result
      (GoesOn (gate_event number r regs bytes) new left before now)
      (λ end. EndsBy is_fault (gate_may_fail number) (gate_event number r regs bytes) end r new bytes left before now))) same g in
      subst (λ (w : Stepped). ToldOn w result old regs new told left before now) (sym is) there

  gate_given : OnGiven (λ bytes left. let begun : Regs = record regs { pc = old.pc } in MatchOption result
      (GoesOn (gate_event number begun regs bytes) new left before now)
      (λ end. EndsBy is_fault (gate_may_fail number) (gate_event number begun regs bytes) end begun new bytes left before now))
      → WentOn what result old regs new before now
  gate_given g = record { bytes = g.bytes; left = g.left; are = g.are; done = gate_told (Some g.bytes) (Some g.left) g.done }

-- the same of an event, from what a step did
module _ (old : State) (what : Stepped) (regs : Regs) (memory : Memory) (is : (what, regs, memory) ≡ step_of old.regs old.memory)
    (leaves : LeavesMemory what old.memory memory) where
  pub goes_told : (told out : Option (List ℕ)) → ((bytes : List ℕ) → event_after_instr what old.regs regs bytes ≡ Goes regs [] bytes)
      → IfSome told (λ bytes. GoesOn (flat_event old bytes) (record { regs = regs; memory = memory }) told out out)
  goes_told told out e = went_on old what regs memory is told told out out None regs leaves (told_goes what old.regs regs told out e)

  pub goes_given : (out : Option (List ℕ)) → ((bytes : List ℕ) → event_after_instr what old.regs regs bytes ≡ Goes regs [] bytes)
      → OnGiven (λ bytes left. GoesOn (flat_event old bytes) (record { regs = regs; memory = memory }) left out out)
  goes_given out e = given_on old what regs memory is out out None regs leaves (given_goes what old.regs regs out e)

  pub ends_told : (told out : Option (List ℕ)) (end : End) (new : Regs) → new ≡ old.regs → is_fault end ≡ false
      → ((bytes : List ℕ) → event_after_instr what old.regs regs bytes ≡ Ends end old.regs)
      → IfSome told (λ bytes. EndsBy is_fault (may_fail old) (flat_event old bytes) end old (record { regs = new; memory = memory }) bytes told out out)
  ends_told told out end new same inside e =
      went_on old what regs memory is told told out out (Some end) new leaves
      (subst (λ (r : Regs). ToldOn what (Some end) old.regs regs r told told out out) (sym same) (told_ends what end old.regs regs out inside e told))

  pub ends_given : (out : Option (List ℕ)) (end : End) (new : Regs) → new ≡ old.regs → is_fault end ≡ false
      → ((bytes : List ℕ) → event_after_instr what old.regs regs bytes ≡ Ends end old.regs)
      → OnGiven (λ bytes left. EndsBy is_fault (may_fail old) (flat_event old bytes) end old (record { regs = new; memory = memory }) bytes left out out)
  ends_given out end new same inside e =
      given_on old what regs memory is out out (Some end) new leaves
      (subst (λ (r : Regs). WentOn what (Some end) old.regs regs r out out) (sym same) (given_ends what end old.regs regs out inside e))

  pub gate_told_on : (number : ℕ) (at : Option (Instr × ℕ)) → what ≡ Gate number → Leaves at what old.regs old.memory regs
      → (told left before now : Option (List ℕ)) (result : Option End) (new : Regs)
      → IfSome told (λ bytes. MatchOption result
      (GoesOn (gate_event number (record regs { pc = old.regs.pc }) regs bytes) new left before now)
      (λ end. EndsBy is_fault (gate_may_fail number) (gate_event number (record regs { pc = old.regs.pc }) regs bytes) end (record regs { pc = old.regs.pc }) new bytes left before now))
      → IfSome told (λ bytes. MatchOption result
      (GoesOn (flat_event old bytes) (record { regs = new; memory = memory }) left before now)
      (λ end. EndsBy is_fault (may_fail old) (flat_event old bytes) end old (record { regs = new; memory = memory }) bytes left before now))
  gate_told_on number at asks after told left before now result new g =
      went_on old what regs memory is told left before now result new leaves
      (gate_told what number at old.regs regs new old.memory before now result asks after told left g)

  pub gate_given_on : (number : ℕ) (at : Option (Instr × ℕ)) → what ≡ Gate number → Leaves at what old.regs old.memory regs
      → (before now : Option (List ℕ)) (result : Option End) (new : Regs)
      → OnGiven (λ bytes left. MatchOption result
      (GoesOn (gate_event number (record regs { pc = old.regs.pc }) regs bytes) new left before now)
      (λ end. EndsBy is_fault (gate_may_fail number) (gate_event number (record regs { pc = old.regs.pc }) regs bytes) end (record regs { pc = old.regs.pc }) new bytes left before now))
      → OnGiven (λ bytes left. MatchOption result
      (GoesOn (flat_event old bytes) (record { regs = new; memory = memory }) left before now)
      (λ end. EndsBy is_fault (may_fail old) (flat_event old bytes) end old (record { regs = new; memory = memory }) bytes left before now))
  gate_given_on number at asks after before now result new g =
      given_on old what regs memory is before now result new leaves
      (gate_given what number at old.regs regs new old.memory before now result asks after g)

-- a run, whatever it had to spare
pub some_unspent : (budget : ℕ) (old : State) (end : End) (new : State) (unspent : ℕ) (told left before now : Option (List ℕ))
    → IfSome told (λ input. Runs flat_machine budget old input end new unspent left before now)
    → IfSome told (λ input. FlatRuns budget old input end new left before now)
some_unspent budget old end new unspent None left before now r = tt
some_unspent budget old end new unspent (Some input) left before now r = (unspent, r)
