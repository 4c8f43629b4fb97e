-- Events that stay in the first activation, on to the next instruction, with sp and memory as they were.
use Rattle.std.proofs.Common.{◌≡◌, ℕ, Bool, cond, filter, ap, arith, List, [], ◌∷◌, map, refl, ◌∙◌, ◌≤◌, ◌+◌, ◌/◌, ◌%◌, true, false, Ok, slice_index, sym, subst}
use Rattle.std.proofs.lemmas.Bool.{le-ltb}
use Rattle.eh_bus.specs.Memory.{stays_guarded}
use Rattle.sim_machines.specs.Activations.{Activation, release_raised, Recorded, staying_words, Caller, reg_in}
use Rattle.sim_machines.specs.ActivationMachine.{update_slots}
use Rattle.eh_bus.specs.Segment.{Segment}
use Rattle.sim_machines.specs.frame_check.Accepts.{Accepted, IsInstr}
use Rattle.eh_bus.specs.Lists.{Has}
use Rattle.run_images.specs.Start.{begins_function}
use Rattle.thumb_isa.specs.declared.instr.Instr.{Instr}
use Rattle.thumb_core.specs.Laws.{AreSound}
use Rattle.thumb_core.specs.declared.regs.TheConstants.{SP}
use Rattle.thumb_core.specs.declared.regs.Regs.{Regs}
use Rattle.frame_facts.specs.declared.facts.Fact.{Fact}
use Rattle.frame_facts.specs.After.{after_of}
use Rattle.frame_code.specs.declared.standing.Standing.TheVariants.{Instruction}
use Rattle.sim_machines.specs.frame_graph.Places.{address_of, standing_at}
use Rattle.frame_code.specs.Branches.{reaches_next}
use Rattle.sim_machines.specs.frame_check.Judged.{IsPlaced}
use Rattle.sim_machines.specs.frame_check.Roots.{flow_graph_of}
use Rattle.sim_machines.specs.frame_check.Roles.{look}
use Rattle.sim_machines.proofs.frame_check.Wells.{placed_at}
use Rattle.sim_relation.specs.Chain.{Chain, code, StandsAt}
use Rattle.sim_relation.specs.Cleanups.{AreInProgress}
use Rattle.sim_relation.specs.Holds.{Holds}
use Rattle.sim_relation.specs.Stands.{Keeps, IsProgram}
use Rattle.sim_code.proofs.Places.{next_edge}
use Rattle.sim_relation.proofs.Flows.{none_stands, goes_straight, stands_instruction}

-- ---- where sp stays no slot leaves

freed_at_one_sp : (home : ℕ × ℕ) (sp : ℕ) (a : Activation) → release_raised home sp sp a ≡ a
freed_at_one_sp home sp a = ap (λ (b : Bool). let r : Activation = record a { slots = cond b (filter (stays_guarded home sp) a.slots) a.slots } in r) (le-ltb sp sp (omega arith))

all_at_one_sp : (home : ℕ × ℕ) (sp : ℕ) (acts : List Activation) → map (λ (a : Activation). release_raised home sp sp a) acts ≡ acts
all_at_one_sp home sp [] = refl
all_at_one_sp home sp (a ∷ more) = rw (all_at_one_sp home sp more) (ap (λ (b : Activation). b ∷ more) (freed_at_one_sp home sp a))

pub reguarded_at_one_sp : (saves count old new : ℕ) (t : Recorded) → count ≡ 0 → new ≡ old → update_slots saves count old new t ≡ t
reguarded_at_one_sp saves count old new t none same_sp =
    ap (λ (n : ℕ). update_slots saves n old new t) none ∙ ap (λ (n : ℕ). update_slots saves 0 old n t) same_sp
    ∙ ap (λ (acts : List Activation). let r : Recorded = record t { first = release_raised t.home old old t.first; outer = acts; beyond = staying_words t.home old old t.beyond } in r) (all_at_one_sp t.home old t.outer)
    ∙ ap (λ (a : Activation). let r : Recorded = record t { first = a; beyond = staying_words t.home old old t.beyond } in r) (freed_at_one_sp t.home old t.first)
    ∙ ap (λ (b : Bool). let r : Recorded = record t { beyond = cond b (filter (stays_guarded t.home old) t.beyond) t.beyond } in r) (le-ltb old old (omega arith))

-- ---- entry sps lie in the stack

pub chain_top : (x : Accepted) (segments : List Segment) (home : ℕ × ℕ) (c : Caller) (acts : List Activation) → Chain x segments home c acts → c.sp ≤ home.1
chain_top x segments home c [] h = omega (arith, h.1)
chain_top x segments home c (a ∷ more) h = let above = chain_top x segments home a.caller more h.1 in let room = h.0.room in omega (arith, above, room)

-- ---- on to the next instruction

module _ (x : Accepted) (is : IsProgram x) (s : Recorded) (k : Keeps x s) (at : StandsAt x s.first s.segments s.regs s.regs.pc) (i : Instr) (size : ℕ)
    (stands : standing_at (flow_graph_of x.image at.function) at.place ≡ Instruction i size) where
  even : at.function.start % 2 ≡ 0
  even = (subst IsPlaced at.of.among.2 (placed_at x.image at.of.among.0 at.function is.image at.of.among.1)).even

  -- the state after the instruction, where it goes on
  pub next_stands : (g : Fact) (regs : Regs) (segments : List Segment) (a : Activation) → a.function ≡ s.first.function → reaches_next i ≡ true
      → after_of (code x at.function at.marks).prologue ((code x at.function at.marks).lowers at.place) (address_of (flow_graph_of x.image at.function) at.place) i at.fact ≡ Ok g
      → regs.pc ≡ s.regs.pc + size → Holds (code x at.function at.marks).prologue g a segments regs
      → (look x.roles regs.pc).is_instr ≡ true → begins_function x.image.functions regs.pc ≡ false → StandsAt x a segments regs regs.pc
  next_stands g regs segments a same on e pc holds reached fresh =
      let to : regs.pc ≡ address_of (flow_graph_of x.image at.function) at.place + size = pc ∙ ap (λ n. n + size) at.address in
      let instr : IsInstr x.image x.image.functions (address_of (flow_graph_of x.image at.function) at.place + size) =
      subst (λ n. IsInstr x.image x.image.functions n) to ((is.sound.roles.instr regs.pc).0 reached) in
      let fresh_there : begins_function x.image.functions (address_of (flow_graph_of x.image at.function) at.place + size) ≡ false = subst (λ n. begins_function x.image.functions n ≡ false) to fresh in
      let edge = next_edge x.image at.function at.place i size is.image at.of.among even stands on instr fresh_there in
      record {
        function = at.function;
        marks = at.marks;
        of = record { among = at.of.among; begins = at.of.begins ∙ sym same; are = at.of.are };
        place = at.place + size / 2;
        address = to ∙ sym edge.1;
        fact = g;
        state = goes_straight (code x at.function at.marks) at.place at.fact (none_stands x at.function at.marks is.sound at.of.among at.of.are) at.state i g (at.place + size / 2)
            (stands_instruction (flow_graph_of x.image at.function) at.place i size stands) e edge.0;
        holds = holds;
      }

  -- with registers after the instruction, of which sp is as before
  pub simple_keeps : (g : Fact) (regs : Regs) → reaches_next i ≡ true
      → after_of (code x at.function at.marks).prologue ((code x at.function at.marks).lowers at.place) (address_of (flow_graph_of x.image at.function) at.place) i at.fact ≡ Ok g
      → regs.pc ≡ s.regs.pc + size → slice_index regs.r SP ≡ reg_in s SP → AreSound regs.r regs.pc → Holds (code x at.function at.marks).prologue g s.first s.segments regs
      → begins_function x.image.functions regs.pc ≡ false → Keeps x (record s { regs = regs })
  simple_keeps g regs on e pc sp sound holds fresh = record {
    corresponds = record { map = k.corresponds.map; stands = k.corresponds.stands };
    counted = k.counted;
    image = k.image;
    sound = sound;
    low = subst (λ n. s.home.0 ≤ n) (sym sp) k.low;
    high = subst (λ n. n ≤ s.first.caller.sp) (sym sp) k.high;
    whole = k.whole;
    slots = subst (λ n. (g : ℕ) → Has s.first.slots g → (n ≤ g) × (g + 4 ≤ s.first.caller.sp)) (sym sp) k.slots;
    first = λ reached. next_stands g regs s.segments s.first refl on e pc holds reached fresh;
    beyond = k.beyond;
    chain = k.chain;
    cleanups = subst (λ n. AreInProgress x (record s { regs = regs }) n s.cleanups) (sym sp) k.cleanups;
  }
