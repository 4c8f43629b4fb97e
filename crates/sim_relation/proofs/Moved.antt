-- What is known of activations rests on the words of the running stack alone: it holds over other segments whose words are the same there.
use Rattle.std.proofs.Common.{◌≡◌, ℕ, ◌+◌, ◌≤◌, List, [], ◌∷◌, arith, ◌-◌, inl, inr, ◌∙◌}
use Rattle.eh_bus.specs.Memory.{load_number}
use Rattle.eh_bus.specs.Segment.{Segment}
use Rattle.eh_bus.specs.Lists.{Has}
use Rattle.sim_machines.specs.Activations.{Activation, Caller}
use Rattle.sim_machines.specs.frame_check.Accepts.{Accepted}
use Rattle.eh_cxa.specs.Lists.{Cleanup}
use Rattle.sim_machines.specs.eh_phase.declared.phase2.Goal.{Goal}
use Rattle.thumb_core.specs.declared.regs.Regs.{Regs}
use Rattle.frame_facts.specs.declared.facts.Fact.{Fact}
use Rattle.frame_facts.specs.declared.saves.Prologue.{Prologue}
use Rattle.frame_facts.specs.declared.saves.Save.{Save}
use Rattle.sim_relation.specs.Holds.{SameAt, AllSameAt, IsKept, AreKept, Holds}
use Rattle.sim_relation.specs.Chain.{Chain, code, StandsAtCall}
use Rattle.sim_relation.proofs.Goes.{chain_top}
use Rattle.sim_relation.specs.Cleanups.{IsEntered, IsHeld}

-- the words of the running stack are the same
abbrev pub SameWords : ℕ × ℕ → List Segment → List Segment → Type 0
SameWords home old new = (g : ℕ) → home.0 ≤ g → g + 4 ≤ home.1 → load_number 4 new g ≡ load_number 4 old g

-- the slots of an activation same in the running stack
abbrev pub LieIn : ℕ × ℕ → Activation → Type 0
LieIn home a = (g : ℕ) → Has a.slots g → (home.0 ≤ g) × (g + 4 ≤ home.1)

abbrev pub AllLieIn : ℕ × ℕ → List Activation → Type 0
AllLieIn home [] = Unit {0}
AllLieIn home (a ∷ more) = LieIn home a × AllLieIn home more

pub same_at : (home : ℕ × ℕ) (old new : List Segment) (a : Activation) → SameWords home old new → LieIn home a → SameAt old new a
same_at home old new a same lies g h = let w = lies g h in same g w.0 w.1

pub all_same_at : (home : ℕ × ℕ) (old new : List Segment) (acts : List Activation) → SameWords home old new → AllLieIn home acts → AllSameAt old new acts
all_same_at home old new [] same lies = tt
all_same_at home old new (a ∷ more) same lies = (same_at home old new a same lies.0, all_same_at home old new more same lies.1)

-- the slots of the activations of a chain same in the running stack
pub chain_lies : (x : Accepted) (segments : List Segment) (home : ℕ × ℕ) (c : Caller) (acts : List Activation) → home.0 ≤ c.sp → Chain x segments home c acts → AllLieIn home acts
chain_lies x segments home c [] low h = tt
chain_lies x segments home c (a ∷ more) low h =
    let top = chain_top x segments home a.caller more h.1 in
    let room = h.0.room in
    ((λ g e. let w = h.0.slots g e in (omega (arith, w.0, low), omega (arith, w.1, top))), chain_lies x segments home a.caller more (omega (arith, room, low)) h.1)

module _ (home : ℕ × ℕ) (old new : List Segment) where
  pub kept_moves : (a : Activation) → SameAt old new a → (depth : ℕ) (s : Save) → IsKept old a depth s → IsKept new a depth s
  kept_moves a same depth s k = record {
    low = k.low;
    deep = k.deep;
    holds = same (a.caller.sp - s.offset) k.slot ∙ k.holds;
    slot = k.slot;
  }

  pub all_kept_move : (a : Activation) → SameAt old new a → (p : Prologue) (f : Fact) → AreKept old a p f → AreKept new a p f
  all_kept_move a same p f h = λ s c. kept_moves a same f.depth s (h s c)

  pub holds_moves : (p : Prologue) (f : Fact) (a : Activation) (regs : Regs) → SameAt old new a → Holds p f a old regs → Holds p f a new regs
  holds_moves p f a regs same h = record {
    entry = h.entry;
    saved = h.saved;
    link = h.link;
    describes = h.describes;
    lower = h.lower;
    saves = all_kept_move a same p f h.saves;
  }

  module _ (x : Accepted) where
    call_moves : (c : Caller) (a : Activation) → SameAt old new a → StandsAtCall x old c a → StandsAtCall x new c a
    call_moves c a same h = record {
      function = h.function;
      marks = h.marks;
      of = h.of;
      place = h.place;
      instr = h.instr;
      size = h.size;
      stands = h.stands;
      call = h.call;
      back = h.back;
      fact = h.fact;
      state = h.state;
      holds = holds_moves _ _ a _ same h.holds;
      room = h.room;
      whole = h.whole;
      slots = h.slots;
    }

    pub chain_moves : (c : Caller) (acts : List Activation) → AllSameAt old new acts → Chain x old home c acts → Chain x new home c acts
    chain_moves c [] same h = h
    chain_moves c (a ∷ more) same h = (call_moves c a same.0 h.0, chain_moves a.caller more same.1 h.1)

    entered_moves : (g : Goal) (c : Cleanup) (a : Activation) (more : List Activation) → SameAt old new a → IsEntered x old g c a more → IsEntered x new g c a more
    entered_moves g c a more same h = record {
      function = h.function;
      marks = h.marks;
      of = h.of;
      place = h.place;
      fact = h.fact;
      state = h.state;
      site = h.site;
      lower = h.lower;
      at_depth = h.at_depth;
      below = h.below;
      saves = all_kept_move a same (code x h.function h.marks).prologue h.fact h.saves;
      before = h.before;
      cleanup = h.cleanup;
      after = h.after;
      items = h.items;
      cleans = h.cleans;
      next = h.next;
      reach = h.reach;
    }

    pub held_moves : (g : Goal) (n : ℕ) (c : Cleanup) (acts : List Activation) → AllSameAt old new acts → IsHeld x old g n c acts → IsHeld x new g n c acts
    held_moves g n c [] same h = h
    held_moves g n c (a ∷ more) same (inl here) = inl (here.0, entered_moves g c a more same.0 here.1)
    held_moves g n c (a ∷ more) same (inr outside) = inr (outside.0, held_moves g n c more same.1 outside.1)
