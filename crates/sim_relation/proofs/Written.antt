-- A change of memory that leaves the words of slots, as every store does: what was kept is kept. Of the first activation slots below sp may leave.
use Rattle.std.proofs.Common.{◌≡◌, ℕ, ◌≤◌, List, [], ◌∷◌, ◌+◌, ◌-◌, inl, inr, ◌∙◌, arith, ◌*◌, ◌%◌, ◌<◌, true, refl, sym, ap, subst}
use Rattle.std.proofs.lemmas.Bool.{le-leb, lt-ltb}
use Rattle.eh_bus.specs.Lists.{Has}
use Rattle.eh_bus.specs.Memory.{load_number, is_closed, Memory, host_load}
use Rattle.eh_bus.specs.Segment.{Segment}
use Rattle.sim_machines.specs.Activations.{Activation, Caller, Recorded, memory_of, InProgress, cleanups_in}
use Rattle.eh_cxa.specs.Lists.{Cleanup, slots}
use Rattle.sim_machines.specs.eh_phase.declared.phase2.Goal.{Goal}
use Rattle.thumb_core.specs.declared.regs.TheConstants.{SP}
use Rattle.thumb_core.specs.declared.regs.Regs.{Regs}
use Rattle.thumb_core.specs.Registers.{reg}
use Rattle.frame_facts.specs.declared.facts.Fact.{Fact}
use Rattle.frame_facts.specs.declared.saves.Prologue.{Prologue}
use Rattle.frame_facts.specs.declared.saves.Save.{Save}
use Rattle.sim_machines.specs.frame_check.Accepts.{Accepted}
use Rattle.eh_bus.specs.declared.map.TheConstants.{CLOSED_SIZE, POOL_END, POOL_START, SLOT_SIZE}
use Rattle.eh_cxa.specs.declared.layout.TheConstants.{SLOTS, CLOSED_WORDS, BARRIER_SP, BARRIER_DESCRIPTOR}
use Rattle.eh_cxa.specs.Words.{word}
use Rattle.eh_cxa.specs.Stands.{Chain as Linked}
use Rattle.eh_cxa.proofs.Pools.{slot_small}
use Rattle.sim_relation.specs.Holds.{Holds, IsKept, AreKept}
use Rattle.sim_relation.specs.Chain.{code, StandsAtCall, Chain}
use Rattle.sim_relation.specs.Cleanups.{IsEntered, IsHeld, goal_at, IsWithin, AreInProgress}

-- the words of slots from low on hold what they held, and are slots
abbrev pub Moves : List Segment → List Segment → ℕ → Activation → List ℕ → Type 0
Moves old new low a gs = (g : ℕ) → Has a.slots g → low ≤ g → Has gs g × (load_number 4 new g ≡ load_number 4 old g)

abbrev pub SameWords : List Segment → List Segment → List Activation → Type 0
SameWords old new [] = Unit {0}
SameWords old new (a ∷ more) = ((g : ℕ) → Has a.slots g → load_number 4 new g ≡ load_number 4 old g) × SameWords old new more

abbrev pub with_gs : Activation → List ℕ → Activation
with_gs a gs = record a { slots = gs }

module _ (old new : List Segment) where
  pub kept_moves : (low : ℕ) (a : Activation) (gs : List ℕ) (depth : ℕ) (s : Save) → Moves old new low a gs → low + depth ≤ a.caller.sp → IsKept old a depth s → IsKept new (with_gs a gs) depth s
  kept_moves low a gs depth s m l k =
      let w = m (a.caller.sp - s.offset) k.slot (omega (arith, l, k.deep)) in
      record { low = k.low; deep = k.deep; holds = w.1 ∙ k.holds; slot = w.0 }

  pub all_kept_moves : (low : ℕ) (a : Activation) (gs : List ℕ) (p : Prologue) (f : Fact) → Moves old new low a gs → low + f.depth ≤ a.caller.sp → AreKept old a p f → AreKept new (with_gs a gs) p f
  all_kept_moves low a gs p f m l k = λ s c. kept_moves low a gs f.depth s m l (k s c)

  pub holds_moves : (p : Prologue) (f : Fact) (a : Activation) (gs : List ℕ) (regs : Regs) → Moves old new (reg regs SP) a gs → Holds p f a old regs → Holds p f (with_gs a gs) new regs
  holds_moves p f a gs regs m h = record {
    entry = h.entry;
    saved = h.saved;
    link = h.link;
    describes = h.describes;
    lower = h.lower;
    saves = all_kept_moves (reg regs SP) a gs p f m h.lower h.saves;
  }

  module _ (x : Accepted) where
    pub call_moves : (c : Caller) (a : Activation) → ((g : ℕ) → Has a.slots g → load_number 4 new g ≡ load_number 4 old g) → StandsAtCall x old c a → StandsAtCall x new c a
    call_moves c a same s = record {
      function = s.function;
      marks = s.marks;
      of = s.of;
      place = s.place;
      instr = s.instr;
      size = s.size;
      stands = s.stands;
      call = s.call;
      back = s.back;
      fact = s.fact;
      state = s.state;
      holds = holds_moves _ _ a a.slots _ (λ g h l. (h, same g h)) s.holds;
      room = s.room;
      whole = s.whole;
      slots = s.slots;
    }

    pub chain_moves : (home : ℕ × ℕ) (c : Caller) (acts : List Activation) → SameWords old new acts → Chain x old home c acts → Chain x new home c acts
    chain_moves home c [] same h = h
    chain_moves home c (a ∷ more) same h = (call_moves c a same.0 h.0, chain_moves home a.caller more same.1 h.1)

    pub entered_moves : (low : ℕ) (g : Goal) (c : Cleanup) (a : Activation) (gs : List ℕ) (more : List Activation) → Moves old new low a gs → low ≤ c.sp → IsEntered x old g c a more → IsEntered x new g c (with_gs a gs) more
    entered_moves low g c a gs more m l e = record {
      function = e.function;
      marks = e.marks;
      of = record { among = e.of.among; begins = e.of.begins; are = e.of.are };
      place = e.place;
      fact = e.fact;
      state = e.state;
      site = e.site;
      lower = e.lower;
      at_depth = e.at_depth;
      below = e.below;
      saves = all_kept_moves low a gs (code x e.function e.marks).prologue e.fact m (omega (arith, l, e.lower)) e.saves;
      before = e.before;
      cleanup = e.cleanup;
      after = e.after;
      items = e.items;
      cleans = e.cleans;
      next = e.next;
      reach = e.reach;
    }

    pub outer_moves : (g : Goal) (n : ℕ) (c : Cleanup) (acts : List Activation) → SameWords old new acts → IsHeld x old g n c acts → IsHeld x new g n c acts
    outer_moves g n c [] same h = h
    outer_moves g n c (a ∷ more) same (inl here) = inl (here.0, entered_moves 0 g c a a.slots more (λ v h l. (h, same.0 v h)) (omega arith) here.1)
    outer_moves g n c (a ∷ more) same (inr outside) = inr (outside.0, outer_moves g n c more same.1 outside.1)

    pub held_moves : (low : ℕ) (g : Goal) (n : ℕ) (c : Cleanup) (a : Activation) (gs : List ℕ) (more : List Activation) → Moves old new low a gs → SameWords old new more → low ≤ c.sp
        → IsHeld x old g n c (a ∷ more) → IsHeld x new g n c (with_gs a gs ∷ more)
    held_moves low g n c a gs more m same l (inl here) = inl (here.0, entered_moves low g c a gs more m l here.1)
    held_moves low g n c a gs more m same l (inr outside) = inr (outside.0, outer_moves g n c more same outside.1)

-- ---- the words of the pool

closed_word : (s k : ℕ) → s < SLOTS → k < CLOSED_WORDS → is_closed (POOL_START + SLOT_SIZE * s + 4 * k) ≡ true
closed_word s k h i =
    let a = POOL_START + SLOT_SIZE * s + 4 * k in
    let low : POOL_START ≤ POOL_START + SLOT_SIZE * s + 4 * k = omega arith in
    let high : POOL_START + SLOT_SIZE * s + 4 * k < POOL_END = omega arith in
    let inside : (POOL_START + SLOT_SIZE * s + 4 * k) % SLOT_SIZE < CLOSED_SIZE = omega arith in
    rw (le-leb POOL_START a low, lt-ltb a POOL_END high, lt-ltb (a % SLOT_SIZE) CLOSED_SIZE inside) refl

abbrev pub SameClosed : Memory → Memory → Type 0
SameClosed m n = (a : ℕ) → a % 4 ≡ 0 → is_closed a ≡ true → host_load n a ≡ host_load m a

pub same_word : (m n : Memory) → SameClosed m n → (s k : ℕ) → s < SLOTS → k < CLOSED_WORDS → word n s k ≡ word m s k
unfolding word
same_word m n closed s k h i = closed (POOL_START + SLOT_SIZE * s + 4 * k) (omega arith) (closed_word s k h i)

pub same_goal : (s t : Recorded) (slot : ℕ) → SameClosed (memory_of s) (memory_of t) → slot < SLOTS → goal_at s slot ≡ goal_at t slot
same_goal s t slot closed h =
    let at = λ (k : ℕ) (i : k < CLOSED_WORDS). sym (same_word (memory_of s) (memory_of t) closed slot k h i) in
    ap (λ (n : ℕ). let g : Goal = record { sp = n; desc = word (memory_of s) slot BARRIER_DESCRIPTOR } in g) (at BARRIER_SP (omega arith))
    ∙ ap (λ (n : ℕ). let g : Goal = record { sp = word (memory_of t) slot BARRIER_SP; desc = n } in g) (at BARRIER_DESCRIPTOR (omega arith))

-- slots of chains are few
abbrev pub AreSmall : List Cleanup → Type 0
AreSmall [] = Unit {0}
AreSmall (c ∷ more) = (c.slot < SLOTS) × AreSmall more

pub linked_small : (next : ℕ → ℕ) (head : ℕ) (cs : List Cleanup) → Linked next head (slots cs) → AreSmall cs
linked_small next head [] h = tt
linked_small next head (c ∷ more) h = (slot_small head c.slot h.0, linked_small next (next c.slot) more h.1)

-- ---- cleanups in progress

-- where the landing sps of cleanups in progress are at least some sp, it is at or below the first of them
pub landings_rise : (x : Accepted) (s : Recorded) (low : ℕ) (cleanups : List InProgress) → AreInProgress x s low cleanups → IsWithin low (cleanups_in cleanups)
landings_rise x s low [] p = tt
landings_rise x s low (c ∷ more) p = p.0

module _ (x : Accepted) (s t : Recorded) (gs : List ℕ) (sp : ℕ) (first : t.first ≡ with_gs s.first gs) (outer : t.outer ≡ s.outer) (closed : SameClosed (memory_of s) (memory_of t))
    (moves : Moves s.segments t.segments sp s.first gs) (same : SameWords s.segments t.segments s.outer) where
  pub in_progress : (low new : ℕ) (cleanups : List InProgress) → AreSmall (cleanups_in cleanups) → sp ≤ new → IsWithin new (cleanups_in cleanups) → AreInProgress x s low cleanups → AreInProgress x t new cleanups
  in_progress low new [] small h w p = tt
  in_progress low new (d ∷ later) small h w p =
      let c = d.cleanup in
      let n = d.place in
      let goal = same_goal s t c.slot closed small.0 in
      let moved : IsHeld x t.segments (goal_at s c.slot) n c (with_gs s.first gs ∷ s.outer) = held_moves s.segments t.segments x sp (goal_at s c.slot) n c s.first gs s.outer moves same (omega (arith, h, w)) p.1 in (
        w,
        subst (λ (g : Goal). IsHeld x t.segments g n c (t.first ∷ t.outer)) goal
            (subst (λ (a : Activation). IsHeld x t.segments (goal_at s c.slot) n c (a ∷ t.outer)) (sym first) (subst (λ (o : List Activation). IsHeld x t.segments (goal_at s c.slot) n c (with_gs s.first gs ∷ o)) (sym outer) moved)),
        subst (λ (g : Goal). IsWithin g.sp (cleanups_in later)) goal p.2,
        in_progress c.sp c.sp later small.1 (omega (arith, h, w)) (landings_rise x s c.sp later p.3) p.3,
      )
