-- The frames of both machines agree: at a gate, or a call, from the state that is kept, with the limit of the innermost cleanup in progress and
-- without it, whatever words the runtime has written into the pool before.
use Rattle.std.proofs.Common.{◌≡◌, List, Some, ℕ, ◌≤◌, true, Option, refl, sym, subst, arith, ◌<◌, inl, inr, [], ◌∷◌, length, ◌==◌, nat_lt, false, ◌∙◌, ◌+◌, ◌-◌, ◌*◌, ap, ◌%◌, ◌^◌, None}
use Rattle.std.specs.Prelude.{slice_index, option_and_then}
use Rattle.std.proofs.lemmas.Bool.{lt-ltb, le-ltb, cases_eq, cases_lt}
use Rattle.std.proofs.lemmas.Bool.Decides.{nat_tests}
use Rattle.std.proofs.lemmas.List.{get_or_append_left, get_or-append_right, get_or_past, length-append}
use Rattle.eh_bus.specs.Map.{AreSegments}
use Rattle.eh_bus.specs.Segment.{Segment}
use Rattle.eh_phase.specs.Frames.{site_of, Stack, frames_of}
use Rattle.frame_graph.specs.Sites.{site_at}
use Rattle.frame_check.specs.Accepts.{Accepted}
use Rattle.frame_check.specs.Roots.{flow_graph_of}
use Rattle.sim_relation.specs.sim_machines.Activations.{Caller, Activation, registers_of, frames_at, Recorded, first_place, reg_in, memory_of, heads, lists_of, cleanups_in, InProgress}
use Rattle.eh_bus.specs.declared.map.TheConstants.{STACK_START, STACK_END, POOL_START, SLOT_SIZE}
use Rattle.eh_phase.specs.Phases.{Frames}
use Rattle.eh_phase.proofs.Whole.{frames_are_whole}
use Rattle.sim_relation.specs.sim_machines.Agreeing.{Agree}
use Rattle.eh_cxa.specs.Lists.{Cleanup}
use Rattle.eh_phase.specs.declared.phase2.Goal.{Goal}
use Rattle.eh_cxa.specs.ListCalls.{innermost_in}
use Rattle.eh_bus.specs.Memory.{load_number, Memory, load_fault, or_fault, fault_in, number_in, store_number}
use Rattle.thumb_core.specs.declared.regs.Regs.{Regs}
use Rattle.frame_facts.specs.declared.facts.Fact.{Fact}
use Rattle.frame_facts.specs.declared.saves.Prologue.{Prologue}
use Rattle.eh_bus.specs.declared.fault.BusFault.{BusFault}
use Rattle.eh_bus.proofs.WordLaws.{written_other, written_fault}
use Rattle.eh_cxa.specs.Words.{set_slot_word, Write, set_slot_words, word}
use Rattle.eh_cxa.specs.declared.layout.TheConstants.{SLOTS, SLOT_WORDS}
use Rattle.sim_relation.specs.sim_machines.Throws.{AreInPool, SeesAlike}
use Rattle.thumb_isa.specs.declared.instr.Instr.{Instr}
use Rattle.thumb_isa.specs.declared.instr.Instr.TheVariants.{Bl, Blx, Svc}
use Rattle.thumb_core.specs.Laws.{AreSound}
use Rattle.thumb_core.specs.Registers.{all_of, reg}
use Rattle.eh_cxa.proofs.Pools.{all_is_map}
use Rattle.thumb_core.specs.declared.regs.TheConstants.{SP}
use Rattle.eh_phase.specs.Calls.{stack_of}
use Rattle.frame_graph.specs.Places.{address_of}
use Rattle.frame_flow.specs.Causes.{is_call}
use Rattle.sim_relation.proofs.sim_machines.FirstEvent.{segments_alone}
use Rattle.eh_cxa.specs.Cleanup.{innermost_of}
use Rattle.eh_gates.specs.State.{Tables}
use Rattle.sim_relation.proofs.sim_machines.CallEvents.{knows}
use Rattle.frame_graph.specs.Sites as flow_graph_site
use Rattle.sim_relation.specs.Holds.{IsWhole, AreKept, Holds, AreWithin}
use Rattle.sim_relation.specs.Chain.{StandsAtCall, Chain, code}
use Rattle.sim_relation.specs.Stands.{IsProgram, Keeps}
use Rattle.sim_frames.proofs.Outwards.{out, at_pc, IsNew, Unwinds, StopAlike, walk, from_first, none_stop}
use Rattle.sim_frames.proofs.Sites.{CodesAreRecipes, site_there, unwinds_outside, site_holds, unwinds}
use Rattle.sim_relation.proofs.Goes.{chain_top}
use Rattle.sim_relation.specs.Cleanups.{IsHeld, goal_at, AreInProgress}
use Rattle.sim_relation.specs.sim_code.Recipes.{AreRegisters}
use Rattle.sim_frames.specs.Frames.{IsSiteOf}

-- the site of a call that was recorded
pub called_site : (x : Accepted) → IsProgram x → CodesAreRecipes x → (ss : List Segment) → AreSegments ss → (c : Caller) (a : Activation) (out : StandsAtCall x ss c a) → IsWhole c
    → site_at (flow_graph_of x.image out.function) out.place ≡ Some (site_of (registers_of c))
called_site x is recipes ss are c a out whole = site_there x is recipes ss are c a out (at_pc c whole.count)

-- ---- from a frame that unwinds

module _ (x : Accepted) (is : IsProgram x) (recipes : CodesAreRecipes x) (segments : List Segment) (are : AreSegments segments) (home : ℕ × ℕ) (top : home.1 ≤ STACK_END) (limit place : Option ℕ) where
  each : (c : Caller) (a : Activation) (new : List ℕ) → StandsAtCall x segments c a → IsWhole c → STACK_START ≤ c.sp → a.caller.sp ≤ STACK_END → IsNew c new
      → Unwinds x.image segments (site_of (registers_of c)) new a.caller
  each c a new out whole low t n = unwinds_outside x is recipes segments are c a out new (at_pc c whole.count) whole low t n

  abbrev stack : Stack
  stack = record { segments = segments; end = home.1 }

  pub frames_agree : (site : ℕ) (r : List ℕ) (a : Activation) (acts : List Activation) → Unwinds x.image segments site r a.caller → Chain x segments home a.caller acts → IsWhole a.caller
      → STACK_START ≤ slice_index r 13 → slice_index r 13 ≤ a.caller.sp → StopAlike limit place a.caller acts
      → Agree (frames_of x.image stack limit site r) (frames_at x.image place site r a acts)
  frames_agree site r a acts u ch whole low high stop =
      subst (λ (fs : Frames). Agree fs (frames_at x.image place site r a acts)) (sym (frames_are_whole x.image stack limit true site r top))
      (walk x is segments home top limit place each true site r r a acts u refl refl
      (λ new n. out x is segments home top limit place each a.caller acts ch whole (omega (arith, low, high)) stop true (slice_index r 13)
      (from_first x is segments home top limit place each (slice_index r 13) a.caller.sp high (chain_top x segments home a.caller acts ch)) new n))

-- ---- the innermost cleanup in progress

held_place : (x : Accepted) (segments : List Segment) (g : Goal) (n : ℕ) (c : Cleanup) (acts : List Activation) → IsHeld x segments g n c acts → n < length acts
held_place x segments g n c [] h = absurd h
held_place x segments g n c (a ∷ more) (inl here) = (let e = here.0 in omega (arith, e))
held_place x segments g n c (a ∷ more) (inr later) = (let l = held_place x segments g n c more later.1 in omega (arith, l))

-- its landing sp and its place end frames at the same activation
held_stop : (x : Accepted) (segments : List Segment) (g : Goal) (n : ℕ) (c : Cleanup) (a : Activation) (acts : List Activation) → IsHeld x segments g n c (a ∷ acts) → StopAlike (Some c.sp) (Some n) a.caller acts
held_stop x segments g n c a [] (inl here) = let e = here.0 in let b = here.1.below in lt-ltb c.sp a.caller.sp b ∙ sym (let t : (n == 0) ≡ true = grind (arith, nat_tests) in t)
held_stop x segments g n c a [] (inr later) = absurd later.1
held_stop x segments g n c a (b ∷ more) (inl here) =
    let e = here.0 in
    let above : nat_lt c.sp a.caller.sp ≡ true = lt-ltb c.sp a.caller.sp here.1.below in
    (above ∙ sym (let t : (n == length (b ∷ more)) ≡ true = grind (arith, nat_tests) in t), λ f. absurd (let clash : true ≡ false = sym above ∙ f in cc))
held_stop x segments g n c a (b ∷ more) (inr later) =
    let l = held_place x segments g n c (b ∷ more) later.1 in
    let low = later.0 in
    (le-ltb c.sp a.caller.sp low ∙ sym (let t : (n == length (b ∷ more)) ≡ false = grind (arith, nat_tests) in t), λ f. held_stop x segments g n c b more later.1)

pub innermost_stops : (x : Accepted) (s : Recorded) (low : ℕ) (cleanups : List InProgress) → AreInProgress x s low cleanups
    → StopAlike (innermost_in (cleanups_in cleanups)) (first_place cleanups) s.first.caller s.outer
innermost_stops x s low [] h = none_stop s.first.caller s.outer
innermost_stops x s low (c ∷ more) h = held_stop x s.segments (goal_at s c.cleanup.slot) c.place c.cleanup s.first s.outer h.1

-- ---- other segments that give the stack's words alike

module _ (old new : List Segment) (same : (g : ℕ) → STACK_START ≤ g → g + 4 ≤ STACK_END → load_number 4 new g ≡ load_number 4 old g) where
  kept_there : (p : Prologue) (f : Fact) (a : Activation) (low : ℕ) → AreWithin low a → STACK_START ≤ low → a.caller.sp ≤ STACK_END → AreKept old a p f → AreKept new a p f
  kept_there p f a low within least most h s c =
      let w = h s c in
      let b = within (a.caller.sp - s.offset) w.slot in
      let b0 = b.0 in
      let b1 = b.1 in
      record { low = w.low; deep = w.deep; holds = same (a.caller.sp - s.offset) (omega (arith, b0, least)) (omega (arith, b1, most)) ∙ w.holds; slot = w.slot }

  pub holds_there : (p : Prologue) (f : Fact) (a : Activation) (regs : Regs) (low : ℕ) → AreWithin low a → STACK_START ≤ low → a.caller.sp ≤ STACK_END → Holds p f a old regs → Holds p f a new regs
  holds_there p f a regs low within least most h = record {
    entry = h.entry;
    saved = h.saved;
    link = h.link;
    describes = h.describes;
    lower = h.lower;
    saves = kept_there p f a low within least most h.saves;
  }

  module _ (x : Accepted) (home : ℕ × ℕ) (top : home.1 ≤ STACK_END) where
    pub chain_there : (c : Caller) (acts : List Activation) → STACK_START ≤ c.sp → Chain x old home c acts → Chain x new home c acts
    chain_there c [] low h = h
    chain_there c (a ∷ more) low h =
        let out = h.0 in
        let room = out.room in
        let above = chain_top x old home a.caller more h.1 in (
          record {
            function = out.function;
            marks = out.marks;
            of = out.of;
            place = out.place;
            instr = out.instr;
            size = out.size;
            stands = out.stands;
            call = out.call;
            back = out.back;
            fact = out.fact;
            state = out.state;
            holds = holds_there _ _ a _ c.sp out.slots low (omega (arith, above, top)) out.holds;
            room = out.room;
            whole = out.whole;
            slots = out.slots;
          },
          chain_there a.caller more (omega (arith, low, room)) h.1,
        )

-- words that are written into the pool leave those of the stack
put_stack : (m : Memory) (s k v g : ℕ) → s < SLOTS → k < SLOT_WORDS → STACK_START ≤ g → load_number 4 (set_slot_word m s k v).segments g ≡ load_number 4 m.segments g
unfolding set_slot_word
put_stack m s k v g l h low =
    let a = POOL_START + SLOT_SIZE * s + 4 * k in
    ap (λ (o : Option BusFault). or_fault o (number_in 4 (store_number 4 m.segments a v) g)) (written_fault 4 4 a g v (λ t. load_fault 4 g) m.segments (λ t bs. refl))
    ∙ ap (λ n. or_fault (fault_in (λ t. load_fault 4 g) 4 m.segments g) n) (written_other 4 4 a g v m.segments (inl (omega arith)))

pub pool_stack : (ws : List Write) (m : Memory) → AreInPool ws → (g : ℕ) → STACK_START ≤ g → load_number 4 (set_slot_words ws m).segments g ≡ load_number 4 m.segments g
pool_stack [] m h g low = refl
pool_stack (w ∷ more) m h g low = pool_stack more (set_slot_word m w.slot w.place w.value) h.2 g low ∙ put_stack m w.slot w.place w.value g h.0 h.1 low

-- ---- at a site of the first activation

pub site_low : (a site : ℕ) (i : Instr) → a + 2 < 2 ^ 32 → flow_graph_site.site_of a i ≡ Some site → a ≤ site
site_low a site (Bl off) l e = let n : (a + 2) % 2 ^ 32 ≡ site = cc in omega (arith, n, l)
site_low a site (Blx k) l e = let n : a ≡ site = cc in omega (arith, n)
site_low a site (Svc imm) l e = let n : a ≡ site = cc in omega (arith, n)
site_low a site i l e = absurd cc

all_registers : (regs : Regs) → AreSound regs.r regs.pc → AreRegisters (all_of regs)
all_registers regs h = record {
  count = length-append regs.r (regs.pc ∷ []) ∙ ap (λ n. n + 1) h.words.count;
  small = λ k. elim (cases_lt k 15) [
    | inl low ↦ (let e : slice_index (all_of regs) k ≡ slice_index regs.r k = get_or_append_left regs.r (regs.pc ∷ []) 0 k (let l : k < length regs.r = omega (arith, low, h.words.count) in l) in omega (arith, e, h.words.small k))
    | inr high ↦ elim (cases_eq k 15) [
      | inl pc ↦ (let e : slice_index (all_of regs) k ≡ regs.pc = ap (slice_index (all_of regs)) pc ∙ get_or-append_right regs.r (regs.pc ∷ []) 15 15 0 h.words.count (omega arith) in omega (arith, e, h.small))
      | inr past ↦ (let e : slice_index (all_of regs) k ≡ 0 = get_or_past (all_of regs) k 0 (omega (arith, length-append regs.r (regs.pc ∷ []), h.words.count, high, past)) in omega (arith, e))
    ]
  ];
}

pub same_registers : (regs : Regs) → AreSound regs.r regs.pc → (k : ℕ) → k < 15 → slice_index (all_of regs) k ≡ reg regs k
same_registers regs h k low = get_or_append_left regs.r (regs.pc ∷ []) 0 k (let l : k < length regs.r = omega (arith, low, h.words.count) in l)

module _ (x : Accepted) (is : IsProgram x) (recipes : CodesAreRecipes x) (s : Recorded) (k : Keeps x s) (site : ℕ) (here : IsSiteOf x s site) where
  bottom : STACK_START ≤ s.home.0
  bottom = k.corresponds.map.home.low

  roof : s.home.1 ≤ STACK_END
  roof = k.corresponds.map.home.high

  above : STACK_START ≤ reg_in s SP
  above = let a = bottom in let b = k.low in omega (arith, a, b)

  below_roof : s.first.caller.sp ≤ STACK_END
  below_roof = let a = chain_top x s.segments s.home s.first.caller s.outer k.chain in let b = roof in omega (arith, a, b)

  low_site : here.at.function.start ≤ site
  low_site = let l = site_low (address_of (flow_graph_of x.image here.at.function) here.at.place) site here.instr here.below
      (ap (option_and_then (flow_graph_site.site_of (address_of (flow_graph_of x.image here.at.function) here.at.place))) (sym here.stands) ∙ here.is_site) in omega (arith, l)

  -- what becomes of the first frame, with segments that give the stack's words alike
  pub first_unwinds : (segments : List Segment) → AreSegments segments → ((g : ℕ) → STACK_START ≤ g → g + 4 ≤ STACK_END → load_number 4 segments g ≡ load_number 4 s.segments g)
      → Unwinds x.image segments site (all_of s.regs) s.first.caller
  first_unwinds segments are same =
      let at = here.at in
      unwinds x is recipes at.function at.marks s.first.function at.of at.place at.fact at.state here.instr here.stands site here.is_site low_site s.first segments s.regs (all_of s.regs)
      (site_holds (code x at.function at.marks).prologue (is_call here.instr) at.fact s.first segments s.regs
      (holds_there s.segments segments same (code x at.function at.marks).prologue at.fact s.first s.regs (reg_in s SP) k.slots above below_roof at.holds))
      k.whole (all_registers s.regs k.sound) (same_registers s.regs k.sound) are above below_roof k.sound.words.aligned

  -- .. and a limit and a place that end alike
  pub agree : (segments : List Segment) → AreSegments segments → ((g : ℕ) → STACK_START ≤ g → g + 4 ≤ STACK_END → load_number 4 segments g ≡ load_number 4 s.segments g)
      → (limit place : Option ℕ) → StopAlike limit place s.first.caller s.outer
      → Agree (frames_of x.image (record { segments = segments; end = s.home.1 }) limit site (all_of s.regs)) (frames_at x.image place site (all_of s.regs) s.first s.outer)
  agree segments are same limit place stop =
      let sp_is : slice_index (all_of s.regs) 13 ≡ reg_in s SP = same_registers s.regs k.sound 13 (omega arith) in
      let sp_low = above in
      let sp_high = k.high in
      frames_agree x is recipes segments are s.home roof limit place site (all_of s.regs) s.first s.outer (first_unwinds segments are same)
      (chain_there s.segments segments same x s.home roof s.first.caller s.outer (omega (arith, sp_low, sp_high)) k.chain) k.whole (omega (arith, sp_is, sp_low)) (omega (arith, sp_is, sp_high)) stop

  -- The frames of a site agree with those of the recorded activations, with the limit of the innermost cleanup in progress and without it.
  pub frames_same :
      Agree (frames_of x.image (stack_of (memory_of s)) (innermost_in (cleanups_in s.cleanups)) site (all_of s.regs)) (frames_at x.image (first_place s.cleanups) site (all_of s.regs) s.first s.outer)
      × Agree (frames_of x.image (stack_of (memory_of s)) None site (all_of s.regs)) (frames_at x.image None site (all_of s.regs) s.first s.outer)
  frames_same = (
    agree s.segments k.corresponds.map.segments (λ g l h. refl) (innermost_in (cleanups_in s.cleanups)) (first_place s.cleanups) (innermost_stops x s (reg_in s SP) s.cleanups k.cleanups),
    agree s.segments k.corresponds.map.segments (λ g l h. refl) None None (none_stop s.first.caller s.outer),
  )

  -- after words that the runtime wrote into the pool
  pub frames_same_after : (ws : List Write) → AreInPool ws
      → Agree (frames_of x.image (stack_of (set_slot_words ws (memory_of s))) None site (all_of s.regs)) (frames_at x.image None site (all_of s.regs) s.first s.outer)
  frames_same_after ws h =
      subst (λ (m : Memory). Agree (frames_of x.image (stack_of m) None site (all_of s.regs)) (frames_at x.image None site (all_of s.regs) s.first s.outer)) (sym (segments_alone ws (memory_of s)))
      (agree (set_slot_words ws (memory_of s)).segments (all_is_map ws (memory_of s) k.corresponds.map).segments (λ g l t. pool_stack ws (memory_of s) h g l) None None (none_stop s.first.caller s.outer))

abbrev frames_limit : Tables → Recorded → Option ℕ
frames_limit g s = innermost_of (word (memory_of s)) (heads (lists_of s))

-- At a gate throws and rethrows see alike.
pub sees_alike : (x : Accepted) → IsProgram x → CodesAreRecipes x → (g : Tables) → g.image ≡ x.image → (s : Recorded) → Keeps x s → IsSiteOf x s s.regs.pc → SeesAlike g s
sees_alike x is recipes g same s k here = record {
  search =
      subst (λ i. Agree (frames_of i (stack_of (memory_of s)) (frames_limit g s) s.regs.pc (all_of s.regs)) (frames_at i (first_place s.cleanups) s.regs.pc (all_of s.regs) s.first s.outer)) (sym same)
      (subst (λ (l : Option ℕ). Agree (frames_of x.image (stack_of (memory_of s)) l s.regs.pc (all_of s.regs)) (frames_at x.image (first_place s.cleanups) s.regs.pc (all_of s.regs) s.first s.outer))
      (sym (knows s k.corresponds)) (frames_same x is recipes s k s.regs.pc here).0);
  advance = λ ws h.
      subst (λ i. Agree (frames_of i (stack_of (set_slot_words ws (memory_of s))) None s.regs.pc (all_of s.regs)) (frames_at i None s.regs.pc (all_of s.regs) s.first s.outer)) (sym same)
      (frames_same_after x is recipes s k s.regs.pc here ws h);
}
