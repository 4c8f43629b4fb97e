-- After a landing what every event keeps is kept: the activation that is entered is the first, and those inside it are gone.
use Rattle.std.proofs.Common.{◌≡◌, ℕ, ◌≤◌, inl, inr, nat_le, nat_lt, ◌||◌, Bool, true, false, cond, List, [], ◌∷◌, filter, refl, ap, arith, map, ◌∙◌, ◌+◌, ◌*◌, ◌<◌, ◌-◌, ◌++◌, zero, suc, ◌%◌, ◌^◌, length, sym, subst}
use Rattle.std.proofs.lemmas.Bool.{le-leb}
use Rattle.std.specs.Prelude.{slice_index}
use Rattle.std.proofs.lemmas.List.{get_or_append_left, get_or_past}
use Rattle.eh_bus.specs.Lists.{Has}
use Rattle.eh_bus.specs.Memory.{stays_guarded, Memory, load_number}
use Rattle.sim_machines.specs.Activations.{Activation, release_slots, Caller, Recorded, registers_of, reg_in, InProgress}
use Rattle.eh_bus.specs.Map.{SameMap, IsMap}
use Rattle.eh_bus.specs.declared.map.TheConstants.{POOL_START, SLOT_SIZE, STACK_START, STACK_END}
use Rattle.eh_bus.proofs.PartLaws.{host_map}
use Rattle.eh_cxa.specs.Words.{set_slot_word, Write, set_slot_words}
use Rattle.eh_cxa.specs.declared.layout.TheConstants.{SLOTS, SLOT_WORDS}
use Rattle.eh_bus.proofs.MapLaws.{map_refl, map_trans}
use Rattle.eh_cxa.proofs.Pools.{put_is_map}
use Rattle.sim_machines.specs.Throws.{AreInPool}
use Rattle.eh_bus.specs.Segment.{Segment}
use Rattle.eh_cxa.specs.Lists.{Cleanup, Lists}
use Rattle.eh_phase.specs.declared.phase2.Goal.{Goal}
use Rattle.frame_facts.specs.declared.facts.Fact.{Fact}
use Rattle.frame_facts.specs.declared.saves.Prologue.{Prologue}
use Rattle.sim_machines.specs.frame_check.Accepts.{Accepted}
use Rattle.eh_gates.specs.Landing.{landing_registers}
use Rattle.eh_phase.specs.Phases.{Frame}
use Rattle.eh_trace.specs.Trace.{Trace}
use Rattle.run_images.specs.Start.{image_start}
use Rattle.thumb_core.specs.Laws.{AreSound}
use Rattle.thumb_core.specs.Registers.{all_of}
use Rattle.thumb_core.specs.declared.regs.TheConstants.{SP}
use Rattle.thumb_core.specs.declared.regs.Regs.{Regs}
use Rattle.sim_frames.proofs.frame_flow.Reaching.{state_reached}
use Rattle.sim_machines.proofs.frame_reach.Found.{inside}
use Rattle.sim_machines.specs.frame_check.Judged.{IsPlaced}
use Rattle.sim_machines.specs.frame_check.Roots.{flow_graph_of}
use Rattle.sim_machines.proofs.frame_check.Wells.{placed_at}
use Rattle.sim_machines.specs.Corresponds.{Corresponds}
use Rattle.sim_frames.specs.sim_relation.Holds.{AreWithin, AreKept, IsWhole}
use Rattle.sim_frames.specs.Landings.{Rise, Offers, AtFirst, AtCall, IsLocated}
use Rattle.sim_frames.specs.sim_relation.Chain.{code, Chain, StandsAt}
use Rattle.sim_frames.specs.sim_relation.Cleanups.{IsEntered, IsHeld, AreInProgress}
use Rattle.sim_frames.proofs.Located.{AllUnder, Rest, chain_from}
use Rattle.sim_frames.specs.sim_relation.Stands.{Keeps, IsProgram, IsCounted}
use Rattle.sim_frames.specs.Frames.{IsSiteOf}
use Rattle.sim_frames.proofs.Agreement.{chain_there, same_registers}
use Rattle.sim_frames.proofs.Outwards.{at_sp}
use Rattle.sim_frames.proofs.PadStands.{pad_stands, stands_there}

-- ---- slots at or above sp stay

all_stay : (home : ℕ × ℕ) (sp : ℕ) (gs : List ℕ) → ((g : ℕ) → Has gs g → sp ≤ g) → filter (stays_guarded home sp) gs ≡ gs
all_stay home sp [] h = refl
all_stay home sp (g ∷ more) h = go (nat_le sp g) (le-leb sp g (h g (inl refl))) (all_stay home sp more (λ k w. h k (inr w)))
  where
    go : (b : Bool) → b ≡ true → filter (stays_guarded home sp) more ≡ more → cond (b || nat_lt g home.0) (g ∷ filter (stays_guarded home sp) more) (filter (stays_guarded home sp) more) ≡ g ∷ more
    go true e w = ap (λ (xs : List ℕ). g ∷ xs) w
    go false e w = absurd cc

pub released_same : (home : ℕ × ℕ) (sp low : ℕ) (a : Activation) → sp ≤ low → AreWithin low a → release_slots home sp a ≡ a
released_same home sp low a h within =
    ap (λ (gs : List ℕ). let r : Activation = record a { slots = gs } in r) (all_stay home sp a.slots (λ g w. let l = (within g w).0 in omega (arith, h, l)))

pub all_released_same : (home : ℕ × ℕ) (top sp low : ℕ) (acts : List Activation) → sp ≤ low → Rise top low acts → map (λ (b : Activation). release_slots home sp b) acts ≡ acts
all_released_same home top sp low [] h rise = refl
all_released_same home top sp low (a ∷ more) h rise =
    ap (λ (b : Activation). b ∷ map (λ (c : Activation). release_slots home sp c) more) (released_same home sp low a h rise.0)
    ∙ ap (λ (acts : List Activation). a ∷ acts) (all_released_same home top sp a.caller.sp more (let up = rise.1 in omega (arith, h, up)) rise.3)

-- ---- words of the pool

put_same_map : (m : Memory) (slot place v : ℕ) → IsMap m → slot < SLOTS → place < SLOT_WORDS → SameMap m.segments (set_slot_word m slot place v).segments
unfolding set_slot_word
put_same_map m slot place v is l k = host_map m (POOL_START + SLOT_SIZE * slot + 4 * place) v is.segments (omega arith) (omega (arith, l, k))

pub pool_map : (ws : List Write) (m : Memory) → AreInPool ws → IsMap m → SameMap m.segments (set_slot_words ws m).segments
pool_map [] m h is = map_refl m.segments
pool_map (w ∷ more) m h is =
    map_trans m.segments (set_slot_word m w.slot w.place w.value).segments (set_slot_words more (set_slot_word m w.slot w.place w.value)).segments (put_same_map m w.slot w.place w.value is h.0 h.1)
    (pool_map more (set_slot_word m w.slot w.place w.value) h.2 (put_is_map m w.slot w.place w.value is))

-- ---- cleanups in progress outside what is cut

module _ (old new : List Segment) (same : (g : ℕ) → STACK_START ≤ g → g + 4 ≤ STACK_END → load_number 4 new g ≡ load_number 4 old g) where
  kept_in : (p : Prologue) (f : Fact) (a : Activation) (low : ℕ) → AreWithin low a → STACK_START ≤ low → a.caller.sp ≤ STACK_END → AreKept old a p f → AreKept new a p f
  kept_in p f a low within least most h s c =
      let w = h s c in
      let b = within (a.caller.sp - s.offset) w.slot in
      let b0 = b.0 in
      let b1 = b.1 in
      record { low = w.low; deep = w.deep; holds = same (a.caller.sp - s.offset) (omega (arith, b0, least)) (omega (arith, b1, most)) ∙ w.holds; slot = w.slot }

  pub entered_there : (x : Accepted) (g : Goal) (c : Cleanup) (a : Activation) (more : List Activation) (low : ℕ) → AreWithin low a → STACK_START ≤ low → a.caller.sp ≤ STACK_END → IsEntered x old g c a more
      → IsEntered x new g c a more
  entered_there x g c a more low within least most e = record {
    function = e.function;
    marks = e.marks;
    of = e.of;
    place = e.place;
    fact = e.fact;
    state = e.state;
    site = e.site;
    lower = e.lower;
    at_depth = e.at_depth;
    below = e.below;
    saves = kept_in (code x e.function e.marks).prologue e.fact a low within least most e.saves;
    before = e.before;
    cleanup = e.cleanup;
    after = e.after;
    items = e.items;
    cleans = e.cleans;
    next = e.next;
    reach = e.reach;
  }

  pub held_there : (x : Accepted) (g : Goal) (n : ℕ) (c : Cleanup) (top low : ℕ) (acts : List Activation) → STACK_START ≤ low → top ≤ STACK_END → Rise top low acts → IsHeld x old g n c acts → IsHeld x new g n c acts
  held_there x g n c top low [] least most rise h = h
  held_there x g n c top low (a ∷ more) least most rise (inl here) =
      let t = rise.2 in inl (here.0, entered_there x g c a more low rise.0 least (omega (arith, t, most)) here.1)
  held_there x g n c top low (a ∷ more) least most rise (inr later) =
      let up = rise.1 in inr (later.0, held_there x g n c top a.caller.sp more (omega (arith, least, up)) most rise.3 later.1)

-- a cleanup whose landing sp is at or above where the entered activation stands isn't in one that is cut
pub held_outside : (x : Accepted) (segments : List Segment) (g : Goal) (n : ℕ) (c : Cleanup) (sp : ℕ) (cut : List Activation) (a : Activation) (more : List Activation) → sp ≤ c.sp → AllUnder sp cut
    → IsHeld x segments g n c (cut ++ a ∷ more) → IsHeld x segments g n c (a ∷ more)
held_outside x segments g n c sp [] a more h under held = held
held_outside x segments g n c sp (b ∷ cut) a more h under (inl here) = absurd (let l = under.0 in let b = here.1.below in omega (arith, l, b, h))
held_outside x segments g n c sp (b ∷ cut) a more h under (inr later) = held_outside x segments g n c sp cut a more h under.1 later.1

-- ---- the registers of a frame

module _ (x : Accepted) (is : IsProgram x) (s : Recorded) (k : Keeps x s) (site : ℕ) (here : IsSiteOf x s site) where
  pub frame_words : (f : Frame) (a : Activation) → IsLocated x s.segments site (all_of s.regs) s.first f a → ((j : ℕ) → 4 ≤ j → j < 12 → slice_index f.r j < 2 ^ 32) × (slice_index f.r SP % 4 ≡ 0)
  frame_words f a l = elim l.1 [
    | inl one ↦ at_first one
    | inr two ↦ at_call two
  ]
    where
      at_first : AtFirst site (all_of s.regs) s.first f a → ((j : ℕ) → 4 ≤ j → j < 12 → slice_index f.r j < 2 ^ 32) × (slice_index f.r SP % 4 ≡ 0)
      at_first one = (
        λ j low high. let e = ap (λ (r : List ℕ). slice_index r j) one.registers ∙ same_registers s.regs k.sound j (omega (arith, high)) in let h = k.sound.words.small j in omega (arith, e, h),
        let e = ap (λ (r : List ℕ). slice_index r SP) one.registers ∙ same_registers s.regs k.sound SP (omega arith) in let h = k.sound.words.aligned in omega (arith, e, h),
      )

      saved : (c : Caller) → IsWhole c → (j : ℕ) → 4 ≤ j → j < 12 → slice_index (registers_of c) j < 2 ^ 32
      saved c whole zero low high = absurd (omega (arith, low))
      saved c whole (suc zero) low high = absurd (omega (arith, low))
      saved c whole (suc (suc zero)) low high = absurd (omega (arith, low))
      saved c whole (suc (suc (suc zero))) low high = absurd (omega (arith, low))
      saved c whole (suc (suc (suc (suc j)))) low high =
          let count = whole.count in
          let e : slice_index (registers_of c) (suc (suc (suc (suc j)))) ≡ slice_index c.saved j =
          get_or_append_left c.saved (0 ∷ c.sp ∷ 0 ∷ c.back ∷ []) 0 j (let l : j < length c.saved = omega (arith, high, count) in l) in
          let h = whole.words j in
          omega (arith, e, h)

      at_call : AtCall x s.segments f a → ((j : ℕ) → 4 ≤ j → j < 12 → slice_index f.r j < 2 ^ 32) × (slice_index f.r SP % 4 ≡ 0)
      at_call two = (
        λ j low high. let e = ap (λ (r : List ℕ). slice_index r j) two.registers in let h = saved two.inside two.whole j low high in omega (arith, e, h),
        let e = ap (λ (r : List ℕ). slice_index r SP) two.registers ∙ at_sp two.inside two.whole.count in let h = two.whole.aligned in omega (arith, e, h),
      )

  -- what phase 2 enters, of a frame with the activation and those outside it
  pub record Enters : Type 0 where
    pub cut : List Activation
    pub first : Activation
    pub more : List Activation
    pub all : s.first ∷ s.outer ≡ cut ++ first ∷ more
    pub frame : Frame
    pub located : IsLocated x s.segments site (all_of s.regs) s.first frame first
    pub rest : Rest s.home.1 frame.sp cut first more
    pub low : reg_in s SP ≤ frame.sp
    pub register : slice_index frame.r SP ≡ frame.sp

  module _ (n : Enters) (pad answer : ℕ) (small : answer < 2 ^ 32) (offers : Offers n.frame pad) where
    abbrev pub regs : Regs
    regs = landing_registers s.regs n.frame.r pad answer

    above : STACK_START ≤ n.frame.sp
    above = let a = k.corresponds.map.home.low in let b = k.low in let c = n.low in omega (arith, a, b, c)

    roof : s.home.1 ≤ STACK_END
    roof = k.corresponds.map.home.high

    stands : StandsAt x n.first s.segments regs regs.pc
    stands = pad_stands x is s k site here n.frame n.first pad answer n.located offers

    each : (j : ℕ) → slice_index regs.r j < 2 ^ 32
    each zero = small
    each (suc zero) = omega arith
    each (suc (suc zero)) = omega arith
    each (suc (suc (suc zero))) = omega arith
    each (suc (suc (suc (suc zero)))) = (frame_words n.frame n.first n.located).0 4 (omega arith) (omega arith)
    each (suc (suc (suc (suc (suc zero))))) = (frame_words n.frame n.first n.located).0 5 (omega arith) (omega arith)
    each (suc (suc (suc (suc (suc (suc zero)))))) = (frame_words n.frame n.first n.located).0 6 (omega arith) (omega arith)
    each (suc (suc (suc (suc (suc (suc (suc zero))))))) = (frame_words n.frame n.first n.located).0 7 (omega arith) (omega arith)
    each (suc (suc (suc (suc (suc (suc (suc (suc zero)))))))) = (frame_words n.frame n.first n.located).0 8 (omega arith) (omega arith)
    each (suc (suc (suc (suc (suc (suc (suc (suc (suc zero))))))))) = (frame_words n.frame n.first n.located).0 9 (omega arith) (omega arith)
    each (suc (suc (suc (suc (suc (suc (suc (suc (suc (suc zero)))))))))) = (frame_words n.frame n.first n.located).0 10 (omega arith) (omega arith)
    each (suc (suc (suc (suc (suc (suc (suc (suc (suc (suc (suc zero))))))))))) = (frame_words n.frame n.first n.located).0 11 (omega arith) (omega arith)
    each (suc (suc (suc (suc (suc (suc (suc (suc (suc (suc (suc (suc zero)))))))))))) = omega arith
    each (suc (suc (suc (suc (suc (suc (suc (suc (suc (suc (suc (suc (suc zero))))))))))))) =
        let e = n.register in let u = n.rest.rise.1 in let t = n.rest.rise.2 in let r = roof in omega (arith, e, u, t, r)
    each (suc (suc (suc (suc (suc (suc (suc (suc (suc (suc (suc (suc (suc (suc zero)))))))))))))) = omega arith
    each (suc (suc (suc (suc (suc (suc (suc (suc (suc (suc (suc (suc (suc (suc (suc j))))))))))))))) =
        let e : slice_index regs.r (suc (suc (suc (suc (suc (suc (suc (suc (suc (suc (suc (suc (suc (suc (suc j))))))))))))))) ≡ 0 =
        get_or_past regs.r (suc (suc (suc (suc (suc (suc (suc (suc (suc (suc (suc (suc (suc (suc (suc j))))))))))))))) 0 (omega arith) in omega (arith, e)

    sound : AreSound regs.r regs.pc
    sound =
        let placed : IsPlaced stands.function = subst IsPlaced stands.of.among.2 (placed_at x.image stands.of.among.0 stands.function is.image stands.of.among.1) in
        let at = stands.address in
        let reached = state_reached (code x stands.function stands.marks) stands.place stands.fact stands.state in
        record {
          words = record { count = refl; small = each; aligned = (frame_words n.frame n.first n.located).1 };
          small = elim (inside (flow_graph_of x.image stands.function) stands.place reached) [
            | inl zero_place ↦ (let a = placed.some in let b = placed.low in omega (arith, at, zero_place, a, b))
            | inr low ↦ (let b = placed.low in omega (arith, at, low, b))
          ];
          is_even = let e = placed.even in omega (arith, at, e);
        }

    module _ (lists : Lists) (cleanups : List InProgress) (segments : List Segment) (events : Trace) (stack_same : (g : ℕ) → STACK_START ≤ g → g + 4 ≤ STACK_END → load_number 4 segments g ≡ load_number 4 s.segments g) where
      -- the state after it
      abbrev pub left : Recorded
      left = record {
        regs = regs;
        entries = lists.entries;
        caught = lists.caught;
        cleanups = cleanups;
        uncaught = lists.uncaught;
        segments = segments;
        home = s.home;
        events = events;
        first = n.first;
        outer = n.more;
        beyond = s.beyond;
      }

      links : IsWhole n.first.caller × Chain x s.segments s.home n.first.caller n.more
      links = chain_from x s.segments s.home s.first s.outer n.cut n.first n.more n.all k.whole k.chain

      pub landed_keeps : IsCounted lists → Corresponds left → SameMap s.segments segments → AreInProgress x left n.frame.sp cleanups → Keeps x left
      landed_keeps counted corresponds same in_progress = record {
        corresponds = corresponds;
        counted = counted;
        image = map_trans (image_start x.image).memory.segments s.segments segments k.image same;
        sound = sound;
        low = let e = n.register in let l = n.low in let h = k.low in omega (arith, e, l, h);
        high = let e = n.register in let u = n.rest.rise.1 in omega (arith, e, u);
        whole = links.0;
        slots = subst (λ (m : ℕ). AreWithin m n.first) (sym n.register) n.rest.rise.0;
        first = λ reached. stands_there s.segments segments stack_same x n.first regs regs.pc n.frame.sp n.rest.rise.0 above (let t = n.rest.rise.2 in let r = roof in omega (arith, t, r)) stands;
        beyond = k.beyond;
        chain = chain_there s.segments segments stack_same x s.home roof n.first.caller n.more (let a = above in let u = n.rest.rise.1 in omega (arith, a, u)) links.1;
        cleanups = subst (λ (m : ℕ). AreInProgress x left m cleanups) (sym n.register) in_progress;
      }
