-- What a run fetches at a place of a function is what the checker saw there: code is not written.
use Rattle.std.proofs.Common.{◌≡◌, ℕ, List, Option, Some, map, ◌+◌, ◌-◌, ◌≤◌, length, ap, ◌∙◌, arith, Bool, true, false, cond, [], ◌∷◌, subst, refl, nat_le, nat_lt, ◌<◌, None, get_or, sym, inl, inr, ◌*◌, drop, ◌%◌, ◌^◌, ◌==◌, ◌&&◌, Ok, ◌||◌}
use Rattle.std.proofs.lemmas.List.{length-append, get_or-append_right, get_or_append_left, get_or_past, get_or-drop}
use Rattle.std.specs.Prelude.{find, if◌then◌else◌, slice_index, Contains, option_and_then}
use Rattle.std.proofs.lemmas.Option.{same_Some, none-some}
use Rattle.std.proofs.lemmas.Bool.{and_parts, leb-true, le-leb, lt-leb, le-ltb, lt-ltb, cases_lt, ltb-true}
use Rattle.std.proofs.lemmas.Bool.Decides.{nat_tests}
use Rattle.std.proofs.lemmas.List.Elements.{All-contains}
use Rattle.elf_image.specs.Functions.{segment_at, Function}
use Rattle.eh_bus.specs.Memory.{fault_in, number_in, Memory, fetches, fetch_fault, or_fault, fetch}
use Rattle.eh_bus.specs.Segment.{Segment, number_at, holds}
use Rattle.eh_bus.specs.declared.fault.BusFault.{BusFault}
use Rattle.frame_check.specs.run_images.Start.{memory_segment, image_start}
use Rattle.eh_word.specs.Bytes.{zeros, length-zeros}
use Rattle.eh_bus.specs.Built.{zeros_at}
use Rattle.elf_image.specs.Segments.{RiseFrom, segment_end}
use Rattle.eh_bus.proofs.PartLaws.{get_or-zeros, data_misses}
use Rattle.elf_image.specs.Image.{Image, IsSound as IsImage, IsWithinCode, is_code_in}
use Rattle.eh_bus.specs.Map.{SameMap, IsFixed}
use Rattle.eh_bus.specs.declared.fault.BusFault.TheVariants.{ReadOnly}
use Rattle.eh_bus.proofs.BuiltLemmas.{zeros_data}
use Rattle.eh_bus.proofs.MapLaws.{fixed_fetches}
use Rattle.eh_bus.specs.declared.map.TheConstants.{STACK_START, STACK_SIZE, POOL_START, POOL_SIZE}
use Rattle.thumb_isa.specs.declared.instr.Instr.{Instr}
use Rattle.thumb_isa.specs.declared.instr.Decoded.{Decoded}
use Rattle.thumb_isa.specs.declared.instr.Decoded.TheVariants.{Is, Undefined, Unpredictable, NotInProfile}
use Rattle.thumb_isa.specs.Rows.{decode_result_for}
use Rattle.frame_check.specs.run_images.Profiles.{profile_of}
use Rattle.thumb_core.specs.declared.regs.Regs.{Regs}
use Rattle.thumb_core.specs.Step.{step_for, effect, instr_for, outcome_of, instr_of}
use Rattle.frame_code.specs.declared.standing.Standing.TheVariants.{Instruction, Udf}
use Rattle.frame_code.specs.Standing.{standing_of_decoded, wide_of, standing_by, is_udf, halfword_in, halfword_at}
use Rattle.frame_check.specs.frame_graph.Places.{standing_at, address_of, is_place, halfword_of}
use Rattle.frame_check.proofs.frame_reach.Stands.{stands_inside, stands_size}
use Rattle.frame_check.specs.frame_graph.FlowGraph.{FlowGraph}
use Rattle.frame_check.specs.Judged.{IsPlaced}
use Rattle.frame_check.specs.Roots.{flow_graph_of}
use Rattle.frame_check.proofs.Wells.{placed_at}
use Rattle.elf_image.specs.Segments as loaded

-- ---- the segment of an address

-- the two bytes from a on lie in this segment, which is the first to hold them in memory too
pub record Sits (ss : List loaded.Segment) (g : loaded.Segment) (a : ℕ) : Type 0 where
  pub at : segment_at ss a ≡ Some g
  pub fault : (F : Segment → Option BusFault) → fault_in F 2 (map memory_segment ss) a ≡ F (memory_segment g)
  pub number : number_in 2 (map memory_segment ss) a ≡ number_at 2 (memory_segment g) a

whole : (s : loaded.Segment) → length s.bytes ≤ s.size → length (memory_segment s).bytes ≡ s.size
whole s h = length-append s.bytes (zeros (s.size - length s.bytes)) ∙ ap (λ n. length s.bytes + n) (length-zeros (s.size - length s.bytes)) ∙ omega arith

begins_above : (low b : ℕ) (ss : List loaded.Segment) (g : loaded.Segment) → RiseFrom low ss → segment_at ss b ≡ Some g → low ≤ g.start
begins_above low b [] g h e = absurd (none-some g e)
begins_above low b (s ∷ more) g h e = go (loaded.holds b s) (begins_above (s.start + s.size) b more g h.3) e
  where
    go : (t : Bool) → (segment_at more b ≡ Some g → s.start + s.size ≤ g.start) → cond t (Some s) (find (loaded.holds b) more) ≡ Some g → low ≤ g.start
    go true later e = subst (λ (x : loaded.Segment). low ≤ x.start) (same_Some s g e) h.0
    go false later e = omega (arith, h.0, later e)

held : (b : ℕ) (ss : List loaded.Segment) (g : loaded.Segment) → segment_at ss b ≡ Some g → loaded.holds b g ≡ true
held b [] g e = absurd (none-some g e)
held b (s ∷ more) g e = go (loaded.holds b s) refl (held b more g) e
  where
    go : (t : Bool) → loaded.holds b s ≡ t → (segment_at more b ≡ Some g → loaded.holds b g ≡ true) → cond t (Some s) (find (loaded.holds b) more) ≡ Some g → loaded.holds b g ≡ true
    go true is later e = subst (λ (x : loaded.Segment). loaded.holds b x ≡ true) (same_Some s g e) is
    go false is later e = later e

pub sits : (low b a : ℕ) (ss : List loaded.Segment) (g : loaded.Segment) → RiseFrom low ss → segment_at ss b ≡ Some g → b ≤ a → a + 2 ≤ segment_end g → Sits ss g a
sits low b a [] g h e from to = absurd (none-some g e)
sits low b a (s ∷ more) g h e from to =
    go (loaded.holds b s) refl (λ i. sits (s.start + s.size) b a more g h.3 i from to) (λ i. begins_above (s.start + s.size) b more g h.3 i) e
  where
    holds_b : loaded.holds b g ≡ true
    holds_b = held b (s ∷ more) g e

    low_g : g.start ≤ b
    low_g = leb-true g.start b (and_parts (nat_le g.start b) (nat_lt b (g.start + g.size)) holds_b).0

    size : length (memory_segment s).bytes ≡ s.size
    size = whole s h.2

    go : (t : Bool) → loaded.holds b s ≡ t → (segment_at more b ≡ Some g → Sits more g a) → (segment_at more b ≡ Some g → s.start + s.size ≤ g.start)
        → cond t (Some s) (find (loaded.holds b) more) ≡ Some g → Sits (s ∷ more) g a
    go true is later above i =
        let same : s ≡ g = same_Some s g i in
        let start_is : s.start ≡ g.start = ap (λ (x : loaded.Segment). x.start) same in
        let size_is : s.size ≡ g.size = ap (λ (x : loaded.Segment). x.size) same in
        let here : holds (memory_segment s) a 2 ≡ true = rw (size, le-leb s.start a (omega (arith, low_g, from, start_is))) (le-leb (a - s.start + 2) s.size (omega (arith, low_g, from, to, start_is, size_is))) in
        let at_a : loaded.holds a s ≡ true = rw (le-leb s.start a (omega (arith, low_g, from, start_is))) (lt-ltb a (s.start + s.size) (omega (arith, to, start_is, size_is))) in
        record {
          at = rw at_a i;
          fault = λ F. rw here (ap (λ (x : loaded.Segment). F (memory_segment x)) same);
          number = rw here (ap (λ (x : loaded.Segment). number_at 2 (memory_segment x) a) same);
        }
    go false is later above i =
        let over = above i in
        let miss : holds (memory_segment s) a 2 ≡ false = rw (size, le-leb s.start a (omega (arith, low_g, from, over))) (lt-leb (a - s.start + 2) s.size (omega (arith, low_g, from, over))) in
        let not_a : loaded.holds a s ≡ false = rw (le-leb s.start a (omega (arith, low_g, from, over))) (le-ltb a (s.start + s.size) (omega (arith, low_g, from, over))) in
        let rest = later i in
        record { at = rw not_a rest.at; fault = λ F. rw miss (rest.fault F); number = rw miss rest.number }

pub same_segment : (low b a : ℕ) (ss : List loaded.Segment) (g : loaded.Segment) → RiseFrom low ss → segment_at ss b ≡ Some g → b ≤ a → a < segment_end g → segment_at ss a ≡ Some g
same_segment low b a [] g h e from to = absurd (none-some g e)
same_segment low b a (s ∷ more) g h e from to =
    go (loaded.holds b s) refl (λ i. same_segment (s.start + s.size) b a more g h.3 i from to) (λ i. begins_above (s.start + s.size) b more g h.3 i) e
  where
    low_g : g.start ≤ b
    low_g = leb-true g.start b (and_parts (nat_le g.start b) (nat_lt b (g.start + g.size)) (held b (s ∷ more) g e)).0

    go : (t : Bool) → loaded.holds b s ≡ t → (segment_at more b ≡ Some g → segment_at more a ≡ Some g) → (segment_at more b ≡ Some g → s.start + s.size ≤ g.start)
        → cond t (Some s) (find (loaded.holds b) more) ≡ Some g → segment_at (s ∷ more) a ≡ Some g
    go true is later above i =
        let same : s ≡ g = same_Some s g i in
        let start_is : s.start ≡ g.start = ap (λ (x : loaded.Segment). x.start) same in
        let size_is : s.size ≡ g.size = ap (λ (x : loaded.Segment). x.size) same in
        let at_a : loaded.holds a s ≡ true = rw (le-leb s.start a (omega (arith, low_g, from, start_is))) (lt-ltb a (s.start + s.size) (omega (arith, to, start_is, size_is))) in
        rw at_a i
    go false is later above i =
        let over = above i in
        let not_a : loaded.holds a s ≡ false = rw (le-leb s.start a (omega (arith, low_g, from, over))) (le-ltb a (s.start + s.size) (omega (arith, low_g, from, over))) in
        rw not_a (later i)

-- ---- its bytes

if_some : {X : Type 0} (b : Bool) (o : Option X) (x : X) → (if b then o else None) ≡ Some x → (b ≡ true) × (o ≡ Some x)
if_some true o x e = (refl, e)
if_some false o x e = absurd (none-some x e)

byte_at : (s : loaded.Segment) (k : ℕ) → get_or (memory_segment s).bytes k 0 ≡ slice_index s.bytes k
byte_at s k = elim (cases_lt k (length s.bytes)) [
  | inl l ↦ get_or_append_left s.bytes (zeros (s.size - length s.bytes)) 0 k l
  | inr l ↦ get_or-append_right s.bytes (zeros (s.size - length s.bytes)) (length s.bytes) k 0 refl l ∙ get_or-zeros (s.size - length s.bytes) (k - length s.bytes) ∙ sym (get_or_past s.bytes k 0 l)
]

two_bytes : (s : loaded.Segment) (a : ℕ) → number_at 2 (memory_segment s) a ≡ slice_index s.bytes (a - s.start) + 256 * slice_index s.bytes (a - s.start + 1)
two_bytes s a =
    let k = a - s.start in
    let zero_is : k + 0 ≡ k = omega arith in
    let first : get_or (drop k (memory_segment s).bytes) 0 0 ≡ slice_index s.bytes k = get_or-drop k (memory_segment s).bytes 0 0 ∙ ap (λ j. get_or (memory_segment s).bytes j 0) zero_is ∙ byte_at s k in
    let second : get_or (drop k (memory_segment s).bytes) 1 0 ≡ slice_index s.bytes (k + 1) = get_or-drop k (memory_segment s).bytes 1 0 ∙ byte_at s (k + 1) in
    omega (arith, first, second)

-- ---- fetching

module _ (image : Image) (f : Function) (ss : List Segment) (sound : IsImage image) (c : Contains image.functions f) (same : SameMap (image_start image).memory.segments ss) where
  abbrev flow_graph : FlowGraph
  flow_graph = flow_graph_of image f

  placed : IsPlaced f
  placed = subst IsPlaced c.2 (placed_at image c.0 f sound c.1)

  within : IsWithinCode image.segments f
  within = All-contains (IsWithinCode image.segments) image.functions f sound.within c

  -- the segment of the function
  abbrev home : loaded.Segment
  home = within.segment

  fixed_at : (a : ℕ) → a < 0x30000000 → Sits image.segments home a → (F : Segment → Option BusFault) → fault_in F 2 (image_start image).memory.segments a ≡ F (memory_segment home)
  fixed_at a low w F =
      rw (
        data_misses (zeros_at STACK_START STACK_SIZE) STACK_START STACK_SIZE a 2 (zeros_data STACK_START STACK_SIZE) (omega (arith, low)),
        data_misses (zeros_at POOL_START POOL_SIZE) POOL_START POOL_SIZE a 2 (zeros_data POOL_START POOL_SIZE) (omega (arith, low)),
      ) (w.fault F)

  number_fixed : (a : ℕ) → a < 0x30000000 → Sits image.segments home a → number_in 2 (image_start image).memory.segments a ≡ number_at 2 (memory_segment home) a
  number_fixed a low w =
      rw (
        data_misses (zeros_at STACK_START STACK_SIZE) STACK_START STACK_SIZE a 2 (zeros_data STACK_START STACK_SIZE) (omega (arith, low)),
        data_misses (zeros_at POOL_START POOL_SIZE) POOL_START POOL_SIZE a 2 (zeros_data POOL_START POOL_SIZE) (omega (arith, low)),
      ) w.number

  pub code_fetch : (p h : ℕ) → halfword_of flow_graph p ≡ Some h → fetches ss (address_of flow_graph p) ≡ Ok h
  code_fetch p h e =
      let a = address_of flow_graph p in
      let w = if_some (is_place flow_graph p) (halfword_at image a) h e in
      let two = and_parts (nat_le f.start a && nat_lt a f.end) ((a == f.start) || is_code_in image a) w.0 in
      let below : a < f.end = ltb-true a f.end (and_parts (nat_le f.start a) (nat_lt a f.end) two.0).1 in
      let at_f = same_segment 0 f.start a image.segments home sound.rise within.holder (omega arith) (omega (arith, below, within.within)) in
      let half : halfword_in a home ≡ Some h = subst (λ (o : Option loaded.Segment). option_and_then (halfword_in a) o ≡ Some h) at_f w.1 in
      let v = if_some (nat_le (a + 2) (segment_end home)) (Some (slice_index home.bytes (a - home.start) + 256 * slice_index home.bytes (a - home.start + 1))) h half in
      let inside = sits 0 f.start a image.segments home sound.rise within.holder (omega arith) (leb-true (a + 2) (segment_end home) v.0) in
      let low : a < 0x30000000 = omega (arith, below, placed.low) in
      let even : a % 2 ≡ 0 = omega (arith, placed.even) in
      let even_test : (a % 2 == 0) ≡ true = grind (arith, nat_tests) in
      let free : IsFixed 2 (image_start image).memory.segments a = fixed_at a low inside (λ (s : Segment). if s.write then Some (ReadOnly a) else None) ∙ rw within.read_only refl in
      let fault : fault_in (λ (s : Segment). fetch_fault s a) 2 (image_start image).memory.segments a ≡ None = fixed_at a low inside (λ (s : Segment). fetch_fault s a) ∙ rw (even_test, within.exec) refl in
      fixed_fetches a (image_start image).memory.segments ss same free
      ∙ ap (λ (o : Option BusFault). or_fault o (number_in 2 (image_start image).memory.segments a)) fault
      ∙ ap (λ (n : ℕ). Ok n) (number_fixed a low inside ∙ two_bytes home a ∙ same_Some (slice_index home.bytes (a - home.start) + 256 * slice_index home.bytes (a - home.start + 1)) h v.1)

  -- an instruction that stands at pc is what a step does, and what stands there
  pub record IsFetched (i : Instr) (size : ℕ) (regs : Regs) (m : Memory) : Type 0 where
    pub step : step_for (profile_of image) regs m ≡ effect i size regs m
    pub stands : instr_for (profile_of image) m regs.pc ≡ Some (i, size)

  pub fetched : (p : ℕ) (i : Instr) (size : ℕ) (regs : Regs) (m : Memory) → m.segments ≡ ss → regs.pc ≡ address_of flow_graph p → standing_at flow_graph p ≡ Instruction i size → IsFetched i size regs m
  unfolding standing_at
  fetched p i size regs m is at e = by_halves (halfword_of flow_graph p) (halfword_of flow_graph (p + 1)) refl refl e
    where
      first_at : (first : ℕ) → halfword_of flow_graph p ≡ Some first → fetch m regs.pc ≡ Ok first
      first_at first h = rw (is, at) (code_fetch p first h)

      next_at : (regs.pc + 2) % 2 ^ 32 ≡ address_of flow_graph (p + 1)
      next_at = let low = stands_inside flow_graph p i size e in let four = two_or_more in omega (arith, at, low, placed.low, four)
        where
          two_or_more : 2 ≤ size
          two_or_more = elim (stands_size flow_graph p i size e) [
            | inl two ↦ omega (arith, two)
            | inr wide ↦ omega (arith, wide)
          ]

      second_at : (second : ℕ) → halfword_of flow_graph (p + 1) ≡ Some second → fetch m ((regs.pc + 2) % 2 ^ 32) ≡ Ok second
      second_at second h = rw (is, next_at) (code_fetch (p + 1) second h)

      narrow : (first : ℕ) (d : Decoded) → standing_of_decoded d ≡ Instruction i size → (outcome_of d first regs m ≡ effect i size regs m) × (instr_of d ≡ Some (i, size))
      narrow first (Is j n) h = let w : ◌≡◌ {A = Instr × ℕ} (j, n) (i, size) = pair_is j n h in
          (ap (λ (x : Instr × ℕ). effect x.0 x.1 regs m) w, ap (λ (x : Instr × ℕ). Some x) w)
        where
          pair_is : (j : Instr) (n : ℕ) → Instruction j n ≡ Instruction i size → ◌≡◌ {A = Instr × ℕ} (j, n) (i, size)
          pair_is j n h = cc
      narrow first Undefined h = absurd cc
      narrow first Unpredictable h = absurd cc
      narrow first NotInProfile h = absurd cc

      by_size : (u b : Bool) (first : ℕ) (w : Option ℕ) → nat_le 0xe800 first ≡ b → halfword_of flow_graph p ≡ Some first → halfword_of flow_graph (p + 1) ≡ w
          → cond u Udf (cond ((cond b 4 2) == 2) (standing_of_decoded (decode_result_for (profile_of image) first 0)) (wide_of (profile_of image) first w)) ≡ Instruction i size → IsFetched i size regs m
      by_size true b first w is_wide h k g = absurd cc
      by_size false false first w is_wide h k g =
          let n = narrow first (decode_result_for (profile_of image) first 0) g in record { step = rw (first_at first h, is_wide) n.0; stands = rw (first_at first h, is_wide) n.1 }
      by_size false true first None is_wide h k g = absurd cc
      by_size false true first (Some second) is_wide h k g =
          let n = narrow first (decode_result_for (profile_of image) first second) g in
          record { step = rw (first_at first h, is_wide, second_at second k) n.0; stands = rw (first_at first h, is_wide, second_at second k) n.1 }

      by_halves : (o w : Option ℕ) → halfword_of flow_graph p ≡ o → halfword_of flow_graph (p + 1) ≡ w → standing_by (profile_of image) o w ≡ Instruction i size → IsFetched i size regs m
      by_halves None w h k g = absurd cc
      by_halves (Some first) w h k g = by_size (is_udf first) (nat_le 0xe800 first) first w refl h k g
