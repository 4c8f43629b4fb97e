-- The memory of an accepted image at the start is one that a bus may have.
use Rattle.std.specs.Prelude.{All, map}
use Rattle.std.proofs.Common.{◌≡◌, ℕ, zero, suc, ◌+◌, ◌-◌, ◌<◌, ◌≤◌, List, [], ◌∷◌, length, get_or, ap, ◌∙◌, arith, lit≤, inl}
use Rattle.std.proofs.lemmas.List.{length-append}
use Rattle.std.proofs.lemmas.List.Elements.{All-append}
use Rattle.eh_bus.specs.Built.{zeros_at}
use Rattle.eh_word.specs.Bytes.{zeros, length-zeros}
use Rattle.eh_bus.specs.Map.{IsMap, flat_home}
use Rattle.eh_bus.specs.Segment.{Segment}
use Rattle.eh_bus.specs.declared.map.TheConstants.{IMAGE_END, POOL_SIZE, POOL_START, STACK_SIZE, STACK_START}
use Rattle.eh_bus.proofs.BuiltLemmas.{Ends, apart_all, zeros_data}
use Rattle.eh_bus.proofs.MapLaws.{Disjoint, disjoint_apart}
use Rattle.elf_image.specs.Image.{Image, IsSound as IsImage}
use Rattle.elf_image.specs.Segments.{Segment as Loaded, RiseFrom}
use Rattle.frame_check.specs.Accepts.{AreBytes}
use Rattle.run_images.specs.Start.{memory_segment, image_start}

whole : (s : Loaded) → length s.bytes ≤ s.size → length (memory_segment s).bytes ≡ s.size
whole s h = length-append s.bytes (zeros (s.size - length s.bytes)) ∙ ap (λ n. length s.bytes + n) (length-zeros (s.size - length s.bytes)) ∙ omega arith

-- ---- places

starts_above : (low : ℕ) (ss : List Loaded) → RiseFrom low ss → (j : ℕ) (d : Segment) → j < length (map memory_segment ss) → low ≤ (get_or (map memory_segment ss) j d).start
starts_above low [] h j d k = absurd (omega arith)
starts_above low (s ∷ more) h zero d k = h.0
starts_above low (s ∷ more) h (suc j) d k =
    let later : s.start + s.size ≤ (get_or (map memory_segment more) j d).start = starts_above (s.start + s.size) more h.3 j d (omega arith) in
    let first : low ≤ s.start = h.0 in
    omega arith

disjoint : (low : ℕ) (ss : List Loaded) → RiseFrom low ss → (i j : ℕ) (d : Segment) → i < j → j < length (map memory_segment ss)
    → Disjoint (get_or (map memory_segment ss) i d) (get_or (map memory_segment ss) j d)
disjoint low [] h i j d below k = absurd (omega arith)
disjoint low (s ∷ more) h i zero d below k = absurd (omega arith)
disjoint low (s ∷ more) h zero (suc j) d below k = inl (rw (whole s h.2) (starts_above (s.start + s.size) more h.3 j d (omega arith)))
disjoint low (s ∷ more) h (suc i) (suc j) d below k = disjoint (s.start + s.size) more h.3 i j d (omega arith) (omega arith)

top : (low : ℕ) (ss : List Loaded) → RiseFrom low ss → low ≤ IMAGE_END
top low [] h = h
top low (s ∷ more) h =
    let later = top (s.start + s.size) more h.3 in
    let first : low ≤ s.start = h.0 in
    omega arith

ends : (low : ℕ) (ss : List Loaded) → RiseFrom low ss → (i : ℕ) (d : Segment) → i < length (map memory_segment ss) → Ends (get_or (map memory_segment ss) i d)
ends low [] h i d k = absurd (omega arith)
ends low (s ∷ more) h zero d k = rw (whole s h.2) (top (s.start + s.size) more h.3)
ends low (s ∷ more) h (suc i) d k = ends (s.start + s.size) more h.3 i d (omega arith)

module _ (image : List Segment) (within : (i : ℕ) (d : Segment) → i < length image → Ends (get_or image i d)) where
  ends_after : (i : ℕ) (d : Segment) → 2 ≤ i → i < length (zeros_at STACK_START STACK_SIZE ∷ zeros_at POOL_START POOL_SIZE ∷ image)
      → Ends (get_or (zeros_at STACK_START STACK_SIZE ∷ zeros_at POOL_START POOL_SIZE ∷ image) i d)
  ends_after zero d l h = absurd (omega arith)
  ends_after (suc zero) d l h = absurd (omega arith)
  ends_after (suc (suc i)) d l h = within i d (omega arith)

-- ---- bytes

abbrev HaveBytes : List Segment → Type 0
HaveBytes segments = All (λ (s : Segment). All (λ (b : ℕ). b < 256) s.bytes) segments

zeros_small : (n : ℕ) → All (λ (b : ℕ). b < 256) (zeros n)
unfolding zeros
zeros_small zero k d h = absurd (omega arith)
zeros_small (suc n) zero d h = omega arith
zeros_small (suc n) (suc k) d h = zeros_small n k d (omega arith)

loaded_bytes : (ss : List Loaded) → AreBytes ss → HaveBytes (map memory_segment ss)
loaded_bytes [] b i d h = absurd (omega arith)
loaded_bytes (s ∷ more) b zero d h = All-append (λ (x : ℕ). x < 256) s.bytes (zeros (s.size - length s.bytes)) (b 0 s (omega arith)) (zeros_small (s.size - length s.bytes))
loaded_bytes (s ∷ more) b (suc i) d h = loaded_bytes more (λ k e l. b (suc k) e (omega arith)) i d (omega arith)

all_bytes : (image : List Segment) → HaveBytes image → HaveBytes (zeros_at STACK_START STACK_SIZE ∷ zeros_at POOL_START POOL_SIZE ∷ image)
all_bytes image b zero d h = zeros_small STACK_SIZE
all_bytes image b (suc zero) d h = zeros_small POOL_SIZE
all_bytes image b (suc (suc i)) d h = b i d (omega arith)

pub starts_in_map : (image : Image) → IsImage image → AreBytes image.segments → IsMap (image_start image).memory
starts_in_map image sound bytes =
    let within = ends 0 image.segments sound.rise in
    let placed = map memory_segment image.segments in
    record {
      segments = record {
        two = omega arith;
        stack = λ d. zeros_data STACK_START STACK_SIZE;
        pool = λ d. zeros_data POOL_START POOL_SIZE;
        image = ends_after placed within;
        apart = apart_all placed within (disjoint_apart placed (disjoint 0 image.segments sound.rise));
        bytes = all_bytes placed (loaded_bytes image.segments bytes);
      };
      guards = lit≤ tt;
      home = flat_home;
    }
