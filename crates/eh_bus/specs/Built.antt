-- The memory built from descriptions of segments.
use Rattle.std.specs.Prelude.{◌≡◌, ℕ, ◌+◌, ◌-◌, ◌%◌, ◌<◌, ◌≤◌, Ok, true, false, List, [], ◌∷◌, ◌++◌, length, map, sum_by, All}
use Rattle.eh_word.specs.Bytes.{zeros, length-zeros}
use Rattle.eh_bus.specs.Segment.{Segment}
use Rattle.eh_bus.specs.Memory.{Memory, load, load_number, fetch, fetches, host_load}
use Rattle.eh_bus.specs.Map.{AreApart}
use Rattle.eh_bus.specs.declared.segment.SegmentSpec.{SegmentSpec}
use Rattle.eh_bus.specs.declared.map.TheConstants.{IMAGE_END, MAX_IMAGE_SIZE, POOL_END, POOL_SIZE, POOL_START, STACK_END, STACK_SIZE, STACK_START}

-- the given bytes, padded by zeros up to the size
abbrev pub segment_of : SegmentSpec → Segment
segment_of spec = record {
  start = spec.start;
  bytes = spec.bytes.now ++ zeros (spec.size - length spec.bytes.now);
  write = spec.write;
  exec = spec.exec;
}

-- zeros that may be written and not executed
abbrev pub zeros_at : ℕ → ℕ → Segment
zeros_at start size = record { start = start; bytes = zeros size; write = true; exec = false }

-- the stack, the pool, and the given segments; no word is guarded
abbrev pub initial_memory : List SegmentSpec → Memory
initial_memory specs = record {
  segments = zeros_at STACK_START STACK_SIZE ∷ zeros_at POOL_START POOL_SIZE ∷ map segment_of specs;
  guards = [];
  home = (STACK_START, STACK_END);
}

-- what can be built: segments below IMAGE_END that contain their bytes, don't overlap, and have at most 1,048,576 bytes
-- together
abbrev pub Fits : SegmentSpec → Type 0
Fits spec = (length spec.bytes.now ≤ spec.size) × (spec.start + spec.size ≤ IMAGE_END)

pub record CanBuild (specs : List SegmentSpec) : Type 0 where
  pub fit : All Fits specs
  pub apart : AreApart (map segment_of specs)
  pub few : sum_by (λ (spec : SegmentSpec). spec.size) specs ≤ MAX_IMAGE_SIZE

-- what such a memory reads: the image's segments below IMAGE_END, and zeros in the pool and the stack
pub record GivesImage (specs : List SegmentSpec) (m : Memory) : Type 0 where
  pub loads : (n a : ℕ) → a < IMAGE_END → load n m a ≡ load_number n (map segment_of specs) a
  pub fetches : (a : ℕ) → a < IMAGE_END → fetch m a ≡ fetches (map segment_of specs) a
  pub pool : (a : ℕ) → POOL_START ≤ a → a + 4 ≤ POOL_END → host_load m a ≡ 0
  pub stack : (a : ℕ) → STACK_START ≤ a → a + 4 ≤ STACK_END → a % 4 ≡ 0 → load 4 m a ≡ Ok 0
