-- The registers and memory at the start of a run, of an image and of raw code (docs/rules/memory.md).
use Rattle.std.specs.Prelude.{ℕ, ◌-◌, ◌==◌, Bool, true, false, List, [], ◌∷◌, ◌++◌, length, map}
use Rattle.std.specs.List.{list_any}
use Rattle.eh_bus.specs.eh_word.Bytes.{zeros}
use Rattle.eh_bus.specs.Built.{zeros_at}
use Rattle.eh_bus.specs.Memory.{Memory}
use Rattle.eh_bus.specs.Segment.{Segment}
use Rattle.eh_bus.specs.declared.map.TheConstants.{POOL_SIZE, POOL_START, STACK_END, STACK_SIZE, STACK_START}
use Rattle.elf_image.specs.Functions.{Function}
use Rattle.elf_image.specs.Image.{Image}
use Rattle.elf_image.specs.Segments.{Segment as Loaded}
use Rattle.run_gates.specs.declared.gates.TheConstants.{NO_CALLER}
use Rattle.run_images.specs.declared.memory.TheConstants.{CODE_START}
use Rattle.thumb_core.specs.declared.regs.Regs.{Regs}

-- the state of the core and its memory
pub record State : Type 0 where
  pub regs : Regs
  pub memory : Memory

-- sp is the end of the stack, lr the address that ends the run, and all others are 0
abbrev pub start_regs : ℕ → Regs
start_regs pc = record {
  r = 0 ∷ 0 ∷ 0 ∷ 0 ∷ 0 ∷ 0 ∷ 0 ∷ 0 ∷ 0 ∷ 0 ∷ 0 ∷ 0 ∷ 0 ∷ STACK_END ∷ NO_CALLER ∷ [];
  pc = pc;
  n = false;
  z = false;
  c = false;
  v = false;
}

-- the memory at the start: the stack, the pool, and these segments; no word is guarded
abbrev pub with_host : List Segment → Memory
with_host segments = record {
  segments = zeros_at STACK_START STACK_SIZE ∷ zeros_at POOL_START POOL_SIZE ∷ segments;
  guards = [];
  home = (STACK_START, STACK_END);
}

-- a segment's bytes of the file, padded by zeros up to its size
abbrev pub memory_segment : Loaded → Segment
memory_segment s = record { start = s.start; bytes = s.bytes ++ zeros (s.size - length s.bytes); write = s.write; exec = s.exec }

-- an image's entry, and its segments in memory
abbrev pub image_start : Image → State
image_start image = record { regs = start_regs image.entry; memory = with_host (map memory_segment image.segments) }

-- raw code in a segment that is executable and not writable
abbrev pub code_segment : List ℕ → Segment
code_segment code = record { start = CODE_START; bytes = code; write = false; exec = true }

abbrev pub code_start : List ℕ → State
code_start code = record { regs = start_regs CODE_START; memory = with_host (code_segment code ∷ []) }

-- a function begins there
abbrev pub begins_function : List Function → ℕ → Bool
begins_function functions a = list_any (λ (f : Function). f.start == a) functions
