-- Laws of every function and every image, above the definitions.
use Rattle.std.specs.Prelude.{ℕ, ◌≡◌, ◌≢◌, ◌<◌, ◌≤◌, ◌↔◌, ◌⊎◌, ◌+◌, ◌*◌, ◌%◌, ◌^◌, Bool, true, false, List, length, Some, Ok, Err, Contains, nat_eq}
use Rattle.std.specs.List.{IsDistinct}
use Rattle.eh_codes.specs.declared.row.Entry.{Entry}
use Rattle.eh_desc.specs.eh_bytecode.declared.recipe.Recipe.{Recipe}
use Rattle.eh_desc.specs.declared.descriptor.DescFault.{DescFault}
use Rattle.frame_entries.specs.declared.unwinding.EntrySummary.TheVariants.{Finds, Refused}
use Rattle.frame_graph.specs.Reach.{IsReached}
use Rattle.frame_reach.specs.declared.marks.TheConstants.{MOST_REACHED}
use Rattle.std.specs.Int.{bit_at}
use Rattle.run_images.specs.thumb_core.Words.{registers_of_list}
use Rattle.thumb_isa.specs.declared.instr.Instr.TheVariants.{AddSubReg, MovHigh, Push}
use Rattle.elf_image.specs.Functions.{Function}
use Rattle.elf_image.specs.Image.{Image, type_symbols_of}
use Rattle.eh_desc.specs.declared.descriptor.CatchType.TheVariants.{One}
use Rattle.eh_desc.specs.declared.descriptor.Desc.{Desc}
use Rattle.eh_desc.specs.declared.descriptor.DescKind.TheVariants.{Catch}
use Rattle.eh_desc.specs.Grammar.{type_in}
use Rattle.frame_facts.specs.declared.cause.FrameCause.{FrameCause}
use Rattle.frame_facts.specs.declared.saves.Save.{Save}
use Rattle.frame_facts.specs.declared.straight.Straight.{Straight}
use Rattle.frame_facts.specs.Saves.{saves_of}
use Rattle.frame_facts.specs.Prologues.{with_instruction}
use Rattle.frame_graph.specs.frame_code.declared.standing.Standing.TheVariants.{Instruction}
use Rattle.frame_graph.specs.Places.{address_of, standing_at}
use Rattle.frame_graph.specs.Edges.{instruction_at}
use Rattle.frame_reach.specs.Marks.{Marks}
use Rattle.frame_reach.specs.Prologue.{is_led_to, prologue}
use Rattle.frame_reach.specs.Laws.{IsRun}
use Rattle.frame_check.specs.Pushes.{is_saved}
use Rattle.frame_graph.specs.FlowGraph.{FlowGraph}
use Rattle.frame_graph.specs.Sites.{items_at, unwinding_at, site_at, entry_at}
use Rattle.frame_check.specs.declared.fault.CheckFault.{CheckFault}
use Rattle.frame_check.specs.Roots.{flow_graph_of, roots_of}
use Rattle.frame_check.specs.Accepts.{CauseStands, IsWell, IsAccepted, IsLowering, Refuses, saves_at}

-- a function is accepted if and only if no cause stands at any of its places
abbrev pub WellIsUnrefused : Type 0
WellIsUnrefused = (s : FlowGraph) → s.start < s.end → IsWell s ↔ ((p : ℕ) (c : FrameCause) → CauseStands s p c → ⊥)

-- Of a function that is well the entry that covers its start has codes that give a recipe, or nothing unwinds through it; each descriptor
-- of that entry can be read; the entry of each reached site begins at the function's start or below it; and the places that are reached
-- are few.
pub record WellFunctions : Type 0 where
  pub codes : (s : FlowGraph) → IsWell s → ((r : Recipe) × (unwinding_at s s.start ≡ Finds r)) ⊎ (unwinding_at s s.start ≡ Refused)
  pub descriptors : (s : FlowGraph) (fault : DescFault) → IsWell s → Contains (items_at s s.start) (Err fault) → ⊥
  pub sites : (s : FlowGraph) (p site : ℕ) (e : Entry) → IsWell s → IsReached s p → site_at s p ≡ Some site → entry_at s site ≡ Some e → e.start ≤ s.start
  pub few : (s : FlowGraph) (ps : List ℕ) → IsWell s → IsDistinct nat_eq ps → ((p : ℕ) → Contains ps p → IsReached s p) → length ps ≤ MOST_REACHED

-- what may be refused of an image that isn't accepted; nothing can be refused of one that is
abbrev pub RefusalsAreRight : Type 0
RefusalsAreRight = (image : Image) (fault : CheckFault) → Refuses image fault → IsAccepted image → ⊥

-- a descriptor names a type: a catch of this type, or a specification that has it among its own
abbrev pub Names : Image → Desc → ℕ → Type 0
Names image d t = ((pad : ℕ) × (reference : Bool) × (d.kind ≡ Catch pad reference (One t))) ⊎ ((i : ℕ) × (type_in image.segments d.kind i ≡ Some t))

-- the roots are the types, except 0, that a descriptor of an entry covering a function's start names, and the type symbols
abbrev pub RootsAreNamed : Type 0
RootsAreNamed =
    (image : Image) (t : ℕ) → Contains (roots_of image) t
    ↔ (((f : Function) × (d : Desc) × Contains image.functions f × Contains (items_at (flow_graph_of image f) f.start) (Ok d) × Names image d t × (t ≢ 0)) ⊎ Contains (type_symbols_of image.symbols) t)

-- ---- the saves of a prologue

-- a PUSH of the prologue: the run has come to its place and includes it
pub record IsPush (s : FlowGraph) (m : Marks) (p : ℕ) (run : Straight) (list : ℕ) : Type 0 where
  pub size : ℕ
  pub next : Straight
  pub comes : IsRun s m p run
  pub stands : standing_at s p ≡ Instruction (Push list) size
  pub free : is_led_to m.target p size ≡ false
  pub takes : with_instruction run (Push list) size ≡ Some next

-- its word k, counted from the lowest address, lies so many bytes below the CFA: sp falls by a word for each register
abbrev pub IsWord : Straight → ℕ → ℕ → ℕ → Type 0
IsWord run list k offset = (k < length (registers_of_list list)) × (offset + 4 * k ≡ run.fact.depth + 4 * length (registers_of_list list))

-- For a PUSH of the prologue, bit k is set if and only if its word k is a save. For any other address no bit is set. Each save of the
-- prologue is a word of one of its PUSHes.
pub record SavesAreWords : Type 0 where
  pub bits : (s : FlowGraph) (m : Marks) (p : ℕ) (run : Straight) (list k offset : ℕ) → s.start % 2 ≡ 0 → s.end + 4 ≤ 2 ^ 32 → IsPush s m p run list → IsWord run list k offset
      → (bit_at (saves_at s m (address_of s p)) k ≡ 1) ↔ (is_saved (prologue s m) offset ≡ true)
  pub past : (s : FlowGraph) (m : Marks) (p : ℕ) (run : Straight) (list k : ℕ) → s.start % 2 ≡ 0 → s.end + 4 ≤ 2 ^ 32 → IsPush s m p run list → length (registers_of_list list) ≤ k
      → bit_at (saves_at s m (address_of s p)) k ≡ 0
  pub elsewhere : (s : FlowGraph) (m : Marks) (a : ℕ) → s.start % 2 ≡ 0 → s.end + 4 ≤ 2 ^ 32
      → ((p : ℕ) (run : Straight) (list : ℕ) → IsPush s m p run list → a ≡ address_of s p → ⊥) → saves_at s m a ≡ 0
  pub each : (s : FlowGraph) (m : Marks) (x : Save) → Contains (saves_of (prologue s m)) x
      → (p : ℕ) × (run : Straight) × (list : ℕ) × (k : ℕ) × IsPush s m p run list × IsWord run list k x.offset

-- ---- lowering places

-- An address of one of these functions has a MOV of a register into sp, and 2 bytes before it is a SUB of two registers into that
-- register. Paths from the function's entry reach both.
pub record IsLoweredAt (image : Image) (functions : List Function) (a : ℕ) : Type 0 where
  pub function : Function
  pub among : Contains functions function
  pub before : ℕ
  pub place : ℕ
  pub register : ℕ
  pub minuend : ℕ
  pub subtrahend : ℕ
  pub address : a ≡ address_of (flow_graph_of image function) place
  pub after : a ≡ address_of (flow_graph_of image function) before + 2
  pub subtraction : instruction_at (flow_graph_of image function) before ≡ Some (AddSubReg true register minuend subtrahend)
  pub copy : instruction_at (flow_graph_of image function) place ≡ Some (MovHigh 13 register)
  pub first : IsReached (flow_graph_of image function) before
  pub second : IsReached (flow_graph_of image function) place

-- these are exactly the lowering places of the functions of an image
abbrev pub LoweringsAreCopies : Type 0
LoweringsAreCopies = (image : Image) (functions : List Function) (a : ℕ) → IsLowering image functions a ↔ IsLoweredAt image functions a
