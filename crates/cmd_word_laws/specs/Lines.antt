-- The lines of refusals, letter by letter (docs/guide/command-line.md, "What is written").
use Rattle.std.specs.Prelude.{◌≡◌, ◌⊎◌, ℕ, ◌<◌, ◌≤◌, List, [], ◌∷◌, ◌++◌, codes, decimal}
use Rattle.asm_layout.specs.declared.fault.AsmWhat.{AsmWhat}
use Rattle.asm_layout.specs.declared.fault.AsmWhat.TheVariants as asm
use Rattle.asm_read.specs.declared.fault.SourceWhat.{SourceWhat}
use Rattle.asm_read.specs.declared.fault.SourceWhat.TheVariants.{NotAscii, LineTooLong, TooManyLines, BadToken, UnknownMnemonic, UnknownDirective, BadOperand, NumberRange}
use Rattle.asm_unwind.specs.declared.directive.UnwindFault.TheVariants as directive
use Rattle.thumb_isa.specs.declared.encode_fault.EncodeFault.TheVariants.{RegisterRange, ListEmpty, ImmediateRange, ImmediateAlign, TargetRange}
use Rattle.eh_link.specs.declared.fault.LinkFault.TheVariants as link
use Rattle.elf_image.specs.declared.fault.ImageFault.{ImageFault}
use Rattle.elf_image.specs.declared.fault.ImageFault.TheVariants as image
use Rattle.eh_index.specs.declared.fault.IndexFault.TheVariants.{Length, OutsideImage, Unsorted}
use Rattle.eh_types.specs.declared.fault.TypeFault.TheVariants as type
use Rattle.frame_facts.specs.declared.cause.FrameCause.{FrameCause}
use Rattle.frame_facts.specs.declared.cause.FrameCause.TheVariants as cause
use Rattle.eh_trace.specs.Text.{offset_text}
use Rattle.eh_word.specs.Address.{address_text}
use Rattle.cmd_lines.specs.CheckText.{index_line, cause_line, type_line, register_name}
use Rattle.cmd_input.specs.RefusalText.{source_line, asm_line, link_line, schedule_line}
use Rattle.cmd_lines.specs.Text.{image_fault_line}

-- ---- sources

-- FILE:LINE:COL: WHAT
abbrev pub IsSourceLine : SourceWhat → List ℕ → Type 0
IsSourceLine what letters = (name : List ℕ) (line column : ℕ)
    → source_line name (record { line = line; column = column; what = what }) ≡ name ++ (codes ":" ++ decimal line ++ codes ":" ++ decimal column ++ codes ": " ++ letters ++ codes "\n")

pub record SourceLines : Type 0 where
  pub not_ascii : IsSourceLine NotAscii (codes "NotAscii")
  pub line_too_long : IsSourceLine LineTooLong (codes "LineTooLong")
  pub too_many_lines : IsSourceLine TooManyLines (codes "TooManyLines")
  pub bad_token : IsSourceLine BadToken (codes "BadToken")
  pub unknown_mnemonic : IsSourceLine UnknownMnemonic (codes "UnknownMnemonic")
  pub unknown_directive : IsSourceLine UnknownDirective (codes "UnknownDirective")
  pub bad_operand : IsSourceLine BadOperand (codes "BadOperand")
  pub number_range : IsSourceLine NumberRange (codes "NumberRange")

-- FILE:LINE: WHAT; for an encoding or a directive WHAT is its own name
abbrev pub IsObjectLine : AsmWhat → List ℕ → Type 0
IsObjectLine what letters = (name : List ℕ) (line : ℕ) → asm_line name (record { line = line; what = what }) ≡ name ++ (codes ":" ++ decimal line ++ codes ": " ++ letters ++ codes "\n")

pub record ObjectLines : Type 0 where
  pub duplicate_label : IsObjectLine asm.DuplicateLabel (codes "DuplicateLabel")
  pub undefined_local : IsObjectLine asm.UndefinedLocal (codes "UndefinedLocal")
  pub pool_too_far : IsObjectLine asm.PoolTooFar (codes "PoolTooFar")
  pub section_too_large : IsObjectLine asm.SectionTooLarge (codes "SectionTooLarge")
  pub placement : IsObjectLine asm.Placement (codes "Placement")
  pub register_range : IsObjectLine (asm.Encode RegisterRange) (codes "RegisterRange")
  pub list_empty : IsObjectLine (asm.Encode ListEmpty) (codes "ListEmpty")
  pub immediate_range : IsObjectLine (asm.Encode ImmediateRange) (codes "ImmediateRange")
  pub immediate_align : IsObjectLine (asm.Encode ImmediateAlign) (codes "ImmediateAlign")
  pub target_range : IsObjectLine (asm.Encode TargetRange) (codes "TargetRange")
  pub outside_function : IsObjectLine (asm.Unwind directive.OutsideFunction) (codes "OutsideFunction")
  pub nested_function : IsObjectLine (asm.Unwind directive.NestedFunction) (codes "NestedFunction")
  pub save_range : IsObjectLine (asm.Unwind directive.SaveRange) (codes "SaveRange")
  pub pad_range : IsObjectLine (asm.Unwind directive.PadRange) (codes "PadRange")
  pub two_personalities : IsObjectLine (asm.Unwind directive.TwoPersonalities) (codes "TwoPersonalities")
  pub after_cantunwind : IsObjectLine (asm.Unwind directive.AfterCantunwind) (codes "AfterCantunwind")
  pub too_long : IsObjectLine (asm.Unwind directive.TooLong) (codes "TooLong")

-- FILE: BadSchedule OFFSET
abbrev pub ScheduleLines : Type 0
ScheduleLines = (name : List ℕ) (offset : ℕ) → schedule_line name offset ≡ name ++ (codes ": BadSchedule " ++ decimal offset ++ codes "\n")

-- link: WHAT, and the name or the address that it names
pub record LinkLines : Type 0 where
  pub duplicate : (name : List ℕ) → link_line (link.Duplicate name) ≡ codes "link: Duplicate " ++ name ++ codes "\n"
  pub undefined : (name : List ℕ) → link_line (link.Undefined name) ≡ codes "link: Undefined " ++ name ++ codes "\n"
  pub no_entry : link_line link.NoEntry ≡ codes "link: NoEntry\n"
  pub too_large : link_line link.TooLarge ≡ codes "link: TooLarge\n"
  pub relocation_range : (place : ℕ) → link_line (link.RelocationRange place) ≡ codes "link: RelocationRange " ++ address_text place ++ codes "\n"

-- ---- images

-- image: WHAT
abbrev pub IsImageLine : ImageFault → List ℕ → Type 0
IsImageLine fault letters = image_fault_line fault ≡ codes "image: " ++ letters ++ codes "\n"

pub record ImageLines : Type 0 where
  pub truncated : (need : ℕ) → IsImageLine (image.Truncated need) (codes "Truncated " ++ decimal need)
  pub not_elf : IsImageLine image.NotElf (codes "NotElf")
  pub class : IsImageLine image.Class (codes "Class")
  pub machine : IsImageLine image.Machine (codes "Machine")
  pub version : IsImageLine image.Version (codes "Version")
  pub kind : IsImageLine image.«Type» (codes "Type")
  pub entry_size : IsImageLine image.EntrySize (codes "EntrySize")
  pub no_symbols : IsImageLine image.NoSymbols (codes "NoSymbols")
  pub segment_range : IsImageLine image.SegmentRange (codes "SegmentRange")
  pub segment_overlap : IsImageLine image.SegmentOverlap (codes "SegmentOverlap")
  pub index_range : IsImageLine image.IndexRange (codes "IndexRange")
  pub too_large : IsImageLine image.TooLarge (codes "TooLarge")
  pub entry : IsImageLine image.Entry (codes "Entry")

-- index: WHAT, and the row
pub record IndexLines : Type 0 where
  pub size : index_line Length ≡ codes "index: Length\n"
  pub outside_image : (row : ℕ) → index_line (OutsideImage row) ≡ codes "index: OutsideImage " ++ decimal row ++ codes "\n"
  pub unsorted : (row : ℕ) → index_line (Unsorted row) ≡ codes "index: Unsorted " ++ decimal row ++ codes "\n"

-- types: WHAT ADDRESS
pub record TypeLines : Type 0 where
  pub unreadable : (at : ℕ) → type_line (type.Unreadable at) ≡ codes "types: Unreadable " ++ address_text at ++ codes "\n"
  pub writable : (at : ℕ) → type_line (type.Writable at) ≡ codes "types: Writable " ++ address_text at ++ codes "\n"
  pub name_too_long : (at : ℕ) → type_line (type.NameTooLong at) ≡ codes "types: NameTooLong " ++ address_text at ++ codes "\n"
  pub cyclic : (at : ℕ) → type_line (type.Cyclic at) ≡ codes "types: Cyclic " ++ address_text at ++ codes "\n"
  pub too_many_paths : (at : ℕ) → type_line (type.TooManyPaths at) ≡ codes "types: TooManyPaths " ++ address_text at ++ codes "\n"

-- ---- functions

-- a name as it is written: bytes from 33 to 126 as they are, and a question mark for each other byte
abbrev pub IsShownAs : ℕ → ℕ → Type 0
IsShownAs b c = ((33 ≤ b) × (b ≤ 126) × (c ≡ b)) ⊎ (((b < 33) ⊎ (126 < b)) × (c ≡ 63))

abbrev pub IsShown : List ℕ → List ℕ → Type 0
IsShown [] [] = Unit {0}
IsShown [] (c ∷ shown) = ⊥
IsShown (b ∷ name) [] = ⊥
IsShown (b ∷ name) (c ∷ shown) = IsShownAs b c × IsShown name shown

-- FUNCTION+OFFSET: CAUSE
pub record IsFunctionLine (what : FrameCause) (letters name : List ℕ) (offset : ℕ) : Type 0 where
  pub shown : List ℕ
  pub named : IsShown name shown
  pub line : cause_line name offset what ≡ shown ++ codes "+" ++ offset_text offset ++ codes ": " ++ letters ++ codes "\n"

abbrev pub IsCauseLine : FrameCause → List ℕ → Type 0
IsCauseLine what letters = (name : List ℕ) (offset : ℕ) → IsFunctionLine what letters name offset

-- .. for each cause; two of them name a register
pub record FunctionLines : Type 0 where
  pub undecodable : IsCauseLine cause.Undecodable (codes "Undecodable")
  pub branch_out : IsCauseLine cause.BranchOut (codes "BranchOut")
  pub indirect_branch : IsCauseLine cause.IndirectBranch (codes "IndirectBranch")
  pub call_not_function : IsCauseLine cause.CallNotFunction (codes "CallNotFunction")
  pub sp_write : IsCauseLine cause.SpWrite (codes "SpWrite")
  pub join_depth : IsCauseLine cause.JoinDepth (codes "JoinDepth")
  pub return_state : IsCauseLine cause.ReturnState (codes "ReturnState")
  pub call_state : (reg : ℕ) → IsCauseLine (cause.CallState reg) (codes "CallState " ++ register_name reg)
  pub frame_pointer_lost : (reg : ℕ) → IsCauseLine (cause.FramePointerLost reg) (codes "FramePointerLost " ++ register_name reg)
  pub bad_bytecode : IsCauseLine cause.BadBytecode (codes "BadBytecode")
  pub bad_descriptor : IsCauseLine cause.BadDescriptor (codes "BadDescriptor")
  pub pad_depth : IsCauseLine cause.PadDepth (codes "PadDepth")
  pub throw_in_leaf_scope : IsCauseLine cause.ThrowInLeafScope (codes "ThrowInLeafScope")
  pub split_entry : IsCauseLine cause.SplitEntry (codes "SplitEntry")
  pub generic_model : IsCauseLine cause.GenericModel (codes "GenericModel")
  pub too_long : IsCauseLine cause.TooLong (codes "TooLong")

-- r0 to r12, sp, lr and pc
pub record RegisterNames : Type 0 where
  pub low : (number : ℕ) → number < 13 → register_name number ≡ codes "r" ++ decimal number
  pub sp : register_name 13 ≡ codes "sp"
  pub lr : register_name 14 ≡ codes "lr"
  pub pc : register_name 15 ≡ codes "pc"

-- ---- all

pub record RefusalsAreWritten : Type 0 where
  pub sources : SourceLines
  pub objects : ObjectLines
  pub schedules : ScheduleLines
  pub links : LinkLines
  pub images : ImageLines
  pub indexes : IndexLines
  pub types : TypeLines
  pub functions : FunctionLines
  pub registers : RegisterNames
