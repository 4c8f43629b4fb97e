-- The standard frame: a PUSH of some of r4 to r7 and of lr at the entry, and the POP of the same registers, the last into pc.
use Rattle.std.specs.Prelude.{ℕ, ◌≡◌, ◌<◌, ◌+◌, ◌*◌, ◌^◌, Bool, false, List, [], ◌∷◌, Some, Ok}
use Rattle.thumb_isa.specs.declared.instr.Instr.TheVariants.{Push, Pop}
use Rattle.eh_bytecode.specs.eh_codes.declared.code.UnwindCode.TheVariants.{PopMask}
use Rattle.eh_bytecode.specs.eh_codes.Cut.{Item, Is}
use Rattle.eh_bytecode.specs.declared.recipe.Recipe.{Recipe}
use Rattle.eh_bytecode.specs.Recipe.{recipe}
use Rattle.frame_facts.specs.declared.straight.Straight.{Straight}
use Rattle.frame_facts.specs.Facts.{entry_fact}
use Rattle.frame_facts.specs.Prologues.{empty_run, with_instruction}
use Rattle.frame_facts.specs.After.{after_of}
use Rattle.frame_facts.specs.Agrees.{agreement}

-- the PUSH of a frame that keeps the registers of a mask, whose bit 0 stands for r4, and lr; its POP; and the codes that undo it
abbrev pub push_list : ℕ → ℕ
push_list mask = 16 * mask + 0x4000

abbrev pub pop_list : ℕ → ℕ
pop_list mask = 16 * mask + 0x8000

abbrev pub codes_of : ℕ → List Item
codes_of mask = Is (PopMask (mask + 0x400)) ∷ []

-- After the PUSH every word that it stored is kept, and a call there agrees with the unwind instructions. The POP gives the entry's
-- fact again, and its return is accepted.
pub record IsStandard (start mask : ℕ) : Type 0 where
  pub after : Straight
  pub pushed : with_instruction (empty_run start) (Push (push_list mask)) 2 ≡ Some after
  pub kept : after.fact.kept ≡ after.prologue.count
  pub undo : Recipe
  pub undone : recipe (codes_of mask) ≡ Ok undo
  pub agrees : (is_call : Bool) → agreement after.prologue undo is_call after.fact ≡ Ok tt
  pub returns : (at : ℕ) → after_of after.prologue false at (Pop (pop_list mask)) after.fact ≡ Ok entry_fact

abbrev pub StandardFrames : Type 0
StandardFrames = (start mask : ℕ) → start + 2 < 2 ^ 32 → mask < 16 → IsStandard start mask
