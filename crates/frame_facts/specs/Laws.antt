-- Laws of effects, meetings and sites, for all facts.
use Rattle.std.specs.Prelude.{ℕ, ◌≡◌, ◌<◌, ◌≤◌, ◌⊎◌, Bool, List, length, Some, None, Ok}
use Rattle.thumb_isa.specs.declared.instr.Instr.{Instr}
use Rattle.eh_bytecode.specs.declared.recipe.Recipe.{Recipe}
use Rattle.frame_facts.specs.declared.facts.Fact.{Fact}
use Rattle.frame_facts.specs.declared.saves.Prologue.{Prologue}
use Rattle.frame_facts.specs.Facts.{entry_fact, forget_registers, join_of, IsAtMost, IsFit, height}
use Rattle.frame_facts.specs.After.{after_of}
use Rattle.frame_facts.specs.Agrees.{agreement}

-- If an instruction gives no cause for a vague fact, it gives none for one that is at most as vague, and the fact after it is at most
-- as vague too. The same holds for a recipe at a site, and for clobbered registers.
pub record KeepVagueness : Type 0 where
  pub after : (p : Prologue) (lowers : Bool) (at : ℕ) (i : Instr) (f g g' : Fact) → IsAtMost f g → after_of p lowers at i g ≡ Ok g'
      → (f' : Fact) × (after_of p lowers at i f ≡ Ok f') × IsAtMost f' g'
  pub agrees : (p : Prologue) (r : Recipe) (is_call : Bool) (f g : Fact) → IsAtMost f g → agreement p r is_call g ≡ Ok tt → agreement p r is_call f ≡ Ok tt
  pub clobbers : (regs : List ℕ) (f g : Fact) → IsAtMost f g → IsAtMost (forget_registers regs f) (forget_registers regs g)

-- Being at most as vague is an order, and the meeting of two facts is the least vague fact that both are at most as vague as. Two facts
-- have no meeting only if no fact is as vague as both.
pub record MeetingsAreLeast : Type 0 where
  pub same : (f : Fact) → IsAtMost f f
  pub via : (f g h : Fact) → IsAtMost f g → IsAtMost g h → IsAtMost f h
  pub left : (f g h : Fact) → join_of f g ≡ Some h → IsAtMost f h
  pub right : (f g h : Fact) → length f.regs ≡ length g.regs → join_of f g ≡ Some h → IsAtMost g h
  pub least : (f g h k : Fact) → join_of f g ≡ Some h → IsAtMost f k → IsAtMost g k → IsAtMost h k
  pub parted : (f g k : Fact) → join_of f g ≡ None → IsAtMost f k → IsAtMost g k → ⊥

-- A meeting is the first fact or has a smaller height. Heights are below 32, so the fact of a place changes at most 31 times.
pub record HeightsFall : Type 0 where
  pub falls : (f g h : Fact) → join_of f g ≡ Some h → (h ≡ f) ⊎ (height h < height f)
  pub low : (count : ℕ) (f : Fact) → count ≤ 16 → IsFit count f → height f < 32

-- A property of every state of a function: the entry's fact has it, and effects, meetings and clobbering keep it.
pub record FactsFit : Type 0 where
  pub entry : (count : ℕ) → IsFit count entry_fact
  pub after : (p : Prologue) (lowers : Bool) (at : ℕ) (i : Instr) (f g : Fact) → IsFit p.count f → after_of p lowers at i f ≡ Ok g → IsFit p.count g
  pub join : (count : ℕ) (f g h : Fact) → IsFit count f → join_of f g ≡ Some h → IsFit count h
  pub clobbers : (count : ℕ) (regs : List ℕ) (f : Fact) → IsFit count f → IsFit count (forget_registers regs f)
