-- Roles, as a function's addresses are put into them.
use Rattle.std.specs.Prelude.{ℕ, ◌≡◌, ◌↔◌, ◌⊎◌, ◌==◌, ◌||◌, Bool, true, if◌then◌else◌, List, fold, Contains}
use Rattle.frame_graph.specs.FlowGraph.{FlowGraph}
use Rattle.frame_graph.specs.Places.{address_of}
use Rattle.frame_graph.specs.Lowering.{is_lowering}
use Rattle.frame_graph.specs.Reach.{IsReached}
use Rattle.frame_reach.specs.Marks.{Marks}
use Rattle.frame_reach.specs.Prologue.{prologue, lines, places}
use Rattle.frame_check.specs.declared.roles.Role.{Role}
use Rattle.frame_check.specs.declared.pushes.ProloguePush.{ProloguePush}
use Rattle.frame_check.specs.Roles.{Table, look, Put}
use Rattle.frame_check.specs.Pushes.{pushes_of}

abbrev pub with_instr : Role → Role
with_instr x = record x { is_instr = true }

abbrev pub with_lowers : Role → Role
with_lowers x = record x { lowers = true }

abbrev pub with_start : Role → Role
with_start x = record x { is_function = true }

abbrev pub with_saves : ℕ → Role → Role
with_saves saves x = record x { saves = saves }

-- the role of an address is changed so, and no other
abbrev pub ChangesRole : (Role → Role) → ℕ → Table → Table → Type 0
ChangesRole change a old new = Put old new a (change (look old a))

-- the places' addresses are marked as instructions now; nothing else has changed
pub record AreInstrs (s : FlowGraph) (ps : List ℕ) (old new : Table) : Type 0 where
  pub instr : (a : ℕ) → ((look new a).is_instr ≡ true) ↔ (((look old a).is_instr ≡ true) ⊎ ((p : ℕ) × Contains ps p × (a ≡ address_of s p)))
  pub lowers : (a : ℕ) → (look new a).lowers ≡ (look old a).lowers
  pub starts : (a : ℕ) → (look new a).is_function ≡ (look old a).is_function
  pub saves : (a : ℕ) → (look new a).saves ≡ (look old a).saves

-- those of the places that are lowering places are marked as such now; nothing else has changed
pub record AreLowered (s : FlowGraph) (reached : ℕ → Bool) (ps : List ℕ) (old new : Table) : Type 0 where
  pub instr : (a : ℕ) → (look new a).is_instr ≡ (look old a).is_instr
  pub lowers : (a : ℕ) → ((look new a).lowers ≡ true)
      ↔ (((look old a).lowers ≡ true) ⊎ ((p : ℕ) × Contains ps p × (is_lowering s reached p ≡ true) × (a ≡ address_of s p)))
  pub starts : (a : ℕ) → (look new a).is_function ≡ (look old a).is_function
  pub saves : (a : ℕ) → (look new a).saves ≡ (look old a).saves

-- of several PUSHes at an address the last counts; without one, what was there before
abbrev pub saves_over : ℕ → List ProloguePush → ℕ → ℕ
saves_over before pushes a = fold (λ found (x : ProloguePush). if x.at == a then x.saves else found) before pushes

-- the PUSHes' saves are recorded now; nothing else has changed
pub record AreSaved (pushes : List ProloguePush) (old new : Table) : Type 0 where
  pub instr : (a : ℕ) → (look new a).is_instr ≡ (look old a).is_instr
  pub lowers : (a : ℕ) → (look new a).lowers ≡ (look old a).lowers
  pub starts : (a : ℕ) → (look new a).is_function ≡ (look old a).is_function
  pub saves : (a : ℕ) → (look new a).saves ≡ saves_over ((look old a).saves) pushes a

-- Of a function, the reached places are marked as instructions now, the lowering places and the start are marked, and the prologue's
-- saves are recorded. Nothing else has changed.
pub record IsMarked (s : FlowGraph) (m : Marks) (old new : Table) : Type 0 where
  pub instr : (a : ℕ) → ((look new a).is_instr ≡ true) ↔ (((look old a).is_instr ≡ true) ⊎ ((p : ℕ) × IsReached s p × (a ≡ address_of s p)))
  pub lowers : (a : ℕ) → ((look new a).lowers ≡ true) ↔ (((look old a).lowers ≡ true) ⊎ ((p : ℕ) × (is_lowering s m.reached p ≡ true) × (a ≡ address_of s p)))
  pub starts : (a : ℕ) → (look new a).is_function ≡ ((look old a).is_function || (s.start == a))
  pub saves : (a : ℕ) → (look new a).saves ≡ saves_over ((look old a).saves) (pushes_of (prologue s m) s.start (lines s m.target (places s) 0)) a
