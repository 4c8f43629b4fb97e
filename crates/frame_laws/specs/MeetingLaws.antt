-- The meeting of two facts of a place is what both tell of sp, of each save and of each register (docs/rules/acceptance.md, "Facts").
use Rattle.std.specs.Prelude.{◌≡◌, ◌≢◌, ◌↔◌, ℕ, ◌<◌, false, Some, None, length}
use Rattle.thumb_core.specs.declared.regs.Regs.{Regs}
use Rattle.frame_facts.specs.declared.facts.Source.{Source}
use Rattle.frame_facts.specs.declared.facts.Source.TheVariants.{Other}
use Rattle.frame_facts.specs.declared.facts.Fact.{Fact}
use Rattle.frame_facts.specs.Facts.{source, join_of}
use Rattle.frame_facts.specs.Machine.{Describes}

-- sp is known to be exactly at the depth if and only if both know it. A save is kept if and only if both keep it, by its number among
-- the saves. A register is known to have a value if and only if both know the same.
pub record IsCommon (a b m : Fact) : Type 0 where
  pub depth : m.depth ≡ a.depth
  pub other_depth : m.depth ≡ b.depth
  pub sp : (m.below ≡ false) ↔ ((a.below ≡ false) × (b.below ≡ false))
  pub saves : (k : ℕ) → (k < m.kept) ↔ ((k < a.kept) × (k < b.kept))
  pub registers : (reg : ℕ) (s : Source) → s ≢ Other → (source m reg ≡ s) ↔ ((source a reg ≡ s) × (source b reg ≡ s))

-- registers that either fact describes are described by the meeting
pub record DescribesBoth (a b m : Fact) : Type 0 where
  pub one : (entry : ℕ → ℕ) (cfa : ℕ) (regs : Regs) → Describes entry cfa a regs → Describes entry cfa m regs
  pub other : (entry : ℕ → ℕ) (cfa : ℕ) (regs : Regs) → length a.regs ≡ 14 → Describes entry cfa b regs → Describes entry cfa m regs

-- facts have something in common exactly where their depths are equal
pub record MeetingsAreCommon : Type 0 where
  pub meet : (a b : Fact) → a.depth ≡ b.depth → (m : Fact) × (join_of a b ≡ Some m)
  pub apart : (a b : Fact) → a.depth ≢ b.depth → join_of a b ≡ None
  pub common : (a b m : Fact) → join_of a b ≡ Some m → IsCommon a b m
  pub describes : (a b m : Fact) → join_of a b ≡ Some m → DescribesBoth a b m
