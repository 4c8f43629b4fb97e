-- The checker of frames (docs/rules/acceptance.md).
use Rattle.std.specs.Prelude.{◌≡◌}
use Rattle.frame_facts.specs.declared.facts.TheConstants as frame_facts-facts
use Rattle.thumb_core.specs.declared.calls.TheConstants as thumb_core-calls
use Rattle.frame_facts.specs.declared.saves.TheConstants as frame_facts-saves
use Rattle.frame_code.specs.declared.standing.TheConstants as frame_graph-places
use Rattle.frame_reach.specs.declared.marks.TheConstants as frame_reach-marks

-- the numbers that the definitions of frame_facts cite
pub record FactNumbers : Type 0 where
  pub deepest : frame_facts-facts.DEEPEST ≡ 65536
  pub call_changes : thumb_core-calls.CALL_CHANGES ≡ 0x500F
  pub gate_changes : thumb_core-calls.GATE_CHANGES ≡ 0x100F
  pub most_saves : frame_facts-saves.MOST_SAVES ≡ 16

-- the numbers that the definitions of frame_graph cite
pub record FlowGraphNumbers : Type 0 where
  pub udf : frame_graph-places.UDF ≡ 0xDE

-- the numbers that the definitions of frame_reach cite
pub record ReachNumbers : Type 0 where
  pub most_reached : frame_reach-marks.MOST_REACHED ≡ 16384
