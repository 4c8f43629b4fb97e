-- The names of the causes, as they are written in reports (docs/rules/acceptance.md).
use Rattle.std.specs.Prelude.{ℕ, List, codes}
use Rattle.frame_facts.specs.declared.cause.FrameCause.{FrameCause}
use Rattle.frame_facts.specs.declared.cause.FrameCause.TheVariants.{Undecodable, BranchOut, IndirectBranch, CallNotFunction, SpWrite, JoinDepth, ReturnState, CallState, FramePointerLost, BadBytecode, BadDescriptor, PadDepth, ThrowInLeafScope, SplitEntry, GenericModel, TooLong}

abbrev pub cause_name : FrameCause → List ℕ
cause_name Undecodable = codes "Undecodable"
cause_name BranchOut = codes "BranchOut"
cause_name IndirectBranch = codes "IndirectBranch"
cause_name CallNotFunction = codes "CallNotFunction"
cause_name SpWrite = codes "SpWrite"
cause_name JoinDepth = codes "JoinDepth"
cause_name ReturnState = codes "ReturnState"
cause_name (CallState reg) = codes "CallState"
cause_name (FramePointerLost reg) = codes "FramePointerLost"
cause_name BadBytecode = codes "BadBytecode"
cause_name BadDescriptor = codes "BadDescriptor"
cause_name PadDepth = codes "PadDepth"
cause_name ThrowInLeafScope = codes "ThrowInLeafScope"
cause_name SplitEntry = codes "SplitEntry"
cause_name GenericModel = codes "GenericModel"
cause_name TooLong = codes "TooLong"
