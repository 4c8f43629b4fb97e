-- Which functions an audit counts (docs/guide/audit.md, "Counts").
use Rattle.std.specs.Prelude.{ℕ, ◌==◌, ◌&&◌, not, Bool, false, Option, Some, None}
use Rattle.std.specs.Option.{is_none}
use Rattle.frame_facts.specs.declared.cause.FrameCause.{FrameCause}
use Rattle.frame_facts.specs.declared.cause.FrameCause.TheVariants as cause
use Rattle.frame_audit.specs.declared.counts.Question.{Question}
use Rattle.frame_audit.specs.declared.counts.Question.TheVariants as question
use Rattle.frame_audit.specs.declared.functions.FrameFinding.{FrameFinding}
use Rattle.frame_audit.specs.Listing.{FunctionAudit}

-- the number of a cause, whatever register it names
abbrev pub number_of : FrameCause → ℕ
number_of cause.Undecodable = 1
number_of cause.BranchOut = 2
number_of cause.IndirectBranch = 3
number_of cause.CallNotFunction = 4
number_of cause.SpWrite = 5
number_of cause.JoinDepth = 6
number_of cause.ReturnState = 7
number_of (cause.CallState reg) = 8
number_of (cause.FramePointerLost reg) = 9
number_of cause.BadBytecode = 10
number_of cause.BadDescriptor = 11
number_of cause.PadDepth = 12
number_of cause.ThrowInLeafScope = 13
number_of cause.SplitEntry = 14
number_of cause.GenericModel = 15
number_of cause.TooLong = 16

-- the function is rejected for this cause, whatever register it names
abbrev pub is_cause : FrameCause → Option FrameFinding → Bool
is_cause c None = false
is_cause c (Some u) = number_of u.cause == number_of c

abbrev pub is_counted : Question → FunctionAudit → Bool
is_counted question.Unwinds a = a.unwinds
is_counted question.UnwindsWell a = a.unwinds && is_none a.unwell
is_counted question.CantUnwind a = not a.unwinds
is_counted question.CantUnwindWell a = not a.unwinds && is_none a.unwell
is_counted question.Well a = is_none a.unwell
is_counted (question.Cause c) a = is_cause c a.unwell
