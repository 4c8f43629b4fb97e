-- The names of causes and of kinds of traps in reports (docs/guide/command-line.md).
use Rattle.std.specs.Prelude.{ℕ, List, codes}
use Rattle.thumb_core.specs.declared.ends.Cause.{Cause}
use Rattle.thumb_core.specs.declared.ends.Cause.TheVariants.{NoHandler, CannotUnwind, NoThrow, LeavesCleanup, Unexpected, NothingCaught, PoolFull, Called}
use Rattle.thumb_core.specs.declared.ends.TrapKind.{TrapKind}
use Rattle.thumb_core.specs.declared.ends.TrapKind.TheVariants as kind

abbrev pub cause_name : Cause → List ℕ
cause_name NoHandler = codes "NoHandler"
cause_name CannotUnwind = codes "CannotUnwind"
cause_name NoThrow = codes "NoThrow"
cause_name LeavesCleanup = codes "LeavesCleanup"
cause_name Unexpected = codes "Unexpected"
cause_name NothingCaught = codes "NothingCaught"
cause_name PoolFull = codes "PoolFull"
cause_name Called = codes "Called"

abbrev pub kind_name : TrapKind → List ℕ
kind_name kind.Undefined = codes "Undefined"
kind_name kind.Unpredictable = codes "Unpredictable"
kind_name kind.NotInProfile = codes "NotInProfile"
kind_name kind.EvenTarget = codes "EvenTarget"
kind_name kind.Unmapped = codes "Unmapped"
kind_name kind.Unaligned = codes "Unaligned"
kind_name kind.ReadOnly = codes "ReadOnly"
kind_name kind.SavedSlot = codes "SavedSlot"
kind_name kind.Protected = codes "Protected"
kind_name kind.NotExecutable = codes "NotExecutable"
kind_name kind.FellOff = codes "FellOff"
kind_name kind.SpRaised = codes "SpRaised"
kind_name kind.SpInCleanup = codes "SpInCleanup"
kind_name kind.StackLimit = codes "StackLimit"
kind_name kind.BadCallTarget = codes "BadCallTarget"
kind_name kind.UnknownGate = codes "UnknownGate"
kind_name kind.BadObject = codes "BadObject"
kind_name kind.BadUcb = codes "BadUcb"
kind_name kind.TooBig = codes "TooBig"
kind_name kind.BadType = codes "BadType"
kind_name kind.CaughtOrder = codes "CaughtOrder"
kind_name kind.NoCaught = codes "NoCaught"
kind_name kind.NoCleanup = codes "NoCleanup"
kind_name kind.CleanupElsewhere = codes "CleanupElsewhere"
kind_name kind.ObjectRead = codes "ObjectRead"
