-- What an audit finds of an image (docs/guide/audit.md).
use Rattle.std.specs.Prelude.{ℕ, ◌≡◌, ◌&&◌, Bool, List, Option, Some, None}
use Rattle.std.specs.Option.{is_none}
use Rattle.std.specs.List.{list_all}
use Rattle.elf_image.specs.Image.{Image}
use Rattle.eh_index.specs.Refusal.{index_refusal}
use Rattle.eh_types.specs.Graph.{Row}
use Rattle.eh_types.specs.Meant.{IsGraph, Shows}
use Rattle.eh_types.specs.declared.fault.TypeFault.{TypeFault}
use Rattle.frame_check.specs.Roots.{roots_of}
use Rattle.frame_audit.specs.declared.image_audit.AuditFault.{AuditFault}
use Rattle.frame_audit.specs.declared.image_audit.AuditFault.TheVariants.{Index, OutOfMemory}
use Rattle.frame_audit.specs.Code.{stray_bytes}
use Rattle.frame_audit.specs.Listing.{FunctionAudit, AreAudited}

pub record Audit : Type 0 where
  -- of each function, in rising order
  pub functions : List FunctionAudit
  -- why its types mean no graph
  pub types : Option TypeFault
  -- how many bytes of code stand in no function
  pub stray : ℕ

-- its roots have a graph of types, or this fault shows that they have none
abbrev pub AreTypes : Image → Option TypeFault → Type 0
AreTypes image None = (types : List Row) × IsGraph image (roots_of image) types
AreTypes image (Some fault) = Shows image (roots_of image) fault

pub record IsAudit (image : Image) (x : Audit) : Type 0 where
  pub functions : AreAudited image image.functions x.functions
  pub types : AreTypes image x.types
  pub stray : x.stray ≡ stray_bytes image

-- nothing is said of any function
abbrev pub are_well : List FunctionAudit → Bool
are_well audited = list_all (λ (a : FunctionAudit). is_none a.unwell) audited

-- the audit found nothing to refuse, neither of a function nor of the types
unfoldable pub is_clear : Audit → Bool
is_clear x = are_well x.functions && is_none x.types

-- why an image isn't audited; running out of memory tells nothing
abbrev pub IsUnread : Image → AuditFault → Type 0
IsUnread image (Index fault) = index_refusal image ≡ Some fault
IsUnread image OutOfMemory = Unit {0}
