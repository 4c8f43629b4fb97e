-- What the call-site records of a generic entry of GNU's tables say, as descriptors along its function's range ("Exception handling
-- tables" of the GNU toolchain; IHI 0038, "Scope encoding"; docs/rules/gnu-tables.md). Offsets count from the function's start.
use Rattle.std.specs.Prelude.{ℕ, ◌+◌, ◌-◌, ◌%◌, ◌^◌, ◌==◌, ◌||◌, nat_lt, Bool, true, false, if◌then◌else◌, List, [], ◌∷◌, ◌++◌, flat_map, Option, Some, None, Result, Ok, Err}
use Rattle.std.specs.List.{list_any}
use Rattle.eh_desc.specs.declared.descriptor.CatchType.{CatchType}
use Rattle.eh_desc.specs.declared.descriptor.CatchType.TheVariants as catches
use Rattle.gnu_compact.specs.declared.descriptor.OwnKind.{OwnKind}
use Rattle.gnu_compact.specs.declared.descriptor.OwnKind.TheVariants as own
use Rattle.gnu_lsda.specs.declared.actions.CatchFilter.{CatchFilter}
use Rattle.gnu_lsda.specs.declared.actions.CatchFilter.TheVariants.{All, OfType}
use Rattle.gnu_lsda.specs.declared.actions.Action.{Action}
use Rattle.gnu_lsda.specs.declared.actions.Action.TheVariants.{Cleanup, Catch, NoTypes, Specification}
use Rattle.gnu_lsda.specs.declared.actions.ActionFault.{ActionFault}
use Rattle.gnu_lsda.specs.declared.records.Record.{Record}
use Rattle.gnu_lsda.specs.declared.records.RecordFault.{RecordFault}
use Rattle.gnu_lsda.specs.Entries.{Form}
use Rattle.gnu_lsda.specs.Heads.{Area}
use Rattle.gnu_lsda.specs.Sites.{records_of}
use Rattle.gnu_lsda.specs.Chains.{actions_of}
use Rattle.gnu_descriptors.specs.declared.scopes.GnuDescriptor.{GnuDescriptor}

abbrev pub gnu_descriptor : ℕ → ℕ → OwnKind → Option ℕ → GnuDescriptor
gnu_descriptor offset size kind filter = record { descriptor = record { offset = offset; size = size; kind = kind }; filter = filter }

-- ---- a part that no record covers: nothing passes it

abbrev pub uncovered_part : ℕ → ℕ → List GnuDescriptor
uncovered_part from to = if nat_lt from to then gnu_descriptor from (to - from) own.Specification None ∷ [] else []

-- ---- a record

abbrev pub takes_of : CatchFilter → CatchType
takes_of All = catches.All
takes_of (OfType address) = catches.One address

abbrev pub pad_of : ℕ → Record → ℕ
pad_of start site = (start + site.pad) % 2 ^ 32

-- a filter has 32 bits, since its type word stands among the bytes
abbrev pub catch_descriptor : ℕ → Record → ℕ → CatchFilter → GnuDescriptor
catch_descriptor start site filter takes = gnu_descriptor site.start site.size (own.Catch (pad_of start site) (takes_of takes)) (Some (filter % 2 ^ 32))

-- a filter above 0 is a catch
abbrev pub catches_by : ℕ → Record → Action → List GnuDescriptor
catches_by start site (Catch filter takes) = catch_descriptor start site filter takes ∷ []
catches_by start site Cleanup = []
catches_by start site NoTypes = []
catches_by start site Specification = []

abbrev pub catches_of : ℕ → Record → Result Action ActionFault → List GnuDescriptor
catches_of start site (Ok action) = catches_by start site action
catches_of start site (Err fault) = []

abbrev pub is_cleanup_action : Action → Bool
is_cleanup_action Cleanup = true
is_cleanup_action (Catch filter takes) = false
is_cleanup_action NoTypes = false
is_cleanup_action Specification = false

abbrev pub is_cleanup : Result Action ActionFault → Bool
is_cleanup (Ok action) = is_cleanup_action action
is_cleanup (Err fault) = false

-- there is no chain, or filter 0 is in it
abbrev pub is_cleaning : Area → ℕ → Bool
is_cleaning a action = action == 0 || list_any is_cleanup (actions_of a action)

abbrev pub cleanup_of : ℕ → Record → List GnuDescriptor
cleanup_of start site = gnu_descriptor site.start site.size (own.Cleanup (pad_of start site)) None ∷ []

-- the catches in the order of the chain, and then the cleanup
abbrev pub landing_of : ℕ → Area → Record → List GnuDescriptor
landing_of start a site = flat_map (catches_of start site) (actions_of a site.action) ++ (if is_cleaning a site.action then cleanup_of start site else [])

-- without a landing pad a throw passes
abbrev pub record_descriptors : ℕ → Area → Record → List GnuDescriptor
record_descriptors start a site = if site.pad == 0 then [] else landing_of start a site

-- ---- the range

-- the end of the range up to a record; a record of size 0 doesn't change it
abbrev pub end_after : ℕ → Result Record RecordFault → ℕ
end_after at (Ok site) = if site.size == 0 then at else site.start + site.size
end_after at (Err fault) = at

abbrev pub item_descriptors : ℕ → Area → ℕ → Result Record RecordFault → List GnuDescriptor
item_descriptors start a at (Ok site) = if site.size == 0 then [] else uncovered_part at site.start ++ record_descriptors start a site
item_descriptors start a at (Err fault) = []

-- the descriptors of records after one that ends at an offset, up to the range's end
abbrev pub scopes_from : ℕ → ℕ → Area → ℕ → List (Result Record RecordFault) → List GnuDescriptor
scopes_from start size a at [] = uncovered_part at size
scopes_from start size a at (item ∷ more) = item_descriptors start a at item ++ scopes_from start size a (end_after at item) more

abbrev pub scopes_of : Form → Area → List GnuDescriptor
scopes_of f a = scopes_from f.start f.size a 0 (records_of a)
