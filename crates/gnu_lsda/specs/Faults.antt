-- Why a generic entry is refused: if its bytes have several faults, the first in the order of `EntryFault` (docs/rules/gnu-tables.md).
use Rattle.std.specs.Prelude.{ℕ, ◌+◌, ◌%◌, ◌==◌, not, ◌&&◌, ◌||◌, nat_le, nat_lt, Bool, false, if◌then◌else◌, fold, Option, Some, None, Result, Ok, Err}
use Rattle.elf_image.specs.Segments.{Segment}
use Rattle.elf_image.specs.Functions.{segment_at}
use Rattle.elf_image.specs.Image.{Image}
use Rattle.elf_image.specs.declared.limits.TheConstants.{ADDRESS_LIMIT}
use Rattle.eh_codes.specs.Rows.{even}
use Rattle.gnu_lsda.specs.declared.lsda.HeadFault.{HeadFault}
use Rattle.gnu_lsda.specs.declared.lsda.HeadFault.TheVariants as heads
use Rattle.gnu_lsda.specs.declared.records.Record.{Record}
use Rattle.gnu_lsda.specs.declared.records.RecordFault.{RecordFault}
use Rattle.gnu_lsda.specs.declared.records.RecordFault.TheVariants as records
use Rattle.gnu_lsda.specs.declared.actions.CatchFilter.{CatchFilter}
use Rattle.gnu_lsda.specs.declared.actions.CatchFilter.TheVariants.{All, OfType}
use Rattle.gnu_lsda.specs.declared.actions.Action.{Action}
use Rattle.gnu_lsda.specs.declared.actions.Action.TheVariants.{Cleanup, Catch, NoTypes, Specification}
use Rattle.gnu_lsda.specs.declared.actions.ActionFault.{ActionFault}
use Rattle.gnu_lsda.specs.declared.actions.ActionFault.TheVariants as actions
use Rattle.gnu_lsda.specs.declared.fault.EntryFault.{EntryFault}
use Rattle.gnu_lsda.specs.declared.fault.EntryFault.TheVariants.{Personality, Short, Format, Order, Filter, Chain, TooLong}
use Rattle.gnu_lsda.specs.declared.fault.RecordScan.{RecordScan}
use Rattle.gnu_lsda.specs.declared.fault.TheConstants.{TOO_MANY_WORDS}
use Rattle.gnu_lsda.specs.Entries.{Form, personality_of, personality_in, words_after}
use Rattle.gnu_lsda.specs.Heads.{Area, area_of}
use Rattle.gnu_lsda.specs.Sites.{records_of}
use Rattle.gnu_lsda.specs.Chains.{actions_of}

-- ---- the order of faults

abbrev pub rank : EntryFault → ℕ
rank Personality = 1
rank Short = 2
rank Format = 3
rank Order = 4
rank Filter = 5
rank Chain = 6
rank TooLong = 7

-- of two faults the one that comes first
abbrev pub lower : Option EntryFault → Option EntryFault → Option EntryFault
lower None other = other
lower (Some fault) None = Some fault
lower (Some fault) (Some other) = if nat_le (rank fault) (rank other) then Some fault else Some other

-- a fault where a test holds
abbrev pub fault_when : Bool → EntryFault → Option EntryFault
fault_when holds fault = if holds then Some fault else None

-- ---- actions

-- the memory of a segment that isn't writable holds the address
abbrev pub read_only : Option Segment → Bool
read_only None = false
read_only (Some s) = not s.write

abbrev pub caught_type_fault : Image → CatchFilter → Option EntryFault
caught_type_fault image All = None
caught_type_fault image (OfType address) = fault_when (not (read_only (segment_at image.segments address))) Filter

-- an exception specification is refused; a catch needs a type table, and its type must be in a read-only segment
abbrev pub action_fault : Image → Action → Option EntryFault
action_fault image Cleanup = None
action_fault image (Catch filter takes) = caught_type_fault image takes
action_fault image NoTypes = Some Filter
action_fault image Specification = Some Filter

abbrev pub item_fault : Image → Result Action ActionFault → Option EntryFault
item_fault image (Ok action) = action_fault image action
item_fault image (Err actions.Short) = Some Short
item_fault image (Err actions.Chain) = Some Chain

abbrev pub chain_fault : Image → Area → ℕ → Option EntryFault
chain_fault image a action = fold (λ seen item. lower seen (item_fault image item)) None (actions_of a action)

-- ---- records

abbrev pub is_odd : ℕ → Bool
is_odd n = not (n % 2 == 0)

-- a landing pad's address is past all segments; it is computed without wrapping
abbrev pub is_pad_beyond : Form → Record → Bool
is_pad_beyond f site = not (site.pad == 0) && nat_le ADDRESS_LIMIT (f.start + site.pad)

-- the record starts before the end of the one before it, or ends past the range; or its start, size or landing pad is odd; or its
-- landing pad is past all segments
abbrev pub is_disordered : Form → ℕ → Record → Bool
is_disordered f before site =
    nat_lt site.start before || nat_lt f.size (site.start + site.size) || is_odd site.start || is_odd site.size || is_odd site.pad || is_pad_beyond f site

-- one record more: where it ends, and the first fault so far
abbrev pub with_record : Image → Form → Area → RecordScan → Result Record RecordFault → RecordScan
with_record image f a seen (Ok site) = record {
  end = site.start + site.size;
  fault = lower (lower seen.fault (fault_when (is_disordered f seen.end site) Order)) (chain_fault image a site.action);
}
with_record image f a seen (Err records.Short) = record { end = seen.end; fault = lower seen.fault (Some Short) }

abbrev pub records_fault : Image → Form → Area → Option EntryFault
records_fault image f a = (fold (with_record image f a) (record { end = 0; fault = None }) (records_of a)).fault

-- ---- the entry

-- there is no room for one more word of unwind instructions in a table of the compact model
abbrev pub is_too_long : Option ℕ → Bool
is_too_long None = false
is_too_long (Some words) = words == TOO_MANY_WORDS

abbrev pub area_fault : Image → Form → Result Area HeadFault → Option EntryFault
area_fault image f (Err heads.Short) = Some Short
area_fault image f (Err heads.Format) = Some Format
area_fault image f (Ok a) = lower (fault_when (is_too_long (words_after f)) TooLong) (records_fault image f a)

-- the entry names the personality routine at an address, if that is known; bit 0 isn't part of the address
abbrev pub names_routine : Form → Option ℕ → Bool
names_routine f None = false
names_routine f (Some address) = even address == personality_of f

-- the first fault of an entry; the GNU C++ personality routine is at the given address
abbrev pub fault_with : Image → Option ℕ → Form → Option EntryFault
fault_with image personality f = if names_routine f personality then area_fault image f (area_of f) else Some Personality

abbrev pub fault_of : Image → Form → Option EntryFault
fault_of image f = fault_with image (personality_in image) f
