-- All faults of a generic entry, as a list, and what the first of them in the order of faults is (docs/rules/gnu-tables.md).
use Rattle.std.specs.Prelude.{◌≡◌, ℕ, ◌+◌, ◌≤◌, if◌then◌else◌, List, [], ◌∷◌, ◌++◌, flat_map, All, Contains, Option, Some, None, Result, Ok, Err}
use Rattle.elf_image.specs.Image.{Image}
use Rattle.gnu_lsda.specs.declared.lsda.HeadFault.{HeadFault}
use Rattle.gnu_lsda.specs.declared.lsda.HeadFault.TheVariants as heads
use Rattle.gnu_lsda.specs.declared.records.Record.{Record}
use Rattle.gnu_lsda.specs.declared.records.RecordFault.{RecordFault}
use Rattle.gnu_lsda.specs.declared.records.RecordFault.TheVariants as records
use Rattle.gnu_lsda.specs.declared.fault.EntryFault.{EntryFault}
use Rattle.gnu_lsda.specs.declared.fault.EntryFault.TheVariants.{Personality, Short, Format, Order, TooLong}
use Rattle.gnu_lsda.specs.Entries.{Form, personality_in, words_after}
use Rattle.gnu_lsda.specs.Heads.{Area, area_of}
use Rattle.gnu_lsda.specs.Sites.{records_of}
use Rattle.gnu_lsda.specs.Chains.{actions_of}
use Rattle.gnu_lsda.specs.Faults.{rank, fault_when, item_fault, is_disordered, is_too_long, names_routine, fault_of}

abbrev pub fault_list : Option EntryFault → List EntryFault
fault_list None = []
fault_list (Some fault) = fault ∷ []

-- what the actions of a chain show
abbrev pub chain_shows : Image → Area → ℕ → List EntryFault
chain_shows image a action = flat_map (λ item. fault_list (item_fault image item)) (actions_of a action)

-- the faults of records, after one that ends at an offset: whether each is out of order, and the faults of its chain
abbrev pub records_show : Image → Form → Area → ℕ → List (Result Record RecordFault) → List EntryFault
records_show image f a before [] = []
records_show image f a before (Ok site ∷ more) =
    fault_list (fault_when (is_disordered f before site) Order) ++ (chain_shows image a site.action ++ records_show image f a (site.start + site.size) more)
records_show image f a before (Err records.Short ∷ more) = Short ∷ records_show image f a before more

-- after a head that can't be read nothing is looked at
abbrev pub area_shows : Image → Form → Result Area HeadFault → List EntryFault
area_shows image f (Err heads.Short) = Short ∷ []
area_shows image f (Err heads.Format) = Format ∷ []
area_shows image f (Ok a) = fault_list (fault_when (is_too_long (words_after f)) TooLong) ++ records_show image f a 0 (records_of a)

-- all faults of an entry; of one that doesn't name the personality routine nothing else is checked
abbrev pub shown_faults : Image → Form → List EntryFault
shown_faults image f = if names_routine f (personality_in image) then area_shows image f (area_of f) else Personality ∷ []

-- there is none, or it is one of them, and none comes before it
abbrev pub IsFirst : List EntryFault → Option EntryFault → Type 0
IsFirst faults None = faults ≡ []
IsFirst faults (Some first) = Contains faults first × All (λ other. rank first ≤ rank other) faults

abbrev pub FirstFaultIsAnswered : Type 0
FirstFaultIsAnswered = (image : Image) (f : Form) → IsFirst (shown_faults image f) (fault_of image f)
