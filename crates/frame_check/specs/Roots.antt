-- Which types an image's exceptions may have: those that its descriptors name, and its type symbols.
use Rattle.std.specs.Prelude.{ℕ, ◌==◌, ◌&&◌, Bool, true, false, if◌then◌else◌, List, [], ◌∷◌, ◌++◌, Option, Some, None, Ok, Err}
use Rattle.std.specs.List.{flat_map, range_with_len}
use Rattle.elf_image.specs.Segments.{Segment}
use Rattle.elf_image.specs.Functions.{Function}
use Rattle.elf_image.specs.Image.{Image, type_symbols_of}
use Rattle.eh_desc.specs.declared.descriptor.CatchType.{CatchType}
use Rattle.eh_desc.specs.declared.descriptor.CatchType.TheVariants.{All, AllFails, One}
use Rattle.eh_desc.specs.declared.descriptor.DescKind.{DescKind}
use Rattle.eh_desc.specs.declared.descriptor.DescKind.TheVariants.{Cleanup, Catch, Spec}
use Rattle.eh_desc.specs.Grammar.{type_in, items_of}
use Rattle.frame_graph.specs.FlowGraph.{FlowGraph}
use Rattle.eh_codes.specs.declared.row.Entry.{Entry}
use Rattle.eh_codes.specs.declared.row.EntryBody.{EntryBody}
use Rattle.eh_codes.specs.declared.row.EntryBody.TheVariants.{CantUnwind, Inline, Table}
use Rattle.eh_index.specs.Places.{table_of}
use Rattle.frame_entries.specs.Scopes.{Item}
use Rattle.frame_graph.specs.Sites.{entry_at}

-- the function as a flow graph
abbrev pub flow_graph_of : Image → Function → FlowGraph
flow_graph_of image f = record { image = image; start = f.start; end = f.end }

-- a type at an address; 0 is none
abbrev pub type_at : ℕ → List ℕ
type_at a = if a == 0 then [] else a ∷ []

abbrev pub spec_root : Option ℕ → List ℕ
spec_root None = []
spec_root (Some a) = type_at a

abbrev pub catch_types : CatchType → List ℕ
catch_types All = []
catch_types AllFails = []
catch_types (One a) = type_at a

-- the types that a descriptor names: a catch its type, a specification its types
abbrev pub kind_types : List Segment → DescKind → List ℕ
kind_types segments (Cleanup pad) = []
kind_types segments (Catch pad reference type) = catch_types type
kind_types segments (Spec types count pad) = flat_map (λ i. spec_root (type_in segments (Spec types count pad) i)) (range_with_len 0 count)

abbrev pub item_types : List Segment → Item → List ℕ
item_types segments (Ok d) = kind_types segments d.kind
item_types segments (Err fault) = []

-- ---- entries

-- the entry that covers the function's start
abbrev pub entry_of : Image → Function → Option Entry
entry_of image f = entry_at (flow_graph_of image f) f.start

-- the types that its descriptors name
abbrev pub entry_types : Image → Option Entry → List ℕ
entry_types image None = []
entry_types image (Some e) = flat_map (item_types image.segments) (items_of e (table_of image e))

abbrev pub same_body : EntryBody → EntryBody → Bool
same_body CantUnwind CantUnwind = true
same_body (Inline a) (Inline b) = a == b
same_body (Table a) (Table b) = a == b
same_body a b = false

abbrev pub same_entry : Option Entry → Option Entry → Bool
same_entry None None = true
same_entry (Some a) (Some b) = (a.start == b.start) && same_body a.body b.body
same_entry a b = false

-- the types of the functions' entries; an entry is left out if it is that of the function before
unfoldable pub types_from : Image → Option Entry → List Function → List ℕ
types_from image before [] = []
types_from image before (f ∷ more) = (if same_entry before (entry_of image f) then [] else entry_types image (entry_of image f)) ++ types_from image (entry_of image f) more

-- the types of all functions, in ascending order, and then the image's type symbols
unfoldable pub roots_of : Image → List ℕ
roots_of image = types_from image None image.functions ++ type_symbols_of image.symbols
