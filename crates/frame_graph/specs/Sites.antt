-- Sites, and what the exception index says of each (IHI 0038).
use Rattle.std.specs.Prelude.{ℕ, ◌+◌, ◌%◌, ◌^◌, ◌||◌, not, nat_lt, Bool, false, List, [], ◌∷◌, ◌++◌, Option, Some, None, Ok, Err, option_and_then}
use Rattle.std.specs.List.{list_any}
use Rattle.std.specs.Option.{option_map_or}
use Rattle.thumb_isa.specs.declared.instr.Instr.{Instr}
use Rattle.thumb_isa.specs.declared.instr.Instr.TheVariants.{Bl, Blx, Svc}
use Rattle.eh_index.specs.eh_codes.declared.row.Entry.{Entry}
use Rattle.eh_index.specs.Covering.{covering}
use Rattle.eh_index.specs.Places.{table_of}
use Rattle.eh_index.specs.Rows.{entries_of}
use Rattle.eh_desc.specs.declared.descriptor.Desc.{Desc}
use Rattle.eh_desc.specs.Grammar.{items_of}
use Rattle.frame_entries.specs.declared.unwinding.EntrySummary.{EntrySummary}
use Rattle.frame_entries.specs.declared.unwinding.EntrySummary.TheVariants.{Refused}
use Rattle.frame_entries.specs.Scopes.{Item, is_scope_at, is_one, is_fault, is_cleanup_at, pad_for}
use Rattle.frame_graph.specs.declared.edges.Edge.{Edge}
use Rattle.frame_graph.specs.FlowGraph.{FlowGraph}
use Rattle.frame_graph.specs.Places.{address_of, place_of, is_code_of}
use Rattle.frame_graph.specs.Edges.{edges_to, straight_edges, instruction_at}
use Rattle.frame_entries.specs.Unwinding.{summary_of_body, landing_changes}

-- ---- sites

-- The site of a call or a gate: its address, or for BL the address of its second halfword. So it is two bytes below the return address
-- of a call.
abbrev pub site_of : ℕ → Instr → Option ℕ
site_of a (Bl off) = Some ((a + 2) % 2 ^ 32)
site_of a (Blx m) = Some a
site_of a (Svc imm) = Some a
site_of a i = None

-- the site of a place
abbrev pub site_at : FlowGraph → ℕ → Option ℕ
site_at s place = option_and_then (site_of (address_of s place)) (instruction_at s place)

-- ---- what the covering entry of a site says

-- the entry that covers an address
abbrev pub entry_at : FlowGraph → ℕ → Option Entry
entry_at s a = covering (entries_of s.image) a

abbrev pub unwinding_by : FlowGraph → Option Entry → EntrySummary
unwinding_by s None = Refused
unwinding_by s (Some e) = summary_of_body e.body (table_of s.image e)

-- how the entry that covers the address unwinds; Refused if none does
unfoldable pub unwinding_at : FlowGraph → ℕ → EntrySummary
unwinding_at s a = unwinding_by s (entry_at s a)

abbrev pub items_by : FlowGraph → Option Entry → List Item
items_by s None = []
items_by s (Some e) = items_of e (table_of s.image e)

-- its descriptors, in order
unfoldable pub items_at : FlowGraph → ℕ → List Item
items_at s a = items_by s (entry_at s a)

-- ---- descriptors in scope

-- some descriptor has the site in its scope
abbrev pub is_scoped : FlowGraph → ℕ → Bool
is_scoped s site = list_any (is_one (is_scope_at site)) (items_at s site)

abbrev pub has_fault : FlowGraph → ℕ → Bool
has_fault s a = list_any is_fault (items_at s a)

-- ---- landing pads

-- the edges from a site to the pads of these descriptors; the flag says whether one before them is a cleanup in scope
abbrev pub pad_edges : FlowGraph → ℕ → EntrySummary → Bool → List Item → List Edge
pad_edges s site u resumed [] = []
pad_edges s site u resumed (Err fault ∷ more) = pad_edges s site u resumed more
pad_edges s site u resumed (Ok d ∷ more) =
    edges_to (landing_changes u resumed) (option_and_then (place_of s) (pad_for site d)) ++ pad_edges s site u (resumed || is_cleanup_at site d) more

abbrev pub edges_from : FlowGraph → Option ℕ → List Edge
edges_from s None = []
edges_from s (Some site) = pad_edges s site (unwinding_at s site) false (items_at s site)

-- the edges of a place: to the next instruction and the target of a branch, and from a site to its landing pads
unfoldable pub edges_of : FlowGraph → ℕ → List Edge
edges_of s place = straight_edges s place ++ edges_from s (site_at s place)

-- the pad of a descriptor in scope isn't code of the function
abbrev pub lands_out : FlowGraph → ℕ → Desc → Bool
lands_out s site d = option_map_or (λ pad. not (is_code_of s pad)) (pad_for site d) false

-- some pad of a site isn't
abbrev pub pads_out : FlowGraph → ℕ → Bool
pads_out s site = list_any (is_one (lands_out s site)) (items_at s site)

-- ---- entries that begin inside the function

abbrev pub begins_above : ℕ → Option Entry → Bool
begins_above a None = false
begins_above a (Some e) = nat_lt a e.start

-- the entry that covers a site begins after the function's start
abbrev pub is_split : FlowGraph → ℕ → Bool
is_split s site = begins_above s.start (entry_at s site)
