-- The addresses of one entry with the same descriptors in scope, and the answer for sites there.
use Rattle.std.specs.Prelude.{ℕ, ◌≡◌, ◌≤◌, ◌↔◌, ◌+◌, ◌%◌, ◌^◌, ◌&&◌, nat_le, nat_lt, Bool, false, List, Option, Some, None, Ok, Err}
use Rattle.std.specs.List.{Contains, AllByRecursion, filter, list_any}
use Rattle.elf_image.specs.Image.{Image}
use Rattle.eh_index.specs.eh_codes.declared.row.Entry.{Entry}
use Rattle.eh_index.specs.Places.{table_of}
use Rattle.eh_desc.specs.Grammar.{items_of}
use Rattle.frame_entries.specs.declared.unwinding.EntrySummary.{EntrySummary}
use Rattle.frame_graph.specs.declared.edges.Edge.{Edge}
use Rattle.frame_graph.specs.declared.site_cache.AddressRange.{AddressRange}
use Rattle.frame_graph.specs.declared.site_cache.SiteCache.{SiteCache}
use Rattle.frame_graph.specs.FlowGraph.{FlowGraph}
use Rattle.frame_entries.specs.Scopes.{Item, is_one, is_scope_at}
use Rattle.frame_graph.specs.Sites.{entry_at, is_scoped, lands_out, pads_out, pad_edges, edges_from, site_at}

-- ---- spans

-- an address of a span: both ends are
pub record IsIn (span : AddressRange) (a : ℕ) : Type 0 where
  pub low : span.low ≤ a
  pub last : a ≤ span.last

-- the span that is chosen holds another
abbrev pub IsWithin : Option AddressRange → AddressRange → Type 0
IsWithin None inner = ⊥
IsWithin (Some outer) inner = (outer.low ≤ inner.low) × (inner.last ≤ outer.last)

-- the remaining addresses are some of those before, the site is one of them, and the item covers all of them or none, as it covers the
-- site
pub record IsCut (before : AddressRange) (site : ℕ) (item : Item) (after : AddressRange) : Type 0 where
  pub holds : IsIn after site
  pub within : (a : ℕ) → IsIn after a → IsIn before a
  pub same : (a : ℕ) → IsIn after a → is_one (is_scope_at a) item ≡ is_one (is_scope_at site) item

-- the same of each of these items
pub record AreCut (before : AddressRange) (site : ℕ) (items : List Item) (after : AddressRange) : Type 0 where
  pub holds : IsIn after site
  pub within : (a : ℕ) → IsIn after a → IsIn before a
  pub same : (a : ℕ) → IsIn after a → AllByRecursion (λ item. is_one (is_scope_at a) item ≡ is_one (is_scope_at site) item) items

-- ---- descriptors at hand

-- an item that is a descriptor whose scope meets a span
abbrev pub is_met : AddressRange → Item → Bool
is_met span (Ok d) = nat_le d.start span.last && nat_lt span.low ((d.start + d.size) % 2 ^ 32)
is_met span (Err fault) = false

-- if there is an entry and a span, `near` has its descriptors whose scope overlaps the span
abbrev pub AreAtHand : Image → Option Entry → Option AddressRange → List Item → Type 0
AreAtHand image None span near = Unit {0}
AreAtHand image (Some e) None near = Unit {0}
AreAtHand image (Some e) (Some span) near = near ≡ filter (is_met span) (items_of e (table_of image e))

-- two lists of items act the same at a site
pub record ActSame (s : FlowGraph) (xs ys : List Item) (site : ℕ) : Type 0 where
  pub scoped : list_any (is_one (is_scope_at site)) xs ≡ list_any (is_one (is_scope_at site)) ys
  pub out : list_any (is_one (lands_out s site)) xs ≡ list_any (is_one (lands_out s site)) ys
  pub edges : (u : EntrySummary) → pad_edges s site u false xs ≡ pad_edges s site u false ys

-- ---- what is told of a site

-- the same edges, in any order and any number of times
abbrev pub HaveSame : List Edge → List Edge → Type 0
HaveSame xs ys = (w : Edge) → Contains xs w ↔ Contains ys w

-- the answer for a site: whether a descriptor has it in its scope, whether a landing pad isn't code of the function, and its edges to
-- landing pads
pub record Tells (s : FlowGraph) (t : SiteCache) (site : ℕ) : Type 0 where
  pub scoped : t.scoped ≡ is_scoped s site
  pub out : t.out ≡ pads_out s site
  pub edges : HaveSame t.edges.items (edges_from s (Some site))

-- it tells of each site of its span that its entry covers
abbrev pub IsStretch : FlowGraph → SiteCache → Type 0
IsStretch s t = (site : ℕ) → IsIn t.span site → entry_at s site ≡ t.entry → Tells s t site

-- it tells of the site of a place, where there is one
abbrev pub TellsOn : FlowGraph → SiteCache → ℕ → Type 0
TellsOn s t place = (site : ℕ) → site_at s place ≡ Some site → Tells s t site
