-- What is kept of an entry is what it says.
use Rattle.std.proofs.Common.{◌≡◌, Bool, List, Option, Some, subst}
use Rattle.std.specs.List.{list_any}
use Rattle.elf_image.specs.Image.{Image}
use Rattle.eh_index.specs.eh_codes.declared.row.Entry.{Entry}
use Rattle.eh_index.specs.Places.{table_of}
use Rattle.eh_desc.specs.Grammar.{items_of}
use Rattle.frame_entries.specs.declared.unwinding.EntrySummary.{EntrySummary}
use Rattle.frame_entries.specs.Unwinding.{summary_of_body}
use Rattle.frame_entries.specs.Scopes.{Item, is_fault}
use Rattle.frame_graph.specs.EntryCaching.{IsKept}

kept : (image : Image) (o : Option Entry) (e : Entry) (u : EntrySummary) (items : List Item) (faulty : Bool) → o ≡ Some e → IsKept image o u items faulty → IsKept image (Some e) u items faulty
kept image o e u items faulty is k = subst (λ (p : Option Entry). IsKept image p u items faulty) is k

pub kept_unwinding : (image : Image) (o : Option Entry) (e : Entry) (u : EntrySummary) (items : List Item) (faulty : Bool) → o ≡ Some e → IsKept image o u items faulty → u ≡ summary_of_body e.body (table_of image e)
kept_unwinding image o e u items faulty is k = (kept image o e u items faulty is k).0

pub kept_items : (image : Image) (o : Option Entry) (e : Entry) (u : EntrySummary) (items : List Item) (faulty : Bool) → o ≡ Some e → IsKept image o u items faulty → items ≡ items_of e (table_of image e)
kept_items image o e u items faulty is k = (kept image o e u items faulty is k).1

pub kept_fault : (image : Image) (o : Option Entry) (e : Entry) (u : EntrySummary) (items : List Item) (faulty : Bool) → o ≡ Some e → IsKept image o u items faulty → faulty ≡ list_any is_fault (items_of e (table_of image e))
kept_fault image o e u items faulty is k = (kept image o e u items faulty is k).2
