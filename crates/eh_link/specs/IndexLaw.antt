-- What an unwinder reads in the exception index (IHI 0038): each function of the objects has its row, rows ascend by
-- the functions' starts, and each word, read relative to its address, gives its row's address.
use Rattle.std.specs.Prelude.{◌≡◌, ℕ, ◌+◌, ◌*◌, ◌^◌, ◌<◌, ◌≤◌, ◌==◌, List, [], ◌∷◌, ◌++◌, length, filter, All, Ok}
use Rattle.std.specs.List.{flat_map}
use Rattle.std.specs.List.Sorted.{IsNonDecreasingBy, IsPermutation}
use Rattle.eh_codes.specs.declared.row.Entry.{Entry}
use Rattle.eh_codes.specs.declared.row.TheConstants.{ROW_SIZE}
use Rattle.eh_codes.specs.Laws.{IsLow, HasRows}
use Rattle.asm_relocatable.specs.declared.object.Object.{Object}
use Rattle.asm_relocatable.specs.declared.object.IndexRow.{IndexRow}
use Rattle.asm_relocatable.specs.declared.object.RowEntry.{RowEntry}
use Rattle.asm_relocatable.specs.declared.object.RowEntry.TheVariants as entry
use Rattle.elf_write.specs.declared.parts.ImageParts.{ImageParts}
use Rattle.eh_link.specs.Placed.{PlacedObject}
use Rattle.eh_link.specs.Layout.{layout_of, place_objects}
use Rattle.eh_link.specs.Index.{rows_in, in_order, closing, index_of}
use Rattle.eh_link.specs.Linked.{link_result}
use Rattle.eh_link.specs.LayoutLaw.{linked_index}

-- ---- the rows

-- the rows of the objects, one object after the other
abbrev pub object_rows : List PlacedObject → List Entry
object_rows all = flat_map rows_in all

-- the same in the order of the index
abbrev pub index_rows : List PlacedObject → List Entry
index_rows all = in_order (object_rows all)

-- no row starts below the one before it
abbrev pub RowsAscend : Type 0
RowsAscend = (all : List PlacedObject) → IsNonDecreasingBy (λ (row : Entry). row.start) (index_rows all)

-- the index has each of the objects' rows equally often
abbrev pub RowsAreKept : Type 0
RowsAreKept = (all : List PlacedObject) → IsPermutation (object_rows all) (index_rows all)

-- rows with the same start are in the order of the objects
abbrev pub SameStartsKeepTheirOrder : Type 0
SameStartsKeepTheirOrder =
    (all : List PlacedObject) (start : ℕ)
    → filter (λ (row : Entry). row.start == start) (index_rows all) ≡ filter (λ (row : Entry). row.start == start) (object_rows all)

-- ---- the law

-- an index that ends at or below 2 ^ 30 reads back as its rows and one more: nothing unwinds from `end` on
abbrev pub IndexReadsBack : Type 0
IndexReadsBack =
    (all : List PlacedObject) (end table : ℕ)
    → All IsLow (object_rows all) → end < 2 ^ 30 → table + ROW_SIZE * (length (object_rows all) + 1) ≤ 2 ^ 30
    → HasRows (index_rows all ++ closing end ∷ []) table (index_of end table all)

-- ---- images

abbrev pub IsEntryOf : Object → RowEntry → Type 0
IsEntryOf object entry.CantUnwind = Unit {0}
IsEntryOf object (entry.Inline word) = word < 2 ^ 32
IsEntryOf object (entry.Table offset) = offset ≤ length object.extab

-- a row's start and its table lie in the object's text and exception table
pub record IsRowOf (object : Object) (row : IndexRow) : Type 0 where
  pub start : row.offset ≤ length object.text
  pub second : IsEntryOf object row.entry

-- the index of a linked image has the rows of its objects, and closes at the end of the text
abbrev pub ImagesHaveTheirRows : Type 0
ImagesHaveTheirRows =
    (objects : List Object) (entry : List ℕ) (image : ImageParts)
    → link_result objects entry ≡ Ok image
    → All (λ object. All (IsRowOf object) object.rows) objects
    → HasRows (index_rows (place_objects objects) ++ closing (layout_of objects).text_end ∷ []) image.index.0 (linked_index objects)
