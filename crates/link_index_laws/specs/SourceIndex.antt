-- The index table of an image, compared with the sources of its objects (docs/rules/unwind-tables.md, "From the source").
use Rattle.std.specs.Prelude.{◌≡◌, ℕ, ◌+◌, ◌-◌, ◌*◌, ◌%◌, ◌^◌, ◌<◌, ◌≤◌, List, [], ◌∷◌, ◌++◌, length, drop, map, flat_map, All, Some, None, Ok}
use Rattle.eh_word.specs.Bytes.{next_multiple}
use Rattle.asm_statements.specs.declared.statement.Stmt.{Stmt}
use Rattle.asm_unwind.specs.declared.entry.EntryWords.{EntryWords}
use Rattle.asm_unwind.specs.declared.entry.EntryWords.TheVariants as words
use Rattle.asm_unwind.specs.Entries.{entry_words_of}
use Rattle.eh_codes.specs.declared.row.Entry.{Entry}
use Rattle.eh_codes.specs.Rows.{even, row_as_read}
use Rattle.eh_codes.specs.declared.row.EntryBody.{EntryBody}
use Rattle.eh_codes.specs.declared.row.EntryBody.TheVariants as body
use Rattle.asm_relocatable.specs.declared.place.Section.TheVariants.{Extab}
use Rattle.asm_relocatable.specs.declared.object.Object.{Object}
use Rattle.asm_object.specs.Bytes.{word_bytes}
use Rattle.asm_object.specs.Objects.{object_of}
use Rattle.elf_write.specs.declared.parts.ImageParts.{ImageParts}
use Rattle.elf_write.specs.Parts.{image_of_parts}
use Rattle.eh_link.specs.Placed.{PlacedObject}
use Rattle.eh_link.specs.Layout.{layout_of, place_objects}
use Rattle.eh_link.specs.Fields.{part_in, fill_object}
use Rattle.eh_link.specs.Index.{row_of, rows_in, closing}
use Rattle.eh_link.specs.IndexLaw.{object_rows, IsRowOf}
use Rattle.eh_link.specs.Linked.{link_result}
use Rattle.eh_index.specs.Rows.{entries_of}
use Rattle.eh_index.specs.Places.{table_of}
use Rattle.eh_index.specs.Refusal.{index_refusal}
use Rattle.eh_index.specs.Covering.{covering}
use Rattle.asm_laws.specs.Functions.{HasNoBound, Function, functions_in, source_of, directives_of, start_at}
use Rattle.asm_laws.specs.RowLaw.{walk_over}
use Rattle.asm_laws.specs.SourceRowLaw.{HaveShortLists}

-- ---- objects of sources

-- an object is that of an accepted source
pub record IsAssembled (object : Object) : Type 0 where
  pub stmts : List Stmt
  pub few : length stmts < 2 ^ 64
  pub short : HaveShortLists stmts
  pub accepted : object_of stmts ≡ Ok object

-- the rows lie in their objects, as the law of linked indexes asks
abbrev pub AssembledRowsLie : Type 0
AssembledRowsLie = (objects : List Object) → All IsAssembled objects → All (λ object. All (IsRowOf object) object.rows) objects

-- ---- what is read

-- the functions' rows in the order of the objects, and within an object in the order of the text; and the closing row, from which on
-- nothing can be unwound
abbrev pub rows_to_read : List Object → List Entry
rows_to_read objects = object_rows (place_objects objects) ++ closing (layout_of objects).text_end ∷ []

-- the index of the image can be read, and its entries are those of the functions, in the order of the sources
abbrev pub SourcesAreRead : Type 0
SourcesAreRead =
    (objects : List Object) (name : List ℕ) (parts : ImageParts)
    → All IsAssembled objects → link_result objects name ≡ Ok parts
    → (index_refusal (image_of_parts parts) ≡ None) × (entries_of (image_of_parts parts) ≡ map row_as_read (rows_to_read objects))

-- ---- a function of a source

-- the function's source is that of one of the objects
pub record IsIn (objects : List Object) (f : Function) : Type 0 where
  pub front : List PlacedObject
  pub placed : PlacedObject
  pub back : List PlacedObject
  pub split : place_objects objects ≡ front ++ placed ∷ back
  pub unbounded : HasNoBound f.between
  pub few : length (source_of f) < 2 ^ 64
  pub accepted : object_of (source_of f) ≡ Ok placed.object

-- where its `.fnstart` stands in memory, and where its table does
abbrev pub start_of : Function → PlacedObject → ℕ
start_of f placed = placed.at.text + (walk_over (source_of f) f.before).at.sizes.text

abbrev pub table_at : Function → PlacedObject → ℕ
table_at f placed = placed.at.extab + next_multiple (walk_over (source_of f) f.before).at.sizes.extab 4

-- its entry, for the words of its directives
abbrev pub body_of : EntryWords → ℕ → EntryBody
body_of words.CantUnwind table = body.CantUnwind
body_of (words.Inline word) table = body.Inline word
body_of (words.Table _) table = body.Table table

abbrev pub own_entry : Function → PlacedObject → EntryWords → Entry
own_entry f placed given = record { start = even (start_of f placed); body = body_of given (table_at f placed) }

-- the rows after its own, in its object and in later ones; the closing row is last
abbrev pub later_rows : (objects : List Object) → (f : Function) → IsIn objects f → List Entry
later_rows objects f there =
    map (row_of there.placed.at) (drop (functions_in f.before + 1) there.placed.object.rows)
    ++ flat_map rows_in there.back ++ closing (layout_of objects).text_end ∷ []

-- an address from its `.fnstart` to below the next row has its entry
abbrev pub FunctionsAreFound : Type 0
FunctionsAreFound =
    (objects : List Object) (name : List ℕ) (parts : ImageParts) (f : Function) (there : IsIn objects f) (given : EntryWords) (next : Entry) (after : List Entry) (site : ℕ)
    → All IsAssembled objects → link_result objects name ≡ Ok parts → entry_words_of (directives_of f) ≡ Ok given
    → later_rows objects f there ≡ next ∷ after → even (start_of f there.placed) ≤ site → site < even next.start
    → covering (entries_of (image_of_parts parts)) site ≡ Some (own_entry f there.placed given)

-- where its `.fnend` stands in memory, in the text
abbrev pub end_of : Function → PlacedObject → ℕ
end_of f placed = placed.at.text + (walk_over (source_of f) (f.before ++ start_at f.start_line ∷ f.between)).at.sizes.text

-- so each of the function's own addresses, from its `.fnstart` to below its `.fnend`, has its entry
abbrev pub AddressesHaveTheirFunction : Type 0
AddressesHaveTheirFunction =
    (objects : List Object) (name : List ℕ) (parts : ImageParts) (f : Function) (there : IsIn objects f) (given : EntryWords) (site : ℕ)
    → All IsAssembled objects → link_result objects name ≡ Ok parts → entry_words_of (directives_of f) ≡ Ok given
    → even (start_of f there.placed) ≤ site → site < even (end_of f there.placed)
    → covering (entries_of (image_of_parts parts)) site ≡ Some (own_entry f there.placed given)

-- ---- its table

-- the bytes from the table on: its words from the directives, then those of its object after them, with their fields filled in
pub record TableIsThere (objects : List Object) (parts : ImageParts) (f : Function) (placed : PlacedObject) (given : List ℕ) : Type 0 where
  pub after : List ℕ
  pub bytes :
      table_of (image_of_parts parts) (own_entry f placed (words.Table given))
      ≡ Some (flat_map word_bytes given
      ++ drop (next_multiple (walk_over (source_of f) f.before).at.sizes.extab 4 + 4 * length given) (part_in Extab (fill_object (place_objects objects) placed))
      ++ after)

abbrev pub TablesAreThere : Type 0
TablesAreThere =
    (objects : List Object) (name : List ℕ) (parts : ImageParts) (f : Function) (there : IsIn objects f) (given : List ℕ)
    → All IsAssembled objects → link_result objects name ≡ Ok parts → entry_words_of (directives_of f) ≡ Ok (words.Table given)
    → TableIsThere objects parts f there.placed given
