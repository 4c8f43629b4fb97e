-- A statement's place is the number of bytes of its section before it. The walk counts sizes, the pieces have bytes; if
-- nothing is refused and no section is too large, both agree. There are fewer than 2^64 entries
-- (docs/rules/sources.md, "Sections and places").
use Rattle.std.specs.Prelude.{◌≡◌, ◌+◌, ◌^◌, ◌<◌, false, List, [], ◌++◌, drop, length, Option}
use Rattle.asm_statements.specs.declared.statement.Stmt.{Stmt}
use Rattle.asm_unwind.specs.declared.entry.EntryWords.{EntryWords}
use Rattle.asm_relocatable.specs.declared.place.Section.{Section}
use Rattle.asm_layout.specs.declared.walk.Walk.{Walk}
use Rattle.asm_layout.specs.Sizes.{size_in, is_too_large}
use Rattle.asm_layout.specs.Walks.{start, walk_after, sizes_with_pool}
use Rattle.asm_layout.specs.Labels.{NamePlace}
use Rattle.asm_object.specs.Pieces.{bytes_in}
use Rattle.asm_object.specs.After.{pieces_from, refusals_from}

-- from any place of the walk, a section ends after as many bytes as the statements from there on have in it, the last
-- pool included
abbrev pub SectionsEndAfterTheirBytes : Type 0
SectionsEndAfterTheirBytes =
    (entries : List (Option EntryWords)) (labels : List NamePlace) (walk : Walk) (stmts : List Stmt) (section : Section)
    → length entries < 2 ^ 64 → refusals_from entries labels walk stmts ≡ []
    → is_too_large (sizes_with_pool (walk_after entries walk stmts)) ≡ false
    → size_in walk.at.sizes section + length (bytes_in section (pieces_from entries labels walk stmts))
    ≡ size_in (sizes_with_pool (walk_after entries walk stmts)) section

-- the place after some statements is the number of bytes of a section without those that the rest emits
abbrev pub PlacesCountTheBytesBefore : Type 0
PlacesCountTheBytesBefore =
    (entries : List (Option EntryWords)) (labels : List NamePlace) (before more : List Stmt) (section : Section)
    → length entries < 2 ^ 64 → refusals_from entries labels start (before ++ more) ≡ []
    → is_too_large (sizes_with_pool (walk_after entries start (before ++ more))) ≡ false
    → length (bytes_in section (pieces_from entries labels start (before ++ more)))
    ≡ size_in (walk_after entries start before).at.sizes section
    + length (bytes_in section (pieces_from entries labels (walk_after entries start before) more))

-- and the bytes of the section from that place on are those of the statements from there on
abbrev pub BytesStandAtTheirPlaces : Type 0
BytesStandAtTheirPlaces =
    (entries : List (Option EntryWords)) (labels : List NamePlace) (before more : List Stmt) (section : Section)
    → length entries < 2 ^ 64 → refusals_from entries labels start (before ++ more) ≡ []
    → is_too_large (sizes_with_pool (walk_after entries start (before ++ more))) ≡ false
    → drop (size_in (walk_after entries start before).at.sizes section)
    (bytes_in section (pieces_from entries labels start (before ++ more)))
    ≡ bytes_in section (pieces_from entries labels (walk_after entries start before) more)
