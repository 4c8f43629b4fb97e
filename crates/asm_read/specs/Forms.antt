-- The forms of statements, read off the code's tables (src/table.rt): the word, the operands after it, and the
-- statement.
-- That the tables are the language is proved apart (asm_line_laws): each line that docs/rules/sources.md gives for a
-- statement reads back as that statement.
use Rattle.std.specs.Prelude.{ℕ, ◌==◌, if◌then◌else◌, List, ◌++◌, map, slice_index}
use Rattle.std.specs.Borrow.{Bor}
use Rattle.asm_read.specs.Tokens.{is_between}
use Rattle.asm_read.specs.declared.table.Form.{Form}
use Rattle.asm_read.specs.declared.table.Group.{Group}
use Rattle.asm_read.specs.declared.table.Group.TheVariants as group
use Rattle.asm_read.specs.declared.table.TheConstants.{DIRECTIVES, A_TO_B, C_TO_L, M_TO_Z}

-- a row: the word that a form begins with, and the form
pub record TableRow : Type 0 where
  pub word : List ℕ
  pub form : Form

abbrev pub table_row : List ℕ → Form → TableRow
table_row word form = record { word = word; form = form }

-- a row of the code
abbrev pub CodeRow : Type 0
CodeRow = Bor (List ℕ) × Form

abbrev pub row_of : CodeRow → TableRow
row_of row = table_row row.0.now row.1

-- a row of a table that stands in the code
abbrev pub row_in : record { now : List ℕ } × Form → TableRow
row_in row = table_row row.0.now row.1

-- directives
unfoldable pub directives : List TableRow
directives = map row_in DIRECTIVES

-- mnemonics that begin with a or b
unfoldable pub a_to_b : List TableRow
a_to_b = map row_in A_TO_B

-- mnemonics that begin with c to l
unfoldable pub c_to_l : List TableRow
c_to_l = map row_in C_TO_L

-- mnemonics that begin with m to z
unfoldable pub m_to_z : List TableRow
m_to_z = map row_in M_TO_Z

-- the group to search for a word
abbrev pub group_of : List ℕ → Group
group_of word =
    let first = slice_index word 0 in
    if first == 46 then group.Directives
    else if is_between 97 98 first then group.AToB
    else if is_between 99 108 first then group.CToL
    else group.MToZ

-- the forms of a group, sorted by their words
abbrev pub forms_in : Group → List TableRow
forms_in group.Directives = directives
forms_in group.AToB = a_to_b
forms_in group.CToL = c_to_l
forms_in group.MToZ = m_to_z

-- all forms; those of one word are tried in this order
unfoldable pub rows : List TableRow
rows = directives ++ (a_to_b ++ (c_to_l ++ m_to_z))
