-- Where each statement stands (docs/rules/sources.md).
use Rattle.std.specs.Prelude.{ℕ, ◌+◌, ◌-◌, ◌^◌, ◌==◌, ◌&&◌, ◌||◌, not, Bool, true, false, nat_lt, if◌then◌else◌, List, [], ◌∷◌, ◌++◌, length, Option, Some, None, unwrap_or, slice_get}
use Rattle.eh_word.specs.Bytes.{gap}
use Rattle.asm_statements.specs.declared.statement.Stmt.{Stmt}
use Rattle.asm_statements.specs.declared.statement.StmtKind.{StmtKind}
use Rattle.asm_statements.specs.declared.statement.StmtKind.TheVariants as stmt
use Rattle.asm_unwind.specs.declared.entry.EntryWords.{EntryWords}
use Rattle.indexmap.specs.IndexSet.{insert_key}
use Rattle.asm_relocatable.specs.declared.place.Section.{Section}
use Rattle.asm_relocatable.specs.declared.place.Section.TheVariants.{Text, Rodata, Extab, Init, Bss}
use Rattle.asm_relocatable.specs.declared.place.Place.{Place}
use Rattle.asm_layout.specs.declared.word.Word.{Word}
use Rattle.asm_layout.specs.declared.walk.Sizes.{Sizes}
use Rattle.asm_layout.specs.declared.walk.LayoutPosition.{LayoutPosition}
use Rattle.asm_layout.specs.declared.walk.Walk.{Walk}
use Rattle.asm_relocatable.specs.Sections.{same_section}
use Rattle.asm_layout.specs.Words.{word_of}
use Rattle.asm_layout.specs.SameWords.{same_word}
use Rattle.asm_layout.specs.Sizes.{sum_64, times, size_at, table_size, size_in, sizes_with_more}

abbrev pub no_bytes : Sizes
no_bytes = record { text = 0; rodata = 0; extab = 0; init = 0; bss = 0 }

-- a source begins in the text
abbrev pub start : Walk
start = record {
  at = record { section = Text; left = None; sizes = no_bytes; inside = false; functions = 0 };
  pool = [];
}

-- the place of the next byte
abbrev pub cursor_place : LayoutPosition → Place
cursor_place at = record { section = at.section; offset = size_in at.sizes at.section }

-- the entry of a function by its number in the order of the text
abbrev pub entry_at : List (Option EntryWords) → ℕ → Option EntryWords
entry_at entries function = unwrap_or (slice_get entries function) None

-- after `.fnstart`: the exception tables have the function's table. A second `.fnstart` does nothing
abbrev pub after_fnstart : List (Option EntryWords) → LayoutPosition → LayoutPosition
after_fnstart entries at =
    if at.inside || not (nat_lt at.functions (2 ^ 64 - 1)) then at
    else record at {
      sizes = sizes_with_more at.sizes Extab (table_size at.sizes.extab (entry_at entries at.functions));
      inside = true;
      functions = at.functions + 1;
    }

-- after `.fnend`: back in the section that `.handlerdata` left
abbrev pub after_fnend : LayoutPosition → LayoutPosition
after_fnend at = record at { section = unwrap_or at.left at.section; left = None; inside = false }

-- after `.handlerdata`: in the exception tables
abbrev pub handling : LayoutPosition → LayoutPosition
handling at =
    if same_section at.section Extab then at else record at { section = Extab; left = Some at.section }

abbrev pub in_section : LayoutPosition → Section → LayoutPosition
in_section at section = record at { section = section }

abbrev pub with_more_bytes : LayoutPosition → ℕ → LayoutPosition
with_more_bytes at by = record at { sizes = sizes_with_more at.sizes at.section by }

-- after a statement; pools are left out
abbrev pub cursor_after : List (Option EntryWords) → LayoutPosition → StmtKind → LayoutPosition
cursor_after entries at stmt.Text = in_section at Text
cursor_after entries at stmt.Data = in_section at Init
cursor_after entries at stmt.Bss = in_section at Bss
cursor_after entries at stmt.Rodata = in_section at Rodata
cursor_after entries at stmt.FnStart = after_fnstart entries at
cursor_after entries at stmt.FnEnd = after_fnend at
cursor_after entries at stmt.HandlerData = handling at
cursor_after entries at kind = with_more_bytes at (size_at (size_in at.sizes at.section) kind)

abbrev pub is_empty : List Word → Bool
is_empty words = length words == 0

-- where a pool that is emitted here begins: at the next multiple of 4
abbrev pub pool_place : Walk → ℕ
pool_place walk = sum_64 walk.at.sizes.text (gap walk.at.sizes.text 4)

-- the sizes after the pool that is emitted here; a pool without words adds nothing
abbrev pub sizes_with_pool : Walk → Sizes
sizes_with_pool walk =
    if is_empty walk.pool then walk.at.sizes
    else sizes_with_more walk.at.sizes Text (sum_64 (gap walk.at.sizes.text 4) (times (length walk.pool) 4))

abbrev pub is_in_text : LayoutPosition → Bool
is_in_text at = same_section at.section Text

-- `.pool` in the text, with words
abbrev pub ends_pool : Walk → StmtKind → Bool
ends_pool walk stmt.Pool = is_in_text walk.at && not (is_empty walk.pool)
ends_pool walk _ = false

-- the pool with a word; a new word is added at the end
abbrev pub pool_with : List Word → Word → List Word
pool_with pool word = insert_key same_word pool word

-- the pool after a statement that ends none
abbrev pub pool_after : Walk → StmtKind → List Word
pool_after walk (stmt.LdrPool _ value) = if is_in_text walk.at then pool_with walk.pool (word_of value) else walk.pool
pool_after walk _ = walk.pool

-- after a statement
abbrev pub next : List (Option EntryWords) → Walk → StmtKind → Walk
next entries walk stmt.Pool =
    if is_in_text walk.at then record { at = record walk.at { sizes = sizes_with_pool walk }; pool = [] } else walk
next entries walk kind = record { at = cursor_after entries walk.at kind; pool = pool_after walk kind }

-- where the walk stands after statements
unfoldable pub walk_after : List (Option EntryWords) → Walk → List Stmt → Walk
walk_after entries walk [] = walk
walk_after entries walk (stmt ∷ more) = walk_after entries (next entries walk stmt.kind) more

-- where the pools that have words begin, in the order of the text
abbrev pub pools_if : Bool → Walk → List ℕ
pools_if ends walk = if ends then pool_place walk ∷ [] else []

unfoldable pub pools_from : List (Option EntryWords) → Walk → List Stmt → List ℕ
pools_from entries walk [] = pools_if (not (is_empty walk.pool)) walk
pools_from entries walk (stmt ∷ more) =
    pools_if (ends_pool walk stmt.kind) walk ++ pools_from entries (next entries walk stmt.kind) more

-- where the next pool begins: at the first `.pool` in the text, or at the end of the text
unfoldable pub coming_pool : List (Option EntryWords) → Walk → List Stmt → ℕ
coming_pool entries walk [] = pool_place walk
coming_pool entries walk (stmt ∷ more) =
    if ends_pool walk stmt.kind then pool_place walk else coming_pool entries (next entries walk stmt.kind) more
