-- The statements of a source where they stand (docs/rules/sources.md, "Sections and places").
use Rattle.std.specs.Prelude.{ℕ, ◌==◌, not, Bool, true, false, if◌then◌else◌, List, [], ◌∷◌, length, Option, Some, None, option_map}
use Rattle.std.specs.List.{position_or_len}
use Rattle.asm_statements.specs.declared.statement.Stmt.{Stmt}
use Rattle.asm_statements.specs.declared.statement.StmtKind.{StmtKind}
use Rattle.asm_statements.specs.declared.statement.StmtKind.TheVariants as stmt
use Rattle.asm_unwind.specs.declared.entry.EntryWords.{EntryWords}
use Rattle.asm_layout.specs.declared.placed.PlacedFunction.{PlacedFunction}
use Rattle.asm_layout.specs.declared.placed.PlacedPool.{PlacedPool}
use Rattle.asm_layout.specs.declared.placed.Puts.{Puts}
use Rattle.asm_layout.specs.declared.placed.Puts.TheVariants as puts
use Rattle.asm_layout.specs.declared.walk.LayoutPosition.{LayoutPosition}
use Rattle.asm_layout.specs.declared.walk.Walk.{Walk}
use Rattle.asm_layout.specs.PlacedStmt.{PlacedStmt}
use Rattle.asm_layout.specs.Words.{word_of}
use Rattle.asm_layout.specs.SameWords.{same_word}
use Rattle.asm_layout.specs.Sizes.{sum_64, times}
use Rattle.asm_layout.specs.Walks.{start, next, cursor_place, is_in_text, coming_pool, walk_after}

-- the offset of a statement's word in its pool; only statements of the text use the pool
abbrev pub word_offset : Walk → StmtKind → Option ℕ
word_offset walk (stmt.LdrPool _ value) =
    if is_in_text walk.at then Some (times (position_or_len (same_word (word_of value)) walk.pool) 4) else None
word_offset walk _ = None

-- the place of that word, given where its pool begins
abbrev pub word_place : Walk → StmtKind → ℕ → Option ℕ
word_place walk kind pool = option_map (sum_64 pool) (word_offset walk kind)

-- the pool that is to come
abbrev pub pool_here : Walk → PlacedPool
pool_here walk = record { from = walk.at.sizes.text; words = walk.pool }

abbrev pub pool_puts : Walk → Puts
pool_puts walk = puts.Pool (pool_here walk)

-- the function that begins here
abbrev pub function_at : LayoutPosition → PlacedFunction
function_at at = record { start = at.sizes.text; from = at.sizes.extab; number = at.functions }

abbrev pub function_here : LayoutPosition → Puts
function_here at = puts.Function (function_at at)

-- `.fnstart` outside of a function begins one
abbrev pub function_puts : LayoutPosition → StmtKind → Puts
function_puts at stmt.FnStart = if at.inside then puts.Nothing else function_here at
function_puts at _ = puts.Nothing

-- `.pool` in the text puts the pool
abbrev pub puts_at : Walk → StmtKind → Puts
puts_at walk stmt.Pool = if is_in_text walk.at then pool_puts walk else puts.Nothing
puts_at walk kind = function_puts walk.at kind

-- a statement at the walk's place, given where its word's pool begins
abbrev pub place_stmt : Walk → Stmt → ℕ → PlacedStmt
place_stmt walk stmt pool = record {
  stmt = stmt;
  at = cursor_place walk.at;
  word = word_place walk stmt.kind pool;
  puts = puts_at walk stmt.kind;
}

-- statements where they stand
unfoldable pub place_stmts_from : List (Option EntryWords) → Walk → List Stmt → List PlacedStmt
place_stmts_from entries walk [] = []
place_stmts_from entries walk (stmt ∷ more) =
    place_stmt walk stmt (coming_pool entries walk (stmt ∷ more)) ∷ place_stmts_from entries (next entries walk stmt.kind) more

abbrev pub place_stmts : List (Option EntryWords) → List Stmt → List PlacedStmt
place_stmts entries stmts = place_stmts_from entries start stmts

-- the pool at the end of the text
abbrev pub last_pool : List (Option EntryWords) → Walk → List Stmt → PlacedPool
last_pool entries walk stmts = pool_here (walk_after entries walk stmts)

-- ---- the same before the pools have places: words by their offsets

abbrev pub unresolved_stmt : Walk → Stmt → PlacedStmt
unresolved_stmt walk stmt = record {
  stmt = stmt;
  at = cursor_place walk.at;
  word = word_offset walk stmt.kind;
  puts = puts_at walk stmt.kind;
}

unfoldable pub unresolved_stmts : List (Option EntryWords) → Walk → List Stmt → List PlacedStmt
unresolved_stmts entries walk [] = []
unresolved_stmts entries walk (stmt ∷ more) = unresolved_stmt walk stmt ∷ unresolved_stmts entries (next entries walk stmt.kind) more

-- the place of a word, given its offset in the first of these pools
abbrev pub moved_word : List ℕ → Option ℕ → Option ℕ
moved_word [] word = word
moved_word (pool ∷ more) word = option_map (sum_64 pool) word

abbrev pub with_pool_place : List ℕ → PlacedStmt → PlacedStmt
with_pool_place pools placed = record placed { word = moved_word pools placed.word }

abbrev pub has_words : Puts → Bool
has_words (puts.Pool pool) = not (length pool.words == 0)
has_words (puts.Function _) = false
has_words puts.Nothing = false

abbrev pub puts_pool : PlacedStmt → Bool
puts_pool placed = has_words placed.puts

-- the pools that are still to come after a statement that may end the first
abbrev pub places_after : List ℕ → Bool → List ℕ
places_after (place ∷ more) true = more
places_after places _ = places

-- turns offsets of pool words into places, given where the pools to come begin
unfoldable pub with_pool_places : List ℕ → List PlacedStmt → List PlacedStmt
with_pool_places pools [] = []
with_pool_places pools (placed ∷ more) =
    with_pool_place pools placed ∷ with_pool_places (places_after pools (puts_pool placed)) more
