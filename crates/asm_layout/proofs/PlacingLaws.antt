-- Walks once, and words at their places: where the pools to come begin is known after the walk.
use Rattle.std.proofs.Common.{◌≡◌, ℕ, Bool, false, List, [], ◌∷◌, ◌++◌, ◌+◌, ◌<◌, length, get_or, take, drop, set, append_assoc, map, Option, Some, option_map, inl, inr, refl, ap, arith}
use Rattle.std.proofs.lemmas.Bool.{cases_Bool}
use Rattle.std.proofs.lemmas.Bool.Decides.{nat_tests}
use Rattle.std.proofs.lemmas.List.{take_more_set, drop-set-lt}
use Rattle.asm_statements.specs.declared.statement.Stmt.{Stmt}
use Rattle.asm_statements.specs.declared.statement.StmtKind.{StmtKind}
use Rattle.asm_statements.specs.declared.statement.StmtKind.TheVariants.{LdrPool, Pool, FnStart}
use Rattle.asm_unwind.specs.declared.entry.EntryWords.{EntryWords}
use Rattle.asm_layout.specs.declared.word.Word.{Word}
use Rattle.asm_layout.specs.declared.walk.Walk.{Walk}
use Rattle.asm_layout.specs.Words.{word_of}
use Rattle.asm_layout.specs.Sizes.{sum_64}
use Rattle.asm_layout.specs.Labels.{stmt_of}
use Rattle.asm_layout.specs.Walks.{next, cursor_after, is_empty, ends_pool, pool_with, pool_after, pools_if, pools_from, coming_pool}
use Rattle.asm_layout.specs.Placing.{word_offset, word_place, function_puts, puts_at, unresolved_stmts, place_stmts_from, moved_word, with_pool_place, has_words, puts_pool, places_after, with_pool_places}
use Rattle.asm_layout.specs.PlacedStmt.{PlacedStmt}
use Rattle.asm_layout.proofs.LayoutLaws.{drop-next}

-- ---- one statement

-- a statement that is no `.pool`
pub no_pool : (entries : List (Option EntryWords)) (walk : Walk) (kind : StmtKind) → (kind ≡ Pool → ⊥)
    → (record { at = cursor_after entries walk.at kind; pool = pool_after walk kind } ≡ next entries walk kind) × (function_puts walk.at kind ≡ puts_at walk kind)
no_pool entries walk Pool other = absurd (other refl)
no_pool entries walk _ other = (refl, refl)

-- ---- the pools to come

has_one : (pool : List Word) (word : Word) → is_empty (pool_with pool word) ≡ false
has_one [] word = refl
has_one (w ∷ pool) word = grind (arith, nat_tests)

keeps_words : (entries : List (Option EntryWords)) (walk : Walk) (kind : StmtKind) → is_empty walk.pool ≡ false → ends_pool walk kind ≡ false
    → is_empty (next entries walk kind).pool ≡ false
keeps_words entries walk Pool h e = grind arith
keeps_words entries walk (LdrPool t value) h e = grind (arith, has_one walk.pool (word_of value))
keeps_words entries walk _ h e = h

-- where the pool has words, the first of the pools to come is the next one
coming : (entries : List (Option EntryWords)) (walk : Walk) (stmts : List Stmt) (offset : ℕ) → is_empty walk.pool ≡ false
    → moved_word (pools_from entries walk stmts) (Some offset) ≡ Some (sum_64 (coming_pool entries walk stmts) offset)
unfolding pools_from coming_pool
coming entries walk [] offset h = rw h
coming entries walk (stmt ∷ more) offset h =
    elim (cases_Bool (ends_pool walk stmt.kind)) [
      | inl e ↦ rw e
      | inr e ↦ rw e (coming entries (next entries walk stmt.kind) more offset (keeps_words entries walk stmt.kind h e))
    ]

-- a statement whose word stands in the pool ends none
has_word : (entries : List (Option EntryWords)) (walk : Walk) (kind : StmtKind) (n : ℕ) → word_offset walk kind ≡ Some n
    → (ends_pool walk kind ≡ false) × (is_empty (next entries walk kind).pool ≡ false)
has_word entries walk (LdrPool t value) n e = (refl, grind (arith, has_one walk.pool (word_of value)))
has_word entries walk _ n e = absurd (cc)

word_at : (pools : List ℕ) (place : ℕ) (word : Option ℕ) → ((n : ℕ) → word ≡ Some n → moved_word pools (Some n) ≡ Some (sum_64 place n)) → moved_word pools word ≡ option_map (sum_64 place) word
word_at pools place word h = grind arith

-- the place of a statement's pool word by the pools to come
word_coming : (entries : List (Option EntryWords)) (walk : Walk) (stmt : Stmt) (more : List Stmt)
    → moved_word (pools_from entries walk (stmt ∷ more)) (word_offset walk stmt.kind) ≡ word_place walk stmt.kind (coming_pool entries walk (stmt ∷ more))
unfolding pools_from coming_pool
word_coming entries walk stmt more =
    word_at (pools_from entries walk (stmt ∷ more)) (coming_pool entries walk (stmt ∷ more)) (word_offset walk stmt.kind) (λ n e.
    let has = has_word entries walk stmt.kind n e in
    rw has.0 (coming entries (next entries walk stmt.kind) more n has.1))

ends_there : (walk : Walk) (kind : StmtKind) → has_words (puts_at walk kind) ≡ ends_pool walk kind
ends_there walk Pool = grind arith
ends_there walk FnStart = grind arith
ends_there walk _ = refl

-- the pools that come after a statement
pools_after : (ends : Bool) (walk : Walk) (later : List ℕ) → places_after (pools_if ends walk ++ later) ends ≡ later
pools_after ends walk later = grind arith

-- ---- all statements

pub resolved-is : (entries : List (Option EntryWords)) (walk : Walk) (stmts : List Stmt)
    → with_pool_places (pools_from entries walk stmts) (unresolved_stmts entries walk stmts) ≡ place_stmts_from entries walk stmts
unfolding with_pool_places unresolved_stmts place_stmts_from pools_from
resolved-is entries walk [] = refl
resolved-is entries walk (stmt ∷ more) =
    rw (word_coming entries walk stmt more, ends_there walk stmt.kind, pools_after (ends_pool walk stmt.kind) walk (pools_from entries (next entries walk stmt.kind) more), resolved-is entries (next entries walk stmt.kind) more)

pub statements_kept : (entries : List (Option EntryWords)) (walk : Walk) (stmts : List Stmt) → map stmt_of (place_stmts_from entries walk stmts) ≡ stmts
unfolding place_stmts_from
statements_kept entries walk [] = refl
statements_kept entries walk (stmt ∷ more) = ap (λ l. stmt ∷ l) (statements_kept entries (next entries walk stmt.kind) more)

-- one statement of a list is given its word's place
pub resolved-more : (pools : List ℕ) (placed : List PlacedStmt) (i : ℕ) (one : PlacedStmt) → i < length placed → one ≡ get_or placed i one
    → take (i + 1) (set placed i (with_pool_place pools one)) ++ with_pool_places (places_after pools (puts_pool one)) (drop (i + 1) (set placed i (with_pool_place pools one)))
    ≡ take i placed ++ with_pool_places pools (drop i placed)
unfolding with_pool_places
resolved-more pools placed i one in_section is =
    let past : i < i + 1 = omega arith in
    rw (take_more_set placed i (with_pool_place pools one) in_section, drop-set-lt (i + 1) placed i (with_pool_place pools one) past, append_assoc, ← drop-next placed i one in_section is)
