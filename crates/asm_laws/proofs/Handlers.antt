-- What stands after `.handlerdata`.
use Rattle.asm_layout.specs.declared.walk.TheConstants.{MOST_BYTES}
use Rattle.std.proofs.Common.{◌≡◌, ℕ, ◌+◌, ◌-◌, ◌*◌, ◌%◌, ◌^◌, ◌≤◌, ◌<◌, min, Bool, true, false, cond, List, [], ◌∷◌, ◌++◌, length, drop, flat_map, Option, Some, refl, sym, ap, ◌∙◌, arith, append_assoc, append-nil, subst}
use Rattle.std.specs.List.{list_any, list_all}
use Rattle.std.proofs.lemmas.Bool.{true≢false, or_parts}
use Rattle.std.proofs.lemmas.Grind.{flat_map-append}
use Rattle.std.proofs.lemmas.List.Folds.{list_any-append}
use Rattle.asm_statements.specs.declared.statement.Stmt.{Stmt}
use Rattle.asm_statements.specs.declared.statement.StmtKind.{StmtKind}
use Rattle.asm_statements.specs.declared.statement.StmtKind.TheVariants as statement
use Rattle.asm_unwind.specs.declared.entry.EntryWords.{EntryWords}
use Rattle.asm_unwind.specs.declared.entry.EntryWords.TheVariants as entry
use Rattle.asm_relocatable.specs.declared.place.Place.{Place}
use Rattle.asm_relocatable.specs.declared.place.Section.{Section}
use Rattle.asm_relocatable.specs.declared.place.Section.TheVariants.{Text, Rodata, Extab, Init, Bss}
use Rattle.asm_layout.specs.declared.walk.LayoutPosition.{LayoutPosition}
use Rattle.asm_layout.specs.declared.walk.Sizes.{Sizes}
use Rattle.asm_layout.specs.declared.walk.Walk.{Walk}
use Rattle.asm_layout.specs.Functions.{entries_of, no_frame}
use Rattle.asm_layout.specs.Labels.{NamePlace, labels_of}
use Rattle.asm_layout.specs.Sizes.{sum_64, times, size_in, sizes_with_more, table_size, is_too_large}
use Rattle.asm_layout.specs.Walks.{start, next, cursor_place, entry_at, is_empty, is_in_text, coming_pool, walk_after, sizes_with_pool}
use Rattle.asm_relocatable.specs.Sections.{same_section}
use Rattle.eh_word.specs.Bytes.{gap, next_multiple}
use Rattle.asm_relocatable.specs.declared.object.Object.{Object}
use Rattle.asm_object.specs.Objects.{assembled_object}
use Rattle.asm_object.specs.Pieces.{Piece, place_at, data_bytes, bytes_in, pieces_of}
use Rattle.asm_object.proofs.PlaceLaws.{law_of_bytes, walks_on}
use Rattle.asm_object.proofs.ObjectLaws.{IsTaken, taken, ends_small, entries_count}
use Rattle.asm_object.proofs.LoadLaws.{and_true}
use Rattle.asm_object.proofs.LabelLaws.{small_after}
use Rattle.asm_laws.specs.Functions.{bounds_function, HasNoBound, Function, source_of, start_at, end_at}
use Rattle.asm_laws.specs.RowLaw.{walk_over}
use Rattle.asm_laws.specs.HandlerLaw.{is_handler, handler_at, is_data, Handler, HandlersStandAfterTheirTables}
use Rattle.asm_laws.proofs.Rows.{starts_at}
use Rattle.asm_laws.proofs.Standing.{fewer, at_start, in_text, own_entry}
use Rattle.asm_object.proofs.Statements.{walk_pieces}
use Rattle.asm_layout.specs.Placing.{word_place, place_stmts_from}
use Rattle.asm_object.specs.After.{pieces_from, refusals_from}

-- ---- from the `.fnstart` to the first `.handlerdata` nothing more goes into the exception tables

pub record OutOfTables (tables : ℕ) (at : LayoutPosition) : Type 0 where
  pub section : same_section at.section Extab ≡ false
  pub size : at.sizes.extab ≡ tables

grown_elsewhere : (sizes : Sizes) (section : Section) (by : ℕ) → same_section section Extab ≡ false → (sizes_with_more sizes section by).extab ≡ sizes.extab
grown_elsewhere sizes Extab by e = absurd (true≢false e)
grown_elsewhere sizes Text by e = refl
grown_elsewhere sizes Rodata by e = refl
grown_elsewhere sizes Init by e = refl
grown_elsewhere sizes Bss by e = refl

pool_elsewhere : (walk : Walk) → (sizes_with_pool walk).extab ≡ walk.at.sizes.extab
pool_elsewhere walk = by (is_empty walk.pool)
  where
    by : (b : Bool) → (cond b walk.at.sizes (sizes_with_more walk.at.sizes Text (sum_64 (gap walk.at.sizes.text 4) (times (length walk.pool) 4)))).extab ≡ walk.at.sizes.extab
    by true = refl
    by false = refl

stays_out : (tables : ℕ) (entries : List (Option EntryWords)) (walk : Walk) (kind : StmtKind) → OutOfTables tables walk.at → bounds_function kind ≡ false → is_handler kind ≡ false
    → OutOfTables tables (next entries walk kind).at
stays_out tables entries walk statement.FnStart o p h = absurd (true≢false p)
stays_out tables entries walk statement.FnEnd o p h = absurd (true≢false p)
stays_out tables entries walk statement.HandlerData o p h = absurd (true≢false h)
stays_out tables entries walk statement.Text o p h = record { section = refl; size = o.size }
stays_out tables entries walk statement.Data o p h = record { section = refl; size = o.size }
stays_out tables entries walk statement.Bss o p h = record { section = refl; size = o.size }
stays_out tables entries walk statement.Rodata o p h = record { section = refl; size = o.size }
stays_out tables entries walk statement.Pool o p h = by (is_in_text walk.at)
  where
    by : (b : Bool) → OutOfTables tables (cond b (record { at = record walk.at { sizes = sizes_with_pool walk }; pool = [] }) walk).at
    by true = record { section = o.section; size = pool_elsewhere walk ∙ o.size }
    by false = o
stays_out tables entries walk _ o p h = record { section = o.section; size = grown_elsewhere walk.at.sizes walk.at.section _ o.section ∙ o.size }

all_out : (tables : ℕ) (entries : List (Option EntryWords)) (walk : Walk) (code : List Stmt) → OutOfTables tables walk.at → HasNoBound code
    → list_any (λ s. is_handler s.kind) code ≡ false → OutOfTables tables (walk_after entries walk code).at
unfolding walk_after
all_out tables entries walk [] o p h = o
all_out tables entries walk (stmt ∷ code) o p h =
    let plain = or_parts (bounds_function stmt.kind) (list_any (λ s. bounds_function s.kind) code) p in
    let none = or_parts (is_handler stmt.kind) (list_any (λ s. is_handler s.kind) code) h in
    all_out tables entries (next entries walk stmt.kind) code (stays_out tables entries walk stmt.kind o plain.0 none.0) plain.1 none.1

handler_here : (tables : ℕ) (entries : List (Option EntryWords)) (walk : Walk) → OutOfTables tables walk.at → cursor_place (next entries walk statement.HandlerData).at ≡ place_at Extab tables
handler_here tables entries walk o =
    ap (λ b. cursor_place (cond b walk.at (record walk.at { section = Extab; left = Some walk.at.section }))) o.section ∙ ap (place_at Extab) o.size

-- ---- data

abbrev no_bytes : List ℕ
no_bytes = []

-- one statement of data in the exception tables
pub record GivesData (entries : List (Option EntryWords)) (labels : List NamePlace) (walk : Walk) (word : Option ℕ) (kind : StmtKind) : Type 0 where
  pub bytes : bytes_in Extab (walk_pieces entries labels walk word kind) ≡ cond (same_section walk.at.section Extab) (data_bytes labels kind) [] ++ []
  pub section : (next entries walk kind).at.section ≡ walk.at.section

gives_data : (entries : List (Option EntryWords)) (labels : List NamePlace) (walk : Walk) (word : Option ℕ) (kind : StmtKind) → is_data kind ≡ true → GivesData entries labels walk word kind
gives_data entries labels walk word (statement.Label name) e = record { bytes = refl; section = refl }
gives_data entries labels walk word _ e = record { bytes = cc; section = cc }

data_there : (entries : List (Option EntryWords)) (labels : List NamePlace) (walk : Walk) (own more : List Stmt) → walk.at.section ≡ Extab → list_all (λ s. is_data s.kind) own ≡ true
    → bytes_in Extab (pieces_from entries labels walk (own ++ more))
    ≡ flat_map (λ s. data_bytes labels s.kind) own ++ bytes_in Extab (pieces_from entries labels (walk_after entries walk own) more)
unfolding pieces_of place_stmts_from walk_after
data_there entries labels walk [] more at e = refl
data_there entries labels walk (stmt ∷ own) more at e =
    let parts = and_true (is_data stmt.kind) (list_all (λ s. is_data s.kind) own) e in
    let word = word_place walk stmt.kind (coming_pool entries walk (stmt ∷ own ++ more)) in
    let gives = gives_data entries labels walk word stmt.kind parts.0 in
    let after = next entries walk stmt.kind in
    let f : Piece → List ℕ = λ p. cond (same_section p.place.section Extab) p.bytes no_bytes in
    flat_map-append f (walk_pieces entries labels walk word stmt.kind) (pieces_from entries labels after (own ++ more))
    ∙ ap (λ b. b ++ bytes_in Extab (pieces_from entries labels after (own ++ more)))
    (gives.bytes ∙ append-nil _ ∙ ap (λ s. cond (same_section s Extab) (data_bytes labels stmt.kind) []) at)
    ∙ ap (λ b. data_bytes labels stmt.kind ++ b) (data_there entries labels after own more (gives.section ∙ at) parts.1)
    ∙ sym (append_assoc (data_bytes labels stmt.kind) (flat_map (λ s. data_bytes labels s.kind) own) (bytes_in Extab (pieces_from entries labels (walk_after entries after own) more)))

-- ---- the law

table_ends : (n words : ℕ) → min (n + min ((4 - n % 4) % 4 + min (words * 4) (2 ^ 64 - 1)) (2 ^ 64 - 1)) (2 ^ 64 - 1) ≤ MOST_BYTES
    → min (n + min ((4 - n % 4) % 4 + min (words * 4) (2 ^ 64 - 1)) (2 ^ 64 - 1)) (2 ^ 64 - 1) ≡ next_multiple n 4 + 4 * words
table_ends n words h = omega (arith, h)

joined_extab : (stmts : List Stmt) → (assembled_object stmts).extab ≡ bytes_in Extab (pieces_from (entries_of stmts) (labels_of (entries_of stmts) stmts) start stmts)
unfolding assembled_object
joined_extab stmts = refl

abbrev up_to : Function → List Stmt → ℕ → List Stmt
up_to f code line = f.before ++ start_at f.start_line ∷ (code ++ handler_at line ∷ [])

-- the source cut after its `.handlerdata`
cut_there : (f : Function) (handler : Handler f) → source_of f ≡ up_to f handler.code handler.line ++ (handler.own ++ (handler.rest ++ end_at f.end_line ∷ f.after))
cut_there f handler =
    ap (λ between. f.before ++ start_at f.start_line ∷ (between ++ end_at f.end_line ∷ f.after)) handler.split
    ∙ cut f.before (start_at f.start_line) handler.code (handler_at handler.line) handler.own handler.rest (end_at f.end_line ∷ f.after)
  where
    cut : (b : List Stmt) (s : Stmt) (c : List Stmt) (h : Stmt) (o r e : List Stmt) → b ++ s ∷ ((c ++ h ∷ (o ++ r)) ++ e) ≡ (b ++ s ∷ (c ++ h ∷ [])) ++ (o ++ (r ++ e))
    cut b s c h o r e =
        ap (λ l. b ++ s ∷ l) (append_assoc c (h ∷ (o ++ r)) e ∙ ap (λ l. c ++ h ∷ l) (append_assoc o r e) ∙ sym (append_assoc c (h ∷ []) (o ++ (r ++ e))))
        ∙ sym (append_assoc b (s ∷ (c ++ h ∷ [])) (o ++ (r ++ e)))

-- where the source has come to after its `.handlerdata`
come_to : (entries : List (Option EntryWords)) (f : Function) (code : List Stmt) (line : ℕ)
    → walk_after entries start (up_to f code line)
    ≡ next entries (walk_after entries (next entries (walk_after entries start f.before) statement.FnStart) code) statement.HandlerData
unfolding walk_after
come_to entries f code line =
    walks_on entries start f.before (start_at f.start_line ∷ (code ++ handler_at line ∷ []))
    ∙ walks_on entries (next entries (walk_after entries start f.before) statement.FnStart) code (handler_at line ∷ [])

code_unbounded : (f : Function) (handler : Handler f) → HasNoBound f.between → HasNoBound handler.code
code_unbounded f handler plain =
    (or_parts (list_any (λ s. bounds_function s.kind) handler.code) (list_any (λ s. bounds_function s.kind) (handler_at handler.line ∷ (handler.own ++ handler.rest)))
    (sym (list_any-append (λ (s : Stmt). bounds_function s.kind) handler.code (handler_at handler.line ∷ (handler.own ++ handler.rest)))
    ∙ ap (λ l. list_any (λ (s : Stmt). bounds_function s.kind) l) (sym handler.split) ∙ plain)).0

-- the end of the table
pub table_end : (stmts : List Stmt) (f : Function) (words : List ℕ) (object : Object) → stmts ≡ source_of f → length stmts < 2 ^ 64 → IsTaken stmts object
    → (walk_after (entries_of stmts) start f.before).at.inside ≡ false → (walk_after (entries_of stmts) start f.before).at.functions < 2 ^ 64 - 1
    → entry_at (entries_of stmts) (walk_after (entries_of stmts) start f.before).at.functions ≡ Some (entry.Table words)
    → (next (entries_of stmts) (walk_after (entries_of stmts) start f.before) statement.FnStart).at.sizes.extab
    ≡ next_multiple (walk_after (entries_of stmts) start f.before).at.sizes.extab 4 + 4 * length words
unfolding walk_after
table_end stmts f words object same few t closed room there =
    let entries = entries_of stmts in
    let labels = labels_of entries stmts in
    let walk = walk_after entries start f.before in
    let more = f.between ++ end_at f.end_line ∷ f.after in
    let whole : stmts ≡ (f.before ++ start_at f.start_line ∷ []) ++ more = same ∙ sym (append_assoc f.before (start_at f.start_line ∷ []) more) in
    let R : List Stmt → Type 0 = λ s. refusals_from entries labels start s ≡ [] in
    let T : List Stmt → Type 0 = λ s. is_too_large (sizes_with_pool (walk_after entries start s)) ≡ false in
    let small = small_after entries labels (f.before ++ start_at f.start_line ∷ []) more Extab (fewer _ _ (entries_count no_frame stmts) few) (subst R whole t.unrefused) (subst T whole (ends_small entries start 0 stmts t.small)) in
    let on : walk_after entries start (f.before ++ start_at f.start_line ∷ []) ≡ next entries walk statement.FnStart = walks_on entries start f.before (start_at f.start_line ∷ []) in
    let size : (next entries walk statement.FnStart).at.sizes.extab ≡ sum_64 walk.at.sizes.extab (table_size walk.at.sizes.extab (Some (entry.Table words))) =
    ap (λ (c : LayoutPosition). c.sizes.extab) (starts_at entries walk closed room) ∙ ap (λ o. sum_64 walk.at.sizes.extab (table_size walk.at.sizes.extab o)) there in
    let P : ℕ → Type 0 = λ n. n ≤ MOST_BYTES in
    size ∙ table_ends walk.at.sizes.extab (length words) (subst P (ap (λ (w : Walk). w.at.sizes.extab) on ∙ size) small)

pub law_of_handlers : HandlersStandAfterTheirTables
law_of_handlers f handler words object plain few e given =
    let stmts = source_of f in
    let entries = entries_of stmts in
    let labels = labels_of entries stmts in
    let more = f.between ++ end_at f.end_line ∷ f.after in
    let walk = walk_over stmts f.before in
    let t = taken stmts object e in
    let at = at_start stmts f.before f.start_line more object refl few t in
    let own = own_entry entries walk f.start_line f.between f.end_line f.after at.opens plain in
    let same : own.words ≡ entry.Table words = let two = own.given in cc in
    let there : entry_at entries walk.at.functions ≡ Some (entry.Table words) = own.there ∙ ap Some same in
    let text = in_text entries labels walk f.start_line more at.unrefused in
    let first = next entries walk statement.FnStart in
    let started = starts_at entries walk at.opens.closed at.opens.few in
    let out : OutOfTables first.at.sizes.extab first.at = record {
      section = ap (λ s. same_section s Extab) (ap (λ (c : LayoutPosition). c.section) started ∙ text);
      size = refl;
    } in
    let later = all_out first.at.sizes.extab entries first handler.code out (code_unbounded f handler plain) handler.first in
    let end = table_end stmts f words object refl few t at.opens.closed at.opens.few there in
    let come = come_to entries f handler.code handler.line in
    let here_now = ap (λ (w : Walk). cursor_place w.at) come ∙ handler_here first.at.sizes.extab entries (walk_after entries first handler.code) later ∙ ap (place_at Extab) end in
    let R : List Stmt → Type 0 = λ s. refusals_from entries labels start s ≡ [] in
    let T : List Stmt → Type 0 = λ s. is_too_large (sizes_with_pool (walk_after entries start s)) ≡ false in
    let cut = cut_there f handler in
    let rest = handler.rest ++ end_at f.end_line ∷ f.after in
    let last = walk_over stmts (up_to f handler.code handler.line) in
    let section : last.at.section ≡ Extab = ap (λ (p : Place). p.section) here_now in
    let size : size_in last.at.sizes Extab ≡ next_multiple walk.at.sizes.extab 4 + 4 * length words =
    ap (λ s. size_in last.at.sizes s) (sym section) ∙ ap (λ (p : Place). p.offset) here_now in
    record {
      here_now = here_now;
      after = bytes_in Extab (pieces_from entries labels (walk_after entries last handler.own) rest);
      bytes =
          ap (λ n. drop n object.extab) (sym size)
          ∙ ap (λ (o : Object). drop (size_in last.at.sizes Extab) o.extab) t.object_is
          ∙ ap (drop (size_in last.at.sizes Extab)) (joined_extab stmts ∙ ap (λ s. bytes_in Extab (pieces_from entries labels start s)) cut)
          ∙ law_of_bytes entries labels (up_to f handler.code handler.line) (handler.own ++ rest) Extab (fewer _ _ (entries_count no_frame stmts) few) (subst R cut t.unrefused) (subst T cut (ends_small entries start 0 stmts t.small))
          ∙ data_there entries labels last handler.own rest section handler.given;
    }
