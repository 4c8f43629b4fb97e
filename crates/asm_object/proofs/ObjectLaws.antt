-- The linker's fields of an object stand one after the other, whole in their sections.
use Rattle.asm_layout.specs.declared.fault.AsmWhat.{AsmWhat}
use Rattle.asm_layout.specs.declared.fault.AsmWhat.TheVariants.{SectionTooLarge}
use Rattle.std.proofs.Common.{◌≡◌, ℕ, ◌==◌, ◌+◌, ◌-◌, ◌*◌, ◌^◌, ◌≤◌, ◌<◌, min, Bool, true, false, cond, List, [], ◌∷◌, ◌++◌, length, map, Option, Some, None, Ok, refl, sym, ap, ◌∙◌, arith, append-nil, length-append}
use Rattle.std.specs.List.{filter, list_all, list_any}
use Rattle.std.proofs.lemmas.Bool.{and_from, cond_both}
use Rattle.std.proofs.lemmas.List.Folds.{list_all-append}
use Rattle.std.proofs.lemmas.Grind.{flat_map-append}
use Rattle.std.proofs.lemmas.List.{length-map}
use Rattle.std.proofs.lemmas.List.Elements.{filter-append}
use Rattle.asm_statements.specs.declared.statement.Stmt.{Stmt}
use Rattle.asm_statements.specs.declared.statement.StmtKind.{StmtKind}
use Rattle.asm_statements.specs.declared.statement.StmtKind.TheVariants as stmt
use Rattle.asm_unwind.specs.declared.directive.UnwindDirective.{UnwindDirective}
use Rattle.asm_unwind.specs.declared.entry.EntryWords.{EntryWords}
use Rattle.asm_unwind.specs.declared.entry.EntryWords.TheVariants as entry
use Rattle.asm_layout.specs.declared.fault.AsmFault.{AsmFault}
use Rattle.asm_relocatable.specs.declared.place.Place.{Place}
use Rattle.asm_relocatable.specs.declared.place.Section.{Section}
use Rattle.asm_relocatable.specs.declared.place.Section.TheVariants.{Text, Rodata, Extab, Init, Bss}
use Rattle.asm_layout.specs.declared.walk.Sizes.{Sizes}
use Rattle.asm_layout.specs.declared.walk.Walk.{Walk}
use Rattle.asm_layout.specs.declared.walk.TheConstants.{MOST_BYTES}
use Rattle.asm_layout.specs.declared.word.Word.{Word}
use Rattle.asm_layout.specs.declared.word.Word.TheVariants as word
use Rattle.asm_layout.specs.Faults.{first_of_all, fault_if}
use Rattle.asm_layout.specs.Functions.{Frame, directive_of, next_frame, new_entries, entries_from, entries_of, no_frame, unwind_faults_of}
use Rattle.asm_layout.specs.Labels.{NamePlace, labels_of, duplicates_from, too_large_from}
use Rattle.asm_layout.specs.Sizes.{sum_64, times, multiple, size_in, sizes_with_more, is_too_large}
use Rattle.eh_word.specs.Bytes.{gap}
use Rattle.asm_layout.specs.Walks.{start, next, coming_pool, cursor_place, is_empty, is_in_text, entry_at, pool_place, sizes_with_pool, walk_after}
use Rattle.asm_relocatable.specs.Sections.{same_section}
use Rattle.asm_layout.specs.Words.{word_of}
use Rattle.asm_relocatable.specs.declared.object.Object.{Object}
use Rattle.asm_relocatable.specs.declared.object.Reloc.{Reloc}
use Rattle.asm_object.specs.Instructions.{linked_unless, text_place}
use Rattle.asm_object.specs.Values.{link_of}
use Rattle.asm_object.specs.Pieces.{Piece, place_at, relocs_of, word_relocs, filling_piece, words_piece, pool_pieces, table_pieces, own_piece, relocs_in, bytes_in, pieces_of_puts, pieces_of}
use Rattle.asm_object.specs.Refusals.{refusal}
use Rattle.asm_object.specs.Objects.{faults_of, assembled_object, object_unless, object_of}
use Rattle.asm_object.specs.ObjectLaw.{relocation_kinds, FieldsStandInOrder, RelocsGoBySection, RelocsHaveKinds}
use Rattle.asm_relocatable.specs.Fields.{StandInOrder, relocs_at, bytes_at}
use Rattle.asm_relocatable.specs.Relocations.{field_size}
use Rattle.asm_layout.proofs.FirstLaws.{law_of_none}
use Rattle.asm_object.proofs.PlaceLaws.{Fewer, not_large, next_sizes, none_parts, law_of_ends, earlier, split}
use Rattle.asm_object.proofs.Statements.{walk_sets, walk_pieces}
use Rattle.asm_layout.specs.Placing.{word_place, place_stmts_from, pool_here, pool_puts, function_here}
use Rattle.asm_layout.specs.declared.placed.Puts.TheVariants as puts
use Rattle.asm_object.specs.After.{pieces_from, refusals_from}

-- ---- an object is that of statements that nothing is refused of

pub both_none : {A : Type 0} (xs ys : List A) → xs ++ ys ≡ [] → (xs ≡ []) × (ys ≡ [])
both_none [] ys e = (refl, e)
both_none (x ∷ xs) ys e = absurd (cc)

pub record IsTaken (stmts : List Stmt) (object : Object) : Type 0 where
  pub object_is : object ≡ assembled_object stmts
  pub unwound : unwind_faults_of stmts ≡ []
  pub unique : duplicates_from [] stmts ≡ []
  pub small : too_large_from (entries_of stmts) start 0 stmts ≡ []
  pub unrefused : refusals_from (entries_of stmts) (labels_of (entries_of stmts) stmts) start stmts ≡ []

taken_by : (stmts : List Stmt) (object : Object) → object ≡ assembled_object stmts → faults_of stmts ≡ [] → IsTaken stmts object
unfolding faults_of
taken_by stmts object o e =
    let entries = entries_of stmts in
    let last = both_none _ (refusals_from entries (labels_of entries stmts) start stmts) e in
    let front = both_none _ (too_large_from entries start 0 stmts) last.0 in
    let names = both_none _ (duplicates_from [] stmts) front.0 in
    record { object_is = o; unwound = names.0; unique = names.1; small = front.1; unrefused = last.1 }

pub taken : (stmts : List Stmt) (object : Object) → object_of stmts ≡ Ok object → IsTaken stmts object
unfolding object_of
taken stmts object e = by (first_of_all None (faults_of stmts)) refl e
  where
    by : (first : Option AsmFault) → first_of_all None (faults_of stmts) ≡ first → object_unless first (assembled_object stmts) ≡ Ok object → IsTaken stmts object
    by (Some fault) f e = absurd (cc)
    by None f e = taken_by stmts object (cc) (law_of_none (faults_of stmts) f)

pub fault_none : (b : Bool) (line : ℕ) (what : AsmWhat) → fault_if b line what ≡ [] → b ≡ false
fault_none true line what e = absurd (cc)
fault_none false line what e = refl

pub ends_small : (entries : List (Option EntryWords)) (walk : Walk) (last : ℕ) (stmts : List Stmt)
    → too_large_from entries walk last stmts ≡ [] → is_too_large (sizes_with_pool (walk_after entries walk stmts)) ≡ false
unfolding too_large_from walk_after
ends_small entries walk last [] e = fault_none _ last SectionTooLarge e
ends_small entries walk last (stmt ∷ more) e =
    ends_small entries (next entries walk stmt.kind) stmt.line more (both_none (fault_if (is_too_large (next entries walk stmt.kind).at.sizes) stmt.line SectionTooLarge) _ e).1

one_more : (frame : Frame) (directive : Option UnwindDirective) → length (new_entries frame directive) ≤ 1
one_more frame directive = grind arith

pub entries_count : (frame : Frame) (stmts : List Stmt) → length (entries_from frame stmts) ≤ length stmts
unfolding entries_from
entries_count frame [] = omega arith
entries_count frame (stmt ∷ more) =
    omega (
      arith,
      length-append (new_entries frame (directive_of stmt.kind)) (entries_from (next_frame frame stmt.line (directive_of stmt.kind)) more),
      one_more frame (directive_of stmt.kind),
      entries_count (next_frame frame stmt.line (directive_of stmt.kind)) more,
    )

-- ---- fields in order

pub from_lower : (a b : ℕ) (relocs : List Reloc) (c : ℕ) → a ≤ b → StandInOrder b relocs c → StandInOrder a relocs c
from_lower a b [] c h k = omega (arith, h, k)
from_lower a b (reloc ∷ more) c h k = (omega (arith, h, k.0), k.1)

pub one_after : (a : ℕ) (xs : List Reloc) (b : ℕ) (ys : List Reloc) (c : ℕ) → StandInOrder a xs b → StandInOrder b ys c → StandInOrder a (xs ++ ys) c
one_after a [] b ys c h k = from_lower a b ys c h k
one_after a (x ∷ xs) b ys c h k = (h.0, one_after (x.offset + field_size x) xs b ys c h.1 k)

-- ---- words

word_stands : (section : Section) (place : ℕ) (word : Word) → place ≤ MOST_BYTES → StandInOrder place (relocs_of (place_at section place) (link_of word)) (sum_64 place 4)
word_stands section place (word.Num n) h = omega arith
word_stands section place _ h = omega arith

words_stand : (section : Section) (place end : ℕ) (words : List Word) → place + length words * 4 ≡ end → end ≤ MOST_BYTES
    → StandInOrder place (word_relocs section place words) end
unfolding word_relocs
words_stand section place end [] e h = omega arith
words_stand section place end (word ∷ more) e h =
    one_after place (relocs_of (place_at section place) (link_of word)) (sum_64 place 4) (word_relocs section (sum_64 place 4) more) end
    (word_stands section place word (omega arith)) (words_stand section (sum_64 place 4) end more (omega arith) h)

-- ---- what a statement puts into its own section

link_stands : (place : Place) (to : Option ℕ) (kind : ℕ) (name : List ℕ) (by : ℕ) → place.offset + by ≤ MOST_BYTES
    → StandInOrder place.offset (relocs_of place (linked_unless None kind name)) (place.offset + by)
    → StandInOrder place.offset (relocs_of place (linked_unless to kind name)) (place.offset + by)
link_stands place (Some to) kind name by h k = omega arith
link_stands place None kind name by h k = k

diagonal : (a by : ℕ) (relocs : List Reloc) → min (a + by) (2 ^ 64 - 1) ≤ MOST_BYTES → (a + by ≤ MOST_BYTES → StandInOrder a relocs (a + by))
    → StandInOrder a (relocs ++ []) (min (a + by) (2 ^ 64 - 1))
diagonal a by relocs h k =
    let e : min (a + by) (2 ^ 64 - 1) ≡ a + by = omega (arith, h) in
    rw (append-nil, e) (k (omega (arith, h)))

grown_stand : (sizes : Sizes) (own s : Section) (by : ℕ) (relocs : List Reloc) → size_in (sizes_with_more sizes own by) s ≤ MOST_BYTES
    → (size_in sizes own + by ≤ MOST_BYTES → StandInOrder (size_in sizes own) relocs (size_in sizes own + by))
    → StandInOrder (size_in sizes s) (cond (same_section own s) relocs [] ++ []) (size_in (sizes_with_more sizes own by) s)
grown_stand sizes Text Text by relocs h k = diagonal sizes.text by relocs h k
grown_stand sizes Rodata Rodata by relocs h k = diagonal sizes.rodata by relocs h k
grown_stand sizes Extab Extab by relocs h k = diagonal sizes.extab by relocs h k
grown_stand sizes Init Init by relocs h k = diagonal sizes.init by relocs h k
grown_stand sizes Bss Bss by relocs h k = diagonal sizes.bss by relocs h k
grown_stand sizes _ _ by relocs h k = omega arith

-- ---- pieces without fields

unlinked : (s : Section) (piece : Piece) (more : List Piece) → piece.relocs ≡ [] → relocs_in s (piece ∷ more) ≡ relocs_in s more
unlinked s piece more e = grind (arith, e)

pub last_unlinked : (s : Section) (pieces : List Piece) (piece : Piece) → piece.relocs ≡ [] → relocs_in s (pieces ++ piece ∷ []) ≡ relocs_in s pieces
last_unlinked s pieces piece e = rw (flat_map-append, unlinked s piece [] e, append-nil)

table_unlinked : (place : ℕ) (entry : Option EntryWords) (s : Section) → relocs_in s (table_pieces place entry) ≡ []
table_unlinked place (Some (entry.Table words)) s = grind arith
table_unlinked place _ s = refl

pub start_unlinked : (entries : List (Option EntryWords)) (labels : List NamePlace) (walk : Walk) (s : Section) → relocs_in s (walk_sets entries labels walk stmt.FnStart) ≡ []
start_unlinked entries labels walk s = grind (arith, table_unlinked walk.at.sizes.extab (entry_at entries walk.at.functions) s)

-- ---- pools

pool_stands : (labels : List NamePlace) (walk : Walk) (s : Section) → size_in (sizes_with_pool walk) s ≤ MOST_BYTES
    → StandInOrder (size_in walk.at.sizes s) (relocs_in s (pool_pieces labels (pool_here walk))) (size_in (sizes_with_pool walk) s)
pool_stands labels walk s =
    let place = pool_place walk in
    let by = sum_64 (gap walk.at.sizes.text 4) (times (length walk.pool) 4) in
    let sizes = λ (b : Bool). cond b walk.at.sizes (sizes_with_more walk.at.sizes Text by) in
    let filling = filling_piece (place_at Text walk.at.sizes.text) (gap walk.at.sizes.text 4) in
    let words = words_piece labels (place_at Text place) walk.pool in
    elim (is_empty walk.pool) as (λ b. size_in (sizes b) s ≤ MOST_BYTES → StandInOrder (size_in walk.at.sizes s) (relocs_in s (cond b [] (filling ∷ words ∷ []))) (size_in (sizes b) s)) [
      | true ↦ λ h. omega arith
      | false ↦ λ h. rw (unlinked s filling (words ∷ []) refl) (grown_stand walk.at.sizes Text s by words.relocs h
          (λ k. from_lower walk.at.sizes.text place words.relocs _ (omega arith) (words_stand Text place _ walk.pool (omega arith) k)))
    ]

-- ---- one statement

statement_stands : (entries : List (Option EntryWords)) (labels : List NamePlace) (walk : Walk) (word : Option ℕ) (kind : StmtKind) (s : Section)
    → size_in (next entries walk kind).at.sizes s ≤ MOST_BYTES
    → StandInOrder (size_in walk.at.sizes s) (relocs_in s (walk_pieces entries labels walk word kind)) (size_in (next entries walk kind).at.sizes s)
statement_stands entries labels walk word (stmt.Bl name) s h =
    grown_stand walk.at.sizes walk.at.section s 4 _ h (λ k. link_stands (cursor_place walk.at) (text_place labels name) 10 name 4 k (omega arith))
statement_stands entries labels walk word (stmt.B name) s h =
    grown_stand walk.at.sizes walk.at.section s 2 _ h (λ k. link_stands (cursor_place walk.at) (text_place labels name) 102 name 2 k (omega arith))
statement_stands entries labels walk word (stmt.BCond c name) s h =
    grown_stand walk.at.sizes walk.at.section s 2 _ h (λ k. link_stands (cursor_place walk.at) (text_place labels name) 103 name 2 k (omega arith))
statement_stands entries labels walk word (stmt.Words words) s h =
    grown_stand walk.at.sizes walk.at.section s (times (length words) 4) _ h (λ k. words_stand walk.at.section _ _ (map word_of words) (omega (arith, length-map words word_of)) k)
statement_stands entries labels walk word (stmt.Align n) s h =
    let filling = filling_piece (cursor_place walk.at) (gap (cursor_place walk.at).offset (multiple n)) in
    rw (last_unlinked s (filling ∷ []) (own_piece labels (stmt.Align n) (cursor_place walk.at) word) refl, unlinked s filling [] refl) (omega (arith, h, next_sizes entries walk (stmt.Align n) s))
statement_stands entries labels walk word stmt.FnStart s h =
    rw (last_unlinked s (walk_sets entries labels walk stmt.FnStart) (own_piece labels stmt.FnStart (cursor_place walk.at) word) refl, start_unlinked entries labels walk s)
    (omega (arith, h, next_sizes entries walk stmt.FnStart s))
statement_stands entries labels walk word stmt.Pool s h =
    let ended : Walk = record { at = record walk.at { sizes = sizes_with_pool walk }; pool = [] } in
    rw (last_unlinked s (walk_sets entries labels walk stmt.Pool) (own_piece labels stmt.Pool (cursor_place walk.at) word) refl)
    (elim (is_in_text walk.at) as (λ b. size_in (cond b ended walk).at.sizes s ≤ MOST_BYTES
    → StandInOrder (size_in walk.at.sizes s) (relocs_in s (pieces_of_puts entries labels (cond b (pool_puts walk) puts.Nothing))) (size_in (cond b ended walk).at.sizes s)) [
      | true ↦ pool_stands labels walk s
      | false ↦ λ h. omega arith
    ] h)
statement_stands entries labels walk word kind s h =
    rw (unlinked s (own_piece labels kind (cursor_place walk.at) word) [] refl) (omega (arith, h, next_sizes entries walk kind s))

-- ---- all statements

-- the fields of the statements before some others stand before the place of those
pub earlier_stand : (entries : List (Option EntryWords)) (labels : List NamePlace) (walk : Walk) (before more : List Stmt) (s : Section) → Fewer entries
    → refusals_from entries labels walk (before ++ more) ≡ [] → is_too_large (sizes_with_pool (walk_after entries walk (before ++ more))) ≡ false
    → StandInOrder (size_in walk.at.sizes s) (relocs_in s (earlier entries labels walk before more)) (size_in (walk_after entries walk before).at.sizes s)
unfolding earlier place_stmts_from walk_after
earlier_stand entries labels walk [] more s few r h = omega arith
earlier_stand entries labels walk (stmt ∷ before) more s few r h =
    let after = next entries walk stmt.kind in
    let word = word_place walk stmt.kind (coming_pool entries walk (stmt ∷ before ++ more)) in
    let parts = none_parts stmt.line (refusal labels stmt.kind walk.at.section (cursor_place walk.at).offset word) (refusals_from entries labels after (before ++ more)) r in
    let last = sizes_with_pool (walk_after entries after (before ++ more)) in
    let small : size_in after.at.sizes s ≤ MOST_BYTES = omega (arith, law_of_ends entries labels after (before ++ more) s few parts.1 h, not_large last s h) in
    rw flat_map-append (one_after _ (relocs_in s (walk_pieces entries labels walk word stmt.kind)) (size_in after.at.sizes s) (relocs_in s (earlier entries labels after before more)) _
    (statement_stands entries labels walk word stmt.kind s small) (earlier_stand entries labels after before more s few parts.1 h))

pub all_stand : (entries : List (Option EntryWords)) (labels : List NamePlace) (walk : Walk) (stmts : List Stmt) (s : Section) → Fewer entries
    → refusals_from entries labels walk stmts ≡ [] → is_too_large (sizes_with_pool (walk_after entries walk stmts)) ≡ false
    → StandInOrder (size_in walk.at.sizes s) (relocs_in s (pieces_from entries labels walk stmts)) (size_in (sizes_with_pool (walk_after entries walk stmts)) s)
unfolding pieces_of place_stmts_from walk_after
all_stand entries labels walk stmts s few r h =
    let last = walk_after entries walk stmts in
    let none = append-nil stmts in
    let pieces : pieces_from entries labels walk stmts ≡ earlier entries labels walk stmts [] ++ pool_pieces labels (pool_here last) = ap (pieces_from entries labels walk) (sym none) ∙ split entries labels walk stmts [] in
    rw (pieces, flat_map-append) (one_after _ (relocs_in s (earlier entries labels walk stmts [])) (size_in last.at.sizes s) (relocs_in s (pool_pieces labels (pool_here last))) _
    (earlier_stand entries labels walk stmts [] s few (rw none r) (rw none h)) (pool_stands labels last s (not_large (sizes_with_pool last) s h)))

-- ---- relocations are of their pieces' sections, and of the standard's kinds

abbrev pub is_kind : ℕ → Bool
is_kind number = list_any (λ kind. number == kind) relocation_kinds

pub record IsOf (section : Section) (reloc : Reloc) : Type 0 where
  pub there : reloc.section ≡ section
  pub known : is_kind reloc.kind ≡ true

abbrev pub OfSection : Section → List Reloc → Type 0
OfSection section [] = Unit {0}
OfSection section (reloc ∷ more) = IsOf section reloc × OfSection section more

of_both : (section : Section) (xs ys : List Reloc) → OfSection section xs → OfSection section ys → OfSection section (xs ++ ys)
of_both section [] ys h k = k
of_both section (x ∷ xs) ys h k = (h.0, of_both section xs ys h.1 k)

word_own : (place : Place) (word : Word) → OfSection place.section (relocs_of place (link_of word))
word_own place (word.Num n) = tt
word_own place (word.Diff a b n) = tt
word_own place _ = (record { there = refl; known = refl }, tt)

branch_own : (place : Place) (to : Option ℕ) (number : ℕ) (name : List ℕ) → is_kind number ≡ true → OfSection place.section (relocs_of place (linked_unless to number name))
branch_own place (Some to) number name h = tt
branch_own place None number name h = (record { there = refl; known = h }, tt)

of_words : (section : Section) (offset : ℕ) (words : List Word) → OfSection section (word_relocs section offset words)
unfolding word_relocs
of_words section offset [] = tt
of_words section offset (word ∷ more) =
    of_both section (relocs_of (place_at section offset) (link_of word)) (word_relocs section (sum_64 offset 4) more) (word_own (place_at section offset) word) (of_words section (sum_64 offset 4) more)

abbrev pub AllOwn : List Piece → Type 0
AllOwn [] = Unit {0}
AllOwn (piece ∷ more) = OfSection piece.place.section piece.relocs × AllOwn more

all_both : (xs ys : List Piece) → AllOwn xs → AllOwn ys → AllOwn (xs ++ ys)
all_both [] ys h k = k
all_both (x ∷ xs) ys h k = (h.0, all_both xs ys h.1 k)

own_own : (labels : List NamePlace) (kind : StmtKind) (place : Place) (word : Option ℕ) → OfSection (own_piece labels kind place word).place.section (own_piece labels kind place word).relocs
own_own labels (stmt.Bl name) place word = branch_own place (text_place labels name) 10 name refl
own_own labels (stmt.B name) place word = branch_own place (text_place labels name) 102 name refl
own_own labels (stmt.BCond c name) place word = branch_own place (text_place labels name) 103 name refl
own_own labels (stmt.Words words) place word = of_words place.section place.offset (map word_of words)
own_own labels _ place word = tt

pool_own : (labels : List NamePlace) (walk : Walk) → AllOwn (pool_pieces labels (pool_here walk))
pool_own labels walk =
    let pieces = filling_piece (place_at Text walk.at.sizes.text) (gap walk.at.sizes.text 4) ∷ words_piece labels (place_at Text (pool_place walk)) walk.pool ∷ [] in
    elim (is_empty walk.pool) as (λ b. AllOwn (cond b [] pieces)) [ true ↦ tt | false ↦ (tt, (of_words Text (pool_place walk) walk.pool, tt)) ]

table_own : (place : ℕ) (entry : Option EntryWords) → AllOwn (table_pieces place entry)
table_own place (Some (entry.Table words)) = (tt, tt)
table_own place _ = tt

set_own : (entries : List (Option EntryWords)) (labels : List NamePlace) (walk : Walk) (kind : StmtKind) → AllOwn (walk_sets entries labels walk kind)
set_own entries labels walk (stmt.Align n) = (tt, tt)
set_own entries labels walk stmt.Pool =
    elim (is_in_text walk.at) as (λ b. AllOwn (pieces_of_puts entries labels (cond b (pool_puts walk) puts.Nothing))) [ true ↦ pool_own labels walk | false ↦ tt ]
set_own entries labels walk stmt.FnStart =
    elim walk.at.inside as (λ b. AllOwn (pieces_of_puts entries labels (cond b puts.Nothing (function_here walk.at)))) [
      | true ↦ tt
      | false ↦ table_own walk.at.sizes.extab (entry_at entries walk.at.functions)
    ]
set_own entries labels walk _ = tt

pub all_own : (entries : List (Option EntryWords)) (labels : List NamePlace) (walk : Walk) (stmts : List Stmt) → AllOwn (pieces_from entries labels walk stmts)
unfolding pieces_of place_stmts_from walk_after
all_own entries labels walk [] = pool_own labels walk
all_own entries labels walk (stmt ∷ more) =
    let word = word_place walk stmt.kind (coming_pool entries walk (stmt ∷ more)) in
    all_both (walk_pieces entries labels walk word stmt.kind) (pieces_from entries labels (next entries walk stmt.kind) more)
    (all_both (walk_sets entries labels walk stmt.kind) (own_piece labels stmt.kind (cursor_place walk.at) word ∷ []) (set_own entries labels walk stmt.kind) (own_own labels stmt.kind (cursor_place walk.at) word, tt))
    (all_own entries labels (next entries walk stmt.kind) more)

pub same_is : (a b : Section) → same_section a b ≡ true → a ≡ b
same_is a b e = grind arith

pub of_in : (s : Section) (pieces : List Piece) → AllOwn pieces → OfSection s (relocs_in s pieces)
of_in s [] h = tt
of_in s (piece ∷ more) h =
    of_both s (cond (same_section piece.place.section s) piece.relocs []) (relocs_in s more) (cond_both _ _ _ (OfSection s) (λ e. rw (← same_is piece.place.section s e) h.0) (λ _. tt)) (of_in s more h.1)

filtered : (t s : Section) (relocs : List Reloc) → OfSection t relocs → filter (λ reloc. same_section reloc.section s) relocs ≡ cond (same_section t s) relocs []
filtered t s [] h = grind arith
filtered t s (x ∷ xs) h = grind (arith, h.0.there, filtered t s xs h.1)

-- the fields of a section; bss has none
fields_in : Section → List Piece → List Reloc
fields_in Bss pieces = []
fields_in s pieces = relocs_in s pieces

kept : (pieces : List Piece) (s : Section) → AllOwn pieces
    → filter (λ reloc. same_section reloc.section s) (relocs_in Text pieces ++ relocs_in Rodata pieces ++ relocs_in Extab pieces ++ relocs_in Init pieces) ≡ fields_in s pieces
unfolding fields_in
kept pieces s own =
    rw (filter-append, filter-append, filter-append, is Text s, is Rodata s, is Extab s, is Init s) (by s)
  where
    is : (t s : Section) → filter (λ reloc. same_section reloc.section s) (relocs_in t pieces) ≡ cond (same_section t s) (relocs_in t pieces) []
    is t s = filtered t s (relocs_in t pieces) (of_in t pieces own)

    by : (s : Section) → cond (same_section Text s) (relocs_in Text pieces) [] ++ cond (same_section Rodata s) (relocs_in Rodata pieces) []
        ++ cond (same_section Extab s) (relocs_in Extab pieces) [] ++ cond (same_section Init s) (relocs_in Init pieces) [] ≡ fields_in s pieces
    by Init = refl
    by Bss = refl
    by _ = simp append-nil

-- ---- the laws

abbrev pub all_of : List Stmt → List Piece
all_of stmts = pieces_from (entries_of stmts) (labels_of (entries_of stmts) stmts) start stmts

joined_stands : (stmts : List Stmt) (object : Object) (s : Section) → length stmts < 2 ^ 64 → IsTaken stmts object
    → StandInOrder 0 (relocs_at s (assembled_object stmts)) (length (bytes_at s (assembled_object stmts)))
unfolding assembled_object fields_in
joined_stands stmts object s few t = rw (kept (all_of stmts) s (all_own entries labels start stmts)) (by s)
  where
    entries : List (Option EntryWords)
    entries = entries_of stmts

    labels : List NamePlace
    labels = labels_of (entries_of stmts) stmts

    by : (s : Section) → StandInOrder 0 (fields_in s (all_of stmts)) (length (bytes_at s (assembled_object stmts)))
    by Bss = omega arith
    by s =
        let fewer : length (entries_of stmts) < 2 ^ 64 = omega (arith, few, entries_count no_frame stmts) in
        let ends = ends_small entries start 0 stmts t.small in
        let all : length (bytes_in s (all_of stmts)) ≡ size_in (sizes_with_pool (walk_after entries start stmts)) s = omega (arith, law_of_ends entries labels start stmts s fewer t.unrefused ends) in
        rw all (all_stand entries labels start stmts s fewer t.unrefused ends)

-- the relocations of the exception tables are those of their pieces
pub table_relocs : (stmts : List Stmt) → relocs_at Extab (assembled_object stmts) ≡ relocs_in Extab (all_of stmts)
unfolding assembled_object fields_in
table_relocs stmts = kept (all_of stmts) Extab (all_own (entries_of stmts) (labels_of (entries_of stmts) stmts) start stmts)

pub law_of_fields : FieldsStandInOrder
law_of_fields stmts object s few e =
    let t = taken stmts object e in
    rw t.object_is (joined_stands stmts object s few t)

joined_go : (stmts : List Stmt)
    → (assembled_object stmts).relocs ≡ relocs_at Text (assembled_object stmts) ++ relocs_at Rodata (assembled_object stmts) ++ relocs_at Extab (assembled_object stmts) ++ relocs_at Init (assembled_object stmts)
unfolding assembled_object fields_in
joined_go stmts =
    let own = all_own (entries_of stmts) (labels_of (entries_of stmts) stmts) start stmts in
    rw (kept (all_of stmts) Text own, kept (all_of stmts) Rodata own, kept (all_of stmts) Extab own, kept (all_of stmts) Init own) refl

pub law_of_sections : RelocsGoBySection
law_of_sections stmts object e = rw (taken stmts object e).object_is (joined_go stmts)

known_all : (section : Section) (relocs : List Reloc) → OfSection section relocs → list_all (λ reloc. is_kind reloc.kind) relocs ≡ true
known_all section [] h = refl
known_all section (reloc ∷ more) h = and_from _ _ h.0.known (known_all section more h.1)

joined_known : (stmts : List Stmt) → list_all (λ reloc. is_kind reloc.kind) (assembled_object stmts).relocs ≡ true
unfolding assembled_object
joined_known stmts = simp (list_all-append, known Text, known Rodata, known Extab, known Init)
  where
    known : (s : Section) → list_all (λ reloc. is_kind reloc.kind) (relocs_in s (all_of stmts)) ≡ true
    known s = known_all s (relocs_in s (all_of stmts)) (of_in s (all_of stmts) (all_own (entries_of stmts) (labels_of (entries_of stmts) stmts) start stmts))

pub law_of_kinds : RelocsHaveKinds
law_of_kinds stmts object e = rw (taken stmts object e).object_is (joined_known stmts)
