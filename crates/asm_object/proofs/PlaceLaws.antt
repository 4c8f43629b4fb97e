-- Where a statement stands is the number of bytes of its section before it.
use Rattle.std.proofs.Common.{◌≡◌, ℕ, ℤ, pos, negsuc, ◌-ℤ◌, zero, suc, ◌+◌, ◌-◌, ◌*◌, ◌/◌, ◌%◌, ◌^◌, ◌≤◌, ◌<◌, min, not, nat_lt, Bool, true, false, cond, List, [], ◌∷◌, ◌++◌, length, map, flat_map, replicate, Option, Some, None, is_some, option_map, unwrap_or, Result, Ok, Err, refl, sym, ap, ◌∙◌, arith, append_assoc, length-append}
use Rattle.std.specs.Result.{result_err}
use Rattle.std.specs.List.{position_or_len}
use Rattle.std.proofs.lemmas.Bool.{le-ltb}
use Rattle.std.proofs.lemmas.Bool.Decides.{nat_tests}
use Rattle.std.proofs.lemmas.Option.{slice_get_past}
use Rattle.std.proofs.lemmas.Grind.{flat_map-append}
use Rattle.std.proofs.Math.Seq.{drop-append_seam}
use Rattle.std.proofs.lemmas.List.{length-map, length-replicate}
use Rattle.asm_statements.specs.declared.statement.Stmt.{Stmt}
use Rattle.asm_statements.specs.declared.computation.OfTwoRegisters.{OfTwoRegisters}
use Rattle.asm_statements.specs.declared.computation.OfTwoRegisters.TheVariants as two
use Rattle.asm_statements.specs.declared.computation.OfThreeRegisters.{OfThreeRegisters}
use Rattle.asm_statements.specs.declared.computation.OfThreeRegisters.TheVariants as three
use Rattle.asm_statements.specs.declared.computation.OfRegisterNumber.{OfRegisterNumber}
use Rattle.asm_statements.specs.declared.computation.OfRegisterNumber.TheVariants as of_number
use Rattle.asm_statements.specs.declared.computation.OfTwoRegistersNumber.{OfTwoRegistersNumber}
use Rattle.asm_statements.specs.declared.computation.OfTwoRegistersNumber.TheVariants as two_number
use Rattle.asm_statements.specs.declared.statement.StmtKind.{StmtKind}
use Rattle.asm_statements.specs.declared.statement.StmtKind.TheVariants as stmt
use Rattle.asm_unwind.specs.declared.entry.EntryWords.{EntryWords}
use Rattle.asm_unwind.specs.declared.entry.EntryWords.TheVariants as entry
use Rattle.thumb_isa.specs.declared.instr.Instr.{Instr}
use Rattle.thumb_isa.specs.declared.instr.Instr.TheVariants.{LdrLit, Bl, Barrier, Cbz, BWide, MovW, MovT, Div}
use Rattle.thumb_encode.specs.declared.code.Code.{Code}
use Rattle.thumb_encode.specs.declared.code.Code.TheVariants.{Half}
use Rattle.thumb_isa.specs.declared.encode_fault.EncodeFault.{EncodeFault}
use Rattle.thumb_isa.specs.declared.encode_fault.EncodeFault.TheVariants.{RegisterRange}
use Rattle.thumb_encode.specs.Codes.{refused_if, with_field, encode_result, target_field, bl_code}
use Rattle.asm_relocatable.specs.declared.place.Section.{Section}
use Rattle.asm_relocatable.specs.declared.place.Section.TheVariants.{Text, Rodata, Extab, Bss}
use Rattle.asm_relocatable.specs.declared.place.Place.{Place}
use Rattle.asm_layout.specs.declared.word.Word.{Word}
use Rattle.asm_layout.specs.declared.walk.Sizes.{Sizes}
use Rattle.asm_layout.specs.declared.walk.Walk.{Walk}
use Rattle.asm_layout.specs.declared.walk.TheConstants.{MOST_BYTES}
use Rattle.asm_layout.specs.Words.{word_of}
use Rattle.asm_layout.specs.SameWords.{same_word}
use Rattle.asm_layout.specs.Sizes.{sum_64, times, multiple, natural, is_instruction, sort_size, size, table_size, size_in, sizes_with_more, is_too_large}
use Rattle.eh_word.specs.Bytes.{gap, zeros, length-zeros}
use Rattle.asm_layout.specs.Walks.{start, next, cursor_place, pool_place, handling, after_fnstart, entry_at, ends_pool, walk_after, coming_pool, sizes_with_pool}
use Rattle.asm_relocatable.specs.Sections.{same_section}
use Rattle.asm_layout.specs.declared.fault.AsmFault.{AsmFault}
use Rattle.asm_layout.specs.declared.fault.AsmWhat.{AsmWhat}
use Rattle.asm_layout.specs.declared.fault.AsmWhat.TheVariants.{UndefinedLocal, PoolTooFar, Placement}
use Rattle.asm_layout.specs.Labels.{NamePlace}
use Rattle.asm_object.specs.Bytes.{byte_bytes, half_bytes, word_bytes, code_bytes, filling_bytes}
use Rattle.asm_object.specs.Values.{number, section_word, low_or_zero}
use Rattle.asm_layout.specs.declared.given.Width.TheVariants as widths
use Rattle.asm_layout.specs.Given.{FieldsOf, TextOf, ZerosOf}
use Rattle.asm_statements.specs.Computations.{offset, of_two_registers, of_three_registers, of_register_number, of_two_registers_number}
use Rattle.asm_layout.specs.Sorts.{Operation, Nameless, Undefined, LdrValue, BlTo, BWideTo, CbzTo, Sort, CodeOf, DataOf, computation_sort, sort_of, operation_in, sort_data}
use Rattle.asm_object.specs.Instructions.{base, literal, literal_to, operation_instr, encode_option, operation_link}
use Rattle.asm_object.specs.Pieces.{Piece, instruction_piece, data_piece, relocs_of, words_bytes, bytes_of_code, bytes_of_coded, bytes_of_instruction, bytes_of_half, undefined_half, bytes_of_data, relocs_of_data, filling_piece, pool_pieces, table_pieces, own_piece, bytes_in, pieces_of}
use Rattle.asm_object.specs.PlaceLaw.{SectionsEndAfterTheirBytes, PlacesCountTheBytesBefore, BytesStandAtTheirPlaces}
use Rattle.asm_object.specs.Refusals.{instruction_fault, sort_fault, encode_fault, fault_unless, encode_or, is_pool_too_far, is_misplaced, are_names_known, refusal}
use Rattle.asm_object.specs.Objects.{faults_at}
use Rattle.asm_object.proofs.Statements.{walk_sets, walk_pieces}
use Rattle.asm_layout.specs.Placing.{word_place, place_stmts_from, pool_here}
use Rattle.asm_object.specs.After.{pieces_from, refusals_from}

-- ---- bytes of lists

each_has : {A : Type 0} (f : A → List ℕ) (n : ℕ) → ((a : A) → length (f a) ≡ n) → (xs : List A) → length (flat_map f xs) ≡ length xs * n
each_has f n h [] = omega arith
each_has f n h (x ∷ xs) = length-append (f x) (flat_map f xs) ∙ grind (arith, h x, each_has f n h xs)

pub words_length : (labels : List NamePlace) (words : List Word) → length (words_bytes labels words) ≡ length words * 4
words_length labels words = each_has (λ word. word_bytes (section_word labels word)) 4 (λ word. refl) words

pub filled_length : (count : ℕ) → length (filling_bytes count) ≡ count
filled_length count = grind (arith, nat_tests, each_has half_bytes 2 (λ half. refl) (replicate (count / 2) 0x46c0), length-replicate {A = ℕ} (count / 2) 0x46c0)

filling_length : (b : Bool) (count : ℕ) → length (cond b (filling_bytes count) (zeros count)) ≡ count
filling_length b count = grind (arith, filled_length, length-zeros)

-- ---- codes: a result that is no refusal has so many bytes

pub record Gives (n : ℕ) (r : Result Code EncodeFault) : Type 0 where
  pub has : result_err r ≡ None → length (bytes_of_code r) ≡ n

refused_gives : (n : ℕ) (b : Bool) (f : EncodeFault) (r : Result Code EncodeFault) → Gives n r → Gives n (refused_if b f r)
refused_gives n true f r h = record { has = λ e. absurd (cc) }
refused_gives n false f r h = h

field_gives : (n : ℕ) (r : Result ℕ EncodeFault) (code : ℕ → Code) → ((field : ℕ) → length (code_bytes (code field)) ≡ n) → Gives n (with_field r code)
field_gives n (Ok field) code h = record { has = λ e. h field }
field_gives n (Err fault) code h = record { has = λ e. absurd (cc) }

cond_gives : (n : ℕ) (b : Bool) (r s : Result Code EncodeFault) → Gives n r → Gives n s → Gives n (cond b r s)
cond_gives n true r s h k = h
cond_gives n false r s h k = k

has_bytes : (n : ℕ) (code : Code) → length (code_bytes code) ≡ n → Gives n (Ok code)
has_bytes n code h = record { has = λ e. h }

abbrev pub width : Instr → ℕ
width (Bl _) = 4
width (Barrier _ _) = 4
width (BWide _) = 4
width (MovW _ _) = 4
width (MovT _ _) = 4
width (Div _ _ _ _) = 4
width (Cbz _ _ _) = 2
width _ = 2

pub gives : (i : Instr) → Gives (width i) (encode_result i)
gives (Bl off) = field_gives 4 (target_field (2 ^ 24) off) bl_code (λ field. refl)
gives (BWide off) = field_gives 4 (target_field (2 ^ 24) off) _ (λ field. refl)
gives _ = search (refused_gives, field_gives, cond_gives, has_bytes)

-- ---- bytes of statements

abbrev pub loads_value : Sort → Bool
loads_value (CodeOf _ (LdrValue _ _)) = true
loads_value _ = false

abbrev pub HasLoadCode : List NamePlace → Sort → ℕ → Option ℕ → Type 0
HasLoadCode labels sort place word = loads_value sort ≡ true → instruction_fault (operation_instr labels (operation_in sort) place word) ≡ None

-- a load from the pool has a code, which its refusals do not ask for
abbrev pub LoadHasCode : List NamePlace → StmtKind → ℕ → Option ℕ → Type 0
LoadHasCode labels kind place word = HasLoadCode labels (sort_of kind) place word

abbrev pub SameEnd : ℕ → ℕ → Type 0
SameEnd a b = min a (2 ^ 64 - 1) ≡ min b (2 ^ 64 - 1)

abbrev the_none : List ℕ
the_none = []

no_table : (sizes : Sizes) (s : Section) → SameEnd (size_in (sizes_with_more sizes Extab 0) s) (size_in sizes s + 0)
no_table sizes s = grind arith

abbrev width_of : Option Instr → ℕ
width_of (Some i) = width i
width_of None = 0

has_code : (o : Option Instr) (n : ℕ) → width_of o ≡ n → instruction_fault o ≡ None → SameEnd n (length (bytes_of_instruction o))
has_code (Some i) n h e = ap (λ k. min k (2 ^ 64 - 1)) (sym ((gives i).has e ∙ h))
has_code None n h e = ap (λ k. min k (2 ^ 64 - 1)) (sym h)

-- an instruction has so many bytes
abbrev pub operation_size : Operation → ℕ
operation_size (Nameless i) = width i
operation_size (BlTo name) = 4
operation_size (BWideTo name) = 4
operation_size (CbzTo nonzero n name) = 2
operation_size _ = 2

abbrev pub IsSized : Sort → Type 0
IsSized (CodeOf bytes operation) = operation_size operation ≡ bytes
IsSized _ = zero ≡ zero

two_sized : (what : OfTwoRegisters) (d m : ℕ) → IsSized (computation_sort (of_two_registers what d m))
two_sized two.CmpReg n m = grind arith
two_sized _ d m = refl

three_sized : (what : OfThreeRegisters) (d n m : ℕ) → IsSized (computation_sort (of_three_registers what d n m))
three_sized (three.Div signed) d n m = refl
three_sized _ d n m = refl

number_sized : (what : OfRegisterNumber) (d : ℕ) (imm : ℤ) → IsSized (computation_sort (of_register_number what d imm))
number_sized of_number.MovW d imm = refl
number_sized _ d imm = refl

two_number_sized : (what : OfTwoRegistersNumber) (d n : ℕ) (imm : ℤ) → IsSized (computation_sort (of_two_registers_number what d n imm))
two_number_sized (two_number.AddSubThree sub) d n imm = grind arith
two_number_sized _ d n imm = refl

-- as its line in the table says
pub sized : (kind : StmtKind) → IsSized (sort_of kind)
sized (stmt.TwoRegisters what d m) = two_sized what d m
sized (stmt.ThreeRegisters what d n m) = three_sized what d n m
sized (stmt.RegisterNumber what d imm) = number_sized what d imm
sized (stmt.TwoRegistersNumber what d n imm) = two_number_sized what d n imm
sized _ = refl

-- a statement's own piece, by its sort
abbrev pub piece_of : List NamePlace → Sort → Place → Option ℕ → Piece
piece_of labels sort place word = cond (is_some (operation_in sort))
    (record {
      place = place;
      code = true;
      bytes = bytes_of_half (undefined_half (operation_in sort)) ++ bytes_of_coded (encode_option (operation_instr labels (operation_in sort) place.offset word));
      relocs = relocs_of place (operation_link labels (operation_in sort));
    })
    (record { place = place; code = false; bytes = bytes_of_data labels (sort_data sort); relocs = relocs_of_data (sort_data sort) place })

sort_counts : (labels : List NamePlace) (sort : Sort) (place : Place) (word : Option ℕ) → IsSized sort → HasLoadCode labels sort place.offset word
    → sort_fault labels sort (encode_option (operation_instr labels (operation_in sort) place.offset word)) ≡ None → SameEnd (sort_size (λ n. 0) sort) (length (piece_of labels sort place word).bytes)
sort_counts labels (CodeOf bytes (Undefined imm)) place word z load e = ap (λ k. min k (2 ^ 64 - 1)) (sym z)
sort_counts labels (CodeOf bytes (LdrValue t value)) place word z load e = has_code (Some (LdrLit t (literal_to word place.offset))) bytes z (load refl)
sort_counts labels (CodeOf bytes operation) place word z load e = has_code (operation_instr labels (Some operation) place.offset word) bytes z e
sort_counts labels (DataOf (FieldsOf widths.Word fields)) place word z load e = omega (arith, words_length labels (map word_of fields), length-map fields word_of)
sort_counts labels (DataOf (FieldsOf widths.Half fields)) place word z load e = omega (arith, each_has (λ field. half_bytes (low_or_zero (number labels field))) 2 (λ field. refl) fields)
sort_counts labels (DataOf (FieldsOf widths.Byte fields)) place word z load e = omega (arith, each_has (λ field. byte_bytes (low_or_zero (number labels field))) 1 (λ field. refl) fields)
sort_counts labels (DataOf (TextOf text false)) place word z load e = omega arith
sort_counts labels (DataOf (TextOf text true)) place word z load e = omega (arith, length-append text (0 ∷ []))
sort_counts labels (DataOf (ZerosOf n)) place word z load e = omega (arith, length-zeros (natural n))
sort_counts labels _ place word z load e = refl

-- ---- sizes after pieces

nothing : (b : Bool) → length (cond b (the_none) [] ++ []) ≡ 0
nothing b = grind arith

grown_counts : (sizes : Sizes) (own s : Section) (by : ℕ) (bytes : List ℕ) → SameEnd by (length bytes)
    → SameEnd (size_in (sizes_with_more sizes own by) s) (size_in sizes s + length (cond (same_section own s) bytes [] ++ []))
grown_counts sizes own s by bytes e = grind (arith, e, length-append bytes the_none)

pool_counts : (labels : List NamePlace) (walk : Walk) (s : Section)
    → SameEnd (size_in (sizes_with_pool walk) s) (size_in walk.at.sizes s + length (bytes_in s (pool_pieces labels (pool_here walk))))
pool_counts labels walk s =
    let fill = gap walk.at.sizes.text 4 in
    let words = words_bytes labels walk.pool in
    grind (arith, length-append (filling_bytes fill) (words ++ []), filled_length fill, length-append words [], words_length labels walk.pool)

table_counts : (sizes : Sizes) (entry : Option EntryWords) (s : Section)
    → SameEnd (size_in (sizes_with_more sizes Extab (table_size sizes.extab entry)) s) (size_in sizes s + length (bytes_in s (table_pieces sizes.extab entry)))
table_counts sizes (Some (entry.Table words)) s =
    let fill = gap sizes.extab 4 in
    grown_counts sizes Extab s (table_size sizes.extab (Some (entry.Table words))) (zeros fill ++ flat_map word_bytes words)
    (omega (arith, length-append (zeros fill) (flat_map word_bytes words), length-zeros fill, each_has word_bytes 4 (λ word. refl) words))
table_counts sizes _ s = no_table sizes s

-- ---- one statement

abbrev pub is_ordinary : StmtKind → Bool
is_ordinary stmt.Text = false
is_ordinary stmt.Data = false
is_ordinary stmt.Bss = false
is_ordinary stmt.Rodata = false
is_ordinary stmt.FnStart = false
is_ordinary stmt.FnEnd = false
is_ordinary stmt.HandlerData = false
is_ordinary (stmt.Align _) = false
is_ordinary stmt.Pool = false
is_ordinary _ = true

pub ordinary_sets : (entries : List (Option EntryWords)) (labels : List NamePlace) (walk : Walk) (kind : StmtKind) → is_ordinary kind ≡ true
    → walk_sets entries labels walk kind ≡ []
ordinary_sets entries labels walk stmt.Pool o = cc
ordinary_sets entries labels walk _ o = cc

pub own_stands : (labels : List NamePlace) (kind : StmtKind) (place : Place) (word : Option ℕ) → (own_piece labels kind place word).place ≡ place
own_stands labels kind place word =
    elim (is_instruction kind) as (λ b. (cond b (instruction_piece labels kind place word) (data_piece labels kind place)).place ≡ place) [ true ↦ refl | false ↦ refl ]

abbrev pub Fewer : List (Option EntryWords) → Type 0
Fewer entries = length entries < 2 ^ 64

both_count : (s : Section) (some more : List Piece) → length (bytes_in s (some ++ more)) ≡ length (bytes_in s some) + length (bytes_in s more)
both_count s some more = rw (flat_map-append, length-append)

-- a piece without bytes after others counts nothing
last_none : (s : Section) (pieces : List Piece) (piece : Piece) → piece.bytes ≡ [] → length (bytes_in s (pieces ++ piece ∷ [])) ≡ length (bytes_in s pieces)
last_none s pieces piece e =
    let own : length (cond (same_section piece.place.section s) piece.bytes the_none ++ []) ≡ 0 = rw e (nothing (same_section piece.place.section s)) in
    omega (arith, own, both_count s pieces (piece ∷ []))

handling_sizes : (walk : Walk) → (handling walk.at).sizes ≡ walk.at.sizes
handling_sizes walk = grind arith

no_entry : (entries : List (Option EntryWords)) (function : ℕ) → Fewer entries → nat_lt function (2 ^ 64 - 1) ≡ false → entry_at entries function ≡ None
no_entry entries function few e = ap (λ o. unwrap_or o None) (slice_get_past entries function (grind (arith, nat_tests)))

start_counts : (entries : List (Option EntryWords)) (labels : List NamePlace) (walk : Walk) (s : Section) → Fewer entries
    → SameEnd (size_in (after_fnstart entries walk.at).sizes s) (size_in walk.at.sizes s + length (bytes_in s (walk_sets entries labels walk stmt.FnStart)))
start_counts entries labels walk s few = grind (arith, nat_tests, table_counts walk.at.sizes (entry_at entries walk.at.functions) s, no_entry entries walk.at.functions few)

-- a statement's pieces have as many bytes as the walk goes on by
statement_counts : (entries : List (Option EntryWords)) (labels : List NamePlace) (walk : Walk) (word : Option ℕ) (kind : StmtKind) (s : Section) → Fewer entries
    → LoadHasCode labels kind (cursor_place walk.at).offset word → encode_fault labels kind (cursor_place walk.at).offset word ≡ None
    → SameEnd (size_in (next entries walk kind).at.sizes s) (size_in walk.at.sizes s + length (bytes_in s (walk_pieces entries labels walk word kind)))
statement_counts entries labels walk word stmt.FnStart s few load e =
    omega (arith, start_counts entries labels walk s few, last_none s (walk_sets entries labels walk stmt.FnStart) (own_piece labels stmt.FnStart (cursor_place walk.at) word) refl)
statement_counts entries labels walk word stmt.HandlerData s few load e =
    omega (arith, nothing (same_section walk.at.section s), ap (λ sizes. size_in sizes s) (handling_sizes walk))
statement_counts entries labels walk word (stmt.Align n) s few load e =
    let fill = gap (cursor_place walk.at).offset (multiple n) in
    let filling = filling_piece (cursor_place walk.at) fill in
    omega (arith, grown_counts walk.at.sizes walk.at.section s fill filling.bytes (omega (arith, filling_length (same_section walk.at.section Text) fill)), last_none s (filling ∷ []) (own_piece labels (stmt.Align n) (cursor_place walk.at) word) refl)
statement_counts entries labels walk word stmt.Pool s few load e =
    grind (arith, pool_counts labels walk s, last_none s (walk_sets entries labels walk stmt.Pool) (own_piece labels stmt.Pool (cursor_place walk.at) word) refl)
statement_counts entries labels walk word kind s few load e =
    let own = (own_piece labels kind (cursor_place walk.at) word).bytes in
    omega (arith, nothing (same_section walk.at.section s), grown_counts walk.at.sizes walk.at.section s (size kind) own (sort_counts labels (sort_of kind) (cursor_place walk.at) word (sized kind) load e))

-- ---- a load from the pool

pub refusal_parts : (labels : List NamePlace) (kind : StmtKind) (section : Section) (place : ℕ) (word : Option ℕ) → refusal labels kind section place word ≡ None
    → (encode_fault labels kind place word ≡ None) × ((is_pool_too_far place word ≡ false) × (is_misplaced kind section ≡ false))
unfolding refusal
refusal_parts labels kind section place word e =
    by (not (are_names_known labels kind)) (encode_fault labels kind place word) (is_pool_too_far place word) (is_misplaced kind section) e
  where
    by : (unknown : Bool) (fault : Option EncodeFault) (far misplaced : Bool)
        → cond unknown (Some UndefinedLocal) (encode_or fault (cond far (Some PoolTooFar) (cond misplaced (Some Placement) None))) ≡ None
        → (fault ≡ None) × ((far ≡ false) × (misplaced ≡ false))
    by false None false false e = (refl, (refl, refl))
    by _ _ _ _ e = absurd (cc)

pub none_parts : (line : ℕ) (what : Option AsmWhat) (more : List AsmFault) → faults_at line what ++ more ≡ [] → (what ≡ None) × (more ≡ [])
none_parts line (Some what) more e = absurd (cc)
none_parts line None more e = (refl, e)

grown_sizes : (sizes : Sizes) (own s : Section) (by : ℕ) → min (size_in sizes s) (2 ^ 64 - 1) ≤ size_in (sizes_with_more sizes own by) s
grown_sizes sizes own s by = grind arith

pool_sizes : (walk : Walk) (s : Section) → min (size_in walk.at.sizes s) (2 ^ 64 - 1) ≤ size_in (sizes_with_pool walk) s
pool_sizes walk s = grind arith

started_sizes : (entries : List (Option EntryWords)) (walk : Walk) (s : Section) → min (size_in walk.at.sizes s) (2 ^ 64 - 1) ≤ size_in (after_fnstart entries walk.at).sizes s
started_sizes entries walk s = grind (arith, grown_sizes)

-- no section shrinks
pub next_sizes : (entries : List (Option EntryWords)) (walk : Walk) (kind : StmtKind) (s : Section)
    → min (size_in walk.at.sizes s) (2 ^ 64 - 1) ≤ size_in (next entries walk kind).at.sizes s
next_sizes entries walk stmt.FnStart s = started_sizes entries walk s
next_sizes entries walk stmt.HandlerData s = omega (arith, ap (λ sizes. size_in sizes s) (handling_sizes walk))
next_sizes entries walk stmt.Pool s = grind (arith, pool_sizes walk s)
next_sizes entries walk _ s = omega (arith, grown_sizes)

end_text : (entries : List (Option EntryWords)) (walk : Walk) (stmts : List Stmt) → min walk.at.sizes.text (2 ^ 64 - 1) ≤ (sizes_with_pool (walk_after entries walk stmts)).text
unfolding walk_after
end_text entries walk [] = pool_sizes walk Text
end_text entries walk (stmt ∷ more) = omega (arith, next_sizes entries walk stmt.kind Text, end_text entries (next entries walk stmt.kind) more)

-- a pool begins after a place, at a multiple of 4
record After (place pool : ℕ) : Type 0 where
  text : ℕ
  after : min place (2 ^ 64 - 1) ≤ text
  begins : pool ≡ sum_64 text (gap text 4)

pool_after : (entries : List (Option EntryWords)) (walk : Walk) (stmts : List Stmt) → After walk.at.sizes.text (coming_pool entries walk stmts)
unfolding coming_pool
pool_after entries walk [] = record { text = walk.at.sizes.text; after = omega arith; begins = refl }
pool_after entries walk (stmt ∷ more) =
    let later = pool_after entries (next entries walk stmt.kind) more in
    elim (ends_pool walk stmt.kind) as (λ b. After walk.at.sizes.text (cond b (pool_place walk) (coming_pool entries (next entries walk stmt.kind) more))) [
      | true ↦ record { text = walk.at.sizes.text; after = omega arith; begins = refl }
      | false ↦ record { text = later.text; after = omega (arith, next_sizes entries walk stmt.kind Text, later.after); begins = later.begins }
    ]

minus : (a b : ℕ) → b ≤ a → pos a -ℤ pos b ≡ pos (a - b)
minus a zero h = ap pos (omega arith)
minus a (suc b) h = ap (λ c. cond c (negsuc (suc b - suc a)) (pos (a - suc b))) (le-ltb a (suc b) h)

pub load_code : (t n : ℕ) → fault_unless (nat_lt t 8) RegisterRange ≡ None → n ≤ 1020 → n % 4 ≡ 0 → result_err (encode_result (LdrLit t (offset (pos n)))) ≡ None
load_code t n h k m = grind (arith, nat_tests)

word_there : (place text index pool word : ℕ) → place + 2 ≤ MOST_BYTES → place + 2 ≤ text → pool ≡ sum_64 text (gap text 4)
    → word ≡ sum_64 pool (times index 4) → word - base place ≤ 1020 → (base place ≤ word) × ((word - base place) % 4 ≡ 0)
word_there place text index pool word small after p w near =
    let from : base place ≡ (place + 4) / 4 * 4 = omega arith in
    let low : word ≤ place + 1024 = omega arith in
    let first : pool ≡ (text + 3) / 4 * 4 = omega arith in
    let at : word ≡ (text + 3) / 4 * 4 + index * 4 = omega (arith, first) in
    (omega (arith, from, at), omega (arith, from, at))

pub not_false : (b : Bool) → not b ≡ false → b ≡ true
not_false b e = grind arith

pub text_here : (sizes : Sizes) (section : Section) → same_section section Text ≡ true → size_in sizes section ≡ sizes.text
text_here sizes section e = grind arith

text_grown : (sizes : Sizes) (section : Section) (by : ℕ) → same_section section Text ≡ true → (sizes_with_more sizes section by).text ≡ sum_64 sizes.text by
text_grown sizes section by e = grind arith

load_there : (t place index pool word text : ℕ) → fault_unless (nat_lt t 8) RegisterRange ≡ None → word ≡ sum_64 pool (times index 4) → nat_lt 1020 (word - base place) ≡ false
    → place + 2 ≤ MOST_BYTES → place + 2 ≤ text → pool ≡ sum_64 text (gap text 4) → result_err (encode_result (LdrLit t (literal word place))) ≡ None
load_there t place index pool word text r w near small after p =
    let close : word - base place ≤ 1020 = grind (arith, nat_tests) in
    let there = word_there place text index pool word small after p w close in
    ap (λ n. result_err (encode_result (LdrLit t (offset n)))) (minus word (base place) there.0)
    ∙ load_code t (word - base place) r close there.1

pub loads : (entries : List (Option EntryWords)) (labels : List NamePlace) (walk : Walk) (kind : StmtKind) (more : List Stmt) (word : Option ℕ)
    → word ≡ word_place walk kind (cond (ends_pool walk kind) (pool_place walk) (coming_pool entries (next entries walk kind) more))
    → (sizes_with_pool (walk_after entries (next entries walk kind) more)).text ≤ MOST_BYTES
    → refusal labels kind walk.at.section (cursor_place walk.at).offset word ≡ None → LoadHasCode labels kind (cursor_place walk.at).offset word
loads entries labels walk (stmt.LdrPool t value) more word w small e l =
    let at = (cursor_place walk.at).offset in
    let parts = refusal_parts labels (stmt.LdrPool t value) walk.at.section at word e in
    let there = not_false (same_section walk.at.section Text) parts.1.1 in
    let same = text_here walk.at.sizes walk.at.section there in
    let grows = text_grown walk.at.sizes walk.at.section 2 there in
    let ends = end_text entries (next entries walk (stmt.LdrPool t value)) more in
    let pool = pool_after entries (next entries walk (stmt.LdrPool t value)) more in
    let fits : size_in walk.at.sizes walk.at.section + 2 ≤ MOST_BYTES = omega (arith, same, grows, ends, small) in
    let index = position_or_len (same_word (word_of value)) walk.pool in
    let coming = coming_pool entries (next entries walk (stmt.LdrPool t value)) more in
    let is : word ≡ Some (sum_64 coming (times index 4)) = w ∙ ap (λ b. option_map (sum_64 coming) (cond b (Some (times index 4)) None)) there in
    ap (λ o. instruction_fault (Some (LdrLit t (literal_to o at)))) is
    ∙ load_there t at index coming (sum_64 coming (times index 4)) pool.text parts.0 refl
    (ap (λ o. is_pool_too_far at o) (sym is) ∙ parts.1.0)
    fits (omega (arith, same, grows, fits, pool.after)) pool.begins
loads entries labels walk _ more word w small e l = cc

-- ---- the law

counts : (entries : List (Option EntryWords)) (labels : List NamePlace) (walk : Walk) (stmts : List Stmt) (s : Section) → Fewer entries
    → refusals_from entries labels walk stmts ≡ [] → (sizes_with_pool (walk_after entries walk stmts)).text ≤ MOST_BYTES
    → SameEnd (size_in (sizes_with_pool (walk_after entries walk stmts)) s) (size_in walk.at.sizes s + length (bytes_in s (pieces_from entries labels walk stmts)))
unfolding pieces_of place_stmts_from walk_after coming_pool
counts entries labels walk [] s few r small = pool_counts labels walk s
counts entries labels walk (stmt ∷ more) s few r small =
    let word = word_place walk stmt.kind (cond (ends_pool walk stmt.kind) (pool_place walk) (coming_pool entries (next entries walk stmt.kind) more)) in
    let parts = none_parts stmt.line (refusal labels stmt.kind walk.at.section (cursor_place walk.at).offset word) (refusals_from entries labels (next entries walk stmt.kind) more) r in
    let own = statement_counts entries labels walk word stmt.kind s few (loads entries labels walk stmt.kind more word refl small parts.0)
    (refusal_parts labels stmt.kind walk.at.section (cursor_place walk.at).offset word parts.0).0 in
    let later = counts entries labels (next entries walk stmt.kind) more s few parts.1 small in
    omega (arith, own, later, both_count s (walk_pieces entries labels walk word stmt.kind) (pieces_from entries labels (next entries walk stmt.kind) more))

pub not_large : (sizes : Sizes) (s : Section) → is_too_large sizes ≡ false → size_in sizes s ≤ MOST_BYTES
not_large sizes s e = grind (arith, nat_tests)

pub law_of_ends : SectionsEndAfterTheirBytes
law_of_ends entries labels walk stmts s few r h =
    omega (arith, counts entries labels walk stmts s few r (not_large (sizes_with_pool (walk_after entries walk stmts)) Text h), not_large (sizes_with_pool (walk_after entries walk stmts)) s h)

pub walks_on : (entries : List (Option EntryWords)) (walk : Walk) (before more : List Stmt)
    → walk_after entries walk (before ++ more) ≡ walk_after entries (walk_after entries walk before) more
unfolding walk_after
walks_on entries walk [] more = refl
walks_on entries walk (stmt ∷ before) more = walks_on entries (next entries walk stmt.kind) before more

pub none_after : (entries : List (Option EntryWords)) (labels : List NamePlace) (walk : Walk) (before more : List Stmt)
    → refusals_from entries labels walk (before ++ more) ≡ [] → refusals_from entries labels (walk_after entries walk before) more ≡ []
unfolding walk_after place_stmts_from
none_after entries labels walk [] more r = r
none_after entries labels walk (stmt ∷ before) more r = none_after entries labels (next entries walk stmt.kind) before more (none_parts stmt.line _ _ r).1

from_start : (s : Section) (n : ℕ) → size_in start.at.sizes s + n ≡ n
from_start s n = grind arith

pub law_of_places : PlacesCountTheBytesBefore
law_of_places entries labels before more s few r h =
    let on = walks_on entries start before more in
    let rest = law_of_ends entries labels (walk_after entries start before) more s few (none_after entries labels start before more r) (rw on at h) in
    omega (arith, from_start s 0, law_of_ends entries labels start (before ++ more) s few r h, ap (λ walk. size_in (sizes_with_pool walk) s) on, rest)

-- the pieces of the statements before some others
unfoldable pub earlier : List (Option EntryWords) → List NamePlace → Walk → List Stmt → List Stmt → List Piece
earlier entries labels walk [] more = []
earlier entries labels walk (stmt ∷ before) more =
    walk_pieces entries labels walk (word_place walk stmt.kind (coming_pool entries walk (stmt ∷ before ++ more))) stmt.kind
    ++ earlier entries labels (next entries walk stmt.kind) before more

pub split : (entries : List (Option EntryWords)) (labels : List NamePlace) (walk : Walk) (before more : List Stmt)
    → pieces_from entries labels walk (before ++ more) ≡ earlier entries labels walk before more ++ pieces_from entries labels (walk_after entries walk before) more
unfolding walk_after pieces_of place_stmts_from earlier
split entries labels walk [] more = refl
split entries labels walk (stmt ∷ before) more =
    let own = walk_pieces entries labels walk (word_place walk stmt.kind (coming_pool entries walk (stmt ∷ before ++ more))) stmt.kind in
    ap (λ pieces. own ++ pieces) (split entries labels (next entries walk stmt.kind) before more)
    ∙ sym (append_assoc own (earlier entries labels (next entries walk stmt.kind) before more) (pieces_from entries labels (walk_after entries (next entries walk stmt.kind) before) more))

pub law_of_bytes : BytesStandAtTheirPlaces
law_of_bytes entries labels before more s few r h =
    let walk = walk_after entries start before in
    let first = bytes_in s (earlier entries labels start before more) in
    let rest = bytes_in s (pieces_from entries labels walk more) in
    let whole : bytes_in s (pieces_from entries labels start (before ++ more)) ≡ first ++ rest =
    ap (bytes_in s) (split entries labels start before more) ∙ rw flat_map-append in
    let is : size_in walk.at.sizes s ≡ length first = omega (arith, length-append first rest, ap length whole, law_of_places entries labels before more s few r h) in
    rw (whole, is) (drop-append_seam first rest)
