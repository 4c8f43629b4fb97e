-- The readers of tables take what the assembler writes.
use Rattle.std.proofs.Common.{◌≡◌, ℕ, ◌+◌, ◌/◌, ◌%◌, ◌^◌, ◌≤◌, Bool, true, false, cond, List, [], ◌∷◌, Option, Some, None, length, ap, sym, ◌∙◌, refl, arith}
use Rattle.std.specs.Prelude.{◌==◌, ◌&&◌, not, nat_lt, nat_le, MatchOption, ⊤, Ok}
use Rattle.std.proofs.lemmas.Bool.Decides.{nat_tests}
use Rattle.std.proofs.lemmas.Bool.{eqb-true}
use Rattle.eh_codes.specs.declared.words.TheConstants.{COMPACT_MARK, COMPACT_TOP, MOST_PERSONALITY}
use Rattle.eh_codes.specs.Words.{personality_of_word, code_words_after, code_of_words}
use Rattle.asm_unwind.specs.declared.entry.EntryWords.{EntryWords}
use Rattle.asm_unwind.specs.declared.entry.EntryWords.TheVariants.{CantUnwind, Inline, Table}
use Rattle.asm_unwind.specs.Refusals.{directive_state_of}
use Rattle.asm_unwind.specs.Codes.{bytecode_of}
use Rattle.asm_unwind.specs.Entries.{index_of}
use Rattle.asm_unwind.specs.EntryLaw.{HoldsCode, code_of}
use Rattle.asm_unwind.proofs.ByteLaws.{law_of_function_entries}
use Rattle.eh_bytecode.specs.Codes.{is_reserved, inline_codes, codes_of_words}
use Rattle.eh_unwind_laws.specs.ReadLaw.{codes_in, EntriesAreRead}
use Rattle.eh_unwind_laws.proofs.Accepted.{kept_all}

index_low : (given : Option ℕ) (bytes : List ℕ) → MatchOption given ⊤ (λ index. index ≤ MOST_PERSONALITY) → index_of given bytes ≤ MOST_PERSONALITY
index_low None bytes h = elim (nat_le (length bytes) 3) as (λ few. cond few 0 1 ≤ MOST_PERSONALITY) [ true ↦ omega arith | false ↦ omega arith ]
index_low (Some index) bytes h = h

-- a first word whose top byte has the highest bit and a low personality
is_compact : (first index : ℕ) → first / 2 ^ 24 ≡ COMPACT_TOP + index → index ≤ MOST_PERSONALITY → nat_lt first COMPACT_MARK ≡ false
is_compact first index top low = grind (arith, nat_tests)

has_index : (first index : ℕ) → first / 2 ^ 24 ≡ COMPACT_TOP + index → index ≤ MOST_PERSONALITY → personality_of_word first ≡ index
has_index first index top low = let e : first / 2 ^ 24 % 16 ≡ index = omega arith in e

not_reserved : (first index : ℕ) → first / 2 ^ 24 ≡ COMPACT_TOP + index → index ≤ MOST_PERSONALITY → is_reserved first ≡ false
not_reserved first index top low =
    let bits : first / 2 ^ 28 % 2 ^ 3 ≡ 0 = omega arith in
    let high : nat_lt MOST_PERSONALITY index ≡ false = grind (arith, nat_tests) in
    rw (bits, has_index first index top low, high) refl

inline_reads : (word : ℕ) → word / 2 ^ 24 ≡ COMPACT_TOP + 0 → inline_codes word ≡ Ok (code_of_words (word ∷ []))
inline_reads word top =
    let compact : nat_lt word COMPACT_MARK ≡ false = is_compact word 0 top (omega arith) in
    let plain : is_reserved word ≡ false = not_reserved word 0 top (omega arith) in
    let index : personality_of_word word ≡ 0 = has_index word 0 top (omega arith) in
    rw (compact, plain, index) refl

table_reads : (first index : ℕ) (more : List ℕ) → first / 2 ^ 24 ≡ COMPACT_TOP + index → index ≤ MOST_PERSONALITY → code_words_after first ≤ length more → codes_of_words (first ∷ more) ≡ Ok (code_of_words (first ∷ more))
table_reads first index more top low whole =
    let enough : nat_lt (length more) (code_words_after first) ≡ false = grind (arith, nat_tests) in
    rw (is_compact first index top low, not_reserved first index top low, enough) refl

-- an inline entry has personality 0
inline_index : (handler_data none : Bool) → true ≡ (not handler_data && none) → none ≡ true
inline_index true none h = cc
inline_index false none h = sym h

read_by : (entry : EntryWords) (index : ℕ) (handler_data : Bool) (bytes : List ℕ) → index ≤ MOST_PERSONALITY → HoldsCode entry index handler_data bytes → codes_in entry ≡ Ok (code_of entry)
read_by CantUnwind index handler_data bytes low holds = let top : 0 ≡ COMPACT_TOP + index = holds.top in absurd (omega arith)
read_by (Inline word) index handler_data bytes low holds =
    let zeros : index ≡ 0 = eqb-true index 0 (inline_index handler_data (index == 0) holds.place) in
    inline_reads word (holds.top ∙ ap (λ n. COMPACT_TOP + n) zeros)
read_by (Table []) index handler_data bytes low holds = let top : 0 ≡ COMPACT_TOP + index = holds.top in absurd (omega arith)
read_by (Table (first ∷ more)) index handler_data bytes low holds = table_reads first index more holds.top low holds.whole

pub law_of_reading : EntriesAreRead
law_of_reading directives entry fine narrow unwinds is =
    let kept = kept_all directives fine narrow in
    let bytes : List ℕ = bytecode_of directives in
    read_by entry (index_of (directive_state_of directives).personality bytes) (directive_state_of directives).handler_data bytes (index_low (directive_state_of directives).personality bytes kept.small_index)
    (law_of_function_entries directives entry kept.writable kept.small_index unwinds is)
