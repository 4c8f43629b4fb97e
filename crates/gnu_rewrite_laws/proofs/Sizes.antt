-- The new tables are whole words.
use Rattle.std.proofs.Common.{◌≡◌, ℕ, ◌+◌, ◌*◌, ◌/◌, ◌%◌, ◌^◌, ◌≤◌, List, [], ◌∷◌, length, fold, Option, Some, None, Result, Ok, Err, refl, ap, ◌∙◌, arith, length-append}
use Rattle.std.specs.List.{range_with_len}
use Rattle.eh_codes.specs.declared.row.Entry.{Entry}
use Rattle.elf_image.specs.Image.{Image}
use Rattle.gnu_descriptors.specs.declared.scopes.GnuDescriptor.{GnuDescriptor}
use Rattle.gnu_descriptors.specs.Codes.{codes_of}
use Rattle.gnu_descriptors.specs.Scopes.{scopes_of}
use Rattle.gnu_lsda.specs.declared.fault.EntryFault.{EntryFault}
use Rattle.gnu_lsda.specs.declared.lsda.HeadFault.{HeadFault}
use Rattle.gnu_lsda.specs.Entries.{Form, generic_of, personality_in}
use Rattle.gnu_lsda.specs.Heads.{Area, area_of}
use Rattle.gnu_lsda.specs.Faults.{fault_with}
use Rattle.eh_codes.specs.declared.words.TheConstants.{COMPACT_TOP, WIDE_PERSONALITY}
use Rattle.eh_bytecode.specs.Codes.{swap_word_bytes}
use Rattle.eh_bytecode.proofs.CodesLaws.{length-turned}
use Rattle.eh_index.specs.Rows.{entry_at, entry_count}
use Rattle.gnu_compact.specs.declared.descriptor.OwnDescriptor.{OwnDescriptor}
use Rattle.gnu_compact.specs.declared.descriptor.OwnKind.{OwnKind}
use Rattle.gnu_compact.specs.declared.descriptor.OwnKind.TheVariants.{Specification, Catch, Cleanup}
use Rattle.gnu_compact.specs.Descriptors.{kind_size, kind_bytes, descriptors_bytes}
use Rattle.gnu_compact.specs.Tables.{further_words, codes_end, codes_bytes, table_bytes}
use Rattle.gnu_index.specs.Lists.{Lists}
use Rattle.gnu_index.specs.Tables.{descriptors_of, no_tables, place_after, with_table, with_area, with_entry_or_fault, with_entry, with_row, rewrite_rows}

kind_whole : (place size offset : ℕ) (kind : OwnKind) → length (kind_bytes place size offset kind) % 4 ≡ 0
kind_whole place size offset Specification = refl
kind_whole place size offset (Catch pad takes) = refl
kind_whole place size offset (Cleanup pad) = refl

list_whole : (place : ℕ) (ds : List OwnDescriptor) → (length (descriptors_bytes place ds) % 4 ≡ 0) × (4 ≤ length (descriptors_bytes place ds))
list_whole place [] = (refl, omega arith)
list_whole place (d ∷ ds) =
    let next = (place + kind_size d.kind) % 2 ^ 32 in
    let more = list_whole next ds in
    let one = kind_whole place d.size d.offset d.kind in
    let both = length-append (kind_bytes place d.size d.offset d.kind) (descriptors_bytes next ds) in
    (omega (arith, more.0, one, both), omega (arith, more.1, both))

turned_whole : (n : ℕ) → n / 4 * 4 % 4 ≡ 0
turned_whole n = omega arith

turned_size : (xs : List ℕ) → length (swap_word_bytes xs) % 4 ≡ 0
turned_size xs = ap (λ (n : ℕ). n % 4) (length-turned xs) ∙ turned_whole (length xs)

pub table_whole : (place : ℕ) (codes : List ℕ) (ds : List OwnDescriptor) → (length (table_bytes place codes ds) % 4 ≡ 0) × (4 ≤ length (table_bytes place codes ds))
table_whole place codes ds =
    let front : length (codes_bytes codes) % 4 ≡ 0 = turned_size ((COMPACT_TOP + WIDE_PERSONALITY) ∷ further_words codes ∷ codes) in
    let more = list_whole ((place + codes_end codes) % 2 ^ 32) ds in
    let both = length-append (codes_bytes codes) (descriptors_bytes ((place + codes_end codes) % 2 ^ 32) ds) in
    (omega (arith, more.0, front, both), omega (arith, more.1, both))

-- ---- all tables

abbrev Whole : Lists → Type 0
Whole t = length t.bytes % 4 ≡ 0

whole_table : (place : ℕ) (t : Lists) (start : ℕ) (codes : List ℕ) (scopes : List GnuDescriptor) → Whole t → Whole (with_table place t start codes scopes)
whole_table place t start codes scopes h =
    omega (arith, h, (table_whole place codes (descriptors_of scopes)).0, length-append t.bytes (table_bytes place codes (descriptors_of scopes)))

whole_area : (place : ℕ) (t : Lists) (f : Form) (r : Result Area HeadFault) → Whole t → Whole (with_area place t f r)
whole_area place t f (Ok a) h = whole_table place t f.start (codes_of f) (scopes_of f a) h
whole_area place t f (Err fault) h = h

whole_judged : (place : ℕ) (t : Lists) (f : Form) (o : Option EntryFault) → Whole t → Whole (with_entry_or_fault place t f o)
whole_judged place t f None h = whole_area place t f (area_of f) h
whole_judged place t f (Some fault) h = h

whole_entry : (image : Image) (personality : Option ℕ) (place : ℕ) (t : Lists) (row : Entry) (o : Option Form) → Whole t → Whole (with_entry image personality place t row o)
whole_entry image personality place t row None h = h
whole_entry image personality place t row (Some f) h = whole_judged place t f (fault_with image personality f) h

whole_rows : (image : Image) (base : ℕ) (t : Lists) (ks : List ℕ) → Whole t → Whole (fold (with_row image base) t ks)
whole_rows image base t [] h = h
whole_rows image base t (k ∷ ks) h =
    whole_rows image base (with_row image base t k) ks (whole_entry image (personality_in image) (place_after base t) t (entry_at image k) (generic_of image k) h)

pub tables_whole : (image : Image) (base : ℕ) → length (rewrite_rows image base).bytes % 4 ≡ 0
unfolding rewrite_rows
tables_whole image base = whole_rows image base no_tables (range_with_len 0 (entry_count image)) refl
