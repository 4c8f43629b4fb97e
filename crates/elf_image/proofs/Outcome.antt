-- The first refusal that holds, step by step.
use Rattle.std.proofs.Common.{◌≡◌, ℕ, ◌*◌, ◌/◌, ◌≢◌, true, false, ◌||◌, nat_lt, List, [], ◌∷◌, length, Option, Some, None, Result, Ok, Err, IfOk, IfErr, refl, sym, ap, ◌∙◌}
use Rattle.std.specs.List.{sum_by, filter}
use Rattle.elf_image.specs.Format.{first_of, missing, entry_field, program_headers, program_offset, program_count, section_offset, section_count}
use Rattle.elf_image.specs.Header.{header_refusal, table_refusal}
use Rattle.elf_image.specs.Segments.{Segment, is_load, segment_refusal, segments_of}
use Rattle.elf_image.specs.Index.{is_index, index_refusal, index_of}
use Rattle.elf_image.specs.Symbols.{Symbol, symbol_count, symbols_of, tables_refusal}
use Rattle.elf_image.specs.Functions.{functions_of}
use Rattle.elf_image.specs.Image.{Image, image_with, size_refusal, build_refusal, file_loads, file_indexes, file_segments, file_tables, file_table, strings_in, file_symbols, file_functions, refusal_of, image_of}
use Rattle.elf_image.specs.declared.fault.ImageFault.{ImageFault}
use Rattle.elf_image.specs.declared.fault.ImageFault.TheVariants.{TooLarge, OutOfMemory}
use Rattle.elf_image.specs.declared.format.ProgramHeader.{ProgramHeader}
use Rattle.elf_image.specs.declared.limits.TheConstants.{MEMORY_LIMIT, SEGMENT_LIMIT, SYMBOL_LIMIT}

three_none : (o p q : Option ImageFault) → first_of (o ∷ p ∷ q ∷ []) ≡ None → (p ≡ None) × (q ≡ None)
three_none None None None h = (refl, refl)
three_none None None (Some f) h = absurd cc
three_none None (Some f) q h = absurd cc
three_none (Some f) p q h = absurd cc

-- both tables are there
pub headers_there : (bytes : List ℕ) → table_refusal bytes ≡ None → missing bytes (program_offset bytes) (32 * program_count bytes) ≡ None
unfolding table_refusal
headers_there bytes h = (three_none _ _ _ h).0

pub sections_there : (bytes : List ℕ) → table_refusal bytes ≡ None → missing bytes (section_offset bytes) (40 * section_count bytes) ≡ None
unfolding table_refusal
sections_there bytes h = (three_none _ _ _ h).1

module _ (bytes : List ℕ) (fault : ImageFault) where
  pub refused_header : header_refusal bytes ≡ Some fault → image_of bytes ≡ Err fault
  unfolding image_of refusal_of
  refused_header h = rw h refl

  pub refused_table : header_refusal bytes ≡ None → table_refusal bytes ≡ Some fault → image_of bytes ≡ Err fault
  unfolding image_of refusal_of
  refused_table a h = rw (a, h) refl

  pub refused_segments : header_refusal bytes ≡ None → table_refusal bytes ≡ None → segment_refusal bytes (file_loads bytes) ≡ Some fault → image_of bytes ≡ Err fault
  unfolding image_of refusal_of
  refused_segments a b h = rw (a, b, h) refl

  pub refused_index : header_refusal bytes ≡ None → table_refusal bytes ≡ None → segment_refusal bytes (file_loads bytes) ≡ None
      → index_refusal (file_indexes bytes) (file_segments bytes) ≡ Some fault → image_of bytes ≡ Err fault
  unfolding image_of refusal_of
  refused_index a b c h = rw (a, b, c, h) refl

  pub refused_tables : header_refusal bytes ≡ None → table_refusal bytes ≡ None → segment_refusal bytes (file_loads bytes) ≡ None
      → index_refusal (file_indexes bytes) (file_segments bytes) ≡ None → tables_refusal bytes (file_tables bytes) ≡ Some fault → image_of bytes ≡ Err fault
  unfolding image_of refusal_of
  refused_tables a b c d h = rw (a, b, c, d, h) refl

  pub refused_build : header_refusal bytes ≡ None → table_refusal bytes ≡ None → segment_refusal bytes (file_loads bytes) ≡ None
      → index_refusal (file_indexes bytes) (file_segments bytes) ≡ None → tables_refusal bytes (file_tables bytes) ≡ None
      → size_refusal (file_segments bytes) (symbol_count (file_table bytes)) ≡ None → build_refusal (entry_field bytes) (file_functions bytes) ≡ Some fault
      → image_of bytes ≡ Err fault
  unfolding image_of refusal_of
  refused_build a b c d e f h = rw (a, b, c, d, e, f, h) refl

pub refused_size : (bytes : List ℕ) → header_refusal bytes ≡ None → table_refusal bytes ≡ None → segment_refusal bytes (file_loads bytes) ≡ None
    → index_refusal (file_indexes bytes) (file_segments bytes) ≡ None → tables_refusal bytes (file_tables bytes) ≡ None
    → (nat_lt MEMORY_LIMIT (sum_by (λ s. s.size) (file_segments bytes)) || nat_lt SEGMENT_LIMIT (length (file_segments bytes)) || nat_lt SYMBOL_LIMIT (symbol_count (file_table bytes))) ≡ true
    → image_of bytes ≡ Err TooLarge
unfolding image_of refusal_of size_refusal
refused_size bytes a b c d e h = rw (a, b, c, d, e, h) refl

pub accepted : (bytes : List ℕ) → header_refusal bytes ≡ None → table_refusal bytes ≡ None → segment_refusal bytes (file_loads bytes) ≡ None
    → index_refusal (file_indexes bytes) (file_segments bytes) ≡ None → tables_refusal bytes (file_tables bytes) ≡ None
    → size_refusal (file_segments bytes) (symbol_count (file_table bytes)) ≡ None → build_refusal (entry_field bytes) (file_functions bytes) ≡ None
    → image_of bytes ≡ Ok (image_with (entry_field bytes) (file_segments bytes) (index_of (file_indexes bytes) (file_segments bytes)) (file_symbols bytes))
unfolding image_of refusal_of
accepted bytes a b c d e f h = rw (a, b, c, d, e, f, h) refl

-- ---- the same, by what was read so far

-- the headers and segments that were read are those of the file
pub record Known (bytes : List ℕ) (headers : List ProgramHeader) (segments : List Segment) : Type 0 where
  pub header : header_refusal bytes ≡ None
  pub table : table_refusal bytes ≡ None
  pub headers_are : headers ≡ program_headers bytes
  pub accepted : segment_refusal bytes (file_loads bytes) ≡ None
  pub segments_are : segments ≡ file_segments bytes

pub known : (bytes : List ℕ) (headers : List ProgramHeader) (segments : List Segment) → header_refusal bytes ≡ None → table_refusal bytes ≡ None → headers ≡ program_headers bytes
    → segment_refusal bytes (filter is_load headers) ≡ None → segments ≡ segments_of bytes (filter is_load headers) → Known bytes headers segments
known bytes headers segments a b hd c sg = record {
  header = a;
  table = b;
  headers_are = hd;
  accepted = ap (λ (hs : List ProgramHeader). segment_refusal bytes (filter is_load hs)) (sym hd) ∙ c;
  segments_are = sg ∙ ap (λ (hs : List ProgramHeader). segments_of bytes (filter is_load hs)) hd;
}

pub exit_segments : (bytes : List ℕ) (headers : List ProgramHeader) (fault : ImageFault) → header_refusal bytes ≡ None → table_refusal bytes ≡ None → headers ≡ program_headers bytes
    → segment_refusal bytes (filter is_load headers) ≡ Some fault → image_of bytes ≡ Err fault
exit_segments bytes headers fault a b hd h =
    refused_segments bytes fault a b (ap (λ (hs : List ProgramHeader). segment_refusal bytes (filter is_load hs)) (sym hd) ∙ h)

module _ (bytes : List ℕ) (headers : List ProgramHeader) (segments : List Segment) (k : Known bytes headers segments) where
  index_as : index_refusal (file_indexes bytes) (file_segments bytes) ≡ index_refusal (filter is_index headers) segments
  index_as = rw (k.segments_are) (ap (λ (hs : List ProgramHeader). index_refusal (filter is_index hs) (file_segments bytes)) (sym k.headers_are))

  pub exit_index : (fault : ImageFault) → index_refusal (filter is_index headers) segments ≡ Some fault → image_of bytes ≡ Err fault
  exit_index fault h = refused_index bytes fault k.header k.table k.accepted (index_as ∙ h)

  pub exit_tables : (fault : ImageFault) → index_refusal (filter is_index headers) segments ≡ None → tables_refusal bytes (file_tables bytes) ≡ Some fault → image_of bytes ≡ Err fault
  exit_tables fault i h = refused_tables bytes fault k.header k.table k.accepted (index_as ∙ i) h

  pub exit_size : (table : List ℕ) → index_refusal (filter is_index headers) segments ≡ None → tables_refusal bytes (file_tables bytes) ≡ None → table ≡ file_table bytes
      → (nat_lt MEMORY_LIMIT (sum_by (λ s. s.size) segments) || nat_lt SEGMENT_LIMIT (length segments) || nat_lt SYMBOL_LIMIT (length table / 16)) ≡ true → image_of bytes ≡ Err TooLarge
  exit_size table i t table_is h = refused_size bytes k.header k.table k.accepted (index_as ∙ i) t (rw (← k.segments_are, ← table_is) h)

-- ---- the end

-- all that the image is made of was read and not refused
pub record Ready (bytes : List ℕ) (segments : List Segment) (index : ℕ × List ℕ) (symbols : List Symbol) (field : ℕ) : Type 0 where
  pub header : header_refusal bytes ≡ None
  pub table : table_refusal bytes ≡ None
  pub loaded : segment_refusal bytes (file_loads bytes) ≡ None
  pub indexed : index_refusal (file_indexes bytes) (file_segments bytes) ≡ None
  pub tables : tables_refusal bytes (file_tables bytes) ≡ None
  pub sizes : size_refusal (file_segments bytes) (symbol_count (file_table bytes)) ≡ None
  pub segments_are : segments ≡ file_segments bytes
  pub index_is : index ≡ index_of (file_indexes bytes) (file_segments bytes)
  pub symbols_are : symbols ≡ file_symbols bytes
  pub field_is : field ≡ entry_field bytes

no_size : (segments : List Segment) (symbols : ℕ) → (nat_lt MEMORY_LIMIT (sum_by (λ s. s.size) segments) || nat_lt SEGMENT_LIMIT (length segments) || nat_lt SYMBOL_LIMIT symbols) ≡ false
    → size_refusal segments symbols ≡ None
unfolding size_refusal
no_size segments symbols h = rw h refl

pub ready : (bytes : List ℕ) (headers : List ProgramHeader) (segments : List Segment) (index : ℕ × List ℕ) (table strings : List ℕ) (symbols : List Symbol) (field : ℕ)
    → Known bytes headers segments → index_refusal (filter is_index headers) segments ≡ None → index ≡ index_of (filter is_index headers) segments
    → tables_refusal bytes (file_tables bytes) ≡ None → table ≡ file_table bytes → strings ≡ strings_in bytes (file_tables bytes)
    → (nat_lt MEMORY_LIMIT (sum_by (λ s. s.size) segments) || nat_lt SEGMENT_LIMIT (length segments) || nat_lt SYMBOL_LIMIT (length table / 16)) ≡ false
    → symbols ≡ symbols_of table strings → field ≡ entry_field bytes → Ready bytes segments index symbols field
ready bytes headers segments index table strings symbols field k i index_is t table_is strings_are size symbols_are field_is = record {
  header = k.header;
  table = k.table;
  loaded = k.accepted;
  indexed = index_as bytes headers segments k ∙ i;
  tables = t;
  sizes = rw (← k.segments_are, ← table_is) (no_size segments (length table / 16) size);
  segments_are = k.segments_are;
  index_is = index_is ∙ rw k.segments_are (ap (λ (hs : List ProgramHeader). index_of (filter is_index hs) (file_segments bytes)) k.headers_are);
  symbols_are = symbols_are ∙ rw (table_is, strings_are) refl;
  field_is = field_is;
}

module _ (bytes : List ℕ) (segments : List Segment) (index : ℕ × List ℕ) (symbols : List Symbol) (field : ℕ) (k : Ready bytes segments index symbols field) where
  build_as : build_refusal (entry_field bytes) (file_functions bytes) ≡ build_refusal field (functions_of segments symbols)
  build_as = rw (k.field_is, k.segments_are, k.symbols_are) refl

  image_as : image_with (entry_field bytes) (file_segments bytes) (index_of (file_indexes bytes) (file_segments bytes)) (file_symbols bytes) ≡ image_with field segments index symbols
  image_as = rw (k.field_is, k.segments_are, k.index_is, k.symbols_are) refl

  pub finish_image : (r : Result Image ImageFault) → IfOk r (λ image. build_refusal field (functions_of segments symbols) ≡ None) → IfOk r (λ image. image ≡ image_with field segments index symbols)
      → IfOk r (λ image. image_of bytes ≡ Ok image)
  finish_image (Ok image) a is = accepted bytes k.header k.table k.loaded k.indexed k.tables k.sizes (build_as ∙ a) ∙ ap (λ (x : Image). Ok x) (image_as ∙ sym is)
  finish_image (Err fault) a is = tt

  pub finish_refused : (r : Result Image ImageFault) → IfErr r (λ fault. fault ≢ OutOfMemory → build_refusal field (functions_of segments symbols) ≡ Some fault)
      → IfErr r (λ fault. fault ≢ OutOfMemory → image_of bytes ≡ Err fault)
  finish_refused (Ok image) h = tt
  finish_refused (Err fault) h = λ ne. refused_build bytes fault k.header k.table k.loaded k.indexed k.tables k.sizes (build_as ∙ h ne)
