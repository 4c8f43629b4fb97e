-- What an image has, in the words of the standard ("ELF for the Arm Architecture"; docs/rules/elf.md). These laws are proved
-- of the definitions by which images are read.
use Rattle.std.specs.Prelude.{◌||◌, ◌/◌, ◌%◌, nat_eq, nat_lt, codes, [], length, ◌≡◌, ◌≢◌, ◌⊎◌, ℕ, ◌+◌, ◌<◌, ◌≤◌, ◌==◌, not, ◌&&◌, Bool, true, List, ◌∷◌, ◌++◌, map, find, All, Some, Ok}
use Rattle.std.specs.List.{list_any, starts_with}
use Rattle.std.specs.List.Sorted.{IsPermutation}
use Rattle.eh_word.specs.Names.{same_bytes}
use Rattle.elf_image.specs.Segments.{Segment, holds, segment_end, segment_of}
use Rattle.elf_image.specs.Symbols.{Symbol}
use Rattle.elf_image.specs.declared.symbol.TheConstants.{STT_FUNC, SHN_UNDEF}
use Rattle.elf_image.specs.Functions.{Function, segment_at}
use Rattle.elf_image.specs.Marks.{is_code_by_marks}
use Rattle.elf_image.specs.Image.{Image, IsSound, image_of, file_loads, file_symbols}

-- ---- functions

-- a read-only executable segment contains the address
abbrev pub is_in_code : List Segment → ℕ → Bool
is_in_code segments a = list_any (λ g. holds a g && (g.exec && not g.write)) segments

-- the symbol says that a function begins at the address: it is defined (its section isn't SHN_UNDEF), of type STT_FUNC,
-- and its value is the even address with bit 0 set, as in Thumb code
abbrev pub is_function_at : List Segment → ℕ → Symbol → Bool
is_function_at segments a s = (s.info % 16 == STT_FUNC) && not (s.section == SHN_UNDEF) && (s.value == a + 1) && (a % 2 == 0) && is_in_code segments a

-- the function's end is the least of three: its start plus its size (for a size of 0 the segment's end), the next function's start,
-- and the segment's end
pub record EndsFirst (segments : List Segment) (symbols : List Symbol) (f : Function) (size : ℕ) (segment : Segment) : Type 0 where
  pub by_segment : f.end ≤ segment_end segment
  pub by_size : size ≢ 0 → f.end ≤ f.start + size
  pub by_next : (b : ℕ) → f.start < b → list_any (is_function_at segments b) symbols ≡ true → f.end ≤ b
  pub least : (f.end ≡ segment_end segment) ⊎ (((size ≢ 0) × (f.end ≡ f.start + size)) ⊎ (list_any (is_function_at segments f.end) symbols ≡ true))

-- the function is that of the first symbol for its start
pub record IsFunctionOf (segments : List Segment) (symbols : List Symbol) (f : Function) : Type 0 where
  pub symbol : Symbol
  pub first : find (is_function_at segments f.start) symbols ≡ Some symbol
  pub name : f.name ≡ symbol.name
  pub segment : Segment
  pub holder : segment_at segments f.start ≡ Some segment
  pub ends : EndsFirst segments symbols f symbol.size segment

-- a function begins at an address exactly if some symbol says so
pub record AreFunctionsOf (segments : List Segment) (symbols : List Symbol) (functions : List Function) : Type 0 where
  pub starts : (a : ℕ) → list_any (λ f. f.start == a) functions ≡ list_any (is_function_at segments a) symbols
  pub each : All (IsFunctionOf segments symbols) functions

-- ---- mapping symbols

abbrev pub mapping_names : List (List ℕ)
mapping_names = codes "$t" ∷ codes "$d" ∷ codes "$a" ∷ []

-- one of these names, or one with a dot and more after it
abbrev pub is_mapping_name : List ℕ → Bool
is_mapping_name name = list_any (λ m. same_bytes name m || (starts_with nat_eq name (m ++ codes ".") && nat_lt (length m + 1) (length name))) mapping_names

-- a local symbol (binding STB_LOCAL) of no type (STT_NOTYPE) of such a name
abbrev pub is_mapping : Symbol → Bool
is_mapping s = (s.info / 16 == 0) && (s.info % 16 == 0) && is_mapping_name s.name

-- Thumb code begins at it
abbrev pub says_code : Symbol → Bool
says_code s = starts_with nat_eq s.name (codes "$t")

-- this mapping symbol has the greatest address at or below the given one and, of those with that address, is the last
-- in the table
pub record Decides (symbols : List Symbol) (a : ℕ) (m : Symbol) : Type 0 where
  pub before : List Symbol
  pub after : List Symbol
  pub place : symbols ≡ before ++ m ∷ after
  pub mapping : is_mapping m ≡ true
  pub below : m.value ≤ a
  pub greatest : All (λ s. is_mapping s ≡ true → s.value ≤ a → s.value ≤ m.value) before
  pub last : All (λ s. is_mapping s ≡ true → s.value ≤ a → s.value < m.value) after

-- an address is marked as that symbol says; if no mapping symbol is at or below it, as code
abbrev pub IsMarkedBy : List Symbol → ℕ → Bool → Type 0
IsMarkedBy symbols a code =
    ((m : Symbol) × Decides symbols a m × (code ≡ says_code m)) ⊎ (All (λ s. is_mapping s ≡ true → a < s.value) symbols × (code ≡ true))

-- ---- the laws

-- each program header to load that has memory is one segment
abbrev pub SegmentsAreLoads : Type 0
SegmentsAreLoads = (bytes : List ℕ) (image : Image) → image_of bytes ≡ Ok image → IsPermutation (map (segment_of bytes) (file_loads bytes)) image.segments

abbrev pub FunctionsAreSymbols : Type 0
FunctionsAreSymbols = (bytes : List ℕ) (image : Image) → image_of bytes ≡ Ok image → AreFunctionsOf image.segments (file_symbols bytes) image.functions

abbrev pub MarksDecide : Type 0
MarksDecide = (bytes : List ℕ) (image : Image) → image_of bytes ≡ Ok image → (a : ℕ) → IsMarkedBy (file_symbols bytes) a (is_code_by_marks image.marks a)

-- what holds of every image
abbrev pub ImagesAreSound : Type 0
ImagesAreSound = (bytes : List ℕ) (image : Image) → image_of bytes ≡ Ok image → IsSound image
