-- An image whose unwind tables are rewritten is written, and read back as it was meant (docs/rules/gnu-tables.md, "Laws").
use Rattle.std.specs.Prelude.{◌≡◌, ℕ, ◌<◌, ◌==◌, false, List, ◌++◌, map, All, None, IfSome, Ok}
use Rattle.std.specs.List.{list_any}
use Rattle.elf_image.specs.Image.{Image, image_of, is_code_in, symbol_in, type_symbols_of}
use Rattle.thumb_isa.specs.declared.profile.Profile.TheVariants.{Two}
use Rattle.run_images.specs.Profiles.{profile_of}
use Rattle.run_images.specs.declared.profile.TheConstants.{PROFILE_SYMBOL}
use Rattle.eh_index.specs.Rows.{entries_of}
use Rattle.eh_index.specs.Refusal.{index_refusal}
use Rattle.elf_write.specs.Layout.{layout_of, write_result}
use Rattle.elf_write.specs.Parts.{own_segment, image_of_parts}
use Rattle.elf_laws.specs.Good.{AreGood}
use Rattle.gnu_rewrite.specs.Segments.{tables_start, new_bytes, segment_from}
use Rattle.gnu_rewrite.specs.Symbols.{kept_names}
use Rattle.gnu_rewrite.specs.Parts.{new_tables, new_parts}
use Rattle.gnu_rewrite.specs.Refusal.{passes_limits}

-- the image that the rewritten parts stand for
abbrev pub rewritten_image : Image → Image
rewritten_image image = image_of_parts (new_parts image)

-- the file is read as the image, and the rewritten image is within the limits; a file has bytes
pub record IsKept (file : List ℕ) (image : Image) : Type 0 where
  pub bytes : All (λ b. b < 256) file
  pub read : image_of file ≡ Ok image
  pub limits : passes_limits (new_parts image) ≡ false

-- ---- the file

abbrev pub PartsAreGood : Type 0
PartsAreGood = (file : List ℕ) (image : Image) → IsKept file image → AreGood (new_parts image)

-- the rewritten parts are written as they are laid out
abbrev pub PartsAreWritten : Type 0
PartsAreWritten = (file : List ℕ) (image : Image) → IsKept file image → write_result (new_parts image) ≡ Ok (layout_of (new_parts image))

-- and their file is read as their image
abbrev pub FilesAreRead : Type 0
FilesAreRead = (file : List ℕ) (image : Image) → IsKept file image → image_of (layout_of (new_parts image)) ≡ Ok (rewritten_image image)

-- ---- what stays

abbrev pub FunctionsStay : Type 0
FunctionsStay =
    (file : List ℕ) (image : Image) → image_of file ≡ Ok image
    → ((rewritten_image image).entry ≡ image.entry) × ((rewritten_image image).functions ≡ image.functions)

-- the segments of the image, and behind them the new one
abbrev pub SegmentsStay : Type 0
SegmentsStay =
    (file : List ℕ) (image : Image) → image_of file ≡ Ok image
    → (rewritten_image image).segments ≡ image.segments ++ map own_segment (segment_from (tables_start image) (new_bytes image (new_tables image)))

-- each address is code exactly where it was
abbrev pub CodeStays : Type 0
CodeStays = (file : List ℕ) (image : Image) (a : ℕ) → image_of file ≡ Ok image → is_code_in (rewritten_image image) a ≡ is_code_in image a

-- ---- the index

-- the index of the rewritten image is read, and its entries are the new rows
abbrev pub IndexIsRead : Type 0
IndexIsRead =
    (file : List ℕ) (image : Image) → IsKept file image → index_refusal image ≡ None
    → (index_refusal (rewritten_image image) ≡ None) × (entries_of (rewritten_image image) ≡ (new_tables image).rows)

-- ---- symbols

-- the symbols that are found by their names stand where they stood
abbrev pub NamedSymbolsStay : Type 0
NamedSymbolsStay =
    (file : List ℕ) (image : Image) → image_of file ≡ Ok image → All (λ name. symbol_in (rewritten_image image) name ≡ symbol_in image name) kept_names

-- an address is that of a type's symbol exactly where it was
abbrev pub TypesStay : Type 0
TypesStay =
    (file : List ℕ) (image : Image) (a : ℕ) → image_of file ≡ Ok image
    → list_any (λ t. t == a) (type_symbols_of (rewritten_image image).symbols) ≡ list_any (λ t. t == a) (type_symbols_of image.symbols)

-- ---- the profile

-- the profile's symbol, where the image has one, stands below the new segment
abbrev pub IsProfileBelow : Image → Type 0
IsProfileBelow image = IfSome (symbol_in image PROFILE_SYMBOL.now) (λ at. at < tables_start image)

-- then the rewritten image is of the same profile
abbrev pub ProfileStays : Type 0
ProfileStays = (file : List ℕ) (image : Image) → image_of file ≡ Ok image → IsProfileBelow image → profile_of (rewritten_image image) ≡ profile_of image

-- and an image of the second profile stays one in any case
abbrev pub SecondProfileStays : Type 0
SecondProfileStays = (file : List ℕ) (image : Image) → image_of file ≡ Ok image → profile_of image ≡ Two → profile_of (rewritten_image image) ≡ Two
