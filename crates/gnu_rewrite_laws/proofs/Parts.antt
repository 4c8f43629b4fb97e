-- What the image of the rewritten parts has.
use Rattle.std.proofs.Common.{◌≡◌, ℕ, ◌+◌, ◌-◌, ◌*◌, ◌/◌, ◌%◌, ◌<◌, ◌≤◌, Bool, true, false, cond, nat_eq, List, [], ◌∷◌, ◌++◌, length, map, Option, Some, None, refl, sym, ap, ◌∙◌, arith}
use Rattle.std.specs.List.{flat_map}
use Rattle.std.proofs.lemmas.Bool.Decides.{nat_tests}
use Rattle.std.proofs.lemmas.List.{map-append}
use Rattle.std.proofs.lemmas.List.Concat.{flat_map-cons}
use Rattle.elf_image.specs.Segments.{Segment, RiseFrom}
use Rattle.elf_image.specs.Symbols.{Symbol}
use Rattle.elf_image.specs.Functions.{functions_of}
use Rattle.elf_image.specs.Marks.{marks_of as marks_by}
use Rattle.elf_image.specs.Image.{Image, IsSound, is_code_in, symbol_in, type_symbols_of, named_addresses}
use Rattle.elf_write.specs.Parts.{own_segment, null_symbol, segments_of_parts, symbols_of_parts, image_of_parts}
use Rattle.elf_write.specs.declared.parts.OwnSymbol.{OwnSymbol}
use Rattle.gnu_index.specs.Lists.{Lists}
use Rattle.gnu_rewrite.specs.Segments.{greatest_end, tables_start, new_bytes, read_only, segment_from, segments_of}
use Rattle.gnu_rewrite.specs.Symbols.{kept_names, object_at, symbol_of_name, type_name, type_symbol, function_symbol, mark_symbol, symbols_of}
use Rattle.gnu_rewrite.specs.Marks.{marks_of}
use Rattle.gnu_rewrite.specs.Parts.{parts_with}
use Rattle.gnu_rewrite_laws.proofs.Placing.{KeysFrom}
use Rattle.gnu_rewrite_laws.proofs.Standing.{Stacked, segments_are, ends_by, stacked, same_segments}
use Rattle.gnu_rewrite_laws.proofs.Table.{Name, named_own, all_own, rows, table_is}
use Rattle.gnu_rewrite_laws.proofs.Functions.{functions_are}
use Rattle.gnu_rewrite_laws.proofs.Marks.{marks_all, keys_all, marks_are}

-- ---- the symbols

abbrev pub name_at : List ℕ → Option ℕ → List Name
name_at name None = []
name_at name (Some address) = (name, address) ∷ []

abbrev pub names_in : Image → List (List ℕ) → List Name
names_in image names = flat_map (λ name. name_at name (symbol_in image name)) names

abbrev pub names_of : Image → List Name
names_of image = names_in image kept_names

abbrev pub types_of : List ℕ → List Name
types_of addresses = map (λ a. (type_name a, a)) addresses

one_name : (name : List ℕ) (o : Option ℕ) → object_at name o ≡ map named_own (name_at name o)
one_name name None = refl
one_name name (Some address) = refl

names_are : (image : Image) (names : List (List ℕ)) → flat_map (symbol_of_name image) names ≡ map named_own (names_in image names)
names_are image [] = refl
names_are image (name ∷ names) =
    flat_map-cons (symbol_of_name image) name names
    ∙ ap (λ (l : List OwnSymbol). l ++ flat_map (symbol_of_name image) names) (one_name name (symbol_in image name))
    ∙ ap (λ (l : List OwnSymbol). map named_own (name_at name (symbol_in image name)) ++ l) (names_are image names)
    ∙ sym (map-append named_own (name_at name (symbol_in image name)) (names_in image names))
    ∙ ap (map named_own) (sym (flat_map-cons (λ name. name_at name (symbol_in image name)) name names))

types_are : (addresses : List ℕ) → map type_symbol addresses ≡ map named_own (types_of addresses)
types_are [] = refl
types_are (a ∷ addresses) = ap (λ (l : List OwnSymbol). type_symbol a ∷ l) (types_are addresses)

pub marks_split : (image : Image) → marks_of image ≡ marks_all (is_code_in image) image.segments
unfolding marks_of
marks_split image = refl

abbrev pub types_in : Image → List Name
types_in image = types_of (type_symbols_of image.symbols)

pub symbols_are : (image : Image) → symbols_of image ≡ all_own (names_of image) image.functions (types_in image) (marks_of image)
unfolding symbols_of
symbols_are image =
    ap (λ (l : List OwnSymbol). l ++ map function_symbol image.functions ++ map type_symbol (type_symbols_of image.symbols) ++ map mark_symbol (marks_of image)) (names_are image kept_names)
    ∙ ap (λ (l : List OwnSymbol). map named_own (names_of image) ++ map function_symbol image.functions ++ l ++ map mark_symbol (marks_of image)) (types_are (type_symbols_of image.symbols))

-- ---- the parts

pub parts_segments : (image : Image) (t : Lists) → (parts_with image t).segments ≡ segments_of image t
unfolding parts_with
parts_segments image t = refl

pub parts_symbols : (image : Image) (t : Lists) → (parts_with image t).symbols ≡ symbols_of image
unfolding parts_with
parts_symbols image t = refl

pub parts_entry : (image : Image) (t : Lists) → (parts_with image t).entry ≡ image.entry
unfolding parts_with
parts_entry image t = refl

some_number : (n : ℕ) → nat_eq n 0 ≡ false → 0 < n
some_number n h = grind (arith, nat_tests)

new_stacked : (start : ℕ) (bytes : List ℕ) → Stacked start (segment_from start bytes)
new_stacked start bytes = by (nat_eq (length bytes) 0) refl
  where
    by : (b : Bool) → nat_eq (length bytes) 0 ≡ b → Stacked start (cond b [] (read_only start bytes ∷ []))
    by true e = tt
    by false e = (omega arith, some_number (length bytes) e, omega arith, tt)

pub multiple_above : (n : ℕ) → n ≤ (n + (4096 - 1)) / 4096 * 4096
multiple_above n = omega arith

pub all_stacked : (image : Image) (t : Lists) → RiseFrom 0 image.segments → Stacked 0 (parts_with image t).segments
unfolding parts_with
all_stacked image t rise =
    stacked 0 (tables_start image) image.segments (segment_from (tables_start image) (new_bytes image t)) (omega arith) rise
    (ends_by 0 (tables_start image) image.segments (multiple_above (greatest_end image.segments))).1 (new_stacked (tables_start image) (new_bytes image t))

-- ---- the image

-- the new segment as an image has it
abbrev pub new_segments : Image → Lists → List Segment
new_segments image t = map own_segment (segment_from (tables_start image) (new_bytes image t))

pub read_segments : (image : Image) (t : Lists) → RiseFrom 0 image.segments → segments_of_parts (parts_with image t).segments ≡ image.segments ++ new_segments image t
unfolding parts_with
read_segments image t rise =
    segments_are (parts_with image t).segments (all_stacked image t rise) ∙ same_segments image.segments (segment_from (tables_start image) (new_bytes image t))

pub read_symbols : (image : Image) (t : Lists)
    → symbols_of_parts (parts_with image t) ≡ null_symbol ∷ rows (parts_with image t).segments (names_of image) image.functions (types_in image) (marks_of image)
read_symbols image t =
    ap (λ (l : List Symbol). null_symbol ∷ l)
    (table_is (parts_with image t) (names_of image) image.functions (types_in image) (marks_of image) (parts_symbols image t ∙ symbols_are image))

pub read_functions : (image : Image) (t : Lists) → IsSound image
    → functions_of (segments_of_parts (parts_with image t).segments) (symbols_of_parts (parts_with image t)) ≡ image.functions
read_functions image t sound =
    ap (λ (l : List Segment). functions_of l (symbols_of_parts (parts_with image t))) (read_segments image t sound.rise)
    ∙ ap (functions_of (image.segments ++ new_segments image t)) (read_symbols image t)
    ∙ functions_are (parts_with image t).segments image.segments (new_segments image t) (names_of image) (types_in image) image.functions (marks_of image) sound.functions sound.within

pub read_marks : (image : Image) (t : Lists) → RiseFrom 0 image.segments → marks_by (symbols_of_parts (parts_with image t)) ≡ marks_of image
read_marks image t rise =
    ap marks_by (read_symbols image t)
    ∙ marks_are (parts_with image t).segments (names_of image) (types_in image) image.functions (marks_of image) (keys rise)
  where
    keys : RiseFrom 0 image.segments → KeysFrom (λ (m : ℕ × Bool). m.0) 0 (marks_of image)
    keys rise = rw (marks_split image) (keys_all (is_code_in image) 0 image.segments rise)

-- what the image of the parts has
pub record Has (image : Image) (t : Lists) (made : Image) : Type 0 where
  pub entry : made.entry ≡ image.entry
  pub segments : made.segments ≡ image.segments ++ new_segments image t
  pub functions : made.functions ≡ image.functions
  pub marks : made.marks ≡ marks_of image
  pub symbols : made.symbols ≡ named_addresses (image.segments ++ new_segments image t)
      (null_symbol ∷ rows (parts_with image t).segments (names_of image) image.functions (types_in image) (marks_of image))

pub even_entry : (n : ℕ) → n % 2 ≡ 0 → n - n % 2 ≡ n
even_entry n h = omega (arith, h)

pub has : (image : Image) (t : Lists) → IsSound image → Has image t (image_of_parts (parts_with image t))
unfolding image_of_parts
has image t sound = record {
  entry = ap (λ (n : ℕ). n - n % 2) (parts_entry image t) ∙ even_entry image.entry sound.entry_even;
  segments = read_segments image t sound.rise;
  functions = read_functions image t sound;
  marks = read_marks image t sound.rise;
  symbols = ap (λ (l : List Segment). named_addresses l (symbols_of_parts (parts_with image t))) (read_segments image t sound.rise)
      ∙ ap (named_addresses (image.segments ++ new_segments image t)) (read_symbols image t);
}
