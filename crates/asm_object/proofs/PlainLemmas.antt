-- Fields that are numbers alone: their bytes, that the linker fills nothing in them, and why they are refused.
use Rattle.std.proofs.Common.{◌≡◌, ◌&&◌, ℕ, ℤ, true, List, [], ◌∷◌, ◌++◌, flat_map, map, Some, None, refl, ap, sym, ◌∙◌, append-nil}
use Rattle.std.specs.List.{list_all}
use Rattle.byteorder.specs.Endian.{little_bytes}
use Rattle.asm_statements.specs.declared.statement.Expr.{Expr}
use Rattle.asm_statements.specs.Exprs.{number_exprs}
use Rattle.thumb_isa.specs.declared.encode_fault.EncodeFault.TheVariants.{ImmediateRange}
use Rattle.asm_relocatable.specs.declared.place.Place.{Place}
use Rattle.asm_relocatable.specs.declared.place.Section.{Section}
use Rattle.asm_layout.specs.declared.given.Width.{Width}
use Rattle.asm_layout.specs.declared.given.Width.TheVariants.{Byte, Half, Word}
use Rattle.asm_layout.specs.Given.{FieldsOf, bytes_of, field_limit}
use Rattle.asm_layout.specs.Labels.{NamePlace}
use Rattle.asm_layout.specs.Sizes.{sum_64}
use Rattle.asm_layout.specs.Words.{low_word, word_of}
use Rattle.asm_object.specs.declared.part.Part.{Part}
use Rattle.asm_object.specs.Built.{part_with}
use Rattle.asm_object.specs.Pieces.{word_relocs, words_bytes, fields_bytes, fields_relocs}
use Rattle.asm_object.specs.Refusals.{fits_field, fault_unless, is_field_known, encode_or, data_refusal}
use Rattle.asm_object.specs.Values.{number, low_or_zero}

words_of_plain : (labels : List NamePlace) (ns : List ℤ) → flat_map (λ n. little_bytes 4 (low_word n)) ns ≡ words_bytes labels (map word_of (number_exprs ns))
words_of_plain labels [] = refl
words_of_plain labels (n ∷ ns) = ap (λ bytes. little_bytes 4 (low_word n) ++ bytes) (words_of_plain labels ns)

numbers_of_plain : (labels : List NamePlace) (size : ℕ) (ns : List ℤ) → flat_map (λ n. little_bytes size (low_word n)) ns ≡ flat_map (λ field. little_bytes size (low_or_zero (number labels field))) (number_exprs ns)
numbers_of_plain labels size [] = refl
numbers_of_plain labels size (n ∷ ns) = ap (λ bytes. little_bytes size (low_word n) ++ bytes) (numbers_of_plain labels size ns)

of_plain : (labels : List NamePlace) (width : Width) (ns : List ℤ) → flat_map (λ n. little_bytes (bytes_of width) (low_word n)) ns ≡ fields_bytes labels width (number_exprs ns)
of_plain labels Byte ns = numbers_of_plain labels 1 ns
of_plain labels Half ns = numbers_of_plain labels 2 ns
of_plain labels Word ns = words_of_plain labels ns

no_words : (section : Section) (offset : ℕ) (ns : List ℤ) → word_relocs section offset (map word_of (number_exprs ns)) ≡ []
unfolding word_relocs
no_words section offset [] = refl
no_words section offset (n ∷ ns) = no_words section (sum_64 offset 4) ns

none_of_plain : (width : Width) (ns : List ℤ) (place : Place) → fields_relocs width (number_exprs ns) place ≡ []
none_of_plain Byte ns place = refl
none_of_plain Half ns place = refl
none_of_plain Word ns place = no_words place.section place.offset ns

-- a section with the bytes of numbers is one with those of their fields
pub part_of_plain : (labels : List NamePlace) (width : Width) (ns : List ℤ) (fields : List Expr) (place : Place) (part : Part) (bytes : List ℕ) → number_exprs ns ≡ fields
    → bytes ≡ part.bytes ++ flat_map (λ n. little_bytes (bytes_of width) (low_word n)) ns
    → ◌≡◌ {A = Part} (record { bytes = bytes; relocs = part.relocs }) (part_with part (fields_bytes labels width fields) (fields_relocs width fields place))
part_of_plain labels width ns fields place part bytes e given =
    let same : bytes ≡ part.bytes ++ fields_bytes labels width fields =
    given ∙ ap (λ b. part.bytes ++ b) (of_plain labels width ns ∙ ap (fields_bytes labels width) e) in
    let none : part.relocs ++ fields_relocs width fields place ≡ part.relocs =
    ap (λ r. part.relocs ++ r) (ap (λ f. fields_relocs width f place) (sym e) ∙ none_of_plain width ns place) ∙ append-nil part.relocs in
    let kept : part.relocs ≡ part.relocs ++ fields_relocs width fields place = sym none in
    (λ j. record { bytes = same j; relocs = kept j })

-- they may be given in each width
all_known : (labels : List NamePlace) (width : Width) (ns : List ℤ) → list_all (λ field. is_field_known labels width field) (number_exprs ns) ≡ true
all_known labels width [] = refl
all_known labels Byte (n ∷ ns) = all_known labels Byte ns
all_known labels Half (n ∷ ns) = all_known labels Half ns
all_known labels Word (n ∷ ns) = all_known labels Word ns

all_fit : (labels : List NamePlace) (most : ℕ) (ns : List ℤ) → list_all (λ n. fits_field most (Some n)) ns ≡ list_all (λ field. fits_field most (number labels field)) (number_exprs ns)
all_fit labels most [] = refl
all_fit labels most (n ∷ ns) = ap (λ b. fits_field most (Some n) && b) (all_fit labels most ns)

pub limited : (labels : List NamePlace) (width : Width) (most : ℕ) (ns : List ℤ) → field_limit width ≡ Some most
    → encode_or (fault_unless (list_all (λ n. fits_field most (Some n)) ns) ImmediateRange) None ≡ data_refusal labels (FieldsOf width (number_exprs ns))
limited labels width most ns e = rw (all_known labels width ns, e, ← all_fit labels most ns) refl

pub unlimited : (labels : List NamePlace) (width : Width) (ns : List ℤ) → field_limit width ≡ None → None ≡ data_refusal labels (FieldsOf width (number_exprs ns))
unlimited labels width ns e = rw (all_known labels width ns, e) refl
