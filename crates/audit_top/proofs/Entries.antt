-- Which entries of an index are refused, as the rewriting lists them and row by row.
use Rattle.std.proofs.Common.{◌≡◌, ℕ, ◌+◌, ◌≤◌, nat_lt, Bool, true, false, cond, List, [], ◌∷◌, ◌++◌, map, fold, Option, Some, None, Result, Ok, Err, refl, sym, ap, ◌∙◌, append_assoc, append-nil, arith}
use Rattle.std.proofs.lemmas.Bool.Decides.{nat_tests}
use Rattle.std.proofs.lemmas.List.{map-append}
use Rattle.std.specs.List.{range_with_len, filter_map, cons_option}
use Rattle.elf_image.specs.Image.{Image}
use Rattle.eh_index.specs.Rows.{entry_at, entry_count}
use Rattle.gnu_lsda.specs.declared.fault.EntryFault.{EntryFault}
use Rattle.gnu_lsda.specs.declared.lsda.HeadFault.{HeadFault}
use Rattle.gnu_lsda.specs.Entries.{Form, generic_of, personality_in}
use Rattle.gnu_lsda.specs.Faults.{fault_with}
use Rattle.gnu_lsda.specs.Heads.{Area, area_of}
use Rattle.gnu_index.specs.Lists.{Lists}
use Rattle.gnu_index.specs.Tables.{rewrite_rows, no_tables, place_after, with_area, with_entry_or_fault, with_entry, with_row}
use Rattle.gnu_index.specs.declared.refusal.GnuFault.{GnuFault}
use Rattle.gnu_index.specs.declared.refusal.GnuFault.TheVariants.{Entry, TooLarge}
use Rattle.gnu_index.specs.declared.refusal.TheConstants.{SITES_LIMIT}
use Rattle.gnu_index.specs.declared.tables.RefusedEntry.{RefusedEntry}
use Rattle.gnu_index.specs.Refusal.{sites_size, sites_total, sites_refusal, entry_in, form_refusal, row_refusal, or_later_fault, first_refusal, rows_refusal}
use Rattle.gnu_index.proofs.Refusing.{few_sites}
use Rattle.gnu_rewrite.specs.Parts.{new_tables}
use Rattle.gnu_rewrite.specs.Refusal.{size_refusal, rewrite_refusal, translation_refusal}
use Rattle.gnu_rewrite.specs.Segments.{tables_start}
use Rattle.audit_top.specs.Laws.{LinesAreOfRefused, NoLineIsTranslated}
use Rattle.audit_top.specs.Tables.{row_fault, rows_of}

-- ---- one row

-- the refused entries as the faults of an index
abbrev faults : Lists → List GnuFault
faults t = map Entry t.refused

-- those so far, and one more where there is one
abbrev and_one : List GnuFault → Option GnuFault → List GnuFault
and_one so_far one = so_far ++ cons_option one []

area_adds : (place : ℕ) (t : Lists) (f : Form) (head : Result Area HeadFault) → faults (with_area place t f head) ≡ and_one (faults t) None
area_adds place t f (Ok a) = sym (append-nil (faults t))
area_adds place t f (Err fault) = sym (append-nil (faults t))

judged_adds : (place : ℕ) (t : Lists) (f : Form) (fault : Option EntryFault) → faults (with_entry_or_fault place t f fault) ≡ and_one (faults t) (entry_in f.start fault)
judged_adds place t f None = area_adds place t f (area_of f)
judged_adds place t f (Some fault) = map-append Entry t.refused (record { start = f.start; fault = fault } ∷ [])

entry_adds : (image : Image) (personality : Option ℕ) (place : ℕ) (t : Lists) (k : ℕ) (o : Option Form) → faults (with_entry image personality place t (entry_at image k) o) ≡ and_one (faults t) (form_refusal image personality o)
entry_adds image personality place t k None = sym (append-nil (faults t))
entry_adds image personality place t k (Some f) = judged_adds place t f (fault_with image personality f)

row_adds : (image : Image) (base : ℕ) (t : Lists) (k : ℕ) → faults (with_row image base t k) ≡ and_one (faults t) (row_fault image k)
row_adds image base t k = entry_adds image (personality_in image) (place_after base t) t k (generic_of image k)

-- ---- all rows

one_then : (so_far : List GnuFault) (one : Option GnuFault) (more : List GnuFault) → and_one so_far one ++ more ≡ so_far ++ cons_option one more
one_then so_far None more = ap (λ (l : List GnuFault). l ++ more) (append-nil so_far)
one_then so_far (Some fault) more = append_assoc so_far (fault ∷ []) more

rows_add : (image : Image) (base : ℕ) (t : Lists) (ks : List ℕ) → faults (fold (with_row image base) t ks) ≡ faults t ++ filter_map (row_fault image) ks
rows_add image base t [] = sym (append-nil (faults t))
rows_add image base t (k ∷ ks) =
    rows_add image base (with_row image base t k) ks
    ∙ ap (λ (l : List GnuFault). l ++ filter_map (row_fault image) ks) (row_adds image base t k)
    ∙ one_then (faults t) (row_fault image k) (filter_map (row_fault image) ks)

pub lines_are_of_refused : LinesAreOfRefused
unfolding rewrite_rows
lines_are_of_refused image = rows_add image (tables_start image) no_tables (rows_of image)

-- ---- the first refusal

cons_none : (o : Option GnuFault) (more : List GnuFault) → cons_option o more ≡ [] → (o ≡ None) × (more ≡ [])
cons_none None more e = (refl, e)
cons_none (Some fault) more e = absurd cc

later_none : (o later : Option GnuFault) → or_later_fault o later ≡ None → (o ≡ None) × (later ≡ None)
later_none None later e = (refl, e)
later_none (Some fault) later e = absurd cc

both_later : (o later : Option GnuFault) → o ≡ None → later ≡ None → or_later_fault o later ≡ None
both_later o later e f = ap (λ (x : Option GnuFault). or_later_fault x later) e ∙ f

unless_none : (b : Bool) (o : Option GnuFault) → cond b (Some TooLarge) o ≡ None → (b ≡ false) × (o ≡ None)
unless_none true o e = absurd cc
unless_none false o e = (refl, e)

few_none : (b : Bool) (o : Option GnuFault) → b ≡ false → o ≡ None → cond b (Some TooLarge) o ≡ None
few_none b o e f = ap (λ (c : Bool). cond c (Some TooLarge) o) e ∙ f

first_none : (image : Image) (before : ℕ) (ks : List ℕ) → first_refusal image before ks ≡ None → filter_map (row_fault image) ks ≡ []
first_none image before [] e = refl
first_none image before (k ∷ ks) e =
    let two = later_none (row_refusal image before k) (first_refusal image (before + sites_size image k) ks) e in
    let here : row_fault image k ≡ None = (unless_none (nat_lt SITES_LIMIT (before + sites_size image k)) (row_fault image k) two.0).1 in
    ap (λ (o : Option GnuFault). cons_option o (filter_map (row_fault image) ks)) here ∙ first_none image (before + sites_size image k) ks two.1

sum_grows : (image : Image) (before : ℕ) (ks : List ℕ) → before ≤ fold (λ n k. n + sites_size image k) before ks
sum_grows image before [] = omega arith
sum_grows image before (k ∷ ks) = let more = sum_grows image (before + sites_size image k) ks in omega (arith, more)

isnt_past : (a b : ℕ) → b ≤ a → nat_lt a b ≡ false
isnt_past a b h = grind (arith, nat_tests)

isnt_past_is : (a b : ℕ) → nat_lt a b ≡ false → b ≤ a
isnt_past_is a b h = grind (arith, nat_tests)

none_first : (image : Image) (before : ℕ) (ks : List ℕ) → fold (λ n k. n + sites_size image k) before ks ≤ SITES_LIMIT → filter_map (row_fault image) ks ≡ [] → first_refusal image before ks ≡ None
none_first image before [] few e = refl
none_first image before (k ∷ ks) few e =
    let two = cons_none (row_fault image k) (filter_map (row_fault image) ks) e in
    let grown = sum_grows image (before + sites_size image k) ks in
    let low : before + sites_size image k ≤ SITES_LIMIT = omega (arith, grown, few) in
    both_later (row_refusal image before k) (first_refusal image (before + sites_size image k) ks)
    (few_none (nat_lt SITES_LIMIT (before + sites_size image k)) (row_fault image k) (isnt_past SITES_LIMIT (before + sites_size image k) low) two.0)
    (none_first image (before + sites_size image k) ks few two.1)

-- ---- of an image

few_are : (image : Image) → sites_refusal image ≡ None → sites_total image ≤ SITES_LIMIT
few_are image e = isnt_past_is SITES_LIMIT (sites_total image) (unless_none (nat_lt SITES_LIMIT (sites_total image)) None e).0

are_few : (image : Image) → sites_total image ≤ SITES_LIMIT → sites_refusal image ≡ None
are_few image h = few_none (nat_lt SITES_LIMIT (sites_total image)) None (isnt_past SITES_LIMIT (sites_total image) h) refl

no_faults : (refused : List RefusedEntry) → map Entry refused ≡ [] → refused ≡ []
no_faults [] e = refl
no_faults (r ∷ refused) e = absurd cc

rows_none : (image : Image) → sites_total image ≤ SITES_LIMIT → filter_map (row_fault image) (rows_of image) ≡ [] → rows_refusal image ≡ None
unfolding rows_refusal sites_total
rows_none image few e = none_first image 0 (range_with_len 0 (entry_count image)) few e

none_rows : (image : Image) → rows_refusal image ≡ None → filter_map (row_fault image) (rows_of image) ≡ []
unfolding rows_refusal
none_rows image e = first_none image 0 (range_with_len 0 (entry_count image)) e

pub no_line_is_translated : NoLineIsTranslated
no_line_is_translated image e = (forth, back)
  where
    two : (sites_refusal image ≡ None) × (size_refusal image ≡ None)
    two = later_none (sites_refusal image) (size_refusal image) e

    forth : (new_tables image).refused ≡ [] → translation_refusal image ≡ None
    forth none =
        both_later (rows_refusal image) (size_refusal image)
        (rows_none image (few_are image two.0) (sym (lines_are_of_refused image) ∙ ap (map Entry) none)) two.1

    back : translation_refusal image ≡ None → (new_tables image).refused ≡ []
    back none =
        no_faults (new_tables image).refused (lines_are_of_refused image ∙ none_rows image (later_none (rows_refusal image) (size_refusal image) none).0)

-- what is translated is rewritten
pub translated_is_rewritten : (image : Image) → translation_refusal image ≡ None → rewrite_refusal image ≡ None
translated_is_rewritten image e =
    let two = later_none (rows_refusal image) (size_refusal image) e in
    both_later (sites_refusal image) (size_refusal image) (are_few image (few_sites image two.0)) two.1
