-- The marks of objects are mapping symbols of the image, and its entry is a function of the name.
use Rattle.std.proofs.Common.{◌≡◌, ℕ, ◌-◌, ◌%◌, ◌||◌, ◌&&◌, not, Bool, true, false, cond, List, [], ◌∷◌, ◌++◌, flat_map, map, Option, Result, Ok, Err, refl, sym, ap, ◌∙◌, subst}
use Rattle.std.specs.List.{list_any}
use Rattle.std.specs.Option.{option_map_or}
use Rattle.std.proofs.lemmas.Bool.{true≢false}
use Rattle.eh_word.specs.Names.{same_bytes}
use Rattle.asm_relocatable.specs.declared.place.Section.TheVariants.{Text}
use Rattle.asm_relocatable.specs.declared.object.Mark.{Mark}
use Rattle.asm_relocatable.specs.declared.object.Object.{Object}
use Rattle.elf_write.specs.declared.parts.ImageParts.{ImageParts}
use Rattle.elf_write.specs.declared.parts.OwnSymbol.{OwnSymbol}
use Rattle.eh_link.specs.declared.fault.LinkFault.{LinkFault}
use Rattle.eh_link.specs.declared.fault.LinkFault.TheVariants.{Duplicate, Undefined, NoEntry}
use Rattle.eh_link.specs.declared.names.Meaning.{Meaning}
use Rattle.eh_link.specs.declared.places.Addresses.{Addresses}
use Rattle.eh_link.specs.declared.places.ImageLayout.{ImageLayout}
use Rattle.eh_link.specs.Placed.{PlacedObject}
use Rattle.eh_link.specs.Layout.{address_in, align_to_word, layout_of, firsts, align_all, part_ends, place_objects_from, place_objects}
use Rattle.eh_link.specs.Symbols.{duplicate_of, first_undefined, has_entry, is_entry, first_label, first_in, mark_symbol, mark_symbols, words_between, exported_symbols, symbols_of}
use Rattle.eh_link.specs.Linked.{entry_of, parts_of, link_result}
use Rattle.link_laws.specs.MeaningLaw.{HasMeaning, IsOneOf}
use Rattle.link_laws.specs.LabelLaw.{Has}
use Rattle.link_laws.specs.EntryLaw.{mapping_at, MarksAreMapped, EntriesAreFunctions}
use Rattle.link_laws.proofs.Labels.{begins_at, first_there, has_in, has_left, image_is, made_symbols}
use Rattle.link_laws.proofs.Meanings.{first_or, none_there, second_or, some_symbol}

-- ---- marks

has_map : {A B : Type 0} (f : A → B) (xs : List A) (x : A) → Has xs x → Has (map f xs) (f x)
has_map {A = A} {B = B} f xs x h =
    let P : List A → Type 0 = λ l. Has (map f l) (f x) in
    subst P (sym h.split) (record { before = map f h.before; after = map f h.after; split = both h.before })
  where
    both : (before : List A) → map f (before ++ x ∷ h.after) ≡ map f before ++ f x ∷ map f h.after
    both [] = refl
    both (y ∷ before) = ap (λ l. f y ∷ l) (both before)

marks_there : (layout : ImageLayout) (all : List PlacedObject) (symbol : OwnSymbol) → Has (flat_map mark_symbols all) symbol → Has (symbols_of layout all) symbol
unfolding symbols_of
marks_there layout all symbol h =
    has_left
    (flat_map mark_symbols all ++ words_between (align_to_word layout.text_end) layout.rodata_end ++ words_between (align_to_word layout.rodata_end) layout.extab_end ++ words_between layout.index_start layout.code_end)
    (flat_map exported_symbols all) symbol
    (has_left (flat_map mark_symbols all ++ words_between (align_to_word layout.text_end) layout.rodata_end ++ words_between (align_to_word layout.rodata_end) layout.extab_end) (words_between layout.index_start layout.code_end) symbol
    (has_left (flat_map mark_symbols all ++ words_between (align_to_word layout.text_end) layout.rodata_end) (words_between (align_to_word layout.rodata_end) layout.extab_end) symbol
    (has_left (flat_map mark_symbols all) (words_between (align_to_word layout.text_end) layout.rodata_end) symbol h)))

pub mapped : (at : Addresses) (mark : Mark) → mark_symbol at mark ≡ mapping_at at.text mark
mapped at mark = by mark.code refl
  where
    by : (b : Bool) → mark.code ≡ b → mark_symbol at mark ≡ mapping_at at.text mark
    by true e = rw e refl
    by false e = rw e refl

pub law_of_marks : MarksAreMapped
law_of_marks objects entry image placed one mark e there =
    let own : Has (mark_symbols placed) (mapping_at placed.at.text mark) =
    (let P : OwnSymbol → Type 0 = λ s. Has (mark_symbols placed) s in subst P (mapped placed.at mark) (has_map (mark_symbol placed.at) placed.object.marks mark there)) in
    let all = has_in mark_symbols (place_objects objects) placed (mapping_at placed.at.text mark) (record { before = one.front; after = one.back; split = one.split }) own in
    let P : List OwnSymbol → Type 0 = λ symbols. Has symbols (mapping_at placed.at.text mark) in
    record {
      part = placed.at.text;
      begins = begins_at Text objects placed one;
      there =
          subst P (sym (ap (λ (i : ImageParts). i.symbols) (image_is objects entry image e) ∙ made_symbols objects entry))
          (marks_there (layout_of objects) (place_objects objects) (mapping_at placed.at.text mark) all);
    }

-- ---- the entry

pub has_one : (objects : List Object) (entry : List ℕ) (image : ImageParts) → link_result objects entry ≡ Ok image → has_entry entry objects ≡ true
unfolding link_result
has_one objects entry image e = by _ (has_entry entry objects) (none_there (first_undefined objects objects) Undefined _ image (none_there (duplicate_of objects) Duplicate _ image e).1).1
  where
    by : (later : Result ImageParts LinkFault) (b : Bool) → cond (not b) (Err NoEntry) later ≡ Ok image → b ≡ true
    by later true e = refl
    by later false e = absurd (cc)

some_entry : (name : List ℕ) (at : Addresses) (objects : List Object) → has_entry name objects ≡ true → HasMeaning (first_in (is_entry name) (place_objects_from at objects))
some_entry name at [] e = absurd (true≢false (sym e))
some_entry name at (object ∷ more) e = by (list_any (is_entry name) object.symbols) refl e (some_entry name (part_ends (align_all at) object) more)
  where
    own : Option Meaning
    own = first_label (is_entry name) (record { object = object; at = align_all at })

    rest : Option Meaning
    rest = first_in (is_entry name) (place_objects_from (part_ends (align_all at) object) more)

    by : (b : Bool) → list_any (is_entry name) object.symbols ≡ b → (b || has_entry name more) ≡ true → (has_entry name more ≡ true → HasMeaning (first_in (is_entry name) (place_objects_from (part_ends (align_all at) object) more)))
        → HasMeaning (first_in (is_entry name) (place_objects_from at (object ∷ more)))
    by true t e later = first_or own rest (some_symbol (is_entry name) (align_all at) object.symbols t)
    by false t e later = second_or own rest (later e)

entry_is : (objects : List Object) (entry : List ℕ) → (parts_of objects entry).entry ≡ entry_of entry (place_objects objects)
unfolding parts_of
entry_is objects entry = refl

and_both : (a b : Bool) → (a && b) ≡ true → (a ≡ true) × (b ≡ true)
and_both true b e = (refl, e)
and_both false b e = absurd (true≢false (sym e))

pub law_of_entry : EntriesAreFunctions
law_of_entry objects entry image e =
    let some = some_entry entry (firsts (layout_of objects)) objects (has_one objects entry image e) in
    let first = first_there (is_entry entry) (place_objects objects) some.means some.is in
    let symbol = first.symbol in
    let fits = and_both symbol.function (symbol.global && same_bytes entry symbol.name) first.own.fits in
    let global = and_both symbol.global (same_bytes entry symbol.name) fits.1 in
    let home : IsOneOf objects first.home = record { front = first.at.before; back = first.at.after; split = first.at.split } in
    record {
      home = first.home;
      one = home;
      symbol = symbol;
      there = first.own.there;
      named = global.1;
      global = global.0;
      function = fits.0;
      part = address_in symbol.section first.home.at;
      begins = begins_at symbol.section objects first.home home;
      address =
          ap (λ (i : ImageParts). i.entry) (image_is objects entry image e) ∙ entry_is objects entry
          ∙ ap (λ m. option_map_or (λ (x : Meaning). x.address - x.address % 2) m 0) some.is
          ∙ ap (λ (x : Meaning). x.address - x.address % 2) first.is;
    }
