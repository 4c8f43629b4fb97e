-- Labels stand in the parts of their sections.
use Rattle.std.proofs.Common.{◌≡◌, ℕ, ◌+◌, ◌%◌, ◌≤◌, ◌&&◌, ◌||◌, inl, inr, not, Bool, true, false, cond, List, [], ◌∷◌, ◌++◌, flat_map, find, All, Option, Some, None, Result, Ok, refl, sym, ap, ◌∙◌, arith, append_assoc, subst}
use Rattle.std.specs.List.{list_any}
use Rattle.std.specs.Option.{option_or, option_map}
use Rattle.std.proofs.lemmas.Bool.{true≢false}
use Rattle.std.proofs.lemmas.List.Elements.{All-nil, All-cons, All-head, All-tail}
use Rattle.eh_word.specs.Names.{same_bytes}
use Rattle.asm_relocatable.specs.declared.place.Section.{Section}
use Rattle.asm_relocatable.specs.declared.place.Section.TheVariants.{Text, Rodata, Extab, Init, Bss}
use Rattle.asm_relocatable.specs.Names.{is_local}
use Rattle.asm_relocatable.specs.declared.object.Object.{Object}
use Rattle.asm_relocatable.specs.declared.object.ObjSymbol.{ObjSymbol}
use Rattle.elf_write.specs.declared.parts.ImageParts.{ImageParts}
use Rattle.elf_write.specs.declared.parts.OwnSymbol.{OwnSymbol}
use Rattle.eh_link.specs.declared.fault.LinkFault.{LinkFault}
use Rattle.eh_link.specs.declared.fault.LinkFault.TheVariants.{Duplicate, Undefined, NoEntry, TooLarge, RelocationRange}
use Rattle.eh_link.specs.declared.names.Meaning.{Meaning}
use Rattle.eh_link.specs.declared.places.Addresses.{Addresses}
use Rattle.eh_link.specs.declared.places.TheConstants.{CODE_START}
use Rattle.eh_link.specs.declared.places.ImageLayout.{ImageLayout}
use Rattle.eh_link.specs.Placed.{PlacedObject}
use Rattle.eh_link.specs.Layout.{layout_of, is_too_large, address_in, align_to_word, end_of, firsts, align_all, part_ends, place_objects_from, place_objects}
use Rattle.eh_link.specs.Fields.{part_in, fill_object, lowest_unreachable}
use Rattle.eh_link.specs.Symbols.{is_label, is_global, duplicate_of, first_undefined, has_entry, meaning, first_in, mark_symbols, words_between, label_symbols, exported_symbols, symbols_of}
use Rattle.eh_link.specs.Linked.{unless, unless_true, parts_of, link_result}
use Rattle.eh_link.specs.LayoutLaw.{StandsAt, linked_code, linked_data}
use Rattle.eh_link.proofs.Layouts.{ends_of, end_ge, rising}
use Rattle.eh_link.proofs.Standing.{law_of_code, law_of_data, law_of_sizes}
use Rattle.link_laws.specs.MeaningLaw.{IsOneOf}
use Rattle.link_laws.specs.LabelLaw.{HasRoom, PartBegins, Has, symbol_at, LabelsAreSymbols, IsOfLabel, MeaningsAreOfLabels}

-- ---- the zeroed data

abbrev Below : ℕ → PlacedObject → Type 0
Below address placed = placed.at.bss + placed.object.bss ≤ address

record Room (at : Addresses) (objects : List Object) (front : List PlacedObject) (placed : PlacedObject) : Type 0 where
  fourth : placed.at.bss % 4 ≡ 0
  following : at.bss ≤ placed.at.bss
  within : placed.at.bss + placed.object.bss ≤ end_of Bss at.bss objects
  apart : All (Below placed.at.bss) front

room_from : (at : Addresses) (objects : List Object) (front back : List PlacedObject) (placed : PlacedObject) → place_objects_from at objects ≡ front ++ placed ∷ back → Room at objects front placed
room_from at [] [] back placed e = absurd cc
room_from at [] (x ∷ front) back placed e = absurd cc
room_from at (object ∷ more) [] back placed e =
    let same : record { object = object; at = align_all at } ≡ placed = cc in
    let P : PlacedObject → Type 0 = λ p. Room at (object ∷ more) [] p in
    subst P same (record {
      fourth = fourth at.bss;
      following = following at.bss;
      within = end_ge Bss (align_to_word at.bss + object.bss) more;
      apart = All-nil (Below (align_to_word at.bss));
    })
  where
    fourth : (n : ℕ) → align_to_word n % 4 ≡ 0
    fourth n = omega arith

    following : (n : ℕ) → n ≤ align_to_word n
    following n = omega arith
room_from at (object ∷ more) (x ∷ front) back placed e =
    let same : record { object = object; at = align_all at } ≡ x = cc in
    let rest : place_objects_from (part_ends (align_all at) object) more ≡ front ++ placed ∷ back = cc in
    let later = room_from (part_ends (align_all at) object) more front back placed rest in
    let P : PlacedObject → Type 0 = λ p. Below placed.at.bss p in
    let low : align_to_word at.bss + object.bss ≤ placed.at.bss = later.following in
    record {
      fourth = later.fourth;
      following = onward at.bss object.bss placed.at.bss low;
      within = later.within;
      apart = All-cons (Below placed.at.bss) x front (subst P same low) later.apart;
    }
  where
    onward : (n size to : ℕ) → align_to_word n + size ≤ to → n ≤ to
    onward n size to h = omega (arith, h)

has_room : (objects : List Object) (placed : PlacedObject) (one : IsOneOf objects placed) → HasRoom objects placed one placed.at.bss
has_room objects placed one =
    let room = room_from (firsts (layout_of objects)) objects one.front one.back placed one.split in
    let rises = rising objects in
    let sizes = (law_of_sizes objects).1 in
    record {
      is = refl;
      fourth = room.fourth;
      following = omega (arith, room.following, rises.init, rises.bss, sizes);
      within = omega (arith, room.within, (ends_of objects).bss, rises.init, rises.bss);
      apart = room.apart;
    }

pub mid : {A : Type 0} (P : A → Type 0) (front : List A) (x : A) (back : List A) → All P (front ++ x ∷ back) → P x
mid P [] x back h = All-head P x back h
mid P (y ∷ front) x back h = mid P front x back (All-tail P y (front ++ x ∷ back) h)

pub begins_at : (s : Section) (objects : List Object) (placed : PlacedObject) (one : IsOneOf objects placed) → PartBegins s objects placed one (address_in s placed.at)
begins_at Text objects placed one =
    let P : PlacedObject → Type 0 = λ p. StandsAt p.at.text (part_in Text (fill_object (place_objects objects) p)) CODE_START (linked_code objects) in
    mid P one.front placed one.back (subst (All P) one.split (law_of_code objects).0)
begins_at Rodata objects placed one =
    let P : PlacedObject → Type 0 = λ p. StandsAt p.at.rodata (part_in Rodata (fill_object (place_objects objects) p)) CODE_START (linked_code objects) in
    mid P one.front placed one.back (subst (All P) one.split (law_of_code objects).1)
begins_at Extab objects placed one =
    let P : PlacedObject → Type 0 = λ p. StandsAt p.at.extab (part_in Extab (fill_object (place_objects objects) p)) CODE_START (linked_code objects) in
    mid P one.front placed one.back (subst (All P) one.split (law_of_code objects).2)
begins_at Init objects placed one =
    let P : PlacedObject → Type 0 = λ p. StandsAt p.at.init (part_in Init (fill_object (place_objects objects) p)) (layout_of objects).data_start (linked_data objects) in
    mid P one.front placed one.back (subst (All P) one.split (law_of_data objects))
begins_at Bss objects placed one = has_room objects placed one

-- ---- elements of lists

pub has_left : {A : Type 0} (xs ys : List A) (x : A) → Has xs x → Has (xs ++ ys) x
has_left xs ys x h = record {
  before = h.before;
  after = h.after ++ ys;
  split = ap (λ l. l ++ ys) h.split ∙ append_assoc h.before (x ∷ h.after) ys;
}

pub has_right : {A : Type 0} (xs ys : List A) (x : A) → Has ys x → Has (xs ++ ys) x
has_right xs ys x h = record {
  before = xs ++ h.before;
  after = h.after;
  split = ap (λ l. xs ++ l) h.split ∙ sym (append_assoc xs h.before (x ∷ h.after));
}

pub has_each : {A B : Type 0} (f : A → List B) (front : List A) (x : A) (back : List A) (y : B) → Has (f x) y → Has (flat_map f (front ++ x ∷ back)) y
has_each f [] x back y h = has_left (f x) (flat_map f back) y h
has_each f (z ∷ front) x back y h = has_right (f z) (flat_map f (front ++ x ∷ back)) y (has_each f front x back y h)

pub has_in : {A B : Type 0} (f : A → List B) (xs : List A) (x : A) (y : B) → Has xs x → Has (f x) y → Has (flat_map f xs) y
has_in {A = A} f xs x y at h =
    let P : List A → Type 0 = λ l. Has (flat_map f l) y in
    subst P (sym at.split) (has_each f at.before x at.after y h)

-- ---- symbols of the image

none_there : {A : Type 0} (value : Option A) (fault : A → LinkFault) (later : Result ImageParts LinkFault) (image : ImageParts) → unless value fault later ≡ Ok image → later ≡ Ok image
none_there None fault later image e = e
none_there (Some value) fault later image e = absurd cc

not_so : (holds : Bool) (fault : LinkFault) (later : Result ImageParts LinkFault) (image : ImageParts) → unless_true holds fault later ≡ Ok image → later ≡ Ok image
not_so true fault later image e = absurd cc
not_so false fault later image e = e

pub image_is : (objects : List Object) (entry : List ℕ) (image : ImageParts) → link_result objects entry ≡ Ok image → image ≡ parts_of objects entry
unfolding link_result
image_is objects entry image e =
    let known = none_there (first_undefined objects objects) Undefined _ image (none_there (duplicate_of objects) Duplicate _ image e) in
    let laid = not_so (is_too_large (layout_of objects)) TooLarge _ image (not_so (not (has_entry entry objects)) NoEntry _ image known) in
    let made : Ok (parts_of objects entry) ≡ Ok image = none_there (lowest_unreachable (place_objects objects) (place_objects objects)) RelocationRange _ image laid in
    cc

pub made_symbols : (objects : List Object) (entry : List ℕ) → (parts_of objects entry).symbols ≡ symbols_of (layout_of objects) (place_objects objects)
unfolding parts_of
made_symbols objects entry = refl

exported_there : (layout : ImageLayout) (all : List PlacedObject) (symbol : OwnSymbol) → Has (flat_map exported_symbols all) symbol → Has (symbols_of layout all) symbol
unfolding symbols_of
exported_there layout all symbol h =
    has_right
    (flat_map mark_symbols all
    ++ words_between (align_to_word layout.text_end) layout.rodata_end
    ++ words_between (align_to_word layout.rodata_end) layout.extab_end
    ++ words_between layout.index_start layout.code_end)
    (flat_map exported_symbols all) symbol h

own_symbols : (at : Addresses) (symbol : ObjSymbol) → is_local symbol.name ≡ false → Has (label_symbols at symbol) (symbol_at (address_in symbol.section at) symbol)
own_symbols at symbol e =
    let P : Bool → Type 0 = λ b. Has (cond b [] (symbol_at (address_in symbol.section at) symbol ∷ [])) (symbol_at (address_in symbol.section at) symbol) in
    subst P (sym e) (record { before = []; after = []; split = refl })

pub law_of_symbols : LabelsAreSymbols
law_of_symbols objects entry image placed one symbol e there public =
    let part = address_in symbol.section placed.at in
    let own : Has (exported_symbols placed) (symbol_at part symbol) = has_in (label_symbols placed.at) placed.object.symbols symbol (symbol_at part symbol) there (own_symbols placed.at symbol public) in
    let all : Has (flat_map exported_symbols (place_objects objects)) (symbol_at part symbol) =
    has_in exported_symbols (place_objects objects) placed (symbol_at part symbol) (record { before = one.front; after = one.back; split = one.split }) own in
    let P : List OwnSymbol → Type 0 = λ symbols. Has symbols (symbol_at part symbol) in
    record {
      part = part;
      begins = begins_at symbol.section objects placed one;
      there =
          subst P (sym (ap (λ (i : ImageParts). i.symbols) (image_is objects entry image e) ∙ made_symbols objects entry))
          (exported_there (layout_of objects) (place_objects objects) (symbol_at part symbol) all);
    }

-- ---- what names mean

pub record FoundIn {A : Type 0} (p : A → Bool) (xs : List A) (x : A) : Type 0 where
  pub there : Has xs x
  pub fits : p x ≡ true

found_in : {A : Type 0} (p : A → Bool) (xs : List A) (x : A) → find p xs ≡ Some x → FoundIn p xs x
found_in p [] x e = absurd cc
found_in p (y ∷ xs) x e = by (p y) refl e (found_in p xs x)
  where
    by : (b : Bool) → p y ≡ b → cond b (Some y) (find p xs) ≡ Some x → (find p xs ≡ Some x → FoundIn p xs x) → FoundIn p (y ∷ xs) x
    by true t e rest =
        let same : y ≡ x = cc in
        record { there = record { before = []; after = xs; split = ap (λ z. z ∷ xs) same }; fits = ap p (sym same) ∙ t }
    by false t e rest =
        let later = rest e in
        record { there = has_right (y ∷ []) xs x later.there; fits = later.fits }

none_in : {A : Type 0} (p : A → Bool) (xs : List A) → find p xs ≡ None → list_any p xs ≡ false
none_in p [] e = refl
none_in p (y ∷ xs) e = by (p y) e (none_in p xs)
  where
    by : (b : Bool) → cond b (Some y) (find p xs) ≡ None → (find p xs ≡ None → list_any p xs ≡ false) → (b || list_any p xs) ≡ false
    by true e rest = absurd cc
    by false e rest = rest e

-- the first label of some sort in some objects
pub record FirstIn (wanted : ObjSymbol → Bool) (all : List PlacedObject) (means : Meaning) : Type 0 where
  pub home : PlacedObject
  pub at : Has all home
  pub symbol : ObjSymbol
  pub own : FoundIn wanted home.object.symbols symbol
  pub is : means ≡ meaning home.at symbol

pub first_there : (wanted : ObjSymbol → Bool) (all : List PlacedObject) (means : Meaning) → first_in wanted all ≡ Some means → FirstIn wanted all means
first_there wanted [] means e = absurd cc
first_there wanted (placed ∷ more) means e = by (find wanted placed.object.symbols) refl e (first_there wanted more means)
  where
    by : (found : Option ObjSymbol) → find wanted placed.object.symbols ≡ found → option_or (option_map (meaning placed.at) found) (first_in wanted more) ≡ Some means
        → (first_in wanted more ≡ Some means → FirstIn wanted more means) → FirstIn wanted (placed ∷ more) means
    by (Some symbol) f e rest =
        let same : meaning placed.at symbol ≡ means = cc in
        record {
          home = placed;
          at = record { before = []; after = more; split = refl };
          symbol = symbol;
          own = found_in wanted placed.object.symbols symbol f;
          is = sym same;
        }
    by None f e rest =
        let later = rest e in
        record { home = later.home; at = has_right (placed ∷ []) more later.home later.at; symbol = later.symbol; own = later.own; is = later.is }

and_both : (a b : Bool) → (a && b) ≡ true → (a ≡ true) × (b ≡ true)
and_both true b e = (refl, e)
and_both false b e = absurd (true≢false (sym e))

pub law_of_labels : MeaningsAreOfLabels
law_of_labels objects placed name means one e = by (find (is_label name) placed.object.symbols) refl e
  where
    by : (found : Option ObjSymbol) → find (is_label name) placed.object.symbols ≡ found
        → option_or (option_map (meaning placed.at) found) (first_in (is_global name) (place_objects objects)) ≡ Some means → IsOfLabel objects placed name means
    by (Some symbol) f e =
        let same : meaning placed.at symbol ≡ means = cc in
        let own = found_in (is_label name) placed.object.symbols symbol f in
        record {
          home = placed;
          one = one;
          symbol = symbol;
          there = own.there;
          named = own.fits;
          seen = inl refl;
          part = address_in symbol.section placed.at;
          begins = begins_at symbol.section objects placed one;
          address = ap (λ (m : Meaning). m.address) (sym same);
          function = ap (λ (m : Meaning). m.function) (sym same);
        }
    by None f e =
        let first = first_there (is_global name) (place_objects objects) means e in
        let symbol = first.symbol in
        let fits = and_both symbol.global (same_bytes name symbol.name) first.own.fits in
        let home : IsOneOf objects first.home = record { front = first.at.before; back = first.at.after; split = first.at.split } in
        record {
          home = first.home;
          one = home;
          symbol = symbol;
          there = first.own.there;
          named = fits.1;
          seen = inr (fits.0, none_in (is_label name) placed.object.symbols f);
          part = address_in symbol.section first.home.at;
          begins = begins_at symbol.section objects first.home home;
          address = ap (λ (m : Meaning). m.address) first.is;
          function = ap (λ (m : Meaning). m.function) first.is;
        }
