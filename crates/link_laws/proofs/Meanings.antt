-- The names of fields have meanings in objects that link.
use Rattle.std.proofs.Common.{◌≡◌, ℕ, ◌||◌, not, Bool, true, false, cond, List, [], ◌∷◌, ◌++◌, map, find, Option, Some, None, Result, Ok, refl, sym, ap, ◌∙◌, subst}
use Rattle.std.specs.List.{list_any}
use Rattle.std.specs.Option.{option_or, option_map}
use Rattle.std.proofs.lemmas.Bool.{true≢false}
use Rattle.asm_relocatable.specs.declared.object.Object.{Object}
use Rattle.asm_relocatable.specs.declared.object.ObjSymbol.{ObjSymbol}
use Rattle.asm_relocatable.specs.declared.object.Reloc.{Reloc}
use Rattle.elf_write.specs.declared.parts.ImageParts.{ImageParts}
use Rattle.eh_link.specs.declared.fault.LinkFault.{LinkFault}
use Rattle.eh_link.specs.declared.fault.LinkFault.TheVariants.{Duplicate, Undefined}
use Rattle.eh_link.specs.declared.names.Meaning.{Meaning}
use Rattle.eh_link.specs.declared.places.Addresses.{Addresses}
use Rattle.eh_link.specs.Placed.{PlacedObject}
use Rattle.eh_link.specs.Layout.{layout_of, firsts, align_all, part_ends, place_objects_from, place_objects}
use Rattle.eh_link.specs.Symbols.{is_label, is_global, has_label, has_global, duplicate_of, is_defined, field_names, first_undefined, meaning, first_label, first_in, meaning_of}
use Rattle.eh_link.specs.Linked.{unless, link_result}
use Rattle.link_laws.specs.MeaningLaw.{HasMeaning, NamesHaveMeanings}

-- ---- what is past when there is an image

pub none_there : {A : Type 0} (value : Option A) (fault : A → LinkFault) (later : Result ImageParts LinkFault) (image : ImageParts)
    → unless value fault later ≡ Ok image → (value ≡ None) × (later ≡ Ok image)
none_there None fault later image e = (refl, e)
none_there (Some value) fault later image e = absurd cc

all_defined : (objects : List Object) (entry : List ℕ) (image : ImageParts) → link_result objects entry ≡ Ok image → first_undefined objects objects ≡ None
unfolding link_result
all_defined objects entry image e = (none_there (first_undefined objects objects) Undefined _ image (none_there (duplicate_of objects) Duplicate _ image e).1).0

-- ---- a name that is defined

both_none : {A : Type 0} (a b : Option A) → option_or a b ≡ None → (a ≡ None) × (b ≡ None)
both_none None b e = (refl, e)
both_none (Some x) b e = absurd cc

-- an element that is not found does not fit
not_found : {A : Type 0} (p : A → Bool) (front : List A) (x : A) (back : List A) → find p (front ++ x ∷ back) ≡ None → p x ≡ false
not_found p [] x back e = by (p x) refl e
  where
    by : (b : Bool) → p x ≡ b → cond b (Some x) (find p back) ≡ None → p x ≡ false
    by true t e = absurd cc
    by false t e = t
not_found p (y ∷ front) x back e = by (p y) e (not_found p front x back)
  where
    by : (b : Bool) → cond b (Some y) (find p (front ++ x ∷ back)) ≡ None → (find p (front ++ x ∷ back) ≡ None → p x ≡ false) → p x ≡ false
    by true e rest = absurd cc
    by false e rest = rest e

not_not : (b : Bool) → not b ≡ false → b ≡ true
not_not true e = refl
not_not false e = absurd (true≢false e)

names_split : (before after : List Reloc) (reloc : Reloc)
    → map (λ (r : Reloc). r.name) (before ++ reloc ∷ after) ≡ map (λ (r : Reloc). r.name) before ++ reloc.name ∷ map (λ (r : Reloc). r.name) after
names_split [] after reloc = refl
names_split (x ∷ before) after reloc = ap (λ l. x.name ∷ l) (names_split before after reloc)

own_defined : (all : List Object) (object : Object) (before after : List Reloc) (reloc : Reloc) → object.relocs ≡ before ++ reloc ∷ after
    → find (λ name. not (is_defined name object all)) (field_names object) ≡ None → is_defined reloc.name object all ≡ true
own_defined all object before after reloc split e =
    not_not _ (not_found (λ name. not (is_defined name object all)) (map (λ (r : Reloc). r.name) before) reloc.name (map (λ (r : Reloc). r.name) after)
    (ap (find (λ name. not (is_defined name object all))) (sym (ap (map (λ (r : Reloc). r.name)) split ∙ names_split before after reloc)) ∙ e))

-- the objects at their places are the objects
placed_defined : (all : List Object) (at : Addresses) (objects : List Object) (front back : List PlacedObject) (placed : PlacedObject) (before after : List Reloc) (reloc : Reloc)
    → place_objects_from at objects ≡ front ++ placed ∷ back → placed.object.relocs ≡ before ++ reloc ∷ after
    → first_undefined all objects ≡ None → is_defined reloc.name placed.object all ≡ true
placed_defined all at [] [] back placed before after reloc split relocs e = absurd cc
placed_defined all at [] (x ∷ front) back placed before after reloc split relocs e = absurd cc
placed_defined all at (object ∷ more) [] back placed before after reloc split relocs e =
    let same : record { object = object; at = align_all at } ≡ placed = cc in
    let is : object ≡ placed.object = ap (λ (p : PlacedObject). p.object) same in
    let P : Object → Type 0 = λ o. o.relocs ≡ before ++ reloc ∷ after in
    let Q : Object → Type 0 = λ o. is_defined reloc.name o all ≡ true in
    subst Q is (own_defined all object before after reloc (subst P (sym is) relocs)
    (both_none (find (λ name. not (is_defined name object all)) (field_names object)) (first_undefined all more) e).0)
placed_defined all at (object ∷ more) (x ∷ front) back placed before after reloc split relocs e =
    let rest : place_objects_from (part_ends (align_all at) object) more ≡ front ++ placed ∷ back = cc in
    placed_defined all (part_ends (align_all at) object) more front back placed before after reloc rest relocs
    (both_none (find (λ name. not (is_defined name object all)) (field_names object)) (first_undefined all more) e).1

-- ---- its meaning

pub some_symbol : (p : ObjSymbol → Bool) (at : Addresses) (symbols : List ObjSymbol) → list_any p symbols ≡ true → HasMeaning (option_map (meaning at) (find p symbols))
some_symbol p at [] e = absurd (true≢false (sym e))
some_symbol p at (x ∷ more) e = by (p x) e (some_symbol p at more)
  where
    by : (b : Bool) → (b || list_any p more) ≡ true → (list_any p more ≡ true → HasMeaning (option_map (meaning at) (find p more)))
        → HasMeaning (option_map (meaning at) (cond b (Some x) (find p more)))
    by true e rest = record { means = meaning at x; is = refl }
    by false e rest = rest e

pub first_or : (a b : Option Meaning) → HasMeaning a → HasMeaning (option_or a b)
first_or None b h = absurd (none h.means h.is)
  where
    none : (m : Meaning) → None ≡ Some m → ⊥
    none m e = cc
first_or (Some m) b h = record { means = m; is = refl }

pub second_or : (a b : Option Meaning) → HasMeaning b → HasMeaning (option_or a b)
second_or None b h = h
second_or (Some m) b h = record { means = m; is = refl }

some_object : (name : List ℕ) (at : Addresses) (objects : List Object) → list_any (has_global name) objects ≡ true → HasMeaning (first_in (is_global name) (place_objects_from at objects))
some_object name at [] e = absurd (true≢false (sym e))
some_object name at (object ∷ more) e = by (has_global name object) refl e (some_object name (part_ends (align_all at) object) more)
  where
    own : Option Meaning
    own = first_label (is_global name) (record { object = object; at = align_all at })

    rest : Option Meaning
    rest = first_in (is_global name) (place_objects_from (part_ends (align_all at) object) more)

    by : (b : Bool) → has_global name object ≡ b → (b || list_any (has_global name) more) ≡ true
        → (list_any (has_global name) more ≡ true → HasMeaning (first_in (is_global name) (place_objects_from (part_ends (align_all at) object) more)))
        → HasMeaning (option_or (first_label (is_global name) (record { object = object; at = align_all at })) (first_in (is_global name) (place_objects_from (part_ends (align_all at) object) more)))
    by true t e later = first_or own rest (some_symbol (is_global name) (align_all at) object.symbols t)
    by false t e later = second_or own rest (later e)

pub law_of_meanings : NamesHaveMeanings
law_of_meanings objects entry image placed before after reloc e one relocs =
    let defined = placed_defined objects (firsts (layout_of objects)) objects one.front one.back placed before after reloc one.split relocs (all_defined objects entry image e) in
    by (has_label reloc.name placed.object) refl defined
  where
    own : Option Meaning
    own = first_label (is_label reloc.name) placed

    global : Option Meaning
    global = first_in (is_global reloc.name) (place_objects objects)

    by : (b : Bool) → has_label reloc.name placed.object ≡ b → (b || list_any (has_global reloc.name) objects) ≡ true → HasMeaning (meaning_of (place_objects objects) placed reloc.name)
    by true t d = first_or own global (some_symbol (is_label reloc.name) placed.at placed.object.symbols t)
    by false t d = second_or own global (some_object reloc.name (firsts (layout_of objects)) objects d)
