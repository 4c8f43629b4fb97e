-- The symbols of an image are its labels, the marks of its objects, and `$d` where data begins.
use Rattle.std.proofs.Common.{◌≡◌, ℕ, ◌+◌, ◌<◌, ◌≤◌, ◌⊎◌, inl, inr, ◌==◌, Bool, true, false, cond, List, [], ◌∷◌, ◌++◌, flat_map, map, length, Ok, refl, sym, ap, ◌∙◌, arith, subst}
use Rattle.std.proofs.lemmas.Bool.{true≢false}
use Rattle.std.proofs.lemmas.Bool.Decides.{nat_tests}
use Rattle.asm_relocatable.specs.declared.place.Section.{Section}
use Rattle.asm_relocatable.specs.declared.place.Section.TheVariants.{Text, Rodata, Extab, Init, Bss}
use Rattle.asm_relocatable.specs.Names.{is_local}
use Rattle.asm_relocatable.specs.declared.object.Object.{Object}
use Rattle.asm_relocatable.specs.declared.object.ObjSymbol.{ObjSymbol}
use Rattle.elf_write.specs.declared.parts.ImageParts.{ImageParts}
use Rattle.elf_write.specs.declared.parts.OwnSymbol.{OwnSymbol}
use Rattle.eh_link.specs.declared.places.Addresses.{Addresses}
use Rattle.eh_link.specs.declared.places.ImageLayout.{ImageLayout}
use Rattle.eh_link.specs.Placed.{PlacedObject}
use Rattle.eh_link.specs.Layout.{size_in, address_in, align_to_word, end_of, layout_of, firsts, align_all, part_ends, place_objects_from, place_objects}
use Rattle.eh_link.specs.Symbols.{mark_symbol, mark_symbols, words_between, label_symbols, exported_symbols, symbols_of}
use Rattle.eh_link.specs.Linked.{parts_of, link_result}
use Rattle.eh_link.proofs.Layouts.{ends_of, end_ge}
use Rattle.link_laws.specs.MeaningLaw.{IsOneOf}
use Rattle.link_laws.specs.LabelLaw.{Has, symbol_at}
use Rattle.link_laws.specs.SymbolsLaw.{data_at, BeginsData, DataIsMarked, IndexesAreMarked, ShowsLabel, ShowsMark, NoOtherSymbols}
use Rattle.link_laws.proofs.Labels.{begins_at, has_left, has_right, image_is, made_symbols}
use Rattle.link_laws.proofs.Entries.{has_one, mapped}

-- ---- elements of lists

nothing_in : {A : Type 0} (before after : List A) (x : A) → [] ≡ before ++ x ∷ after → ⊥
nothing_in [] after x e = cc
nothing_in (y ∷ before) after x e = cc

only_one : {A : Type 0} (own x : A) (before after : List A) → own ∷ [] ≡ before ++ x ∷ after → x ≡ own
only_one own x [] after e = let same : own ≡ x = cc in sym same
only_one own x (y ∷ before) after e = let rest : [] ≡ before ++ x ∷ after = cc in absurd (nothing_in before after x rest)

in_more : {A : Type 0} (z : A) (xs ys : List A) (x : A) → Has xs x ⊎ Has ys x → Has (z ∷ xs) x ⊎ Has ys x
in_more z xs ys x (inl h) = inl (has_right (z ∷ []) xs x h)
in_more z xs ys x (inr h) = inr h

either_side : {A : Type 0} (xs ys before after : List A) (x : A) → xs ++ ys ≡ before ++ x ∷ after → Has xs x ⊎ Has ys x
either_side [] ys before after x e = inr (record { before = before; after = after; split = e })
either_side (z ∷ xs) ys [] after x e =
    let same : z ≡ x = cc in
    inl (record { before = []; after = xs; split = ap (λ w. w ∷ xs) same })
either_side (z ∷ xs) ys (w ∷ before) after x e =
    let rest : xs ++ ys ≡ before ++ x ∷ after = cc in
    in_more z xs ys x (either_side xs ys before after x rest)

has_either : {A : Type 0} (xs ys : List A) (x : A) → Has (xs ++ ys) x → Has xs x ⊎ Has ys x
has_either xs ys x h = either_side xs ys h.before h.after x h.split

-- what an element of joined lists comes from
record Joins {A B : Type 0} (f : A → List B) (xs : List A) (y : B) : Type 0 where
  from : A
  at : Has xs from
  own : Has (f from) y

joins : {A B : Type 0} (f : A → List B) (xs : List A) (y : B) → Has (flat_map f xs) y → Joins f xs y
joins f [] y h = absurd (nothing_in h.before h.after y h.split)
joins f (x ∷ xs) y h = by (has_either (f x) (flat_map f xs) y h) (joins f xs y)
  where
    by : Has (f x) y ⊎ Has (flat_map f xs) y → (Has (flat_map f xs) y → Joins f xs y) → Joins f (x ∷ xs) y
    by (inl own) more = record { from = x; at = record { before = []; after = xs; split = refl }; own = own }
    by (inr rest) more =
        let later = more rest in
        record { from = later.from; at = has_right (x ∷ []) xs later.from later.at; own = later.own }

record Maps {A B : Type 0} (f : A → B) (xs : List A) (y : B) : Type 0 where
  from : A
  at : Has xs from
  is : y ≡ f from

maps : {A B : Type 0} (f : A → B) (xs : List A) (before after : List B) (y : B) → map f xs ≡ before ++ y ∷ after → Maps f xs y
maps f [] before after y e = absurd (nothing_in before after y e)
maps f (x ∷ xs) [] after y e =
    let same : f x ≡ y = cc in
    record { from = x; at = record { before = []; after = xs; split = refl }; is = sym same }
maps f (x ∷ xs) (z ∷ before) after y e =
    let rest : map f xs ≡ before ++ y ∷ after = cc in
    let later = maps f xs before after y rest in
    record { from = later.from; at = has_right (x ∷ []) xs later.from later.at; is = later.is }

-- ---- where parts stand

aligned_in : (s : Section) (at : Addresses) → address_in s (align_all at) ≡ align_to_word (address_in s at)
aligned_in Text at = refl
aligned_in Rodata at = refl
aligned_in Extab at = refl
aligned_in Init at = refl
aligned_in Bss at = refl

ends_in : (s : Section) (at : Addresses) (object : Object) → address_in s (part_ends at object) ≡ address_in s at + size_in s object
ends_in Text at object = refl
ends_in Rodata at object = refl
ends_in Extab at object = refl
ends_in Init at object = refl
ends_in Bss at object = refl

-- an object's part of a section stands between the first one's start and the end of the last
record Within (s : Section) (at : Addresses) (objects : List Object) (placed : PlacedObject) : Type 0 where
  following : align_to_word (address_in s at) ≤ address_in s placed.at
  before : address_in s placed.at + size_in s placed.object ≤ end_of s (address_in s at) objects

within_from : (s : Section) (at : Addresses) (objects : List Object) (front back : List PlacedObject) (placed : PlacedObject) → place_objects_from at objects ≡ front ++ placed ∷ back → Within s at objects placed
within_from s at [] [] back placed e = absurd cc
within_from s at [] (x ∷ front) back placed e = absurd cc
within_from s at (object ∷ more) [] back placed e =
    let same : record { object = object; at = align_all at } ≡ placed = cc in
    let P : PlacedObject → Type 0 = λ p. Within s at (object ∷ more) p in
    subst P same (record {
      following = here (align_to_word (address_in s at)) (address_in s (align_all at)) (aligned_in s at);
      before = ended (align_to_word (address_in s at)) (address_in s (align_all at)) (size_in s object) (end_of s (align_to_word (address_in s at) + size_in s object) more) (aligned_in s at) (end_ge s (align_to_word (address_in s at) + size_in s object) more);
    })
  where
    here : (a b : ℕ) → b ≡ a → a ≤ b
    here a b e = omega (arith, e)

    ended : (a b size end : ℕ) → b ≡ a → a + size ≤ end → b + size ≤ end
    ended a b size end e h = omega (arith, e, h)
within_from s at (object ∷ more) (x ∷ front) back placed e =
    let rest : place_objects_from (part_ends (align_all at) object) more ≡ front ++ placed ∷ back = cc in
    let later = within_from s (part_ends (align_all at) object) more front back placed rest in
    let next : address_in s (part_ends (align_all at) object) ≡ align_to_word (address_in s at) + size_in s object = ends_in s (align_all at) object ∙ ap (λ n. n + size_in s object) (aligned_in s at) in
    let P : ℕ → Type 0 = λ n. address_in s placed.at + size_in s placed.object ≤ end_of s n more in
    record {
      following = onward (align_to_word (address_in s at)) (size_in s object) (address_in s (part_ends (align_all at) object)) (address_in s placed.at) next later.following;
      before = subst P next later.before;
    }
  where
    onward : (a size n to : ℕ) → n ≡ a + size → align_to_word n ≤ to → a ≤ to
    onward a size n to e h = omega (arith, e, h)

-- ---- the first object

record First (objects : List Object) : Type 0 where
  first : PlacedObject
  rest : List PlacedObject
  split : place_objects objects ≡ first ∷ rest
  at_is : first.at ≡ align_all (firsts (layout_of objects))

some_first : (objects : List Object) → (objects ≡ [] → ⊥) → First objects
some_first [] none = absurd (none refl)
some_first (object ∷ more) none = record {
  first = record { object = object; at = align_all (firsts (layout_of (object ∷ more))) };
  rest = place_objects_from (part_ends (align_all (firsts (layout_of (object ∷ more)))) object) more;
  split = refl;
  at_is = refl;
}

one_there : (objects : List Object) (placed : PlacedObject) → IsOneOf objects placed → objects ≡ [] → ⊥
one_there [] placed one e = nothing_in one.front one.back placed one.split
one_there (x ∷ objects) placed one e = cc

linked_there : (objects : List Object) (entry : List ℕ) (image : ImageParts) → link_result objects entry ≡ Ok image → objects ≡ [] → ⊥
linked_there [] entry image made e = true≢false (sym (has_one [] entry image made))
linked_there (x ∷ objects) entry image made e = cc

begins_data : (s : Section) (objects : List Object) (f : First objects) (symbol : OwnSymbol) (start : ℕ) → symbol ≡ data_at start → start ≡ address_in s f.first.at → BeginsData s objects symbol
begins_data s objects f symbol start e h =
    let one : IsOneOf objects f.first = record { front = []; back = f.rest; split = f.split } in
    record {
      first = f.first;
      one = one;
      leads = refl;
      part = address_in s f.first.at;
      begins = begins_at s objects f.first one;
      is = e ∙ ap data_at h;
    }

rodata_begins : (objects : List Object) (f : First objects) (symbol : OwnSymbol) → symbol ≡ data_at (align_to_word (layout_of objects).text_end) → BeginsData Rodata objects symbol
rodata_begins objects f symbol e = begins_data Rodata objects f symbol (align_to_word (layout_of objects).text_end) e (sym (ap (λ (a : Addresses). a.rodata) f.at_is))

extab_begins : (objects : List Object) (f : First objects) (symbol : OwnSymbol) → symbol ≡ data_at (align_to_word (layout_of objects).rodata_end) → BeginsData Extab objects symbol
extab_begins objects f symbol e = begins_data Extab objects f symbol (align_to_word (layout_of objects).rodata_end) e (sym (ap (λ (a : Addresses). a.extab) f.at_is))

-- ---- `$d` where data begins

differ : (a b : ℕ) → a < b → (a == b) ≡ false
differ a b h = grind (arith, nat_tests)

data_there : (start end : ℕ) → start < end → Has (words_between start end) (data_at start)
data_there start end h = by (start == end) (differ start end h)
  where
    by : (b : Bool) → b ≡ false → Has (cond b [] (data_at start ∷ [])) (data_at start)
    by true e = absurd (true≢false e)
    by false e = record { before = []; after = []; split = refl }

in_data : (start end : ℕ) (symbol : OwnSymbol) → Has (words_between start end) symbol → symbol ≡ data_at start
in_data start end symbol h = by (start == end) h.before h.after h.split
  where
    by : (b : Bool) (before after : List OwnSymbol) → cond b [] (data_at start ∷ []) ≡ before ++ symbol ∷ after → symbol ≡ data_at start
    by true before after e = absurd (nothing_in before after symbol e)
    by false before after e = only_one (data_at start) symbol before after e

abbrev marks : List PlacedObject → List OwnSymbol
marks all = flat_map mark_symbols all

abbrev rodata : ImageLayout → List OwnSymbol
rodata layout = words_between (align_to_word layout.text_end) layout.rodata_end

abbrev extab : ImageLayout → List OwnSymbol
extab layout = words_between (align_to_word layout.rodata_end) layout.extab_end

abbrev index : ImageLayout → List OwnSymbol
index layout = words_between layout.index_start layout.code_end

rodata_there : (layout : ImageLayout) (all : List PlacedObject) (symbol : OwnSymbol) → Has (rodata layout) symbol → Has (symbols_of layout all) symbol
unfolding symbols_of
rodata_there layout all symbol h =
    has_left (marks all ++ rodata layout ++ extab layout ++ index layout) (flat_map exported_symbols all) symbol
    (has_left (marks all ++ rodata layout ++ extab layout) (index layout) symbol
    (has_left (marks all ++ rodata layout) (extab layout) symbol (has_right (marks all) (rodata layout) symbol h)))

extab_there : (layout : ImageLayout) (all : List PlacedObject) (symbol : OwnSymbol) → Has (extab layout) symbol → Has (symbols_of layout all) symbol
unfolding symbols_of
extab_there layout all symbol h =
    has_left (marks all ++ rodata layout ++ extab layout ++ index layout) (flat_map exported_symbols all) symbol
    (has_left (marks all ++ rodata layout ++ extab layout) (index layout) symbol (has_right (marks all ++ rodata layout) (extab layout) symbol h))

index_there : (layout : ImageLayout) (all : List PlacedObject) (symbol : OwnSymbol) → Has (index layout) symbol → Has (symbols_of layout all) symbol
unfolding symbols_of
index_there layout all symbol h =
    has_left (marks all ++ rodata layout ++ extab layout ++ index layout) (flat_map exported_symbols all) symbol
    (has_right (marks all ++ rodata layout ++ extab layout) (index layout) symbol h)

image_symbols : (objects : List Object) (entry : List ℕ) (image : ImageParts) → link_result objects entry ≡ Ok image → image.symbols ≡ symbols_of (layout_of objects) (place_objects objects)
image_symbols objects entry image e = ap (λ (i : ImageParts). i.symbols) (image_is objects entry image e) ∙ made_symbols objects entry

apart : (start at size to end : ℕ) → start ≤ at → at + size ≤ to → end ≡ to → 0 < size → start < end
apart start at size to end h k e l = omega (arith, h, k, e, l)

pub law_of_data : DataIsMarked
law_of_data Rodata objects entry image placed one e given some =
    let l = layout_of objects in
    let w = within_from Rodata (firsts l) objects one.front one.back placed one.split in
    let start = align_to_word l.text_end in
    let P : List OwnSymbol → Type 0 = λ symbols. Has symbols (data_at start) in
    let room : start < l.rodata_end = apart start placed.at.rodata (length placed.object.rodata) (end_of Rodata l.text_end objects) l.rodata_end w.following w.before (ends_of objects).rodata some in
    record {
      symbol = data_at start;
      there = subst P (sym (image_symbols objects entry image e)) (rodata_there l (place_objects objects) (data_at start) (data_there start l.rodata_end room));
      begins = rodata_begins objects (some_first objects (one_there objects placed one)) (data_at start) refl;
    }
law_of_data Extab objects entry image placed one e given some =
    let l = layout_of objects in
    let w = within_from Extab (firsts l) objects one.front one.back placed one.split in
    let start = align_to_word l.rodata_end in
    let P : List OwnSymbol → Type 0 = λ symbols. Has symbols (data_at start) in
    let room : start < l.extab_end = apart start placed.at.extab (length placed.object.extab) (end_of Extab l.rodata_end objects) l.extab_end w.following w.before (ends_of objects).extab some in
    record {
      symbol = data_at start;
      there = subst P (sym (image_symbols objects entry image e)) (extab_there l (place_objects objects) (data_at start) (data_there start l.extab_end room));
      begins = extab_begins objects (some_first objects (one_there objects placed one)) (data_at start) refl;
    }
law_of_data Text objects entry image placed one e given some = absurd (true≢false (sym given))
law_of_data Init objects entry image placed one e given some = absurd (true≢false (sym given))
law_of_data Bss objects entry image placed one e given some = absurd (true≢false (sym given))

index_is : (objects : List Object) (entry : List ℕ) → (parts_of objects entry).index.0 ≡ (layout_of objects).index_start
unfolding parts_of
index_is objects entry = refl

image_index : (objects : List Object) (entry : List ℕ) (image : ImageParts) → link_result objects entry ≡ Ok image → image.index.0 ≡ (layout_of objects).index_start
image_index objects entry image e = ap (λ (i : ImageParts). i.index.0) (image_is objects entry image e) ∙ index_is objects entry

pub law_of_indexes : IndexesAreMarked
law_of_indexes objects entry image e =
    let l = layout_of objects in
    let room : l.index_start < l.code_end = omega (arith, (ends_of objects).code) in
    let P : ℕ → Type 0 = λ n. Has image.symbols (data_at n) in
    let Q : List OwnSymbol → Type 0 = λ symbols. Has symbols (data_at l.index_start) in
    subst P (sym (image_index objects entry image e))
    (subst Q (sym (image_symbols objects entry image e)) (index_there l (place_objects objects) (data_at l.index_start) (data_there l.index_start l.code_end room)))

-- ---- no others

listed : (layout : ImageLayout) (all : List PlacedObject) (symbol : OwnSymbol) → Has (symbols_of layout all) symbol
    → Has (flat_map exported_symbols all) symbol ⊎ (Has (marks all) symbol ⊎ (Has (rodata layout) symbol ⊎ (Has (extab layout) symbol ⊎ Has (index layout) symbol)))
unfolding symbols_of
listed layout all symbol h = one (has_either (marks all ++ rodata layout ++ extab layout ++ index layout) (flat_map exported_symbols all) symbol h)
  where
    four : Has (marks all) symbol ⊎ Has (rodata layout) symbol
        → Has (flat_map exported_symbols all) symbol ⊎ (Has (marks all) symbol ⊎ (Has (rodata layout) symbol ⊎ (Has (extab layout) symbol ⊎ Has (index layout) symbol)))
    four (inl m) = inr (inl m)
    four (inr r) = inr (inr (inl r))

    three : Has (marks all ++ rodata layout) symbol ⊎ Has (extab layout) symbol
        → Has (flat_map exported_symbols all) symbol ⊎ (Has (marks all) symbol ⊎ (Has (rodata layout) symbol ⊎ (Has (extab layout) symbol ⊎ Has (index layout) symbol)))
    three (inl m) = four (has_either (marks all) (rodata layout) symbol m)
    three (inr x) = inr (inr (inr (inl x)))

    two : Has (marks all ++ rodata layout ++ extab layout) symbol ⊎ Has (index layout) symbol
        → Has (flat_map exported_symbols all) symbol ⊎ (Has (marks all) symbol ⊎ (Has (rodata layout) symbol ⊎ (Has (extab layout) symbol ⊎ Has (index layout) symbol)))
    two (inl m) = three (has_either (marks all ++ rodata layout) (extab layout) symbol m)
    two (inr i) = inr (inr (inr (inr i)))

    one : Has (marks all ++ rodata layout ++ extab layout ++ index layout) symbol ⊎ Has (flat_map exported_symbols all) symbol
        → Has (flat_map exported_symbols all) symbol ⊎ (Has (marks all) symbol ⊎ (Has (rodata layout) symbol ⊎ (Has (extab layout) symbol ⊎ Has (index layout) symbol)))
    one (inl m) = two (has_either (marks all ++ rodata layout ++ extab layout) (index layout) symbol m)
    one (inr own) = inl own

shown : (at : Addresses) (label : ObjSymbol) (symbol : OwnSymbol) → Has (label_symbols at label) symbol → (is_local label.name ≡ false) × (symbol ≡ symbol_at (address_in label.section at) label)
shown at label symbol h = by (is_local label.name) refl h.before h.after h.split
  where
    by : (b : Bool) → is_local label.name ≡ b → (before after : List OwnSymbol) → cond b [] (symbol_at (address_in label.section at) label ∷ []) ≡ before ++ symbol ∷ after
        → (is_local label.name ≡ false) × (symbol ≡ symbol_at (address_in label.section at) label)
    by true t before after e = absurd (nothing_in before after symbol e)
    by false t before after e = (t, only_one (symbol_at (address_in label.section at) label) symbol before after e)

of_label : (objects : List Object) (symbol : OwnSymbol) → Has (flat_map exported_symbols (place_objects objects)) symbol → ShowsLabel objects symbol
of_label objects symbol h =
    let j = joins exported_symbols (place_objects objects) symbol h in
    let k = joins (label_symbols j.from.at) j.from.object.symbols symbol j.own in
    let s = shown j.from.at k.from symbol k.own in
    let one : IsOneOf objects j.from = record { front = j.at.before; back = j.at.after; split = j.at.split } in
    record {
      home = j.from;
      one = one;
      label = k.from;
      there = k.at;
      seen = s.0;
      part = address_in k.from.section j.from.at;
      begins = begins_at k.from.section objects j.from one;
      is = s.1;
    }

of_mark : (objects : List Object) (symbol : OwnSymbol) → Has (marks (place_objects objects)) symbol → ShowsMark objects symbol
of_mark objects symbol h =
    let j = joins mark_symbols (place_objects objects) symbol h in
    let m = maps (mark_symbol j.from.at) j.from.object.marks j.own.before j.own.after symbol j.own.split in
    let one : IsOneOf objects j.from = record { front = j.at.before; back = j.at.after; split = j.at.split } in
    record {
      home = j.from;
      one = one;
      mark = m.from;
      there = m.at;
      part = j.from.at.text;
      begins = begins_at Text objects j.from one;
      is = m.is ∙ mapped j.from.at m.from;
    }

pub law_of_others : NoOtherSymbols
law_of_others objects entry image symbol e h =
    let P : List OwnSymbol → Type 0 = λ symbols. Has symbols symbol in
    by (listed (layout_of objects) (place_objects objects) symbol (subst P (image_symbols objects entry image e) h))
  where
    f : First objects
    f = some_first objects (linked_there objects entry image e)

    by : Has (flat_map exported_symbols (place_objects objects)) symbol
        ⊎ (Has (marks (place_objects objects)) symbol ⊎ (Has (rodata (layout_of objects)) symbol ⊎ (Has (extab (layout_of objects)) symbol ⊎ Has (index (layout_of objects)) symbol)))
        → ShowsLabel objects symbol ⊎ (ShowsMark objects symbol ⊎ (BeginsData Rodata objects symbol ⊎ (BeginsData Extab objects symbol ⊎ (symbol ≡ data_at image.index.0))))
    by (inl own) = inl (of_label objects symbol own)
    by (inr (inl m)) = inr (inl (of_mark objects symbol m))
    by (inr (inr (inl r))) = inr (inr (inl (rodata_begins objects f symbol (in_data (align_to_word (layout_of objects).text_end) (layout_of objects).rodata_end symbol r))))
    by (inr (inr (inr (inl x)))) = inr (inr (inr (inl (extab_begins objects f symbol (in_data (align_to_word (layout_of objects).rodata_end) (layout_of objects).extab_end symbol x)))))
    by (inr (inr (inr (inr i)))) =
        inr (inr (inr (inr (in_data (layout_of objects).index_start (layout_of objects).code_end symbol i ∙ ap data_at (sym (image_index objects entry image e))))))
