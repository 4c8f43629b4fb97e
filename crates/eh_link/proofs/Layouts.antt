-- Where everything of an image stands: the places rise, and an end out of reach makes the image too large.
use Rattle.std.proofs.Common.{◌≡◌, ℕ, ◌+◌, ◌-◌, ◌<◌, ◌≤◌, Bool, true, false, cond, nat_lt, List, [], ◌∷◌, ◌++◌, append_assoc, length, drop, get_or, Some, None, refl, sym, ap, subst, ◌∙◌, arith}
use Rattle.std.proofs.lemmas.Bool.Decides.{nat_tests}
use Rattle.std.proofs.lemmas.List.{at_drop_more}
use Rattle.asm_relocatable.specs.declared.place.Section.{Section}
use Rattle.asm_relocatable.specs.declared.place.Section.TheVariants.{Text, Rodata, Extab, Init, Bss}
use Rattle.asm_relocatable.specs.declared.object.Object.{Object}
use Rattle.eh_link.specs.declared.places.Addresses.{Addresses}
use Rattle.eh_link.specs.declared.places.ImageLayout.{ImageLayout}
use Rattle.eh_link.specs.declared.places.TheConstants.{CODE_START, PAGE, MOST_MEMORY, REACH}
use Rattle.eh_link.specs.Placed.{PlacedObject}
use Rattle.eh_link.specs.Layout.{size_in, end_of, index_size, page_after, layout_of, code_size, data_size, is_too_large, Rises, firsts, align_all, part_ends, place_objects_from, place_objects, align_to_word}

pub end_ge : (section : Section) (at : ℕ) (xs : List Object) → at ≤ end_of section at xs
end_ge section at [] = omega arith
end_ge section at (x ∷ xs) = omega (arith, end_ge section (align_to_word at + size_in section x) xs)

pub end_next : (section : Section) (at : ℕ) (xs : List Object) (i : ℕ) (x : Object) → i < length xs → x ≡ get_or xs i x
    → end_of section at (drop i xs) ≡ end_of section (align_to_word at + size_in section x) (drop (i + 1) xs)
end_next section at xs i x h is =
    at_drop_more (end_of section at) xs i x h ∙ ap (λ y. end_of section (align_to_word at + size_in section y) (drop (i + 1) xs)) (sym is)

-- ---- the layout

pub record Ends (objects : List Object) : Type 0 where
  pub text : (layout_of objects).text_end ≡ end_of Text CODE_START objects
  pub rodata : (layout_of objects).rodata_end ≡ end_of Rodata (layout_of objects).text_end objects
  pub extab : (layout_of objects).extab_end ≡ end_of Extab (layout_of objects).rodata_end objects
  pub index : (layout_of objects).index_start ≡ align_to_word (layout_of objects).extab_end
  pub code : (layout_of objects).code_end ≡ (layout_of objects).index_start + index_size objects
  pub start : (layout_of objects).data_start ≡ page_after (layout_of objects).code_end
  pub init : (layout_of objects).init_end ≡ end_of Init (layout_of objects).data_start objects
  pub bss : (layout_of objects).bss_end ≡ end_of Bss (layout_of objects).init_end objects

pub ends_of : (objects : List Object) → Ends objects
unfolding layout_of
ends_of objects = record { text = refl; rodata = refl; extab = refl; index = refl; code = refl; start = refl; init = refl; bss = refl }

-- the ends of a layout
record SectionEnds (layout : ImageLayout) (objects : List Object) : Type 0 where
  text : layout.text_end ≡ end_of Text CODE_START objects
  rodata : layout.rodata_end ≡ end_of Rodata layout.text_end objects
  extab : layout.extab_end ≡ end_of Extab layout.rodata_end objects
  init : layout.init_end ≡ end_of Init layout.data_start objects
  bss : layout.bss_end ≡ end_of Bss layout.init_end objects

section_ends : (objects : List Object) → SectionEnds (layout_of objects) objects
section_ends objects = let e = ends_of objects in record { text = e.text; rodata = e.rodata; extab = e.extab; init = e.init; bss = e.bss }

-- in rising order
pub record Rising (layout : ImageLayout) : Type 0 where
  pub text : CODE_START ≤ layout.text_end
  pub rodata : layout.text_end ≤ layout.rodata_end
  pub extab : layout.rodata_end ≤ layout.extab_end
  pub index : layout.extab_end ≤ layout.index_start
  pub code : layout.index_start ≤ layout.code_end
  pub start : layout.code_end ≤ layout.data_start
  pub page : layout.data_start < layout.code_end + PAGE
  pub init : layout.data_start ≤ layout.init_end
  pub bss : layout.init_end ≤ layout.bss_end

pub rising : (objects : List Object) → Rising (layout_of objects)
rising objects =
    let e = ends_of objects in
    let l = layout_of objects in
    record {
      text = omega (arith, e.text, end_ge Text CODE_START objects);
      rodata = omega (arith, e.rodata, end_ge Rodata l.text_end objects);
      extab = omega (arith, e.extab, end_ge Extab l.rodata_end objects);
      index = omega (arith, e.index);
      code = omega (arith, e.code);
      start = omega (arith, e.start);
      page = omega (arith, e.start);
      init = omega (arith, e.init, end_ge Init l.data_start objects);
      bss = omega (arith, e.bss, end_ge Bss l.init_end objects);
    }

is_above : (b : Bool) (n : ℕ) → b ≡ nat_lt MOST_MEMORY n → MOST_MEMORY < n → b ≡ true
is_above true n e h = refl
is_above false n e h = absurd (grind (arith, nat_tests))

too_large : (objects : List Object) → REACH < (layout_of objects).bss_end → is_too_large (layout_of objects) ≡ true
too_large objects h =
    let r = rising objects in
    let l = layout_of objects in
    is_above (is_too_large l) ((l.code_end - CODE_START) + (l.bss_end - l.data_start)) refl (omega (arith, r.text, r.rodata, r.extab, r.index, r.code, r.start, r.page, r.init, r.bss))

is_within : (b : Bool) (n : ℕ) → b ≡ nat_lt MOST_MEMORY n → n ≤ MOST_MEMORY → b ≡ false
is_within true n e h = absurd (grind (arith, nat_tests))
is_within false n e h = refl

-- no layout
none_for : (objects : List Object) → is_too_large (layout_of objects) ≡ true → None ≡ cond (is_too_large (layout_of objects)) None (Some (layout_of objects))
none_for objects h = rw h refl

none_past : (objects : List Object) → REACH < (layout_of objects).bss_end → None ≡ cond (is_too_large (layout_of objects)) None (Some (layout_of objects))
none_past objects h = none_for objects (too_large objects h)

pub text_past : (objects : List Object) → REACH < end_of Text CODE_START objects → None ≡ cond (is_too_large (layout_of objects)) None (Some (layout_of objects))
text_past objects h =
    let r = rising objects in
    none_past objects (omega (arith, h, (ends_of objects).text, r.rodata, r.extab, r.index, r.code, r.start, r.init, r.bss))

pub rodata_past : (objects : List Object) (t : ℕ) → t ≡ end_of Text CODE_START objects → REACH < end_of Rodata t objects
    → None ≡ cond (is_too_large (layout_of objects)) None (Some (layout_of objects))
rodata_past objects t e h =
    let r = rising objects in
    let part_ends = ends_of objects in
    let same : end_of Rodata t objects ≡ (layout_of objects).rodata_end = rw (e, ← part_ends.text) (sym part_ends.rodata) in
    none_past objects (omega (arith, h, same, r.extab, r.index, r.code, r.start, r.init, r.bss))

pub extab_past : (objects : List Object) (t d : ℕ) → t ≡ end_of Text CODE_START objects → d ≡ end_of Rodata t objects → REACH < end_of Extab d objects
    → None ≡ cond (is_too_large (layout_of objects)) None (Some (layout_of objects))
extab_past objects t d e f h =
    let r = rising objects in
    let part_ends = ends_of objects in
    let same : end_of Extab d objects ≡ (layout_of objects).extab_end = rw (f, e, ← part_ends.text, ← part_ends.rodata) (sym part_ends.extab) in
    none_past objects (omega (arith, h, same, r.index, r.code, r.start, r.init, r.bss))

extab_is : (objects : List Object) (t d x : ℕ) → t ≡ end_of Text CODE_START objects → d ≡ end_of Rodata t objects → x ≡ end_of Extab d objects
    → x ≡ (layout_of objects).extab_end
extab_is objects t d x e f g = let part_ends = ends_of objects in g ∙ rw (f, e, ← part_ends.text, ← part_ends.rodata) (sym part_ends.extab)

pub index_past : (objects : List Object) (t d x i : ℕ) → t ≡ end_of Text CODE_START objects → d ≡ end_of Rodata t objects → x ≡ end_of Extab d objects
    → i ≡ align_to_word x → REACH < i + index_size objects → None ≡ cond (is_too_large (layout_of objects)) None (Some (layout_of objects))
index_past objects t d x i e f g k h =
    let r = rising objects in
    let part_ends = ends_of objects in
    let same : i ≡ (layout_of objects).index_start = k ∙ ap align_to_word (extab_is objects t d x e f g) ∙ sym part_ends.index in
    none_past objects (omega (arith, h, same, part_ends.code, r.start, r.init, r.bss))

start_is : (objects : List Object) (t d x i c s : ℕ) → t ≡ end_of Text CODE_START objects → d ≡ end_of Rodata t objects → x ≡ end_of Extab d objects
    → i ≡ align_to_word x → c ≡ i + index_size objects → s ≡ page_after c → s ≡ (layout_of objects).data_start
start_is objects t d x i c s e f g k m n =
    let part_ends = ends_of objects in
    let index : i ≡ (layout_of objects).index_start = k ∙ ap align_to_word (extab_is objects t d x e f g) ∙ sym part_ends.index in
    let code : c ≡ (layout_of objects).code_end = m ∙ ap (λ a. a + index_size objects) index ∙ sym part_ends.code in
    n ∙ ap page_after code ∙ sym part_ends.start

pub init_past : (objects : List Object) (t d x i c s : ℕ) → t ≡ end_of Text CODE_START objects → d ≡ end_of Rodata t objects → x ≡ end_of Extab d objects
    → i ≡ align_to_word x → c ≡ i + index_size objects → s ≡ page_after c → REACH < end_of Init s objects
    → None ≡ cond (is_too_large (layout_of objects)) None (Some (layout_of objects))
init_past objects t d x i c s e f g k m n h =
    let r = rising objects in
    let same : end_of Init s objects ≡ (layout_of objects).init_end = ap (λ a. end_of Init a objects) (start_is objects t d x i c s e f g k m n) ∙ sym (ends_of objects).init in
    none_past objects (omega (arith, h, same, r.bss))

pub bss_past : (objects : List Object) (t d x i c s z : ℕ) → t ≡ end_of Text CODE_START objects → d ≡ end_of Rodata t objects → x ≡ end_of Extab d objects
    → i ≡ align_to_word x → c ≡ i + index_size objects → s ≡ page_after c → z ≡ end_of Init s objects → REACH < end_of Bss z objects
    → None ≡ cond (is_too_large (layout_of objects)) None (Some (layout_of objects))
bss_past objects t d x i c s z e f g k m n w h =
    let part_ends = ends_of objects in
    let init : z ≡ (layout_of objects).init_end = w ∙ ap (λ a. end_of Init a objects) (start_is objects t d x i c s e f g k m n) ∙ sym part_ends.init in
    let same : end_of Bss z objects ≡ (layout_of objects).bss_end = ap (λ a. end_of Bss a objects) init ∙ sym part_ends.bss in
    none_past objects (omega (arith, h, same))

pub layout_is : (objects : List Object) (t d x i c s z b : ℕ) → t ≡ end_of Text CODE_START objects → d ≡ end_of Rodata t objects → x ≡ end_of Extab d objects
    → i ≡ align_to_word x → c ≡ i + index_size objects → s ≡ page_after c → z ≡ end_of Init s objects → b ≡ end_of Bss z objects
    → record { text_end = t; rodata_end = d; extab_end = x; index_start = i; code_end = c; data_start = s; init_end = z; bss_end = b } ≡ layout_of objects
unfolding layout_of
layout_is objects t d x i c s z b e f g k m n w v = rw (v, w, n, m, k, g, f, e) refl

pub found_layout : (objects : List Object) (layout : ImageLayout) → layout ≡ layout_of objects → code_size layout + data_size layout ≤ MOST_MEMORY
    → Some layout ≡ cond (is_too_large (layout_of objects)) None (Some (layout_of objects))
found_layout objects layout e h =
    let small : is_too_large layout ≡ false = is_within (is_too_large layout) (code_size layout + data_size layout) refl h in
    rw (← e, small) refl

pub large_layout : (objects : List Object) (layout : ImageLayout) → layout ≡ layout_of objects → MOST_MEMORY < code_size layout + data_size layout
    → None ≡ cond (is_too_large (layout_of objects)) None (Some (layout_of objects))
large_layout objects layout e h =
    let large : is_too_large layout ≡ true = is_above (is_too_large layout) (code_size layout + data_size layout) refl h in
    none_for objects (ap is_too_large (sym e) ∙ large)

pub rises_of : (objects : List Object) (layout : ImageLayout) → layout ≡ layout_of objects → layout.bss_end ≤ REACH → Rises layout
rises_of objects layout e h =
    let r = subst Rising (sym e) (rising objects) in
    record { text = r.text; rodata = r.rodata; extab = r.extab; index = r.index; code = r.code; start = r.start; init = r.init; bss = r.bss; reach = h }

-- ---- the objects' parts

-- all parts end in reach
pub record Fits (at : Addresses) (objects : List Object) : Type 0 where
  pub text : end_of Text at.text objects ≤ REACH
  pub rodata : end_of Rodata at.rodata objects ≤ REACH
  pub extab : end_of Extab at.extab objects ≤ REACH
  pub init : end_of Init at.init objects ≤ REACH
  pub bss : end_of Bss at.bss objects ≤ REACH

pub fits_first : (objects : List Object) (layout : ImageLayout) → layout ≡ layout_of objects → Rises layout → Fits (firsts layout) objects
fits_first objects layout e r =
    let part_ends = subst (λ l. SectionEnds l objects) (sym e) (section_ends objects) in
    record {
      text = omega (arith, part_ends.text, r.rodata, r.extab, r.index, r.code, r.start, r.init, r.bss, r.reach);
      rodata = omega (arith, part_ends.rodata, r.extab, r.index, r.code, r.start, r.init, r.bss, r.reach);
      extab = omega (arith, part_ends.extab, r.index, r.code, r.start, r.init, r.bss, r.reach);
      init = omega (arith, part_ends.init, r.bss, r.reach);
      bss = omega (arith, part_ends.bss, r.reach);
    }

pub fits_next : (at : Addresses) (xs : List Object) (i : ℕ) (x : Object) → i < length xs → x ≡ get_or xs i x → Fits at (drop i xs)
    → Fits (part_ends (align_all at) x) (drop (i + 1) xs)
fits_next at xs i x h is f = record {
  text = omega (arith, end_next Text at.text xs i x h is, f.text);
  rodata = omega (arith, end_next Rodata at.rodata xs i x h is, f.rodata);
  extab = omega (arith, end_next Extab at.extab xs i x h is, f.extab);
  init = omega (arith, end_next Init at.init xs i x h is, f.init);
  bss = omega (arith, end_next Bss at.bss xs i x h is, f.bss);
}

-- an object's parts end in reach
pub record PartsFit (at : Addresses) (object : Object) : Type 0 where
  pub text : at.text + length object.text ≤ REACH
  pub rodata : at.rodata + length object.rodata ≤ REACH
  pub extab : at.extab + length object.extab ≤ REACH
  pub init : at.init + length object.init ≤ REACH
  pub bss : at.bss + object.bss ≤ REACH

pub parts_fit : (at : Addresses) (xs : List Object) (i : ℕ) (x : Object) → i < length xs → x ≡ get_or xs i x → Fits at (drop i xs)
    → PartsFit (align_all at) x
parts_fit at xs i x h is f =
    let n = fits_next at xs i x h is f in
    let rest = drop (i + 1) xs in
    record {
      text = omega (arith, n.text, end_ge Text (align_to_word at.text + length x.text) rest);
      rodata = omega (arith, n.rodata, end_ge Rodata (align_to_word at.rodata + length x.rodata) rest);
      extab = omega (arith, n.extab, end_ge Extab (align_to_word at.extab + length x.extab) rest);
      init = omega (arith, n.init, end_ge Init (align_to_word at.init + length x.init) rest);
      bss = omega (arith, n.bss, end_ge Bss (align_to_word at.bss + x.bss) rest);
    }

pub placed_more : (at : Addresses) (xs : List Object) (i : ℕ) (x : Object) → i < length xs → x ≡ get_or xs i x
    → place_objects_from at (drop i xs) ≡ record { object = x; at = align_all at } ∷ place_objects_from (part_ends (align_all at) x) (drop (i + 1) xs)
placed_more at xs i x h is =
    at_drop_more (place_objects_from at) xs i x h
    ∙ ap (λ (y : Object). record { object = y; at = align_all at } ∷ place_objects_from (part_ends (align_all at) y) (drop (i + 1) xs)) (sym is)

pub placed_step : (old new : List PlacedObject) (at here next : Addresses) (xs : List Object) (i : ℕ) (x : Object) (total : List PlacedObject) → i < length xs → x ≡ get_or xs i x
    → here ≡ align_all at → next ≡ part_ends here x → new ≡ old ++ record { object = x; at = here } ∷ [] → old ++ place_objects_from at (drop i xs) ≡ total
    → new ++ place_objects_from next (drop (i + 1) xs) ≡ total
placed_step old new at here next xs i x total h is e f put sum =
    rw (put, append_assoc, f, e) (ap (λ rest. old ++ rest) (sym (placed_more at xs i x h is)) ∙ sum)

pub placed_first : (objects : List Object) (layout : ImageLayout) → layout ≡ layout_of objects → place_objects_from (firsts layout) objects ≡ place_objects objects
placed_first objects layout e = ap (λ (l : ImageLayout). place_objects_from (firsts l) objects) e
