-- One step of the loops over objects, labels and rows.
use Rattle.std.proofs.Common.{◌≡◌, ℕ, ◌+◌, ◌<◌, Bool, true, false, cond, not, ◌||◌, List, [], ◌∷◌, ◌++◌, map, length, drop, get_or, Option, Some, None, refl, sym, ap, ◌∙◌, append_assoc}
use Rattle.std.proofs.Math.Path.{fun_ext}
use Rattle.std.specs.List.{find, list_any}
use Rattle.std.specs.Map.{lookup}
use Rattle.std.specs.Option.{option_or, option_map, is_some}
use Rattle.std.proofs.lemmas.List.{at_drop_more}
use Rattle.eh_word.specs.Names.{same_bytes}
use Rattle.eh_word.specs.Bytes.{zeros, gap}
use Rattle.asm_relocatable.specs.declared.object.Object.{Object}
use Rattle.asm_relocatable.specs.declared.object.ObjSymbol.{ObjSymbol}
use Rattle.eh_link.specs.declared.names.Meaning.{Meaning}
use Rattle.eh_link.specs.Placed.{PlacedObject}
use Rattle.eh_link.specs.Symbols.{is_label, is_global, has_label, has_global, global_names, field_names, duplicate_of, first_undefined, first_label, first_in, look_up, meaning_by, meaning_of}
use Rattle.eh_link.specs.Fields.{lower, fill_object, unreachable_by, lowest_unreachable}
use Rattle.eh_link.specs.declared.fill.FilledSections.{FilledSections}
use Rattle.eh_link.specs.Linked.{join_aligned}
use Rattle.eh_link.proofs.Changes.{lower_assoc}

pub find_more : {X : Type 0} (p : X → Bool) (xs : List X) (i : ℕ) (d : X) → i < length xs
    → find p (drop i xs) ≡ cond (p (get_or xs i d)) (Some (get_or xs i d)) (find p (drop (i + 1) xs))
find_more p xs i d h = at_drop_more (find p) xs i d h

pub first_more : (wanted : ObjSymbol → Bool) (xs : List PlacedObject) (i : ℕ) (d : PlacedObject) → i < length xs
    → first_in wanted (drop i xs) ≡ option_or (first_label wanted (get_or xs i d)) (first_in wanted (drop (i + 1) xs))
first_more wanted xs i d h = at_drop_more (first_in wanted) xs i d h

pub joined_append : (so_far : List ℕ) (xs ys : List (List ℕ)) → join_aligned so_far (xs ++ ys) ≡ join_aligned (join_aligned so_far xs) ys
joined_append so_far [] ys = refl
joined_append so_far (x ∷ xs) ys = joined_append (so_far ++ zeros (gap (length so_far) 4) ++ x) xs ys

pub same_meanings : (own global : List (List ℕ × Meaning)) (placed : PlacedObject)
    → ((q : List ℕ) → lookup (same_bytes q) own ≡ first_label (is_label q) placed) → look_up own global ≡ meaning_by global placed
same_meanings own global placed h = fun_ext (λ q. ap (λ o. option_or o (lookup (same_bytes q) global)) (h q))

pub table_meanings : (all : List PlacedObject) (global : List (List ℕ × Meaning)) (placed : PlacedObject)
    → ((q : List ℕ) → lookup (same_bytes q) global ≡ first_in (is_global q) all) → meaning_by global placed ≡ meaning_of all placed
table_meanings all global placed h = fun_ext (λ q. ap (option_or (first_label (is_label q) placed)) (h q))

pub parts_step : (old new : List FilledSections) (all xs : List PlacedObject) (i : ℕ) (x : PlacedObject) (parts : FilledSections) (total : List FilledSections) → i < length xs → x ≡ get_or xs i x
    → new ≡ old ++ parts ∷ [] → parts ≡ fill_object all x → old ++ map (fill_object all) (drop i xs) ≡ total → new ++ map (fill_object all) (drop (i + 1) xs) ≡ total
parts_step old new all xs i x parts total h is put made sum =
    let more : map (fill_object all) (drop i xs) ≡ parts ∷ map (fill_object all) (drop (i + 1) xs) =
    at_drop_more (map (fill_object all)) xs i x h ∙ rw (← is, made) refl in
    rw (put, append_assoc) (ap (λ rest. old ++ rest) (sym more) ∙ sum)

pub lowest_step : (old new here : Option ℕ) (all xs : List PlacedObject) (i : ℕ) (x : PlacedObject) (total : Option ℕ) → i < length xs → x ≡ get_or xs i x
    → new ≡ lower old here → here ≡ unreachable_by (meaning_of all x) x → lower old (lowest_unreachable all (drop i xs)) ≡ total
    → lower new (lowest_unreachable all (drop (i + 1) xs)) ≡ total
lowest_step old new here all xs i x total h is put made sum =
    let more : lowest_unreachable all (drop i xs) ≡ lower here (lowest_unreachable all (drop (i + 1) xs)) =
    at_drop_more (lowest_unreachable all) xs i x h ∙ rw (← is, made) refl in
    rw (put, lower_assoc) (ap (lower old) (sym more) ∙ sum)

-- ---- names

either : (a b : Bool) → (a || b) ≡ (b || a)
either true true = refl
either true false = refl
either false true = refl
either false false = refl

pub duplicate_step : (names : List (List ℕ)) (xs : List Object) (i j : ℕ) (x : Object) → i < length xs → x ≡ get_or xs i x → j ≡ i + 1
    → ((q : List ℕ) → list_any (same_bytes q) names ≡ list_any (has_global q) (drop j xs))
    → duplicate_of (drop i xs) ≡ option_or (find (λ name. list_any (same_bytes name) names) (global_names x)) (duplicate_of (drop j xs))
duplicate_step names xs i j x h is e same =
    at_drop_more duplicate_of xs i x h
    ∙ rw (← e, ← is) (ap (λ p. option_or (find p (global_names x)) (duplicate_of (drop j xs))) (fun_ext (λ q. sym (same q))))

pub global_step : (names new : List (List ℕ)) (xs : List Object) (i j : ℕ) (x : Object) → i < length xs → x ≡ get_or xs i x → j ≡ i + 1
    → ((q : List ℕ) → list_any (same_bytes q) names ≡ list_any (has_global q) (drop j xs))
    → ((q : List ℕ) → list_any (same_bytes q) new ≡ (list_any (same_bytes q) names || has_global q x))
    → (q : List ℕ) → list_any (same_bytes q) new ≡ list_any (has_global q) (drop i xs)
global_step names new xs i j x h is e same more q =
    more q ∙ ap (λ b. b || has_global q x) (same q) ∙ either (list_any (has_global q) (drop j xs)) (has_global q x)
    ∙ sym (at_drop_more (list_any (has_global q)) xs i x h ∙ rw (← e, ← is) refl)

pub mapped_or : {A B : Type 0} (f : A → B) (a b : Option A) → option_map f (option_or a b) ≡ option_or (option_map f a) (option_map f b)
mapped_or f None b = refl
mapped_or f (Some a) b = refl

pub chosen : {A B : Type 0} (f : A → B) (found : Option A) (o rest : Option B) → option_map f found ≡ o → is_some found ≡ true → option_or o rest ≡ option_map f found
chosen f None o rest e h = absurd cc
chosen f (Some a) o rest e h = rw (← e) refl

pub skipped : {A B : Type 0} (f : A → B) (found : Option A) (o rest : Option B) → option_map f found ≡ o → is_some found ≡ false → option_or o rest ≡ rest
skipped f None o rest e h = rw (← e) refl
skipped f (Some a) o rest e h = absurd cc

pub undefined_step : (names : List (List ℕ)) (all xs : List Object) (i : ℕ) (x : Object) → i < length xs → x ≡ get_or xs i x
    → ((q : List ℕ) → list_any (same_bytes q) names ≡ list_any (has_global q) all)
    → first_undefined all (drop i xs)
    ≡ option_or (find (λ name. not (has_label name x || list_any (same_bytes name) names)) (field_names x)) (first_undefined all (drop (i + 1) xs))
undefined_step names all xs i x h is same =
    at_drop_more (first_undefined all) xs i x h
    ∙ rw (← is) (ap (λ (p : List ℕ → Bool). option_or (find (λ name. not (has_label name x || p name)) (field_names x)) (first_undefined all (drop (i + 1) xs)))
    (fun_ext (λ q. sym (same q))))

pub ruleset finds = (find_more, first_more)
