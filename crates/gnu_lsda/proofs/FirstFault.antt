-- The first of all faults is answered.
use Rattle.std.proofs.Common.{◌≡◌, ℕ, ◌+◌, ◌≤◌, Bool, true, false, cond, List, [], ◌∷◌, ◌++◌, Option, Some, None, refl, arith, ◌∙◌, ap, sym, subst, fold}
use Rattle.std.specs.Prelude.{Result, Ok, Err, nat_le, All, Contains}
use Rattle.std.specs.List.{flat_map}
use Rattle.std.proofs.lemmas.Bool.Decides.{nat_tests}
use Rattle.std.proofs.lemmas.List.Elements.{All-cons, Contains-append_left, Contains-append_right}
use Rattle.elf_image.specs.Image.{Image}
use Rattle.gnu_lsda.specs.declared.lsda.HeadFault.{HeadFault}
use Rattle.gnu_lsda.specs.declared.lsda.HeadFault.TheVariants as heads
use Rattle.gnu_lsda.specs.declared.records.Record.{Record}
use Rattle.gnu_lsda.specs.declared.records.RecordFault.{RecordFault}
use Rattle.gnu_lsda.specs.declared.records.RecordFault.TheVariants as records
use Rattle.gnu_lsda.specs.declared.actions.Action.{Action}
use Rattle.gnu_lsda.specs.declared.actions.ActionFault.{ActionFault}
use Rattle.gnu_lsda.specs.declared.fault.EntryFault.{EntryFault}
use Rattle.gnu_lsda.specs.declared.fault.EntryFault.TheVariants.{Personality, Short, Order, TooLong}
use Rattle.gnu_lsda.specs.Entries.{Form, personality_in, words_after}
use Rattle.gnu_lsda.specs.Heads.{Area, area_of}
use Rattle.gnu_lsda.specs.Sites.{records_of}
use Rattle.gnu_lsda.specs.Chains.{actions_of}
use Rattle.gnu_lsda.specs.Faults.{rank, lower, fault_when, item_fault, chain_fault, is_disordered, with_record, is_too_long, area_fault, names_routine}
use Rattle.gnu_lsda.specs.FirstFault.{fault_list, chain_shows, records_show, area_shows, shown_faults, IsFirst, FirstFaultIsAnswered}

-- ---- the first of two

left : (a b : EntryFault) → nat_le (rank a) (rank b) ≡ true → lower (Some a) (Some b) ≡ Some a
left a b e = ap (λ (t : Bool). cond t (Some a) (Some b)) e

right : (a b : EntryFault) → nat_le (rank a) (rank b) ≡ false → lower (Some a) (Some b) ≡ Some b
right a b e = ap (λ (t : Bool). cond t (Some a) (Some b)) e

lower_none : (x : Option EntryFault) → lower x None ≡ x
lower_none None = refl
lower_none (Some a) = refl

through : (x y z : ℕ) → nat_le x y ≡ true → nat_le y z ≡ true → nat_le x z ≡ true
through x y z e f = grind (arith, nat_tests)

back : (x y z : ℕ) → nat_le x y ≡ false → nat_le y z ≡ false → nat_le x z ≡ false
back x y z e f = grind (arith, nat_tests)

lower_assoc : (x y z : Option EntryFault) → lower (lower x y) z ≡ lower x (lower y z)
lower_assoc None y z = refl
lower_assoc (Some a) None z = refl
lower_assoc (Some a) (Some b) None = lower_none (lower (Some a) (Some b))
lower_assoc (Some a) (Some b) (Some c) = tested (nat_le (rank a) (rank b)) (nat_le (rank b) (rank c)) refl refl
  where
    tested : (s t : Bool) → nat_le (rank a) (rank b) ≡ s → nat_le (rank b) (rank c) ≡ t → lower (lower (Some a) (Some b)) (Some c) ≡ lower (Some a) (lower (Some b) (Some c))
    tested true true e f =
        ap (λ (o : Option EntryFault). lower o (Some c)) (left a b e) ∙ left a c (through (rank a) (rank b) (rank c) e f)
        ∙ sym (ap (λ (o : Option EntryFault). lower (Some a) o) (left b c f) ∙ left a b e)
    tested true false e f = ap (λ (o : Option EntryFault). lower o (Some c)) (left a b e) ∙ sym (ap (λ (o : Option EntryFault). lower (Some a) o) (right b c f))
    tested false true e f =
        ap (λ (o : Option EntryFault). lower o (Some c)) (right a b e) ∙ left b c f ∙ sym (ap (λ (o : Option EntryFault). lower (Some a) o) (left b c f) ∙ right a b e)
    tested false false e f =
        ap (λ (o : Option EntryFault). lower o (Some c)) (right a b e) ∙ right b c f
        ∙ sym (ap (λ (o : Option EntryFault). lower (Some a) o) (right b c f) ∙ right a c (back (rank a) (rank b) (rank c) e f))

-- ---- the first of a list

first_in : List EntryFault → Option EntryFault
first_in [] = None
first_in (fault ∷ more) = lower (Some fault) (first_in more)

first_joined : (xs ys : List EntryFault) → first_in (xs ++ ys) ≡ lower (first_in xs) (first_in ys)
unfolding first_in
first_joined [] ys = refl
first_joined (x ∷ xs) ys = ap (λ (o : Option EntryFault). lower (Some x) o) (first_joined xs ys) ∙ sym (lower_assoc (Some x) (first_in xs) (first_in ys))

first_told : (m : Option EntryFault) → first_in (fault_list m) ≡ m
unfolding first_in
first_told None = refl
first_told (Some fault) = refl

-- one that comes before all of a list
before_all : (a b : EntryFault) (xs : List EntryFault) → rank a ≤ rank b → All (λ other. rank b ≤ rank other) xs → All (λ other. rank a ≤ rank other) xs
before_all a b xs h all = λ k d inside. let one = all k d inside in omega (arith, one)

itself : (a : EntryFault) (xs : List EntryFault) → Contains (a ∷ xs) a
itself a xs = Contains-append_left (a ∷ []) xs a (0, omega arith, refl)

chosen : (x w : EntryFault) (xs : List EntryFault) (b : Bool) → nat_le (rank x) (rank w) ≡ b → Contains xs w → All (λ other. rank w ≤ rank other) xs
    → IsFirst (x ∷ xs) (cond b (Some x) (Some w))
chosen x w xs true e there all =
    let low : rank x ≤ rank w = grind (arith, nat_tests) in
    (itself x xs, All-cons (λ other. rank x ≤ rank other) x xs (omega arith) (before_all x w xs low all))
chosen x w xs false e there all =
    let high : rank w ≤ rank x = grind (arith, nat_tests) in
    (Contains-append_right (x ∷ []) xs w there, All-cons (λ other. rank w ≤ rank other) x xs high all)

is_first : (xs : List EntryFault) → IsFirst xs (first_in xs)
unfolding first_in
is_first [] = refl
is_first (x ∷ xs) = go (first_in xs) (is_first xs)
  where
    go : (o : Option EntryFault) → IsFirst xs o → IsFirst (x ∷ xs) (lower (Some x) o)
    go None none = (itself x xs, All-cons (λ other. rank x ≤ rank other) x xs (omega arith) (subst (λ (l : List EntryFault). All (λ other. rank x ≤ rank other) l) (sym none) (λ k d inside. absurd (omega arith))))
    go (Some w) found = chosen x w xs (nat_le (rank x) (rank w)) refl found.0 found.1

-- ---- chains and records

chain_first : (image : Image) (x : Option EntryFault) (items : List (Result Action ActionFault))
    → fold (λ seen item. lower seen (item_fault image item)) x items ≡ lower x (first_in (flat_map (λ item. fault_list (item_fault image item)) items))
unfolding first_in
chain_first image x [] = sym (lower_none x)
chain_first image x (item ∷ more) =
    let rest = flat_map (λ (i : Result Action ActionFault). fault_list (item_fault image i)) more in
    chain_first image (lower x (item_fault image item)) more ∙ lower_assoc x (item_fault image item) (first_in rest)
    ∙ ap (λ (o : Option EntryFault). lower x o)
    (sym (first_joined (fault_list (item_fault image item)) rest ∙ ap (λ (o : Option EntryFault). lower o (first_in rest)) (first_told (item_fault image item))))

chain_is : (image : Image) (a : Area) (action : ℕ) → chain_fault image a action ≡ first_in (chain_shows image a action)
chain_is image a action = chain_first image None (actions_of a action)

three : (x o c r : Option EntryFault) → lower (lower (lower x o) c) r ≡ lower x (lower o (lower c r))
three x o c r = lower_assoc (lower x o) c r ∙ lower_assoc x o (lower c r)

records_first : (image : Image) (f : Form) (a : Area) (end : ℕ) (x : Option EntryFault) (items : List (Result Record RecordFault))
    → (fold (with_record image f a) (record { end = end; fault = x }) items).fault ≡ lower x (first_in (records_show image f a end items))
unfolding first_in
records_first image f a end x [] = sym (lower_none x)
records_first image f a end x (Err records.Short ∷ more) =
    records_first image f a end (lower x (Some Short)) more ∙ lower_assoc x (Some Short) (first_in (records_show image f a end more))
records_first image f a end x (Ok site ∷ more) =
    let order = fault_when (is_disordered f end site) Order in
    let rest = records_show image f a (site.start + site.size) more in
    records_first image f a (site.start + site.size) (lower (lower x order) (chain_fault image a site.action)) more ∙ three x order (chain_fault image a site.action) (first_in rest)
    ∙ ap (λ (o : Option EntryFault). lower x o)
    (sym (first_joined (fault_list order) (chain_shows image a site.action ++ rest) ∙ ap (λ (o : Option EntryFault). lower o (first_in (chain_shows image a site.action ++ rest))) (first_told order)
    ∙ ap (λ (o : Option EntryFault). lower order o)
    (first_joined (chain_shows image a site.action) rest ∙ ap (λ (o : Option EntryFault). lower o (first_in rest)) (sym (chain_is image a site.action)))))

area_is : (image : Image) (f : Form) (r : Result Area HeadFault) → area_fault image f r ≡ first_in (area_shows image f r)
unfolding first_in
area_is image f (Err heads.Short) = refl
area_is image f (Err heads.Format) = refl
area_is image f (Ok a) =
    let long = fault_when (is_too_long (words_after f)) TooLong in
    let rest = records_show image f a 0 (records_of a) in
    ap (λ (o : Option EntryFault). lower long o) (records_first image f a 0 None (records_of a))
    ∙ sym (first_joined (fault_list long) rest ∙ ap (λ (o : Option EntryFault). lower o (first_in rest)) (first_told long))

entry_is : (image : Image) (f : Form) (b : Bool)
    → cond b (area_fault image f (area_of f)) (Some Personality) ≡ first_in (cond b (area_shows image f (area_of f)) (Personality ∷ []))
unfolding first_in
entry_is image f true = area_is image f (area_of f)
entry_is image f false = refl

pub law_of_first : FirstFaultIsAnswered
law_of_first image f = subst (λ (o : Option EntryFault). IsFirst (shown_faults image f) o) (sym (entry_is image f (names_routine f (personality_in image)))) (is_first (shown_faults image f))
