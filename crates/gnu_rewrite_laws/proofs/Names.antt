-- The names of the rewritten image.
use Rattle.std.proofs.Common.{◌≡◌, ℕ, ◌+◌, ◌-◌, ◌%◌, ◌&&◌, ◌||◌, Bool, true, false, cond, not, nat_eq, min, codes, List, [], ◌∷◌, ◌++◌, map, filter, All, Option, Some, None, is_some, Ok, refl, sym, ap, ◌∙◌, arith}
use Rattle.std.specs.Prelude.{find, option_map}
use Rattle.std.specs.Option.{option_or}
use Rattle.std.specs.List.{list_any, starts_with}
use Rattle.std.proofs.lemmas.Bool.Decides.{nat_tests}
use Rattle.std.proofs.lemmas.List.{map-append}
use Rattle.std.proofs.lemmas.List.Concat.{flat_map-cons}
use Rattle.std.proofs.lemmas.List.Folds.{find-append, list_any-append}
use Rattle.std.proofs.lemmas.List.Elements.{All-cons, All-nil, All-head, All-tail, filter-append}
use Rattle.eh_word.specs.Address.{address_text}
use Rattle.eh_word.specs.Names.{same_bytes}
use Rattle.eh_types.specs.declared.vtables.TheConstants.{FUNDAMENTAL, CLASS, SINGLE, MANY, POINTER}
use Rattle.gnu_rewrite.specs.declared.symbols.TheConstants.{PROFILE}
use Rattle.elf_image.specs.Segments.{Segment, segment_end}
use Rattle.elf_image.specs.Symbols.{Symbol}
use Rattle.elf_image.specs.Functions.{Function, is_thumb_function, function_in, segment_at, function_of_symbol}
use Rattle.elf_image.specs.Image.{Image, IsSound, IsWithinCode, NamedAddress, image_of, is_defined, address_of, named_address, named_addresses, symbol_in, type_symbols_of, file_symbols}
use Rattle.elf_image.specs.Laws.{is_in_code, is_function_at, IsFunctionOf}
use Rattle.elf_image.proofs.Accepted.{accepted_from, segments_as}
use Rattle.elf_image.proofs.Lookups.{any_is_some}
use Rattle.elf_image.proofs.Sound.{sound_law, functions_law}
use Rattle.elf_write.specs.Layout.{section_of}
use Rattle.elf_write.specs.Parts.{null_symbol, image_of_parts}
use Rattle.elf_write.specs.declared.parts.OwnSegment.{OwnSegment}
use Rattle.gnu_index.specs.Lists.{Lists}
use Rattle.gnu_rewrite.specs.Symbols.{kept_names, type_name}
use Rattle.gnu_rewrite.specs.Marks.{marks_of}
use Rattle.gnu_rewrite.specs.Parts.{parts_with, new_tables, new_parts}
use Rattle.gnu_rewrite_laws.specs.Laws.{NamedSymbolsStay, TypesStay}
use Rattle.gnu_rewrite_laws.proofs.Words.{symbols_as}
use Rattle.gnu_rewrite_laws.proofs.Table.{Name, name_row, function_row, mark_row, rows}
use Rattle.gnu_rewrite_laws.proofs.Functions.{has_section, no_function, AreThere, all_there}
use Rattle.gnu_rewrite_laws.proofs.Parts.{name_at, names_in, names_of, types_of, types_in, new_segments, has}

-- ---- the names of the table

abbrev pub mark_name : ℕ × Bool → NamedAddress
mark_name m = record { name = cond m.1 (codes "$t") (codes "$d"); address = m.0 }

abbrev pub name_of : Name → NamedAddress
name_of n = record { name = n.0; address = n.1 }

abbrev pub function_name : Function → NamedAddress
function_name f = record { name = f.name; address = f.start }

abbrev defined_names : List Segment → List Symbol → List NamedAddress
defined_names segments symbols = map (λ s. named_address segments s) (filter is_defined symbols)

defined : (own : List OwnSegment) (value : ℕ) → not (nat_eq (section_of own value) 0) ≡ true
defined own value = rw (has_section own value) refl

named_none : (segments : List Segment) (s : Symbol) → function_of_symbol segments s ≡ None → named_address segments s ≡ record { name = s.name; address = s.value }
unfolding named_address
named_none segments s h = ap (λ (o : Option Function). record { name = s.name; address = address_of s o }) h

named_some : (segments : List Segment) (s : Symbol) (f : Function) → function_of_symbol segments s ≡ Some f → named_address segments s ≡ record { name = s.name; address = f.start }
unfolding named_address
named_some segments s f h = ap (λ (o : Option Function). record { name = s.name; address = address_of s o }) h

plain_names : {A : Type 0} (segments : List Segment) (shown : A → Symbol) (to : A → NamedAddress) → ((x : A) → is_defined (shown x) ≡ true) → ((x : A) → named_address segments (shown x) ≡ to x)
    → (xs : List A) → defined_names segments (map shown xs) ≡ map to xs
plain_names segments shown to d n [] = refl
plain_names segments shown to d n (x ∷ xs) =
    ap (λ (b : Bool). map (λ s. named_address segments s) (cond b (shown x ∷ filter is_defined (map shown xs)) (filter is_defined (map shown xs)))) (d x)
    ∙ ap (λ (y : NamedAddress). y ∷ defined_names segments (map shown xs)) (n x) ∙ ap (λ (l : List NamedAddress). to x ∷ l) (plain_names segments shown to d n xs)

function_names : (own : List OwnSegment) (segments : List Segment) (fs : List Function) → AreThere own segments fs → defined_names segments (map (function_row own) fs) ≡ map function_name fs
function_names own segments [] t = refl
function_names own segments (f ∷ fs) t =
    ap (λ (b : Bool). map (λ s. named_address segments s) (cond b (function_row own f ∷ filter is_defined (map (function_row own) fs)) (filter is_defined (map (function_row own) fs)))) (defined own f.start)
    ∙ ap (λ (y : NamedAddress). y ∷ defined_names segments (map (function_row own) fs)) (named_some segments (function_row own f) f t.0) ∙ ap (λ (l : List NamedAddress). function_name f ∷ l) (function_names own segments fs t.1)

both_names : (segments : List Segment) (xs ys : List Symbol) → defined_names segments (xs ++ ys) ≡ defined_names segments xs ++ defined_names segments ys
both_names segments xs ys = ap (map (λ s. named_address segments s)) (filter-append is_defined xs ys) ∙ map-append (λ s. named_address segments s) (filter is_defined xs) (filter is_defined ys)

abbrev pub all_names : List Name → List Function → List Name → List (ℕ × Bool) → List NamedAddress
all_names names functions types marks = map mark_name marks ++ (map name_of names ++ map function_name functions ++ map name_of types)

names_of_rows : (own : List OwnSegment) (segments : List Segment) (names types : List Name) (functions : List Function) (marks : List (ℕ × Bool)) → AreThere own segments functions
    → named_addresses segments (null_symbol ∷ rows own names functions types marks) ≡ all_names names functions types marks
unfolding named_addresses
names_of_rows own segments names types functions marks t =
    let mark = plain_names segments (mark_row own) mark_name (λ m. defined own m.0) (λ m. named_none segments (mark_row own m) (no_function segments (mark_row own m) refl)) marks in
    let name : (ns : List Name) → defined_names segments (map (name_row own) ns) ≡ map name_of ns =
    plain_names segments (name_row own) name_of (λ n. defined own n.1) (λ n. named_none segments (name_row own n) (no_function segments (name_row own n) refl)) in
    both_names segments (map (mark_row own) marks) (map (name_row own) names ++ map (function_row own) functions ++ map (name_row own) types)
    ∙ ap (λ (l : List NamedAddress). l ++ defined_names segments (map (name_row own) names ++ map (function_row own) functions ++ map (name_row own) types)) mark
    ∙ ap (λ (l : List NamedAddress). map mark_name marks ++ l)
    (both_names segments (map (name_row own) names ++ map (function_row own) functions) (map (name_row own) types)
    ∙ ap (λ (l : List NamedAddress). l ++ defined_names segments (map (name_row own) types))
    (both_names segments (map (name_row own) names) (map (function_row own) functions)
    ∙ ap (λ (l : List NamedAddress). l ++ defined_names segments (map (function_row own) functions)) (name names)
    ∙ ap (λ (l : List NamedAddress). map name_of names ++ l) (function_names own segments functions t))
    ∙ ap (λ (l : List NamedAddress). map name_of names ++ map function_name functions ++ l) (name types))

pub new_names : (image : Image) (t : Lists) → IsSound image
    → (image_of_parts (parts_with image t)).symbols ≡ all_names (names_of image) image.functions (types_in image) (marks_of image)
new_names image t sound =
    (has image t sound).symbols
    ∙ names_of_rows (parts_with image t).segments (image.segments ++ new_segments image t) (names_of image) (types_in image) image.functions (marks_of image)
    (all_there (parts_with image t).segments image.segments (new_segments image t) 0 image.functions sound.functions sound.within)

-- ---- a function's name is that of a symbol

and_true : (b c : Bool) → (b && c) ≡ true → (b ≡ true) × (c ≡ true)
and_true true true h = (refl, refl)
and_true true false h = absurd cc
and_true false c h = absurd cc

either_false : (a b : Bool) → (a || b) ≡ false → (a ≡ false) × (b ≡ false)
either_false true b h = absurd cc
either_false false b h = (refl, h)

eq_was : (a b : ℕ) → nat_eq a b ≡ true → a ≡ b
eq_was a b h = grind (arith, nat_tests)

-- what a symbol of a function says
record Says (a : ℕ) (s : Symbol) : Type 0 where
  typed : nat_eq (s.info % 16) 2 ≡ true
  defined : not (nat_eq s.section 0) ≡ true
  value : s.value ≡ a + 1
  even : a % 2 ≡ 0

says : (segments : List Segment) (a : ℕ) (s : Symbol) → is_function_at segments a s ≡ true → Says a s
says segments a s h =
    let four = and_true (nat_eq (s.info % 16) 2 && not (nat_eq s.section 0) && nat_eq s.value (a + 1) && nat_eq (a % 2) 0) (is_in_code segments a) h in
    let three = and_true (nat_eq (s.info % 16) 2 && not (nat_eq s.section 0) && nat_eq s.value (a + 1)) (nat_eq (a % 2) 0) four.0 in
    let two = and_true (nat_eq (s.info % 16) 2 && not (nat_eq s.section 0)) (nat_eq s.value (a + 1)) three.0 in
    let one = and_true (nat_eq (s.info % 16) 2) (not (nat_eq s.section 0)) two.0 in
    record { typed = one.0; defined = one.1; value = eq_was s.value (a + 1) two.1; even = eq_was (a % 2) 0 three.1 }

odd_value : (v a : ℕ) → v ≡ a + 1 → a % 2 ≡ 0 → nat_eq (v % 2) 1 ≡ true
odd_value v a h e = let odd : v % 2 ≡ 1 = omega (arith, h, e) in grind (arith, nat_tests)

is_thumb : (a : ℕ) (s : Symbol) → Says a s → is_thumb_function s ≡ true
is_thumb a s h = rw (h.typed, odd_value s.value a h.value h.even, h.defined) refl

in_place : (s : Symbol) (g : Segment) (a : ℕ) → s.value ≡ a + 1 → g.exec ≡ true → g.write ≡ false → (f : Function) × (function_in s (Some g) ≡ Some f) × (f.start ≡ a)
in_place s g a v e w =
    (record { name = s.name; start = s.value - 1; end = cond (nat_eq s.size 0) (segment_end g) (min (segment_end g) (s.value - 1 + s.size)) }, rw (e, w) refl, omega (arith, v))

function_found : (segments : List Segment) (a : ℕ) (s : Symbol) (g : Segment) → Says a s → segment_at segments a ≡ Some g → g.exec ≡ true → g.write ≡ false
    → named_address segments s ≡ record { name = s.name; address = a }
unfolding function_of_symbol
function_found segments a s g says at e w =
    let place : s.value - 1 ≡ a = omega (arith, says.value) in
    let there = in_place s g a says.value e w in
    let is : function_of_symbol segments s ≡ Some there.0 =
    ap (λ (b : Bool). cond b (function_in s (segment_at segments (s.value - 1))) None) (is_thumb a s says)
    ∙ ap (λ (n : ℕ). function_in s (segment_at segments n)) place ∙ ap (function_in s) at ∙ there.1 in
    named_some segments s there.0 is ∙ ap (λ (n : ℕ). record { name = s.name; address = n }) there.2

-- where no name passes a test, neither does that of a symbol that is found
found_fails : (segments : List Segment) (q : Symbol → Bool) (p : NamedAddress → Bool) (symbols : List Symbol) (s : Symbol) → ((x : Symbol) → q x ≡ true → is_defined x ≡ true) → find q symbols ≡ Some s
    → list_any p (defined_names segments symbols) ≡ false → (q s ≡ true) × (p (named_address segments s) ≡ false)
found_fails segments q p [] s d e h = absurd cc
found_fails segments q p (x ∷ symbols) s d e h = by (q x) (is_defined x) refl refl e h (λ f g. found_fails segments q p symbols s d f g)
  where
    by : (b c : Bool) → q x ≡ b → is_defined x ≡ c → cond b (Some x) (find q symbols) ≡ Some s → list_any p (map (λ s. named_address segments s) (cond c (x ∷ filter is_defined symbols) (filter is_defined symbols))) ≡ false
        → (find q symbols ≡ Some s → list_any p (defined_names segments symbols) ≡ false → (q s ≡ true) × (p (named_address segments s) ≡ false)) → (q s ≡ true) × (p (named_address segments s) ≡ false)
    by true true f g e h later =
        let same : x ≡ s = cc in
        (ap q (sym same) ∙ f, ap (λ (y : Symbol). p (named_address segments y)) (sym same) ∙ (either_false (p (named_address segments x)) (list_any p (defined_names segments symbols)) h).0)
    by true false f g e h later = let is = d x f in absurd cc
    by false true f g e h later = later e (either_false (p (named_address segments x)) (list_any p (defined_names segments symbols)) h).1
    by false false f g e h later = later e h

functions_fail : (segments : List Segment) (symbols : List Symbol) (p : NamedAddress → Bool) (fs : List Function) → All (IsFunctionOf segments symbols) fs → All (IsWithinCode segments) fs
    → list_any p (defined_names segments symbols) ≡ false → list_any p (map function_name fs) ≡ false
functions_fail segments symbols p [] each within h = refl
functions_fail segments symbols p (f ∷ fs) each within h =
    let one = All-head (IsFunctionOf segments symbols) f fs each in
    let in_code = All-head (IsWithinCode segments) f fs within in
    let found = found_fails segments (is_function_at segments f.start) p symbols one.symbol (λ x t. (says segments f.start x t).defined) one.first h in
    let is : named_address segments one.symbol ≡ function_name f =
    function_found segments f.start one.symbol in_code.segment (says segments f.start one.symbol found.0) in_code.holder in_code.exec in_code.read_only
    ∙ ap (λ (l : List ℕ). record { name = l; address = f.start }) (sym one.name) in
    let none : p (function_name f) ≡ false = ap p (sym is) ∙ found.1 in
    ap (λ (b : Bool). b || list_any p (map function_name fs)) none
    ∙ functions_fail segments symbols p fs (All-tail (IsFunctionOf segments symbols) f fs each) (All-tail (IsWithinCode segments) f fs within) h

symbols_named : (file : List ℕ) (image : Image) → image_of file ≡ Ok image → image.symbols ≡ defined_names image.segments (file_symbols file)
unfolding named_addresses
symbols_named file image h =
    symbols_as file image h ∙ ap (λ (l : List Segment). defined_names l (file_symbols file)) (sym (segments_as file image (accepted_from file image h)))

-- so no function has a name that no symbol has
pub none_of_functions : (file : List ℕ) (image : Image) (p : NamedAddress → Bool) → image_of file ≡ Ok image → list_any p image.symbols ≡ false → list_any p (map function_name image.functions) ≡ false
none_of_functions file image p h none =
    functions_fail image.segments (file_symbols file) p image.functions (functions_law file image h).each (sound_law file image h).within
    (ap (list_any p) (sym (symbols_named file image h)) ∙ none)

-- ---- the symbols that are found by their names

abbrev is_named : List ℕ → NamedAddress → Bool
is_named name n = same_bytes n.name name

find_none : (p : NamedAddress → Bool) (xs : List NamedAddress) → list_any p xs ≡ false → find p xs ≡ None
find_none p xs h = by (find p xs) (sym (any_is_some p xs) ∙ h)
  where
    by : (o : Option NamedAddress) → is_some o ≡ false → o ≡ None
    by None e = refl
    by (Some n) e = absurd cc

no_mark : (name : List ℕ) (marks : List (ℕ × Bool)) → same_bytes (codes "$t") name ≡ false → same_bytes (codes "$d") name ≡ false → list_any (is_named name) (map mark_name marks) ≡ false
no_mark name [] t d = refl
no_mark name (m ∷ marks) t d = ap (λ (b : Bool). b || list_any (is_named name) (map mark_name marks)) (by m.1) ∙ no_mark name marks t d
  where
    by : (b : Bool) → same_bytes (cond b (codes "$t") (codes "$d")) name ≡ false
    by true = t
    by false = d

abbrev named_at : List ℕ → Option ℕ → List NamedAddress
named_at name o = map name_of (name_at name o)

no_name : (name key : List ℕ) (o : Option ℕ) → same_bytes key name ≡ false → find (is_named name) (named_at key o) ≡ None
no_name name key None h = refl
no_name name key (Some a) h = rw h refl

own_name : (name : List ℕ) (o : Option ℕ) → same_bytes name name ≡ true → find (is_named name) (named_at name o) ≡ option_map (λ a. record { name = name; address = a }) o
own_name name None h = refl
own_name name (Some a) h = rw h refl

split_names : (image : Image) (key : List ℕ) (keys : List (List ℕ)) → map name_of (names_in image (key ∷ keys)) ≡ named_at key (symbol_in image key) ++ map name_of (names_in image keys)
split_names image key keys =
    ap (map name_of) (flat_map-cons (λ name. name_at name (symbol_in image name)) key keys) ∙ map-append name_of (name_at key (symbol_in image key)) (names_in image keys)

none_after : (image : Image) (name : List ℕ) (keys : List (List ℕ)) → list_any (λ key. same_bytes key name) keys ≡ false → find (is_named name) (map name_of (names_in image keys)) ≡ None
none_after image name [] h = refl
none_after image name (key ∷ keys) h =
    let both = either_false (same_bytes key name) (list_any (λ key. same_bytes key name) keys) h in
    ap (find (is_named name)) (split_names image key keys)
    ∙ find-append (is_named name) (named_at key (symbol_in image key)) (map name_of (names_in image keys))
    ∙ ap (λ (o : Option NamedAddress). option_or o (find (is_named name) (map name_of (names_in image keys)))) (no_name name key (symbol_in image key) both.0)
    ∙ none_after image name keys both.1

or_none : (o : Option NamedAddress) → option_or o None ≡ o
or_none None = refl
or_none (Some n) = refl

name_found : (image : Image) (name : List ℕ) (front back : List (List ℕ)) → list_any (λ key. same_bytes key name) front ≡ false → list_any (λ key. same_bytes key name) back ≡ false → same_bytes name name ≡ true
    → find (is_named name) (map name_of (names_in image (front ++ name ∷ back))) ≡ option_map (λ a. record { name = name; address = a }) (symbol_in image name)
name_found image name [] back f b s =
    ap (find (is_named name)) (split_names image name back)
    ∙ find-append (is_named name) (named_at name (symbol_in image name)) (map name_of (names_in image back))
    ∙ ap (option_or (find (is_named name) (named_at name (symbol_in image name)))) (none_after image name back b)
    ∙ or_none (find (is_named name) (named_at name (symbol_in image name))) ∙ own_name name (symbol_in image name) s
name_found image name (key ∷ front) back f b s =
    let both = either_false (same_bytes key name) (list_any (λ key. same_bytes key name) front) f in
    ap (find (is_named name)) (split_names image key (front ++ name ∷ back))
    ∙ find-append (is_named name) (named_at key (symbol_in image key)) (map name_of (names_in image (front ++ name ∷ back)))
    ∙ ap (λ (o : Option NamedAddress). option_or o (find (is_named name) (map name_of (names_in image (front ++ name ∷ back))))) (no_name name key (symbol_in image key) both.0)
    ∙ name_found image name front back both.1 b s

no_type : (name : List ℕ) (addresses : List ℕ) → ((a : ℕ) → same_bytes (type_name a) name ≡ false) → list_any (is_named name) (map name_of (types_of addresses)) ≡ false
no_type name [] h = refl
no_type name (a ∷ addresses) h = ap (λ (b : Bool). b || list_any (is_named name) (map name_of (types_of addresses))) (h a) ∙ no_type name addresses h

-- the symbol of a name that neither a mark nor a type has
stays : (file : List ℕ) (image : Image) (name : List ℕ) (front back : List (List ℕ)) → image_of file ≡ Ok image → front ++ name ∷ back ≡ kept_names
    → list_any (λ key. same_bytes key name) front ≡ false → list_any (λ key. same_bytes key name) back ≡ false → same_bytes name name ≡ true → same_bytes (codes "$t") name ≡ false
    → same_bytes (codes "$d") name ≡ false → ((a : ℕ) → same_bytes (type_name a) name ≡ false) → symbol_in (image_of_parts (new_parts image)) name ≡ symbol_in image name
stays file image name front back h kept f b s t d types =
    ap (λ (l : List NamedAddress). option_map (λ (n : NamedAddress). n.address) (find (is_named name) l)) (new_names image (new_tables image) (sound_law file image h))
    ∙ ap (option_map (λ (n : NamedAddress). n.address))
    (find-append (is_named name) (map mark_name (marks_of image)) (map name_of (names_of image) ++ map function_name image.functions ++ map name_of (types_in image))
    ∙ ap (λ (o : Option NamedAddress). option_or o (find (is_named name) (map name_of (names_of image) ++ map function_name image.functions ++ map name_of (types_in image))))
    (find_none (is_named name) (map mark_name (marks_of image)) (no_mark name (marks_of image) t d))
    ∙ find-append (is_named name) (map name_of (names_of image) ++ map function_name image.functions) (map name_of (types_in image))
    ∙ ap (option_or (find (is_named name) (map name_of (names_of image) ++ map function_name image.functions))) (find_none (is_named name) (map name_of (types_in image)) (no_type name (type_symbols_of image.symbols) types))
    ∙ or_none (find (is_named name) (map name_of (names_of image) ++ map function_name image.functions))
    ∙ find-append (is_named name) (map name_of (names_of image)) (map function_name image.functions)
    ∙ ap (λ (o : Option NamedAddress). option_or o (find (is_named name) (map function_name image.functions)))
    (ap (λ (keys : List (List ℕ)). find (is_named name) (map name_of (names_in image keys))) (sym kept) ∙ name_found image name front back f b s))
    ∙ by (find (is_named name) image.symbols) refl
  where
    by : (o : Option NamedAddress) → find (is_named name) image.symbols ≡ o
        → option_map (λ (n : NamedAddress). n.address) (option_or (option_map (λ a. record { name = name; address = a }) (option_map (λ (n : NamedAddress). n.address) o)) (find (is_named name) (map function_name image.functions)))
        ≡ option_map (λ (n : NamedAddress). n.address) o
    by (Some n) e = refl
    by None e =
        let none : list_any (is_named name) image.symbols ≡ false = any_is_some (is_named name) image.symbols ∙ ap is_some e in
        ap (option_map (λ (n : NamedAddress). n.address)) (find_none (is_named name) (map function_name image.functions) (none_of_functions file image (is_named name) h none))

-- no other name of the list, no mark and no type has the name
record IsApart (front : List (List ℕ)) (name : List ℕ) (back : List (List ℕ)) : Type 0 where
  front_other : list_any (λ key. same_bytes key name) front ≡ false
  back_other : list_any (λ key. same_bytes key name) back ≡ false
  same : same_bytes name name ≡ true
  code : same_bytes (codes "$t") name ≡ false
  words : same_bytes (codes "$d") name ≡ false
  types : (a : ℕ) → same_bytes (type_name a) name ≡ false

abbrev Stays : Image → List ℕ → Type 0
Stays image name = symbol_in (image_of_parts (new_parts image)) name ≡ symbol_in image name

stays_apart : (file : List ℕ) (image : Image) (front : List (List ℕ)) (name : List ℕ) (back : List (List ℕ)) → image_of file ≡ Ok image → front ++ name ∷ back ≡ kept_names → IsApart front name back → Stays image name
stays_apart file image front name back h kept i = stays file image name front back h kept i.front_other i.back_other i.same i.code i.words i.types

type_apart : (name : List ℕ) → ((a : ℕ) → same_bytes (codes "_ZTI" ++ address_text a) name ≡ false) → (a : ℕ) → same_bytes (type_name a) name ≡ false
unfolding type_name
type_apart name h a = h a

pub law_of_names : NamedSymbolsStay
law_of_names file image h =
    All-cons (Stays image) FUNDAMENTAL.now (CLASS.now ∷ SINGLE.now ∷ MANY.now ∷ POINTER.now ∷ PROFILE.now ∷ [])
    (stays_apart file image [] FUNDAMENTAL.now (CLASS.now ∷ SINGLE.now ∷ MANY.now ∷ POINTER.now ∷ PROFILE.now ∷ []) h refl
    (record { front_other = refl; back_other = refl; same = refl; code = refl; words = refl; types = type_apart FUNDAMENTAL.now (λ a. refl) }))
    (All-cons (Stays image) CLASS.now (SINGLE.now ∷ MANY.now ∷ POINTER.now ∷ PROFILE.now ∷ [])
    (stays_apart file image (FUNDAMENTAL.now ∷ []) CLASS.now (SINGLE.now ∷ MANY.now ∷ POINTER.now ∷ PROFILE.now ∷ []) h refl
    (record { front_other = refl; back_other = refl; same = refl; code = refl; words = refl; types = type_apart CLASS.now (λ a. refl) }))
    (All-cons (Stays image) SINGLE.now (MANY.now ∷ POINTER.now ∷ PROFILE.now ∷ [])
    (stays_apart file image (FUNDAMENTAL.now ∷ CLASS.now ∷ []) SINGLE.now (MANY.now ∷ POINTER.now ∷ PROFILE.now ∷ []) h refl
    (record { front_other = refl; back_other = refl; same = refl; code = refl; words = refl; types = type_apart SINGLE.now (λ a. refl) }))
    (All-cons (Stays image) MANY.now (POINTER.now ∷ PROFILE.now ∷ [])
    (stays_apart file image (FUNDAMENTAL.now ∷ CLASS.now ∷ SINGLE.now ∷ []) MANY.now (POINTER.now ∷ PROFILE.now ∷ []) h refl
    (record { front_other = refl; back_other = refl; same = refl; code = refl; words = refl; types = type_apart MANY.now (λ a. refl) }))
    (All-cons (Stays image) POINTER.now (PROFILE.now ∷ [])
    (stays_apart file image (FUNDAMENTAL.now ∷ CLASS.now ∷ SINGLE.now ∷ MANY.now ∷ []) POINTER.now (PROFILE.now ∷ []) h refl
    (record { front_other = refl; back_other = refl; same = refl; code = refl; words = refl; types = type_apart POINTER.now (λ a. refl) }))
    (All-cons (Stays image) PROFILE.now []
    (stays_apart file image (FUNDAMENTAL.now ∷ CLASS.now ∷ SINGLE.now ∷ MANY.now ∷ POINTER.now ∷ []) PROFILE.now [] h refl
    (record { front_other = refl; back_other = refl; same = refl; code = refl; words = refl; types = type_apart PROFILE.now (λ a. refl) }))
    (All-nil (Stays image)))))))

-- ---- types

abbrev is_type : NamedAddress → Bool
is_type n = starts_with nat_eq n.name (codes "_ZTI")

-- a type's symbol at an address
abbrev is_type_at : ℕ → NamedAddress → Bool
is_type_at a n = is_type n && nat_eq n.address a

any_type : (a : ℕ) (symbols : List NamedAddress) → list_any (λ t. nat_eq t a) (type_symbols_of symbols) ≡ list_any (is_type_at a) symbols
any_type a [] = refl
any_type a (n ∷ symbols) = by (is_type n) (any_type a symbols)
  where
    by : (b : Bool) → list_any (λ t. nat_eq t a) (type_symbols_of symbols) ≡ list_any (is_type_at a) symbols
        → list_any (λ t. nat_eq t a) (map (λ (m : NamedAddress). m.address) (cond b (n ∷ filter is_type symbols) (filter is_type symbols))) ≡ ((b && nat_eq n.address a) || list_any (is_type_at a) symbols)
    by true h = ap (λ (b : Bool). nat_eq n.address a || b) h
    by false h = h

no_mark_type : (a : ℕ) (marks : List (ℕ × Bool)) → list_any (is_type_at a) (map mark_name marks) ≡ false
no_mark_type a [] = refl
no_mark_type a (m ∷ marks) = ap (λ (b : Bool). (b && nat_eq m.0 a) || list_any (is_type_at a) (map mark_name marks)) (by m.1) ∙ no_mark_type a marks
  where
    by : (b : Bool) → starts_with nat_eq (cond b (codes "$t") (codes "$d")) (codes "_ZTI") ≡ false
    by true = refl
    by false = refl

no_named_type : (a : ℕ) (key : List ℕ) (o : Option ℕ) → starts_with nat_eq key (codes "_ZTI") ≡ false → list_any (is_type_at a) (named_at key o) ≡ false
no_named_type a key None h = refl
no_named_type a key (Some b) h = ap (λ (c : Bool). (c && nat_eq b a) || false) h

no_names_type : (a : ℕ) (image : Image) (keys : List (List ℕ)) → list_any (λ key. starts_with nat_eq key (codes "_ZTI")) keys ≡ false → list_any (is_type_at a) (map name_of (names_in image keys)) ≡ false
no_names_type a image [] h = refl
no_names_type a image (key ∷ keys) h =
    let both = either_false (starts_with nat_eq key (codes "_ZTI")) (list_any (λ key. starts_with nat_eq key (codes "_ZTI")) keys) h in
    ap (list_any (is_type_at a)) (split_names image key keys)
    ∙ list_any-append (is_type_at a) (named_at key (symbol_in image key)) (map name_of (names_in image keys))
    ∙ ap (λ (b : Bool). b || list_any (is_type_at a) (map name_of (names_in image keys))) (no_named_type a key (symbol_in image key) both.0)
    ∙ no_names_type a image keys both.1

type_begins : (a : ℕ) → starts_with nat_eq (type_name a) (codes "_ZTI") ≡ true
unfolding type_name
type_begins a = refl

types_any : (a : ℕ) (addresses : List ℕ) → list_any (is_type_at a) (map name_of (types_of addresses)) ≡ list_any (λ t. nat_eq t a) addresses
types_any a [] = refl
types_any a (b ∷ addresses) =
    ap (λ (c : Bool). (c && nat_eq b a) || list_any (is_type_at a) (map name_of (types_of addresses))) (type_begins b) ∙ ap (λ (c : Bool). nat_eq b a || c) (types_any a addresses)

absorbed : (b c : Bool) → (c ≡ false → b ≡ false) → (b || c) ≡ c
absorbed true true h = refl
absorbed true false h = absurd (let no = h refl in cc)
absorbed false c h = refl

pub law_of_types : TypesStay
law_of_types file image a h =
    let p = is_type_at a in
    let marks : List NamedAddress = map mark_name (marks_of image) in
    let names : List NamedAddress = map name_of (names_of image) in
    let functions : List NamedAddress = map function_name image.functions in
    let types : List NamedAddress = map name_of (types_in image) in
    any_type a (image_of_parts (new_parts image)).symbols
    ∙ ap (list_any p) (new_names image (new_tables image) (sound_law file image h))
    ∙ list_any-append p marks (names ++ functions ++ types)
    ∙ ap (λ (b : Bool). b || list_any p (names ++ functions ++ types)) (no_mark_type a (marks_of image))
    ∙ list_any-append p (names ++ functions) types
    ∙ ap (λ (b : Bool). b || list_any p types) (list_any-append p names functions ∙ ap (λ (b : Bool). b || list_any p functions) (no_names_type a image kept_names refl))
    ∙ ap (λ (b : Bool). list_any p functions || b) (types_any a (type_symbols_of image.symbols) ∙ any_type a image.symbols)
    ∙ absorbed (list_any p functions) (list_any p image.symbols) (none_of_functions file image p h)
    ∙ sym (any_type a image.symbols)
