-- Segments that hold addresses of rows.
use Rattle.eh_index.specs.Laws.{TablesAreThere}
use Rattle.std.proofs.Common.{◌%◌, nat_eq, length-drop, ◌≡◌, ℕ, zero, suc, ◌+◌, ◌-◌, ◌<◌, ◌≤◌, Bool, true, false, not, ◌&&◌, ◌||◌, cond, nat_le, nat_lt, List, [], ◌∷◌, length, drop, get_or, Option, Some, None, is_some, option_map, refl, sym, ◌∙◌, ap, inl, inr, arith}
use Rattle.std.proofs.lemmas.Bool.Decides.{nat_tests}
use Rattle.std.proofs.lemmas.Bool.{cases_lt, false≢true}
use Rattle.std.specs.List.{list_any, find}
use Rattle.elf_image.specs.declared.limits.TheConstants.{ADDRESS_LIMIT}
use Rattle.elf_image.specs.Segments.{Segment, holds, segment_end, RiseFrom}
use Rattle.elf_image.specs.Functions.{segment_at}
use Rattle.elf_image.specs.Image.{Image, IsSound, StandsAt, IndexStands}
use Rattle.elf_image.proofs.Lookups.{any_is_some, segment_fits, execute_some, execute_none, find_holder, filtered, both_true}
use Rattle.eh_index.specs.Places.{is_code_bound, holds_byte, bytes_at}

-- ---- the index lies below ADDRESS_LIMIT

short_at : (low : ℕ) (xs : List Segment) (i : ℕ) (d : Segment) → RiseFrom low xs → i < length xs → length (get_or xs i d).bytes ≤ (get_or xs i d).size
short_at low [] i d h inside = absurd (omega arith)
short_at low (s ∷ xs) zero d h inside = h.2
short_at low (s ∷ xs) (suc i) d h inside = short_at (s.start + s.size) xs i d h.3 (omega arith)

stands_below : (segments : List Segment) (start : ℕ) (bytes : List ℕ) → RiseFrom 0 segments → StandsAt segments start bytes → start + length bytes ≤ ADDRESS_LIMIT
stands_below segments start bytes rise h =
    let c = h.there in
    let fits = rw c.2 at (segment_fits 0 segments c.0 h.segment rise c.1) in
    let short = rw c.2 at (short_at 0 segments c.0 h.segment rise c.1) in
    omega (arith, h.below)

index_fits_in : (segments : List Segment) (start : ℕ) (bytes : List ℕ) → RiseFrom 0 segments → IndexStands segments start bytes → start + length bytes ≤ ADDRESS_LIMIT
index_fits_in segments start bytes rise (inl h) = omega (arith, h.0, ap length h.1)
index_fits_in segments start bytes rise (inr h) = stands_below segments start bytes rise h

pub index_fits : (image : Image) → IsSound image → image.index_start + length image.index_bytes ≤ ADDRESS_LIMIT
index_fits image h = index_fits_in image.segments image.index_start image.index_bytes h.rise h.index

pub ruleset places = (index_fits)

-- ---- code

pub executes_some : (image : Image) (a : ℕ) (s : Segment) → IsSound image → segment_at image.segments a ≡ Some s → list_any (λ t. holds a t && t.exec) image.segments ≡ s.exec
executes_some image a s h e = execute_some a image.segments s h.rise e

pub executes_none : (image : Image) (a : ℕ) → IsSound image → segment_at image.segments a ≡ None → list_any (λ t. holds a t && t.exec) image.segments ≡ false
executes_none image a h e = execute_none a image.segments h.rise e

pub ruleset executing = (executes_some, executes_none)

le_true : (x y : ℕ) → x ≤ y → nat_le x y ≡ true
le_true x y h = grind (arith, nat_tests)

le_false : (x y : ℕ) → y < x → nat_le x y ≡ false
le_false x y h = grind (arith, nat_tests)

lt_true : (x y : ℕ) → x < y → nat_lt x y ≡ true
lt_true x y h = grind (arith, nat_tests)

lt_false : (x y : ℕ) → y ≤ x → nat_lt x y ≡ false
lt_false x y h = grind (arith, nat_tests)

no_code : (h c g : Bool) → ((h && false) || (c && (g && false))) ≡ false
no_code true true true = refl
no_code true true false = refl
no_code true false g = refl
no_code false true true = refl
no_code false true false = refl
no_code false false g = refl

only_before : (c h : Bool) → ((false && true) || (c && ((false && h) && true))) ≡ false
only_before true h = refl
only_before false h = refl

bound_code : (a start size : ℕ) → 0 < size
    → (((nat_le start a && nat_lt a (start + size)) && true) || (nat_lt 0 a && ((nat_le start (a - 1) && nat_lt (a - 1) (start + size)) && true))) ≡ (nat_le start a && nat_le a (start + size))
bound_code a start size some =
    elim (cases_lt a start) [
      | inl below ↦ rw (le_false start a below, le_false start (a - 1) (omega arith)) (only_before (nat_lt 0 a) (nat_lt (a - 1) (start + size)))
      | inr at ↦ elim (cases_lt a (start + size)) [
        | inl inside ↦ rw (le_true start a at, lt_true a (start + size) inside, le_true a (start + size) (omega arith)) refl
        | inr past ↦ elim (cases_lt (start + size) a) [
          | inl above ↦
              rw (le_true start a at, lt_false a (start + size) past, lt_true 0 a (omega arith), le_true start (a - 1) (omega arith), lt_false (a - 1) (start + size) (omega arith), le_false a (start + size) above)
              refl
          | inr end ↦
              rw (le_true start a at, lt_false a (start + size) past, lt_true 0 a (omega arith), le_true start (a - 1) (omega arith), lt_true (a - 1) (start + size) (omega arith), le_true a (start + size) end)
              refl
        ]
      ]
    ]

bound_one : (a : ℕ) (s : Segment) (b : Bool) → 0 < s.size
    → ((holds a s && b) || (nat_lt 0 a && (holds (a - 1) s && b))) ≡ ((b && nat_le s.start a) && nat_le a (segment_end s))
bound_one a s true some = bound_code a s.start s.size some
bound_one a s false some = no_code (holds a s) (nat_lt 0 a) (holds (a - 1) s)

regroup : (p q c r t : Bool) → ((p || q) || (c && (r || t))) ≡ ((p || (c && r)) || (q || (c && t)))
regroup true q c r t = refl
regroup false true true true t = refl
regroup false true true false t = refl
regroup false true false r t = refl
regroup false false true true t = refl
regroup false false true false t = refl
regroup false false false r t = refl

any_bound : (a low : ℕ) (xs : List Segment) → RiseFrom low xs
    → (list_any (λ s. holds a s && s.exec) xs || (nat_lt 0 a && list_any (λ s. holds (a - 1) s && s.exec) xs)) ≡ is_code_bound xs a
any_bound a low [] h = none (nat_lt 0 a)
  where
    none : (c : Bool) → (false || (c && false)) ≡ false
    none true = refl
    none false = refl
any_bound a low (s ∷ xs) h =
    regroup (holds a s && s.exec) (list_any (λ s. holds a s && s.exec) xs) (nat_lt 0 a) (holds (a - 1) s && s.exec) (list_any (λ s. holds (a - 1) s && s.exec) xs)
    ∙ ap (λ (b : Bool). b || (list_any (λ s. holds a s && s.exec) xs || (nat_lt 0 a && list_any (λ s. holds (a - 1) s && s.exec) xs))) (bound_one a s s.exec h.1)
    ∙ ap (λ (b : Bool). ((s.exec && nat_le s.start a) && nat_le a (segment_end s)) || b) (any_bound a (s.start + s.size) xs h.3)

pub bound_is : (image : Image) (a : ℕ) → IsSound image
    → (list_any (λ s. holds a s && s.exec) image.segments || (nat_lt 0 a && list_any (λ s. holds (a - 1) s && s.exec) image.segments)) ≡ is_code_bound image.segments a
bound_is image a h = any_bound a 0 image.segments h.rise

both_ways : (e f c b : Bool) → (e || (c && f)) ≡ b → e ≡ true → true ≡ b
both_ways true f c b h i = h
both_ways false f c b h i = absurd (false≢true i)

second_way : (e f c b : Bool) → (e || (c && f)) ≡ b → e ≡ false → c ≡ true → f ≡ b
second_way true f c b h i j = absurd (false≢true (sym i))
second_way false f true b h i j = h
second_way false f false b h i j = absurd (false≢true j)

pub bound_here : (image : Image) (a : ℕ) → IsSound image → list_any (λ s. holds a s && s.exec) image.segments ≡ true → true ≡ is_code_bound image.segments a
bound_here image a h e = both_ways _ (list_any (λ s. holds (a - 1) s && s.exec) image.segments) (nat_lt 0 a) (is_code_bound image.segments a) (bound_is image a h) e

pub bound_before : (image : Image) (a : ℕ) → IsSound image → list_any (λ s. holds a s && s.exec) image.segments ≡ false → 0 < a
    → list_any (λ s. holds (a - 1) s && s.exec) image.segments ≡ is_code_bound image.segments a
bound_before image a h e some = second_way (list_any (λ s. holds a s && s.exec) image.segments) _ (nat_lt 0 a) (is_code_bound image.segments a) (bound_is image a h) e (lt_true 0 a some)

no_way : (e f c b : Bool) → (e || (c && f)) ≡ b → e ≡ false → c ≡ false → c ≡ b
no_way true f c b h i j = absurd (false≢true (sym i))
no_way false f true b h i j = absurd (false≢true (sym j))
no_way false f false b h i j = h

pub bound_nowhere : (image : Image) (a : ℕ) → IsSound image → list_any (λ s. holds a s && s.exec) image.segments ≡ false → a ≤ 0 → nat_lt 0 a ≡ is_code_bound image.segments a
bound_nowhere image a h e none =
    no_way (list_any (λ s. holds a s && s.exec) image.segments) (list_any (λ s. holds (a - 1) s && s.exec) image.segments) (nat_lt 0 a) (is_code_bound image.segments a) (bound_is image a h) e (lt_false 0 a none)

-- ---- bytes

le_from : (x y : ℕ) → nat_le x y ≡ true → x ≤ y
le_from x y h = grind (arith, nat_tests)

lt_from : (x y : ℕ) → nat_lt x y ≡ true → x < y
lt_from x y h = grind (arith, nat_tests)

byte_held : (a : ℕ) (s : Segment) → length s.bytes ≤ s.size → holds_byte a s ≡ true → holds a s ≡ true
byte_held a s short h =
    let last = both_true (not s.write && nat_le s.start a) (nat_lt a (s.start + length s.bytes)) h in
    let first = both_true (not s.write) (nat_le s.start a) last.0 in
    let high = lt_from a (s.start + length s.bytes) last.1 in
    rw (first.1, lt_true a (s.start + s.size) (omega arith)) refl

bytes_found : (segments : List Segment) (a : ℕ) → RiseFrom 0 segments → bytes_at segments a ≡ option_map (λ (s : Segment). drop (a - s.start) s.bytes) (filtered (holds_byte a) (segment_at segments a))
bytes_found segments a h = ap (option_map (λ (s : Segment). drop (a - s.start) s.bytes)) (find_holder (holds_byte a) a segments (byte_held a) h)

bytes_step : (a : ℕ) (s : Segment) (b : Bool) → option_map (λ (x : Segment). drop (a - x.start) x.bytes) (cond b (Some s) None) ≡ cond b (Some (drop (a - s.start) s.bytes)) None
bytes_step a s true = refl
bytes_step a s false = refl

pub reading_some : (image : Image) (a : ℕ) (s : Segment) → IsSound image → segment_at image.segments a ≡ Some s
    → bytes_at image.segments a ≡ cond (holds_byte a s) (Some (drop (a - s.start) s.bytes)) None
reading_some image a s h e = bytes_found image.segments a h.rise ∙ rw e (bytes_step a s (holds_byte a s))

pub reading_none : (image : Image) (a : ℕ) → IsSound image → segment_at image.segments a ≡ None → bytes_at image.segments a ≡ None
reading_none image a h e = bytes_found image.segments a h.rise ∙ rw e refl

pub ruleset reading = (reading_some, reading_none)

mapped_some : {X Y : Type 0} (f : X → Y) (o : Option X) → is_some (option_map f o) ≡ is_some o
mapped_some f None = refl
mapped_some f (Some x) = refl

pub has_bytes : (segments : List Segment) (a : ℕ) → is_some (bytes_at segments a) ≡ list_any (holds_byte a) segments
has_bytes segments a = mapped_some (λ (s : Segment). drop (a - s.start) s.bytes) (find (holds_byte a) segments) ∙ sym (any_is_some (holds_byte a) segments)

pub has_some : (segments : List Segment) (a : ℕ) (bytes : List ℕ) → Some bytes ≡ bytes_at segments a → true ≡ list_any (holds_byte a) segments
has_some segments a bytes e = ap is_some e ∙ has_bytes segments a

pub has_none : (segments : List Segment) (a : ℕ) → None ≡ bytes_at segments a → false ≡ list_any (holds_byte a) segments
has_none segments a e = ap is_some e ∙ has_bytes segments a

found_passes : (p : Segment → Bool) (xs : List Segment) → list_any p xs ≡ true → (s : Segment) × (find p xs ≡ Some s) × (p s ≡ true)
found_passes p [] h = absurd (false≢true h)
found_passes p (x ∷ xs) h = by_test (p x) refl h (found_passes p xs)
  where
    by_test : (b : Bool) → p x ≡ b → (b || list_any p xs) ≡ true → (list_any p xs ≡ true → (s : Segment) × (find p xs ≡ Some s) × (p s ≡ true))
        → (s : Segment) × (cond b (Some x) (find p xs) ≡ Some s) × (p s ≡ true)
    by_test true e any rest = (x, refl, e)
    by_test false e any rest = rest any

pub tables_there : TablesAreThere
tables_there segments a h =
    let any = (both_true (nat_eq (a % 4) 0) (list_any (holds_byte a) segments) h).1 in
    let f = found_passes (holds_byte a) segments any in
    let s = f.0 in
    let last = both_true (not s.write && nat_le s.start a) (nat_lt a (s.start + length s.bytes)) f.2 in
    let first = both_true (not s.write) (nat_le s.start a) last.0 in
    let low = le_from s.start a first.1 in
    let high = lt_from a (s.start + length s.bytes) last.1 in
    (drop (a - s.start) s.bytes, ap (option_map (λ (x : Segment). drop (a - x.start) x.bytes)) f.1, omega (arith, length-drop (a - s.start) s.bytes))
