-- Counts: of code, and of functions.
use Rattle.std.proofs.Common.{◌≡◌, ℕ, ◌+◌, ◌-◌, ◌<◌, ◌≤◌, zero, suc, List, [], ◌∷◌, length, get_or, Bool, true, false, Option, Some, None, refl, sym, ap, ◌∙◌, arith}
use Rattle.std.specs.Prelude.{◌&&◌, not, if◌then◌else◌, is_some, sum_by}
use Rattle.std.specs.Option.{is_none}
use Rattle.std.proofs.lemmas.List.Sums.{sum_by-cons}
use Rattle.std.specs.List.{count_by, range_with_len}
use Rattle.elf_image.specs.declared.limits.TheConstants.{ADDRESS_LIMIT}
use Rattle.elf_image.specs.Segments.{Segment, RiseFrom, segment_end}
use Rattle.elf_image.specs.Image.{Image, is_code_in, function_at}
use Rattle.frame_facts.specs.declared.cause.FrameCause.{FrameCause}
use Rattle.frame_facts.specs.declared.cause.FrameCause.TheVariants as cause
use Rattle.frame_audit.specs.declared.counts.Question.TheVariants.{Unwinds, UnwindsWell, CantUnwind, CantUnwindWell, Well, Cause}
use Rattle.frame_audit.specs.declared.counts.TheConstants.{CAUSES}
use Rattle.frame_audit.specs.declared.functions.FrameFinding.{FrameFinding}
use Rattle.frame_audit.specs.Code.{is_stray, is_held, halfwords_in}
use Rattle.frame_audit.specs.Counts.{is_cause, is_counted}
use Rattle.frame_audit.specs.Laws.{count_by_cause, CodeIsDivided, CountsAddUp}
use Rattle.frame_audit.specs.Listing.{FunctionAudit}

-- ---- counts in general

abbrev tick : Bool → ℕ
tick b = if b then 1 else 0

tick_most : (b : Bool) → tick b ≤ 1
tick_most true = omega arith
tick_most false = omega arith

count_cons : {X : Type 0} (p : X → Bool) (x : X) (xs : List X) → count_by p (x ∷ xs) ≡ tick (p x) + count_by p xs
count_cons p x xs = sum_by-cons (λ y. tick (p y)) x xs

-- one of two tests passes exactly what a third does
split_count : {X : Type 0} (p q r : X → Bool) → ((x : X) → tick (p x) + tick (q x) ≡ tick (r x)) → (xs : List X) → count_by p xs + count_by q xs ≡ count_by r xs
split_count p q r h [] = refl
split_count p q r h (x ∷ xs) =
    let one = h x in
    let rest = split_count p q r h xs in
    omega (arith, one, rest, count_cons p x xs, count_cons q x xs, count_cons r x xs)

-- a range grows at its end
count_suc : (p : ℕ → Bool) (a n j : ℕ) → a + n ≡ j → count_by p (range_with_len a (suc n)) ≡ count_by p (range_with_len a n) + tick (p j)
count_suc p a zero j e =
    let same : a ≡ j = omega (arith, e) in
    let last : tick (p a) ≡ tick (p j) = ap (λ k. tick (p k)) same in
    let first = count_cons p a [] in
    omega (arith, last, first)
count_suc p a (suc n) j e =
    let rest = count_suc p (a + 1) n j (omega (arith, e)) in
    omega (arith, rest, count_cons p a (range_with_len (a + 1) (suc n)), count_cons p a (range_with_len (a + 1) n))

-- one number more is counted
pub counted_on : (p : ℕ → Bool) (start a count one : ℕ) (b : Bool) → start ≤ a → count ≡ count_by p (range_with_len start (a - start)) → count ≤ a - start → b ≡ p a → one ≡ tick b
    → (count + one ≡ count_by p (range_with_len start (a + 1 - start))) × (count + one ≤ a + 1 - start)
counted_on p start a count one b l e m t o =
    let n : a + 1 - start ≡ suc (a - start) = omega (arith, l) in
    let more = count_suc p start (a - start) a (omega (arith, l)) in
    let is : one ≡ tick (p a) = o ∙ ap tick t in
    let most = tick_most (p a) in
    (rw n (omega (arith, e, more, is)), omega (arith, m, is, most, l))

sum_split : {X : Type 0} (f g h : X → ℕ) → ((x : X) → f x + g x ≡ h x) → (xs : List X) → sum_by f xs + sum_by g xs ≡ sum_by h xs
sum_split f g h e [] = refl
sum_split f g h e (x ∷ xs) =
    let one = e x in
    let rest = sum_split f g h e xs in
    omega (arith, one, rest, sum_by-cons f x xs, sum_by-cons g x xs, sum_by-cons h x xs)

-- ---- code

held_or_stray : (image : Image) (a : ℕ) → tick (is_held image a) + tick (is_stray image a) ≡ tick (is_code_in image a)
held_or_stray image a = go (is_code_in image a) (function_at image a)
  where
    go : (c : Bool) (o : Option ℕ) → tick (c && is_some o) + tick (c && is_none o) ≡ tick c
    go true None = refl
    go true (Some n) = refl
    go false o = refl

pub code_divided : CodeIsDivided
unfolding halfwords_in
code_divided image =
    let all = sum_split (halfwords_in (is_held image)) (halfwords_in (is_stray image)) (halfwords_in (is_code_in image))
    (λ s. split_count (is_held image) (is_stray image) (is_code_in image) (held_or_stray image) (range_with_len s.start s.size)) image.segments in
    omega (arith, all)

-- ---- where segments end

rise_ends : (from : ℕ) (ys : List Segment) → RiseFrom from ys → from ≤ ADDRESS_LIMIT
rise_ends from [] q = q
rise_ends from (y ∷ ys) q = let l = rise_ends (y.start + y.size) ys q.3 in omega (arith, q.0, q.1, l)

pub ends_low : (low : ℕ) (xs : List Segment) (i : ℕ) (d : Segment) → RiseFrom low xs → i < length xs → segment_end (get_or xs i d) ≤ ADDRESS_LIMIT
ends_low low [] i d r l = absurd (omega (arith, l))
ends_low low (x ∷ xs) zero d r l = rise_ends (x.start + x.size) xs r.3
ends_low low (x ∷ xs) (suc i) d r l = ends_low (x.start + x.size) xs i d r.3 (omega (arith, l))

-- ---- functions

one_kind : (a : FunctionAudit) → tick (is_counted Unwinds a) + tick (is_counted CantUnwind a) ≡ 1
one_kind a = go a.unwinds
  where
    go : (b : Bool) → tick b + tick (not b) ≡ 1
    go true = refl
    go false = refl

kinds : (xs : List FunctionAudit) → count_by (is_counted Unwinds) xs + count_by (is_counted CantUnwind) xs ≡ length xs
kinds [] = refl
kinds (a ∷ xs) =
    let one = one_kind a in
    let rest = kinds xs in
    omega (arith, one, rest, count_cons (is_counted Unwinds) a xs, count_cons (is_counted CantUnwind) a xs)

one_well : (a : FunctionAudit) → tick (is_counted UnwindsWell a) + tick (is_counted CantUnwindWell a) ≡ tick (is_counted Well a)
one_well a = go a.unwinds (is_none a.unwell)
  where
    go : (b c : Bool) → tick (b && c) + tick (not b && c) ≡ tick c
    go true true = refl
    go true false = refl
    go false true = refl
    go false false = refl

-- by how many of the listed causes a function isn't well
causes_of : Option FrameFinding → ℕ
causes_of u = sum_by (λ c. tick (is_cause c u)) CAUSES

no_cause_of : causes_of None ≡ 0
unfolding causes_of
no_cause_of = refl

one_cause_of : (at : ℕ) (c : FrameCause) → causes_of (Some (record { at = at; cause = c })) ≡ 1
unfolding causes_of
one_cause_of at cause.Undecodable = refl
one_cause_of at cause.BranchOut = refl
one_cause_of at cause.IndirectBranch = refl
one_cause_of at cause.CallNotFunction = refl
one_cause_of at cause.SpWrite = refl
one_cause_of at cause.JoinDepth = refl
one_cause_of at cause.ReturnState = refl
one_cause_of at (cause.CallState reg) = refl
one_cause_of at (cause.FramePointerLost reg) = refl
one_cause_of at cause.BadBytecode = refl
one_cause_of at cause.BadDescriptor = refl
one_cause_of at cause.PadDepth = refl
one_cause_of at cause.ThrowInLeafScope = refl
one_cause_of at cause.SplitEntry = refl
one_cause_of at cause.GenericModel = refl
one_cause_of at cause.TooLong = refl

well_or_cause : (u : Option FrameFinding) → tick (is_none u) + causes_of u ≡ 1
well_or_cause None = omega (arith, no_cause_of)
well_or_cause (Some u) = let one : causes_of (Some u) ≡ 1 = one_cause_of u.at u.cause in omega (arith, one)

causes_split : (a : FunctionAudit) (xs : List FunctionAudit) → causes_of a.unwell + sum_by (count_by_cause xs) CAUSES ≡ sum_by (count_by_cause (a ∷ xs)) CAUSES
unfolding causes_of
causes_split a xs = sum_split (λ c. tick (is_cause c a.unwell)) (count_by_cause xs) (count_by_cause (a ∷ xs)) (λ c. sym (count_cons (is_counted (Cause c)) a xs)) CAUSES

no_causes : sum_by (count_by_cause []) CAUSES ≡ 0
no_causes = refl

causes : (xs : List FunctionAudit) → count_by (is_counted Well) xs + sum_by (count_by_cause xs) CAUSES ≡ length xs
causes [] = omega (arith, no_causes)
causes (a ∷ xs) =
    let one = well_or_cause a.unwell in
    let rest = causes xs in
    let split = causes_split a xs in
    omega (arith, one, rest, split, count_cons (is_counted Well) a xs)

pub counts_sum : CountsAddUp
counts_sum = record { kinds = kinds; well = split_count (is_counted UnwindsWell) (is_counted CantUnwindWell) (is_counted Well) one_well; causes = causes }
