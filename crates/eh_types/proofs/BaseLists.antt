-- The bases of a type, one after the other.
use Rattle.std.proofs.Common.{◌≡◌, ℕ, zero, suc, ◌+◌, ◌<◌, ◌≤◌, List, [], ◌∷◌, length, drop, refl, sym, ◌∙◌, ap, arith}
use Rattle.std.proofs.lemmas.List.{drop_more, drop_all}
use Rattle.std.proofs.lemmas.List.FromFn.{length-map-range_with_len, get_or-map-range_with_len}
use Rattle.elf_image.specs.Segments.{Segment}
use Rattle.eh_types.specs.declared.kind.Base.{Base}
use Rattle.eh_types.specs.declared.kind.TypeKind.{TypeKind}
use Rattle.eh_types.specs.declared.kind.TypeKind.TheVariants.{Other, Fundamental, Class, Si, Vmi, Pointer}
use Rattle.eh_types.specs.Words.{word}
use Rattle.eh_types.specs.Types.{base_in, single_base, nth_base, bases_at, base_count}

pub base_counts : (segments : List Segment) (a : ℕ) (kind : TypeKind) → base_count segments a kind ≡ length (bases_at segments a kind)
base_counts segments a Other = refl
base_counts segments a Fundamental = refl
base_counts segments a Class = refl
base_counts segments a (Pointer flags pointee) = refl
base_counts segments a (Si base) = refl
base_counts segments a Vmi = sym (length-map-range_with_len (base_in segments a) 0 (word segments (a + 12)))

many_more : (segments : List Segment) (a k : ℕ) → k < length (bases_at segments a Vmi) → drop k (bases_at segments a Vmi) ≡ base_in segments a k ∷ drop (k + 1) (bases_at segments a Vmi)
many_more segments a k h =
    let inside : k < word segments (a + 12) = omega (arith, h, length-map-range_with_len (base_in segments a) 0 (word segments (a + 12))) in
    drop_more (bases_at segments a Vmi) k (single_base 0) h
    ∙ ap (λ (b : Base). b ∷ drop (k + 1) (bases_at segments a Vmi)) (get_or-map-range_with_len (base_in segments a) 0 (word segments (a + 12)) k k (single_base 0) inside (omega arith))

-- the first of those from base k on
base_more : (segments : List Segment) (a : ℕ) (kind : TypeKind) (k : ℕ) → k < length (bases_at segments a kind) → drop k (bases_at segments a kind) ≡ nth_base segments a kind k ∷ drop (k + 1) (bases_at segments a kind)
base_more segments a Other k h = absurd (omega arith)
base_more segments a Fundamental k h = absurd (omega arith)
base_more segments a Class k h = absurd (omega arith)
base_more segments a (Pointer flags pointee) k h = absurd (omega arith)
base_more segments a (Si base) zero h = refl
base_more segments a (Si base) (suc k) h = absurd (omega arith)
base_more segments a Vmi k h = many_more segments a k h

-- what an iterator gives that stands at base k
pub step_one : (segments : List Segment) (a : ℕ) (kind : TypeKind) (k count : ℕ) → count ≡ length (bases_at segments a kind) → k < count → drop k (bases_at segments a kind) ≡ nth_base segments a kind k ∷ drop (k + 1) (bases_at segments a kind)
step_one segments a kind k count e h = base_more segments a kind k (omega (arith, e, h))

pub step_none : (segments : List Segment) (a : ℕ) (kind : TypeKind) (k count : ℕ) → count ≡ length (bases_at segments a kind) → count ≤ k → drop k (bases_at segments a kind) ≡ []
step_none segments a kind k count e h = drop_all k (bases_at segments a kind) (omega (arith, e, h))

pub ruleset steps = (step_one, step_none)
