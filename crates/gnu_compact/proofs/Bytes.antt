-- What is written are bytes, and words whose bytes are turned twice stand as they stood.
use Rattle.std.proofs.Common.{◌≡◌, ℕ, zero, suc, ◌+◌, ◌%◌, ◌^◌, ◌<◌, List, [], ◌∷◌, ◌++◌, length, refl, ap, arith}
use Rattle.std.specs.Prelude.{slice_index}
use Rattle.byteorder.specs.Endian.{little_bytes}
use Rattle.eh_bytecode.specs.Codes.{swap_word_bytes}
use Rattle.gnu_compact.specs.declared.descriptor.OwnDescriptor.{OwnDescriptor}
use Rattle.gnu_compact.specs.declared.descriptor.OwnKind.{OwnKind}
use Rattle.gnu_compact.specs.declared.descriptor.OwnKind.TheVariants.{Specification, Catch, Cleanup}
use Rattle.gnu_compact.specs.Descriptors.{type_word, kind_size, scope_bytes, kind_bytes, descriptors_bytes}
use Rattle.eh_codes.specs.Rows.{prel31_to}

abbrev pub Small : List ℕ → Type 0
Small [] = Unit {0}
Small (b ∷ more) = (b < 256) × Small more

pub small_at : (xs : List ℕ) → Small xs → (i : ℕ) → slice_index xs i < 256
small_at [] h i = omega arith
small_at (b ∷ more) h zero = h.0
small_at (b ∷ more) h (suc i) = small_at more h.1 i

pub at_small : (xs : List ℕ) → ((i : ℕ) → slice_index xs i < 256) → Small xs
at_small [] h = tt
at_small (b ∷ more) h = (h 0, at_small more (λ i. h (suc i)))

pub small_both : (xs ys : List ℕ) → Small xs → Small ys → Small (xs ++ ys)
small_both [] ys h k = k
small_both (b ∷ more) ys h k = (h.0, small_both more ys h.1 k)

pub small_word : (x : ℕ) → Small (little_bytes 4 x)
small_word x = (omega arith, (omega arith, (omega arith, (omega arith, tt))))

pub small_turned : (xs : List ℕ) → Small xs → Small (swap_word_bytes xs)
small_turned [] h = tt
small_turned (a ∷ []) h = tt
small_turned (a ∷ b ∷ []) h = tt
small_turned (a ∷ b ∷ c ∷ []) h = tt
small_turned (a ∷ b ∷ c ∷ d ∷ more) h = (h.1.1.1.0, (h.1.1.0, (h.1.0, (h.0, small_turned more h.1.1.1.1))))

small_more : (xs : List ℕ) (w : ℕ) → Small xs → Small (xs ++ little_bytes 4 w)
small_more xs w h = small_both xs (little_bytes 4 w) h (small_word w)

small_scope : (len offset : ℕ) → Small (scope_bytes len offset)
small_scope len offset = small_more (little_bytes 4 len) offset (small_word len)

small_kind : (place size offset : ℕ) (kind : OwnKind) → Small (kind_bytes place size offset kind)
small_kind place size offset Specification = small_more (scope_bytes size ((offset + 1) % 2 ^ 32)) 0 (small_scope size ((offset + 1) % 2 ^ 32))
small_kind place size offset (Catch pad takes) =
    let word = prel31_to ((place + 8) % 2 ^ 32) pad in
    let type = type_word (((place + 8) % 2 ^ 32 + 4) % 2 ^ 32) takes in
    small_both (scope_bytes ((size + 1) % 2 ^ 32) offset) (little_bytes 4 word ++ little_bytes 4 type) (small_scope ((size + 1) % 2 ^ 32) offset)
    (small_more (little_bytes 4 word) type (small_word word))
small_kind place size offset (Cleanup pad) = small_more (scope_bytes size offset) (prel31_to ((place + 8) % 2 ^ 32) pad) (small_scope size offset)

pub small_descriptors : (place : ℕ) (ds : List OwnDescriptor) → Small (descriptors_bytes place ds)
small_descriptors place [] = small_word 0
small_descriptors place (d ∷ more) =
    let next = (place + kind_size d.kind) % 2 ^ 32 in
    small_both (kind_bytes place d.size d.offset d.kind) (descriptors_bytes next more) (small_kind place d.size d.offset d.kind) (small_descriptors next more)

pub turned_twice : (xs : List ℕ) → length xs % 4 ≡ 0 → swap_word_bytes (swap_word_bytes xs) ≡ xs
turned_twice [] h = refl
turned_twice (a ∷ []) h = absurd (omega arith)
turned_twice (a ∷ b ∷ []) h = absurd (omega arith)
turned_twice (a ∷ b ∷ c ∷ []) h = absurd (omega arith)
turned_twice (a ∷ b ∷ c ∷ d ∷ more) h = ap (λ (l : List ℕ). a ∷ b ∷ c ∷ d ∷ l) (turned_twice more (omega arith))
