-- Cleanups, catches and specifications are read.
use Rattle.std.proofs.Common.{◌≡◌, ℕ, ◌+◌, ◌-◌, ◌*◌, ◌%◌, ◌^◌, ◌<◌, ◌≤◌, ◌==◌, Bool, true, false, Some, length, refl, ap, ◌∙◌, arith}
use Rattle.std.proofs.lemmas.Bool.Decides.{nat_tests}
use Rattle.eh_desc.specs.declared.descriptor.CatchType.{CatchType}
use Rattle.eh_desc.specs.declared.descriptor.CatchType.TheVariants.{One}
use Rattle.eh_desc.specs.declared.descriptor.DescKind.TheVariants.{Cleanup, Catch, Spec}
use Rattle.eh_desc.specs.Grammar.{Form, address_at, catch_type, next_desc_at, has_types}
use Rattle.eh_desc.specs.Laws.{pad_of}
use Rattle.eh_desc.proofs.Marks.{law_of_cleanups, law_of_catches, law_of_specifications}
use Rattle.eh_table_laws.specs.Words.{WordStands}
use Rattle.eh_table_laws.specs.Descriptors.{ScopeStands, IsRead, CleanupsAreRead, mark, EverythingIsCaught, EverythingFails, TypesAreCaught, NoTypeIsCaught, SpecificationsAreRead, PaddedSpecificationsAreRead, pad_by}
use Rattle.eh_table_laws.proofs.Reading.{word_there, leads}
use Rattle.eh_table_laws.proofs.Scopes.{scope_read, described, listed_next}

pad_same : (t : Form) (place word : ℕ) → pad_of t place word ≡ pad_by t place word
pad_same t place word = ap (λ a. a - a % 2) (leads ((t.address + place) % 4294967296) word)

pub cleanups_are_read : CleanupsAreRead
cleanups_are_read t place length offset at pad l o s w =
    listed_next t place length offset (Cleanup (pad_by t at pad)) (at + 4)
    (scope_read t place length offset at s ∙ law_of_cleanups t place length offset at pad l o (word_there t.bytes at pad w)
    ∙ ap (λ p. described t place length offset (Cleanup p) (at + 4)) (pad_same t at pad))

-- ---- catches

marked : (t : Form) (place length offset at pad type : ℕ) (reference : Bool)
    → length % 2 ≡ 0 → offset % 2 ≡ 0 → pad < 2147483648 → WordStands t.bytes at (pad + mark reference) → WordStands t.bytes (at + 4) type
    → ScopeStands t place (length + 1) offset at
    → next_desc_at t place ≡ described t place length offset (Catch (pad_of t at pad) reference (catch_type (address_at t (at + 4)) type)) (at + 8)
marked t place length offset at pad type true l o low w v s =
    scope_read t place (length + 1) offset at s
    ∙ (law_of_catches t place length offset at pad type l o low (word_there t.bytes (at + 4) type v)).1 (word_there t.bytes at (pad + 2147483648) w)
marked t place length offset at pad type false l o low w v s =
    scope_read t place (length + 1) offset at s
    ∙ (law_of_catches t place length offset at pad type l o low (word_there t.bytes (at + 4) type v)).0
    (word_there t.bytes at (pad + 0) w ∙ ap Some (let e : pad + 0 ≡ pad = omega arith in e))

caught : (t : Form) (place length offset at pad type : ℕ) (reference : Bool) (takes : CatchType) → catch_type (address_at t (at + 4)) type ≡ takes
    → length % 2 ≡ 0 → offset % 2 ≡ 0 → pad < 2147483648 → ScopeStands t place (length + 1) offset at → WordStands t.bytes at (pad + mark reference) → WordStands t.bytes (at + 4) type
    → IsRead t place length offset (Catch (pad_by t at pad) reference takes) (at + 8)
caught t place length offset at pad type reference takes e l o low s w v =
    listed_next t place length offset (Catch (pad_by t at pad) reference takes) (at + 8)
    (marked t place length offset at pad type reference l o low w v s
    ∙ ap (λ p. described t place length offset (Catch p reference (catch_type (address_at t (at + 4)) type)) (at + 8)) (pad_same t at pad)
    ∙ ap (λ k. described t place length offset (Catch (pad_by t at pad) reference k) (at + 8)) e)

pub everything_is_caught : EverythingIsCaught
everything_is_caught t place length offset at pad reference l o low s w v = caught t place length offset at pad _ reference _ refl l o low s w v

pub everything_fails : EverythingFails
everything_fails t place length offset at pad reference l o low s w v = caught t place length offset at pad _ reference _ refl l o low s w v

pub no_type_is_caught : NoTypeIsCaught
no_type_is_caught t place length offset at pad reference l o low s w v = caught t place length offset at pad _ reference _ refl l o low s w v

named : (address place type : ℕ) → 0 < type → type < 0xFFFFFFFE → catch_type ((address + place) % 2 ^ 32) type ≡ One ((address + place + type) % 4294967296)
named address place type some low =
    let a : (type == 0xFFFFFFFF) ≡ false = grind (arith, nat_tests) in
    let b : (type == 0xFFFFFFFE) ≡ false = grind (arith, nat_tests) in
    let c : (type == 0) ≡ false = grind (arith, nat_tests) in
    rw (a, b, c) (ap One (let e : ((address + place) % 2 ^ 32 + type) % 2 ^ 32 ≡ (address + place + type) % 4294967296 = omega arith in e))

pub types_are_caught : TypesAreCaught
types_are_caught t place length offset at pad type reference l o low s w v some below =
    caught t place length offset at pad type reference _ (named t.address (at + 4) type some below) l o low s w v

-- ---- specifications

there : (t : Form) (at count : ℕ) → at + 4 * count ≤ length t.bytes → has_types t at count ≡ true
there t at count h = grind (arith, nat_tests)

pub specifications_are_read : SpecificationsAreRead
specifications_are_read t place len offset at count l o low s w inside =
    listed_next t place len offset _ (at + 4 + 4 * count)
    (scope_read t place len (offset + 1) at s
    ∙ (law_of_specifications t place len offset at count l o low (there t (at + 4) count inside)).0 (word_there t.bytes at count w))

pub padded_specifications_are_read : PaddedSpecificationsAreRead
padded_specifications_are_read t place len offset at count pad l o low s w p =
    listed_next t place len offset _ (at + 8 + 4 * count)
    (scope_read t place len (offset + 1) at s
    ∙ (law_of_specifications t place len offset at count l o low (there t (at + 4) count (omega (arith, p.inside)))).1 pad (word_there t.bytes at (count + 2147483648) w)
    (word_there t.bytes (at + 4 + 4 * count) pad p)
    ∙ ap (λ k. described t place len offset (Spec ((t.address + (at + 4)) % 4294967296) count (Some k)) (at + 4 + 4 * count + 4)) (pad_same t (at + 4 + 4 * count) pad)
    ∙ ap (λ k. described t place len offset (Spec ((t.address + (at + 4)) % 4294967296) count (Some (pad_by t (at + 4 + 4 * count) pad))) k)
    (let e : at + 4 + 4 * count + 4 ≡ at + 8 + 4 * count = omega arith in e))
