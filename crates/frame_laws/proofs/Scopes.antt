-- The sites of a scope.
use Rattle.std.proofs.Common.{◌≡◌, ℕ, ◌+◌, ◌%◌, ◌^◌, ◌<◌, ◌≤◌, ◌&&◌, Bool, true, false, refl, arith}
use Rattle.std.specs.Prelude.{nat_le, nat_lt}
use Rattle.std.proofs.lemmas.Bool.{false≢true}
use Rattle.std.proofs.lemmas.Bool.Decides.{nat_tests}
use Rattle.eh_desc.specs.declared.descriptor.Desc.{Desc}
use Rattle.frame_laws.specs.SiteLaws.{IsInScope, ScopesAreOne}

both : (a b : Bool) → a && b ≡ true → (a ≡ true) × (b ≡ true)
both true true e = (refl, refl)
both true false e = absurd (false≢true e)
both false b e = absurd (false≢true e)

from_tests : (site : ℕ) (d : Desc) → d.start < 2 ^ 32 → d.size < 2 ^ 32 → (nat_le d.start site && nat_lt site ((d.start + d.size) % 2 ^ 32)) ≡ true → IsInScope site d
from_tests site d low small e =
    let p = both (nat_le d.start site) (nat_lt site ((d.start + d.size) % 2 ^ 32)) e in
    let x : nat_le d.start site ≡ true = p.0 in
    let y : nat_lt site ((d.start + d.size) % 2 ^ 32) ≡ true = p.1 in
    let from : d.start ≤ site = grind (arith, nat_tests) in
    let below : site < (d.start + d.size) % 2 ^ 32 = grind (arith, nat_tests) in
    record { from = from; below = omega (arith, from, below, low, small); low = omega (arith, from, below, low, small) }

to_tests : (site : ℕ) (d : Desc) → IsInScope site d → (nat_le d.start site && nat_lt site ((d.start + d.size) % 2 ^ 32)) ≡ true
to_tests site d h =
    let x : nat_le d.start site ≡ true = grind (arith, nat_tests, h.from) in
    let e : (d.start + d.size) % 2 ^ 32 ≡ d.start + d.size = omega (arith, h.low) in
    let y : nat_lt site (d.start + d.size) ≡ true = grind (arith, nat_tests, h.below) in
    rw (x, e, y) refl

pub scopes : ScopesAreOne
scopes = record {
  same = λ site d. refl;
  checker = λ site d low small. (from_tests site d low small, to_tests site d);
  phases = λ site d low small. (from_tests site d low small, to_tests site d);
}
