-- A scope that stands at a place is read as its length and offset.
use Rattle.std.proofs.Common.{◌≡◌, ℕ, ◌+◌, ◌*◌, ◌/◌, ◌%◌, ◌^◌, ◌<◌, ◌==◌, Bool, true, false, Some, refl, ap, sym, arith}
use Rattle.std.proofs.lemmas.Bool.Decides.{nat_tests}
use Rattle.eh_desc.specs.declared.descriptor.DescKind.{DescKind}
use Rattle.eh_desc.specs.declared.descriptor.NextDesc.{NextDesc}
use Rattle.eh_desc.specs.declared.descriptor.NextDesc.TheVariants.{One}
use Rattle.eh_desc.specs.Grammar.{Form, word_at, next_desc_at, kind_at}
use Rattle.eh_desc.proofs.Items.{one, over}
use Rattle.eh_table_laws.specs.Descriptors.{ScopeBy, ScopeStands, IsRead, ZeroEnds}
use Rattle.eh_table_laws.proofs.Reading.{word_there, halves_there}

pub zero_ends : ZeroEnds
zero_ends t place w = over t place (sym (rw (word_there t.bytes place 0 w) refl))

narrow : (t : Form) (place length offset after : ℕ) → t.wide ≡ false → ScopeBy false t.bytes place length offset after → next_desc_at t place ≡ kind_at t place length offset after
narrow t place length offset after w s =
    let first : ℕ = length + 65536 * offset in
    let there : word_at t place ≡ Some first = halves_there t.bytes place length offset s.0 s.1 in
    let low : length < 65536 = omega (arith, s.0.low, s.0.high, s.0.is) in
    let some : (first == 0) ≡ false = grind (arith, nat_tests, s.2) in
    let lower : first % 2 ^ 16 ≡ length = omega arith in
    let upper : first / 2 ^ 16 ≡ offset = omega arith in
    rw (there, some, w, lower, upper) (ap (λ b. kind_at t place length offset b) (sym s.3))

wide : (t : Form) (place length offset after : ℕ) → t.wide ≡ true → ScopeBy true t.bytes place length offset after → next_desc_at t place ≡ kind_at t place length offset after
wide t place length offset after w s =
    let there : word_at t place ≡ Some length = word_there t.bytes place length s.0 in
    let next : word_at t (place + 4) ≡ Some offset = word_there t.bytes (place + 4) offset s.1 in
    let some : (length == 0) ≡ false = grind (arith, nat_tests, s.2) in
    rw (there, some, w, next) (ap (λ b. kind_at t place length offset b) (sym s.3))

pub scope_read : (t : Form) (place length offset after : ℕ) → ScopeStands t place length offset after → next_desc_at t place ≡ kind_at t place length offset after
scope_read t place length offset after s = by_width t.wide refl s
  where
    by_width : (b : Bool) → t.wide ≡ b → ScopeBy b t.bytes place length offset after → next_desc_at t place ≡ kind_at t place length offset after
    by_width false e s = narrow t place length offset after e s
    by_width true e s = wide t place length offset after e s

-- a descriptor of this kind and scope, and the place after it
abbrev pub described : Form → ℕ → ℕ → ℕ → DescKind → ℕ → NextDesc
described t place length offset kind next =
    One (record { at = (t.address + place) % 4294967296; next = (t.address + next) % 4294967296; start = (t.start + offset) % 4294967296; size = length; kind = kind }) next

-- one that stands there is the next of the list
pub listed_next : (t : Form) (place length offset : ℕ) (kind : DescKind) (next : ℕ) → next_desc_at t place ≡ described t place length offset kind next
    → IsRead t place length offset kind next
listed_next t place length offset kind next e = one t place _ next (sym e)
