-- The filters of catches by the addresses of their descriptors (docs/rules/gnu-tables.md).
use Rattle.std.specs.Prelude.{ℕ, ◌+◌, ◌==◌, if◌then◌else◌, List, [], ◌∷◌, Option, Some, None}
use Rattle.gnu_compact.specs.Descriptors.{kind_size}
use Rattle.gnu_descriptors.specs.declared.scopes.GnuDescriptor.{GnuDescriptor}

abbrev pub with_filter : ℕ → Option ℕ → List (ℕ × ℕ) → List (ℕ × ℕ)
with_filter place None more = more
with_filter place (Some filter) more = (place, filter) ∷ more

-- of descriptors that stand one after the other from a place on
abbrev pub filters_at : ℕ → List GnuDescriptor → List (ℕ × ℕ)
filters_at place [] = []
filters_at place (s ∷ more) = with_filter place s.filter (filters_at (place + kind_size s.descriptor.kind) more)

-- the filter of the descriptor at an address
abbrev pub filter_in : List (ℕ × ℕ) → ℕ → Option ℕ
filter_in [] desc = None
filter_in (f ∷ more) desc = if f.0 == desc then Some f.1 else filter_in more desc
