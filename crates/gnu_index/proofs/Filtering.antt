-- One filter more.
use Rattle.std.proofs.Common.{◌≡◌, ℕ, ◌+◌, ◌%◌, ◌^◌, ◌<◌, List, [], ◌∷◌, ◌++◌, length, get_or, drop, Option, Some, None, refl, ◌∙◌, append_assoc}
use Rattle.std.proofs.lemmas.List.{at_drop_more}
use Rattle.gnu_compact.specs.Descriptors.{kind_size}
use Rattle.gnu_descriptors.specs.declared.scopes.GnuDescriptor.{GnuDescriptor}
use Rattle.gnu_descriptors.specs.Filters.{with_filter}
use Rattle.gnu_index.specs.Tables.{filters_from}

apart : (place : ℕ) (f : Option ℕ) (more : List (ℕ × ℕ)) → with_filter place f more ≡ with_filter place f [] ++ more
apart place None more = refl
apart place (Some filter) more = refl

pub filters_more : (place : ℕ) (xs : List GnuDescriptor) (i : ℕ) (d : GnuDescriptor) → i < length xs
    → filters_from place (drop i xs)
    ≡ with_filter place (get_or xs i d).filter [] ++ filters_from ((place + kind_size (get_or xs i d).descriptor.kind) % 2 ^ 32) (drop (i + 1) xs)
filters_more place xs i d h =
    at_drop_more (filters_from place) xs i d h
    ∙ apart place (get_or xs i d).filter (filters_from ((place + kind_size (get_or xs i d).descriptor.kind) % 2 ^ 32) (drop (i + 1) xs))

pub ruleset filtering = (filters_more, append_assoc)
