-- The verdict of an entry's new descriptors at an offset, in the terms of GNU's verdict (docs/rules/gnu-tables.md).
use Rattle.std.specs.Prelude.{ℕ, if◌then◌else◌, List, [], ◌∷◌, map, Option, Some, None, is_some, Result, Ok, Err}
use Rattle.std.specs.List.{filter_map, before_first}
use Rattle.eh_desc.specs.declared.descriptor.DescKind.{DescKind}
use Rattle.eh_desc.specs.declared.descriptor.DescKind.TheVariants as kind
use Rattle.eh_desc.specs.declared.descriptor.Desc.{Desc}
use Rattle.eh_desc.specs.declared.descriptor.DescFault.{DescFault}
use Rattle.eh_match.specs.declared.rules.Match.{Match}
use Rattle.eh_phase.specs.declared.verdict.Verdict.{Verdict}
use Rattle.eh_phase.specs.declared.verdict.Verdict.TheVariants.{Barrier, ObjectRead, Terminate}
use Rattle.eh_phase.specs.Verdict.{Meeting, in_scope, heard, verdict_of}
use Rattle.gnu_compact.specs.Laws.{items_as}
use Rattle.gnu_descriptors.specs.declared.scopes.GnuDescriptor.{GnuDescriptor}
use Rattle.gnu_descriptors.specs.Filters.{filter_in}
use Rattle.gnu_verdict_laws.specs.Verdicts.{GnuVerdict, Violated, Passed, CaughtBy, CantRead}

-- the items of descriptors that stand from a place on
abbrev pub items_at : ℕ → ℕ → List GnuDescriptor → List (Result Desc DescFault)
items_at start place scopes = items_as start place (map (λ s. s.descriptor) scopes)

-- ---- a verdict: a barrier with a filter is a catch, and one without is the specification of a part that no record covers

abbrev pub barrier_as : Match → Option ℕ → GnuVerdict
barrier_as hit None = Violated
barrier_as hit (Some filter) = CaughtBy filter hit

abbrev pub verdict_as : List (ℕ × ℕ) → Option Verdict → Option GnuVerdict
verdict_as filters None = Some Passed
verdict_as filters (Some (Barrier desc hit)) = Some (barrier_as hit (filter_in filters desc))
verdict_as filters (Some (ObjectRead address)) = Some (CantRead address)
verdict_as filters (Some (Terminate cause)) = None

-- ---- cleanups: those in scope that stand before the first descriptor that says something

abbrev pub pad_by : DescKind → Option ℕ
pad_by (kind.Cleanup pad) = Some pad
pad_by (kind.Catch pad reference type) = None
pad_by (kind.Spec types count pad) = None

abbrev pub pad_at : ℕ → Result Desc DescFault → Option ℕ
pad_at site (Ok d) = if in_scope site d then pad_by d.kind else None
pad_at site (Err fault) = None

abbrev pub cleanups_at : Meeting → ℕ → List (Result Desc DescFault) → List ℕ
cleanups_at m site items = filter_map (pad_at site) (before_first (λ i. is_some (heard m site i)) items)
