-- What the descriptors of a frame decide about a thrown object (IHI 0038, "Phase 1 unwinding"; docs/rules/phases-and-exceptions.md).
use Rattle.std.specs.Prelude.{ℕ, ◌+◌, ◌%◌, ◌^◌, ◌&&◌, Bool, true, false, nat_le, nat_lt, if◌then◌else◌, List, map, find, Option, Some, None, unwrap_or, Result, Ok, Err}
use Rattle.thumb_core.specs.declared.ends.Cause.TheVariants.{CannotUnwind, NoThrow}
use Rattle.eh_match.specs.declared.rules.Match.{Match}
use Rattle.eh_match.specs.declared.rules.Match.TheVariants.{Failed, Object, PointerToBase, Unreadable}
use Rattle.eh_desc.specs.declared.descriptor.CatchType.{CatchType}
use Rattle.eh_desc.specs.declared.descriptor.CatchType.TheVariants.{All, AllFails, One}
use Rattle.eh_desc.specs.declared.descriptor.DescKind.{DescKind}
use Rattle.eh_desc.specs.declared.descriptor.DescKind.TheVariants.{Cleanup, Catch, Spec}
use Rattle.eh_desc.specs.declared.descriptor.Desc.{Desc}
use Rattle.eh_desc.specs.declared.descriptor.DescFault.{DescFault}
use Rattle.eh_phase.specs.declared.verdict.Verdict.{Verdict}
use Rattle.eh_phase.specs.declared.verdict.Verdict.TheVariants.{Barrier, ObjectRead, Terminate}
use Rattle.eh_phase.specs.Firsts.{first_some}

-- a thrown object as descriptors see it: its address, its match with each type, and the types that each specification names
pub record Meeting : Type 0 where
  pub object : ℕ
  pub matched : ℕ → Match
  pub types : DescKind → List ℕ

-- a site is in scope of a descriptor from its start to below its end
abbrev pub in_scope : ℕ → Desc → Bool
in_scope site d = nat_le d.start site && nat_lt site ((d.start + d.size) % 2 ^ 32)

-- ---- a catch

-- a catch of a type is the barrier if the object matches
abbrev pub by_match : ℕ → Match → Option Verdict
by_match at Failed = None
by_match at (Object object) = Some (Barrier at (Object object))
by_match at (PointerToBase pointer) = Some (Barrier at (PointerToBase pointer))
by_match at (Unreadable a) = Some (ObjectRead a)

abbrev pub catch_says : Meeting → ℕ → CatchType → Option Verdict
catch_says m at All = Some (Barrier at (Object m.object))
catch_says m at AllFails = Some (Terminate NoThrow)
catch_says m at (One type) = by_match at (m.matched type)

-- ---- a specification

abbrev pub is_hit : Match → Bool
is_hit Failed = false
is_hit (Object object) = true
is_hit (PointerToBase pointer) = true
is_hit (Unreadable a) = true

-- the first of the matches, in the order of the types, that isn't Failed
abbrev pub first_hit : List Match → Match
first_hit matches = unwrap_or (find is_hit matches) Failed

-- if one of the types matches, the object passes; if none does, the specification is the barrier
abbrev pub unless_named : ℕ → ℕ → Match → Option Verdict
unless_named object at Failed = Some (Barrier at (Object object))
unless_named object at (Object _) = None
unless_named object at (PointerToBase _) = None
unless_named object at (Unreadable a) = Some (ObjectRead a)

-- ---- the verdict

-- a cleanup has no verdict
abbrev pub desc_verdict_by : Meeting → ℕ → DescKind → Option Verdict
desc_verdict_by m at (Cleanup pad) = None
desc_verdict_by m at (Catch pad reference type) = catch_says m at type
desc_verdict_by m at (Spec types count pad) = unless_named m.object at (first_hit (map m.matched (m.types (Spec types count pad))))

abbrev pub desc_verdict : Meeting → Desc → Option Verdict
desc_verdict m d = desc_verdict_by m d.at d.kind

-- a fault counts at every site
abbrev pub heard : Meeting → ℕ → Result Desc DescFault → Option Verdict
heard m site (Ok d) = if in_scope site d then desc_verdict m d else None
heard m site (Err fault) = Some (Terminate CannotUnwind)

-- the verdict of the first descriptor in scope that has one
unfoldable pub verdict_of : Meeting → ℕ → List (Result Desc DescFault) → Option Verdict
verdict_of m site items = first_some (heard m site) items
