-- A throw treats rewritten entries as GNU's personality routine treats the original ones (docs/rules/gnu-tables.md, "Laws").
use Rattle.std.specs.Prelude.{◌≡◌, ℕ, ◌+◌, ◌<◌, ◌≤◌, [], None, Some, Ok}
use Rattle.elf_image.specs.Image.{Image}
use Rattle.elf_image.specs.declared.limits.TheConstants.{ADDRESS_LIMIT}
use Rattle.eh_desc.specs.declared.descriptor.DescKind.TheVariants.{Spec}
use Rattle.eh_phase.specs.Verdict.{Meeting, verdict_of}
use Rattle.gnu_lsda.specs.Entries.{Form}
use Rattle.gnu_lsda.specs.Heads.{Area, area_of}
use Rattle.gnu_lsda.specs.Faults.{fault_of}
use Rattle.gnu_descriptors.specs.Scopes.{scopes_of}
use Rattle.gnu_descriptors.specs.Filters.{filters_at}
use Rattle.gnu_verdict_laws.specs.Verdicts.{gnu_verdict, gnu_cleanups}
use Rattle.gnu_verdict_laws.specs.Read.{items_at, verdict_as, cleanups_at}

-- An entry of an image that isn't refused, with its data area, whose range is inside the memory map; an offset in its range; and a
-- thrown object. A specification without types has no type for that object to match.
pub record IsMet (image : Image) (f : Form) (a : Area) (o : ℕ) (m : Meeting) : Type 0 where
  pub accepted : fault_of image f ≡ None
  pub area : area_of f ≡ Ok a
  pub low : f.start + f.size ≤ ADDRESS_LIMIT
  pub inside : o < f.size
  pub none_named : (types : ℕ) → m.types (Spec types 0 None) ≡ []

-- at the descriptors that stand for it from any place on
abbrev pub VerdictsAreGnus : Type 0
VerdictsAreGnus =
    (image : Image) (f : Form) (a : Area) (place o : ℕ) (m : Meeting) → IsMet image f a o m
    → verdict_as (filters_at place (scopes_of f a)) (verdict_of m (f.start + o) (items_at f.start place (scopes_of f a))) ≡ Some (gnu_verdict m a o)

abbrev pub CleanupsAreGnus : Type 0
CleanupsAreGnus =
    (image : Image) (f : Form) (a : Area) (place o : ℕ) (m : Meeting) → IsMet image f a o m
    → cleanups_at m (f.start + o) (items_at f.start place (scopes_of f a)) ≡ gnu_cleanups f.start m a o
