-- Descriptors, their scopes and their landing pads (IHI 0038).
use Rattle.std.specs.Prelude.{ℕ, ◌+◌, ◌%◌, ◌^◌, ◌&&◌, nat_le, nat_lt, Bool, true, false, if◌then◌else◌, Option, Some, None, Result, Ok, Err}
use Rattle.eh_desc.specs.declared.descriptor.Desc.{Desc}
use Rattle.eh_desc.specs.declared.descriptor.DescFault.{DescFault}
use Rattle.eh_desc.specs.declared.descriptor.DescKind.{DescKind}
use Rattle.eh_desc.specs.declared.descriptor.DescKind.TheVariants.{Cleanup, Catch, Spec}

abbrev pub Item : Type 0
Item = Result Desc DescFault

-- the scope holds the site
abbrev pub is_scope_at : ℕ → Desc → Bool
is_scope_at site d = nat_le d.start site && nat_lt site ((d.start + d.size) % 2 ^ 32)

-- an item that is a descriptor of this kind
abbrev pub is_one : (Desc → Bool) → Item → Bool
is_one test (Ok d) = test d
is_one test (Err fault) = false

-- some descriptor can't be read
abbrev pub is_fault : Item → Bool
is_fault (Ok d) = false
is_fault (Err fault) = true

abbrev pub pad_of : DescKind → Option ℕ
pad_of (Cleanup pad) = Some pad
pad_of (Catch pad reference type) = Some pad
pad_of (Spec types count pad) = pad

abbrev pub is_cleanup : DescKind → Bool
is_cleanup (Cleanup pad) = true
is_cleanup (Catch pad reference type) = false
is_cleanup (Spec types count pad) = false

-- a cleanup that has the site in its scope
abbrev pub is_cleanup_at : ℕ → Desc → Bool
is_cleanup_at site d = is_scope_at site d && is_cleanup d.kind

-- the landing pad of a descriptor with the site in its scope
abbrev pub pad_for : ℕ → Desc → Option ℕ
pad_for site d = if is_scope_at site d then pad_of d.kind else None
