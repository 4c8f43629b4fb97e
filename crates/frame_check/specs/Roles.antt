-- What a run needs to know of an address, by pages of 4,096 bytes: the index of a halfword's role, and what a change leaves unchanged.
use Rattle.std.specs.Prelude.{◌≡◌, ◌≢◌, ℕ, ◌+◌, ◌*◌, ◌/◌, ◌%◌, ◌==◌, ◌≤◌, if◌then◌else◌, List, [], ◌++◌, length, replicate, slice_index_or, Option, Some, None}
use Rattle.frame_check.specs.declared.roles.Role.{Role}
use Rattle.frame_check.specs.declared.roles.TheConstants.{PAGE_ROLES, NO_ROLE}

-- the position of each page by its number, and the roles of the pages, position by position
pub record Table : Type 0 where
  pub places : List (Option ℕ)
  pub roles : List Role

abbrev pub table : List (Option ℕ) → List Role → Table
table places roles = record { places = places; roles = roles }

abbrev pub no_table : Table
no_table = table [] []

-- no two pages have the same position, and each page has its roles
pub record IsTable (t : Table) : Type 0 where
  pub within : (n q : ℕ) → slice_index_or t.places n None ≡ Some q → q * PAGE_ROLES + PAGE_ROLES ≤ length t.roles
  pub once : (n m q : ℕ) → slice_index_or t.places n None ≡ Some q → slice_index_or t.places m None ≡ Some q → n ≡ m
  pub whole : length t.roles % PAGE_ROLES ≡ 0

-- the index of the role of halfword h, if the position of its page is known
abbrev pub in_page : Option ℕ → ℕ → Option ℕ
in_page None h = None
in_page (Some q) h = Some (q * PAGE_ROLES + h % PAGE_ROLES)

abbrev pub role_place : List (Option ℕ) → ℕ → Option ℕ
role_place places h = in_page (slice_index_or places (h / PAGE_ROLES) None) h

abbrev pub role_at : List Role → Option ℕ → Role
role_at roles None = NO_ROLE
role_at roles (Some i) = slice_index_or roles i NO_ROLE

abbrev pub half_role : Table → ℕ → Role
half_role t h = role_at t.roles (role_place t.places h)

-- the role of an address; NO_ROLE for an odd one, and for one whose page isn't stored
unfoldable pub look : Table → ℕ → Role
look t a = if a % 2 == 1 then NO_ROLE else half_role t (a / 2)

-- ---- changes

-- a blank page is stored, whose roles begin at an index, and nothing else has changed
pub record Grown (old new : Table) (n at : ℕ) : Type 0 where
  pub begins : at ≡ length old.roles
  pub here : slice_index_or new.places n None ≡ Some (length old.roles / PAGE_ROLES)
  pub there : (k : ℕ) → k ≢ n → slice_index_or new.places k None ≡ slice_index_or old.places k None
  pub roles : new.roles ≡ old.roles ++ replicate PAGE_ROLES NO_ROLE

-- halfword h has a place, and no role has changed
pub record Ready (old new : Table) (h at : ℕ) : Type 0 where
  pub place : role_place new.places h ≡ Some at
  pub same : (b : ℕ) → half_role new b ≡ half_role old b

-- the address has this role, and no other role has changed
pub record Put (old new : Table) (a : ℕ) (role : Role) : Type 0 where
  pub here : look new a ≡ role
  pub there : (b : ℕ) → b ≢ a → look new b ≡ look old b
