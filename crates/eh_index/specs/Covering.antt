-- The entry that covers an address (IHI 0038, "Index table entries"; docs/rules/unwind-tables.md).
use Rattle.std.specs.Prelude.{◌≡◌, ℕ, ◌<◌, ◌≤◌, nat_le, if◌then◌else◌, List, ◌∷◌, ◌++◌, fold, All, Option, Some, None}
use Rattle.eh_codes.specs.declared.row.Entry.{Entry}

-- the last of the entries whose start is at or below the address
abbrev pub covering : List Entry → ℕ → Option Entry
covering entries site = fold (λ found e. if nat_le e.start site then Some e else found) None entries

-- the entry starts at or below the address, and every entry after it starts above it
pub record Covers (entries : List Entry) (site : ℕ) (e : Entry) : Type 0 where
  pub before : List Entry
  pub after : List Entry
  pub place : entries ≡ before ++ e ∷ after
  pub begins : e.start ≤ site
  pub later : All (λ f. site < f.start) after

-- it is that entry; None if and only if every entry starts above the address
abbrev pub IsCovering : List Entry → ℕ → Option Entry → Type 0
IsCovering entries site None = All (λ f. site < f.start) entries
IsCovering entries site (Some e) = Covers entries site e
