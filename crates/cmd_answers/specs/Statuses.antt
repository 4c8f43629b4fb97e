-- The statuses that a program returns, and what they mean (docs/guide/command-line.md).
use Rattle.std.specs.Prelude.{ℕ, ◌≡◌, ◌≢◌, ◌≤◌, ◌==◌, ◌||◌, ◌↔◌, not, Bool, true}
use Rattle.cmd_answers.specs.declared.status.TheConstants.{USAGE, REFUSED, READ_FAILED, WRITE_FAILED, NO_MEMORY, FILE_UNAVAILABLE}

-- none of the statuses of a failed read, a failed write and lack of memory
abbrev pub is_conclusive : ℕ → Bool
is_conclusive status = not (status == READ_FAILED || status == WRITE_FAILED || status == NO_MEMORY)

-- a status that belongs to a report
pub record IsReported (status : ℕ) : Type 0 where
  pub conclusive : is_conclusive status ≡ true
  pub bounded : status ≤ FILE_UNAVAILABLE

-- .. of words that form a command
pub record IsOfCommand (status : ℕ) : Type 0 where
  pub reported : IsReported status
  pub other : status ≢ USAGE

-- the status is FILE_UNAVAILABLE exactly if a file is missing or too long, and this holds of it besides
pub record SaysWhyBy (status : ℕ) (lacks told : Type 0) : Type 0 where
  pub missing : (status ≡ FILE_UNAVAILABLE) ↔ lacks
  pub refused : told

-- .. that it is REFUSED exactly if what is there is refused
abbrev pub SaysWhy : ℕ → Type 0 → Type 0 → Type 0
SaysWhy status lacks unfit = SaysWhyBy status lacks ((status ≡ REFUSED) ↔ unfit)
