-- An accepted image's run, a walk in it, and a forced unwinding of it each have exactly one report (docs/guide/command-line.md): it doesn't
-- depend on how the checker has stored what it found.
use Rattle.std.specs.Prelude.{◌≡◌, ℕ, List}
use Rattle.frame_check.specs.Accepts.{Accepted, IsSound}
use Rattle.cmd_perform.specs.ForceReport.{IsUnforced}
use Rattle.cmd_perform.specs.GenerateReport.{CountsAccepted}
use Rattle.cmd_input.specs.Loading.{Report}
use Rattle.cmd_perform.specs.TaskReport.{DoesTask}
use Rattle.cmd_perform.specs.ThreadsReport.{ThreadsAccepted}
use Rattle.cmd_input.specs.declared.words.Request.{Request}

-- two reports of the checker on one image
pub record AreOfOne (x y : Accepted) : Type 0 where
  pub one : IsSound x
  pub other : IsSound y
  pub same : x.image ≡ y.image

-- for one image, one budget and one input, `run`, `walk` and `force` each have exactly one report
abbrev pub ReportsAreOne : Type 0
ReportsAreOne = (request : Request) (x y : Accepted) (input : List ℕ) (r q : Report) → AreOfOne x y → DoesTask request x input r → DoesTask request y input q → r ≡ q

-- so has `threads`, for one schedule
abbrev pub ThreadsAreOne : Type 0
ThreadsAreOne = (digits : List ℕ) (budget : ℕ) (x y : Accepted) (input : List ℕ) (r q : Report)
    → AreOfOne x y → ThreadsAccepted digits budget x input r → ThreadsAccepted digits budget y input q → r ≡ q

-- so has `gen`
abbrev pub CountsAreOne : Type 0
CountsAreOne = (x y : Accepted) (input : List ℕ) (r q : Report) → AreOfOne x y → CountsAccepted x input r → CountsAccepted y input q → r ≡ q

-- and whether the unwinding of `force` is refused depends only on these
abbrev pub RefusalsAreOne : Type 0
RefusalsAreOne = (number budget : ℕ) (x y : Accepted) (input : List ℕ) → AreOfOne x y → IsUnforced number budget x input → IsUnforced number budget y input
