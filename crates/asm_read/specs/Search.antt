-- The first form of a word that fits; else the stop of the form that gets farthest
-- (docs/rules/sources.md, "Refusals of text").
use Rattle.std.specs.Prelude.{ℕ, ◌==◌, ◌&&◌, ◌||◌, not, nat_lt, Bool, true, false, if◌then◌else◌, List, [], ◌∷◌, Option, Some, None, Result, Ok, Err}
use Rattle.std.specs.Ordering.{nat_cmp, is_lt}
use Rattle.std.specs.Cmp.Lexicographic.{slice_cmp}
use Rattle.asm_read.specs.declared.fault.SourceWhat.{SourceWhat}
use Rattle.asm_read.specs.declared.fault.SourceWhat.TheVariants.{BadOperand}
use Rattle.asm_read.specs.declared.line.LineEnd.{LineEnd}
use Rattle.asm_read.specs.declared.form.Operands.{Operands}
use Rattle.asm_read.specs.declared.makes.Makes.{Makes}
use Rattle.asm_read.specs.declared.choice.Statement.{Statement}
use Rattle.asm_read.specs.Operands.{same}
use Rattle.asm_read.specs.Fits.{no_operands, read_pieces}
use Rattle.asm_read.specs.Patterns.{pieces_of}
use Rattle.asm_read.specs.Forms.{TableRow}

-- whether a word sorts before another, byte by byte
abbrev pub is_before : List ℕ → List ℕ → Bool
is_before word other = is_lt (slice_cmp nat_cmp word other)

-- whether the rows are sorted by their words, all from this word on
abbrev pub rises : List ℕ → List TableRow → Bool
rises low [] = true
rises low (row ∷ more) = not (is_before row.word low) && rises row.word more

abbrev pub is_operand : SourceWhat → Bool
is_operand BadOperand = true
is_operand what = false

-- the stop that is farther in the line; at equal places, a `BadOperand` gives way to the other stop
abbrev pub farther_end : Option LineEnd → LineEnd → LineEnd
farther_end None s = s
farther_end (Some best) s = if nat_lt best.at s.at || (best.at == s.at && is_operand best.what) then s else best

abbrev pub form_attempt : Makes → Option LineEnd → Result Operands LineEnd → Result Statement (Option LineEnd)
form_attempt makes best (Ok o) = Ok (record { makes = makes; operands = o })
form_attempt makes best (Err s) = Err (Some (farther_end best s))

-- tries one row: it has another word, it fits, or it stops
unfoldable pub try_form : TableRow → List ℕ → List ℕ → ℕ → Option LineEnd → Result Statement (Option LineEnd)
try_form row word line from best =
    if same row.word word then form_attempt row.form.makes best (read_pieces (pieces_of row.form.operands) line (no_operands from)) else Err best

abbrev pub or_else_form : Result Statement (Option LineEnd) → (Option LineEnd → Result Statement (Option LineEnd)) → Result Statement (Option LineEnd)
or_else_form (Ok s) more = Ok s
or_else_form (Err best) more = more best

-- the first row of this word whose form fits; else the farthest stop, or None if no row has this word
unfoldable pub first_fit : List TableRow → List ℕ → List ℕ → ℕ → Option LineEnd → Result Statement (Option LineEnd)
first_fit [] word line from best = Err best
first_fit (row ∷ more) word line from best =
    or_else_form (try_form row word line from best) (λ b. first_fit more word line from b)
