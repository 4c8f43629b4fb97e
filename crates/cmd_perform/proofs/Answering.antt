-- Texts that end a run.
use Rattle.std.proofs.Common.{◌≡◌, ◌⊎◌, inl, ℕ, List, ◌++◌, Bool, true, false, Option, Result, Ok, Err, refl, sym, ap, ◌∙◌}
use Rattle.std.specs.Bool.{OnFalse, OnTrue}
use Rattle.cmd_answers.specs.declared.stop.Stop.{Stop}
use Rattle.cmd_answers.specs.declared.stop.Stop.TheVariants.{Write, Memory}
use Rattle.run_gates.specs.Ends.{is_fault}
use Rattle.thumb_core.specs.declared.ends.End.{End}
use Rattle.thumb_core.specs.declared.ends.End.TheVariants.{Exit, Terminate, Trap, Budget, ReadFault, WriteFault}
use Rattle.cmd_input.specs.Loading.{closing_of, status_of, stop_of_fault}
use Rattle.cmd_lines.specs.Text.{end_line}
use Rattle.cmd_answers.specs.Writes.{Answers, StopsEarly}
use Rattle.cmd_perform.specs.Writes.{AnswersRun}

not_fault : (b : Bool) (P Q : Type 0) → b ≡ false → P → OnFalse b P × OnTrue b Q
not_fault true P Q e p = absurd (cc)
not_fault false P Q e p = (p, tt)

is_one : (b : Bool) (P Q : Type 0) → b ≡ true → Q → OnFalse b P × OnTrue b Q
is_one true P Q e q = (tt, q)
is_one false P Q e q = absurd (cc)

-- what is said of a run that no fault ended, or no memory for it
abbrev Said : List ℕ → ℕ → Result ℕ Stop → Option (List ℕ) → Option (List ℕ) → ℕ → ℕ → Type 0
Said text status result a b f g = Answers text status result a b f g ⊎ StopsEarly Memory result a b f g

pub ends_fine : (head : List ℕ) (end : End) (status : ℕ) (result : Result ℕ Stop) (a b : Option (List ℕ)) (f g : ℕ)
    → is_fault end ≡ false → status ≡ status_of end → Answers (head ++ end_line end) status result a b f g → AnswersRun (closing_of head end) end result a b f g
ends_fine head end status result a b f g fine is p =
    let q = not_fault (is_fault end) (Said (head ++ end_line end) (status_of end) result a b f g) (StopsEarly (stop_of_fault end) result a b f g) fine (inl (rw is at p)) in
    record { fine = q.0; fault = q.1 }

pub ends_fault : (head : List ℕ) (end : End) (stop : Stop) (a : Option (List ℕ)) (f : ℕ)
    → is_fault end ≡ true → stop ≡ stop_of_fault end → AnswersRun (closing_of head end) end (Err stop) a a f f
ends_fault head end stop a f fault is =
    let q = is_one (is_fault end) (Said (head ++ end_line end) (status_of end) (Err stop) a a f f) (StopsEarly (stop_of_fault end) (Err stop) a a f f) fault (record { is = ap Err is; same = refl; faultless = refl }) in
    record { fine = q.0; fault = q.1 }

-- neither a write nor a fault of the outside is want of memory
pub written_free : (text : List ℕ) (status : ℕ) (result : Result ℕ Stop) (a b : Option (List ℕ)) (f g : ℕ) → Answers text status result a b f g → result ≡ Err Memory → ⊥
written_free text status (Ok s) a b f g w e = cc
written_free text status (Err stop) a b f g w e =
    let same : stop ≡ Memory = cc in
    let write : stop ≡ Write = w.failed.0 in
    cc

pub no_want_of_memory : (end : End) (stop : Stop) → stop ≡ stop_of_fault end → ◌≡◌ {A = Result ℕ Stop} (Err stop) (Err Memory) → ⊥
no_want_of_memory end stop is e =
    let same : stop ≡ Memory = cc in
    go end (sym is ∙ same)
  where
    go : (end : End) → stop_of_fault end ≡ Memory → ⊥
    go (Exit number) s = cc
    go (Terminate cause) s = cc
    go (Trap kind value pc) s = cc
    go Budget s = cc
    go ReadFault s = cc
    go WriteFault s = cc
