-- Texts that end a command.
use Rattle.std.proofs.Common.{◌≡◌, ℕ, ◌≤◌, List, ◌++◌, Option, Result, Ok, Err, refl, sym, ◌∙◌, arith}
use Rattle.std.specs.Prelude.{IfOk}
use Rattle.std.proofs.KnownBytes.{Appends-trans}
use Rattle.std.specs.Io.KnownBytes.{Appends}
use Rattle.eh_port.specs.Causes.{Rose}
use Rattle.eh_port.specs.Writing.{AppendsFewer}
use Rattle.eh_port.proofs.Parts.{part_whole, part_fewer, part_first, part_then}
use Rattle.cmd_answers.specs.declared.stop.Stop.{Stop}
use Rattle.cmd_answers.specs.declared.stop.Stop.TheVariants.{Write}
use Rattle.cmd_answers.specs.Writes.{Answers}

pub answers_whole : (a b : Option (List ℕ)) (f g status : ℕ) (text : List ℕ) → Appends a b text → f ≤ g → Answers text status (Ok status) a b f g
answers_whole a b f g status text p later = record { ok = p; status_is = refl; part = part_whole a b text p; later = later; failed = tt }

pub answers_none : (a b : Option (List ℕ)) (f g status : ℕ) (text : List ℕ) → AppendsFewer a b text → f ≤ g → Rose f g → Answers text status (Err Write) a b f g
answers_none a b f g status text p later rose = record { ok = tt; status_is = tt; part = part_fewer a b text p; later = later; failed = (refl, rose) }

-- a first write that failed
pub answers_stopped : (a b : Option (List ℕ)) (f g status : ℕ) (x y : List ℕ) → AppendsFewer a b x → f ≤ g → Rose f g → Answers (x ++ y) status (Err Write) a b f g
answers_stopped a b f g status x y p later rose = record { ok = tt; status_is = tt; part = part_first a b x y (part_fewer a b x p); later = later; failed = (refl, rose) }

-- a first write that went, and what came then
pub answers_both : (a b c : Option (List ℕ)) (f g h status : ℕ) (result : Result ℕ Stop) (x y : List ℕ) → Appends a b x → f ≤ g → Answers y status result b c g h → Answers (x ++ y) status result a c f h
answers_both a b c f g h status (Ok s) x y p later w = record { ok = Appends-trans a b c x y p w.ok; status_is = w.status_is; part = part_then a b c x y p w.part; later = omega arith; failed = tt }
answers_both a b c f g h status (Err stop) x y p later w = record { ok = tt; status_is = tt; part = part_then a b c x y p w.part; later = omega arith; failed = (w.failed.0, omega arith) }

-- ---- what an answer says of the call that ends with it

-- the answer's status is the only one
pub of_status : (P : ℕ → Type 0) (text : List ℕ) (status : ℕ) (result : Result ℕ Stop) (before now : Option (List ℕ)) (f g : ℕ)
    → P status → Answers text status result before now f g → IfOk result P
of_status P text status (Ok s) before now f g p a = rw a.status_is p
of_status P text status (Err stop) before now f g p a = tt

-- an answer stops by a failed write alone
pub only_write : (text : List ℕ) (status : ℕ) (result : Result ℕ Stop) (stop : Stop) (before now : Option (List ℕ)) (f g : ℕ)
    → Answers text status result before now f g → result ≡ Err stop → (stop ≡ Write) × Rose f g
only_write text status (Ok s) stop before now f g a e = absurd (cc)
only_write text status (Err other) stop before now f g a e =
    let same : other ≡ stop = cc in
    (sym same ∙ a.failed.0, a.failed.1)
