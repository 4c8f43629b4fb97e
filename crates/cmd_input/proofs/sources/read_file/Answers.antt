use Rattle.std.proofs.Common.{ℕ, List, Ok, Err, refl}
use Rattle.eh_port.specs.declared.files.FileAnswer.TheVariants as answer
use Rattle.cmd_input.specs.Finding.{file_bytes}
use Rattle.cmd_input.specs.declared.refusal.FilesFault.TheVariants.{Missing, TooLong}
use Rattle.cmd_input.proofs.Finding.{finds_ok, file_told}
use Rattle.cmd_input.proofs.FilesAsked.{asks_one}
use Rattle.cmd_input.proofs.sources.read_file.Goals as goal

pub returns-in-Found-clause-found : goal.returns-in-Found-clause-found
returns-in-Found-clause-found g c =
    finds_ok (λ (bytes : List ℕ). bytes) (file_bytes c.args.name.now) _ _ (Ok c.in-Found.bytes)
    (file_told c.args.name.now (answer.Found c.in-Found.bytes) _ (rw c.in-Found.is at c.in_ok-bytes.ensures.answer)) tt c.in_ok-bytes.ensures.cause.kept

pub returns-in-Missing-clause-found : goal.returns-in-Missing-clause-found
returns-in-Missing-clause-found g c =
    finds_ok (λ (bytes : List ℕ). bytes) (file_bytes c.args.name.now) _ _ (Err (Missing c.args.name))
    (file_told c.args.name.now answer.Missing _ (rw c.in-Missing.is at c.in_ok-bytes.ensures.answer)) refl c.in_ok-bytes.ensures.cause.kept

pub returns-in-TooLong-clause-found : goal.returns-in-TooLong-clause-found
returns-in-TooLong-clause-found g c =
    finds_ok (λ (bytes : List ℕ). bytes) (file_bytes c.args.name.now) _ _ (Err (TooLong c.args.name))
    (file_told c.args.name.now answer.TooLong _ (rw c.in-TooLong.is at c.in_ok-bytes.ensures.answer)) refl c.in_ok-bytes.ensures.cause.kept

pub returns-in-Found-clause-asked : goal.returns-in-Found-clause-asked
returns-in-Found-clause-asked g c = asks_one c.args.name.now _ _ _ _ _ _ _ _ g.F.Files.with_name c.in_ok-bytes.ensures.once

pub returns-in-Missing-clause-asked : goal.returns-in-Missing-clause-asked
returns-in-Missing-clause-asked g c = asks_one c.args.name.now _ _ _ _ _ _ _ _ g.F.Files.with_name c.in_ok-bytes.ensures.once

pub returns-in-TooLong-clause-asked : goal.returns-in-TooLong-clause-asked
returns-in-TooLong-clause-asked g c = asks_one c.args.name.now _ _ _ _ _ _ _ _ g.F.Files.with_name c.in_ok-bytes.ensures.once

pub returns-in_err-bytes-clause-asked : goal.returns-in_err-bytes-clause-asked
returns-in_err-bytes-clause-asked g c = asks_one c.args.name.now _ _ _ _ _ _ _ _ g.F.Files.with_name c.in_err-bytes.ensures.once
