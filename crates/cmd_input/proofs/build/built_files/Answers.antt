use Rattle.std.proofs.Common.{Ok, Err, refl, rules}
use Rattle.std.proofs.lemmas.Bool.{false≢true}
use Rattle.std.proofs.lemmas.Result.{err_from_is_err_and}
use Rattle.cmd_input.specs.Building.{fault_line, image_bytes}
use Rattle.cmd_answers.specs.Files.{missing_line, too_long_line}
use Rattle.cmd_answers.specs.Words.{texts}
use Rattle.cmd_input.specs.declared.refusal.FilesFault.TheVariants.{Missing, TooLong, Sources}
use Rattle.cmd_input.proofs.Finding.{finds_ok, bytes_built, bytes_unavailable}
use Rattle.cmd_input.proofs.FilesAsked.{asks_more, asks_never}
use Rattle.cmd_input.proofs.build.built_files.Goals as goal

pub returns-in-Lacks-clause-found : goal.returns-in-Lacks-clause-found
returns-in-Lacks-clause-found g c =
    let names = texts c.args.names.now in
    finds_ok _ (image_bytes names) _ _ (Err (Missing c.in-Lacks.name))
    (bytes_unavailable names (missing_line c.in-Lacks.name.now) _ (rw c.in-Lacks.is at c.in_ok-sources.ensures.told)) refl c.in_ok-sources.ensures.kept

pub returns-in-Exceeds-clause-found : goal.returns-in-Exceeds-clause-found
returns-in-Exceeds-clause-found g c =
    let names = texts c.args.names.now in
    finds_ok _ (image_bytes names) _ _ (Err (TooLong c.in-Exceeds.name))
    (bytes_unavailable names (too_long_line c.in-Exceeds.name.now) _ (rw c.in-Exceeds.is at c.in_ok-sources.ensures.told)) refl c.in_ok-sources.ensures.kept

pub returns-in-Ok-clause-found : goal.returns-in-Ok-clause-found
returns-in-Ok-clause-found g c =
    let names = texts c.args.names.now in
    finds_ok _ (image_bytes names) _ _ (Ok c.in-Ok.bytes)
    (bytes_built names c.in-All.sources.items (Ok c.in-Ok.bytes.items) _ (rw c.in-All.is at c.in_ok-sources.ensures.told) c.in-Ok.ensures)
    tt c.in_ok-sources.ensures.kept

pub returns-else-is_memory-clause-found : goal.returns-else-is_memory-clause-found
returns-else-is_memory-clause-found g c =
    let names = texts c.args.names.now in
    finds_ok _ (image_bytes names) _ _ (Err (Sources c.in-Err.fault))
    (bytes_built names c.in-All.sources.items (Err (fault_line c.in-Err.fault)) _ (rw c.in-All.is at c.in_ok-sources.ensures.told) (c.in-Err.ensures (search rules)))
    (search rules) c.in_ok-sources.ensures.kept

pub returns-in-Lacks-clause-asked : goal.returns-in-Lacks-clause-asked
returns-in-Lacks-clause-asked g c = asks_more _ _ _ _ _ _ _ (λ _. refl) (λ _ _. refl) (rw c.in-Lacks.is at c.in_ok-sources.ensures.asked)

pub returns-in-Exceeds-clause-asked : goal.returns-in-Exceeds-clause-asked
returns-in-Exceeds-clause-asked g c = asks_more _ _ _ _ _ _ _ (λ _. refl) (λ _ _. refl) (rw c.in-Exceeds.is at c.in_ok-sources.ensures.asked)

pub returns-in-Ok-clause-asked : goal.returns-in-Ok-clause-asked
returns-in-Ok-clause-asked g c = asks_more _ _ _ _ _ _ _ (λ _. refl) (λ _ l. absurd l) (rw c.in-All.is at c.in_ok-sources.ensures.asked)

pub returns-else-is_memory-clause-asked : goal.returns-else-is_memory-clause-asked
returns-else-is_memory-clause-asked g c = asks_more _ _ _ _ _ _ _ (λ _. refl) (λ _ l. absurd l) (rw c.in-All.is at c.in_ok-sources.ensures.asked)

pub returns-then-is_memory-clause-asked : goal.returns-then-is_memory-clause-asked
returns-then-is_memory-clause-asked g c = asks_never _ _ _ _ _ _ _ false≢true c.in_ok-sources.ensures.asked

pub returns-in_err-sources-clause-asked : goal.returns-in_err-sources-clause-asked
returns-in_err-sources-clause-asked g c =
    let p = err_from_is_err_and c.from_residual.result c.from_residual.ensures.1 in
    asks_never _ _ _ _ _ _ _ (λ ok. false≢true (rw p.1 at ok)) c.in_err-sources.ensures.asked
