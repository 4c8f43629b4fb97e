use Rattle.std.proofs.Common.{◌≡◌, drop}
use Rattle.eh_port.specs.FileList.{file_named, pairs}
use Rattle.eh_port.proofs.files.memory.answer_from.Given as goal

-- no file so far has the name
abbrev pub invariant-loop-file : goal.invariant-loop-file
invariant-loop-file l = file_named (pairs l.files) l.name ≡ file_named (pairs (drop l.file-index l.files)) l.name
