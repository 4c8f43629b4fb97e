use Rattle.std.proofs.Common.{◌≡◌, ◌≤◌, length}
use Rattle.std.specs.Io.KnownBytes.{Consumes}
use Rattle.eh_port.specs.declared.files.host.TheConstants.{BLOCK}
use Rattle.eh_port.proofs.files.host.read_within.Given as goal

-- what was read is the bytes so far, which are within the limit
abbrev pub invariant-loop : goal.invariant-loop
invariant-loop g l = record {
  room : length l.buf ≡ BLOCK;
  sofar : Consumes (g.R.Read.remaining l.initial.file) (g.R.Read.remaining l.file) l.bytes.items;
  short : length l.bytes.items ≤ l.most;
}
