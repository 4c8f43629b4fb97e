use Rattle.std.proofs.Common.{◌≡◌, take}
use Rattle.std.specs.Prelude.{flat_map}
use Rattle.std.specs.Io.KnownBytes.{Appends}
use Rattle.audit_top.specs.Text.{function_line}
use Rattle.audit_top.proofs.listing.write_functions.Given as goal

-- the lines of the functions so far are written, and no write has failed
abbrev pub invariant-loop-a : goal.invariant-loop-a
invariant-loop-a g l = record {
  wrote : Appends (g.O.Sink.written l.initial.out) (g.O.Sink.written l.out) (flat_map function_line (take l.a-index l.functions));
  kept : g.O.Sink.faults l.out ≡ g.O.Sink.faults l.initial.out;
}
