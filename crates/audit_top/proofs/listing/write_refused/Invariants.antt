use Rattle.std.proofs.Common.{◌≡◌, take}
use Rattle.std.specs.Prelude.{flat_map}
use Rattle.std.specs.Io.KnownBytes.{Appends}
use Rattle.audit_top.specs.Text.{entry_line}
use Rattle.audit_top.proofs.listing.write_refused.Given as goal

-- the lines of the entries so far are written, and no write has failed
abbrev pub invariant-loop-e : goal.invariant-loop-e
invariant-loop-e g l = record {
  wrote : Appends (g.O.Sink.written l.initial.out) (g.O.Sink.written l.out) (flat_map entry_line (take l.e-index l.refused));
  kept : g.O.Sink.faults l.out ≡ g.O.Sink.faults l.initial.out;
}
