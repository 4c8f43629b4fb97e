use Rattle.std.proofs.Common.{◌≡◌, ◌++◌, drop}
use Rattle.gnu_compact.specs.Descriptors.{descriptors_bytes}
use Rattle.gnu_compact.proofs.descriptor.push_descriptors.Given as goal

abbrev pub invariant-loop-d : goal.invariant-loop-d
invariant-loop-d l = l.bytes.items ++ descriptors_bytes l.at (drop l.d-index l.descriptors) ≡ l.initial.bytes.items ++ descriptors_bytes l.place l.descriptors
