-- The event of a landing pad that is entered.
use Rattle.std.proofs.Common.{refl, slice_index}
use Rattle.eh_trace.specs.declared.event.EventKind.TheVariants.{Cleanup, Catch, Unexpected}
use Rattle.eh_gates.specs.Landing.{pad_event}
use Rattle.eh_gate_laws.specs.PadEvents.{LandingsHaveTheirEvent}

pub have_their_event : LandingsHaveTheirEvent
have_their_event s block object vrs pad = record {
  cleanup = λ next site. record { event = pad_event Cleanup pad (slice_index vrs.r 13) 0; added = refl; kind = refl; at = refl; sp = refl; count = refl };
  catch = record { event = pad_event Catch pad (slice_index vrs.r 13) object; added = refl; kind = refl; at = refl; sp = refl; count = refl };
  given = refl;
  spec = record { event = pad_event Unexpected pad (slice_index vrs.r 13) 0; added = refl; kind = refl; at = refl; sp = refl; count = refl };
}
