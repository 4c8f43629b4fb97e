-- Ends of a throw that leave another state: with the throw's event, and where a specification has no pad with the words of the throw too.
use Rattle.std.proofs.Common.{◌≡◌, ℕ, ◌≤◌, List, [], ◌∷◌, refl, sym, subst, arith, Some}
use Rattle.eh_trace.specs.Trace.{Trace}
use Rattle.sim_machines.specs.frame_check.Accepts.{Accepted}
use Rattle.sim_machines.specs.Activations.{Recorded, reg_in, with_words, with_lists, cleanups_in, with_exceptions}
use Rattle.eh_bus.specs.Lists.{Has}
use Rattle.eh_bus.specs.Segment.{Segment}
use Rattle.eh_bus.specs.declared.map.TheConstants.{STACK_START}
use Rattle.eh_bus.proofs.MapLaws.{map_trans}
use Rattle.eh_cxa.specs.Lists.{Cleanup, Lists, slots}
use Rattle.run_images.specs.Start.{image_start}
use Rattle.thumb_core.specs.declared.regs.TheConstants.{SP}
use Rattle.sim_machines.specs.Corresponds.{Corresponds}
use Rattle.eh_cxa.specs.Throw.{set_barrier_of}
use Rattle.eh_cxa.specs.Words.{Write}
use Rattle.eh_cxa.specs.declared.globals.BarrierWords.{BarrierWords}
use Rattle.eh_trace.specs.declared.event.Event.{Event}
use Rattle.sim_machines.proofs.Flying.{HasFlown}
use Rattle.sim_machines.specs.ActivationMachine as machine
use Rattle.sim_frames.specs.sim_relation.Stands.{Keeps, IsCounted}
use Rattle.sim_frames.proofs.Agreement.{chain_there}
use Rattle.sim_throws.proofs.Bounds.{still_in_progress, AreOf}
use Rattle.sim_frames.proofs.sim_relation.Written.{landings_rise}
use Rattle.sim_frames.proofs.sim_relation.Goes.{chain_top}
use Rattle.sim_throws.proofs.Handler.{Wrote, same_goals, wrote_one, wrote_then, map_with, barred_of}
use Rattle.sim_frames.proofs.Landing.{rise_outside}
use Rattle.sim_frames.proofs.Located.{Rest}
use Rattle.sim_frames.proofs.PadStands.{stands_there}

-- an event alone
pub logged_keeps : (x : Accepted) (s : Recorded) (events : Trace) → Keeps x s → Keeps x (record s { events = events })
logged_keeps x s events k = record {
  corresponds = record { map = k.corresponds.map; stands = k.corresponds.stands };
  counted = k.counted;
  image = k.image;
  sound = k.sound;
  low = k.low;
  high = k.high;
  whole = k.whole;
  slots = k.slots;
  first = k.first;
  beyond = k.beyond;
  chain = k.chain;
  cleanups = k.cleanups;
}

-- words of a slot none of whose cleanups is in progress, and other lists
module _ (x : Accepted) (s : Recorded) (k : Keeps x s) (lists : Lists) (segments : List Segment) (events : Trace) where
  abbrev pub poured : Recorded
  poured = record (with_exceptions lists s) { segments = segments; events = events }

  above : STACK_START ≤ reg_in s SP
  above = let a = k.corresponds.map.home.low in let b = k.low in omega (arith, a, b)

  below : s.first.caller.sp ≤ s.home.1
  below = chain_top x s.segments s.home s.first.caller s.outer k.chain

  rest : Rest s.home.1 (reg_in s SP) [] s.first s.outer
  rest = record { under = tt; rise = (k.slots, k.high, below, rise_outside x s.segments s.home s.first.caller s.outer k.chain) }

  pub poured_keeps : IsCounted lists → (slot : ℕ) → Wrote slot s poured → (Has (slots (cleanups_in s.cleanups)) slot → ⊥) → Corresponds poured → Keeps x poured
  poured_keeps counted slot wrote idle corresponds = record {
    corresponds = corresponds;
    counted = counted;
    image = map_trans (image_start x.image).memory.segments s.segments segments k.image wrote.map;
    sound = k.sound;
    low = k.low;
    high = k.high;
    whole = k.whole;
    slots = k.slots;
    first = λ reached. stands_there s.segments segments wrote.stack x s.first s.regs s.regs.pc (reg_in s SP) k.slots above (let a = below in let b = k.corresponds.map.home.high in omega (arith, a, b)) (k.first reached);
    beyond = k.beyond;
    chain = chain_there s.segments segments wrote.stack x s.home k.corresponds.map.home.high s.first.caller s.outer (let a = above in let b = k.high in omega (arith, a, b)) k.chain;
    cleanups =
        still_in_progress x s poured (reg_in s SP) [] s.first s.outer refl refl refl rest above k.corresponds.map.home.high wrote.stack (reg_in s SP) (reg_in s SP) s.cleanups
        (landings_rise x s (reg_in s SP) s.cleanups k.cleanups) (landings_rise x s (reg_in s SP) s.cleanups k.cleanups)
        (λ u h. same_goals slot s poured wrote u (λ e. idle (subst (Has (slots (cleanups_in s.cleanups))) e h))) k.cleanups;
  }

-- after the words of a throw and of its barrier: the state that an end by a specification without a pad leaves
pub after_keeps : (x : Accepted) (s : Recorded) → Keeps x s → (slot : ℕ) (writes : List Write) (flown : Lists) → HasFlown s slot writes flown → flown.cleanups ≡ cleanups_in s.cleanups → AreOf slot writes → IsCounted flown → (e : Event)
    (b : BarrierWords) → Corresponds (with_words (set_barrier_of (Some slot) b) (with_lists flown writes (machine.log_event s e))) → Keeps x (with_words (set_barrier_of (Some slot) b) (with_lists flown writes (machine.log_event s e)))
after_keeps x s k slot writes flown flight same of_slot counted e b corresponds =
    let thrown : Recorded = with_lists flown writes (machine.log_event s e) in
    let after : Recorded = with_words (set_barrier_of (Some slot) b) thrown in
    poured_keeps x s k flown after.segments after.events counted slot
    (wrote_then slot s thrown after (wrote_one slot writes s thrown flight.small of_slot k.corresponds.map refl)
    (wrote_one slot (set_barrier_of (Some slot) b) thrown after flight.small (barred_of slot b) (map_with writes s k.corresponds.map) refl))
    (λ h. flight.idle (subst (λ (cs : List Cleanup). Has (slots cs) slot) (sym same) h)) corresponds
