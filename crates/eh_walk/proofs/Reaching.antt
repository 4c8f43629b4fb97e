-- A run that goes on to a site, from the events that its loop has done.
use Rattle.std.proofs.Common.{◌≡◌, ℕ, ◌+◌, ◌-◌, ◌<◌, ◌≤◌, ◌&&◌, Bool, true, false, cond, List, Option, Some, None, IfSome, refl, sym, ap, subst, arith}
use Rattle.std.specs.Prelude.{not}
use Rattle.std.specs.Bool.{OnFalse, OnTrue}
use Rattle.std.proofs.KnownBytes.{Appends-nil}
use Rattle.run_events.specs.Runs.{Event, Ends, GoesOn, Fails, EndsBy, Runs}
use Rattle.run_events.proofs.Progress.{Progress, starts, goes_on, ends, spent}
use Rattle.run_gates.specs.Ends.{is_fault}
use Rattle.thumb_core.specs.declared.ends.End.{End}
use Rattle.thumb_core.specs.declared.ends.End.TheVariants.{Budget}
use Rattle.eh_gates.specs.declared.state.Turned.TheVariants.{Went, Ended}
use Rattle.eh_gates.specs.State.{State}
use Rattle.sim_machines.specs.Program.{Program}
use Rattle.sim_machines.specs.Machine.{machine_event, may_fail}
use Rattle.eh_machine.specs.Turns.{TurnedOnce}
use Rattle.eh_walk.specs.Reaching.{Onward, state_after, count_event, stands_there, site_machine, most_events, RunsToSite}

on_false : (b : Bool) (P Q : Type 0) → OnFalse b P → (P → Q) → OnFalse b Q
on_false true P Q p f = tt
on_false false P Q p f = f p

on_true : (b : Bool) (P Q : Type 0) → OnTrue b P → (P → Q) → OnTrue b Q
on_true true P Q p f = f p
on_true false P Q p f = tt

module _ (p : Program) (budget done : ℕ) (s : State) where
  -- an event where the run doesn't stop is the machine's
  event_on : stands_there p budget done s ≡ false → (bytes : List ℕ) (e : Event State End) → machine_event p s bytes ≡ e → (site_machine p budget).event (state_after done s) bytes ≡ count_event done e
  event_on on bytes e is =
      let P : Bool → Type 0 = λ b. cond b (Ends Budget (state_after done s)) (count_event done (machine_event p s bytes)) ≡ count_event done e in
      subst P (sym on) (ap (count_event done) is)

  -- where it stops, it ends
  event_stops : stands_there p budget done s ≡ true → (bytes : List ℕ) → (site_machine p budget).event (state_after done s) bytes ≡ Ends Budget (state_after done s)
  event_stops on bytes =
      let P : Bool → Type 0 = λ b. cond b (Ends Budget (state_after done s)) (count_event done (machine_event p s bytes)) ≡ Ends Budget (state_after done s) in
      subst P (sym on) refl

  may_on : stands_there p budget done s ≡ false → (end : End) → may_fail p s end ≡ true → (site_machine p budget).may_fail (state_after done s) end ≡ true
  may_on on end may =
      let P : Bool → Type 0 = λ b. (not b && may_fail p s end) ≡ true in
      subst P (sym on) may

  lift : (told left' mid now : Option (List ℕ)) (s' : State) → stands_there p budget done s ≡ false → IfSome told (λ bytes. TurnedOnce p s bytes Went s' left' mid now)
      → IfSome told (λ bytes. GoesOn ((site_machine p budget).event (state_after done s) bytes) (state_after (done + 1) s') left' mid now)
  lift None left' mid now s' on t = tt
  lift (Some bytes) left' mid now s' on t = record { text = t.text; rest = t.rest; is = event_on on bytes _ t.is; leaves = t.leaves; wrote = t.wrote }

  lift_end : (told left' mid now : Option (List ℕ)) (end : End) (s' : State) → stands_there p budget done s ≡ false → IfSome told (λ bytes. TurnedOnce p s bytes (Ended end) s' left' mid now)
      → IfSome told (λ bytes. EndsBy is_fault ((site_machine p budget).may_fail (state_after done s)) ((site_machine p budget).event (state_after done s) bytes) end (state_after done s) (state_after done s') bytes left' mid now)
  lift_end None left' mid now end s' on t = tt
  lift_end (Some bytes) left' mid now end s' on t = record {
    is = on_false (is_fault end) _ _ t.is (event_on on bytes _);
    fails = on_true (is_fault end) _ _ t.fails (λ f. record { may = may_on on end (Fails.may f); same = ap (state_after done) (Fails.same f) });
    leaves = t.leaves;
    wrote = t.wrote;
  }

  stop : (told mid : Option (List ℕ)) → stands_there p budget done s ≡ true
      → IfSome told (λ bytes. EndsBy is_fault ((site_machine p budget).may_fail (state_after done s)) ((site_machine p budget).event (state_after done s) bytes) Budget (state_after done s) (state_after done s) bytes told mid mid)
  stop None mid on = tt
  stop (Some bytes) mid on = record { is = event_stops on bytes; fails = tt; leaves = refl; wrote = Appends-nil mid }

-- ---- the loop

module _ (p : Program) (budget : ℕ) (old : State) (left0 : Option (List ℕ)) where
  abbrev Before : ℕ → ℕ → State → Option (List ℕ) → Option (List ℕ) → Option (List ℕ) → Type 0
  Before n done s input before mid =
      IfSome left0 (λ bytes. Progress (Onward State) End (site_machine p budget) (most_events budget) (state_after 0 old) bytes n (state_after done s) input before mid)

  abbrev pub Onwards : ℕ → State → Option (List ℕ) → Option (List ℕ) → Option (List ℕ) → Type 0
  Onwards done s input before mid = Before (most_events budget - done) done s input before mid

  abbrev Done : End → ℕ → State → Option (List ℕ) → Option (List ℕ) → Option (List ℕ) → Type 0
  Done end done new input before now = IfSome left0 (λ bytes. RunsToSite p budget old bytes end done new input before now)

  ran : (told : Option (List ℕ)) (spare : ℕ) (end : End) (done : ℕ) (new : State) (input before now : Option (List ℕ))
      → IfSome told (λ bytes. Runs (site_machine p budget) (most_events budget) (state_after 0 old) bytes end (state_after done new) spare input before now)
      → IfSome told (λ bytes. RunsToSite p budget old bytes end done new input before now)
  ran None spare end done new input before now r = tt
  ran (Some bytes) spare end done new input before now r = record { spare = spare; runs = r }

  pub starts_onward : (out : Option (List ℕ)) → Onwards 0 old left0 out out
  starts_onward out =
      let all : most_events budget ≡ most_events budget - 0 = omega arith in
      subst (λ (n : ℕ). Before n 0 old left0 out out) all (starts (Onward State) End (site_machine p budget) (most_events budget) (state_after 0 old) left0 out)

  module _ (done : ℕ) (s : State) (input before mid : Option (List ℕ)) (progress : Onwards done s input before mid) where
    pub turn_goes_on : (s' : State) (input' now : Option (List ℕ)) (done' : ℕ) → done' ≡ done + 1 → done < most_events budget → stands_there p budget done s ≡ false → IfSome input (λ bytes. TurnedOnce p s bytes Went s' input' mid now)
        → Onwards done' s' input' before now
    turn_goes_on s' input' now done' e h on t =
        let fewer : (most_events budget - done) - 1 ≡ most_events budget - (done + 1) = omega arith in
        subst (λ (d : ℕ). Onwards d s' input' before now) (sym e)
        (subst (λ (n : ℕ). Before n (done + 1) s' input' before now) fewer
        (goes_on (Onward State) End (site_machine p budget) (most_events budget) (state_after 0 old) left0 (most_events budget - done) (state_after done s) (state_after (done + 1) s') input input' before mid now (omega (arith, h)) progress
        (lift p budget done s input input' mid now s' on t)))

    pub turn_ends : (end : End) (s' : State) (input' now : Option (List ℕ)) → done < most_events budget → stands_there p budget done s ≡ false → IfSome input (λ bytes. TurnedOnce p s bytes (Ended end) s' input' mid now)
        → Done end done s' input' before now
    turn_ends end s' input' now h on t =
        ran left0 ((most_events budget - done) - 1) end done s' input' before now
        (ends (Onward State) End (site_machine p budget) (most_events budget) (state_after 0 old) left0 (most_events budget - done) (state_after done s) (state_after done s') input input' before mid now end (omega (arith, h)) progress
        (lift_end p budget done s input input' mid now end s' on t))

    pub stands : done < most_events budget → stands_there p budget done s ≡ true → Done Budget done s input before mid
    stands h on =
        ran left0 ((most_events budget - done) - 1) Budget done s input before mid
        (ends (Onward State) End (site_machine p budget) (most_events budget) (state_after 0 old) left0 (most_events budget - done) (state_after done s) (state_after done s) input input before mid mid Budget (omega (arith, h)) progress
        (stop p budget done s input mid on))

    pub runs_out : most_events budget ≤ done → Done Budget done s input before mid
    runs_out none =
        let over : most_events budget - done ≡ 0 = omega (arith, none) in
        ran left0 (most_events budget - done) Budget done s input before mid
        (spent (Onward State) End (site_machine p budget) (most_events budget) (state_after 0 old) left0 (most_events budget - done) (state_after done s) input before mid over refl progress)
