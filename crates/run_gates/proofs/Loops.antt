-- A loop over events that are each given bytes of their own: what it keeps from turn to turn, and what it has done when it ends.
use Rattle.std.proofs.Common.{◌≡◌, ℕ, ◌+◌, ◌<◌, ◌-◌, List, [], ◌∷◌, ◌++◌, length, Bool, true, false, Option, Some, None, option_map, refl, sym, ap, ◌∙◌, arith, append_assoc, append-nil}
use Rattle.std.proofs.lemmas.List.{length-append}
use Rattle.std.proofs.lemmas.List.Elements.{All-nil, All-push}
use Rattle.std.proofs.lemmas.Option.{same_Some}
use Rattle.std.proofs.KnownBytes.{Appends-nil, Appends-trans}
use Rattle.std.specs.Bool.{OnFalse, OnTrue}
use Rattle.std.specs.List.{All}
use Rattle.std.specs.Io.KnownBytes.{Appends}
use Rattle.eh_bus.specs.Segment.{AreBytes}
use Rattle.run_events.specs.Runs.{Event, Goes, Ends, Machine, GoesOn, Fails, EndsBy}
use Rattle.run_gates.specs.Given.{OnGiven}
use Rattle.run_gates.specs.Runs.{FedState, prepend_fed, feed_after, feed_events, IsOver, spent, ended, failed, RunsGiven}

module _ (S E : Type 0) (machine : Machine S E) where
  led_nil : (state : S) → feed_events machine.event [] state ≡ Some (record { text = []; state = state })
  unfolding feed_events
  led_nil state = refl

  led_cons : (bytes : List ℕ) (more : List (List ℕ)) (state : S) → feed_events machine.event (bytes ∷ more) state ≡ feed_after (machine.event state bytes) (feed_events machine.event more)
  unfolding feed_events
  led_cons bytes more state = refl

  -- one event after others
  led_more : (given : List (List ℕ)) (bytes : List ℕ) (old : S) (led : FedState S) (new : S) (text rest : List ℕ) → feed_events machine.event given old ≡ Some led
      → machine.event led.state bytes ≡ Goes new text rest → feed_events machine.event (given ++ bytes ∷ []) old ≡ Some (record { text = led.text ++ text; state = new })
  led_more [] bytes old led new text rest e goes =
      let same : record { text = []; state = old } ≡ led = same_Some _ _ (sym (led_nil old) ∙ e) in
      let here : machine.event old bytes ≡ Goes new text rest = ap (λ (l : FedState S). machine.event l.state bytes) same ∙ goes in
      led_cons bytes [] old ∙ ap (λ (v : Event S E). feed_after v (feed_events machine.event [])) here ∙ ap (option_map (prepend_fed text)) (led_nil new)
      ∙ ap (λ (t : List ℕ). Some (record { text = t; state = new })) (append-nil text)
      ∙ ap (λ (l : FedState S). Some (record { text = l.text ++ text; state = new })) same
  led_more (first ∷ given) bytes old led new text rest e goes =
      led_cons first (given ++ bytes ∷ []) old
      ∙ go (λ (l : FedState S) (t : S) (is : feed_events machine.event given t ≡ Some l) (there : machine.event l.state bytes ≡ Goes new text rest). led_more given bytes t l new text rest is there)
      (machine.event old first) (sym (led_cons first given old) ∙ e)
    where
      after : ((l : FedState S) (t : S) → feed_events machine.event given t ≡ Some l → machine.event l.state bytes ≡ Goes new text rest
          → feed_events machine.event (given ++ bytes ∷ []) t ≡ Some (record { text = l.text ++ text; state = new }))
          → (said : List ℕ) (o : Option (FedState S)) (t : S) → feed_events machine.event given t ≡ o → option_map (prepend_fed said) o ≡ Some led
          → option_map (prepend_fed said) (feed_events machine.event (given ++ bytes ∷ []) t) ≡ Some (record { text = led.text ++ text; state = new })
      after more said None t is h = absurd cc
      after more said (Some l) t is h =
          let same : prepend_fed said l ≡ led = same_Some _ _ h in
          let goes_there : machine.event l.state bytes ≡ Goes new text rest = ap (λ (q : FedState S). machine.event q.state bytes) same ∙ goes in
          ap (option_map (prepend_fed said)) (more l t is goes_there)
          ∙ ap (λ (x : List ℕ). Some (record { text = x; state = new })) (sym (append_assoc said l.text text))
          ∙ ap (λ (q : FedState S). Some (record { text = q.text ++ text; state = new })) same

      go : ((l : FedState S) (t : S) → feed_events machine.event given t ≡ Some l → machine.event l.state bytes ≡ Goes new text rest
          → feed_events machine.event (given ++ bytes ∷ []) t ≡ Some (record { text = l.text ++ text; state = new }))
          → (v : Event S E) → feed_after v (feed_events machine.event given) ≡ Some led
          → feed_after v (feed_events machine.event (given ++ bytes ∷ [])) ≡ Some (record { text = led.text ++ text; state = new })
      go more (Goes t said left) h = after more said (feed_events machine.event given t) t refl h
      go more (Ends end t) h = absurd cc

  -- n events of a run of n0 are left
  pub record GivenProgress (n0 : ℕ) (old : S) (n : ℕ) (state : S) (before now : Option (List ℕ)) : Type 0 where
    pub given : List (List ℕ)
    pub are : All AreBytes given
    pub text : List ℕ
    pub led : feed_events machine.event given old ≡ Some (record { text = text; state = state })
    pub wrote : Appends before now text
    pub count : length given + n ≡ n0

  pub given_starts : (n : ℕ) (state : S) (out : Option (List ℕ)) → GivenProgress n state n state out out
  given_starts n state out = record { given = []; are = All-nil AreBytes; text = []; led = led_nil state; wrote = Appends-nil out; count = omega arith }

  -- an event that goes on
  pub given_goes_on : (n0 : ℕ) (old : S) (n : ℕ) (state state' : S) (before mid now : Option (List ℕ)) → 0 < n → GivenProgress n0 old n state before mid
      → OnGiven (λ bytes left. GoesOn (machine.event state bytes) state' left mid now) → GivenProgress n0 old (n - 1) state' before now
  given_goes_on n0 old n state state' before mid now h p q =
      let count = p.count in
      let longer = length-append p.given (q.bytes ∷ []) in
      record {
        given = p.given ++ q.bytes ∷ [];
        are = All-push AreBytes p.given q.bytes p.are q.are;
        text = p.text ++ q.done.text;
        led = led_more p.given q.bytes old (record { text = p.text; state = state }) state' q.done.text q.done.rest p.led q.done.is;
        wrote = Appends-trans before mid now p.text q.done.text p.wrote q.done.wrote;
        count = omega (arith, count, longer, h);
      }

  -- an event that ends the run
  pub given_ends : (n0 : ℕ) (old : S) (n : ℕ) (state state' : S) (before mid now : Option (List ℕ)) (end : E) → 0 < n → GivenProgress n0 old n state before mid
      → OnGiven (λ bytes left. EndsBy machine.is_fault (machine.may_fail state) (machine.event state bytes) end state state' bytes left mid now)
      → RunsGiven machine n0 old end state' (n - 1) before now
  given_ends n0 old n state state' before mid now end h p q =
      let count = p.count in
      record {
        given = p.given;
        are = p.are;
        text = p.text;
        at = state;
        led = p.led;
        wrote = rw append-nil at (Appends-trans before mid now p.text [] p.wrote q.done.wrote);
        over = go (machine.is_fault end) refl q.done.is q.done.fails;
      }
    where
      go : (b : Bool) → machine.is_fault end ≡ b → OnFalse b (machine.event state q.bytes ≡ Ends end state') → OnTrue b (Fails (machine.may_fail state) end state state')
          → IsOver machine n0 (length p.given) state end state' (n - 1)
      go true e is f = let count = p.count in failed (omega (arith, count, h)) (omega (arith, count, h)) e (Fails.may f) (Fails.same f)
      go false e is f = let count = p.count in ended (omega (arith, count, h)) (omega (arith, count, h)) e q.bytes q.are is

  -- no event is left
  pub given_spent : (n0 : ℕ) (old : S) (n : ℕ) (state : S) (before now : Option (List ℕ)) → n ≡ 0 → GivenProgress n0 old n state before now
      → RunsGiven machine n0 old machine.spent state n before now
  given_spent n0 old n state before now h p =
      let count = p.count in
      record { given = p.given; are = p.are; text = p.text; at = state; led = p.led; wrote = p.wrote; over = spent (omega (arith, count, h)) refl refl h }
