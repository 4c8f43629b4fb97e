-- A loop over the events of a machine: what it keeps from turn to turn, and what it has done when it ends.
use Rattle.std.proofs.Common.{◌≡◌, ℕ, suc, ◌<◌, ◌≤◌, ◌-◌, List, [], ◌++◌, Option, Some, None, IfSome, refl, sym, ap, ◌∙◌, arith, append-nil, length, Bool, true, false}
use Rattle.std.proofs.Math.Seq.{take-append_seam}
use Rattle.std.proofs.KnownBytes.{Appends-trans, Appends-nil}
use Rattle.std.specs.Bool.{OnFalse, OnTrue}
use Rattle.std.specs.Io.KnownBytes.{Appends}
use Rattle.eh_port.specs.Writing.{AppendsPart}
use Rattle.run_events.specs.Runs.{Ran, Machine, prepend, run_after, machine_run, reach_state, GoesOn, Fails, EndsBy, StopsAt, Runs}
use Rattle.run_events.proofs.RunLaws.{prepend-prepend, run-turn, run-zero, reached-zero, reached-more}

on_false : (b : Bool) (P Q : Type 0) → OnFalse b P → (P → Q) → OnFalse b Q
on_false true P Q p f = tt
on_false false P Q p f = f p

on_any_false : (b : Bool) (P : Type 0) → P → OnFalse b P
on_any_false true P p = tt
on_any_false false P p = p

part_of : (before now : Option (List ℕ)) (text rest all : List ℕ) → Appends before now text → all ≡ text ++ rest → AppendsPart before now all
part_of before now text rest all p e = (length text, rw (e, take-append_seam text rest) p)

on_true : (b : Bool) (P Q : Type 0) → OnTrue b P → (P → Q) → OnTrue b Q
on_true true P Q p f = f p
on_true false P Q p f = tt

module _ (S E : Type 0) (machine : Machine S E) where
  -- n events of a run of n0 are left: the text so far, and the run of what is left, are the whole run
  pub record Progress (n0 : ℕ) (state0 : S) (input0 : List ℕ) (n : ℕ) (state : S) (left before now : Option (List ℕ)) : Type 0 where
    pub text : List ℕ
    pub rest : List ℕ
    pub within : n ≤ n0
    pub leaves : left ≡ Some rest
    pub wrote : Appends before now text
    pub went : reach_state machine.event (n0 - n) state0 input0 ≡ Some (record { text = text; state = state; left = rest })
    pub goes : machine_run machine n0 state0 input0 ≡ prepend text (machine_run machine n state rest)

  pub starts : (n : ℕ) (state : S) (left out : Option (List ℕ)) → IfSome left (λ bytes. Progress n state bytes n state left out out)
  starts n state None out = tt
  starts n state (Some bytes) out =
      let none : n - n ≡ 0 = omega arith in
      record { text = []; rest = bytes; within = omega arith; leaves = refl; wrote = Appends-nil out; went = rw none (reached-zero S E machine.event state bytes); goes = refl }

  -- an event that goes on
  pub goes_on : (n0 : ℕ) (state0 : S) (left0 : Option (List ℕ)) (n : ℕ) (state state' : S) (left left' before mid now : Option (List ℕ)) → 0 < n
      → IfSome left0 (λ bytes. Progress n0 state0 bytes n state left before mid)
      → IfSome left (λ bytes. GoesOn (machine.event state bytes) state' left' mid now)
      → IfSome left0 (λ bytes. Progress n0 state0 bytes (n - 1) state' left' before now)
  goes_on n0 state0 None n state state' left left' before mid now h p q = tt
  goes_on n0 state0 (Some bytes) n state state' left left' before mid now h p q =
      let t = rw p.leaves at q in
      let within = p.within in
      let more : n0 - (n - 1) ≡ suc (n0 - n) = omega arith in
      record {
        text = p.text ++ t.text;
        rest = t.rest;
        within = omega arith;
        leaves = t.leaves;
        wrote = Appends-trans before mid now p.text t.text p.wrote t.wrote;
        went = rw more (reached-more S E machine.event (n0 - n) state0 bytes t.text t.rest state' _ p.went t.is);
        goes = p.goes ∙ ap (prepend p.text) (run-turn S E machine.event machine.spent n state p.rest h ∙ ap (λ e. run_after e (machine_run machine (n - 1)) (n - 1) p.rest) t.is)
            ∙ prepend-prepend p.text t.text (machine_run machine (n - 1) state' t.rest);
      }

  -- the run is over where it says so, with nothing more written
  over : (n0 : ℕ) (state0 : S) (bytes : List ℕ) (n m : ℕ) (state new : S) (left left' before mid now : Option (List ℕ)) (end : E)
      (p : Progress n0 state0 bytes n state left before mid)
      → left' ≡ Some p.rest → Appends mid now []
      → OnFalse (machine.is_fault end) (machine_run machine n state p.rest ≡ record { text = []; end = end; state = new; left = p.rest; spare = m })
      → OnTrue (machine.is_fault end) (StopsAt machine n0 state0 bytes end new m left' before now)
      → Runs machine n0 state0 bytes end new m left' before now
  over n0 state0 bytes n m state new left left' before mid now end p leaves wrote is at =
      let all = machine_run machine n0 state0 bytes in
      let stop : Ran S E = record { text = []; end = end; state = new; left = p.rest; spare = m } in
      let joined : Appends before now p.text = rw append-nil at (Appends-trans before mid now p.text [] p.wrote wrote) in
      let b = machine.is_fault end in
      let whole : OnFalse b (all ≡ prepend p.text stop) = on_false b _ _ is (λ e. p.goes ∙ ap (prepend p.text) e) in
      record {
        part = part_of before now p.text _ _ joined (ap (λ (r : Ran S E). r.text) p.goes);
        ends = on_false b _ _ whole (λ e. sym (ap (λ (r : Ran S E). r.end) e));
        state_is = on_false b _ _ whole (λ e. sym (ap (λ (r : Ran S E). r.state) e));
        spare = on_false b _ _ whole (λ e. sym (ap (λ (r : Ran S E). r.spare) e));
        leaves = on_false b _ _ whole (λ e. leaves ∙ ap Some (sym (ap (λ (r : Ran S E). r.left) e)));
        wrote = on_false b _ _ whole (λ e. rw (ap (λ (r : Ran S E). r.text) e, append-nil) joined);
        stopped = at;
      }

  -- an event that ends the run
  pub ends : (n0 : ℕ) (state0 : S) (left0 : Option (List ℕ)) (n : ℕ) (state state' : S) (left left' before mid now : Option (List ℕ)) (end : E) → 0 < n
      → IfSome left0 (λ bytes. Progress n0 state0 bytes n state left before mid)
      → IfSome left (λ bytes. EndsBy machine.is_fault (machine.may_fail state) (machine.event state bytes) end state state' bytes left' mid now)
      → IfSome left0 (λ bytes. Runs machine n0 state0 bytes end state' (n - 1) left' before now)
  ends n0 state0 None n state state' left left' before mid now end h p q = tt
  ends n0 state0 (Some bytes) n state state' left left' before mid now end h p q =
      let t = rw p.leaves at q in
      let within = p.within in
      let joined : Appends before now p.text = rw append-nil at (Appends-trans before mid now p.text [] p.wrote t.wrote) in
      over n0 state0 bytes n (n - 1) state state' left left' before mid now end p t.leaves t.wrote
      (on_false (machine.is_fault end) _ _ t.is
      (λ e. run-turn S E machine.event machine.spent n state p.rest h ∙ ap (λ v. run_after v (machine_run machine (n - 1)) (n - 1) p.rest) e))
      (on_true (machine.is_fault end) _ _ t.fails (λ f. record {
        count = n0 - n;
        text = p.text;
        rest = p.rest;
        within = omega arith;
        went = p.went ∙ ap (λ s. Some (record { text = p.text; state = s; left = p.rest })) (sym (Fails.same f));
        may = rw (Fails.same f) (Fails.may f);
        spare = omega arith;
        leaves = t.leaves;
        wrote = joined;
      }))

  -- no event is left
  pub spent : (n0 : ℕ) (state0 : S) (left0 : Option (List ℕ)) (n : ℕ) (state : S) (left before now : Option (List ℕ)) → n ≡ 0 → machine.is_fault machine.spent ≡ false
      → IfSome left0 (λ bytes. Progress n0 state0 bytes n state left before now)
      → IfSome left0 (λ bytes. Runs machine n0 state0 bytes machine.spent state n left before now)
  spent n0 state0 None n state left before now h fine p = tt
  spent n0 state0 (Some bytes) n state left before now h fine p =
      over n0 state0 bytes n n state state left left before now now machine.spent p p.leaves (Appends-nil now)
      (on_any_false (machine.is_fault machine.spent) _ (rw h (run-zero S E machine.event machine.spent state p.rest)))
      (rw fine tt)
