-- A run of GNU's code, from what is told over bytes: the same with recorded activations, from any state that stands for one.
use Rattle.std.specs.Prelude.{option_map}
use Rattle.std.proofs.Common.{◌≡◌, ℕ, zero, suc, Bool, true, false, List, ◌++◌, Option, Some, None, IfSome, refl, sym, ap, subst, ◌∙◌}
use Rattle.std.specs.Io.KnownBytes.{Appends}
use Rattle.eh_port.specs.Writing.{AppendsPart}
use Rattle.run_events.specs.Runs.{Event, Goes, Ends, ReachedState, prepend_reached, reach_state, reach_after, machine_run, StopsAt, Runs}
use Rattle.run_events.specs.Laws.{SameRan}
use Rattle.run_gates.specs.Ends.{is_fault}
use Rattle.thumb_core.specs.declared.ends.End.{End}
use Rattle.thumb_core.specs.declared.ends.End.TheVariants.{Budget}
use Rattle.eh_gates.specs.State.{State}
use Rattle.elf_image.specs.Image.{IsSound as IsImage}
use Rattle.frame_check.specs.Accepts.{Accepted, IsSound}
use Rattle.sim_machines.specs.Machine.{may_fail}
use Rattle.sim_machines.specs.Activations.{Recorded, bytes_of}
use Rattle.sim_machines.specs.ActivationMachine.{recorded_may_fail}
use Rattle.sim_machines.specs.Checked.{program_of}
use Rattle.sim_machines.proofs.CallEvents.{knows}
use Rattle.sim_relation.specs.Stands.{Keeps, StandsFor, IsProgram}
use Rattle.eh_machine.specs.sim_runs.Turned.{AreBytes}
use Rattle.eh_machine.proofs.sim_runs.RunsOn.{AlikeOn, same_on}
use Rattle.eh_machine.proofs.Following.{accepted_is, may_same, at_false, at_true, if_false, if_true, no_false, no_true}
use Rattle.gnu_machine.specs.Done.{RanGnuAlike, FollowsGnuRun}
use Rattle.gnu_machine.specs.GnuMachine.{gnu_event, gnu_machine_of, recorded_gnu_event, recorded_gnu_machine}
use Rattle.gnu_machine.specs.Laws.{GnuTurnsSame}
use Rattle.gnu_machine.proofs.Alike.{gnu_alike}

-- ---- so many events that all went

module _ (S T E : Type 0) (Fits : List ℕ → Type 0) (Related : S → T → Type 0) where
  abbrev ReachedAlike : Option (ReachedState S) → Option (ReachedState T) → Type 0
  ReachedAlike None None = Unit {0}
  ReachedAlike (Some a) (Some b) = (a.text ≡ b.text) × (a.left ≡ b.left) × Related a.state b.state
  ReachedAlike None (Some b) = ⊥
  ReachedAlike (Some a) None = ⊥

  after_alike : (text : List ℕ) (o : Option (ReachedState S)) (q : Option (ReachedState T)) → ReachedAlike o q → ReachedAlike (option_map (prepend_reached text) o) (option_map (prepend_reached text) q)
  after_alike text None None h = tt
  after_alike text (Some a) (Some b) h = (ap (λ y. text ++ y) h.0, h.1, h.2)
  after_alike text None (Some b) h = absurd h
  after_alike text (Some a) None h = absurd h

  module _ (one : S → List ℕ → Event S E) (two : T → List ℕ → Event T E) (alike : (s : S) (t : T) (input : List ℕ) → Fits input → Related s t → AlikeOn S T E Fits Related (one s input) (two t input)) where
    pub reached_on : (n : ℕ) (s : S) (t : T) (input : List ℕ) → Fits input → Related s t → ReachedAlike (reach_state one n s input) (reach_state two n t input)
    unfolding reach_state
    reached_on zero s t input f r = (refl, refl, r)
    reached_on (suc n) s t input f r = go (one s input) (two t input) (alike s t input f r) (reached_on n)
      where
        go : (e : Event S E) (d : Event T E) → AlikeOn S T E Fits Related e d
            → ((s : S) (t : T) (input : List ℕ) → Fits input → Related s t → ReachedAlike (reach_state one n s input) (reach_state two n t input))
            → ReachedAlike (reach_after e (reach_state one n)) (reach_after d (reach_state two n))
        go (Goes u text left) (Goes v said rest) a next =
            subst (λ (y : List ℕ). ReachedAlike (option_map (prepend_reached text) (reach_state one n u left)) (option_map (prepend_reached y) (reach_state two n v rest))) a.1
            (subst (λ (y : List ℕ). ReachedAlike (option_map (prepend_reached text) (reach_state one n u left)) (option_map (prepend_reached text) (reach_state two n v y))) a.2
            (after_alike text (reach_state one n u left) (reach_state two n v left) (next u v left a.3 a.0)))
        go (Ends end u) (Ends why v) a next = tt
        go (Goes u text left) (Ends why v) a next = absurd a
        go (Ends end u) (Goes v said rest) a next = absurd a

-- ---- a run

module _ (filters : List (ℕ × ℕ)) (turns : GnuTurnsSame filters) (x : Accepted) (is : IsProgram x) (n : ℕ) (s : Recorded) (k : Keeps x s) (input : List ℕ) (fits : AreBytes input) (end : End) (new : State) (unspent : ℕ) (left before now : Option (List ℕ)) where
  first : StandsFor x (bytes_of s) s
  first = record { same = refl; keeps = k }

  same : SameRan (StandsFor x) (machine_run (gnu_machine_of (program_of x) filters) n (bytes_of s) input) (machine_run (recorded_gnu_machine (program_of x) filters) n s input)
  same = (same_on State Recorded End AreBytes (StandsFor x) (gnu_event (program_of x) filters) (recorded_gnu_event (program_of x) filters) Budget (gnu_alike filters turns x is) n (bytes_of s) s input fits first).same

  whole : is_fault end ≡ false → Runs (gnu_machine_of (program_of x) filters) n (bytes_of s) input end new unspent left before now → RanGnuAlike x filters n s input end new unspent left before now
  whole e r =
      let w = same in
      let b = is_fault end in
      record {
        state = (machine_run (recorded_gnu_machine (program_of x) filters) n s input).state;
        runs = record {
          part = subst (λ (text : List ℕ). AppendsPart before now text) w.text r.part;
          ends = if_false b _ (at_false b _ e r.ends ∙ w.end);
          state_is = if_false b _ refl;
          leaves = if_false b _ (at_false b _ e r.leaves ∙ ap Some w.left);
          spare = if_false b _ (at_false b _ e r.spare ∙ w.spare);
          wrote = if_false b _ (subst (λ (text : List ℕ). Appends before now text) w.text (at_false b _ e r.wrote));
          stopped = no_true b _ e;
        };
        stands = subst (λ (c : State). StandsFor x c (machine_run (recorded_gnu_machine (program_of x) filters) n s input).state) (sym (at_false b _ e r.state_is)) w.state;
      }

  stopped : is_fault end ≡ true → Runs (gnu_machine_of (program_of x) filters) n (bytes_of s) input end new unspent left before now → RanGnuAlike x filters n s input end new unspent left before now
  stopped e r =
      let at : StopsAt (gnu_machine_of (program_of x) filters) n (bytes_of s) input end new unspent left before now = at_true (is_fault end) _ e r.stopped in
      let alike_there = reached_on State Recorded End AreBytes (StandsFor x) (gnu_event (program_of x) filters) (recorded_gnu_event (program_of x) filters) (gnu_alike filters turns x is) at.count (bytes_of s) s input fits first in
      go at (reach_state (recorded_gnu_event (program_of x) filters) at.count s input) refl
      (subst (λ (o : Option (ReachedState State)). ReachedAlike State Recorded End AreBytes (StandsFor x) o (reach_state (recorded_gnu_event (program_of x) filters) at.count s input)) at.went alike_there)
    where
      go : (at : StopsAt (gnu_machine_of (program_of x) filters) n (bytes_of s) input end new unspent left before now) (o : Option (ReachedState Recorded)) → reach_state (recorded_gnu_event (program_of x) filters) at.count s input ≡ o
          → ReachedAlike State Recorded End AreBytes (StandsFor x) (Some (record { text = at.text; state = new; left = at.rest })) o → RanGnuAlike x filters n s input end new unspent left before now
      go at None q a = absurd a
      go at (Some u) q a =
          let b = is_fault end in
          let stands : StandsFor x new u.state = a.2 in
          let may : recorded_may_fail (program_of x) u.state end ≡ true =
          sym (may_same (program_of x) u.state end (knows u.state stands.keeps.corresponds)) ∙ subst (λ (c : State). may_fail (program_of x) c end ≡ true) stands.same at.may in
          record {
            state = u.state;
            runs = record {
              part = subst (λ (text : List ℕ). AppendsPart before now text) same.text r.part;
              ends = no_false b _ e;
              state_is = no_false b _ e;
              leaves = no_false b _ e;
              spare = no_false b _ e;
              wrote = no_false b _ e;
              stopped = if_true b _ (record {
                count = at.count;
                text = u.text;
                rest = u.left;
                within = at.within;
                went = q;
                may = may;
                spare = at.spare;
                leaves = at.leaves ∙ ap Some a.1;
                wrote = subst (λ (text : List ℕ). Appends before now text) a.0 at.wrote;
              });
            };
            stands = stands;
          }

  by_fault : (b : Bool) → is_fault end ≡ b → Runs (gnu_machine_of (program_of x) filters) n (bytes_of s) input end new unspent left before now → RanGnuAlike x filters n s input end new unspent left before now
  by_fault true e r = stopped e r
  by_fault false e r = whole e r

  pub ran : Runs (gnu_machine_of (program_of x) filters) n (bytes_of s) input end new unspent left before now → RanGnuAlike x filters n s input end new unspent left before now
  ran r = by_fault (is_fault end) refl r

-- what is told of a call says it
pub follows_run : (filters : List (ℕ × ℕ)) → GnuTurnsSame filters → (told left before now : Option (List ℕ)) (x : Accepted) (n : ℕ) (old new : State) (end : End) (unspent : ℕ) → IsImage x.image → IsSound x
    → IfSome told (λ input. Runs (gnu_machine_of (program_of x) filters) n old input end new unspent left before now)
    → IfSome told (λ input. FollowsGnuRun x filters n old input end new unspent left before now)
follows_run filters turns None left before now x n old new end unspent image sound t = tt
follows_run filters turns (Some input) left before now x n old new end unspent image sound t = λ fits s r.
    ran filters turns x (accepted_is x image sound) n s r.keeps input fits end new unspent left before now
    (subst (λ (b : State). Runs (gnu_machine_of (program_of x) filters) n b input end new unspent left before now) r.same t)
