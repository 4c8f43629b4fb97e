-- Over bytes exceptions land where they do with recorded activations.
use Rattle.std.proofs.Common.{◌≡◌, ℕ, zero, suc, ◌==◌, cond, List, [], ◌∷◌, Option, Some, None, refl, ap, subst, ◌∙◌}
use Rattle.std.specs.List.{cons_option}
use Rattle.run_events.specs.Runs.{Event, Goes, Ends}
use Rattle.eh_cxa.specs.Lists.{slots}
use Rattle.eh_cxa.specs.Stands as cxa
use Rattle.eh_cxa.specs.Words.{word, block_slot, object_slot}
use Rattle.eh_cxa.specs.declared.layout.TheConstants.{NEXT_CAUGHT, NEXT_CLEANUP}
use Rattle.eh_gates.specs.State.{State}
use Rattle.eh_gates.specs.declared.gates.TheConstants.{THROW_GATE, RETHROW_GATE, END_CLEANUP_GATE}
use Rattle.thumb_core.specs.declared.ends.End.{End}
use Rattle.frame_check.specs.Accepts.{Accepted}
use Rattle.sim_machines.specs.Checked.{program_of}
use Rattle.sim_machines.specs.Machine.{machine_event}
use Rattle.sim_machines.specs.Activations.{Recorded, reg_in, memory_of, heads, head_of, bytes_of, lists_of, cleanups_in, InProgress}
use Rattle.sim_machines.specs.ActivationMachine.{recorded_event}
use Rattle.sim_relation.specs.Stands.{Keeps, StandsFor}
use Rattle.sim_runs.specs.Turned.{AreBytes}
use Rattle.sim_runs.proofs.RunsOn.{AlikeOn}
use Rattle.sim_runs.proofs.WholeRuns.{alike}
use Rattle.run_images.specs.Profiles.{profile_of}
use Rattle.sim_landings.specs.Landings.{Landing, gate_at, slot_thrown_by, innermost, slot_resumed_by, landing_by_slots, stands_at, landing_by, landings, landings_from, top_of}
use Rattle.sim_landings.specs.ByteLandings.{byte_slot_thrown_by, byte_slot_resumed_by, byte_landing_by, byte_landings, byte_landings_from}
use Rattle.sim_landings.specs.LandingLaws.{LandingsSame}

none_at : block_slot 0 ≡ None
unfolding block_slot
none_at = refl

module _ (x : Accepted) (s : Recorded) (k : Keeps x s) where
  caught_same : block_slot (heads (lists_of s)).caught ≡ top_of s.caught
  caught_same = go s.caught refl k.corresponds.stands.shows.caught
    where
      go : (xs : List ℕ) → s.caught ≡ xs → cxa.Chain (λ t. word (memory_of s) t NEXT_CAUGHT) (heads (lists_of s)).caught xs → block_slot (heads (lists_of s)).caught ≡ top_of xs
      go [] e h = ap (λ (ys : List ℕ). block_slot (head_of ys)) e ∙ none_at
      go (y ∷ more) e h = h.0

  cleanup_same : block_slot (heads (lists_of s)).cleanup ≡ innermost s.cleanups
  cleanup_same = go s.cleanups refl k.corresponds.stands.shows.cleanups
    where
      go : (cs : List InProgress) → s.cleanups ≡ cs → cxa.Chain (λ t. word (memory_of s) t NEXT_CLEANUP) (heads (lists_of s)).cleanup (slots (cleanups_in cs)) → block_slot (heads (lists_of s)).cleanup ≡ innermost cs
      go [] e h = ap (λ (ys : List InProgress). block_slot (head_of (slots (cleanups_in ys)))) e ∙ none_at
      go (c ∷ more) e h = h.0

  thrown_same : (gate : Option ℕ) → byte_slot_thrown_by (bytes_of s) gate ≡ slot_thrown_by s gate
  thrown_same None = refl
  thrown_same (Some number) = ap (λ (o : Option ℕ). cond (number == THROW_GATE) (object_slot (reg_in s 0)) (cond (number == RETHROW_GATE) o None)) caught_same

  resumed_same : (gate : Option ℕ) → byte_slot_resumed_by (bytes_of s) gate ≡ slot_resumed_by s gate
  resumed_same None = refl
  resumed_same (Some number) = ap (λ (o : Option ℕ). cond (number == END_CLEANUP_GATE) o None) cleanup_same

  landing_same : (t : Recorded) → byte_landing_by (profile_of x.image) (bytes_of s) (bytes_of t) ≡ landing_by (profile_of x.image) s t
  landing_same t =
      ap (λ (o : Option ℕ). landing_by_slots (stands_at t) o (byte_slot_resumed_by (bytes_of s) (gate_at (profile_of x.image) s))) (thrown_same (gate_at (profile_of x.image) s)) ∙ ap (landing_by_slots (stands_at t) (slot_thrown_by s (gate_at (profile_of x.image) s))) (resumed_same (gate_at (profile_of x.image) s))

pub landings_same : LandingsSame
unfolding landings byte_landings
landings_same x s zero input is k bytes = refl
landings_same x s (suc n) input is k bytes =
    go (machine_event (program_of x) (bytes_of s) input) (recorded_event (program_of x) s input) (alike x is (bytes_of s) s input bytes (record { same = refl; keeps = k })) (λ t left h f. landings_same x t n left is h f)
  where
    by : (b : State) (t : Recorded) (left rest : List ℕ) → b ≡ bytes_of t → left ≡ rest → byte_landings (program_of x) n (bytes_of t) rest ≡ landings (program_of x) n t rest
        → cons_option (byte_landing_by (profile_of x.image) (bytes_of s) b) (byte_landings (program_of x) n b left) ≡ cons_option (landing_by (profile_of x.image) s t) (landings (program_of x) n t rest)
    by b t left rest e f w =
        ap (λ (c : State). cons_option (byte_landing_by (profile_of x.image) (bytes_of s) c) (byte_landings (program_of x) n c left)) e ∙ ap (λ (l : List ℕ). cons_option (byte_landing_by (profile_of x.image) (bytes_of s) (bytes_of t)) (byte_landings (program_of x) n (bytes_of t) l)) f
        ∙ ap (λ (o : Option Landing). cons_option o (byte_landings (program_of x) n (bytes_of t) rest)) (landing_same x s k t) ∙ ap (cons_option (landing_by (profile_of x.image) s t)) w

    go : (e : Event State End) (d : Event Recorded End) → AlikeOn State Recorded End AreBytes (StandsFor x) e d
        → ((t : Recorded) (left : List ℕ) → Keeps x t → AreBytes left → byte_landings (program_of x) n (bytes_of t) left ≡ landings (program_of x) n t left)
        → byte_landings_from (profile_of x.image) (bytes_of s) e (byte_landings (program_of x) n) ≡ landings_from (profile_of x.image) s d (landings (program_of x) n)
    go (Goes b text left) (Goes t said rest) a further = by b t left rest a.0.same a.2 (further t rest a.0.keeps (subst AreBytes a.2 a.3))
    go (Goes b text left) (Ends why t) a further = absurd a
    go (Ends end b) (Goes t said rest) a further = absurd a
    go (Ends end b) (Ends why t) a further = refl
