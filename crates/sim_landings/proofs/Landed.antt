-- What a landing leaves: the pad and sp of what was entered, the words of every barrier, and the cleanups in progress.
use Rattle.std.proofs.Common.{◌≡◌, ℕ, ◌<◌, Bool, true, false, List, [], ◌∷◌, drop, inl, inr, Option, Some, None, refl, sym, ◌∙◌, ap, subst, arith}
use Rattle.std.specs.Prelude.{slice_index}
use Rattle.std.proofs.lemmas.List.{drop-map}
use Rattle.eh_cxa.specs.Cleanup.{cleanup_at, begin_cleanup_of}
use Rattle.eh_cxa.specs.Lists.{Cleanup}
use Rattle.eh_cxa.specs.States.{state_of_word, is_flying}
use Rattle.eh_cxa.specs.Throw.{land_by, land_of}
use Rattle.eh_cxa.specs.Words.{block, block_slot, Pool}
use Rattle.eh_cxa.specs.declared.globals.CleanupWords.{CleanupWords}
use Rattle.eh_cxa.specs.declared.globals.Globals.{Globals}
use Rattle.eh_cxa.specs.declared.layout.TheConstants.{SLOTS, STATE}
use Rattle.eh_cxa.proofs.Pools.{slot_of_block_is}
use Rattle.eh_gates.specs.Landing.{pad_event, words_of}
use Rattle.eh_gates.specs.declared.state.Turned.TheVariants.{Went, Ended}
use Rattle.eh_phase.specs.declared.phase2.Entered.{Entered}
use Rattle.eh_phase.specs.declared.phase2.Entered.TheVariants as enters
use Rattle.eh_trace.specs.declared.event.Event.{Event}
use Rattle.eh_trace.specs.declared.event.EventKind.TheVariants as event
use Rattle.thumb_core.specs.declared.regs.TheConstants.{SP}
use Rattle.sim_machines.specs.Activations.{Activation, Caller, Recorded, words_in, heads, lists_of, InProgress}
use Rattle.sim_machines.specs.ActivationLaws.{callers}
use Rattle.sim_machines.specs.ActivationMachine as machine
use Rattle.sim_machines.proofs.RecordedGates.{callers_left}
use Rattle.sim_landings.specs.Landings.{Pad, stands_at, pad_in}
use Rattle.sim_landings.proofs.Beside.{AreBeside, SameBarrier, beside_same}
use Rattle.sim_landings.proofs.Kept.{Moved}

begins_beside : (g : Globals) (block : ℕ) (w : CleanupWords) (o : Option ℕ) → AreBeside (cleanup_at g block w o).writes
begins_beside g block w None = tt
begins_beside g block w (Some slot) =
    (inr (omega arith), omega arith, (inr (omega arith), omega arith, (inr (omega arith), omega arith, (inr (omega arith), omega arith, tt))))

lands_beside : (w : Pool) (o : Option ℕ) → AreBeside (land_of w o)
lands_beside w None = tt
lands_beside w (Some slot) = go (is_flying (state_of_word (w slot STATE)))
  where
    go : (b : Bool) → AreBeside (land_by b slot)
    go true = (inl (omega arith), omega arith, tt)
    go false = tt

-- ---- activations

acts_left : (u : Recorded) (a : Activation) (more : List Activation) (r : List ℕ) (pad answer : ℕ)
    → callers ((machine.at_pad u (a ∷ more) r pad answer).first ∷ (machine.at_pad u (a ∷ more) r pad answer).outer) ≡ callers (a ∷ more)
acts_left u a more r pad answer = ap (λ (cs : List Caller). a.caller ∷ cs) (callers_left u.home (slice_index r SP) more)

moved_by : (u : Recorded) (j : ℕ) (acts : List Activation) (r : List ℕ) (pad answer : ℕ) → acts ≡ drop j (u.first ∷ u.outer)
    → Moved (u.first ∷ u.outer) ((machine.at_pad u acts r pad answer).first ∷ (machine.at_pad u acts r pad answer).outer)
moved_by u j [] r pad answer e = inl (0, refl)
moved_by u j (a ∷ more) r pad answer e = inl (j, acts_left u a more r pad answer ∙ ap callers e ∙ sym (drop-map (λ (b : Activation). b.caller) j (u.first ∷ u.outer)))

-- ---- what is left

-- a cleanup that is entered is the innermost in progress, and names its activation by how many stand outside it
abbrev pub Listed : Recorded → List Activation → ℕ → Entered → Recorded → Type 0
Listed u acts slot (enters.Cleanup vrs pad next site) t =
    t.cleanups ≡ record { cleanup = record { slot = slot; next = next; sp = slice_index vrs.r SP; site = site }; place = machine.outside_of acts } ∷ u.cleanups
Listed u acts slot (enters.Catch vrs pad) t = t.cleanups ≡ u.cleanups
Listed u acts slot (enters.Spec vrs pad) t = t.cleanups ≡ u.cleanups
Listed u acts slot enters.Unexpected t = ⊥
Listed u acts slot (enters.Terminate why) t = ⊥

pub record IsLanded (u : Recorded) (acts : List Activation) (slot : ℕ) (e : Entered) (t : Recorded) : Type 0 where
  pub same : (v : ℕ) → SameBarrier u t v
  pub at : pad_in e ≡ Some (stands_at t)
  pub moved : Moved (u.first ∷ u.outer) (t.first ∷ t.outer)
  pub stands : (a : Activation) (more : List Activation) → acts ≡ a ∷ more → callers (t.first ∷ t.outer) ≡ callers (a ∷ more)
  pub listed : Listed u acts slot e t

-- of an outcome that goes on
abbrev pub OnWent : (Recorded → Type 0) → machine.Outcome → Type 0
OnWent P (Went, t) = P t
OnWent P (Ended end, t) = Unit {0}

pub went_is : (P : Recorded → Type 0) (o : machine.Outcome) (t : Recorded) → OnWent P o → o ≡ (Went, t) → P t
went_is P o t h e = subst (OnWent P) e h

module _ (u : Recorded) (j : ℕ) (acts : List Activation) (is : acts ≡ drop j (u.first ∷ u.outer)) (slot object : ℕ) (small : slot < SLOTS) where
  at_acts : (v : Recorded) (r : List ℕ) (pad answer : ℕ) (xs : List Activation) (a : Activation) (more : List Activation) → xs ≡ a ∷ more
      → callers ((machine.at_pad v xs r pad answer).first ∷ (machine.at_pad v xs r pad answer).outer) ≡ callers (a ∷ more)
  at_acts v r pad answer [] a more e = absurd cc
  at_acts v r pad answer (b ∷ rest) a more e = acts_left v b rest r pad answer ∙ ap callers e

  abbrev Cleaned : List ℕ → ℕ → ℕ → ℕ → Event → Option ℕ → List Activation → Recorded
  Cleaned r pad next site e o xs = machine.log_event (machine.at_pad (machine.in_progress u (machine.outside_of acts) (block slot) (words_of r next site) o) xs r pad 0) e

  abbrev LeftAt : List ℕ → ℕ → Event → Option ℕ → List Activation → Recorded
  LeftAt r pad e o xs = machine.log_event (machine.at_pad (machine.land_exception u o) xs r pad (block slot)) e

  abbrev listed_of : ℕ → List ℕ → ℕ → ℕ → List InProgress
  listed_of n r next site = record { cleanup = record { slot = n; next = next; sp = slice_index r SP; site = site }; place = machine.outside_of acts } ∷ u.cleanups

  cleanup_landed : (r : List ℕ) (pad next site : ℕ) (e : Event) (o : Option ℕ) → o ≡ Some slot → (xs : List Activation) → acts ≡ xs
      → IsLanded u acts slot (enters.Cleanup (record { r = r }) pad next site)
      (Cleaned r pad next site e o xs)
  cleanup_landed r pad next site e None q xs same = absurd cc
  cleanup_landed r pad next site e (Some k) q [] same = record {
    same = λ v. beside_same (begin_cleanup_of (heads (lists_of u)) (block slot) (words_of r next site)).writes u (Cleaned r pad next site e (Some k) []) v (begins_beside (heads (lists_of u)) (block slot) (words_of r next site) (block_slot (block slot))) refl;
    at = refl;
    moved = inl (0, refl);
    stands = λ a more f. absurd (let g : [] ≡ a ∷ more = sym same ∙ f in cc);
    listed = ap (λ (n : ℕ). listed_of n r next site) (let h : k ≡ slot = cc in h);
  }
  cleanup_landed r pad next site e (Some k) q (a ∷ more) same = record {
    same = λ v. beside_same (begin_cleanup_of (heads (lists_of u)) (block slot) (words_of r next site)).writes u (Cleaned r pad next site e (Some k) (a ∷ more)) v (begins_beside (heads (lists_of u)) (block slot) (words_of r next site) (block_slot (block slot))) refl;
    at = refl;
    moved = moved_by u j (a ∷ more) r pad 0 (sym same ∙ is);
    stands = λ b rest f. at_acts u r pad 0 (a ∷ more) b rest (sym same ∙ f);
    listed = ap (λ (n : ℕ). listed_of n r next site) (let h : k ≡ slot = cc in h);
  }

  abbrev Handled : List ℕ → ℕ → Recorded → Type 0
  Handled r pad t =
      ((v : ℕ) → SameBarrier u t v) × (stands_at t ≡ stands_at (machine.at_pad u [] r pad (block slot))) × Moved (u.first ∷ u.outer) (t.first ∷ t.outer)
      × ((a : Activation) (more : List Activation) → acts ≡ a ∷ more → callers (t.first ∷ t.outer) ≡ callers (a ∷ more)) × (t.cleanups ≡ u.cleanups)

  handled : (r : List ℕ) (pad : ℕ) (e : Event) (o : Option ℕ) (xs : List Activation) → acts ≡ xs → Handled r pad (LeftAt r pad e o xs)
  handled r pad e None [] same = (λ v. beside_same [] u (LeftAt r pad e None []) v tt refl, refl, inl (0, refl), λ a more f. absurd (let g : [] ≡ a ∷ more = sym same ∙ f in cc), refl)
  handled r pad e None (a ∷ more) same = (λ v. beside_same [] u (LeftAt r pad e None (a ∷ more)) v tt refl, refl, moved_by u j (a ∷ more) r pad (block slot) (sym same ∙ is), λ b rest f. at_acts u r pad (block slot) (a ∷ more) b rest (sym same ∙ f), refl)
  handled r pad e (Some k) [] same = (
    λ v. beside_same (land_of (words_in (lists_of u)) (Some k)) u (LeftAt r pad e (Some k) []) v (lands_beside (words_in (lists_of u)) (Some k)) refl,
    refl,
    inl (0, refl),
    λ a more f. absurd (let g : [] ≡ a ∷ more = sym same ∙ f in cc),
    refl,
  )
  handled r pad e (Some k) (a ∷ more) same = (
    λ v. beside_same (land_of (words_in (lists_of u)) (Some k)) u (LeftAt r pad e (Some k) (a ∷ more)) v (lands_beside (words_in (lists_of u)) (Some k)) refl,
    refl,
    moved_by u j (a ∷ more) r pad (block slot) (sym same ∙ is),
    λ b rest f. at_acts u r pad (block slot) (a ∷ more) b rest (sym same ∙ f),
    refl,
  )

  pub landed : (e : Entered) → OnWent (IsLanded u acts slot e) (machine.enter_landing u acts (block slot) object e)
  landed (enters.Cleanup vrs pad next site) = cleanup_landed vrs.r pad next site (pad_event event.Cleanup pad (slice_index vrs.r SP) 0) (block_slot (block slot)) (slot_of_block_is slot small) acts refl
  landed (enters.Catch vrs pad) =
      let h = handled vrs.r pad (pad_event event.Catch pad (slice_index vrs.r SP) object) (block_slot (block slot)) acts refl in
      record { same = h.0; at = ap (λ (p : Pad). Some p) (sym h.1); moved = h.2; stands = h.3; listed = h.4 }
  landed (enters.Spec vrs pad) =
      let h = handled vrs.r pad (pad_event event.Unexpected pad (slice_index vrs.r SP) 0) (block_slot (block slot)) acts refl in
      record { same = h.0; at = ap (λ (p : Pad). Some p) (sym h.1); moved = h.2; stands = h.3; listed = h.4 }
  landed enters.Unexpected = tt
  landed (enters.Terminate why) = tt
