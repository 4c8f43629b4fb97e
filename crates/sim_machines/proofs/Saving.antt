-- The words that an instruction saves become slots of the running activation, and slots are guarded.
use Rattle.std.proofs.Common.{◌≡◌, ℕ, ◌+◌, ◌<◌, ◌≤◌, ◌⊎◌, inl, inr, nat_lt, Bool, true, false, cond, List, [], ◌∷◌, ◌++◌, map, filter, slice_index, Option, Some, None, refl, sym, ap, subst, ◌∙◌, arith}
use Rattle.std.specs.Prelude.{◌↔◌}
use Rattle.std.proofs.lemmas.Bool.{ltb-true, ltb-false}
use Rattle.run_events.specs.Runs.{Event, Goes}
use Rattle.eh_bus.specs.Guards.{insert_all}
use Rattle.eh_bus.specs.Lists.{Has}
use Rattle.eh_bus.specs.Memory.{Memory, stays_guarded}
use Rattle.eh_bus.proofs.GuardLaws.{has_filter, in_filter, has_inserted, in_inserted, still_inserted}
use Rattle.eh_bus.proofs.PartLaws.{guarded_refused}
use Rattle.thumb_core.specs.Step.{step_for}
use Rattle.thumb_core.specs.declared.regs.TheConstants.{SP}
use Rattle.thumb_core.specs.declared.regs.Regs.{Regs}
use Rattle.thumb_core.specs.declared.regs.Stepped.TheVariants.{Done}
use Rattle.thumb_core.specs.declared.ends.End.{End}
use Rattle.sim_machines.specs.Program.{Program, profile_in}
use Rattle.sim_machines.specs.Activations.{Caller, Activation, Recorded, memory_of, slots_of, guarded_words, reg_in, release_raised}
use Rattle.sim_machines.specs.ActivationMachine.{pass_tests, tests, record_step, pass_if_checked, pass_instruction, pass_step, event_after_pass, recorded_event}
use Rattle.sim_machines.specs.RecordedSlots.{SlotsAreGuarded, saves_of, KeepSlots, AreSaved, SavesBecomeSlots}
use Rattle.sim_machines.proofs.Calling.{callers_stay}
use Rattle.sim_machines.proofs.Released.{where_it_stays, it_stays}

-- ---- slots are guarded

has_all : (xs : List ℕ) (g : ℕ) → Has (insert_all xs []) g → Has xs g
has_all [] g h = h
has_all (x ∷ xs) g h = elim (has_inserted x g (insert_all xs []) h) [ inl e ↦ inl e | inr k ↦ inr (has_all xs g k) ]

in_all : (xs : List ℕ) (g : ℕ) → Has xs g → Has (insert_all xs []) g
in_all [] g h = h
in_all (x ∷ xs) g (inl e) = subst (λ (y : ℕ). Has (insert_all (x ∷ xs) []) y) e (in_inserted x (insert_all xs []))
in_all (x ∷ xs) g (inr k) = still_inserted x g (insert_all xs []) (in_all xs g k)

-- of a list in two parts
either_side : (xs ys : List ℕ) (g : ℕ) → Has (xs ++ ys) g → Has xs g ⊎ Has ys g
either_side [] ys g h = inr h
either_side (x ∷ xs) ys g (inl e) = inl (inl e)
either_side (x ∷ xs) ys g (inr k) = elim (either_side xs ys g k) [ inl a ↦ inl (inr a) | inr b ↦ inr b ]

in_either : (xs ys : List ℕ) (g : ℕ) → Has xs g ⊎ Has ys g → Has (xs ++ ys) g
in_either [] ys g (inl h) = absurd h
in_either [] ys g (inr h) = h
in_either (x ∷ xs) ys g (inl (inl e)) = inl e
in_either (x ∷ xs) ys g (inl (inr k)) = inr (in_either xs ys g (inl k))
in_either (x ∷ xs) ys g (inr h) = inr (in_either xs ys g (inr h))

-- what is guarded is a slot, or stands beyond
slot_or_beyond : (beyond : List ℕ) (acts : List Activation) (g : ℕ) → Has (guarded_words beyond acts) g → Has (slots_of acts) g ⊎ Has beyond g
slot_or_beyond beyond [] g h = inr h
slot_or_beyond beyond (a ∷ more) g h = elim (either_side a.slots (guarded_words beyond more) g h) [
  | inl k ↦ inl (in_either a.slots (slots_of more) g (inl k))
  | inr k ↦ elim (slot_or_beyond beyond more g k) [ inl m ↦ inl (in_either a.slots (slots_of more) g (inr m)) | inr b ↦ inr b ]
]

pub in_guarded : (beyond : List ℕ) (acts : List Activation) (g : ℕ) → Has (slots_of acts) g ⊎ Has beyond g → Has (guarded_words beyond acts) g
in_guarded beyond [] g (inl h) = absurd h
in_guarded beyond [] g (inr h) = h
in_guarded beyond (a ∷ more) g (inl h) = elim (either_side a.slots (slots_of more) g h) [
  | inl k ↦ in_either a.slots (guarded_words beyond more) g (inl k)
  | inr k ↦ in_either a.slots (guarded_words beyond more) g (inr (in_guarded beyond more g (inl k)))
]
in_guarded beyond (a ∷ more) g (inr h) = in_either a.slots (guarded_words beyond more) g (inr (in_guarded beyond more g (inr h)))

pub are_guarded : SlotsAreGuarded
are_guarded s =
    let all = guarded_words s.beyond (s.first ∷ s.outer) in
    record {
      guards = λ g. (λ h. slot_or_beyond s.beyond (s.first ∷ s.outer) g (has_all all g h), λ h. in_all all g (in_guarded s.beyond (s.first ∷ s.outer) g h));
      refused = λ n a v g map w e h l u. guarded_refused n (memory_of s) a v g map w e (in_all all g (in_guarded s.beyond (s.first ∷ s.outer) g (inl h))) l u;
    }

-- ---- what is saved

-- those that stay where sp goes from `old` to `new`
stay_has : (home : ℕ × ℕ) (old new : ℕ) (gs : List ℕ) (g : ℕ)
    → Has (cond (nat_lt old new) (filter (stays_guarded home new) gs) gs) g ↔ (Has gs g × (old < new → (new ≤ g) ⊎ (g < home.0)))
stay_has home old new gs g = go (nat_lt old new) refl
  where
    go : (b : Bool) → nat_lt old new ≡ b → Has (cond b (filter (stays_guarded home new) gs) gs) g ↔ (Has gs g × (old < new → (new ≤ g) ⊎ (g < home.0)))
    go true e = (
      λ h. let f = has_filter (stays_guarded home new) gs g h in (f.0, λ rose. where_it_stays home.0 new g f.1),
      λ (had, stays). in_filter (stays_guarded home new) gs g had (it_stays home.0 new g (stays (ltb-true old new e))),
    )
    go false e = (λ h. (h, λ rose. let low = ltb-false old new e in absurd (omega arith)), λ (had, stays). had)

module _ (p : Program) (s : Recorded) (regs : Regs) (m : Memory) where
  abbrev new : ℕ
  new = slice_index regs.r SP

  keep : (acts : List Activation) → KeepSlots s new acts (map (λ (a : Activation). release_raised s.home (reg_in s SP) new a) acts)
  keep [] = tt
  keep (a ∷ more) = ((λ g. stay_has s.home (reg_in s SP) new a.slots g), keep more)

  saved : AreSaved p s (record_step p s Done regs m)
  saved = record {
    first = λ g.
        let f = stay_has s.home (reg_in s SP) new (saves_of p s new ++ s.first.slots) g in
        (λ h. let k = f.0 h in (either_side (saves_of p s new) s.first.slots g k.0, k.1), λ (had, stays). f.1 (in_either (saves_of p s new) s.first.slots g had, stays));
    outer = keep s.outer;
    same = ap (λ (cs : List Caller). s.first.caller ∷ cs) (callers_stay s.home (reg_in s SP) new s.outer);
  }

module _ (p : Program) (s t : Recorded) (input text left : List ℕ) (regs : Regs) (m : Memory) where
  from_test : (o : Option End) → event_after_pass p s (pass_tests p s Done regs m o) input ≡ Goes t text left → AreSaved p s t
  from_test (Some end) e = absurd (cc)
  from_test None e =
      let goes : ◌≡◌ {A = Event Recorded End} (Goes (record_step p s Done regs m) [] input) (Goes t text left) = e in
      let state : record_step p s Done regs m ≡ t = cc in
      subst (λ (x : Recorded). AreSaved p s x) state (saved p s regs m)

  from_check : (b : Bool) → step_for (profile_in p) s.regs (memory_of s) ≡ (Done, regs, m) → event_after_pass p s (pass_if_checked p s b) input ≡ Goes t text left → AreSaved p s t
  from_check true e f = from_test (tests p s Done regs) (sym (ap (λ o. event_after_pass p s (pass_step p s o) input) e) ∙ f)
  from_check false e f = absurd (cc)

pub saves_become : SavesBecomeSlots
unfolding recorded_event pass_instruction
saves_become p s t input text left regs m e f = from_check p s t input text left regs m (p.look s.regs.pc).is_instr e f
