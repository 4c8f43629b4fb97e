-- What is handed to a pad is the same over bytes and with recorded activations, and keeps what every event keeps.
use Rattle.std.proofs.Common.{◌≡◌, ℕ, ◌+◌, ◌-◌, ◌^◌, ◌<◌, inl, inr, ◌==◌, nat_lt, Bool, true, false, cond, List, [], ◌∷◌, drop, length, Option, Some, None, refl, sym, ap, subst, ◌∙◌, arith, get_or-drop}
use Rattle.std.specs.Prelude.{All, slice_index, slice_set}
use Rattle.std.proofs.lemmas.Bool.{ltb-true, cases_lt}
use Rattle.std.proofs.lemmas.List.{get_or_past}
use Rattle.std.proofs.lemmas.List.Elements.{All-head, All-tail}
use Rattle.std.proofs.lemmas.Option.{same_Some, none-some}
use Rattle.eh_bus.specs.Memory.{Memory, load_number, load_fault, fault_in, or_fault, number_in}
use Rattle.eh_bus.specs.Segment.{Segment, AreBytes, holds, number_at}
use Rattle.eh_bus.specs.declared.fault.BusFault.{BusFault}
use Rattle.eh_cxa.proofs.Looking.{Look, live, free, lost, look}
use Rattle.eh_cxa.proofs.Pools.{slot_small, slot_of_block_is}
use Rattle.eh_cxa.specs.Lists.{Entry, Free, OutOfUse, entry, slots, state_in}
use Rattle.eh_cxa.specs.Stands as cxa
use Rattle.eh_cxa.specs.Throw.{set_barrier_of}
use Rattle.eh_cxa.specs.Words.{Write, word, block, block_slot}
use Rattle.eh_cxa.specs.declared.globals.BarrierWords.{BarrierWords}
use Rattle.eh_cxa.specs.declared.layout.TheConstants.{TYPE, NEXT_CLEANUP, BARRIER_SP, BARRIER_OBJECT, BARRIER_DESCRIPTOR}
use Rattle.eh_cxa.specs.declared.state.State.TheVariants.{Landed}
use Rattle.eh_gates.specs.CallGates.{with_r1}
use Rattle.eh_gates.specs.State.{State}
use Rattle.eh_types.specs.Graph.{kind_of}
use Rattle.eh_types.specs.declared.kind.TypeKind.{TypeKind}
use Rattle.eh_types.specs.declared.kind.TypeKind.TheVariants.{Other, Fundamental, Class, Si, Vmi, Pointer}
use Rattle.frame_check.specs.Accepts.{Accepted}
use Rattle.gnu_descriptors.specs.Filters.{filter_in}
use Rattle.run_gates.specs.Gates.{r0, with_r0}
use Rattle.sim_relation.specs.Stands.{Keeps}
use Rattle.sim_changes.specs.Barriers.{AreWords, FreeBarriers}
use Rattle.sim_resumes.proofs.sim_steps.Gated.{set_words, set_others}
use Rattle.sim_machines.proofs.FirstEvent.{segments_alone}
use Rattle.sim_machines.specs.Activations.{Recorded, memory_of, head_of, heads, bytes_of, lists_of, cleanups_in}
use Rattle.sim_machines.specs.ActivationMachine.{type_in}
use Rattle.gnu_machine.specs.GnuMachine.{state_view, with_arguments, with_arguments_after, recorded_found_in, recorded_with_arguments, recorded_with_arguments_after}
use Rattle.gnu_machine.specs.Handed.{totals_of, landing_after, or_address, by_value, catch_arguments, by_filter, barrier_in, at_catch, pad_arguments}
use Rattle.gnu_machine.specs.Laws.{AreFilters, Goings, HasLanded, CatchesHaveLanded, DiffersLow, PadsAreFree}
use Rattle.gnu_machine.specs.declared.handing.PadKind.{PadKind}
use Rattle.gnu_machine.specs.declared.handing.PadKind.TheVariants as landing
use Rattle.gnu_machine.specs.declared.handing.Totals.{Totals}

-- ---- words that are read

byte_small : (xs : List ℕ) → All (λ (b : ℕ). b < 256) xs → (i : ℕ) → slice_index xs i < 256
byte_small xs a i = elim (cases_lt i (length xs)) [
  | inl l ↦ a i 0 l
  | inr h ↦ (let e : slice_index xs i ≡ 0 = get_or_past xs i 0 h in omega (arith, e))
]

pub number_small : (ss : List Segment) → All (λ (s : Segment). AreBytes s.bytes) ss → (a : ℕ) → number_in 4 ss a < 2 ^ 32
number_small [] h a = omega arith
number_small (s ∷ more) h a = go (holds s a 4) (number_small more (All-tail (λ (t : Segment). AreBytes t.bytes) s more h) a)
  where
    one : (i : ℕ) → slice_index (drop (a - s.start) s.bytes) i < 256
    one i = let e = get_or-drop (a - s.start) s.bytes i 0 in let b = byte_small s.bytes (All-head (λ (t : Segment). AreBytes t.bytes) s more h) (a - s.start + i) in omega (arith, e, b)

    go : (b : Bool) → number_in 4 more a < 2 ^ 32 → cond b (number_at 4 s a) (number_in 4 more a) < 2 ^ 32
    go true later = let b0 = one 0 in let b1 = one 1 in let b2 = one 2 in let b3 = one 3 in omega (arith, b0, b1, b2, b3)
    go false later = later

module _ (ss : List Segment) (bytes : All (λ (s : Segment). AreBytes s.bytes) ss) (a : ℕ) (small : a < 2 ^ 32) where
  loaded_small : or_address a (load_number 4 ss a) < 2 ^ 32
  loaded_small = go (fault_in (λ s. load_fault 4 a) 4 ss a)
    where
      go : (o : Option BusFault) → or_address a (or_fault o (number_in 4 ss a)) < 2 ^ 32
      go None = number_small ss bytes a
      go (Some fault) = small

  pub value_small : (kind : Option TypeKind) → by_value ss kind a < 2 ^ 32
  value_small None = small
  value_small (Some Other) = small
  value_small (Some Fundamental) = small
  value_small (Some Class) = small
  value_small (Some (Si base)) = small
  value_small (Some Vmi) = small
  value_small (Some (Pointer flags pointee)) = loaded_small

filter_small : (filters : List (ℕ × ℕ)) (desc f : ℕ) → AreFilters filters → filter_in filters desc ≡ Some f → f < 2 ^ 32
filter_small [] desc f h e = absurd (none-some f e)
filter_small (one ∷ more) desc f h e = go (one.0 == desc) e (λ q. filter_small more desc f (All-tail (λ (g : ℕ × ℕ). g.1 < 2 ^ 32) one more h) q)
  where
    go : (b : Bool) → cond b (Some one.1) (filter_in more desc) ≡ Some f → (filter_in more desc ≡ Some f → f < 2 ^ 32) → f < 2 ^ 32
    go true q later = subst (λ n. n < 2 ^ 32) (same_Some one.1 f q) (All-head (λ (g : ℕ × ℕ). g.1 < 2 ^ 32) one more h)
    go false q later = later q

-- ---- which landing it was

catch_rose : (a b : Totals) → landing_after a b ≡ Some landing.Catch → a.catches < b.catches
catch_rose a b e = go (nat_lt a.catches b.catches) refl (nat_lt a.cleanups b.cleanups) e
  where
    go : (c : Bool) → nat_lt a.catches b.catches ≡ c → (d : Bool) → cond c (Some landing.Catch) (cond d (Some landing.Cleanup) None) ≡ Some landing.Catch → a.catches < b.catches
    go true f d q = ltb-true a.catches b.catches f
    go false f true q = absurd cc
    go false f false q = absurd cc

cleanup_rose : (a b : Totals) → landing_after a b ≡ Some landing.Cleanup → a.cleanups < b.cleanups
cleanup_rose a b e = go (nat_lt a.catches b.catches) (nat_lt a.cleanups b.cleanups) refl e
  where
    go : (c d : Bool) → nat_lt a.cleanups b.cleanups ≡ d → cond c (Some landing.Catch) (cond d (Some landing.Cleanup) None) ≡ Some landing.Cleanup → a.cleanups < b.cleanups
    go true d f q = absurd cc
    go false true f q = ltb-true a.cleanups b.cleanups f
    go false false f q = absurd cc

-- ---- what an event leaves

module _ (x : Accepted) (filters : List (ℕ × ℕ)) (are : AreFilters filters) (s t : Recorded) (input text left : List ℕ) (w : Goings x s t input text left) (kt : Keeps x t)
    (have_landed : CatchesHaveLanded) (pads_free : PadsAreFree) (barriers : FreeBarriers) where
  -- over bytes the same, and kept
  abbrev Alike : State → Recorded → Type 0
  Alike b r = (b ≡ bytes_of r) × Keeps x r

  differs : (d v : ℕ) → d < 2 → v < 2 ^ 32 → DiffersLow t.regs (record t.regs { r = slice_set t.regs.r d v })
  differs d v few small = record { pc = refl; words = set_words t.regs.r d v few small kt.sound.words; same = λ j high. set_others t.regs.r d v j few (omega (arith, high)) }

  -- in a cleanup
  small_head : (heads (lists_of t)).cleanup < 2 ^ 32
  small_head = go (slots (cleanups_in t.cleanups)) kt.corresponds.stands.shows.cleanups
    where
      go : (xs : List ℕ) → cxa.Chain (λ u. word (memory_of t) u NEXT_CLEANUP) (head_of xs) xs → head_of xs < 2 ^ 32
      go [] k = omega arith
      go (u ∷ rest) k = let h = slot_small (block u) u k.0 in omega (arith, h)

  in_cleanup : s.events.cleanups < t.events.cleanups → Alike (with_arguments (bytes_of t) (pad_arguments x.types filters (state_view (bytes_of t)) (Some landing.Cleanup))) (recorded_with_arguments t (pad_arguments x.types filters (recorded_found_in t) (Some landing.Cleanup)))
  in_cleanup rose = (refl, pads_free x s t input text left w (inr rose) (with_r0 (heads (lists_of t)).cleanup t.regs) (differs 0 (heads (lists_of t)).cleanup (omega arith) small_head))

  -- at a catch
  module _ (rose : s.events.catches < t.events.catches) where
    landed : HasLanded t
    landed = have_landed x s t input text left w rose

    abbrev slot : ℕ
    slot = landed.slot

    is_slot : block_slot (r0 t.regs) ≡ Some landed.slot
    is_slot = ap block_slot landed.control ∙ slot_of_block_is landed.slot landed.small

    -- its type is that of its record
    type_same : word (memory_of t) landed.slot TYPE ≡ type_in (entry (lists_of t) landed.slot)
    type_same = by (look (word (memory_of t)) (heads (lists_of t)) (lists_of t) landed.slot kt.corresponds.stands.shows landed.small)
      where
        no_state : (e : Entry) → entry (lists_of t) landed.slot ≡ e → state_in e ≡ None → word (memory_of t) landed.slot TYPE ≡ type_in (entry (lists_of t) landed.slot)
        no_state e is none = absurd (none-some Landed (sym none ∙ sym (ap state_in is) ∙ landed.landed))

        by : Look (word (memory_of t)) (lists_of t) landed.slot → word (memory_of t) landed.slot TYPE ≡ type_in (entry (lists_of t) landed.slot)
        by (live st name is) = sym (ap type_in is)
        by (free zero is) = no_state Free is refl
        by (lost used none is) = no_state OutOfUse is refl

    abbrev b : BarrierWords
    b = barrier_in (recorded_found_in t) landed.slot

    abbrev value : ℕ
    value = by_value t.segments (kind_of x.types (type_in (entry (lists_of t) landed.slot))) b.object

    abbrev handed_words : BarrierWords
    handed_words = record { sp = b.sp; object = value; desc = b.desc; pointer = value }

    words_small : AreWords handed_words
    words_small =
        let small = kt.corresponds.stands.shows.small in
        let value_is = value_small t.segments kt.corresponds.map.segments.bytes b.object (small landed.slot BARRIER_OBJECT landed.small (omega arith)) (kind_of x.types (type_in (entry (lists_of t) landed.slot))) in
        record { sp = small landed.slot BARRIER_SP landed.small (omega arith); object = value_is; desc = small landed.slot BARRIER_DESCRIPTOR landed.small (omega arith); pointer = value_is }

    by_filter_same : (o : Option ℕ) → filter_in filters b.desc ≡ o → Alike (with_arguments (bytes_of t) (by_filter x.types (state_view (bytes_of t)) landed.slot b o)) (recorded_with_arguments t (by_filter x.types (recorded_found_in t) landed.slot b o))
    by_filter_same None e = (refl, kt)
    by_filter_same (Some f) e =
        let writes : List Write = set_barrier_of (Some landed.slot) handed_words in
        let with_type : ℕ → State = λ n. with_arguments (bytes_of t) (catch_arguments (state_view (bytes_of t)) landed.slot b f (by_value t.segments (kind_of x.types n) b.object)) in
        let with_memory : Memory → State = λ m. record (bytes_of t) { regs = with_r1 f t.regs; memory = m } in
        let moved : Keeps x (record t { regs = with_r1 f t.regs }) =
        pads_free x s t input text left w (inl rose) (with_r1 f t.regs) (differs 1 f (omega arith) (filter_small filters b.desc f are e)) in (
          ap with_type type_same ∙ ap with_memory (segments_alone writes (memory_of t)),
          (barriers x (record t { regs = with_r1 f t.regs }) moved).landed landed.slot handed_words landed.small landed.landed words_small,
        )

    in_catch : Alike (with_arguments (bytes_of t) (pad_arguments x.types filters (state_view (bytes_of t)) (Some landing.Catch))) (recorded_with_arguments t (pad_arguments x.types filters (recorded_found_in t) (Some landing.Catch)))
    in_catch =
        subst (λ (o : Option ℕ). Alike (with_arguments (bytes_of t) (at_catch x.types filters (state_view (bytes_of t)) o)) (recorded_with_arguments t (at_catch x.types filters (recorded_found_in t) o))) (sym is_slot)
        (by_filter_same (filter_in filters b.desc) refl)

  by_landing : (o : Option PadKind) → landing_after (totals_of s.events) (totals_of t.events) ≡ o
      → Alike (with_arguments (bytes_of t) (pad_arguments x.types filters (state_view (bytes_of t)) o)) (recorded_with_arguments t (pad_arguments x.types filters (recorded_found_in t) o))
  by_landing None e = (refl, kt)
  by_landing (Some landing.Catch) e = in_catch (catch_rose (totals_of s.events) (totals_of t.events) e)
  by_landing (Some landing.Cleanup) e = in_cleanup (cleanup_rose (totals_of s.events) (totals_of t.events) e)

  pub given_alike : Alike (with_arguments_after x.types filters (bytes_of s) (bytes_of t)) (recorded_with_arguments_after x.types filters s t)
  given_alike = by_landing (landing_after (totals_of s.events) (totals_of t.events)) refl
