-- What a landing pad is given, in the words of the code at the pad.
use Rattle.std.proofs.Common.{◌≡◌, ℕ, ◌^◌, ◌<◌, ◌≤◌, ◌==◌, nat_lt, Bool, cond, List, length, slice_index, Option, Some, None, refl, sym, ap, ◌∙◌, arith}
use Rattle.std.specs.Prelude.{slice_set}
use Rattle.std.proofs.lemmas.Bool.{lt-ltb, le-ltb}
use Rattle.std.proofs.lemmas.List.{get_or-set_same, get_or-set_other}
use Rattle.run_events.specs.Runs.{Goes, Ends}
use Rattle.eh_cxa.proofs.Looking.{self}
use Rattle.eh_cxa.proofs.Pools.{AllFit, slot_small, all_agree}
use Rattle.eh_cxa.specs.Throw.{set_barrier_of}
use Rattle.eh_cxa.specs.Words.{Write, word, with_all}
use Rattle.eh_cxa.specs.declared.globals.BarrierWords.{BarrierWords}
use Rattle.eh_cxa.specs.declared.layout.TheConstants.{SLOTS, SLOT_WORDS, TYPE, BARRIER_SP, BARRIER_OBJECT, BARRIER_DESCRIPTOR, BARRIER_POINTER}
use Rattle.eh_gates.specs.State.{State, reg}
use Rattle.eh_trace.specs.Trace.{Trace}
use Rattle.eh_types.specs.Graph.{kind_of}
use Rattle.eh_types.specs.declared.kind.TypeKind.{TypeKind}
use Rattle.eh_types.specs.declared.kind.TypeKind.TheVariants.{Other, Fundamental, Class, Si, Vmi, Pointer}
use Rattle.gnu_descriptors.specs.Filters.{filter_in}
use Rattle.thumb_core.specs.declared.ends.End.{End}
use Rattle.sim_machines.specs.Machine.{machine_event}
use Rattle.sim_machines.specs.Program.{Program}
use Rattle.gnu_machine.specs.GnuMachine.{map_goes, state_view, with_arguments, with_arguments_after, gnu_event}
use Rattle.gnu_machine.specs.Handed.{totals_of, landing_after, or_address, by_value, by_filter, barrier_in, at_catch, pad_arguments}
use Rattle.gnu_machine.specs.PadLaws.{GivesFilter, LandsAtCatch, CatchesGetTheirFilter, CatchesWithoutFilterGetNothing, CleanupsGetTheirBlock, OthersGetNothing, EndsAreTheMachines}
use Rattle.gnu_machine.proofs.GivenAlike.{number_small, value_small}
use Rattle.gnu_machine.specs.declared.handing.PadKind.{PadKind}
use Rattle.gnu_machine.specs.declared.handing.PadKind.TheVariants as landing

module _ (p : Program) (filters : List (ℕ × ℕ)) (s : State) (input : List ℕ) where
  is_goes : (t : State) (text left : List ℕ) → machine_event p s input ≡ Goes t text left → gnu_event p filters s input ≡ Goes (with_arguments_after p.types filters s t) text left
  unfolding gnu_event
  is_goes t text left e = ap (map_goes (with_arguments_after p.types filters s)) e

  is_ends : (t : State) (end : End) → machine_event p s input ≡ Ends end t → gnu_event p filters s input ≡ Ends end t
  unfolding gnu_event
  is_ends t end e = ap (map_goes (with_arguments_after p.types filters s)) e

-- ---- by the totals

landed_catch : (a b : Trace) → a.catches < b.catches → landing_after (totals_of a) (totals_of b) ≡ Some landing.Catch
landed_catch a b h = ap (λ (c : Bool). cond c (Some landing.Catch) (cond (nat_lt a.cleanups b.cleanups) (Some landing.Cleanup) None)) (lt-ltb a.catches b.catches h)

landed_cleanup : (a b : Trace) → b.catches ≤ a.catches → a.cleanups < b.cleanups → landing_after (totals_of a) (totals_of b) ≡ Some landing.Cleanup
landed_cleanup a b h i =
    ap (λ (c : Bool). cond c (Some landing.Catch) (cond (nat_lt a.cleanups b.cleanups) (Some landing.Cleanup) None)) (le-ltb a.catches b.catches h)
    ∙ ap (λ (c : Bool). cond c (Some landing.Cleanup) None) (lt-ltb a.cleanups b.cleanups i)

landed_nowhere : (a b : Trace) → b.catches ≤ a.catches → b.cleanups ≤ a.cleanups → landing_after (totals_of a) (totals_of b) ≡ None
landed_nowhere a b h i =
    ap (λ (c : Bool). cond c (Some landing.Catch) (cond (nat_lt a.cleanups b.cleanups) (Some landing.Cleanup) None)) (le-ltb a.catches b.catches h)
    ∙ ap (λ (c : Bool). cond c (Some landing.Cleanup) None) (le-ltb a.cleanups b.cleanups i)

pub others : OthersGetNothing
others p filters s t input text left e h i =
    is_goes p filters s input t text left e
    ∙ ap (λ (o : Option PadKind). Goes (with_arguments t (pad_arguments p.types filters (state_view t) o)) text left) (landed_nowhere s.events t.events h i)

pub ends : EndsAreTheMachines
ends p filters s t input end e = is_ends p filters s input t end e

-- ---- registers

set_same : (r : List ℕ) (k v : ℕ) → length r ≡ 15 → k < 15 → slice_index (slice_set r k v) k ≡ v
set_same r k v count few = get_or-set_same r k v 0 (let l : k < length r = omega (arith, count, few) in l)

set_other : (r : List ℕ) (k j v : ℕ) → (j ≡ k → ⊥) → slice_index (slice_set r k v) j ≡ slice_index r j
set_other r k j v differ = get_or-set_other r k j v 0 differ

pub cleanups : CleanupsGetTheirBlock
cleanups p filters s t input text left e h i count = (
  with_arguments t (pad_arguments p.types filters (state_view t) (Some landing.Cleanup)),
  is_goes p filters s input t text left e
      ∙ ap (λ (o : Option PadKind). Goes (with_arguments t (pad_arguments p.types filters (state_view t) o)) text left) (landed_cleanup s.events t.events h i),
  record {
    block = set_same t.regs.r 0 t.globals.cleanup count (omega arith);
    same = record { others = λ j differ. set_other t.regs.r 0 j t.globals.cleanup differ; pc = refl; n = refl; z = refl; c = refl; v = refl; globals = refl; events = refl };
    memory = refl;
  },
)

module _ (p : Program) (filters : List (ℕ × ℕ)) (s t : State) (input text left : List ℕ) (slot : ℕ) (w : LandsAtCatch p s t input text left slot) where
  at_slot : (o : Option ℕ) → filter_in filters (barrier_in (state_view t) slot).desc ≡ o
      → gnu_event p filters s input ≡ Goes (with_arguments t (by_filter p.types (state_view t) slot (barrier_in (state_view t) slot) o)) text left
  at_slot o e =
      is_goes p filters s input t text left w.goes
      ∙ ap (λ (o : Option PadKind). Goes (with_arguments t (pad_arguments p.types filters (state_view t) o)) text left) (landed_catch s.events t.events w.rose)
      ∙ ap (λ (o : Option ℕ). Goes (with_arguments t (at_catch p.types filters (state_view t) o)) text left) w.control
      ∙ ap (λ (o : Option ℕ). Goes (with_arguments t (by_filter p.types (state_view t) slot (barrier_in (state_view t) slot) o)) text left) e

pub without_filter : CatchesWithoutFilterGetNothing
without_filter p filters s t input text left slot w none = at_slot p filters s t input text left slot w None none

-- ---- at a catch whose descriptor has a filter

module _ (p : Program) (filters : List (ℕ × ℕ)) (s t : State) (input text left : List ℕ) (slot filter : ℕ) (w : LandsAtCatch p s t input text left slot)
    (has : filter_in filters (word t.memory slot BARRIER_DESCRIPTOR) ≡ Some filter) where
  abbrev b : BarrierWords
  b = barrier_in (state_view t) slot

  abbrev kind : Option TypeKind
  kind = kind_of p.types (word t.memory slot TYPE)

  abbrev value : ℕ
  value = by_value t.memory.segments (kind_of p.types (word t.memory slot TYPE)) (word t.memory slot BARRIER_OBJECT)

  abbrev writes : List Write
  writes = set_barrier_of (Some slot) (record { sp = b.sp; object = value; desc = b.desc; pointer = value })

  abbrev u : State
  u = with_arguments t (by_filter p.types (state_view t) slot (barrier_in (state_view t) slot) (Some filter))

  small : slot < SLOTS
  small = slot_small (reg t 0) slot w.control

  word_small : (k : ℕ) → word t.memory slot k < 2 ^ 32
  unfolding word
  word_small k = number_small t.memory.segments w.map.segments.bytes _

  fit : AllFit writes
  fit =
      let v = value_small t.memory.segments w.map.segments.bytes (word t.memory slot BARRIER_OBJECT) (word_small BARRIER_OBJECT) (kind_of p.types (word t.memory slot TYPE)) in
      ((small, omega arith, word_small BARRIER_SP), ((small, omega arith, v), ((small, omega arith, word_small BARRIER_DESCRIPTOR), ((small, omega arith, v), ((small, omega arith, omega arith), ((small, omega arith, omega arith), tt))))))

  after : (k : ℕ) → k < SLOT_WORDS → word u.memory slot k ≡ with_all writes (word t.memory) slot k
  after k few = all_agree writes (word t.memory) t.memory w.map fit (λ i j h l. refl) slot k small few

  own : (v rest : ℕ) → cond (slot == slot) v rest ≡ v
  own v rest = ap (λ (c : Bool). cond c v rest) (self slot)

  sp_is : word u.memory slot BARRIER_SP ≡ word t.memory slot BARRIER_SP
  sp_is = after BARRIER_SP (omega arith) ∙ own (word t.memory slot BARRIER_SP) _

  object_is : word u.memory slot BARRIER_OBJECT ≡ value
  object_is = after BARRIER_OBJECT (omega arith) ∙ own value _

  desc_is : word u.memory slot BARRIER_DESCRIPTOR ≡ word t.memory slot BARRIER_DESCRIPTOR
  desc_is = after BARRIER_DESCRIPTOR (omega arith) ∙ own (word t.memory slot BARRIER_DESCRIPTOR) _

  pointer_is : word u.memory slot BARRIER_POINTER ≡ value
  pointer_is = after BARRIER_POINTER (omega arith) ∙ own value _

  no_pointer : (k : Option TypeKind) → ((flags pointee : ℕ) → k ≡ Some (Pointer flags pointee) → ⊥) → by_value t.memory.segments k (word t.memory slot BARRIER_OBJECT) ≡ word t.memory slot BARRIER_OBJECT
  no_pointer None h = refl
  no_pointer (Some Other) h = refl
  no_pointer (Some Fundamental) h = refl
  no_pointer (Some Class) h = refl
  no_pointer (Some (Si base)) h = refl
  no_pointer (Some Vmi) h = refl
  no_pointer (Some (Pointer flags pointee)) h = absurd (h flags pointee refl)

  switched : GivesFilter p slot filter t u
  switched = record {
    switch = set_same t.regs.r 1 filter w.count (omega arith);
    same = record { others = λ j differ. set_other t.regs.r 1 j filter differ; pc = refl; n = refl; z = refl; c = refl; v = refl; globals = refl; events = refl };
    barrier = record { sp = sp_is; desc = desc_is; pointer = pointer_is ∙ sym object_is };
    value = record {
      pointer = λ flags pointee v k loads_it. object_is
          ∙ ap (λ (o : Option TypeKind). by_value t.memory.segments o (word t.memory slot BARRIER_OBJECT)) k ∙ ap (or_address (word t.memory slot BARRIER_OBJECT)) loads_it;
      other = λ h. object_is ∙ no_pointer (kind_of p.types (word t.memory slot TYPE)) h;
    };
  }

  with_filter : (v : State) × (gnu_event p filters s input ≡ Goes v text left) × GivesFilter p slot filter t v
  with_filter = (u, at_slot p filters s t input text left slot w (Some filter) has, switched)

pub filters_given : CatchesGetTheirFilter
filters_given p filters s t input text left slot filter w has = with_filter p filters s t input text left slot filter w has
