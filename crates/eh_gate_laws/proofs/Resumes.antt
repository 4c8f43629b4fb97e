-- The end of a cleanup, by what is kept of it.
use Rattle.std.proofs.Common.{◌≡◌, ℕ, ◌==◌, Bool, true, false, Option, Some, slice_index, refl, sym, ap, ◌∙◌, subst}
use Rattle.std.proofs.lemmas.Bool.{eq-eqb, ne_eqb}
use Rattle.eh_bytecode.specs.declared.frame.Vrs.{Vrs}
use Rattle.eh_cxa.specs.Words.{word, block, block_slot, chain_word}
use Rattle.eh_cxa.specs.Throw.{barrier_of}
use Rattle.eh_cxa.specs.Cleanup.{innermost_at, end_cleanup_at, end_cleanup_by}
use Rattle.eh_cxa.specs.declared.layout.TheConstants.{NEXT_CLEANUP}
use Rattle.eh_cxa.proofs.Pools.{slot_small, slot_of_block_is}
use Rattle.thumb_core.specs.declared.regs.TheConstants.{SP}
use Rattle.eh_gates.specs.State.{State, Tables, Outcome}
use Rattle.eh_gates.specs.Resuming.{continue_flight_to, ends_cleanup, resumes_in, resumes}
use Rattle.eh_gates.specs.Gates.{gate_of}
use Rattle.eh_gate_laws.specs.Resumes.{caller_of, kept_word, Resumes, CleanupsGoOnFromTheKept}

is_gate : (g : Tables) (next : ℕ) (s : State) → gate_of g 22 next s ≡ resumes g s (innermost_at (word s.memory) (block_slot s.globals.cleanup))
unfolding gate_of
is_gate g next s = refl

module _ (g : Tables) (s : State) (slot : ℕ) (vrs : Vrs) (is : block_slot s.globals.cleanup ≡ Some slot) where
  the_caller : caller_of g s ≡ Some vrs → resumes g s (innermost_at (word s.memory) (block_slot s.globals.cleanup)) ≡ resumes_in g s (Some vrs)
  the_caller c = ap (λ (o : Option ℕ). resumes g s (innermost_at (word s.memory) o)) is ∙ ap (resumes_in g s) c

  abbrev after : Bool → Outcome
  after b = ends_cleanup g s vrs (end_cleanup_by b (word s.memory) s.globals slot)

  the_end : (b : Bool) → (kept_word s slot 25 == slice_index vrs.r 13) ≡ b → resumes_in g s (Some vrs) ≡ after b
  the_end b e =
      ap (λ (o : Option ℕ). ends_cleanup g s vrs (end_cleanup_at (word s.memory) s.globals (slice_index vrs.r SP) o)) is ∙ ap after e

  -- the barrier of the control block that is answered is that of its slot
  same_slot : block_slot (block slot) ≡ Some slot
  same_slot = slot_of_block_is slot (slot_small s.globals.cleanup slot is)

  resumes_there : Resumes g s slot vrs (after true)
  resumes_there = record {
    block = block slot;
    is_block = same_slot;
    outer = chain_word (word s.memory slot NEXT_CLEANUP);
    is =
        let u : State = record s { globals = record s.globals { cleanup = chain_word (word s.memory slot NEXT_CLEANUP) } } in
        ap (λ (o : Option ℕ). continue_flight_to g u vrs (record { next = kept_word s slot 24; sp = kept_word s slot 25; site = kept_word s slot 26 }) (block slot) (barrier_of (word s.memory) o)) same_slot;
  }

pub go_on_from_kept : CleanupsGoOnFromTheKept
go_on_from_kept g next s = record {
  none = λ e. is_gate g next s ∙ ap (λ (o : Option ℕ). resumes g s (innermost_at (word s.memory) o)) e;
  lost = λ slot e c. is_gate g next s ∙ (ap (λ (o : Option ℕ). resumes g s (innermost_at (word s.memory) o)) e ∙ ap (resumes_in g s) c);
  elsewhere = λ slot vrs e c never.
      let other : (kept_word s slot 25 == slice_index vrs.r 13) ≡ false = ne_eqb _ _ never in
      is_gate g next s ∙ (the_caller g s slot vrs e c ∙ the_end g s slot vrs e false other);
  resumes = λ slot vrs e c same.
      let one : (kept_word s slot 25 == slice_index vrs.r 13) ≡ true = eq-eqb _ _ same in
      subst (λ (o : Outcome). Resumes g s slot vrs o) (sym (is_gate g next s ∙ (the_caller g s slot vrs e c ∙ the_end g s slot vrs e true one))) (resumes_there g s slot vrs e);
}
