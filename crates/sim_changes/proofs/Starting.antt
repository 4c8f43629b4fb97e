-- A core at a function's start, with sp at the end of its running stack, lr 0xffffffff and no exceptions, stands for one
-- activation without slots.
use Rattle.std.proofs.Common.{◌≡◌, ℕ, List, ◌==◌, ◌||◌, Bool, true, false, [], ◌∷◌, refl, ◌+◌, ◌-◌, ◌%◌, ◌^◌, ◌<◌, ◌≤◌, inl, inr, cond, length, slice_index, sym, ap, subst, ◌∙◌, arith}
use Rattle.std.specs.Prelude.{Contains}
use Rattle.std.specs.List.{list_any}
use Rattle.std.proofs.lemmas.Bool.{eqb-true, cases_lt}
use Rattle.std.proofs.lemmas.Bool.Decides.{nat_tests}
use Rattle.std.proofs.lemmas.List.{get_or_past}
use Rattle.std.proofs.lemmas.List.Elements.{All-contains}
use Rattle.elf_image.specs.Functions.{Function}
use Rattle.frame_dataflow.proofs.Work.{contains_head, contains_tail}
use Rattle.eh_bus.specs.Segment.{Segment}
use Rattle.eh_cxa.specs.Lists.{Entry, entry}
use Rattle.eh_cxa.specs.Stands.{Stands}
use Rattle.eh_cxa.specs.Words.{word}
use Rattle.eh_cxa.proofs.Pools.{block_slot_zero}
use Rattle.eh_trace.specs.Trace.{Trace}
use Rattle.frame_dataflow.specs.Flow.{at_entry}
use Rattle.thumb_core.specs.declared.regs.TheConstants.{LR}
use Rattle.thumb_core.specs.declared.regs.Regs.{Regs}
use Rattle.frame_facts.specs.Facts.{entry_fact}
use Rattle.frame_check.specs.Accepts.{Accepted, IsWell}
use Rattle.frame_check.specs.Roots.{flow_graph_of}
use Rattle.sim_machines.specs.Activations.{Caller, Recorded, memory_of, heads, lists_of}
use Rattle.sim_relation.specs.Holds.{recorded_register, IsWhole}
use Rattle.sim_relation.specs.Chain.{StandsAt}
use Rattle.sim_relation.specs.Stands.{Keeps, IsProgram}
use Rattle.sim_changes.specs.Free.{quiet_lists, recorded_start_at, IsFresh, FreeStarts}
use Rattle.sim_relation.proofs.First.{entered_holds}
use Rattle.sim_relation.proofs.Callee.{callee_at, callee_count}
use Rattle.sim_changes.proofs.Memories.{idle_count, idle_fits}

abbrev Begins : List Function → ℕ → Type 0
Begins functions a = (f : Function) × Contains functions f × (f.start ≡ a)

begins : (functions : List Function) (a : ℕ) → list_any (λ (f : Function). f.start == a) functions ≡ true → Begins functions a
begins [] a e = absurd cc
begins (f ∷ more) a e = go (f.start == a) refl (begins more a) e
  where
    go : (b : Bool) → (f.start == a) ≡ b → (list_any (λ (g : Function). g.start == a) more ≡ true → Begins more a)
        → (b || list_any (λ (g : Function). g.start == a) more) ≡ true → Begins (f ∷ more) a
    go true is later h = (f, contains_head f more, eqb-true f.start a is)
    go false is later h = let w = later h in (w.0, contains_tail w.0 f more w.1, w.2)

module _ (x : Accepted) (is : IsProgram x) (regs : Regs) (entries : List Entry) (segments : List Segment) (home : ℕ × ℕ) (events : Trace) (beyond : List ℕ) (f : IsFresh x regs entries segments home beyond) where
  abbrev s : Recorded
  s = recorded_start_at regs entries segments home events beyond

  abbrev c : Caller
  c = s.first.caller

  stands : Stands (word (memory_of s)) (heads (lists_of s)) (lists_of s)
  stands = record {
    shows = record { small = f.small; sized = f.sized; entries = f.shown; caught = block_slot_zero; cleanups = block_slot_zero; frames = tt; uncaught = refl };
    valid = record {
      caught_once = tt;
      cleanups_once = tt;
      counted = λ t. ((λ has. absurd has), (λ some. some (idle_count (entry (quiet_lists entries) t) (f.idle t))));
      fits = λ t. idle_fits (entry (quiet_lists entries) t) (f.idle t);
      flying = λ t has. absurd has;
    };
  }

  whole : IsWhole c
  whole = record {
    count = callee_count regs.r f.sound.words.count;
    words = λ j. elim (cases_lt j 8) [
      | inl low ↦ subst (λ n. n < 2 ^ 32) (sym (callee_at regs.r j low)) (f.sound.words.small (j + 4))
      | inr high ↦ subst (λ n. n < 2 ^ 32) (sym (get_or_past c.saved j 0 (let l : length c.saved ≤ j = omega (arith, callee_count regs.r f.sound.words.count, high) in l))) (omega arith)
    ];
    back = f.sound.words.small LR;
    odd = subst (λ n. n % 2 ≡ 1) (sym f.link) refl;
    aligned = f.sound.words.aligned;
  }

  enters : StandsAt x s.first segments regs regs.pc
  enters =
      let g = begins x.image.functions regs.pc f.begins in
      let well = All-contains (λ h. IsWell (flow_graph_of x.image h)) x.image.functions g.0 is.sound.functions g.1 in
      record {
        function = g.0;
        marks = well.marks;
        of = record { among = g.1; begins = g.2; are = well.are };
        place = 0;
        address = omega (arith, g.2);
        fact = entry_fact;
        state = at_entry;
        holds = entered_holds _ s.first segments regs own refl refl;
      }
    where
      own : (n : ℕ) → 4 ≤ n → n < 12 → slice_index regs.r n ≡ recorded_register c n
      own n low high =
          let no_link : (n == LR) ≡ false = grind (arith, nat_tests) in
          sym (ap (λ (b : Bool). cond b c.back (slice_index c.saved (n - 4))) no_link ∙ callee_at regs.r (n - 4) (omega (arith, low, high)) ∙ ap (λ m. slice_index regs.r m) (let m : n - 4 + 4 ≡ n = omega (arith, low) in m))

  fresh_keeps : Keeps x s
  fresh_keeps = record {
    corresponds = record { map = f.map; stands = stands };
    counted = omega arith;
    image = f.image;
    sound = f.sound;
    low = let rises = f.map.home.rises in omega (arith, f.sp, rises);
    high = omega arith;
    whole = whole;
    slots = λ g h. absurd h;
    first = λ reached. enters;
    beyond = f.outside;
    chain = (f.link, f.sp);
    cleanups = tt;
  }

pub free_start : (x : Accepted) (regs : Regs) (entries : List Entry) (segments : List Segment) (home : ℕ × ℕ) (events : Trace) (beyond : List ℕ) → IsProgram x
    → IsFresh x regs entries segments home beyond → Keeps x (recorded_start_at regs entries segments home events beyond)
free_start x regs entries segments home events beyond is f = fresh_keeps x is regs entries segments home events beyond f

pub starts : FreeStarts
starts = free_start
