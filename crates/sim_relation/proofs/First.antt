-- The start keeps what every event keeps: one activation, of the function at the entry, where the entry's fact holds.
use Rattle.std.proofs.Common.{ℕ, List, [], ◌∷◌, zero, suc, ◌^◌, ◌<◌, slice_index, arith, ◌≡◌, ◌==◌, ◌||◌, Bool, true, false, refl, ◌≤◌, sym, subst, take}
use Rattle.std.specs.Prelude.{Contains}
use Rattle.std.specs.List.{list_any}
use Rattle.std.proofs.lemmas.Bool.{eqb-true, le-ltb}
use Rattle.std.proofs.lemmas.Bool.Decides.{nat_tests}
use Rattle.std.proofs.lemmas.List.Elements.{All-contains}
use Rattle.elf_image.specs.Functions.{Function}
use Rattle.frame_dataflow.proofs.Work.{contains_head, contains_tail}
use Rattle.frame_facts.specs.declared.facts.Source.TheVariants.{Other}
use Rattle.frame_facts.specs.Facts.{entry_fact, source}
use Rattle.frame_facts.specs.declared.facts.Source.{Source}
use Rattle.frame_facts.specs.Machine.{Means}
use Rattle.frame_facts.specs.declared.saves.Prologue.{Prologue}
use Rattle.frame_facts.specs.declared.saves.Save.{Save}
use Rattle.frame_facts.specs.Saves.{saves_of}
use Rattle.eh_bus.specs.Segment.{Segment}
use Rattle.thumb_core.specs.declared.regs.Regs.{Regs}
use Rattle.sim_machines.specs.Activations.{Activation, no_caller, Recorded, recorded_start}
use Rattle.run_images.specs.Start.{start_regs, image_start}
use Rattle.sim_machines.proofs.frame_check.Wells.{placed_at}
use Rattle.eh_bus.proofs.MapLaws.{map_refl}
use Rattle.frame_dataflow.specs.Flow.{at_entry}
use Rattle.thumb_core.specs.Laws.{AreWords}
use Rattle.sim_machines.specs.frame_check.Accepts.{Accepted, IsWell}
use Rattle.sim_machines.specs.frame_check.Judged.{IsPlaced}
use Rattle.sim_machines.specs.frame_check.Roots.{flow_graph_of}
use Rattle.sim_machines.specs.Checked.{program_of}
use Rattle.sim_machines.proofs.CallEvents.{start_corresponds}
use Rattle.sim_relation.specs.Holds.{recorded_register, Holds, IsWhole}
use Rattle.sim_relation.specs.Chain.{StandsAt}
use Rattle.sim_relation.specs.Stands.{Keeps, IsProgram, StartsStand}

-- ---- lists of few numbers

abbrev Each : (ℕ → Type 0) → List ℕ → Type 0
Each P [] = Unit {0}
Each P (x ∷ xs) = P x × Each P xs

each_small : (xs : List ℕ) → Each (λ (x : ℕ). x < 2 ^ 32) xs → (k : ℕ) → slice_index xs k < 2 ^ 32
each_small [] a k = omega arith
each_small (x ∷ xs) a zero = a.0
each_small (x ∷ xs) a (suc k) = each_small xs a.1 k

-- ---- the function at the entry

abbrev Begins : List Function → ℕ → Type 0
Begins functions a = (f : Function) × Contains functions f × (f.start ≡ a)

begins : (functions : List Function) (a : ℕ) → list_any (λ (f : Function). f.start == a) functions ≡ true → Begins functions a
begins [] a e = absurd cc
begins (f ∷ more) a e = go (f.start == a) refl (begins more a) e
  where
    go : (b : Bool) → (f.start == a) ≡ b → (list_any (λ (g : Function). g.start == a) more ≡ true → Begins more a)
        → (b || list_any (λ (g : Function). g.start == a) more) ≡ true → Begins (f ∷ more) a
    go true is later h = (f, contains_head f more, eqb-true f.start a is)
    go false is later h = let w = later h in (w.0, contains_tail w.0 f more w.1, w.2)

-- ---- the fact at the entry

far_other : (k : ℕ) → 15 ≤ k → source entry_fact k ≡ Other
far_other k h = rw (le-ltb k 13 (omega (arith, h)), other) refl
  where
    other : (k == 14) ≡ false
    other = grind (arith, nat_tests)

-- any fact of the entry holds of the registers that a function is called with
entered_sources : (entry : ℕ → ℕ) (cfa : ℕ) (k value : ℕ) → value ≡ entry k → Means entry cfa (source entry_fact k) value
entered_sources entry cfa zero value e = e
entered_sources entry cfa (suc zero) value e = e
entered_sources entry cfa (suc (suc zero)) value e = e
entered_sources entry cfa (suc (suc (suc zero))) value e = e
entered_sources entry cfa (suc (suc (suc (suc zero)))) value e = e
entered_sources entry cfa (suc (suc (suc (suc (suc zero))))) value e = e
entered_sources entry cfa (suc (suc (suc (suc (suc (suc zero)))))) value e = e
entered_sources entry cfa (suc (suc (suc (suc (suc (suc (suc zero))))))) value e = e
entered_sources entry cfa (suc (suc (suc (suc (suc (suc (suc (suc zero)))))))) value e = e
entered_sources entry cfa (suc (suc (suc (suc (suc (suc (suc (suc (suc zero))))))))) value e = e
entered_sources entry cfa (suc (suc (suc (suc (suc (suc (suc (suc (suc (suc zero)))))))))) value e = e
entered_sources entry cfa (suc (suc (suc (suc (suc (suc (suc (suc (suc (suc (suc zero))))))))))) value e = e
entered_sources entry cfa (suc (suc (suc (suc (suc (suc (suc (suc (suc (suc (suc (suc zero)))))))))))) value e = e
entered_sources entry cfa (suc (suc (suc (suc (suc (suc (suc (suc (suc (suc (suc (suc (suc zero))))))))))))) value e = tt
entered_sources entry cfa (suc (suc (suc (suc (suc (suc (suc (suc (suc (suc (suc (suc (suc (suc zero)))))))))))))) value e = e
entered_sources entry cfa (suc (suc (suc (suc (suc (suc (suc (suc (suc (suc (suc (suc (suc (suc (suc k))))))))))))))) value e = subst (λ (s : Source). Means entry cfa s value) (sym (far_other (suc (suc (suc (suc (suc (suc (suc (suc (suc (suc (suc (suc (suc (suc (suc k))))))))))))))) (omega arith))) tt

pub none_kept : (p : Prologue) (s : Save) → Contains (take 0 (saves_of p)) s → ⊥
none_kept p s c = absurd (omega (arith, c.1))

-- at a function's entry: the registers are those that its activation recorded
pub entered_holds : (p : Prologue) (a : Activation) (segments : List Segment) (regs : Regs)
    → ((k : ℕ) → 4 ≤ k → k < 12 → slice_index regs.r k ≡ recorded_register a.caller k) → slice_index regs.r 14 ≡ a.caller.back → slice_index regs.r 13 ≡ a.caller.sp
    → Holds p entry_fact a segments regs
entered_holds p a segments regs saved link sp = record {
  entry = λ k. slice_index regs.r k;
  saved = saved;
  link = link;
  describes = record {
    long = refl;
    sources = λ k. entered_sources (λ j. slice_index regs.r j) a.caller.sp k (slice_index regs.r k) refl;
    sp = λ b. omega (arith, sp);
  };
  lower = omega (arith, sp);
  saves = λ s c. absurd (none_kept p s c);
}

-- ---- the start

eight_zeros : (k : ℕ) → 4 ≤ k → k < 12 → slice_index (start_regs 0).r k ≡ recorded_register no_caller k
eight_zeros zero h i = absurd (omega (arith, h))
eight_zeros (suc zero) h i = absurd (omega (arith, h))
eight_zeros (suc (suc zero)) h i = absurd (omega (arith, h))
eight_zeros (suc (suc (suc zero))) h i = absurd (omega (arith, h))
eight_zeros (suc (suc (suc (suc zero)))) h i = refl
eight_zeros (suc (suc (suc (suc (suc zero))))) h i = refl
eight_zeros (suc (suc (suc (suc (suc (suc zero)))))) h i = refl
eight_zeros (suc (suc (suc (suc (suc (suc (suc zero))))))) h i = refl
eight_zeros (suc (suc (suc (suc (suc (suc (suc (suc zero)))))))) h i = refl
eight_zeros (suc (suc (suc (suc (suc (suc (suc (suc (suc zero))))))))) h i = refl
eight_zeros (suc (suc (suc (suc (suc (suc (suc (suc (suc (suc zero)))))))))) h i = refl
eight_zeros (suc (suc (suc (suc (suc (suc (suc (suc (suc (suc (suc zero))))))))))) h i = refl
eight_zeros (suc (suc (suc (suc (suc (suc (suc (suc (suc (suc (suc (suc k)))))))))))) h i = absurd (omega (arith, i))

module _ (x : Accepted) (is : IsProgram x) where
  entry_low : x.image.entry < 2 ^ 32
  entry_low =
      let f = begins x.image.functions x.image.entry is.image.entry_begins in
      let placed = subst IsPlaced f.1.2 (placed_at x.image f.1.0 f.0 is.image f.1.1) in
      omega (arith, placed.some, placed.low, f.2)

  words : AreWords 15 (start_regs x.image.entry).r
  words = record {
    count = refl;
    small = each_small (start_regs x.image.entry).r
        (omega arith, (omega arith, (omega arith, (omega arith, (omega arith, (omega arith, (omega arith, (omega arith, (omega arith, (omega arith, (omega arith, (omega arith, (omega arith, (omega arith, (omega arith, tt)))))))))))))));
    aligned = refl;
  }

  whole : IsWhole no_caller
  whole = record {
    count = refl;
    words = each_small no_caller.saved (omega arith, (omega arith, (omega arith, (omega arith, (omega arith, (omega arith, (omega arith, (omega arith, tt))))))));
    back = omega arith;
    odd = refl;
    aligned = refl;
  }

  abbrev start : Recorded
  start = recorded_start (program_of x)

  at_entry_place : StandsAt x start.first start.segments start.regs start.regs.pc
  at_entry_place =
      let f = begins x.image.functions x.image.entry is.image.entry_begins in
      let well = All-contains (λ g. IsWell (flow_graph_of x.image g)) x.image.functions f.0 is.sound.functions f.1 in
      record {
        function = f.0;
        marks = well.marks;
        of = record { among = f.1; begins = f.2; are = well.are };
        place = 0;
        address = omega (arith, f.2);
        fact = entry_fact;
        state = at_entry;
        holds = entered_holds _ start.first start.segments start.regs (λ k h i. eight_zeros k h i) refl refl;
      }

  keeps : Keeps x start
  keeps = record {
    corresponds = start_corresponds (program_of x) is.map;
    counted = omega arith;
    image = map_refl (image_start x.image).memory.segments;
    sound = record { words = words; small = entry_low; is_even = is.image.entry_even };
    low = omega arith;
    high = omega arith;
    whole = whole;
    slots = λ g h. absurd h;
    first = λ reached. at_entry_place;
    beyond = λ g h. absurd h;
    chain = (refl, refl);
    cleanups = tt;
  }

pub starts_stand : StartsStand
starts_stand x is = keeps x is
