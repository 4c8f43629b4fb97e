-- After a landing in an activation what every event keeps is kept, by where the activation stands at the pad and the registers that it has there.
use Rattle.std.proofs.Common.{◌≡◌, ℕ, ◌%◌, ◌<◌, ◌≤◌, ◌^◌, List, ◌∷◌, ◌++◌, zero, suc, ◌+◌, inl, inr, refl, sym, subst, arith}
use Rattle.std.specs.Prelude.{slice_index}
use Rattle.std.proofs.lemmas.List.{get_or_past}
use Rattle.thumb_core.specs.declared.regs.TheConstants.{SP}
use Rattle.frame_check.specs.Accepts.{Accepted}
use Rattle.sim_machines.specs.Activations.{Activation, Recorded, reg_in, InProgress}
use Rattle.eh_bus.specs.Map.{SameMap}
use Rattle.eh_bus.specs.Memory.{load_number}
use Rattle.eh_bus.specs.Segment.{Segment}
use Rattle.eh_bus.specs.declared.map.TheConstants.{STACK_START, STACK_END}
use Rattle.eh_bus.proofs.MapLaws.{map_trans}
use Rattle.eh_cxa.specs.Lists.{Lists}
use Rattle.eh_gates.specs.Landing.{landing_registers}
use Rattle.eh_trace.specs.Trace.{Trace}
use Rattle.frame_graph.specs.run_images.Start.{image_start}
use Rattle.thumb_core.specs.Laws.{AreSound}
use Rattle.thumb_core.specs.declared.regs.Regs.{Regs}
use Rattle.frame_flow.proofs.Reaching.{state_reached}
use Rattle.frame_check.proofs.frame_reach.Found.{inside}
use Rattle.frame_check.specs.Judged.{IsPlaced}
use Rattle.frame_check.specs.Roots.{flow_graph_of}
use Rattle.frame_check.proofs.Wells.{placed_at}
use Rattle.sim_machines.specs.Corresponds.{Corresponds}
use Rattle.sim_throws.proofs.sim_frames.Located.{Rest, chain_from}
use Rattle.sim_steps.specs.sim_relation.Holds.{IsWhole, AreWithin}
use Rattle.sim_steps.specs.sim_relation.Chain.{code, Chain, StandsAt}
use Rattle.sim_steps.specs.sim_relation.Cleanups.{AreInProgress}
use Rattle.sim_steps.specs.sim_relation.Stands.{Keeps, IsProgram, IsCounted}
use Rattle.sim_throws.proofs.sim_frames.Agreement.{chain_there}
use Rattle.sim_throws.proofs.sim_frames.PadStands.{stands_there}

-- an activation of a state that is entered with registers: those inside it are cut
pub record Entering (x : Accepted) (s : Recorded) : Type 0 where
  pub cut : List Activation
  pub first : Activation
  pub more : List Activation
  pub all : s.first ∷ s.outer ≡ cut ++ first ∷ more
  pub r : List ℕ
  pub sp : ℕ
  pub rest : Rest s.home.1 sp cut first more
  pub low : reg_in s SP ≤ sp
  pub register : slice_index r SP ≡ sp
  pub saved : (j : ℕ) → 4 ≤ j → j < 12 → slice_index r j < 2 ^ 32
  pub aligned : sp % 4 ≡ 0

module _ (x : Accepted) (is : IsProgram x) (s : Recorded) (k : Keeps x s) (n : Entering x s) where
  pub above : STACK_START ≤ n.sp
  above = let a = k.corresponds.map.home.low in let b = k.low in let c = n.low in omega (arith, a, b, c)

  pub roof : s.home.1 ≤ STACK_END
  roof = k.corresponds.map.home.high

  module _ (pad answer : ℕ) (small : answer < 2 ^ 32) (stands : StandsAt x n.first s.segments (landing_registers s.regs n.r pad answer) (landing_registers s.regs n.r pad answer).pc) where
    abbrev regs : Regs
    regs = landing_registers s.regs n.r pad answer

    each : (j : ℕ) → slice_index regs.r j < 2 ^ 32
    each zero = small
    each (suc zero) = omega arith
    each (suc (suc zero)) = omega arith
    each (suc (suc (suc zero))) = omega arith
    each (suc (suc (suc (suc zero)))) = n.saved 4 (omega arith) (omega arith)
    each (suc (suc (suc (suc (suc zero))))) = n.saved 5 (omega arith) (omega arith)
    each (suc (suc (suc (suc (suc (suc zero)))))) = n.saved 6 (omega arith) (omega arith)
    each (suc (suc (suc (suc (suc (suc (suc zero))))))) = n.saved 7 (omega arith) (omega arith)
    each (suc (suc (suc (suc (suc (suc (suc (suc zero)))))))) = n.saved 8 (omega arith) (omega arith)
    each (suc (suc (suc (suc (suc (suc (suc (suc (suc zero))))))))) = n.saved 9 (omega arith) (omega arith)
    each (suc (suc (suc (suc (suc (suc (suc (suc (suc (suc zero)))))))))) = n.saved 10 (omega arith) (omega arith)
    each (suc (suc (suc (suc (suc (suc (suc (suc (suc (suc (suc zero))))))))))) = n.saved 11 (omega arith) (omega arith)
    each (suc (suc (suc (suc (suc (suc (suc (suc (suc (suc (suc (suc zero)))))))))))) = omega arith
    each (suc (suc (suc (suc (suc (suc (suc (suc (suc (suc (suc (suc (suc zero))))))))))))) =
        let e = n.register in let u = n.rest.rise.1 in let t = n.rest.rise.2 in let r = roof in omega (arith, e, u, t, r)
    each (suc (suc (suc (suc (suc (suc (suc (suc (suc (suc (suc (suc (suc (suc zero)))))))))))))) = omega arith
    each (suc (suc (suc (suc (suc (suc (suc (suc (suc (suc (suc (suc (suc (suc (suc j))))))))))))))) =
        let e : slice_index regs.r (suc (suc (suc (suc (suc (suc (suc (suc (suc (suc (suc (suc (suc (suc (suc j))))))))))))))) ≡ 0 =
        get_or_past regs.r (suc (suc (suc (suc (suc (suc (suc (suc (suc (suc (suc (suc (suc (suc (suc j))))))))))))))) 0 (omega arith) in omega (arith, e)

    sound : AreSound regs.r regs.pc
    sound =
        let placed : IsPlaced stands.function = subst IsPlaced stands.of.among.2 (placed_at x.image stands.of.among.0 stands.function is.image stands.of.among.1) in
        let at = stands.address in
        let reached = state_reached (code x stands.function stands.marks) stands.place stands.fact stands.state in
        record {
          words = record { count = refl; small = each; aligned = (let e = n.register in let h = n.aligned in omega (arith, e, h)) };
          small = elim (inside (flow_graph_of x.image stands.function) stands.place reached) [
            | inl zero_place ↦ (let a = placed.some in let b = placed.low in omega (arith, at, zero_place, a, b))
            | inr low ↦ (let b = placed.low in omega (arith, at, low, b))
          ];
          is_even = let e = placed.even in omega (arith, at, e);
        }

    links : IsWhole n.first.caller × Chain x s.segments s.home n.first.caller n.more
    links = chain_from x s.segments s.home s.first s.outer n.cut n.first n.more n.all k.whole k.chain

    module _ (lists : Lists) (cleanups : List InProgress) (segments : List Segment) (events : Trace) where
      -- the state after it
      abbrev pub left : Recorded
      left = record {
        regs = regs;
        entries = lists.entries;
        caught = lists.caught;
        cleanups = cleanups;
        uncaught = lists.uncaught;
        segments = segments;
        home = s.home;
        events = events;
        first = n.first;
        outer = n.more;
        beyond = s.beyond;
      }

      pub entering_keeps : IsCounted lists → ((g : ℕ) → STACK_START ≤ g → g + 4 ≤ STACK_END → load_number 4 segments g ≡ load_number 4 s.segments g) → Corresponds left → SameMap s.segments segments
          → AreInProgress x left n.sp cleanups → Keeps x left
      entering_keeps counted stack_same corresponds same in_progress = record {
        corresponds = corresponds;
        counted = counted;
        beyond = k.beyond;
        image = map_trans (image_start x.image).memory.segments s.segments segments k.image same;
        sound = sound;
        low = let e = n.register in let l = n.low in let h = k.low in omega (arith, e, l, h);
        high = let e = n.register in let u = n.rest.rise.1 in omega (arith, e, u);
        whole = links.0;
        slots = subst (λ (m : ℕ). AreWithin m n.first) (sym n.register) n.rest.rise.0;
        first = λ reached. stands_there s.segments segments stack_same x n.first regs regs.pc n.sp n.rest.rise.0 above (let t = n.rest.rise.2 in let r = roof in omega (arith, t, r)) stands;
        chain = chain_there s.segments segments stack_same x s.home roof n.first.caller n.more (let a = above in let u = n.rest.rise.1 in omega (arith, a, u)) links.1;
        cleanups = subst (λ (m : ℕ). AreInProgress x left m cleanups) (sym n.register) in_progress;
      }
