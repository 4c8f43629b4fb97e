-- A throw and a rethrow at a gate do the same in both machines.
use Rattle.std.proofs.Common.{◌<◌, ◌^◌, ◌≡◌, ℕ, inl, inr, List, ◌∷◌, Option, Some, refl, sym, subst, ◌∙◌, arith}
use Rattle.eh_phase.specs.declared.phase1.Barrier.{Barrier}
use Rattle.eh_cxa.specs.Words.{block, object}
use Rattle.eh_cxa.specs.declared.layout.TheConstants.{SLOTS}
use Rattle.eh_cxa.proofs.Pools.{slot_small}
use Rattle.eh_match.specs.declared.rules.Match.{Match}
use Rattle.eh_match.specs.declared.rules.Match.TheVariants.{Failed, Object, PointerToBase, Unreadable}
use Rattle.eh_phase.specs.Calls.{meeting}
use Rattle.eh_phase.specs.Laws.{IsDecided}
use Rattle.eh_phase.specs.Phases.{Frame, Frames, verdict_result, phase1}
use Rattle.eh_phase.specs.Verdict.{Meeting, verdict_of}
use Rattle.eh_phase.specs.declared.phase1.Found.{Found}
use Rattle.eh_phase.specs.declared.verdict.Thrown.{Thrown}
use Rattle.eh_phase.specs.declared.verdict.Verdict.{Verdict}
use Rattle.eh_phase.proofs.Speaks.{innermost_decides}
use Rattle.thumb_isa.specs.declared.instr.Instr.TheVariants.{Svc}
use Rattle.thumb_core.specs.Registers.{all_of}
use Rattle.thumb_core.specs.declared.regs.TheConstants.{SP}
use Rattle.sim_machines.specs.frame_check.Accepts.{Accepted}
use Rattle.eh_gates.specs.Gates.{gate_of}
use Rattle.eh_gates.specs.State.{Tables}
use Rattle.eh_gates.specs.Throwing.{handler_object, handler_pointer}
use Rattle.eh_gates.specs.declared.gates.TheConstants.{THROW_GATE, RETHROW_GATE}
use Rattle.sim_machines.specs.Activations.{Recorded, reg_in, bytes_of, heads, first_place, outer_frames, lists_of}
use Rattle.sim_machines.specs.Corresponds.{GateMatches}
use Rattle.sim_machines.specs.Throws.{CanLand}
use Rattle.sim_machines.proofs.Throwing.{throws_match}
use Rattle.sim_machines.proofs.Rethrowing.{rethrows_match}
use Rattle.sim_machines.specs.Checked.{program_of}
use Rattle.sim_machines.specs.Program.{program_tables}
use Rattle.eh_phase.specs.declared.phase1.Found.TheVariants as found
use Rattle.eh_phase.specs.declared.verdict.Verdict.TheVariants as says
use Rattle.sim_machines.specs.ActivationMachine as machine
use Rattle.sim_throws.proofs.Barriers.{SmallMatch, match_small, verdict_small}
use Rattle.sim_frames.specs.sim_relation.Stands.{Keeps, IsProgram, DoesAt}
use Rattle.sim_frames.proofs.FramesSame.{throws_see_alike}
use Rattle.sim_frames.proofs.sim_relation.Goes.{chain_top}
use Rattle.sim_throws.proofs.Landable.{AllGood, Good, good_at, good_framed, good_outside, throw_lands_there}
use Rattle.sim_frames.specs.Landings.{Fit}
use Rattle.sim_frames.proofs.Landing.{fit_top, fit_frames, rise_outside}
use Rattle.sim_throws.proofs.ThrowLands.{recorded_frames, sp_is, throw_lands}
use Rattle.sim_throws.specs.ThrowEvents.{ThrowGatesMatch}

-- ---- the numbers of a barrier

pub record AreWordsOf (b : Barrier) : Type 0 where
  pub sp : b.sp < 2 ^ 32
  pub desc : b.desc < 2 ^ 32
  pub hit : SmallMatch b.hit

module _ (x : Accepted) (is : IsProgram x) (s : Recorded) (k : Keeps x s) (imm : ℕ) (does : DoesAt x s (Svc imm)) where
  abbrev frames : Option ℕ → Frames
  frames place = recorded_frames x is s k s.regs.pc (inl (imm, does, refl)) place

  module _ (m : Meeting) (object_small : m.object < 2 ^ 32) (matched : (t : ℕ) → SmallMatch (m.matched t)) (b : Barrier) (search : phase1 m (frames (first_place s.cleanups)) ≡ found.Barrier b) where
    by_verdict : (f : Frame) (v : Verdict) → f.sp < 2 ^ 32 → Good f → verdict_of m f.site f.items ≡ Some v → verdict_result f v ≡ found.Barrier b → AreWordsOf b
    by_verdict f (says.Barrier desc hit) sp good v e =
        let small = verdict_small m object_small matched f.site f.items desc hit good.0 v in
        let same : ◌≡◌ {A = Barrier} (record { sp = f.sp; desc = desc; site = f.site; hit = hit }) b = cc in
        subst AreWordsOf same (record { sp = sp; desc = small.0; hit = small.1 })
    by_verdict f (says.ObjectRead a) sp good v e = absurd cc
    by_verdict f (says.Terminate why) sp good v e = absurd cc

    pub barrier_words_small : AreWordsOf b
    barrier_words_small = elim (innermost_decides m (frames (first_place s.cleanups))) [
      | inl silent ↦ absurd (let e : ◌≡◌ {A = Found} (found.Terminate (frames (first_place s.cleanups)).last) (found.Barrier b) = sym silent.1 ∙ search in cc)
      | inr d ↦ decided d
    ]
      where
        decided : IsDecided m (frames (first_place s.cleanups)).frames (phase1 m (frames (first_place s.cleanups))) → AreWordsOf b
        decided d =
            let top = chain_top x s.segments s.home s.first.caller s.outer k.chain in
            let high = k.high in
            let roof = k.corresponds.map.home.high in
            let under =
            fit_top s.home.1 (reg_in s SP) d.inner d.frame d.outer (s.first ∷ s.outer) (omega (arith, high, top))
            (subst (λ (fs : List Frame). Fit (reg_in s SP) fs (s.first ∷ s.outer)) d.parts
            (subst (λ (n : ℕ). Fit n (frames (first_place s.cleanups)).frames (s.first ∷ s.outer)) (sp_is x is s k s.regs.pc (inl (imm, does, refl)))
            (fit_frames x s.segments s.home (first_place s.cleanups) s.regs.pc (all_of s.regs) s.first s.outer k.whole k.chain)))
            (k.slots, high, top, rise_outside x s.segments s.home s.first.caller s.outer k.chain) in
            let good =
            good_at d.inner d.frame d.outer (subst AllGood d.parts
            (good_framed x.image (outer_frames x.image (first_place s.cleanups) s.first.caller s.outer) s.regs.pc (all_of s.regs) k.sound.small (good_outside x.image (first_place s.cleanups) s.first.caller s.outer))) in
            by_verdict d.frame d.verdict (omega (arith, under, roof)) good d.says (sym d.found ∙ search)

  -- ---- a landing

  handed_small : (slot : ℕ) (hit : Match) → SmallMatch hit → handler_object (block slot) hit < 2 ^ 32
  handed_small slot Failed h = omega arith
  handed_small slot (Object o) h = h
  handed_small slot (PointerToBase p) h = omega arith
  handed_small slot (Unreadable a) h = omega arith

  pointed_small : (hit : Match) → SmallMatch hit → handler_pointer hit < 2 ^ 32
  pointed_small Failed h = omega arith
  pointed_small (Object o) h = omega arith
  pointed_small (PointerToBase p) h = h
  pointed_small (Unreadable a) h = omega arith

  module _ (g : Tables) where
    abbrev ours : Tables
    ours = record g { image = x.image }

    pub can_land : (thrown : Thrown) (slot : ℕ) (b : Barrier) → thrown.object < 2 ^ 32 → machine.phase1_result ours s thrown ≡ found.Barrier b → CanLand ours s s.regs.pc slot b
    can_land thrown slot b small search =
        let m : Meeting = meeting x.image g.types s.segments thrown in
        let w = barrier_words_small m small (λ t. match_small s.segments k.corresponds.map.segments.bytes g.types thrown.object small thrown.ty t) b search in
        let l = throw_lands x is s k s.regs.pc (inl (imm, does, refl)) m b search in
        record {
          sp = w.sp;
          object = handed_small slot b.hit w.hit;
          desc = w.desc;
          pointer = pointed_small b.hit w.hit;
          cut = l.cut;
          first = l.first;
          more = l.more;
          all = l.all;
          passed = l.passed;
          lands = throw_lands_there x is s k s.regs.pc k.sound.small (inl (imm, does, refl)) m b search;
        }

    -- a throw
    pub throw_matches : (next : ℕ) → GateMatches (gate_of ours THROW_GATE next (bytes_of s)) (machine.gate_of ours THROW_GATE next s)
    throw_matches next =
        throws_match ours next s k.corresponds (k.sound.words.small 1) (k.sound.words.small 2) (throws_see_alike x s ours imm is k does refl)
        (λ slot b at search. can_land (machine.gate_thrown s) slot b (k.sound.words.small 0) search)

    -- a rethrow of the top of the caught stack
    pub rethrow_matches : (next : ℕ) → GateMatches (gate_of ours RETHROW_GATE next (bytes_of s)) (machine.gate_of ours RETHROW_GATE next s)
    rethrow_matches next =
        rethrows_match ours next s k.corresponds (throws_see_alike x s ours imm is k does refl)
        (λ slot b at search. can_land (machine.slot_thrown (lists_of s) (Some slot)) slot b
        (let small : slot < SLOTS = slot_small (heads (lists_of s)).caught slot at in let low : object slot < 2 ^ 32 = omega (arith, small) in low) search)

-- gates of a program
pub throw_gates_match : ThrowGatesMatch
throw_gates_match x s next imm is k does = (throw_matches x is s k imm does (program_tables (program_of x)) next, rethrow_matches x is s k imm does (program_tables (program_of x)) next)
