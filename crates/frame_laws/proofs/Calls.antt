-- What is told of an instruction before it is done, and the sites of calls.
use Rattle.std.proofs.Common.{◌≡◌, ℕ, ◌+◌, ◌-◌, ◌%◌, ◌^◌, ◌<◌, ◌≤◌, ◌==◌, not, Bool, true, false, cond, Some, inl, inr, refl, sym, ap, subst, ◌∙◌, arith}
use Rattle.std.specs.Prelude.{slice_index}
use Rattle.eh_bus.specs.Memory.{Memory}
use Rattle.thumb_isa.specs.declared.instr.Instr.{Instr}
use Rattle.thumb_isa.specs.declared.instr.Instr.TheVariants.{AddHigh, MovHigh, Bx, Blx, Pop, BCond, B, Bl, Cbz, BWide}
use Rattle.thumb_core.specs.declared.regs.Regs.{Regs}
use Rattle.thumb_core.specs.declared.regs.CoreTrap.TheVariants.{EvenTarget}
use Rattle.thumb_core.specs.declared.regs.Stepped.{Stepped}
use Rattle.thumb_core.specs.declared.regs.Stepped.TheVariants.{Done, Call, Trap}
use Rattle.thumb_core.specs.Registers.{reg, operand, with_next, even}
use Rattle.thumb_core.specs.Data.{forward}
use Rattle.thumb_core.specs.Outcome.{Outcome}
use Rattle.thumb_core.specs.Branch.{passes_condition, takes_branch, branch, call_to}
use Rattle.thumb_core.specs.Step.{effect}
use Rattle.eh_phase.specs.Frames.{site_of as frame_site}
use Rattle.thumb_ahead.specs.declared.instruction.Ahead.TheVariants.{FallThrough, Pushes, Jumps, Other}
use Rattle.thumb_ahead.specs.Ahead.{is_fall_through, branches}
use Rattle.frame_code.specs.Branches.{reaches_next}
use Rattle.frame_graph.specs.Sites.{site_of}
use Rattle.frame_laws.specs.EdgeLaws.{IsEdge, WhatIsAheadIsAnEdge, CallsStandAtTheirSites}
use Rattle.frame_laws.proofs.Edges.{branch_to}

fall_through_on : (i : Instr) (regs : Regs) → is_fall_through i ≡ true → branches i regs ≡ false → reaches_next i ≡ true
fall_through_on (B off) regs fall_through taken = absurd cc
fall_through_on (BWide off) regs fall_through taken = absurd cc
fall_through_on (Bx k) regs fall_through taken = absurd cc
fall_through_on (Pop list) regs fall_through taken = absurd cc
fall_through_on (AddHigh d k) regs fall_through taken = ap not taken
fall_through_on (MovHigh d k) regs fall_through taken = ap not taken
fall_through_on i regs fall_through taken = refl

jumps : (i : Instr) (regs : Regs) (m : Memory) (to : ℕ) → branches i regs ≡ true → effect i 2 regs m ≡ (Done, record regs { pc = to }, m) → IsEdge i regs (Jumps to)
jumps (B off) regs m to taken goes =
    inl (record { target = forward (regs.pc + 4) off; is = refl; pc = sym (ap (λ (o : Outcome). o.1.pc) goes) ∙ branch_to off regs })
jumps (BCond condition off) regs m to taken goes =
    let pc : (cond (passes_condition condition regs) (branch off regs) (with_next 2 regs)).pc ≡ to = ap (λ (o : Outcome). o.1.pc) goes in
    inl (record {
      target = forward (regs.pc + 4) off;
      is = refl;
      pc = sym (subst (λ (b : Bool). (cond b (branch off regs) (with_next 2 regs)).pc ≡ to) taken pc) ∙ branch_to off regs;
    })
jumps (BWide off) regs m to taken goes =
    inl (record { target = forward (regs.pc + 4) off; is = refl; pc = sym (ap (λ (o : Outcome). o.1.pc) goes) ∙ branch_to off regs })
jumps (Cbz nonzero n off) regs m to taken goes =
    let pc : (cond (takes_branch nonzero (reg regs n)) (branch off regs) (with_next 2 regs)).pc ≡ to = ap (λ (o : Outcome). o.1.pc) goes in
    inl (record {
      target = forward (regs.pc + 4) off;
      is = refl;
      pc = sym (subst (λ (b : Bool). (cond b (branch off regs) (with_next 2 regs)).pc ≡ to) taken pc) ∙ branch_to off regs;
    })
jumps (AddHigh d k) regs m to taken goes = inr (record { on = ap not taken; target = refl })
jumps (MovHigh d k) regs m to taken goes = inr (record { on = ap not taken; target = refl })
jumps i regs m to taken goes = absurd cc

pub ahead : WhatIsAheadIsAnEdge
ahead i regs m FallThrough h = fall_through_on i regs h.fall_through h.taken
ahead i regs m (Pushes count) h = fall_through_on i regs h.fall_through h.taken
ahead i regs m (Jumps to) h = jumps i regs m to h.taken (h.goes 2 m)
ahead i regs m (Other taken) h = tt

-- ---- calls

site_after : (a size ret back : ℕ) → a % 2 ≡ 0 → a + size < 2 ^ 32 → (a + size) % 2 ≡ 0 → 2 ≤ size → ret ≡ even ((a + size) % 2 ^ 32) + 1 → back ≡ ret
    → (back - back % 2 + (2 ^ 32 - 2)) % 2 ^ 32 ≡ a + size - 2
site_after a size ret back aligned low e two is same = omega (arith, aligned, low, e, two, is, same)

pub calls : CallsStandAtTheirSites
calls (Bl off) size target ret regs m r sized aligned low gone back =
    let link : ret ≡ even ((regs.pc + size) % 2 ^ 32) + 1 = cc in
    let site = site_after regs.pc size ret (slice_index r 15) aligned low (omega (arith, sized, aligned)) (omega (arith, sized)) link back in
    ap (λ (x : ℕ). Some x) (let n : (regs.pc + 2) % 2 ^ 32 ≡ frame_site r = omega (arith, site, sized, low) in n)
calls (Blx k) size target ret regs m r sized aligned low gone back = go (operand regs k % 2 == 0) gone
  where
    go : (b : Bool) → (cond b (let p : Stepped × Regs = (Trap (EvenTarget (operand regs k)), regs) in p) (call_to (operand regs k) size regs)).0 ≡ Call target ret → site_of regs.pc (Blx k) ≡ Some (frame_site r)
    go true gone = absurd cc
    go false gone =
        let link : ret ≡ even ((regs.pc + size) % 2 ^ 32) + 1 = cc in
        let site = site_after regs.pc size ret (slice_index r 15) aligned low (omega (arith, sized, aligned)) (omega (arith, sized)) link back in
        ap (λ (x : ℕ). Some x) (let n : regs.pc ≡ frame_site r = omega (arith, site, sized, low) in n)
calls i size target ret regs m r sized aligned low gone back = absurd sized
