-- The frames of a throw are the same in both machines.
use Rattle.std.proofs.Common.{◌≡◌, inl, inr, ℕ, ◌+◌, ◌^◌, ◌<◌, Some, ap, subst, ◌∙◌, arith, ◌%◌, sym, false, refl, true, ◌≤◌}
use Rattle.std.specs.Prelude.{option_and_then}
use Rattle.thumb_isa.specs.declared.instr.Instr.{Instr}
use Rattle.frame_graph.specs.Places.{address_of}
use Rattle.frame_check.proofs.frame_reach.Stands.{stands_inside, stands_size}
use Rattle.frame_check.specs.Accepts.{Accepted}
use Rattle.frame_check.specs.Judged.{IsPlaced}
use Rattle.frame_check.specs.Roots.{flow_graph_of}
use Rattle.frame_check.proofs.Wells.{placed_at}
use Rattle.sim_relation.specs.sim_machines.Activations.{Recorded}
use Rattle.thumb_isa.specs.declared.instr.Instr.TheVariants.{Svc, Bl, Blx}
use Rattle.frame_flow.specs.Causes.{is_call}
use Rattle.frame_graph.specs.Sites as flow_graph_site
use Rattle.sim_relation.specs.Stands.{IsProgram, DoesAt}
use Rattle.sim_frames.specs.Frames.{IsSiteOf, ThrowsAt, FramesSame, ThrowsSeeAlike}
use Rattle.sim_relation.proofs.Flows.{stands_instruction}
use Rattle.sim_frames.proofs.Agreement.{frames_same, sees_alike}
use Rattle.sim_frames.proofs.CodeBytes.{codes_are_recipes}

module _ (x : Accepted) (is : IsProgram x) (s : Recorded) (i : Instr) (does : DoesAt x s i) where
  placed : IsPlaced does.at.function
  placed = subst IsPlaced does.at.of.among.2 (placed_at x.image does.at.of.among.0 does.at.function is.image does.at.of.among.1)

  below : address_of (flow_graph_of x.image does.at.function) does.at.place + 2 < 2 ^ 32
  below =
      let inside = stands_inside (flow_graph_of x.image does.at.function) does.at.place i does.size does.stands in
      elim (stands_size (flow_graph_of x.image does.at.function) does.at.place i does.size does.stands) [
        | inl two ↦ omega (arith, inside, two, placed.low)
        | inr four ↦ omega (arith, inside, four, placed.low)
      ]

  pub at_site : (site : ℕ) → flow_graph_site.site_of (address_of (flow_graph_of x.image does.at.function) does.at.place) i ≡ Some site → IsSiteOf x s site
  at_site site e =
      let there = stands_instruction (flow_graph_of x.image does.at.function) does.at.place i does.size does.stands in
      record {
        at = does.at;
        instr = i;
        stands = there;
        is_site = ap (option_and_then (flow_graph_site.site_of (address_of (flow_graph_of x.image does.at.function) does.at.place))) there ∙ e;
        below = below;
      }

pub site_is : (x : Accepted) (s : Recorded) (site : ℕ) → IsProgram x → ThrowsAt x s site → IsSiteOf x s site
site_is x s site is (inl (imm, does, e)) = at_site x is s (Svc imm) does site (ap Some (sym does.at.address ∙ sym e))
site_is x s site is (inr (inl (m, does, e))) = at_site x is s (Blx m) does site (ap Some (sym does.at.address ∙ sym e))
site_is x s site is (inr (inr (off, does, e))) =
    let low = below x is s (Bl off) does in
    let at = does.at.address in
    at_site x is s (Bl off) does site (ap Some (let n : (address_of (flow_graph_of x.image does.at.function) does.at.place + 2) % 2 ^ 32 ≡ site = omega (arith, low, at, e) in n))

-- no gate is a call
pub gate_site : (x : Accepted) (s : Recorded) (is : IsProgram x) (imm : ℕ) (does : DoesAt x s (Svc imm)) → is_call (site_is x s s.regs.pc is (inl (imm, does, refl))).instr ≡ false
unfolding site_is at_site
gate_site x s is imm does = refl

pub gate_deep : (x : Accepted) (s : Recorded) (is : IsProgram x) (imm : ℕ) (does : DoesAt x s (Svc imm)) → is_call (site_is x s s.regs.pc is (inl (imm, does, refl))).instr ≡ true
    → 4 ≤ (site_is x s s.regs.pc is (inl (imm, does, refl))).at.fact.depth
gate_deep x s is imm does e = absurd (let clash : true ≡ false = sym e ∙ gate_site x s is imm does in cc)

pub frames_are_same : FramesSame
frames_are_same x s site is k throws =
    let w = frames_same x is (codes_are_recipes x is) s k site (site_is x s site is throws) in
    record { limited = w.0; all = w.1 }

pub throws_see_alike : ThrowsSeeAlike
throws_see_alike x s g imm is k does same = sees_alike x is (codes_are_recipes x is) g same s k (at_site x is s (Svc imm) does s.regs.pc (ap Some (sym does.at.address)))
