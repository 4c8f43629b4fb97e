-- What the tests of sp say where an event passes them; and that both machines know of each lowering place of the flow of facts.
use Rattle.std.proofs.Common.{◌≡◌, ℕ, ◌≤◌, inl, inr, nat_lt, Bool, true, false, cond, Option, Some, None, refl}
use Rattle.std.proofs.lemmas.Bool.{cases_lt, lt-ltb}
use Rattle.elf_image.specs.Functions.{Function}
use Rattle.thumb_core.specs.declared.ends.End.TheVariants as the_end
use Rattle.thumb_core.specs.declared.ends.TrapKind.TheVariants as kind
use Rattle.sim_machines.specs.frame_graph.Places.{address_of}
use Rattle.sim_machines.specs.frame_reach.Marks.{Marks}
use Rattle.sim_machines.specs.frame_check.Accepts.{Accepted}
use Rattle.sim_machines.specs.frame_check.Roots.{flow_graph_of}
use Rattle.sim_machines.specs.frame_check.Roles.{look}
use Rattle.sim_machines.specs.Machine.{is_raised, leaves_cleanup, sp_end}
use Rattle.sim_relation.specs.Chain.{code, IsOf}
use Rattle.sim_relation.specs.Stands.{IsProgram}

-- sp doesn't rise at a lowering place, rises above no landing sp, and stays in the running stack
pub record Passes (lowers : Bool) (landing : Option ℕ) (low old new : ℕ) : Type 0 where
  pub lowered : is_raised lowers old new ≡ false
  pub landing_stays : leaves_cleanup landing old new ≡ false
  pub in_stack : low ≤ new

pub sp_passes : (lowers : Bool) (landing : Option ℕ) (low pc old new : ℕ) → sp_end lowers landing low pc old new ≡ None → Passes lowers landing low old new
sp_passes lowers landing low pc old new e = go (is_raised lowers old new) refl (leaves_cleanup landing old new) refl (nat_lt new low) refl e
  where
    go : (a : Bool) → is_raised lowers old new ≡ a → (b : Bool) → leaves_cleanup landing old new ≡ b → (c : Bool) → nat_lt new low ≡ c
        → cond a (Some (the_end.Trap kind.SpRaised new pc)) (cond b (Some (the_end.Trap kind.SpInCleanup new pc)) (cond c (Some (the_end.Trap kind.StackLimit new pc)) None)) ≡ None
        → Passes lowers landing low old new
    go true a b l c m h = absurd cc
    go false a true l c m h = absurd cc
    go false a false l true m h = absurd cc
    go false a false l false m h = record {
      lowered = a;
      landing_stays = l;
      in_stack = elim (cases_lt new low) [ inl w ↦ absurd (let t = lt-ltb new low w in cc) | inr w ↦ w ];
    }

-- at a lowering place that is passed sp is at most what it was
pub not_raised : (lowers : Bool) (old new : ℕ) → lowers ≡ true → is_raised lowers old new ≡ false → new ≤ old
not_raised true old new e h = elim (cases_lt old new) [ inl w ↦ absurd (let t = lt-ltb old new w in cc) | inr w ↦ w ]
not_raised false old new e h = absurd cc

-- a lowering place of a function is one by its role
pub lowers_by_role : (x : Accepted) → IsProgram x → (start : ℕ) (f : Function) (m : Marks) (place a : ℕ) → IsOf x start f m → a ≡ address_of (flow_graph_of x.image f) place
    → (code x f m).lowers place ≡ true → (look x.roles a).lowers ≡ true
lowers_by_role x is start f m place a of at lowers = (is.sound.roles.lowers a).1 (record { function = f; among = of.among; marks = m; are = of.are; place = place; lowers = lowers; address = at })
