-- What a lowering place is: a MOV into sp of what the SUB in front of it left.
use Rattle.std.proofs.Common.{ℕ, zero, suc, ◌≡◌, ◌+◌, ◌*◌, ◌-◌, ◌<◌, ◌==◌, ◌&&◌, Bool, true, false, if◌then◌else◌, Option, Some, None, refl, sym, ap, ◌∙◌, subst, arith}
use Rattle.std.proofs.lemmas.Bool.{eqb-true, eq-eqb}
use Rattle.std.proofs.lemmas.Option.{same_Some, none-some}
use Rattle.thumb_isa.specs.declared.instr.Instr.{Instr}
use Rattle.thumb_isa.specs.declared.instr.Instr.TheVariants.{AddSubReg, MovHigh}
use Rattle.frame_code.specs.declared.standing.Standing.{Standing}
use Rattle.frame_graph.specs.FlowGraph.{FlowGraph}
use Rattle.frame_graph.specs.Places.{standing_at}
use Rattle.frame_code.specs.Standing.{instruction_of}
use Rattle.frame_graph.specs.Edges.{instruction_at}
use Rattle.frame_code.specs.Lowering.{subtracts_into, sets_sp_from, same_register, lowers_by}
use Rattle.frame_graph.specs.Lowering.{is_lowering}
use Rattle.frame_graph.specs.Laws.{IsLoweredFrame, LoweringPlacesAreCopies}

both_true : (a b : Bool) → (a && b) ≡ true → (a ≡ true) × (b ≡ true)
both_true true b p = (refl, p)
both_true false b p = absurd cc

from_both : (a b : Bool) → a ≡ true → b ≡ true → (a && b) ≡ true
from_both a b p q = ap (λ (x : Bool). x && b) p ∙ q

-- a place above the first, by the one in front of it
pub lowering_after : (s : FlowGraph) (reached : ℕ → Bool) (p q : ℕ) → p + 1 ≡ q → is_lowering s reached q ≡ (reached p && reached q && lowers_by (instruction_at s p) (instruction_at s q))
lowering_after s reached p q e =
    let is : suc p ≡ q = omega arith in
    subst (λ (n : ℕ). is_lowering s reached n ≡ (reached p && reached n && lowers_by (instruction_at s p) (instruction_at s n))) is refl

-- .. by the marks and what stands there
pub lowered_at : (s : FlowGraph) (reached : ℕ → Bool) (q : ℕ) (a b lowers : Bool) (first second : Standing) → 0 < q → a ≡ reached (q - 1) → b ≡ reached q
    → first ≡ standing_at s (q - 1) → second ≡ standing_at s q → lowers ≡ (a && b && lowers_by (instruction_of first) (instruction_of second)) → lowers ≡ is_lowering s reached q
lowered_at s reached q a b lowers first second above is_a is_b is_first is_second is =
    let e : q - 1 + 1 ≡ q = omega arith in
    let after = lowering_after s reached (q - 1) q e in
    is
    ∙ (ap (λ (x : Bool). x && b && lowers_by (instruction_of first) (instruction_of second)) is_a
    ∙ (ap (λ (x : Bool). reached (q - 1) && x && lowers_by (instruction_of first) (instruction_of second)) is_b
    ∙ (ap (λ (t : Standing). reached (q - 1) && reached q && lowers_by (instruction_of t) (instruction_of second)) is_first
    ∙ (ap (λ (t : Standing). reached (q - 1) && reached q && lowers_by (instruction_at s (q - 1)) (instruction_of t)) is_second ∙ sym after))))

-- ---- the two instructions

abbrev Subtracts : Instr → ℕ → Type 0
Subtracts i d = (n : ℕ) × (m : ℕ) × (i ≡ AddSubReg true d n m)

subtracts : (i : Instr) (d : ℕ) → subtracts_into i ≡ Some d → Subtracts i d
subtracts (AddSubReg true e n m) d h = (n, m, ap (λ (x : ℕ). AddSubReg true x n m) (same_Some e d h))
subtracts (AddSubReg false e n m) d h = absurd (none-some d h)
subtracts i d h = absurd (none-some d h)

into_sp : (b : Bool) (m k : ℕ) → (if b then Some m else None) ≡ Some k → (b ≡ true) × (m ≡ k)
into_sp true m k h = (refl, same_Some m k h)
into_sp false m k h = absurd (none-some k h)

sets : (i : Instr) (m : ℕ) → sets_sp_from i ≡ Some m → i ≡ MovHigh 13 m
sets (MovHigh d k) m h =
    let o = into_sp (d == 13) k m h in
    ap (λ (x : ℕ). MovHigh x k) (eqb-true d 13 o.0) ∙ ap (λ (x : ℕ). MovHigh 13 x) o.1
sets i m h = absurd (none-some m h)

abbrev Lowers : Option Instr → Option Instr → Type 0
Lowers a b = (d : ℕ) × (n : ℕ) × (m : ℕ) × (a ≡ Some (AddSubReg true d n m)) × (b ≡ Some (MovHigh 13 d))

same : (a b : Option ℕ) → same_register a b ≡ true → (d : ℕ) × (a ≡ Some d) × (b ≡ Some d)
same (Some d) (Some m) h = (d, refl, ap (λ (x : ℕ). Some x) (sym (eqb-true d m h)))
same (Some d) None h = absurd cc
same None b h = absurd cc

lowers : (a b : Option Instr) → lowers_by a b ≡ true → Lowers a b
lowers (Some i) (Some j) h =
    let r = same (subtracts_into i) (sets_sp_from j) h in
    let f = subtracts i r.0 r.1 in
    (r.0, f.0, f.1, ap (λ (x : Instr). Some x) f.2, ap (λ (x : Instr). Some x) (sets j r.0 r.2))
lowers (Some i) None h = absurd cc
lowers None b h = absurd cc

lowered : (d n m : ℕ) → lowers_by (Some (AddSubReg true d n m)) (Some (MovHigh 13 d)) ≡ true
lowered d n m = eq-eqb d d refl

-- ---- the law

before_it : (start a b : ℕ) → start + 2 * b ≡ start + 2 * a + 2 → a + 1 ≡ b
before_it start a b e = omega arith

there : (s : FlowGraph) (reached : ℕ → Bool) (place : ℕ) → is_lowering s reached place ≡ true → IsLoweredFrame s reached place
there s reached zero h = absurd cc
there s reached (suc p) h =
    let o = both_true (reached p && reached (suc p)) (lowers_by (instruction_at s p) (instruction_at s (suc p))) h in
    let r = both_true (reached p) (reached (suc p)) o.0 in
    let l = lowers (instruction_at s p) (instruction_at s (suc p)) o.1 in
    let e : s.start + 2 * suc p ≡ s.start + 2 * p + 2 = omega arith in
    record { before = p; register = l.0; minuend = l.1; subtrahend = l.2; address = e; subtraction = l.3; copy = l.4; first = r.0; second = r.1 }

back : (s : FlowGraph) (reached : ℕ → Bool) (place : ℕ) → IsLoweredFrame s reached place → is_lowering s reached place ≡ true
back s reached place x =
    lowering_after s reached x.before place (before_it s.start x.before place x.address)
    ∙ from_both (reached x.before && reached place) (lowers_by (instruction_at s x.before) (instruction_at s place)) (from_both (reached x.before) (reached place) x.first x.second)
    (ap (λ (a : Option Instr). lowers_by a (instruction_at s place)) x.subtraction ∙ (ap (λ (b : Option Instr). lowers_by (Some (AddSubReg true x.register x.minuend x.subtrahend)) b) x.copy ∙ lowered x.register x.minuend x.subtrahend))

pub lowering_places_are_copies : LoweringPlacesAreCopies
lowering_places_are_copies s reached place = (there s reached place, back s reached place)
