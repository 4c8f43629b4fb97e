use Rattle.std.proofs.Common.{◌≡◌, ℕ, ◌+◌, ◌-◌, ◌<◌, ◌≤◌, true, suc, zero, refl, sym, ap, ◌∙◌, arith}
use Rattle.std.specs.List.{list_all}
use Rattle.thumb_core.proofs.Listed.{numbers_from}
use Rattle.frame_facts.specs.declared.facts.Fact.{Fact}
use Rattle.frame_facts.specs.Facts.{is_entry}
use Rattle.frame_facts.specs.Branches.{holds_own}
use Rattle.frame_facts.proofs.branches.all_own.Goals as goal

-- a register that holds its own value leaves those after it
one_own : (f : Fact) (reg : ℕ) → reg < 12 → holds_own f reg ≡ true
    → list_all (holds_own f) (numbers_from (12 - (reg + 1)) (reg + 1)) ≡ list_all (holds_own f) (numbers_from (12 - reg) reg)
one_own f reg below own =
    let next : 12 - reg ≡ suc (12 - (reg + 1)) = omega arith in
    rw next (rw own refl)

-- after the last none is left
none_left : (f : Fact) (reg : ℕ) → 12 ≤ reg → list_all (holds_own f) (numbers_from (12 - reg) reg) ≡ true
none_left f reg above =
    let none : 12 - reg ≡ zero = omega arith in
    rw none refl

pub loop-reg-preserved : goal.loop-reg-preserved
loop-reg-preserved c =
    one_own c.args.fact.now c.loop-reg.reg c.loop-reg-test.true
    (ap (is_entry c.loop-reg.reg) (sym c.source.ensures) ∙ sym c.is_entry.ensures ∙ c.if-not-is_entry.false)
    ∙ c.loop-reg.invariant

pub returns : goal.returns
returns c = sym (none_left c.args.fact.now c.loop-reg.reg c.loop-reg-test.false) ∙ c.loop-reg.invariant
