use Rattle.std.proofs.Common.{◌≡◌, ℕ, unwrap_or}
use Rattle.eh_desc.specs.Grammar.{type_in}
use Rattle.eh_phase.specs.Verdict.{first_hit}
use Rattle.eh_phase.specs.Calls.{meeting}
use Rattle.eh_phase.proofs.Hits.{hits}
use Rattle.eh_phase.proofs.verdict.first_hit.Given as goal

abbrev pub invariant-loop-i : goal.invariant-loop-i
invariant-loop-i g l =
    let m = meeting l.t.index l.t.types.now (g.B.Bus.memory l.bus).segments l.what in
    let type : ℕ → ℕ = λ i. unwrap_or (type_in l.t.index.segments l.desc.kind i) 0 in
    first_hit (hits m.matched type l.i l.count) ≡ first_hit (hits m.matched type 0 l.count)
