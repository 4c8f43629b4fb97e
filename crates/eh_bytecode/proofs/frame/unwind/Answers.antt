use Rattle.std.proofs.Common.{rules, ◌≡◌, ℕ, ◌∷◌, sym, ap, ◌∙◌, List, arith}
use Rattle.eh_codes.specs.Cut.{Item}
use Rattle.eh_bytecode.specs.Meaning.{unwind_result, unwind_answer}
use Rattle.eh_bytecode.proofs.Saves.{saves_cut, finish_cut}
use Rattle.eh_bytecode.proofs.frame.unwind.Goals as goal

pub returns-then-second : goal.returns-then-second
returns-then-second g c =
    let e1 : c.args.codes.now ≡ c.in-Some.first ∷ c.next.new.self = sym c.copy-left.ensures ∙ c.in-Some.ensures.steps in
    let e2 : c.next.new.self ≡ 0xB0 ∷ c.next-then-first-lt-FINISH.new.self = search rules in
    c.unwind_saves.ensures _
    ∙ ap (λ (items : List Item). unwind_answer c.args.vrs.now (unwind_result (g.B.Bus.memory c.args.bus.now).segments c.args.vrs.now.r items))
    (sym (saves_cut _ _ _ c.in-Some.first _ e1 e2 (omega arith) (omega arith) (omega arith)))

pub returns-then-first : goal.returns-then-first
returns-then-first g c =
    let e1 : c.args.codes.now ≡ 0xB0 ∷ c.next.new.self = sym c.copy-left.ensures ∙ c.in-Some.ensures.steps ∙ ap (λ (b : ℕ). b ∷ c.next.new.self) (search rules) in
    c.unwind_by_finish.ensures _ _
    ∙ ap (λ (items : List Item). unwind_answer c.args.vrs.now (unwind_result (g.B.Bus.memory c.args.bus.now).segments c.args.vrs.now.r items)) (sym (finish_cut _ _ e1))
