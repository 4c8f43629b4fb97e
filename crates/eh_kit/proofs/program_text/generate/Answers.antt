use Rattle.std.proofs.Common.{◌≡◌, ◌∙◌, refl, arith}
use Rattle.eh_kit.specs.Program.{random_number}
use Rattle.eh_kit.proofs.Joined.{before_first, before_next, drawn_more, whole_text}
use Rattle.eh_kit.proofs.program_text.generate.Goals as goal

pub loop-function-init : goal.loop-function-init
unfolding random_number
loop-function-init c = record {
  number_drawn = refl;
  text = before_first _ _ _ _ _ c.new-out.ensures.items c.in_ok-extend_from_slice.ensures.items c.in_ok-push_caller.ensures;
}

pub loop-function-preserved : goal.loop-function-preserved
loop-function-preserved c = record {
  number_drawn = c.next_number-drawn.ensures ∙ drawn_more _ _ _ c.loop-function.invariant.number_drawn;
  text =
      before_next _ _ _ _ _ _ _ _ c.loop-function.invariant.text (c.next_number-drawn.ensures ∙ drawn_more _ _ _ c.loop-function.invariant.number_drawn)
      c.callee_of.ensures c.kind_of.ensures c.in_ok-push_caller-2.ensures;
}

pub returns : goal.returns
returns c =
    let done : c.loop-function.function ≡ c.args.functions = omega arith in
    whole_text _ _ _ _ _ done c.loop-function.invariant.text c.in_ok-extend_from_slice-2.ensures.items
