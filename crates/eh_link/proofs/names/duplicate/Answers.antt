use Rattle.std.proofs.Common.{◌∙◌, ◌-◌, sym, ap, arith}
use Rattle.std.specs.Option.{option_or, option_map}
use Rattle.eh_link.proofs.Steps.{duplicate_step, global_step, mapped_or}
use Rattle.eh_link.proofs.names.duplicate.Goals as goal

pub loop-i-preserved : goal.loop-i-preserved
loop-i-preserved c = (
  ap (option_map (λ name. name.now)) c.or-found.ensures
      ∙ mapped_or (λ name. name.now) c.shared_name.result c.loop-i.found
      ∙ ap (λ o. option_or o (option_map (λ name. name.now) c.loop-i.found)) c.shared_name.ensures
      ∙ ap (option_or _) c.loop-i.invariant.0
      ∙ sym (duplicate_step c.loop-i.names c.args.objects.now (c.loop-i.i - 1) c.loop-i.i c.index-objects-i.result (omega arith) c.index-objects-i.is (omega arith) c.loop-i.invariant.1),
  global_step c.loop-i.names c.add_globals.new.names c.args.objects.now (c.loop-i.i - 1) c.loop-i.i c.index-objects-i.result (omega arith) c.index-objects-i.is (omega arith) c.loop-i.invariant.1 c.in_ok-add_globals.ensures,
)
