use Rattle.std.proofs.Common.{◌≤◌, sym, subst, arith}
use Rattle.std.proofs.lemmas.List.{get_or-replicate}
use Rattle.eh_machine.specs.Cached.{IsLine, IsOfRound}
use Rattle.eh_machine.specs.declared.decode_cache.TheConstants.{LINES, FIRST_ROUND}
use Rattle.eh_machine.specs.declared.decode_cache.CacheLine.{CacheLine}
use Rattle.eh_machine.proofs.Confirmed.{empty_is_unkept, empty_is_of_round}
use Rattle.eh_machine.proofs.decode_cache.DecodeCache.new.Goals as goal

pub returns-clause-cache : goal.returns-clause-cache
returns-clause-cache c = λ p. record { lines = λ k d below. subst (λ (line : CacheLine). IsLine p line) (sym (get_or-replicate {A = CacheLine} LINES k c.empty_line.result d below)) (empty_is_unkept p c.empty_line.result c.empty_line.ensures.kept) }

pub returns-clause-confirmed : goal.returns-clause-confirmed
returns-clause-confirmed c = λ m. record {
  begun = omega arith;
  lines = λ k d below. subst (λ (line : CacheLine). IsOfRound FIRST_ROUND m line) (sym (get_or-replicate {A = CacheLine} LINES k c.empty_line.result d below)) (empty_is_of_round m c.empty_line.result c.empty_line.ensures.confirmed);
}

pub returns-clause-counting : goal.returns-clause-counting
returns-clause-counting c = record {
  begun = omega arith;
  lines = λ k d below. subst (λ (line : CacheLine). line.confirmed ≤ FIRST_ROUND) (sym (get_or-replicate {A = CacheLine} LINES k c.empty_line.result d below)) (omega (arith, c.empty_line.ensures.confirmed));
}
