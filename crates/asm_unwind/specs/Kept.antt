-- What a frame keeps of its directives.
use Rattle.std.specs.Prelude.{◌≡◌, ◌≤◌, List, All, MatchOption, ⊤}
use Rattle.eh_codes.specs.declared.words.TheConstants.{MOST_PERSONALITY}
use Rattle.asm_unwind.specs.declared.directive.UnwindDirective.{UnwindDirective}
use Rattle.asm_unwind.specs.declared.seen.DirectiveState.{DirectiveState}
use Rattle.asm_unwind.specs.Refusals.{directive_state_of}
use Rattle.asm_unwind.specs.Codes.{IsWritable}

-- what was seen is what the directives say, each of which has codes
pub record IsKept (directives : List UnwindDirective) (seen : DirectiveState) : Type 0 where
  pub seen_so_far : seen ≡ directive_state_of directives
  pub writable : All IsWritable directives
  pub small_index : MatchOption seen.personality ⊤ (λ index. index ≤ MOST_PERSONALITY)
