-- Linking and generated programs (docs/rules/linking.md, docs/guide/command-line.md).
use Rattle.std.specs.Prelude.{◌≡◌}
use Rattle.eh_link.specs.declared.places.TheConstants as eh_link-places
use Rattle.eh_kit.specs.declared.program.TheConstants as eh_kit-program
use Rattle.eh_kit.specs.declared.program_text.TheConstants as eh_kit-program_text

-- the numbers that the definitions of eh_link cite
pub record LinkNumbers : Type 0 where
  pub code_start : eh_link-places.CODE_START ≡ 0x8000
  pub page : eh_link-places.PAGE ≡ 4096
  pub most_memory : eh_link-places.MOST_MEMORY ≡ 1048576
  pub reach : eh_link-places.REACH ≡ 0x400000

-- the numbers that the definitions of eh_kit cite
pub record GeneratorNumbers : Type 0 where
  pub multiplier : eh_kit-program.MULTIPLIER ≡ 1103515245
  pub increment : eh_kit-program.INCREMENT ≡ 12345
  pub max_functions : eh_kit-program_text.MAX_FUNCTIONS ≡ 4000
