-- The limits of the command line and the statuses, in digits (docs/guide/command-line.md).
use Rattle.std.specs.Prelude.{◌≡◌}
use Rattle.cmd_input.specs.declared.sources.TheConstants as cmd_input-sources
use Rattle.cmd_input.specs.declared.words.TheConstants as cmd_input-words
use Rattle.cmd_answers.specs.declared.status.TheConstants as cmd_answers-status
use Rattle.cmd_perform.specs.declared.walk.TheConstants as cmd_perform-walk
use Rattle.eh_walk.specs.declared.reach.TheConstants as eh_walk-reach

-- the numbers that the definitions of cmd_answers, cmd_input, cmd_perform and eh_walk cite
pub record CommandNumbers : Type 0 where
  pub file_limit : cmd_input-sources.FILE_LIMIT ≡ 4194304
  pub most_instructions : cmd_input-words.MOST_INSTRUCTIONS ≡ 1000000000
  pub most_sources : cmd_input-words.MOST_SOURCES ≡ 16
  pub most_digits : cmd_input-words.MOST_DIGITS ≡ 10
  pub most_number : cmd_input-words.MOST_NUMBER ≡ 4294967295
  pub most_function_digits : cmd_input-words.MOST_FUNCTION_DIGITS ≡ 4
  pub most_frame_digits : cmd_input-words.MOST_FRAME_DIGITS ≡ 4
  pub most_frames : cmd_perform-walk.MOST_FRAMES ≡ 65536
  pub most_further : eh_walk-reach.MOST_FURTHER ≡ 1000000
  pub done : cmd_answers-status.DONE ≡ 0
  pub exit_nonzero : cmd_answers-status.EXIT_NONZERO ≡ 1
  pub usage : cmd_answers-status.USAGE ≡ 2
  pub refused : cmd_answers-status.REFUSED ≡ 3
  pub terminated : cmd_answers-status.TERMINATED ≡ 4
  pub trapped : cmd_answers-status.TRAPPED ≡ 5
  pub budget_spent : cmd_answers-status.BUDGET_SPENT ≡ 6
  pub read_failed : cmd_answers-status.READ_FAILED ≡ 7
  pub write_failed : cmd_answers-status.WRITE_FAILED ≡ 8
  pub no_memory : cmd_answers-status.NO_MEMORY ≡ 9
  pub file_unavailable : cmd_answers-status.FILE_UNAVAILABLE ≡ 10
