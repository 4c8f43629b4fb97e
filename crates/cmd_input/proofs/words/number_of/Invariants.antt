use Rattle.std.proofs.Common.{◌≡◌, ◌<◌, ◌^◌, drop}
use Rattle.cmd_input.specs.Words.{digits_from}
use Rattle.cmd_input.proofs.words.number_of.Given as goal

-- the number so far, and the digits that are left
abbrev pub invariant-loop-digit : goal.invariant-loop-digit
invariant-loop-digit l = record {
  sofar : digits_from 0 l.digits ≡ digits_from l.number (drop l.digit-index l.digits);
  small : l.number < 10 ^ l.digit-index;
}
