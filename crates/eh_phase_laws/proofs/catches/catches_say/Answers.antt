use Rattle.eh_phase_laws.proofs.Heard.{everything_stops, everything_fails, types_stop}
use Rattle.eh_phase_laws.proofs.catches.catches_say.Goals as goal

pub returns : goal.returns
returns c = record { all = everything_stops; fails = everything_fails; types = types_stop }
