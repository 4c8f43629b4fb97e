-- The end of a cleanup, whole.
use Rattle.sim_machines.specs.Checked.{program_of}
use Rattle.sim_machines.specs.Program.{program_tables}
use Rattle.sim_resumes.specs.EndEvents.{EndsMatch}
use Rattle.sim_resumes.proofs.ResumeKeeps.{resume_keeps}
use Rattle.sim_resumes.proofs.ResumeMatches.{resume_matches, resume_goes_on}

pub ends_match : EndsMatch
ends_match x s next imm is k does = record {
  same = resume_matches x is s k (program_tables (program_of x)) imm does next;
  keeps = resume_keeps x is s k imm does (program_tables (program_of x)) next;
  lands = resume_goes_on x is s k (program_tables (program_of x)) imm does next;
}
