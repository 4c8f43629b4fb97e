-- An accepted image as the checked program that a run sees (docs/rules/machine.md).
use Rattle.frame_check.specs.Accepts.{Accepted}
use Rattle.frame_check.specs.Roles.{look}
use Rattle.frame_check.specs.run_images.Start.{begins_function}
use Rattle.sim_machines.specs.Program.{Program, Role}

-- its image and its types, and what the checker found at each address; a function begins where the image has one
abbrev pub program_of : Accepted → Program
program_of a = record {
  image = a.image;
  types = a.types;
  look = λ x. record {
    is_instr = (look a.roles x).is_instr;
    lowers = (look a.roles x).lowers;
    is_function = begins_function a.image.functions x;
    saves = (look a.roles x).saves;
  };
}
