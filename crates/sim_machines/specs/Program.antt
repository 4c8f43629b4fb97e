-- A checked program as a run sees it (docs/rules/machine.md): its image, whose index is accepted, its types, and what the checker found at each
-- address.
use Rattle.std.specs.Prelude.{ℕ, Bool, List}
use Rattle.elf_image.specs.Image.{Image}
use Rattle.eh_types.specs.Graph.{Row}
use Rattle.thumb_isa.specs.declared.profile.Profile.{Profile}
use Rattle.frame_check.specs.run_images.Profiles.{profile_of}
use Rattle.eh_gates.specs.State.{Tables, tables_of}

-- What the checker found at an address: whether it reached an instruction, whether it is a lowering place, whether a function begins there,
-- and which words of the push there are saves, as bits.
pub record Role : Type 0 where
  pub is_instr : Bool
  pub lowers : Bool
  pub is_function : Bool
  pub saves : ℕ

pub record Program : Type 0 where
  pub image : Image
  pub types : List Row
  pub look : ℕ → Role

-- the profile by whose rows its instructions are decoded
abbrev pub profile_in : Program → Profile
profile_in p = profile_of p.image

abbrev pub program_tables : Program → Tables
program_tables p = tables_of p.image p.types
