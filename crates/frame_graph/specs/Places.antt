-- The places of a function, and what is at each: DDI 0419, and the mapping symbols of "ELF for the Arm Architecture".
use Rattle.std.specs.Prelude.{ℕ, ◌+◌, ◌-◌, ◌*◌, ◌/◌, ◌==◌, ◌&&◌, ◌||◌, nat_le, nat_lt, Bool, if◌then◌else◌, Option, Some, None}
use Rattle.elf_image.specs.Image.{is_code_in}
use Rattle.run_images.specs.Profiles.{profile_of}
use Rattle.frame_code.specs.declared.standing.Standing.{Standing}
use Rattle.frame_code.specs.Standing.{halfword_at, standing_by}
use Rattle.frame_graph.specs.FlowGraph.{FlowGraph}

-- ---- addresses and places

-- code of the function: its entry, and each even address between the entry and the end that the mapping symbols mark as code
abbrev pub is_code_of : FlowGraph → ℕ → Bool
is_code_of s a = nat_le s.start a && nat_lt a s.end && (a == s.start || is_code_in s.image a)

-- the address of a place: the entry is place 0, and each further place is a halfword after the one before it
abbrev pub address_of : FlowGraph → ℕ → ℕ
address_of s place = s.start + 2 * place

-- the place of an address that is code of the function
abbrev pub place_of : FlowGraph → ℕ → Option ℕ
place_of s a = if is_code_of s a then Some ((a - s.start) / 2) else None

-- the place is code of the function
abbrev pub is_place : FlowGraph → ℕ → Bool
is_place s place = is_code_of s (address_of s place)

-- ---- halfwords

-- the halfword at a place that is code of the function
abbrev pub halfword_of : FlowGraph → ℕ → Option ℕ
halfword_of s place = if is_place s place then halfword_at s.image (address_of s place) else None

-- ---- instructions

-- what is at a place of the function, decoded by its image's profile
unfoldable pub standing_at : FlowGraph → ℕ → Standing
standing_at s place = standing_by (profile_of s.image) (halfword_of s place) (halfword_of s (place + 1))
