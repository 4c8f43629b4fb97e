-- Decodes bytes into unwinding instructions, one by one (IHI 0038, "Frame unwinding instructions").
use Rattle.std.specs.Prelude.{ℕ, zero, suc, ◌+◌, ◌-◌, List, [], ◌∷◌}
use Rattle.std.specs.Option.{option_map_or}
use Rattle.eh_codes.specs.declared.code.UnwindCode.{UnwindCode}
use Rattle.eh_codes.specs.Table.{code_front}

-- an instruction, or the place of bytes that begin none
pub data Item : Type 0 where
  Is : (code : UnwindCode) → Item
  Bad : (place : ℕ) → Item

-- the codes of bytes from a place on, of which the first ones still belong to the code in front of them. Bytes that begin no
-- code are the last item.
abbrev pub split_codes_after : ℕ → ℕ → List ℕ → List Item
split_codes_after within place [] = []
split_codes_after (suc within) place (byte ∷ more) = split_codes_after within (place + 1) more
split_codes_after zero place (first ∷ more) =
    option_map_or (λ found. Is found.0 ∷ split_codes_after (found.1 - 1) (place + 1) more) (code_front first more) (Bad place ∷ [])

-- the instructions of bytes, the first of which is at a place
unfoldable pub split_codes_from : ℕ → List ℕ → List Item
split_codes_from place bytes = split_codes_after 0 place bytes

-- the instructions of bytes, with places counted from the first byte
abbrev pub split_codes : List ℕ → List Item
split_codes bytes = split_codes_from 0 bytes
