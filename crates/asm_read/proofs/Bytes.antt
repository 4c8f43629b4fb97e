-- The table of the bytes that a name may have, and marks by their byte.
use Rattle.std.proofs.Common.{◌≡◌, ℕ, ◌<◌, false, map, get_or, refl, ap, sym, ◌∙◌, arith}
use Rattle.std.specs.List.{range_with_len}
use Rattle.std.proofs.lemmas.List.FromFn.{get_or-map-range_with_len}
use Rattle.asm_read.specs.declared.token.TheConstants.{NAME_BYTES}
use Rattle.asm_read.specs.Tokens.{is_name_byte}

-- the table has what is said of each byte
whole : map is_name_byte (range_with_len 0 256) ≡ NAME_BYTES
whole = refl

pub name_byte : (b : ℕ) → b < 256 → get_or NAME_BYTES b false ≡ is_name_byte b
name_byte b small = ap (λ bytes. get_or bytes b false) (sym whole) ∙ get_or-map-range_with_len is_name_byte 0 256 b b false small (omega arith)
